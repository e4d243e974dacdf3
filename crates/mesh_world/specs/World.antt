-- The world of steps: what a node has of its numbers, its seals and its messages, and the nine steps that change it.
-- It knows nothing of threads, of flash or of any code.
use Rattle.std.specs.Prelude.{◌≡◌, ℕ, ◌+◌, ◌*◌, ◌^◌, ◌<◌, ◌≤◌, ◌⊎◌, ◌==◌, max, if◌then◌else◌, List, [], ◌∷◌, ◌++◌, map, All, Contains, Option, Some, None, IfSome, IsSomeAnd, IsTrue, ⊤}
use Rattle.layer_definitions.specs.Network.{network_nonce}
use Rattle.layer_definitions.specs.Upper.{upper_nonce}
use Rattle.mesh_base.specs.declared.address.Address.{Address}
use Rattle.mesh_base.specs.declared.fields.NetFields.{NetFields}
use Rattle.mesh_base.specs.declared.keys.UpperKey.{UpperKey}
use Rattle.mesh_base.specs.declared.pair.Name.{Name}
use Rattle.mesh_base.specs.declared.pair.Pair.{Pair}
use Rattle.mesh_base.specs.declared.upper.UpperFields.{UpperFields}
use Rattle.mesh_base.specs.Pairs.{pair_of, IsPair, is_newer, is_expired}
use Rattle.mesh_base.specs.Safety.{Use}

-- which layer seals: the network layer under a network nonce, or the upper transport layer under an application or a
-- device nonce
pub data Layer : Type 0 where
  Network : Layer
  Upper : Layer

-- a seal of this layer, for which this pair was drawn
pub record Sealing : Type 0 where
  pub layer : Layer
  pub pair : Pair
  pub made : Use

-- the nonce is one of the layer with this pair, whatever the other fields are (Mesh Profile 1.0.1, sections 3.8.5.1
-- to 3.8.5.3)
abbrev pub HasNonce : Layer → Pair → List ℕ → Type 0
HasNonce Network p nonce = (f : NetFields) × (f.iv ≡ p.iv) × (f.seq ≡ p.seq) × (nonce ≡ network_nonce f)
HasNonce Upper p nonce = (key : UpperKey) × (f : UpperFields) × (f.pair ≡ p) × (nonce ≡ upper_nonce key f)

pub record World : Type 0 where
  -- the word of the next pair to be drawn
  pub next : ℕ
  -- the mark: the word below which pairs are drawn
  pub mark : ℕ
  -- the durable mark: the word from which the node goes on after a power cut
  pub kept : ℕ
  -- the pairs drawn ever, and those drawn since power came on
  pub drawn : List Pair
  pub held : List Pair
  -- the seals made ever
  pub seals : List Sealing
  -- the known IV Index
  pub current : ℕ
  -- the replay list: the entry of each source that has one
  pub entry : Address → Option Pair
  -- the message that was accepted and not yet delivered, if there is one
  pub pending : Option Name
  -- the messages delivered ever
  pub delivered : List Name

-- the uses of keys and nonces by all seals
abbrev pub uses : World → List Use
uses w = map (λ s. s.made) w.seals

pub data WorldStep : Type 0 where
  -- the next pair is drawn
  Draw : WorldStep
  -- a seal is made
  Seal : (sealing : Sealing) → WorldStep
  -- a known IV Index and a mark become durable
  Reserve : (current mark : ℕ) → WorldStep
  -- the mark rises
  Publish : (mark : ℕ) → WorldStep
  -- drawing goes on under this IV Index
  Advance : (iv : ℕ) → WorldStep
  -- a message is accepted: its pair is durable as the entry of its source
  Accept : (name : Name) → WorldStep
  -- the expired entry of this source goes
  Expire : (src : Address) → WorldStep
  -- the accepted message is delivered
  Deliver : (name : Name) → WorldStep
  -- power is cut and comes back, over a flash that has this durable mark
  Cut : (mark : ℕ) → WorldStep

-- the seal is of this layer and has this pair
abbrev pub IsOf : Layer → Pair → Sealing → Type 0
IsOf layer p s = (s.layer ≡ layer) × (s.pair ≡ p)

-- no seal of this layer has this pair
abbrev pub IsUnused : Layer → Pair → List Sealing → Type 0
IsUnused layer p seals = All (λ s. IsOf layer p s → ⊥) seals

-- a PDU with this pair is read: its IV Index is the known one or the one before
abbrev pub IsRead : World → Pair → Type 0
IsRead w p = (p.iv ≡ w.current) ⊎ (p.iv + 1 ≡ w.current)

-- p is newer than q
abbrev pub IsNewer : Pair → Pair → Type 0
IsNewer p q = IsTrue (is_newer p q)

-- a pair is expired under the known IV Index `current`
abbrev pub IsExpired : ℕ → Pair → Type 0
IsExpired current p = IsTrue (is_expired current p)

-- the source has no entry, an expired one, or one that this name is above
abbrev pub IsAboveEntry : World → Name → Type 0
IsAboveEntry w name = IfSome (w.entry name.src) (λ kept. IsExpired w.current kept ⊎ IsNewer name.pair kept)

-- the step may be taken in this world
abbrev pub IsAllowed : World → WorldStep → Type 0
IsAllowed w Draw = (w.next < w.mark) × IsPair (pair_of w.next)
IsAllowed w (Seal s) = Contains w.held s.pair × IsUnused s.layer s.pair w.seals × HasNonce s.layer s.pair s.made.nonce
IsAllowed w (Reserve current mark) = (w.current ≤ current) × (w.kept ≤ mark)
IsAllowed w (Publish mark) = (w.mark ≤ mark) × (mark ≤ w.kept)
IsAllowed w (Advance iv) = iv * 2 ^ 25 ≤ w.mark
IsAllowed w (Accept name) = IsRead w name.pair × IsAboveEntry w name
IsAllowed w (Expire src) = IsSomeAnd (w.entry src) (λ kept. IsExpired w.current kept)
IsAllowed w (Deliver name) = w.pending ≡ Some name
IsAllowed w (Cut mark) = w.kept ≤ mark

-- the entries with this one for this source
abbrev pub entries_with : (Address → Option Pair) → Address → Option Pair → Address → Option Pair
entries_with entry src e other = if other.0 == src.0 then e else entry other

-- the world after the step
abbrev pub after : World → WorldStep → World
after w Draw =
    record w { next = w.next + 1; drawn = w.drawn ++ pair_of w.next ∷ []; held = w.held ++ pair_of w.next ∷ [] }
after w (Seal s) = record w { seals = w.seals ++ s ∷ [] }
after w (Reserve current mark) = record w { current = current; kept = mark }
after w (Publish mark) = record w { mark = mark }
after w (Advance iv) = record w { next = max w.next (iv * 2 ^ 25) }
after w (Accept name) = record w { entry = entries_with w.entry name.src (Some name.pair); pending = Some name }
after w (Expire src) = record w { entry = entries_with w.entry src None }
after w (Deliver name) = record w { pending = None; delivered = w.delivered ++ name ∷ [] }
after w (Cut mark) = record w { next = mark; mark = mark; kept = mark; held = []; pending = None }

-- each of the steps may be taken where it stands
abbrev pub AreAllowed : World → List WorldStep → Type 0
AreAllowed w [] = ⊤
AreAllowed w (s ∷ steps) = IsAllowed w s × AreAllowed (after w s) steps

-- the world after all of the steps
abbrev pub after_all : World → List WorldStep → World
after_all w [] = w
after_all w (s ∷ steps) = after_all (after w s) steps

-- The world after provisioning, with the known IV Index `current` and the IV Index `transmit` to send with. The next
-- pair is the first one of the IV Index to send with; nothing is reserved, drawn, sealed, accepted or delivered yet.
abbrev pub provisioned : ℕ → ℕ → World
provisioned current transmit = record {
  next = transmit * 2 ^ 25;
  mark = transmit * 2 ^ 25;
  kept = transmit * 2 ^ 25;
  drawn = [];
  held = [];
  seals = [];
  current = current;
  entry = λ src. None;
  pending = None;
  delivered = [];
}
