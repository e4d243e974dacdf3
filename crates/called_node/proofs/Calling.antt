-- A phase of a life, and what it leaves.
use mathlib.Core.Logic.{∥∥₁_elim, ∥∥₁_map}
use Rattle.std.proofs.Common.{◌≡◌, ◌∙◌, ℕ, ◌+◌, ◌<◌, ◌≤◌, List, [], ◌∷◌, ◌++◌, length, Vec, Global, Option, Some, map, sym, ap, subst, arith}
use Rattle.std.proofs.Props.{props}
use Rattle.std.proofs.lemmas.List.{length-map}
use Rattle.std.proofs.lemmas.List.Elements.{All-map}
use Rattle.std.specs.Prelude.{All}
use Rattle.event_definitions.specs.Role.{Role}
use Rattle.file_flash.specs.Handed.{IsHandedOut}
use Rattle.file_flash.specs.Noted.{AreFronts, AreOnChip, Put, octets_given, put_of, written}
use Rattle.file_flash.specs.declared.noted.Write.{Write}
use Rattle.file_flash.proofs.Fronts.{fronts_in}
use Rattle.flash_model.specs.Chip.{Chip, Setting}
use Rattle.mesh_node.specs.Held.{HasLived, HeldView}
use Rattle.mesh_node.specs.Told.{IsPartDone, IsPrintablePhase, PhaseDid}
use Rattle.mesh_types.specs.declared.events.Event.{Event}
use Rattle.node_bearer.specs.Did.{AreEvents}
use Rattle.called_node.specs.Called.{HasStory, IsPhaseDone, NoneCounted, Story, text_of}

printable_prop : (did : PhaseDid) → IsProp (IsPrintablePhase did)
printable_prop did = Prim.hlevel props

-- the events of the one bearer
pub events_of_one : (elements : ℕ) (lists : List (Vec Event Global)) (events : List Event) → All (λ v. AreEvents elements v.items) lists
    → map (λ v. v.items) lists ≡ events ∷ [] → AreEvents elements events
events_of_one elements lists events fits is = subst (All (AreEvents elements)) is (All-map (AreEvents elements) (λ v. v.items) lists fits) 0 [] (omega (arith))

-- so few writes, as what they put
pub few_puts : (writes : List Write) (called n : ℕ) → (n < 4294967295 → called + length writes ≤ n) → n < 4294967295 → called + length (map put_of writes) ≤ n
few_puts writes called n few less = omega (arith, few less, length-map writes put_of)

-- where writes were handed out, what was counted is what had been counted then
pub none_counted : {F : Type 0} (chip : F → Chip) (old new : HeldView F) → IsHandedOut (chip old.node.flash) (chip new.node.flash) → NoneCounted chip new
none_counted chip old new handed = (ap (λ (s : Setting). s.called) handed.setting ∙ sym handed.changes, ap (λ (s : Setting). s.programmed) handed.setting ∙ sym handed.octets)

-- and the next writes begin then
pub moment_now : (old new : Chip) → IsHandedOut old new → new.setting.moment ≡ new.moment
moment_now old new handed = ap (λ (s : Setting). s.moment) handed.setting ∙ sym handed.moment

-- what a cut might have left, it might still have left
pub fronts_handed : (puts : List Put) (saved : List ℕ) (t : ℕ) (old new : Chip) → IsHandedOut old new → AreFronts puts saved (old.since t) → AreFronts puts saved (new.since t)
fronts_handed puts saved t old new handed = fronts_in puts saved (old.since t) (new.since t) (handed.keeps t)

module _ {F : Type 0} (role : Role) (image : List ℕ → Type 0) (chip : F → Chip) where
  -- what is told of a phase can be printed, whatever was told before
  pub printed : (old : HeldView F) (did : PhaseDid) → HasStory role image chip old
      → ((phases : List (List (List Event))) (told : List PhaseDid) → HasLived role image chip old phases told → IsPrintablePhase did) → IsPrintablePhase did
  printed old did story room = ∥∥₁_elim story (printable_prop did) (λ s. room s.phases s.did s.lived)

  -- what holds behind a phase, before its writes are taken, and once they were
  pub record IsBehind (events : List (List Event)) (old mid new : HeldView F) (did : PhaseDid) (puts : List Put) : Type 0 where
    pub part : IsPartDone mid.node.machine.closed events did
    pub held : (phases : List (List (List Event))) (told : List PhaseDid) → HasLived role image chip old phases told
        → HasLived role image chip mid (phases ++ events ∷ []) (told ++ did ∷ [])
    pub saved : (chip mid.node.flash).setting.saved ≡ (chip old.node.flash).setting.saved
    pub called : (chip mid.node.flash).setting.called ≡ (chip old.node.flash).setting.called
    pub programmed : (chip mid.node.flash).setting.programmed ≡ (chip old.node.flash).setting.programmed
    pub moment : (chip mid.node.flash).setting.moment ≡ (chip old.node.flash).setting.moment
    pub writes : written puts (chip mid.node.flash).setting.saved ≡ (chip mid.node.flash).now
    pub on_chip : AreOnChip puts (chip mid.node.flash).setting.saved
    pub fronts : AreFronts puts (chip mid.node.flash).setting.saved ((chip mid.node.flash).since (chip mid.node.flash).setting.moment)
    pub few : (chip mid.node.flash).changes < 4294967295
        → (chip mid.node.flash).setting.called + length puts ≤ (chip mid.node.flash).changes
    pub lean : (chip mid.node.flash).octets < 4294967295
        → (chip mid.node.flash).setting.programmed + octets_given puts ≤ (chip mid.node.flash).octets
    pub handed : IsHandedOut (chip mid.node.flash) (chip new.node.flash)
    pub frame : new ≡ record mid { node = record mid.node { flash = new.node.flash } }
    pub stays : (phases : List (List (List Event))) (told : List PhaseDid) → HasLived role image chip mid phases told
        → HasLived role image chip new phases told

  module _ {events : List (List Event)} {old mid new : HeldView F} {did : PhaseDid} {puts : List Put} (b : IsBehind events old mid new did puts) where
    more : Story role image chip old → Story role image chip new
    more s = record {
      phases = s.phases ++ events ∷ [];
      did = s.did ++ did ∷ [];
      lived = b.stays (s.phases ++ events ∷ []) (s.did ++ did ∷ []) (b.held s.phases s.did s.lived);
    }

    pub story_more : HasStory role image chip old → HasStory role image chip new
    story_more story = ∥∥₁_map story more

    few_more : NoneCounted chip old → (chip new.node.flash).changes < 4294967295
        → (chip old.node.flash).changes + length puts ≤ (chip new.node.flash).changes
    few_more counted less = omega (arith, b.few (omega (arith, b.handed.changes, less)), b.called, counted.0, b.handed.changes)

    lean_more : NoneCounted chip old → (chip new.node.flash).octets < 4294967295
        → (chip old.node.flash).octets + octets_given puts ≤ (chip new.node.flash).octets
    lean_more counted less = omega (arith, b.lean (omega (arith, b.handed.octets, less)), b.programmed, counted.1, b.handed.octets)

    pub phase_done : (waiting : F → Option (List Put)) (text : List ℕ) → NoneCounted chip old → Some puts ≡ waiting mid.node.flash → waiting new.node.flash ≡ Some []
        → text ≡ text_of did → IsPhaseDone role image chip waiting events old new puts text
    phase_done waiting text counted noted none is = record {
      did = did;
      part = subst (λ (c : _). IsPartDone c events did) (sym (ap (λ (h : HeldView F). h.node.machine.closed) b.frame)) b.part;
      lived = λ phases told h. b.stays (phases ++ events ∷ []) (told ++ did ∷ []) (b.held phases told h);
      text_is = is;
      writes_are = ap (written puts) (sym b.saved) ∙ b.writes ∙ sym b.handed.now;
      saved = ap (λ s. s.saved) b.handed.setting ∙ sym b.handed.now;
      on_chip = subst (AreOnChip puts) b.saved b.on_chip;
      fronts = fronts_handed puts _ _ (chip mid.node.flash) (chip new.node.flash) b.handed
          (subst (λ (t : ℕ). AreFronts puts (chip old.node.flash).setting.saved ((chip mid.node.flash).since t)) b.moment
          (subst (λ (l : List ℕ). AreFronts puts l ((chip mid.node.flash).since (chip mid.node.flash).setting.moment)) b.saved b.fronts));
      moment = moment_now (chip mid.node.flash) (chip new.node.flash) b.handed;
      few = few_more counted;
      lean = lean_more counted;
      counted = none_counted chip mid new b.handed;
      taken_from = mid;
      frame = b.frame;
      handed = b.handed;
      noted = noted;
      none = none;
    }
