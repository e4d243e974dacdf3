-- Each Status has an octet, and so has each reply.
use Rattle.std.proofs.Common.{◌≡◌, ℕ, ◌+◌, ◌≤◌, Bool, true, false, cond, List, [], ◌∷◌, length, arith, refl, Option, Some, None}
use Rattle.std.specs.Prelude.{All, IfSome}
use Rattle.std.proofs.lemmas.List.Elements.{All-append, All-cons, All-nil}
use Rattle.element_models.specs.Messages.{HasOctet}
use Rattle.element_models.specs.Places.{flat_from}
use Rattle.element_models.specs.Stepping.{all_replied, level_replied, onoff_replied, placed, servers_replied}
use Rattle.element_models.specs.declared.servers.Servers.{Servers}
use Rattle.mesh_base.specs.declared.address.Address.{Address}
use Rattle.model_states.specs.Level.{level_asks, level_message, level_reply, level_status, level_taken}
use Rattle.model_states.specs.OnOff.{onoff_asks, onoff_message, onoff_reply, onoff_status, onoff_taken}
use Rattle.model_states.specs.declared.models.LevelState.{LevelState}
use Rattle.model_states.specs.declared.models.OnOffState.{OnOffState}
use Rattle.node_layers.specs.Models.{level_server, onoff_server, takes}
use Rattle.event_definitions.specs.Layers.{AccessMessage}
use Rattle.store_definitions.specs.Config.{Config}

abbrev pub IsFilled : List ℕ → Type 0
IsFilled payload = 1 ≤ length payload

pub onoff_filled : (s : OnOffState) (now : ℕ) → IsFilled (onoff_status s now)
onoff_filled s now = omega arith

pub level_filled : (s : LevelState) (now : ℕ) → IsFilled (level_status s now)
level_filled s now = omega arith

-- A reply of one server.

asked : (b : Bool) (payload : List ℕ) → IsFilled payload → IfSome (cond b (Some payload) None) IsFilled
asked true payload h = h
asked false payload h = tt

option_cases : {M : Type 0} (G : Type 0) (o : Option M) → (o ≡ None → G) → ((m : M) → o ≡ Some m → G) → G
option_cases G None h k = h refl
option_cases G (Some m) h k = k m refl

pub onoff_replies : (s : OnOffState) (now : ℕ) (src dst : Address) (payload : List ℕ)
    → IfSome (onoff_reply s now src dst payload) IsFilled
onoff_replies s now src dst payload =
    option_cases _ (onoff_message payload) (λ e. rw e tt)
    (λ m e. let t : OnOffState = onoff_taken s now src dst m in rw e (asked (onoff_asks m) (onoff_status t now) (onoff_filled t now)))

pub level_replies : (s : LevelState) (now : ℕ) (src dst : Address) (payload : List ℕ)
    → IfSome (level_reply s now src dst payload) IsFilled
level_replies s now src dst payload =
    option_cases _ (level_message payload) (λ e. rw e tt)
    (λ m e. let t : LevelState = level_taken s now src dst m in rw e (asked (level_asks m) (level_status t now) (level_filled t now)))

pub taken : (b : Bool) (o : Option (List ℕ)) → IfSome o IsFilled → IfSome (cond b o None) IsFilled
taken true o h = h
taken false o h = tt

-- The replies of all elements.

placed_filled : (element : ℕ) (o : Option (List ℕ)) → IfSome o IsFilled → All HasOctet (placed element o)
placed_filled element None h = All-nil HasOctet
placed_filled element (Some payload) h = All-cons HasOctet (element, payload) [] h (All-nil HasOctet)

module _ (c : Config) (now : ℕ) (m : AccessMessage) where
  one_filled : (element : ℕ) (s : Servers) → All HasOctet (servers_replied c now m element s)
  one_filled element s =
      let onoff = onoff_replied c now m element s.onoff in
      let level = level_replied c now m element s.level in
      All-append HasOctet (placed element onoff) (placed element level)
      (placed_filled element onoff
      (taken (takes c element onoff_server m) _ (onoff_replies s.onoff now m.name.src m.dst m.payload)))
      (placed_filled element level
      (taken (takes c element level_server m) _ (level_replies s.level now m.name.src m.dst m.payload)))

  flat_filled : (place : ℕ) (servers : List Servers) → All HasOctet (flat_from (servers_replied c now m) place servers)
  flat_filled place [] = All-nil HasOctet
  flat_filled place (s ∷ servers) =
      All-append HasOctet (servers_replied c now m place s) (flat_from (servers_replied c now m) (place + 1) servers)
      (one_filled place s) (flat_filled (place + 1) servers)

  pub all_filled : (servers : List Servers) → All HasOctet (all_replied c now m servers)
  all_filled servers = flat_filled 0 servers
