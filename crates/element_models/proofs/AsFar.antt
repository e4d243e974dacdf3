-- The servers in memory are those of the elements of a life, and so are their changes.
use Rattle.std.proofs.Common.{◌↔◌, ℕ, ◌<◌, List, map, sym, subst, arith}
use Rattle.std.specs.Prelude.{All}
use Rattle.std.specs.List.{range_with_len}
use Rattle.std.proofs.lemmas.List.Elements.{All-from_get_or, All-get_or}
use Rattle.std.proofs.lemmas.List.FromFn.{get_or-map-range_with_len, length-map-range_with_len}
use Rattle.element_models.specs.Ends.{AreAsFar, StayAsFar}
use Rattle.element_models.specs.Models.{AreModelsOf, servers_of}
use Rattle.element_models.specs.declared.servers.Servers.{Servers}
use Rattle.event_definitions.specs.Answers.{config_before}
use Rattle.event_definitions.specs.History.{Past}

-- a fact of each place is one of all of them
pub each_place : {A : Type 0} (Holds : A → Type 0) (at : ℕ → A) (n : ℕ) → ((i : ℕ) → i < n → Holds (at i)) ↔ All Holds (map at (range_with_len 0 n))
each_place Holds at n = (
  λ each. All-from_get_or Holds (map at (range_with_len 0 n)) (at 0) (λ i l.
      let within : i < n = omega (arith, l, length-map-range_with_len at 0 n) in
      subst Holds (sym (get_or-map-range_with_len at 0 n i i (at 0) within (omega arith))) (each i within)),
  λ all i l. subst Holds (get_or-map-range_with_len at 0 n i i (at 0) l (omega arith))
      (All-get_or Holds (map at (range_with_len 0 n)) i (at 0) (omega (arith, l, length-map-range_with_len at 0 n)) all),
)

pub stay_where : (servers : List Servers) (past : Past) (now later : ℕ) → AreModelsOf servers past
    → StayAsFar past now later ↔ All (AreAsFar now later) servers
stay_where servers past now later are =
    let each = each_place (AreAsFar now later) (servers_of past) (config_before past).elements in
    (λ h. subst (All (AreAsFar now later)) (sym are.states) (each.0 h), λ all. each.1 (subst (All (AreAsFar now later)) are.states all))
