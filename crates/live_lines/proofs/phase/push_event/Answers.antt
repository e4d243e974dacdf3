use Rattle.std.proofs.Common.{◌≡◌, ℕ, ◌<◌, ap, arith, sym, ◌∙◌, List, ◌++◌, [], ◌∷◌, get_or, set, map, length, Vec, Global}
use Rattle.std.proofs.lemmas.List.{get_or-map, map-set}
use Rattle.mesh_types.specs.declared.events.Event.{Event}
use Rattle.live_lines.proofs.phase.push_event.Goals as goal

abbrev items_of : Vec Event Global → List Event
items_of v = v.items

pushed : (lists : List (Vec Event Global)) (i k : ℕ) (old new : Vec Event Global) (event : Event) → i ≡ k → i < length lists
    → old ≡ get_or lists i old → new.items ≡ old.items ++ event ∷ []
    → map items_of (set lists i new) ≡ set (map items_of lists) k (get_or (map items_of lists) k [] ++ event ∷ [])
pushed lists i k old new event place within read is =
    let stood : get_or (map items_of lists) i [] ≡ old.items = get_or-map items_of lists i old [] within ∙ ap items_of (sym read) in
    map-set items_of lists i new
    ∙ ap (λ (l : List Event). set (map items_of lists) i l) (is ∙ ap (λ (l : List Event). l ++ event ∷ []) (sym stood))
    ∙ ap (λ (j : ℕ). set (map items_of lists) j (get_or (map items_of lists) j [] ++ event ∷ [])) place

pub returns-in_ok-push : goal.returns-in_ok-push
returns-in_ok-push c = record {
  ok =
      pushed c.args.lists.now.items c.from-at.result c.args.happening.bearer c.index_mut-list.result.now c.push.new.self c.args.happening.event
      c.from-at.ensures (omega arith) c.index_mut-list.ensures.value
      (c.in_ok-push.ensures.items ∙ ap (λ (l : List Event). l ++ c.args.happening.event ∷ []) c.reserve_exact.ensures.items);
}
