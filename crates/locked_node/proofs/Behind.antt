-- The refills behind the entries that were taken: an entry more has them before it, and where there is one already they are told.
use Rattle.std.proofs.Common.{◌≡◌, ◌∙◌, ◌≤◌, ℕ, zero, suc, true, Bool, List, [], ◌∷◌, ◌++◌, length, Option, Some, refl, sym, ap, subst, arith}
use Rattle.std.specs.Prelude.{slice_get}
use Rattle.std.specs.Option.{option_map_or}
use Rattle.flash_model.specs.Chip.{Chip}
use Rattle.mesh_types.specs.declared.events.Event.{Event}
use Rattle.mesh_types.specs.declared.history.Entry.{Entry}
use Rattle.machine_contract.specs.declared.answers.Hand.{Hand}
use Rattle.machine_contract.specs.declared.answers.Hand.TheVariants as H
use Rattle.machine_contract.specs.View.{MachineView, with_entry}
use Rattle.locked_node.specs.declared.marks.Behind.{Behind}
use Rattle.locked_node.specs.declared.marks.Mark.TheVariants as M
use Rattle.locked_node.specs.Asked.{WasAsked}
use Rattle.locked_node.specs.Node.{NodeView, fills_by, handled_marks, marks_of, node_marks, origin_of, refills_behind, rest_words}

-- what is told where there is a next entry, else this
abbrev before_next : List Entry → ℕ → Option ℕ → Option ℕ
before_next es n else_this = option_map_or (λ e. Some e.fills) (slice_get es n) else_this

next_more : (es : List Entry) (n : ℕ) (e : Entry) (last : Option ℕ) → n ≤ length es → before_next (es ++ e ∷ []) n last ≡ before_next es n (Some e.fills)
next_more [] zero e last le = refl
next_more [] (suc n) e last le = absurd (omega (arith, le))
next_more (x ∷ es) zero e last le = refl
next_more (x ∷ es) (suc n) e last le = next_more es n e last (omega (arith, le))

-- an entry more, with the refills before it
pub behind_entry : (m : MachineView) (e : Entry) (move mark : ℕ) → m.taken ≤ length m.entries → m.hand ≡ H.Nothing → e.fills ≡ m.fills → refills_behind (with_entry m e move mark) ≡ refills_behind m
behind_entry m e move mark le idle is =
    next_more m.entries m.taken e (fills_by 0 m.hand) le ∙ ap (before_next m.entries m.taken) (ap Some is ∙ ap (fills_by m.fills) (sym idle))

next_there : (es : List Entry) (moves counters : List ℕ) (at : ℕ) (e : Entry) (behind : Behind) → slice_get (handled_marks es moves counters ++ []) at ≡ Some (M.Handled e behind)
    → (n : ℕ) → n ≤ at → (a b : Option ℕ) → before_next es n a ≡ before_next es n b
next_there [] moves counters at e behind is n le a b = cc
next_there (x ∷ es) moves counters at e behind is zero le a b = refl
next_there (x ∷ es) moves counters zero e behind is (suc n) le a b = absurd (omega (arith, le))
next_there (x ∷ es) moves counters (suc at) e behind is (suc n) le a b = next_there es (rest_words moves) (rest_words counters) at e behind is n (omega (arith, le)) a b

-- a refill more, or one in hand, behind an entry that wasn't taken
pub behind_asked : (old new : MachineView) (counters : List ℕ) (stops : ℕ) → stops ≡ 0 → WasAsked old.taken (marks_of old.entries old.moves counters stops old.hand)
    → new.entries ≡ old.entries → new.taken ≡ old.taken → refills_behind new ≡ refills_behind old
behind_asked old new counters stops none w es taken =
    let here = subst (λ k. slice_get (marks_of old.entries old.moves counters k old.hand) w.at ≡ Some (M.Handled w.entry w.behind)) none w.here in
    ap (λ l. before_next l new.taken (fills_by new.fills new.hand)) es ∙ ap (λ n. before_next old.entries n (fills_by new.fills new.hand)) taken
    ∙ next_there old.entries old.moves counters w.at w.entry w.behind here old.taken w.since (fills_by new.fills new.hand) (fills_by old.fills old.hand)

-- an event in hand
pub behind_event : (old new : MachineView) (event : Event) → old.hand ≡ H.Nothing → new.hand ≡ H.OfEvent event
    → new.entries ≡ old.entries → new.taken ≡ old.taken → new.fills ≡ old.fills → refills_behind new ≡ refills_behind old
behind_event old new event idle hand es taken fills =
    ap (λ l. before_next l new.taken (fills_by new.fills new.hand)) es ∙ ap (λ n. before_next old.entries n (fills_by new.fills new.hand)) taken
    ∙ ap (before_next old.entries old.taken) (ap (fills_by new.fills) hand ∙ ap Some fills ∙ ap (fills_by old.fills) (sym idle))

-- So the origin stays, where nothing else of it changed.
origin_same : {F : Type 0} (chip : F → Chip) (old new : NodeView F) → new.start ≡ old.start → new.machine.which ≡ old.machine.which → new.machine.taken ≡ old.machine.taken
    → refills_behind new.machine ≡ refills_behind old.machine → new.machine.elements ≡ old.machine.elements → (chip new.flash).setting ≡ (chip old.flash).setting
    → origin_of chip new ≡ origin_of chip old
origin_same chip old new start which taken fills elements setting = cc

module _ {F : Type 0} (chip : F → Chip) (old new : NodeView F) (start : new.start ≡ old.start) (setting : (chip new.flash).setting ≡ (chip old.flash).setting) where
  pub origin_entry : (e : Entry) (move mark : ℕ) → new.machine ≡ with_entry old.machine e move mark → old.machine.taken ≤ length old.machine.entries → old.machine.hand ≡ H.Nothing
      → e.fills ≡ old.machine.fills → origin_of chip new ≡ origin_of chip old
  origin_entry e move mark is le idle fills =
      origin_same chip old new start (ap (λ m. m.which) is) (ap (λ m. m.taken) is) (ap refills_behind is ∙ behind_entry old.machine e move mark le idle fills) (ap (λ m. m.elements) is) setting

  pub origin_asked : old.stops ≡ 0 → WasAsked old.machine.taken (node_marks old) → (closed : Bool) (hand : Hand) (fills mark : ℕ)
      → new.machine ≡ record old.machine { closed = closed; hand = hand; fills = fills; mark = mark } → origin_of chip new ≡ origin_of chip old
  origin_asked none asked closed hand fills mark is =
      origin_same chip old new start (ap (λ m. m.which) is) (ap (λ m. m.taken) is) (behind_asked old.machine new.machine old.counters old.stops none asked (ap (λ m. m.entries) is) (ap (λ m. m.taken) is))
      (ap (λ m. m.elements) is) setting

  pub origin_event : (event : Event) (mark : ℕ) → new.machine ≡ record old.machine { closed = true; hand = H.OfEvent event; mark = mark } → old.machine.hand ≡ H.Nothing
      → origin_of chip new ≡ origin_of chip old
  origin_event event mark is idle =
      origin_same chip old new start (ap (λ m. m.which) is) (ap (λ m. m.taken) is)
      (behind_event old.machine new.machine event idle (ap (λ m. m.hand) is) (ap (λ m. m.entries) is) (ap (λ m. m.taken) is) (ap (λ m. m.fills) is)) (ap (λ m. m.elements) is) setting
