-- Between two machines no refill was stored before the next entry.
use Rattle.std.proofs.Common.{◌≡◌, ◌≢◌, ◌∙◌, ℕ, Bool, true, false, List, [], ◌∷◌, ◌++◌, length, Option, Some, None, refl, sym, ap, subst, arith, append_assoc, append-nil}
use Rattle.std.specs.List.{slice_get}
use Rattle.std.specs.Option.{option_map_or}
use Rattle.event_definitions.specs.Role.{Role}
use Rattle.flash_model.specs.Chip.{Chip}
use Rattle.machine_contract.specs.declared.answers.Hand.{Hand}
use Rattle.machine_contract.specs.declared.answers.Hand.TheVariants as H
use Rattle.machine_contract.specs.View.{MachineView}
use Rattle.mesh_types.specs.declared.events.Event.{Event}
use Rattle.mesh_types.specs.declared.history.Entry.{Entry}
use Rattle.locked_node.specs.Node.{NodeView, fills_by, refills_behind}
use Rattle.locked_node.specs.Stands.{IsNode}
use Rattle.mesh_node.specs.Given.{IsUnfilled, NoneMore}

-- nothing was done
pub unfilled_same : (now : MachineView) → now.hand ≢ H.OfRefill → IsUnfilled now now
unfilled_same now none = record { more = []; entries = sym (append-nil now.entries); none = (refl, none) }

-- from one machine to a second, and on to a third
none_more : (fills : ℕ) (xs ys : List Entry) (mid now : MachineView) → NoneMore fills xs mid → NoneMore mid.fills ys now → NoneMore fills (xs ++ ys) now
none_more fills [] ys mid now h k = subst (λ n. NoneMore n ys now) h.0 k
none_more fills (x ∷ xs) ys mid now h k = h

pub unfilled_on : (old mid now : MachineView) → IsUnfilled old mid → IsUnfilled mid now → IsUnfilled old now
unfilled_on old mid now h k = record {
  more = h.more ++ k.more;
  entries = k.entries ∙ ap (λ l. l ++ k.more) h.entries ∙ append_assoc old.entries h.more k.more;
  none = none_more old.fills h.more k.more mid now h.none k.none;
}

-- taking entries stores nothing
none_taken : (fills n : ℕ) (more : List Entry) (now : MachineView) → NoneMore fills more now → NoneMore fills more (record now { taken = n })
none_taken fills n [] now h = h
none_taken fills n (e ∷ more) now h = h

pub unfilled_taken : (old now : MachineView) (n : ℕ) → IsUnfilled old now → IsUnfilled old (record now { taken = n })
unfilled_taken old now n h = record { more = h.more; entries = h.entries; none = none_taken old.fills n h.more now h.none }

-- what stands behind the first entries
get_behind : (xs ys : List Entry) → slice_get (xs ++ ys) (length xs) ≡ slice_get ys 0
get_behind [] ys = refl
get_behind (x ∷ xs) ys = get_behind xs ys

some_same : (a b : ℕ) → Some a ≡ Some b → a ≡ b
some_same a b e = cc

no_some : (n : ℕ) → None ≡ Some n → ⊥
no_some n e = cc

no_refill : H.Nothing ≡ H.OfRefill → ⊥
no_refill e = cc

no_event : (event : Event) → H.OfEvent event ≡ H.OfRefill → ⊥
no_event event e = cc

told_none : (fills : ℕ) (hand : Hand) (n : ℕ) → fills_by fills hand ≡ Some n → (fills ≡ n) × (hand ≢ H.OfRefill)
told_none fills H.Nothing n e = (some_same fills n e, no_refill)
told_none fills (H.OfEvent event) n e = (some_same fills n e, no_event event)
told_none fills H.OfRefill n e = absurd (no_some n e)

none_by : (more : List Entry) (now : MachineView) (fills : ℕ) → option_map_or (λ (e : Entry). Some e.fills) (slice_get more 0) (fills_by now.fills now.hand) ≡ Some fills → NoneMore fills more now
none_by [] now fills h = told_none now.fills now.hand fills h
none_by (e ∷ more) now fills h = some_same e.fills fills h

told_all : (fills : ℕ) (hand : Hand) → hand ≢ H.OfRefill → fills_by fills hand ≡ Some fills
told_all fills H.Nothing none = refl
told_all fills (H.OfEvent event) none = refl
told_all fills H.OfRefill none = absurd (none refl)

-- While the lock stood it told of the same refills, from where all entries had been taken and no refill was in hand.
pub unfilled_by : (old new : MachineView) (more : List Entry) → new.entries ≡ old.entries ++ more → old.taken ≡ length old.entries → new.taken ≡ old.taken → refills_behind new ≡ refills_behind old → old.hand ≢ H.OfRefill → IsUnfilled old new
unfilled_by old new more is all taken same none =
    let get : List Entry → ℕ → Option ℕ = λ es at. option_map_or (λ (e : Entry). Some e.fills) (slice_get es at) (fills_by new.fills new.hand) in
    let here : refills_behind new ≡ option_map_or (λ (e : Entry). Some e.fills) (slice_get more 0) (fills_by new.fills new.hand) =
    ap (get new.entries) (taken ∙ all) ∙ ap (λ es. get es (length old.entries)) is ∙ ap (λ o. option_map_or (λ (e : Entry). Some e.fills) o (fills_by new.fills new.hand)) (get_behind old.entries more) in
    let at_end : slice_get old.entries old.taken ≡ None =
    ap (slice_get old.entries) all ∙ ap (λ es. slice_get es (length old.entries)) (sym (append-nil old.entries)) ∙ get_behind old.entries [] in
    let before : refills_behind old ≡ Some old.fills =
    ap (λ o. option_map_or (λ (e : Entry). Some e.fills) o (fills_by old.fills old.hand)) at_end ∙ told_all old.fills old.hand none in
    record { more = more; entries = is; none = none_by more new old.fills (sym here ∙ same ∙ before) }

-- a node where no bearer stopped has none in hand
pub none_in_hand : {F : Type 0} {role : Role} {image : List ℕ → Type 0} {chip : F → Chip} (node : NodeView F) → IsNode role image chip node → node.stops ≡ 0 → node.machine.hand ≢ H.OfRefill
none_in_hand node known live = by_closed node.machine.closed refl where
  by_closed : (b : Bool) → node.machine.closed ≡ b → node.machine.hand ≢ H.OfRefill
  by_closed true is = let some = known.stopped is in absurd (omega (arith, some, live))
  by_closed false is = λ refill. no_refill (sym (known.life.idle is) ∙ refill)
