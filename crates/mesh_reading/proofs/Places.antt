-- A key, and a label, taken from their places open what those at the places open.
use Rattle.std.proofs.Common.{◌≡◌, ℕ, List, get_or, refl, sym, subst, Some, None}
use Rattle.std.specs.Prelude.{slice_get}
use Rattle.std.proofs.lemmas.Option.{slice_get-get_or, slice_get_within}
use Rattle.layer_definitions.specs.Labels.{OpensLabel}
use Rattle.layer_definitions.specs.Upper.{Opens}
use Rattle.mesh_base.specs.declared.keys.UpperKey.{UpperKey}
use Rattle.mesh_base.specs.declared.upper.UpperFields.{UpperFields}
use Rattle.event_definitions.specs.Readings.{IsOpenedByLabel, IsOpenedUnder}

-- what stands at a place of a list that is another one
at_place : {A : Type 0} (xs ys : List A) (at : ℕ) (x d : A) → ys ≡ xs → slice_get xs at ≡ Some x → slice_get xs at ≡ Some (get_or ys at d)
at_place xs ys at x d e is =
    subst (λ zs. slice_get xs at ≡ Some (get_or zs at d)) (sym e) (slice_get-get_or xs at d (slice_get_within xs at x is))

pub opened_plain : (keys tried taken : List UpperKey) (f : UpperFields) (upper : List ℕ) (at : ℕ) (payload : List ℕ) (d : UpperKey)
    → tried ≡ keys → taken ≡ keys → Opens tried f upper at payload
    → IsOpenedUnder keys f upper (Some (record { key = get_or taken at d; label = None; payload = payload }))
opened_plain keys tried taken f upper at payload d e g o =
    let opens = subst (λ ks. Opens ks f upper at payload) e o in
    (at, at_place keys taken at opens.key d g opens.key_is, refl, opens)

pub opened_labelled : (keys tried taken : List UpperKey) (labels held lent : List (List ℕ)) (f : UpperFields) (upper : List ℕ) (at place : ℕ) (payload : List ℕ)
    (d : UpperKey) (b : List ℕ) → tried ≡ keys → taken ≡ keys → held ≡ labels → lent ≡ labels → OpensLabel tried held f upper at place payload
    → IsOpenedByLabel keys labels f upper (Some (record { key = get_or taken place d; label = Some (get_or lent at b); payload = payload }))
opened_labelled keys tried taken labels held lent f upper at place payload d b e g h k o =
    let under = subst (λ ks. OpensLabel ks held f upper at place payload) e o in
    let opens = subst (λ ls. OpensLabel keys ls f upper at place payload) h under in
    (at, place, at_place keys taken place opens.opens.key d g opens.opens.key_is, at_place labels lent at opens.label b k opens.label_is, opens)
