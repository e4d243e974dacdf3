-- Nothing is due exactly where no row is, and the heartbeat isn't.
use Rattle.std.proofs.Common.{◌≡◌, ◌↔◌, ℕ, Bool, true, false, cond, List, [], ◌∷◌, map, filter, refl, Option, Some, None}
use Rattle.std.proofs.lemmas.Bool.{or_parts}
use Rattle.std.specs.List.{list_any}
use Rattle.model_publish.specs.Ends.{is_beat_due}
use Rattle.model_states.specs.Publication.{Published, heartbeat_due, is_heartbeat_due}
use Rattle.model_states.specs.declared.publication.Heartbeat.{Heartbeat}
use Rattle.model_states.specs.declared.publication.Publication.{Publication}
use Rattle.record_types.specs.declared.records.PublishRow.{PublishRow}

abbrev passed : (Publication → Bool) → List Publication → List PublishRow
passed test rows = map (λ p. p.row) (filter test rows)

no_row : (test : Publication → Bool) (rows : List Publication) → passed test rows ≡ [] → list_any test rows ≡ false
no_row test [] h = refl
no_row test (p ∷ rows) h =
    let left = one_left (test p) h in
    rw left.0 (no_row test rows left.1)
  where
    one_left : (b : Bool) → map (λ (q : Publication). q.row) (cond b (p ∷ filter test rows) (filter test rows)) ≡ []
        → (b ≡ false) × (passed test rows ≡ [])
    one_left true h = absurd cc
    one_left false h = (refl, h)

none_passed : (test : Publication → Bool) (rows : List Publication) → list_any test rows ≡ false → passed test rows ≡ []
none_passed test [] h = refl
none_passed test (p ∷ rows) h =
    let parts = or_parts (test p) (list_any test rows) h in
    rw parts.0 (none_passed test rows parts.1)

pub rows_where : (test : Publication → Bool) (rows : List Publication) → (passed test rows ≡ []) ↔ (list_any test rows ≡ false)
rows_where test rows = (no_row test rows, none_passed test rows)

by_test : {X : Type 0} (b : Bool) (x : X) → (cond b (Some x) None ≡ None) ↔ (b ≡ false)
by_test true x = (λ h. absurd cc, λ h. absurd cc)
by_test false x = (λ h. refl, λ h. refl)

pub beat_where : (p : Published) (now : ℕ) → (heartbeat_due p now ≡ None) ↔ (is_beat_due now p.heartbeat ≡ false)
beat_where p now = by_beat p.heartbeat refl
  where
    by_beat : (h : Option Heartbeat) → p.heartbeat ≡ h → (heartbeat_due p now ≡ None) ↔ (is_beat_due now p.heartbeat ≡ false)
    by_beat None e = rw e (λ h. refl, λ h. refl)
    by_beat (Some h) e = rw e (by_test (is_heartbeat_due now h) h.row)
