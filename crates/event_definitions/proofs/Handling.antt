-- A history with an entry more.
use Rattle.std.proofs.Common.{◌≡◌, List, [], ◌∷◌, ◌++◌, append-nil, append_assoc, ap, sym, subst, ◌∙◌}
use Rattle.record_types.specs.declared.records.StoreRecord.{StoreRecord}
use Rattle.store_definitions.specs.Numbers.{filled}
use Rattle.event_definitions.specs.Handling.{AreHandled, Handles, past_of, records_after, records_left}
use Rattle.event_definitions.specs.History.{Told}
use Rattle.event_definitions.specs.Role.{Role}

pub handled_more : (role : Role) (records : List StoreRecord) (before ts : List Told) (t : Told) → AreHandled role records before ts
    → t.records ≡ filled t.entry.fills (records_left role records before ts) → Handles role (past_of (before ++ ts) t) t
    → AreHandled role records before (ts ++ t ∷ [])
handled_more role records before [] t h r k = (r, subst (λ l. Handles role (past_of l t) t) (append-nil before) k, tt)
handled_more role records before (x ∷ ts) t h r k = (
  h.0,
  h.1,
  handled_more role (records_after role (past_of before x) x) (before ++ x ∷ []) ts t h.2 r
      (subst (λ l. Handles role (past_of l t) t) (sym (append_assoc before (x ∷ []) ts)) k),
)

pub left_more : (role : Role) (records : List StoreRecord) (before ts : List Told) (t : Told)
    → records_left role records before (ts ++ t ∷ []) ≡ records_after role (past_of (before ++ ts) t) t
left_more role records before [] t = ap (λ l. records_after role (past_of l t) t) (sym (append-nil before))
left_more role records before (x ∷ ts) t =
    left_more role (records_after role (past_of before x) x) (before ++ x ∷ []) ts t
    ∙ ap (λ l. records_after role (past_of l t) t) (append_assoc before (x ∷ []) ts)
