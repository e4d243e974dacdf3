-- Lists of records, in order.
use Rattle.std.proofs.Common.{◌≡◌, List, [], ◌∷◌, ◌++◌, refl, sym, subst, append_assoc}
use Rattle.std.specs.Prelude.{All, map}
use Rattle.std.proofs.lemmas.List.{append-nil}
use Rattle.std.proofs.lemmas.List.Elements.{All-head, All-tail}
use Rattle.mesh_base.specs.declared.slot.Slot.{Slot}
use Rattle.record_types.specs.declared.records.StoreRecord.{StoreRecord}
use Rattle.store_definitions.specs.Ranges.{IsInRange}
use Rattle.store_definitions.specs.Recovered.{record_text}
use Rattle.store_definitions.proofs.Texts.{text_once}
use Rattle.store_definitions.specs.Following.{Follows, AreInOrder}

-- one more
pub in_order_push : (before rs : List StoreRecord) (item : StoreRecord) → AreInOrder before rs → Follows (before ++ rs) item → AreInOrder before (rs ++ item ∷ [])
in_order_push before [] item h f = (subst (λ (l : List StoreRecord). Follows l item) (append-nil before) f, tt)
in_order_push before (r ∷ rs) item h f =
    (h.0, in_order_push (before ++ r ∷ []) rs item h.1 (subst (λ (l : List StoreRecord). Follows l item) (sym (append_assoc before (r ∷ []) rs)) f))

-- one among the others
pub in_order_at : (before rs more : List StoreRecord) (item : StoreRecord) → AreInOrder before (rs ++ item ∷ more) → Follows (before ++ rs) item
in_order_at before [] more item h = subst (λ (l : List StoreRecord). Follows l item) (sym (append-nil before)) h.0
in_order_at before (r ∷ rs) more item h = subst (λ (l : List StoreRecord). Follows l item) (append_assoc before (r ∷ []) rs) (in_order_at (before ++ r ∷ []) rs more item h.1)

-- lists of records of which the one has the texts of the other and then another slot
pub record SplitsAt (rs front : List StoreRecord) (slot : Slot) : Type 0 where
  pub item : StoreRecord
  pub more : List StoreRecord
  pub whole : rs ≡ front ++ item ∷ more
  pub text : record_text item ≡ slot
  pub range : IsInRange item

pub splits_at : (rs front : List StoreRecord) (slot : Slot) (rest : List Slot) → All IsInRange rs → All IsInRange front → map record_text rs ≡ map record_text front ++ slot ∷ rest → SplitsAt rs front slot
splits_at [] [] slot rest h k e = absurd cc
splits_at [] (a ∷ front) slot rest h k e = absurd cc
splits_at (r ∷ rs) [] slot rest h k e = record { item = r; more = rs; whole = refl; text = cc; range = All-head IsInRange r rs h }
splits_at (r ∷ rs) (a ∷ front) slot rest h k e =
    let head : record_text r ≡ record_text a = cc in
    let tail : map record_text rs ≡ map record_text front ++ slot ∷ rest = cc in
    let same : r ≡ a = text_once r a (All-head IsInRange r rs h) (All-head IsInRange a front k) head in
    let inner = splits_at rs front slot rest (All-tail IsInRange r rs h) (All-tail IsInRange a front k) tail in
    record { item = inner.item; more = inner.more; whole = λ i. same i ∷ inner.whole i; text = inner.text; range = inner.range }
