-- The rows with their Statuses, one row more.
use Rattle.std.proofs.Common.{◌≡◌, ◌∙◌, ◌+◌, ◌++◌, ◌<◌, ℕ, List, [], ◌∷◌, ap, get_or, length, map, sym, take}
use Rattle.std.proofs.lemmas.List.{map_more}
use Rattle.node_models.specs.declared.due.DueRow.{DueRow}
use Rattle.record_types.specs.declared.records.PublishRow.{PublishRow}

pub next_status : (status : PublishRow → DueRow) (rows : List PublishRow) (i : ℕ) (d : PublishRow)
    {list new : List DueRow} {row : DueRow}
    → list ≡ map status (take i rows) → row ≡ status (get_or rows i d) → new ≡ list ++ row ∷ [] → i < length rows
    → new ≡ map status (take (i + 1) rows)
next_status status rows i d {row = row} so one more h =
    more
    ∙ ap (λ l. l ++ row ∷ []) so
    ∙ ap (λ r. map status (take i rows) ++ r ∷ []) one
    ∙ sym (map_more status rows i d h)
