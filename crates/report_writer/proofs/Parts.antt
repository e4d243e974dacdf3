-- The lines of a life, one after another.
use Rattle.std.proofs.Common.{◌≡◌, ◌+◌, ◌<◌, ℕ, Bool, List, [], ◌∷◌, ◌++◌, length, get_or, map, drop, refl, ◌∙◌, All}
use Rattle.std.proofs.lemmas.List.{at_drop_more, get_or-map, length-map}
use Rattle.std.proofs.lemmas.List.Elements.{All-get_or}
use Rattle.mesh_types.specs.Kind.{kind_of}
use Rattle.mesh_types.specs.declared.history.Entry.{Entry}
use Rattle.mesh_types.specs.declared.history.Sent.{Sent}
use Rattle.mesh_types.specs.declared.report.ReportLine.{ReportLine}
use Rattle.mesh_types.specs.declared.report.ReportLine.TheVariants as L
use Rattle.report_definitions.specs.Report.{bearer_lines, entry_lines, send_lines}

-- the line of the entry at place i, from 0 on, which has the place n in its life, and those behind it
pub next_entry : (n : ℕ) (es : List Entry) (i : ℕ) (e : Entry) (line : ReportLine) → i < length es → e ≡ get_or es i e
    → line ≡ L.Entry (n + 1) e.bearer e.number (kind_of e.event) e.answer
    → entry_lines (n + 1) (drop i es) ≡ (line ∷ []) ++ entry_lines (n + 1 + 1) (drop (i + 1) es)
next_entry n es i e line h is same = at_drop_more (λ xs. entry_lines (n + 1) xs) es i e h ∙ rw (← is, same) refl

pub next_sent : (hex : Bool) (k : ℕ) (ss : List Sent) (i : ℕ) (s : Sent) (line : ReportLine) → i < length ss → s ≡ get_or ss i s
    → line ≡ L.Sent k (s.entry + 1) (s.job + 1) s.outcome hex
    → bearer_lines hex k (drop i ss) ≡ (line ∷ []) ++ bearer_lines hex k (drop (i + 1) ss)
next_sent hex k ss i s line h is same = at_drop_more (λ xs. bearer_lines hex k xs) ss i s h ∙ rw (← is, same) refl

-- the list at a place, among the lists of vectors
next_bearer_lines : {V : Type 0} (items : V → List Sent) (hex : Bool) (vs : List V) (i : ℕ) (v : V) → i < length vs → v ≡ get_or vs i v
    → send_lines hex i (map items (drop i vs)) ≡ bearer_lines hex i (items v) ++ send_lines hex (i + 1) (map items (drop (i + 1) vs))
next_bearer_lines items hex vs i v h is = at_drop_more (λ xs. send_lines hex i (map items xs)) vs i v h ∙ rw (← is) refl

-- the lines of the bearer at place i, and those behind them
pub next_bearer : {V : Type 0} (items : V → List Sent) (hex : Bool) (vs : List V) (i k : ℕ) (v : V) (ss : List Sent) → i < length vs → v ≡ get_or vs i v
    → k ≡ i → ss ≡ items v
    → send_lines hex i (map items (drop i vs)) ≡ bearer_lines hex k ss ++ send_lines hex (i + 1) (map items (drop (i + 1) vs))
next_bearer items hex vs i k v ss h is place same = next_bearer_lines items hex vs i v h is ∙ rw (place, same) refl

-- what holds of all jobs of all bearers holds of those of one
pub room_at : {V : Type 0} (items : V → List Sent) (P : List Sent → Type 0) (vs : List V) (i : ℕ) (v : V) (ss : List Sent) → i < length vs → v ≡ get_or vs i v
    → ss ≡ items v → All P (map items vs) → P ss
room_at items P vs i v ss h is same all =
    let at : P (get_or (map items vs) i (items v)) = All-get_or P (map items vs) i (items v) (rw (length-map vs items) h) all in
    rw (same, is) (rw (get_or-map items vs i v (items v) h) at at)
