-- What lines show, among the marks and among the entries.
use Rattle.std.proofs.Common.{◌≡◌, ℕ, zero, suc, ◌<◌, List, [], ◌∷◌, ◌++◌, length, map, Option, Some, None, refl, ap, arith}
use Rattle.std.specs.Prelude.{option_and_then, replicate, slice_index_or}
use Rattle.std.specs.List.{slice_get}
use Rattle.std.specs.Option.{option_map}
use Rattle.mesh_types.specs.declared.events.Event.{Event}
use Rattle.mesh_types.specs.declared.history.Entry.{Entry}
use Rattle.mesh_types.specs.declared.history.Sent.{Sent}
use Rattle.report_definitions.specs.Record.{Shown, shown_of}
use Rattle.locked_node.specs.declared.marks.Behind.{Behind}
use Rattle.locked_node.specs.declared.marks.Mark.{Mark}
use Rattle.locked_node.specs.declared.marks.Mark.TheVariants as M
use Rattle.locked_node.specs.Node.{first_word, handled_marks, rest_words, stop_marks}
use Rattle.node_bearer.specs.Marked.{shown_at, shown_in}
use Rattle.node_bearer.proofs.Lists.{get_longer}

-- An entry that is shown among the marks is among the entries.
stop_is_none : (k : ℕ) (i : ℕ) (e : Entry) (behind : Behind) → slice_get (replicate k (M.Stopped None)) i ≡ Some (M.Handled e behind) → ⊥
stop_is_none zero i e behind h = cc
stop_is_none (suc k) zero e behind h = cc
stop_is_none (suc k) (suc i) e behind h = stop_is_none k i e behind h

unmarked : (es : List Entry) (ms cs : List ℕ) (k : ℕ) (event : Option Event) (i : ℕ) (e : Entry) (behind : Behind) → slice_get (handled_marks es ms cs ++ stop_marks k event) i ≡ Some (M.Handled e behind) → slice_get es i ≡ Some e
unmarked [] ms cs zero event i e behind h = cc
unmarked [] ms cs (suc k) event zero e behind h = cc
unmarked [] ms cs (suc k) event (suc i) e behind h = absurd (stop_is_none k i e behind h)
unmarked (x ∷ es) ms cs k event zero e behind h =
    let first : Behind = record { moved = first_word ms; counter = first_word cs } in
    let both : Some (M.Handled x first) ≡ Some (M.Handled e behind) = h in
    let one : M.Handled x first ≡ M.Handled e behind = cc in
    let same : x ≡ e = cc in
    ap Some same
unmarked (x ∷ es) ms cs k event (suc i) e behind h = unmarked es (rest_words ms) (rest_words cs) k event i e behind h

shown_mark : (es : List Entry) (ms cs : List ℕ) (k : ℕ) (event : Option Event) (s : Sent) (y : Shown) (o : Option Mark) → slice_get (handled_marks es ms cs ++ stop_marks k event) s.entry ≡ o
    → option_and_then (λ m. shown_at m s) o ≡ Some y → shown_of es s ≡ Some y
shown_mark es ms cs k event s y None e h = cc
shown_mark es ms cs k event s y (Some (M.Stopped hand)) e h = cc
shown_mark es ms cs k event s y (Some (M.Handled x behind)) e h = rw (unmarked es ms cs k event s.entry x behind e) h

pub found_entries : (es : List Entry) (ms cs : List ℕ) (k : ℕ) (event : Option Event) (lines : List Sent) (shows : List Shown) → map (shown_in (handled_marks es ms cs ++ stop_marks k event)) lines ≡ map Some shows
    → map (shown_of es) lines ≡ map Some shows
found_entries es ms cs k event [] shows h = h
found_entries es ms cs k event (s ∷ lines) [] h = cc
found_entries es ms cs k event (s ∷ lines) (y ∷ shows) h =
    let head : shown_in (handled_marks es ms cs ++ stop_marks k event) s ≡ Some y = cc in
    let tail : map (shown_in (handled_marks es ms cs ++ stop_marks k event)) lines ≡ map Some shows = cc in
    let one = shown_mark es ms cs k event s y (slice_get (handled_marks es ms cs ++ stop_marks k event) s.entry) refl head in
    let more = found_entries es ms cs k event lines shows tail in
    cc

-- more entries
pub shown_of_more : (es more : List Entry) (s : Sent) (y : Shown) (o : Option Entry) → slice_get es s.entry ≡ o
    → option_and_then (λ e. option_map (λ j. record { entry = e; job = j; outcome = s.outcome }) (slice_get e.jobs s.job)) o ≡ Some y → shown_of (es ++ more) s ≡ Some y
shown_of_more es more s y None e h = cc
shown_of_more es more s y (Some x) e h = rw (get_longer es more s.entry x e) h

pub found_more : (es more : List Entry) (lines : List Sent) (shows : List Shown) → map (shown_of es) lines ≡ map Some shows → map (shown_of (es ++ more)) lines ≡ map Some shows
found_more es more [] shows h = h
found_more es more (s ∷ lines) [] h = cc
found_more es more (s ∷ lines) (y ∷ shows) h =
    let head : shown_of es s ≡ Some y = cc in
    let tail : map (shown_of es) lines ≡ map Some shows = cc in
    let one = shown_of_more es more s y (slice_get es s.entry) refl head in
    let rest = found_more es more lines shows tail in
    cc

pub no_more : {A : Type 0} (x : A) (xs : List A) → x ∷ xs ≡ [] → ⊥
no_more x xs h = cc

pub found_each : (f : Sent → Option Shown) (lines : List Sent) (shows : List Shown) → map f lines ≡ map Some shows → (k : ℕ) (s : Sent) → k < length lines → (y : Shown) × (f (slice_index_or lines k s) ≡ Some y)
found_each f [] shows h k s lt = absurd (omega (arith, lt))
found_each f (x ∷ lines) [] h k s lt = absurd (no_more (f x) (map f lines) h)
found_each f (x ∷ lines) (y ∷ shows) h zero s lt = let head : f x ≡ Some y = cc in (y, head)
found_each f (x ∷ lines) (y ∷ shows) h (suc k) s lt = let tail : map f lines ≡ map Some shows = cc in found_each f lines shows tail k s (omega (arith, lt))
