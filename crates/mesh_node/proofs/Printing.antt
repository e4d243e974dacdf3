-- A log has room in a report.
use Rattle.std.proofs.Common.{◌≡◌, ℕ, zero, suc, ◌+◌, ◌<◌, ◌≤◌, List, [], ◌∷◌, length, map, Option, Some, None, refl, sym, subst, arith}
use Rattle.std.specs.Prelude.{◌^◌, All, option_and_then}
use Rattle.std.specs.List.{slice_get}
use Rattle.std.specs.Option.{option_map}
use Rattle.std.proofs.lemmas.List.Elements.{All-cons, All-head, All-nil, All-tail}
use Rattle.mesh_types.specs.declared.history.Entry.{Entry}
use Rattle.mesh_types.specs.declared.history.Sent.{Sent}
use Rattle.report_definitions.specs.Record.{Life, Shown, shown_of}
use Rattle.seq_word.specs.declared.looks.Look.{Look}
use Rattle.life_laws.specs.Pairs.{AreShownBy}
use Rattle.mesh_node.specs.Lives.{IsPrintable, IsShort}

get_below : {A : Type 0} (xs : List A) (i : ℕ) (x : A) → slice_get xs i ≡ Some x → i < length xs
get_below [] i x h = cc
get_below (y ∷ xs) zero x h = omega arith
get_below (y ∷ xs) (suc i) x h = omega (arith, get_below xs i x h)

entry_there : (es : List Entry) (s : Sent) (y : Shown) (o : Option Entry) → slice_get es s.entry ≡ o
    → option_and_then (λ e. option_map (λ j. record { entry = e; job = j; outcome = s.outcome }) (slice_get e.jobs s.job)) o ≡ Some y → s.entry < length es
entry_there es s y None e h = cc
entry_there es s y (Some x) e h = get_below es s.entry x e

up_to : (i n m : ℕ) → i < n → n < m → i + 1 < m
up_to i n m lt few = omega (arith, lt, few)

lines_short : (es : List Entry) (lines : List Sent) (shows : List Shown) → length es < 2 ^ 32 → map (shown_of es) lines ≡ map Some shows → All (λ s. s.job + 1 < 2 ^ 8) lines → All IsShort lines
lines_short es [] shows few h short = All-nil IsShort
lines_short es (s ∷ lines) [] few h short = cc
lines_short es (s ∷ lines) (y ∷ shows) few h short =
    let head : shown_of es s ≡ Some y = cc in
    let tail : map (shown_of es) lines ≡ map Some shows = cc in
    All-cons IsShort s lines (up_to s.entry (length es) (2 ^ 32) (entry_there es s y (slice_get es s.entry) refl head) few, All-head (λ x. x.job + 1 < 2 ^ 8) s lines short)
    (lines_short es lines shows few tail (All-tail (λ x. x.job + 1 < 2 ^ 8) s lines short))

pub sends_short : (es : List Entry) (ms : List ℕ) (sends : List (List Sent)) (drawns : List (List ℕ)) (looks : List Look) → length es < 2 ^ 32 → AreShownBy es ms sends drawns looks → All (All IsShort) sends
sends_short es ms [] [] looks few h = All-nil (All IsShort)
sends_short es ms [] (w ∷ drawns) looks few h = absurd h
sends_short es ms (s ∷ sends) [] looks few h = absurd h
sends_short es ms (s ∷ sends) (w ∷ drawns) looks few h =
    All-cons (All IsShort) s sends (lines_short es s h.0.shows few h.0.found h.0.short) (sends_short es ms sends drawns looks few h.2)

-- a life that wasn't run
pub idle_printable : (life : Life) → life.entries ≡ [] → life.sends ≡ [] → IsPrintable life
idle_printable life entries sends = record {
  entries = subst (λ (es : List Entry). length es < 2 ^ 32) (sym entries) (omega arith);
  bearers = subst (λ (ss : List (List Sent)). length ss ≤ 8) (sym sends) (omega arith);
  lines = subst (All (All IsShort)) (sym sends) (All-nil (All IsShort));
}
