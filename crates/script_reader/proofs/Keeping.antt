-- A line more keeps a script's ranges.
use Rattle.std.proofs.Common.{◌≡◌, ℕ, ◌+◌, ◌-◌, ◌<◌, ◌≤◌, ◌==◌, ◌&&◌, ◌||◌, nat_le, Bool, true, false, cond, List, [], ◌∷◌, ◌++◌, length, Result, Ok, Err, IfOk, refl, inl, inr, arith, eq-eqb}
use Rattle.std.proofs.lemmas.Bool.{or_parts}
use Rattle.std.specs.List.{count_by, list_any}
use Rattle.std.proofs.lemmas.Bool.{cases_Bool, cases_eq}
use Rattle.std.proofs.lemmas.Bool.Decides.{nat_tests}
use Rattle.std.proofs.lemmas.List.{length_push, length-set}
use Rattle.std.proofs.lemmas.List.Elements.{All-nil, All-push, All-set}
use Rattle.std.proofs.lemmas.List.Sums.{sum_by-append}
use Rattle.node_limits.specs.declared.TheConstants.{LIVES, BEARER_LINES}
use Rattle.script_definitions.specs.Lives.{last_life}
use Rattle.script_definitions.specs.Reading.{is_arm, is_bearer_line, with_life, with_line, with_counted}
use Rattle.script_definitions.specs.Ranges.{IsLine, IsLife, IsScriptOf, IsCounted}
use Rattle.script_definitions.specs.declared.kind.Grammar.{Grammar}
use Rattle.script_definitions.specs.declared.line.CountedLine.{CountedLine}
use Rattle.script_definitions.specs.declared.line.CountedLine.TheVariants as C
use Rattle.script_definitions.specs.declared.line.ScriptLine.{ScriptLine}
use Rattle.script_definitions.specs.declared.script.Script.{Script}

-- what an element adds to a count
abbrev one : Bool → ℕ
one b = cond b 1 0

-- one more element counts, or doesn't
count_push : {A : Type 0} (p : A → Bool) (xs : List A) (x : A) → count_by p (xs ++ x ∷ []) ≡ count_by p xs + one (p x)
count_push p xs x = let e = sum_by-append (λ y. one (p y)) xs (x ∷ []) in omega (arith, e)

-- what no element passes counts none
count_none : {A : Type 0} (p : A → Bool) (xs : List A) → list_any p xs ≡ false → count_by p xs ≡ 0
count_none p [] e = refl
count_none p (x ∷ xs) e =
    elim (cases_Bool (p x)) [
      | inl t ↦ let h : true ≡ false = rw t at e in cc
      | inr f ↦
          let rest : list_any p xs ≡ false = rw f at e in
          let none : count_by p xs ≡ 0 = count_none p xs rest in
          let first : one (p x) ≡ 0 = rw f refl in
          let parts = sum_by-append (λ y. one (p y)) (x ∷ []) xs in
          omega (arith, parts, none, first)
    ]

-- at most one, where the new one isn't one or there was none
one_more : {A : Type 0} (p : A → Bool) (xs : List A) (x : A) → count_by p xs ≤ 1 → (p x && list_any p xs) ≡ false → count_by p (xs ++ x ∷ []) ≤ 1
one_more p xs x h e =
    elim (cases_Bool (p x)) [
      | inl t ↦
          let none : count_by p xs ≡ 0 = count_none p xs (rw t at e) in
          let last : one (p x) ≡ 1 = rw t refl in
          omega (arith, count_push p xs x, none, last)
      | inr f ↦ let last : one (p x) ≡ 0 = rw f refl in omega (arith, count_push p xs x, last)
    ]

below : (n m : ℕ) → nat_le n m ≡ false → m < n
below n m e = grind (arith, nat_tests)

-- at most so many, where the new one doesn't count or there were fewer
fewer_more : {A : Type 0} (p : A → Bool) (xs : List A) (x : A) (n : ℕ) → count_by p xs ≤ n → (p x && nat_le n (count_by p xs)) ≡ false
    → count_by p (xs ++ x ∷ []) ≤ n
fewer_more p xs x n h e =
    elim (cases_Bool (p x)) [
      | inl t ↦
          let fewer : count_by p xs < n = below n (count_by p xs) (rw t at e) in
          let last : one (p x) ≡ 1 = rw t refl in
          omega (arith, count_push p xs x, fewer, last)
      | inr f ↦ let last : one (p x) ≡ 0 = rw f refl in omega (arith, count_push p xs x, last)
    ]

-- a life without lines
empty_life : (g : Grammar) (n : ℕ) → IsLife g n []
empty_life g n = record { lines = All-nil (IsLine g n); events = omega arith; arms = omega arith }

-- a life with one more line
longer_life : (g : Grammar) (n : ℕ) (life : List ScriptLine) (line : ScriptLine) → IsLife g n life → IsLine g n line
    → (is_arm line && list_any is_arm life) ≡ false → (is_bearer_line line && nat_le BEARER_LINES (count_by is_bearer_line life)) ≡ false
    → IsLife g n (life ++ line ∷ [])
longer_life g n life line h k e f = record {
  lines = All-push (IsLine g n) life line h.lines k;
  events = fewer_more is_bearer_line life line BEARER_LINES h.events f;
  arms = one_more is_arm life line h.arms e;
}

with_life_keeps : (g : Grammar) (s : Script) → IsScriptOf g s → IfOk (with_life s) (IsScriptOf g)
unfolding with_life
with_life_keeps g s h =
    elim (cases_eq (length s.lives) LIVES) [
      | inl e ↦ rw (eq-eqb (length s.lives) LIVES e) tt
      | inr ne ↦
          let t : (length s.lives == LIVES) ≡ false = grind (arith, nat_tests) in
          rw t record {
            provision = h.provision;
            lives = All-push (IsLife g s.provision.elements) s.lives [] h.lives (empty_life g s.provision.elements);
            count = let e : length s.lives ≤ LIVES = h.count in omega (arith, length_push s.lives []);
          }
    ]

placed : (n : ℕ) (b : Bool) → ((n == 0) || b) ≡ false → 0 < n
placed n b e = grind (arith, nat_tests)

with_line_keeps : (g : Grammar) (s : Script) (line : ScriptLine) → IsScriptOf g s → IsLine g s.provision.elements line
    → IfOk (with_line s line) (IsScriptOf g)
unfolding with_line
with_line_keeps g s line h k =
    elim (cases_Bool ((length s.lives == 0) || (is_arm line && list_any is_arm (last_life s.lives)))) [
      | inl t ↦ rw t tt
      | inr e ↦
          elim (cases_Bool (is_bearer_line line && nat_le BEARER_LINES (count_by is_bearer_line (last_life s.lives)))) [
            | inl t ↦ rw (e, t) tt
            | inr f ↦
                let lt : 0 < length s.lives = placed _ _ e in
                let last : IsLife g s.provision.elements (last_life s.lives) = h.lives (length s.lives - 1) [] (omega arith) in
                rw (e, f) record {
                  provision = h.provision;
                  lives = All-set (IsLife g s.provision.elements) s.lives (length s.lives - 1) (last_life s.lives ++ line ∷ [])
                      (longer_life g s.provision.elements (last_life s.lives) line last k (or_parts _ _ e).1 f) h.lives;
                  count = omega (arith, length-set s.lives (length s.lives - 1) (last_life s.lives ++ line ∷ []), h.count);
                }
          ]
    ]

-- what is said of a definition's value is said of a result that is this value
pub said_ok : {E : Type 0} (P : Script → Type 0) (r : Result (Result Script ℕ) E) (z : Result Script ℕ) → IfOk r (λ x. x ≡ z) → IfOk z P
    → IfOk r (λ x. IfOk x P)
said_ok P (Ok x) z e h = rw e h
said_ok P (Err y) z e h = tt

pub with_counted_keeps : (g : Grammar) (s : Script) (line : CountedLine) → IsScriptOf g s → IsCounted g s.provision.elements line
    → IfOk (with_counted s line) (IsScriptOf g)
with_counted_keeps g s (C.Provision provision) h k = tt
with_counted_keeps g s C.Life h k = with_life_keeps g s h
with_counted_keeps g s (C.Line line) h k = with_line_keeps g s line h k
