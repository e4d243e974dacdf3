-- The lists of a phase, by what happens.
use Rattle.std.proofs.Common.{◌≡◌, ℕ, ◌<◌, if◌then◌else◌, Bool, List, [], ◌∷◌, ◌++◌, length, get_or, set, map, replicate, ap, arith, ◌∙◌, sym, refl, subst, eq-eqb, inl, inr, Option, Some, None}
use Rattle.std.specs.List.{cons_option, range_with_len}
use Rattle.std.proofs.lemmas.Bool.{cases_eq, cases_lt, ne_eqb}
use Rattle.std.proofs.lemmas.List.{get_or-replicate, get_or-set_same, get_or-set_other, length-replicate, length-set, set_past}
use Rattle.std.proofs.lemmas.List.FromFn.{fill_by_all}
use Rattle.mesh_types.specs.declared.events.Event.{Event}
use Rattle.script_definitions.specs.Events.{Happening, event_on, events_on, happening_of}
use Rattle.script_definitions.specs.declared.line.ScriptLine.{ScriptLine}
use Rattle.live_lines.specs.Saying.{phase_of}

abbrev events_of : ℕ → Option Happening → List Event
events_of k happening = cons_option (event_on k happening) []

abbrev none : ℕ → List (List Event)
none n = replicate n []

-- no bearer has an event
nothing : (n : ℕ) (f : ℕ → List Event) → ((k : ℕ) → k < n → f k ≡ []) → none n ≡ map f (range_with_len 0 n)
nothing n f empty = fill_by_all f (none n) n [] (length-replicate n []) (λ k l. get_or-replicate n k [] [] l ∙ sym (empty k l))

-- that of one bearer alone
one : (n b : ℕ) (e : Event) (f : ℕ → List Event) → b < n → f b ≡ e ∷ [] → ((k : ℕ) → (k ≡ b → ⊥) → f k ≡ [])
    → set (none n) b (get_or (none n) b [] ++ e ∷ []) ≡ map f (range_with_len 0 n)
one n b e f within here other =
    let lists : List (List Event) = none n in
    let more : List Event = get_or lists b [] ++ e ∷ [] in
    let many : length lists ≡ n = length-replicate n [] in
    let is : more ≡ e ∷ [] = ap (λ (l : List Event). l ++ e ∷ []) (get_or-replicate n b [] [] within) in
    fill_by_all f (set lists b more) n [] (length-set lists b more ∙ many)
    (λ k l. elim (cases_eq k b) [
      | inl same ↦ subst (λ (j : ℕ). get_or (set lists b more) j [] ≡ f j) (sym same) (get_or-set_same lists b more [] (omega (arith, many)) ∙ is ∙ sym here)
      | inr apart ↦ get_or-set_other lists b k more [] apart ∙ get_or-replicate n k [] [] l ∙ sym (other k apart)
    ])

on_own : (h : Happening) → events_of h.bearer (Some h) ≡ h.event ∷ []
on_own h = ap (λ (t : Bool). cons_option (if t then Some h.event else None) []) (eq-eqb h.bearer h.bearer refl)

on_other : (h : Happening) (k : ℕ) → (k ≡ h.bearer → ⊥) → events_of k (Some h) ≡ []
on_other h k apart = ap (λ (t : Bool). cons_option (if t then Some h.event else None) []) (ne_eqb h.bearer k (λ e. apart (sym e)))

pub phase_none : (n : ℕ) (line : ScriptLine) → happening_of line ≡ None → none n ≡ phase_of n line
phase_none n line is = nothing n (λ k. events_on k (line ∷ [])) (λ k l. ap (events_of k) is)

pub phase_one : (n : ℕ) (line : ScriptLine) (h : Happening) → happening_of line ≡ Some h
    → set (none n) h.bearer (get_or (none n) h.bearer [] ++ h.event ∷ []) ≡ phase_of n line
phase_one n line h is =
    elim (cases_lt h.bearer n) [
      | inl within ↦
          one n h.bearer h.event (λ k. events_on k (line ∷ [])) within (ap (events_of h.bearer) is ∙ on_own h) (λ k apart. ap (events_of k) is ∙ on_other h k apart)
      | inr past ↦
          set_past (none n) h.bearer (get_or (none n) h.bearer [] ++ h.event ∷ []) (omega (arith, length-replicate {A = List Event} n []))
          ∙ nothing n (λ k. events_on k (line ∷ [])) (λ k l. ap (events_of k) is ∙ on_other h k (λ e. omega arith))
    ]
