-- The lists of all bearers, by what each of them has.
use Rattle.std.proofs.Common.{◌≡◌, ℕ, ◌<◌, ◌==◌, if◌then◌else◌, Bool, true, false, List, [], ◌∷◌, ◌++◌, length, get_or, set, map, ap, arith, ◌∙◌, sym, refl, subst, eq-eqb, inl, inr, Option, Some, None}
use Rattle.std.specs.List.{cons_option, range_with_len}
use Rattle.std.proofs.lemmas.Bool.{cases_eq, ne_eqb}
use Rattle.std.proofs.lemmas.List.{append-nil, get_or-set_same, get_or-set_other, length-set}
use Rattle.std.proofs.lemmas.List.FromFn.{fill_by_all, get_or-map-range_with_len, length-map-range_with_len}
use Rattle.std.proofs.lemmas.List.Elements.{filter_map-append}
use Rattle.mesh_types.specs.declared.events.Event.{Event}
use Rattle.script_definitions.specs.Events.{Happening, event_on, events_on, happening_of}
use Rattle.script_definitions.specs.declared.line.ScriptLine.{ScriptLine}
use Rattle.life_plans.specs.Drafts.{with_happening}
use Rattle.std.specs.Prelude.{IfSome}
use Rattle.node_limits.specs.declared.TheConstants.{BEARERS}

-- where the list at b alone is changed, by one element behind it
module _ {X : Type 0} (old new : ℕ → List X) (n b : ℕ) (x : X) (within : b < n)
    (is : (k : ℕ) → new k ≡ old k ++ (if b == k then x ∷ [] else [])) where
  abbrev lists : List (List X)
  lists = map old (range_with_len 0 n)

  abbrev longer : List X
  longer = get_or lists b [] ++ x ∷ []

  at : (k : ℕ) → k < n → get_or lists k [] ≡ old k
  at k l = get_or-map-range_with_len old 0 n k k [] l (omega arith)

  many : length lists ≡ n
  many = length-map-range_with_len old 0 n

  here : get_or (set lists b longer) b [] ≡ new b
  here =
      get_or-set_same lists b longer [] (omega (arith, many)) ∙ ap (λ (l : List X). l ++ x ∷ []) (at b within)
      ∙ sym (is b ∙ ap (λ (t : Bool). old b ++ (if t then x ∷ [] else [])) (eq-eqb b b refl))

  there : (k : ℕ) → k < n → (k ≡ b → ⊥) → get_or (set lists b longer) k [] ≡ new k
  there k l other =
      get_or-set_other lists b k longer [] other ∙ at k l
      ∙ sym (is k ∙ ap (λ (t : Bool). old k ++ (if t then x ∷ [] else [])) (ne_eqb b k (λ e. other (sym e))) ∙ append-nil (old k))

  each : (k : ℕ) → k < n → get_or (set lists b longer) k [] ≡ new k
  each k l = elim (cases_eq k b) [ inl e ↦ subst (λ (j : ℕ). get_or (set lists b longer) j [] ≡ new j) (sym e) here | inr other ↦ there k l other ]

  pub one_changed : set lists b longer ≡ map new (range_with_len 0 n)
  one_changed = fill_by_all new (set lists b longer) n [] (length-set lists b longer ∙ many) each

map_agree : {X Y : Type 0} (f g : X → Y) → ((x : X) → f x ≡ g x) → (xs : List X) → map f xs ≡ map g xs
map_agree f g same [] = refl
map_agree f g same (x ∷ xs) = ap (λ y. y ∷ map f xs) (same x) ∙ ap (λ ys. g x ∷ ys) (map_agree f g same xs)

-- the events of each of eight bearers
abbrev pub lists_of : List ScriptLine → List (List Event)
lists_of lines = map (λ k. events_on k lines) (range_with_len 0 BEARERS)

one_or_none : {X : Type 0} (t : Bool) (x : X) → cons_option (if t then Some x else None) [] ≡ (if t then x ∷ [] else [])
one_or_none true x = refl
one_or_none false x = refl

-- a line more, by what happens
with_happened : (lines : List ScriptLine) (line : ScriptLine) (o : Option Happening) → happening_of line ≡ o → IfSome o (λ h. h.bearer < BEARERS)
    → with_happening (lists_of lines) o ≡ lists_of (lines ++ line ∷ [])
with_happened lines line None is few =
    map_agree (λ k. events_on k lines) (λ k. events_on k (lines ++ line ∷ []))
    (λ k. sym (filter_map-append (λ (l : ScriptLine). event_on k (happening_of l)) lines (line ∷ [])
    ∙ ap (λ (o : Option Happening). events_on k lines ++ cons_option (event_on k o) []) is ∙ append-nil (events_on k lines)))
    (range_with_len 0 BEARERS)
with_happened lines line (Some h) is few =
    one_changed (λ k. events_on k lines) (λ k. events_on k (lines ++ line ∷ [])) BEARERS h.bearer h.event few
    (λ k. filter_map-append (λ (l : ScriptLine). event_on k (happening_of l)) lines (line ∷ [])
    ∙ ap (λ (o : Option Happening). events_on k lines ++ cons_option (event_on k o) []) is
    ∙ ap (λ (es : List Event). events_on k lines ++ es) (one_or_none (h.bearer == k) h.event))

pub with_more : (lines : List ScriptLine) (line : ScriptLine) → IfSome (happening_of line) (λ h. h.bearer < BEARERS)
    → with_happening (lists_of lines) (happening_of line) ≡ lists_of (lines ++ line ∷ [])
with_more lines line few = with_happened lines line (happening_of line) refl few
