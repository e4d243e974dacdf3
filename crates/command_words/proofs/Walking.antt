-- What `clap` makes of `gen` and two words of digits.
use Rattle.std.proofs.Common.{◌≡◌, ◌∙◌, ◌==◌, ◌&&◌, ◌||◌, ℕ, Bool, true, false, List, [], ◌∷◌, refl, sym, ap, subst, codes, Some, None, arith, ◌≤◌}
use Rattle.std.specs.Prelude.{if◌then◌else◌, option_and_then}
use Rattle.std.specs.Option.{option_map_or}
use Rattle.std.specs.Char.{is_ascii_digit}
use Rattle.std.specs.Str.{all_ascii_digits, bytes_eq}
use Rattle.std.proofs.lemmas.Bool.{eqb-true, leb-true}
use Rattle.clap.specs.Lexer.{long_of, long_of_rest, short_of, short_of_rest, strip_byte}
use Rattle.clap.specs.Simple.{Shape, built_leaf, inherited, marked_built, subcommand_of, with_leaf_noted}
use Rattle.std.specs.List.{list_all}
use Rattle.clap.specs.Takes.{bundle_passes, default_passes, flag_word_passes, is_valid, level_passes, settle_passes, step_passes, takes, turn_passes, walk_passes}
use Rattle.clap.specs.Walk.{Held, Rule, Text, Walk, after_step, arg_by_index, finished, idle, long_or_other, nothing_held, rows_after, settled, short_or_plain, to_positional, trailing, value, walk, walked, word_met}
use Rattle.clap.proofs.OnLiterals.{clap_on_literals}
use Rattle.command_words.specs.Commands.{generate}
use Rattle.command_words.specs.Numbers.{count_word, is_digits, number_word}
use Rattle.command_words.specs.Reader.{AreFlags, gen, reader, told, told_of}
use Rattle.command_words.proofs.Digits.{and_left, digits_are}

-- a word that isn't a flag
pub record IsPlain (w : Text) : Type 0 where
  pub dashes : bytes_eq w (45 ∷ 45 ∷ []) ≡ false
  pub long : long_of w ≡ None
  pub short : short_of w ≡ None

no_dash : (c : ℕ) → is_ascii_digit c ≡ true → (c == 45) ≡ false
no_dash c digit = by_test (c == 45) refl
  where
    by_test : (b : Bool) → (c == 45) ≡ b → b ≡ false
    by_test false e = refl
    by_test true e =
        let is : c ≡ 45 = eqb-true c 45 e in
        let least : 48 ≤ c = leb-true 48 c (and_left _ _ digit) in
        absurd (omega (arith, is, least))

pub plain : (w : Text) → is_digits w ≡ true → IsPlain w
plain [] digits = let are = digits_are [] digits in absurd (omega (arith, are.0))
plain (c ∷ cs) digits =
    let none = no_dash c (and_left (is_ascii_digit c) (all_ascii_digits cs) (digits_are (c ∷ cs) digits).1) in
    record {
      dashes = ap (λ b. b && bytes_eq cs (45 ∷ [])) none;
      long = ap (λ b. option_and_then long_of_rest (option_and_then (strip_byte 45) (if b then Some cs else None))) none;
      short = ap (λ b. option_and_then short_of_rest (if b then Some cs else None)) none;
    }

-- it goes to the next positional
met : (c : List Rule) (p : ℕ) (w : Text) (h : Held) → IsPlain w → word_met c [] false idle p w h ≡ (h, value)
met c p w h is =
    ap (λ b. if b then (h, trailing p) else long_or_other c idle w (long_of w) h) is.dashes
    ∙ ap (λ o. long_or_other c idle w o h) is.long
    ∙ ap (λ o. short_or_plain c idle w o h) is.short

abbrev at : Held → ℕ → Walk
at h p = record { held = h; waiting = idle; position = p; is_trailing = false; stopped = None }

steps : (c : List Rule) (h : Held) (p : ℕ) (w : Text) → IsPlain w → walked c [] (at h p) w ≡ to_positional c (arg_by_index c p) w (at h p) h
unfolding walked
steps c h p w is = ap (λ m. after_step c w (at h p) m.0 m.1) (met c p w h is)

passes : (s : Shape) (h : Held) (p : ℕ) (w : Text) → IsPlain w → turn_passes s [] (at h p) w ≡ step_passes s p h value
passes s h p w is =
    ap (λ m. (false || ((false || (bytes_eq w (45 ∷ 45 ∷ []) || flag_word_passes s.rules s.args_override_self (long_of w) w h)) && step_passes s p m.0 m.1))) (met s.rules p w h is)
    ∙ ap (λ b. (b || flag_word_passes s.rules s.args_override_self (long_of w) w h) && step_passes s p h value) is.dashes
    ∙ ap (λ o. flag_word_passes s.rules s.args_override_self o w h && step_passes s p h value) is.long
    ∙ ap (λ o. option_map_or (λ flags. bundle_passes s.rules s.args_override_self flags h) o true && step_passes s p h value) is.short

-- `gen` as it is built
abbrev leaf : Shape
leaf = built_leaf (inherited (with_leaf_noted (marked_built reader.top)) gen.top)

abbrev words : Text → Text → List Text
words count start = codes "gen" ∷ count ∷ start ∷ []

module _ (count start : Text) (plain_count : IsPlain count) (plain_start : IsPlain start) where
  abbrev one : Held
  one = record nothing_held { pending = Some (codes "COUNT", count ∷ []) }

  abbrev two : Held
  two = record (settled leaf.rules one) { pending = Some (codes "START", start ∷ []) }

  first_step : walked leaf.rules [] (at nothing_held 1) count ≡ at one 2
  first_step = steps leaf.rules nothing_held 1 count plain_count

  second_step : walked leaf.rules [] (at one 2) start ≡ at two 3
  second_step = steps leaf.rules one 2 start plain_start

  all_steps : walk leaf.rules [] nothing_held (count ∷ start ∷ []) ≡ at two 3
  all_steps = ap (λ w. walked leaf.rules [] w start) first_step ∙ second_step

  enters : subcommand_of reader (words count start) ≡ Some (codes "gen", rows_after leaf.rules [] (count ∷ start ∷ []))
  unfolding clap_on_literals
  enters = refl

  pub tells : told (subcommand_of reader (words count start)) ≡ generate (count_word count) (number_word start)
  tells = ap told enters ∙ ap (λ (w : Walk). told_of (codes "gen") (finished leaf.rules w.held)) all_steps

  passes_all : walk_passes leaf [] (at nothing_held 1) (count ∷ start ∷ []) ≡ true
  unfolding walk_passes
  passes_all =
      ap (λ b. b && (turn_passes leaf [] (walked leaf.rules [] (at nothing_held 1) count) start && true)) (passes leaf nothing_held 1 count plain_count)
      ∙ ap (λ w. turn_passes leaf [] w start && true) first_step
      ∙ ap (λ b. b && true) (passes leaf one 2 start plain_start)

  level : level_passes leaf [] nothing_held (count ∷ start ∷ []) false ≡ true
  level =
      ap (λ (w : Walk). walk_passes leaf [] (at nothing_held 1) (count ∷ start ∷ [])
      && (settle_passes leaf.rules leaf.args_override_self w.held
      && (list_all default_passes leaf.rules && is_valid leaf (finished leaf.rules w.held) false))) all_steps
      ∙ ap (λ b. b && (settle_passes leaf.rules leaf.args_override_self two
      && (list_all default_passes leaf.rules && is_valid leaf (finished leaf.rules two) false))) passes_all

  pub taken : takes reader (words count start) ≡ true
  unfolding clap_on_literals
  taken = ap (λ b. b && true) level

  pub no_flags : AreFlags (subcommand_of reader (words count start))
  no_flags = subst AreFlags (sym (enters ∙ ap (λ (w : Walk). Some (codes "gen", finished leaf.rules w.held)) all_steps)) (tt, tt)
