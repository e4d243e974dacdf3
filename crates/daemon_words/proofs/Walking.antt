-- What `clap` makes of words that are no flags, and of a command's words one after another.
use Rattle.std.proofs.Common.{◌≡◌, ◌∙◌, ◌==◌, ◌&&◌, ◌||◌, ℕ, Bool, true, false, List, [], ◌∷◌, refl, ap, ap₂, Some, None}
use Rattle.std.specs.Prelude.{if◌then◌else◌, fold, not, option_and_then}
use Rattle.std.specs.Option.{option_map_or}
use Rattle.std.specs.Str.{bytes_eq}
use Rattle.clap.specs.Lexer.{long_of, long_of_rest, short_of, short_of_rest, strip_byte}
use Rattle.clap.specs.Simple.{Shape}
use Rattle.clap.specs.Takes.{bundle_passes, flag_word_passes, step_passes, turn_passes, walk_passes}
use Rattle.clap.specs.Walk.{Held, Rule, Text, Walk, after_step, arg_by_id, arg_by_index, idle, long_or_other, next, option, option_word, short_or_plain, to_positional, trailing, value, walked, word_met}
use Rattle.daemon_words.specs.Commands.{is_plain}

-- a word that isn't a flag
pub record IsPlain (w : Text) : Type 0 where
  pub dashes : bytes_eq w (45 ∷ 45 ∷ []) ≡ false
  pub long : long_of w ≡ None
  pub short : short_of w ≡ None

is_not : (b : Bool) → not b ≡ true → b ≡ false
is_not true e = absurd cc
is_not false e = refl

pub plain : (w : Text) → is_plain w ≡ true → IsPlain w
plain [] e = absurd cc
plain (c ∷ cs) e =
    let none : (c == 45) ≡ false = is_not (c == 45) e in
    record {
      dashes = ap (λ b. b && bytes_eq cs (45 ∷ [])) none;
      long = ap (λ b. option_and_then long_of_rest (option_and_then (strip_byte 45) (if b then Some cs else None))) none;
      short = ap (λ b. option_and_then short_of_rest (if b then Some cs else None)) none;
    }

-- where nothing waits, it goes to the next positional
met : (c : List Rule) (p : ℕ) (w : Text) (h : Held) → IsPlain w → word_met c [] false idle p w h ≡ (h, value)
met c p w h is =
    ap (λ b. if b then (h, trailing p) else long_or_other c idle w (long_of w) h) is.dashes
    ∙ ap (λ o. long_or_other c idle w o h) is.long
    ∙ ap (λ o. short_or_plain c idle w o h) is.short

-- where an option waits, it is the option's
given : (c : List Rule) (id : Text) (p : ℕ) (w : Text) (h : Held) → IsPlain w
    → word_met c [] false (option id) p w h ≡ ((option_word (arg_by_id c id) id w h).0, next (option_word (arg_by_id c id) id w h).1)
given c id p w h is =
    ap (λ b. if b then (h, trailing p) else long_or_other c (option id) w (long_of w) h) is.dashes
    ∙ ap (λ o. long_or_other c (option id) w o h) is.long
    ∙ ap (λ o. short_or_plain c (option id) w o h) is.short

abbrev pub at : Held → ℕ → Walk
at h p = record { held = h; waiting = idle; position = p; is_trailing = false; stopped = None }

abbrev pub waits : Held → ℕ → Text → Walk
waits h p id = record { held = h; waiting = option id; position = p; is_trailing = false; stopped = None }

pub steps : (c : List Rule) (h : Held) (p : ℕ) (w : Text) → IsPlain w → walked c [] (at h p) w ≡ to_positional c (arg_by_index c p) w (at h p) h
unfolding walked
steps c h p w is = ap (λ m. after_step c w (at h p) m.0 m.1) (met c p w h is)

pub takes_word : (c : List Rule) (h : Held) (p : ℕ) (id w : Text) → IsPlain w
    → walked c [] (waits h p id) w ≡ after_step c w (waits h p id) (option_word (arg_by_id c id) id w h).0 (next (option_word (arg_by_id c id) id w h).1)
unfolding walked
takes_word c h p id w is = ap (λ m. after_step c w (waits h p id) m.0 m.1) (given c id p w h is)

pub passes : (s : Shape) (h : Held) (p : ℕ) (w : Text) → IsPlain w → turn_passes s [] (at h p) w ≡ step_passes s p h value
passes s h p w is =
    ap (λ m. (false || ((false || (bytes_eq w (45 ∷ 45 ∷ []) || flag_word_passes s.rules s.args_override_self (long_of w) w h)) && step_passes s p m.0 m.1))) (met s.rules p w h is)
    ∙ ap (λ b. (b || flag_word_passes s.rules s.args_override_self (long_of w) w h) && step_passes s p h value) is.dashes
    ∙ ap (λ o. flag_word_passes s.rules s.args_override_self o w h && step_passes s p h value) is.long
    ∙ ap (λ o. option_map_or (λ flags. bundle_passes s.rules s.args_override_self flags h) o true && step_passes s p h value) is.short

pub passes_word : (s : Shape) (h : Held) (p : ℕ) (id w : Text) → IsPlain w → turn_passes s [] (waits h p id) w ≡ true
passes_word s h p id w is =
    ap (λ m. (false || ((false || (bytes_eq w (45 ∷ 45 ∷ []) || flag_word_passes s.rules s.args_override_self (long_of w) w h)) && step_passes s p m.0 m.1))) (given s.rules id p w h is)
    ∙ ap (λ b. (b || flag_word_passes s.rules s.args_override_self (long_of w) w h) && true) is.dashes
    ∙ ap (λ o. flag_word_passes s.rules s.args_override_self o w h && true) is.long
    ∙ ap (λ o. option_map_or (λ flags. bundle_passes s.rules s.args_override_self flags h) o true && true) is.short

-- The words are walked from one state to another, and all pass.
pub record Goes (s : Shape) (from : Walk) (words : List Text) (to : Walk) : Type 0 where
  pub walks : fold (walked s.rules []) from words ≡ to
  pub passes : walk_passes s [] from words ≡ true

pub no_more : (s : Shape) (w : Walk) → Goes s w [] w
unfolding walk_passes
no_more s w = record { walks = refl; passes = refl }

pub one_more : (s : Shape) (from mid to : Walk) (word : Text) (words : List Text) → walked s.rules [] from word ≡ mid → turn_passes s [] from word ≡ true
    → Goes s mid words to → Goes s from (word ∷ words) to
unfolding walk_passes
one_more s from mid to word words e turn more = record {
  walks = ap (λ w. fold (walked s.rules []) w words) e ∙ more.walks;
  passes = ap₂ ◌&&◌ turn (ap (λ w. walk_passes s [] w words) e ∙ more.passes);
}
