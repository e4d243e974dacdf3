-- The words that are spelled so, and what `clap` makes of them.
use Rattle.std.proofs.lemmas.Bool.{eq-eqb, eqb-true, leb-true}
use Rattle.std.proofs.Common.{arith, ◌≡◌, ℕ, Bool, true, false, List, [], ◌∷◌, refl, sym, ap, ap₂, ◌∙◌, subst, codes, length, Option, Some, None, inl, inr, ◌==◌, ◌&&◌, ◌||◌}
use Rattle.std.specs.Prelude.{◌⊎◌, IfSome, if◌then◌else◌, nat_le, option_and_then}
use Rattle.std.specs.Str.{bytes_eq}
use Rattle.std.proofs.lemmas.Slice.Eq.{bytes_eq-Decides}
use Rattle.clap.specs.Simple.{subcommand_of}
use Rattle.clap.specs.Takes.{takes}
use Rattle.clap.proofs.OnLiterals.{clap_on_literals}
use Rattle.command_words.specs.Commands.{HasFew, command_of, generate, generate_of, has_flag, has_flags, is_generate, is_number, is_spelled, is_word, kept, low_power, run, word_at}
use Rattle.command_words.specs.Numbers.{count_word, is_count, is_digits, number_word}
use Rattle.command_words.proofs.Digits.{no_number}
use Rattle.command_words.proofs.Walking.{no_flags, plain as is_plain, taken, tells}
use Rattle.std.specs.Prelude.{Box}
use Rattle.std.specs.Box.{box_value}
use Rattle.clap.specs.Matches.{first_value, one_text, subcommand_name_of}
use Rattle.clap.specs.Simple.{subcommand_rows, subcommand_rows_of}
use Rattle.clap.specs.declared.parser.matches.ArgMatches.{ArgMatches}
use Rattle.clap.specs.declared.parser.matches.ArgMatches.TheViews.{out-ArgMatches, out-SubCommand}
use Rattle.clap.specs.declared.parser.matches.SubCommand.{SubCommand}
use Rattle.clap.specs.Walk.{Row, Text, one_of, rows_of}
use Rattle.clap.specs.declared.parser.matches.Found.{Found}
use Rattle.clap.proofs.WalkLemmas.{first_value-rows, one_text-rows}
use Rattle.std.specs.Option.{option_map, option_map_or}
use Rattle.command_words.specs.Reader.{AreFlags, IsFlag, reader, told, told_of}
use Rattle.command_words.specs.Reader.{has_flag as flag_in}
use Rattle.command_words.specs.declared.commands.Command.{Command}
use Rattle.command_words.specs.declared.commands.Command.TheVariants as C
use Rattle.command_words.specs.declared.commands.NodeKind.TheVariants as N

same_text : (a b : List ℕ) → bytes_eq a b ≡ true → a ≡ b
same_text a b e = (bytes_eq-Decides a b).0 e

both_left : (a b : Bool) → (a && b) ≡ true → a ≡ true
both_left true b e = refl
both_left false b e = e

both_right : (a b : Bool) → (a && b) ≡ true → b ≡ true
both_right true b e = e
both_right false b e = absurd cc

and_false : (a : Bool) → (a && false) ≡ false
and_false true = refl
and_false false = refl

one_word : (ws : List (List ℕ)) (a : List ℕ) → is_word ws a ≡ true → ws ≡ a ∷ []
one_word [] a e = absurd cc
one_word (x ∷ []) a e = ap (λ w. w ∷ []) (same_text x a e)
one_word (x ∷ y ∷ ws) a e =
    let n : length (x ∷ y ∷ ws) ≡ 1 = eqb-true (length (x ∷ y ∷ ws)) 1 (both_left (length (x ∷ y ∷ ws) == 1) (bytes_eq x a) e) in
    absurd (omega arith)

two_words : (ws : List (List ℕ)) (c a : List ℕ) → has_flag ws c a ≡ true → ws ≡ c ∷ a ∷ []
two_words [] c a e = absurd cc
two_words (x ∷ []) c a e = absurd cc
two_words (x ∷ y ∷ []) c a e =
    ap₂ (λ v w. v ∷ w ∷ []) (same_text x c (both_left (bytes_eq x c) (bytes_eq y a) e)) (same_text y a (both_right (bytes_eq x c) (bytes_eq y a) e))
two_words (x ∷ y ∷ z ∷ ws) c a e =
    let n : length (x ∷ y ∷ z ∷ ws) ≡ 2 = eqb-true (length (x ∷ y ∷ z ∷ ws)) 2
    (both_left (length (x ∷ y ∷ z ∷ ws) == 2) (bytes_eq x c) (both_left ((length (x ∷ y ∷ z ∷ ws) == 2) && bytes_eq x c) (bytes_eq y a) e)) in
    absurd (omega arith)

three_words : (ws : List (List ℕ)) (a b : List ℕ) → has_flags ws a b ≡ true → ws ≡ codes "run" ∷ a ∷ b ∷ []
three_words [] a b e = absurd cc
three_words (x ∷ []) a b e = absurd cc
three_words (x ∷ y ∷ []) a b e = absurd cc
three_words (x ∷ y ∷ z ∷ []) a b e =
    let front = both_left (bytes_eq x (codes "run") && bytes_eq y a) (bytes_eq z b) e in
    let first : x ≡ codes "run" = same_text x (codes "run") (both_left (bytes_eq x (codes "run")) (bytes_eq y a) front) in
    let second : y ≡ a = same_text y a (both_right (bytes_eq x (codes "run")) (bytes_eq y a) front) in
    let third : z ≡ b = same_text z b (both_right (bytes_eq x (codes "run") && bytes_eq y a) (bytes_eq z b) e) in
    rw (first, second, third) refl
three_words (x ∷ y ∷ z ∷ w ∷ ws) a b e =
    let n : length (x ∷ y ∷ z ∷ w ∷ ws) ≡ 3 = eqb-true (length (x ∷ y ∷ z ∷ w ∷ ws)) 3
    (both_left (length (x ∷ y ∷ z ∷ w ∷ ws) == 3) (bytes_eq x (codes "run"))
    (both_left ((length (x ∷ y ∷ z ∷ w ∷ ws) == 3) && bytes_eq x (codes "run")) (bytes_eq y a)
    (both_left ((length (x ∷ y ∷ z ∷ w ∷ ws) == 3) && bytes_eq x (codes "run") && bytes_eq y a) (bytes_eq z b) e))) in
    absurd (omega arith)

-- What `clap` makes of the words of each command.

-- whatever is told of these words, where it is what `clap` tells, the command is theirs; and they are taken
pub record IsRight (ws : List (List ℕ)) : Type 0 where
  pub exact : (o : Option Command) → (AreFlags (subcommand_of reader ws) → o ≡ told (subcommand_of reader ws)) → kept o ws ≡ command_of ws
  pub taken : (takes reader ws ≡ true → ⊥) → None ≡ command_of ws

abbrev plain : List (List ℕ)
plain = codes "run" ∷ []

abbrev hexed : List (List ℕ)
hexed = codes "run" ∷ codes "--hex" ∷ []

abbrev olden : List (List ℕ)
olden = codes "run" ∷ codes "--old" ∷ []

abbrev hex_old : List (List ℕ)
hex_old = codes "run" ∷ codes "--hex" ∷ codes "--old" ∷ []

abbrev old_hex : List (List ℕ)
old_hex = codes "run" ∷ codes "--old" ∷ codes "--hex" ∷ []

abbrev low : List (List ℕ)
low = codes "lpn" ∷ []

abbrev low_hexed : List (List ℕ)
low_hexed = codes "lpn" ∷ codes "--hex" ∷ []

abbrev audited : List (List ℕ)
audited = codes "audit" ∷ []

right_plain : IsRight plain
unfolding clap_on_literals
right_plain = record { exact = λ o h. ap (λ c. kept c plain) (h (inr refl, inr refl)); taken = λ h. absurd (h refl) }

right_hexed : IsRight hexed
unfolding clap_on_literals
right_hexed = record { exact = λ o h. ap (λ c. kept c hexed) (h (inl refl, inr refl)); taken = λ h. absurd (h refl) }

right_olden : IsRight olden
unfolding clap_on_literals
right_olden = record { exact = λ o h. ap (λ c. kept c olden) (h (inr refl, inl refl)); taken = λ h. absurd (h refl) }

right_hex_old : IsRight hex_old
unfolding clap_on_literals
right_hex_old = record { exact = λ o h. ap (λ c. kept c hex_old) (h (inl refl, inl refl)); taken = λ h. absurd (h refl) }

right_old_hex : IsRight old_hex
unfolding clap_on_literals
right_old_hex = record { exact = λ o h. ap (λ c. kept c old_hex) (h (inl refl, inl refl)); taken = λ h. absurd (h refl) }

right_low : IsRight low
unfolding clap_on_literals
right_low = record { exact = λ o h. ap (λ c. kept c low) (h (inr refl, tt)); taken = λ h. absurd (h refl) }

right_low_hexed : IsRight low_hexed
unfolding clap_on_literals
right_low_hexed = record { exact = λ o h. ap (λ c. kept c low_hexed) (h (inl refl, tt)); taken = λ h. absurd (h refl) }

right_audited : IsRight audited
unfolding clap_on_literals
right_audited = record { exact = λ o h. ap (λ c. kept c audited) (h (tt, tt)); taken = λ h. absurd (h refl) }

-- Words that no command has.

no_run : (ws : List (List ℕ)) → is_spelled (run false false) ws ≡ false → is_spelled (run true false) ws ≡ false → is_spelled (run false true) ws ≡ false
    → is_spelled (run true true) ws ≡ false → (hex old : Bool) → is_spelled (run hex old) ws ≡ false
no_run ws a b c d false false = a
no_run ws a b c d true false = b
no_run ws a b c d false true = c
no_run ws a b c d true true = d

no_low_power : (ws : List (List ℕ)) → is_spelled (low_power false) ws ≡ false → is_spelled (low_power true) ws ≡ false
    → (hex old : Bool) → is_spelled (C.Run N.LowPower (record { hex = hex; old = old })) ws ≡ false
no_low_power ws a b hex true = refl
no_low_power ws a b false false = a
no_low_power ws a b true false = b

kept_not : (ws : List (List ℕ)) (c : Command) → is_spelled c ws ≡ false → kept (Some c) ws ≡ None
kept_not ws c e = ap (λ t. if t then Some c else None) e

none_kept : (ws : List (List ℕ)) → ((hex old : Bool) → is_spelled (run hex old) ws ≡ false)
    → ((hex old : Bool) → is_spelled (C.Run N.LowPower (record { hex = hex; old = old })) ws ≡ false) → is_spelled C.Audit ws ≡ false
    → ((count start : ℕ) → is_spelled (C.Generate count start) ws ≡ false) → (o : Option Command) → kept o ws ≡ None
none_kept ws a l e g None = refl
none_kept ws a l e g (Some (C.Run N.Node flags)) = kept_not ws (C.Run N.Node flags) (a flags.hex flags.old)
none_kept ws a l e g (Some (C.Run N.LowPower flags)) = kept_not ws (C.Run N.LowPower flags) (l flags.hex flags.old)
none_kept ws a l e g (Some C.Audit) = kept_not ws C.Audit e
none_kept ws a l e g (Some (C.Generate count start)) = kept_not ws (C.Generate count start) (g count start)

-- The words of `gen`.

abbrev gen_words : List ℕ → List ℕ → List (List ℕ)
gen_words count start = codes "gen" ∷ count ∷ start ∷ []

gen_is : (ws : List (List ℕ)) → is_generate ws ≡ true → ws ≡ gen_words (word_at ws 1) (word_at ws 2)
gen_is [] e = absurd cc
gen_is (x ∷ []) e = absurd cc
gen_is (x ∷ y ∷ []) e = absurd cc
gen_is (x ∷ y ∷ z ∷ []) e = ap (λ v. v ∷ y ∷ z ∷ []) (same_text x (codes "gen") e)
gen_is (x ∷ y ∷ z ∷ w ∷ ws) e =
    let n : length (x ∷ y ∷ z ∷ w ∷ ws) ≡ 3 = eqb-true (length (x ∷ y ∷ z ∷ w ∷ ws)) 3 (both_left (length (x ∷ y ∷ z ∷ w ∷ ws) == 3) (bytes_eq x (codes "gen")) e) in
    absurd (omega arith)

-- a word that has a number is digits
count_digits : (w : List ℕ) (n : ℕ) → count_word w ≡ Some n → is_digits w ≡ true
count_digits w n e = by_test (is_digits w) refl
  where
    by_test : (b : Bool) → is_digits w ≡ b → b ≡ true
    by_test true d = refl
    by_test false d = let bad : None ≡ Some n = ap (option_and_then (λ m. if is_count m then Some m else None)) (no_number w d) ∙ e in absurd cc

number_digits : (w : List ℕ) (n : ℕ) → number_word w ≡ Some n → is_digits w ≡ true
number_digits w n e = by_test (is_digits w) refl
  where
    by_test : (b : Bool) → is_digits w ≡ b → b ≡ true
    by_test true d = refl
    by_test false d = let bad : None ≡ Some n = no_number w d ∙ e in absurd cc

-- a command that both numbers give is kept
numbers_kept : (count start : List ℕ) (a b : Option ℕ) → count_word count ≡ a → number_word start ≡ b
    → kept (generate a b) (gen_words count start) ≡ generate a b
numbers_kept count start None b e f = refl
numbers_kept count start (Some m) None e f = refl
numbers_kept count start (Some m) (Some n) e f =
    ap (λ t. if t then Some (C.Generate m n) else None)
    (ap (λ o. is_number o m && is_number (number_word start) n) e ∙ ap (λ o. (m == m) && is_number o n) f ∙ ap₂ ◌&&◌ (eq-eqb m m refl) (eq-eqb n n refl))

-- else no command is spelled so
no_numbers : (count start : List ℕ) (a b : Option ℕ) → count_word count ≡ a → number_word start ≡ b → generate a b ≡ None
    → (m n : ℕ) → is_spelled (C.Generate m n) (gen_words count start) ≡ false
no_numbers count start None b e f g m n = ap (λ o. is_number o m && is_number (number_word start) n) e
no_numbers count start (Some x) None e f g m n = ap (λ o. is_number o m && is_number (number_word start) n) e ∙ ap (λ o. (x == m) && is_number o n) f ∙ and_false (x == m)
no_numbers count start (Some x) (Some y) e f g m n = absurd cc

right_numbers : (count start : List ℕ) (m n : ℕ) → count_word count ≡ Some m → number_word start ≡ Some n → IsRight (gen_words count start)
right_numbers count start m n e f =
    let plain_count = is_plain count (count_digits count m e) in
    let plain_start = is_plain start (number_digits start n f) in
    record {
      exact = λ o h. ap (λ c. kept c (gen_words count start)) (h (no_flags count start plain_count plain_start) ∙ tells count start plain_count plain_start)
          ∙ numbers_kept count start (count_word count) (number_word start) refl refl;
      taken = λ h. absurd (h (taken count start plain_count plain_start));
    }

right_others : (count start : List ℕ) → generate (count_word count) (number_word start) ≡ None → IsRight (gen_words count start)
right_others count start none = record {
  exact = λ o h. none_kept (gen_words count start) (no_run (gen_words count start) refl refl refl refl) (no_low_power (gen_words count start) refl refl) refl
      (no_numbers count start (count_word count) (number_word start) refl refl none) o ∙ sym none;
  taken = λ h. sym none;
}

right_gen : (count start : List ℕ) (a b : Option ℕ) → count_word count ≡ a → number_word start ≡ b → IsRight (gen_words count start)
right_gen count start None b e f = right_others count start (ap (λ o. generate o (number_word start)) e)
right_gen count start (Some m) None e f = right_others count start (ap₂ generate e f)
right_gen count start (Some m) (Some n) e f = right_numbers count start m n e f

right_none : (ws : List (List ℕ)) → is_spelled (run false false) ws ≡ false → is_spelled (run true false) ws ≡ false → is_spelled (run false true) ws ≡ false
    → is_spelled (run true true) ws ≡ false → is_spelled (low_power false) ws ≡ false → is_spelled (low_power true) ws ≡ false
    → is_spelled C.Audit ws ≡ false → is_generate ws ≡ false → IsRight ws
right_none ws a b c d k l e g =
    let none : command_of ws ≡ None = rw (a, b, c, d, k, l, e, g) refl in
    record {
      exact = λ o h. none_kept ws (no_run ws a b c d) (no_low_power ws k l) e (λ count start. ap (λ t. t && is_number (count_word (word_at ws 1)) count && is_number (number_word (word_at ws 2)) start) g) o ∙ sym none;
      taken = λ h. sym none;
    }

either : (a b : Bool) → (a || b) ≡ true → (a ≡ true) ⊎ (b ≡ true)
either true b e = inl refl
either false b e = inr e

test : (b : Bool) → (b ≡ true) ⊎ (b ≡ false)
test true = inl refl
test false = inr refl

pub right : (ws : List (List ℕ)) → IsRight ws
right ws = elim (test (is_spelled (run false false) ws)) [
  | inl a ↦ subst IsRight (sym (one_word ws (codes "run") a)) right_plain
  | inr a ↦ elim (test (is_spelled (run true false) ws)) [
    | inl b ↦ subst IsRight (sym (two_words ws (codes "run") (codes "--hex") b)) right_hexed
    | inr b ↦ elim (test (is_spelled (run false true) ws)) [
      | inl c ↦ subst IsRight (sym (two_words ws (codes "run") (codes "--old") c)) right_olden
      | inr c ↦ elim (test (is_spelled (run true true) ws)) [
        | inl d ↦ elim (either (has_flags ws (codes "--hex") (codes "--old")) (has_flags ws (codes "--old") (codes "--hex")) d) [
          | inl d ↦ subst IsRight (sym (three_words ws (codes "--hex") (codes "--old") d)) right_hex_old
          | inr d ↦ subst IsRight (sym (three_words ws (codes "--old") (codes "--hex") d)) right_old_hex
        ]
        | inr d ↦ elim (test (is_spelled (low_power false) ws)) [
          | inl k ↦ subst IsRight (sym (one_word ws (codes "lpn") k)) right_low
          | inr k ↦ elim (test (is_spelled (low_power true) ws)) [
            | inl l ↦ subst IsRight (sym (two_words ws (codes "lpn") (codes "--hex") l)) right_low_hexed
            | inr l ↦ elim (test (is_spelled C.Audit ws)) [
              | inl e ↦ subst IsRight (sym (one_word ws (codes "audit") e)) right_audited
              | inr e ↦ elim (test (is_generate ws)) [
                | inl g ↦ subst IsRight (sym (gen_is ws g)) (right_gen (word_at ws 1) (word_at ws 2) (count_word (word_at ws 1)) (number_word (word_at ws 2)) refl refl)
                | inr g ↦ right_none ws a b c d k l e g
              ]
            ]
          ]
        ]
      ]
    ]
  ]
]

-- The number of lines.

count_few : (w : List ℕ) (o : Option ℕ) → IfSome (generate (count_word w) o) HasFew
count_few w o = by_number (number_word w)
  where
    by_test : (n : ℕ) (b : Bool) → is_count n ≡ b → IfSome (generate (if b then Some n else None) o) HasFew
    by_test n false e = tt
    by_test n true e = by_start o
      where
        by_start : (p : Option ℕ) → IfSome (generate (Some n) p) HasFew
        by_start None = tt
        by_start (Some start) = (leb-true 1 n (both_left (nat_le 1 n) (nat_le n 32768) e), leb-true n 32768 (both_right (nat_le 1 n) (nat_le n 32768) e))

    by_number : (p : Option ℕ) → IfSome (generate (option_and_then (λ n. if is_count n then Some n else None) p) o) HasFew
    by_number None = tt
    by_number (Some n) = by_test n (is_count n) refl

pub few : (ws : List (List ℕ)) → IfSome (command_of ws) HasFew
few ws =
    by_tests (is_spelled (run false false) ws) (is_spelled (run true false) ws) (is_spelled (run false true) ws) (is_spelled (run true true) ws)
    (is_spelled (low_power false) ws) (is_spelled (low_power true) ws) (is_spelled C.Audit ws) (is_generate ws)
  where
    by_tests : (a b c d k l e g : Bool) → IfSome (if a then Some (run false false) else if b then Some (run true false) else if c then Some (run false true)
        else if d then Some (run true true) else if k then Some (low_power false) else if l then Some (low_power true)
        else if e then Some C.Audit else if g then generate_of ws else None) HasFew
    by_tests true b c d k l e g = tt
    by_tests false true c d k l e g = tt
    by_tests false false true d k l e g = tt
    by_tests false false false true k l e g = tt
    by_tests false false false false true l e g = tt
    by_tests false false false false false true e g = tt
    by_tests false false false false false false true g = tt
    by_tests false false false false false false false true = count_few (word_at ws 1) (number_word (word_at ws 2))
    by_tests false false false false false false false false = tt

-- What is told of the flags.

flag : (f : Found) (id : Text) (b : Bool) → (one_text f id ≡ None → b ≡ false) → (one_text f id ≡ Some (codes "true") → b ≡ true)
    → (one_text f id ≡ Some (codes "false") → b ≡ false) → IsFlag (one_of id (rows_of f)) → b ≡ flag_in id (rows_of f)
flag f id b none one zero is = go (one_of id (rows_of f)) (one_text-rows f id) is
  where
    go : (o : Option Text) → one_text f id ≡ o → IsFlag o → b ≡ option_map_or (λ text. bytes_eq text (codes "true")) o false
    go None e h = none e
    go (Some t) e (inl h) = one (e ∙ ap Some h) ∙ rw h refl
    go (Some t) e (inr h) = zero (e ∙ ap Some h) ∙ rw h refl

named : {Z : Type 0} (o : Option (Box SubCommand Z)) → option_map (λ b. (out-SubCommand (box_value b)).name.now) o ≡ option_map (λ p. p.0) (subcommand_rows o)
named None = refl
named (Some b) = refl

-- the name of a subcommand stands before its rows
pub name_is : (m : ArgMatches) → subcommand_name_of m ≡ option_map (λ p. p.0) (subcommand_rows_of m)
name_is m = named (out-ArgMatches m).subcommand

pub told_run : (o : Option (Text × List Row)) (f : Found) (hex old : Bool) → option_map (λ p. p.0) o ≡ Some (codes "run") → option_map (λ p. p.1) o ≡ Some (rows_of f)
    → (one_text f (codes "hex") ≡ None → hex ≡ false) → (one_text f (codes "hex") ≡ Some (codes "true") → hex ≡ true) → (one_text f (codes "hex") ≡ Some (codes "false") → hex ≡ false)
    → (one_text f (codes "old") ≡ None → old ≡ false) → (one_text f (codes "old") ≡ Some (codes "true") → old ≡ true) → (one_text f (codes "old") ≡ Some (codes "false") → old ≡ false)
    → AreFlags o → Some (run hex old) ≡ told o
told_run None f hex old name rows a b c d e g flags = absurd cc
told_run (Some p) f hex old name rows a b c d e g flags =
    let is : p.0 ≡ codes "run" = cc in
    let are : p.1 ≡ rows_of f = cc in
    let one : hex ≡ flag_in (codes "hex") (rows_of f) = flag f (codes "hex") hex a b c (subst (λ r. IsFlag (one_of (codes "hex") r)) are flags.0) in
    let two : old ≡ flag_in (codes "old") (rows_of f) = flag f (codes "old") old d e g (subst (λ r. IsFlag (one_of (codes "old") r)) are flags.1) in
    ap₂ (λ x y. Some (run x y)) one two ∙ rw (is, are) refl

pub told_low : (o : Option (Text × List Row)) (f : Found) (hex : Bool) → option_map (λ p. p.0) o ≡ Some (codes "lpn") → option_map (λ p. p.1) o ≡ Some (rows_of f)
    → (one_text f (codes "hex") ≡ None → hex ≡ false) → (one_text f (codes "hex") ≡ Some (codes "true") → hex ≡ true) → (one_text f (codes "hex") ≡ Some (codes "false") → hex ≡ false)
    → AreFlags o → Some (low_power hex) ≡ told o
told_low None f hex name rows a b c flags = absurd cc
told_low (Some p) f hex name rows a b c flags =
    let is : p.0 ≡ codes "lpn" = cc in
    let are : p.1 ≡ rows_of f = cc in
    let one : hex ≡ flag_in (codes "hex") (rows_of f) = flag f (codes "hex") hex a b c (subst (λ r. IsFlag (one_of (codes "hex") r)) are flags.0) in
    ap (λ x. Some (low_power x)) one ∙ rw (is, are) refl

-- and of the numbers of `gen`
pub told_gen : (o : Option (Text × List Row)) (f : Found) → option_map (λ p. p.0) o ≡ Some (codes "gen") → option_map (λ p. p.1) o ≡ Some (rows_of f)
    → generate (option_and_then count_word (first_value f (codes "COUNT"))) (option_and_then number_word (first_value f (codes "START"))) ≡ told o
told_gen None f name rows = absurd cc
told_gen (Some p) f name rows =
    let is : p.0 ≡ codes "gen" = cc in
    let are : p.1 ≡ rows_of f = cc in
    ap₂ (λ c s. generate (option_and_then count_word c) (option_and_then number_word s)) (first_value-rows f (codes "COUNT")) (first_value-rows f (codes "START"))
    ∙ ap (told_of (codes "gen")) (sym are) ∙ ap (λ name. told_of name p.1) (sym is)
