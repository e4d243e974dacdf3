-- The words that are spelled so, and what `clap` makes of them.
use Rattle.std.proofs.lemmas.Bool.{eqb-true}
use Rattle.std.proofs.lemmas.Slice.Eq.{bytes_eq-Decides}
use Rattle.std.proofs.Common.{arith, ◌≡◌, ◌==◌, ◌&&◌, ◌∙◌, ℕ, Bool, true, false, List, [], ◌∷◌, refl, sym, ap, ap₂, subst, codes, drop, length, Option, Some, None, inl, inr}
use Rattle.std.specs.Prelude.{◌⊎◌, Box, if◌then◌else◌, slice_index_or}
use Rattle.std.specs.Box.{box_value}
use Rattle.std.specs.Option.{option_map, option_map_or}
use Rattle.std.specs.Str.{bytes_eq}
use Rattle.clap.specs.Matches.{first_value, one_text, subcommand_name_of}
use Rattle.clap.specs.Simple.{subcommand_of, subcommand_rows, subcommand_rows_of}
use Rattle.clap.specs.Takes.{takes}
use Rattle.clap.specs.Walk.{Row, Text, one_of, rows_of}
use Rattle.clap.specs.declared.parser.matches.ArgMatches.{ArgMatches}
use Rattle.clap.specs.declared.parser.matches.ArgMatches.TheViews.{out-ArgMatches, out-SubCommand}
use Rattle.clap.specs.declared.parser.matches.Found.{Found}
use Rattle.clap.specs.declared.parser.matches.SubCommand.{SubCommand}
use Rattle.clap.proofs.WalkLemmas.{first_value-rows, one_text-rows}
use Rattle.daemon_words.specs.Commands.{all_fit, bearers, bearers_hex, check, file_command, fits, hex, hex_bearers, init, init_with, is_like, is_plain, is_run, is_spelled, kept, plain, run_with, show, word_at}
use Rattle.daemon_words.specs.Numbers.{bearers_word, node_numbers}
use Rattle.daemon_words.specs.Reader.{AreFlags, IsFlag, has_flag, read_bearers, read_numbers, reader, told, told_of}
use Rattle.daemon_words.specs.declared.commands.Command.{Command}
use Rattle.daemon_words.specs.declared.commands.Command.TheVariants as C
use Rattle.daemon_words.specs.declared.numbers.NodeNumbers.{NodeNumbers}
use Rattle.daemon_words.proofs.Forms.{Tells, bearers_hex_tells, bearers_tells, check_tells, hex_bearers_tells, hex_tells, init_tells, plain_tells, show_tells}
use Rattle.daemon_words.proofs.Walking.{plain as is_word}

-- Words of a form are those that stand in it, and plain ones.

both_left : (a b : Bool) → (a && b) ≡ true → a ≡ true
both_left true b e = refl
both_left false b e = e

both_right : (a b : Bool) → (a && b) ≡ true → b ≡ true
both_right true b e = e
both_right false b e = absurd cc

abbrev or_word : Text → Text → Text
or_word [] w = w
or_word (c ∷ cs) w = c ∷ cs

abbrev filled : List Text → List Text → List Text
filled [] ws = []
filled (t ∷ form) ws = or_word t (slice_index_or ws 0 []) ∷ filled form (drop 1 ws)

word_is : (t w : Text) → fits t w ≡ true → w ≡ or_word t w
word_is [] w e = refl
word_is (c ∷ cs) w e = (bytes_eq-Decides w (c ∷ cs)).0 e

words_are : (form ws : List Text) → length ws ≡ length form → all_fit form ws ≡ true → ws ≡ filled form ws
words_are [] [] n e = refl
words_are [] (w ∷ ws) n e = absurd (omega (arith, n))
words_are (t ∷ form) [] n e = absurd cc
words_are (t ∷ form) (w ∷ ws) n e =
    let fewer : length ws ≡ length form = omega (arith, n) in
    ap₂ ◌∷◌ (word_is t w (both_left (fits t w) (all_fit form ws) e)) (words_are form ws fewer (both_right (fits t w) (all_fit form ws) e))

pub like_is : (form ws : List Text) → is_like form ws ≡ true → ws ≡ filled form ws
like_is form ws e =
    words_are form ws (eqb-true (length ws) (length form) (both_left (length ws == length form) (all_fit form ws) e)) (both_right (length ws == length form) (all_fit form ws) e)

-- what holds of the words that were filled in holds of the words
by_form : (form ws : List Text) (P : List Text → Type 0) → is_like form ws ≡ true → (is_like form (filled form ws) ≡ true → P (filled form ws)) → P ws
by_form form ws P e h =
    let is = like_is form ws e in
    subst P (sym is) (h (subst (λ v. is_like form v ≡ true) is e))

-- What is told of the words of a form.

tells_init : (ws : List Text) → is_like init ws ≡ true
    → Tells ws (init_with (node_numbers (word_at ws 2) (word_at ws 3) (word_at ws 4) (word_at ws 5) (word_at ws 6)))
tells_init ws e = by_form init ws (λ ws. Tells ws (init_with (node_numbers (word_at ws 2) (word_at ws 3) (word_at ws 4) (word_at ws 5) (word_at ws 6)))) e
    (λ h. let v = filled init ws in from (word_at v 1) (word_at v 2) (word_at v 3) (word_at v 4) (word_at v 5) (word_at v 6) h)
  where
    from : (a b c d f g : Text) → (is_plain a && (is_plain b && (is_plain c && (is_plain d && (is_plain f && (is_plain g && true)))))) ≡ true
        → Tells (codes "init" ∷ a ∷ b ∷ c ∷ d ∷ f ∷ g ∷ []) (init_with (node_numbers b c d f g))
    from a b c d f g h =
        let h1 = both_right (is_plain a) _ h in
        let h2 = both_right (is_plain b) _ h1 in
        let h3 = both_right (is_plain c) _ h2 in
        let h4 = both_right (is_plain d) _ h3 in
        let h5 = both_right (is_plain f) _ h4 in
        init_tells a b c d f g (is_word a (both_left (is_plain a) _ h)) (is_word b (both_left (is_plain b) _ h1)) (is_word c (both_left (is_plain c) _ h2))
        (is_word d (both_left (is_plain d) _ h3)) (is_word f (both_left (is_plain f) _ h4)) (is_word g (both_left (is_plain g) _ h5))

tells_plain : (ws : List Text) → is_like plain ws ≡ true → Tells ws (run_with false (Some 1))
tells_plain ws e = by_form plain ws (λ ws. Tells ws (run_with false (Some 1))) e
    (λ h. let a = word_at (filled plain ws) 1 in plain_tells a (is_word a (both_left (is_plain a) true h)))

tells_hex : (ws : List Text) → is_like hex ws ≡ true → Tells ws (run_with true (Some 1))
tells_hex ws e = by_form hex ws (λ ws. Tells ws (run_with true (Some 1))) e
    (λ h. let a = word_at (filled hex ws) 1 in hex_tells a (is_word a (both_left (is_plain a) true h)))

tells_bearers : (ws : List Text) → is_like bearers ws ≡ true → Tells ws (run_with false (bearers_word (word_at ws 3)))
tells_bearers ws e = by_form bearers ws (λ ws. Tells ws (run_with false (bearers_word (word_at ws 3)))) e
    (λ h. let v = filled bearers ws in let a = word_at v 1 in let n = word_at v 3 in
    bearers_tells a (is_word a (both_left (is_plain a) (is_plain n && true) h)) n (is_word n (both_left (is_plain n) true (both_right (is_plain a) (is_plain n && true) h))))

tells_hex_bearers : (ws : List Text) → is_like hex_bearers ws ≡ true → Tells ws (run_with true (bearers_word (word_at ws 4)))
tells_hex_bearers ws e = by_form hex_bearers ws (λ ws. Tells ws (run_with true (bearers_word (word_at ws 4)))) e
    (λ h. let v = filled hex_bearers ws in let a = word_at v 1 in let n = word_at v 4 in
    hex_bearers_tells a (is_word a (both_left (is_plain a) (is_plain n && true) h)) n (is_word n (both_left (is_plain n) true (both_right (is_plain a) (is_plain n && true) h))))

tells_bearers_hex : (ws : List Text) → is_like bearers_hex ws ≡ true → Tells ws (run_with true (bearers_word (word_at ws 3)))
tells_bearers_hex ws e = by_form bearers_hex ws (λ ws. Tells ws (run_with true (bearers_word (word_at ws 3)))) e
    (λ h. let v = filled bearers_hex ws in let a = word_at v 1 in let n = word_at v 3 in
    bearers_hex_tells a (is_word a (both_left (is_plain a) (is_plain n && true) h)) n (is_word n (both_left (is_plain n) true (both_right (is_plain a) (is_plain n && true) h))))

tells_show : (ws : List Text) → is_like show ws ≡ true → Tells ws (Some C.Show)
tells_show ws e = by_form show ws (λ ws. Tells ws (Some C.Show)) e
    (λ h. let a = word_at (filled show ws) 1 in show_tells a (is_word a (both_left (is_plain a) true h)))

tells_check : (ws : List Text) → is_like check ws ≡ true → Tells ws (Some C.Check)
tells_check ws e = by_form check ws (λ ws. Tells ws (Some C.Check)) e
    (λ h. let a = word_at (filled check ws) 1 in check_tells a (is_word a (both_left (is_plain a) true h)))

-- Whatever is told of these words, where it is what `clap` tells, the command is theirs; and they are taken.
pub record IsRight (ws : List Text) : Type 0 where
  pub exact : (o : Option Command) → (AreFlags (subcommand_of reader ws) → o ≡ told (subcommand_of reader ws)) → kept o ws ≡ file_command ws
  pub taken : (takes reader ws ≡ true → ⊥) → None ≡ file_command ws

right_told : (ws : List Text) (o : Option Command) → Tells ws o → file_command ws ≡ o → kept o ws ≡ o → IsRight ws
right_told ws o t value keeps = record {
  exact = λ p h. ap (λ c. kept c ws) (h t.flags ∙ t.tells) ∙ keeps ∙ sym value;
  taken = λ h. absurd (h t.taken);
}

init_kept : (ws : List Text) (n : Option NodeNumbers) → is_like init ws ≡ true → kept (init_with n) ws ≡ init_with n
init_kept ws None e = refl
init_kept ws (Some n) e = ap (λ b. if b then Some (C.Init n) else None) e

run_kept : (ws : List Text) (shown : Bool) (n : Option ℕ) → is_run ws ≡ true → kept (run_with shown n) ws ≡ run_with shown n
run_kept ws shown None e = refl
run_kept ws shown (Some n) e = ap (λ b. if b then run_with shown (Some n) else None) e

kept_not : (ws : List Text) (c : Command) → is_spelled c ws ≡ false → kept (Some c) ws ≡ None
kept_not ws c e = ap (λ t. if t then Some c else None) e

none_kept : (ws : List Text) → is_like init ws ≡ false → is_run ws ≡ false → is_like show ws ≡ false → is_like check ws ≡ false
    → (o : Option Command) → kept o ws ≡ None
none_kept ws a b c d None = refl
none_kept ws a b c d (Some (C.Init n)) = kept_not ws (C.Init n) a
none_kept ws a b c d (Some (C.Run ways)) = kept_not ws (C.Run ways) b
none_kept ws a b c d (Some C.Show) = kept_not ws C.Show c
none_kept ws a b c d (Some C.Check) = kept_not ws C.Check d
none_kept ws a b c d (Some C.Help) = refl
none_kept ws a b c d (Some C.Version) = refl

test : (b : Bool) → (b ≡ true) ⊎ (b ≡ false)
test true = inl refl
test false = inr refl

pub right : (ws : List Text) → IsRight ws
right ws = elim (test (is_like init ws)) [
  | inl a ↦ right_told ws _ (tells_init ws a) (rw a refl) (init_kept ws _ a)
  | inr a ↦ elim (test (is_like plain ws)) [
    | inl b ↦ right_told ws _ (tells_plain ws b) (rw (a, b) refl) (run_kept ws false (Some 1) (rw b refl))
    | inr b ↦ elim (test (is_like hex ws)) [
      | inl c ↦ right_told ws _ (tells_hex ws c) (rw (a, b, c) refl) (run_kept ws true (Some 1) (rw (b, c) refl))
      | inr c ↦ elim (test (is_like bearers ws)) [
        | inl d ↦ right_told ws _ (tells_bearers ws d) (rw (a, b, c, d) refl) (run_kept ws false _ (rw (b, c, d) refl))
        | inr d ↦ elim (test (is_like hex_bearers ws)) [
          | inl e ↦ right_told ws _ (tells_hex_bearers ws e) (rw (a, b, c, d, e) refl) (run_kept ws true _ (rw (b, c, d, e) refl))
          | inr e ↦ elim (test (is_like bearers_hex ws)) [
            | inl f ↦ right_told ws _ (tells_bearers_hex ws f) (rw (a, b, c, d, e, f) refl) (run_kept ws true _ (rw (b, c, d, e, f) refl))
            | inr f ↦ elim (test (is_like show ws)) [
              | inl g ↦ right_told ws _ (tells_show ws g) (rw (a, b, c, d, e, f, g) refl) (rw g refl)
              | inr g ↦ elim (test (is_like check ws)) [
                | inl h ↦ right_told ws _ (tells_check ws h) (rw (a, b, c, d, e, f, g, h) refl) (rw h refl)
                | inr h ↦
                    let none : file_command ws ≡ None = rw (a, b, c, d, e, f, g, h) refl in
                    record { exact = λ o k. none_kept ws a (rw (b, c, d, e, f) refl) g h o ∙ sym none; taken = λ k. sym none }
              ]
            ]
          ]
        ]
      ]
    ]
  ]
]

-- What is told of the flags, and of the words of each command.

flag : (f : Found) (id : Text) (b : Bool) → (one_text f id ≡ None → b ≡ false) → (one_text f id ≡ Some (codes "true") → b ≡ true)
    → (one_text f id ≡ Some (codes "false") → b ≡ false) → IsFlag (one_of id (rows_of f)) → b ≡ has_flag id (rows_of f)
flag f id b none one zero is = go (one_of id (rows_of f)) (one_text-rows f id) is
  where
    go : (o : Option Text) → one_text f id ≡ o → IsFlag o → b ≡ option_map_or (λ text. bytes_eq text (codes "true")) o false
    go None e h = none e
    go (Some t) e (inl h) = one (e ∙ ap Some h) ∙ rw h refl
    go (Some t) e (inr h) = zero (e ∙ ap Some h) ∙ rw h refl

named : {Z : Type 0} (o : Option (Box SubCommand Z)) → option_map (λ b. (out-SubCommand (box_value b)).name.now) o ≡ option_map (λ p. p.0) (subcommand_rows o)
named None = refl
named (Some b) = refl

-- the name of a subcommand stands before its rows
pub name_is : (m : ArgMatches) → subcommand_name_of m ≡ option_map (λ p. p.0) (subcommand_rows_of m)
name_is m = named (out-ArgMatches m).subcommand

pub told_init : (o : Option (Text × List Row)) (f : Found) → option_map (λ p. p.0) o ≡ Some (codes "init") → option_map (λ p. p.1) o ≡ Some (rows_of f)
    → init_with (read_numbers (first_value f (codes "UNICAST")) (first_value f (codes "ELEMENTS")) (first_value f (codes "IV")) (first_value f (codes "FLAGS")) (first_value f (codes "NETIDX"))) ≡ told o
told_init None f name rows = absurd cc
told_init (Some p) f name rows =
    let is : p.0 ≡ codes "init" = cc in
    let are : p.1 ≡ rows_of f = cc in
    rw (first_value-rows f (codes "UNICAST"), first_value-rows f (codes "ELEMENTS"), first_value-rows f (codes "IV"), first_value-rows f (codes "FLAGS"), first_value-rows f (codes "NETIDX"))
    (ap (told_of (codes "init")) (sym are) ∙ ap (λ name. told_of name p.1) (sym is))

pub told_run : (o : Option (Text × List Row)) (f : Found) (shown : Bool) → option_map (λ p. p.0) o ≡ Some (codes "run") → option_map (λ p. p.1) o ≡ Some (rows_of f)
    → (one_text f (codes "hex") ≡ None → shown ≡ false) → (one_text f (codes "hex") ≡ Some (codes "true") → shown ≡ true) → (one_text f (codes "hex") ≡ Some (codes "false") → shown ≡ false)
    → AreFlags o → run_with shown (read_bearers (first_value f (codes "bearers"))) ≡ told o
told_run None f shown name rows a b c flags = absurd cc
told_run (Some p) f shown name rows a b c flags =
    let is : p.0 ≡ codes "run" = cc in
    let are : p.1 ≡ rows_of f = cc in
    let one : shown ≡ has_flag (codes "hex") (rows_of f) = flag f (codes "hex") shown a b c (subst (λ r. IsFlag (one_of (codes "hex") r)) are flags) in
    ap₂ (λ x n. run_with x (read_bearers n)) one (first_value-rows f (codes "bearers"))
    ∙ ap (told_of (codes "run")) (sym are) ∙ ap (λ name. told_of name p.1) (sym is)

pub told_show : (o : Option (Text × List Row)) → option_map (λ p. p.0) o ≡ Some (codes "show") → Some C.Show ≡ told o
told_show None name = absurd cc
told_show (Some p) name =
    let is : p.0 ≡ codes "show" = cc in
    ap (λ name. told_of name p.1) (sym is)

pub told_check : (o : Option (Text × List Row)) → option_map (λ p. p.0) o ≡ Some (codes "check") → Some C.Check ≡ told o
told_check None name = absurd cc
told_check (Some p) name =
    let is : p.0 ≡ codes "check" = cc in
    ap (λ name. told_of name p.1) (sym is)
