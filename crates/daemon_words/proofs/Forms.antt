-- What `clap` makes of the words of each form.
use Rattle.std.proofs.Common.{◌≡◌, ◌∙◌, ◌&&◌, Bool, true, false, List, [], ◌∷◌, refl, sym, ap, subst, codes, Option, Some, None, inl, inr}
use Rattle.std.specs.List.{list_all}
use Rattle.clap.specs.Simple.{App, Shape, built_leaf, inherited, marked_built, subcommand_of, with_leaf_noted}
use Rattle.clap.specs.Takes.{default_passes, is_valid, level_passes, settle_passes, takes, turn_passes, walk_passes}
use Rattle.clap.specs.Walk.{Held, Text, Walk, arg_by_long, finished, long_met, nothing_held, rows_after, settled, walked}
use Rattle.clap.proofs.OnLiterals.{clap_on_literals}
use Rattle.daemon_words.specs.Commands.{init_with, run_with}
use Rattle.daemon_words.specs.Numbers.{bearers_word, node_numbers}
use Rattle.daemon_words.specs.Reader.{AreFlags, file_reader, init, reader, run, told, told_of}
use Rattle.daemon_words.specs.declared.commands.Command.{Command}
use Rattle.daemon_words.specs.declared.commands.Command.TheVariants as C
use Rattle.daemon_words.proofs.Walking.{Goes, IsPlain, at, no_more, one_more, passes, passes_word, steps, takes_word, waits}

-- a command as it is built
abbrev leaf : App → Shape
leaf a = built_leaf (inherited (with_leaf_noted (marked_built reader.top)) a.top)

-- what `clap` makes of words: this is told of them, and they are taken
pub record Tells (ws : List Text) (o : Option Command) : Type 0 where
  pub flags : AreFlags (subcommand_of reader ws)
  pub tells : told (subcommand_of reader ws) ≡ o
  pub taken : takes reader ws ≡ true

-- what is held at the end is complete
abbrev is_done : Shape → Held → Bool
is_done s h = settle_passes s.rules s.args_override_self h && (list_all default_passes s.rules && is_valid s (finished s.rules h) false)

level : (s : Shape) (words : List Text) (end : Walk) → Goes s (at nothing_held 1) words end → is_done s end.held ≡ true
    → level_passes s [] nothing_held words false ≡ true
level s words end goes done =
    ap (λ (w : Walk). walk_passes s [] (at nothing_held 1) words && is_done s w.held) goes.walks
    ∙ ap (λ b. b && is_done s end.held) goes.passes ∙ done

tells_of : (name : Text) (s : Shape) (words : List Text) (end : Walk) (o : Option Command) → Goes s (at nothing_held 1) words end
    → subcommand_of reader (name ∷ words) ≡ Some (name, rows_after s.rules [] words)
    → takes reader (name ∷ words) ≡ (level_passes s [] nothing_held words false && true)
    → is_done s end.held ≡ true → AreFlags (Some (name, finished s.rules end.held)) → told_of name (finished s.rules end.held) ≡ o
    → Tells (name ∷ words) o
tells_of name s words end o goes enters takes done flags tells =
    let is : subcommand_of reader (name ∷ words) ≡ Some (name, finished s.rules end.held) =
    enters ∙ ap (λ (w : Walk). Some (name, finished s.rules w.held)) goes.walks in
    record {
      flags = subst AreFlags (sym is) flags;
      tells = ap told is ∙ tells;
      taken = takes ∙ ap (λ b. b && true) (level s words end goes done);
    }

-- a word that was met first of those of a name
abbrev with_word : Text → Text → Held → Held
with_word id w h = record h { pending = Some (id, w ∷ []) }

-- `init`

abbrev init_leaf : Shape
init_leaf = leaf init

module _ (file unicast elements iv flags index : Text) (a : IsPlain file) (b : IsPlain unicast) (c : IsPlain elements) (d : IsPlain iv) (e : IsPlain flags) (f : IsPlain index) where
  abbrev i1 : Held
  i1 = with_word (codes "FILE") file nothing_held

  abbrev i2 : Held
  i2 = with_word (codes "UNICAST") unicast (settled init_leaf.rules i1)

  abbrev i3 : Held
  i3 = with_word (codes "ELEMENTS") elements (settled init_leaf.rules i2)

  abbrev i4 : Held
  i4 = with_word (codes "IV") iv (settled init_leaf.rules i3)

  abbrev i5 : Held
  i5 = with_word (codes "FLAGS") flags (settled init_leaf.rules i4)

  abbrev i6 : Held
  i6 = with_word (codes "NETIDX") index (settled init_leaf.rules i5)

  abbrev init_words : List Text
  init_words = file ∷ unicast ∷ elements ∷ iv ∷ flags ∷ index ∷ []

  init_goes : Goes init_leaf (at nothing_held 1) init_words (at i6 7)
  init_goes =
      one_more init_leaf (at nothing_held 1) (at i1 2) (at i6 7) file _ (steps init_leaf.rules nothing_held 1 file a) (passes init_leaf nothing_held 1 file a)
      (one_more init_leaf (at i1 2) (at i2 3) (at i6 7) unicast _ (steps init_leaf.rules i1 2 unicast b) (passes init_leaf i1 2 unicast b)
      (one_more init_leaf (at i2 3) (at i3 4) (at i6 7) elements _ (steps init_leaf.rules i2 3 elements c) (passes init_leaf i2 3 elements c)
      (one_more init_leaf (at i3 4) (at i4 5) (at i6 7) iv _ (steps init_leaf.rules i3 4 iv d) (passes init_leaf i3 4 iv d)
      (one_more init_leaf (at i4 5) (at i5 6) (at i6 7) flags _ (steps init_leaf.rules i4 5 flags e) (passes init_leaf i4 5 flags e)
      (one_more init_leaf (at i5 6) (at i6 7) (at i6 7) index _ (steps init_leaf.rules i5 6 index f) (passes init_leaf i5 6 index f)
      (no_more init_leaf (at i6 7)))))))

  pub init_tells : Tells (codes "init" ∷ init_words) (init_with (node_numbers unicast elements iv flags index))
  unfolding clap_on_literals
  init_tells = tells_of (codes "init") init_leaf init_words (at i6 7) _ init_goes refl refl refl tt refl

-- `run`

abbrev run_leaf : Shape
run_leaf = leaf run

module _ (file : Text) (a : IsPlain file) where
  abbrev r1 : Held
  r1 = with_word (codes "FILE") file nothing_held

  first : (words : List Text) (end : Walk) → Goes run_leaf (at r1 2) words end → Goes run_leaf (at nothing_held 1) (file ∷ words) end
  first words end more =
      one_more run_leaf (at nothing_held 1) (at r1 2) end file words (steps run_leaf.rules nothing_held 1 file a) (passes run_leaf nothing_held 1 file a) more

  pub plain_tells : Tells (codes "run" ∷ file ∷ []) (run_with false (Some 1))
  unfolding clap_on_literals
  plain_tells = tells_of (codes "run") run_leaf (file ∷ []) (at r1 2) _ (first [] (at r1 2) (no_more run_leaf (at r1 2))) refl refl refl (inr refl) refl

  -- behind `--hex`
  abbrev hexed : Held → Held
  hexed h = (long_met run_leaf.rules (arg_by_long run_leaf.rules (codes "hex")) None h).0

  -- behind `--bearers`
  abbrev asked : Held → Held
  asked h = record (settled run_leaf.rules h) { pending = Some (codes "bearers", []) }

  pub hex_tells : Tells (codes "run" ∷ file ∷ codes "--hex" ∷ []) (run_with true (Some 1))
  unfolding clap_on_literals
  hex_tells = tells_of (codes "run") run_leaf (file ∷ codes "--hex" ∷ []) (at (hexed r1) 2) _
      (first (codes "--hex" ∷ []) (at (hexed r1) 2) (one_more run_leaf (at r1 2) (at (hexed r1) 2) (at (hexed r1) 2) (codes "--hex") [] refl refl (no_more run_leaf (at (hexed r1) 2))))
      refl refl refl (inl refl) refl

  module _ (n : Text) (b : IsPlain n) where
    -- and behind its word
    abbrev counted : Held → Held
    counted h = with_word (codes "bearers") n (asked h)

    counts : (h : Held) (words : List Text) (end : Walk) → walked run_leaf.rules [] (at h 2) (codes "--bearers") ≡ waits (asked h) 2 (codes "bearers")
        → turn_passes run_leaf [] (at h 2) (codes "--bearers") ≡ true → Goes run_leaf (at (counted h) 2) words end
        → Goes run_leaf (at h 2) (codes "--bearers" ∷ n ∷ words) end
    counts h words end e t more =
        one_more run_leaf (at h 2) (waits (asked h) 2 (codes "bearers")) end (codes "--bearers") (n ∷ words) e t
        (one_more run_leaf (waits (asked h) 2 (codes "bearers")) (at (counted h) 2) end n words (takes_word run_leaf.rules (asked h) 2 (codes "bearers") n b)
        (passes_word run_leaf (asked h) 2 (codes "bearers") n b) more)

    pub bearers_tells : Tells (codes "run" ∷ file ∷ codes "--bearers" ∷ n ∷ []) (run_with false (bearers_word n))
    unfolding clap_on_literals
    bearers_tells = tells_of (codes "run") run_leaf (file ∷ codes "--bearers" ∷ n ∷ []) (at (counted r1) 2) _
        (first (codes "--bearers" ∷ n ∷ []) (at (counted r1) 2) (counts r1 [] (at (counted r1) 2) refl refl (no_more run_leaf (at (counted r1) 2))))
        refl refl refl (inr refl) refl

    pub hex_bearers_tells : Tells (codes "run" ∷ file ∷ codes "--hex" ∷ codes "--bearers" ∷ n ∷ []) (run_with true (bearers_word n))
    unfolding clap_on_literals
    hex_bearers_tells = tells_of (codes "run") run_leaf (file ∷ codes "--hex" ∷ codes "--bearers" ∷ n ∷ []) (at (counted (hexed r1)) 2) _
        (first (codes "--hex" ∷ codes "--bearers" ∷ n ∷ []) (at (counted (hexed r1)) 2)
        (one_more run_leaf (at r1 2) (at (hexed r1) 2) (at (counted (hexed r1)) 2) (codes "--hex") (codes "--bearers" ∷ n ∷ []) refl refl
        (counts (hexed r1) [] (at (counted (hexed r1)) 2) refl refl (no_more run_leaf (at (counted (hexed r1)) 2)))))
        refl refl refl (inl refl) refl

    pub bearers_hex_tells : Tells (codes "run" ∷ file ∷ codes "--bearers" ∷ n ∷ codes "--hex" ∷ []) (run_with true (bearers_word n))
    unfolding clap_on_literals
    bearers_hex_tells = tells_of (codes "run") run_leaf (file ∷ codes "--bearers" ∷ n ∷ codes "--hex" ∷ []) (at (hexed (counted r1)) 2) _
        (first (codes "--bearers" ∷ n ∷ codes "--hex" ∷ []) (at (hexed (counted r1)) 2)
        (counts r1 (codes "--hex" ∷ []) (at (hexed (counted r1)) 2) refl refl
        (one_more run_leaf (at (counted r1) 2) (at (hexed (counted r1)) 2) (at (hexed (counted r1)) 2) (codes "--hex") [] refl refl
        (no_more run_leaf (at (hexed (counted r1)) 2)))))
        refl refl refl (inl refl) refl

-- `show` and `check`

abbrev show_leaf : Shape
show_leaf = leaf (file_reader (codes "show"))

abbrev check_leaf : Shape
check_leaf = leaf (file_reader (codes "check"))

module _ (file : Text) (a : IsPlain file) where
  abbrev held : Held
  held = with_word (codes "FILE") file nothing_held

  pub show_tells : Tells (codes "show" ∷ file ∷ []) (Some C.Show)
  unfolding clap_on_literals
  show_tells = tells_of (codes "show") show_leaf (file ∷ []) (at held 2) _
      (one_more show_leaf (at nothing_held 1) (at held 2) (at held 2) file [] (steps show_leaf.rules nothing_held 1 file a) (passes show_leaf nothing_held 1 file a) (no_more show_leaf (at held 2)))
      refl refl refl tt refl

  pub check_tells : Tells (codes "check" ∷ file ∷ []) (Some C.Check)
  unfolding clap_on_literals
  check_tells = tells_of (codes "check") check_leaf (file ∷ []) (at held 2) _
      (one_more check_leaf (at nothing_held 1) (at held 2) (at held 2) file [] (steps check_leaf.rules nothing_held 1 file a) (passes check_leaf nothing_held 1 file a) (no_more check_leaf (at held 2)))
      refl refl refl tt refl
