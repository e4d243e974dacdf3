-- Lines that are safe together are so with other numbers of their lives, with the octets of network PDUs or without, in another order, and in part.
use Rattle.std.proofs.Common.{◌≡◌, ◌≢◌, ◌∙◌, ℕ, ◌+◌, Bool, List, [], ◌∷◌, ◌++◌, refl, sym, subst}
use Rattle.std.specs.Bool.{⊤}
use Rattle.std.specs.List.{AllByRecursion as Every}
use Rattle.std.proofs.lemmas.List.Elements.{All-from_recursion, recursion_from_All}
use Rattle.std.proofs.lemmas.List.Sorted.{All-permutation, IsPermutation-sym}
use Rattle.audit_definitions.specs.Seals.{accepted}
use Rattle.audit_laws.proofs.Parts.{apart_front}
use Rattle.audit_laws.proofs.ReportLines.{LineFits, line_tags}
use Rattle.audit_laws.proofs.Runs.{AcceptApart, SafeLines, SealApart}
use Rattle.mesh_base.proofs.Every.{every_front, every_map}
use Rattle.mesh_types.specs.declared.history.Sent.{Sent}
use Rattle.mesh_types.specs.declared.report.Opened.{Opened}
use Rattle.mesh_types.specs.declared.report.Opened.TheVariants as W
use Rattle.mesh_types.specs.declared.report.ReportLine.{ReportLine}
use Rattle.report_definitions.specs.Record.{Life}
use Rattle.report_definitions.specs.Report.{bearer_lines, end_lines, entry_lines, life_lines, opened_line, send_lines}
use Rattle.run_safety.proofs.Lists.{Apart, apart_from_pairs, pairs_from_apart}
use Rattle.run_safety.proofs.Nonces.{Wide}
use Rattle.run_safety.proofs.Walking.{Tag}
use Rattle.store_definitions.specs.Config.{Config}
use Rattle.process_laws.specs.Outputs.{AreSomeOf}
use Rattle.process_laws.proofs.Reordered.{pairs_reordered}

module _ (own : Config) where
  -- Two lines that show the same.
  pub record Same (x y : ReportLine) : Type 0 where
    pub tags : line_tags x ≡ line_tags y
    pub accepts : accepted x ≡ accepted y
    pub fits : LineFits own x → LineFits own y

  abbrev pub AreSame : List ReportLine → List ReportLine → Type 0
  AreSame [] [] = ⊤
  AreSame (x ∷ xs) (y ∷ ys) = Same x y × AreSame xs ys
  AreSame _ _ = ⊥

  same_line : (x : ReportLine) → Same x x
  same_line x = record { tags = refl; accepts = refl; fits = λ h. h }

  same_all : (xs : List ReportLine) → AreSame xs xs
  same_all [] = tt
  same_all (x ∷ xs) = (same_line x, same_all xs)

  pub same_append : (xs ys vs ws : List ReportLine) → AreSame xs ys → AreSame vs ws → AreSame (xs ++ vs) (ys ++ ws)
  same_append [] [] vs ws h k = k
  same_append [] (y ∷ ys) vs ws h k = absurd h
  same_append (x ∷ xs) [] vs ws h k = absurd h
  same_append (x ∷ xs) (y ∷ ys) vs ws h k = (h.0, same_append xs ys vs ws h.1 k)

  same_bearer : (hex shown : Bool) (k : ℕ) (ss : List Sent) → AreSame (bearer_lines hex k ss) (bearer_lines shown k ss)
  same_bearer hex shown k [] = tt
  same_bearer hex shown k (s ∷ ss) = (record { tags = refl; accepts = refl; fits = λ h. h }, same_bearer hex shown k ss)

  same_sends : (hex shown : Bool) (k : ℕ) (sends : List (List Sent)) → AreSame (send_lines hex k sends) (send_lines shown k sends)
  same_sends hex shown k [] = tt
  same_sends hex shown k (ss ∷ more) =
      same_append (bearer_lines hex k ss) (bearer_lines shown k ss) (send_lines hex (k + 1) more) (send_lines shown (k + 1) more)
      (same_bearer hex shown k ss) (same_sends hex shown (k + 1) more)

  same_opened : (n m : ℕ) (opened : Opened) → Same (opened_line n opened) (opened_line m opened)
  same_opened n m (W.On state mark) = record { tags = refl; accepts = refl; fits = λ h. h }
  same_opened n m W.WasReset = record { tags = refl; accepts = refl; fits = λ h. h }
  same_opened n m W.CutAtStart = record { tags = refl; accepts = refl; fits = λ h. h }

  pub same_life : (hex shown : Bool) (n m : ℕ) (l : Life) → AreSame (life_lines hex n l) (life_lines shown m l)
  unfolding life_lines
  same_life hex shown n m l = (
    same_opened n m l.opened,
    same_append (entry_lines 1 l.entries ++ send_lines hex 0 l.sends) (entry_lines 1 l.entries ++ send_lines shown 0 l.sends) (end_lines l.opened l.end) (end_lines l.opened l.end)
        (same_append (entry_lines 1 l.entries) (entry_lines 1 l.entries) (send_lines hex 0 l.sends) (send_lines shown 0 l.sends)
        (same_all (entry_lines 1 l.entries)) (same_sends hex shown 0 l.sends))
        (same_all (end_lines l.opened l.end)),
  )

  every_same : (P : ReportLine → Type 0) (Q : ReportLine → Type 0) → ((x y : ReportLine) → Same x y → P x → Q y)
      → (xs ys : List ReportLine) → AreSame xs ys → Every P xs → Every Q ys
  every_same P Q f [] [] s h = tt
  every_same P Q f [] (y ∷ ys) s h = absurd s
  every_same P Q f (x ∷ xs) [] s h = absurd s
  every_same P Q f (x ∷ xs) (y ∷ ys) s h = (f x y s.0 h.0, every_same P Q f xs ys s.1 h.1)

  apart_same : (R : ReportLine → ReportLine → Type 0) → ((x y v w : ReportLine) → Same x y → Same v w → R x v → R y w)
      → (xs ys : List ReportLine) → AreSame xs ys → Apart R xs → Apart R ys
  apart_same R f [] [] s h = tt
  apart_same R f [] (y ∷ ys) s h = absurd s
  apart_same R f (x ∷ xs) [] s h = absurd s
  apart_same R f (x ∷ xs) (y ∷ ys) s h = (every_same (R x) (R y) (λ v w k r. f x y v w s.0 k r) xs ys s.1 h.0, apart_same R f xs ys s.1 h.1)

  seals_same : (x y v w : ReportLine) → Same x y → Same v w → SealApart x v → SealApart y w
  seals_same x y v w s k h =
      subst (λ ts. Every (λ t. Every (λ u. t ≢ u) (line_tags w)) ts) s.tags (subst (λ us. Every (λ t. Every (λ u. t ≢ u) us) (line_tags x)) k.tags h)

  accepts_same : (x y v w : ReportLine) → Same x y → Same v w → AcceptApart x v → AcceptApart y w
  accepts_same x y v w s k h a b e f = h a b (s.accepts ∙ e) (k.accepts ∙ f)

  abbrev IsWide : ReportLine → Type 0
  IsWide x = Every (λ (t : Tag). Wide t.pair) (line_tags x)

  wide_same : (x y : ReportLine) → Same x y → IsWide x → IsWide y
  wide_same x y s h = subst (λ ts. Every (λ (t : Tag). Wide t.pair) ts) s.tags h

  pub safe_same : (xs ys : List ReportLine) → AreSame xs ys → SafeLines own xs → SafeLines own ys
  safe_same xs ys s h = record {
    fits = every_same (LineFits own) (LineFits own) (λ x y k f. k.fits f) xs ys s h.fits;
    wide = every_same IsWide IsWide wide_same xs ys s h.wide;
    seals = apart_same SealApart seals_same xs ys s h.seals;
    accepts = apart_same AcceptApart accepts_same xs ys s h.accepts;
  }

-- Some of them, in another order.

each_back : {A : Type 0} (R : A → A → Type 0) → ((s t : A) → R s t → R t s) → (xs ys : List A) → Every (λ s. Every (R s) ys) xs → Every (λ t. Every (R t) xs) ys
each_back R back xs [] h = tt
each_back R back xs (y ∷ ys) h = (
  every_map (λ s. Every (R s) (y ∷ ys)) (R y) (λ s k. back s y k.0) xs h,
  each_back R back xs ys (every_map (λ s. Every (R s) (y ∷ ys)) (λ s. Every (R s) ys) (λ s k. k.1) xs h),
)

seals_back : (x y : ReportLine) → SealApart x y → SealApart y x
seals_back x y h = each_back (λ (s t : Tag). s ≢ t) (λ s t k e. k (sym e)) (line_tags x) (line_tags y) h

accepts_back : (x y : ReportLine) → AcceptApart x y → AcceptApart y x
accepts_back x y h a b e f same = h b a f e (sym same)

every_some : {A : Type 0} (P : A → Type 0) (xs ys : List A) → AreSomeOf xs ys → Every P ys → Every P xs
every_some P xs ys some h =
    let all = All-permutation P ys (xs ++ some.0) (IsPermutation-sym (xs ++ some.0) ys some.1) (All-from_recursion P ys h) in
    every_front P xs some.0 (recursion_from_All P (xs ++ some.0) all)

apart_some : {A : Type 0} (R : A → A → Type 0) → ((x y : A) → R x y → R y x) → (xs ys : List A) → AreSomeOf xs ys → Apart R ys → Apart R xs
apart_some R back xs ys some h =
    let all = pairs_reordered R back ys (xs ++ some.0) (IsPermutation-sym (xs ++ some.0) ys some.1) (pairs_from_apart R ys h) in
    apart_front R xs some.0 (apart_from_pairs R (xs ++ some.0) all)

pub safe_some : (own : Config) (xs ys : List ReportLine) → AreSomeOf xs ys → SafeLines own ys → SafeLines own xs
safe_some own xs ys some h = record {
  fits = every_some (LineFits own) xs ys some h.fits;
  wide = every_some (λ x. Every (λ (t : Tag). Wide t.pair) (line_tags x)) xs ys some h.wide;
  seals = apart_some SealApart seals_back xs ys some h.seals;
  accepts = apart_some AcceptApart accepts_back xs ys some h.accepts;
}
