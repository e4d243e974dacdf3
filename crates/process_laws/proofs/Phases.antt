-- The lines of a life that is told phase by phase are those of its report, in another order.
use Rattle.std.proofs.Common.{◌≡◌, ◌∙◌, ℕ, zero, suc, ◌+◌, Bool, List, [], ◌∷◌, ◌++◌, length, replicate, refl, sym, ap, subst, arith, append_assoc, append-nil, IsPermutation}
use Rattle.std.specs.List.{flat_map}
use Rattle.std.proofs.lemmas.List.Sorted.{IsPermutation-append_left, IsPermutation-append_right, IsPermutation-cons, IsPermutation-refl, IsPermutation-trans}
use Rattle.life_laws.specs.Phases.{both_of}
use Rattle.live_report.specs.Lines.{phases_lines, told_lines}
use Rattle.mesh_node.specs.Lived.{life_told}
use Rattle.mesh_node.specs.Told.{ArePlaced, PhaseDid, entries_told, more_sends, sends_told}
use Rattle.mesh_types.specs.declared.history.Entry.{Entry}
use Rattle.mesh_types.specs.declared.history.Sent.{Sent}
use Rattle.mesh_types.specs.declared.report.ReportLine.{ReportLine}
use Rattle.report_definitions.specs.Report.{bearer_lines, end_lines, entry_lines, life_lines, opened_line, send_lines}
use Rattle.process_laws.specs.Laws.{BrokenOffAreSome, PhasesAreReordered}
use Rattle.process_laws.proofs.Breaking.{broken_off}
use Rattle.process_laws.proofs.Reordered.{middle_swap}

-- Entries, with their places.

entries_join : (n : ℕ) (es fs : List Entry) → entry_lines n (es ++ fs) ≡ entry_lines n es ++ entry_lines (n + length es) fs
entries_join n [] fs = ap (λ k. entry_lines k fs) (let e : n ≡ n + 0 = omega arith in e)
entries_join n (e ∷ es) fs =
    ap (λ l. entry_lines n (e ∷ []) ++ l) (entries_join (n + 1) es fs ∙ ap (λ k. entry_lines (n + 1) es ++ entry_lines k fs) (let same : n + 1 + length es ≡ n + length (e ∷ es) = omega arith in same))

abbrev all_entries : List PhaseDid → List ReportLine
all_entries did = flat_map (λ d. entry_lines (d.first + 1) d.entries) did

placed_entries : (n : ℕ) (did : List PhaseDid) → ArePlaced n did → all_entries did ≡ entry_lines (n + 1) (entries_told did)
placed_entries n [] h = refl
placed_entries n (d ∷ did) h =
    let place : n + length d.entries + 1 ≡ n + 1 + length d.entries = omega arith in
    ap (λ m. entry_lines (m + 1) d.entries ++ all_entries did) h.0
    ∙ ap (λ l. entry_lines (n + 1) d.entries ++ l) (placed_entries (n + length d.entries) did h.1 ∙ ap (λ k. entry_lines k (entries_told did)) place)
    ∙ sym (entries_join (n + 1) d.entries (entries_told did))

-- The lines of bearers.

bearers_none : (hex : Bool) (k n : ℕ) → send_lines hex k (replicate n []) ≡ []
bearers_none hex k zero = refl
bearers_none hex k (suc n) = bearers_none hex (k + 1) n

module _ (hex : Bool) where
  bearer_join : (k : ℕ) (ss ts : List Sent) → bearer_lines hex k (ss ++ ts) ≡ bearer_lines hex k ss ++ bearer_lines hex k ts
  bearer_join k [] ts = refl
  bearer_join k (s ∷ ss) ts = ap (λ l. bearer_lines hex k (s ∷ []) ++ l) (bearer_join k ss ts)

  both_sends : (k : ℕ) (xs ys : List (List Sent)) → IsPermutation (send_lines hex k xs ++ send_lines hex k ys) (send_lines hex k (both_of xs ys))
  both_sends k [] ys = IsPermutation-refl (send_lines hex k ys)
  both_sends k (x ∷ xs) [] = subst (λ l. IsPermutation l (send_lines hex k (x ∷ xs))) (sym (append-nil (send_lines hex k (x ∷ xs)))) (IsPermutation-refl (send_lines hex k (x ∷ xs)))
  both_sends k (x ∷ xs) (y ∷ ys) =
      let b = bearer_lines hex k x in
      let c = bearer_lines hex k y in
      let s = send_lines hex (k + 1) xs in
      let t = send_lines hex (k + 1) ys in
      let u = send_lines hex (k + 1) (both_of xs ys) in
      IsPermutation-trans ((b ++ s) ++ (c ++ t)) ((b ++ c) ++ (s ++ t)) (bearer_lines hex k (x ++ y) ++ u) (middle_swap b s c t)
      (subst (λ l. IsPermutation ((b ++ c) ++ (s ++ t)) (l ++ u)) (sym (bearer_join k x y)) (IsPermutation-append_right (b ++ c) (s ++ t) u (both_sends (k + 1) xs ys)))

  abbrev all_sends : List PhaseDid → List ReportLine
  all_sends did = flat_map (λ d. send_lines hex 0 d.sends) did

  sends_behind : (sends : List (List Sent)) (did : List PhaseDid) → IsPermutation (send_lines hex 0 sends ++ all_sends did) (send_lines hex 0 (more_sends sends did))
  sends_behind sends [] = subst (λ l. IsPermutation l (send_lines hex 0 sends)) (sym (append-nil (send_lines hex 0 sends))) (IsPermutation-refl (send_lines hex 0 sends))
  sends_behind sends (d ∷ did) =
      let s = send_lines hex 0 sends in
      let t = send_lines hex 0 d.sends in
      let rest = all_sends did in
      let both = send_lines hex 0 (both_of sends d.sends) in
      subst (λ l. IsPermutation l (send_lines hex 0 (more_sends (both_of sends d.sends) did))) (append_assoc s t rest)
      (IsPermutation-trans ((s ++ t) ++ rest) (both ++ rest) (send_lines hex 0 (more_sends (both_of sends d.sends) did))
      (IsPermutation-append_left rest (s ++ t) both (both_sends 0 sends d.sends)) (sends_behind (both_of sends d.sends) did))

  all_sends_are : (bearers : ℕ) (did : List PhaseDid) → IsPermutation (all_sends did) (send_lines hex 0 (sends_told bearers did))
  all_sends_are bearers did =
      subst (λ l. IsPermutation (l ++ all_sends did) (send_lines hex 0 (sends_told bearers did))) (bearers_none hex 0 bearers) (sends_behind (replicate bearers []) did)

  -- entries first, and then the lines of bearers
  phases_apart : (did : List PhaseDid) → IsPermutation (phases_lines hex did) (all_entries did ++ all_sends did)
  phases_apart [] = IsPermutation-refl []
  phases_apart (d ∷ did) =
      let e = entry_lines (d.first + 1) d.entries in
      let s = send_lines hex 0 d.sends in
      IsPermutation-trans ((e ++ s) ++ phases_lines hex did) ((e ++ s) ++ (all_entries did ++ all_sends did)) ((e ++ all_entries did) ++ (s ++ all_sends did))
      (IsPermutation-append_right (e ++ s) (phases_lines hex did) (all_entries did ++ all_sends did) (phases_apart did)) (middle_swap e s (all_entries did) (all_sends did))

  phases_are : (bearers : ℕ) (did : List PhaseDid) → ArePlaced 0 did → IsPermutation (phases_lines hex did) (entry_lines 1 (entries_told did) ++ send_lines hex 0 (sends_told bearers did))
  phases_are bearers did h =
      IsPermutation-trans (phases_lines hex did) (all_entries did ++ all_sends did) (entry_lines 1 (entries_told did) ++ send_lines hex 0 (sends_told bearers did)) (phases_apart did)
      (subst (λ l. IsPermutation (all_entries did ++ all_sends did) (l ++ send_lines hex 0 (sends_told bearers did))) (placed_entries 0 did h)
      (IsPermutation-append_right (all_entries did) (all_sends did) (send_lines hex 0 (sends_told bearers did)) (all_sends_are bearers did)))

-- The law.

pub phases_reordered : PhasesAreReordered
unfolding life_lines
phases_reordered hex n over bearers refills did end h =
    let l = life_told over bearers refills did end in
    let told = phases_lines hex did in
    let report = entry_lines 1 l.entries ++ send_lines hex 0 l.sends in
    let last = end_lines l.opened end in
    IsPermutation-cons (opened_line n l.opened) (told ++ last) (report ++ last) (IsPermutation-append_left last told report (phases_are hex bearers did h))

pub broken_some : BrokenOffAreSome
broken_some hex n over bearers refills did end h text rest is =
    let l = life_told over bearers refills did end in
    let b = broken_off (told_lines hex n l.opened did end) text rest is in
    (b, (b.rest, subst (λ ls. IsPermutation ls (life_lines hex n l)) b.are (phases_reordered hex n over bearers refills did end h)))
