-- The pairs of a life.
use Rattle.std.proofs.Common.{◌≡◌, ◌≢◌, ◌∙◌, inl, inr, ⊎_elim, ℕ, zero, suc, ◌+◌, ◌<◌, ◌≤◌, List, [], ◌∷◌, map, sym, ap, subst, append-nil, arith}
use Rattle.std.specs.Prelude.{◌-◌, ◌*◌, ◌^◌, All, slice_index_or}
use Rattle.std.specs.List.{Contains}
use Rattle.std.proofs.lemmas.List.Elements.{All-contains, All-head, All-tail, Contains-get_or}
use Rattle.mesh_base.proofs.Pairs.{pairs_equal}
use Rattle.mesh_base.specs.Pairs.{word_of}
use Rattle.mesh_base.specs.declared.pair.Pair.{Pair}
use Rattle.mesh_types.specs.declared.lines.Outcome.{Outcome}
use Rattle.mesh_types.specs.declared.lines.Outcome.TheVariants as O
use Rattle.record_types.specs.declared.records.StoreRecord.{StoreRecord}
use Rattle.report_definitions.specs.Record.{Life, shown}
use Rattle.run_definitions.specs.RunOf.{IsDrawn, IsSpentRight, draws}
use Rattle.seq_word.specs.Rule.{IsEndOf, times}
use Rattle.seq_word.specs.Seen.{DrawerView}
use Rattle.seq_word.specs.declared.looks.Look.TheVariants as saw
use Rattle.seq_word.proofs.Sums.{distinct}
use Rattle.store_definitions.specs.Config.{config_of}
use Rattle.node_bearer.specs.Marked.{IsSpentSeen}
use Rattle.life_laws.specs.Pairs.{PairsSo, all_of}
use Rattle.life_laws.proofs.Pairing.{all_words, onward_at, pairs_words, rise_at, sum_up, within_drawn}

pub is_drawn : (over next : List StoreRecord) (l : Life) (moves : List ℕ) (d : DrawerView) → PairsSo l.entries moves l.sends d
    → All (λ x. (config_of over).mark ≤ x) d.drawn → All (λ x. x < (config_of next).mark) d.drawn → ((x : ℕ) → times x d.drawn ≤ 1) → IsDrawn over next l
is_drawn over next l moves d h from below once =
    let sum = sum_up l.entries moves l.sends h.drawns d.looks h.shown in
    let ws = all_of h.drawns in
    let within = within_drawn h.drawns d.drawn h.counted in
    record {
      seq = sum.seq;
      from = all_words (λ x. (config_of over).mark ≤ x) (draws (shown l)) ws sum.drawing
          (λ k x lt. All-contains (λ y. (config_of over).mark ≤ y) d.drawn (slice_index_or ws k x) from (within (slice_index_or ws k x) (Contains-get_or ws k x lt)));
      below = all_words (λ x. x < (config_of next).mark) (draws (shown l)) ws sum.drawing
          (λ k x lt. All-contains (λ y. y < (config_of next).mark) d.drawn (slice_index_or ws k x) below (within (slice_index_or ws k x) (Contains-get_or ws k x lt)));
      once = pairs_words (λ a b. a ≢ b) (draws (shown l)) ws sum.drawing (distinct ws (λ x. omega (arith, h.counted x, once x)));
      rise = rise_at l.entries moves l.sends h.drawns d.looks h.shown;
      onward = onward_at l.entries moves l.sends h.drawns d.looks h.shown;
    }

-- the last pair of an IV Index, by its word
last_pair : (p : Pair) (iv : ℕ) → p.seq < 2 ^ 24 → word_of p ≡ iv * 2 ^ 25 + 2 ^ 24 - 1 → p ≡ record { iv = iv; seq = 2 ^ 24 - 1 }
last_pair p iv short e = pairs_equal p (record { iv = iv; seq = 2 ^ 24 - 1 }) (omega (arith, short, e)) (omega (arith, short, e))

last_drawn : (ps : List Pair) (iv : ℕ) → All (λ p. p.seq < 2 ^ 24) ps → Contains (map word_of ps) (iv * 2 ^ 25 + 2 ^ 24 - 1) → Contains ps (record { iv = iv; seq = 2 ^ 24 - 1 })
last_drawn [] iv short (k, lt, e) = absurd (omega (arith, lt))
last_drawn (p ∷ ps) iv short (zero, lt, e) = (0, omega arith, last_pair p iv (All-head (λ q. q.seq < 2 ^ 24) p ps short) e)
last_drawn (p ∷ ps) iv short (suc k, lt, e) =
    let c = last_drawn ps iv (All-tail (λ q. q.seq < 2 ^ 24) p ps short) (k, omega (arith, lt), e) in
    (suc c.0, omega (arith, c.1), c.2)

-- a word that was drawn at a seat is that of a line
word_shown : (l : Life) (moves : List ℕ) (d : DrawerView) → PairsSo l.entries moves l.sends d → (x : ℕ) → Contains d.drawn x → Contains (map word_of (draws (shown l))) x
word_shown l moves d h x c =
    let whole : (y : ℕ) → times y (all_of (d.drawn ∷ [])) ≡ times y (all_of h.drawns) = λ y. ap (times y) (append-nil d.drawn) ∙ sym (h.counted y) in
    subst (λ ws. Contains ws x) (sym (sum_up l.entries moves l.sends h.drawns d.looks h.shown).drawing)
    (within_drawn (d.drawn ∷ []) (all_of h.drawns) whole x (subst (λ ws. Contains ws x) (sym (append-nil d.drawn)) c))

module _ (over next : List StoreRecord) (l : Life) (moves : List ℕ) (d : DrawerView) (h : PairsSo l.entries moves l.sends d)
    (below : (word : ℕ) → Contains d.looks (saw.Counter word) → word ≤ (config_of next).mark) (ends : All (IsEndOf (config_of over).mark d.drawn) d.looks) where
  spent_right : (o : Outcome) → IsSpentSeen d.looks o → IsSpentRight over next l o
  spent_right (O.Spent iv) seen =
      let came = All-contains (IsEndOf (config_of over).mark d.drawn) d.looks (saw.Counter (iv * 2 ^ 25 + 2 ^ 24)) ends seen (omega arith) in (
        below (iv * 2 ^ 25 + 2 ^ 24) seen,
        ⊎_elim (λ opened. inl (sym opened)) (λ drawn. inr (last_drawn (draws (shown l)) iv (sum_up l.entries moves l.sends h.drawns d.looks h.shown).seq (word_shown l moves d h (iv * 2 ^ 25 + 2 ^ 24 - 1) drawn))) came,
      )
  spent_right _ seen = tt

  pub is_spent : All (λ s. IsSpentRight over next l s.outcome) (shown l)
  is_spent k s lt = spent_right _ ((sum_up l.entries moves l.sends h.drawns d.looks h.shown).spent k s lt)
