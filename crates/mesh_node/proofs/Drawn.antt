-- What was drawn at the seats are the pairs of the lines.
use Rattle.std.proofs.Common.{◌≡◌, ◌≢◌, ◌∙◌, ℕ, ◌+◌, ◌≤◌, true, List, [], ◌∷◌, map, sym, ap, subst, append-nil, arith}
use Rattle.std.specs.Prelude.{All, AllPairs, ◌*◌, ◌^◌}
use Rattle.std.proofs.lemmas.List.Elements.{All-contains}
use Rattle.std.specs.List.{Contains}
use Rattle.mesh_base.specs.Pairs.{word_of}
use Rattle.report_definitions.specs.Record.{Life, shown}
use Rattle.mesh_types.specs.declared.lines.Outcome.{Outcome}
use Rattle.mesh_types.specs.declared.lines.Outcome.TheVariants as O
use Rattle.run_definitions.specs.RunOf.{draws, is_on}
use Rattle.seq_word.specs.Rule.{IsEndOf, times}
use Rattle.seq_word.specs.Seen.{ClosedView, DrawerView}
use Rattle.seq_word.specs.declared.looks.Look.TheVariants as saw
use Rattle.seq_word.specs.declared.looks.Look.{Look}
use Rattle.locked_node.specs.Asked.{AreAsked}
use Rattle.node_bearer.specs.Marked.{HasOwnLooks, IsSpentSeen, ends_told}
use Rattle.life_laws.specs.Pairs.{PairsSo, all_of}
use Rattle.life_laws.proofs.Pairing.{sum_up, within_drawn}
use Rattle.mesh_node.specs.Drawn.{AreWordsOf, IsSpentBy, TellsWords, opened_at}
use Rattle.mesh_node.specs.Left.{Closes}

pub words_of : (l : Life) (moves : List ℕ) (d : DrawerView) (words : List ℕ) → words ≡ d.drawn → AllPairs (λ x y. x ≢ y) d.drawn → PairsSo l.entries moves l.sends d → AreWordsOf words (draws (shown l))
words_of l moves d words is apart h =
    let sum : map word_of (draws (shown l)) ≡ all_of h.drawns = (sum_up l.entries moves l.sends h.drawns d.looks h.shown).drawing in
    let whole : (y : ℕ) → times y (all_of (d.drawn ∷ [])) ≡ times y (all_of h.drawns) = λ y. ap (times y) (append-nil d.drawn) ∙ sym (h.counted y) in
    let same : AreWordsOf d.drawn (draws (shown l)) = record {
      once = apart;
      each = λ x. (
        (λ c. subst (λ ws. Contains ws x) (sym sum) (within_drawn (d.drawn ∷ []) (all_of h.drawns) whole x (subst (λ ws. Contains ws x) (sym (append-nil d.drawn)) c))),
        (λ c. within_drawn h.drawns d.drawn h.counted x (subst (λ ws. Contains ws x) sum c)),
      );
    } in
    subst (λ ws. AreWordsOf ws (draws (shown l))) (sym is) same

-- what the lines say to be spent was seen at the seats
pub spent_of : (l : Life) (moves : List ℕ) (d : DrawerView) (looks : List Look) → looks ≡ d.looks → PairsSo l.entries moves l.sends d → All (λ s. IsSpentSeen looks s.outcome) (shown l)
spent_of l moves d looks are h = subst (λ ls. All (λ s. IsSpentSeen ls s.outcome) (shown l)) (sym are) (sum_up l.entries moves l.sends h.drawns d.looks h.shown).spent

-- and its last number was drawn, or the counter was opened behind it
spent_by : (first : ℕ) (words : List ℕ) (looks : List Look) → All (IsEndOf first words) looks → (o : Outcome) → IsSpentSeen looks o → IsSpentBy first words o
spent_by first words looks ends (O.Spent iv) h =
    All-contains (IsEndOf first words) looks (saw.Counter (iv * 2 ^ 25 + 2 ^ 24)) ends h (omega arith)
spent_by first words looks ends o h = tt

pub tells_words : (l : Life) (moves : List ℕ) (d : DrawerView) (closed : ClosedView) → is_on l.opened ≡ true → Closes d closed (opened_at l.opened) → PairsSo l.entries moves l.sends d → AreAsked l.entries l.refills → TellsWords l closed
tells_words l moves d closed on h pairs asked =
    let seen = spent_of l moves d closed.looks h.looks pairs in
    let ends : All (IsEndOf (opened_at l.opened) closed.drawn) closed.looks =
    subst (λ ws. All (IsEndOf (opened_at l.opened) ws) closed.looks) (sym h.drawn) (subst (All (IsEndOf (opened_at l.opened) d.drawn)) (sym h.looks) h.ends) in
    record {
      ran = on;
      words = words_of l moves d closed.drawn h.drawn h.apart pairs;
      since = subst (All (λ x. opened_at l.opened ≤ x)) (sym h.drawn) h.since;
      spent = seen;
      own = subst (HasOwnLooks (ends_told (shown l))) (sym h.looks) pairs.own;
      ends = λ k s lt. spent_by (opened_at l.opened) closed.drawn closed.looks ends _ (seen k s lt);
      all = λ x. omega (arith, h.all x, ap (times x) h.drawn);
      firsts = h.firsts;
      reached = h.reached;
      near = h.near;
      asked = asked;
    }
