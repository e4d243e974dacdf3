-- Each allowed step keeps a good world.
use Rattle.std.proofs.Common.{◌≢◌, ℕ, max, ◌+◌, ◌*◌, ◌^◌, ◌<◌, inr, sym, ap, subst, arith, List, [], ◌∷◌, ◌++◌, Option, Some, None, IfSome}
use Rattle.std.specs.List.{All, Contains}
use Rattle.std.proofs.lemmas.List.Elements.{All-contains, All-nil, All-push, All-weaker, Contains-append_left, Contains-push}
use Rattle.std.proofs.lemmas.List.Quantifiers.{all_pairs_push}
use Rattle.mesh_base.specs.declared.address.Address.{Address}
use Rattle.mesh_base.specs.declared.pair.Pair.{Pair}
use Rattle.mesh_base.specs.declared.pair.Name.{Name}
use Rattle.mesh_base.specs.Pairs.{word_of, pair_of, IsPair}
use Rattle.mesh_world.specs.World.{World, Sealing, HasNonce, IsOf, IsAllowed, AreAllowed, after, after_all, WorldStep}
use Rattle.mesh_world.specs.World.WorldStep.{Draw, Seal, Reserve, Publish, Advance, Accept, Expire, Deliver, Cut}
use Rattle.mesh_world.specs.Good.{IsGood, IsSpent}
use Rattle.mesh_base.proofs.Pairs.{word-pair_of}
use Rattle.mesh_world.proofs.Words.{spent_later, spent_accepted, spent_expired, spent_refused, up_to_itself, spent_replaced, entry_at, IsSpentBy, IfSome-weaker}

module _ (w : World) (g : IsGood w) where
  draw : IsAllowed w Draw → IsGood (after w Draw)
  draw h =
      let next : Pair = pair_of w.next in
      record {
        next_marked = omega arith;
        mark_kept = g.mark_kept;
        drawn_once = all_pairs_push (λ p q. p ≢ q) w.drawn next g.drawn_once
            (λ k d l e. omega (arith, g.drawn_below k d l, ap word_of e, word-pair_of w.next));
        drawn_pairs = All-push IsPair w.drawn next g.drawn_pairs h.1;
        drawn_below = All-push (λ p. word_of p < w.next + 1) w.drawn next
            (All-weaker (λ p. word_of p < w.next) (λ p. word_of p < w.next + 1) (λ p l. omega arith) w.drawn g.drawn_below) (omega (arith, word-pair_of w.next));
        held_drawn = All-push (λ p. Contains (w.drawn ++ next ∷ []) p) w.held next
            (All-weaker (Contains w.drawn) (Contains (w.drawn ++ next ∷ [])) (Contains-append_left w.drawn (next ∷ [])) w.held g.held_drawn) (Contains-push w.drawn next);
        seals_drawn = All-weaker (λ s. Contains w.drawn s.pair) (λ s. Contains (w.drawn ++ next ∷ []) s.pair)
            (λ s. Contains-append_left w.drawn (next ∷ []) s.pair) w.seals g.seals_drawn;
        seals_nonce = g.seals_nonce;
        seals_once = g.seals_once;
        delivered_once = g.delivered_once;
        delivered_spent = g.delivered_spent;
        pending_spent = g.pending_spent;
        pending_new = g.pending_new;
      }

  seal : (s : Sealing) → IsAllowed w (Seal s) → IsGood (after w (Seal s))
  seal s (held, unused, nonce) =
      record {
        next_marked = g.next_marked;
        mark_kept = g.mark_kept;
        drawn_once = g.drawn_once;
        drawn_pairs = g.drawn_pairs;
        drawn_below = g.drawn_below;
        held_drawn = g.held_drawn;
        seals_drawn = All-push (λ t. Contains w.drawn t.pair) w.seals s g.seals_drawn (All-contains (Contains w.drawn) w.held s.pair g.held_drawn held);
        seals_nonce = All-push (λ t. HasNonce t.layer t.pair t.made.nonce) w.seals s g.seals_nonce nonce;
        seals_once = all_pairs_push (λ t u. IsOf t.layer t.pair u → ⊥) w.seals s g.seals_once (λ k d l e. unused k d l (sym e.0, sym e.1));
        delivered_once = g.delivered_once;
        delivered_spent = g.delivered_spent;
        pending_spent = g.pending_spent;
        pending_new = g.pending_new;
      }

  reserve : (current mark : ℕ) → IsAllowed w (Reserve current mark) → IsGood (after w (Reserve current mark))
  reserve current mark h =
      let later = λ (n : Name). spent_later w.current current (w.entry n.src) n.pair h.0 in
      record {
        next_marked = g.next_marked;
        mark_kept = omega arith;
        drawn_once = g.drawn_once;
        drawn_pairs = g.drawn_pairs;
        drawn_below = g.drawn_below;
        held_drawn = g.held_drawn;
        seals_drawn = g.seals_drawn;
        seals_nonce = g.seals_nonce;
        seals_once = g.seals_once;
        delivered_once = g.delivered_once;
        delivered_spent = All-weaker (IsSpent w) (IsSpent (after w (Reserve current mark))) later w.delivered g.delivered_spent;
        pending_spent = IfSome-weaker (IsSpent w) (IsSpent (after w (Reserve current mark))) later w.pending g.pending_spent;
        pending_new = g.pending_new;
      }

  publish : (mark : ℕ) → IsAllowed w (Publish mark) → IsGood (after w (Publish mark))
  publish mark h =
      record {
        next_marked = omega arith;
        mark_kept = h.1;
        drawn_once = g.drawn_once;
        drawn_pairs = g.drawn_pairs;
        drawn_below = g.drawn_below;
        held_drawn = g.held_drawn;
        seals_drawn = g.seals_drawn;
        seals_nonce = g.seals_nonce;
        seals_once = g.seals_once;
        delivered_once = g.delivered_once;
        delivered_spent = g.delivered_spent;
        pending_spent = g.pending_spent;
        pending_new = g.pending_new;
      }

  advance : (iv : ℕ) → IsAllowed w (Advance iv) → IsGood (after w (Advance iv))
  advance iv h =
      record {
        next_marked = omega arith;
        mark_kept = g.mark_kept;
        drawn_once = g.drawn_once;
        drawn_pairs = g.drawn_pairs;
        drawn_below = All-weaker (λ p. word_of p < w.next) (λ p. word_of p < max w.next (iv * 2 ^ 25)) (λ p l. omega arith) w.drawn g.drawn_below;
        held_drawn = g.held_drawn;
        seals_drawn = g.seals_drawn;
        seals_nonce = g.seals_nonce;
        seals_once = g.seals_once;
        delivered_once = g.delivered_once;
        delivered_spent = g.delivered_spent;
        pending_spent = g.pending_spent;
        pending_new = g.pending_new;
      }

  accept : (name : Name) → IsAllowed w (Accept name) → IsGood (after w (Accept name))
  accept name (heard, newer) =
      let accepted = λ (n : Name). spent_replaced w.current w.entry name.src (Some name.pair) n (spent_accepted w.current (w.entry name.src) n.pair name.pair newer) in
      record {
        next_marked = g.next_marked;
        mark_kept = g.mark_kept;
        drawn_once = g.drawn_once;
        drawn_pairs = g.drawn_pairs;
        drawn_below = g.drawn_below;
        held_drawn = g.held_drawn;
        seals_drawn = g.seals_drawn;
        seals_nonce = g.seals_nonce;
        seals_once = g.seals_once;
        delivered_once = g.delivered_once;
        delivered_spent = All-weaker (IsSpent w) (IsSpent (after w (Accept name))) accepted w.delivered g.delivered_spent;
        pending_spent = subst (IsSpentBy w.current name.pair) (sym (entry_at w.entry name.src (Some name.pair))) (inr (up_to_itself name.pair));
        pending_new = λ k d l e. spent_refused w.current (w.entry name.src) name.pair heard newer (subst (IsSpent w) e (g.delivered_spent k d l));
      }

  expire : (src : Address) → IsAllowed w (Expire src) → IsGood (after w (Expire src))
  expire src h =
      let gone = λ (n : Name). spent_replaced w.current w.entry src None n (spent_expired w.current (w.entry src) n.pair h) in
      record {
        next_marked = g.next_marked;
        mark_kept = g.mark_kept;
        drawn_once = g.drawn_once;
        drawn_pairs = g.drawn_pairs;
        drawn_below = g.drawn_below;
        held_drawn = g.held_drawn;
        seals_drawn = g.seals_drawn;
        seals_nonce = g.seals_nonce;
        seals_once = g.seals_once;
        delivered_once = g.delivered_once;
        delivered_spent = All-weaker (IsSpent w) (IsSpent (after w (Expire src))) gone w.delivered g.delivered_spent;
        pending_spent = IfSome-weaker (IsSpent w) (IsSpent (after w (Expire src))) gone w.pending g.pending_spent;
        pending_new = g.pending_new;
      }

  deliver : (name : Name) → IsAllowed w (Deliver name) → IsGood (after w (Deliver name))
  deliver name h =
      let new = subst (λ (o : Option Name). IfSome o (λ n. All (λ m. m ≢ n) w.delivered)) h g.pending_new in
      let spent = subst (λ (o : Option Name). IfSome o (IsSpent w)) h g.pending_spent in
      record {
        next_marked = g.next_marked;
        mark_kept = g.mark_kept;
        drawn_once = g.drawn_once;
        drawn_pairs = g.drawn_pairs;
        drawn_below = g.drawn_below;
        held_drawn = g.held_drawn;
        seals_drawn = g.seals_drawn;
        seals_nonce = g.seals_nonce;
        seals_once = g.seals_once;
        delivered_once = all_pairs_push (λ m n. m ≢ n) w.delivered name g.delivered_once new;
        delivered_spent = All-push (IsSpent w) w.delivered name g.delivered_spent spent;
        pending_spent = tt;
        pending_new = tt;
      }

  cut : (mark : ℕ) → IsAllowed w (Cut mark) → IsGood (after w (Cut mark))
  cut mark h =
      record {
        next_marked = omega arith;
        mark_kept = omega arith;
        drawn_once = g.drawn_once;
        drawn_pairs = g.drawn_pairs;
        drawn_below = All-weaker (λ p. word_of p < w.next) (λ p. word_of p < mark) (λ p l. omega arith) w.drawn g.drawn_below;
        held_drawn = All-nil (Contains w.drawn);
        seals_drawn = g.seals_drawn;
        seals_nonce = g.seals_nonce;
        seals_once = g.seals_once;
        delivered_once = g.delivered_once;
        delivered_spent = g.delivered_spent;
        pending_spent = tt;
        pending_new = tt;
      }

pub step : (w : World) (s : WorldStep) → IsGood w → IsAllowed w s → IsGood (after w s)
step w Draw g h = draw w g h
step w (Seal s) g h = seal w g s h
step w (Reserve current mark) g h = reserve w g current mark h
step w (Publish mark) g h = publish w g mark h
step w (Advance iv) g h = advance w g iv h
step w (Accept name) g h = accept w g name h
step w (Expire src) g h = expire w g src h
step w (Deliver name) g h = deliver w g name h
step w (Cut mark) g h = cut w g mark h

pub steps : (w : World) (ss : List WorldStep) → IsGood w → AreAllowed w ss → IsGood (after_all w ss)
steps w [] g h = g
steps w (s ∷ ss) g (first, rest) = steps (after w s) ss (step w s g first) rest
