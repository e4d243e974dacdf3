use Rattle.std.proofs.Common.{arith, ℕ, ◌≡◌, ◌+◌, ◌*◌, ◌∙◌, List, refl, sym, ap, subst, true≢false}
use Rattle.slot_definitions.specs.Slots.{text_at}
use Rattle.slot_journal.specs.Tie.{IsUsedBelow}
use Rattle.flash_model.proofs.Runs.{keeps_none, keeps_more, stays_none, stays_more}
use Rattle.slot_journal.proofs.Counted.{below_none, below_used, below_blank, below_all}
use Rattle.slot_journal.proofs.mounting.count_used.Goals as goal
use Rattle.slot_journal.proofs.mounting.count_used.Goals.{then-not-is_blank, else-not-is_blank}

pub loop-n-init : goal.loop-n-init
loop-n-init g c = record {
  keeps = keeps_none _;
  stays = λ honest. stays_none _;
  calls = refl;
  unerased = refl;
  unprogrammed = refl;
  most_reads = omega arith;
  faults = refl;
  few = omega arith;
  below = λ honest. below_none _ c.args.bank;
}

pub loop-n-preserved : goal.loop-n-preserved
loop-n-preserved g c =
    let before = c.loop-n.invariant in
    let read = c.in_ok-text.ensures in
    record {
      keeps = keeps_more _ _ _ before.keeps read.frame;
      stays = λ honest. stays_more _ _ _ (before.stays honest) (read.stays (before.keeps.honest ∙ honest));
      calls = read.calls ∙ before.calls;
      unerased = read.unerased ∙ before.unerased;
      unprogrammed = read.unprogrammed ∙ before.unprogrammed;
      most_reads = omega (arith, before.most_reads, read.most_reads);
      faults = read.no_fault ∙ before.faults;
      few = elim c.if-not-is_blank.branch [ then-not-is_blank w ↦ omega arith | else-not-is_blank w ↦ let few = before.few in omega arith ];
      below = λ honest.
          let start = (g.F.Flash.chip c.args.flash.now).now in
          let text : c.in_ok-text.text ≡ text_at start (1024 * c.args.bank + c.loop-n.n) = read.value ∙ ap (λ (l : List ℕ). text_at l (1024 * c.args.bank + c.loop-n.n)) (before.stays honest).now in
          elim c.if-not-is_blank.branch [
            | then-not-is_blank w ↦ subst (λ (u : ℕ). IsUsedBelow start c.args.bank (c.loop-n.n + 1) u) (sym w.used-is)
                (below_used start c.args.bank c.loop-n.n c.loop-n.used (before.below honest) (λ blank. absurd (true≢false (sym (c.is_blank.ensures.1 (text ∙ blank)) ∙ w.if-not-is_blank.true))))
            | else-not-is_blank w ↦ subst (λ (u : ℕ). IsUsedBelow start c.args.bank (c.loop-n.n + 1) u) (sym w.used-is)
                (below_blank start c.args.bank c.loop-n.n c.loop-n.used (before.below honest) (sym text ∙ c.is_blank.ensures.0 w.if-not-is_blank.false))
          ];
    }

pub returns : goal.returns
returns g c =
    let before = c.loop-n.invariant in
    let few = before.few in
    record {
      few = omega arith;
      value = λ honest. below_all _ c.args.bank c.loop-n.n c.loop-n.used (omega arith) (before.below honest);
      stays = before.stays;
      calls = before.calls;
      unerased = before.unerased;
      unprogrammed = before.unprogrammed;
      most_reads = omega (arith, before.most_reads);
      no_fault = before.faults;
      once = omega (arith, before.faults);
      cause = tt;
      sure = λ h. refl;
      frame = before.keeps;
    }
