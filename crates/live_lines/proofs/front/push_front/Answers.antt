use Rattle.std.proofs.Common.{◌∙◌, ℕ, ◌≤◌, List, length, subst, ap, arith}
use Rattle.live_lines.proofs.Ranges.{room_taken}
use Rattle.live_lines.proofs.front.push_front.Goals as goal

pub returns : goal.returns
returns c =
    let few : length c.args.front.now ≤ 1202 = subst (λ (xs : List ℕ). length xs ≤ 1202) c.as_slice.ensures.value c.as_slice.ensures.length in
    record {
      value =
          c.extend.ensures.value
          ∙ room_taken 1202 c.min-count.result c.args.front.now c.args.octets.now few
          (omega (arith, ap length c.as_slice.ensures.value));
    }
