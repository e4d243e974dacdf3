use Rattle.std.proofs.Common.{◌≡◌, ℕ, ◌+◌, ◌-◌, ◌<◌, ◌≤◌, List, ◌∷◌, ◌++◌, length, take, drop, get_or, sym, ap, subst, ◌∙◌, arith}
use Rattle.std.proofs.lemmas.List.{length-take}
use Rattle.live_lines.specs.Moves.{HasNoLf}
use Rattle.live_lines.proofs.Ranges.{parts_at, range_behind}
use Rattle.live_lines.proofs.held.Held.take_line.Goals as goal

-- a range by the first of its octets that is so
cut : (octets held seen : List ℕ) (from to at : ℕ) → take (to - from) (drop from octets) ≡ held → seen ≡ held → at < length seen → get_or seen at 0 ≡ 10
    → held ≡ take at held ++ 10 ∷ take (to - (from + (at + 1))) (drop (from + (at + 1)) octets)
cut octets held seen from to at view same within is =
    let range : List ℕ = take (to - from) (drop from octets) in
    let all : seen ≡ range = same ∙ sym view in
    let fits : from + (at + 1) ≤ to = omega (arith, ap length all, length-take (to - from) (drop from octets)) in
    parts_at held at 10 (omega (arith, ap length same)) (ap (λ (xs : List ℕ). get_or xs at 0) (sym same) ∙ is)
    ∙ ap (λ (xs : List ℕ). take at held ++ 10 ∷ xs) (ap (drop (at + 1)) (sym view) ∙ sym (range_behind octets from to (at + 1) fits))

pub returns-in-Some-clause-whole : goal.returns-in-Some-clause-whole
returns-in-Some-clause-whole c = λ e.
    let held = c.args.self.now in
    let at = c.in-Some.at in
    let found = c.in-Some.ensures.value in (
      take at held,
      subst (λ (xs : List ℕ). HasNoLf (take at xs)) c.as_slice.ensures.value found.1,
      cut c.self.inside.octets.items held c.as_slice.result.now c.self.inside.from c.self.inside.to at c.self.view_is c.as_slice.ensures.value found.0 found.2,
      c.push_front.ensures.value ∙ ap (λ (xs : List ℕ). take 1202 (c.args.front.now ++ take at xs)) c.as_slice-in-Some.ensures.value,
    )
