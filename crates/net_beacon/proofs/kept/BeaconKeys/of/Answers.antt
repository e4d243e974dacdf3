-- What is found is the key itself.
use Rattle.std.proofs.Common.{◌≡◌, ◌∙◌, Some, None, ap, false, sym, true}
use Rattle.std.specs.Prelude.{IfSome, is_some}
use Rattle.std.specs.List.{find}
use Rattle.std.specs.Option.{option_copied}
use Rattle.net_beacon.specs.Kept.{is_value}
use Rattle.net_beacon.proofs.Values.{found_value, found_some}
use Rattle.net_beacon.proofs.kept.BeaconKeys.of.Goals as goal

pub returns-in-Some-clause-same : goal.returns-in-Some-clause-same
returns-in-Some-clause-same c =
    let found : find (is_value c.args.key.now) c.args.self.now ≡ Some c.in-Some.place.now = sym c.in-Some.ensures in
    (elim c.as_ref.result as (λ o. option_copied o ≡ c.in-Some.place.now → IfSome o (λ k. k.now ≡ c.args.key.now)) [
      | None ↦ λ e. tt
      | Some k ↦ λ e. found_value c.args.key.now c.args.self.now k.now (found ∙ ap (λ o. Some o) (sym e))
    ]) c.as_ref.ensures.value

pub returns-in-Some-clause-none : goal.returns-in-Some-clause-none
returns-in-Some-clause-none c =
    let found : find (is_value c.args.key.now) c.args.self.now ≡ Some c.in-Some.place.now = sym c.in-Some.ensures in
    let some : is_some c.as_ref.result ≡ true = c.as_ref.ensures.variant ∙ found_some c.args.key.now c.args.self.now c.in-Some.place.now found in
    let held : is_some (find (is_value c.args.key.now) c.args.self.now) ≡ true = ap (λ o. is_some o) found in (
      (λ none. absurd (let clash : true ≡ false = sym some ∙ none in cc)),
      (λ none. absurd (let clash : true ≡ false = sym held ∙ none in cc)),
    )
