use Rattle.std.proofs.Common.{ap, sym, ◌∙◌}
use Rattle.std.specs.Option.{option_copied}
use Rattle.mesh_hearing.proofs.Named.{accepted_is}
use Rattle.mesh_hearing.proofs.lower.accepted_part.Goals as goal

pub returns-in-Some : goal.returns-in-Some
returns-in-Some c =
    accepted_is c.args.h.now c.in-Some.low.now _ (sym c.low.ensures.value ∙ ap option_copied c.in-Some.is) (sym c.is_segment.ensures.value ∙ c.if-is_segment.true) c.accepted.ensures
