-- The lines of bearers grow.
use Rattle.std.proofs.Common.{◌∙◌, List, [], ◌++◌, sym, ap, append-nil, append_assoc}
use Rattle.mesh_types.specs.declared.history.Sent.{Sent}
use Rattle.report_definitions.specs.Record.{list_at}
use Rattle.life_laws.specs.Phases.{both_of}
use Rattle.life_laws.proofs.Placing.{list_at_both}
use Rattle.mesh_node.specs.Given.{BeginWith}

-- nothing was written
pub begin_same : (sends : List (List Sent)) → BeginWith sends sends
begin_same sends k = record { rest = []; is = sym (append-nil (list_at sends k)) }

-- from the first to a second, and on to a third
pub begin_on : (first next last : List (List Sent)) → BeginWith first next → BeginWith next last → BeginWith first last
begin_on first next last h more k = record {
  rest = (h k).rest ++ (more k).rest;
  is = (more k).is ∙ ap (λ l. l ++ (more k).rest) (h k).is ∙ append_assoc (list_at first k) (h k).rest (more k).rest;
}

-- the lines of a phase more stand behind those of before
pub begin_both : (sends more : List (List Sent)) → BeginWith sends (both_of sends more)
begin_both sends more k = record { rest = list_at more k; is = list_at_both sends more k }
