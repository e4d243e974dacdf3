use Rattle.std.proofs.Common.{List, [], ◌∷◌, ◌++◌, get_or, set, sym, ap, ◌∙◌}
use Rattle.mesh_types.specs.declared.events.Event.{Event}
use Rattle.script_events.specs.Happenings.{said}
use Rattle.live_lines.proofs.Events.{lists_fit}
use Rattle.live_lines.proofs.Phases.{phase_none, phase_one}
use Rattle.live_lines.proofs.phase.phase_of.Goals as goal

pub returns-in_ok-push_event-in-Some : goal.returns-in_ok-push_event-in-Some
returns-in_ok-push_event-in-Some c =
    let h = said c.in-Some.happening in
    let value =
    c.in_ok-push_event-in-Some.ensures.ok
    ∙ ap (λ (lists : List (List Event)). set lists h.bearer (get_or lists h.bearer [] ++ h.event ∷ [])) c.in_ok-lists.ensures.value
    ∙ phase_one c.args.bearers c.args.line.now h (sym c.in-Some.ensures.value) in
    record {
      value = value;
      fits = λ elements is. lists_fit c.args.bearers elements _ (record { line = c.args.line.now; said = is; is = value });
    }

pub returns-in-None : goal.returns-in-None
returns-in-None c =
    let value = c.in_ok-lists.ensures.value ∙ phase_none c.args.bearers c.args.line.now (sym c.in-None.ensures.value) in
    record { value = value; fits = λ elements is. lists_fit c.args.bearers elements _ (record { line = c.args.line.now; said = is; is = value }) }
