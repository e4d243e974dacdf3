use Rattle.std.proofs.Common.{◌≡◌, ◌∙◌, ◌∷◌, [], ℕ, List, refl, sym, ap, ap₂, subst}
use Rattle.std.specs.Prelude.{⊤}
use Rattle.std.proofs.lemmas.List.Elements.{All-nil}
use Rattle.mesh_types.specs.declared.report.Opened.{Opened}
use Rattle.mesh_types.specs.declared.report.Opened.TheVariants as W
use Rattle.machine_contract.specs.Opening.{MigratesOnly, found_of}
use Rattle.mesh_node.specs.Given.{Stood}
use Rattle.record_types.specs.declared.records.StoreRecord.{StoreRecord}
use Rattle.report_writer.specs.Writing.{view_of}
use Rattle.store_definitions.specs.Config.{config_of}
use Rattle.live_report.specs.Lines.{phases_lines}
use Rattle.live_node.specs.Lived.{streams_at}
use Rattle.live_node.proofs.Behind.{over, short}
use Rattle.live_node.proofs.Causes.{closed_cause, sink_cause}
use Rattle.live_node.proofs.running.go_on.Goals as goal

-- what the records of a life open, where they are those that its machine was started over
opens : (a b : List StoreRecord) (opened : Opened) (state : _) (mark : ℕ) → a ≡ b → opened ≡ W.On state mark → state ≡ (config_of b).iv → mark ≡ (config_of b).mark
    → opened ≡ W.On (config_of a).iv (config_of a).mark
opens a b opened state mark same is s m = is ∙ ap₂ W.On s m ∙ ap (λ o. W.On (config_of o).iv (config_of o).mark) (sym same)

pub returns-in-Ok-clause-ended : goal.returns-in-Ok-clause-ended
returns-in-Ok-clause-ended g c before first =
    let chip = g.F.Flash.chip in
    let s = c.requires.started in
    let begins = c.requires.lines in
    let lines = c.args.lines in
    let lives = c.in-Ok.ensures.lived in
    let lived = c.in-Ok.lived in
    let same = c.one_list_is_recovered.ensures.one_list (chip c.args.beginning.start).now lives.over s.over lives.recovered s.read in
    let life = c.tells.ensures.known (found_of (chip c.args.beginning.start)) c.args.beginning.flash s.over c.args.beginning.started.machine s.tie in
    rw c.streams_of.ensures.value
    (over g.S.ClockedSource.clocked g.S.Source.left g.S.Source.faults g.S.ClockedSource.time g.E.Sink.held g.E.Sink.pieces g.E.Sink.faults g.K.Sink.held g.K.Sink.pieces g.K.Sink.faults
    (Stood g.M.Machine.view (g.M.Machine.stands (found_of (chip c.args.beginning.start))) chip lived.flash) g.M.Machine.role g.M.Machine.image _ _ c.args.beginning.bearers (chip c.args.beginning.start) (chip lived.flash) c.args.beginning.flash lived.flash
    lines c.live_on-lived.new.source c.args.report c.live_on-lived.new.sink c.end_status-status.new.report.sink lived.refills lived.drawn lived.closed
    (streams_at g.S.Source.left g.S.Source.faults g.S.ClockedSource.time g.E.Sink.held g.E.Sink.pieces g.E.Sink.faults (record { source = lines.lines.source; errors = lines.lines.errors; sink = c.args.report.sink }))
    before c.args.opened c.life_law.ensures.whole first
    (ap₂ (λ h n. record {
      left = g.S.Source.left lines.lines.source;
      held = h;
      number = n;
      told = view_of g.E.Sink.held g.E.Sink.pieces lines.lines.errors;
      source_faults = g.S.Source.faults lines.lines.source;
      sink_faults = g.E.Sink.faults lines.lines.errors;
      time = g.S.ClockedSource.time lines.lines.source;
    }) begins.held begins.number) begins.why (All-nil (λ b. b ≡ 10 → ⊥), begins.front)
    (λ same. subst (λ f. MigratesOnly (chip c.args.beginning.start) (chip f)) (sym same) c.requires.writes)
    lived.last lives (opens lives.over s.over c.args.opened c.args.beginning.started.state c.args.beginning.started.mark same c.requires.opened s.state s.mark)
    (begins.elements_are ∙ life.elements ∙ ap (λ o. (config_of o).elements) (sym same)) begins.bearers_are
    (c.told_law.ensures.told lived.last c.args.report c.live_on-lived.new.sink lives.did lives.took)
    (c.told_law.ensures.last c.args.report c.live_on-lived.new.sink)
    c.end_status-status.result c.end_status-status.ensures.told c.end_status-status.ensures.given_up)

pub returns-in-Ok-clause-sink : goal.returns-in-Ok-clause-sink
returns-in-Ok-clause-sink g c =
    let lives = c.in-Ok.ensures.lived in
    let lived = c.in-Ok.lived in
    rw c.streams_of.ensures.value
    (sink_cause g.K.Sink.held g.K.Sink.pieces g.K.Sink.faults c.args.opened (phases_lines c.args.report.hex lives.did) c.args.report c.live_on-lived.new.sink c.end_status-status.new.report.sink
    lived.last (c.told_law.ensures.told lived.last c.args.report c.live_on-lived.new.sink lives.did lives.took)
    c.end_status-status.result c.end_status-status.ensures.told c.live_on-lived.new.source.lines.why c.end_status-status.ensures.given_up)

pub returns-in-Err-clause-ended : goal.returns-in-Err-clause-ended
returns-in-Err-clause-ended g c before first =
    let chip = g.F.Flash.chip in
    let s = c.requires.started in
    let begins = c.requires.lines in
    let lines = c.args.lines in
    let fell = c.in-Err.ensures.short in
    let same = c.one_list_is_recovered.ensures.one_list (chip c.args.beginning.start).now fell.over s.over fell.recovered s.read in
    let life = c.tells.ensures.known (found_of (chip c.args.beginning.start)) c.args.beginning.flash s.over c.args.beginning.started.machine s.tie in
    rw c.streams_of-in-Err.ensures.value
    (short g.S.ClockedSource.clocked g.S.Source.left g.S.Source.faults g.S.ClockedSource.time g.E.Sink.held g.E.Sink.pieces g.E.Sink.faults g.K.Sink.held g.K.Sink.pieces g.K.Sink.faults
    (λ _ _. ⊤) g.M.Machine.role g.M.Machine.image _ _ c.args.beginning.bearers (chip c.args.beginning.start) (chip c.args.beginning.flash) c.args.beginning.flash c.args.beginning.flash
    lines c.live_on-lived.new.source c.args.report c.live_on-lived.new.sink c.live_on-lived.new.sink.sink 0 (record { next = 0; mark = 0; drawn = []; looks = []; advances = [] }) Rattle.std.proofs.Common.false
    (streams_at g.S.Source.left g.S.Source.faults g.S.ClockedSource.time g.E.Sink.held g.E.Sink.pieces g.E.Sink.faults (record { source = lines.lines.source; errors = lines.lines.errors; sink = c.args.report.sink }))
    before c.args.opened c.life_law.ensures.whole first
    (ap₂ (λ h n. record {
      left = g.S.Source.left lines.lines.source;
      held = h;
      number = n;
      told = view_of g.E.Sink.held g.E.Sink.pieces lines.lines.errors;
      source_faults = g.S.Source.faults lines.lines.source;
      sink_faults = g.E.Sink.faults lines.lines.errors;
      time = g.S.ClockedSource.time lines.lines.source;
    }) begins.held begins.number) begins.why (All-nil (λ b. b ≡ 10 → ⊥), begins.front) (λ same. c.requires.writes)
    fell (opens fell.over s.over c.args.opened c.args.beginning.started.state c.args.beginning.started.mark same c.requires.opened s.state s.mark)
    (begins.elements_are ∙ life.elements ∙ ap (λ o. (config_of o).elements) (sym same)) begins.bearers_are
    (c.told_law.ensures.taken c.args.report c.live_on-lived.new.sink fell.did fell.took).written)

pub returns-in-Err-clause-sink : goal.returns-in-Err-clause-sink
returns-in-Err-clause-sink g c =
    let fell = c.in-Err.ensures.short in
    rw c.streams_of-in-Err.ensures.value (c.told_law.ensures.taken c.args.report c.live_on-lived.new.sink fell.did fell.took).faults_stay

pub returns-in-Ok-clause-closed : goal.returns-in-Ok-clause-closed
returns-in-Ok-clause-closed g c =
    let lives = c.in-Ok.ensures.lived in
    let lived = c.in-Ok.lived in
    closed_cause g.K.Sink.held g.K.Sink.pieces g.K.Sink.faults c.args.opened (phases_lines c.args.report.hex lives.did) c.args.report c.live_on-lived.new.sink c.end_status-status.new.report.sink
    lived.last lived.closed lives.end c.end_status-status.result c.end_status-status.ensures.told c.live_on-lived.new.source.lines.why c.end_status-status.ensures.given_up
