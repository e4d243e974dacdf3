use Rattle.std.proofs.Common.{◌≡◌, ◌∙◌, ◌++◌, [], ◌∷◌, List, ap, subst, sym, arith}
use Rattle.std.specs.Option.{option_to_list}
use Rattle.event_records.specs.Putting.{AreMoves, ArePuttable}
use Rattle.event_records.proofs.Puts.{hour_may, hour_moves, leads}
use Rattle.iv_update.specs.Steps.{IsLater, state_after}
use Rattle.mesh_base.specs.declared.iv_state.IvState.{IvState}
use Rattle.mesh_base.specs.declared.iv_state.IvStep.{IvStep}
use Rattle.node_records.specs.Tables.{config_in}
use Rattle.record_types.specs.declared.records.StoreRecord.{StoreRecord}
use Rattle.record_types.specs.declared.records.StoreRecord.TheVariants as R
use Rattle.event_records.proofs.ticks.hour_records.Goals as goal

pub step_record-requires-clause-step : goal.step_record-requires-clause-step
step_record-requires-clause-step c =
    let p = c.args.p.now in
    let later : IsLater p.iv (state_after c.on_hours-step.result.0 c.on_hours-step.result.1) =
    subst (λ (e : IvState × IvStep). IsLater p.iv (state_after e.0 e.1)) (sym c.on_hours-step.ensures.value)
    (c.steps_law.ensures.hours p.iv _ _ _ (c.value_law.ensures.transmit p c.requires.said)) in
    leads p.iv c.on_hours-step.result.0 c.on_hours-step.result.1 later

pub returns-clause-may : goal.returns-clause-may
returns-clause-may c =
    let p = c.args.p.now in
    let aged = c.on_hours-step.result.0 in
    let step : List StoreRecord = option_to_list c.step_record.result in
    let all : c.add-2.new.records ≡ R.Hour aged.hours aged.since ∷ step =
    c.add-2.ensures.value
    ∙ ap (λ (rs : List StoreRecord). rs ++ step)
    (c.add.ensures.value ∙ ap (λ (rs : List StoreRecord). rs ++ R.Hour aged.hours aged.since ∷ []) c.new-records.ensures.value) in
    subst (λ (rs : List StoreRecord). ArePuttable p rs) (sym all)
    (hour_may p aged.hours aged.since step (omega arith) (omega arith) (c.step_record.ensures.may (c.value_law.ensures.mark p c.requires.said)))

pub returns-clause-moves : goal.returns-clause-moves
returns-clause-moves c =
    let p = c.args.p.now in
    let aged = c.on_hours-step.result.0 in
    let step : List StoreRecord = option_to_list c.step_record.result in
    let all : c.add-2.new.records ≡ R.Hour aged.hours aged.since ∷ step =
    c.add-2.ensures.value
    ∙ ap (λ (rs : List StoreRecord). rs ++ step)
    (c.add.ensures.value ∙ ap (λ (rs : List StoreRecord). rs ++ R.Hour aged.hours aged.since ∷ []) c.new-records.ensures.value) in
    subst (λ (rs : List StoreRecord). AreMoves (config_in p) rs) (sym all) (hour_moves (config_in p) aged.hours aged.since step c.step_record.ensures.moves)
