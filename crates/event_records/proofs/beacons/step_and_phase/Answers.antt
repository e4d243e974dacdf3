use Rattle.std.proofs.Common.{◌≡◌, ◌∙◌, ◌++◌, List, ap, subst, sym}
use Rattle.std.specs.Option.{option_to_list}
use Rattle.event_records.specs.Putting.{AreMoves, ArePuttable}
use Rattle.event_records.proofs.Puts.{phase_may, phase_moves}
use Rattle.node_records.specs.Tables.{config_in}
use Rattle.record_types.specs.declared.records.StoreRecord.{StoreRecord}
use Rattle.event_definitions.specs.Stores.{phase_records}
use Rattle.event_records.proofs.beacons.step_and_phase.Goals as goal

pub returns-clause-may : goal.returns-clause-may
returns-clause-may c =
    let p = c.args.p.now in
    let step : List StoreRecord = option_to_list c.step_record.result in
    let all : c.add-2.new.records ≡ phase_records c.args.index c.args.key ++ step =
    c.add-2.ensures.value
    ∙ ap (λ (rs : List StoreRecord). rs ++ step)
    (c.add.ensures.value ∙ ap (λ (rs : List StoreRecord). rs ++ option_to_list c.phase_record.result) c.new-records.ensures.value ∙ c.phase_record.ensures) in
    subst (λ (rs : List StoreRecord). ArePuttable p rs) (sym all)
    (phase_may p c.args.index c.args.key step c.requires.index c.few_nets.ensures
    (c.step_record.ensures.may (c.value_law.ensures.mark p c.requires.said)))

pub returns-clause-moves : goal.returns-clause-moves
returns-clause-moves c =
    let p = c.args.p.now in
    let step : List StoreRecord = option_to_list c.step_record.result in
    let all : c.add-2.new.records ≡ phase_records c.args.index c.args.key ++ step =
    c.add-2.ensures.value
    ∙ ap (λ (rs : List StoreRecord). rs ++ step)
    (c.add.ensures.value ∙ ap (λ (rs : List StoreRecord). rs ++ option_to_list c.phase_record.result) c.new-records.ensures.value ∙ c.phase_record.ensures) in
    subst (λ (rs : List StoreRecord). AreMoves (config_in p) rs) (sym all) (phase_moves (config_in p) c.args.index c.args.key step c.step_record.ensures.moves)
