use Rattle.std.proofs.Common.{ℕ, ◌<◌, ◌^◌, List, ◌∷◌, None, sym, subst}
use Rattle.std.specs.Prelude.{IfSome}
use Rattle.event_records.specs.Putting.{AreMoves, ArePuttable}
use Rattle.event_records.proofs.Changes.{named_may, named_moves}
use Rattle.mesh_base.specs.declared.pair.Name.{Name}
use Rattle.mesh_types.specs.declared.answers.Answer.{Answer}
use Rattle.node_records.specs.Full.{IsFull}
use Rattle.record_types.specs.declared.records.StoreRecord.{StoreRecord}
use Rattle.record_types.specs.declared.records.StoreRecord.TheVariants as R
use Rattle.event_definitions.specs.Answers.{accepted}
use Rattle.event_records.proofs.messages.heard_records.Goals as goal

pub returns-in-Delivered-clause-may : goal.returns-in-Delivered-clause-may
returns-in-Delivered-clause-may c p place may =
    let name : Name = c.in-Delivered.name in
    let seq : name.pair.seq < 2 ^ 24 = subst (λ (a : Answer). IfSome (accepted a) (λ (n : Name). n.pair.seq < 2 ^ 24)) c.in-Delivered.is c.requires in
    let room = subst (λ (a : Answer). IfSome (accepted a) (λ (n : Name). IsFull p (R.Replay n None) → ⊥)) c.in-Delivered.is place in
    subst (λ (l : List StoreRecord). ArePuttable p l) (sym c.named_records.ensures.value) (named_may p name c.args.changes.now (c.named_records.ensures.range seq) room may)

pub returns-in-Delivered-clause-moves : goal.returns-in-Delivered-clause-moves
returns-in-Delivered-clause-moves c before moves =
    subst (λ (l : List StoreRecord). AreMoves before l) (sym c.named_records.ensures.value) (named_moves before c.in-Delivered.name c.args.changes.now moves)
