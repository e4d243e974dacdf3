use Rattle.std.proofs.Common.{◌∙◌, ℕ, List, subst}
use Rattle.std.specs.Prelude.{IfOk, Ok, Err, Result}
use Rattle.flash_model.proofs.Runs.{stays_more}
use Rattle.node_records.specs.declared.persist.Persist.{Persist}
use Rattle.node_store.specs.Images.{IsReadFrom}
use Rattle.node_store.specs.Mounted.{AreSaid}
use Rattle.node_store.proofs.Found.{said_read}
use Rattle.node_store.proofs.images.read_counting.Goals as goal

module _ {E : Type 0} where
  if_ok_all : (r : Result Persist E) (P Q : Persist → Type 0) → ((p : Persist) → P p → Q p) → IfOk r P → IfOk r Q
  if_ok_all (Ok p) P Q all h = all p h
  if_ok_all (Err e) P Q all h = h

pub returns-clause-value : goal.returns-clause-value
returns-clause-value g c honest =
    let old = g.F.Flash.chip c.args.flash.now in
    let mid = g.F.Flash.chip c.mount.new.flash in
    let journal = c.in_ok-journal.journal in
    let found = c.in_ok-journal.ensures in
    if_ok_all c.read_records.result (AreSaid mid.now journal.bank journal.version journal.used) (IsReadFrom old.now)
    (λ p said.
    let here = subst (λ (o : List ℕ). AreSaid o journal.bank journal.version journal.used p) (found.stays honest).now said in
    record {
      records = here.records;
      read = said_read old.now journal.bank journal.version journal.used p (found.value honest) here;
      meaning = here.meaning;
    })
    (c.read_records.ensures.value (found.frame.honest ∙ honest))

pub returns-clause-stays : goal.returns-clause-stays
returns-clause-stays g c honest =
    let found = c.in_ok-journal.ensures in
    stays_more (g.F.Flash.chip c.args.flash.now) (g.F.Flash.chip c.mount.new.flash) (g.F.Flash.chip c.read_records.new.flash)
    (found.stays honest) (c.read_records.ensures.stays (found.frame.honest ∙ honest))
