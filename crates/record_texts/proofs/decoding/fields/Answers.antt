use Rattle.std.proofs.Common.{◌≡◌, refl, ap, arith}
use Rattle.std.specs.Prelude.{Some}
use Rattle.mesh_base.specs.declared.slot.Slot.{Slot}
use Rattle.record_types.specs.declared.records.StoreRecord.{StoreRecord}
use Rattle.store_definitions.specs.Recovered.{record_text}
use Rattle.record_texts.proofs.Fields.{back, kind_range}
use Rattle.record_texts.proofs.decoding.fields.Goals as goal

pub returns-in-10 : goal.returns-in-10
returns-in-10 c = λ r h e. ap (λ (x : StoreRecord). Some x) (back c.args.slot.now _ r (rw c.in-10.is refl) h e)

pub returns-in_default : goal.returns-in_default
returns-in_default c = λ r h e.
    let kind : (record_text r).kind ≡ c.args.slot.now.kind = ap (λ (s : Slot). s.kind) e in
    let range = kind_range r in
    absurd (omega (arith, kind, range, c.in_default))
