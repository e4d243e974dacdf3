use Rattle.std.proofs.Common.{[], ◌∷◌, sym, subst}
use Rattle.record_types.specs.declared.records.StoreRecord.{StoreRecord}
use Rattle.node_records.specs.Full.{IsFull}
use Rattle.node_records.specs.Meaning.{DoesNotFall, IsMeaningOf}
use Rattle.node_store.specs.Provisioning.{provisioning}
use Rattle.node_store.proofs.Made.{applied, applied_ok, first, first_current, key_fits, second}
use Rattle.node_store.proofs.provision.first_persist.Goals as goal

pub apply-requires-2-clause-current : goal.apply-requires-2-clause-current
apply-requires-2-clause-current c =
    let p = provisioning c.args.p.now in
    let one = applied c.apply.result _ _ c.apply.ensures.ok c.apply.ensures.limit (λ full. subst (λ (r : StoreRecord). IsFull c.new-persist.result r) c.identity.ensures.value full) in
    let said : IsMeaningOf (first p ∷ []) c.apply.new.self = subst (λ (r : StoreRecord). IsMeaningOf (r ∷ []) c.apply.new.self) c.identity.ensures.value (one [] c.new-persist.ensures.value) in
    subst (λ (r : StoreRecord). DoesNotFall c.apply.new.self r) (sym c.numbers.ensures.value) (first_current p c.apply.new.self said)

pub unwrap-requires-3 : goal.unwrap-requires-3
unwrap-requires-3 c =
    let p = provisioning c.args.p.now in
    let one = applied c.apply.result _ _ c.apply.ensures.ok c.apply.ensures.limit (λ full. subst (λ (r : StoreRecord). IsFull c.new-persist.result r) c.identity.ensures.value full) in
    let two = applied c.apply-2.result _ _ c.apply-2.ensures.ok c.apply-2.ensures.limit (λ full. subst (λ (r : StoreRecord). IsFull c.apply.new.self r) c.numbers.ensures.value full) in
    let said : IsMeaningOf (first p ∷ second p ∷ []) c.apply-2.new.self = subst (λ (r : StoreRecord). IsMeaningOf (first p ∷ r ∷ []) c.apply-2.new.self) c.numbers.ensures.value
    (subst (λ (r : StoreRecord). IsMeaningOf (r ∷ c.numbers.result ∷ []) c.apply-2.new.self) c.identity.ensures.value (two (c.identity.result ∷ []) (one [] c.new-persist.ensures.value))) in
    applied_ok c.apply-3.result _ c.apply-3.ensures.limit (λ full. key_fits p c.apply-2.new.self said (subst (λ (r : StoreRecord). IsFull c.apply-2.new.self r) c.net_key.ensures.value full))

pub returns-clause-value : goal.returns-clause-value
returns-clause-value c =
    let p = provisioning c.args.p.now in
    let one = applied c.apply.result _ _ c.apply.ensures.ok c.apply.ensures.limit (λ full. subst (λ (r : StoreRecord). IsFull c.new-persist.result r) c.identity.ensures.value full) in
    let two = applied c.apply-2.result _ _ c.apply-2.ensures.ok c.apply-2.ensures.limit (λ full. subst (λ (r : StoreRecord). IsFull c.apply.new.self r) c.numbers.ensures.value full) in
    let said : IsMeaningOf (first p ∷ second p ∷ []) c.apply-2.new.self = subst (λ (r : StoreRecord). IsMeaningOf (first p ∷ r ∷ []) c.apply-2.new.self) c.numbers.ensures.value
    (subst (λ (r : StoreRecord). IsMeaningOf (r ∷ c.numbers.result ∷ []) c.apply-2.new.self) c.identity.ensures.value (two (c.identity.result ∷ []) (one [] c.new-persist.ensures.value))) in
    let three = applied c.apply-3.result _ _ c.apply-3.ensures.ok c.apply-3.ensures.limit (λ full. key_fits p c.apply-2.new.self said (subst (λ (r : StoreRecord). IsFull c.apply-2.new.self r) c.net_key.ensures.value full)) in
    subst (λ (r : StoreRecord). IsMeaningOf (first p ∷ second p ∷ r ∷ []) c.apply-3.new.self) c.net_key.ensures.value (three (first p ∷ second p ∷ []) said)
