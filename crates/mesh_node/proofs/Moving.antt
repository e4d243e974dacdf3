-- Where the counter was moved to in a life, by its machine at the end.
use Rattle.std.proofs.Common.{◌≡◌, ◌∙◌, ℕ, false, List, ap, subst, sym}
use Rattle.event_definitions.specs.Role.{Role}
use Rattle.machine_contract.specs.Moved.{HasMoved}
use Rattle.machine_contract.specs.View.{MachineView}
use Rattle.mesh_types.specs.declared.history.Entry.{Entry}
use Rattle.record_types.specs.declared.records.StoreRecord.{StoreRecord}

pub moved_by : {M : Type 0} (view : M → MachineView) (advances : M → List (ℕ × ℕ)) (role : Role) (over begun : List StoreRecord) (machine : M) (shown : MachineView)
    (words : List (ℕ × ℕ)) (entries : List Entry) (fills : ℕ)
    → over ≡ begun → view machine ≡ shown → words ≡ advances machine → entries ≡ shown.entries → fills ≡ shown.fills
    → ((view machine).closed ≡ false → HasMoved role over (view machine).entries (view machine).fills (advances machine))
    → shown.closed ≡ false → HasMoved role begun entries fills words
moved_by view advances role over begun machine shown words entries fills same shows is are so moved runs =
    subst (λ (a : List (ℕ × ℕ)). HasMoved role begun entries fills a) (sym is)
    (subst (λ (l : List Entry). HasMoved role begun l fills (advances machine)) (sym are)
    (subst (λ n. HasMoved role begun shown.entries n (advances machine)) (sym so)
    (subst (λ (m : MachineView). HasMoved role begun m.entries m.fills (advances machine)) shows
    (subst (λ (o : List StoreRecord). HasMoved role o (view machine).entries (view machine).fills (advances machine)) same
    (moved (ap (λ (m : MachineView). m.closed) shows ∙ runs))))))
