-- What the steps of the source and of the sink come to.
use Rattle.std.proofs.Common.{◌≡◌, ◌∙◌, ℕ, Bool, false, List, [], ◌∷◌, ◌++◌, map, refl, sym, ap, subst, append-nil, append_assoc}
use Rattle.flash_model.specs.Chip.{Chip}
use Rattle.mesh_types.specs.declared.events.Event.{Event}
use Rattle.mesh_types.specs.declared.history.Entry.{Entry}
use Rattle.mesh_types.specs.declared.report.End.TheVariants as F
use Rattle.event_definitions.specs.Role.{Role}
use Rattle.machine_contract.specs.View.{MachineView}
use Rattle.record_types.specs.declared.records.StoreRecord.{StoreRecord}
use Rattle.seq_word.specs.Seen.{ClosedView}
use Rattle.store_definitions.specs.Config.{config_of}
use Rattle.mesh_node.specs.Lived.{IsLifeTold, LivedOn, life_told}
use Rattle.mesh_node.specs.Told.{BySteps, GivesEach, HasGiven, HasTaken, IsClosedAt, PhaseDid}
use Rattle.mesh_node.specs.declared.told.LastStep.{LastStep}
use Rattle.mesh_node.specs.declared.told.LastStep.TheVariants as L
use Rattle.hearing_host.specs.Heard.{HeardAll, dids, heard, heard_steps, kept_steps}
use Rattle.hearing_host.specs.declared.ends.HeardPdus.{HeardPdus}
use Rattle.hearing_host.specs.declared.ends.KeptLogs.{KeptLogs}

-- the PDUs of these phases, before those that are left
record Gave (old new : HeardPdus) (phases : List (List (List Event))) : Type 0 where
  pdus : List (List ℕ)
  left : old.left.items ≡ pdus ++ new.left.items
  are : phases ≡ map heard pdus

gave_all : (elements : ℕ) (old new : HeardPdus) (dues : List ℕ) (phases : List (List (List Event))) → GivesEach heard_steps 1 elements old dues phases new → Gave old new phases
gave_all elements old new [] [] h = record { pdus = []; left = ap (λ (s : HeardPdus). s.left.items) (sym h); are = refl }
gave_all elements old new [] (p ∷ phases) h = absurd h
gave_all elements old new (due ∷ dues) [] h = absurd h
gave_all elements old new (due ∷ dues) (p ∷ phases) h =
    let (mid, step, more) = h in
    let (one, gave) = step in
    let rest = gave_all elements mid new dues phases more in
    record {
      pdus = gave.0 ∷ rest.pdus;
      left = gave.1 ∙ ap (λ l. gave.0 ∷ l) rest.left;
      are = ap (λ x. x ∷ phases) gave.2 ∙ ap (λ l. heard gave.0 ∷ l) rest.are;
    }

took_all : (old new : KeptLogs) (did : List PhaseDid) → BySteps kept_steps.takes old did new → dids new ≡ dids old ++ did
took_all old new [] h = ap dids h ∙ sym (append-nil (dids old))
took_all old new (d ∷ did) h =
    took_all h.0 new did h.2 ∙ ap (λ l. l ++ did) h.1 ∙ append_assoc (dids old) (d ∷ []) did

module _ {A : Type 0} (Stood : List StoreRecord → MachineView → Type 0) (role : Role) (image : List ℕ → Type 0) (IsDue : List Entry → ℕ → Type 0) (from to : HeardPdus) (began now : KeptLogs) (start new : Chip) (opened left : A) (refills : ℕ) (words : ClosedView) (closed : Bool) (last : LastStep)
    (lived : LivedOn Stood role image IsDue heard_steps kept_steps from to began now 1 start new opened left refills words closed last) (empty : dids began ≡ []) (ended : last ≡ L.Ended) where
  gave : HasGiven heard_steps 1 (config_of lived.over).elements L.Ended from lived.dues lived.phases to
  gave = subst (λ e. HasGiven heard_steps 1 (config_of lived.over).elements e from lived.dues lived.phases to) ended lived.gave

  took : HasTaken kept_steps L.Ended began lived.did now
  took = subst (λ e. HasTaken kept_steps e began lived.did now) ended lived.took

  open_end : closed ≡ false
  open_end = subst (λ e. IsClosedAt e closed) ended lived.end

  phases_are : lived.phases ≡ map heard from.left.items
  phases_are =
      let all = gave_all (config_of lived.over).elements from gave.0 lived.dues lived.phases gave.1 in
      all.are ∙ ap (map heard) (sym (append-nil all.pdus)) ∙ ap (λ l. map heard (all.pdus ++ l)) (sym gave.2) ∙ ap (map heard) (sym all.left)

  did_are : lived.did ≡ dids now
  did_are = ap (λ l. l ++ lived.did) (sym empty) ∙ sym (took_all began now lived.did took)

  pub heard_all : HeardAll role from.left.items (dids now) start new refills words
  heard_all = record {
    over = lived.over;
    recovered = lived.recovered;
    life = subst (λ ps. IsLifeTold role ps lived.over (life_told lived.over 1 refills (dids now) F.Ended) new words) phases_are
        (subst (λ ds. IsLifeTold role lived.phases lived.over (life_told lived.over 1 refills ds F.Ended) new words) did_are (lived.life F.Ended (sym open_end)));
  }
