-- Lives that processes led are a run.
use Rattle.std.proofs.Common.{ℕ, List, [], ◌∷◌, map}
use Rattle.event_definitions.specs.Role.{Role}
use Rattle.flash_model.specs.Chip.{Chip}
use Rattle.record_types.specs.declared.records.StoreRecord.{StoreRecord}
use Rattle.report_definitions.specs.Record.{first_over}
use Rattle.run_definitions.specs.RunOf.{LivesOf}
use Rattle.run_safety.proofs.Enough.{at_most_once, no_reuse}
use Rattle.run_safety.specs.SafeRole.{IsSafeRole}
use Rattle.store_definitions.specs.Recovered.{IsRecovered}
use Rattle.process_laws.specs.Laws.{AreRuns, DeliverOnce, ReuseNothing}
use Rattle.process_laws.specs.Processes.{AreLed, Process, left_by, life_over, run_of, script_of}

module _ (role : Role) {F : Type 0} (chip : F → Chip) where
  -- an image of the flash before them recovers what the first of them opened over, or where there is none, what stands at the end
  record FirstFound (before : F) (ps : List (Process F)) (last : List StoreRecord) : Type 0 where
    image : List ℕ
    is_image : (chip before).images image
    recovered : IsRecovered image (first_over (map life_over ps) last)

  first_found : (before : F) (ps : List (Process F)) (image : List ℕ) (last : List StoreRecord)
      → AreLed role chip before ps → (chip (left_by before ps)).images image → IsRecovered image last → FirstFound before ps last
  first_found before [] image last h is read = record { image = image; is_image = is; recovered = read }
  first_found before (p ∷ ps) image last h is read = record { image = (chip p.found).now; is_image = h.0; recovered = h.1.recovered }

  lives_led : (before : F) (ps : List (Process F)) (image : List ℕ) (last : List StoreRecord)
      → AreLed role chip before ps → (chip (left_by before ps)).images image → IsRecovered image last → LivesOf role (map (λ p. p.plan) ps) (map life_over ps) last
  lives_led before [] image last h is read = tt
  lives_led before (p ∷ ps) image last h is read =
      let next = first_found p.left ps image last h.2 is read in
      (h.1.life next.image (first_over (map life_over ps) last) next.is_image next.recovered, lives_led p.left ps image last h.2 is read)

  pub processes_run : AreRuns role chip
  processes_run node start ps h image last is read =
      let first = first_found start ps image last h.led is read in
      record {
        first = h.provisioning first.image (first_over (map life_over ps) last) first.is_image first.recovered;
        lives = lives_led start ps image last h.led is read;
      }

  pub reuse_nothing : IsSafeRole role → ReuseNothing role chip
  reuse_nothing safe node start ps h image last is read =
      no_reuse role safe (script_of node ps) (run_of ps last) (processes_run node start ps h image last is read)

  pub deliver_once : IsSafeRole role → DeliverOnce role chip
  deliver_once safe node start ps h image last is read =
      at_most_once role safe (script_of node ps) (run_of ps last) (processes_run node start ps h image last is read)
