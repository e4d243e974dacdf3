-- Which stream failed, by what a command says of its failure.
use Rattle.std.proofs.Common.{◌≡◌, ℕ, Bool, List, Option, Result, Ok, Err, IfErr, OnErr, refl, sym, subst}
use Rattle.std.specs.Prelude.{OnOk}
use Rattle.flash_model.specs.Chip.{Chip}
use Rattle.live_node.specs.declared.status.Status.{Status}
use Rattle.live_node.specs.declared.status.Status.TheVariants as S
use Rattle.daemon_words.specs.declared.numbers.NodeNumbers.{NodeNumbers}
use Rattle.mesh_base.specs.Outside.{Rose}
use Rattle.node_file.specs.declared.faults.MakeFault.{MakeFault}
use Rattle.node_file.specs.declared.faults.MakeFault.TheVariants as M
use Rattle.node_file.specs.declared.faults.OpenFault.{OpenFault}
use Rattle.node_file.specs.declared.faults.OpenFault.TheVariants as O
use Rattle.node_state.specs.declared.showing.ShowFault.{ShowFault}
use Rattle.node_state.specs.declared.showing.ShowFault.TheVariants as H
use Rattle.node_store.specs.declared.provision.Provision.{Provision}
use Rattle.report_writer.specs.Writing.{SinkView}
use Rattle.meshnoded.specs.Answering.{IsUntold}
use Rattle.meshnoded.specs.Causes.{IsAnswerBy, IsErrorsFailure, IsSinkFailure, IsSourceFailure}
use Rattle.meshnoded.specs.Doing.{IsClockless}
use Rattle.meshnoded.specs.Failing.{make_failure, open_failure, show_failure}
use Rattle.meshnoded.specs.Reading.{IsUnmade}
use Rattle.meshnoded.specs.Running.{IsAnswerOf}
use Rattle.meshnoded.specs.declared.failure.Failure.{Failure}
use Rattle.meshnoded.specs.declared.failure.Failure.TheVariants as F

-- what a result says of its failure, and of none
pub by_answer : {T : Type 0} (Cause : Failure → ℕ → ℕ → Type 0) (old new : ℕ) (r : Result T Failure) → OnOk r (new ≡ old)
    → IfErr r (λ f. Cause f old new) → IsAnswerBy Cause r old new
by_answer Cause old new (Ok x) ok err = ok
by_answer Cause old new (Err e) ok err = err

-- a text that wasn't handed over
pub unwritten : {T : Type 0} (old new : ℕ) (Front : Type 0) (r : Result T Failure) → IfErr r (λ f. (f ≡ F.Write) × Front) → OnErr r (Rose old new)
    → IfErr r (λ f. IsSinkFailure f old new)
unwritten old new Front (Ok x) is rose = tt
unwritten old new Front (Err e) is rose = subst (λ f. IsSinkFailure f old new) (sym is.0) rose

-- so no line was read, and none told as wrong
pub written_source : {T : Type 0} (n : ℕ) (Front : Type 0) (r : Result T Failure) → IfErr r (λ f. (f ≡ F.Write) × Front) → IsAnswerBy IsSourceFailure r n n
written_source n Front (Ok x) is = refl
written_source n Front (Err e) is = subst (λ f. IsSourceFailure f n n) (sym is.0) refl

pub written_errors : {T : Type 0} (n : ℕ) (Front : Type 0) (r : Result T Failure) → IfErr r (λ f. (f ≡ F.Write) × Front) → IsAnswerBy IsErrorsFailure r n n
written_errors n Front (Ok x) is = refl
written_errors n Front (Err e) is = subst (λ f. IsErrorsFailure f n n) (sym is.0) refl

pub written_sink : {T : Type 0} (old new : ℕ) (Front : Type 0) (r : Result T Failure) → IfErr r (λ f. (f ≡ F.Write) × Front) → OnErr r (Rose old new)
    → OnOk r (new ≡ old) → IsAnswerBy IsSinkFailure r old new
written_sink old new Front (Ok x) is rose same = same
written_sink {T} old new Front (Err e) is rose same = unwritten {T = T} old new Front (Err e) is rose

-- A life that ended so.

module _ (Cause : Failure → ℕ → ℕ → Type 0) (Why : Status → ℕ → ℕ → Type 0) (old new : ℕ) (done : Why S.Done old new → new ≡ old)
    (life : (s : Status) → Why s old new → Cause (F.Life s) old new) (both : (s : Status) → Why s old new → Cause (F.LifeAndFlash s) old new) where
  by_failure : (status : Status) (closed : Bool) → Why status old new → (failure : Failure) → IsAnswerOf status closed failure → Cause failure old new
  by_failure status closed why (F.Life told) h = life told (subst (λ s. Why s old new) (sym h.0) why)
  by_failure status closed why (F.LifeAndFlash told) h = both told (subst (λ s. Why s old new) (sym h.0) why)
  by_failure status closed why F.Usage h = absurd h
  by_failure status closed why F.Keys h = absurd h
  by_failure status closed why F.Read h = absurd h
  by_failure status closed why F.Write h = absurd h
  by_failure status closed why F.Memory h = absurd h
  by_failure status closed why (F.Open fault) h = absurd h
  by_failure status closed why (F.Make fault) h = absurd h
  by_failure status closed why (F.Show fault) h = absurd h
  by_failure status closed why (F.Clock error) h = absurd h

  pub by_status : {T : Type 0} (r : Result T Failure) (status : Status) (closed : Bool) → Why status old new → OnOk r (status ≡ S.Done)
      → IfErr r (IsAnswerOf status closed) → IsAnswerBy Cause r old new
  by_status (Ok x) status closed why ok err = done (subst (λ s. Why s old new) ok why)
  by_status (Err e) status closed why ok err = by_failure status closed why e err

-- No stream was touched where a file isn't opened, or a clock isn't there.

module _ (Cause : Failure → ℕ → ℕ → Type 0) (n : ℕ) (memory : Cause F.Memory n n) where
  pub unopened : ((fault : OpenFault) → Cause (F.Open fault) n n) → (fault : OpenFault) → Cause (open_failure fault) n n
  unopened other O.Memory = memory
  unopened other O.Missing = other O.Missing
  unopened other O.NotAFile = other O.NotAFile
  unopened other O.SecondName = other O.SecondName
  unopened other O.Locked = other O.Locked
  unopened other (O.Size octets) = other (O.Size octets)
  unopened other (O.Image image) = other (O.Image image)
  unopened other (O.System error) = other (O.System error)

pub not_opened : {T : Type 0} (Cause : Failure → ℕ → ℕ → Type 0) (n : ℕ) (memory : Cause F.Memory n n) (other : (fault : OpenFault) → Cause (F.Open fault) n n)
    (Refused : OpenFault → Type 0) (r : Result T Failure) → IfErr r (λ f. (fault : OpenFault) × (f ≡ open_failure fault) × Refused fault) → IsAnswerBy Cause r n n
not_opened Cause n memory other Refused (Ok x) h = refl
not_opened Cause n memory other Refused (Err e) h = subst (λ f. Cause f n n) (sym h.1) (unopened Cause n memory other h.0)

pub unshown : (n : ℕ) (fault : ShowFault) → IsSinkFailure (show_failure fault) n n
unshown n (H.Image fault) = refl
unshown n H.Memory = refl

pub not_made : (old new : ℕ) → new ≡ old → (fault : MakeFault) → IsSourceFailure (make_failure fault) old new
not_made old new same M.Memory = same
not_made old new same M.Taken = same
not_made old new same M.Begun = same
not_made old new same (M.System error) = same

pub clockless : (n m : ℕ) (f : Failure) → IsClockless f → IsErrorsFailure f n n × IsSinkFailure f m m
clockless n m F.Memory h = (refl, refl)
clockless n m (F.Clock error) h = (refl, refl)
clockless n m F.Usage h = absurd h
clockless n m F.Keys h = absurd h
clockless n m F.Read h = absurd h
clockless n m F.Write h = absurd h
clockless n m (F.Open fault) h = absurd h
clockless n m (F.Make fault) h = absurd h
clockless n m (F.Show fault) h = absurd h
clockless n m (F.Life status) h = absurd h
clockless n m (F.LifeAndFlash status) h = absurd h

-- What is shown reads no line, and tells of none.
untold : {C : Type 0} (chip : C → Chip) (opens : Chip → Type 0) (refuses : OpenFault → Type 0) (old new : SinkView) (n m : ℕ) (f : Failure)
    → IsUntold chip opens refuses old new f → IsSourceFailure f n n × IsErrorsFailure f m m
untold chip opens refuses old new n m F.Write h = (refl, refl)
untold chip opens refuses old new n m (F.Open fault) h = (refl, refl)
untold chip opens refuses old new n m (F.Show fault) h = (refl, refl)
untold chip opens refuses old new n m F.Memory h = (refl, refl)
untold chip opens refuses old new n m F.Usage h = absurd h
untold chip opens refuses old new n m F.Keys h = absurd h
untold chip opens refuses old new n m F.Read h = absurd h
untold chip opens refuses old new n m (F.Make fault) h = absurd h
untold chip opens refuses old new n m (F.Clock error) h = absurd h
untold chip opens refuses old new n m (F.Life status) h = absurd h
untold chip opens refuses old new n m (F.LifeAndFlash status) h = absurd h

pub untold_source : {C T : Type 0} (chip : C → Chip) (opens : Chip → Type 0) (refuses : OpenFault → Type 0) (old new : SinkView) (n : ℕ) (r : Result T Failure)
    → IfErr r (IsUntold chip opens refuses old new) → IsAnswerBy IsSourceFailure r n n
untold_source chip opens refuses old new n (Ok x) h = refl
untold_source chip opens refuses old new n (Err e) h = (untold chip opens refuses old new n n e h).0

pub untold_errors : {C T : Type 0} (chip : C → Chip) (opens : Chip → Type 0) (refuses : OpenFault → Type 0) (old new : SinkView) (n : ℕ) (r : Result T Failure)
    → IfErr r (IsUntold chip opens refuses old new) → IsAnswerBy IsErrorsFailure r n n
untold_errors chip opens refuses old new n (Ok x) h = refl
untold_errors chip opens refuses old new n (Err e) h = (untold chip opens refuses old new n n e h).1

-- A file that isn't made is told to no sink.
unmade : (unmakes : Provision → MakeFault → Type 0) (numbers : NodeNumbers) (old : Option (List ℕ)) (before : ℕ) (new : Option (List ℕ)) (after n m : ℕ)
    (f : Failure) → IsUnmade unmakes numbers old before new after f → IsErrorsFailure f n n × IsSinkFailure f m m
unmade unmakes numbers old before new after n m F.Keys h = (refl, refl)
unmade unmakes numbers old before new after n m F.Read h = (refl, refl)
unmade unmakes numbers old before new after n m F.Memory h = (refl, refl)
unmade unmakes numbers old before new after n m (F.Make fault) h = (refl, refl)
unmade unmakes numbers old before new after n m F.Usage h = absurd h
unmade unmakes numbers old before new after n m F.Write h = absurd h
unmade unmakes numbers old before new after n m (F.Open fault) h = absurd h
unmade unmakes numbers old before new after n m (F.Show fault) h = absurd h
unmade unmakes numbers old before new after n m (F.Clock error) h = absurd h
unmade unmakes numbers old before new after n m (F.Life status) h = absurd h
unmade unmakes numbers old before new after n m (F.LifeAndFlash status) h = absurd h

module _ {T : Type 0} (unmakes : Provision → MakeFault → Type 0) (numbers : NodeNumbers) (old : Option (List ℕ)) (before : ℕ) (new : Option (List ℕ)) (after n : ℕ) where
  pub unmade_errors : (r : Result T Failure) → IfErr r (IsUnmade unmakes numbers old before new after) → IsAnswerBy IsErrorsFailure r n n
  unmade_errors (Ok x) h = refl
  unmade_errors (Err e) h = (unmade unmakes numbers old before new after n n e h).0

  pub unmade_sink : (r : Result T Failure) → IfErr r (IsUnmade unmakes numbers old before new after) → IsAnswerBy IsSinkFailure r n n
  unmade_sink (Ok x) h = refl
  unmade_sink (Err e) h = (unmade unmakes numbers old before new after n n e h).1
