-- What is answered where nothing was done.
use Rattle.std.proofs.Common.{ℕ, List, Option, Some, None, inl, inr, refl, arith}
use Rattle.std.specs.Prelude.{IfSome}
use Rattle.command_words.specs.declared.commands.Command.{Command}
use Rattle.flash_model.specs.Chip.{Chip}
use Rattle.mesh_run.specs.Causes.{IfScript}
use Rattle.report_writer.specs.Writing.{SinkView}
use Rattle.run_steps.specs.declared.status.Status.TheVariants as S
use Rattle.script_definitions.specs.Reading.{Reading, reading}
use Rattle.script_definitions.specs.Reading.Reading.{Fails, IsScript}
use Rattle.script_definitions.specs.declared.script.Script.{Script}
use Rattle.mesh_run.specs.Kind.{grammar_of}
use Rattle.meshnode.proofs.Doing.{of_any}
use Rattle.meshnode.specs.Answering.{IsAnswered}

if_some : {A : Type 0} (P : A → Type 0) (o : Option A) → ((x : A) → P x) → IfSome o P
if_some P None h = tt
if_some P (Some x) h = h x

if_script : (P : Script → Type 0) (r : Reading) → ((s : Script) → P s) → IfScript r P
if_script P (IsScript s) h = h s
if_script P (Fails line rule) h = tt

module _ {F R K : Type 0} (chip : F → Chip) (left : R → Option (List ℕ)) (source_faults : R → ℕ) (view : K → SinkView) (sink_faults : K → ℕ) (source : R) (sink : K) where
  -- there was no memory
  pub no_memory : (command : Option Command) → IsAnswered chip left source_faults view sink_faults command S.Memory source source sink sink
  no_memory command = record {
    usage = λ e. absurd cc;
    no_command = λ none. inr refl;
    read_fault = λ e. absurd cc;
    too_long = λ e. absurd cc;
    script = λ line rule e. absurd cc;
    steady = λ e. cc;
    erased = λ at e. cc;
    report = λ line e. absurd cc;
    write_fault = λ e. absurd cc;
    due = λ kind flags is. if_some _ (left source) (λ text. inr (inl refl));
    run = λ kind flags is read wrote. if_some _ (left source) (λ text few. if_script _ (reading (grammar_of kind) text) (λ s. inr refl));
    verdict_due = λ is read wrote. if_some _ (left source) (λ text few. inr (inl refl));
    verdict_too_long = λ is. if_some _ (left source) (λ text many. inr (inr refl));
    summary_due = λ is. inr refl;
    summary_run = λ is wrote. inr refl;
    done = λ e. absurd cc;
    front = λ e. absurd cc;
    whole = λ e. of_any command _ (λ kind flags is. inl refl) (λ is. refl) (λ count start is. (refl, inl refl));
    nothing_written = λ e. absurd e;
    nothing_read = λ e. refl;
    unread = λ e. refl;
    read_whole = λ other stop. absurd (stop tt);
    no_source_fault = λ other. refl;
    no_sink_fault = λ other. refl;
    source_later = omega arith;
    sink_later = omega arith;
  }

  -- the words are no command
  pub no_command : IsAnswered chip left source_faults view sink_faults None S.Usage source source sink sink
  no_command = record {
    usage = λ e. refl;
    no_command = λ none. inl refl;
    read_fault = λ e. absurd cc;
    too_long = λ e. absurd cc;
    script = λ line rule e. absurd cc;
    steady = λ e. cc;
    erased = λ at e. cc;
    report = λ line e. absurd cc;
    write_fault = λ e. absurd cc;
    due = λ kind flags is. absurd cc;
    run = λ kind flags is read wrote. absurd cc;
    verdict_due = λ is read wrote. absurd cc;
    verdict_too_long = λ is. absurd cc;
    summary_due = λ is. absurd is;
    summary_run = λ is wrote. absurd is;
    done = λ e. absurd cc;
    front = λ e. absurd cc;
    whole = λ e. absurd cc;
    nothing_written = λ e. refl;
    nothing_read = λ e. refl;
    unread = λ e. refl;
    read_whole = λ other stop. absurd (stop tt);
    no_source_fault = λ other. refl;
    no_sink_fault = λ other. refl;
    source_later = omega arith;
    sink_later = omega arith;
  }
