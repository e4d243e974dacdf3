use Rattle.std.proofs.Common.{ℕ, List, length, sym, subst}
use Rattle.std.specs.Prelude.{◌≡◌, ◌≤◌}
use Rattle.flash_model.specs.contracts.memory.MemFlashFlash.TheImpl.{chip-value}
use Rattle.mesh_run.specs.Causes.{IsErasedFlash, IsGenerate}
use Rattle.mesh_run.specs.Kind.{grammar_of}
use Rattle.run_steps.specs.declared.status.Status.TheVariants as S
use Rattle.script_definitions.specs.Reading.{reading}
use Rattle.meshnode.proofs.Answering.{no_memory}
use Rattle.meshnode.proofs.Doing.{erased_flash, first_two, never_broken, never_by, never_done, of_any, of_command, over, over_text, short_generated, short_text, two_of_text}
use Rattle.meshnode.proofs.run_words.Goals as goal

pub returns : goal.returns
returns g c =
    let chip = chip-value.it in
    let flash = c.in-Ok.flash in
    let left = c.run.result.flash in
    let ran = c.run.ensures in
    let erased : IsErasedFlash (chip flash) = erased_flash (chip flash) c.in-Ok.ensures.erased c.in-Ok.ensures.fresh.only in
    let steady : c.run.result.status ≡ S.FlashFault → ⊥ = λ fault. (ran.flash_fault fault).1 c.in-Ok.ensures.steady in
    record {
      answers = record {
        usage = ran.usage;
        no_command = ran.no_command;
        read_fault = ran.read_fault;
        too_long = ran.too_long;
        script = ran.script;
        steady = steady;
        erased = λ at is. never_by chip at (chip flash) erased left (ran.not_erased at is);
        report = ran.report;
        write_fault = ran.write_fault;
        due = ran.due;
        run = λ kind flags is source sink. two_of_text _ _ _ steady (λ (text : List ℕ). length text ≤ 4194304)
            (λ text. reading (grammar_of kind) text) _ (ran.complete kind flags is source sink erased);
        verdict_due = ran.verdict_due;
        verdict_too_long = ran.verdict_too_long;
        summary_due = ran.summary_due;
        summary_run = λ is sink. first_two _ _ _ steady (ran.summary_complete is sink erased);
        done = λ done. of_command _ _ (λ none. never_done c.run.result.status done (ran.no_command none))
            (λ kind flags is. over_text chip flash erased left _ (λ text. reading (grammar_of kind) text) _ (ran.done kind flags is done))
            (λ is. ran.verdict is done)
            (λ count start is. over chip flash erased left _ (ran.summary count start is done));
        front = λ fault. of_command _ _ (λ none. never_broken c.run.result.status fault (ran.no_command none))
            (λ kind flags is. over_text chip flash erased left _ (λ text. reading (grammar_of kind) text) _ (ran.front kind flags is fault))
            (λ is. ran.verdict_front is fault)
            (λ count start is. over chip flash erased left _ (ran.summary_front count start is fault));
        whole = λ short. of_any _ _
            (λ kind flags is. short_text chip flash erased left _ _ (λ text. reading (grammar_of kind) text) _ (ran.whole kind flags is short))
            (λ is. ran.verdict_memory is short)
            (λ count start is. (
              ran.summary_unwritten (subst IsGenerate (sym is) tt) short,
              short_generated chip flash erased left _ _ (ran.summary_memory count start is short),
            ));
        nothing_written = ran.nothing_written;
        nothing_read = ran.nothing_read;
        unread = ran.unread;
        read_whole = ran.read_whole;
        no_source_fault = ran.no_source_fault;
        no_sink_fault = ran.no_sink_fault;
        source_later = ran.source_later;
        sink_later = ran.sink_later;
      };
    }

pub returns-in_default : goal.returns-in_default
returns-in_default g c = record { answers = no_memory _ _ _ _ _ _ _ _ }
