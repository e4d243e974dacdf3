use Rattle.std.proofs.Common.{◌≡◌, ◌≤◌, ◌⊎◌, ◌∙◌, ℕ, List, Err, ap, inl, inr, length, subst, sym}
use Rattle.std.specs.Prelude.{IfSome, IsSomeAnd}
use Rattle.std.specs.Io.KnownBytes.{Consumes}
use Rattle.command_words.specs.declared.commands.NodeKind.{NodeKind}
use Rattle.command_words.specs.declared.commands.RunFlags.{RunFlags}
use Rattle.life_plans.specs.Plans.{script_of}
use Rattle.report_writer.specs.Reporting.{Reports}
use Rattle.report_writer.specs.Writing.{view_of}
use Rattle.run_steps.specs.Provisioned.{format_by}
use Rattle.run_steps.specs.declared.status.Status.{Status}
use Rattle.run_steps.specs.declared.status.Status.TheVariants as Statuses
use Rattle.script_definitions.specs.Reading.{reading}
use Rattle.store_definitions.specs.Provisioning.{provisioned}
use Rattle.mesh_run.specs.Causes.{IfScript, IsDue, IsScriptAnd}
use Rattle.mesh_run.specs.Kind.{grammar_of, machines_of}
use Rattle.mesh_run.specs.Ran.{FromProvisioned, Ran, RanFirst, RanFront}
use Rattle.mesh_run.specs.Reporting.{ReportsFront}
use Rattle.mesh_run.proofs.Ends.{of_all, read_complete, read_due, read_unfailed}
use Rattle.mesh_run.proofs.running.run.Goals as goal

-- what holds of the text that was read holds of what the source had
pub returns-in-Ok-clause-done : goal.returns-in-Ok-clause-done
returns-in-Ok-clause-done g c = λ kind flags is done.
    let chip = g.B.Flash.chip in
    let view = view_of g.K.Sink.held g.K.Sink.pieces in
    let left = g.S.Source.left in
    let given : c.in-Run.flags ≡ flags = cc (is, c.in-Ok-Some.ensures.value, c.in-Ok-Some.field-0-is, c.in-Run.is) in
    let given_kind : c.in-Run.kind ≡ kind = cc (is, c.in-Ok-Some.ensures.value, c.in-Ok-Some.field-0-is, c.in-Run.is) in
    let Says : NodeKind → RunFlags → List ℕ → Type 0 = λ by said text. IsScriptAnd (reading (grammar_of by) text)
    (λ s. IsSomeAnd c.run_by.result.flash
    (λ f. FromProvisioned chip (format_by said.old) (provisioned (script_of s).node) (chip c.args.flash)
    (λ start. Ran chip (machines_of by) (script_of s) (Reports said.hex) start (view c.args.sink.now) f (view c.run_by.new.sink)))) in
    of_all (Says kind flags) (left c.args.source.now) (left c.read_whole.new.source) c.as_slice.result.now
    (subst (Consumes (left c.args.source.now) (left c.read_whole.new.source)) (sym c.as_slice.ensures.value) c.in-Ok.ensures.octets) c.in-Ok.ensures.end
    (subst (λ by. Says by flags c.as_slice.result.now) given_kind (subst (λ said. Says c.in-Run.kind said c.as_slice.result.now) given (c.run_by.ensures.report.done done)))

pub returns-in-Ok-clause-front : goal.returns-in-Ok-clause-front
returns-in-Ok-clause-front g c = λ kind flags is fault.
    let chip = g.B.Flash.chip in
    let view = view_of g.K.Sink.held g.K.Sink.pieces in
    let left = g.S.Source.left in
    let given : c.in-Run.flags ≡ flags = cc (is, c.in-Ok-Some.ensures.value, c.in-Ok-Some.field-0-is, c.in-Run.is) in
    let given_kind : c.in-Run.kind ≡ kind = cc (is, c.in-Ok-Some.ensures.value, c.in-Ok-Some.field-0-is, c.in-Run.is) in
    let Says : NodeKind → RunFlags → List ℕ → Type 0 = λ by said text. IsScriptAnd (reading (grammar_of by) text)
    (λ s. IsSomeAnd c.run_by.result.flash
    (λ f. FromProvisioned chip (format_by said.old) (provisioned (script_of s).node) (chip c.args.flash)
    (λ start. RanFront chip (machines_of by) (script_of s) (Reports said.hex) (ReportsFront said.hex) start (view c.args.sink.now) f (view c.run_by.new.sink)))) in
    of_all (Says kind flags) (left c.args.source.now) (left c.read_whole.new.source) c.as_slice.result.now
    (subst (Consumes (left c.args.source.now) (left c.read_whole.new.source)) (sym c.as_slice.ensures.value) c.in-Ok.ensures.octets) c.in-Ok.ensures.end
    (subst (λ by. Says by flags c.as_slice.result.now) given_kind (subst (λ said. Says c.in-Run.kind said c.as_slice.result.now) given (c.run_by.ensures.report.front fault)))

pub returns-in-Ok-clause-whole : goal.returns-in-Ok-clause-whole
returns-in-Ok-clause-whole g c = λ kind flags is memory.
    let chip = g.B.Flash.chip in
    let view = view_of g.K.Sink.held g.K.Sink.pieces in
    let left = g.S.Source.left in
    let given : c.in-Run.flags ≡ flags = cc (is, c.in-Ok-Some.ensures.value, c.in-Ok-Some.field-0-is, c.in-Run.is) in
    let given_kind : c.in-Run.kind ≡ kind = cc (is, c.in-Ok-Some.ensures.value, c.in-Ok-Some.field-0-is, c.in-Run.is) in
    let Says : NodeKind → RunFlags → List ℕ → Type 0 = λ by said text. IsScriptAnd (reading (grammar_of by) text)
    (λ s. FromProvisioned chip (format_by said.old) (provisioned (script_of s).node) (chip c.args.flash)
    (λ start. RanFirst chip (machines_of by) (script_of s) (Reports said.hex) start (view c.args.sink.now) c.run_by.result.flash (view c.run_by.new.sink))) in
    elim (c.run_by.ensures.report.whole memory) [
      | inl kept ↦ inl kept
      | inr ran ↦ inr
          (of_all (Says kind flags) (left c.args.source.now) (left c.read_whole.new.source) c.as_slice.result.now
          (subst (Consumes (left c.args.source.now) (left c.read_whole.new.source)) (sym c.as_slice.ensures.value) c.in-Ok.ensures.octets) c.in-Ok.ensures.end
          (subst (λ by. Says by flags c.as_slice.result.now) given_kind (subst (λ said. Says c.in-Run.kind said c.as_slice.result.now) given ran)))
    ]

pub returns-in-Ok-clause-complete : goal.returns-in-Ok-clause-complete
returns-in-Ok-clause-complete g c = λ kind flags is source sink erased.
    let left = g.S.Source.left in
    let given_kind : c.in-Run.kind ≡ kind = cc (is, c.in-Ok-Some.ensures.value, c.in-Ok-Some.field-0-is, c.in-Run.is) in
    let Says : NodeKind → List ℕ → Type 0 = λ by text. length text ≤ 4194304
    → IfScript (reading (grammar_of by) text)
    (λ s. (c.run_by.result.status ≡ Statuses.Done) ⊎ (c.run_by.result.status ≡ Statuses.Memory) ⊎ (c.run_by.result.status ≡ Statuses.FlashFault)) in
    of_all (Says kind) (left c.args.source.now) (left c.read_whole.new.source) c.as_slice.result.now
    (subst (Consumes (left c.args.source.now) (left c.read_whole.new.source)) (sym c.as_slice.ensures.value) c.in-Ok.ensures.octets) c.in-Ok.ensures.end
    (subst (λ by. Says by c.as_slice.result.now) given_kind (λ few. c.run_by.ensures.ends.complete sink erased))

-- the source wasn't read to its end
pub returns-in-Err-read_whole-clause-due : goal.returns-in-Err-read_whole-clause-due
returns-in-Err-read_whole-clause-due g c = λ kind flags is.
    let left = g.S.Source.left in
    let status : c.with_flash-in-Err-read_whole.result.status ≡ _ = ap (λ e. e.status) c.with_flash-in-Err-read_whole.ensures.value ∙ c.read_end.ensures.value in
    subst (λ (s : Status). IfSome (left c.args.source.now) (λ text. IsDue (grammar_of kind) text s)) (sym status)
    (read_due (grammar_of kind) c.in-Err-read_whole.stop (left c.args.source.now) (left c.read_whole.new.source) (λ long. c.in-Err-read_whole.ensures.too_long (ap (λ e. Err e) long)))

pub returns-in-Err-read_whole-clause-complete : goal.returns-in-Err-read_whole-clause-complete
returns-in-Err-read_whole-clause-complete g c = λ kind flags is source sink erased.
    let left = g.S.Source.left in
    let status : c.with_flash-in-Err-read_whole.result.status ≡ _ = ap (λ e. e.status) c.with_flash-in-Err-read_whole.ensures.value ∙ c.read_end.ensures.value in
    subst
    (λ (e : Status). IfSome (left c.args.source.now)
    (λ text. length text ≤ 4194304 → IfScript (reading (grammar_of kind) text) (λ s. (e ≡ Statuses.Done) ⊎ (e ≡ Statuses.Memory) ⊎ (e ≡ Statuses.FlashFault))))
    (sym status)
    (read_complete (grammar_of kind) c.in-Err-read_whole.stop (left c.args.source.now) (left c.read_whole.new.source) (λ fault. source (c.in-Err-read_whole.ensures.cause (ap (λ e. Err e) fault)))
    (λ long. c.in-Err-read_whole.ensures.too_long (ap (λ e. Err e) long)))

pub returns-in-Err-read_whole-clause-unfailed : goal.returns-in-Err-read_whole-clause-unfailed
returns-in-Err-read_whole-clause-unfailed g c = λ kind flags is source sink erased unfailed.
    let left = g.S.Source.left in
    let status : c.with_flash-in-Err-read_whole.result.status ≡ _ = ap (λ e. e.status) c.with_flash-in-Err-read_whole.ensures.value ∙ c.read_end.ensures.value in
    subst
    (λ (e : Status). IfSome (left c.args.source.now)
    (λ text. length text ≤ 4194304 → IfScript (reading (grammar_of kind) text) (λ s. (e ≡ Statuses.Done) ⊎ (e ≡ Statuses.Memory))))
    (sym status)
    (read_unfailed (grammar_of kind) c.in-Err-read_whole.stop (left c.args.source.now) (left c.read_whole.new.source) (λ fault. source (c.in-Err-read_whole.ensures.cause (ap (λ e. Err e) fault)))
    (λ long. c.in-Err-read_whole.ensures.too_long (ap (λ e. Err e) long)))
