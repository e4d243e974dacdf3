-- A run whose lives are counted, and its summary written behind them.
use Rattle.std.proofs.Common.{◌≡◌, ℕ, List, [], subst, Option, Some, None, inl, inr}
use Rattle.std.specs.Prelude.{IsSomeAnd}
use Rattle.flash_model.specs.Chip.{Chip}
use Rattle.record_types.specs.declared.records.StoreRecord.{StoreRecord}
use Rattle.report_definitions.specs.Record.{LifeOver}
use Rattle.report_writer.specs.Handing.{HandedFront, IsHanded}
use Rattle.report_writer.specs.Writing.{SinkView}
use Rattle.run_definitions.specs.RunOf.{Script}
use Rattle.run_summary.specs.Counting.{Counts}
use Rattle.run_summary.specs.Summaries.{summary_of, summary_text}
use Rattle.run_summary.specs.Telling.{Summarizes, SummarizesFront}
use Rattle.run_summary.specs.declared.summary.Summary.{Summary}
use Rattle.mesh_run.proofs.Ends.{first_as}
use Rattle.mesh_run.specs.Kind.{MachineKind}
use Rattle.mesh_run.specs.Ran.{FromProvisioned, Ran, RanFirst, RanFirstOrAll, RanFront}
use Rattle.mesh_run.specs.Reporting.{Unwritten}

module _ (first now : Summary) (lives : List LifeOver) (before mid after : SinkView) (none : first ≡ summary_of []) (told : (mid ≡ before) × Counts first now lives) where
  -- the summary that was written is that of the lives that were counted
  pub summarized : IsHanded (summary_text now) mid after → Summarizes lives before after
  summarized h =
      subst (λ v. IsHanded (summary_text (summary_of lives)) v after) told.0 (subst (λ s. IsHanded (summary_text s) mid after) (told.1 none).value h)

  pub front_summarized : HandedFront (summary_text now) mid after → SummarizesFront lives before after
  front_summarized h =
      subst (λ v. HandedFront (summary_text (summary_of lives)) v after) told.0 (subst (λ s. HandedFront (summary_text s) mid after) (told.1 none).value h)

module _ {F : Type 0} (chip : F → Chip) (kind : MachineKind) (s : Script) (format : ℕ) (records : List StoreRecord) (given : Chip) (before : SinkView) where
  -- a run whose lives were told, and whose sink went on behind them
  ran_then : (T U : List LifeOver → SinkView → SinkView → Type 0) (mid after : SinkView) → ((lives : List LifeOver) → T lives before mid → U lives before after)
      → (start left : F) → Ran chip kind s T start before left mid → Ran chip kind s U start before left after
  ran_then T U mid after into start left ran = record {
    run = ran.run;
    is_run = ran.is_run;
    ran = ran.ran;
    report = into ran.run.lives ran.report;
    no_reuse = ran.no_reuse;
    at_most_once = ran.at_most_once;
  }

  -- the same of the flash that is left
  pub left_then : (T U : List LifeOver → SinkView → SinkView → Type 0) (mid after : SinkView) → ((lives : List LifeOver) → T lives before mid → U lives before after)
      → (left : Option F) → IsSomeAnd left (λ f. FromProvisioned chip format records given (λ start. Ran chip kind s T start before f mid))
      → IsSomeAnd left (λ f. FromProvisioned chip format records given (λ start. Ran chip kind s U start before f after))
  left_then T U mid after into None h = h
  left_then T U mid after into (Some f) h = record { start = h.start; provisioned = h.provisioned; ran = ran_then T U mid after into h.start f h.ran }

  -- telling of a life can't be broken off
  pub not_broken : (T : List LifeOver → SinkView → SinkView → Type 0) (after : SinkView) (left : Option F)
      → IsSomeAnd left (λ f. FromProvisioned chip format records given (λ start. RanFront chip kind s T (λ number life old new. ⊥) start before f after)) → ⊥
  not_broken T after None h = h
  not_broken T after (Some f) h = h.ran.front

  -- the first lives were told, and that left the sink
  pub silent : (T : List LifeOver → SinkView → SinkView → Type 0) (after : SinkView) → ((lives : List LifeOver) → T lives before after → after ≡ before)
      → (left : Option F) → FromProvisioned chip format records given (λ start. RanFirst chip kind s T start before left after) → after ≡ before
  silent T after into left h = into h.ran.run.lives h.ran.report

  -- all lives were told, and that left the sink
  pub silent_all : (T : List LifeOver → SinkView → SinkView → Type 0) (after : SinkView) → ((lives : List LifeOver) → T lives before after → after ≡ before)
      → (left : Option F) → IsSomeAnd left (λ f. FromProvisioned chip format records given (λ start. Ran chip kind s T start before f after)) → after ≡ before
  silent_all T after into None h = absurd h
  silent_all T after into (Some f) h = into h.ran.run.lives h.ran.report

  -- the first lives were told of, and nothing was written
  pub first_unwritten : (T : List LifeOver → SinkView → SinkView → Type 0) → ((lives : List LifeOver) (old new : SinkView) → T lives old new → new ≡ old)
      → (after : SinkView) (left : Option F) → FromProvisioned chip format records given (λ start. RanFirst chip kind s T start before left after)
      → FromProvisioned chip format records given (λ start. RanFirstOrAll chip kind s Unwritten start before left after)
  first_unwritten T into after left h = record {
    start = h.start;
    provisioned = h.provisioned;
    ran = inl (first_as chip kind s T Unwritten into h.start before left after h.ran);
  }

  -- all lives were told of, and nothing was written
  pub all_unwritten : (T : List LifeOver → SinkView → SinkView → Type 0) (mid after : SinkView) → ((lives : List LifeOver) → T lives before mid → after ≡ before)
      → (left : Option F) → IsSomeAnd left (λ f. FromProvisioned chip format records given (λ start. Ran chip kind s T start before f mid))
      → FromProvisioned chip format records given (λ start. RanFirstOrAll chip kind s Unwritten start before left after)
  all_unwritten T mid after into None h = absurd h
  all_unwritten T mid after into (Some f) h =
      record { start = h.start; provisioned = h.provisioned; ran = inr (ran_then T Unwritten mid after into h.start f h.ran) }
