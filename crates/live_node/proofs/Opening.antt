-- What a life leaves that is given up before its first phase.
use Rattle.std.proofs.Common.{◌≡◌, ◌∙◌, ℕ, Bool, true, false, if◌then◌else◌, List, [], ◌∷◌, Option, map, inl, inr, refl, sym, ap, ap₂, subst, arith}
use Rattle.event_definitions.specs.Handling.{records_left}
use Rattle.event_definitions.specs.History.{Told}
use Rattle.event_definitions.specs.Role.{Role}
use Rattle.flash_model.specs.Chip.{Chip, Keeps}
use Rattle.flash_model.proofs.Runs.{keeps_none, stays_none}
use Rattle.machine_contract.specs.Opening.{FlashFound, IsLeft, IsUnwritten, MigratesOnly, found_of}
use Rattle.machine_contract.specs.Refused.{IsUntouched, WasReset}
use Rattle.machine_contract.specs.Standing.{IsLeftBy, IsLifeSoFar, past_now}
use Rattle.machine_contract.specs.Started.{IsStarted}
use Rattle.machine_contract.specs.View.{MachineView}
use Rattle.machine_contract.specs.declared.opening.Started.{Started}
use Rattle.mesh_types.specs.declared.report.Opened.TheVariants as W
use Rattle.record_types.specs.declared.records.StoreRecord.{StoreRecord}
use Rattle.report_definitions.specs.Report.{opened_line}
use Rattle.store_definitions.specs.Config.{config_of}
use Rattle.store_definitions.specs.Numbers.{filled}
use Rattle.store_definitions.specs.Recovered.{IsRecovered}
use Rattle.report_writer.specs.Writing.{SinkView, WrittenFront, view_of}
use Rattle.report_writer.specs.declared.lives.WriteStop.{WriteStop}
use Rattle.report_writer.specs.declared.lives.WriteStop.TheVariants as stop
use Rattle.live_node.specs.Ending.{IsResetTold}
use Rattle.live_node.specs.Ends.{EndsOver}
use Rattle.live_node.specs.Lived.{OpeningFront, Standing, StreamsAt, Unopened, streams_at}
use Rattle.live_node.specs.Status.{stop_status}
use Rattle.live_node.specs.declared.status.Status.{Status}
use Rattle.live_node.specs.declared.status.Status.TheVariants as S
use Rattle.live_node.specs.declared.status.Streams.{Streams}

none_told : (told : List Told) → map (λ t. t.entry) told ≡ [] → told ≡ []
none_told [] e = refl
none_told (t ∷ ts) e = absurd cc

-- a machine that was started and has no entry left the records that it opened over
pub started_untouched : {M : Type 0} (view : M → MachineView) (stands : FlashFound → Chip → List StoreRecord → M → Type 0) (role : Role) (image : List ℕ → Type 0) (start new : Chip) (s : Started M)
    (h : IsStarted view stands start new s) → IsLifeSoFar role image (found_of start) new h.over (view s.machine) → IsUntouched image start new
started_untouched view stands role image start new s h life = record {
  over = h.over;
  read = h.read;
  node = life.node;
  left = λ content next is found.
      let by = (life.left content next is found).0 in
      let all = subst (λ k. IsLeftBy role (past_now role h.over life.told (view s.machine).fills) k next) (life.idle h.usable) by in
      subst (λ n. IsLeft (filled n h.over) [] next) h.fills
      (subst (λ ts. IsLeft (filled (view s.machine).fills (records_left role h.over [] ts)) [] next) (none_told life.told (life.entries ∙ h.entries)) all);
}

-- a front of its line, where the records that are read say no Node Reset
pub opening_front : (start : Chip) (before after : SinkView) (over : List StoreRecord) (state : _) (mark : ℕ) → IsRecovered start.now over → (config_of over).reset ≡ false → state ≡ (config_of over).iv → mark ≡ (config_of over).mark
    → WrittenFront (opened_line 1 (W.On state mark) ∷ []) before after → OpeningFront start before after
opening_front start before after over state mark read runs s m front = record {
  over = over;
  recovered = read;
  front = subst (λ o. WrittenFront (opened_line 1 o ∷ []) before after)
      (ap₂ W.On s m ∙ sym (ap (λ (b : Bool). if b then W.WasReset else W.On (config_of over).iv (config_of over).mark) runs)) front;
}

-- where the records that are read say no Node Reset there was none
pub never_reset : {A : Type 0} (start : Chip) → ((image : List ℕ) (rs ss : List StoreRecord) → IsRecovered image rs → IsRecovered image ss → rs ≡ ss) → (over : List StoreRecord) → IsRecovered start.now over
    → (config_of over).reset ≡ false → WasReset start → A
never_reset start one over read runs was =
    let clash : true ≡ false = sym was.reset ∙ ap (λ rs. (config_of rs).reset) (one start.now was.over over was.read read) ∙ runs in
    absurd cc

-- whyever the report was broken off
pub unopened_over : (role : Role) (image : List ℕ → Type 0) (hex : Bool) (bearers : ℕ) (clocked : Bool) (start new : Chip) (from to : StreamsAt) (before after : SinkView) (Stood : Standing)
    → Unopened image start new from to before after → (why : WriteStop) → (why ≡ stop.Memory → after ≡ before) → EndsOver role image hex bearers clocked start from to before after Stood (stop_status why) false new
unopened_over role image hex bearers clocked start new from to before after Stood u stop.Fault still = inl (refl, u)
unopened_over role image hex bearers clocked start new from to before after Stood u stop.Memory still = inl (refl, u, still refl)

-- a flash that nothing was asked of, and streams that are as they were
pub nothing_asked : (image : List ℕ → Type 0) (start : Chip) (at : StreamsAt) (sink : SinkView) → Unopened image start start at at sink sink
nothing_asked image start at sink = record {
  wrote = inl refl;
  unread = refl;
  kept = keeps_none start;
  no_fault = refl;
  untouched = inl (record { honest = refl; stays = λ image h. h; now = refl; faults = refl; began = refl; count = refl; reads = refl });
  writes = record {
    unwritten = λ _. record { stays = stays_none start; no_calls = refl };
    most_calls = omega arith;
    most_erases = omega arith;
    most_octets = omega arith;
    most_reads = omega arith;
    once = omega arith;
  };
  reset = λ _. record { stays = stays_none start; no_calls = refl };
}

-- streams that have the same source, and the same sink for lines that are wrong
pub same_streams : {A E K : Type 0} (left : A → Option (List ℕ)) (source_faults : A → ℕ) (time : A → ℕ) (held : E → Option (List ℕ)) (pieces : E → Option (List (List ℕ))) (sink_faults : E → ℕ) (old new : Streams A E K)
    → new.source ≡ old.source → new.errors ≡ old.errors → streams_at left source_faults time held pieces sink_faults new ≡ streams_at left source_faults time held pieces sink_faults old
same_streams {A = A} {E = E} left source_faults time held pieces sink_faults old new source errors =
    let at : A → E → StreamsAt = λ s e. record { left = left s; told = view_of held pieces e; source_faults = source_faults s; sink_faults = sink_faults e; time = time s } in
    ap₂ at source errors

-- a front of the line that tells of a Node Reset
reset_front : (start : Chip) (before after : SinkView) → WasReset start → WrittenFront (opened_line 1 W.WasReset ∷ []) before after → OpeningFront start before after
reset_front start before after was front = record {
  over = was.over;
  recovered = was.read;
  front = subst (λ o. WrittenFront (opened_line 1 o ∷ []) before after)
      (sym (ap (λ (b : Bool). if b then W.WasReset else W.On (config_of was.over).iv (config_of was.over).mark) was.reset)) front;
}

-- where there was a Node Reset, whatever became of the line that tells of it
pub reset_over : (role : Role) (image : List ℕ → Type 0) (hex : Bool) (bearers : ℕ) (clocked : Bool) (start new : Chip) (from to : StreamsAt) (before after : SinkView) (Stood : Standing)
    → WasReset start → Keeps start new → new.faults ≡ start.faults → IsUntouched image start new → IsUnwritten start new → MigratesOnly start new → to ≡ from
    → (status : Status) (was is : ℕ) → IsResetTold status before was after is → EndsOver role image hex bearers clocked start from to before after Stood status false new
reset_over role image hex bearers clocked start new from to before after Stood reset kept no_fault untouched unwritten writes unread S.WasReset was is told =
    record { reset = reset; wrote = told.0; unread = unread; no_fault = no_fault; untouched = untouched; unwritten = unwritten; reads = writes.most_reads }
reset_over role image hex bearers clocked start new from to before after Stood reset kept no_fault untouched unwritten writes unread S.WriteFault was is told =
    inl (refl, record { wrote = inr (reset_front start before after reset told.0); unread = unread; kept = kept; no_fault = no_fault; untouched = inr untouched; writes = writes; reset = λ was. unwritten })
reset_over role image hex bearers clocked start new from to before after Stood reset kept no_fault untouched unwritten writes unread S.Memory was is told =
    inl (refl, record { wrote = inl told.0; unread = unread; kept = kept; no_fault = no_fault; untouched = inr untouched; writes = writes; reset = λ was. unwritten }, told.0)
reset_over role image hex bearers clocked start new from to before after Stood reset kept no_fault untouched unwritten writes unread S.Done was is told = absurd told
reset_over role image hex bearers clocked start new from to before after Stood reset kept no_fault untouched unwritten writes unread S.ReadFault was is told = absurd told
reset_over role image hex bearers clocked start new from to before after Stood reset kept no_fault untouched unwritten writes unread S.FlashFault was is told = absurd told
reset_over role image hex bearers clocked start new from to before after Stood reset kept no_fault untouched unwritten writes unread S.Cut was is told = absurd told
reset_over role image hex bearers clocked start new from to before after Stood reset kept no_fault untouched unwritten writes unread S.ErrorsFault was is told = absurd told
