-- What holds of a node behind a call of its machine: no refill was stored before there was a job that draws.
use Rattle.std.proofs.Common.{◌≡◌, ◌∙◌, ◌≤◌, ℕ, zero, suc, true, false, true≢false, List, [], ◌∷◌, ◌++◌, length, Some, refl, sym, ap, subst}
use Rattle.std.specs.Prelude.{All, slice_get}
use Rattle.std.proofs.lemmas.List.Elements.{All-head, All-tail}
use Rattle.flash_model.proofs.Runs.{past_more}
use Rattle.flash_model.specs.Chip.{Chip, Keeps, Setting}
use Rattle.mesh_types.specs.declared.history.Entry.{Entry}
use Rattle.mesh_types.specs.declared.jobs.Job.{Job}
use Rattle.record_types.specs.declared.records.StoreRecord.{StoreRecord}
use Rattle.run_definitions.specs.Lines.{is_drawing}
use Rattle.machine_contract.specs.declared.answers.Hand.{Hand}
use Rattle.machine_contract.specs.Opening.{FlashFound, found_of}
use Rattle.machine_contract.specs.View.{MachineView}
use Rattle.seq_word.specs.Seen.{WatcherView}
use Rattle.store_definitions.specs.Config.{config_of}
use Rattle.locked_node.specs.declared.marks.Behind.{Behind}
use Rattle.locked_node.specs.declared.marks.Mark.TheVariants as M
use Rattle.locked_node.specs.Asked.{AreAsked, DrawsNone, WasAsked}
use Rattle.locked_node.specs.Counted.{IsCounted}
use Rattle.locked_node.specs.Node.{handled_marks, marks_of, rest_words}
use Rattle.locked_node.specs.Stands.{Holds}

-- an entry more has the refills before it, and none is behind it yet
pub asked_entry : (es : List Entry) (e : Entry) (fills : ℕ) → e.fills ≡ fills → AreAsked es fills → AreAsked (es ++ e ∷ []) 0
asked_entry [] e fills is h = (is ∙ h, λ none. refl)
asked_entry (x ∷ es) e fills is h = (h.0, λ none. asked_entry es e fills is (h.1 none))

-- a job that draws is none of those that don't
draws_here : (jobs : List Job) (j : ℕ) (job : Job) → slice_get jobs j ≡ Some job → is_drawing job ≡ true → All (λ x. is_drawing x ≡ false) jobs → true ≡ false
draws_here [] j job is draws h = cc
draws_here (x ∷ jobs) zero job is draws h =
    let same : x ≡ job = cc in
    sym draws ∙ ap is_drawing (sym same) ∙ All-head (λ x. is_drawing x ≡ false) x jobs h
draws_here (x ∷ jobs) (suc j) job is draws h = draws_here jobs j job is draws (All-tail (λ x. is_drawing x ≡ false) x jobs h)

-- so behind such a job any number of refills may be stored
asked_behind : (es : List Entry) (moves counters : List ℕ) (at : ℕ) (e : Entry) (behind : Behind) → slice_get (handled_marks es moves counters ++ []) at ≡ Some (M.Handled e behind)
    → (DrawsNone e → true ≡ false) → (m n : ℕ) → AreAsked es m → AreAsked es n
asked_behind [] moves counters at e behind is draws m n h = cc
asked_behind (x ∷ es) moves counters zero e behind is draws m n h =
    let same : x ≡ e = cc in
    (h.0, λ none. absurd (true≢false (draws (subst DrawsNone same none))))
asked_behind (x ∷ es) moves counters (suc at) e behind is draws m n h =
    (h.0, λ none. asked_behind es (rest_words moves) (rest_words counters) at e behind is draws m n (h.1 none))

pub asked_more : (before : ℕ) (es : List Entry) (moves counters : List ℕ) (stops : ℕ) (hand : Hand) → stops ≡ 0 → WasAsked before (marks_of es moves counters stops hand)
    → (m n : ℕ) → AreAsked es m → AreAsked es n
asked_more before es moves counters stops hand none w m n h =
    let here = subst (λ k. slice_get (marks_of es moves counters k hand) w.at ≡ Some (M.Handled w.entry w.behind)) none w.here in
    asked_behind es moves counters w.at w.entry w.behind here (draws_here w.entry.jobs w.place w.job w.has w.draws) m n h

-- What holds of a node whose machine was called, and answered Ok.
pub holds_on : {M F : Type 0} (stands : FlashFound → Chip → List StoreRecord → M → Type 0) (view : M → MachineView) (chip : F → Chip) (old new : M) (watcher after_watcher : WatcherView) (start flash after : F) (stops : ℕ)
    → (h : Holds stands view chip old watcher start flash stops) → (view old).closed ≡ false → (view new).closed ≡ (view old).closed
    → Keeps (chip flash) (chip after) → (chip after).faults ≡ (chip flash).faults
    → ((first : FlashFound) (over : List StoreRecord) → stands first (chip flash) over old → stands first (chip after) over new) → AreAsked (view new).entries (view new).fills → (view new).taken ≤ length (view new).entries
    → after_watcher.which ≡ (view new).which → IsCounted (config_of h.over).mark (view new) after_watcher.counters
    → Holds stands view chip new after_watcher start after stops
holds_on stands view chip old new watcher after_watcher start flash after stops h off same keeps faults kept asked taken watches counted = record {
  over = h.over;
  read = h.read;
  tie = kept (found_of (chip start)) h.over h.tie;
  few = h.few;
  live = λ _. h.live off;
  stopped = λ on. absurd (true≢false (sym on ∙ same ∙ off));
  no_fault = λ _. faults ∙ h.no_fault off;
  later = record {
    faults = subst (λ n. (chip start).faults ≤ n) (sym faults) h.later.faults;
    steady = keeps.steady ∙ h.later.steady;
    began = ap (λ (s : Setting). s.faults) keeps.setting ∙ h.later.began;
    cycles = ap (λ (s : Setting). s.cycles) keeps.setting ∙ h.later.cycles;
    past = past_more (chip start) (chip flash) (chip after) h.later.past keeps.past;
  };
  asked = asked;
  taken = taken;
  watches = watches;
  counted = counted;
}
