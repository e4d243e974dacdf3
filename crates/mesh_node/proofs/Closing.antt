-- A life between a flash and the flash.
use Rattle.std.proofs.Common.{◌≡◌, ◌≢◌, ◌∙◌, inl, inr, ◌+◌, ℕ, zero, suc, Option, ◌<◌, ◌≤◌, true, false, true≢false, Bool, List, [], Vec, Global, length, map, Some, None, refl, sym, ap, subst, arith}
use Rattle.std.specs.Prelude.{◌^◌, All, IfSome, IsTrue}
use Rattle.std.proofs.lemmas.List.{length-map}
use Rattle.flash_model.specs.Arming.{FailsOnce, IsCarriedOut, IsExplained, IsReached, IsTornLast, IsWithin as IsBeforeTorn, ReadsAtMost, failed_since}
use Rattle.flash_model.proofs.Runs.{past_more}
use Rattle.flash_model.specs.Chip.{Arm, CallCount, Chip, Keeps, KeepsCount, Setting, count_of}
use Rattle.machine_contract.specs.Moved.{HasMoved}
use Rattle.machine_contract.specs.Opening.{EachRecovered, FlashFound, IsUnwritten, MigratesOnly, found_of}
use Rattle.machine_contract.specs.Refused.{IsUntouched, WasReset}
use Rattle.machine_contract.specs.Standing.{IsLifeSoFar}
use Rattle.mesh_types.specs.declared.history.Entry.{Entry}
use Rattle.mesh_types.specs.declared.history.Sent.{Sent}
use Rattle.mesh_types.specs.declared.report.End.TheVariants as Ends
use Rattle.mesh_types.specs.declared.report.Opened.TheVariants as W
use Rattle.record_types.specs.declared.records.StoreRecord.{StoreRecord}
use Rattle.report_definitions.specs.Record.{list_at}
use Rattle.event_definitions.specs.Role.{Role}
use Rattle.run_definitions.specs.Order.{Step, is_cut, phases_of}
use Rattle.run_definitions.specs.RunOf.{LifeOf, Opens, cut_at_start, is_on, was_reset}
use Rattle.seq_word.specs.Rule.{IsEndOf, IsWithin, times}
use Rattle.seq_word.specs.Seen.{ClosedView, DrawerView}
use Rattle.node_limits.specs.declared.TheConstants.{BANK_SECTORS, COMPACTION_CALLS}
use Rattle.slot_definitions.specs.Slots.{HasFormat}
use Rattle.store_definitions.specs.Config.{config_of}
use Rattle.store_definitions.specs.Recovered.{IsRecovered}
use Rattle.store_definitions.specs.Wear.{COMPACTION_OCTETS, MOUNT_READS}
use Rattle.locked_node.specs.Asked.{AreAsked}
use Rattle.locked_node.specs.Node.{NodeView}
use Rattle.locked_node.specs.Stands.{HasMachine, IsLater, IsNode}
use Rattle.life_laws.specs.Hands.{HoldsNext}
use Rattle.life_laws.specs.Pairs.{IsFromMove, IsUntilMove, PairsSo}
use Rattle.life_laws.proofs.OneLife.{idle_life}
use Rattle.life_laws.proofs.Pairing.{from_all}
use Rattle.life_laws.specs.declared.plan.LifeLog.{LifeLog}
use Rattle.machine_contract.specs.View.{MachineView}
use Rattle.mesh_node.specs.Drawn.{TellsDrawn, opened_at}
use Rattle.mesh_node.specs.Given.{WasFirst, WasGiven}
use Rattle.mesh_node.proofs.Placed.{first_given}
use Rattle.mesh_node.specs.Going.{IsOver}
use Rattle.mesh_node.specs.Lives.{Lives, cut_calls, found_at, no_calls}
use Rattle.life_laws.specs.declared.plan.PlanStep.{PlanStep}
use Rattle.life_laws.specs.Plan.{HasOneArm, life_of, steps_of}
use Rattle.mesh_node.specs.Ran.{Ran}
use Rattle.mesh_node.specs.Steps.{HasGiven, IsGiven, IsOfPlan, first_order}
use Rattle.mesh_node.specs.Left.{Closes}
use Rattle.mesh_node.specs.Timed.{IsTimed}
use Rattle.mesh_node.proofs.Drawn.{tells_words}
use Rattle.mesh_node.proofs.Ending.{each_life, holds_next}
use Rattle.mesh_node.proofs.Giving.{given_one, last_torn, reached_some, within_none}
use Rattle.mesh_node.proofs.Printing.{idle_printable, sends_short}
use Rattle.mesh_node.proofs.Timing.{timed_of}

-- nothing was read before an event was handled
abbrev pub IsUnread : LifeLog → Type 0
IsUnread log = log.early ≡ record { again = 0; before = 0 }

-- it was cut as it opened only where it migrated format 01
abbrev pub OpensWithin : Bool → List ℕ → LifeLog → Type 0
OpensWithin steady found log = IsTrue steady → log.opened ≡ W.CutAtStart → HasFormat 1 found

-- the calls of that at most, and none of another format
abbrev pub OpensFor : List ℕ → Chip → Type 0
OpensFor found new = (new.changes ≤ COMPACTION_CALLS) × (new.erases ≤ BANK_SECTORS) × (new.octets ≤ COMPACTION_OCTETS) × (¬ HasFormat 1 found → count_of new ≡ no_calls)

-- a life finds it so
found_as : (faults : ℕ) (start : Chip) → count_of start ≡ no_calls → start.reads ≡ 0 → start.faults ≡ faults → found_of start ≡ found_at faults start.now
found_as faults start uncalled unread failed = λ i. record { now = start.now; count = uncalled i; reads = unread i; faults = failed i }

reset_or_cut : W.WasReset ≡ W.CutAtStart → ⊥
reset_or_cut e = cc

-- what isn't other than 1 is 1
one_or : (o : Option ℕ) → ((o ≡ Some 1 → ⊥) → ⊥) → o ≡ Some 1
one_or None h = absurd (h (λ e. cc))
one_or (Some zero) h = absurd (h (λ e. cc))
one_or (Some (suc zero)) h = refl
one_or (Some (suc (suc n))) h = absurd (h (λ e. cc))

-- no order is reached without a call
unreached : (o : Option Arm) → IsReached o 0 → ⊥
unreached None r = r
unreached (Some a) (inl less) = omega (arith, less)
unreached (Some a) (inr full) = omega (arith, full)

-- Cut as it opens, by an order of so many calls: of another format it made none.
opens_within : (start new : Chip) → start.changes ≡ 0 → MigratesOnly start new → IsReached new.setting.arm new.changes → HasFormat 1 start.now
opens_within start new none only reached =
    one_or _ (λ other. unreached new.setting.arm (subst (IsReached new.setting.arm) (ap (λ (n : CallCount). n.calls) (only.unwritten other).no_calls ∙ none) reached))

opens_for : (start new : Chip) → count_of start ≡ no_calls → MigratesOnly start new → OpensFor start.now new
opens_for start new none only =
    let uncalled : start.changes ≡ 0 = ap (λ (n : CallCount). n.calls) none in
    let unerased : start.erases ≡ 0 = ap (λ (n : CallCount). n.erases) none in
    let unprogrammed : start.octets ≡ 0 = ap (λ (n : CallCount). n.octets) none in
    (omega (arith, only.most_calls, uncalled), omega (arith, only.most_erases, unerased), omega (arith, only.most_octets, unprogrammed), λ other. (only.unwritten other).no_calls ∙ none)

-- a life that was run
module _ {M F : Type 0} (view : M → MachineView) (stands : FlashFound → Chip → List StoreRecord → M → Type 0) (role : Role) (image : List ℕ → Type 0) (chip : F → Chip) (plan : List Step) (start : F) (node : NodeView F) (d : DrawerView) (log : LifeLog)
    (one : (content : List ℕ) (rs ss : List StoreRecord) → IsRecovered content rs → IsRecovered content ss → rs ≡ ss)
    (begun : List StoreRecord) (read : IsRecovered (chip start).now begun) (runs : (config_of begun).reset ≡ false) (opened : log.opened ≡ W.On (config_of begun).iv (config_of begun).mark)
    (h : IsNode role image chip node) (is_start : node.start ≡ start) (over : IsOver (phases_of plan) node d (map (λ v. v.items) log.sends.items))
    (entries : log.history.entries.items ≡ node.machine.entries) (refills : log.history.refills ≡ node.machine.fills) (cut : is_cut log.end ≡ node.machine.closed)
    (next mark first : ℕ) (order : next ≤ mark) (marks : mark ≡ node.machine.mark) (firsts : first ≡ (config_of begun).mark)
    (from : All (λ x. first ≤ x) d.drawn) (below : All (λ x. x < next) d.drawn) (once : (x : ℕ) → times x d.drawn ≤ 1) (seen : All (IsWithin next mark) d.looks)
    (closed : ClosedView) (drawn : log.drawn ≡ Some closed) (closes : Closes d closed first) (held : HasMachine stands view chip node)
    (moved : (over : List StoreRecord) → IsRecovered (chip start).now over → node.machine.closed ≡ false → HasMoved role over log.history.entries.items log.history.refills closed.advances)
    (bearers : ℕ) (few : bearers ≤ 8) (many : length log.sends.items ≡ bearers)
    (explained : IsExplained (chip node.flash)) (given : node.stops ≡ 0 → HasGiven plan (chip node.flash).setting.arm)
    (arm : IsOfPlan plan (chip node.flash).setting.arm)
    (placed : (over : List StoreRecord) → IsRecovered (chip start).now over → IfSome (chip node.flash).setting.arm (WasGiven view (stands (found_of (chip start))) chip over node.machine (life_of log).sends plan)) (calls : IfSome (cut_calls log.end) (λ n. n ≡ (chip node.flash).changes))
    (saved : (chip node.flash).setting.saved ≡ (chip start).setting.saved) where
  begun_is : begun ≡ h.over
  begun_is = one (chip start).now begun h.over read (subst (λ s. IsRecovered (chip s).now h.over) is_start h.read)

  all_lives : EachRecovered (chip node.flash) (λ after. LifeOf role plan h.over (life_of log) after)
  all_lives = each_life role image chip plan node d (map (λ v. v.items) log.sends.items) (life_of log) h over entries refills refl cut
      (subst (λ o. (config_of o).reset ≡ false) begun_is runs) (subst (λ o. log.opened ≡ W.On (config_of o).iv (config_of o).mark) begun_is opened)
      next mark order marks (subst (λ o. All (λ x. (config_of o).mark ≤ x) d.drawn) begun_is (subst (λ m. All (λ x. m ≤ x) d.drawn) firsts from)) below once seen
      (subst (λ m. All (IsEndOf m d.drawn) d.looks) (firsts ∙ ap (λ o. (config_of o).mark) begun_is) closes.ends)

  pairs : PairsSo (life_of log).entries node.machine.moves (life_of log).sends d
  pairs = subst (λ es. PairsSo es node.machine.moves (map (λ v. v.items) log.sends.items) d) (sym entries) over.pairs

  given_all : IsTrue (chip node.flash).steady → HasGiven plan (chip node.flash).setting.arm
  given_all steady = by_closed node.machine.closed refl where
    by_closed : (b : Bool) → node.machine.closed ≡ b → HasGiven plan (chip node.flash).setting.arm
    by_closed true is = λ calls mask among. reached_some (chip node.flash).setting.arm (chip node.flash).changes (explained steady (h.life.failed is))
    by_closed false is = given (h.live is)

  read_over : IsRecovered (chip start).now h.over
  read_over = subst (λ o. IsRecovered (chip start).now o) begun_is read

  held_over : held.over ≡ h.over
  held_over = one (chip start).now held.over h.over (subst (λ s. IsRecovered (chip s).now held.over) is_start held.read) read_over

  -- where the counter was behind what the log tells
  timed_log : IsTimed (is_cut log.end) (phases_of plan) (opened_at log.opened) (life_of log).entries node.machine.moves (life_of log).sends
  timed_log =
      let whole = timed_of role image chip (phases_of plan) node d (life_of log).sends h over in
      let told = subst (λ (es : List Entry). IsTimed node.machine.closed (phases_of plan) (config_of h.over).mark es node.machine.moves (life_of log).sends) (sym entries) whole in
      let mark : opened_at log.opened ≡ (config_of h.over).mark = ap opened_at opened ∙ ap (λ o. (config_of o).mark) begun_is in
      subst (λ b. IsTimed b (phases_of plan) (opened_at log.opened) (life_of log).entries node.machine.moves (life_of log).sends) (sym cut)
      (subst (λ m. IsTimed node.machine.closed (phases_of plan) m (life_of log).entries node.machine.moves (life_of log).sends) (sym mark) told)

  pub ran : Ran view stands chip role image plan (chip start) log node.flash
  ran = record {
    over = h.over;
    recovered = read_over;
    life = all_lives;
    node = h.life.node;
    printable = record {
      entries = subst (λ es. length es < 2 ^ 32) (sym entries) h.life.few;
      bearers = omega (arith, many, few, length-map log.sends.items (λ v. v.items));
      lines = sends_short node.machine.entries node.machine.moves (map (λ v. v.items) log.sends.items) over.pairs.drawns d.looks h.life.few over.pairs.shown;
    };
    later = subst (λ s. IsLater (chip s) (chip node.flash)) is_start h.later;
    cause = λ is. h.life.failed (sym cut ∙ is);
    no_fault = λ off. subst (λ s. (chip node.flash).faults ≡ (chip s).faults) is_start (h.no_fault (sym cut ∙ off));
    arm = arm;
    saved = saved;
    calls = calls;
    drawn = subst (TellsDrawn (life_of log)) (sym drawn)
        (tells_words (life_of log) node.machine.moves d closed (ap is_on opened) (subst (Closes d closed) (sym (ap opened_at opened ∙ sym firsts)) closes) pairs
        (subst (λ es. AreAsked es log.history.refills) (sym entries) (subst (AreAsked node.machine.entries) (sym refills) h.asked)));
    moved = λ off. subst (λ o. IfSome o (λ (words : ClosedView). HasMoved role h.over log.history.entries.items log.history.refills words.advances)) (sym drawn) (moved h.over read_over (sym cut ∙ off));
    armed = given_all;
    told = record {
      machine = held.machine;
      stood = subst (λ o. stands (found_of (chip start)) (chip node.flash) o held.machine) held_over (subst (λ s. stands (found_of (chip s)) (chip node.flash) held.over held.machine) is_start held.tie);
      entries = ap (λ m. m.entries) held.shows ∙ sym entries;
      refills = ap (λ m. m.fills) held.shows ∙ sym refills;
      closed = ap (λ m. m.closed) held.shows ∙ sym cut;
    };
    given = subst (λ m. IfSome (chip node.flash).setting.arm (WasGiven view (stands (found_of (chip start))) chip h.over m (life_of log).sends plan)) (sym held.shows) (placed h.over read_over);
    paid = subst (λ m. IsLifeSoFar role image (found_of (chip start)) (chip node.flash) h.over m) (sym held.shows)
        (subst (λ s. IsLifeSoFar role image (found_of (chip s)) (chip node.flash) h.over node.machine) is_start h.life);
    from = subst (λ (m : MachineView). All (All (IsFromMove (life_of log).entries m.moves)) (life_of log).sends) (sym held.shows)
        (subst (λ (es : List Entry). All (All (IsFromMove es node.machine.moves)) (life_of log).sends) (sym entries)
        (from_all node.machine.entries node.machine.moves (life_of log).sends over.pairs.drawns d.looks over.pairs.shown));
    until = subst (λ (m : MachineView). (k : ℕ) → All (IsUntilMove k (life_of log).entries m.moves) (list_at (life_of log).sends k)) (sym held.shows) pairs.until;
    timed = subst (λ (m : MachineView). IsTimed (is_cut log.end) (phases_of plan) (opened_at log.opened) (life_of log).entries m.moves (life_of log).sends) (sym held.shows) timed_log;
    hand = subst (λ (m : MachineView). HoldsNext (phases_of plan) (life_of log).entries (life_of log).sends m) (sym held.shows)
        (subst (λ (es : List Entry). HoldsNext (phases_of plan) es (life_of log).sends node.machine) (sym entries) (holds_next role image chip (phases_of plan) node d (life_of log).sends h over));
    on = ap is_on opened;
  }

module _ {M F : Type 0} (view : M → MachineView) (stands : FlashFound → Chip → List StoreRecord → M → Type 0) (chip : F → Chip)
    (role : Role) (image : List ℕ → Type 0) (items : List PlanStep) (single : HasOneArm items) (old start : Chip) (left : F) (log : LifeLog)
    (is : old.images start.now) (began : start.setting.faults ≡ old.faults) (order : IsOfPlan (steps_of items) start.setting.arm) (first : start.setting.arm ≡ first_order items 0) (count : KeepsCount old start)
    (cycled : start.setting.cycles ≡ old.setting.cycles + 1) (uncalled : count_of start ≡ no_calls) (unread : start.reads ≡ 0) (as_read : start.setting.saved ≡ start.now) (out : (f : F) → IsCarriedOut (chip f)) (why : (f : F) → IsExplained (chip f)) (counted : (f : F) → (chip f).changes ≤ 4294967295) where
  abbrev plan : List Step
  plan = steps_of items

  abbrev new : Chip
  new = chip left

  -- it hasn't failed since power was given, so its order was carried out
  carried_out : new.steady ≡ old.steady → new.setting.faults ≡ old.faults → new.faults ≡ old.faults → IsTrue old.steady → IsBeforeTorn new.setting.arm 0 new.changes
  carried_out same began faults steady = within_none new.setting.arm (failed_since new) new.changes (omega (arith, faults, began)) (out left (subst IsTrue (sym same) steady))

  -- and where it failed, it did at the torn call, and once
  torn_last : new.steady ≡ old.steady → new.setting.faults ≡ old.faults → FailsOnce start new → old.faults < new.faults → IsTrue old.steady → IsTornLast new.setting.arm new.changes
  torn_last same began once failed steady =
      let so : IsTrue new.steady = subst IsTrue (sym same) steady in
      let was : start.faults ≡ old.faults = count.faults in
      last_torn new.setting.arm (failed_since new) new.changes (why left so (omega (arith, began, failed))) (out left so) (omega (arith, began, once, was)) (counted left)

  pub lives_ran : Ran view stands chip role image plan start log left → Lives view stands chip role image plan old log left
  lives_ran r =
      let now : new.setting.faults ≡ old.faults = r.later.began ∙ began in
      let found = found_as old.faults start uncalled unread count.faults in
      record {
        over = r.over;
        image = start.now;
        is_image = is;
        read = r.saved ∙ as_read;
        recovered = r.recovered;
        past = past_more old start new count.past r.later.past;
        life = r.life;
        node = r.node;
        printable = r.printable;
        later = subst (λ n. n ≤ new.faults) count.faults r.later.faults;
        cause = λ cut. subst (λ n. n < new.faults) now (r.cause cut);
        no_fault = λ off. r.no_fault off ∙ count.faults;
        steady = r.later.steady ∙ count.steady;
        setting = now;
        cycles = r.later.cycles ∙ cycled;
        arm = r.arm;
        calls = r.calls;
        opening = λ steady cut. absurd (true≢false (sym r.on ∙ ap is_on cut));
        opening_calls = λ cut. absurd (true≢false (sym r.on ∙ ap is_on cut));
        reset = λ was. absurd (true≢false (sym r.on ∙ ap is_on was));
        reset_calls = λ was cut. absurd (true≢false (sym r.on ∙ ap is_on cut));
        drawn = r.drawn;
        moved = r.moved;
        armed = λ steady other. given_one items new.setting.arm single r.arm (r.armed (subst IsTrue (sym (r.later.steady ∙ count.steady)) steady));
        first = λ off. absurd (true≢false (sym r.on ∙ off));
        carried = λ steady whole. carried_out (r.later.steady ∙ count.steady) now (r.no_fault whole ∙ count.faults) steady;
        torn = λ steady cut. torn_last (r.later.steady ∙ count.steady) now r.paid.once (subst (λ n. n < new.faults) now (r.cause cut)) steady;
        reads = omega (arith, r.paid.reads, unread);
        told = λ on. record {
          machine = r.told.machine;
          stood = subst (λ f. stands f new r.over r.told.machine) found r.told.stood;
          entries = r.told.entries;
          refills = r.told.refills;
          closed = r.told.closed;
        };
        given = λ on. subst (λ f. IfSome new.setting.arm (WasGiven view (stands f) chip r.over (view r.told.machine) (life_of log).sends plan)) found r.given;
        paid = λ on. subst (λ f. IsLifeSoFar role image f new r.over (view r.told.machine)) found r.paid;
        from = λ on. r.from;
        until = λ on. r.until;
        timed = λ on. r.timed;
        hand = λ on. r.hand;
        early = λ off. absurd (true≢false (sym r.on ∙ off));
      }

  -- a life that wasn't run
  pub lives_idle : Keeps start new → ReadsAtMost MOUNT_READS start new → (is_cut log.end ≡ true → FailsOnce start new) → (IsTrue old.steady → log.opened ≢ W.WasReset → IsGiven plan new.setting.arm) → (u : IsUntouched image start new) → is_on log.opened ≡ false → log.drawn ≡ None → log.history.entries.items ≡ [] → log.history.refills ≡ 0 → log.sends.items ≡ []
      → Opens (config_of u.over) log.opened log.end → (is_cut log.end ≡ true → start.faults < new.faults) → (is_cut log.end ≡ false → new.faults ≡ start.faults) → IfSome (cut_calls log.end) (λ n. n ≡ new.changes) → OpensWithin old.steady start.now log → (log.opened ≡ W.CutAtStart → OpensFor start.now new) → (log.opened ≡ W.WasReset → count_of new ≡ no_calls) → ((config_of u.over).reset ≡ true → log.opened ≡ W.CutAtStart → count_of new ≡ no_calls) → IsUnread log → Lives view stands chip role image plan old log left
  lives_idle keeps most once armed u off none entries refills sends opening failed stays calls within costs reset cut_reset early =
      record {
        over = u.over;
        image = start.now;
        is_image = is;
        read = ap (λ (s : Setting). s.saved) keeps.setting ∙ as_read;
        recovered = u.read;
        past = past_more old start new count.past keeps.past;
        life = λ content next among recovers. idle_life role plan u.over next (life_of log) off entries refills (ap (map (λ (v : Vec Sent Global). v.items)) sends) opening (u.left content next among recovers);
        node = u.node;
        printable = idle_printable (life_of log) entries (ap (map (λ (v : Vec Sent Global). v.items)) sends);
        later = subst (λ n. n ≤ new.faults) count.faults keeps.later;
        cause = λ cut. subst (λ n. n < new.faults) count.faults (failed cut);
        no_fault = λ off. stays off ∙ count.faults;
        steady = keeps.steady ∙ count.steady;
        setting = ap (λ (s : Setting). s.faults) keeps.setting ∙ began;
        cycles = ap (λ (s : Setting). s.cycles) keeps.setting ∙ cycled;
        arm = subst (IsOfPlan plan) (sym (ap (λ (s : Setting). s.arm) keeps.setting)) order;
        calls = calls;
        opening = within;
        opening_calls = costs;
        reset = reset;
        reset_calls = cut_reset;
        drawn = subst (TellsDrawn (life_of log)) (sym none) off;
        moved = λ runs. subst (λ o. IfSome o (λ (words : ClosedView). HasMoved role u.over log.history.entries.items log.history.refills words.advances)) (sym none) tt;
        armed = armed;
        first = λ off. subst (λ o. IfSome o (WasFirst plan)) (sym (ap (λ (s : Setting). s.arm) keeps.setting ∙ first)) (first_given items);
        carried = λ steady whole. carried_out (keeps.steady ∙ count.steady) (ap (λ (s : Setting). s.faults) keeps.setting ∙ began) (stays whole ∙ count.faults) steady;
        torn = λ steady cut. torn_last (keeps.steady ∙ count.steady) (ap (λ (s : Setting). s.faults) keeps.setting ∙ began) (once cut) (subst (λ n. n < new.faults) count.faults (failed cut)) steady;
        reads = omega (arith, most, unread);
        told = λ on. absurd (true≢false (sym on ∙ off));
        given = λ on. absurd (true≢false (sym on ∙ off));
        paid = λ on. absurd (true≢false (sym on ∙ off));
        from = λ on. absurd (true≢false (sym on ∙ off));
        until = λ on. absurd (true≢false (sym on ∙ off));
        timed = λ on. absurd (true≢false (sym on ∙ off));
        hand = λ on. absurd (true≢false (sym on ∙ off));
        early = λ off. early;
      }

  -- it was cut while it opened
  pub lives_cut : Keeps start new → MigratesOnly start new → (WasReset start → IsUnwritten start new) → IsExplained new → IsUntouched image start new → start.faults < new.faults → log.opened ≡ W.CutAtStart → log.end ≡ Ends.Cut new.changes
      → log.drawn ≡ None → log.history.entries.items ≡ [] → log.history.refills ≡ 0 → log.sends.items ≡ [] → IsUnread log → Lives view stands chip role image plan old log left
  lives_cut keeps only untouched explained u failed opened end none entries refills sends early =
      let later : IsTrue old.steady → new.setting.faults < new.faults → HasGiven plan new.setting.arm =
      λ steady more calls mask among. reached_some new.setting.arm new.changes (explained (subst IsTrue (sym (keeps.steady ∙ count.steady)) steady) more) in
      let now : new.setting.faults < new.faults = subst (λ n. n < new.faults) (count.faults ∙ sym began ∙ sym (ap (λ (s : Setting). s.faults) keeps.setting)) failed in
      let order' : IsOfPlan plan new.setting.arm = subst (IsOfPlan plan) (sym (ap (λ (s : Setting). s.arm) keeps.setting)) order in
      lives_idle keeps only.most_reads (λ cut. only.once) (λ steady other. given_one items new.setting.arm single order' (later steady now)) u (ap is_on opened) none entries refills sends
      (subst (λ o. Opens (config_of u.over) o log.end) (sym opened) (subst (λ e. Opens (config_of u.over) W.CutAtStart e) (sym end) cut_at_start))
      (λ cut. failed) (λ off. absurd (true≢false (sym (ap is_cut end) ∙ off))) (subst (λ e. IfSome (cut_calls e) (λ n. n ≡ new.changes)) (sym end) refl)
      (λ steady cut. opens_within start new (ap (λ (n : CallCount). n.calls) uncalled) only (explained (subst IsTrue (sym (keeps.steady ∙ count.steady)) steady) now)) (λ cut. opens_for start new uncalled only)
      (λ was. absurd (reset_or_cut (sym was ∙ opened)))
      (λ was cut. (untouched (record { over = u.over; read = u.read; reset = was })).no_calls ∙ uncalled) early

  -- there was a Node Reset
  pub lives_reset : Keeps start new → ReadsAtMost MOUNT_READS start new → IsUnwritten start new → new.faults ≡ start.faults → (u : IsUntouched image start new) → (config_of u.over).reset ≡ true → log.opened ≡ W.WasReset → log.end ≡ Ends.Ended
      → log.drawn ≡ None → log.history.entries.items ≡ [] → log.history.refills ≡ 0 → log.sends.items ≡ [] → IsUnread log → Lives view stands chip role image plan old log left
  lives_reset keeps most unwritten same u reset opened end none entries refills sends early =
      lives_idle keeps most (λ cut. absurd (true≢false (sym cut ∙ ap is_cut end))) (λ steady other. absurd (other opened)) u (ap is_on opened) none entries refills sends
      (subst (λ o. Opens (config_of u.over) o log.end) (sym opened) (subst (λ e. Opens (config_of u.over) W.WasReset e) (sym end) (was_reset reset)))
      (λ cut. absurd (true≢false (sym cut ∙ ap is_cut end))) (λ off. same) (subst (λ e. IfSome (cut_calls e) (λ n. n ≡ new.changes)) (sym end) tt)
      (λ steady cut. absurd (reset_or_cut (sym opened ∙ cut))) (λ cut. absurd (reset_or_cut (sym opened ∙ cut))) (λ was. unwritten.no_calls ∙ uncalled) (λ was cut. absurd (reset_or_cut (sym opened ∙ cut))) early
