use Rattle.std.proofs.Common.{◌≡◌, ◌∙◌, ◌+◌, ◌≤◌, ◌⊎◌, inl, inr, false, ◌∷◌, ◌++◌, [], ap, append-nil, arith, length, length-append, refl, subst, sym}
use Rattle.std.proofs.lemmas.List.Elements.{All-contains}
use Rattle.machine_contract.specs.declared.answers.Hand.TheVariants as H
use Rattle.machine_contract.specs.Refused.{IsRefused}
use Rattle.machine_contract.specs.Opening.{found_of}
use Rattle.machine_contract.specs.View.{entry_for, with_entry}
use Rattle.seq_word.specs.Seen.{IsAbove, last_word, went_to}
use Rattle.turn_lock.specs.Entries.{IsPrefix}
use Rattle.locked_node.specs.Asked.{AreAsked}
use Rattle.locked_node.specs.Counted.{IsCounted}
use Rattle.locked_node.specs.declared.marks.Mark.TheVariants as M
use Rattle.locked_node.specs.Node.{NodeView, behind_last, node_marks, origin_of}
use Rattle.locked_node.specs.Stands.{Holds}
use Rattle.locked_node.proofs.Asking.{asked_entry, holds_on}
use Rattle.locked_node.proofs.Behind.{origin_entry, origin_event}
use Rattle.locked_node.proofs.Counting.{counted_entry, counters_long}
use Rattle.locked_node.proofs.Counts.{entered, entered_front, front_more, length_marks}
use Rattle.locked_node.proofs.Told.{above_before, knows_last, last_more, moves_long}
use Rattle.locked_node.proofs.node.Node.handle.Goals as goal

pub returns-in-Err-Closed-clause-front : goal.returns-in-Err-Closed-clause-front
returns-in-Err-Closed-clause-front g c =
    let view = g.M.Machine.view in
    let was = c.self.inside.held.value in
    let left = c.deref_mut.result.now in
    let old : NodeView g.row.F.Denot = record { machine = view was.machine; counters = was.watcher.counters; start = was.start; flash = was.flash; stops = was.stops } in
    let new : NodeView g.row.F.Denot = record { machine = view left.machine; counters = left.watcher.counters; start = left.start; flash = left.flash; stops = left.stops + 1 } in
    -- the machine and the flash that were called are those in the box
    let called = subst (λ h. IsRefused g.F.Flash.chip (H.OfEvent c.args.event.now) (view h.machine) (view c.handle.new.self) h.flash c.handle.new.flash c.in-Err-Closed.field-0) c.deref_mut-held.ensures.value c.in-Err-Closed.ensures.refused in
    let refused = subst (λ s. IsRefused g.F.Flash.chip (H.OfEvent c.args.event.now) (view was.machine) (view c.handle.new.self) was.flash c.handle.new.flash s) c.in-Err-Closed.field-0-is called in
    let same = ap (λ h. view h.machine) c.deref_mut.ensures.value ∙ refused.1 in
    let counters = ap (λ h. h.watcher.counters) c.deref_mut.ensures.value ∙ ap (λ h. h.watcher.counters) c.deref_mut-held.ensures.value in
    let more = ap (λ h. h.stops + 1) c.deref_mut.ensures.value ∙ ap (λ h. h.stops + 1) c.deref_mut-held.ensures.value in
    subst (λ v. IsPrefix (node_marks v) (node_marks new)) c.self.view_is (front_more old new same counters more (c.self.invariant.stopped refused.0))

-- the entry, with the move behind it
pub returns-in-Ok-clause-ok : goal.returns-in-Ok-clause-ok
returns-in-Ok-clause-ok g c =
    let view = g.M.Machine.view in
    let was = c.self.inside.held.value in
    let held = c.deref_mut-held.result.now in
    let h = c.self.invariant in
    let a = c.in-Ok.answered in
    let old : NodeView g.row.F.Denot = record { machine = view was.machine; counters = was.watcher.counters; start = was.start; flash = was.flash; stops = was.stops } in
    let new : NodeView g.row.F.Denot = record { machine = view c.inform.new.self; counters = c.watch.new.w.counters; start = held.start; flash = c.handle.new.flash; stops = held.stops } in
    let move = last_word (went_to (g.M.Machine.advances c.handle.new.self)) in
    let mark = (view c.handle.new.self).mark in
    let is : new.machine ≡ with_entry old.machine (entry_for old.machine c.args.bearer c.args.number c.args.event.now a.answer a.jobs) move mark =
    ap view c.inform.ensures.same
    ∙ subst (λ x. view c.handle.new.self ≡ with_entry (view x.machine) (entry_for (view x.machine) c.args.bearer c.args.number c.args.event.now a.answer a.jobs) move mark) c.deref_mut-held.ensures.value c.in-Ok.ensures.ok in
    let none = h.live (subst (λ x. (view x.machine).closed ≡ false) c.deref_mut-held.ensures.value c.in-Ok.ensures.usable) in
    let long = moves_long _ _ _ _ h.over (view was.machine) (c.tells.ensures.known (found_of (g.F.Flash.chip was.start)) was.flash h.over was.machine h.tie) in
    let seen = counters_long _ old.machine old.counters h.counted in
    let counted : new.counters ≡ old.counters ++ last_word new.counters ∷ [] =
    ap (λ w. w.counters) c.watch.ensures.watcher ∙ ap (λ x. x.watcher.counters ++ last_word new.counters ∷ []) c.deref_mut-held.ensures.value in
    let same = ap (λ x. x.stops) c.deref_mut-held.ensures.value in
    subst (λ v. node_marks new ≡ node_marks v ++ M.Handled (entry_for v.machine c.args.bearer c.args.number c.args.event.now a.answer a.jobs) (behind_last new) ∷ []) c.self.view_is
    (entered old new (entry_for old.machine c.args.bearer c.args.number c.args.event.now a.answer a.jobs) move mark (last_word new.counters) is counted none same long seen)

pub returns-in-Ok-clause-front : goal.returns-in-Ok-clause-front
returns-in-Ok-clause-front g c =
    let view = g.M.Machine.view in
    let was = c.self.inside.held.value in
    let held = c.deref_mut-held.result.now in
    let h = c.self.invariant in
    let a = c.in-Ok.answered in
    let old : NodeView g.row.F.Denot = record { machine = view was.machine; counters = was.watcher.counters; start = was.start; flash = was.flash; stops = was.stops } in
    let new : NodeView g.row.F.Denot = record { machine = view c.inform.new.self; counters = c.watch.new.w.counters; start = held.start; flash = c.handle.new.flash; stops = held.stops } in
    let move = last_word (went_to (g.M.Machine.advances c.handle.new.self)) in
    let mark = (view c.handle.new.self).mark in
    let is : new.machine ≡ with_entry old.machine (entry_for old.machine c.args.bearer c.args.number c.args.event.now a.answer a.jobs) move mark =
    ap view c.inform.ensures.same
    ∙ subst (λ x. view c.handle.new.self ≡ with_entry (view x.machine) (entry_for (view x.machine) c.args.bearer c.args.number c.args.event.now a.answer a.jobs) move mark) c.deref_mut-held.ensures.value c.in-Ok.ensures.ok in
    let none = h.live (subst (λ x. (view x.machine).closed ≡ false) c.deref_mut-held.ensures.value c.in-Ok.ensures.usable) in
    let long = moves_long _ _ _ _ h.over (view was.machine) (c.tells.ensures.known (found_of (g.F.Flash.chip was.start)) was.flash h.over was.machine h.tie) in
    let seen = counters_long _ old.machine old.counters h.counted in
    let counted : new.counters ≡ old.counters ++ last_word new.counters ∷ [] =
    ap (λ w. w.counters) c.watch.ensures.watcher ∙ ap (λ x. x.watcher.counters ++ last_word new.counters ∷ []) c.deref_mut-held.ensures.value in
    let same = ap (λ x. x.stops) c.deref_mut-held.ensures.value in
    subst (λ v. IsPrefix (node_marks v) (node_marks new)) c.self.view_is
    (entered_front old new (entry_for old.machine c.args.bearer c.args.number c.args.event.now a.answer a.jobs) move mark (last_word new.counters) is counted none same long seen)

pub returns-in-Ok-clause-place : goal.returns-in-Ok-clause-place
returns-in-Ok-clause-place g c =
    let view = g.M.Machine.view in
    let was = c.self.inside.held.value in
    let a = c.in-Ok.answered in
    let none = c.self.invariant.live (subst (λ x. (view x.machine).closed ≡ false) c.deref_mut-held.ensures.value c.in-Ok.ensures.usable) in
    let m = view was.machine in
    let at : a.at ≡ length m.entries = subst (λ x. a.at ≡ length (view x.machine).entries) c.deref_mut-held.ensures.value c.in-Ok.ensures.place in
    subst (λ v. a.at ≡ length (node_marks v)) c.self.view_is (omega (arith, at, none, length_marks m.entries m.moves was.watcher.counters was.stops m.hand))

pub returns-in-Ok-clause-informed : goal.returns-in-Ok-clause-informed
returns-in-Ok-clause-informed g c =
    let view = g.M.Machine.view in
    let old = view c.deref_mut-held.result.now.machine in
    let words = went_to (g.M.Machine.advances c.handle.new.self) in
    let is : last_word (view c.inform.new.self).moves ≡ last_word words =
    ap (λ m. last_word (view m).moves) c.inform.ensures.same ∙ ap (λ m. last_word m.moves) c.in-Ok.ensures.ok ∙ last_more old.moves (last_word words) in
    knows_last c.deref_mut-held.result.now.watcher.counters c.watch.new.w.counters words c.args.drawer.now.informed c.inform.new.d.informed (last_word c.watch.new.w.counters) _
    (ap (λ w. w.counters) c.watch.ensures.watcher)
    (ap (λ d. d.informed) c.inform.ensures.informed ∙ ap (λ d. d.informed ++ words) c.watch.ensures.informed) is

-- the entry has the refills before it, and none was in hand
pub returns-in-Ok-clause-origin : goal.returns-in-Ok-clause-origin
returns-in-Ok-clause-origin g c =
    let view = g.M.Machine.view in
    let chip = g.F.Flash.chip in
    let held = c.deref_mut-held.result.now in
    let old : NodeView g.row.F.Denot = record { machine = view held.machine; counters = held.watcher.counters; start = held.start; flash = held.flash; stops = held.stops } in
    let new : NodeView g.row.F.Denot = record { machine = view c.inform.new.self; counters = c.watch.new.w.counters; start = held.start; flash = c.handle.new.flash; stops = held.stops } in
    let same : old ≡ c.args.self.now = ap (λ x. record { machine = view x.machine; counters = x.watcher.counters; start = x.start; flash = x.flash; stops = x.stops }) c.deref_mut-held.ensures.value ∙ c.self.view_is in
    let h = subst (λ x. Holds g.M.Machine.stands view chip x.machine x.watcher x.start x.flash x.stops) (sym c.deref_mut-held.ensures.value) c.self.invariant in
    let e = c.in-Ok.ensures in
    let life = c.tells.ensures.known (found_of (chip held.start)) held.flash h.over held.machine h.tie in
    let entry = entry_for old.machine c.args.bearer c.args.number c.args.event.now c.in-Ok.answered.answer c.in-Ok.answered.jobs in
    origin_entry chip old new refl e.frame.setting entry (last_word (went_to (g.M.Machine.advances c.handle.new.self))) (view c.handle.new.self).mark (ap view c.inform.ensures.same ∙ e.ok)
    h.taken (life.idle e.usable) refl
    ∙ ap (origin_of chip) same

-- an event in hand is no refill
pub returns-in-Err-Flash-clause-origin : goal.returns-in-Err-Flash-clause-origin
returns-in-Err-Flash-clause-origin g c =
    let view = g.M.Machine.view in
    let chip = g.F.Flash.chip in
    let held = c.deref_mut-held.result.now in
    let left = c.deref_mut-in-Err-Flash.result.now in
    let old : NodeView g.row.F.Denot = record { machine = view held.machine; counters = held.watcher.counters; start = held.start; flash = held.flash; stops = held.stops } in
    let new : NodeView g.row.F.Denot = record { machine = view left.machine; counters = left.watcher.counters; start = left.start; flash = left.flash; stops = left.stops + 1 } in
    let closes = subst (λ s. IsRefused chip (H.OfEvent c.args.event.now) old.machine (view c.handle.new.self) held.flash c.handle.new.flash s) c.in-Err-Flash.field-0-is c.in-Err-Flash.ensures.refused in
    let same : old ≡ c.args.self.now = ap (λ x. record { machine = view x.machine; counters = x.watcher.counters; start = x.start; flash = x.flash; stops = x.stops }) c.deref_mut-held.ensures.value ∙ c.self.view_is in
    let h = subst (λ x. Holds g.M.Machine.stands view chip x.machine x.watcher x.start x.flash x.stops) (sym c.deref_mut-held.ensures.value) c.self.invariant in
    let life = c.tells.ensures.known (found_of (chip held.start)) held.flash h.over held.machine h.tie in
    let at = c.deref_mut-in-Err-Flash.ensures.value in
    origin_event chip old new (ap (λ x. x.start) at) (ap (λ x. (chip x.flash).setting) at ∙ c.in-Err-Flash.ensures.frame.setting) c.args.event.now (view c.handle.new.self).mark
    (ap (λ x. view x.machine) at ∙ closes.now) (life.idle closes.usable)
    ∙ ap (origin_of chip) same

-- no more was taken than there were entries, and this one is behind them
pub returns-in-Ok-clause-since : goal.returns-in-Ok-clause-since
returns-in-Ok-clause-since g c =
    let view = g.M.Machine.view in
    let a = c.in-Ok.answered in
    let h = c.self.invariant in
    let m = view c.self.inside.held.value.machine in
    let at : a.at ≡ length m.entries = subst (λ x. a.at ≡ length (view x.machine).entries) c.deref_mut-held.ensures.value c.in-Ok.ensures.place in
    subst (λ v. v.machine.taken ≤ a.at) c.self.view_is (subst (λ n. m.taken ≤ n) (sym at) h.taken)

-- the counter wasn't moved, or it was moved to the mark, above all that the seat had drawn
pub returns-in-Ok-clause-until : goal.returns-in-Ok-clause-until
returns-in-Ok-clause-until g c =
    let view = g.M.Machine.view in
    let advances = g.M.Machine.advances in
    let held = c.deref_mut-held.result.now in
    let old = view held.machine in
    let words = went_to (advances c.handle.new.self) in
    let h = subst (λ x. Holds g.M.Machine.stands view g.F.Flash.chip x.machine x.watcher x.start x.flash x.stops) (sym c.deref_mut-held.ensures.value) c.self.invariant in
    let was = c.tells.ensures.last (found_of (g.F.Flash.chip held.start)) held.flash h.over held.machine h.tie c.in-Ok.ensures.usable in
    let is : last_word (view c.inform.new.self).moves ≡ last_word words =
    ap (λ m. last_word (view m).moves) c.inform.ensures.same ∙ ap (λ m. last_word m.moves) c.in-Ok.ensures.ok ∙ last_more old.moves (last_word words) in
    let same : last_word old.moves ≡ last_word c.args.self.now.machine.moves = ap (λ x. last_word (view x.machine).moves) c.deref_mut-held.ensures.value ∙ ap (λ v. last_word v.machine.moves) c.self.view_is in
    elim c.in-Ok.ensures.risen [
      | inl stays ↦ inl (is ∙ ap (λ l. last_word (went_to l)) stays.0 ∙ was ∙ same)
      | inr moved ↦ inr (above_before c.args.drawer.now c.watch.new.d c.watch.new.w.counters _ c.watch.ensures.informed
          (subst (IsAbove c.watch.new.d) (moved ∙ sym is) c.inform.ensures.below))
    ]

-- an entry more, with the refills before it
pub invariant_of-self : goal.invariant_of-self
invariant_of-self g c =
    let view = g.M.Machine.view in
    let held = c.deref_mut-held.result.now in
    let old = view held.machine in
    let h = subst (λ x. Holds g.M.Machine.stands view g.F.Flash.chip x.machine x.watcher x.start x.flash x.stops) (sym c.deref_mut-held.ensures.value) c.self.invariant in
    let e = c.in-Ok.ensures in
    let entry = entry_for old c.args.bearer c.args.number c.args.event.now c.in-Ok.answered.answer c.in-Ok.answered.jobs in
    let life = c.tells.ensures.known (found_of (g.F.Flash.chip held.start)) held.flash h.over held.machine h.tie in
    let now = view c.handle.new.self in
    let move = last_word (went_to (g.M.Machine.advances c.handle.new.self)) in
    let watcher = c.watch.new.w in
    let word = last_word watcher.counters in
    let seen = ap (λ w. w.counters) c.watch.ensures.watcher in
    let risen : (now.mark ≡ old.mark) ⊎ (now.mark ≡ move) = elim e.risen [
      | inl stays ↦ inl stays.1
      | inr moved ↦ inr moved
    ] in
    -- the machine's mark isn't below what the seat was told of the counter
    let told = knows_last held.watcher.counters watcher.counters [] c.args.drawer.now.informed c.watch.new.d.informed word 0 seen (ap (λ d. d.informed) c.watch.ensures.informed ∙ sym (append-nil _)) refl in
    let most : word ≤ now.mark = All-contains (λ x. x ≤ now.mark) c.watch.new.d.informed word c.inform.ensures.below.informed told.counter in
    let counted = counted_entry _ old now held.watcher.counters entry move word h.counted e.usable (moves_long _ _ _ _ h.over old life) refl e.ok risen c.watch.ensures.rise most in
    subst (λ m. Holds g.M.Machine.stands view g.F.Flash.chip m watcher held.start c.handle.new.flash held.stops) (sym c.inform.ensures.same)
    (holds_on g.M.Machine.stands view g.F.Flash.chip held.machine c.handle.new.self held.watcher watcher held.start held.flash c.handle.new.flash held.stops h e.usable (ap (λ m. m.closed) e.ok) e.frame e.no_fault e.kept
    (subst (λ m. AreAsked m.entries m.fills) (sym e.ok) (asked_entry old.entries entry old.fills refl h.asked))
    (subst (λ m. m.taken ≤ length m.entries) (sym e.ok) (omega (arith, h.taken, length-append old.entries (entry ∷ []))))
    (ap (λ w. w.which) c.watch.ensures.watcher ∙ h.watches ∙ sym (ap (λ m. m.which) e.ok))
    (subst (IsCounted _ now) (sym seen) counted))
