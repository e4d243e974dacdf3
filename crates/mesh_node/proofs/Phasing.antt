-- What a phase between a node and the node gives to a life, whoever ran it.
use Rattle.std.proofs.Common.{◌≡◌, ◌≢◌, ◌∙◌, ℕ, ◌+◌, ◌<◌, ◌≤◌, Bool, true, false, List, [], ◌∷◌, ◌++◌, length, map, drop, refl, sym, ap, subst, length-append, arith}
use Rattle.std.specs.Prelude.{All, slice_index_or}
use Rattle.std.proofs.lemmas.List.{length-map}
use Rattle.flash_model.specs.Chip.{Chip}
use Rattle.event_definitions.specs.Role.{Role}
use Rattle.mesh_types.specs.declared.events.Event.{Event}
use Rattle.mesh_types.specs.declared.history.Entry.{Entry}
use Rattle.mesh_types.specs.declared.history.Sent.{Sent}
use Rattle.machine_contract.specs.declared.answers.Hand.TheVariants as H
use Rattle.node_limits.specs.declared.TheConstants.{BEARERS}
use Rattle.run_definitions.specs.Order.{Does, Part, Placed, placed_from}
use Rattle.seq_word.specs.Seen.{DrawerView}
use Rattle.store_definitions.specs.Config.{config_of}
use Rattle.locked_node.specs.Node.{NodeView, origin_of}
use Rattle.locked_node.specs.Stands.{IsNode}
use Rattle.locked_node.proofs.Counting.{counters_long}
use Rattle.locked_node.proofs.Told.{moves_long}
use Rattle.machine_contract.specs.Opening.{found_of}
use Rattle.node_phase.specs.declared.bearers.Done.{Done}
use Rattle.node_phase.specs.Part.{AreThrough, DoesPart, HadMemory, lines_of, part_of}
use Rattle.node_phase.specs.Worked.{WasPhase, done_of}
use Rattle.node_phase.proofs.Parting.{parts_of_phase}
use Rattle.life_laws.specs.Phases.{both_of}
use Rattle.life_laws.specs.Stopped.{HasStopped}
use Rattle.life_laws.proofs.Pairing.{pairs_more}
use Rattle.life_laws.proofs.Placing.{CameTo, came_to}
use Rattle.life_laws.proofs.Stopping.{none_stopped, some_stopped}
use Rattle.mesh_node.specs.Given.{IsUnfilled}
use Rattle.mesh_node.specs.Going.{AreTold, IsBetween, IsGoing, IsOver}
use Rattle.mesh_node.specs.Lives.{IsShort}
use Rattle.mesh_node.specs.Steps.{IsSameNode}
use Rattle.mesh_node.specs.Told.{IsPartDone, IsPrintablePhase, did_of, part_told}
use Rattle.mesh_node.specs.declared.phases.Seats.{Seats}
use Rattle.mesh_node.specs.declared.told.PhaseLog.{PhaseLog}
use Rattle.mesh_node.proofs.Stepping.{going_more, over_by, same_arm, same_called, same_node, same_programmed, same_saved}
use Rattle.mesh_node.proofs.Telling.{closed_by, drop_front, going_taken, over_taken, phase_short, taken_of, told_more}
use Rattle.mesh_node.proofs.Unfilled.{unfilled_by, unfilled_taken}

-- a phase, the seats before and behind it, and what was taken of the node
pub record IsPhase {F M Reader Reading : Type 0} (role : Role) (image : List ℕ → Type 0) (chip : F → Chip) (old new left : NodeView F) (e : DrawerView) (events : List (List Event)) (before now : Seats M Reader Reading) (dones : List Done) (log : PhaseLog) (closed : Bool) : Type 0 where
  pub between : IsBetween before old
  pub long : length events ≡ length before.counts.items
  pub origin : origin_of chip new ≡ origin_of chip old
  pub was : WasPhase old new before.drawer e events before.counts.items dones
  pub memory : HadMemory dones
  pub through : closed ≡ false → AreThrough dones
  pub halted : closed ≡ true → HasStopped dones
  pub known : IsNode role image chip new
  pub taken : left ≡ taken_of new
  pub first : log.first ≡ before.entries
  pub entries : log.entries.items ≡ drop new.machine.taken new.machine.entries
  pub sends : map (λ v. v.items) log.sends.items ≡ map lines_of dones
  pub counts : now.counts.items ≡ map (λ x. x.number) dones
  pub count : now.entries ≡ before.entries + length log.entries.items
  pub drawer : now.drawer ≡ e
  pub numbers : now.numbers ≡ before.numbers
  pub which : e.which ≡ before.drawer.which

module _ {F M Reader Reading : Type 0} {role : Role} {image : List ℕ → Type 0} {chip : F → Chip} {old new left : NodeView F} {e : DrawerView} {events : List (List Event)} {before now : Seats M Reader Reading} {dones : List Done} {log : PhaseLog} {closed : Bool}
    (p : IsPhase role image chip old new left e events before now dones log closed) where
  done_many : length dones ≡ length before.counts.items
  done_many = ap length p.was.left ∙ length-map p.was.bearers done_of ∙ p.was.long ∙ sym (length-map p.was.before (λ b. b.number)) ∙ ap length p.was.numbers

  pub many_is : length now.counts.items ≡ length before.counts.items
  many_is = ap length p.counts ∙ length-map dones (λ (x : Done). x.number) ∙ done_many

  lines_many : length (map lines_of dones) ≡ length before.counts.items
  lines_many = length-map dones lines_of ∙ done_many

  pub bearers_is : length log.sends.items ≡ length before.counts.items
  bearers_is = sym (length-map log.sends.items (λ v. v.items)) ∙ ap length p.sends ∙ lines_many

  pub frame_is : IsSameNode old left
  frame_is =
      let same = same_node chip old new p.origin in
      subst (IsSameNode old) (sym p.taken) (record { start = same.start; which = same.which; elements = same.elements })

  pub arm_is : (chip left.flash).setting.arm ≡ (chip old.flash).setting.arm
  arm_is = ap (λ (n : NodeView F). (chip n.flash).setting.arm) p.taken ∙ same_arm chip old new p.origin

  pub saved_is : (chip left.flash).setting.saved ≡ (chip old.flash).setting.saved
  saved_is = ap (λ (n : NodeView F). (chip n.flash).setting.saved) p.taken ∙ (same_saved chip old new p.origin).0

  pub called_is : (chip left.flash).setting.called ≡ (chip old.flash).setting.called
  called_is = ap (λ (n : NodeView F). (chip n.flash).setting.called) p.taken ∙ same_called chip old new p.origin

  pub programmed_is : (chip left.flash).setting.programmed ≡ (chip old.flash).setting.programmed
  programmed_is = ap (λ (n : NodeView F). (chip n.flash).setting.programmed) p.taken ∙ same_programmed chip old new p.origin

  pub moment_is : (chip left.flash).setting.moment ≡ (chip old.flash).setting.moment
  moment_is = ap (λ (n : NodeView F). (chip n.flash).setting.moment) p.taken ∙ (same_saved chip old new p.origin).1

  none_is : closed ≡ false → new.stops ≡ 0
  none_is off = none_stopped old new before.drawer e events before.counts.items dones p.was p.between.live (p.through off)

  some_is : closed ≡ true → 0 < new.stops
  some_is on = some_stopped old new before.drawer e events before.counts.items dones p.was p.between.live (p.halted on)

  pub closed_is : closed ≡ left.machine.closed
  closed_is = subst (λ (n : NodeView F). closed ≡ n.machine.closed) (sym p.taken) (closed_by new p.known closed none_is some_is)

  pub stopped_is : closed ≡ true → 0 < left.stops
  stopped_is on = subst (λ (n : NodeView F). 0 < n.stops) (sym p.taken) (some_is on)

  pub known_is : IsNode role image chip left
  known_is =
      let k = p.known in
      let l = k.life in
      subst (IsNode role image chip) (sym p.taken) (record {
        over = k.over;
        read = k.read;
        life = record { told = l.told; entries = l.entries; handled = l.handled; moves = l.moves; few = l.few; elements = l.elements; node = l.node; left = l.left; idle = l.idle; failed = l.failed; no_fault = l.no_fault; once = l.once; in_hand = l.in_hand; hand = l.hand; paid = l.paid; reads = l.reads };
        few = k.few;
        live = k.live;
        stopped = k.stopped;
        no_fault = k.no_fault;
        later = k.later;
        asked = k.asked;
        taken = omega arith;
        counted = record { rise = k.counted.rise; within = k.counted.within; mark = k.counted.mark };
      })

  -- each entry has a move behind it
  moved_is : length new.machine.moves ≡ length new.machine.entries
  moved_is = moves_long role image (found_of (chip new.start)) (chip new.flash) p.known.over new.machine p.known.life

  -- and the counter was looked at behind each
  counted_is : length new.counters ≡ length new.machine.entries
  counted_is = counters_long (config_of p.known.over).mark new.machine new.counters p.known.counted

  came : CameTo old new
  came = came_to old new p.between.live p.was.front

  same_taken : new.machine.taken ≡ old.machine.taken
  same_taken = ap (λ o. o.taken) p.origin

  pub unfilled_is : old.machine.hand ≢ H.OfRefill → IsUnfilled old.machine left.machine
  unfilled_is none =
      let h = unfilled_by old.machine new.machine came.more came.is p.between.taken same_taken (ap (λ o. o.fills) p.origin) none in
      subst (λ (n : NodeView F). IsUnfilled old.machine n.machine) (sym p.taken) (unfilled_taken old.machine new.machine (length new.machine.entries) h)

  came_are : log.entries.items ≡ came.more
  came_are =
      p.entries ∙ ap (λ n. drop n new.machine.entries) (same_taken ∙ p.between.taken) ∙ ap (drop (length old.machine.entries)) came.is ∙ drop_front old.machine.entries came.more

  long_is : length new.machine.entries ≡ length old.machine.entries + length log.entries.items
  long_is = ap length came.is ∙ length-append old.machine.entries came.more ∙ ap (λ (l : List Entry). length old.machine.entries + length l) (sym came_are)

  pub told_is : (entries : List Entry) → AreTold entries old → AreTold (entries ++ log.entries.items) left
  told_is entries told =
      let more = told_more entries old new told came same_taken in
      subst (AreTold (entries ++ log.entries.items)) (sym p.taken) (subst (λ es. AreTold (entries ++ es) (taken_of new)) (sym p.entries) more)

  pub parts_is : now.drawer.parts ≡ 1024
  parts_is =
      let few : length p.was.before < 1024 = omega (arith, sym (length-map p.was.before (λ b. b.number)), ap length p.was.numbers, p.between.few) in
      ap (λ (d : DrawerView). d.parts) p.drawer ∙ p.was.parts (subst (λ n. length p.was.before < n) (sym p.between.parts) few) ∙ p.between.parts

  pub free_is : now.drawer.owes ≡ 0
  free_is = ap (λ (d : DrawerView). d.owes) p.drawer ∙ p.was.free p.between.free

  pub between_is : closed ≡ false → IsBetween now left
  between_is off =
      let same = same_node chip old new p.origin in
      let words = ap (λ (n : _). n.which) p.numbers in
      subst (IsBetween now) (sym p.taken) (record {
        made = same.which ∙ p.between.made ∙ sym words;
        draws = ap (λ (d : DrawerView). d.which) p.drawer ∙ p.which ∙ p.between.draws ∙ sym words;
        parts = parts_is;
        free = free_is;
        few = subst (λ n. n ≤ BEARERS) (sym many_is) p.between.few;
        live = none_is off;
        taken = refl;
        count = omega (arith, p.count, p.between.count, long_is);
      })

  part_is : part_of old new dones ≡ part_told (did_of log)
  part_is =
      let with_entries : List Placed → Part = λ es. record { entries = es; sends = map lines_of dones } in
      let with_sends : List (List Sent) → Part = λ ss. record { entries = placed_from log.first log.entries.items; sends = ss } in
      let at : length old.machine.entries ≡ log.first = sym p.between.count ∙ sym p.first in
      ap with_entries (came.placed ∙ ap (λ n. placed_from n came.more) at ∙ ap (placed_from log.first) (sym came_are)) ∙ ap with_sends (sym p.sends)

  does : (k : ℕ) → DoesPart events (part_of old new dones) dones k
  does k = (parts_of_phase old new before.drawer e events before.counts.items dones p.was p.memory (omega (arith, p.long)) k).0

  pub part_done : IsPartDone closed events (did_of log)
  part_done = record {
    all = λ off k. subst (λ part. Does events part k []) part_is (subst (Does events (part_of old new dones) k) ((does k).all (p.through off)) (does k).does);
    some = λ k. record { left = (does k).left; does = subst (λ part. Does events part k (does k).left) part_is (does k).does; stuck = (does k).stuck };
  }

  module _ (phases : List (List (List Event))) (sends : List (List Sent)) (h : IsGoing phases old before.drawer sends before.counts.items) where
    pub room_is : IsPrintablePhase (did_of log)
    room_is =
        let pairs = pairs_more old new before.drawer e events before.counts.items dones sends h.pairs p.was p.memory h.live h.many moved_is in
        record {
          entries = omega (arith, p.first, p.between.count, long_is, p.known.life.few);
          bearers = subst (λ n. n ≤ BEARERS) (sym (ap length p.sends ∙ lines_many)) p.between.few;
          lines = subst (All (All IsShort)) (sym p.sends) (phase_short new.machine.entries new.machine.moves sends (map lines_of dones) pairs.drawns e.looks p.known.life.few pairs.shown (omega (arith, lines_many, h.many)));
        }

    pub going_is : closed ≡ false → IsGoing (phases ++ events ∷ []) left now.drawer (both_of sends (map (λ v. v.items) log.sends.items)) now.counts.items
    going_is off =
        let more = going_more phases old new before.drawer e events before.counts.items dones sends h p.was p.memory p.long moved_is counted_is (p.through off) in
        let lined = subst (λ ls. IsGoing (phases ++ events ∷ []) new e (both_of sends ls) (map (λ x. x.number) dones)) (sym p.sends) more in
        let all = subst (λ cs. IsGoing (phases ++ events ∷ []) new e (both_of sends (map (λ v. v.items) log.sends.items)) cs) (sym p.counts) lined in
        let here = subst (λ d. IsGoing (phases ++ events ∷ []) new d (both_of sends (map (λ v. v.items) log.sends.items)) now.counts.items) (sym p.drawer) all in
        subst (λ n. IsGoing (phases ++ events ∷ []) n now.drawer (both_of sends (map (λ v. v.items) log.sends.items)) now.counts.items) (sym p.taken)
        (going_taken (phases ++ events ∷ []) new now.drawer (both_of sends (map (λ v. v.items) log.sends.items)) now.counts.items here)

    pub over_is : closed ≡ true → (rest : List (List (List Event))) → IsOver (phases ++ events ∷ rest) left now.drawer (both_of sends (map (λ v. v.items) log.sends.items))
    over_is on rest =
        let over = over_by phases old new before.drawer e events before.counts.items dones sends h p.was p.memory p.long moved_is counted_is (p.halted on) rest in
        let lined = subst (λ ls. IsOver (phases ++ events ∷ rest) new e (both_of sends ls)) (sym p.sends) over in
        let here = subst (λ d. IsOver (phases ++ events ∷ rest) new d (both_of sends (map (λ v. v.items) log.sends.items))) (sym p.drawer) lined in
        subst (λ n. IsOver (phases ++ events ∷ rest) n now.drawer (both_of sends (map (λ v. v.items) log.sends.items))) (sym p.taken)
        (over_taken (phases ++ events ∷ rest) new now.drawer (both_of sends (map (λ v. v.items) log.sends.items)) here)

-- a list of one item is that item
pub one_item : {A : Type 0} (xs : List A) (x : A) → length xs ≡ 1 → slice_index_or xs 0 x ∷ [] ≡ xs
one_item [] x one = absurd (omega (arith, one))
one_item (y ∷ []) x one = refl
one_item (y ∷ z ∷ xs) x one = absurd (omega (arith, one))
