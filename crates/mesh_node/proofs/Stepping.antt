-- A life with one phase more.
use Rattle.std.proofs.Common.{◌≡◌, ◌∙◌, ℕ, suc, ◌≤◌, List, [], ◌∷◌, ◌++◌, length, map, Option, Some, None, refl, sym, ap, subst, arith, append-nil}
use Rattle.std.specs.Option.{option_map}
use Rattle.flash_model.specs.Chip.{Arm, Chip}
use Rattle.locked_node.specs.declared.marks.Armed.{Armed}
use Rattle.std.proofs.lemmas.List.{length-map}
use Rattle.mesh_types.specs.declared.events.Event.{Event}
use Rattle.mesh_types.specs.declared.history.Entry.{Entry}
use Rattle.mesh_types.specs.declared.history.Sent.{Sent}
use Rattle.seq_word.specs.Seen.{DrawerView}
use Rattle.locked_node.specs.Node.{NodeView, armed_by, origin_of}
use Rattle.node_phase.specs.declared.bearers.Done.{Done}
use Rattle.node_phase.specs.Part.{AreThrough, HadMemory, lines_of}
use Rattle.node_phase.specs.Worked.{WasPhase, done_of}
use Rattle.life_laws.specs.Phases.{AreOrdered, both_of}
use Rattle.life_laws.specs.Stopped.{HasStopped}
use Rattle.life_laws.proofs.Ordering.{broken_off, done_more, numbered_more}
use Rattle.life_laws.proofs.Pairing.{pairs_more}
use Rattle.life_laws.proofs.Handing.{handled_more, in_hand, next_in}
use Rattle.life_laws.proofs.Stopping.{none_stopped, some_stopped}
use Rattle.life_laws.proofs.Timing.{times_more}
use Rattle.mesh_node.specs.Going.{AreTold, IsBetween, IsGoing, IsOver}
use Rattle.mesh_node.specs.declared.phases.Seats.{Seats}
use Rattle.mesh_node.specs.Steps.{IsSameNode}

pub length_both : {A : Type 0} (xs ys : List (List A)) → length xs ≡ length ys → length (both_of xs ys) ≡ length xs
length_both [] [] e = refl
length_both [] (y ∷ ys) e = absurd (omega (arith, e))
length_both (x ∷ xs) [] e = refl
length_both (x ∷ xs) (y ∷ ys) e = ap suc (length_both xs ys (omega (arith, e)))

module _ {F : Type 0} (phases : List (List (List Event))) (old new : NodeView F) (d e : DrawerView) (events : List (List Event)) (counts : List ℕ) (dones : List Done) (sends : List (List Sent))
    (h : IsGoing phases old d sends counts) (w : WasPhase old new d e events counts dones) (memory : HadMemory dones) (few : length events ≡ length counts)
    (moved : length new.machine.moves ≡ length new.machine.entries) (counted : length new.counters ≡ length new.machine.entries) where
  at_most : length events ≤ length counts
  at_most = omega (arith, few)

  pub dones_long : length dones ≡ length counts
  dones_long = ap length w.left ∙ length-map w.bearers done_of ∙ w.long ∙ sym (length-map w.before (λ b. b.number)) ∙ ap length w.numbers

  pub going_more : AreThrough dones → IsGoing (phases ++ events ∷ []) new e (both_of sends (map lines_of dones)) (map (λ x. x.number) dones)
  going_more through = record {
    ends = h.ends ++ length new.machine.entries ∷ [];
    done = done_more phases old new d e events counts h.ends dones sends h.done w memory at_most h.live through;
    pairs = pairs_more old new d e events counts dones sends h.pairs w memory h.live h.many moved;
    timed = times_more old new d e events counts h.ends dones sends h.timed h.pairs w memory h.live h.many moved counted;
    handled = handled_more old new d e events counts dones w memory at_most h.live phases h.handled through;
    live = none_stopped old new d e events counts dones w h.live through;
    many = length_both sends (map lines_of dones) (omega (arith, h.many, dones_long, length-map dones lines_of)) ∙ omega (arith, h.many, dones_long, length-map dones (λ (x : Done). x.number));
  }

  pub over_by : HasStopped dones → (rest : List (List (List Event))) → IsOver (phases ++ events ∷ rest) new e (both_of sends (map lines_of dones))
  over_by stopped rest =
      let some = some_stopped old new d e events counts dones w h.live stopped in
      record {
        ends = h.ends ++ length new.machine.entries ∷ [];
        ordered = λ is_cut cut. subst (λ b. AreOrdered b (phases ++ events ∷ rest) new.machine.entries (both_of sends (map lines_of dones)) (h.ends ++ length new.machine.entries ∷ [])) (sym (cut some))
            (broken_off phases old new d e events counts h.ends dones sends h.done w memory at_most h.live rest);
        numbers = λ k. (numbered_more phases old new d e events counts h.ends dones sends h.done w memory at_most h.live k).numbers;
        pairs = pairs_more old new d e events counts dones sends h.pairs w memory h.live h.many moved;
        timed = times_more old new d e events counts h.ends dones sends h.timed h.pairs w memory h.live h.many moved counted;
        next = λ more event hand out. next_in old new d e events counts dones w memory at_most h.live phases h.handled more event hand out rest;
        hand = λ more event hand out. in_hand old new d e events counts dones w memory at_most h.live phases sends h.ends h.done more event hand out rest;
      }

-- the order that a flash was given, as the origin tells it
arm_same : (a b : Option Arm) → option_map armed_by a ≡ option_map armed_by b → a ≡ b
arm_same None None e = refl
arm_same None (Some b) e = cc
arm_same (Some a) None e = cc
arm_same (Some a) (Some b) e =
    let armed : armed_by a ≡ armed_by b = cc in
    ap Some (ap (λ (x : Armed). record { calls = x.calls; mask = x.mask; changes = x.changes }) armed)

module _ {F : Type 0} (chip : F → Chip) (old new : NodeView F) (origin : origin_of chip new ≡ origin_of chip old) where
  pub same_node : IsSameNode old new
  same_node = record { start = ap (λ o. o.start) origin; which = ap (λ o. o.numbers.which) origin; elements = ap (λ o. o.elements) origin }

  pub same_arm : (chip new.flash).setting.arm ≡ (chip old.flash).setting.arm
  same_arm = arm_same (chip new.flash).setting.arm (chip old.flash).setting.arm (ap (λ o. o.arm) origin)

  pub same_saved : ((chip new.flash).setting.saved ≡ (chip old.flash).setting.saved) × ((chip new.flash).setting.moment ≡ (chip old.flash).setting.moment)
  same_saved = (ap (λ o. o.saved) origin, ap (λ o. o.moment) origin)

  pub same_called : (chip new.flash).setting.called ≡ (chip old.flash).setting.called
  same_called = ap (λ o. o.called) origin

  pub same_programmed : (chip new.flash).setting.programmed ≡ (chip old.flash).setting.programmed
  same_programmed = ap (λ o. o.programmed) origin

-- another flash makes no other node
pub other_flash : {F : Type 0} (old new : NodeView F) (flash : F) → new ≡ record old { flash = flash } → IsSameNode old new
other_flash old new flash frame = record { start = ap (λ v. v.start) frame; which = ap (λ v. v.machine.which) frame; elements = ap (λ v. v.machine.elements) frame }

-- it changes nothing of a life so far
pub going_with : {F : Type 0} (phases : List (List (List Event))) (node : NodeView F) (flash : F) (d : DrawerView) (sends : List (List Sent)) (counts : List ℕ) → IsGoing phases node d sends counts
    → IsGoing (phases ++ []) (record node { flash = flash }) d sends counts
going_with phases node flash d sends counts h =
    subst (λ ps. IsGoing ps (record node { flash = flash }) d sends counts) (sym (append-nil phases)) (record { ends = h.ends; done = h.done; pairs = h.pairs; timed = h.timed; handled = h.handled; live = h.live; many = h.many })

pub told_with : {F : Type 0} (entries : List Entry) (node : NodeView F) (flash : F) → AreTold entries node → AreTold entries (record node { flash = flash })
told_with entries node flash h = record { entries_are = h.entries_are; taken = h.taken }

pub between_with : {F M Reader Reading : Type 0} (seats : Seats M Reader Reading) (node : NodeView F) (flash : F) → IsBetween seats node → IsBetween seats (record node { flash = flash })
between_with seats node flash h = record { made = h.made; draws = h.draws; parts = h.parts; free = h.free; few = h.few; live = h.live; taken = h.taken; count = h.count }
