-- A life that is held: its phases, and what was told of each.
use Rattle.std.proofs.Common.{◌≡◌, ◌∙◌, ℕ, Bool, true, false, List, [], ◌∷◌, ◌++◌, length, refl, sym, ap, subst, append-nil, append_assoc, arith}
use Rattle.std.specs.Prelude.{replicate}
use Rattle.flash_model.specs.Chip.{Chip}
use Rattle.event_definitions.specs.Role.{Role}
use Rattle.mesh_types.specs.declared.events.Event.{Event}
use Rattle.record_types.specs.declared.records.StoreRecord.{StoreRecord}
use Rattle.run_definitions.specs.Order.{ends}
use Rattle.seq_word.specs.Seen.{DrawerView, NumbersView}
use Rattle.store_definitions.specs.Config.{config_of}
use Rattle.store_definitions.specs.Recovered.{IsRecovered}
use Rattle.locked_node.specs.Node.{NodeView}
use Rattle.locked_node.specs.Stands.{IsNode}
use Rattle.life_laws.specs.Phases.{both_of}
use Rattle.mesh_node.specs.Going.{AreTold, IsGoing, IsOver}
use Rattle.mesh_node.specs.Due.{is_any}
use Rattle.mesh_node.specs.Held.{HeldView, HasLived, given_phases, last_held, told_phases}
use Rattle.mesh_node.specs.Lived.{FellShort, WentOn}
use Rattle.mesh_node.specs.Told.{AreToldEach, BySteps, GivesEach, IsPartDone, PhaseDid, entries_told, sends_told}
use Rattle.mesh_node.proofs.Asking.{due_any}
use Rattle.mesh_node.proofs.Following.{going_first, over_whole}
use Rattle.mesh_node.proofs.Stepping.{length_both}
use Rattle.mesh_node.proofs.Telling.{each_last, each_more, entries_more, placed_more, sends_more}
use Rattle.mesh_node.proofs.Timing.{uncounted}

-- a held life of these
abbrev pub held_view : {F : Type 0} → NodeView F → NumbersView → DrawerView → List ℕ → HeldView F
held_view node numbers drawer counts = record { node = node; numbers = numbers; drawer = drawer; counts = counts }

-- one behind another, each of them
pub all_listed : {A : Type 0} (old xs : List A) → BySteps (λ (front : List A) (x : A) (now : List A). now ≡ front ++ x ∷ []) old xs (old ++ xs)
all_listed old [] = append-nil old
all_listed {A} old (x ∷ xs) = (old ++ x ∷ [], refl, subst (BySteps (λ (front : List A) (y : A) (now : List A). now ≡ front ++ y ∷ []) (old ++ x ∷ []) xs) (append_assoc old (x ∷ []) xs) (all_listed (old ++ x ∷ []) xs))

-- each of the phases that the owner gave, of which it was told no number
abbrev no_dues : List (List (List Event)) → List ℕ
no_dues [] = []
no_dues (p ∷ phases) = 0 ∷ no_dues phases

all_given : (bearers elements : ℕ) (old phases : List (List (List Event))) → GivesEach given_phases bearers elements old (no_dues phases) phases (old ++ phases)
all_given bearers elements old [] = append-nil old
all_given bearers elements old (p ∷ phases) =
    (old ++ p ∷ [], refl, subst (GivesEach given_phases bearers elements (old ++ p ∷ []) (no_dues phases) phases) (append_assoc old (p ∷ []) phases) (all_given bearers elements (old ++ p ∷ []) phases))

module _ {F : Type 0} (role : Role) (image : List ℕ → Type 0) (chip : F → Chip) where
  -- before the first phase
  pub held_first : (life : HeldView F) (over : List StoreRecord) → IsRecovered (chip life.node.start).now over → (config_of over).reset ≡ false → life.numbers.opened ≡ (config_of over).mark → IsNode role image chip life.node
      → life.node.machine.entries ≡ [] → life.node.machine.taken ≡ length life.node.machine.entries → life.node.stops ≡ 0 → life.drawer.drawn ≡ [] → life.counts ≡ replicate 1 0 → HasLived role image chip life [] []
  held_first life over read runs opened known none taken live drawn zeros =
      let going : IsGoing [] life.node life.drawer (sends_told 1 []) life.counts = going_first life.node life.drawer 1 (sends_told 1 []) life.counts none (uncounted role image chip life.node known none) live drawn refl zeros in
      record {
        over = over;
        read = read;
        runs = runs;
        opened = opened;
        known = known;
        told = record { entries_are = none; taken = taken };
        placed = tt;
        each = record { count = refl; parts = ends };
        many = refl;
        ordered = over_whole [] life.node life.drawer (sends_told 1 []) life.counts going;
        going = λ off. going;
        through = λ off. record { before = λ is_cut rest tail more. more };
      }

  module _ (life : HeldView F) (phases : List (List (List Event))) (did : List PhaseDid) (h : HasLived role image chip life phases did) where
    -- behind one phase more
    module _ (usable : life.node.machine.closed ≡ false) (next : HeldView F) (events : List (List Event)) (d : PhaseDid) (closed : Bool) (is : closed ≡ next.node.machine.closed)
        (start : next.node.start ≡ life.node.start) (numbers : next.numbers ≡ life.numbers) (known : IsNode role image chip next.node) (first : d.first ≡ length life.node.machine.entries) (size : length d.sends ≡ 1)
        (part : IsPartDone closed events d) (told : AreTold (entries_told did ++ d.entries) next.node)
        (going : closed ≡ false → IsGoing (phases ++ events ∷ []) next.node next.drawer (both_of (sends_told 1 did) d.sends) next.counts)
        (over : closed ≡ true → IsOver (phases ++ events ∷ []) next.node next.drawer (both_of (sends_told 1 did) d.sends)) where
      sends_are : both_of (sends_told 1 did) d.sends ≡ sends_told 1 (did ++ d ∷ [])
      sends_are = sym (sends_more (replicate 1 []) did d)

      over_all : (b : Bool) → closed ≡ b → IsOver (phases ++ events ∷ []) next.node next.drawer (sends_told 1 (did ++ d ∷ []))
      over_all true on = subst (IsOver (phases ++ events ∷ []) next.node next.drawer) sends_are (over on)
      over_all false off = subst (IsOver (phases ++ events ∷ []) next.node next.drawer) sends_are
          (over_whole (phases ++ events ∷ []) next.node next.drawer (both_of (sends_told 1 did) d.sends) next.counts (going off))

      pub held_more : HasLived role image chip next (phases ++ events ∷ []) (did ++ d ∷ [])
      held_more = record {
        over = h.over;
        read = subst (λ (s : F). IsRecovered (chip s).now h.over) (sym start) h.read;
        runs = h.runs;
        opened = ap (λ n. n.opened) numbers ∙ h.opened;
        known = known;
        told = subst (λ es. AreTold es next.node) (sym (entries_more did d)) told;
        placed = placed_more 0 did d h.placed (first ∙ ap length h.told.entries_are ∙ omega arith);
        each = each_last closed phases events did d h.each.count (h.through usable) part next.node.machine.closed is;
        many = ap length (sym sends_are) ∙ length_both (sends_told 1 did) d.sends (h.many ∙ sym size) ∙ h.many;
        ordered = over_all closed refl;
        going = λ off. subst (λ ss. IsGoing (phases ++ events ∷ []) next.node next.drawer ss next.counts) sends_are (going (is ∙ off));
        through = λ off. each_more phases events did d (h.through usable) (part.all (is ∙ off));
      }

    -- Memory ran out in a phase of these events.
    pub held_short : (usable : life.node.machine.closed ≡ false) (events : List (List Event)) → FellShort role is_any given_phases told_phases [] (phases ++ events ∷ []) [] did 1 (chip life.node.start)
    held_short usable events = record {
      phases = phases;
      in_hand = events ∷ [];
      one = omega arith;
      did = did;
      dues = no_dues (phases ++ events ∷ []);
      gave = all_given 1 (config_of h.known.over).elements [] (phases ++ events ∷ []);
      due = due_any [] (no_dues (phases ++ events ∷ [])) did;
      took = all_listed [] did;
      placed = h.placed;
      each = subst (λ b. AreToldEach b phases did) usable h.each;
      over = h.known.over;
      recovered = h.known.read;
      told = h.known.life.told;
      entries = h.known.life.entries ∙ h.told.entries_are;
      handled = h.known.life.handled;
    }

    -- its owner has no phase more
    pub held_went : (b : Bool) → life.node.machine.closed ≡ b → WentOn is_any given_phases told_phases [] phases [] did 1 life.node life.drawer life.node.flash (last_held b) life.node.machine.closed
    held_went true on = record {
      phases = phases;
      did = did;
      dues = no_dues phases;
      gave = all_given 1 life.node.machine.elements [] phases;
      due = due_any [] (no_dues phases) did;
      took = all_listed [] did;
      over = h.ordered;
      told = h.told;
      placed = h.placed;
      each = h.each;
      many = h.many;
      end = on;
      idle = λ none. refl;
    }
    held_went false off = record {
      phases = phases;
      did = did;
      dues = no_dues phases;
      gave = (phases, all_given 1 life.node.machine.elements [] phases, refl);
      due = due_any [] (no_dues phases) did;
      took = all_listed [] did;
      over = h.ordered;
      told = h.told;
      placed = h.placed;
      each = h.each;
      many = h.many;
      end = off;
      idle = λ none. refl;
    }

    -- its writes were handed out
    pub held_handed : (flash : F) → IsNode role image chip (record life.node { flash = flash }) → HasLived role image chip (record life { node = record life.node { flash = flash } }) phases did
    held_handed flash known = record {
      over = h.over;
      read = h.read;
      runs = h.runs;
      opened = h.opened;
      known = known;
      told = record { entries_are = h.told.entries_are; taken = h.told.taken };
      placed = h.placed;
      each = h.each;
      many = h.many;
      ordered = record { ends = h.ordered.ends; ordered = h.ordered.ordered; numbers = h.ordered.numbers; pairs = h.ordered.pairs; timed = h.ordered.timed; next = h.ordered.next; hand = h.ordered.hand };
      going = λ off. let going = h.going off in record { ends = going.ends; done = going.done; pairs = going.pairs; timed = going.timed; handled = going.handled; live = going.live; many = going.many };
      through = h.through;
    }
