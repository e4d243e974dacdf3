-- One phase more.
use Rattle.std.proofs.Common.{◌≡◌, ◌∙◌, ℕ, suc, ◌+◌, ◌≤◌, Bool, true, List, [], ◌∷◌, ◌++◌, length, map, refl, sym, ap, subst, arith, append-nil, append_assoc, length-append}
use Rattle.std.specs.Prelude.{◌==◌}
use Rattle.std.specs.List.{flat_map, range_with_len}
use Rattle.std.proofs.lemmas.Grind.{flat_map-append}
use Rattle.std.proofs.lemmas.List.{length-map, map-append}
use Rattle.std.proofs.lemmas.List.Elements.{filter-append}
use Rattle.mesh_types.specs.declared.events.Event.{Event}
use Rattle.mesh_types.specs.declared.history.Entry.{Entry}
use Rattle.mesh_types.specs.declared.history.Sent.{Sent}
use Rattle.report_definitions.specs.Record.{list_at}
use Rattle.run_definitions.specs.Order.{Does, Part, Placed, PartsOf, broken, of_bearer, placed_from, whole}
use Rattle.run_definitions.specs.Order as order
use Rattle.seq_word.specs.Seen.{DrawerView}
use Rattle.locked_node.specs.Node.{NodeView}
use Rattle.node_phase.specs.declared.bearers.Done.{Done}
use Rattle.node_phase.specs.Part.{AreThrough, HadMemory, lines_of, number_at, part_of}
use Rattle.node_phase.specs.Worked.{WasPhase}
use Rattle.node_phase.proofs.Parting.{parts_of_phase}
use Rattle.life_laws.specs.Phases.{AreDone, AreNumbered, AreOrdered, FallInto, PhasesDone, both_of, ends_of, entries_by}
use Rattle.life_laws.proofs.Placing.{CameTo, came_to, list_at_both, numbers_of, of_bearer_from, placed_append, range_append}

pub none_done : (sends : List (List Sent)) (counts : List ℕ) → ((k : ℕ) → list_at sends k ≡ []) → ((k : ℕ) → number_at counts k ≡ 0) → AreDone [] [] sends counts []
none_done sends counts empty zeros = record {
  parts = [];
  ends_are = refl;
  done = record { before = λ is_cut rest tail h. h };
  fall = record { entries_are = refl; sends_are = empty };
  numbered = λ k. record { numbers = refl; count = zeros k };
}

-- the parts of phases that are through are whole
pub all_parts : (is_cut : Bool) (phases : List (List (List Event))) (parts : List Part) → PhasesDone phases parts → PartsOf is_cut phases parts
all_parts is_cut phases parts h =
    subst (PartsOf is_cut phases) (append-nil parts) (subst (λ ps. PartsOf is_cut ps (parts ++ [])) (append-nil phases) (h.before is_cut [] [] order.ends))

-- one part more ends behind its entries
ends_more : (n : ℕ) (parts : List Part) (part : Part) → ends_of n (parts ++ part ∷ []) ≡ ends_of n parts ++ (n + length (flat_map (λ (p : Part). p.entries) (parts ++ part ∷ []))) ∷ []
ends_more n [] part = ap (λ m. (n + m) ∷ []) (ap length (sym (append-nil part.entries)))
ends_more n (p ∷ parts) part =
    ap (λ l. (n + length p.entries) ∷ l) (ends_more (n + length p.entries) parts part
    ∙ ap (λ m. ends_of (n + length p.entries) parts ++ m ∷ [])
    (omega (arith, length-append p.entries (flat_map (λ (q : Part). q.entries) (parts ++ part ∷ [])))))

length_placed : (n : ℕ) (entries : List Entry) → length (placed_from n entries) ≡ length entries
length_placed n [] = refl
length_placed n (e ∷ entries) = ap suc (length_placed (n + 1) entries)

pub ordered : (is_cut : Bool) (phases : List (List (List Event))) (entries : List Entry) (sends : List (List Sent)) (counts ends : List ℕ) → AreDone phases entries sends counts ends → AreOrdered is_cut phases entries sends ends
ordered is_cut phases entries sends counts ends h = record {
  parts = h.parts;
  ends_are = h.ends_are;
  fall = h.fall;
  parts_are = all_parts is_cut phases h.parts h.done;
}

module _ {F : Type 0} (phases : List (List (List Event))) (old new : NodeView F) (d e : DrawerView) (events : List (List Event)) (counts ends : List ℕ) (dones : List Done) (sends : List (List Sent))
    (h : AreDone phases old.machine.entries sends counts ends) (w : WasPhase old new d e events counts dones) (memory : HadMemory dones) (few : length events ≤ length counts) (none : old.stops ≡ 0) where
  abbrev part : Part
  part = part_of old new dones

  abbrev came : CameTo old new
  came = came_to old new none w.front

  from_zero : 0 + length old.machine.entries ≡ length old.machine.entries
  from_zero = omega arith

  pub fall_more : FallInto new.machine.entries (both_of sends (map lines_of dones)) (h.parts ++ part ∷ [])
  fall_more = record {
    entries_are =
        ap (placed_from 0) came.is ∙ placed_append 0 old.machine.entries came.more ∙ ap (λ n. placed_from 0 old.machine.entries ++ placed_from n came.more) from_zero
        ∙ ap (λ l. l ++ placed_from (length old.machine.entries) came.more) h.fall.entries_are ∙ ap (λ l. flat_map (λ p. p.entries) h.parts ++ l) (sym came.placed)
        ∙ ap (λ l. flat_map (λ p. p.entries) h.parts ++ l) (sym (append-nil part.entries)) ∙ sym (flat_map-append (λ (p : Part). p.entries) h.parts (part ∷ []));
    sends_are = λ k.
        list_at_both sends (map lines_of dones) k ∙ ap (λ l. l ++ list_at part.sends k) (h.fall.sends_are k)
        ∙ ap (λ l. flat_map (λ p. list_at p.sends k) h.parts ++ l) (sym (append-nil (list_at part.sends k))) ∙ sym (flat_map-append (λ (p : Part). list_at p.sends k) h.parts (part ∷ []));
  }

  pub ends_behind : ends ++ length new.machine.entries ∷ [] ≡ ends_of 0 (h.parts ++ part ∷ [])
  ends_behind =
      let all = flat_map (λ (p : Part). p.entries) (h.parts ++ part ∷ []) in
      let total : length new.machine.entries ≡ 0 + length all = omega (arith, length_placed 0 new.machine.entries, ap length fall_more.entries_are) in
      ap (λ l. l ++ length new.machine.entries ∷ []) h.ends_are ∙ ap (λ m. ends_of 0 h.parts ++ m ∷ []) total ∙ sym (ends_more 0 h.parts part)

  pub numbered_more : (k : ℕ) → AreNumbered new.machine.entries (map (λ x. x.number) dones) k
  numbered_more k =
      let before = h.numbered k in
      let p = (parts_of_phase old new d e events counts dones w memory few k).1 in
      let mine = of_bearer k part.entries in
      let m = length (entries_by k old.machine.entries) in
      let by_k : entries_by k new.machine.entries ≡ entries_by k old.machine.entries ++ entries_by k came.more =
      ap (entries_by k) came.is ∙ filter-append (λ (x : Entry). x.bearer == k) old.machine.entries came.more in
      let more : map (λ (q : Placed). q.entry) mine ≡ entries_by k came.more =
      ap (λ l. map (λ (q : Placed). q.entry) (of_bearer k l)) came.placed ∙ of_bearer_from k (length old.machine.entries) came.more in
      let long : length mine ≡ length (entries_by k came.more) = sym (length-map mine (λ (q : Placed). q.entry)) ∙ ap length more in
      let numbers : map (λ (x : Entry). x.number) (entries_by k came.more) ≡ range_with_len (1 + m) (length (entries_by k came.more)) =
      ap (map (λ (x : Entry). x.number)) (sym more) ∙ sym (numbers_of mine) ∙ p.numbers
      ∙ ap (λ n. range_with_len (n + 1) (length mine)) before.count ∙ ap (λ n. range_with_len n (length mine)) (omega arith) ∙ ap (range_with_len (1 + m)) long in
      let total : length (entries_by k new.machine.entries) ≡ m + length (entries_by k came.more) = ap length by_k ∙ length-append (entries_by k old.machine.entries) (entries_by k came.more) in
      record {
        numbers =
            ap (map (λ x. x.number)) by_k ∙ map-append (λ (x : Entry). x.number) (entries_by k old.machine.entries) (entries_by k came.more)
            ∙ ap (λ l. l ++ map (λ x. x.number) (entries_by k came.more)) before.numbers ∙ ap (λ l. range_with_len 1 m ++ l) numbers
            ∙ sym (range_append 1 m (length (entries_by k came.more))) ∙ ap (range_with_len 1) (sym total);
        count = omega (arith, p.count, before.count, long, total);
      }

  pub done_more : AreThrough dones → AreDone (phases ++ events ∷ []) new.machine.entries (both_of sends (map lines_of dones)) (map (λ x. x.number) dones) (ends ++ length new.machine.entries ∷ [])
  done_more through = record {
    parts = h.parts ++ part ∷ [];
    ends_are = ends_behind;
    done = record {
      before = λ is_cut rest tail more.
          let all : (k : ℕ) → Does events part k [] = λ k. let q = (parts_of_phase old new d e events counts dones w memory few k).0 in subst (Does events part k) (q.all through) q.does in
          subst (λ ps. PartsOf is_cut ps ((h.parts ++ part ∷ []) ++ tail)) (sym (append_assoc phases (events ∷ []) rest))
          (subst (PartsOf is_cut (phases ++ events ∷ rest)) (sym (append_assoc h.parts (part ∷ []) tail)) (h.done.before is_cut (events ∷ rest) (part ∷ tail) (whole all more)));
    };
    fall = fall_more;
    numbered = numbered_more;
  }

  pub broken_off : (rest : List (List (List Event))) → AreOrdered true (phases ++ events ∷ rest) new.machine.entries (both_of sends (map lines_of dones)) (ends ++ length new.machine.entries ∷ [])
  broken_off rest = record {
    parts = h.parts ++ part ∷ [];
    ends_are = ends_behind;
    fall = fall_more;
    parts_are = h.done.before true (events ∷ rest) (part ∷ []) (broken (λ k. let q = (parts_of_phase old new d e events counts dones w memory few k).0 in record { left = q.left; does = q.does; stuck = q.stuck }));
  }
