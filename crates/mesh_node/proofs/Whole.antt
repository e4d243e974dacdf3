-- A life that went on is one of the phases that came, with what was told of them.
use Rattle.std.proofs.Common.{◌≡◌, ◌∙◌, ap, ℕ, ◌<◌, ◌≤◌, Bool, false, List, length, map, refl, sym, subst, arith}
use Rattle.std.specs.Prelude.{◌^◌, All}
use Rattle.flash_model.specs.Chip.{Chip}
use Rattle.mesh_types.specs.declared.history.Entry.{Entry}
use Rattle.mesh_types.specs.declared.report.End.{End}
use Rattle.record_types.specs.declared.records.StoreRecord.{StoreRecord}
use Rattle.report_definitions.specs.Record.{list_at}
use Rattle.event_definitions.specs.Role.{Role}
use Rattle.run_definitions.specs.Order.{Step, is_cut, phase, phases_of}
use Rattle.seq_word.specs.Rule.{IsEndOf, IsWithin, times}
use Rattle.seq_word.specs.Seen.{ClosedView, DrawerView}
use Rattle.store_definitions.specs.Config.{config_of}
use Rattle.store_definitions.specs.Recovered.{IsRecovered}
use Rattle.locked_node.specs.Asked.{AreAsked}
use Rattle.locked_node.specs.Node.{NodeView}
use Rattle.locked_node.specs.Stands.{HasMachine, IsLater, IsNode}
use Rattle.machine_contract.specs.Moved.{HasMoved}
use Rattle.machine_contract.specs.Opening.{FlashFound, found_of}
use Rattle.machine_contract.specs.Standing.{IsLifeSoFar}
use Rattle.machine_contract.specs.View.{MachineView}
use Rattle.mesh_node.specs.Given.{Stood}
use Rattle.life_laws.specs.Hands.{HoldsNext}
use Rattle.life_laws.specs.Pairs.{IsFromMove, IsUntilMove, PairsSo}
use Rattle.life_laws.proofs.Pairing.{from_all}
use Rattle.mesh_node.specs.Going.{IsOver}
use Rattle.mesh_node.specs.Lived.{IsLifeTold, LivedOn, WentOn, life_told}
use Rattle.mesh_node.specs.Timed.{IsTimed}
use Rattle.mesh_node.specs.Told.{HasGiven, SinkSteps, SourceSteps, sends_told}
use Rattle.mesh_node.specs.declared.told.LastStep.{LastStep}
use Rattle.mesh_node.specs.Left.{Closes, HasLeft}
use Rattle.mesh_node.proofs.Drawn.{tells_words}
use Rattle.mesh_node.proofs.Ending.{each_life, holds_next}
use Rattle.mesh_node.proofs.Printing.{sends_short}
use Rattle.mesh_node.proofs.Telling.{phases_are}
use Rattle.mesh_node.proofs.Timing.{timed_of}

module _ {M F S T : Type 0} (view : M → MachineView) (stands : FlashFound → Chip → List StoreRecord → M → Type 0) (role : Role) (image : List ℕ → Type 0) (chip : F → Chip) (IsDue : List Entry → ℕ → Type 0) (source : SourceSteps S) (sink : SinkSteps T) (from to : S) (began now : T) (bearers : ℕ) (few : bearers ≤ 8)
    (start : F) (node : NodeView F) (d : DrawerView) (opened : F) (last : LastStep) (went : WentOn IsDue source sink from to began now bearers node d opened last node.machine.closed)
    (one : (rs ss : List StoreRecord) → IsRecovered (chip start).now rs → IsRecovered (chip start).now ss → rs ≡ ss)
    (begun : List StoreRecord) (read : IsRecovered (chip start).now begun) (runs : (config_of begun).reset ≡ false)
    (h : IsNode role image chip node) (is_start : node.start ≡ start) (closed : ClosedView) (first : ℕ) (order : closed.next ≤ closed.mark) (marks : closed.mark ≡ node.machine.mark) (firsts : first ≡ (config_of begun).mark)
    (since : All (λ x. first ≤ x) d.drawn) (below : All (λ x. x < closed.next) d.drawn) (once : (x : ℕ) → times x d.drawn ≤ 1) (seen : All (IsWithin closed.next closed.mark) d.looks)
    (closes : Closes d closed first) (held : HasMachine stands view chip node)
    (moved : (over : List StoreRecord) → IsRecovered (chip start).now over → node.machine.closed ≡ false → HasMoved role over node.machine.entries node.machine.fills closed.advances) where
  begun_is : begun ≡ h.over
  begun_is = one begun h.over read (subst (λ s. IsRecovered (chip s).now h.over) is_start h.read)

  plan : List Step
  plan = map phase went.phases

  over : IsOver (phases_of (map phase went.phases)) node d (sends_told bearers went.did)
  over = subst (λ ps. IsOver ps node d (sends_told bearers went.did)) (sym (phases_are went.phases)) went.over

  one_life : (end : End) → is_cut end ≡ node.machine.closed → IsLifeTold role went.phases h.over (life_told h.over bearers node.machine.fills went.did end) (chip node.flash) closed
  one_life end cut =
      let l = life_told h.over bearers node.machine.fills went.did end in
      let entries : l.entries ≡ node.machine.entries = sym went.told.entries_are in
      let pairs : PairsSo l.entries node.machine.moves l.sends d = subst (λ es. PairsSo es node.machine.moves (sends_told bearers went.did) d) (sym entries) went.over.pairs in
      record {
        life = each_life role image chip (map phase went.phases) node d (sends_told bearers went.did) l h over entries refl refl cut
            (subst (λ o. (config_of o).reset ≡ false) begun_is runs) refl closed.next closed.mark order marks
            (subst (λ o. All (λ x. (config_of o).mark ≤ x) d.drawn) begun_is (subst (λ m. All (λ x. m ≤ x) d.drawn) firsts since)) below once seen
            (subst (λ m. All (IsEndOf m d.drawn) d.looks) (firsts ∙ ap (λ o. (config_of o).mark) begun_is) closes.ends);
        printable = record {
          entries = subst (λ (es : List Entry). length es < 2 ^ 32) (sym entries) h.life.few;
          bearers = omega (arith, went.many, few);
          lines = sends_short node.machine.entries node.machine.moves (sends_told bearers went.did) went.over.pairs.drawns d.looks h.life.few went.over.pairs.shown;
        };
        drawn = tells_words l node.machine.moves d closed refl (subst (Closes d closed) (firsts ∙ ap (λ o. (config_of o).mark) begun_is) closes) pairs
            (subst (λ (es : List Entry). AreAsked es node.machine.fills) (sym entries) h.asked);
      }

  held_over : held.over ≡ h.over
  held_over = one held.over h.over (subst (λ s. IsRecovered (chip s).now held.over) is_start held.read) (subst (λ o. IsRecovered (chip start).now o) begun_is read)

  pub lived : LivedOn (Stood view (stands (found_of (chip start))) chip node.flash) role image IsDue source sink from to began now bearers (chip start) (chip node.flash) opened node.flash node.machine.fills closed node.machine.closed last
  lived = record {
    phases = went.phases;
    did = went.did;
    dues = went.dues;
    gave = subst (λ n. HasGiven source bearers n last from went.dues went.phases to) h.life.elements went.gave;
    due = went.due;
    took = went.took;
    placed = went.placed;
    each = went.each;
    end = went.end;
    idle = went.idle;
    over = h.over;
    recovered = subst (λ o. IsRecovered (chip start).now o) begun_is read;
    life = one_life;
    node = h.life.node;
    later = subst (λ s. IsLater (chip s) (chip node.flash)) is_start h.later;
    cause = λ is. h.life.failed is;
    no_fault = λ off. subst (λ s. (chip node.flash).faults ≡ (chip s).faults) is_start (h.no_fault off);
    all = record {
      machine = node.machine;
      stood = (held.machine, held.shows, subst (λ o. stands (found_of (chip start)) (chip node.flash) o held.machine) held_over (subst (λ s. stands (found_of (chip s)) (chip node.flash) held.over held.machine) is_start held.tie));
      entries = went.told.entries_are;
      fills = refl;
      is_closed = refl;
    };
    paid = subst (λ s. IsLifeSoFar role image (found_of (chip s)) (chip node.flash) h.over node.machine) is_start h.life;
    moved = λ runs. subst (λ (l : List Entry). HasMoved role h.over l node.machine.fills closed.advances) went.told.entries_are
        (moved h.over (subst (λ o. IsRecovered (chip start).now o) begun_is read) runs);
    from = subst (λ (l : List Entry). All (All (IsFromMove l node.machine.moves)) (sends_told bearers went.did)) went.told.entries_are
        (from_all node.machine.entries node.machine.moves (sends_told bearers went.did) went.over.pairs.drawns d.looks went.over.pairs.shown);
    until = subst (λ (l : List Entry). (k : ℕ) → All (IsUntilMove k l node.machine.moves) (list_at (sends_told bearers went.did) k)) went.told.entries_are went.over.pairs.until;
    timed = subst (λ (l : List Entry). IsTimed node.machine.closed went.phases (config_of h.over).mark l node.machine.moves (sends_told bearers went.did)) went.told.entries_are
        (timed_of role image chip went.phases node d (sends_told bearers went.did) h went.over);
    hand = subst (λ (l : List Entry). HoldsNext went.phases l (sends_told bearers went.did) node.machine) went.told.entries_are (holds_next role image chip went.phases node d (sends_told bearers went.did) h went.over);
  }

-- the same, by what is left of it
pub lived_left : {M F S T : Type 0} (view : M → MachineView) (stands : FlashFound → Chip → List StoreRecord → M → Type 0) (role : Role) (image : List ℕ → Type 0) (chip : F → Chip) (IsDue : List Entry → ℕ → Type 0) (source : SourceSteps S) (sink : SinkSteps T) (from to : S) (began now : T) (bearers : ℕ) → bearers ≤ 8
    → (node : NodeView F) (d : DrawerView) (first : ℕ) (opened : F) (last : LastStep) (flash : F) (refills : ℕ) (drawn : ClosedView) (closed : Bool) → HasLeft view stands role image chip node first d flash refills drawn closed
    → WentOn IsDue source sink from to began now bearers node d opened last node.machine.closed → (over : List StoreRecord) → IsRecovered (chip node.start).now over → (config_of over).reset ≡ false → first ≡ (config_of over).mark
    → LivedOn (Stood view (stands (found_of (chip node.start))) chip flash) role image IsDue source sink from to began now bearers (chip node.start) (chip flash) opened flash refills drawn closed last
lived_left view stands role image chip IsDue source sink from to began now bearers few node d first opened last flash refills drawn closed h went over read runs firsts =
    let whole = lived view stands role image chip IsDue source sink from to began now bearers few node.start node d opened last went h.one over read runs h.known refl drawn first h.order h.mark firsts
    h.closes.since h.below h.once h.seen h.closes h.stood h.moved in
    subst (λ f. LivedOn (Stood view (stands (found_of (chip node.start))) chip f) role image IsDue source sink from to began now bearers (chip node.start) (chip f) opened f refills drawn closed last) (sym h.flash_is)
    (subst (λ n. LivedOn (Stood view (stands (found_of (chip node.start))) chip node.flash) role image IsDue source sink from to began now bearers (chip node.start) (chip node.flash) opened node.flash n drawn closed last) (sym h.refills_are)
    (subst (λ b. LivedOn (Stood view (stands (found_of (chip node.start))) chip node.flash) role image IsDue source sink from to began now bearers (chip node.start) (chip node.flash) opened node.flash node.machine.fills drawn b last) (sym h.closed_is) whole))
