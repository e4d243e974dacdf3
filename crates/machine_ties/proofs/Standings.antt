-- A node is a kind of machine, and an event stores what a node's layers say.
use Rattle.std.proofs.Common.{◌≡◌, ℕ, true, false, List, [], ◌∷◌, ◌++◌, refl, sym, subst, true≢false}
use Rattle.std.specs.Prelude.{All}
use Rattle.std.proofs.lemmas.List.Elements.{All-from_recursion}
use Rattle.element_models.specs.Models.{over as over_records}
use Rattle.event_definitions.specs.Answers.{answer_of}
use Rattle.event_definitions.specs.History.{Insight, Past, Told}
use Rattle.event_definitions.specs.Readings.{Sees}
use Rattle.event_definitions.specs.Role.{node_role}
use Rattle.event_definitions.specs.Stores.{stores}
use Rattle.event_plans.specs.Memory.{AreNodeTablesOf, NodeTablesView}
use Rattle.event_plans.specs.Plans.{IsStanding}
use Rattle.machine_standing.proofs.Fronts.{all_ranges, all_whole}
use Rattle.machine_standing.proofs.Lists.{all_append, all_one}
use Rattle.machine_standing.proofs.Standings.{told_by}
use Rattle.machine_standing.specs.Kept.{AreKept, KeptLaw}
use Rattle.machine_standing.specs.Ties.{IsKind, IsNodeStore}
use Rattle.machine_ties.specs.Kept.{AreKeeping}
use Rattle.machine_ties.specs.Ties.{IsBefore, entered, opened}
use Rattle.machine_ties.specs.Views.{NodeMachine}
use Rattle.mesh_hearing.proofs.Recorded.{entry_recorded, more_recorded}
use Rattle.mesh_hearing.specs.Again.{AreRecorded}
use Rattle.mesh_types.specs.declared.answers.Answer.{Answer}
use Rattle.mesh_types.specs.declared.events.Event.{Event}
use Rattle.mesh_types.specs.declared.events.Event.TheVariants as E
use Rattle.mesh_types.specs.declared.history.Entry.{Entry}
use Rattle.node_layers.specs.NodeLayers.{node_layers}
use Rattle.node_layers.specs.Steps.{with_entry}
use Rattle.node_records.specs.Meaning.{IsMeaningOf}
use Rattle.record_types.specs.declared.records.StoreRecord.{StoreRecord}
use Rattle.run_definitions.specs.Order.{is_outside}
use Rattle.seq_reserve.specs.declared.reserve.Reserve.{Reserve}
use Rattle.store_definitions.specs.Config.{config_of}
use Rattle.store_definitions.specs.Numbers.{fill_of}
use Rattle.store_definitions.specs.Ranges.{IsInRange}

-- an event that follows a line stores nothing
stores_inside : (past : Past) (event : Event) (insight : Insight) (answer : Answer) → is_outside event ≡ false → stores node_layers past event insight answer ≡ []
unfolding stores
stores_inside past (E.Net octets) insight answer e = absurd (true≢false e)
stores_inside past (E.Bcn octets) insight answer e = absurd (true≢false e)
stores_inside past (E.Send element dst ttl key payload) insight answer e = absurd (true≢false e)
stores_inside past (E.Raw dst ttl tpdu) insight answer e = absurd (true≢false e)
stores_inside past (E.Tick ticks) insight answer e = absurd (true≢false e)
stores_inside past (E.Begin m) insight answer e = refl
stores_inside past (E.Kept lpn fsn name octets) insight answer e = refl
stores_inside past (E.LowPower event) insight answer e = absurd (true≢false e)

-- What stands before the next event.
pub before_more : KeptLaw → (past : Past) (m : NodeMachine) (r : Reserve) (tables : NodeTablesView) (entry : Entry) (insight : Insight) (records : List StoreRecord)
    → IsBefore past m → AreKept (config_of past.records) records → IsMeaningOf (past.records ++ records) r.store.persist
    → AreNodeTablesOf tables (with_entry past.told (told_by past entry insight) (past.records ++ records))
    → Sees node_layers past entry.event insight → records ≡ stores node_layers past entry.event insight entry.answer
    → IsBefore (with_entry past.told (told_by past entry insight) (past.records ++ records)) (entered m r tables entry)
before_more law past m r tables entry insight records h kept meaning tied sees is = record {
  standing = record {
    meaning = meaning;
    tables = tied;
    ranges = all_ranges past.records records kept h.standing.ranges;
    whole = all_whole law past.records records kept h.standing.whole;
    recorded =
        subst (λ (items : List StoreRecord). AreRecorded (with_entry past.told (told_by past entry insight) (past.records ++ items))) (sym is)
        (entry_recorded past (told_by past entry insight) sees h.standing.recorded);
  };
  told = all_append (λ (t : Told). All IsInRange t.records) past.told (told_by past entry insight ∷ []) h.told (all_one (λ (t : Told). All IsInRange t.records) (told_by past entry insight) h.standing.ranges);
}

-- What stands before the next event after a refill: what is kept in memory knows nothing of it.
refilled_standing : AreKeeping → (past : Past) (m : NodeMachine) (r : Reserve) → AreKept (config_of past.records) (fill_of (config_of past.records) ∷ [])
    → IsMeaningOf (past.records ++ fill_of (config_of past.records) ∷ []) r.store.persist → IsBefore past m
    → IsStanding (over_records past (past.records ++ fill_of (config_of past.records) ∷ [])) r.store.persist m.tables
refilled_standing laws past m r kept meaning h = record {
  meaning = meaning;
  tables = record { hearing = h.standing.tables.hearing; models = laws.refilled m.tables.models past 1 h.standing.tables.models; friends = h.standing.tables.friends };
  ranges = all_ranges past.records (fill_of (config_of past.records) ∷ []) kept h.standing.ranges;
  whole = all_whole laws.whole past.records (fill_of (config_of past.records) ∷ []) kept h.standing.whole;
  recorded = more_recorded past (fill_of (config_of past.records) ∷ []) h.standing.recorded;
}

-- So a node is a kind of machine.
pub node_kind : AreKeeping → IsKind (node_role node_layers) IsBefore
node_kind laws = record {
  whole = laws.whole;
  said = λ past m h. record { meaning = h.standing.meaning; ranges = h.standing.ranges; whole = h.standing.whole };
  inside = λ past event insight e. stores_inside past event insight (answer_of node_layers past event insight) e;
  refilled = λ past m r kept meaning h. record { standing = refilled_standing laws past m r kept meaning h; told = h.told };
}

-- that entries were taken changes nothing of what it keeps in memory
pub before_taken : (past : Past) (m : NodeMachine) (n : ℕ) → IsBefore past m → IsBefore past (record m { taken = n })
before_taken past m n h = record { standing = h.standing; told = h.told }

-- what stands before the first event of a life
pub opened_before : (over : List StoreRecord) (r : Reserve) (t : NodeTablesView) (elements : ℕ) → IsNodeStore over r.store.persist
    → AreNodeTablesOf t (record { told = []; records = over }) → IsBefore (record { told = []; records = over }) (opened r t elements)
opened_before over r t elements node tables = record {
  standing = record { meaning = node.meaning; tables = tables; ranges = node.ranges; whole = node.whole; recorded = refl };
  told = All-from_recursion (λ (x : Told). All IsInRange x.records) [] tt;
}
