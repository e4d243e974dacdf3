-- In a life of a node that has an element, each entry has an own event, and its jobs go from an element.
use Rattle.std.proofs.Common.{◌≡◌, suc, ◌<◌, ◌≤◌, true, List, [], ◌∷◌, ◌++◌, map, length, refl, ap, sym, subst, ◌∙◌, length-append, arith, Some}
use Rattle.std.specs.Prelude.{slice_get}
use Rattle.std.specs.List.{AllByRecursion as Every}
use Rattle.std.proofs.lemmas.List.Elements.{All-from_recursion}
use Rattle.layer_laws.proofs.Node.{IsNoIdentity, IsSameNode, same_behind, same_element, same_filled, then_same}
use Rattle.mesh_base.specs.declared.address.Address.{Address}
use Rattle.mesh_types.specs.declared.answers.Answer.{Answer}
use Rattle.mesh_types.specs.declared.events.Event.{Event}
use Rattle.mesh_types.specs.declared.events.Event.TheVariants as E
use Rattle.mesh_types.specs.declared.history.Entry.{Entry}
use Rattle.mesh_types.specs.declared.jobs.Job.{Job}
use Rattle.mesh_types.specs.declared.jobs.Job.TheVariants as J
use Rattle.record_types.specs.declared.records.StoreRecord.{StoreRecord}
use Rattle.event_definitions.proofs.Handling.{handled_more, left_more}
use Rattle.event_definitions.specs.Fit.{IsOwn, IsOwnEvent}
use Rattle.event_definitions.specs.Handling.{AreHandled, Handles, IsPast, past_of, records_after, records_left}
use Rattle.event_definitions.specs.History.{Past, Told}
use Rattle.run_definitions.specs.Order.{placed_from}
use Rattle.event_definitions.proofs.Each.{every_append, every_map}
use Rattle.event_definitions.specs.Role.{Role}
use Rattle.store_definitions.specs.Config.{Config, config_of, is_element}
use Rattle.store_definitions.specs.Numbers.{filled}
use Rattle.audit_laws.specs.Laws.{IsOwnPast}
use Rattle.audit_laws.proofs.OwnedRoles.{Owned}
use Rattle.audit_laws.proofs.Origins.{Comes, HasOrigin, Origin}
use Rattle.audit_laws.proofs.Parts.{every_at, every_of_map, get_front}

-- The same elements.

own_job_same : (c d : Config) → IsSameNode c d → (job : Job) → IsOwn d job → IsOwn c job
own_job_same c d s (J.Control material ttl src dst tpdu keep) h = same_element c d src.0 s ∙ h
own_job_same c d s (J.Message net material key ttl src dst payload keep) h = same_element c d src.0 s ∙ h
own_job_same c d s (J.Sent net material key ttl src dst) h = same_element c d src.0 s ∙ h
own_job_same c d s (J.Segment segment) h = same_element c d segment.name.src.0 s ∙ h
own_job_same c d s (J.Relay material f) h = tt
own_job_same c d s (J.Repeat name pdu) h = tt
own_job_same c d s (J.Beacon octets) h = tt

own_event_same : (c d : Config) → IsSameNode c d → (event : Event) → IsOwnEvent c event → IsOwnEvent d event
own_event_same c d s (E.Send element dst ttl key payload) h = let e = s.elements in omega arith
own_event_same c d s (E.Begin m) h = sym (same_element c d m.name.src.0 s) ∙ h
own_event_same c d s (E.Net octets) h = tt
own_event_same c d s (E.Bcn octets) h = tt
own_event_same c d s (E.Raw dst ttl tpdu) h = tt
own_event_same c d s (E.Tick ticks) h = tt
own_event_same c d s (E.Kept lpn fsn name octets) h = tt
own_event_same c d s (E.LowPower event) h = tt

-- What is known of an entry.
pub record OwnEntry (own : Config) (e : Entry) : Type 0 where
  pub event : IsOwnEvent own e.event
  pub jobs : Every (IsOwn own) e.jobs

abbrev entries_told : List Told → List Entry
entries_told ts = map (λ t. t.entry) ts

module _ (role : Role) (kind : Owned role) (own : Config) (some : 1 ≤ own.elements) (over : List StoreRecord) (entries : List Entry) where
  -- what was handled so far
  record SoFar (records : List StoreRecord) (before : List Told) : Type 0 where
    handled : AreHandled role over [] before
    records_are : records ≡ records_left role over [] before
    node : IsSameNode own (config_of records)
    owned : Every (λ (t : Told). OwnEntry own t.entry) before

  -- an event of an own origin
  comes_own : (before rest : List Told) (src : Address) → entries ≡ entries_told before ++ entries_told rest → Every (λ (t : Told). OwnEntry own t.entry) before
      → Comes entries (length before) src → is_element own src.0 ≡ true
  comes_own before rest src is owned c =
      let long : c.place < length (entries_told before) = let l = c.below in omega (arith, length-told before) in
      let here : slice_get (entries_told before) c.place ≡ Some c.entry = get_front (entries_told before) (entries_told rest) c.place c.entry long (subst (λ es. slice_get es c.place ≡ Some c.entry) is c.at) in
      let entry : OwnEntry own c.entry = every_at (OwnEntry own) (entries_told before) c.place c.entry (every_of_map (OwnEntry own) (λ (t : Told). t.entry) before owned) here in
      c.own own (every_at (IsOwn own) c.entry.jobs c.job_place c.job entry.jobs c.job_at)
    where
      length-told : (ts : List Told) → length (entries_told ts) ≡ length ts
      length-told [] = refl
      length-told (t ∷ ts) = ap suc (length-told ts)

  origin_own : (before rest : List Told) (event : Event) → entries ≡ entries_told before ++ entries_told rest → Every (λ (t : Told). OwnEntry own t.entry) before
      → Origin own.elements entries (length before) event → IsOwnEvent own event
  origin_own before rest (E.Send element dst ttl key payload) is owned h = h
  origin_own before rest (E.Begin m) is owned h = comes_own before rest m.name.src is owned h
  origin_own before rest (E.Net octets) is owned h = tt
  origin_own before rest (E.Bcn octets) is owned h = tt
  origin_own before rest (E.Raw dst ttl tpdu) is owned h = tt
  origin_own before rest (E.Tick ticks) is owned h = tt
  origin_own before rest (E.Kept lpn fsn name octets) is owned h = tt
  origin_own before rest (E.LowPower event) is owned h = tt

  -- one entry
  record Next (records : List StoreRecord) (before : List Told) (t : Told) : Type 0 where
    owned : OwnEntry own t.entry
    so_far : SoFar (records_after role (past_of before t) t) (before ++ t ∷ [])

  next : (records : List StoreRecord) (before : List Told) (t : Told) → SoFar records before → t.records ≡ filled t.entry.fills records → Handles role (past_of before t) t
      → IsOwnEvent own t.entry.event → Next records before t
  next records before t so is handles event =
      let past : Past = past_of before t in
      let opened : IsSameNode own (config_of t.records) =
      subst (λ (l : List StoreRecord). IsSameNode own (config_of l)) (sym is) (then_same own (config_of records) (config_of (filled t.entry.fills records)) so.node (same_filled t.entry.fills records)) in
      let after : List StoreRecord = records_after role past t in
      let stored_none : Every IsNoIdentity (role.stores past t.entry.event t.insight t.entry.answer) =
      subst (λ (a : Answer). Every IsNoIdentity (role.stores past t.entry.event t.insight a)) (sym handles.answer) (kind.stores past t.entry.event t.insight) in
      let stored : IsSameNode (config_of t.records) (config_of after) = same_behind t.records _ stored_none in
      let left : IsSameNode own (config_of after) = then_same own (config_of t.records) (config_of after) opened stored in
      let filled_is : t.records ≡ filled t.entry.fills (records_left role over [] before) = is ∙ ap (filled t.entry.fills) so.records_are in
      let is_past : IsPast role past = record { over = over; handled = so.handled; fills = t.entry.fills; records = filled_is } in
      let own_past : IsOwnPast role past (config_of after) =
      record {
        handled = is_past;
        some = let e = opened.elements in omega arith;
        asked = All-from_recursion _ before (every_map (λ (u : Told). OwnEntry own u.entry) (λ (u : Told). IsOwnEvent (config_of t.records) u.entry.event) (λ u o. own_event_same own (config_of t.records) opened u.entry.event o.event) before so.owned);
        elements = record { unicast = stored.unicast; elements = stored.elements };
      } in
      let jobs : Every (IsOwn (config_of after)) (role.jobs past (config_of after) t.entry.event t.insight t.entry.answer) =
      subst (λ (a : Answer). Every (IsOwn (config_of after)) (role.jobs past (config_of after) t.entry.event t.insight a)) (sym handles.answer)
      (kind.jobs past (config_of after) t.entry.event t.insight own_past handles.sees (own_event_same own (config_of t.records) opened t.entry.event event)) in
      let here : Every (IsOwn (config_of after)) t.entry.jobs = subst (Every (IsOwn (config_of after))) (sym handles.jobs) jobs in
      let owned : OwnEntry own t.entry = record { event = event; jobs = every_map (IsOwn (config_of after)) (IsOwn own) (own_job_same own (config_of after) left) t.entry.jobs here } in
      record {
        owned = owned;
        so_far = record {
          handled = handled_more role over [] before t so.handled filled_is handles;
          records_are = sym (left_more role over [] before t);
          node = left;
          owned = every_append (λ (u : Told). OwnEntry own u.entry) before (t ∷ []) so.owned (owned, tt);
        };
      }

  entries_own : (records : List StoreRecord) (before ts : List Told) → entries ≡ entries_told before ++ entries_told ts → SoFar records before → AreHandled role records before ts
      → Every (HasOrigin own.elements entries) (placed_from (length before) (entries_told ts)) → Every (λ (t : Told). OwnEntry own t.entry) ts
  entries_own records before [] is so h o = tt
  entries_own records before (t ∷ ts) is so h o =
      let one : Next records before t = next records before t so h.0 h.1 (origin_own before (t ∷ ts) t.entry.event is so.owned o.0) in
      let further : entries ≡ entries_told (before ++ t ∷ []) ++ entries_told ts = is ∙ split before t ts in
      let places : Every (HasOrigin own.elements entries) (placed_from (length (before ++ t ∷ [])) (entries_told ts)) =
      subst (λ n. Every (HasOrigin own.elements entries) (placed_from n (entries_told ts))) (sym (length-append before (t ∷ []))) o.1 in
      (one.owned, entries_own (records_after role (past_of before t) t) (before ++ t ∷ []) ts further one.so_far h.2 places)
    where
      split : (xs : List Told) (t : Told) (ts : List Told) → entries_told xs ++ entries_told (t ∷ ts) ≡ entries_told (xs ++ t ∷ []) ++ entries_told ts
      split [] t ts = refl
      split (x ∷ xs) t ts = ap (λ l. x.entry ∷ l) (split xs t ts)

-- All entries of a life, from what it opened over.
pub life_own : (role : Role) → Owned role → (own : Config) (over : List StoreRecord) (told : List Told) → 1 ≤ own.elements → IsSameNode own (config_of over)
    → AreHandled role over [] told → Every (HasOrigin own.elements (entries_told told)) (placed_from 0 (entries_told told)) → Every (OwnEntry own) (entries_told told)
life_own role kind own over told some node h o =
    every_of_map (OwnEntry own) (λ (t : Told). t.entry) told
    (entries_own role kind own some over (entries_told told) over [] told refl (record { handled = tt; records_are = refl; node = node; owned = tt }) h o)
