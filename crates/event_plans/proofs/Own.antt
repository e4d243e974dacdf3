-- Events that bring no octets and no time leave the tables, but for a segmented message that begins; and the friendships, but for what is
-- stored and kept.
use Rattle.std.proofs.Common.{◌≡◌, ℕ, Bool, true, false, cond, eqb, List, [], ◌∷◌, ◌++◌, refl, ap, sym, subst, ◌∙◌, Some}
use Rattle.std.specs.Bool.{⊤}
use Rattle.std.specs.Prelude.{fold, is_some, ◌||◌}
use Rattle.std.specs.List.{list_any}
use Rattle.event_plans.proofs.Delivered.{IsApart, models_stay}
use Rattle.event_plans.proofs.Friends.{friends_stay}
use Rattle.event_plans.specs.Memory.{AreNodeTablesOf, NodeTablesView}
use Rattle.event_plans.specs.Own.{asked_row, begin_calls, begin_row, keyed_row}
use Rattle.event_plans.specs.Plans.{IsBasisOf, IsPlanned, IsStanding}
use Rattle.event_plans.specs.Basis as B
use Rattle.event_plans.specs.Basis.{Plan}
use Rattle.event_plans.specs.Sending.{IsOwn}
use Rattle.friend_steps.specs.Others.{LeaveFriends, changes_friends}
use Rattle.friend_steps.specs.Sending.{IsSend}
use Rattle.layer_definitions.specs.KeyRefresh.{app_row}
use Rattle.layer_states.specs.Friends.{FriendsState}
use Rattle.layer_states.specs.Sending.{after}
use Rattle.mesh_types.specs.declared.events.Outgoing.{Outgoing}
use Rattle.layer_states.specs.declared.sending.Sending.{Sending}
use Rattle.mesh_base.specs.declared.address.Address.{Address}
use Rattle.mesh_base.specs.declared.keys.AppKeyRow.{AppKeyRow}
use Rattle.mesh_base.specs.declared.pair.Name.{Name}
use Rattle.mesh_base.specs.declared.pair.Pair.{Pair}
use Rattle.mesh_hearing.specs.Tables.{AreTablesOf, GoOn, TablesView, tables_after}
use Rattle.mesh_jobs.specs.Own.{IsBefriended}
use Rattle.mesh_types.specs.declared.answers.Answer.{Answer}
use Rattle.mesh_types.specs.declared.answers.Answer.TheVariants as A
use Rattle.mesh_types.specs.declared.events.Event.{Event}
use Rattle.mesh_types.specs.declared.events.Event.TheVariants as E
use Rattle.mesh_types.specs.declared.events.SendKey.{SendKey}
use Rattle.mesh_types.specs.declared.events.SendKey.TheVariants as K
use Rattle.mesh_types.specs.declared.low_power.LowPowerAnswer.TheVariants as P
use Rattle.mesh_types.specs.declared.low_power.LowPowerEvent.{LowPowerEvent}
use Rattle.node_friends.specs.Steps.{AreFriendsOf}
use Rattle.node_layers.specs.BuiltLayers.{built_layers}
use Rattle.node_layers.specs.ConfiguredLayers.{configured_layers}
use Rattle.node_layers.specs.Friendship.{is_befriended, is_to_be_kept}
use Rattle.node_layers.specs.NodeLayers.{node_layers}
use Rattle.node_layers.specs.Reassembly.{tick_calls}
use Rattle.node_layers.specs.Sending.{own_calls}
use Rattle.node_models.specs.Models as models
use Rattle.node_records.specs.Meaning.{IsMeaningOf}
use Rattle.node_records.specs.Tables.{config_in}
use Rattle.node_records.specs.declared.persist.Persist.{Persist}
use Rattle.event_definitions.specs.Answers.{answer_of, config_before, send_answer}
use Rattle.event_definitions.specs.History.{OfNothing, Past, Told, ticks_after}
use Rattle.event_definitions.specs.Readings.{has_octets, sees_nothing}
use Rattle.event_definitions.specs.Stores.{stores}
use Rattle.store_definitions.specs.Config.{Config, config_of}

-- an answer that says no time, delivers nothing, and says nothing of own segmented messages
abbrev pub IsIdle : Answer → Type 0
IsIdle (A.Ticked now) = ⊥
IsIdle (A.Delivered name dst key payload) = ⊥
IsIdle (A.Control name dst opcode params) = ⊥
IsIdle (A.Beacon index key iv) = ⊥
IsIdle A.Begun = ⊥
IsIdle _ = ⊤

idle_apart : (a : Answer) → IsIdle a → IsApart a
idle_apart (A.Ticked now) h = absurd h
idle_apart (A.Delivered name dst key payload) h = absurd h
idle_apart _ h = tt

pub idle_untimed : (a : Answer) → IsIdle a → models.is_ticked a ≡ false
idle_untimed (A.Ticked now) h = absurd h
idle_untimed _ h = refl

no_calls : (a : Answer) → IsIdle a → tick_calls a ≡ []
no_calls (A.Ticked now) h = absurd h
no_calls _ h = refl

no_own : (n : ℕ) (event : Event) (a : Answer) → IsIdle a → own_calls n event a ≡ []
no_own n event (A.Ticked now) h = absurd h
no_own n event (A.Control name dst opcode params) h = absurd h
no_own n event (A.Beacon index key iv) h = absurd h
no_own n event A.Begun h = absurd h
no_own n event _ h = refl

no_time : (n : ℕ) (a : Answer) → IsIdle a → ticks_after n a ≡ n
no_time n (A.Ticked now) h = absurd h
no_time n _ h = refl

stays : (t : TablesView) (c : Config) (event : Event) (a : Answer) → IsIdle a → tables_after t c event OfNothing a ≡ t
stays t c event a k = rw (no_calls a k, no_own t.ticks event a k, no_time t.ticks a k) refl

-- the tables after an entry without octets
tables_with : GoOn → (t : TablesView) (told : List Told) (event : Event) (a : Answer) → AreTablesOf t told
    → (e : Told) → e.entry.event ≡ event → e.insight ≡ OfNothing → e.entry.answer ≡ a → AreTablesOf (tables_after t (config_of e.records) event OfNothing a) (told ++ e ∷ [])
tables_with law t told event a h e is insight answer =
    let by_event = subst (λ x. AreTablesOf (tables_after t (config_of e.records) x e.insight e.entry.answer) (told ++ e ∷ [])) is (law t told e h) in
    let by_insight = subst (λ x. AreTablesOf (tables_after t (config_of e.records) event x e.entry.answer) (told ++ e ∷ [])) insight by_event in
    subst (λ x. AreTablesOf (tables_after t (config_of e.records) event OfNothing x) (told ++ e ∷ [])) answer by_insight

tables_stay : GoOn → (t : TablesView) (told : List Told) (event : Event) (a : Answer) → IsIdle a → AreTablesOf t told
    → (e : Told) → e.entry.event ≡ event → e.insight ≡ OfNothing → e.entry.answer ≡ a → AreTablesOf t (told ++ e ∷ [])
tables_stay law t told event a idle h e is insight answer =
    subst (λ (x : TablesView). AreTablesOf x (told ++ e ∷ [])) (stays t (config_of e.records) event a idle) (tables_with law t told event a h e is insight answer)

-- The plan of an event that isn't heard.

-- the laws of what is kept in memory
pub record Laws : Type 0 where
  pub tables : GoOn
  pub models : models.GoOn

-- the friendships with such an entry
abbrev pub AreWith : FriendsState → Past → Event → Answer → Type 0
AreWith st past event a =
    (e : Told) → e.entry.event ≡ event → e.insight ≡ OfNothing → e.entry.answer ≡ a → e.records ≡ past.records
    → AreFriendsOf st (past.told ++ e ∷ [])

abbrev pub own_plan : Answer → Bool → Plan
own_plan a befriended = record { answer = a; records = []; basis = B.Own befriended }

own_planned : Laws → (past : Past) (event : Event) (a : Answer) (befriended : Bool) (t : NodeTablesView) (st : FriendsState) → AreNodeTablesOf t past
    → has_octets past event ≡ false → a ≡ answer_of node_layers past event OfNothing → [] ≡ stores node_layers past event OfNothing a → IsIdle a
    → AreWith st past event a → IsBasisOf past event a (B.Own befriended)
    → IsPlanned past event (own_plan a befriended) (record t { friends = st })
own_planned laws past event a befriended t st h octets is stored idle friends basis = record {
  sees = sees_nothing octets;
  answer = is;
  records = stored;
  tables = λ e records x insight answer same elements. record {
    hearing = tables_stay laws.tables t.hearing past.told event a idle h.hearing e x insight answer;
    models = models_stay laws.models t.models past e records a (idle_apart a idle) h.models answer same elements;
    friends = friends e x insight answer same;
  };
  basis = basis;
}

-- What the node is asked to send.

unless_idle : (b : Bool) (a : Answer) → IsIdle a → IsIdle (cond b A.Reset a)
unless_idle true a h = tt
unless_idle false a h = h

keyed_idle : (c : Config) (key : SendKey) → IsIdle (keyed_row c key)
keyed_idle c K.Own = tt
keyed_idle c (K.Other key) = tt
keyed_idle c (K.App index) = pick _
  where
    pick : (b : Bool) → IsIdle (cond b A.Planned (A.NoAppKey index))
    pick true = tt
    pick false = tt

pub asked_idle : (c : Config) (event : Event) → IsIdle (asked_row c event)
asked_idle c (E.Send element dst ttl key payload) = unless_idle c.reset (keyed_row c key) (keyed_idle c key)
asked_idle c (E.LowPower event) = unless_idle c.reset (A.LowPower P.NoFriend) tt
asked_idle c _ = unless_idle c.reset A.Planned tt

some_any : (index : ℕ) (rows : List AppKeyRow) → is_some (app_row rows index) ≡ list_any (λ (r : AppKeyRow). eqb r.index index) rows
some_any index [] = refl
some_any index (r ∷ rows) = pick (eqb r.index index) (some_any index rows)
  where
    pick : (b : Bool) → is_some (app_row rows index) ≡ list_any (λ (r : AppKeyRow). eqb r.index index) rows → is_some (cond b (Some r) (app_row rows index)) ≡ (b || list_any (λ (r : AppKeyRow). eqb r.index index) rows)
    pick true e = refl
    pick false e = e

keyed_is : (past : Past) (key : SendKey) → keyed_row (config_before past) key ≡ send_answer past key
keyed_is past K.Own = refl
keyed_is past (K.Other key) = refl
keyed_is past (K.App index) = ap (λ b. cond b A.Planned (A.NoAppKey index)) (sym (some_any index (config_before past).apps))

send_is : (past : Past) (p : Persist) (element : ℕ) (dst : Address) (ttl : ℕ) (key : SendKey) (payload : List ℕ) → IsMeaningOf past.records p
    → asked_row (config_in p) (E.Send element dst ttl key payload) ≡ answer_of node_layers past (E.Send element dst ttl key payload) OfNothing
unfolding answer_of
send_is past p element dst ttl key payload m =
    ap (λ c. asked_row c (E.Send element dst ttl key payload)) m.config ∙ ap (λ a. cond (config_before past).reset A.Reset a) (keyed_is past key)

raw_is : (past : Past) (p : Persist) (dst : Address) (ttl : ℕ) (tpdu : List ℕ) → IsMeaningOf past.records p
    → asked_row (config_in p) (E.Raw dst ttl tpdu) ≡ answer_of node_layers past (E.Raw dst ttl tpdu) OfNothing
unfolding answer_of
raw_is past p dst ttl tpdu m = ap (λ c. asked_row c (E.Raw dst ttl tpdu)) m.config

send_stores : (past : Past) (element : ℕ) (dst : Address) (ttl : ℕ) (key : SendKey) (payload : List ℕ) (a : Answer) → [] ≡ stores node_layers past (E.Send element dst ttl key payload) OfNothing a
unfolding stores
send_stores past element dst ttl key payload a = refl

raw_stores : (past : Past) (dst : Address) (ttl : ℕ) (tpdu : List ℕ) (a : Answer) → [] ≡ stores node_layers past (E.Raw dst ttl tpdu) OfNothing a
unfolding stores
raw_stores past dst ttl tpdu a = refl

befriended_is : (past : Past) (element : ℕ) (dst : Address) (ttl : ℕ) (key : SendKey) (payload : List ℕ) (befriended : Bool)
    → IsBefriended node_layers past (E.Send element dst ttl key payload) befriended → befriended ≡ is_befriended past dst
unfolding node_layers
befriended_is past element dst ttl key payload befriended h = h

pub send_planned : Laws → (past : Past) (p : Persist) (t : NodeTablesView) (event : Event) (befriended : Bool) (st : FriendsState) → IsSend (config_in p) event
    → IsStanding past p t → IsBefriended node_layers past event befriended → AreWith st past event (asked_row (config_in p) event)
    → IsPlanned past event (own_plan (asked_row (config_in p) event) befriended) (record t { friends = st })
send_planned laws past p t (E.Send element dst ttl key payload) befriended st asked h is friends =
    let event : Event = E.Send element dst ttl key payload in
    let a = asked_row (config_in p) event in
    own_planned laws past event a befriended t st h.tables refl (send_is past p element dst ttl key payload h.meaning) (send_stores past element dst ttl key payload a)
    (asked_idle (config_in p) event) friends (befriended_is past element dst ttl key payload befriended is)
send_planned laws past p t _ befriended st asked h is friends = absurd asked

raw_leaves : (c : Config) (dst : Address) (ttl : ℕ) (tpdu : List ℕ) → changes_friends (E.Raw dst ttl tpdu) (asked_row c (E.Raw dst ttl tpdu)) ≡ false
raw_leaves c dst ttl tpdu = pick c.reset
  where
    pick : (b : Bool) → changes_friends (E.Raw dst ttl tpdu) (cond b A.Reset A.Planned) ≡ false
    pick true = refl
    pick false = refl

pub raw_planned : Laws → LeaveFriends → (past : Past) (p : Persist) (t : NodeTablesView) (dst : Address) (ttl : ℕ) (tpdu : List ℕ) → IsStanding past p t
    → IsPlanned past (E.Raw dst ttl tpdu) (own_plan (asked_row (config_in p) (E.Raw dst ttl tpdu)) false) t
raw_planned laws others past p t dst ttl tpdu h =
    let event : Event = E.Raw dst ttl tpdu in
    let a = asked_row (config_in p) event in
    own_planned laws past event a false t t.friends h.tables refl (raw_is past p dst ttl tpdu h.meaning) (raw_stores past dst ttl tpdu a) (asked_idle (config_in p) event)
    (λ e is insight answer same. friends_stay others t.friends past.told event a OfNothing refl (raw_leaves (config_in p) dst ttl tpdu) h.tables.friends e is insight answer) tt

-- What a Low Power node alone is told.

low_power_is : (past : Past) (p : Persist) (what : LowPowerEvent) → IsMeaningOf past.records p
    → asked_row (config_in p) (E.LowPower what) ≡ answer_of node_layers past (E.LowPower what) OfNothing
unfolding answer_of
low_power_is past p what m = ap (λ c. asked_row c (E.LowPower what)) m.config

low_power_stores : (past : Past) (what : LowPowerEvent) (a : Answer) → [] ≡ stores node_layers past (E.LowPower what) OfNothing a
unfolding stores
low_power_stores past what a = refl

low_power_leaves : (c : Config) (what : LowPowerEvent) → changes_friends (E.LowPower what) (asked_row c (E.LowPower what)) ≡ false
low_power_leaves c what = pick c.reset
  where
    pick : (b : Bool) → changes_friends (E.LowPower what) (cond b A.Reset (A.LowPower P.NoFriend)) ≡ false
    pick true = refl
    pick false = refl

pub low_power_planned : Laws → LeaveFriends → (past : Past) (p : Persist) (t : NodeTablesView) (what : LowPowerEvent) → IsStanding past p t
    → IsPlanned past (E.LowPower what) (own_plan (asked_row (config_in p) (E.LowPower what)) false) t
low_power_planned laws others past p t what h =
    let event : Event = E.LowPower what in
    let a = asked_row (config_in p) event in
    own_planned laws past event a false t t.friends h.tables refl (low_power_is past p what h.meaning) (low_power_stores past what a) (asked_idle (config_in p) event)
    (λ e is insight answer same. friends_stay others t.friends past.told event a OfNothing refl (low_power_leaves (config_in p) what) h.tables.friends e is insight answer) tt

-- A segmented message that begins.

-- an answer to one
abbrev IsOfBegin : Answer → Type 0
IsOfBegin (A.Moved iv) = ⊤
IsOfBegin (A.SendFull held) = ⊤
IsOfBegin A.Befriended = ⊤
IsOfBegin A.Begun = ⊤
IsOfBegin _ = ⊥

of_begin : (c : Config) (befriended : Bool) (rows : List Sending) (pair : Pair) → IsOfBegin (begin_row c befriended rows pair)
of_begin c befriended rows pair = pick _ befriended _ _ _
  where
    pick : (b f d : Bool) (iv held : ℕ) → IsOfBegin (cond b (A.Moved iv) (cond f A.Befriended (cond d (A.SendFull held) A.Begun)))
    pick true f d iv held = tt
    pick false true d iv held = tt
    pick false false true iv held = tt
    pick false false false iv held = tt

begin_apart : (a : Answer) → IsOfBegin a → IsApart a
begin_apart (A.Moved iv) h = tt
begin_apart (A.SendFull held) h = tt
begin_apart A.Befriended h = tt
begin_apart A.Begun h = tt
begin_apart _ h = absurd h

begin_leaves : (m : Outgoing) (a : Answer) → IsOfBegin a → changes_friends (E.Begin m) a ≡ false
begin_leaves m (A.Moved iv) h = refl
begin_leaves m (A.SendFull held) h = refl
begin_leaves m A.Befriended h = refl
begin_leaves m A.Begun h = refl
begin_leaves m _ h = absurd h

begun_tables : (t : TablesView) (c : Config) (m : Outgoing) (a : Answer) → IsOfBegin a
    → tables_after t c (E.Begin m) OfNothing a ≡ record t { own = fold after t.own (begin_calls t.ticks m a) }
begun_tables t c m (A.Moved iv) h = refl
begun_tables t c m (A.SendFull held) h = refl
begun_tables t c m A.Befriended h = refl
begun_tables t c m A.Begun h = refl
begun_tables t c m _ h = absurd h

begin_is : (past : Past) (p : Persist) (t : NodeTablesView) (befriended : Bool) (m : Outgoing)
    → IsStanding past p t → befriended ≡ is_befriended past m.dst
    → begin_row (config_in p) befriended t.hearing.own m.name.pair ≡ answer_of node_layers past (E.Begin m) OfNothing
unfolding answer_of node_layers configured_layers built_layers
begin_is past p t befriended m h is =
    ap (λ c. begin_row c befriended t.hearing.own m.name.pair) h.meaning.config
    ∙ ap (λ b. begin_row (config_before past) b t.hearing.own m.name.pair) is
    ∙ ap (λ rows. begin_row (config_before past) (is_befriended past m.dst) rows m.name.pair) h.tables.hearing.own

begin_stores : (past : Past) (m : Outgoing) (a : Answer) → [] ≡ stores node_layers past (E.Begin m) OfNothing a
unfolding stores
begin_stores past m a = refl

pub begin_planned : Laws → LeaveFriends → (past : Past) (p : Persist) (t : NodeTablesView) (befriended : Bool) (m : Outgoing) → IsStanding past p t → befriended ≡ is_befriended past m.dst
    → IsPlanned past (E.Begin m) (own_plan (begin_row (config_in p) befriended t.hearing.own m.name.pair) false)
    (record t { hearing = record t.hearing { own = fold after t.hearing.own (begin_calls t.hearing.ticks m (begin_row (config_in p) befriended t.hearing.own m.name.pair)) } })
begin_planned laws others past p t befriended m h is =
    let a = begin_row (config_in p) befriended t.hearing.own m.name.pair in
    let begun : IsOfBegin a = of_begin (config_in p) befriended t.hearing.own m.name.pair in
    let event : Event = E.Begin m in
    record {
      sees = sees_nothing {event = event} refl;
      answer = begin_is past p t befriended m h is;
      records = begin_stores past m a;
      tables = λ e records is insight answer same elements. record {
        hearing =
            subst (λ (x : TablesView). AreTablesOf x (past.told ++ e ∷ [])) (begun_tables t.hearing (config_of e.records) m a begun)
            (tables_with laws.tables t.hearing past.told event a h.tables.hearing e is insight answer);
        models = models_stay laws.models t.models past e records a (begin_apart a begun) h.tables.models answer same elements;
        friends =
            friends_stay others t.friends past.told event a OfNothing refl (begin_leaves m a begun)
            h.tables.friends e is insight answer;
      };
      basis = tt;
    }

-- Octets that answered a Poll.

kept_idle : (b : Bool) → IsIdle (cond b A.Kept A.Dropped)
kept_idle true = tt
kept_idle false = tt

kept_is : (past : Past) (lpn : Address) (fsn : Bool) (name : Name) (pdu : List ℕ)
    → cond (is_to_be_kept past lpn fsn) A.Kept A.Dropped ≡ answer_of node_layers past (E.Kept lpn fsn name pdu) OfNothing
unfolding answer_of node_layers
kept_is past lpn fsn name pdu = refl

kept_stores : (past : Past) (lpn : Address) (fsn : Bool) (name : Name) (pdu : List ℕ) (a : Answer) → [] ≡ stores node_layers past (E.Kept lpn fsn name pdu) OfNothing a
unfolding stores
kept_stores past lpn fsn name pdu a = refl

pub kept_planned : Laws → (past : Past) (t : NodeTablesView) (lpn : Address) (fsn : Bool) (name : Name) (pdu : List ℕ) (a : Answer) (st : FriendsState) → AreNodeTablesOf t past
    → a ≡ cond (is_to_be_kept past lpn fsn) A.Kept A.Dropped → AreWith st past (E.Kept lpn fsn name pdu) a
    → IsPlanned past (E.Kept lpn fsn name pdu) (own_plan a false) (record t { friends = st })
kept_planned laws past t lpn fsn name pdu a st h is friends =
    own_planned laws past (E.Kept lpn fsn name pdu) a false t st h refl (is ∙ kept_is past lpn fsn name pdu) (kept_stores past lpn fsn name pdu a)
    (subst IsIdle (sym is) (kept_idle (is_to_be_kept past lpn fsn))) friends tt

-- Which event it is.

-- one that is none of the others is a control PDU, or told to a Low Power node
pub raw_left : (event : Event) → IsOwn event
    → ((element : ℕ) (dst : Address) (ttl : ℕ) (key : SendKey) (payload : List ℕ) → event ≡ E.Send element dst ttl key payload → ⊥)
    → ((m : Outgoing) → event ≡ E.Begin m → ⊥)
    → ((lpn : Address) (fsn : Bool) (name : Name) (pdu : List ℕ) → event ≡ E.Kept lpn fsn name pdu → ⊥)
    → (P : Event → Type 0) → ((dst : Address) (ttl : ℕ) (tpdu : List ℕ) → P (E.Raw dst ttl tpdu)) → ((what : LowPowerEvent) → P (E.LowPower what)) → P event
raw_left (E.Net octets) own send begin kept P f g = absurd own
raw_left (E.Bcn octets) own send begin kept P f g = absurd own
raw_left (E.Tick ticks) own send begin kept P f g = absurd own
raw_left (E.Send element dst ttl key payload) own send begin kept P f g = absurd (send element dst ttl key payload refl)
raw_left (E.Begin m) own send begin kept P f g = absurd (begin m refl)
raw_left (E.Kept lpn fsn name pdu) own send begin kept P f g = absurd (kept lpn fsn name pdu refl)
raw_left (E.Raw dst ttl tpdu) own send begin kept P f g = f dst ttl tpdu
raw_left (E.LowPower what) own send begin kept P f g = g what
