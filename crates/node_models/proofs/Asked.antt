-- The change that a configuration message asks for: a row of a publication is of one of the node's own models, a Default TTL has 7 bits, and the
-- node isn't told anew what it is.
use Rattle.std.specs.Prelude.{IfOk, IfSome}
use Rattle.std.specs.Bool.{⊤}
use Rattle.std.specs.Option.{option_map_or}
use Rattle.std.specs.Result.{result_ok}
use Rattle.std.proofs.Common.{◌≡◌, ℕ, ◌^◌, ◌<◌, Bool, true, false, cond, List, refl, subst, arith, Option, Some, None, Result, Ok, Err}
use Rattle.std.proofs.lemmas.Bool.Decides.{nat_tests}
use Rattle.config_definitions.proofs.Answered.{answer_proper}
use Rattle.config_definitions.proofs.Cases.{Inside}
use Rattle.config_definitions.proofs.Leaves.{Leaves}
use Rattle.config_definitions.proofs.Proper.{IsProper}
use Rattle.config_definitions.specs.Answers.{config_answer}
use Rattle.config_definitions.specs.Messages.{is_default_ttl}
use Rattle.config_definitions.specs.declared.acts.ConfigAct.{ConfigAct}
use Rattle.mesh_base.specs.declared.address.Address.{Address}
use Rattle.model_publish.specs.Own.{IsOwnRow}
use Rattle.model_states.specs.declared.publication.HeartbeatRow.{HeartbeatRow}
use Rattle.node_layers.specs.Configuration.{config_act, is_for_server}
use Rattle.node_layers.specs.Friendship.{config_after}
use Rattle.node_layers.specs.Publishing.{stored_row}
use Rattle.node_models.specs.Acts.{AsksShort, StoresOwn}
use Rattle.node_records.specs.Steps.{IsShortTtl}
use Rattle.node_records.specs.Tables.{config_in}
use Rattle.node_records.specs.declared.persist.Persist.{Persist}
use Rattle.record_types.specs.declared.records.PublishRow.{PublishRow}
use Rattle.record_types.specs.declared.records.StoreRecord.{StoreRecord}
use Rattle.record_types.specs.declared.records.StoreRecord.TheVariants as R
use Rattle.event_definitions.specs.Layers.{AccessMessage}
use Rattle.store_definitions.specs.Config.{Config, changed}

abbrev IsAsked : Config → StoreRecord → Type 0
IsAsked c (R.Publish row) = IsOwnRow c.unicast.0 c.elements row
IsAsked c (R.Feature which value) = which ≡ 2 → value < 2 ^ 7
IsAsked c (R.Identity unicast elements dev_key) = ⊥
IsAsked c _ = ⊤

short_ttl : (ttl : ℕ) → is_default_ttl ttl ≡ true → ttl < 2 ^ 7
short_ttl ttl e = grind (arith, nat_tests, e)

leaves : (c : Config) → Leaves ⊥ (IsAsked c) c
leaves c = record {
  app_added = λ k h held full. tt;
  app_updated = λ k h. tt;
  app_deleted = λ k h. tt;
  net_added = λ k h full. tt;
  net_updated = λ k h. tt;
  phase_two = λ net h zero two. tt;
  phase_ended = λ net h. tt;
  net_deleted = λ under net h kept. tt;
  group_added = λ s h n own full. tt;
  group_deleted = λ s h n own. tt;
  all_deleted = λ holder h n own. tt;
  group_overwritten = λ s h n own full. tt;
  label_added = λ s h n own full. tt;
  label_deleted = λ s h n own. tt;
  label_overwritten = λ s h n own full. tt;
  bound = λ b h n own full. tt;
  unbound = λ b h n own. tt;
  published = λ v h n own full. record { least = own.least; most = own.most; model = own.model };
  beacon = λ on e. absurd (omega (arith, e));
  ttl = λ ttl is e. short_ttl ttl is;
  friend = λ on e. absurd (omega (arith, e));
  relay = λ on retransmit h e. absurd (omega (arith, e));
  transmit = λ value h e. absurd (omega (arith, e));
  reset = tt;
}

answer_asked : (c : Config) (under : ℕ) (polls : List (Address × ℕ)) (beat : HeartbeatRow) (payload : List ℕ)
    → Inside (IsProper (IsAsked c)) (config_answer c under polls beat payload)
answer_asked c under polls beat payload = answer_proper (IsAsked c) ⊥ c (leaves c) under polls beat payload (λ none. absurd none)

-- a row of an own model
own : (c : Config) (change : Option StoreRecord) → Inside (IsAsked c) change → (row : PublishRow) → stored_row change ≡ Some row
    → IsOwnRow c.unicast.0 c.elements row
own c None h row e = absurd cc
own c (Some (R.Publish r)) h row e = subst (IsOwnRow c.unicast.0 c.elements) (some_is e) h
  where
    some_is : {a b : PublishRow} → Some a ≡ Some b → a ≡ b
    some_is e = cc
own c (Some _) h row e = absurd cc

pub answer_own : (p : Persist) (under : ℕ) (polls : List (Address × ℕ)) (beat : HeartbeatRow) (payload : List ℕ)
    {E : Type 0} (r : Result ConfigAct E)
    → IfOk r (λ act. config_answer (config_in p) under polls beat payload ≡ Some act) → StoresOwn p (result_ok r)
answer_own p under polls beat payload (Ok act) h =
    own (config_in p) act.change
    (subst (Inside (IsProper (IsAsked (config_in p)))) h (answer_asked (config_in p) under polls beat payload)).change
answer_own p under polls beat payload (Err fault) h = λ row e. absurd cc

-- a Default TTL of 7 bits
short : (c : Config) (change : Option StoreRecord) → Inside (IsAsked c) change → IfSome change IsShortTtl
short c None h = tt
short c (Some (R.Feature which value)) h = h
short c (Some _) h = tt

pub answer_short : (c : Config) (under : ℕ) (polls : List (Address × ℕ)) (beat : HeartbeatRow) (payload : List ℕ)
    {E : Type 0} (r : Result ConfigAct E)
    → IfOk r (λ act. config_answer c under polls beat payload ≡ Some act) → AsksShort (result_ok r)
answer_short c under polls beat payload (Ok act) h =
    short c act.change (subst (Inside (IsProper (IsAsked c))) h (answer_asked c under polls beat payload)).change
answer_short c under polls beat payload (Err fault) h = tt

-- the address of the node stays
changed_there : (c : Config) (change : Option StoreRecord) → Inside (IsAsked c) change
    → (option_map_or (changed c) change c).unicast ≡ c.unicast
unfolding changed
changed_there c None h = refl
changed_there c (Some (R.Identity unicast elements dev_key)) h = absurd h
changed_there c (Some _) h = refl

there : (c : Config) (o : Option ConfigAct) → Inside (IsProper (IsAsked c)) o → (config_after c o).unicast ≡ c.unicast
there c None h = refl
there c (Some act) h = changed_there c act.change h.change

pick : (c : Config) (b : Bool) (x : Option ConfigAct) → Inside (IsProper (IsAsked c)) x → Inside (IsProper (IsAsked c)) (cond b x None)
pick c true x h = h
pick c false x h = tt

pub keeps_address : (c : Config) (polls : List (Address × ℕ)) (beat : HeartbeatRow) (m : AccessMessage)
    → (config_after c (config_act c polls beat m)).unicast ≡ c.unicast
keeps_address c polls beat m =
    there c (config_act c polls beat m)
    (pick c (is_for_server c m) (config_answer c m.net polls beat m.payload) (answer_asked c m.net polls beat m.payload))
