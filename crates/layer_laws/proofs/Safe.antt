-- The layers of this node are safe.
use Rattle.std.proofs.Common.{◌≡◌, ◌⊎◌, ℕ, List, [], ◌∷◌, ◌++◌, inl, inr, refl, ap, Some, None, false}
use Rattle.std.specs.Bool.{⊤}
use Rattle.std.specs.List.{AllByRecursion as Every, Contains, flat_map, fold}
use Rattle.std.proofs.lemmas.List.Elements.{All-contains_itself, All-from_recursion, recursion_from_All}
use Rattle.layer_definitions.specs.Network.{net_text}
use Rattle.layer_states.specs.Sending.{round_of}
use Rattle.layer_states.specs.Friends.{FriendsState, after, tick}
use Rattle.layer_states.specs.declared.friends.OwnShort.{OwnShort}
use Rattle.layer_states.specs.declared.sending.Sending.{Sending}
use Rattle.mesh_base.specs.declared.fields.NetFields.{NetFields}
use Rattle.mesh_base.specs.declared.fields.NetMaterial.{NetMaterial}
use Rattle.mesh_base.specs.declared.pair.Name.{Name}
use Rattle.mesh_types.specs.declared.answers.Answer.{Answer}
use Rattle.mesh_types.specs.declared.answers.Answer.TheVariants as A
use Rattle.mesh_types.specs.declared.events.Event.{Event}
use Rattle.mesh_types.specs.declared.events.Event.TheVariants as E
use Rattle.model_states.specs.Publication.{heartbeat_due}
use Rattle.node_layers.specs.BuiltLayers.{built_layers}
use Rattle.node_layers.specs.ConfiguredLayers.{changes_of, configured_layers, reply_job, sent_publication, sent_reply}
use Rattle.node_layers.specs.Friendship.{control_jobs, ended_calls, friends, replies_to}
use Rattle.node_layers.specs.NodeLayers.{node_layers, published_at, published_jobs, replies_of, reply_jobs}
use Rattle.node_layers.specs.Publishing.{Publication, heartbeat_job, heartbeat_jobs, publication_job, publications_due, published}
use Rattle.node_layers.specs.Reassembly.{acks_at, due_job, due_jobs}
use Rattle.node_layers.specs.Sending.{messages, round_jobs, segments_at}
use Rattle.event_definitions.specs.Answers.{config_before, later, name_of}
use Rattle.event_definitions.specs.History.{Insight, OfBeacon, OfNothing, OfPdu, Past, Told}
use Rattle.event_definitions.specs.Layers.{AccessMessage, ControlMessage}
use Rattle.event_definitions.proofs.Each.{every_append}
use Rattle.event_definitions.specs.Safe.{AreSafe, IsChange, IsFitJob, IsTextHeard, WasHeard, WasKept}
use Rattle.event_definitions.specs.Jobs.{segment_job}
use Rattle.store_definitions.specs.Config.{Config, config_of}
use Rattle.layer_laws.proofs.Changes.{changes_are}
use Rattle.layer_laws.proofs.FriendCalls.{EntriesGood, HeardGood, KeptGood, SendGood, control_jobs_fit, friends_good}
use Rattle.layer_laws.proofs.Friends.{GoodState}
use Rattle.layer_laws.proofs.Lists.{every_flat_any, every_pick, option_cases}
use Rattle.layer_laws.proofs.Parts.{every_under}

-- What friendships hold was heard or kept in this life.
module _ (all : Past) where
  abbrev Kept : Name → List ℕ → Type 0
  Kept name octets = WasKept all name octets ⊎ IsTextHeard all name octets

  abbrev AnyOwn : OwnShort → Type 0
  AnyOwn m = ⊤

  lowered : (f : NetFields) (ttl : ℕ) → WasHeard all f → WasHeard all (record f { ttl = ttl })
  lowered f ttl h = record {
    told = h.told;
    is_told = h.is_told;
    reading = h.reading;
    low = h.low;
    opening = h.opening;
    read = h.read;
    passed = h.passed;
    fields = ap (λ (g : NetFields). let low : NetFields = record g { ttl = ttl } in low) h.fields;
  }

  texts : (m : NetMaterial) (f : NetFields) → WasHeard all f → Kept (name_of f) (net_text m f)
  texts m f h = inr (record { material = m; fields = f; heard = h; named = refl; text = refl })

  any_own : (xs : List OwnShort) → Every AnyOwn xs
  any_own [] = tt
  any_own (x ∷ xs) = (tt, any_own xs)

  heard_in : (t : Told) → Contains all.told t → (insight : Insight) (answer : Answer) → t.insight ≡ insight → t.entry.answer ≡ answer → HeardGood (WasHeard all) Kept AnyOwn lowered texts insight answer
  heard_in t k (OfPdu (Some r) low opening) answer e a = λ b. record {
    told = t;
    is_told = k;
    reading = r;
    low = low;
    opening = opening;
    read = e;
    passed = rw a b;
    fields = refl;
  }
  heard_in t k (OfPdu None low opening) answer e a = tt
  heard_in t k (OfBeacon b) answer e a = tt
  heard_in t k OfNothing answer e a = tt

  kept_in : (t : Told) → Contains all.told t → (event : Event) → t.entry.event ≡ event → t.entry.answer ≡ A.Kept → KeptGood (WasHeard all) Kept AnyOwn lowered texts event
  kept_in t k (E.Kept lpn fsn name pdu) e a = inl (record { told = t; is_told = k; lpn = lpn; fsn = fsn; event = e; answer = a })
  kept_in t k _ e a = tt

  send_in : (c : Config) (event : Event) → SendGood (WasHeard all) Kept AnyOwn lowered texts c event
  send_in c (E.Send element dst ttl key payload) = λ keys. tt
  send_in c _ = tt

  entries_in : (before ts : List Told) → Every (Contains all.told) ts → EntriesGood (WasHeard all) Kept AnyOwn lowered texts before ts
  entries_in before [] h = tt
  entries_in before (t ∷ ts) h = (
    record {
      heard = heard_in t h.0 t.insight t.entry.answer refl refl;
      kept = λ a. kept_in t h.0 t.entry.event refl a;
      sent = send_in (config_of t.records) t.entry.event;
      replied = λ st m. any_own _;
      publishes = λ ticks. any_own _;
    },
    entries_in (before ++ t ∷ []) ts h.1,
  )

  friends_held : GoodState (WasHeard all) Kept AnyOwn lowered (friends all)
  friends_held = friends_good (WasHeard all) Kept AnyOwn lowered texts all (entries_in [] all.told (recursion_from_All (Contains all.told) all.told (All-contains_itself all.told)))

  pub control_safe : (c : Config) (m : ControlMessage) → Every (IsFitJob all) (control_jobs all c m)
  control_safe c m =
      control_jobs_fit (WasHeard all) Kept AnyOwn lowered texts c (IsFitJob all) (λ material ttl dst tpdu kept. tt) (λ material f h. h) (λ material o kept h. tt) (λ name pdu h. h) all m friends_held

-- Segments.

round_safe : (past : Past) (c : Config) (now : ℕ) (s : Sending) → Every (IsFitJob past) (round_jobs c now s)
round_safe past c now s =
    every_pick (IsFitJob past) _ _ []
    (every_flat_any (IsFitJob past) _ (λ seg_o. every_under (IsFitJob past) c s.message.net (segment_job false s.message seg_o) (λ m. refl)) (round_of s)) tt

-- Replies and what is published.

sent_reply_safe : (past : Past) (c : Config) (m : AccessMessage) (reply : ℕ × List ℕ) → Every (IsFitJob past) (sent_reply c m reply)
sent_reply_safe past c m reply = every_under (IsFitJob past) c m.net (reply_job c m reply) (λ material. tt)

sent_publication_safe : (past : Past) (c : Config) (p : Publication) → Every (IsFitJob past) (sent_publication c p)
sent_publication_safe past c p = every_under (IsFitJob past) c p.net (publication_job p) (λ material. tt)

reply_safe : (past : Past) (c : Config) (st : FriendsState) (m : AccessMessage) (reply : ℕ × List ℕ) → Every (IsFitJob past) (reply_jobs c st m reply)
reply_safe past c st m reply = every_pick (IsFitJob past) _ [] (sent_reply c m reply) tt (sent_reply_safe past c m reply)

publication_safe : (past : Past) (c : Config) (st : FriendsState) (p : Publication) → Every (IsFitJob past) (published_jobs c st p)
publication_safe past c st p = every_pick (IsFitJob past) _ [] (sent_publication c p) tt (sent_publication_safe past c p)

heartbeat_safe : (past : Past) (c : Config) (ticks : ℕ) → Every (IsFitJob past) (heartbeat_jobs past c ticks)
heartbeat_safe past c ticks =
    option_cases _ (heartbeat_due (published past) (later past ticks)) (λ e. rw e tt) (λ row e. rw e (every_under (IsFitJob past) c row.net (heartbeat_job c row) (λ material. tt)))

pub acks_safe : (past : Past) (c : Config) (ticks : ℕ) → Every (IsFitJob past) (acks_at past c ticks)
acks_safe past c ticks = every_flat_any (IsFitJob past) (due_jobs c) (λ a. every_under (IsFitJob past) c a.net (due_job a) (λ m. tt)) _

pub segments_safe : (past : Past) (c : Config) (ticks : ℕ) → Every (IsFitJob past) (segments_at past c ticks)
segments_safe past c ticks = every_flat_any (IsFitJob past) (round_jobs c (later past ticks)) (round_safe past c (later past ticks)) (messages past)

replies_safe : (past : Past) (c : Config) (m : AccessMessage) → Every (IsFitJob past) (replies_of past c m)
replies_safe past c m =
    let st : FriendsState = fold after (friends past) (ended_calls (config_before past) m) in
    every_flat_any (IsFitJob past) (reply_jobs c st m) (reply_safe past c st m) (replies_to past (friends past) m)

published_safe : (past : Past) (c : Config) (ticks : ℕ) → Every (IsFitJob past) (published_at past c ticks)
published_safe past c ticks =
    let st : FriendsState = after (friends past) (tick (later past ticks)) in
    every_append (IsFitJob past) (flat_map (published_jobs c st) (publications_due past c ticks)) (heartbeat_jobs past c ticks)
    (every_flat_any (IsFitJob past) (published_jobs c st) (publication_safe past c st) (publications_due past c ticks)) (heartbeat_safe past c ticks)

pub node_safe : AreSafe node_layers
unfolding node_layers configured_layers built_layers
node_safe = record {
  acks_due = λ past c ticks. All-from_recursion (IsFitJob past) (acks_at past c ticks) (acks_safe past c ticks);
  segments_due = λ past c ticks. All-from_recursion (IsFitJob past) (segments_at past c ticks) (segments_safe past c ticks);
  control_jobs = λ past c m. All-from_recursion (IsFitJob past) (control_jobs past c m) (control_safe past c m);
  replies = λ past c m. All-from_recursion (IsFitJob past) (replies_of past c m) (replies_safe past c m);
  published = λ past c ticks. All-from_recursion (IsFitJob past) (published_at past c ticks) (published_safe past c ticks);
  changes = λ past m. All-from_recursion IsChange (changes_of past m) (changes_are past m);
}
