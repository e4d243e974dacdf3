-- What an accepted message asks for, by how it was heard, is what the definitions ask for.
use Rattle.std.proofs.Common.{◌≡◌, ◌∙◌, Bool, true, false, cond, List, [], ◌∷◌, ◌++◌, refl, ap, ℕ, Option, Some, None}
use Rattle.std.specs.Prelude.{◌&&◌, not}
use Rattle.std.specs.List.{flat_map}
use Rattle.std.specs.Option.{option_map, option_map_or}
use Rattle.mesh_base.specs.declared.address.Address.{Address}
use Rattle.mesh_base.specs.declared.keys.UpperKey.{UpperKey}
use Rattle.mesh_base.specs.declared.lower.Lower.{Lower}
use Rattle.mesh_base.specs.declared.pair.Name.{Name}
use Rattle.mesh_jobs.specs.Hearing.{insight_of}
use Rattle.mesh_jobs.specs.Replying.{AreRepliesTo, heard_as, is_source_befriended, replies_sent}
use Rattle.mesh_reading.specs.Held.{reading_of}
use Rattle.mesh_types.specs.declared.answers.Answer.{Answer}
use Rattle.mesh_types.specs.declared.answers.Answer.TheVariants as A
use Rattle.mesh_types.specs.declared.answers.KeyName.{KeyName}
use Rattle.mesh_types.specs.declared.jobs.Job.{Job}
use Rattle.network_layer.specs.declared.reading.NetReading.{NetReading}
use Rattle.node_layers.specs.BuiltLayers.{built_layers}
use Rattle.node_layers.specs.ConfiguredLayers.{configured_layers, sent_reply}
use Rattle.node_layers.specs.Friendship.{friends, is_short, replies_to}
use Rattle.node_layers.specs.NodeLayers.{node_layers}
use Rattle.node_models.specs.Replies.{replies_in}
use Rattle.node_models.specs.declared.taken.MessageReplies.{MessageReplies}
use Rattle.event_definitions.specs.History.{Insight, Opening, Past, Reading}
use Rattle.event_definitions.specs.Jobs.{message_jobs, unless_stored}
use Rattle.event_definitions.specs.Layers.{AccessMessage}
use Rattle.store_definitions.specs.Config.{Config}

-- the jobs of the replies that are sent are those of all replies but what is stored
sent_are : (job : ℕ × List ℕ → List Job) (befriended : Bool) (replies : List (ℕ × List ℕ))
    → flat_map job (replies_sent befriended replies)
    ≡ flat_map (λ (reply : ℕ × List ℕ). unless_stored befriended reply.1 (job reply)) replies
sent_are job befriended [] = refl
sent_are job befriended (reply ∷ replies) =
    elim (befriended && is_short reply.1) as (λ t.
    flat_map job (cond (not t) (reply ∷ replies_sent befriended replies) (replies_sent befriended replies))
    ≡ cond t [] (job reply) ++ flat_map (λ (r : ℕ × List ℕ). unless_stored befriended r.1 (job r)) replies) [
      | true ↦ sent_are job befriended replies
      | false ↦ ap (λ (js : List Job). job reply ++ js) (sent_are job befriended replies)
    ]

-- an access message
pub replies_are : (past : Past) (c : Config) (r : NetReading) (low : Option Lower) (opening : Option Opening)
    (name : Name) (dst : Address) (shown : KeyName) (payload : List ℕ) (replies : MessageReplies)
    → AreRepliesTo past (insight_of (Some r) low opening) (A.Delivered name dst shown payload) replies
    → option_map_or (λ (k : UpperKey). flat_map (sent_reply c (heard_as r k name.src)) (replies_in replies))
    (option_map (λ (o : Opening). o.key) opening) []
    ≡ message_jobs node_layers past c (reading_of r) (insight_of (Some r) low opening)
    (A.Delivered name dst shown payload)
unfolding configured_layers node_layers
replies_are past c r low None name dst shown payload replies h = refl
replies_are past c r low (Some o) name dst shown payload replies h =
    let m : AccessMessage = record {
      name = name;
      dst = dst;
      net = r.by.index;
      ttl = r.fields.ttl;
      key = o.key;
      label = o.label;
      payload = o.payload;
    } in
    ap (λ (rs : List (ℕ × List ℕ)). flat_map (sent_reply c (heard_as r o.key name.src)) rs) (h m refl)
    ∙ sent_are (sent_reply c m) (is_source_befriended past m) (replies_to past (friends past) m)

-- an answer that accepts no message asks for nothing
pub none_asked : (past : Past) (c : Config) (r : Reading) (insight : Insight) (answer : Answer)
    → ((name : Name) (dst : Address) (opcode : ℕ) (params : List ℕ) → answer ≡ A.Control name dst opcode params → ⊥)
    → ((name : Name) (dst : Address) (shown : KeyName) (payload : List ℕ) → answer ≡ A.Delivered name dst shown payload → ⊥)
    → message_jobs node_layers past c r insight answer ≡ []
unfolding built_layers configured_layers node_layers
none_asked past c r insight (A.Control name dst opcode params) control other = absurd (control name dst opcode params refl)
none_asked past c r insight (A.Delivered name dst shown payload) control other = absurd (other name dst shown payload refl)
none_asked past c r insight _ control other = refl
