-- Segments under a key that is held or isn't, and their places.
use Rattle.std.proofs.Common.{◌≡◌, ◌∙◌, ℕ, ◌≤◌, Bool, true, false, cond, List, [], ◌∷◌, ◌++◌, map, filter, refl, ap, sym, arith, Option, Some, None}
use Rattle.std.specs.Prelude.{All}
use Rattle.std.specs.List.{flat_map}
use Rattle.std.specs.Option.{option_map, option_to_list}
use Rattle.std.proofs.lemmas.Grind.{common_steps}
use Rattle.layer_definitions.specs.Lower.{last_segment}
use Rattle.layer_states.specs.Names.{is_unicast}
use Rattle.layer_states.specs.Sending.{pieces_of, round_of}
use Rattle.layer_states.specs.declared.sending.Sending.{Sending}
use Rattle.mesh_base.specs.declared.fields.NetMaterial.{NetMaterial}
use Rattle.mesh_types.specs.declared.answers.Answer.{Answer}
use Rattle.mesh_types.specs.declared.answers.Answer.TheVariants as A
use Rattle.mesh_types.specs.declared.events.Event.TheVariants as E
use Rattle.mesh_types.specs.declared.jobs.Job.{Job}
use Rattle.node_layers.specs.BuiltLayers.{built_layers}
use Rattle.node_layers.specs.ConfiguredLayers.{configured_layers}
use Rattle.node_layers.specs.NodeLayers.{node_layers, published_at}
use Rattle.node_layers.specs.Reassembly.{acks_at}
use Rattle.node_layers.specs.Sending.{round_jobs, segments_at}
use Rattle.event_definitions.specs.History.{Insight, Past}
use Rattle.event_definitions.specs.Jobs.{beacons_due, jobs_of}
use Rattle.segment_sender.proofs.Held.{numbers_up_to}
use Rattle.segment_sender.specs.Held.{has_round}
use Rattle.store_definitions.specs.Config.{Config}

pub under_none : (job : ℕ → NetMaterial → Job) (found : Option NetMaterial) (xs : List ℕ) → found ≡ None
    → flat_map (λ i. option_to_list (option_map (job i) found)) xs ≡ []
under_none job None [] e = refl
under_none job None (x ∷ xs) e = under_none job None xs e
under_none job (Some m) xs e = cc

pub under_some : (job : ℕ → NetMaterial → Job) (found : Option NetMaterial) (m : NetMaterial) (xs : List ℕ) → found ≡ Some m
    → flat_map (λ i. option_to_list (option_map (job i) found)) xs ≡ map (λ i. job i m) xs
under_some job None m xs e = cc
under_some job (Some n) m [] e = refl
under_some job (Some n) m (x ∷ xs) e =
    let same : n ≡ m = cc in
    ap (λ k. job x k ∷ flat_map (λ i. option_to_list (option_map (job i) (Some n))) xs) same
    ∙ ap (λ js. job x m ∷ js) (under_some job (Some n) m xs e)

-- what is sent of a round that is due, or of none
pub of_due : (b : Bool) (f : ℕ → List Job) (xs : List ℕ) → flat_map f (cond b xs []) ≡ cond b (flat_map f xs) []
of_due true f xs = refl
of_due false f xs = refl

-- the places of a round are those of the message
pub places_due : (b : Bool) (s : Sending) → All (λ i. i ≤ last_segment s.message.upper) s.left
    → All (λ i. i ≤ last_segment s.message.upper) (cond b (round_of s) [])
places_due false s left = λ k d h. absurd (omega (arith, h))
places_due true s left =
    elim (is_unicast s.message.dst) as (λ u. All (λ i. i ≤ last_segment s.message.upper) (cond u s.left (pieces_of s.message))) [
      | true ↦ left
      | false ↦ numbers_up_to (last_segment s.message.upper)
    ]

-- the jobs of all messages are those of the messages that send a round
round_of_one : (b : Bool) (f : Sending → List Job) (s : Sending) (xs : List Sending) (ys : List Job) → (b ≡ false → f s ≡ []) → flat_map f xs ≡ ys → flat_map f (cond b (s ∷ xs) xs) ≡ f s ++ ys
round_of_one true f s xs ys h e = ap (λ js. f s ++ js) e
round_of_one false f s xs ys h e = e ∙ ap (λ js. js ++ ys) (sym (h refl))

no_round : (c : Config) (now : ℕ) (s : Sending) → has_round now s ≡ false → round_jobs c now s ≡ []
no_round c now s e = rw e refl

pub rounds_are : (c : Config) (now : ℕ) (rows : List Sending) → flat_map (round_jobs c now) (filter (has_round now) rows) ≡ flat_map (round_jobs c now) rows
rounds_are c now [] = refl
rounds_are c now (s ∷ rows) = round_of_one (has_round now s) (round_jobs c now) s (filter (has_round now) rows) (flat_map (round_jobs c now) rows) (no_round c now s) (rounds_are c now rows)

-- the jobs of a tick
pub jobs_are : (past : Past) (c : Config) (ticks now : ℕ) (insight : Insight)
    → acks_at past c ticks ++ segments_at past c ticks ++ beacons_due past c ticks ++ published_at past c ticks
    ≡ jobs_of node_layers past c (E.Tick ticks) insight (A.Ticked now)
unfolding built_layers configured_layers node_layers jobs_of
jobs_are past c ticks now insight = refl

-- where no time is told there are none
pub no_time_jobs : (past : Past) (c : Config) (ticks : ℕ) (i : Insight) (a : Answer) → ((now : ℕ) → a ≡ A.Ticked now → ⊥) → [] ≡ jobs_of node_layers past c (E.Tick ticks) i a
unfolding jobs_of
no_time_jobs past c ticks i (A.Ticked now) h = absurd (h now refl)
no_time_jobs past c ticks i _ h = refl

-- Jobs put behind others.
pub none_put : (xs ys : List Job) → ys ≡ [] → xs ≡ xs ++ ys
none_put xs ys e = grind (arith, common_steps)

pub one_put : (xs before ys zs : List Job) (j : Job) → xs ≡ before ++ ys → zs ≡ ys ++ j ∷ [] → xs ++ j ∷ [] ≡ before ++ zs
one_put xs before ys zs j e f = grind (arith, common_steps)

pub put_where : (b : Bool) (xs before zs : List Job) → b ≡ true → xs ≡ before ++ zs → xs ≡ before ++ cond b zs []
put_where true xs before zs e f = f
put_where false xs before zs e f = cc

pub none_where : (b : Bool) (xs zs : List Job) → b ≡ false → xs ≡ xs ++ cond b zs []
none_where true xs zs e = cc
none_where false xs zs e = none_put xs [] refl
