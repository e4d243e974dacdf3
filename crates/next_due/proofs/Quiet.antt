-- A tick event is quiet exactly where nothing ends up to its moment.
use Rattle.std.proofs.Common.{◌≡◌, ◌∙◌, ℕ, true, false, cond, List, [], ◌++◌, refl, ap, sym, subst}
use Rattle.std.specs.List.{flat_map}
use Rattle.layer_states.specs.declared.reassembly.DueAck.{DueAck}
use Rattle.mesh_types.specs.declared.answers.Answer.{Answer}
use Rattle.mesh_types.specs.declared.answers.Answer.TheVariants as A
use Rattle.mesh_types.specs.declared.events.Event.TheVariants as E
use Rattle.mesh_types.specs.declared.jobs.Job.{Job}
use Rattle.node_layers.specs.NodeLayers.{node_layers, published_at}
use Rattle.node_layers.specs.Reassembly.{acks_at, due_jobs}
use Rattle.node_layers.specs.Reassembly as parts
use Rattle.node_layers.specs.Sending.{segments_at}
use Rattle.node_layers.specs.Sending as own
use Rattle.event_definitions.specs.Answers.{config_before, later}
use Rattle.event_definitions.specs.History.{OfNothing, Past, now_of}
use Rattle.event_definitions.specs.Jobs.{beacons_due, jobs_of}
use Rattle.event_definitions.specs.Stores.{stores}
use Rattle.node_models.specs.Ends.{AreModelsQuiet}
use Rattle.next_due.proofs.Nothing.{beacons_none, empty_parts, jobs_are, no_beacons, no_hour, no_records, reset_jobs, reset_stores, stores_are, told}
use Rattle.next_due.proofs.Parts.{still_acks, still_rounds}
use Rattle.next_due.specs.Quiet.{IsQuiet, tick_answer}
use Rattle.next_due.specs.Still.{IsStill}
use Rattle.store_definitions.specs.Config.{Config}

-- nothing is published where nothing of the models is due
no_publication : (past : Past) (c : Config) (ticks now : ℕ) → AreModelsQuiet past now (later past ticks) → published_at past c ticks ≡ []
no_publication past c ticks now h = rw (h.rows, h.heartbeat) refl

module _ (past : Past) (ticks : ℕ) where
  abbrev c : Config
  c = config_before past

  abbrev stored_by : Answer → Type 0
  stored_by answer = stores node_layers past (E.Tick ticks) OfNothing answer ≡ []

  abbrev sent_by : Answer → Type 0
  sent_by answer = jobs_of node_layers past c (E.Tick ticks) OfNothing answer ≡ []

  -- after a Node Reset
  pub quiet_reset : c.reset ≡ true → IsQuiet past ticks
  quiet_reset reset =
      let answer : tick_answer past ticks ≡ A.Reset = told past ticks ∙ ap (λ b. cond b A.Reset (A.Ticked (later past ticks))) reset in
      record {
        stores = subst stored_by (sym answer) (reset_stores past ticks);
        jobs = subst sent_by (sym answer) (reset_jobs past c ticks);
        ends = λ none. absurd cc;
      }

  -- and where there was none
  module _ (goes : c.reset ≡ false) where
    pub time_told : tick_answer past ticks ≡ A.Ticked (later past ticks)
    time_told = told past ticks ∙ ap (λ b. cond b A.Reset (A.Ticked (later past ticks))) goes

    pub quiet_where : IsStill past (later past ticks) → IsQuiet past ticks
    quiet_where h =
        let acks : acks_at past c ticks ≡ [] =
        ap (λ (list : List DueAck). flat_map (due_jobs c) list) (still_acks (later past ticks) (parts.messages past) h.ends.parts) in
        let rounds : segments_at past c ticks ≡ [] = still_rounds c (later past ticks) (own.messages past) h.ends.own in
        let beacons : beacons_due past c ticks ≡ [] = no_beacons past ticks h.beacons in
        let published : published_at past c ticks ≡ [] = no_publication past c ticks (now_of past.told) h.ends.models in
        let all : acks_at past c ticks ++ segments_at past c ticks ++ beacons_due past c ticks ++ published_at past c ticks ≡ [] =
        ap (λ (js : List Job). js ++ segments_at past c ticks ++ beacons_due past c ticks ++ published_at past c ticks) acks
        ∙ ap (λ (js : List Job). js ++ beacons_due past c ticks ++ published_at past c ticks) rounds
        ∙ ap (λ (js : List Job). js ++ published_at past c ticks) beacons
        ∙ published in
        record {
          stores = subst stored_by (sym time_told) (stores_are past ticks (later past ticks) ∙ no_records past ticks h.hour);
          jobs = subst sent_by (sym time_told) (jobs_are past c ticks (later past ticks) ∙ all);
          ends = λ none. h.ends;
        }

    pub still_where : IsQuiet past ticks → IsStill past (later past ticks)
    still_where h =
        let all = sym (jobs_are past c ticks (later past ticks)) ∙ subst sent_by time_told h.jobs in
        let before : List Job = acks_at past c ticks ++ segments_at past c ticks in
        let front = (empty_parts (before ++ beacons_due past c ticks) (published_at past c ticks) all).0 in
        let beacons = (empty_parts before (beacons_due past c ticks) front).1 in
        record {
          hour = no_hour past ticks (sym (stores_are past ticks (later past ticks)) ∙ subst stored_by time_told h.stores);
          beacons = beacons_none past ticks beacons;
          ends = h.ends goes;
        }
