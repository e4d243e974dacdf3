-- The plan of a tick event that is quiet.
use Rattle.std.proofs.Common.{◌≡◌, ◌∙◌, ℕ, ◌+◌, ◌≤◌, ◌^◌, false, List, [], map, refl, ap, sym, subst, arith, min}
use Rattle.event_plans.specs.Memory.{AreNodeTablesOf, NodeTablesView, StaysUntil}
use Rattle.event_plans.specs.Plans.{IsPlanned, IsStanding, of_tick}
use Rattle.layer_states.specs.Friends.{after, tick}
use Rattle.mesh_jobs.specs.Publishing.{rows_sent}
use Rattle.mesh_types.specs.declared.answers.Answer.{Answer}
use Rattle.mesh_types.specs.declared.answers.Answer.TheVariants as A
use Rattle.mesh_types.specs.declared.events.Event.TheVariants as E
use Rattle.next_due.proofs.Parts.{still_acks, still_senders}
use Rattle.next_due.proofs.Quiet.{time_told}
use Rattle.next_due.specs.Idle.{idle_plan}
use Rattle.next_due.specs.Quiet.{EndsNothing, IsQuiet}
use Rattle.node_layers.specs.Friendship.{friends}
use Rattle.node_layers.specs.NodeLayers.{node_layers}
use Rattle.node_layers.specs.Reassembly as parts
use Rattle.node_layers.specs.Sending as own
use Rattle.node_layers.specs.Steps.{with_entry}
use Rattle.node_models.specs.Due.{due_row}
use Rattle.node_records.specs.declared.persist.Persist.{Persist}
use Rattle.record_types.specs.declared.records.PublishRow.{PublishRow}
use Rattle.record_types.specs.declared.records.StoreRecord.{StoreRecord}
use Rattle.event_definitions.specs.Answers.{answer_of, config_before, later}
use Rattle.event_definitions.specs.History.{OfNothing, Past, Told, now_of}
use Rattle.event_definitions.specs.Readings.{sees_nothing}
use Rattle.event_definitions.specs.Stores.{stores}
use Rattle.store_definitions.specs.Config.{Config, config_of}

-- what the tables say that waited
abbrev pub HaveWaited : NodeTablesView → NodeTablesView → ℕ → Type 0
HaveWaited old new now =
    (past : Past) (e : Told) (records : List StoreRecord) → AreNodeTablesOf old past → StaysUntil past now → now_of past.told ≤ now
    → e.insight ≡ OfNothing → e.entry.answer ≡ A.Ticked now → e.records ≡ past.records
    → (config_of records).elements ≡ (config_before past).elements → AreNodeTablesOf new (with_entry past.told e records)

module _ (past : Past) (p : Persist) (old new : NodeTablesView) (ticks now : ℕ) (s : IsStanding past p old) (runs : p.reset ≡ false)
    (most : old.hearing.ticks ≤ 2 ^ 48) (is : now ≡ min (2 ^ 48) (old.hearing.ticks + ticks)) (quiet : IsQuiet past ticks)
    (waited : HaveWaited old new now) where
  goes : (config_before past).reset ≡ false
  goes = sym (ap (λ (d : Config). d.reset) s.meaning.config) ∙ runs

  at : now ≡ later past ticks
  at = is ∙ ap (λ n. min (2 ^ 48) (n + ticks)) s.tables.hearing.ticks

  rises : now_of past.told ≤ now
  rises = omega (arith, s.tables.hearing.ticks, most, is)

  ends : EndsNothing past (later past ticks)
  ends = quiet.ends goes

  answer : A.Ticked now ≡ answer_of node_layers past (E.Tick ticks) OfNothing
  answer = ap A.Ticked at ∙ sym (time_told past ticks goes)

  stays : StaysUntil past now
  stays = subst (λ n. StaysUntil past n) (sym at) (record { parts = ends.parts; own = ends.own; friends = ends.friends; rows = ends.models.rows })

  pub planned : IsPlanned past (E.Tick ticks) (of_tick (idle_plan old.hearing.ticks now p.iv)) new
  planned = record {
    sees = sees_nothing {event = E.Tick ticks} refl;
    answer = answer;
    records = sym (subst (λ (a : Answer). stores node_layers past (E.Tick ticks) OfNothing a ≡ []) (sym answer) quiet.stores);
    tables = λ e records event insight told same elements. waited past e records s.tables stays rises insight told same elements;
    basis = (
      record { from = s.tables.hearing.ticks; to = at; iv = ap (λ (c : Config). c.iv) s.meaning.config },
      record {
        due = λ none d unicast. record {
          acks = sym (still_acks (later past ticks) (parts.messages past) ends.parts);
          rounds = sym (still_senders (later past ticks) (own.messages past) ends.own);
          published = record {
            rows = sym (ap (λ (rows : List PublishRow). rows_sent (after (friends past) (tick (later past ticks))).slots
                (map (due_row past d (later past ticks)) rows)) ends.models.rows);
            heartbeat = sym ends.models.heartbeat;
          };
        };
        held = λ k d l. absurd (omega (arith, l));
      },
    );
  }
