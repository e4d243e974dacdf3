-- Acknowledgments that are due.
use Rattle.std.proofs.Common.{◌≡◌, ℕ, ◌+◌, ◌%◌, ◌≤◌, ◌^◌, Bool, true, false, cond, List, [], ◌∷◌, map, length, refl, ap, sym, subst, ◌∙◌, arith, Option, Some, None}
use Rattle.std.specs.List.{All, AllByRecursion as Every, cons_option, filter_map, flat_map, range_with_len}
use Rattle.std.specs.Option.{option_map, option_to_list}
use Rattle.std.proofs.lemmas.List.Elements.{All-from_recursion}
use Rattle.event_definitions.specs.Answers.{later}
use Rattle.event_definitions.specs.History.{Past, now_of}
use Rattle.layer_definitions.specs.KeyRefresh.{transmit_material}
use Rattle.layer_definitions.specs.Lower.{acknowledgment, lower_text}
use Rattle.layer_states.specs.Reassembly.{ack_of, block_from, due_ack, is_due, live, seg_n_of}
use Rattle.layer_states.specs.declared.reassembly.Assembly.{Assembly}
use Rattle.layer_states.specs.declared.reassembly.DueAck.{DueAck}
use Rattle.layer_states.specs.declared.reassembly.Timer.{Timer}
use Rattle.mesh_base.proofs.Every.{every_append}
use Rattle.mesh_base.specs.declared.fields.NetMaterial.{NetMaterial}
use Rattle.mesh_types.specs.declared.jobs.Job.TheVariants.{Control}
use Rattle.node_layers.specs.BuiltLayers.{built_layers}
use Rattle.node_layers.specs.ConfiguredLayers.{configured_layers}
use Rattle.node_layers.specs.NodeLayers.{node_layers}
use Rattle.node_layers.specs.Reassembly.{acks_at, due_job, due_jobs, messages}
use Rattle.reassembly_laws.proofs.Calls.{Agrees, agrees_later}
use Rattle.reassembly_laws.proofs.Entries.{past_stays}
use Rattle.reassembly_laws.proofs.Pieces.{IsKind}
use Rattle.reassembly_laws.proofs.Rows.{Absent, Distinct, alive, distinct_live, find_live, find_name, other_name, same_name}
use Rattle.reassembly_laws.specs.Progress.{Acknowledges, AreAcknowledgedSo, IsNodePast, Piece, all_octets, heard_from, octets_at}
use Rattle.store_definitions.specs.Config.{Config}

-- Each message is the one that is found by its name.

tail_found : (r : Assembly) (rows xs : List Assembly) → Every (λ a. find_name a.name rows ≡ Some a) xs → Absent r.name xs
    → Every (λ a. find_name a.name (r ∷ rows) ≡ Some a) xs
tail_found r rows [] h k = tt
tail_found r rows (a ∷ xs) h k = (rw (other_name r.name a.name k.0) h.0, tail_found r rows xs h.1 k.1)

each_found : (rows : List Assembly) → Distinct rows → Every (λ a. find_name a.name rows ≡ Some a) rows
each_found [] h = tt
each_found (r ∷ rows) h = (rw (same_name r.name) refl, tail_found r rows rows (each_found rows h.1) h.0)

acks_are : (past : Past) (c : Config) (ticks : ℕ) → node_layers.acks_due past c ticks ≡ acks_at past c ticks
unfolding node_layers configured_layers built_layers
acks_are past c ticks = refl

module _ (past : Past) (h : IsNodePast past) (c : Config) (now : ℕ) (further : now_of past.told ≤ now) where
  abbrev rows : List Assembly
  rows = live now (messages past)

  distinct : Distinct (messages past)
  distinct = ((past_stays past h).held (record { src = record { 0 = 0 }; pair = record { iv = 0; seq = 0 } })).distinct

  abbrev Known : Assembly → Type 0
  Known a = Agrees now (Some a) (heard_from a.name 0 [] past.told)

  known : (xs : List Assembly) → Every (λ a. find_name a.name rows ≡ Some a) xs → Every Known xs
  known [] k = tt
  known (a ∷ xs) k =
      let held : alive now (find_name a.name (messages past)) ≡ Some a = sym (find_live a.name now (messages past) distinct) ∙ k.0 in (
        subst (λ o. Agrees now o (heard_from a.name 0 [] past.told)) held
            (agrees_later (now_of past.told) now (find_name a.name (messages past)) (heard_from a.name 0 [] past.told) further ((past_stays past h).held a.name).agrees),
        known xs k.1,
      )

  kinds : (a : Assembly) (n : ℕ) (ps : List Piece) → n + 1 ≡ length a.pieces → Every (IsKind a) ps
      → Every (λ (p : Piece). (seg_n_of p.part.part ≡ n) × (p.part.dst.0 ≡ a.dst.0)) ps
  kinds a n [] e k = tt
  kinds a n (p ∷ ps) e k = ((omega (arith, e, k.0.size), k.0.dst), kinds a n ps e k.1)

  one_ack : (a : Assembly) (t : Timer) (m : NetMaterial) (ps : List Piece) → ps ≡ heard_from a.name 0 [] past.told → Agrees now (Some a) ps
      → Acknowledges past now (due_job (ack_of a t) m)
  one_ack a t m [] e k = absurd k.0.last
  one_ack a t m (p ∷ ps) e k =
      let n : ℕ = seg_n_of p.part.part in
      let pieces : a.pieces ≡ all_octets (p ∷ ps) n =
      k.0.pieces ∙ ap (λ l. map (octets_at (p ∷ ps)) (range_with_len 0 l)) (sym k.0.kinds.0.size) in
      record {
        name = a.name;
        heard = p ∷ ps;
        since = e;
        open_still = k.1;
        seg_n = n;
        dst = a.dst;
        pieces = All-from_recursion (λ (q : Piece). (seg_n_of q.part.part ≡ n) × (q.part.dst.0 ≡ a.dst.0)) (p ∷ ps) (kinds a n (p ∷ ps) k.0.kinds.0.size k.0.kinds);
        material = m;
        ttl = t.ttl;
        is = ap (λ l. Control m t.ttl a.dst a.name.src (lower_text (acknowledgment (a.name.pair.seq % 2 ^ 13) (block_from 0 l))) None) pieces;
      }

  ack_jobs : (a : Assembly) (t : Timer) → Known a → Every (Acknowledges past now) (due_jobs c (ack_of a t))
  ack_jobs a t k = by_material (transmit_material c.nets a.net)
    where
      by_material : (o : Option NetMaterial) → Every (Acknowledges past now) (option_to_list (option_map (due_job (ack_of a t)) o))
      by_material None = tt
      by_material (Some m) = (one_ack a t m (heard_from a.name 0 [] past.told) refl k, tt)

  due_or_not : (a : Assembly) (b : Bool) (o : Option Timer) (rest : List DueAck) → Known a → Every (Acknowledges past now) (flat_map (due_jobs c) rest)
      → Every (Acknowledges past now) (flat_map (due_jobs c) (cons_option (cond b (option_map (ack_of a) o) None) rest))
  due_or_not a true (Some t) rest k more = every_append (Acknowledges past now) (due_jobs c (ack_of a t)) (flat_map (due_jobs c) rest) (ack_jobs a t k) more
  due_or_not a true None rest k more = more
  due_or_not a false o rest k more = more

  all_acks : (xs : List Assembly) → Every Known xs → Every (Acknowledges past now) (flat_map (due_jobs c) (filter_map (due_ack now) xs))
  all_acks [] k = tt
  all_acks (a ∷ xs) k = due_or_not a (is_due now a) a.timer (filter_map (due_ack now) xs) k.0 (all_acks xs k.1)

  acks : Every (Acknowledges past now) (flat_map (due_jobs c) (filter_map (due_ack now) rows))
  acks = all_acks rows (known rows (each_found rows (distinct_live now (messages past) distinct)))

pub acknowledged : AreAcknowledgedSo
acknowledged past c ticks h =
    let now : ℕ = later past ticks in
    let wide : now_of past.told ≤ 2 ^ 48 = (past_stays past h).wide in
    subst (All (Acknowledges past now)) (sym (acks_are past c ticks))
    (All-from_recursion (Acknowledges past now) (acks_at past c ticks) (acks past h c now (omega (arith, wide))))
