-- Where the events of a bearer's entries come from, and its lines. A message that begins goes from the source of a job of an entry before it;
-- and each line is of a job that stands in the history.
use Rattle.std.proofs.Common.{◌≡◌, ℕ, ◌+◌, ◌<◌, Bool, true, false, cond, eqb, List, [], ◌∷◌, ◌++◌, map, length, refl, ap, sym, subst, ◌∙◌, append_assoc, length-append, eq-eqb, arith, Option, Some, None, IsTrue}
use Rattle.std.specs.Bool.{⊤}
use Rattle.std.specs.Prelude.{slice_get}
use Rattle.std.specs.List.{AllByRecursion as Every, flat_map}
use Rattle.mesh_base.specs.declared.address.Address.{Address}
use Rattle.mesh_base.specs.declared.pair.Pair.{Pair}
use Rattle.mesh_types.specs.declared.events.Event.{Event}
use Rattle.mesh_types.specs.declared.events.Event.TheVariants as E
use Rattle.mesh_types.specs.declared.history.Entry.{Entry}
use Rattle.mesh_types.specs.declared.history.Sent.{Sent}
use Rattle.mesh_types.specs.declared.jobs.Job.{Job}
use Rattle.mesh_types.specs.declared.jobs.Job.TheVariants as J
use Rattle.mesh_types.specs.declared.lines.Outcome.{Outcome}
use Rattle.mesh_types.specs.declared.lines.Outcome.TheVariants as O
use Rattle.report_definitions.specs.Record.{Life, list_at}
use Rattle.event_definitions.specs.Fit.{IsOwn}
use Rattle.run_definitions.specs.Lines.{Shows, shows_bcn, shows_ctl, shows_first, shows_late, shows_long, shows_msg, shows_relay, shows_rep, shows_seg, shows_sent, shows_sent_long, shows_spent, after_line, kept_events}
use Rattle.run_definitions.specs.Order.{Does, IsOrdered, Part, PartsOf, Placed, Step, Task, Walks, broken, ends, follow, follows, handle, handles, is_outside, job_tasks, of_bearer, phases_of, placed_from, stops, whole, write, write_tasks, writes}
use Rattle.run_definitions.specs.RunOf.{IsIdle, is_on}
use Rattle.run_safety.proofs.Lists.{Apart}
use Rattle.event_definitions.proofs.Each.{every_append, every_back, every_front, every_map}
use Rattle.run_safety.proofs.Walking.{Found}
use Rattle.store_definitions.specs.Config.{Config, is_element}
use Rattle.audit_laws.specs.Laws.{NamesElement}
use Rattle.audit_laws.proofs.Parts.{apart_back, apart_filter, apart_front, every_filter, every_list_at}

-- a source is that of a job of an entry before this place
pub record Comes (entries : List Entry) (before : ℕ) (src : Address) : Type 0 where
  pub place : ℕ
  pub below : place < before
  pub entry : Entry
  pub at : slice_get entries place ≡ Some entry
  pub job_place : ℕ
  pub job : Job
  pub job_at : slice_get entry.jobs job_place ≡ Some job
  pub own : (c : Config) → IsOwn c job → is_element c src.0 ≡ true

-- the event of the entry at a place
abbrev pub Origin : ℕ → List Entry → ℕ → Event → Type 0
Origin elements entries at (E.Send element dst ttl key payload) = element < elements
Origin elements entries at (E.Begin m) = Comes entries at m.name.src
Origin elements entries at _ = ⊤

abbrev pub HasOrigin : ℕ → List Entry → Placed → Type 0
HasOrigin elements entries p = Origin elements entries p.at p.entry.event

-- a line shows a job of an entry
pub record IsShown (entries : List Entry) (s : Sent) : Type 0 where
  pub event : Event
  pub job : Job
  pub found : Found entries s.entry s.job event job
  pub shows : Shows event job s.outcome

abbrev pub IsAt : List Entry → Placed → Type 0
IsAt entries p = slice_get entries p.at ≡ Some p.entry

abbrev pub Earlier : Placed → Placed → Type 0
Earlier p q = p.at < q.at

-- What is known of a task, where these entries are still to be made.

abbrev Begins : List Entry → List Placed → Event → Type 0
Begins entries es (E.Begin m) = Every (λ (q : Placed). Comes entries q.at m.name.src) es
Begins entries es (E.Kept lpn fsn name octets) = ⊤
Begins entries es _ = ⊥

abbrev TaskOf : ℕ → List Entry → List Placed → Task → Type 0
TaskOf elements entries es (handle event) = NamesElement elements event
TaskOf elements entries es (follow event) = Begins entries es event
TaskOf elements entries es (write i j event job) = Found entries i j event job × Every (λ (q : Placed). i < q.at) es

record Walked (elements : ℕ) (entries : List Entry) (es : List Placed) (ls : List Sent) : Type 0 where
  origins : Every (HasOrigin elements entries) es
  shown : Every (IsShown entries) ls

module _ (elements : ℕ) (entries : List Entry) where
  fewer : (p : Placed) (es : List Placed) (task : Task) → TaskOf elements entries (p ∷ es) task → TaskOf elements entries es task
  fewer p es (handle event) h = h
  fewer p es (follow event) h = fewer_begins event h
    where
      fewer_begins : (event : Event) → Begins entries (p ∷ es) event → Begins entries es event
      fewer_begins (E.Begin m) h = h.1
      fewer_begins (E.Kept lpn fsn name octets) h = tt
      fewer_begins (E.LowPower event) h = h
      fewer_begins (E.Net octets) h = h
      fewer_begins (E.Bcn octets) h = h
      fewer_begins (E.Send element dst ttl key payload) h = h
      fewer_begins (E.Raw dst ttl tpdu) h = h
      fewer_begins (E.Tick ticks) h = h
  fewer p es (write i j event job) h = (h.0, h.1.1)

  all_fewer : (p : Placed) (es : List Placed) (ts : List Task) → Every (TaskOf elements entries (p ∷ es)) ts → Every (TaskOf elements entries es) ts
  all_fewer p es ts h = every_map (TaskOf elements entries (p ∷ es)) (TaskOf elements entries es) (fewer p es) ts h

  -- the tasks of an entry's jobs
  jobs_found : (es : List Placed) (i : ℕ) (e : Entry) (front jobs : List Job) → slice_get entries i ≡ Some e → e.jobs ≡ front ++ jobs → Every (λ (q : Placed). i < q.at) es
      → Every (TaskOf elements entries es) (write_tasks i (length front) e.event jobs)
  jobs_found es i e front [] at is h = tt
  jobs_found es i e front (job ∷ jobs) at is h =
      let rest : Every (TaskOf elements entries es) (write_tasks i (length (front ++ job ∷ [])) e.event jobs) =
      jobs_found es i e (front ++ job ∷ []) jobs at (is ∙ sym (append_assoc front (job ∷ []) jobs)) h in (
        (record { entry = e; at = at; job_at = ap (λ l. slice_get l (length front)) is ∙ got_after front job jobs; event_is = refl }, h),
        subst (λ n. Every (TaskOf elements entries es) (write_tasks i n e.event jobs)) (length-append front (job ∷ [])) rest,
      )
    where
      got_after : (front : List Job) (job : Job) (jobs : List Job) → slice_get (front ++ job ∷ jobs) (length front) ≡ Some job
      got_after [] job jobs = refl
      got_after (x ∷ front) job jobs = got_after front job jobs

  entry_tasks : (p : Placed) (es : List Placed) (ts : List Task) → IsAt entries p → Every (Earlier p) es → Every (TaskOf elements entries (p ∷ es)) ts
      → Every (TaskOf elements entries es) (job_tasks p ++ ts)
  entry_tasks p es ts at h k =
      every_append (TaskOf elements entries es) (job_tasks p) ts (jobs_found es p.at p.entry [] p.entry.jobs at refl h) (all_fewer p es ts k)

  -- what follows a line
  spent_after : (job : Job) (iv : ℕ) → after_line job (O.Spent iv) ≡ []
  spent_after (J.Relay material f) iv = refl
  spent_after (J.Control material ttl src dst tpdu keep) iv = refl
  spent_after (J.Message net material key ttl src dst payload keep) iv = refl
  spent_after (J.Sent net material key ttl src dst) iv = refl
  spent_after (J.Segment s) iv = refl
  spent_after (J.Repeat name octets) iv = refl
  spent_after (J.Beacon octets) iv = refl

  kept_follows : (es : List Placed) (keep : Option (Address × Bool)) (src : Address) (pair : Pair) (octets : List ℕ)
      → Every (TaskOf elements entries es) (map follow (kept_events keep src pair octets))
  kept_follows es None src pair octets = tt
  kept_follows es (Some poll) src pair octets = (tt, tt)

  comes_later : (es : List Placed) (i j : ℕ) (event : Event) (job : Job) (src : Address) → Found entries i j event job → ((c : Config) → IsOwn c job → is_element c src.0 ≡ true)
      → Every (λ (q : Placed). i < q.at) es → Every (λ (q : Placed). Comes entries q.at src) es
  comes_later es i j event job src f own h =
      every_map (λ (q : Placed). i < q.at) (λ (q : Placed). Comes entries q.at src)
      (λ q l. record { place = i; below = l; entry = f.entry; at = f.at; job_place = j; job = job; job_at = f.job_at; own = own }) es h

  line_follows : (es : List Placed) (i j : ℕ) (event : Event) (job : Job) (outcome : Outcome) → Shows event job outcome → Found entries i j event job
      → Every (λ (q : Placed). i < q.at) es → Every (TaskOf elements entries es) (map follow (after_line job outcome))
  line_follows es i j event _ _ (shows_ctl {src = src} {keep = keep} {pair = pair}) f h = kept_follows es keep src pair _
  line_follows es i j event _ _ (shows_msg {src = src} {keep = keep} {pair = pair} short) f h = kept_follows es keep src pair _
  line_follows es i j event job _ (shows_long {src = src} long) f h = (comes_later es i j event job src f (λ c o. o) h, tt)
  line_follows es i j event _ _ (shows_sent short) f h = tt
  line_follows es i j event job _ (shows_sent_long {src = src} long) f h = (comes_later es i j event job src f (λ c o. o) h, tt)
  line_follows es i j event _ _ (shows_first first) f h = tt
  line_follows es i j event _ _ (shows_seg later intime) f h = tt
  line_follows es i j event _ _ (shows_late later late) f h = tt
  line_follows es i j event _ _ shows_relay f h = tt
  line_follows es i j event _ _ shows_rep f h = tt
  line_follows es i j event _ _ shows_bcn f h = tt
  line_follows es i j event job _ (shows_spent {iv = iv} draws) f h = rw spent_after tt

  -- an event from outside, and one that follows a line
  outside_origin : (at : ℕ) (event : Event) → IsTrue (is_outside event) → NamesElement elements event → Origin elements entries at event
  outside_origin at (E.Send element dst ttl key payload) o h = h
  outside_origin at (E.Begin m) o h = absurd cc
  outside_origin at (E.Net octets) o h = tt
  outside_origin at (E.Bcn octets) o h = tt
  outside_origin at (E.Raw dst ttl tpdu) o h = tt
  outside_origin at (E.Tick ticks) o h = tt
  outside_origin at (E.Kept lpn fsn name octets) o h = tt
  outside_origin at (E.LowPower event) o h = tt

  begun_origin : (p : Placed) (es : List Placed) (event : Event) → Begins entries (p ∷ es) event → Origin elements entries p.at event
  begun_origin p es (E.Begin m) h = h.0
  begun_origin p es (E.Kept lpn fsn name octets) h = tt
  begun_origin p es (E.LowPower event) h = absurd h
  begun_origin p es (E.Net octets) h = absurd h
  begun_origin p es (E.Bcn octets) h = absurd h
  begun_origin p es (E.Send element dst ttl key payload) h = absurd h
  begun_origin p es (E.Raw dst ttl tpdu) h = absurd h
  begun_origin p es (E.Tick ticks) h = absurd h

  walk : {ts : List Task} {es : List Placed} {ls : List Sent} {left : List Task} → Walks ts es ls left
      → Every (TaskOf elements entries es) ts → Every (IsAt entries) es → Apart Earlier es → Walked elements entries es ls
  walk stops k at r = record { origins = tt; shown = tt }
  walk (handles {tasks = ts} {es = es} p outside w) k at r =
      let rest = walk w (entry_tasks p es ts at.0 r.0 k.1) at.1 r.1 in
      record { origins = (outside_origin p.at p.entry.event outside k.0, rest.origins); shown = rest.shown }
  walk (follows {tasks = ts} {es = es} p w) k at r =
      let rest = walk w (entry_tasks p es ts at.0 r.0 k.1) at.1 r.1 in
      record { origins = (begun_origin p es p.entry.event k.0, rest.origins); shown = rest.shown }
  walk (writes {i = i} {j = j} {event = event} {job = job} {outcome = outcome} {tasks = ts} {es = es} shows w) k at r =
      let rest = walk w (every_append (TaskOf elements entries es) (map follow (after_line job outcome)) ts (line_follows es i j event job outcome shows k.0.0 k.0.1) k.1) at r in
      record { origins = rest.origins; shown = (record { event = event; job = job; found = k.0.0; shows = shows }, rest.shown) }

  -- All bearers of a part, and all parts.

  outside_tasks : (es : List Placed) (events : List Event) → Every (NamesElement elements) events → Every (TaskOf elements entries es) (map handle events)
  outside_tasks es [] h = tt
  outside_tasks es (e ∷ more) h = (h.0, outside_tasks es more h.1)

  does_walk : (events : List (List Event)) (part : Part) (k : ℕ) (left : List Task) → Does events part k left → Every (Every (NamesElement elements)) events
      → Every (IsAt entries) part.entries → Apart Earlier part.entries → Walked elements entries (of_bearer k part.entries) (list_at part.sends k)
  does_walk events part k left w h at r =
      walk w (outside_tasks (of_bearer k part.entries) (list_at events k) (every_list_at (NamesElement elements) events k h)) (every_filter (IsAt entries) _ part.entries at)
      (apart_filter Earlier _ part.entries r)

  each_bearer : (P : Placed → Type 0) (ps : List Placed) → ((k : ℕ) → Every P (of_bearer k ps)) → Every P ps
  each_bearer P [] h = tt
  each_bearer P (p ∷ ps) h = (of_own (h p.entry.bearer), each_bearer P ps (λ k. without (eqb p.entry.bearer k) (of_bearer k ps) (h k)))
    where
      of_own : Every P (of_bearer p.entry.bearer (p ∷ ps)) → P p
      of_own own = let yes : eqb p.entry.bearer p.entry.bearer ≡ true = eq-eqb p.entry.bearer p.entry.bearer refl in (rw yes at own).0

      without : (b : Bool) (qs : List Placed) → Every P (cond b (p ∷ qs) qs) → Every P qs
      without true qs k = k.1
      without false qs k = k

  record Through (parts : List Part) : Type 0 where
    origins : Every (HasOrigin elements entries) (flat_map (λ part. part.entries) parts)
    shown : (k : ℕ) → Every (IsShown entries) (flat_map (λ part. list_at part.sends k) parts)

  parts_walk : {cut : Bool} {phases : List (List (List Event))} {parts : List Part} → PartsOf cut phases parts → Every (Every (Every (NamesElement elements))) phases
      → Every (IsAt entries) (flat_map (λ part. part.entries) parts) → Apart Earlier (flat_map (λ part. part.entries) parts) → Through parts
  parts_walk ends h at r = record { origins = tt; shown = λ k. tt }
  parts_walk (whole {events = events} {part = part} {parts = parts} does more) h at r =
      let here : (k : ℕ) → Walked elements entries (of_bearer k part.entries) (list_at part.sends k) =
      λ k. does_walk events part k [] (does k) h.0 (every_front (IsAt entries) part.entries _ at) (apart_front Earlier part.entries _ r) in
      let rest : Through parts = parts_walk more h.1 (every_back (IsAt entries) part.entries _ at) (apart_back Earlier part.entries _ r) in
      record {
        origins = every_append (HasOrigin elements entries) part.entries _ (each_bearer (HasOrigin elements entries) part.entries (λ k. (here k).origins)) rest.origins;
        shown = λ k. every_append (IsShown entries) (list_at part.sends k) _ (here k).shown (rest.shown k);
      }
  parts_walk (broken {events = events} {part = part} does) h at r =
      let here : (k : ℕ) → Walked elements entries (of_bearer k part.entries) (list_at part.sends k) =
      λ k. does_walk events part k (does k).left (does k).does h.0 (every_front (IsAt entries) part.entries _ at) (apart_front Earlier part.entries _ r) in
      record {
        origins = every_append (HasOrigin elements entries) part.entries [] (each_bearer (HasOrigin elements entries) part.entries (λ k. (here k).origins)) tt;
        shown = λ k. every_append (IsShown entries) (list_at part.sends k) [] (here k).shown tt;
      }

-- The entries at their places.

placed_at : (entries front es : List Entry) → entries ≡ front ++ es → Every (IsAt entries) (placed_from (length front) es)
placed_at entries front [] is = tt
placed_at entries front (e ∷ es) is = (
  ap (λ l. slice_get l (length front)) is ∙ got_after front e es,
  subst (λ n. Every (IsAt entries) (placed_from n es)) (length-append front (e ∷ [])) (placed_at entries (front ++ e ∷ []) es (is ∙ sym (append_assoc front (e ∷ []) es))),
)
  where
    got_after : (front : List Entry) (e : Entry) (es : List Entry) → slice_get (front ++ e ∷ es) (length front) ≡ Some e
    got_after [] e es = refl
    got_after (x ∷ front) e es = got_after front e es

later_places : (m n : ℕ) (es : List Entry) → m < n → Every (λ (q : Placed). m < q.at) (placed_from n es)
later_places m n [] h = tt
later_places m n (e ∷ es) h = (h, later_places m (n + 1) es (omega arith))

placed_rise : (n : ℕ) (es : List Entry) → Apart Earlier (placed_from n es)
placed_rise n [] = tt
placed_rise n (e ∷ es) = (later_places n (n + 1) es (omega arith), placed_rise (n + 1) es)

-- A whole life.

pub record Traced (elements : ℕ) (l : Life) : Type 0 where
  pub origins : Every (HasOrigin elements l.entries) (placed_from 0 l.entries)
  pub shown : (k : ℕ) → Every (IsShown l.entries) (list_at l.sends k)

ordered_traced : (elements : ℕ) (plan : List Step) (l : Life) → Every (Every (Every (NamesElement elements))) (phases_of plan) → IsOrdered plan l → Traced elements l
ordered_traced elements plan l h o =
    let at = subst (Every (IsAt l.entries)) o.entries (placed_at l.entries [] l.entries refl) in
    let rise = subst (Apart Earlier) o.entries (placed_rise 0 l.entries) in
    let through : Through elements l.entries o.parts = parts_walk elements l.entries o.phases h at rise in
    record {
      origins = subst (Every (HasOrigin elements l.entries)) (sym o.entries) through.origins;
      shown = λ k. subst (Every (IsShown l.entries)) (sym (o.sends k)) (through.shown k);
    }

idle_traced : (elements : ℕ) (l : Life) → IsIdle l → Traced elements l
idle_traced elements l h = record {
  origins = subst (λ es. Every (HasOrigin elements l.entries) (placed_from 0 es)) (sym h.entries) tt;
  shown = λ k. subst (Every (IsShown l.entries)) (sym (h.sends k)) tt;
}

pub life_traced : (elements : ℕ) (plan : List Step) (l : Life) → Every (Every (Every (NamesElement elements))) (phases_of plan) → (is_on l.opened ≡ true → IsOrdered plan l)
    → (is_on l.opened ≡ false → IsIdle l) → Traced elements l
life_traced elements plan l h order idle = by_opening (is_on l.opened) refl
  where
    by_opening : (b : Bool) → is_on l.opened ≡ b → Traced elements l
    by_opening true e = ordered_traced elements plan l h (order e)
    by_opening false e = idle_traced elements l (idle e)
