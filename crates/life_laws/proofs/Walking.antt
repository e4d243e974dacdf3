-- The events from outside in what a bearer did.
use Rattle.std.proofs.Common.{◌≡◌, ◌∙◌, ℕ, ◌+◌, true, false, true≢false, List, [], ◌∷◌, ◌++◌, length, map, Option, Some, None, refl, sym, ap, append-nil, Bool}
use Rattle.std.specs.Prelude.{⊤}
use Rattle.std.specs.List.{slice_get}
use Rattle.mesh_base.specs.declared.address.Address.{Address}
use Rattle.mesh_base.specs.declared.pair.Pair.{Pair}
use Rattle.mesh_types.specs.declared.events.Event.{Event}
use Rattle.mesh_types.specs.declared.history.Entry.{Entry}
use Rattle.mesh_types.specs.declared.history.Sent.{Sent}
use Rattle.mesh_types.specs.declared.jobs.Job.{Job}
use Rattle.mesh_types.specs.declared.jobs.Job.TheVariants as J
use Rattle.mesh_types.specs.declared.lines.Outcome.{Outcome}
use Rattle.mesh_types.specs.declared.lines.Outcome.TheVariants as O
use Rattle.run_definitions.specs.Lines.{after_line, kept_events}
use Rattle.run_definitions.specs.Order.{Placed, Task, Walks, follow, follows, handle, handles, is_outside, stops, write, write_tasks, writes}
use Rattle.node_bearer.specs.Did.{IsNext}
use Rattle.node_phase.proofs.Mine.{kept_no, kept_yes}
use Rattle.life_laws.specs.Hands.{outs}

-- the events that tasks have handled
abbrev handles_in : List Task → List Event
handles_in [] = []
handles_in (handle e ∷ tasks) = e ∷ handles_in tasks
handles_in (follow e ∷ tasks) = handles_in tasks
handles_in (write i j e job ∷ tasks) = handles_in tasks

-- what follows a line isn't from outside
abbrev AreInside : List Task → Type 0
AreInside [] = ⊤
AreInside (handle e ∷ tasks) = AreInside tasks
AreInside (follow e ∷ tasks) = (is_outside e ≡ false) × AreInside tasks
AreInside (write i j e job ∷ tasks) = AreInside tasks

handles_writes : (i j : ℕ) (event : Event) (jobs : List Job) (tasks : List Task) → handles_in (write_tasks i j event jobs ++ tasks) ≡ handles_in tasks
handles_writes i j event [] tasks = refl
handles_writes i j event (job ∷ jobs) tasks = handles_writes i (j + 1) event jobs tasks

inside_writes : (i j : ℕ) (event : Event) (jobs : List Job) (tasks : List Task) → AreInside tasks → AreInside (write_tasks i j event jobs ++ tasks)
inside_writes i j event [] tasks h = h
inside_writes i j event (job ∷ jobs) tasks h = inside_writes i (j + 1) event jobs tasks h

handles_follows : (events : List Event) (tasks : List Task) → handles_in (map (λ e. follow e) events ++ tasks) ≡ handles_in tasks
handles_follows [] tasks = refl
handles_follows (e ∷ events) tasks = handles_follows events tasks

inside_kept : (keep : Option (Address × Bool)) (src : Address) (pair : Pair) (octets : List ℕ) (tasks : List Task) → AreInside tasks → AreInside (map (λ e. follow e) (kept_events keep src pair octets) ++ tasks)
inside_kept None src pair octets tasks h = h
inside_kept (Some poll) src pair octets tasks h = (refl, h)

inside_after : (job : Job) (o : Outcome) (tasks : List Task) → AreInside tasks → AreInside (map (λ e. follow e) (after_line job o) ++ tasks)
inside_after (J.Control m ttl src dst tpdu keep) (O.Ctl pair hops from to text octets) tasks h = inside_kept keep from pair octets tasks h
inside_after (J.Message net m key ttl src dst payload keep) (O.Msg pair hops from to name text octets) tasks h = inside_kept keep from pair octets tasks h
inside_after (J.Message net m key ttl src dst payload keep) (O.Long pair hops from to name text) tasks h = (refl, h)
inside_after (J.Sent net m key ttl src dst) (O.Long pair hops from to name text) tasks h = (refl, h)
inside_after _ _ tasks h = h

record Outs (tasks : List Task) (es : List Placed) (left : List Task) : Type 0 where
  pub all : outs (map (λ p. p.entry) es) ++ handles_in left ≡ handles_in tasks
  pub inside : AreInside left

walk_outs : {tasks : List Task} {es : List Placed} {ls : List Sent} {left : List Task} → Walks tasks es ls left → AreInside tasks → Outs tasks es left
walk_outs stops h = record { all = refl; inside = h }
walk_outs (handles {tasks = ts} {es = es} {left = left} p outside w) h =
    let r = walk_outs w (inside_writes p.at 0 p.entry.event p.entry.jobs ts h) in
    record {
      all = ap (λ l. l ++ handles_in left) (kept_yes is_outside p.entry.event (map (λ (e : Entry). e.event) (map (λ (q : Placed). q.entry) es)) outside)
          ∙ ap (λ l. p.entry.event ∷ l) (r.all ∙ handles_writes p.at 0 p.entry.event p.entry.jobs ts);
      inside = r.inside;
    }
walk_outs (follows {tasks = ts} {es = es} {left = left} p w) h =
    let r = walk_outs w (inside_writes p.at 0 p.entry.event p.entry.jobs ts h.1) in
    record {
      all = ap (λ l. l ++ handles_in left) (kept_no is_outside p.entry.event (map (λ (e : Entry). e.event) (map (λ (q : Placed). q.entry) es)) h.0)
          ∙ r.all ∙ handles_writes p.at 0 p.entry.event p.entry.jobs ts;
      inside = r.inside;
    }
walk_outs (writes {job = job} {outcome = o} {tasks = ts} shows w) h =
    let r = walk_outs w (inside_after job o ts h) in
    record { all = r.all ∙ handles_follows (after_line job o) ts; inside = r.inside }

handles_map : (events : List Event) → handles_in (map (λ e. handle e) events) ≡ events
handles_map [] = refl
handles_map (e ∷ events) = ap (λ l. e ∷ l) (handles_map events)

inside_map : (events : List Event) → AreInside (map (λ e. handle e) events)
inside_map [] = tt
inside_map (e ∷ events) = inside_map events

-- all events were handled
pub outs_all : (events : List Event) (es : List Placed) (ls : List Sent) → Walks (map (λ e. handle e) events) es ls [] → outs (map (λ p. p.entry) es) ≡ events
outs_all events es ls w = sym (append-nil (outs (map (λ (p : Placed). p.entry) es))) ∙ (walk_outs w (inside_map events)).all ∙ handles_map events

get_behind : {A : Type 0} (xs : List A) (x : A) (ys : List A) → slice_get (xs ++ x ∷ ys) (length xs) ≡ Some x
get_behind [] x ys = refl
get_behind (z ∷ xs) x ys = get_behind xs x ys

-- the next event from outside stands behind those that were handled
next_by : (events : List Event) (es : List Placed) (event : Event) (left : List Task) → Outs (map (λ e. handle e) events) es left → IsNext event left → is_outside event ≡ true
    → slice_get events (length (outs (map (λ p. p.entry) es))) ≡ Some event
next_by events es event [] r next out = absurd next
next_by events es event (handle e ∷ left) r next out =
    let all : outs (map (λ (p : Placed). p.entry) es) ++ e ∷ handles_in left ≡ events = r.all ∙ handles_map events in
    ap (λ l. slice_get l (length (outs (map (λ (p : Placed). p.entry) es)))) (sym all) ∙ get_behind (outs (map (λ (p : Placed). p.entry) es)) e (handles_in left) ∙ ap Some next.0
next_by events es event (follow e ∷ left) r next out = absurd (true≢false (sym out ∙ ap is_outside (sym next) ∙ r.inside.0))
next_by events es event (write i j e job ∷ left) r next out = absurd next

pub next_out : (events : List Event) (es : List Placed) (ls : List Sent) (event : Event) (left : List Task) → Walks (map (λ e. handle e) events) es ls left → IsNext event left → is_outside event ≡ true
    → slice_get events (length (outs (map (λ p. p.entry) es))) ≡ Some event
next_out events es ls event left w next out = next_by events es event left (walk_outs w (inside_map events)) next out

-- and it is the next task
next_task_by : (events : List Event) (es : List Placed) (event : Event) (left : List Task) → Outs (map (λ e. handle e) events) es left → IsNext event left → is_outside event ≡ true
    → (tasks : List Task) × (left ≡ handle event ∷ tasks)
next_task_by events es event [] r next out = absurd next
next_task_by events es event (handle e ∷ left) r next out = (left, ap (λ x. handle x ∷ left) next.0)
next_task_by events es event (follow e ∷ left) r next out = absurd (true≢false (sym out ∙ ap is_outside (sym next) ∙ r.inside.0))
next_task_by events es event (write i j e job ∷ left) r next out = absurd next

pub next_task : (events : List Event) (es : List Placed) (ls : List Sent) (event : Event) (left : List Task) → Walks (map (λ e. handle e) events) es ls left → IsNext event left → is_outside event ≡ true
    → (tasks : List Task) × (left ≡ handle event ∷ tasks)
next_task events es ls event left w next out = next_task_by events es event left (walk_outs w (inside_map events)) next out
