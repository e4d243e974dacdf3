-- The lines of a bearer: each shows its job, and each pair that it seals with is one that it draws, where the first
-- segment of a message seals with the pair that the line before it drew.
use Rattle.std.proofs.Common.{◌≡◌, ℕ, ◌+◌, Bool, true, false, List, [], ◌∷◌, ◌++◌, map, length, refl, ap, sym, subst, ◌∙◌, append_assoc, length-append, Option, Some, None, IsTrue}
use Rattle.std.specs.Bool.{⊤}
use Rattle.std.specs.List.{AllByRecursion, cons_option, filter_map, flat_map, slice_get}
use Rattle.std.specs.Option.{option_to_list}
use Rattle.mesh_base.specs.declared.address.Address.{Address}
use Rattle.mesh_base.specs.declared.pair.Pair.{Pair}
use Rattle.mesh_types.specs.declared.events.Event.{Event}
use Rattle.mesh_types.specs.declared.events.Event.TheVariants as E
use Rattle.mesh_types.specs.declared.history.Entry.{Entry}
use Rattle.mesh_types.specs.declared.history.Sent.{Sent}
use Rattle.mesh_types.specs.declared.jobs.Job.{Job}
use Rattle.mesh_types.specs.declared.jobs.Job.TheVariants as J
use Rattle.mesh_types.specs.declared.lines.Outcome.{Outcome}
use Rattle.mesh_types.specs.declared.lines.Outcome.TheVariants as O
use Rattle.store_definitions.specs.Config.{Config}
use Rattle.run_definitions.specs.Lines.{Shows, shows_bcn, shows_ctl, shows_first, shows_late, shows_long, shows_msg, shows_relay, shows_rep, shows_seg, shows_sent, shows_sent_long, shows_spent, after_line, drawn_of, kept_events}
use Rattle.run_definitions.specs.Order.{Placed, Task, Walks, follow, follows, handle, handles, is_outside, job_tasks, stops, write, write_tasks, writes}
use Rattle.report_definitions.specs.Record.{Shown, shown_of}
use Rattle.run_definitions.specs.RunOf.{draws}
use Rattle.event_definitions.proofs.Accepting.{some_is}
use Rattle.run_safety.proofs.Lists.{Sub, kept_part, passed_part, sub_nothing}
use Rattle.event_definitions.proofs.Each.{every_append}
use Rattle.run_safety.specs.SafeRole.{BeginFits, Fine, FirstOf, first_of, Foreign, JobsFit}

-- Tags: a pair, and whether the upper transport layer seals with it, or the network layer.

pub record Tag : Type 0 where
  pub upper : Bool
  pub pair : Pair

abbrev pub upper_tag : Pair → Tag
upper_tag p = record { upper = true; pair = p }

abbrev pub network_tag : Pair → Tag
network_tag p = record { upper = false; pair = p }

-- what a line of this node's own seals with
abbrev pub tags_of : Outcome → List Tag
tags_of (O.Ctl pair ttl src dst tpdu pdu) = network_tag pair ∷ []
tags_of (O.Msg pair ttl src dst key payload pdu) = upper_tag pair ∷ network_tag pair ∷ []
tags_of (O.Long pair ttl src dst key payload) = upper_tag pair ∷ []
tags_of (O.Seg pair ttl src dst seg_o seg_n auth pdu) = network_tag pair ∷ []
tags_of (O.Relay pair ctl ttl src dst tpdu pdu) = []
tags_of (O.Rep name pdu) = []
tags_of (O.Bcn octets) = []
tags_of (O.Spent iv) = []
tags_of (O.Late pair) = []

abbrev pub tags : List Shown → List Tag
tags lines = flat_map (λ s. tags_of s.outcome) lines

-- each pair for both layers
abbrev pub both : Pair → List Tag
both p = upper_tag p ∷ network_tag p ∷ []

abbrev pub doubled : List Pair → List Tag
doubled ps = flat_map both ps

-- what a first segment may still seal with
abbrev pub spare : Option Pair → List Tag
spare None = []
spare (Some p) = network_tag p ∷ []

abbrev pub ForeignJob : Config → Job → Type 0
ForeignJob own (J.Relay material f) = Foreign own f.src
ForeignJob own _ = ⊤

abbrev pub ShownFits : Config → Shown → Type 0
ShownFits own s = Shows s.entry.event s.job s.outcome × ForeignJob own s.job

-- lines, where the pair of the line before may still be sealed with
pub record LinesFit (own : Config) (before : Option Pair) (lines : List Shown) : Type 0 where
  pub sub : Sub Tag (tags lines) (spare before ++ doubled (draws lines))
  pub shown : AllByRecursion (ShownFits own) lines

pub no_lines : (own : Config) (o : Option Pair) → LinesFit own o []
no_lines own o = record { sub = sub_nothing _; shown = tt }

not_sealed : (own : Config) (p : Pair) (lines : List Shown) → LinesFit own None lines → LinesFit own (Some p) lines
not_sealed own p lines h = record { sub = passed_part h.sub; shown = h.shown }

doubled_cons : (o : Option Pair) (ps : List Pair) → doubled (cons_option o ps) ≡ doubled (option_to_list o) ++ doubled ps
doubled_cons None ps = refl
doubled_cons (Some p) ps = refl

-- What is known of a task.

abbrev pub begin_pair : Event → Option Pair
begin_pair (E.Begin m) = Some m.name.pair
begin_pair _ = None

pub record Found (entries : List Entry) (i j : ℕ) (event : Event) (job : Job) : Type 0 where
  pub entry : Entry
  pub at : slice_get entries i ≡ Some entry
  pub job_at : slice_get entry.jobs j ≡ Some job
  pub event_is : entry.event ≡ event

abbrev pub TaskFits : Config → List Entry → Task → Type 0
TaskFits own entries (handle event) = ⊤
TaskFits own entries (follow event) = begin_pair event ≡ None
TaskFits own entries (write i j event job) = Found entries i j event job × Fine own job

-- what is known of all tasks, where the pair of the line before may still be sealed with
pub data Ready (own : Config) (entries : List Entry) : Option Pair → List Task → Type 0 where
  plain : {ts : List Task} → AllByRecursion (TaskFits own entries) ts → Ready own entries None ts
  unused : {p : Pair} {ts : List Task} → AllByRecursion (TaskFits own entries) ts → Ready own entries (Some p) ts
  begins : {p : Pair} {event : Event} {ts : List Task} → begin_pair event ≡ Some p → AllByRecursion (TaskFits own entries) ts → Ready own entries (Some p) (follow event ∷ ts)
  first_ready : {p : Pair} {i j : ℕ} {event : Event} {job : Job} {ts : List Task}
      → Found entries i j event job → FirstOf p job → AllByRecursion (TaskFits own entries) ts → Ready own entries (Some p) (write i j event job ∷ ts)

-- A line of a job that is no first segment.

pub record Step (own : Config) (entries : List Entry) (job : Job) (outcome : Outcome) (ts : List Task) : Type 0 where
  pub next : Option Pair
  pub ready : Ready own entries next (map follow (after_line job outcome) ++ ts)
  pub sub : (more drawn : List Tag) → Sub Tag more (spare next ++ drawn) → Sub Tag (tags_of outcome ++ more) (doubled (option_to_list (drawn_of job outcome)) ++ drawn)

kept_ready : (own : Config) (entries : List Entry) (keep : Option (Address × Bool)) (src : Address) (pair : Pair) (octets : List ℕ) (ts : List Task)
    → AllByRecursion (TaskFits own entries) ts → Ready own entries None (map follow (kept_events keep src pair octets) ++ ts)
kept_ready own entries None src pair octets ts h = plain h
kept_ready own entries (Some poll) src pair octets ts h = plain (refl, h)

spent_after : (job : Job) (iv : ℕ) → after_line job (O.Spent iv) ≡ []
spent_after (J.Relay material f) iv = refl
spent_after (J.Control material ttl src dst tpdu keep) iv = refl
spent_after (J.Message net material key ttl src dst payload keep) iv = refl
spent_after (J.Sent net material key ttl src dst) iv = refl
spent_after (J.Segment s) iv = refl
spent_after (J.Repeat name octets) iv = refl
spent_after (J.Beacon octets) iv = refl

step : (own : Config) (entries : List Entry) (event : Event) (job : Job) (outcome : Outcome) (ts : List Task)
    → Shows event job outcome → Fine own job → AllByRecursion (TaskFits own entries) ts → Step own entries job outcome ts
step own entries event _ _ ts (shows_ctl {src = src} {keep = keep} {pair = pair}) fine h =
    record { next = None; ready = kept_ready own entries keep src pair _ ts h; sub = λ m d s. passed_part (kept_part s) }
step own entries event _ _ ts (shows_msg {src = src} {keep = keep} {pair = pair} short) fine h =
    record { next = None; ready = kept_ready own entries keep src pair _ ts h; sub = λ m d s. kept_part (kept_part s) }
step own entries event _ _ ts (shows_long {pair = pair} long) fine h =
    record { next = Some pair; ready = begins refl h; sub = λ m d s. kept_part s }
step own entries event _ _ ts (shows_sent short) fine h = record { next = None; ready = plain h; sub = λ m d s. kept_part (kept_part s) }
step own entries event _ _ ts (shows_sent_long {pair = pair} long) fine h = record { next = Some pair; ready = begins refl h; sub = λ m d s. kept_part s }
step own entries event _ _ ts (shows_first first) fine h = absurd cc
step own entries event _ _ ts (shows_seg later intime) fine h = record { next = None; ready = plain h; sub = λ m d s. rw later (passed_part (kept_part s)) }
step own entries event _ _ ts (shows_late later late) fine h = record { next = None; ready = plain h; sub = λ m d s. passed_part (passed_part s) }
step own entries event _ _ ts shows_relay fine h = record { next = None; ready = plain h; sub = λ m d s. s }
step own entries event _ _ ts shows_rep fine h = record { next = None; ready = plain h; sub = λ m d s. s }
step own entries event _ _ ts shows_bcn fine h = record { next = None; ready = plain h; sub = λ m d s. s }
step own entries event job _ ts (shows_spent {iv = iv} draws) fine h = record { next = None; ready = rw spent_after (plain h); sub = λ m d s. s }

-- The tasks of an entry's jobs.

found_jobs : (own : Config) (entries : List Entry) (i : ℕ) (e : Entry) (front jobs : List Job)
    → slice_get entries i ≡ Some e → e.jobs ≡ front ++ jobs → AllByRecursion (Fine own) jobs
    → AllByRecursion (TaskFits own entries) (write_tasks i (length front) e.event jobs)
found_jobs own entries i e front [] at is fine = tt
found_jobs own entries i e front (job ∷ jobs) at is fine =
    let rest : AllByRecursion (TaskFits own entries) (write_tasks i (length (front ++ job ∷ [])) e.event jobs) =
    found_jobs own entries i e (front ++ job ∷ []) jobs at (is ∙ sym (append_assoc front (job ∷ []) jobs)) fine.1 in (
      (record { entry = e; at = at; job_at = ap (λ l. slice_get l (length front)) is ∙ got_after front job jobs; event_is = refl }, fine.0),
      subst (λ n. AllByRecursion (TaskFits own entries) (write_tasks i n e.event jobs)) (one_longer front job) rest,
    )
  where
    got_after : (front : List Job) (job : Job) (jobs : List Job) → slice_get (front ++ job ∷ jobs) (length front) ≡ Some job
    got_after [] job jobs = refl
    got_after (x ∷ front) job jobs = got_after front job jobs

    one_longer : (front : List Job) (job : Job) → length (front ++ job ∷ []) ≡ length front + 1
    one_longer front job = length-append front (job ∷ [])

-- an entry at its place, with jobs that fit its event
pub record EntryFits (own : Config) (entries : List Entry) (p : Placed) : Type 0 where
  pub at : slice_get entries p.at ≡ Some p.entry
  pub fits : JobsFit own p.entry.event p.entry.jobs

fits_plain : (own : Config) (event : Event) (jobs : List Job) → begin_pair event ≡ None → JobsFit own event jobs → AllByRecursion (Fine own) jobs
fits_plain own (E.Begin m) jobs e h = absurd cc
fits_plain own (E.Net octets) jobs e h = h
fits_plain own (E.Bcn octets) jobs e h = h
fits_plain own (E.Send element dst ttl key payload) jobs e h = h
fits_plain own (E.Raw dst ttl tpdu) jobs e h = h
fits_plain own (E.Tick ticks) jobs e h = h
fits_plain own (E.Kept lpn fsn name octets) jobs e h = h
fits_plain own (E.LowPower event) jobs e h = h

fits_begin : (own : Config) (event : Event) (p : Pair) (jobs : List Job) → begin_pair event ≡ Some p → JobsFit own event jobs → BeginFits own p jobs
fits_begin own (E.Begin m) p jobs e h = subst (λ q. BeginFits own q jobs) (some_is e) h
fits_begin own (E.Net octets) p jobs e h = absurd cc
fits_begin own (E.Bcn octets) p jobs e h = absurd cc
fits_begin own (E.Send element dst ttl key payload) p jobs e h = absurd cc
fits_begin own (E.Raw dst ttl tpdu) p jobs e h = absurd cc
fits_begin own (E.Tick ticks) p jobs e h = absurd cc
fits_begin own (E.Kept lpn fsn name octets) p jobs e h = absurd cc
fits_begin own (E.LowPower event) p jobs e h = absurd cc

outside_plain : (event : Event) → IsTrue (is_outside event) → begin_pair event ≡ None
outside_plain (E.Begin m) h = absurd cc
outside_plain (E.Net octets) h = refl
outside_plain (E.Bcn octets) h = refl
outside_plain (E.Send element dst ttl key payload) h = refl
outside_plain (E.Raw dst ttl tpdu) h = refl
outside_plain (E.Tick ticks) h = refl
outside_plain (E.Kept lpn fsn name octets) h = refl
outside_plain (E.LowPower event) h = refl

plain_tasks : (own : Config) (entries : List Entry) (p : Placed) (ts : List Task) → EntryFits own entries p → begin_pair p.entry.event ≡ None
    → AllByRecursion (TaskFits own entries) ts → AllByRecursion (TaskFits own entries) (job_tasks p ++ ts)
plain_tasks own entries p ts h e k =
    every_append (TaskFits own entries) (job_tasks p) ts (found_jobs own entries p.at p.entry [] p.entry.jobs h.at refl (fits_plain own p.entry.event p.entry.jobs e h.fits)) k

begin_tasks : (own : Config) (entries : List Entry) (at : ℕ) (e : Entry) (q : Pair) (jobs : List Job) (ts : List Task)
    → slice_get entries at ≡ Some e → e.jobs ≡ jobs → BeginFits own q jobs
    → AllByRecursion (TaskFits own entries) ts → Ready own entries (Some q) (write_tasks at 0 e.event jobs ++ ts)
begin_tasks own entries at e q [] ts h is fits k = unused k
begin_tasks own entries at e q (job ∷ jobs) ts h is fits k =
    first_ready (record { entry = e; at = h; job_at = ap (λ l. slice_get l 0) is; event_is = refl }) fits.0
    (every_append (TaskFits own entries) (write_tasks at 1 e.event jobs) ts (found_jobs own entries at e (job ∷ []) jobs h is fits.1) k)

-- The lines that a bearer writes.

found_shown : (entries : List Entry) (i j : ℕ) (event : Event) (job : Job) (outcome : Outcome) (f : Found entries i j event job)
    → shown_of entries (record { entry = i; job = j; outcome = outcome }) ≡ Some (record { entry = f.entry; job = job; outcome = outcome })
found_shown entries i j event job outcome f = rw f.at (rw f.job_at refl)

fine_foreign : (own : Config) (job : Job) → Fine own job → ForeignJob own job
fine_foreign own (J.Relay material f) h = h
fine_foreign own (J.Control material ttl src dst tpdu keep) h = tt
fine_foreign own (J.Message net material key ttl src dst payload keep) h = tt
fine_foreign own (J.Sent net material key ttl src dst) h = tt
fine_foreign own (J.Segment s) h = tt
fine_foreign own (J.Repeat name octets) h = tt
fine_foreign own (J.Beacon octets) h = tt

line_more : (own : Config) (entries : List Entry) (job : Job) (outcome : Outcome) (ts : List Task) (e : Entry) (lines : List Shown)
    → (s : Step own entries job outcome ts) → Shows e.event job outcome → ForeignJob own job → LinesFit own s.next lines
    → LinesFit own None (record { entry = e; job = job; outcome = outcome } ∷ lines)
line_more own entries job outcome ts e lines s shows foreign h = record {
  sub = rw doubled_cons (s.sub (tags lines) (doubled (draws lines)) h.sub);
  shown = ((shows, foreign), h.shown);
}

-- the first segment of a message seals with the pair that its job names
first_line : (own : Config) (event : Event) (p : Pair) (e : Entry) (job : Job) (outcome : Outcome) (lines : List Shown)
    → FirstOf p job → Shows event job outcome → Shows e.event job outcome → LinesFit own None lines
    → LinesFit own (Some p) (record { entry = e; job = job; outcome = outcome } ∷ lines)
first_line own event p e _ _ lines (first_of first is) (shows_first {s = s} _) shows h =
    record { sub = rw first (subst (λ q. Sub Tag (network_tag s.name.pair ∷ tags lines) (network_tag q ∷ doubled (draws lines))) is (kept_part h.sub)); shown = ((shows, tt), h.shown) }
first_line own event p e _ _ lines (first_of first is) (shows_seg later intime) shows h = absurd cc
first_line own event p e _ _ lines (first_of first is) (shows_late later late) shows h = absurd cc
first_line own event p e _ _ lines (first_of first is) (shows_spent draws) shows h = absurd cc

first_after : (p : Pair) (job : Job) (outcome : Outcome) → FirstOf p job → after_line job outcome ≡ []
first_after p _ outcome (first_of first is) = refl

weaker : (own : Config) (o : Option Pair) (lines : List Shown) → LinesFit own None lines → LinesFit own o lines
weaker own None lines h = h
weaker own (Some p) lines h = not_sealed own p lines h

-- One task of a bearer.

handle_ready : (own : Config) (entries : List Entry) (o : Option Pair) (event : Event) (ts : List Task)
    → Ready own entries o (handle event ∷ ts) → AllByRecursion (TaskFits own entries) ts
handle_ready own entries _ event ts (plain h) = h.1
handle_ready own entries _ event ts (unused h) = h.1

follow_ready : (own : Config) (entries : List Entry) (o : Option Pair) (event : Event) (p : Placed) (ts : List Task)
    → Ready own entries o (follow event ∷ ts) → event ≡ p.entry.event → EntryFits own entries p → Ready own entries o (job_tasks p ++ ts)
follow_ready own entries _ event p ts (plain h) e f = plain (plain_tasks own entries p ts f (ap begin_pair (sym e) ∙ h.0) h.1)
follow_ready own entries _ event p ts (unused h) e f = unused (plain_tasks own entries p ts f (ap begin_pair (sym e) ∙ h.0) h.1)
follow_ready own entries _ event p ts (begins {p = q} b h) e f =
    begin_tasks own entries p.at p.entry q p.entry.jobs ts f.at refl (fits_begin own p.entry.event q p.entry.jobs (ap begin_pair (sym e) ∙ b) f.fits) h

record Written (own : Config) (entries : List Entry) (o : Option Pair) (i j : ℕ) (job : Job) (outcome : Outcome) (ts : List Task) : Type 0 where
  next : Option Pair
  ready : Ready own entries next (map follow (after_line job outcome) ++ ts)
  more : (lines : List Shown) → LinesFit own next lines
      → LinesFit own o (cons_option (shown_of entries (record { entry = i; job = j; outcome = outcome })) lines)

plain_written : (own : Config) (entries : List Entry) (o : Option Pair) (i j : ℕ) (event : Event) (job : Job) (outcome : Outcome) (ts : List Task)
    → Shows event job outcome → Found entries i j event job → Fine own job → AllByRecursion (TaskFits own entries) ts → Written own entries o i j job outcome ts
plain_written own entries o i j event job outcome ts shows found fine h =
    let s : Step own entries job outcome ts = step own entries event job outcome ts shows fine h in
    record {
      next = s.next;
      ready = s.ready;
      more = λ lines k.
          rw (found_shown entries i j event job outcome found)
          (weaker own o _
          (line_more own entries job outcome ts found.entry lines s (subst (λ ev. Shows ev job outcome) (sym found.event_is) shows) (fine_foreign own job fine) k));
    }

write_ready : (own : Config) (entries : List Entry) (o : Option Pair) (i j : ℕ) (event : Event) (job : Job) (outcome : Outcome) (ts : List Task)
    → Shows event job outcome → Ready own entries o (write i j event job ∷ ts) → Written own entries o i j job outcome ts
write_ready own entries _ i j event job outcome ts shows (plain h) = plain_written own entries None i j event job outcome ts shows h.0.0 h.0.1 h.1
write_ready own entries _ i j event job outcome ts shows (unused {p = p} h) = plain_written own entries (Some p) i j event job outcome ts shows h.0.0 h.0.1 h.1
write_ready own entries _ i j event job outcome ts shows (first_ready {p = p} found is h) = record {
  next = None;
  ready = rw (first_after p job outcome is) (plain h);
  more = λ lines k.
      rw (found_shown entries i j event job outcome found)
      (first_line own event p found.entry job outcome lines is shows (subst (λ ev. Shows ev job outcome) (sym found.event_is) shows) k);
}

pub walk : (own : Config) (entries : List Entry) {ts : List Task} {es : List Placed} {ls : List Sent} {left : List Task} (o : Option Pair)
    → Walks ts es ls left → Ready own entries o ts → AllByRecursion (EntryFits own entries) es → LinesFit own o (filter_map (shown_of entries) ls)
walk own entries o stops ready es = no_lines own o
walk own entries o (handles {tasks = ts} p outside w) ready es =
    weaker own o _
    (walk own entries None w
    (plain (plain_tasks own entries p ts es.0 (outside_plain p.entry.event outside) (handle_ready own entries o p.entry.event ts ready))) es.1)
walk own entries o (follows {tasks = ts} p w) ready es = walk own entries o w (follow_ready own entries o p.entry.event p ts ready refl es.0) es.1
walk own entries o (writes {i = i} {j = j} {event = event} {job = job} {outcome = outcome} {tasks = ts} shows w) ready es =
    let s : Written own entries o i j job outcome ts = write_ready own entries o i j event job outcome ts shows ready in
    s.more _ (walk own entries s.next w s.ready es)
