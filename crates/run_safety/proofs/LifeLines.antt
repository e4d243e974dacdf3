-- The lines of all bearers of a life.
use Rattle.std.proofs.Common.{◌≡◌, ℕ, suc, ◌+◌, Bool, true, false, cond, List, [], ◌∷◌, ◌++◌, map, length, refl, ap, sym, subst, ◌∙◌, append_assoc, append-nil, length-append, Some, None}
use Rattle.std.specs.List.{AllByRecursion, filter_map, flat_map, slice_get}
use Rattle.std.proofs.lemmas.Grind.{flat_map-append}
use Rattle.std.proofs.lemmas.List.Elements.{filter_map-append}
use Rattle.mesh_types.specs.declared.events.Event.{Event}
use Rattle.mesh_types.specs.declared.history.Entry.{Entry}
use Rattle.mesh_types.specs.declared.history.Sent.{Sent}
use Rattle.record_types.specs.declared.records.StoreRecord.{StoreRecord}
use Rattle.store_definitions.specs.Config.{Config, config_of}
use Rattle.event_definitions.specs.History.{Told}
use Rattle.event_definitions.specs.Role.{Role}
use Rattle.run_definitions.specs.Order.{Does, IsOrdered, Part, PartsOf, Placed, Step, Task, broken, ends, handle, of_bearer, placed_from, whole}
use Rattle.report_definitions.specs.Record.{Life, Shown, list_at, shown, shown_of}
use Rattle.run_definitions.specs.RunOf.{is_on}
use Rattle.run_safety.specs.Rules.{LifeBy, enough_rules}
use Rattle.run_safety.specs.SafeRole.{HeardFits, IsSafeRole, JobsFit}
use Rattle.run_safety.proofs.Lists.{sub_append}
use Rattle.event_definitions.proofs.Each.{every_append, every_back, every_front}
use Rattle.run_safety.proofs.Lives.{left_in_range}
use Rattle.run_safety.proofs.Rising.{Later, Rise, later_after, rise_later}
use Rattle.run_safety.proofs.Handled.{rise_filled}
use Rattle.run_safety.proofs.Names.{InRange, entry_rises, first_in_range}
use Rattle.run_safety.proofs.Sending.{foreign_in}
use Rattle.event_definitions.specs.Answers.{is_before_cache}
use Rattle.event_definitions.specs.Handling.{AreHandled, past_of, records_after, records_left}
use Rattle.run_safety.proofs.Walking.{EntryFits, LinesFit, ShownFits, TaskFits, no_lines, plain, tags_of, walk}

lines_append : (own : Config) (xs ys : List Shown) → LinesFit own None xs → LinesFit own None ys → LinesFit own None (xs ++ ys)
lines_append own xs ys h k = record {
  sub = rw (flat_map-append (λ (x : Shown). tags_of x.outcome) xs ys, filter_map-append, flat_map-append) (sub_append h.sub k.sub);
  shown = every_append (ShownFits own) xs ys h.shown k.shown;
}

-- A bearer in the parts of the phases.

handle_tasks : (own : Config) (entries : List Entry) (events : List Event) → AllByRecursion (TaskFits own entries) (map handle events)
handle_tasks own entries [] = tt
handle_tasks own entries (e ∷ es) = (tt, handle_tasks own entries es)

of_bearer_fit : (own : Config) (entries : List Entry) (k : ℕ) (ps : List Placed) → AllByRecursion (EntryFits own entries) ps → AllByRecursion (EntryFits own entries) (of_bearer k ps)
of_bearer_fit own entries k [] h = tt
of_bearer_fit own entries k (p ∷ ps) h = fit_pick own entries _ p _ h.0 (of_bearer_fit own entries k ps h.1)
  where
    fit_pick : (own : Config) (entries : List Entry) (b : Bool) (p : Placed) (ps : List Placed) → EntryFits own entries p → AllByRecursion (EntryFits own entries) ps
        → AllByRecursion (EntryFits own entries) (cond b (p ∷ ps) ps)
    fit_pick own entries true p ps h k = (h, k)
    fit_pick own entries false p ps h k = k

does_lines : (own : Config) (entries : List Entry) (events : List (List Event)) (part : Part) (k : ℕ) (left : List Task)
    → Does events part k left → AllByRecursion (EntryFits own entries) part.entries → LinesFit own None (filter_map (shown_of entries) (list_at part.sends k))
does_lines own entries events part k left w h = walk own entries None w (plain (handle_tasks own entries (list_at events k))) (of_bearer_fit own entries k part.entries h)

parts_lines : (own : Config) (entries : List Entry) {cut : Bool} {phases : List (List (List Event))} {parts : List Part} (k : ℕ)
    → PartsOf cut phases parts → AllByRecursion (EntryFits own entries) (flat_map (λ part. part.entries) parts)
    → LinesFit own None (filter_map (shown_of entries) (flat_map (λ part. list_at part.sends k) parts))
parts_lines own entries k ends h = no_lines own None
parts_lines own entries k (whole {events = events} {part = part} {parts = parts} does more) h =
    rw filter_map-append
    (lines_append own _ _ (does_lines own entries events part k [] (does k) (every_front (EntryFits own entries) part.entries _ h))
    (parts_lines own entries k more (every_back (EntryFits own entries) part.entries _ h)))
parts_lines own entries k (broken {events = events} {part = part} does) h =
    rw append-nil (does_lines own entries events part k (does k).left (does k).does (every_front (EntryFits own entries) part.entries _ h))

-- The entries at their places.

got_after : (front : List Entry) (e : Entry) (es : List Entry) → slice_get (front ++ e ∷ es) (length front) ≡ Some e
got_after [] e es = refl
got_after (x ∷ front) e es = got_after front e es

one_longer : (front : List Entry) (e : Entry) → length (front ++ e ∷ []) ≡ length front + 1
one_longer front e = length-append front (e ∷ [])

placed_fit : (own : Config) (entries front es : List Entry) → entries ≡ front ++ es → AllByRecursion (λ (e : Entry). JobsFit own e.event e.jobs) es
    → AllByRecursion (EntryFits own entries) (placed_from (length front) es)
placed_fit own entries front [] is h = tt
placed_fit own entries front (e ∷ es) is h = (
  record { at = ap (λ l. slice_get l (length front)) is ∙ got_after front e es; fits = h.0 },
  subst (λ n. AllByRecursion (EntryFits own entries) (placed_from n es)) (one_longer front e)
      (placed_fit own entries (front ++ e ∷ []) es (is ∙ sym (append_assoc front (e ∷ []) es)) h.1),
)

-- All bearers.

each_bearer : (own : Config) (entries : List Entry) (sends : List (List Sent)) → ((k : ℕ) → LinesFit own None (filter_map (shown_of entries) (list_at sends k)))
    → LinesFit own None (flat_map (filter_map (shown_of entries)) sends)
each_bearer own entries [] h = no_lines own None
each_bearer own entries (x ∷ xs) h = lines_append own (filter_map (shown_of entries) x) _ (h 0) (each_bearer own entries xs (λ k. h (suc k)))

told_fit : (own : Config) (told : List Told) → AllByRecursion (λ (t : Told). JobsFit own t.entry.event t.entry.jobs) told
    → AllByRecursion (λ (e : Entry). JobsFit own e.event e.jobs) (map (λ t. t.entry) told)
told_fit own [] h = tt
told_fit own (t ∷ ts) h = (h.0, told_fit own ts h.1)

-- The jobs of each entry.

pub entries_fit : (role : Role) → IsSafeRole role → (own : Config) (records : List StoreRecord) (before ts : List Told)
    → AreHandled role records before ts → InRange (records_left role records before ts) → Later own (config_of records)
    → AllByRecursion (HeardFits own) before → AllByRecursion (λ t. JobsFit own t.entry.event t.entry.jobs) ts
entries_fit role safe own records before [] h r k heard = tt
entries_fit role safe own records before (t ∷ ts) h r k heard =
    let here : InRange (records_after role (past_of before t) t) = first_in_range role records before t ts h r in
    let filled : Later own (config_of t.records) =
    later_after own (config_of records) (config_of t.records) k (rise_later (subst (λ l. Rise records l) (sym h.0) (rise_filled t.entry.fills records))) in
    let after : Later own (config_of (records_after role (past_of before t) t)) =
    later_after own (config_of t.records) _ filled (rise_later (entry_rises role safe before t h.1 here)) in
    let this : HeardFits own t = λ r low opening is passed.
    foreign_in own (config_of t.records) r.fields.src filled
    (safe.heard (past_of before t) t.entry.event t.insight h.1.sees r low opening is (ap is_before_cache (sym h.1.answer) ∙ passed)) in
    let fits : JobsFit own t.entry.event (role.jobs (past_of before t) (config_of (records_after role (past_of before t) t)) t.entry.event t.insight t.entry.answer) =
    safe.jobs own _ (past_of before t) t.entry.event t.insight t.entry.answer heard this in (
      subst (JobsFit own t.entry.event) (sym h.1.jobs) fits,
      entries_fit role safe own (records_after role (past_of before t) t) (before ++ t ∷ []) ts h.2 r after (every_append (HeardFits own) before (t ∷ []) heard (this, tt)),
    )

module _ (role : Role) (safe : IsSafeRole role) (plan : List Step) (over : List StoreRecord) (l : Life) (next : List StoreRecord) (h : LifeBy enough_rules role plan over l next)
    (own : Config) (later : Later own (config_of over)) where
  entries_fits : AllByRecursion (λ (e : Entry). JobsFit own e.event e.jobs) l.entries
  entries_fits =
      subst (AllByRecursion (λ (e : Entry). JobsFit own e.event e.jobs)) h.entries
      (told_fit own h.told (entries_fit role safe own over [] h.told h.handled (left_in_range role safe plan over l next h) later tt))

  on_lines : IsOrdered plan l → (k : ℕ) → LinesFit own None (filter_map (shown_of l.entries) (list_at l.sends k))
  on_lines o k =
      let placed : AllByRecursion (EntryFits own l.entries) (flat_map (λ part. part.entries) o.parts) =
      subst (AllByRecursion (EntryFits own l.entries)) o.entries (placed_fit own l.entries [] l.entries refl entries_fits) in
      rw o.sends (parts_lines own l.entries k o.phases placed)

  each_lines : (b : Bool) → is_on l.opened ≡ b → (k : ℕ) → LinesFit own None (filter_map (shown_of l.entries) (list_at l.sends k))
  each_lines true e k = on_lines (h.order e) k
  each_lines false e k = rw (h.idle e k) (no_lines own None)

  -- the lines of a life
  pub life_lines : LinesFit own None (shown l)
  life_lines = each_bearer own l.entries l.sends (each_lines (is_on l.opened) refl)
