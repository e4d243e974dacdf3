-- A turn at the lock: what is added is the bearer's own, and it has seen all that stands there.
use Rattle.std.proofs.Common.{◌≡◌, ◌⊎◌, ◌∙◌, ℕ, ◌+◌, true, false, List, [], ◌∷◌, ◌++◌, length, map, Option, Some, None, refl, sym, ap, subst, append_assoc, append-nil}
use Rattle.std.specs.Prelude.{◌≤◌, Result, Ok, Err, IfErr, IfOk, IsErrAnd, OnOk, slice_get}
use Rattle.flash_model.specs.Chip.{Chip}
use Rattle.machine_contract.specs.declared.answers.Stop.{Stop}
use Rattle.machine_contract.specs.declared.answers.Stop.TheVariants as S
use Rattle.mesh_types.specs.declared.events.Event.{Event}
use Rattle.mesh_types.specs.declared.history.Entry.{Entry}
use Rattle.mesh_types.specs.declared.jobs.Job.{Job}
use Rattle.run_definitions.specs.Lines.{is_drawing}
use Rattle.run_definitions.specs.Order.{IsStuck, Task, follow, handle, write, write_tasks}
use Rattle.seq_word.specs.Seen.{DrawerView, IsAbove, last_word}
use Rattle.turn_lock.specs.Entries.{IsPrefix, added}
use Rattle.turn_lock.specs.Views.{PassView}
use Rattle.locked_node.specs.declared.marks.Behind.{Behind}
use Rattle.locked_node.specs.declared.marks.Mark.{Mark}
use Rattle.locked_node.specs.declared.marks.Mark.TheVariants as M
use Rattle.locked_node.specs.Asked.{WasAsked}
use Rattle.locked_node.proofs.Told.{knows_more}
use Rattle.locked_node.specs.Node.{IsStopped, IsStoppedBare, KnowsBehind, NodeView, OnStop, node_marks, origin_of}
use Rattle.node_bearer.specs.Did.{BearerOf, Broke, Did, DidBy, GoesOn, IsDryFor, IsFor, IsNext, LeftOff, freed}
use Rattle.node_bearer.specs.Marked.{HasEntry, HasJob, move_of}
use Rattle.node_bearer.specs.Turns.{after_turn}
use Rattle.node_bearer.proofs.Lists.{added_more, added_none, added_one, get_last, get_longer}
use Rattle.node_bearer.proofs.Doing.{did_acted, did_looked, did_seen}

pub on_ok : {A E P Q : Type 0} (r : Result A E) → (P → Q) → OnOk r P → OnOk r Q
on_ok (Ok a) f h = f h
on_ok (Err e) f h = tt

pub if_ok : {A E : Type 0} {P Q : A → Type 0} (r : Result A E) → ((a : A) → P a → Q a) → IfOk r P → IfOk r Q
if_ok (Ok a) f h = f a h
if_ok (Err e) f h = tt

pub if_err : {A E : Type 0} {P Q : E → Type 0} (r : Result A E) → ((e : E) → P e → Q e) → IfErr r P → IfErr r Q
if_err (Ok a) f h = tt
if_err (Err e) f h = f e h

-- what a `?` hands on
pub stops : {A : Type 0} (Q : Type 0) (r : Result A Stop) (e : Stop) → IsErrAnd r (λ x. x ≡ e) → OnStop e Q → IfErr r (λ x. OnStop x Q)
stops Q (Ok a) e is h = tt
stops Q (Err x) e is h = subst (λ y. OnStop y Q) (sym is) h

pub on_stop : (e : Stop) {P Q : Type 0} → (P → Q) → OnStop e P → OnStop e Q
on_stop S.Closed f h = f h
on_stop S.Memory f h = tt
on_stop S.Flash f h = f h

pub on_both : (e : Stop) {P Q R : Type 0} → (P → Q → R) → OnStop e P → OnStop e Q → OnStop e R
on_both S.Closed f g h = f g h
on_both S.Memory f g h = tt
on_both S.Flash f g h = f g h

pub on_any : (e : Stop) {P : Type 0} → P → OnStop e P
on_any S.Closed h = h
on_any S.Memory h = tt
on_any S.Flash h = h

pub front_of_itself : {E : Type 0} (ms : List E) → IsPrefix ms ms
front_of_itself ms = record { rest = []; is = sym (append-nil ms) }

pub front_more : {E : Type 0} (xs ys zs : List E) → IsPrefix xs ys → IsPrefix ys zs → IsPrefix xs zs
front_more xs ys zs p q = record { rest = p.rest ++ q.rest; is = q.is ∙ ap (λ l. l ++ q.rest) p.is ∙ append_assoc xs p.rest q.rest }

pub goes_on : {F : Type 0} (a b c : BearerOf F) → GoesOn a b → GoesOn b c → GoesOn a c
goes_on a b c p q = record {
  rest = p.rest ++ q.rest;
  more = q.more ∙ ap (λ l. l ++ q.rest) p.more ∙ append_assoc a.pass.seen p.rest q.rest;
  noted = q.noted ∙ p.noted;
  known = q.known ∙ p.known;
  told = front_more a.drawer.informed b.drawer.informed c.drawer.informed p.told q.told;
  parts = q.parts ∙ p.parts;
  free = λ none. q.free (p.free none);
  stop = q.stop ∙ p.stop;
}

pub on_still : {F : Type 0} (b : BearerOf F) → GoesOn b b
on_still b = record { rest = []; more = sym (append-nil b.pass.seen); noted = refl; known = refl; told = front_of_itself b.drawer.informed; parts = refl; free = λ none. none; stop = refl }

-- it is as it is once it has drawn what it owes
pub on_freed : {F : Type 0} (b : BearerOf F) → GoesOn b (freed b)
on_freed b = record { rest = []; more = sym (append-nil b.pass.seen); noted = refl; known = refl; told = front_of_itself b.drawer.informed; parts = refl; free = λ _. refl; stop = refl }

-- its lines alone are others
pub on_written : {F : Type 0} (b c : BearerOf F) → c ≡ record b { lines = c.lines } → GoesOn b c
on_written b c is = subst (GoesOn b) (sym is) (record { rest = []; more = sym (append-nil b.pass.seen); noted = refl; known = refl; told = front_of_itself b.drawer.informed; parts = refl; free = λ none. none; stop = refl })

pub entry_longer : (marks rest : List Mark) (at : ℕ) (event : Event) (jobs : List Job) (front informed : List ℕ) → IsPrefix front informed → HasEntry marks at event jobs front
    → HasEntry (marks ++ rest) at event jobs informed
entry_longer marks rest at event jobs front informed more h = record {
  entry = h.entry;
  behind = h.behind;
  here = get_longer marks rest at (M.Handled h.entry h.behind) h.here;
  knows = knows_more front informed h.behind more h.knows;
  event_is = h.event_is;
  jobs_are = h.jobs_are;
}

pub entry_on : {F : Type 0} (a b : BearerOf F) (at : ℕ) (event : Event) (jobs : List Job) → GoesOn a b → HasEntry a.pass.seen at event jobs a.drawer.informed
    → HasEntry b.pass.seen at event jobs b.drawer.informed
entry_on a b at event jobs on h =
    subst (λ ms. HasEntry ms at event jobs b.drawer.informed) (sym on.more) (entry_longer a.pass.seen on.rest at event jobs a.drawer.informed b.drawer.informed on.told h)

pub job_on : {F : Type 0} (a b : BearerOf F) (at j : ℕ) (event : Event) (job : Job) → GoesOn a b → HasJob a.pass.seen at j event job a.drawer.informed
    → HasJob b.pass.seen at j event job b.drawer.informed
job_on a b at j event job on h = record { jobs = h.jobs; entry = entry_on a b at event h.jobs on h.entry; place = h.place; short = h.short }

-- a job that draws, of an entry that a bearer has seen, is among what it sees later
asked_longer : (before : ℕ) (marks rest : List Mark) → WasAsked before marks → WasAsked before (marks ++ rest)
asked_longer before marks rest w = record { at = w.at; since = w.since; entry = w.entry; behind = w.behind; here = get_longer marks rest w.at (M.Handled w.entry w.behind) w.here; place = w.place; job = w.job; has = w.has; draws = w.draws }

pub asked_front : (before : ℕ) (front marks : List Mark) → IsPrefix front marks → WasAsked before front → WasAsked before marks
asked_front before front marks p w = subst (WasAsked before) (sym p.is) (asked_longer before front p.rest w)

pub asked_on : {F : Type 0} (before : ℕ) (a b : BearerOf F) → GoesOn a b → WasAsked before a.pass.seen → WasAsked before b.pass.seen
asked_on before a b on w = subst (WasAsked before) (sym on.more) (asked_longer before a.pass.seen on.rest w)

pub asked_by : (before : ℕ) (marks : List Mark) (at j : ℕ) (event : Event) (job : Job) (informed : List ℕ) → before ≤ at → HasJob marks at j event job informed → is_drawing job ≡ true
    → WasAsked before marks
asked_by before marks at j event job informed since h draws = record {
  at = at;
  since = since;
  entry = h.entry.entry;
  behind = h.entry.behind;
  here = h.entry.here;
  place = j;
  job = job;
  has = subst (λ jobs. slice_get jobs j ≡ Some job) (sym h.entry.jobs_are) h.place;
  draws = draws;
}

-- no entry before that place was taken, as it is in the lock
pub taken_same : {F : Type 0} (chip : F → Chip) (m n : NodeView F) → origin_of chip m ≡ origin_of chip n → m.machine.taken ≡ n.machine.taken
taken_same chip m n same = ap (λ o. o.taken) same

-- a pass that went in has seen all that stands there
pub front_by : {T : Type 0} (q p : PassView T Mark) (ms : List Mark) → p ≡ record q { inside = true; seen = ms } → IsPrefix p.seen ms
front_by q p ms is = record { rest = []; is = sym (ap (λ x. x.seen) is) ∙ sym (append-nil p.seen) }

-- to have an event handled needs the machine
stuck_for : (task : Task) (rest : List Task) (event : Event) → IsFor event task → IsStuck (task ∷ rest)
stuck_for (handle e) rest event is = refl
stuck_for (follow e) rest event is = refl
stuck_for (write i j e job) rest event is = absurd is

-- and no draw
dry_for : (task : Task) (rest : List Task) (event : Event) (d : DrawerView) → IsFor event task → IsDryFor (task ∷ rest) d
dry_for (handle e) rest event d is = tt
dry_for (follow e) rest event d is = tt
dry_for (write i j e job) rest event d is = absurd is

-- with this number, and told these words
abbrev pub numbered : {F : Type 0} → BearerOf F → ℕ → List ℕ → BearerOf F
numbered b n informed = record b { number = n; drawer = record b.drawer { informed = informed } }

module _ {F : Type 0} (k first : ℕ) (tasks : List Task) where
  -- it has entered, and added nothing yet
  pub entered : (left : List Task) (b : BearerOf F) (p : PassView (NodeView F) Mark) (node : NodeView F) → IsPrefix b.pass.seen (node_marks node)
      → p ≡ record b.pass { inside = true; seen = node_marks node } → DidBy k first tasks left b → DidBy k first tasks left (after_turn (record b { pass = p }) node)
  entered left b p node front is h =
      let ms = node_marks node in
      let same : p.own ++ added p.seen ms ≡ b.pass.own = ap (λ q. q.own ++ added q.seen ms) is ∙ ap (λ l. b.pass.own ++ l) (added_none ms) ∙ append-nil b.pass.own in
      subst (λ o. Did k first tasks left o ms b.lines.items b.number b.drawer) (sym same) (did_seen k first tasks left b.pass.own b.pass.seen ms b.lines.items b.number b.drawer front h)

  -- its seat was told where the counter was moved to
  pub did_told : (left : List Task) (b : BearerOf F) (d : DrawerView) → d ≡ record b.drawer { informed = d.informed } → DidBy k first tasks left b → DidBy k first tasks left (record b { drawer = d })
  did_told left b d is h =
      did_looked k first tasks left b.pass.own b.pass.seen b.lines.items b.number b.drawer d (ap (λ x. x.drawn) is) (ap (λ x. x.noted) is) (ap (λ x. x.known) is)
      (record { rest = []; is = ap (λ x. x.looks) is ∙ sym (append-nil b.drawer.looks) }) h

  -- it owes a draw
  pub did_owing : (left : List Task) (b : BearerOf F) (d : DrawerView) → d ≡ record b.drawer { owes = d.owes } → DidBy k first tasks left b → DidBy k first tasks left (record b { drawer = d })
  did_owing left b d is h =
      did_looked k first tasks left b.pass.own b.pass.seen b.lines.items b.number b.drawer d (ap (λ x. x.drawn) is) (ap (λ x. x.noted) is) (ap (λ x. x.known) is)
      (record { rest = []; is = ap (λ x. x.looks) is ∙ sym (append-nil b.drawer.looks) }) h

  module _ (b : BearerOf F) (p : PassView (NodeView F) Mark) (node : NodeView F) (own : p.own ≡ b.pass.own ++ added b.pass.seen (node_marks node))
      (leaves : p ≡ record b.pass { inside = false; seen = node_marks node; own = p.own }) where
    -- it has left
    pub did_left : (left : List Task) → DidBy k first tasks left (after_turn b node) → DidBy k first tasks left (record b { pass = p })
    did_left left h =
        subst (λ o. Did k first tasks left o p.seen b.lines.items b.number b.drawer) (sym own)
        (subst (λ s. Did k first tasks left (b.pass.own ++ added b.pass.seen (node_marks node)) s b.lines.items b.number b.drawer) (sym (ap (λ x. x.seen) leaves)) h)

    pub off_left : (left : List Task) → LeftOff k first tasks left (after_turn b node) → LeftOff k first tasks left (record b { pass = p })
    off_left left h = record {
      before = h.before;
      at = h.at;
      hand = h.hand;
      own = own ∙ h.own;
      did = subst (λ s. Did k first tasks left h.before s b.lines.items b.number b.drawer) (sym (ap (λ x. x.seen) leaves)) h.did;
      next = h.next;
    }

    pub broke_left : Broke k first tasks (after_turn b node) → Broke k first tasks (record b { pass = p })
    broke_left h = record { left = h.left; is = off_left h.left h.is; stuck = h.stuck; dry = h.dry }

  module _ (b : BearerOf F) (old new : NodeView F) (seen : IsPrefix b.pass.seen (node_marks old)) where
    -- an event more was handled
    pub did_handled : (task : Task) (rest : List Task) (event : Event) (e : Entry) (behind : Behind) (at : ℕ) → IsFor event task → DidBy k first tasks (task ∷ rest) (after_turn b old)
        → node_marks new ≡ node_marks old ++ M.Handled e behind ∷ [] → at ≡ length (node_marks old) → e.event ≡ event → e.bearer ≡ k → e.number ≡ b.number + 1
        → (behind.moved ≡ last_word (map move_of (node_marks old))) ⊎ IsAbove b.drawer behind.moved → IsAbove b.drawer behind.counter
        → DidBy k first tasks (write_tasks at 0 event e.jobs ++ rest) (after_turn (record b { number = b.number + 1 }) new)
    did_handled task rest event e behind at is h grew place same by numbered until above =
        let ms = node_marks old in
        let mine = b.pass.own ++ added b.pass.seen ms in
        let whole = ms ++ M.Handled e behind ∷ [] in
        let more : b.pass.own ++ added b.pass.seen whole ≡ mine ++ added ms whole =
        ap (λ l. b.pass.own ++ l) (added_more b.pass.seen ms (M.Handled e behind) seen) ∙ sym (append_assoc b.pass.own (added b.pass.seen ms) ((length ms, M.Handled e behind) ∷ []))
        ∙ ap (λ l. mine ++ l) (sym (added_one ms (M.Handled e behind))) in
        let done = did_acted k first tasks task rest mine ms ms b.lines.items b.number b.drawer event e behind is h (front_of_itself ms) same by numbered until above in
        subst (λ l. Did k first tasks (write_tasks at 0 event e.jobs ++ rest) (b.pass.own ++ added b.pass.seen l) l b.lines.items (b.number + 1) b.drawer) (sym grew)
        (subst (λ o. Did k first tasks (write_tasks at 0 event e.jobs ++ rest) o whole b.lines.items (b.number + 1) b.drawer) (sym more)
        (subst (λ n. Did k first tasks (write_tasks n 0 event e.jobs ++ rest) (mine ++ added ms whole) whole b.lines.items (b.number + 1) b.drawer) (sym place) done))

    -- nothing was added
    pub did_visited : (left : List Task) → node_marks new ≡ node_marks old → DidBy k first tasks left (after_turn b old) → DidBy k first tasks left (after_turn b new)
    did_visited left same h = subst (λ ms. Did k first tasks left (b.pass.own ++ added b.pass.seen ms) ms b.lines.items b.number b.drawer) (sym same) h

    -- the bearer's mark was put behind its own entries
    marked : (left : List Task) (hand : Option Event) → DidBy k first tasks left (after_turn b old) → node_marks new ≡ node_marks old ++ M.Stopped hand ∷ []
        → ((event : Event) → hand ≡ Some event → IsNext event left) → LeftOff k first tasks left (after_turn b new)
    marked left hand h grew next =
        let ms = node_marks old in
        let mine = b.pass.own ++ added b.pass.seen ms in
        record {
          before = mine;
          at = length ms;
          hand = hand;
          own =
              ap (λ l. b.pass.own ++ added b.pass.seen l) grew ∙ ap (λ l. b.pass.own ++ l) (added_more b.pass.seen ms (M.Stopped hand) seen)
              ∙ sym (append_assoc b.pass.own (added b.pass.seen ms) ((length ms, M.Stopped hand) ∷ []));
          did = did_seen k first tasks left mine ms (node_marks new) b.lines.items b.number b.drawer (record { rest = M.Stopped hand ∷ []; is = grew }) h;
          next = next;
        }

    pub stopped_at : (task : Task) (rest : List Task) (event : Event) → IsFor event task → DidBy k first tasks (task ∷ rest) (after_turn b old)
        → IsStopped event (node_marks old) (node_marks new) → Broke k first tasks (after_turn b new)
    stopped_at task rest event is h s = record {
      left = task ∷ rest;
      is = marked (task ∷ rest) s.hand h s.marks (λ other e. subst (λ x. IsFor x task) (sym (s.is other e)) is);
      stuck = stuck_for task rest event is;
      dry = dry_for task rest event b.drawer is;
    }

    pub stopped_bare : (left : List Task) → DidBy k first tasks left (after_turn b old) → IsStoppedBare (node_marks old) (node_marks new) → LeftOff k first tasks left (after_turn b new)
    stopped_bare left h s = marked left None h s.marks (λ event e. absurd cc)

-- where the entry stands
pub entry_here : (ms ns : List Mark) (event : Event) (e : Entry) (behind : Behind) (at : ℕ) (informed : List ℕ) → ns ≡ ms ++ M.Handled e behind ∷ [] → at ≡ length ms → KnowsBehind informed behind → e.event ≡ event
    → HasEntry ns at event e.jobs informed
entry_here ms ns event e behind at informed grew place told same = record {
  entry = e;
  behind = behind;
  here = ap (λ s. slice_get s at) grew ∙ ap (slice_get (ms ++ M.Handled e behind ∷ [])) place ∙ get_last ms (M.Handled e behind);
  knows = told;
  event_is = same;
  jobs_are = refl;
}
