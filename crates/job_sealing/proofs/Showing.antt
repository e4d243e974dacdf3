-- What a line shows, up to equations of the job and of the outcome.
use Rattle.std.proofs.Common.{◌≡◌, ◌∙◌, ℕ, ◌<◌, ◌≤◌, Bool, true, false, List, [], ◌∷◌, length, Option, Some, ap, refl, subst, sym}
use Rattle.std.specs.Prelude.{not, if◌then◌else◌}
use Rattle.std.specs.Option.{option_to_list}
use Rattle.mesh_base.specs.declared.address.Address.{Address}
use Rattle.mesh_base.specs.declared.pair.Pair.{Pair}
use Rattle.mesh_types.specs.declared.events.Event.TheVariants as E
use Rattle.mesh_types.specs.declared.events.SendKey.{SendKey}
use Rattle.mesh_types.specs.declared.jobs.Job.TheVariants as J
use Rattle.mesh_types.specs.declared.lines.Outcome.TheVariants as O
use Rattle.job_sealing.specs.declared.messages.Access.{Access}
use Rattle.job_sealing.specs.Sealed.{IsSentLine, begins, long_outcome, short_outcome}
use Rattle.mesh_types.specs.declared.events.Event.{Event}
use Rattle.mesh_types.specs.declared.jobs.Job.{Job}
use Rattle.mesh_types.specs.declared.jobs.Segment.{Segment}
use Rattle.mesh_types.specs.declared.lines.Outcome.{Outcome}
use Rattle.run_definitions.specs.Lines.{Shows, after_line, drawn_of, is_late, segment_outcome, shows_late, shows_seg, shows_sent, shows_sent_long}

pub some_is : {A : Type 0} {a b : A} → Some a ≡ Some b → a ≡ b
some_is e = cc

pub shown : (event : Event) (job job' : Job) (o o' : Outcome) → job ≡ job' → o ≡ o' → Shows event job' o' → Shows event job o
shown event job job' o o' j e h = subst (λ x. Shows event x o) (sym j) (subst (λ x. Shows event job' x) (sym e) h)

pub is_true : (b : Bool) → not b ≡ false → b ≡ true
is_true true e = refl
is_true false e = sym e

pub is_false : (b : Bool) → not b ≡ true → b ≡ false
is_false false e = refl
is_false true e = sym e

module _ (event : Event) (a : Access) (element hops : ℕ) (at : Address) (with : SendKey) (payload : List ℕ) (o : Outcome) (next : Option Event) (is : event ≡ E.Send element at hops with payload) where
  abbrev job : Job
  job = J.Sent a.net a.material a.key a.ttl a.src a.dst

  pub sent_short : length payload ≤ 11 → o ≡ short_outcome a payload → option_to_list next ≡ [] → IsSentLine event a o next
  sent_short le h n = record {
    shows = subst (λ x. Shows x job o) (sym is) (subst (λ x. Shows (E.Send element at hops with payload) job x) (sym h) (shows_sent le));
    drawn = ap (drawn_of job) h;
    after = n ∙ sym (ap (after_line job) h);
  }

  pub sent_long : 11 < length payload → o ≡ long_outcome a payload → option_to_list next ≡ begins a payload ∷ [] → IsSentLine event a o next
  sent_long lt h n = record {
    shows = subst (λ x. Shows x job o) (sym is) (subst (λ x. Shows (E.Send element at hops with payload) job x) (sym h) (shows_sent_long lt));
    drawn = ap (drawn_of job) h;
    after = n ∙ sym (ap (after_line job) h);
  }

later_by : (event : Event) (s : Segment) (pair : Pair) (b : Bool) → s.first ≡ false → is_late s.name.pair pair ≡ b
    → Shows event (J.Segment s) (if b then O.Late pair else segment_outcome s pair)
later_by event s pair true later e = shows_late later e
later_by event s pair false later e = shows_seg later e

pub later_shows : (event : Event) (s : Segment) (pair : Pair) → s.first ≡ false
    → Shows event (J.Segment s) (if is_late s.name.pair pair then O.Late pair else segment_outcome s pair)
later_shows event s pair later = later_by event s pair (is_late s.name.pair pair) later refl
