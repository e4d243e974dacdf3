-- From what the parts of a run do to what the run does.
use Rattle.std.proofs.Common.{◌≡◌, ◌⊎◌, ◌<◌, ◌≤◌, ◌+◌, ℕ, List, ◌++◌, length, length-append, refl, inl, inr, sym, ap, ◌∙◌, subst, arith, append-nil, min, Option, Some, None, IsTrue}
use Rattle.std.specs.Prelude.{IfSome, IsSomeAnd}
use Rattle.std.specs.Io.KnownBytes.{Consumes, IsAtEnd}
use Rattle.flash_model.proofs.Runs.{past_more}
use Rattle.flash_model.specs.Arming.{Begins, BeginsAtMost, Erases, ErasesAtMost, FailsOnce, Programs, ProgramsAtMost}
use Rattle.flash_model.specs.Chip.{CallCount, Chip, IsFresh, Keeps, KeepsCount, LeavesOnly, Setting, Stays, count_of}
use Rattle.slot_journal.specs.Format.{IsErased, IsFirstWritten}
use Rattle.node_store.specs.Provisioning.{provisioning}
use Rattle.node_store.specs.Tie.{IsMade}
use Rattle.node_store.specs.declared.provision.Provision.{Provision}
use Rattle.store_definitions.specs.Provisioning.{provisioned}
use Rattle.record_types.specs.declared.records.StoreRecord.{StoreRecord}
use Rattle.report_definitions.specs.Record.{Life, LifeOver}
use Rattle.report_writer.specs.Writing.{SinkView}
use Rattle.run_definitions.specs.RunOf.{Script}
use Rattle.node_store.specs.Calls.{only_slots}
use Rattle.mesh_run.specs.Kind.{MachineKind}
use Rattle.mesh_run.specs.Ran.{FromProvisioned, Ran, RanFirst, RanFront}
use Rattle.script_definitions.specs.Reading.{Reading, reading}
use Rattle.script_definitions.specs.Reading.Reading.{Fails, IsScript}
use Rattle.script_definitions.specs.declared.kind.Grammar.{Grammar}
use Rattle.script_definitions.specs.declared.script.Script as Said
use Rattle.std.proofs.lemmas.Bool.{lt-ltb}
use Rattle.run_steps.specs.Reads.{ReadsMoreThan}
use Rattle.run_steps.specs.declared.reading.ReadStop.{ReadStop}
use Rattle.run_steps.specs.declared.reading.ReadStop.TheVariants as R
use Rattle.run_steps.specs.declared.status.Status.{Status}
use Rattle.run_steps.specs.declared.status.Status.TheVariants as S
use Rattle.mesh_run.specs.Causes.{FailedFirst, IfScript, IsDue, IsDueIf, IsErasedFlash, IsSameFlash, IsScriptAnd, IsWrittenAt, WasErased, read_end}
use Rattle.run_steps.specs.Provisioned.{FailsEarly, IsInFormat, IsProvisioned, WasProvisioned}

-- what was read is all that there was
pub all_read : (old new : Option (List ℕ)) (text : List ℕ) → Consumes old new text → IsAtEnd new → IfSome old (λ xs. xs ≡ text)
all_read None new text h e = tt
all_read (Some xs) None text h e = absurd h
all_read (Some xs) (Some ys) text h e = h ∙ ap (λ (v : List ℕ). text ++ v) e ∙ append-nil text

-- so what holds of what was read holds of what there was
pub of_all : (P : List ℕ → Type 0) (old new : Option (List ℕ)) (text : List ℕ) → Consumes old new text → IsAtEnd new → P text → IfSome old P
of_all P None new text h e p = tt
of_all P (Some xs) new text h e p = subst P (sym (all_read (Some xs) new text h e)) p

-- a text that was read as a script
pub script_and : (r : Reading) (s : Said.Script) (P : Said.Script → Type 0) → r ≡ IsScript s → P s → IsScriptAnd r P
script_and r s P e p = rw e p

pub if_script : (r : Reading) (s : Said.Script) (P : Said.Script → Type 0) → r ≡ IsScript s → P s → IfScript r P
if_script r s P e p = rw e p

pub if_fails : (r : Reading) (line rule : ℕ) (P : Said.Script → Type 0) → r ≡ Fails line rule → IfScript r P
if_fails r line rule P e = rw e tt

-- A flash that is provisioned is as it was, but for its content.
pub same_through : (old mid new : Chip) → IsSameFlash old mid → IsSameFlash mid new → IsSameFlash old new
same_through old mid new h k = record { honest = k.honest; steady = k.steady ∙ h.steady; later = omega (arith, h.later, k.later); past = past_more old mid new h.past k.past }

pub same_left : {F : Type 0} (chip : F → Chip) (left : Option F) (old start : Chip) → IsSameFlash old start
    → IfSome left (λ f. IsSameFlash start (chip f)) → IfSome left (λ f. IsSameFlash old (chip f))
same_left chip None old start first h = tt
same_left chip (Some f) old start first h = same_through old start (chip f) first h

-- A flash whose power was cycled, and a call on it.

pub cycled : (old mid : Chip) → IsTrue old.honest → KeepsCount old mid → IsSameFlash old mid
cycled old mid h k = record { honest = subst IsTrue (sym k.honest) h; steady = k.steady; later = omega (arith, k.faults); past = k.past }

pub through : (old mid new : Chip) → IsSameFlash old mid → Keeps mid new → IsSameFlash old new
through old mid new h k = record { honest = subst IsTrue (sym k.honest) h.honest; steady = k.steady ∙ h.steady; later = omega (arith, h.later, k.later); past = past_more old mid new h.past k.past }

-- what was set when power was cycled is set still
set_after : (old mid new : Chip) → new.setting ≡ mid.setting → mid.setting ≡ record { faults = old.faults; arm = None; saved = mid.now; moment = mid.moment; called = 0; programmed = 0; cycles = old.setting.cycles + 1 }
    → new.setting ≡ record { faults = old.faults; arm = None; saved = mid.now; moment = new.setting.moment; called = 0; programmed = 0; cycles = old.setting.cycles + 1 }
set_after old mid new kept is = subst (λ (s : Setting). s ≡ record { faults = old.faults; arm = None; saved = mid.now; moment = s.moment; called = 0; programmed = 0; cycles = old.setting.cycles + 1 }) (sym (kept ∙ is)) refl

-- an octet isn't erased, and the content stays
pub written_at : (old mid new : Chip) (at : ℕ) → KeepsCount old mid → old.images mid.now → IsFresh mid
    → mid.setting ≡ record { faults = old.faults; arm = None; saved = mid.now; moment = mid.moment; called = 0; programmed = 0; cycles = old.setting.cycles + 1 } → Keeps mid new → new.faults ≡ mid.faults
    → IsFirstWritten mid.now at → ((IsErased mid.now → ⊥) → Stays mid new) → count_of mid ≡ only_slots 0 → ((IsErased mid.now → ⊥) → count_of new ≡ count_of mid) → IsWrittenAt at old new
written_at old mid new at count image fresh setting keeps same first unchanged none no_calls =
    let stays = unchanged (λ erased. first.written (erased at first.within)) in
    record {
      was = subst old.images (sym stays.now) image;
      first = subst (λ c. IsFirstWritten c at) (sym stays.now) first;
      setting = subst (λ (c : List ℕ). new.setting ≡ record { faults = old.faults; arm = None; saved = c; moment = new.setting.moment; called = 0; programmed = 0; cycles = old.setting.cycles + 1 })
          (sym stays.now) (set_after old mid new keeps.setting setting);
      no_fault = same ∙ count.faults;
      calls = no_calls (λ erased. first.written (erased at first.within)) ∙ none;
      stays = λ c among. fresh.only c (stays.images c among) ∙ sym stays.now;
    }

-- the octet that a status names, if it names one
abbrev octet_named : Status → ℕ
octet_named (S.NotErased at) = at
octet_named status = 0

-- a status that names an octet names this one
pub written_as : {F : Type 0} (chip : F → Chip) (old : Chip) (flash : F) (at : ℕ) → IsWrittenAt at old (chip flash)
    → (k : ℕ) → S.NotErased at ≡ S.NotErased k → IsSomeAnd (Some flash) (λ f. IsWrittenAt k old (chip f))
written_as chip old flash at said k is = subst (λ (n : ℕ). IsWrittenAt n old (chip flash)) (ap octet_named is) said

-- so the flash wasn't erased
pub not_erased : (old mid : Chip) (at : ℕ) → old.images mid.now → IsFirstWritten mid.now at → IsErasedFlash old → ⊥
not_erased old mid at image first erased = first.written (erased mid.now image at first.within)

pub was_erased : (old mid : Chip) → old.images mid.now → IsErased mid.now → WasErased old
was_erased old mid image erased = (mid.now, image, erased)

-- the flash failed while the node was provisioned
pub fails_early : (records : List StoreRecord) (old mid new : Chip) → KeepsCount old mid → old.images mid.now → IsFresh mid
    → mid.setting ≡ record { faults = old.faults; arm = None; saved = mid.now; moment = mid.moment; called = 0; programmed = 0; cycles = old.setting.cycles + 1 } → Keeps mid new → mid.faults < new.faults → FailsOnce mid new
    → ((t : ℕ) (c : List ℕ) → t ≤ new.moment → new.images c → new.since t c)
    → (IsErased mid.now → LeavesOnly mid new (IsMade records)) → ((IsErased mid.now → ⊥) → Stays mid new) → count_of mid ≡ only_slots 0 → BeginsAtMost 8 mid new
    → ErasesAtMost 0 mid new → ProgramsAtMost 128 mid new → ((IsErased mid.now → ⊥) → count_of new ≡ count_of mid) → FailsEarly records old new
fails_early records old mid new count image fresh setting keeps failed once counts made unchanged none most most_erases most_octets no_calls = record {
  failed = omega (arith, count.faults, failed);
  once = omega (arith, count.faults, once);
  setting = set_after old mid new keeps.setting setting;
  found = mid.now;
  was = image;
  calls = omega (arith, most, ap (λ (n : CallCount). n.calls) none);
  unerased = omega (arith, most_erases, ap (λ (n : CallCount). n.erases) none);
  most_octets = omega (arith, most_octets, ap (λ (n : CallCount). n.octets) none);
  no_calls = λ other. no_calls other ∙ none;
  made = λ erased c among. let left = made erased in left.each c (counts mid.moment c left.later among);
  stays = λ other c among. fresh.only c ((unchanged other).images c among);
}

-- so it failed in the first power cycle
pub failed_first : {F : Type 0} (chip : F → Chip) (records : List StoreRecord) (old : Chip) (left : Option F)
    → IsSomeAnd left (λ f. FailsEarly records old (chip f)) → IfSome left (λ f. FailedFirst old (chip f) → ⊥) → ⊥
failed_first chip records old None early unfailed = early
failed_first chip records old (Some f) early unfailed = unfailed (ap (λ (s : Setting). s.cycles) early.setting, early.failed)

-- none was counted since power was cycled
pub none_counted : (chip : Chip) → chip.changes ≡ 0 → chip.erases ≡ 0 → chip.octets ≡ 0 → count_of chip ≡ only_slots 0
none_counted chip calls erases octets = λ i. record { calls = calls i; erases = erases i; octets = octets i }

-- so many calls were begun since power was cycled, and none of them an erase call
begun_since : (mid new : Chip) → count_of mid ≡ only_slots 0 → Begins 8 mid new → Erases 0 mid new → Programs 128 mid new → count_of new ≡ only_slots 4
begun_since mid new none begins erases octets =
    let calls : new.changes ≡ 8 = begins ∙ ap (λ (n : CallCount). min (n.calls + 8) 4294967295) none in
    let erased : new.erases ≡ 0 = erases ∙ ap (λ (n : CallCount). min (n.erases + 0) 4294967295) none in
    let programmed : new.octets ≡ 128 = octets ∙ ap (λ (n : CallCount). min (n.octets + 128) 4294967295) none in
    λ i. record { calls = calls i; erases = erased i; octets = programmed i }

-- the node was provisioned on it in this format
pub was_provisioned : (format : ℕ) (p q : Provision) (old mid new : Chip) → p ≡ q → KeepsCount old mid → old.images mid.now
    → mid.setting ≡ record { faults = old.faults; arm = None; saved = mid.now; moment = mid.moment; called = 0; programmed = 0; cycles = old.setting.cycles + 1 } → IsErased mid.now → Keeps mid new → new.faults ≡ mid.faults
    → count_of mid ≡ only_slots 0 → Begins 8 mid new → Erases 0 mid new → Programs 128 mid new → IsProvisioned new (provisioned (provisioning p)) → IsInFormat format new → WasProvisioned format (provisioned (provisioning q)) old new
was_provisioned format p q old mid new of count image setting erased keeps same none costs erases octets made is = record {
  found = mid.now;
  was = image;
  erased = erased;
  made = subst (λ (r : Provision). IsProvisioned new (provisioned (provisioning r))) of made;
  in_format = is;
  faults = same ∙ count.faults;
  setting = set_after old mid new keeps.setting setting;
  steady = keeps.steady ∙ count.steady;
  calls = begun_since mid new none costs erases octets;
  past = past_more old mid new count.past keeps.past;
}

-- what was told is a report
module _ {F : Type 0} (chip : F → Chip) (kind : MachineKind) (s : Script) (T U : List LifeOver → SinkView → SinkView → Type 0)
    (into : (lives : List LifeOver) (before after : SinkView) → T lives before after → U lives before after) where
  pub ran_as : (start : F) (before : SinkView) (left : F) (after : SinkView) → Ran chip kind s T start before left after → Ran chip kind s U start before left after
  ran_as start before left after ran = record {
    run = ran.run;
    is_run = ran.is_run;
    ran = ran.ran;
    report = into ran.run.lives before after ran.report;
    no_reuse = ran.no_reuse;
    at_most_once = ran.at_most_once;
  }

  pub first_as : (start : F) (before : SinkView) (left : Option F) (after : SinkView) → RanFirst chip kind s T start before left after → RanFirst chip kind s U start before left after
  first_as start before left after ran = record {
    n = ran.n;
    fewer = ran.fewer;
    run = ran.run;
    is_run = ran.is_run;
    reached = ran.reached;
    ran = ran.ran;
    report = into ran.run.lives before after ran.report;
    more = ran.more;
  }

  pub front_as : (P Q : ℕ → Life → SinkView → SinkView → Type 0) → ((n : ℕ) (life : Life) (old new : SinkView) → P n life old new → Q n life old new)
      → (start : F) (before : SinkView) (left : F) (after : SinkView) → RanFront chip kind s T P start before left after → RanFront chip kind s U Q start before left after
  front_as P Q so start before left after ran = record {
    n = ran.n;
    fewer = ran.fewer;
    lives = ran.lives;
    x = ran.x;
    last = ran.last;
    is_run = ran.is_run;
    ran = ran.ran;
    mid = ran.mid;
    report = into ran.lives before ran.mid ran.report;
    front = so (ran.n + 1) ran.x.life ran.mid after ran.front;
  }

-- what holds of the flash that provisioning left
pub from_as : {F : Type 0} (chip : F → Chip) (format : ℕ) (records : List StoreRecord) (given : Chip) (P Q : F → Type 0) → ((start : F) → P start → Q start)
    → FromProvisioned chip format records given P → FromProvisioned chip format records given Q
from_as chip format records given P Q so from = record { start = from.start; provisioned = from.provisioned; ran = so from.start from.ran }

pub some_as : {F : Type 0} (left : Option F) (P Q : F → Type 0) → ((f : F) → P f → Q f) → IsSomeAnd left P → IsSomeAnd left Q
some_as None P Q so h = h
some_as (Some f) P Q so h = so f h

-- The source wasn't read to its end.

too_long : (old new : Option (List ℕ)) → ReadsMoreThan old new 4194304 → IfSome old (λ text. 4194304 < length text)
too_long None new h = tt
too_long (Some text) None (read, consumed, more) = absurd consumed
too_long (Some text) (Some rest) (read, consumed, more) =
    let many : length text ≡ length read + length rest = ap (λ (v : List ℕ). length v) consumed ∙ length-append read rest in omega (arith, many, more)

pub read_due : (g : Grammar) (stop : ReadStop) (old new : Option (List ℕ)) → (stop ≡ R.TooLong → ReadsMoreThan old new 4194304) → IfSome old (λ text. IsDue g text (read_end stop))
read_due g stop None new long = tt
read_due g R.Fault (Some text) new long = inl refl
read_due g R.Memory (Some text) new long = inr (inl refl)
read_due g R.TooLong (Some text) new long =
    inr (inr (subst (λ b. IsDueIf b g text S.TooLong) (sym (lt-ltb 4194304 (length text) (too_long (Some text) new (long refl)))) refl))

if_any : (r : Reading) (P : Said.Script → Type 0) → ((s : Said.Script) → P s) → IfScript r P
if_any (IsScript s) P h = h s
if_any (Fails line rule) P h = tt

pub read_complete : (g : Grammar) (stop : ReadStop) (old new : Option (List ℕ)) → (stop ≡ R.Fault → ⊥) → (stop ≡ R.TooLong → ReadsMoreThan old new 4194304)
    → IfSome old (λ text. length text ≤ 4194304 → IfScript (reading g text) (λ s. (read_end stop ≡ S.Done) ⊎ (read_end stop ≡ S.Memory) ⊎ (read_end stop ≡ S.FlashFault)))
read_complete g stop None new fails long = tt
read_complete g R.Fault (Some text) new fails long = absurd (fails refl)
read_complete g R.Memory (Some text) new fails long = λ few. if_any (reading g text) _ (λ s. inr (inl refl))
read_complete g R.TooLong (Some text) new fails long = λ few. absurd (let many : 4194304 < length text = too_long (Some text) new (long refl) in omega (arith, few, many))

pub read_unfailed : (g : Grammar) (stop : ReadStop) (old new : Option (List ℕ)) → (stop ≡ R.Fault → ⊥) → (stop ≡ R.TooLong → ReadsMoreThan old new 4194304)
    → IfSome old (λ text. length text ≤ 4194304 → IfScript (reading g text) (λ s. (read_end stop ≡ S.Done) ⊎ (read_end stop ≡ S.Memory)))
read_unfailed g stop None new fails long = tt
read_unfailed g R.Fault (Some text) new fails long = absurd (fails refl)
read_unfailed g R.Memory (Some text) new fails long = λ few. if_any (reading g text) _ (λ s. inr refl)
read_unfailed g R.TooLong (Some text) new fails long = λ few. absurd (let many : 4194304 < length text = too_long (Some text) new (long refl) in omega (arith, few, many))
