-- The lives of a script, as far as they were run.
use Rattle.std.proofs.Common.{◌≡◌, ◌+◌, ◌<◌, ◌≤◌, ℕ, Bool, true, false, IsTrue, List, [], ◌∷◌, ◌++◌, length, take, refl, sym, ap, ◌∙◌, subst, arith, length-append, Option, Some, None, inl, inr}
use Rattle.std.specs.Prelude.{◌⊎◌, All, IsSomeAnd, IfSome, slice_index_or}
use Rattle.std.specs.List.{Contains}
use Rattle.std.proofs.lemmas.List.{take_more, take_all}
use Rattle.std.proofs.lemmas.List.Elements.{All-nil, All-push}
use Rattle.flash_model.specs.Arming.{IsReached}
use Rattle.flash_model.proofs.Runs.{past_more, past_none}
use Rattle.flash_model.specs.Chip.{Arm, Chip, Remembers}
use Rattle.machine_contract.specs.Opening.{EachRecovered}
use Rattle.mesh_node.specs.Lives.{cut_calls}
use Rattle.mesh_node.specs.Steps.{IsOfPlan}
use Rattle.mesh_types.specs.declared.report.End.{End}
use Rattle.mesh_types.specs.declared.report.End.TheVariants as F
use Rattle.record_types.specs.declared.records.StoreRecord.{StoreRecord}
use Rattle.report_definitions.specs.Record.{Life, LifeOver, Run}
use Rattle.report_writer.specs.Writing.{SinkView}
use Rattle.run_definitions.specs.Order.{Step, arm, is_cut}
use Rattle.run_definitions.specs.RunOf.{LifeOf, RunOf, Script}
use Rattle.run_definitions.specs.Uses.{AtMostOnce, NoReuse, delivered, uses}
use Rattle.store_definitions.specs.Config.{changed, config_of}
use Rattle.store_definitions.specs.Provisioning.{provisioned}
use Rattle.store_definitions.specs.Recovered.{IsRecovered}
use Rattle.mesh_run.specs.Causes.{IsSameFlash}
use Rattle.mesh_run.specs.Kind.{IsSafeKind, MachineKind}
use Rattle.mesh_run.specs.Lived.{Lived}
use Rattle.run_steps.specs.Provisioned.{IsProvisioned}
use Rattle.mesh_run.specs.Ran.{AreFound, IsArmed, Ran, RanAll, RanFirst, RanFront, cuts, first_lives}
use Rattle.mesh_run.proofs.Growing.{LivesKeep, armed_more, chained_more, cuts_more, first_more, kept_elements, lives_more}

-- the life opened over what an image of the flash recovered, at a moment since then
abbrev IsFoundSince : Chip → ℕ → LifeOver → Type 0
IsFoundSince chip t x = (image : List ℕ) × chip.since t image × IsRecovered image x.over

-- so it is later
found_later : (old new : Chip) (t : ℕ) (xs : List LifeOver) → Remembers old new → t ≤ old.moment → All (IsFoundSince old t) xs → All (IsFoundSince new t) xs
found_later old new t xs past le h k x lt = let (image, since, is) = h k x lt in (image, past.keeps t image le since, is)

-- a moment that is among those since an earlier one
abbrev pub CountsNow : Chip → Type 0
CountsNow chip = (t : ℕ) (c : List ℕ) → t ≤ chip.moment → chip.images c → chip.since t c

-- So many lives were run, from the flash of the beginning, and all of them were told.
pub record Progress {F : Type 0} (chip : F → Chip) (kind : MachineKind) (s : Script) (told : List LifeOver → SinkView → SinkView → Type 0) (start : F) (before : SinkView) (i : ℕ) (flash : F) (after : SinkView) : Type 0 where
  pub lives : List LifeOver
  pub count : length lives ≡ i
  pub ran : RanAll chip kind (first_lives i s) start lives flash
  pub same : IsSameFlash (chip start) (chip flash)
  pub report : told lives before after

-- at the beginning
pub progress_none : {F : Type 0} (chip : F → Chip) (kind : MachineKind) (s : Script) (told : List LifeOver → SinkView → SinkView → Type 0) (start : F) (v : SinkView)
    → IsSafeKind kind → IsProvisioned (chip start) (provisioned s.node) → told [] v v → Progress chip kind s told start v 0 start v
progress_none chip kind s told start v nodes h none = record {
  lives = [];
  count = refl;
  ran = record {
    lived = refl;
    node = record { honest = h.node.honest; each = λ image is. (nodes.image image).1 (h.node.each image is) };
    found = λ t le. All-nil (IsFoundSince (chip start) t);
    at_exit = λ image last is read. record { first = h.exactly image last is read; lives = tt };
    faults = omega arith;
    no_fault = λ none. refl;
    armed = λ steady. tt;
    cycles = omega arith;
  };
  same = record { honest = h.node.honest; steady = refl; later = omega arith; past = past_none (chip start) };
  report = none;
}

-- of each image the elements are those that were provisioned
pub progress_elements : {F : Type 0} (chip : F → Chip) (kind : MachineKind) → LivesKeep kind.role → (s : Script) (told : List LifeOver → SinkView → SinkView → Type 0) (start flash : F) (before after : SinkView) (i : ℕ)
    → Progress chip kind s told start before i flash after → EachRecovered (chip flash) (λ records. (config_of records).elements ≡ s.node.elements)
unfolding changed
progress_elements chip kind keeps s told start flash before after i p image records is read =
    let run = p.ran.at_exit image records is read in
    kept_elements kind.role keeps (take i s.lives) p.lives records run.lives ∙ ap (λ r. (config_of r).elements) run.first ∙ of_node
  where
    of_node : (config_of (provisioned s.node)).elements ≡ s.node.elements
    of_node = refl

-- a run of the first lives, where the flash is honest
pub ran_run : {F : Type 0} (chip : F → Chip) (kind : MachineKind) → IsSafeKind kind → (s : Script) (start left : F) (lives : List LifeOver) → (chip left).images (chip left).now
    → RanAll chip kind s start lives left → (last : List StoreRecord) × RunOf kind.role s (record { lives = lives; last = last })
ran_run chip kind nodes s start left lives image ran =
    let node = (nodes.image (chip left).now).0 (ran.node.each (chip left).now image) in
    (node.records, ran.at_exit (chip left).now node.records image node.read.held)

-- An order was reached by a flash that failed.
reached : (plan : List Step) (end : End) (order : Option Arm) (changes : ℕ) → IsOfPlan plan order → IsReached order changes → IfSome (cut_calls end) (λ calls. calls ≡ changes)
    → is_cut end ≡ true → (calls : ℕ) × ((mask : ℕ) × Contains plan (arm calls mask) × IsSomeAnd (cut_calls end) (λ m. (calls < m) ⊎ (m ≡ 4294967295)))
reached plan F.Ended order changes of_plan r calls cut = absurd cc
reached plan (F.Cut n) None changes of_plan r calls cut = absurd r
reached plan (F.Cut n) (Some a) changes of_plan (inl more) calls cut = (a.calls, (a.mask, of_plan, inl (omega (arith, more, calls))))
reached plan (F.Cut n) (Some a) changes of_plan (inr most) calls cut = (a.calls, (a.mask, of_plan, inr (calls ∙ most)))

-- The life of this script at this place was run, on the flash that the lives before it left.
module _ {F : Type 0} (chip : F → Chip) (kind : MachineKind) (s : Script) (start old new : F) (i : ℕ) (lives : List LifeOver) (x : LifeOver)
    (ran : RanAll chip kind (first_lives i s) start lives old) (same : IsSameFlash (chip start) (chip old)) (counts : CountsNow (chip old))
    (within : i < length s.lives) (h : Lived chip kind (slice_index_or s.lives i []) (chip old) x new) where
  abbrev plan : List Step
  plan = slice_index_or s.lives i []

  taken : take (i + 1) s.lives ≡ take i s.lives ++ plan ∷ []
  taken = take_more s.lives i [] within

  recovered : IsRecovered h.lives.image x.over
  recovered = subst (IsRecovered h.lives.image) h.opened_over h.lives.recovered

  is_life : EachRecovered (chip new) (λ next. LifeOf kind.role plan x.over x.life next)
  is_life image next is read =
      subst (λ over. LifeOf kind.role plan over x.life next) h.opened_over (subst (λ l. LifeOf kind.role plan h.lives.over l next) h.is (h.lives.life image next is read))

  runs : EachRecovered (chip new) (λ last. RunOf kind.role (first_lives (i + 1) s) (record { lives = lives ++ x ∷ []; last = last }))
  runs image last is read =
      let run = ran.at_exit h.lives.image x.over h.lives.is_image recovered in
      record {
        first = first_more lives x last ∙ run.first;
        lives = rw taken (lives_more kind.role (take i s.lives) lives plan x last run.lives (is_life image last is read));
      }

  -- the flash failed in it, if it was cut
  cut_once : cuts (x ∷ []) + (chip old).faults ≤ (chip new).faults
  cut_once = by_end (is_cut x.life.end) refl
    where
      cause : is_cut x.life.end ≡ true → (chip old).faults < (chip new).faults
      cause = subst (λ l. is_cut l.end ≡ true → (chip old).faults < (chip new).faults) h.is h.lives.cause

      by_end : (b : Bool) → is_cut x.life.end ≡ b → cuts (x ∷ []) + (chip old).faults ≤ (chip new).faults
      by_end true e = rw e (let m = cause e in omega arith)
      by_end false e = rw e (let k : 0 + (chip old).faults ≤ (chip new).faults = omega (arith, h.lives.later) in k)

  -- and did not, if it wasn't
  uncut : cuts (x ∷ []) ≡ 0 → (chip new).faults ≡ (chip old).faults
  uncut none = by_end (is_cut x.life.end) refl
    where
      by_end : (b : Bool) → is_cut x.life.end ≡ b → (chip new).faults ≡ (chip old).faults
      by_end true e = absurd (let one : cuts (x ∷ []) ≡ 1 = rw e refl in omega (arith, one, none))
      by_end false e = subst (λ l. is_cut l.end ≡ false → (chip new).faults ≡ (chip old).faults) h.is h.lives.no_fault e

  is_armed : IsTrue (chip start).steady → IsArmed plan x.life
  is_armed steady = subst (λ l. IsArmed plan l) h.is (λ cut.
      reached plan h.log.end (chip new).setting.arm (chip new).changes h.lives.arm
      (h.explained (subst IsTrue (sym (h.lives.steady ∙ same.steady)) steady) (subst (λ n. n < (chip new).faults) (sym h.lives.setting) (h.lives.cause cut)))
      h.lives.calls cut)

  -- and over what it opened
  found_one : AreFound (chip start) (chip new) (lives ++ x ∷ [])
  found_one t le =
      let before : t ≤ (chip old).moment = omega (arith, le, same.past.later) in
      All-push (IsFoundSince (chip new) t) lives x (found_later (chip old) (chip new) t lives h.lives.past before (ran.found t le))
      (h.lives.image, h.lives.past.keeps t h.lives.image before (counts t h.lives.image before h.lives.is_image), recovered)

  -- one life more was run
  pub ran_more : RanAll chip kind (first_lives (i + 1) s) start (lives ++ x ∷ []) new
  ran_more = record {
    lived = rw taken (chained_more chip kind (take i s.lives) lives plan x start old new ran.lived h);
    node = h.lives.node;
    found = found_one;
    at_exit = runs;
    faults = rw (cuts_more lives x) (omega (arith, ran.faults, cut_once));
    no_fault = λ none. let all : cuts lives + cuts (x ∷ []) ≡ 0 = sym (cuts_more lives x) ∙ none in uncut (omega (arith, all)) ∙ ran.no_fault (omega (arith, all));
    armed = λ steady. rw taken (armed_more (take i s.lives) lives plan x (ran.armed steady) (is_armed steady));
    cycles = let more : length (lives ++ x ∷ []) ≡ length lives + 1 = length-append lives (x ∷ []) in omega (arith, ran.cycles, h.lives.cycles, more);
  }

  -- the flash is as it was, but for its content
  pub same_more : IsSameFlash (chip start) (chip new)
  same_more = record {
    honest = h.lives.node.honest;
    steady = h.lives.steady ∙ same.steady;
    later = omega (arith, same.later, h.lives.later);
    past = past_more (chip start) (chip old) (chip new) same.past h.lives.past;
  }

-- and it was told, behind the others
pub progress_more : {F : Type 0} (chip : F → Chip) (kind : MachineKind) (s : Script) (told more : List LifeOver → SinkView → SinkView → Type 0) (start old new : F) (before mid after : SinkView) (i : ℕ) (x : LifeOver)
    → (p : Progress chip kind s told start before i old mid) → CountsNow (chip old) → i < length s.lives → Lived chip kind (slice_index_or s.lives i []) (chip old) x new
    → more (p.lives ++ x ∷ []) before after → Progress chip kind s more start before (i + 1) new after
progress_more chip kind s told more start old new before mid after i x p counts within h report = record {
  lives = p.lives ++ x ∷ [];
  count = length-append p.lives (x ∷ []) ∙ ap (λ n. n + 1) p.count;
  ran = ran_more chip kind s start old new i p.lives x p.ran p.same counts within h;
  same = same_more chip kind s start old new i p.lives x p.ran p.same counts within h;
  report = report;
}

-- a front of what is told of it was told
pub front_more : {F : Type 0} (chip : F → Chip) (kind : MachineKind) → IsSafeKind kind → (s : Script) (told : List LifeOver → SinkView → SinkView → Type 0) (broken : ℕ → Life → SinkView → SinkView → Type 0)
    (start old new : F) (before mid after : SinkView) (i : ℕ) (x : LifeOver)
    → Progress chip kind s told start before i old mid → CountsNow (chip old) → i < length s.lives → Lived chip kind (slice_index_or s.lives i []) (chip old) x new
    → (chip new).images (chip new).now → broken (i + 1) x.life mid after → RanFront chip kind s told broken start before new after
front_more chip kind nodes s told broken start old new before mid after i x p counts within h image front =
    let ran = ran_more chip kind s start old new i p.lives x p.ran p.same counts within h in
    let (last, run) = ran_run chip kind nodes (first_lives (i + 1) s) start new (p.lives ++ x ∷ []) image ran in
    record { n = i; fewer = within; lives = p.lives; x = x; last = last; is_run = run; ran = ran; mid = mid; report = p.report; front = front }

-- nothing was told of it
pub first_more_left : {F : Type 0} (chip : F → Chip) (kind : MachineKind) → IsSafeKind kind → (s : Script) (told : List LifeOver → SinkView → SinkView → Type 0)
    (start old new : F) (before mid : SinkView) (i : ℕ) (x : LifeOver)
    → Progress chip kind s told start before i old mid → CountsNow (chip old) → i < length s.lives → Lived chip kind (slice_index_or s.lives i []) (chip old) x new
    → (chip old).images (chip old).now → RanFirst chip kind s told start before (Some new) mid
first_more_left chip kind nodes s told start old new before mid i x p counts within h image =
    let (last, run) = ran_run chip kind nodes (first_lives i s) start old p.lives image p.ran in
    record {
      n = i;
      fewer = within;
      run = record { lives = p.lives; last = last };
      is_run = run;
      reached = old;
      ran = p.ran;
      report = p.report;
      more = (x, ran_more chip kind s start old new i p.lives x p.ran p.same counts within h);
    }

-- no life was run any more, and the flash is lost
pub first_lost : {F : Type 0} (chip : F → Chip) (kind : MachineKind) → IsSafeKind kind → (s : Script) (told : List LifeOver → SinkView → SinkView → Type 0) (start old : F) (before mid : SinkView) (i : ℕ)
    → Progress chip kind s told start before i old mid → i < length s.lives → (chip old).images (chip old).now → RanFirst chip kind s told start before None mid
first_lost chip kind nodes s told start old before mid i p within image =
    let (last, run) = ran_run chip kind nodes (first_lives i s) start old p.lives image p.ran in
    record { n = i; fewer = within; run = record { lives = p.lives; last = last }; is_run = run; reached = old; ran = p.ran; report = p.report; more = tt }

-- all lives were run
pub all_lived : {F : Type 0} (chip : F → Chip) (kind : MachineKind) → IsSafeKind kind → ((s : Script) (r : Run) → RunOf kind.role s r → NoReuse (uses r))
    → ((s : Script) (r : Run) → RunOf kind.role s r → AtMostOnce (delivered r)) → (s : Script) (told : List LifeOver → SinkView → SinkView → Type 0)
    (start left : F) (before after : SinkView) (i : ℕ)
    → length s.lives ≤ i → (chip left).images (chip left).now → Progress chip kind s told start before i left after → Ran chip kind s told start before left after
all_lived chip kind nodes reuses delivers s told start left before after i whole image p =
    let all : take i s.lives ≡ s.lives = take_all i s.lives whole in
    let ran : RanAll chip kind s start p.lives left =
    subst (λ lives. RanAll chip kind (record { node = s.node; lives = lives }) start p.lives left) all p.ran in
    let (last, run) = ran_run chip kind nodes s start left p.lives image ran in
    record {
      run = record { lives = p.lives; last = last };
      is_run = run;
      ran = ran;
      report = p.report;
      no_reuse = λ q is. reuses s q is;
      at_most_once = λ q is. delivers s q is;
    }
