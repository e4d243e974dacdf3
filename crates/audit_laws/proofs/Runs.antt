-- The lines of the report of every run: whose each is, and that no two seal under one pair for one layer or accept one name.
use Rattle.std.proofs.Common.{◌≡◌, ◌≢◌, ℕ, Bool, List, [], ◌∷◌, ◌++◌, refl, ap, sym, subst, ◌∙◌, arith, Option, Some, None}
use Rattle.std.specs.List.{All, AllByRecursion as Every, cons_option, filter_map, flat_map}
use Rattle.std.proofs.lemmas.List.Elements.{recursion_from_All}
use Rattle.audit_definitions.specs.Seals.{accepted}
use Rattle.mesh_base.specs.declared.pair.Name.{Name}
use Rattle.mesh_types.specs.declared.report.ReportLine.{ReportLine}
use Rattle.record_types.specs.declared.records.StoreRecord.{StoreRecord}
use Rattle.report_definitions.specs.Record.{Life, LifeOver, Run, first_over}
use Rattle.report_definitions.specs.Report.{lives_lines}
use Rattle.event_definitions.specs.Handling.{records_left}
use Rattle.run_definitions.specs.Order.{Step, phases_of}
use Rattle.run_definitions.specs.RunOf.{LifeOf, LivesOf, RunOf, Script}
use Rattle.run_definitions.specs.Uses.{delivered, node_of}
use Rattle.run_safety.proofs.Enough.{run_by_enough}
use Rattle.run_safety.proofs.Enough as enough
use Rattle.run_safety.proofs.Lists.{Apart, apart_from_pairs, apart_sub, every_sub}
use Rattle.event_definitions.proofs.Each.{every_back, every_front, every_map}
use Rattle.run_safety.proofs.Names.{filled_is, left_is}
use Rattle.run_safety.proofs.Nonces.{Wide}
use Rattle.run_safety.proofs.Reuse.{Drawn, both_wide, doubled_apart, lives_drawn}
use Rattle.run_safety.proofs.Rising.{later_same}
use Rattle.run_safety.proofs.Walking.{Tag}
use Rattle.run_safety.specs.Rules.{LivesBy, enough_rules}
use Rattle.run_safety.specs.Safety.{all_draws}
use Rattle.event_definitions.specs.Layers.{Layers}
use Rattle.event_definitions.specs.Role.{Role, node_role}
use Rattle.event_definitions.specs.Safe.{AreSafe}
use Rattle.audit_laws.proofs.OwnedRoles.{Owned, node_owned}
use Rattle.store_definitions.specs.Config.{Config, changed, config_of}
use Rattle.store_definitions.specs.Provisioning.{Provisioning, provisioned}
use Rattle.store_definitions.specs.Ranges.{IsInRange}
use Rattle.audit_laws.specs.Laws.{NamesElement, NamesElements, SendOwn}
use Rattle.audit_laws.proofs.Parts.{apart_back, every_nested}
use Rattle.audit_laws.proofs.ReportLines.{AskPlans, HasElement, LineFits, LivesFit, accepted_lives, line_tags, lives_fit, no_life}

-- Each two of the parts of a list.

cross : {A : Type 0} (R : A → A → Type 0) (xs ys : List A) → Apart R (xs ++ ys) → Every (λ x. Every (R x) ys) xs
cross R [] ys h = tt
cross R (x ∷ xs) ys h = (every_back (R x) xs ys h.0, cross R xs ys h.1)

cross_parts : {A B : Type 0} (R : B → B → Type 0) (f : A → List B) (bs : List B) (xs : List A) → Every (λ b. Every (R b) (flat_map f xs)) bs → Every (λ y. Every (λ b. Every (R b) (f y)) bs) xs
cross_parts R f bs [] h = tt
cross_parts R f bs (x ∷ xs) h = (
  every_map (λ b. Every (R b) (f x ++ flat_map f xs)) (λ b. Every (R b) (f x)) (λ b k. every_front (R b) (f x) (flat_map f xs) k) bs h,
  cross_parts R f bs xs (every_map (λ b. Every (R b) (f x ++ flat_map f xs)) (λ b. Every (R b) (flat_map f xs)) (λ b k. every_back (R b) (f x) (flat_map f xs) k) bs h),
)

apart_parts : {A B : Type 0} (R : B → B → Type 0) (f : A → List B) (xs : List A) → Apart R (flat_map f xs) → Apart (λ x y. Every (λ b. Every (R b) (f y)) (f x)) xs
apart_parts R f [] h = tt
apart_parts R f (x ∷ xs) h = (cross_parts R f (f x) xs (cross R (f x) (flat_map f xs) h), apart_parts R f xs (apart_back R (f x) (flat_map f xs) h))

every_parts : {A B : Type 0} (P : B → Type 0) (f : A → List B) (xs : List A) → Every P (flat_map f xs) → Every (λ x. Every P (f x)) xs
every_parts P f [] h = tt
every_parts P f (x ∷ xs) h = (every_front P (f x) (flat_map f xs) h, every_parts P f xs (every_back P (f x) (flat_map f xs) h))

-- Each two of the chosen ones.

every_any : {A : Type 0} (P : A → Type 0) → ((x : A) → P x) → (xs : List A) → Every P xs
every_any P k [] = tt
every_any P k (x ∷ xs) = (k x, every_any P k xs)

module _ {A B : Type 0} (R : B → B → Type 0) (f : A → Option B) where
  abbrev pub ChosenApart : A → A → Type 0
  ChosenApart x y = (a b : B) → f x ≡ Some a → f y ≡ Some b → R a b

  each_chosen : (v : B) (xs : List A) → Every (R v) (filter_map f xs) → Every (λ y. (b : B) → f y ≡ Some b → R v b) xs
  each_chosen v [] h = tt
  each_chosen v (x ∷ xs) h = by_choice (f x) refl h (each_chosen v xs)
    where
      by_choice : (o : Option B) → f x ≡ o → Every (R v) (cons_option o (filter_map f xs)) → (Every (R v) (filter_map f xs) → Every (λ y. (b : B) → f y ≡ Some b → R v b) xs)
          → Every (λ y. (b : B) → f y ≡ Some b → R v b) (x ∷ xs)
      by_choice None e k m = ((λ b g. absurd cc), m k)
      by_choice (Some w) e k m = ((λ b g. let same : w ≡ b = cc in subst (R v) same k.0), m k.1)

  apart_chosen : (xs : List A) → Apart R (filter_map f xs) → Apart ChosenApart xs
  apart_chosen [] h = tt
  apart_chosen (x ∷ xs) h = by_choice (f x) refl h (apart_chosen xs)
    where
      by_choice : (o : Option B) → f x ≡ o → Apart R (cons_option o (filter_map f xs)) → (Apart R (filter_map f xs) → Apart ChosenApart xs) → Apart ChosenApart (x ∷ xs)
      by_choice None e k m = (every_any (ChosenApart x) (λ y a b g h. absurd cc) xs, m k)
      by_choice (Some w) e k m =
          (every_map (λ y. (b : B) → f y ≡ Some b → R w b) (ChosenApart x) (λ y r a b g h. let same : w ≡ a = cc in subst (λ c. R c b) same (r b h)) xs (each_chosen w xs k.0), m k.1)

-- The node of a run.

provisioned_node : (p : Provisioning) → ((config_of (provisioned p)).elements ≡ p.elements) × ((config_of (provisioned p)).unicast ≡ p.unicast)
unfolding changed
provisioned_node p = (refl, refl)

over_ranges : (role : Role) (plan : List Step) (over : List StoreRecord) (l : Life) (next : List StoreRecord) → LifeOf role plan over l next → Every IsInRange over
over_ranges role plan over l next h =
    let whole = recursion_from_All IsInRange _ h.leaves.ranges in
    let left : List StoreRecord = records_left role over [] h.told in
    let filled = filled_is l.refills left in
    let rest = left_is role over [] h.told h.handled in
    every_front IsInRange over rest.0 (subst (Every IsInRange) rest.1 (every_front IsInRange left filled.0 (subst (Every IsInRange) filled.1 (every_front IsInRange _ h.leaves.more whole))))

has_element : (p : Provisioning) → Every IsInRange (provisioned p) → HasElement (config_of (provisioned p))
has_element p h =
    let node = provisioned_node p in
    let elements = node.0 in
    let unicast : (config_of (provisioned p)).unicast.0 ≡ p.unicast.0 = ap (λ a. a.0) node.1 in
    let some = h.0.0 in
    let most = h.0.3 in
    record { some = omega arith; most = omega arith }

pub ask_plans : (elements : ℕ) (plans : List (List Step)) → All (λ plan. All (λ phase. All (λ events. All (NamesElement elements) events) phase) (phases_of plan)) plans → AskPlans elements plans
ask_plans elements plans h =
    every_map (λ plan. All (λ phase. All (λ events. All (NamesElement elements) events) phase) (phases_of plan)) (λ plan. Every (Every (Every (NamesElement elements))) (phases_of plan))
    (λ plan k. every_map (λ phase. All (λ events. All (NamesElement elements) events) phase) (Every (Every (NamesElement elements))) (λ phase m. every_nested (NamesElement elements) phase m) (phases_of plan)
    (recursion_from_All (λ phase. All (λ events. All (NamesElement elements) events) phase) (phases_of plan) k)) plans
    (recursion_from_All (λ plan. All (λ phase. All (λ events. All (NamesElement elements) events) phase) (phases_of plan)) plans h)

run_fits : (role : Role) → Owned role → (node : Provisioning) (plans : List (List Step)) (lives : List LifeOver) (last : List StoreRecord)
    → first_over lives last ≡ provisioned node → LivesOf role plans lives last → LivesBy enough_rules role plans lives last → AskPlans node.elements plans
    → LivesFit (config_of (first_over lives last)) lives
run_fits role kind node plans [] last first h by asks = no_life (config_of last)
run_fits role kind node [] (x ∷ xs) last first h by asks = absurd h
run_fits role kind node (plan ∷ plans) (x ∷ xs) last first h by asks =
    let ranges : Every IsInRange (provisioned node) = subst (Every IsInRange) first (over_ranges role plan x.over x.life (first_over xs last) h.0) in
    let has : HasElement (config_of x.over) = subst (λ l. HasElement (config_of l)) (sym first) (has_element node ranges) in
    let elements : (config_of x.over).elements ≡ node.elements = ap (λ l. (config_of l).elements) first ∙ (provisioned_node node).0 in
    lives_fit role kind (config_of x.over) has (plan ∷ plans) (x ∷ xs) last h by (subst (λ n. AskPlans n (plan ∷ plans)) (sym elements) asks) (later_same (config_of x.over))

-- The lines of a report.

abbrev pub SealApart : ReportLine → ReportLine → Type 0
SealApart x y = Every (λ s. Every (λ t. s ≢ t) (line_tags y)) (line_tags x)

abbrev pub AcceptApart : ReportLine → ReportLine → Type 0
AcceptApart x y = (a b : Name) → accepted x ≡ Some a → accepted y ≡ Some b → a ≢ b

pub record SafeLines (own : Config) (lines : List ReportLine) : Type 0 where
  pub fits : Every (LineFits own) lines
  pub wide : Every (λ x. Every (λ (t : Tag). Wide t.pair) (line_tags x)) lines
  pub seals : Apart SealApart lines
  pub accepts : Apart AcceptApart lines

pub kind_lines : (role : Role) → Owned role → (s : Script) (r : Run) → NamesElements s → RunOf role s r → (hex : Bool) → SafeLines (node_of r) (lives_lines hex 1 r.lives)
kind_lines role kind s r asks h hex =
    let by = run_by_enough role s r h in
    let fit : LivesFit (node_of r) r.lives = run_fits role kind s.node s.lives r.lives r.last h.first h.lives by.lives (ask_plans s.node.elements s.lives asks) in
    let drawn : Drawn r.lives r.last = lives_drawn role kind.safe s.lives r.lives r.last by.lives in
    let once = apart_sub (λ s t. s ≢ t) fit.sub (doubled_apart (all_draws r.lives) drawn.once) in
    let wide = every_sub (λ (t : Tag). Wide t.pair) fit.sub (both_wide (all_draws r.lives) drawn.wide) in
    let lines : List ReportLine = lives_lines hex 1 r.lives in
    let tagged = fit.tagged hex 1 in
    let differ = apart_from_pairs (λ m n. m ≢ n) (delivered r) (enough.at_most_once role kind.safe s r h) in
    record {
      fits = fit.fits hex 1;
      wide = every_parts (λ (t : Tag). Wide t.pair) line_tags lines (subst (Every (λ (t : Tag). Wide t.pair)) (sym tagged) wide);
      seals = apart_parts (λ s t. s ≢ t) line_tags lines (subst (Apart (λ s t. s ≢ t)) (sym tagged) once);
      accepts = apart_chosen (λ m n. m ≢ n) accepted lines (subst (Apart (λ m n. m ≢ n)) (sym (accepted_lives hex 1 r.lives)) differ);
    }

pub run_lines : (layers : Layers) → AreSafe layers → SendOwn layers → (s : Script) (r : Run) → NamesElements s → RunOf (node_role layers) s r → (hex : Bool)
    → SafeLines (node_of r) (lives_lines hex 1 r.lives)
run_lines layers safe sends = kind_lines (node_role layers) (node_owned layers safe sends)
