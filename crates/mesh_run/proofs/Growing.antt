-- A life more in the record of a run.
use Rattle.std.proofs.Common.{◌≡◌, ◌+◌, List, [], ◌∷◌, ◌++◌, refl, sym, ◌∙◌, subst}
use Rattle.std.specs.Prelude.{if◌then◌else◌}
use Rattle.std.proofs.lemmas.List.Sums.{sum_by-append}
use Rattle.record_types.specs.declared.records.StoreRecord.{StoreRecord}
use Rattle.report_definitions.specs.Record.{Life, LifeOver, first_over}
use Rattle.event_definitions.specs.Role.{Role}
use Rattle.run_definitions.specs.Order.{Step, is_cut}
use Rattle.run_definitions.specs.RunOf.{LifeOf, LivesOf}
use Rattle.run_safety.specs.Safety.{Keeps}
use Rattle.store_definitions.specs.Config.{config_of}
use Rattle.flash_model.specs.Chip.{Chip}
use Rattle.mesh_run.specs.Kind.{MachineKind}
use Rattle.mesh_run.specs.Lived.{Chained, Lived}
use Rattle.mesh_run.specs.Ran.{AreArmed, IsArmed, cuts}

-- what the first life opened over stays
pub first_more : (xs : List LifeOver) (x : LifeOver) (next : List StoreRecord) → first_over (xs ++ x ∷ []) next ≡ first_over xs x.over
first_more [] x next = refl
first_more (y ∷ ys) x next = refl

pub lives_more : (role : Role) (plans : List (List Step)) (xs : List LifeOver) (plan : List Step) (x : LifeOver) (next : List StoreRecord)
    → LivesOf role plans xs x.over → LifeOf role plan x.over x.life next → LivesOf role (plans ++ plan ∷ []) (xs ++ x ∷ []) next
lives_more role [] [] plan x next h l = (l, tt)
lives_more role [] (y ∷ ys) plan x next h l = absurd h
lives_more role (p ∷ ps) [] plan x next h l = absurd h
lives_more role (p ∷ ps) (y ∷ ys) plan x next (first, h) l =
    (subst (λ over. LifeOf role p y.over y.life over) (sym (first_more ys x next)) first, lives_more role ps ys plan x next h l)

-- a life behind lives that were run one after another
pub chained_more : {F : Type 0} (chip : F → Chip) (kind : MachineKind) (plans : List (List Step)) (xs : List LifeOver) (plan : List Step) (x : LifeOver) (start mid left : F)
    → Chained chip kind plans start xs mid → Lived chip kind plan (chip mid) x left → Chained chip kind (plans ++ plan ∷ []) start (xs ++ x ∷ []) left
chained_more chip kind [] [] plan x start mid left h l = (left, subst (λ f. Lived chip kind plan (chip f) x left) h l, refl)
chained_more chip kind [] (y ∷ ys) plan x start mid left h l = absurd h
chained_more chip kind (p ∷ ps) [] plan x start mid left h l = absurd h
chained_more chip kind (p ∷ ps) (y ∷ ys) plan x start mid left (next, first, h) l =
    (next, first, chained_more chip kind ps ys plan x next mid left h l)

-- one more life, that was cut or not
pub cuts_more : (xs : List LifeOver) (x : LifeOver) → cuts (xs ++ x ∷ []) ≡ cuts xs + cuts (x ∷ [])
cuts_more xs x = sum_by-append (λ y. if is_cut y.life.end then 1 else 0) xs (x ∷ [])

pub armed_more : (plans : List (List Step)) (xs : List LifeOver) (plan : List Step) (x : LifeOver)
    → AreArmed plans xs → IsArmed plan x.life → AreArmed (plans ++ plan ∷ []) (xs ++ x ∷ [])
armed_more [] [] plan x h a = (a, tt)
armed_more [] (y ∷ ys) plan x h a = absurd h
armed_more (p ∷ ps) [] plan x h a = absurd h
armed_more (p ∷ ps) (y ∷ ys) plan x (first, h) a = (first, armed_more ps ys plan x h a)

-- from a life of this kind of node to the next one
abbrev pub LivesKeep : Role → Type 0
LivesKeep role =
    (plan : List Step) (over : List StoreRecord) (l : Life) (next : List StoreRecord) → LifeOf role plan over l next → Keeps (config_of over) (config_of next)

-- the node keeps its elements over all lives
pub kept_elements : (role : Role) → LivesKeep role → (plans : List (List Step)) (xs : List LifeOver) (last : List StoreRecord)
    → LivesOf role plans xs last → (config_of last).elements ≡ (config_of (first_over xs last)).elements
kept_elements role keeps [] [] last h = refl
kept_elements role keeps [] (x ∷ xs) last h = absurd h
kept_elements role keeps (p ∷ ps) [] last h = absurd h
kept_elements role keeps (p ∷ ps) (x ∷ xs) last (first, h) =
    kept_elements role keeps ps xs last h ∙ (keeps p x.over x.life (first_over xs last) first).elements
