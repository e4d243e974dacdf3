-- What a source of phases was told, for one phase more.
use Rattle.std.proofs.Common.{◌≡◌, ℕ, ◌+◌, ◌≤◌, List, [], ◌∷◌, ◌++◌, length, refl, sym, subst, append-nil, append_assoc, arith}
use Rattle.flash_model.specs.Chip.{Chip}
use Rattle.mesh_types.specs.declared.events.Event.{Event}
use Rattle.mesh_types.specs.declared.history.Entry.{Entry}
use Rattle.machine_contract.specs.Idle.{IsDueIn}
use Rattle.record_types.specs.declared.records.StoreRecord.{StoreRecord}
use Rattle.event_definitions.specs.History.{Past}
use Rattle.event_definitions.specs.Role.{Role}
use Rattle.store_definitions.specs.Recovered.{IsRecovered}
use Rattle.locked_node.specs.Node.{NodeView}
use Rattle.locked_node.specs.Stands.{IsDueNode, IsNode}
use Rattle.mesh_node.specs.Due.{AreDue, IsDueSince, is_any}
use Rattle.mesh_node.specs.Told.{GivesEach, PhaseDid, SourceSteps, entries_told}

-- it gave one phase more
pub gives_more : {S : Type 0} (steps : SourceSteps S) (bearers elements : ℕ) (old : S) (dues : List ℕ) (phases : List (List (List Event))) (mid : S) (due : ℕ) (events : List (List Event)) (new : S)
    → GivesEach steps bearers elements old dues phases mid → steps.gives bearers elements due mid events new → GivesEach steps bearers elements old (dues ++ due ∷ []) (phases ++ events ∷ []) new
gives_more steps bearers elements old [] [] mid due events new h gave = (new, subst (λ m. steps.gives bearers elements due m events new) h gave, refl)
gives_more steps bearers elements old [] (p ∷ phases) mid due events new h gave = absurd h
gives_more steps bearers elements old (x ∷ dues) [] mid due events new h gave = absurd h
gives_more steps bearers elements old (x ∷ dues) (p ∷ phases) mid due events new h gave =
    (h.0, h.1, gives_more steps bearers elements h.0 dues phases mid due events new h.2 gave)

-- as many numbers as phases
pub given_many : {S : Type 0} (steps : SourceSteps S) (bearers elements : ℕ) (old : S) (dues : List ℕ) (phases : List (List (List Event))) (new : S) → GivesEach steps bearers elements old dues phases new → length dues ≡ length phases
given_many steps bearers elements old [] [] new h = refl
given_many steps bearers elements old [] (p ∷ phases) new h = absurd h
given_many steps bearers elements old (x ∷ dues) [] new h = absurd h
given_many steps bearers elements old (x ∷ dues) (p ∷ phases) new h =
    let rest : length dues ≡ length phases = given_many steps bearers elements h.0 dues phases new h.2 in
    omega (arith, rest)

module _ (IsDue : List Entry → ℕ → Type 0) where
  -- one number more, which was due behind all of these phases
  pub due_more : (before : List Entry) (dues : List ℕ) (did : List PhaseDid) (due : ℕ) → length dues ≡ length did → AreDue IsDue before dues did → IsDue (before ++ entries_told did) due → AreDue IsDue before (dues ++ due ∷ []) did
  due_more before [] [] due same h last = (subst (λ es. IsDue es due) (append-nil before) last, tt)
  due_more before [] (d ∷ did) due same h last = absurd (omega (arith, same))
  due_more before (x ∷ dues) [] due same h last = absurd (omega (arith, same))
  due_more before (x ∷ dues) (d ∷ did) due same h last =
      (h.0, due_more (before ++ d.entries) dues did due (omega (arith, same)) h.1 (subst (λ es. IsDue es due) (sym (append_assoc before d.entries (entries_told did))) last))

  -- one phase more, before which they all were
  pub due_still : (before : List Entry) (dues : List ℕ) (did : List PhaseDid) (d : PhaseDid) → length dues ≤ length did + 1 → AreDue IsDue before dues did → AreDue IsDue before dues (did ++ d ∷ [])
  due_still before [] did d few h = tt
  due_still before (x ∷ []) [] d few h = (h.0, tt)
  due_still before (x ∷ y ∷ dues) [] d few h = absurd (omega (arith, few))
  due_still before (x ∷ dues) (e ∷ did) d few h = (h.0, due_still (before ++ e.entries) dues did d (omega (arith, few)) h.1)

-- where nothing is said of them
pub due_any : (before : List Entry) (dues : List ℕ) (did : List PhaseDid) → AreDue is_any before dues did
due_any before [] did = tt
due_any before (x ∷ dues) [] = (tt, due_any before dues [])
due_any before (x ∷ dues) (d ∷ did) = (tt, due_any (before ++ d.entries) dues did)

-- what a node says is due, behind its entries
pub due_node : {F : Type 0} {role : Role} {image : List ℕ → Type 0} {chip : F → Chip} (Quiet : Past → ℕ → Type 0) (one : (image : List ℕ) (rs ss : List StoreRecord) → IsRecovered image rs → IsRecovered image ss → rs ≡ ss)
    (node : NodeView F) (start : F) → node.start ≡ start → IsNode role image chip node → (due : ℕ) → IsDueNode role Quiet chip node due → (entries : List Entry) → node.machine.entries ≡ entries → IsDueSince role Quiet (chip start) entries due
due_node {F} {role} {image} {chip} Quiet one node start same known due h entries are = λ over read. record {
  machine = node.machine;
  entries_are = are;
  asked = known.asked;
  least = subst (λ o. IsDueIn role Quiet o node.machine due) (one (chip start).now h.over over (subst (λ (s : F). IsRecovered (chip s).now h.over) same h.read) read) h.least;
}
