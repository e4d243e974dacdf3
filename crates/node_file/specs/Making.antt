-- A file is made: which calls on its folder make it, in their order, and where they end if it isn't made.
use Rattle.std.specs.Prelude.{◌≡◌, ℕ, true, false, Bool, List, [], ◌∷◌, ◌++◌, codes, Option, Some, None}
use Rattle.std.specs.IoError.{error_kind}
use Rattle.std.specs.declared.io.Error.{Error}
use Rattle.std.specs.declared.io.ErrorKind.TheVariants as K
use Rattle.node_file.specs.declared.faults.MakeFault.{MakeFault}
use Rattle.node_file.specs.declared.faults.MakeFault.TheVariants as M
use Rattle.node_store.specs.Mounted.{IsRead}
use Rattle.node_store.specs.Provisioning.{provisioning}
use Rattle.node_store.specs.declared.provision.Provision.{Provision}
use Rattle.slot_journal.specs.Headers.{IsTidy}
use Rattle.store_definitions.specs.Provisioning.{provisioned}

-- a call on a folder
pub data Step : Type 0 where
  -- it was asked whether something has this name, and this was the answer
  finds : List ℕ → Bool → Step
  -- a file of this name, which nothing had, was made for its owner alone, with these octets, which are durable
  creates : List ℕ → List ℕ → Step
  -- what has the one name got the other one too, which nothing had
  names : List ℕ → List ℕ → Step
  -- the name was removed
  removes : List ℕ → Step
  -- the names in the folder that this one is in were made durable
  syncs : List ℕ → Step
  -- the call was refused with this error
  refuses : Error → Step → Step

-- what was done: these steps, behind those of before
abbrev pub DidAll : List Step → Option (List Step) → Option (List Step) → Type 0
DidAll steps None new = new ≡ None
DidAll steps (Some old) new = new ≡ Some (old ++ steps)

abbrev pub Did : Step → Option (List Step) → Option (List Step) → Type 0
Did step old new = DidAll (step ∷ []) old new

-- The octets are those of a node that was provisioned so, and nothing else: its first records are what they recover.
pub record IsImageOf (p : Provision) (image : List ℕ) : Type 0 where
  pub tidy : IsTidy image
  pub read : IsRead image (provisioned (provisioning p))

-- the name under which a file is made
abbrev pub new_name : List ℕ → List ℕ
new_name path = path ++ codes ".new"

-- a file that is whole gets its name, which nothing had, and loses the other, durably
abbrev pub naming : List ℕ → List ℕ → List Step
naming name path = names name path ∷ removes name ∷ syncs path ∷ []

-- The steps that make a file with this image. It gets its name only once all of it is durable.
abbrev pub making : List ℕ → List ℕ → List Step
making path image = finds path false ∷ creates (new_name path) image ∷ naming (new_name path) path

-- it was made
pub record IsMade (path : List ℕ) (p : Provision) (old new : Option (List Step)) : Type 0 where
  pub image : List ℕ
  pub is : IsImageOf p image
  pub did : DidAll (making path image) old new

-- what is answered where a call that wants a new name was refused with an error: this where something has the name, else the error
pub data IsRefusal (taken : MakeFault) (error : Error) : MakeFault → Type 0 where
  known : error_kind error ≡ K.AlreadyExists → IsRefusal taken error taken
  other : (error_kind error ≡ K.AlreadyExists → ⊥) → IsRefusal taken error (M.System error)

-- a fault, and the steps that name a file up to one that was refused; a fault of the system is the error of that one
pub data IsUnnamed (name path : List ℕ) : MakeFault → List Step → Type 0 where
  -- it didn't get its name, and lost the other
  dropped : (error : Error) (fault : MakeFault) → IsRefusal M.Taken error fault
      → IsUnnamed name path fault (refuses error (names name path) ∷ removes name ∷ [])
  -- it didn't get its name, and couldn't be removed
  left : (error behind : Error) (fault : MakeFault) → IsRefusal M.Taken error fault
      → IsUnnamed name path fault (refuses error (names name path) ∷ refuses behind (removes name) ∷ [])
  -- it has both names
  unremoved : (error : Error) → IsUnnamed name path (M.System error) (names name path ∷ refuses error (removes name) ∷ [])
  -- it has its name, but not durably
  unsynced : (error : Error) → IsUnnamed name path (M.System error) (names name path ∷ removes name ∷ refuses error (syncs path) ∷ [])

-- a fault, and the steps that make a file up to one that was refused
pub data IsUnmade (path : List ℕ) (p : Provision) : MakeFault → List Step → Type 0 where
  -- it couldn't be asked whether something has its name
  unasked : (error : Error) → IsUnmade path p (M.System error) (refuses error (finds path false) ∷ [])
  -- something has it
  taken : IsUnmade path p M.Taken (finds path true ∷ [])
  -- there was no memory, and nothing was made
  no_memory : IsUnmade path p M.Memory (finds path false ∷ [])
  -- nothing was made
  uncreated : (error : Error) (fault : MakeFault) (image : List ℕ) → IsImageOf p image → IsRefusal M.Begun error fault
      → IsUnmade path p fault (finds path false ∷ refuses error (creates (new_name path) image) ∷ [])
  -- it was made, whole, under the other name
  unnamed : (fault : MakeFault) (image : List ℕ) (steps : List Step) → IsImageOf p image → IsUnnamed (new_name path) path fault steps
      → IsUnmade path p fault (finds path false ∷ creates (new_name path) image ∷ steps)

-- what was done is such steps
pub record DidSome (Are : List Step → Type 0) (old new : Option (List Step)) : Type 0 where
  pub steps : List Step
  pub did : DidAll steps old new
  pub are : Are steps
