-- A run as steps of the world of numbers and seals, life by life. Messages are left out: no step accepts, delivers or expires one.
use Rattle.std.specs.Prelude.{◌≡◌, List, [], ◌∷◌, ◌++◌, filter, All, Contains, ⊤}
use Rattle.event_definitions.specs.Layers.{Layers}
use Rattle.event_definitions.specs.Role.{node_role}
use Rattle.event_definitions.specs.Safe.{AreSafe}
use Rattle.mesh_base.specs.IvState.{transmit_of}
use Rattle.mesh_world.specs.Good.{IsGood}
use Rattle.mesh_world.specs.World.{AreAllowed, World, WorldStep, after_all, provisioned}
use Rattle.mesh_world.specs.World as world
use Rattle.mesh_world.specs.World.WorldStep.{Advance, Cut, Draw, Publish, Reserve, Seal}
use Rattle.record_types.specs.declared.records.StoreRecord.{StoreRecord}
use Rattle.report_definitions.specs.Record.{Life, LifeOver, Run, first_over, shown}
use Rattle.run_definitions.specs.RunOf.{RunOf, Script, draws}
use Rattle.run_definitions.specs.Uses.{Use, life_seals, node_of, nonce_source, uses}
use Rattle.store_definitions.specs.Config.{Config, config_of, is_element}

-- the seals of a life whose nonce has an own address as SRC, in the order of its lines, bearer by bearer
abbrev pub own_seals : Config → Life → List Use
own_seals own l = filter (λ u. is_element own (nonce_source u.nonce)) (life_seals l)

-- a step of numbers and seals, with power on
abbrev pub IsOn : WorldStep → Type 0
IsOn Draw = ⊤
IsOn (Seal sealing) = ⊤
IsOn (Reserve current mark) = ⊤
IsOn (Publish mark) = ⊤
IsOn (Advance iv) = ⊤
IsOn _ = ⊥

-- Power comes on over the mark that the life opens with, and then the life's steps are taken.

abbrev pub with_power : LifeOver → List WorldStep → List WorldStep
with_power x steps = Cut (config_of x.over).mark ∷ steps

abbrev pub after_life : World → LifeOver → List WorldStep → World
after_life w x steps = after_all w (with_power x steps)

-- These are steps of the life from this world on, which leaves such records.
pub record IsLife (own : Config) (w : World) (x : LifeOver) (next : List StoreRecord) (steps : List WorldStep) : Type 0 where
  pub allowed : AreAllowed w (with_power x steps)
  pub on : All IsOn steps
  -- what the lines seal is sealed, and nothing else
  pub seals : world.uses (after_life w x steps) ≡ world.uses w ++ own_seals own x.life
  -- each pair that a line draws is drawn since power came on
  pub drawn : All (Contains (after_life w x steps).held) (draws (shown x.life))
  -- the durable mark and the known IV Index are those of the records that it leaves
  pub mark : (after_life w x steps).kept ≡ (config_of next).mark
  pub current : (after_life w x steps).current ≡ (config_of next).iv.current

abbrev pub AreLives : Config → World → List LifeOver → List StoreRecord → List (List WorldStep) → Type 0
AreLives own w [] last [] = ⊤
AreLives own w (x ∷ xs) last (steps ∷ more) =
    IsLife own w x (first_over xs last) steps × AreLives own (after_life w x steps) xs last more
AreLives own w _ last _ = ⊥

abbrev pub after_lives : World → List LifeOver → List (List WorldStep) → World
after_lives w (x ∷ xs) (steps ∷ more) = after_lives (after_life w x steps) xs more
after_lives w _ _ = w

-- the world of the node as its first life finds it
abbrev pub first_world : Run → World
first_world r = provisioned (node_of r).iv.current (transmit_of (node_of r).iv)

-- The lives of a run by their steps. All that the run seals is what is sealed in the good world at its end.
pub record GoesBySteps (r : Run) : Type 0 where
  pub steps : List (List WorldStep)
  pub lives : AreLives (node_of r) (first_world r) r.lives r.last steps
  pub good : IsGood (after_lives (first_world r) r.lives steps)
  pub seals : world.uses (after_lives (first_world r) r.lives steps) ≡ uses r

abbrev pub RunsGoBySteps : Type 0
RunsGoBySteps =
    (layers : Layers) → AreSafe layers → (s : Script) (r : Run) → RunOf (node_role layers) s r → GoesBySteps r
