-- A run as steps of the world of all kinds: of its numbers, its seals and its messages.
use Rattle.std.specs.Prelude.{◌≡◌, List, [], ◌∷◌, ◌++◌, All, Contains, ⊤}
use Rattle.event_definitions.specs.Layers.{Layers}
use Rattle.event_definitions.specs.Role.{node_role}
use Rattle.event_definitions.specs.Safe.{AreSafe}
use Rattle.low_power_role.specs.Role.{low_power_role}
use Rattle.mesh_base.specs.declared.address.Address.{Address}
use Rattle.mesh_world.specs.Good.{IsGood}
use Rattle.mesh_world.specs.World.{AreAllowed, World, WorldStep}
use Rattle.mesh_world.specs.World as world
use Rattle.mesh_world.specs.World.WorldStep.{Cut}
use Rattle.record_types.specs.declared.records.StoreRecord.{StoreRecord}
use Rattle.report_definitions.specs.Record.{LifeOver, Run, first_over, shown}
use Rattle.run_definitions.specs.RunOf.{RunOf, Script, draws}
use Rattle.run_definitions.specs.Uses.{delivered, life_delivered, node_of, uses}
use Rattle.run_world.specs.Steps.{after_life, after_lives, first_world, own_seals, with_power}
use Rattle.store_definitions.specs.Config.{Config, config_of}
use Rattle.store_definitions.specs.Entries.{entry_of, unexpired}

-- any step with power on
abbrev pub IsPowered : WorldStep → Type 0
IsPowered (Cut mark) = ⊥
IsPowered _ = ⊤

-- These are all steps of the life from this world on, which leaves such records.
pub record IsWholeLife (own : Config) (w : World) (x : LifeOver) (next : List StoreRecord) (steps : List WorldStep) : Type 0 where
  pub allowed : AreAllowed w (with_power x steps)
  pub on : All IsPowered steps
  -- what the lines seal is sealed, and nothing else
  pub seals : world.uses (after_life w x steps) ≡ world.uses w ++ own_seals own x.life
  -- the messages that the entries accept are delivered, in their order, and no others
  pub delivered : (after_life w x steps).delivered ≡ w.delivered ++ life_delivered x.life
  -- each pair that a line draws is drawn since power came on
  pub drawn : All (Contains (after_life w x steps).held) (draws (shown x.life))
  -- the durable mark, the known IV Index and the entry of each source are those of the records that it leaves
  pub mark : (after_life w x steps).kept ≡ (config_of next).mark
  pub current : (after_life w x steps).current ≡ (config_of next).iv.current
  pub entries : (src : Address) → unexpired (config_of next).iv.current ((after_life w x steps).entry src) ≡ entry_of next src.0

abbrev pub AreWholeLives : Config → World → List LifeOver → List StoreRecord → List (List WorldStep) → Type 0
AreWholeLives own w [] last [] = ⊤
AreWholeLives own w (x ∷ xs) last (steps ∷ more) =
    IsWholeLife own w x (first_over xs last) steps × AreWholeLives own (after_life w x steps) xs last more
AreWholeLives own w _ last _ = ⊥

-- The lives of a run by their steps. What the run seals and what it delivers is what is sealed and delivered in the good world at its end.
pub record GoesByAllSteps (r : Run) : Type 0 where
  pub steps : List (List WorldStep)
  pub lives : AreWholeLives (node_of r) (first_world r) r.lives r.last steps
  pub good : IsGood (after_lives (first_world r) r.lives steps)
  pub seals : world.uses (after_lives (first_world r) r.lives steps) ≡ uses r
  pub delivered : (after_lives (first_world r) r.lives steps).delivered ≡ delivered r

abbrev pub RunsGoByAllSteps : Type 0
RunsGoByAllSteps =
    (layers : Layers) → AreSafe layers → (s : Script) (r : Run) → RunOf (node_role layers) s r → GoesByAllSteps r

abbrev pub LowPowerRunsGoByAllSteps : Type 0
LowPowerRunsGoByAllSteps = (s : Script) (r : Run) → RunOf low_power_role s r → GoesByAllSteps r
