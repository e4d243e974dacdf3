-- Why no file was made: there were no keys, or the file was refused.
use Rattle.std.proofs.Common.{◌≡◌, ℕ, List, Option}
use Rattle.daemon_words.specs.Numbers.{provision_of}
use Rattle.daemon_words.specs.declared.keys.NodeKeys.{NodeKeys}
use Rattle.daemon_words.specs.declared.numbers.NodeNumbers.{NodeNumbers}
use Rattle.node_file.specs.declared.faults.MakeFault.{MakeFault}
use Rattle.node_file.specs.declared.faults.MakeFault.TheVariants as M
use Rattle.node_store.specs.declared.provision.Provision.{Provision}
use Rattle.meshnoded.specs.Failing.{make_failure}
use Rattle.meshnoded.specs.Reading.{HasKeys, IsKeyless, IsUnmade}
use Rattle.meshnoded.specs.declared.failure.Failure.{Failure}
use Rattle.meshnoded.specs.declared.failure.Failure.TheVariants as F

module _ (unmakes : Provision → MakeFault → Type 0) (numbers : NodeNumbers) (old new : Option (List ℕ)) (before after : ℕ) (keys : NodeKeys) (has : HasKeys old new keys) (same : after ≡ before) where
  pub unmade : (fault : MakeFault) → unmakes (provision_of numbers keys) fault → IsUnmade unmakes numbers old before new after (make_failure fault)
  unmade M.Memory h = same
  unmade M.Taken h = (keys, has, h)
  unmade M.Begun h = (keys, has, h)
  unmade (M.System error) h = (keys, has, h)

module _ (unmakes : Provision → MakeFault → Type 0) (numbers : NodeNumbers) (old new : Option (List ℕ)) (before after : ℕ) where
  pub keyless : (failure : Failure) → IsKeyless old before new after failure → IsUnmade unmakes numbers old before new after failure
  keyless F.Keys h = h
  keyless F.Read h = h
  keyless F.Memory h = h
  keyless F.Usage h = absurd h
  keyless F.Write h = absurd h
  keyless (F.Open fault) h = absurd h
  keyless (F.Make fault) h = absurd h
  keyless (F.Show fault) h = absurd h
  keyless (F.Clock error) h = absurd h
  keyless (F.Life status) h = absurd h
  keyless (F.LifeAndFlash status) h = absurd h
