-- The keys that a source has.
use Rattle.std.specs.Prelude.{◌≡◌, ◌⊎◌, ℕ, ◌<◌, ◌≤◌, List, length, Option, Some, None}
use Rattle.std.specs.Io.KnownBytes.{Consumes, IsAtEnd}
use Rattle.daemon_words.specs.Keys.{keys_of}
use Rattle.daemon_words.specs.Numbers.{provision_of}
use Rattle.daemon_words.specs.declared.keys.NodeKeys.{NodeKeys}
use Rattle.daemon_words.specs.declared.numbers.NodeNumbers.{NodeNumbers}
use Rattle.mesh_base.specs.Outside.{Rose}
use Rattle.node_file.specs.declared.faults.MakeFault.{MakeFault}
use Rattle.node_store.specs.declared.provision.Provision.{Provision}
use Rattle.meshnoded.specs.declared.failure.Failure.{Failure}
use Rattle.meshnoded.specs.declared.failure.Failure.TheVariants as F

-- It gave these octets: all that it had, and fewer than 256.
pub record HasText (old new : Option (List ℕ)) (text : List ℕ) : Type 0 where
  pub read : Consumes old new text
  pub end : IsAtEnd new
  pub few : length text < 256

-- it gave 256 octets or more
pub record HasMore (old new : Option (List ℕ)) : Type 0 where
  pub text : List ℕ
  pub read : Consumes old new text
  pub many : 256 ≤ length text

-- what it gave are two keys
pub record HasKeys (old new : Option (List ℕ)) (keys : NodeKeys) : Type 0 where
  pub text : List ℕ
  pub has : HasText old new text
  pub are : keys_of text ≡ Some keys

-- what it gave are no two keys
pub record HasNoKeys (old new : Option (List ℕ)) : Type 0 where
  pub text : List ℕ
  pub has : HasText old new text
  pub none : keys_of text ≡ None

-- why no text was read: it is too long, the source failed, or there was no memory; these are the faults of the source before and after
abbrev pub IsUnread : Option (List ℕ) → ℕ → Option (List ℕ) → ℕ → Failure → Type 0
IsUnread old before new after F.Keys = HasMore old new
IsUnread old before new after F.Read = Rose before after
IsUnread old before new after F.Memory = after ≡ before
IsUnread old before new after _ = ⊥

-- why no keys were read: the same, or the text is no two keys
abbrev pub IsKeyless : Option (List ℕ) → ℕ → Option (List ℕ) → ℕ → Failure → Type 0
IsKeyless old before new after F.Keys = HasMore old new ⊎ HasNoKeys old new
IsKeyless old before new after F.Read = Rose before after
IsKeyless old before new after F.Memory = after ≡ before
IsKeyless old before new after _ = ⊥

-- why no file was made of a node with these numbers: there were no keys, or the file itself was refused
abbrev pub IsUnmade : (Provision → MakeFault → Type 0) → NodeNumbers → Option (List ℕ) → ℕ → Option (List ℕ) → ℕ → Failure → Type 0
IsUnmade unmakes numbers old before new after (F.Make fault) =
    (keys : NodeKeys) × HasKeys old new keys × unmakes (provision_of numbers keys) fault
IsUnmade unmakes numbers old before new after failure = IsKeyless old before new after failure
