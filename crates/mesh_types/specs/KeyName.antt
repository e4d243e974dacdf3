-- How the report names a key of the upper transport layer.
use Rattle.mesh_base.specs.declared.keys.UpperKey.{UpperKey}
use Rattle.mesh_base.specs.declared.keys.UpperKey.TheVariants as U
use Rattle.mesh_types.specs.declared.answers.KeyName.{KeyName}
use Rattle.mesh_types.specs.declared.answers.KeyName.TheVariants as N

-- a device key has no index, whichever node's it is
abbrev pub key_name_of : UpperKey → KeyName
key_name_of (U.Device key) = N.Dev
key_name_of (U.App index aid key) = N.App index
