-- What is printed of types that hold keys: no octet of a key.
use Rattle.std.specs.Prelude.{ℕ, List, ◌++◌, length, codes, Option, Some}
use Rattle.std.specs.Fmt.{decimal}
use Rattle.mesh_types.specs.declared.events.SendKey.{SendKey}
use Rattle.mesh_types.specs.declared.events.SendKey.TheVariants as K
use Rattle.mesh_types.specs.declared.jobs.Job.{Job}

-- the key's kind, and of an application key its index
abbrev pub key_printed : SendKey → Option (List ℕ)
key_printed K.Own = Some (codes "Own")
key_printed (K.Other key) = Some (codes "Other(..)")
key_printed (K.App index) = Some (codes "App(" ++ decimal index ++ codes ")")

-- how many jobs they are
abbrev pub jobs_printed : List Job → Option (List ℕ)
jobs_printed jobs = Some (codes "Jobs { length: " ++ decimal (length jobs) ++ codes ", .. }")
