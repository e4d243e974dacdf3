-- The groups of answers to a network PDU, as far as tables go by them.
use Rattle.std.specs.Prelude.{Bool, true, false}
use Rattle.mesh_types.specs.declared.answers.Answer.{Answer}
use Rattle.mesh_types.specs.declared.answers.Answer.TheVariants as A

-- those of the network layer
abbrev pub is_early : Answer → Bool
is_early A.Unread = true
is_early A.BadAddress = true
is_early A.Own = true
is_early A.Cached = true
is_early A.NotMine = true
is_early _ = false

-- those that go by names alone
abbrev pub is_known : Answer → Bool
is_known A.Again = true
is_known (A.Replay kept) = true
is_known _ = false

-- those of a segment of a message that isn't whole by it
abbrev pub is_of_part : Answer → Bool
is_of_part (A.NoRoom held) = true
is_of_part A.Conflict = true
is_of_part (A.Waiting missing) = true
is_of_part _ = false

-- those of a whole message
abbrev pub is_of_whole : Answer → Bool
is_of_whole A.NoKey = true
is_of_whole (A.ListFull held) = true
is_of_whole (A.Delivered name dst key payload) = true
is_of_whole (A.Control name dst opcode params) = true
is_of_whole _ = false

-- those from the lower transport layer on
abbrev pub is_late : Answer → Bool
is_late A.Malformed = true
is_late A.Again = true
is_late (A.Replay kept) = true
is_late (A.NoRoom held) = true
is_late A.Conflict = true
is_late (A.Waiting missing) = true
is_late A.NoKey = true
is_late (A.ListFull held) = true
is_late (A.Delivered name dst key payload) = true
is_late (A.Control name dst opcode params) = true
is_late _ = false
