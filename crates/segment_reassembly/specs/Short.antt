-- The pieces of a control message have at most 8 octets each (Mesh Profile 1.0.1, section 3.5.2.4).
use Rattle.std.specs.Prelude.{ℕ, ◌≤◌, nat_le, Bool, true, if◌then◌else◌, List, [], length, Option, unwrap_or}
use Rattle.std.specs.List.{list_all}
use Rattle.layer_states.specs.declared.reassembly.Assembly.{Assembly}
use Rattle.layer_states.specs.declared.reassembly.Taken.{Taken}
use Rattle.layer_states.specs.declared.reassembly.Taken.TheVariants.{Waiting, Whole, Conflict, NoRoom}

abbrev pub is_short_piece : Option (List ℕ) → Bool
is_short_piece p = nat_le (length (unwrap_or p [])) 8

abbrev pub is_short : Assembly → Bool
is_short a = if a.form.ctl then list_all is_short_piece a.pieces else true

-- a whole message has at most so many octets
abbrev pub IsWithin : ℕ → Taken → Type 0
IsWithin n (Waiting missing) = Unit
IsWithin n (Whole octets) = length octets ≤ n
IsWithin n Conflict = Unit
IsWithin n (NoRoom held) = Unit
