-- What the tables go by in each group of answers.
use Rattle.std.proofs.Common.{◌≡◌, ℕ, true, false, [], ◌∷◌, refl}
use Rattle.std.proofs.lemmas.Bool.{false≢true}
use Rattle.layer_states.specs.Reassembly.{release, take_part}
use Rattle.layer_states.specs.declared.reassembly.PartHeard.{PartHeard}
use Rattle.mesh_base.specs.declared.pair.Name.{Name}
use Rattle.mesh_hearing.specs.Below.{heard_calls}
use Rattle.message_answers.specs.Kinds.{is_early, is_known, is_late, is_of_part, is_of_whole}
use Rattle.mesh_types.specs.declared.answers.Answer.{Answer}
use Rattle.mesh_types.specs.declared.answers.Answer.TheVariants as A
use Rattle.mesh_types.specs.declared.events.Event.{Event}
use Rattle.node_layers.specs.Reassembly.{part_calls, tick_calls, whole_calls}
use Rattle.node_layers.specs.Sending.{own_calls}
use Rattle.event_definitions.specs.Answers.{is_before_cache}
use Rattle.event_definitions.specs.History.{ticks_after}

pub late_cached : (a : Answer) → is_late a ≡ true → is_before_cache a ≡ false
late_cached A.Unread e = absurd (false≢true e)
late_cached A.BadAddress e = absurd (false≢true e)
late_cached A.Own e = absurd (false≢true e)
late_cached A.Cached e = absurd (false≢true e)
late_cached A.NotMine e = absurd (false≢true e)
late_cached A.Malformed e = refl
late_cached A.Again e = refl
late_cached (A.Replay kept) e = refl
late_cached (A.NoRoom held) e = refl
late_cached A.Conflict e = refl
late_cached (A.Waiting missing) e = refl
late_cached A.NoKey e = refl
late_cached (A.ListFull held) e = refl
late_cached (A.Delivered name dst key payload) e = refl
late_cached (A.Control name dst opcode params) e = refl
late_cached (A.Beacon index key iv) e = absurd (false≢true e)
late_cached A.Planned e = absurd (false≢true e)
late_cached (A.NoAppKey index) e = absurd (false≢true e)
late_cached (A.Ticked now) e = absurd (false≢true e)
late_cached A.Begun e = absurd (false≢true e)
late_cached (A.Moved iv) e = absurd (false≢true e)
late_cached A.Befriended e = absurd (false≢true e)
late_cached (A.SendFull held) e = absurd (false≢true e)
late_cached A.Kept e = absurd (false≢true e)
late_cached A.Dropped e = absurd (false≢true e)
late_cached (A.LowPower answer) e = absurd (false≢true e)
late_cached A.Reset e = absurd (false≢true e)

pub late_ticks : (a : Answer) → is_late a ≡ true → tick_calls a ≡ []
late_ticks A.Unread e = absurd (false≢true e)
late_ticks A.BadAddress e = absurd (false≢true e)
late_ticks A.Own e = absurd (false≢true e)
late_ticks A.Cached e = absurd (false≢true e)
late_ticks A.NotMine e = absurd (false≢true e)
late_ticks A.Malformed e = refl
late_ticks A.Again e = refl
late_ticks (A.Replay kept) e = refl
late_ticks (A.NoRoom held) e = refl
late_ticks A.Conflict e = refl
late_ticks (A.Waiting missing) e = refl
late_ticks A.NoKey e = refl
late_ticks (A.ListFull held) e = refl
late_ticks (A.Delivered name dst key payload) e = refl
late_ticks (A.Control name dst opcode params) e = refl
late_ticks (A.Beacon index key iv) e = absurd (false≢true e)
late_ticks A.Planned e = absurd (false≢true e)
late_ticks (A.NoAppKey index) e = absurd (false≢true e)
late_ticks (A.Ticked now) e = absurd (false≢true e)
late_ticks A.Begun e = absurd (false≢true e)
late_ticks (A.Moved iv) e = absurd (false≢true e)
late_ticks A.Befriended e = absurd (false≢true e)
late_ticks (A.SendFull held) e = absurd (false≢true e)
late_ticks A.Kept e = absurd (false≢true e)
late_ticks A.Dropped e = absurd (false≢true e)
late_ticks (A.LowPower answer) e = absurd (false≢true e)
late_ticks A.Reset e = absurd (false≢true e)

pub late_now : (a : Answer) (n : ℕ) → is_late a ≡ true → ticks_after n a ≡ n
late_now A.Unread n e = absurd (false≢true e)
late_now A.BadAddress n e = absurd (false≢true e)
late_now A.Own n e = absurd (false≢true e)
late_now A.Cached n e = absurd (false≢true e)
late_now A.NotMine n e = absurd (false≢true e)
late_now A.Malformed n e = refl
late_now A.Again n e = refl
late_now (A.Replay kept) n e = refl
late_now (A.NoRoom held) n e = refl
late_now A.Conflict n e = refl
late_now (A.Waiting missing) n e = refl
late_now A.NoKey n e = refl
late_now (A.ListFull held) n e = refl
late_now (A.Delivered name dst key payload) n e = refl
late_now (A.Control name dst opcode params) n e = refl
late_now (A.Beacon index key iv) n e = absurd (false≢true e)
late_now A.Planned n e = absurd (false≢true e)
late_now (A.NoAppKey index) n e = absurd (false≢true e)
late_now (A.Ticked now) n e = absurd (false≢true e)
late_now A.Begun n e = absurd (false≢true e)
late_now (A.Moved iv) n e = absurd (false≢true e)
late_now A.Befriended n e = absurd (false≢true e)
late_now (A.SendFull held) n e = absurd (false≢true e)
late_now A.Kept n e = absurd (false≢true e)
late_now A.Dropped n e = absurd (false≢true e)
late_now (A.LowPower answer) n e = absurd (false≢true e)
late_now A.Reset n e = absurd (false≢true e)

pub early_ticks : (a : Answer) → is_early a ≡ true → tick_calls a ≡ []
early_ticks A.Unread e = refl
early_ticks A.BadAddress e = refl
early_ticks A.Own e = refl
early_ticks A.Cached e = refl
early_ticks A.NotMine e = refl
early_ticks A.Malformed e = absurd (false≢true e)
early_ticks A.Again e = absurd (false≢true e)
early_ticks (A.Replay kept) e = absurd (false≢true e)
early_ticks (A.NoRoom held) e = absurd (false≢true e)
early_ticks A.Conflict e = absurd (false≢true e)
early_ticks (A.Waiting missing) e = absurd (false≢true e)
early_ticks A.NoKey e = absurd (false≢true e)
early_ticks (A.ListFull held) e = absurd (false≢true e)
early_ticks (A.Delivered name dst key payload) e = absurd (false≢true e)
early_ticks (A.Control name dst opcode params) e = absurd (false≢true e)
early_ticks (A.Beacon index key iv) e = absurd (false≢true e)
early_ticks A.Planned e = absurd (false≢true e)
early_ticks (A.NoAppKey index) e = absurd (false≢true e)
early_ticks (A.Ticked now) e = absurd (false≢true e)
early_ticks A.Begun e = absurd (false≢true e)
early_ticks (A.Moved iv) e = absurd (false≢true e)
early_ticks A.Befriended e = absurd (false≢true e)
early_ticks (A.SendFull held) e = absurd (false≢true e)
early_ticks A.Kept e = absurd (false≢true e)
early_ticks A.Dropped e = absurd (false≢true e)
early_ticks (A.LowPower answer) e = absurd (false≢true e)
early_ticks A.Reset e = absurd (false≢true e)

pub early_now : (a : Answer) (n : ℕ) → is_early a ≡ true → ticks_after n a ≡ n
early_now A.Unread n e = refl
early_now A.BadAddress n e = refl
early_now A.Own n e = refl
early_now A.Cached n e = refl
early_now A.NotMine n e = refl
early_now A.Malformed n e = absurd (false≢true e)
early_now A.Again n e = absurd (false≢true e)
early_now (A.Replay kept) n e = absurd (false≢true e)
early_now (A.NoRoom held) n e = absurd (false≢true e)
early_now A.Conflict n e = absurd (false≢true e)
early_now (A.Waiting missing) n e = absurd (false≢true e)
early_now A.NoKey n e = absurd (false≢true e)
early_now (A.ListFull held) n e = absurd (false≢true e)
early_now (A.Delivered name dst key payload) n e = absurd (false≢true e)
early_now (A.Control name dst opcode params) n e = absurd (false≢true e)
early_now (A.Beacon index key iv) n e = absurd (false≢true e)
early_now A.Planned n e = absurd (false≢true e)
early_now (A.NoAppKey index) n e = absurd (false≢true e)
early_now (A.Ticked now) n e = absurd (false≢true e)
early_now A.Begun n e = absurd (false≢true e)
early_now (A.Moved iv) n e = absurd (false≢true e)
early_now A.Befriended n e = absurd (false≢true e)
early_now (A.SendFull held) n e = absurd (false≢true e)
early_now A.Kept n e = absurd (false≢true e)
early_now A.Dropped n e = absurd (false≢true e)
early_now (A.LowPower answer) n e = absurd (false≢true e)
early_now A.Reset n e = absurd (false≢true e)

pub whole_late : (a : Answer) → is_of_whole a ≡ true → is_late a ≡ true
whole_late A.Unread e = absurd (false≢true e)
whole_late A.BadAddress e = absurd (false≢true e)
whole_late A.Own e = absurd (false≢true e)
whole_late A.Cached e = absurd (false≢true e)
whole_late A.NotMine e = absurd (false≢true e)
whole_late A.Malformed e = absurd (false≢true e)
whole_late A.Again e = absurd (false≢true e)
whole_late (A.Replay kept) e = absurd (false≢true e)
whole_late (A.NoRoom held) e = absurd (false≢true e)
whole_late A.Conflict e = absurd (false≢true e)
whole_late (A.Waiting missing) e = absurd (false≢true e)
whole_late A.NoKey e = refl
whole_late (A.ListFull held) e = refl
whole_late (A.Delivered name dst key payload) e = refl
whole_late (A.Control name dst opcode params) e = refl
whole_late (A.Beacon index key iv) e = absurd (false≢true e)
whole_late A.Planned e = absurd (false≢true e)
whole_late (A.NoAppKey index) e = absurd (false≢true e)
whole_late (A.Ticked now) e = absurd (false≢true e)
whole_late A.Begun e = absurd (false≢true e)
whole_late (A.Moved iv) e = absurd (false≢true e)
whole_late A.Befriended e = absurd (false≢true e)
whole_late (A.SendFull held) e = absurd (false≢true e)
whole_late A.Kept e = absurd (false≢true e)
whole_late A.Dropped e = absurd (false≢true e)
whole_late (A.LowPower answer) e = absurd (false≢true e)
whole_late A.Reset e = absurd (false≢true e)

pub part_late : (a : Answer) → is_of_part a ≡ true → is_late a ≡ true
part_late A.Unread e = absurd (false≢true e)
part_late A.BadAddress e = absurd (false≢true e)
part_late A.Own e = absurd (false≢true e)
part_late A.Cached e = absurd (false≢true e)
part_late A.NotMine e = absurd (false≢true e)
part_late A.Malformed e = absurd (false≢true e)
part_late A.Again e = absurd (false≢true e)
part_late (A.Replay kept) e = absurd (false≢true e)
part_late (A.NoRoom held) e = refl
part_late A.Conflict e = refl
part_late (A.Waiting missing) e = refl
part_late A.NoKey e = absurd (false≢true e)
part_late (A.ListFull held) e = absurd (false≢true e)
part_late (A.Delivered name dst key payload) e = absurd (false≢true e)
part_late (A.Control name dst opcode params) e = absurd (false≢true e)
part_late (A.Beacon index key iv) e = absurd (false≢true e)
part_late A.Planned e = absurd (false≢true e)
part_late (A.NoAppKey index) e = absurd (false≢true e)
part_late (A.Ticked now) e = absurd (false≢true e)
part_late A.Begun e = absurd (false≢true e)
part_late (A.Moved iv) e = absurd (false≢true e)
part_late A.Befriended e = absurd (false≢true e)
part_late (A.SendFull held) e = absurd (false≢true e)
part_late A.Kept e = absurd (false≢true e)
part_late A.Dropped e = absurd (false≢true e)
part_late (A.LowPower answer) e = absurd (false≢true e)
part_late A.Reset e = absurd (false≢true e)

pub known_late : (a : Answer) → is_known a ≡ true → is_late a ≡ true
known_late A.Unread e = absurd (false≢true e)
known_late A.BadAddress e = absurd (false≢true e)
known_late A.Own e = absurd (false≢true e)
known_late A.Cached e = absurd (false≢true e)
known_late A.NotMine e = absurd (false≢true e)
known_late A.Malformed e = absurd (false≢true e)
known_late A.Again e = refl
known_late (A.Replay kept) e = refl
known_late (A.NoRoom held) e = absurd (false≢true e)
known_late A.Conflict e = absurd (false≢true e)
known_late (A.Waiting missing) e = absurd (false≢true e)
known_late A.NoKey e = absurd (false≢true e)
known_late (A.ListFull held) e = absurd (false≢true e)
known_late (A.Delivered name dst key payload) e = absurd (false≢true e)
known_late (A.Control name dst opcode params) e = absurd (false≢true e)
known_late (A.Beacon index key iv) e = absurd (false≢true e)
known_late A.Planned e = absurd (false≢true e)
known_late (A.NoAppKey index) e = absurd (false≢true e)
known_late (A.Ticked now) e = absurd (false≢true e)
known_late A.Begun e = absurd (false≢true e)
known_late (A.Moved iv) e = absurd (false≢true e)
known_late A.Befriended e = absurd (false≢true e)
known_late (A.SendFull held) e = absurd (false≢true e)
known_late A.Kept e = absurd (false≢true e)
known_late A.Dropped e = absurd (false≢true e)
known_late (A.LowPower answer) e = absurd (false≢true e)
known_late A.Reset e = absurd (false≢true e)

-- no call
pub known_parts : (a : Answer) (now : ℕ) (h : PartHeard) → is_known a ≡ true → part_calls now h a ≡ []
known_parts A.Unread n h e = absurd (false≢true e)
known_parts A.BadAddress n h e = absurd (false≢true e)
known_parts A.Own n h e = absurd (false≢true e)
known_parts A.Cached n h e = absurd (false≢true e)
known_parts A.NotMine n h e = absurd (false≢true e)
known_parts A.Malformed n h e = absurd (false≢true e)
known_parts A.Again n h e = refl
known_parts (A.Replay kept) n h e = refl
known_parts (A.NoRoom held) n h e = absurd (false≢true e)
known_parts A.Conflict n h e = absurd (false≢true e)
known_parts (A.Waiting missing) n h e = absurd (false≢true e)
known_parts A.NoKey n h e = absurd (false≢true e)
known_parts (A.ListFull held) n h e = absurd (false≢true e)
known_parts (A.Delivered name dst key payload) n h e = absurd (false≢true e)
known_parts (A.Control name dst opcode params) n h e = absurd (false≢true e)
known_parts (A.Beacon index key iv) n h e = absurd (false≢true e)
known_parts A.Planned n h e = absurd (false≢true e)
known_parts (A.NoAppKey index) n h e = absurd (false≢true e)
known_parts (A.Ticked now) n h e = absurd (false≢true e)
known_parts A.Begun n h e = absurd (false≢true e)
known_parts (A.Moved iv) n h e = absurd (false≢true e)
known_parts A.Befriended n h e = absurd (false≢true e)
known_parts (A.SendFull held) n h e = absurd (false≢true e)
known_parts A.Kept n h e = absurd (false≢true e)
known_parts A.Dropped n h e = absurd (false≢true e)
known_parts (A.LowPower answer) n h e = absurd (false≢true e)
known_parts A.Reset n h e = absurd (false≢true e)

pub known_whole : (a : Answer) (n : Name) → is_known a ≡ true → whole_calls n a ≡ []
known_whole A.Unread n e = absurd (false≢true e)
known_whole A.BadAddress n e = absurd (false≢true e)
known_whole A.Own n e = absurd (false≢true e)
known_whole A.Cached n e = absurd (false≢true e)
known_whole A.NotMine n e = absurd (false≢true e)
known_whole A.Malformed n e = absurd (false≢true e)
known_whole A.Again n e = refl
known_whole (A.Replay kept) n e = refl
known_whole (A.NoRoom held) n e = absurd (false≢true e)
known_whole A.Conflict n e = absurd (false≢true e)
known_whole (A.Waiting missing) n e = absurd (false≢true e)
known_whole A.NoKey n e = absurd (false≢true e)
known_whole (A.ListFull held) n e = absurd (false≢true e)
known_whole (A.Delivered name dst key payload) n e = absurd (false≢true e)
known_whole (A.Control name dst opcode params) n e = absurd (false≢true e)
known_whole (A.Beacon index key iv) n e = absurd (false≢true e)
known_whole A.Planned n e = absurd (false≢true e)
known_whole (A.NoAppKey index) n e = absurd (false≢true e)
known_whole (A.Ticked now) n e = absurd (false≢true e)
known_whole A.Begun n e = absurd (false≢true e)
known_whole (A.Moved iv) n e = absurd (false≢true e)
known_whole A.Befriended n e = absurd (false≢true e)
known_whole (A.SendFull held) n e = absurd (false≢true e)
known_whole A.Kept n e = absurd (false≢true e)
known_whole A.Dropped n e = absurd (false≢true e)
known_whole (A.LowPower answer) n e = absurd (false≢true e)
known_whole A.Reset n e = absurd (false≢true e)

-- a segment of a message that isn't whole by it makes one call
pub part_takes : (a : Answer) (now : ℕ) (h : PartHeard) → is_of_part a ≡ true → part_calls now h a ≡ take_part now h ∷ []
part_takes A.Unread n h e = absurd (false≢true e)
part_takes A.BadAddress n h e = absurd (false≢true e)
part_takes A.Own n h e = absurd (false≢true e)
part_takes A.Cached n h e = absurd (false≢true e)
part_takes A.NotMine n h e = absurd (false≢true e)
part_takes A.Malformed n h e = absurd (false≢true e)
part_takes A.Again n h e = absurd (false≢true e)
part_takes (A.Replay kept) n h e = absurd (false≢true e)
part_takes (A.NoRoom held) n h e = refl
part_takes A.Conflict n h e = refl
part_takes (A.Waiting missing) n h e = refl
part_takes A.NoKey n h e = absurd (false≢true e)
part_takes (A.ListFull held) n h e = absurd (false≢true e)
part_takes (A.Delivered name dst key payload) n h e = absurd (false≢true e)
part_takes (A.Control name dst opcode params) n h e = absurd (false≢true e)
part_takes (A.Beacon index key iv) n h e = absurd (false≢true e)
part_takes A.Planned n h e = absurd (false≢true e)
part_takes (A.NoAppKey index) n h e = absurd (false≢true e)
part_takes (A.Ticked now) n h e = absurd (false≢true e)
part_takes A.Begun n h e = absurd (false≢true e)
part_takes (A.Moved iv) n h e = absurd (false≢true e)
part_takes A.Befriended n h e = absurd (false≢true e)
part_takes (A.SendFull held) n h e = absurd (false≢true e)
part_takes A.Kept n h e = absurd (false≢true e)
part_takes A.Dropped n h e = absurd (false≢true e)
part_takes (A.LowPower answer) n h e = absurd (false≢true e)
part_takes A.Reset n h e = absurd (false≢true e)

-- a whole message is released
pub whole_takes : (a : Answer) (now : ℕ) (h : PartHeard) → is_of_whole a ≡ true → part_calls now h a ≡ take_part now h ∷ release h.name ∷ []
whole_takes A.Unread n h e = absurd (false≢true e)
whole_takes A.BadAddress n h e = absurd (false≢true e)
whole_takes A.Own n h e = absurd (false≢true e)
whole_takes A.Cached n h e = absurd (false≢true e)
whole_takes A.NotMine n h e = absurd (false≢true e)
whole_takes A.Malformed n h e = absurd (false≢true e)
whole_takes A.Again n h e = absurd (false≢true e)
whole_takes (A.Replay kept) n h e = absurd (false≢true e)
whole_takes (A.NoRoom held) n h e = absurd (false≢true e)
whole_takes A.Conflict n h e = absurd (false≢true e)
whole_takes (A.Waiting missing) n h e = absurd (false≢true e)
whole_takes A.NoKey n h e = refl
whole_takes (A.ListFull held) n h e = refl
whole_takes (A.Delivered name dst key payload) n h e = refl
whole_takes (A.Control name dst opcode params) n h e = refl
whole_takes (A.Beacon index key iv) n h e = absurd (false≢true e)
whole_takes A.Planned n h e = absurd (false≢true e)
whole_takes (A.NoAppKey index) n h e = absurd (false≢true e)
whole_takes (A.Ticked now) n h e = absurd (false≢true e)
whole_takes A.Begun n h e = absurd (false≢true e)
whole_takes (A.Moved iv) n h e = absurd (false≢true e)
whole_takes A.Befriended n h e = absurd (false≢true e)
whole_takes (A.SendFull held) n h e = absurd (false≢true e)
whole_takes A.Kept n h e = absurd (false≢true e)
whole_takes A.Dropped n h e = absurd (false≢true e)
whole_takes (A.LowPower answer) n h e = absurd (false≢true e)
whole_takes A.Reset n h e = absurd (false≢true e)

pub whole_releases : (a : Answer) (n : Name) → is_of_whole a ≡ true → whole_calls n a ≡ release n ∷ []
whole_releases A.Unread n e = absurd (false≢true e)
whole_releases A.BadAddress n e = absurd (false≢true e)
whole_releases A.Own n e = absurd (false≢true e)
whole_releases A.Cached n e = absurd (false≢true e)
whole_releases A.NotMine n e = absurd (false≢true e)
whole_releases A.Malformed n e = absurd (false≢true e)
whole_releases A.Again n e = absurd (false≢true e)
whole_releases (A.Replay kept) n e = absurd (false≢true e)
whole_releases (A.NoRoom held) n e = absurd (false≢true e)
whole_releases A.Conflict n e = absurd (false≢true e)
whole_releases (A.Waiting missing) n e = absurd (false≢true e)
whole_releases A.NoKey n e = refl
whole_releases (A.ListFull held) n e = refl
whole_releases (A.Delivered name dst key payload) n e = refl
whole_releases (A.Control name dst opcode params) n e = refl
whole_releases (A.Beacon index key iv) n e = absurd (false≢true e)
whole_releases A.Planned n e = absurd (false≢true e)
whole_releases (A.NoAppKey index) n e = absurd (false≢true e)
whole_releases (A.Ticked now) n e = absurd (false≢true e)
whole_releases A.Begun n e = absurd (false≢true e)
whole_releases (A.Moved iv) n e = absurd (false≢true e)
whole_releases A.Befriended n e = absurd (false≢true e)
whole_releases (A.SendFull held) n e = absurd (false≢true e)
whole_releases A.Kept n e = absurd (false≢true e)
whole_releases A.Dropped n e = absurd (false≢true e)
whole_releases (A.LowPower answer) n e = absurd (false≢true e)
whole_releases A.Reset n e = absurd (false≢true e)

-- Own segmented messages: of the answers to a network PDU only an acknowledgment has to do with them.

pub early_own : (a : Answer) (at : ℕ) (event : Event) → is_early a ≡ true → own_calls at event a ≡ heard_calls a
early_own (A.Beacon index key iv) at event e = absurd (false≢true e)
early_own (A.Ticked now) at event e = absurd (false≢true e)
early_own A.Begun at event e = absurd (false≢true e)
early_own _ at event e = refl

pub late_own : (a : Answer) (at : ℕ) (event : Event) → is_late a ≡ true → own_calls at event a ≡ heard_calls a
late_own (A.Beacon index key iv) at event e = absurd (false≢true e)
late_own (A.Ticked now) at event e = absurd (false≢true e)
late_own A.Begun at event e = absurd (false≢true e)
late_own _ at event e = refl
