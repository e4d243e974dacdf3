-- What becomes of the next program or erase call of a flash in memory.
use Rattle.std.specs.Prelude.{ℕ, ◌+◌, ◌-◌, Bool, true, false, ◌||◌, ◌==◌, nat_lt, nat_le, if◌then◌else◌, Option, Some, None}
use Rattle.flash_model.specs.declared.armed.Armed.{Armed}
use Rattle.flash_model.specs.declared.armed.Course.{Course}
use Rattle.flash_model.specs.declared.armed.Course.TheVariants.{Whole, Torn, Dead}

-- dead after the cut; torn where no call is left before; else whole
abbrev pub course_of : Bool → Option Armed → Course
course_of true arm = Dead
course_of false None = Whole
course_of false (Some arm) = if arm.left == 0 then Torn arm.mask else Whole

-- a call later
abbrev pub nearer_arm : Option Armed → Option Armed
nearer_arm None = None
nearer_arm (Some arm) = Some (record arm { left = arm.left - 1 })

abbrev pub is_failing : Course → Bool
is_failing Whole = false
is_failing (Torn mask) = true
is_failing Dead = true

-- what the past notes of it
abbrev pub call_of : Course → ℕ
call_of Whole = 0
call_of (Torn mask) = 1
call_of Dead = 1

-- the torn call was begun
abbrev pub is_reached_by : Option Armed → ℕ → Bool
is_reached_by None changes = false
is_reached_by (Some arm) changes = nat_lt (arm.changes + arm.calls) changes || changes == 4294967295

-- of the calls before the torn one so many are left at most, but for one more for each call that failed
abbrev pub is_nearer : Option Armed → ℕ → ℕ → Bool
is_nearer None failed changes = true
is_nearer (Some arm) failed changes = nat_le (changes + arm.left) (arm.changes + arm.calls + failed)

-- the torn call comes after so many more
abbrev pub is_ahead : Option Armed → ℕ → Bool
is_ahead None changes = true
is_ahead (Some arm) changes = nat_le (arm.changes + arm.calls) (changes + arm.left) || changes == 4294967295
