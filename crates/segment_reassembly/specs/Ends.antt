-- Timers of messages that end.
use Rattle.std.specs.Prelude.{ℕ, ◌-◌, ◌||◌, not, nat_lt, nat_le, Bool, false, Option}
use Rattle.std.specs.Option.{option_map_or}
use Rattle.layer_states.specs.declared.reassembly.Assembly.{Assembly}
use Rattle.layer_states.specs.declared.reassembly.Timer.{Timer}

-- an acknowledgment timer, if it runs
abbrev pub is_timer_over : ℕ → Option Timer → Bool
is_timer_over now timer = option_map_or (λ t. nat_le t.due now) timer false

-- one of the two timers of a message: the incomplete timer, and that of its acknowledgment
abbrev pub is_ending : ℕ → Assembly → Bool
is_ending now a = not (nat_lt (now - a.renewed) 1000) || is_timer_over now a.timer
