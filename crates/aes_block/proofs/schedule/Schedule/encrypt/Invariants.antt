-- The rounds left, on the state as it stands, are all nine on the state at the start.
use Rattle.std.proofs.Common.{◌≡◌, ◌-◌, drop, take}
use Rattle.cipher_definitions.specs.Aes.{rounds, round_keys}
use Rattle.aes_block.specs.Columns.{octets}
use Rattle.aes_block.proofs.schedule.Schedule.encrypt.Given as goal

abbrev pub invariant-loop-i : goal.invariant-loop-i
invariant-loop-i l =
    rounds (drop (l.i - 1) (take 9 (round_keys l.self))) (octets l.state) ≡ rounds (take 9 (round_keys l.self)) (octets l.initial.state)
