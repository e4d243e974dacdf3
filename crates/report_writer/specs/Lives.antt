-- A life that is over, as definitions of a report have it, and whether its lines have room for it.
use Rattle.std.specs.Prelude.{◌+◌, ◌^◌, ◌<◌, ◌≤◌, length, map, All}
use Rattle.mesh_types.specs.declared.history.Sent.{Sent}
use Rattle.report_definitions.specs.Record.{Life}
use Rattle.report_writer.specs.declared.lives.EndedLife.{EndedLife}
use Rattle.node_limits.specs.declared.TheConstants.{BEARERS}

abbrev pub life_of : EndedLife → Life
life_of l =
    record {
      opened = l.opened;
      entries = l.entries.items;
      refills = l.refills;
      sends = map (λ v. v.items) l.sends.items;
      end = l.end;
    }

-- a line shows the place of its entry in 32 bits and that of its job in 8, both from 1 on
abbrev pub HasRoom : Sent → Type 0
HasRoom s = (s.entry + 1 < 2 ^ 32) × (s.job + 1 < 2 ^ 8)

-- the lines of a life have room for the places of its entries and jobs, and for its bearers
pub record FitsLines (l : Life) : Type 0 where
  pub entries : length l.entries < 2 ^ 32
  pub bearers : length l.sends ≤ BEARERS
  pub jobs : All (All HasRoom) l.sends
