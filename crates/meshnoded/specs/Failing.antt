-- Which failure of the program stands for a fault.
use Rattle.node_file.specs.declared.faults.MakeFault.{MakeFault}
use Rattle.node_file.specs.declared.faults.MakeFault.TheVariants as M
use Rattle.node_file.specs.declared.faults.OpenFault.{OpenFault}
use Rattle.node_file.specs.declared.faults.OpenFault.TheVariants as O
use Rattle.node_state.specs.declared.showing.ShowFault.{ShowFault}
use Rattle.node_state.specs.declared.showing.ShowFault.TheVariants as S
use Rattle.meshnoded.specs.declared.failure.Failure.{Failure}
use Rattle.meshnoded.specs.declared.failure.Failure.TheVariants as F

abbrev pub open_failure : OpenFault → Failure
open_failure O.Memory = F.Memory
open_failure fault = F.Open fault

abbrev pub make_failure : MakeFault → Failure
make_failure M.Memory = F.Memory
make_failure fault = F.Make fault

abbrev pub show_failure : ShowFault → Failure
show_failure (S.Image fault) = F.Show fault
show_failure S.Memory = F.Memory
