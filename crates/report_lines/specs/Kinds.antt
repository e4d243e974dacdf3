-- Which kind of line of a job an outcome is.
use Rattle.std.specs.Prelude.{⊤}
use Rattle.mesh_types.specs.declared.lines.Outcome.{Outcome}
use Rattle.mesh_types.specs.declared.lines.Outcome.TheVariants as O

abbrev pub IsCtl : Outcome → Type 0
IsCtl (O.Ctl pair ttl src dst tpdu pdu) = ⊤
IsCtl _ = ⊥

abbrev pub IsMsg : Outcome → Type 0
IsMsg (O.Msg pair ttl src dst key payload pdu) = ⊤
IsMsg _ = ⊥

abbrev pub IsLong : Outcome → Type 0
IsLong (O.Long pair ttl src dst key payload) = ⊤
IsLong _ = ⊥

abbrev pub IsSeg : Outcome → Type 0
IsSeg (O.Seg pair ttl src dst seg_o seg_n auth pdu) = ⊤
IsSeg _ = ⊥

abbrev pub IsRelay : Outcome → Type 0
IsRelay (O.Relay pair ctl ttl src dst tpdu pdu) = ⊤
IsRelay _ = ⊥
