-- What a pointer owns: a node in a box, or nothing.
use base.Fml.{Fml, ftrue, feq, fsep, fex}
use base.Stored.{Coded}
use denote.RawPtr.{Ptr, null_ptr, Testable}
use Rattle.std.specs.Coded.{coded_option}
use Rattle.std.specs.Prelude.{Option, None, Some}
use Rattle.std.specs.declared.alloc.Global.{Global}
use Rattle.std.specs.contracts.impls.GlobalAllocator.TheImpl.{ghosts}
use Rattle.std.specs.Box.Ownership.{box_owns}
use Rattle.node_handle.specs.contracts.held.HeldNode.{the_row}

-- A pointer may be compared with null where it is null, or the start of a block.
abbrev pub node_owns : Global → Ptr → Option the_row.Denot → Fml
node_owns alloc at None = feq Ptr at null_ptr
node_owns alloc at (Some x) = fsep (fex (Testable at) (λ _. ftrue)) (box_owns (ghosts.dealloc_token alloc) the_row at x)

abbrev pub node_coded : Coded (Option the_row.Denot)
node_coded = coded_option the_row.coded
