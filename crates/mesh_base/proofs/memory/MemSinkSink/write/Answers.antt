-- The call is listed: the first of the two causes holds, as the test says of the number of this call.
use Rattle.std.proofs.Common.{refl, inl}
use Rattle.mesh_base.proofs.memory.MemSinkSink.write.Goals as goal

pub returns-then-is_listed-clause-fails : goal.returns-then-is_listed-clause-fails
returns-then-is_listed-clause-fails c =
    let listed = c.if-is_listed.ensures.value.0 refl in
    (λ _. inl (rw (← c.self.view_is, ← c.as_slice.ensures.value, ← c.saturating_add-self-inside.ensures) listed), λ _. refl)
