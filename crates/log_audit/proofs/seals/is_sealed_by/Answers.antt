use Rattle.std.proofs.Common.{◌≡◌, true, false, refl}
use Rattle.log_audit.proofs.Sealing.{sealed_from, sealed_reads, sealed_tells}
use Rattle.log_audit.proofs.seals.is_sealed_by.Goals as goal

pub returns-in-Some : goal.returns-in-Some
returns-in-Some c = record {
  value = (
    λ t. sealed_from _ _ _ _ _ c.in-Some.ensures.some (c.tells.ensures.value.0 t),
    λ h. c.tells.ensures.value.1 (sealed_tells _ _ _ _ _ c.requires.nid c.requires.iv c.in-Some.ensures.some h),
  );
}

pub returns-in-None : goal.returns-in-None
returns-in-None c = record {
  value = (
    λ t. let clash : false ≡ true = t in cc,
    λ h. absurd (c.in-None.ensures.none refl h.fields (sealed_reads _ _ _ _ c.requires.nid c.requires.iv h)),
  );
}
