-- The writes that wait once a node was opened.
use Rattle.std.proofs.Common.{◌≡◌, ◌∙◌, ℕ, ◌+◌, ◌≤◌, List, [], ◌∷◌, length, Option, Some, ap, refl, subst, arith}
use Rattle.file_flash.specs.Noted.{AreFew, Put}
use Rattle.flash_model.specs.Chip.{CallCount, Chip}
use Rattle.linked_node.specs.Migration.{AreOfMigration}
use Rattle.machine_contract.specs.Opening.{MigratesOnly}
use Rattle.node_limits.specs.declared.TheConstants.{COMPACTION_CALLS}
use Rattle.slot_definitions.specs.Slots.{HasFormat}

no_puts : (puts : List Put) (n : ℕ) → length puts ≤ n → n ≡ 0 → puts ≡ []
no_puts [] n few none = refl
no_puts (p ∷ puts) n few none = absurd (omega (arith, few, none))

-- by what was counted since the flash was made
pub of_migration : (image : List ℕ) (read left : Chip) (waiting : Option (List Put)) → read.now ≡ image → read.changes ≡ 0 → MigratesOnly read left
    → AreFew waiting left.setting.called left.changes → (puts : List Put) → waiting ≡ Some puts → AreOfMigration image puts
of_migration image read left waiting same fresh writes few puts some = record {
  none = λ other.
      let unwritten = writes.unwritten (λ format. other (subst (HasFormat 1) same format)) in
      no_puts puts left.changes few_puts (ap (λ (n : CallCount). n.calls) unwritten.no_calls ∙ fresh);
  most = omega (arith, few_puts, most);
}
  where
    most : left.changes ≤ COMPACTION_CALLS
    most = let calls : left.changes ≤ read.changes + COMPACTION_CALLS = writes.most_calls in omega (arith, calls, fresh)

    few_puts : length puts ≤ left.changes
    few_puts = omega (arith, few puts some (omega (arith, most)))
