-- The laws of what records cost the flash: of none, and of some behind others.
use Rattle.std.proofs.Common.{ℕ, zero, suc, ◌+◌, ◌*◌, ◌-◌, ◌≤◌, inl, inr, refl, arith}
use Rattle.flash_model.specs.Chip.{CallCount}
use Rattle.node_limits.specs.declared.TheConstants.{BANK_RECORDS, SNAPSHOT_RECORDS}
use Rattle.store_definitions.specs.Wear.{AreNeeded, Costs, CostsAndUses, CostsAtMost}

-- How many compactions were needed.

needed_more : (used one two left c d : ℕ) → left + (BANK_RECORDS - SNAPSHOT_RECORDS) * c ≤ used + one → AreNeeded used one c → AreNeeded left two d → AreNeeded used (one + two) (c + d)
needed_more used one two left c zero room first next = pick first
  where
    pick : AreNeeded used one c → AreNeeded used (one + two) (c + 0)
    pick (inl none) = inl (omega (arith, none))
    pick (inr some) = inr (omega (arith, some))
needed_more used one two left c (suc d) room first next = pick next
  where
    pick : AreNeeded left two (suc d) → AreNeeded used (one + two) (c + suc d)
    pick (inl none) = absurd (omega (arith, none))
    pick (inr some) = inr (omega (arith, some, room))

-- of more records not fewer
needed_of_more : (used few many c : ℕ) → few ≤ many → AreNeeded used few c → AreNeeded used many c
needed_of_more used few many c more (inl none) = inl none
needed_of_more used few many c more (inr some) = inr (omega (arith, more, some))

-- What so many records and compactions cost: none, and some behind others.

costs_none : (used records : ℕ) (n : CallCount) → Costs used records 0 n n
costs_none used records n = record { calls = omega arith; erases = omega arith; octets = omega arith; needed = inl refl }

costs_more : (used one two left c d : ℕ) (before between after : CallCount) → left + (BANK_RECORDS - SNAPSHOT_RECORDS) * c ≤ used + one → Costs used one c before between → Costs left two d between after → Costs used (one + two) (c + d) before after
costs_more used one two left c d before between after room p q =
    record {
      calls = omega (arith, p.calls, q.calls);
      erases = omega (arith, p.erases, q.erases);
      octets = omega (arith, p.octets, q.octets);
      needed = needed_more used one two left c d room p.needed q.needed;
    }

-- No record: no call.

pub paid_none : (used : ℕ) (n : CallCount) → CostsAndUses used 0 n n used
paid_none used n = record { compactions = 0; costs = costs_none used 0 n; room = omega arith }

-- Some records behind others.

pub paid_more : (used one two : ℕ) (before between after : CallCount) (left right : ℕ) → CostsAndUses used one before between left → CostsAndUses left two between after right → CostsAndUses used (one + two) before after right
paid_more used one two before between after left right p q =
    record {
      compactions = p.compactions + q.compactions;
      costs = costs_more used one two left p.compactions q.compactions before between after p.room p.costs q.costs;
      room = omega (arith, p.room, q.room);
    }

pub at_most_more : (used one two : ℕ) (before between after : CallCount) (left : ℕ) → CostsAndUses used one before between left → CostsAtMost left two between after → CostsAtMost used (one + two) before after
at_most_more used one two before between after left p q =
    record {
      compactions = p.compactions + q.compactions;
      costs = costs_more used one two left p.compactions q.compactions before between after p.room p.costs q.costs;
    }

-- What they cost at most.

pub at_most_of : (used records : ℕ) (before after : CallCount) (left : ℕ) → CostsAndUses used records before after left → CostsAtMost used records before after
at_most_of used records before after left p = record { compactions = p.compactions; costs = p.costs }

pub at_most_none : (used records : ℕ) (n : CallCount) → CostsAtMost used records n n
at_most_none used records n = record { compactions = 0; costs = costs_none used records n }

-- It's at most what more records cost.
pub at_most_of_more : (used few many : ℕ) (before after : CallCount) → few ≤ many → CostsAtMost used few before after → CostsAtMost used many before after
at_most_of_more used few many before after more p =
    record {
      compactions = p.compactions;
      costs = record {
        calls = omega (arith, more, p.costs.calls);
        erases = p.costs.erases;
        octets = omega (arith, more, p.costs.octets);
        needed = needed_of_more used few many p.compactions more p.costs.needed;
      };
    }
