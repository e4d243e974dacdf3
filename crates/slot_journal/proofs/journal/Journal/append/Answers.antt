use Rattle.std.proofs.Common.{arith, ◌<◌, sym, subst}
use Rattle.slot_journal.specs.View.{JournalView}
use Rattle.slot_journal.specs.Tie.{IsJournalOf}
use Rattle.slot_journal.proofs.Ties.{unchanged, next_blank, any_moment, durable, kept}
use Rattle.slot_journal.proofs.journal.Journal.append.Goals as goal

pub returns-then-self-clause-any_moment : goal.returns-then-self-clause-any_moment
returns-then-self-clause-any_moment g c tie = unchanged (g.F.Flash.chip c.args.flash.now) c.args.self.now c.args.item.now tie (g.met.F.Flash.only_now c.args.flash.now)

pub returns-then-self-eq-BANK_RECORDS-clause-any_moment : goal.returns-then-self-eq-BANK_RECORDS-clause-any_moment
returns-then-self-eq-BANK_RECORDS-clause-any_moment g c tie = unchanged (g.F.Flash.chip c.args.flash.now) c.args.self.now c.args.item.now tie (g.met.F.Flash.only_now c.args.flash.now)

pub returns-in_err-write_slot-clause-any_moment : goal.returns-in_err-write_slot-clause-any_moment
returns-in_err-write_slot-clause-any_moment g c tie =
    let old = g.F.Flash.chip c.args.flash.now in
    let journal : JournalView = record { bank = c.self.inside.bank; used = c.self.inside.used; closed = c.self.inside.closed; generation = c.self.inside.generation; version = c.self.inside.version } in
    let here : IsJournalOf old journal = subst (λ (v : JournalView). IsJournalOf old v) (sym c.self.view_is) tie in
    let most = here.mounted.used.few in
    let few : journal.used < 1023 = omega (arith, most, c.if-self-eq-BANK_RECORDS.false) in
    any_moment old journal c.args.item.now here few (g.F.Flash.chip c.write_slot.new.flash)
    (c.write_slot.ensures.any_moment tie.fresh (next_blank old journal c.args.item.now here few))

pub returns-clause-kept : goal.returns-clause-kept
returns-clause-kept g c tie =
    let old = g.F.Flash.chip c.args.flash.now in
    let journal : JournalView = record { bank = c.self.inside.bank; used = c.self.inside.used; closed = c.self.inside.closed; generation = c.self.inside.generation; version = c.self.inside.version } in
    let here : IsJournalOf old journal = subst (λ (v : JournalView). IsJournalOf old v) (sym c.self.view_is) tie in
    let most = here.mounted.used.few in
    let few : journal.used < 1023 = omega (arith, most, c.if-self-eq-BANK_RECORDS.false) in
    kept old journal c.args.item.now here few (g.F.Flash.chip c.write_slot.new.flash) (c.in_ok-write_slot.ensures.fresh tie.fresh)
    (c.in_ok-write_slot.ensures.written tie.fresh (next_blank old journal c.args.item.now here few))

pub returns-clause-durable : goal.returns-clause-durable
returns-clause-durable g c tie =
    let old = g.F.Flash.chip c.args.flash.now in
    let journal : JournalView = record { bank = c.self.inside.bank; used = c.self.inside.used; closed = c.self.inside.closed; generation = c.self.inside.generation; version = c.self.inside.version } in
    let here : IsJournalOf old journal = subst (λ (v : JournalView). IsJournalOf old v) (sym c.self.view_is) tie in
    let most = here.mounted.used.few in
    let few : journal.used < 1023 = omega (arith, most, c.if-self-eq-BANK_RECORDS.false) in
    durable old journal c.args.item.now here few (g.F.Flash.chip c.write_slot.new.flash)
    (c.in_ok-write_slot.ensures.written tie.fresh (next_blank old journal c.args.item.now here few))

pub returns-clause-any_moment : goal.returns-clause-any_moment
returns-clause-any_moment g c tie =
    let old = g.F.Flash.chip c.args.flash.now in
    let journal : JournalView = record { bank = c.self.inside.bank; used = c.self.inside.used; closed = c.self.inside.closed; generation = c.self.inside.generation; version = c.self.inside.version } in
    let here : IsJournalOf old journal = subst (λ (v : JournalView). IsJournalOf old v) (sym c.self.view_is) tie in
    let most = here.mounted.used.few in
    let few : journal.used < 1023 = omega (arith, most, c.if-self-eq-BANK_RECORDS.false) in
    any_moment old journal c.args.item.now here few (g.F.Flash.chip c.write_slot.new.flash)
    (c.write_slot.ensures.any_moment tie.fresh (next_blank old journal c.args.item.now here few))
