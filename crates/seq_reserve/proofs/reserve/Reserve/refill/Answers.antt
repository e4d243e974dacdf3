use Rattle.std.proofs.Common.{◌≡◌, ◌+◌, [], ◌∷◌, ap, ◌∙◌, sym, subst, arith, ℕ}
use Rattle.std.proofs.lemmas.Bool.Decides.{nat_tests}
use Rattle.node_records.specs.declared.persist.Persist.{Persist}
use Rattle.node_records.specs.Tables.{config_in}
use Rattle.node_store.specs.Tie.{IsPut}
use Rattle.node_store.specs.Writing.{CutLeaves, Puts}
use Rattle.record_types.specs.declared.records.StoreRecord.{StoreRecord}
use Rattle.seq_reserve.specs.Reserving.{IsDurable}
use Rattle.seq_word.specs.Seen.{KeeperView}
use Rattle.seq_word.specs.Word.{IsWord}
use Rattle.store_definitions.specs.Numbers.{fill_of}
use Rattle.seq_reserve.proofs.Keeping.{durable_of, mark_none, put_none}
use Rattle.seq_reserve.proofs.Marks.{mark_filled, mark_word}
use Rattle.seq_reserve.proofs.Worlds.{refill_goes}
use Rattle.seq_reserve.proofs.reserve.Reserve.refill.Goals as goal

pub returns-then-seen-mark-clause-cut : goal.returns-then-seen-mark-clause-cut
returns-then-seen-mark-clause-cut g c =
    let chip = g.F.Flash.chip c.args.flash.now in
    let only = g.met.F.Flash.only_now c.args.flash.now in
    record {
      any_moment = λ records tie. put_none chip c.args.self.now.store records tie only _;
      mark = λ records tie. mark_none chip c.args.self.now.store records tie only;
    }

pub returns-then-seen-mark-clause-durable : goal.returns-then-seen-mark-clause-durable
returns-then-seen-mark-clause-durable g c records tie =
    subst (λ n. IsDurable (g.F.Flash.chip c.args.flash.now) n) (sym c.requires.published) (durable_of (g.F.Flash.chip c.args.flash.now) c.args.self.now.store records tie)

pub returns-in_err-put_numbers-clause-cut : goal.returns-in_err-put_numbers-clause-cut
returns-in_err-put_numbers-clause-cut g c =
    let p = c.args.self.now.store.persist in
    let item = c.fill_record-item.result in
    let is : item ≡ fill_of (config_in p) = c.fill_record-item.ensures.value ∙ ap (λ (x : Persist). fill_of (config_in x)) c.persist-2.ensures.value in
    subst (λ (i : StoreRecord). CutLeaves (λ records. IsPut records i) (g.F.Flash.chip c.args.flash.now) (g.F.Flash.chip c.put_numbers.new.flash) c.args.self.now.store) is
    c.in_err-put_numbers.ensures.cut

pub returns-in_err-put_numbers-clause-durable : goal.returns-in_err-put_numbers-clause-durable
returns-in_err-put_numbers-clause-durable g c records tie =
    subst (λ n. IsDurable (g.F.Flash.chip c.put_numbers.new.flash) n) (sym c.requires.published) (c.in_err-put_numbers.ensures.safe records tie)

pub publish-requires-clause-at : goal.publish-requires-clause-at
publish-requires-clause-at g c =
    let same : c.mark-seen.result ≡ c.persist.result.now.mark = grind (arith, nat_tests, c.if-seen-mark.false) in
    sym c.mark-seen.ensures.value ∙ same ∙ ap (λ (x : Persist). x.mark) c.persist.ensures.value ∙ sym c.requires.published

pub publish-requires-clause-word : goal.publish-requires-clause-word
publish-requires-clause-word g c =
    let p = c.args.self.now.store.persist in
    let item = c.fill_record-item.result in
    let is : item ≡ fill_of (config_in p) = c.fill_record-item.ensures.value ∙ ap (λ (x : Persist). fill_of (config_in x)) c.persist-2.ensures.value in
    let up : c.put_numbers.new.store.persist.mark ≡ p.mark + 256 = mark_filled p c.put_numbers.new.store.persist item is c.in_ok-put_numbers.ensures.puts.change in
    let same : c.mark-seen.result ≡ c.persist.result.now.mark = grind (arith, nat_tests, c.if-seen-mark.false) in
    let at : c.args.dry.mark ≡ p.mark = sym c.mark-seen.ensures.value ∙ same ∙ ap (λ (x : Persist). x.mark) c.persist.ensures.value in
    let word : IsWord c.put_numbers.new.store.persist.mark = mark_word c.put_numbers.new.store.persist c.persist-3.ensures.numbers in
    subst IsWord (up ∙ ap (λ n. n + 256) (sym at)) word

pub returns-clause-value : goal.returns-clause-value
returns-clause-value g c =
    let p = c.args.self.now.store.persist in
    let item = c.fill_record-item.result in
    let is : item ≡ fill_of (config_in p) = c.fill_record-item.ensures.value ∙ ap (λ (x : Persist). fill_of (config_in x)) c.persist-2.ensures.value in
    let up : c.put_numbers.new.store.persist.mark ≡ p.mark + 256 = mark_filled p c.put_numbers.new.store.persist item is c.in_ok-put_numbers.ensures.puts.change in
    let kept : c.publish.new.k.mark ≡ p.mark + 256 = ap (λ (k : KeeperView). k.mark) c.publish.ensures.value ∙ ap (λ n. n + 256) c.requires.published in
    ap (λ (x : Persist). x.mark) c.persist-3.ensures.value ∙ up ∙ sym kept

pub returns-clause-published : goal.returns-clause-published
returns-clause-published g c =
    let p = c.args.self.now.store.persist in
    let item = c.fill_record-item.result in
    let is : item ≡ fill_of (config_in p) = c.fill_record-item.ensures.value ∙ ap (λ (x : Persist). fill_of (config_in x)) c.persist-2.ensures.value in
    let up : c.put_numbers.new.store.persist.mark ≡ p.mark + 256 = mark_filled p c.put_numbers.new.store.persist item is c.in_ok-put_numbers.ensures.puts.change in
    ap (λ (k : KeeperView). k.mark) c.publish.ensures.value ∙ ap (λ n. n + 256) c.requires.published ∙ sym up

pub returns-clause-filled : goal.returns-clause-filled
returns-clause-filled g c seen =
    let k = c.args.self.now.keeper in
    let with_mark : ℕ → KeeperView = λ n. record { which = k.which; mark = n + 256; advances = k.advances } in
    c.publish.ensures.value ∙ ap with_mark (sym seen)

pub returns-clause-puts : goal.returns-clause-puts
returns-clause-puts g c seen =
    let p = c.args.self.now.store.persist in
    let item = c.fill_record-item.result in
    let is : item ≡ fill_of (config_in p) = c.fill_record-item.ensures.value ∙ ap (λ (x : Persist). fill_of (config_in x)) c.persist-2.ensures.value in
    subst (λ (i : StoreRecord). Puts (i ∷ []) (g.F.Flash.chip c.args.flash.now) (g.F.Flash.chip c.put_numbers.new.flash) c.args.self.now.store c.put_numbers.new.store) is
    c.in_ok-put_numbers.ensures.puts

pub returns-clause-steps : goal.returns-clause-steps
returns-clause-steps g c w world seen =
    let p = c.args.self.now.store.persist in
    let q = c.put_numbers.new.store.persist in
    let item = c.fill_record-item.result in
    let is : item ≡ fill_of (config_in p) = c.fill_record-item.ensures.value ∙ ap (λ (x : Persist). fill_of (config_in x)) c.persist-2.ensures.value in
    let up : q.mark ≡ p.mark + 256 = mark_filled p q item is c.in_ok-put_numbers.ensures.puts.change in
    refill_goes w p q c.args.self.now.keeper.mark c.publish.new.k.mark item c.requires.published c.in_ok-put_numbers.ensures.puts.change
    (c.in_ok-put_numbers.ensures.steps w c.args.self.now.keeper.mark world) is
    (ap (λ (k : KeeperView). k.mark) c.publish.ensures.value ∙ ap (λ n. n + 256) c.requires.published ∙ sym up)

pub returns-clause-cut : goal.returns-clause-cut
returns-clause-cut g c =
    let p = c.args.self.now.store.persist in
    let item = c.fill_record-item.result in
    let is : item ≡ fill_of (config_in p) = c.fill_record-item.ensures.value ∙ ap (λ (x : Persist). fill_of (config_in x)) c.persist-2.ensures.value in
    subst (λ (i : StoreRecord). CutLeaves (λ records. IsPut records i) (g.F.Flash.chip c.args.flash.now) (g.F.Flash.chip c.put_numbers.new.flash) c.args.self.now.store) is
    c.in_ok-put_numbers.ensures.cut

pub returns-clause-durable : goal.returns-clause-durable
returns-clause-durable g c records tie =
    subst (λ n. IsDurable (g.F.Flash.chip c.put_numbers.new.flash) n) (sym (returns-clause-published g c)) (c.in_ok-put_numbers.ensures.durable records tie)
