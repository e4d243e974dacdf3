use Rattle.std.proofs.Common.{◌≡◌, ◌*◌, ◌^◌, ◌≤◌, [], ◌∷◌, ◌++◌, true, ap, ◌∙◌, sym, subst, arith}
use Rattle.std.specs.Prelude.{nat_lt}
use Rattle.mesh_base.specs.IvState.{transmit_of}
use Rattle.node_records.specs.declared.persist.Persist.{Persist}
use Rattle.node_records.specs.Tables.{config_in}
use Rattle.node_store.specs.Tie.{IsNotBelow, IsPut}
use Rattle.node_store.specs.Writing.{CutLeaves, Puts}
use Rattle.record_types.specs.declared.records.StoreRecord.{StoreRecord}
use Rattle.seq_reserve.specs.Reserving.{first_word, IsDurable}
use Rattle.seq_word.specs.Seen.{KeeperView}
use Rattle.store_definitions.specs.Numbers.{moved}
use Rattle.seq_reserve.proofs.Marks.{first_by, kept_by, less_true, mark_moved}
use Rattle.seq_reserve.proofs.Worlds.{move_goes}
use Rattle.seq_reserve.proofs.reserve.Reserve.move_iv.Goals as goal

pub returns-in_err-put_numbers-clause-cut : goal.returns-in_err-put_numbers-clause-cut
returns-in_err-put_numbers-clause-cut g c =
    let p = c.args.self.now.store.persist in
    let item = c.move_record-item.result in
    let is : item ≡ moved (config_in p) c.args.to.now = c.move_record-item.ensures.value ∙ ap (λ (x : Persist). moved (config_in x) c.args.to.now) c.persist-2.ensures.value in
    subst (λ (i : StoreRecord). CutLeaves (λ records. IsPut records i) (g.F.Flash.chip c.args.flash.now) (g.F.Flash.chip c.put_numbers.new.flash) c.args.self.now.store) is
    c.in_err-put_numbers.ensures.cut

pub returns-in_err-put_numbers-clause-durable : goal.returns-in_err-put_numbers-clause-durable
returns-in_err-put_numbers-clause-durable g c records tie =
    subst (λ n. IsDurable (g.F.Flash.chip c.put_numbers.new.flash) n) (sym c.requires.published) (c.in_err-put_numbers.ensures.safe records tie)

pub go_on-requires-clause-up : goal.go_on-requires-clause-up
go_on-requires-clause-up g c t =
    let p = c.args.self.now.store.persist in
    let q = c.put_numbers.new.store.persist in
    let to = c.args.to.now in
    let item = c.move_record-item.result in
    let is : item ≡ moved (config_in p) to = c.move_record-item.ensures.value ∙ ap (λ (x : Persist). moved (config_in x) to) c.persist-2.ensures.value in
    let rise : IsNotBelow p (moved (config_in p) to) =
    subst (λ (i : StoreRecord). IsNotBelow p i) is (subst (λ (x : Persist). IsNotBelow x item) c.persist-2.ensures.value c.move_record-item.ensures.rises) in
    let above : p.mark ≤ q.mark = subst (λ n. p.mark ≤ n) (sym (mark_moved p q to item is c.in_ok-put_numbers.ensures.puts.change)) rise.1 in
    let rises : c.raises-rises.result ≡ nat_lt (transmit_of p.iv) (transmit_of to) =
    c.raises-rises.ensures ∙ ap (λ (x : Persist). nat_lt (transmit_of x.iv) (transmit_of to)) c.persist.ensures.value in
    let first : q.mark ≡ first_word to =
    first_by (nat_lt (transmit_of p.iv) (transmit_of to)) q.mark (first_word to) p.mark (sym rises ∙ t) (mark_moved p q to item is c.in_ok-put_numbers.ensures.puts.change) in
    omega (arith, c.requires.published, above, first, c.transmit.ensures.value)

pub returns-clause-advanced : goal.returns-clause-advanced
returns-clause-advanced g c less =
    let p = c.args.self.now.store.persist in
    let to = c.args.to.now in
    let rises : c.raises-rises.result ≡ nat_lt (transmit_of p.iv) (transmit_of to) =
    c.raises-rises.ensures ∙ ap (λ (x : Persist). nat_lt (transmit_of x.iv) (transmit_of to)) c.persist.ensures.value in
    let t : nat_lt (transmit_of p.iv) (transmit_of to) ≡ true = less_true _ _ less in
    let advanced = c.go_on.ensures.advanced (rises ∙ t) in (
      c.go_on.ensures.published (rises ∙ t) ∙ ap (λ n. n * 2 ^ 25) c.transmit.ensures.value,
      (
        advanced.0,
        subst (λ n. c.go_on.new.keeper.advances ≡ c.args.self.now.keeper.advances ++ (advanced.0, n * 2 ^ 25) ∷ []) c.transmit.ensures.value advanced.1,
      ),
    )

pub returns-clause-published : goal.returns-clause-published
returns-clause-published g c =
    let p = c.args.self.now.store.persist in
    let q = c.put_numbers.new.store.persist in
    let to = c.args.to.now in
    let item = c.move_record-item.result in
    let is : item ≡ moved (config_in p) to = c.move_record-item.ensures.value ∙ ap (λ (x : Persist). moved (config_in x) to) c.persist-2.ensures.value in
    let rises : c.raises-rises.result ≡ nat_lt (transmit_of p.iv) (transmit_of to) =
    c.raises-rises.ensures ∙ ap (λ (x : Persist). nat_lt (transmit_of x.iv) (transmit_of to)) c.persist.ensures.value in
    let mark = mark_moved p q to item is c.in_ok-put_numbers.ensures.puts.change in
    kept_by (nat_lt (transmit_of p.iv) (transmit_of to)) c.args.self.now.keeper.mark c.go_on.new.keeper.mark q.mark (first_word to) p.mark
    (λ t. c.go_on.ensures.published (rises ∙ t) ∙ ap (λ n. n * 2 ^ 25) c.transmit.ensures.value ∙ sym (first_by _ q.mark (first_word to) p.mark t mark))
    (λ f. ap (λ (k : KeeperView). k.mark) (c.go_on.ensures.stays (rises ∙ f))) c.requires.published
    mark

pub returns-clause-steps : goal.returns-clause-steps
returns-clause-steps g c w world =
    let p = c.args.self.now.store.persist in
    let q = c.put_numbers.new.store.persist in
    let to = c.args.to.now in
    let item = c.move_record-item.result in
    let is : item ≡ moved (config_in p) to = c.move_record-item.ensures.value ∙ ap (λ (x : Persist). moved (config_in x) to) c.persist-2.ensures.value in
    let rise : IsNotBelow p (moved (config_in p) to) =
    subst (λ (i : StoreRecord). IsNotBelow p i) is (subst (λ (x : Persist). IsNotBelow x item) c.persist-2.ensures.value c.move_record-item.ensures.rises) in
    let above : p.mark ≤ q.mark = subst (λ n. p.mark ≤ n) (sym (mark_moved p q to item is c.in_ok-put_numbers.ensures.puts.change)) rise.1 in
    move_goes w p q c.args.self.now.keeper.mark c.go_on.new.keeper.mark item c.requires.published c.in_ok-put_numbers.ensures.puts.change
    (c.in_ok-put_numbers.ensures.steps w c.args.self.now.keeper.mark world) to is above (returns-clause-published g c)

pub returns-clause-puts : goal.returns-clause-puts
returns-clause-puts g c =
    let p = c.args.self.now.store.persist in
    let item = c.move_record-item.result in
    let is : item ≡ moved (config_in p) c.args.to.now = c.move_record-item.ensures.value ∙ ap (λ (x : Persist). moved (config_in x) c.args.to.now) c.persist-2.ensures.value in
    subst (λ (i : StoreRecord). Puts (i ∷ []) (g.F.Flash.chip c.args.flash.now) (g.F.Flash.chip c.put_numbers.new.flash) c.args.self.now.store c.put_numbers.new.store) is
    c.in_ok-put_numbers.ensures.puts

pub returns-clause-cut : goal.returns-clause-cut
returns-clause-cut g c =
    let p = c.args.self.now.store.persist in
    let item = c.move_record-item.result in
    let is : item ≡ moved (config_in p) c.args.to.now = c.move_record-item.ensures.value ∙ ap (λ (x : Persist). moved (config_in x) c.args.to.now) c.persist-2.ensures.value in
    subst (λ (i : StoreRecord). CutLeaves (λ records. IsPut records i) (g.F.Flash.chip c.args.flash.now) (g.F.Flash.chip c.put_numbers.new.flash) c.args.self.now.store) is
    c.in_ok-put_numbers.ensures.cut

pub returns-clause-durable : goal.returns-clause-durable
returns-clause-durable g c records tie =
    subst (λ n. IsDurable (g.F.Flash.chip c.put_numbers.new.flash) n) (sym (returns-clause-published g c)) (c.in_ok-put_numbers.ensures.durable records tie)
