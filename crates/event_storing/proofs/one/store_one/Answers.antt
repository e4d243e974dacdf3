use Rattle.std.proofs.Common.{◌∙◌, [], ◌∷◌, sym, subst}
use Rattle.std.specs.Prelude.{OnOk}
use Rattle.event_records.specs.Putting.{IsMoveTo}
use Rattle.node_records.specs.Tables.{config_in}
use Rattle.node_store.specs.Tie.{IsPut}
use Rattle.node_store.specs.Writing.{CutLeaves, Puts}
use Rattle.record_types.specs.declared.records.StoreRecord.{StoreRecord}
use Rattle.event_storing.proofs.Moves.{advanced_none, advanced_some, on_err_by, risen_none, risen_some, said_move, said_none}
use Rattle.event_storing.proofs.one.store_one.Goals as goal

pub move_iv-requires-clause-transmit : goal.move_iv-requires-clause-transmit
move_iv-requires-clause-transmit g c =
    let p = c.args.reserve.now.store.persist in
    let to = c.in-Some.to in
    let move : IsMoveTo (config_in p) to c.args.item.now = said_move (config_in p) c.args.item.now to (sym c.state.ensures.value ∙ c.in-Some.is) c.requires.moves in
    move.transmit

pub move_iv-requires-clause-current : goal.move_iv-requires-clause-current
move_iv-requires-clause-current g c =
    let p = c.args.reserve.now.store.persist in
    let to = c.in-Some.to in
    let move : IsMoveTo (config_in p) to c.args.item.now = said_move (config_in p) c.args.item.now to (sym c.state.ensures.value ∙ c.in-Some.is) c.requires.moves in
    move.current

pub move_iv-requires-clause-rises : goal.move_iv-requires-clause-rises
move_iv-requires-clause-rises g c =
    let p = c.args.reserve.now.store.persist in
    let to = c.in-Some.to in
    let move : IsMoveTo (config_in p) to c.args.item.now = said_move (config_in p) c.args.item.now to (sym c.state.ensures.value ∙ c.in-Some.is) c.requires.moves in
    move.rises

pub put_other-requires-clause-none : goal.put_other-requires-clause-none
put_other-requires-clause-none g c = said_none c.args.item.now (sym c.state.ensures.value ∙ c.in-None.is)

pub returns-in-Some-clause-puts : goal.returns-in-Some-clause-puts
returns-in-Some-clause-puts g c =
    let p = c.args.reserve.now.store.persist in
    let to = c.in-Some.to in
    let move : IsMoveTo (config_in p) to c.args.item.now = said_move (config_in p) c.args.item.now to (sym c.state.ensures.value ∙ c.in-Some.is) c.requires.moves in
    let old = g.F.Flash.chip c.args.flash.now in
    let new = g.F.Flash.chip c.move_iv.new.flash in
    subst (λ (i : StoreRecord). OnOk c.move_iv.result (Puts (i ∷ []) old new c.args.reserve.now.store c.move_iv.new.self.store)) (sym move.item_is) c.move_iv.ensures.puts

pub returns-in-Some-clause-advanced : goal.returns-in-Some-clause-advanced
returns-in-Some-clause-advanced g c =
    let p = c.args.reserve.now.store.persist in
    let to = c.in-Some.to in
    let move : IsMoveTo (config_in p) to c.args.item.now = said_move (config_in p) c.args.item.now to (sym c.state.ensures.value ∙ c.in-Some.is) c.requires.moves in
    advanced_some c.move_iv.result (config_in p) c.args.reserve.now.keeper c.move_iv.new.self.keeper c.args.item.now to (sym c.state.ensures.value ∙ c.in-Some.is) move.rises
    c.move_iv.ensures.stays c.move_iv.ensures.advanced

pub returns-in-Some-clause-risen : goal.returns-in-Some-clause-risen
returns-in-Some-clause-risen g c =
    let p = c.args.reserve.now.store.persist in
    let to = c.in-Some.to in
    let move : IsMoveTo (config_in p) to c.args.item.now = said_move (config_in p) c.args.item.now to (sym c.state.ensures.value ∙ c.in-Some.is) c.requires.moves in
    risen_some c.move_iv.result (config_in p) c.args.reserve.now.keeper c.move_iv.new.self.keeper to move.rises c.move_iv.ensures.stays c.move_iv.ensures.advanced

pub returns-in-Some-clause-cut : goal.returns-in-Some-clause-cut
returns-in-Some-clause-cut g c =
    let p = c.args.reserve.now.store.persist in
    let to = c.in-Some.to in
    let move : IsMoveTo (config_in p) to c.args.item.now = said_move (config_in p) c.args.item.now to (sym c.state.ensures.value ∙ c.in-Some.is) c.requires.moves in
    let old = g.F.Flash.chip c.args.flash.now in
    let new = g.F.Flash.chip c.move_iv.new.flash in
    subst (λ (i : StoreRecord). CutLeaves (λ records. IsPut records i) old new c.args.reserve.now.store) (sym move.item_is) c.move_iv.ensures.cut

pub returns-in-Some-clause-refused : goal.returns-in-Some-clause-refused
returns-in-Some-clause-refused g c =
    on_err_by c.move_iv.result _ _ (λ h. h.1) c.move_iv.ensures.refused

pub returns-in-Some-clause-fails : goal.returns-in-Some-clause-fails
returns-in-Some-clause-fails g c = c.move_iv.ensures.fails c.requires.usable

pub returns-in-None-clause-advanced : goal.returns-in-None-clause-advanced
returns-in-None-clause-advanced g c =
    advanced_none c.put_other.result (config_in c.args.reserve.now.store.persist) c.args.reserve.now.keeper c.put_other.new.reserve.keeper c.args.item.now
    (sym c.state.ensures.value ∙ c.in-None.is) c.put_other.ensures.keeper

pub returns-in-None-clause-risen : goal.returns-in-None-clause-risen
returns-in-None-clause-risen g c =
    risen_none c.put_other.result (config_in c.args.reserve.now.store.persist) c.args.reserve.now.keeper c.put_other.new.reserve.keeper c.put_other.ensures.keeper
