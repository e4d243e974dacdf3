use Rattle.std.proofs.Common.{◌≡◌, ◌∙◌, ◌∷◌, ◌++◌, [], false, ap, length, refl, subst, sym}
use Rattle.std.proofs.lemmas.List.{length-map}
use Rattle.mesh_node.specs.Held.{HasLived}
use Rattle.mesh_node.specs.Steps.{IsSameNode}
use Rattle.mesh_node.specs.Told.{IsPartDone, did_of, entries_told, sends_told}
use Rattle.mesh_node.proofs.Holding.{held_more, held_short, held_view}
use Rattle.mesh_node.proofs.Telling.{on_err}
use Rattle.mesh_node.proofs.held.HeldLife.phase.Goals as goal

pub returns-in_err-done-clause-short : goal.returns-in_err-done-clause-short
returns-in_err-done-clause-short g c phases did h =
    on_err c.from_residual.result (held_short g.M.Machine.role g.M.Machine.image g.F.Flash.chip c.args.self phases did h c.requires.usable (c.args.events.now ∷ []))

pub returns-clause-frame : goal.returns-clause-frame
returns-clause-frame g c = subst (λ l. IsSameNode l.node c.in_ok-done.done.node) c.self.view_is c.in_ok-done.ensures.frame

pub returns-clause-numbers : goal.returns-clause-numbers
returns-clause-numbers g c = c.one_phase_alone.ensures.numbers ∙ ap (λ l. l.numbers) c.self.view_is

pub returns-clause-saved : goal.returns-clause-saved
returns-clause-saved g c = c.in_ok-done.ensures.saved ∙ ap (λ l. (g.F.Flash.chip l.node.flash).setting.saved) c.self.view_is

pub returns-clause-called : goal.returns-clause-called
returns-clause-called g c = c.in_ok-done.ensures.called ∙ ap (λ l. (g.F.Flash.chip l.node.flash).setting.called) c.self.view_is

pub returns-clause-programmed : goal.returns-clause-programmed
returns-clause-programmed g c = c.in_ok-done.ensures.programmed ∙ ap (λ l. (g.F.Flash.chip l.node.flash).setting.programmed) c.self.view_is

pub returns-clause-moment : goal.returns-clause-moment
returns-clause-moment g c = c.in_ok-done.ensures.moment ∙ ap (λ l. (g.F.Flash.chip l.node.flash).setting.moment) c.self.view_is

pub returns-clause-place : goal.returns-clause-place
returns-clause-place g c =
    let between = c.self.invariant.6 (ap (λ l. l.node.machine.closed) c.self.view_is ∙ c.requires.usable) in
    c.in_ok-done.ensures.place ∙ between.count ∙ ap (λ l. length l.node.machine.entries) c.self.view_is

pub returns-clause-bearers : goal.returns-clause-bearers
returns-clause-bearers g c = c.in_ok-done.ensures.bearers ∙ c.self.invariant.5

pub returns-clause-part : goal.returns-clause-part
returns-clause-part g c = subst (λ b. IsPartDone b (c.args.events.now ∷ []) (did_of c.in_ok-done.done.log)) c.in_ok-done.ensures.closed c.in_ok-done.ensures.part

pub returns-clause-entries : goal.returns-clause-entries
returns-clause-entries g c =
    let old = c.self.inside.going.node.machine.entries in
    let between = c.self.invariant.6 (ap (λ l. l.node.machine.closed) c.self.view_is ∙ c.requires.usable) in
    (c.in_ok-done.ensures.told old (record { entries_are = refl; taken = between.taken })).entries_are ∙ ap (λ l. l.node.machine.entries ++ c.in_ok-done.done.log.entries.items) c.self.view_is

pub returns-clause-room : goal.returns-clause-room
returns-clause-room g c phases did h =
    let old = c.self.inside.going in
    let life = held_view old.node old.seats.numbers old.seats.drawer old.seats.counts.items in
    let lived : HasLived g.M.Machine.role g.M.Machine.image g.F.Flash.chip life phases did = subst (λ l. HasLived g.M.Machine.role g.M.Machine.image g.F.Flash.chip l phases did) (sym c.self.view_is) h in
    let usable : old.node.machine.closed ≡ false = ap (λ l. l.node.machine.closed) c.self.view_is ∙ c.requires.usable in
    c.in_ok-done.ensures.room phases (sends_told 1 did) (lived.going usable)

pub returns-clause-held : goal.returns-clause-held
returns-clause-held g c phases did h =
    let chip = g.F.Flash.chip in
    let old = c.self.inside.going in
    let life = held_view old.node old.seats.numbers old.seats.drawer old.seats.counts.items in
    let lived : HasLived g.M.Machine.role g.M.Machine.image chip life phases did = subst (λ l. HasLived g.M.Machine.role g.M.Machine.image chip l phases did) (sym c.self.view_is) h in
    let usable : old.node.machine.closed ≡ false = ap (λ l. l.node.machine.closed) c.self.view_is ∙ c.requires.usable in
    let between = c.self.invariant.6 usable in
    let done = c.in_ok-done.done in
    let said = c.in_ok-done.ensures in
    let seats = c.one_phase_alone.new.seats in
    let next = held_view done.node seats.numbers seats.drawer seats.counts.items in
    let sends = sends_told 1 did in
    held_more g.M.Machine.role g.M.Machine.image chip life phases did lived usable next (c.args.events.now ∷ []) (did_of done.log) done.closed said.closed said.frame.start c.one_phase_alone.ensures.numbers said.known
    (said.place ∙ between.count) (length-map done.log.sends.items (λ v. v.items) ∙ said.bearers ∙ c.self.invariant.5) said.part (said.told (entries_told did) lived.told)
    (said.going phases sends (lived.going usable)) (said.over phases [] sends (lived.going usable))
