use Rattle.std.proofs.Common.{◌≡◌, ◌∙◌, ◌++◌, ◌∷◌, [], List, Vec, Global, length, map, refl, sym, ap, subst, true, false}
use Rattle.std.proofs.lemmas.List.{length-map, length-replicate}
use Rattle.mesh_types.specs.declared.events.Event.{Event}
use Rattle.life_laws.specs.Phases.{both_of}
use Rattle.mesh_node.specs.Due.{IsDueSince}
use Rattle.mesh_node.specs.Going.{IsGoing, IsOver}
use Rattle.mesh_node.specs.Told.{GivesNone, IsPartDone, did_of, entries_told, sends_told}
use Rattle.mesh_node.proofs.Asking.{due_node}
use Rattle.mesh_node.proofs.Following.{same_more}
use Rattle.mesh_node.proofs.Telling.{first_goes, goes_more, on_err, short_before, short_in, went_last, went_none}
use Rattle.mesh_node.proofs.Timing.{uncounted}
use Rattle.mesh_node.proofs.going.go_on.Goals as goal

pub loop-phase-init : goal.loop-phase-init
loop-phase-init g c =
    let life = c.args.life in
    record {
      numbers = refl;
      which = refl;
      same = record { start = refl; which = refl; elements = refl };
      between = c.requires.between;
      counts = ap length c.requires.counts ∙ length-replicate life.bearers 0;
      usable = c.requires.usable;
      known = c.known.ensures.known;
      under = first_goes (IsDueSince g.M.Machine.role g.M.Machine.quiet (g.F.Flash.chip c.args.life.node.start)) g.S.PhaseSource.steps g.T.PhaseSink.steps c.args.source.now c.args.sink.now life.bearers life.node life.seats.drawer life.seats.counts.items
          c.requires.begins (uncounted g.M.Machine.role g.M.Machine.image g.F.Flash.chip life.node c.known.ensures.known c.requires.begins) c.requires.between.taken c.requires.between.live c.requires.drawn c.requires.counts;
    }

pub returns-in-Err-clause-went : goal.returns-in-Err-clause-went
returns-in-Err-clause-went g c =
    let l = c.loop-phase in
    let S = g.S.PhaseSource.steps in
    let due = due_node {chip = g.F.Flash.chip} g.M.Machine.quiet c.one_list_is_recovered.ensures.one_list l.node c.args.life.node.start l.invariant.same.start l.invariant.known c.due.result (c.due.ensures.least l.invariant.usable) (entries_told l.invariant.under.did) l.invariant.under.told.entries_are in
    went_none (IsDueSince g.M.Machine.role g.M.Machine.quiet (g.F.Flash.chip c.args.life.node.start)) S g.T.PhaseSink.steps c.args.source.now l.source c.args.sink.now l.sink c.args.life.bearers l.node l.seats.drawer c.args.life.node.flash l.seats.counts.items l.invariant.counts l.invariant.under l.invariant.usable c.ask.new.source c.due.result due c.in-Err.last
    (subst (λ n. GivesNone S c.args.life.bearers n c.due.result c.in-Err.last l.source c.ask.new.source) (sym (l.invariant.same.elements ∙ c.requires.elements)) c.in-Err.ensures.none)

pub returns-in_err-done-clause-short : goal.returns-in_err-done-clause-short
returns-in_err-done-clause-short g c =
    let l = c.loop-phase in
    let inv = l.invariant in
    let S = g.S.PhaseSource.steps in
    let bearers = c.args.life.bearers in
    let events = map (λ v. v.items) c.in-Ok.lists.items in
    let gave = subst (λ n. S.gives bearers n c.due.result l.source events c.ask.new.source) (sym (inv.same.elements ∙ c.requires.elements)) c.in-Ok.ensures.gives in
    let due = due_node {chip = g.F.Flash.chip} g.M.Machine.quiet c.one_list_is_recovered.ensures.one_list l.node c.args.life.node.start inv.same.start inv.known c.due.result (c.due.ensures.least inv.usable) (entries_told inv.under.did) inv.under.told.entries_are in
    on_err c.from_residual.result (short_in {chip = g.F.Flash.chip} (IsDueSince g.M.Machine.role g.M.Machine.quiet (g.F.Flash.chip c.args.life.node.start)) g.S.PhaseSource.steps g.T.PhaseSink.steps c.args.source.now l.source c.args.sink.now l.sink c.args.life.bearers l.node l.seats.drawer c.args.life.node.flash l.seats.counts.items inv.known c.args.life.node.start inv.same.start inv.under c.due.result due events c.ask.new.source gave)

pub returns-clause-short : goal.returns-clause-short
returns-clause-short g c =
    let l = c.loop-phase in
    let inv = l.invariant in
    short_before {chip = g.F.Flash.chip} (IsDueSince g.M.Machine.role g.M.Machine.quiet (g.F.Flash.chip c.args.life.node.start)) g.S.PhaseSource.steps g.T.PhaseSink.steps c.args.source.now l.source c.args.sink.now l.sink c.args.life.bearers l.node l.seats.drawer c.args.life.node.flash l.seats.counts.items inv.known c.args.life.node.start inv.same.start inv.under

pub tell_phase-requires : goal.tell_phase-requires
tell_phase-requires g c =
    let h = c.loop-phase.invariant.under in
    record { room = c.in_ok-done.ensures.room h.phases (sends_told c.args.life.bearers h.did) h.going }

pub returns-in-Some-clause-went : goal.returns-in-Some-clause-went
returns-in-Some-clause-went g c =
    let l = c.loop-phase in
    let inv = l.invariant in
    let S = g.S.PhaseSource.steps in
    let T = g.T.PhaseSink.steps in
    let bearers = c.args.life.bearers in
    let events = map (λ v. v.items) c.in-Ok.lists.items in
    let gave = subst (λ n. S.gives bearers n c.due.result l.source events c.ask.new.source) (sym (inv.same.elements ∙ c.requires.elements)) c.in-Ok.ensures.gives in
    let h = inv.under in
    let sends = sends_told bearers h.did in
    let done = c.in_ok-done.done in
    let said = c.in_ok-done.ensures in
    let drawer = c.one_phase.new.seats.drawer in
    let counts = c.one_phase.new.seats.counts.items in
    let lines = map (λ v. v.items) done.log.sends.items in
    let part : IsPartDone done.closed events (did_of done.log) = subst (λ (ls : List (Vec Event Global)). IsPartDone done.closed (map (λ v. v.items) ls) (did_of done.log)) c.as_slice.ensures.value (said.part) in
    let going : done.closed ≡ false → IsGoing (h.phases ++ events ∷ []) done.node drawer (both_of sends lines) counts = subst (λ (ls : List (Vec Event Global)). done.closed ≡ false → IsGoing (h.phases ++ map (λ v. v.items) ls ∷ []) done.node drawer (both_of sends lines) counts) c.as_slice.ensures.value (said.going h.phases sends h.going) in
    let over : done.closed ≡ true → IsOver (h.phases ++ events ∷ []) done.node drawer (both_of sends lines) = subst (λ (ls : List (Vec Event Global)). done.closed ≡ true → IsOver (h.phases ++ map (λ v. v.items) ls ∷ []) done.node drawer (both_of sends lines)) c.as_slice.ensures.value (said.over h.phases [] sends h.going) in
    let told = said.told (entries_told h.did) h.told in
    let size = length-map done.log.sends.items (λ v. v.items) ∙ said.bearers in
    let due = due_node {chip = g.F.Flash.chip} g.M.Machine.quiet c.one_list_is_recovered.ensures.one_list l.node c.args.life.node.start inv.same.start inv.known c.due.result (c.due.ensures.least inv.usable) (entries_told inv.under.did) inv.under.told.entries_are in
    went_last (IsDueSince g.M.Machine.role g.M.Machine.quiet (g.F.Flash.chip c.args.life.node.start)) S T c.args.source.now l.source c.args.sink.now l.sink bearers l.node l.seats.drawer c.args.life.node.flash l.seats.counts.items inv.counts h c.due.result due events (did_of done.log) done.node c.one_phase.new.seats.drawer c.one_phase.new.seats.counts.items done.closed c.ask.new.source c.tell_phase.new.sink
    gave said.frame.elements (said.place ∙ inv.between.count) size part told going over said.closed c.in-Some.last c.in-Some.ensures.some

pub loop-phase-preserved : goal.loop-phase-preserved
loop-phase-preserved g c =
    let l = c.loop-phase in
    let inv = l.invariant in
    let S = g.S.PhaseSource.steps in
    let T = g.T.PhaseSink.steps in
    let bearers = c.args.life.bearers in
    let events = map (λ v. v.items) c.in-Ok.lists.items in
    let gave = subst (λ n. S.gives bearers n c.due.result l.source events c.ask.new.source) (sym (inv.same.elements ∙ c.requires.elements)) c.in-Ok.ensures.gives in
    let h = inv.under in
    let sends = sends_told bearers h.did in
    let done = c.in_ok-done.done in
    let said = c.in_ok-done.ensures in
    let drawer = c.one_phase.new.seats.drawer in
    let counts = c.one_phase.new.seats.counts.items in
    let lines = map (λ v. v.items) done.log.sends.items in
    let part : IsPartDone done.closed events (did_of done.log) = subst (λ (ls : List (Vec Event Global)). IsPartDone done.closed (map (λ v. v.items) ls) (did_of done.log)) c.as_slice.ensures.value (said.part) in
    let going : done.closed ≡ false → IsGoing (h.phases ++ events ∷ []) done.node drawer (both_of sends lines) counts = subst (λ (ls : List (Vec Event Global)). done.closed ≡ false → IsGoing (h.phases ++ map (λ v. v.items) ls ∷ []) done.node drawer (both_of sends lines) counts) c.as_slice.ensures.value (said.going h.phases sends h.going) in
    let over : done.closed ≡ true → IsOver (h.phases ++ events ∷ []) done.node drawer (both_of sends lines) = subst (λ (ls : List (Vec Event Global)). done.closed ≡ true → IsOver (h.phases ++ map (λ v. v.items) ls ∷ []) done.node drawer (both_of sends lines)) c.as_slice.ensures.value (said.over h.phases [] sends h.going) in
    let told = said.told (entries_told h.did) h.told in
    let size = length-map done.log.sends.items (λ v. v.items) ∙ said.bearers in
    let due = due_node {chip = g.F.Flash.chip} g.M.Machine.quiet c.one_list_is_recovered.ensures.one_list l.node c.args.life.node.start inv.same.start inv.known c.due.result (c.due.ensures.least inv.usable) (entries_told inv.under.did) inv.under.told.entries_are in
    let takes = c.in_default.ensures.none refl in
    record {
      numbers = c.one_phase.ensures.numbers ∙ inv.numbers;
      which = c.one_phase.ensures.which ∙ inv.which;
      same = same_more c.args.life.node l.node done.node inv.same said.frame;
      between = said.between takes.0;
      counts = said.many ∙ inv.counts;
      usable = sym said.closed ∙ takes.0;
      known = said.known;
      under = goes_more (IsDueSince g.M.Machine.role g.M.Machine.quiet (g.F.Flash.chip c.args.life.node.start)) S T c.args.source.now l.source c.args.sink.now l.sink bearers l.node l.seats.drawer c.args.life.node.flash l.seats.counts.items inv.counts h c.due.result due events (did_of done.log) done.node c.one_phase.new.seats.drawer c.one_phase.new.seats.counts.items done.closed c.ask.new.source c.tell_phase.new.sink
          gave said.frame.elements (said.place ∙ inv.between.count) size part told going over said.closed takes.0 takes.1;
    }
