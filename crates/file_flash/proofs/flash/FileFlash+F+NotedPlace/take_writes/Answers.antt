use Rattle.std.proofs.Common.{inr, map, sym}
use Rattle.file_flash.specs.Backed.{TornSince, backed_chip}
use Rattle.file_flash.specs.Noted.{put_of}
use Rattle.file_flash.proofs.Fronts.{fronts_in}
use Rattle.file_flash.proofs.flash.FileFlash+F+NotedPlace.take_writes.Goals as goal

pub returns-clause-fronts : goal.returns-clause-fronts
returns-clause-fronts g c =
    let chip = g.F.Flash.chip in
    let f = c.args.self.now in
    let puts = map put_of c.take.result.items in
    fronts_in puts f.saved.octets (TornSince f.saved.calls f.saved.moment) ((backed_chip (chip f.mirror) (chip f.goal) f.failed f.saved).since f.saved.moment)
    (λ d torn. inr torn) (f.fronts puts (sym c.take.ensures.taken))

pub returns-clause-lean : goal.returns-clause-lean
returns-clause-lean g c = λ less. c.args.self.now.lean (map put_of c.take.result.items) (sym c.take.ensures.taken) less
