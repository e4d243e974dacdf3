use Rattle.std.proofs.Common.{ap, map, subst}
use Rattle.hearing_host.specs.Heard.{HeardAll, dids}
use Rattle.machine_contract.specs.Opening.{found_of}
use Rattle.mesh_node.specs.Given.{Stood}
use Rattle.mesh_node.specs.Told.{did_of}
use Rattle.hearing_host.proofs.Hearing.{heard_all}
use Rattle.hearing_host.proofs.host.hear_all.Goals as goal

pub returns-in-Ok-live_alone : goal.returns-in-Ok-live_alone
returns-in-Ok-live_alone g c =
    let chip = g.F.Flash.chip in
    let lived = c.in-Ok-live_alone.lived in
    record {
      heard = λ ended. subst (λ f. HeardAll g.M.Machine.role c.args.pdus.items (dids c.live_alone.new.sink) (chip f) (chip lived.flash) lived.refills lived.drawn) c.in-Ok.ensures.value
          (heard_all (Stood g.M.Machine.view (g.M.Machine.stands (found_of (chip c.in-Ok.start))) chip lived.flash) g.M.Machine.role g.M.Machine.image _ (record { left = c.args.pdus; alloc = c.args.alloc }) c.live_alone.new.source (record { logs = c.new.result }) c.live_alone.new.sink (chip c.in-Ok.start) (chip lived.flash) c.start.new.flash lived.flash lived.refills lived.drawn lived.closed lived.last
          c.in-Ok-live_alone.ensures.lived (ap (map did_of) c.new.ensures.items) ended);
    }
