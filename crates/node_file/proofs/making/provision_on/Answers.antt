use Rattle.std.proofs.Common.{length}
use Rattle.std.specs.Prelude.{IsOk}
use Rattle.node_file.proofs.Images.{if_ok, image_is, not_refused, on_ok}
use Rattle.node_file.proofs.making.provision_on.Goals as goal

pub returns : goal.returns
returns g c =
    let before = g.F.Flash.chip c.args.flash.now in
    let after = g.F.Flash.chip c.provision.new.flash in
    let is_ok : IsOk c.provision.result = not_refused c.provision.result before after c.requires.erased c.requires.fresh.honest
    c.provision.ensures.cause (c.provision.ensures.sure c.requires.sure) in
    let made = if_ok _ c.provision.result is_ok (c.provision.ensures.exactly c.requires.fresh) in
    let read = on_ok _ c.read.result (c.read.ensures.sure (c.provision.ensures.frame.sure c.requires.sure).0) c.read.ensures.value in
    record { image = image_is c.args.provision.now after _ c.read.new.buf (length c.args.image.now) c.requires.size made.1 read }
