use Rattle.std.proofs.Common.{sym, subst, arith}
use Rattle.std.proofs.lemmas.List.{take_at}
use Rattle.node_file.specs.Making.{IsImageOf}
use Rattle.node_file.proofs.Images.{erased_is}
use Rattle.node_file.proofs.making.image_of.Goals as goal

pub provision_on-requires-clause-erased : goal.provision_on-requires-clause-erased
provision_on-requires-clause-erased c = erased_is c.in_ok-flash.flash.octets.items c.in_ok-flash.ensures.erased

pub returns : goal.returns
returns c =
    let is = c.provision_on.ensures.image in
    record {
      image = subst (IsImageOf c.args.provision.now)
          (sym (take_at c.provision_on.new.image _ c.in_ok-image.image.len (omega (arith, is.tidy.whole.size, c.in_ok-image.ensures.len)))) is;
    }
