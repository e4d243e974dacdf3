use Rattle.std.proofs.Common.{rules, ◌≡◌, ◌∙◌, ◌/◌, List, ℕ, length, take, drop, ap, sym, subst}
use Rattle.std.proofs.lemmas.List.{take_at}
use Rattle.flash_model.specs.Octets.{IsTorn}
use Rattle.file_flash.specs.Backing.{put_at}
use Rattle.file_flash.proofs.Putting.{front_torn}
use Rattle.file_flash.proofs.backing.MemBackingBacking.put.Goals as goal

pub returns-then-self-eq0-clause-err : goal.returns-then-self-eq0-clause-err
returns-then-self-eq0-clause-err c =
    let at = c.args.at in
    let bytes = c.args.bytes.now in
    let old = c.args.self.now.octets.items in
    let new = c.put_octets.new.octets in
    let half : ℕ = length bytes / 2 in
    let written : new ≡ put_at at (take half bytes) old = c.put_octets.ensures ∙ ap (put_at at (take half bytes)) c.deref_mut.ensures.value in
    let size : length new ≡ c.args.self.now.octets.len = search rules in
    let front = take_at new (drop (length new) old) c.args.self.now.octets.len size ∙ written in
    subst (λ (l : List ℕ). IsTorn old (put_at at bytes old) l) (sym front) (front_torn at half bytes old)
