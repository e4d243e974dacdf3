use Rattle.std.proofs.Common.{ℕ, zero, suc, ◌<◌, List, get_or, sym, subst, ◌∙◌, append-nil}
use Rattle.slot_journal.proofs.text.front_of.Goals as goal

pub returns-clause-octets : goal.returns-clause-octets
returns-clause-octets c zero = c.ranges.kind.fits
returns-clause-octets c (suc k) = subst (λ (l : List ℕ). get_or l k 0 < 256) (sym (append-nil c.copy_from_slice.new.self ∙ c.copy_from_slice.ensures.after)) (c.fits-body k)
