use Rattle.std.proofs.Common.{[], ◌++◌, ℕ, List, map, refl, subst, sym, true}
use Rattle.std.specs.Prelude.{◌≡◌, All}
use Rattle.std.proofs.lemmas.List.{append-nil}
use Rattle.life_laws.proofs.OneLife.{cut_life, reset_life}
use Rattle.machine_contract.specs.Opening.{IsLeft}
use Rattle.record_types.specs.declared.records.StoreRecord.{StoreRecord}
use Rattle.run_definitions.specs.Order.{phase}
use Rattle.store_definitions.specs.Alike.{IsAlike}
use Rattle.store_definitions.specs.Config.{config_of}
use Rattle.store_definitions.specs.Ranges.{IsInRange}
use Rattle.store_definitions.specs.Recovered.{IsRecovered}
use Rattle.process_laws.proofs.processes.unled_law.Goals as goal

-- records that are recovered again are left
same_left : (image : List ℕ) (over next : List StoreRecord) → IsRecovered image over → over ≡ next → IsLeft over [] next
same_left image over next read same =
    let alike : IsAlike over over = record { config = refl; entries = λ src. refl } in
    record {
      ranges = subst (All IsInRange) (sym (append-nil over)) read.ranges;
      alike = subst (λ l. IsAlike next l) (sym (append-nil over)) (subst (λ l. IsAlike l over) same alike);
    }

pub returns : goal.returns
returns g c =
    let one = c.one_list_is_recovered.ensures.one_list in
    record {
      unled = λ phases calls found left u. record {
        recovered = u.read;
        life = λ image next is read. cut_life g.M.Machine.role (map phase phases) u.over next calls (u.left image next is read);
      };
      same = λ phases calls over found left fresh first stays. record {
        recovered = first;
        life = λ image next is read.
            let again = subst (λ content. IsRecovered content next) (fresh.only image (stays.stays image is)) read in
            cut_life g.M.Machine.role (map phase phases) over next calls (same_left (g.F.Flash.chip found).now over next first (one (g.F.Flash.chip found).now over next first again));
      };
      reset = λ phases found left was u.
          let same = one (g.F.Flash.chip found).now was.over u.over was.read u.read in
          record {
            recovered = u.read;
            life = λ image next is read. reset_life g.M.Machine.role (map phase phases) u.over next
                (subst (λ over. (config_of over).reset ≡ true) same was.reset) (u.left image next is read);
          };
    }
