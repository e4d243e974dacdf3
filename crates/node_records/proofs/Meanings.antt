-- A value after a record is the meaning of the records with that one at their end.
use Rattle.std.proofs.Common.{◌≡◌, ℕ, ◌≤◌, Bool, refl, List, [], ◌∷◌, ◌++◌, ap, ◌∙◌, sym, subst, arith}
use Rattle.record_types.specs.declared.records.StoreRecord.{StoreRecord}
use Rattle.record_types.specs.declared.records.StoreRecord.TheVariants as R
use Rattle.store_definitions.proofs.Pushes.{config_push, kept_push}
use Rattle.store_definitions.specs.Config.{Config, changed, config_of}
use Rattle.store_definitions.specs.Entries.{kept_after, kept_of, unexpired}
use Rattle.node_records.specs.declared.persist.Persist.{Persist}
use Rattle.node_records.specs.Tables.{config_in, pair_of}
use Rattle.node_records.specs.Meaning.{IsMeaningOf, IsSaid, DoesNotFall}
use Rattle.store_definitions.specs.Ranges.{IsInRange}
use Rattle.std.proofs.lemmas.List.Elements.{All-nil, All-push}
use Rattle.node_records.specs.Steps.{IsStep, KeepsEntries}
use Rattle.node_records.proofs.Entries.{raised, kept_more}

-- the known IV Index doesn't fall
pub current_later : (c : Config) (item : StoreRecord)
    → ((current : ℕ) (progress : Bool) (mark hours since : ℕ) → item ≡ R.Numbers current progress mark hours since → c.iv.current ≤ current)
    → c.iv.current ≤ (changed c item).iv.current
unfolding changed
current_later c (R.Numbers current progress mark hours since) h = h current progress mark hours since refl
current_later c (R.Identity unicast elements dev_key) h = omega arith
current_later c (R.Hour hours since) h = omega arith
current_later c (R.Replay first second) h = omega arith
current_later c (R.NetKey op index key) h = omega arith
current_later c (R.AppKey op net index key) h = omega arith
current_later c (R.Bind op element model app) h = omega arith
current_later c (R.Subscribe op element model address) h = omega arith
current_later c (R.Feature which value) h = omega arith
current_later c R.Reset h = omega arith
current_later c (R.Model element model value) h = omega arith
current_later c (R.Label op element model label) h = omega arith
current_later c (R.Publish row) h = omega arith

-- one more record
pub step_means : (records : List StoreRecord) (item : StoreRecord) (old new : Persist)
    → DoesNotFall old item → IsStep old item new → IsMeaningOf records old → IsMeaningOf (records ++ item ∷ []) new
step_means records item old new later step means =
    let keeps : KeepsEntries old.iv.current old.replay new.replay item = step.replay means.apart in
    let config : config_in new ≡ config_of (records ++ item ∷ []) =
    step.config ∙ ap (λ (c : Config). changed c item) means.config ∙ sym (config_push records item) in
    let current : old.iv.current ≡ (config_of records).iv.current = ap (λ (c : Config). c.iv.current) means.config in
    let now : new.iv.current ≡ (config_of (records ++ item ∷ [])).iv.current = ap (λ (c : Config). c.iv.current) config in
    let least : old.iv.current ≤ new.iv.current =
    subst (λ (c : Config). old.iv.current ≤ c.iv.current) (sym step.config) (current_later (config_in old) item (λ current progress mark hours since e. subst (λ (i : StoreRecord). DoesNotFall old i) e later)) in
    record {
      config = config;
      entries = λ src.
          let same : unexpired old.iv.current (pair_of old.replay src) ≡ unexpired old.iv.current (kept_of records src) =
          means.entries src ∙ ap (λ n. unexpired n (kept_of records src)) (sym current) in
          let after : unexpired old.iv.current (pair_of new.replay src) ≡ unexpired old.iv.current (kept_after src (kept_of records src) item) =
          keeps.entries src ∙ kept_more old.iv.current src (pair_of old.replay src) (kept_of records src) item same in
          let pushed : unexpired old.iv.current (pair_of new.replay src) ≡ unexpired old.iv.current (kept_of (records ++ item ∷ []) src) =
          after ∙ ap (unexpired old.iv.current) (sym (kept_push records item src)) in
          raised old.iv.current new.iv.current (pair_of new.replay src) (kept_of (records ++ item ∷ []) src) least pushed
          ∙ ap (λ n. unexpired n (kept_of (records ++ item ∷ []) src)) now;
      apart = keeps.apart;
    }

pub first_said : (p : Persist) → IsMeaningOf [] p → IsSaid p
first_said p means = record { records = []; ranges = All-nil IsInRange; meaning = means }

-- a value that records in range stand for is so after one more
pub said_more : (item : StoreRecord) (old new : Persist) → IsInRange item → ((records : List StoreRecord) → IsMeaningOf records old → IsMeaningOf (records ++ item ∷ []) new)
    → IsSaid old → IsSaid new
said_more item old new range after said = record {
  records = said.records ++ item ∷ [];
  ranges = All-push IsInRange said.records item said.ranges range;
  meaning = after said.records said.meaning;
}
