-- What records say of one that comes after them, by the value that they stand for.
use Rattle.std.proofs.Common.{◌≡◌, ℕ, ◌≤◌, List, [], ◌∷◌, ◌++◌, ap, sym, subst, ◌∙◌, arith}
use Rattle.record_types.specs.declared.records.StoreRecord.{StoreRecord}
use Rattle.record_types.specs.declared.records.StoreRecord.TheVariants as R
use Rattle.store_definitions.proofs.Pushes.{config_push}
use Rattle.store_definitions.specs.Config.{Config, changed, config_of}
use Rattle.node_records.specs.declared.persist.Persist.{Persist}
use Rattle.node_records.specs.Meaning.{DoesNotFall, IsMeaningOf}
use Rattle.store_definitions.specs.Following.{DoesNotLower}
use Rattle.node_store.specs.Tie.{IsNoNumbers, IsNotBelow}

module _ (records : List StoreRecord) (p : Persist) (meaning : IsMeaningOf records p) where
  same_current : p.iv.current ≡ (config_of records).iv.current
  same_current = ap (λ (d : Config). d.iv.current) meaning.config

  pub rises_of : (item : StoreRecord) → DoesNotFall p item → DoesNotLower records item
  rises_of (R.Numbers current progress mark hours since) h = subst (λ (x : ℕ). x ≤ current) same_current h
  rises_of _ h = tt

  pub falls_of : (item : StoreRecord) → (DoesNotFall p item → ⊥) → DoesNotLower records item → ⊥
  falls_of (R.Numbers current progress mark hours since) falls h = falls (subst (λ (x : ℕ). x ≤ current) (sym same_current) h)
  falls_of (R.Identity unicast elements dev_key) falls h = falls tt
  falls_of (R.Hour hours since) falls h = falls tt
  falls_of (R.Replay first second) falls h = falls tt
  falls_of (R.NetKey op index key) falls h = falls tt
  falls_of (R.AppKey op net index key) falls h = falls tt
  falls_of (R.Bind op element model app) falls h = falls tt
  falls_of (R.Subscribe op element model address) falls h = falls tt
  falls_of (R.Feature which value) falls h = falls tt
  falls_of R.Reset falls h = falls tt
  falls_of (R.Model element model value) falls h = falls tt
  falls_of (R.Label op element model label) falls h = falls tt
  falls_of (R.Publish row) falls h = falls tt

  same_mark : p.mark ≡ (config_of records).mark
  same_mark = ap (λ (d : Config). d.mark) meaning.config

  -- the mark with one record more
  mark_after : (item : StoreRecord) → IsNotBelow p item → p.mark ≤ (changed (config_of records) item).mark
  unfolding changed
  mark_after (R.Identity unicast elements dev_key) h = omega (arith, same_mark)
  mark_after (R.Numbers current progress mark hours since) h = h.1
  mark_after (R.Hour hours since) h = omega (arith, same_mark)
  mark_after (R.Replay first second) h = omega (arith, same_mark)
  mark_after (R.NetKey op index key) h = omega (arith, same_mark)
  mark_after (R.AppKey op net index key) h = omega (arith, same_mark)
  mark_after (R.Bind op element model app) h = omega (arith, same_mark)
  mark_after (R.Subscribe op element model address) h = omega (arith, same_mark)
  mark_after (R.Feature which value) h = omega (arith, same_mark)
  mark_after R.Reset h = omega (arith, same_mark)
  mark_after (R.Model element model value) h = omega (arith, same_mark)
  mark_after (R.Label op element model label) h = omega (arith, same_mark)
  mark_after (R.Publish row) h = omega (arith, same_mark)

  mark_kept : (item : StoreRecord) → IsNoNumbers item → (changed (config_of records) item).mark ≡ p.mark
  unfolding changed
  mark_kept (R.Identity unicast elements dev_key) h = sym same_mark
  mark_kept (R.Numbers current progress mark hours since) h = absurd h
  mark_kept (R.Hour hours since) h = sym same_mark
  mark_kept (R.Replay first second) h = sym same_mark
  mark_kept (R.NetKey op index key) h = sym same_mark
  mark_kept (R.AppKey op net index key) h = sym same_mark
  mark_kept (R.Bind op element model app) h = sym same_mark
  mark_kept (R.Subscribe op element model address) h = sym same_mark
  mark_kept (R.Feature which value) h = sym same_mark
  mark_kept R.Reset h = sym same_mark
  mark_kept (R.Model element model value) h = sym same_mark
  mark_kept (R.Label op element model label) h = sym same_mark
  mark_kept (R.Publish row) h = sym same_mark

  pub mark_before : p.mark ≡ (config_of records).mark
  mark_before = same_mark

  pub mark_from : (item : StoreRecord) → IsNotBelow p item → p.mark ≤ (config_of (records ++ item ∷ [])).mark
  mark_from item h = subst (λ (d : Config). p.mark ≤ d.mark) (sym (config_push records item)) (mark_after item h)

  pub mark_same : (item : StoreRecord) → IsNoNumbers item → (config_of (records ++ item ∷ [])).mark ≡ p.mark
  mark_same item h = ap (λ (d : Config). d.mark) (config_push records item) ∙ mark_kept item h

-- what a Numbers record may not lower
pub not_below_current : (p : Persist) (item : StoreRecord) → IsNotBelow p item → DoesNotFall p item
not_below_current p (R.Numbers current progress mark hours since) h = h.0
not_below_current p _ h = tt
