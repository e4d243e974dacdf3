-- What is true of every value of records in range: the IV state and the mark are in range.
use Rattle.std.proofs.Common.{ℕ, ◌<◌, ◌^◌, List, [], ◌∷◌, refl, sym, subst, arith, lit<, true≢false}
use Rattle.std.specs.Prelude.{All, fold}
use Rattle.std.proofs.lemmas.List.Elements.{All-head, All-tail}
use Rattle.mesh_base.specs.IvState.{HasTransmit, transmit_of}
use Rattle.mesh_base.specs.declared.iv_state.IvState.{IvState}
use Rattle.record_types.specs.declared.records.StoreRecord.{StoreRecord}
use Rattle.record_types.specs.declared.records.StoreRecord.TheVariants as R
use Rattle.store_definitions.specs.Config.{Config, config_of, no_config, changed}
use Rattle.store_definitions.specs.Ranges.{IsInRange, IsMark}
use Rattle.node_records.specs.declared.persist.Persist.{Persist}
use Rattle.node_records.specs.Meaning.{IsSaid}

pub record IsIv (s : IvState) (bound : ℕ) : Type 0 where
  pub current : s.current < 2 ^ 32
  pub transmit : HasTransmit s
  pub mark : IsMark s bound
  pub hours : s.hours < 2 ^ 16
  pub since : s.since < 2 ^ 16

none_iv : IsIv no_config.iv no_config.mark
unfolding transmit_of
none_iv = record {
  current = lit< tt;
  transmit = λ h. absurd (true≢false (sym h));
  mark = record { seq = 0; word = refl; most = omega arith; block = refl };
  hours = lit< tt;
  since = lit< tt;
}

iv_more : (c : Config) (item : StoreRecord) → IsInRange item → IsIv c.iv c.mark → IsIv (changed c item).iv (changed c item).mark
unfolding changed transmit_of
iv_more c (R.Identity unicast elements dev_key) r h = h
iv_more c (R.Numbers current progress mark hours since) r h = record { current = r.0; transmit = r.1; mark = r.2; hours = r.3; since = r.4 }
iv_more c (R.Hour hours since) r h = record {
  current = h.current;
  transmit = h.transmit;
  mark = record { seq = h.mark.seq; word = h.mark.word; most = h.mark.most; block = h.mark.block };
  hours = r.0;
  since = r.1;
}
iv_more c (R.Replay first second) r h = h
iv_more c (R.NetKey op index key) r h = h
iv_more c (R.AppKey op net index key) r h = h
iv_more c (R.Bind op element model app) r h = h
iv_more c (R.Subscribe op element model address) r h = h
iv_more c (R.Feature which value) r h = h
iv_more c R.Reset r h = h
iv_more c (R.Model element model value) r h = h
iv_more c (R.Label op element model label) r h = h
iv_more c (R.Publish row) r h = h

iv_all : (c : Config) (records : List StoreRecord) → All IsInRange records → IsIv c.iv c.mark → IsIv (fold changed c records).iv (fold changed c records).mark
iv_all c [] r h = h
iv_all c (item ∷ records) r h =
    iv_all (changed c item) records (All-tail IsInRange item records r) (iv_more c item (All-head IsInRange item records r) h)

pub iv_of : (records : List StoreRecord) → All IsInRange records → IsIv (config_of records).iv (config_of records).mark
iv_of records r = iv_all no_config records r none_iv

pub iv_in : (p : Persist) → IsSaid p → IsIv p.iv p.mark
iv_in p said = subst (λ (c : Config). IsIv c.iv c.mark) (sym said.meaning.config) (iv_of said.records said.ranges)
