-- An entry more is one step of the tables.
use Rattle.std.proofs.Common.{◌≡◌, List, [], ◌++◌, refl, ap, sym, ◌∙◌, append-nil, Option, Some, None}
use Rattle.std.specs.Prelude.{fold}
use Rattle.std.specs.Option.{option_to_list}
use Rattle.layer_states.specs.Cache.{last_of}
use Rattle.layer_states.proofs.CacheLaws.{last_more}
use Rattle.layer_states.specs.Reassembly.{after}
use Rattle.layer_states.specs.Sending as sending
use Rattle.mesh_base.specs.declared.pair.Name.{Name}
use Rattle.mesh_hearing.proofs.Newest.{newest_more}
use Rattle.mesh_hearing.specs.Again.{newest_of}
use Rattle.mesh_hearing.specs.Tables.{BeginWith, GoOn, again_after, cache_after}
use Rattle.node_layers.proofs.Steps.{cache_goes_on, own_go_on, parts_go_on, segmented_goes_on, time_goes_on}
use Rattle.node_layers.specs.Reassembly.{calls_at, message_calls, tick_calls}
use Rattle.node_layers.specs.Sending.{own_calls}
use Rattle.node_layers.specs.Steps.{cached_names, segmented_name, segmented_names}
use Rattle.event_definitions.specs.Answers.{cached_name, is_before_cache}
use Rattle.event_definitions.specs.History.{now_of, ticks_after}
use Rattle.store_definitions.specs.Config.{config_of}

cache_more : (names : List Name) (name : Option Name) → cache_after (last_of 128 names) name ≡ last_of 128 (last_of 128 names ++ option_to_list name)
cache_more names None = sym (last_more 128 names [] ∙ ap (λ ns. last_of 128 ns) (append-nil names))
cache_more names (Some n) = refl

pub goes_on : GoOn
goes_on t told e h = record {
  cache =
      ap (λ names. cache_after names (cached_name e.insight (is_before_cache e.entry.answer))) h.cache
      ∙ cache_more (cached_names told) (cached_name e.insight (is_before_cache e.entry.answer))
      ∙ sym (cache_goes_on told e);
  parts =
      ap (λ n. fold after t.parts (message_calls n (config_of e.records) e.insight e.entry.answer ++ tick_calls e.entry.answer)) h.ticks
      ∙ ap (λ ps. fold after ps (calls_at (now_of told) e)) h.parts
      ∙ sym (parts_go_on told e []);
  again =
      ap (λ names. again_after names (segmented_name e.insight e.entry.answer)) h.again
      ∙ newest_more (segmented_names told) (segmented_name e.insight e.entry.answer)
      ∙ ap (λ names. newest_of names) (sym (segmented_goes_on told e));
  own =
      ap (λ n. fold sending.after t.own (own_calls n e.entry.event e.entry.answer)) h.ticks
      ∙ ap (λ ms. fold sending.after ms (own_calls (now_of told) e.entry.event e.entry.answer)) h.own
      ∙ sym (own_go_on told e []);
  ticks = ap (λ n. ticks_after n e.entry.answer) h.ticks ∙ sym (time_goes_on told e);
}

pub begins : BeginWith
begins keys = record { cache = refl; parts = refl; again = refl; own = refl; ticks = refl }
