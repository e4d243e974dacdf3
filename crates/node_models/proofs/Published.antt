-- What is published after an entry more, and over other records.
use Rattle.std.proofs.Common.{◌≡◌, ℕ, zero, suc, false, List, [], ◌∷◌, ◌++◌, refl, sym, ap, ◌∙◌, arith, filter, Some, None}
use Rattle.std.specs.Option.{option_map_or}
use Rattle.std.proofs.lemmas.List.Sums.{fold-append}
use Rattle.mesh_types.specs.declared.answers.Answer.{Answer}
use Rattle.mesh_types.specs.declared.answers.Answer.TheVariants as A
use Rattle.model_states.specs.Publication.{Published, after_heartbeat, after_rows, published_from}
use Rattle.node_layers.specs.Models.{delivered_by}
use Rattle.node_layers.specs.Publishing.{is_own_row, published, published_by_message, published_by_tick, published_with}
use Rattle.node_layers.specs.Steps.{PublishedGoesOn, with_entry}
use Rattle.node_models.specs.Models.{is_ticked}
use Rattle.record_types.specs.declared.records.StoreRecord.{StoreRecord}
use Rattle.event_definitions.specs.Answers.{config_before}
use Rattle.event_definitions.specs.History.{Past, Told, now_of}
use Rattle.event_definitions.specs.Layers.{AccessMessage}
use Rattle.store_definitions.specs.Config.{Config, changed, config_of, no_config}
use Rattle.store_definitions.specs.Numbers.{fill_of, filled}

-- An entry that tells of no time.

not_by_tick : (p : Published) (a : Answer) → is_ticked a ≡ false → published_by_tick p a ≡ p
not_by_tick p a h = grind (arith, h)

-- an entry that tells of a time delivers no message
pub none_by_tick : (t : Told) (now : ℕ) → t.entry.answer ≡ A.Ticked now → delivered_by t ≡ None
none_by_tick t now e = grind (arith, e)

no_tick : (t : Told) (m : AccessMessage) → delivered_by t ≡ Some m → is_ticked t.entry.answer ≡ false
no_tick t m e = grind (arith, e)

module _ (step : PublishedGoesOn) (past : Past) (t : Told) (records : List StoreRecord) (same : t.records ≡ past.records) where
  one_more : published (with_entry past.told t records) ≡ published_with (published past) (now_of past.told) t
  one_more =
      step past.told t records
      ∙ ap (λ rs. published_with (published (record { told = past.told; records = rs })) (now_of past.told) t) same

  -- that delivers none and tells of no time
  pub stays : delivered_by t ≡ None → is_ticked t.entry.answer ≡ false
      → published past ≡ published (with_entry past.told t records)
  stays none still =
      let p = published past in
      sym (
      one_more
      ∙ ap (λ o. published_by_tick (option_map_or (published_by_message p (now_of past.told) (config_of t.records)) o p) t.entry.answer) none
      ∙ not_by_tick p t.entry.answer still
      )

  -- that tells of a time
  pub by_tick : (now : ℕ) → t.entry.answer ≡ A.Ticked now
      → after_heartbeat (after_rows (published past) now) now ≡ published (with_entry past.told t records)
  by_tick now e =
      let p = published past in
      sym (
      one_more
      ∙ ap (λ o. published_by_tick (option_map_or (published_by_message p (now_of past.told) (config_of t.records)) o p) t.entry.answer)
      (none_by_tick t now e)
      ∙ ap (λ a. published_by_tick p a) e
      )

  -- that delivers a message
  pub by_message : (m : AccessMessage) → delivered_by t ≡ Some m
      → published_by_message (published past) (now_of past.told) (config_before past) m ≡ published (with_entry past.told t records)
  by_message m e =
      let p = published past in
      let now = now_of past.told in
      sym (
      one_more
      ∙ not_by_tick (option_map_or (published_by_message p now (config_of t.records)) (delivered_by t) p) t.entry.answer (no_tick t m e)
      ∙ ap (λ o. option_map_or (published_by_message p now (config_of t.records)) o p) e
      ∙ ap (λ rs. published_by_message p now (config_of rs) m) same
      )

-- Refills.

-- what a life opens with
abbrev opened_from : Config → Published
opened_from c = published_from (filter (is_own_row c) c.publications)

filled_from : (c : Config) → opened_from (changed c (fill_of c)) ≡ opened_from c
unfolding changed
filled_from c = refl

one_filled : (told : List Told) (records : List StoreRecord)
    → published (record { told = told; records = records })
    ≡ published (record { told = told; records = records ++ fill_of (config_of records) ∷ [] })
one_filled [] records =
    sym (ap opened_from (fold-append changed no_config records (fill_of (config_of records) ∷ [])) ∙ filled_from (config_of records))
one_filled (t ∷ ts) records = refl

pub published_filled : (told : List Told) (fills : ℕ) (records : List StoreRecord)
    → published (record { told = told; records = records }) ≡ published (record { told = told; records = filled fills records })
published_filled told zero records = refl
published_filled told (suc fills) records =
    one_filled told records ∙ published_filled told fills (records ++ fill_of (config_of records) ∷ [])
