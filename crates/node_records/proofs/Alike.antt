-- Lists that say the same.
use Rattle.std.proofs.Common.{◌≡◌, ℕ, ◌≤◌, List, [], ◌∷◌, ◌++◌, ap, ◌∙◌, sym, subst}
use Rattle.record_types.specs.declared.records.StoreRecord.{StoreRecord}
use Rattle.store_definitions.specs.Alike.{IsAlike}
use Rattle.store_definitions.specs.Config.{Config, config_of, changed}
use Rattle.store_definitions.specs.Entries.{kept_of, unexpired}
use Rattle.store_definitions.specs.Following.{DoesNotLower}
use Rattle.node_records.specs.declared.persist.Persist.{Persist}
use Rattle.node_records.specs.Meaning.{IsMeaningOf}
use Rattle.node_records.proofs.Entries.{raised, kept_more}
use Rattle.store_definitions.proofs.Pushes.{config_push, kept_push}
use Rattle.node_records.proofs.Meanings.{current_later}

pub alike_by : (a b : List StoreRecord) (p : Persist) → IsMeaningOf a p → IsMeaningOf b p → IsAlike a b
alike_by a b p h k = record { config = sym h.config ∙ k.config; entries = λ src. sym (h.entries src) ∙ k.entries src }

pub means_alike : (a b : List StoreRecord) (p : Persist) → IsAlike a b → IsMeaningOf a p → IsMeaningOf b p
means_alike a b p e h = record { config = h.config ∙ e.config; entries = λ src. h.entries src ∙ e.entries src; apart = h.apart }

pub alike_push : (a b : List StoreRecord) (item : StoreRecord) → DoesNotLower a item → IsAlike a b → IsAlike (a ++ item ∷ []) (b ++ item ∷ [])
alike_push a b item later alike =
    let before : ℕ = (config_of a).iv.current in
    let config : config_of (a ++ item ∷ []) ≡ config_of (b ++ item ∷ []) =
    config_push a item ∙ ap (λ (c : Config). changed c item) alike.config ∙ sym (config_push b item) in
    let now : ℕ = (config_of (a ++ item ∷ [])).iv.current in
    let least : before ≤ now =
    subst (λ (c : Config). before ≤ c.iv.current) (sym (config_push a item))
    (current_later (config_of a) item (λ current progress mark hours since e. subst (λ (i : StoreRecord). DoesNotLower a i) e later)) in
    record {
      config = config;
      entries = λ src.
          let same : unexpired before (kept_of a src) ≡ unexpired before (kept_of b src) =
          alike.entries src ∙ ap (λ (c : Config). unexpired c.iv.current (kept_of b src)) (sym alike.config) in
          let after : unexpired before (kept_of (a ++ item ∷ []) src) ≡ unexpired before (kept_of (b ++ item ∷ []) src) =
          ap (unexpired before) (kept_push a item src) ∙ kept_more before src (kept_of a src) (kept_of b src) item same
          ∙ ap (unexpired before) (sym (kept_push b item src)) in
          raised before now (kept_of (a ++ item ∷ []) src) (kept_of (b ++ item ∷ []) src) least after
          ∙ ap (λ (c : Config). unexpired c.iv.current (kept_of (b ++ item ∷ []) src)) config;
    }
