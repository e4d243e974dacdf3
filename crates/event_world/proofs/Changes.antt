-- What a message stores beside its name: no step of the world.
use Rattle.std.proofs.Common.{◌≡◌, ℕ, List, [], ◌∷◌, ◌++◌, Option, Some, None, refl, ap, ◌∙◌, sym}
use Rattle.std.specs.Prelude.{fold}
use Rattle.std.specs.List.{AllByRecursion as Every}
use Rattle.std.specs.Option.{option_map_or}
use Rattle.std.proofs.lemmas.List.Elements.{recursion_from_All}
use Rattle.std.proofs.lemmas.List.Sums.{fold-append}
use Rattle.event_world.specs.Stepping.{record_steps, records_steps}
use Rattle.mesh_base.specs.declared.iv_state.IvState.{IvState}
use Rattle.mesh_base.specs.declared.pair.Name.{Name}
use Rattle.mesh_base.specs.declared.pair.Pair.{Pair}
use Rattle.mesh_types.specs.declared.answers.Answer.{Answer}
use Rattle.mesh_types.specs.declared.answers.Answer.TheVariants as A
use Rattle.mesh_types.specs.declared.events.Event.TheVariants as E
use Rattle.node_layers.specs.NodeLayers.{node_layers}
use Rattle.store_definitions.proofs.Pushes.{config_push, kept_push}
use Rattle.node_records.specs.Meaning.{IsMeaningOf}
use Rattle.node_records.specs.Tables.{pair_of}
use Rattle.node_records.specs.declared.persist.Persist.{Persist}
use Rattle.record_types.specs.declared.records.StoreRecord.{StoreRecord}
use Rattle.record_types.specs.declared.records.StoreRecord.TheVariants as R
use Rattle.event_definitions.specs.History.{Insight, Past}
use Rattle.event_definitions.specs.Layers.{AccessMessage}
use Rattle.event_definitions.specs.Stores.{asked, message_of, stores}
use Rattle.event_definitions.specs.Answers.{accepted}
use Rattle.event_definitions.specs.Safe.{AreSafe, IsChange}
use Rattle.store_definitions.specs.Config.{Config, changed, config_of, no_config}
use Rattle.store_definitions.specs.Entries.{kept_after, kept_of, unexpired}

-- What a network PDU stores: the name that it accepts, and then the changes that the message asks for.

abbrev pub changes_in : Past → Insight → Answer → List StoreRecord
changes_in past i (A.Delivered name dst key payload) = asked node_layers past (message_of i name dst)
changes_in past i _ = []

abbrev pub named_with : Option Name → List StoreRecord → List StoreRecord
named_with None changes = []
named_with (Some n) changes = R.Replay n None ∷ changes

pub stores_named : (past : Past) (octets : List ℕ) (i : Insight) (a : Answer) → stores node_layers past (E.Net octets) i a ≡ named_with (accepted a) (changes_in past i a)
unfolding stores
stores_named past octets i (A.Delivered name dst key payload) = refl
stores_named past octets i (A.Control name dst opcode params) = refl
stores_named past octets i _ = refl

pub changes_are : AreSafe node_layers → (past : Past) (i : Insight) (a : Answer) → Every IsChange (changes_in past i a)
changes_are safe past i (A.Delivered name dst key payload) = pick (message_of i name dst)
  where
    pick : (o : Option AccessMessage) → Every IsChange (option_map_or (node_layers.changes past) o [])
    pick None = tt
    pick (Some m) = recursion_from_All IsChange (node_layers.changes past m) (safe.changes past m)
changes_are safe past i _ = tt

-- A change leaves the IV state, the mark and the names.

record Stays (c : Config) (item : StoreRecord) : Type 0 where
  iv : (changed c item).iv ≡ c.iv
  mark : (changed c item).mark ≡ c.mark
  names : (src : ℕ) (o : Option Pair) → kept_after src o item ≡ o
  steps : record_steps c item ≡ []

stays : (c : Config) (item : StoreRecord) → IsChange item → Stays c item
unfolding changed
stays c (R.Numbers current progress mark hours since) h = absurd h
stays c (R.Replay first second) h = absurd h
stays c (R.Identity unicast elements dev_key) h = absurd h
stays c (R.Hour hours since) h = absurd h
stays c _ h = record { iv = refl; mark = refl; names = λ src o. refl; steps = refl }

iv_stays : (c : Config) (items : List StoreRecord) → Every IsChange items → (fold changed c items).iv ≡ c.iv
iv_stays c [] h = refl
iv_stays c (item ∷ items) h = iv_stays (changed c item) items h.1 ∙ (stays c item h.0).iv

mark_stays : (c : Config) (items : List StoreRecord) → Every IsChange items → (fold changed c items).mark ≡ c.mark
mark_stays c [] h = refl
mark_stays c (item ∷ items) h = mark_stays (changed c item) items h.1 ∙ (stays c item h.0).mark

names_stay : (c : Config) (src : ℕ) (o : Option Pair) (items : List StoreRecord) → Every IsChange items → fold (kept_after src) o items ≡ o
names_stay c src o [] h = refl
names_stay c src o (item ∷ items) h =
    ap (λ (x : Option Pair). fold (kept_after src) x items) ((stays c item h.0).names src o) ∙ names_stay c src o items h.1

pub no_steps : (c : Config) (items : List StoreRecord) → Every IsChange items → records_steps c items ≡ []
no_steps c [] h = refl
no_steps c (item ∷ items) h =
    ap (λ l. l ++ records_steps (changed c item) items) (stays c item h.0).steps ∙ no_steps (changed c item) items h.1

-- So a value after a name and changes has the numbers and the names of one that says the records with the name alone.
module _ (records changes : List StoreRecord) (name : Name) (p q : Persist) (meaning : IsMeaningOf records p) (after : IsMeaningOf (records ++ R.Replay name None ∷ changes) q) (are : Every IsChange changes) where
  abbrev item : StoreRecord
  item = R.Replay name None

  all_is : config_of (records ++ item ∷ changes) ≡ fold changed (config_of records) changes
  unfolding changed
  all_is = fold-append changed no_config records (item ∷ changes)

  one_is : config_of (records ++ item ∷ []) ≡ config_of records
  unfolding changed
  one_is = config_push records item

  kept_is : (src : ℕ) → kept_of (records ++ item ∷ changes) src ≡ kept_of (records ++ item ∷ []) src
  kept_is src =
      fold-append (kept_after src) None records (item ∷ changes)
      ∙ names_stay (config_of records) src (kept_after src (kept_of records src) item) changes are
      ∙ sym (kept_push records item src)

  pub iv_after : q.iv ≡ p.iv
  iv_after =
      ap (λ (c : Config). c.iv) (after.config ∙ all_is) ∙ iv_stays (config_of records) changes are
      ∙ sym (ap (λ (c : Config). c.iv) meaning.config)

  pub mark_after : q.mark ≡ p.mark
  mark_after =
      ap (λ (c : Config). c.mark) (after.config ∙ all_is) ∙ mark_stays (config_of records) changes are
      ∙ sym (ap (λ (c : Config). c.mark) meaning.config)

  abbrev pub early : Persist
  early = record p { replay = q.replay }

  current_is : p.iv.current ≡ (config_of (records ++ item ∷ [])).iv.current
  current_is = ap (λ (c : Config). c.iv.current) (meaning.config ∙ sym one_is)

  current_all : (config_of (records ++ item ∷ changes)).iv.current ≡ (config_of (records ++ item ∷ [])).iv.current
  current_all = sym (ap (λ (c : Config). c.iv.current) after.config) ∙ ap (λ (s : IvState). s.current) iv_after ∙ current_is

  pub early_means : IsMeaningOf (records ++ item ∷ []) early
  early_means = record {
    config = meaning.config ∙ sym one_is;
    entries = λ src.
        ap (λ (s : IvState). unexpired s.current (pair_of q.replay src)) (sym iv_after) ∙ after.entries src
        ∙ ap (λ n. unexpired n (kept_of (records ++ item ∷ changes) src)) current_all
        ∙ ap (unexpired (config_of (records ++ item ∷ [])).iv.current) (kept_is src);
    apart = after.apart;
  }
