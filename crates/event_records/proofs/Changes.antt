-- What the store asks of changes is a matter of what the records say but for the replay list, and none of them is a Numbers record.
use Rattle.std.proofs.Common.{◌≡◌, ◌<◌, List, [], ◌∷◌, ◌++◌, length, ap, sym, subst, ◌∙◌}
use Rattle.std.specs.Bool.{⊤}
use Rattle.std.specs.List.{AllByRecursion as Every}
use Rattle.std.proofs.lemmas.List.Elements.{recursion_from_All}
use Rattle.std.specs.Prelude.{All, None}
use Rattle.event_records.specs.Putting.{AreMoves, ArePuttable, IsMove}
use Rattle.layer_definitions.specs.Order.{put_by}
use Rattle.store_definitions.proofs.Pushes.{config_push}
use Rattle.node_records.specs.Full.{IsFull}
use Rattle.node_records.specs.Tables.{config_in}
use Rattle.node_records.specs.declared.persist.Persist.{Persist}
use Rattle.node_store.specs.Tie.{IsNotBelow}
use Rattle.mesh_base.specs.declared.pair.Name.{Name}
use Rattle.record_types.specs.declared.records.StoreRecord.{StoreRecord}
use Rattle.record_types.specs.declared.records.StoreRecord.TheVariants as R
use Rattle.event_definitions.specs.Fit.{AreStorable}
use Rattle.event_definitions.specs.Safe.{IsChange}
use Rattle.store_definitions.specs.Config.{Config, apps_after, binds_after, changed, config_of, labels_after, nets_after, publication_index, subs_after}
use Rattle.store_definitions.specs.Following.{PassesLimit}
use Rattle.store_definitions.specs.Ranges.{IsInRange}

not_below : (p : Persist) (item : StoreRecord) → IsChange item → IsNotBelow p item
not_below p (R.Numbers current progress mark hours since) k = absurd k
not_below p _ k = tt

-- a table that has no place for a change is full
full_limit : (before : List StoreRecord) (p : Persist) (item : StoreRecord) → config_in p ≡ config_of before → IsChange item → IsFull p item → PassesLimit before item
full_limit before p (R.NetKey op index key) e k full = subst (λ (c : Config). 4 < length (nets_after op index key c.nets)) e full
full_limit before p (R.AppKey op net index key) e k full = subst (λ (c : Config). 8 < length (apps_after op net index key c.apps)) e full
full_limit before p (R.Bind op element model app) e k full = subst (λ (c : Config). 32 < length (binds_after op element model app c.binds)) e full
full_limit before p (R.Subscribe op element model address) e k full = subst (λ (c : Config). 32 < length (subs_after op element model address c.subs)) e full
full_limit before p (R.Label op element model label) e k full = subst (λ (c : Config). 32 < length (labels_after op element model label c.labels)) e full
full_limit before p (R.Publish row) e k full = subst (λ (c : Config). 8 < length (put_by publication_index row c.publications)) e full
full_limit before p (R.Replay first second) e k full = absurd k
full_limit before p _ e k full = absurd full

each_may : (before changes : List StoreRecord) (p : Persist) → config_in p ≡ config_of before → Every IsChange changes → AreStorable before changes → ArePuttable p changes
each_may before [] p e k s = tt
each_may before (item ∷ changes) p e k s = (
  s.0,
  not_below p item k.0,
  (λ full. s.1.within (full_limit before p item e k.0 full)),
  (λ q f. each_may (before ++ item ∷ []) changes q (f ∙ ap (λ (c : Config). changed c item) e ∙ sym (config_push before item)) k.1 s.3),
)

pub changes_may : (before changes : List StoreRecord) (p : Persist) → config_in p ≡ config_of before → All IsChange changes → AreStorable before changes → ArePuttable p changes
changes_may before changes p e k s = each_may before changes p e (recursion_from_All IsChange changes k) s

is_move : (c : Config) (item : StoreRecord) → IsChange item → IsMove c item
is_move c (R.Numbers current progress mark hours since) k = absurd k
is_move c _ k = tt

each_moves : (c : Config) (changes : List StoreRecord) → Every IsChange changes → AreMoves c changes
each_moves c [] k = tt
each_moves c (item ∷ changes) k = (is_move c item k.0, each_moves (changed c item) changes k.1)

pub changes_move : (c : Config) (changes : List StoreRecord) → All IsChange changes → AreMoves c changes
changes_move c changes k = each_moves c changes (recursion_from_All IsChange changes k)

-- The name of a message before what it asks for.

pub named_may : (p : Persist) (name : Name) (changes : List StoreRecord) → IsInRange (R.Replay name None) → (IsFull p (R.Replay name None) → ⊥)
    → ((q : Persist) → config_in q ≡ config_in p → ArePuttable q changes) → ArePuttable p (R.Replay name None ∷ changes)
unfolding changed
named_may p name changes range place may = (range, tt, place, may)

pub named_moves : (c : Config) (name : Name) (changes : List StoreRecord) → AreMoves c changes → AreMoves c (R.Replay name None ∷ changes)
unfolding changed
named_moves c name changes moves = (tt, moves)
