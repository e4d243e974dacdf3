-- The index of each network key that records in range say has 12 bits.
use Rattle.std.proofs.Common.{◌≡◌, ℕ, ◌≤◌, Bool, true, false, cond, List, [], ◌∷◌, ap, sym, subst, arith, Option, Some, None, zero, suc}
use Rattle.std.specs.Prelude.{◌==◌, nat_lt, All, fold, not, slice_get}
use Rattle.std.proofs.lemmas.List.Elements.{All-append, All-cons, All-filter, All-head, All-tail}
use Rattle.event_records.specs.Indexes.{HasIndexWidth}
use Rattle.layer_definitions.specs.Beacon.{BeaconSource, ReadsBeacon}
use Rattle.layer_definitions.specs.KeyRefresh.{beacon_keys, keys_of, net_index}
use Rattle.layer_definitions.specs.Order.{put_by}
use Rattle.mesh_base.specs.declared.beacon.Beacon.{Beacon}
use Rattle.mesh_base.specs.declared.keys.NetKeyRow.{NetKeyRow}
use Rattle.node_records.specs.Meaning.{IsSaid}
use Rattle.node_records.specs.declared.persist.Persist.{Persist}
use Rattle.record_types.specs.declared.records.StoreRecord.{StoreRecord}
use Rattle.record_types.specs.declared.records.StoreRecord.TheVariants as R
use Rattle.store_definitions.specs.Config.{Config, change_net, changed, finished_net, nets_after, no_config}
use Rattle.store_definitions.specs.Ranges.{IsInRange}

abbrev AreWide : List NetKeyRow → Type 0
AreWide rows = All HasIndexWidth rows

none_wide : AreWide []
none_wide = λ k d h. absurd (omega (arith, h))

-- either of two lists
chosen : (b : Bool) (xs ys : List NetKeyRow) → AreWide xs → AreWide ys → AreWide (cond b xs ys)
chosen true xs ys h k = h
chosen false xs ys h k = k

put_wide : (r : NetKeyRow) (rows : List NetKeyRow) → HasIndexWidth r → AreWide rows → AreWide (put_by net_index r rows)
put_wide r [] w h = All-cons HasIndexWidth r [] w none_wide
put_wide r (x ∷ xs) w h =
    let first = All-head HasIndexWidth x xs h in
    let rest = All-tail HasIndexWidth x xs h in
    chosen (nat_lt r.index x.index) (r ∷ x ∷ xs) (cond (r.index == x.index) (r ∷ xs) (x ∷ put_by net_index r xs))
    (All-cons HasIndexWidth r (x ∷ xs) w h)
    (chosen (r.index == x.index) (r ∷ xs) (x ∷ put_by net_index r xs) (All-cons HasIndexWidth r xs w rest)
    (All-cons HasIndexWidth x (put_by net_index r xs) first (put_wide r xs w rest)))

one_wide : (b : Bool) (r s : NetKeyRow) → HasIndexWidth r → HasIndexWidth s → HasIndexWidth (cond b r s)
one_wide true r s h k = h
one_wide false r s h k = k

change_wide : (index : ℕ) (f : NetKeyRow → NetKeyRow) → ((r : NetKeyRow) → HasIndexWidth r → HasIndexWidth (f r)) → (rows : List NetKeyRow) → AreWide rows
    → AreWide (change_net index f rows)
change_wide index f keeps [] h = none_wide
change_wide index f keeps (x ∷ xs) h =
    let first = All-head HasIndexWidth x xs h in
    All-cons HasIndexWidth (cond (x.index == index) (f x) x) (change_net index f xs) (one_wide (x.index == index) (f x) x (keeps x first) first)
    (change_wide index f keeps xs (All-tail HasIndexWidth x xs h))

nets_wide : (op index : ℕ) (key : List ℕ) (nets : List NetKeyRow) → index ≤ 0xfff → AreWide nets → AreWide (nets_after op index key nets)
nets_wide op index key nets w h =
    chosen (op == 1) _ _ (put_wide (record { index = index; phase = 0; key = key; next = None }) nets w h)
    (chosen (op == 2) _ _ (change_wide index (λ r. record r { phase = 1; next = Some key }) (λ r k. k) nets h)
    (chosen (op == 3) _ _ (change_wide index (λ r. record r { phase = 2 }) (λ r k. k) nets h)
    (chosen (op == 4) _ _ (change_wide index finished_net (λ r k. k) nets h)
    (chosen (op == 5) _ _ (All-filter (λ (r : NetKeyRow). not (r.index == index)) HasIndexWidth nets h) h))))

wide_more : (c : Config) (item : StoreRecord) → IsInRange item → AreWide c.nets → AreWide (changed c item).nets
unfolding changed
wide_more c (R.Identity unicast elements dev_key) r h = h
wide_more c (R.Numbers current progress mark hours since) r h = h
wide_more c (R.Hour hours since) r h = h
wide_more c (R.Replay first second) r h = h
wide_more c (R.NetKey op index key) r h = nets_wide op index key c.nets r.2 h
wide_more c (R.AppKey op net index key) r h = h
wide_more c (R.Bind op element model app) r h = h
wide_more c (R.Subscribe op element model address) r h = h
wide_more c (R.Feature which value) r h = h
wide_more c R.Reset r h = h
wide_more c (R.Model element model value) r h = h
wide_more c (R.Label op element model label) r h = h
wide_more c (R.Publish row) r h = h

wide_all : (c : Config) (records : List StoreRecord) → All IsInRange records → AreWide c.nets → AreWide (fold changed c records).nets
wide_all c [] r h = h
wide_all c (item ∷ records) r h =
    wide_all (changed c item) records (All-tail IsInRange item records r) (wide_more c item (All-head IsInRange item records r) h)

pub wide_in : (p : Persist) → IsSaid p → All HasIndexWidth p.nets
wide_in p said = subst (λ (c : Config). AreWide c.nets) (sym said.meaning.config) (wide_all no_config said.records said.ranges none_wide)

-- The keys of these rows, and the beacon that one of them reads.

abbrev IsSourceWide : BeaconSource → Type 0
IsSourceWide k = k.index ≤ 0xfff

source_wide : (index : ℕ) (key : List ℕ) (next : Option (List ℕ)) → index ≤ 0xfff
    → All IsSourceWide (keys_of (λ fresh key. record { index = index; fresh = fresh; key = key }) key next)
source_wide index key None w = All-cons IsSourceWide (record { index = index; fresh = false; key = key }) [] w (λ k d h. absurd (omega (arith, h)))
source_wide index key (Some new) w =
    All-cons IsSourceWide (record { index = index; fresh = false; key = key }) (record { index = index; fresh = true; key = new } ∷ []) w
    (All-cons IsSourceWide (record { index = index; fresh = true; key = new }) [] w (λ k d h. absurd (omega (arith, h))))

sources_wide : (rows : List NetKeyRow) → AreWide rows → All IsSourceWide (beacon_keys rows)
sources_wide [] h = λ k d e. absurd (omega (arith, e))
sources_wide (r ∷ rows) h =
    All-append IsSourceWide (keys_of (λ fresh key. record { index = r.index; fresh = fresh; key = key }) r.key r.next) (beacon_keys rows)
    (source_wide r.index r.key r.next (All-head HasIndexWidth r rows h)) (sources_wide rows (All-tail HasIndexWidth r rows h))

source_at : (ks : List BeaconSource) (place : ℕ) (by : BeaconSource) → All IsSourceWide ks → slice_get ks place ≡ Some by → by.index ≤ 0xfff
source_at [] place by h e = cc
source_at (k ∷ ks) zero by h e =
    let same : k ≡ by = cc in
    subst IsSourceWide same (All-head IsSourceWide k ks h)
source_at (k ∷ ks) (suc place) by h e = source_at ks place by (All-tail IsSourceWide k ks h) e

pub read_wide : (p : Persist) (octets : List ℕ) (b : Beacon) → IsSaid p → ReadsBeacon (beacon_keys p.nets) octets b → b.index ≤ 0xfff
read_wide p octets b said reads =
    let by = source_at (beacon_keys p.nets) reads.place reads.by (sources_wide p.nets (wide_in p said)) reads.by_is in
    let same : b.index ≡ reads.by.index = ap (λ (c : Beacon). c.index) reads.beacon in
    omega (arith, by, same)
