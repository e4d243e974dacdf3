-- A record that keeps a node whole.
use Rattle.std.proofs.Common.{◌≡◌, ◌≢◌, ℕ, zero, suc, ◌+◌, ◌≤◌, ◌<◌, ◌^◌, Bool, true, false, not, ◌||◌, ◌&&◌, cond, eqb, ltb, leb, eq-eqb, List, [], ◌∷◌, map, filter, refl, ap, sym, subst, ◌∙◌, arith, Option, Some, None}
use Rattle.std.specs.List.{AllByRecursion, find, list_any}
use Rattle.std.specs.Option.{is_some, unwrap_or}
use Rattle.std.specs.Prelude.{All}
use Rattle.std.proofs.lemmas.Bool.Decides.{nat_tests}
use Rattle.std.proofs.lemmas.List.Elements.{All-from_recursion, recursion_from_All}
use Rattle.layer_definitions.specs.KeyRefresh.{app_index, net_index, net_row}
use Rattle.layer_definitions.specs.Order.{put_by}
use Rattle.mesh_base.specs.IvState.{HasTransmit, transmit_of}
use Rattle.mesh_base.specs.declared.keys.AppKeyRow.{AppKeyRow}
use Rattle.mesh_base.specs.declared.keys.NetKeyRow.{NetKeyRow}
use Rattle.record_types.specs.declared.records.StoreRecord.{StoreRecord}
use Rattle.record_types.specs.declared.records.StoreRecord.TheVariants as R
use Rattle.store_definitions.specs.Config.{Config, apps_after, apps_after_net, change_net, changed, finished_app, finished_net, nets_after, updated_app}
use Rattle.store_definitions.specs.Node.{HasNext, IsPhased, IsWhole, KeepsWhole, has_other_net, is_held}
use Rattle.store_definitions.specs.Ranges.{IsInRange, IsMark}

-- Facts of all rows of a table, after what records do to it.

put_all : {A : Type 0} (P : A → Type 0) (index : A → ℕ) (r : A) (xs : List A) → P r → AllByRecursion P xs → AllByRecursion P (put_by index r xs)
put_all P index r [] p h = (p, tt)
put_all P index r (x ∷ xs) p h = pick (ltb (index r) (index x)) (eqb (index r) (index x)) (put_all P index r xs p h.1)
  where
    pick : (a b : Bool) → AllByRecursion P (put_by index r xs) → AllByRecursion P (cond a (r ∷ x ∷ xs) (cond b (r ∷ xs) (x ∷ put_by index r xs)))
    pick true b k = (p, h)
    pick false true k = (p, h.1)
    pick false false k = (h.0, k)

map_all : {A : Type 0} (P Q : A → Type 0) (f : A → A) → ((x : A) → P x → Q (f x)) → (xs : List A) → AllByRecursion P xs → AllByRecursion Q (map f xs)
map_all P Q f step [] h = tt
map_all P Q f step (x ∷ xs) h = (step x h.0, map_all P Q f step xs h.1)

both_all : {A : Type 0} (P Q : A → Type 0) (xs : List A) → AllByRecursion P xs → AllByRecursion Q xs → AllByRecursion (λ x. P x × Q x) xs
both_all P Q [] h k = tt
both_all P Q (x ∷ xs) h k = ((h.0, k.0), both_all P Q xs h.1 k.1)

filter_all : {A : Type 0} (P : A → Type 0) (keep : A → Bool) (xs : List A) → AllByRecursion P xs → AllByRecursion P (filter keep xs)
filter_all P keep [] h = tt
filter_all P keep (x ∷ xs) h = pick (keep x) (filter_all P keep xs h.1)
  where
    pick : (b : Bool) → AllByRecursion P (filter keep xs) → AllByRecursion P (cond b (x ∷ filter keep xs) (filter keep xs))
    pick true k = (h.0, k)
    pick false k = k

-- what is kept passes the test, too
filter_more : {A : Type 0} (P Q : A → Type 0) (keep : A → Bool) → ((x : A) → keep x ≡ true → P x → Q x) → (xs : List A) → AllByRecursion P xs → AllByRecursion Q (filter keep xs)
filter_more P Q keep step [] h = tt
filter_more P Q keep step (x ∷ xs) h = pick (keep x) refl (filter_more P Q keep step xs h.1)
  where
    pick : (b : Bool) → keep x ≡ b → AllByRecursion Q (filter keep xs) → AllByRecursion Q (cond b (x ∷ filter keep xs) (filter keep xs))
    pick true e k = (step x e h.0, k)
    pick false e k = k

-- Which network keys are held.

held_cons : (r : NetKeyRow) (rs : List NetKeyRow) (n : ℕ) → is_held (r ∷ rs) n ≡ eqb r.index n || is_held rs n
held_cons r rs n = pick (eqb r.index n)
  where
    pick : (b : Bool) → is_some (cond b (Some r) (find (λ (x : NetKeyRow). eqb x.index n) rs)) ≡ b || is_some (find (λ (x : NetKeyRow). eqb x.index n) rs)
    pick true = refl
    pick false = refl

or_true : (b : Bool) → b || true ≡ true
or_true true = refl
or_true false = refl

or_right : (a b c : Bool) → (b ≡ true → c ≡ true) → a || b ≡ true → a || c ≡ true
or_right true b c h e = refl
or_right false b c h e = h e

held_put : (r : NetKeyRow) (rs : List NetKeyRow) (n : ℕ) → is_held rs n ≡ true → is_held (put_by net_index r rs) n ≡ true
held_put r [] n h = absurd cc
held_put r (x ∷ xs) n h =
    pick (ltb r.index x.index) (eqb r.index x.index) refl (λ k. held_put r xs n k)
  where
    pick : (a b : Bool) → eqb r.index x.index ≡ b → (is_held xs n ≡ true → is_held (put_by net_index r xs) n ≡ true)
        → is_held (cond a (r ∷ x ∷ xs) (cond b (r ∷ xs) (x ∷ put_by net_index r xs))) n ≡ true
    pick true b e k = rw held_cons (rw h (or_true (eqb r.index n)))
    pick false true e k =
        let same : r.index ≡ x.index = grind (arith, nat_tests) in
        rw (held_cons, same, ← held_cons x xs n) h
    pick false false e k = rw held_cons (or_right (eqb x.index n) (is_held xs n) _ k (sym (held_cons x xs n) ∙ h))

held_map : (f : NetKeyRow → NetKeyRow) → ((r : NetKeyRow) → (f r).index ≡ r.index) → (rs : List NetKeyRow) (n : ℕ) → is_held (map f rs) n ≡ is_held rs n
held_map f same [] n = refl
held_map f same (r ∷ rs) n = rw (held_cons, held_cons r rs n, same, held_map f same rs n) refl

held_filter : (index : ℕ) (rs : List NetKeyRow) (n : ℕ) → not (eqb n index) ≡ true → is_held (filter (λ r. not (eqb r.index index)) rs) n ≡ is_held rs n
held_filter index [] n h = refl
held_filter index (r ∷ rs) n h = pick (eqb r.index index) refl (held_filter index rs n h)
  where
    pick : (b : Bool) → eqb r.index index ≡ b → is_held (filter (λ (x : NetKeyRow). not (eqb x.index index)) rs) n ≡ is_held rs n
        → is_held (cond (not b) (r ∷ filter (λ (x : NetKeyRow). not (eqb x.index index)) rs) (filter (λ (x : NetKeyRow). not (eqb x.index index)) rs)) n ≡ is_held (r ∷ rs) n
    pick true e k =
        let other : eqb r.index n ≡ false = grind (arith, nat_tests) in
        rw (held_cons, other) k
    pick false e k = rw (held_cons, held_cons r rs n, k) refl

-- the rows of a change in their places keep their indexes
change_index : (index : ℕ) (change : NetKeyRow → NetKeyRow) → ((r : NetKeyRow) → (change r).index ≡ r.index) → (r : NetKeyRow) → (cond (eqb r.index index) (change r) r).index ≡ r.index
change_index index change same r = pick (eqb r.index index)
  where
    pick : (b : Bool) → (cond b (change r) r).index ≡ r.index
    pick true = same r
    pick false = refl

abbrev Bound : List NetKeyRow → AppKeyRow → Type 0
Bound nets a = is_held nets a.net ≡ true

bound_by : (old new : List NetKeyRow) → ((n : ℕ) → is_held old n ≡ true → is_held new n ≡ true) → (apps : List AppKeyRow) → AllByRecursion (Bound old) apps → AllByRecursion (Bound new) apps
bound_by old new h [] k = tt
bound_by old new h (a ∷ rest) k = (h a.net k.0, bound_by old new h rest k.1)

-- Network keys.

pub record Nets (nets : List NetKeyRow) (apps : List AppKeyRow) : Type 0 where
  pub some : nets ≢ []
  pub phased : AllByRecursion IsPhased nets
  pub bound : AllByRecursion (Bound nets) apps

some_put : (r : NetKeyRow) (rs : List NetKeyRow) → put_by net_index r rs ≢ []
some_put r [] = λ e. cc
some_put r (x ∷ xs) = pick (ltb r.index x.index) (eqb r.index x.index)
  where
    pick : (a b : Bool) → cond a (r ∷ x ∷ xs) (cond b (r ∷ xs) (x ∷ put_by net_index r xs)) ≢ []
    pick true b = λ e. cc
    pick false true = λ e. cc
    pick false false = λ e. cc

some_map : (f : NetKeyRow → NetKeyRow) (rs : List NetKeyRow) → rs ≢ [] → map f rs ≢ []
some_map f [] h = h
some_map f (r ∷ rs) h = λ e. cc

some_filter : (index : ℕ) (rs : List NetKeyRow) → has_other_net rs index ≡ true → filter (λ r. not (eqb r.index index)) rs ≢ []
some_filter index [] h = absurd cc
some_filter index (r ∷ rs) h = pick (λ k. some_filter index rs k) (not (eqb r.index index)) refl
  where
    pick : (has_other_net rs index ≡ true → filter (λ (x : NetKeyRow). not (eqb x.index index)) rs ≢ []) → (b : Bool) → not (eqb r.index index) ≡ b → cond b (r ∷ filter (λ (x : NetKeyRow). not (eqb x.index index)) rs) (filter (λ (x : NetKeyRow). not (eqb x.index index)) rs) ≢ []
    pick more true e = λ f. cc
    pick more false e = more (subst (λ b. b || has_other_net rs index ≡ true) e h)

phased_pick : (b : Bool) (r s : NetKeyRow) → IsPhased r → (b ≡ true → IsPhased s) → IsPhased (cond b s r)
phased_pick true r s h k = k refl
phased_pick false r s h k = h

-- a change in their places
nets_changed : (index : ℕ) (change : NetKeyRow → NetKeyRow) (nets : List NetKeyRow) (apps : List AppKeyRow)
    → ((r : NetKeyRow) → (change r).index ≡ r.index) → AllByRecursion (λ r. r.index ≡ index → IsPhased (change r)) nets → Nets nets apps → Nets (change_net index change nets) apps
nets_changed index change nets apps same h n = record {
  some = some_map _ nets n.some;
  phased = map_all (λ (r : NetKeyRow). IsPhased r × (r.index ≡ index → IsPhased (change r))) IsPhased _
      (λ r k. phased_pick (eqb r.index index) r (change r) k.0 (λ e. k.1 (grind (arith, nat_tests))))
      nets (both_all IsPhased (λ (r : NetKeyRow). r.index ≡ index → IsPhased (change r)) nets n.phased h);
  bound = bound_by nets _ (λ m e. held_map _ (change_index index change same) nets m ∙ e) apps n.bound;
}

all_any : {A : Type 0} (P : A → Type 0) (h : (x : A) → P x) (xs : List A) → AllByRecursion P xs
all_any P h [] = tt
all_any P h (x ∷ xs) = (h x, all_any P h xs)

all_with : {A : Type 0} (P Q : A → Type 0) (h : (x : A) → P x → Q x) (xs : List A) → AllByRecursion P xs → AllByRecursion Q xs
all_with P Q h [] k = tt
all_with P Q h (x ∷ xs) k = (h x k.0, all_with P Q h xs k.1)

finished_phased : (r : NetKeyRow) → IsPhased (finished_net r)
finished_phased r = record { phase = omega arith; next = refl }

finished_net_of : (index : ℕ) (a : AppKeyRow) → (finished_app index a).net ≡ a.net
finished_net_of index a = pick (eqb a.net index)
  where
    pick : (b : Bool) → (let x : AppKeyRow = cond b (record a { key = unwrap_or a.next a.key; next = None }) a in x.net) ≡ a.net
    pick true = refl
    pick false = refl

updated_net_of : (index : ℕ) (key : List ℕ) (a : AppKeyRow) → (updated_app index key a).net ≡ a.net
updated_net_of index key a = pick (eqb a.index index)
  where
    pick : (b : Bool) → (let x : AppKeyRow = cond b (record a { next = Some key }) a in x.net) ≡ a.net
    pick true = refl
    pick false = refl

bound_map : (nets : List NetKeyRow) (f : AppKeyRow → AppKeyRow) → ((a : AppKeyRow) → (f a).net ≡ a.net) → (apps : List AppKeyRow) → AllByRecursion (Bound nets) apps → AllByRecursion (Bound nets) (map f apps)
bound_map nets f same apps h = map_all (Bound nets) (Bound nets) f (λ a k. rw (same a) k) apps h

-- a key comes
nets_added : (r : NetKeyRow) (nets : List NetKeyRow) (apps : List AppKeyRow) → IsPhased r → Nets nets apps → Nets (put_by net_index r nets) apps
nets_added r nets apps p n = record {
  some = some_put r nets;
  phased = put_all IsPhased net_index r nets p n.phased;
  bound = bound_by nets _ (λ m e. held_put r nets m e) apps n.bound;
}

-- a key goes with its application keys
nets_deleted : (index : ℕ) (nets : List NetKeyRow) (apps : List AppKeyRow) → has_other_net nets index ≡ true → Nets nets apps
    → Nets (filter (λ r. not (eqb r.index index)) nets) (filter (λ a. not (eqb a.net index)) apps)
nets_deleted index nets apps other n = record {
  some = some_filter index nets other;
  phased = filter_all IsPhased (λ (r : NetKeyRow). not (eqb r.index index)) nets n.phased;
  bound = filter_more (Bound nets) (Bound (filter (λ (r : NetKeyRow). not (eqb r.index index)) nets)) (λ (a : AppKeyRow). not (eqb a.net index))
      (λ a e k. held_filter index nets a.net e ∙ k) apps n.bound;
}

nets_apps : (nets : List NetKeyRow) (apps more : List AppKeyRow) → AllByRecursion (Bound nets) more → Nets nets apps → Nets nets more
nets_apps nets apps more h n = record { some = n.some; phased = n.phased; bound = h }

net_kept : (op index : ℕ) (key : List ℕ) (nets : List NetKeyRow) (apps : List AppKeyRow) → 1 ≤ op → op ≤ 5
    → (op ≡ 3 → AllByRecursion (HasNext index) nets) → (op ≡ 5 → has_other_net nets index ≡ true)
    → Nets nets apps → Nets (nets_after op index key nets) (apps_after_net op index apps)
net_kept zero index key nets apps l m h k n = absurd (omega (arith, l))
net_kept (suc zero) index key nets apps l m h k n =
    nets_added (record { index = index; phase = 0; key = key; next = None }) nets apps (record { phase = omega arith; next = refl }) n
net_kept (suc (suc zero)) index key nets apps l m h k n =
    nets_changed index (λ r. record r { phase = 1; next = Some key }) nets apps (λ r. refl)
    (all_any _ (λ r e. record { phase = omega arith; next = refl }) nets) n
net_kept (suc (suc (suc zero))) index key nets apps l m h k n =
    nets_changed index (λ r. record r { phase = 2 }) nets apps (λ r. refl)
    (all_with (HasNext index) _ (λ r f e. record { phase = omega arith; next = f e }) nets (h refl)) n
net_kept (suc (suc (suc (suc zero)))) index key nets apps l m h k n =
    let changed_nets : Nets (change_net index finished_net nets) apps =
    nets_changed index finished_net nets apps (λ r. refl) (all_any _ (λ r e. finished_phased r) nets) n in
    nets_apps _ apps _ (bound_map _ (finished_app index) (finished_net_of index) apps changed_nets.bound) changed_nets
net_kept (suc (suc (suc (suc (suc zero))))) index key nets apps l m h k n = nets_deleted index nets apps (k refl) n
net_kept (suc (suc (suc (suc (suc (suc op)))))) index key nets apps l m h k n = absurd (omega (arith, m))

app_kept : (op net index : ℕ) (key : List ℕ) (nets : List NetKeyRow) (apps : List AppKeyRow) → 1 ≤ op → op ≤ 3
    → (op ≡ 1 → is_held nets net ≡ true) → AllByRecursion (Bound nets) apps → AllByRecursion (Bound nets) (apps_after op net index key apps)
app_kept zero net index key nets apps l m h k = absurd (omega (arith, l))
app_kept (suc zero) net index key nets apps l m h k =
    put_all (Bound nets) app_index (record { net = net; index = index; key = key; next = None }) apps (h refl) k
app_kept (suc (suc zero)) net index key nets apps l m h k = bound_map nets (updated_app index key) (updated_net_of index key) apps k
app_kept (suc (suc (suc zero))) net index key nets apps l m h k = filter_all (Bound nets) (λ (a : AppKeyRow). not (eqb a.index index)) apps k
app_kept (suc (suc (suc (suc op)))) net index key nets apps l m h k = absurd (omega (arith, m))

-- The node.

nets_of : (c : Config) → IsWhole c → Nets c.nets c.apps
nets_of c w = record { some = w.nets; phased = recursion_from_All IsPhased c.nets w.phased; bound = recursion_from_All (Bound c.nets) c.apps w.bound }

-- a config with keys that belong together, an identity and numbers in range
whole_from : (d : Config) → Nets d.nets d.apps → 1 ≤ d.elements → d.elements ≤ 4 → 1 ≤ d.unicast.0 → d.unicast.0 + d.elements ≤ 2 ^ 15
    → d.iv.current < 2 ^ 32 → HasTransmit d.iv → IsMark d.iv d.mark → IsWhole d
whole_from d n some few unicast last current transmit mark = record {
  some = some;
  few = few;
  unicast = unicast;
  last = last;
  current = current;
  transmit = transmit;
  mark = mark;
  nets = n.some;
  phased = All-from_recursion IsPhased d.nets n.phased;
  bound = All-from_recursion (Bound d.nets) d.apps n.bound;
}

pub whole_kept : (c : Config) (item : StoreRecord) → IsInRange item → KeepsWhole c item → IsWhole c → IsWhole (changed c item)
unfolding changed transmit_of
whole_kept c (R.Identity unicast elements dev_key) r k w =
    whole_from _ (nets_of c w) r.0 r.1 r.2 r.3 w.current w.transmit w.mark
whole_kept c (R.Numbers current progress mark hours since) r k w =
    whole_from _ (nets_of c w) w.some w.few w.unicast w.last r.0 r.1 r.2
whole_kept c (R.Hour hours since) r k w =
    whole_from _ (nets_of c w) w.some w.few w.unicast w.last w.current w.transmit
    (record { seq = w.mark.seq; word = w.mark.word; most = w.mark.most; block = w.mark.block })
whole_kept c (R.NetKey op index key) r k w =
    whole_from _
    (net_kept op index key c.nets c.apps r.0 r.1 (λ e. recursion_from_All (HasNext index) c.nets (k.0 e)) k.1 (nets_of c w))
    w.some w.few w.unicast w.last w.current w.transmit w.mark
whole_kept c (R.AppKey op net index key) r k w =
    let n : Nets c.nets c.apps = nets_of c w in
    whole_from _ (nets_apps c.nets c.apps _ (app_kept op net index key c.nets c.apps r.0 r.1 k n.bound) n)
    w.some w.few w.unicast w.last w.current w.transmit w.mark
whole_kept c (R.Replay first second) r k w = w
whole_kept c (R.Bind op element model app) r k w = whole_from _ (nets_of c w) w.some w.few w.unicast w.last w.current w.transmit w.mark
whole_kept c (R.Subscribe op element model address) r k w = whole_from _ (nets_of c w) w.some w.few w.unicast w.last w.current w.transmit w.mark
whole_kept c (R.Feature which value) r k w = whole_from _ (nets_of c w) w.some w.few w.unicast w.last w.current w.transmit w.mark
whole_kept c R.Reset r k w = whole_from _ (nets_of c w) w.some w.few w.unicast w.last w.current w.transmit w.mark
whole_kept c (R.Model element model value) r k w = whole_from _ (nets_of c w) w.some w.few w.unicast w.last w.current w.transmit w.mark
whole_kept c (R.Label op element model label) r k w = whole_from _ (nets_of c w) w.some w.few w.unicast w.last w.current w.transmit w.mark
whole_kept c (R.Publish row) r k w = whole_from _ (nets_of c w) w.some w.few w.unicast w.last w.current w.transmit w.mark
