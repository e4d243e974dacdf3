-- The tables of keys and of publications stand by their numbers, no two rows by one.
use Rattle.std.proofs.Common.{◌≡◌, ℕ, suc, ◌≤◌, Bool, true, false, List, [], ◌∷◌, map, filter, refl, sym, subst, arith}
use Rattle.std.specs.Prelude.{◌==◌, nat_lt, if◌then◌else◌, fold}
use Rattle.std.proofs.lemmas.Bool.Decides.{nat_tests}
use Rattle.layer_definitions.specs.KeyRefresh.{net_index, app_index}
use Rattle.layer_definitions.specs.Order.{put_by, IsByIndex, IsByIndexFrom}
use Rattle.mesh_base.specs.declared.keys.NetKeyRow.{NetKeyRow}
use Rattle.mesh_base.specs.declared.keys.AppKeyRow.{AppKeyRow}
use Rattle.record_types.specs.declared.records.StoreRecord.{StoreRecord}
use Rattle.record_types.specs.declared.records.StoreRecord.TheVariants as R
use Rattle.store_definitions.specs.Config.{Config, config_of, no_config, changed, nets_after, apps_after, apps_after_net, publication_index}

-- each row's number is at least this one, and above those of the rows before it
abbrev pub RisesFrom : {A : Type 0} → (A → ℕ) → ℕ → List A → Type 0
RisesFrom key n [] = Unit {0}
RisesFrom key n (r ∷ rows) = (n ≤ key r) × RisesFrom key (suc (key r)) rows

abbrev pub Rises : {A : Type 0} → (A → ℕ) → List A → Type 0
Rises key rows = RisesFrom key 0 rows

module _ {A : Type 0} (key : A → ℕ) where
  pub rises_lower : (m n : ℕ) (rows : List A) → m ≤ n → RisesFrom key n rows → RisesFrom key m rows
  rises_lower m n [] le h = tt
  rises_lower m n (r ∷ rows) le h = (omega (arith, h.0), h.1)

  rises_put : (n : ℕ) (r : A) (rows : List A) → n ≤ key r → RisesFrom key n rows → RisesFrom key n (put_by key r rows)
  rises_put n r [] le h = (le, tt)
  rises_put n r (x ∷ rows) le h = by_tests (nat_lt (key r) (key x)) (key r == key x) refl refl (λ k. rises_put (suc (key x)) r rows k h.1)
    where
      by_tests : (b c : Bool) → nat_lt (key r) (key x) ≡ b → key r == key x ≡ c → (suc (key x) ≤ key r → RisesFrom key (suc (key x)) (put_by key r rows))
          → RisesFrom key n (if b then r ∷ x ∷ rows else if c then r ∷ rows else x ∷ put_by key r rows)
      by_tests true c e f k = (le, (grind (arith, nat_tests), h.1))
      by_tests false true e f k = (le, let same : key x ≡ key r = grind (arith, nat_tests) in subst (λ m. RisesFrom key (suc m) rows) same h.1)
      by_tests false false e f k = (h.0, k (grind (arith, nat_tests)))

  rises_filter : (t : A → Bool) (n : ℕ) (rows : List A) → RisesFrom key n rows → RisesFrom key n (filter t rows)
  rises_filter t n [] h = tt
  rises_filter t n (r ∷ rows) h = by_test (t r) (rises_filter t (suc (key r)) rows h.1)
    where
      by_test : (b : Bool) → RisesFrom key (suc (key r)) (filter t rows) → RisesFrom key n (if b then r ∷ filter t rows else filter t rows)
      by_test true k = (h.0, k)
      by_test false k = rises_lower n (suc (key r)) (filter t rows) (omega (arith, h.0)) k

  rises_map : (f : A → A) → ((r : A) → key (f r) ≡ key r) → (n : ℕ) (rows : List A) → RisesFrom key n rows → RisesFrom key n (map f rows)
  rises_map f same n [] h = tt
  rises_map f same n (r ∷ rows) h =
      (subst (λ m. n ≤ m) (sym (same r)) h.0, subst (λ m. RisesFrom key (suc m) (map f rows)) (sym (same r)) (rises_map f same (suc (key r)) rows h.1))

  rises_if : (b : Bool) (xs ys : List A) → Rises key xs → Rises key ys → Rises key (if b then xs else ys)
  rises_if true xs ys h k = h
  rises_if false xs ys h k = k

  by_index : (n m : ℕ) (rows : List A) → m ≤ n → RisesFrom key n rows → IsByIndexFrom key m rows
  unfolding IsByIndexFrom
  by_index n m [] le h = tt
  by_index n m (r ∷ rows) le h = (omega (arith, h.0), by_index (suc (key r)) (key r) rows (omega arith) h.1)

  pub rises_by_index : (rows : List A) → Rises key rows → IsByIndex key rows
  rises_by_index rows h = by_index 0 0 rows (omega arith) h

-- changes in their places keep the numbers
if_index : (b : Bool) (r s : NetKeyRow) → s.index ≡ r.index → net_index (if b then s else r) ≡ net_index r
if_index true r s e = e
if_index false r s e = refl

if_app : (b : Bool) (r s : AppKeyRow) → s.index ≡ r.index → app_index (if b then s else r) ≡ app_index r
if_app true r s e = e
if_app false r s e = refl

pub nets_rise : (op index : ℕ) (key : List ℕ) (nets : List NetKeyRow) → Rises net_index nets → Rises net_index (nets_after op index key nets)
nets_rise op index key nets h =
    rises_if net_index (op == 1) _ _ (rises_put net_index 0 _ nets (omega arith) h)
    (rises_if net_index (op == 2) _ _ (rises_map net_index _ (λ r. if_index (r.index == index) r _ refl) 0 nets h)
    (rises_if net_index (op == 3) _ _ (rises_map net_index _ (λ r. if_index (r.index == index) r _ refl) 0 nets h)
    (rises_if net_index (op == 4) _ _ (rises_map net_index _ (λ r. if_index (r.index == index) r _ refl) 0 nets h)
    (rises_if net_index (op == 5) _ _ (rises_filter net_index _ 0 nets h) h))))

pub apps_rise_net : (op index : ℕ) (apps : List AppKeyRow) → Rises app_index apps → Rises app_index (apps_after_net op index apps)
apps_rise_net op index apps h =
    rises_if app_index (op == 4) _ _ (rises_map app_index _ (λ r. if_app (r.net == index) r _ refl) 0 apps h)
    (rises_if app_index (op == 5) _ _ (rises_filter app_index _ 0 apps h) h)

pub apps_rise : (op net index : ℕ) (key : List ℕ) (apps : List AppKeyRow) → Rises app_index apps → Rises app_index (apps_after op net index key apps)
apps_rise op net index key apps h =
    rises_if app_index (op == 1) _ _ (rises_put app_index 0 _ apps (omega arith) h)
    (rises_if app_index (op == 2) _ _ (rises_map app_index _ (λ r. if_app (r.index == index) r _ refl) 0 apps h)
    (rises_if app_index (op == 3) _ _ (rises_filter app_index _ 0 apps h) h))

pub record AreKeyed (c : Config) : Type 0 where
  pub nets : Rises net_index c.nets
  pub apps : Rises app_index c.apps
  pub publications : Rises publication_index c.publications

same_tables : (c d : Config) → c.nets ≡ d.nets → c.apps ≡ d.apps → c.publications ≡ d.publications → AreKeyed c → AreKeyed d
same_tables c d e f g k = record { nets = subst (Rises net_index) e k.nets; apps = subst (Rises app_index) f k.apps; publications = subst (Rises publication_index) g k.publications }

keyed_more : (c : Config) (item : StoreRecord) → AreKeyed c → AreKeyed (changed c item)
unfolding changed
keyed_more c (R.NetKey op index key) k = record {
  nets = nets_rise op index key c.nets k.nets;
  apps = apps_rise_net op index c.apps k.apps;
  publications = rises_if publication_index (op == 5) _ _ (rises_filter publication_index _ 0 c.publications k.publications) k.publications;
}
keyed_more c (R.AppKey op net index key) k = record {
  nets = k.nets;
  apps = apps_rise op net index key c.apps k.apps;
  publications = rises_if publication_index (op == 3) _ _ (rises_filter publication_index _ 0 c.publications k.publications) k.publications;
}
keyed_more c (R.Publish row) k = record {
  nets = k.nets;
  apps = k.apps;
  publications = rises_put publication_index 0 row c.publications (omega arith) k.publications;
}
keyed_more c (R.Identity unicast elements dev_key) k = same_tables c _ refl refl refl k
keyed_more c (R.Numbers current progress mark hours since) k = same_tables c _ refl refl refl k
keyed_more c (R.Hour hours since) k = same_tables c _ refl refl refl k
keyed_more c (R.Replay first second) k = k
keyed_more c (R.Bind op element model app) k = same_tables c _ refl refl refl k
keyed_more c (R.Subscribe op element model address) k = same_tables c _ refl refl refl k
keyed_more c (R.Feature which value) k = same_tables c _ refl refl refl k
keyed_more c R.Reset k = same_tables c _ refl refl refl k
keyed_more c (R.Model element model value) k = same_tables c _ refl refl refl k
keyed_more c (R.Label op element model label) k = same_tables c _ refl refl refl k

keyed_all : (c : Config) (records : List StoreRecord) → AreKeyed c → AreKeyed (fold changed c records)
keyed_all c [] k = k
keyed_all c (item ∷ records) k = keyed_all (changed c item) records (keyed_more c item k)

pub keyed_of : (records : List StoreRecord) → AreKeyed (config_of records)
keyed_of records = keyed_all no_config records (record { nets = tt; apps = tt; publications = tt })
