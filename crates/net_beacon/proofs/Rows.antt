-- The first key of a list that reads, by recursion on the list, and what a row put into rows by index changes of it.
use Rattle.std.proofs.Common.{◌≡◌, ℕ, zero, suc, ◌<◌, ◌≤◌, ◌⊎◌, inl, inr, Bool, true, false, nat_lt, List, [], ◌∷◌, ◌++◌, Option, Some, None, slice_get, refl, sym, ap, subst, arith, append-nil}
use Rattle.std.specs.Prelude.{⊤, if◌then◌else◌, IfSome, IsNone}
use Rattle.std.proofs.lemmas.Bool.Decides.{nat_tests}
use Rattle.std.specs.Option.{option_or}
use Rattle.mesh_base.specs.declared.beacon.Beacon.{Beacon}
use Rattle.mesh_base.specs.declared.keys.NetKeyRow.{NetKeyRow}
use Rattle.layer_definitions.specs.Beacon.{BeaconSource, ReadsBeacon, ReadsBeaconUnder, beacon_of}
use Rattle.layer_definitions.specs.KeyRefresh.{beacon_keys, keys_of, net_index}
use Rattle.layer_definitions.specs.Order.{put_row, IsByIndexFrom, IsByIndex}
use Rattle.net_beacon.specs.Reading.{IsAnswer, IsUnread}

-- this key reads the octets as this beacon
pub record ReadsBy (by : BeaconSource) (octets : List ℕ) (b : Beacon) : Type 0 where
  pub flags : ℕ
  pub reads : ReadsBeaconUnder by.key octets flags b.iv
  pub beacon : b ≡ beacon_of by flags b.iv

abbrev pub UnreadBy : BeaconSource → List ℕ → Type 0
UnreadBy by octets = (flags iv : ℕ) → ReadsBeaconUnder by.key octets flags iv → ⊥

abbrev pub Nothing : List BeaconSource → List ℕ → Type 0
Nothing [] octets = ⊤
Nothing (k ∷ ks) octets = UnreadBy k octets × Nothing ks octets

abbrev pub First : List BeaconSource → List ℕ → Beacon → Type 0
First [] octets b = ⊥
First (k ∷ ks) octets b = ReadsBy k octets b ⊎ (UnreadBy k octets × First ks octets b)

-- From places in the list to the recursion, and back.

pub nothing_of : (ks : List BeaconSource) (o : List ℕ) → IsUnread ks o → Nothing ks o
nothing_of [] o u = tt
nothing_of (k ∷ ks) o u = (λ f iv r. u zero k f iv refl r, nothing_of ks o (λ j by f iv e r. u (suc j) by f iv e r))

some_once : (a b : BeaconSource) → Some a ≡ Some b → a ≡ b
some_once a b e = cc

pub unread_of : (ks : List BeaconSource) (o : List ℕ) → Nothing ks o → IsUnread ks o
unread_of [] o n j by f iv e r = absurd (cc)
unread_of (k ∷ ks) o (u, n) zero by f iv e r = u f iv (subst (λ x. ReadsBeaconUnder x.key o f iv) (sym (some_once k by e)) r)
unread_of (k ∷ ks) o (u, n) (suc j) by f iv e r = unread_of ks o n j by f iv e r

-- no key before this place reads
abbrev Before : List BeaconSource → List ℕ → ℕ → Type 0
Before ks o place = (j : ℕ) (by : BeaconSource) (f iv : ℕ) → j < place → slice_get ks j ≡ Some by → ReadsBeaconUnder by.key o f iv → ⊥

first_at : (ks : List BeaconSource) (o : List ℕ) (b : Beacon) (place : ℕ) (by : BeaconSource) → slice_get ks place ≡ Some by → ReadsBy by o b → Before ks o place → First ks o b
first_at [] o b place by e r before = absurd (cc)
first_at (k ∷ ks) o b zero by e r before = inl (subst (λ x. ReadsBy x o b) (sym (some_once k by e)) r)
first_at (k ∷ ks) o b (suc place) by e r before =
    inr (λ f iv h. before zero k f iv (omega arith) refl h, first_at ks o b place by e r (λ j x f iv l g h. before (suc j) x f iv (omega arith) g h))

pub first_of_reading : (ks : List BeaconSource) (o : List ℕ) (b : Beacon) → ReadsBeacon ks o b → First ks o b
first_of_reading ks o b r = first_at ks o b r.place r.by r.by_is (record { flags = r.flags; reads = r.reads; beacon = r.beacon }) r.first

before_next : (k : BeaconSource) (ks : List BeaconSource) (o : List ℕ) (place : ℕ) → UnreadBy k o → Before ks o place → Before (k ∷ ks) o (suc place)
before_next k ks o place u before zero by f iv l e h = u f iv (subst (λ x. ReadsBeaconUnder x.key o f iv) (sym (some_once k by e)) h)
before_next k ks o place u before (suc j) by f iv l e h = before j by f iv (omega arith) e h

pub reading_of_first : (ks : List BeaconSource) (o : List ℕ) (b : Beacon) → First ks o b → ReadsBeacon ks o b
reading_of_first [] o b h = absurd h
reading_of_first (k ∷ ks) o b (inl r) =
    record { place = zero; by = k; by_is = refl; flags = r.flags; reads = r.reads; beacon = r.beacon; first = λ j by f iv l e h. absurd (omega arith) }
reading_of_first (k ∷ ks) o b (inr (u, h)) =
    let r = reading_of_first ks o b h in
    record { place = suc r.place; by = r.by; by_is = r.by_is; flags = r.flags; reads = r.reads; beacon = r.beacon; first = before_next k ks o r.place u r.first }

-- Two lists, one behind the other.

pub nothing_both : (ks ls : List BeaconSource) (o : List ℕ) → Nothing ks o → Nothing ls o → Nothing (ks ++ ls) o
nothing_both [] ls o n m = m
nothing_both (k ∷ ks) ls o (u, n) m = (u, nothing_both ks ls o n m)

nothing_back : (ks ls : List BeaconSource) (o : List ℕ) → Nothing (ks ++ ls) o → Nothing ks o × Nothing ls o
nothing_back [] ls o n = (tt, n)
nothing_back (k ∷ ks) ls o (u, n) = let parts = nothing_back ks ls o n in ((u, parts.0), parts.1)

first_front : (ks ls : List BeaconSource) (o : List ℕ) (b : Beacon) → First ks o b → First (ks ++ ls) o b
first_front [] ls o b h = absurd h
first_front (k ∷ ks) ls o b (inl r) = inl r
first_front (k ∷ ks) ls o b (inr (u, h)) = inr (u, first_front ks ls o b h)

first_back : (ks ls : List BeaconSource) (o : List ℕ) (b : Beacon) → Nothing ks o → First ls o b → First (ks ++ ls) o b
first_back [] ls o b n h = h
first_back (k ∷ ks) ls o b (u, n) h = inr (u, first_back ks ls o b n h)

abbrev Split : List BeaconSource → List BeaconSource → List ℕ → Beacon → Type 0
Split ks ls o b = First ks o b ⊎ (Nothing ks o × First ls o b)

split_behind : (k : BeaconSource) (ks ls : List BeaconSource) (o : List ℕ) (b : Beacon) → UnreadBy k o → Split ks ls o b → Split (k ∷ ks) ls o b
split_behind k ks ls o b u (inl h) = inl (inr (u, h))
split_behind k ks ls o b u (inr (n, h)) = inr ((u, n), h)

first_split : (ks ls : List BeaconSource) (o : List ℕ) (b : Beacon) → First (ks ++ ls) o b → Split ks ls o b
first_split [] ls o b h = inr (tt, h)
first_split (k ∷ ks) ls o b (inl r) = inl (inl r)
first_split (k ∷ ks) ls o b (inr (u, h)) = split_behind k ks ls o b u (first_split ks ls o b h)

-- The keys of one row.

abbrev pub row_keys : NetKeyRow → List BeaconSource
row_keys r = beacon_keys (r ∷ [])

around : (xs ys : List BeaconSource) → xs ++ ys ≡ (xs ++ []) ++ ys
around xs ys = ap (λ l. l ++ ys) (sym (append-nil xs))

one_row : (r : NetKeyRow) (rest : List NetKeyRow) → beacon_keys (r ∷ rest) ≡ row_keys r ++ beacon_keys rest
one_row r rest = around _ (beacon_keys rest)

keys_index : (i : ℕ) (key : List ℕ) (next : Option (List ℕ)) (o : List ℕ) (b : Beacon)
    → First (keys_of (λ fresh key. record { index = i; fresh = fresh; key = key }) key next ++ []) o b → b.index ≡ i
keys_index i key None o b (inl h) = ap (λ (x : Beacon). x.index) h.beacon
keys_index i key None o b (inr (u, h)) = absurd h
keys_index i key (Some next) o b (inl h) = ap (λ (x : Beacon). x.index) h.beacon
keys_index i key (Some next) o b (inr (u, inl h)) = ap (λ (x : Beacon). x.index) h.beacon
keys_index i key (Some next) o b (inr (u, inr (v, h))) = absurd h

row_index : (r : NetKeyRow) (o : List ℕ) (b : Beacon) → First (row_keys r) o b → b.index ≡ r.index
row_index r o b h = keys_index r.index r.key r.next o b h

-- What a row put in changes.

put_unread : (r : NetKeyRow) (s : List NetKeyRow) (o : List ℕ) (b : Beacon) → Nothing (row_keys r) o → First (beacon_keys s) o b → First (beacon_keys (put_row net_index r s)) o b
unfolding put_row
put_unread r [] o b n h = absurd h
put_unread r (x ∷ xs) o b n h = either (λ a. put_unread r xs o b n a) (nat_lt r.index x.index)
  where
    behind : (First (beacon_keys xs) o b → First (beacon_keys (put_row net_index r xs)) o b) → Split (row_keys x) (beacon_keys xs) o b → First (beacon_keys (x ∷ put_row net_index r xs)) o b
    behind next (inl a) = rw (one_row x (put_row net_index r xs)) (first_front (row_keys x) _ o b a)
    behind next (inr (m, a)) = rw (one_row x (put_row net_index r xs)) (first_back (row_keys x) _ o b m (next a))

    either : (First (beacon_keys xs) o b → First (beacon_keys (put_row net_index r xs)) o b) → (t : Bool) → First (beacon_keys (if t then r ∷ x ∷ xs else x ∷ put_row net_index r xs)) o b
    either next true = rw (one_row r (x ∷ xs)) (first_back (row_keys r) _ o b n h)
    either next false = behind next (first_split (row_keys x) (beacon_keys xs) o b (subst (λ l. First l o b) (one_row x xs) h))

put_nothing : (r : NetKeyRow) (s : List NetKeyRow) (o : List ℕ) → Nothing (row_keys r) o → Nothing (beacon_keys s) o → Nothing (beacon_keys (put_row net_index r s)) o
unfolding put_row
put_nothing r [] o n h = rw (one_row r []) (nothing_both (row_keys r) [] o n tt)
put_nothing r (x ∷ xs) o n h = either (λ a. put_nothing r xs o n a) (nat_lt r.index x.index)
  where
    behind : (Nothing (beacon_keys xs) o → Nothing (beacon_keys (put_row net_index r xs)) o) → Nothing (row_keys x) o × Nothing (beacon_keys xs) o → Nothing (beacon_keys (x ∷ put_row net_index r xs)) o
    behind next (m, a) = rw (one_row x (put_row net_index r xs)) (nothing_both (row_keys x) _ o m (next a))

    either : (Nothing (beacon_keys xs) o → Nothing (beacon_keys (put_row net_index r xs)) o) → (t : Bool) → Nothing (beacon_keys (if t then r ∷ x ∷ xs else x ∷ put_row net_index r xs)) o
    either next true = rw (one_row r (x ∷ xs)) (nothing_both (row_keys r) _ o n h)
    either next false = behind next (nothing_back (row_keys x) (beacon_keys xs) o (subst (λ l. Nothing l o) (one_row x xs) h))

put_only : (r : NetKeyRow) (s : List NetKeyRow) (o : List ℕ) (b : Beacon) → First (row_keys r) o b → Nothing (beacon_keys s) o → First (beacon_keys (put_row net_index r s)) o b
unfolding put_row
put_only r [] o b f h = rw (one_row r []) (first_front (row_keys r) [] o b f)
put_only r (x ∷ xs) o b f h = either (λ a. put_only r xs o b f a) (nat_lt r.index x.index)
  where
    behind : (Nothing (beacon_keys xs) o → First (beacon_keys (put_row net_index r xs)) o b) → Nothing (row_keys x) o × Nothing (beacon_keys xs) o → First (beacon_keys (x ∷ put_row net_index r xs)) o b
    behind next (m, a) = rw (one_row x (put_row net_index r xs)) (first_back (row_keys x) _ o b m (next a))

    either : (Nothing (beacon_keys xs) o → First (beacon_keys (put_row net_index r xs)) o b) → (t : Bool) → First (beacon_keys (if t then r ∷ x ∷ xs else x ∷ put_row net_index r xs)) o b
    either next true = rw (one_row r (x ∷ xs)) (first_front (row_keys r) _ o b f)
    either next false = behind next (nothing_back (row_keys x) (beacon_keys xs) o (subst (λ l. Nothing l o) (one_row x xs) h))

-- a row of a smaller index than that of the answer is tried before it
put_before : (r : NetKeyRow) (s : List NetKeyRow) (o : List ℕ) (b c : Beacon) → First (row_keys r) o b → First (beacon_keys s) o c → r.index < c.index
    → First (beacon_keys (put_row net_index r s)) o b
unfolding put_row
put_before r [] o b c f h l = absurd h
put_before r (x ∷ xs) o b c f h l = either (λ a. put_before r xs o b c f a l) (nat_lt r.index x.index) refl
  where
    behind : (First (beacon_keys xs) o c → First (beacon_keys (put_row net_index r xs)) o b) → nat_lt r.index x.index ≡ false → Split (row_keys x) (beacon_keys xs) o c → First (beacon_keys (x ∷ put_row net_index r xs)) o b
    behind next e (inl a) = absurd (let i = row_index x o c a in grind (arith, nat_tests))
    behind next e (inr (m, a)) = rw (one_row x (put_row net_index r xs)) (first_back (row_keys x) _ o b m (next a))

    either : (First (beacon_keys xs) o c → First (beacon_keys (put_row net_index r xs)) o b) → (t : Bool) → nat_lt r.index x.index ≡ t → First (beacon_keys (if t then r ∷ x ∷ xs else x ∷ put_row net_index r xs)) o b
    either next true e = rw (one_row r (x ∷ xs)) (first_front (row_keys r) _ o b f)
    either next false e = behind next e (first_split (row_keys x) (beacon_keys xs) o c (subst (λ l. First l o c) (one_row x xs) h))

index_least : (n : ℕ) (s : List NetKeyRow) (o : List ℕ) (c : Beacon) → IsByIndexFrom net_index n s → First (beacon_keys s) o c → n ≤ c.index
unfolding IsByIndexFrom
index_least n [] o c i h = absurd h
index_least n (x ∷ xs) o c (l, i) h = parts (λ a. index_least x.index xs o c i a) (first_split (row_keys x) (beacon_keys xs) o c (subst (λ l. First l o c) (one_row x xs) h))
  where
    parts : (First (beacon_keys xs) o c → x.index ≤ c.index) → Split (row_keys x) (beacon_keys xs) o c → n ≤ c.index
    parts next (inl a) = omega (arith, l, row_index x o c a)
    parts next (inr (m, a)) = omega (arith, l, next a)

-- a row of no smaller index is tried behind it
put_behind : (n : ℕ) (r : NetKeyRow) (s : List NetKeyRow) (o : List ℕ) (c : Beacon) → IsByIndexFrom net_index n s → First (beacon_keys s) o c → c.index ≤ r.index
    → First (beacon_keys (put_row net_index r s)) o c
unfolding put_row IsByIndexFrom
put_behind n r [] o c i h l = absurd h
put_behind n r (x ∷ xs) o c (m, i) h l = either (λ a. put_behind x.index r xs o c i a l) (nat_lt r.index x.index) refl
  where
    behind : (First (beacon_keys xs) o c → First (beacon_keys (put_row net_index r xs)) o c) → Split (row_keys x) (beacon_keys xs) o c → First (beacon_keys (x ∷ put_row net_index r xs)) o c
    behind next (inl a) = rw (one_row x (put_row net_index r xs)) (first_front (row_keys x) _ o c a)
    behind next (inr (u, a)) = rw (one_row x (put_row net_index r xs)) (first_back (row_keys x) _ o c u (next a))

    least : x.index ≤ c.index
    least = index_least x.index (x ∷ xs) o c (omega arith, i) h

    either : (First (beacon_keys xs) o c → First (beacon_keys (put_row net_index r xs)) o c) → (t : Bool) → nat_lt r.index x.index ≡ t → First (beacon_keys (if t then r ∷ x ∷ xs else x ∷ put_row net_index r xs)) o c
    either next true e = absurd (let k = least in grind (arith, nat_tests))
    either next false e = behind next (first_split (row_keys x) (beacon_keys xs) o c (subst (λ l. First l o c) (one_row x xs) h))

-- The answer for rows and one more.

pub stays : (r : NetKeyRow) (s : List NetKeyRow) (o : List ℕ) (c : Beacon) → IsByIndex net_index s → c.index ≤ r.index → ReadsBeacon (beacon_keys s) o c
    → ReadsBeacon (beacon_keys (put_row net_index r s)) o c
stays r s o c i l h = reading_of_first _ o c (put_behind 0 r s o c i (first_of_reading _ o c h) l)

-- the answer so far, if there is one, is of a row behind this one
abbrev pub IsBehind : NetKeyRow → Option Beacon → Type 0
IsBehind r None = ⊤
IsBehind r (Some c) = r.index < c.index

pub changes : (r : NetKeyRow) (s : List NetKeyRow) (o : List ℕ) (mine old : Option Beacon) → IsBehind r old → IsAnswer (row_keys r) o mine → IsAnswer (beacon_keys s) o old
    → IsAnswer (beacon_keys (put_row net_index r s)) o (option_or mine old)
changes r s o None None l u h = unread_of _ o (put_nothing r s o (nothing_of _ o u) (nothing_of _ o h))
changes r s o None (Some c) l u h = reading_of_first _ o c (put_unread r s o c (nothing_of _ o u) (first_of_reading _ o c h))
changes r s o (Some b) None l u h = reading_of_first _ o b (put_only r s o b (first_of_reading _ o b u) (nothing_of _ o h))
changes r s o (Some b) (Some c) l u h = reading_of_first _ o b (put_before r s o b c (first_of_reading _ o b u) (first_of_reading _ o c h) l)

-- Two keys of one row.

pub second_of_two : (j k : BeaconSource) (o : List ℕ) (b : Beacon) → IsUnread (j ∷ []) o → ReadsBeacon (k ∷ []) o b → ReadsBeacon (j ∷ k ∷ []) o b
second_of_two j k o b u h = reading_of_first _ o b (first_back (j ∷ []) (k ∷ []) o b (nothing_of (j ∷ []) o u) (first_of_reading (k ∷ []) o b h))

pub none_of_two : (j k : BeaconSource) (o : List ℕ) → IsUnread (j ∷ []) o → IsUnread (k ∷ []) o → IsUnread (j ∷ k ∷ []) o
none_of_two j k o u v = unread_of (j ∷ k ∷ []) o (nothing_both (j ∷ []) (k ∷ []) o (nothing_of (j ∷ []) o u) (nothing_of (k ∷ []) o v))

-- One key, or another.

pub read_by_one : (k : BeaconSource) (o : List ℕ) (b : Beacon) → ReadsBy k o b → ReadsBeacon (k ∷ []) o b
read_by_one k o b r = reading_of_first (k ∷ []) o b (inl r)

pub unread_by_one : (k : BeaconSource) (o : List ℕ) → UnreadBy k o → IsUnread (k ∷ []) o
unread_by_one k o u = unread_of (k ∷ []) o (u, tt)

-- nothing reads where something does
pub not_both : (ks : List BeaconSource) (o : List ℕ) (b : Beacon) → ReadsBeacon ks o b → IsUnread ks o → ⊥
not_both ks o b r u = u r.place r.by r.flags b.iv r.by_is r.reads

pub answer_of : (ks : List BeaconSource) (o : List ℕ) (a : Option Beacon) → IfSome a (ReadsBeacon ks o) → (IsNone a → IsUnread ks o) → IsAnswer ks o a
answer_of ks o None some none = none refl
answer_of ks o (Some b) some none = some
