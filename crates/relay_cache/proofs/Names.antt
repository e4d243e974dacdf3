-- Entries with the last put first, and names with the oldest first.
use Rattle.std.proofs.Common.{◌≡◌, ℕ, ◌-◌, ◌≤◌, Bool, true, false, cond, Some, None, List, [], ◌∷◌, ◌++◌, length, take, drop, map, refl, sym, ap, ◌∙◌, arith, length-append, drop_at, length-drop}
use Rattle.std.specs.Prelude.{◌||◌, ◌&&◌, ◌==◌, reverse, is_some}
use Rattle.std.specs.Option.{option_map_or}
use Rattle.lru.specs.LruCache.{LruCache, lru_cache, put_entries}
use Rattle.relay_cache.specs.Kept.{names_of}
use Rattle.std.specs.List.{list_any}
use Rattle.std.specs.Map.{lookup, lookup_entry, remove_entry}
use Rattle.std.proofs.lemmas.List.{drop-append-le, length-reverse, length-take, reverse-append, take-append-drop, take-map}
use Rattle.std.proofs.lemmas.List.Folds.{list_any-append}
use Rattle.node_limits.specs.declared.TheConstants.{MESSAGE_CACHE}
use Rattle.layer_states.specs.Cache.{is_cached, remembered}
use Rattle.layer_states.specs.Names.{is_name}
use Rattle.mesh_base.specs.declared.pair.Name.{Name}

-- the last of a reversed list is a front, reversed
front_reversed : {A : Type 0} (n : ℕ) (xs : List A) → drop (length xs - n) (reverse xs) ≡ reverse (take n xs)
front_reversed n xs =
    let parts : reverse xs ≡ reverse (drop n xs) ++ reverse (take n xs) =
    ap (λ l. reverse l) (sym (take-append-drop n xs)) ∙ reverse-append (take n xs) (drop n xs) in
    ap (λ l. drop (length xs - n) l) parts
    ∙ drop_at (reverse (drop n xs)) (reverse (take n xs)) (length xs - n) (length-reverse (drop n xs) ∙ length-drop n xs)

-- one name more
pub names_more : (ks : List Name) (k : Name) → reverse (k ∷ take (MESSAGE_CACHE - 1) ks) ≡ remembered (reverse ks) k
names_more ks k =
    let many : length (reverse ks ++ k ∷ []) - MESSAGE_CACHE ≡ length ks - (MESSAGE_CACHE - 1) = omega (arith, length-append (reverse ks) (k ∷ []), length-reverse ks) in
    let few : length ks - (MESSAGE_CACHE - 1) ≤ length (reverse ks) = omega (arith, length-reverse ks) in
    reverse-append (k ∷ []) (take (MESSAGE_CACHE - 1) ks)
    ∙ ap (λ l. l ++ k ∷ []) (sym (front_reversed (MESSAGE_CACHE - 1) ks))
    ∙ sym (drop-append-le (length ks - (MESSAGE_CACHE - 1)) (reverse ks) (k ∷ []) few)
    ∙ ap (λ m. drop m (reverse ks ++ k ∷ [])) (sym many)

-- whether a name is held, either way round
or_swap : (a b : Bool) → (a || b) ≡ (b || a)
or_swap true true = refl
or_swap true false = refl
or_swap false true = refl
or_swap false false = refl

or_false : (a : Bool) → (a || false) ≡ a
or_false true = refl
or_false false = refl

any_reversed : (p : Name → Bool) (ks : List Name) → list_any p (reverse ks) ≡ list_any p ks
any_reversed p [] = refl
any_reversed p (k ∷ ks) =
    ap (λ l. list_any p l) (reverse-append (k ∷ []) ks)
    ∙ list_any-append p (reverse ks) (k ∷ [])
    ∙ ap (λ b. b || (p k || false)) (any_reversed p ks)
    ∙ ap (λ b. list_any p ks || b) (or_false (p k))
    ∙ or_swap (list_any p ks) (p k)

found : (test : Name → Bool) (es : List (Name × Unit {0})) → is_some (lookup test es) ≡ list_any test (map (λ e. e.0) es)
found test [] = refl
found test (e ∷ es) = elim (test e.0) as (λ b. is_some (cond b (Some e.1) (lookup test es)) ≡ (b || list_any test (map (λ x. x.0) es))) [
  | true ↦ refl
  | false ↦ found test es
]

-- whether the entries have a key that is tested as this name is
pub is_found : (test : Name → Bool) (k : Name) (es : List (Name × Unit {0})) → ((m : Name) → test m ≡ is_name k m)
    → is_some (lookup test es) ≡ is_cached (reverse (map (λ e. e.0) es)) k
is_found test k es same =
    found test es ∙ tested (map (λ e. e.0) es) ∙ sym (any_reversed (is_name k) (map (λ e. e.0) es))
  where
    tested : (ks : List Name) → list_any test ks ≡ list_any (is_name k) ks
    tested [] = refl
    tested (m ∷ ks) = ap (λ b. b || list_any test ks) (same m) ∙ ap (λ b. is_name k m || b) (tested ks)

-- Names are compared field by field.
and_assoc : (a b c : Bool) → (a && (b && c)) ≡ (a && b && c)
and_assoc true b c = refl
and_assoc false b c = refl

abbrev pub same : Name → Name → Bool
same k m = k.src.0 == m.src.0 && (k.pair.iv == m.pair.iv && k.pair.seq == m.pair.seq)

same_name : (k m : Name) → same k m ≡ is_name k m
same_name k m = and_assoc (k.src.0 == m.src.0) (k.pair.iv == m.pair.iv) (k.pair.seq == m.pair.seq)

-- what the cache answers of a name
pub held_is : (names : LruCache Name (Unit {0})) (now : List Name) (k : Name) (b : Bool) → names_of names ≡ now
    → b ≡ is_some (lookup (same k) names.entries) → b ≡ is_cached now k
held_is names now k b view answer =
    answer ∙ is_found (same k) k names.entries (λ m. same_name k m) ∙ ap (λ ks. is_cached ks k) view

-- a key that isn't there
no_entry : (test : Name → Bool) (es : List (Name × Unit {0})) → is_some (lookup test es) ≡ false → lookup_entry test es ≡ None
no_entry test [] h = refl
no_entry test (e ∷ es) h =
    (elim (test e.0) as (λ b. test e.0 ≡ b → is_some (cond b (Some e.1) (lookup test es)) ≡ false → lookup_entry test (e ∷ es) ≡ None) [
      | true ↦ λ t u. cc
      | false ↦ λ t u. rw t (no_entry test es u)
    ]) refl h

entries_put : (eq : Name → Name → Bool) (c : LruCache Name (Unit {0})) (k : Name) → is_some (lookup (eq k) c.entries) ≡ false
    → put_entries eq c k tt ≡ (k, tt) ∷ take (c.cap - 1) c.entries
entries_put eq c k h =
    ap (λ o. option_map_or (λ e. (e.0, tt) ∷ remove_entry (eq k) c.entries) o ((k, tt) ∷ take (c.cap - 1) c.entries)) (no_entry (eq k) c.entries h)

-- the cache with a key that wasn't there
pub record IsPut (old new : LruCache Name (Unit {0})) (k : Name) : Type 0 where
  pub cap : new.cap ≡ MESSAGE_CACHE
  pub few : length new.entries ≤ MESSAGE_CACHE
  pub names : names_of new ≡ remembered (names_of old) k

pub is_put : (old new : LruCache Name (Unit {0})) (k : Name) → old.cap ≡ MESSAGE_CACHE → is_some (lookup (same k) old.entries) ≡ false
    → new ≡ lru_cache (put_entries same old k tt) old.cap → IsPut old new k
is_put old new k cap miss e =
    let size : old.cap - 1 ≡ (MESSAGE_CACHE - 1) = omega (arith, cap) in
    let entries : new.entries ≡ (k, tt) ∷ take (MESSAGE_CACHE - 1) old.entries =
    ap (λ c. c.entries) e ∙ entries_put same old k miss ∙ ap (λ n. (k, tt) ∷ take n old.entries) size in
    record {
      cap = ap (λ c. c.cap) e ∙ cap;
      few = omega (arith, ap (λ (es : List (Name × Unit {0})). length es) entries, length-take (MESSAGE_CACHE - 1) old.entries);
      names =
          ap (λ (es : List (Name × Unit {0})). reverse (map (λ x. x.0) es)) entries
          ∙ ap (λ ks. reverse (k ∷ ks)) (sym (take-map (λ (x : Name × Unit {0}). x.0) (MESSAGE_CACHE - 1) old.entries))
          ∙ names_more (map (λ x. x.0) old.entries) k;
    }
