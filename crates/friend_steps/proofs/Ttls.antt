-- The TTL of what is published has 7 bits.
use Rattle.std.proofs.Common.{◌≡◌, ℕ, ◌<◌, ◌^◌, Bool, true, false, cond, eqb, leb, ◌&&◌, ◌||◌, List, [], ◌∷◌, refl, subst, sym, arith}
use Rattle.std.specs.Prelude.{IsTrue}
use Rattle.std.specs.List.{AllByRecursion as Every, list_any}
use Rattle.std.proofs.lemmas.Bool.Decides.{nat_tests}
use Rattle.node_layers.specs.Publishing.{is_own_row, is_row, is_still_held}
use Rattle.node_records.specs.Meaning.{IsSaid}
use Rattle.node_records.specs.Tables.{config_in}
use Rattle.node_records.specs.declared.persist.Persist.{Persist}
use Rattle.node_snapshot.proofs.Built.{IsBuilt, IsPublishRow, built_of}
use Rattle.record_types.specs.declared.records.PublishRow.{PublishRow}
use Rattle.store_definitions.specs.Config.{Config}
use Rattle.store_definitions.specs.Ranges.{is_feature}

-- A row that the store still holds has a TTL of 7 bits, or stands for the Default TTL.

abbrev pub HasTtl : ℕ → Type 0
HasTtl ttl = IsTrue (leb ttl 0x7f || eqb ttl 0xff)

same_ttl : (a b : PublishRow) → is_row a b ≡ true → a.ttl ≡ b.ttl
same_ttl a b is = grind (arith, nat_tests, is)

held_also : (a b : Bool) → (a && b) ≡ true → b ≡ true
held_also true b e = e
held_also false b e = absurd cc

pub held_ttl : (row : PublishRow) (rows : List PublishRow) → list_any (is_row row) rows ≡ true → Every IsPublishRow rows
    → HasTtl row.ttl
held_ttl row [] e h = absurd cc
held_ttl row (x ∷ xs) e h = pick_by (is_row row x) refl e (λ k. held_ttl row xs k h.1)
  where
    pick_by : (b : Bool) → is_row row x ≡ b → (b || list_any (is_row row) xs) ≡ true
        → (list_any (is_row row) xs ≡ true → HasTtl row.ttl) → HasTtl row.ttl
    pick_by true is e rest = subst HasTtl (sym (same_ttl row x is)) h.0.4
    pick_by false is e rest = rest e

pub ttl_short : (ttl default : ℕ) → HasTtl ttl → default < 2 ^ 7 → cond (eqb ttl 0xff) default ttl < 2 ^ 7
ttl_short ttl default h k = pick_by (eqb ttl 0xff) (leb ttl 0x7f) refl h
  where
    is_least : leb ttl 0x7f ≡ true → ttl < 2 ^ 7
    is_least e = grind (arith, nat_tests)

    pick_by : (b d : Bool) → leb ttl 0x7f ≡ d → IsTrue (d || b) → cond b default ttl < 2 ^ 7
    pick_by true d e h = k
    pick_by false true e h = is_least e
    pick_by false false e h = absurd cc

-- So has the Default TTL that a store's value says.

default_short : (ttl : ℕ) → IsTrue (is_feature 2 ttl) → ttl < 2 ^ 7
default_short ttl h = grind (arith, nat_tests, h)

said_built : (p : Persist) → IsSaid p → IsBuilt (config_in p)
said_built p said = subst IsBuilt (sym said.meaning.config) (built_of said.records said.ranges)

pub said_short : (p : Persist) → IsSaid p → p.ttl < 2 ^ 7
said_short p said = default_short p.ttl (said_built p said).features.ttl_is

pub row_ttl : (p : Persist) (row : PublishRow) → IsSaid p → is_still_held (config_in p) row ≡ true
    → cond (eqb row.ttl 0xff) p.ttl row.ttl < 2 ^ 7
row_ttl p row said held =
    let c : Config = config_in p in
    ttl_short row.ttl p.ttl
    (held_ttl row c.publications (held_also (is_own_row c row) (list_any (is_row row) c.publications) held) (said_built p said).publications)
    (said_short p said)
