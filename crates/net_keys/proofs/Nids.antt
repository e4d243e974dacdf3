-- A key reads no PDU of another NID.
use Rattle.std.proofs.Common.{◌≡◌, ℕ, zero, suc, ◌+◌, ◌*◌, ◌%◌, ◌^◌, ◌<◌, Bool, true, false, cond, List, [], ◌∷◌, ◌++◌, Some, slice_get, get_or, refl, sym, ap, subst, arith}
use Rattle.std.specs.Prelude.{◌==◌, filter}
use Rattle.std.specs.List.{AllByRecursion as ByRecursion}
use Rattle.std.proofs.lemmas.List.Elements.{filter-append, recursion_from_All}
use Rattle.std.proofs.lemmas.Bool.Decides.{nat_tests}
use Rattle.mesh_base.specs.declared.fields.Heard.{Heard}
use Rattle.mesh_base.specs.declared.fields.NetFields.{NetFields}
use Rattle.mesh_base.specs.declared.fields.NetMaterial.{NetMaterial}
use Rattle.mesh_base.specs.declared.keys.NetKeyRow.{NetKeyRow}
use Rattle.layer_definitions.specs.KeyRefresh.{heard_keys}
use Rattle.layer_definitions.specs.Network.{IsUnread, net_text, Reads, ReadsUnder}
use Rattle.layer_definitions.proofs.KeyLaws.{nid_width}
use Rattle.net_keys.specs.Laws.{CandidatesRead, HaveNidWidth, OthersDoNotRead}
use Rattle.kept_keys.proofs.Finding.{every_behind}
use Rattle.net_keys.proofs.Rows.{of_rows}

low_bits : (a n : ℕ) → n < 2 ^ 7 → (a * 2 ^ 7 + n) % 2 ^ 7 ≡ n
low_bits a n l = omega (arith, l)

first_octet : (m : NetMaterial) (current : ℕ) (octets : List ℕ) (f : NetFields) → ReadsUnder m current octets f → get_or octets 0 0 ≡ f.iv % 2 * 2 ^ 7 + m.nid
unfolding net_text
first_octet m current octets f r = ap (λ l. get_or l 0 0) (sym r.text)

has_nid : List ℕ → Heard → Bool
has_nid octets h = h.material.nid == get_or octets 0 0 % 2 ^ 7

reads_by_nid : (h : Heard) (current : ℕ) (octets : List ℕ) (f : NetFields) → h.material.nid < 2 ^ 7 → ReadsUnder h.material current octets f → has_nid octets h ≡ true
unfolding has_nid
reads_by_nid h current octets f l r =
    let same : h.material.nid ≡ get_or octets 0 0 % 2 ^ 7 = rw (first_octet h.material current octets f r) (sym (low_bits (f.iv % 2) h.material.nid l)) in grind (arith, nat_tests)

abbrev HasWidth : Heard → Type 0
HasWidth h = h.material.nid < 2 ^ 7

some_once : (a b : Heard) → Some a ≡ Some b → a ≡ b
some_once a b e = cc

unread_by_all : (ks : List Heard) (current : ℕ) (o : List ℕ) → ByRecursion HasWidth ks → IsUnread (filter (has_nid o) ks) current o → IsUnread ks current o
unread_by_all [] current o w u k h f e r = absurd (cc)
unread_by_all (x ∷ ks) current o (l, w) u k h f e r = either (λ v. unread_by_all ks current o w v) (has_nid o x) refl u k e
  where
    either : (IsUnread (filter (has_nid o) ks) current o → IsUnread ks current o) → (t : Bool) → has_nid o x ≡ t
        → IsUnread (cond t (x ∷ filter (has_nid o) ks) (filter (has_nid o) ks)) current o → (j : ℕ) → slice_get (x ∷ ks) j ≡ Some h → ⊥
    either next true t v zero g = v zero h f g r
    either next true t v (suc j) g = next (λ i y z s q. v (suc i) y z s q) j h f g r
    either next false t v zero g = absurd (let here : ReadsUnder x.material current o f = subst (λ y. ReadsUnder y.material current o f) (sym (some_once x h g)) r in let yes = reads_by_nid x current o f l here in cc)
    either next false t v (suc j) g = next v j h f g r

abbrev Found : List Heard → ℕ → List ℕ → NetFields → Heard → Type 0
Found ks current o f by = (at : ℕ) × Reads ks current o f at by

behind : (x : Heard) (ks : List Heard) (current : ℕ) (o : List ℕ) (f : NetFields) (by : Heard) → ((g : NetFields) → ReadsUnder x.material current o g → ⊥) → Found ks current o f by
    → Found (x ∷ ks) current o f by
behind x ks current o f by unread (at, r) = (suc at, record { key = r.key; reads = r.reads; first = first })
  where
    first : (k : ℕ) (h : Heard) (g : NetFields) → k < suc at → slice_get (x ∷ ks) k ≡ Some h → ReadsUnder h.material current o g → ⊥
    first zero h g l e s = unread g (subst (λ y. ReadsUnder y.material current o g) (sym (some_once x h e)) s)
    first (suc k) h g l e s = r.first k h g (omega arith) e s

read_by_all : (ks : List Heard) (current : ℕ) (o : List ℕ) (f : NetFields) (place : ℕ) (by : Heard) → ByRecursion HasWidth ks → Reads (filter (has_nid o) ks) current o f place by
    → Found ks current o f by
read_by_all [] current o f place by w r = absurd (let e = r.key in cc)
read_by_all (x ∷ ks) current o f place by (l, w) r = either (λ p q. read_by_all ks current o f p by w q) (has_nid o x) refl place r
  where
    either : ((p : ℕ) → Reads (filter (has_nid o) ks) current o f p by → Found ks current o f by) → (t : Bool) → has_nid o x ≡ t
        → (p : ℕ) → Reads (cond t (x ∷ filter (has_nid o) ks) (filter (has_nid o) ks)) current o f p by → Found (x ∷ ks) current o f by
    either next true t zero q = (zero, record { key = q.key; reads = q.reads; first = λ k h g l e s. absurd (omega arith) })
    either next true t (suc p) q =
        behind x ks current o f by (λ g s. q.first zero x g (omega arith) refl s) (next p (record { key = q.key; reads = q.reads; first = λ k h g l e s. q.first (suc k) h g (omega arith) e s }))
    either next false t p q = behind x ks current o f by (λ g s. let yes = reads_by_nid x current o g l s in absurd (cc)) (next p q)

widths : (rows : List NetKeyRow) (more : List Heard) → HaveNidWidth more → ByRecursion HasWidth (heard_keys rows ++ more)
widths rows more w = every_behind HasWidth (heard_keys rows) more (of_rows HasWidth (λ index fresh key. nid_width key) rows) (recursion_from_All HasWidth more w)

apart : (octets : List ℕ) (keys more : List Heard) → filter (has_nid octets) keys ++ filter (has_nid octets) more ≡ filter (has_nid octets) (keys ++ more)
apart octets keys more = sym (filter-append (has_nid octets) keys more)

pub candidates_read : CandidatesRead
unfolding has_nid
candidates_read rows more w current octets f place by r =
    read_by_all (heard_keys rows ++ more) current octets f place by (widths rows more w)
    (subst (λ ks. Reads ks current octets f place by) (apart octets (heard_keys rows) more) r)

pub others_do_not_read : OthersDoNotRead
unfolding has_nid
others_do_not_read rows more w current octets u =
    unread_by_all (heard_keys rows ++ more) current octets (widths rows more w) (subst (λ ks. IsUnread ks current octets) (apart octets (heard_keys rows) more) u)
