-- Keys of two lists, those of the second behind those of the first.
use Rattle.std.proofs.Common.{◌≡◌, ℕ, zero, suc, ◌+◌, ◌<◌, ◌⊎◌, inl, inr, List, [], ◌∷◌, ◌++◌, length, Some, slice_get, subst, arith}
use Rattle.std.proofs.lemmas.Option.{slice_get_within}
use Rattle.mesh_base.specs.declared.fields.Heard.{Heard}
use Rattle.mesh_base.specs.declared.fields.NetFields.{NetFields}
use Rattle.layer_definitions.specs.Network.{IsUnread, Reads, ReadsUnder}

-- what stands in two lists
in_first : (ks ms : List Heard) (k : ℕ) (h : Heard) → slice_get ks k ≡ Some h → slice_get (ks ++ ms) k ≡ Some h
in_first [] ms k h e = absurd (cc)
in_first (x ∷ ks) ms zero h e = e
in_first (x ∷ ks) ms (suc k) h e = in_first ks ms k h e

in_second : (ks ms : List Heard) (k : ℕ) (h : Heard) → slice_get ms k ≡ Some h → slice_get (ks ++ ms) (length ks + k) ≡ Some h
in_second [] ms k h e = let same : k ≡ 0 + k = omega arith in subst (λ n. slice_get ms n ≡ Some h) same e
in_second (x ∷ ks) ms k h e =
    let same : suc (length ks + k) ≡ suc (length ks) + k = omega arith in
    subst (λ n. slice_get (x ∷ ks ++ ms) n ≡ Some h) same (in_second ks ms k h e)

abbrev InSecond : List Heard → List Heard → ℕ → Heard → Type 0
InSecond ks ms k h = (j : ℕ) × (k ≡ length ks + j) × (slice_get ms j ≡ Some h)

in_either : (ks ms : List Heard) (k : ℕ) (h : Heard) → slice_get (ks ++ ms) k ≡ Some h → (slice_get ks k ≡ Some h) ⊎ InSecond ks ms k h
in_either [] ms k h e = inr (k, (omega arith), e)
in_either (x ∷ ks) ms zero h e = inl e
in_either (x ∷ ks) ms (suc k) h e = behind (in_either ks ms k h e)
  where
    behind : (slice_get ks k ≡ Some h) ⊎ InSecond ks ms k h → (slice_get ks k ≡ Some h) ⊎ InSecond (x ∷ ks) ms (suc k) h
    behind (inl a) = inl a
    behind (inr (j, same, b)) = inr (j, (omega (arith, same)), b)

-- what the first list reads
pub reads_front : (ks ms : List Heard) (current : ℕ) (octets : List ℕ) (f : NetFields) (place : ℕ) (by : Heard)
    → Reads ks current octets f place by → Reads (ks ++ ms) current octets f place by
reads_front ks ms current octets f place by r = record {
  key = in_first ks ms place by r.key;
  reads = r.reads;
  first = λ k h g l e s. first k h g l s (in_either ks ms k h e);
}
  where
    first : (k : ℕ) (h : Heard) (g : NetFields) → k < place → ReadsUnder h.material current octets g → (slice_get ks k ≡ Some h) ⊎ InSecond ks ms k h → ⊥
    first k h g l s (inl a) = r.first k h g l a s
    first k h g l s (inr (j, same, b)) = omega (arith, l, same, slice_get_within ks place by r.key)

-- what only the second one reads
pub reads_behind : (ks ms : List Heard) (current : ℕ) (octets : List ℕ) (f : NetFields) (place : ℕ) (by : Heard)
    → IsUnread ks current octets → Reads ms current octets f place by → Reads (ks ++ ms) current octets f (length ks + place) by
reads_behind ks ms current octets f place by u r = record {
  key = in_second ks ms place by r.key;
  reads = r.reads;
  first = λ k h g l e s. first k h g l s (in_either ks ms k h e);
}
  where
    first : (k : ℕ) (h : Heard) (g : NetFields) → k < length ks + place → ReadsUnder h.material current octets g → (slice_get ks k ≡ Some h) ⊎ InSecond ks ms k h → ⊥
    first k h g l s (inl a) = u k h g a s
    first k h g l s (inr (j, same, b)) = r.first j h g (omega (arith, l, same)) b s

-- what neither reads
pub unread_both : (ks ms : List Heard) (current : ℕ) (octets : List ℕ) → IsUnread ks current octets → IsUnread ms current octets → IsUnread (ks ++ ms) current octets
unread_both ks ms current octets u v = λ k h f e s. either k h f s (in_either ks ms k h e)
  where
    either : (k : ℕ) (h : Heard) (f : NetFields) → ReadsUnder h.material current octets f → (slice_get ks k ≡ Some h) ⊎ InSecond ks ms k h → ⊥
    either k h f s (inl a) = u k h f a s
    either k h f s (inr (j, same, b)) = v j h f b s

pub unread_second : (ks ms : List Heard) (current : ℕ) (octets : List ℕ) → IsUnread (ks ++ ms) current octets → IsUnread ms current octets
unread_second ks ms current octets u = λ k h f e s. u (length ks + k) h f (in_second ks ms k h e) s

-- what some key reads isn't unread
pub read_not_unread : (ks : List Heard) (current : ℕ) (octets : List ℕ) (f : NetFields) (place : ℕ) (by : Heard) → Reads ks current octets f place by → IsUnread ks current octets → ⊥
read_not_unread ks current octets f place by r u = u place by f r.key r.reads
