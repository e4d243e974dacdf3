-- Pairs of an IV Index and a SEQ: their words, their order and their expiry; and names.
use Rattle.std.specs.Prelude.{ℕ, ◌+◌, ◌*◌, ◌/◌, ◌%◌, ◌^◌, ◌<◌, ◌==◌, ◌&&◌, ◌||◌, nat_lt, Bool, if◌then◌else◌}
use Rattle.mesh_base.specs.declared.pair.Name.{Name}
use Rattle.mesh_base.specs.declared.pair.Pair.{Pair}

-- A word stands for a pair: its IV Index, then 25 bits for SEQ. SEQ has 24 bits; the word behind the last SEQ of an IV Index says that
-- none is left under it.
abbrev pub word_of : Pair → ℕ
word_of p = p.iv * 2 ^ 25 + p.seq

-- the pair that a word stands for
abbrev pub pair_of : ℕ → Pair
pair_of w = record { iv = w / 2 ^ 25; seq = w % 2 ^ 25 }

-- the fields are within their widths: 32 bits of IV Index, 24 bits of SEQ (Mesh Profile 1.0.1, sections 3.8.3 and 3.8.4)
abbrev pub IsPair : Pair → Type 0
IsPair p = (p.iv < 2 ^ 32) × (p.seq < 2 ^ 24)

-- whether p is above q, by the IV Index first and then by SEQ (section 3.8.8)
abbrev pub is_newer : Pair → Pair → Bool
is_newer p q = nat_lt q.iv p.iv || (q.iv == p.iv && nat_lt q.seq p.seq)

-- the one of two pairs that is above the other
abbrev pub newer_of : Pair → Pair → Pair
newer_of p q = if is_newer q p then q else p

-- Whether a pair is expired under the known IV Index `current`. A node reads PDUs of `current` and of the IV Index before it, and of no
-- other (section 3.10.5); so a pair with an IV Index below these is never read again.
abbrev pub is_expired : ℕ → Pair → Bool
is_expired current p = nat_lt (p.iv + 1) current

-- whether two names are the same: SRC, IV Index and SEQ
abbrev pub is_name : Name → Name → Bool
is_name m n = m.src.0 == n.src.0 && m.pair.iv == n.pair.iv && m.pair.seq == n.pair.seq
