-- SeqAuth (Mesh Profile 1.0.1, section 3.5.3.1).
use Rattle.std.specs.Prelude.{◌≡◌, ℕ, ◌%◌, ◌^◌, ◌≤◌}

-- the greatest number at most SEQ whose low 13 bits are SeqZero
pub record IsSeqAuth (seq seq_zero number : ℕ) : Type 0 where
  pub at_most : number ≤ seq
  pub low_bits : number % 2 ^ 13 ≡ seq_zero
  pub greatest : (n : ℕ) → n ≤ seq → n % 2 ^ 13 ≡ seq_zero → n ≤ number
