-- What safety means: of the seals that a node makes, and of the messages that it delivers.
use Rattle.std.specs.Prelude.{◌≡◌, ◌≢◌, ℕ, List, AllPairs}
use Rattle.mesh_base.specs.declared.pair.Name.{Name}

-- one seal by AES-CCM: this plaintext, under this key and nonce
pub record Use : Type 0 where
  pub key : List ℕ
  pub nonce : List ℕ
  pub plain : List ℕ

-- no key and nonce seal two different plaintexts
abbrev pub NoReuse : List Use → Type 0
NoReuse us = AllPairs (λ u v. u.key ≡ v.key → u.nonce ≡ v.nonce → u.plain ≡ v.plain) us

-- no message is delivered twice
abbrev pub AtMostOnce : List Name → Type 0
AtMostOnce names = AllPairs (λ m n. m ≢ n) names
