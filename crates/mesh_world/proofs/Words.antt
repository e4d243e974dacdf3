-- What an entry of the replay list spends, over plain variables.
use Rattle.std.proofs.Common.{◌≡◌, ℕ, ◌+◌, ◌≤◌, ◌⊎◌, inl, inr, refl, arith, Bool, true, false, nat_eq, cond, Option, Some, None, IfSome, ap, subst}
use Rattle.std.specs.Option.{IsSomeAnd}
use Rattle.std.proofs.lemmas.Bool.{eqb-true, eq-eqb}
use Rattle.std.proofs.lemmas.Bool.Decides.{nat_tests}
use Rattle.mesh_base.specs.declared.address.Address.{Address}
use Rattle.mesh_base.specs.declared.pair.Pair.{Pair}
use Rattle.mesh_base.specs.declared.pair.Name.{Name}
use Rattle.mesh_base.proofs.Pairs.{expired_below, expired_later, not_newer_itself}
use Rattle.mesh_world.specs.Good.{IsUpTo}
use Rattle.mesh_world.specs.World.{entries_with, IsExpired, IsNewer}

-- a pair is spent by an entry that its source has, or may have
abbrev pub IsSpentBy : ℕ → Pair → Option Pair → Type 0
IsSpentBy c p e = IsExpired c p ⊎ IsSomeAnd e (λ kept. IsUpTo p kept)

-- a pair is accepted over this entry
abbrev pub IsAbove : ℕ → Pair → Option Pair → Type 0
IsAbove c p e = IfSome e (λ kept. IsExpired c kept ⊎ IsNewer p kept)

-- what is spent under one known IV Index is spent under a later one
pub spent_later : (c d : ℕ) (e : Option Pair) (p : Pair) → c ≤ d → IsSpentBy c p e → IsSpentBy d p e
spent_later c d e p h (inl x) = inl (expired_later c d p h x)
spent_later c d e p h (inr x) = inr x

-- what an entry spends is spent by a pair that is accepted over it
pub spent_accepted : (c : ℕ) (e : Option Pair) (p new : Pair) → IsAbove c new e → IsSpentBy c p e → IsSpentBy c p (Some new)
spent_accepted c e p new h (inl x) = inl x
spent_accepted c None p new h (inr x) = elim x [ ]
spent_accepted c (Some kept) p new (inl gone) (inr x) = inl (expired_below c p kept x gone)
spent_accepted c (Some kept) p new (inr newer) (inr x) = inr (grind (arith, nat_tests))

-- what an expired entry spends is expired
pub spent_expired : (c : ℕ) (e : Option Pair) (p : Pair) → IsSomeAnd e (λ kept. IsExpired c kept) → IsSpentBy c p e → IsSpentBy c p None
spent_expired c e p h (inl x) = inl x
spent_expired c None p h (inr x) = elim x [ ]
spent_expired c (Some kept) p h (inr x) = inl (expired_below c p kept x h)

-- what is spent isn't accepted
pub spent_refused : (c : ℕ) (e : Option Pair) (p : Pair) → (p.iv ≡ c) ⊎ (p.iv + 1 ≡ c) → IsAbove c p e → IsSpentBy c p e → ⊥
spent_refused c e p h k (inl x) = grind (arith, nat_tests)
spent_refused c None p h k (inr x) = elim x [ ]
spent_refused c (Some kept) p h (inl gone) (inr x) = let gone' : IsExpired c p = expired_below c p kept x gone in grind (arith, nat_tests)
spent_refused c (Some kept) p h (inr newer) (inr x) = grind (arith, nat_tests)

pub up_to_itself : (p : Pair) → IsUpTo p p
up_to_itself = not_newer_itself

-- what holds of both choices, each by its test, holds of the chosen one
pub chosen : {X : Type 0} (P : X → Type 0) (b : Bool) (x y : X) → (b ≡ true → P x) → (b ≡ false → P y) → P (cond b x y)
chosen P true x y f g = f refl
chosen P false x y f g = g refl

pub same_address : (a b : Address) → a.0 ≡ b.0 → a ≡ b
same_address a b e = ap (λ (n : ℕ). let s : Address = record { 0 = n } in s) e

-- What was spent stays so where an entry is replaced by one that spends all that it spent.
pub spent_replaced : (c : ℕ) (entry : Address → Option Pair) (src : Address) (e : Option Pair) (n : Name) → (IsSpentBy c n.pair (entry src) → IsSpentBy c n.pair e)
    → IsSpentBy c n.pair (entry n.src) → IsSpentBy c n.pair (entries_with entry src e n.src)
spent_replaced c entry src e n f spent =
    chosen (IsSpentBy c n.pair) (nat_eq n.src.0 src.0) e (entry n.src)
    (λ same. f (subst (λ (s : Address). IsSpentBy c n.pair (entry s)) (same_address n.src src (eqb-true n.src.0 src.0 same)) spent))
    (λ other. spent)

pub entry_at : (entry : Address → Option Pair) (src : Address) (e : Option Pair) → entries_with entry src e src ≡ e
entry_at entry src e = rw (eq-eqb src.0 src.0 refl) refl

pub IfSome-weaker : {X : Type 0} → (P : X → Type 0) → (Q : X → Type 0) → ((x : X) → P x → Q x) → (o : Option X) → IfSome o P → IfSome o Q
IfSome-weaker P Q f None h = tt
IfSome-weaker P Q f (Some x) h = f x h
