-- The network message cache (Mesh Profile 1.0.1, section 3.4.5.5): the names of the last network PDUs that weren't in it, as many as it
-- remembers, the oldest first. A name that is in it stays in its place when it is heard again.
use Rattle.std.specs.Prelude.{◌≡◌, ℕ, ◌-◌, Bool, if◌then◌else◌, List, [], ◌∷◌, ◌++◌, length, drop}
use Rattle.std.specs.List.{list_any}
use Rattle.node_limits.specs.declared.TheConstants.{MESSAGE_CACHE}
use Rattle.layer_states.specs.Names.{is_name}
use Rattle.mesh_base.specs.declared.pair.Name.{Name}

-- the last n of a list
abbrev pub last_of : {A : Type 0} → ℕ → List A → List A
last_of n xs = drop (length xs - n) xs

-- whether a PDU is in the cache
abbrev pub is_cached : List Name → Name → Bool
is_cached names n = list_any (is_name n) names

-- the cache with a PDU that wasn't in it
abbrev pub remembered : List Name → Name → List Name
remembered names n = last_of MESSAGE_CACHE (names ++ n ∷ [])

-- what a PDU heard leaves of the cache
abbrev pub after_heard : List Name → Name → List Name
after_heard names n = if is_cached names n then names else remembered names n

-- A name more needs the cache alone: the last of all are the last of those that were kept with those behind them.
abbrev pub LastMore : Type 0
LastMore = (n : ℕ) (xs ys : List Name) → last_of n (last_of n xs ++ ys) ≡ last_of n (xs ++ ys)
