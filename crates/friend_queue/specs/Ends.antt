-- Friendships and offers that go.
use Rattle.std.specs.Prelude.{ℕ, not, nat_lt, Bool}
use Rattle.layer_states.specs.declared.friends.Friendship.{Friendship}

-- the time of one is over
abbrev pub is_over : ℕ → Friendship → Bool
is_over now s = not (nat_lt now s.until)
