-- A table stands for the list of the calls on it: a call more is one step.
use Rattle.std.specs.Prelude.{◌≡◌, List, [], ◌∷◌, ◌++◌}
use Rattle.layer_states.specs.Friends as friends
use Rattle.layer_states.specs.Reassembly as reassembly
use Rattle.layer_states.specs.Sending as sending

-- a state that is a function of calls goes on step by step
abbrev pub GoesOn : {S C : Type 0} → (S → C → S) → (List C → S) → Type 0
GoesOn {C = C} after state = (calls : List C) (call : C) → state (calls ++ call ∷ []) ≡ after (state calls) call

abbrev pub ReassemblyGoesOn : Type 0
ReassemblyGoesOn = GoesOn reassembly.after reassembly.in_progress

abbrev pub SendingGoesOn : Type 0
SendingGoesOn = GoesOn sending.after sending.sent

abbrev pub FriendsGoOn : Type 0
FriendsGoOn = GoesOn friends.after friends.friends
