-- Entries that leave the friendships.
use Rattle.std.proofs.Common.{◌≡◌, false, List, [], ◌∷◌, ◌++◌, ap, ◌∙◌}
use Rattle.friend_steps.specs.Others.{LeaveFriends, changes_friends, has_reading}
use Rattle.layer_states.specs.Friends.{FriendsState}
use Rattle.mesh_types.specs.declared.answers.Answer.{Answer}
use Rattle.mesh_types.specs.declared.events.Event.{Event}
use Rattle.node_friends.specs.Steps.{AreFriendsOf}
use Rattle.event_definitions.specs.History.{Insight, Told}

pub friends_stay : LeaveFriends → (st : FriendsState) (told : List Told) (event : Event) (a : Answer) (i : Insight) → has_reading i ≡ false → changes_friends event a ≡ false
    → AreFriendsOf st told → (e : Told) → e.entry.event ≡ event → e.insight ≡ i → e.entry.answer ≡ a → AreFriendsOf st (told ++ e ∷ [])
friends_stay others st told event a i reads changes h e is insight answer =
    others st told e h (ap has_reading insight ∙ reads)
    (ap (λ x. changes_friends x e.entry.answer) is ∙ ap (λ x. changes_friends event x) answer ∙ changes)
