-- Replies as the definitions of a life have them: the place of the element, and the payload.
use Rattle.std.specs.Prelude.{ℕ, List, ◌++◌, map}
use Rattle.std.specs.Option.{option_to_list}
use Rattle.element_models.specs.Messages.{reply_in}
use Rattle.node_models.specs.declared.taken.MessageReplies.{MessageReplies}

-- the Configuration Server is on the first element
abbrev pub from_first : List ℕ → ℕ × List ℕ
from_first payload = (0, payload)

abbrev pub replies_in : MessageReplies → List (ℕ × List ℕ)
replies_in r = map from_first (option_to_list r.configuration) ++ map reply_in r.models
