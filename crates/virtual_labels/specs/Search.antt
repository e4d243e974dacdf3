-- What is found of a message to a virtual address, when some keys were tried.
use Rattle.std.specs.Prelude.{◌≡◌, ℕ, List, length, Option, Some, None}
use Rattle.layer_definitions.specs.Labels.{IsLabelUnopened, OpensLabel}
use Rattle.mesh_base.specs.declared.keys.UpperKey.{UpperKey}
use Rattle.mesh_base.specs.declared.upper.UpperFields.{UpperFields}
use Rattle.virtual_labels.specs.declared.kept.Search.{Search}
use Rattle.virtual_labels.specs.declared.opening.LabelOpened.{LabelOpened}

-- nothing, of all labels; or the first label, and with it the first key
abbrev pub IsFound : List UpperKey → List (List ℕ) → UpperFields → List ℕ → ℕ → Option LabelOpened → Type 0
IsFound keys labels f upper limit None = (limit ≡ length labels) × IsLabelUnopened keys labels f upper
IsFound keys labels f upper limit (Some o) = (limit ≡ o.label) × OpensLabel keys labels f upper o.label o.opened.at o.opened.payload

abbrev pub IsSearched : List UpperKey → List (List ℕ) → UpperFields → List ℕ → Search → Type 0
IsSearched keys labels f upper s = IsFound keys labels f upper s.limit s.found
