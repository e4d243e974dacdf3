-- What is known of octets before they are read.
use Rattle.std.specs.Prelude.{ℕ, List, ⊤}
use Rattle.early_reading.specs.Views.{EarlyReading, IsReadBy}
use Rattle.early_reading.specs.declared.early.Early.{Early}
use Rattle.early_reading.specs.declared.early.Known.{Known}
use Rattle.early_reading.specs.declared.early.Known.TheVariants as K
use Rattle.early_reading.specs.declared.view.KeyView.{KeyView}

-- What is known is what the octets read as by this view.
abbrev pub IsKnown : KeyView → List ℕ → Known → Type 0
IsKnown v octets K.Nothing = ⊤
IsKnown v octets (K.Read reading) = IsReadBy v octets reading.now

-- what was read before, lent by a reader and a reading
abbrev pub early_of : Early → EarlyReading
early_of e = record { view = e.view.now; octets = e.octets.now; reading = e.reading.now }
