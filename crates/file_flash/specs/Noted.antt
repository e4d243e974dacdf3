-- Writes that a place only notes, for its caller to make.
use Rattle.std.specs.Prelude.{◌≡◌, ℕ, ◌+◌, ◌*◌, ◌%◌, ◌<◌, ◌≤◌, Bool, true, false, List, [], ◌∷◌, ◌++◌, length, replicate, if◌then◌else◌, Option, Some, None, ⊤}
use Rattle.flash_model.specs.Octets.{IsTorn, blanked, programmed}
use Rattle.file_flash.specs.declared.noted.Write.{Write}
use Rattle.file_flash.specs.declared.noted.Write.TheVariants as W
use Rattle.file_flash.specs.Backing.{put_at}

-- octets that are to stand at an offset
pub record Put : Type 0 where
  pub at : ℕ
  pub octets : List ℕ
  -- by an erase of the sector there; else by a program call
  pub erase : Bool

abbrev pub program_put : ℕ → List ℕ → Put
program_put at octets = record { at = at; octets = octets; erase = false }

-- an erase is one of 4,096 octets ff
abbrev pub erase_put : ℕ → Put
erase_put sector = record { at = 4096 * sector; octets = replicate 4096 255; erase = true }

-- what a write is
abbrev pub put_of : Write → Put
put_of (W.Program at octets) = program_put at octets.items
put_of (W.Erase sector) = erase_put sector

-- how many octets it has
abbrev pub size_of : Write → ℕ
size_of (W.Program at octets) = length octets.items
size_of (W.Erase sector) = 4096

-- what the octets of a place become by these writes, one after another
abbrev pub written : List Put → List ℕ → List ℕ
written [] old = old
written (p ∷ puts) old = written puts (put_at p.at p.octets old)

-- What a chip makes of one: a program call clears bits alone, an erase sets each bit of 4,096 octets.
abbrev pub on_chip : Bool → ℕ → List ℕ → List ℕ → List ℕ
on_chip true at octets old = blanked at 4096 old
on_chip false at octets old = programmed at octets old

-- Each of these writes, one after another, gives on a chip the octets that are to stand there.
abbrev pub AreOnChip : List Put → List ℕ → Type 0
AreOnChip [] old = ⊤
AreOnChip (p ∷ puts) old = (on_chip p.erase p.at p.octets old ≡ put_at p.at p.octets old) × AreOnChip puts (put_at p.at p.octets old)

-- Of what a power cut may leave within any of these writes, where those before it are made and it is torn or whole, there is a proof that each
-- is one of those contents.
abbrev pub AreFronts : List Put → List ℕ → (List ℕ → Type 0) → Type 0
AreFronts [] old since = ⊤
AreFronts (p ∷ puts) old since =
    ((c : List ℕ) → IsTorn old (put_at p.at p.octets old) c → ∥ since c ∥₁) × AreFronts puts (put_at p.at p.octets old) since

-- one more is noted, where the place notes them
abbrev pub and_put : Put → Option (List Put) → Option (List Put)
and_put put None = None
and_put put (Some puts) = Some (puts ++ put ∷ [])

-- where a write lies, and that it has an octet
pub record IsInside (write : Write) : Type 0 where
  pub some : 0 < size_of write
  -- within the 65,536 octets
  pub within : (put_of write).at + size_of write ≤ 65536
  -- and within one sector
  pub one_sector : (put_of write).at % 4096 + size_of write ≤ 4096

-- Where a place notes writes, those that wait make what was saved what is read.
abbrev pub AreNoted : Option (List Put) → List ℕ → List ℕ → Type 0
AreNoted waiting saved now = (puts : List Put) → waiting ≡ Some puts → written puts saved ≡ now

-- Where a place notes writes, at most so many wait as program and erase calls were counted since they were handed out last, when so many had been
-- counted, or since the flash was made; as long as that count isn't ffffffff.
abbrev pub AreFew : Option (List Put) → ℕ → ℕ → Type 0
AreFew waiting called changes =
    (puts : List Put) → waiting ≡ Some puts → changes < 4294967295 → called + length puts ≤ changes

-- how many octets a program call gave for it: an erase is given none
abbrev pub given_for : Put → ℕ
given_for p = if p.erase then 0 else length p.octets

-- how many for all of them
abbrev pub octets_given : List Put → ℕ
octets_given [] = 0
octets_given (p ∷ puts) = given_for p + octets_given puts

-- Where a place notes writes, those that wait and are no erase have together at most so many octets as program calls were given since they were handed
-- out last, when so many had been counted, or since the flash was made; as long as that count isn't ffffffff.
abbrev pub AreLean : Option (List Put) → ℕ → ℕ → Type 0
AreLean waiting programmed octets =
    (puts : List Put) → waiting ≡ Some puts → octets < 4294967295 → programmed + octets_given puts ≤ octets

-- Where a place notes writes, each that waits gives on a chip the octets that are to stand there.
abbrev pub AreKinds : Option (List Put) → List ℕ → Type 0
AreKinds waiting saved = (puts : List Put) → waiting ≡ Some puts → AreOnChip puts saved

-- Where a place notes writes, each front of those that wait, made on what was saved, with the last of it torn or whole, is one of those contents.
abbrev pub MayBeCut : Option (List Put) → List ℕ → (List ℕ → Type 0) → Type 0
MayBeCut waiting saved since = (puts : List Put) → waiting ≡ Some puts → AreFronts puts saved since
