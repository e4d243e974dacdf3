-- What `run` of `mesh_run` says, over a flash in memory that is erased and steady.
use Rattle.std.proofs.Common.{◌≡◌, ◌⊎◌, ◌<◌, inl, inr, ℕ, List, replicate, get_or, Option, Some, None, refl, sym, ap, ◌∙◌}
use Rattle.std.proofs.lemmas.List.{get_or-replicate}
use Rattle.std.specs.Prelude.{IfSome, IsSomeAnd}
use Rattle.command_words.specs.declared.commands.Command.{Command}
use Rattle.command_words.specs.declared.commands.Command.TheVariants as C
use Rattle.command_words.specs.declared.commands.NodeKind.{NodeKind}
use Rattle.command_words.specs.declared.commands.RunFlags.{RunFlags}
use Rattle.flash_model.specs.Chip.{Chip}
use Rattle.mesh_run.specs.Causes.{IfScript, IsErasedFlash, IsScriptAnd, IsWrittenAt}
use Rattle.run_steps.specs.declared.status.Status.{Status}
use Rattle.run_steps.specs.declared.status.Status.TheVariants as S
use Rattle.script_definitions.specs.Reading.{Reading}
use Rattle.script_definitions.specs.Reading.Reading.{Fails, IsScript}
use Rattle.script_definitions.specs.declared.script.Script.{Script}
use Rattle.meshnode.specs.Doing.{FromErased, OverErased}

erased_to : (n : ℕ) (content : List ℕ) → content ≡ replicate n 255 → (o : ℕ) → o < n → get_or content o 0 ≡ 255
erased_to n content is o less = ap (λ (l : List ℕ). get_or l o 0) is ∙ get_or-replicate n o 255 0 less

-- a flash that has this image alone is erased
pub erased_flash : (chip : Chip) → chip.now ≡ replicate 65536 255 → ((c : List ℕ) → chip.images c → c ≡ chip.now) → IsErasedFlash chip
erased_flash chip is only c image = erased_to 65536 c (only c image ∙ is)

-- so no octet of it is written
never_written : (at : ℕ) (old new : Chip) → IsErasedFlash old → IsWrittenAt at old new → ⊥
never_written at old new erased h = h.first.written (erased new.now h.was at h.first.within)

pub never_by : {F : Type 0} (chip : F → Chip) (at : ℕ) (old : Chip) → IsErasedFlash old → (left : Option F) → IsSomeAnd left (λ f. IsWrittenAt at old (chip f)) → ⊥
never_by chip at old erased None h = absurd h
never_by chip at old erased (Some f) h = never_written at old (chip f) erased h

-- words that are no command aren't done
pub never_done : (s : Status) → s ≡ S.Done → (s ≡ S.Usage) ⊎ (s ≡ S.Memory) → ⊥
never_done s done (inl usage) = let clash : S.Usage ≡ S.Done = sym usage ∙ done in absurd (cc)
never_done s done (inr memory) = let clash : S.Memory ≡ S.Done = sym memory ∙ done in absurd (cc)

pub never_broken : (s : Status) → s ≡ S.WriteFault → (s ≡ S.Usage) ⊎ (s ≡ S.Memory) → ⊥
never_broken s fault (inl usage) = let clash : S.Usage ≡ S.WriteFault = sym usage ∙ fault in absurd (cc)
never_broken s fault (inr memory) = let clash : S.Memory ≡ S.WriteFault = sym memory ∙ fault in absurd (cc)

-- what holds of each command that words may be holds of the one that they are
pub of_command : (o : Option Command) (P : Command → Type 0) → (o ≡ None → ⊥)
    → ((kind : NodeKind) (flags : RunFlags) → o ≡ Some (C.Run kind flags) → P (C.Run kind flags)) → (o ≡ Some C.Audit → P C.Audit)
    → ((count start : ℕ) → o ≡ Some (C.Generate count start) → P (C.Generate count start)) → IsSomeAnd o P
of_command None P none run audit generate = absurd (none refl)
of_command (Some (C.Run kind flags)) P none run audit generate = run kind flags refl
of_command (Some C.Audit) P none run audit generate = audit refl
of_command (Some (C.Generate count start)) P none run audit generate = generate count start refl

pub of_any : (o : Option Command) (P : Command → Type 0)
    → ((kind : NodeKind) (flags : RunFlags) → o ≡ Some (C.Run kind flags) → P (C.Run kind flags)) → (o ≡ Some C.Audit → P C.Audit)
    → ((count start : ℕ) → o ≡ Some (C.Generate count start) → P (C.Generate count start)) → IfSome o P
of_any None P run audit generate = tt
of_any (Some (C.Run kind flags)) P run audit generate = run kind flags refl
of_any (Some C.Audit) P run audit generate = audit refl
of_any (Some (C.Generate count start)) P run audit generate = generate count start refl

over_left : {F : Type 0} (chip : F → Chip) (flash : F) → IsErasedFlash (chip flash) → (Did : F → F → Type 0) (o : Option F) → IsSomeAnd o (Did flash)
    → OverErased chip Did
over_left chip flash erased Did None did = absurd did
over_left chip flash erased Did (Some f) did = record { given = flash; erased = erased; left = f; did = did }

module _ {F : Type 0} (chip : F → Chip) (flash : F) (erased : IsErasedFlash (chip flash)) (left : Option F) where
  pub over : (Did : F → F → Type 0) → IsSomeAnd left (Did flash) → OverErased chip Did
  over Did h = over_left chip flash erased Did left h

  over_script : (Did : Script → F → F → Type 0) (r : Reading) → IsScriptAnd r (λ s. IsSomeAnd left (Did s flash)) → IsScriptAnd r (λ s. OverErased chip (Did s))
  over_script Did (IsScript s) h = over (Did s) h
  over_script Did (Fails line rule) h = absurd h

  pub over_text : (Did : Script → F → F → Type 0) (read : List ℕ → Reading) (o : Option (List ℕ))
      → IfSome o (λ text. IsScriptAnd (read text) (λ s. IsSomeAnd left (Did s flash))) → IfSome o (λ text. IsScriptAnd (read text) (λ s. OverErased chip (Did s)))
  over_text Did read None h = tt
  over_text Did read (Some text) h = over_script Did (read text) h

  from_script : (Did : Script → F → Option F → Type 0) (r : Reading) → IsScriptAnd r (λ s. Did s flash left) → IsScriptAnd r (λ s. FromErased chip (Did s))
  from_script Did (IsScript s) h = record { given = flash; erased = erased; left = left; did = h }
  from_script Did (Fails line rule) h = absurd h

  from_text : (Did : Script → F → Option F → Type 0) (read : List ℕ → Reading) (o : Option (List ℕ))
      → IfSome o (λ text. IsScriptAnd (read text) (λ s. Did s flash left)) → IfSome o (λ text. IsScriptAnd (read text) (λ s. FromErased chip (Did s)))
  from_text Did read None h = tt
  from_text Did read (Some text) h = from_script Did (read text) h

  -- nothing was written; or what was is of first lives
  pub short_text : (Same : Type 0) (Did : Script → F → Option F → Type 0) (read : List ℕ → Reading) (o : Option (List ℕ))
      → (Same × (left ≡ Some flash)) ⊎ IfSome o (λ text. IsScriptAnd (read text) (λ s. Did s flash left))
      → Same ⊎ IfSome o (λ text. IsScriptAnd (read text) (λ s. FromErased chip (Did s)))
  short_text Same Did read o (inl same) = inl same.0
  short_text Same Did read o (inr h) = inr (from_text Did read o h)

  -- nothing changed; or first lives were run, or all
  pub short_generated : (Same : Type 0) (Did : F → Option F → Type 0) → (Same × (left ≡ Some flash)) ⊎ Did flash left → Same ⊎ FromErased chip Did
  short_generated Same Did (inl same) = inl same.0
  short_generated Same Did (inr h) = inr (record { given = flash; erased = erased; left = left; did = h })

-- one of three that isn't the last
pub first_two : (A B D : Type 0) → (D → ⊥) → A ⊎ B ⊎ D → A ⊎ B
first_two A B D not (inl a) = inl a
first_two A B D not (inr (inl b)) = inr b
first_two A B D not (inr (inr d)) = absurd (not d)

two_of_script : (A B D : Type 0) → (D → ⊥) → (r : Reading) → IfScript r (λ s. A ⊎ B ⊎ D) → IfScript r (λ s. A ⊎ B)
two_of_script A B D not (IsScript s) h = first_two A B D not h
two_of_script A B D not (Fails line rule) h = tt

pub two_of_text : (A B D : Type 0) → (D → ⊥) → (Few : List ℕ → Type 0) (read : List ℕ → Reading) (o : Option (List ℕ))
    → IfSome o (λ text. Few text → IfScript (read text) (λ s. A ⊎ B ⊎ D)) → IfSome o (λ text. Few text → IfScript (read text) (λ s. A ⊎ B))
two_of_text A B D not Few read None h = tt
two_of_text A B D not Few read (Some text) h = λ few. two_of_script A B D not (read text) (h few)
