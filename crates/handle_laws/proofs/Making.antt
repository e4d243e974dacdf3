-- What the writes make that calls handed out.
use Rattle.std.proofs.Common.{◌≡◌, ◌∙◌, ℕ, Bool, List, [], ◌∷◌, Option, Some, None, sym, ap, subst}
use Rattle.called_node.specs.Called.{CalledView}
use Rattle.file_flash.specs.Backing.{put_at}
use Rattle.file_flash.specs.Noted.{Put, written}
use Rattle.flash_model.specs.Chip.{Chip}
use Rattle.mesh_node.specs.Held.{HeldView}
use Rattle.node_handle.specs.Nodes.{IsOpened, IsPassed, IsPhase, IsReported}
use Rattle.handle_laws.specs.Calls.{Call, DidCalls, Happened, Reported, WritesMakeImage, Wrote, handed_out}

abbrev or : {T : Type 0} → Option T → T → T
or None d = d
or (Some x) d = x

pub some_same : {T : Type 0} (a b : T) → Some a ≡ Some b → a ≡ b
some_same a b e = ap (λ o. or o a) e

module _ {F : Type 0} (chip : F → Chip) (waiting : F → Option (List Put)) where
  -- on what stands once all that was handed out is made, the writes that are left give what is read; behind a phase that is what its flash saved
  pub record IsMade (base : List ℕ) (now : CalledView F) : Type 0 where
    pub life : HeldView F
    pub is : now.life ≡ Some life
    pub made : written now.writes base ≡ (chip life.node.flash).now
    pub saved : (chip life.node.flash).setting.saved ≡ (chip life.node.flash).now

  pub opened_made : (image line : List ℕ) (now : CalledView F) → IsOpened chip waiting image line now → IsMade image now
  opened_made image line now o = record {
    life = o.begun.begun;
    is = o.begun.is;
    made = ap (written now.writes) (sym o.saved) ∙ o.begun.writes_are;
    saved = o.begun.saved;
  }

  pub passed_made : (base : List ℕ) (old new : CalledView F) (put : Put) (erased : Bool) → IsMade base old → IsPassed old new put erased → IsMade (put_at put.at put.octets base) new
  passed_made base old new put erased m p = record {
    life = m.life;
    is = ap (λ (n : CalledView F). n.life) p.is ∙ m.is;
    made = ap (λ (n : CalledView F). written n.writes (put_at put.at put.octets base)) p.is ∙ ap (λ ws. written ws base) (sym p.was) ∙ m.made;
    saved = m.saved;
  }

  pub reported_made : (base : List ℕ) (old new : CalledView F) (text : List ℕ) → IsMade base old → IsReported old new text → IsMade base new
  reported_made base old new text m r = record {
    life = m.life;
    is = ap (λ (n : CalledView F). n.life) r.is ∙ m.is;
    made = ap (λ (n : CalledView F). written n.writes base) r.is ∙ m.made;
    saved = m.saved;
  }

  pub stands : (base : List ℕ) (old new : CalledView F) (line : List ℕ) → IsMade base old → (h : IsPhase chip waiting line old new)
      → base ≡ (chip h.before.node.flash).setting.saved
  stands base old new line m h =
      ap (λ ws. written ws base) (sym h.no_writes) ∙ m.made ∙ sym m.saved ∙ ap (λ (l : HeldView F). (chip l.node.flash).setting.saved) (some_same m.life h.before (sym m.is ∙ h.was))

  pub happened_made : (base : List ℕ) (old new : CalledView F) (line : List ℕ) → IsMade base old → IsPhase chip waiting line old new → IsMade base new
  happened_made base old new line m h = record {
    life = h.behind;
    is = h.is;
    made = ap (written new.writes) (stands base old new line m h) ∙ h.done.writes_are;
    saved = h.done.saved;
  }

  calls_made : (calls : List Call) (base : List ℕ) (old new : CalledView F) → IsMade base old → DidCalls chip waiting calls old new
      → IsMade (written (handed_out calls) base) new
  calls_made [] base old new m d = subst (IsMade base) (sym d) m
  calls_made (Wrote put ∷ calls) base old new m d =
      calls_made calls (put_at put.at put.octets base) d.0 new (passed_made base old d.0 put d.1.0 m d.1.1) d.2
  calls_made (Reported text ∷ calls) base old new m d = calls_made calls base d.0 new (reported_made base old d.0 text m d.1) d.2
  calls_made (Happened line ∷ calls) base old new m d = calls_made calls base d.0 new (happened_made base old d.0 line m d.1) d.2

  pub writes_make : WritesMakeImage chip waiting
  writes_make image line calls opened now life o d is =
      let m = calls_made calls image opened now (opened_made image line opened o) d in
      m.made ∙ ap (λ (l : HeldView F). (chip l.node.flash).now) (some_same m.life life (sym m.is ∙ is))
