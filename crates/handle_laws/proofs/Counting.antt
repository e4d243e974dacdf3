-- How many writes calls handed out, and of how many octets.
use Rattle.std.proofs.Common.{◌≡◌, ◌∙◌, ℕ, ◌+◌, ◌<◌, ◌≤◌, Bool, List, [], ◌∷◌, length, Some, sym, ap, subst, arith}
use Rattle.called_node.specs.Called.{CalledView}
use Rattle.file_flash.specs.Noted.{Put, given_for, octets_given}
use Rattle.flash_model.specs.Chip.{Chip}
use Rattle.mesh_node.specs.Held.{HeldView}
use Rattle.node_handle.specs.Nodes.{IsOpened, IsPassed, IsPhase, IsReported}
use Rattle.handle_laws.specs.Calls.{Call, DidCalls, Happened, Reported, WritesAreFew, WritesAreLean, Wrote, handed_out}
use Rattle.handle_laws.proofs.Making.{some_same}
use Rattle.std.specs.Prelude.{Option}

none_more : (n : ℕ) → n ≡ n + 0
none_more n = omega arith

one_more : (n given more : ℕ) → n + given + more ≡ n + (given + more)
one_more n given more = omega arith

module _ {F : Type 0} (chip : F → Chip) (waiting : F → Option (List Put)) where
  abbrev counted_of : HeldView F → ℕ
  counted_of life = (chip life.node.flash).changes

  -- so many were handed out, and with those that are left they are at most what was counted
  record AreSoFew (n : ℕ) (now : CalledView F) : Type 0 where
    life : HeldView F
    is : now.life ≡ Some life
    few : counted_of life < 4294967295 → n + length now.writes ≤ counted_of life

  opened_few : (image line : List ℕ) (now : CalledView F) → IsOpened chip waiting image line now → AreSoFew 0 now
  opened_few image line now o = record {
    life = o.begun.begun;
    is = o.begun.is;
    few = λ less. omega (arith, o.begun.few less);
  }

  passed_few : (n : ℕ) (old new : CalledView F) (put : Put) (erased : Bool) → AreSoFew n old → IsPassed old new put erased → AreSoFew (n + 1) new
  passed_few n old new put erased m p = record {
    life = m.life;
    is = ap (λ (n : CalledView F). n.life) p.is ∙ m.is;
    few = λ less.
        let was : length old.writes ≡ length p.rest + 1 = ap length p.was ∙ omega arith in
        let left : length new.writes ≡ length p.rest = ap (λ (n : CalledView F). length n.writes) p.is in
        omega (arith, m.few less, was, left);
  }

  reported_few : (n : ℕ) (old new : CalledView F) (text : List ℕ) → AreSoFew n old → IsReported old new text → AreSoFew n new
  reported_few n old new text m r = record {
    life = m.life;
    is = ap (λ (n : CalledView F). n.life) r.is ∙ m.is;
    few = λ less. let left : length new.writes ≡ length old.writes = ap (λ (n : CalledView F). length n.writes) r.is in omega (arith, m.few less, left);
  }

  happened_few : (n : ℕ) (old new : CalledView F) (line : List ℕ) → AreSoFew n old → IsPhase chip waiting line old new → AreSoFew n new
  happened_few n old new line m h = record {
    life = h.behind;
    is = h.is;
    few = λ less.
        let same : counted_of m.life ≡ counted_of h.before = ap counted_of (some_same m.life h.before (sym m.is ∙ h.was)) in
        let more : counted_of h.before + length new.writes ≤ counted_of h.behind = h.done.few less in
        omega (arith, m.few (omega (arith, same, more, less)), same, more);
  }

  calls_few : (calls : List Call) (n : ℕ) (old new : CalledView F) → AreSoFew n old → DidCalls chip waiting calls old new
      → AreSoFew (n + length (handed_out calls)) new
  calls_few [] n old new m d = subst (λ (k : ℕ). AreSoFew k new) (omega arith) (subst (AreSoFew n) (sym d) m)
  calls_few (Wrote put ∷ calls) n old new m d =
      subst (λ (k : ℕ). AreSoFew k new) (omega arith) (calls_few calls (n + 1) d.0 new (passed_few n old d.0 put d.1.0 m d.1.1) d.2)
  calls_few (Reported text ∷ calls) n old new m d = calls_few calls n d.0 new (reported_few n old d.0 text m d.1) d.2
  calls_few (Happened line ∷ calls) n old new m d = calls_few calls n d.0 new (happened_few n old d.0 line m d.1) d.2

  pub writes_few : WritesAreFew chip waiting
  writes_few image line calls opened now life o d is less =
      let m = calls_few calls 0 opened now (opened_few image line opened o) d in
      let same : counted_of m.life ≡ counted_of life = ap counted_of (some_same m.life life (sym m.is ∙ is)) in
      omega (arith, m.few (omega (arith, same, less)), same)

  abbrev octets_of : HeldView F → ℕ
  octets_of life = (chip life.node.flash).octets

  -- so many octets were handed out by writes that are no erase, and with those of the ones that are left they are at most what program calls were given
  record AreSoLean (n : ℕ) (now : CalledView F) : Type 0 where
    life : HeldView F
    is : now.life ≡ Some life
    lean : octets_of life < 4294967295 → n + octets_given now.writes ≤ octets_of life

  opened_lean : (image line : List ℕ) (now : CalledView F) → IsOpened chip waiting image line now → AreSoLean 0 now
  opened_lean image line now o = record {
    life = o.begun.begun;
    is = o.begun.is;
    lean = λ less. omega (arith, o.begun.lean less);
  }

  passed_lean : (n : ℕ) (old new : CalledView F) (put : Put) (erased : Bool) → AreSoLean n old → IsPassed old new put erased → AreSoLean (n + given_for put) new
  passed_lean n old new put erased m p = record {
    life = m.life;
    is = ap (λ (n : CalledView F). n.life) p.is ∙ m.is;
    lean = λ less.
        let was : octets_given old.writes ≡ given_for put + octets_given p.rest = ap octets_given p.was in
        let left : octets_given new.writes ≡ octets_given p.rest = ap (λ (n : CalledView F). octets_given n.writes) p.is in
        omega (arith, m.lean less, was, left);
  }

  reported_lean : (n : ℕ) (old new : CalledView F) (text : List ℕ) → AreSoLean n old → IsReported old new text → AreSoLean n new
  reported_lean n old new text m r = record {
    life = m.life;
    is = ap (λ (n : CalledView F). n.life) r.is ∙ m.is;
    lean = λ less. let left : octets_given new.writes ≡ octets_given old.writes = ap (λ (n : CalledView F). octets_given n.writes) r.is in omega (arith, m.lean less, left);
  }

  happened_lean : (n : ℕ) (old new : CalledView F) (line : List ℕ) → AreSoLean n old → IsPhase chip waiting line old new → AreSoLean n new
  happened_lean n old new line m h = record {
    life = h.behind;
    is = h.is;
    lean = λ less.
        let same : octets_of m.life ≡ octets_of h.before = ap octets_of (some_same m.life h.before (sym m.is ∙ h.was)) in
        let more : octets_of h.before + octets_given new.writes ≤ octets_of h.behind = h.done.lean less in
        omega (arith, m.lean (omega (arith, same, more, less)), same, more);
  }

  calls_lean : (calls : List Call) (n : ℕ) (old new : CalledView F) → AreSoLean n old → DidCalls chip waiting calls old new
      → AreSoLean (n + octets_given (handed_out calls)) new
  calls_lean [] n old new m d = subst (λ (k : ℕ). AreSoLean k new) (none_more n) (subst (AreSoLean n) (sym d) m)
  calls_lean (Wrote put ∷ calls) n old new m d =
      subst (λ (k : ℕ). AreSoLean k new) (one_more n (given_for put) (octets_given (handed_out calls)))
      (calls_lean calls (n + given_for put) d.0 new (passed_lean n old d.0 put d.1.0 m d.1.1) d.2)
  calls_lean (Reported text ∷ calls) n old new m d = calls_lean calls n d.0 new (reported_lean n old d.0 text m d.1) d.2
  calls_lean (Happened line ∷ calls) n old new m d = calls_lean calls n d.0 new (happened_lean n old d.0 line m d.1) d.2

  pub writes_lean : WritesAreLean chip waiting
  writes_lean image line calls opened now life o d is less =
      let m = calls_lean calls 0 opened now (opened_lean image line opened o) d in
      let same : octets_of m.life ≡ octets_of life = ap octets_of (some_same m.life life (sym m.is ∙ is)) in
      omega (arith, m.lean (omega (arith, same, less)), same)
