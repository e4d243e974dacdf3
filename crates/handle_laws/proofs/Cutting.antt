-- What a front of the writes leaves that calls handed out, and what a chip makes of them.
use Rattle.std.proofs.Common.{◌≡◌, ◌∙◌, ℕ, List, [], ◌∷◌, ◌++◌, Some, refl, sym, ap, subst, append_assoc}
use Rattle.called_node.specs.Called.{CalledView}
use Rattle.file_flash.specs.Backing.{put_at}
use Rattle.file_flash.specs.Noted.{AreFronts, AreOnChip, Put}
use Rattle.file_flash.proofs.Fronts.{fronts_in}
use Rattle.flash_model.specs.Chip.{Chip}
use Rattle.mesh_node.specs.Held.{HeldView}
use Rattle.node_handle.specs.Nodes.{IsOpened}
use Rattle.handle_laws.specs.Calls.{Call, DidCall, DidCalls, Happened, MightBeLeft, Reported, WritesAreOnChip, WritesMayBeCut, Wrote, handed_out}
use Rattle.handle_laws.proofs.Making.{IsMade, happened_made, opened_made, passed_made, reported_made, stands}
use Rattle.std.specs.Prelude.{Option}

module _ {F : Type 0} (chip : F → Chip) (waiting : F → Option (List Put)) where
  did_more : (front : List Call) (call : Call) (old mid new : CalledView F) → DidCalls chip waiting front old mid → DidCall chip waiting call mid new
      → DidCalls chip waiting (front ++ call ∷ []) old new
  did_more [] call old mid new d did = (new, subst (λ (n : CalledView F). DidCall chip waiting call n new) d did, refl)
  did_more (x ∷ front) call old mid new d did = (d.0, d.1, did_more front call d.0 mid new d.2 did)

  -- the next of them made, the rest is as it was
  on_chip_rest : (writes rest : List Put) (put : Put) (base : List ℕ) → writes ≡ put ∷ rest → AreOnChip writes base → AreOnChip (put ∷ rest) base
  on_chip_rest writes rest put base is kinds = subst (λ (ws : List Put). AreOnChip ws base) is kinds

  calls_on_chip : (calls : List Call) (base : List ℕ) (old new : CalledView F) → IsMade chip waiting base old → AreOnChip old.writes base
      → DidCalls chip waiting calls old new → AreOnChip (handed_out calls ++ new.writes) base
  calls_on_chip [] base old new m kinds d = subst (λ (n : CalledView F). AreOnChip n.writes base) (sym d) kinds
  calls_on_chip (Wrote put ∷ calls) base old new m kinds d =
      let p = d.1.1 in
      let both = on_chip_rest old.writes p.rest put base p.was kinds in (
        both.0,
        calls_on_chip calls (put_at put.at put.octets base) d.0 new (passed_made chip waiting base old d.0 put d.1.0 m p)
            (subst (λ (n : CalledView F). AreOnChip n.writes (put_at put.at put.octets base)) (sym p.is) both.1) d.2,
      )
  calls_on_chip (Reported text ∷ calls) base old new m kinds d =
      calls_on_chip calls base d.0 new (reported_made chip waiting base old d.0 text m d.1)
      (subst (λ (n : CalledView F). AreOnChip n.writes base) (sym d.1.is) kinds) d.2
  calls_on_chip (Happened line ∷ calls) base old new m kinds d =
      calls_on_chip calls base d.0 new (happened_made chip waiting base old d.0 line m d.1)
      (subst (AreOnChip d.0.writes) (sym (stands chip waiting base old d.0 line m d.1)) d.1.done.on_chip) d.2

  pub writes_on_chip : WritesAreOnChip chip waiting
  writes_on_chip image line calls opened now life o d is =
      calls_on_chip calls image opened now (opened_made chip waiting image line opened o) (subst (AreOnChip opened.writes) o.saved o.begun.on_chip) d

  module _ (opened : CalledView F) (whole : List Call) where
    abbrev Left : List ℕ → Type 0
    Left = MightBeLeft chip waiting opened whole

    moved : (front calls : List Call) (call : Call) → whole ≡ front ++ call ∷ calls → whole ≡ (front ++ call ∷ []) ++ calls
    moved front calls call is = is ∙ sym (append_assoc front (call ∷ []) calls)

    calls_cut : (front calls : List Call) (base : List ℕ) (old new : CalledView F) → whole ≡ front ++ calls → DidCalls chip waiting front opened old
        → IsMade chip waiting base old → AreFronts old.writes base Left → DidCalls chip waiting calls old new → AreFronts (handed_out calls ++ new.writes) base Left
    calls_cut front [] base old new is so m fronts d = subst (λ (n : CalledView F). AreFronts n.writes base Left) (sym d) fronts
    calls_cut front (Wrote put ∷ calls) base old new is so m fronts d =
        let p = d.1.1 in
        let both : AreFronts (put ∷ p.rest) base Left = subst (λ (ws : List Put). AreFronts ws base Left) p.was fronts in (
          both.0,
          calls_cut (front ++ Wrote put ∷ []) calls (put_at put.at put.octets base) d.0 new (moved front calls (Wrote put) is)
              (did_more front (Wrote put) opened old d.0 so d.1) (passed_made chip waiting base old d.0 put d.1.0 m p)
              (subst (λ (n : CalledView F). AreFronts n.writes (put_at put.at put.octets base) Left) (sym p.is) both.1) d.2,
        )
    calls_cut front (Reported text ∷ calls) base old new is so m fronts d =
        calls_cut (front ++ Reported text ∷ []) calls base d.0 new (moved front calls (Reported text) is) (did_more front (Reported text) opened old d.0 so d.1)
        (reported_made chip waiting base old d.0 text m d.1) (subst (λ (n : CalledView F). AreFronts n.writes base Left) (sym d.1.is) fronts) d.2
    calls_cut front (Happened line ∷ calls) base old new is so m fronts d =
        let h = d.1 in
        let all = did_more front (Happened line) opened old d.0 so h in
        calls_cut (front ++ Happened line ∷ []) calls base d.0 new (moved front calls (Happened line) is) all (happened_made chip waiting base old d.0 line m h)
        (subst (λ (l : List ℕ). AreFronts d.0.writes l Left) (sym (stands chip waiting base old d.0 line m h))
        (fronts_in d.0.writes _ _ Left (λ c since. record {
          front = front ++ Happened line ∷ [];
          back = calls;
          is = moved front calls (Happened line) is;
          at = d.0;
          did = all;
          life = h.behind;
          there = h.is;
          moment = (chip h.before.node.flash).setting.moment;
          left = since;
        }) h.done.fronts)) d.2

  pub writes_cut : WritesMayBeCut chip waiting
  writes_cut image line calls opened now life o d is =
      calls_cut opened calls [] calls image opened now refl refl (opened_made chip waiting image line opened o)
      (subst (λ (l : List ℕ). AreFronts opened.writes l (MightBeLeft chip waiting opened calls)) o.saved
      (fronts_in opened.writes _ _ (MightBeLeft chip waiting opened calls) (λ c since. record {
        front = [];
        back = calls;
        is = refl;
        at = opened;
        did = refl;
        life = o.begun.begun;
        there = o.begun.is;
        moment = (chip o.life.node.flash).setting.moment;
        left = since;
      }) o.begun.fronts)) d
