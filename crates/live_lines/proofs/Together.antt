-- Moves as one text.
use Rattle.std.proofs.Common.{◌≡◌, ℕ, List, [], ◌∷◌, ◌++◌, refl, sym, ap, subst, ◌∙◌, Option, Some, None}
use Rattle.std.specs.Io.KnownBytes.{Consumes}
use Rattle.std.proofs.lemmas.List.{append-nil, append_assoc}
use Rattle.std.proofs.lemmas.List.Elements.{All-cons, All-nil}
use Rattle.live_lines.specs.Laws.{ComesTo, lines_passed, octets_read, with_lf}
use Rattle.live_lines.specs.Moves.{DoesAll, HasNoLf, LinesAt, Move, PassesOver, ReadsOn}
use Rattle.live_lines.specs.Moves.Move.{passes, reads}
use Rattle.live_lines.proofs.Turning.{reads_none}

reads_both : (a b c : Option (List ℕ)) (xs ys : List ℕ) → Consumes a b xs → Consumes b c ys → Consumes a c (xs ++ ys)
reads_both None b c xs ys first second = tt
reads_both (Some a) None c xs ys first second = absurd first
reads_both (Some a) (Some b) None xs ys first second = absurd second
reads_both (Some a) (Some b) (Some c) xs ys first second = first ∙ ap (λ (zs : List ℕ). xs ++ zs) second ∙ sym (append_assoc xs ys c)

none : (at : LinesAt) → ComesTo [] at at
none at = record { read = reads_none at.left; text = append-nil at.held; whole = All-nil HasNoLf; no_fault = (refl, refl) }

read_more : (moves : List Move) (octets : List ℕ) (old mid new : LinesAt) → ReadsOn octets old mid → ComesTo moves mid new → ComesTo (reads octets ∷ moves) old new
read_more moves octets old mid new h rest = record {
  read = reads_both old.left mid.left new.left octets (octets_read moves) h.read rest.read;
  text =
      sym (append_assoc old.held octets (octets_read moves))
      ∙ ap (λ (xs : List ℕ). xs ++ octets_read moves) (sym (ap (λ (s : LinesAt). s.held) h.same)) ∙ rest.text;
  whole = rest.whole;
  no_fault = (rest.no_fault.0 ∙ ap (λ (s : LinesAt). s.source_faults) h.same, rest.no_fault.1 ∙ ap (λ (s : LinesAt). s.sink_faults) h.same);
}

passed_more : (bearers elements : ℕ) (moves : List Move) (raw : List ℕ) (old mid new : LinesAt) → PassesOver bearers elements raw old mid → ComesTo moves mid new
    → ComesTo (passes raw ∷ moves) old new
passed_more bearers elements moves raw old mid new h rest =
    let more : List ℕ = octets_read moves in
    let lines : List (List ℕ) = lines_passed moves in
    let ended : List ℕ = raw ++ 10 ∷ [] in
    let cut : old.held ≡ ended ++ mid.held = h.takes.cut ∙ sym (append_assoc raw (10 ∷ []) mid.held) in
    let left : mid.left ≡ old.left = ap (λ (s : LinesAt). s.left) h.takes.same in
    record {
      read = subst (λ (l : Option (List ℕ)). Consumes l new.left more) left rest.read;
      text =
          ap (λ (xs : List ℕ). xs ++ more) cut ∙ append_assoc ended mid.held more ∙ ap (λ (xs : List ℕ). ended ++ xs) rest.text
          ∙ sym (append_assoc ended (with_lf lines) new.held);
      whole = All-cons HasNoLf raw lines h.takes.whole rest.whole;
      no_fault = (rest.no_fault.0 ∙ ap (λ (s : LinesAt). s.source_faults) h.takes.same, rest.no_fault.1 ∙ ap (λ (s : LinesAt). s.sink_faults) h.takes.same);
    }

pub comes : (bearers elements : ℕ) (moves : List Move) (old new : LinesAt) → DoesAll bearers elements moves old new → ComesTo moves old new
comes bearers elements [] old new h = subst (λ (s : LinesAt). ComesTo [] old s) (sym h) (none old)
comes bearers elements (reads octets ∷ moves) old new h = read_more moves octets old h.0 new h.1 (comes bearers elements moves h.0 new h.2)
comes bearers elements (passes raw ∷ moves) old new h = passed_more bearers elements moves raw old h.0 new h.1 (comes bearers elements moves h.0 new h.2)
