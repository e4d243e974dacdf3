-- What a sink tells after several lines, and after a front of them.
use Rattle.std.proofs.Common.{◌≡◌, ◌<◌, ℕ, List, [], ◌∷◌, ◌++◌, length, map, arith, refl, sym, ap, subst, ◌∙◌, append_assoc, append-nil, length-append}
use Rattle.std.proofs.Math.Seq.{drop-length}
use Rattle.std.specs.List.{flat_map}
use Rattle.std.proofs.lemmas.Grind.{flat_map-append}
use Rattle.mesh_base.proofs.OutsideLemmas.{Grows-append, Grows-nil}
use Rattle.mesh_types.specs.declared.report.ReportLine.{ReportLine}
use Rattle.report_definitions.specs.Report.{line_text, words_text}
use Rattle.report_writer.specs.Handing.{HandedFront, IsHanded}
use Rattle.report_writer.specs.Writing.{HandsLines, HandsOver, SinkView, Written, WrittenFront, WrittenUpTo}

-- Pieces.

-- the pieces of lines, and those of more lines behind them
hands_more : (ls ms : List ReportLine) (ps qs : List (List ℕ)) → HandsLines ls ps → HandsLines ms qs → HandsLines (ls ++ ms) (ps ++ qs)
hands_more [] ms ps qs h k = rw h k
hands_more (a ∷ ls) ms ps qs (first, (rest, e, over, h)) k =
    (first, (rest ++ qs, rw (e, append_assoc first rest qs) refl, over, hands_more ls ms rest qs h k))

-- a text that isn't empty, in one piece
in_one : (text : List ℕ) → 0 < length text → HandsOver text (text ∷ [])
in_one text some = (refl, (length text, some, omega arith, drop-length text))

line_is_some : (line : ReportLine) → 0 < length (line_text line)
line_is_some line = rw (length-append (words_text line) (10 ∷ [])) (omega arith)

-- there are pieces that hand these lines over
hands_all : (lines : List ReportLine) → (ps : List (List ℕ)) × HandsLines lines ps
hands_all [] = ([], refl)
hands_all (line ∷ lines) =
    let (ps, h) = hands_all lines in
    (line_text line ∷ ps, (line_text line ∷ [], (ps, refl, in_one (line_text line) (line_is_some line), h)))

-- Lines.

pub written_none : (v : SinkView) → Written [] v v
written_none v = record { text = Grows-nil v.held; pieces = []; offered = Grows-nil v.pieces; handed = refl }

pub written_more : (ls ms : List ReportLine) (old mid new : SinkView) → Written ls old mid → Written ms mid new → Written (ls ++ ms) old new
written_more ls ms old mid new h k = record {
  text = rw (flat_map-append line_text ls ms) (Grows-append old.held mid.held new.held (flat_map line_text ls) (flat_map line_text ms) h.text k.text);
  pieces = h.pieces ++ k.pieces;
  offered = Grows-append old.pieces mid.pieces new.pieces h.pieces k.pieces h.offered k.offered;
  handed = hands_more ls ms h.pieces k.pieces h.handed k.handed;
}

-- behind lines that were written, a front of more
pub front_behind : (ls ms : List ReportLine) (old mid new : SinkView)
    → Written ls old mid → WrittenFront ms mid new → WrittenFront (ls ++ ms) old new
front_behind ls ms old mid new h k =
    let (rest, (front, e, grown)) = k.front in
    record {
      front = (
        rest,
        (
          flat_map line_text ls ++ front,
          flat_map-append line_text ls ms ∙ ap (λ (v : List ℕ). flat_map line_text ls ++ v) e ∙ sym (append_assoc (flat_map line_text ls) front rest),
          Grows-append old.held mid.held new.held (flat_map line_text ls) front h.text grown,
        ),
      );
      pieces = h.pieces ++ k.pieces;
      offered = Grows-append old.pieces mid.pieces new.pieces h.pieces k.pieces h.offered k.offered;
      rest = k.rest;
      handed = rw (append_assoc h.pieces k.pieces k.rest) (hands_more ls ms h.pieces (k.pieces ++ k.rest) h.handed k.handed);
    }

-- a front of lines is one of more lines
pub front_of_more : (ls ms : List ReportLine) (old new : SinkView) → WrittenFront ls old new → WrittenFront (ls ++ ms) old new
front_of_more ls ms old new h =
    let (rest, (front, e, grown)) = h.front in
    let (ps, k) = hands_all ms in
    record {
      front = (
        rest ++ flat_map line_text ms,
        (
          front,
          flat_map-append line_text ls ms ∙ ap (λ (v : List ℕ). v ++ flat_map line_text ms) e ∙ append_assoc front rest (flat_map line_text ms),
          grown,
        ),
      );
      pieces = h.pieces;
      offered = h.offered;
      rest = h.rest ++ ps;
      handed = rw (← append_assoc h.pieces h.rest ps) (hands_more ls ms (h.pieces ++ h.rest) ps h.handed k);
    }

-- nothing was written of these lines
pub front_none : (lines : List ReportLine) (v : SinkView) → WrittenFront lines v v
front_none lines v =
    let (ps, h) = hands_all lines in
    record { front = (flat_map line_text lines, ([], refl, Grows-nil v.held)); pieces = []; offered = Grows-nil v.pieces; rest = ps; handed = h }

-- lines that were written are a front of themselves
pub front_whole : (lines : List ReportLine) (old new : SinkView) → Written lines old new → WrittenFront lines old new
front_whole lines old new h = record {
  front = ([], (flat_map line_text lines, sym (append-nil (flat_map line_text lines)), h.text));
  pieces = h.pieces;
  offered = h.offered;
  rest = [];
  handed = rw (append-nil h.pieces) h.handed;
}

-- one line
pub written_line : (line : ReportLine) (old new : SinkView) → IsHanded (line_text line) old new → Written (line ∷ []) old new
written_line line old new h = record {
  text = rw (append-nil (line_text line)) h.held;
  pieces = h.pieces;
  offered = h.offered;
  handed = (h.pieces, ([], sym (append-nil h.pieces), h.handed, refl));
}

pub front_of_line : (line : ReportLine) (old new : SinkView) → HandedFront (line_text line) old new → WrittenFront (line ∷ []) old new
front_of_line line old new h = record {
  front = rw (append-nil (line_text line)) h.front;
  pieces = h.pieces;
  offered = h.offered;
  rest = h.rest;
  handed = (h.pieces ++ h.rest, ([], sym (append-nil (h.pieces ++ h.rest)), h.handed, refl));
}

-- Loops: lines of which these are left.

pub up_to_none : (lines : List ReportLine) (v : SinkView) → WrittenUpTo lines lines v v
up_to_none lines v = ([], refl, written_none v)

pub up_to_more : (lines left part rest : List ReportLine) (old mid new : SinkView)
    → left ≡ part ++ rest → WrittenUpTo lines left old mid → Written part mid new → WrittenUpTo lines rest old new
up_to_more lines left part rest old mid new s (front, e, h) k =
    (front ++ part, e ∙ ap (λ (v : List ReportLine). front ++ v) s ∙ sym (append_assoc front part rest), written_more front part old mid new h k)

pub up_to_cut : (lines left part rest : List ReportLine) (old mid new : SinkView)
    → left ≡ part ++ rest → WrittenUpTo lines left old mid → WrittenFront part mid new → WrittenFront lines old new
up_to_cut lines left part rest old mid new s (front, e, h) k =
    rw (e, s) (front_behind front (part ++ rest) old mid new h (front_of_more part rest mid new k))

pub up_to_whole : (lines left : List ReportLine) (old new : SinkView) → left ≡ [] → WrittenUpTo lines left old new → Written lines old new
up_to_whole lines left old new none (front, e, h) = rw (e, none, append-nil) h

-- Texts of lines, one after another.

-- of these lines some are left, whose texts these are
abbrev pub LeftOf : List ReportLine → List (List ℕ) → SinkView → SinkView → Type 0
LeftOf lines texts old new = (left : List ReportLine) × (map line_text left ≡ texts) × WrittenUpTo lines left old new

pub left_all : (lines : List ReportLine) (texts : List (List ℕ)) (v : SinkView) → texts ≡ map line_text lines → LeftOf lines texts v v
left_all lines texts v same = (lines, sym same, up_to_none lines v)

-- the line of the next text, and those behind it
next_text : (left : List ReportLine) (text : List ℕ) (more : List (List ℕ)) → map line_text left ≡ text ∷ more
    → (line : ReportLine) × ((rest : List ReportLine) × (left ≡ (line ∷ []) ++ rest) × (line_text line ≡ text) × (map line_text rest ≡ more))
next_text [] text more e = absurd (cc e)
next_text (line ∷ rest) text more e = (line, (rest, refl, cc e, cc e))

module _ (lines : List ReportLine) (texts : List (List ℕ)) (text : List ℕ) (more : List (List ℕ)) (old mid new : SinkView)
    (next : texts ≡ text ∷ more) (h : LeftOf lines texts old mid) where
  pub texts_more : IsHanded text mid new → LeftOf lines more old new
  texts_more k =
      let (left, same, upto) = h in
      let (line, (rest, is, e, others)) = next_text left text more (same ∙ next) in
      (rest, others, up_to_more lines left (line ∷ []) rest old mid new is upto (written_line line mid new (subst (λ t. IsHanded t mid new) (sym e) k)))

  pub texts_cut : HandedFront text mid new → WrittenFront lines old new
  texts_cut k =
      let (left, same, upto) = h in
      let (line, (rest, is, e, others)) = next_text left text more (same ∙ next) in
      up_to_cut lines left (line ∷ []) rest old mid new is upto (front_of_line line mid new (subst (λ t. HandedFront t mid new) (sym e) k))

no_text : (left : List ReportLine) → map line_text left ≡ [] → left ≡ []
no_text [] e = refl
no_text (line ∷ rest) e = absurd (cc e)

pub texts_whole : (lines : List ReportLine) (texts : List (List ℕ)) (old new : SinkView) → texts ≡ [] → LeftOf lines texts old new → Written lines old new
texts_whole lines texts old new none (left, same, upto) = up_to_whole lines left old new (no_text left (same ∙ none)) upto
