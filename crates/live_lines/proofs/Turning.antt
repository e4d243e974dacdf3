-- What a move leaves, by what its calls leave. The states are written out, so that each call's clause is about one field.
use Rattle.std.proofs.Common.{◌≡◌, ℕ, ◌<◌, List, [], ◌∷◌, ◌++◌, length, take, refl, sym, ap, subst, ◌∙◌, inl, inr, arith, Option, Some, None}
use Rattle.std.specs.Io.KnownBytes.{Consumes, IsAtEnd}
use Rattle.std.proofs.lemmas.List.{append-nil, append_assoc}
use Rattle.std.proofs.lemmas.List.Elements.{All-append}
use Rattle.mesh_base.specs.Outside.{one_more}
use Rattle.report_writer.specs.Handing.{HandedFront}
use Rattle.report_writer.specs.Writing.{SinkView}
use Rattle.script_definitions.specs.Words.{without_cr}
use Rattle.script_definitions.specs.declared.line.ScriptLine.{ScriptLine}
use Rattle.live_lines.specs.Moves.{HasNoLf, LinesAt, PassesOver, ReadsOn, TakesLine}
use Rattle.live_lines.specs.Saying.{line_says}
use Rattle.live_lines.specs.Steps.{FailsBy, SaysEvent, with_rest}
use Rattle.live_lines.specs.Texts.{unended_text, wrong_text}
use Rattle.live_lines.specs.Turns.{IsFrontOf, IsLost, IsTaken, IsUntold}
use Rattle.live_lines.specs.declared.lines.LineStop.{LineStop}
use Rattle.live_lines.specs.declared.lines.LineStop.TheVariants as L
use Rattle.live_lines.specs.declared.saying.Saying.{Saying}
use Rattle.live_lines.proofs.Fronts.{front_more, front_says, front_told, told_of}

pub reads_none : (left : Option (List ℕ)) → Consumes left left []
reads_none None = tt
reads_none (Some xs) = refl

-- octets that come behind those that were used
pub front_behind : (front next used more : List ℕ) → IsFrontOf front used → HasNoLf more → next ≡ take 1202 (front ++ more) → IsFrontOf next (used ++ more)
front_behind front next used more is whole e = (
  All-append (λ b. b ≡ 10 → ⊥) used more is.0 whole,
  e ∙ ap (λ (f : List ℕ). take 1202 (f ++ more)) is.1 ∙ front_more 1202 used more,
)

pub held_cut : (used raw held next : List ℕ) → held ≡ raw ++ 10 ∷ next → ((used ++ raw) ++ 10 ∷ []) ++ next ≡ used ++ held
held_cut used raw held next e =
    append_assoc (used ++ raw) (10 ∷ []) next ∙ append_assoc used raw (10 ∷ next) ∙ ap (λ (xs : List ℕ). used ++ xs) (sym e)

pub held_none : (used held next : List ℕ) → next ≡ [] → (used ++ held) ++ next ≡ used ++ held
held_none used held next e = ap (λ (xs : List ℕ). (used ++ held) ++ xs) e ∙ append-nil (used ++ held)

-- a whole line, of which this front is kept

module _ (bearers elements number : ℕ) (left : Option (List ℕ)) (held raw front : List ℕ) (faults before time : ℕ) (old : SinkView)
    (is : IsFrontOf front raw) where
  abbrev line : List ℕ
  line = without_cr front

  abbrev saying : Saying
  saying = line_says bearers elements line

  abbrev begun : LinesAt
  begun = record { left = left; held = (raw ++ 10 ∷ []) ++ held; number = number; told = old; source_faults = faults; sink_faults = before; time = time }

  abbrev behind : SinkView → ℕ → LinesAt
  behind new after = record { left = left; held = held; number = one_more number; told = new; source_faults = faults; sink_faults = after; time = time }

  takes : (new : SinkView) (after : ℕ) → after ≡ before → TakesLine raw begun (behind new after)
  takes new after same = record {
    whole = is.0;
    cut = append_assoc raw (10 ∷ []) held;
    same = ap (behind new) same;
  }

  says : line_says bearers elements line ≡ line_says bearers elements (without_cr raw)
  says = ap (λ (f : List ℕ). line_says bearers elements (without_cr f)) is.1 ∙ front_says bearers elements raw

  pub passes_over : (new : SinkView) (after : ℕ) → after ≡ before → IsTaken None (one_more number) line saying old new
      → PassesOver bearers elements raw begun (behind new after)
  passes_over new after same h = record {
    takes = takes new after same;
    told = told_of bearers elements (one_more number) raw old new (subst (λ (f : List ℕ). IsTaken None (one_more number) (without_cr f) (line_says bearers elements (without_cr f)) old new) is.1 h);
  }

  pub gives : (event : ScriptLine) (new : SinkView) (after : ℕ) → after ≡ before → IsTaken (Some event) (one_more number) line saying old new
      → SaysEvent bearers elements event begun (behind new after)
  gives event new after same h = record {
    raw = raw;
    takes = takes new after same;
    says = sym says ∙ h.0;
    untold = h.1;
  }

  text_is : (rule : ℕ) → wrong_text (one_more number) rule line ≡ wrong_text (one_more number) rule (without_cr raw)
  text_is rule = ap (λ (f : List ℕ). wrong_text (one_more number) rule (without_cr f)) is.1 ∙ front_told (one_more number) rule raw

  pub loses : (why : LineStop) (n : ℕ) (new : SinkView) (after : ℕ) → IsLost why (one_more number) line saying old before new after
      → FailsBy bearers elements why n begun (behind new after)
  loses L.Errors n new after h = record {
    text = wrong_text (one_more number) h.0 (without_cr raw);
    due = inl (record {
      raw = raw;
      rest = held;
      rule = h.0;
      whole = is.0;
      cut = append_assoc raw (10 ∷ []) held;
      says = sym says ∙ h.1;
      is = refl;
    });
    front = subst (λ (text : List ℕ). HandedFront text old new) (text_is h.0) h.2;
    cause = h.3;
    read = reads_none left;
    same = refl;
  }
  loses L.Memory n new after h = record {
    read = reads_none left;
    same = ap (λ (told : SinkView). behind told after) h.0 ∙ ap (behind old) h.1;
  }
  loses L.Source n new after h = absurd h
  loses L.Endless n new after h = absurd h
  loses L.OtherNode n new after h = absurd h

-- no whole line, and nothing is held but these octets, of which this front is kept

module _ (bearers elements number : ℕ) (left : Option (List ℕ)) (used front : List ℕ) (faults before time : ℕ) (old : SinkView)
    (is : IsFrontOf front used) where
  abbrev waiting : LinesAt
  waiting = record { left = left; held = used ++ []; number = number; told = old; source_faults = faults; sink_faults = before; time = time }

  abbrev now : Option (List ℕ) → List ℕ → ℕ → SinkView → ℕ → ℕ → LinesAt
  now more held count told read_faults tell_faults =
      record { left = more; held = held; number = count; told = told; source_faults = read_faults; sink_faults = tell_faults; time = time }

  no_lf : HasNoLf (used ++ [])
  no_lf = subst HasNoLf (sym (append-nil used)) is.0

  pub reads_on : (more : Option (List ℕ)) (octets : List ℕ) (after : ℕ) → 0 < length octets → Consumes left more octets → after ≡ faults
      → ReadsOn octets waiting (now more (used ++ octets) number old after before)
  reads_on more octets after some read same = record {
    some = some;
    wanted = no_lf;
    read = read;
    same =
        ap (λ (n : ℕ). now more (used ++ octets) number old n before) same
        ∙ ap (λ (xs : List ℕ). now more (xs ++ octets) number old faults before) (sym (append-nil used));
  }

  some_rest : (xs : List ℕ) → 0 < length xs → with_rest number xs ≡ one_more number
  some_rest [] h = absurd (omega arith)
  some_rest (x ∷ xs) h = refl

  pub fails_at_end : (why : LineStop) (n : ℕ) (more : Option (List ℕ)) (new : SinkView) (after later : ℕ) → Consumes left more [] → IsAtEnd more
      → after ≡ faults → 0 < length front → IsUntold why (unended_text (one_more number)) old before new later
      → FailsBy bearers elements why n waiting (now more [] (with_rest number front) new after later)
  fails_at_end L.Errors n more new after later read end same some h = record {
    text = unended_text (one_more number);
    due = inr (no_lf, end, refl);
    front = h.0;
    cause = h.1;
    read = read;
    same =
        ap (λ (m : ℕ). now more [] m new after later) (some_rest front some)
        ∙ ap (λ (m : ℕ). now more [] (one_more number) new m later) same;
  }
  fails_at_end L.Memory n more new after later read end same some h = record {
    read = read;
    same =
        ap (λ (m : ℕ). now more [] m new after later) (some_rest front some)
        ∙ ap (λ (m : ℕ). now more [] (one_more number) new m later) same
        ∙ ap (λ (told : SinkView). now more [] (one_more number) told faults later) h.0
        ∙ ap (λ (m : ℕ). now more [] (one_more number) old faults m) h.1;
  }
  fails_at_end L.Source n more new after later read end same some h = absurd h
  fails_at_end L.Endless n more new after later read end same some h = absurd h
  fails_at_end L.OtherNode n more new after later read end same some h = absurd h
