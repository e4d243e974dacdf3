-- A line that says an event is one of a bearer that the node has.
use Rattle.std.proofs.Common.{◌≡◌, ℕ, ◌-◌, ◌<◌, ◌==◌, not, nat_lt, Bool, true, false, if◌then◌else◌, List, length, get_or, codes, refl, sym, ap, subst, ◌∙◌, Option, Some, None, Result, Ok, Err, inl, inr, arith}
use Rattle.std.specs.Option.{option_map}
use Rattle.std.specs.Str.{bytes_eq}
use Rattle.std.proofs.lemmas.Bool.{and_parts, cases_Bool, cond-false, eqb-true, ltb-true}
use Rattle.std.proofs.lemmas.Option.{cond_some, same_Some}
use Rattle.std.proofs.lemmas.Slice.Eq.{bytes_eq-Decides}
use Rattle.mesh_types.specs.declared.events.Event.TheVariants as V
use Rattle.script_definitions.specs.Events.{Happening, happening_of}
use Rattle.script_definitions.specs.Kinds.{bearer_kind, bearer_word, event_line, event_word, fields_of, happening, line_kind, word_count}
use Rattle.script_definitions.specs.Lines.{heard_line, peer_line, talk_line, beacon_line, send_line, raw_line, tick_line}
use Rattle.script_definitions.specs.Reading.{◌>>>◌, all_in_form, counted_line, has_form, is_counted, line_of_kind}
use Rattle.script_definitions.specs.Words.{word_at, words_of}
use Rattle.script_definitions.specs.declared.kind.EventKind.{EventKind}
use Rattle.script_definitions.specs.declared.kind.EventKind.TheVariants as E
use Rattle.script_definitions.specs.declared.kind.Grammar.TheVariants as G
use Rattle.script_definitions.specs.declared.kind.LineKind.{LineKind}
use Rattle.script_definitions.specs.declared.kind.LineKind.TheVariants as K
use Rattle.script_definitions.specs.declared.line.CountedLine.{CountedLine}
use Rattle.script_definitions.specs.declared.line.CountedLine.TheVariants as C
use Rattle.script_definitions.specs.declared.line.ScriptLine.{ScriptLine}
use Rattle.script_definitions.specs.declared.line.ScriptLine.TheVariants as L
use Rattle.live_lines.specs.Laws.{IsOwnEvent}
use Rattle.live_lines.specs.Saying.{full_words, is_own, line_says, said, words_say}
use Rattle.live_lines.specs.declared.saying.Saying.{Saying}
use Rattle.live_lines.specs.declared.saying.Saying.TheVariants as S

-- it happens on this bearer
pub record IsOn (k : ℕ) (line : ScriptLine) : Type 0 where
  pub event : Happening
  pub is : happening_of line ≡ Some event
  pub bearer : event.bearer ≡ k

made : {A : Type 0} (k : ℕ) (make : A → ScriptLine) (line : ScriptLine) (o : Option A) → ((x : A) → IsOn k (make x)) → option_map make o ≡ Some line → IsOn k line
made k make line None each e = absurd cc
made k make line (Some x) each e = subst (IsOn k) (same_Some (make x) line e) (each x)

-- a line of a kind that a node's script has

event_at : (elements k : ℕ) (event : EventKind) (ws : List (List ℕ)) (line : ScriptLine) (f : LineKind → Result CountedLine ℕ)
    → (happening G.Node k (Some event) >>> f) ≡ Ok (C.Line line) → event_line elements k event ws ≡ Some line → IsOn k line
event_at elements k E.Net ws line f h = made k (L.Net k) line (heard_line ws) (λ x. record { event = record { bearer = k; event = V.Net x }; is = refl; bearer = refl })
event_at elements k E.Bcn ws line f h = made k (L.Bcn k) line (heard_line ws) (λ x. record { event = record { bearer = k; event = V.Bcn x }; is = refl; bearer = refl })
event_at elements k E.Peer ws line f h = made k (L.Peer k) line (peer_line ws) (λ x. record { event = _; is = refl; bearer = refl })
event_at elements k E.Talk ws line f h = made k (L.Talk k) line (talk_line ws) (λ x. record { event = _; is = refl; bearer = refl })
event_at elements k E.Beacon ws line f h = made k (L.Beacon k) line (beacon_line ws) (λ x. record { event = _; is = refl; bearer = refl })
event_at elements k E.Send ws line f h = made k (L.Send k) line (send_line elements ws) (λ x. record { event = _; is = refl; bearer = refl })
event_at elements k E.Raw ws line f h = made k (L.Raw k) line (raw_line ws) (λ x. record { event = _; is = refl; bearer = refl })
event_at elements k E.Tick ws line f h = made k (L.Tick k) line (tick_line ws) (λ x. record { event = record { bearer = k; event = V.Tick x }; is = refl; bearer = refl })
event_at elements k E.Seek ws line f h = absurd cc
event_at elements k E.Poll ws line f h = absurd cc
event_at elements k E.List ws line f h = absurd cc

in_form : (t : Bool) (o : Option CountedLine) (it : CountedLine) → (if t then all_in_form o else Err 4) ≡ Ok it → o ≡ Some it
in_form true None it h = absurd cc
in_form true (Some x) it h = cc
in_form false o it h = absurd cc

fields_are : (elements : ℕ) (kind : LineKind) (ws : List (List ℕ)) (line : CountedLine) → line_of_kind elements kind ws ≡ Ok line → fields_of elements kind ws ≡ Some line
unfolding line_of_kind
fields_are elements kind ws line h = in_form (length ws == word_count kind) (fields_of elements kind ws) line h

line_in : (o : Option ScriptLine) (line : ScriptLine) → option_map C.Line o ≡ Some (C.Line line) → o ≡ Some line
line_in None line h = absurd cc
line_in (Some x) line h = cc

-- which kinds go on
known : (event : EventKind) (k : ℕ) (f : LineKind → Result CountedLine ℕ) (it : CountedLine) → (happening G.Node k (Some event) >>> f) ≡ Ok it → f (K.Bearer k event) ≡ Ok it
known E.Net k f it h = h
known E.Bcn k f it h = h
known E.Peer k f it h = h
known E.Talk k f it h = h
known E.Beacon k f it h = h
known E.Send k f it h = h
known E.Raw k f it h = h
known E.Tick k f it h = h
known E.Seek k f it h = absurd cc
known E.Poll k f it h = absurd cc
known E.List k f it h = absurd cc

by_event : (elements k : ℕ) (ws : List (List ℕ)) (line : ScriptLine) (o : Option EventKind)
    → (happening G.Node k o >>> λ kind. line_of_kind elements kind ws) ≡ Ok (C.Line line) → IsOn k line
by_event elements k ws line None h = absurd cc
by_event elements k ws line (Some event) h =
    let f : LineKind → Result CountedLine ℕ = λ kind. line_of_kind elements kind ws in
    event_at elements k event ws line f h
    (line_in (event_line elements k event ws) line (fields_are elements (K.Bearer k event) ws (C.Line line) (known event k f (C.Line line) h)))

by_kind : (elements k : ℕ) (ws : List (List ℕ)) (line : ScriptLine) (short : Bool) (o : Option EventKind)
    → ((if short then Err 4 else happening G.Node k o) >>> λ kind. line_of_kind elements kind ws) ≡ Ok (C.Line line) → IsOn k line
by_kind elements k ws line true o h = absurd cc
by_kind elements k ws line false o h = by_event elements k ws line o h

-- the word of a bearer is no other word

two : (word : List ℕ) (k : ℕ) → bearer_word G.Node word ≡ Some k → length word ≡ 2
unfolding bearer_word
two word k h =
    let all = (cond_some _ (get_or word 1 0 - 48) k h).0 in
    eqb-true (length word) 2 (and_parts _ _ (and_parts _ _ (and_parts _ _ all).0).0).0

apart : (word other : List ℕ) → length word ≡ 2 → (length other ≡ 2 → ⊥) → bytes_eq word other ≡ false
apart word other h k =
    elim (cases_Bool (bytes_eq word other)) [
      | inl e ↦ absurd (k (sym (ap length ((bytes_eq-Decides word other).0 e)) ∙ h))
      | inr e ↦ e
    ]

kind_is : (ws : List (List ℕ)) (k : ℕ) → bearer_word G.Node (word_at ws 0) ≡ Some k → line_kind G.Node ws ≡ bearer_kind G.Node ws (Some k)
unfolding line_kind
kind_is ws k h =
    let word = word_at ws 0 in
    let long = two word k h in
    cond-false (bytes_eq word (codes "provision")) _ _ (apart word (codes "provision") long (λ e. omega arith))
    ∙ cond-false (bytes_eq word (codes "life")) _ _ (apart word (codes "life") long (λ e. omega arith))
    ∙ cond-false (bytes_eq word (codes "arm")) _ _ (apart word (codes "arm") long (λ e. omega arith))
    ∙ cond-false (bytes_eq word (codes "sync")) _ _ (apart word (codes "sync") long (λ e. omega arith))
    ∙ ap (bearer_kind G.Node ws) h

counted_on : (elements k : ℕ) (ws : List (List ℕ)) (line : ScriptLine) → bearer_word G.Node (word_at ws 0) ≡ Some k
    → counted_line G.Node elements ws ≡ Ok (C.Line line) → IsOn k line
unfolding counted_line
counted_on elements k ws line word h =
    by_kind elements k ws line (nat_lt (length ws) 2) (event_word (word_at ws 1))
    (ap (λ (kind : Result LineKind ℕ). kind >>> λ kind. line_of_kind elements kind ws) (sym (kind_is ws k word)) ∙ h)

-- what is said

said_line : (r : Result CountedLine ℕ) (line : ScriptLine) → said r ≡ S.Happens line → r ≡ Ok (C.Line line)
said_line (Ok (C.Line x)) line h = cc
said_line (Ok (C.Provision x)) line h = absurd cc
said_line (Ok C.Life) line h = absurd cc
said_line (Err rule) line h = absurd cc

first_is : (t : Bool) (saying : Saying) (rule : ℕ) (line : ScriptLine) → (if t then saying else S.Wrong rule) ≡ S.Happens line → (t ≡ true) × (saying ≡ S.Happens line)
first_is true saying rule line h = (refl, h)
first_is false saying rule line h = absurd cc

own_word : (bearers : ℕ) (o : Option ℕ) → is_own bearers o ≡ true → (k : ℕ) × (o ≡ Some k) × (k < bearers)
own_word bearers None h = absurd cc
own_word bearers (Some k) h = (k, refl, ltb-true k bearers h)

words_own : (bearers elements : ℕ) (ws : List (List ℕ)) (line : ScriptLine) → words_say bearers elements ws ≡ S.Happens line → IsOwnEvent bearers line
words_own bearers elements ws line h =
    let parts = first_is (is_own bearers (bearer_word G.Node (word_at ws 0))) (said (counted_line G.Node elements ws)) 3 line h in
    let word = own_word bearers (bearer_word G.Node (word_at ws 0)) parts.0 in
    let at = counted_on elements word.0 ws line word.1 (said_line (counted_line G.Node elements ws) line parts.1) in
    record { happening = at.event; is = at.is; within = subst (λ (k : ℕ). k < bearers) (sym at.bearer) word.2 }

said_behind : (form counts : Bool) (saying : Saying) (line : ScriptLine)
    → (if not form then S.Wrong 1 else if not counts then S.Nothing else saying) ≡ S.Happens line → saying ≡ S.Happens line
said_behind false counts saying line h = absurd cc
said_behind true false saying line h = absurd cc
said_behind true true saying line h = h

pub own : (bearers elements : ℕ) (octets : List ℕ) (line : ScriptLine) → line_says bearers elements octets ≡ S.Happens line → IsOwnEvent bearers line
unfolding line_says
own bearers elements octets line h =
    words_own bearers elements (full_words bearers (words_of octets)) line
    (said_behind (has_form octets) (is_counted octets) (words_say bearers elements (full_words bearers (words_of octets))) line h)
