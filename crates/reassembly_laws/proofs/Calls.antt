-- What a call on the table leaves of the message of a name.
use Rattle.std.proofs.Common.{◌≡◌, ℕ, ◌-◌, ◌≤◌, Bool, true, false, cond, not, ltb, List, [], ◌∷◌, map, take, refl, ap, sym, subst, ◌∙◌, arith, Option, Some, None, is_some}
use Rattle.std.specs.Prelude.{slice_set, unwrap_or}
use Rattle.std.specs.List.{AllByRecursion}
use Rattle.std.specs.Option.{option_map}
use Rattle.std.proofs.lemmas.Bool.Decides.{nat_tests}
use Rattle.layer_states.specs.Names.{is_name}
use Rattle.layer_states.specs.Reassembly.{begun, has_no_room, heard_by, timer_after, is_at_odds as is_at_odds_in, is_due, judged, judged_after, live, message_for, missing_of, names_of, noted, outcome, piece_at, piece_of, place_of, put_message, rung, seg_n_of, seg_o_of, taken, whole_of, with_piece, without}
use Rattle.layer_states.specs.declared.reassembly.Assembly.{Assembly}
use Rattle.layer_states.specs.declared.reassembly.PartHeard.{PartHeard}
use Rattle.layer_states.specs.declared.reassembly.Taken.{Taken}
use Rattle.layer_states.specs.declared.reassembly.Taken.TheVariants as T
use Rattle.mesh_base.specs.declared.pair.Name.{Name}
use Rattle.node_limits.specs.declared.TheConstants.{MESSAGES_IN_PROGRESS}
use Rattle.reassembly_laws.proofs.Pieces.{IsKind, IsLast, Matches, Stands, begun_stands, held_stands, heard_matches, odds_are, pieces_are}
use Rattle.reassembly_laws.proofs.Rows.{Distinct, alive, alive_again, distinct_live, distinct_put, distinct_rung, distinct_without, find_live, find_name, find_put, find_put_other, find_rung, find_without, found_name, message_is, none_without, put_in, put_is}
use Rattle.reassembly_laws.specs.Progress.{Piece, all_octets, is_at_odds, is_heard, is_open, with_segment}

-- What was heard of a message agrees with the message that is held, if one is.
abbrev pub Agrees : ℕ → Option Assembly → List Piece → Type 0
Agrees now None ps = is_open now ps ≡ false
Agrees now (Some a) ps = Matches a ps × (is_open now ps ≡ true)

pub record Held (n : Name) (now : ℕ) (rows : List Assembly) (ps : List Piece) : Type 0 where
  pub distinct : Distinct rows
  pub agrees : Agrees now (alive now (find_name n rows)) ps

open_is : (now : ℕ) (a : Assembly) (ps : List Piece) → IsLast a ps → is_open now ps ≡ ltb (now - a.renewed) 1000
open_is now a [] h = absurd h
open_is now a (p ∷ ps) h = ap (λ at. ltb (now - at) 1000) (sym h)

-- Time.

over_later : (now later at : ℕ) → now ≤ later → ltb (now - at) 1000 ≡ false → ltb (later - at) 1000 ≡ false
over_later now later at h e = grind (arith, nat_tests, h, e)

closed_later : (now later : ℕ) (ps : List Piece) → now ≤ later → is_open now ps ≡ false → is_open later ps ≡ false
closed_later now later [] h e = refl
closed_later now later (p ∷ ps) h e = over_later now later p.at h e

pub agrees_later : (now later : ℕ) (o : Option Assembly) (ps : List Piece) → now ≤ later → Agrees now (alive now o) ps → Agrees later (alive later o) ps
agrees_later now later None ps h k = closed_later now later ps h k
agrees_later now later (Some a) ps h k = test (ltb (now - a.renewed) 1000) refl k
  where
    still : (b : Bool) → ltb (later - a.renewed) 1000 ≡ b → Matches a ps → Agrees later (cond b (Some a) None) ps
    still true e m = (m, open_is later a ps m.last ∙ e)
    still false e m = open_is later a ps m.last ∙ e

    test : (b : Bool) → ltb (now - a.renewed) 1000 ≡ b → Agrees now (cond b (Some a) None) ps → Agrees later (cond (ltb (later - a.renewed) 1000) (Some a) None) ps
    test true e k = still (ltb (later - a.renewed) 1000) refl k.0
    test false e k =
        let over : ltb (later - a.renewed) 1000 ≡ false = over_later now later a.renewed h e in
        rw over (closed_later now later ps h k)

-- Acknowledgments.

rung_renewed : (now : ℕ) (a : Assembly) → (rung now a).renewed ≡ a.renewed
rung_renewed now a = (elim (is_due now a) as (λ b. (cond b (record a { timer = None }) a).renewed ≡ a.renewed) [
  | true ↦ refl
  | false ↦ refl
])

untimed_kinds : (a : Assembly) (ps : List Piece) → AllByRecursion (IsKind a) ps → AllByRecursion (IsKind (record a { timer = None })) ps
untimed_kinds a [] h = tt
untimed_kinds a (p ∷ ps) h = (record { dst = h.0.dst; net = h.0.net; form = h.0.form; size = h.0.size }, untimed_kinds a ps h.1)

untimed_last : (a : Assembly) (ps : List Piece) → IsLast a ps → IsLast (record a { timer = None }) ps
untimed_last a [] h = h
untimed_last a (p ∷ ps) h = h

rung_matches : (now : ℕ) (a : Assembly) (ps : List Piece) → Matches a ps → Matches (rung now a) ps
rung_matches now a ps m = test (is_due now a)
  where
    test : (b : Bool) → Matches (cond b (record a { timer = None }) a) ps
    test true = record { kinds = untimed_kinds a ps m.kinds; pieces = m.pieces; last = untimed_last a ps m.last }
    test false = m

rung_agrees : (now : ℕ) (o : Option Assembly) (ps : List Piece) → Agrees now (alive now o) ps → Agrees now (alive now (option_map (rung now) (alive now o))) ps
rung_agrees now None ps h = h
rung_agrees now (Some a) ps h = test (ltb (now - a.renewed) 1000) refl h
  where
    test : (b : Bool) → ltb (now - a.renewed) 1000 ≡ b → Agrees now (cond b (Some a) None) ps
        → Agrees now (alive now (option_map (rung now) (cond b (Some a) None))) ps
    test true e k =
        subst (λ c. Agrees now (cond c (Some (rung now a)) None) ps) (sym (ap (λ r. ltb (now - r) 1000) (rung_renewed now a) ∙ e)) (rung_matches now a ps k.0, k.1)
    test false e k = k

pub after_tick : (n : Name) (now later : ℕ) (rows : List Assembly) (ps : List Piece) → now ≤ later → Held n now rows ps
    → Held n later (map (rung later) (live later rows)) ps
after_tick n now later rows ps h k = record {
  distinct = distinct_rung later (live later rows) (distinct_live later rows k.distinct);
  agrees = subst (λ o. Agrees later (alive later o) ps)
      (sym (find_rung n later (live later rows) ∙ ap (option_map (rung later)) (find_live n later rows k.distinct)))
      (rung_agrees later (find_name n rows) ps (agrees_later now later (find_name n rows) ps h k.agrees));
}

-- A message that is done.

pub after_release : (n : Name) (now : ℕ) (rows : List Assembly) → Distinct rows → Held n now (without n rows) []
after_release n now rows h = record {
  distinct = distinct_without n rows h;
  agrees = subst (λ o. Agrees now (alive now o) []) (sym (none_without n rows)) refl;
}

pub after_other_release : (n m : Name) (now : ℕ) (rows : List Assembly) (ps : List Piece) → is_name n m ≡ false → Held n now rows ps
    → Held n now (without m rows) ps
after_other_release n m now rows ps other h = record {
  distinct = distinct_without m rows h.distinct;
  agrees = subst (λ o. Agrees now (alive now o) ps) (sym (find_without m n rows other)) h.agrees;
}

-- A segment.

module _ (now : ℕ) (rows : List Assembly) (distinct : Distinct rows) (h : PartHeard) where
  abbrev pub those : List Assembly
  those = live now rows

  -- the message of the segment, among those in progress
  abbrev pub held : Option Assembly
  held = alive now (find_name h.name rows)

  abbrev pub message : Assembly
  message = unwrap_or held (begun now h)

  pub found : find_name h.name those ≡ held
  found = find_live h.name now rows distinct

  pub message_so : message_for those now h ≡ message
  message_so = message_is those now h ∙ ap (λ o. unwrap_or o (begun now h)) found

  message_name : message.name ≡ h.name
  message_name = by_held held found
    where
      by_held : (o : Option Assembly) → find_name h.name those ≡ o → (unwrap_or o (begun now h)).name ≡ h.name
      by_held None e = refl
      by_held (Some a) e = found_name h.name those a e

  judged_name : (judged_after message now h).name ≡ message.name
  judged_name = by_tests (is_at_odds_in message h) (is_some (piece_at message.pieces (seg_o_of h.part)))
    where
      by_tests : (odd heard : Bool)
          → (cond odd message (cond heard message (record message { pieces = slice_set message.pieces (seg_o_of h.part) (Some (piece_of h.part)); renewed = now; timer = timer_after now message.timer h }))).name ≡ message.name
      by_tests true heard = refl
      by_tests false true = refl
      by_tests false false = refl

  abbrev put : Assembly → List Assembly
  put a = put_in h.name a those

  noted_so : noted those now h ≡ cond (has_no_room h.name those) those (put (judged_after message now h))
  noted_so =
      ap (λ a. cond (has_no_room h.name those) those (put_message (place_of h.name those) (judged_after a now h) those)) message_so
      ∙ ap (λ l. cond (has_no_room h.name those) those l) (put_is h.name (judged_after message now h) those)

  taken_so : taken those now h ≡ cond (has_no_room h.name those) (T.NoRoom (take MESSAGES_IN_PROGRESS (names_of those))) (judged message now h)
  taken_so = ap (λ a. cond (has_no_room h.name those) (T.NoRoom (take MESSAGES_IN_PROGRESS (names_of those))) (judged a now h)) message_so

  pub noted_distinct : Distinct (noted those now h)
  noted_distinct = subst Distinct (sym noted_so) (test (has_no_room h.name those))
    where
      test : (b : Bool) → Distinct (cond b those (put (judged_after message now h)))
      test true = distinct_live now rows distinct
      test false = distinct_put h.name (judged_after message now h) those (judged_name ∙ message_name) (distinct_live now rows distinct)

  -- another message
  pub after_other_segment : (n : Name) (ps : List Piece) → is_name n h.name ≡ false → Agrees now (alive now (find_name n rows)) ps → Held n now (noted those now h) ps
  after_other_segment n ps other agrees = record {
    distinct = noted_distinct;
    agrees = subst (λ o. Agrees now o ps)
        (sym (ap (alive now) (ap (find_name n) noted_so ∙ test (has_no_room h.name those) ∙ find_live n now rows distinct) ∙ alive_again now (find_name n rows))) agrees;
  }
    where
      test : (b : Bool) → find_name n (cond b those (put (judged_after message now h))) ≡ find_name n those
      test true = refl
      test false = find_put_other n h.name (judged_after message now h) those (judged_name ∙ message_name) other

  -- this message, where the segment leaves all as it was
  pub after_no_segment : (ps : List Piece) → noted those now h ≡ those → Agrees now held ps → Held h.name now (noted those now h) ps
  after_no_segment ps same agrees = record {
    distinct = noted_distinct;
    agrees = subst (λ o. Agrees now o ps) (sym (ap (alive now) (ap (find_name h.name) same ∙ found) ∙ alive_again now (find_name h.name rows))) agrees;
  }

-- a segment of this message, by what becomes of it

abbrev pub current : ℕ → List Piece → List Piece
current now ps = cond (is_open now ps) ps []

pub joins_current : (now : ℕ) (ps : List Piece) (h : PartHeard) → with_segment now (current now ps) h ≡ with_segment now ps h
joins_current now ps h = test (is_open now ps) refl
  where
    test : (b : Bool) → is_open now ps ≡ b → with_segment now (cond b ps []) h ≡ with_segment now ps h
    test true e = refl
    test false e = rw e refl

pub stands_by : (now : ℕ) (h : PartHeard) (o : Option Assembly) (ps : List Piece) → Agrees now o ps → Stands now (unwrap_or o (begun now h)) (current now ps) h
stands_by now h None ps e = rw e (begun_stands now h)
stands_by now h (Some a) ps k = rw k.1 (held_stands now a ps h k.0 k.1)

open_joined : (now : ℕ) (ps : List Piece) (h : PartHeard) → is_open now (with_segment now ps h) ≡ true
open_joined now ps h = test (is_open now ps) refl (is_heard ps (seg_o_of h.part))
  where
    fresh : ltb (now - now) 1000 ≡ true
    fresh = grind (arith, nat_tests)

    test : (b : Bool) → is_open now ps ≡ b → (c : Bool) → is_open now (cond (not b) (record { at = now; part = h } ∷ []) (cond c ps (record { at = now; part = h } ∷ ps))) ≡ true
    test true e true = e
    test true e false = fresh
    test false e c = fresh

alive_matches : (now : ℕ) (a : Assembly) (ps : List Piece) → Agrees now (Some a) ps → Agrees now (alive now (Some a)) ps
alive_matches now a ps k = rw (sym (open_is now a ps k.0.last) ∙ k.1) k

record Which (full odd : Bool) (x : Taken) : Type 0 where
  waits : (missing : ℕ) → x ≡ T.Waiting missing → (full ≡ false) × (odd ≡ false)
  conflicts : x ≡ T.Conflict → (full ≡ false) × (odd ≡ true)
  no_room : (names : List Name) → x ≡ T.NoRoom names → full ≡ true

outcome_waits : (b : Bool) (missing : ℕ) (octets : List ℕ) → Which false false (cond b (T.Waiting missing) (T.Whole octets))
outcome_waits true missing octets = record { waits = λ m e. (refl, refl); conflicts = λ e. absurd cc; no_room = λ ns e. absurd cc }
outcome_waits false missing octets = record { waits = λ m e. (refl, refl); conflicts = λ e. absurd cc; no_room = λ ns e. absurd cc }

which : (full odd : Bool) (names : List Name) (ps : List (Option (List ℕ))) → Which full odd (cond full (T.NoRoom names) (cond odd T.Conflict (outcome ps)))
which true odd names ps = record { waits = λ m e. absurd cc; conflicts = λ e. absurd cc; no_room = λ ns e. refl }
which false true names ps = record { waits = λ m e. absurd cc; conflicts = λ e. (refl, refl); no_room = λ ns e. absurd cc }
which false false names ps = outcome_waits (ltb 0 (missing_of ps)) (missing_of ps) (whole_of ps)

conflict_by : (now : ℕ) (h : PartHeard) (o : Option Assembly) (ps : List Piece) → seg_o_of h.part ≤ seg_n_of h.part → Agrees now o ps
    → is_at_odds_in (unwrap_or o (begun now h)) h ≡ true → Agrees now (alive now (Some (unwrap_or o (begun now h)))) ps
conflict_by now h None ps fits k e =
    absurd (let other : true ≡ false = sym e ∙ odds_are now (begun now h) [] h (begun_stands now h) fits in cc)
conflict_by now h (Some a) ps fits k e = alive_matches now a ps k

module _ (now : ℕ) (rows : List Assembly) (distinct : Distinct rows) (h : PartHeard) (fits : seg_o_of h.part ≤ seg_n_of h.part) (ps : List Piece)
    (agrees : Agrees now (held now rows distinct h) ps) where
  abbrev m : Assembly
  m = message now rows distinct h

  stands : Stands now m (current now ps) h
  stands = stands_by now h (held now rows distinct h) ps agrees

  abbrev full : Bool
  full = has_no_room h.name (those now rows distinct h)

  told : Which full (is_at_odds_in m h) (taken (those now rows distinct h) now h)
  told = subst (Which full (is_at_odds_in m h)) (sym (taken_so now rows distinct h)) (which full (is_at_odds_in m h) _ (with_piece m.pieces h.part))

  found_put : full ≡ false → find_name h.name (noted (those now rows distinct h) now h) ≡ Some (judged_after m now h)
  found_put e =
      ap (find_name h.name) (noted_so now rows distinct h ∙ ap (λ b. cond b (those now rows distinct h) (put now rows distinct h (judged_after m now h))) e)
      ∙ find_put h.name (judged_after m now h) (those now rows distinct h) (judged_name now rows distinct h ∙ message_name now rows distinct h)

  pub after_waiting : (missing : ℕ) → taken (those now rows distinct h) now h ≡ T.Waiting missing
      → Held h.name now (noted (those now rows distinct h) now h) (with_segment now ps h)
  after_waiting missing e =
      let (room, agree) = told.waits missing e in
      let is : judged_after m now h ≡ heard_by m now h = ap (λ b. cond b m (heard_by m now h)) agree in
      let matches : Matches (judged_after m now h) (with_segment now ps h) =
      subst (Matches (judged_after m now h)) (joins_current now ps h)
      (subst (λ a. Matches a (with_segment now (current now ps) h)) (sym is) (heard_matches now m (current now ps) h stands fits agree)) in
      record {
        distinct = noted_distinct now rows distinct h;
        agrees = subst (λ o. Agrees now (alive now o) (with_segment now ps h)) (sym (found_put room))
            (alive_matches now (judged_after m now h) (with_segment now ps h) (matches, open_joined now ps h));
      }

  pub after_conflict : taken (those now rows distinct h) now h ≡ T.Conflict → Held h.name now (noted (those now rows distinct h) now h) ps
  after_conflict e =
      let (room, odd) = told.conflicts e in
      let is : judged_after m now h ≡ m = ap (λ b. cond b m (heard_by m now h)) odd in
      record {
        distinct = noted_distinct now rows distinct h;
        agrees = subst (λ o. Agrees now (alive now o) ps) (sym (found_put room ∙ ap Some is))
            (conflict_by now h (held now rows distinct h) ps fits agrees odd);
      }

  pub after_no_room : (names : List Name) → taken (those now rows distinct h) now h ≡ T.NoRoom names
      → Held h.name now (noted (those now rows distinct h) now h) ps
  after_no_room names e =
      after_no_segment now rows distinct h ps
      (ap (λ b. cond b (those now rows distinct h) (put_message (place_of h.name (those now rows distinct h)) (judged_after (message_for (those now rows distinct h) now h) now h) (those now rows distinct h))) (told.no_room names e))
      agrees

  -- what is answered to it
  pub odds_said : is_at_odds_in (message_for (those now rows distinct h) now h) h ≡ is_at_odds (current now ps) h
  odds_said = ap (λ a. is_at_odds_in a h) (message_so now rows distinct h) ∙ odds_are now m (current now ps) h stands fits

  pub pieces_said : is_at_odds (current now ps) h ≡ false
      → with_piece (message_for (those now rows distinct h) now h).pieces h.part ≡ all_octets (with_segment now (current now ps) h) (seg_n_of h.part)
  pieces_said e =
      ap (λ (a : Assembly). with_piece a.pieces h.part) (message_so now rows distinct h)
      ∙ pieces_are now m (current now ps) h stands fits (odds_are now m (current now ps) h stands fits ∙ e)
