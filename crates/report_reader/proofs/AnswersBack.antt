-- The fields of an answer's words, and the answer that they give back.
use Rattle.std.proofs.Common.{◌≡◌, ℕ, ◌+◌, ◌^◌, List, [], ◌∷◌, ◌++◌, length, Some, refl, arith, codes}
use Rattle.std.specs.Fmt.{decimal}
use Rattle.std.specs.List.{flat_map, AllByRecursion}
use Rattle.hex.specs.Hex.{encode_lower}
use Rattle.mesh_base.specs.Pairs.{IsPair}
use Rattle.mesh_base.specs.declared.iv_state.IvStep.{IvStep}
use Rattle.mesh_base.specs.declared.iv_state.IvStep.TheVariants as I
use Rattle.mesh_base.specs.declared.pair.Name.{Name}
use Rattle.mesh_base.specs.declared.pair.Pair.{Pair}
use Rattle.mesh_types.specs.declared.answers.Answer.{Answer}
use Rattle.mesh_types.specs.declared.answers.Answer.TheVariants as A
use Rattle.mesh_types.specs.declared.answers.KeyName.{KeyName}
use Rattle.mesh_types.specs.declared.answers.KeyName.TheVariants as N
use Rattle.mesh_types.specs.declared.answers.KeyStep.{KeyStep}
use Rattle.mesh_types.specs.declared.answers.KeyStep.TheVariants as S
use Rattle.mesh_types.specs.declared.events.Kind.{Kind}
use Rattle.mesh_types.specs.declared.events.Kind.TheVariants as K
use Rattle.mesh_types.specs.declared.low_power.LowPowerAnswer.{LowPowerAnswer}
use Rattle.mesh_types.specs.declared.low_power.LowPowerAnswer.TheVariants as P
use Rattle.report_definitions.specs.Report.{answer_text, low_power_text, key_text, key_step_text, iv_step_text, kind_text, params_text}
use Rattle.report_definitions.specs.Text.{hex_digits, pair_text, name_text, octets_text, word_text}
use Rattle.script_definitions.specs.Words.{word_at}
use Rattle.report_reader.specs.Forms.{pair_at, name_at}
use Rattle.report_reader.specs.Answers.{kind_word, low_power_answer, plain_answer, no_room, delivered, params_word, control, key_step_word, iv_step_at, beacon, told_answer, answer_of}
use Rattle.report_reader.specs.ReportLine.{IsName, IsOctets, IsToldAnswer}
use Rattle.report_reader.proofs.Back.{number_back, address_back, octets_back, params_back, key_field, key_back}
use Rattle.report_reader.proofs.Decimals.{decimal_back, below_back}
use Rattle.report_reader.proofs.Parts.{Adds, adds_none, ◌⊕◌, adds_field, whole_digits, whole_octets, whole_decimal}

-- Pieces of many lines.

abbrev pub pair_fields : Pair → List (List ℕ)
pair_fields p = hex_digits 8 p.iv ∷ hex_digits 6 p.seq ∷ []

abbrev pub name_fields : Name → List (List ℕ)
name_fields n = hex_digits 4 n.src.0 ∷ pair_fields n.pair

pub adds_digits : (k n : ℕ) → Adds (word_text (hex_digits k n)) (hex_digits k n ∷ [])
adds_digits k n = adds_field 32 (hex_digits k n) refl (whole_digits k n)

pub adds_decimal : (n : ℕ) → Adds (word_text (decimal n)) (decimal n ∷ [])
adds_decimal n = adds_field 32 (decimal n) refl (whole_decimal n)

pub adds_octets : (xs : List ℕ) → Adds (octets_text xs) (encode_lower xs ∷ [])
adds_octets xs = adds_field 32 (encode_lower xs) refl (whole_octets xs)

pub adds_pair : (p : Pair) → Adds (pair_text p) (pair_fields p)
adds_pair p = adds_digits 8 p.iv ⊕ adds_digits 6 p.seq

adds_behind_slash : (k n : ℕ) → Adds (codes "/" ++ hex_digits k n) (hex_digits k n ∷ [])
adds_behind_slash k n = adds_field 47 (hex_digits k n) refl (whole_digits k n)

pub adds_name : (n : Name) → Adds (name_text n) (name_fields n)
adds_name n = adds_digits 4 n.src.0 ⊕ adds_behind_slash 8 n.pair.iv ⊕ adds_behind_slash 6 n.pair.seq

pub adds_key : (key : KeyName) → Adds (key_text key) (key_field key ∷ [])
adds_key N.Dev = adds_field 32 (codes "dev") refl refl
adds_key (N.App index) = adds_field 32 (codes "app:" ++ hex_digits 3 index) refl (whole_digits 3 index)

-- The words of answers.

abbrev pub kind_field : Kind → List ℕ
kind_field K.Net = codes "net"
kind_field K.Bcn = codes "bcn"
kind_field K.Send = codes "send"
kind_field K.Raw = codes "raw"
kind_field K.Tick = codes "tick"
kind_field K.Begin = codes "begin"
kind_field K.Kept = codes "kept"
kind_field K.Seek = codes "seek"
kind_field K.Poll = codes "poll"
kind_field K.List = codes "list"

pub adds_kind : (k : Kind) → Adds (kind_text k) (kind_field k ∷ [])
adds_kind K.Net = adds_field 32 (codes "net") refl refl
adds_kind K.Bcn = adds_field 32 (codes "bcn") refl refl
adds_kind K.Send = adds_field 32 (codes "send") refl refl
adds_kind K.Raw = adds_field 32 (codes "raw") refl refl
adds_kind K.Tick = adds_field 32 (codes "tick") refl refl
adds_kind K.Begin = adds_field 32 (codes "begin") refl refl
adds_kind K.Kept = adds_field 32 (codes "kept") refl refl
adds_kind K.Seek = adds_field 32 (codes "seek") refl refl
adds_kind K.Poll = adds_field 32 (codes "poll") refl refl
adds_kind K.List = adds_field 32 (codes "list") refl refl

pub kind_back : (k : Kind) → kind_word (kind_field k) ≡ Some k
unfolding kind_word
kind_back K.Net = refl
kind_back K.Bcn = refl
kind_back K.Send = refl
kind_back K.Raw = refl
kind_back K.Tick = refl
kind_back K.Begin = refl
kind_back K.Kept = refl
kind_back K.Seek = refl
kind_back K.Poll = refl
kind_back K.List = refl

abbrev key_step_field : KeyStep → List ℕ
key_step_field S.Same = codes "same"
key_step_field S.Phase2 = codes "phase2"
key_step_field S.Phase0 = codes "phase0"

adds_key_step : (s : KeyStep) → Adds (key_step_text s) (key_step_field s ∷ [])
adds_key_step S.Same = adds_field 32 (codes "same") refl refl
adds_key_step S.Phase2 = adds_field 32 (codes "phase2") refl refl
adds_key_step S.Phase0 = adds_field 32 (codes "phase0") refl refl

key_step_back : (s : KeyStep) → key_step_word (key_step_field s) ≡ Some s
unfolding key_step_word
key_step_back S.Same = refl
key_step_back S.Phase2 = refl
key_step_back S.Phase0 = refl

abbrev iv_step_fields : IvStep → List (List ℕ)
iv_step_fields (I.Ignore rule) = codes "ignore" ∷ decimal rule ∷ []
iv_step_fields (I.Begin to) = codes "begin" ∷ []
iv_step_fields (I.Finish to) = codes "finish" ∷ []
iv_step_fields (I.Recover to) = codes "recover" ∷ []
iv_step_fields I.Wait = codes "wait" ∷ []

adds_iv_step : (s : IvStep) → Adds (iv_step_text s) (iv_step_fields s)
adds_iv_step (I.Ignore rule) = adds_field 32 (codes "ignore") refl refl ⊕ adds_decimal rule
adds_iv_step (I.Begin to) = adds_field 32 (codes "begin") refl refl
adds_iv_step (I.Finish to) = adds_field 32 (codes "finish") refl refl
adds_iv_step (I.Recover to) = adds_field 32 (codes "recover") refl refl
adds_iv_step I.Wait = adds_field 32 (codes "wait") refl refl

abbrev params_field : List ℕ → List ℕ
params_field [] = codes "-"
params_field (x ∷ xs) = encode_lower (x ∷ xs)

adds_params : (xs : List ℕ) → Adds (params_text xs) (params_field xs ∷ [])
adds_params [] = adds_field 32 (codes "-") refl refl
adds_params (x ∷ xs) = adds_octets (x ∷ xs)

abbrev names_fields : List Name → List (List ℕ)
names_fields [] = []
names_fields (n ∷ ns) = name_fields n ++ names_fields ns

adds_names : (ns : List Name) → Adds (flat_map name_text ns) (names_fields ns)
adds_names [] = adds_none
adds_names (n ∷ ns) = adds_name n ⊕ adds_names ns

abbrev low_power_fields : LowPowerAnswer → List (List ℕ)
low_power_fields P.Segmented = codes "segmented" ∷ []
low_power_fields P.Unasked = codes "unasked" ∷ []
low_power_fields P.Repeat = codes "repeat" ∷ []
low_power_fields P.Sought = codes "sought" ∷ []
low_power_fields P.Polled = codes "polled" ∷ []
low_power_fields P.NoFriend = codes "nofriend" ∷ []
low_power_fields P.Listed = codes "listed" ∷ []
low_power_fields (P.TooMany held) = codes "toomany" ∷ decimal held ∷ []

abbrev pub answer_fields : Answer → List (List ℕ)
answer_fields A.Unread = codes "unread" ∷ []
answer_fields A.BadAddress = codes "badaddress" ∷ []
answer_fields A.Own = codes "own" ∷ []
answer_fields A.Cached = codes "cached" ∷ []
answer_fields A.NotMine = codes "notmine" ∷ []
answer_fields A.Malformed = codes "malformed" ∷ []
answer_fields A.Again = codes "again" ∷ []
answer_fields (A.Replay kept) = codes "replay" ∷ pair_fields kept
answer_fields (A.NoRoom held) = codes "noroom" ∷ names_fields held
answer_fields A.Conflict = codes "conflict" ∷ []
answer_fields (A.Waiting missing) = codes "waiting" ∷ decimal missing ∷ []
answer_fields A.NoKey = codes "nokey" ∷ []
answer_fields (A.ListFull held) = codes "listfull" ∷ decimal held ∷ []
answer_fields (A.Delivered name dst key payload) =
    codes "delivered" ∷ hex_digits 4 name.src.0 ∷ hex_digits 4 dst.0 ∷ hex_digits 8 name.pair.iv ∷ hex_digits 6 name.pair.seq ∷ key_field key ∷ encode_lower payload ∷ []
answer_fields (A.Control name dst opcode params) =
    codes "control" ∷ hex_digits 4 name.src.0 ∷ hex_digits 4 dst.0 ∷ hex_digits 8 name.pair.iv ∷ hex_digits 6 name.pair.seq ∷ hex_digits 2 opcode ∷ params_field params ∷ []
answer_fields (A.Beacon index key iv) = codes "beacon" ∷ hex_digits 3 index ∷ key_step_field key ∷ iv_step_fields iv
answer_fields A.Planned = codes "planned" ∷ []
answer_fields (A.NoAppKey index) = codes "noappkey" ∷ hex_digits 3 index ∷ []
answer_fields (A.Ticked now) = codes "ticked" ∷ decimal now ∷ []
answer_fields A.Begun = codes "begun" ∷ []
answer_fields (A.Moved iv) = codes "moved" ∷ hex_digits 8 iv ∷ []
answer_fields A.Befriended = codes "befriended" ∷ []
answer_fields (A.SendFull held) = codes "sendfull" ∷ decimal held ∷ []
answer_fields A.Kept = codes "kept" ∷ []
answer_fields A.Dropped = codes "dropped" ∷ []
answer_fields (A.LowPower answer) = low_power_fields answer
answer_fields A.Reset = codes "reset" ∷ []

adds_low_power : (a : LowPowerAnswer) → Adds (low_power_text a) (low_power_fields a)
adds_low_power P.Segmented = adds_field 32 (codes "segmented") refl refl
adds_low_power P.Unasked = adds_field 32 (codes "unasked") refl refl
adds_low_power P.Repeat = adds_field 32 (codes "repeat") refl refl
adds_low_power P.Sought = adds_field 32 (codes "sought") refl refl
adds_low_power P.Polled = adds_field 32 (codes "polled") refl refl
adds_low_power P.NoFriend = adds_field 32 (codes "nofriend") refl refl
adds_low_power P.Listed = adds_field 32 (codes "listed") refl refl
adds_low_power (P.TooMany held) = adds_field 32 (codes "toomany") refl refl ⊕ adds_decimal held

pub adds_answer : (a : Answer) → Adds (answer_text a) (answer_fields a)
unfolding answer_text
adds_answer A.Unread = adds_field 32 (codes "unread") refl refl
adds_answer A.BadAddress = adds_field 32 (codes "badaddress") refl refl
adds_answer A.Own = adds_field 32 (codes "own") refl refl
adds_answer A.Cached = adds_field 32 (codes "cached") refl refl
adds_answer A.NotMine = adds_field 32 (codes "notmine") refl refl
adds_answer A.Malformed = adds_field 32 (codes "malformed") refl refl
adds_answer A.Again = adds_field 32 (codes "again") refl refl
adds_answer (A.Replay kept) = adds_field 32 (codes "replay") refl refl ⊕ adds_pair kept
adds_answer (A.NoRoom held) = adds_field 32 (codes "noroom") refl refl ⊕ adds_names held
adds_answer A.Conflict = adds_field 32 (codes "conflict") refl refl
adds_answer (A.Waiting missing) = adds_field 32 (codes "waiting") refl refl ⊕ adds_decimal missing
adds_answer A.NoKey = adds_field 32 (codes "nokey") refl refl
adds_answer (A.ListFull held) = adds_field 32 (codes "listfull") refl refl ⊕ adds_decimal held
adds_answer (A.Delivered name dst key payload) =
    adds_field 32 (codes "delivered") refl refl ⊕ adds_digits 4 name.src.0 ⊕ adds_digits 4 dst.0 ⊕ adds_pair name.pair ⊕ adds_key key ⊕ adds_octets payload
adds_answer (A.Control name dst opcode params) =
    adds_field 32 (codes "control") refl refl ⊕ adds_digits 4 name.src.0 ⊕ adds_digits 4 dst.0 ⊕ adds_pair name.pair ⊕ adds_digits 2 opcode ⊕ adds_params params
adds_answer (A.Beacon index key iv) =
    adds_field 32 (codes "beacon") refl refl ⊕ adds_digits 3 index ⊕ adds_key_step key ⊕ adds_iv_step iv
adds_answer A.Planned = adds_field 32 (codes "planned") refl refl
adds_answer (A.NoAppKey index) = adds_field 32 (codes "noappkey") refl refl ⊕ adds_digits 3 index
adds_answer (A.Ticked now) = adds_field 32 (codes "ticked") refl refl ⊕ adds_decimal now
adds_answer A.Begun = adds_field 32 (codes "begun") refl refl
adds_answer (A.Moved iv) = adds_field 32 (codes "moved") refl refl ⊕ adds_digits 8 iv
adds_answer A.Befriended = adds_field 32 (codes "befriended") refl refl
adds_answer (A.SendFull held) = adds_field 32 (codes "sendfull") refl refl ⊕ adds_decimal held
adds_answer A.Kept = adds_field 32 (codes "kept") refl refl
adds_answer A.Dropped = adds_field 32 (codes "dropped") refl refl
adds_answer (A.LowPower answer) = adds_low_power answer
adds_answer A.Reset = adds_field 32 (codes "reset") refl refl

-- The answer that its fields give back.

-- two fields, three fields
pub pair_back : (ws : List (List ℕ)) (i : ℕ) (p : Pair) → word_at ws i ≡ hex_digits 8 p.iv → word_at ws (i + 1) ≡ hex_digits 6 p.seq → IsPair p → pair_at ws i ≡ Some p
unfolding pair_at
pair_back ws i p a b h = rw (a, number_back 8 p.iv h.0, b, number_back 6 p.seq h.1) refl

pub name_back : (ws : List (List ℕ)) (i : ℕ) (n : Name) → word_at ws i ≡ hex_digits 4 n.src.0 → word_at ws (i + 1) ≡ hex_digits 8 n.pair.iv
    → word_at ws (i + 1 + 1) ≡ hex_digits 6 n.pair.seq → IsName n → name_at ws i ≡ Some n
unfolding name_at
name_back ws i n a b c h = rw (a, address_back n.src h.0, pair_back ws (i + 1) n.pair b c h.1) refl

no_room_back : (a b c d e f : List ℕ) (held : List Name) (rest : List (List ℕ)) → length held ≡ 8 → AllByRecursion IsName held
    → no_room (a ∷ b ∷ c ∷ d ∷ e ∷ f ∷ names_fields held ++ rest) ≡ Some (A.NoRoom held)
unfolding no_room
no_room_back a b c d e f [] rest n h = absurd (omega arith)
no_room_back a b c d e f (n1 ∷ []) rest n h = absurd (omega arith)
no_room_back a b c d e f (n1 ∷ n2 ∷ []) rest n h = absurd (omega arith)
no_room_back a b c d e f (n1 ∷ n2 ∷ n3 ∷ []) rest n h = absurd (omega arith)
no_room_back a b c d e f (n1 ∷ n2 ∷ n3 ∷ n4 ∷ []) rest n h = absurd (omega arith)
no_room_back a b c d e f (n1 ∷ n2 ∷ n3 ∷ n4 ∷ n5 ∷ []) rest n h = absurd (omega arith)
no_room_back a b c d e f (n1 ∷ n2 ∷ n3 ∷ n4 ∷ n5 ∷ n6 ∷ []) rest n h = absurd (omega arith)
no_room_back a b c d e f (n1 ∷ n2 ∷ n3 ∷ n4 ∷ n5 ∷ n6 ∷ n7 ∷ []) rest n h = absurd (omega arith)
no_room_back a b c d e f (n1 ∷ n2 ∷ n3 ∷ n4 ∷ n5 ∷ n6 ∷ n7 ∷ n8 ∷ []) rest n h =
    let ws : List (List ℕ) = a ∷ b ∷ c ∷ d ∷ e ∷ f ∷ names_fields (n1 ∷ n2 ∷ n3 ∷ n4 ∷ n5 ∷ n6 ∷ n7 ∷ n8 ∷ []) ++ rest in
    rw (
      name_back ws 6 n1 refl refl refl h.0,
      name_back ws 9 n2 refl refl refl h.1.0,
      name_back ws 12 n3 refl refl refl h.1.1.0,
      name_back ws 15 n4 refl refl refl h.1.1.1.0,
      name_back ws 18 n5 refl refl refl h.1.1.1.1.0,
      name_back ws 21 n6 refl refl refl h.1.1.1.1.1.0,
      name_back ws 24 n7 refl refl refl h.1.1.1.1.1.1.0,
      name_back ws 27 n8 refl refl refl h.1.1.1.1.1.1.1.0,
    )
    refl
no_room_back a b c d e f (n1 ∷ n2 ∷ n3 ∷ n4 ∷ n5 ∷ n6 ∷ n7 ∷ n8 ∷ n9 ∷ ns) rest n h = absurd (omega arith)

params_any : (xs : List ℕ) → IsOctets 256 xs → params_word (params_field xs) ≡ Some xs
unfolding params_word
params_any [] h = refl
params_any (x ∷ xs) h = params_back x xs h

pub answer_back : (a b c d e : List ℕ) (x : Answer) (rest : List (List ℕ)) → IsToldAnswer x
    → answer_of (a ∷ b ∷ c ∷ d ∷ e ∷ answer_fields x ++ rest) ≡ Some x
unfolding answer_of plain_answer low_power_answer told_answer delivered control beacon iv_step_at pair_at
answer_back a b c d e A.Unread rest h = refl
answer_back a b c d e A.BadAddress rest h = refl
answer_back a b c d e A.Own rest h = refl
answer_back a b c d e A.Cached rest h = refl
answer_back a b c d e A.NotMine rest h = refl
answer_back a b c d e A.Malformed rest h = refl
answer_back a b c d e A.Again rest h = refl
answer_back a b c d e (A.Replay kept) rest h = rw (number_back 8 kept.iv h.0, number_back 6 kept.seq h.1) refl
answer_back a b c d e (A.NoRoom held) rest h = no_room_back a b c d e (codes "noroom") held rest h.0 h.1
answer_back a b c d e A.Conflict rest h = refl
answer_back a b c d e (A.Waiting missing) rest h = rw (below_back (2 ^ 8) missing h (omega arith)) refl
answer_back a b c d e A.NoKey rest h = refl
answer_back a b c d e (A.ListFull held) rest h = rw (below_back (2 ^ 32) held h (omega arith)) refl
answer_back a b c d e (A.Delivered name dst key payload) rest h =
    rw (
      address_back name.src h.0.0,
      address_back dst h.1,
      number_back 8 name.pair.iv h.0.1.0,
      number_back 6 name.pair.seq h.0.1.1,
      key_back key h.2,
      octets_back 380 payload h.3,
    )
    refl
answer_back a b c d e (A.Control name dst opcode params) rest h =
    rw (
      address_back name.src h.0.0,
      address_back dst h.1,
      number_back 8 name.pair.iv h.0.1.0,
      number_back 6 name.pair.seq h.0.1.1,
      number_back 2 opcode h.2,
      params_any params h.3,
    )
    refl
answer_back a b c d e (A.Beacon index key (I.Ignore rule)) rest h = rw (number_back 3 index h.0, key_step_back key, below_back (2 ^ 8) rule h.1 (omega arith)) refl
answer_back a b c d e (A.Beacon index key (I.Begin to)) rest h = rw (number_back 3 index h.0, key_step_back key, h.1) refl
answer_back a b c d e (A.Beacon index key (I.Finish to)) rest h = rw (number_back 3 index h.0, key_step_back key, h.1) refl
answer_back a b c d e (A.Beacon index key (I.Recover to)) rest h = rw (number_back 3 index h.0, key_step_back key, h.1) refl
answer_back a b c d e (A.Beacon index key I.Wait) rest h = rw (number_back 3 index h.0, key_step_back key) refl
answer_back a b c d e A.Planned rest h = refl
answer_back a b c d e (A.NoAppKey index) rest h = rw (number_back 3 index h) refl
answer_back a b c d e (A.Ticked now) rest h = rw (decimal_back now h) refl
answer_back a b c d e A.Begun rest h = refl
answer_back a b c d e (A.Moved iv) rest h = rw (number_back 8 iv h) refl
answer_back a b c d e A.Befriended rest h = refl
answer_back a b c d e (A.SendFull held) rest h = rw (below_back (2 ^ 32) held h (omega arith)) refl
answer_back a b c d e A.Kept rest h = refl
answer_back a b c d e A.Dropped rest h = refl
answer_back a b c d e (A.LowPower P.Segmented) rest h = refl
answer_back a b c d e (A.LowPower P.Unasked) rest h = refl
answer_back a b c d e (A.LowPower P.Repeat) rest h = refl
answer_back a b c d e (A.LowPower P.Sought) rest h = refl
answer_back a b c d e (A.LowPower P.Polled) rest h = refl
answer_back a b c d e (A.LowPower P.NoFriend) rest h = refl
answer_back a b c d e (A.LowPower P.Listed) rest h = refl
answer_back a b c d e (A.LowPower (P.TooMany held)) rest h = rw (below_back (2 ^ 32) held h (omega arith)) refl
answer_back a b c d e A.Reset rest h = refl
