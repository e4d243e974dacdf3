-- What follows for Polls and their answers.
use Rattle.std.proofs.Common.{◌≡◌, ◌≢◌, ◌↔◌, ◌∙◌, ℕ, ◌+◌, ◌%◌, ◌≤◌, Bool, true, false, cond, not, List, [], ◌∷◌, ◌++◌, length, refl, sym, ap, subst, arith, true≢false, eq-eqb, Option, Some, None}
use Rattle.std.specs.Prelude.{◌&&◌, fold, is_some, Ok, Err}
use Rattle.std.specs.Option.{option_map, option_map_or}
use Rattle.std.proofs.lemmas.Bool.{or_parts}
use Rattle.std.proofs.lemmas.List.Sums.{fold-append}
use Rattle.layer_definitions.specs.Control.{control_text}
use Rattle.low_power_definitions.proofs.Steps.{by_list, by_offer}
use Rattle.low_power_definitions.specs.Calls.{has_seek, is_seek}
use Rattle.low_power_definitions.specs.Polls.{AnswersAreAsked, ClosesOnce, FsnCountsAnswers, SendsPoll, closings, is_closed_by, is_poll, job_in, polls}
use Rattle.low_power_definitions.specs.State.{LpnCall, LowPowerState, after, answered, befriended, closed, friend_of, hear, heard_as, is_answer, is_closing, is_full, is_polling, list, list_job, list_to, lpn, no_friend, offer, offered, poll, polled, request_of, seek, to_friend}
use Rattle.low_power_definitions.specs.declared.lpn.Credentials.{Credentials}
use Rattle.low_power_definitions.specs.declared.lpn.Friend.{Friend}
use Rattle.low_power_definitions.specs.declared.lpn.ListFault.TheVariants as L
use Rattle.low_power_definitions.specs.declared.lpn.LpnHeard.TheVariants.{Unasked, Repeat, Pass}
use Rattle.low_power_definitions.specs.declared.lpn.LpnJob.{LpnJob}
use Rattle.low_power_definitions.specs.declared.lpn.Standing.{Standing}
use Rattle.low_power_definitions.specs.declared.lpn.Standing.TheVariants as S
use Rattle.mesh_base.specs.declared.address.Address.{Address}
use Rattle.mesh_base.specs.declared.control.ControlMsg.{ControlMsg}
use Rattle.mesh_base.specs.declared.control.ControlMsg.TheVariants as C
use Rattle.mesh_base.specs.declared.pair.Name.{Name}

abbrev one : Bool → ℕ
one b = cond b 1 0

-- Texts: two Polls of one text have one FSN, and no other message has a Poll's text.

poll_once : (f g : Bool) → control_text (C.Poll f) ≡ control_text (C.Poll g) → f ≡ g
unfolding control_text
poll_once true true h = refl
poll_once true false h = absurd (let bits : ◌≡◌ {A = ℕ} 1 0 = cc in omega (arith, bits))
poll_once false true h = absurd (let bits : ◌≡◌ {A = ℕ} 0 1 = cc in omega (arith, bits))
poll_once false false h = refl

request_apart : (st : LowPowerState) (f : Bool) → control_text (C.Request (request_of st)) ≡ control_text (C.Poll f) → ⊥
unfolding control_text
request_apart st f h = let opcodes : ◌≡◌ {A = ℕ} 3 1 = cc in omega (arith, opcodes)

list_apart : (transaction : ℕ) (a : Address) (f : Bool)
    → control_text (C.ListAdd (record { transaction = transaction; addresses = a ∷ [] })) ≡ control_text (C.Poll f) → ⊥
unfolding control_text
list_apart transaction a f h = let opcodes : ◌≡◌ {A = ℕ} 7 1 = cc in omega (arith, opcodes)

-- A state with a friend, and the FSN of its next Poll.
record HasFsn (st : LowPowerState) (f : Bool) : Type 0 where
  friend : Friend
  standing : st.standing ≡ S.Befriended friend
  fsn : friend.fsn ≡ f

job_text : (m n : ControlMsg) (c : Credentials) (job : LpnJob) → Some (to_friend c m) ≡ Some job → job.tpdu ≡ control_text n → control_text m ≡ control_text n
job_text m n c job h t = let same : to_friend c m ≡ job = cc in ap (λ j. j.tpdu) same ∙ t

-- behind a Poll there is a friend, and the FSN is that of the Poll
sent_poll : (s : Standing) (st : LowPowerState) (f : Bool) → st.standing ≡ s
    → (job : LpnJob) → option_map (λ g. to_friend g.credentials (C.Poll g.fsn)) (friend_of s) ≡ Some job → job.tpdu ≡ control_text (C.Poll f)
    → HasFsn st f
sent_poll S.Alone st f h job t u = absurd (let none : None ≡ Some job = t in cc)
sent_poll (S.Seeking k) st f h job t u = absurd (let none : None ≡ Some job = t in cc)
sent_poll (S.Befriended g) st f h job t u =
    record { friend = g; standing = h; fsn = poll_once g.fsn f (job_text (C.Poll g.fsn) (C.Poll f) g.credentials job t u) }

offer_taken : (o : Option Credentials) (f : Bool) (job : LpnJob) → option_map (λ c. to_friend c (C.Poll false)) o ≡ Some job
    → job.tpdu ≡ control_text (C.Poll f) → (c : Credentials) × (o ≡ Some c) × (false ≡ f)
offer_taken None f job t u = absurd (let none : None ≡ Some job = t in cc)
offer_taken (Some c) f job t u = (c, refl, poll_once false f (job_text (C.Poll false) (C.Poll f) c job t u))

list_sends_none : (st : LowPowerState) (a : Address) (f : Bool) (o : Option Friend) (job : LpnJob)
    → job_in (list_to st a o) ≡ Some job → job.tpdu ≡ control_text (C.Poll f) → ⊥
list_sends_none st a f None job t u = let none : None ≡ Some job = t in cc
list_sends_none st a f (Some g) job t u = test (is_full st.list a) t
  where
    test : (b : Bool) → job_in (cond b (Err (L.TooMany (length st.list))) (Ok (list_job st g.credentials a))) ≡ Some job → ⊥
    test true t = let none : None ≡ Some job = t in cc
    test false t =
        list_apart st.lists a f (job_text (C.ListAdd (record { transaction = st.lists; addresses = a ∷ [] })) (C.Poll f) g.credentials job t u)

first_sends : (st : LowPowerState) (call : LpnCall) (f : Bool) → SendsPoll st call f → HasFsn (after st call) f
first_sends st seek f (job, t, u) =
    absurd (request_apart st f (let same : record { dst = record { 0 = 0xfffd }; tpdu = control_text (C.Request (request_of st)); under = None } ≡ job = cc in
    ap (λ (j : LpnJob). j.tpdu) same ∙ u))
first_sends st poll f (job, t, u) =
    let h = sent_poll st.standing st f refl job t u in
    record { friend = record h.friend { polling = true }; standing = ap polled h.standing; fsn = h.fsn }
first_sends st (list a) f (job, t, u) = absurd (list_sends_none st a f (friend_of st.standing) job t u)
first_sends st (hear by_friend n) f (job, t, u) = absurd (let none : None ≡ Some job = t in cc)
first_sends st (offer from counter) f (job, t, u) =
    let (c, taken, zero_first) = offer_taken (offered st.standing from counter) f job t u in
    by_offer (λ s. HasFsn s f) st from counter
    (λ d t. record { friend = record { credentials = d; fsn = false; polling = true }; standing = refl; fsn = zero_first })
    (λ none. absurd (let bad : None ≡ Some c = sym none ∙ taken in cc))

befriended_once : (f g : Friend) → S.Befriended f ≡ S.Befriended g → f ≡ g
befriended_once f g h = cc

no_offer : (st : LowPowerState) (f : Friend) (from : Address) (counter : ℕ) (c : Credentials) → st.standing ≡ S.Befriended f
    → offered st.standing from counter ≡ Some c → ⊥
no_offer st f from counter c h t = let bad : None ≡ Some c = sym (ap (λ s. offered s from counter) h) ∙ t in cc

second_sends : (st : LowPowerState) (f g : Bool) (call : LpnCall) → HasFsn st f → SendsPoll st call g → f ≡ g
second_sends st f g seek h (job, t, u) =
    absurd (request_apart st g (let same : record { dst = record { 0 = 0xfffd }; tpdu = control_text (C.Request (request_of st)); under = None } ≡ job = cc in
    ap (λ (j : LpnJob). j.tpdu) same ∙ u))
second_sends st f g poll h (job, t, u) =
    let k = sent_poll st.standing st g refl job t u in
    sym h.fsn ∙ ap (λ (x : Friend). x.fsn) (befriended_once h.friend k.friend (sym h.standing ∙ k.standing)) ∙ k.fsn
second_sends st f g (list a) h (job, t, u) = absurd (list_sends_none st a g (friend_of st.standing) job t u)
second_sends st f g (hear by_friend n) h (job, t, u) = absurd (let none : None ≡ Some job = t in cc)
second_sends st f g (offer from counter) h (job, t, u) =
    let (c, taken, zero_first) = offer_taken (offered st.standing from counter) g job t u in
    absurd (no_offer st h.friend from counter c h.standing taken)

-- A call but a Friend Request changes FSN exactly where it closes a Poll.

record Leaves (st left : LowPowerState) (f : Bool) (closes : Bool) : Type 0 where
  next : Bool
  has : HasFsn left next
  bit : (one f + one closes) % 2 ≡ one next

same_bit : (f : Bool) → (one f + one false) % 2 ≡ one f
same_bit true = refl
same_bit false = refl

other_bit : (f : Bool) → (one f + one true) % 2 ≡ one (not f)
other_bit true = refl
other_bit false = refl

step_fsn : (st : LowPowerState) (f : Bool) (call : LpnCall) → is_seek call ≡ false → HasFsn st f → Leaves st (after st call) f (is_closed_by st call)
step_fsn st f seek lacks h = absurd (true≢false lacks)
step_fsn st f poll lacks h =
    record {
      next = f;
      has = record { friend = record h.friend { polling = true }; standing = ap polled h.standing; fsn = h.fsn };
      bit = same_bit f;
    }
step_fsn st f (list a) lacks h =
    record { next = f; has = by_list (λ s. HasFsn s f) st a (record { friend = h.friend; standing = h.standing; fsn = h.fsn }) h; bit = same_bit f }
step_fsn st f (hear by_friend n) lacks h = test (is_answer by_friend (heard_as st by_friend n))
  where
    test : (b : Bool) → Leaves st (cond b (answered st n) st) f b
    test true =
        record {
          next = not f;
          has = record {
            friend = record h.friend { fsn = not h.friend.fsn; polling = false };
            standing = ap closed h.standing;
            fsn = ap not h.fsn;
          };
          bit = other_bit f;
        }
    test false = record { next = f; has = h; bit = same_bit f }
step_fsn st f (offer from counter) lacks h =
    record {
      next = f;
      has = by_offer (λ s. HasFsn s f) st from counter (λ c t. absurd (no_offer st h.friend from counter c h.standing t)) (λ none. h);
      bit = same_bit f;
    }

record Run (left : LowPowerState) (f : Bool) (count : ℕ) : Type 0 where
  next : Bool
  has : HasFsn left next
  bit : (one f + count) % 2 ≡ one next

run_fsn : (st : LowPowerState) (f : Bool) (calls : List LpnCall) → has_seek calls ≡ false → HasFsn st f
    → Run (fold after st calls) f (closings st calls)
run_fsn st f [] lacks h = record { next = f; has = h; bit = same_bit f }
run_fsn st f (call ∷ calls) lacks h =
    let parts = or_parts (is_seek call) (has_seek calls) lacks in
    let now = step_fsn st f call parts.0 h in
    let rest = run_fsn (after st call) now.next calls parts.1 now.has in
    record { next = rest.next; has = rest.has; bit = omega (arith, now.bit, rest.bit) }

parity : (f g : Bool) (n : ℕ) → (one f + n) % 2 ≡ one g → (f ≡ g) ↔ (n % 2 ≡ 0)
parity true true n e = (λ _. omega (arith, e), λ _. refl)
parity true false n e = (λ bad. absurd (true≢false bad), λ even. absurd (omega (arith, e, even)))
parity false true n e = (λ bad. absurd (true≢false (sym bad)), λ even. absurd (omega (arith, e, even)))
parity false false n e = (λ _. omega (arith, e), λ _. refl)

pub fsn : FsnCountsAnswers
fsn own elements before between first second f g p lacks q =
    let from = lpn own elements before in
    let run = run_fsn (after from first) f between lacks (first_sends from first f p) in
    let there : lpn own elements (before ++ first ∷ between) ≡ fold after (after from first) between =
    fold-append after (no_friend own elements) before (first ∷ between) in
    let start : lpn own elements (before ++ first ∷ []) ≡ after from first = fold-append after (no_friend own elements) before (first ∷ []) in
    let same : run.next ≡ g =
    second_sends (fold after (after from first) between) run.next g second run.has (subst (λ s. SendsPoll s second g) there q) in
    subst (λ s. (f ≡ g) ↔ (closings s between % 2 ≡ 0)) (sym start)
    (parity f g (closings (after from first) between) (run.bit ∙ ap one same))

-- Each Poll lets one PDU in at most.

closed_not_polling : (s : Standing) → is_polling (closed s) ≡ false
closed_not_polling S.Alone = refl
closed_not_polling (S.Seeking k) = refl
closed_not_polling (S.Befriended f) = refl

polled_once : (s : Standing)
    → 0 + one (is_polling (polled s)) ≤ one (is_polling s) + one (is_some (option_map (λ f. to_friend f.credentials (C.Poll f.fsn)) (friend_of s)))
polled_once S.Alone = omega arith
polled_once (S.Seeking k) = omega arith
polled_once (S.Befriended f) = omega arith

heard_once : (st : LowPowerState) (n : Name) (b p closing : Bool) → is_polling st.standing ≡ p
    → one (is_answer b (cond (b && not p) Unasked (cond closing Repeat Pass)))
    + one (is_polling (cond (is_answer b (cond (b && not p) Unasked (cond closing Repeat Pass))) (answered st n) st).standing)
    ≤ one p + 0
heard_once st n true true true h = rw h (omega arith)
heard_once st n true true false h = rw (closed_not_polling st.standing) (omega arith)
heard_once st n true false closing h = rw h (omega arith)
heard_once st n false p true h = rw h (omega arith)
heard_once st n false p false h = rw h (omega arith)

asked_step : (st : LowPowerState) (call : LpnCall)
    → one (is_closed_by st call) + one (is_polling (after st call).standing) ≤ one (is_polling st.standing) + one (is_poll st call)
asked_step st seek = omega arith
asked_step st poll = polled_once st.standing
asked_step st (list a) =
    by_list (λ s. 0 + one (is_polling s.standing) ≤ one (is_polling st.standing) + 0) st a (omega arith) (omega arith)
asked_step st (hear by_friend n) = heard_once st n by_friend (is_polling st.standing) (is_closing st.closed_by n) refl
asked_step st (offer from counter) = taken (offered st.standing from counter)
  where
    taken : (o : Option Credentials)
        → 0 + one (is_polling (option_map_or (befriended st) o st).standing)
        ≤ one (is_polling st.standing) + one (is_some (option_map (λ c. to_friend c (C.Poll false)) o))
    taken None = omega arith
    taken (Some c) = omega arith

asked_run : (st : LowPowerState) (calls : List LpnCall) → closings st calls ≤ one (is_polling st.standing) + polls st calls
asked_run st [] = omega arith
asked_run st (call ∷ calls) = omega (arith, asked_step st call, asked_run (after st call) calls)

pub asked : AnswersAreAsked
asked own elements calls = omega (arith, asked_run (no_friend own elements) calls)

-- A PDU closes one Poll.

closing_friend : (s : Standing) (closing : Bool)
    → is_answer true (cond (true && not (is_polling s)) Unasked (cond closing Repeat Pass)) ≡ true → (f : Friend) × (s ≡ S.Befriended f)
closing_friend S.Alone closing h = absurd (true≢false (sym h))
closing_friend (S.Seeking k) closing h = absurd (true≢false (sym h))
closing_friend (S.Befriended f) closing h = (f, refl)

stays_closed : (st : LowPowerState) (n : Name) (call : LpnCall) (f : Bool) → is_seek call ≡ false → HasFsn st f → is_closed_by st call ≡ false
    → st.closed_by ≡ Some n → (after st call).closed_by ≡ Some n
stays_closed st n seek f lacks h passed k = absurd (true≢false lacks)
stays_closed st n poll f lacks h passed k = k
stays_closed st n (list a) f lacks h passed k = by_list (λ s. s.closed_by ≡ Some n) st a k k
stays_closed st n (hear by_friend m) f lacks h passed k = rw passed k
stays_closed st n (offer from counter) f lacks h passed k =
    by_offer (λ s. s.closed_by ≡ Some n) st from counter (λ c t. absurd (no_offer st h.friend from counter c h.standing t)) (λ none. k)

none_closed : (b : Bool) (n : ℕ) → one b + n ≡ 0 → (b ≡ false) × (n ≡ 0)
none_closed true n h = absurd (omega (arith, h))
none_closed false n h = (refl, omega (arith, h))

run_closed : (st : LowPowerState) (n : Name) (calls : List LpnCall) (f : Bool) → has_seek calls ≡ false → HasFsn st f
    → closings st calls ≡ 0 → st.closed_by ≡ Some n → (fold after st calls).closed_by ≡ Some n
run_closed st n [] f lacks h none k = k
run_closed st n (call ∷ calls) f lacks h none k =
    let parts = or_parts (is_seek call) (has_seek calls) lacks in
    let (passed, rest) = none_closed (is_closed_by st call) (closings (after st call) calls) none in
    let now = step_fsn st f call parts.0 h in
    run_closed (after st call) n calls now.next parts.1 now.has rest (stays_closed st n call f parts.0 h passed k)

name_same : (n : Name) → is_closing (Some n) n ≡ true
name_same n =
    rw (eq-eqb n.src.0 n.src.0 refl) (rw (eq-eqb n.pair.iv n.pair.iv refl) (rw (eq-eqb n.pair.seq n.pair.seq refl) refl))

refused : (t : Bool) → cond t Unasked Repeat ≢ Pass
refused true h = cc
refused false h = cc

pub once : ClosesOnce
once st n later by_friend closes lacks none pass =
    let (f, is) = closing_friend st.standing (is_closing st.closed_by n) closes in
    let left : after st (hear true n) ≡ answered st n = ap (λ b. cond b (answered st n) st) closes in
    let has : HasFsn (answered st n) (not f.fsn) =
    record { friend = record f { fsn = not f.fsn; polling = false }; standing = ap closed is; fsn = refl } in
    let last : (fold after (answered st n) later).closed_by ≡ Some n =
    run_closed (answered st n) n later (not f.fsn) lacks has (subst (λ s. closings s later ≡ 0) left none) refl in
    let end : LowPowerState = fold after (answered st n) later in
    let passes : heard_as end by_friend n ≡ Pass = subst (λ s. heard_as (fold after s later) by_friend n ≡ Pass) left pass in
    let repeats : is_closing end.closed_by n ≡ true = ap (λ o. is_closing o n) last ∙ name_same n in
    refused (by_friend && not (is_polling end.standing))
    (ap (λ b. cond (by_friend && not (is_polling end.standing)) Unasked (cond b Repeat Pass)) (sym repeats) ∙ passes)
