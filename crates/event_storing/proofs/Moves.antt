-- What a record does to the mark and the counter, and the state that it says.
use Rattle.std.proofs.Common.{◌≡◌, ℕ, ◌<◌, ◌≤◌, Bool, true, false, refl, List, [], ◌∷◌, ◌++◌, ap, ◌∙◌, sym, subst, ⊎_elim, inl, inr, arith, Option, Some, None, append_assoc}
use Rattle.std.specs.Prelude.{fold, map, nat_lt, if◌then◌else◌, Result, Ok, Err, OnErr, OnOk}
use Rattle.std.proofs.lemmas.Bool.Decides.{nat_tests}
use Rattle.std.proofs.lemmas.List.{append-nil, map-append}
use Rattle.std.proofs.lemmas.List.Sums.{fold-append}
use Rattle.event_records.specs.Putting.{IsMove, IsMoveTo}
use Rattle.event_storing.specs.Storing.{HasRisen, advance_to, advances_of, moved_to, state_said}
use Rattle.mesh_base.specs.IvState.{transmit_of}
use Rattle.mesh_base.specs.declared.iv_state.IvState.{IvState}
use Rattle.node_records.specs.declared.persist.Persist.{Persist}
use Rattle.node_records.specs.Tables.{config_in}
use Rattle.node_store.specs.Tie.{IsNoNumbers}
use Rattle.record_types.specs.declared.records.StoreRecord.{StoreRecord}
use Rattle.record_types.specs.declared.records.StoreRecord.TheVariants as R
use Rattle.seq_reserve.specs.Reserving.{first_word}
use Rattle.seq_word.specs.Seen.{KeeperView, last_word}
use Rattle.store_definitions.specs.Config.{Config, changed}

-- The mark: a record of no numbers leaves it.

same_mark : (c : Config) (item : StoreRecord) → IsNoNumbers item → (changed c item).mark ≡ c.mark
unfolding changed
same_mark c (R.Numbers current progress mark hours since) none = absurd none
same_mark c (R.Identity unicast elements dev_key) none = refl
same_mark c (R.Hour hours since) none = refl
same_mark c (R.Replay first second) none = refl
same_mark c (R.NetKey op index key) none = refl
same_mark c (R.AppKey op net index key) none = refl
same_mark c (R.Bind op element model app) none = refl
same_mark c (R.Subscribe op element model address) none = refl
same_mark c (R.Feature which value) none = refl
same_mark c R.Reset none = refl
same_mark c (R.Model element model value) none = refl
same_mark c (R.Label op element model label) none = refl
same_mark c (R.Publish row) none = refl

pub other_mark : (p q : Persist) (item : StoreRecord) → IsNoNumbers item → config_in q ≡ changed (config_in p) item → q.mark ≡ p.mark
other_mark p q item none config = ap (λ (c : Config). c.mark) config ∙ same_mark (config_in p) item none

-- The state that a record says.

some_is : (a b : IvState) → Some a ≡ Some b → a ≡ b
some_is a b e = cc

pub said_move : (c : Config) (item : StoreRecord) (to : IvState) → state_said item ≡ Some to → IsMove c item → IsMoveTo c to item
said_move c (R.Numbers current progress mark hours since) to is move =
    subst (λ (s : IvState). IsMoveTo c s (R.Numbers current progress mark hours since)) (some_is _ to is) move
said_move c (R.Identity unicast elements dev_key) to is move = absurd cc
said_move c (R.Hour hours since) to is move = absurd cc
said_move c (R.Replay first second) to is move = absurd cc
said_move c (R.NetKey op index key) to is move = absurd cc
said_move c (R.AppKey op net index key) to is move = absurd cc
said_move c (R.Bind op element model app) to is move = absurd cc
said_move c (R.Subscribe op element model address) to is move = absurd cc
said_move c (R.Feature which value) to is move = absurd cc
said_move c R.Reset to is move = absurd cc
said_move c (R.Model element model value) to is move = absurd cc
said_move c (R.Label op element model label) to is move = absurd cc
said_move c (R.Publish row) to is move = absurd cc

pub said_none : (item : StoreRecord) → state_said item ≡ None → IsNoNumbers item
said_none (R.Numbers current progress mark hours since) is = absurd cc
said_none (R.Identity unicast elements dev_key) is = tt
said_none (R.Hour hours since) is = tt
said_none (R.Replay first second) is = tt
said_none (R.NetKey op index key) is = tt
said_none (R.AppKey op net index key) is = tt
said_none (R.Bind op element model app) is = tt
said_none (R.Subscribe op element model address) is = tt
said_none (R.Feature which value) is = tt
said_none R.Reset is = tt
said_none (R.Model element model value) is = tt
said_none (R.Label op element model label) is = tt
said_none (R.Publish row) is = tt

-- Where the counter goes.

not_less : (a b : ℕ) → a ≤ b → nat_lt a b ≡ false → a ≡ b
not_less a b up e = grind (arith, nat_tests)

is_less : (a b : ℕ) → nat_lt a b ≡ true → a < b
is_less a b e = grind (arith, nat_tests)

last_of : (words : List ℕ) (word : ℕ) → last_word (words ++ word ∷ []) ≡ word
last_of words word = fold-append (λ (before next : ℕ). next) 0 words (word ∷ [])

-- what rose by two moves rose
pub risen_more : (first mid new : KeeperView) → HasRisen first mid → HasRisen mid new → HasRisen first new
risen_more first mid new before more = ⊎_elim (λ same. subst (HasRisen first) (sym same) before) (λ up. inr up) more

module _ {T E : Type 0} (r : Result T E) (c : Config) (old new : KeeperView) where
  on_ok_by : (P Q : Type 0) → (P → Q) → OnOk r P → OnOk r Q
  on_ok_by P Q f = (elim r as (λ (s : Result T E). OnOk s P → OnOk s Q) [ Ok x ↦ λ h. f h | Err e ↦ λ h. tt ])

  on_ok_all : (Q : Type 0) → Q → OnOk r Q
  on_ok_all Q h = (elim r as (λ (s : Result T E). OnOk s Q) [ Ok x ↦ h | Err e ↦ tt ])

  -- the counter stays where the IV Index to send with does
  stays_to : (words : List ℕ) → words ≡ [] → new ≡ old → moved_to new ≡ moved_to old ++ words
  stays_to words none same = ap (λ (k : KeeperView). moved_to k) same ∙ sym (append-nil (moved_to old)) ∙ ap (λ (ws : List ℕ). moved_to old ++ ws) (sym none)

  goes_to : (first : ℕ) → (found : ℕ) × (new.advances ≡ old.advances ++ (found, first) ∷ []) → moved_to new ≡ moved_to old ++ first ∷ []
  goes_to first more =
      ap (λ (moves : List (ℕ × ℕ)). map (λ (move : ℕ × ℕ). move.1) moves) more.1
      ∙ map-append (λ (move : ℕ × ℕ). move.1) old.advances ((more.0, first) ∷ [])

  pub advanced_none : (item : StoreRecord) → state_said item ≡ None → new ≡ old → OnOk r (moved_to new ≡ moved_to old ++ advance_to c (state_said item))
  advanced_none item none same = on_ok_all _ (stays_to (advance_to c (state_said item)) (ap (λ (s : Option IvState). advance_to c s) none) same)

  pub advanced_some : (item : StoreRecord) (to : IvState) → state_said item ≡ Some to → transmit_of c.iv ≤ transmit_of to
      → (transmit_of c.iv ≡ transmit_of to → new ≡ old)
      → (transmit_of c.iv < transmit_of to → OnOk r ((new.mark ≡ first_word to) × ((found : ℕ) × (new.advances ≡ old.advances ++ (found, first_word to) ∷ []))))
      → OnOk r (moved_to new ≡ moved_to old ++ advance_to c (state_said item))
  advanced_some item to is up stays goes =
      subst (λ (s : Option IvState). OnOk r (moved_to new ≡ moved_to old ++ advance_to c s)) (sym is) (by_test (nat_lt (transmit_of c.iv) (transmit_of to)) refl)
    where
      by_test : (b : Bool) → nat_lt (transmit_of c.iv) (transmit_of to) ≡ b → OnOk r (moved_to new ≡ moved_to old ++ (if b then first_word to ∷ [] else []))
      by_test true e = on_ok_by _ _ (λ h. goes_to (first_word to) h.1) (goes (is_less (transmit_of c.iv) (transmit_of to) e))
      by_test false e = on_ok_all _ (stays_to [] refl (stays (not_less (transmit_of c.iv) (transmit_of to) up e)))

  -- and its mark with it
  pub risen_none : new ≡ old → OnOk r (HasRisen old new)
  risen_none same = on_ok_all _ (inl same)

  pub risen_some : (to : IvState) → transmit_of c.iv ≤ transmit_of to
      → (transmit_of c.iv ≡ transmit_of to → new ≡ old)
      → (transmit_of c.iv < transmit_of to → OnOk r ((new.mark ≡ first_word to) × ((found : ℕ) × (new.advances ≡ old.advances ++ (found, first_word to) ∷ []))))
      → OnOk r (HasRisen old new)
  risen_some to up stays goes = by_test (nat_lt (transmit_of c.iv) (transmit_of to)) refl where
    at_last : (new.mark ≡ first_word to) × ((found : ℕ) × (new.advances ≡ old.advances ++ (found, first_word to) ∷ [])) → HasRisen old new
    at_last h = inr (h.0 ∙ sym (ap last_word (goes_to (first_word to) h.1) ∙ last_of (moved_to old) (first_word to)))

    by_test : (b : Bool) → nat_lt (transmit_of c.iv) (transmit_of to) ≡ b → OnOk r (HasRisen old new)
    by_test true e = on_ok_by _ _ at_last (goes (is_less (transmit_of c.iv) (transmit_of to) e))
    by_test false e = on_ok_all _ (inl (stays (not_less (transmit_of c.iv) (transmit_of to) up e)))

-- of a refusal
module _ {T E : Type 0} (r : Result T E) where
  pub on_err_by : (P Q : Type 0) → (P → Q) → OnErr r P → OnErr r Q
  on_err_by P Q f = (elim r as (λ (s : Result T E). OnErr s P → OnErr s Q) [ Ok x ↦ λ h. tt | Err e ↦ λ h. f h ])

-- one record more
advances_push : (c : Config) (items : List StoreRecord) (item : StoreRecord)
    → advances_of c (items ++ item ∷ []) ≡ advances_of c items ++ advance_to (fold changed c items) (state_said item)
advances_push c [] item = append-nil (advance_to c (state_said item))
advances_push c (x ∷ xs) item =
    ap (λ (words : List ℕ). advance_to c (state_said x) ++ words) (advances_push (changed c x) xs item)
    ∙ sym (append_assoc (advance_to c (state_said x)) (advances_of (changed c x) xs) (advance_to (fold changed (changed c x) xs) (state_said item)))

pub advanced_more : (start c : Config) (done : List StoreRecord) (item : StoreRecord) (first mid new : List ℕ) → c ≡ fold changed start done
    → mid ≡ first ++ advances_of start done → new ≡ mid ++ advance_to c (state_said item) → new ≡ first ++ advances_of start (done ++ item ∷ [])
advanced_more start c done item first mid new config before more =
    more
    ∙ (λ i. before i ++ advance_to (config i) (state_said item))
    ∙ append_assoc first (advances_of start done) (advance_to (fold changed start done) (state_said item))
    ∙ ap (λ (words : List ℕ). first ++ words) (sym (advances_push start done item))
