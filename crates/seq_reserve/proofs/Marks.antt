-- Marks: a block has place, and a mark is a word.
use Rattle.std.proofs.Common.{◌≡◌, ℕ, ◌+◌, ◌*◌, ◌%◌, ◌^◌, ◌<◌, ◌≤◌, Bool, true, false, refl, ap, ◌∙◌, sym, arith, true≢false}
use Rattle.std.specs.Prelude.{nat_lt, if◌then◌else◌}
use Rattle.std.proofs.lemmas.Bool.Decides.{nat_tests}
use Rattle.mesh_base.proofs.IvStates.{transmit_known}
use Rattle.mesh_base.specs.IvState.{transmit_of}
use Rattle.mesh_base.specs.declared.iv_state.IvState.{IvState}
use Rattle.node_records.specs.declared.persist.Persist.{Persist}
use Rattle.node_records.specs.Tables.{config_in}
use Rattle.node_store.specs.Numbers.{HasNumbers}
use Rattle.record_types.specs.declared.records.StoreRecord.{StoreRecord}
use Rattle.seq_reserve.specs.Reserving.{first_word}
use Rattle.seq_word.specs.Word.{IsWord, seq_of}
use Rattle.store_definitions.specs.Config.{Config, changed}
use Rattle.store_definitions.specs.Numbers.{fill_of, moved}
use Rattle.store_definitions.specs.Ranges.{IsMark}

-- a block more has place, where a number is left
block_fits : (transmit mark seq : ℕ) → mark ≡ transmit * 2 ^ 25 + seq → seq ≤ 2 ^ 24 → seq % 256 ≡ 0 → mark % 2 ^ 25 < 2 ^ 24 → seq + 256 ≤ 2 ^ 24
block_fits transmit mark seq word most block left = omega arith

block_more : (seq : ℕ) → seq % 256 ≡ 0 → (seq + 256) % 256 ≡ 0
block_more seq block = omega arith

pub mark_more : (s : IvState) (mark : ℕ) → IsMark s mark → seq_of mark < 2 ^ 24 → IsMark s (mark + 256)
mark_more s mark h left = record {
  seq = h.seq + 256;
  word = omega (arith, h.word);
  most = block_fits (transmit_of s) mark h.seq h.word h.most h.block left;
  block = block_more h.seq h.block;
}

word_parts : (transmit mark seq : ℕ) → mark ≡ transmit * 2 ^ 25 + seq → seq ≤ 2 ^ 24 → transmit < 2 ^ 32 → IsWord mark
word_parts transmit mark seq word most least = (omega arith, omega arith)

pub mark_word : (p : Persist) → HasNumbers p → IsWord p.mark
mark_word p h = word_parts (transmit_of p.iv) p.mark h.mark.seq h.mark.word h.mark.most (omega (arith, transmit_known p.iv, h.current))

-- the mark after a refill
pub mark_filled : (p q : Persist) (item : StoreRecord) → item ≡ fill_of (config_in p) → config_in q ≡ changed (config_in p) item → q.mark ≡ p.mark + 256
unfolding changed
mark_filled p q item is config = ap (λ (c : Config). c.mark) (config ∙ ap (λ (i : StoreRecord). changed (config_in p) i) is)

-- and after a move
pub mark_moved : (p q : Persist) (to : IvState) (item : StoreRecord) → item ≡ moved (config_in p) to → config_in q ≡ changed (config_in p) item
    → q.mark ≡ (if nat_lt (transmit_of p.iv) (transmit_of to) then first_word to else p.mark)
unfolding changed
mark_moved p q to item is config = ap (λ (c : Config). c.mark) (config ∙ ap (λ (i : StoreRecord). changed (config_in p) i) is)

pub less_true : (a b : ℕ) → a < b → nat_lt a b ≡ true
less_true a b h = grind (arith, nat_tests)

pub same_false : (a b : ℕ) → a ≡ b → nat_lt a b ≡ false
same_false a b h = grind (arith, nat_tests)

-- the keeper's mark after a move: the stored one, whether it was published or stays
pub kept_by : (b : Bool) (old new mark first before : ℕ) → (b ≡ true → new ≡ mark) → (b ≡ false → new ≡ old) → old ≡ before
    → mark ≡ (if b then first else before) → new ≡ mark
kept_by true old new mark first before up stays same is = up refl
kept_by false old new mark first before up stays same is = stays refl ∙ same ∙ sym is

pub first_by : (b : Bool) (mark first before : ℕ) → b ≡ true → mark ≡ (if b then first else before) → mark ≡ first
first_by true mark first before t is = is
first_by false mark first before t is = absurd (true≢false (sym t))
