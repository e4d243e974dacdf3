-- The loops that make the round keys, put them by columns, and go through them.
use Rattle.std.proofs.Common.{◌≡◌, ℕ, suc, ◌+◌, ◌-◌, ◌<◌, ◌≤◌, List, [], ◌∷◌, ◌++◌, length, map, take, drop, get_or, set, slice_index, slice_index_or, arith, add-one, append_assoc, sym, refl, ap, ◌∙◌}
use Rattle.std.proofs.lemmas.List.{take_more_set, at_drop_more, at_drop_all, take_all, append-nil, get_or-map, map-append, get_or-take, length-take-le, length-map}
use Rattle.std.specs.Int.{to_be_bytes, w32}
use Rattle.cipher_definitions.specs.Aes.{times_x, next_key, keys_from, round_keys, round, last_round, rounds, cipher}
use Rattle.cipher_definitions.specs.Octets.{xor_lists}
use Rattle.aes_block.specs.Columns.{octets, round_key}
use Rattle.aes_block.proofs.Columns.{four_same}

-- one more round key is made, where f gives the octets of a round key
pub keys_turn : (f : List ℕ → List ℕ) (keys all : List (List ℕ)) (last new : List ℕ) (i constant : ℕ) → length keys ≡ 10 → i < 10
    → f new ≡ next_key constant (f last)
    → map f (take i keys) ++ keys_from (10 - i) constant (f last) ≡ all
    → map f (take (i + 1) (set keys i new)) ++ keys_from (10 - (i + 1)) (times_x constant) (f new) ≡ all
unfolding keys_from
keys_turn f keys all last new i constant h k made given =
    let within : i < length keys = omega arith in
    let e : 10 - i ≡ suc (10 - (i + 1)) = omega arith in
    rw (take_more_set keys i new within, map-append, append_assoc, made) (rw e at given)

-- all round keys are made
pub keys_end : (f : List ℕ → List ℕ) (keys all : List (List ℕ)) (last : List ℕ) (i constant : ℕ) → length keys ≡ 10 → 10 ≤ i
    → map f (take i keys) ++ keys_from (10 - i) constant (f last) ≡ all → map f keys ≡ all
unfolding keys_from
keys_end f keys all last i constant h k given =
    let e : 10 - i ≡ 0 = omega arith in
    let long : length keys ≤ i = omega arith in
    rw (e, take_all i keys long, append-nil) at given

-- there are ten round keys
pub length-round_keys : (key : List ℕ) → length (round_keys key) ≡ 10
unfolding round_keys keys_from
length-round_keys key = refl

-- words that are the same have the same octets
words_same : {a b c d p q r s : ℕ} → a ≡ p → b ≡ q → c ≡ r → d ≡ s → octets (a ∷ b ∷ c ∷ d ∷ []) ≡ octets (p ∷ q ∷ r ∷ s ∷ [])
words_same ea eb ec ed =
    four_same (ap (λ w. to_be_bytes w32 w) ea) (ap (λ w. to_be_bytes w32 w) eb) (ap (λ w. to_be_bytes w32 w) ec) (ap (λ w. to_be_bytes w32 w) ed)

-- a word of a column, past the first
word_at : (rest : List (List ℕ)) (column : List ℕ) (first place i : ℕ) → i < length rest
    → column ≡ first ∷ map (λ k. slice_index k place) rest → slice_index column (i + 1) ≡ slice_index (get_or rest i []) place
word_at rest column first place i h e =
    ap (λ l. slice_index l (i + 1)) e
    ∙ ap (λ n. slice_index (first ∷ map (λ k. slice_index k place) rest) n) (add-one i)
    ∙ get_or-map (λ k. slice_index k place) rest i [] 0 h

-- round keys that are put by columns are the round keys
pub by_columns : (first : List ℕ) (rest : List (List ℕ)) (a b c d : List ℕ)
    → a ≡ slice_index first 0 ∷ map (λ k. slice_index k 0) rest
    → b ≡ slice_index first 1 ∷ map (λ k. slice_index k 1) rest
    → c ≡ slice_index first 2 ∷ map (λ k. slice_index k 2) rest
    → d ≡ slice_index first 3 ∷ map (λ k. slice_index k 3) rest
    → map octets rest ≡ round_keys (octets first) → (i : ℕ) → i < 10
    → round_key (a ∷ b ∷ c ∷ d ∷ []) (i + 1) ≡ slice_index_or (round_keys (round_key (a ∷ b ∷ c ∷ d ∷ []) 0)) i []
by_columns first rest a b c d ea eb ec ed same i h =
    let within : i < length rest = omega (arith, ap length same, length-map rest octets, length-round_keys (octets first)) in
    words_same (word_at rest a _ 0 i within ea) (word_at rest b _ 1 i within eb) (word_at rest c _ 2 i within ec) (word_at rest d _ 3 i within ed)
    ∙ sym (get_or-map octets rest i [] [] within)
    ∙ ap (λ (l : List (List ℕ)). get_or l i []) same
    ∙ ap (λ k. slice_index_or (round_keys k) i [])
    (words_same (sym (ap (λ l. slice_index l 0) ea)) (sym (ap (λ l. slice_index l 0) eb)) (sym (ap (λ l. slice_index l 0) ec)) (sym (ap (λ l. slice_index l 0) ed)))

-- one more round is done
pub rounds_turn : (keys : List (List ℕ)) (i : ℕ) (s key t : List ℕ) → length keys ≡ 10 → 1 ≤ i → i < 10 → t ≡ round s key
    → key ≡ slice_index_or keys (i - 1) []
    → rounds (drop (i + 1 - 1) (take 9 keys)) t ≡ rounds (drop (i - 1) (take 9 keys)) s
unfolding rounds
rounds_turn keys i s key t count low high e k =
    let next : i + 1 - 1 ≡ i - 1 + 1 = omega arith in
    let within : i - 1 < length (take 9 keys) = omega (arith, length-take-le 9 keys (omega arith)) in
    ap (λ n. rounds (drop n (take 9 keys)) t) next
    ∙ ap (λ x. rounds (drop (i - 1 + 1) (take 9 keys)) x)
    (e ∙ ap (λ x. round s x) (k ∙ sym (get_or-take 9 keys (i - 1) [] (omega arith))))
    ∙ sym (at_drop_more (λ ks. rounds ks s) (take 9 keys) (i - 1) [] within)

-- all rounds are done
pub rounds_end : (keys : List (List ℕ)) (i : ℕ) (s start block key last : List ℕ) → length keys ≡ 10 → 10 ≤ i
    → rounds (drop (i - 1) (take 9 keys)) s ≡ rounds (take 9 keys) start → start ≡ xor_lists block key → last ≡ slice_index_or keys 9 []
    → last_round s last ≡ cipher keys key block
unfolding rounds cipher
rounds_end keys i s start block key last count h given begun e =
    let none : length (take 9 keys) ≤ i - 1 = omega (arith, length-take-le 9 keys (omega arith)) in
    ap (λ x. last_round s x) e
    ∙ ap (λ x. last_round x (slice_index_or keys 9 []))
    (sym (at_drop_all (λ ks. rounds ks s) (take 9 keys) (i - 1) none) ∙ given ∙ ap (λ x. rounds (take 9 keys) x) begun)
