-- What one word of a line stands for.
use Rattle.std.specs.Prelude.{ℕ, ◌+◌, ◌==◌, nat_le, nat_lt, ◌||◌, if◌then◌else◌, Bool, true, false, List, length, take, drop, slice_index, slice_range, codes, Option, Some, None}
use Rattle.std.specs.Option.{option_map}
use Rattle.std.specs.Str.{bytes_eq}
use Rattle.mesh_base.specs.declared.address.Address.{Address}
use Rattle.mesh_types.specs.declared.events.SendKey.{SendKey}
use Rattle.mesh_types.specs.declared.events.SendKey.TheVariants as S
use Rattle.script_definitions.specs.Digits.{◌>>=◌, number_word, plain_decimal_word, key_word, octets_word}
use Rattle.script_definitions.specs.declared.line.ScriptNet.{ScriptNet}
use Rattle.script_definitions.specs.declared.line.ScriptNet.TheVariants as N
use Rattle.script_definitions.specs.declared.line.TalkKey.{TalkKey}
use Rattle.script_definitions.specs.declared.line.TalkKey.TheVariants as K
use Rattle.script_definitions.specs.declared.line.TalkDst.{TalkDst}
use Rattle.script_definitions.specs.declared.line.TalkDst.TheVariants as D
use Rattle.script_definitions.specs.declared.line.TalkPiece.{TalkPiece}
use Rattle.script_definitions.specs.declared.line.TalkPiece.TheVariants as P

-- an address of any kind: four digits
unfoldable pub address_word : List ℕ → Option Address
address_word word = number_word 4 word >>= λ address. Some (record { 0 = address })

-- TTL: two digits, at most 7f
unfoldable pub ttl_word : List ℕ → Option ℕ
ttl_word word = number_word 2 word >>= λ ttl. if nat_lt ttl 0x80 then Some ttl else None

-- CTL: 0 or 1
unfoldable pub bit_word : List ℕ → Option Bool
bit_word word =
    if bytes_eq word (codes "0") then Some false
    else if bytes_eq word (codes "1") then Some true
    else None

-- FLAGS: two digits, 00 to 03
unfoldable pub flags_word : List ℕ → Option ℕ
flags_word word = number_word 2 word >>= λ flags. if nat_lt flags 4 then Some flags else None

-- bit 1 of the flags says that the IV Update is in progress, which needs an IV Index of at least 1
abbrev pub flags_fit : ℕ → ℕ → Bool
flags_fit flags iv = nat_lt flags 2 || nat_le 1 iv

-- TPDU: 1 to 16 octets, or 1 to 12 of a control message
unfoldable pub tpdu_word : Bool → List ℕ → Option (List ℕ)
tpdu_word ctl word = octets_word (if ctl then 12 else 16) word

-- a slash and four digits, at this place of a word
unfoldable pub slashed : List ℕ → ℕ → Option ℕ
slashed word at = if slice_index word at == 47 then number_word 4 (slice_range word (at + 1) (at + 5)) else None

-- `KEY/LPN/FRIEND/LPNCOUNTER/FRIENDCOUNTER`
unfoldable pub friendship_word : List ℕ → Option ScriptNet
friendship_word word =
    key_word (take 32 word) >>= λ key.
    slashed word 32 >>= λ lpn.
    slashed word 37 >>= λ friend.
    slashed word 42 >>= λ lpn_counter.
    slashed word 47 >>= λ friend_counter.
    Some (N.Friendship key (record { 0 = lpn }) (record { 0 = friend }) lpn_counter friend_counter)

-- NET: a network key, or the credentials of a friendship
unfoldable pub net_word : List ℕ → Option ScriptNet
net_word word = if length word == 52 then friendship_word word else option_map N.Master (key_word word)

-- UKEY: `dev:KEY` or `app:KEY`
unfoldable pub talk_key_word : List ℕ → Option TalkKey
talk_key_word word =
    if bytes_eq (take 4 word) (codes "dev:") then option_map K.Device (key_word (drop 4 word))
    else if bytes_eq (take 4 word) (codes "app:") then option_map K.App (key_word (drop 4 word))
    else None

-- DST of `talk`: `v:` and the 32 digits of a label, or an address
unfoldable pub talk_dst_word : List ℕ → Option TalkDst
talk_dst_word word =
    if bytes_eq (take 2 word) (codes "v:") then option_map D.Label (key_word (drop 2 word))
    else option_map D.Address (address_word word)

-- PIECE: `u`, or SegO in decimal
unfoldable pub piece_word : List ℕ → Option TalkPiece
piece_word word = if bytes_eq word (codes "u") then Some P.Whole else option_map P.Segment (plain_decimal_word 2 word)

-- KEY of `send`: `dev`, `dev:KEY`, or `app:` and the three digits of an index
unfoldable pub send_key_word : List ℕ → Option SendKey
send_key_word word =
    if bytes_eq word (codes "dev") then Some S.Own
    else if bytes_eq (take 4 word) (codes "dev:") then option_map S.Other (key_word (drop 4 word))
    else if bytes_eq (take 4 word) (codes "app:") then option_map S.App (number_word 3 (drop 4 word))
    else None

-- PAYLOAD: 1 to 380 octets
abbrev pub payload_word : List ℕ → Option (List ℕ)
payload_word word = octets_word 380 word
