-- What a new node is provisioned with, by the words of the command and by its keys.
use Rattle.std.specs.Prelude.{ℕ, ◌^◌, ◌-◌, ◌<◌, ◌≤◌, ◌==◌, ◌&&◌, nat_le, if◌then◌else◌, IsTrue, List, length, slice_index, Option, Some, None}
use Rattle.node_store.specs.declared.provision.Provision.{Provision}
use Rattle.script_definitions.specs.Digits.{◌>>=◌, decimal_word, number_word}
use Rattle.script_definitions.specs.Forms.{address_word, flags_fit, flags_word}
use Rattle.script_definitions.specs.Lines.{elements_fit}
use Rattle.daemon_words.specs.declared.keys.NodeKeys.{NodeKeys}
use Rattle.daemon_words.specs.declared.numbers.NodeNumbers.{NodeNumbers}

-- UNICAST ELEMENTS IV FLAGS NETIDX, as in a script's line `provision`
unfoldable pub node_numbers : List ℕ → List ℕ → List ℕ → List ℕ → List ℕ → Option NodeNumbers
node_numbers unicast elements iv flags net_index =
    address_word unicast >>= λ unicast.
    decimal_word 1 elements >>= λ elements.
    number_word 8 iv >>= λ iv.
    flags_word flags >>= λ flags.
    number_word 3 net_index >>= λ net_index.
    if elements_fit unicast.0 elements && flags_fit flags iv
    then Some (record {
      unicast = unicast;
      elements = elements;
      iv = iv;
      flags = flags;
      net_index = net_index;
    })
    else None

-- the numbers of a node: 1 to 4 elements with unicast addresses, two flags, and an index of 12 bits
pub record IsNumbers (n : NodeNumbers) : Type 0 where
  pub elements : IsTrue (elements_fit n.unicast.0 n.elements)
  pub flags : n.flags < 4
  pub iv : IsTrue (flags_fit n.flags n.iv)
  pub net_index : n.net_index < 2 ^ 12

abbrev pub provision_of : NodeNumbers → NodeKeys → Provision
provision_of n keys = record {
  unicast = n.unicast;
  elements = n.elements;
  iv = n.iv;
  flags = n.flags;
  net_index = n.net_index;
  net_key = keys.net_key;
  dev_key = keys.dev_key;
}

-- 1 to 8 bearers, in one digit; 49 is `1`, 56 is `8`
abbrev pub bearers_word : List ℕ → Option ℕ
bearers_word word =
    if (length word == 1) && nat_le 49 (slice_index word 0) && nat_le (slice_index word 0) 56
    then Some (slice_index word 0 - 48)
    else None

abbrev pub IsBearers : ℕ → Type 0
IsBearers n = (1 ≤ n) × (n ≤ 8)
