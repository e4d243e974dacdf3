-- What a payload is answered by is proper; but for its reply it is the same whatever a Status shows.
use Rattle.std.proofs.Common.{◌≡◌, ℕ, ◌≤◌, List, length, refl, subst, Option, Some, None}
use Rattle.std.specs.Bool.{⊤}
use Rattle.std.specs.Option.{option_map, option_map_or}
use Rattle.config_definitions.proofs.Cases.{Inside}
use Rattle.config_definitions.proofs.Leaves.{IsRead, Leaves}
use Rattle.config_definitions.proofs.Proper.{IsProper, alike, proper}
use Rattle.config_definitions.proofs.Reading.{Octets, mapped, read_is}
use Rattle.config_definitions.specs.Answers.{config_answer, message_act}
use Rattle.config_definitions.specs.Messages.{config_message}
use Rattle.config_definitions.specs.declared.acts.ConfigAct.{ConfigAct}
use Rattle.config_definitions.specs.declared.messages.ConfigMessage.{ConfigMessage}
use Rattle.mesh_base.specs.declared.address.Address.{Address}
use Rattle.model_states.specs.declared.publication.HeartbeatRow.{HeartbeatRow}
use Rattle.record_types.specs.declared.records.StoreRecord.{StoreRecord}
use Rattle.store_definitions.specs.Config.{Config}

pub answer_proper : (P : StoreRecord → Type 0) (O : Type 0) (c : Config) → Leaves O P c
    → (under : ℕ) (polls : List (Address × ℕ)) (beat : HeartbeatRow) (payload : List ℕ) → (O → Octets payload)
    → Inside (IsProper P) (config_answer c under polls beat payload)
answer_proper P O c leaves under polls beat payload o =
    mapped (IsRead O) (IsProper P) (message_act c under polls beat) (proper P O c leaves under polls beat) (config_message payload)
    (read_is O payload o)

-- whatever is stored
abbrev pub IsReplied : ConfigAct → Type 0
IsReplied act = IsProper (λ item. ⊤) act

any_leaves : (c : Config) → Leaves ⊥ (λ item. ⊤) c
any_leaves c = record {
  app_added = λ k h held full. tt;
  app_updated = λ k h. tt;
  app_deleted = λ k h. tt;
  net_added = λ k h full. tt;
  net_updated = λ k h. tt;
  phase_two = λ net h zero two. tt;
  phase_ended = λ net h. tt;
  net_deleted = λ under net h kept. tt;
  group_added = λ s h n own full. tt;
  group_deleted = λ s h n own. tt;
  all_deleted = λ holder h n own. tt;
  group_overwritten = λ s h n own full. tt;
  label_added = λ s h n own full. tt;
  label_deleted = λ s h n own. tt;
  label_overwritten = λ s h n own full. tt;
  bound = λ b h n own full. tt;
  unbound = λ b h n own. tt;
  published = λ v h n own full. tt;
  beacon = λ on. tt;
  ttl = λ value e. tt;
  friend = λ on. tt;
  relay = λ on retransmit h. tt;
  transmit = λ value h. tt;
  reset = tt;
}

pub replied : (c : Config) (under : ℕ) (polls : List (Address × ℕ)) (beat : HeartbeatRow) (payload : List ℕ)
    → Inside IsReplied (config_answer c under polls beat payload)
replied c under polls beat payload = answer_proper (λ item. ⊤) ⊥ c (any_leaves c) under polls beat payload (λ none. absurd none)

pub reply_of : (c : Config) (under : ℕ) (polls : List (Address × ℕ)) (beat : HeartbeatRow) (payload : List ℕ) (act : ConfigAct)
    → config_answer c under polls beat payload ≡ Some act → 1 ≤ length act.reply
reply_of c under polls beat payload act is = (subst (Inside IsReplied) is (replied c under polls beat payload)).octet
