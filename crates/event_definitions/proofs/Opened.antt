-- The key that a message opened under is one of those that were tried: so what holds of each of these holds of it.
use Rattle.std.proofs.Common.{◌≡◌, ℕ, Bool, true, false, List, Option, Some, None}
use Rattle.std.specs.Prelude.{MatchBool, MatchOption}
use Rattle.std.specs.List.{AllByRecursion as Every}
use Rattle.mesh_base.proofs.Every.{every_at}
use Rattle.mesh_base.specs.Address.{is_virtual}
use Rattle.mesh_base.specs.declared.keys.UpperKey.{UpperKey}
use Rattle.mesh_base.specs.declared.lower.Lower.{Lower}
use Rattle.mesh_base.specs.declared.lower.Lower.TheVariants.{Access, AccessPart, Control, ControlPart}
use Rattle.mesh_base.specs.declared.pair.Name.{Name}
use Rattle.mesh_base.specs.declared.upper.UpperFields.{UpperFields}
use Rattle.mesh_types.specs.declared.answers.Answer.{Answer}
use Rattle.event_definitions.specs.Answers.{config_before, lower_answer, message_name}
use Rattle.event_definitions.specs.History.{Opening, Past, Reading}
use Rattle.event_definitions.specs.Layers.{Layers}
use Rattle.event_definitions.specs.Readings.{IsOpened, IsOpenedByLabel, IsOpenedFor, IsOpenedUnder, IsOpening, IsOpeningOf, fields_heard, keys_tried, labels_tried}
use Rattle.store_definitions.specs.Config.{Config}

module _ (P : UpperKey → Type 0) (tried : (c : Config) (r : Reading) (akf : Bool) (id : ℕ) → Every P (keys_tried c r akf id)) (layers : Layers) where
  opened_for : (c : Config) (keys : List UpperKey) (f : UpperFields) (upper : List ℕ) (o : Opening)
      → Every P keys → IsOpenedFor c keys f upper (Some o) → P o.key
  opened_for c keys f upper o h = pick_by (is_virtual f.dst)
    where
      pick_by : (b : Bool)
          → MatchBool b (IsOpenedByLabel keys (labels_tried c) f upper (Some o)) (IsOpenedUnder keys f upper (Some o))
          → P o.key
      pick_by true s = every_at P keys s.1 o.key s.2 h
      pick_by false s = every_at P keys s.0 o.key s.1 h

  opened_key : (past : Past) (r : Reading) (n : Name) (low : Lower) (o : Opening) → IsOpened layers past r n low (Some o) → P o.key
  opened_key past r n (Access akf id upper) o s =
      let c : Config = config_before past in
      opened_for c (keys_tried c r akf id) (fields_heard r n false) upper o (tried c r akf id) s
  opened_key past r n (AccessPart akf id szmic seq_zero seg_o seg_n piece) o s =
      let c : Config = config_before past in
      let upper : List ℕ = layers.whole past n (AccessPart akf id szmic seq_zero seg_o seg_n piece) in
      opened_for c (keys_tried c r akf id) (fields_heard r n szmic) upper o (tried c r akf id) s
  opened_key past r n (Control opcode params) o s = absurd cc
  opened_key past r n (ControlPart opcode seq_zero seg_o seg_n piece) o s = absurd cc

  named_key : (past : Past) (r : Reading) (low : Lower) (n : Option Name) (o : Opening)
      → IsOpeningOf layers past r low n (Some o) → P o.key
  named_key past r low None o s = absurd cc
  named_key past r low (Some n) o s = pick_by (lower_answer layers past r low n) s
    where
      pick_by : (answer : Option Answer)
          → MatchOption answer (IsOpened layers past r n low (Some o)) (λ answer. Some o ≡ None)
          → P o.key
      pick_by None s = opened_key past r n low o s
      pick_by (Some answer) s = absurd cc

  pub key_holds : (past : Past) (r : Option Reading) (low : Option Lower) (o : Opening) → IsOpening layers past r low (Some o) → P o.key
  key_holds past None low o s = absurd cc
  key_holds past (Some r) None o s = absurd cc
  key_holds past (Some r) (Some low) o s = named_key past r low (message_name r.fields low) o s
