-- What a configuration message stores, if it does, is so.
use Rattle.std.proofs.Common.{Bool, true, false, cond, Option, Some, None}
use Rattle.config_definitions.proofs.Cases.{Inside, inside_weaker}
use Rattle.config_definitions.specs.declared.acts.ConfigAct.{ConfigAct}
use Rattle.record_types.specs.declared.records.StoreRecord.{StoreRecord}

pub record Acted (P : StoreRecord → Type 0) (o : Option ConfigAct) : Type 0 where
  pub change : Inside (λ a. Inside P a.change) o

pub nothing : (P : StoreRecord → Type 0) → Acted P None
nothing P = record { change = tt }

pub acted_pick : (P : StoreRecord → Type 0) (b : Bool) (x y : Option ConfigAct) → Acted P x → Acted P y → Acted P (cond b x y)
acted_pick P true x y h k = h
acted_pick P false x y h k = k

pub acted_weaker : (P Q : StoreRecord → Type 0) → ((item : StoreRecord) → P item → Q item) → (o : Option ConfigAct) → Acted P o → Acted Q o
acted_weaker P Q k o h = record { change = inside_weaker (λ (a : ConfigAct). Inside P a.change) (λ (a : ConfigAct). Inside Q a.change) (λ a g. inside_weaker P Q k a.change g) o h.change }
