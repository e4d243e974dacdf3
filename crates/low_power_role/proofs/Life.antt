-- The entries of a life, one by one: what stands before each, and the state there.
use Rattle.std.proofs.Common.{◌≡◌, ◌∙◌, ℕ, List, [], ◌∷◌, ◌++◌, append-nil, append_assoc, refl, ap, sym, subst}
use Rattle.std.specs.Prelude.{fold}
use Rattle.std.specs.List.{flat_map}
use Rattle.std.proofs.lemmas.List.Concat.{flat_map-append}
use Rattle.std.proofs.lemmas.List.Sums.{fold-append}
use Rattle.low_power_definitions.specs.State.{LpnCall, after, no_friend}
use Rattle.mesh_base.specs.declared.address.Address.{Address}
use Rattle.record_types.specs.declared.records.StoreRecord.{StoreRecord}
use Rattle.event_definitions.specs.Handling.{AreHandled, Handles, past_of, records_after}
use Rattle.event_definitions.specs.History.{Told}
use Rattle.low_power_role.proofs.Safe.{rises}
use Rattle.low_power_role.specs.Laws.{StateGoesOn}
use Rattle.low_power_role.specs.Role.{low_power_role, stores}
use Rattle.low_power_role.specs.State.{calls_in, life_state, state_of}
use Rattle.run_safety.proofs.Handled.{rise_all, rise_filled}
use Rattle.run_safety.proofs.Rising.{Later, Rise, rise_after, rise_later}
use Rattle.store_definitions.specs.Config.{config_of}

-- The state after calls more, and after an entry more.

pub more_calls : (own : Address) (elements : ℕ) (told : List Told) (calls : List LpnCall)
    → fold after (no_friend own elements) (flat_map calls_in told ++ calls) ≡ fold after (life_state own elements told) calls
more_calls own elements told calls = fold-append after (no_friend own elements) (flat_map calls_in told) calls

pub goes_on : StateGoesOn
goes_on own elements told t =
    ap (λ calls. fold after (no_friend own elements) calls)
    (flat_map-append calls_in told (t ∷ []) ∙ ap (λ calls. flat_map calls_in told ++ calls) (append-nil (calls_in t)))
    ∙ more_calls own elements told (calls_in t)

-- Each entry is handled over records that only rose since the life began.

entry_rise : (before : List Told) (t : Told) → Rise t.records (records_after low_power_role (past_of before t) t)
entry_rise before t =
    rise_all (stores (past_of before t) t.entry.event t.insight t.entry.answer) t.records
    (rises (past_of before t) (config_of t.records) t.entry.event t.insight t.entry.answer)

pub record At (records : List StoreRecord) (before : List Told) (t : Told) : Type 0 where
  pub rose : Rise records t.records
  pub handled : Handles low_power_role (past_of before t) t

pub at : (records : List StoreRecord) (before xs : List Told) (t : Told) (ys : List Told)
    → AreHandled low_power_role records before (xs ++ t ∷ ys) → At records (before ++ xs) t
at records before [] t ys h = record {
  rose = subst (λ l. Rise records l) (sym h.0) (rise_filled t.entry.fills records);
  handled = subst (λ l. Handles low_power_role (past_of l t) t) (sym (append-nil before)) h.1;
}
at records before (x ∷ xs) t ys h =
    let here : At (records_after low_power_role (past_of before x) x) ((before ++ x ∷ []) ++ xs) t =
    at (records_after low_power_role (past_of before x) x) (before ++ x ∷ []) xs t ys h.2 in
    let first : Rise records x.records = subst (λ l. Rise records l) (sym h.0) (rise_filled x.entry.fills records) in
    record {
      rose = rise_after here.rose (rise_after (entry_rise before x) first);
      handled = subst (λ l. Handles low_power_role (past_of l t) t) (append_assoc before (x ∷ []) xs) here.handled;
    }

-- So the node is the one that the life opened with.
pub state_at : (records : List StoreRecord) (before : List Told) (t : Told) → Rise records t.records
    → state_of (past_of before t) ≡ life_state (config_of records).unicast (config_of records).elements before
state_at records before t rose =
    let later : Later (config_of records) (config_of t.records) = rise_later rose in
    rw (later.unicast, later.elements) refl
