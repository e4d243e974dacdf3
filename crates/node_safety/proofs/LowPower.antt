-- What octets are read as by a Low Power node is one.
use Rattle.std.proofs.Common.{◌≡◌, ◌∙◌, ℕ, true, false, true≢false, List, Option, Some, None, refl, sym, subst}
use Rattle.mesh_base.specs.declared.lower.Lower.{Lower}
use Rattle.mesh_base.specs.declared.lower.Lower.TheVariants.{Access, AccessPart, Control, ControlPart}
use Rattle.mesh_types.specs.declared.events.Event.{Event}
use Rattle.mesh_types.specs.declared.events.Event.TheVariants as E
use Rattle.event_definitions.specs.Answers.{config_before}
use Rattle.event_definitions.specs.History.{Insight, OfNothing, OfPdu, Opening, Past, Reading}
use Rattle.event_definitions.specs.Readings.{IsLowerPdu, fields_heard}
use Rattle.low_power_definitions.specs.State.{name_of}
use Rattle.low_power_role.specs.Answers.{early_answer, network_answer}
use Rattle.low_power_role.specs.Readings.{IsLower, IsOpened, IsOpening, IsReading, Sees, has_octets, keys_heard, keys_tried, sees_nothing, sees_pdu}
use Rattle.low_power_role.specs.Role.{low_power_role}
use Rattle.node_safety.specs.Readings.{SeesOnce}
use Rattle.node_safety.proofs.Once.{lower_pdu_once, match_once, reads_once, under_once}

reading_once : (past : Past) (octets : List ℕ) (x y : Option Reading) → IsReading past octets x → IsReading past octets y → x ≡ y
reading_once past octets None None h k = refl
reading_once past octets None (Some s) h (q, k) = absurd (h q s.by s.fields k.key k.reads)
reading_once past octets (Some r) None (p, h) k = absurd (k p r.by r.fields h.key h.reads)
reading_once past octets (Some r) (Some s) (p, h) (q, k) =
    let e = reads_once (keys_heard past) (config_before past).iv.current octets r.fields s.fields p q r.by s.by h k in
    λ i. Some (record { fields = e.0 i; by = e.1 i })

lower_once : (past : Past) (r : Option Reading) (x y : Option Lower) → IsLower past r x → IsLower past r y → x ≡ y
lower_once past None x y h k = h ∙ sym k
lower_once past (Some r) x y h k = match_once (network_answer past r) (IsLowerPdu r.fields) None x y (lower_pdu_once r.fields) h k

opened_once : (past : Past) (r : Reading) (low : Lower) (x y : Option Opening) → IsOpened past r low x → IsOpened past r low y → x ≡ y
opened_once past r (Access akf aid upper) x y h k = under_once (keys_tried (config_before past) r akf) (fields_heard r (name_of r.fields) false) upper x y h k
opened_once past r (AccessPart akf aid szmic seq_zero seg_o seg_n piece) x y h k = h ∙ sym k
opened_once past r (Control opcode params) x y h k = h ∙ sym k
opened_once past r (ControlPart opcode seq_zero seg_o seg_n piece) x y h k = h ∙ sym k

opening_once : (past : Past) (r : Option Reading) (low : Option Lower) (x y : Option Opening) → IsOpening past r low x → IsOpening past r low y → x ≡ y
opening_once past None low x y h k = h ∙ sym k
opening_once past (Some r) None x y h k = h ∙ sym k
opening_once past (Some r) (Some low) x y h k = match_once (early_answer past r) (IsOpened past r low) None x y (opened_once past r low) h k

pdu_once : (past : Past) (octets : List ℕ) (r : Option Reading) (low : Option Lower) (o : Option Opening) → IsReading past octets r → IsLower past r low → IsOpening past r low o
    → (other : Insight) → Sees past (E.Net octets) other → OfPdu r low o ≡ other
pdu_once past octets r low o h l u _ (sees_pdu {reading = s} {low = m} {opening = v} h' l' u') =
    let reading : r ≡ s = reading_once past octets r s h h' in
    let lower : low ≡ m = lower_once past r low m l (subst (λ x. IsLower past x m) (sym reading) l') in
    let opening : o ≡ v = opening_once past r low o v u (subst (λ (x : Option Reading × Option Lower). IsOpening past x.0 x.1 v) (λ i. (sym reading i, sym lower i)) u') in
    λ i. OfPdu (reading i) (lower i) (opening i)
pdu_once past octets r low o h l u _ (sees_nothing none) = absurd (true≢false none)

nothing_once : (past : Past) (event : Event) (other : Insight) → has_octets event ≡ false → Sees past event other → OfNothing ≡ other
nothing_once past _ _ none (sees_pdu h l u) = absurd (true≢false none)
nothing_once past _ _ none (sees_nothing other) = refl

pub sees_once : SeesOnce low_power_role
sees_once past _ _ other (sees_pdu {octets = octets} {reading = r} {low = low} {opening = o} h l u) k = pdu_once past octets r low o h l u other k
sees_once past _ _ other (sees_nothing {event = event} none) k = nothing_once past event other none k
