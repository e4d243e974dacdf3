-- When models publish and heartbeats are sent (Mesh Profile 1.0.1, sections 4.2.2.2 and 4.2.17). Time is in ticks of 10 ms.
use Rattle.std.specs.Prelude.{ℕ, suc, zero, ◌+◌, ◌-◌, ◌*◌, ◌/◌, ◌%◌, ◌^◌, ◌==◌, ◌&&◌, ◌||◌, not, nat_lt, nat_le, Bool, true, false, if◌then◌else◌, List, [], ◌∷◌, Option, Some, None, map, filter, fold}
use Rattle.layer_definitions.specs.Order.{put_by}
use Rattle.mesh_base.specs.declared.address.Address.{Address}
use Rattle.record_types.specs.declared.records.PublishRow.{PublishRow}
use Rattle.model_states.specs.declared.publication.Heartbeat.{Heartbeat}
use Rattle.model_states.specs.declared.publication.HeartbeatRow.{HeartbeatRow}
use Rattle.model_states.specs.declared.publication.Publication.{Publication}
use Rattle.model_states.specs.Timing.{step_ticks}

-- What a node publishes: the rows of its models by element and model, the moment at which was last asked which are due, and its heartbeat.
pub record Published : Type 0 where
  pub rows : List Publication
  pub asked : ℕ
  pub heartbeat : Option Heartbeat

-- Rows.

-- by what the rows of publications are ordered: the element, then the model
unfoldable pub row_index : Publication → ℕ
row_index p = p.row.element.0 * 65536 + p.row.model

-- a row that is accepted at this moment
abbrev pub accepted_at : ℕ → PublishRow → Publication
accepted_at now row = record { row = row; accepted = now }

-- a life opens with these rows, accepted at 0
abbrev pub published_from : List PublishRow → Published
published_from rows =
    record { rows = fold (λ held row. put_by row_index (accepted_at 0 row) held) [] rows; asked = 0; heartbeat = None }

abbrev pub row_set : Published → ℕ → PublishRow → Published
row_set p now row = record p { rows = put_by row_index (accepted_at now row) p.rows }

-- Publish Period: steps in the low 6 bits, of 100 ms, 1 s, 10 s or 10 min by the high 2 (4.2.2.2)
abbrev pub publish_period : ℕ → ℕ
publish_period octet = octet % 64 * step_ticks (octet / 64)

-- how many times a period is over from one moment to another
abbrev pub periods_over : ℕ → ℕ → ℕ → ℕ
periods_over period accepted now = if period == 0 then 0 else (now - accepted) / period

-- Some end of a period is behind the last moment at which was asked, and not behind this one.
abbrev pub has_period_ended : ℕ → ℕ → ℕ → ℕ → Bool
has_period_ended period accepted asked now =
    nat_lt (periods_over period accepted asked) (periods_over period accepted now)

-- a row with an address and a period is due where a period ended since it was last asked
abbrev pub is_row_due : ℕ → ℕ → Publication → Bool
is_row_due asked now p =
    not (p.row.address.0 == 0) && has_period_ended (publish_period p.row.period) p.accepted asked now

abbrev pub rows_due : Published → ℕ → List PublishRow
rows_due p now = map (λ r. r.row) (filter (is_row_due p.asked now) p.rows)

abbrev pub after_rows : Published → ℕ → Published
after_rows p now = record p { asked = now }

-- The heartbeat.

-- the period of a Period Log: 1 s, doubled so often; none of 00, and of the numbers above 11, which are prohibited (4.2.17.3)
abbrev pub heartbeat_period : ℕ → ℕ
heartbeat_period log = if log == 0 || nat_lt 0x11 log then 0 else 100 * 2 ^ (log - 1)

-- how many heartbeats a Count Log stands for: None without an end; none of 00, and of the numbers that are prohibited (4.2.17.2)
abbrev pub heartbeat_count : ℕ → Option ℕ
heartbeat_count log =
    if log == 0xff then None
    else if log == 0 || nat_lt 0x11 log then Some 0
    else if log == 0x11 then Some 65534
    else Some (2 ^ (log - 1))

-- a heartbeat that is set at this moment
abbrev pub heartbeat_at : ℕ → HeartbeatRow → Heartbeat
heartbeat_at now row = record { row = row; accepted = now; asked = None; left = heartbeat_count row.count }

abbrev pub heartbeat_set : Published → ℕ → HeartbeatRow → Published
heartbeat_set p now row = record p { heartbeat = Some (heartbeat_at now row) }

abbrev pub is_none_left : Option ℕ → Bool
is_none_left None = false
is_none_left (Some n) = n == 0

-- the first is due when it is first asked, and a further one where a period ended since it was last asked
abbrev pub is_time : ℕ → ℕ → Option ℕ → ℕ → Bool
is_time period accepted None now = true
is_time period accepted (Some asked) now = has_period_ended period accepted asked now

-- a heartbeat with a destination, a period and some left is due at its times
abbrev pub is_heartbeat_due : ℕ → Heartbeat → Bool
is_heartbeat_due now h =
    let period = heartbeat_period h.row.period in
    not (h.row.dst.0 == 0) && not (period == 0) && not (is_none_left h.left) && is_time period h.accepted h.asked now

abbrev pub one_less : Option ℕ → Option ℕ
one_less None = None
one_less (Some n) = Some (n - 1)

abbrev pub heartbeat_after : ℕ → Heartbeat → Heartbeat
heartbeat_after now h = record h { asked = Some now; left = if is_heartbeat_due now h then one_less h.left else h.left }

abbrev pub heartbeat_due : Published → ℕ → Option HeartbeatRow
heartbeat_due p now = due p.heartbeat
  where
    due : Option Heartbeat → Option HeartbeatRow
    due None = None
    due (Some h) = if is_heartbeat_due now h then Some h.row else None

abbrev pub after_heartbeat : Published → ℕ → Published
after_heartbeat p now = record p { heartbeat = after p.heartbeat }
  where
    after : Option Heartbeat → Option Heartbeat
    after None = None
    after (Some h) = Some (heartbeat_after now h)

-- The Count Log that a Status shows for what is left: the least log of at least so many, 00 for none, ff without an end (4.2.17.2).
unfoldable pub least_log : ℕ → ℕ → ℕ → ℕ
least_log zero log n = log
least_log (suc fuel) log n = if nat_le n (2 ^ (log - 1)) then log else least_log fuel (log + 1) n

abbrev pub count_log : Option ℕ → ℕ
count_log None = 0xff
count_log (Some n) = if n == 0 then 0 else least_log 16 1 n

-- the Heartbeat Publication state as a Status shows it; zeros before any was set
abbrev pub no_heartbeat : HeartbeatRow
no_heartbeat = record { dst = record { 0 = 0 }; count = 0; period = 0; ttl = 0; features = 0; net = 0 }

abbrev pub heartbeat_shown : Published → HeartbeatRow
heartbeat_shown p = shown p.heartbeat
  where
    shown : Option Heartbeat → HeartbeatRow
    shown None = no_heartbeat
    shown (Some h) = record h.row { count = count_log h.left }
