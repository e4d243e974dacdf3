-- The sizes of a value's tables.
use Rattle.std.specs.Prelude.{◌≤◌, length}
use Rattle.node_limits.specs.declared.TheConstants.{NETWORK_KEYS, APPLICATION_KEYS, BINDINGS, GROUP_SUBSCRIPTIONS, LABEL_SUBSCRIPTIONS, PUBLICATIONS, REPLAY_ENTRIES}
use Rattle.node_records.specs.declared.persist.Persist.{Persist}

-- no table has more rows than its size
pub record HasSizes (p : Persist) : Type 0 where
  pub nets : length p.nets ≤ NETWORK_KEYS
  pub apps : length p.apps ≤ APPLICATION_KEYS
  pub binds : length p.binds ≤ BINDINGS
  pub subs : length p.subs ≤ GROUP_SUBSCRIPTIONS
  pub labels : length p.labels ≤ LABEL_SUBSCRIPTIONS
  pub publications : length p.publications ≤ PUBLICATIONS
  pub replay : length p.replay ≤ REPLAY_ENTRIES
