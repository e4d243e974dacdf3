-- No friendship so far is that of the address.
use Rattle.std.proofs.Common.{◌≡◌, drop}
use Rattle.config_definitions.specs.Features.{poll_timeout}
use Rattle.config_server.proofs.features.poll_timeout.Given as goal

abbrev pub invariant-loop-poll : goal.invariant-loop-poll
invariant-loop-poll l = poll_timeout (drop l.poll-index l.polls) l.lpn ≡ poll_timeout l.polls l.lpn
