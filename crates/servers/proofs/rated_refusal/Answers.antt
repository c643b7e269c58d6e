-- A rate-latency server is tested by its one line. Assumes nothing.
use Rattle.servers.proofs.Joins.{server_line_rules}
use Rattle.std.proofs.Common.{rules}
use Rattle.servers.proofs.rated_refusal.Goals as goal

pub returns-then-rate-eq0 : goal.returns-then-rate-eq0
returns-then-rate-eq0 c = search (server_line_rules, rules)
