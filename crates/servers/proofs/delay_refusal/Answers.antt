-- A pure delay is tested by its one line. Assumes nothing.
use Rattle.servers.proofs.Joins.{server_line_rules}
use Rattle.std.proofs.Common.{rules}
use Rattle.servers.proofs.delay_refusal.Goals as goal

pub returns-then-latency-ge-LATENCY_END : goal.returns-then-latency-ge-LATENCY_END
returns-then-latency-ge-LATENCY_END c = search (server_line_rules, rules)
