-- A refusal of either server, a latency that is too large, or the joined server. Assumes nothing.
use Rattle.std.proofs.Common.{refl}
use Rattle.checks.proofs.Numbers.{number_some, refused_as}
use Rattle.servers.proofs.Joins.{late_first, late_second, join_refused, join_large, join_joined}
use Rattle.servers.proofs.Server.join.Goals as goal

pub returns-in_err-both : goal.returns-in_err-both
returns-in_err-both c =
    rw (refused_as _ _ c.from_residual.ensures.1) (join_refused c.refusal.ensures c.refusal-2.ensures c.in_err-both.ensures.code (number_some _) refl refl)

pub join-kind-requires-clause-first_late : goal.join-kind-requires-clause-first_late
join-kind-requires-clause-first_late c = late_first c.refusal.ensures c.refusal-2.ensures c.in_ok-both.ensures.code refl

pub join-kind-requires-clause-second_late : goal.join-kind-requires-clause-second_late
join-kind-requires-clause-second_late c = late_second c.refusal.ensures c.refusal-2.ensures c.in_ok-both.ensures.code refl

pub returns-then-latency-ge-LATENCY_END : goal.returns-then-latency-ge-LATENCY_END
returns-then-latency-ge-LATENCY_END c =
    join_large c.refusal.ensures c.refusal-2.ensures c.in_ok-both.ensures.code refl c.join-kind.ensures c.latency.ensures
    c.if-latency-ge-LATENCY_END.true refl refl

pub returns : goal.returns
returns c =
    join_joined c.refusal.ensures c.refusal-2.ensures c.in_ok-both.ensures.code refl c.join-kind.ensures c.latency.ensures
    c.if-latency-ge-LATENCY_END.false
