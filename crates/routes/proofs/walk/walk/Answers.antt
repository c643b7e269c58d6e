-- `walk` goes through the input hop by hop, each from what is known before it (`Walking`), until a refusal or the route's line ends
-- the text.
-- Assumes nothing.
use Rattle.std.proofs.Common.{rules, refl}
use Rattle.checks.proofs.Numbers.{number_some}
use Rattle.routes.proofs.Walking.{walking, walk_start, start_inside, step_asked, step_route, next_room, next_walking, route_line, route_line_room, backlog_answered, delay_answered, answered_ok}
use Rattle.routes.proofs.walk.walk.Goals as goal

pub slice_bounds-rest-start : goal.slice_bounds-rest-start
slice_bounds-rest-start c = start_inside c.requires.starts

pub slice_bounds-rest-count : goal.slice_bounds-rest-count
slice_bounds-rest-count c = start_inside c.requires.starts

pub loop-rest-init : goal.loop-rest-init
loop-rest-init c = walk_start c.requires.starts c.requires.empty refl

pub returns-then-passed-eq-SERVERS : goal.returns-then-passed-eq-SERVERS
returns-then-passed-eq-SERVERS c = search (walking, rules)

pub step_at-requires-clause-stepping : goal.step_at-requires-clause-stepping
step_at-requires-clause-stepping c =
    step_asked c.loop-rest.invariant c.is_due.ensures c.loop-rest-test.true c.if-passed-eq-SERVERS.false

pub returns-in-Err : goal.returns-in-Err
returns-in-Err c =
    step_route c.loop-rest.invariant c.is_due.ensures c.loop-rest-test.true c.if-passed-eq-SERVERS.false c.in-Err.ensures
    (number_some _) c.refuse-in-Err.ensures

pub put_hop-requires : goal.put_hop-requires
put_hop-requires c =
    next_room c.loop-rest.invariant c.is_due.ensures c.loop-rest-test.true c.if-passed-eq-SERVERS.false c.in-Ok.ensures refl

pub loop-rest-preserved : goal.loop-rest-preserved
loop-rest-preserved c =
    next_walking c.loop-rest.invariant c.is_due.ensures c.loop-rest-test.true c.if-passed-eq-SERVERS.false c.in-Ok.ensures refl
    c.put_hop.ensures c.first_end.ensures

pub unwrap-requires : goal.unwrap-requires
unwrap-requires c =
    answered_ok c.backlog.result
    (backlog_answered c.loop-rest.invariant c.is_due.ensures c.loop-rest-test.false _ _ c.backlog.ensures)

pub unwrap-requires-2 : goal.unwrap-requires-2
unwrap-requires-2 c =
    answered_ok c.delay.result
    (delay_answered c.loop-rest.invariant c.is_due.ensures c.loop-rest-test.false _ _ _ _ c.backlog.ensures c.delay.ensures)

pub put_route-requires : goal.put_route-requires
put_route-requires c =
    route_line_room c.loop-rest.invariant c.is_due.ensures c.loop-rest-test.false _ _ _ _
    (rw c.unwrap.ensures at c.backlog.ensures) (rw c.unwrap-2.ensures at c.delay.ensures)

pub returns : goal.returns
returns c =
    route_line c.loop-rest.invariant c.is_due.ensures c.loop-rest-test.false _ _ _ _
    (rw c.unwrap.ensures at c.backlog.ensures) (rw c.unwrap-2.ensures at c.delay.ensures) c.put_route.ensures
