-- `walk` goes through the input hop by hop. The loop's invariant: `Walking`. The measure is how many servers may still come.
-- Assumes nothing.
use Prim.Native.Nat.{◌-◌}
use Rattle.servers.specs.Cited.{server_of}
use Rattle.routes.proofs.Walking.{Walking}
use Rattle.routes.proofs.walk.walk.Given as goal

abbrev pub invariant-loop-rest : goal.invariant-loop-rest
invariant-loop-rest l =
    Walking l.input l.first l.text l.passed (server_of l.joined) l.curve l.numbers l.next l.rest

abbrev pub decreases-loop-rest : goal.decreases-loop-rest
decreases-loop-rest l =
    32 - l.passed
