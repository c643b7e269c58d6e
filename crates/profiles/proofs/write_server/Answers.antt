-- `write_server` meets its contract: the edition or the server is refused, or it is packed and handed over.
-- Assumes nothing.
use Rattle.std.proofs.Common.{rules, refl, ap, not}
use Rattle.checks.proofs.Numbers.{number_some, refused_as}
use Rattle.profiles.proofs.Handing.{server_writes, write_server_refused, write_server_ranged, write_server_handed}
use Rattle.profiles.proofs.write_server.Goals as goal

pub returns-then-not-has_kind : goal.returns-then-not-has_kind
returns-then-not-has_kind c = search (server_writes, rules)

pub returns-in_err-refusal : goal.returns-in_err-refusal
returns-in_err-refusal c =
    rw (refused_as _ _ c.from_residual.ensures.1)
    (write_server_refused _ c.numbers.ensures c.has_kind.ensures (ap not c.if-not-has_kind.false) c.in_err-refusal.ensures (number_some _))

pub pack_server-writer-requires : goal.pack_server-writer-requires
pack_server-writer-requires c =
    write_server_ranged _ c.numbers.ensures c.has_kind.ensures (ap not c.if-not-has_kind.false) c.in_ok-refusal.ensures refl

pub returns : goal.returns
returns c =
    write_server_handed _ c.numbers.ensures c.has_kind.ensures (ap not c.if-not-has_kind.false) c.in_ok-refusal.ensures refl
    c.pack_server-writer.ensures c.bytes.ensures c.hand_over.ensures
