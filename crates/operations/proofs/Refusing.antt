-- The tests of a curve with a server: those of the curve and of the server, then the last rate against the server's.
-- Assumes nothing.
use mathlib.Core.Path.{◌≡◌, sym, subst}
use mathlib.Core.Logic.{inl}
use mathlib.Core.List.{List}
use Prim.Native.Nat.{ℕ, ◌≤◌, ◌<◌}
use native.Mathlib.Omega.{arith}
use lib.Dec.{lit≤}
use Rattle.meaning.specs.Curve.{curve_of}
use Rattle.meaning.specs.Server.{Server, pure_delay, last, port}
use Rattle.meaning.specs.Refusal.{UNBOUNDED, number, Lines, ◌when◌, ◌or◌, Clear, Verdict, accepted, rejected, curve_lines}
use Rattle.meaning.specs.ServerQuestions.{server_lines, port_lines, cross_lines}
use Rattle.meaning.specs.Computed.{earlier}
use Rattle.meaning.proofs.Order.{not_above}
use Rattle.meaning.proofs.Outcome.Outcomes.{from_when, from_or, up_to_or, clear_or, line_hit, line_miss, verdict_or, refused_first, refused_then}
use Rattle.meaning.proofs.Outcome.Answers.{curve_up_to}
use Rattle.meaning.proofs.Outcome.Demands.{server_up_to, port_curve, port_server, port_bounded}
use Rattle.servers.specs.Cited as servers
use Rattle.operations.specs.Cited.{bucket, TestedPort}
use Rattle.operations.proofs.Valuing.{tested}

-- ---- A curve and a server.

-- the smaller of their codes is the verdict on both
pub with_server :
    {a : Lines} {s : Server} {x y code : ℕ} → Verdict a x → servers.Tested s y → code ≡ earlier x y
    → Verdict (a or server_lines s) code
with_server {a} {s} v w e = subst (Verdict (a or server_lines s)) (sym e) (verdict_or v w.verdict)

-- with a pure delay that is all
pub with_delay :
    (f : List ℕ) {latency x y code : ℕ} → Verdict (curve_lines f) x → servers.Tested (pure_delay latency) y → code ≡ earlier x y
    → Verdict (port_lines f (pure_delay latency)) code
with_delay f {latency} {code = code} v w e = all (with_server v w e)
  where
    all : Verdict (curve_lines f or server_lines (pure_delay latency)) code → Verdict (port_lines f (pure_delay latency)) code
    all (accepted clear is) = accepted (clear_or clear (λ r h. h.1)) is
    all (rejected r w is) =
        rejected r (record { holds = inl w.holds; smallest = from_or w.smallest (λ line h. absurd h.1) }) is

-- ---- The last rate against the server's.

module _ (f : List ℕ) {rate latency code : ℕ} (v : Verdict (curve_lines f or server_lines (port rate latency)) code) where
  -- the curve or the server is refused
  pub port_refused :
      {Broken : Type 0} → (code ≡ 0 → ⊥)
      → Verdict (curve_lines f or server_lines (port rate latency) or UNBOUNDED when Broken) code
  unfolding number
  port_refused some =
      refused_first (up_to_or (curve_up_to f) (server_up_to (port rate latency))) (from_when UNBOUNDED (lit≤ tt))
      (omega (arith, some)) v

  module _ (none : code ≡ 0) where
    taken : Verdict (curve_lines f or server_lines (port rate latency)) 0
    taken = rw none at v

    module _ {last_rate burst : ℕ} (is : bucket last_rate burst ≡ last (curve_of f)) where
      -- the last rate is above the server's,
      pub port_above : rate < last_rate → Verdict (port_lines f (port rate latency)) (number UNBOUNDED)
      port_above above = refused_then taken (line_hit UNBOUNDED (rw (← is) above))

      -- or it is not
      pub port_taken : last_rate ≤ rate → Verdict (port_lines f (port rate latency)) 0
      port_taken bounded = refused_then taken (line_miss (rw (← is) (λ above. omega arith)))

      -- the last rate is the server's or above,
      pub cross_above : rate ≤ last_rate → Verdict (cross_lines f (port rate latency)) (number UNBOUNDED)
      cross_above above = refused_then taken (line_hit UNBOUNDED (rw (← is) above))

      -- or it is below
      pub cross_taken : last_rate < rate → Verdict (cross_lines f (port rate latency)) 0
      cross_taken below = refused_then taken (line_miss (rw (← is) (λ above. omega arith)))

-- ---- What is known of a curve and a server that no line refuses.

pub tested_port :
    (f : List ℕ) {rate latency : ℕ} → Clear (port_lines f (port rate latency)) → TestedPort (curve_of f) rate latency
tested_port f {rate} {latency} clear =
    record {
      curve = tested f (port_curve f (port rate latency) clear);
      bounded = not_above (port_bounded f (port rate latency) clear);
      server = port_server f (port rate latency) clear;
    }
