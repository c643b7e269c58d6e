-- The figures P5 to P10 and that of join, as outcomes: each is the only outcome of its question.
-- Assumes nothing.
use mathlib.Core.Path.{◌≡◌, refl}
use mathlib.Core.List.{List, [], ◌∷◌}
use Prim.Native.Nat.{ℕ, ◌-◌, ◌^◌, ◌≤◌, ◌<◌}
use native.Mathlib.Omega.{arith}
use lib.Dec.{lit≤}
use lib.ListN.{length}
use Rattle.meaning.specs.Curve.{Bucket, buckets, curve_of, list_of, NormalForm}
use Rattle.meaning.specs.Server.{Server, no_server, join_rated, join, last, Behind, Backlog, Delay, Residual, port}
use Rattle.meaning.specs.Refusal.{LARGE, number, Clear, accepted, curve_lines, over, Outcome, FigureOutcome}
use Rattle.meaning.specs.ServerQuestions.{ServerInRange, port_lines, passing, BacklogOutcome, DelayOutcome, HopOutcome, ServerOutcome, JoinOutcome, ResidualOutcome}
use Rattle.meaning.specs.Computed.{is_normal}
use Rattle.meaning.specs.Figures.{C}
use Rattle.meaning.proofs.Lists.{curve_list, EachInRange, all_in_range}
use Rattle.meaning.proofs.Figures.{table}
use Rattle.meaning.proofs.Curve.Neighbours.{neighbours_sound}
use Rattle.meaning.proofs.Server.BothKinds.{KeepsUp, not_outrun, left_unique}
use Rattle.meaning.proofs.Outcome.Outcomes.{Same, clear_or, line_hit, refused_then, refusal}
use Rattle.meaning.proofs.Outcome.Answers.{sound_clear, OnlyAnswer, is_answered, only_single}
use Rattle.meaning.proofs.Outcome.Known.{c_clear}
use Rattle.meaning.proofs.Outcome.Demands.{single_behind, one_backlog, one_delay, one_join, one_residual, hop_answered, one_hop, SameHop, unbounded_behind, unbounded_backlog, unbounded_delay}

-- The only outcome of a question that a figure answers: code 0 and this figure.
abbrev pub OnlyFigure : (ℕ → ℕ → Type 0) → ℕ → Type 0
OnlyFigure FigureOf n = (code figure : ℕ) → FigureOf code figure → (code ≡ 0) × (figure ≡ n)

-- The only outcome of a question that a server answers: this code and this server.
abbrev pub OnlyServer : (ℕ → Server → Type 0) → ℕ → Server → Type 0
OnlyServer ServerOf code s = (code' : ℕ) (s' : Server) → ServerOf code' s' → (code' ≡ code) × (s' ≡ s)

-- The only outcome of a hop, in a list that has room: code 0, these figures, these numbers and the server passed.
abbrev pub OnlyHop : List ℕ → Server → List ℕ → ℕ → ℕ → ℕ → Type 0
OnlyHop f s numbers count backlog delay =
    (before after : List ℕ) (code count' backlog' delay' : ℕ) (through : Server) → length numbers ≤ length before
    → HopOutcome f s before after code count' backlog' delay' through
    → SameHop code count' backlog' delay' through 0 count backlog delay s after (over numbers before)

-- A curve in normal form that is not too large, at a server in range whose rate the last one is not above:
module _
    {f : List Bucket} (s : Server) (form : NormalForm f) (fits : (length f ≤ 64) × EachInRange f) (ranged : ServerInRange s)
    (bounded : KeepsUp f s)
  where
    -- no line holds,
    pub known_clear : Clear (port_lines (list_of f) s)
    known_clear =
        clear_or (clear_or (sound_clear f form (all_in_range f fits.1) fits.0) (λ r h. h.1 ranged))
        (λ r h. not_outrun f s bounded (rw curve_list at h.1))

    module _ {g : List Bucket} (right : Behind f s g) (small : (length g ≤ 64) × EachInRange g) where
      behind_right : (passing (list_of f) s).Answer g
      unfolding passing
      behind_right = rw curve_list right

      passing_clear : Clear (passing (list_of f) s).operands
      unfolding passing
      passing_clear = known_clear

      -- the curve behind is the only outcome of behind,
      pub only_behind : OnlyAnswer (passing (list_of f) s) (list_of g) (length g)
      only_behind = only_single g (single_behind (list_of f) s) passing_clear behind_right small

      -- and with the figures of a hop
      pub only_hop : {n d : ℕ} → Backlog f s n → Delay f s d → OnlyHop (list_of f) s (list_of g) (length g) n d
      only_hop b d before after code count backlog delay through room o =
          one_hop (list_of f) s o
          (record {
            curve = is_answered g (single_behind (list_of f) s) passing_clear behind_right small before room;
            figures = hop_answered (list_of f) s refl (rw curve_list b) (rw curve_list d);
          })

    -- the backlog is the only one of backlog,
    pub only_backlog : {n : ℕ} → Backlog f s n → OnlyFigure (BacklogOutcome (list_of f) s) n
    unfolding BacklogOutcome
    only_backlog b code figure o =
        one_backlog (list_of f) s o (FigureOutcome.answered known_clear refl (rw curve_list b))

    -- and the delay of delay
    pub only_delay : {d : ℕ} → Delay f s d → OnlyFigure (DelayOutcome (list_of f) s) d
    unfolding DelayOutcome
    only_delay d code figure o = one_delay (list_of f) s o (FigureOutcome.answered known_clear refl (rw curve_list d))

-- two servers in range whose joined one is in range are joined
pub join_answered :
    (s next : Server) → ServerInRange s → ServerInRange next → ServerInRange (join s next) → JoinOutcome s next 0 (join s next)
unfolding JoinOutcome
join_answered s next first second joined =
    ServerOutcome.answered
    (clear_or (clear_or (λ r h. h.1 first) (λ r h. h.1 second)) (λ r h. h.1.2 (rw h.1.1 joined))) refl refl

-- ---- The curves of the figures.

pub c_form : NormalForm C
unfolding buckets is_normal
c_form = neighbours_sound C refl

pub c_fits : (length C ≤ 64) × EachInRange C
unfolding buckets
c_fits = omega arith

-- one bucket
abbrev pub one : ℕ → ℕ → List Bucket
one r b = buckets (r ∷ b ∷ [])

pub one_form : (r b : ℕ) → NormalForm (one r b)
unfolding buckets is_normal
one_form r b = neighbours_sound (one r b) refl

-- ---- P5: C behind (6,1) is (6,17),(3,23); backlog 17, delay 3.

pub p5_outcome : OnlyAnswer (passing (list_of C) (port 6 1)) (list_of (buckets (6 ∷ 17 ∷ 3 ∷ 23 ∷ []))) 2
unfolding buckets last
p5_outcome = only_behind (port 6 1) c_form c_fits (omega arith) (lit≤ tt) table.p5.0 (omega arith)

pub p5_backlog : OnlyFigure (BacklogOutcome (list_of C) (port 6 1)) 17
unfolding buckets last
p5_backlog = only_backlog (port 6 1) c_form c_fits (omega arith) (lit≤ tt) table.p5.1

pub p5_delay : OnlyFigure (DelayOutcome (list_of C) (port 6 1)) 3
unfolding buckets last
p5_delay = only_delay (port 6 1) c_form c_fits (omega arith) (lit≤ tt) table.p5.2

-- ---- P6: C behind (6,4) is (3,32); backlog 32, delay 6; so the hop leaves all three.

pub p6_outcome : OnlyAnswer (passing (list_of C) (port 6 4)) (list_of (buckets (3 ∷ 32 ∷ []))) 1
unfolding buckets last
p6_outcome = only_behind (port 6 4) c_form c_fits (omega arith) (lit≤ tt) table.p6.0 (omega arith)

pub p6_backlog : OnlyFigure (BacklogOutcome (list_of C) (port 6 4)) 32
unfolding buckets last
p6_backlog = only_backlog (port 6 4) c_form c_fits (omega arith) (lit≤ tt) table.p6.1

pub p6_delay : OnlyFigure (DelayOutcome (list_of C) (port 6 4)) 6
unfolding buckets last
p6_delay = only_delay (port 6 4) c_form c_fits (omega arith) (lit≤ tt) table.p6.2

pub p6_hop : OnlyHop (list_of C) (port 6 4) (list_of (buckets (3 ∷ 32 ∷ []))) 1 32 6
unfolding buckets last
p6_hop = only_hop (port 6 4) c_form c_fits (omega arith) (lit≤ tt) table.p6.0 (omega arith) table.p6.1 table.p6.2

-- ---- P7: the next hop, at (5,2), leaves (3,38), and so does C at the two joined, (5,6); the delays are 6, 9, and joined 9.

pub p7_outcome : OnlyAnswer (passing (list_of (buckets (3 ∷ 32 ∷ []))) (port 5 2)) (list_of (buckets (3 ∷ 38 ∷ []))) 1
unfolding buckets last
p7_outcome = only_behind (port 5 2) (one_form 3 32) (omega arith) (omega arith) (lit≤ tt) table.p7.0 (omega arith)

pub p7_second_delay : OnlyFigure (DelayOutcome (list_of (buckets (3 ∷ 32 ∷ []))) (port 5 2)) 9
unfolding buckets last
p7_second_delay = only_delay (port 5 2) (one_form 3 32) (omega arith) (omega arith) (lit≤ tt) table.p7.4

-- the server joined
pub p7_join : OnlyServer (JoinOutcome (port 6 4) (port 5 2)) 0 (port 5 6)
unfolding JoinOutcome join join_rated
p7_join code s o = one_join (port 6 4) (port 5 2) o (join_answered (port 6 4) (port 5 2) (omega arith) (omega arith) (omega arith))

pub p7_joined_outcome : OnlyAnswer (passing (list_of C) (port 5 6)) (list_of (buckets (3 ∷ 38 ∷ []))) 1
unfolding buckets last
p7_joined_outcome = only_behind (port 5 6) c_form c_fits (omega arith) (lit≤ tt) table.p7.2 (omega arith)

pub p7_joined_delay : OnlyFigure (DelayOutcome (list_of C) (port 5 6)) 9
unfolding buckets last
p7_joined_delay = only_delay (port 5 6) c_form c_fits (omega arith) (lit≤ tt) table.p7.3

-- ---- P8: at (5,2), {(5,7)} leaves (5,17) and has delay 4, and {(6,7)} is refused with 8.

pub p8_outcome : OnlyAnswer (passing (list_of (buckets (5 ∷ 7 ∷ []))) (port 5 2)) (list_of (buckets (5 ∷ 17 ∷ []))) 1
unfolding buckets last
p8_outcome = only_behind (port 5 2) (one_form 5 7) (omega arith) (omega arith) (lit≤ tt) table.p8.0 (omega arith)

pub p8_delay : OnlyFigure (DelayOutcome (list_of (buckets (5 ∷ 7 ∷ []))) (port 5 2)) 4
unfolding buckets last
p8_delay = only_delay (port 5 2) (one_form 5 7) (omega arith) (omega arith) (lit≤ tt) table.p8.1

-- no line of the curve holds, and the last rate is above R
steep_clear : Clear (curve_lines (list_of (buckets (6 ∷ 7 ∷ []))))
unfolding buckets
steep_clear = sound_clear (buckets (6 ∷ 7 ∷ [])) (one_form 6 7) (all_in_range (buckets (6 ∷ 7 ∷ [])) (omega arith)) (omega arith)

steep : 5 < (last (curve_of (list_of (buckets (6 ∷ 7 ∷ []))))).rate
unfolding buckets last
steep = rw curve_list (lit≤ tt)

-- behind leaves the lent list, with no count,
pub p8_refused_behind :
    {before after : List ℕ} {code count : ℕ} → Outcome (passing (list_of (buckets (6 ∷ 7 ∷ []))) (port 5 2)) before after code count
    → Same code count 8 0 after before
p8_refused_behind o = unbounded_behind (list_of (buckets (6 ∷ 7 ∷ []))) (port 5 2) steep_clear (omega arith) steep o

-- and backlog and delay have no figure
pub p8_refused_backlog : {code n : ℕ} → BacklogOutcome (list_of (buckets (6 ∷ 7 ∷ []))) (port 5 2) code n → (code ≡ 8) × (n ≡ 0)
p8_refused_backlog o = unbounded_backlog (list_of (buckets (6 ∷ 7 ∷ []))) (port 5 2) steep_clear (omega arith) steep o

pub p8_refused_delay : {code n : ℕ} → DelayOutcome (list_of (buckets (6 ∷ 7 ∷ []))) (port 5 2) code n → (code ≡ 8) × (n ≡ 0)
p8_refused_delay o = unbounded_delay (list_of (buckets (6 ∷ 7 ∷ []))) (port 5 2) steep_clear (omega arith) steep o

-- ---- P9: {(0,0)} with (5,2) has backlog 0 and delay 0; {(5,0)} with (10,3) has backlog 15 and delay 3.

pub p9_nothing_backlog : OnlyFigure (BacklogOutcome (list_of (buckets (0 ∷ 0 ∷ []))) (port 5 2)) 0
unfolding buckets last
p9_nothing_backlog = only_backlog (port 5 2) (one_form 0 0) (omega arith) (omega arith) (lit≤ tt) table.p9.0

pub p9_nothing_delay : OnlyFigure (DelayOutcome (list_of (buckets (0 ∷ 0 ∷ []))) (port 5 2)) 0
unfolding buckets last
p9_nothing_delay = only_delay (port 5 2) (one_form 0 0) (omega arith) (omega arith) (lit≤ tt) table.p9.1

pub p9_backlog : OnlyFigure (BacklogOutcome (list_of (buckets (5 ∷ 0 ∷ []))) (port 10 3)) 15
unfolding buckets last
p9_backlog = only_backlog (port 10 3) (one_form 5 0) (omega arith) (omega arith) (lit≤ tt) table.p9.2

pub p9_delay : OnlyFigure (DelayOutcome (list_of (buckets (5 ∷ 0 ∷ []))) (port 10 3)) 3
unfolding buckets last
p9_delay = only_delay (port 10 3) (one_form 5 0) (omega arith) (omega arith) (lit≤ tt) table.p9.3

-- ---- P10: residual of (6,1) beside C is (3,5).

pub p10_outcome : OnlyServer (ResidualOutcome (list_of C) (port 6 1)) 0 (port 3 5)
unfolding ResidualOutcome buckets last
p10_outcome code left o =
    one_residual (list_of C) (port 6 1) o
    (ServerOutcome.answered
    (clear_or
    (clear_or (clear_or c_clear (λ r h. h.1 (omega arith))) (λ r h. omega (arith, rw curve_list at h.1)))
    (λ r h. h.1.2 (rw (left_unique (curve_of (list_of C)) (port 6 1) h.1.0 (port 3 5) h.1.1 right) (omega arith))))
    refl
    right)
  where
    right : Residual (curve_of (list_of C)) (port 6 1) (port 3 5)
    right = rw curve_list table.p10

-- ---- Joined at the end of the latencies: 2^20-1 and 0 are answered, 2^20-1 and 1 are refused with 9.

pub join_longest : OnlyServer (JoinOutcome (port 1 (2 ^ 20 - 1)) (port 1 0)) 0 (port 1 (2 ^ 20 - 1))
unfolding JoinOutcome join join_rated
join_longest code s o =
    one_join (port 1 (2 ^ 20 - 1)) (port 1 0) o (join_answered (port 1 (2 ^ 20 - 1)) (port 1 0) (omega arith) (omega arith) (omega arith))

pub join_too_long : OnlyServer (JoinOutcome (port 1 (2 ^ 20 - 1)) (port 1 1)) 9 no_server
unfolding JoinOutcome join join_rated number
join_too_long code s o =
    one_join (port 1 (2 ^ 20 - 1)) (port 1 1) o
    (ServerOutcome.refused
    (refusal [] (lit≤ tt)
    (refused_then (accepted (clear_or (λ r h. h.1 (omega arith)) (λ r h. h.1 (omega arith))) refl)
    (line_hit LARGE (_, refl, λ r. omega (arith, r.latency_fits)))))
    refl)
