-- The table of figures, proved of the written definitions: each row is what the laws say of the computed forms, worked out.
-- The route program's row goes by the laws of profiles that are written one after the other.
-- Assumes nothing.
use mathlib.Core.Path.{refl}
use mathlib.Core.List.{[], ◌∷◌}
use native.Mathlib.Omega.{arith}
use lib.Dec.{lit≤}
use Rattle.meaning.specs.Curve.{buckets, flat, curve_of, list_of, value_at, reads, value, pairs}
use Rattle.meaning.specs.Server.{pure_delay, join_rated, join, last, port}
use Rattle.meaning.specs.ServerQuestions.{BacklogOutcome, DelayOutcome}
use Rattle.meaning.specs.Profile.{bits_of, spelt, packed, bytes_of, bucket_fields, fields, profile_bits, byte_count, written}
use Rattle.meaning.specs.Computed.{is_normal, normal, behind, backlog, held, delay, residual}
use Rattle.meaning.specs.Route.{bytes, digits, numbers, hop_text, route_text, hop_texts}
use Rattle.meaning.specs.Figures.{C, Table}
use Rattle.meaning.proofs.Curve.Neighbours.{neighbours_sound}
use Rattle.meaning.proofs.Curve.Reads.{first_burst}
use Rattle.meaning.proofs.Curve.Normal.{normal_is}
use Rattle.meaning.proofs.Outcome.Demands.{refused_behind, refused_figure}
use Rattle.meaning.proofs.Server.Joining.{residual_is}
use Rattle.meaning.proofs.Profile.RoundTrip.{curve_in_2, rate_in_1, delay_in_2}
use Rattle.meaning.proofs.Route.Standing.{standing_ends}
use Rattle.meaning.proofs.Route.Written.{Sound, sound_lines, one_bucket, worked, join_clear, passes, start_in, hop_in, written_start}

-- the curve C is sound
pub c_sound : Sound C
unfolding buckets is_normal
c_sound = record { form = neighbours_sound C refl; ranged = omega arith; few = lit≤ tt }

-- so is the curve behind the port (6,1)
c_17 : Sound (buckets (6 ∷ 17 ∷ 3 ∷ 23 ∷ []))
unfolding buckets is_normal
c_17 = record { form = neighbours_sound (buckets (6 ∷ 17 ∷ 3 ∷ 23 ∷ [])) refl; ranged = omega arith; few = lit≤ tt }

-- the figures P1 to P12, and those of the requests
pub table : Table
unfolding buckets flat curve_of list_of reads value is_normal pairs normal last value_at behind backlog delay held residual join join_rated written byte_count profile_bits fields bucket_fields packed bits_of spelt bytes_of bytes digits numbers hop_text route_text hop_texts BacklogOutcome DelayOutcome
table =
    let at_port = worked (port 6 1) c_sound (lit≤ tt) (lit≤ tt) in
    let late = worked (pure_delay 4) c_sound tt tt in
    let c_first = worked (port 6 4) c_sound (lit≤ tt) (lit≤ tt) in
    let c32 = one_bucket 3 32 (omega arith) in
    let second = worked (port 5 2) c32 (lit≤ tt) (lit≤ tt) in
    let c_joined = worked (port 5 6) c_sound (lit≤ tt) (lit≤ tt) in
    let held = worked (port 5 2) (one_bucket 5 7 (omega arith)) (lit≤ tt) (lit≤ tt) in
    let above = one_bucket 6 7 (omega arith) in
    let nothing = worked (port 5 2) (one_bucket 0 0 (omega arith)) (lit≤ tt) (lit≤ tt) in
    let something = worked (port 10 3) (one_bucket 5 0 (omega arith)) (lit≤ tt) (lit≤ tt) in
    let burst = worked (port 10 0) (one_bucket 0 5 (omega arith)) (lit≤ tt) (lit≤ tt) in
    record {
      p1 = normal_is _ (lit≤ tt);
      p2 = (normal_is _ (lit≤ tt), omega arith, omega arith);
      p3 = (normal_is _ (lit≤ tt), lit≤ tt, λ t. omega arith);
      p4 = normal_is _ (lit≤ tt);
      p5 = at_port;
      p6 = c_first;
      p7 = (second.0, refl, c_joined.0, c_joined.2, second.2);
      p8 = (
        held.0,
        held.2,
        refused_behind (list_of (buckets (6 ∷ 7 ∷ []))) (port 5 2) (sound_lines above) (omega arith) (lit≤ tt),
        refused_figure (list_of (buckets (6 ∷ 7 ∷ []))) (port 5 2) (sound_lines above) (omega arith) (lit≤ tt),
        refused_figure (list_of (buckets (6 ∷ 7 ∷ []))) (port 5 2) (sound_lines above) (omega arith) (lit≤ tt),
      );
      p9 = (nothing.1, nothing.2, something.1, something.2);
      p10 = residual_is C (record { rate = 6; latency = 1 }) (lit≤ tt);
      p11 = (refl, refl);
      p12 = (
        standing_ends
            (hop_in {s = port 5 2} 1 rate_in_1
            (hop_in {s = port 6 4} 1 rate_in_1 (written_start c_sound _) (lit≤ tt)
            (passes c_sound c32 (omega arith) (lit≤ tt) (λ r h. h) c_first))
            (lit≤ tt)
            (passes c32 (one_bucket 3 38 (omega arith)) (omega arith) (lit≤ tt)
            (join_clear (port 6 4) (port 5 2) (omega arith) (omega arith) (omega arith)) second))
            _ (record { backlog_is = c_joined.1; delay_is = c_joined.2 }),
        refl,
      );
      at_once = (
        refl,
        first_burst c_sound.form,
        first_burst (neighbours_sound (buckets (0 ∷ 0 ∷ [])) refl),
        burst.1,
        burst.2,
      );
      delayed = late;
      joined_delays = (refl, refl, refl, c_first.2);
      nothing_delayed = λ latency. (worked (pure_delay latency) (one_bucket 0 0 (omega arith)) tt tt).2;
      delay_file = refl;
      mixed =
          standing_ends
          (hop_in {s = pure_delay 3} 2 delay_in_2
          (hop_in {s = port 6 1} 1 rate_in_1 (start_in 2 curve_in_2 c_sound _) (lit≤ tt)
          (passes c_sound c_17 (omega arith) (lit≤ tt) (λ r h. h) at_port))
          (lit≤ tt)
          (passes c_17 c32 (omega arith) tt (join_clear (port 6 1) (pure_delay 3) (omega arith) (omega arith) (omega arith))
          (worked (pure_delay 3) c_17 tt tt)))
          _ (record { backlog_is = c_first.1; delay_is = c_first.2 });
      frames = (normal_is _ (lit≤ tt), normal_is _ (lit≤ tt), normal_is _ (lit≤ tt), normal_is _ (lit≤ tt));
    }
