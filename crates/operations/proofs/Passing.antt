-- From what `settle` leaves over the raw buckets of a curve behind a rate-latency server to the outcome of behind.
-- Assumes nothing.
use mathlib.Core.Path.{◌≡◌, sym, ◌∙◌, ap}
use mathlib.Core.Logic.{inl, inr}
use mathlib.Core.List.Memᴰ
use mathlib.Core.List.{List}
use Prim.Native.Nat.{ℕ, ◌+◌, ◌-◌, ◌*◌, ◌≤◌, ◌<◌}
use native.Mathlib.Nat.{le_of_lt, mul-le-mul}
use native.Mathlib.Omega.{arith}
use lib.ListN.{length}
use Rattle.meaning.specs.Curve.{Bucket, ◌∈◌, flat, curve_of, NormalOf}
use Rattle.meaning.specs.Server.{RateLatency, later, slower, Excess, Behind, port}
use Rattle.meaning.specs.Refusal.{Clear, PartOutcome}
use Rattle.meaning.specs.ServerQuestions.{port_lines, passing}
use Rattle.meaning.proofs.Lists.{at_inside, inside_at}
use Rattle.meaning.proofs.Order.{le_or_lt}
use Rattle.meaning.proofs.Curve.Value.{same_rate}
use Rattle.meaning.proofs.Curve.Curves.{same_buckets_normal}
use Rattle.meaning.proofs.Server.Cut.{slower_has, slower_from, line_bucket, cut_list}
use Rattle.meaning.proofs.Server.Excess.{gap_unique}
use Rattle.meaning.proofs.Server.BothKinds.{behind_rate}
use Rattle.checks.specs.Cited.{nth}
use Rattle.settle.specs.Cited.{AllWide, settling}
use Rattle.operations.specs.Cited.{TestedPort, line_and_later}
use Rattle.operations.specs.Walks.{FirstSlow}
use Rattle.operations.proofs.Turning.{nowhere, slow_from}
use Rattle.operations.proofs.Refusing.{tested_port}
use Rattle.operations.proofs.Bounding.{excess_small}
use Rattle.operations.proofs.Lining.{line_length, line_nth}
use Rattle.operations.proofs.Asking.{settled}

-- ---- The raw buckets are those of the definition, in another order.

module _
    {f : List Bucket} {rate latency first m : ℕ} (w : TestedPort f rate latency) (s : FirstSlow f rate first)
    (e : Excess f rate m)
  where
    abbrev server : RateLatency
    server = record { rate = rate; latency = latency }

    abbrev raw : List Bucket
    raw = line_and_later f first rate (rate * latency + m) latency

    -- A raw bucket is the line, or a bucket of the curve of rate at most R, a latency later.
    data Raw (k : Bucket) : Type 0 where
      is_line : k ≡ line_bucket server m → Raw k
      is_later : (j : Bucket) → j ∈ f → j.rate ≤ rate → k ≡ later latency j → Raw k

    raw_from : (k : Bucket) → k ∈ raw → Raw k
    unfolding line_and_later
    raw_from k inside =
        let at = inside_at (line_and_later f first rate (rate * latency + m) latency) nowhere inside in
        elim (le_or_lt at.0 0) [
          | inl start ↦
              let e : at.0 ≡ 0 = omega arith in
              is_line (at.2 ∙ ap (nth (line_and_later f first rate (rate * latency + m) latency)) e)
          | inr some ↦
              let low : first + at.0 - 1 < length f = omega (arith, at.1, s.inside, line_length f first rate (rate * latency + m) latency) in
              is_later (nth f (first + at.0 - 1)) (at_inside f (first + at.0 - 1) nowhere low)
              (slow_from w.curve s (first + at.0 - 1) (omega arith) low)
              (at.2 ∙ line_nth f first rate (rate * latency + m) latency at.0 some low)
        ]

    -- so each is one of the definition's,
    raw_to : (k : Bucket) → k ∈ raw → k ∈ cut_list f server m
    raw_to k inside =
        elim (raw_from k inside) [
          | is_line is ↦ Memᴰ.append_right (slower server f) (Memᴰ.head is)
          | is_later j has slow is ↦ rw is (Memᴰ.append_left _ (slower_has server has slow))
        ]

    -- and each of the definition's is one of them
    raw_back : (k : Bucket) → k ∈ cut_list f server m → k ∈ raw
    unfolding line_and_later
    raw_back k inside =
        elim (Memᴰ.append_cases (slower server f) inside) [
          | inl slowed ↦
              let r = slower_from server f slowed in
              let at = inside_at f nowhere r.inside in
              elim (le_or_lt first at.0) [
                | inl late ↦ later_inside k at.0 late at.1 (r.is_later ∙ ap (later latency) at.2)
                | inr early ↦ absurd (omega (arith, s.steeper at.0 early, r.slow, same_rate at.2))
              ]
          | inr line ↦ Memᴰ.head (Memᴰ.eq_of_singleton line)
        ]
      where
        later_inside : (k : Bucket) (i : ℕ) → first ≤ i → i < length f → k ≡ later latency (nth f i) → k ∈ raw
        later_inside k i late inside is =
            let place : first + (i - first + 1) - 1 ≡ i = omega arith in
            rw (is ∙ ap (λ (n : ℕ). later latency (nth f n)) (sym place) ∙ sym (line_nth f first rate (rate * latency + m) latency (i - first + 1) (omega arith) (omega arith)))
            (at_inside raw (i - first + 1) nowhere (omega (arith, line_length f first rate (rate * latency + m) latency)))

    -- none is too wide
    raw_wide : AllWide raw
    unfolding later
    raw_wide k inside =
        elim (raw_from k inside) [
          | is_line is ↦
              rw is
              (record {
                rate_fits = omega (arith, w.server.rate_fits);
                burst_fits =
                    omega (
                      arith,
                      excess_small f w e,
                      mul-le-mul (le_of_lt w.server.rate_fits) (le_of_lt w.server.latency_fits),
                    );
              })
          | is_later j has slow is ↦
              let ranged = w.curve.ranged j has in
              rw is
              (record {
                rate_fits = omega (arith, ranged.rate_fits);
                burst_fits =
                    omega (
                      arith,
                      ranged.burst_fits,
                      mul-le-mul (le_of_lt ranged.rate_fits) (le_of_lt w.server.latency_fits),
                    );
              })
        ]

    -- the normal form of the raw buckets is the curve behind,
    raw_behind : (g : List Bucket) → NormalOf raw g → Behind f (port rate latency) g
    raw_behind g n = Behind.of_rate (record { m = m; excess = e; normal = same_buckets_normal raw_to raw_back n })

    -- and no other is
    behind_raw : (g : List Bucket) → Behind f (port rate latency) g → NormalOf raw g
    behind_raw g b =
        let known = behind_rate b in
        same_buckets_normal raw_back raw_to (rw (gap_unique known.excess e) at known.normal)

-- ---- Behind.

-- what `settle` leaves is the outcome of behind
pub passed_rated :
    (f : List ℕ) {rate latency first m : ℕ} → Clear (port_lines f (port rate latency)) → FirstSlow (curve_of f) rate first
    → Excess (curve_of f) rate m → {at room : ℕ} {before after : List ℕ} {code count : ℕ}
    → PartOutcome (settling (flat (line_and_later (curve_of f) first rate (rate * latency + m) latency))) at room before after code count
    → PartOutcome (passing f (port rate latency)) at room before after code count
unfolding passing
passed_rated f {rate} {latency} {first} {m} clear s e o =
    let w : TestedPort (curve_of f) rate latency = tested_port f clear in
    settled (passing f (port rate latency)) (raw w s e) (raw_behind w s e) (behind_raw w s e) clear
    (omega (arith, line_length (curve_of f) first rate (rate * latency + m) latency)) (raw_wide w s e) o
