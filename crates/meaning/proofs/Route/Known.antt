-- Known inputs and their only texts: P12, a route whose delay is not its last hop's, 32 servers and more, and an input for each
-- refusal.
-- Assumes nothing.
use mathlib.Core.Path.{◌≡◌, refl, subst}
use mathlib.Core.Logic.{inr, ◌≢◌}
use mathlib.Core.Option.{Option, some}
use mathlib.Core.List.Memᴰ
use mathlib.Core.List.{List, [], ◌∷◌, ◌++◌, append-nil}
use Prim.Native.Nat.{ℕ, zero, suc, ◌+◌, ◌≤◌, ◌<◌}
use native.Mathlib.Omega.{arith}
use lib.Dec.{lit≤}
use lib.ListN.{length, take, drop, length-append}
use Rattle.meaning.specs.Curve.{Bucket, buckets, reads, value_at}
use Rattle.meaning.specs.Server.{RateLatency, Server, rated, pure_delay, join_rated, join, last, Behind, Backlog, Delay, port}
use Rattle.meaning.specs.Refusal.{Clear}
use Rattle.meaning.specs.ServerQuestions.{RatedInRange, ServerInRange}
use Rattle.meaning.specs.Profile.{curve_kind, curve, server, kind_of, Known, written, kind_in}
use Rattle.meaning.specs.Computed.{normal, behind, backlog, held, delay}
use Rattle.meaning.specs.Route.{join_lines, bytes, digits, numbers, hop_text, route_text, refused_text, hop_texts, Figures}
use Rattle.meaning.specs.Figures.{C}
use Rattle.meaning.proofs.Figures.{c_sound, table}
use Rattle.meaning.proofs.Profile.Files.{curve_taken}
use Rattle.meaning.proofs.Profile.RoundTrip.{curve_in_1, rate_in_1, read_back_server}
use Rattle.meaning.proofs.Profile.Known.{pad_file, padding_bit, idle_file, idle_whole, rate_0, unordered_file, out_of_order}
use Rattle.meaning.proofs.Route.BackToBack.{kind_byte, count_byte, kind_of_curve, kind_of_server}
use Rattle.meaning.proofs.Route.EveryRoute.{OnlyText, only_text}
use Rattle.meaning.proofs.Route.Standing.{Standing, standing_ends}
use Rattle.meaning.proofs.Route.Written.{Sound, sound_reads, one_bucket, worked, join_clear, Passes, passes, file_there, hop_in, written_start}
use Rattle.meaning.proofs.Route.Codes.{refused_lines}
use Rattle.meaning.proofs.Route.Refusals.{cut_curve, refused_curve_file, bytes_after_32, curve_for_server, nothing_for_server, cut_server, refused_server_file, last_rate_above, behind_too_large, joined_out_of_range}

-- ---- P12.

-- The curve C, then the servers (6,4) and (5,2),
abbrev pub p12_input : List ℕ
p12_input = written 1 (curve C) ++ written 1 (server (port 6 4)) ++ written 1 (server (port 5 2))

-- and its only text
pub p12_outcome : OnlyText p12_input (bytes "hop 1 32 6\nhop 2 38 9\nroute 38 9\n")
p12_outcome = only_text table.p12.0

-- C in edition 2, the server (6,1) in edition 1 and a pure delay of 3: the only text of a route that mixes them
pub mixed_outcome :
    OnlyText (written 2 (curve C) ++ written 1 (server (port 6 1)) ++ written 2 (server (pure_delay 3)))
    (bytes "hop 1 17 3\nhop 2 32 3\nroute 32 6\n")
mixed_outcome = only_text table.mixed

-- ---- The first server.

module _ {f : List Bucket} (c : Sound f) where
  -- a curve alone: the first server is due
  pub curve_alone : OnlyText (written 1 (curve f)) (bytes "refused 1 at 2\n")
  unfolding refused_text numbers digits bytes
  curve_alone =
      subst (λ (l : List ℕ). OnlyText l (bytes "refused 1 at 2\n")) (append-nil (written 1 (curve f)))
      (nothing_for_server (written_start c []) (lit≤ tt) (λ e. refl) c refl)

  -- a curve where the first server is due, all of it or only its first byte, whatever stands behind it
  pub curve_twice : (rest : List ℕ) → OnlyText (written 1 (curve f) ++ 0x11 ∷ rest) (bytes "refused 1 at 2\n")
  unfolding refused_text numbers digits bytes
  curve_twice rest = curve_for_server (written_start c (0x11 ∷ rest)) (lit≤ tt) (λ e. refl) c (kind_byte 0x11 rest)

  -- a curve's file cut short
  pub curve_cut :
      (k : ℕ) → 1 ≤ k → k < length (written 1 (curve f))
      → OnlyText (take k (written 1 (curve f))) (bytes "refused 2 at 1\n")
  curve_cut k begun short =
      let back = sound_reads 1 curve_in_1 c in
      cut_curve (written 1 (curve f)) back.clear (kind_of_curve (written 1 (curve f)) back.same) k begun short

  -- a server's file cut short
  pub server_cut :
      (ed : ℕ) (s : Server) → Known ed (kind_of (server s)) → ServerInRange s → (k : ℕ) → 1 ≤ k → k < length (written ed (server s))
      → OnlyText (written 1 (curve f) ++ take k (written ed (server s))) (bytes "refused 2 at 2\n")
  unfolding refused_text numbers digits bytes
  server_cut ed s has ranged k begun short =
      let back = read_back_server ed s has ranged in
      let file = written ed (server s) in
      cut_server file k (written_start c (take k file)) (lit≤ tt) c back.clear (kind_of_server file back.same) begun short

  -- the last rate above R, whatever stands behind the server
  pub too_slow :
      (s : RateLatency) → RatedInRange s → s.rate < (last f).rate → (rest : List ℕ)
      → OnlyText (written 1 (curve f) ++ (written 1 (server (rated s)) ++ rest)) (bytes "refused 8 at 2\n")
  unfolding refused_text numbers digits bytes
  too_slow s ranged above rest =
      last_rate_above 1 (rated s) rate_in_1 rest (written_start c (written 1 (server (rated s)) ++ rest)) (lit≤ tt) c ranged tt above

  -- a server of rate 0, whatever stands behind it
  pub rate_nothing : (rest : List ℕ) → OnlyText (written 1 (curve f) ++ (idle_file ++ rest)) (bytes "refused 6 at 2\n")
  unfolding refused_text numbers digits bytes
  rate_nothing rest =
      let kind : kind_in idle_file ≢ curve_kind = λ e. omega (arith, kind_byte 0x12 (drop 1 idle_file)) in
      refused_server_file idle_file rest (written_start c (idle_file ++ rest)) (lit≤ tt) c kind
      idle_whole {code = 6} (refused_lines rate_0) (λ e. omega arith)

-- ---- The curve.

-- a padding bit that is 1, whatever stands behind the curve
pub pad_first : (rest : List ℕ) → OnlyText (pad_file ++ rest) (bytes "refused 3 at 1\n")
unfolding refused_text numbers digits bytes
pad_first rest =
    let kind = kind_byte 0x11 (drop 1 pad_file) in
    refused_curve_file pad_file rest {code = 3} kind
    (omega (arith, curve_taken pad_file kind, count_byte 0x11 0x00 (drop 2 pad_file)))
    (refused_lines padding_bit) (λ e. omega arith)

-- buckets out of order, whatever stands behind the curve
pub unordered_first : (rest : List ℕ) → OnlyText (unordered_file ++ rest) (bytes "refused 7 at 1\n")
unfolding refused_text numbers digits bytes
unordered_first rest =
    let kind = kind_byte 0x11 (drop 1 unordered_file) in
    refused_curve_file unordered_file rest {code = 7} kind
    (omega (arith, curve_taken unordered_file kind, count_byte 0x11 0x04 (drop 2 unordered_file)))
    (refused_lines out_of_order) (λ e. omega arith)

-- ---- Servers joined.

-- The curve {(1,0)} behind (1, 2^20-1) is {(1, 2^20-1)}; with (1,1) the latencies added are 2^20.
pub late_joined :
    (rest : List ℕ)
    → OnlyText
    (written 1 (curve (buckets (1 ∷ 0 ∷ [])))
    ++ (written 1 (server (port 1 1048575)) ++ (written 1 (server (port 1 1)) ++ rest)))
    (bytes "refused 9 at 3\n")
unfolding refused_text numbers digits bytes buckets normal behind backlog held delay reads value_at last join join_rated
late_joined rest =
    let f = one_bucket 1 0 (omega arith) in
    let g = one_bucket 1 1048575 (omega arith) in
    joined_out_of_range 1 (port 1 1) rate_in_1 rest
    (hop_in {s = port 1 1048575} 1 rate_in_1 (written_start f _) (lit≤ tt)
    (passes f g (omega arith) (lit≤ tt) (λ r h. h) (worked (port 1 1048575) f (lit≤ tt) (lit≤ tt))))
    (lit≤ tt) g (omega arith) (lit≤ tt) (omega arith) (λ ranged. omega (arith, ranged.latency_fits))

-- The curve {(1, 2^40-1)} behind (1,1) has burst 2^40.
pub large_behind :
    (rest : List ℕ)
    → OnlyText (written 1 (curve (buckets (1 ∷ 1099511627775 ∷ []))) ++ (written 1 (server (port 1 1)) ++ rest))
    (bytes "refused 9 at 2\n")
unfolding refused_text numbers digits bytes buckets normal behind backlog held delay reads value_at last join join_rated
large_behind rest =
    let f = one_bucket 1 1099511627775 (omega arith) in
    behind_too_large 1 (port 1 1) rate_in_1 rest (written_start f _) (lit≤ tt) f (omega arith) (lit≤ tt) (λ r h. h)
    (worked (port 1 1) f (lit≤ tt) (lit≤ tt)).0
    (inr (λ all. omega (arith, (all _ (Memᴰ.head refl)).burst_fits)))

-- ---- 32 servers and more.

-- The server (1,0), so many times, in front of other bytes.
unfoldable pub servers : ℕ → List ℕ → List ℕ
servers zero rest = rest
servers (suc n) rest = written 1 (server (port 1 0)) ++ servers n rest

-- A hop's figures, so many times behind those before.
unfoldable pub repeated : ℕ → Figures → List Figures → List Figures
repeated zero x hops = hops
repeated (suc n) x hops = repeated n x (hops ++ x ∷ [])

-- A curve that stands behind (1,0) as it is:
module _
    {f : List Bucket} {x : Figures} (c : Sound f) (slow : (last f).rate ≤ 1)
    (row : Behind f (port 1 0) f × Backlog f (port 1 0) x.backlog × Delay f (port 1 0) x.delay)
  where
    -- each hop is passed,
    still_passes : {before : Option Server} → Clear (join_lines before (port 1 0)) → Passes f before (port 1 0) x f
    still_passes joins = passes c c (omega arith) slow joins row

    -- and so are so many
    still_stands :
        {input : List ℕ} (n : ℕ) (hops : List Figures) (rest : List ℕ) → length hops + n ≤ 32
        → Standing input f hops (some (port 1 0)) f (servers n rest)
        → Standing input f (repeated n x hops) (some (port 1 0)) f rest
    unfolding servers repeated join join_rated
    still_stands zero hops rest few here = here
    still_stands (suc n) hops rest few here =
        still_stands n (hops ++ x ∷ []) rest (simp length-append (omega arith))
        (hop_in {s = port 1 0} 1 rate_in_1 here (omega arith) (still_passes (join_clear (port 1 0) (port 1 0) (omega arith) (omega arith) (omega arith))))

    -- behind 32 of them the rest decides
    still_32 :
        (rest : List ℕ)
        → Standing (written 1 (curve f) ++ servers 32 rest) f (repeated 32 x []) (some (port 1 0)) f rest
    unfolding servers repeated
    still_32 rest =
        still_stands 31 (x ∷ []) rest (lit≤ tt)
        (hop_in {s = port 1 0} 1 rate_in_1 (written_start c _) (lit≤ tt) (still_passes (λ r h. h)))

    -- 32 servers and nothing more are answered
    pub servers_32 : OnlyText (written 1 (curve f) ++ servers 32 []) (hop_texts 1 (repeated 32 x []) ++ route_text x)
    servers_32 = only_text (standing_ends (still_32 []) x (record { backlog_is = row.1; delay_is = row.2 }))

    -- bytes after 32 servers are refused, whatever they are,
    pub after_32 : (rest : List ℕ) → rest ≢ [] → OnlyText (written 1 (curve f) ++ servers 32 rest) (bytes "refused 5 at 34\n")
    unfolding repeated
    after_32 rest more = bytes_after_32 (still_32 rest) refl more

    -- such as a 33rd server
    pub servers_33 : OnlyText (written 1 (curve f) ++ servers 33 []) (bytes "refused 5 at 34\n")
    unfolding servers
    servers_33 = after_32 (written 1 (server (port 1 0)) ++ []) (file_there 1 (port 1 0) [])

-- ---- The longest text.

-- 2^40-1, the greatest burst.
abbrev pub most : ℕ
most = 1099511627775

-- The curve {(0, 2^40-1)} and 32 servers (1,0),
abbrev pub longest_input : List ℕ
longest_input = written 1 (curve (buckets (0 ∷ most ∷ []))) ++ servers 32 []

-- where each backlog and each delay is 2^40-1:
abbrev pub longest_text : List ℕ
longest_text =
    hop_texts 1 (repeated 32 (record { backlog = most; delay = most }) []) ++ route_text (record { backlog = most; delay = most })

-- its only text,
pub longest_outcome : OnlyText longest_input longest_text
unfolding buckets normal behind backlog held delay reads value_at last
longest_outcome =
    let f = one_bucket 0 most (omega arith) in
    servers_32 f (lit≤ tt) (worked (port 1 0) f (lit≤ tt) (lit≤ tt))

-- of 1,145 bytes, as many as any text has
pub longest_length : length longest_text ≡ 1145
unfolding hop_texts hop_text route_text numbers digits bytes repeated
longest_length = refl

-- ---- A route whose delay is not its last hop's.

-- The curve {(0,1)}, then the server (1,3) twice: each hop's delay is 4, the route's is 7.
abbrev pub twice_input : List ℕ
twice_input =
    written 1 (curve (buckets (0 ∷ 1 ∷ [])))
    ++ (written 1 (server (port 1 3)) ++ (written 1 (server (port 1 3)) ++ []))

-- its only text
pub twice_outcome : OnlyText twice_input (bytes "hop 1 1 4\nhop 2 1 4\nroute 1 7\n")
unfolding hop_texts hop_text route_text numbers digits bytes buckets normal behind backlog held delay reads value_at last join join_rated
twice_outcome =
    let f = one_bucket 0 1 (omega arith) in
    let x = worked (port 1 3) f (lit≤ tt) (lit≤ tt) in
    let route = worked (port 1 6) f (lit≤ tt) (lit≤ tt) in
    only_text
    (standing_ends
    (hop_in {s = port 1 3} 1 rate_in_1
    (hop_in {s = port 1 3} 1 rate_in_1 (written_start f _) (lit≤ tt) (passes f f (omega arith) (lit≤ tt) (λ r h. h) x)) (lit≤ tt)
    (passes f f (omega arith) (lit≤ tt) (join_clear (port 1 3) (port 1 3) (omega arith) (omega arith) (omega arith)) x))
    _ (record { backlog_is = route.1; delay_is = route.2 }))

-- ---- One line only, and the smallest number.

-- The first hop of P12 is answered, and then a server has rate 0: only the refusal is printed, whatever stands behind it.
pub second_refused :
    (rest : List ℕ)
    → OnlyText (written 1 (curve C) ++ (written 1 (server (port 6 4)) ++ (idle_file ++ rest)))
    (bytes "refused 6 at 3\n")
unfolding refused_text numbers digits bytes buckets normal behind backlog held delay reads value_at last
second_refused rest =
    let kind : kind_in idle_file ≢ curve_kind = λ e. omega (arith, kind_byte 0x12 (drop 1 idle_file)) in
    let g = one_bucket 3 32 (omega arith) in
    refused_server_file idle_file rest
    (hop_in {s = port 6 4} 1 rate_in_1 (written_start c_sound _) (lit≤ tt)
    (passes c_sound g (omega arith) (lit≤ tt) (λ r h. h) (worked (port 6 4) c_sound (lit≤ tt) (lit≤ tt))))
    (lit≤ tt) g kind idle_whole {code = 6}
    (refused_lines rate_0) (λ e. omega arith)

-- The curve {(2,0)} behind (2, 2^20-1), then (1,1), whose rate is below the last and whose joined latency is 2^20: the smaller
-- number is named.
pub slow_and_late :
    (rest : List ℕ)
    → OnlyText
    (written 1 (curve (buckets (2 ∷ 0 ∷ [])))
    ++ (written 1 (server (port 2 1048575)) ++ (written 1 (server (port 1 1)) ++ rest)))
    (bytes "refused 8 at 3\n")
unfolding refused_text numbers digits bytes buckets normal behind backlog held delay reads value_at last
slow_and_late rest =
    let f = one_bucket 2 0 (omega arith) in
    let g = one_bucket 2 2097150 (omega arith) in
    last_rate_above 1 (port 1 1) rate_in_1 rest
    (hop_in {s = port 2 1048575} 1 rate_in_1 (written_start f _) (lit≤ tt)
    (passes f g (omega arith) (lit≤ tt) (λ r h. h) (worked (port 2 1048575) f (lit≤ tt) (lit≤ tt))))
    (lit≤ tt) g (omega arith) (omega arith) (lit≤ tt)
