-- A route of profiles that are written one after the other: the way starts behind the curve's file, and goes on behind the file
-- of each server that the curve from the hop before passes.
-- Assumes nothing.
use mathlib.Core.Path.{◌≡◌, refl, ap, subst}
use mathlib.Core.Option.{Option, none, some}
use mathlib.Core.List.{List, [], ◌∷◌, ◌++◌}
use Prim.Native.Nat.{ℕ, ◌^◌, ◌≤◌, ◌<◌}
use native.Mathlib.Omega.{arith}
use lib.Dec.{lit≤}
use lib.ListN.{length, length-append}
use Rattle.meaning.specs.Curve.{Bucket, buckets, list_of, NormalForm}
use Rattle.meaning.specs.Server.{Server, join, Behind, Backlog, Delay}
use Rattle.meaning.specs.Refusal.{Clear, TooLarge, curve_lines}
use Rattle.meaning.specs.ServerQuestions.{ServerInRange, port_lines}
use Rattle.meaning.specs.Profile.{curve_kind, Profile, curve, server, kind_of, Known, written}
use Rattle.meaning.specs.Computed.{is_normal, behind, backlog, delay}
use Rattle.meaning.specs.Route.{IsCurve, IsServer, due_lines, join_lines, joined_with, Figures, FiguresOf}
use Rattle.meaning.proofs.Lists.{curve_list, EachInRange, all_in_range}
use Rattle.meaning.proofs.Curve.Neighbours.{neighbours_sound}
use Rattle.meaning.proofs.Outcome.Outcomes.{clear_or}
use Rattle.meaning.proofs.Outcome.Answers.{sound_clear, clear_fits}
use Rattle.meaning.proofs.Server.BothKinds.{KeepsUp, not_outrun, behind_is, backlog_is, behind_unique, SomeRate, delay_is}
use Rattle.meaning.proofs.Profile.Files.{byte_size_bounds, server_bytes_lem}
use Rattle.meaning.proofs.Profile.RoundTrip.{curve_in_1, ReadsBack, read_back_curve, read_back_server}
use Rattle.meaning.proofs.Route.BackToBack.{Begins, begins}
use Rattle.meaning.proofs.Route.Standing.{Standing, standing_start, standing_hop}

-- ---- Curves and servers.

-- A curve in normal form, in range and of at most 64 buckets, so that no line refuses its list.
pub record Sound (f : List Bucket) : Type 0 where
  pub form : NormalForm f
  pub ranged : EachInRange f
  pub few : length f ≤ 64

-- its list is taken wherever a curve is,
pub sound_lines : {f : List Bucket} → Sound f → Clear (curve_lines (list_of f))
sound_lines {f} c = sound_clear f c.form (all_in_range f c.ranged) c.few

-- it is not too large,
sound_fits : {f : List Bucket} → Sound f → TooLarge f → ⊥
sound_fits {f} c = rw (curve_list f) at (clear_fits (list_of f) (sound_lines c))

-- and it reads back
pub sound_reads : {f : List Bucket} (ed : ℕ) → Known ed curve_kind → Sound f → ReadsBack ed (curve f)
sound_reads {f} ed has c = read_back_curve ed has f c.form (all_in_range f c.ranged) c.few

-- such is every bucket in range
pub one_bucket : (r b : ℕ) → (r < 2 ^ 20) × (b < 2 ^ 40) → Sound (buckets (r ∷ b ∷ []))
unfolding buckets is_normal
one_bucket r b h = record { form = neighbours_sound (buckets (r ∷ b ∷ [])) refl; ranged = omega arith; few = lit≤ tt }

-- what the laws say of a curve and a server
pub worked :
    {f : List Bucket} (s : Server) → Sound f → KeepsUp f s → SomeRate s
    → Behind f s (behind f s) × Backlog f s (backlog f s) × Delay f s (delay f s)
worked {f} s c slow some_rate =
    (behind_is f s c.form slow, backlog_is f s c.form slow, delay_is s c.form slow some_rate)

-- a server joins those before it in range
pub join_clear :
    (before s : Server) → ServerInRange before → ServerInRange s → ServerInRange (join before s)
    → Clear (join_lines (some before) s)
join_clear before s hb hs hj = clear_or (clear_or (λ r h. h.1 hb) (λ r h. h.1 hs)) (λ r h. h.1.2 (rw h.1.1 hj))

-- a curve passes a server in range that keeps up with it
pub port_clear :
    {f : List Bucket} (s : Server) → Sound f → ServerInRange s → KeepsUp f s → Clear (port_lines (list_of f) s)
port_clear {f} s c ranged slow =
    clear_or (clear_or (sound_lines c) (λ r h. h.1 ranged)) (λ r h. not_outrun f s slow (rw (curve_list f) at h.1))

-- A hop is passed: with the server in range no line holds, these are its figures, and the curve behind fits.
pub record Passes (f : List Bucket) (before : Option Server) (s : Server) (here : Figures) (g : List Bucket) : Type 0 where
  pub ranged : ServerInRange s
  pub clear : Clear (port_lines (list_of f) s)
  pub joins : Clear (join_lines before s)
  pub figures : FiguresOf f s here
  pub curve : Behind f s g
  pub fits : TooLarge g → ⊥

-- so for a curve and a server with their figures and the curve behind
pub passes :
    {f g : List Bucket} {before : Option Server} {s : Server} {x d : ℕ}
    → Sound f → Sound g → ServerInRange s → KeepsUp f s → Clear (join_lines before s)
    → Behind f s g × Backlog f s x × Delay f s d → Passes f before s (record { backlog = x; delay = d }) g
passes {s = s} c c' ranged slow joins row =
    record {
      ranged = ranged;
      clear = port_clear s c ranged slow;
      joins = joins;
      figures = record { backlog_is = row.1; delay_is = row.2 };
      curve = row.0;
      fits = sound_fits c';
    }

-- ---- Their files.

-- what is due begins there: none of its lines holds
pub due_clear :
    {input : List ℕ} {ed : ℕ} {p : Profile} {rest : List ℕ} (Due : Profile → Type 0) → Due p → ReadsBack ed p
    → Begins input ed p rest → Clear (due_lines Due input)
due_clear Due due back b = clear_or (λ r h. h.1 (rw b.holds due)) (rw b.file back.clear)

-- a server's file is not empty
pub file_there : (ed : ℕ) (s : Server) (rest : List ℕ) → written ed (server s) ++ rest ≡ [] → ⊥
file_there ed s rest e =
    omega (
      arith,
      server_bytes_lem ed s,
      (byte_size_bounds (kind_of (server s))).0,
      length-append (written ed (server s)) rest,
      ap length e,
    )

-- the way starts behind a curve's file, in either edition,
pub start_in :
    {f : List Bucket} (ed : ℕ) → Known ed curve_kind → Sound f → (rest : List ℕ)
    → Standing (written ed (curve f) ++ rest) f [] none f rest
start_in {f} ed has c rest =
    let b = begins (sound_reads ed has c) rest in
    rw (b.holds, b.after) at
    (standing_start (written ed (curve f) ++ rest) (due_clear IsCurve tt (sound_reads ed has c) b))

-- and goes on behind a server's
pub hop_in :
    {input : List ℕ} {first : List Bucket} {hops : List Figures} {before : Option Server} {f g : List Bucket} {s : Server}
    {here : Figures} {rest : List ℕ} (ed : ℕ) → Known ed (kind_of (server s))
    → Standing input first hops before f (written ed (server s) ++ rest) → length hops < 32 → Passes f before s here g
    → Standing input first (hops ++ here ∷ []) (some (joined_with before s)) g rest
hop_in {before = before} {f} {g} {s} {here} {rest} ed has at short p =
    let back = read_back_server ed s has p.ranged in
    let b = begins back rest in
    rw (b.holds, b.after) at
    (standing_hop at short (λ e. absurd (file_there ed s rest e)) here g
    (clear_or (clear_or (clear_or (due_clear IsServer tt back b) (rw b.holds p.clear)) (rw b.holds p.joins))
    (λ r h. p.fits (subst TooLarge (behind_unique (rw b.holds at h.1.1) p.curve) h.1.2)))
    (rw b.holds p.figures) (rw b.holds p.curve))

-- The start in edition 1.
pub written_start : {f : List Bucket} → Sound f → (rest : List ℕ) → Standing (written 1 (curve f) ++ rest) f [] none f rest
written_start = start_in 1 curve_in_1
