-- Which line wins at a place of the route. Where a profile is due, another kind there is 1, and otherwise the lines of its file
-- decide. At a server the lines of reading come first, then those of the curve with the server, then those of joining and of the
-- curve behind: in this order the first that holds has the smallest number of all.
-- Assumes nothing.
use mathlib.Core.Path.{◌≡◌, refl, sym, ◌∙◌, ap, subst}
use mathlib.Core.Logic.{◌⊎◌, inl, inr, ◌≢◌}
use mathlib.Core.Option.{Option, none, some}
use mathlib.Core.List.{List, []}
use Prim.Native.Nat.{ℕ, ◌≤◌}
use native.Mathlib.Nat.{le_trans}
use native.Mathlib.Omega.{arith}
use lib.Dec.{lit≤}
use lib.ListN.{length}
use lib.Seq.{take-nil}
use Rattle.meaning.specs.Curve.{Bucket, list_of}
use Rattle.meaning.specs.Server.{Server, Behind}
use Rattle.meaning.specs.Refusal.{Refusal, HEADER, LENGTH, PAD, RANGE, UNBOUNDED, LARGE, number, Lines, ◌when◌, ◌or◌, Wins, Clear, Verdict, accepted, rejected, TooLarge, curve_lines}
use Rattle.meaning.specs.ServerQuestions.{ServerInRange, port_lines}
use Rattle.meaning.specs.Profile.{curve_kind, Known, Profile, curve, server, edition_of, kind_in, profile_of, bytes_taken, profile_lines, file_lines, server_in}
use Rattle.meaning.specs.Route.{first_file, IsCurve, IsServer, due_lines, join_lines, hop_lines}
use Rattle.meaning.proofs.Outcome.Outcomes.{number_positive, From, from_when, from_or, UpTo, up_to_when, up_to_or, line_miss, clear_or, refused_then}
use Rattle.meaning.proofs.Outcome.Demands.{port_up_to}
use Rattle.meaning.proofs.Profile.Files.{held_curve, held_server}
use Rattle.meaning.proofs.Route.BackToBack.{same_start, due_in_range}
use Rattle.meaning.proofs.Route.Line.{JoinedInRange}
use Rattle.meaning.proofs.Route.EveryRoute.{join_up_to}

-- ---- Where a profile is due.

-- what is not due there is 1,
pub not_due : (Due : Profile → Type 0) (input : List ℕ) → (Due (profile_of input) → ⊥) → Verdict (due_lines Due input) 1
unfolding number
not_due Due input other =
    rejected HEADER (record { holds = inl (refl, other); smallest = λ r h. number_positive r }) refl

-- and so is a header that is wrong,
header_there :
    (Due : Profile → Type 0) (input : List ℕ)
    → (length (first_file input) ≡ 0) ⊎ (Known (edition_of (first_file input)) (kind_in (first_file input)) → ⊥)
    → Verdict (due_lines Due input) 1
unfolding number
header_there Due input h =
    rejected HEADER (record { holds = inr (inl (inl (inl (refl, h)))); smallest = λ r _. number_positive r }) refl

-- nothing at all,
pub nothing_there : (Due : Profile → Type 0) → Verdict (due_lines Due []) 1
unfolding first_file
nothing_there Due = header_there Due [] (inl (ap length (take-nil (bytes_taken []))))

-- a kind that the edition does not have,
pub unknown_there :
    (Due : Profile → Type 0) (input : List ℕ) → (Known (edition_of input) (kind_in input) → ⊥) → Verdict (due_lines Due input) 1
unknown_there Due input out =
    header_there Due input (inr (rw ((same_start input).edition_same, (same_start input).kind_same) out))

module _ (input : List ℕ) where
  -- a curve where a server is due,
  pub curve_there : kind_in input ≡ curve_kind → Verdict (due_lines IsServer input) 1
  curve_there kind = not_due IsServer input (λ due. rw (held_curve input kind) at due)

  -- anything else where the curve is due;
  pub no_curve_there : kind_in input ≢ curve_kind → Verdict (due_lines IsCurve input) 1
  no_curve_there kind = not_due IsCurve input (λ due. rw (held_server input kind) at due)

  module _ {code : ℕ} (v : Verdict (file_lines (first_file input)) code) where
    -- and otherwise the lines of the file decide: of a server's,
    pub server_file_decides : kind_in input ≢ curve_kind → Verdict (due_lines IsServer input) code
    server_file_decides kind = refused_then (line_miss (λ other. other (rw (held_server input kind) tt))) v

    -- and of a curve's
    pub curve_file_decides : kind_in input ≡ curve_kind → Verdict (due_lines IsCurve input) code
    curve_file_decides kind = refused_then (line_miss (λ other. other (rw (held_curve input kind) tt))) v

-- ---- Lines put together.

module _ {a b : Lines} {r : Refusal} where
  -- what wins, with lines from its number on
  wins_first : Wins a r → From (number r) b → Wins (a or b) r
  wins_first w from = record { holds = inl w.holds; smallest = from_or w.smallest from }

  -- what wins where the lines before do not hold
  wins_then : Clear a → Wins b r → Wins (a or b) r
  wins_then clear w = record { holds = inr w.holds; smallest = from_or (λ line h. absurd (clear line h)) w.smallest }

-- the lines of joining are from 6 on,
join_from : (joined : Option Server) (s : Server) → From 6 (join_lines joined s)
unfolding number
join_from none s = λ r h. absurd h
join_from (some b) s = from_or (from_or (from_when RANGE (lit≤ tt)) (from_when RANGE (lit≤ tt))) (from_when LARGE (lit≤ tt))

-- and where both servers are in range it is LARGE alone
join_large : (joined : Option Server) (s : Server) → JoinedInRange joined → ServerInRange s → From 9 (join_lines joined s)
unfolding number
join_large none s before ranged = λ r h. absurd h
join_large (some b) s before ranged =
    from_or (from_or (λ r h. absurd (h.1 before)) (λ r h. absurd (h.1 ranged))) (from_when LARGE (lit≤ tt))

-- a server that is refused where one is due is refused with 6 at most: 1 for a curve there, else up to RANGE
due_low : (input : List ℕ) {r : Refusal} → Wins (due_lines IsServer input) r → number r ≤ 6
unfolding number
due_low input {r} w = by_profile (profile_of input) refl
  where
    by_profile : (p : Profile) → profile_of input ≡ p → number r ≤ 6
    by_profile (curve f) e = le_trans (w.smallest HEADER (inl (refl, λ due. rw e at due))) (lit≤ tt)
    by_profile (server s) e =
        up_to_or (up_to_when HEADER (lit≤ tt))
        (up_to_or (up_to_or (up_to_or (up_to_when HEADER (lit≤ tt)) (up_to_when LENGTH (lit≤ tt))) (up_to_when PAD (lit≤ tt)))
        (subst (λ (p : Profile). UpTo 6 (profile_lines p)) (sym ((same_start input).profile_same ∙ e))
        (up_to_when RANGE (lit≤ tt))))
        r w.holds

-- ---- At a server.

-- The exact curve behind is too large.
abbrev pub behind_large : List Bucket → Server → Lines
behind_large f s = LARGE when ((g : List Bucket) × Behind f s g × TooLarge g)

module _ (f : List Bucket) (joined : Option Server) (rest : List ℕ) where
  -- What stands there, read as a server.
  abbrev s : Server
  s = server_in (profile_of rest)

  -- the lines of reading it: they come first, where the curve from the hop before is taken
  pub reading_decides :
      {code : ℕ} → Clear (curve_lines (list_of f)) → Verdict (due_lines IsServer rest) code → code ≢ 0
      → Verdict (hop_lines f joined rest) code
  unfolding number
  reading_decides taken (accepted clear e) nonzero = absurd (nonzero e)
  reading_decides taken (rejected r w e) nonzero =
      let low = due_low rest w in
      rejected r
      (wins_first (wins_first (wins_first w (λ line h. le_trans low (port_from line h)))
      (λ line h. le_trans low (join_from joined s line h)))
      (from_when LARGE (le_trans low (lit≤ tt))))
      e
    where
      port_from : From 6 (port_lines (list_of f) s)
      port_from = from_or (from_or (λ line h. absurd (taken line h)) (from_when RANGE (lit≤ tt))) (from_when UNBOUNDED (lit≤ tt))

  -- A server is read.
  module _ (read : Clear (due_lines IsServer rest)) where
    -- the lines of the curve with it come next,
    pub port_decides :
        {code : ℕ} → JoinedInRange joined → Verdict (port_lines (list_of f) s) code → code ≢ 0
        → Verdict (hop_lines f joined rest) code
    unfolding number
    port_decides before (accepted clear e) nonzero = absurd (nonzero e)
    port_decides before (rejected r w e) nonzero =
        let low : number r ≤ 8 = port_up_to (list_of f) s r w.holds in
        rejected r
        (wins_first (wins_first (wins_then read w)
        (λ line h. omega (arith, join_large joined s before (due_in_range rest read) line h)))
        (from_when LARGE (omega arith)))
        e

    -- then those of joining it with those before it,
    pub join_decides :
        {code : ℕ} → Clear (port_lines (list_of f) s) → Verdict (join_lines joined s) code → code ≢ 0
        → Verdict (hop_lines f joined rest) code
    unfolding number
    join_decides port (accepted clear e) nonzero = absurd (nonzero e)
    join_decides port (rejected r w e) nonzero =
        rejected r
        (wins_first (wins_then (clear_or read port) w) (from_when LARGE (join_up_to joined s r w.holds)))
        e

    -- and those of the curve with it and of the curve behind decide where it joins those before it
    pub behind_decides :
        {code : ℕ} → Clear (join_lines joined s) → Verdict (port_lines (list_of f) s or behind_large f s) code
        → Verdict (hop_lines f joined rest) code
    behind_decides joins (accepted clear e) =
        accepted (clear_or (clear_or (clear_or read (λ r h. clear r (inl h))) joins) (λ r h. clear r (inr h))) e
    behind_decides joins (rejected r w e) = rejected r (record { holds = place w.holds; smallest = smallest }) e
      where
        place : (port_lines (list_of f) s or behind_large f s) r → hop_lines f joined rest r
        place (inl h) = inl (inl (inr h))
        place (inr h) = inr h

        smallest : From (number r) (hop_lines f joined rest)
        smallest =
            from_or
            (from_or (from_or (λ line h. absurd (read line h)) (λ line h. w.smallest line (inl h)))
            (λ line h. absurd (joins line h)))
            (λ line h. w.smallest line (inr h))

    -- so the first of these that holds is the smallest number, whatever comes of joining
    pub pass_decides :
        {code : ℕ} → JoinedInRange joined → Verdict (port_lines (list_of f) s or behind_large f s) code → code ≢ 0
        → Verdict (hop_lines f joined rest) code
    unfolding number
    pass_decides before (accepted clear e) nonzero = absurd (nonzero e)
    pass_decides before (rejected r w e) nonzero = rejected r (record { holds = place w.holds; smallest = smallest }) e
      where
        place : (port_lines (list_of f) s or behind_large f s) r → hop_lines f joined rest r
        place (inl h) = inl (inl (inr h))
        place (inr h) = inr h

        low : (port_lines (list_of f) s or behind_large f s) r → number r ≤ 9
        low (inl h) = le_trans (port_up_to (list_of f) s r h) (lit≤ tt)
        low (inr h) = up_to_when LARGE (lit≤ tt) r h

        smallest : From (number r) (hop_lines f joined rest)
        smallest =
            from_or
            (from_or (from_or (λ line h. absurd (read line h)) (λ line h. w.smallest line (inl h)))
            (λ line h. le_trans (low w.holds) (join_large joined s before (due_in_range rest read) line h)))
            (λ line h. w.smallest line (inr h))
