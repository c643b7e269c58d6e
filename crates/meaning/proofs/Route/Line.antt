-- What a reported route adds up to. The servers are those of the input, in their order, at most 32; each hop's figures are those
-- of its server and the curve behind the hop before, the route's those of the servers joined over the first curve. The route's
-- backlog is the last hop's, its delay is at most the hops' delays added, and every figure is below 2^41.
-- Assumes nothing.
use mathlib.Core.Path.{◌≡◌, refl, sym, ◌∙◌, subst}
use mathlib.Core.Logic.{inl, inr}
use mathlib.Core.Option.{Option, none, some}
use mathlib.Core.List.{List, [], ◌∷◌, ◌++◌, append_assoc, append-nil}
use Prim.Native.Nat.{ℕ, ◌+◌, ◌^◌, ◌≤◌, ◌<◌}
use native.Mathlib.Omega.{arith}
use lib.ListN.{length, length-append}
use Rattle.meaning.specs.Curve.{Bucket, curve_of, list_of, reads, NormalForm}
use Rattle.meaning.specs.Server.{Server, join, Behind, Delay, last}
use Rattle.meaning.specs.Refusal.{Refusal, LARGE, Clear, AllInRange}
use Rattle.meaning.specs.ServerQuestions.{ServerInRange, port_lines}
use Rattle.meaning.specs.Computed.{behind}
use Rattle.meaning.specs.Profile.{curve, server, profile_of, buckets_of, server_in}
use Rattle.meaning.specs.Route.{after_first, join_lines, joined_with, hop_lines, Figures, FiguresOf, Report, passed, refused_at, Onward, ends, bytes_left, stops, hop, Reported, no_curve, from_curve}
use Rattle.meaning.proofs.Lists.{curve_list}
use Rattle.meaning.proofs.Server.Excess.{gap_unique}
use Rattle.meaning.proofs.Server.Joining.{last_inside}
use Rattle.meaning.proofs.Server.BothKinds.{backlog_behind, KeepsUp, keeps_up, behind_is, behind_keeps_up, ranged_rate, delay_exists, delay_unique, hop_by_hop, joined_delay, backlog_fits, delay_fits}
use Rattle.meaning.proofs.Outcome.Stable.{server_stable}
use Rattle.meaning.proofs.Route.BackToBack.{due_curve, due_server}
use Rattle.meaning.proofs.Outcome.Answers.{clear_form, clear_fits, fits_ranged}
use Rattle.meaning.proofs.Outcome.Demands.{port_curve, port_server, port_bounded}

-- The hops' delays added.
unfoldable pub delays : List Figures → ℕ
delays [] = 0
delays (x ∷ l) = x.delay + delays l

-- one hop more
delays_more : (l : List Figures) (x : Figures) → delays (l ++ x ∷ []) ≡ delays l + x.delay
unfolding delays
delays_more [] x = omega arith
delays_more (y ∷ l) x = omega (arith, delays_more l x)

-- Both figures are below 2^41.
pub record Small (x : Figures) : Type 0 where
  pub backlog_small : x.backlog < 2 ^ 41
  pub delay_small : x.delay < 2 ^ 41

-- Those of every hop are.
abbrev pub AllSmall : List Figures → Type 0
AllSmall [] = Unit {0}
AllSmall (x ∷ l) = Small x × AllSmall l

-- one hop more
small_more : (l : List Figures) {x : Figures} → AllSmall l → Small x → AllSmall (l ++ x ∷ [])
small_more [] h small = (small, tt)
small_more (y ∷ l) h small = (h.0, small_more l h.1 small)

-- At most 32 hops, and at least one: the route's backlog is the last hop's, and its delay is at most the hops' delays added.
-- Every figure is below 2^41.
pub record RouteLine (hops : List Figures) (route : Figures) : Type 0 where
  pub at_most : length hops ≤ 32
  pub earlier : List Figures
  pub last_hop : Figures
  pub hops_are : hops ≡ earlier ++ last_hop ∷ []
  pub backlog_same : route.backlog ≡ last_hop.backlog
  pub delay_within : route.delay ≤ delays hops
  pub hops_small : AllSmall hops
  pub route_small : Small route

-- ---- A hop.

-- What holds of a curve, the servers before and a server where no line refuses the hop.
pub record Passable (f : List Bucket) (before : Option Server) (s : Server) : Type 0 where
  pub form : NormalForm f
  pub ranged : AllInRange f
  pub in_range : ServerInRange s
  pub bounded : KeepsUp f s
  pub joined_in_range : ServerInRange (joined_with before s)

-- a server that joins those before it is in range with them
join_ranged :
    (before : Option Server) (s : Server) → ServerInRange s → Clear (join_lines before s) → ServerInRange (joined_with before s)
join_ranged none s ranged clear = ranged
join_ranged (some b) s ranged clear = server_stable (join b s) (λ out. clear LARGE (inr (refl, (join b s, refl, out))))

-- where no line holds of the curve with the server, nor of the joining,
pub passable :
    (f : List Bucket) (before : Option Server) (s : Server) → Clear (port_lines (list_of f) s) → Clear (join_lines before s)
    → Passable f before s
passable f before s port joins =
    record {
      form = rw curve_list at (clear_form (list_of f) (port_curve (list_of f) s port));
      ranged = rw curve_list at (fits_ranged (clear_fits (list_of f) (port_curve (list_of f) s port)));
      in_range = port_server (list_of f) s port;
      bounded = rw curve_list at (keeps_up (curve_of (list_of f)) s (port_bounded (list_of f) s port));
      joined_in_range = join_ranged before s (port_server (list_of f) s port) joins;
    }

-- so of a hop of which no line holds;
pub hop_passable :
    (f : List Bucket) (before : Option Server) (input : List ℕ) → Clear (hop_lines f before input)
    → Passable f before (server_in (profile_of input))
hop_passable f before input clear =
    passable f before (server_in (profile_of input)) (λ r h. clear r (inl (inl (inr h)))) (λ r h. clear r (inl (inr h)))

-- a curve stands behind the server
pub passable_behind : {f : List Bucket} {before : Option Server} {s : Server} → Passable f before s → Behind f s (behind f s)
passable_behind {f} {s = s} known = behind_is f s known.form known.bounded

-- where a curve stands behind a server, there are a backlog and a delay
pub figures_exist :
    {f g : List Bucket} {s : Server} → 1 ≤ length f → ServerInRange s → Behind f s g → (x : Figures) × FiguresOf f s x
figures_exist {f} {g} {s} filled in_range b =
    let d = delay_exists (ranged_rate s in_range) b in (
      record { backlog = reads g 0; delay = d.0 },
      record { backlog_is = backlog_behind filled b; delay_is = d.1 },
    )

-- and of a curve and a server in range they are small
figures_small :
    {f g : List Bucket} {s : Server} {x : Figures}
    → NormalForm f → AllInRange f → ServerInRange s → Behind f s g → FiguresOf f s x → Small x
figures_small {f} {s = s} form ranged in_range b x =
    let last_ranged = ranged (last f) (last_inside f form.some) in
    let slow = behind_keeps_up form b in
    record {
      backlog_small = backlog_fits f form.some last_ranged s in_range slow x.backlog_is;
      delay_small = delay_fits f form.some last_ranged s in_range slow x.delay_is;
    }

-- ---- The route line.

-- Some hops are passed: the curve from the last of them stands behind their servers joined, over the first curve.
pub record Through (first : List Bucket) (hops : List Figures) (joined : Server) (f : List Bucket) : Type 0 where
  pub form : NormalForm first
  pub ranged : AllInRange first
  pub in_range : ServerInRange joined
  pub stands : Behind first joined f
  pub small : AllSmall hops
  pub line : (route : Figures) → FiguresOf first joined route → RouteLine hops route

-- No hop is passed, or some are.
abbrev pub Sofar : List Bucket → List Figures → Option Server → List Bucket → Type 0
Sofar first hops none f = (f ≡ first) × (hops ≡ [])
Sofar first hops (some joined) f = Through first hops joined f

-- so far every figure is small
pub sofar_small :
    (first : List Bucket) (hops : List Figures) (before : Option Server) (f : List Bucket) → Sofar first hops before f
    → AllSmall hops
sofar_small first hops none f none_passed = rw none_passed.1 tt
sofar_small first hops (some joined) f t = t.small

-- The servers joined so far, if there are any, are in range.
abbrev pub JoinedInRange : Option Server → Type 0
JoinedInRange none = Unit {0}
JoinedInRange (some before) = ServerInRange before

-- so they are
pub sofar_in_range :
    (first : List Bucket) (hops : List Figures) (before : Option Server) (f : List Bucket) → Sofar first hops before f
    → JoinedInRange before
sofar_in_range first hops none f none_passed = tt
sofar_in_range first hops (some joined) f t = t.in_range

-- A hop that is answered, with the hops before it:
module _
    (hops : List Figures) {f g : List Bucket} {before : Option Server} {s : Server} {here : Figures} (short : length hops < 32)
    (known : Passable f before s) (x : FiguresOf f s here) (b : Behind f s g)
  where
    -- its figures are small
    here_small : Small here
    here_small = figures_small known.form known.ranged known.in_range b x

    -- the line up to it, where its curve stands behind the servers joined and its delay is the most that they add
    passes :
        {first : List Bucket}
        → NormalForm first → AllInRange first → Behind first (joined_with before s) g → AllSmall hops
        → ((n : ℕ) → Delay first (joined_with before s) n → n ≤ delays hops + here.delay)
        → Through first (hops ++ here ∷ []) (joined_with before s) g
    passes form ranged stands small within =
        record {
          form = form;
          ranged = ranged;
          in_range = known.joined_in_range;
          stands = stands;
          small = small_more hops small here_small;
          line =
              λ route y.
              record {
                at_most = simp length-append (omega arith);
                earlier = hops;
                last_hop = here;
                hops_are = refl;
                backlog_same =
                    gap_unique y.backlog_is (backlog_behind form.some stands)
                    ∙ gap_unique (backlog_behind known.form.some b) x.backlog_is;
                delay_within = omega (arith, within route.delay y.delay_is, delays_more hops here);
                hops_small = small_more hops small here_small;
                route_small = figures_small form ranged known.joined_in_range stands y;
              };
        }

-- so it goes on from no hop, and from some
pub through :
    (hops : List Figures) {f g : List Bucket} (before : Option Server) {s : Server} {here : Figures} {first : List Bucket}
    → length hops < 32 → Passable f before s → FiguresOf f s here → Behind f s g → Sofar first hops before f
    → Through first (hops ++ here ∷ []) (joined_with before s) g
through hops {f} {g} none {s} {here} short known x b sofar =
    rw (← sofar.0)
    (passes hops short known x b known.form known.ranged b (rw sofar.1 tt)
    (λ n h. omega (arith, delay_unique h x.delay_is)))
through hops (some joined) {s} {here} {first} short known x b t =
    passes hops short known x b t.form t.ranged (hop_by_hop t.form.some t.stands b) t.small within
  where
    within : (n : ℕ) → Delay first (join joined s) n → n ≤ delays hops + here.delay
    within n h =
        let y = figures_exist t.form.some t.in_range t.stands in
        omega
        (arith, joined_delay t.form.some t.stands y.1.delay_is x.delay_is h, (t.line y.0 y.1).delay_within)

-- What a report says of its route, if it has one.
abbrev Says : Report → Type 0
Says (passed hops route) = RouteLine hops route
Says (refused_at r k) = Unit {0}

-- from a place on it says so, where it holds up to there
onward_line :
    {first : List Bucket} {hops : List Figures} {before : Option Server} {f : List Bucket} {input : List ℕ} {report : Report}
    → Onward first hops before f input report → Sofar first hops before f → Says report
onward_line (ends route x) t = t.line route x
onward_line (bytes_left h more) t = tt
onward_line (stops r h due w) t = tt
onward_line (hop {hops = hops} {before = before} {f = f} {input = input} here g h due clear x b onward) t =
    onward_line onward (through hops before h (hop_passable f before input clear) x b t)

-- the route's backlog is the last hop's, and its delay at most the hops' delays added
pub route_line :
    {input : List ℕ} {hops : List Figures} {route : Figures} → Reported input (passed hops route) → RouteLine hops route
route_line (no_curve r w e) = let z : ◌≡◌ {A = ℕ} 0 1 = cc in absurd (omega arith)
route_line (from_curve clear onward) = onward_line onward (refl, refl)

-- ---- What stands behind each line.

-- The servers are those of the input from a place on, in their order, and nothing comes after them.
abbrev pub ServersOf : List Server → List ℕ → Type 0
ServersOf [] input = input ≡ []
ServersOf (s ∷ l) input = (profile_of input ≡ server s) × ServersOf l (after_first input)

-- From a curve on: each hop's figures are those of its server and the curve behind the hop before.
abbrev pub HopsOf : List Bucket → List Server → List Figures → Type 0
HopsOf f [] hops = hops ≡ []
HopsOf f (s ∷ l) [] = ⊥
HopsOf f (s ∷ l) (x ∷ hops) = FiguresOf f s x × ((g : List Bucket) × Behind f s g × HopsOf g l hops)

-- The servers joined, with those before them.
abbrev pub all_joined : Option Server → List Server → Option Server
all_joined before [] = before
all_joined before (s ∷ l) = all_joined (some (joined_with before s)) l

-- A reported route: the first profile is a curve and the others are servers; each hop's figures are those of its server and the
-- curve behind the hop before, the route's those of the servers joined and the first curve.
pub record RouteOf (input : List ℕ) (hops : List Figures) (route : Figures) : Type 0 where
  pub first : List Bucket
  pub first_is : profile_of input ≡ curve first
  pub servers : List Server
  pub servers_are : ServersOf servers (after_first input)
  pub hops_are : HopsOf first servers hops
  pub joined : Server
  pub joined_is : all_joined none servers ≡ some joined
  pub route_is : FiguresOf first joined route

-- From a place on: what comes after the hops so far.
record RestOf
    (first : List Bucket) (hops : List Figures) (before : Option Server) (f : List Bucket) (input : List ℕ)
    (all : List Figures) (route : Figures)
    : Type 0 where
  servers : List Server
  servers_are : ServersOf servers input
  more : List Figures
  all_are : all ≡ hops ++ more
  more_are : HopsOf f servers more
  joined : Server
  joined_is : all_joined before servers ≡ some joined
  route_is : FiguresOf first joined route

-- What a report says of that: of its route, or nothing.
data Stands
    (first : List Bucket) (hops : List Figures) (before : Option Server) (f : List Bucket) (input : List ℕ)
    : Report → Type 0 where
  on :
      {all : List Figures} {route : Figures}
      → RestOf first hops before f input all route → Stands first hops before f input (passed all route)
  off : {r : Refusal} {k : ℕ} → Stands first hops before f input (refused_at r k)

-- a hop stands before the rest,
stands_hop :
    {first : List Bucket} {hops : List Figures} (before : Option Server) (f : List Bucket) (input : List ℕ)
    {here : Figures} {g : List Bucket} {report : Report}
    → Clear (hop_lines f before input) → FiguresOf f (server_in (profile_of input)) here → Behind f (server_in (profile_of input)) g
    → Stands first (hops ++ here ∷ []) (some (joined_with before (server_in (profile_of input)))) g (after_first input) report
    → Stands first hops before f input report
stands_hop {hops = hops} before f input {here} {g} clear x b (on rest) =
    on
    (record {
      servers = server_in (profile_of input) ∷ rest.servers;
      servers_are = (
        due_server input (λ r h. clear r (inl (inl (inl h)))),
        rest.servers_are,
      );
      more = here ∷ rest.more;
      all_are = rest.all_are ∙ append_assoc hops (here ∷ []) rest.more;
      more_are = (x, (g, b, rest.more_are));
      joined = rest.joined;
      joined_is = rest.joined_is;
      route_is = rest.route_is;
    })
stands_hop before f input clear x b off = off

-- so every report says it
onward_stands :
    {first : List Bucket} {hops : List Figures} {before : Option Server} {f : List Bucket} {input : List ℕ} {report : Report}
    → Onward first hops before f input report → Stands first hops before f input report
onward_stands (ends {hops = hops} {joined = joined} route x) =
    on
    (record {
      servers = [];
      servers_are = refl;
      more = [];
      all_are = sym (append-nil hops);
      more_are = refl;
      joined = joined;
      joined_is = refl;
      route_is = x;
    })
onward_stands (bytes_left h more) = off
onward_stands (stops r h due w) = off
onward_stands (hop {before = before} {f = f} {input = input} here g h due clear x b onward) =
    stands_hop before f input clear x b (onward_stands onward)

-- what it says of a route
rest_of :
    {first : List Bucket} {hops : List Figures} {before : Option Server} {f : List Bucket} {input : List ℕ}
    {all : List Figures} {route : Figures}
    → Stands first hops before f input (passed all route) → RestOf first hops before f input all route
rest_of (on rest) = rest

-- each line of a report stands for what it says
pub route_of :
    {input : List ℕ} {hops : List Figures} {route : Figures} → Reported input (passed hops route) → RouteOf input hops route
route_of (no_curve r w e) = let z : ◌≡◌ {A = ℕ} 0 1 = cc in absurd (omega arith)
route_of {input} (from_curve clear onward) =
    let rest = rest_of (onward_stands onward) in
    record {
      first = buckets_of (profile_of input);
      first_is = due_curve input clear;
      servers = rest.servers;
      servers_are = rest.servers_are;
      hops_are = subst (HopsOf (buckets_of (profile_of input)) rest.servers) (sym rest.all_are) rest.more_are;
      joined = rest.joined;
      joined_is = rest.joined_is;
      route_is = rest.route_is;
    }
