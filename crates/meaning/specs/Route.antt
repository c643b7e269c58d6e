-- The route program: its whole output as text, from its whole input as bytes. (docs/SCOPE.md, "The route".)
-- Assumes nothing.
use Rattle.std.specs.Prelude.{◌≡◌, ◌≢◌, cond, List, [], ◌∷◌, ◌++◌, ℕ, zero, suc, ◌+◌, ◌/◌, ◌%◌, ◌<◌, ltb, length, take, drop}
use Rattle.std.proofs.Math.Option.{Option, none, some}
use Prim.Native.Char.{code}
use Prim.Native.String.{String}
use Rattle.meaning.specs.Curve.{Bucket, list_of}
use Rattle.meaning.specs.Server.{Server, join, Behind, Backlog, Delay}
use Rattle.meaning.specs.Refusal.{Refusal, HEADER, COUNT, LARGE, number, Lines, ◌when◌, ◌or◌, Wins, Clear, TooLarge, BytesQuestion, BytesOutcome}
use Rattle.meaning.specs.ServerQuestions.{server_lines, port_lines, with_large}
use Rattle.meaning.specs.Profile.{Profile, curve, server, profile_of, bytes_taken, file_lines, buckets_of, server_in}

-- The first profile of an input: as many bytes as its own header asks for.
unfoldable pub first_file : List ℕ → List ℕ
first_file input = take (bytes_taken input) input

-- What stands behind it.
unfoldable pub after_first : List ℕ → List ℕ
after_first input = drop (bytes_taken input) input

-- A profile is a curve.
abbrev pub IsCurve : Profile → Type 0
IsCurve (curve f) = Unit {0}
IsCurve (server s) = ⊥

-- A profile is a server.
abbrev pub IsServer : Profile → Type 0
IsServer (curve f) = ⊥
IsServer (server s) = Unit {0}

-- Where one of the two is due: the other, or nothing, is HEADER; what the input cuts short is LENGTH, as of any file.
abbrev pub due_lines : (Profile → Type 0) → List ℕ → Lines
due_lines Due input = HEADER when (Due (profile_of input) → ⊥) or file_lines (first_file input)

-- A server is joined with those before it.
abbrev pub join_lines : Option Server → Server → Lines
join_lines none s = λ _. ⊥
join_lines (some before) s = with_large (server_lines before or server_lines s) (λ joined. joined ≡ join before s)

-- The joined server, or the first one by itself.
abbrev pub joined_with : Option Server → Server → Server
joined_with none s = s
joined_with (some before) s = join before s

-- All that can be refused at a server: its reading, the curve with it, joining it, the curve behind it.
abbrev pub hop_lines : List Bucket → Option Server → List ℕ → Lines
hop_lines f before input =
    due_lines IsServer input or port_lines (list_of f) s or join_lines before s
    or LARGE when ((g : List Bucket) × Behind f s g × TooLarge g)
  where
    s : Server
    s = server_in (profile_of input)

-- Backlog and delay: of a hop, or of the route.
pub record Figures : Type 0 where
  pub backlog : ℕ
  pub delay : ℕ

-- They are those of a curve and a server.
pub record FiguresOf (f : List Bucket) (s : Server) (x : Figures) : Type 0 where
  pub backlog_is : Backlog f s x.backlog
  pub delay_is : Delay f s x.delay

-- What is reported: each hop and the route, or a refusal and which profile is refused.
pub data Report : Type 0 where
  passed : List Figures → Figures → Report
  refused_at : Refusal → ℕ → Report

-- From a place in the input on: the first curve, the hops so far, their servers joined, the curve from the hop before, the
-- bytes that are left, and the report.
pub data Onward (first : List Bucket) : List Figures → Option Server → List Bucket → List ℕ → Report → Type 0 where
  -- The input ends: the joined server over the first curve.
  ends :
      {hops : List Figures} {joined : Server} {f : List Bucket} (route : Figures)
      → FiguresOf first joined route → Onward first hops (some joined) f [] (passed hops route)
  -- 32 servers are passed, and there is more.
  bytes_left :
      {hops : List Figures} {before : Option Server} {f : List Bucket} {input : List ℕ}
      → length hops ≡ 32 → input ≢ [] → Onward first hops before f input (refused_at COUNT 34)
  -- A server is refused; the curve is profile 1.
  stops :
      {hops : List Figures} {before : Option Server} {f : List Bucket} {input : List ℕ} (r : Refusal)
      → length hops < 32 → (input ≡ [] → before ≡ none) → Wins (hop_lines f before input) r
      → Onward first hops before f input (refused_at r (length hops + 2))
  -- A hop, and on with the curve behind it.
  hop :
      {hops : List Figures} {before : Option Server} {f : List Bucket} {input : List ℕ} {report : Report}
      (here : Figures) (g : List Bucket)
      → length hops < 32 → (input ≡ [] → before ≡ none) → Clear (hop_lines f before input)
      → FiguresOf f (server_in (profile_of input)) here → Behind f (server_in (profile_of input)) g
      → Onward first (hops ++ here ∷ []) (some (joined_with before (server_in (profile_of input)))) g (after_first input) report
      → Onward first hops before f input report

-- The curve comes first: it is refused, or the servers follow.
pub data Reported (input : List ℕ) (report : Report) : Type 0 where
  no_curve : (r : Refusal) → Wins (due_lines IsCurve input) r → report ≡ refused_at r 1 → Reported input report
  from_curve :
      Clear (due_lines IsCurve input)
      → Onward (buckets_of (profile_of input)) [] none (buckets_of (profile_of input)) (after_first input) report
      → Reported input report

-- A text as bytes.
unfoldable pub bytes : String → List ℕ
bytes String.[] = []
bytes (String.◌∷◌ c s) = code c ∷ bytes s

-- A number in decimal, `most` digits at most; no number of 64 bits has more than 20.
unfoldable pub digits : ℕ → ℕ → List ℕ
digits zero n = []
digits (suc most) n = cond (ltb n 10) ((48 + n) ∷ []) (digits most (n / 10) ++ (48 + n % 10) ∷ [])

-- Numbers, a space before each.
unfoldable pub numbers : List ℕ → List ℕ
numbers [] = []
numbers (n ∷ l) = bytes " " ++ digits 20 n ++ numbers l

-- A hop's line: its number and its figures.
unfoldable pub hop_text : ℕ → Figures → List ℕ
hop_text n x = bytes "hop" ++ numbers (n ∷ x.backlog ∷ x.delay ∷ []) ++ bytes "\n"

-- The route's line.
unfoldable pub route_text : Figures → List ℕ
route_text x = bytes "route" ++ numbers (x.backlog ∷ x.delay ∷ []) ++ bytes "\n"

-- `refused C at K`
unfoldable pub refused_text : ℕ → ℕ → List ℕ
refused_text c k = bytes "refused" ++ numbers (c ∷ []) ++ bytes " at" ++ numbers (k ∷ []) ++ bytes "\n"

-- A line for each hop, from number n on.
unfoldable pub hop_texts : ℕ → List Figures → List ℕ
hop_texts n [] = []
hop_texts n (x ∷ l) = hop_text n x ++ hop_texts (n + 1) l

-- The hops, then the route; or the refusal's line only.
unfoldable pub text : Report → List ℕ
text (passed hops x) = hop_texts 1 hops ++ route_text x
text (refused_at r k) = refused_text (number r) k

-- The program's output.
pub record Route (input output : List ℕ) : Type 0 where
  pub report : Report
  pub reported : Reported input report
  pub output_is : output ≡ text report

-- A route asks for the program's output, and none of its operands is refused beside it: a refusal is a text too.
unfoldable pub routing : List ℕ → BytesQuestion
routing input = record { operands = λ _. ⊥; Answer = Route input }

-- What comes of a route, with the lent buffer before and after.
abbrev pub RouteOutcome : List ℕ → List ℕ → List ℕ → ℕ → ℕ → Type 0
RouteOutcome input = BytesOutcome (routing input)
