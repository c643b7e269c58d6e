-- What the contracts of this crate's own functions cite, beside the definitions of the crate meaning.
-- Assumes nothing.
use Rattle.std.specs.Prelude.{◌≡◌, Bool, true, false, ◌⊎◌, ◌≢◌, List, [], ◌∷◌, ◌++◌, ℕ, zero, suc, ◌+◌, ◌*◌, ◌≤◌, length, take}
use Rattle.std.proofs.Math.Option.{Option, none, some}
use Rattle.meaning.specs.Curve.{width, curve_of, list_of}
use Rattle.meaning.specs.Server.{Server, Behind}
use Rattle.meaning.specs.Refusal.{Clear, Verdict, curve_lines}
use Rattle.meaning.specs.ServerQuestions.{ServerInRange, HopOutcome}
use Rattle.meaning.specs.Profile.{profile_of, bytes_taken, buckets_of, server_in}
use Rattle.meaning.specs.Route.{first_file, IsCurve, IsServer, due_lines, join_lines, joined_with, hop_lines, Figures, FiguresOf, numbers}

-- ---- Text, piece by piece.

-- A text of 1,145 bytes at most has room for more.
pub record Room (text more : List ℕ) : Type 0 where
  pub fits : length text + length more ≤ 1145

-- A word, numbers with a space before each, and the end of the line.
abbrev pub line_text : List ℕ → List ℕ → List ℕ
line_text word list = word ++ numbers list ++ 10 ∷ []

-- Backlog and delay.
abbrev pub figures : ℕ → ℕ → Figures
figures backlog delay = record { backlog = backlog; delay = delay }

-- ---- Reading.

-- The first file of an input ends at a place of it. (The second line follows from the first: what lends that part asks for it.)
pub record FirstEnd (input : List ℕ) (end : ℕ) : Type 0 where
  pub inside : end ≤ length input
  pub lent : end ≡ length (take end input)
  pub is : take end input ≡ first_file input

-- What comes of reading the curve that is due at the start of an input: its list stands at the start of 128 numbers.
pub record CurveRead (input list : List ℕ) (code numbers : ℕ) : Type 0 where
  pub verdict : Verdict (due_lines IsCurve input) code
  pub told : code ≡ 0 → take numbers list ≡ list_of (buckets_of (profile_of input))
  pub inside : numbers ≤ length list
  pub lent : numbers ≡ length (take numbers list)
  pub long : length list ≡ 128

-- The same where a server is due.
pub record ServerRead (input : List ℕ) (code : ℕ) (s : Server) : Type 0 where
  pub verdict : Verdict (due_lines IsServer input) code
  pub told : code ≡ 0 → s ≡ server_in (profile_of input)

-- ---- Hop by hop.

-- Whether a server is due, where so many are passed: none is passed yet, or bytes are left.
pub record Due (passed : ℕ) (rest : List ℕ) (due : Bool) : Type 0 where
  pub is_due : due ≡ true → (passed ≡ 0) ⊎ (1 ≤ length rest)
  pub is_not : due ≡ false → (1 ≤ passed) × (length rest ≡ 0)

-- The servers joined, where so many are passed.
unfoldable pub joined_after : ℕ → Server → Option Server
joined_after zero s = none
joined_after (suc passed) s = some s

-- A server is joined with those before it.
pub record JoinTo (passed : ℕ) (before s : Server) (code : ℕ) (joined : Server) : Type 0 where
  pub verdict : Verdict (join_lines (joined_after passed before) s) code
  pub is : code ≡ 0 → joined ≡ joined_with (joined_after passed before) s

-- What comes of a server and the list f of a curve at a hop: it is not read, or it is, and with 128 numbers lent the hop is asked.
pub data HopAt (rest f after : List ℕ) (code count backlog delay : ℕ) (s : Server) : Type 0 where
  unread :
      Verdict (due_lines IsServer rest) code → code ≢ 0 → length after ≡ 128 → HopAt rest f after code count backlog delay s
  asked :
      (lent : List ℕ) → length lent ≡ 128 → Clear (due_lines IsServer rest)
      → HopOutcome f (server_in (profile_of rest)) lent after code count backlog delay s
      → HopAt rest f after code count backlog delay s

-- A hop can be asked: the list f of a curve is not refused, and the servers joined so far are in range.
pub record Stepping (f : List ℕ) (passed : ℕ) (before : Server) : Type 0 where
  pub taken : Clear (curve_lines f)
  pub ranged : 1 ≤ passed → ServerInRange before

-- A hop of the route: its code is that of its lines; where that is 0 the figures are those of the curve and the server, the list of
-- the curve behind it stands at the start of `after`, and it is joined with those before it.
pub record Stepped
    (f : List ℕ) (passed : ℕ) (before : Server) (rest after : List ℕ) (code count backlog delay : ℕ) (joined : Server)
    : Type 0
  where
    pub verdict : Verdict (hop_lines (curve_of f) (joined_after passed before) rest) code
    pub right : code ≡ 0 → FiguresOf (curve_of f) (server_in (profile_of rest)) (figures backlog delay)
    pub behind : code ≡ 0 → Behind (curve_of f) (server_in (profile_of rest)) (curve_of (take (width * count) after))
    pub list : code ≡ 0 → list_of (curve_of (take (width * count) after)) ≡ take (width * count) after
    pub few : count ≤ 64
    pub is_joined : code ≡ 0 → joined ≡ joined_with (joined_after passed before) (server_in (profile_of rest))
    pub long : length after ≡ 128

-- The input begins with a curve, whose list is f, and which takes so many bytes; the list stands at the start of 128 numbers too.
pub record Starts (input f : List ℕ) (start : ℕ) (held : List ℕ) : Type 0 where
  pub clear : Clear (due_lines IsCurve input)
  pub list : f ≡ list_of (buckets_of (profile_of input))
  pub taken : start ≡ bytes_taken input
  pub holds : take (length f) held ≡ f
  pub long : length held ≡ 128
