-- The refusal table, and what an operation answers and leaves behind: one outcome for every input. (docs/SCOPE.md, "Refusals",
-- "How an answer is handed over".)
-- Assumes nothing.
use Rattle.std.specs.Prelude.{◌≡◌, ◌⊎◌, ◌≢◌, List, [], ◌++◌, ℕ, ◌%◌, ◌^◌, ◌≤◌, ◌<◌, length, take, drop}
use Rattle.meaning.specs.Curve.{Bucket, ◌∈◌, buckets, width, curve_of, list_of, NormalForm}

infix 45 ◌when◌
infixl 40 ◌or◌
-- The refusals by their names in the table.
pub data Refusal : Type 0 where
  HEADER LENGTH PAD LIST COUNT RANGE FORM UNBOUNDED LARGE ROOM : Refusal

-- Their numbers. Success is 0.
unfoldable pub number : Refusal → ℕ
number HEADER = 1
number LENGTH = 2
number PAD = 3
number LIST = 4
number COUNT = 5
number RANGE = 6
number FORM = 7
number UNBOUNDED = 8
number LARGE = 9
number ROOM = 10

-- The order in which they win: that of their numbers.
abbrev pub rank : Refusal → ℕ
rank r = number r

-- Lines of the table, with what each says where it holds.
abbrev pub Lines : Type 1
Lines = Refusal → Type 0

-- The one line r, which holds when P does.
abbrev pub ◌when◌ : Refusal → Type 0 → Lines
(r when P) line = (line ≡ r) × P

-- Several lines; a line stands over all operands where it holds of one of them.
abbrev pub ◌or◌ : Lines → Lines → Lines
(a or b) line = a line ⊎ b line

-- Of the lines that hold, of whatever operand, the first in that order is the refusal.
pub record Wins (lines : Lines) (r : Refusal) : Type 0 where
  pub holds : lines r
  pub smallest : (other : Refusal) → lines other → rank r ≤ rank other

-- No line holds.
abbrev pub Clear : Lines → Type 0
Clear lines = (r : Refusal) → lines r → ⊥

-- The code of a test for refusals: 0 where no line holds, else the number that wins.
pub data Verdict (lines : Lines) (code : ℕ) : Type 0 where
  accepted : Clear lines → code ≡ 0 → Verdict lines code
  rejected : (r : Refusal) → Wins lines r → code ≡ number r → Verdict lines code

-- A rate and a burst below their ends.
pub record Within (rate_end burst_end : ℕ) (k : Bucket) : Type 0 where
  pub rate_fits : k.rate < rate_end
  pub burst_fits : k.burst < burst_end

-- Every bucket of a list is.
abbrev pub AllWithin : ℕ → ℕ → List Bucket → Type 0
AllWithin rate_end burst_end f = (k : Bucket) → k ∈ f → Within rate_end burst_end k

-- A bucket's ranges: rates below 2^20, bursts below 2^40.
abbrev pub InRange : Bucket → Type 0
InRange = Within (2 ^ 20) (2 ^ 40)

-- Every bucket of a list is within its range.
abbrev pub AllInRange : List Bucket → Type 0
AllInRange = AllWithin (2 ^ 20) (2 ^ 40)

-- A list with so many numbers for each bucket is empty or does not come out even.
abbrev pub Uneven : ℕ → List ℕ → Type 0
Uneven numbers l = (length l ≡ 0) ⊎ (length l % numbers ≢ 0)

-- A list of buckets: empty or uneven; over 64 buckets; a rate or burst outside its range.
abbrev pub list_lines : ℕ → List ℕ → List Bucket → Lines
list_lines numbers l f =
    LIST when (Uneven numbers l)
    or COUNT when (64 < length f)
    or RANGE when (AllInRange f → ⊥)

-- A raw list has two numbers for each bucket.
abbrev pub raw_lines : List ℕ → Lines
raw_lines l = list_lines 2 l (buckets l)

-- A curve: the same of its own list, or not in normal form.
abbrev pub curve_lines : List ℕ → Lines
curve_lines l = list_lines width l (curve_of l) or FORM when (NormalForm (curve_of l) → ⊥)

-- A curve that is too large to be handed out.
abbrev pub TooLarge : List Bucket → Type 0
TooLarge f = (64 < length f) ⊎ (AllInRange f → ⊥)

-- The exact answer is too large; the output list, of `room` numbers, is shorter than the answer.
abbrev pub answer_lines : (List Bucket → Type 0) → ℕ → Lines
answer_lines Answer room =
    LARGE when ((f : List Bucket) × Answer f × TooLarge f)
    or ROOM when ((f : List Bucket) × Answer f × (room < length (list_of f)))

-- An answer over the start of what was lent, and the rest as it was.
unfoldable pub over : List ℕ → List ℕ → List ℕ
over answer before = answer ++ drop (length answer) before

-- Refused: the number of the line that wins, no count or figure, and what was lent as it was.
pub record Refused (lines : Lines) (before after : List ℕ) (code figure : ℕ) : Type 0 where
  pub why : Refusal
  pub wins : Wins lines why
  pub code_is : code ≡ number why
  pub figure_is : figure ≡ 0
  pub kept : after ≡ before

-- A curve is answered: no line holds, the code is 0, the count is the answer's, and the answer stands in the lent list.
pub record Answered (lines : Lines) (Answer : List Bucket → Type 0) (before after : List ℕ) (code count : ℕ) : Type 0 where
  pub curve : List Bucket
  pub clear : Clear lines
  pub right : Answer curve
  pub code_is : code ≡ 0
  pub count_is : count ≡ length curve
  pub written : after ≡ over (list_of curve) before

-- A question that a curve answers: the lines that its operands can break, and which curve is the answer.
pub record Question : Type 1 where
  pub operands : Lines
  pub Answer : List Bucket → Type 0

-- Every line of a question, the answer's among them, for an output list of `room` numbers.
abbrev pub all_lines : Question → ℕ → Lines
all_lines ask room = ask.operands or answer_lines ask.Answer room

-- What comes of it, with the lent list before and after: a refusal or the answer.
pub data Outcome (ask : Question) (before after : List ℕ) (code count : ℕ) : Type 0 where
  refused : Refused (all_lines ask (length before)) before after code count → Outcome ask before after code count
  answered :
      Answered (all_lines ask (length before)) ask.Answer before after code count → Outcome ask before after code count

-- The part of a table: the `room` numbers from `at`, as far as the table has them.
unfoldable pub part : ℕ → ℕ → List ℕ → List ℕ
part at room table = take room (drop at table)

-- The same with a part of a larger table for the output list: nothing outside the part changes.
pub record PartOutcome (ask : Question) (at room : ℕ) (before after : List ℕ) (code count : ℕ) : Type 0 where
  pub inside : Outcome ask (part at room before) (part at room after) code count
  pub outside : after ≡ take at before ++ part at room after ++ drop room (drop at before)

-- A question that a figure answers: a refusal, or code 0 and the figure.
pub data FigureOutcome (lines : Lines) (Figure : ℕ → Type 0) (code figure : ℕ) : Type 0 where
  refused : Refused lines [] [] code figure → FigureOutcome lines Figure code figure
  answered : Clear lines → code ≡ 0 → Figure figure → FigureOutcome lines Figure code figure

-- A question that bytes answer: the lines that its operands can break, and which bytes are the answer.
pub record BytesQuestion : Type 1 where
  pub operands : Lines
  pub Answer : List ℕ → Type 0

-- Every line of it, for a buffer of `room` bytes: the buffer may be shorter than the answer.
abbrev pub bytes_lines : BytesQuestion → ℕ → Lines
bytes_lines ask room = ask.operands or ROOM when ((bytes : List ℕ) × ask.Answer bytes × (room < length bytes))

-- Bytes are answered: no line holds, the code is 0, the count is theirs, and they stand at the start of the lent buffer; bytes
-- beyond them stay.
pub record Filled (ask : BytesQuestion) (before after : List ℕ) (code count : ℕ) : Type 0 where
  pub bytes : List ℕ
  pub clear : Clear (bytes_lines ask (length before))
  pub right : ask.Answer bytes
  pub code_is : code ≡ 0
  pub count_is : count ≡ length bytes
  pub written : after ≡ over bytes before

-- What comes of it, with the lent buffer before and after: a refusal or the bytes.
pub data BytesOutcome (ask : BytesQuestion) (before after : List ℕ) (code count : ℕ) : Type 0 where
  refused : Refused (bytes_lines ask (length before)) before after code count → BytesOutcome ask before after code count
  filled : Filled ask before after code count → BytesOutcome ask before after code count
