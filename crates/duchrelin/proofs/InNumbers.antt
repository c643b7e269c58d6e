-- From what code answers to what C gets: over all of a list, of the server that numbers stand for, and in numbers.
-- Assumes nothing.
use mathlib.Core.Path.{◌≡◌}
use mathlib.Core.List.{List}
use Prim.Native.Nat.{ℕ}
use lib.ListN.{length}
use Rattle.std.specs.Prelude.{Result}
use Rattle.meaning.specs.Server.{Server, server_named}
use Rattle.meaning.specs.Refusal.{Question, Outcome, PartOutcome}
use Rattle.meaning.specs.ServerQuestions.{passing}
use Rattle.meaning.specs.Profile.{ReadPartOutcome, ReadNumbers, WriteServerOutcome}
use Rattle.meaning.proofs.Outcome.Outcomes.{whole_list}
use Rattle.checks.specs.Table.{code_of, told}
use Rattle.checks.specs.declared.refusal.Refusal.{Refusal}
use Rattle.servers.specs.Cited.{numbers}
use Rattle.profiles.specs.Cited.{reading_of}
use Rattle.profiles.specs.declared.Profile.{Profile}
use Rattle.profiles.proofs.Readings.{read_whole}
use Rattle.duchrelin.specs.declared.duchrelin_profile.{duchrelin_profile}
use Rattle.duchrelin.specs.Cited.{profile_numbers, ProfileTold}

module _ {at room : ℕ} {before after : List ℕ} (start : at ≡ 0) (end : room ≡ length before) where
  module _ {code count : ℕ} (answer : Result ℕ Refusal) (code_is : code ≡ code_of answer) (count_is : count ≡ told answer) where
    -- an answer over a part that is all of a list is one over the list,
    pub whole_answer :
        (ask : Question) → PartOutcome ask at room before after (code_of answer) (told answer) → Outcome ask before after code count
    whole_answer ask o = rw (code_is, count_is) (whole_list ask (rw (start, end) at o))

    -- so it is of the curve behind the server that numbers stand for,
    pub whole_behind :
        (f : List ℕ) (s : Server) (kind rate latency : ℕ) → s ≡ server_named (numbers kind rate latency)
        → PartOutcome (passing f s) at room before after (code_of answer) (told answer)
        → Outcome (passing f (server_named (numbers kind rate latency))) before after code count
    whole_behind f s kind rate latency e o = whole_answer _ (rw e at o)

  -- and of what is read of a file
  pub whole_reading :
      (file : List ℕ) (answer : Result Profile Refusal) (to_c : duchrelin_profile)
      → ReadPartOutcome file at room before after (reading_of answer) → ProfileTold answer to_c
      → ReadNumbers file before after (profile_numbers to_c)
  whole_reading file answer to_c o t =
      record { reading = reading_of answer; outcome = read_whole file (rw (start, end) at o); numbers_are = t.numbers_are }

-- what is written of the server that numbers stand for
pub named_written :
    {before after : List ℕ} {code bytes : ℕ} (ed : ℕ) (s : Server) (kind rate latency : ℕ) (answer : Result ℕ Refusal)
    → s ≡ server_named (numbers kind rate latency) → WriteServerOutcome ed s before after (code_of answer) (told answer)
    → code ≡ code_of answer → bytes ≡ told answer
    → WriteServerOutcome ed (server_named (numbers kind rate latency)) before after code bytes
named_written ed s kind rate latency answer e o code_is bytes_is = rw (code_is, bytes_is) (rw e at o)
