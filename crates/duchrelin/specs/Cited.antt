-- What C gets, as the definitions have it.
-- Assumes nothing.
use Rattle.std.specs.Prelude.{◌≡◌, ℕ, Result}
use Rattle.meaning.specs.Server.{Numbers, numbers_of}
use Rattle.meaning.specs.Profile.{ReadingNumbers, reading_numbers}
use Rattle.checks.specs.Table.{code_of, told}
use Rattle.checks.specs.declared.refusal.Refusal.{Refusal}
use Rattle.servers.specs.Cited.{server_told}
use Rattle.servers.specs.declared.Server.{Server}
use Rattle.profiles.specs.Cited.{reading_of}
use Rattle.profiles.specs.declared.Profile.{Profile}
use Rattle.duchrelin.specs.declared.duchrelin_answer.{duchrelin_answer}
use Rattle.duchrelin.specs.declared.duchrelin_figure.{duchrelin_figure}
use Rattle.duchrelin.specs.declared.duchrelin_server.{duchrelin_server}
use Rattle.duchrelin.specs.declared.duchrelin_profile.{duchrelin_profile}
use Rattle.duchrelin.specs.declared.duchrelin_written.{duchrelin_written}

-- The server in an answer, in numbers.
abbrev pub server_numbers : duchrelin_server → Numbers
server_numbers r = record { kind = r.kind; rate = r.rate; latency = r.latency }

-- What is told of a file, in numbers.
abbrev pub profile_numbers : duchrelin_profile → ReadingNumbers
profile_numbers r =
    record {
      code = r.code;
      edition = r.edition;
      kind = r.kind;
      count = r.count;
      rate = r.rate;
      latency = r.latency;
    }

-- C gets an answer as its code, 0 where it is no refusal, and the count of buckets,
pub record AnswerTold (answer : Result ℕ Refusal) (to_c : duchrelin_answer) : Type 0 where
  pub code_is : to_c.code ≡ code_of answer
  pub count_is : to_c.count ≡ told answer

-- or the figure,
pub record FigureTold (answer : Result ℕ Refusal) (to_c : duchrelin_figure) : Type 0 where
  pub code_is : to_c.code ≡ code_of answer
  pub figure_is : to_c.figure ≡ told answer

-- or the count of bytes,
pub record WrittenTold (answer : Result ℕ Refusal) (to_c : duchrelin_written) : Type 0 where
  pub code_is : to_c.code ≡ code_of answer
  pub bytes_is : to_c.bytes ≡ told answer

-- or the server in numbers,
pub record ServerTold (answer : Result Server Refusal) (to_c : duchrelin_server) : Type 0 where
  pub code_is : to_c.code ≡ code_of answer
  pub numbers_are : server_numbers to_c ≡ numbers_of (server_told answer)

-- or what is told of a file.
pub record ProfileTold (answer : Result Profile Refusal) (to_c : duchrelin_profile) : Type 0 where
  pub numbers_are : profile_numbers to_c ≡ reading_numbers (reading_of answer)
