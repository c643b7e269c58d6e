-- The two editions. What edition 1 is has not moved: its files are refused and read as they were before edition 2, and a reader of
-- before refuses every file of edition 2 with HEADER. Files of both editions that are known, and what comes of reading in numbers.
-- Assumes nothing.
use mathlib.Core.Path.{◌≡◌, refl, sym, ◌∙◌, ap}
use mathlib.Core.Logic.{inl, inr, ◌≢◌, ◌↔◌}
use mathlib.Core.List.{List, [], ◌∷◌}
use Prim.Native.Nat.{ℕ}
use native.Mathlib.Omega.{arith}
use lib.Dec.{lit≤}
use Rattle.meaning.specs.Server.{pure_delay, port, numbers_of}
use Rattle.meaning.specs.Refusal.{Refusal, HEADER, number, Lines, Verdict, accepted, rejected, over}
use Rattle.meaning.specs.Profile.{bits_of, spelt, packed, file_bits, bytes_of, Profile, server, Known, KnownBefore, fields, profile_bits, byte_count, written, field, edition_of, kind_in, server_held, profile_of, bytes_taken, padding, lines_of, file_lines, Reading, ReadOutcome, ReadingNumbers, reading_numbers, ReadNumbers, WriteServerOutcome}
use Rattle.meaning.proofs.Outcome.Outcomes.{number_positive}
use Rattle.meaning.proofs.Outcome.Bytes.{OnlyBytes, OnlyRefusedBytes, only_filled}
use Rattle.meaning.proofs.Outcome.Demands.{server_up_to}
use Rattle.meaning.proofs.Profile.Bits.{spelt_one}
use Rattle.meaning.proofs.Profile.Files.{binary_padding}
use Rattle.meaning.proofs.Profile.RoundTrip.{rate_in_2, delay_in_2, no_delay_in_1, ReadsBack, read_back_server}
use Rattle.meaning.proofs.Profile.Outcomes.{writing_server, SameReading, refused_as, one_read, OnlyRead, only_server, OnlyRefused, only_refused, refusal_keeps_read}
use Rattle.meaning.proofs.Profile.Decided.{read_has_outcome}
use Rattle.meaning.proofs.Profile.Again.{server_written, read_written}
use Rattle.meaning.proofs.Profile.Refusals.{pad_wrong, edition_wrong}
use Rattle.meaning.proofs.Profile.Known.{p11_server_file, kind_3_in_1}

-- ---- A reader of before.

-- It refuses what is not of edition 1, whatever else is wrong: 1.
pub before_refuses : (file : List ℕ) → edition_of file ≢ 1 → Verdict (lines_of KnownBefore file) 1
unfolding number
before_refuses file other =
    rejected HEADER
    (record { holds = inl (inl (inl (refl, inr (λ known. other known.0)))); smallest = λ r _. number_positive r }) refl

-- so every profile that is written in edition 2
pub before_refuses_edition_2 : {p : Profile} → ReadsBack 2 p → Verdict (lines_of KnownBefore (written 2 p)) 1
before_refuses_edition_2 {p} back = before_refuses (written 2 p) (λ first. omega (arith, back.edition_same))

-- Of edition 1 the same kinds are known as before,
pub same_kinds : (kind : ℕ) → Known 1 kind ↔ KnownBefore 1 kind
same_kinds kind = (to, from)
  where
    from : KnownBefore 1 kind → Known 1 kind
    from (first, inl e) = (inl first, inl e)
    from (first, inr e) = (inl first, inr (inl e))

    to : Known 1 kind → KnownBefore 1 kind
    to (known, inl e) = (refl, inl e)
    to (known, inr (inl e)) = (refl, inr e)
    to (known, inr (inr e)) = absurd (omega (arith, e.1))

-- so a file of edition 1 has the code that it had
module _ (file : List ℕ) (first : edition_of file ≡ 1) where
  known_then : Known (edition_of file) (kind_in file) → KnownBefore (edition_of file) (kind_in file)
  known_then = rw first (same_kinds (kind_in file)).0

  known_now : KnownBefore (edition_of file) (kind_in file) → Known (edition_of file) (kind_in file)
  known_now = rw first (same_kinds (kind_in file)).1

  pub first_edition_stays : {code : ℕ} → Verdict (lines_of KnownBefore file) code → Verdict (file_lines file) code
  first_edition_stays v = same_lines (to KnownBefore Known known_then) (to Known KnownBefore known_now) v
    where
      to :
          (P Q : ℕ → ℕ → Type 0) → (Q (edition_of file) (kind_in file) → P (edition_of file) (kind_in file))
          → (r : Refusal) → lines_of P file r → lines_of Q file r
      to P Q h r (inl (inl (inl (e, inl none)))) = inl (inl (inl (e, inl none)))
      to P Q h r (inl (inl (inl (e, inr out)))) = inl (inl (inl (e, inr (λ q. out (h q)))))
      to P Q h r (inl (inl (inr x))) = inl (inl (inr x))
      to P Q h r (inl (inr x)) = inl (inr x)
      to P Q h r (inr x) = inr x

      same_lines :
          {a b : Lines} {code : ℕ} → ((r : Refusal) → a r → b r) → ((r : Refusal) → b r → a r) → Verdict a code → Verdict b code
      same_lines there back (accepted clear e) = accepted (λ r h. clear r (back r h)) e
      same_lines there back (rejected r w e) =
          rejected r (record { holds = there r w.holds; smallest = λ other h. w.smallest other (back other h) }) e

-- ---- Known files.

-- A pure delay of 5 as a file,
abbrev pub delay_file : List ℕ
delay_file = 0x23 ∷ 0x00 ∷ 0x00 ∷ 0x50 ∷ []

-- is written so, in edition 2,
pub delay_written : OnlyBytes (writing_server 2 (pure_delay 5)) delay_file
unfolding written byte_count profile_bits fields packed bits_of bytes_of spelt
delay_written = server_written 2 (pure_delay 5) delay_in_2 (λ r h. h.1 (lit≤ tt))

-- read as the pure delay, and as of edition 2,
pub delay_read : OnlyRead delay_file 2 (server (pure_delay 5))
unfolding written byte_count profile_bits fields packed bits_of bytes_of spelt
delay_read = read_written (read_back_server 2 (pure_delay 5) delay_in_2 (lit≤ tt))

-- refused with a padding bit that is 1: 3,
pub delay_padding : OnlyRefused (0x23 ∷ 0x00 ∷ 0x00 ∷ 0x51 ∷ []) 3
unfolding edition_of kind_in field file_bits packed bits_of spelt server_held profile_of bytes_taken byte_count profile_bits fields padding
delay_padding =
    let file : List ℕ = 0x23 ∷ 0x00 ∷ 0x00 ∷ 0x51 ∷ [] in
    only_refused (lit≤ tt)
    (pad_wrong file (record { filled = lit≤ tt; known = delay_in_2 }) refl
    (spelt_one (padding file) (binary_padding file) (lit≤ tt)))

-- and not written in edition 1: 1, whatever its latency
pub no_delay_written : (latency : ℕ) → OnlyRefusedBytes (writing_server 1 (pure_delay latency)) 1
no_delay_written latency = edition_wrong 1 _ (server (pure_delay latency)) (server_up_to (pure_delay latency)) no_delay_in_1

-- The server of P11 in edition 2 differs in the edition alone.
pub server_in_2 : OnlyBytes (writing_server 2 (port 6 1)) (0x22 ∷ 0x00 ∷ 0x00 ∷ 0x60 ∷ 0x00 ∷ 0x01 ∷ [])
unfolding written byte_count profile_bits fields packed bits_of bytes_of spelt
server_in_2 = server_written 2 (port 6 1) rate_in_2 (λ r h. h.1 (omega arith))

-- ---- Wrong answers.

-- the edition dropped on the way out: P11's bytes for edition 2,
pub edition_dropped : {before : List ℕ} {count : ℕ} → WriteServerOutcome 2 (port 6 1) before (over p11_server_file before) 0 count → ⊥
unfolding over
edition_dropped o = let z : ◌≡◌ {A = ℕ} 0x12 0x22 = cc (only_filled server_in_2 o).after_same in omega arith

module _ {before after : List ℕ} {x : Reading} where
  -- or in what is read
  pub edition_not_told : ReadOutcome delay_file before after x → x.edition ≡ 1 → ⊥
  edition_not_told o first = omega (arith, (only_server delay_read o).edition_same)

  -- kind 3 taken in edition 1
  pub delay_taken_in_1 : (rest : List ℕ) → ReadOutcome (0x13 ∷ rest) before after x → x.code ≡ 0 → ⊥
  delay_taken_in_1 rest o none = omega (arith, ((kind_3_in_1 rest).whatever_list o).code_same)

  -- the padding of kind 3 ignored
  pub delay_padding_ignored : ReadOutcome (0x23 ∷ 0x00 ∷ 0x00 ∷ 0x51 ∷ []) before after x → x.code ≡ 0 → ⊥
  delay_padding_ignored o none = omega (arith, (delay_padding.whatever_list o).code_same)

-- ---- Reading in numbers.

-- readings that are the same tell the same numbers
same_numbers : {v w : Reading} {after after' : List ℕ} → SameReading v w after after' → reading_numbers v ≡ reading_numbers w
same_numbers s =
    λ i.
    record {
      code = s.code_same i;
      edition = s.edition_same i;
      kind = s.kind_same i;
      count = s.count_same i;
      rate = (numbers_of (s.server_same i)).rate;
      latency = (numbers_of (s.server_same i)).latency;
    }

module _ (file before : List ℕ) where
  -- it has an outcome,
  pub read_numbers_exist : (after : List ℕ) × (answer : ReadingNumbers) × ReadNumbers file before after answer
  read_numbers_exist =
      let o = read_has_outcome file before in
      (o.after, reading_numbers o.reading, record { reading = o.reading; outcome = o.outcome; numbers_are = refl })

  -- only one,
  pub one_read_numbers :
      {after after' : List ℕ} {answer answer' : ReadingNumbers} → ReadNumbers file before after answer
      → ReadNumbers file before after' answer' → (answer ≡ answer') × (after ≡ after')
  one_read_numbers x y =
      let same = one_read x.outcome y.outcome in
      (x.numbers_are ∙ same_numbers same ∙ sym y.numbers_are, same.after_same)

  -- and a refusal tells 0 for all but the code, and leaves the list
  pub read_refusal :
      {after : List ℕ} {answer : ReadingNumbers} → ReadNumbers file before after answer → answer.code ≢ 0
      → (answer ≡ reading_numbers (refused_as answer.code)) × (after ≡ before)
  read_refusal x some =
      let code = ap (λ (n : ReadingNumbers). n.code) x.numbers_are in
      let kept = refusal_keeps_read x.outcome (λ none. some (code ∙ none)) in (
        x.numbers_are ∙ same_numbers kept ∙ ap (λ (c : ℕ). reading_numbers (refused_as c)) (sym code),
        kept.after_same,
      )
