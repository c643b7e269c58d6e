-- The figures P1 to P12 and those of the requests, as one table of the written definitions: proofs/Figures.antt proves it. A curve's
-- numbers stand as in a lent list, rate then burst for each bucket; what a file or the program's text holds stands as bytes.
-- Assumes nothing.
use Rattle.std.specs.Prelude.{◌≡◌, List, [], ◌∷◌, ◌++◌, ℕ, ◌≤◌, ◌<◌}
use Rattle.meaning.specs.Curve.{Bucket, buckets, list_of, value_at, reads, value, Burst, NormalOf, Crossing, Sum, link_bucket, Shape}
use Rattle.meaning.specs.Server.{pure_delay, port, join, Behind, Backlog, Delay, Residual}
use Rattle.meaning.specs.Refusal.{PartOutcome}
use Rattle.meaning.specs.ServerQuestions.{passing, BacklogOutcome, DelayOutcome}
use Rattle.meaning.specs.Profile.{curve, server, written}
use Rattle.meaning.specs.Route.{bytes, Route}

-- The curve of most figures.
abbrev pub C : List Bucket
C = buckets (10 ∷ 2 ∷ 3 ∷ 20 ∷ [])

-- A row for each figure of docs/SCOPE.md.
pub record Table : Type 0 where
  -- what normalise makes of five raw buckets, one of them twice
  pub p1 : NormalOf (buckets (3 ∷ 20 ∷ 10 ∷ 2 ∷ 10 ∷ 2 ∷ 5 ∷ 15 ∷ 3 ∷ 25 ∷ [])) C
  -- three buckets that meet at 1: the middle one is of no use
  pub p2 :
      NormalOf (buckets (4 ∷ 0 ∷ 3 ∷ 1 ∷ 2 ∷ 2 ∷ [])) (buckets (4 ∷ 0 ∷ 2 ∷ 2 ∷ []))
      × Crossing (buckets (4 ∷ 0 ∷ 3 ∷ 1 ∷ 2 ∷ 2 ∷ [])) 2 1 1
      × Crossing (buckets (4 ∷ 0 ∷ 3 ∷ 1 ∷ 2 ∷ 2 ∷ [])) 3 1 1
  -- (4,2) is of use at one half only, and is kept
  pub p3 :
      NormalOf (buckets (10 ∷ 0 ∷ 4 ∷ 2 ∷ 0 ∷ 5 ∷ [])) (buckets (10 ∷ 0 ∷ 4 ∷ 2 ∷ 0 ∷ 5 ∷ []))
      × (value_at (buckets (4 ∷ 2 ∷ [])) 1 2 < value_at (buckets (10 ∷ 0 ∷ 0 ∷ 5 ∷ [])) 1 2)
      × ((t : ℕ) → reads (buckets (10 ∷ 0 ∷ 0 ∷ 5 ∷ [])) t ≤ reads (buckets (4 ∷ 2 ∷ [])) t)
  -- two curves added
  pub p4 : Sum C (buckets (4 ∷ 0 ∷ 2 ∷ 2 ∷ [])) (buckets (14 ∷ 2 ∷ 12 ∷ 4 ∷ 5 ∷ 22 ∷ []))
  -- C at the port (6,1)
  pub p5 : Behind C (port 6 1) (buckets (6 ∷ 17 ∷ 3 ∷ 23 ∷ [])) × Backlog C (port 6 1) 17 × Delay C (port 6 1) 3
  -- C at the port (6,4)
  pub p6 : Behind C (port 6 4) (buckets (3 ∷ 32 ∷ [])) × Backlog C (port 6 4) 32 × Delay C (port 6 4) 6
  -- what comes out of it at the port (5,2), and C at the two joined: the same curve, a smaller delay
  pub p7 :
      Behind (buckets (3 ∷ 32 ∷ [])) (port 5 2) (buckets (3 ∷ 38 ∷ []))
      × (join (port 6 4) (port 5 2) ≡ port 5 6)
      × Behind C (port 5 6) (buckets (3 ∷ 38 ∷ []))
      × Delay C (port 5 6) 9
      × Delay (buckets (3 ∷ 32 ∷ [])) (port 5 2) 9
  -- a rate that is just the server's; and one above it, refused by behind (whatever is lent), backlog and delay
  pub p8 :
      Behind (buckets (5 ∷ 7 ∷ [])) (port 5 2) (buckets (5 ∷ 17 ∷ []))
      × Delay (buckets (5 ∷ 7 ∷ [])) (port 5 2) 4
      × ((at room : ℕ) (lent : List ℕ) → PartOutcome (passing (list_of (buckets (6 ∷ 7 ∷ []))) (port 5 2)) at room lent lent 8 0)
      × BacklogOutcome (list_of (buckets (6 ∷ 7 ∷ []))) (port 5 2) 8 0
      × DelayOutcome (list_of (buckets (6 ∷ 7 ∷ []))) (port 5 2) 8 0
  -- a curve that carries nothing, and one without a burst
  pub p9 :
      Backlog (buckets (0 ∷ 0 ∷ [])) (port 5 2) 0
      × Delay (buckets (0 ∷ 0 ∷ [])) (port 5 2) 0
      × Backlog (buckets (5 ∷ 0 ∷ [])) (port 10 3) 15
      × Delay (buckets (5 ∷ 0 ∷ [])) (port 10 3) 3
  -- what C leaves of the port (6,1)
  pub p10 : Residual C (port 6 1) (port 3 5)
  -- a server and a curve as files
  pub p11 :
      (written 1 (server (port 6 1)) ≡ 0x12 ∷ 0x00 ∷ 0x00 ∷ 0x60 ∷ 0x00 ∷ 0x01 ∷ [])
      × (written 1 (curve (buckets (10 ∷ 2 ∷ [])))
      ≡ 0x11 ∷ 0x00 ∷ 0x00 ∷ 0x02 ∷ 0x80 ∷ 0x00 ∷ 0x00 ∷ 0x00 ∷ 0x00 ∷ 0x80 ∷ [])
  -- a route of two hops: all that it prints, and its input as bytes
  pub p12 :
      Route (written 1 (curve C) ++ written 1 (server (port 6 4)) ++ written 1 (server (port 5 2)))
      (bytes "hop 1 32 6\nhop 2 38 9\nroute 38 9\n")
      × (written 1 (curve C) ++ written 1 (server (port 6 4)) ++ written 1 (server (port 5 2))
      ≡ 0x11 ∷ 0x04 ∷ 0x00 ∷ 0x02 ∷ 0x80 ∷ 0x00 ∷ 0x00 ∷ 0x00 ∷ 0x00 ∷ 0x80 ∷ 0x00 ∷ 0x0c ∷ 0x00 ∷ 0x00 ∷ 0x00 ∷ 0x00 ∷ 0x50
      ∷ 0x12 ∷ 0x00 ∷ 0x00 ∷ 0x60 ∷ 0x00 ∷ 0x04
      ∷ 0x12 ∷ 0x00 ∷ 0x00 ∷ 0x50 ∷ 0x00 ∷ 0x02 ∷ [])
  -- at tick 0 the value of C is 0, and its burst is 2; what carries nothing has burst 0; a burst without a rate is held, and takes a
  -- tick
  pub at_once :
      (value C 0 ≡ 0)
      × Burst C 2
      × Burst (buckets (0 ∷ 0 ∷ [])) 0
      × Backlog (buckets (0 ∷ 5 ∷ [])) (port 10 0) 5
      × Delay (buckets (0 ∷ 5 ∷ [])) (port 10 0) 1
  -- {(3,20)} shaped by a link of rate 10, bit by bit and in frames of up to 2 bits, which gives C; and C by that link, which it obeys,
  -- and by one with frames that are a bit shorter
  pub frames :
      Shape (buckets (3 ∷ 20 ∷ [])) (link_bucket 10 0) (buckets (10 ∷ 0 ∷ 3 ∷ 20 ∷ []))
      × Shape (buckets (3 ∷ 20 ∷ [])) (link_bucket 10 2) C
      × Shape C (link_bucket 10 2) C
      × Shape C (link_bucket 10 1) (buckets (10 ∷ 1 ∷ 3 ∷ 20 ∷ []))
  -- C at a pure delay of 4
  pub delayed : Behind C (pure_delay 4) (buckets (3 ∷ 32 ∷ [])) × Backlog C (pure_delay 4) 32 × Delay C (pure_delay 4) 4
  -- the port (6,1) joined with a pure delay of 3, either way round, and two pure delays joined; C through the port and then the delay
  -- is as late as at the port (6,4)
  pub joined_delays :
      (join (port 6 1) (pure_delay 3) ≡ port 6 4)
      × (join (pure_delay 3) (port 6 1) ≡ port 6 4)
      × (join (pure_delay 2) (pure_delay 3) ≡ pure_delay 5)
      × Delay C (join (port 6 1) (pure_delay 3)) 6
  -- what carries nothing is not delayed, whatever the pure delay
  pub nothing_delayed : (latency : ℕ) → Delay (buckets (0 ∷ 0 ∷ [])) (pure_delay latency) 0
  -- a pure delay of 5 as a file of edition 2
  pub delay_file : written 2 (server (pure_delay 5)) ≡ 0x23 ∷ 0x00 ∷ 0x00 ∷ 0x50 ∷ []
  -- a route of both kinds and both editions
  pub mixed :
      Route (written 2 (curve C) ++ written 1 (server (port 6 1)) ++ written 2 (server (pure_delay 3)))
      (bytes "hop 1 17 3\nhop 2 32 3\nroute 32 6\n")
