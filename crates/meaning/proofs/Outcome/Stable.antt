-- A bucket in range, all of them in range, a server in range, a list in normal form: each can be decided. So each is stable, and
-- that is what a line of the refusal table that does not hold says: the line holds where it is not so, and what is not "not so"
-- is so.
-- Assumes nothing.
use mathlib.Core.Path.{◌≡◌, refl}
use mathlib.Core.Logic.Dec
use mathlib.Core.HLevel.{dec→stable}
use mathlib.Core.Bool.{Bool, true, false}
use mathlib.Core.List.Memᴰ
use mathlib.Core.List.{List, [], ◌∷◌}
use Prim.Native.Nat.{suc, ◌^◌}
use native.Mathlib.Decide.{dec_le, map_dec}
use native.Mathlib.Omega.{arith}
use Rattle.meaning.specs.Curve.{Bucket, NormalForm}
use Rattle.meaning.specs.Server.{Server, rated, pure_delay}
use Rattle.meaning.specs.Refusal.{InRange, AllInRange}
use Rattle.meaning.specs.ServerQuestions.{ServerInRange}
use Rattle.meaning.specs.Computed.{is_normal}
use Rattle.meaning.proofs.Lists.{cons_each}
use Rattle.meaning.proofs.Curve.Neighbours.{neighbours_sound, neighbours_refute}

-- a bucket is in range or it is not
pub decide_in_range : (k : Bucket) → Dec (InRange k)
decide_in_range k =
    map_dec (λ h. omega arith) (λ r. omega arith) (Dec.and (dec_le (suc k.rate) (2 ^ 20)) (dec_le (suc k.burst) (2 ^ 40)))

-- all buckets of a list are, or they are not
pub decide_all_in_range : (f : List Bucket) → Dec (AllInRange f)
decide_all_in_range [] = yes (λ k m. elim m [ ])
decide_all_in_range (j ∷ f) =
    map_dec (λ h. cons_each h.0 h.1) (λ all. (all j (Memᴰ.head refl), λ k m. all k (Memᴰ.tail m)))
    (Dec.and (decide_in_range j) (decide_all_in_range f))

-- a server is in range or it is not
pub decide_server : (s : Server) → Dec (ServerInRange s)
decide_server (rated s) =
    map_dec (λ h. omega arith) (λ r. omega arith)
    (Dec.and (dec_le 1 s.rate) (Dec.and (dec_le (suc s.rate) (2 ^ 20)) (dec_le (suc s.latency) (2 ^ 20))))
decide_server (pure_delay latency) = dec_le (suc latency) (2 ^ 20)

-- a list is in normal form or it is not
pub decide_normal : (f : List Bucket) → Dec (NormalForm f)
decide_normal f = split (is_normal f) refl
  where
    split : (t : Bool) → is_normal f ≡ t → Dec (NormalForm f)
    split true e = yes (neighbours_sound f e)
    split false e = no (neighbours_refute f e)

-- buckets that are not out of range are in range
pub range_stable : {f : List Bucket} → ((AllInRange f → ⊥) → ⊥) → AllInRange f
range_stable {f} = dec→stable (decide_all_in_range f)

-- so is a server
pub server_stable : (s : Server) → ((ServerInRange s → ⊥) → ⊥) → ServerInRange s
server_stable s = dec→stable (decide_server s)

-- a list that is not out of normal form is in normal form
pub normal_stable : {f : List Bucket} → ((NormalForm f → ⊥) → ⊥) → NormalForm f
normal_stable {f} = dec→stable (decide_normal f)
