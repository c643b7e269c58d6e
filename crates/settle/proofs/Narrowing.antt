-- The search over one candidate: how a bucket more narrows the times that are left, case by case as code meets them.
-- Assumes nothing.
use mathlib.Core.Path.{◌≡◌, refl, sym, ◌∙◌}
use mathlib.Core.Bool.{Bool, true, false}
use Prim.Native.Nat.{◌*◌, ◌≤◌, ◌<◌}
use native.Mathlib.Omega.{arith}
use lib.Dec.{ltb}
use borrow.Author.Tests.{lt-ltb, le-ltb}
use Rattle.std.proofs.Common.{Option, Some, None}
use Rattle.meaning.specs.Curve.{Bucket}
use Rattle.meaning.specs.Computed.{after_steeper, before_flatter, beside_equal, narrowed, is_open}
use Rattle.settle.specs.Cited.{between, ends_of, Crosses, after, before, Leaves}
use Rattle.settle.specs.declared.ends.Ends as held_ends
use Rattle.settle.specs.declared.ends.Time.{Time}

-- where no end moves, the times are left as they were
pub left_as_before : {e : held_ends.Ends} → Leaves (ends_of e) (Some e)
left_as_before = record { told = refl }

-- between two times there is none
pub left_none :
    (low high : Time) {some : Bool} → some ≡ ltb (low.ticks * high.over) (high.ticks * low.over) → some ≡ false
    → Leaves (between low high) None
unfolding is_open
left_none low high t h = record { told = sym t ∙ h }

-- only what is after a time is left, or only what is before it: the end moves, or not
module _ (e : held_ends.Ends) (t : Time) {moves : Bool} where
  module _ (told : moves ≡ ltb (e.low.ticks * t.over) (t.ticks * e.low.over)) where
    pub after_moved : {x : Option held_ends.Ends} → moves ≡ true → Leaves (between t e.high) x → Leaves (after e t) x
    after_moved h l = simp (← told, h) l

    pub after_same : moves ≡ false → Leaves (after e t) (Some e)
    after_same h = simp (← told, h) left_as_before

  module _ (told : moves ≡ ltb (t.ticks * e.high.over) (e.high.ticks * t.over)) where
    pub before_moved : {x : Option held_ends.Ends} → moves ≡ true → Leaves (between e.low t) x → Leaves (before e t) x
    before_moved h l = simp (← told, h) l

    pub before_same : moves ≡ false → Leaves (before e t) (Some e)
    before_same h = simp (← told, h) left_as_before

module _ (c j : Bucket) (e : held_ends.Ends) where
  -- a steeper bucket, and a flatter one
  module _ {t : Time} {x : Option held_ends.Ends} where
    pub narrowed_steeper : c.rate < j.rate → Crosses j c t → Leaves (after e t) x → Leaves (narrowed c j (ends_of e)) x
    unfolding narrowed after_steeper
    narrowed_steeper h k l = simp (lt-ltb _ _ h, ← k.ticks_are, ← k.over_is) l

    pub narrowed_flatter :
        j.rate ≤ c.rate → j.rate < c.rate → Crosses c j t → Leaves (before e t) x → Leaves (narrowed c j (ends_of e)) x
    unfolding narrowed before_flatter
    narrowed_flatter g h k l = simp (le-ltb _ _ g, lt-ltb _ _ h, ← k.ticks_are, ← k.over_is) l

  -- one of the same rate, lower or not
  module _ (g : j.rate ≤ c.rate) (h : c.rate ≤ j.rate) where
    pub narrowed_lower : j.burst < c.burst → Leaves (narrowed c j (ends_of e)) None
    unfolding narrowed beside_equal is_open
    narrowed_lower l = simp (le-ltb _ _ g, le-ltb _ _ h, lt-ltb _ _ l) (record { told = le-ltb _ _ (omega arith) })

    pub narrowed_higher : c.burst ≤ j.burst → Leaves (narrowed c j (ends_of e)) (Some e)
    unfolding narrowed beside_equal
    narrowed_higher l = simp (le-ltb _ _ g, le-ltb _ _ h, le-ltb _ _ l) left_as_before

pub ruleset narrowing = (
  left_none,
  after_moved,
  after_same,
  before_moved,
  before_same,
  narrowed_steeper,
  narrowed_flatter,
  narrowed_lower,
  narrowed_higher,
)
