-- An answer written into a part of a table, and what the whole table then is.
-- Assumes nothing.
use mathlib.Core.Path.{◌≡◌, refl, sym, ◌∙◌, ap}
use mathlib.Core.Logic.{◌⊎◌, inl, inr}
use mathlib.Core.List.{List, ◌++◌, append-nil, append_assoc}
use Prim.Native.Nat.{ℕ, ◌-◌, ◌≤◌, ◌<◌, min}
use native.Mathlib.Nat.{le_of_lt}
use native.Mathlib.Omega.{arith}
use lib.ListN.{length, take, drop, length-append, length-take, length-drop, take-append-drop, drop_of_length-le}
use lib.Seq.{length-take-le, take_all, take_at, drop_at, drop-append-le}
use Rattle.meaning.specs.Refusal.{ROOM, number, over, part}
use Rattle.meaning.proofs.Order.{le_or_lt}
use Rattle.settle.specs.Cited.{Placed}
use Rattle.settle.proofs.Copying.{tail_over}

-- ---- The part of the table.

-- how many numbers the part has
part_length : (at room : ℕ) (table : List ℕ) → length (part at room table) ≡ min room (length table - at)
unfolding part
part_length at room table = length-take room (drop at table) ∙ ap (min room) (length-drop at table)

-- the part is too short
short_placed :
    (answer : List ℕ) (at room : ℕ) (table : List ℕ) → min room (length table - at) < length answer
    → Placed answer at room table table (number ROOM)
unfolding number
short_placed answer at room table h =
    record {
      fits = λ t. absurd (omega (arith, t));
      stands = λ t. absurd (omega (arith, t));
      short = λ n. rw part_length h;
      is_room = λ n. refl;
      stays = λ n. refl;
    }

module _ {answer : List ℕ} {at room : ℕ} {table : List ℕ} where
  -- it begins past the table's end
  pub placed_outside : 1 ≤ length answer → length table < at → Placed answer at room table table (number ROOM)
  placed_outside some h = short_placed answer at room table (omega arith)

  -- it has too few numbers
  pub placed_narrow : room < length answer → Placed answer at room table table (number ROOM)
  placed_narrow h = short_placed answer at room table (omega arith)

  -- the table ends too soon
  pub placed_cut : length table - at < length answer → Placed answer at room table table (number ROOM)
  placed_cut h = short_placed answer at room table (omega arith)

  -- the answer is written
  pub placed_written :
      {now : List ℕ} → length answer ≤ room → length answer ≤ length table - at
      → now ≡ over answer (take (length table - at) (drop at table))
      → Placed answer at room table (take at table ++ (now ++ drop (length table - at) (drop at table))) 0
  placed_written {now} wide long written =
      record {
        fits = λ t. rw part_length (omega arith);
        stands = λ t. tail_over answer at table (length table - at) (omega arith) written;
        short = λ n. absurd (n refl);
        is_room = λ n. absurd (n refl);
        stays = λ n. absurd (n refl);
      }

pub ruleset placing = (placed_outside, placed_narrow, placed_cut, placed_written)

-- ---- The table once the answer is written.

over_length : (answer l : List ℕ) → length answer ≤ length l → length (over answer l) ≡ length l
unfolding over
over_length answer l h = omega (arith, length-append answer (drop (length answer) l), length-drop (length answer) l)

-- what is written over a list that begins with enough numbers is written over those
over_front :
    (answer l : List ℕ) (room : ℕ) → length answer ≤ length (take room l)
    → over answer l ≡ over answer (take room l) ++ drop room l
unfolding over
over_front answer l room h =
    ap (λ (m : List ℕ). answer ++ drop (length answer) m) (sym (take-append-drop room l))
    ∙ ap (λ (m : List ℕ). answer ++ m) (drop-append-le (length answer) (take room l) (drop room l) h)
    ∙ sym (append_assoc answer (drop (length answer) (take room l)) (drop room l))

-- as many numbers as a list has at its start, put there, are read back
front_back : (p l : List ℕ) (room : ℕ) → length p ≡ length (take room l) → take room (p ++ drop room l) ≡ p
front_back p l room e = split (le_or_lt room (length l))
  where
    split : (room ≤ length l) ⊎ (length l < room) → take room (p ++ drop room l) ≡ p
    split (inl h) = take_at p (drop room l) room (e ∙ length-take-le room l h)
    split (inr h) =
        ap (λ (m : List ℕ). take room (p ++ m)) (drop_of_length-le l (le_of_lt h))
        ∙ ap (take room) (append-nil p)
        ∙ take_all room p (omega (arith, length-take room l))

module _
    {answer : List ℕ} {at room : ℕ} {table after : List ℕ} {code : ℕ} (p : Placed answer at room table after code)
    (t : code ≡ 0) (some : 1 ≤ length answer) where
  -- in the part the answer stands over what was there
  pub part_after : part at room after ≡ over answer (part at room table)
  unfolding part
  part_after =
      ap (λ (l : List ℕ). take room (drop at l)) (p.stands t)
      ∙ ap (take room)
      (drop_at (take at table) _ at (length-take-le at table inside) ∙ over_front answer (drop at table) room (p.fits t))
      ∙ front_back (over answer (take room (drop at table))) (drop at table) room
      (over_length answer (take room (drop at table)) (p.fits t))
    where
      inside : at ≤ length table
      inside = omega (arith, part_length at room table, p.fits t)

  -- nothing outside the part is changed
  pub outside_after : after ≡ take at table ++ part at room after ++ drop room (drop at table)
  unfolding part
  outside_after =
      p.stands t
      ∙ ap (λ (l : List ℕ). take at table ++ l) (over_front answer (drop at table) room (p.fits t))
      ∙ sym (append_assoc (take at table) (over answer (take room (drop at table))) (drop room (drop at table)))
      ∙ ap (λ (l : List ℕ). take at table ++ l ++ drop room (drop at table)) (sym part_after)
