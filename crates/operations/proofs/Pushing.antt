-- Buckets pushed on a list one after the other, each as its pair of numbers; and the pairs laid out.
-- Assumes nothing.
use mathlib.Core.Path.{◌≡◌, sym, ◌∙◌, ap}
use mathlib.Core.List.{List, [], ◌∷◌, ◌++◌, map, append_assoc, append-nil}
use Prim.Native.Nat.{ℕ, ◌+◌}
use native.Mathlib.Omega.{arith}
use lib.ListN.{length, length-map}
use Rattle.std.proofs.Common.{length-append}
use Rattle.std.specs.List.{flat_map}
use Rattle.meaning.specs.Curve.{Bucket, flat}
use Rattle.settle.specs.Cited.{numbers}
use Rattle.settle.proofs.Pairs.{numbers_are}
use Rattle.operations.specs.Cited.{bucket}

-- The pairs that are pushed, and after them those of the buckets that are left, are those of all.
pub record Pushed (all left : List Bucket) (items : List (List ℕ)) : Type 0 where
  pub whole : items ++ map numbers left ≡ map numbers all

-- nothing is pushed
pub pushed_start : (all : List Bucket) {items : List (List ℕ)} → items ≡ [] → Pushed all all items
pushed_start all none = record { whole = ap (λ (l : List (List ℕ)). l ++ map numbers all) none }

module _ {all left : List Bucket} {items : List (List ℕ)} (w : Pushed all left items) where
  -- how many pairs there are
  pub pushed_count : length items + length left ≡ length all
  pushed_count =
      omega (arith, length-append items (map numbers left), length-map left numbers, length-map all numbers, ap length w.whole)

  -- the next is pushed
  pub pushed_next :
      {rate burst : ℕ} {rest : List Bucket} {longer : List (List ℕ)} → left ≡ bucket rate burst ∷ rest
      → longer ≡ items ++ (rate ∷ burst ∷ []) ∷ [] → Pushed all rest longer
  pushed_next {rate} {burst} {rest} next one =
      record {
        whole =
            ap (λ (l : List (List ℕ)). l ++ map numbers rest) one
            ∙ append_assoc items ((rate ∷ burst ∷ []) ∷ []) (map numbers rest)
            ∙ ap (λ (l : List Bucket). items ++ map numbers l) (sym next)
            ∙ w.whole;
      }

  -- none is left
  pub pushed_end : left ≡ [] → items ≡ map numbers all
  pushed_end none = sym (append-nil items) ∙ ap (λ (l : List Bucket). items ++ map numbers l) (sym none) ∙ w.whole

-- the pairs of buckets, laid out, are their numbers
pub laid_out :
    (f : List Bucket) {items slice : List (List ℕ)} {l : List ℕ} → items ≡ map numbers f → slice ≡ items
    → l ≡ flat_map (λ (pair : List ℕ). pair) slice → l ≡ flat f
laid_out f is same out = out ∙ ap (flat_map (λ (pair : List ℕ). pair)) (same ∙ is) ∙ numbers_are f
