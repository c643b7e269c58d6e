-- The normal form is picked bucket by bucket. What is picked at any time is the front of the normal form, up to a bound on the
-- rates: the first bucket below the bound is the next one of the normal form if it is useful, and no bucket of its rate is in
-- the normal form if it is not. Whether it is useful, a search over all buckets decides, and what is left of them decides it.
-- Assumes nothing.
use mathlib.Core.Path.{◌≡◌, refl, sym, ◌∙◌, ap, subst}
use mathlib.Core.Logic.{◌⊎◌, inl, inr}
use mathlib.Core.Bool.{Bool, true, false, ◌&&◌}
use mathlib.Core.List.Memᴰ
use mathlib.Core.List.{List, [], ◌∷◌, ◌++◌, map, append-nil}
use Prim.Native.Nat.{ℕ, ◌+◌, ◌*◌, ◌^◌, ◌≤◌, ◌<◌}
use native.Mathlib.Nat.{mul-le-mul_left, eq-or-lt_of_le}
use native.Mathlib.Omega.{arith}
use borrow.Author.Tests.{lt-ltb}
use lib.ListN.{length, get_or, drop, length-append, drop_of_length-le}
use lib.Seq.{append_snoc}
use Rattle.std.proofs.Common.{Option, Some, None, Result, Ok, Err}
use Rattle.std.specs.Result.{IsOk, IsErr}
use Rattle.std.proofs.lemmas.List.{map-append, length-map}
use Rattle.meaning.proofs.Order.{not_above}
use Rattle.meaning.specs.Curve.{Bucket, ◌∈◌, bucket_at, Falling, Useful}
use Rattle.meaning.specs.Computed.{Ends, every_time, narrowed, is_open, stays_open, is_useful, normal}
use Rattle.meaning.proofs.Curve.Usefulness.{useful_sound, useful_complete}
use Rattle.meaning.proofs.Curve.Normal.{Chosen, chosen_among}
use Rattle.checks.specs.Cited.{bucket_of}
use Rattle.settle.specs.Order.{bucket_in, buckets_in, Ahead, First, Best, Leave}
use Rattle.settle.specs.Cited.{Wide, AllWide, ends_of, Leaves, numbers, Starts, Comes, Bounds, Chose}
use Rattle.checks.specs.declared.Bucket as held_bucket
use Rattle.settle.specs.declared.candidates.Candidates.{Candidates}
use Rattle.settle.specs.declared.ends.Ends as held_ends
use Rattle.settle.proofs.Pairs.{pairs_from}
use Rattle.settle.proofs.Steepest.{longer}
use Rattle.settle.proofs.Ordered.{leave_all}

-- ---- The front of the normal form.

-- the normal form is made of the useful buckets
normal_chosen : (raw : List Bucket) → Chosen raw (normal raw)
unfolding normal
normal_chosen raw = chosen_among raw raw (λ j m. m)

-- rates fall in what follows a front, too
falling_behind : (f g : List Bucket) → Falling (f ++ g) → Falling g
unfolding Falling
falling_behind [] g h = h
falling_behind (k ∷ f) g h = falling_behind f g h.1

-- The normal form in two: rates from the bound up, and below it.
pub record Parted (raw : List Bucket) (bound : ℕ) (front rest : List Bucket) : Type 0 where
  pub whole : front ++ rest ≡ normal raw
  pub steeper : (k : Bucket) → k ∈ front → bound ≤ k.rate
  pub flatter : (k : Bucket) → k ∈ rest → k.rate < bound

pub parted_start : {raw : List Bucket} → AllWide raw → Parted raw (2 ^ 20) [] (normal raw)
parted_start {raw} wide =
    record {
      whole = refl;
      steeper = λ k m. absurd (Memᴰ.not-nil m);
      flatter = λ k m. (wide k ((normal_chosen raw).from k m)).rate_fits;
    }

-- The same with one bucket more in front.
pub record Taken (raw front : List Bucket) (c : Bucket) : Type 0 where
  pub left : List Bucket
  pub parted : Parted raw c.rate (front ++ c ∷ []) left

-- what is left is in the normal form
in_normal :
    {raw : List Bucket} {bound : ℕ} {front rest : List Bucket} → Parted raw bound front rest → {k : Bucket} → k ∈ rest
    → k ∈ normal raw
in_normal {front = front} p {k} m = subst (λ (f : List Bucket). k ∈ f) p.whole (Memᴰ.append_right front m)

module _ {raw : List Bucket} {bound : ℕ} {front : List Bucket} {c : Bucket} (first : First bound raw c) where
  -- of what is left the first one below the bound comes first
  taken_first : (rest : List Bucket) → Parted raw bound front rest → c ∈ rest → Taken raw front c
  unfolding Falling
  taken_first [] p m = absurd (Memᴰ.not-nil m)
  taken_first (k ∷ g) p m = split (Memᴰ.cases_cons m)
    where
      fall : Falling (k ∷ g)
      fall = falling_behind front (k ∷ g) (subst Falling (sym p.whole) (normal_chosen raw).falling)

      next : k ∈ (k ∷ g)
      next = Memᴰ.head refl

      split : (c ≡ k) ⊎ (c ∈ g) → Taken raw front c
      split (inl e) =
          record {
            left = g;
            parted = record {
              whole = append_snoc front c g ∙ ap (λ (j : Bucket). front ++ j ∷ g) e ∙ p.whole;
              steeper = longer (λ (j : Bucket). c.rate ≤ j.rate) {f = front}
                  (λ j i. omega (arith, p.steeper j i, first.below)) (omega arith);
              flatter = λ j i. omega (arith, fall.0 j i, ap (λ (x : Bucket). x.rate) e);
            };
          }
      split (inr n) =
          let ahead = first.ahead k ((normal_chosen raw).from k (in_normal p next)) (p.flatter k next) in
          absurd (omega (arith, fall.0 c n))

module _ {raw : List Bucket} {bound : ℕ} {front rest : List Bucket} (p : Parted raw bound front rest) where
  -- nothing is left below the bound
  pub parted_end : ((k : Bucket) → k ∈ raw → bound ≤ k.rate) → front ≡ normal raw
  parted_end none = split rest refl
    where
      split : (g : List Bucket) → rest ≡ g → front ≡ normal raw
      split [] e = sym (append-nil front) ∙ ap (λ (g : List Bucket). front ++ g) (sym e) ∙ p.whole
      split (k ∷ g) e =
          let m : k ∈ rest = rw e (Memᴰ.head refl) in
          absurd (omega (arith, p.flatter k m, none k ((normal_chosen raw).from k (in_normal p m))))

  module _ {c : Bucket} (first : First bound raw c) where
    -- a useless bucket, of whose rate no bucket is in the normal form
    pub parted_skip : is_useful raw c ≡ false → Parted raw c.rate front rest
    unfolding bucket_at
    parted_skip useless =
        record {
          whole = p.whole;
          steeper = λ k m. omega (arith, p.steeper k m, first.below);
          flatter = λ k m. below k m (first.ahead k ((normal_chosen raw).from k (in_normal p m)) (p.flatter k m));
        }
      where
        same : (k : Bucket) → Useful raw k → Ahead c k → k.rate ≡ c.rate → ⊥
        same k u a e =
            let under = u.below c first.inside (λ s. useful_complete raw c useless (subst (Useful raw) (sym s) u)) in
            omega (arith, mul-le-mul_left u.q (a.lower e), ap (λ (x : ℕ). x * u.p) e)

        near : (k : Bucket) → Useful raw k → Ahead c k → (k.rate ≡ c.rate) ⊎ (k.rate < c.rate) → k.rate < c.rate
        near k u a (inl e) = absurd (same k u a e)
        near k u a (inr l) = l

        below : (k : Bucket) → k ∈ rest → Ahead c k → k.rate < c.rate
        below k m a = near k ((normal_chosen raw).useful k (in_normal p m)) a (eq-or-lt_of_le a.steeper)

    -- a useful bucket is the first of the rest
    pub parted_take : is_useful raw c ≡ true → Taken raw front c
    parted_take useful = taken_first first rest p (split (Memᴰ.append_cases front in_whole))
      where
        in_whole : c ∈ (front ++ rest)
        in_whole =
            subst (λ (f : List Bucket). c ∈ f) (sym p.whole)
            ((normal_chosen raw).all c first.inside (useful_sound raw c useful))

        split : (c ∈ front) ⊎ (c ∈ rest) → c ∈ rest
        split (inl m) = absurd (omega (arith, p.steeper c m, first.below))
        split (inr m) = m

-- ---- The search over one candidate.

-- The ends so far, and the buckets from the one at j on, decide whether the candidate is useful.
pub record Searched (pairs : List (List ℕ)) (c : held_bucket.Bucket) (ends : held_ends.Ends) (j : ℕ) : Type 0 where
  pub candidate : Wide (bucket_of c)
  pub others : AllWide (buckets_in (drop j pairs))
  pub decides :
      stays_open (bucket_of c) (ends_of ends) (buckets_in (drop j pairs)) ≡ is_useful (buckets_in pairs) (bucket_of c)

module _ {pairs : List (List ℕ)} {c : held_bucket.Bucket} {ends : held_ends.Ends} {j : ℕ} (w : Searched pairs c ends j) where
  pub searched_candidate : Wide (bucket_of c)
  searched_candidate = w.candidate

  -- no bucket is left
  pub searched_end : length pairs ≤ j → is_useful (buckets_in pairs) (bucket_of c) ≡ true
  unfolding stays_open
  searched_end h =
      sym w.decides
      ∙ ap (λ (l : List (List ℕ)). stays_open (bucket_of c) (ends_of ends) (buckets_in l)) (drop_of_length-le pairs h)

  module _
      (more : j < length pairs) {pair : List ℕ} (at : pair ≡ get_or pairs j pair) {other : held_bucket.Bucket}
      (is : bucket_of other ≡ bucket_in pair)
    where
      next : buckets_in (drop j pairs) ≡ bucket_of other ∷ buckets_in (drop (j + 1) pairs)
      next =
          pairs_from pairs j pair more
          ∙ ap (λ (k : Bucket). k ∷ buckets_in (drop (j + 1) pairs)) (ap bucket_in (sym at) ∙ sym is)

      here : AllWide (bucket_of other ∷ buckets_in (drop (j + 1) pairs))
      here = subst AllWide next w.others

      -- the next bucket is tried
      pub searched_next : Wide (bucket_of other)
      searched_next = here (bucket_of other) (Memᴰ.head refl)

      now : Ends
      now = narrowed (bucket_of c) (bucket_of other) (ends_of ends)

      next_decides :
          is_open now && stays_open (bucket_of c) now (buckets_in (drop (j + 1) pairs))
          ≡ is_useful (buckets_in pairs) (bucket_of c)
      unfolding stays_open now
      next_decides = ap (stays_open (bucket_of c) (ends_of ends)) (sym next) ∙ w.decides

      module _
          {x : Option held_ends.Ends} (leaves : Leaves (narrowed (bucket_of c) (bucket_of other) (ends_of ends)) x) where
        -- it leaves no time
        pub searched_shut : x ≡ None → is_useful (buckets_in pairs) (bucket_of c) ≡ false
        unfolding now
        searched_shut e =
            let l : Leaves now None = rw e at leaves in
            sym next_decides ∙ ap (λ (t : Bool). t && stays_open (bucket_of c) now (buckets_in (drop (j + 1) pairs))) l.told

        -- it leaves some
        pub searched_step : {left : held_ends.Ends} → x ≡ Some left → Searched pairs c left (j + 1)
        unfolding now is_open
        searched_step {left} e =
            let l : Leaves now (Some left) = rw e at leaves in
            record {
              candidate = w.candidate;
              others = λ k m. here k (Memᴰ.tail m);
              decides =
                  ap (λ (t : Bool). t && stays_open (bucket_of c) (ends_of left) (buckets_in (drop (j + 1) pairs)))
                  (sym (lt-ltb _ _ left.some_time))
                  ∙ ap (λ (e : Ends). is_open e && stays_open (bucket_of c) e (buckets_in (drop (j + 1) pairs))) l.told
                  ∙ next_decides;
            }

-- ---- The buckets picked.

-- no result is both
not_both : {T E : Type 0} (r : Result T E) → IsOk r → IsErr r → ⊥
not_both (Ok x) o e = cc e
not_both (Err x) o e = cc o

-- The pairs chosen are the front of the normal form, with the rates from the bound up, and the candidates that are left are all the
-- buckets below it.
pub record Picked (pairs chosen : List (List ℕ)) (left : Candidates) : Type 0 where
  pub wide : AllWide (buckets_in pairs)
  pub all : Leave left.bound (buckets_in pairs) (buckets_in left.left.now)
  pub front : List Bucket
  pub rest : List Bucket
  pub parted : Parted (buckets_in pairs) left.bound front rest
  pub stands : chosen ≡ map numbers front

pub picked_start :
    {pairs chosen : List (List ℕ)} {left : Candidates} → AllWide (buckets_in pairs) → chosen ≡ [] → Starts pairs left
    → Picked pairs chosen left
picked_start {pairs} wide none s =
    record {
      wide = wide;
      all = rw s.all leave_all;
      front = [];
      rest = normal (buckets_in pairs);
      parted = rw s.bound_is (parted_start wide);
      stands = none;
    }

module _ {pairs chosen : List (List ℕ)} {left : Candidates} (w : Picked pairs chosen left) where
  module _ {found : Option held_bucket.Bucket} {after : Candidates} (comes : Comes left found after) where
    -- no bucket is left below the bound
    pub picked_end : found ≡ None → {E : Type 0} → Chose {Refused = E} (buckets_in pairs) chosen (Ok tt)
    picked_end e {E} =
        let none : Best left.bound (buckets_in left.left.now) None = rw e at comes.best in
        record {
          whole = λ o.
              w.stands
              ∙ ap (map numbers)
              (parted_end w.parted (λ k m. not_above (λ b. absurd (omega (arith, none.told k (w.all.kept k m b))))));
          over_many = λ o. cc o;
        }

    module _ (bounds : Bounds found after) {c : held_bucket.Bucket} (e : found ≡ Some c) where
      first : First left.bound (buckets_in pairs) (bucket_of c)
      first =
          let b : Best left.bound (buckets_in left.left.now) (Some c) = rw e at comes.best in
          record {
            inside = w.all.among _ b.told.inside;
            below = b.told.below;
            ahead = λ k m below. b.told.ahead k (w.all.kept k m below) below;
          }

      pub picked_less : after.bound < left.bound
      picked_less = omega (arith, first.below, bounds.bound_is c e)

      -- the search over the candidate begins
      pub searched_start : {ends : held_ends.Ends} → ends_of ends ≡ every_time → Searched pairs c ends 0
      unfolding is_useful
      searched_start every =
          record { candidate = w.wide _ first.inside; others = w.wide; decides = rw every refl }

      all_left : Leave after.bound (buckets_in pairs) (buckets_in after.left.now)
      all_left =
          record {
            among = λ k m. w.all.among k (comes.left.among k m);
            kept = λ k m b.
                let below : k.rate < left.bound = omega (arith, picked_less) in
                comes.left.kept k (w.all.kept k m below) below;
          }

      -- it is useless
      pub picked_skip : is_useful (buckets_in pairs) (bucket_of c) ≡ false → Picked pairs chosen after
      picked_skip useless =
          record {
            wide = w.wide;
            all = all_left;
            front = w.front;
            rest = w.rest;
            parted = rw (bounds.bound_is c e) (parted_skip w.parted first useless);
            stands = w.stands;
          }

      -- it is useful
      module _ (useful : is_useful (buckets_in pairs) (bucket_of c) ≡ true) where
        taken : Taken (buckets_in pairs) w.front (bucket_of c)
        taken = parted_take w.parted first useful

        -- one more than 64
        pub picked_over :
            length chosen ≡ 64 → {E : Type 0} {r : Result (Unit {0}) E} → IsErr r → {after : List (List ℕ)}
            → Chose (buckets_in pairs) after r
        picked_over full {E} {r} err =
            record {
              whole = λ o. absurd (not_both r o err);
              over_many = λ o.
                  omega (
                    arith,
                    ap length w.stands,
                    length-map w.front numbers,
                    length-append w.front (bucket_of c ∷ []),
                    length-append (w.front ++ bucket_of c ∷ []) taken.left,
                    ap length taken.parted.whole,
                  );
            }

        -- it is written behind the others
        pub picked_take :
            {more : List (List ℕ)} → more ≡ chosen ++ (c.rate ∷ c.burst ∷ []) ∷ [] → Picked pairs more after
        picked_take grown =
            record {
              wide = w.wide;
              all = all_left;
              front = w.front ++ bucket_of c ∷ [];
              rest = taken.left;
              parted =
                  subst (λ (n : ℕ). Parted (buckets_in pairs) n (w.front ++ bucket_of c ∷ []) taken.left)
                  (sym (bounds.bound_is c e)) taken.parted;
              stands =
                  grown
                  ∙ ap (λ (l : List (List ℕ)). l ++ (c.rate ∷ c.burst ∷ []) ∷ []) w.stands
                  ∙ sym (map-append numbers w.front (bucket_of c ∷ []));
            }

pub ruleset picking = (
  searched_start,
  searched_candidate,
  searched_end,
  searched_next,
  searched_shut,
  searched_step,
  picked_start,
  picked_end,
  picked_less,
  picked_skip,
  picked_over,
  picked_take,
)
