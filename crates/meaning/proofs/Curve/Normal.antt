-- Every list that is not empty has a normal form: its useful buckets, each once, by falling rates. A useful bucket has the value
-- at each fraction, so nothing is lost with the others; and useful buckets of one rate are one bucket, so rates fall strictly.
-- Assumes nothing.
use mathlib.Core.Path.{◌≡◌, refl, sym, ap, subst}
use mathlib.Core.Logic.{◌⊎◌, inl, inr, ⊎_map}
use mathlib.Core.List.Memᴰ
use mathlib.Core.List.{List, [], ◌∷◌}
use Prim.Native.Nat.{◌*◌, ◌≤◌, ◌<◌}
use native.Mathlib.Nat.{le_antisymm, lt_trans, mul-le-mul_left}
use native.Mathlib.Omega.{arith}
use lib.ListN.{length}
use Rattle.meaning.specs.Curve.{Bucket, ◌∈◌, bucket_at, Falling, Useful, NormalForm, SameCurve, NormalOf}
use Rattle.meaning.specs.Computed.{is_useful, insert, chosen, normal}
use Rattle.meaning.proofs.Order.{not_above}
use Rattle.meaning.proofs.Lists.{cons_each}
use Rattle.meaning.proofs.Curve.Value.{same_rate, some, value_least, value_unique}
use Rattle.meaning.proofs.Curve.Lowest.{lowest, same_bucket, useful_fewer}
use Rattle.meaning.proofs.Curve.Usefulness.{cond_holds, picked, useful_sound, useful_complete}

-- f holds those buckets of `among` that are useful in raw, each once, by falling rates.
pub record ChosenAmong (raw among f : List Bucket) : Type 0 where
  pub falling : Falling f
  pub from : (k : Bucket) → k ∈ f → k ∈ among
  pub useful : (k : Bucket) → k ∈ f → Useful raw k
  pub all : (k : Bucket) → k ∈ among → Useful raw k → k ∈ f

-- f holds the useful buckets of raw.
abbrev pub Chosen : List Bucket → List Bucket → Type 0
Chosen raw f = ChosenAmong raw raw f

module _ {raw f : List Bucket} (h : 1 ≤ length raw) (c : Chosen raw f) where
  -- the useful buckets alone have the values
  pub chosen_same : SameCurve raw f
  chosen_same p q hq =
      let l = lowest raw p q hq h in
      sym (value_unique f p q (λ k m. value_least raw p q (c.from k m)) (c.all _ l.inside l.useful) l.value_is)

  -- they are in normal form
  pub chosen_form : NormalForm f
  chosen_form =
      let l = lowest raw 0 1 (omega arith) h in
      record {
        some = some (c.all _ l.inside l.useful);
        falling = c.falling;
        useful = λ k m. useful_fewer c.from (c.useful k m);
      }

  -- so they are the normal form
  pub chosen_normal : NormalOf raw f
  chosen_normal = record { form = chosen_form; same = chosen_same }

module _ {raw : List Bucket} where
  -- no bucket of a useful one's rate has a lower burst
  pub useful_lowest : {k j : Bucket} → Useful raw k → j ∈ raw → k.rate ≡ j.rate → k.burst ≤ j.burst
  unfolding bucket_at
  useful_lowest {k} {j} u m e =
      not_above (λ l.
      let under = u.below j m (λ s. omega (arith, ap (λ (x : Bucket). x.burst) s)) in
      omega (arith, mul-le-mul_left u.q l, ap (λ x. x * u.p) e))

  -- so useful buckets of one rate are one bucket
  pub useful_one :
      {k j : Bucket} → k ∈ raw → j ∈ raw → Useful raw k → Useful raw j → k.rate ≡ j.rate → k ≡ j
  useful_one km jm ku ju e = same_bucket e (le_antisymm (useful_lowest ku jm e) (useful_lowest ju km (sym e)))

-- g is f with the bucket k in its place.
record Inserted (k : Bucket) (f g : List Bucket) : Type 0 where
  falling : Falling g
  has : k ∈ g
  keeps : (i : Bucket) → i ∈ f → i ∈ g
  from : (i : Bucket) → i ∈ g → (i ≡ k) ⊎ (i ∈ f)

module _ {k j : Bucket} {f : List Bucket} (fall : Falling (j ∷ f)) where
  -- before a flatter first one
  inserted_first : j.rate < k.rate → Inserted k (j ∷ f) (k ∷ j ∷ f)
  unfolding Falling
  inserted_first l =
      record {
        falling = (cons_each l (λ i m. lt_trans (fall.0 i m) l), fall);
        has = Memᴰ.head refl;
        keeps = λ i m. Memᴰ.tail m;
        from = λ i m. Memᴰ.cases_cons m;
      }

  -- somewhere behind a steeper first one
  inserted_later : {g : List Bucket} → k.rate < j.rate → Inserted k f g → Inserted k (j ∷ f) (j ∷ g)
  unfolding Falling
  inserted_later {g} l r =
      record {
        falling = (λ i m. elim (r.from i m) [ inl e ↦ omega (arith, same_rate e) | inr n ↦ fall.0 i n ], r.falling);
        has = Memᴰ.tail r.has;
        keeps = cons_each (Memᴰ.head refl) (λ i m. Memᴰ.tail (r.keeps i m));
        from = cons_each (inr (Memᴰ.head refl)) (λ i m. ⊎_map (λ e. e) (λ n. Memᴰ.tail n) (r.from i m));
      }

  -- not at all where it is the first one
  inserted_same : k ≡ j → Inserted k (j ∷ f) (j ∷ f)
  inserted_same e =
      record { falling = fall; has = Memᴰ.head e; keeps = λ i m. m; from = λ i m. inr m }

-- a bucket is put in its place, if it is the only one of its rate
inserted :
    (k : Bucket) (f : List Bucket) → Falling f → ((j : Bucket) → j ∈ f → k.rate ≡ j.rate → k ≡ j)
    → Inserted k f (insert k f)
unfolding insert Falling
inserted k [] fall one =
    record {
      falling = (λ i m. absurd (Memᴰ.not-nil m), fall);
      has = Memᴰ.head refl;
      keeps = λ i m. Memᴰ.tail m;
      from = λ i m. Memᴰ.cases_cons m;
    }
inserted k (j ∷ f) fall one =
    picked (Inserted k (j ∷ f)) _ _ (inserted_first fall)
    (λ l. picked (Inserted k (j ∷ f)) _ _ (λ h. inserted_later fall h (inserted k f fall.1 (λ i m. one i (Memᴰ.tail m))))
    (λ g. inserted_same fall (one j (Memᴰ.head refl) (le_antisymm l g))))

module _ {raw among f : List Bucket} (k : Bucket) (c : ChosenAmong raw among f) where
  -- one bucket more to choose among: a useful one is put in its place
  pub chosen_more :
      ((j : Bucket) → j ∈ (k ∷ among) → j ∈ raw) → Useful raw k → ChosenAmong raw (k ∷ among) (insert k f)
  chosen_more within u =
      record {
        falling = r.falling;
        from = λ i m. elim (r.from i m) [ inl e ↦ Memᴰ.head e | inr n ↦ Memᴰ.tail (c.from i n) ];
        useful = λ i m. elim (r.from i m) [ inl e ↦ subst (Useful raw) (sym e) u | inr n ↦ c.useful i n ];
        all = cons_each (λ v. r.has) (λ i m v. r.keeps i (c.all i m v));
      }
    where
      one : (j : Bucket) → j ∈ f → k.rate ≡ j.rate → k ≡ j
      one j m e =
          useful_one (within k (Memᴰ.head refl)) (within j (Memᴰ.tail (c.from j m))) u (c.useful j m) e

      r : Inserted k f (insert k f)
      r = inserted k f c.falling one

  -- and a useless one changes nothing
  pub chosen_still : (Useful raw k → ⊥) → ChosenAmong raw (k ∷ among) f
  chosen_still useless =
      record {
        falling = c.falling;
        from = λ i m. Memᴰ.tail (c.from i m);
        useful = c.useful;
        all = cons_each (λ v. absurd (useless v)) c.all;
      }

-- the buckets that are worked out are the useful ones
pub chosen_among :
    (raw among : List Bucket) → ((j : Bucket) → j ∈ among → j ∈ raw) → ChosenAmong raw among (chosen raw among)
unfolding chosen Falling
chosen_among raw [] within =
    record { falling = tt; from = λ i m. m; useful = λ i m. absurd (Memᴰ.not-nil m); all = λ i m u. m }
chosen_among raw (k ∷ among) within =
    let c = chosen_among raw among (λ j m. within j (Memᴰ.tail m)) in
    cond_holds (ChosenAmong raw (k ∷ among)) (is_useful raw k) (λ t. chosen_more k c within (useful_sound raw k t))
    (λ t. chosen_still k c (useful_complete raw k t))

-- every list that is not empty has a normal form, and it can be worked out
pub normal_is : (raw : List Bucket) → 1 ≤ length raw → NormalOf raw (normal raw)
unfolding normal
normal_is raw h = chosen_normal h (chosen_among raw raw (λ j m. m))
