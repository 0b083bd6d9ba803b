-- A part of the area that is lent and comes back, said by vectors: one vector of it, by its number, and its first ten. What stands beyond stands.
use mathlib.Core.Path.{◌≡◌, refl, sym, ap, ◌∙◌, fun_ext}
use mathlib.Core.Logic.{◌⊎◌, inl, inr, ⊎_elim}
use mathlib.Core.Bool.{Bool, true, false, cond}
use mathlib.Core.List.{List, [], ◌∷◌, ◌++◌}
use Prim.Native.Nat.{ℕ, zero, suc, ◌+◌, ◌-◌, ◌*◌, ◌≤◌, ◌<◌}
use native.Mathlib.Nat.{suc-add, zero-add, suc-mul, mul-le-mul_right, eq-or-lt_of_le, le_refl}
use native.Mathlib.Omega.{arith}
use borrow.Author.Tests.{eq-eqb, ne_eqb, ltb-true, ltb-false}
use Rattle.std.proofs.Common.{append_assoc}
use borrow.Rule.Slice.PartMut.{put_mid, take_put, drop_put}
use lib.Dec.{eqb, ltb}
use lib.ListN.{length, take, drop, length-drop}
use lib.Seq.{paste, take-nil, take-take, drop-drop, take_at, drop_at, length-take-le, drop-append-le, take-append-le}
use lib.Ieee.{Float}
use Rattle.ieee.proofs.Logic.{le_or_lt}
use Rattle.workspace.specs.declared.Vector.{Vector}
use Rattle.workspace.specs.Vectors.{Vectors, ◌with◌≔◌, number, unpack, extent, beyond, Becomes}
use Rattle.workspace.specs.declared.Vector.TheVariants.{FirstDerivative, LastDerivative, Derivative, PreviousTwo, PreviousOne, NextStage, Eigenvector, PerturbedState, PerturbedDerivative, State, Candidate, OlderState}
use Rattle.workspace.specs.contracts.Vector.{the_type}
use denote.Enum.Declared.{tag_of}
use Rattle.workspace.proofs.Areas.{number_below, room, long_at}

-- ---- what stands from p on in two lists that are the same there, and n elements of it

drop_later : (b p : ℕ) (y z : List Float) → b ≤ p → drop b y ≡ drop b z → drop p y ≡ drop p z
drop_later b p y z h e =
    let q : b + (p - b) ≡ p = omega arith in
    ap (λ (k : ℕ). drop k y) (sym q) ∙ sym (drop-drop (p - b) b y) ∙ ap (drop (p - b)) e ∙ drop-drop (p - b) b z ∙ ap (λ (k : ℕ). drop k z) q

drop_take : (p n : ℕ) (l : List Float) → drop p (take (p + n) l) ≡ take n (drop p l)
drop_take zero n l = ap (λ (k : ℕ). take k l) (zero-add n)
drop_take (suc p) n [] = ap (drop (suc p)) (take-nil (suc p + n)) ∙ sym (take-nil n)
drop_take (suc p) n (x ∷ l) = ap (λ (k : ℕ). drop (suc p) (take k (x ∷ l))) (suc-add p n) ∙ drop_take p n l

module _ (p n : ℕ) (y z : List Float) where
  same_before : (a : ℕ) → p + n ≤ a → take a y ≡ take a z → take n (drop p y) ≡ take n (drop p z)
  same_before a h e =
      sym (drop_take p n y)
      ∙ ap (drop p) (sym (take-take (p + n) a y h) ∙ ap (take (p + n)) e ∙ take-take (p + n) a z h)
      ∙ drop_take p n z

  same_after : (b : ℕ) → b ≤ p → drop b y ≡ drop b z → take n (drop p y) ≡ take n (drop p z)
  same_after b h e = ap (take n) (drop_later b p y z h e)

-- a part that ends within the vectors leaves what stands beyond them
beyond_part : (p e n : ℕ) (a ys : List Float) → p ≤ e → e ≤ extent n → e ≤ length a → length ys ≡ e - p
    → beyond n (put_mid p (e - p) a ys) ≡ beyond n a
beyond_part p e n a ys h within fits long = drop_later e (extent n) (put_mid p (e - p) a ys) a within (drop_put p e a ys h fits long)

-- ---- one vector

width : (k n : ℕ) → k * n + n - k * n ≡ n
width k n = omega arith

-- the code's number of a vector
pub cast : (v : Vector) → tag_of the_type v ≡ number v
cast FirstDerivative = refl
cast LastDerivative = refl
cast Derivative = refl
cast PreviousTwo = refl
cast PreviousOne = refl
cast NextStage = refl
cast Eigenvector = refl
cast PerturbedState = refl
cast PerturbedDerivative = refl
cast State = refl
cast Candidate = refl
cast OlderState = refl

-- what is read
pub read_part : (v : Vector) (k n : ℕ) (a : List Float) → k ≡ number v → take (k * n + n - k * n) (drop (k * n) a) ≡ unpack n a v
unfolding unpack
read_part v k n a e = ap (λ (m : ℕ). take m (drop (k * n) a)) (width k n) ∙ ap (λ (q : ℕ). take n (drop (q * n) a)) e

pub length_part : (v : Vector) (k n : ℕ) (a : List Float) → k ≡ number v → 11 * n ≤ length a → number v < 11
    → length (take (k * n + n - k * n) (drop (k * n) a)) ≡ n
length_part v k n a e h l = ap length (read_part v k n a e) ∙ long_at n a v (omega (arith, room 11 (number v) n l))

-- what is written
module _ (b : Vector) (n : ℕ) (a x : List Float) (long : length x ≡ n) (fits : number b * n + n ≤ length a) where
  back : List Float
  back = put_mid (number b * n) (number b * n + n - number b * n) a x

  here : take n (drop (number b * n) back) ≡ x
  unfolding back
  here =
      ap (take n) (drop_at (take (number b * n) a) (x ++ drop (number b * n + n - number b * n) (drop (number b * n) a)) (number b * n)
      (length-take-le (number b * n) a (omega arith)))
      ∙ take_at x (drop (number b * n + n - number b * n) (drop (number b * n) a)) n long

  there : (q : ℕ) → (q < number b) ⊎ (number b < q) → take n (drop (q * n) back) ≡ take n (drop (q * n) a)
  unfolding back
  there q (inl l) = same_before (q * n) n back a (number b * n) (omega (arith, mul-le-mul_right n l, suc-mul q n))
      (take_put (number b * n) (number b * n + n - number b * n) a x (omega arith))
  there q (inr l) =
      same_after (q * n) n back a (number b * n + n) (omega (arith, mul-le-mul_right n l, suc-mul (number b) n))
      (drop_put (number b * n) (number b * n + n) a x (omega arith) fits (omega arith))

  unpack_back : unpack n back ≡ (unpack n a with b ≔ x)
  unfolding unpack
  unpack_back = fun_ext (λ c. go c (le_or_lt (number b) (number c)))
    where
      apart : (c : Vector) → (number c < number b) ⊎ (number b < number c) → (number b ≡ number c → ⊥)
          → take n (drop (number c * n) back) ≡ cond (eqb (number b) (number c)) x (take n (drop (number c * n) a))
      apart c d e = there (number c) d ∙ sym (ap (λ (t : Bool). cond t x (take n (drop (number c * n) a))) (ne_eqb (number b) (number c) e))

      same : (c : Vector) → number b ≡ number c → take n (drop (number c * n) back) ≡ cond (eqb (number b) (number c)) x (take n (drop (number c * n) a))
      same c e =
          ap (λ (q : ℕ). take n (drop (q * n) back)) (sym e)
          ∙ here
          ∙ sym (ap (λ (t : Bool). cond t x (take n (drop (number c * n) a))) (eq-eqb (number b) (number c) e))

      go : (c : Vector) → (number b ≤ number c) ⊎ (number c < number b)
          → take n (drop (number c * n) back) ≡ cond (eqb (number b) (number c)) x (take n (drop (number c * n) a))
      go c (inr l) = apart c (inl l) (λ (e : number b ≡ number c). omega arith)
      go c (inl l) = ⊎_elim (λ e. same c e) (λ (m : number b < number c). apart c (inr m) (λ (e : number b ≡ number c). omega arith)) (eq-or-lt_of_le l)

pub written_part : (v : Vector) (k n : ℕ) (a : List Float) {ys x : List Float} → k ≡ number v → 11 * n ≤ length a → number v < 11 → length x ≡ n → ys ≡ x
    → Becomes n a (put_mid (k * n) (k * n + n - k * n) a ys) (λ w. w with v ≔ x)
unfolding back
written_part v k n a {ys} {x} q h l long e =
    let r : k * n + n ≤ 11 * n = room 11 k n (rw q l) in
    record {
      vectors =
          ap (λ (y : List Float). unpack n (put_mid (k * n) (k * n + n - k * n) a y)) e
          ∙ ap (λ (m : ℕ). unpack n (put_mid (m * n) (m * n + n - m * n) a x)) q
          ∙ unpack_back v n a x long (omega (arith, room 11 (number v) n l));
      rest = beyond_part (k * n) (k * n + n) n a ys (omega arith) (omega arith) (omega arith) (ap length e ∙ long ∙ sym (width k n));
    }

-- a vector copied onto another
pasted_part : (p k : ℕ) (a s : List Float) → paste a p s k ≡ put_mid p k a (take k s)
pasted_part p k a s = append_assoc (take p a) (take k s) (drop (p + k) a) ∙ ap (λ (r : List Float). take p a ++ (take k s ++ r)) (sym (drop-drop k p a))

pub copied_part : (from to : Vector) (j k n : ℕ) (a : List Float) {m : List Float} → j ≡ number from → k ≡ number to
    → number from * n + n ≤ length a → number to * n + n ≤ length a
    → m ≡ paste a (k * n) (drop (j * n) a) (j * n + n - j * n) → Becomes n a m (λ v. v with to ≔ v from)
unfolding back unpack
copied_part from to j k n a {m} p q lf lt e = record {
  vectors = ap (unpack n) shape ∙ unpack_back to n a (unpack n a from) (long_at n a from lf) lt;
  rest =
      ap (beyond n) shape
      ∙ beyond_part (number to * n) (number to * n + n) n a (unpack n a from) (omega arith) (omega (arith, room 12 (number to) n (number_below to))) lt
      (long_at n a from lf ∙ sym (width (number to) n));
}
  where
    shape : m ≡ put_mid (number to * n) (number to * n + n - number to * n) a (unpack n a from)
    shape =
        e
        ∙ ap (λ (i : ℕ). paste a (k * n) (drop (j * n) a) i) (width j n)
        ∙ pasted_part (k * n) n a (drop (j * n) a)
        ∙ ap (λ (i : ℕ). put_mid (k * n) n a (take n (drop (i * n) a))) p
        ∙ ap (λ (i : ℕ). put_mid (i * n) n a (unpack n a from)) q
        ∙ ap (λ (i : ℕ). put_mid (number to * n) i a (unpack n a from)) (sym (width (number to) n))

-- ---- the first ten vectors: the area up to the candidate

-- the first ten of one, and the others of the other
infixl 10 ◌beside◌
abbrev pub ◌beside◌ : Vectors → Vectors → Vectors
(low beside high) b = cond (ltb (number b) 10) (low b) (high b)

module _ (n : ℕ) (a : List Float) (fits : 11 * n ≤ length a) where
  -- what is lent
  ten_lent : (unpack n (take (10 * n) a) beside unpack n a) ≡ unpack n a
  unfolding unpack
  ten_lent = fun_ext (λ b. go b (ltb (number b) 10) refl)
    where
      go : (b : Vector) (t : Bool) → ltb (number b) 10 ≡ t → cond t (take n (drop (number b * n) (take (10 * n) a))) (take n (drop (number b * n) a))
          ≡ take n (drop (number b * n) a)
      go b true e = same_before (number b * n) n (take (10 * n) a) a (10 * n) (room 10 (number b) n (ltb-true (number b) 10 e))
          (take-take (10 * n) (10 * n) a (le_refl (10 * n)))
      go b false e = refl

  -- and what comes back
  module _ (ys : List Float) (long : length ys ≡ 10 * n) where
    joined : drop (10 * n) (ys ++ drop (10 * n) a) ≡ drop (10 * n) a
    joined = drop_at ys (drop (10 * n) a) (10 * n) long

    ten_back : unpack n (ys ++ drop (10 * n) a) ≡ (unpack n ys beside unpack n a)
    unfolding unpack
    ten_back = fun_ext (λ b. go b (ltb (number b) 10) refl)
      where
        go : (b : Vector) (t : Bool) → ltb (number b) 10 ≡ t → take n (drop (number b * n) (ys ++ drop (10 * n) a))
            ≡ cond t (take n (drop (number b * n) ys)) (take n (drop (number b * n) a))
        go b true e =
            let h : number b * n + n ≤ 10 * n = room 10 (number b) n (ltb-true (number b) 10 e) in
            ap (take n) (drop-append-le (number b * n) ys (drop (10 * n) a) (omega arith))
            ∙ take-append-le n (drop (number b * n) ys) (drop (10 * n) a) (omega (arith, length-drop (number b * n) ys))
        go b false e =
            let h : 10 ≤ number b = ltb-false (number b) 10 e in
            same_after (number b * n) n (ys ++ drop (10 * n) a) a (10 * n) (mul-le-mul_right n h) joined

    -- a step that is done to the ten vectors lent, and leaves the others, is done to all
    pub ten : (f : Vectors → Vectors) → ((v w : Vectors) → f (v beside w) ≡ (f v beside w)) → unpack n ys ≡ f (unpack n (take (10 * n) a))
        → Becomes n a (ys ++ drop (10 * n) a) f
    ten f apart e = record {
      vectors =
          ten_back
          ∙ ap (λ (v : Vectors). v beside unpack n a) e
          ∙ sym (apart (unpack n (take (10 * n) a)) (unpack n a))
          ∙ ap f ten_lent;
      rest = drop_later (10 * n) (extent n) (ys ++ drop (10 * n) a) a (omega arith) joined;
    }
