-- The limits: what `limited` does to a number n. The result is permitted; it is the largest, or n at least; and no smaller permitted count is n at least.
-- Assumes nothing.
use mathlib.Core.Path.{◌≡◌, refl, sym, subst}
use mathlib.Core.Logic.{◌⊎◌, inl, inr}
use Prim.Native.Nat.{ℕ, zero, suc, ◌%◌, ◌≤◌, ◌<◌, min, max}
use native.Mathlib.Nat.{min-eq_left, min-eq_right, le_trans, le_antisymm}
use native.Mathlib.Omega.{arith}
use mathlib.Core.Bool.{Bool, true, false}
use lib.Dec.{T}
use Rattle.ieee.proofs.Logic.{le_or_le}
use Rattle.family.specs.declared.Family.{Family}
use Rattle.family.specs.Family.{smallest_count, largest_count, odd_only, permitted, odd_step, limited}
use Rattle.family.proofs.Range.{Permitted, permitted_says, permitted_if, largest_permitted}

-- ---- the odd step: from m on, odd where it must be, and no more than any other such number
record Stepped (o : Bool) (m n : ℕ) : Type 0 where
  odd : T o → n % 2 ≡ 1
  from : m ≤ n
  first : (k : ℕ) → (T o → k % 2 ≡ 1) → m ≤ k → n ≤ k

odd_step_is : (f : Family) (m : ℕ) → Stepped (odd_only f) m (odd_step f m)
unfolding odd_step
odd_step_is f m = go (odd_only f) (m % 2) refl refl (omega arith)
  where
    go : (o : Bool) (r : ℕ) → odd_only f ≡ o → m % 2 ≡ r → r < 2 → Stepped o m (odd_step f m)
    go false r e q h = rw e (record { odd = λ i. absurd i; from = omega arith; first = λ k i h. h })
    go true zero e q h = rw (e, q) (record { odd = λ i. omega arith; from = omega arith; first = λ k i h. let z = i tt in omega arith })
    go true (suc zero) e q h = rw (e, q) (record { odd = λ i. omega arith; from = omega arith; first = λ k i h. omega arith })
    go true (suc (suc r)) e q h = absurd (omega arith)

-- ---- the limits, n being the number before them
pub record Limited (f : Family) (n s : ℕ) : Type 0 where
  pub allowed : T (permitted f s)
  pub own : (s ≡ largest_count f) ⊎ (n ≤ s)
  pub lowest : (k : ℕ) → T (permitted f k) → n ≤ k → s ≤ k

pub limits : (f : Family) (n : ℕ) → Limited f n (limited f n)
unfolding limited
limits f n = go (odd_step f m) (odd_step_is f m) (largest_permitted f)
  where
    m : ℕ
    m = max n (smallest_count f)

    go : (q : ℕ) → Stepped (odd_only f) m q → Permitted f (largest_count f) → Limited f n (min q (largest_count f))
    go q i l = elim (le_or_le (largest_count f) q) [
      | inl h ↦ subst (λ (s : ℕ). Limited f n s) (sym (min-eq_right h)) (record {
        allowed = permitted_if f (largest_count f) l;
        own = inl refl;
        lowest = lowest_from (largest_count f) h;
      })
      | inr h ↦ subst (λ (s : ℕ). Limited f n s) (sym (min-eq_left h))
          (record {
            allowed = permitted_if f q (record { from = omega arith; to = h; odd = i.odd });
            own = inr (omega arith);
            lowest = lowest_from q (omega arith);
          })
    ]
      where
        lowest_from : (s : ℕ) → s ≤ q → (k : ℕ) → T (permitted f k) → n ≤ k → s ≤ k
        lowest_from s h k t j = let p = permitted_says f k t in le_trans h (i.first k p.odd (omega arith))

-- a number from the largest count on gives the largest count
pub limited_largest : (f : Family) (m : ℕ) → largest_count f ≤ m → limited f m ≡ largest_count f
limited_largest f m h =
    let l = limits f m in
    elim l.own [ inl e ↦ e | inr k ↦ le_antisymm (permitted_says f (limited f m) l.allowed).to (le_trans h k) ]
