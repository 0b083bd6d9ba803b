-- The derivatives of the Chebyshev polynomials T by values alone, at every point w and every degree j. With U_j, the polynomials of the second
-- kind: T and U of degree i + j by those of i and j, T'_j = j U_j, and (w² − 1) T''_j = j (j T_j − w U_j). From the recurrences; assumes nothing.
-- ⊕ ⊖ ⊗ are operations on fractions: they are exact.
use mathlib.Core.Path.{sym, subst}
use mathlib.Core.List.{[], ◌∷◌}
use Prim.Native.Nat.{ℕ, zero, suc, ◌+◌}
use native.Mathlib.Nat.{zero-add, suc-add}
use native.Mathlib.Omega.{arith}
use lib.IntN.{pos, negsuc}
use Rattle.fractions.specs.Frac.{Frac, ◌⊕◌, ◌⊗◌, ◌⊖◌, int, ◌≈◌}
use Rattle.fractions.proofs.FracLaws.{ring}
use Rattle.fractions.proofs.Ring.{Expr, var, con, ◌:+◌, ◌:*◌, ◌:-◌, neg}
use Rattle.fractions.proofs.Combine.{given, combine, ◌▹◌, 1#, 0ₑ, 1ₑ, 2ₑ}
use Rattle.fractions.proofs.Values.{nat, nat_+, nat_is}
use Rattle.rkc_omega_one.specs.Chebyshev.{chebyshev, first, second}

-- U_j, of degree j − 1, and 0 where j is 0
unfoldable pub other : Frac → ℕ → Frac
other w zero = int (pos 0)
other w (suc zero) = int (pos 1)
other w (suc (suc j)) = int (pos 2) ⊗ w ⊗ other w (suc j) ⊖ other w j

nat_suc : (j : ℕ) → nat (suc j) ≈ 1# ⊕ nat j
nat_suc j = nat_is (suc j) (1 + j) (omega arith) ▹ nat_+ 1 j

-- w² − 1, where w is the first value
abbrev pub gapₑ : Expr
gapₑ = var 0 :* var 0 :- 1ₑ

abbrev 3ₑ : Expr
3ₑ = con (pos 3)

abbrev 4ₑ : Expr
4ₑ = con (pos 4)

abbrev pub minus_oneₑ : Expr
minus_oneₑ = con (negsuc 0)

-- ---- one degree more, and a sum of degrees
pub record Next (w : Frac) (j : ℕ) : Type 0 where
  pub next_value : chebyshev w (suc j) ≈ w ⊗ chebyshev w j ⊕ (w ⊗ w ⊖ 1#) ⊗ other w j
  pub next_other : other w (suc j) ≈ w ⊗ other w j ⊕ chebyshev w j

pub next : (w : Frac) (j : ℕ) → Next w j
unfolding chebyshev other
next w zero = record {
  next_value = ring (w ∷ []) (var 0) (var 0 :* 1ₑ :+ gapₑ :* 0ₑ) tt;
  next_other = ring (w ∷ []) 1ₑ (var 0 :* 0ₑ :+ 1ₑ) tt;
}
next w (suc j) =
    let h = next w j in
    let ρ = w ∷ chebyshev w j ∷ chebyshev w (suc j) ∷ other w j ∷ other w (suc j) ∷ [] in
    record {
      next_value =
          combine ρ (2ₑ :* var 0 :* var 2 :- var 1) (var 0 :* var 2 :+ gapₑ :* var 4)
          (given (var 0) (var 2) (var 0 :* var 1 :+ gapₑ :* var 3) h.next_value
          ∷ given (neg gapₑ) (var 4) (var 0 :* var 3 :+ var 1) h.next_other
          ∷ []) tt;
      next_other =
          combine ρ (2ₑ :* var 0 :* var 4 :- var 3) (var 0 :* var 4 :+ var 2)
          (given minus_oneₑ (var 2) (var 0 :* var 1 :+ gapₑ :* var 3) h.next_value
          ∷ given (var 0) (var 4) (var 0 :* var 3 :+ var 1) h.next_other
          ∷ []) tt;
    }

-- k is i + j
pub record Sum (w : Frac) (i j k : ℕ) : Type 0 where
  pub sum_value : chebyshev w k ≈ chebyshev w i ⊗ chebyshev w j ⊕ (w ⊗ w ⊖ 1#) ⊗ (other w i ⊗ other w j)
  pub sum_other : other w k ≈ chebyshev w i ⊗ other w j ⊕ other w i ⊗ chebyshev w j

one_more : (w : Frac) (i j k : ℕ) → Sum w i j k → Sum w (suc i) j (suc k)
one_more w i j k h =
    let a = next w i in
    let b = next w k in
    let ρ = w ∷ chebyshev w i ∷ other w i ∷ chebyshev w (suc i) ∷ other w (suc i) ∷ chebyshev w j ∷ other w j ∷ chebyshev w k ∷ other w k
    ∷ chebyshev w (suc k) ∷ other w (suc k) ∷ [] in
    record {
      sum_value =
          combine ρ (var 9) (var 3 :* var 5 :+ gapₑ :* (var 4 :* var 6))
          (given 1ₑ (var 9) (var 0 :* var 7 :+ gapₑ :* var 8) b.next_value
          ∷ given (var 0) (var 7) (var 1 :* var 5 :+ gapₑ :* (var 2 :* var 6)) h.sum_value
          ∷ given gapₑ (var 8) (var 1 :* var 6 :+ var 2 :* var 5) h.sum_other
          ∷ given (neg (var 5)) (var 3) (var 0 :* var 1 :+ gapₑ :* var 2) a.next_value
          ∷ given (neg (gapₑ :* var 6)) (var 4) (var 0 :* var 2 :+ var 1) a.next_other
          ∷ []) tt;
      sum_other =
          combine ρ (var 10) (var 3 :* var 6 :+ var 4 :* var 5)
          (given 1ₑ (var 10) (var 0 :* var 8 :+ var 7) b.next_other
          ∷ given 1ₑ (var 7) (var 1 :* var 5 :+ gapₑ :* (var 2 :* var 6)) h.sum_value
          ∷ given (var 0) (var 8) (var 1 :* var 6 :+ var 2 :* var 5) h.sum_other
          ∷ given (neg (var 6)) (var 3) (var 0 :* var 1 :+ gapₑ :* var 2) a.next_value
          ∷ given (neg (var 5)) (var 4) (var 0 :* var 2 :+ var 1) a.next_other
          ∷ []) tt;
    }

pub sum : (w : Frac) (i j : ℕ) → Sum w i j (i + j)
unfolding chebyshev other
sum w zero j = subst (λ (k : ℕ). Sum w 0 j k) (sym (zero-add j)) (record {
  sum_value = ring (w ∷ chebyshev w j ∷ other w j ∷ []) (var 1) (1ₑ :* var 1 :+ gapₑ :* (0ₑ :* var 2)) tt;
  sum_other = ring (w ∷ chebyshev w j ∷ other w j ∷ []) (var 2) (1ₑ :* var 2 :+ 0ₑ :* var 1) tt;
})
sum w (suc i) j = subst (λ (k : ℕ). Sum w (suc i) j k) (sym (suc-add i j)) (one_more w i j (i + j) (sum w i j))

-- ---- the derivatives
pub first_is : (w : Frac) (j : ℕ) → first w j ≈ nat j ⊗ other w j
unfolding chebyshev other first
first_is w zero = ring [] 0ₑ (0ₑ :* 0ₑ) tt
first_is w (suc zero) = ring [] 1ₑ (1ₑ :* 1ₑ) tt
first_is w (suc (suc j)) =
    let h = next w j in
    -- U_{j + 2}
    let u = 2ₑ :* var 0 :* var 7 :- var 6 in
    combine (w ∷ nat j ∷ nat (suc j) ∷ nat (suc (suc j)) ∷ chebyshev w j ∷ chebyshev w (suc j) ∷ other w j ∷ other w (suc j) ∷ first w j ∷ first w (suc j) ∷ [])
    (2ₑ :* var 0 :* var 9 :- var 8 :+ 2ₑ :* var 5) (var 3 :* u)
    (given (2ₑ :* var 0) (var 9) (var 2 :* var 7) (first_is w (suc j))
    ∷ given minus_oneₑ (var 8) (var 1 :* var 6) (first_is w j)
    ∷ given (2ₑ :* var 0 :* var 7 :- u) (var 2) (1ₑ :+ var 1) (nat_suc j)
    ∷ given (neg u) (var 3) (1ₑ :+ var 2) (nat_suc (suc j))
    ∷ given 2ₑ (var 5) (var 0 :* var 4 :+ gapₑ :* var 6) h.next_value
    ∷ given (neg (2ₑ :* var 0)) (var 7) (var 0 :* var 6 :+ var 4) h.next_other
    ∷ []) tt

pub second_is : (w : Frac) (j : ℕ) → (w ⊗ w ⊖ 1#) ⊗ second w j ≈ nat j ⊗ (nat j ⊗ chebyshev w j ⊖ w ⊗ other w j)
unfolding chebyshev other first second
second_is w zero = ring (w ∷ []) (gapₑ :* 0ₑ) (0ₑ :* (0ₑ :* 1ₑ :- var 0 :* 0ₑ)) tt
second_is w (suc zero) = ring (w ∷ []) (gapₑ :* 0ₑ) (1ₑ :* (1ₑ :* var 0 :- var 0 :* 1ₑ)) tt
second_is w (suc (suc j)) =
    let h = next w j in
    -- T_{j + 2} and U_{j + 2}
    let t = 2ₑ :* var 0 :* var 5 :- var 4 in
    let u = 2ₑ :* var 0 :* var 7 :- var 6 in
    combine (w ∷ nat j ∷ nat (suc j) ∷ nat (suc (suc j)) ∷ chebyshev w j ∷ chebyshev w (suc j) ∷ other w j ∷ other w (suc j) ∷ first w (suc j) ∷ second w j
    ∷ second w (suc j) ∷ [])
    (gapₑ :* (2ₑ :* var 0 :* var 10 :- var 9 :+ 4ₑ :* var 8)) (var 3 :* (var 3 :* t :- var 0 :* u))
    (given (2ₑ :* var 0) (gapₑ :* var 10) (var 2 :* (var 2 :* var 5 :- var 0 :* var 7)) (second_is w (suc j))
    ∷ given minus_oneₑ (gapₑ :* var 9) (var 1 :* (var 1 :* var 4 :- var 0 :* var 6)) (second_is w j)
    ∷ given (4ₑ :* gapₑ) (var 8) (var 2 :* var 7) (first_is w (suc j))
    ∷ given (neg ((var 3 :+ 1ₑ :+ var 2) :* t :- var 0 :* u)) (var 3) (1ₑ :+ var 2) (nat_suc (suc j))
    ∷ given ((var 2 :+ 1ₑ :+ var 1) :* (2ₑ :* var 0 :* var 5) :+ (4ₑ :* gapₑ :- 2ₑ :* var 0 :* var 0) :* var 7 :- (var 2 :+ var 1 :+ 3ₑ) :* t :+ var 0 :* u)
    (var 2) (1ₑ :+ var 1) (nat_suc j)
    ∷ given (neg (2ₑ :* var 0 :* (2ₑ :* var 1 :+ 3ₑ))) (var 5) (var 0 :* var 4 :+ gapₑ :* var 6) h.next_value
    ∷ given (2ₑ :* var 0 :* var 0 :* (2ₑ :* var 1 :+ 3ₑ) :- 4ₑ :* (var 1 :+ 1ₑ)) (var 7) (var 0 :* var 6 :+ var 4) h.next_other
    ∷ []) tt
