-- The families by their numbers: what holds of family 7 alone. Assumes nothing.
use mathlib.Core.Path.{◌≡◌, refl}
use Prim.Native.Nat.{ℕ}
use borrow.Author.Tests.{eqb-true}
use lib.Dec.{eqb}
use mathlib.Core.Bool.{Bool, true, false, cond, ◌&&◌}
use Rattle.family.specs.declared.Family.{Family}
use Rattle.family.specs.declared.Family.TheVariants.{RKC, RKL1, RKL2, RKG1, RKG2, RKMC2, TSRKC2}
use Rattle.family.specs.Family.{family_of}

-- what holds of TSRKC2 alone, by the number
pub seven_alone : (P : Family → Bool) → P RKC ≡ false → P RKL1 ≡ false → P RKL2 ≡ false → P RKG1 ≡ false → P RKG2 ≡ false → P RKMC2 ≡ false → (k : ℕ)
    → P (family_of k) ≡ eqb k 7 && P TSRKC2
unfolding family_of
seven_alone P h₁ h₂ h₃ h₄ h₅ h₆ k = by_seven (eqb k 7) refl
  where
    others : (a b c d e : Bool) → P (cond a RKC (cond b RKL1 (cond c RKL2 (cond d RKG1 (cond e RKMC2 RKG2))))) ≡ false
    others true b c d e = h₁
    others false true c d e = h₂
    others false false true d e = h₃
    others false false false true e = h₄
    others false false false false true = h₆
    others false false false false false = h₅

    by_seven : (t : Bool) → eqb k 7 ≡ t
        → P (cond (eqb k 1) RKC (cond (eqb k 2) RKL1 (cond (eqb k 3) RKL2 (cond (eqb k 4) RKG1 (cond (eqb k 6) RKMC2 (cond t TSRKC2 RKG2))))))
        ≡ t && P TSRKC2
    by_seven true e = let is : k ≡ 7 = eqb-true k 7 e in rw is
    by_seven false e = others (eqb k 1) (eqb k 2) (eqb k 3) (eqb k 4) (eqb k 6)
