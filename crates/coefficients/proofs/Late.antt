-- RKG2's b from stage 2 on. Assumes nothing. ⊕ ⊖ ⊗ ⊘ are operations on doubles: they round.
use Rattle.std.proofs.Common.{◌≡◌, ℕ, zero, suc, ◌≤◌, refl, arith}
use Rattle.ieee.specs.Double.{◌⊕◌, ◌⊖◌, ◌⊗◌, ◌⊘◌, double, one, two, three, four}
use Rattle.coefficients.specs.Rows.{gegenbauer_two_b}

pub late : (j : ℕ) → 2 ≤ j → gegenbauer_two_b j ≡
    four ⊗ (double j ⊖ one) ⊗ (double j ⊕ four) ⊘ (three ⊗ double j ⊗ (double j ⊕ one) ⊗ (double j ⊕ two) ⊗ (double j ⊕ three))
unfolding gegenbauer_two_b
late zero h = absurd (omega arith)
late (suc zero) h = absurd (omega arith)
late (suc (suc i)) h = refl
