-- A phase is read back from its number, so that no two phases have the same one; and a number that is none of 1 to 7 is the empty phase. From the two
-- definitions, phase by phase.
use Prim.Native.Nat.{ℕ}
use mathlib.Core.Path.{◌≡◌, refl, sym, ap, ◌∙◌}
use mathlib.Core.Bool.{true}
use borrow.Author.Tests.{eqb-true, ne_eqb}
use Rattle.driver.specs.declared.Phase.{Phase}
use Rattle.driver.specs.declared.Phase.TheVariants as P
use Rattle.driver.specs.Calls.{phase_number, same_phase}
use Rattle.lent.specs.Numbers.{phase_of}

pub read_back : (p : Phase) → phase_of (phase_number p) ≡ p
unfolding phase_of
read_back P.Empty = refl
read_back P.First = refl
read_back P.Ready = refl
read_back P.Pass = refl
read_back P.Stage = refl
read_back P.Candidate = refl
read_back P.Finished = refl
read_back P.Callback = refl

pub same_phase_is : (p q : Phase) → same_phase p q ≡ true → p ≡ q
same_phase_is p q e = sym (read_back p) ∙ ap phase_of (eqb-true (phase_number p) (phase_number q) e) ∙ read_back q

pub no_other : (k : ℕ) → (k ≡ 1 → ⊥) → (k ≡ 2 → ⊥) → (k ≡ 3 → ⊥) → (k ≡ 4 → ⊥) → (k ≡ 5 → ⊥) → (k ≡ 6 → ⊥) → (k ≡ 7 → ⊥) → P.Empty ≡ phase_of k
unfolding phase_of
no_other k h₁ h₂ h₃ h₄ h₅ h₆ h₇ = rw (ne_eqb k 1 h₁, ne_eqb k 2 h₂, ne_eqb k 3 h₃, ne_eqb k 4 h₄, ne_eqb k 5 h₅, ne_eqb k 6 h₆, ne_eqb k 7 h₇)
