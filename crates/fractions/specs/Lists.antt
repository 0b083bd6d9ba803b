-- Lists of fractions: sums and multiples entry by entry, an entry past the end counting as 0. ⊕ ⊗ are operations on fractions: they are exact.
use Rattle.std.specs.Prelude.{◌≡◌, List, [], ◌∷◌, length, ℕ, zero, suc, pos}
use Rattle.fractions.specs.Frac.{Frac, ◌⊕◌, ◌⊗◌, int, ◌≈◌}

infixl 60 ◌⊞◌
infixl 70 ◌·◌
infix 40 ◌≋◌
unfoldable pub nth : List Frac → ℕ → Frac
nth [] k = int (pos 0)
nth (a ∷ p) zero = a
nth (a ∷ p) (suc k) = nth p k

unfoldable pub ◌⊞◌ : List Frac → List Frac → List Frac
[] ⊞ q = q
(a ∷ p) ⊞ [] = a ∷ p
(a ∷ p) ⊞ (b ∷ q) = (a ⊕ b) ∷ (p ⊞ q)

unfoldable pub ◌·◌ : Frac → List Frac → List Frac
k · [] = []
k · (a ∷ p) = (k ⊗ a) ∷ (k · p)

-- equal entry by entry
pub record ◌≋◌ (p q : List Frac) : Type 0 where
  pub lengths : length p ≡ length q
  pub entries : (k : ℕ) → nth p k ≈ nth q k
