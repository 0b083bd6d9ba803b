-- An equation of fractions from given ones: l ≈ r, where l − r is the sum of each given side − other times a factor, by evaluation.
-- ⊕ ⊖ ⊗ are operations on fractions: they are exact.
use mathlib.Core.List.{List, [], ◌∷◌}
use lib.Dec.{T}
use lib.IntN.{pos}
use Rattle.fractions.specs.Frac.{Frac, ◌⊕◌, ◌⊗◌, ◌⊖◌, opp, int, ◌≈◌}
use Rattle.fractions.proofs.Ring.{Expr, var, con, ◌:+◌, ◌:*◌, ◌:-◌, norm, vanishes, value}
use Rattle.fractions.proofs.FracLaws.{ring, ≈-refl, ≈-trans, ⊕-cong, ⊗-cong, equal}

infixl 30 ◌▹◌
pub ◌▹◌ : {a b c : Frac} → a ≈ b → b ≈ c → a ≈ c
p ▹ q = ≈-trans p q

abbrev pub 0# : Frac
0# = int (pos 0)

abbrev pub 1# : Frac
1# = int (pos 1)

abbrev pub 0ₑ : Expr
0ₑ = con (pos 0)

abbrev pub 1ₑ : Expr
1ₑ = con (pos 1)

abbrev pub 2ₑ : Expr
2ₑ = con (pos 2)

abbrev pub at : List Frac → Expr → Frac
at ρ e = value Frac ◌≈◌ ◌⊕◌ ◌⊗◌ opp int ρ e

pub record Given (ρ : List Frac) : Type 0 where
  pub factor : Expr
  pub side : Expr
  pub other : Expr
  pub holds : at ρ side ≈ at ρ other

abbrev pub given : {ρ : List Frac} (factor side other : Expr) → at ρ side ≈ at ρ other → Given ρ
given c a b p = record { factor = c; side = a; other = b; holds = p }

abbrev pub total : {ρ : List Frac} → List (Given ρ) → Expr
total [] = 0ₑ
total (g ∷ gs) = g.factor :* (g.side :- g.other) :+ total gs

off : {a b : Frac} → a ≈ b → a ⊖ b ≈ 0#
off {a} {b} p = ⊕-cong p (≈-refl (opp b)) ▹ ring (b ∷ []) (var 0 :- var 0) 0ₑ tt

total_zero : {ρ : List Frac} (gs : List (Given ρ)) → at ρ (total gs) ≈ 0#
total_zero [] = ≈-refl 0#
total_zero {ρ} (g ∷ gs) = ⊕-cong (⊗-cong (≈-refl (at ρ g.factor)) (off g.holds)) (total_zero gs) ▹ ring (at ρ g.factor ∷ []) (var 0 :* 0ₑ :+ 0ₑ) 0ₑ tt

pub combine : (ρ : List Frac) (l r : Expr) (gs : List (Given ρ)) → T (vanishes (norm ((l :- r) :- total gs))) → at ρ l ≈ at ρ r
combine ρ l r gs t = equal (ring ρ (l :- r) (total gs) t ▹ total_zero gs)
