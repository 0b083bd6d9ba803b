-- The two ways that a root of a sum of squares goes, by the tests that the code makes. Cited by the proofs of `vector_norm` and `scaled_error_norm`.
use mathlib.Core.Path.{◌≡◌, sym, ap, ap₂, ◌∙◌}
use mathlib.Core.Logic.{◌⊎◌, inl, inr}
use mathlib.Core.Bool.{Bool, true, false, cond, ◌&&◌, and-false}
use mathlib.Core.List.{List, map}
use lib.Ieee.{Float, inf, eq}
use Rattle.norm.specs.Norm.{sum_of_squares, all_finite, overflows, lowered, raised, root_over, root_of_squares}

way : (d : Float) (xs : List Float) {t : Bool} → overflows xs ≡ t
    → root_of_squares d xs ≡ cond t (raised (root_over d (sum_of_squares (map lowered xs)))) (root_over d (sum_of_squares xs))
unfolding root_of_squares
way d xs e = ap (λ (t : Bool). cond t (raised (root_over d (sum_of_squares (map lowered xs)))) (root_over d (sum_of_squares xs))) e

-- s is the sum as it was worked out
pub by_second_sum : (d : Float) (xs : List Float) {s : Float} → s ≡ sum_of_squares xs → eq s (inf false) ≡ true → all_finite xs ≡ true
    → root_of_squares d xs ≡ raised (root_over d (sum_of_squares (map lowered xs)))
unfolding overflows
by_second_sum d xs e f g = way d xs (ap₂ ◌&&◌ (ap (λ (s : Float). eq s (inf false)) (sym e) ∙ f) g)

pub by_first_sum : (d : Float) (xs : List Float) {s : Float} → s ≡ sum_of_squares xs → (eq s (inf false) ≡ false) ⊎ (all_finite xs ≡ false)
    → root_of_squares d xs ≡ root_over d s
unfolding overflows
by_first_sum d xs e (inl f) = way d xs (ap (λ (t : Bool). t && all_finite xs) (ap (λ (s : Float). eq s (inf false)) (sym e) ∙ f)) ∙ ap (root_over d) (sym e)
by_first_sum d xs e (inr g) =
    way d xs (ap (λ (t : Bool). eq (sum_of_squares xs) (inf false) && t) g ∙ and-false (eq (sum_of_squares xs) (inf false))) ∙ ap (root_over d) (sym e)
