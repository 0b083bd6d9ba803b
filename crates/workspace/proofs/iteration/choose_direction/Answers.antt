-- The kept eigenvector, the first derivative or all ones, as the norms were tested.
use Rattle.std.proofs.Common.{◌≡◌, refl, sym, ap, ap₂, ◌∙◌, Bool, true, false, cond, ℕ, replicate, Float}
use lib.Ieee.{binary64, le, of_bits}
use Rattle.ieee.specs.Double.{one, min_positive, nearest}
use Rattle.workspace.specs.Vectors.{Vectors, unpack, ◌with◌≔◌, vector_norm, eigenvector, first_derivative}
use Rattle.workspace.specs.Kernel.{with_direction}
use Rattle.workspace.proofs.Areas.{becomes_as}
use Rattle.workspace.proofs.iteration.choose_direction.Goals as goal

-- a norm that was tested
small : {p q : Float} {t : Bool} → p ≡ q → le p (of_bits binary64 4503599627370496) ≡ t → le q min_positive ≡ t
unfolding min_positive nearest of_bits
small e f = ap (λ (x : Float). le x min_positive) (sym e) ∙ f

chosen : (n : ℕ) (v : Vectors) (t u : Bool) → le (vector_norm (v eigenvector)) min_positive ≡ t → le (vector_norm (v first_derivative)) min_positive ≡ u
    → cond t (cond u (v with eigenvector ≔ replicate n one) (v with eigenvector ≔ v first_derivative)) v ≡ with_direction n v
unfolding with_direction
chosen n v t u e f = sym (ap₂ (λ (s w : Bool). cond s (cond w (v with eigenvector ≔ replicate n one) (v with eigenvector ≔ v first_derivative)) v) e f)

pub returns-then-first : goal.returns-then-first
unfolding of_bits
returns-then-first c =
    let a = c.args in (
      becomes_as c.fill_vector.ensures
          (chosen a.n (unpack a.n a.area.now) true true
          (small c.direction_norm-kept.ensures c.if-kept.true)
          (small c.norm_of-first.ensures c.if-first.true)),
      c.direction_norm.ensures,
    )

pub returns-then-kept : goal.returns-then-kept
returns-then-kept c =
    let a = c.args in
    let first = c.norm_of-first.ensures in
    let moved = c.copy_vector.ensures in (
      becomes_as moved
          (chosen a.n (unpack a.n a.area.now) true false
          (small c.direction_norm-kept.ensures c.if-kept.true) (small first c.if-first.false)),
      first ∙ sym (ap (λ (v : Vectors). vector_norm (v eigenvector)) moved.vectors),
    )

pub returns : goal.returns
returns c =
    let a = c.args in
    let v = unpack a.n a.area.now in
    let kept = chosen a.n v false (le (vector_norm (v first_derivative)) min_positive) (small c.direction_norm-kept.ensures c.if-kept.false) refl in
    (record { vectors = kept; rest = refl }, c.direction_norm-kept.ensures)
