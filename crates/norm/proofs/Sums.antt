-- A fold over a list, and so a sum of squares, at one more element: what the loops' proofs cite. ⊕ is an operation on doubles: it rounds.
use mathlib.Core.Path.{◌≡◌, refl, sym, ap, ap₂, ◌∙◌}
use mathlib.Core.List.{List, [], ◌∷◌, foldl, map}
use Prim.Native.Nat.{ℕ, zero, suc, ◌+◌, ◌<◌}
use native.Mathlib.Nat.{not-suc-le-zero, le_of_suc-le-suc}
use native.Mathlib.Numerals.{add-one}
use lib.ListN.{length, get_or, take, get_or-map}
use lib.Ieee.{Float, nan, binary64, add, mul}
use Rattle.ieee.specs.Double.{◌⊕◌, nought, square}
use Rattle.norm.specs.Norm.{sum_of_squares, lowered}

pub fold_suc : (g : Float → Float → Float) (t : Float) (l : List Float) (i : ℕ) → i < length l
    → foldl g t (take (suc i) l) ≡ g (foldl g t (take i l)) (get_or l i nan)
fold_suc g t [] i h = absurd (not-suc-le-zero h)
fold_suc g t (x ∷ l) zero h = refl
fold_suc g t (x ∷ l) (suc i) h = fold_suc g (g t x) l i (le_of_suc-le-suc h)

-- one turn of the loop
pub next_sum : (l : List Float) (i : ℕ) {t x : Float} → i < length l → t ≡ sum_of_squares (take i l) → x ≡ get_or l i nan
    → add binary64 t (mul binary64 x x) ≡ sum_of_squares (take (i + 1) l)
unfolding sum_of_squares square
next_sum l i {t} {x} h e f =
    ap₂ (λ (s y : Float). add binary64 s (mul binary64 y y)) e f
    ∙ sym (fold_suc (λ (s y : Float). s ⊕ square y) nought l i h)
    ∙ ap (λ (j : ℕ). sum_of_squares (take j l)) (sym (add-one i))

pub lowered_at : (l : List Float) (i : ℕ) → get_or (map lowered l) i nan ≡ lowered (get_or l i nan)
unfolding lowered mul
lowered_at l i = get_or-map lowered l i nan
