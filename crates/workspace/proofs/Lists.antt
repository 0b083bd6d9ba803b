-- Laws of the vectors worked out index by index, which the proofs of the loops cite.
use mathlib.Core.Path.{◌≡◌, sym, ap, ◌∙◌}
use Prim.Native.Nat.{ℕ, zero, suc, ◌+◌, ◌<◌}
use native.Mathlib.Nat.{add-suc, suc-add, add-zero, zero-add, not-suc-le-zero, le_of_suc-le-suc}
use native.Mathlib.Omega.{arith}
use lib.ListN.{length, get_or}
use lib.Seq.{ext_get_or}
use lib.Ieee.{Float, nan}
use Rattle.workspace.specs.declared.Vector.{Vector}
use Rattle.workspace.specs.Vectors.{Vectors, tabulate, each}
use Rattle.workspace.proofs.Areas.{length_each}

pub get_d_tabulate : (f : ℕ → Float) (i n j : ℕ) → j < n → get_or (tabulate f i n) j nan ≡ f (i + j)
get_d_tabulate f i zero j h = absurd (not-suc-le-zero h)
get_d_tabulate f i (suc n) zero h = ap f (sym (add-zero i))
get_d_tabulate f i (suc n) (suc j) h = get_d_tabulate f (suc i) n j (le_of_suc-le-suc h) ∙ ap f (suc-add i j ∙ sym (add-suc i j))

pub each_at : (n : ℕ) (v : Vectors) (f : (Vector → Float) → Float) (j : ℕ) → j < n → get_or (each n v f) j nan ≡ f (λ b. get_or (v b) j nan)
unfolding each
each_at n v f j h =
    let g : ℕ → Float = λ i. f (λ b. get_or (v b) i nan) in
    get_d_tabulate g 0 n j h ∙ ap g (zero-add j)

-- the rule that takes a vector as it is
pub each_same : (n : ℕ) (v : Vectors) (b : Vector) → length (v b) ≡ n → each n v (λ x. x b) ≡ v b
each_same n v b h =
    ext_get_or nan (each n v (λ x. x b)) (v b) (length_each n v (λ x. x b) ∙ sym h)
    (λ i l. each_at n v (λ x. x b) i (omega (arith, length_each n v (λ x. x b))))
