-- A list's flag at one more element.
use mathlib.Core.Path.{◌≡◌, sym, ap, ap₂, ◌∙◌}
use mathlib.Core.List.{List, [], ◌∷◌}
use mathlib.Core.Bool.{Bool, ◌&&◌, and-true, and-false, and_assoc}
use Prim.Native.Nat.{ℕ, zero, suc, ◌+◌, ◌<◌}
use native.Mathlib.Nat.{not-suc-le-zero, le_of_suc-le-suc}
use native.Mathlib.Numerals.{add-one}
use lib.ListN.{length, take, get_or}
use lib.Ieee.{Float, nan}
use lib.Ieee.Scale.{finite}
use Rattle.std.specs.Float.{float_is_finite}
use Rattle.ieee.proofs.Same.{finite_same}
use Rattle.norm.specs.Norm.{all_finite}
use Rattle.std.proofs.Common.{nat_eq, not, true, false, ◌≤◌, arith}
use mir.Val.{bool_byte}

finite_suc : (l : List Float) (i : ℕ) → i < length l → all_finite (take (suc i) l) ≡ all_finite (take i l) && finite (get_or l i nan)
unfolding all_finite
finite_suc [] i h = absurd (not-suc-le-zero h)
finite_suc (x ∷ l) zero h = and-true (finite x)
finite_suc (x ∷ l) (suc i) h = ap (λ (b : Bool). finite x && b) (finite_suc l i (le_of_suc-le-suc h))
    ∙ sym (and_assoc (finite x) (all_finite (take i l)) (finite (get_or l i nan)))

pub at_most_one : (b : Bool) → bool_byte b ≤ 1
at_most_one true = omega arith
at_most_one false = omega arith

counted : (k : ℕ) (f : Bool) → nat_eq (k + bool_byte (not f)) 0 ≡ nat_eq k 0 && f
counted k true = let e : k + 0 ≡ k = omega arith in rw e (sym (and-true (nat_eq k 0)))
counted k false = grind (arith, and-false)

-- one turn of the loop: k of the first i entries are not finite, and x is the next
pub next_finite : (l : List Float) (i k : ℕ) {x : Float} → i < length l → nat_eq k 0 ≡ all_finite (take i l) → x ≡ get_or l i nan
    → nat_eq (k + bool_byte (not (float_is_finite x))) 0 ≡ all_finite (take (i + 1) l)
next_finite l i k {x} h e f =
    counted k (float_is_finite x)
    ∙ ap₂ ◌&&◌ e (ap float_is_finite f ∙ finite_same (get_or l i nan))
    ∙ sym (finite_suc l i h)
    ∙ ap (λ (j : ℕ). all_finite (take j l)) (sym (add-one i))
