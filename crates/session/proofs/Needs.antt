-- What the theorems use of the need of stages: where it is met the count is the family's, permitted, and so at least 2; where it is refused the number is one
-- of a need.
-- From `stage_need` alone, so that a change of it moves this file and no other.
use mathlib.Core.Path.{◌≡◌, refl, sym, ap, subst}
use mathlib.Core.Bool.{Bool, true, false, cond}
use Prim.Native.Nat.{ℕ, ◌≤◌}
use lib.Ieee.{Float}
use lib.Ieee.Bits.{is_true}
use Rattle.ieee.proofs.Logic.{yes}
use Rattle.family.specs.declared.Setting.{Setting}
use Rattle.family.specs.Family.{kind, stage_count, exceeds, permitted}
use Rattle.family.proofs.Range.{permitted_range}
use Rattle.family.proofs.Counts.{stage_count_permitted}
use Rattle.driver.specs.declared.Need.{Need}
use Rattle.driver.specs.declared.Need.TheVariants.{Met, Unmet}
use Rattle.driver.specs.Numbers.{need_numbers}
use Rattle.driver.specs.Calls.{permits, stage_need}
use Rattle.session.specs.Refusals.{◌∈◌, here}

abbrev pub Needed : Setting → Need → Type 0
Needed m (Met s) = permits m s ≡ true
Needed m (Unmet i) = i ∈ need_numbers

pub need_holds : (m : Setting) (r : Float) → Needed m (stage_need m r)
unfolding stage_need
need_holds m r = go (exceeds (kind m) m.quotient r)
  where
    count : ℕ
    count = stage_count (kind m) m.quotient r

    go : (t : Bool) → Needed m (cond t (Unmet 11) (Met count))
    go true = here
    go false = is_true (permitted (kind m) count) (stage_count_permitted (kind m) m.quotient r)

pub two_from : (m : Setting) (s : ℕ) → permits m s ≡ true → 2 ≤ s
two_from m s h = (permitted_range (kind m) s (yes h)).0

-- where it is met, the count is the family's, and no more than the largest is needed
pub need_is : (m : Setting) (r : Float) (s : ℕ) → stage_need m r ≡ Met s
    → (s ≡ stage_count (kind m) m.quotient r) × (exceeds (kind m) m.quotient r ≡ false)
unfolding stage_need
need_is m r s e = go (exceeds (kind m) m.quotient r) refl e
  where
    count : ℕ
    count = stage_count (kind m) m.quotient r

    number : Need → ℕ
    number (Met t) = t
    number (Unmet i) = i

    is_met : Need → Type 0
    is_met (Met t) = Unit {0}
    is_met (Unmet i) = ⊥

    go : (t : Bool) → exceeds (kind m) m.quotient r ≡ t → cond t (Unmet 11) (Met count) ≡ Met s
        → (s ≡ count) × (exceeds (kind m) m.quotient r ≡ false)
    go true b e = absurd (subst is_met (sym e) tt)
    go false b e = (sym (ap number e), b)
