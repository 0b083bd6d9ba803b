-- The position's range, from the tests of it; the stages that a need is met with are at most 1000.
use mathlib.Core.Path.{◌≡◌, sym, ap, subst}
use mathlib.Core.Bool.{Bool, true, false, cond, ◌&&◌}
use native.Mathlib.Omega.{arith}
use Prim.Native.Nat.{ℕ, ◌≤◌}
use borrow.Author.Tests.{leb-true}
use lib.Dec.{T, leb}
use lib.Ieee.{Float}
use Rattle.family.specs.declared.Setting.{Setting}
use Rattle.family.specs.declared.Family.{Family}
use Rattle.family.specs.Family.{kind, stage_count, exceeds, most_stages}
use Rattle.family.proofs.Range.{permitted_range}
use Rattle.family.proofs.Counts.{stage_count_permitted}
use Rattle.driver.specs.declared.Phase.TheVariants as P
use Rattle.driver.specs.declared.Record.{Record}
use Rattle.driver.specs.declared.Need.{Need}
use Rattle.driver.specs.declared.Need.TheVariants.{Met, Unmet}
use Rattle.driver.specs.Calls.{setting_of, permits, in_range, stage_need}
use Rattle.driver.proofs.Sizes.{both}

permitted_most : (m : Setting) (s : ℕ) → permits m s ≡ true → s ≤ most_stages
permitted_most m s e = (permitted_range (kind m) s (subst T (sym e) tt)).1

pub pass_in : (r : Record) → in_range P.Pass r ≡ true → r.iteration.pass ≤ 12
unfolding in_range
pass_in r e = let k = r.iteration.pass in leb-true k 12 (both (leb 1 k) (leb k 12) e).1

pub record Staged (s j : ℕ) : Type 0 where
  pub from : 2 ≤ j
  pub to : j ≤ s
  pub most : s ≤ most_stages

pub stage_in : (r : Record) → in_range P.Stage r ≡ true → Staged r.staging.stages r.staging.stage
unfolding in_range
stage_in r e =
    let m = setting_of r in
    let s = r.staging.stages in
    let j = r.staging.stage in
    let t = both (permits m s) (leb 2 j && leb j s) e in
    let u = both (leb 2 j) (leb j s) t.1 in
    record { from = leb-true 2 j u.0; to = leb-true j s u.1; most = permitted_most m s t.0 }

-- the stages of a need that is met
count : Need → ℕ
count (Met s) = s
count (Unmet i) = 0

pub need_most : (m : Setting) (radius : Float) (s : ℕ) → Met s ≡ stage_need m radius → s ≤ most_stages
unfolding stage_need count
need_most m radius s e = subst (λ (k : ℕ). k ≤ most_stages) (sym (ap count e)) (go (exceeds f q radius))
  where
    f : Family
    f = kind m

    q : Float
    q = m.quotient

    go : (t : Bool) → count (cond t (Unmet 11) (Met (stage_count f q radius))) ≤ most_stages
    go true = omega arith
    go false = (permitted_range f (stage_count f q radius) (stage_count_permitted f q radius)).1
