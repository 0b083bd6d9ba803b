-- The s of a finished attempt of families 2 to 5 has the properties of the stage counts for its own r, wherever that is finite; an infinite r gives the largest
-- count, but in TSRKC2. And r is never below 0.
use mathlib.Core.Path.{◌≡◌, sym, ap, ◌∙◌, subst}
use Prim.Native.Nat.{ℕ}
use lib.Dec.{T}
use lib.Ieee.{Float, inf}
use lib.Ieee.Scale.{finite}
use mathlib.Core.Bool.{false}
use Rattle.family.specs.declared.Family.{Family}
use Rattle.family.specs.declared.Family.TheVariants.{TSRKC2}
use Rattle.family.specs.Family.{Orthogonal, made_of, family_of, largest_count, stage_count}
use Rattle.family.specs.Reach.{Serves}
use Rattle.family.proofs.Counts.{serves}
use Rattle.family.proofs.Special.{infinite_count}
use Rattle.workspace.specs.declared.Arguments.{Arguments}
use Rattle.driver.specs.Calls.{Held, Called, setting_for}
use Rattle.session.specs.Attempt.{FinishedAttempt}
use Rattle.session.specs.Claim.{Finishes}
use Rattle.session.proofs.Needs.{need_is}

module _ (h : Held) (a : Arguments) (o : FinishedAttempt) (replies : ℕ) (x : Called) (f : Finishes h a o replies x) where
  abbrev q : Float
  q = (setting_for h.kept a).quotient

  pub stages_from : o.stages ≡ stage_count (family_of h.kept.family) q o.scaled_radius
  stages_from = (need_is (setting_for h.kept a) o.scaled_radius o.stages f.need_met).0

  -- of the r and s that its answer tells
  pub served : (g : Orthogonal) → family_of h.kept.family ≡ made_of g → T (finite o.scaled_radius) → Serves g o.scaled_radius o.stages
  served g e fin = let r = o.scaled_radius in
      subst (λ (s : ℕ). Serves g r s) (sym (stages_from ∙ ap (λ (f : Family). stage_count f q r) e)) (serves g q r fin f.not_negative)

  pub served_infinite : (family_of h.kept.family ≡ TSRKC2 → ⊥) → o.scaled_radius ≡ inf false
      → o.stages ≡ largest_count (family_of h.kept.family)
  served_infinite other e = stages_from ∙ ap (stage_count (family_of h.kept.family) q) e ∙ infinite_count (family_of h.kept.family) q other
