-- The Rust takes RKG's smallest count in doubles, `.max(2.0) as usize`, and the definition in whole numbers, as document 01 has it. They agree on every double.
-- Assumes nothing.
use mathlib.Core.Path.{◌≡◌, refl, ap, ◌∙◌}
use Prim.Native.Nat.{ℕ, min}
use mathlib.Core.Bool.{Bool, true, false, cond}
use lib.IntN.{pos}
use lib.Dec.{lit<}
use lib.Ieee.{Float, nan, inf, fin, lt, to_unsigned}
use Rattle.ieee.specs.Double.{two, three}
use Rattle.ieee.specs.Whole.{max}
use Rattle.ieee.proofs.Casts.{cast_of_max}
use Rattle.family.specs.declared.Family.TheVariants.{RKG1, RKG2}
use Rattle.family.specs.Family.{smallest_count, largest_count, odd_only, odd_step, limited, facts_of}

pub rkg2_in_doubles : (x : Float) → min (to_unsigned 64 (max x three)) 200 ≡ limited RKG2 (to_unsigned 64 x)
unfolding limited odd_step odd_only smallest_count largest_count facts_of
rkg2_in_doubles x = ap (λ (m : ℕ). min m 200) (cast_of_max 2 (lit< tt) x)

-- 2.0 and 2 · 2 ^ 0 are the same number
either : (b : Bool) (x : Float) → to_unsigned 64 (cond b two x) ≡ to_unsigned 64 (cond b (fin false 2 (pos 0)) x)
unfolding to_unsigned
either true x = refl
either false x = refl

as_whole : (x : Float) → to_unsigned 64 (max x two) ≡ to_unsigned 64 (max x (fin false 2 (pos 0)))
unfolding max lt to_unsigned
as_whole nan = refl
as_whole (inf s) = either s (inf s)
as_whole (fin s m e) = either (lt (fin s m e) two) (fin s m e)

pub rkg1_in_doubles : (x : Float) → min (to_unsigned 64 (max x two)) 200 ≡ limited RKG1 (to_unsigned 64 x)
unfolding limited odd_step odd_only smallest_count largest_count facts_of
rkg1_in_doubles x = ap (λ (m : ℕ). min m 200) (as_whole x ∙ cast_of_max 1 (lit< tt) x)
