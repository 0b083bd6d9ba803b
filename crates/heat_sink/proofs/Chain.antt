-- The chain's rates by index, and what leaves a link as what enters the next. Assumes nothing. ⊖ is an operation on doubles: it rounds.
use mathlib.Core.Path.{◌≡◌, sym, ap, ◌∙◌}
use mathlib.Core.List.{List}
use Prim.Native.Nat.{ℕ, ◌+◌, ◌<◌}
use native.Mathlib.Nat.{zero-add}
use native.Mathlib.Numerals.{add-one}
use borrow.Author.Tests.{lt-ltb}
use lib.ListN.{length, get_or}
use lib.Ieee.{Float, nan}
use Rattle.ieee.specs.Double.{◌⊖◌}
use Rattle.workspace.proofs.Areas.{length_tabulate}
use Rattle.workspace.proofs.Lists.{get_d_tabulate}
use Rattle.heat_sink.specs.declared.Inverter.{Inverter}
use Rattle.heat_sink.specs.Model.{into, out_of, rate, rates}

module _ (m : Inverter) (y : List Float) where
  pub length_rates : (reading : Float) → length (rates m y reading) ≡ length y
  unfolding rates
  length_rates reading = length_tabulate (rate m y reading) 0 (length y)

  pub rate_at : (reading : Float) (i : ℕ) → i < length y → into m y reading i ⊖ out_of m y i ≡ get_or (rates m y reading) i nan
  unfolding rates rate
  rate_at reading i h = sym (get_d_tabulate (rate m y reading) 0 (length y) i h ∙ ap (rate m y reading) (zero-add i))

  pub handed_on : (reading : Float) (i : ℕ) → i + 1 < length y → out_of m y i ≡ into m y reading (i + 1)
  unfolding into out_of
  handed_on reading i h = simp (lt-ltb (i + 1) (length y) h) (ap (into m y reading) (sym (add-one i)))
