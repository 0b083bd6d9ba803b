-- One turn of the loops over roots, whichever code the root is taken by, and where they end. From workspace's laws of folds and of slices written
-- from the front. ⊕ is an operation on doubles: it rounds.
use mathlib.Core.Path.{◌≡◌, sym, ap, ◌∙◌}
use mathlib.Core.List.{List, ◌++◌, map}
use Prim.Native.Nat.{ℕ, ◌+◌, ◌<◌, min}
use native.Mathlib.Nat.{zero-add}
use native.Mathlib.Numerals.{add-one}
use native.Mathlib.Omega.{arith}
use lib.ListN.{length, get_or, take, drop, set, length-map, get_or-map}
use lib.Seq.{paste, paste-zero}
use lib.Ieee.{Float, nan, binary64, add}
use Rattle.ieee.specs.Double.{◌⊕◌, two}
use Rattle.ieee.specs.Sqrt.{sqrt}
use Rattle.norm.proofs.Sums.{fold_suc}
use Rattle.workspace.proofs.Front.{pasted}
use Rattle.timed.specs.Left.{roots_over, root_chain}

-- r is the next root of the chain
pub chain_turn : (xs : List Float) (i : ℕ) {a r : Float} → i < length xs → a ≡ root_chain (take i xs) → r ≡ sqrt (add binary64 a (get_or xs i nan))
    → r ≡ root_chain (take (i + 1) xs)
unfolding root_chain
chain_turn xs i h e f =
    f
    ∙ ap (λ (b : Float). sqrt (b ⊕ get_or xs i nan)) e
    ∙ sym (fold_suc (λ (b x : Float). sqrt (b ⊕ x)) two xs i h)
    ∙ ap (λ (j : ℕ). root_chain (take j xs)) (sym (add-one i))

module _ (xs out : List Float) where
  -- the first i roots are written
  abbrev pub Rooted : List Float → ℕ → Type 0
  Rooted later i = later ≡ paste out 0 (map sqrt xs) i

  pub roots_start : Rooted out 0
  roots_start = paste-zero out 0 (map sqrt xs)

  pub roots_turn : (i : ℕ) {later : List Float} {r : Float} → i < length out → i < length xs → Rooted later i → r ≡ sqrt (get_or xs i nan)
      → Rooted (set later i r) (i + 1)
  unfolding sqrt
  roots_turn i {later} {r} h l sofar e = pasted (map sqrt xs) out i r h (omega (arith, length-map xs sqrt)) sofar (e ∙ sym (get_or-map sqrt xs i nan))

  pub roots_end : (i : ℕ) {later : List Float} → i ≡ min (length out) (length xs) → Rooted later i → later ≡ roots_over xs out
  unfolding roots_over
  roots_end i e sofar =
      sofar
      ∙ ap (λ (j : ℕ). take i (map sqrt xs) ++ drop j out) (zero-add i)
      ∙ ap (λ (j : ℕ). take j (map sqrt xs) ++ drop j out) e
