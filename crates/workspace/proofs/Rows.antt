-- The rows: what the loops' rules come to, and that the candidate has no part in them. Assumes nothing.
use mathlib.Core.Path.{◌≡◌, refl, ap, ◌∙◌, fun_ext}
use mathlib.Core.Bool.{Bool, true, false, cond}
use mathlib.Core.List.{List, [], ◌∷◌}
use Prim.Native.Nat.{ℕ, ◌<◌}
use native.Mathlib.Omega.{arith}
use borrow.Author.Tests.{eqb-true, ltb-false}
use lib.Dec.{eqb, ltb}
use lib.ListN.{length}
use lib.Ieee.{Float}
use Rattle.family.specs.declared.RowForm.{RowForm}
use Rattle.family.specs.declared.RowForm.TheVariants.{ChebyshevRow, OrthogonalRow, InitialFirstRow, PlainRow}
use Rattle.coefficients.specs.declared.Coefficients.{Coefficients}
use Rattle.workspace.specs.declared.Vector.{Vector}
use Rattle.workspace.specs.Vectors.{Vectors, number, ◌with◌≔◌, each, derivative, previous_two, previous_one}
use Rattle.workspace.specs.declared.Vector.TheVariants.{FirstDerivative, LastDerivative, Derivative, PreviousTwo, PreviousOne, NextStage, Eigenvector, PerturbedState, PerturbedDerivative, State, Candidate, OlderState}
use Rattle.workspace.specs.Vectors.{next_stage}
use Rattle.workspace.specs.Kernel.{entry_in, chebyshev_entry, orthogonal_entry, initial_first_entry, plain_entry, with_row_in, exchanged}
use Rattle.workspace.proofs.Lists.{each_same}
use Rattle.workspace.proofs.Parts.{◌beside◌}
use Rattle.workspace.proofs.Columns.{Rules, written_by}

-- ---- the row, by the rule g of an element, and the exchange in one pass

abbrev pub exchange_rules : ((Vector → Float) → Float) → Rules
exchange_rules g = (next_stage, λ x. x previous_two) ∷ (previous_two, λ x. x previous_one) ∷ (previous_one, g) ∷ []

cycled : (v : Vectors) (x : List Float) (b : Vector)
    → (v with next_stage ≔ v previous_two with previous_two ≔ v previous_one with previous_one ≔ x) b ≡ exchanged (v with next_stage ≔ x) b
unfolding exchanged
cycled v x FirstDerivative = refl
cycled v x LastDerivative = refl
cycled v x Derivative = refl
cycled v x PreviousTwo = refl
cycled v x PreviousOne = refl
cycled v x NextStage = refl
cycled v x Eigenvector = refl
cycled v x PerturbedState = refl
cycled v x PerturbedDerivative = refl
cycled v x State = refl
cycled v x Candidate = refl
cycled v x OlderState = refl

pub exchange_law : (n : ℕ) (g : (Vector → Float) → Float) (v : Vectors) → length (v previous_two) ≡ n → length (v previous_one) ≡ n
    → written_by n (exchange_rules g) v v ≡ exchanged (v with next_stage ≔ each n v g)
exchange_law n g v long-two long-one =
    ap (λ (x : List Float). v with next_stage ≔ x with previous_two ≔ each n v (λ x. x previous_one) with previous_one ≔ each n v g)
    (each_same n v previous_two long-two)
    ∙ ap (λ (x : List Float). v with next_stage ≔ v previous_two with previous_two ≔ x with previous_one ≔ each n v g)
    (each_same n v previous_one long-one)
    ∙ fun_ext (cycled v (each n v g))

-- ---- the candidate has no part in it

each_beside : (f : RowForm) (n : ℕ) (h : Float) (c : Coefficients) (v w : Vectors) → each n (v beside w) (entry_in f h c) ≡ each n v (entry_in f h c)
unfolding each entry_in chebyshev_entry orthogonal_entry initial_first_entry plain_entry
each_beside ChebyshevRow n h c v w = refl
each_beside OrthogonalRow n h c v w = refl
each_beside InitialFirstRow n h c v w = refl
each_beside PlainRow n h c v w = refl

-- a vector of the first ten written
with_beside : (k : Vector) → number k < 10 → (v w : Vectors) (x : List Float) → ((v beside w) with k ≔ x) ≡ ((v with k ≔ x) beside w)
with_beside k h v w x = fun_ext (λ b. go b (eqb (number k) (number b)) (ltb (number b) 10) refl refl)
  where
    go : (b : Vector) (t u : Bool) → eqb (number k) (number b) ≡ t → ltb (number b) 10 ≡ u → cond t x (cond u (v b) (w b)) ≡ cond u (cond t x (v b)) (w b)
    go b t true p q = refl
    go b false false p q = refl
    go b true false p q = absurd (let e : number k ≡ number b = eqb-true (number k) (number b) p in let z : ⊥ = omega (arith, ltb-false (number b) 10 q) in z)

exchanged_beside : (v w : Vectors) (b : Vector) → exchanged (v beside w) b ≡ (exchanged v beside w) b
unfolding exchanged
exchanged_beside v w FirstDerivative = refl
exchanged_beside v w LastDerivative = refl
exchanged_beside v w Derivative = refl
exchanged_beside v w PreviousTwo = refl
exchanged_beside v w PreviousOne = refl
exchanged_beside v w NextStage = refl
exchanged_beside v w Eigenvector = refl
exchanged_beside v w PerturbedState = refl
exchanged_beside v w PerturbedDerivative = refl
exchanged_beside v w State = refl
exchanged_beside v w Candidate = refl
exchanged_beside v w OlderState = refl

module _ (f : RowForm) (n : ℕ) (h : Float) (c : Coefficients) (d : List Float) (v w : Vectors) where
  pub row_beside : with_row_in f n h c (v beside w) d ≡ (with_row_in f n h c v d beside w)
  unfolding with_row_in
  row_beside =
      let u = v with derivative ≔ d in
      ap (λ (y : Vectors). y with next_stage ≔ each n y (entry_in f h c)) (with_beside derivative (omega arith) v w d)
      ∙ ap (λ (x : List Float). (u beside w) with next_stage ≔ x) (each_beside f n h c u w)
      ∙ with_beside next_stage (omega arith) u w (each n u (entry_in f h c))

  pub exchange_beside : exchanged (with_row_in f n h c (v beside w) d) ≡ (exchanged (with_row_in f n h c v d) beside w)
  exchange_beside = ap exchanged row_beside ∙ fun_ext (exchanged_beside (with_row_in f n h c v d) w)
