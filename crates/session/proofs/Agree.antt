-- Vectors that agree on some names: each step of the kernel keeps the names on which two sets of vectors agree, and adds those that it writes. With a history
-- the older state is among them from the start on.
use mathlib.Core.Path.{◌≡◌, refl, sym, ◌∙◌}
use mathlib.Core.Bool.{Bool, true, false, cond, ◌&&◌, ◌||◌}
use mathlib.Core.List.{List}
use Prim.Native.Nat.{ℕ}
use lib.Dec.{eqb}
use lib.ListN.{replicate}
use lib.Ieee.{Float, le}
use Rattle.ieee.specs.Double.{one, min_positive}
use Rattle.family.specs.declared.Setting.{Setting}
use Rattle.family.specs.declared.RowForm.{RowForm}
use Rattle.family.specs.declared.RowForm.TheVariants.{ChebyshevRow, OrthogonalRow, InitialFirstRow, PlainRow}
use Rattle.family.specs.declared.ErrorForm.{ErrorForm}
use Rattle.family.specs.declared.ErrorForm.TheVariants.{FirstDerivative, BothDerivatives, LastDerivative}
use Rattle.family.specs.declared.CandidateForm.{CandidateForm}
use Rattle.family.specs.declared.CandidateForm.TheVariants.{LastStage, Combined, WithOlder}
use Rattle.family.specs.Family.{facts_of, kind}
use Rattle.coefficients.specs.declared.Recurrence.{Recurrence}
use Rattle.coefficients.specs.declared.Coefficients.{Coefficients}
use Rattle.coefficients.specs.Rows.{candidate_weights}
use Rattle.workspace.specs.declared.Arguments.{Arguments}
use Rattle.workspace.specs.declared.Vector.{Vector}
use Rattle.workspace.specs.Vectors.{Vectors, ◌with◌≔◌, number, each, vector_norm, first_derivative, last_derivative, derivative, previous_two}
use Rattle.workspace.specs.declared.Vector.TheVariants.{FirstDerivative, LastDerivative, Derivative, PreviousTwo, PreviousOne, NextStage, Eigenvector, PerturbedState, PerturbedDerivative, State, Candidate, OlderState}
use Rattle.workspace.specs.Vectors.{previous_one, next_stage, eigenvector, perturbed_state, perturbed_derivative, state, candidate, older_state}
use Rattle.workspace.specs.Kernel.{with_direction, perturbed_by, perturbed, turned, first_stage, orthogonal_entry, chebyshev_entry}
use Rattle.workspace.specs.Kernel.{initial_first_entry, plain_entry, older_of, entry_in, with_row_in, exchanged, with_candidate, candidate_in, with_last}
use Rattle.workspace.specs.Kernel.{error, error_in}
use Rattle.workspace.specs.Kernel.{scaled_error, scaled_error_norm, error_norm}
use Rattle.workspace.proofs.Candidate.{combined_same, mixed_same}
use Rattle.session.specs.Attempt.{iteration_work, all_but_last}
use Rattle.session.specs.Alike.{compared, SameVectors}

abbrev pub Agree : (Vector → Bool) → Vectors → Vectors → Type 0
Agree on v w = (b : Vector) → on b ≡ true → v b ≡ w b

infixl 20 ◌or◌
abbrev pub ◌or◌ : (Vector → Bool) → Vector → Vector → Bool
(on or a) b = eqb (number a) (number b) || on b

agree_with : (on : Vector → Bool) (a : Vector) (v w : Vectors) (x y : List Float) → Agree on v w → x ≡ y → Agree (on or a) (v with a ≔ x) (w with a ≔ y)
agree_with on a v w x y p e b = go (eqb (number a) (number b))
  where
    go : (t : Bool) → t || on b ≡ true → cond t x (v b) ≡ cond t y (w b)
    go true q = e
    go false q = p b q

drop_one : (on : Vector → Bool) (a : Vector) (v w : Vectors) → Agree (on or a) v w → Agree on v w
drop_one on a v w p b e = p b (go (eqb (number a) (number b)) e)
  where
    go : (t : Bool) → on b ≡ true → t || on b ≡ true
    go true q = refl
    go false q = q

module _ (history : Bool) where
  -- read before they are written
  abbrev pub three : Vector → Bool
  three = (λ b. eqb (number older_state) (number b) && history) or state or first_derivative or eigenvector

  abbrev pub five : Vector → Bool
  five = three or perturbed_state or perturbed_derivative or eigenvector

  abbrev pub seven : Vector → Bool
  seven = five or previous_two or previous_one

  abbrev pub nine : Vector → Bool
  nine = seven or derivative or next_stage

  abbrev pub ten : Vector → Bool
  ten = nine or candidate

  abbrev pub eleven : Vector → Bool
  eleven = ten or last_derivative

  module _ (n : ℕ) where
    pub direction_agrees : (v w : Vectors) → Agree three v w → Agree three (with_direction n v) (with_direction n w)
    unfolding with_direction
    direction_agrees v w p = rw (p eigenvector refl, p first_derivative refl)
        (go (le (vector_norm (w eigenvector)) min_positive) (le (vector_norm (w first_derivative)) min_positive))
      where
        go : (t u : Bool) → Agree three
            (cond t (cond u (v with eigenvector ≔ replicate n one) (v with eigenvector ≔ w first_derivative)) v)
            (cond t (cond u (w with eigenvector ≔ replicate n one) (w with eigenvector ≔ w first_derivative)) w)
        go true true = drop_one three eigenvector _ _ (agree_with three eigenvector v w (replicate n one) (replicate n one) p refl)
        go true false = drop_one three eigenvector _ _ (agree_with three eigenvector v w (w first_derivative) (w first_derivative) p refl)
        go false u = p

    pub perturbed_agrees : (π : Float) (v w : Vectors) → Agree three v w → Agree (three or perturbed_state) (perturbed n π v) (perturbed n π w)
    unfolding perturbed_by perturbed each
    perturbed_agrees π v w p = agree_with three perturbed_state v w _ _ p (rw (p state refl, p eigenvector refl))

    pub turned_agrees : (d : List Float) (v w : Vectors) → Agree (three or perturbed_state) v w → Agree five (turned n v d) (turned n w d)
    unfolding turned each
    turned_agrees d v w p =
        agree_with (three or perturbed_state or perturbed_derivative) eigenvector (v with perturbed_derivative ≔ d) (w with perturbed_derivative ≔ d) _ _
        (agree_with (three or perturbed_state) perturbed_derivative v w d d p refl) (rw (p first_derivative refl))

    pub first_agrees : (h mu~ : Float) (v w : Vectors) → Agree five v w → Agree seven (first_stage n h mu~ v) (first_stage n h mu~ w)
    unfolding first_stage each
    first_agrees h mu~ v w p = agree_with (five or previous_two) previous_one (v with previous_two ≔ v state) (w with previous_two ≔ w state) _ _
        (agree_with five previous_two v w (v state) (w state) p (p state refl)) (rw (p state refl, p first_derivative refl))

    entry_same : (f : RowForm) (h : Float) (c : Coefficients) (d : List Float) (v w : Vectors) → Agree seven v w
        → each n (v with derivative ≔ d) (entry_in f h c) ≡ each n (w with derivative ≔ d) (entry_in f h c)
    unfolding each entry_in orthogonal_entry chebyshev_entry initial_first_entry plain_entry
    entry_same ChebyshevRow h c d v w p = rw (p state refl, p first_derivative refl, p previous_one refl, p previous_two refl)
    entry_same OrthogonalRow h c d v w p = rw (p state refl, p first_derivative refl, p previous_one refl, p previous_two refl)
    entry_same PlainRow h c d v w p = rw (p previous_one refl, p previous_two refl)
    entry_same InitialFirstRow h c d v w p = rw (p state refl, p first_derivative refl, p previous_one refl, p previous_two refl)

    pub row_agrees : (f : RowForm) (h : Float) (c : Coefficients) (d : List Float) (v w : Vectors) → Agree seven v w
        → Agree nine (with_row_in f n h c v d) (with_row_in f n h c w d)
    unfolding with_row_in
    row_agrees f h c d v w p = agree_with (seven or derivative) next_stage (v with derivative ≔ d) (w with derivative ≔ d) _ _
        (agree_with seven derivative v w d d p refl) (entry_same f h c d v w p)

    pub exchanged_agrees : (v w : Vectors) → Agree nine v w → Agree nine (exchanged v) (exchanged w)
    unfolding exchanged
    exchanged_agrees v w p FirstDerivative e = p first_derivative e
    exchanged_agrees v w p LastDerivative e = p last_derivative e
    exchanged_agrees v w p Derivative e = p derivative e
    exchanged_agrees v w p PreviousTwo e = p previous_one refl
    exchanged_agrees v w p PreviousOne e = p next_stage refl
    exchanged_agrees v w p NextStage e = p previous_two refl
    exchanged_agrees v w p Eigenvector e = p eigenvector e
    exchanged_agrees v w p PerturbedState e = p perturbed_state e
    exchanged_agrees v w p PerturbedDerivative e = p perturbed_derivative e
    exchanged_agrees v w p State e = p state e
    exchanged_agrees v w p Candidate e = p candidate e
    exchanged_agrees v w p OlderState e = p older_state e

    pub candidate_agrees : (m : Setting) (h : Float) (s : ℕ) (c : Recurrence) (row : Coefficients) (v w : Vectors) → m.history ≡ history → Agree nine v w
        → Agree ten (with_candidate m n h s c row v) (with_candidate m n h s c row w)
    unfolding with_candidate candidate_in
    candidate_agrees m h s c row v w own p = agree_with nine candidate v w _ _ p (go (facts_of (kind m)).candidate)
      where
        -- what is read of the older state: without a history it is the state
        older : (t : Bool) → m.history ≡ t → v (cond t older_state state) ≡ w (cond t older_state state)
        older true e = p older_state (sym own ∙ e)
        older false e = p state refl

        go : (form : CandidateForm) → candidate_in form m n h s c row v ≡ candidate_in form m n h s c row w
        go LastStage = p next_stage refl
        go Combined = combined_same n h (candidate_weights s c) v w (p state refl) (p next_stage refl) (p previous_two refl) (p first_derivative refl)
        go WithOlder = mixed_same n (older_of m) c.polynomials.gain v w (older m.history refl) (p next_stage refl)

    -- what the iteration reads and writes
    pub five_same : (v w : Vectors) → Agree five v w → iteration_work v ≡ iteration_work w
    five_same v w p = rw (p first_derivative refl, p eigenvector refl, p perturbed_state refl, p perturbed_derivative refl, p state refl) refl

    -- all but the last derivative
    pub ten_same : (v w : Vectors) → Agree ten v w → all_but_last v ≡ all_but_last w
    ten_same v w p =
        rw (
          p first_derivative refl,
          p derivative refl,
          p previous_two refl,
          p previous_one refl,
          p next_stage refl,
          p eigenvector refl,
          p perturbed_state refl,
          p perturbed_derivative refl,
          p state refl,
          p candidate refl,
        ) refl

    error_same : (f : ErrorForm) (h : Float) (v w : Vectors) → Agree eleven v w → each n v (error_in f h) ≡ each n w (error_in f h)
    unfolding each error_in
    error_same BothDerivatives h v w p = rw (p state refl, p first_derivative refl, p candidate refl, p last_derivative refl)
    error_same FirstDerivative h v w p = rw (p state refl, p first_derivative refl, p candidate refl)
    error_same (LastDerivative over) h v w p = rw (p state refl, p candidate refl, p last_derivative refl)

    last_agrees : (m : Setting) (a : Arguments) (d : List Float) (v w : Vectors) → Agree ten v w → Agree eleven (with_last m n a v d) (with_last m n a w d)
    unfolding with_last
    last_agrees m a d v w p = go a.adaptive
      where
        x : Vectors
        x = v with last_derivative ≔ d

        y : Vectors
        y = w with last_derivative ≔ d

        q : Agree eleven x y
        q = agree_with ten last_derivative v w d d p refl

        go : (t : Bool) → Agree eleven (cond t (x with derivative ≔ each n x (error m a.step)) x)
            (cond t (y with derivative ≔ each n y (error m a.step)) y)
        go true = drop_one eleven derivative _ _ (agree_with eleven derivative x y _ _ q (error_same (facts_of (kind m)).error a.step x y q))
        go false = q

    -- and these are all that are compared
    pub last_same : (m : Setting) (a : Arguments) (d : List Float) (v w : Vectors) → Agree ten v w
        → SameVectors history (with_last m n a v d) (with_last m n a w d)
    last_same m a d v w p b e = last_agrees m a d v w p b (every b e)
      where
        every : (b : Vector) → compared history b ≡ true → eleven b ≡ true
        every FirstDerivative e = refl
        every LastDerivative e = refl
        every Derivative e = refl
        every PreviousTwo e = refl
        every PreviousOne e = refl
        every NextStage e = refl
        every Eigenvector e = refl
        every PerturbedState e = refl
        every PerturbedDerivative e = refl
        every State e = refl
        every Candidate e = refl
        every OlderState e = e

    pub norm_same : (m : Setting) (s : ℕ) (a : Arguments) (v w : Vectors) → SameVectors history v w → error_norm m n s a v ≡ error_norm m n s a w
    unfolding error_norm scaled_error_norm scaled_error each
    norm_same m s a v w p = rw (p derivative refl, p state refl, p candidate refl)

  pub five_three : (v w : Vectors) → Agree five v w → Agree three v w
  five_three v w p = drop_one three perturbed_state v w
      (drop_one (three or perturbed_state) perturbed_derivative v w (drop_one (three or perturbed_state or perturbed_derivative) eigenvector v w p))

  pub nine_seven : (v w : Vectors) → Agree nine v w → Agree seven v w
  nine_seven v w p = drop_one seven derivative v w (drop_one (seven or derivative) next_stage v w p)
