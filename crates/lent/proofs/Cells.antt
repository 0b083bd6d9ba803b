-- What is written in place, of a record that is lent: `placed`, `moved`, `ended`, `emptied`. From the lengths alone, since a list of known length is its elements.
use mathlib.Core.Path.{◌≡◌, refl, sym, ap, subst, ◌∙◌}
use mathlib.Core.Bool.{not}
use mathlib.Core.List.{List, [], ◌∷◌}
use Prim.Native.Nat.{ℕ, zero, suc}
use lib.Dec.{eqb}
use lib.ListN.{length, get_or, set}
use lib.Ieee.{Float, nan}
use native.Mathlib.Omega.{arith}
use borrow.Author.Tests.{ne_eqb}
use Rattle.ieee.specs.Double.{nought}
use Rattle.driver.specs.declared.Staging.{Staging}
use Rattle.driver.specs.declared.Staged.TheVariants.{On, OnByTheta, Ended, NotFinite}
use Rattle.driver.specs.Answers.{case_number}
use Rattle.driver.specs.Calls.{no_figures, figures_in, in_phase, at_stage}
use Rattle.driver.specs.Promises.{outcome_of}
use Rattle.lent.specs.declared.Answer.{Answer}
use Rattle.lent.specs.Lent.{wholes_long, doubles_long, lent, left_with, staged_outcome}
use Rattle.lent.specs.Numbers.{History, Record, Answered, brought, meaning, history_number, written, told, number_in, time_in, stands, handed_back}

-- ---- a list by its elements

abbrev cells : {A : Type 0} → (ℕ → A) → ℕ → List A
cells f zero = []
cells f (suc n) = f zero ∷ cells (λ i. f (suc i)) n

spelled : {A : Type 0} (d : A) (xs : List A) → xs ≡ cells (λ i. get_or xs i d) (length xs)
spelled d [] = refl
spelled {A} d (x ∷ xs) = ap (λ (r : List A). x ∷ r) (spelled d xs)

in_cells : {A : Type 0} (d : A) (xs : List A) (n : ℕ) → length xs ≡ n → cells (λ i. get_or xs i d) n ≡ xs
in_cells d xs n e = sym (spelled d xs ∙ ap (cells (λ i. get_or xs i d)) e)

-- what holds of every two lists of the record's lengths, spelled by their elements
spelled_out : (P : List ℕ → List Float → Type 0) (w : List ℕ) (x : List Float) → length w ≡ wholes_long → length x ≡ doubles_long
    → ((f : ℕ → ℕ) (h : ℕ → Float) → P (cells f wholes_long) (cells h doubles_long)) → P w x
spelled_out P w x e f p =
    subst (λ (u : List ℕ). P u x) (in_cells 0 w wholes_long e)
    (subst (λ (y : List Float). P (cells (λ i. get_or w i 0) wholes_long) y) (in_cells nan x doubles_long f) (p (λ i. get_or w i 0) (λ i. get_or x i nan)))

-- evaluate this vector at this time
abbrev asked : ℕ → Float → Answer
asked vector t = told 1 vector t no_figures

-- with an answer that is this one
answered : {a b : Answer} (w : List ℕ) (x : List Float) {y : Answered} → a ≡ b → left_with b w x ≡ y → left_with a w x ≡ y
answered w x e f = ap (λ (a : Answer). left_with a w x) e ∙ f

-- ---- the number of the history, which none of these writes

stood_number : (k : ℕ) → history_number k (not (eqb k 0)) ≡ k
unfolding history_number
stood_number zero = refl
stood_number (suc k) = rw (ne_eqb (suc k) 0 (λ e. omega arith))

-- with this number for the history
abbrev with_number : Answered → ℕ → Answered
with_number z k =
    let r = z.«record» in
    let x : History = record { present = k; previous_accepted_step = r.history.previous_accepted_step } in
    let after : Record = record {
      family = r.family;
      n = r.n;
      phase = r.phase;
      arguments = r.arguments;
      iteration = r.iteration;
      staging = r.staging;
      history = x;
    } in
    record { answer = z.answer; «record» = after }

-- it stands, so what is said with its meaning's number holds
found_again : (z : Answered) (k : ℕ) → with_number z k ≡ with_number z (history_number k (not (eqb k 0)))
found_again z k = ap (with_number z) (sym (stood_number k))

-- ---- the position of the next stage, and its evaluation at this time

module _ (t : Float) (g : Staging) where
  abbrev wholes_on : List ℕ → List ℕ
  wholes_on w = set (set (set w 2 4) 5 g.stages) 6 g.stage

  abbrev doubles_on : List Float → List Float
  doubles_on x =
      let c = g.recurrence in
      let p = c.polynomials in
      let after_one = set (set (set x 2 p.value_previous) 4 p.first_previous) 6 p.second_previous in
      let after_two = set (set (set after_one 8 p.value_previous_two) 10 p.first_previous_two) 12 p.second_previous_two in
      let after_three = set (set (set after_two 13 p.b_previous) 14 p.omega_one) 15 c.theta_previous in
      set (set (set (set after_three 16 p.b_previous_two) 17 c.theta_previous_two) 18 p.omega_zero) 19 p.gain

  abbrev Placed : List ℕ → List Float → Type 0
  Placed w x = left_with (asked 4 t) (wholes_on w) (doubles_on x) ≡ staged_outcome (lent w x) (On t g)

  placed_in_cells : (f : ℕ → ℕ) (h : ℕ → Float) → Placed (cells f wholes_long) (cells h doubles_long)
  unfolding outcome_of handed_back stands case_number number_in time_in figures_in written at_stage meaning brought
  placed_in_cells f h = found_again (left_with (asked 4 t) (wholes_on (cells f wholes_long)) (doubles_on (cells h doubles_long))) (f 7)

  pub placed : {a : Answer} → a ≡ asked 4 t → (w : List ℕ) (x : List Float) → length w ≡ wholes_long → length x ≡ doubles_long
      → left_with a (wholes_on w) (doubles_on x) ≡ staged_outcome (lent w x) (On t g)
  placed is w x e f = answered (wholes_on w) (doubles_on x) is (spelled_out Placed w x e f placed_in_cells)

-- ---- the same where only the stage and theta move

module _ (t : Float) (j : ℕ) (theta : Float) where
  abbrev wholes_moved : List ℕ → List ℕ
  wholes_moved w = set (set w 2 4) 6 j

  abbrev doubles_moved : List Float → List Float
  doubles_moved x = set (set x 17 (get_or x 15 nan)) 15 theta

  abbrev Moved : List ℕ → List Float → Type 0
  Moved w x = left_with (asked 4 t) (wholes_moved w) (doubles_moved x) ≡ staged_outcome (lent w x) (OnByTheta t j theta)

  moved_in_cells : (f : ℕ → ℕ) (h : ℕ → Float) → Moved (cells f wholes_long) (cells h doubles_long)
  unfolding outcome_of handed_back stands case_number number_in time_in figures_in written at_stage meaning brought
  moved_in_cells f h = found_again (left_with (asked 4 t) (wholes_moved (cells f wholes_long)) (doubles_moved (cells h doubles_long))) (f 7)

  pub moved : {a : Answer} → a ≡ asked 4 t → (w : List ℕ) (x : List Float) → length w ≡ wholes_long → length x ≡ doubles_long
      → left_with a (wholes_moved w) (doubles_moved x) ≡ staged_outcome (lent w x) (OnByTheta t j theta)
  moved is w x e f = answered (wholes_moved w) (doubles_moved x) is (spelled_out Moved w x e f moved_in_cells)

-- ---- only the phase

pub ended : (t : Float) {a : Answer} → a ≡ asked 10 t → (w : List ℕ) (x : List Float) → length w ≡ wholes_long
    → left_with a (set w 2 5) x ≡ staged_outcome (lent w x) (Ended t)
unfolding outcome_of handed_back stands case_number number_in time_in figures_in written in_phase meaning brought
ended t is w x e = answered (set w 2 5) x is (subst Ends (in_cells 0 w wholes_long e) (ends_in_cells (λ i. get_or w i 0)))
  where
    Ends : List ℕ → Type 0
    Ends u = left_with (asked 10 t) (set u 2 5) x ≡ staged_outcome (lent u x) (Ended t)

    ends_in_cells : (f : ℕ → ℕ) → Ends (cells f wholes_long)
    ends_in_cells f = found_again (left_with (asked 10 t) (set (cells f wholes_long) 2 5) x) (f 7)

pub emptied : {a : Answer} → a ≡ told 4 10 nought no_figures → (w : List ℕ) (x : List Float) → length w ≡ wholes_long
    → left_with a (set w 2 0) x ≡ staged_outcome (lent w x) NotFinite
unfolding outcome_of handed_back stands case_number number_in time_in figures_in written in_phase meaning brought
emptied is w x e = answered (set w 2 0) x is (subst Empties (in_cells 0 w wholes_long e) (empties_in_cells (λ i. get_or w i 0)))
  where
    Empties : List ℕ → Type 0
    Empties u = left_with (told 4 10 nought no_figures) (set u 2 0) x ≡ staged_outcome (lent u x) NotFinite

    empties_in_cells : (f : ℕ → ℕ) → Empties (cells f wholes_long)
    empties_in_cells f = found_again (left_with (told 4 10 nought no_figures) (set (cells f wholes_long) 2 0) x) (f 7)
