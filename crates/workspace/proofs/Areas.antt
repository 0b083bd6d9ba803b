-- The vectors and the area are got back from each other, and every step of the kernel keeps the vectors' length.
use mathlib.Core.Path.{◌≡◌, refl, sym, ap, ◌∙◌, fun_ext}
use mathlib.Core.Bool.{Bool, true, false, cond}
use mathlib.Core.List.{List, [], ◌∷◌, ◌++◌, append-nil}
use Prim.Native.Nat.{ℕ, zero, suc, ◌+◌, ◌*◌, ◌≤◌, ◌<◌}
use native.Mathlib.Nat.{mul-le-mul_right, suc-mul, zero-mul, not-suc-le-zero, le_of_suc-le-suc}
use native.Mathlib.Omega.{arith}
use lib.Dec.{eqb}
use borrow.Author.Tests.{eqb-true}
use lib.ListN.{length, take, drop, get_or, replicate, length-append, length-take, length-drop, length-replicate}
use lib.Seq.{take-append_seam, drop-append-add, drop-drop, take-add, take_all, length-take-le}
use lib.Ieee.{Float, nan, le}
use Rattle.ieee.specs.Double.{one, min_positive}
use Rattle.family.specs.declared.Setting.{Setting}
use Rattle.family.specs.declared.RowForm.{RowForm}
use Rattle.family.specs.declared.CandidateForm.{CandidateForm}
use Rattle.family.specs.declared.CandidateForm.TheVariants.{LastStage, Combined, WithOlder}
use Rattle.family.specs.declared.Family.{Family}
use Rattle.family.specs.declared.Family.TheVariants.{RKC, RKL1, RKL2, RKG1, RKG2, RKMC2, TSRKC2}
use Rattle.family.specs.Family.{keeps_older, facts_of, kind}
use Rattle.coefficients.specs.declared.Recurrence.{Recurrence}
use Rattle.coefficients.specs.declared.Coefficients.{Coefficients}
use Rattle.coefficients.specs.Rows.{candidate_weights}
use Rattle.workspace.specs.declared.Arguments.{Arguments}
use Rattle.workspace.specs.declared.Vector.{Vector}
use Rattle.workspace.specs.Vectors.{Vectors, ◌with◌≔◌, number, named, vector_count, width, unpack, Becomes, pack, join, in_order, tabulate, each}
use Rattle.workspace.specs.Vectors.{vector_norm, first_derivative, last_derivative, derivative, previous_two, previous_one, next_stage, eigenvector}
use Rattle.workspace.specs.declared.Vector.TheVariants.{FirstDerivative, LastDerivative, Derivative, PreviousTwo, PreviousOne, NextStage, Eigenvector, PerturbedState, PerturbedDerivative, State, Candidate, OlderState}
use Rattle.workspace.specs.Vectors.{perturbed_state, perturbed_derivative, state, candidate, older_state}
use Rattle.workspace.specs.Kernel.{with_direction, perturbed_by, perturbed, turned, first_stage, with_row_in, entry_in, exchanged, candidate_in}
use Rattle.workspace.specs.Kernel.{combined_entry, older_of, mixed_entry, with_candidate, with_last, error}

-- every vector is as long as it is in the family's area
abbrev pub Long : Family → ℕ → Vectors → Type 0
Long f n v = (b : Vector) → length (v b) ≡ width f n b

-- ---- numbers and names

pub number_below : (b : Vector) → number b < 12
number_below FirstDerivative = omega arith
number_below LastDerivative = omega arith
number_below Derivative = omega arith
number_below PreviousTwo = omega arith
number_below PreviousOne = omega arith
number_below NextStage = omega arith
number_below Eigenvector = omega arith
number_below PerturbedState = omega arith
number_below PerturbedDerivative = omega arith
number_below State = omega arith
number_below Candidate = omega arith
number_below OlderState = omega arith

pub number_named : (k : ℕ) → k < 12 → number (named k) ≡ k
number_named zero h = refl
number_named (suc zero) h = refl
number_named (suc (suc zero)) h = refl
number_named (suc (suc (suc zero))) h = refl
number_named (suc (suc (suc (suc zero)))) h = refl
number_named (suc (suc (suc (suc (suc zero))))) h = refl
number_named (suc (suc (suc (suc (suc (suc zero)))))) h = refl
number_named (suc (suc (suc (suc (suc (suc (suc zero))))))) h = refl
number_named (suc (suc (suc (suc (suc (suc (suc (suc zero)))))))) h = refl
number_named (suc (suc (suc (suc (suc (suc (suc (suc (suc zero))))))))) h = refl
number_named (suc (suc (suc (suc (suc (suc (suc (suc (suc (suc zero)))))))))) h = refl
number_named (suc (suc (suc (suc (suc (suc (suc (suc (suc (suc (suc zero))))))))))) h = refl
number_named (suc (suc (suc (suc (suc (suc (suc (suc (suc (suc (suc (suc k)))))))))))) h = absurd (omega (arith, h))

pub named_number : (b : Vector) → named (number b) ≡ b
named_number FirstDerivative = refl
named_number LastDerivative = refl
named_number Derivative = refl
named_number PreviousTwo = refl
named_number PreviousOne = refl
named_number NextStage = refl
named_number Eigenvector = refl
named_number PerturbedState = refl
named_number PerturbedDerivative = refl
named_number State = refl
named_number Candidate = refl
named_number OlderState = refl

-- vector k lies within the first m of n doubles each
pub room : (m k n : ℕ) → k < m → k * n + n ≤ m * n
room m k n h = omega (arith, mul-le-mul_right n h, suc-mul k n)

-- ---- the vectors of an area

pub long_at : (n : ℕ) (area : List Float) (b : Vector) → number b * n + n ≤ length area → length (unpack n area b) ≡ n
unfolding unpack
long_at n area b h = length-take-le n (drop (number b * n) area) (omega (arith, length-drop (number b * n) area))

-- a family's area has the first eleven whole, and never more than twelve
pub eleven : (f : Family) (n : ℕ) → 11 * n ≤ vector_count f * n
unfolding vector_count
eleven f n = go (keeps_older f)
  where
    go : (t : Bool) → 11 * n ≤ cond t 12 11 * n
    go true = omega arith
    go false = omega arith

pub whole : (f : Family) (n : ℕ) (area : List Float) → length area ≡ vector_count f * n → 11 * n ≤ length area
whole f n area h = omega (arith, eleven f n)

pub at_most_twelve : (f : Family) {k : ℕ} (n : ℕ) → k ≡ vector_count f → k * n ≤ 12 * n
unfolding vector_count
at_most_twelve f {k} n e = go (keeps_older f) e
  where
    go : (t : Bool) → k ≡ cond t 12 11 → k * n ≤ 12 * n
    go true e = rw e (omega arith)
    go false e = rw e (omega arith)

-- twelve where the candidate takes the older state, and only there
taken_by : CandidateForm → ℕ
taken_by LastStage = 11
taken_by Combined = 11
taken_by WithOlder = 12

counted : (f : Family) → vector_count f ≡ taken_by (facts_of f).candidate
unfolding vector_count keeps_older facts_of taken_by
counted RKC = refl
counted RKL1 = refl
counted RKL2 = refl
counted RKG1 = refl
counted RKG2 = refl
counted RKMC2 = refl
counted TSRKC2 = refl

-- TSRKC2's area has twelve vectors, every other family's eleven
pub tsrkc2_twelve : vector_count TSRKC2 ≡ 12
unfolding vector_count keeps_older facts_of
tsrkc2_twelve = refl

pub others_eleven : (f : Family) → (f ≡ TSRKC2 → ⊥) → vector_count f ≡ 11
unfolding vector_count keeps_older facts_of
others_eleven RKC h = refl
others_eleven RKL1 h = refl
others_eleven RKL2 h = refl
others_eleven RKG1 h = refl
others_eleven RKG2 h = refl
others_eleven RKMC2 h = refl
others_eleven TSRKC2 h = absurd (h refl)

pub twelve : (f : Family) → (facts_of f).candidate ≡ WithOlder → vector_count f ≡ 12
unfolding taken_by
twelve f e = counted f ∙ ap taken_by e

-- each vector as long as it is there
pub long_unpack : (f : Family) (n : ℕ) (area : List Float) → length area ≡ vector_count f * n → Long f n (unpack n area)
unfolding vector_count unpack
long_unpack f n area h = every
  where
    first : (b : Vector) → number b < 11 → length (unpack n area b) ≡ n
    first b l = long_at n area b (omega (arith, room 11 (number b) n l, whole f n area h))

    last : (t : Bool) → length area ≡ cond t 12 11 * n → length (unpack n area older_state) ≡ cond t n 0
    last true e = long_at n area older_state (omega arith)
    last false e = simp (length-take, length-drop) (omega arith)

    every : Long f n (unpack n area)
    every FirstDerivative = first first_derivative (omega arith)
    every LastDerivative = first last_derivative (omega arith)
    every Derivative = first derivative (omega arith)
    every PreviousTwo = first previous_two (omega arith)
    every PreviousOne = first previous_one (omega arith)
    every NextStage = first next_stage (omega arith)
    every Eigenvector = first eigenvector (omega arith)
    every PerturbedState = first perturbed_state (omega arith)
    every PerturbedDerivative = first perturbed_derivative (omega arith)
    every State = first state (omega arith)
    every Candidate = first candidate (omega arith)
    every OlderState = last (keeps_older f) h

-- ---- an area that becomes another

module _ {n : ℕ} {l m : List Float} {f : Vectors → Vectors} where
  -- the same vectors, said otherwise
  pub becomes_as : {g : Vectors → Vectors} → Becomes n l m f → f (unpack n l) ≡ g (unpack n l) → Becomes n l m g
  becomes_as B e = record { vectors = B.vectors ∙ e; rest = B.rest }

  -- one step after the other
  pub becomes_then : {o : List Float} {g : Vectors → Vectors} → Becomes n l m f → Becomes n m o g → Becomes n l o (λ v. g (f v))
  becomes_then {o} {g} B C = record { vectors = C.vectors ∙ ap g B.vectors; rest = C.rest ∙ B.rest }

-- ---- the area got back from its vectors

-- the vectors i, i + 1, .., m of them
pieces : ℕ → List Float → ℕ → ℕ → List (List Float)
pieces n area i zero = []
pieces n area i (suc m) = take n (drop (i * n) area) ∷ pieces n area (suc i) m

join_pieces : (n : ℕ) (area : List Float) (i m : ℕ) → join (pieces n area i m) ≡ take (m * n) (drop (i * n) area)
unfolding pieces
join_pieces n area i zero = ap (λ (k : ℕ). take k (drop (i * n) area)) (sym (zero-mul n))
join_pieces n area i (suc m) =
    let e : i * n + n ≡ suc i * n = omega (arith, suc-mul i n) in
    let e' : n + m * n ≡ suc m * n = omega (arith, suc-mul m n) in
    ap (λ (l : List Float). take n (drop (i * n) area) ++ l) (join_pieces n area (suc i) m)
    ∙ ap (λ (k : ℕ). take n (drop (i * n) area) ++ take (m * n) (drop k area)) (sym e)
    ∙ ap (λ (l : List Float). take n (drop (i * n) area) ++ take (m * n) l) (sym (drop-drop n (i * n) area))
    ∙ sym (take-add n (m * n) (drop (i * n) area))
    ∙ ap (λ (k : ℕ). take k (drop (i * n) area)) e'

-- an area of twelve vectors, or fewer
pub pack_unpack : (n : ℕ) (area : List Float) → length area ≤ 12 * n → pack (unpack n area) ≡ area
unfolding pack unpack pieces
pack_unpack n area h =
    join_pieces n area 0 12
    ∙ ap (λ (k : ℕ). take (12 * n) (drop k area)) (zero-mul n)
    ∙ take_all (12 * n) area h

-- what an area is, from what its vectors are
pub packed : (f : Family) (n : ℕ) (area : List Float) {v : Vectors} → length area ≡ vector_count f * n → unpack n area ≡ v → area ≡ pack v
packed f n area h e = sym (pack_unpack n area (omega (arith, at_most_twelve f n refl))) ∙ ap pack e

-- ---- the vectors got back from their area

-- each n long, but the last may be shorter
data All (n : ℕ) : List (List Float) → Type 0 where
  last : {x : List Float} → length x ≤ n → All n (x ∷ [])
  more : {x : List Float} {xs : List (List Float)} → length x ≡ n → All n xs → All n (x ∷ xs)

part : (n k : ℕ) {xs : List (List Float)} → All n xs → k < length xs → take n (drop (k * n) (join xs)) ≡ get_or xs k []
part n zero (last {x} p) h = rw zero-mul (ap (take n) (append-nil x) ∙ take_all n x p)
part n (suc k) (last p) h = absurd (not-suc-le-zero (le_of_suc-le-suc h))
part n zero (more {x} {xs} p q) h = rw (zero-mul, ← p) (take-append_seam x (join xs))
part n (suc k) (more {x} {xs} p q) h =
    let e : suc k * n ≡ length x + k * n = omega (arith, suc-mul k n) in
    ap (λ (i : ℕ). take n (drop i (x ++ join xs))) e
    ∙ ap (λ (l : List Float). take n l) (drop-append-add x (join xs) (k * n))
    ∙ part n k q (le_of_suc-le-suc h)

short : (t : Bool) (n : ℕ) → cond t n 0 ≤ n
short true n = omega arith
short false n = omega arith

all : (f : Family) (n : ℕ) (v : Vectors) → Long f n v → All n (in_order v)
all f n v h =
    more (h first_derivative) (more (h last_derivative) (more (h derivative) (more (h previous_two) (more (h previous_one) (more (h next_stage)
    (more (h eigenvector) (more (h perturbed_state) (more (h perturbed_derivative) (more (h state) (more (h candidate)
    (last {x = v older_state} (omega (arith, h older_state, short (keeps_older f) n)))))))))))))

pub unpack_pack : (f : Family) (n : ℕ) (v : Vectors) → Long f n v → unpack n (pack v) ≡ v
unfolding unpack pack
unpack_pack f n v h = fun_ext go
  where
    go : (b : Vector) → unpack n (pack v) b ≡ v b
    go FirstDerivative = part n 0 (all f n v h) (omega arith)
    go LastDerivative = part n 1 (all f n v h) (omega arith)
    go Derivative = part n 2 (all f n v h) (omega arith)
    go PreviousTwo = part n 3 (all f n v h) (omega arith)
    go PreviousOne = part n 4 (all f n v h) (omega arith)
    go NextStage = part n 5 (all f n v h) (omega arith)
    go Eigenvector = part n 6 (all f n v h) (omega arith)
    go PerturbedState = part n 7 (all f n v h) (omega arith)
    go PerturbedDerivative = part n 8 (all f n v h) (omega arith)
    go State = part n 9 (all f n v h) (omega arith)
    go Candidate = part n 10 (all f n v h) (omega arith)
    go OlderState = part n 11 (all f n v h) (omega arith)

-- the lengths added up
total : List (List Float) → ℕ
total [] = 0
total (x ∷ xs) = length x + total xs

length_join : (xs : List (List Float)) → length (join xs) ≡ total xs
unfolding total
length_join [] = refl
length_join (x ∷ xs) = length-append x (join xs) ∙ ap (λ (k : ℕ). length x + k) (length_join xs)

pub length_pack : (f : Family) (n : ℕ) (v : Vectors) → Long f n v → length (pack v) ≡ vector_count f * n
unfolding pack vector_count total
length_pack f n v h =
    length_join (in_order v)
    ∙ rw (h first_derivative, h last_derivative, h derivative, h previous_two, h previous_one, h next_stage)
    (rw (h eigenvector, h perturbed_state, h perturbed_derivative, h state, h candidate, h older_state) (go (keeps_older f)))
  where
    go : (t : Bool) → n + (n + (n + (n + (n + (n + (n + (n + (n + (n + (n + (cond t n 0 + 0))))))))))) ≡ cond t 12 11 * n
    go true = omega arith
    go false = omega arith

-- ---- every step keeps the length

pub length_tabulate : (f : ℕ → Float) (i n : ℕ) → length (tabulate f i n) ≡ n
length_tabulate f i zero = refl
length_tabulate f i (suc n) = ap suc (length_tabulate f (suc i) n)

pub length_each : (n : ℕ) (v : Vectors) (f : (Vector → Float) → Float) → length (each n v f) ≡ n
unfolding each
length_each n v f = length_tabulate (λ i. f (λ a. get_or (v a) i nan)) 0 n

module _ (f : Family) (n : ℕ) where
  pub long_with : (v : Vectors) (b : Vector) (x : List Float) → Long f n v → length x ≡ width f n b → Long f n (v with b ≔ x)
  long_with v b x h p c = go (eqb (number b) (number c)) refl
    where
      go : (t : Bool) → eqb (number b) (number c) ≡ t → length (cond t x (v c)) ≡ width f n c
      go true e = p ∙ ap (width f n) (sym (named_number b) ∙ ap named (eqb-true (number b) (number c) e) ∙ named_number c)
      go false e = h c

  -- a vector that every family has, worked out
  long_each : (v w : Vectors) (b : Vector) (g : (Vector → Float) → Float) → Long f n v → width f n b ≡ n → Long f n (v with b ≔ each n w g)
  long_each v w b g h e = long_with v b (each n w g) h (length_each n w g ∙ sym e)

  pub long_direction : (v : Vectors) → Long f n v → Long f n (with_direction n v)
  unfolding with_direction
  long_direction v h = go (le (vector_norm (v eigenvector)) min_positive) (le (vector_norm (v first_derivative)) min_positive)
    where
      go : (t u : Bool) → Long f n (cond t (cond u (v with eigenvector ≔ replicate n one) (v with eigenvector ≔ v first_derivative)) v)
      go true true = long_with v eigenvector (replicate n one) h (length-replicate n one)
      go true false = long_with v eigenvector (v first_derivative) h (h first_derivative)
      go false u = h

  pub long_perturbed : (p : Float) (v : Vectors) → Long f n v → Long f n (perturbed n p v)
  unfolding perturbed perturbed_by
  long_perturbed p v h = long_each v v perturbed_state _ h refl

  pub long_turned : (v : Vectors) (d : List Float) → Long f n v → length d ≡ n → Long f n (turned n v d)
  unfolding turned
  long_turned v d h p = let w = v with perturbed_derivative ≔ d in long_each w w eigenvector _ (long_with v perturbed_derivative d h p) refl

  pub long_first : (step mu~ : Float) (v : Vectors) → Long f n v → Long f n (first_stage n step mu~ v)
  unfolding first_stage
  long_first step mu~ v h = long_each (v with previous_two ≔ v state) v previous_one _ (long_with v previous_two (v state) h (h state)) refl

  pub long_row : (form : RowForm) (step : Float) (c : Coefficients) (v : Vectors) (d : List Float) → Long f n v → length d ≡ n
      → Long f n (with_row_in form n step c v d)
  unfolding with_row_in
  long_row form step c v d h p = let w = v with derivative ≔ d in long_each w w next_stage (entry_in form step c) (long_with v derivative d h p) refl

  pub long_exchanged : (v : Vectors) → Long f n v → Long f n (exchanged v)
  unfolding exchanged
  long_exchanged v h =
      long_with (v with previous_two ≔ v previous_one with previous_one ≔ v next_stage) next_stage (v previous_two)
      (long_with (v with previous_two ≔ v previous_one) previous_one (v next_stage)
      (long_with v previous_two (v previous_one) h (h previous_one)) (h next_stage)) (h previous_two)

  pub long_candidate : (m : Setting) (step : Float) (s : ℕ) (c : Recurrence) (row : Coefficients) (v : Vectors) → Long f n v
      → Long f n (with_candidate m n step s c row v)
  unfolding with_candidate candidate_in
  long_candidate m step s c row v h = long_with v candidate (candidate_in (facts_of (kind m)).candidate m n step s c row v) h
      (go (facts_of (kind m)).candidate)
    where
      go : (form : CandidateForm) → length (candidate_in form m n step s c row v) ≡ n
      go LastStage = h next_stage
      go Combined = length_each n v (combined_entry step (candidate_weights s c))
      go WithOlder = length_each n v (mixed_entry (older_of m) c.polynomials.gain)

  pub long_last : (m : Setting) (a : Arguments) (v : Vectors) (d : List Float) → Long f n v → length d ≡ n → Long f n (with_last m n a v d)
  unfolding with_last
  long_last m a v d h p = go a.adaptive
    where
      w : Vectors
      w = v with last_derivative ≔ d

      go : (t : Bool) → Long f n (cond t (w with derivative ≔ each n w (error m a.step)) w)
      go true = long_each w w derivative (error m a.step) (long_with v last_derivative d h p) refl
      go false = long_with v last_derivative d h p
