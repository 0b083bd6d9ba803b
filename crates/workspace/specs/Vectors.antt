-- The area's vectors by name: workspace.rs's nine in its order, then a copy of the state, then the candidate. Document 01, "one lent area". Last, where the
-- family keeps it (TSRKC2: document 02, CR 6), the older state, accepted before the present one.
use Rattle.std.specs.Prelude.{◌≡◌, ℕ, zero, suc, ◌+◌, ◌*◌, cond, List, [], ◌∷◌, ◌++◌, eqb, take, drop, get_or, Float}
use Rattle.std.specs.Float.{nan}
use Rattle.family.specs.declared.Family.{Family}
use Rattle.family.specs.Family.{keeps_older}
use Rattle.workspace.specs.declared.Vector.{Vector}
use Rattle.workspace.specs.declared.Vector.TheVariants.{FirstDerivative, LastDerivative, Derivative, PreviousTwo, PreviousOne, NextStage, Eigenvector, PerturbedState, PerturbedDerivative, State, Candidate, OlderState}
unfoldable pub use Rattle.norm.specs.Norm.{sum_of_squares, all_finite, root_of_squares, vector_norm}

-- the code's vectors, by the names that definitions and theorems have for them
abbrev pub first_derivative : Vector
first_derivative = FirstDerivative

abbrev pub last_derivative : Vector
last_derivative = LastDerivative

abbrev pub derivative : Vector
derivative = Derivative

abbrev pub previous_two : Vector
previous_two = PreviousTwo

abbrev pub previous_one : Vector
previous_one = PreviousOne

abbrev pub next_stage : Vector
next_stage = NextStage

abbrev pub eigenvector : Vector
eigenvector = Eigenvector

abbrev pub perturbed_state : Vector
perturbed_state = PerturbedState

abbrev pub perturbed_derivative : Vector
perturbed_derivative = PerturbedDerivative

abbrev pub state : Vector
state = State

abbrev pub candidate : Vector
candidate = Candidate

abbrev pub older_state : Vector
older_state = OlderState

abbrev pub number : Vector → ℕ
number FirstDerivative = 0
number LastDerivative = 1
number Derivative = 2
number PreviousTwo = 3
number PreviousOne = 4
number NextStage = 5
number Eigenvector = 6
number PerturbedState = 7
number PerturbedDerivative = 8
number State = 9
number Candidate = 10
number OlderState = 11

-- and the name of a number below 12
abbrev pub named : ℕ → Vector
named zero = first_derivative
named (suc zero) = last_derivative
named (suc (suc zero)) = derivative
named (suc (suc (suc zero))) = previous_two
named (suc (suc (suc (suc zero)))) = previous_one
named (suc (suc (suc (suc (suc zero))))) = next_stage
named (suc (suc (suc (suc (suc (suc zero)))))) = eigenvector
named (suc (suc (suc (suc (suc (suc (suc zero))))))) = perturbed_state
named (suc (suc (suc (suc (suc (suc (suc (suc zero)))))))) = perturbed_derivative
named (suc (suc (suc (suc (suc (suc (suc (suc (suc zero))))))))) = state
named (suc (suc (suc (suc (suc (suc (suc (suc (suc (suc zero)))))))))) = candidate
named (suc (suc (suc (suc (suc (suc (suc (suc (suc (suc (suc k))))))))))) = older_state

-- how many of them the area of a family has
unfoldable pub vector_count : Family → ℕ
vector_count f = cond (keeps_older f) 12 11

-- and how long each is there: one that the family does not keep is empty
abbrev pub width : Family → ℕ → Vector → ℕ
width f n b = cond (eqb (number b) (number older_state)) (cond (keeps_older f) n 0) n

abbrev pub Vectors : Type 0
Vectors = Vector → List Float

-- one vector written, the others left
infixl 10 ◌with◌≔◌
abbrev pub ◌with◌≔◌ : Vectors → Vector → List Float → Vectors
(v with a ≔ x) b = cond (eqb (number a) (number b)) x (v b)

-- the area: the vectors one after the other, each n long, and empty past its end
unfoldable pub unpack : ℕ → List Float → Vectors
unpack n area a = take n (drop (number a * n) area)

-- how long they are together, and what a longer area has beyond them
abbrev pub extent : ℕ → ℕ
extent n = 12 * n

abbrev pub beyond : ℕ → List Float → List Float
beyond n area = drop (extent n) area

-- from area l to area m: the vectors become f of what they were, and what stands beyond them stands
pub record Becomes (n : ℕ) (l m : List Float) (f : Vectors → Vectors) : Type 0 where
  pub vectors : unpack n m ≡ f (unpack n l)
  pub rest : beyond n m ≡ beyond n l

-- the elements at one index, read in the area
abbrev pub column : ℕ → List Float → ℕ → Vector → Float
column n area i a = get_or area (number a * n + i) nan

abbrev pub in_order : Vectors → List (List Float)
in_order v =
    v first_derivative ∷ v last_derivative ∷ v derivative ∷ v previous_two ∷ v previous_one ∷ v next_stage
    ∷ v eigenvector ∷ v perturbed_state ∷ v perturbed_derivative ∷ v state ∷ v candidate ∷ v older_state ∷ []

abbrev pub join : List (List Float) → List Float
join [] = []
join (x ∷ xs) = x ++ join xs

unfoldable pub pack : Vectors → List Float
pack v = join (in_order v)

-- f i, f (i + 1), .., n of them
abbrev pub tabulate : (ℕ → Float) → ℕ → ℕ → List Float
tabulate f i zero = []
tabulate f i (suc n) = f i ∷ tabulate f (suc i) n

-- a vector worked out index by index: f is handed the column, the vectors' elements at one index
unfoldable pub each : ℕ → Vectors → ((Vector → Float) → Float) → List Float
each n v f = tabulate (λ i. f (λ a. get_or (v a) i nan)) 0 n
