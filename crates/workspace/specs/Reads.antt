-- What the private functions of the rows promise of single columns and of four at a time. No public contract cites this. ⊕ ⊖ ⊗ are operations on doubles: they
-- round.
use Rattle.std.specs.Prelude.{◌≡◌, ◌⊎◌, cond, List, ℕ, ◌+◌, ◌≤◌, ◌<◌, eqb, length, get_or, Float}
use Rattle.std.specs.Float.{nan}
use Rattle.ieee.specs.Double.{◌⊕◌, ◌⊖◌, ◌⊗◌, one}
use Rattle.coefficients.specs.declared.Coefficients.{Coefficients}
use Rattle.workspace.specs.declared.stages.Entries.{Entries}
use Rattle.workspace.specs.declared.Vector.{Vector}
use Rattle.workspace.specs.Vectors.{Vectors, ◌with◌≔◌, each, number, column, first_derivative, derivative, previous_two, previous_one}
use Rattle.workspace.specs.Vectors.{next_stage, state}

-- a column with this element of the derivative, which the row takes in as it goes
abbrev pub taking : Float → (Vector → Float) → Vector → Float
taking x v b = cond (eqb (number derivative) (number b)) x (v b)

-- a row's five elements of a column
unfoldable pub Reads : Entries → (Vector → Float) → Type 0
Reads r x =
    (r.one ≡ x previous_one) × (r.two ≡ x previous_two) × (r.initial ≡ x state) × (r.slope ≡ x derivative) × (r.first ≡ x first_derivative)

-- what works an element out from what is read of a column, and does what g does of the column
abbrev pub Makes : (Entries → Float → Type 0) → ((Vector → Float) → Float) → Type 0
Makes gives g = (x : Entries) (y : Float) (v : Vector → Float) → gives x y → Reads x v → y ≡ g v

-- the terms of a row without the derivatives'
abbrev pub weighted : Coefficients → (Vector → Float) → Float
weighted c x = c.mu ⊗ x previous_one ⊕ c.nu ⊗ x previous_two ⊕ (one ⊖ c.mu ⊖ c.nu) ⊗ x state

-- the derivative d taken, and the row whose element is g of the column
abbrev pub rowed : ℕ → ((Vector → Float) → Float) → Vectors → List Float → Vectors
rowed n g v d = let w = v with derivative ≔ d in
    w with next_stage ≔ each n w g

-- a column after the row, whose element is g of it, and the exchange
abbrev pub moved : ((Vector → Float) → Float) → (Vector → Float) → Vector → Float
moved g v b =
    cond (eqb (number previous_one) (number b)) (g v)
    (cond (eqb (number previous_two) (number b)) (v previous_one)
    (cond (eqb (number next_stage) (number b)) (v previous_two) (v b)))

-- from l to m: k columns from i on are moved, each with its element of d taken, and the others stand
unfoldable pub Moved : ℕ → ((Vector → Float) → Float) → List Float → ℕ → ℕ → List Float → List Float → Type 0
Moved n g d i k l m =
    (length m ≡ length l)
    × ((j : ℕ) → i ≤ j → j < i + k → column n m j ≡ moved g (taking (get_or d j nan) (column n l j)))
    × ((j : ℕ) → j < n → (j < i) ⊎ (i + k ≤ j) → column n m j ≡ column n l j)

-- from l to m: the four from p on become x, and the others stand
unfoldable pub Put : ℕ → List Float → List Float → List Float → Type 0
Put p x l m =
    (length m ≡ length l)
    × ((u : ℕ) → u < 4 → get_or m (p + u) nan ≡ get_or x u nan)
    × ((q : ℕ) → (q < p) ⊎ (p + 4 ≤ q) → get_or m q nan ≡ get_or l q nan)
