-- Two computations alike: they ask for the same on the same replies, and end alike. Of the older state, the last of the twelve vectors, that says something
-- only where there is a history, an older state that an attempt may read: without one that part of the area stands, whatever it holds, and nothing reads it.
use Rattle.std.specs.Prelude.{ℕ, ◌≡◌, Bool, true, cond, List, eqb, Float}
use Rattle.workspace.specs.declared.Vector.{Vector}
use Rattle.workspace.specs.Vectors.{Vectors, number, first_derivative, eigenvector, state, older_state}
use Rattle.session.specs.Attempt.{Asking, done, stopped, ask, FinishedAttempt, fixed_at, End, reached, refused}

-- stopped with the same number, and with 10 with the same vectors but for the last derivative
pub record SameStop (i : ℕ) (v : Vectors) (j : ℕ) (w : Vectors) : Type 0 where
  pub number_same : i ≡ j
  pub vectors_same : fixed_at i v ≡ fixed_at j w

-- done alike in the sense of R, or stopped alike
abbrev pub Alike : {A : Type 0} → (A → A → Type 0) → Asking A → Asking A → Type 0
Alike R (done x) (done y) = R x y
Alike R (done x) (stopped j w) = ⊥
Alike R (done x) (ask why u q l) = ⊥
Alike R (stopped i v) (done y) = ⊥
Alike R (stopped i v) (stopped j w) = SameStop i v j w
Alike R (stopped i v) (ask why u q l) = ⊥
Alike R (ask why t p k) (done y) = ⊥
Alike R (ask why t p k) (stopped j w) = ⊥
Alike R (ask why t p k) (ask why' u q l) = (why ≡ why') × (t ≡ u) × (p ≡ q) × ((d : List Float) → Alike R (k d) (l d))

-- ended alike in the sense of R, or refused alike
abbrev pub SameEnd : {A : Type 0} → (A → A → Type 0) → End A → End A → Type 0
SameEnd R (reached x) (reached y) = R x y
SameEnd R (reached x) (refused j w) = ⊥
SameEnd R (refused i v) (reached y) = ⊥
SameEnd R (refused i v) (refused j w) = SameStop i v j w

-- ---- vectors alike, with or without a history

-- every vector, but of the older state only where there is a history
abbrev pub compared : Bool → Vector → Bool
compared history b = cond (eqb (number b) (number older_state)) history true

abbrev pub SameVectors : Bool → Vectors → Vectors → Type 0
SameVectors history v w = (b : Vector) → compared history b ≡ true → v b ≡ w b

-- equal where an attempt reads before it writes: the kept state, its derivative, the eigenvector, and with a history the older state
pub record SameStart (history : Bool) (v w : Vectors) : Type 0 where
  pub state_same : v state ≡ w state
  pub first_same : v first_derivative ≡ w first_derivative
  pub eigenvector_same : v eigenvector ≡ w eigenvector
  pub older_same : history ≡ true → v older_state ≡ w older_state

-- the same finished attempt
pub record SameAttempt (history : Bool) (x y : FinishedAttempt) : Type 0 where
  pub norm_same : x.norm ≡ y.norm
  pub stages_same : x.stages ≡ y.stages
  pub passes_same : x.passes ≡ y.passes
  pub radius_same : x.scaled_radius ≡ y.scaled_radius
  pub vectors_same : SameVectors history x.vectors y.vectors
