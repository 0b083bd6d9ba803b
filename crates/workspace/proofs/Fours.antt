-- Four columns at a time: what four elements written, and one, say of columns, and that the loop of the row with the exchange goes on by either.
-- From the laws of Columns and Taking.
use mathlib.Core.Path.{◌≡◌, refl, sym, ap, ◌∙◌, subst, fun_ext}
use mathlib.Core.Logic.{◌⊎◌, inl, inr, ⊎_elim}
use mathlib.Core.Bool.{Bool, cond}
use mathlib.Core.List.{List, [], ◌∷◌}
use Prim.Native.Nat.{ℕ, zero, suc, ◌+◌, ◌-◌, ◌*◌, ◌≤◌, ◌<◌}
use native.Mathlib.Nat.{mul-le-mul_right, suc-mul}
use native.Mathlib.Omega.{arith}
use borrow.Author.Tests.{eq-eqb, ne_eqb}
use lib.ListN.{length, get_or, set, length-set}
use lib.Seq.{get_or-set_same, get_or-set_other}
use lib.Ieee.{Float, nan}
use Rattle.ieee.proofs.Logic.{le_or_lt}
use Rattle.workspace.specs.declared.stages.Entries.{Entries}
use Rattle.workspace.specs.declared.Vector.{Vector}
use Rattle.workspace.specs.Vectors.{number, column, unpack, derivative, previous_two, previous_one, next_stage}
use Rattle.workspace.specs.Kernel.{exchanged}
use Rattle.workspace.specs.Reads.{taking, Reads, rowed, moved, Moved, Put}
use Rattle.workspace.proofs.Columns.{Order, same, other, order, differ, with_at, set_here, set_there, written}
use Rattle.workspace.proofs.Areas.{long_at}
use Rattle.workspace.proofs.Rows.{exchange_rules, exchange_law}
use Rattle.workspace.proofs.Taking.{Taking, begin_taking, finish_taking}

pub four_cases : (P : ℕ → Type 0) → P 0 → P 1 → P 2 → P 3 → (u : ℕ) → u < 4 → P u
four_cases P a b c d zero h = a
four_cases P a b c d (suc zero) h = b
four_cases P a b c d (suc (suc zero)) h = c
four_cases P a b c d (suc (suc (suc zero))) h = d
four_cases P a b c d (suc (suc (suc (suc u)))) h = absurd (let z : ⊥ = omega arith in z)

-- ---- four stores

module _ (l : List Float) (p : ℕ) (x : List Float) (fits : p + 4 ≤ length l) where
  abbrev l₁ : List Float
  l₁ = set l p (get_or x 0 nan)

  abbrev l₂ : List Float
  l₂ = set l₁ (p + 1) (get_or x 1 nan)

  abbrev l₃ : List Float
  l₃ = set l₂ (p + 2) (get_or x 2 nan)

  abbrev l₄ : List Float
  l₄ = set l₃ (p + 3) (get_or x 3 nan)

  apart₄ : (q : ℕ) → (q < p) ⊎ (p + 4 ≤ q) → get_or l₄ q nan ≡ get_or l q nan
  apart₄ q (inl h) =
      get_or-set_other l₃ (p + 3) q (get_or x 3 nan) nan (λ (e : q ≡ p + 3). omega arith)
      ∙ get_or-set_other l₂ (p + 2) q (get_or x 2 nan) nan (λ (e : q ≡ p + 2). omega arith)
      ∙ get_or-set_other l₁ (p + 1) q (get_or x 1 nan) nan (λ (e : q ≡ p + 1). omega arith)
      ∙ get_or-set_other l p q (get_or x 0 nan) nan (λ (e : q ≡ p). omega arith)
  apart₄ q (inr h) =
      get_or-set_other l₃ (p + 3) q (get_or x 3 nan) nan (λ (e : q ≡ p + 3). omega arith)
      ∙ get_or-set_other l₂ (p + 2) q (get_or x 2 nan) nan (λ (e : q ≡ p + 2). omega arith)
      ∙ get_or-set_other l₁ (p + 1) q (get_or x 1 nan) nan (λ (e : q ≡ p + 1). omega arith)
      ∙ get_or-set_other l p q (get_or x 0 nan) nan (λ (e : q ≡ p). omega arith)

  at₀ : get_or l₄ (p + 0) nan ≡ get_or x 0 nan
  at₀ =
      ap (λ (q : ℕ). get_or l₄ q nan) (let e : p + 0 ≡ p = omega arith in e)
      ∙ get_or-set_other l₃ (p + 3) p (get_or x 3 nan) nan (λ (e : p ≡ p + 3). omega arith)
      ∙ get_or-set_other l₂ (p + 2) p (get_or x 2 nan) nan (λ (e : p ≡ p + 2). omega arith)
      ∙ get_or-set_other l₁ (p + 1) p (get_or x 1 nan) nan (λ (e : p ≡ p + 1). omega arith)
      ∙ get_or-set_same l p (get_or x 0 nan) nan (omega arith)

  at₁ : get_or l₄ (p + 1) nan ≡ get_or x 1 nan
  at₁ =
      get_or-set_other l₃ (p + 3) (p + 1) (get_or x 3 nan) nan (λ (e : p + 1 ≡ p + 3). omega arith)
      ∙ get_or-set_other l₂ (p + 2) (p + 1) (get_or x 2 nan) nan (λ (e : p + 1 ≡ p + 2). omega arith)
      ∙ get_or-set_same l₁ (p + 1) (get_or x 1 nan) nan (simp length-set (omega arith))

  at₂ : get_or l₄ (p + 2) nan ≡ get_or x 2 nan
  at₂ =
      get_or-set_other l₃ (p + 3) (p + 2) (get_or x 3 nan) nan (λ (e : p + 2 ≡ p + 3). omega arith)
      ∙ get_or-set_same l₂ (p + 2) (get_or x 2 nan) nan (simp length-set (omega arith))

  at₃ : get_or l₄ (p + 3) nan ≡ get_or x 3 nan
  at₃ = get_or-set_same l₃ (p + 3) (get_or x 3 nan) nan (simp length-set (omega arith))

  pub put_law : Put p x l l₄
  unfolding Put
  put_law = (simp length-set refl, four_cases (λ u. get_or l₄ (p + u) nan ≡ get_or x u nan) at₀ at₁ at₂ at₃, apart₄)

-- ---- and by columns

module _ (k : Vector) (n i : ℕ) (x l m : List Float) (put : Put (number k * n + i) x l m) (fits : i + 4 ≤ n) where
  -- an element of another vector is not among the four
  beyond : (b j : ℕ) → j < n → (number k < b) ⊎ (b < number k) → (b * n + j < number k * n + i) ⊎ (number k * n + i + 4 ≤ b * n + j)
  beyond b j h (inl p) = inr (omega (arith, mul-le-mul_right n p, suc-mul (number k) n))
  beyond b j h (inr p) = inl (omega (arith, mul-le-mul_right n p, suc-mul b n))

  pub put_here : (u : ℕ) → u < 4 → column n m (i + u) ≡ with_at k (get_or x u nan) (column n l (i + u))
  unfolding Put
  put_here u h = fun_ext (λ b. go b (order (number b) (number k)))
    where
      go : (b : Vector) → Order (number b) (number k) → column n m (i + u) b ≡ with_at k (get_or x u nan) (column n l (i + u)) b
      go b (same e) =
          ap (λ (q : ℕ). get_or m (q * n + (i + u)) nan) e
          ∙ ap (λ (q : ℕ). get_or m q nan) (let f : number k * n + (i + u) ≡ number k * n + i + u = omega arith in f)
          ∙ put.1 u h
          ∙ sym (ap (λ (t : Bool). cond t (get_or x u nan) (column n l (i + u) b)) (eq-eqb (number k) (number b) (sym e)))
      go b (other d) =
          put.2 (number b * n + (i + u)) (beyond (number b) (i + u) (omega arith) d)
          ∙ sym (ap (λ (t : Bool). cond t (get_or x u nan) (column n l (i + u) b)) (ne_eqb (number k) (number b) (differ d)))

  pub put_there : (j : ℕ) → j < n → (j < i) ⊎ (i + 4 ≤ j) → column n m j ≡ column n l j
  unfolding Put
  put_there j h s = fun_ext (λ b. put.2 (number b * n + j) (go b (order (number b) (number k)) s))
    where
      go : (b : Vector) → Order (number b) (number k) → (j < i) ⊎ (i + 4 ≤ j)
          → (number b * n + j < number k * n + i) ⊎ (number k * n + i + 4 ≤ number b * n + j)
      go b (other d) t = beyond (number b) j h d
      go b (same e) (inl t) = inl (let f : number b * n ≡ number k * n = ap (λ (q : ℕ). q * n) e in omega arith)
      go b (same e) (inr t) = inr (let f : number b * n ≡ number k * n = ap (λ (q : ℕ). q * n) e in omega arith)

-- ---- a column that four stores have moved

pub moves : (g : (Vector → Float) → Float) (y : Float) (w : Vector → Float) (w₁ w₂ w₃ w₄ : Vector → Float) {s t o x : Float}
    → w₁ ≡ with_at derivative s w → w₂ ≡ with_at next_stage t w₁ → w₃ ≡ with_at previous_two o w₂ → w₄ ≡ with_at previous_one x w₃
    → s ≡ y → t ≡ w previous_two → o ≡ w previous_one → x ≡ g (taking y w) → w₄ ≡ moved g (taking y w)
moves g y w w₁ w₂ w₃ w₄ {s} {t} {o} {x} c₁ c₂ c₃ c₄ es et eo ex =
    c₄
    ∙ ap (with_at previous_one x) (c₃ ∙ ap (with_at previous_two o) (c₂ ∙ ap (with_at next_stage t) c₁))
    ∙ ap (λ (z : Float). with_at previous_one z (with_at previous_two o (with_at next_stage t (with_at derivative s w)))) ex
    ∙ ap (λ (z : Float). with_at previous_one (g (taking y w)) (with_at previous_two z (with_at next_stage t (with_at derivative s w)))) eo
    ∙ ap (λ (z : Float). with_at previous_one (g (taking y w)) (with_at previous_two (w previous_one) (with_at next_stage z (with_at derivative s w)))) et
    ∙ ap (λ (z : Float). with_at previous_one (g (taking y w))
    (with_at previous_two (w previous_one) (with_at next_stage (w previous_two) (with_at derivative z w)))) es

-- one column
module _ (n i : ℕ) (g : (Vector → Float) → Float) (d l : List Float) (s t o x : Float) (long : length l ≡ 10 * n) (inside : i < n) where
  abbrev a₁ : List Float
  a₁ = set l (number derivative * n + i) s

  abbrev a₂ : List Float
  a₂ = set a₁ (number next_stage * n + i) t

  abbrev a₃ : List Float
  a₃ = set a₂ (number previous_two * n + i) o

  abbrev a₄ : List Float
  a₄ = set a₃ (number previous_one * n + i) x

  pub moved_one : s ≡ get_or d i nan → t ≡ column n l i previous_two → o ≡ column n l i previous_one → x ≡ g (taking (get_or d i nan) (column n l i))
      → Moved n g d i 1 l a₄
  unfolding Moved
  moved_one es et eo ex = (simp length-set refl, within, outside)
    where
      here : column n a₄ i ≡ moved g (taking (get_or d i nan) (column n l i))
      here = moves g (get_or d i nan) (column n l i) (column n a₁ i) (column n a₂ i) (column n a₃ i) (column n a₄ i)
          (set_here derivative n i s l inside (omega arith))
          (set_here next_stage n i t a₁ inside (simp length-set (omega arith)))
          (set_here previous_two n i o a₂ inside (simp length-set (omega arith)))
          (set_here previous_one n i x a₃ inside (simp length-set (omega arith)))
          es et eo ex

      within : (j : ℕ) → i ≤ j → j < i + 1 → column n a₄ j ≡ moved g (taking (get_or d j nan) (column n l j))
      within j p q = subst (λ (r : ℕ). column n a₄ r ≡ moved g (taking (get_or d r nan) (column n l r))) (let e : i ≡ j = omega arith in e) here

      there : (j : ℕ) → j < n → (j ≡ i → ⊥) → column n a₄ j ≡ column n l j
      there j h e =
          set_there previous_one n i j x a₃ inside h e
          ∙ set_there previous_two n i j o a₂ inside h e
          ∙ set_there next_stage n i j t a₁ inside h e
          ∙ set_there derivative n i j s l inside h e

      outside : (j : ℕ) → j < n → (j < i) ⊎ (i + 1 ≤ j) → column n a₄ j ≡ column n l j
      outside j h (inl p) = there j h (λ (e : j ≡ i). omega arith)
      outside j h (inr p) = there j h (λ (e : j ≡ i). omega arith)

-- four columns, of which a, b, c and e are read, and y₀ to y₃ worked out
module _ (n i : ℕ) (g : (Vector → Float) → Float) (d l m₁ m₂ m₃ m₄ : List Float) (a b c e : Entries) (y₀ y₁ y₂ y₃ : Float) (fits : i + 4 ≤ n) where
  abbrev seen : ℕ → Vector → Float
  seen j = taking (get_or d j nan) (column n l j)

  pub moved_four : Reads a (seen i) → Reads b (seen (i + 1)) → Reads c (seen (i + 2)) → Reads e (seen (i + 3))
      → y₀ ≡ g (seen i) → y₁ ≡ g (seen (i + 1)) → y₂ ≡ g (seen (i + 2)) → y₃ ≡ g (seen (i + 3))
      → Put (number derivative * n + i) (a.slope ∷ b.slope ∷ c.slope ∷ e.slope ∷ []) l m₁
      → Put (number next_stage * n + i) (a.two ∷ b.two ∷ c.two ∷ e.two ∷ []) m₁ m₂
      → Put (number previous_two * n + i) (a.one ∷ b.one ∷ c.one ∷ e.one ∷ []) m₂ m₃
      → Put (number previous_one * n + i) (y₀ ∷ y₁ ∷ y₂ ∷ y₃ ∷ []) m₃ m₄ → Moved n g d i 4 l m₄
  unfolding Moved Put Reads
  moved_four ra rb rc re e₀ e₁ e₂ e₃ p₁ p₂ p₃ p₄ = (p₄.0 ∙ p₃.0 ∙ p₂.0 ∙ p₁.0, within, outside)
    where
      ss : List Float
      ss = a.slope ∷ b.slope ∷ c.slope ∷ e.slope ∷ []

      ts : List Float
      ts = a.two ∷ b.two ∷ c.two ∷ e.two ∷ []

      os : List Float
      os = a.one ∷ b.one ∷ c.one ∷ e.one ∷ []

      ys : List Float
      ys = y₀ ∷ y₁ ∷ y₂ ∷ y₃ ∷ []

      at : (u : ℕ) → u < 4 → (x : Entries) (y : Float) → Reads x (seen (i + u)) → y ≡ g (seen (i + u)) → get_or ss u nan ≡ x.slope → get_or ts u nan ≡ x.two
          → get_or os u nan ≡ x.one → get_or ys u nan ≡ y → column n m₄ (i + u) ≡ moved g (seen (i + u))
      at u h x y r f es et eo ey =
          moves g (get_or d (i + u) nan) (column n l (i + u)) (column n m₁ (i + u)) (column n m₂ (i + u)) (column n m₃ (i + u)) (column n m₄ (i + u))
          (put_here derivative n i ss l m₁ p₁ fits u h)
          (put_here next_stage n i ts m₁ m₂ p₂ fits u h)
          (put_here previous_two n i os m₂ m₃ p₃ fits u h)
          (put_here previous_one n i ys m₃ m₄ p₄ fits u h)
          (es ∙ r.3) (et ∙ r.1) (eo ∙ r.0) (ey ∙ f)

      first : i ≡ i + 0
      first = omega arith

      here : (u : ℕ) → u < 4 → column n m₄ (i + u) ≡ moved g (seen (i + u))
      here = four_cases (λ u. column n m₄ (i + u) ≡ moved g (seen (i + u)))
          (at 0 (omega arith) a y₀ (subst (λ (j : ℕ). Reads a (seen j)) first ra) (subst (λ (j : ℕ). y₀ ≡ g (seen j)) first e₀) refl refl refl refl)
          (at 1 (omega arith) b y₁ rb e₁ refl refl refl refl)
          (at 2 (omega arith) c y₂ rc e₂ refl refl refl refl)
          (at 3 (omega arith) e y₃ re e₃ refl refl refl refl)

      within : (j : ℕ) → i ≤ j → j < i + 4 → column n m₄ j ≡ moved g (seen j)
      within j p q = subst (λ (r : ℕ). column n m₄ r ≡ moved g (seen r)) (let f : i + (j - i) ≡ j = omega arith in f) (here (j - i) (omega arith))

      outside : (j : ℕ) → j < n → (j < i) ⊎ (i + 4 ≤ j) → column n m₄ j ≡ column n l j
      outside j h f =
          put_there previous_one n i ys m₃ m₄ p₄ fits j h f
          ∙ put_there previous_two n i os m₂ m₃ p₃ fits j h f
          ∙ put_there next_stage n i ts m₁ m₂ p₂ fits j h f
          ∙ put_there derivative n i ss l m₁ p₁ fits j h f

-- ---- columns that are moved, one part after the other

module _ (n : ℕ) (g : (Vector → Float) → Float) (d : List Float) where
  pub moved_length : (i k : ℕ) (l m : List Float) → Moved n g d i k l m → length m ≡ length l
  unfolding Moved
  moved_length i k l m M = M.0

  moved_none : (i : ℕ) (l : List Float) → Moved n g d i 0 l l
  unfolding Moved
  moved_none i l = (refl, (λ j p q. absurd (let z : ⊥ = omega arith in z)), λ j h e. refl)

  pub moved_on : (i k e : ℕ) (l m o : List Float) → i + k + e ≤ n → Moved n g d i k l m → Moved n g d (i + k) e m o → Moved n g d i (k + e) l o
  unfolding Moved
  moved_on i k e l m o fits M O = (O.0 ∙ M.0, within, outside)
    where
      within : (j : ℕ) → i ≤ j → j < i + (k + e) → column n o j ≡ moved g (taking (get_or d j nan) (column n l j))
      within j p q = ⊎_elim
          (λ (r : i + k ≤ j). O.1 j r (omega arith) ∙ ap (λ (w : Vector → Float). moved g (taking (get_or d j nan) w)) (M.2 j (omega arith) (inr r)))
          (λ (r : j < i + k). O.2 j (omega arith) (inl r) ∙ M.1 j p r)
          (le_or_lt (i + k) j)

      outside : (j : ℕ) → j < n → (j < i) ⊎ (i + (k + e) ≤ j) → column n o j ≡ column n l j
      outside j h (inl r) = O.2 j h (inl (omega arith)) ∙ M.2 j h (inl r)
      outside j h (inr r) = O.2 j h (inr (omega arith)) ∙ M.2 j h (inr (omega arith))

  -- the loop from `from` on: at its start, and by k more columns
  pub moved_start : (from : ℕ) (l : List Float) → Moved n g d from (from - from) l l
  moved_start from l = subst (λ (k : ℕ). Moved n g d from k l l) (let e : 0 ≡ from - from = omega arith in e) (moved_none from l)

  pub moved_next : (from i k : ℕ) (l m o : List Float) → from ≤ i → i + k ≤ n → Moved n g d from (i - from) l m → Moved n g d i k m o
      → Moved n g d from (i + k - from) l o
  moved_next from i k l m o h p M O =
      subst (λ (j : ℕ). Moved n g d from j l o) (let e : i - from + k ≡ i + k - from = omega arith in e)
      (moved_on from (i - from) k l m o (omega arith) M (subst (λ (j : ℕ). Moved n g d j k m o) (let e : i ≡ from + (i - from) = omega arith in e) O))

-- ---- the loop goes on

pub goes_on : (d : List Float) (n : ℕ) (a : List Float) (g : (Vector → Float) → Float) (area later : List Float) (i k : ℕ)
    → Taking derivative d n a (exchange_rules g) area i → i + k ≤ n → Moved n g d i k area later → Taking derivative d n a (exchange_rules g) later (i + k)
unfolding Moved written
goes_on d n a g area later i k W h M = record {
  bound = h;
  long = M.0 ∙ W.long;
  fits = W.fits;
  past = λ j p. ⊎_elim
      (λ (q : i ≤ j). M.1 j q p ∙ ap (λ (w : Vector → Float). moved g (taking (get_or d j nan) w)) (W.ahead j q (omega arith)))
      (λ (q : j < i). M.2 j (omega arith) (inl q) ∙ W.past j q)
      (le_or_lt i j);
  ahead = λ j p q. M.2 j q (inr p) ∙ W.ahead j (omega arith) q;
}

-- ---- all columns are moved, in two parts

pub all_moved : (n k : ℕ) (g : (Vector → Float) → Float) (d l m o : List Float) → length l ≡ 10 * n → length d ≡ n → k ≤ n
    → Moved n g d 0 (k - 0) l m → Moved n g d k (n - k) m o → unpack n o ≡ exchanged (rowed n g (unpack n l) d)
all_moved n k g d l m o long wide h M O =
    finish_taking derivative d n l wide
    (goes_on d n l g m o k (n - k)
    (subst (λ (j : ℕ). Taking derivative d n l (exchange_rules g) m j) (let e : 0 + (k - 0) ≡ k = omega arith in e)
    (goes_on d n l g l m 0 (k - 0) (begin_taking derivative d n l 10 (exchange_rules g) refl (omega arith)) (omega arith) M))
    (omega arith) O) (omega arith)
    ∙ exchange_law n g _ (long_at n l previous_two (omega arith)) (long_at n l previous_one (omega arith))
