-- The loop over columns that also takes a vector in: at each turn element i of d is stored into vector k, and then what the rules make of
-- column i with that element. What holds at its head, at the start, after a turn, and what the vectors are at the end, from the laws of Columns.
-- The rows cite this.
use mathlib.Core.Path.{◌≡◌, refl, sym, ap, ◌∙◌, subst, fun_ext}
use mathlib.Core.Logic.{⊎_elim}
use mathlib.Core.Bool.{true}
use mathlib.Core.List.{List, ◌∷◌}
use Prim.Native.Nat.{ℕ, ◌+◌, ◌*◌, ◌≤◌, ◌<◌, zero-le}
use native.Mathlib.Nat.{eq-or-lt_of_le, not-suc-le-zero}
use native.Mathlib.Omega.{arith}
use lib.ListN.{length, get_or}
use lib.Seq.{ext_get_or}
use lib.Ieee.{Float, nan}
use Rattle.workspace.specs.declared.Vector.{Vector}
use Rattle.workspace.specs.Vectors.{Vectors, ◌with◌≔◌, column, unpack}
use Rattle.workspace.proofs.Columns.{Rules, written_by, with_at, stores, written, among, Room, roomy, length_stores, stores_here, stores_there, at}
use Rattle.workspace.proofs.Columns.{with_column, written_column, Before, length_with, still, written_length, unpack_column, unpack_length, unpack_short}
use Rattle.workspace.proofs.Columns.{roomy_before, Made, sent, sent_made}

module _ (k : Vector) (d : List Float) (n : ℕ) (a : List Float) where
  -- column j with its element of d
  abbrev pub given_at : ℕ → Vector → Float
  given_at j = with_at k (get_or d j nan) (column n a j)

  -- the vectors with d taken
  abbrev pub given : Vectors
  given = unpack n a with k ≔ d

  -- a is the area at the start: columns below i are done, and the others are as they were
  pub record Taking (rs : Rules) (area : List Float) (i : ℕ) : Type 0 where
    pub bound : i ≤ n
    pub long : length area ≡ length a
    pub fits : Room n (length a) ((k, λ x. x k) ∷ rs)
    pub past : (j : ℕ) → j < i → column n area j ≡ written rs (given_at j) (given_at j)
    pub ahead : (j : ℕ) → i ≤ j → j < n → column n area j ≡ column n a j

  pub begin_taking : (m : ℕ) (rs : Rules) → among m ((k, λ x. x k) ∷ rs) ≡ true → m * n ≤ length a → Taking rs a 0
  begin_taking m rs e h = record {
    bound = zero-le;
    long = refl;
    fits = roomy m n (length a) ((k, λ x. x k) ∷ rs) e h;
    past = λ j p. absurd (not-suc-le-zero p);
    ahead = λ j p q. refl;
  }

  module _ {rs : Rules} {area : List Float} {i : ℕ} where
    -- column i after the stores of a turn
    taken_here : (x : Float) (xs : List Float) → Taking rs area i → i < n → x ≡ get_or d i nan → Made rs (with_at k x (column n area i)) xs
        → column n (stores n i ((k, x) ∷ sent rs xs) area) i ≡ written rs (given_at i) (given_at i)
    unfolding Room written
    taken_here x xs W h e m =
        let kept : with_at k x (column n area i) ≡ given_at i = ap (λ (v : Vector → Float). with_at k x v) (W.ahead i (omega arith) h)
        ∙ ap (λ (y : Float). with_at k y (column n a i)) e in
        let v = with_at k x (column n area i) in
        ap (λ (l : List (Vector × Float)). column n (stores n i ((k, x) ∷ l) area) i) (sent_made rs v xs m)
        ∙ stores_here n i ((k, λ y. x) ∷ rs) v area h (subst (λ (q : ℕ). Room n q ((k, λ y. x) ∷ rs)) (sym W.long) W.fits)
        ∙ ap (λ (c : Vector → Float). written rs c c) kept

    pub turn_taking : (x : Float) (xs : List Float) → Taking rs area i → i < n → x ≡ get_or d i nan → Made rs (with_at k x (column n area i)) xs
        → Taking rs (stores n i ((k, x) ∷ sent rs xs) area) (i + 1)
    turn_taking x xs W h e m =
        let ws : List (Vector × Float) = (k, x) ∷ sent rs xs in
        record {
          bound = omega arith;
          long = length_stores n i ws area ∙ W.long;
          fits = W.fits;
          past = λ j p. ⊎_elim
              (λ (q : j ≡ i). subst (λ (t : ℕ). column n (stores n i ws area) t ≡ written rs (given_at t) (given_at t)) (sym q) (taken_here x xs W h e m))
              (λ (q : j < i). stores_there n i j ws area h (omega arith) (λ (z : j ≡ i). omega arith) ∙ W.past j q)
              (eq-or-lt_of_le (let z : j ≤ i = omega arith in z));
          ahead = λ j p q. stores_there n i j ws area h q (λ (z : j ≡ i). omega arith) ∙ W.ahead j (omega arith) q;
        }

    pub finish_taking : length d ≡ n → Taking rs area i → n ≤ i → unpack n area ≡ written_by n rs given given
    unfolding Before
    finish_taking long W h = fun_ext (λ b. ext_get_or nan (unpack n area b) (written_by n rs given given b)
        (unpack_length n area a W.long b ∙ sym (written_length n rs given given (still n rs (unpack n a) k d before.0 long before.1) b
        ∙ length_with n (unpack n a) k d before.0 long b))
        (λ j l. ap (λ (c : Vector → Float). c b) (by_columns j (let g : j < n = omega (arith, unpack_short n area b) in g))))
      where
        before : Before n ((k, λ x. x k) ∷ rs) (unpack n a)
        before = roomy_before n ((k, λ x. x k) ∷ rs) a W.fits

        by_columns : (j : ℕ) → j < n → at (unpack n area) j ≡ at (written_by n rs given given) j
        by_columns j p =
            unpack_column n j area p
            ∙ W.past j (omega arith)
            ∙ sym (written_column n j rs given given p
            ∙ ap (λ (c : Vector → Float). written rs c c) (with_column (unpack n a) k d j
            ∙ ap (λ (v : Vector → Float). with_at k (get_or d j nan) v) (unpack_column n j a p)))
