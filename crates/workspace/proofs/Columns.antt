-- The loop that works vectors out column by column: at each turn it stores into column i, one after the other, what the rules make of column i
-- as it stood. Whatever the rules are: what holds at the loop's head, at the start, after a turn, and what the area has become at the end. Every
-- element-wise loop over the area cites this.
use mathlib.Core.Path.{◌≡◌, refl, sym, ap, ◌∙◌, subst, fun_ext}
use mathlib.Core.Logic.{◌⊎◌, inl, inr, ⊎_elim}
use mathlib.Core.Bool.{Bool, true, false, cond, ◌&&◌}
use mathlib.Core.List.{List, [], ◌∷◌}
use Prim.Native.Nat.{ℕ, ◌+◌, ◌-◌, ◌*◌, ◌≤◌, ◌<◌, min, zero-le}
use native.Mathlib.Nat.{mul-le-mul_right, suc-mul, eq-or-lt_of_le, not-suc-le-zero}
use native.Mathlib.Omega.{arith}
use borrow.Author.Tests.{eq-eqb, ne_eqb, eqb-true, ltb-true}
use lib.Dec.{eqb, ltb}
use lib.ListN.{length, get_or, drop, set, length-set, length-take, length-drop}
use lib.Seq.{get_or-set_same, get_or-set_other, drop-set-lt, ext_get_or, get_or-take, get_or-drop, length-take-le}
use lib.Ieee.{Float, nan}
use Rattle.ieee.proofs.Logic.{both, le_or_lt}
use Rattle.workspace.specs.declared.Vector.{Vector}
use Rattle.workspace.specs.Vectors.{Vectors, ◌with◌≔◌, number, named, column, unpack, extent, beyond, Becomes, each}
use Rattle.workspace.proofs.Areas.{number_below, named_number, room, length_each}
use Rattle.workspace.proofs.Lists.{each_at}

-- which vectors are worked out, and the rule of an element of each, from its column
abbrev pub Rules : Type 0
Rules = List (Vector × ((Vector → Float) → Float))

-- w with each of them worked out from v
abbrev pub written_by : ℕ → Rules → Vectors → Vectors → Vectors
written_by n [] v w = w
written_by n ((k, f) ∷ rs) v w = written_by n rs v (w with k ≔ each n v f)

-- ---- places: element j of vector q is not element i of vector k, unless both are the same

apart : (k q n i j : ℕ) → i < n → j < n → (k < q) ⊎ (q < k) → q * n + j ≡ k * n + i → ⊥
apart k q n i j h l (inl p) e = omega (arith, mul-le-mul_right n p, suc-mul k n)
apart k q n i j h l (inr p) e = omega (arith, mul-le-mul_right n p, suc-mul q n)

pub data Order (q k : ℕ) : Type 0 where
  same : q ≡ k → Order q k
  other : (k < q) ⊎ (q < k) → Order q k

pub order : (q k : ℕ) → Order q k
order q k = ⊎_elim (λ (p : q ≤ k). ⊎_elim (λ e. same e) (λ l. other (inr l)) (eq-or-lt_of_le p)) (λ (p : k < q). other (inl p)) (le_or_lt q k)

pub differ : {q k : ℕ} → (k < q) ⊎ (q < k) → k ≡ q → ⊥
differ (inl p) e = omega arith
differ (inr p) e = omega arith

-- the column v with x at k
abbrev pub with_at : Vector → Float → (Vector → Float) → Vector → Float
with_at k x v b = cond (eqb (number k) (number b)) x (v b)

-- ---- a store, by columns

pub set_here : (k : Vector) (n i : ℕ) (x : Float) (l : List Float) → i < n → number k * n + n ≤ length l
    → column n (set l (number k * n + i) x) i ≡ with_at k x (column n l i)
set_here k n i x l h fits = fun_ext (λ b. go b (order (number b) (number k)))
  where
    go : (b : Vector) → Order (number b) (number k) → column n (set l (number k * n + i) x) i b ≡ with_at k x (column n l i) b
    go b (same e) =
        ap (λ (p : ℕ). get_or (set l (number k * n + i) x) (p * n + i) nan) e
        ∙ get_or-set_same l (number k * n + i) x nan (omega arith)
        ∙ sym (ap (λ (t : Bool). cond t x (column n l i b)) (eq-eqb (number k) (number b) (sym e)))
    go b (other d) =
        get_or-set_other l (number k * n + i) (number b * n + i) x nan (apart (number k) (number b) n i i h h d)
        ∙ sym (ap (λ (t : Bool). cond t x (column n l i b)) (ne_eqb (number k) (number b) (differ d)))

pub set_there : (k : Vector) (n i j : ℕ) (x : Float) (l : List Float) → i < n → j < n → (j ≡ i → ⊥)
    → column n (set l (number k * n + i) x) j ≡ column n l j
set_there k n i j x l h m d = fun_ext (λ b. get_or-set_other l (number k * n + i) (number b * n + j) x nan (go b (order (number b) (number k))))
  where
    go : (b : Vector) → Order (number b) (number k) → number b * n + j ≡ number k * n + i → ⊥
    go b (same e) f = d (let g : number k * n + j ≡ number k * n + i = ap (λ (p : ℕ). p * n + j) (sym e) ∙ f in omega arith)
    go b (other p) f = apart (number k) (number b) n i j h m p f

-- ---- the stores of one turn

-- the first of the list first
abbrev pub stores : ℕ → ℕ → List (Vector × Float) → List Float → List Float
stores n i [] l = l
stores n i ((k, x) ∷ ws) l = stores n i ws (set l (number k * n + i) x)

-- what the rules make of column v
abbrev pub made : Rules → (Vector → Float) → List (Vector × Float)
made [] v = []
made ((k, f) ∷ rs) v = (k, f v) ∷ made rs v

-- column w with what the rules make of column v
unfoldable pub written : Rules → (Vector → Float) → (Vector → Float) → Vector → Float
written [] v w = w
written ((k, f) ∷ rs) v w = written rs v (with_at k (f v) w)

-- every vector that is written is among the first m
abbrev pub among : ℕ → Rules → Bool
among m [] = true
among m ((k, f) ∷ rs) = ltb (number k) m && among m rs

-- they lie within a list of l
unfoldable pub Room : ℕ → ℕ → Rules → Type 0
Room n l [] = Unit
Room n l ((k, f) ∷ rs) = (number k * n + n ≤ l) × Room n l rs

pub roomy : (m n l : ℕ) (rs : Rules) → among m rs ≡ true → m * n ≤ l → Room n l rs
unfolding Room
roomy m n l [] e h = tt
roomy m n l ((k, f) ∷ rs) e h =
    let b = both (ltb (number k) m) (among m rs) e in
    (omega (arith, h, room m (number k) n (ltb-true (number k) m b.0)), roomy m n l rs b.1 h)

pub length_stores : (n i : ℕ) (ws : List (Vector × Float)) (l : List Float) → length (stores n i ws l) ≡ length l
length_stores n i [] l = refl
length_stores n i ((k, x) ∷ ws) l = length_stores n i ws (set l (number k * n + i) x) ∙ length-set l (number k * n + i) x

pub stores_here : (n i : ℕ) (rs : Rules) (v : Vector → Float) (l : List Float) → i < n → Room n (length l) rs
    → column n (stores n i (made rs v) l) i ≡ written rs v (column n l i)
unfolding written Room
stores_here n i [] v l h r = refl
stores_here n i ((k, f) ∷ rs) v l h r =
    let l' = set l (number k * n + i) (f v) in
    stores_here n i rs v l' h (subst (λ (m : ℕ). Room n m rs) (sym (length-set l (number k * n + i) (f v))) r.1)
    ∙ ap (written rs v) (set_here k n i (f v) l h r.0)

stores_beyond : (n i : ℕ) (ws : List (Vector × Float)) (l : List Float) → i < n → beyond n (stores n i ws l) ≡ beyond n l
stores_beyond n i [] l h = refl
stores_beyond n i ((k, x) ∷ ws) l h =
    stores_beyond n i ws (set l (number k * n + i) x) h
    ∙ drop-set-lt (extent n) l (number k * n + i) x (omega (arith, room 12 (number k) n (number_below k)))

pub stores_there : (n i j : ℕ) (ws : List (Vector × Float)) (l : List Float) → i < n → j < n → (j ≡ i → ⊥)
    → column n (stores n i ws l) j ≡ column n l j
stores_there n i j [] l h m d = refl
stores_there n i j ((k, x) ∷ ws) l h m d = stores_there n i j ws (set l (number k * n + i) x) h m d ∙ set_there k n i j x l h m d

-- ---- the vectors written, by columns and by length

abbrev pub at : Vectors → ℕ → Vector → Float
at v j b = get_or (v b) j nan

pub with_column : (w : Vectors) (k : Vector) (x : List Float) (j : ℕ) → at (w with k ≔ x) j ≡ with_at k (get_or x j nan) (at w j)
with_column w k x j = fun_ext (λ b. go b (eqb (number k) (number b)))
  where
    go : (b : Vector) (t : Bool) → get_or (cond t x (w b)) j nan ≡ cond t (get_or x j nan) (at w j b)
    go b true = refl
    go b false = refl

pub written_column : (n j : ℕ) (rs : Rules) (v w : Vectors) → j < n → at (written_by n rs v w) j ≡ written rs (at v j) (at w j)
unfolding written
written_column n j [] v w h = refl
written_column n j ((k, f) ∷ rs) v w h =
    written_column n j rs v (w with k ≔ each n v f) h
    ∙ ap (written rs (at v j)) (with_column w k (each n v f) j ∙ ap (λ (x : Float). with_at k x (at w j)) (each_at n v f j h))

-- the vectors that are written were n long
unfoldable pub Before : ℕ → Rules → Vectors → Type 0
Before n [] w = Unit
Before n ((k, f) ∷ rs) w = (length (w k) ≡ n) × Before n rs w

pub length_with : (n : ℕ) (w : Vectors) (k : Vector) (x : List Float) → length (w k) ≡ n → length x ≡ n → (b : Vector)
    → length ((w with k ≔ x) b) ≡ length (w b)
length_with n w k x h e b = go (eqb (number k) (number b)) refl
  where
    go : (t : Bool) → eqb (number k) (number b) ≡ t → length (cond t x (w b)) ≡ length (w b)
    go true p =
        let q : k ≡ b = sym (named_number k) ∙ ap named (eqb-true (number k) (number b) p) ∙ named_number b in
        e ∙ sym h ∙ ap (λ (c : Vector). length (w c)) q
    go false p = refl

pub still : (n : ℕ) (rs : Rules) (w : Vectors) (k : Vector) (x : List Float) → length (w k) ≡ n → length x ≡ n → Before n rs w → Before n rs (w with k ≔ x)
unfolding Before
still n [] w k x h e r = tt
still n ((q, f) ∷ rs) w k x h e r = (length_with n w k x h e q ∙ r.0, still n rs w k x h e r.1)

pub written_length : (n : ℕ) (rs : Rules) (v w : Vectors) → Before n rs w → (b : Vector) → length (written_by n rs v w b) ≡ length (w b)
unfolding Before
written_length n [] v w r b = refl
written_length n ((k, f) ∷ rs) v w r b =
    let e : length (each n v f) ≡ n = length_each n v f in
    written_length n rs v (w with k ≔ each n v f) (still n rs w k (each n v f) r.0 e r.1) b ∙ length_with n w k (each n v f) r.0 e b

-- ---- and as they stand in an area

pub unpack_column : (n j : ℕ) (l : List Float) → j < n → at (unpack n l) j ≡ column n l j
unfolding unpack
unpack_column n j l h = fun_ext (λ b. get_or-take n (drop (number b * n) l) j nan h ∙ get_or-drop (number b * n) l j nan)

pub each_column : (n : ℕ) (l : List Float) (f : (Vector → Float) → Float) (j : ℕ) → j < n → get_or (each n (unpack n l) f) j nan ≡ f (column n l j)
each_column n l f j h = each_at n (unpack n l) f j h ∙ ap f (unpack_column n j l h)

pub unpack_length : (n : ℕ) (l m : List Float) → length l ≡ length m → (b : Vector) → length (unpack n l b) ≡ length (unpack n m b)
unfolding unpack
unpack_length n l m e b = simp (length-take, length-drop) (ap (λ (k : ℕ). min n (k - number b * n)) e)

pub unpack_short : (n : ℕ) (l : List Float) (b : Vector) → length (unpack n l b) ≤ n
unfolding unpack
unpack_short n l b = simp length-take (omega arith)

pub roomy_before : (n : ℕ) (rs : Rules) (l : List Float) → Room n (length l) rs → Before n rs (unpack n l)
unfolding Room Before unpack
roomy_before n [] l r = tt
roomy_before n ((k, f) ∷ rs) l r =
    (length-take-le n (drop (number k * n) l) (omega (arith, r.0, length-drop (number k * n) l)), roomy_before n rs l r.1)

-- ---- the loop. a is the area at the start: columns below i are done, and the others are as they were

pub record Working (n : ℕ) (rs : Rules) (a area : List Float) (i : ℕ) : Type 0 where
  pub bound : i ≤ n
  pub size : 11 * n ≤ length a
  pub long : length area ≡ length a
  pub fits : Room n (length a) rs
  pub past : (j : ℕ) → j < i → column n area j ≡ written rs (column n a j) (column n a j)
  pub ahead : (j : ℕ) → i ≤ j → j < n → column n area j ≡ column n a j
  pub rest : beyond n area ≡ beyond n a

pub begin_in : (n : ℕ) (rs : Rules) (a : List Float) → Room n (length a) rs → 11 * n ≤ length a → Working n rs a a 0
begin_in n rs a r h = record {
  bound = zero-le;
  size = h;
  long = refl;
  fits = r;
  past = λ j p. absurd (not-suc-le-zero p);
  ahead = λ j p q. refl;
  rest = refl;
}

-- where the rules write among the first eleven
pub begin : (n : ℕ) (rs : Rules) (a : List Float) → among 11 rs ≡ true → 11 * n ≤ length a → Working n rs a a 0
begin n rs a e h = begin_in n rs a (roomy 11 n (length a) rs e h) h

turn_all : {n : ℕ} {rs : Rules} {a area : List Float} {i : ℕ} (ws : List (Vector × Float)) → Working n rs a area i → i < n
    → ws ≡ made rs (column n area i) → Working n rs a (stores n i ws area) (i + 1)
turn_all {n} {rs} {a} {area} {i} ws W h e =
    let kept : column n area i ≡ column n a i = W.ahead i (omega arith) h in
    let here : column n (stores n i ws area) i ≡ written rs (column n a i) (column n a i) =
    ap (λ (l : List (Vector × Float)). column n (stores n i l area) i) (e ∙ ap (made rs) kept)
    ∙ stores_here n i rs (column n a i) area h (subst (λ (k : ℕ). Room n k rs) (sym W.long) W.fits)
    ∙ ap (written rs (column n a i)) kept in
    record {
      bound = omega arith;
      size = W.size;
      long = length_stores n i ws area ∙ W.long;
      fits = W.fits;
      past = λ j p. ⊎_elim
          (λ (q : j ≡ i). subst (λ (t : ℕ). column n (stores n i ws area) t ≡ written rs (column n a t) (column n a t)) (sym q) here)
          (λ (q : j < i). stores_there n i j ws area h (omega arith) (λ (z : j ≡ i). omega arith) ∙ W.past j q)
          (eq-or-lt_of_le (let z : j ≤ i = omega arith in z));
      ahead = λ j p q. stores_there n i j ws area h q (λ (z : j ≡ i). omega arith) ∙ W.ahead j (omega arith) q;
      rest = stores_beyond n i ws area h ∙ W.rest;
    }

-- the values of a turn are what the rules make of column v
abbrev pub Made : Rules → (Vector → Float) → List Float → Type 0
Made [] v xs = Unit
Made (r ∷ rs) v [] = ⊥
Made ((k, f) ∷ rs) v (x ∷ xs) = (x ≡ f v) × Made rs v xs

abbrev pub sent : Rules → List Float → List (Vector × Float)
sent [] xs = []
sent (r ∷ rs) [] = []
sent ((k, f) ∷ rs) (x ∷ xs) = (k, x) ∷ sent rs xs

pub sent_made : (rs : Rules) (v : Vector → Float) (xs : List Float) → Made rs v xs → sent rs xs ≡ made rs v
sent_made [] v xs m = refl
sent_made (r ∷ rs) v [] m = absurd m
sent_made ((k, f) ∷ rs) v (x ∷ xs) m =
    ap (λ (y : Float). (k, y) ∷ sent rs xs) m.0 ∙ ap (λ (l : List (Vector × Float)). (k, f v) ∷ l) (sent_made rs v xs m.1)

pub turn : {n : ℕ} {rs : Rules} {a area : List Float} {i : ℕ} (xs : List Float) → Working n rs a area i → i < n
    → Made rs (column n area i) xs → Working n rs a (stores n i (sent rs xs) area) (i + 1)
turn {n} {rs} {a} {area} {i} xs W h e = turn_all (sent rs xs) W h (sent_made rs (column n area i) xs e)

pub finish : {n : ℕ} {rs : Rules} {a area : List Float} {i : ℕ} → Working n rs a area i → n ≤ i → Becomes n a area (λ v. written_by n rs v v)
finish {n} {rs} {a} {area} {i} W h = record { vectors = fun_ext by_vectors; rest = W.rest }
  where
    by_columns : (j : ℕ) → j < n → at (unpack n area) j ≡ at (written_by n rs (unpack n a) (unpack n a)) j
    by_columns j p =
        unpack_column n j area p
        ∙ W.past j (omega arith)
        ∙ sym (written_column n j rs (unpack n a) (unpack n a) p ∙ ap (λ (c : Vector → Float). written rs c c) (unpack_column n j a p))

    by_vectors : (b : Vector) → unpack n area b ≡ written_by n rs (unpack n a) (unpack n a) b
    by_vectors b = ext_get_or nan (unpack n area b) (written_by n rs (unpack n a) (unpack n a) b)
        (unpack_length n area a W.long b ∙ sym (written_length n rs (unpack n a) (unpack n a) (roomy_before n rs a W.fits) b))
        (λ j l. ap (λ (c : Vector → Float). c b) (by_columns j (let g : j < n = omega (arith, unpack_short n area b) in g)))
