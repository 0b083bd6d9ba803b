-- A fraction between 2 ^ -1022 and 2 ^ 1022 is rounded to a double that is off by one part in 2 ^ 53 of it at most (`rounded`). `Rel n u v`, u and v within n
-- parts in 2 ^ 53 of each other, adds up under products with no second-order terms. Assumes nothing.
use Rattle.std.proofs.Common.{◌≡◌, ℕ, zero, suc, ◌+◌, ◌-◌, ◌*◌, ◌/◌, ◌%◌, ◌^◌, ◌<◌, ◌≤◌, Bool, not, T, sym, refl, ap, ◌∙◌, subst, inl, inr, le_trans, le_of_eq, lt_of_le_of_lt, le_of_lt, mul-le-mul_right, mod-lt, mul_assoc, mul_comm, add-mul, mul-le-mul, lt_of_mul-lt-mul_right, mul-le-mul_left, mul-pos, div-add-mod', le-div_iff_mul-le, mul_right_comm, le_of_mul-le-mul_right, mul_left_comm, arith, lit<, lit≤, eqb→eq, leb→le, pow_pos, pow_mono, pow-add}
use Prim.Native.Nat.{compare, Ordering}
use native.Mathlib.Nat.{mul-mul-mul_comm, mul-sub}
use lib.Dec.{is_le, compare_is_eq, nleb→lt}
use lib.Ieee.{Float, nan, inf, fin, binary64, up, down, size, round, nearest}
use lib.Ieee.Digits.{size_reaches}
use lib.Ieee.Fits.{round_is}
use lib.Ieee.Exact.{HasValue, units_val}
use lib.Ieee.Nearest.{closest}
use lib.Ieee.Positive.{num, den}
use lib.Ieee.Scale.{finite, normal_of_fraction}
use Rattle.ieee.specs.Close.{sign}
use Rattle.ieee.proofs.Logic.{le_or_le}

-- ---- u and v are within n parts in p of each other
abbrev pub P : ℕ
P = 2 ^ 53

pub record Rel (n u v : ℕ) : Type 0 where
  pub to : u * (P - n) ≤ v * P
  pub from : v * (P - n) ≤ u * P

-- (p − n)(p − m) ≥ p (p − (n + m))
spread : (p n m : ℕ) → p * (p - (n + m)) ≤ (p - n) * (p - m)
spread p n m =
    let a = p - n in
    let e : p - (n + m) ≡ a - m = omega arith in
    let l : a * m ≤ p * m = mul-le-mul_right m (small p n) in
    let x : p * (a - m) ≡ p * a - p * m = mul-sub p a m in
    let y : a * (p - m) ≡ a * p - a * m = mul-sub a p m in
    let c : p * a ≡ a * p = mul_comm p a in
    le_trans (le_of_eq (ap (λ (z : ℕ). p * z) e)) (close (p * (a - m)) (a * (p - m)) (p * a) (p * m) (a * p) (a * m) x y c l)
  where
    small : (p n : ℕ) → p - n ≤ p
    small p n = omega arith

    close : (x y pa pm ap am : ℕ) → x ≡ pa - pm → y ≡ ap - am → pa ≡ ap → am ≤ pm → x ≤ y
    close x y pa pm ap am e f c l = omega arith

one_side : (p n m u v u' v' : ℕ) → 0 < p → u * (p - n) ≤ v * p → u' * (p - m) ≤ v' * p → u * u' * (p - (n + m)) ≤ v * v' * p
one_side p n m u v u' v' z h k = le_of_mul-le-mul_right
    (le_trans (le_of_eq (mul_assoc (u * u') (p - (n + m)) p ∙ ap (λ (x : ℕ). u * u' * x) (mul_comm (p - (n + m)) p)))
    (le_trans (mul-le-mul_left (u * u') (spread p n m))
    (le_trans (le_of_eq (mul-mul-mul_comm u u' (p - n) (p - m)))
    (le_trans (mul-le-mul h k) (le_of_eq (mul-mul-mul_comm v p v' p ∙ sym (mul_assoc (v * v') p p))))))) z

pub rel_times : {n m u v u' v' : ℕ} → Rel n u v → Rel m u' v' → Rel (n + m) (u * u') (v * v')
rel_times {n} {m} {u} {v} {u'} {v'} h k = record {
  to = one_side P n m u v u' v' (pow_pos 53) h.to k.to;
  from = one_side P n m v u v' u' (pow_pos 53) h.from k.from;
}

pub rel_cancel : {n u v : ℕ} (k : ℕ) → 0 < k → Rel n (u * k) (v * k) → Rel n u v
rel_cancel {n} {u} {v} k z h = record {
  to = le_of_mul-le-mul_right (le_trans (le_of_eq (mul_right_comm u (P - n) k)) (le_trans h.to (le_of_eq (mul_right_comm v k P)))) z;
  from = le_of_mul-le-mul_right (le_trans (le_of_eq (mul_right_comm v (P - n) k)) (le_trans h.from (le_of_eq (mul_right_comm u k P)))) z;
}

pub rel_sym : {n u v : ℕ} → Rel n u v → Rel n v u
rel_sym h = record { to = h.from; from = h.to }

pub rel_weaken : {n m u v : ℕ} → n ≤ m → Rel n u v → Rel m u v
rel_weaken {n} {m} {u} {v} l h = record { to = le_trans (mul-le-mul_left u (less P l)) h.to; from = le_trans (mul-le-mul_left v (less P l)) h.from }
  where
    less : (p : ℕ) → n ≤ m → p - m ≤ p - n
    less p l = omega arith

pub rel_same : {n u v u' v' : ℕ} → u ≡ u' → v ≡ v' → Rel n u v → Rel n u' v'
rel_same e f h = record { to = rw (← e, ← f) h.to; from = rw (← e, ← f) h.from }

-- ---- the nearest whole number is off by half at most
pub closest_off : (a b : ℕ) → 0 < b → (2 * (closest a b * b) ≤ 2 * a + b) × (2 * a ≤ 2 * (closest a b * b) + b)
closest_off a b B = go (compare (a % b * 2) b) (leb→le (a % b * 2) b) (nleb→lt (a % b * 2) b) (eqb→eq (a % b * 2) b)
  where
    w : a / b * b + a % b ≡ a
    w = div-add-mod' a b

    r : a % b < b
    r = mod-lt a B

    off : (q t : ℕ) → q ≡ a / b + t → t ≤ 1 → (t ≡ 0 → a % b * 2 ≤ b) → (t ≡ 1 → b ≤ a % b * 2) → (2 * (q * b) ≤ 2 * a + b) × (2 * a ≤ 2 * (q * b) + b)
    off q t e l h k = go t (ap (λ (x : ℕ). x * b) e ∙ add-mul (a / b) t b) l h k
      where
        go : (t : ℕ) → q * b ≡ a / b * b + t * b → t ≤ 1 → (t ≡ 0 → a % b * 2 ≤ b) → (t ≡ 1 → b ≤ a % b * 2)
            → (2 * (q * b) ≤ 2 * a + b) × (2 * a ≤ 2 * (q * b) + b)
        go zero z l h k = let x = w in let y = h refl in (omega arith, omega arith)
        go (suc zero) z l h k = let x = w in let v = r in let y = k refl in (omega arith, omega arith)
        go (suc (suc t)) z l h k = absurd (no t l)
          where
            no : (t : ℕ) → suc (suc t) ≤ 1 → ⊥
            no t l = omega arith

    go : (o : Ordering) → (T (is_le o) → a % b * 2 ≤ b) → (T (not (is_le o)) → b < a % b * 2) → (T (compare_is_eq o) → a % b * 2 ≡ b)
        → (2 * (nearest (a / b) o * b) ≤ 2 * a + b) × (2 * a ≤ 2 * (nearest (a / b) o * b) + b)
    go Ordering.lt l g e = off (a / b) 0 (omega arith) (omega arith) (λ z. l tt) (λ z. absurd (no z))
      where
        no : ◌≡◌ {A = ℕ} 0 1 → ⊥
        no z = omega arith
    go Ordering.eq l g e = off (a / b + a / b % 2) (a / b % 2) refl (omega arith) (λ z. le_of_eq (e tt)) (λ z. le_of_eq (sym (e tt)))
    go Ordering.gt l g e = off (suc (a / b)) 1 (omega arith) (omega arith) (λ z. absurd (no z)) (λ z. le_of_lt (g tt))
      where
        no : ◌≡◌ {A = ℕ} 1 0 → ⊥
        no z = omega arith

-- ---- the rounded value
-- |u − v| · 2 ^ 53 ≤ v
pub record Off (u v : ℕ) : Type 0 where
  pub over : u * P ≤ v * P + v
  pub under : v * P ≤ u * P + v

pub rel_off : {u v : ℕ} → Off u v → Rel 1 u v
rel_off {u} {v} h = record { to = elim (le_or_le u v) [ inl l ↦ below u v P l | inr l ↦ above u v P l h.over ]; from = less v (u * P) P h.under }
  where
    less : (v w p : ℕ) → v * p ≤ w + v → v * (p - 1) ≤ w
    less v w p h = let e : v * (p - 1) ≡ v * p - v * 1 = mul-sub v p 1 in omega arith

    below : (u v p : ℕ) → u ≤ v → u * (p - 1) ≤ v * p
    below u v p l = mul-le-mul l (small p)
      where
        small : (p : ℕ) → p - 1 ≤ p
        small p = omega arith

    above : (u v p : ℕ) → v ≤ u → u * p ≤ v * p + v → u * (p - 1) ≤ v * p
    above u v p l h = less u (v * p) p (omega arith)

off_times : {u v : ℕ} (k : ℕ) → Off u v → Off (u * k) (v * k)
off_times {u} {v} k h = record { over = scale u v v P h.over; under = scale v u v P h.under }
  where
    scale : (a b c p : ℕ) → a * p ≤ b * p + c → a * k * p ≤ b * k * p + c * k
    scale a b c p h = let m = mul-le-mul_right k h in omega arith

off_cancel : {u v : ℕ} (k : ℕ) → 0 < k → Off (u * k) (v * k) → Off u v
off_cancel {u} {v} k z h = record { over = scale u v v P h.over; under = scale v u v P h.under }
  where
    scale : (a b c p : ℕ) → a * k * p ≤ b * k * p + c * k → a * p ≤ b * p + c
    scale a b c p h = le_of_mul-le-mul_right (shape h) z
      where
        shape : a * k * p ≤ b * k * p + c * k → a * p * k ≤ (b * p + c) * k
        shape h = omega arith

-- n is the fraction in units, u the unit of the result, x the result in units; q is half of 2 ^ 53
grid_off : (n u x : ℕ) → 2 ^ 52 * u ≤ n → 2 * x ≤ 2 * n + u → 2 * n ≤ 2 * x + u → Off x n
grid_off n u x h l k = record { over = half x n n (2 ^ 52) l h; under = half n x n (2 ^ 52) k h }
  where
    half : (a b n q : ℕ) → 2 * a ≤ 2 * b + u → q * u ≤ n → a * (2 * q) ≤ b * (2 * q) + n
    half a b n q l h = let m = mul-le-mul_left q l in omega arith

-- x is m / d rounded, with the sign s
pub record Rounded (s : Bool) (x : Float) (m d : ℕ) : Type 0 where
  pub number : T (finite x)
  pub signed_so : sign x ≡ s
  pub off : Off (num x * d) (m * den x)

-- the size of x is within n parts in P of m / d, and s is its sign
pub record Near (n : ℕ) (s : Bool) (x : Float) (m d : ℕ) : Type 0 where
  pub number : T (finite x)
  pub signed_so : sign x ≡ s
  pub near : Rel n (num x * d) (m * den x)

-- a / c lies between 2 ^ -k and 2 ^ k
pub record Within (k a c : ℕ) : Type 0 where
  pub lower : c ≤ a * 2 ^ k
  pub upper : a ≤ c * 2 ^ k

-- z is g / l
to_value : (z : Float) (s : Bool) (g l a c : ℕ) → 0 < l → HasValue z s g l → Off (g * c) (a * l) → Rounded s z a c
to_value nan s g l a c L v h = absurd v
to_value (inf t) s g l a c L v h = absurd v
to_value (fin t m e) s g l a c L v h = record {
  number = tt;
  signed_so = v.0;
  off = off_cancel l L (subst (λ (x : ℕ). Off x (a * down e * l)) left (subst (Off (g * c * down e)) (mul_right_comm a l (down e)) (off_times (down e) h)));
}
  where
    left : g * c * down e ≡ m * up e * c * l
    left = mul_right_comm g c (down e) ∙ ap (λ (x : ℕ). x * c) (sym v.1) ∙ mul_right_comm (m * up e) l c

module _ (a c k : ℕ) (C : 0 < c) (K : k ≤ 1022) (w : Within k a c) where
  -- how many digits of the fraction, in units, are dropped
  dropped : ℕ
  dropped = size (a * 2 ^ 1074 / c) - 53

  normal : 53 ≤ size (a * 2 ^ 1074 / c)
  normal = normal_of_fraction binary64 a c C
      (le_trans (mul-le-mul_left (2 ^ 52) w.lower)
      (le_trans (le_of_eq (mul_left_comm (2 ^ 52) a (2 ^ k) ∙ ap (λ (x : ℕ). a * x) (sym (pow-add 2 52 k))))
      (mul-le-mul_left a (pow_mono (room k K)))))
    where
      room : (k : ℕ) → k ≤ 1022 → 52 + k ≤ 1074
      room k h = omega arith

  unit_small : 2 ^ 52 * (c * 2 ^ dropped) ≤ a * 2 ^ 1074
  unfolding dropped
  unit_small =
      let d = dropped in
      le_trans (le_of_eq (shape (2 ^ 52) (2 ^ d) ∙ ap (λ (x : ℕ). x * c) (sym (pow-add 2 52 d))))
      ((le-div_iff_mul-le C).0 (size_reaches (a * 2 ^ 1074 / c) (52 + d) (under (size (a * 2 ^ 1074 / c)) normal)))
    where
      shape : (x y : ℕ) → x * (c * y) ≡ x * y * c
      shape x y = simp (mul_assoc, mul_comm, mul_left_comm)

      under : (z : ℕ) → 53 ≤ z → 52 + (z - 53) < z
      under z h = omega arith

  q : ℕ
  q = closest (a * 2 ^ 1074) (c * 2 ^ dropped)

  on_grid : Off (q * 2 ^ dropped * c) (a * 2 ^ 1074)
  unfolding q
  on_grid =
      let u = c * 2 ^ dropped in
      let o = closest_off (a * 2 ^ 1074) u (mul-pos C (pow_pos dropped)) in
      subst (λ (x : ℕ). Off x (a * 2 ^ 1074)) (shape q (2 ^ dropped)) (grid_off (a * 2 ^ 1074) u (q * u) unit_small o.0 o.1)
    where
      shape : (x y : ℕ) → x * (c * y) ≡ x * y * c
      shape x y = simp (mul_assoc, mul_comm, mul_left_comm)

  no_overflow : q * 2 ^ dropped < 2 ^ 2098
  no_overflow =
      lt_of_mul-lt-mul_right (2 ^ 52) (lt_of_le_of_lt
      (le_of_mul-le-mul_right (chain (q * 2 ^ dropped) (2 ^ 1074) (2 ^ 52) (P - 1) P (2 ^ k) (2 ^ 1022) (lit≤ tt) (pow_mono K) (rel_off on_grid).to
      w.upper) C) (lit< tt))
    where
      chain : (g l h p' p r t : ℕ) → h ≤ p' → r ≤ t → g * c * p' ≤ a * l * p → a ≤ c * r → g * h * c ≤ t * l * p * c
      chain g l h p' p r t x y z v =
          le_trans (le_of_eq (mul_right_comm g h c)) (le_trans (mul-le-mul_left (g * c) x) (le_trans z
          (le_trans (mul-le-mul_right p (mul-le-mul_right l (le_trans v (mul-le-mul_left c y)))) (le_of_eq (shape t l p)))))
        where
          shape : (t l p : ℕ) → c * t * l * p ≡ t * l * p * c
          shape t l p = simp (mul_assoc, mul_comm, mul_left_comm)

  pub rounded : (s : Bool) → Rounded s (round binary64 s a c) a c
  unfolding q dropped
  rounded s = to_value (round binary64 s a c) s (q * 2 ^ dropped) (2 ^ 1074) a c (pow_pos 1074)
      (subst (λ (z : Float). HasValue z s (q * 2 ^ dropped) (2 ^ 1074)) (sym (round_is binary64 s a c)) (units_val binary64 s q dropped no_overflow)) on_grid

  pub round_near : (s : Bool) → Near 1 s (round binary64 s a c) a c
  round_near s = let r = rounded s in record { number = r.number; signed_so = r.signed_so; near = rel_off r.off }
