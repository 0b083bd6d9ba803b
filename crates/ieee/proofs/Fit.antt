-- A double that fits a fraction: their signs agree, and their sizes do to n parts in 2 ^ 53. Negatives and products keep this, n growing by one a rounding;
-- and what fits is close (`fit_close`). Assumes nothing. ⊕ ⊗ are operations on fractions: they are exact.
use Rattle.std.proofs.Common.{◌≡◌, ℕ, zero, suc, ◌+◌, ◌-◌, ◌*◌, ◌^◌, ◌<◌, ◌≤◌, Bool, true, false, cond, not, T, ltb, ℤ, pos, negsuc, ◌+ℤ◌, ◌*ℤ◌, neg_ℤ, nat_abs, sym, refl, ap, ◌∙◌, subst, ap₂, inl, inr, le_trans, le_of_eq, add-zero, mul-le-mul_right, mul_assoc, mul_comm, eq-zero-or-pos, mul-le-mul, mul-le-mul_left, mul-pos, mul-zero, zero-mul, not-le_of_lt, le_of_mul-le-mul_right, mul_left_comm, arith, ltb→lt, leb→le, pow_pos, pow-add}
use native.Mathlib.Nat.{mul-mul-mul_comm}
use native.Mathlib.Nat.{mul-sub}
use lib.IntN.{+ℤ_comm, neg_ℤ-neg_ℤ, zero-*ℤ}
use lib.Ieee.{Float, nan, inf, fin, binary64, up, down, round, mul, neg, unlike}
use lib.Ieee.Fits.{down_pos}
use lib.Ieee.Positive.{num, den, den_pos}
use lib.Ieee.Scale.{finite}
use Rattle.fractions.specs.Frac.{Frac, ◌⊕◌, ◌⊗◌, opp}
use Rattle.ieee.specs.Close.{signed, sign, value, Close}
use Rattle.ieee.proofs.Rounding.{P, Rel, rel_times, rel_cancel, rel_same, rel_sym, rel_weaken, Near, Within, round_near}

-- ---- signs
pub natAbs_signed : (s : Bool) (m : ℕ) → nat_abs (signed s m) ≡ m
natAbs_signed false m = refl
natAbs_signed true zero = refl
natAbs_signed true (suc m) = refl

neg_signed : (s : Bool) (m : ℕ) → neg_ℤ (signed s m) ≡ signed (not s) m
neg_signed false m = refl
neg_signed true m = neg_ℤ-neg_ℤ (pos m)

pub times_signed : (s t : Bool) (m n : ℕ) → signed s m *ℤ signed t n ≡ signed (unlike s t) (m * n)
times_signed false false m n = refl
times_signed false true m zero = rw mul-zero refl
times_signed false true m (suc n) = refl
times_signed true false zero n = rw zero-mul refl
times_signed true false (suc m) n = refl
times_signed true true zero n = zero-*ℤ (neg_ℤ (pos n)) ∙ ap pos (sym (zero-mul n))
times_signed true true (suc m) zero = rw mul-zero refl
times_signed true true (suc m) (suc n) = refl

-- ---- what fits
pub record Fit (k n : ℕ) (s : Bool) (x : Float) (q : Frac) : Type 0 where
  pub size : ℕ
  pub top : q.num ≡ signed s size
  pub near : Near n s x size q.den
  pub within : Within k (num x) (den x)

pub fit_same : {k n : ℕ} {s : Bool} {x : Float} {q q' : Frac} → q.num ≡ q'.num → q.den ≡ q'.den → Fit k n s x q → Fit k n s x q'
fit_same {n = n} {s = s} {x = x} e d h = record {
  size = h.size;
  top = sym e ∙ h.top;
  near = subst (λ (y : ℕ). Near n s x h.size y) d h.near;
  within = h.within;
}

pub fit_neg : {k n : ℕ} {s : Bool} (x : Float) {q : Frac} → Fit k n s x q → Fit k n (not s) (neg x) (opp q)
unfolding neg opp
fit_neg nan h = absurd h.near.number
fit_neg (inf t) h = absurd h.near.number
fit_neg {s = s} (fin t m e) h = record {
  size = h.size;
  top = ap neg_ℤ h.top ∙ neg_signed s h.size;
  near = record { number = tt; signed_so = ap not h.near.signed_so; near = h.near.near };
  within = h.within;
}

-- ---- the product
within_times : (k l a c b d : ℕ) → Within k a c → Within l b d → Within (k + l) (a * b) (c * d)
within_times k l a c b d v w = record {
  lower = le_trans (mul-le-mul v.lower w.lower) (le_of_eq (mul-mul-mul_comm a (2 ^ k) b (2 ^ l) ∙ ap (λ (x : ℕ). a * b * x) (sym (pow-add 2 k l))));
  upper = le_trans (mul-le-mul v.upper w.upper) (le_of_eq (mul-mul-mul_comm c (2 ^ k) d (2 ^ l) ∙ ap (λ (x : ℕ). c * d * x) (sym (pow-add 2 k l))));
}

-- u and v are within a factor of two
twice : (u v : ℕ) → Rel 1 u v → u ≤ 2 * v
twice u v h = le_of_mul-le-mul_right (le_trans (mul-le-mul_left u (leb→le (2 ^ 52) (P - 1) tt)) (le_trans h.to (le_of_eq (shape v (2 ^ 52))))) (pow_pos 52)
  where
    shape : (v q : ℕ) → v * (2 * q) ≡ 2 * v * q
    shape v q = simp (mul_assoc, mul_left_comm)

-- z / e is within a factor of two of a / c, which is within 2 ^ k of 1
within_near : (k z e a c : ℕ) → 0 < c → Rel 1 (z * c) (a * e) → Within k a c → Within (k + 1) z e
within_near k z e a c C h w = record {
  lower = le_trans (le_of_mul-le-mul_right (low (2 ^ k) w.lower (twice (a * e) (z * c) (rel_sym h))) C) (le_of_eq (power z));
  upper = le_trans (le_of_mul-le-mul_right (high (2 ^ k) w.upper (twice (z * c) (a * e) h)) C) (le_of_eq (power e));
}
  where
    power : (z : ℕ) → z * (2 ^ k * 2) ≡ z * 2 ^ (k + 1)
    power z = ap (λ (x : ℕ). z * x) (sym (pow-add 2 k 1))

    low : (p : ℕ) → c ≤ a * p → a * e ≤ 2 * (z * c) → e * c ≤ z * (p * 2) * c
    low p l d = le_trans (mul-le-mul_left e l) (le_trans (le_of_eq (shape e a p)) (le_trans (mul-le-mul_right p d) (le_of_eq (shape' z c p))))
      where
        shape : (e a p : ℕ) → e * (a * p) ≡ a * e * p
        shape e a p = simp (mul_assoc, mul_comm)

        shape' : (z c p : ℕ) → 2 * (z * c) * p ≡ z * (p * 2) * c
        shape' z c p = simp (mul_assoc, mul_comm, mul_left_comm)

    high : (p : ℕ) → a ≤ c * p → z * c ≤ 2 * (a * e) → z * c ≤ e * (p * 2) * c
    high p l d = le_trans d (le_trans (mul-le-mul_left 2 (mul-le-mul_right e l)) (le_of_eq (shape e c p)))
      where
        shape : (e c p : ℕ) → 2 * (c * p * e) ≡ e * (p * 2) * c
        shape e c p = simp (mul_assoc, mul_comm, mul_left_comm)

-- the two factors' sizes x / dx near m / d, and y / dy near n / e; and z / dz near their product
near_times : (i j x dx y dy z dz m d n e : ℕ) → 0 < x → 0 < y → 0 < dx → 0 < dy → Rel 1 (z * (dx * dy)) (x * y * dz) → Rel i (x * d) (m * dx)
    → Rel j (y * e) (n * dy) → Rel (1 + i + j) (z * (d * e)) (m * n * dz)
near_times i j x dx y dy z dz m d n e X Y DX DY h f g = rel_cancel (x * y * (dx * dy)) (mul-pos (mul-pos X Y) (mul-pos DX DY))
    (rel_same left right (rel_times (rel_times h f) g))
  where
    left : z * (dx * dy) * (x * d) * (y * e) ≡ z * (d * e) * (x * y * (dx * dy))
    left = simp (mul_assoc, mul_comm, mul_left_comm)

    right : x * y * dz * (m * dx) * (n * dy) ≡ m * n * dz * (x * y * (dx * dy))
    right = simp (mul_assoc, mul_comm, mul_left_comm)

pub num_pos : (k : ℕ) (x : Float) → Within k (num x) (den x) → 0 < num x
num_pos k x w =
    elim (eq-zero-or-pos (num x)) [
      | inl z ↦ absurd (not-le_of_lt (den_pos x) (le_trans w.lower (le_of_eq (ap (λ (y : ℕ). y * 2 ^ k) z ∙ zero-mul (2 ^ k)))))
      | inr q ↦ q
    ]

pub fit_times : (k l i j : ℕ) (s t : Bool) (x y : Float) (q r : Frac) → k + l ≤ 1022 → Fit k i s x q → Fit l j t y r
    → Fit (k + l + 1) (1 + i + j) (unlike s t) (mul binary64 x y) (q ⊗ r)
unfolding mul ◌⊗◌
fit_times k l i j s t nan y q r h f g = absurd f.near.number
fit_times k l i j s t (inf a) y q r h f g = absurd f.near.number
fit_times k l i j s t (fin a m e) nan q r h f g = absurd g.near.number
fit_times k l i j s t (fin a m e) (inf b) q r h f g = absurd g.near.number
fit_times k l i j s t (fin a m e) (fin b n d) q r h f g =
    let X = num_pos k (fin a m e) f.within in
    let Y = num_pos l (fin b n d) g.within in
    let w = within_times k l (m * up e) (down e) (n * up d) (down d) f.within g.within in
    let z = round_near (m * up e * (n * up d)) (down e * down d) (k + l) (mul-pos (down_pos e) (down_pos d)) h w (unlike a b) in
    let o = round binary64 (unlike a b) (m * up e * (n * up d)) (down e * down d) in
    record {
      size = f.size * g.size;
      top = ap₂ ◌*ℤ◌ f.top g.top ∙ times_signed s t f.size g.size;
      near = record {
        number = z.number;
        signed_so = z.signed_so ∙ ap₂ unlike f.near.signed_so g.near.signed_so;
        near = near_times i j (m * up e) (down e) (n * up d) (down d) (num o) (den o) f.size q.den g.size r.den X Y (down_pos e) (down_pos d)
            z.near f.near.near g.near.near;
      };
      within = within_near (k + l) (num o) (den o) (m * up e * (n * up d)) (down e * down d) (mul-pos (down_pos e) (down_pos d)) z.near w;
    }

-- ---- what fits is close
gap : (k a b x : ℕ) → b * k ≤ a * k + x → (b - a) * k ≤ x
gap k a b x h = let e : k * (b - a) ≡ k * b - k * a = mul-sub k b a in let c = mul_comm (b - a) k in let d = mul_comm k b in let f = mul_comm k a in omega arith

off : (k a b x : ℕ) → a * k ≤ b * k + x → b * k ≤ a * k + x → nat_abs (pos a +ℤ neg_ℤ (pos b)) * k ≤ x
off k a zero x h l = let e : (a + 0) * k ≡ a * k = ap (λ (y : ℕ). y * k) (add-zero a) in omega arith
off k a (suc b) x h l = go (ltb a (suc b)) (ltb→lt a (suc b))
  where
    one_up : a < suc b → suc (suc b - suc a) ≡ suc b - a
    one_up g = omega arith

    go : (c : Bool) → (T c → a < suc b) → nat_abs (cond c (negsuc (suc b - suc a)) (pos (a - suc b))) * k ≤ x
    go true g = le_trans (le_of_eq (ap (λ (y : ℕ). y * k) (one_up (g tt)))) (gap k a (suc b) x l)
    go false g = gap k (suc b) a x h

apart : (s : Bool) (k u d m e x : ℕ) → u * d * k ≤ m * e * k + x → m * e * k ≤ u * d * k + x
    → nat_abs (signed s u *ℤ pos d +ℤ neg_ℤ (signed s m) *ℤ pos e) * k ≤ x
apart false k u d m e x h l = subst (λ (z : ℤ). nat_abs (pos (u * d) +ℤ z) * k ≤ x) (sym (times_signed true false m e)) (off k (u * d) (m * e) x h l)
apart true k u d m e x h l =
    subst (λ (z : ℤ). nat_abs z * k ≤ x)
    (+ℤ_comm (pos (m * e)) (neg_ℤ (pos (u * d))) ∙ ap₂ ◌+ℤ◌ (sym (times_signed true false u d)) (ap (λ (z : ℤ). z *ℤ pos e) (sym (neg_ℤ-neg_ℤ (pos m)))))
    (off k (m * e) (u * d) x l h)

-- u = num x · den q and v = m · den x, where q is ± m / den q
pub close_of : (n : ℕ) (s : Bool) (x : Float) (q : Frac) (m : ℕ) → T (finite x) → sign x ≡ s → q.num ≡ signed s m
    → num x * q.den * 2 ^ n ≤ m * den x * 2 ^ n + m * den x → m * den x * 2 ^ n ≤ num x * q.den * 2 ^ n + m * den x → Close n x q
unfolding value ◌⊕◌ opp
close_of n s x q m i e f h l = record { number = i; near = close (2 ^ n) (apart s (2 ^ n) (num x) q.den m (den x) (m * den x) h l) }
  where
    close : (p : ℕ) → nat_abs (signed s (num x) *ℤ pos q.den +ℤ neg_ℤ (signed s m) *ℤ pos (den x)) * p ≤ m * den x
        → nat_abs (signed (sign x) (num x) *ℤ pos q.den +ℤ neg_ℤ q.num *ℤ pos (den x)) * p * q.den ≤ nat_abs q.num * (den x * q.den)
    close p g = rw (e, f, natAbs_signed) (le_trans (mul-le-mul_right q.den g) (le_of_eq (mul_assoc m (den x) q.den)))

tight : (u v : ℕ) → u * (P - 26) ≤ v * P → u * 2 ^ 48 ≤ v * 2 ^ 48 + v
tight u v h = omega arith

tight' : (u v : ℕ) → v * (P - 26) ≤ u * P → v * 2 ^ 48 ≤ u * 2 ^ 48 + v
tight' u v h = omega arith

pub fit_close : (k n : ℕ) (s : Bool) (x : Float) (q : Frac) → n ≤ 26 → Fit k n s x q → Close 48 x q
fit_close k n s x q l h =
    let r = rel_weaken l h.near.near in
    let u = num x * q.den in
    let v = h.size * den x in
    close_of 48 s x q h.size h.near.number h.near.signed_so h.top (tight u v r.to) (tight' u v r.from)
