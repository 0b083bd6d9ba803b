-- What is written is read back: the digits of a number, in any base up to 16 and as many as it needs, read by `fields` from where they stand, give
-- the number; so of a word, and of a number in decimal, with the byte that ends its field. From the definitions of both crates alone.
use mathlib.Core.Path.{◌≡◌, refl, sym, ap, subst, ◌∙◌}
use mathlib.Core.Bool.{Bool, true, false, cond}
use mathlib.Core.List.{List, [], ◌∷◌, ◌++◌}
use Prim.Native.Nat.{ℕ, zero, suc, ◌+◌, ◌-◌, ◌*◌, ◌/◌, ◌%◌, ◌^◌, ◌≤◌, ◌<◌}
use native.Mathlib.Nat.{pow-zero, pow-suc, pow-succ', pow-le-pow_right, one-le-pow, one-mul}
use native.Mathlib.Nat.{mod-lt, mod-eq_of_lt, div-one, div-add-mod', div-lt_iff_lt-mul, le-div_iff_mul-le, div-div-eq-div-mul}
use native.Mathlib.Numerals.{add-one}
use native.Mathlib.Omega.{arith}
use borrow.Author.Tests.{ltb-true, ltb-false}
use lib.Dec.{T, ltb, eqb, eqb→eq, lit<, lit≤}
use lib.ListN.{length, get_or, length-append, get_or-append}
use lib.Seq.{append_snoc, get_or-append-add, get_or_at}
use Rattle.fields.specs.Fields.{read, digit, digit_at, digits_from, ended_by, word_field, number_field}
use Rattle.fields.specs.declared.Field.{Field}
use Rattle.std.specs.Prelude.{Option}
use Rattle.fields.proofs.Reading.{digit_on, digit_off, digits_full, first_not_zero, ended}
use Rattle.page.specs.Page.{glyph, digits, places, decimal, word}
use Rattle.page.proofs.Digits.{length_digits}

-- ---- a digit: each of the sixteen is tried

abbrev pub all_below : (ℕ → Bool) → ℕ → Bool
all_below f zero = true
all_below f (suc k) = cond (f k) (all_below f k) false

pub tried : (f : ℕ → Bool) (k : ℕ) → T (all_below f k) → (n : ℕ) → n < k → T (f n)
tried f zero t n h = absurd (omega arith)
tried f (suc k) t n h = go (f k) refl t (tried f k)
  where
    last : n ≡ k → f k ≡ true → T (f n)
    last e y = subst (λ (j : ℕ). T (f j)) (sym e) (subst T (sym y) tt)

    go : (b : Bool) → f k ≡ b → T (cond b (all_below f k) false) → (T (all_below f k) → (n : ℕ) → n < k → T (f n)) → T (f n)
    go true y u i = among (ltb n k) refl
      where
        among : (b : Bool) → ltb n k ≡ b → T (f n)
        among true e = i u n (ltb-true n k e)
        among false e = let l = ltb-false n k e in last (omega arith) y
    go false y u i = absurd u

read_right : ℕ → Bool
read_right d = eqb (digit (glyph d)) d

all_right : T (all_below read_right 16)
unfolding read_right digit glyph
all_right = tt

pub digit_read : (d : ℕ) → d < 16 → digit (glyph d) ≡ d
unfolding read_right
digit_read d h = eqb→eq (digit (glyph d)) d (tried read_right 16 all_right d h)

-- ---- digits

-- the byte after a text that stands after another
next_byte : (front text rest : List ℕ) (c k : ℕ) → length text ≡ k → get_or (front ++ (text ++ (c ∷ rest))) (length front + k) 0 ≡ c
next_byte front text rest c k e = get_or-append-add front (text ++ (c ∷ rest)) k 0 ∙ get_or_at text c rest 0 k e

-- the same digits to come, from the same place on
same : (base : ℕ) {l l' m m' a a' v v' : ℕ} {t t' : List ℕ} → l ≡ l' → m ≡ m' → t ≡ t' → a ≡ a' → v ≡ v'
    → digits_from base l m t a v ≡ digits_from base l' m' t' a' v'
same base p q r s u = cc

-- a quotient has a digit less
pub less : (base k n : ℕ) → 0 < base → n < base ^ suc k → n / base < base ^ k
less base k n b h = (div-lt_iff_lt-mul b).1 (subst (λ (q : ℕ). n < q) (pow-suc base k) h)

last_digit : (base k n : ℕ) (rest : List ℕ) → digits base (suc k) n ++ rest ≡ digits base k (n / base) ++ (glyph (n % base) ∷ rest)
unfolding digits
last_digit base k n rest = append_snoc (digits base k (n / base)) (glyph (n % base)) rest

module _ (base : ℕ) (b : 0 < base) (s : base ≤ 16) where
  -- k digits of a text, after those that make `value`
  pub digits_read : (k n least most value : ℕ) (front rest : List ℕ) → n < base ^ k
      → digits_from base least (k + most) (front ++ (digits base k n ++ rest)) (length front) value
      ≡ digits_from base (least - k) most (front ++ (digits base k n ++ rest)) (length front + k) (value * base ^ k + n)
  digits_read zero n least most value front rest h =
      let v = ap (λ (q : ℕ). value * q) (pow-zero base) in
      same base (omega arith) (omega arith) refl (omega arith) (omega (arith, h, pow-zero base, v))
  digits_read (suc k) n least most value front rest h =
      let g = glyph (n % base) in
      let t = front ++ (digits base k (n / base) ++ (g ∷ rest)) in
      let w : front ++ (digits base (suc k) n ++ rest) ≡ t = ap (λ (x : List ℕ). front ++ x) (last_digit base k n rest) in
      let r : n % base < base = mod-lt n b in
      let d : digit_at t (length front + k) ≡ n % base =
      ap digit (next_byte front (digits base k (n / base)) rest g k (length_digits base k (n / base)))
      ∙ digit_read (n % base) (omega arith) in
      let v = ap (λ (q : ℕ). value * q) (pow-suc base k) in
      let u : (value * base ^ k + n / base) * base + n % base ≡ value * base ^ suc k + n = omega (arith, v, div-add-mod' n base) in
      same base refl (omega arith) w refl refl
      ∙ digits_read k (n / base) least (suc most) value front (g ∷ rest) (less base k n b h)
      ∙ digit_on base t (length front + k) (value * base ^ k + n / base) (least - k) (suc most) (omega arith) (subst (λ (x : ℕ). x < base) (sym d) r)
      ∙ same base (omega arith) (omega arith) (sym w) (omega arith) (ap (λ (x : ℕ). (value * base ^ k + n / base) * base + x) d ∙ u)

-- what was read of a text, and the byte that ends it
module _ (front text rest : List ℕ) (c k value : ℕ) (e : length text ≡ k) where
  ends : ended_by c (front ++ (text ++ (c ∷ rest))) (read value (length front + k)) ≡ read value (length front + k + 1)
  ends =
      let long = length-append front (text ++ (c ∷ rest)) in
      let tail : length (text ++ (c ∷ rest)) ≡ k + suc (length rest) = length-append text (c ∷ rest) ∙ ap (λ (j : ℕ). j + suc (length rest)) e in
      ended c (front ++ (text ++ (c ∷ rest))) (length front + k) value (omega (arith, long, tail)) (next_byte front text rest c k e)

-- ---- 16 hexadecimal digits

pub word_read : (n c : ℕ) (front rest : List ℕ) → n < 2 ^ 64 → word_field c (front ++ (word n ++ (c ∷ rest))) (length front) ≡ read n (length front + 16 + 1)
unfolding word_field word
word_read n c front rest h =
    let t = front ++ (digits 16 16 n ++ (c ∷ rest)) in
    let v : 0 * 16 ^ 16 + n ≡ n = omega arith in
    ap (λ (f : Option Field). ended_by c t f)
    (digits_read 16 (lit< tt) (lit≤ tt) 16 n 16 0 0 front (c ∷ rest) h
    ∙ digits_full 16 t (length front + 16) (0 * 16 ^ 16 + n) (16 - 16)
    ∙ ap (λ (x : ℕ). read x (length front + 16)) v)
    ∙ ends front (digits 16 16 n) rest c 16 n (length_digits 16 16 n)

-- ---- decimal digits, the first not 0

-- a number has as many digits as `places` counts, and not one less
places_enough : (k n : ℕ) → n < 10 ^ k → n < 10 ^ places k n
unfolding places
places_enough zero n h = h
places_enough (suc k) n h = go (ltb n 10) refl (places_enough k (n / 10) (less 10 k n (lit< tt) h))
  where
    go : (b : Bool) → ltb n 10 ≡ b → n / 10 < 10 ^ places k (n / 10) → n < 10 ^ cond b 1 (places k (n / 10) + 1)
    go true e i = ltb-true n 10 e
    go false e i =
        let q = places k (n / 10) in
        let p : 10 ^ (q + 1) ≡ 10 ^ q * 10 = ap (λ (j : ℕ). 10 ^ j) (add-one q) ∙ pow-suc 10 q in
        omega (arith, i, p)

places_needed : (k n : ℕ) → 0 < n → 10 ^ (places k n - 1) ≤ n
unfolding places
places_needed zero n h = omega arith
places_needed (suc k) n h = go (ltb n 10) refl (places_needed k (n / 10))
  where
    on : (p : ℕ) → 10 ≤ n → 10 ^ (p - 1) ≤ n / 10 → 10 ^ (p + 1 - 1) ≤ n
    on zero l i = omega arith
    on (suc p) l i =
        let e : suc p + 1 - 1 ≡ suc p = omega arith in
        let f : suc p - 1 ≡ p = omega arith in
        let q = ap (λ (j : ℕ). 10 ^ j) e ∙ pow-suc 10 p in
        let r = ap (λ (j : ℕ). 10 ^ j) f in
        omega (arith, i, q, r)

    go : (b : Bool) → ltb n 10 ≡ b → (0 < n / 10 → 10 ^ (places k (n / 10) - 1) ≤ n / 10) → 10 ^ (cond b 1 (places k (n / 10) + 1) - 1) ≤ n
    go true e i = omega (arith, h)
    go false e i = let l : 10 ≤ n = ltb-false n 10 e in on (places k (n / 10)) l (i (omega arith))

-- the first digit
first_digit : (base k n : ℕ) → 0 < base → n < base ^ suc k → get_or (digits base (suc k) n) 0 0 ≡ glyph (n / base ^ k)
unfolding digits
first_digit base zero n b h =
    let l : n < base = subst (λ (q : ℕ). n < q) (pow-suc base 0 ∙ ap (λ (q : ℕ). q * base) (pow-zero base) ∙ one-mul base) h in
    ap glyph (mod-eq_of_lt l ∙ sym (ap (λ (q : ℕ). n / q) (pow-zero base) ∙ div-one n))
first_digit base (suc k) n b h =
    let l = length_digits base (suc k) (n / base) in
    get_or-append (digits base (suc k) (n / base)) (glyph (n % base) ∷ []) 0 0 (omega (arith, l))
    ∙ first_digit base k (n / base) b (less base (suc k) n b h)
    ∙ ap glyph (div-div-eq-div-mul n base (base ^ k) ∙ ap (λ (q : ℕ). n / q) (sym (pow-succ' base k)))

-- it is not 0 where there are no more digits than needed
first_above : (k n : ℕ) (rest : List ℕ) → 10 ^ k ≤ n → n < 10 ^ suc k → digit (get_or (digits 10 (suc k) n ++ rest) 0 0) ≡ 0 → ⊥
first_above k n rest l h z =
    let p = one-le-pow k 10 (lit< tt) in
    let u : n / 10 ^ k < 10 = (div-lt_iff_lt-mul p).1 (subst (λ (q : ℕ). n < q) (pow-succ' 10 k) h) in
    let v : 1 ≤ n / 10 ^ k = (le-div_iff_mul-le p).1 (subst (λ (q : ℕ). q ≤ n) (sym (one-mul (10 ^ k))) l) in
    let e : digit (get_or (digits 10 (suc k) n ++ rest) 0 0) ≡ n / 10 ^ k =
    ap digit (get_or-append (digits 10 (suc k) n) rest 0 0 (omega (arith, length_digits 10 (suc k) n)) ∙ first_digit 10 k n (lit< tt) h)
    ∙ digit_read (n / 10 ^ k) (omega arith) in
    omega (arith, e, z, v)

module _ (most n c : ℕ) (front rest : List ℕ) (above : 0 < n) (below : n < 10 ^ most) (other : 10 ≤ digit c) where
  needed : (k : ℕ) → 10 ^ k ≤ n → suc k ≤ most
  needed k l = go (ltb k most) refl
    where
      go : (b : Bool) → ltb k most ≡ b → suc k ≤ most
      go true e = ltb-true k most e
      go false e = let p : 10 ^ most ≤ 10 ^ k = pow-le-pow_right (lit< tt) (ltb-false k most e) in absurd (omega (arith, p, l, below))

  number_digits : (k : ℕ) → 10 ^ k ≤ n → n < 10 ^ suc k
      → number_field most c (front ++ (digits 10 (suc k) n ++ (c ∷ rest))) (length front) ≡ read n (length front + suc k + 1)
  number_digits k l h =
      let t = front ++ (digits 10 (suc k) n ++ (c ∷ rest)) in
      let long = length_digits 10 (suc k) n in
      let room = needed k l in
      let here : length front ≡ length front + 0 = omega arith in
      let first : get_or t (length front) 0 ≡ get_or (digits 10 (suc k) n ++ (c ∷ rest)) 0 0 =
      ap (λ (j : ℕ). get_or t j 0) here ∙ get_or-append-add front (digits 10 (suc k) n ++ (c ∷ rest)) 0 0 in
      let after : get_or t (length front + suc k) 0 ≡ c = next_byte front (digits 10 (suc k) n) rest c (suc k) long in
      let stops : 10 ≤ digit_at t (length front + suc k) = subst (λ (x : ℕ). 10 ≤ x) (sym (ap digit after)) other in
      let v : 0 * 10 ^ suc k + n ≡ n = omega arith in
      first_not_zero most c t (length front) (λ z. first_above k n (c ∷ rest) l h (ap digit (sym first) ∙ z))
      ∙ ap (λ (f : Option Field). ended_by c t f)
      (same 10 refl (omega arith) refl refl refl
      ∙ digits_read 10 (lit< tt) (lit≤ tt) (suc k) n 1 (most - suc k) 0 front (c ∷ rest) h
      ∙ same 10 (omega arith) refl refl refl v
      ∙ digit_off 10 t (length front + suc k) n (most - suc k) stops)
      ∙ ends front (digits 10 (suc k) n) rest c (suc k) n long

  by_digits : (p : ℕ) → 10 ^ (p - 1) ≤ n → n < 10 ^ p
      → number_field most c (front ++ (digits 10 p n ++ (c ∷ rest))) (length front) ≡ read n (length front + length (digits 10 p n) + 1)
  by_digits zero l h = absurd (omega (arith, h, above))
  by_digits (suc k) l h =
      let e : suc k - 1 ≡ k = omega arith in
      number_digits k (subst (λ (j : ℕ). 10 ^ j ≤ n) e l) h
      ∙ ap (λ (j : ℕ). read n (length front + j + 1)) (sym (length_digits 10 (suc k) n))

  pub number_read : n < 10 ^ 20 → number_field most c (front ++ (decimal n ++ (c ∷ rest))) (length front) ≡ read n (length front + length (decimal n) + 1)
  unfolding decimal
  number_read h = by_digits (places 20 n) (places_needed 20 n above) (places_enough 20 n h)
