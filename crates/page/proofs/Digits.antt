-- Digits: how many there are, and the digits of a number one after another from the last. From the definitions alone.
use mathlib.Core.Path.{◌≡◌, refl, sym, ap, ◌∙◌}
use mathlib.Core.Bool.{Bool, true, false, cond}
use mathlib.Core.List.{[], ◌∷◌}
use Prim.Native.Nat.{ℕ, zero, suc, max, ◌+◌, ◌*◌, ◌/◌, ◌%◌, ◌^◌, ◌≤◌, ◌<◌}
use native.Mathlib.Nat.{pow-zero, pow-suc, one-le-pow}
use native.Mathlib.Omega.{arith}
use borrow.Author.Tests.{lt-ltb, le-ltb}
use lib.Dec.{ltb, lit<}
use lib.ListN.{length, length-append}
use Rattle.page.specs.Page.{glyph, digits, places, decimal, word}

pub length_digits : (base k n : ℕ) → length (digits base k n) ≡ k
unfolding digits
length_digits base zero n = refl
length_digits base (suc k) n =
    let e = length-append (digits base k (n / base)) (glyph (n % base) ∷ []) in
    let i = length_digits base k (n / base) in
    omega (arith, e, i)

places_most : (k n : ℕ) → places k n ≤ k
unfolding places
places_most zero n = omega arith
places_most (suc k) n = go (ltb n 10) (places_most k (n / 10))
  where
    go : (b : Bool) → places k (n / 10) ≤ k → cond b 1 (places k (n / 10) + 1) ≤ suc k
    go true h = omega arith
    go false h = omega arith

pub length_decimal : (n : ℕ) → length (decimal n) ≤ 20
unfolding decimal
length_decimal n = omega (arith, length_digits 10 (places 20 n) n, places_most 20 n)

pub length_word : (n : ℕ) → length (word n) ≡ 16
unfolding word
length_word n = length_digits 16 16 n

-- ---- the number of decimal digits

places_by_power : (k j n : ℕ) → j < k → 10 ^ j ≤ n → n < 10 * 10 ^ j → places k n ≡ j + 1
unfolding places
places_by_power zero j n r l h = absurd (omega arith)
places_by_power (suc k) zero n r l h = ap (λ (b : Bool). cond b 1 (places k (n / 10) + 1)) (lt-ltb n 10 (omega (arith, h, pow-zero 10)))
places_by_power (suc k) (suc j) n r l h =
    let p = pow-suc 10 j in
    let o = one-le-pow j 10 (lit< tt) in
    ap (λ (b : Bool). cond b 1 (places k (n / 10) + 1)) (le-ltb n 10 (omega (arith, l, p, o)))
    ∙ omega (arith, places_by_power k j (n / 10) (omega arith) (omega (arith, l, p)) (omega (arith, h, p)))

-- 0 has one digit, as 1
one_place : (n : ℕ) → n ≡ 0 → places 20 n ≡ 1
unfolding places
one_place n e = ap (λ (i : ℕ). cond (ltb i 10) 1 (places 19 (i / 10) + 1)) e

-- a number between two powers of ten has the digits of the lower
pub places_of : (n j : ℕ) → j < 20 → 10 ^ j ≤ max n 1 → max n 1 < 10 * 10 ^ j → places 20 n ≡ j + 1
places_of zero j r l h = one_place 0 refl ∙ omega (arith, none j l)
  where
    none : (j : ℕ) → 10 ^ j ≤ 1 → j ≡ 0
    none zero l = refl
    none (suc j) l = absurd (omega (arith, l, pow-suc 10 j, one-le-pow j 10 (lit< tt)))
places_of (suc n) j r l h = places_by_power 20 j (suc n) r (omega arith) (omega arith)

pub decimal_by_power : (n j : ℕ) → j < 20 → 10 ^ j ≤ max n 1 → max n 1 < 10 * 10 ^ j → digits 10 (j + 1) n ≡ decimal n
unfolding decimal
decimal_by_power n j r l h = ap (λ (k : ℕ). digits 10 k n) (sym (places_of n j r l h))
