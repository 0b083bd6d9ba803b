-- A digit at a place, one turn of the loop that reads digits, and the byte that ends a field, by the definitions of specs/Fields. Assumes nothing.
use mathlib.Core.Path.{◌≡◌, refl, sym, ap, subst, ◌∙◌}
use mathlib.Core.Bool.{Bool, true, false}
use mathlib.Core.List.{List}
use Prim.Native.Nat.{ℕ, zero, suc, ◌+◌, ◌-◌, ◌*◌, ◌^◌, ◌≤◌, ◌<◌}
use native.Mathlib.Nat.{pow-suc, pow-le-pow_right, lt_of_lt_of_le, le_trans}
use native.Mathlib.Omega.{arith}
use lib.Arith.{digits_lt}
use lib.Dec.{ltb, leb}
use lib.ListN.{length, get_or, get_or-eq_default}
use borrow.Author.Tests.{lt-ltb, le-ltb, ltb-true, ltb-false, leb-true, leb-false, eq-eqb, ne_eqb}
use Rattle.fields.specs.Fields.{read, digit, digit_at, in_base, digits_from, ended_at, ended_by, number_field}
use Rattle.std.specs.Prelude.{Some, None}
use Rattle.std.specs.Bool.{then_some}

-- a byte that is a digit stands in the text
pub digit_within : (text : List ℕ) (at : ℕ) → digit_at text at < 16 → at < length text
unfolding digit
digit_within text at h = go (ltb at (length text)) refl
  where
    go : (b : Bool) → ltb at (length text) ≡ b → at < length text
    go true e = ltb-true at (length text) e
    go false e = absurd (none (get_or-eq_default text 0 (ltb-false at (length text) e)))
      where
        none : get_or text at 0 ≡ 0 → ⊥
        none z = lost (ap digit z)
          where
            lost : digit (get_or text at 0) ≡ 16 → ⊥
            lost e = omega arith

zero_byte : digit 0 ≡ 16
unfolding digit
zero_byte = refl

-- past the end there is none
pub none_past : (base : ℕ) (text : List ℕ) (at : ℕ) → base ≤ 16 → length text ≤ at → None ≡ in_base base (digit_at text at)
none_past base text at b h = off 16 b ∙ ap (in_base base) (sym (ap digit (get_or-eq_default text 0 h) ∙ zero_byte))
  where
    off : (d : ℕ) → base ≤ d → None ≡ in_base base d
    off d l = simp (le-ltb d base l)

-- what is and what is no digit of a base
pub is_digit : (base e : ℕ) {d : ℕ} → Some d ≡ in_base base e → (e < base) × (d ≡ e)
is_digit base e {d} = go (ltb e base) refl
  where
    go : (b : Bool) → ltb e base ≡ b → Some d ≡ then_some b e → (e < base) × (d ≡ e)
    go true t h = (ltb-true e base t, cc)
    go false t h = let z : ◌≡◌ {A = ℕ} 0 1 = cc in absurd (omega arith)

pub no_digit : (base e : ℕ) → None ≡ in_base base e → base ≤ e
no_digit base e = go (ltb e base) refl
  where
    go : (b : Bool) → ltb e base ≡ b → None ≡ then_some b e → base ≤ e
    go true t h = let z : ◌≡◌ {A = ℕ} 0 1 = cc in absurd (omega arith)
    go false t h = ltb-false e base t

-- ---- one digit, of `most` that may come and `least` that must

module _ (base : ℕ) (text : List ℕ) (at value : ℕ) where
  pub digit_on : (least most : ℕ) → 0 < most → digit_at text at < base
      → digits_from base least most text at value ≡ digits_from base (least - 1) (most - 1) text (at + 1) (value * base + digit_at text at)
  unfolding digits_from
  digit_on least zero p h = absurd (omega arith)
  digit_on least (suc more) p h = let e : more ≡ suc more - 1 = omega arith in
      simp (lt-ltb (digit_at text at) base h)
      (ap (λ (j : ℕ). digits_from base (least - 1) j text (at + 1) (value * base + digit_at text at)) e)

  pub digit_missing : (least most : ℕ) → 0 < most → base ≤ digit_at text at → 0 < least → digits_from base least most text at value ≡ None
  unfolding digits_from
  digit_missing least zero p h l = absurd (omega arith)
  digit_missing least (suc more) p h l = simp (le-ltb (digit_at text at) base h, lt-ltb 0 least l)

  pub digit_off : (most : ℕ) → base ≤ digit_at text at → digits_from base 0 most text at value ≡ read value at
  unfolding digits_from
  digit_off zero h = refl
  digit_off (suc more) h = simp (le-ltb (digit_at text at) base h)

  pub digits_stop : (least count most : ℕ) → 0 < most → base ≤ digit_at text at
      → then_some (leb least count) (record { value = value; next = at }) ≡ digits_from base (least - count) most text at value
  digits_stop least count most p h = go (leb least count) refl
    where
      go : (b : Bool) → leb least count ≡ b → then_some b (record { value = value; next = at }) ≡ digits_from base (least - count) most text at value
      go true t =
          let z : least - count ≡ 0 = omega (arith, leb-true least count t) in
          sym (ap (λ (k : ℕ). digits_from base k most text at value) z ∙ digit_off most h)
      go false t = sym (digit_missing (least - count) most p h (omega (arith, leb-false least count t)))

  pub digits_full : (least : ℕ) → digits_from base least 0 text at value ≡ read value at
  unfolding digits_from
  digits_full least = refl

-- a value has its digits: a digit more keeps it below the next power
pub grows : (base count value d : ℕ) → value < base ^ count → d < base → value * base + d < base ^ (count + 1)
grows base count value d v h = subst (λ (q : ℕ). value * base + d < q) (sym (pow-suc base count) ∙ ap (λ (m : ℕ). base ^ m) e) (digits_lt v h)
  where
    e : suc count ≡ count + 1
    e = omega arith

-- and so within a word, while there may be more of them
pub fits : (base count most value : ℕ) → 0 < base → base ^ most ≤ 2 ^ 64 → count ≤ most → value < base ^ count → value < 2 ^ 64
fits base count most value b w l v = lt_of_lt_of_le v (le_trans (pow-le-pow_right b l) w)

-- a whole number's field, by its first digit
module _ (places c : ℕ) (text : List ℕ) (at : ℕ) where
  pub first_not_zero : (digit_at text at ≡ 0 → ⊥) → number_field places c text at ≡ ended_by c text (digits_from 10 1 places text at 0)
  unfolding number_field
  first_not_zero h = simp (ne_eqb (digit_at text at) 0 h)

-- the byte that ends a field
pub ended : (c : ℕ) (text : List ℕ) (at value : ℕ) → at < length text → get_or text at 0 ≡ c → ended_by c text (read value at) ≡ read value (at + 1)
unfolding ended_by ended_at
ended c text at value h e = simp (lt-ltb at (length text) h, eq-eqb (get_or text at 0) c e)
