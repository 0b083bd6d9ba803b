-- The fields of a text, read from a place on: a number by its digits, and the byte that ends it. Definitions only.
use Rattle.std.specs.Prelude.{ℕ, zero, suc, ◌+◌, ◌-◌, ◌*◌, cond, List, leb, ltb, eqb, length, get_or, Option, Some, None, option_map, IsNone, ◌≡◌}
use Rattle.std.specs.Bool.{then_some}
use Rattle.fields.specs.declared.Field.{Field}
use Rattle.fields.specs.declared.Cursor.{Cursor}

-- a value, and the place after it
abbrev pub read : ℕ → ℕ → Option Field
read value next = Some (record { value = value; next = next })

-- a value that was read, if one was, and the place after it
abbrev pub read_to : ℕ → Option ℕ → Option Field
read_to next value = option_map (λ v. record { value = v; next = next }) value

-- ---- digits

-- a digit's value, `0` to `9`, then `A` to `F`; 16 for any other byte
unfoldable pub digit : ℕ → ℕ
digit c = cond (ltb c 48) 16 (cond (leb c 57) (c - 48) (cond (ltb c 65) 16 (cond (leb c 70) (c - 55) 16)))

-- that of the byte at a place; past the end of the text there is none
abbrev pub digit_at : List ℕ → ℕ → ℕ
digit_at text at = digit (get_or text at 0)

-- a value that is a digit's in a base up to 16
abbrev pub in_base : ℕ → ℕ → Option ℕ
in_base base d = then_some (ltb d base) d

-- `least` to `most` digits of a base, as far as they go, after those that make `value`
unfoldable pub digits_from : ℕ → ℕ → ℕ → List ℕ → ℕ → ℕ → Option Field
digits_from base least zero text at value = read value at
digits_from base least (suc more) text at value = let d = digit_at text at in
    cond (ltb d base) (digits_from base (least - 1) more text (at + 1) (value * base + d)) (cond (ltb 0 least) None (read value at))

-- ---- fields

-- the field's value, and the place after the byte that ends it
unfoldable pub ended_at : ℕ → List ℕ → ℕ → ℕ → Option Field
ended_at c text at value = cond (ltb at (length text)) (cond (eqb (get_or text at 0) c) (read value (at + 1)) None) None

unfoldable pub ended_by : ℕ → List ℕ → Option Field → Option Field
ended_by c text (Some field) = ended_at c text field.next field.value
ended_by c text None = None

-- 64 bits: 16 hexadecimal digits
unfoldable pub word_field : ℕ → List ℕ → ℕ → Option Field
word_field c text at = ended_by c text (digits_from 16 16 16 text at 0)

-- a whole number: one to `places` decimal digits, the first not 0
unfoldable pub number_field : ℕ → ℕ → List ℕ → ℕ → Option Field
number_field places c text at = cond (eqb (digit_at text at) 0) None (ended_by c text (digits_from 10 1 places text at 0))

-- what follows a field, and what a bad one comes to
unfoldable pub after : {A : Type 0} → A → Option Field → (ℕ → ℕ → A) → A
after bad (Some field) go = go field.value field.next
after bad None go = bad

-- the field that a cursor reads: its value, and the cursor after it, in the same text. Where there is none, the cursor stays
pub record Takes (promised : Option Field) (old : Cursor) (value : Option ℕ) (new : Cursor) : Type 0 where
  pub text : new.text ≡ old.text
  pub field : promised ≡ read_to new.at value
  pub none : IsNone value → new.at ≡ old.at
