-- The lines of the readings one after another, and the text as a whole, by their definitions. Assumes nothing.
use mathlib.Core.Path.{◌≡◌, refl, sym, ap, subst, ◌∙◌}
use mathlib.Core.List.{List, [], ◌∷◌, ◌++◌}
use Prim.Native.Nat.{ℕ, zero, suc, ◌+◌, ◌-◌, ◌<◌}
use native.Mathlib.Omega.{arith}
use borrow.Author.Tests.{eq-eqb, ne_eqb}
use native.Mathlib.Numerals.{add-one}
use lib.ListN.{length, take, set}
use lib.Seq.{take-suc-set}
use lib.Ieee.{Float}
use Rattle.sheet.specs.Text.{malformed, line_end, double_of_bits, Lined, Readings, BadAtLine, lines_from, Fills, minutes_a_day, Parsed, Day, BadAt, to_the_end}
use Rattle.sheet.specs.Text.{Head, head_to, after_head, parsed, first_line, Reads}
use Rattle.heat_sink.specs.declared.Inverter.{Inverter}
use Rattle.std.proofs.Common.{Bor}
use Rattle.std.specs.Prelude.{Option, Some, None, Result, Ok, Err}
use Rattle.std.specs.Option.{ok_or}
use Rattle.fields.specs.Fields.{read, read_to, word_field, after}
use Rattle.sheet.specs.declared.Malformed.{Malformed}

-- one line
module _ (text : List ℕ) (at line : ℕ) (xs : List Float) where
  pub line_on : (k value next : ℕ) → 0 < k → word_field line_end text at ≡ read value next
      → lines_from text k at line xs ≡ lines_from text (k - 1) next (line + 1) (xs ++ (double_of_bits value ∷ []))
  unfolding lines_from after
  line_on zero value next p e = absurd (omega arith)
  line_on (suc k) value next p e = let l : k ≡ suc k - 1 = omega arith in
      rw e (ap (λ (j : ℕ). lines_from text j next (line + 1) (xs ++ (double_of_bits value ∷ []))) l)

  pub line_off : (k : ℕ) → 0 < k → word_field line_end text at ≡ None → lines_from text k at line xs ≡ BadAtLine line
  unfolding lines_from after
  line_off zero p e = absurd (omega arith)
  line_off (suc k) p e = rw e

  pub line_none : lines_from text 0 at line xs ≡ Readings xs at
  unfolding lines_from
  line_none = refl

-- one turn of the loop over the lines: what is still to be read, after the readings so far, gives the same
pub line_turn : (text : List ℕ) (count from at i : ℕ) (readings : List Float) (value next : ℕ) {x : Float} → i < count → length readings ≡ count
    → word_field line_end text at ≡ read value next → x ≡ double_of_bits value
    → lines_from text count from 2 [] ≡ lines_from text (count - i) at (i + 2) (take i readings)
    → lines_from text count from 2 [] ≡ lines_from text (count - (i + 1)) next (i + 1 + 2) (take (i + 1) (set readings i x))
line_turn text count from at i readings value next {x} h l e f inv =
    let k : count - i - 1 ≡ count - (i + 1) = omega arith in
    let m : i + 2 + 1 ≡ i + 1 + 2 = omega arith in
    let xs : take i readings ++ (double_of_bits value ∷ []) ≡ take (i + 1) (set readings i x) =
    ap (λ (y : Float). take i readings ++ (y ∷ [])) (sym f)
    ∙ sym (take-suc-set readings i x (omega arith))
    ∙ ap (λ (j : ℕ). take j (set readings i x)) (sym (add-one i)) in
    inv
    ∙ line_on text at (i + 2) (take i readings) (count - i) value next (omega arith) e
    ∙ ap (λ (j : ℕ). lines_from text j next (i + 2 + 1) (take i readings ++ (double_of_bits value ∷ []))) k
    ∙ ap (λ (j : ℕ). lines_from text (count - (i + 1)) next j (take i readings ++ (double_of_bits value ∷ []))) m
    ∙ ap (λ (l : List Float). lines_from text (count - (i + 1)) next (i + 1 + 2) l) xs

-- the text, as it stands in the cursor, and the count of the lines, as the slice has it
pub lines_of_a_day : {a b : List ℕ} (from : ℕ) {count : ℕ} {l : Lined} → a ≡ b → count ≡ minutes_a_day → lines_from a count from 2 [] ≡ l
    → lines_from b minutes_a_day from 2 [] ≡ l
lines_of_a_day {a} {b} from {count} t e h =
    ap (λ (k : ℕ). lines_from b k from 2 []) (sym e) ∙ ap (λ (x : List ℕ). lines_from x count from 2 []) (sym t) ∙ h

-- a line's field, as the cursor tells it
module _ {a b : Bor (List ℕ)} (at next : ℕ) {r : Option ℕ} (t : a ≡ b) (h : word_field line_end a.now at ≡ read_to next r) where
  pub field_some : {value : ℕ} → r ≡ Some value → word_field line_end b.now at ≡ read value next
  field_some {value} e = subst (λ (x : Bor (List ℕ)). word_field line_end x.now at ≡ read value next) t (h ∙ ap (λ (x : Option ℕ). read_to next x) e)

  pub field_none : r ≡ None → word_field line_end b.now at ≡ None
  field_none e = subst (λ (x : Bor (List ℕ)). word_field line_end x.now at ≡ None) t (h ∙ ap (λ (x : Option ℕ). read_to next x) e)

-- line 1
module _ {a b : List ℕ} (next : ℕ) {r : Option Inverter} (t : a ≡ b) (h : first_line a ≡ head_to next r) where
  pub head_some : {m : Inverter} → r ≡ Some m → first_line b ≡ Some (record { inverter = m; next = next })
  head_some {m} e = subst (λ (x : List ℕ). first_line x ≡ Some (record { inverter = m; next = next })) t (h ∙ ap (λ (x : Option Inverter). head_to next x) e)

  pub head_none : r ≡ None → first_line b ≡ None
  head_none e = subst (λ (x : List ℕ). first_line x ≡ None) t (h ∙ ap (λ (x : Option Inverter). head_to next x) e)

-- a slice that the lines fill
pub fills_read : {l : Lined} {xs filled : List Float} {at : ℕ} → l ≡ Readings xs at → filled ≡ xs → Fills l (Ok tt) at filled
unfolding Fills
fills_read e f = rw e (refl, refl, f)

pub fills_bad : {l : Lined} {line : ℕ} (to : ℕ) (filled : List Float) → l ≡ BadAtLine line → Fills l (Err (malformed line)) to filled
unfolding Fills
fills_bad to filled e = rw e refl

pub read_filled : (l : Lined) {filled : List Float} {to : ℕ} → Fills l (Ok tt) to filled → l ≡ Readings filled to
unfolding Fills
read_filled (Readings xs a) f = cc
read_filled (BadAtLine line) f = let z : ◌≡◌ {A = ℕ} 0 1 = cc in absurd (omega arith)

same_line : {A : Type 0} {line other : ℕ} → ◌≡◌ {A = Result A Malformed} (Err (malformed line)) (Err (malformed other)) → line ≡ other
same_line {A} {line} {other} e = let m : malformed line ≡ malformed other = cc in ap (λ (m : Malformed). m.line) m

pub bad_filled : (l : Lined) (to : ℕ) (filled : List Float) {m : Malformed} → Fills l (Err m) to filled → l ≡ BadAtLine m.line
unfolding Fills
bad_filled (Readings xs a) to filled f = let z : ◌≡◌ {A = ℕ} 0 1 = cc in absurd (omega arith)
bad_filled (BadAtLine line) to filled f = ap BadAtLine (same_line (sym f))

-- nothing, as `ok_or` tells it
pub told : {A : Type 0} {o : Option A} {e m : Malformed} → ◌≡◌ {A = Result A Malformed} (Err e) (ok_or o m) → o ≡ None → e ≡ m
told {A} {o} {e} {m} v n = let k : ◌≡◌ {A = Result A Malformed} (Err e) (Err m) = v ∙ ap (λ (x : Option A). ok_or x m) n in cc

-- the whole text
pub reads_whole : {p : Parsed} {m : Inverter} {filled : List Float} → p ≡ Day m filled → Reads p (Ok m) filled
unfolding Reads
reads_whole e = rw e (refl, refl)

pub reads_broken : {p : Parsed} {line : ℕ} (filled : List Float) → p ≡ BadAt line → Reads p (Err (malformed line)) filled
unfolding Reads
reads_broken filled e = rw e refl

module _ (text : List ℕ) where
  pub bad_head : first_line text ≡ None → parsed text ≡ BadAt 1
  unfolding parsed after_head
  bad_head e = rw e

  module _ {head : Head} (first : first_line text ≡ Some head) where
    lines : {l : Lined} → lines_from text minutes_a_day head.next 2 [] ≡ l → parsed text ≡ to_the_end text head.inverter l
    unfolding parsed after_head
    lines e = rw first (ap (to_the_end text head.inverter) e)

    pub whole : {xs : List Float} {at : ℕ} → lines_from text minutes_a_day head.next 2 [] ≡ Readings xs at → at ≡ length text
        → parsed text ≡ Day head.inverter xs
    unfolding to_the_end
    whole {xs} {at} e h = lines e ∙ simp (eq-eqb at (length text) h)

    pub goes_on : {xs : List Float} {at : ℕ} → lines_from text minutes_a_day head.next 2 [] ≡ Readings xs at → (at ≡ length text → ⊥)
        → parsed text ≡ BadAt (minutes_a_day + 2)
    unfolding to_the_end
    goes_on {xs} {at} e h = lines e ∙ simp (ne_eqb at (length text) h)

    pub bad_line : {line : ℕ} → lines_from text minutes_a_day head.next 2 [] ≡ BadAtLine line → parsed text ≡ BadAt line
    unfolding to_the_end
    bad_line e = lines e

-- what was read as a day
pub whole_read : (p : Parsed) {said : Result Inverter Malformed} {filled : List Float} {m : Inverter} → Reads p said filled → said ≡ Ok m → p ≡ Day m filled
unfolding Reads
whole_read (Day m xs) r e = cc
whole_read (BadAt line) r e = let z : ◌≡◌ {A = ℕ} 0 1 = cc in absurd (omega arith)

pub broken_read : (p : Parsed) {said : Result Inverter Malformed} (filled : List Float) {line : ℕ} → Reads p said filled → said ≡ Err (malformed line) → p ≡ BadAt line
unfolding Reads
broken_read (Day m xs) filled r e = let z : ◌≡◌ {A = ℕ} 0 1 = cc in absurd (omega arith)
broken_read (BadAt line) filled r e = ap BadAt (same_line (sym r ∙ e))
