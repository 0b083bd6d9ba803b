-- What is read was written: where `fields` reads digits in a text, those of the value stand there, as many as were read. So a value that is read
-- has one text for each number of digits. With `ReadBack` this is reading and writing in both directions. From the definitions of both crates alone.
use mathlib.Core.Path.{◌≡◌, refl, sym, ap, subst, ◌∙◌}
use mathlib.Core.Bool.{Bool, true, false, cond}
use mathlib.Core.List.{List, [], ◌∷◌, ◌++◌}
use Prim.Native.Nat.{ℕ, zero, suc, ◌+◌, ◌-◌, ◌*◌, ◌/◌, ◌%◌, ◌^◌, ◌≤◌, ◌<◌}
use native.Mathlib.Nat.{pow-zero, pow-suc, pow-succ', mod-eq_of_lt, add_comm, add-mul-div_right, add-mul-mod_self_right}
use native.Mathlib.Numerals.{add-one}
use native.Mathlib.Omega.{arith}
use borrow.Author.Tests.{lt-ltb, le-ltb, lt-leb, ltb-true, ltb-false}
use lib.Arith.{digits_lt}
use lib.Dec.{T, ltb, eqb, eqb→eq}
use lib.ListN.{take, drop, get_or}
use lib.Seq.{drop-cons}
use Rattle.fields.specs.declared.Field.{Field}
use Rattle.fields.specs.Fields.{read, digit, digit_at, digits_from}
use Rattle.std.specs.Prelude.{None}
use Rattle.fields.proofs.Reading.{digit_within, digit_on, digit_missing, digit_off, digits_full}
use Rattle.page.specs.Page.{glyph, digits}
use Rattle.page.proofs.ReadBack.{all_below, tried, less}

-- ---- a digit: each byte up to `F` is tried

was_right : ℕ → Bool
was_right c = cond (ltb (digit c) 16) (eqb (glyph (digit c)) c) true

all_was : T (all_below was_right 71)
unfolding was_right digit glyph
all_was = tt

none_beyond : (c : ℕ) → 71 ≤ c → digit c ≡ 16
unfolding digit
none_beyond c h = simp (le-ltb c 48 (omega arith), lt-leb c 57 (omega arith), le-ltb c 65 (omega arith), lt-leb c 70 (omega arith))

pub digit_was : (c : ℕ) → digit c < 16 → glyph (digit c) ≡ c
unfolding was_right
digit_was c h = go (ltb c 71) refl
  where
    go : (b : Bool) → ltb c 71 ≡ b → glyph (digit c) ≡ c
    go true e = eqb→eq (glyph (digit c)) c
        (subst (λ (x : Bool). T (cond x (eqb (glyph (digit c)) c) true)) (lt-ltb (digit c) 16 h) (tried was_right 71 all_was c (ltb-true c 71 e)))
    go false e = absurd (omega (arith, h, none_beyond c (ltb-false c 71 e)))

-- ---- digits

-- a number below a power, with a digit before it
high : (d p n : ℕ) {base : ℕ} → d < base → n < p → d * p + n < base * p
high d p n h l = digits_lt h l

-- a digit more, from the first
pub digits_front : (base k d n : ℕ) → 0 < base → d < base → n < base ^ k → digits base (suc k) (d * base ^ k + n) ≡ glyph d ∷ digits base k n
unfolding digits
digits_front base zero d n b l h =
    let z : n ≡ 0 = omega (arith, h, pow-zero base) in
    let q = ap (λ (p : ℕ). d * p) (pow-zero base) in
    let e : d * base ^ 0 + n ≡ d = omega (arith, z, q) in
    ap (λ (x : ℕ). glyph x ∷ []) (ap (λ (x : ℕ). x % base) e ∙ mod-eq_of_lt l)
digits_front base (suc k) d n b l h =
    let p = ap (λ (q : ℕ). d * q) (pow-suc base k) in
    let e : d * base ^ suc k + n ≡ n + d * base ^ k * base = omega (arith, p) in
    let quotient : (d * base ^ suc k + n) / base ≡ d * base ^ k + n / base =
    ap (λ (x : ℕ). x / base) e ∙ add-mul-div_right n (d * base ^ k) b ∙ add_comm (n / base) (d * base ^ k) in
    let rest : (d * base ^ suc k + n) % base ≡ n % base = ap (λ (x : ℕ). x % base) e ∙ add-mul-mod_self_right n (d * base ^ k) base in
    ap (λ (x : ℕ). digits base (suc k) x ++ (glyph ((d * base ^ suc k + n) % base) ∷ [])) quotient
    ∙ ap (λ (x : ℕ). digits base (suc k) (d * base ^ k + n / base) ++ (glyph x ∷ [])) rest
    ∙ ap (λ (x : List ℕ). x ++ (glyph (n % base) ∷ [])) (digits_front base k d (n / base) b l (less base k n b h))

-- the digits of `number`, `least` to `most` of them, stand in the text from `at` to `next`, and after those of `value` they make `v`
pub record Stand (base least most : ℕ) (text : List ℕ) (at next value v : ℕ) : Type 0 where
  pub count : ℕ
  pub number : ℕ
  pub enough : least ≤ count
  pub room : count ≤ most
  pub place : next ≡ at + count
  pub bytes : take count (drop at text) ≡ digits base count number
  pub below : number < base ^ count
  pub result : v ≡ value * base ^ count + number

module _ (base : ℕ) (b : 0 < base) (s : base ≤ 16) (text : List ℕ) (v next : ℕ) where
  none : (least most at value : ℕ) → least ≤ 0 → read value at ≡ read v next → Stand base least most text at next value v
  unfolding digits
  none least most at value l e =
      let f : ◌≡◌ {A = Field} (record { value = value; next = at }) (record { value = v; next = next }) = cc in
      let x : value ≡ v = ap (λ (w : Field). w.value) f in
      let y : at ≡ next = ap (λ (w : Field). w.next) f in
      let q = ap (λ (p : ℕ). value * p) (pow-zero base) in
      record {
        count = 0;
        number = 0;
        enough = l;
        room = omega arith;
        place = omega (arith, y);
        bytes = refl;
        below = omega (arith, pow-zero base);
        result = omega (arith, x, q);
      }

  one_more : (least more at value : ℕ) → digit_at text at < base
      → Stand base (least - 1) more text (at + 1) next (value * base + digit_at text at) v → Stand base least (suc more) text at next value v
  one_more least more at value h w =
      let k = w.count in
      let n = w.number in
      let c = get_or text at 0 in
      let d = digit_at text at in
      let u : digit c < 16 = omega (arith, h, s) in
      let p = pow-suc base k in
      let q = ap (λ (x : ℕ). value * x) p in
      record {
        count = suc k;
        number = d * base ^ k + n;
        enough = omega (arith, w.enough);
        room = omega (arith, w.room);
        place = omega (arith, w.place);
        bytes =
            ap (λ (x : List ℕ). take (suc k) x) (drop-cons text at 0 (digit_within text at u))
            ∙ ap (λ (j : ℕ). c ∷ take k (drop j text)) (sym (add-one at))
            ∙ ap (λ (x : List ℕ). c ∷ x) w.bytes
            ∙ ap (λ (x : ℕ). x ∷ digits base k n) (sym (digit_was c u))
            ∙ sym (digits_front base k d n b h w.below);
        below = subst (λ (x : ℕ). d * base ^ k + n < x) (sym (pow-succ' base k)) (high d (base ^ k) n h w.below);
        result = omega (arith, w.result, q);
      }

  pub digits_were : (least most at value : ℕ) → least ≤ most → digits_from base least most text at value ≡ read v next
      → Stand base least most text at next value v
  digits_were least zero at value l e = none least 0 at value l (sym (digits_full base text at value least) ∙ e)
  digits_were least (suc more) at value l e =
      go (ltb (digit_at text at) base) refl (digits_were (least - 1) more (at + 1) (value * base + digit_at text at) (omega arith))
    where
      off : (least : ℕ) → digits_from base least (suc more) text at value ≡ read v next → base ≤ digit_at text at
          → Stand base least (suc more) text at next value v
      off zero e h = none 0 (suc more) at value (omega arith) (sym (digit_off base text at value (suc more) h) ∙ e)
      off (suc least) e h =
          let lost : None ≡ read v next = sym (digit_missing base text at value (suc least) (suc more) (omega arith) h (omega arith)) ∙ e in
          let z : ◌≡◌ {A = ℕ} 0 1 = cc in
          absurd (omega arith)

      go : (b : Bool) → ltb (digit_at text at) base ≡ b
          → (digits_from base (least - 1) more text (at + 1) (value * base + digit_at text at) ≡ read v next
          → Stand base (least - 1) more text (at + 1) next (value * base + digit_at text at) v)
          → Stand base least (suc more) text at next value v
      go true t i =
          let h : digit_at text at < base = ltb-true (digit_at text at) base t in
          let m : suc more - 1 ≡ more = omega arith in
          let f : digits_from base least (suc more) text at value ≡ digits_from base (least - 1) more text (at + 1) (value * base + digit_at text at) =
          digit_on base text at value least (suc more) (omega arith) h
          ∙ ap (λ (j : ℕ). digits_from base (least - 1) j text (at + 1) (value * base + digit_at text at)) m in
          one_more least more at value h (i (sym f ∙ e))
      go false t i = off least e (ltb-false (digit_at text at) base t)
