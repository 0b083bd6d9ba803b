-- What is read as a day has 1 to `most_temperatures` of them, since line 1 is tested for it, and `minutes_a_day` readings, one a line. Assumes nothing.
use mathlib.Core.Path.{◌≡◌, refl, subst}
use mathlib.Core.Bool.{Bool, true, false, cond, ◌&&◌}
use mathlib.Core.List.{List, [], ◌∷◌, ◌++◌}
use Prim.Native.Nat.{ℕ, zero, suc, ◌+◌, ◌≤◌}
use native.Mathlib.Omega.{arith}
use borrow.Author.Tests.{leb-true}
use lib.Dec.{leb, eqb}
use lib.ListN.{length, length-append}
use lib.Ieee.{Float}
use Rattle.ieee.proofs.Logic.{both}
use Rattle.family.specs.Family.{known}
use Rattle.heat_sink.specs.declared.Inverter.{Inverter}
use Rattle.fields.specs.Fields.{word_field, number_field, after}
use Rattle.fields.specs.declared.Field.{Field}
use Rattle.std.specs.Prelude.{Option, Some, None}
use Rattle.std.specs.Bool.{then_some}
use Rattle.sheet.specs.Text.{Head, ◌>>=◌, number_places, space, inverter, most_temperatures, line_end, double_of_bits, finite_constants, sound, if_sound, constants, first_line, Lined, Readings}
use Rattle.sheet.specs.Text.{BadAtLine, lines_from, minutes_a_day, Day, BadAt, to_the_end, after_head, parsed}

unfoldable Sound : Option Head → Type 0
Sound (Some head) = sound head.inverter ≡ true
Sound None = Unit

-- ---- line 1

after_sound : (f : Option Field) (go : Field → Option Head) → ((x : Field) → Sound (go x)) → Sound (f >>= go)
unfolding Sound
after_sound (Some x) go h = h x
after_sound None go h = tt

if_sound_sound : (m : Inverter) (at : ℕ) → Sound (if_sound m at)
unfolding if_sound Sound
if_sound_sound m at = go (sound m) refl
  where
    go : (b : Bool) → sound m ≡ b → Sound (then_some b (record { inverter = m; next = at }))
    go true e = e
    go false e = tt

constants_sound : (text : List ℕ) (family n at : ℕ) → Sound (constants text family n at)
unfolding constants
constants_sound text family n at =
    after_sound (word_field space text at) _ (λ initial.
    after_sound (word_field space text initial.next) _ (λ ambient.
    after_sound (word_field space text ambient.next) _ (λ conduct.
    after_sound (word_field space text conduct.next) _ (λ cool.
    after_sound (word_field space text cool.next) _ (λ heat.
    after_sound (word_field line_end text heat.next) _ (λ rated.
    if_sound_sound (inverter family n initial.value ambient.value conduct.value cool.value heat.value rated.value) rated.next))))))

head_sound : (text : List ℕ) → Sound (first_line text)
unfolding first_line
head_sound text =
    after_sound (number_field number_places space text 0) _ (λ family.
    after_sound (number_field number_places space text family.next) _ (λ n. constants_sound text family.value n.value n.next))

-- ---- the whole text

ended_sound : (text : List ℕ) (m' m : Inverter) (xs : List Float) (l : Lined) → to_the_end text m' l ≡ Day m xs → sound m' ≡ true → sound m ≡ true
unfolding to_the_end
ended_sound text m' m xs (Readings ys at) e s = go (eqb at (length text)) e
  where
    go : (b : Bool) → cond b (Day m' ys) (BadAt (minutes_a_day + 2)) ≡ Day m xs → sound m ≡ true
    go true e = let q : m' ≡ m = cc in subst (λ (x : Inverter). sound x ≡ true) q s
    go false e = let z : ◌≡◌ {A = ℕ} 0 1 = cc in absurd (omega arith)
ended_sound text m' m xs (BadAtLine line) e s = let z : ◌≡◌ {A = ℕ} 0 1 = cc in absurd (omega arith)

read_sound : (text : List ℕ) (m : Inverter) (xs : List Float) (h : Option Head) → Sound h → after_head text h ≡ Day m xs → sound m ≡ true
unfolding after_head Sound
read_sound text m xs (Some head) s e = ended_sound text head.inverter m xs (lines_from text minutes_a_day head.next 2 []) e s
read_sound text m xs None s e = let z : ◌≡◌ {A = ℕ} 0 1 = cc in absurd (omega arith)

sizes : (m : Inverter) → sound m ≡ true → (1 ≤ m.n) × (m.n ≤ most_temperatures)
unfolding sound
sizes m e =
    let a = both (known m.family && leb 1 m.n && leb m.n most_temperatures) (finite_constants m) e in
    let b = both (known m.family && leb 1 m.n) (leb m.n most_temperatures) a.0 in
    let c = both (known m.family) (leb 1 m.n) b.0 in
    (leb-true 1 m.n c.1, leb-true m.n most_temperatures b.1)

pub day_sizes : (text : List ℕ) (m : Inverter) (xs : List Float) → parsed text ≡ Day m xs → (1 ≤ m.n) × (m.n ≤ most_temperatures)
unfolding parsed
day_sizes text m xs e = sizes m (read_sound text m xs (first_line text) (head_sound text) e)

-- ---- the number of readings

-- each line that is read gives one
unfoldable Grown : ℕ → Lined → Type 0
Grown n (Readings xs at) = length xs ≡ n
Grown n (BadAtLine line) = Unit

lines_grow : (text : List ℕ) (k at from : ℕ) (xs : List Float) → Grown (length xs + k) (lines_from text k at from xs)
unfolding lines_from Grown after
lines_grow text zero at from xs = omega arith
lines_grow text (suc k) at from xs = on (word_field line_end text at) (λ bits next. lines_grow text k next (from + 1) (xs ++ (double_of_bits bits ∷ [])))
  where
    on : (f : Option Field) → ((bits next : ℕ) → Grown (length (xs ++ (double_of_bits bits ∷ [])) + k)
        (lines_from text k next (from + 1) (xs ++ (double_of_bits bits ∷ []))))
        → Grown (length xs + suc k) (after (BadAtLine from) f (λ bits next. lines_from text k next (from + 1) (xs ++ (double_of_bits bits ∷ []))))
    on (Some field) h =
        let bits = field.value in
        let next = field.next in
        let e = length-append xs (double_of_bits bits ∷ []) in
        let n : length (xs ++ (double_of_bits bits ∷ [])) + k ≡ length xs + suc k = omega (arith, e) in
        subst (λ (j : ℕ). Grown j (lines_from text k next (from + 1) (xs ++ (double_of_bits bits ∷ [])))) n (h bits next)
    on None h = tt

ended_grown : (text : List ℕ) (m' m : Inverter) (n : ℕ) (xs : List Float) (l : Lined) → Grown n l → to_the_end text m' l ≡ Day m xs → length xs ≡ n
unfolding to_the_end Grown
ended_grown text m' m n xs (Readings ys at) g e = go (eqb at (length text)) e
  where
    go : (b : Bool) → cond b (Day m' ys) (BadAt (minutes_a_day + 2)) ≡ Day m xs → length xs ≡ n
    go true e = let q : ys ≡ xs = cc in subst (λ (l : List Float). length l ≡ n) q g
    go false e = let z : ◌≡◌ {A = ℕ} 0 1 = cc in absurd (omega arith)
ended_grown text m' m n xs (BadAtLine line) g e = let z : ◌≡◌ {A = ℕ} 0 1 = cc in absurd (omega arith)

read_minutes : (text : List ℕ) (m : Inverter) (xs : List Float) (h : Option Head) → after_head text h ≡ Day m xs → length xs ≡ minutes_a_day
unfolding after_head
read_minutes text m xs (Some head) e =
    ended_grown text head.inverter m minutes_a_day xs (lines_from text minutes_a_day head.next 2 []) (lines_grow text minutes_a_day head.next 2 []) e
read_minutes text m xs None e = let z : ◌≡◌ {A = ℕ} 0 1 = cc in absurd (omega arith)

pub day_minutes : (text : List ℕ) (m : Inverter) (xs : List Float) → parsed text ≡ Day m xs → length xs ≡ minutes_a_day
unfolding parsed
day_minutes text m xs e = read_minutes text m xs (first_line text) e
