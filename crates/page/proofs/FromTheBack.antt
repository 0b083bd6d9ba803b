-- Digits put one after another from the last one on: each turn, and the end. From the definition of digits and the laws of lists.
use mathlib.Core.Path.{◌≡◌, sym, ap, ◌∙◌}
use mathlib.Core.List.{List, [], ◌∷◌, ◌++◌}
use Prim.Native.Nat.{ℕ, zero, suc, ◌+◌, ◌-◌, ◌/◌, ◌%◌, ◌≤◌, ◌<◌}
use native.Mathlib.Omega.{arith}
use lib.ListN.{length, take, drop, set, length-set}
use lib.Seq.{drop-cons, drop-set-lt, get_or-set_same, append_snoc, take-add}
use Rattle.page.specs.Page.{glyph, digits}

-- one digit more, from the last
pub digits_turn : (base i n : ℕ) → 0 < i → digits base i n ≡ digits base (i - 1) (n / base) ++ (glyph (n % base) ∷ [])
unfolding digits
digits_turn base zero n h = absurd (omega arith)
digits_turn base (suc i) n h = let e : i ≡ suc i - 1 = omega arith in
    ap (λ (j : ℕ). digits base j (n / base) ++ (glyph (n % base) ∷ [])) e

-- what stands from `at` on, after the digits still to come
pub back_turn : (q front : List ℕ) (at i k b : ℕ) → i < k → at + k ≤ length q
    → front ++ (b ∷ []) ++ take (k - (i + 1)) (drop (at + (i + 1)) q) ≡ front ++ take (k - i) (drop (at + i) (set q (at + i) b))
back_turn q front at i k b h l =
    let long : at + i < length (set q (at + i) b) = omega (arith, length-set q (at + i) b) in
    let n : at + (i + 1) ≡ suc (at + i) = omega arith in
    let m : suc (k - (i + 1)) ≡ k - i = omega arith in
    append_snoc front b (take (k - (i + 1)) (drop (at + (i + 1)) q))
    ∙ ap (λ (x : List ℕ). front ++ (b ∷ take (k - (i + 1)) x))
    (ap (λ (j : ℕ). drop j q) n ∙ sym (drop-set-lt (suc (at + i)) q (at + i) b (omega arith)))
    ∙ ap (λ (x : ℕ). front ++ take (suc (k - (i + 1))) (x ∷ drop (suc (at + i)) (set q (at + i) b))) (sym (get_or-set_same q (at + i) b 0 (omega arith)))
    ∙ ap (λ (x : List ℕ). front ++ take (suc (k - (i + 1))) x) (sym (drop-cons (set q (at + i) b) (at + i) 0 long))
    ∙ ap (λ (j : ℕ). front ++ take j (drop (at + i) (set q (at + i) b))) m

-- with i digits still to come, the last of them is put
pub digits_back : (q whole : List ℕ) (at base k i rest g : ℕ) → 0 < i → i ≤ k → at + k ≤ length q → g ≡ glyph (rest % base)
    → whole ≡ digits base i rest ++ take (k - i) (drop (at + i) q)
    → whole ≡ digits base (i - 1) (rest / base) ++ take (k - (i - 1)) (drop (at + (i - 1)) (set q (at + (i - 1)) g))
digits_back q whole at base k i rest g h l m e f =
    let front = digits base (i - 1) (rest / base) in
    let n : i ≡ i - 1 + 1 = omega arith in
    f
    ∙ ap (λ (x : List ℕ). x ++ take (k - i) (drop (at + i) q)) (digits_turn base i rest h)
    ∙ ap (λ (x : ℕ). front ++ (x ∷ []) ++ take (k - i) (drop (at + i) q)) (sym e)
    ∙ ap (λ (x : ℕ). front ++ (g ∷ []) ++ take (k - x) (drop (at + x) q)) n
    ∙ back_turn q front at (i - 1) k g (omega arith) m

-- all of them put, after what stood before
pub digits_done : (q before whole : List ℕ) (at base k i rest : ℕ) → i ≤ 0 → take at q ≡ before
    → whole ≡ digits base i rest ++ take (k - i) (drop (at + i) q) → take (at + k) q ≡ before ++ whole
unfolding digits
digits_done q before whole at base k zero rest h e f =
    let z : k - 0 ≡ k = omega arith in
    let w : at + 0 ≡ at = omega arith in
    let g : whole ≡ take k (drop at q) =
    f
    ∙ ap (λ (j : ℕ). take j (drop (at + 0) q)) z
    ∙ ap (λ (j : ℕ). take k (drop j q)) w in
    take-add at k q ∙ ap (λ (x : List ℕ). x ++ take k (drop at q)) e ∙ ap (λ (x : List ℕ). before ++ x) (sym g)
digits_done q before whole at base k (suc i) rest h e f = absurd (omega arith)
