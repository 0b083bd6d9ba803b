-- Numbers in lists: a test that every number of a list passes holds of each; and of the lists of driver's Numbers: no number is of two kinds, and none is 0.
-- Those by computation, so that a longer list moves nothing here.
use mathlib.Core.Path.{◌≡◌, refl, sym, subst, ◌∙◌}
use mathlib.Core.Bool.{Bool, true, false, not, ◌&&◌, ◌||◌}
use mathlib.Core.List.{List, [], ◌∷◌, ◌++◌}
use Prim.Native.Nat.{ℕ, ◌≤◌}
use lib.Dec.{leb, eqb}
use borrow.Author.Tests.{eqb-true, eq-eqb, leb-true, not-true}
use Rattle.ieee.proofs.Logic.{and_left, and_right}
use Rattle.driver.specs.Numbers.{one_of, standing_numbers, need_numbers, after_nine, ending_numbers, refusal_numbers}
use Rattle.session.specs.Refusals.{◌∈◌, here, later}
use Rattle.session.proofs.Truth.{differ, or_left, or_right}

-- ---- any list

pub is_in : (ks : List ℕ) (k : ℕ) → one_of ks k ≡ true → k ∈ ks
is_in [] k e = absurd (differ e)
is_in (i ∷ is) k e = go (eqb k i) refl e (is_in is k)
  where
    go : (b : Bool) → eqb k i ≡ b → b || one_of is k ≡ true → (one_of is k ≡ true → k ∈ is) → k ∈ (i ∷ is)
    go true q e on = subst (λ (j : ℕ). k ∈ (j ∷ is)) (eqb-true k i q) here
    go false q e on = later (on e)

pub in_is : (ks : List ℕ) (k : ℕ) → k ∈ ks → one_of ks k ≡ true
in_is (i ∷ is) k here = or_left (eqb k k) (one_of is k) (eq-eqb k k refl)
in_is (i ∷ is) k (later m) = or_right (eqb k i) (one_of is k) (in_is is k m)
in_is [] k x' = elim x' [ ]

pub in_left : {k : ℕ} {ks : List ℕ} (ls : List ℕ) → k ∈ ks → k ∈ (ks ++ ls)
in_left ls here = here
in_left ls (later m) = later (in_left ls m)

pub in_right : {k : ℕ} (ks : List ℕ) {ls : List ℕ} → k ∈ ls → k ∈ (ks ++ ls)
in_right [] m = m
in_right (i ∷ is) m = later (in_right is m)

abbrev pub every_one : (ℕ → Bool) → List ℕ → Bool
every_one p [] = true
every_one p (k ∷ ks) = p k && every_one p ks

pub each : (p : ℕ → Bool) (ks : List ℕ) → every_one p ks ≡ true → {k : ℕ} → k ∈ ks → p k ≡ true
each p (k ∷ ks) e here = and_left (p k) (every_one p ks) e
each p (i ∷ ks) e (later m) = each p ks (and_right (p i) (every_one p ks) e) m
each p [] e {k = k} x'' = elim x'' [ ]

-- a number of ks is none of ls, if that is so of each
apart : (ks ls : List ℕ) → every_one (λ k. not (one_of ls k)) ks ≡ true → {k : ℕ} → k ∈ ks → k ∈ ls → ⊥
apart ks ls e m l = differ (sym (not-true _ (each (λ k. not (one_of ls k)) ks e m)) ∙ in_is ls _ l)

-- ---- the numbers of refusals

pub standing_refuses : {k : ℕ} → k ∈ standing_numbers → k ∈ refusal_numbers
standing_refuses m = in_left ending_numbers m

pub ending_refuses : {k : ℕ} → k ∈ ending_numbers → k ∈ refusal_numbers
ending_refuses m = in_right standing_numbers m

pub not_zero : {k : ℕ} → k ∈ refusal_numbers → 1 ≤ k
not_zero {k} m = leb-true 1 k (each (leb 1) refusal_numbers refl m)

pub not_standing : {k : ℕ} → k ∈ ending_numbers → one_of standing_numbers k ≡ false
not_standing m = not-true _ (each (λ k. not (one_of standing_numbers k)) ending_numbers refl m)

pub not_both : {k : ℕ} → k ∈ standing_numbers → k ∈ ending_numbers → ⊥
not_both s m = apart standing_numbers ending_numbers refl s m

pub not_nine : {k : ℕ} → k ∈ after_nine → k ≡ 9 → ⊥
not_nine m e = apart after_nine (9 ∷ []) refl m (subst (λ (k : ℕ). k ∈ (9 ∷ [])) (sym e) here)

pub not_ten : {k : ℕ} → k ∈ need_numbers → k ≡ 10 → ⊥
not_ten m e = apart need_numbers (10 ∷ []) refl m (subst (λ (k : ℕ). k ∈ (10 ∷ [])) (sym e) here)
