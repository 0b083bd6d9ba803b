-- The refused minutes: those of some minutes and one more, their order and their numbers. From the definition of `listed` alone.
use mathlib.Core.Path.{◌≡◌, refl, ap, subst, ◌∙◌}
use mathlib.Core.Bool.{Bool, true, false, cond, not}
use mathlib.Core.List.{List, [], ◌∷◌, ◌++◌}
use Prim.Native.Nat.{ℕ, suc, ◌+◌, ◌≤◌}
use native.Mathlib.Omega.{arith}
use borrow.Author.Tests.{eqb-false}
use lib.Dec.{eqb}
use lib.ListN.{length, length-append}
use Rattle.driver.specs.Numbers.{refusal_numbers}
use Rattle.session.specs.Refusals.{◌∈◌}
use Rattle.inverter.specs.Day.{one_if}
use Rattle.accounts.specs.Accounts.{RefusedMinute, refused_minute, listed, Rising, Numbered}

-- one minute more
pub listed_more : (i : ℕ) (l : List ℕ) (x : ℕ) → listed i (l ++ (x ∷ [])) ≡ listed i l ++ cond (eqb x 0) [] (refused_minute (i + length l) x ∷ [])
unfolding listed
listed_more i [] x = let e : i ≡ i + 0 = omega arith in
    ap (λ (k : ℕ). cond (eqb x 0) [] (refused_minute k x ∷ [])) e
listed_more i (y ∷ l) x =
    let e : i + 1 + length l ≡ i + suc (length l) = omega arith in
    go (eqb y 0) (listed_more (i + 1) l x ∙ ap (λ (k : ℕ). listed (i + 1) l ++ cond (eqb x 0) [] (refused_minute k x ∷ [])) e)
  where
    last : List RefusedMinute
    last = cond (eqb x 0) [] (refused_minute (i + suc (length l)) x ∷ [])

    go : (b : Bool) → listed (i + 1) (l ++ (x ∷ [])) ≡ listed (i + 1) l ++ last
        → cond b (listed (i + 1) (l ++ (x ∷ []))) (refused_minute i y ∷ listed (i + 1) (l ++ (x ∷ [])))
        ≡ cond b (listed (i + 1) l) (refused_minute i y ∷ listed (i + 1) l) ++ last
    go true h = h
    go false h = ap (λ (es : List RefusedMinute). refused_minute i y ∷ es) h

-- so many are listed then
pub listed_grown : (i : ℕ) (l : List ℕ) (x : ℕ) → length (listed i (l ++ (x ∷ []))) ≡ length (listed i l) + one_if (not (eqb x 0))
listed_grown i l x = ap length (listed_more i l x) ∙ go (eqb x 0)
  where
    go : (b : Bool) → length (listed i l ++ cond b [] (refused_minute (i + length l) x ∷ [])) ≡ length (listed i l) + one_if (not b)
    go true = length-append (listed i l) []
    go false = length-append (listed i l) (refused_minute (i + length l) x ∷ [])

-- its number is 0 or one of the table
pub numbered_grown : (i : ℕ) (l : List ℕ) (x : ℕ) → ((x ≡ 0 → ⊥) → x ∈ refusal_numbers) → Numbered (listed i l) → Numbered (listed i (l ++ (x ∷ [])))
unfolding listed Numbered
numbered_grown i [] x h n = go (eqb x 0) refl
  where
    go : (b : Bool) → eqb x 0 ≡ b → Numbered (cond b [] (refused_minute i x ∷ []))
    go true e = tt
    go false e = (h (eqb-false x 0 e), tt)
numbered_grown i (y ∷ l) x h n = go (eqb y 0) (λ m. numbered_grown (i + 1) l x h m) n
  where
    go : (b : Bool) → (Numbered (listed (i + 1) l) → Numbered (listed (i + 1) (l ++ (x ∷ []))))
        → Numbered (cond b (listed (i + 1) l) (refused_minute i y ∷ listed (i + 1) l))
        → Numbered (cond b (listed (i + 1) (l ++ (x ∷ []))) (refused_minute i y ∷ listed (i + 1) (l ++ (x ∷ []))))
    go true f n = f n
    go false f n = (n.0, f n.1)

-- what rises from a later minute rises from an earlier one
earlier : (i j to : ℕ) (es : List RefusedMinute) → i ≤ j → Rising j to es → Rising i to es
unfolding Rising
earlier i j to [] h r = omega arith
earlier i j to (e ∷ es) h r = (omega (arith, r.0), r.1)

-- the minutes are listed in their order
pub listed_rising : (i : ℕ) (l : List ℕ) → Rising i (i + length l) (listed i l)
unfolding listed Rising
listed_rising i [] = omega arith
listed_rising i (y ∷ l) = let n : i + 1 + length l ≡ i + suc (length l) = omega arith in
    go (eqb y 0) (subst (λ (k : ℕ). Rising (i + 1) k (listed (i + 1) l)) n (listed_rising (i + 1) l))
  where
    go : (b : Bool) → Rising (i + 1) (i + suc (length l)) (listed (i + 1) l)
        → Rising i (i + suc (length l)) (cond b (listed (i + 1) l) (refused_minute i y ∷ listed (i + 1) l))
    go true r = earlier i (i + 1) (i + suc (length l)) (listed (i + 1) l) (omega arith) r
    go false r = (omega arith, r)
