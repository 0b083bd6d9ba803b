-- The lines of some minutes and of one more. From their definitions alone.
use mathlib.Core.Path.{◌≡◌, refl, sym, ap, ◌∙◌}
use mathlib.Core.Bool.{Bool, true, false, cond}
use mathlib.Core.List.{List, [], ◌∷◌, ◌++◌, map, append_assoc, append-nil}
use Prim.Native.Nat.{ℕ, ◌+◌, ◌<◌, ◌≤◌}
use native.Mathlib.Numerals.{add-one}
use native.Mathlib.Omega.{arith}
use lib.Dec.{eqb}
use lib.ListN.{length, take, get_or, length-map}
use lib.Seq.{take-suc, take_all, length-take-le}
use lib.Ieee.{nan}
use Rattle.std.proofs.lemmas.List.{get_or-map}
use Rattle.inverter.specs.declared.Minute.{Minute}
use Rattle.inverter.specs.Day.{columns}
use Rattle.accounts.specs.Accounts.{RefusedMinute, refused_minute, listed}
use Rattle.accounts.proofs.Listing.{listed_more}
use Rattle.daily.specs.Written.{refusal_line, refused_line, refusal_lines, minute_line, minute_lines}

lines_append : (xs ys : List RefusedMinute) → refusal_lines (xs ++ ys) ≡ refusal_lines xs ++ refusal_lines ys
unfolding refusal_lines
lines_append [] ys = refl
lines_append (e ∷ xs) ys = ap (λ (l : List ℕ). refusal_line e ++ l) (lines_append xs ys)
    ∙ sym (append_assoc (refusal_line e) (refusal_lines xs) (refusal_lines ys))

refusals_turn : (l : List ℕ) (i : ℕ) → i < length l
    → refusal_lines (listed 0 (take i l)) ++ refused_line i (get_or l i 0) ≡ refusal_lines (listed 0 (take (i + 1) l))
unfolding refusal_lines refused_line
refusals_turn l i h =
    let x = get_or l i 0 in
    sym
    (ap (λ (k : ℕ). refusal_lines (listed 0 (take k l))) (add-one i)
    ∙ ap (λ (m : List ℕ). refusal_lines (listed 0 m)) (take-suc l i 0 h)
    ∙ ap refusal_lines (listed_more 0 (take i l) x)
    ∙ lines_append (listed 0 (take i l)) (cond (eqb x 0) [] (refused_minute (0 + length (take i l)) x ∷ []))
    ∙ ap (λ (m : List ℕ). refusal_lines (listed 0 (take i l)) ++ m) (one (eqb x 0) x))
  where
    one : (b : Bool) (x : ℕ) → refusal_lines (cond b [] (refused_minute (0 + length (take i l)) x ∷ [])) ≡ cond b [] (refusal_line (refused_minute i x))
    one true x = refl
    one false x = let e : 0 + length (take i l) ≡ i = omega (arith, length-take-le i l (omega arith)) in
        append-nil (refusal_line (refused_minute (0 + length (take i l)) x)) ∙ ap (λ (k : ℕ). refusal_line (refused_minute k x)) e

-- the lines of the refused minutes among the first, so many
unfoldable pub refused_told : List Minute → ℕ → List ℕ
refused_told ms i = refusal_lines (listed 0 (take i (columns ms).refusals))

-- put on a page
pub refused_none_yet : (page : List ℕ) (ms : List Minute) → page ++ refused_told ms 0 ≡ page
unfolding refused_told refusal_lines listed
refused_none_yet page ms = append-nil page

pub refused_more : (page : List ℕ) (ms : List Minute) (i : ℕ) (d : Minute) → i < length ms
    → (page ++ refused_told ms i) ++ refused_line i (get_or ms i d).refusal ≡ page ++ refused_told ms (i + 1)
unfolding refused_told
refused_more page ms i d h =
    let refusal = λ (m : Minute). m.refusal in
    let told = refusal_lines (listed 0 (take i (map refusal ms))) in
    append_assoc page told (refused_line i (get_or ms i d).refusal)
    ∙ ap (λ (n : ℕ). page ++ (told ++ refused_line i n)) (sym (get_or-map refusal ms i d 0 h))
    ∙ ap (λ (x : List ℕ). page ++ x) (refusals_turn (map refusal ms) i (omega (arith, length-map ms refusal)))

pub refused_all : (ms : List Minute) (i : ℕ) → length ms ≤ i → refused_told ms i ≡ refusal_lines (listed 0 (columns ms).refusals)
unfolding refused_told
refused_all ms i h = let refusal = λ (m : Minute). m.refusal in
    ap (λ (l : List ℕ). refusal_lines (listed 0 l)) (take_all i (map refusal ms) (omega (arith, length-map ms refusal)))

-- the lines of the first minutes, so many
unfoldable pub told_lines : List Minute → ℕ → List ℕ
told_lines ms i = let told = columns ms in minute_lines told.junctions told.stages told.passes told.scaled_radii i

pub told_none : (ms : List Minute) → [] ≡ told_lines ms 0
unfolding told_lines minute_lines
told_none ms = refl

pub told_more : (ms : List Minute) (i : ℕ) (d : Minute) → i < length ms
    → told_lines ms i
    ++ minute_line (get_or ms i d).junction (get_or ms i d).stages (get_or ms i d).passes (get_or ms i d).scaled_radius
    ≡ told_lines ms (i + 1)
unfolding told_lines minute_lines
told_more ms i d h =
    let told = columns ms in
    let before = minute_lines told.junctions told.stages told.passes told.scaled_radii in
    let junction = get_or-map (λ (m : Minute). m.junction) ms i d nan h in
    let stages = get_or-map (λ (m : Minute). m.stages) ms i d 0 h in
    let passes = get_or-map (λ (m : Minute). m.passes) ms i d 0 h in
    let radius = get_or-map (λ (m : Minute). m.scaled_radius) ms i d nan h in
    simp (← junction, ← stages, ← passes, ← radius) (ap before (sym (add-one i)))
