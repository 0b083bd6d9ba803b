-- The loop that writes a whole slice from the front: what holds at its head, at the start, after a turn and at the end. A copy and a fill cite this.
use mathlib.Core.Path.{◌≡◌, refl, sym, ap, ◌∙◌}
use mathlib.Core.List.{List, [], ◌++◌, append-nil}
use Prim.Native.Nat.{ℕ, ◌+◌, ◌≤◌, ◌<◌, zero-le}
use native.Mathlib.Nat.{zero-add}
use native.Mathlib.Numerals.{add-one}
use native.Mathlib.Omega.{arith}
use lib.ListN.{length, get_or, take, drop, set, length-set, drop_of_length-le}
use lib.Seq.{paste, paste-suc, paste-zero, take_all}
use lib.Ieee.{Float, nan}

-- d is the slice at the start, s what it is to hold, and out has the first i of s
pub record Front (s d out : List Float) (i : ℕ) : Type 0 where
  pub bound : i ≤ length s
  pub same : length d ≡ length s
  pub long : length out ≡ length d
  pub sofar : out ≡ paste d 0 s i

pub front_start : (s d : List Float) → length d ≡ length s → Front s d d 0
front_start s d h = record { bound = zero-le; same = h; long = refl; sofar = paste-zero d 0 s }

-- one more of s, whatever the lengths
pub pasted : (s d : List Float) (i : ℕ) {out : List Float} (x : Float) → i < length d → i < length s → out ≡ paste d 0 s i → x ≡ get_or s i nan
    → set out i x ≡ paste d 0 s (i + 1)
pasted s d i x h l sofar e =
    ap (λ (o : List Float). set o i x) sofar
    ∙ ap (λ (y : Float). set (paste d 0 s i) i y) e
    ∙ ap (λ (j : ℕ). set (paste d 0 s i) j (get_or s i nan)) (sym (zero-add i))
    ∙ paste-suc d 0 s i nan (omega arith) l
    ∙ ap (λ (j : ℕ). paste d 0 s j) (sym (add-one i))

pub front_turn : {s d out : List Float} {i : ℕ} (x : Float) → Front s d out i → i < length s → x ≡ get_or s i nan → Front s d (set out i x) (i + 1)
front_turn {s} {d} {out} {i} x F h e = record {
  bound = omega arith;
  same = F.same;
  long = length-set out i x ∙ F.long;
  sofar = pasted s d i x (omega arith) h F.sofar e;
}

pub front_end : {s d out : List Float} {i : ℕ} → Front s d out i → length s ≤ i → out ≡ s
front_end {s} {d} {out} {i} F h =
    let gone : drop (0 + i) d ≡ [] = drop_of_length-le d (let g : length d ≤ 0 + i = omega arith in g) in
    F.sofar ∙ ap (λ (r : List Float). take i s ++ r) gone ∙ append-nil (take i s) ∙ take_all i s h
