-- What is permitted, as facts: from the smallest count to the largest, and odd where it must be. Every permitted count is from 2 to 1000
-- (`permitted_range`), which RKMC2 reaches (`largest_reached`), of RKL and RKG from 2 to 200 (`orthogonal_range`). Assumes nothing.
use mathlib.Core.Path.{◌≡◌, refl}
use Prim.Native.Nat.{ℕ, ◌%◌, ◌≤◌}
use native.Mathlib.Nat.{le_refl, le_trans}
use mathlib.Core.Bool.{Bool, true, false, not, ◌&&◌, ◌||◌}
use lib.Dec.{T, leb, eqb, leb→le, le→leb, eqb→eq, lit≤}
use lib.Ieee.Fits.{and_l, and_r, and_i, eq→eqb}
use Rattle.family.specs.declared.Facts.{Facts}
use Rattle.family.specs.declared.Family.{Family}
use Rattle.family.specs.declared.Family.TheVariants.{RKC, RKL1, RKL2, RKG1, RKG2, RKMC2, TSRKC2}
use Rattle.family.specs.Family.{smallest_count, largest_count, odd_only, permitted, facts_of}
use Rattle.family.specs.Family.{most_stages}
use Rattle.family.specs.Family.{Orthogonal, Legendre1, Legendre2, Gegenbauer1, Gegenbauer2, made_of}

pub record Permitted (f : Family) (s : ℕ) : Type 0 where
  pub from : smallest_count f ≤ s
  pub to : s ≤ largest_count f
  pub odd : T (odd_only f) → s % 2 ≡ 1

odd_so : (o : Bool) (s : ℕ) → T (not o || eqb (s % 2) 1) → T o → s % 2 ≡ 1
odd_so true s t i = eqb→eq (s % 2) 1 t
odd_so false s t i = absurd i

pub permitted_says : (f : Family) (s : ℕ) → T (permitted f s) → Permitted f s
unfolding permitted
permitted_says f s t =
    let a = leb (smallest_count f) s in
    let b = leb s (largest_count f) in
    let c = not (odd_only f) || eqb (s % 2) 1 in
    let l = and_l (a && b) c t in
    record {
      from = leb→le (smallest_count f) s (and_l a b l);
      to = leb→le s (largest_count f) (and_r a b l);
      odd = odd_so (odd_only f) s (and_r (a && b) c t);
    }

permitted_between : (f : Family) (s : ℕ) → T (permitted f s) → (smallest_count f ≤ s) × (s ≤ largest_count f)
permitted_between f s t = let p = permitted_says f s t in (p.from, p.to)

pub rkc_between : (s : ℕ) → T (permitted RKC s) → (2 ≤ s) × (s ≤ 200)
unfolding smallest_count largest_count facts_of
rkc_between s t = permitted_between RKC s t

pub rkmc2_between : (s : ℕ) → T (permitted RKMC2 s) → (3 ≤ s) × (s ≤ 1000)
unfolding smallest_count largest_count facts_of
rkmc2_between s t = permitted_between RKMC2 s t

pub permitted_if : (f : Family) (s : ℕ) → Permitted f s → T (permitted f s)
unfolding permitted
permitted_if f s p =
    let a = leb (smallest_count f) s in
    let b = leb s (largest_count f) in
    let c = not (odd_only f) || eqb (s % 2) 1 in
    and_i (a && b) c (and_i a b (le→leb (smallest_count f) s p.from) (le→leb s (largest_count f) p.to)) (go (odd_only f) p.odd)
  where
    go : (o : Bool) → (T o → s % 2 ≡ 1) → T (not o || eqb (s % 2) 1)
    go true h = eq→eqb (h tt)
    go false h = tt

-- ---- each family's facts are sound: its largest count is permitted, and its counts are from 2 to 1000

unfoldable sound : Facts → Bool
sound x = (leb 2 x.smallest && leb x.smallest x.largest) && (leb x.largest most_stages && (not x.odd_only || eqb (x.largest % 2) 1))

facts_sound : (f : Family) → T (sound (facts_of f))
unfolding sound facts_of
facts_sound RKC = tt
facts_sound RKL1 = tt
facts_sound RKL2 = tt
facts_sound RKG1 = tt
facts_sound RKG2 = tt
facts_sound RKMC2 = tt
facts_sound TSRKC2 = tt

record Sound (f : Family) : Type 0 where
  from_two : 2 ≤ smallest_count f
  ordered : smallest_count f ≤ largest_count f
  to_most : largest_count f ≤ most_stages
  odd_largest : T (not (odd_only f) || eqb (largest_count f % 2) 1)

sound_says : (f : Family) → Sound f
unfolding sound smallest_count largest_count odd_only
sound_says f =
    let x = facts_of f in
    let a = leb 2 x.smallest in
    let b = leb x.smallest x.largest in
    let c = leb x.largest most_stages in
    let d = not x.odd_only || eqb (x.largest % 2) 1 in
    let t = facts_sound f in
    let low = and_l (a && b) (c && d) t in
    let high = and_r (a && b) (c && d) t in
    record {
      from_two = leb→le 2 x.smallest (and_l a b low);
      ordered = leb→le x.smallest x.largest (and_r a b low);
      to_most = leb→le x.largest most_stages (and_l c d high);
      odd_largest = and_r c d high;
    }

-- the largest count is permitted
pub largest_permitted : (f : Family) → Permitted f (largest_count f)
largest_permitted f = let x = sound_says f in record {
  from = x.ordered;
  to = le_refl (largest_count f);
  odd = odd_so (odd_only f) (largest_count f) x.odd_largest;
}

pub largest_reached : largest_count RKMC2 ≡ most_stages
unfolding largest_count facts_of
largest_reached = refl

pub largest_to : (f : Family) → largest_count f ≤ most_stages
largest_to f = (sound_says f).to_most

pub permitted_range : (f : Family) (s : ℕ) → T (permitted f s) → (2 ≤ s) × (s ≤ most_stages)
permitted_range f s t = let p = permitted_says f s t in let x = sound_says f in (le_trans x.from_two p.from, le_trans p.to x.to_most)

orthogonal_to : (f : Orthogonal) → largest_count (made_of f) ≤ 200
unfolding made_of largest_count facts_of
orthogonal_to Legendre1 = lit≤ tt
orthogonal_to Legendre2 = lit≤ tt
orthogonal_to Gegenbauer1 = lit≤ tt
orthogonal_to Gegenbauer2 = lit≤ tt

pub orthogonal_range : (f : Orthogonal) (s : ℕ) → T (permitted (made_of f) s) → (2 ≤ s) × (s ≤ 200)
orthogonal_range f s t = ((permitted_range (made_of f) s t).0, le_trans (permitted_says (made_of f) s t).to (orthogonal_to f))
