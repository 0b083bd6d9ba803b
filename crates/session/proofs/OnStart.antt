-- Start: taken exactly where the session takes it, shows what the session shows, and leaves the area as long as it was.
use mathlib.Core.Path.{◌≡◌, refl, ap}
use mathlib.Core.Bool.{true, ◌&&◌}
use mathlib.Core.List.{List}
use Prim.Native.Nat.{ℕ}
use borrow.Author.Tests.{eqb-true}
use lib.ListN.{length, length-replicate, replicate}
use lib.Ieee.{Float}
use lib.Ieee.Scale.{finite}
use Rattle.ieee.specs.Double.{nought}
use Rattle.family.specs.Family.{known, family_of}
use Rattle.workspace.specs.Vectors.{Vectors, ◌with◌≔◌, unpack, all_finite, first_derivative, eigenvector, state}
use Rattle.workspace.proofs.Areas.{Long, unpack_pack, long_with}
use Rattle.driver.specs.declared.Phase.TheVariants as P
use Rattle.driver.specs.Calls.{Held, in_phase, at_time, first_at, take_first, replied, sized, whole_area, as_long, pending, in_range, awaiting, finishes}
use Rattle.driver.specs.Calls.{start_vectors, start, Start, taken, first_failing, decide, guarded, start_tests}
use Rattle.driver.proofs.Ladder.{each_passes}
use Rattle.session.specs.Attempt.{◌>>=◌, evaluate}
use Rattle.session.specs.Session.{evaluates, answer_shown, initialize, Session, session_after, doing_shown}
use Rattle.ieee.proofs.Logic.{and_left, and_right}
use Rattle.session.proofs.Truth.{differ}
use Rattle.session.proofs.Lengths.{long_area, pack_length}
use Rattle.session.proofs.Shows.{Does, Good, once}
use Rattle.session.proofs.Guards.{taken_exactly, taken_passes}

pub start_tells : (h : Held) (f n : ℕ) (y : List Float) (t : Float) → taken (start h f n y t).answer ≡ known f
    && (sized n && (whole_area f n h.area && as_long n y && (all_finite y && finite t)))
unfolding start start_tests taken
start_tells h f n y t = taken_exactly h (start_tests f n h.area y t) _ refl refl

module _ (h : Held) (f n : ℕ) (y : List Float) (t : Float) (q : taken (start h f n y t).answer ≡ true) where
  -- it passed its tests
  record Passed : Type 0 where
    family_known : known f ≡ true
    n_sized : sized n ≡ true
    lengths_good : whole_area f n h.area && as_long n y ≡ true
    state_finite : all_finite y ≡ true
    time_finite : finite t ≡ true

  passed : Passed
  unfolding start start_tests
  passed = let p = each_passes (start_tests f n h.area y t) (taken_passes h _ _ refl q) in
      record { family_known = p.0; n_sized = p.1.0; lengths_good = p.1.1.0; state_finite = p.1.1.1.0; time_finite = p.1.1.1.1.0 }

  whole : whole_area f n h.area ≡ true
  whole = and_left (whole_area f n h.area) (as_long n y) passed.lengths_good

  v : Vectors
  v = unpack n h.area with state ≔ y with eigenvector ≔ replicate n nought

  long_v : Long (family_of f) n v
  unfolding v as_long
  long_v =
      let long = eqb-true (length y) n (and_right (whole_area f n h.area) (as_long n y) passed.lengths_good) in
      long_with (family_of f) n (unpack n h.area with state ≔ y) eigenvector (replicate n nought)
      (long_with (family_of f) n (unpack n h.area) state y (long_area f n h.area whole) long) (length-replicate n nought)

  pub start_good : (σ : Session) → h.counters ≡ σ.counts → Good (session_after σ (Start f n y t)) (start h f n y t)
  unfolding start start_vectors start_tests guarded decide first_failing session_after initialize Does first_at at_time pending in_range awaiting finishes
      answer_shown doing_shown evaluate ◌>>=◌ replied take_first in_phase v
  start_good σ cs = rw (passed.family_known, passed.n_sized, passed.lengths_good, passed.state_finite, passed.time_finite) (record {
    shown_is = ap (λ (w : Vectors). evaluates t (w state)) (unpack_pack (family_of f) n v long_v);
    counts_are = cs;
    does = once (first_at P.First f n t h.kept) h.counters v passed.family_known passed.n_sized long_v
        ((λ b. replicate n nought) with state ≔ y) t y (λ d. (λ b. replicate n nought) with state ≔ y with first_derivative ≔ d)
        (λ d. v with first_derivative ≔ d)
        refl refl (λ d hd. long_with (family_of f) n v first_derivative d long_v hd) (λ d. refl)
        refl (λ d. record { state_same = refl; first_same = refl; eigenvector_same = refl; older_same = λ e. absurd (differ e) });
  })

  pub start_area : length (start h f n y t).held.area ≡ length h.area
  unfolding start start_vectors start_tests guarded decide first_failing v
  start_area = rw (
    passed.family_known,
    passed.n_sized,
    passed.lengths_good,
    passed.state_finite,
    passed.time_finite,
  ) (pack_length f n v h.area long_v whole)
