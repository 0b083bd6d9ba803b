-- Reply: taken exactly where the session takes it, shows what the session shows, and leaves the area as long as it was.
use mathlib.Core.Path.{◌≡◌, refl, sym, ap, ◌∙◌}
use mathlib.Core.Bool.{Bool, true, false, cond, not, ◌&&◌, and_assoc}
use mathlib.Core.List.{List}
use Prim.Native.Nat.{ℕ}
use borrow.Author.Tests.{eqb-true}
use lib.ListN.{length}
use lib.Ieee.{Float}
use Rattle.workspace.specs.Vectors.{Vectors, unpack, all_finite}
use Rattle.driver.specs.declared.Phase.TheVariants as P
use Rattle.driver.specs.declared.Answer.{Answer}
use Rattle.driver.specs.declared.Answer.TheVariants.{Evaluate, Finished, Ready, Refused, Empty}
use Rattle.driver.specs.Numbers.{ending_numbers}
use Rattle.driver.specs.Calls.{Held, replied, as_long, pending, awaiting, has_room, going_on, spoiled, settled, reply, Reply, taken, first_failing, decide}
use Rattle.driver.specs.Calls.{guarded, reply_tests}
use Rattle.driver.proofs.Ladder.{each_passes}
use Rattle.session.specs.Attempt.{done, stopped, ask}
use Rattle.session.specs.Refusals.{◌∈◌, later}
use Rattle.session.specs.Claim.{room_in}
use Rattle.session.specs.Session.{ready_with, tried, Doing, none, within, Session, waiting, counts_on, doing_now, replied_with, session_after, waits}
use Rattle.session.specs.Session.{waits_with_room}
use Rattle.ieee.proofs.Logic.{and_left, and_right}
use Rattle.session.proofs.Truth.{differ, and_none}
use Rattle.session.proofs.Numbers.{not_standing}
use Rattle.session.proofs.Lengths.{long_area, pack_length, replied_long}
use Rattle.session.proofs.Leaves.{replied_high}
use Rattle.session.proofs.Shows.{Shows, Does, Good}
use Rattle.session.proofs.Guards.{taken_exactly, taken_passes}
use Rattle.session.proofs.Standing.{all_pass, none_pass, idle, K, N, W, standing, Place, inside, outside, place, room_alike}

-- refused with a number that ends its phase, it is taken
high_taken : (y : Answer) → ((i : ℕ) → y ≡ Refused i → i ∈ ending_numbers) → taken y ≡ true
unfolding taken
high_taken (Evaluate t b) high = refl
high_taken (Finished figures) high = refl
high_taken Ready high = refl
high_taken (Refused i) high = ap not (not_standing (high i refl))
high_taken Empty high = refl

reply_tells : (h : Held) (d : List Float) → taken (reply h d).answer ≡ K h
    && (N h && (W h && as_long h.kept.n d && (awaiting h.kept && has_room h.kept.phase h.counters)))
unfolding reply reply_tests taken settled going_on spoiled
reply_tells h d = taken_exactly h (reply_tests h.kept h.counters h.area d) _ refl (go (all_finite d))
  where
    go : (t : Bool) → taken (cond t (settled h.counters (replied h.kept.phase h.kept (unpack h.kept.n h.area) d)) (spoiled h)).answer ≡ true
    go true = let v = unpack h.kept.n h.area in
        high_taken (replied h.kept.phase h.kept v d).answer (λ i e. later (replied_high h.kept.phase h.kept v d i e).beyond)
    go false = refl

pub reply_agrees : (h : Held) (σ : Session) → h.counters ≡ σ.counts → Does σ.family σ.n σ.doing h → (d : List Float)
    → taken (reply h d).answer ≡ as_long σ.n d && waits_with_room σ.doing σ.counts
reply_agrees h σ cs does d =
    reply_tells h d
    ∙ ap (λ (b : Bool). K h && (N h && b)) (and_assoc (W h) (as_long h.kept.n d) (awaiting h.kept && has_room h.kept.phase h.counters))
    ∙ go (place h σ.family σ.n σ.doing does)
  where
    waits_is : awaiting h.kept ≡ waits σ.doing
    waits_is = (standing h σ.family σ.n σ.doing does).awaiting_is·waits

    go : Place h σ.n σ.doing → K h && (N h && (W h && (as_long h.kept.n d && (awaiting h.kept && has_room h.kept.phase h.counters))))
        ≡ as_long σ.n d && waits_with_room σ.doing σ.counts
    go (inside k n w l) =
        all_pass (K h) (N h) (W h) _ k n w
        ∙ ap (λ (b : Bool). b && (awaiting h.kept && has_room h.kept.phase h.counters)) (l d)
        ∙ ap (λ (b : Bool). as_long σ.n d && b) (room_alike h σ cs σ.doing does)
    go (outside r u w) =
        none_pass (K h) (N h) (W h) _ (and_none (as_long h.kept.n d) _ (rw (waits_is, w)))
        ∙ sym (and_none (as_long σ.n d) _ (sym (room_alike h σ cs σ.doing does) ∙ rw (waits_is, w)))

module _ (h : Held) (d : List Float) (q : taken (reply h d).answer ≡ true) where
  -- it passed its tests
  record Passed : Type 0 where
    family_known : K h ≡ true
    n_sized : N h ≡ true
    lengths_good : W h && as_long h.kept.n d ≡ true
    awaits : awaiting h.kept ≡ true
    room_good : room_in h ≡ true

  passed : Passed
  unfolding reply reply_tests
  passed = let p = each_passes (reply_tests h.kept h.counters h.area d) (taken_passes h _ _ refl q) in
      record { family_known = p.0; n_sized = p.1.0; lengths_good = p.1.1.0; awaits = p.1.1.1.0; room_good = p.1.1.1.1.0 }

  long : length d ≡ h.kept.n
  unfolding as_long
  long = eqb-true (length d) h.kept.n (and_right (W h) (as_long h.kept.n d) passed.lengths_good)

  whole : W h ≡ true
  whole = and_left (W h) (as_long h.kept.n d) passed.lengths_good

  pub reply_good : (σ : Session) → h.counters ≡ σ.counts → Does σ.family σ.n σ.doing h → Good (session_after σ (Reply d)) (reply h d)
  unfolding session_after doing_now Does Shows replied_with waiting pending
  reply_good σ cs does = go σ.doing does
    where
      go : (δ : Doing) → Does σ.family σ.n δ h → Good (session_after (doing_now σ δ) (Reply d)) (reply h d)
      go none e = absurd (differ (sym (idle h.kept P.Empty e refl) ∙ passed.awaits))
      go (within (done (ready_with x v))) e = absurd (differ (sym (idle h.kept P.Ready e.0.phase_is refl) ∙ passed.awaits))
      go (within (done (tried x step o))) e = absurd (differ (sym (idle h.kept P.Finished e.0.phase_is refl) ∙ passed.awaits))
      go (within (stopped i v)) e = absurd (differ (sym (idle h.kept P.Empty e refl) ∙ passed.awaits))
      go (within (ask why t p k)) e = let g = e.3 d (long ∙ e.0.n_is) passed.room_good in
          record { shown_is = g.0; counts_are = g.1 ∙ ap (counts_on (within (k d))) cs; does = g.2 }

  pub reply_area : length (reply h d).held.area ≡ length h.area
  unfolding reply reply_tests guarded decide first_failing settled going_on spoiled
  reply_area = rw (passed.family_known, passed.n_sized, passed.lengths_good, passed.awaits, passed.room_good) (go (all_finite d))
    where
      v : Vectors
      v = unpack h.kept.n h.area

      go : (t : Bool) → length (cond t (settled h.counters (replied h.kept.phase h.kept v d)) (spoiled h)).held.area ≡ length h.area
      go true = pack_length h.kept.family h.kept.n (replied h.kept.phase h.kept v d).vectors h.area
          (replied_long h.kept.phase h.kept v d (long_area h.kept.family h.kept.n h.area whole) long) whole
      go false = refl
