-- Computations that ask alike: under the rest of a computation, at one evaluation, and on a stream of replies.
use mathlib.Core.Path.{◌≡◌, refl, ap₂}
use mathlib.Core.Bool.{Bool, true, false, cond}
use mathlib.Core.List.{List, ◌∷◌}
use Prim.Native.Nat.{ℕ, suc}
use lib.Ieee.{Float}
use Rattle.workspace.specs.Vectors.{Vectors, all_finite}
use Rattle.session.specs.Attempt.{Purpose, Asking, done, stopped, ask, ◌>>=◌, evaluate, Evaluated, evaluated, end, fixed_at}
use Rattle.session.specs.Alike.{Alike, SameEnd}

pub bind_alike : {A B : Type 0} (R : A → A → Type 0) (S : B → B → Type 0) (f g : A → Asking B) (m m' : Asking A) → Alike R m m'
    → ((x y : A) → R x y → Alike S (f x) (g y)) → Alike S (m >>= f) (m' >>= g)
unfolding ◌>>=◌
bind_alike R S f g (done x) (done y) h on = on x y h
bind_alike R S f g (done x) (stopped j w) h on = absurd h
bind_alike R S f g (done x) (ask why' u q l) h on = absurd h
bind_alike R S f g (stopped i v) (done y) h on = absurd h
bind_alike R S f g (stopped i v) (stopped j w) h on = h
bind_alike R S f g (stopped i v) (ask why' u q l) h on = absurd h
bind_alike R S f g (ask why t p k) (done y) h on = absurd h
bind_alike R S f g (ask why t p k) (stopped j w) h on = absurd h
bind_alike R S f g (ask why t p k) (ask why' u q l) h on = (h.0, h.1, h.2, λ d. bind_alike R S f g (k d) (l d) (h.3 d) on)

pub evaluate_alike : {B : Type 0} (S : B → B → Type 0) (f g : List Float → Asking B) (why : Purpose) (v w : Vectors) (t : Float) (p q : List Float) → p ≡ q
    → ((d : List Float) → Alike S (f d) (g d))
    → Alike S (evaluate why v t p >>= f) (evaluate why w t q >>= g)
unfolding evaluate ◌>>=◌ fixed_at
evaluate_alike S f g why v w t p q e on = (refl, refl, e, λ d. go d (all_finite d))
  where
    go : (d : List Float) (b : Bool) → Alike S (cond b (done d) (stopped 9 v) >>= f) (cond b (done d) (stopped 9 w) >>= g)
    go d true = on d
    go d false = record { number_same = refl; vectors_same = refl }

pub same_evaluated : {A : Type 0} (R : A → A → Type 0) (m m' : Asking A) (d : ℕ → List Float) (i : ℕ) → Alike R m m' → evaluated m d i ≡ evaluated m' d i
unfolding evaluated
same_evaluated R (done x) (done y) d i h = refl
same_evaluated R (done x) (stopped j w) d i h = absurd h
same_evaluated R (done x) (ask why' u q l) d i h = absurd h
same_evaluated R (stopped n v) (done y) d i h = absurd h
same_evaluated R (stopped n v) (stopped j w) d i h = refl
same_evaluated R (stopped n v) (ask why' u q l) d i h = absurd h
same_evaluated R (ask why t p k) (done y) d i h = absurd h
same_evaluated R (ask why t p k) (stopped j w) d i h = absurd h
same_evaluated {A} R (ask why t p k) (ask why' u q l) d i h =
    ap₂ (λ (e : Evaluated) (es : List Evaluated). e ∷ es) (ap₂ {C = Evaluated} (λ (x : Float) (y : List Float). record { time = x; point = y }) h.1 h.2)
    (same_evaluated R (k (d i)) (l (d i)) d (suc i) (h.3 (d i)))

pub same_ending : {A : Type 0} (R : A → A → Type 0) (m m' : Asking A) (d : ℕ → List Float) (i : ℕ) → Alike R m m' → SameEnd R (end m d i) (end m' d i)
unfolding end
same_ending R (done x) (done y) d i h = h
same_ending R (done x) (stopped j w) d i h = absurd h
same_ending R (done x) (ask why' u q l) d i h = absurd h
same_ending R (stopped n v) (done y) d i h = absurd h
same_ending R (stopped n v) (stopped j w) d i h = h
same_ending R (stopped n v) (ask why' u q l) d i h = absurd h
same_ending R (ask why t p k) (done y) d i h = absurd h
same_ending R (ask why t p k) (stopped j w) d i h = absurd h
same_ending R (ask why t p k) (ask why' u q l) d i h = same_ending R (k (d i)) (l (d i)) d (suc i) (h.3 (d i))
