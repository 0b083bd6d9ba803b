-- Truth values: what tests joined by `&&`, `||` and `not` come to. What a layer below or the library has is cited.
use mathlib.Core.Path.{◌≡◌, refl, ap₂}
use mathlib.Core.Bool.{Bool, true, false, ◌&&◌, ◌||◌}
pub use mathlib.Core.Bool.{false≢true as differ}

pub both : {a b : Bool} → a ≡ true → b ≡ true → a && b ≡ true
both p q = ap₂ ◌&&◌ p q

pub and_none : (a b : Bool) → b ≡ false → a && b ≡ false
and_none true b e = e
and_none false b e = refl

pub or_left : (a b : Bool) → a ≡ true → a || b ≡ true
or_left true b e = refl
or_left false b e = absurd (differ e)

pub or_right : (a b : Bool) → b ≡ true → a || b ≡ true
or_right true b e = refl
or_right false b e = e
