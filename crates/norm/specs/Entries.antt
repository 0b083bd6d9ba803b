-- The entries that a function gives, one by one.
use Rattle.std.specs.Prelude.{◌≡◌, ℕ, ◌<◌, List, length, get_or, Float}
use Rattle.std.specs.Float.{nan}

-- `given i x` says that x may be the answer at i: below the length of xs it is the entry of xs there
abbrev pub Gives : (ℕ → Float → Type 0) → List Float → Type 0
Gives given xs = (i : ℕ) → i < length xs → (x : Float) → given i x → x ≡ get_or xs i nan
