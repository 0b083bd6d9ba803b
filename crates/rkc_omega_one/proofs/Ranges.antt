-- What `extended` reads below and above s = 200. From its definition. Assumes nothing.
use mathlib.Core.Path.{◌≡◌, ap}
use mathlib.Core.Bool.{Bool, cond}
use Prim.Native.Nat.{ℕ, ◌-◌, ◌≤◌, ◌<◌}
use borrow.Author.Tests.{le-leb, lt-leb}
use Rattle.rkc_omega_one.specs.Beyond.{omega_one_beyond}
use Rattle.rkc_omega_one.specs.Table.{extended}
use Rattle.rkc_omega_one.specs.Table as Table

pub extended_same : (s : ℕ) → s ≤ 200 → extended s ≡ Table.omega s
unfolding extended
extended_same s h = ap (λ (b : Bool). cond b (Table.omega s) (omega_one_beyond (s - 200))) (le-leb s 200 h)

pub extended_beyond : (s : ℕ) → 200 < s → extended s ≡ omega_one_beyond (s - 200)
unfolding extended
extended_beyond s h = ap (λ (b : Bool). cond b (Table.omega s) (omega_one_beyond (s - 200))) (lt-leb s 200 h)
