-- The doubles of the code are those of the bits, by the law of Bits.
use Rattle.std.specs.Prelude.{◌≡◌, ◌-◌, min}
use Rattle.std.proofs.Common.{arith}
use Rattle.coefficients.specs.Table as Table
use Rattle.coefficients.proofs.Bits.{read_at}
use Rattle.coefficients.proofs.chebyshev.omega_one.Goals as goal

pub returns : goal.returns
unfolding Table.omega Table.omega_bits
returns c =
    let at : c.saturating_sub.result ≡ min c.args.s 200 - 2 = omega arith in
    read_at Table.omega_bits c.saturating_sub.result (min c.args.s 200 - 2) at (omega arith)
