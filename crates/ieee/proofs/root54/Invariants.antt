-- `counter` digits of the root have been read
use Rattle.std.proofs.Common.{◌<◌, ◌^◌}
use Rattle.ieee.proofs.Digit.{Read}
use Rattle.ieee.proofs.root54.Given as goal

abbrev pub invariant-loop : goal.invariant-loop
invariant-loop l = Read l.q l.u l.r l.w l.counter × (l.r < 2 ^ 54)
