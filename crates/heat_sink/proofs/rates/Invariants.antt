-- What enters link i, and the rates so far.
use Rattle.std.proofs.Common.{◌≡◌, ◌<◌, length}
use Rattle.workspace.proofs.Front.{Front}
use Rattle.heat_sink.specs.Model as spec
use Rattle.heat_sink.proofs.rates.Given as goal

abbrev pub invariant-loop-i : goal.invariant-loop-i
invariant-loop-i l = record {
  written : Front (spec.rates l.m l.point l.reading) l.fn.rates l.rates l.i;
  entering : l.i < length l.point → l.into ≡ spec.into l.m l.point l.reading l.i;
}
