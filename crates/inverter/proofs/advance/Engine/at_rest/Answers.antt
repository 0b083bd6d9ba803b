-- `inverter::advance::Engine::at_rest` meets its contract, by that of `fill_vector`. Assumes nothing.
use Rattle.std.proofs.Common.{◌≡◌, List, length, replicate, ap, ◌∙◌, arith}
use lib.ListN.{length-replicate}
use lib.Ieee.{Float}
use Rattle.ieee.specs.Double.{nought}
use Rattle.family.specs.Family.{family_of}
use Rattle.workspace.specs.Vectors.{◌with◌≔◌, unpack, state}
use Rattle.workspace.proofs.Areas.{whole}
use Rattle.heat_sink.specs.declared.Inverter.{Inverter}
use Rattle.inverter.specs.Day.{area_size}
use Rattle.inverter.proofs.Outset.{outset_area}
use Rattle.inverter.proofs.advance.Engine.at_rest.Goals as goal

long : (m : Inverter) (area : List Float) → area ≡ replicate (area_size m) nought → length area ≡ area_size m
long m area e = ap length e ∙ length-replicate (area_size m) nought

pub fill_vector-requires-clause-n_in_bounds : goal.fill_vector-requires-clause-n_in_bounds
fill_vector-requires-clause-n_in_bounds c =
    let m = c.args.inverter in
    whole (family_of m.family) m.n c.args.area.now (long m c.args.area.now c.requires.area_value)

pub returns-clause-area : goal.returns-clause-area
returns-clause-area c =
    let f = c.fill_vector in
    let m = c.args.inverter in
    let l = long m c.args.area.now c.requires.area_value in
    let e = f.ensures.vectors ∙ ap (λ (a : List Float). unpack m.n a with state ≔ replicate m.n m.initial) c.requires.area_value in
    outset_area m f.new.area (f.auto.area ∙ l) e

pub invariant_of-result-clause-holds_vectors : goal.invariant_of-result-clause-holds_vectors
invariant_of-result-clause-holds_vectors c =
    let m = c.args.inverter in
    omega (arith, whole (family_of m.family) m.n c.args.area.now (long m c.args.area.now c.requires.area_value), c.fill_vector.auto.area)
