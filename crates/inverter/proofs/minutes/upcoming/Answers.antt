-- `inverter::minutes::upcoming` meets its contract, by that of `find`. Assumes nothing.
use Rattle.std.proofs.Common.{◌+◌, ◌-◌, length, drop, get_or, sym, ap, ◌∙◌, rules, tests, arith, length-drop, Iter}
use Rattle.std.specs.Float.{nan}
use Rattle.std.specs.Prelude.{Option}
use Rattle.std.specs.Option.{unwrap_or}
use Rattle.std.specs.Slice.Iter.{iter_rest}
use Rattle.std.proofs.lemmas.Iterator.{YieldsList-from_slice}
use Rattle.std.proofs.lemmas.Iterator.Consumers.{YieldsList-from_copied}
use Rattle.std.proofs.lemmas.Iterator.Search.{find_from_yields_List}
use Rattle.std.proofs.lemmas.Iterator.Adapters.{option_map_id}
use lib.Seq.{take_all}
use lib.Ieee.{Float}
use lib.Ieee.Scale.{finite}
use Rattle.inverter.proofs.Run.{upcoming_found}
use Rattle.inverter.proofs.minutes.upcoming.Goals as goal

pub returns : goal.returns
returns c =
    let a = c.args in
    let r = get_or a.readings.now a.i nan in
    let xs = drop (a.i + 1) a.readings.now in
    let n = length a.readings.now - (a.i + 1) in
    let rest = ap (λ (s : Iter Float). iter_rest s) c.copied.ensures.source ∙ c.iter.ensures.rest ∙ take_all n xs (omega (arith, length-drop {A = Float})) in
    let found = find_from_yields_List finite _ _ c.find.result c.find.ensures.ran (YieldsList-from_copied (YieldsList-from_slice xs rest)) (λ x b q k. search (rules, tests)) in
    c.unwrap_or.ensures
    ∙ ap (λ (o : Option Float). unwrap_or o r) (sym (option_map_id _) ∙ found)
    ∙ upcoming_found r xs
