-- `inverter::minutes::junction` meets its contract: the first temperature of the vector that the definition names. Assumes nothing.
use Rattle.std.proofs.Common.{List, get_or, sym, ap, ◌∙◌}
use Rattle.std.specs.Float.{nan}
use lib.Ieee.{Float}
use Rattle.workspace.specs.declared.Vector.{Vector}
use Rattle.workspace.specs.Vectors.{unpack}
use Rattle.inverter.proofs.Run.{junction_candidate, junction_state}
use Rattle.inverter.proofs.minutes.junction.Goals as goal
use Rattle.inverter.proofs.minutes.junction.Goals.{then-may_accept, else-may_accept}

pub returns : goal.returns
returns c =
    let m = c.args.engine.now.inverter in
    let area = c.args.engine.now.area.now in
    let phase = c.args.phase in
    ap (λ (l : List Float). get_or l 0 nan) c.vector.ensures.value
    ∙ elim c.if-may_accept.branch [
      | then-may_accept w ↦ ap (λ (b : Vector). get_or (unpack m.n area b) 0 nan) w.v-is
          ∙ junction_candidate m phase area (sym c.may_accept.ensures ∙ w.if-may_accept.true)
      | else-may_accept w ↦ ap (λ (b : Vector). get_or (unpack m.n area b) 0 nan) w.v-is
          ∙ junction_state m phase area (sym c.may_accept.ensures ∙ w.if-may_accept.false)
    ]
