use Rattle.workspace.proofs.Parts.{cast, copied_part}
use Rattle.workspace.proofs.area.copy_vector.Goals as goal

pub returns : goal.returns
returns c =
    let p = c.requires in
    copied_part _ _ _ _ _ _ (cast _) (cast _) p.n_in_bounds_2.0 p.n_in_bounds_2.1 c.copy_within.ensures.after
