use Rattle.workspace.proofs.Parts.{cast, written_part}
use Rattle.workspace.proofs.area.put_vector.Goals as goal

pub returns : goal.returns
returns c =
    let p = c.requires in
    written_part _ _ _ _ (cast _) p.n_in_bounds p.v_bound p.x_len c.copy_into.ensures
