use Rattle.workspace.proofs.Parts.{cast, read_part, length_part}
use Rattle.workspace.proofs.area.vector.Goals as goal

pub returns-clause-len : goal.returns-clause-len
returns-clause-len c = let p = c.requires in length_part _ _ _ _ (cast _) p.n_in_bounds p.v_bound

pub returns-clause-value : goal.returns-clause-value
returns-clause-value c = read_part _ _ _ _ (cast _)
