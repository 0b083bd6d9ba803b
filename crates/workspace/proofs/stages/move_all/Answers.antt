use Rattle.workspace.proofs.Fours.{all_moved}
use Rattle.workspace.proofs.stages.move_all.Goals as goal

pub returns : goal.returns
returns g c = λ h m.
    all_moved _ _ _ _ _ _ _ c.requires.ten_len c.requires.derivative_len c.fours_within-fours.ensures (c.move_fours.ensures h m) (c.move_rest.ensures h m)
