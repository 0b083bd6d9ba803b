use mathlib.Core.Path.{ap, ◌∙◌}
use Prim.Native.Nat.{ℕ}
use lib.ListN.{replicate, length-replicate}
use Rattle.workspace.proofs.Parts.{cast, length_part, written_part}
use Rattle.workspace.proofs.area.fill_vector.Goals as goal

pub returns : goal.returns
returns c =
    let p = c.requires in
    let x = c.args.x in
    written_part _ _ _ _ (cast _) p.n_in_bounds p.v_bound (length-replicate _ x)
    (c.fill.ensures.after (λ y e. e) ∙ ap (λ (m : ℕ). replicate m x) (length_part _ _ _ _ (cast _) p.n_in_bounds p.v_bound))
