use Rattle.std.proofs.Common.{◌∙◌, rules}
use Rattle.workspace.specs.Kernel.{with_row_in, entry_in, chebyshev_entry, orthogonal_entry, initial_first_entry, plain_entry}
use Rattle.workspace.proofs.stages.row_by.Goals as goal

pub returns-in-ChebyshevRow : goal.returns-in-ChebyshevRow
unfolding with_row_in entry_in
returns-in-ChebyshevRow c = c.row_in.ensures (chebyshev_entry c.args.step c.args.c) (λ x y v e r. search rules) ∙ rw c.in-ChebyshevRow.is

pub returns-in-OrthogonalRow : goal.returns-in-OrthogonalRow
unfolding with_row_in entry_in
returns-in-OrthogonalRow c = c.row_in-in-OrthogonalRow.ensures (orthogonal_entry c.args.step c.args.c) (λ x y v e r. search rules) ∙ rw c.in-OrthogonalRow.is

pub returns-in-InitialFirstRow : goal.returns-in-InitialFirstRow
unfolding with_row_in entry_in
returns-in-InitialFirstRow c = c.row_in-in-InitialFirstRow.ensures (initial_first_entry c.args.step c.args.c) (λ x y v e r. search rules) ∙ rw c.in-InitialFirstRow.is

pub returns-in-PlainRow : goal.returns-in-PlainRow
unfolding with_row_in entry_in
returns-in-PlainRow c = c.row_in-in-PlainRow.ensures (plain_entry c.args.step c.args.c) (λ x y v e r. search rules) ∙ rw c.in-PlainRow.is
