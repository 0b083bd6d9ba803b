use Rattle.std.proofs.Common.{◌∙◌, rules}
use Rattle.workspace.specs.Kernel.{with_row_in, entry_in, chebyshev_entry, orthogonal_entry, initial_first_entry, plain_entry}
use Rattle.workspace.proofs.stages.row_and_exchange_by.Goals as goal

pub returns-in-ChebyshevRow : goal.returns-in-ChebyshevRow
unfolding with_row_in entry_in
returns-in-ChebyshevRow c = c.move_all.ensures (chebyshev_entry c.args.step c.args.c) (λ x y v e r. search rules) ∙ rw c.in-ChebyshevRow.is

pub returns-in-OrthogonalRow : goal.returns-in-OrthogonalRow
unfolding with_row_in entry_in
returns-in-OrthogonalRow c = c.move_all-in-OrthogonalRow.ensures (orthogonal_entry c.args.step c.args.c) (λ x y v e r. search rules) ∙ rw c.in-OrthogonalRow.is

pub returns-in-InitialFirstRow : goal.returns-in-InitialFirstRow
unfolding with_row_in entry_in
returns-in-InitialFirstRow c = c.move_all-in-InitialFirstRow.ensures (initial_first_entry c.args.step c.args.c) (λ x y v e r. search rules) ∙ rw c.in-InitialFirstRow.is

pub returns-in-PlainRow : goal.returns-in-PlainRow
unfolding with_row_in entry_in
returns-in-PlainRow c = c.move_all-in-PlainRow.ensures (plain_entry c.args.step c.args.c) (λ x y v e r. search rules) ∙ rw c.in-PlainRow.is
