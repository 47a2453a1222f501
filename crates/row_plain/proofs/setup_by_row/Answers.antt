-- `row_plain::setup_by_row` meets its contract. Assumes nothing.
use Rattle.std.proofs.Common.{rules, List}
use Rattle.heap_rules.specs.declared.Superblock.{Superblock}
use Rattle.row_rules.specs.Row.{row_setup}
use Rattle.row_plain.proofs.LentLaws.{lent_by_rules}
use Rattle.row_plain.proofs.setup_by_row.Goals as goal

pub returns-clause-order_after : goal.returns-clause-order_after
returns-clause-order_after c =
    lent_by_rules _ _ _ (search rules) c.min-lent.ensures _ _ _ (λ (row : List Superblock). row_setup c.args.u row c.args.order.now)
    c.setup_row-answer.ensures.order_after
