-- `form_layout::table_offset` meets its contract. Assumes nothing.
use native.Mathlib.Omega.{arith}
use Rattle.form_layout.proofs.LayoutLaws.{table_offset_of_take_or_named_free, table_offset_of_drop, table_offset_of_free_or_named_take}
use Rattle.form_layout.proofs.table_offset.Goals as goal

pub returns-in-1 : goal.returns-in-1
returns-in-1 c = (search table_offset_of_take_or_named_free, omega arith)

pub returns-in-5 : goal.returns-in-5
returns-in-5 c = (search table_offset_of_drop, omega arith)

pub returns-in_default : goal.returns-in_default
returns-in_default c = (search table_offset_of_free_or_named_take, omega arith)
