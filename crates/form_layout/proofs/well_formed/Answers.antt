-- `form_layout::well_formed` meets its contract. Assumes nothing.
use Rattle.form_layout.proofs.LayoutLaws.{well_formed_false_of_unknown, well_formed_is_length_test}
use Rattle.form_layout.proofs.well_formed.Goals as goal

pub returns-then-byte_at-le-LAST_CALL : goal.returns-then-byte_at-le-LAST_CALL
returns-then-byte_at-le-LAST_CALL c = search well_formed_is_length_test

pub returns-else-byte_at-le-LAST_CALL : goal.returns-else-byte_at-le-LAST_CALL
returns-else-byte_at-le-LAST_CALL c = search well_formed_false_of_unknown
