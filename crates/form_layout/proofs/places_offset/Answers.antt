-- `form_layout::places_offset` meets its contract. Assumes nothing.
use native.Mathlib.Omega.{arith}
use Rattle.form_layout.proofs.LayoutLaws.{places_offset_of_setup, places_offset_of_state}
use Rattle.form_layout.proofs.places_offset.Goals as goal

pub returns-in-0 : goal.returns-in-0
returns-in-0 c = (search places_offset_of_setup, omega arith)

pub returns-in_default : goal.returns-in_default
returns-in_default c = (search places_offset_of_state, omega arith)
