-- `form_layout::place_count` meets its contract. Assumes nothing.
use native.Mathlib.Omega.{arith}
use Rattle.form_layout.proofs.LayoutLaws.{place_count_of_setup, place_count_of_state}
use Rattle.form_layout.proofs.place_count.Goals as goal
use Rattle.form_layout.proofs.place_count.Goals.{in-0, in_default}

pub returns : goal.returns
returns c =
    (elim c.match-byte_at.branch [ in-0 w ↦ search place_count_of_setup | in_default w ↦ search place_count_of_state ], omega arith)
