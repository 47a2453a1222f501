-- `form_row::other_records` meets its contract: by computation. Assumes nothing.
use mathlib.Core.Path.{refl}
use Rattle.form_row.proofs.other_records.Goals as goal

pub returns : goal.returns
returns c = refl
