-- `form_state::superblock_in` meets its contract. Assumes nothing.
use Rattle.form_rules.specs.Form.{superblock_in}
use Rattle.form_state.proofs.superblock_in.Goals as goal

pub returns : goal.returns
unfolding superblock_in
returns c = cc
