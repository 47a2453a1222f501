-- The cases and laws of the parts of calls, cited in one declaration. A case of a whole call, which takes the prover longer, unfolds it and so cites them: a
-- declaration that cites a refused one is skipped, so that an edit which a part's case refuses computes no whole call. The parts' own cases are in a row, quick
-- ones first, each file's behind the one before it: rules, names, runs, drops. The last of the row cites all. Assumes nothing.
use Rattle.base_laws.proofs.Stages.{◌also◌}
use Rattle.call_rules.proofs.DropCases.{all_freed_case}

unfoldable pub parts_hold : Unit {0}
parts_hold = all_freed_case also tt
