-- The lines of the runs, one superblock more. Assumes nothing.
use Rattle.std.proofs.Common.{◌≡◌, ℕ, ◌+◌, [], ◌++◌, true, false, refl, add-one, append-nil}
use Rattle.heap_rules.specs.declared.State.{State}
use Rattle.heap_rules.specs.Table.{superblock_at, starts_run}
use Rattle.line_rules.specs.Lines.{run_line, run_line_if, run_lines}

module _ (s : State) where
  pub run_lines_of_none : run_lines 0 s ≡ []
  unfolding run_lines
  run_lines_of_none = refl

  -- the first superblock of a run has a line, with the length that it carries, and no other has one
  module _ (k : ℕ) where
    pub run_lines_after_first : starts_run (superblock_at s k) ≡ true → run_lines (k + 1) s ≡ run_lines k s ++ run_line k (superblock_at s k).run
    unfolding run_lines run_line_if
    run_lines_after_first h = rw (add-one, h)

    pub run_lines_after_other : starts_run (superblock_at s k) ≡ false → run_lines (k + 1) s ≡ run_lines k s
    unfolding run_lines run_line_if
    run_lines_after_other h = rw (add-one, h, append-nil)
