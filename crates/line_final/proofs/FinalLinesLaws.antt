-- The lines of the classes of a heap and of the heaps, one more. Assumes nothing.
use Rattle.std.proofs.Common.{◌≡◌, ℕ, ◌+◌, [], ◌++◌, refl, add-one}
use Rattle.class_rules.specs.Classes.{class_count}
use Rattle.heap_rules.specs.declared.State.{State}
use Rattle.text_writer.proofs.WriteLaws.{written_append}
use Rattle.line_rules.specs.Lines.{heap_line_if, class_lines, heap_lines}

module _ (s : State) where
  pub class_lines_of_none : (h : ℕ) → class_lines h 0 s ≡ []
  unfolding class_lines
  class_lines_of_none h = refl

  pub class_lines_after : (h c : ℕ) → class_lines h (c + 1) s ≡ class_lines h c s ++ heap_line_if h c s
  unfolding class_lines
  class_lines_after h c = rw add-one

  pub heap_lines_of_none : heap_lines 0 s ≡ []
  unfolding heap_lines
  heap_lines_of_none = refl

  pub heap_lines_after : (h : ℕ) → heap_lines (h + 1) s ≡ heap_lines h s ++ class_lines h class_count s
  unfolding heap_lines
  heap_lines_after h = rw add-one

pub ruleset each_class = (class_lines_of_none, class_lines_after, written_append)

pub ruleset each_heap = (heap_lines_of_none, heap_lines_after, written_append)
