-- "Record and printed key": the printed lines.
use Rattle.std.specs.Prelude.{Bool, List, [], ◌++◌, ℕ, zero, suc, eqb}
use Rattle.base_laws.specs.Sums.{pick}
use Rattle.text_rules.specs.Text.{letters, decimal}
use Rattle.class_rules.specs.Classes.{class_count}
use Rattle.heap_rules.specs.declared.Setup.{Setup}
use Rattle.heap_rules.specs.declared.State.{State}
use Rattle.heap_rules.specs.Table.{table_length, superblock_at, starts_run}
use Rattle.heap_rules.specs.Counts.{superblocks_of, live_of}
use Rattle.call_header.specs.declared.CallHeader.{CallHeader}
use Rattle.call_header.specs.declared.CallHeader.TheVariants as header
use Rattle.call_rules.specs.declared.Outcome.{Outcome}
use Rattle.call_rules.specs.declared.Outcome.TheVariants.{Ready, Address, Moves, Refused}

-- a word and a number after it
abbrev pub field : List ℕ → ℕ → List ℕ
field label n = label ++ decimal n

-- "a setup's five numbers"
unfoldable pub setup_line : Setup → List ℕ
setup_line u =
    field (letters "setup ") u.processors ++ field (letters " ") u.superblocks ++ field (letters " ") u.spare
    ++ field (letters " ") u.p ++ field (letters " ") u.q ++ letters "\n"

-- "the address given, the moves or the refusal"
unfoldable pub result : Outcome → List ℕ
result Ready = []
result (Address a) = field (letters " at ") a
result (Moves m) = field (letters " moved ") m
result (Refused r) = field (letters " refused ") r

-- "processor, size or address as in the record", then the result
unfoldable pub take_line : ℕ → ℕ → Outcome → List ℕ
take_line processor size outcome = field (letters "take ") processor ++ field (letters " ") size ++ result outcome ++ letters "\n"

unfoldable pub free_line : ℕ → ℕ → Outcome → List ℕ
free_line processor address outcome = field (letters "free ") processor ++ field (letters " ") address ++ result outcome ++ letters "\n"

-- how the line of a call by name begins: its word, the processor and the name
abbrev pub processor_and_name : List ℕ → ℕ → ℕ → List ℕ
processor_and_name label processor name = field label processor ++ field (letters " name ") name

-- "The lines are `take 1 name 5 2048 at 0` and `free 1 name 5 moved 0`" (document 02, item 2)
unfoldable pub named_take_line : ℕ → ℕ → ℕ → Outcome → List ℕ
named_take_line processor name size outcome = processor_and_name (letters "take ") processor name ++ field (letters " ") size ++ result outcome ++ letters "\n"

unfoldable pub named_free_line : ℕ → ℕ → Outcome → List ℕ
named_free_line processor name outcome = processor_and_name (letters "free ") processor name ++ result outcome ++ letters "\n"

-- "The line is `drop 1 count 3 moved 1`" (document 02, item 5)
unfoldable pub drop_line : ℕ → ℕ → Outcome → List ℕ
drop_line processor count outcome = field (letters "drop ") processor ++ field (letters " count ") count ++ result outcome ++ letters "\n"

-- the line of a call with this header, where so many addresses are lent beside it
unfoldable pub call_line : CallHeader → ℕ → Outcome → List ℕ
call_line (header.Take processor size) count outcome = take_line processor size outcome
call_line (header.Free processor address) count outcome = free_line processor address outcome
call_line (header.NamedTake processor name size) count outcome = named_take_line processor name size outcome
call_line (header.NamedFree processor name) count outcome = named_free_line processor name outcome
call_line (header.Drop processor) count outcome = drop_line processor count outcome

-- "`stopped R at B` (R the number, B the command's byte offset; 0 for 11) as the last line"
unfoldable pub stop_line : ℕ → ℕ → List ℕ
stop_line number offset = field (letters "stopped ") number ++ field (letters " at ") offset ++ letters "\n"

-- "for a heap and class, the number of its superblocks and of their live blocks"
unfoldable pub heap_line : ℕ → ℕ → ℕ → ℕ → List ℕ
heap_line h c superblocks live =
    field (letters "heap ") h ++ field (letters " class ") c ++ field (letters " superblocks ") superblocks ++ field (letters " live ") live
    ++ letters "\n"

-- a line for a heap and class "with a superblock"
unfoldable pub heap_line_if : ℕ → ℕ → State → List ℕ
heap_line_if h c s = pick (eqb (superblocks_of h c s) 0) [] (heap_line h c (superblocks_of h c s) (live_of h c s))

-- "classes rising": heap h's lines for the classes below c
unfoldable pub class_lines : ℕ → ℕ → State → List ℕ
class_lines h zero s = []
class_lines h (suc c) s = class_lines h c s ++ heap_line_if h c s

-- "heaps then classes rising": the lines of the heaps below h
unfoldable pub heap_lines : ℕ → State → List ℕ
heap_lines zero s = []
heap_lines (suc h) s = heap_lines h s ++ class_lines h class_count s

-- "The final key lists runs by first superblock, as `run 3 superblocks 2`" (document 02, item 7)
unfoldable pub run_line : ℕ → ℕ → List ℕ
run_line first n = field (letters "run ") first ++ field (letters " superblocks ") n ++ letters "\n"

-- a line where superblock k is the first of a run
unfoldable pub run_line_if : ℕ → State → List ℕ
run_line_if k s = pick (starts_run (superblock_at s k)) (run_line k (superblock_at s k).run) []

-- the lines of the runs that begin below k
unfoldable pub run_lines : ℕ → State → List ℕ
run_lines zero s = []
run_lines (suc k) s = run_lines k s ++ run_line_if k s

-- "Otherwise a line for each heap and class with a superblock follows, .. then `end`": heaps 0 to P, and the runs "before `end`"
unfoldable pub final_lines : State → List ℕ
final_lines s = heap_lines (suc s.setup.processors) s ++ (run_lines table_length s ++ letters "end\n")

-- the lines after the last command: none where a stop line is "the last line"
unfoldable pub closing_lines : Bool → State → List ℕ
closing_lines stopped s = pick stopped [] (final_lines s)
