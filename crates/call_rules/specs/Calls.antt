-- A call of a list: a take or a free, plain or named, or a drop.
use Rattle.std.specs.Prelude.{ℕ, ◌*◌, List, length}
use Rattle.heap_rules.specs.declared.State.{State}
use Rattle.call_header.specs.declared.CallHeader.{CallHeader}
use Rattle.call_header.specs.declared.CallHeader.TheVariants as header
use Rattle.call_rules.specs.Answers.{After}
use Rattle.call_rules.specs.Take.{take_unchecked, take_of}
use Rattle.call_rules.specs.Free.{free_unchecked, free_of}
use Rattle.call_rules.specs.Named.{named_take_unchecked, named_take_of, named_free_unchecked, named_free_of}
use Rattle.call_rules.specs.Drop.{drop_unchecked, drop_of}

-- the five calls, each with its numbers, the processor first
pub data Call : Type 0 where
  Take : (processor size : ℕ) → Call
  Free : (processor address : ℕ) → Call
  NamedTake : (processor name size : ℕ) → Call
  NamedFree : (processor name : ℕ) → Call
  Drop : (processor : ℕ) (addresses : List ℕ) → Call

-- the call of a header and the addresses that are lent beside it, which only a drop reads
unfoldable pub call_with : CallHeader → List ℕ → Call
call_with (header.Take processor size) addresses = Take processor size
call_with (header.Free processor address) addresses = Free processor address
call_with (header.NamedTake processor name size) addresses = NamedTake processor name size
call_with (header.NamedFree processor name) addresses = NamedFree processor name
call_with (header.Drop processor) addresses = Drop processor addresses

-- the most superblocks that a call may move: "no free changes the owner of more than q superblocks", plain or named; "a drop moves at most q
-- superblocks for each address" (document 02, item 5); a take moves none
unfoldable pub most_moves : ℕ → Call → ℕ
most_moves q (Take processor size) = 0
most_moves q (Free processor address) = q
most_moves q (NamedTake processor name size) = 0
most_moves q (NamedFree processor name) = q
most_moves q (Drop processor addresses) = q * length addresses

-- what a call leaves
unfoldable pub call_of : State → List ℕ → Call → After
call_of s order (Take processor size) = take_of s order processor size
call_of s order (Free processor address) = free_of s order processor address
call_of s order (NamedTake processor name size) = named_take_of s order processor name size
call_of s order (NamedFree processor name) = named_free_of s order processor name
call_of s order (Drop processor addresses) = drop_of s order processor addresses

-- and behind the check, on any state
unfoldable pub call_unchecked : State → List ℕ → Call → After
call_unchecked s order (Take processor size) = take_unchecked s order processor size
call_unchecked s order (Free processor address) = free_unchecked s order processor address
call_unchecked s order (NamedTake processor name size) = named_take_unchecked s order processor name size
call_unchecked s order (NamedFree processor name) = named_free_unchecked s order processor name
call_unchecked s order (Drop processor addresses) = drop_unchecked s order processor addresses
