-- "Record and printed key": what stands at a position of a record.
use Rattle.std.specs.Prelude.{◌≡◌, ℕ, zero, suc, ◌+◌, ◌*◌, Bool, true, false, List, [], ◌∷◌, length, eqb, leb, ltb}
use Rattle.base_laws.specs.Sums.{pick, either}
use Rattle.refusal_rules.specs.Refusals.{unknown_command, command_truncated, command_misplaced, record_too_long}
use Rattle.bytes_rules.specs.Bytes.{byte_at, two_at, four_at, fours_at}
use Rattle.call_header.specs.declared.CallHeader.{CallHeader}
use Rattle.call_header.specs.declared.CallHeader.TheVariants as header
use Rattle.record_rules.specs.declared.Command.{Command}
use Rattle.record_rules.specs.declared.Command.TheVariants.{Setup, Call, Refused}

-- "A record is at most 60000 bytes"
abbrev pub longest_record : ℕ
longest_record = 60000

-- refusal 9 (bench word: cut): "the record ends inside a command", one of n bytes
unfoldable pub unless_truncated : List ℕ → ℕ → ℕ → Command → Command
unless_truncated r at n command = pick (leb (at + n) (length r)) command (Refused command_truncated at)

-- "00: setup, then P, N, K, p, q, one byte each. First command, and only there."
unfoldable pub setup_at : List ℕ → ℕ → Command
setup_at r at =
    pick (eqb at 0)
    (unless_truncated r at 6 (Setup (byte_at r (at + 1)) (byte_at r (at + 2)) (byte_at r (at + 3)) (byte_at r (at + 4)) (byte_at r (at + 5))))
    (Refused command_misplaced at)

-- refusal 10 (bench word: place): "a setup that is not first, a known other command that is, or no byte at all"
unfoldable pub unless_first : ℕ → Command → Command
unless_first at command = pick (eqb at 0) (Refused command_misplaced at) command

-- "01: take, processor (1 byte), size (2)"
unfoldable pub take_at : List ℕ → ℕ → Command
take_at r at = unless_first at (unless_truncated r at 4 (Call (header.Take (byte_at r (at + 1)) (two_at r (at + 2))) 0 0))

-- "02: free, processor (1), address (4)"
unfoldable pub free_at : List ℕ → ℕ → Command
free_at r at = unless_first at (unless_truncated r at 6 (Call (header.Free (byte_at r (at + 1)) (four_at r (at + 2))) 0 0))

-- "Command 03 is a take with processor (1 byte), name (2) and size (2)" (document 02, item 2)
unfoldable pub named_take_at : List ℕ → ℕ → Command
named_take_at r at = unless_first at (unless_truncated r at 6 (Call (header.NamedTake (byte_at r (at + 1)) (two_at r (at + 2)) (two_at r (at + 4))) 0 0))

-- "04 is a free with processor (1) and name (2)" (document 02, item 2)
unfoldable pub named_free_at : List ℕ → ℕ → Command
named_free_at r at = unless_first at (unless_truncated r at 4 (Call (header.NamedFree (byte_at r (at + 1)) (two_at r (at + 2))) 0 0))

-- "Command 05 has processor (1 byte), count (1) and that many addresses (4 each)" (document 02, item 5), which begin at byte 3 of the command. Where
-- the record ends before the count, that reads as 0, and the command is cut all the same.
unfoldable pub drop_at : List ℕ → ℕ → Command
drop_at r at = unless_first at (unless_truncated r at (3 + 4 * byte_at r (at + 2)) (Call (header.Drop (byte_at r (at + 1))) (byte_at r (at + 2)) (at + 3)))

-- a drop's addresses, so many, the first of which stands at an offset of the record
abbrev pub addresses_in : List ℕ → ℕ → ℕ → List ℕ
addresses_in r first count = fours_at r first count

-- the command by its first byte; refusal 8 (bench word: command): "unknown command byte"
unfoldable pub command_by_first_byte : List ℕ → ℕ → Command
command_by_first_byte r at =
    pick (eqb (byte_at r at) 0) (setup_at r at)
    (pick (eqb (byte_at r at) 1) (take_at r at)
    (pick (eqb (byte_at r at) 2) (free_at r at)
    (pick (eqb (byte_at r at) 3) (named_take_at r at)
    (pick (eqb (byte_at r at) 4) (named_free_at r at)
    (pick (eqb (byte_at r at) 5) (drop_at r at)
    (Refused unknown_command at))))))

-- "Record: 11, then for each command 8, 10, 9"; refusal 11 (bench word: long): "record above 60000 bytes", which stops at 0. At the record's
-- end and past it there is no command: 10 where there is no byte at all, else 9 at the end, which no reader meets.
unfoldable pub command_at : List ℕ → ℕ → Command
command_at r at =
    pick (ltb longest_record (length r)) (Refused record_too_long 0)
    (pick (ltb at (length r)) (command_by_first_byte r at)
    (pick (eqb at 0) (Refused command_misplaced 0) (Refused command_truncated (length r))))

-- ---- a call by its header
-- its command byte
unfoldable pub call_byte : CallHeader → ℕ
call_byte (header.Take processor size) = 1
call_byte (header.Free processor address) = 2
call_byte (header.NamedTake processor name size) = 3
call_byte (header.NamedFree processor name) = 4
call_byte (header.Drop processor) = 5

-- the numbers that it carries, in the record's order, with a drop's count and where its addresses begin
unfoldable pub call_numbers : CallHeader → ℕ → ℕ → List ℕ
call_numbers (header.Take processor size) count first = processor ∷ size ∷ []
call_numbers (header.Free processor address) count first = processor ∷ address ∷ []
call_numbers (header.NamedTake processor name size) count first = processor ∷ name ∷ size ∷ []
call_numbers (header.NamedFree processor name) count first = processor ∷ name ∷ []
call_numbers (header.Drop processor) count first = processor ∷ count ∷ first ∷ []

-- the bytes of its command; of a drop, where it has so many addresses
unfoldable pub call_size : CallHeader → ℕ → ℕ
call_size (header.Take processor size) count = 4
call_size (header.Free processor address) count = 6
call_size (header.NamedTake processor name size) count = 6
call_size (header.NamedFree processor name) count = 4
call_size (header.Drop processor) count = 3 + 4 * count

-- ---- any command
-- document 01's number for each command: 0 for one that is read, else the refusal's number
unfoldable pub command_number_of : Command → ℕ
command_number_of (Setup processors superblocks spare p q) = 0
command_number_of (Call call count first) = 0
command_number_of (Refused number offset) = number

-- the byte offset that a refusal carries: "a refusal with its offset"; 0 for a command that is read, which carries none
unfoldable pub refusal_offset_of : Command → ℕ
refusal_offset_of (Setup processors superblocks spare p q) = 0
refusal_offset_of (Call call count first) = 0
refusal_offset_of (Refused number offset) = offset

-- the command byte; a refusal has none
unfoldable pub command_byte : Command → List ℕ
command_byte (Setup processors superblocks spare p q) = 0 ∷ []
command_byte (Call call count first) = call_byte call ∷ []
command_byte (Refused number offset) = []

-- the numbers that a command carries, in the record's order, and where a drop's addresses begin; a refusal carries none beside its number and its
-- offset
unfoldable pub numbers_of : Command → List ℕ
numbers_of (Setup processors superblocks spare p q) = processors ∷ superblocks ∷ spare ∷ p ∷ q ∷ []
numbers_of (Call call count first) = call_numbers call count first
numbers_of (Refused number offset) = []

-- what stands beside a call's header: of a drop its count and where its addresses begin, of any other call 0 and 0
unfoldable pub beside_header : Command → List ℕ
beside_header (Setup processors superblocks spare p q) = []
beside_header (Call call count first) = count ∷ first ∷ []
beside_header (Refused number offset) = []

-- a command has the number, the offset, the command byte and the numbers of the command that the rules give, and the same beside its header
pub record HasNumbersOf (command rules : Command) : Type 0 where
  pub number_is : command_number_of command ≡ command_number_of rules
  pub offset_is : refusal_offset_of command ≡ refusal_offset_of rules
  pub byte_is : command_byte command ≡ command_byte rules
  pub numbers_are : numbers_of command ≡ numbers_of rules
  pub beside_is : beside_header command ≡ beside_header rules

-- the bytes of a command that is read whole; a refusal ends the record
unfoldable pub size_of_command : Command → ℕ
size_of_command (Setup processors superblocks spare p q) = 6
size_of_command (Call call count first) = call_size call count
size_of_command (Refused number offset) = 0

-- after a command that is refused nothing more is read
unfoldable pub is_refused : Command → Bool
is_refused (Setup processors superblocks spare p q) = false
is_refused (Call call count first) = false
is_refused (Refused number offset) = true

-- the commands from a position on, at most as many as the first number: one is read in any case, and more until one is refused or
-- the record ends
unfoldable pub commands_from : ℕ → List ℕ → ℕ → List Command
commands_from zero r at = []
commands_from (suc most) r at =
    command_at r at
    ∷ pick (either (is_refused (command_at r at)) (leb (length r) (at + size_of_command (command_at r at)))) []
    (commands_from most r (at + size_of_command (command_at r at)))

-- the commands of a record; each has a byte at least, so that there are no more than bytes, or one for an empty record
unfoldable pub commands_of : List ℕ → List Command
commands_of r = commands_from (suc (length r)) r 0
