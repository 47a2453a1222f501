-- The numbers of the refusals (document 01, "Refused calls"; document 02, items 2, 5 and 7), each with the words for when it is given. Assumes nothing.
use Rattle.std.specs.Prelude.{ℕ}

-- bench word setup: "a setup number outside its limits"
abbrev pub setup_out_of_limits : ℕ
setup_out_of_limits = 1

-- bench word processor: "0 or above P"
abbrev pub no_such_processor : ℕ
no_such_processor = 2

-- bench word size: a size above 65535, which no call of 16 bits meets (document 02, item 7)
abbrev pub size_too_large : ℕ
size_too_large = 3

-- bench word dry: "none of the four places offers a superblock"
abbrev pub no_superblock : ℕ
no_superblock = 4

-- bench word astray: "address at or past N × 4096, or in an unused superblock"
abbrev pub address_unmapped : ℕ
address_unmapped = 5

-- bench word off-block: "offset in the superblock is no multiple of the block size, or block n or above"; in a run, any address but its start
abbrev pub address_misaligned : ℕ
address_misaligned = 6

-- bench word not live: "the block is not live"
abbrev pub block_not_live : ℕ
block_not_live = 7

-- bench word command: "unknown command byte"
abbrev pub unknown_command : ℕ
unknown_command = 8

-- bench word cut: "the record ends inside a command"
abbrev pub command_truncated : ℕ
command_truncated = 9

-- bench word place: "a setup that is not first, a known other command that is, or no byte at all"
abbrev pub command_misplaced : ℕ
command_misplaced = 10

-- bench word long: "record above 60000 bytes"
abbrev pub record_too_long : ℕ
record_too_long = 11

-- bench word storage: "fewer than N × 256 order places lent"
abbrev pub storage_too_small : ℕ
storage_too_small = 12

-- bench word state: "the state fails its check"
abbrev pub state_invalid : ℕ
state_invalid = 13

-- "taken name or one above 1023" (document 02, item 2)
abbrev pub name_unavailable : ℕ
name_unavailable = 14

-- "name not held" (document 02, item 2)
abbrev pub name_not_held : ℕ
name_not_held = 15

-- "count 0" (document 02, item 5)
abbrev pub drop_empty : ℕ
drop_empty = 16

-- "no such run" for a long size (document 02, item 7)
abbrev pub no_run : ℕ
no_run = 17
