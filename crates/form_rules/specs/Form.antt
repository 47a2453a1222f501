-- The form "One call" of docs/FORMATS.md: what the bytes of an input hold. Past their end a byte reads as 0. Assumes nothing.
use Rattle.std.specs.Prelude.{ℕ, ◌+◌, ◌*◌, Bool, List, [], ◌∷◌, length, eqb, leb}
use Rattle.base_laws.specs.Sums.{pick, both, either}
use Rattle.base_laws.specs.Lists.{listed}
use Rattle.bytes_rules.specs.Bytes.{byte_at, two_at, four_at, eight_at, fours_at}
use Rattle.names_rules.specs.Names.{name_count}
use Rattle.heap_rules.specs.declared.Superblock.{Superblock}
use Rattle.heap_rules.specs.declared.Setup.{Setup}
use Rattle.heap_rules.specs.declared.Totals.{Totals}
use Rattle.heap_rules.specs.declared.State.{State}
use Rattle.call_header.specs.declared.CallHeader.TheVariants as header
use Rattle.heap_rules.specs.Table.{table_length}
use Rattle.heap_rules.specs.Totals.{total_count}
use Rattle.form_rules.specs.declared.Request.{Request}
use Rattle.form_rules.specs.declared.Request.TheVariants as request

-- ---- the call
-- byte 0: 0 setup, 1 take, 2 free, 3 named take, 4 named free, else a drop, which alone has a count; all but a setup have their numbers from byte 6 on
unfoldable pub call_in : List ℕ → Request
call_in b =
    pick (eqb (byte_at b 0) 0) request.Setup
    (pick (eqb (byte_at b 0) 1) (request.Call (header.Take (byte_at b 6) (two_at b 7)) 0)
    (pick (eqb (byte_at b 0) 2) (request.Call (header.Free (byte_at b 6) (four_at b 7)) 0)
    (pick (eqb (byte_at b 0) 3) (request.Call (header.NamedTake (byte_at b 6) (two_at b 7) (two_at b 9)) 0)
    (pick (eqb (byte_at b 0) 4) (request.Call (header.NamedFree (byte_at b 6) (two_at b 7)) 0)
    (request.Call (header.Drop (byte_at b 6)) (two_at b 7))))))

-- ---- the state
-- P, N, K, p, q in bytes 1 to 5
unfoldable pub setup_in : List ℕ → Setup
setup_in b = record { processors = byte_at b 1; superblocks = byte_at b 2; spare = byte_at b 3; p = byte_at b 4; q = byte_at b 5 }

-- the bytes of a superblock
abbrev pub superblock_size : ℕ
superblock_size = 36

-- these are owner, class, live marks in four 8-byte numbers, rank, run length
unfoldable pub superblock_in : List ℕ → ℕ → Superblock
superblock_in b at =
    record {
      owner = byte_at b at;
      class = byte_at b (at + 1);
      live = eight_at b (at + 2) ∷ eight_at b (at + 10) ∷ eight_at b (at + 18) ∷ eight_at b (at + 26) ∷ [];
      rank = byte_at b (at + 34);
      run = byte_at b (at + 35);
    }

-- names 0 to 1023, of two bytes each, from a position on
unfoldable pub names_in : List ℕ → ℕ → List ℕ
names_in b at = listed (λ m. two_at b (at + 2 * m)) name_count

-- where the names begin: after the 64 superblocks, which begin at a position
abbrev pub names_offset : ℕ → ℕ
names_offset at = at + table_length * superblock_size

-- the totals of each heap and class from a position on: first 243 of superblocks, of one byte each, then 243 of live blocks, of two bytes each
unfoldable pub totals_in : List ℕ → ℕ → Totals
totals_in b at = record { superblocks = listed (λ x. byte_at b (at + x)) total_count; live = listed (λ x. two_at b (at + (total_count + 2 * x))) total_count }

-- where the totals begin: after the 1024 names
abbrev pub totals_offset : ℕ → ℕ
totals_offset at = names_offset at + name_count * 2

-- the setup numbers with superblocks 0 to 63, which begin at a position, the names and the totals
unfoldable pub state_in : List ℕ → ℕ → State
state_in b at =
    record {
      setup = setup_in b;
      table = listed (λ k. superblock_in b (at + superblock_size * k)) table_length;
      names = names_in b (names_offset at);
      totals = totals_in b (totals_offset at);
    }

-- the addresses of a drop, as many as its count says, from byte 9 on
unfoldable pub drop_addresses : List ℕ → List ℕ
drop_addresses b = fours_at b 9 (two_at b 7)

-- where the superblocks begin: after the numbers of a take or a named free, of a free or a named take, or of a drop and its addresses
unfoldable pub table_offset : List ℕ → ℕ
table_offset b = pick (either (eqb (byte_at b 0) 1) (eqb (byte_at b 0) 4)) 9 (pick (eqb (byte_at b 0) 5) (9 + 4 * two_at b 7) 11)

-- ---- the order places
-- where they begin: after the setup numbers, or the totals, and the four bytes of L
unfoldable pub places_offset : List ℕ → ℕ
places_offset b = pick (eqb (byte_at b 0) 0) 10 (totals_offset (table_offset b) + (total_count + total_count * 2 + 4))

-- L, the number of order places lent
unfoldable pub place_count : List ℕ → ℕ
place_count b = pick (eqb (byte_at b 0) 0) (four_at b 6) (four_at b (totals_offset (table_offset b) + (total_count + total_count * 2)))

-- the first n places, of two bytes each, from a position on
unfoldable pub places_in : List ℕ → ℕ → ℕ → List ℕ
places_in b at n = listed (λ i. two_at b (at + 2 * i)) n

-- a known call, and just the bytes that it has
unfoldable pub well_formed : List ℕ → Bool
well_formed b = both (leb (byte_at b 0) 5) (eqb (length b) (places_offset b + 2 * place_count b))
