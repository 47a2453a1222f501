-- The form on inputs that tell near misses apart: what a few bytes hold and where each part begins, then inputs that hold a whole state. Assumes nothing.
use mathlib.Core.Path.{◌≡◌, refl}
use mathlib.Core.Bool.{true, false}
use mathlib.Core.List.{List, [], ◌∷◌, ◌++◌}
use Prim.Native.Nat.{ℕ, ◌+◌, ◌*◌, ◌<◌}
use borrow.Author.Tests.{eq-eqb}
use lib.ListN.{get_or, length, replicate, take}
use Rattle.base_laws.specs.Lists.{listed}
use Rattle.base_laws.proofs.ListedLaws.{length_listed, get_or_listed}
use Rattle.base_laws.proofs.Stages.{◌also◌}
use Rattle.bytes_rules.specs.Bytes.{byte_at, two_at, fours_at}
use Rattle.heap_rules.specs.Table.{blank}
use Rattle.call_header.specs.declared.CallHeader.TheVariants as header
use Rattle.form_rules.specs.declared.Request.TheVariants.{Setup, Call}
use Rattle.form_rules.specs.Form.{call_in, setup_in, superblock_in, names_in, names_offset, totals_in, totals_offset, state_in, drop_addresses, table_offset}
use Rattle.form_rules.specs.Form.{places_offset, place_count, places_in, well_formed}

-- ---- the call, by its first byte; behind it every byte another
abbrev distinct_bytes : List ℕ
distinct_bytes = 1 ∷ 2 ∷ 3 ∷ 4 ∷ 5 ∷ 6 ∷ 7 ∷ 8 ∷ 9 ∷ 10 ∷ []

call_in_cases :
    (call_in (0 ∷ distinct_bytes) ≡ Setup) × (call_in (1 ∷ distinct_bytes) ≡ Call (header.Take 6 2055) 0)
    × (call_in (2 ∷ distinct_bytes) ≡ Call (header.Free 6 168364039) 0) × (call_in (3 ∷ distinct_bytes) ≡ Call (header.NamedTake 6 2055 2569) 0)
    × (call_in (4 ∷ distinct_bytes) ≡ Call (header.NamedFree 6 2055) 0) × (call_in (5 ∷ distinct_bytes) ≡ Call (header.Drop 6) 2055)
unfolding call_in
call_in_cases = (refl, refl, refl, refl, refl, refl)

-- P, N, K, p and q, whatever the call
setup_in_cases :
    (setup_in (0 ∷ distinct_bytes) ≡ record { processors = 1; superblocks = 2; spare = 3; p = 4; q = 5 })
    × (setup_in (5 ∷ 9 ∷ 8 ∷ 7 ∷ 6 ∷ []) ≡ record { processors = 9; superblocks = 8; spare = 7; p = 6; q = 0 })
unfolding setup_in
setup_in_cases = (refl, refl)

-- order places, of two bytes each, the low one first, from a position on and as many as are asked for; past the end 0
places_in_cases : (places_in distinct_bytes 5 2 ≡ 1798 ∷ 2312 ∷ []) × (places_in distinct_bytes 6 3 ≡ 2055 ∷ 2569 ∷ 0 ∷ [])
    × (places_in distinct_bytes 6 0 ≡ [])
unfolding places_in listed
places_in_cases = (refl, refl, refl)

-- ---- a drop of C addresses: the bytes 10, 11, .. are those of its addresses and of what stands behind them
abbrev drop_bytes : ℕ → ℕ → ℕ → List ℕ
drop_bytes low high n = 5 ∷ 1 ∷ 2 ∷ 3 ∷ 4 ∷ 5 ∷ 6 ∷ low ∷ high ∷ listed (λ i. 10 + i) n

-- C of 0, 1 and 3; one whose addresses read on into the state, and past the end 0
addresses_in_cases : (drop_addresses (drop_bytes 0 0 16) ≡ []) × (drop_addresses (drop_bytes 1 0 16) ≡ 218893066 ∷ [])
    × (drop_addresses (drop_bytes 3 0 16) ≡ 218893066 ∷ 286265102 ∷ 353637138 ∷ [])
    × (drop_addresses (drop_bytes 4 0 13) ≡ 218893066 ∷ 286265102 ∷ 353637138 ∷ 22 ∷ [])
unfolding drop_addresses fours_at listed
addresses_in_cases = (refl, refl, refl, refl)

-- C has two bytes, the low one first
drop_count_of_two_bytes :
    (call_in (drop_bytes 2 1 16) ≡ Call (header.Drop 6) 258) × (length (drop_addresses (drop_bytes 2 1 16)) ≡ 258) × (table_offset (drop_bytes 2 1 16) ≡ 1041)
unfolding call_in drop_addresses fours_at table_offset listed
drop_count_of_two_bytes = (refl, refl, refl)

-- ---- where superblocks and order places begin, by the first byte
table_offset_cases : (table_offset (1 ∷ []) ≡ 9) × (table_offset (2 ∷ []) ≡ 11) × (table_offset (3 ∷ []) ≡ 11) × (table_offset (4 ∷ []) ≡ 9)
unfolding table_offset
table_offset_cases = (refl, refl, refl, refl)

places_offset_cases : (places_offset (0 ∷ []) ≡ 10) × (places_offset (1 ∷ []) ≡ 5094) × (places_offset (2 ∷ []) ≡ 5096) × (places_offset (3 ∷ []) ≡ 5096)
    × (places_offset (4 ∷ []) ≡ 5094)
unfolding places_offset table_offset
places_offset_cases = (refl, refl, refl, refl, refl)

-- where superblocks and order places begin, with C of 0, 1, 3 and the largest
drop_offset_cases : (table_offset (drop_bytes 0 0 0) ≡ 9) × (table_offset (drop_bytes 1 0 0) ≡ 13) × (table_offset (drop_bytes 3 0 0) ≡ 21)
    × (table_offset (drop_bytes 255 255 0) ≡ 262149) × (places_offset (drop_bytes 0 0 0) ≡ 5094) × (places_offset (drop_bytes 1 0 0) ≡ 5098)
    × (places_offset (drop_bytes 3 0 0) ≡ 5106)
unfolding places_offset table_offset listed
drop_offset_cases = (refl, refl, refl, refl, refl, refl, refl)

-- ---- a superblock: the bytes 1 to 36, each field from its own
superblock_in_case : superblock_in (255 ∷ listed (λ k. 1 + k) 37) 1
    ≡ record { owner = 1; class = 2; live = 723118041428460547 ∷ 1301839424133073931 ∷ 1880560806837687315 ∷ 2459282189542300699 ∷ []; rank = 35; run = 36 }
unfolding superblock_in listed
superblock_in_case = refl

-- ---- the names, of any bytes: 1024, each of two bytes, the low one first
names_of_two_bytes : (b : List ℕ) (at : ℕ)
    → (length (names_in b at) ≡ 1024) × ((m : ℕ) → m < 1024 → get_or (names_in b at) m 0 ≡ byte_at b (at + 2 * m) + 256 * byte_at b (at + 2 * m + 1))
unfolding names_in
names_of_two_bytes b at = (length_listed (λ m. two_at b (at + 2 * m)) 1024, λ m l. get_or_listed (λ i. two_at b (at + 2 * i)) 1024 m 0 l)

-- ---- the parts of a state that begins at byte 3, of any bytes: the setup numbers, superblocks 0 and 63, the names, the totals; there are 64 superblocks
state_parts_in_order : (b : List ℕ)
    → ((state_in b 3).setup ≡ setup_in b) × (get_or (state_in b 3).table 0 blank ≡ superblock_in b 3)
    × (get_or (state_in b 3).table 63 blank ≡ superblock_in b 2271)
    × ((state_in b 3).names ≡ names_in b 2307) × ((state_in b 3).totals ≡ totals_in b 4355)
unfolding state_in listed
state_parts_in_order b = (refl, refl, refl, refl, refl)

state_of_64_superblocks : (b : List ℕ) (at : ℕ) → length (state_in b at).table ≡ 64
unfolding state_in
state_of_64_superblocks b at = length_listed (λ k. superblock_in b (at + 36 * k)) 64

-- ---- 5 is a call, the last, of any bytes that are as many as it has
drop_well_formed_by_length : (l : List ℕ) → length (5 ∷ l) ≡ places_offset (5 ∷ l) + 2 * place_count (5 ∷ l) → well_formed (5 ∷ l) ≡ true
unfolding well_formed
drop_well_formed_by_length l e = eq-eqb _ _ e

-- 6 is none
unknown_call_not_well_formed : (well_formed (6 ∷ replicate 5095 0) ≡ false) × (well_formed (6 ∷ replicate 5093 0) ≡ false)
unfolding well_formed places_offset place_count table_offset
unknown_call_not_well_formed = (refl, refl)

-- ---- the totals, from byte 1 on: 4 and 5 the first and the last of superblocks, then 6 and 7 the first of live blocks; past the end 0
abbrev totals_bytes : List ℕ
totals_bytes = 3 ∷ 4 ∷ (replicate 241 255 ++ (5 ∷ 6 ∷ 7 ∷ 8 ∷ 9 ∷ []))

totals_of_live_blocks_in_cases : (take 3 (totals_in totals_bytes 1).live ≡ 1798 ∷ 2312 ∷ 0 ∷ []) × (length (totals_in [] 0).live ≡ 243)
unfolding totals_in listed
totals_of_live_blocks_in_cases = (refl, refl)

totals_of_superblocks_in_cases : (get_or (totals_in totals_bytes 1).superblocks 0 0 ≡ 4) × (get_or (totals_in totals_bytes 1).superblocks 242 0 ≡ 5)
    × (length (totals_in [] 0).superblocks ≡ 243)
unfolding totals_in listed
totals_of_superblocks_in_cases = (refl, refl, refl)

-- ---- inputs that hold a whole state, thousands of bytes. They are computed only where the cases above hold: a declaration that cites a refused one is
-- skipped, which makes an edit of a definition cheap
parts_hold : Unit {0}
parts_hold =
    call_in_cases also setup_in_cases also places_in_cases also addresses_in_cases also drop_count_of_two_bytes also table_offset_cases also
    places_offset_cases also drop_offset_cases
    also superblock_in_case also names_of_two_bytes also state_parts_in_order also state_of_64_superblocks also drop_well_formed_by_length also
    unknown_call_not_well_formed
    also totals_of_live_blocks_in_cases also totals_of_superblocks_in_cases also tt

-- ---- the names: 1024, past the end 0
names_in_cases : (take 4 (names_in distinct_bytes 5) ≡ 1798 ∷ 2312 ∷ 10 ∷ 0 ∷ []) × (length (names_in [] 0) ≡ 1024)
unfolding parts_hold names_in listed
names_in_cases = (refl, refl)

-- ---- the state: superblocks from byte 3 on, 7 the last byte of the last of them, its run length, then name 0
abbrev state_bytes : List ℕ
state_bytes = replicate 2306 255 ++ (7 ∷ 1 ∷ 2 ∷ [])

names_after_superblocks : get_or (state_in state_bytes 3).names 0 0 ≡ 513
unfolding parts_hold state_in names_in listed
names_after_superblocks = refl

superblocks_before_names : get_or (state_in state_bytes 3).table 63 blank ≡ record {
  owner = 255;
  class = 255;
  live = 18446744073709551615
      ∷ 18446744073709551615 ∷ 18446744073709551615 ∷ 18446744073709551615 ∷ [];
  rank = 255;
  run = 7;
}
unfolding parts_hold state_in superblock_in listed
superblocks_before_names = refl

-- superblock 0 has the bytes 1 to 36 and superblock 63 the bytes 41 to 76: owner, class, marks, rank and run length each from its own
abbrev distinct_superblock_bytes : List ℕ
distinct_superblock_bytes = replicate 3 255 ++ (listed (λ k. 1 + k) 36 ++ (replicate 2232 255 ++ (listed (λ k. 41 + k) 36 ++ (255 ∷ []))))

superblock_fields_in_order :
    (get_or (state_in distinct_superblock_bytes 3).table 0 blank ≡ record {
      owner = 1;
      class = 2;
      live = 723118041428460547 ∷ 1301839424133073931
          ∷ 1880560806837687315 ∷ 2459282189542300699 ∷ [];
      rank = 35;
      run = 36;
    })
    × (get_or (state_in distinct_superblock_bytes 3).table 63 blank ≡ record {
      owner = 41;
      class = 42;
      live = 3616724954951527467 ∷ 4195446337656140851
          ∷ 4774167720360754235 ∷ 5352889103065367619 ∷ [];
      rank = 75;
      run = 76;
    })
unfolding parts_hold state_in superblock_in listed
superblock_fields_in_order = (refl, refl)

-- 1 and 2 the last name, then the totals
abbrev names_then_totals : List ℕ
names_then_totals = replicate 4353 255 ++ (1 ∷ 2 ∷ 3 ∷ 4 ∷ [])

totals_after_names : (get_or (state_in names_then_totals 3).names 1023 0 ≡ 513) × (take 3 (state_in names_then_totals 3).totals.superblocks ≡ 3 ∷ 4 ∷ 0 ∷ [])
unfolding parts_hold state_in names_in totals_in listed
totals_after_names = (refl, refl)

-- ---- L: of a setup behind its numbers, of a call on a state behind the totals
abbrev totals_then_length : List ℕ
totals_then_length = replicate 5089 255 ++ (1 ∷ 2 ∷ 3 ∷ 4 ∷ 5 ∷ 6 ∷ [])

place_count_cases : (place_count (0 ∷ distinct_bytes) ≡ 151521030) × (place_count (3 ∷ totals_then_length) ≡ 100992003)
    × (place_count (4 ∷ totals_then_length) ≡ 67305985)
unfolding parts_hold place_count table_offset
place_count_cases = (refl, refl, refl)

-- ---- a drop of C addresses, whose superblocks begin with 10 and end with 11; then name 0, the first totals of superblocks and of live blocks, L and a
-- place. Every other byte is 255
abbrev drop_on_state : ℕ → List ℕ
drop_on_state c =
    5 ∷ (replicate 6 255 ++ (c ∷ 0
    ∷ (replicate (4 * c) 255
    ++ (10 ∷ (replicate 2302 255
    ++ (11 ∷ 12 ∷ 13 ∷ (replicate 2046 255 ++ (14 ∷ (replicate 242 255 ++ (15 ∷ 16 ∷ (replicate 484 255 ++ (1 ∷ 0 ∷ 0 ∷ 0 ∷ 17 ∷ 18 ∷ []))))))))))))

-- the first byte of the superblocks and the last, name 0, the first totals of superblocks and of live blocks, L, the places
abbrev landmarks : List ℕ → ℕ → List ℕ
landmarks b at =
    byte_at b at ∷ byte_at b (at + 2303) ∷ two_at b (names_offset at) ∷ byte_at b (totals_offset at) ∷ two_at b (totals_offset at + 243) ∷ place_count b
    ∷ places_in b (places_offset b) (place_count b)

-- with C of 0, 1 and 3
all_behind_addresses : (landmarks (drop_on_state 0) (table_offset (drop_on_state 0)) ≡ 10 ∷ 11 ∷ 3340 ∷ 14 ∷ 4111 ∷ 1 ∷ 4625 ∷ [])
    × (landmarks (drop_on_state 1) (table_offset (drop_on_state 1)) ≡ 10 ∷ 11 ∷ 3340 ∷ 14 ∷ 4111 ∷ 1 ∷ 4625 ∷ [])
    × (landmarks (drop_on_state 3) (table_offset (drop_on_state 3)) ≡ 10 ∷ 11 ∷ 3340 ∷ 14 ∷ 4111 ∷ 1 ∷ 4625 ∷ [])
unfolding parts_hold table_offset places_offset place_count places_in listed
all_behind_addresses = (refl, refl, refl)

-- ---- the whole form: named calls without a place; a byte missing or left over; the length of the other; one place
well_formed_named_take : (well_formed (3 ∷ replicate 5095 0) ≡ true) × (well_formed (3 ∷ replicate 5094 0) ≡ false)
    × (well_formed (3 ∷ replicate 5096 0) ≡ false) × (well_formed (3 ∷ replicate 5093 0) ≡ false)
unfolding parts_hold well_formed places_offset place_count table_offset
well_formed_named_take = (refl, refl, refl, refl)

well_formed_named_free : (well_formed (4 ∷ replicate 5093 0) ≡ true) × (well_formed (4 ∷ replicate 5092 0) ≡ false)
    × (well_formed (4 ∷ replicate 5094 0) ≡ false) × (well_formed (4 ∷ replicate 5095 0) ≡ false)
unfolding parts_hold well_formed places_offset place_count table_offset
well_formed_named_free = (refl, refl, refl, refl)

abbrev one_place_lent : List ℕ
one_place_lent = 4 ∷ (replicate 5089 0 ++ (1 ∷ 0 ∷ 0 ∷ 0 ∷ []))

well_formed_with_place : (well_formed (one_place_lent ++ (8 ∷ 9 ∷ [])) ≡ true) × (well_formed (one_place_lent ++ (8 ∷ [])) ≡ false)
    × (well_formed one_place_lent ≡ false)
unfolding parts_hold well_formed places_offset place_count table_offset
well_formed_with_place = (refl, refl, refl)

-- a drop of 0, 1 and 3 addresses with one place lent; a byte missing or left over
well_formed_drop : (well_formed (drop_on_state 0) ≡ true) × (well_formed (drop_on_state 1) ≡ true) × (well_formed (drop_on_state 3) ≡ true)
    × (well_formed (take 5107 (drop_on_state 3)) ≡ false) × (well_formed (drop_on_state 3 ++ (0 ∷ [])) ≡ false)
unfolding parts_hold well_formed places_offset place_count table_offset
well_formed_drop = (refl, refl, refl, refl, refl)

-- without a place: C one too large, so that the last address is read from the state; one too small; and 256
drop_with_other_count : (well_formed (drop_bytes 1 0 0 ++ replicate 5085 0) ≡ false) × (well_formed (drop_bytes 0 0 0 ++ replicate 5089 0) ≡ false)
    × (well_formed (drop_bytes 0 1 0 ++ replicate 5085 0) ≡ false)
unfolding parts_hold well_formed places_offset place_count table_offset listed
drop_with_other_count = (refl, refl, refl)
