-- Cases of a row that is loaded and stored: of 64 records, of 63 and of 65; the call accepted, and refused. Assumes nothing.
use mathlib.Core.Path.{◌≡◌, refl}
use mathlib.Core.Bool.{true, false}
use mathlib.Core.List.{List, [], ◌∷◌}
use Prim.Native.Nat.{ℕ}
use lib.ListN.{replicate}
use Rattle.heap_rules.specs.declared.Superblock.{Superblock}
use Rattle.row_rules.specs.LoadStore.{load_of, store_of}

-- a record that was lent, one of an accepted call's table, and an unused one
abbrev pub row_record : Superblock
row_record = record { owner = 1; class = 2; live = 3 ∷ 4 ∷ 5 ∷ 6 ∷ []; rank = 13; run = 15 }

abbrev pub table_record : Superblock
table_record = record { owner = 7; class = 8; live = 9 ∷ 10 ∷ 11 ∷ 12 ∷ []; rank = 14; run = 16 }

abbrev pub unused_record : Superblock
unused_record = record { owner = 255; class = 0; live = 0 ∷ 0 ∷ 0 ∷ 0 ∷ []; rank = 0; run = 0 }

abbrev pub row_of_length : ℕ → List Superblock
row_of_length n = replicate n row_record

abbrev pub new_table : List Superblock
new_table = replicate 64 table_record

pub load_of_64 : load_of (row_of_length 64) ≡ row_of_length 64
load_of_64 = refl

pub load_of_63_is_unused : load_of (row_of_length 63) ≡ replicate 64 unused_record
load_of_63_is_unused = refl

pub load_of_65_is_unused : load_of (row_of_length 65) ≡ replicate 64 unused_record
load_of_65_is_unused = refl

-- an accepted call writes all 64 records
pub store_of_accepted : store_of true (row_of_length 64) new_table ≡ new_table
store_of_accepted = refl

-- a refused one writes none
pub store_of_refused : store_of false (row_of_length 64) new_table ≡ row_of_length 64
store_of_refused = refl

pub store_of_63_keeps_row : store_of true (row_of_length 63) new_table ≡ row_of_length 63
store_of_63_keeps_row = refl

pub store_of_65_keeps_row : store_of true (row_of_length 65) new_table ≡ row_of_length 65
store_of_65_keeps_row = refl
