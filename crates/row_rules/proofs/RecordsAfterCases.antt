-- A case of records the first two of which are lent: what the call left in the row comes first, and then the record that was not lent. Assumes nothing.
use mathlib.Core.Path.{◌≡◌, refl}
use mathlib.Core.List.{[], ◌∷◌}
use Prim.Native.Nat.{ℕ, ◌+◌}
use Rattle.heap_rules.specs.declared.Superblock.{Superblock}
use Rattle.call_rules.specs.declared.Outcome.TheVariants.{Address}
use Rattle.row_rules.specs.declared.Control.{Control}
use Rattle.row_rules.specs.Row.{RowAfter}
use Rattle.row_rules.specs.Borrowed.{records_after}

abbrev pub numbered : ℕ → Superblock
numbered k = record { owner = k; class = 9; live = []; rank = k + 20; run = k + 40 }

abbrev pub example_control : Control
example_control = record {
  setup = record { processors = 2; superblocks = 1; spare = 3; p = 4; q = 5 };
  names = 10 ∷ 11 ∷ [];
  totals = record { superblocks = 14 ∷ []; live = 15 ∷ 16 ∷ [] };
}

-- what the call left
abbrev pub row_after_call_lem : RowAfter
row_after_call_lem = record { outcome = Address 2048; control = example_control; row = numbered 6 ∷ numbered 7 ∷ []; order = 12 ∷ 13 ∷ [] }

pub first_two_records_replaced : records_after 2 (numbered 1 ∷ numbered 2 ∷ numbered 3 ∷ []) row_after_call_lem
    ≡ record {
      returned = record {
        records = numbered 6 ∷ numbered 7 ∷ numbered 3 ∷ [];
        answer = record { outcome = Address 2048; control = example_control };
      };
      order = 12 ∷ 13 ∷ [];
    }
first_two_records_replaced = refl

-- all are lent where there are fewer
pub all_records_replaced : records_after 9 (numbered 1 ∷ numbered 2 ∷ []) row_after_call_lem
    ≡ record {
      returned = record { records = numbered 6 ∷ numbered 7 ∷ []; answer = record { outcome = Address 2048; control = example_control } };
      order = 12 ∷ 13 ∷ [];
    }
all_records_replaced = refl
