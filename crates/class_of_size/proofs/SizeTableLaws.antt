-- "Its agreement with the class list is shown for the whole table together" (document 02, item 6). Assumes nothing.
use mathlib.Core.Path.{◌≡◌, refl, sym, ap, subst, ◌∙◌}
use mathlib.Core.Bool.{Bool}
use Prim.Native.Nat.{ℕ, ◌*◌, ◌≤◌, ◌<◌}
use native.Mathlib.Nat.{lt_of_not-le}
use native.Mathlib.Decide.{dec_le}
use native.Mathlib.Omega.{arith}
use lib.ListN.{length, get_or, get_or-eq_default}
use lib.Dec.{T, eqb, eqb→eq}
use Rattle.std.proofs.lemmas.List.{get_or_default}
use Rattle.base_laws.specs.Sums.{all_below}
use Rattle.base_laws.proofs.SumLaws.{all_at}
use Rattle.class_rules.specs.Classes.{class_count, sizes, size_of, first_at_least, class_of}
use Rattle.class_rules.proofs.ClassLaws.{smaller_class_sizes_lt, size_le_size_of_class_of, class_of_too_large}
use Rattle.class_of_size.specs.SizeTable.{class_by_size, entry, index_of, rounded_up}
use Rattle.class_of_size.proofs.RoundingLaws.{class_of_rounded_up}

-- "A table of 257 entries"
pub size_table_has_257_entries : length class_by_size ≡ 257
unfolding class_by_size
size_table_has_257_entries = refl

-- the one test, computed at all entries
entry_agrees : ℕ → Bool
entry_agrees e = eqb (entry e) (class_of (8 * e))

all_entries_agree : T (all_below entry_agrees 257)
unfolding all_below entry_agrees entry class_by_size class_of first_at_least sizes
all_entries_agree = tt

pub entry_is_class_of_its_multiple_of_8 : (e : ℕ) → e < 257 → entry e ≡ class_of (8 * e)
unfolding entry_agrees
entry_is_class_of_its_multiple_of_8 e h = eqb→eq (entry e) (class_of (8 * e)) (all_at entry_agrees 257 all_entries_agree e h)

-- "the smallest class that holds it" (document 01), of a size and a class
pub record SmallestHolding (s c : ℕ) : Type 0 where
  pub holds : s ≤ size_of c
  pub smallest : (k : ℕ) → k < c → size_of k < s

-- entry e is the smallest class that holds 8 × e
pub entry_is_smallest_holding : (e : ℕ) → e < 257 → SmallestHolding (8 * e) (entry e)
entry_is_smallest_holding e h =
    subst (SmallestHolding (8 * e)) (sym (entry_is_class_of_its_multiple_of_8 e h))
    (record { holds = size_le_size_of_class_of (8 * e) (omega arith); smallest = smaller_class_sizes_lt (8 * e) })

-- a size has the class that stands in the table for its size rounded up to a multiple of 8
pub entry_of_size_is_its_class : (s : ℕ) → s ≤ 2048 → entry (index_of s) ≡ class_of s
unfolding rounded_up index_of
entry_of_size_is_its_class s h = entry_is_class_of_its_multiple_of_8 (index_of s) (omega arith) ∙ class_of_rounded_up s

-- so what is read at a size's entry is the size's class, also where the table has no such entry and the read gives 27
pub class_read_of_size : (s i : ℕ) → i ≡ index_of s → get_or class_by_size i class_count ≡ class_of s
unfolding index_of entry
class_read_of_size s i e = go (dec_le s 2048)
  where
    go : Dec (s ≤ 2048) → get_or class_by_size i class_count ≡ class_of s
    go (yes h) =
        get_or_default class_by_size i class_count 0 (omega (arith, size_table_has_257_entries))
        ∙ ap (λ (k : ℕ). get_or class_by_size k 0) e ∙ entry_of_size_is_its_class s h
    go (no f) =
        let l : 2048 < s = lt_of_not-le f in
        get_or-eq_default class_by_size class_count (omega (arith, size_table_has_257_entries)) ∙ sym (class_of_too_large s l)
