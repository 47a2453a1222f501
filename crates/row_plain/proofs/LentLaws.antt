-- A row lent from the front of the records: as many as n, or all where n is above. Assumes nothing.
use Rattle.std.proofs.Common.{◌≡◌, ℕ, List, ◌++◌, length, take, drop, min, ap, sym, ◌∙◌}
use Rattle.std.proofs.lemmas.List.{take_min, drop_min}
use Rattle.heap_rules.specs.declared.Superblock.{Superblock}
use Rattle.row_rules.specs.declared.RowAnswer.{RowAnswer}
use Rattle.row_rules.specs.Row.{RowAfter, row_after}
use Rattle.row_rules.specs.Borrowed.{records_with, records_after}

module _ (n lent : ℕ) (records : List Superblock) (long : length records ≡ 65) (e : lent ≡ min n 65) where
  is_min : lent ≡ min n (length records)
  is_min = e ∙ ap (min n) (sym long)

  pub lent_by_rules : (answer : RowAnswer) (row : List Superblock) (order : List ℕ) (rules : List Superblock → RowAfter)
      → row_after answer row order ≡ rules (take lent records)
      → record { returned = record { records = row ++ drop lent records; answer = answer }; order = order } ≡ records_after n records (rules (take n records))
  lent_by_rules answer row order rules after =
      ap (λ (x : RowAfter). records_with x (drop lent records))
      (after ∙ ap rules (ap (λ (k : ℕ). take k records) is_min ∙ take_min n records))
      ∙ ap (records_with (rules (take n records))) (ap (λ (k : ℕ). drop k records) is_min ∙ drop_min n records)
