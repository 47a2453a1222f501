-- What a state has past its table's 64 superblocks, and that a change there changes nothing. Assumes nothing.
use mathlib.Core.Path.{◌≡◌, sym, ap, ◌∙◌}
use mathlib.Core.List.{List}
use Prim.Native.Nat.{ℕ, ◌≤◌}
use native.Mathlib.Omega.{arith}
use lib.ListN.{length, get_or-eq_default}
use lib.Seq.{set_out}
use Rattle.heap_rules.specs.declared.Superblock.{Superblock}
use Rattle.heap_rules.specs.declared.Totals.{Totals}
use Rattle.heap_rules.specs.declared.State.{State}
use Rattle.heap_rules.specs.Table.{blank, superblock_at}
use Rattle.heap_rules.specs.Totals.{recounted, TotalsKept}
use Rattle.heap_rules.specs.States.{with_superblock}

module _ (s : State) (k : ℕ) (long : length s.table ≡ 64) (h : 64 ≤ k) where
  superblock_past_table_is_blank : superblock_at s k ≡ blank
  superblock_past_table_is_blank = get_or-eq_default s.table blank {n = k} (omega arith)

  pub owner_past_table : 0 ≡ (superblock_at s k).owner
  owner_past_table = ap (λ (b : Superblock). b.owner) (sym superblock_past_table_is_blank)

  pub class_past_table : 0 ≡ (superblock_at s k).class
  class_past_table = ap (λ (b : Superblock). b.class) (sym superblock_past_table_is_blank)

  pub with_superblock_past_table : (b : Superblock) → TotalsKept s → s ≡ with_superblock s k b
  with_superblock_past_table b kept =
      ap (λ (t : Totals). record { setup = s.setup; table = s.table; names = s.names; totals = t }) kept
      ∙ ap (λ (l : List Superblock). record { setup = s.setup; table = l; names = s.names; totals = recounted l })
      (sym (set_out s.table k b (omega arith)))
