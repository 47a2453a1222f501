-- A superblock of a state replaced, with the totals that its change leaves. Assumes nothing.
use mathlib.Core.Path.{◌≡◌, sym, ap}
use Prim.Native.Nat.{ℕ, ◌≤◌, ◌<◌}
use native.Mathlib.Omega.{arith}
use lib.ListN.{length, get_or, set}
use Rattle.heap_rules.specs.declared.Superblock.{Superblock}
use Rattle.heap_rules.specs.declared.Totals.{Totals}
use Rattle.heap_rules.specs.declared.State.{State}
use Rattle.heap_rules.specs.Table.{superblock_at}
use Rattle.heap_rules.specs.Totals.{recounted, TotalsKept}
use Rattle.heap_rules.specs.States.{with_superblock}
use Rattle.heap_laws.proofs.TotalsLaws.{recounted_superblocks_le_64, recounted_live_le_16384}
use Rattle.heap_totals.specs.OneSuperblock.{counted_in, counted_out}
use Rattle.heap_totals.proofs.OneSuperblockLaws.{recounted_with_replaced, counted_out_superblocks_le, counted_out_live_le}

module _ (s : State) (without : Totals) (old : Superblock) (kept : TotalsKept s) (e : without ≡ counted_out old s.totals) where
  -- what is left when one counts no longer is not more than it was
  pub superblocks_left_le_64 : (x : ℕ) → get_or without.superblocks x 0 ≤ 64
  superblocks_left_le_64 x =
      rw (e, kept) (let few = counted_out_superblocks_le old (recounted s.table) x in let all = recounted_superblocks_le_64 s.table x in omega arith)

  pub live_left_le_16384 : (x : ℕ) → get_or without.live x 0 ≤ 16384
  live_left_le_16384 x =
      rw (e, kept) (let few = counted_out_live_le old (recounted s.table) x in let all = recounted_live_le_16384 s.table x in omega arith)

  pub replaced_with_totals : (k : ℕ) (b : Superblock) (now : Totals) → length s.table ≡ 64 → k < 64 → old ≡ superblock_at s k → now ≡ counted_in b without
      → record { setup = s.setup; table = set s.table k b; names = s.names; totals = now } ≡ with_superblock s k b
  replaced_with_totals k b now long l was new =
      ap (λ (t : Totals). record { setup = s.setup; table = set s.table k b; names = s.names; totals = t })
      (rw (new, e, kept, was) (sym (recounted_with_replaced s.table k b long l)))
