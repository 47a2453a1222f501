-- The recount of a table, superblock by superblock as the code goes. Assumes nothing.
use mathlib.Core.Path.{◌≡◌, refl, ap, ap₂, ◌∙◌}
use mathlib.Core.List.{List}
use Prim.Native.Nat.{ℕ, suc, ◌+◌, ◌<◌}
use native.Mathlib.Nat.{le_refl}
use native.Mathlib.Numerals.{add-one}
use native.Mathlib.Omega.{arith}
use mir.Syntax.{w8, w16}
use mir.Val.{Fits}
use Rattle.std.proofs.Common.{Some, None}
use lib.ListN.{length, get_or, set, replicate}
use Rattle.marks_laws.proofs.MarkLaws.{live_count_le_256}
use Rattle.heap_rules.specs.declared.Superblock.{Superblock}
use Rattle.heap_rules.specs.declared.Totals.{Totals}
use Rattle.heap_rules.specs.Table.{blank, live_in}
use Rattle.heap_rules.specs.Totals.{total_count, with_counted, counted_below, recounted}
use Rattle.heap_laws.proofs.TotalsLaws.{length_counted_below, counted_below_at_most}
use Rattle.heap_totals.specs.OneSuperblock.{index_of}
use Rattle.heap_totals.proofs.OneSuperblockLaws.{with_counted_of_index, with_counted_of_no_index}

-- the two lists, after the superblocks below k
pub record RecountedBelow (table : List Superblock) (k : ℕ) (superblocks live : List ℕ) : Type 0 where
  pub superblocks_are : superblocks ≡ counted_below (λ b. 1) table k
  pub live_are : live ≡ counted_below live_in table k
  pub superblocks_length : length superblocks ≡ total_count
  pub live_length : length live ≡ total_count

recounted_below : (table : List Superblock) (k : ℕ) (superblocks live : List ℕ) → superblocks ≡ counted_below (λ b. 1) table k
    → live ≡ counted_below live_in table k → RecountedBelow table k superblocks live
recounted_below table k superblocks live p q =
    record {
      superblocks_are = p;
      live_are = q;
      superblocks_length = ap length p ∙ length_counted_below (λ b. 1) table k;
      live_length = ap length q ∙ length_counted_below live_in table k;
    }

pub recounted_below_0 : (table : List Superblock) → RecountedBelow table 0 (replicate total_count 0) (replicate total_count 0)
unfolding counted_below
recounted_below_0 table = recounted_below table 0 (replicate total_count 0) (replicate total_count 0) refl refl

module _ (table : List Superblock) (k : ℕ) (b : Superblock) (superblocks live : List ℕ) (before : RecountedBelow table k superblocks live)
    (here : b ≡ get_or table k blank) where
  -- a superblock that has a heap and a class
  pub recounted_below_counted : (x n : ℕ) → Some x ≡ index_of b.owner b.class → n ≡ live_in b
      → RecountedBelow table (k + 1) (set superblocks x (get_or superblocks x 0 + 1)) (set live x (get_or live x 0 + n))
  unfolding counted_below
  recounted_below_counted x n at e =
      rw (add-one k)
      (recounted_below table (suc k) (set superblocks x (get_or superblocks x 0 + 1)) (set live x (get_or live x 0 + n))
      (with_counted_of_index b x at (λ y. 1) superblocks 1 refl ∙ ap₂ (with_counted (λ y. 1)) here before.superblocks_are)
      (with_counted_of_index b x at live_in live n e ∙ ap₂ (with_counted live_in) here before.live_are))

  -- any other
  pub recounted_below_not_counted : None ≡ index_of b.owner b.class → RecountedBelow table (k + 1) superblocks live
  unfolding counted_below
  recounted_below_not_counted at =
      rw (add-one k)
      (recounted_below table (suc k) superblocks live
      (with_counted_of_no_index b (λ y. 1) superblocks at ∙ ap₂ (with_counted (λ y. 1)) here before.superblocks_are)
      (with_counted_of_no_index b live_in live at ∙ ap₂ (with_counted live_in) here before.live_are))

-- what is added fits
module _ (table : List Superblock) (k x : ℕ) (superblocks live : List ℕ) (before : RecountedBelow table k superblocks live) (low : k < 64) where
  pub superblocks_fit_w8 : Fits w8 (get_or superblocks x 0 + 1)
  superblocks_fit_w8 = rw before.superblocks_are (let few = counted_below_at_most (λ b. 1) 1 table k (λ b. le_refl 1) x in omega arith)

  pub live_fit_w16 : (n : ℕ) (b : Superblock) → n ≡ live_in b → Fits w16 (get_or live x 0 + n)
  live_fit_w16 n b e = rw before.live_are (let few = counted_below_at_most live_in 256 table k (λ y. live_count_le_256 y.live) x in let more =
      live_count_le_256 b.live in omega arith)

pub recounted_below_64 : (table : List Superblock) (k : ℕ) (superblocks live : List ℕ) → k ≡ 64 → RecountedBelow table k superblocks live
    → ◌≡◌ {A = Totals} (record { superblocks = superblocks; live = live }) (recounted table)
unfolding recounted
recounted_below_64 table k superblocks live e before =
    ap₂ (λ (a b : List ℕ). record { superblocks = a; live = b }) (before.superblocks_are ∙ ap (counted_below (λ b. 1) table) e)
    (before.live_are ∙ ap (counted_below live_in table) e)
