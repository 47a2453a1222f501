-- What the type of a state says of its lists: 64 superblocks, each with four numbers of marks, 1024 names, and two totals of each heap and class.
-- Assumes nothing.
use mathlib.Core.Path.{◌≡◌}
use mathlib.Core.List.{List, [], ◌∷◌}
use Prim.Native.Nat.{ℕ, zero, suc, ◌<◌}
use native.Mathlib.Nat.{le_of_suc-le-suc, not-suc-le-zero}
use lib.ListN.{length, get_or}
use mir.Val.{Val}
use denote.Array.{each}
use denote.Laws.{Is}
use denote.Shadow.{shadow}
use Rattle.heap_rules.specs.declared.Superblock.{Superblock}
use Rattle.heap_rules.specs.declared.State.{State}
use Rattle.heap_rules.specs.Table.{blank}
use Rattle.heap_laws.proofs.StateFacts.{Shape}
use Rattle.heap_rules.specs.contracts.Superblock as B
use Rattle.heap_rules.specs.contracts.State as S

-- of one superblock
marks_length_of_superblock : (b : Superblock) (vals : List Val) → Is B.the_row b vals → length b.live ≡ 4
marks_length_of_superblock b vals g = g.1.1.1.1.1.1.0.1.0.1

-- of each superblock of a list
marks_length_of_each : (table : List Superblock) (vals : List Val) → shadow (each Superblock (B.the_row).own_val table vals) → (k : ℕ) → k < length table
    → length (get_or table k blank).live ≡ 4
marks_length_of_each [] vals g k l = absurd (not-suc-le-zero l)
marks_length_of_each (b ∷ table) [] g k l = absurd g
marks_length_of_each (b ∷ table) (v ∷ vals) g zero l = marks_length_of_superblock b (v ∷ []) g.0
marks_length_of_each (b ∷ table) (v ∷ vals) g (suc k) l = marks_length_of_each table vals g.1 k (le_of_suc-le-suc l)

-- of a state
pub shape_of_state : (s : State) (vals : List Val) → Is S.the_row s vals → Shape s
shape_of_state s vals g =
    let t = g.1.1.1.0 in
    record {
      length_is = t.1.0.1;
      marks_length = λ k l. marks_length_of_each s.table t.0 t.1.1 k (rw t.1.0.1 l);
      names_length = g.1.1.1.1.0.1.0.1;
      superblock_totals_length = g.1.1.1.1.1.0.1.1.0.1.0.1;
      live_totals_length = g.1.1.1.1.1.0.1.1.1.0.1.0.1;
    }
