-- A take from one superblock, step by step as the code goes. Assumes nothing.
use mathlib.Core.Path.{◌≡◌}
use mathlib.Core.List.{List}
use Prim.Native.Nat.{ℕ, ◌-◌}
use Rattle.class_rules.specs.Classes.{blocks_of}
use Rattle.order_rules.specs.Order.{last_filled}
use Rattle.heap_rules.specs.declared.Superblock.{Superblock}
use Rattle.heap_rules.specs.declared.State.{State}
use Rattle.heap_rules.specs.Table.{superblock_at, live_in, with_mark_at}
use Rattle.heap_rules.specs.States.{with_superblock}
use Rattle.call_rules.specs.declared.Outcome.TheVariants.{Address}
use Rattle.call_rules.specs.Answers.{After}
use Rattle.call_rules.specs.Take.{next_block, address_of, taken_from}

abbrev with_live : Superblock → List ℕ → Superblock
with_live b live = record { owner = b.owner; class = b.class; live = live; rank = b.rank; run = b.run }

pub taken_from_by_steps : (k i : ℕ) (s : State) (order : List ℕ) (filled j at address : ℕ) (taken : List ℕ) (t : State) → i ≡ k
    → filled ≡ blocks_of (superblock_at s i).class - live_in (superblock_at s i) → j ≡ last_filled order k filled → at ≡ j
    → address ≡ address_of k (superblock_at s i).class j → taken ≡ (with_mark_at (superblock_at s i) at).live
    → t ≡ with_superblock s i (with_live (superblock_at s i) taken)
    → ◌≡◌ {A = After} (record { answer = record { outcome = Address address; state = t }; order = order }) (taken_from k s order)
unfolding taken_from next_block
taken_from_by_steps k i s order filled j at address taken t ei ef ej e ea em et = rw (et, em, ea, e, ej, ef, ei)
