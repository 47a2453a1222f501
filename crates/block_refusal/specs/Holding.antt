-- What is told of an address by the superblock that it lies in, without the rest of the state.
use Rattle.std.specs.Prelude.{◌≡◌, ℕ}
use Rattle.heap_rules.specs.declared.Superblock.{Superblock}
use Rattle.heap_rules.specs.declared.State.{State}
use Rattle.call_rules.specs.Free.{superblock_holding}

-- r is what a rule says of the address, in each state that has the superblock there
abbrev pub ToldBySuperblock : {A : Type 0} → A → (State → ℕ → A) → Superblock → ℕ → Type 0
ToldBySuperblock r rule b a = (s : State) → superblock_holding s a ≡ b → r ≡ rule s a

-- and has n superblocks
abbrev pub ToldByCountAndSuperblock : {A : Type 0} → A → (State → ℕ → A) → ℕ → Superblock → ℕ → Type 0
ToldByCountAndSuperblock r rule n b a = (s : State) → s.setup.superblocks ≡ n → superblock_holding s a ≡ b → r ≡ rule s a
