-- States with two superblocks, for the cases of calls. Assumes nothing.
use mathlib.Core.List.{List, ◌∷◌, ◌++◌}
use Prim.Native.Nat.{ℕ}
use lib.ListN.{replicate}
use Rattle.names_rules.specs.Names.{no_names, with_name}
use Rattle.heap_rules.specs.declared.State.{State}
use Rattle.heap_rules.specs.Table.{unused}
use Rattle.heap_rules.specs.States.{with_names}
use Rattle.heap_rules.proofs.CaseStates.{unnamed_state}
use Rattle.heap_rules.proofs.TableCases.{ranked}
use Rattle.check_rules.proofs.CheckCases.{setup_with}

-- P = 2, N = 2, K = 1, p/q = 3/7: superblocks 0 and 1, of class 26 with two blocks of 2048 bytes, are heap 2's and heap 1's, with these ranks
abbrev pub ranked_pair_state : ℕ → ℕ → ℕ → ℕ → State
ranked_pair_state a r b t = unnamed_state (setup_with 2 2 1 3 7) (ranked 2 26 a r ∷ ranked 1 26 b t ∷ replicate 62 unused)

-- superblock 1 is ranked alone
abbrev pub pair_state : ℕ → ℕ → State
pair_state a b = ranked_pair_state a 0 b 1

-- the first two order places of each; every other place holds 77
abbrev pub pair_order : ℕ → ℕ → ℕ → ℕ → List ℕ
pair_order a b c d = a ∷ b ∷ replicate 254 77 ++ c ∷ d ∷ replicate 254 77

-- block 0 of superblock 0 and block 1 of superblock 1 are live
abbrev pub state_before : State
state_before = pair_state 1 2

abbrev pub order_before : List ℕ
order_before = pair_order 1 66 0 67

-- Superblocks 0 and 1, of class 26, are heap 2's and heap 1's; block 0 of superblock 0, at 0, is live and name 5's, block 1 of superblock 1, at 6144,
-- is live and name 1022's
abbrev pub two_names : List ℕ
two_names = with_name (with_name no_names 5 0) 1022 257

abbrev pub named_state : State
named_state = with_names (pair_state 1 2) two_names
