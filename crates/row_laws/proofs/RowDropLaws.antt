-- A drop on a lent row (document 02, items 5 and 7). Assumes nothing.
use mathlib.Core.Path.{◌≡◌}
use mathlib.Core.List.{List, [], ◌∷◌}
use Prim.Native.Nat.{ℕ}
use lib.ListN.{length}
use Rattle.heap_rules.specs.declared.Superblock.{Superblock}
use Rattle.call_rules.specs.Calls.{Free, Drop, call_of}
use Rattle.heap_laws.proofs.StateFacts.{Shape}
use Rattle.call_laws.proofs.DropLaws.{DropAccepted}
use Rattle.call_laws.proofs.DropAsFrees.{drop_of_one_is_free}
use Rattle.call_laws.proofs.DropRunLaws.{DropRuns, drop_runs}
use Rattle.row_rules.specs.declared.Control.{Control}
use Rattle.row_rules.specs.Row.{state_of, call_on, row_call}
use Rattle.row_laws.proofs.RowLaws.{call_on_64_is_call_of}

-- A drop of one address is the free of it, on every row, of any length.
pub row_drop_of_one_is_free : (control : Control) (row : List Superblock) (order : List ℕ) (i a : ℕ) → row_call control row order (Drop i (a ∷ []))
    ≡ row_call control row order (Free i a)
unfolding call_on call_of
row_drop_of_one_is_free control row order i a = rw (drop_of_one_is_free (state_of control row) order i a)

-- An accepted drop makes the runs that it lists unused, keeps the others, and makes none.
pub row_drop_runs : (control : Control) (row : List Superblock) (order : List ℕ) (i : ℕ) (addresses : List ℕ)
    → Shape (state_of control row) → DropAccepted (state_of control row) order i addresses
    → let left = row_call control row order (Drop i addresses) in DropRuns addresses (state_of control row) (state_of left.control left.row)
unfolding call_of
row_drop_runs control row order i addresses shape acc =
    rw (call_on_64_is_call_of (length row) control row order (Drop i addresses) shape.length_is)
    (drop_runs (state_of control row) order i addresses shape acc)
