-- `check_names::names_valid` meets its contract. The loop's invariant: the held names that are counted and those left make all. Assumes nothing.
use mathlib.Core.Path.{◌≡◌}
use Prim.Native.Nat.{◌+◌, ◌≤◌}
use lib.ListN.{drop}
use Rattle.check_names.specs.NameScan.{held_count}
use Rattle.check_names.proofs.names_valid.Given as goal

abbrev pub invariant-loop-name : goal.invariant-loop-name
invariant-loop-name l = (l.held ≤ l.name-index) × (l.held + held_count (drop l.name-index l.fn.s.names) ≡ held_count l.fn.s.names)
