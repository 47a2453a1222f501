-- Drops in a key, in the words of document 02, item 5. Assumes nothing.
use mathlib.Core.Path.{◌≡◌}
use mathlib.Core.List.{List, ◌∷◌, ◌++◌}
use Prim.Native.Nat.{ℕ, ◌+◌}
use Rattle.call_rules.specs.declared.Outcome.{Outcome}
use Rattle.call_rules.specs.Calls as call
use Rattle.call_rules.specs.Calls.{call_with}
use Rattle.call_header.specs.declared.CallHeader.TheVariants as header
use Rattle.bytes_rules.specs.Bytes.{byte_at, fours_at}
use Rattle.record_rules.specs.declared.Command.{Command}
use Rattle.record_rules.specs.declared.Command.TheVariants as command
use Rattle.record_rules.specs.Record.{command_at}
use Rattle.record_laws.proofs.RefusalTable.{drop_iff_drop_at}
use Rattle.text_rules.specs.Text.{letters}
use Rattle.line_rules.specs.Lines.{field, result, drop_line}
use Rattle.key_rules.specs.KeyClaim.{calls_in}

module _ (r : List ℕ) (at i count first : ℕ) (e : command_at r at ≡ command.Call (header.Drop i) count first) where
  -- "`drop 1 count 3 moved 1`": a drop prints the processor and the count as in the record, whatever came of it
  pub drop_printed_as_in_record : (o : Outcome) → drop_line i count o ≡ field (letters "drop ") (byte_at r (at + 1))
      ++ field (letters " count ") (byte_at r (at + 2)) ++ result o ++ letters "\n"
  unfolding drop_line
  drop_printed_as_in_record o = let t = (drop_iff_drop_at r at i count first).0 e in rw (t.4, t.5)

  -- "processor (1 byte), count (1) and that many addresses (4 each)": the call that is run drops the addresses that stand in the record, in their order
  pub drop_run_as_in_record : (commands : List Command)
      → calls_in r (command.Call (header.Drop i) count first ∷ commands)
      ≡ call.Drop (byte_at r (at + 1)) (fours_at r (at + 3) (byte_at r (at + 2))) ∷ calls_in r commands
  unfolding calls_in call_with
  drop_run_as_in_record commands = let t = (drop_iff_drop_at r at i count first).0 e in rw (t.4, t.5, t.6)
