-- Calls by name in a key, in the words of document 02, item 2. Assumes nothing.
use mathlib.Core.Path.{◌≡◌, ap, ◌∙◌}
use mathlib.Core.Bool.{true, false}
use mathlib.Core.List.{List, ◌∷◌, ◌++◌}
use Prim.Native.Nat.{ℕ, ◌+◌, ◌*◌}
use native.Mathlib.Omega.{arith}
use Rattle.names_rules.specs.Names.{is_held}
use Rattle.heap_rules.specs.declared.State.{State}
use Rattle.call_rules.specs.declared.Outcome.{Outcome}
use Rattle.call_rules.specs.Answers.{After, is_processor}
use Rattle.call_rules.specs.Take.{take_of}
use Rattle.call_rules.specs.Free.{free_of}
use Rattle.call_rules.specs.Named.{is_unavailable, with_name_bound, held_address}
use Rattle.call_rules.specs.Calls.{call_with, call_of}
use Rattle.call_header.specs.declared.CallHeader.TheVariants as header
use Rattle.call_laws.proofs.CallEffects.{Passed}
use Rattle.call_laws.proofs.NamedCallLaws.{named_take_is_plain_take, named_free_is_free_of_held_address}
use Rattle.bytes_rules.specs.Bytes.{byte_at, two_at}
use Rattle.record_rules.specs.declared.Command.{Command}
use Rattle.record_rules.specs.declared.Command.TheVariants as command
use Rattle.record_rules.specs.Record.{command_at}
use Rattle.record_laws.proofs.RefusalTable.{named_take_iff_named_take_at, named_free_iff_named_free_at}
use Rattle.text_rules.specs.Text.{letters}
use Rattle.line_rules.specs.Lines.{field, result, named_take_line, named_free_line, call_line}
use Rattle.key_rules.specs.Key.{state_and_storage, text_of}

-- ---- a named call prints the processor, the name and the size as in the record, whatever came of it
two_bytes : (r : List ℕ) (a b : ℕ) → b ≡ a + 1 → byte_at r a + 256 * byte_at r b ≡ two_at r a
two_bytes r a b e = ap (λ (k : ℕ). byte_at r a + 256 * byte_at r k) e

module _ (r : List ℕ) (at i m : ℕ) (o : Outcome) where
  pub named_take_printed_as_in_record : (size : ℕ) → command_at r at ≡ command.Call (header.NamedTake i m size) 0 0
      → named_take_line i m size o ≡ field (letters "take ") (byte_at r (at + 1)) ++ field (letters " name ") (two_at r (at + 2))
      ++ field (letters " ") (two_at r (at + 4)) ++ result o ++ letters "\n"
  unfolding named_take_line
  named_take_printed_as_in_record size e =
      let t = (named_take_iff_named_take_at r at i m size).0 e in
      rw (t.4, t.5 ∙ two_bytes r (at + 2) (at + 3) (omega arith), t.6 ∙ two_bytes r (at + 4) (at + 5) (omega arith))

  pub named_free_printed_as_in_record : command_at r at ≡ command.Call (header.NamedFree i m) 0 0
      → named_free_line i m o ≡ field (letters "free ") (byte_at r (at + 1)) ++ field (letters " name ") (two_at r (at + 2)) ++ result o ++ letters "\n"
  unfolding named_free_line
  named_free_printed_as_in_record e = let t = (named_free_iff_named_free_at r at i m).0 e in rw (t.4, t.5 ∙ two_bytes r (at + 2) (at + 3) (omega arith))

-- ---- "A named call does what the plain one does, a free with the held address": it has the plain call's result in a line of its own, and the
-- text goes on from what the plain call leaves
module _ (r : List ℕ) (s : State) (order : List ℕ) (i m : ℕ) (commands : List Command) (passed : Passed s order) (p : is_processor s i ≡ true) where
  pub text_of_named_take_is_of_plain_take : (size : ℕ) → is_unavailable s m ≡ false
      → text_of r (state_and_storage s order) (command.Call (header.NamedTake i m size) 0 0 ∷ commands)
      ≡ named_take_line i m size (take_of s order i size).answer.outcome ++ text_of r (with_name_bound m (take_of s order i size)) commands
  unfolding text_of call_of call_with call_line with_name_bound
  text_of_named_take_is_of_plain_take size u = ap (λ (z : After). named_take_line i m size z.answer.outcome ++ text_of r z commands)
      (named_take_is_plain_take s order i m size passed p u)

  pub text_of_named_free_is_of_plain_free : is_held s.names m ≡ true
      → text_of r (state_and_storage s order) (command.Call (header.NamedFree i m) 0 0 ∷ commands)
      ≡ named_free_line i m (free_of s order i (held_address s m)).answer.outcome ++ text_of r (free_of s order i (held_address s m)) commands
  unfolding text_of call_of call_with call_line
  text_of_named_free_is_of_plain_free h = ap (λ (z : After). named_free_line i m z.answer.outcome ++ text_of r z commands)
      (named_free_is_free_of_held_address s order i m passed p h)
