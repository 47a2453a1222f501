-- The printed key of a record.
use Rattle.std.specs.Prelude.{◌≡◌, List, [], ◌∷◌, ◌++◌, ℕ, ◌≤◌, ◌<◌, Option, Some, None, length, take, drop, eqb}
use Rattle.base_laws.specs.Sums.{pick}
use Rattle.heap_rules.specs.declared.Setup.{Setup}
use Rattle.heap_rules.specs.declared.State.{State}
use Rattle.heap_rules.specs.States.{no_state}
use Rattle.call_rules.specs.declared.Outcome.{Outcome}
use Rattle.call_rules.specs.declared.Outcome.TheVariants.{Ready}
use Rattle.call_rules.specs.Answers.{After, number_of}
use Rattle.call_rules.specs.Setup.{setup_of}
use Rattle.call_rules.specs.Calls.{call_with, call_of}
use Rattle.record_rules.specs.declared.Command.{Command}
use Rattle.record_rules.specs.declared.Command.TheVariants as command
use Rattle.record_rules.specs.Record.{addresses_in, commands_of}
use Rattle.line_rules.specs.Lines.{setup_line, call_line, stop_line, final_lines}

-- what a command finds: a state and the storage
abbrev pub state_and_storage : State → List ℕ → After
state_and_storage s order = record { answer = record { outcome = Ready; state = s }; order = order }

-- before the first command: no state, and the storage that is lent
abbrev pub before_first : List ℕ → After
before_first order = state_and_storage no_state order

-- the text after a setup: its line and the rest where it is accepted, else the stop line of its refusal, at offset 0
unfoldable pub setup_text : Setup → Outcome → List ℕ → List ℕ
setup_text u outcome rest = pick (eqb (number_of outcome) 0) (setup_line u ++ rest) (stop_line (number_of outcome) 0)

-- "prints a line for each command. A refused take or free prints its number and the record goes on. Refusals 1, 8, 9, 10, 11 print
-- `stopped R at B` .. as the last line. Otherwise" the final lines: the text of commands of record r, with what the one before them left; the
-- addresses of a drop are read in the record
unfoldable pub text_of : List ℕ → After → List Command → List ℕ
text_of r before [] = final_lines before.answer.state
text_of r before (command.Setup processors superblocks spare p q ∷ commands) =
    let u : Setup = record { processors = processors; superblocks = superblocks; spare = spare; p = p; q = q } in
    setup_text u (setup_of u before.order).answer.outcome (text_of r (setup_of u before.order) commands)
text_of r before (command.Call call count first ∷ commands) =
    let after : After = call_of before.answer.state before.order (call_with call (addresses_in r first count)) in
    call_line call count after.answer.outcome ++ text_of r after commands
text_of r before (command.Refused number offset ∷ commands) = stop_line number offset

-- the order storage that these commands leave; after a stop nothing more is done
unfoldable pub order_after : List ℕ → After → List Command → List ℕ
order_after r before [] = before.order
order_after r before (command.Setup processors superblocks spare p q ∷ commands) =
    let u : Setup = record { processors = processors; superblocks = superblocks; spare = spare; p = p; q = q } in
    let after : After = setup_of u before.order in
    pick (eqb (number_of after.answer.outcome) 0) (order_after r after commands) after.order
order_after r before (command.Call call count first ∷ commands) =
    order_after r (call_of before.answer.state before.order (call_with call (addresses_in r first count))) commands
order_after r before (command.Refused number offset ∷ commands) = before.order

-- the key of a record, made with this order storage
unfoldable pub key_of : List ℕ → List ℕ → List ℕ
key_of r order = text_of r (before_first order) (commands_of r)

-- and the storage that making it leaves
unfoldable pub storage_of : List ℕ → List ℕ → List ℕ
storage_of r order = order_after r (before_first order) (commands_of r)

-- room for the key of any record
abbrev pub room : ℕ
room = 655360

-- the whole key of record r stands in the first n bytes of the buffer; what lies behind them is as it was
pub record KeyWritten (r order out : List ℕ) (n : ℕ) (left new : List ℕ) : Type 0 where
  pub text : take n new ≡ key_of r order
  pub count : n ≡ length (key_of r order)
  pub behind : drop n new ≡ drop n out
  pub storage : left ≡ storage_of r order

-- what each answer means: so many bytes of the key, wherever the buffer has room for every key; else none, and nothing was changed
unfoldable pub KeyOrNoRoom : List ℕ → List ℕ → List ℕ → Option ℕ → List ℕ → List ℕ → Type 0
KeyOrNoRoom r order out (Some n) left new = (room ≤ length out) × KeyWritten r order out n left new
KeyOrNoRoom r order out None left new = (length out < room) × (left ≡ order) × (new ≡ out)
