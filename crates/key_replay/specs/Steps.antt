-- Where the replay of a record stands, between two commands.
use Rattle.std.specs.Borrow.{MutBor}
use Rattle.std.specs.Prelude.{◌≡◌, Bool, true, false, List, ℕ, suc, ◌+◌, ◌-◌, ◌≤◌, ◌<◌, length, ltb}
use Rattle.base_laws.specs.Sums.{pick}
use Rattle.text_writer.specs.declared.Text.{Text}
use Rattle.text_writer.specs.Written.{written}
use Rattle.heap_rules.specs.declared.State.{State}
use Rattle.heap_rules.specs.Totals.{most_processors, TotalsKept}
use Rattle.call_header.specs.declared.CallHeader.{CallHeader}
use Rattle.record_rules.specs.declared.Command.{Command}
use Rattle.record_rules.specs.declared.Command.TheVariants as command
use Rattle.record_rules.specs.Record.{longest_record, addresses_in, command_at, commands_from}
use Rattle.line_rules.specs.Lines.{stop_line, closing_lines}
use Rattle.key_replay.specs.declared.Progress.{Progress}
use Rattle.key_replay.specs.declared.Progress.TheVariants.{Going, Ended, Stopped}
use Rattle.key_replay.specs.declared.Replay.{Replay}
use Rattle.key_rules.specs.Key.{state_and_storage, text_of, order_after, key_of, storage_of}

-- more commands are still to be read
abbrev pub is_going : Progress → Bool
is_going Going = true
is_going Ended = false
is_going Stopped = false

-- a stop line was the last
abbrev pub is_stopped : Progress → Bool
is_stopped Going = false
is_stopped Ended = false
is_stopped Stopped = true

-- the commands still to be read, where there are more
abbrev pub commands_ahead : Replay → List Command
commands_ahead x = commands_from (suc (length x.bytes.now)) x.bytes.now x.at

-- the text still to come
unfoldable pub text_ahead : Replay → List ℕ
text_ahead x = pick (is_going x.progress) (text_of x.bytes.now (state_and_storage x.state x.order.now) (commands_ahead x))
    (closing_lines (is_stopped x.progress) x.state)

-- the storage that the commands still to be read leave
unfoldable pub order_ahead : Replay → List ℕ
order_ahead x =
    pick (is_going x.progress) (order_after x.bytes.now (state_and_storage x.state x.order.now) (commands_ahead x)) x.order.now

-- what is lent to a replay: a buffer with a text in it, and the order storage
pub record Lent : Type 0 where
  pub text : MutBor Text
  pub order : MutBor (List ℕ)

-- as it stands
abbrev pub lent : Replay → Lent
lent x = record { text = x.text; order = x.order }

-- the buffer with the closing lines, and the storage as it is
abbrev pub closed : Bool → Replay → Lent
closed stopped x = record { text = record x.text { now = written x.text.now (closing_lines stopped x.state) }; order = x.order }

-- the buffer with all that is still to come, and the storage that this leaves
unfoldable pub lent_ahead : Replay → Lent
lent_ahead x = record { text = record x.text { now = written x.text.now (text_ahead x) }; order = record x.order { now = order_ahead x } }

-- the whole key of a record put to a text, and the storage that making it leaves
unfoldable pub key_lent : List ℕ → MutBor (List ℕ) → MutBor Text → Lent
key_lent r order t = record { text = record t { now = written t.now (key_of r order.now) }; order = record order { now = storage_of r order.now } }

-- a bound on the commands still to be read
unfoldable pub commands_left : Replay → ℕ
commands_left x = pick (is_going x.progress) (longest_record + 1 - x.at) 0

-- the final lines can be read from a state's totals: they are the recount, and each of its heaps has some
abbrev pub TotalsReadable : State → Type 0
TotalsReadable s = TotalsKept s × (s.setup.processors ≤ most_processors)

-- the position is one of a record that is not too long, and the totals can be read
pub record InBounds (x : Replay) : Type 0 where
  pub position_bound : x.at ≤ longest_record
  pub totals_readable : TotalsReadable x.state

-- one command on: what stands and is still to come stays the same
pub record Stepped (x y : Replay) : Type 0 where
  pub lent_same : lent_ahead y ≡ lent_ahead x
  pub in_bounds : InBounds y
  pub fewer_commands_left : commands_left y < commands_left x

-- with what a command left: a state, the order storage, and the text
abbrev pub with_left : Replay → State → List ℕ → Text → Replay
with_left x s order text = record x { order = record x.order { now = order }; text = record x.text { now = text }; state = s }

-- past a command of so many bytes that was read whole: the record goes on while it has bytes
abbrev pub past : Replay → ℕ → Replay
past x size = record x { at = x.at + size; progress = pick (ltb (x.at + size) (length x.bytes.now)) Going Ended }

-- after a stop line
abbrev pub stop_of : Replay → ℕ → ℕ → Replay
stop_of x number offset = record x { text = record x.text { now = written x.text.now (stop_line number offset) }; progress = Stopped }

-- a call's command stands at a position of the record, and its addresses, so many, are lent beside its header; the first of them stands at an offset
pub record CallAt (r : List ℕ) (at : ℕ) (call : CallHeader) (addresses : List ℕ) (count : ℕ) : Type 0 where
  pub first : ℕ
  pub command_is : command.Call call count first ≡ command_at r at
  pub addresses_are : addresses ≡ addresses_in r first count
