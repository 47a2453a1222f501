-- One command of a replay: what stands and is still to come stays the same. Assumes nothing.
use mathlib.Core.Path.{◌≡◌, refl, sym, ap, ◌∙◌, subst}
use mathlib.Core.Bool.{Bool, true, false}
use mathlib.Core.List.{List, [], ◌∷◌, ◌++◌, append-nil}
use Prim.Native.Nat.{ℕ, ◌+◌, ◌-◌, ◌≤◌, ◌<◌}
use native.Mathlib.Nat.{lt_of_not-le}
use native.Mathlib.Decide.{dec_le}
use native.Mathlib.Omega.{arith}
use borrow.Author.Tests.{lt-ltb, le-ltb, eq-eqb, ne_eqb}
use lib.ListN.{length}
use lib.Dec.{eqb, ltb}
use Rattle.base_laws.specs.Sums.{pick}
use Rattle.base_laws.specs.Lists.{listed}
use Rattle.text_writer.specs.declared.Text.{Text}
use Rattle.text_writer.specs.Written.{written}
use Rattle.text_writer.proofs.WriteLaws.{written_append}
use Rattle.heap_rules.specs.declared.Setup.{Setup}
use Rattle.call_rules.specs.declared.Answer.{Answer}
use Rattle.call_header.specs.declared.CallHeader.{CallHeader}
use Rattle.call_rules.specs.Answers.{After, number_of}
use Rattle.call_rules.specs.Setup.{setup_of}
use Rattle.call_rules.specs.Calls.{Call, call_with, call_of}
use Rattle.call_laws.proofs.TotalsKeptLaws.{call_keeps_totals, new_or_refused_setup_totals_kept}
use Rattle.record_rules.specs.declared.Command.{Command}
use Rattle.record_rules.specs.declared.Command.TheVariants as command
use Rattle.bytes_rules.specs.Bytes.{fours_at}
use Rattle.record_rules.specs.Record.{addresses_in, command_at, call_size}
use Rattle.record_laws.proofs.RefusalTable.{call_byte_and_size}
use Rattle.record_laws.proofs.CommandLaws.{commands_at, remaining, remaining_inside, remaining_end, commands_refused, commands_setup, commands_call}
use Rattle.record_laws.proofs.CommandLaws.{setup_first_and_inside, call_later_and_inside}
use Rattle.line_rules.specs.Lines.{setup_line, call_line, stop_line, closing_lines}
use Rattle.key_replay.specs.declared.Progress.TheVariants.{Going, Ended}
use Rattle.key_replay.specs.declared.Replay.{Replay}
use Rattle.key_rules.specs.Key.{state_and_storage, setup_text, text_of, order_after}
use Rattle.key_laws.proofs.SetupKeptLaws.{setup_kept_by_call, processors_after_setup_le_8}
use Rattle.key_replay.specs.Steps.{Lent, text_ahead, order_ahead, lent_ahead, commands_left, TotalsReadable, InBounds}
use Rattle.key_replay.specs.Steps.{Stepped, with_left, past, stop_of, CallAt, is_going}

-- ---- of what a call left, the state and the storage count
text_of_starting_from : (r : List ℕ) (after : After) (cs : List Command)
    → text_of r after cs ≡ text_of r (state_and_storage after.answer.state after.order) cs
unfolding text_of
text_of_starting_from r after [] = refl
text_of_starting_from r after (command.Setup processors superblocks spare p q ∷ cs) = refl
text_of_starting_from r after (command.Call call count first ∷ cs) = refl
text_of_starting_from r after (command.Refused number offset ∷ cs) = refl

order_after_starting_from : (r : List ℕ) (after : After) (cs : List Command) → order_after r after cs
    ≡ order_after r (state_and_storage after.answer.state after.order) cs
unfolding order_after
order_after_starting_from r after [] = refl
order_after_starting_from r after (command.Setup processors superblocks spare p q ∷ cs) = refl
order_after_starting_from r after (command.Call call count first ∷ cs) = refl
order_after_starting_from r after (command.Refused number offset ∷ cs) = refl

-- ---- a command in the arms of a match
pub matched_command_is_command_at : (r : List ℕ) (at : ℕ) (c d : Command) → c ≡ command_at r at → c ≡ d → d ≡ command_at r at
matched_command_is_command_at r at c d e f = sym f ∙ e

-- a call with addresses, which are read in the record
pub call_at_of_addresses : (r : List ℕ) (at : ℕ) (call : CallHeader) (count first : ℕ) (addresses : List ℕ)
    → command.Call call count first ≡ command_at r at → addresses ≡ addresses_in r first count → CallAt r at call addresses count
call_at_of_addresses r at call count first addresses e same = record { first = first; command_is = e; addresses_are = same }

-- and with none
pub call_at_of_no_address : (r : List ℕ) (at : ℕ) (c : Command) (call : CallHeader) (count first : ℕ)
    → c ≡ command_at r at → c ≡ command.Call call count first → count ≡ 0 → CallAt r at call [] 0
unfolding fours_at listed
call_at_of_no_address r at c call count first e is none =
    record { first = first; command_is = ap (λ (n : ℕ). command.Call call n first) (sym none) ∙ sym is ∙ e; addresses_are = refl }

-- ---- a text in the buffer with the storage
abbrev left_lent : Replay → Text → List ℕ → Lent
left_lent x text order = record { text = record x.text { now = text }; order = record x.order { now = order } }

-- past a command that left this
abbrev next_of : Replay → After → Text → ℕ → Replay
next_of x after text size = past (with_left x after.answer.state after.order text) size

-- what is to come then
ahead_of_next : (x : Replay) (after : After) (text : Text) (size : ℕ)
    → (text_ahead (next_of x after text size) ≡ text_of x.bytes.now after (remaining x.bytes.now (x.at + size)))
    × (order_ahead (next_of x after text size) ≡ order_after x.bytes.now after (remaining x.bytes.now (x.at + size)))
unfolding text_ahead order_ahead closing_lines text_of order_after
ahead_of_next x after text size = go (dec_le (length r) at)
  where
    r : List ℕ
    r = x.bytes.now

    at : ℕ
    at = x.at + size

    Next : Type 0
    Next = (text_ahead (next_of x after text size) ≡ text_of r after (remaining r at))
        × (order_ahead (next_of x after text size) ≡ order_after r after (remaining r at))

    go : Dec (length r ≤ at) → Next
    go (yes h) = rw (le-ltb at (length r) h, remaining_end r at h) (refl, refl)
    go (no f) = rw (lt-ltb at (length r) (lt_of_not-le f), remaining_inside r at (lt_of_not-le f)) (
      sym (text_of_starting_from r after (commands_at r at)),
      sym (order_after_starting_from r after (commands_at r at)),
    )

lent_ahead_of_next : (x : Replay) (after : After) (text : Text) (size : ℕ) → lent_ahead (next_of x after text size)
    ≡ left_lent x (written text (text_of x.bytes.now after (remaining x.bytes.now (x.at + size))))
    (order_after x.bytes.now after (remaining x.bytes.now (x.at + size)))
unfolding lent_ahead
lent_ahead_of_next x after text size =
    let next = ahead_of_next x after text size in
    ap (λ (l : List ℕ). left_lent x (written text l) (order_ahead (next_of x after text size))) next.0
    ∙ ap (left_lent x (written text (text_of x.bytes.now after (remaining x.bytes.now (x.at + size))))) next.1

module _ (x : Replay) (bounds : InBounds x) (going : is_going x.progress ≡ true) where
  -- so far this stands and is to come
  lent_ahead_of_going : lent_ahead x
      ≡ left_lent x (written x.text.now (text_of x.bytes.now (state_and_storage x.state x.order.now) (commands_at x.bytes.now x.at)))
      (order_after x.bytes.now (state_and_storage x.state x.order.now) (commands_at x.bytes.now x.at))
  unfolding lent_ahead text_ahead order_ahead
  lent_ahead_of_going = rw going

  commands_left_of_going : commands_left x ≡ 60001 - x.at
  unfolding commands_left
  commands_left_of_going = rw going

  -- ---- a command that was read whole, of k bytes, and prints a line
  module _ (line : List ℕ) (after : After) (k : ℕ) (text : Text) (put : text ≡ written x.text.now line) (some : 0 < k)
      (inside : x.at + k ≤ length x.bytes.now) (short : length x.bytes.now ≤ 60000) (readable : TotalsReadable after.answer.state) where
    abbrev next_replay : Replay
    next_replay = next_of x after text k

    next_replay_in_bounds : InBounds next_replay
    next_replay_in_bounds = record {
      position_bound = omega arith;
      totals_readable = readable;
    }

    commands_left_of_next_lt : commands_left next_replay < commands_left x
    unfolding commands_left
    commands_left_of_next_lt = subst (λ (n : ℕ). commands_left next_replay < n) (sym commands_left_of_going) (go (ltb (x.at + k) (length x.bytes.now)))
      where
        go : (more : Bool) → pick (is_going (pick more Going Ended)) (60001 - (x.at + k)) 0 < 60001 - x.at
        go true = omega arith
        go false = omega arith

    stepped_of_line : text_of x.bytes.now (state_and_storage x.state x.order.now) (commands_at x.bytes.now x.at)
        ≡ line ++ text_of x.bytes.now after (remaining x.bytes.now (x.at + k))
        → order_after x.bytes.now (state_and_storage x.state x.order.now) (commands_at x.bytes.now x.at)
        ≡ order_after x.bytes.now after (remaining x.bytes.now (x.at + k))
        → Stepped x next_replay
    stepped_of_line e f = record { lent_same = same; in_bounds = next_replay_in_bounds; fewer_commands_left = commands_left_of_next_lt }
      where
        rest : List Command
        rest = remaining x.bytes.now (x.at + k)

        same : lent_ahead (next_of x after text k) ≡ lent_ahead x
        same =
            lent_ahead_of_next x after text k
            ∙ ap (λ (z : Text). left_lent x (written z (text_of x.bytes.now after rest)) (order_after x.bytes.now after rest)) put
            ∙ ap (λ (z : Text). left_lent x z (order_after x.bytes.now after rest)) (written_append x.text.now line (text_of x.bytes.now after rest))
            ∙ ap (λ (l : List ℕ). left_lent x (written x.text.now l) (order_after x.bytes.now after rest)) (sym e)
            ∙ ap (left_lent x (written x.text.now (text_of x.bytes.now (state_and_storage x.state x.order.now) (commands_at x.bytes.now x.at)))) (sym f)
            ∙ sym lent_ahead_of_going

  -- ---- a stop line
  stepped_of_stop_line : (number offset : ℕ) (new : List ℕ) (y : Replay) → text_of x.bytes.now
      (state_and_storage x.state x.order.now) (commands_at x.bytes.now x.at)
      ≡ stop_line number offset
      → order_after x.bytes.now (state_and_storage x.state x.order.now) (commands_at x.bytes.now x.at) ≡ new
      → y ≡ stop_of (with_left x x.state new x.text.now) number offset → Stepped x y
  unfolding lent_ahead text_ahead order_ahead closing_lines commands_left
  stepped_of_stop_line number offset new y e f is = subst (λ (z : Replay). Stepped x z) (sym is)
      (record { lent_same = same; in_bounds = stays; fewer_commands_left = fewer })
    where
      line : List ℕ
      line = stop_line number offset

      same : left_lent x (written (written x.text.now line) []) new ≡ lent_ahead x
      same =
          ap (λ (z : Text). left_lent x z new) (written_append x.text.now line [])
          ∙ ap (λ (l : List ℕ). left_lent x (written x.text.now l) new) (append-nil line ∙ sym e)
          ∙ ap (left_lent x (written x.text.now (text_of x.bytes.now (state_and_storage x.state x.order.now) (commands_at x.bytes.now x.at)))) (sym f)
          ∙ sym lent_ahead_of_going

      stays : InBounds (stop_of (with_left x x.state new x.text.now) number offset)
      stays = record {
        position_bound = bounds.position_bound;
        totals_readable = bounds.totals_readable;
      }

      fewer : 0 < commands_left x
      fewer = subst (λ (n : ℕ). 0 < n) (sym commands_left_of_going) (omega (arith, bounds.position_bound))

  -- ---- the commands
  -- a call keeps the totals and the setup numbers, so that the totals can be read after it too
  totals_readable_after_call : (c : Call) → TotalsReadable (call_of x.state x.order.now c).answer.state
  totals_readable_after_call c = (
    call_keeps_totals x.state x.order.now c bounds.totals_readable.0,
    subst (λ (u : Setup). u.processors ≤ 8) (sym (setup_kept_by_call x.state x.order.now c)) bounds.totals_readable.1,
  )

  -- a call's command in the record: where it ends, the commands after it, and what is printed and left
  pub stepped_of_call : (call : CallHeader) (addresses : List ℕ) (count : ℕ) → CallAt x.bytes.now x.at call addresses count
      → (a : Answer) (new : List ℕ) → record { answer = a; order = new } ≡ call_of x.state x.order.now (call_with call addresses)
      → (text : Text) → text ≡ written x.text.now (call_line call count a.outcome)
      → (n : ℕ) → n ≡ call_size call count → (y : Replay) → y ≡ past (with_left x a.state new text) n → Stepped x y
  unfolding text_of order_after
  stepped_of_call call addresses count c a new e text put n size_is y is =
      let first = c.first in
      let d = command.Call call count first in
      let k = call_size call count in
      let rest = remaining x.bytes.now (x.at + k) in
      let done = call_with call (addresses_in x.bytes.now first count) in
      let left : record { answer = a; order = new } ≡ call_of x.state x.order.now done =
      e ∙ ap (λ (l : List ℕ). call_of x.state x.order.now (call_with call l)) c.addresses_are in
      let commands = commands_call x.bytes.now x.at d c.command_is call count first refl in
      let inside-record = call_later_and_inside x.bytes.now x.at d c.command_is call count first refl in
      let readable = subst (λ (z : After). TotalsReadable z.answer.state) (sym left) (totals_readable_after_call done) in
      subst (λ (z : Replay). Stepped x z)
      (sym (is ∙ ap (past (with_left x a.state new text)) size_is))
      (stepped_of_line (call_line call count a.outcome) (record { answer = a; order = new }) k text put
      (omega (arith, call_byte_and_size call count)) inside-record.2 inside-record.0 readable
      (ap (text_of x.bytes.now (state_and_storage x.state x.order.now)) commands
      ∙ ap (λ (z : After). call_line call count z.answer.outcome ++ text_of x.bytes.now z rest) (sym left))
      (ap (order_after x.bytes.now (state_and_storage x.state x.order.now)) commands ∙ ap (λ (z : After). order_after x.bytes.now z rest) (sym left)))

  module _ (u : Setup) (c : command.Setup u.processors u.superblocks u.spare u.p u.q ≡ command_at x.bytes.now x.at)
      (a : Answer) (new : List ℕ) (e : record { answer = a; order = new } ≡ setup_of u x.order.now) (number : ℕ) (n : number ≡ number_of a.outcome) where
    setup_after : After
    setup_after = record { answer = a; order = new }

    setup_rest : List Command
    setup_rest = remaining x.bytes.now (x.at + 6)

    commands_at_setup : commands_at x.bytes.now x.at ≡ command.Setup u.processors u.superblocks u.spare u.p u.q ∷ setup_rest
    unfolding setup_rest
    commands_at_setup = commands_setup x.bytes.now x.at (command.Setup u.processors u.superblocks u.spare u.p u.q) c u.processors
        u.superblocks u.spare u.p u.q refl

    text_of_setup_command : text_of x.bytes.now (state_and_storage x.state x.order.now) (commands_at x.bytes.now x.at) ≡ pick (eqb number 0)
        (setup_line u ++ text_of x.bytes.now setup_after setup_rest) (stop_line number 0)
    unfolding text_of setup_text setup_after
    text_of_setup_command =
        ap (text_of x.bytes.now (state_and_storage x.state x.order.now)) commands_at_setup
        ∙ ap (λ (z : After). setup_text u z.answer.outcome (text_of x.bytes.now z setup_rest)) (sym e)
        ∙ ap (λ (m : ℕ). pick (eqb m 0) (setup_line u ++ text_of x.bytes.now setup_after setup_rest) (stop_line m 0)) (sym n)

    order_after_setup_command : order_after x.bytes.now (state_and_storage x.state x.order.now) (commands_at x.bytes.now x.at) ≡ pick (eqb number 0)
        (order_after x.bytes.now setup_after setup_rest) new
    unfolding order_after setup_after
    order_after_setup_command =
        ap (order_after x.bytes.now (state_and_storage x.state x.order.now)) commands_at_setup
        ∙ ap (λ (z : After). pick (eqb (number_of z.answer.outcome) 0) (order_after x.bytes.now z setup_rest) z.order) (sym e)
        ∙ ap (λ (m : ℕ). pick (eqb m 0) (order_after x.bytes.now setup_after setup_rest) new) (sym n)

    totals_readable_after_setup : TotalsReadable a.state
    totals_readable_after_setup = subst (λ (z : After). TotalsReadable z.answer.state) (sym e)
        (new_or_refused_setup_totals_kept u x.order.now, processors_after_setup_le_8 u x.order.now)

    pub stepped_of_setup : number ≡ 0 → (text : Text) → text ≡ written x.text.now (setup_line u)
        → (y : Replay) → y ≡ past (with_left x a.state new text) 6 → Stepped x y
    unfolding setup_after setup_rest
    stepped_of_setup zero text put y is =
        let inside-record = setup_first_and_inside x.bytes.now x.at (command.Setup u.processors u.superblocks u.spare u.p u.q) c u.processors
        u.superblocks u.spare u.p u.q refl in
        let yes : eqb number 0 ≡ true = eq-eqb number 0 zero in
        subst (λ (z : Replay). Stepped x z) (sym is)
        (stepped_of_line (setup_line u) setup_after 6 text put (omega arith) inside-record.2 inside-record.0 totals_readable_after_setup
        (text_of_setup_command ∙ rw yes)
        (order_after_setup_command ∙ rw yes))

    pub stepped_of_refused_setup : (number ≡ 0 → ⊥) → (y : Replay) → y ≡ stop_of (with_left x x.state new x.text.now) number 0 → Stepped x y
    stepped_of_refused_setup some y is =
        let no : eqb number 0 ≡ false = ne_eqb number 0 some in
        stepped_of_stop_line number 0 new y (text_of_setup_command ∙ rw no) (order_after_setup_command ∙ rw no) is

  pub stepped_of_refused_command : (number offset : ℕ) → command.Refused number offset ≡ command_at x.bytes.now x.at
      → (y : Replay) → y ≡ stop_of x number offset → Stepped x y
  unfolding text_of order_after
  stepped_of_refused_command number offset c y is =
      let commands = commands_refused x.bytes.now x.at (command.Refused number offset) number offset c refl in
      stepped_of_stop_line number offset x.order.now y (ap (text_of x.bytes.now (state_and_storage x.state x.order.now)) commands)
      (ap (order_after x.bytes.now (state_and_storage x.state x.order.now)) commands) is
