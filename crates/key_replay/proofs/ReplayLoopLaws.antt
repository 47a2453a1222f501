-- The loop over the commands, from the first to the end of the key. Assumes nothing.
use mathlib.Core.Path.{◌≡◌, refl, sym, ap, ◌∙◌, subst}
use mathlib.Core.Bool.{Bool, true, false}
use mathlib.Core.List.{List}
use Rattle.std.specs.Borrow.{MutBor}
use Rattle.std.specs.Prelude.{Some, None}
use Prim.Native.Nat.{ℕ, ◌+◌, ◌≤◌, ◌<◌}
use native.Mathlib.Omega.{arith}
use lib.ListN.{length}
use Rattle.text_rules.specs.Text.{pasted}
use Rattle.text_rules.proofs.PasteLaws.{put_end, put_upto, put_behind}
use Rattle.text_writer.specs.declared.Text.{Text}
use Rattle.text_writer.specs.Written.{written}
use Rattle.heap_rules.specs.States.{no_state}
use Rattle.heap_laws.proofs.TotalsLaws.{new_state_totals_kept}
use Rattle.bytes_rules.specs.Bytes.{byte_at}
use Rattle.record_rules.specs.Record.{commands_of}
use Rattle.line_rules.specs.Lines.{closing_lines}
use Rattle.key_replay.specs.declared.Replay.{Replay}
use Rattle.key_rules.specs.Key.{key_of, storage_of, room, KeyOrNoRoom}
use Rattle.key_replay.specs.Steps.{Lent, lent, text_ahead, order_ahead, lent_ahead, key_lent, TotalsReadable, InBounds}
use Rattle.key_replay.specs.Steps.{is_going, is_stopped, closed}
use Rattle.key_laws.proofs.KeyRoomLaws.{key_fits_room}

-- ---- before the first command
lent_ahead_at_start : (x : Replay) → x.state ≡ no_state → x.at ≡ 0 → is_going x.progress ≡ true → lent_ahead x ≡ key_lent x.bytes.now x.order x.text
unfolding lent_ahead text_ahead order_ahead key_lent key_of storage_of commands_of
lent_ahead_at_start x none first going = rw (none, first, going) refl

pub in_bounds_at_start : (x : Replay) → x.state ≡ no_state → x.at ≡ 0 → InBounds x
in_bounds_at_start x none first = record {
  position_bound = omega arith;
  totals_readable = subst TotalsReadable (sym none) (new_state_totals_kept no_state.setup, omega arith);
}

-- ---- after the last command
-- the closing lines are all that is still to come
closing_lines_ahead : (x : Replay) → is_going x.progress ≡ false
    → lent_ahead x ≡ record { text = record x.text { now = written x.text.now (closing_lines (is_stopped x.progress) x.state) }; order = x.order }
unfolding lent_ahead text_ahead order_ahead
closing_lines_ahead x done = rw done refl

pub all_put : (x y z : Replay) (stopped : Bool) → lent_ahead y ≡ lent_ahead x → is_going y.progress ≡ false → stopped ≡ is_stopped y.progress
    → lent z ≡ closed stopped y → lent z ≡ lent_ahead x
all_put x y z stopped same done stop put = put ∙ ap (λ (b : Bool). closed b y) stop ∙ sym (closing_lines_ahead y done) ∙ same

-- the whole key put to the text of a replay that starts
pub key_in_text : (x y : Replay) → x.state ≡ no_state → x.at ≡ 0 → is_going x.progress ≡ true → lent y ≡ lent_ahead x
    → lent y ≡ key_lent x.bytes.now x.order x.text
key_in_text x y none first going all = all ∙ lent_ahead_at_start x none first going

-- what was lent is what was handed in, and a text started it, which lets it go with the key in it
module _ (r : List ℕ) (order : MutBor (List ℕ)) (t : MutBor Text) (y : Replay) (is : lent y ≡ key_lent r order t) where
  pub same_text : y.text.ghost_name ≡ t.ghost_name
  unfolding key_lent
  same_text = ap (λ (z : Lent). z.text.ghost_name) is

  pub same_storage : y.order.ghost_name ≡ order.ghost_name
  unfolding key_lent
  same_storage = ap (λ (z : Lent). z.order.ghost_name) is

  pub same_buffer : y.text.now.buffer.ghost_name ≡ t.now.buffer.ghost_name
  unfolding key_lent written
  same_buffer = ap (λ (z : Lent). z.text.now.buffer.ghost_name) is

  pub key_written_from_start : (out new left : List ℕ) (last : Text) → ((i : ℕ) → byte_at r i < 256) → room ≤ length out
      → t.now.buffer.now ≡ out → t.now.end ≡ 0 → last ≡ y.text.now → left ≡ last.buffer.now → new ≡ y.order.now
      → KeyOrNoRoom r order.now out (Some last.end) new left
  unfolding KeyOrNoRoom key_lent written
  key_written_from_start out new left last bytes big lent start text_let_go buffer_let_go order_let_go =
      let key = key_of r order.now in
      let put : last ≡ written t.now key = text_let_go ∙ ap (λ (z : Lent). z.text.now) is in
      let all : record { end = last.end; buffer = left } ≡ pasted out 0 key = rw (buffer_let_go, put, lent, start) refl in
      let fits : 0 + length key ≤ length out = omega (arith, key_fits_room r order.now bytes) in (
        big,
        record {
          text = put_upto out 0 key all fits;
          count = omega (arith, put_end out 0 key all fits);
          behind = put_behind out 0 key all fits;
          storage = order_let_go ∙ ap (λ (z : Lent). z.order.now) is;
        },
      )

pub key_or_no_room_of_short_buffer : (r order out : List ℕ) (n : ℕ) → length out < n → n ≤ 655360 → KeyOrNoRoom r order out None order out
unfolding KeyOrNoRoom
key_or_no_room_of_short_buffer r order out n small few = (omega arith, refl, refl)
