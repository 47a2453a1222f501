-- `key_replay::key` meets its contract. Assumes nothing.
use mathlib.Core.Path.{refl, sym, ap, ◌∙◌}
use native.Mathlib.Omega.{arith}
use Rattle.text_writer.specs.declared.Text.{Text}
use Rattle.key_replay.proofs.ReplayLoopLaws.{in_bounds_at_start, all_put, key_in_text, same_text, same_buffer, same_storage, key_written_from_start}
use Rattle.key_replay.proofs.ReplayLoopLaws.{key_or_no_room_of_short_buffer}
use borrow.Author.Rules.{rules}
use Rattle.key_replay.proofs.key.Goals as goal

pub returns-then-out-lt-ROOM : goal.returns-then-out-lt-ROOM
returns-then-out-lt-ROOM c = search (rules, key_or_no_room_of_short_buffer)

pub run-requires : goal.run-requires
run-requires c = in_bounds_at_start _ c.no_state.ensures refl

pub returns : goal.returns
returns c =
    let y = c.close.new.self in
    let new = c.new-text.ensures in
    let ran = c.run.ensures in
    let is = key_in_text _ y c.no_state.ensures refl refl (all_put _ c.run.new.self y _ ran.same ran.done c.is_stopped-stopped.ensures c.close.ensures) in
    let let_go = c.text-2-1.given.1 (sym (same_text _ _ _ y is)) in
    key_written_from_start _ _ _ y is _ _ _ _
    (λ i. omega (arith, c.type_inv.bytes i))
    (omega arith)
    (ap (λ (t : Text). t.buffer.now) new)
    (ap (λ (t : Text). t.end) new)
    let_go
    (c.out-1.given.1.1 (sym (ap (λ (t : Text). t.buffer.ghost_name) let_go ∙ same_buffer _ _ _ y is ∙ ap (λ (t : Text). t.buffer.ghost_name) new)))
    (c.order-1.given.1.1 (sym (same_storage _ _ _ y is)))
