-- `key::print_key` is safe and ends: the key's bytes lie in the buffer. Assumes nothing.
use mathlib.Core.Path.{sym, ◌∙◌}
use Prim.Native.Nat.{ℕ}
use lib.ListN.{length-replicate}
use Rattle.key_laws.proofs.KeyOrNoRoomLaws.{key_text_counted, key_text_within_buffer}
use Rattle.key.proofs.print_key.Goals as goal

pub slice_bounds-key-end : goal.slice_bounds-key-end
slice_bounds-key-end c = sym (length-replicate {A = ℕ} 16384 0)

pub slice_bounds-key-end-2 : goal.slice_bounds-key-end-2
slice_bounds-key-end-2 c = sym (length-replicate {A = ℕ} 655360 0)

pub slice_bounds-print-end : goal.slice_bounds-print-end
slice_bounds-print-end c = sym (c.key.auto.out ∙ length-replicate {A = ℕ} 655360 0)

pub print-requires : goal.print-requires
print-requires c =
    (key_text_within_buffer _ _ _ _ _ _ _ c.key.ensures c.in-Some.is, key_text_counted _ _ _ _ _ _ _ c.key.ensures c.in-Some.is)
