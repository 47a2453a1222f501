-- The totals that the bytes hold, from a position behind another. Assumes nothing.
use mathlib.Core.Path.{◌≡◌, ap, ap₂, ◌∙◌}
use mathlib.Core.List.{List}
use Prim.Native.Nat.{ℕ, ◌+◌, ◌*◌, ◌≤◌}
use native.Mathlib.Omega.{arith}
use lib.ListN.{length}
use Rattle.heap_rules.specs.declared.Totals.{Totals}
use Rattle.bytes_rules.specs.Bytes.{byte_at, two_at, position_after}
use Rattle.bytes_rules.proofs.PastEndLaws.{byte_at_past_end, two_at_past_end, read_at_position_after}
use Rattle.base_laws.specs.Lists.{listed}
use Rattle.heap_rules.specs.Totals.{total_count}
use Rattle.form_rules.specs.Form.{totals_in}
use Rattle.base_laws.proofs.ListedLaws.{listed_of_equal_elements}

-- past the end a byte reads as 0, and so does every total: the same for a position clamped to the end
pub byte_at_position_after : (b : List ℕ) (at i position v : ℕ) → position ≡ position_after b at i → v ≡ byte_at b position → v ≡ byte_at b (at + i)
byte_at_position_after b at i position v p e = e ∙ ap (λ (n : ℕ). byte_at b n) p ∙ read_at_position_after (λ (n : ℕ). byte_at b n) 0 b at i (byte_at_past_end b)

totals_in_past_end : (b : List ℕ) (j : ℕ) → length b ≤ j → record { superblocks = listed (λ x. 0) total_count; live = listed (λ x. 0) total_count }
    ≡ totals_in b j
unfolding totals_in
totals_in_past_end b j past =
    ap₂ (λ (superblocks live : List ℕ). record { superblocks = superblocks; live = live })
    (listed_of_equal_elements (λ x. 0) (λ x. byte_at b (j + x)) total_count (λ x. byte_at_past_end b (j + x) (omega arith)))
    (listed_of_equal_elements (λ x. 0) (λ x. two_at b (j + (total_count + 2 * x))) total_count
    (λ x. two_at_past_end b (j + (total_count + 2 * x)) (omega arith)))

pub totals_in_position_after : (b : List ℕ) (at i position : ℕ) (totals : Totals) → position ≡ position_after b at i → totals ≡ totals_in b position
    → totals ≡ totals_in b (at + i)
totals_in_position_after b at i position totals p e = e ∙ ap (totals_in b) p ∙ read_at_position_after (totals_in b) _ b at i (totals_in_past_end b)
