-- The names that the bytes hold, from a position behind another. Assumes nothing.
use mathlib.Core.Path.{◌≡◌, ap, ◌∙◌}
use mathlib.Core.List.{List}
use Prim.Native.Nat.{ℕ, ◌+◌, ◌*◌, ◌≤◌}
use native.Mathlib.Omega.{arith}
use lib.ListN.{length}
use Rattle.bytes_rules.specs.Bytes.{two_at, position_after}
use Rattle.bytes_rules.proofs.PastEndLaws.{two_at_past_end, read_at_position_after}
use Rattle.base_laws.specs.Lists.{listed}
use Rattle.form_rules.specs.Form.{names_in}
use Rattle.base_laws.proofs.ListedLaws.{listed_of_equal_elements}

-- past the end every name reads as 0, so that a position clamped to the end has the same names
names_in_past_end : (b : List ℕ) (j : ℕ) → length b ≤ j → listed (λ m. 0) 1024 ≡ names_in b j
unfolding names_in
names_in_past_end b j past = listed_of_equal_elements (λ m. 0) (λ m. two_at b (j + 2 * m)) 1024 (λ m. two_at_past_end b (j + 2 * m) (omega arith))

pub names_in_position_after : (b : List ℕ) (at i position : ℕ) (names : List ℕ) → position ≡ position_after b at i → names ≡ names_in b position
    → names ≡ names_in b (at + i)
names_in_position_after b at i position names p e = e ∙ ap (names_in b) p ∙ read_at_position_after (names_in b) _ b at i (names_in_past_end b)
