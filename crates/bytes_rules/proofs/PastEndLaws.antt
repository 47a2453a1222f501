-- Past the end of the bytes every number is 0, so that all positions there read the same. Assumes nothing.
use mathlib.Core.Path.{◌≡◌, refl, sym, ap, ◌∙◌}
use mathlib.Core.List.{List}
use Prim.Native.Nat.{ℕ, ◌+◌, ◌≤◌}
use native.Mathlib.Nat.{le_refl}
use native.Mathlib.Omega.{arith}
use borrow.Author.Tests.{ltb-false}
use lib.ListN.{length, get_or-eq_default}
use lib.Dec.{ltb}
use Rattle.base_laws.proofs.TestLaws.{pick_elim}
use Rattle.bytes_rules.specs.Bytes.{byte_at, two_at, four_at, eight_at, position_after}
-- the computed cases come first: a wrong definition fails there
use Rattle.bytes_rules.proofs.LittleEndianCases as cases

pub byte_at_past_end : (r : List ℕ) (i : ℕ) → length r ≤ i → 0 ≡ byte_at r i
byte_at_past_end r i past = sym (get_or-eq_default r 0 past)

pub two_at_past_end : (r : List ℕ) (i : ℕ) → length r ≤ i → 0 ≡ two_at r i
two_at_past_end r i past = omega (arith, byte_at_past_end r i past, byte_at_past_end r (i + 1) (omega arith))

pub four_at_past_end : (r : List ℕ) (i : ℕ) → length r ≤ i → 0 ≡ four_at r i
four_at_past_end r i past = omega (arith, two_at_past_end r i past, two_at_past_end r (i + 2) (omega arith))

pub eight_at_past_end : (r : List ℕ) (i : ℕ) → length r ≤ i → 0 ≡ eight_at r i
eight_at_past_end r i past = omega (arith, four_at_past_end r i past, four_at_past_end r (i + 4) (omega arith))

-- ---- a position after another
-- what is the same at all positions past the end is so at a position and at the one clamped to the end
pub read_at_position_after : {A : Type 0} (f : ℕ → A) (z : A) (r : List ℕ) (at i : ℕ) → ((j : ℕ) → length r ≤ j → z ≡ f j) → f (position_after r at i)
    ≡ f (at + i)
unfolding position_after
read_at_position_after f z r at i past =
    pick_elim (λ (n : ℕ). f n ≡ f (at + i)) (ltb (at + i) (length r)) (at + i) (length r)
    (λ e. refl)
    (λ e. sym (past (length r) (le_refl (length r))) ∙ past (at + i) (ltb-false (at + i) (length r) e))

pub two_at_position_after : (r : List ℕ) (at i position v : ℕ) → position ≡ position_after r at i → v ≡ two_at r position → v ≡ two_at r (at + i)
two_at_position_after r at i position v p e = e ∙ ap (λ (n : ℕ). two_at r n) p ∙ read_at_position_after (λ (n : ℕ). two_at r n) 0 r at i (two_at_past_end r)

pub four_at_position_after : (r : List ℕ) (at i position v : ℕ) → position ≡ position_after r at i → v ≡ four_at r position → v ≡ four_at r (at + i)
four_at_position_after r at i position v p e = e ∙ ap (λ (n : ℕ). four_at r n) p ∙ read_at_position_after (λ (n : ℕ). four_at r n) 0 r at i (four_at_past_end r)
