-- The setup numbers: what the last test of them comes to where all before it pass. Assumes nothing.
use Rattle.std.proofs.Common.{◌≡◌, ◌≤◌, ◌<◌, Bool, true, sym, ◌∙◌}
use borrow.Author.Tests.{le-leb, lt-ltb}
use Rattle.heap_rules.specs.declared.Setup.{Setup}
use Rattle.check_rules.specs.Check.{within, within_limits}

pub within_limits_is_q_test : (u : Setup) (a b d r : Bool) → a ≡ within 1 8 u.processors → a ≡ true → b ≡ within 1 64 u.superblocks
    → b ≡ true → d ≡ within 1 16 u.spare → d ≡ true
    → 1 ≤ u.p → u.p < u.q → r ≡ within 2 8 u.q → r ≡ within_limits u
unfolding within_limits
within_limits_is_q_test u a b d r e e' f f' g g' p q h =
    h ∙ sym (simp (sym e ∙ e', sym f ∙ f', sym g ∙ g', le-leb 1 u.p p, lt-ltb u.p u.q q))
