-- The refusal of too few order places, which comes after that of the setup numbers. Assumes nothing.
use Rattle.std.proofs.Common.{◌≡◌, ℕ, ◌*◌, ◌<◌, Bool, true, List, length}
use borrow.Author.Tests.{lt-leb}
use Rattle.heap_rules.specs.declared.Setup.{Setup}
use Rattle.check_rules.specs.Check.{within_limits}
use Rattle.check_limits.specs.SetupRefusal.{setup_refusal}

pub setup_refusal_of_storage : (numbers : ℕ) (u : Setup) (order : List ℕ) (lawful : Bool) → lawful ≡ within_limits u → lawful ≡ true
    → length order < u.superblocks * 256 → 12 ≡ setup_refusal numbers u order
unfolding setup_refusal
setup_refusal_of_storage numbers u order lawful e f l = rw (← e, f, lt-leb (u.superblocks * 256) (length order) l)
