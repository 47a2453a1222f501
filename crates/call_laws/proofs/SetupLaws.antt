-- Laws of a setup. Assumes nothing.
use mathlib.Core.Path.{◌≡◌, refl}
use mathlib.Core.List.{List}
use mathlib.Core.Bool.{Bool, true, false}
use Prim.Native.Nat.{ℕ, ◌*◌, ◌≤◌, ◌<◌}
use native.Mathlib.Omega.{arith}
use lib.ListN.{length}
use lib.Dec.{T, leb}
use borrow.Author.Tests.{le-leb, lt-leb}
use Rattle.base_laws.specs.Sums.{pick}
use Rattle.base_laws.proofs.TestLaws.{T_of_true}
use Rattle.order_rules.specs.Order.{cleared}
use Rattle.heap_rules.specs.declared.Setup.{Setup}
use Rattle.heap_rules.specs.States.{no_state, new_state}
use Rattle.check_rules.specs.Check.{within_limits}
use Rattle.heap_laws.proofs.StateFacts.{Sound, Shape}
use Rattle.heap_laws.proofs.StateCheckLaws.{new_state_sound, new_state_shape}
use Rattle.call_rules.specs.Answers.{refused}
use Rattle.call_rules.specs.Setup.{accepted_setup, setup_of}
use Rattle.call_rules.specs.declared.Outcome.TheVariants.{Ready, Refused}

-- a refused setup reports no success
refused_not_ready : (r : ℕ) → Refused r ≡ Ready → ⊥
refused_not_ready r e = let z : ◌≡◌ {A = ℕ} 0 1 = cc in omega arith

-- an accepted setup hands back a new state that is sound, and the storage with its first N × 256 places 0 and no other changed
pub accepted_setup_of_ready : (u : Setup) (order : List ℕ) → (setup_of u order).answer.outcome ≡ Ready → T (within_limits u)
    × (setup_of u order ≡ accepted_setup u order) × Sound (new_state u) (cleared order (u.superblocks * 256)) × Shape (new_state u)
unfolding setup_of
accepted_setup_of_ready u order e = go (within_limits u) (leb (u.superblocks * 256) (length order)) refl e
  where
    go : (a b : Bool) → within_limits u ≡ a → (pick a (pick b (accepted_setup u order) (refused 12 no_state order)) (refused 1 no_state order)).answer.outcome
        ≡ Ready
        → T (within_limits u) × (pick a (pick b (accepted_setup u order) (refused 12 no_state order)) (refused 1 no_state order) ≡ accepted_setup u order)
        × Sound (new_state u) (cleared order (u.superblocks * 256)) × Shape (new_state u)
    go true true f r =
        let t : T (within_limits u) = T_of_true (within_limits u) f in
        (t, refl, new_state_sound u (cleared order (u.superblocks * 256)) t, new_state_shape u)
    go true false f r = absurd (refused_not_ready 12 r)
    go false b f r = absurd (refused_not_ready 1 r)

-- a refused one gives 1 or 12, in that order, with five zeros and 64 unused superblocks, and the storage as it was
pub setup_refused_1_of_limits : (u : Setup) (order : List ℕ) → within_limits u ≡ false → setup_of u order ≡ refused 1 no_state order
unfolding setup_of
setup_refused_1_of_limits u order e = rw e

pub setup_refused_12_of_storage : (u : Setup) (order : List ℕ) → within_limits u ≡ true → length order < u.superblocks * 256
    → setup_of u order ≡ refused 12 no_state order
unfolding setup_of
setup_refused_12_of_storage u order e l = rw (e, lt-leb (u.superblocks * 256) (length order) l)

pub setup_accepted_of_limits_and_storage : (u : Setup) (order : List ℕ) → within_limits u ≡ true → u.superblocks * 256 ≤ length order
    → setup_of u order ≡ accepted_setup u order
unfolding setup_of
setup_accepted_of_limits_and_storage u order e l = rw (e, le-leb (u.superblocks * 256) (length order) l)
