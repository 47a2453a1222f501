-- Document 02, item 1: a take of size 0. Assumes nothing.
use mathlib.Core.Path.{◌≡◌, refl, subst}
use mathlib.Core.List.{List}
use Prim.Native.Nat.{ℕ}
use native.Mathlib.Omega.{arith}
use Rattle.class_rules.specs.Classes.{sizes, size_of, first_at_least, class_of, is_long, is_too_large}
use Rattle.class_rules.proofs.ClassLaws.{class_of_size_0}
use Rattle.heap_rules.specs.declared.State.{State}
use Rattle.heap_laws.proofs.StateFacts.{Shape}
use Rattle.call_rules.specs.declared.Outcome.TheVariants.{Refused}
use Rattle.call_rules.specs.Take.{take_unchecked, take_of}
use Rattle.call_rules.specs.Calls.{Take, call_of}
use Rattle.call_laws.proofs.CallEffects.{TakeAccepted, TakeEffect}
use Rattle.call_laws.proofs.TakeLaws.{taken_block, take_effect}
use Rattle.call_laws.proofs.RefusalConditions.{take_never_refused_3}

-- "The controllers' C library turns a size of 0 into the smallest block": a take of size 0 is a take of the smallest block's size, on every state
-- and storage
pub take_of_size_0 : (s : State) (order : List ℕ) (i : ℕ) → call_of s order (Take i 0) ≡ call_of s order (Take i (size_of 0))
unfolding call_of take_of take_unchecked is_too_large is_long size_of sizes class_of first_at_least
take_of_size_0 s order i = refl

-- "Size 0 now takes class 0": an accepted one, on a state of 64 superblocks, takes a block of a superblock of class 0, with all that a take does
pub size_0_takes_class_0 : (s : State) (order : List ℕ) (i k : ℕ) (shape : Shape s) (acc : TakeAccepted s order i 0 k)
    → TakeEffect i 0 k (taken_block s order i 0 k shape acc) s (take_of s order i 0).answer.state
size_0_takes_class_0 s order i k shape acc =
    subst (λ (c : ℕ). TakeEffect i c k (taken_block s order i 0 k shape acc) s (take_of s order i 0).answer.state) class_of_size_0
    (take_effect s order i 0 k shape acc)

-- no size of 16 bits meets refusal 3, and so size 0 does not
pub size_0_not_refused_3 : (s : State) (order : List ℕ) (i : ℕ) → (take_of s order i 0).answer.outcome ≡ Refused 3 → ⊥
size_0_not_refused_3 s order i = take_never_refused_3 s order i 0 (omega arith)
