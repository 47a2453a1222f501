-- Each answer by document 01's number and values. Assumes nothing.
use mathlib.Core.Path.{◌≡◌, refl}
use mathlib.Core.List.{List, [], ◌∷◌}
use Prim.Native.Nat.{ℕ, ◌*◌}
use Rattle.class_rules.specs.Classes.{class_of}
use Rattle.heap_rules.specs.declared.State.{State}
use Rattle.heap_laws.proofs.StateFacts.{Shape}
use Rattle.call_rules.specs.declared.Outcome.{Outcome}
use Rattle.call_rules.specs.Answers.{refused, number_of, values_of}
use Rattle.call_rules.specs.Take.{address_of, take_of}
use Rattle.call_rules.specs.Free.{free_of}
use Rattle.call_laws.proofs.CallEffects.{TakeAccepted, LongTakeAccepted, FreeAccepted, LongFreeAccepted}
use Rattle.call_laws.proofs.TakeLaws.{taken_block, take_address}
use Rattle.call_laws.proofs.RunTakenLaws.{long_take_address}
use Rattle.call_laws.proofs.FreeLaws.{moves, free_outcome, long_free_outcome}

-- the number and the values of an outcome
pub record HasNumberAndValues (outcome : Outcome) (number : ℕ) (values : List ℕ) : Type 0 where
  pub number_is : number_of outcome ≡ number
  pub values_are : values_of outcome ≡ values

-- "A refusal carries its number alone, with no address and no moves"
pub refused_number_and_values : (r : ℕ) (s : State) (order : List ℕ) → HasNumberAndValues (refused r s order).answer.outcome r []
unfolding number_of values_of
refused_number_and_values r s order = record { number_is = refl; values_are = refl }

-- an accepted take: its address
pub take_number_and_values : (s : State) (order : List ℕ) (i size k : ℕ) (shape : Shape s) (acc : TakeAccepted s order i size k)
    → HasNumberAndValues (take_of s order i size).answer.outcome 0 (address_of k (class_of size) (taken_block s order i size k shape acc) ∷ [])
unfolding number_of values_of
take_number_and_values s order i size k shape acc = rw (take_address s order i size k shape acc) (record { number_is = refl; values_are = refl })

-- of a long block, "the start of the run" (document 02, item 7)
pub long_take_number_and_values : (s : State) (order : List ℕ) (i size k : ℕ) (shape : Shape s) (acc : LongTakeAccepted s order i size k)
    → HasNumberAndValues (take_of s order i size).answer.outcome 0 (k * 4096 ∷ [])
unfolding number_of values_of
long_take_number_and_values s order i size k shape acc = rw (long_take_address s order i size k shape acc) (record { number_is = refl; values_are = refl })

-- an accepted free: its moves
pub free_number_and_values : (s : State) (order : List ℕ) (i a : ℕ) (shape : Shape s) (acc : FreeAccepted s order i a)
    → HasNumberAndValues (free_of s order i a).answer.outcome 0 (moves s order i a shape acc ∷ [])
unfolding number_of values_of
free_number_and_values s order i a shape acc = rw (free_outcome s order i a shape acc) (record { number_is = refl; values_are = refl })

-- of a long block: "Its free line has moved 0" (document 02, item 7)
pub long_free_number_and_values : (s : State) (order : List ℕ) (i a : ℕ) (shape : Shape s) (acc : LongFreeAccepted s order i a)
    → HasNumberAndValues (free_of s order i a).answer.outcome 0 (0 ∷ [])
unfolding number_of values_of
long_free_number_and_values s order i a shape acc = rw (long_free_outcome s order i a shape acc) (record { number_is = refl; values_are = refl })
