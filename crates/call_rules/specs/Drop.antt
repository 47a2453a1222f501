-- "Dropping a whole page" (document 02, item 5): "lets all blocks of a page go together".
use Rattle.std.specs.Prelude.{ℕ, zero, suc, ◌+◌, Bool, false, not, List, [], ◌∷◌, ◌++◌, length, eqb}
use Rattle.base_laws.specs.Sums.{pick, either}
use Rattle.class_rules.specs.Classes.{class_count}
use Rattle.refusal_rules.specs.Refusals.{no_such_processor, drop_empty}
use Rattle.heap_rules.specs.declared.State.{State}
use Rattle.heap_rules.specs.declared.Moved.{Moved}
use Rattle.heap_rules.specs.Counts.{belongs}
use Rattle.move_rules.specs.Moves.{invariant_restored}
use Rattle.call_rules.specs.Answers.{After, refused, checked, is_processor}
use Rattle.call_rules.specs.Free.{superblock_holding, address_refusal, block_freed, order_pushed}
use Rattle.call_rules.specs.declared.Outcome.TheVariants.{Moves}

-- ---- the frees, "in the order written"
-- "All blocks are freed first, in that order, and their names let go": each as a free does it
unfoldable pub all_freed : State → List ℕ → State
all_freed s [] = s
all_freed s (a ∷ addresses) = all_freed (block_freed s a) addresses

-- the order places after that
unfoldable pub all_pushed : State → List ℕ → List ℕ → List ℕ
all_pushed s order [] = order
all_pushed s order (a ∷ addresses) = all_pushed (block_freed s a) (order_pushed s order a) addresses

-- "the refusal of its first bad address": the first of 5, 6, 7 that "the frees one by one, in the order written, would meet", or 0 where they
-- meet none
unfoldable pub first_address_refusal : State → List ℕ → ℕ
first_address_refusal s [] = 0
first_address_refusal s (a ∷ addresses) = pick (eqb (address_refusal s a) 0) (first_address_refusal (block_freed s a) addresses) (address_refusal s a)

-- ---- "then each processor heap and class touched, heaps then classes rising, follows the move rule"
-- a block at one of the addresses is of heap h and class c
unfoldable pub is_touched : State → List ℕ → ℕ → ℕ → Bool
is_touched s [] h c = false
is_touched s (a ∷ addresses) h c = either (belongs h c (superblock_holding s a)) (is_touched s addresses h c)

-- after moves that came before: the move rule followed for heap h and class c, its moves added to theirs
unfoldable pub then_restored : ℕ → ℕ → Moved → Moved
then_restored h c before = record { moves = before.moves + (invariant_restored h c before.state).moves; state = (invariant_restored h c before.state).state }

-- a heap and a class
pub record Pair : Type 0 where
  pub heap : ℕ
  pub class : ℕ

-- "classes rising": the touched ones of heap h, of those below c
unfoldable pub touched_classes : (ℕ → ℕ → Bool) → ℕ → ℕ → List Pair
touched_classes touched h zero = []
touched_classes touched h (suc c) = touched_classes touched h c ++ pick (touched h c) (record { heap = h; class = c } ∷ []) []

-- "each processor heap and class touched, heaps then classes rising": those of the processor heaps 1 to n; heap 0 is none
unfoldable pub touched_pairs : (ℕ → ℕ → Bool) → ℕ → List Pair
touched_pairs touched zero = []
touched_pairs touched (suc h) = touched_pairs touched h ++ touched_classes touched (suc h) class_count

-- one after another
unfoldable pub each_restored : List Pair → Moved → Moved
each_restored [] before = before
each_restored (pair ∷ pairs) before = each_restored pairs (then_restored pair.heap pair.class before)

-- all of them after the frees; what is touched is told by the state before the drop
unfoldable pub drop_moves : State → List ℕ → Moved
drop_moves s addresses = each_restored (touched_pairs (is_touched s addresses) s.setup.processors) (record { moves = 0; state = all_freed s addresses })

-- ---- the call
-- an accepted drop reports the superblocks that all its moves passed on
unfoldable pub dropped_all : State → List ℕ → List ℕ → After
dropped_all s order addresses =
    record { answer = record { outcome = Moves (drop_moves s addresses).moves; state = (drop_moves s addresses).state }; order = all_pushed s order addresses }

-- a drop behind the check, on any state: 2; refusal 16, "count 0, right after 2"; "accepted only if the frees one by one, in the order written, would
-- meet none of 5, 6, 7"; "A refused drop frees nothing and gives the refusal of its first bad address."
unfoldable pub drop_unchecked : State → List ℕ → ℕ → List ℕ → After
drop_unchecked s order i addresses =
    pick (not (is_processor s i)) (refused no_such_processor s order)
    (pick (eqb (length addresses) 0) (refused drop_empty s order)
    (pick (eqb (first_address_refusal s addresses) 0) (dropped_all s order addresses)
    (refused (first_address_refusal s addresses) s order)))

unfoldable pub drop_of : State → List ℕ → ℕ → List ℕ → After
drop_of s order i addresses = checked s order (drop_unchecked s order i addresses)
