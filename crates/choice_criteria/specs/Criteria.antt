-- What each choice of a superblock looks for. Assumes nothing.
use Rattle.std.specs.Prelude.{Bool, true, ℕ, eqb, ltb}
use Rattle.class_rules.specs.Classes.{blocks_of}
use Rattle.heap_rules.specs.declared.Superblock.{Superblock}
use Rattle.heap_rules.specs.Table.{unused_owner, is_unused}
use Rattle.heap_rules.specs.Counts.{belongs}
use Rattle.choice_rules.specs.Choice.{has_free, empty_in_global}
use Rattle.choice_criteria.specs.declared.Criterion.{Criterion}
use Rattle.choice_criteria.specs.declared.Criterion.TheVariants.{HasFree, Belongs, Empty, Unused}

-- places 1 and 2 of a take, the emptiest of a heap and class, place 3, place 4
unfoldable pub meets_criterion : Criterion → Superblock → Bool
meets_criterion (HasFree h c) = has_free h c
meets_criterion (Belongs h c) = belongs h c
meets_criterion Empty = empty_in_global
meets_criterion Unused = is_unused

-- ---- meets_criterion by numbers, in the order of the code (the law meets_by_parts says that it is the same)
-- owner, class and live count of a superblock that meets the criterion
unfoldable pub owner_sought : Criterion → ℕ
owner_sought (HasFree h c) = h
owner_sought (Belongs h c) = h
owner_sought Empty = 0
owner_sought Unused = unused_owner

unfoldable pub class_fits : Criterion → ℕ → Bool
class_fits (HasFree h c) x = eqb x c
class_fits (Belongs h c) x = eqb x c
class_fits Empty x = true
class_fits Unused x = eqb x 0

unfoldable pub live_fits : Criterion → ℕ → Bool
live_fits (HasFree h c) live = ltb live (blocks_of c)
live_fits (Belongs h c) live = true
live_fits Empty live = eqb live 0
live_fits Unused live = eqb live 0
