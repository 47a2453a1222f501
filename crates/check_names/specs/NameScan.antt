-- The check of names as one pass over them: each held name takes its block's mark out of the marks that are left. Assumes nothing.
use Rattle.std.specs.Prelude.{ℕ, ◌+◌, Bool, true, not, List, [], ◌∷◌, eqb}
use Rattle.base_laws.specs.Sums.{pick, both, one}
use Rattle.marks_rules.specs.Marks.{is_marked, without_mark}
use Rattle.names_rules.specs.Names.{not_held}

-- the block of each held name has a mark when the name is met
unfoldable pub each_has_a_mark : List ℕ → List ℕ → Bool
each_has_a_mark marks [] = true
each_has_a_mark marks (x ∷ names) =
    pick (eqb x not_held) (each_has_a_mark marks names) (both (is_marked marks x) (each_has_a_mark (without_mark marks x) names))

-- how many names are held
unfoldable pub held_count : List ℕ → ℕ
held_count [] = 0
held_count (x ∷ names) = one (not (eqb x not_held)) + held_count names
