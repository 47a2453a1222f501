-- The four places, in the forms that the code's proofs ask. Assumes nothing.
use Rattle.std.proofs.Common.{Option, Some, None}
use mathlib.Core.Path.{◌≡◌, refl, sym, ap, ◌∙◌}
use mathlib.Core.List.{List}
use Prim.Native.Nat.{ℕ, ◌<◌}
use native.Mathlib.Decide.{dec_lt}
use native.Mathlib.Omega.{arith}
use lib.ListN.{length, get_or-eq_default}
use Rattle.base_laws.proofs.ReplacedElement.{length_of_length_map}
use Rattle.heap_rules.specs.declared.Superblock.{Superblock}
use Rattle.heap_rules.specs.declared.State.{State}
use Rattle.heap_rules.specs.Table.{blank, superblock_at}
use Rattle.choice_rules.specs.Choice.{fullest, lowest_empty, lowest_unused, or_else}
use Rattle.heap_laws.proofs.ChoiceLaws.{best_of_fullest, best_of_lowest_empty, best_of_lowest_unused}
use Rattle.heap_laws.proofs.StateCheckLaws.{facts_of_is_unused}
use Rattle.call_rules.specs.declared.Answer.{Answer}
use Rattle.call_rules.specs.declared.Outcome.TheVariants.{Refused}
use Rattle.call_rules.specs.Answers.{After}
use Rattle.call_rules.specs.Take.{other_places, taken_from, taken_from_other, taken_at}

-- a superblock found is one of the table's 64: past the table's end nothing is unused
lowest_unused_lt_64 : (s : State) (k : ℕ) → length s.table ≡ 64 → lowest_unused s ≡ Some k → k < 64
lowest_unused_lt_64 s k long e = go (dec_lt k 64)
  where
    go : Dec (k < 64) → k < 64
    go (yes h) = h
    go (no f) =
        let unused-owner = (facts_of_is_unused (superblock_at s k) (best_of_lowest_unused s k e).meets_criterion_lem).owner in
        let past : superblock_at s k ≡ blank = get_or-eq_default s.table blank {n = k} (omega arith) in
        omega (arith, ap (λ (b : Superblock). b.owner) past)

pub fullest_lt_64 : (h c : ℕ) (s : State) (a : Option ℕ) (k : ℕ) → a ≡ fullest h c s → a ≡ Some k → k < 64
fullest_lt_64 h c s a k e f = (best_of_fullest h c s k (sym e ∙ f)).below

pub other_places_lt_64 : (c : ℕ) (s : State) (a : Option ℕ) (k : ℕ) → length s.table ≡ 64 → a ≡ other_places c s → a ≡ Some k → k < 64
unfolding other_places
other_places_lt_64 c s a k long e f = go (fullest 0 c s) refl (lowest_empty s) refl (lowest_unused s) refl (sym f ∙ e)
  where
    go : (x : Option ℕ) → x ≡ fullest 0 c s → (y : Option ℕ) → y ≡ lowest_empty s → (z : Option ℕ) → z ≡ lowest_unused s
        → Some k ≡ or_else x (or_else y z) → k < 64
    go (Some i) p y q z r w = fullest_lt_64 0 c s (Some i) k p (sym w)
    go None p (Some i) q z r w = (best_of_lowest_empty s k (sym q ∙ sym w)).below
    go None p None q z r w = lowest_unused_lt_64 s k long (sym r ∙ sym w)

-- so its number fits a byte
pub fullest_lt_256 : (h c : ℕ) (s : State) (a : Option ℕ) (k : ℕ) → a ≡ fullest h c s → a ≡ Some k → k < 256
fullest_lt_256 h c s a k e f = omega (arith, fullest_lt_64 h c s a k e f)

pub other_places_lt_256 : (c : ℕ) (s : State) (a : Option ℕ) (k : ℕ) → length s.table ≡ 64 → a ≡ other_places c s → a ≡ Some k → k < 256
other_places_lt_256 c s a k long e f = omega (arith, other_places_lt_64 c s a k long e f)

-- what a take answers
pub taken_at_of_own : (h c : ℕ) (s : State) (order : List ℕ) (own : Option ℕ) (k : ℕ) (after : After) → own ≡ fullest h c s → own ≡ Some k
    → after ≡ taken_from k s order
    → after ≡ taken_at h c s order (fullest h c s) (other_places c s)
unfolding taken_at
taken_at_of_own h c s order own k after e f g = g ∙ rw (← e, f)

pub taken_at_of_no_own : (h c : ℕ) (s : State) (order : List ℕ) (own : Option ℕ) (after : After) → own ≡ fullest h c s → own ≡ None
    → after ≡ taken_at h c s order None (other_places c s)
    → after ≡ taken_at h c s order (fullest h c s) (other_places c s)
taken_at_of_no_own h c s order own after e f g = g ∙ ap (λ (x : Option ℕ). taken_at h c s order x (other_places c s)) (sym f ∙ e)

pub taken_at_of_other : (h c : ℕ) (s : State) (order : List ℕ) (other : Option ℕ) (k : ℕ) (after : After) → other ≡ other_places c s → other ≡ Some k
    → after ≡ taken_from_other h c k s order
    → after ≡ taken_at h c s order None (other_places c s)
unfolding taken_at
taken_at_of_other h c s order other k after e f g = g ∙ rw (← e, f)

pub taken_at_of_nothing_offered : (h c : ℕ) (s : State) (order : List ℕ) (other : Option ℕ) (number : ℕ) (r : Answer) → other ≡ other_places c s
    → other ≡ None → number ≡ 4 → r ≡ record { outcome = Refused number; state = s }
    → record { answer = r; order = order } ≡ taken_at h c s order None (other_places c s)
unfolding taken_at
taken_at_of_nothing_offered h c s order other number r e f n g = ap (λ (x : Answer). record { answer = x; order = order }) g ∙ rw (← e, f, n)

-- how a proof finds which of them it asks
pub ruleset taken_at_own_rules = (taken_at_of_own, taken_at_of_no_own)

-- what closes the goals of take_elsewhere
pub ruleset take_elsewhere_rules = (length_of_length_map, other_places_lt_64, other_places_lt_256, taken_at_of_other, taken_at_of_nothing_offered)
