-- A take and a free on a state that passes are those behind the check, and are refused by the first refusal that applies, in
-- document 01's order. Assumes nothing.
use mathlib.Core.Path.{◌≡◌, ◌∙◌}
use mathlib.Core.Bool.{true, false}
use mathlib.Core.List.{List}
use Prim.Native.Nat.{ℕ}
use Rattle.class_rules.specs.Classes.{class_of, is_long, run_length, is_too_large}
use Rattle.heap_rules.specs.declared.State.{State}
use Rattle.choice_rules.specs.Choice.{fullest}
use Rattle.choice_rules.specs.RunChoice.{lowest_run}
use Rattle.call_rules.specs.Answers.{refused, is_processor}
use Rattle.call_rules.specs.LongBlocks.{long_taken_at}
use Rattle.call_rules.specs.Take.{other_places, taken_at, take_unchecked, take_of}
use Rattle.call_rules.specs.Free.{is_unmapped, is_misaligned, is_live_at, freed_at, free_unchecked, free_of}
use Rattle.call_laws.proofs.CallEffects.{Passed}
use Rattle.call_laws.proofs.CheckedLaws.{checked_is_next_of_passed}

module _ (s : State) (order : List ℕ) (i : ℕ) (passed : Passed s order) where
  pub take_is_unchecked : (size : ℕ) → take_of s order i size ≡ take_unchecked s order i size
  unfolding take_of
  take_is_unchecked size = checked_is_next_of_passed s order _ passed

  pub free_is_unchecked : (a : ℕ) → free_of s order i a ≡ free_unchecked s order i a
  unfolding free_of
  free_is_unchecked a = checked_is_next_of_passed s order _ passed

  -- "then take 2, 3, 4", and for a long size 17 in place of 4 (document 02, item 7)
  pub take_refused_2_of_processor : (size : ℕ) → is_processor s i ≡ false → take_of s order i size ≡ refused 2 s order
  unfolding take_unchecked
  take_refused_2_of_processor size e = take_is_unchecked size ∙ rw e

  pub take_refused_3_of_too_large : (size : ℕ) → is_processor s i ≡ true → is_too_large size ≡ true → take_of s order i size ≡ refused 3 s order
  unfolding take_unchecked
  take_refused_3_of_too_large size e f = take_is_unchecked size ∙ rw (e, f)

  pub take_of_class_size : (size : ℕ) → is_processor s i ≡ true → is_too_large size ≡ false → is_long size ≡ false
      → take_of s order i size ≡ taken_at i (class_of size) s order (fullest i (class_of size) s) (other_places (class_of size) s)
  unfolding take_unchecked
  take_of_class_size size e f g = take_is_unchecked size ∙ rw (e, f, g)

  pub take_of_long_size : (size : ℕ) → is_processor s i ≡ true → is_too_large size ≡ false → is_long size ≡ true
      → take_of s order i size ≡ long_taken_at (run_length size) s order (lowest_run (run_length size) s)
  unfolding take_unchecked
  take_of_long_size size e f g = take_is_unchecked size ∙ rw (e, f, g)

  -- "and free 2, 5, 6, 7"
  pub free_refused_2_of_processor : (a : ℕ) → is_processor s i ≡ false → free_of s order i a ≡ refused 2 s order
  unfolding free_unchecked
  free_refused_2_of_processor a e = free_is_unchecked a ∙ rw e

  module _ (a : ℕ) (known : is_processor s i ≡ true) where
    pub free_refused_5_of_unmapped : is_unmapped s a ≡ true → free_of s order i a ≡ refused 5 s order
    unfolding free_unchecked
    free_refused_5_of_unmapped e = free_is_unchecked a ∙ rw (known, e)

    pub free_refused_6_of_misaligned : is_unmapped s a ≡ false → is_misaligned s a ≡ true → free_of s order i a ≡ refused 6 s order
    unfolding free_unchecked
    free_refused_6_of_misaligned e f = free_is_unchecked a ∙ rw (known, e, f)

    pub free_refused_7_of_not_live : is_unmapped s a ≡ false → is_misaligned s a ≡ false → is_live_at s a ≡ false → free_of s order i a ≡ refused 7 s order
    unfolding free_unchecked
    free_refused_7_of_not_live e f g = free_is_unchecked a ∙ rw (known, e, f, g)

    pub free_of_live_block : is_unmapped s a ≡ false → is_misaligned s a ≡ false → is_live_at s a ≡ true → free_of s order i a ≡ freed_at s order a
    unfolding free_unchecked
    free_of_live_block e f g = free_is_unchecked a ∙ rw (known, e, f, g)
