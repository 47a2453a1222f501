-- Which superblocks the four places of a take offer, as facts on one superblock; the four choices find nothing exactly if none of the 64 is offered.
-- Assumes nothing.
use Rattle.std.specs.Prelude.{None}
use mathlib.Core.Path.{◌≡◌}
use mathlib.Core.Logic.{◌↔◌}
use Prim.Native.Nat.{ℕ, ◌≤◌, ◌<◌}
use native.Mathlib.Omega.{arith}
use Rattle.class_rules.specs.Classes.{blocks_of}
use Rattle.heap_rules.specs.declared.Superblock.{Superblock}
use Rattle.heap_rules.specs.declared.State.{State}
use Rattle.heap_rules.specs.Table.{superblock_at, live_in, is_unused}
use Rattle.choice_rules.specs.Choice.{fuller_or_more_recent, never_preferred, has_free, empty_in_global, fullest, lowest_empty, lowest_unused}
use Rattle.heap_laws.proofs.StateFacts.{Unused}
use Rattle.heap_laws.proofs.StateCheckLaws.{facts_of_is_unused, is_unused_of_facts}
use Rattle.heap_laws.proofs.ChoiceLaws.{chosen_nothing_of_none_meets, facts_of_has_free, has_free_of_facts, facts_of_empty_in_global}
use Rattle.heap_laws.proofs.ChoiceLaws.{empty_in_global_of_facts, none_free_of_fullest_nothing, none_empty_of_lowest_empty_nothing}
use Rattle.heap_laws.proofs.ChoiceLaws.{none_unused_of_lowest_unused_nothing}

-- places 1 and 2: heap h's superblock of "class c with a free block"
pub record HasFree (h c : ℕ) (b : Superblock) : Type 0 where
  pub owner : b.owner ≡ h
  pub class : b.class ≡ c
  pub free : live_in b < blocks_of c

-- place 3: heap 0's superblock "with nothing live, of any class"
pub record EmptyInGlobal (b : Superblock) : Type 0 where
  pub owner : b.owner ≡ 0
  pub live : live_in b ≡ 0

-- none of the four places offers superblock k to heap i for class c
pub record NotOffered (s : State) (i c k : ℕ) : Type 0 where
  pub place_1 : HasFree i c (superblock_at s k) → ⊥
  pub place_2 : HasFree 0 c (superblock_at s k) → ⊥
  pub place_3 : EmptyInGlobal (superblock_at s k) → ⊥
  pub place_4 : k < s.setup.superblocks → Unused (superblock_at s k) → ⊥

-- the four choices find nothing
pub record NothingFound (s : State) (i c : ℕ) : Type 0 where
  pub own : fullest i c s ≡ None
  pub zero : fullest 0 c s ≡ None
  pub empty : lowest_empty s ≡ None
  pub unused : lowest_unused s ≡ None

module _ (s : State) (i c : ℕ) (few : s.setup.superblocks ≤ 64) where
  not_offered_of_nothing_found : NothingFound s i c → (k : ℕ) → k < 64 → NotOffered s i c k
  not_offered_of_nothing_found f k l = record {
    place_1 = λ h. none_free_of_fullest_nothing i c s f.own k l (has_free_of_facts i c (superblock_at s k) h.owner h.class h.free);
    place_2 = λ h. none_free_of_fullest_nothing 0 c s f.zero k l (has_free_of_facts 0 c (superblock_at s k) h.owner h.class h.free);
    place_3 = λ h. none_empty_of_lowest_empty_nothing s f.empty k l (empty_in_global_of_facts (superblock_at s k) h.owner h.live);
    place_4 = λ n h. none_unused_of_lowest_unused_nothing s f.unused k n (is_unused_of_facts (superblock_at s k) h);
  }

  fullest_nothing_of_none_free : (h : ℕ) → ((k : ℕ) → k < 64 → HasFree h c (superblock_at s k) → ⊥) → fullest h c s ≡ None
  unfolding fullest
  fullest_nothing_of_none_free h f =
      chosen_nothing_of_none_meets (has_free h c) fuller_or_more_recent s.table 64 (λ k l t.
      let w = facts_of_has_free h c (superblock_at s k) t in
      f k l (record { owner = w.0; class = w.1; free = w.2 }))

  lowest_empty_nothing_of_none_empty : ((k : ℕ) → k < 64 → EmptyInGlobal (superblock_at s k) → ⊥) → lowest_empty s ≡ None
  unfolding lowest_empty
  lowest_empty_nothing_of_none_empty f =
      chosen_nothing_of_none_meets empty_in_global never_preferred s.table 64 (λ k l t.
      let w = facts_of_empty_in_global (superblock_at s k) t in
      f k l (record { owner = w.0; live = w.1 }))

  lowest_unused_nothing_of_none_unused : ((k : ℕ) → k < s.setup.superblocks → Unused (superblock_at s k) → ⊥) → lowest_unused s ≡ None
  unfolding lowest_unused
  lowest_unused_nothing_of_none_unused f = chosen_nothing_of_none_meets is_unused never_preferred s.table s.setup.superblocks
      (λ k l t. f k l (facts_of_is_unused (superblock_at s k) t))

  nothing_found_of_not_offered : ((k : ℕ) → k < 64 → NotOffered s i c k) → NothingFound s i c
  nothing_found_of_not_offered f = record {
    own = fullest_nothing_of_none_free i (λ k l. (f k l).place_1);
    zero = fullest_nothing_of_none_free 0 (λ k l. (f k l).place_2);
    empty = lowest_empty_nothing_of_none_empty (λ k l. (f k l).place_3);
    unused = lowest_unused_nothing_of_none_unused (λ k l. (f k (omega arith)).place_4 l);
  }

  -- "none of the four places offers a superblock"
  pub nothing_found_iff_not_offered : NothingFound s i c ↔ ((k : ℕ) → k < 64 → NotOffered s i c k)
  nothing_found_iff_not_offered = (not_offered_of_nothing_found, nothing_found_of_not_offered)
