-- The superblocks that pass between heaps (document 02, item 7: "the q and reported moves of a free or drop [count] only those that pass between heaps").
-- Assumes nothing.
use mathlib.Core.Path.{◌≡◌, refl, sym, ap, ◌∙◌}
use mathlib.Core.Bool.{Bool, true, false, not}
use mathlib.Core.Logic.{◌⊎◌, inl, inr}
use Prim.Native.Nat.{ℕ, ◌≤◌, ◌<◌}
use borrow.Author.Tests.{eq-eqb, lt-ltb, le-ltb}
use lib.Dec.{eqb}
use Rattle.base_laws.specs.Sums.{both, one}
use Rattle.base_laws.proofs.SumLaws.{sum_cong, sum_of_zeros}
use Rattle.heap_rules.specs.declared.Superblock.{Superblock}
use Rattle.heap_rules.specs.declared.State.{State}
use Rattle.heap_rules.specs.Table.{run_owner, superblock_at, is_of_heap}
use Rattle.heap_rules.specs.Counts.{owners_changed, passed_between_heaps}

-- ---- one superblock, before and after: 1 where it passes from a heap to another
abbrev passes : Superblock → Superblock → ℕ
passes b d = one (both (both (is_of_heap b) (is_of_heap d)) (not (eqb b.owner d.owner)))

module _ (b d : Superblock) where
  -- heaps own it before and after
  passes_of_heaps : b.owner < run_owner → d.owner < run_owner → passes b d ≡ one (not (eqb b.owner d.owner))
  unfolding is_of_heap
  passes_of_heaps l m = rw (lt-ltb b.owner run_owner l, lt-ltb d.owner run_owner m)

  -- its owner stays
  passes_not_of_same : d.owner ≡ b.owner → passes b d ≡ 0
  passes_not_of_same e = go (both (is_of_heap b) (is_of_heap d)) (eq-eqb b.owner d.owner (sym e))
    where
      go : (t : Bool) → eqb b.owner d.owner ≡ true → one (both t (not (eqb b.owner d.owner))) ≡ 0
      go true q = ap (λ (x : Bool). one (not x)) q
      go false q = refl

  -- no heap owns it before, or after
  passes_not_from_none : run_owner ≤ b.owner → passes b d ≡ 0
  unfolding is_of_heap
  passes_not_from_none l = rw (le-ltb b.owner run_owner l)

  passes_not_to_none : run_owner ≤ d.owner → passes b d ≡ 0
  unfolding is_of_heap
  passes_not_to_none l = rw (le-ltb d.owner run_owner l) (go (is_of_heap b))
    where
      go : (t : Bool) → one (both (both t false) (not (eqb b.owner d.owner))) ≡ 0
      go true = refl
      go false = refl

-- ---- all 64
-- they are those whose owners differ, where each such owner was a heap's and is a heap's
pub passed_between_heaps_is_owners_changed : (s t : State)
    → ((k : ℕ) → k < 64 → ((superblock_at t k).owner ≡ (superblock_at s k).owner)
    ⊎ (((superblock_at s k).owner < run_owner) × ((superblock_at t k).owner < run_owner)))
    → passed_between_heaps s t ≡ owners_changed s t
unfolding passed_between_heaps owners_changed
passed_between_heaps_is_owners_changed s t each =
    sum_cong (λ k. passes (superblock_at s k) (superblock_at t k)) (λ k. one (not (eqb (superblock_at s k).owner (superblock_at t k).owner))) 64
    (λ k l. go k (each k l))
  where
    go : (k : ℕ) → ((superblock_at t k).owner ≡ (superblock_at s k).owner) ⊎ (((superblock_at s k).owner < run_owner) × ((superblock_at t k).owner < run_owner))
        → passes (superblock_at s k) (superblock_at t k) ≡ one (not (eqb (superblock_at s k).owner (superblock_at t k).owner))
    go k (inl e) = passes_not_of_same (superblock_at s k) (superblock_at t k) e
        ∙ sym (ap (λ (x : Bool). one (not x)) (eq-eqb (superblock_at s k).owner (superblock_at t k).owner (sym e)))
    go k (inr (l, m)) = passes_of_heaps (superblock_at s k) (superblock_at t k) l m

-- as many pass from two states whose superblocks have the same heaps, or none in both
pub passed_between_heaps_from_same : (r s t : State)
    → ((k : ℕ) → k < 64 → ((superblock_at r k).owner ≡ (superblock_at s k).owner)
    ⊎ ((run_owner ≤ (superblock_at r k).owner) × (run_owner ≤ (superblock_at s k).owner)))
    → passed_between_heaps r t ≡ passed_between_heaps s t
unfolding passed_between_heaps is_of_heap
passed_between_heaps_from_same r s t each =
    sum_cong (λ k. passes (superblock_at r k) (superblock_at t k)) (λ k. passes (superblock_at s k) (superblock_at t k)) 64 (λ k l. go k (each k l))
  where
    go : (k : ℕ) → ((superblock_at r k).owner ≡ (superblock_at s k).owner) ⊎ ((run_owner ≤ (superblock_at r k).owner) × (run_owner ≤ (superblock_at s k).owner))
        → passes (superblock_at r k) (superblock_at t k) ≡ passes (superblock_at s k) (superblock_at t k)
    go k (inl e) = rw e
    go k (inr (l, m)) = passes_not_from_none (superblock_at r k) (superblock_at t k) l ∙ sym (passes_not_from_none (superblock_at s k) (superblock_at t k) m)

-- none passes, where each owner stays or is no heap's before or after
pub none_passed_between_heaps : (s t : State)
    → ((k : ℕ) → k < 64 → ((superblock_at t k).owner ≡ (superblock_at s k).owner)
    ⊎ ((run_owner ≤ (superblock_at s k).owner) ⊎ (run_owner ≤ (superblock_at t k).owner)))
    → passed_between_heaps s t ≡ 0
unfolding passed_between_heaps
none_passed_between_heaps s t each = sum_of_zeros (λ k. passes (superblock_at s k) (superblock_at t k)) 64 (λ k l. go k (each k l))
  where
    go : (k : ℕ) → ((superblock_at t k).owner ≡ (superblock_at s k).owner) ⊎ ((run_owner ≤ (superblock_at s k).owner) ⊎ (run_owner ≤ (superblock_at t k).owner))
        → passes (superblock_at s k) (superblock_at t k) ≡ 0
    go k (inl e) = passes_not_of_same (superblock_at s k) (superblock_at t k) e
    go k (inr (inl l)) = passes_not_from_none (superblock_at s k) (superblock_at t k) l
    go k (inr (inr m)) = passes_not_to_none (superblock_at s k) (superblock_at t k) m
