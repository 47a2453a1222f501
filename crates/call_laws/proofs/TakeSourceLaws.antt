-- The superblock that a take takes its block from: as it was (place 1), or acquired (places 2 to 4), and what holds of it then. Assumes nothing.
use Rattle.std.specs.Prelude.{Option, Some, None}
use mathlib.Core.Path.{◌≡◌, refl, sym, ap, ◌∙◌, subst}
use mathlib.Core.Bool.{Bool, true, false}
use mathlib.Core.Logic.{◌⊎◌, inl, inr, ⊎_elim}
use mathlib.Core.List.{List}
use Prim.Native.Nat.{ℕ, ◌+◌, ◌-◌, ◌*◌, ◌≤◌, ◌<◌}
use native.Mathlib.Omega.{arith}
use borrow.Author.Tests.{eqb-true, eqb-false}
use lib.ListN.{length}
use lib.Seq.{get_or-set_same, set-set}
use lib.Dec.{T, eqb}
use Rattle.base_laws.specs.Sums.{pick}
use Rattle.base_laws.proofs.Inequalities.{le_of_not_below}
use Rattle.base_laws.proofs.TestLaws.{pick_elim}
use Rattle.base_laws.proofs.ListedLaws.{length_listed}
use Rattle.class_rules.specs.Classes.{class_count, blocks_of}
use Rattle.class_rules.proofs.ClassTableLaws.{blocks_of_le_256, blocks_of_pos}
use Rattle.marks_rules.specs.Marks.{mark_bit, live_count}
use Rattle.marks_laws.proofs.MarkLaws.{marks_clear_of_live_count_zero, mark_bit_of_no_marks, live_count_of_no_marks}
use Rattle.order_rules.specs.Order.{place, last_filled, renewed}
use Rattle.order_laws.proofs.OrderLaws.{length_renewed, renewed_other_superblock}
use Rattle.filled_rules.specs.FilledPlaces.{places_valid}
use Rattle.filled_rules.proofs.PlacesValidLaws.{places_valid_after_renewal}
use Rattle.heap_rules.specs.declared.Superblock.{Superblock}
use Rattle.heap_rules.specs.declared.State.{State}
use Rattle.heap_rules.specs.Table.{run_owner, unused_owner, blank, superblock_at, live_in, is_of_run, with_owner, with_mark_at}
use Rattle.heap_rules.specs.States.{with_superblock}
use Rattle.heap_rules.specs.Counts.{superblocks_of, live_of}
use Rattle.heap_rules.specs.Totals.{recounted}
use Rattle.heap_rules.specs.Ranks.{rank_after_renewal, unranked}
use Rattle.choice_rules.specs.Choice.{fullest, lowest_empty, lowest_unused, or_else}
use Rattle.heap_laws.proofs.StateFacts.{Shape}
use Rattle.call_rules.specs.Answers.{After}
use Rattle.call_rules.specs.declared.Outcome.TheVariants.{Address}
use Rattle.call_rules.specs.Take.{other_places, renewed_for, acquired, acquired_order, unranked_if_empty, next_block, address_of, taken_from, taken_from_other}
use Rattle.heap_laws.proofs.ChoiceLaws.{best_of_fullest, none_free_of_fullest_nothing, facts_of_has_free, has_free_of_facts, facts_of_empty_in_global}
use Rattle.heap_laws.proofs.ChoiceLaws.{best_of_lowest_empty, best_of_lowest_unused}
use Rattle.heap_laws.proofs.CountLaws.{owner_and_class_of_belongs, superblocks_zero_of_none_belongs, live_of_at_least_each}
use Rattle.heap_laws.proofs.StateCheckLaws.{facts_of_is_unused, owned_below_superblocks, owned_of_owner, free_block_in_global}
use Rattle.heap_laws.proofs.RankLaws.{superblock_at_unranked, rank_after_renewal_of_superblock}
use Rattle.heap_laws.proofs.RerankedLaws.{reranked_owner, reranked_class, reranked_live, reranked_run, reranked_of_run, reranked_superblocks_of}
use Rattle.heap_laws.proofs.RerankedLaws.{reranked_live_of}
use Rattle.heap_laws.proofs.RunLaws.{runs_sound_of_valid}
use Rattle.heap_laws.proofs.RunsKeptLaws.{outside_run_of_owner}
use Rattle.call_laws.proofs.CallEffects.{Passed}

-- the block in the last filled place of superblock k, where it is b
unfoldable pub last_block_of : List ℕ → ℕ → Superblock → ℕ
last_block_of order k b = last_filled order k (blocks_of b.class - live_in b)

-- what a take leaves where superblock k, as b and with these order places, gives its block
abbrev pub taken_with : ℕ → State → Superblock → List ℕ → After
taken_with k s b order =
    record {
      answer = record {
        outcome = Address (address_of k b.class (last_block_of order k b));
        state =
            with_superblock s k (with_mark_at b (last_block_of order k b));
      };
      order = order;
    }

pub taken_from_is_taken_with : (k : ℕ) (s : State) (order : List ℕ) → taken_from k s order ≡ taken_with k s (superblock_at s k) order
unfolding taken_from next_block last_block_of
taken_from_is_taken_with k s order = refl

pub length_unranked_if_empty : (k : ℕ) (s : State) → length s.table ≡ 64 → length (unranked_if_empty k s).table ≡ 64
unfolding unranked_if_empty unranked
length_unranked_if_empty k s long = pick_elim (λ (t : State). length t.table ≡ 64) (eqb (live_in (superblock_at s k)) 0) _ _ (λ e. length_listed _ 64)
    (λ e. long)

pub taken_from_other_is_taken_with : (i c k : ℕ) (s : State) (order : List ℕ) → k < 64 → length s.table ≡ 64
    → taken_from_other i c k s order ≡ taken_with k (unranked_if_empty k s) (acquired i c (superblock_at s k)) (acquired_order c k (superblock_at s k) order)
unfolding taken_from_other
taken_from_other_is_taken_with i c k s order l long =
    taken_from_is_taken_with k (with_superblock t k b) places
    ∙ ap (λ (x : Superblock). taken_with k (with_superblock t k b) x places)
    (get_or-set_same t.table k b blank (omega (arith, length_unranked_if_empty k s long)))
    ∙ ap (λ (x : List Superblock). record {
      answer = record {
        outcome = Address (address_of k b.class (last_block_of places k b));
        state = record { setup = t.setup; table = x; names = t.names; totals = recounted x };
      };
      order = places;
    })
    (set-set t.table k b (with_mark_at b (last_block_of places k b)))
  where
    t : State
    t = unranked_if_empty k s

    b : Superblock
    b = acquired i c (superblock_at s k)

    places : List ℕ
    places = acquired_order c k (superblock_at s k) order

-- Superblock k gives a block to heap i, for class c: b is the superblock as it is then, `places` all order places, and s and order what was before.
pub record TakeSource (s : State) (order : List ℕ) (i c k : ℕ) (b : Superblock) (places : List ℕ) : Type 0 where
  pub below : k < s.setup.superblocks
  pub owner : b.owner ≡ i
  pub class : b.class ≡ c
  pub room : live_in b < blocks_of b.class
  pub marks_length : length b.live ≡ 4
  pub places_valid_lem : T (places_valid places b.live k (blocks_of b.class))
  pub rank : b.rank ≡ (superblock_at s k).rank
  -- it is of no run, and carries the length that it did
  pub outside_run : is_of_run (superblock_at s k) ≡ false
  pub run : b.run ≡ (superblock_at s k).run
  -- nothing is marked or cleared yet
  pub marks : (m : ℕ) → m < 256 → mark_bit b.live m ≡ mark_bit (superblock_at s k).live m
  -- no other superblock's places are touched
  pub length_is : length places ≡ length order
  pub others : (m p : ℕ) → (m ≡ k → ⊥) → p < 256 → place places m p ≡ place order m p
  pub before : (live_in (superblock_at s k) ≡ 0) ⊎ (((superblock_at s k).class ≡ c) × ((superblock_at s k).owner < run_owner))
  -- it was heap i's of the class, or no processor heap's, and then heap i's superblocks of the class are full
  pub source : (((superblock_at s k).owner ≡ i) × ((superblock_at s k).class ≡ c))
      ⊎ ((((superblock_at s k).owner ≡ 0) ⊎ ((superblock_at s k).owner ≡ unused_owner)) × (superblocks_of i c s * blocks_of c ≤ live_of i c s))
  -- it was a superblock of the class, or heap 0 has none of the class
  pub supply : (((superblock_at s k).owner < run_owner) × ((superblock_at s k).class ≡ c)) ⊎ (superblocks_of 0 c s ≡ 0)

-- What places 2 to 4 offer for class c.
pub record OfferedByOthers (s : State) (c k : ℕ) : Type 0 where
  pub below : k < s.setup.superblocks
  pub owner : ((superblock_at s k).owner ≡ 0) ⊎ ((superblock_at s k).owner ≡ unused_owner)
  pub live : (live_in (superblock_at s k) ≡ 0)
      ⊎ (((superblock_at s k).owner ≡ 0) × ((superblock_at s k).class ≡ c) × (live_in (superblock_at s k) < blocks_of (superblock_at s k).class))
  pub supply : (((superblock_at s k).owner < run_owner) × ((superblock_at s k).class ≡ c)) ⊎ (superblocks_of 0 c s ≡ 0)

module _ (s : State) (order : List ℕ) (shape : Shape s) (passed : Passed s order) where
  owner_lt_254 : (m h : ℕ) → h ≤ s.setup.processors → (superblock_at s m).owner ≡ h → (superblock_at s m).owner < run_owner
  owner_lt_254 m h l e = omega (arith, passed.sound.numbers.processors_high)

  -- what one that is not of a run carries
  length_outside_run : (m : ℕ) → m < 64 → is_of_run (superblock_at s m) ≡ false → (superblock_at s m).run ≡ 0
  length_outside_run m l e = (runs_sound_of_valid s shape.length_is passed.runs).outside_carries_0 m l e

  -- ---- place 1
  pub source_of_own_heap : (i c k : ℕ) → i ≤ s.setup.processors → fullest i c s ≡ Some k → TakeSource s order i c k (superblock_at s k) order
  source_of_own_heap i c k l e =
      let best = best_of_fullest i c s k e in
      let h = facts_of_has_free i c (superblock_at s k) best.meets_criterion_lem in
      let somebody = owner_lt_254 k i l h.0 in
      record {
        below = owned_below_superblocks s order passed.sound k best.below (λ (q : (superblock_at s k).owner ≡ unused_owner). omega arith);
        owner = h.0;
        class = h.1;
        room = subst (λ (d : ℕ). live_in (superblock_at s k) < blocks_of d) (sym h.1) h.2;
        marks_length = shape.marks_length k best.below;
        places_valid_lem = (owned_of_owner s order passed.sound k best.below somebody).places;
        rank = refl;
        outside_run = outside_run_of_owner (superblock_at s k) (λ (q : (superblock_at s k).owner ≡ run_owner). omega arith);
        run = refl;
        marks = λ m lm. refl;
        length_is = refl;
        others = λ m p f lp. refl;
        before = inr (h.1, somebody);
        source = inl (h.0, h.1);
        supply = inl (somebody, h.1);
      }

  -- ---- places 2 to 4
  -- a heap that place 1 offers nothing of is full
  heap_full_of_fullest_nothing : (i c : ℕ) → fullest i c s ≡ None → superblocks_of i c s * blocks_of c ≤ live_of i c s
  heap_full_of_fullest_nothing i c e =
      live_of_at_least_each i c (blocks_of c) s
      (λ m l t. le_of_not_below (λ h. none_free_of_fullest_nothing i c s e m l (let o = owner_and_class_of_belongs i c (superblock_at s m) t in
      has_free_of_facts i c (superblock_at s m) o.0 o.1 h)))

  -- each superblock of heap 0 is sparse and so has a free block: place 2 offers nothing only where heap 0 has none of the class
  none_in_global_of_fullest_nothing : (c : ℕ) → fullest 0 c s ≡ None → superblocks_of 0 c s ≡ 0
  none_in_global_of_fullest_nothing c e =
      superblocks_zero_of_none_belongs 0 c s (λ m l t.
      let h = owner_and_class_of_belongs 0 c (superblock_at s m) t in
      none_free_of_fullest_nothing 0 c s e m l
      (has_free_of_facts 0 c (superblock_at s m) h.0 h.1
      (subst (λ (d : ℕ). live_in (superblock_at s m) < blocks_of d) h.1 (free_block_in_global s order passed.sound m l h.0))))

  global_below_superblocks : (k : ℕ) → k < 64 → (superblock_at s k).owner ≡ 0 → k < s.setup.superblocks
  global_below_superblocks k l e = owned_below_superblocks s order passed.sound k l (λ (q : (superblock_at s k).owner ≡ unused_owner). omega arith)

  offered_by_place_2 : (c k : ℕ) → fullest 0 c s ≡ Some k → OfferedByOthers s c k
  offered_by_place_2 c k e =
      let best = best_of_fullest 0 c s k e in
      let h = facts_of_has_free 0 c (superblock_at s k) best.meets_criterion_lem in
      record {
        below = global_below_superblocks k best.below h.0;
        owner = inl h.0;
        live = inr (h.0, h.1, subst (λ (d : ℕ). live_in (superblock_at s k) < blocks_of d) (sym h.1) h.2);
        supply = inl (omega arith, h.1);
      }

  offered_by_place_3 : (c k : ℕ) → fullest 0 c s ≡ None → lowest_empty s ≡ Some k → OfferedByOthers s c k
  offered_by_place_3 c k none e =
      let best = best_of_lowest_empty s k e in
      let h = facts_of_empty_in_global (superblock_at s k) best.meets_criterion_lem in
      record {
        below = global_below_superblocks k best.below h.0;
        owner = inl h.0;
        live = inl h.1;
        supply = inr (none_in_global_of_fullest_nothing c none);
      }

  offered_by_place_4 : (c k : ℕ) → fullest 0 c s ≡ None → lowest_unused s ≡ Some k → OfferedByOthers s c k
  offered_by_place_4 c k none e =
      let best = best_of_lowest_unused s k e in
      let h = facts_of_is_unused (superblock_at s k) best.meets_criterion_lem in
      record { below = best.below; owner = inr h.owner; live = inl h.live; supply = inr (none_in_global_of_fullest_nothing c none) }

  pub offered_of_other_places : (c k : ℕ) → other_places c s ≡ Some k → OfferedByOthers s c k
  unfolding other_places
  offered_of_other_places c k = go (fullest 0 c s) (lowest_empty s) refl refl
    where
      go : (f g : Option ℕ) → fullest 0 c s ≡ f → lowest_empty s ≡ g → or_else f (or_else g (lowest_unused s)) ≡ Some k → OfferedByOthers s c k
      go (Some m) g p q e = offered_by_place_2 c k (p ∙ e)
      go None (Some m) p q e = offered_by_place_3 c k p (q ∙ e)
      go None None p q e = offered_by_place_4 c k p e

  module _ (i c k : ℕ) (known : c < class_count) (none : fullest i c s ≡ None) (offered : OfferedByOthers s c k) where
    in_table : k < 64
    in_table = omega (arith, offered.below, passed.sound.numbers.superblocks_high)

    offered_outside_run : is_of_run (superblock_at s k) ≡ false
    offered_outside_run = outside_run_of_owner (superblock_at s k) (λ q. ⊎_elim (λ z. omega arith) (λ z. omega arith) offered.owner)

    places_fit : k * 256 + blocks_of c ≤ length order
    places_fit = omega (arith, offered.below, passed.room, blocks_of_le_256 c)

    -- nothing live: renewed, and out of the ranking
    source_of_renewed : live_in (superblock_at s k) ≡ 0 → TakeSource (unranked k s) order i c k (renewed_for i c) (renewed order k (blocks_of c))
    unfolding unranked
    source_of_renewed e = record {
      below = offered.below;
      owner = refl;
      class = refl;
      room = omega (arith, live_count_of_no_marks, blocks_of_pos c known);
      marks_length = refl;
      places_valid_lem = places_valid_after_renewal order k (blocks_of c) (blocks_of_le_256 c) places_fit;
      rank = sym (ap (λ (b : Superblock). b.rank) (superblock_at_unranked k s k in_table) ∙ rank_after_renewal_of_superblock k s.table);
      outside_run = reranked_of_run rank s long k ∙ offered_outside_run;
      run = sym (reranked_run rank s long k ∙ length_outside_run k in_table offered_outside_run);
      marks = λ m l. mark_bit_of_no_marks m
          ∙ sym (ap (λ (x : List ℕ). mark_bit x m) (reranked_live rank s long k) ∙ marks_clear_of_live_count_zero (superblock_at s k).live e m l);
      length_is = length_renewed order k (blocks_of c);
      others = λ m p f l. renewed_other_superblock order k (blocks_of c) m p f l;
      before = inl (ap live_count (reranked_live rank s long k) ∙ e);
      source = inr (⊎_elim (λ z. inl (reranked_owner rank s long k ∙ z)) (λ z. inr (reranked_owner rank s long k ∙ z)) offered.owner, full_after);
      supply = ⊎_elim (λ h. inl (subst (λ (x : ℕ). x < run_owner) (sym (reranked_owner rank s long k)) h.0, reranked_class rank s long k ∙ h.1))
          (λ z. inr (reranked_superblocks_of rank s long 0 c ∙ z)) offered.supply;
    }
      where
        rank : ℕ → ℕ
        rank = rank_after_renewal k s.table

        long : length s.table ≡ 64
        long = shape.length_is

        full_after : superblocks_of i c (unranked k s) * blocks_of c ≤ live_of i c (unranked k s)
        full_after = rw (reranked_superblocks_of rank s long i c, reranked_live_of rank s long i c) (heap_full_of_fullest_nothing i c none)

    -- else from place 2, with the class
    source_of_acquired : ((superblock_at s k).owner ≡ 0) × ((superblock_at s k).class ≡ c) × (live_in (superblock_at s k) < blocks_of (superblock_at s k).class)
        → TakeSource s order i c k (with_owner i (superblock_at s k)) order
    source_of_acquired h = record {
      below = offered.below;
      owner = refl;
      class = h.1;
      room = h.2;
      marks_length = shape.marks_length k in_table;
      places_valid_lem = (owned_of_owner s order passed.sound k in_table somebody).places;
      rank = refl;
      outside_run = offered_outside_run;
      run = refl;
      marks = λ m l. refl;
      length_is = refl;
      others = λ m p f l. refl;
      before = inr (h.1, somebody);
      source = inr (offered.owner, heap_full_of_fullest_nothing i c none);
      supply = offered.supply;
    }
      where
        somebody : (superblock_at s k).owner < run_owner
        somebody = omega (arith, h.0)

    pub source_of_other_places : TakeSource (unranked_if_empty k s) order i c k (acquired i c (superblock_at s k))
        (acquired_order c k (superblock_at s k) order)
    unfolding acquired acquired_order unranked_if_empty
    source_of_other_places = go (eqb (live_in (superblock_at s k)) 0) refl offered.live
      where
        go : (t : Bool) → eqb (live_in (superblock_at s k)) 0 ≡ t
            → (live_in (superblock_at s k) ≡ 0)
            ⊎ (((superblock_at s k).owner ≡ 0) × ((superblock_at s k).class ≡ c) × (live_in (superblock_at s k) < blocks_of (superblock_at s k).class))
            → TakeSource (pick t (unranked k s) s) order i c k (pick t (renewed_for i c) (with_owner i (superblock_at s k)))
            (pick t (renewed order k (blocks_of c)) order)
        go true e h = source_of_renewed (eqb-true (live_in (superblock_at s k)) 0 e)
        go false e (inl z) = absurd (eqb-false (live_in (superblock_at s k)) 0 e z)
        go false e (inr h) = source_of_acquired h
