-- A state with other ranks: what does not go by ranks is as it was. Assumes nothing.
use mathlib.Core.Path.{◌≡◌, refl, sym, ap, ap₂, ◌∙◌, subst}
use mathlib.Core.Bool.{not}
use mathlib.Core.Logic.{◌⊎◌, inl, inr}
use mathlib.Core.List.{List}
use Prim.Native.Nat.{ℕ, zero, suc, ◌*◌, ◌≤◌, ◌<◌}
use native.Mathlib.Nat.{le_refl}
use native.Mathlib.Decide.{dec_lt}
use native.Mathlib.Omega.{arith}
use lib.ListN.{length, get_or-eq_default}
use lib.Dec.{T, eqb}
use Rattle.base_laws.specs.Sums.{pick, one}
use Rattle.base_laws.specs.Lists.{increased}
use Rattle.base_laws.proofs.Inequalities.{le_of_not_below}
use Rattle.base_laws.proofs.SumLaws.{sum_cong}
use Rattle.base_laws.proofs.ListedLaws.{length_listed, get_or_listed}
use Rattle.base_laws.proofs.TestLaws.{both_left, both_right, both_make}
use Rattle.class_rules.specs.Classes.{blocks_of}
use Rattle.names_rules.specs.Names.{each_held}
use Rattle.names_laws.proofs.NameLaws.{each_held_of_tests}
use Rattle.heap_rules.specs.declared.Superblock.{Superblock}
use Rattle.heap_rules.specs.declared.State.{State}
use Rattle.heap_rules.specs.Table.{blank, superblock_at, live_in, is_of_run, starts_run, is_of_heap, live_blocks, with_rank, is_live_block}
use Rattle.heap_rules.specs.Counts.{total, belongs, one_if_belongs, live_if_belongs, is_owned_of_class, superblocks_of, blocks_in, live_of}
use Rattle.heap_rules.specs.Counts.{superblocks_of_class}
use Rattle.heap_rules.specs.Counts.{live_of_class, owners_changed}
use Rattle.heap_rules.specs.Totals.{total_index, is_counted, with_counted, counted_below, recounted, TotalsKept}
use Rattle.heap_rules.specs.Ranks.{reranked}
use Rattle.move_rules.specs.Moves.{both_conditions, must_move}
use Rattle.check_rules.specs.Check.{names_valid}
use Rattle.heap_laws.proofs.StateFacts.{Shape, Unused, Unowned, Owned, Sparse, Sound, SoundWith, SoundAfterFrees, InvariantBeforeFrees}

module _ (rank : ℕ → ℕ) (s : State) where
  -- each superblock is as it was but for its rank ..
  pub superblock_at_reranked : (k : ℕ) → k < 64 → superblock_at (reranked rank s) k ≡ with_rank (rank k) (superblock_at s k)
  superblock_at_reranked k l = get_or_listed (λ m. with_rank (rank m) (superblock_at s m)) 64 k blank l

  reranked_keeps_below : {A : Type 0} (f : Superblock → A) → ((r : ℕ) (b : Superblock) → f (with_rank r b) ≡ f b) → (k : ℕ) → k < 64
      → f (superblock_at (reranked rank s) k) ≡ f (superblock_at s k)
  reranked_keeps_below f blind k l = ap f (superblock_at_reranked k l) ∙ blind (rank k) (superblock_at s k)

  -- ---- the totals
  counted_without_rank : (f : Superblock → ℕ) → ((r : ℕ) (b : Superblock) → f (with_rank r b) ≡ f b) → (l : List ℕ) (r : ℕ) (b : Superblock)
      → with_counted f (with_rank r b) l ≡ with_counted f b l
  unfolding with_counted is_counted
  counted_without_rank f blind l r b = ap (λ (n : ℕ). pick (is_counted b) (increased (total_index b.owner b.class) n l) l) (blind r b)

  reranked_counted : (f : Superblock → ℕ) → ((r : ℕ) (b : Superblock) → f (with_rank r b) ≡ f b) → (n : ℕ) → n ≤ 64
      → counted_below f (reranked rank s).table n ≡ counted_below f s.table n
  unfolding counted_below
  reranked_counted f blind zero h = refl
  reranked_counted f blind (suc n) h =
      reranked_keeps_below (λ b. with_counted f b (counted_below f (reranked rank s).table n))
      (counted_without_rank f blind (counted_below f (reranked rank s).table n)) n h
      ∙ ap (with_counted f (superblock_at s n)) (reranked_counted f blind n (omega arith))

  pub reranked_recounted : recounted (reranked rank s).table ≡ recounted s.table
  unfolding recounted
  reranked_recounted =
      ap₂ (λ (a b : List ℕ). record { superblocks = a; live = b }) (reranked_counted (λ b. 1) (λ r b. refl) 64 (le_refl 64))
      (reranked_counted live_in (λ r b. refl) 64 (le_refl 64))

  pub reranked_totals_kept : TotalsKept s → TotalsKept (reranked rank s)
  reranked_totals_kept kept = kept ∙ sym reranked_recounted

  module _ (long : length s.table ≡ 64) where
    -- .. past the table's end too
    pub superblock_keeps_all_but_rank : (k : ℕ) → superblock_at (reranked rank s) k ≡ with_rank (superblock_at (reranked rank s) k).rank (superblock_at s k)
    superblock_keeps_all_but_rank k = go (dec_lt k 64)
      where
        go : Dec (k < 64) → superblock_at (reranked rank s) k ≡ with_rank (superblock_at (reranked rank s) k).rank (superblock_at s k)
        go (yes l) = let e = superblock_at_reranked k l in e ∙ ap (λ (r : ℕ). with_rank r (superblock_at s k)) (sym (ap (λ (b : Superblock). b.rank) e))
        go (no f) =
            let now : superblock_at (reranked rank s) k ≡ blank = get_or-eq_default (reranked rank s).table blank
            (omega (arith, le_of_not_below f, length_listed (λ m. with_rank (rank m) (superblock_at s m)) 64)) in
            let was : superblock_at s k ≡ blank = get_or-eq_default s.table blank (omega (arith, le_of_not_below f)) in
            now ∙ sym (ap₂ (λ (r : ℕ) (b : Superblock). with_rank r b) (ap (λ (b : Superblock). b.rank) now) was)

    -- what does not go by the rank is as it was
    pub reranked_keeps : {A : Type 0} (f : Superblock → A) → ((r : ℕ) (b : Superblock) → f (with_rank r b) ≡ f b) → (k : ℕ)
        → f (superblock_at (reranked rank s) k) ≡ f (superblock_at s k)
    reranked_keeps f blind k = ap f (superblock_keeps_all_but_rank k) ∙ blind (superblock_at (reranked rank s) k).rank (superblock_at s k)

    pub reranked_owner : (k : ℕ) → (superblock_at (reranked rank s) k).owner ≡ (superblock_at s k).owner
    reranked_owner = reranked_keeps (λ b. b.owner) (λ r b. refl)

    pub reranked_class : (k : ℕ) → (superblock_at (reranked rank s) k).class ≡ (superblock_at s k).class
    reranked_class = reranked_keeps (λ b. b.class) (λ r b. refl)

    pub reranked_live : (k : ℕ) → (superblock_at (reranked rank s) k).live ≡ (superblock_at s k).live
    reranked_live = reranked_keeps (λ b. b.live) (λ r b. refl)

    pub reranked_run : (k : ℕ) → (superblock_at (reranked rank s) k).run ≡ (superblock_at s k).run
    reranked_run = reranked_keeps (λ b. b.run) (λ r b. refl)

    pub reranked_of_run : (k : ℕ) → is_of_run (superblock_at (reranked rank s) k) ≡ is_of_run (superblock_at s k)
    unfolding is_of_run
    reranked_of_run = reranked_keeps is_of_run (λ r b. refl)

    pub reranked_live_blocks : (k : ℕ) → live_blocks (superblock_at (reranked rank s) k) ≡ live_blocks (superblock_at s k)
    unfolding live_blocks starts_run is_of_run
    reranked_live_blocks = reranked_keeps live_blocks (λ r b. refl)

    -- ---- the counts
    pub reranked_total : (f : Superblock → ℕ) → ((r : ℕ) (b : Superblock) → f (with_rank r b) ≡ f b) → total f (reranked rank s).table ≡ total f s.table
    unfolding total
    reranked_total f blind = sum_cong (λ k. f (superblock_at (reranked rank s) k)) (λ k. f (superblock_at s k)) 64 (λ k l. reranked_keeps f blind k)

    pub reranked_superblocks_of : (h c : ℕ) → superblocks_of h c (reranked rank s) ≡ superblocks_of h c s
    unfolding superblocks_of one_if_belongs belongs
    reranked_superblocks_of h c = reranked_total (one_if_belongs h c) (λ r b. refl)

    pub reranked_live_of : (h c : ℕ) → live_of h c (reranked rank s) ≡ live_of h c s
    unfolding live_of live_if_belongs belongs
    reranked_live_of h c = reranked_total (live_if_belongs h c) (λ r b. refl)

    pub reranked_superblocks_of_class : (c : ℕ) → superblocks_of_class c (reranked rank s) ≡ superblocks_of_class c s
    unfolding superblocks_of_class is_owned_of_class is_of_heap
    reranked_superblocks_of_class c = reranked_total (λ b. one (is_owned_of_class c b)) (λ r b. refl)

    pub reranked_live_of_class : (c : ℕ) → live_of_class c (reranked rank s) ≡ live_of_class c s
    unfolding live_of_class is_owned_of_class is_of_heap
    reranked_live_of_class c = reranked_total (λ b. pick (is_owned_of_class c b) (live_in b) 0) (λ r b. refl)

    pub reranked_must_move : (h c : ℕ) → must_move h c (reranked rank s) ≡ must_move h c s
    unfolding must_move blocks_in
    reranked_must_move h c = ap₂ (λ (m u : ℕ). both_conditions s.setup.spare s.setup.p s.setup.q (blocks_of c) (m * blocks_of c) u)
        (reranked_superblocks_of h c) (reranked_live_of h c)

    pub reranked_owners_changed : (t : State) → owners_changed (reranked rank s) t ≡ owners_changed s t
    unfolding owners_changed
    reranked_owners_changed t =
        sum_cong (λ k. one (not (eqb (superblock_at (reranked rank s) k).owner (superblock_at t k).owner)))
        (λ k. one (not (eqb (superblock_at s k).owner (superblock_at t k).owner))) 64
        (λ k l. ap (λ (x : ℕ). one (not (eqb x (superblock_at t k).owner))) (reranked_owner k))

    -- ---- the check
    pub reranked_shape : Shape s → Shape (reranked rank s)
    reranked_shape shape = record {
      length_is = length_listed (λ m. with_rank (rank m) (superblock_at s m)) 64;
      marks_length = λ k l. ap length (reranked_live k) ∙ shape.marks_length k l;
      names_length = shape.names_length;
      superblock_totals_length = shape.superblock_totals_length;
      live_totals_length = shape.live_totals_length;
    }

    reranked_unused : (k : ℕ) → Unused (superblock_at s k) → Unused (superblock_at (reranked rank s) k)
    reranked_unused k u = record {
      owner = reranked_owner k ∙ u.owner;
      class = reranked_class k ∙ u.class;
      live = reranked_keeps live_in (λ r b. refl) k
          ∙ u.live;
    }

    reranked_unowned : (k : ℕ) → Unowned (superblock_at s k) → Unowned (superblock_at (reranked rank s) k)
    reranked_unowned k u = subst Unowned (sym (superblock_keeps_all_but_rank k)) (record { owner = u.owner; class = u.class; live = u.live })

    reranked_owned : (order : List ℕ) (k : ℕ) → Owned s.setup order k (superblock_at s k) → Owned s.setup order k (superblock_at (reranked rank s) k)
    reranked_owned order k o = subst (Owned s.setup order k) (sym (superblock_keeps_all_but_rank k))
        (record { owner = o.owner; class = o.class; places = o.places })

    -- with what is said of heaps and classes, where the ranks are no part of it
    reranked_sound_with : (Invariant : ℕ → ℕ → State → Type 0) → ((h c : ℕ) → Invariant h c s → Invariant h c (reranked rank s)) → (order : List ℕ)
        → SoundWith Invariant s order → SoundWith Invariant (reranked rank s) order
    reranked_sound_with Invariant kept order sound = record {
      numbers = sound.numbers;
      each = λ k l. go k (sound.each k l);
      past_unused = λ k l far. reranked_unused k (sound.past_unused k l far);
      invariant = λ h c low high known. kept h c (sound.invariant h c low high known);
      sparse = λ k l e. subst (Sparse s.setup) (sym (superblock_keeps_all_but_rank k)) (sound.sparse k l (sym (reranked_owner k) ∙ e));
    }
      where
        go : (k : ℕ) → Unowned (superblock_at s k) ⊎ Owned s.setup order k (superblock_at s k) → Unowned (superblock_at (reranked rank s) k)
            ⊎ Owned s.setup order k (superblock_at (reranked rank s) k)
        go k (inl u) = inl (reranked_unowned k u)
        go k (inr o) = inr (reranked_owned order k o)

    pub reranked_sound : (order : List ℕ) → Sound s order → Sound (reranked rank s) order
    reranked_sound = reranked_sound_with (λ h c t. T (must_move h c t) → ⊥) (λ h c none must. none (subst T (reranked_must_move h c) must))

    pub reranked_sound_after_frees : (freed : ℕ → ℕ → ℕ) (order : List ℕ) → SoundAfterFrees freed s order → SoundAfterFrees freed (reranked rank s) order
    unfolding blocks_in
    reranked_sound_after_frees freed = reranked_sound_with (λ h c t. InvariantBeforeFrees (freed h c) h c t) kept
      where
        kept : (h c : ℕ) → InvariantBeforeFrees (freed h c) h c s → InvariantBeforeFrees (freed h c) h c (reranked rank s)
        kept h c fails = rw (reranked_superblocks_of h c, reranked_live_of h c) fails

    pub reranked_names_valid : T (names_valid s) → T (names_valid (reranked rank s))
    unfolding names_valid is_live_block
    reranked_names_valid valid =
        both_make (each_held (is_live_block (reranked rank s)) s.names) _
        (each_held_of_tests (is_live_block s) (is_live_block (reranked rank s)) s.names still_live (both_left (each_held (is_live_block s) s.names) _ valid))
        (both_right (each_held (is_live_block s) s.names) _ valid)
      where
        still_live : (b : ℕ) → T (is_live_block s b) → T (is_live_block (reranked rank s) b)
        still_live b t = rw (reranked_live_blocks _) t
