-- A state passes the check exactly if the facts of StateFacts hold of it. Assumes nothing.
use mathlib.Core.Path.{◌≡◌, refl, sym, ap, ◌∙◌, subst}
use mathlib.Core.Bool.{Bool, true, false, not}
use mathlib.Core.Logic.{◌⊎◌, inl, inr, ⊎_elim}
use mathlib.Core.List.{List}
use Prim.Native.Nat.{ℕ, zero, suc, ◌+◌, ◌-◌, ◌*◌, ◌≤◌, ◌<◌}
use native.Mathlib.Nat.{mul-le-mul_left, mul-le-mul_right, zero-mul}
use native.Mathlib.Decide.{ℕ_discrete, dec_lt}
use native.Mathlib.Omega.{arith}
use borrow.Author.Tests.{eq-eqb, ne_eqb, le-ltb, ltb-false}
use lib.ListN.{length, length-set, length-replicate, get_or-replicate}
use lib.Dec.{T, eqb, leb, ltb, leb→le, le→leb, ltb→lt, lt→ltb, eqb→eq, T_not, not_T}
use Rattle.base_laws.specs.Sums.{both, either, all_below}
use Rattle.base_laws.proofs.TestLaws.{T_of_true, false_of_not_T, both_left, both_right, both_make, either_left, either_right, either_right_of_left_false}
use Rattle.base_laws.proofs.SumLaws.{all_at, all_of_each}
use Rattle.class_rules.specs.Classes.{class_count, blocks_of}
use Rattle.class_rules.proofs.ClassTableLaws.{blocks_of_le_256}
use Rattle.marks_laws.proofs.MarkLaws.{live_count_of_no_marks}
use Rattle.names_rules.specs.Names.{not_held, no_names, each_held}
use Rattle.names_laws.proofs.NameLaws.{test_of_block_named, each_held_of_blocks_named, same_name_of_same_block, no_two_of_same_name, each_held_of_no_names}
use Rattle.names_laws.proofs.NameLaws.{no_two_of_no_names}
use Rattle.filled_rules.proofs.PlacesValidLaws.{live_count_le_of_places_valid}
use Rattle.heap_rules.specs.declared.Superblock.{Superblock}
use Rattle.heap_rules.specs.declared.Setup.{Setup}
use Rattle.heap_rules.specs.declared.State.{State}
use Rattle.heap_rules.specs.Table.{run_owner, unused_owner, blank, unused, superblock_at, live_in, is_unused, is_of_run, is_live_block}
use Rattle.heap_rules.specs.States.{with_superblock, with_names, new_state}
use Rattle.heap_rules.specs.Counts.{superblocks_of, live_of, blocks_in}
use Rattle.move_rules.specs.Moves.{both_conditions, must_move}
use Rattle.check_rules.specs.Check.{within, within_limits, is_part_of_run, is_unowned, is_owned, superblock_valid, unused_from, emptiness_invariant}
use Rattle.check_rules.specs.Check.{sparse_if_global}
use Rattle.check_rules.specs.Check.{names_valid, ranks_valid, runs_valid, rest_valid, passes}
use Rattle.check_rules.proofs.ClauseLaws.{clauses_of_rest, rest_of_clauses, limits_of_passes, rest_of_passes, passes_of_limits_and_rest}
use Rattle.heap_laws.proofs.StateFacts.{Shape, WithinLimits, Unused, Unowned, Owned, Sparse, Sound, NamesSound, SoundWith, SoundAfterFrees}
use Rattle.heap_rules.specs.Totals.{total_count, TotalsKept}
use Rattle.heap_laws.proofs.TotalsLaws.{totals_kept_of_valid, totals_valid_of_kept, length_recounted_superblocks, length_recounted_live}
use Rattle.heap_laws.proofs.CountLaws.{superblock_at_replaced, superblock_at_others, superblocks_of_new_state}

-- ---- the setup numbers
bounds_of_within : (a b x : ℕ) → T (within a b x) → (a ≤ x) × (x ≤ b)
bounds_of_within a b x t = (leb→le a x (both_left (leb a x) (leb x b) t), leb→le x b (both_right (leb a x) (leb x b) t))

within_of_bounds : (a b x : ℕ) → a ≤ x → x ≤ b → T (within a b x)
within_of_bounds a b x p q = both_make (leb a x) (leb x b) (le→leb a x p) (le→leb x b q)

pub facts_of_within_limits : (u : Setup) → T (within_limits u) → WithinLimits u
unfolding within_limits
facts_of_within_limits u t =
    let a = bounds_of_within 1 8 u.processors (both_left (within 1 8 u.processors) _ t) in
    let t1 = both_right (within 1 8 u.processors) _ t in
    let b = bounds_of_within 1 64 u.superblocks (both_left (within 1 64 u.superblocks) _ t1) in
    let t2 = both_right (within 1 64 u.superblocks) _ t1 in
    let c = bounds_of_within 1 16 u.spare (both_left (within 1 16 u.spare) _ t2) in
    let t3 = both_right (within 1 16 u.spare) _ t2 in
    let d = both_left (both (leb 1 u.p) (ltb u.p u.q)) _ t3 in
    let e = bounds_of_within 2 8 u.q (both_right (both (leb 1 u.p) (ltb u.p u.q)) _ t3) in
    record {
      processors_low = a.0;
      processors_high = a.1;
      superblocks_low = b.0;
      superblocks_high = b.1;
      spare_low = c.0;
      spare_high = c.1;
      p_low = leb→le 1 u.p (both_left (leb 1 u.p) _ d);
      p_high = ltb→lt u.p u.q (both_right (leb 1 u.p) _ d);
      q_low = e.0;
      q_high = e.1;
    }

pub within_limits_of_facts : (u : Setup) → WithinLimits u → T (within_limits u)
unfolding within_limits
within_limits_of_facts u l =
    both_make (within 1 8 u.processors) _ (within_of_bounds 1 8 u.processors l.processors_low l.processors_high)
    (both_make (within 1 64 u.superblocks) _ (within_of_bounds 1 64 u.superblocks l.superblocks_low l.superblocks_high)
    (both_make (within 1 16 u.spare) _ (within_of_bounds 1 16 u.spare l.spare_low l.spare_high)
    (both_make (both (leb 1 u.p) (ltb u.p u.q)) _
    (both_make (leb 1 u.p) (ltb u.p u.q) (le→leb 1 u.p l.p_low) (lt→ltb u.p u.q l.p_high))
    (within_of_bounds 2 8 u.q l.q_low l.q_high))))

-- ---- one superblock
pub facts_of_is_unused : (b : Superblock) → T (is_unused b) → Unused b
unfolding is_unused
facts_of_is_unused b t =
    let r = both_right (eqb b.owner unused_owner) _ t in
    record {
      owner = eqb→eq b.owner unused_owner (both_left (eqb b.owner unused_owner) _ t);
      class = eqb→eq b.class 0 (both_left (eqb b.class 0) _ r);
      live = eqb→eq (live_in b) 0 (both_right (eqb b.class 0) _ r);
    }

pub is_unused_of_facts : (b : Superblock) → Unused b → T (is_unused b)
unfolding is_unused
is_unused_of_facts b h =
    both_make (eqb b.owner unused_owner) _ (T_of_true _ (eq-eqb b.owner unused_owner h.owner))
    (both_make (eqb b.class 0) _ (T_of_true _ (eq-eqb b.class 0 h.class)) (T_of_true _ (eq-eqb (live_in b) 0 h.live)))

-- a superblock that a heap owns is not unused
pub not_unused_of_owner : (b : Superblock) → (b.owner ≡ unused_owner → ⊥) → is_unused b ≡ false
not_unused_of_owner b f = false_of_not_T (is_unused b) (λ t. f (facts_of_is_unused b t).owner)

-- unused, or part of a run
pub unowned_of_unused : (b : Superblock) → Unused b → Unowned b
unowned_of_unused b u = record { owner = inl u.owner; class = u.class; live = u.live }

pub unused_of_unowned : (b : Superblock) → Unowned b → b.owner ≡ unused_owner → Unused b
unused_of_unowned b u e = record { owner = e; class = u.class; live = u.live }

pub not_of_heap_of_unowned : (b : Superblock) → Unowned b → b.owner < run_owner → ⊥
not_of_heap_of_unowned b u l = ⊎_elim (λ e. omega arith) (λ e. omega arith) u.owner

pub facts_of_is_unowned : (b : Superblock) → T (is_unowned b) → Unowned b
unfolding is_unowned is_part_of_run is_of_run
facts_of_is_unowned b t = go (is_unused b) refl
  where
    go : (x : Bool) → is_unused b ≡ x → Unowned b
    go true e = unowned_of_unused b (facts_of_is_unused b (T_of_true _ e))
    go false e =
        let r = either_right_of_left_false (is_unused b) _ t e in
        let r1 = both_right (eqb b.owner run_owner) _ r in
        record {
          owner = inr (eqb→eq b.owner run_owner (both_left (eqb b.owner run_owner) _ r));
          class = eqb→eq b.class 0 (both_left (eqb b.class 0) _ r1);
          live = eqb→eq (live_in b) 0 (both_right (eqb b.class 0) _ r1);
        }

pub is_unowned_of_facts : (b : Superblock) → Unowned b → T (is_unowned b)
unfolding is_unowned is_part_of_run is_of_run
is_unowned_of_facts b h =
    ⊎_elim (λ e. either_left (is_unused b) _ (is_unused_of_facts b (unused_of_unowned b h e)))
    (λ e. either_right (is_unused b) _
    (both_make (eqb b.owner run_owner) _ (T_of_true _ (eq-eqb b.owner run_owner e))
    (both_make (eqb b.class 0) _ (T_of_true _ (eq-eqb b.class 0 h.class)) (T_of_true _ (eq-eqb (live_in b) 0 h.live)))))
    h.owner

-- the superblocks of a new state
pub unused_is_unused : Unused unused
unused_is_unused = record { owner = refl; class = refl; live = live_count_of_no_marks }

module _ (u : Setup) (order : List ℕ) (k : ℕ) (b : Superblock) where
  pub unowned_or_owned_of_superblock_valid : T (superblock_valid u order k b) → Unowned b ⊎ Owned u order k b
  unfolding superblock_valid is_owned
  unowned_or_owned_of_superblock_valid t = go (is_unowned b) refl
    where
      go : (x : Bool) → is_unowned b ≡ x → Unowned b ⊎ Owned u order k b
      go true e = inl (facts_of_is_unowned b (T_of_true _ e))
      go false e =
          let r = either_right_of_left_false (is_unowned b) _ t e in
          let r1 = both_right (leb b.owner u.processors) _ r in
          inr (record {
            owner = leb→le b.owner u.processors (both_left (leb b.owner u.processors) _ r);
            class = ltb→lt b.class class_count (both_left (ltb b.class class_count) _ r1);
            places = both_right (ltb b.class class_count) _ r1;
          })

  pub superblock_valid_of_unowned : Unowned b → T (superblock_valid u order k b)
  unfolding superblock_valid
  superblock_valid_of_unowned h = either_left (is_unowned b) _ (is_unowned_of_facts b h)

  pub superblock_valid_of_owned : Owned u order k b → T (superblock_valid u order k b)
  unfolding superblock_valid is_owned
  superblock_valid_of_owned h =
      either_right (is_unowned b) _
      (both_make (leb b.owner u.processors) _ (le→leb b.owner u.processors h.owner)
      (both_make (ltb b.class class_count) _ (lt→ltb b.class class_count h.class) h.places))

unused_of_unused_from : (n k : ℕ) (b : Superblock) → T (unused_from n k b) → n ≤ k → Unused b
unfolding unused_from
unused_of_unused_from n k b t l = facts_of_is_unused b (either_right_of_left_false (ltb k n) (is_unused b) t (le-ltb k n l))

unused_from_of_unused : (n k : ℕ) (b : Superblock) → (n ≤ k → Unused b) → T (unused_from n k b)
unfolding unused_from
unused_from_of_unused n k b h = go (ltb k n) refl
  where
    go : (x : Bool) → ltb k n ≡ x → T (either x (is_unused b))
    go true e = tt
    go false e = is_unused_of_facts b (h (ltb-false k n e))

sparse_of_sparse_if_global : (u : Setup) (b : Superblock) → T (sparse_if_global u b) → b.owner ≡ 0 → Sparse u b
unfolding sparse_if_global
sparse_of_sparse_if_global u b t e = ltb→lt (u.q * live_in b) ((u.q - u.p) * blocks_of b.class)
    (either_right_of_left_false (not (eqb b.owner 0)) _ t (ap not (eq-eqb b.owner 0 e)))

sparse_if_global_of_sparse : (u : Setup) (b : Superblock) → (b.owner ≡ 0 → Sparse u b) → T (sparse_if_global u b)
unfolding sparse_if_global
sparse_if_global_of_sparse u b h = go (ℕ_discrete b.owner 0)
  where
    go : Dec (b.owner ≡ 0) → T (either (not (eqb b.owner 0)) (ltb (u.q * live_in b) ((u.q - u.p) * blocks_of b.class)))
    go (yes e) = either_right (not (eqb b.owner 0)) _ (lt→ltb (u.q * live_in b) ((u.q - u.p) * blocks_of b.class) (h e))
    go (no f) = either_left (not (eqb b.owner 0)) _ (T_of_true _ (ap not (ne_eqb b.owner 0 f)))

-- ---- the whole state
not_must_move_of_emptiness_invariant : (s : State) → T (emptiness_invariant s) → (h c : ℕ) → 1 ≤ h → h ≤ s.setup.processors → c < class_count
    → T (must_move h c s) → ⊥
unfolding emptiness_invariant
not_must_move_of_emptiness_invariant s t zero c low high lc m = omega arith
not_must_move_of_emptiness_invariant s t (suc i) c low high lc m =
    T_not (must_move (suc i) c s)
    (all_at (λ d. not (must_move (suc i) d s)) class_count
    (all_at (λ j. all_below (λ d. not (must_move (suc j) d s)) class_count) s.setup.processors t i high) c lc) m

emptiness_invariant_of_not_must_move : (s : State) → ((h c : ℕ) → 1 ≤ h → h ≤ s.setup.processors → c < class_count → T (must_move h c s) → ⊥)
    → T (emptiness_invariant s)
unfolding emptiness_invariant
emptiness_invariant_of_not_must_move s h =
    all_of_each (λ j. all_below (λ d. not (must_move (suc j) d s)) class_count) s.setup.processors
    (λ i l. all_of_each (λ d. not (must_move (suc i) d s)) class_count (λ c lc. not_T (must_move (suc i) c s) (h (suc i) c (omega arith) l lc)))

-- the check's two parts, as the calls test them
pub sound_of_limits_and_rest : (s : State) (order : List ℕ) → T (within_limits s.setup) → T (rest_valid s order) → Sound s order
sound_of_limits_and_rest s order a b =
    let clauses = clauses_of_rest s order b in
    record {
      numbers = facts_of_within_limits s.setup a;
      each = λ k l. unowned_or_owned_of_superblock_valid s.setup order k (superblock_at s k)
          (all_at (λ k. superblock_valid s.setup order k (superblock_at s k)) 64 clauses.superblocks k l);
      past_unused = λ k l. unused_of_unused_from s.setup.superblocks k (superblock_at s k)
          (all_at (λ k. unused_from s.setup.superblocks k (superblock_at s k)) 64 clauses.past_unused k l);
      invariant = not_must_move_of_emptiness_invariant s clauses.processor_heaps;
      sparse = λ k l. sparse_of_sparse_if_global s.setup (superblock_at s k)
          (all_at (λ k. sparse_if_global s.setup (superblock_at s k)) 64 clauses.global_heap k l);
    }

pub names_valid_of_rest : (s : State) (order : List ℕ) → T (rest_valid s order) → T (names_valid s)
names_valid_of_rest s order b = (clauses_of_rest s order b).names

pub totals_kept_of_rest : (s : State) (order : List ℕ) → T (rest_valid s order) → TotalsKept s
totals_kept_of_rest s order b = totals_kept_of_valid s (clauses_of_rest s order b).totals

-- the names
pub names_sound_of_valid : (s : State) → T (names_valid s) → NamesSound s
unfolding names_valid
names_sound_of_valid s t =
    record {
      live = test_of_block_named (is_live_block s) s.names (both_left (each_held (is_live_block s) s.names) _ t);
      distinct = same_name_of_same_block s.names (both_right (each_held (is_live_block s) s.names) _ t);
    }

pub names_valid_of_sound : (s : State) → NamesSound s → T (names_valid s)
unfolding names_valid
names_valid_of_sound s h = both_make (each_held (is_live_block s) s.names) _ (each_held_of_blocks_named (is_live_block s) s.names h.live)
    (no_two_of_same_name s.names h.distinct)

pub ranks_valid_of_rest : (s : State) (order : List ℕ) → T (rest_valid s order) → T (ranks_valid s)
ranks_valid_of_rest s order b = (clauses_of_rest s order b).ranks

pub runs_valid_of_rest : (s : State) (order : List ℕ) → T (rest_valid s order) → T (runs_valid s)
runs_valid_of_rest s order b = (clauses_of_rest s order b).runs

pub rest_valid_of_sound : (s : State) (order : List ℕ) → Sound s order → T (names_valid s) → TotalsKept s → T (ranks_valid s) → T (runs_valid s)
    → T (rest_valid s order)
rest_valid_of_sound s order h names totals ranks runs =
    rest_of_clauses s order
    (record {
      superblocks = all_of_each (λ k. superblock_valid s.setup order k (superblock_at s k)) 64 (λ k l. good k (h.each k l));
      past_unused = all_of_each (λ k. unused_from s.setup.superblocks k (superblock_at s k)) 64
          (λ k l. unused_from_of_unused s.setup.superblocks k (superblock_at s k) (h.past_unused k l));
      processor_heaps = emptiness_invariant_of_not_must_move s h.invariant;
      global_heap = all_of_each (λ k. sparse_if_global s.setup (superblock_at s k)) 64
          (λ k l. sparse_if_global_of_sparse s.setup (superblock_at s k) (h.sparse k l));
      names = names;
      totals = totals_valid_of_kept s totals;
      ranks = ranks;
      runs = runs;
    })
  where
    good : (k : ℕ) → Unowned (superblock_at s k) ⊎ Owned s.setup order k (superblock_at s k) → T (superblock_valid s.setup order k (superblock_at s k))
    good k (inl a) = superblock_valid_of_unowned s.setup order k (superblock_at s k) a
    good k (inr a) = superblock_valid_of_owned s.setup order k (superblock_at s k) a

pub sound_of_passes : (s : State) (order : List ℕ) → T (passes s order) → Sound s order
sound_of_passes s order t = sound_of_limits_and_rest s order (limits_of_passes s order t) (rest_of_passes s order t)

pub totals_kept_of_passes : (s : State) (order : List ℕ) → T (passes s order) → TotalsKept s
totals_kept_of_passes s order t = totals_kept_of_rest s order (rest_of_passes s order t)

pub passes_of_sound : (s : State) (order : List ℕ) → Sound s order → T (names_valid s) → TotalsKept s → T (ranks_valid s) → T (runs_valid s)
    → T (passes s order)
passes_of_sound s order h names totals ranks runs =
    passes_of_limits_and_rest s order (within_limits_of_facts s.setup h.numbers) (rest_valid_of_sound s order h names totals ranks runs)

-- ---- a new state
pub superblock_at_new_state_unused : (u : Setup) (k : ℕ) → k < 64 → superblock_at (new_state u) k ≡ unused
superblock_at_new_state_unused u k l = get_or-replicate 64 k unused blank l

-- no heap of it must move
new_state_not_must_move : (u : Setup) (h c : ℕ) → h < unused_owner → T (must_move h c (new_state u)) → ⊥
unfolding must_move both_conditions blocks_in
new_state_not_must_move u h c l m =
    let more = ltb→lt (live_of h c (new_state u) + u.spare * blocks_of c) (superblocks_of h c (new_state u) * blocks_of c)
    (both_left (ltb (live_of h c (new_state u) + u.spare * blocks_of c) (superblocks_of h c (new_state u) * blocks_of c)) _ m) in
    let none : superblocks_of h c (new_state u) * blocks_of c ≡ 0 = rw (superblocks_of_new_state u h c l) (zero-mul (blocks_of c)) in
    omega arith

-- it passes, with any storage
pub new_state_sound : (u : Setup) (order : List ℕ) → T (within_limits u) → Sound (new_state u) order
new_state_sound u order t = record {
  numbers = numbers;
  each = λ k l. inl (unowned_of_unused _ (free k l));
  past_unused = λ k l m. free k l;
  invariant = none_must_move;
  sparse = λ k l e. absurd (owned k l e);
}
  where
    numbers : WithinLimits u
    numbers = facts_of_within_limits u t

    free : (k : ℕ) → k < 64 → Unused (superblock_at (new_state u) k)
    free k l = subst Unused (sym (superblock_at_new_state_unused u k l)) unused_is_unused

    owned : (k : ℕ) → k < 64 → (superblock_at (new_state u) k).owner ≡ 0 → ⊥
    owned k l e = omega (arith, (free k l).owner)

    none_must_move : (h c : ℕ) → 1 ≤ h → h ≤ u.processors → c < class_count → T (must_move h c (new_state u)) → ⊥
    none_must_move h c low high lc m = new_state_not_must_move u h c (omega (arith, numbers.processors_high)) m

pub new_state_names_valid : (u : Setup) → T (names_valid (new_state u))
unfolding names_valid
new_state_names_valid u = both_make (each_held (is_live_block (new_state u)) no_names) _ (each_held_of_no_names (is_live_block (new_state u)) 1024)
    (no_two_of_no_names 1024)

pub new_state_shape : (u : Setup) → Shape (new_state u)
new_state_shape u =
    record {
      length_is = length-replicate 64 unused;
      marks_length = λ k l. ap (λ (b : Superblock). length b.live) (superblock_at_new_state_unused u k l);
      names_length = length-replicate 1024 not_held;
      superblock_totals_length = length-replicate {A = ℕ} total_count 0;
      live_totals_length = length-replicate {A = ℕ} total_count 0;
    }

-- a superblock replaced by one with four numbers of marks keeps the shape
pub shape_with_superblock : (s : State) (k : ℕ) (b : Superblock) → Shape s → k < 64 → length b.live ≡ 4 → Shape (with_superblock s k b)
shape_with_superblock s k b h l e = record {
  length_is = length-set s.table k b ∙ h.length_is;
  marks_length = λ j lj. at j lj (ℕ_discrete j k);
  names_length = h.names_length;
  superblock_totals_length = length_recounted_superblocks _;
  live_totals_length = length_recounted_live _;
}
  where
    at : (j : ℕ) → j < 64 → Dec (j ≡ k) → length (superblock_at (with_superblock s k b) j).live ≡ 4
    at j lj (yes q) = ap (λ (i : ℕ). length (superblock_at (with_superblock s k b) i).live) q ∙ ap (λ (d : Superblock). length d.live)
        (superblock_at_replaced s k b h.length_is l) ∙ e
    at j lj (no f) = ap (λ (d : Superblock). length d.live) (superblock_at_others s k b j f) ∙ h.marks_length j lj

-- other names change nothing of the rest
pub shape_with_names : (s : State) (names : List ℕ) → Shape s → length names ≡ 1024 → Shape (with_names s names)
shape_with_names s names h e = record {
  length_is = h.length_is;
  marks_length = h.marks_length;
  names_length = e;
  superblock_totals_length = h.superblock_totals_length;
  live_totals_length = h.live_totals_length;
}

pub sound_with_names : (s : State) (names order : List ℕ) → Sound s order → Sound (with_names s names) order
unfolding must_move blocks_in superblocks_of live_of
sound_with_names s names order h = record { numbers = h.numbers; each = h.each; past_unused = h.past_unused; invariant = h.invariant; sparse = h.sparse }

pub sound_after_frees_with_names : (freed : ℕ → ℕ → ℕ) (s : State) (names order : List ℕ) → SoundAfterFrees freed s order
    → SoundAfterFrees freed (with_names s names) order
unfolding blocks_in superblocks_of live_of
sound_after_frees_with_names freed s names order h = record {
  numbers = h.numbers;
  each = h.each;
  past_unused = h.past_unused;
  invariant = h.invariant;
  sparse = h.sparse;
}

-- ---- what a state that passes says of one superblock
-- fewer live than the share of n that sparse allows are fewer than n
live_lt_blocks_of_sparse : (q p live n : ℕ) → q * live < (q - p) * n → live < n
live_lt_blocks_of_sparse q p live n h = go (dec_lt live n)
  where
    go : Dec (live < n) → live < n
    go (yes l) = l
    go (no f) = absurd (let z : ⊥ =
        omega (arith, mul-le-mul_left {m = n} {n = live} q (omega arith), mul-le-mul_right {m = q - p} {n = q} n (omega arith)) in z)

module _ {Invariant : ℕ → ℕ → State → Type 0} (s : State) (order : List ℕ) (sound : SoundWith Invariant s order) (k : ℕ) (l : k < 64) where
  -- a superblock that is not unused has a number below N
  pub owned_below_superblocks : ((superblock_at s k).owner ≡ unused_owner → ⊥) → k < s.setup.superblocks
  owned_below_superblocks f = go (dec_lt k s.setup.superblocks)
    where
      go : Dec (k < s.setup.superblocks) → k < s.setup.superblocks
      go (yes h) = h
      go (no g) = absurd (f (sound.past_unused k l (omega arith)).owner)

  pub owned_of_owner : (superblock_at s k).owner < run_owner → Owned s.setup order k (superblock_at s k)
  owned_of_owner f = go (sound.each k l)
    where
      go : Unowned (superblock_at s k) ⊎ Owned s.setup order k (superblock_at s k) → Owned s.setup order k (superblock_at s k)
      go (inl u) = absurd (not_of_heap_of_unowned (superblock_at s k) u f)
      go (inr o) = o

  -- it is unowned, or its owner is 0 to P
  pub unowned_of_owner : run_owner ≤ (superblock_at s k).owner → Unowned (superblock_at s k)
  unowned_of_owner f = go (sound.each k l)
    where
      go : Unowned (superblock_at s k) ⊎ Owned s.setup order k (superblock_at s k) → Unowned (superblock_at s k)
      go (inl u) = u
      go (inr o) = absurd (let z : ⊥ = omega (arith, o.owner, sound.numbers.processors_high) in z)

  -- not more live than blocks
  pub live_le_blocks_of_owned : (superblock_at s k).owner < run_owner → live_in (superblock_at s k) ≤ blocks_of (superblock_at s k).class
  live_le_blocks_of_owned f = live_count_le_of_places_valid order (superblock_at s k).live k (blocks_of (superblock_at s k).class)
      (blocks_of_le_256 (superblock_at s k).class) (owned_of_owner f).places

  -- a sparse superblock has a free block
  pub free_block_in_global : (superblock_at s k).owner ≡ 0 → live_in (superblock_at s k) < blocks_of (superblock_at s k).class
  free_block_in_global e = live_lt_blocks_of_sparse s.setup.q s.setup.p (live_in (superblock_at s k)) (blocks_of (superblock_at s k).class)
      (sound.sparse k l e)
