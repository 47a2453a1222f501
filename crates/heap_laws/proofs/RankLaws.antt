-- The ranking: the check's clause says that no two ranked superblocks have one rank and none is above the number of those ranked, which a free
-- into a superblock and a renewal keep. Assumes nothing.
use mathlib.Core.Path.{◌≡◌, refl, sym, ap, ◌∙◌, subst}
use mathlib.Core.Bool.{Bool, true, false, not}
use mathlib.Core.Logic.{◌⊎◌, inl, inr}
use mathlib.Core.List.{List}
use Prim.Native.Nat.{ℕ, zero, suc, ◌+◌, ◌-◌, ◌≤◌, ◌<◌}
use native.Mathlib.Nat.{pos_of_ne-zero}
use native.Mathlib.Decide.{ℕ_discrete}
use native.Mathlib.Omega.{arith}
use borrow.Author.Tests.{eq-eqb, ne_eqb, eqb-true}
use lib.ListN.{get_or}
use lib.Dec.{T, eqb, ltb, eqb→eq, ltb→lt, lt→ltb, T_not, not_T}
use Rattle.base_laws.specs.Sums.{both, one, all_below}
use Rattle.base_laws.proofs.TestLaws.{T_of_true, true_of_T, false_of_not_T, not_T_of_false, equal_of_iff, both_left, both_right, both_make, pick_true}
use Rattle.base_laws.proofs.TestLaws.{pick_false, one_le_one}
use Rattle.base_laws.proofs.Inequalities.{le_of_not_below}
use Rattle.base_laws.proofs.SumLaws.{sum_cong, term_le_sum, pos_term_of_pos_sum, all_at, all_of_each}
use Rattle.base_laws.proofs.Counting.{sum_le_of_terms_le_one}
use Rattle.heap_rules.specs.declared.Superblock.{Superblock}
use Rattle.heap_rules.specs.declared.Setup.{Setup}
use Rattle.heap_rules.specs.declared.State.{State}
use Rattle.heap_rules.specs.Table.{run_owner, unused_owner, blank, superblock_at, live_in, with_rank}
use Rattle.heap_rules.specs.States.{new_state}
use Rattle.heap_rules.specs.Counts.{total}
use Rattle.heap_rules.specs.Ranks.{is_ranked, is_more_recent, rank_after_free, rank_after_renewal, reranked, ranked_latest, unranked, RanksFit}
use Rattle.check_rules.specs.Check.{is_unowned, ranked_count, carrying, ranks_valid, passes}
use Rattle.heap_laws.proofs.StateFacts.{Unowned, RanksSound}
use Rattle.heap_laws.proofs.StateCheckLaws.{ranks_valid_of_rest, facts_of_is_unowned, is_unowned_of_facts, superblock_at_new_state_unused}
use Rattle.check_rules.proofs.ClauseLaws.{rest_of_passes}
use Rattle.heap_laws.proofs.ChoiceLaws.{MoreRecent, facts_of_more_recent, more_recent_of_facts}
use Rattle.heap_laws.proofs.RerankedLaws.{superblock_at_reranked}
use Rattle.heap_laws.proofs.Pigeonhole.{count_above, le_count_of_each_once, same_of_each_once, each_once_of_distinct, same_of_order_kept, count_kept}
use Rattle.heap_laws.proofs.Pigeonhole.{count_one_more, count_one_less}

-- ---- the check's clause
-- superblock k's rank
abbrev rank_at : State → ℕ → ℕ
rank_at s k = (superblock_at s k).rank

-- ranked: a rank that is not 0
ranked_of_rank : (b : Superblock) → 0 < b.rank → T (is_ranked b)
unfolding is_ranked
ranked_of_rank b h = lt→ltb 0 b.rank h

rank_of_ranked : (b : Superblock) → T (is_ranked b) → 0 < b.rank
unfolding is_ranked
rank_of_ranked b t = ltb→lt 0 b.rank t

zero_of_not_positive : (n : ℕ) → (0 < n → ⊥) → n ≡ 0
zero_of_not_positive zero f = refl
zero_of_not_positive (suc n) f = absurd (f (omega arith))

module _ (s : State) where
  -- its two parts: each of the ranks once, and none of a superblock that no heap owns
  carried_once_of_valid : T (ranks_valid s) → (r : ℕ) → r < ranked_count s → carrying (suc r) s ≡ 1
  unfolding ranks_valid
  carried_once_of_valid t r l =
      eqb→eq (carrying (suc r) s) 1
      (all_at (λ r. eqb (carrying (suc r) s) 1) (ranked_count s) (both_left (all_below (λ r. eqb (carrying (suc r) s) 1) (ranked_count s)) _ t) r l)

  unowned_unranked_of_valid : T (ranks_valid s) → (k : ℕ) → k < 64 → Unowned (superblock_at s k) → rank_at s k ≡ 0
  unfolding ranks_valid
  unowned_unranked_of_valid t k l u =
      zero_of_not_positive (rank_at s k)
      (λ h.
      T_not (both (is_unowned (superblock_at s k)) (is_ranked (superblock_at s k)))
      (all_at (λ k. not (both (is_unowned (superblock_at s k)) (is_ranked (superblock_at s k)))) 64
      (both_right (all_below (λ r. eqb (carrying (suc r) s) 1) (ranked_count s)) _ t) k l)
      (both_make (is_unowned (superblock_at s k)) _ (is_unowned_of_facts _ u) (ranked_of_rank _ h)))

  -- the clause as facts of the ranks, and back
  pub ranks_sound_of_valid : T (ranks_valid s) → RanksSound s
  unfolding ranked_count carrying total is_ranked
  ranks_sound_of_valid t =
      record {
        bounded = le_count_of_each_once (rank_at s) 64 (carried_once_of_valid t);
        distinct = same_of_each_once (rank_at s) 64 (carried_once_of_valid t);
        unowned_unranked = unowned_unranked_of_valid t;
      }

  carried_once_of_sound : RanksSound s → (r : ℕ) → r < ranked_count s → carrying (suc r) s ≡ 1
  unfolding ranked_count carrying total is_ranked
  carried_once_of_sound h = each_once_of_distinct (rank_at s) 64 h.bounded h.distinct

  pub ranks_valid_of_sound : RanksSound s → T (ranks_valid s)
  unfolding ranks_valid
  ranks_valid_of_sound h =
      both_make (all_below (λ r. eqb (carrying (suc r) s) 1) (ranked_count s)) _
      (all_of_each (λ r. eqb (carrying (suc r) s) 1) (ranked_count s) (λ r l. T_of_true _ (eq-eqb (carrying (suc r) s) 1 (carried_once_of_sound h r l))))
      (all_of_each (λ k. not (both (is_unowned (superblock_at s k)) (is_ranked (superblock_at s k)))) 64
      (λ k l. not_T (both (is_unowned (superblock_at s k)) (is_ranked (superblock_at s k))) (not_both k l)))
    where
      not_both : (k : ℕ) → k < 64 → T (both (is_unowned (superblock_at s k)) (is_ranked (superblock_at s k))) → ⊥
      not_both k l t =
          let u = facts_of_is_unowned (superblock_at s k) (both_left (is_unowned (superblock_at s k)) _ t) in
          let r = rank_of_ranked (superblock_at s k) (both_right (is_unowned (superblock_at s k)) _ t) in
          omega (arith, h.unowned_unranked k l u)

  -- no rank is above the number of superblocks
  pub ranks_fit_of_sound : RanksSound s → RanksFit s
  unfolding ranked_count total
  ranks_fit_of_sound h m l =
      omega (arith, h.bounded m l, sum_le_of_terms_le_one (λ k. one (is_ranked (superblock_at s k))) 64 (λ k lk. one_le_one (is_ranked (superblock_at s k))))

  pub ranks_fit_of_passes : (order : List ℕ) → T (passes s order) → RanksFit s
  ranks_fit_of_passes order t = ranks_fit_of_sound (ranks_sound_of_valid (ranks_valid_of_rest s order (rest_of_passes s order t)))

  -- "the ranked ones carry 1 (latest) upwards, each once without a gap"
  pub each_rank_is_carried : T (ranks_valid s) → (r : ℕ) → 1 ≤ r → r ≤ ranked_count s → (k : ℕ) × (k < 64) × ((superblock_at s k).rank ≡ r)
  unfolding carrying total
  each_rank_is_carried t zero low high = absurd (let z : ⊥ = omega arith in z)
  each_rank_is_carried t (suc r) low high =
      let found = pos_term_of_pos_sum (λ k. one (eqb (rank_at s k) (suc r))) 64 (omega (arith, carried_once_of_valid t r high)) in
      (found.0, found.1, carried found.0 (eqb (rank_at s found.0) (suc r)) refl found.2)
    where
      carried : (k : ℕ) (b : Bool) → eqb (rank_at s k) (suc r) ≡ b → 0 < one (eqb (rank_at s k) (suc r)) → rank_at s k ≡ suc r
      carried k true e h = eqb-true (rank_at s k) (suc r) e
      carried k false e h = absurd (let z : ⊥ = omega (arith, ap one e) in z)

-- ---- states with given ranks
-- the facts of the ranks, from those of a function that gives them
ranks_sound_of_ranks : (t : State) (g : ℕ → ℕ) → ((m : ℕ) → m < 64 → rank_at t m ≡ g m) → ((m : ℕ) → m < 64 → g m ≤ count_above g 64 0)
    → ((k m : ℕ) → k < 64 → m < 64 → 0 < g k → g k ≡ g m → k ≡ m) → ((m : ℕ) → m < 64 → Unowned (superblock_at t m) → g m ≡ 0) → RanksSound t
unfolding ranked_count total is_ranked
ranks_sound_of_ranks t g same bounded distinct unowned_zero =
    record {
      bounded = λ k l. omega (
        arith,
        same k l,
        bounded k l,
        sum_cong (λ k. one (ltb 0 (rank_at t k))) (λ k. one (ltb 0 (g k))) 64
            (λ k l. ap (λ (x : ℕ). one (ltb 0 x)) (same k l)),
      );
      distinct = λ k m lk lm h e. distinct k m lk lm (omega (arith, same k lk)) (sym (same k lk) ∙ e ∙ same m lm);
      unowned_unranked = λ k l u. same k l ∙ unowned_zero k l u;
    }

-- a state with the same ranks, in which heaps own no fewer superblocks
pub ranks_sound_of_same_ranks : (s t : State) → ((k : ℕ) → k < 64 → (superblock_at t k).rank ≡ (superblock_at s k).rank)
    → ((k : ℕ) → k < 64 → Unowned (superblock_at t k) → Unowned (superblock_at s k)) → RanksSound s → RanksSound t
unfolding ranked_count total is_ranked
ranks_sound_of_same_ranks s t same kept h = ranks_sound_of_ranks t (rank_at s) same h.bounded h.distinct (λ m l u. h.unowned_unranked m l (kept m l u))

-- a new state has none ranked
pub rank_in_new_state : (u : Setup) (k : ℕ) → k < 64 → (superblock_at (new_state u) k).rank ≡ 0
rank_in_new_state u k l = ap (λ (b : Superblock). b.rank) (superblock_at_new_state_unused u k l)

pub new_state_ranks_sound : (u : Setup) → RanksSound (new_state u)
new_state_ranks_sound u = ranks_sound_of_ranks (new_state u) (λ m. 0) (rank_in_new_state u) (λ m l. omega arith)
    (λ k m lk lm h e. absurd (let z : ⊥ = omega arith in z)) (λ m l e. refl)

-- ---- which of two superblocks was freed into more recently
module _ (b d : Superblock) where
  -- it is ranked, and ahead of the other where that is ranked too
  ranked_of_more_recent : T (is_more_recent b d) → 0 < b.rank
  ranked_of_more_recent t = (facts_of_more_recent b d t).0

  lower_of_more_recent : T (is_more_recent b d) → 0 < d.rank → b.rank < d.rank
  lower_of_more_recent t h = go (facts_of_more_recent b d t).1
    where
      go : (d.rank ≡ 0) ⊎ (b.rank < d.rank) → b.rank < d.rank
      go (inl e) = absurd (let z : ⊥ = omega arith in z)
      go (inr l) = l

  -- a ranked one that was not is behind the other
  ranks_of_not_more_recent : (T (is_more_recent b d) → ⊥) → 0 < b.rank → (0 < d.rank) × (d.rank ≤ b.rank)
  ranks_of_not_more_recent n h = (pos_of_ne-zero (λ e. n (more_recent_of_facts b d (h, inl e))), le_of_not_below (λ l. n (more_recent_of_facts b d (h, inr l))))

-- ---- the two rules, in the page's words
-- two numbers that are not 0 together
same_test_of_positive : (x y : ℕ) → (0 < x → 0 < y) → (0 < y → 0 < x) → ltb 0 x ≡ ltb 0 y
same_test_of_positive x y f g = equal_of_iff (ltb 0 x) (ltb 0 y) (λ t. lt→ltb 0 y (f (ltb→lt 0 x t))) (λ t. lt→ltb 0 x (g (ltb→lt 0 y t)))

module _ (k : ℕ) (table : List Superblock) where
  -- the superblock freed into is the latest, and a renewed one has no rank
  pub rank_after_free_of_superblock : rank_after_free k table k ≡ 1
  unfolding rank_after_free
  rank_after_free_of_superblock = pick_true _ _ _ (eq-eqb k k refl)

  pub rank_after_renewal_of_superblock : rank_after_renewal k table k ≡ 0
  unfolding rank_after_renewal
  rank_after_renewal_of_superblock = pick_true _ _ _ (eq-eqb k k refl)

  -- the others
  module _ (m : ℕ) (other : m ≡ k → ⊥) where
    -- the rule itself
    rank_after_free_of_other : rank_after_free k table m ≡ (get_or table m blank).rank + one (is_more_recent (get_or table m blank) (get_or table k blank))
    unfolding rank_after_free
    rank_after_free_of_other = pick_false _ _ _ (ne_eqb m k other)

    rank_after_renewal_of_other : rank_after_renewal k table m
        ≡ (get_or table m blank).rank - one (is_more_recent (get_or table k blank) (get_or table m blank))
    unfolding rank_after_renewal
    rank_after_renewal_of_other = pick_false _ _ _ (ne_eqb m k other)

    -- a free into k: each that was ahead of k goes one back, and what was not stays
    pub rank_after_free_ahead : MoreRecent (get_or table m blank) (get_or table k blank) → rank_after_free k table m ≡ suc (get_or table m blank).rank
    rank_after_free_ahead h =
        omega (arith, rank_after_free_of_other, ap one (true_of_T (is_more_recent (get_or table m blank) (get_or table k blank)) (more_recent_of_facts _ _ h)))

    pub rank_after_free_behind : (MoreRecent (get_or table m blank) (get_or table k blank) → ⊥) → rank_after_free k table m ≡ (get_or table m blank).rank
    rank_after_free_behind n =
        omega (
          arith,
          rank_after_free_of_other,
          ap one (false_of_not_T (is_more_recent (get_or table m blank) (get_or table k blank)) (λ t. n (facts_of_more_recent _ _ t))),
        )

    -- a renewal of k: each that was behind k goes one ahead, and what was not stays
    pub rank_after_renewal_behind : 0 < (get_or table k blank).rank → (get_or table k blank).rank < (get_or table m blank).rank → rank_after_renewal k table m
        ≡ (get_or table m blank).rank - 1
    rank_after_renewal_behind h l =
        omega (
          arith,
          rank_after_renewal_of_other,
          ap one (true_of_T (is_more_recent (get_or table k blank) (get_or table m blank)) (more_recent_of_facts _ _ (h, inr l))),
        )

    pub rank_after_renewal_ahead : (0 < (get_or table k blank).rank → (get_or table k blank).rank < (get_or table m blank).rank → ⊥)
        → rank_after_renewal k table m
        ≡ (get_or table m blank).rank
    rank_after_renewal_ahead n = go (is_more_recent (get_or table k blank) (get_or table m blank)) refl (get_or table m blank).rank refl
      where
        go : (t : Bool) → is_more_recent (get_or table k blank) (get_or table m blank) ≡ t → (r : ℕ) → (get_or table m blank).rank ≡ r
            → rank_after_renewal k table m
            ≡ (get_or table m blank).rank
        go t e zero q = omega (arith, rank_after_renewal_of_other)
        go true e (suc r) q =
            absurd (n (ranked_of_more_recent _ _ (T_of_true _ e))
            (lower_of_more_recent (get_or table k blank) (get_or table m blank) (T_of_true _ e) (omega arith)))
        go false e (suc r) q = omega (arith, rank_after_renewal_of_other, ap one e)

    -- the others stay ranked or unranked
    pub ranked_of_ranked_after_free : 0 < rank_after_free k table m → 0 < (get_or table m blank).rank
    ranked_of_ranked_after_free h = go (is_more_recent (get_or table m blank) (get_or table k blank)) refl
      where
        go : (t : Bool) → is_more_recent (get_or table m blank) (get_or table k blank) ≡ t → 0 < (get_or table m blank).rank
        go true e = ranked_of_more_recent _ _ (T_of_true _ e)
        go false e = omega (arith, rank_after_free_of_other, ap one e)

    pub ranked_after_free_of_ranked : 0 < (get_or table m blank).rank → 0 < rank_after_free k table m
    ranked_after_free_of_ranked h = omega (arith, rank_after_free_of_other)

    pub ranked_of_ranked_after_renewal : 0 < rank_after_renewal k table m → 0 < (get_or table m blank).rank
    ranked_of_ranked_after_renewal h = omega (arith, rank_after_renewal_of_other)

    pub ranked_after_renewal_of_ranked : 0 < (get_or table m blank).rank → 0 < rank_after_renewal k table m
    ranked_after_renewal_of_ranked h = go (is_more_recent (get_or table k blank) (get_or table m blank)) refl
      where
        go : (t : Bool) → is_more_recent (get_or table k blank) (get_or table m blank) ≡ t → 0 < rank_after_renewal k table m
        go true e =
            let l = lower_of_more_recent (get_or table k blank) (get_or table m blank) (T_of_true _ e) h in
            omega (arith, rank_after_renewal_of_other, ap one e, ranked_of_more_recent _ _ (T_of_true _ e))
        go false e = omega (arith, rank_after_renewal_of_other, ap one e)

-- ---- the order of the others is kept
module _ (k : ℕ) (s : State) (below : k < 64) (sound : RanksSound s) where
  module _ (i j : ℕ) (li : i < 64) (lj : j < 64) (other_i : i ≡ k → ⊥) (other_j : j ≡ k → ⊥) where
    -- among two others the one ahead stays ahead
    pub order_kept_by_free : (superblock_at s i).rank < (superblock_at s j).rank → rank_after_free k s.table i < rank_after_free k s.table j
    order_kept_by_free h =
        rw (rank_after_free_of_other k s.table i other_i, rank_after_free_of_other k s.table j other_j)
        (go (is_more_recent (superblock_at s i) (superblock_at s k)) (is_more_recent (superblock_at s j) (superblock_at s k)) refl refl)
      where
        go : (t u : Bool) → is_more_recent (superblock_at s i) (superblock_at s k) ≡ t → is_more_recent (superblock_at s j) (superblock_at s k) ≡ u
            → rank_at s i + one t < rank_at s j + one u
        go false u e f = omega arith
        go true true e f = omega arith
        -- i goes back to just ahead of where k was, and j is behind that
        go true false e f =
            let r = ranks_of_not_more_recent (superblock_at s j) (superblock_at s k) (not_T_of_false _ f) (omega arith) in
            let l = lower_of_more_recent (superblock_at s i) (superblock_at s k) (T_of_true _ e) r.0 in
            let apart : rank_at s j ≡ rank_at s k → ⊥ = λ q. other_j (sound.distinct j k lj below (omega arith) q) in
            omega arith

    pub order_kept_by_renewal : 0 < (superblock_at s i).rank → (superblock_at s i).rank < (superblock_at s j).rank
        → rank_after_renewal k s.table i < rank_after_renewal k s.table j
    order_kept_by_renewal p h =
        rw (rank_after_renewal_of_other k s.table i other_i, rank_after_renewal_of_other k s.table j other_j)
        (go (is_more_recent (superblock_at s k) (superblock_at s i)) (is_more_recent (superblock_at s k) (superblock_at s j)) refl refl)
      where
        go : (t u : Bool) → is_more_recent (superblock_at s k) (superblock_at s i) ≡ t → is_more_recent (superblock_at s k) (superblock_at s j) ≡ u
            → rank_at s i - one t < rank_at s j - one u
        go t false e f = omega arith
        go true true e f = omega arith
        -- j comes to just behind where k was, and i is ahead of that
        go false true e f =
            let r = ranks_of_not_more_recent (superblock_at s k) (superblock_at s i) (not_T_of_false _ e) (ranked_of_more_recent _ _ (T_of_true _ f)) in
            let l = lower_of_more_recent (superblock_at s k) (superblock_at s j) (T_of_true _ f) (omega arith) in
            let apart : rank_at s i ≡ rank_at s k → ⊥ = λ q. other_i (sound.distinct i k li below p q) in
            omega arith

  -- the superblock freed into is ahead of each other that is ranked
  pub latest_after_free : (m : ℕ) → m < 64 → (m ≡ k → ⊥) → 0 < (superblock_at s m).rank → 1 < rank_after_free k s.table m
  latest_after_free m l other h = rw (rank_after_free_of_other k s.table m other) (go (is_more_recent (superblock_at s m) (superblock_at s k)) refl)
    where
      go : (t : Bool) → is_more_recent (superblock_at s m) (superblock_at s k) ≡ t → 1 < rank_at s m + one t
      go true e = omega arith
      go false e =
          let r = ranks_of_not_more_recent (superblock_at s m) (superblock_at s k) (not_T_of_false _ e) h in
          let apart : rank_at s m ≡ rank_at s k → ⊥ = λ q. other (sound.distinct m k l below h q) in
          omega arith

  -- no two are alike
  distinct_after_free : (i j : ℕ) → i < 64 → j < 64 → 0 < rank_after_free k s.table i → rank_after_free k s.table i ≡ rank_after_free k s.table j → i ≡ j
  distinct_after_free =
      same_of_order_kept (rank_at s) (rank_after_free k s.table) 64 k sound.distinct (ranked_of_ranked_after_free k s.table)
      (λ i j li lj a b p. order_kept_by_free i j li lj a b)
      (λ i l a p e. let z : ⊥ =
      omega (arith, e, rank_after_free_of_superblock k s.table, latest_after_free i l a (ranked_of_ranked_after_free k s.table i a p)) in z)

  distinct_after_renewal : (i j : ℕ) → i < 64 → j < 64 → 0 < rank_after_renewal k s.table i → rank_after_renewal k s.table i ≡ rank_after_renewal k
      s.table j → i ≡ j
  distinct_after_renewal =
      same_of_order_kept (rank_at s) (rank_after_renewal k s.table) 64 k sound.distinct (ranked_of_ranked_after_renewal k s.table) order_kept_by_renewal
      (λ i l a p e. let z : ⊥ = omega (arith, e, rank_after_renewal_of_superblock k s.table) in z)

  -- none is above their number, which grows by one where k was not ranked
  bounded_after_free : (m : ℕ) → m < 64 → rank_after_free k s.table m ≤ count_above (rank_after_free k s.table) 64 0
  unfolding ranked_count total is_ranked
  bounded_after_free m l = go (ℕ_discrete m k)
    where
      after : ℕ → ℕ
      after = rank_after_free k s.table

      still : (i : ℕ) → (i ≡ k → ⊥) → ltb 0 (after i) ≡ ltb 0 (rank_at s i)
      still i a = same_test_of_positive (after i) (rank_at s i) (ranked_of_ranked_after_free k s.table i a) (ranked_after_free_of_ranked k s.table i a)

      first : after k ≡ 1
      first = rank_after_free_of_superblock k s.table

      others : (r : ℕ) → rank_at s k ≡ r → (t : Bool) → is_more_recent (superblock_at s m) (superblock_at s k) ≡ t
          → rank_at s m + one t ≤ count_above after 64 0
      others zero e t f = omega (arith, one_le_one t, sound.bounded m l, count_one_more (rank_at s) after 64 k still below e (omega (arith, first)))
      others (suc r) e t f =
          let kept = count_kept (rank_at s) after 64 k still (same_test_of_positive (after k) (rank_at s k) (λ p. omega arith) (λ p. omega (arith, first))) in
          omega (arith, fewer t f)
        where
          fewer : (t : Bool) → is_more_recent (superblock_at s m) (superblock_at s k) ≡ t → rank_at s m + one t ≤ ranked_count s
          fewer true f = omega (arith, sound.bounded k below, lower_of_more_recent (superblock_at s m) (superblock_at s k) (T_of_true _ f) (omega arith))
          fewer false f = omega (arith, sound.bounded m l)

      go : Dec (m ≡ k) → after m ≤ count_above after 64 0
      go (yes q) = omega (arith, first, ap after q, ap (λ (x : ℕ). one (ltb 0 x)) first, term_le_sum (λ i. one (ltb 0 (after i))) 64 k below)
      go (no a) = rw (rank_after_free_of_other k s.table m a) (others (rank_at s k) refl _ refl)

  -- and falls by one where k was ranked
  bounded_after_renewal : (m : ℕ) → m < 64 → rank_after_renewal k s.table m ≤ count_above (rank_after_renewal k s.table) 64 0
  unfolding ranked_count total is_ranked
  bounded_after_renewal m l = go (ℕ_discrete m k)
    where
      after : ℕ → ℕ
      after = rank_after_renewal k s.table

      still : (i : ℕ) → (i ≡ k → ⊥) → ltb 0 (after i) ≡ ltb 0 (rank_at s i)
      still i a = same_test_of_positive (after i) (rank_at s i) (ranked_of_ranked_after_renewal k s.table i a)
          (ranked_after_renewal_of_ranked k s.table i a)

      none : after k ≡ 0
      none = rank_after_renewal_of_superblock k s.table

      others : (m ≡ k → ⊥) → (r : ℕ) → rank_at s k ≡ r → (t : Bool) → is_more_recent (superblock_at s k) (superblock_at s m) ≡ t
          → rank_at s m - one t ≤ count_above after 64 0
      others a zero e t f =
          let kept = count_kept (rank_at s) after 64 k still (same_test_of_positive (after k) (rank_at s k) (λ p. omega (arith, none)) (λ p. omega arith)) in
          omega (arith, sound.bounded m l)
      others a (suc r) e t f = fewer t f (rank_at s m) refl
        where
          count : ranked_count s ≡ suc (count_above after 64 0)
          count = count_one_less (rank_at s) after 64 k still below (omega arith) none

          fewer : (t : Bool) → is_more_recent (superblock_at s k) (superblock_at s m) ≡ t → (x : ℕ) → rank_at s m ≡ x
              → rank_at s m - one t ≤ count_above after 64 0
          fewer true f x q = omega (arith, sound.bounded m l, count)
          fewer false f zero q = omega arith
          fewer false f (suc x) q =
              let b = ranks_of_not_more_recent (superblock_at s k) (superblock_at s m) (not_T_of_false _ f) (omega arith) in
              let apart : rank_at s m ≡ rank_at s k → ⊥ = λ z. a (sound.distinct m k l below (omega arith) z) in
              omega (arith, sound.bounded k below, count)

      go : Dec (m ≡ k) → after m ≤ count_above after 64 0
      go (yes q) = omega (arith, ap after q, none)
      go (no a) = rw (rank_after_renewal_of_other k s.table m a) (others a (rank_at s k) refl _ refl)

-- ---- the states after a free and after a renewal
module _ (k : ℕ) (s : State) (m : ℕ) (l : m < 64) where
  pub superblock_at_unranked : superblock_at (unranked k s) m ≡ with_rank (rank_after_renewal k s.table m) (superblock_at s m)
  unfolding unranked
  superblock_at_unranked = superblock_at_reranked (rank_after_renewal k s.table) s m l

-- another rank makes no superblock unowned
unowned_with_rank : (r : ℕ) (b d : Superblock) → d ≡ with_rank r b → Unowned d → Unowned b
unowned_with_rank r b d e h =
    record {
      owner = subst (λ (x : Superblock). (x.owner ≡ unused_owner) ⊎ (x.owner ≡ run_owner)) e h.owner;
      class = ap (λ (x : Superblock). x.class) (sym e) ∙ h.class;
      live = ap (λ (x : Superblock). live_in x) (sym e) ∙ h.live;
    }

reranked_ranks_sound : (rank : ℕ → ℕ) (s : State) → ((m : ℕ) → m < 64 → rank m ≤ count_above rank 64 0)
    → ((k m : ℕ) → k < 64 → m < 64 → 0 < rank k → rank k ≡ rank m → k ≡ m)
    → ((m : ℕ) → m < 64 → Unowned (superblock_at s m) → rank m ≡ 0) → RanksSound (reranked rank s)
reranked_ranks_sound rank s bounded distinct unowned_zero =
    ranks_sound_of_ranks (reranked rank s) rank (λ m l. ap (λ (b : Superblock). b.rank) (superblock_at_reranked rank s m l)) bounded distinct
    (λ m l u. unowned_zero m l (unowned_with_rank (rank m) (superblock_at s m) _ (superblock_at_reranked rank s m l) u))

-- a free into a superblock that a heap owns, and a renewal, keep the ranking's facts
pub ranked_latest_ranks_sound : (k : ℕ) (s : State) → k < 64 → (Unowned (superblock_at s k) → ⊥) → RanksSound s → RanksSound (ranked_latest k s)
unfolding ranked_latest
ranked_latest_ranks_sound k s below in_use sound =
    reranked_ranks_sound (rank_after_free k s.table) s (bounded_after_free k s below sound) (distinct_after_free k s below sound)
    (λ m l u. unowned_zero m l u (ℕ_discrete m k))
  where
    unowned_zero : (m : ℕ) → m < 64 → Unowned (superblock_at s m) → Dec (m ≡ k) → rank_after_free k s.table m ≡ 0
    unowned_zero m l u (yes q) = absurd (in_use (subst (λ (i : ℕ). Unowned (superblock_at s i)) q u))
    unowned_zero m l u (no a) = zero_of_not_positive _ (λ h. let r = ranked_of_ranked_after_free k s.table m a h in
        omega (arith, sound.unowned_unranked m l u))

pub unranked_ranks_sound : (k : ℕ) (s : State) → k < 64 → RanksSound s → RanksSound (unranked k s)
unfolding unranked
unranked_ranks_sound k s below sound =
    reranked_ranks_sound (rank_after_renewal k s.table) s (bounded_after_renewal k s below sound) (distinct_after_renewal k s below sound)
    (λ m l u. unowned_zero m l u (ℕ_discrete m k))
  where
    unowned_zero : (m : ℕ) → m < 64 → Unowned (superblock_at s m) → Dec (m ≡ k) → rank_after_renewal k s.table m ≡ 0
    unowned_zero m l u (yes q) = ap (rank_after_renewal k s.table) q ∙ rank_after_renewal_of_superblock k s.table
    unowned_zero m l u (no a) = zero_of_not_positive _ (λ h. let r = ranked_of_ranked_after_renewal k s.table m a h in
        omega (arith, sound.unowned_unranked m l u))
