-- The ranks of a table met superblock by superblock, as the code goes: what they say of the ranking. Assumes nothing.
use mathlib.Core.Path.{◌≡◌, refl, sym, ap, ◌∙◌}
use mathlib.Core.Bool.{Bool, true, false}
use mathlib.Core.Logic.{◌⊎◌, inl, inr}
use mathlib.Core.List.{List}
use Prim.Native.Nat.{ℕ, ◌+◌, ◌*◌, ◌/◌, ◌%◌, ◌^◌, ◌≤◌, ◌<◌}
use native.Mathlib.Decide.{ℕ_discrete, dec_lt}
use native.Mathlib.Omega.{arith}
use lib.Dec.{T, leb, leb→le, le→leb}
use lib.ListN.{length, get_or, set}
use lib.Bits.{bit_or}
use borrow.Author.Tests.{lt-ltb, le-ltb}
use Rattle.base_laws.specs.Sums.{one, sum_below}
use Rattle.base_laws.proofs.TestLaws.{T_of_true, not_T_of_false, false_of_not_T, equal_of_iff, one_le_one}
use Rattle.base_laws.proofs.SumLaws.{sum_below_zero, sum_below_suc}
use Rattle.base_laws.proofs.Counting.{sum_le_of_terms_le_one}
use Rattle.marks_rules.specs.Marks.{mark_bit, with_mark, no_marks}
use Rattle.marks_laws.proofs.BitLaws.{shl_one}
use Rattle.marks_laws.proofs.MarkLaws.{length_with_mark, with_mark_same, with_mark_other, mark_bit_of_no_marks}
use Rattle.heap_rules.specs.declared.Superblock.{Superblock}
use Rattle.heap_rules.specs.declared.State.{State}
use Rattle.heap_rules.specs.Table.{run_owner, superblock_at}
use Rattle.heap_rules.specs.Counts.{total}
use Rattle.heap_rules.specs.Ranks.{is_ranked}
use Rattle.check_rules.specs.Check.{is_unowned, ranked_count, ranks_valid}
use Rattle.heap_laws.proofs.StateFacts.{RanksSound}
use Rattle.heap_laws.proofs.StateCheckLaws.{not_of_heap_of_unowned, facts_of_is_unowned, is_unowned_of_facts}
use Rattle.heap_laws.proofs.RankLaws.{ranks_sound_of_valid, ranks_valid_of_sound}

-- superblock k's rank
abbrev pub rank_of : State → ℕ → ℕ
rank_of s k = (superblock_at s k).rank

-- a superblock that a heap owns is neither unused nor part of a run
pub not_unowned_of_owner : (b : Superblock) → b.owner < run_owner → is_unowned b ≡ false
not_unowned_of_owner b l = false_of_not_T (is_unowned b) (λ t. not_of_heap_of_unowned b (facts_of_is_unowned b t) l)

-- the superblocks below k: how many are ranked, and the highest rank; a mark for each rank met, and no rank met twice
pub record RanksMet (s : State) (met : List ℕ) (ranked highest k : ℕ) : Type 0 where
  pub long : length met ≡ 4
  pub counted : ranked ≡ sum_below (λ j. one (is_ranked (superblock_at s j))) k
  pub not_above : (j : ℕ) → j < k → rank_of s j ≤ highest
  pub reached : (highest ≡ 0) ⊎ ((j : ℕ) × (j < k) × (rank_of s j ≡ highest))
  pub noted : (j : ℕ) → j < k → 0 < rank_of s j → mark_bit met (rank_of s j) ≡ 1
  pub carried : (r : ℕ) → mark_bit met r ≡ 1 → (j : ℕ) × (j < k) × (rank_of s j ≡ r)
  pub once : (i j : ℕ) → i < j → j < k → 0 < rank_of s i → rank_of s i ≡ rank_of s j → ⊥
  pub owned : (j : ℕ) → j < k → 0 < rank_of s j → is_unowned (superblock_at s j) ≡ false

pub none_met : (s : State) → RanksMet s no_marks 0 0 0
none_met s =
    record {
      long = refl;
      counted = sym (sum_below_zero _);
      not_above = λ j l. absurd (omega arith);
      reached = inl refl;
      noted = λ j l. absurd (omega arith);
      carried = λ r n. absurd (omega (arith, mark_bit_of_no_marks r));
      once = λ i j h l. absurd (omega arith);
      owned = λ j l. absurd (omega arith);
    }

-- rank x's mark set, as the code does it: its mask is a power of two
abbrev noted_in_code : List ℕ → ℕ → List ℕ
noted_in_code met x = set met (x / 64) (bit_or (get_or met (x / 64) 0) (1 * 2 ^ (x % 64) % 2 ^ 64))

noted_in_code_is_with_mark : (met : List ℕ) (x : ℕ) → noted_in_code met x ≡ with_mark met x
unfolding with_mark
noted_in_code_is_with_mark met x = rw (shl_one (x % 64) (omega arith))

ranked_one : (b : Superblock) → 0 < b.rank → one (is_ranked b) ≡ 1
unfolding is_ranked
ranked_one b h = rw (lt-ltb 0 b.rank h)

unranked_none : (b : Superblock) → b.rank ≤ 0 → one (is_ranked b) ≡ 0
unfolding is_ranked
unranked_none b h = rw (le-ltb 0 b.rank h)

module _ (s : State) (met : List ℕ) (ranked highest k : ℕ) (before : RanksMet s met ranked highest k) where
  -- no more are ranked than were looked at
  pub ranked_le : ranked ≤ k
  ranked_le = let few = sum_le_of_terms_le_one (λ j. one (is_ranked (superblock_at s j))) k (λ j l. one_le_one (is_ranked (superblock_at s j))) in
      omega (arith, before.counted)

  -- ---- superblock k has no rank
  pub step_unranked : (met' : List ℕ) (ranked' highest' : ℕ) → rank_of s k ≤ 0 → met' ≡ met → ranked' ≡ ranked → highest' ≡ highest
      → RanksMet s met' ranked' highest' (k + 1)
  step_unranked met' ranked' highest' h p q r =
      rw (p, q, r)
      (record {
        long = before.long;
        counted = let one_more = sum_below_suc (λ j. one (is_ranked (superblock_at s j))) k in
            omega (arith, before.counted, unranked_none (superblock_at s k) h);
        not_above = λ j l. not_above j l (ℕ_discrete j k);
        reached = reached before.reached;
        noted = λ j l n. before.noted j (below j l n) n;
        carried = λ r n. let at = before.carried r n in (at.0, omega arith, at.2);
        once = λ i j l m n e. before.once i j l (below j m (omega arith)) n e;
        owned = λ j l n. before.owned j (below j l n) n;
      })
    where
      -- a ranked one is another
      below : (j : ℕ) → j < k + 1 → 0 < rank_of s j → j < k
      below j l n = go (ℕ_discrete j k)
        where
          go : Dec (j ≡ k) → j < k
          go (yes e) = let z = ap (rank_of s) e in absurd (omega arith)
          go (no f) = omega arith

      not_above : (j : ℕ) → j < k + 1 → Dec (j ≡ k) → rank_of s j ≤ highest
      not_above j l (yes e) = let z = ap (rank_of s) e in omega arith
      not_above j l (no f) = before.not_above j (omega arith)

      reached : (highest ≡ 0) ⊎ ((j : ℕ) × (j < k) × (rank_of s j ≡ highest)) → (highest ≡ 0) ⊎ ((j : ℕ) × (j < k + 1) × (rank_of s j ≡ highest))
      reached (inl e) = inl e
      reached (inr at) = inr (at.0, omega arith, at.2)

  -- ---- superblock k has a rank
  module _ (low : k < 64) (is : 0 < rank_of s k) where
    pub false_of_met_twice : mark_bit met (rank_of s k) ≡ 1 → false ≡ ranks_valid s
    false_of_met_twice n =
        sym (false_of_not_T (ranks_valid s) (λ t.
        let at = before.carried (rank_of s k) n in
        let e = (ranks_sound_of_valid s t).distinct k at.0 low (omega arith) is (sym at.2) in
        omega arith))

    pub false_of_unowned : (t : Bool) → t ≡ is_unowned (superblock_at s k) → t ≡ true → false ≡ ranks_valid s
    false_of_unowned t e h =
        sym (false_of_not_T (ranks_valid s) (λ v.
        let z = (ranks_sound_of_valid s v).unowned_unranked k low (facts_of_is_unowned (superblock_at s k) (T_of_true _ (sym e ∙ h))) in
        omega arith))

    -- the highest is superblock k's rank where that is above it
    abbrev HigherOf : ℕ → Type 0
    HigherOf highest' = ((highest < rank_of s k) × (highest' ≡ rank_of s k)) ⊎ ((rank_of s k ≤ highest) × (highest' ≡ highest))

    step_ranked : (met' : List ℕ) (ranked' highest' : ℕ) → rank_of s k < 256 → (mark_bit met (rank_of s k) ≡ 1 → ⊥) → is_unowned (superblock_at s k) ≡ false
        → HigherOf highest' → met' ≡ with_mark met (rank_of s k) → ranked' ≡ ranked + 1 → RanksMet s met' ranked' highest' (k + 1)
    step_ranked met' ranked' highest' fits new u higher p q =
        rw (p, q)
        (record {
          long = length_with_mark met (rank_of s k) ∙ before.long;
          counted = let one_more = sum_below_suc (λ j. one (is_ranked (superblock_at s j))) k in
              omega (arith, before.counted, ranked_one (superblock_at s k) is);
          not_above = λ j l. not_above j l (ℕ_discrete j k) higher;
          reached = reached higher before.reached;
          noted = λ j l n. noted j l n (ℕ_discrete (rank_of s j) (rank_of s k));
          carried = λ r n. carried r n (ℕ_discrete r (rank_of s k));
          once = λ i j l m n e. once i j l m n e (ℕ_discrete j k);
          owned = λ j l n. owned j l n (ℕ_discrete j k);
        })
      where
        not_above : (j : ℕ) → j < k + 1 → Dec (j ≡ k) → HigherOf highest' → rank_of s j ≤ highest'
        not_above j l (yes e) (inl h) = let z = ap (rank_of s) e in omega arith
        not_above j l (yes e) (inr h) = let z = ap (rank_of s) e in omega arith
        not_above j l (no f) (inl h) = let z = before.not_above j (omega arith) in omega arith
        not_above j l (no f) (inr h) = let z = before.not_above j (omega arith) in omega arith

        reached : HigherOf highest' → (highest ≡ 0) ⊎ ((j : ℕ) × (j < k) × (rank_of s j ≡ highest)) → (highest' ≡ 0)
            ⊎ ((j : ℕ) × (j < k + 1) × (rank_of s j ≡ highest'))
        reached (inl h) old = inr (k, omega arith, sym h.1)
        reached (inr h) (inl e) = inl (h.1 ∙ e)
        reached (inr h) (inr at) = inr (at.0, omega arith, at.2 ∙ sym h.1)

        noted : (j : ℕ) → j < k + 1 → 0 < rank_of s j → Dec (rank_of s j ≡ rank_of s k) → mark_bit (with_mark met (rank_of s k)) (rank_of s j) ≡ 1
        noted j l n (yes e) = rw e (with_mark_same met (rank_of s k) before.long fits)
        noted j l n (no f) =
            let other : j ≡ k → ⊥ = λ e. f (ap (rank_of s) e) in
            with_mark_other met (rank_of s k) (rank_of s j) f ∙ before.noted j (omega arith) n

        carried : (r : ℕ) → mark_bit (with_mark met (rank_of s k)) r ≡ 1 → Dec (r ≡ rank_of s k) → (j : ℕ) × (j < k + 1) × (rank_of s j ≡ r)
        carried r n (yes e) = (k, omega arith, sym e)
        carried r n (no f) =
            let at = before.carried r (sym (with_mark_other met (rank_of s k) r f) ∙ n) in
            (at.0, omega arith, at.2)

        once : (i j : ℕ) → i < j → j < k + 1 → 0 < rank_of s i → rank_of s i ≡ rank_of s j → Dec (j ≡ k) → ⊥
        once i j l m n e (yes f) =
            let same = ap (mark_bit met) (e ∙ ap (rank_of s) f) in
            new (sym same ∙ before.noted i (omega arith) n)
        once i j l m n e (no f) = before.once i j l (omega arith) n e

        owned : (j : ℕ) → j < k + 1 → 0 < rank_of s j → Dec (j ≡ k) → is_unowned (superblock_at s j) ≡ false
        owned j l n (yes e) = ap (λ (i : ℕ). is_unowned (superblock_at s i)) e ∙ u
        owned j l n (no f) = before.owned j (omega arith) n

    pub step_higher : (met' : List ℕ) (ranked' highest' : ℕ) → rank_of s k < 256 → (mark_bit met (rank_of s k) ≡ 1 → ⊥)
        → is_unowned (superblock_at s k) ≡ false → highest < rank_of s k → met' ≡ noted_in_code met (rank_of s k) → ranked' ≡ ranked + 1
        → highest' ≡ rank_of s k → RanksMet s met' ranked' highest' (k + 1)
    step_higher met' ranked' highest' fits new u h p q r = step_ranked met' ranked' highest' fits new u (inl (h, r))
        (p ∙ noted_in_code_is_with_mark met (rank_of s k)) q

    pub step_not_higher : (met' : List ℕ) (ranked' highest' : ℕ) → rank_of s k < 256 → (mark_bit met (rank_of s k) ≡ 1 → ⊥)
        → is_unowned (superblock_at s k) ≡ false → rank_of s k ≤ highest → met' ≡ noted_in_code met (rank_of s k) → ranked' ≡ ranked + 1
        → highest' ≡ highest → RanksMet s met' ranked' highest' (k + 1)
    step_not_higher met' ranked' highest' fits new u h p q r = step_ranked met' ranked' highest' fits new u (inr (h, r))
        (p ∙ noted_in_code_is_with_mark met (rank_of s k)) q

  -- ---- all looked at
  pub ranks_valid_of_highest : 64 ≤ k → k ≤ 64 → leb highest ranked ≡ ranks_valid s
  unfolding ranked_count total
  ranks_valid_of_highest g h = equal_of_iff (leb highest ranked) (ranks_valid s) (λ t. ranks_valid_of_sound s (sound (leb→le highest ranked t)))
      (λ t. le→leb highest ranked (bound (ranks_sound_of_valid s t) before.reached))
    where
      all : ranked ≡ ranked_count s
      all = before.counted ∙ ap (sum_below (λ j. one (is_ranked (superblock_at s j)))) (let e : k ≡ 64 = omega arith in e)

      sound : highest ≤ ranked → RanksSound s
      sound l =
          record {
            bounded = λ j m. let z = before.not_above j (omega arith) in omega (arith, all);
            distinct = λ i j li lj n e. same i j li lj n e (dec_lt i j) (dec_lt j i);
            unowned_unranked = λ j m u. unranked j m (ℕ_discrete (rank_of s j) 0) (is_unowned_of_facts (superblock_at s j) u);
          }
        where
          same : (i j : ℕ) → i < 64 → j < 64 → 0 < rank_of s i → rank_of s i ≡ rank_of s j → Dec (i < j) → Dec (j < i) → i ≡ j
          same i j li lj n e (yes l) d = absurd (before.once i j l (omega arith) n e)
          same i j li lj n e (no f) (yes l) = absurd (before.once j i l (omega arith) (omega arith) (sym e))
          same i j li lj n e (no f) (no g) = omega arith

          unranked : (j : ℕ) → j < 64 → Dec (rank_of s j ≡ 0) → T (is_unowned (superblock_at s j)) → rank_of s j ≡ 0
          unranked j m (yes e) t = e
          unranked j m (no f) t = absurd (not_T_of_false _ (before.owned j (omega arith) (omega arith)) t)

      bound : RanksSound s → (highest ≡ 0) ⊎ ((j : ℕ) × (j < k) × (rank_of s j ≡ highest)) → highest ≤ ranked
      bound v (inl e) = omega arith
      bound v (inr at) = let z = v.bounded at.0 (omega arith) in omega (arith, all)
