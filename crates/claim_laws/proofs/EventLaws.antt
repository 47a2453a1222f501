-- Where the ranks of a state go by the last frees, so do those after one more free, renewal, long block taken or other call. Assumes nothing.
use Rattle.std.specs.Prelude.{Some}
use mathlib.Core.Path.{◌≡◌, refl, sym, ap, ap₂, ◌∙◌}
use mathlib.Core.Logic.{◌↔◌, inl, inr}
use mathlib.Core.List.{List, [], ◌∷◌}
use Prim.Native.Nat.{ℕ, zero, suc, ◌+◌, ◌<◌}
use native.Mathlib.Nat.{pos_of_ne-zero}
use native.Mathlib.Decide.{ℕ_discrete}
use native.Mathlib.Omega.{arith}
use borrow.Author.Tests.{eq-eqb, ne_eqb, le-leb, lt-ltb, leb-true, ltb-true}
use lib.Dec.{leb, ltb}
use Rattle.base_laws.specs.Sums.{both}
use Rattle.base_laws.proofs.Inequalities.{le_of_not_below}
use Rattle.base_laws.proofs.TestLaws.{true_of_T, false_of_not_T, both_left, both_right, pick_true, pick_false}
use Rattle.heap_rules.specs.declared.Setup.{Setup}
use Rattle.heap_rules.specs.declared.State.{State}
use Rattle.heap_rules.specs.Table.{superblock_at}
use Rattle.heap_rules.specs.States.{new_state}
use Rattle.heap_rules.specs.Ranks.{rank_after_free, rank_after_renewal}
use Rattle.choice_rules.specs.Choice.{fullest}
use Rattle.heap_laws.proofs.StateFacts.{RanksSound}
use Rattle.heap_laws.proofs.ChoiceLaws.{MoreRecent, best_of_fullest, fullest_is_most_recent_among_equals, fullest_is_lowest_among_unranked}
use Rattle.heap_laws.proofs.RankLaws.{rank_in_new_state, rank_after_free_of_superblock, rank_after_renewal_of_superblock, ranked_of_ranked_after_free}
use Rattle.heap_laws.proofs.RankLaws.{ranked_after_free_of_ranked}
use Rattle.heap_laws.proofs.RankLaws.{ranked_of_ranked_after_renewal, ranked_after_renewal_of_ranked, order_kept_by_free, order_kept_by_renewal}
use Rattle.heap_laws.proofs.RankLaws.{latest_after_free}
use Rattle.call_laws.proofs.CallEffects.{RunUnranked}
use Rattle.claim_rules.specs.History.{Event, freed_into, renewed, joined_run, neither, LastFree, events_ago, not_since_renewal, one_event_more, last_free_after}
use Rattle.claim_rules.specs.History.{last_free, RankedByLastFree, EquallyFull, FreedLater, OffersLastFreed}
use Rattle.claim_laws.proofs.OneMoreLongLaws.{in_run_or_not}
use Rattle.heap_rules.specs.Runs.{InRun}

-- ---- one event more
-- what was freed into so many events ago was freed into since it was last renewed
not_both_of_last_free : (l : LastFree) (x : ℕ) → l ≡ events_ago x → l ≡ not_since_renewal → ⊥
not_both_of_last_free l x e g = let z : ◌≡◌ {A = ℕ} 0 1 = cc in omega arith

-- when it was, one event before
before_events_ago : (l : LastFree) (x : ℕ) → one_event_more l ≡ events_ago x → (w : ℕ) × (l ≡ events_ago w) × (x ≡ suc w)
unfolding one_event_more
before_events_ago (events_ago w) x e = (w, refl, cc)
before_events_ago not_since_renewal x e = absurd (not_both_of_last_free _ x e refl)

-- none was, exactly if none was one event before
one_event_more_none_iff : (l : LastFree) → (l ≡ not_since_renewal) ↔ (one_event_more l ≡ not_since_renewal)
unfolding one_event_more
one_event_more_none_iff (events_ago w) = (λ e. absurd (not_both_of_last_free _ w refl e), λ e. absurd (not_both_of_last_free _ (suc w) refl e))
one_event_more_none_iff not_since_renewal = (λ e. refl, λ e. refl)

-- a number that is not 0 only where another is not 0 is 0 where the other is
zero_of_positive : (x y : ℕ) → (0 < y → 0 < x) → x ≡ 0 → y ≡ 0
zero_of_positive x zero f e = refl
zero_of_positive x (suc y) f e = absurd (let h = f (omega arith) in let z : ⊥ = omega arith in z)

-- ---- the superblocks that a call does not free into or renew
module _ (s : State) (event : Event) (events : List Event) (ranked : RankedByLastFree s events) where
  -- one that stays ranked or unranked is ranked exactly if it was freed into since it was last renewed
  unranked_iff_of_other : (m r : ℕ) → m < 64 → last_free m (event ∷ events) ≡ one_event_more (last_free m events) → (0 < r → 0 < (superblock_at s m).rank)
      → (0 < (superblock_at s m).rank → 0 < r)
      → (r ≡ 0) ↔ (last_free m (event ∷ events) ≡ not_since_renewal)
  unranked_iff_of_other m r l other f g = (
    λ e. other ∙ (one_event_more_none_iff _).0 ((ranked.unranked_iff m l).0 (zero_of_positive r (superblock_at s m).rank g e)),
    λ e. zero_of_positive (superblock_at s m).rank r f ((ranked.unranked_iff m l).1 ((one_event_more_none_iff _).1 (sym other ∙ e))),
  )

  -- one that was freed into since then was ranked
  ranked_before : (m x : ℕ) → m < 64 → last_free m (event ∷ events) ≡ one_event_more (last_free m events) → last_free m (event ∷ events) ≡ events_ago x
      → 0 < (superblock_at s m).rank
  ranked_before m x l other e =
      let b = before_events_ago (last_free m events) x (sym other ∙ e) in
      pos_of_ne-zero (λ z. not_both_of_last_free _ b.0 b.1 ((ranked.unranked_iff m l).0 z))

  -- the order of two of them was that of their last frees
  order_before : (i j x y : ℕ) → i < 64 → j < 64 → last_free i (event ∷ events) ≡ one_event_more (last_free i events) → last_free j (event ∷ events)
      ≡ one_event_more (last_free j events)
      → last_free i (event ∷ events) ≡ events_ago x → last_free j (event ∷ events) ≡ events_ago y → x < y → (superblock_at s i).rank < (superblock_at s j).rank
  order_before i j x y li lj other_i other_j e f h =
      let a = before_events_ago (last_free i events) x (sym other_i ∙ e) in
      let b = before_events_ago (last_free j events) y (sym other_j ∙ f) in
      ranked.later_first i j a.0 b.0 li lj a.1 b.1 (omega arith)

-- ---- the kinds of call
module _ (k : ℕ) (events : List Event) where
  -- the superblock freed into, or renewed, and the others
  last_free_of_freed : (m : ℕ) → m ≡ k → last_free m (freed_into k ∷ events) ≡ events_ago 0
  unfolding last_free last_free_after
  last_free_of_freed m q = pick_true _ _ _ (eq-eqb k m (sym q))

  last_free_of_renewed : (m : ℕ) → m ≡ k → last_free m (renewed k ∷ events) ≡ not_since_renewal
  unfolding last_free last_free_after
  last_free_of_renewed m q = pick_true _ _ _ (eq-eqb k m (sym q))

  last_free_of_not_freed : (m : ℕ) → (m ≡ k → ⊥) → last_free m (freed_into k ∷ events) ≡ one_event_more (last_free m events)
  unfolding last_free last_free_after
  last_free_of_not_freed m a = pick_false _ _ _ (ne_eqb k m (λ q. a (sym q)))

  last_free_of_not_renewed : (m : ℕ) → (m ≡ k → ⊥) → last_free m (renewed k ∷ events) ≡ one_event_more (last_free m events)
  unfolding last_free last_free_after
  last_free_of_not_renewed m a = pick_false _ _ _ (ne_eqb k m (λ q. a (sym q)))

module _ (s t : State) (k : ℕ) (events : List Event) (below : k < 64) (sound : RanksSound s) where
  -- after a free into k
  pub ranked_by_last_free_after_free : ((m : ℕ) → m < 64 → (superblock_at t m).rank ≡ rank_after_free k s.table m) → RankedByLastFree s events
      → RankedByLastFree t (freed_into k ∷ events)
  ranked_by_last_free_after_free ranks ranked =
      record {
        unranked_iff = λ m l. rw (ranks m l) (iff m l (ℕ_discrete m k));
        later_first = λ i j x y li lj e f h. rw (ranks i li, ranks j lj) (order i j x y li lj e f h (ℕ_discrete i k) (ℕ_discrete j k));
      }
    where
      first : (m : ℕ) → m ≡ k → rank_after_free k s.table m ≡ 1
      first m q = ap (rank_after_free k s.table) q ∙ rank_after_free_of_superblock k s.table

      iff : (m : ℕ) → m < 64 → Dec (m ≡ k) → (rank_after_free k s.table m ≡ 0) ↔ (last_free m (freed_into k ∷ events) ≡ not_since_renewal)
      iff m l (yes q) = (λ e. absurd (let z : ⊥ = omega (arith, first m q) in z), λ e. absurd (not_both_of_last_free _ 0 (last_free_of_freed k events m q) e))
      iff m l (no a) =
          unranked_iff_of_other s (freed_into k) events ranked m (rank_after_free k s.table m) l (last_free_of_not_freed k events m a)
          (ranked_of_ranked_after_free k s.table m a)
          (ranked_after_free_of_ranked k s.table m a)

      -- nothing was freed into later than the superblock freed into now
      not_later : (j x y : ℕ) → j ≡ k → last_free j (freed_into k ∷ events) ≡ events_ago y → x < y → ⊥
      not_later j x y q f h =
          let same : events_ago y ≡ events_ago 0 = sym f ∙ last_free_of_freed k events j q in
          let now : y ≡ 0 = cc in
          omega arith

      order : (i j x y : ℕ) → i < 64 → j < 64 → last_free i (freed_into k ∷ events) ≡ events_ago x → last_free j (freed_into k ∷ events) ≡ events_ago y → x < y
          → Dec (i ≡ k) → Dec (j ≡ k)
          → rank_after_free k s.table i < rank_after_free k s.table j
      order i j x y li lj e f h d (yes q) = absurd (not_later j x y q f h)
      order i j x y li lj e f h (yes p) (no b) =
          let was = ranked_before s (freed_into k) events ranked j y lj (last_free_of_not_freed k events j b) f in
          omega (arith, first i p, latest_after_free k s below sound j lj b was)
      order i j x y li lj e f h (no a) (no b) =
          order_kept_by_free k s below sound i j li lj a b
          (order_before s (freed_into k) events ranked i j x y li lj (last_free_of_not_freed k events i a) (last_free_of_not_freed k events j b) e f h)

  -- after a renewal of k
  pub ranked_by_last_free_after_renewal : ((m : ℕ) → m < 64 → (superblock_at t m).rank ≡ rank_after_renewal k s.table m) → RankedByLastFree s events
      → RankedByLastFree t (renewed k ∷ events)
  ranked_by_last_free_after_renewal ranks ranked =
      record {
        unranked_iff = λ m l. rw (ranks m l) (iff m l (ℕ_discrete m k));
        later_first = λ i j x y li lj e f h. rw (ranks i li, ranks j lj) (order i j x y li lj e f h (ℕ_discrete i k) (ℕ_discrete j k));
      }
    where
      iff : (m : ℕ) → m < 64 → Dec (m ≡ k) → (rank_after_renewal k s.table m ≡ 0) ↔ (last_free m (renewed k ∷ events) ≡ not_since_renewal)
      iff m l (yes q) = (λ e. last_free_of_renewed k events m q, λ e. ap (rank_after_renewal k s.table) q ∙ rank_after_renewal_of_superblock k s.table)
      iff m l (no a) =
          unranked_iff_of_other s (renewed k) events ranked m (rank_after_renewal k s.table m) l (last_free_of_not_renewed k events m a)
          (ranked_of_ranked_after_renewal k s.table m a)
          (ranked_after_renewal_of_ranked k s.table m a)

      order : (i j x y : ℕ) → i < 64 → j < 64 → last_free i (renewed k ∷ events) ≡ events_ago x → last_free j (renewed k ∷ events) ≡ events_ago y → x < y
          → Dec (i ≡ k) → Dec (j ≡ k)
          → rank_after_renewal k s.table i < rank_after_renewal k s.table j
      order i j x y li lj e f h (yes p) d = absurd (not_both_of_last_free _ x e (last_free_of_renewed k events i p))
      order i j x y li lj e f h (no a) (yes q) = absurd (not_both_of_last_free _ y f (last_free_of_renewed k events j q))
      order i j x y li lj e f h (no a) (no b) =
          order_kept_by_renewal k s below sound i j li lj a b (ranked_before s (renewed k) events ranked i x li (last_free_of_not_renewed k events i a) e)
          (order_before s (renewed k) events ranked i j x y li lj (last_free_of_not_renewed k events i a) (last_free_of_not_renewed k events j b) e f h)

-- after a long block was taken: the superblocks of its run have "no rank" (document 02, item 7), and the others keep their order
module _ (s t : State) (k n : ℕ) (events : List Event) (unranked : RunUnranked k n s t) where
  last_free_in_run : (m : ℕ) → InRun k n m → last_free m (joined_run k n ∷ events) ≡ not_since_renewal
  unfolding last_free last_free_after
  last_free_in_run m h = pick_true _ _ _ (ap₂ both (le-leb k m h.0) (lt-ltb m (k + n) h.1))

  last_free_outside_run : (m : ℕ) → (InRun k n m → ⊥) → last_free m (joined_run k n ∷ events) ≡ one_event_more (last_free m events)
  unfolding last_free last_free_after
  last_free_outside_run m out = pick_false (both (leb k m) (ltb m (k + n))) not_since_renewal _
      (false_of_not_T (both (leb k m) (ltb m (k + n)))
      (λ h. out (
        leb-true k m (true_of_T _ (both_left (leb k m) (ltb m (k + n)) h)),
        ltb-true m (k + n) (true_of_T _ (both_right (leb k m) (ltb m (k + n)) h)),
      )))

  pub ranked_by_last_free_after_run : RankedByLastFree s events → RankedByLastFree t (joined_run k n ∷ events)
  ranked_by_last_free_after_run ranked =
      record {
        unranked_iff = λ m l. iff m l (in_run_or_not k n m);
        later_first = λ i j x y li lj e f h. order i j x y li lj e f h (in_run_or_not k n i) (in_run_or_not k n j);
      }
    where
      iff : (m : ℕ) → m < 64 → Dec (InRun k n m) → ((superblock_at t m).rank ≡ 0) ↔ (last_free m (joined_run k n ∷ events) ≡ not_since_renewal)
      iff m l (yes inside) = (λ e. last_free_in_run m inside, λ e. unranked.in_run m inside)
      iff m l (no out) =
          let same = unranked.ranked_iff m l out in
          unranked_iff_of_other s (joined_run k n) events ranked m (superblock_at t m).rank l (last_free_outside_run m out)
          (λ h. pos_of_ne-zero (λ z. let e = same.1 z in let w : ⊥ = omega arith in w))
          (λ h. pos_of_ne-zero (λ z. let e = same.0 z in let w : ⊥ = omega arith in w))

      order : (i j x y : ℕ) → i < 64 → j < 64 → last_free i (joined_run k n ∷ events) ≡ events_ago x → last_free j (joined_run k n ∷ events) ≡ events_ago y
          → x < y → Dec (InRun k n i) → Dec (InRun k n j)
          → (superblock_at t i).rank < (superblock_at t j).rank
      order i j x y li lj e f h (yes p) d = absurd (not_both_of_last_free _ x e (last_free_in_run i p))
      order i j x y li lj e f h (no a) (yes q) = absurd (not_both_of_last_free _ y f (last_free_in_run j q))
      order i j x y li lj e f h (no a) (no b) =
          unranked.order_kept i j li lj a b (ranked_before s (joined_run k n) events ranked i x li (last_free_outside_run i a) e)
          (order_before s (joined_run k n) events ranked i j x y li lj (last_free_outside_run i a) (last_free_outside_run j b) e f h)

-- after a call that is none of these
pub ranked_by_last_free_after_neither : (s t : State) (events : List Event) → ((m : ℕ) → m < 64 → (superblock_at t m).rank ≡ (superblock_at s m).rank)
    → RankedByLastFree s events
    → RankedByLastFree t (neither ∷ events)
unfolding last_free last_free_after
ranked_by_last_free_after_neither s t events same ranked =
    record {
      unranked_iff = λ m l. unranked_iff_of_other s neither events ranked m (superblock_at t m).rank l refl (λ h. omega (arith, same m l))
          (λ h. omega (arith, same m l));
      later_first = λ i j x y li lj e f h. omega (arith, same i li, same j lj, order_before s neither events ranked i j x y li lj refl refl e f h);
    }

-- before the first call none is ranked, and none was freed into
pub ranked_by_last_free_of_new_state : (u : Setup) → RankedByLastFree (new_state u) []
unfolding last_free
ranked_by_last_free_of_new_state u =
    record {
      unranked_iff = λ k l. (λ e. refl, λ e. rank_in_new_state u k l);
      later_first = λ k m x y lk lm e f h. absurd (not_both_of_last_free _ x e refl);
    }

-- ---- what places 1 and 2 of a take offer
module _ (s : State) (events : List Event) (ranked : RankedByLastFree s events) where
  ranked_of_freed : (m x : ℕ) → m < 64 → last_free m events ≡ events_ago x → 0 < (superblock_at s m).rank
  ranked_of_freed m x l e = pos_of_ne-zero (λ z. not_both_of_last_free _ x e ((ranked.unranked_iff m l).0 z))

  -- the later freed into is the more recent by its rank
  more_recent_of_freed_later : (m k : ℕ) → m < 64 → k < 64 → FreedLater (last_free m events) (last_free k events)
      → MoreRecent (superblock_at s m) (superblock_at s k)
  unfolding FreedLater
  more_recent_of_freed_later m k lm lk later = go (last_free m events) (last_free k events) refl refl later
    where
      go : (a b : LastFree) → last_free m events ≡ a → last_free k events ≡ b → FreedLater a b → MoreRecent (superblock_at s m) (superblock_at s k)
      go (events_ago x) (events_ago y) e f h = (ranked_of_freed m x lm e, inr (ranked.later_first m k x y lm lk e f h))
      go (events_ago x) not_since_renewal e f h = (ranked_of_freed m x lm e, inl ((ranked.unranked_iff k lk).1 f))
      go not_since_renewal b e f h = absurd h

  -- "Among equally full superblocks in places 1 and 2 of a take, the one freed into most recently since it was last renewed comes first .. Those not
  -- freed into since then follow, lower number first" (document 02, item 4): what is offered by rank is offered by last free
  pub offers_last_freed_of_ranked : OffersLastFreed s events
  offers_last_freed_of_ranked =
      record { none_freed_later = none_later; lowest_of_not_freed = λ h c k m e equal none. le_of_not_below (not_lower h c k m e equal none) }
    where
      none_later : (h c k m : ℕ) → fullest h c s ≡ Some k → EquallyFull h c k m s → FreedLater (last_free m events) (last_free k events) → ⊥
      none_later h c k m e (l, free, same) later =
          fullest_is_most_recent_among_equals h c s k m e l free same (more_recent_of_freed_later m k l (best_of_fullest h c s k e).below later)

      not_lower : (h c k m : ℕ) → fullest h c s ≡ Some k → EquallyFull h c k m s → last_free k events ≡ not_since_renewal → m < k → ⊥
      not_lower h c k m e (l, free, same) none lower =
          go ((ranked.unranked_iff k (best_of_fullest h c s k e).below).1 none) (ℕ_discrete (superblock_at s m).rank 0)
        where
          go : (superblock_at s k).rank ≡ 0 → Dec ((superblock_at s m).rank ≡ 0) → ⊥
          go unranked (yes z) = fullest_is_lowest_among_unranked h c s k m e lower free same z unranked
          go unranked (no f) = fullest_is_most_recent_among_equals h c s k m e l free same (pos_of_ne-zero f, inl unranked)
