-- Lists of calls of which the claims about ranks and about what a take is offered hold, by computation: the claims of one state and its history are made
-- tests first. Assumes nothing.
use Rattle.std.specs.Prelude.{Option, Some, None}
use mathlib.Core.Path.{◌≡◌, refl, sym, ap, subst}
use mathlib.Core.Bool.{Bool, true, false, not}
use mathlib.Core.Logic.{◌↔◌}
use mathlib.Core.List.{List, [], ◌∷◌}
use Prim.Native.Nat.{ℕ, zero, suc, ◌≤◌, ◌<◌}
use native.Mathlib.Omega.{arith}
use borrow.Author.Tests.{eq-eqb, lt-leb}
use lib.Dec.{T, eqb, leb, ltb, eqb→eq, leb→le, ltb→lt, lt→ltb}
use lib.ListN.{get_or, replicate, get_or-replicate}
use Rattle.base_laws.specs.Sums.{pick, both, either, all_below}
use Rattle.base_laws.proofs.TestLaws.{T_of_true, true_of_T, both_left, both_right, either_right_of_left_false, pick_true}
use Rattle.base_laws.proofs.SumLaws.{all_at}
use Rattle.heap_rules.specs.declared.Superblock.{Superblock}
use Rattle.heap_rules.specs.declared.State.{State}
use Rattle.heap_rules.specs.Table.{blank, superblock_at, live_in}
use Rattle.heap_rules.specs.Counts.{belongs}
use Rattle.heap_rules.proofs.CaseStates.{unnamed_state}
use Rattle.heap_rules.proofs.TableCases.{small_setup}
use Rattle.choice_rules.specs.Choice.{prefer, chosen_below, fuller_or_more_recent, has_free, fullest}
use Rattle.call_rules.specs.Calls.{Take, Free, NamedFree, Drop}
use Rattle.call_rules.specs.declared.Outcome.TheVariants.{Ready, Address, Moves, Refused}
use Rattle.call_rules.proofs.CallDefinitions.{unchecked_call_definitions}
use Rattle.claim_rules.specs.Claim.{Step}
use Rattle.claim_rules.specs.History.{Event, LastFree, events_ago, not_since_renewal, last_free, RankedByLastFree, EquallyFull, FreedLater, OffersLastFreed}
use Rattle.claim_rules.specs.History.{RankedByLastFreeOver, OffersLastFreedOver}
use Rattle.claim_rules.proofs.CaseSteps.{after_with, step_with}
use Rattle.claim_rules.proofs.LedgerDefinitions.{ledger_definitions}
use Rattle.claim_rules.proofs.ClaimCases.{quick_claims_hold}
use Rattle.claim_rules.proofs.HistoryCases.{history_definitions, full, of_heap_with_ranks, empty_0_with_ranks, blocks_in_0_and_1}

-- ---- the last free into a superblock, and into two
unfoldable is_freed : LastFree → Bool
is_freed (events_ago x) = true
is_freed not_since_renewal = false

unfoldable is_freed_later : LastFree → LastFree → Bool
is_freed_later (events_ago x) (events_ago y) = ltb x y
is_freed_later (events_ago x) not_since_renewal = true
is_freed_later not_since_renewal other = false

T_of_freed_later : (l f : LastFree) → FreedLater l f → T (is_freed_later l f)
unfolding FreedLater is_freed_later
T_of_freed_later (events_ago x) (events_ago y) h = lt→ltb x y h
T_of_freed_later (events_ago x) not_since_renewal h = tt
T_of_freed_later not_since_renewal f h = h

-- ---- ranks
abbrev rank_in : State → ℕ → ℕ
rank_in s k = (superblock_at s k).rank

-- of ranks a and b: where both superblocks were freed into, the first later, a is the lower
unfoldable is_lower_if_later : LastFree → LastFree → ℕ → ℕ → Bool
is_lower_if_later (events_ago x) (events_ago y) a b = either (leb y x) (ltb a b)
is_lower_if_later (events_ago x) not_since_renewal a b = true
is_lower_if_later not_since_renewal other a b = true

-- of superblock k, of which this is the last free
unfoldable is_ranked_by : State → List Event → ℕ → LastFree → Bool
is_ranked_by s events k (events_ago x) = both (ltb 0 (rank_in s k))
    (all_below (λ m. is_lower_if_later (events_ago x) (last_free m events) (rank_in s k) (rank_in s m)) 64)
is_ranked_by s events k not_since_renewal = eqb (rank_in s k) 0

unfoldable is_ranked_rightly : State → List Event → ℕ → Bool
is_ranked_rightly s events k = is_ranked_by s events k (last_free k events)

ranked_by_test : (s : State) (events : List Event) → all_below (is_ranked_rightly s events) 64 ≡ true → RankedByLastFree s events
unfolding is_ranked_rightly is_ranked_by is_lower_if_later
ranked_by_test s events e = record { unranked_iff = λ k l. iff k (last_free k events) (at k l); later_first = order }
  where
    at : (k : ℕ) → k < 64 → T (is_ranked_by s events k (last_free k events))
    at k l = all_at (is_ranked_rightly s events) 64 (T_of_true _ e) k l

    freed : {x : ℕ} → events_ago x ≡ not_since_renewal → ⊥
    freed {x} q = let z : ◌≡◌ {A = ℕ} 0 1 = cc in omega arith

    iff : (k : ℕ) (f : LastFree) → T (is_ranked_by s events k f) → (rank_in s k ≡ 0) ↔ (f ≡ not_since_renewal)
    iff k (events_ago x) t =
        let ranked = ltb→lt 0 (rank_in s k) (both_left (ltb 0 (rank_in s k)) _ t) in
        (λ z. absurd (let w : ⊥ = omega arith in w), λ q. absurd (freed q))
    iff k not_since_renewal t = (λ z. refl, λ q. eqb→eq (rank_in s k) 0 t)

    order : (k m x y : ℕ) → k < 64 → m < 64 → last_free k events ≡ events_ago x → last_free m events ≡ events_ago y → x < y → rank_in s k < rank_in s m
    order k m x y lk lm f g h =
        let tests : T (is_ranked_by s events k (events_ago x)) = subst (λ (l : LastFree). T (is_ranked_by s events k l)) f (at k lk) in
        let lower = all_at _ 64 (both_right (ltb 0 (rank_in s k)) _ tests) m lm in
        let test : T (is_lower_if_later (events_ago x) (events_ago y) (rank_in s k) (rank_in s m)) =
        subst (λ (l : LastFree). T (is_lower_if_later (events_ago x) l (rank_in s k) (rank_in s m))) g lower in
        ltb→lt (rank_in s k) (rank_in s m) (either_right_of_left_false (leb y x) _ test (lt-leb y x h))

-- ---- what is offered
-- what is found is below the bound and meets the criterion
module _ (meets : Superblock → Bool) (preferred : Superblock → Superblock → Bool) (table : List Superblock) where
  found_meets : (n k : ℕ) → chosen_below meets preferred table n ≡ Some k → (k < n) × T (meets (get_or table k blank))
  unfolding chosen_below prefer
  found_meets zero k e = absurd (let z : ◌≡◌ {A = ℕ} 0 1 = cc in let w : ⊥ = omega arith in w)
  found_meets (suc n) k e = go (meets (get_or table n blank)) refl (chosen_below meets preferred table n) (found_meets n k) e
    where
      Result : Type 0
      Result = (k < suc n) × T (meets (get_or table k blank))

      here : meets (get_or table n blank) ≡ true → Some n ≡ Some k → Result
      here w q = let same : n ≡ k = cc in (omega arith, subst (λ (i : ℕ). T (meets (get_or table i blank))) same (T_of_true _ w))

      below : (k < n) × T (meets (get_or table k blank)) → Result
      below (l, t) = (omega arith, t)

      go : (w : Bool) → meets (get_or table n blank) ≡ w → (f : Option ℕ) → (f ≡ Some k → (k < n) × T (meets (get_or table k blank)))
          → pick w (prefer preferred table f n) f ≡ Some k → Result
      go false w f ih q = below (ih q)
      go true w None ih q = here w q
      go true w (Some m) ih q = chosen (preferred (get_or table n blank) (get_or table m blank)) q
        where
          chosen : (x : Bool) → pick x (Some n) (Some m) ≡ Some k → Result
          chosen true g = here w g
          chosen false g = below (ih g)

found_has_free : (h c k : ℕ) (s : State) → fullest h c s ≡ Some k → (k < 64) × T (has_free h c (superblock_at s k))
unfolding fullest
found_has_free h c k s e = found_meets (has_free h c) fuller_or_more_recent s.table 64 k e

heap_and_class : (h c : ℕ) (b : Superblock) → T (has_free h c b) → (b.owner ≡ h) × (b.class ≡ c)
unfolding has_free belongs
heap_and_class h c b t =
    let own = both_left (both (eqb b.owner h) (eqb b.class c)) _ t in
    (eqb→eq b.owner h (both_left (eqb b.owner h) _ own), eqb→eq b.class c (both_right (eqb b.owner h) _ own))

unfoldable is_found_at : ℕ → Option ℕ → Bool
is_found_at k (Some m) = eqb m k
is_found_at k None = false

-- superblock k, where it is offered, goes before superblock m, where that could be
unfoldable is_before : State → List Event → ℕ → ℕ → Bool
is_before s events k m = both (not (is_freed_later (last_free m events) (last_free k events))) (either (is_freed (last_free k events)) (leb k m))

unfoldable is_offered_before : State → List Event → (k : ℕ) → Superblock → ℕ → Bool
is_offered_before s events k b m =
    pick (both (has_free b.owner b.class (superblock_at s m)) (eqb (live_in (superblock_at s m)) (live_in b))) (is_before s events k m) true

unfoldable is_offered_rightly : State → List Event → ℕ → ℕ → Bool
is_offered_rightly s events n k =
    let b = superblock_at s k in
    pick (both (has_free b.owner b.class b) (is_found_at k (fullest b.owner b.class s))) (all_below (is_offered_before s events k b) n) true

-- only superblocks below n have a free block
abbrev FreeBelow : State → ℕ → Type 0
FreeBelow s n = (h c k : ℕ) → k < 64 → T (has_free h c (superblock_at s k)) → k < n

offers_by_test : (s : State) (events : List Event) (n : ℕ) → FreeBelow s n → all_below (is_offered_rightly s events n) n ≡ true → OffersLastFreed s events
unfolding is_offered_rightly is_offered_before is_before is_found_at is_freed
offers_by_test s events n below e = record { none_freed_later = later; lowest_of_not_freed = lowest }
  where
    before : (h c k m : ℕ) → fullest h c s ≡ Some k → EquallyFull h c k m s → T (is_before s events k m)
    before h c k m found (l, free, same) =
        let (lk, meets) = found_has_free h c k s found in
        let b : Superblock = superblock_at s k in
        let d : Superblock = superblock_at s m in
        let (owner, class) = heap_and_class h c b meets in
        let offered : both (has_free b.owner b.class b) (is_found_at k (fullest b.owner b.class s)) ≡ true =
        rw (owner, class, true_of_T (has_free h c b) meets, found) (eq-eqb k k refl) in
        let equal : both (has_free b.owner b.class d) (eqb (live_in d) (live_in b)) ≡ true =
        rw (owner, class, true_of_T (has_free h c d) free) (eq-eqb (live_in d) (live_in b) same) in
        let all = subst T (pick_true _ _ _ offered) (all_at (is_offered_rightly s events n) n (T_of_true _ e) k (below h c k lk meets)) in
        subst T (pick_true _ _ _ equal) (all_at (is_offered_before s events k b) n all m (below h c m l free))

    not_and : (t : Bool) → T (not t) → T t → ⊥
    not_and true n y = n
    not_and false n y = y

    later : (h c k m : ℕ) → fullest h c s ≡ Some k → EquallyFull h c k m s → FreedLater (last_free m events) (last_free k events) → ⊥
    later h c k m found equal freed =
        let t = is_freed_later (last_free m events) (last_free k events) in
        not_and t (both_left (not t) _ (before h c k m found equal)) (T_of_freed_later _ _ freed)

    lowest : (h c k m : ℕ) → fullest h c s ≡ Some k → EquallyFull h c k m s → last_free k events ≡ not_since_renewal → k ≤ m
    lowest h c k m found equal none =
        let or = both_right (not (is_freed_later (last_free m events) (last_free k events))) _ (before h c k m found equal) in
        leb→le k m (either_right_of_left_false (is_freed (last_free k events)) (leb k m) or (ap is_freed none))

-- what a case that runs the tests unfolds
unfoldable history_tests : Unit {0}
unfolding is_ranked_rightly is_ranked_by is_lower_if_later is_offered_rightly is_offered_before is_before is_found_at is_freed is_freed_later all_below
history_tests = tt

-- ---- the lists. 0 is freed into, then 1; a long block from 2 on is taken and freed; a drop is refused; 0 is renewed for heap 2
abbrev pub frees_and_renewal : List Step
frees_and_renewal =
    step_with (Free 1 0) (Moves 0) (empty_0_with_ranks 1 0) ∷ step_with (NamedFree 1 3) (Moves 0) (empty_0_with_ranks 2 1)
    ∷ step_with (Take 1 2049) (Address 8192) (empty_0_with_ranks 2 1) ∷ step_with (Free 1 8192) (Moves 0) (empty_0_with_ranks 2 1)
    ∷ step_with (Drop 1 (0 ∷ [])) (Refused 7) (empty_0_with_ranks 2 1) ∷ step_with (Take 2 700) (Address 0) (empty_0_with_ranks 0 1) ∷ []

pub ranked_by_last_free_holds : RankedByLastFreeOver (after_with Ready (empty_0_with_ranks 0 0)) blocks_in_0_and_1 [] frees_and_renewal
unfolding quick_claims_hold history_definitions history_tests unchecked_call_definitions ledger_definitions
ranked_by_last_free_holds =
    let unfreed = ranked_by_test (empty_0_with_ranks 0 0) in
    let freed = ranked_by_test (empty_0_with_ranks 2 1) in
    (unfreed _ refl, (ranked_by_test _ _ refl, (freed _ refl, (freed _ refl, (freed _ refl, (freed _ refl, ranked_by_test _ _ refl))))))

-- superblocks 2 and on are full
full_has_no_free : (h c : ℕ) → T (has_free h c full) → ⊥
unfolding unchecked_call_definitions
full_has_no_free h c t =
    let (owner, class) = heap_and_class h c full t in
    subst (λ (x : ℕ). T (has_free x 26 full)) (sym owner) (subst (λ (x : ℕ). T (has_free h x full)) (sym class) t)

free_below_2 : (a b : Superblock) → FreeBelow (unnamed_state small_setup (a ∷ b ∷ replicate 62 full)) 2
free_below_2 a b h c zero l t = omega arith
free_below_2 a b h c (suc zero) l t = omega arith
free_below_2 a b h c (suc (suc k)) l t =
    absurd (full_has_no_free h c (subst (λ (x : Superblock). T (has_free h c x)) (get_or-replicate 62 k full blank (omega arith)) t))

-- 0 and 1 are equally full, and 0 is offered; then 1, which was freed into; and still 1, as 0 was freed into later and so is less full
pub offers_last_freed_holds :
    OffersLastFreedOver (after_with Ready (of_heap_with_ranks 1 0 0)) blocks_in_0_and_1 []
    (step_with (Free 1 4096) (Moves 0) (of_heap_with_ranks 1 0 1) ∷ step_with (Free 1 0) (Moves 0) (empty_0_with_ranks 1 2) ∷ [])
unfolding quick_claims_hold history_definitions history_tests unchecked_call_definitions ledger_definitions
offers_last_freed_holds =
    (offers_by_test _ _ 2 (free_below_2 _ _) refl, (offers_by_test _ _ 2 (free_below_2 _ _) refl, offers_by_test _ _ 2 (free_below_2 _ _) refl))
