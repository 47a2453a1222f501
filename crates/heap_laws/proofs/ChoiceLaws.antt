-- What a choice finds, in the page's words. Assumes nothing.
use Rattle.std.specs.Prelude.{Option, Some, None}
use Rattle.std.proofs.lemmas.Option.{none-some, same_Some}
use mathlib.Core.Path.{◌≡◌, refl, sym, ap, ◌∙◌, subst}
use mathlib.Core.Bool.{Bool, true, false, not}
use mathlib.Core.Logic.{◌⊎◌, inl, inr}
use mathlib.Core.List.{List}
use Prim.Native.Nat.{ℕ, zero, suc, ◌≤◌, ◌<◌}
use native.Mathlib.Nat.{eq-or-lt_of_le, le_of_suc-le-suc, lt-suc_self, lt_irrefl, pos_of_ne-zero}
use native.Mathlib.Decide.{ℕ_discrete, dec_lt}
use native.Mathlib.Omega.{arith}
use borrow.Author.Tests.{eq-eqb, le-ltb, ltb-false}
use lib.ListN.{get_or}
use lib.Dec.{T, eqb, ltb, ltb→lt, lt→ltb, nltb→le, eqb→eq, not_T}
use Rattle.base_laws.specs.Sums.{pick, both, either}
use Rattle.base_laws.proofs.Inequalities.{le_of_not_below}
use Rattle.base_laws.proofs.TestLaws.{T_of_true, not_T_of_false, false_of_not_T, both_left, both_right, both_make, either_left, either_right, pick_false}
use Rattle.class_rules.specs.Classes.{blocks_of}
use Rattle.heap_rules.specs.declared.Superblock.{Superblock}
use Rattle.heap_rules.specs.declared.State.{State}
use Rattle.heap_rules.specs.Table.{blank, superblock_at, live_in, is_unused}
use Rattle.heap_rules.specs.Counts.{belongs}
use Rattle.heap_rules.specs.Ranks.{is_ranked, is_more_recent}
use Rattle.choice_rules.specs.Choice.{prefer, chosen_below, more_live, fuller_or_more_recent, fewer_live, never_preferred, has_free, empty_in_global, fullest}
use Rattle.choice_rules.specs.Choice.{lowest_empty, lowest_unused, emptiest}
use Rattle.heap_laws.proofs.StateFacts.{StrictWeakOrder, IsBest}
use Rattle.heap_laws.proofs.CountLaws.{owner_and_class_of_belongs, belongs_of_owner_and_class}

-- ---- the ways to compare
le_of_not_ltb : (x y : ℕ) → (T (ltb x y) → ⊥) → y ≤ x
le_of_not_ltb x y f = nltb→le x y (not_T (ltb x y) f)

ltb_irreflexive : (x : ℕ) → T (ltb x x) → ⊥
ltb_irreflexive x t = lt_irrefl x (ltb→lt x x t)

ltb_transitive : (x y z : ℕ) → T (ltb x y) → T (ltb y z) → T (ltb x z)
ltb_transitive x y z t u = lt→ltb x z (omega (arith, ltb→lt x y t, ltb→lt y z u))

-- b was freed into more recently than d: it is ranked, and d is not or is ranked behind it
abbrev pub MoreRecent : Superblock → Superblock → Type 0
MoreRecent b d = (0 < b.rank) × ((d.rank ≡ 0) ⊎ (b.rank < d.rank))

pub facts_of_more_recent : (b d : Superblock) → T (is_more_recent b d) → MoreRecent b d
unfolding is_more_recent is_ranked
facts_of_more_recent b d t = (ltb→lt 0 b.rank (both_left (ltb 0 b.rank) _ t), go (ltb 0 d.rank) refl (both_right (ltb 0 b.rank) _ t))
  where
    go : (x : Bool) → ltb 0 d.rank ≡ x → T (either (not x) (ltb b.rank d.rank)) → (d.rank ≡ 0) ⊎ (b.rank < d.rank)
    go true e u = inr (ltb→lt b.rank d.rank u)
    go false e u = inl (let l = ltb-false 0 d.rank e in omega arith)

pub more_recent_of_facts : (b d : Superblock) → MoreRecent b d → T (is_more_recent b d)
unfolding is_more_recent is_ranked
more_recent_of_facts b d h = both_make (ltb 0 b.rank) _ (lt→ltb 0 b.rank h.0) (go h.1)
  where
    go : (d.rank ≡ 0) ⊎ (b.rank < d.rank) → T (either (not (ltb 0 d.rank)) (ltb b.rank d.rank))
    go (inl e) = either_left (not (ltb 0 d.rank)) _ (T_of_true _ (ap not (le-ltb 0 d.rank (omega arith))))
    go (inr l) = either_right (not (ltb 0 d.rank)) _ (lt→ltb b.rank d.rank l)

-- b is fuller than d, or as full and freed into more recently
abbrev pub FullerOrMoreRecent : Superblock → Superblock → Type 0
FullerOrMoreRecent b d = (live_in d < live_in b) ⊎ ((live_in b ≡ live_in d) × MoreRecent b d)

pub facts_of_fuller_or_more_recent : (b d : Superblock) → T (fuller_or_more_recent b d) → FullerOrMoreRecent b d
unfolding fuller_or_more_recent more_live
facts_of_fuller_or_more_recent b d t = go (ltb (live_in d) (live_in b)) refl t
  where
    go : (x : Bool) → ltb (live_in d) (live_in b) ≡ x → T (either x (both (eqb (live_in b) (live_in d)) (is_more_recent b d))) → FullerOrMoreRecent b d
    go true e u = inl (ltb→lt (live_in d) (live_in b) (T_of_true _ e))
    go false e u = inr (
      eqb→eq (live_in b) (live_in d) (both_left (eqb (live_in b) (live_in d)) _ u),
      facts_of_more_recent b d (both_right (eqb (live_in b) (live_in d)) _ u),
    )

pub fuller_or_more_recent_of_facts : (b d : Superblock) → FullerOrMoreRecent b d → T (fuller_or_more_recent b d)
unfolding fuller_or_more_recent more_live
fuller_or_more_recent_of_facts b d (inl l) = either_left (ltb (live_in d) (live_in b)) _ (lt→ltb (live_in d) (live_in b) l)
fuller_or_more_recent_of_facts b d (inr (e, h)) =
    either_right (ltb (live_in d) (live_in b)) _ (both_make (eqb (live_in b) (live_in d)) _ (T_of_true _ (eq-eqb (live_in b) (live_in d) e))
    (more_recent_of_facts b d h))

more_recent_transitive : (a b d : Superblock) → MoreRecent a b → MoreRecent b d → MoreRecent a d
more_recent_transitive a b d (ranked, first) (also, second) = (ranked, go first second)
  where
    go : (b.rank ≡ 0) ⊎ (a.rank < b.rank) → (d.rank ≡ 0) ⊎ (b.rank < d.rank) → (d.rank ≡ 0) ⊎ (a.rank < d.rank)
    go (inl z) y = absurd (let q : ⊥ = omega arith in q)
    go (inr l) (inl z) = inl z
    go (inr l) (inr m) = inr (omega arith)

more_recent_negatively_transitive : (a b d : Superblock) → MoreRecent a d → (MoreRecent b d → ⊥) → MoreRecent a b
more_recent_negatively_transitive a b d (ranked, first) f = (ranked, go (ℕ_discrete b.rank 0) first)
  where
    go : Dec (b.rank ≡ 0) → (d.rank ≡ 0) ⊎ (a.rank < d.rank) → (b.rank ≡ 0) ⊎ (a.rank < b.rank)
    go (yes z) x = inl z
    go (no n) (inl z) = absurd (f (pos_of_ne-zero n, inl z))
    go (no n) (inr l) = inr (behind (dec_lt b.rank d.rank))
      where
        behind : Dec (b.rank < d.rank) → a.rank < b.rank
        behind (yes m) = absurd (f (pos_of_ne-zero n, inr m))
        behind (no g) = let m = le_of_not_below g in omega arith

fuller_or_more_recent_transitive : (a b d : Superblock) → FullerOrMoreRecent a b → FullerOrMoreRecent b d → FullerOrMoreRecent a d
fuller_or_more_recent_transitive a b d (inl l) (inl m) = inl (omega arith)
fuller_or_more_recent_transitive a b d (inl l) (inr (e, h)) = inl (omega arith)
fuller_or_more_recent_transitive a b d (inr (e, h)) (inl m) = inl (omega arith)
fuller_or_more_recent_transitive a b d (inr (e, h)) (inr (g, k)) = inr (e ∙ g, more_recent_transitive a b d h k)

fuller_or_more_recent_negatively_transitive : (a b d : Superblock) → FullerOrMoreRecent a d → (FullerOrMoreRecent b d → ⊥) → FullerOrMoreRecent a b
fuller_or_more_recent_negatively_transitive a b d h f = go (dec_lt (live_in b) (live_in a)) h
  where
    not_fuller : live_in b ≤ live_in d
    not_fuller = le_of_not_below (λ l. f (inl l))

    go : Dec (live_in b < live_in a) → FullerOrMoreRecent a d → FullerOrMoreRecent a b
    go (yes l) x = inl l
    go (no g) (inl m) = let n = le_of_not_below g in let o = not_fuller in inl (omega arith)
    go (no g) (inr (e, k)) =
        let n = le_of_not_below g in
        let o = not_fuller in
        let same : live_in b ≡ live_in d = omega arith in
        inr (e ∙ sym same, more_recent_negatively_transitive a b d k (λ r. f (inr (same, r))))

pub fuller_or_more_recent_is_strict_weak_order : StrictWeakOrder fuller_or_more_recent
fuller_or_more_recent_is_strict_weak_order = record {
  is_irreflexive = λ b t. irreflexive b (facts_of_fuller_or_more_recent b b t);
  is_transitive = λ a b d t u. fuller_or_more_recent_of_facts a d
      (fuller_or_more_recent_transitive a b d (facts_of_fuller_or_more_recent a b t) (facts_of_fuller_or_more_recent b d u));
  is_negatively_transitive = λ a b d t f.
      fuller_or_more_recent_of_facts a b (fuller_or_more_recent_negatively_transitive a b d (facts_of_fuller_or_more_recent a d t)
      (λ h. f (fuller_or_more_recent_of_facts b d h)));
}
  where
    irreflexive : (b : Superblock) → FullerOrMoreRecent b b → ⊥
    irreflexive b (inl l) = omega arith
    irreflexive b (inr (e, (ranked, inl z))) = omega arith
    irreflexive b (inr (e, (ranked, inr l))) = omega arith

pub fewer_live_is_strict_weak_order : StrictWeakOrder fewer_live
unfolding fewer_live
fewer_live_is_strict_weak_order = record {
  is_irreflexive = λ b. ltb_irreflexive (live_in b);
  is_transitive = λ a b d. ltb_transitive (live_in a) (live_in b) (live_in d);
  is_negatively_transitive = λ a b d t f. lt→ltb (live_in a) (live_in b)
      (omega (arith, ltb→lt (live_in a) (live_in d) t, le_of_not_ltb (live_in b) (live_in d) f));
}

pub never_preferred_is_strict_weak_order : StrictWeakOrder never_preferred
unfolding never_preferred
never_preferred_is_strict_weak_order = record { is_irreflexive = λ b t. t; is_transitive = λ a b d t u. t; is_negatively_transitive = λ a b d t f. t }

-- ---- the choice
module _ (meets : Superblock → Bool) (preferred : Superblock → Superblock → Bool) (table : List Superblock) where
  -- superblock n beside the best of those below it
  module _ (r : StrictWeakOrder preferred) (n : ℕ) where
    -- it does not meet the criterion, or is not preferred
    best_kept : (k : ℕ) → (T (meets (get_or table n blank)) → T (preferred (get_or table n blank) (get_or table k blank)) → ⊥)
        → IsBest meets preferred table n k → IsBest meets preferred table (suc n) k
    best_kept k h b = record {
      below = omega (arith, b.below);
      meets_criterion_lem = b.meets_criterion_lem;
      none_preferred = λ m l t. none m (eq-or-lt_of_le (le_of_suc-le-suc l)) t;
      preferred_to_earlier = b.preferred_to_earlier;
    }
      where
        none : (m : ℕ) → (m ≡ n) ⊎ (m < n) → T (meets (get_or table m blank)) → T (preferred (get_or table m blank) (get_or table k blank)) → ⊥
        none m (inl q) t u = h (subst (λ (i : ℕ). T (meets (get_or table i blank))) q t)
            (subst (λ (i : ℕ). T (preferred (get_or table i blank) (get_or table k blank))) q u)
        none m (inr q) t u = b.none_preferred m q t u

    -- it meets the criterion, and is preferred to each below it that meets the criterion
    best_new : T (meets (get_or table n blank)) → ((m : ℕ) → m < n → T (meets (get_or table m blank))
        → T (preferred (get_or table m blank) (get_or table n blank)) → ⊥)
        → ((m : ℕ) → m < n → T (meets (get_or table m blank)) → T (preferred (get_or table n blank) (get_or table m blank)))
        → IsBest meets preferred table (suc n) n
    best_new w h first = record {
      below = lt-suc_self n;
      meets_criterion_lem = w;
      none_preferred = λ m l t. none m (eq-or-lt_of_le (le_of_suc-le-suc l)) t;
      preferred_to_earlier = first;
    }
      where
        none : (m : ℕ) → (m ≡ n) ⊎ (m < n) → T (meets (get_or table m blank)) → T (preferred (get_or table m blank) (get_or table n blank)) → ⊥
        none m (inl q) t u = r.is_irreflexive (get_or table n blank) (subst (λ (i : ℕ). T (preferred (get_or table i blank) (get_or table n blank))) q u)
        none m (inr q) t u = h m q t u

    best_replaced : (k : ℕ) → T (meets (get_or table n blank)) → T (preferred (get_or table n blank) (get_or table k blank)) → IsBest meets preferred table n k
        → IsBest meets preferred table (suc n) n
    best_replaced k w more b =
        best_new w (λ m l t u. b.none_preferred m l t (r.is_transitive (get_or table m blank) (get_or table n blank) (get_or table k blank) u more))
        (λ m l t. r.is_negatively_transitive (get_or table n blank) (get_or table m blank) (get_or table k blank) more (b.none_preferred m l t))

    best_step : (k : ℕ) (w : Bool) → meets (get_or table n blank) ≡ w → (f : Option ℕ) → ((m : ℕ) → f ≡ Some m → IsBest meets preferred table n m)
        → (f ≡ None → (m : ℕ) → m < n → T (meets (get_or table m blank)) → ⊥) → pick w (prefer preferred table f n) f ≡ Some k
        → IsBest meets preferred table (suc n) k
    unfolding prefer
    best_step k false w f some none e = best_kept k (λ t u. not_T_of_false (meets (get_or table n blank)) w t) (some k e)
    best_step k true w None some none e =
        subst (IsBest meets preferred table (suc n)) (same_Some n k e)
        (best_new (T_of_true (meets (get_or table n blank)) w) (λ m l t u. none refl m l t) (λ m l t. absurd (none refl m l t)))
    best_step k true w (Some m) some none e = go (preferred (get_or table n blank) (get_or table m blank)) refl e
      where
        go : (x : Bool) → preferred (get_or table n blank) (get_or table m blank) ≡ x → pick x (Some n) (Some m) ≡ Some k
            → IsBest meets preferred table (suc n) k
        go true q found =
            subst (IsBest meets preferred table (suc n)) (same_Some n k found)
            (best_replaced m (T_of_true (meets (get_or table n blank)) w) (T_of_true (preferred (get_or table n blank) (get_or table m blank)) q) (some m refl))
        go false q found = subst (IsBest meets preferred table (suc n)) (same_Some m k found)
            (best_kept m (λ t u. not_T_of_false (preferred (get_or table n blank) (get_or table m blank)) q u) (some m refl))

  prefer_not_nothing : (f : Option ℕ) (k : ℕ) → prefer preferred table f k ≡ None → ⊥
  unfolding prefer
  prefer_not_nothing None k e = none-some k (sym e)
  prefer_not_nothing (Some m) k e = go (preferred (get_or table k blank) (get_or table m blank)) e
    where
      go : (t : Bool) → pick t (Some k) (Some m) ≡ None → ⊥
      go true q = none-some k (sym q)
      go false q = none-some m (sym q)

  -- nothing is found exactly if none meets the criterion
  pub none_meets_of_chosen_nothing : (n : ℕ) → chosen_below meets preferred table n ≡ None → (m : ℕ) → m < n → T (meets (get_or table m blank)) → ⊥
  unfolding chosen_below
  none_meets_of_chosen_nothing zero e m l t = omega arith
  none_meets_of_chosen_nothing (suc n) e m l t = go (λ q. none_meets_of_chosen_nothing n q m) (meets (get_or table n blank)) refl e
      (eq-or-lt_of_le (le_of_suc-le-suc l))
    where
      go : (chosen_below meets preferred table n ≡ None → m < n → T (meets (get_or table m blank)) → ⊥) → (w : Bool) → meets (get_or table n blank) ≡ w
          → pick w (prefer preferred table (chosen_below meets preferred table n) n) (chosen_below meets preferred table n) ≡ None → (m ≡ n) ⊎ (m < n) → ⊥
      go ih true w q d = prefer_not_nothing (chosen_below meets preferred table n) n q
      go ih false w q (inl same) = not_T_of_false (meets (get_or table m blank)) (ap (λ (i : ℕ). meets (get_or table i blank)) same ∙ w) t
      go ih false w q (inr less) = ih q less t

  pub chosen_nothing_of_none_meets : (n : ℕ) → ((m : ℕ) → m < n → T (meets (get_or table m blank)) → ⊥) → chosen_below meets preferred table n ≡ None
  unfolding chosen_below
  chosen_nothing_of_none_meets zero h = refl
  chosen_nothing_of_none_meets (suc n) h =
      pick_false (meets (get_or table n blank)) (prefer preferred table (chosen_below meets preferred table n) n) (chosen_below meets preferred table n)
      (false_of_not_T (meets (get_or table n blank)) (h n (lt-suc_self n)))
      ∙ chosen_nothing_of_none_meets n (λ m l. h m (omega arith))

  pub best_of_chosen : StrictWeakOrder preferred → (n k : ℕ) → chosen_below meets preferred table n ≡ Some k → IsBest meets preferred table n k
  unfolding chosen_below
  best_of_chosen r zero k e = absurd (none-some k e)
  best_of_chosen r (suc n) k e = best_step r n k (meets (get_or table n blank)) refl (chosen_below meets preferred table n) (best_of_chosen r n)
      (none_meets_of_chosen_nothing n) e

  -- where one meets the criterion, one is found
  pub chosen_of_meets : (n m : ℕ) → m < n → T (meets (get_or table m blank)) → (k : ℕ) × (chosen_below meets preferred table n ≡ Some k)
  chosen_of_meets n m l t = go (chosen_below meets preferred table n) refl
    where
      go : (f : Option ℕ) → chosen_below meets preferred table n ≡ f → (k : ℕ) × (chosen_below meets preferred table n ≡ Some k)
      go (Some k) e = (k, e)
      go None e = absurd (none_meets_of_chosen_nothing n e m l t)

  -- only one superblock is the best, and it is the one found
  best_not_two : (n k m : ℕ) → IsBest meets preferred table n k → IsBest meets preferred table n m → k < m → ⊥
  best_not_two n k m b d l = b.none_preferred m d.below d.meets_criterion_lem (d.preferred_to_earlier k l b.meets_criterion_lem)

  pub best_unique : (n k m : ℕ) → IsBest meets preferred table n k → IsBest meets preferred table n m → k ≡ m
  best_unique n k m b d = go (dec_lt k m) (dec_lt m k)
    where
      go : Dec (k < m) → Dec (m < k) → k ≡ m
      go (yes l) x = absurd (best_not_two n k m b d l)
      go (no f) (yes l) = absurd (best_not_two n m k d b l)
      go (no f) (no g) = omega arith

  pub chosen_of_best : StrictWeakOrder preferred → (n k : ℕ) → IsBest meets preferred table n k → chosen_below meets preferred table n ≡ Some k
  chosen_of_best r n k b =
      let found = chosen_of_meets n k b.below b.meets_criterion_lem in
      found.1 ∙ ap Some (best_unique n found.0 k (best_of_chosen r n found.0 found.1) b)

-- ---- what meets the criterion
-- class c with a free block, in heap h
pub facts_of_has_free : (h c : ℕ) (b : Superblock) → T (has_free h c b) → (b.owner ≡ h) × (b.class ≡ c) × (live_in b < blocks_of c)
unfolding has_free
facts_of_has_free h c b t =
    let o = owner_and_class_of_belongs h c b (both_left (belongs h c b) _ t) in
    (o.0, o.1, ltb→lt (live_in b) (blocks_of c) (both_right (belongs h c b) _ t))

pub has_free_of_facts : (h c : ℕ) (b : Superblock) → b.owner ≡ h → b.class ≡ c → live_in b < blocks_of c → T (has_free h c b)
unfolding has_free
has_free_of_facts h c b p q l = both_make (belongs h c b) _ (belongs_of_owner_and_class h c b p q) (lt→ltb (live_in b) (blocks_of c) l)

-- nothing live, in heap 0
pub facts_of_empty_in_global : (b : Superblock) → T (empty_in_global b) → (b.owner ≡ 0) × (live_in b ≡ 0)
unfolding empty_in_global
facts_of_empty_in_global b t = (eqb→eq b.owner 0 (both_left (eqb b.owner 0) _ t), eqb→eq (live_in b) 0 (both_right (eqb b.owner 0) _ t))

pub empty_in_global_of_facts : (b : Superblock) → b.owner ≡ 0 → live_in b ≡ 0 → T (empty_in_global b)
unfolding empty_in_global
empty_in_global_of_facts b p q = both_make (eqb b.owner 0) _ (T_of_true _ (eq-eqb b.owner 0 p)) (T_of_true _ (eq-eqb (live_in b) 0 q))

-- ---- the page's words for each choice
pub best_of_fullest : (h c : ℕ) (s : State) (k : ℕ) → fullest h c s ≡ Some k → IsBest (has_free h c) fuller_or_more_recent s.table 64 k
unfolding fullest
best_of_fullest h c s k e = best_of_chosen (has_free h c) fuller_or_more_recent s.table fuller_or_more_recent_is_strict_weak_order 64 k e

-- an offered superblock such that none offered has more live ..
pub fullest_has_most_live : (h c : ℕ) (s : State) (k m : ℕ) → fullest h c s ≡ Some k → m < 64 → T (has_free h c (superblock_at s m))
    → live_in (superblock_at s m) ≤ live_in (superblock_at s k)
fullest_has_most_live h c s k m e l t =
    le_of_not_below (λ more. (best_of_fullest h c s k e).none_preferred m l t
    (fuller_or_more_recent_of_facts (superblock_at s m) (superblock_at s k) (inl more)))

-- .. nor as many and was freed into more recently: "the one freed into most recently since it was last renewed comes first" ..
pub fullest_is_most_recent_among_equals : (h c : ℕ) (s : State) (k m : ℕ) → fullest h c s ≡ Some k → m < 64 → T (has_free h c (superblock_at s m))
    → live_in (superblock_at s m) ≡ live_in (superblock_at s k)
    → MoreRecent (superblock_at s m) (superblock_at s k) → ⊥
fullest_is_most_recent_among_equals h c s k m e l t same recent =
    (best_of_fullest h c s k e).none_preferred m l t (fuller_or_more_recent_of_facts (superblock_at s m) (superblock_at s k) (inr (same, recent)))

-- .. nor as many, with no rank either and a lower number: "Those not freed into since then follow, lower number first"
pub fullest_is_lowest_among_unranked : (h c : ℕ) (s : State) (k m : ℕ) → fullest h c s ≡ Some k → m < k → T (has_free h c (superblock_at s m))
    → live_in (superblock_at s m) ≡ live_in (superblock_at s k)
    → (superblock_at s m).rank ≡ 0 → (superblock_at s k).rank ≡ 0 → ⊥
fullest_is_lowest_among_unranked h c s k m e l t same none also =
    go (facts_of_fuller_or_more_recent (superblock_at s k) (superblock_at s m) ((best_of_fullest h c s k e).preferred_to_earlier m l t))
  where
    go : FullerOrMoreRecent (superblock_at s k) (superblock_at s m) → ⊥
    go (inl more) = omega arith
    go (inr (equal, (ranked, x))) = omega arith

pub none_free_of_fullest_nothing : (h c : ℕ) (s : State) → fullest h c s ≡ None → (m : ℕ) → m < 64 → T (has_free h c (superblock_at s m)) → ⊥
unfolding fullest
none_free_of_fullest_nothing h c s e m l t = none_meets_of_chosen_nothing (has_free h c) fuller_or_more_recent s.table 64 e m l t

pub fullest_of_has_free : (h c : ℕ) (s : State) (m : ℕ) → m < 64 → T (has_free h c (superblock_at s m)) → (k : ℕ) × (fullest h c s ≡ Some k)
unfolding fullest
fullest_of_has_free h c s m l t = chosen_of_meets (has_free h c) fuller_or_more_recent s.table 64 m l t

pub best_of_lowest_empty : (s : State) (k : ℕ) → lowest_empty s ≡ Some k → IsBest empty_in_global never_preferred s.table 64 k
unfolding lowest_empty
best_of_lowest_empty s k e = best_of_chosen empty_in_global never_preferred s.table never_preferred_is_strict_weak_order 64 k e

pub none_empty_of_lowest_empty_nothing : (s : State) → lowest_empty s ≡ None → (m : ℕ) → m < 64 → T (empty_in_global (superblock_at s m)) → ⊥
unfolding lowest_empty
none_empty_of_lowest_empty_nothing s e m l t = none_meets_of_chosen_nothing empty_in_global never_preferred s.table 64 e m l t

-- none with a lower number is offered
pub none_empty_below_lowest_empty : (s : State) (k m : ℕ) → lowest_empty s ≡ Some k → m < k → T (empty_in_global (superblock_at s m)) → ⊥
unfolding never_preferred
none_empty_below_lowest_empty s k m e l t = (best_of_lowest_empty s k e).preferred_to_earlier m l t

pub best_of_lowest_unused : (s : State) (k : ℕ) → lowest_unused s ≡ Some k → IsBest is_unused never_preferred s.table s.setup.superblocks k
unfolding lowest_unused
best_of_lowest_unused s k e = best_of_chosen is_unused never_preferred s.table never_preferred_is_strict_weak_order s.setup.superblocks k e

pub none_unused_of_lowest_unused_nothing : (s : State) → lowest_unused s ≡ None → (m : ℕ) → m < s.setup.superblocks → T (is_unused (superblock_at s m)) → ⊥
unfolding lowest_unused
none_unused_of_lowest_unused_nothing s e m l t = none_meets_of_chosen_nothing is_unused never_preferred s.table s.setup.superblocks e m l t

pub none_unused_below_lowest_unused : (s : State) (k m : ℕ) → lowest_unused s ≡ Some k → m < k → T (is_unused (superblock_at s m)) → ⊥
unfolding never_preferred
none_unused_below_lowest_unused s k m e l t = (best_of_lowest_unused s k e).preferred_to_earlier m l t

pub best_of_emptiest : (h c : ℕ) (s : State) (k : ℕ) → emptiest h c s ≡ Some k → IsBest (belongs h c) fewer_live s.table 64 k
unfolding emptiest
best_of_emptiest h c s k e = best_of_chosen (belongs h c) fewer_live s.table fewer_live_is_strict_weak_order 64 k e

pub emptiest_has_fewest_live : (h c : ℕ) (s : State) (k m : ℕ) → emptiest h c s ≡ Some k → m < 64 → T (belongs h c (superblock_at s m))
    → live_in (superblock_at s k) ≤ live_in (superblock_at s m)
unfolding fewer_live
emptiest_has_fewest_live h c s k m e l t = le_of_not_ltb (live_in (superblock_at s m)) (live_in (superblock_at s k))
    ((best_of_emptiest h c s k e).none_preferred m l t)

pub emptiest_lowest_among_equals : (h c : ℕ) (s : State) (k m : ℕ) → emptiest h c s ≡ Some k → m < k → T (belongs h c (superblock_at s m))
    → live_in (superblock_at s k) < live_in (superblock_at s m)
unfolding fewer_live
emptiest_lowest_among_equals h c s k m e l t = ltb→lt (live_in (superblock_at s k)) (live_in (superblock_at s m))
    ((best_of_emptiest h c s k e).preferred_to_earlier m l t)

pub none_belongs_of_emptiest_nothing : (h c : ℕ) (s : State) → emptiest h c s ≡ None → (m : ℕ) → m < 64 → T (belongs h c (superblock_at s m)) → ⊥
unfolding emptiest
none_belongs_of_emptiest_nothing h c s e m l t = none_meets_of_chosen_nothing (belongs h c) fewer_live s.table 64 e m l t

pub emptiest_of_belongs : (h c : ℕ) (s : State) (m : ℕ) → m < 64 → T (belongs h c (superblock_at s m)) → (k : ℕ) × (emptiest h c s ≡ Some k)
unfolding emptiest
emptiest_of_belongs h c s m l t = chosen_of_meets (belongs h c) fewer_live s.table 64 m l t
