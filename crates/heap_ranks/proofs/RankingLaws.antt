-- The ranks of a table changed superblock by superblock, as the code goes. Assumes nothing.
use mathlib.Core.Path.{◌≡◌, refl, sym, ap, ◌∙◌, subst}
use mathlib.Core.Bool.{true, false}
use mathlib.Core.Logic.{◌⊎◌, inl, inr}
use mathlib.Core.List.{List}
use Prim.Native.Nat.{ℕ, ◌+◌, ◌-◌, ◌≤◌, ◌<◌}
use native.Mathlib.Decide.{ℕ_discrete}
use native.Mathlib.Omega.{arith}
use lib.Dec.{eqb}
use lib.ListN.{length, get_or, set, length-set, get_or-eq_default}
use lib.Seq.{get_or-set_same, get_or-set_other, ext_get_or}
use borrow.Author.Tests.{eq-eqb, ne_eqb, lt-ltb, le-ltb}
use Rattle.base_laws.specs.Sums.{pick, one}
use Rattle.base_laws.specs.Lists.{listed}
use Rattle.base_laws.proofs.ListedLaws.{length_listed, get_or_listed}
use Rattle.heap_rules.specs.declared.Superblock.{Superblock}
use Rattle.heap_rules.specs.declared.State.{State}
use Rattle.heap_rules.specs.Table.{blank, superblock_at, with_rank}
use Rattle.heap_rules.specs.Ranks.{is_ranked, is_more_recent, rank_after_free, rank_after_renewal, ranked_latest, unranked, RanksFit}

-- ---- one rank written
abbrev pub with_table : State → List Superblock → State
with_table s table = record { setup = s.setup; table = table; names = s.names; totals = s.totals }

abbrev pub with_rank_at : State → ℕ → ℕ → State
with_rank_at t m x = with_table t (set t.table m (with_rank x (superblock_at t m)))

-- ---- the loop
-- t is s with the ranks of the superblocks below m by a rule
pub record RankedBelow (rank : ℕ → ℕ) (s t : State) (m : ℕ) : Type 0 where
  pub long : length t.table ≡ 64
  pub rest : t ≡ with_table s t.table
  pub passed : (j : ℕ) → j < m → superblock_at t j ≡ with_rank (rank j) (superblock_at s j)
  pub left : (j : ℕ) → m ≤ j → superblock_at t j ≡ superblock_at s j

pub ranked_none : (rank : ℕ → ℕ) (s : State) → length s.table ≡ 64 → RankedBelow rank s s 0
ranked_none rank s long = record { long = long; rest = refl; passed = λ j l. absurd (omega arith); left = λ j l. refl }

module _ (rank : ℕ → ℕ) (s t : State) (m : ℕ) (before : RankedBelow rank s t m) where
  rank_left : (superblock_at t m).rank ≡ (superblock_at s m).rank
  rank_left = ap (λ (b : Superblock). b.rank) (before.left m (omega arith))

  pub ranked_step_kept : (superblock_at s m).rank ≡ rank m → RankedBelow rank s t (m + 1)
  ranked_step_kept e =
      record {
        long = before.long;
        rest = before.rest;
        passed = λ j l. go j l (ℕ_discrete j m);
        left = λ j l. before.left j (omega arith);
      }
    where
      go : (j : ℕ) → j < m + 1 → Dec (j ≡ m) → superblock_at t j ≡ with_rank (rank j) (superblock_at s j)
      go j l (yes q) =
          subst (λ (i : ℕ). superblock_at t i ≡ with_rank (rank i) (superblock_at s i)) (sym q)
          (before.left m (omega arith) ∙ ap (λ (r : ℕ). with_rank r (superblock_at s m)) e)
      go j l (no n) = before.passed j (omega arith)

  pub ranked_step_written : (x : ℕ) → m < 64 → x ≡ rank m → RankedBelow rank s (with_rank_at t m x) (m + 1)
  ranked_step_written x h e =
      record {
        long = length-set t.table m (with_rank x (superblock_at t m)) ∙ before.long;
        rest = ap (λ (u : State). with_table u (set t.table m (with_rank x (superblock_at t m)))) before.rest;
        passed = λ j l. go j l (ℕ_discrete j m);
        left = λ j l. get_or-set_other t.table m j _ blank (λ (q : j ≡ m). omega arith) ∙ before.left j (omega arith);
      }
    where
      go : (j : ℕ) → j < m + 1 → Dec (j ≡ m) → superblock_at (with_rank_at t m x) j ≡ with_rank (rank j) (superblock_at s j)
      go j l (yes q) =
          subst (λ (i : ℕ). superblock_at (with_rank_at t m x) i ≡ with_rank (rank i) (superblock_at s i)) (sym q)
          (get_or-set_same t.table m (with_rank x (superblock_at t m)) blank (omega (arith, before.long)) ∙ ap (with_rank x) (before.left m (omega arith))
          ∙ ap (λ (r : ℕ). with_rank r (superblock_at s m)) e)
      go j l (no n) = get_or-set_other t.table m j _ blank n ∙ before.passed j (omega arith)

  -- all passed, then superblock k's rank written
  ranked_end : (k x : ℕ) → 64 ≤ m → k < 64 → with_rank_at t k x ≡ with_table s (listed (λ j. with_rank (pick (eqb j k) x (rank j)) (superblock_at s j)) 64)
  ranked_end k x h l =
      ap (λ (u : State). with_table u (set t.table k (with_rank x (superblock_at t k)))) before.rest
      ∙ ap (with_table s) (ext_get_or blank (set t.table k (with_rank x (superblock_at t k))) (listed new 64) (long ∙ sym (length_listed new 64))
      (λ j lj. let g : j < 64 = omega (arith, long) in go j g (ℕ_discrete j k) ∙ sym (get_or_listed new 64 j blank g)))
    where
      new : ℕ → Superblock
      new j = with_rank (pick (eqb j k) x (rank j)) (superblock_at s j)

      long : length (set t.table k (with_rank x (superblock_at t k))) ≡ 64
      long = length-set t.table k (with_rank x (superblock_at t k)) ∙ before.long

      go : (j : ℕ) → j < 64 → Dec (j ≡ k) → get_or (set t.table k (with_rank x (superblock_at t k))) j blank ≡ new j
      go j g (yes q) =
          ap (λ (i : ℕ). get_or (set t.table k (with_rank x (superblock_at t k))) i blank) q
          ∙ get_or-set_same t.table k (with_rank x (superblock_at t k)) blank (omega (arith, before.long))
          ∙ ap (with_rank x) (before.passed k (omega arith))
          ∙ rw (q, eq-eqb k k refl)
      go j g (no n) = get_or-set_other t.table k j _ blank n ∙ before.passed j (omega arith) ∙ rw (ne_eqb j k n)

-- ---- a free into superblock k: those ahead of it go one back
abbrev pub shifted_back : ℕ → State → ℕ → ℕ
shifted_back k s m = (superblock_at s m).rank + one (is_more_recent (superblock_at s m) (superblock_at s k))

-- a rank is ahead of `was` where it is below `behind`
abbrev pub EndsAhead : ℕ → ℕ → Type 0
EndsAhead was behind = ((was ≡ 0) × (behind ≡ 65)) ⊎ ((was ≡ 0 → ⊥) × (behind ≡ was))

more_recent_of_ahead : (b d : Superblock) (behind : ℕ) → EndsAhead d.rank behind → 0 < b.rank → b.rank < behind → is_more_recent b d ≡ true
unfolding is_more_recent is_ranked
more_recent_of_ahead b d behind (inl e) h l = let z : d.rank ≤ 0 = omega arith in rw (lt-ltb 0 b.rank h, le-ltb 0 d.rank z)
more_recent_of_ahead b d behind (inr e) h l =
    let z : 0 < d.rank = omega arith in let y : b.rank < d.rank = omega arith in
    rw (lt-ltb 0 b.rank h, lt-ltb 0 d.rank z, lt-ltb b.rank d.rank y)

not_more_recent_of_unranked : (b d : Superblock) → b.rank ≤ 0 → is_more_recent b d ≡ false
unfolding is_more_recent is_ranked
not_more_recent_of_unranked b d h = rw (le-ltb 0 b.rank h)

not_more_recent_of_not_below : (b d : Superblock) → 0 < d.rank → d.rank ≤ b.rank → is_more_recent b d ≡ false
unfolding is_more_recent is_ranked
not_more_recent_of_not_below b d h l = let z : 0 < b.rank = omega arith in rw (lt-ltb 0 b.rank z, lt-ltb 0 d.rank h, le-ltb b.rank d.rank l)

not_more_recent_of_not_ahead : (b d : Superblock) (behind : ℕ) → b.rank ≤ 64 → EndsAhead d.rank behind → behind ≤ b.rank → is_more_recent b d ≡ false
not_more_recent_of_not_ahead b d behind fit (inl e) h = absurd (omega arith)
not_more_recent_of_not_ahead b d behind fit (inr e) h = not_more_recent_of_not_below b d (omega arith) (omega arith)

module _ (s t t' : State) (k m behind : ℕ) (before : RankedBelow (shifted_back k s) s t m) (low : m < 64) (fit : RanksFit s)
    (ends : EndsAhead (superblock_at s k).rank behind) where
  pub one_back : 0 < (superblock_at t m).rank → (superblock_at t m).rank < behind → t' ≡ with_rank_at t m ((superblock_at t m).rank + 1)
      → RankedBelow (shifted_back k s) s t' (m + 1)
  one_back h l e =
      let x = rank_left (shifted_back k s) s t m before in
      let z = ap one (more_recent_of_ahead (superblock_at s m) (superblock_at s k) behind ends (omega arith) (omega arith)) in
      rw e (ranked_step_written (shifted_back k s) s t m before ((superblock_at t m).rank + 1) low (omega arith))

  kept_of_not_more_recent : is_more_recent (superblock_at s m) (superblock_at s k) ≡ false → t' ≡ t → RankedBelow (shifted_back k s) s t' (m + 1)
  kept_of_not_more_recent f e = let z = ap one f in rw e (ranked_step_kept (shifted_back k s) s t m before (omega arith))

  pub unranked_not_back : (superblock_at t m).rank ≤ 0 → t' ≡ t → RankedBelow (shifted_back k s) s t' (m + 1)
  unranked_not_back h =
      let x = rank_left (shifted_back k s) s t m before in
      kept_of_not_more_recent (not_more_recent_of_unranked (superblock_at s m) (superblock_at s k) (omega arith))

  pub behind_not_back : behind ≤ (superblock_at t m).rank → t' ≡ t → RankedBelow (shifted_back k s) s t' (m + 1)
  behind_not_back h =
      let x = rank_left (shifted_back k s) s t m before in
      kept_of_not_more_recent (not_more_recent_of_not_ahead (superblock_at s m) (superblock_at s k) behind (fit m low) ends (omega arith))

pub ranked_latest_end : (s t : State) (k m : ℕ) → RankedBelow (shifted_back k s) s t m → 64 ≤ m → k < 64 → with_rank_at t k 1 ≡ ranked_latest k s
unfolding ranked_latest rank_after_free
ranked_latest_end s t k m before h l = ranked_end (shifted_back k s) s t m before k 1 h l

-- ---- superblock k leaves: those behind it go one ahead
abbrev pub shifted_ahead : ℕ → State → ℕ → ℕ
shifted_ahead k s m = (superblock_at s m).rank - one (is_more_recent (superblock_at s k) (superblock_at s m))

module _ (s t t' : State) (k m : ℕ) (before : RankedBelow (shifted_ahead k s) s t m) (low : m < 64) (is : (superblock_at s k).rank ≡ 0 → ⊥) where
  pub one_ahead : (superblock_at s k).rank < (superblock_at t m).rank → t' ≡ with_rank_at t m ((superblock_at t m).rank - 1)
      → RankedBelow (shifted_ahead k s) s t' (m + 1)
  one_ahead h e =
      let x = rank_left (shifted_ahead k s) s t m before in
      let z = ap one (more_recent_of_ahead (superblock_at s k) (superblock_at s m) (superblock_at s m).rank
      (inr ((λ (q : (superblock_at s m).rank ≡ 0). omega arith), refl)) (omega arith) (omega arith)) in
      rw e (ranked_step_written (shifted_ahead k s) s t m before ((superblock_at t m).rank - 1) low (omega arith))

  pub not_ahead : (superblock_at t m).rank ≤ (superblock_at s k).rank → t' ≡ t → RankedBelow (shifted_ahead k s) s t' (m + 1)
  not_ahead h e = rw e (ranked_step_kept (shifted_ahead k s) s t m before (go (ℕ_discrete (superblock_at s m).rank 0)))
    where
      go : Dec ((superblock_at s m).rank ≡ 0) → (superblock_at s m).rank ≡ shifted_ahead k s m
      go (yes q) = omega arith
      go (no n) =
          let x = rank_left (shifted_ahead k s) s t m before in
          let z = ap one (not_more_recent_of_not_below (superblock_at s k) (superblock_at s m) (omega arith) (omega arith)) in omega arith

pub unranked_end : (s t : State) (k m : ℕ) → RankedBelow (shifted_ahead k s) s t m → 64 ≤ m → k < 64 → with_rank_at t k 0 ≡ unranked k s
unfolding unranked rank_after_renewal
unranked_end s t k m before h l = ranked_end (shifted_ahead k s) s t m before k 0 h l

-- one that is not ranked leaves no gap
pub unranked_of_not_ranked : (s : State) (k : ℕ) → length s.table ≡ 64 → (superblock_at s k).rank ≡ 0 → s ≡ unranked k s
unfolding unranked rank_after_renewal
unranked_of_not_ranked s k long e =
    ap (with_table s) (ext_get_or blank s.table (listed new 64) (long ∙ sym (length_listed new 64))
    (λ j lj. go j (ℕ_discrete j k) ∙ sym (get_or_listed new 64 j blank (omega arith))))
  where
    new : ℕ → Superblock
    new j = with_rank (pick (eqb j k) 0 (shifted_ahead k s j)) (superblock_at s j)

    go : (j : ℕ) → Dec (j ≡ k) → superblock_at s j ≡ new j
    go j (yes q) = rw (q, eq-eqb k k refl) (ap (λ (r : ℕ). with_rank r (superblock_at s k)) e)
    go j (no n) =
        let z = ap one (not_more_recent_of_unranked (superblock_at s k) (superblock_at s j) (omega arith)) in
        let same : (superblock_at s j).rank ≡ shifted_ahead k s j = omega arith in
        rw (ne_eqb j k n) (ap (λ (r : ℕ). with_rank r (superblock_at s j)) same)

-- past the table nothing is ranked
pub unranked_past_table : (s : State) (k : ℕ) → length s.table ≡ 64 → 64 ≤ k → s ≡ unranked k s
unranked_past_table s k long past =
    unranked_of_not_ranked s k long (ap (λ (b : Superblock). b.rank) (get_or-eq_default s.table blank {n = k} (omega arith)))
