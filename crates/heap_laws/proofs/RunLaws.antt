-- The runs of long blocks (document 02, item 7): the check's clause says that each is whole, at most 16 long and carries its length where it begins;
-- no two of them share a superblock, and a run taken or freed leaves the others as they are. Assumes nothing.
use mathlib.Core.Path.{◌≡◌, refl, sym, ap, ◌∙◌, subst}
use mathlib.Core.Bool.{Bool, true, false}
use mathlib.Core.Logic.{◌⊎◌, inl, inr}
use mathlib.Core.List.{List, [], ◌∷◌}
use Prim.Native.Nat.{ℕ, zero, suc, ◌+◌, ◌-◌, ◌≤◌, ◌<◌}
use native.Mathlib.Nat.{eq-or-lt_of_le}
use native.Mathlib.Decide.{dec_lt}
use native.Mathlib.Omega.{arith}
use borrow.Author.Tests.{eq-eqb}
use lib.ListN.{length, get_or}
use lib.Dec.{T, eqb, leb, leb→le, le→leb, eqb→eq}
use Rattle.base_laws.specs.Sums.{pick, both}
use Rattle.base_laws.proofs.Inequalities.{le_of_not_below}
use Rattle.base_laws.proofs.TestLaws.{T_of_true, true_of_T, true_not_false, both_left, both_right, both_make}
use Rattle.heap_rules.specs.declared.Superblock.{Superblock}
use Rattle.heap_rules.specs.declared.Setup.{Setup}
use Rattle.heap_rules.specs.declared.State.{State}
use Rattle.heap_rules.specs.Table.{run_owner, unused_owner, blank, superblock_at, is_of_run}
use Rattle.heap_rules.specs.States.{new_state}
use Rattle.check_rules.specs.Check.{within, runs_whole, runs_valid}
use Rattle.heap_laws.proofs.StateFacts.{RunsSound}
use Rattle.heap_rules.specs.Runs.{RunAt}

-- ---- the check's clause, read over a list
-- superblock k of a list follows the first of a run
abbrev FollowsIn : List Superblock → ℕ → Type 0
FollowsIn l k = (is_of_run (get_or l k blank) ≡ true) × ((get_or l k blank).run ≡ 0)

-- it lies in a run that begins before it
abbrev CoveredIn : List Superblock → ℕ → Type 0
CoveredIn l k = (m : ℕ) × (m < k) × (k < m + (get_or l m blank).run) × (is_of_run (get_or l m blank) ≡ true)

-- superblock k of a list, which carries a length, is the first of a run that is whole
record WholeFrom (l : List Superblock) (k : ℕ) : Type 0 where
  at_most_16 : (get_or l k blank).run ≤ 16
  in_table : k + (get_or l k blank).run ≤ length l
  others : (m : ℕ) → k < m → m < k + (get_or l k blank).run → FollowsIn l m

-- the superblocks of a list, of which so many at its head belong to a run that begins before it
record RunsFrom (left : ℕ) (l : List Superblock) : Type 0 where
  rest_in_table : left ≤ length l
  rest : (m : ℕ) → m < left → FollowsIn l m
  first_of_run : (k : ℕ) → k < length l → is_of_run (get_or l k blank) ≡ true → 0 < (get_or l k blank).run → WholeFrom l k
  inside_run : (k : ℕ) → k < length l → is_of_run (get_or l k blank) ≡ true → (get_or l k blank).run ≡ 0 → (k < left) ⊎ CoveredIn l k
  outside_carries_0 : (k : ℕ) → k < length l → is_of_run (get_or l k blank) ≡ false → (get_or l k blank).run ≡ 0

-- a superblock where so many of a run are still to come, itself the first of them
record FitsAt (left : ℕ) (b : Superblock) : Type 0 where
  still_of_run : 0 < left → (is_of_run b ≡ true) × (b.run ≡ 0)
  begins : is_of_run b ≡ true → left ≡ 0 → 0 < b.run
  at_most_16 : b.run ≤ 16
  outside_carries_0 : is_of_run b ≡ false → b.run ≡ 0

-- one that carries a length is of a run, where those of none carry 0
of_run_of_length : (b : Superblock) → (is_of_run b ≡ false → b.run ≡ 0) → 0 < b.run → is_of_run b ≡ true
of_run_of_length b outside some = go (is_of_run b) refl
  where
    go : (x : Bool) → is_of_run b ≡ x → is_of_run b ≡ true
    go true e = e
    go false e = absurd (let z : ⊥ = omega (arith, outside e) in z)

whole_of_same_left : (table : List Superblock) (m n : ℕ) → m ≡ n → T (runs_whole m table) → T (runs_whole n table)
whole_of_same_left table m n e t = subst (λ (x : ℕ). T (runs_whole x table)) e t

-- the clause at one superblock: behind it as many are to come as were before, and as it carries, but for itself
module _ (b : Superblock) (table : List Superblock) where
  fits_of_whole : (left : ℕ) → T (runs_whole left (b ∷ table)) → FitsAt left b × T (runs_whole (left + b.run - 1) table)
  unfolding runs_whole
  fits_of_whole zero t = go (is_of_run b) refl t
    where
      go : (x : Bool) → is_of_run b ≡ x → T (pick x (both (within 1 16 b.run) (runs_whole (b.run - 1) table)) (both (eqb b.run 0) (runs_whole 0 table)))
          → FitsAt 0 b × T (runs_whole (0 + b.run - 1) table)
      go true e u =
          let bounds = both_left (within 1 16 b.run) _ u in
          let low = leb→le 1 b.run (both_left (leb 1 b.run) _ bounds) in
          let high = leb→le b.run 16 (both_right (leb 1 b.run) _ bounds) in (
            record {
              still_of_run = λ l. absurd (let z : ⊥ = omega arith in z);
              begins = λ _ _. low;
              at_most_16 = high;
              outside_carries_0 = λ f. absurd (true_not_false (is_of_run b) e f);
            },
            whole_of_same_left table (b.run - 1) (0 + b.run - 1) (omega arith) (both_right (within 1 16 b.run) _ u),
          )
      go false e u =
          let none = eqb→eq b.run 0 (both_left (eqb b.run 0) _ u) in (
            record {
              still_of_run = λ l. absurd (let z : ⊥ = omega arith in z);
              begins = λ f _. absurd (true_not_false (is_of_run b) f e);
              at_most_16 = omega arith;
              outside_carries_0 = λ _. none;
            },
            whole_of_same_left table 0 (0 + b.run - 1) (omega arith) (both_right (eqb b.run 0) _ u),
          )
  fits_of_whole (suc left) t =
      let of_run = true_of_T (is_of_run b) (both_left (is_of_run b) _ t) in
      let u = both_right (is_of_run b) _ t in
      let none = eqb→eq b.run 0 (both_left (eqb b.run 0) _ u) in (
        record {
          still_of_run = λ _. (of_run, none);
          begins = λ _ z. absurd (let y : ⊥ = omega arith in y);
          at_most_16 = omega arith;
          outside_carries_0 = λ _. none;
        },
        whole_of_same_left table left (suc left + b.run - 1) (omega arith) (both_right (eqb b.run 0) _ u),
      )

  whole_of_fits : (left : ℕ) → FitsAt left b → T (runs_whole (left + b.run - 1) table) → T (runs_whole left (b ∷ table))
  unfolding runs_whole
  whole_of_fits zero f t = go (is_of_run b) refl
    where
      go : (x : Bool) → is_of_run b ≡ x → T (pick x (both (within 1 16 b.run) (runs_whole (b.run - 1) table)) (both (eqb b.run 0) (runs_whole 0 table)))
      go true e =
          both_make (within 1 16 b.run) _ (both_make (leb 1 b.run) _ (le→leb 1 b.run (f.begins e refl)) (le→leb b.run 16 f.at_most_16))
          (whole_of_same_left table (0 + b.run - 1) (b.run - 1) (omega arith) t)
      go false e =
          both_make (eqb b.run 0) _ (T_of_true _ (eq-eqb b.run 0 (f.outside_carries_0 e)))
          (whole_of_same_left table (0 + b.run - 1) 0 (omega (arith, f.outside_carries_0 e)) t)
  whole_of_fits (suc left) f t =
      let (of_run, none) = f.still_of_run (omega arith) in
      both_make (is_of_run b) _ (T_of_true _ of_run)
      (both_make (eqb b.run 0) _ (T_of_true _ (eq-eqb b.run 0 none)) (whole_of_same_left table (suc left + b.run - 1) left (omega arith) t))

  -- a run seen from one superblock before the list, and back
  whole_from_next : (k : ℕ) → WholeFrom table k → WholeFrom (b ∷ table) (suc k)
  whole_from_next k w = record { at_most_16 = w.at_most_16; in_table = omega (arith, w.in_table); others = go }
    where
      go : (m : ℕ) → suc k < m → m < suc k + (get_or table k blank).run → FollowsIn (b ∷ table) m
      go zero l h = absurd (let z : ⊥ = omega arith in z)
      go (suc m) l h = w.others m (omega arith) (omega arith)

  next_of_whole_from : (k : ℕ) → WholeFrom (b ∷ table) (suc k) → WholeFrom table k
  next_of_whole_from k w = record {
    at_most_16 = w.at_most_16;
    in_table = omega (arith, w.in_table);
    others = λ m l h. w.others (suc m) (omega arith) (omega arith);
  }

  -- ---- the facts of a list from those of its first superblock and of the others
  module _ (left : ℕ) (f : FitsAt left b) (g : RunsFrom (left + b.run - 1) table) where
    rest_of_next : (m : ℕ) → m < left → FollowsIn (b ∷ table) m
    rest_of_next zero l = f.still_of_run l
    rest_of_next (suc m) l = g.rest m (omega arith)

    first_of_next : (k : ℕ) → k < length (b ∷ table) → is_of_run (get_or (b ∷ table) k blank) ≡ true → 0 < (get_or (b ∷ table) k blank).run
        → WholeFrom (b ∷ table) k
    first_of_next zero l e h = record { at_most_16 = f.at_most_16; in_table = omega (arith, g.rest_in_table); others = go }
      where
        go : (m : ℕ) → 0 < m → m < 0 + b.run → FollowsIn (b ∷ table) m
        go zero p q = absurd (let z : ⊥ = omega arith in z)
        go (suc m) p q = g.rest m (omega arith)
    first_of_next (suc k) l e h = whole_from_next k (g.first_of_run k (omega arith) e h)

    -- superblock k behind the first is one of those still to come: of the run that was begun before, or of that which the first begins
    inside_of_still_to_come : (k : ℕ) → k < left + b.run - 1 → (suc k < left) ⊎ CoveredIn (b ∷ table) (suc k)
    inside_of_still_to_come k l = go left refl
      where
        go : (n : ℕ) → left ≡ n → (suc k < left) ⊎ CoveredIn (b ∷ table) (suc k)
        go zero e = inr (0, omega arith, omega arith, of_run_of_length b f.outside_carries_0 (omega arith))
        go (suc n) e = inl (omega (arith, (f.still_of_run (omega arith)).1))

    inside_of_next : (k : ℕ) → k < length (b ∷ table) → is_of_run (get_or (b ∷ table) k blank) ≡ true → (get_or (b ∷ table) k blank).run ≡ 0
        → (k < left) ⊎ CoveredIn (b ∷ table) k
    inside_of_next zero l e z = go left refl
      where
        go : (n : ℕ) → left ≡ n → (0 < left) ⊎ CoveredIn (b ∷ table) 0
        go zero q = absurd (let y : ⊥ = omega (arith, f.begins e q) in y)
        go (suc n) q = inl (omega arith)
    inside_of_next (suc k) l e z = go (g.inside_run k (omega arith) e z)
      where
        go : (k < left + b.run - 1) ⊎ CoveredIn table k
            → (suc k < left) ⊎ CoveredIn (b ∷ table) (suc k)
        go (inl p) = inside_of_still_to_come k p
        go (inr (m, before, covers, of_run)) = inr (suc m, omega arith, omega arith, of_run)

    runs_from_next : RunsFrom left (b ∷ table)
    runs_from_next = record {
      rest_in_table = omega (arith, g.rest_in_table);
      rest = rest_of_next;
      first_of_run = first_of_next;
      inside_run = inside_of_next;
      outside_carries_0 = outside;
    }
      where
        outside : (k : ℕ) → k < length (b ∷ table) → is_of_run (get_or (b ∷ table) k blank) ≡ false → (get_or (b ∷ table) k blank).run ≡ 0
        outside zero l e = f.outside_carries_0 e
        outside (suc k) l e = g.outside_carries_0 k (omega arith) e

  -- ---- and back
  module _ (left : ℕ) (h : RunsFrom left (b ∷ table)) where
    -- where the first carries a length, its run is whole
    whole_of_length : 0 < b.run → WholeFrom (b ∷ table) 0
    whole_of_length some = h.first_of_run 0 (omega arith) (of_run_of_length b (h.outside_carries_0 0 (omega arith)) some) some

    fits_of_runs_from : FitsAt left b
    fits_of_runs_from = record {
      still_of_run = h.rest 0;
      begins = λ e z. begins b.run refl e z;
      at_most_16 = at_most_16 b.run refl;
      outside_carries_0 = h.outside_carries_0 0 (omega arith);
    }
      where
        begins : (r : ℕ) → b.run ≡ r → is_of_run b ≡ true → left ≡ 0 → 0 < b.run
        begins zero q e z = go (h.inside_run 0 (omega arith) e q)
          where
            go : (0 < left) ⊎ CoveredIn (b ∷ table) 0 → 0 < b.run
            go (inl l) = omega arith
            go (inr (m, before, covers, of_run)) = omega arith
        begins (suc r) q e z = omega arith

        at_most_16 : (r : ℕ) → b.run ≡ r → b.run ≤ 16
        at_most_16 zero q = omega arith
        at_most_16 (suc r) q = (whole_of_length (omega arith)).at_most_16

    -- the others
    rest_in_table_of_runs_from : left + b.run - 1 ≤ length table
    rest_in_table_of_runs_from = go b.run refl left refl
      where
        go : (r : ℕ) → b.run ≡ r → (n : ℕ) → left ≡ n → left + b.run - 1 ≤ length table
        go zero q n e = omega (arith, h.rest_in_table)
        go (suc r) q zero e = omega (arith, (whole_of_length (omega arith)).in_table)
        go (suc r) q (suc n) e = omega (arith, (h.rest 0 (omega arith)).1)

    rest_of_runs_from : (m : ℕ) → m < left + b.run - 1 → FollowsIn table m
    rest_of_runs_from m l = go left refl
      where
        go : (n : ℕ) → left ≡ n → FollowsIn table m
        go zero e = (whole_of_length (omega arith)).others (suc m) (omega arith) (omega arith)
        go (suc n) e = h.rest (suc m) (omega (arith, (h.rest 0 (omega arith)).1))

    next_of_runs_from : RunsFrom (left + b.run - 1) table
    next_of_runs_from =
        record {
          rest_in_table = rest_in_table_of_runs_from;
          rest = rest_of_runs_from;
          first_of_run = λ k l e some. next_of_whole_from k (h.first_of_run (suc k) (omega arith) e some);
          inside_run = λ k l e z. go k (h.inside_run (suc k) (omega arith) e z);
          outside_carries_0 = λ k l e. h.outside_carries_0 (suc k) (omega arith) e;
        }
      where
        go : (k : ℕ) → (suc k < left) ⊎ CoveredIn (b ∷ table) (suc k)
            → (k < left + b.run - 1) ⊎ CoveredIn table k
        go k (inl l) = inl (omega arith)
        go k (inr (zero, before, covers, of_run)) = inl (omega arith)
        go k (inr (suc m, before, covers, of_run)) = inr (m, omega arith, omega arith, of_run)

-- ---- the clause as facts, and back
runs_from_of_whole : (left : ℕ) (l : List Superblock) → T (runs_whole left l) → RunsFrom left l
unfolding runs_whole
runs_from_of_whole zero [] t =
    record {
      rest_in_table = omega arith;
      rest = λ m l. absurd (let z : ⊥ = omega arith in z);
      first_of_run = λ k l e h. absurd (let z : ⊥ = omega arith in z);
      inside_run = λ k l e q. absurd (let z : ⊥ = omega arith in z);
      outside_carries_0 = λ k l e. omega arith;
    }
runs_from_of_whole (suc left) [] t = absurd t
runs_from_of_whole left (b ∷ table) t =
    let (f, u) = fits_of_whole b table left t in
    runs_from_next b table left f (runs_from_of_whole (left + b.run - 1) table u)

whole_of_runs_from : (left : ℕ) (l : List Superblock) → RunsFrom left l → T (runs_whole left l)
unfolding runs_whole
whole_of_runs_from zero [] h = tt
whole_of_runs_from (suc left) [] h = omega (arith, h.rest_in_table)
whole_of_runs_from left (b ∷ table) h = whole_of_fits b table left (fits_of_runs_from b table left h)
    (whole_of_runs_from (left + b.run - 1) table (next_of_runs_from b table left h))

module _ (s : State) (length_is_64 : length s.table ≡ 64) where
  pub runs_sound_of_valid : T (runs_valid s) → RunsSound s
  unfolding runs_valid
  runs_sound_of_valid t =
      record {
        first_of_run = λ k l e some. run_at k e some (f.first_of_run k (omega arith) e some);
        inside_run = λ k l e z. inside k (f.inside_run k (omega arith) e z);
        outside_carries_0 = λ k l e. f.outside_carries_0 k (omega arith) e;
      }
    where
      f : RunsFrom 0 s.table
      f = runs_from_of_whole 0 s.table t

      run_at : (k : ℕ) → is_of_run (superblock_at s k) ≡ true → 0 < (superblock_at s k).run → WholeFrom s.table k → RunAt s k (superblock_at s k).run
      run_at k e some w =
          record {
            length_is = refl;
            some = some;
            at_most_16 = w.at_most_16;
            in_table = omega (arith, w.in_table);
            of_run = λ m low high. of_run m high (eq-or-lt_of_le low);
            others_carry_0 = λ m low high. (w.others m low high).1;
          }
        where
          of_run : (m : ℕ) → m < k + (superblock_at s k).run → (k ≡ m) ⊎ (k < m) → is_of_run (superblock_at s m) ≡ true
          of_run m high (inl q) = subst (λ (x : ℕ). is_of_run (superblock_at s x) ≡ true) q e
          of_run m high (inr low) = (w.others m low high).0

      inside : (k : ℕ) → (k < 0) ⊎ CoveredIn s.table k → CoveredIn s.table k
      inside k (inl l) = absurd (let z : ⊥ = omega arith in z)
      inside k (inr covered) = covered

  pub runs_valid_of_sound : RunsSound s → T (runs_valid s)
  unfolding runs_valid
  runs_valid_of_sound h =
      whole_of_runs_from 0 s.table
      (record {
        rest_in_table = omega arith;
        rest = λ m l. absurd (let z : ⊥ = omega arith in z);
        first_of_run = λ k l e some. whole_from k (h.first_of_run k (omega arith) e some);
        inside_run = λ k l e z. inr (h.inside_run k (omega arith) e z);
        outside_carries_0 = λ k l e. h.outside_carries_0 k (omega arith) e;
      })
    where
      whole_from : (k : ℕ) → RunAt s k (superblock_at s k).run → WholeFrom s.table k
      whole_from k r =
          record {
            at_most_16 = r.at_most_16;
            in_table = omega (arith, r.in_table);
            others = λ m low high. (r.of_run m (omega arith) high, r.others_carry_0 m low high);
          }

-- a new state has none
pub new_state_runs_sound : (u : Setup) → RunsSound (new_state u)
unfolding runs_valid runs_whole is_of_run
new_state_runs_sound u = runs_sound_of_valid (new_state u) refl tt

-- ---- the runs of a state
-- each superblock of a run lies in one that is whole ..
pub run_of_superblock : (s : State) → RunsSound s → (k : ℕ) → k < 64 → is_of_run (superblock_at s k) ≡ true
    → (m : ℕ) × RunAt s m (superblock_at s m).run × (m ≤ k) × (k < m + (superblock_at s m).run)
run_of_superblock s h k l e = go (superblock_at s k).run refl
  where
    go : (r : ℕ) → (superblock_at s k).run ≡ r → (m : ℕ) × RunAt s m (superblock_at s m).run × (m ≤ k) × (k < m + (superblock_at s m).run)
    go zero z =
        let (m, before, covers, of_run) = h.inside_run k l e z in
        (m, h.first_of_run m (omega arith) of_run (omega arith), omega arith, covers)
    go (suc r) z = (k, h.first_of_run k l e (omega arith), omega arith, omega arith)

-- .. and in just one: two runs that share superblock j are the same, since the later one would begin inside the earlier, where none carries a length
pub runs_apart : (s : State) (k n m r j : ℕ) → RunAt s k n → RunAt s m r → k ≤ j → j < k + n → m ≤ j → j < m + r → k ≡ m
runs_apart s k n m r j a b ka kb ma mb = go (dec_lt k m) (dec_lt m k)
  where
    go : Dec (k < m) → Dec (m < k) → k ≡ m
    go (yes l) _ = omega (arith, a.others_carry_0 m l (omega arith), b.length_is, b.some)
    go (no f) (yes l) = omega (arith, b.others_carry_0 k l (omega arith), a.length_is, a.some)
    go (no f) (no g) = omega (arith, le_of_not_below f, le_of_not_below g)

-- "all below N", where the superblocks from N on are unused
pub run_below_superblocks : (s : State) (k n : ℕ) → RunAt s k n → ((m : ℕ) → m < 64 → s.setup.superblocks ≤ m → (superblock_at s m).owner ≡ unused_owner)
    → k + n ≤ s.setup.superblocks
unfolding is_of_run
run_below_superblocks s k n r unused-from = le_of_not_below go
  where
    go : s.setup.superblocks < k + n → ⊥
    go l =
        let some = r.some in
        let last = r.of_run (k + n - 1) (omega arith) (omega arith) in
        let owner = unused-from (k + n - 1) (omega (arith, r.in_table)) (omega arith) in
        omega (arith, eqb→eq (superblock_at s (k + n - 1)).owner run_owner (T_of_true _ last))

-- ---- states in which only the superblocks from k to k + n - 1 differ
-- superblock m lies outside of these
abbrev pub Outside : ℕ → ℕ → ℕ → Type 0
Outside k n m = (m < k) ⊎ (k + n ≤ m)

-- what the runs read of superblock m is in t as in s
abbrev pub SameOfRuns : State → State → ℕ → Type 0
SameOfRuns s t m = (is_of_run (superblock_at t m) ≡ is_of_run (superblock_at s m)) × ((superblock_at t m).run ≡ (superblock_at s m).run)

-- each superblock lies outside of them or among them
pub side_of_range : (k n m : ℕ) → Outside k n m ⊎ ((k ≤ m) × (m < k + n))
side_of_range k n m = go (dec_lt m k) (dec_lt m (k + n))
  where
    go : Dec (m < k) → Dec (m < k + n) → Outside k n m ⊎ ((k ≤ m) × (m < k + n))
    go (yes l) _ = inl (inl l)
    go (no f) (yes l) = inr (le_of_not_below f, l)
    go (no f) (no g) = inl (inr (le_of_not_below g))

pub outside_not_inside : (k n m : ℕ) → Outside k n m → k ≤ m → m < k + n → ⊥
outside_not_inside k n m (inl l) low high = omega arith
outside_not_inside k n m (inr l) low high = omega arith

-- a run of s whose superblocks are the same in t is one of t
pub run_at_of_same : (s t : State) (j r : ℕ) → RunAt s j r → ((m : ℕ) → j ≤ m → m < j + r → SameOfRuns s t m) → RunAt t j r
run_at_of_same s t j r a same =
    let some = a.some in
    record {
      length_is = (same j (omega arith) (omega arith)).1 ∙ a.length_is;
      some = some;
      at_most_16 = a.at_most_16;
      in_table = a.in_table;
      of_run = λ m low high. (same m low high).0 ∙ a.of_run m low high;
      others_carry_0 = λ m low high. (same m (omega arith) high).1 ∙ a.others_carry_0 m low high;
    }

module _ (s t : State) (k n : ℕ) (others : (m : ℕ) → m < 64 → Outside k n m → SameOfRuns s t m)
    -- a run of s that has a superblock outside lies outside
    (apart : (j r i : ℕ) → RunAt s j r → j ≤ i → i < j + r → Outside k n i → (m : ℕ) → j ≤ m → m < j + r → Outside k n m) (h : RunsSound s) where
  run_kept : (j r i : ℕ) → RunAt s j r → j ≤ i → i < j + r → Outside k n i → RunAt t j r
  run_kept j r i a low high out = run_at_of_same s t j r a (λ m p q. others m (omega (arith, a.in_table)) (apart j r i a low high out m p q))

  first_kept : (j : ℕ) → j < 64 → Outside k n j → is_of_run (superblock_at t j) ≡ true → 0 < (superblock_at t j).run → RunAt t j (superblock_at t j).run
  first_kept j l out e some =
      let (of_run, length_is) = others j l out in
      let a = h.first_of_run j l (sym of_run ∙ e) (omega arith) in
      subst (λ (r : ℕ). RunAt t j r) (sym length_is) (run_kept j (superblock_at s j).run j a (omega arith) (omega arith) out)

  inside_kept : (j : ℕ) → j < 64 → Outside k n j → is_of_run (superblock_at t j) ≡ true → (superblock_at t j).run ≡ 0 → CoveredIn t.table j
  inside_kept j l out e z =
      let (of_run, length_is) = others j l out in
      let (m, a, low, high) = run_of_superblock s h j l (sym of_run ∙ e) in
      let b = run_kept m (superblock_at s m).run j a low high out in
      (m, before m b low high (eq-or-lt_of_le low), omega (arith, b.length_is), b.of_run m (omega arith) (omega arith))
    where
      before : (m : ℕ) → RunAt t m (superblock_at s m).run → m ≤ j → j < m + (superblock_at s m).run → (m ≡ j) ⊎ (m < j) → m < j
      before m b low high (inl q) = omega (arith, b.length_is, b.some, ap (λ (x : ℕ). (superblock_at t x).run) q)
      before m b low high (inr below) = below

  -- so the runs of t are sound where its superblocks inside are
  runs_sound_of_range : ((j : ℕ) → k ≤ j → j < k + n → j < 64 → is_of_run (superblock_at t j) ≡ true → 0 < (superblock_at t j).run
      → RunAt t j (superblock_at t j).run)
      → ((j : ℕ) → k ≤ j → j < k + n → is_of_run (superblock_at t j) ≡ true → (superblock_at t j).run ≡ 0 → CoveredIn t.table j)
      → ((j : ℕ) → k ≤ j → j < k + n → is_of_run (superblock_at t j) ≡ false → (superblock_at t j).run ≡ 0) → RunsSound t
  runs_sound_of_range first inside outside =
      record {
        first_of_run = λ j l. elim (side_of_range k n j) [ inl out ↦ first_kept j l out | inr (low, high) ↦ first j low high l ];
        inside_run = λ j l. elim (side_of_range k n j) [ inl out ↦ inside_kept j l out | inr (low, high) ↦ inside j low high ];
        outside_carries_0 = λ j l. elim (side_of_range k n j) [ inl out ↦ outside_kept j l out | inr (low, high) ↦ outside j low high ];
      }
    where
      outside_kept : (j : ℕ) → j < 64 → Outside k n j → is_of_run (superblock_at t j) ≡ false → (superblock_at t j).run ≡ 0
      outside_kept j l out e = let (of_run, length_is) = others j l out in length_is ∙ h.outside_carries_0 j l (sym of_run ∙ e)

-- a run taken: superblocks of no run become one
pub runs_sound_of_run_taken : (s t : State) (k n : ℕ) → ((m : ℕ) → k ≤ m → m < k + n → is_of_run (superblock_at s m) ≡ false) → RunAt t k n
    → ((m : ℕ) → m < 64 → Outside k n m → SameOfRuns s t m) → RunsSound s → RunsSound t
runs_sound_of_run_taken s t k n free taken others h = runs_sound_of_range s t k n others apart h first inside outside
  where
    apart : (j r i : ℕ) → RunAt s j r → j ≤ i → i < j + r → Outside k n i → (m : ℕ) → j ≤ m → m < j + r → Outside k n m
    apart j r i a _ _ _ m p q =
        elim (side_of_range k n m)
        [ inl out ↦ out | inr (low, high) ↦ absurd (true_not_false (is_of_run (superblock_at s m)) (a.of_run m p q) (free m low high)) ]

    first : (j : ℕ) → k ≤ j → j < k + n → j < 64 → is_of_run (superblock_at t j) ≡ true → 0 < (superblock_at t j).run → RunAt t j (superblock_at t j).run
    first j low high l e some = go (eq-or-lt_of_le low)
      where
        go : (k ≡ j) ⊎ (k < j) → RunAt t j (superblock_at t j).run
        go (inl q) = subst (λ (x : ℕ). RunAt t x (superblock_at t x).run) q (subst (λ (r : ℕ). RunAt t k r) (sym taken.length_is) taken)
        go (inr below) = absurd (let z : ⊥ = omega (arith, taken.others_carry_0 j below high) in z)

    inside : (j : ℕ) → k ≤ j → j < k + n → is_of_run (superblock_at t j) ≡ true → (superblock_at t j).run ≡ 0 → CoveredIn t.table j
    inside j low high e z = go (eq-or-lt_of_le low)
      where
        go : (k ≡ j) ⊎ (k < j) → CoveredIn t.table j
        go (inl q) = absurd (let y : ⊥ = omega (arith, taken.length_is, taken.some, ap (λ (x : ℕ). (superblock_at t x).run) q) in y)
        go (inr below) = (k, below, omega (arith, taken.length_is), taken.of_run k (omega arith) (omega arith))

    outside : (j : ℕ) → k ≤ j → j < k + n → is_of_run (superblock_at t j) ≡ false → (superblock_at t j).run ≡ 0
    outside j low high e = absurd (true_not_false (is_of_run (superblock_at t j)) (taken.of_run j low high) e)

-- a run freed: "a free makes the whole run unused"
pub runs_sound_of_run_freed : (s t : State) (k n : ℕ) → RunAt s k n
    → ((m : ℕ) → k ≤ m → m < k + n → (is_of_run (superblock_at t m) ≡ false) × ((superblock_at t m).run ≡ 0))
    → ((m : ℕ) → m < 64 → Outside k n m → SameOfRuns s t m) → RunsSound s → RunsSound t
runs_sound_of_run_freed s t k n a freed others h =
    runs_sound_of_range s t k n others apart h
    (λ j low high l e some. absurd (true_not_false (is_of_run (superblock_at t j)) e (freed j low high).0))
    (λ j low high e z. absurd (true_not_false (is_of_run (superblock_at t j)) e (freed j low high).0))
    (λ j low high e. (freed j low high).1)
  where
    apart : (j r i : ℕ) → RunAt s j r → j ≤ i → i < j + r → Outside k n i → (m : ℕ) → j ≤ m → m < j + r → Outside k n m
    apart j r i b jl jh out m p q = elim (side_of_range k n m) [ inl outside ↦ outside | inr (low, high) ↦ absurd (shared low high) ]
      where
        -- superblock m is of both, so that these are one, and i lies inside
        shared : k ≤ m → m < k + n → ⊥
        shared low high =
            let same = runs_apart s k n j r m a b low high p q in
            let same_length : n ≡ r = omega (arith, a.length_is, b.length_is, ap (λ (x : ℕ). (superblock_at s x).run) same) in
            outside_not_inside k n i out (omega arith) (omega arith)
