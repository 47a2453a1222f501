-- Laws of the scan: the best so far, turn by turn, is the choice among the superblocks looked at. Assumes nothing.
use Rattle.std.proofs.Common.{Option, Some, None, option_map, MatchOption, IsSomeAnd}
use mathlib.Core.Path.{◌≡◌, refl, sym, ap, ◌∙◌}
use mathlib.Core.Bool.{Bool, true, false}
use mathlib.Core.List.{List}
use Prim.Native.Nat.{ℕ, zero, suc, ◌+◌, ◌-◌, ◌≤◌, min}
use native.Mathlib.Decide.{dec_le}
use native.Mathlib.Numerals.{add-one}
use native.Mathlib.Omega.{arith}
use lib.ListN.{length, get_or, get_or-eq_default, take}
use Rattle.std.proofs.lemmas.List.{get_or-take, length-take-le}
use borrow.Author.Tests.{eq-eqb, ne_eqb}
use Rattle.base_laws.specs.Sums.{pick, both}
use Rattle.base_laws.proofs.TestLaws.{pick_false}
use Rattle.heap_rules.specs.declared.Superblock.{Superblock}
use Rattle.heap_rules.specs.Table.{blank, live_in, is_unused}
use Rattle.choice_rules.specs.Choice.{prefer, chosen_below, never_preferred}
use Rattle.choice_criteria.specs.declared.Criterion.{Criterion}
use Rattle.choice_criteria.specs.Criteria.{meets_criterion, owner_sought, class_fits, live_fits}
use Rattle.choice_criteria.proofs.CriterionLaws.{meets_by_parts}
use Rattle.choice_preference.specs.declared.Candidate.{Candidate}
use Rattle.choice_preference.specs.Preference.{preferred_by, candidate, preferred_by_numbers}
use Rattle.choice_preference.proofs.PreferenceLaws.{preferred_by_numbers_lem}
use Rattle.choice_superblock.specs.Scan.{replaces_best, best_after}

-- ---- the choice, by one superblock more
module _ (meets : Superblock → Bool) (preferred : Superblock → Superblock → Bool) (table : List Superblock) where
  chosen_below_suc : (n : ℕ) → chosen_below meets preferred table (n + 1) ≡ pick (meets (get_or table n blank))
      (prefer preferred table (chosen_below meets preferred table n) n) (chosen_below meets preferred table n)
  unfolding chosen_below
  chosen_below_suc n = rw add-one

-- ---- the best so far and the choice
-- the superblock of a number that was chosen, as a candidate
abbrev pub candidate_at : List Superblock → Option ℕ → Option Candidate
candidate_at table = option_map (λ k. candidate k (get_or table k blank))

-- the best of the superblocks below k
abbrev pub best_below : Criterion → List Superblock → ℕ → Option Candidate
best_below w table k = candidate_at table (chosen_below (meets_criterion w) (preferred_by w) table k)

pub best_below_start : (w : Criterion) (table : List Superblock) → None ≡ best_below w table 0
unfolding chosen_below
best_below_start w table = refl

pub best_below_end : (w : Criterion) (table : List Superblock) (k : ℕ) (f : Option ℕ)
    → MatchOption (best_below w table k) (f ≡ None) (λ x. IsSomeAnd f (λ m. m ≡ x.number))
    → f ≡ chosen_below (meets_criterion w) (preferred_by w) table k
best_below_end w table k f h = go (chosen_below (meets_criterion w) (preferred_by w) table k) f h
  where
    go : (c f : Option ℕ) → MatchOption (candidate_at table c) (f ≡ None) (λ x. IsSomeAnd f (λ m. m ≡ x.number)) → f ≡ c
    go None f e = e
    go (Some m) (Some k) e = ap Some e
    go (Some m) None e = absurd e

-- the owner sought, and any other
module _ (w : Criterion) (b : Superblock) where
  meets_of_owner : b.owner ≡ owner_sought w → meets_criterion w b ≡ both (class_fits w b.class) (live_fits w (live_in b))
  meets_of_owner o = meets_by_parts w b ∙ ap (λ (t : Bool). both t (both (class_fits w b.class) (live_fits w (live_in b))))
      (eq-eqb b.owner (owner_sought w) o)

  not_meeting_of_other_owner : (b.owner ≡ owner_sought w → ⊥) → meets_criterion w b ≡ false
  not_meeting_of_other_owner n = meets_by_parts w b ∙ ap (λ (t : Bool). both t (both (class_fits w b.class) (live_fits w (live_in b))))
      (ne_eqb b.owner (owner_sought w) n)

module _ (w : Criterion) (table : List Superblock) (k : ℕ) where
  abbrev looked : Superblock
  looked = get_or table k blank

  -- superblock k looked at, after the choice f among those before it
  candidate_after : looked.owner ≡ owner_sought w → (f : Option ℕ)
      → best_after w (candidate_at table f) k looked ≡ candidate_at table (pick (meets_criterion w looked) (prefer (preferred_by w) table f k) f)
  unfolding best_after replaces_best prefer
  candidate_after o None = rw (meets_of_owner w looked o) (go (class_fits w looked.class) (live_fits w (live_in looked)))
    where
      go : (t u : Bool) → pick (both t (both u true)) (Some (candidate k looked)) None ≡ candidate_at table (pick (both t u) (Some k) None)
      go true true = refl
      go true false = refl
      go false u = refl
  candidate_after o (Some m) =
      rw (meets_of_owner w looked o, preferred_by_numbers_lem w looked (get_or table m blank) k m)
      (go (class_fits w looked.class) (live_fits w (live_in looked))
      (preferred_by_numbers w (candidate k looked) (candidate m (get_or table m blank))))
    where
      go : (t u v : Bool) → pick (both t (both u v)) (Some (candidate k looked)) (candidate_at table (Some m))
          ≡ candidate_at table (pick (both t u) (pick v (Some k) (Some m)) (Some m))
      go true true true = refl
      go true true false = refl
      go true false v = refl
      go false u v = refl

  -- one turn of the loop, which leaves r
  module _ (best r : Option Candidate) (owner : ℕ) (o : owner ≡ owner_sought w) (e : best ≡ best_below w table k) where
    pub best_below_of_owner_sought : looked.owner ≡ owner → (a : Option Candidate) → a ≡ best_after w best k looked → r ≡ a → r ≡ best_below w table (k + 1)
    best_below_of_owner_sought q a g h =
        h ∙ g ∙ ap (λ (x : Option Candidate). best_after w x k looked) e
        ∙ candidate_after (q ∙ o) (chosen_below (meets_criterion w) (preferred_by w) table k)
        ∙ ap (candidate_at table) (sym (chosen_below_suc (meets_criterion w) (preferred_by w) table k))

    pub best_below_of_other_owner : (looked.owner ≡ owner → ⊥) → r ≡ best → r ≡ best_below w table (k + 1)
    best_below_of_other_owner n h =
        h ∙ e
        ∙ ap (candidate_at table) (sym (chosen_below_suc (meets_criterion w) (preferred_by w) table k
        ∙ pick_false (meets_criterion w looked) _ _ (not_meeting_of_other_owner w looked (λ q. n (q ∙ sym o)))))

-- ---- the whole table, and its part below N
pub chosen_in_table : (meets : Superblock → Bool) (preferred : Superblock → Superblock → Bool) (table : List Superblock) (f : Option ℕ)
    → length table ≡ 64 → f ≡ chosen_below meets preferred table (length table) → f ≡ chosen_below meets preferred table 64
chosen_in_table meets preferred table f long e = e ∙ ap (chosen_below meets preferred table) long

-- past the table's end nothing is unused
blank_not_unused : is_unused blank ≡ false
unfolding is_unused
blank_not_unused = refl

preferring_none : (table other : List Superblock) (k : ℕ) (f : Option ℕ) → prefer never_preferred table f k ≡ prefer never_preferred other f k
unfolding prefer never_preferred
preferring_none table other k None = refl
preferring_none table other k (Some j) = refl

module _ (table : List Superblock) (long : length table ≡ 64) where
  chosen_below_past_table : (d : ℕ) → chosen_below is_unused never_preferred table (d + 64) ≡ chosen_below is_unused never_preferred table 64
  chosen_below_past_table zero = refl
  chosen_below_past_table (suc d) =
      let e : get_or table (d + 64) blank ≡ blank = get_or-eq_default table blank {n = d + 64} (omega arith) in
      ap (chosen_below is_unused never_preferred table) (let z : suc d + 64 ≡ d + 64 + 1 = omega arith in z)
      ∙ chosen_below_suc is_unused never_preferred table (d + 64)
      ∙ pick_false (is_unused (get_or table (d + 64) blank)) _ _ (ap is_unused e ∙ blank_not_unused)
      ∙ chosen_below_past_table d

  -- what lies from superblock m on plays no part in a choice below it
  chosen_below_of_part : (m k : ℕ) → k ≤ m → chosen_below is_unused never_preferred (take m table) k ≡ chosen_below is_unused never_preferred table k
  unfolding chosen_below
  chosen_below_of_part m zero h = refl
  chosen_below_of_part m (suc k) h =
      rw (get_or-take m table k blank (omega arith), chosen_below_of_part m k (omega arith))
      (ap (λ (f : Option ℕ). pick (is_unused (get_or table k blank)) f (chosen_below is_unused never_preferred table k))
      (preferring_none (take m table) table k (chosen_below is_unused never_preferred table k)))

  pub chosen_unused_below : (n m : ℕ) (f : Option ℕ) → m ≡ min n 64
      → f ≡ chosen_below is_unused never_preferred (take m table) (length (take m table)) → f ≡ chosen_below is_unused never_preferred table n
  chosen_unused_below n m f e g =
      g
      ∙ ap (chosen_below is_unused never_preferred (take m table)) (length-take-le m table (omega arith))
      ∙ chosen_below_of_part m m (omega arith)
      ∙ go (dec_le n 64)
    where
      go : Dec (n ≤ 64) → chosen_below is_unused never_preferred table m ≡ chosen_below is_unused never_preferred table n
      go (yes h) = ap (chosen_below is_unused never_preferred table) (let z : m ≡ n = omega arith in z)
      go (no h) =
          ap (chosen_below is_unused never_preferred table) (let z : m ≡ 64 = omega arith in z)
          ∙ sym (chosen_below_past_table (n - 64))
          ∙ ap (chosen_below is_unused never_preferred table) (let z : n - 64 + 64 ≡ n = omega arith in z)

-- ---- what closes the goals of scan
pub ruleset scan_rules = (best_below_start, best_below_of_owner_sought, best_below_of_other_owner, best_below_end)
