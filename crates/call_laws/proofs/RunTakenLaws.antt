-- Laws of a take of a long block (document 02, item 7), in the page's words: the superblocks of its run leave the ranking and become parts of the run
-- one after another, and the state still passes. Assumes nothing.
use mathlib.Core.Path.{◌≡◌, refl, sym, ap, ◌∙◌, subst}
use mathlib.Core.Bool.{false}
use mathlib.Core.Logic.{◌⊎◌, inl, inr, ⊎_elim, ◌↔◌}
use mathlib.Core.List.{List}
use Prim.Native.Nat.{ℕ, suc, ◌+◌, ◌*◌, ◌≤◌, ◌<◌}
use native.Mathlib.Nat.{pos_of_ne-zero}
use native.Mathlib.Decide.{ℕ_discrete, dec_lt}
use native.Mathlib.Omega.{arith}
use lib.ListN.{length, get_or-eq_default}
use lib.Dec.{T, eqb}
use Rattle.base_laws.specs.Sums.{pick}
use Rattle.base_laws.proofs.Inequalities.{le_of_not_below}
use Rattle.base_laws.proofs.Decides.{true_of_decides, false_of_decides}
use Rattle.class_rules.specs.Classes.{run_length}
use Rattle.class_rules.proofs.ClassLaws.{decides_long, decides_too_large, run_length_pos, run_length_le_16}
use Rattle.marks_laws.proofs.MarkLaws.{live_count_of_no_marks}
use Rattle.heap_rules.specs.declared.Superblock.{Superblock}
use Rattle.heap_rules.specs.declared.Setup.{Setup}
use Rattle.heap_rules.specs.declared.State.{State}
use Rattle.heap_rules.specs.Table.{run_owner, unused_owner, blank, superblock_at, live_in, is_of_run, run_part, with_rank}
use Rattle.heap_rules.specs.States.{with_superblock}
use Rattle.heap_rules.specs.Counts.{superblocks_of_class, live_of_class}
use Rattle.heap_rules.specs.Ranks.{rank_after_renewal, reranked, unranked}
use Rattle.move_rules.specs.Moves.{must_move}
use Rattle.check_rules.specs.Check.{runs_valid}
use Rattle.heap_laws.proofs.StateFacts.{Shape, Sound, RanksSound}
use Rattle.heap_laws.proofs.CountLaws.{superblock_at_replaced, superblock_at_others}
use Rattle.heap_laws.proofs.RankLaws.{rank_after_renewal_of_superblock, ranked_of_ranked_after_renewal, ranked_after_renewal_of_ranked}
use Rattle.heap_laws.proofs.RankLaws.{order_kept_by_renewal, unranked_ranks_sound}
use Rattle.heap_laws.proofs.RerankedLaws.{superblock_at_reranked, reranked_superblocks_of_class, reranked_live_of_class, reranked_shape, reranked_sound}
use Rattle.heap_laws.proofs.RunsKeptLaws.{outside_run_of_owner}
use Rattle.heap_laws.proofs.RunLaws.{Outside, runs_sound_of_valid, runs_valid_of_sound}
use Rattle.heap_laws.proofs.RunChoiceLaws.{Available, facts_of_is_available, FreeRun, lowest_run_is_free}
use Rattle.call_rules.specs.declared.Outcome.TheVariants.{Address}
use Rattle.call_rules.specs.Answers.{After}
use Rattle.call_rules.specs.LongBlocks.{joined_to_run, run_taken, long_taken_from}
use Rattle.call_rules.specs.Take.{take_of}
use Rattle.call_laws.proofs.CallEffects.{Passed, LongTakeAccepted, LongTakeEffect, RunUnranked}
use Rattle.call_laws.proofs.NamesKeptLaws.{names_valid_after_long_take}
use Rattle.call_laws.proofs.EachOfRunLaws.{each_of_run_by_steps}
use Rattle.call_laws.proofs.RunEffectLaws.{run_taken_made, run_taken_keeps_rest, run_taken_runs_sound}
use Rattle.call_laws.proofs.MadeUnownedLaws.{BecomesUnowned, move_rule_goes_by_counts, made_unowned_shape, made_unowned_superblocks_of_class}
use Rattle.call_laws.proofs.MadeUnownedLaws.{made_unowned_live_of_class, made_unowned_sound, made_unowned_ranks_sound}
use Rattle.heap_rules.specs.Runs.{InRun}

-- ---- a superblock that is "unused or empty in heap 0"
module _ (b : Superblock) (available : Available b) where
  owner_of_available : (b.owner ≡ 0) ⊎ (b.owner ≡ unused_owner)
  owner_of_available = ⊎_elim (λ u. inr u.owner) (λ h. inl h.0) available

  pub live_of_available : live_in b ≡ 0
  live_of_available = ⊎_elim (λ u. u.live) (λ h. h.1) available

  pub available_outside_run : is_of_run b ≡ false
  available_outside_run = outside_run_of_owner b (λ (q : b.owner ≡ run_owner). ⊎_elim (λ e. omega arith) (λ e. omega arith) owner_of_available)

-- the rank is no part of it
available_with_rank : (r : ℕ) (b : Superblock) → Available b → Available (with_rank r b)
available_with_rank r b (inl u) = inl (record { owner = u.owner; class = u.class; live = u.live })
available_with_rank r b (inr h) = inr h

-- ---- such a superblock, of number m, leaves the ranking and becomes part of a run, with number n as the length that it carries
module _ (t : State) (m n : ℕ) (shape : Shape t) (below : m < 64) (available : Available (superblock_at t m)) where
  abbrev rank : ℕ → ℕ
  rank = rank_after_renewal m t.table

  abbrev out_ranked : State
  out_ranked = reranked rank t

  abbrev joined : State
  joined = with_superblock out_ranked m (run_part n)

  out_at : superblock_at out_ranked m ≡ with_rank 0 (superblock_at t m)
  out_at = superblock_at_reranked rank t m below ∙ ap (λ (r : ℕ). with_rank r (superblock_at t m)) (rank_after_renewal_of_superblock m t.table)

  out_available : Available (superblock_at out_ranked m)
  out_available = subst Available (sym out_at) (available_with_rank 0 (superblock_at t m) available)

  becomes : BecomesUnowned out_ranked m (run_part n)
  becomes =
      record {
        shape = reranked_shape rank t shape.length_is shape;
        in_table = below;
        owner_before = ⊎_elim inl (λ e. inr (omega arith)) (owner_of_available _ out_available);
        live_before = live_of_available _ out_available;
        unowned = record { owner = inr refl; class = refl; live = live_count_of_no_marks };
        marks_length = refl;
      }

  joined_shape : Shape joined
  joined_shape = made_unowned_shape out_ranked m (run_part n) becomes

  joined_sound : (order : List ℕ) → m < t.setup.superblocks → Sound t order → Sound joined order
  joined_sound order l sound =
      made_unowned_sound out_ranked m (run_part n) becomes (λ h c r. T (must_move h c r) → ⊥) move_rule_goes_by_counts order l
      (reranked_sound rank t shape.length_is order sound)

  joined_ranks_sound : RanksSound t → RanksSound joined
  unfolding unranked
  joined_ranks_sound sound = made_unowned_ranks_sound out_ranked m (run_part n) becomes (ap (λ (b : Superblock). b.rank) out_at) refl
      (unranked_ranks_sound m t below sound)

  joined_superblocks_of_class : (d : ℕ) → superblocks_of_class d joined ≤ superblocks_of_class d t
  joined_superblocks_of_class d =
      omega (arith, made_unowned_superblocks_of_class out_ranked m (run_part n) becomes d, reranked_superblocks_of_class rank t shape.length_is d)

  joined_live_of_class : (d : ℕ) → live_of_class d joined ≡ live_of_class d t
  joined_live_of_class d = made_unowned_live_of_class out_ranked m (run_part n) becomes d ∙ reranked_live_of_class rank t shape.length_is d

  joined_at_others : (j : ℕ) → j < 64 → (j ≡ m → ⊥) → superblock_at joined j ≡ with_rank (rank j) (superblock_at t j)
  joined_at_others j l other = superblock_at_others out_ranked m (run_part n) j other ∙ superblock_at_reranked rank t j l

  -- the others stay ranked or unranked, and among two the one ahead stays ahead
  module _ (j : ℕ) (l : j < 64) (other : j ≡ m → ⊥) where
    joined_rank : (superblock_at joined j).rank ≡ rank j
    joined_rank = ap (λ (b : Superblock). b.rank) (joined_at_others j l other)

    joined_unranked_iff : ((superblock_at joined j).rank ≡ 0) ↔ ((superblock_at t j).rank ≡ 0)
    joined_unranked_iff = (λ z. was z (dec_lt 0 (superblock_at t j).rank), λ z. stays z (dec_lt 0 (rank j)))
      where
        was : (superblock_at joined j).rank ≡ 0 → Dec (0 < (superblock_at t j).rank) → (superblock_at t j).rank ≡ 0
        was z (yes p) = absurd (let y : ⊥ = omega (arith, ranked_after_renewal_of_ranked m t.table j other p, joined_rank) in y)
        was z (no f) = omega arith

        stays : (superblock_at t j).rank ≡ 0 → Dec (0 < rank j) → (superblock_at joined j).rank ≡ 0
        stays z (yes p) = absurd (let y : ⊥ = omega (arith, ranked_of_ranked_after_renewal m t.table j other p) in y)
        stays z (no f) = omega (arith, joined_rank)

  joined_order_kept : RanksSound t → (i j : ℕ) → i < 64 → j < 64 → (i ≡ m → ⊥) → (j ≡ m → ⊥) → 0 < (superblock_at t i).rank
      → (superblock_at t i).rank < (superblock_at t j).rank
      → (superblock_at joined i).rank < (superblock_at joined j).rank
  joined_order_kept sound i j li lj f g pos h = omega (arith, order_kept_by_renewal m t below sound i j li lj f g pos h, joined_rank i li f, joined_rank j lj g)

  joined_at_superblock : superblock_at joined m ≡ run_part n
  joined_at_superblock = superblock_at_replaced out_ranked m (run_part n) becomes.shape.length_is below

-- ---- the first j of the run of n superblocks from k on have joined it: t is the state then, and s what was before
record Joined (s : State) (order : List ℕ) (k n j : ℕ) (t : State) : Type 0 where
  shape : Shape t
  setup : t.setup ≡ s.setup
  sound : Sound t order
  ranks : RanksSound t
  owned : (d : ℕ) → superblocks_of_class d t ≤ superblocks_of_class d s
  live : (d : ℕ) → live_of_class d t ≡ live_of_class d s
  -- the others of the run are still available
  available : (m : ℕ) → k + j ≤ m → m < k + n → Available (superblock_at t m)
  ranking : RunUnranked k j s t

-- one more leaves the ranking
run_unranked_of_one_more : (k j n : ℕ) (s t : State) (shape : Shape t) (below : k + j < 64) (available : Available (superblock_at t (k + j)))
    → RanksSound t → RunUnranked k j s t
    → RunUnranked k (suc j) s (joined t (k + j) n shape below available)
run_unranked_of_one_more k j n s t shape below available sound before = record { in_run = in_run; ranked_iff = ranked_iff; order_kept = order_kept }
  where
    after : State
    after = joined t (k + j) n shape below available

    in_run : (m : ℕ) → InRun k (suc j) m → (superblock_at after m).rank ≡ 0
    in_run m (low, high) = go (ℕ_discrete m (k + j))
      where
        go : Dec (m ≡ k + j) → (superblock_at after m).rank ≡ 0
        go (yes e) = ap (λ (x : ℕ). (superblock_at after x).rank) e ∙ ap (λ (b : Superblock). b.rank) (joined_at_superblock t (k + j) n shape below available)
        go (no f) = (joined_unranked_iff t (k + j) n shape below available m (omega arith) f).1 (before.in_run m (low, omega arith))

    apart : (m : ℕ) → (InRun k (suc j) m → ⊥) → (InRun k j m → ⊥) × (m ≡ k + j → ⊥)
    apart m f = (λ h. f (h.0, let q = h.1 in omega arith), λ e. f (omega arith, omega arith))

    ranked_iff : (m : ℕ) → m < 64 → (InRun k (suc j) m → ⊥) → ((superblock_at after m).rank ≡ 0) ↔ ((superblock_at s m).rank ≡ 0)
    ranked_iff m l f =
        let step = joined_unranked_iff t (k + j) n shape below available m l (apart m f).1 in
        let earlier = before.ranked_iff m l (apart m f).0 in
        (λ z. earlier.0 (step.0 z), λ z. step.1 (earlier.1 z))

    order_kept : (m l : ℕ) → m < 64 → l < 64 → (InRun k (suc j) m → ⊥) → (InRun k (suc j) l → ⊥) → 0 < (superblock_at s m).rank
        → (superblock_at s m).rank < (superblock_at s l).rank
        → (superblock_at after m).rank < (superblock_at after l).rank
    order_kept m l lm ll f g pos h =
        let ranked : 0 < (superblock_at t m).rank = pos_of_ne-zero (λ z. let y : ⊥ = omega (arith, (before.ranked_iff m lm (apart m f).0).0 z) in y) in
        joined_order_kept t (k + j) n shape below available sound m l lm ll (apart m f).1 (apart l g).1 ranked
        (before.order_kept m l lm ll (apart m f).0 (apart l g).0 pos h)

module _ (s : State) (order : List ℕ) (k n : ℕ) (shape : Shape s) (passed : Passed s order) (free : FreeRun n s k) where
  few : s.setup.superblocks ≤ 64
  few = passed.sound.numbers.superblocks_high

  none_joined : Joined s order k n 0 s
  none_joined =
      record {
        shape = shape;
        setup = refl;
        sound = passed.sound;
        ranks = passed.ranks;
        owned = λ d. omega arith;
        live = λ d. refl;
        available = λ m low high. facts_of_is_available (superblock_at s m) (free.available m (omega arith) high);
        ranking = record {
          in_run = λ m h. absurd (let low = h.0 in let high = h.1 in let z : ⊥ = omega arith in z);
          ranked_iff = λ m l f. (λ z. z, λ z. z);
          order_kept = λ m l lm ll f g pos h. h;
        };
      }

  one_more_joined : (j : ℕ) (t : State) → j < n → Joined s order k n j t → Joined s order k n (suc j) (joined_to_run k n (k + j) t)
  unfolding joined_to_run unranked
  one_more_joined j t l h =
      record {
        shape = joined_shape t (k + j) part h.shape below now;
        setup = h.setup;
        sound = joined_sound t (k + j) part h.shape below now order
            (subst (λ (u : Setup). k + j < u.superblocks) (sym h.setup) (omega (arith, free.below))) h.sound;
        ranks = joined_ranks_sound t (k + j) part h.shape below now h.ranks;
        owned = λ d. omega (arith, joined_superblocks_of_class t (k + j) part h.shape below now d, h.owned d);
        live = λ d. joined_live_of_class t (k + j) part h.shape below now d ∙ h.live d;
        available = λ m low high. subst Available
            (sym (joined_at_others t (k + j) part h.shape below now m (omega (arith, free.below, few)) (λ e. omega arith)))
            (available_with_rank _ _ (h.available m (omega arith) high));
        ranking = run_unranked_of_one_more k j part s t h.shape below now h.ranks h.ranking;
      }
    where
      part : ℕ
      part = pick (eqb (k + j) k) n 0

      below : k + j < 64
      below = omega (arith, free.below, few)

      now : Available (superblock_at t (k + j))
      now = h.available (k + j) (omega arith) (omega arith)

  all_joined : Joined s order k n n (run_taken k n s)
  unfolding run_taken
  all_joined = each_of_run_by_steps (joined_to_run k n) k s n (Joined s order k n) none_joined one_more_joined

-- ---- an accepted take of a long block
module _ (s : State) (order : List ℕ) (i size k : ℕ) (shape : Shape s) (acc : LongTakeAccepted s order i size k) where
  abbrev n : ℕ
  n = run_length size

  free : FreeRun n s k
  free = lowest_run_is_free n s k acc.run

  some : 1 ≤ n
  some = run_length_pos size (true_of_decides (decides_long size) acc.size_above_2048)

  at_most_16 : n ≤ 16
  at_most_16 = run_length_le_16 size (false_of_decides (decides_too_large size) acc.size_le_65535)

  in_table : k + n ≤ 64
  in_table = omega (arith, free.below, acc.passed.sound.numbers.superblocks_high)

  facts : Joined s order k n n (run_taken k n s)
  facts = all_joined s order k n shape acc.passed free

  state_is : (take_of s order i size).answer.state ≡ run_taken k n s
  unfolding long_taken_from
  state_is = ap (λ (x : After). x.answer.state) acc.result_is

  -- "The block's address is the start of the run"
  pub long_take_address : (take_of s order i size).answer.outcome ≡ Address (k * 4096)
  unfolding long_taken_from
  long_take_address = ap (λ (x : After). x.answer.outcome) acc.result_is

  -- "order places keep what they had"
  pub long_take_order : (take_of s order i size).order ≡ order
  unfolding long_taken_from
  long_take_order = ap (λ (x : After). x.order) acc.result_is

  -- a plain take keeps the names
  pub long_take_names : (take_of s order i size).answer.state.names ≡ s.names
  long_take_names = ap (λ (t : State). t.names) state_is ∙ (run_taken_keeps_rest k n s).names

  run_taken_others : (m : ℕ) → (InRun k n m → ⊥) → superblock_at (run_taken k n s) m ≡ with_rank (superblock_at (run_taken k n s) m).rank (superblock_at s m)
  run_taken_others m f = go (dec_lt m 64)
    where
      outside : m < 64 → Outside k n m
      outside l = go (dec_lt m k)
        where
          go : Dec (m < k) → Outside k n m
          go (yes before) = inl before
          go (no g) = inr (le_of_not_below (λ h. f (le_of_not_below g, h)))

      past_the_table : (t : State) → length t.table ≡ 64 → 64 ≤ m → superblock_at t m ≡ blank
      past_the_table t long far = get_or-eq_default t.table blank (omega arith)

      go : Dec (m < 64) → superblock_at (run_taken k n s) m ≡ with_rank (superblock_at (run_taken k n s) m).rank (superblock_at s m)
      go (yes l) = ((run_taken_made k n s shape.length_is in_table).outside m l (outside l)).0
      go (no g) = rw (past_the_table (run_taken k n s) facts.shape.length_is (le_of_not_below g), past_the_table s shape.length_is (le_of_not_below g))

  run_taken_effect : LongTakeEffect k n s (run_taken k n s)
  run_taken_effect =
      record {
        below = free.below;
        some = some;
        at_most_16 = at_most_16;
        setup = facts.setup;
        available = λ m h. free.available m h.0 h.1;
        run = λ m h. (run_taken_made k n s shape.length_is in_table).inside m h.0 h.1;
        others = run_taken_others;
        owned = facts.owned;
        live = facts.live;
      }

  pub long_take_effect : LongTakeEffect k (run_length size) s (take_of s order i size).answer.state
  long_take_effect = subst (LongTakeEffect k n s) (sym state_is) run_taken_effect

  -- "no rank": the superblocks of the run leave the ranking
  pub long_take_ranks : RunUnranked k (run_length size) s (take_of s order i size).answer.state
  long_take_ranks = subst (RunUnranked k n s) (sym state_is) facts.ranking

  pub long_take_shape : Shape (take_of s order i size).answer.state
  long_take_shape = subst Shape (sym state_is) facts.shape

  runs_after : T (runs_valid (run_taken k n s))
  runs_after =
      runs_valid_of_sound (run_taken k n s) facts.shape.length_is
      (run_taken_runs_sound k n s shape.length_is some at_most_16 in_table
      (λ m low high. available_outside_run (superblock_at s m) (facts_of_is_available (superblock_at s m) (free.available m low high)))
      (runs_sound_of_valid s shape.length_is acc.passed.runs))

  -- an accepted take yields a state that passes
  pub long_take_passed : Passed (take_of s order i size).answer.state (take_of s order i size).order
  long_take_passed =
      subst (λ (t : State). Passed t (take_of s order i size).order) (sym state_is)
      (subst (λ (places : List ℕ). Passed (run_taken k n s) places) (sym long_take_order)
      (record {
        sound = facts.sound;
        names = names_valid_after_long_take k n s (run_taken k n s) run_taken_effect (run_taken_keeps_rest k n s).names acc.passed.names;
        totals = (run_taken_keeps_rest k n s).totals acc.passed.totals;
        ranks = facts.ranks;
        runs = runs_after;
        room = subst (λ (u : Setup). u.superblocks * 256 ≤ length order) (sym facts.setup) acc.passed.room;
      }))
