-- Laws of a take, in the page's words. Assumes nothing.
use Rattle.std.specs.Prelude.{Option, Some, None}
use mathlib.Core.Path.{◌≡◌, refl, sym, ap, ◌∙◌, subst}
use mathlib.Core.Bool.{Bool, true, false, not}
use mathlib.Core.Logic.{◌⊎◌, inl, inr, ⊎_elim}
use mathlib.Core.List.{List}
use Prim.Native.Nat.{ℕ, ◌*◌, ◌≤◌, ◌<◌}
use native.Mathlib.Omega.{arith}
use borrow.Author.Tests.{le-leb, eqb-true, eqb-false, ltb-true, ltb-false}
use lib.ListN.{length}
use lib.Dec.{eqb, leb}
use Rattle.base_laws.specs.Sums.{pick}
use Rattle.base_laws.proofs.TestLaws.{T_of_true}
use Rattle.base_laws.proofs.Decides.{true_of_decides, false_of_decides}
use Rattle.class_rules.specs.Classes.{class_count, class_of, is_long, run_length, is_too_large}
use Rattle.class_rules.proofs.ClassLaws.{class_of_lt_27, decides_long, le_2048_of_not_long, decides_too_large}
use Rattle.heap_rules.specs.declared.Superblock.{Superblock}
use Rattle.heap_rules.specs.declared.Setup.{Setup}
use Rattle.heap_rules.specs.declared.State.{State}
use Rattle.heap_rules.specs.Table.{superblock_at, live_in}
use Rattle.heap_rules.specs.Ranks.{rank_after_renewal, unranked}
use Rattle.choice_rules.specs.Choice.{fullest, lowest_empty, lowest_unused, or_else}
use Rattle.choice_rules.specs.RunChoice.{lowest_run}
use Rattle.check_rules.specs.Check.{within_limits, rest_valid}
use Rattle.heap_laws.proofs.StateFacts.{Shape}
use Rattle.heap_laws.proofs.RankLaws.{superblock_at_unranked, unranked_ranks_sound}
use Rattle.heap_laws.proofs.RerankedLaws.{reranked_shape}
use Rattle.call_rules.specs.declared.Outcome.TheVariants.{Address}
use Rattle.call_rules.specs.Answers.{After, number_of, refused, checked, is_processor}
use Rattle.call_rules.specs.LongBlocks.{long_taken_from, long_taken_at}
use Rattle.call_rules.specs.Take.{other_places, acquired, acquired_order, unranked_if_empty, address_of, taken_from, taken_from_other, taken_at, take_unchecked}
use Rattle.call_rules.specs.Take.{take_of}
use Rattle.call_laws.proofs.CheckedLaws.{checked_refused_or_passed, checked_is_next_of_passed, bounds_of_is_processor}
use Rattle.call_laws.proofs.CallEffects.{Passed, TakeAccepted, LongTakeAccepted, TakeEffect, Renews, RenewsNot, TakeRanks}
use Rattle.call_laws.proofs.TakeSourceLaws.{last_block_of, taken_with, taken_from_is_taken_with, taken_from_other_is_taken_with, TakeSource}
use Rattle.call_laws.proofs.TakeSourceLaws.{source_of_own_heap, offered_of_other_places, source_of_other_places}
use Rattle.call_laws.proofs.TakeEffectLaws.{TakeResult, take_result_of_source, take_effect_of_reranked}
use Rattle.call_laws.proofs.CheckedLaws.{reranked_passed}

-- ---- refusals
-- "A size of 2049 to 65535" (document 02, item 7), by its two tests
above_2048_of_long : (size : ℕ) → is_long size ≡ true → 2048 < size
unfolding is_long
above_2048_of_long size = ltb-true 2048 size

le_65535_of_not_too_large : (size : ℕ) → is_too_large size ≡ false → size ≤ 65535
unfolding is_too_large
le_65535_of_not_too_large size = ltb-false 65535 size

-- a take past the check, by its three tests and by the run, and by what place 1 and the other places offer
abbrev pub taken_by_tests : State → List ℕ → ℕ → ℕ → Bool → Bool → Bool → Option ℕ → Option ℕ → Option ℕ → After
taken_by_tests s order i size processor large long run own other =
    pick (not processor) (refused 2 s order)
    (pick large (refused 3 s order)
    (pick long (long_taken_at (run_length size) s order run)
    (taken_at i (class_of size) s order own other)))

-- what the tests give to an accepted one, of a block of a class and of a long one
module _ (s : State) (order : List ℕ) (i size k : ℕ) (passed : Passed s order) (known : is_processor s i ≡ true) where
  take_accepted : is_long size ≡ false
      → ((fullest i (class_of size) s ≡ Some k) × (take_of s order i size ≡ taken_from k s order))
      ⊎ ((fullest i (class_of size) s ≡ None) × (other_places (class_of size) s ≡ Some k)
      × (take_of s order i size ≡ taken_from_other i (class_of size) k s order))
      → TakeAccepted s order i size k
  take_accepted l place = record {
    passed = passed;
    processor = bounds_of_is_processor s i (T_of_true (is_processor s i) known);
    size_le_2048 = le_2048_of_not_long size l;
    place = place;
  }

  long_take_accepted : is_too_large size ≡ false → is_long size ≡ true → lowest_run (run_length size) s ≡ Some k → take_of s order i size ≡ long_taken_from k
      (run_length size) s order → LongTakeAccepted s order i size k
  long_take_accepted l g run e = record {
    passed = passed;
    processor = bounds_of_is_processor s i (T_of_true (is_processor s i) known);
    size_above_2048 = above_2048_of_long size g;
    size_le_65535 = le_65535_of_not_too_large size l;
    run = run;
    result_is = e;
  }

-- a take is refused and changes nothing, or is accepted, of a block of a class or of a long one
pub take_refused_or_accepted : (s : State) (order : List ℕ) (i size : ℕ)
    → ((r : ℕ) × (take_of s order i size ≡ refused r s order)) ⊎ ((k : ℕ) × TakeAccepted s order i size k) ⊎ ((k : ℕ) × LongTakeAccepted s order i size k)
unfolding take_of take_unchecked taken_at long_taken_at
take_refused_or_accepted s order i size =
    ⊎_elim inl
    (λ h. go (is_processor s i) (is_too_large size) (is_long size) (lowest_run (run_length size) s) (fullest i (class_of size) s)
    (other_places (class_of size) s)
    refl refl refl refl refl refl h.0 h.1)
    (checked_refused_or_passed s order (take_unchecked s order i size))
  where
    go : (processor large long : Bool) (run own other : Option ℕ) → is_processor s i ≡ processor → is_too_large size ≡ large → is_long size ≡ long
        → lowest_run (run_length size) s ≡ run
        → fullest i (class_of size) s ≡ own → other_places (class_of size) s ≡ other → Passed s order → take_of s order i size
        ≡ taken_by_tests s order i size processor large long run own other
        → ((r : ℕ) × (take_of s order i size ≡ refused r s order)) ⊎ ((k : ℕ) × TakeAccepted s order i size k) ⊎ ((k : ℕ) × LongTakeAccepted s order i size k)
    go false large long run own other p l n h f g passed e = inl (2, e)
    go true true long run own other p l n h f g passed e = inl (3, e)
    go true false true (Some k) own other p l n h f g passed e = inr (inr (k, long_take_accepted s order i size k passed p l n h e))
    go true false true None own other p l n h f g passed e = inl (17, e)
    go true false false run (Some k) other p l n h f g passed e = inr (inl (k, take_accepted s order i size k passed p n (inl (f, e))))
    go true false false run None (Some k) p l n h f g passed e = inr (inl (k, take_accepted s order i size k passed p n (inr (f, g, e))))
    go true false false run None None p l n h f g passed e = inl (4, e)

-- no refusal of the check is 4 or 17
next_of_checked_refused : (r : ℕ) → (r ≡ 12 → ⊥) → (r ≡ 13 → ⊥) → (s : State) (order : List ℕ) (next : After) → checked s order next ≡ refused r s order
    → next ≡ refused r s order
unfolding checked number_of
next_of_checked_refused r not-12 not-13 s order next = go (within_limits s.setup) (leb (s.setup.superblocks * 256) (length order)) (rest_valid s order)
  where
    same : (n : ℕ) → refused n s order ≡ refused r s order → r ≡ n
    same n e = ap (λ (x : After). number_of x.answer.outcome) (sym e)

    go : (numbers lent rest : Bool) → pick numbers (pick lent (pick rest next (refused 13 s order)) (refused 12 s order)) (refused 13 s order)
        ≡ refused r s order → next ≡ refused r s order
    go false lent rest e = absurd (not-13 (same 13 e))
    go true false rest e = absurd (not-12 (same 12 e))
    go true true false e = absurd (not-13 (same 13 e))
    go true true true e = e

-- what the tests and the choices are where the number is 4, or 17
module _ (s : State) (order : List ℕ) (i size : ℕ) where
  number : (r : ℕ) (a : After) → a ≡ refused r s order → number_of a.answer.outcome ≡ r
  unfolding number_of
  number r a e = ap (λ (x : After). number_of x.answer.outcome) e

  nothing_found_of_refused_4 : (processor large long : Bool) (run own other : Option ℕ) → taken_by_tests s order i size processor large long run own other
      ≡ refused 4 s order
      → (long ≡ false) × (own ≡ None) × (other ≡ None)
  unfolding taken_at taken_from_other taken_from long_taken_at long_taken_from number_of
  nothing_found_of_refused_4 false large long run own other e = absurd (let z : ⊥ = omega (arith, number 4 (refused 2 s order) e) in z)
  nothing_found_of_refused_4 true true long run own other e = absurd (let z : ⊥ = omega (arith, number 4 (refused 3 s order) e) in z)
  nothing_found_of_refused_4 true false true (Some k) own other e =
      absurd (let z : ⊥ = omega (arith, number 4 (long_taken_from k (run_length size) s order) e) in z)
  nothing_found_of_refused_4 true false true None own other e = absurd (let z : ⊥ = omega (arith, number 4 (refused 17 s order) e) in z)
  nothing_found_of_refused_4 true false false run (Some k) other e = absurd (let z : ⊥ = omega (arith, number 4 (taken_from k s order) e) in z)
  nothing_found_of_refused_4 true false false run None (Some k) e =
      absurd (let z : ⊥ = omega (arith, number 4 (taken_from_other i (class_of size) k s order) e) in z)
  nothing_found_of_refused_4 true false false run None None e = (refl, refl, refl)

  no_run_found_of_refused_17 : (processor large long : Bool) (run own other : Option ℕ) → taken_by_tests s order i size processor large long run own other
      ≡ refused 17 s order
      → (large ≡ false) × (long ≡ true) × (run ≡ None)
  unfolding taken_at taken_from_other taken_from long_taken_at long_taken_from number_of
  no_run_found_of_refused_17 false large long run own other e = absurd (let z : ⊥ = omega (arith, number 17 (refused 2 s order) e) in z)
  no_run_found_of_refused_17 true true long run own other e = absurd (let z : ⊥ = omega (arith, number 17 (refused 3 s order) e) in z)
  no_run_found_of_refused_17 true false true (Some k) own other e =
      absurd (let z : ⊥ = omega (arith, number 17 (long_taken_from k (run_length size) s order) e) in z)
  no_run_found_of_refused_17 true false true None own other e = (refl, refl, refl)
  no_run_found_of_refused_17 true false false run (Some k) other e = absurd (let z : ⊥ = omega (arith, number 17 (taken_from k s order) e) in z)
  no_run_found_of_refused_17 true false false run None (Some k) e =
      absurd (let z : ⊥ = omega (arith, number 17 (taken_from_other i (class_of size) k s order) e) in z)
  no_run_found_of_refused_17 true false false run None None e = absurd (let z : ⊥ = omega (arith, number 17 (refused 4 s order) e) in z)

places_2_to_4_find_nothing : (c : ℕ) (s : State) → other_places c s ≡ None → (fullest 0 c s ≡ None) × (lowest_empty s ≡ None)
    × (lowest_unused s ≡ None)
unfolding other_places
places_2_to_4_find_nothing c s = go (fullest 0 c s) (lowest_empty s) (lowest_unused s)
  where
    go : (f g h : Option ℕ) → or_else f (or_else g h) ≡ None → (f ≡ None) × (g ≡ None) × (h ≡ None)
    go (Some k) g h e = absurd (let z : ◌≡◌ {A = ℕ} 0 1 = cc in omega arith)
    go None (Some k) h e = absurd (let z : ◌≡◌ {A = ℕ} 0 1 = cc in omega arith)
    go None None h e = (refl, refl, e)

-- refusal 4: given exactly if the size is one of a class and all four places offer nothing, to a call that no refusal before it meets
pub nothing_offered_of_refused_4 : (s : State) (order : List ℕ) (i size : ℕ) → take_of s order i size ≡ refused 4 s order
    → (size ≤ 2048) × (fullest i (class_of size) s ≡ None) × (fullest 0 (class_of size) s ≡ None) × (lowest_empty s ≡ None)
    × (lowest_unused s ≡ None)
unfolding take_of take_unchecked
nothing_offered_of_refused_4 s order i size e =
    let c = class_of size in
    let d = nothing_found_of_refused_4 s order i size (is_processor s i) (is_too_large size) (is_long size) (lowest_run (run_length size) s) (fullest i c s)
    (other_places c s)
    (next_of_checked_refused 4 (λ q. omega arith) (λ q. omega arith) s order _ e) in
    let o = places_2_to_4_find_nothing c s d.2 in
    (le_2048_of_not_long size d.0, d.1, o.0, o.1, o.2)

pub refused_4_of_nothing_offered : (s : State) (order : List ℕ) (i size : ℕ) → Passed s order → 1 ≤ i → i ≤ s.setup.processors → size ≤ 2048
    → fullest i (class_of size) s ≡ None → fullest 0 (class_of size) s ≡ None → lowest_empty s ≡ None → lowest_unused s ≡ None
    → take_of s order i size ≡ refused 4 s order
unfolding take_of take_unchecked taken_at other_places is_processor
refused_4_of_nothing_offered s order i size p h₁ h₂ h₃ a b c d =
    checked_is_next_of_passed s order (take_unchecked s order i size) p
    ∙ simp (
      le-leb 1 i h₁,
      le-leb i s.setup.processors h₂,
      false_of_decides (decides_too_large size) (omega arith),
      false_of_decides (decides_long size) h₃,
      a,
      b,
      c,
      d,
    )

-- refusal 17, "no such run, given exactly then and in place of 4 for a long size" (document 02, item 7): the size is a long one and no run is found
pub no_run_of_refused_17 : (s : State) (order : List ℕ) (i size : ℕ) → take_of s order i size ≡ refused 17 s order → (2048 < size) × (size ≤ 65535)
    × (lowest_run (run_length size) s ≡ None)
unfolding take_of take_unchecked
no_run_of_refused_17 s order i size e =
    let c = class_of size in
    let d = no_run_found_of_refused_17 s order i size (is_processor s i) (is_too_large size) (is_long size) (lowest_run (run_length size) s) (fullest i c s)
    (other_places c s)
    (next_of_checked_refused 17 (λ q. omega arith) (λ q. omega arith) s order _ e) in
    (above_2048_of_long size d.1, le_65535_of_not_too_large size d.0, d.2)

pub refused_17_of_no_run : (s : State) (order : List ℕ) (i size : ℕ) → Passed s order → 1 ≤ i → i ≤ s.setup.processors → 2048 < size → size ≤ 65535
    → lowest_run (run_length size) s ≡ None
    → take_of s order i size ≡ refused 17 s order
unfolding take_of take_unchecked long_taken_at is_processor
refused_17_of_no_run s order i size p h₁ h₂ h₃ h₄ a =
    checked_is_next_of_passed s order (take_unchecked s order i size) p
    ∙ simp (le-leb 1 i h₁, le-leb i s.setup.processors h₂, false_of_decides (decides_too_large size) h₄, true_of_decides (decides_long size) h₃, a)

-- ---- an accepted take
-- the state with superblock k out of the ranking where it is renewed, then the superblock that gives the block, and all order places, as they are then
record TakeSourceAndResult (s : State) (order : List ℕ) (i c k : ℕ) (result : After) : Type 0 where
  ranked : State
  home : Superblock
  places : List ℕ
  below_64 : k < 64
  ranked_is : (Renews s i k × (ranked ≡ unranked k s)) ⊎ (RenewsNot s i k × (ranked ≡ s))
  source : TakeSource ranked order i c k home places
  result_is : result ≡ taken_with k ranked home places

-- what is so of the state, and of it with other ranks, is so of that state
of_ranked : (P : State → Type 0) (s t : State) (i k : ℕ) → (Renews s i k × (t ≡ unranked k s)) ⊎ (RenewsNot s i k × (t ≡ s)) → P (unranked k s) → P s → P t
of_ranked P s t i k (inl h) x y = subst P (sym h.1) x
of_ranked P s t i k (inr h) x y = subst P (sym h.1) y

module _ (s : State) (order : List ℕ) (i size k : ℕ) (shape : Shape s) (acc : TakeAccepted s order i size k) where
  class_lt_27 : class_of size < class_count
  class_lt_27 = class_of_lt_27 size acc.size_le_2048

  unranked_if_empty_is : ((superblock_at s k).owner ≡ i → ⊥) → (Renews s i k × (unranked_if_empty k s ≡ unranked k s))
      ⊎ (RenewsNot s i k × (unranked_if_empty k s ≡ s))
  unfolding unranked_if_empty
  unranked_if_empty_is other = go (eqb (live_in (superblock_at s k)) 0) refl
    where
      go : (t : Bool) → eqb (live_in (superblock_at s k)) 0 ≡ t → (Renews s i k × (pick t (unranked k s) s ≡ unranked k s))
          ⊎ (RenewsNot s i k × (pick t (unranked k s) s ≡ s))
      go true e = inl (record { not_own = other; empty = eqb-true (live_in (superblock_at s k)) 0 e }, refl)
      go false e = inr (inr (eqb-false (live_in (superblock_at s k)) 0 e), refl)

  source_and_result : TakeSourceAndResult s order i (class_of size) k (take_of s order i size)
  source_and_result =
      ⊎_elim
      (λ h.
      let source = source_of_own_heap s order shape acc.passed i (class_of size) k acc.processor.1 h.0 in
      record {
        ranked = s;
        home = superblock_at s k;
        places = order;
        below_64 = omega (arith, source.below, acc.passed.sound.numbers.superblocks_high);
        ranked_is = inr (inl source.owner, refl);
        source = source;
        result_is = h.1 ∙ taken_from_is_taken_with k s order;
      })
      (λ h.
      let offered = offered_of_other_places s order shape acc.passed (class_of size) k h.1 in
      record {
        ranked = unranked_if_empty k s;
        below_64 = omega (arith, offered.below, acc.passed.sound.numbers.superblocks_high);
        home = acquired i (class_of size) (superblock_at s k);
        ranked_is = unranked_if_empty_is
            (⊎_elim (λ z q. omega (arith, acc.processor.0)) (λ z q. omega (arith, acc.processor.1, acc.passed.sound.numbers.processors_high))
            offered.owner);
        places = acquired_order (class_of size) k (superblock_at s k) order;
        source = source_of_other_places s order shape acc.passed i (class_of size) k class_lt_27 h.0 offered;
        result_is = h.2 ∙ taken_from_other_is_taken_with i (class_of size) k s order
            (omega (arith, offered.below, acc.passed.sound.numbers.superblocks_high)) shape.length_is;
      })
      acc.place

  -- the block that the take gives
  pub taken_block : ℕ
  taken_block = last_block_of source_and_result.places k source_and_result.home

  -- the state with the ranks as they are then: as before it has its lists' lengths, its setup and its names, and passes
  abbrev ranked : State
  ranked = source_and_result.ranked

  shape_and_passed : Shape ranked × Passed ranked order × (ranked.setup ≡ s.setup) × (ranked.names ≡ s.names)
  unfolding unranked
  shape_and_passed =
      of_ranked (λ (t : State). Shape t × Passed t order × (t.setup ≡ s.setup) × (t.names ≡ s.names)) s ranked i k source_and_result.ranked_is (
        reranked_shape (rank_after_renewal k s.table) s shape.length_is shape,
        reranked_passed (rank_after_renewal k s.table) s order shape.length_is acc.passed
            (unranked_ranks_sound k s source_and_result.below_64 acc.passed.ranks),
        refl,
        refl,
      )
      (shape, acc.passed, refl, refl)

  ranked_result : TakeResult i (class_of size) k taken_block ranked (take_of s order i size).answer.state (take_of s order i size).order
  unfolding taken_block
  ranked_result =
      let high : i ≤ ranked.setup.processors = subst (λ (u : Setup). i ≤ u.processors) (sym shape_and_passed.2) acc.processor.1 in
      subst (λ (x : After). TakeResult i (class_of size) k taken_block ranked x.answer.state x.order) (sym source_and_result.result_is)
      (take_result_of_source ranked order i (class_of size) k source_and_result.home source_and_result.places shape_and_passed.0
      shape_and_passed.1 acc.processor.0 high class_lt_27 source_and_result.source)

  effect_from_ranked : (t : State) → TakeEffect i (class_of size) k taken_block ranked t → TakeEffect i (class_of size) k taken_block s t
  unfolding unranked
  effect_from_ranked t =
      of_ranked (λ (r : State). TakeEffect i (class_of size) k taken_block r t → TakeEffect i (class_of size) k taken_block s t) s ranked i k
      source_and_result.ranked_is
      (take_effect_of_reranked i (class_of size) k taken_block (rank_after_renewal k s.table) s t shape.length_is) (λ e. e)

  pub take_address : (take_of s order i size).answer.outcome ≡ Address (address_of k (class_of size) taken_block)
  unfolding taken_block
  take_address = ap (λ (x : After). x.answer.outcome) source_and_result.result_is ∙ ap (λ (d : ℕ). Address (address_of k d taken_block))
      source_and_result.source.class

  pub take_effect : TakeEffect i (class_of size) k taken_block s (take_of s order i size).answer.state
  take_effect = effect_from_ranked (take_of s order i size).answer.state ranked_result.effect

  -- a plain take keeps the names
  pub take_names : (take_of s order i size).answer.state.names ≡ s.names
  take_names = ap (λ (x : After). x.answer.state.names) source_and_result.result_is ∙ shape_and_passed.3

  pub take_shape : Shape (take_of s order i size).answer.state
  take_shape = ranked_result.shape

  -- an accepted take yields a state that passes
  pub take_passed : Passed (take_of s order i size).answer.state (take_of s order i size).order
  take_passed = ranked_result.passed

  -- ---- the ranks: a renewed superblock leaves the ranking, and else every rank stays
  pub take_ranks : TakeRanks i k s (take_of s order i size).answer.state
  take_ranks =
      ⊎_elim
      (λ h. inl (
        h.0,
        λ m l. ranked_result.ranks m ∙ ap (λ (t : State). (superblock_at t m).rank) h.1
            ∙ ap (λ (b : Superblock). b.rank) (superblock_at_unranked k s m l),
      ))
      (λ h. inr (h.0, λ m l. ranked_result.ranks m ∙ ap (λ (t : State). (superblock_at t m).rank) h.1))
      source_and_result.ranked_is
