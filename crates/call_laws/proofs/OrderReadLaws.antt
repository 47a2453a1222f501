-- No call reads an order place from N × 256 on: storages with the same first N × 256 places get the same answers, for every state and argument.
-- Assumes nothing.
use Rattle.std.specs.Prelude.{Option, Some, None}
use mathlib.Core.Path.{◌≡◌, refl, ap, subst}
use mathlib.Core.Bool.{Bool, true, false, not}
use mathlib.Core.Logic.{◌⊎◌, inl, inr}
use mathlib.Core.List.{List, [], ◌∷◌}
use Prim.Native.Nat.{ℕ, ◌+◌, ◌-◌, ◌*◌, ◌≤◌}
use native.Mathlib.Omega.{arith}
use borrow.Author.Tests.{leb-true, le-leb}
use lib.ListN.{length, take}
use lib.Dec.{eqb, leb}
use Rattle.base_laws.specs.Sums.{pick, both}
use Rattle.base_laws.proofs.TestLaws.{T_of_true}
use Rattle.class_rules.specs.Classes.{blocks_of, class_of, is_long, run_length, is_too_large}
use Rattle.class_rules.proofs.ClassTableLaws.{blocks_of_le_256}
use Rattle.names_rules.specs.Names.{is_held}
use Rattle.order_rules.specs.Order.{place, last_filled, renewed}
use Rattle.order_laws.proofs.FirstPlaces.{SameFirst, take_equal_of_same_first, same_first_of_take_equal, same_first_place, same_first_renewed}
use Rattle.order_laws.proofs.FirstPlaces.{same_first_with_place, same_first_cleared}
use Rattle.heap_rules.specs.declared.Setup.{Setup}
use Rattle.heap_rules.specs.declared.Superblock.{Superblock}
use Rattle.heap_rules.specs.declared.State.{State}
use Rattle.heap_rules.specs.Table.{superblock_at, live_in, with_mark_at}
use Rattle.heap_rules.specs.States.{with_superblock}
use Rattle.choice_rules.specs.Choice.{fullest}
use Rattle.choice_rules.specs.RunChoice.{lowest_run}
use Rattle.check_rules.specs.Check.{within_limits, rest_valid}
use Rattle.heap_laws.proofs.StateCheckLaws.{sound_of_limits_and_rest, names_valid_of_rest, totals_kept_of_rest, ranks_valid_of_rest, runs_valid_of_rest}
use Rattle.heap_laws.proofs.RankLaws.{ranks_sound_of_valid}
use Rattle.heap_laws.proofs.CheckReadsLaws.{rest_valid_reads_only_first_places}
use Rattle.call_rules.specs.declared.Answer.{Answer}
use Rattle.call_rules.specs.declared.Outcome.TheVariants.{Address}
use Rattle.call_rules.specs.Answers.{After, refused, checked, is_processor}
use Rattle.call_rules.specs.Setup.{setup_of}
use Rattle.call_rules.specs.LongBlocks.{long_taken_from, long_taken_at}
use Rattle.call_rules.specs.Take.{other_places, acquired, acquired_order, unranked_if_empty, next_block, address_of, taken_from, taken_from_other, taken_at}
use Rattle.call_rules.specs.Take.{take_unchecked}
use Rattle.call_rules.specs.Free.{superblock_index, superblock_holding, block_of, is_unmapped, is_in_run, is_misaligned, is_live_at, block_pushed, order_pushed}
use Rattle.call_rules.specs.Free.{block_freed, small_freed_at, long_freed_at, freed_at, free_unchecked}
use Rattle.call_rules.specs.Drop.{all_pushed, first_address_refusal, dropped_all, drop_unchecked}
use Rattle.call_rules.specs.Named.{is_unavailable, bound_by, with_name_bound, held_address, named_take_unchecked, named_free_unchecked}
use Rattle.call_rules.specs.Calls.{Call, Take, Free, NamedTake, NamedFree, Drop, call_of, call_unchecked}
use Rattle.call_rules.proofs.CheckFirst.{call_of_checks_first}
use Rattle.call_laws.proofs.CallEffects.{Passed}
use Rattle.call_laws.proofs.CheckedLaws.{bounds_of_is_processor}
use Rattle.call_laws.proofs.TakeLaws.{taken_by_tests}
use Rattle.call_laws.proofs.OrderWriteLaws.{fullest_below_superblocks, other_places_below_superblocks}

-- two calls give the same answer and the same state, and leave the same first n places
pub record SameCall (n : ℕ) (a b : After) : Type 0 where
  pub answer : a.answer ≡ b.answer
  pub first : take n a.order ≡ take n b.order

-- the same, where both storages have the n places
record Agree (n : ℕ) (a b : After) : Type 0 where
  answer : a.answer ≡ b.answer
  order : SameFirst n a.order b.order

agree_pick : (n : ℕ) (t : Bool) {a b x y : After} → (t ≡ true → Agree n a b) → (t ≡ false → Agree n x y) → Agree n (pick t a x) (pick t b y)
agree_pick n true f g = f refl
agree_pick n false f g = g refl

-- the block in the last filled place of superblock k
last_filled_agrees : (n : ℕ) (x y : List ℕ) → SameFirst n x y → (k m : ℕ) → k * 256 + 256 ≤ n → last_filled x k m ≡ last_filled y k m
unfolding last_filled
last_filled_agrees n x y h k m l = go (leb 1 m) (leb m 256) refl
  where
    go : (a b : Bool) → leb m 256 ≡ b → pick (both a b) (place x k (m - 1)) 0 ≡ pick (both a b) (place y k (m - 1)) 0
    go true true e = let g = leb-true m 256 e in same_first_place n x y h k (m - 1) (omega arith)
    go true false e = refl
    go false b e = refl

-- superblock k, of the first N, gives a block
taken_from_agrees : (n k : ℕ) (s : State) (x y : List ℕ) → SameFirst n x y → k * 256 + 256 ≤ n → Agree n (taken_from k s x) (taken_from k s y)
unfolding taken_from next_block
taken_from_agrees n k s x y h l = record {
  answer = ap (λ (j : ℕ). record {
    outcome = Address (address_of k (superblock_at s k).class j);
    state =
        with_superblock s k (with_mark_at (superblock_at s k) j);
  })
      (last_filled_agrees n x y h k (blocks_of (superblock_at s k).class - live_in (superblock_at s k)) l);
  order = h;
}

acquired_order_agrees : (n c k : ℕ) (b : Superblock) (x y : List ℕ) → SameFirst n x y → k * 256 + 256 ≤ n
    → SameFirst n (acquired_order c k b x) (acquired_order c k b y)
unfolding acquired_order
acquired_order_agrees n c k b x y h l = go (eqb (live_in b) 0)
  where
    go : (t : Bool) → SameFirst n (pick t (renewed x k (blocks_of c)) x) (pick t (renewed y k (blocks_of c)) y)
    go true = same_first_renewed n x y h k (blocks_of c) (blocks_of_le_256 c) (omega (arith, blocks_of_le_256 c))
    go false = h

-- a block's number goes in one place of its superblock, on both storages the same
block_pushed_agrees : (n : ℕ) (s : State) (a : ℕ) (x y : List ℕ) → SameFirst n x y → SameFirst n (block_pushed s x a) (block_pushed s y a)
unfolding block_pushed
block_pushed_agrees n s a x y h =
    same_first_with_place n x y h (superblock_index a) (blocks_of (superblock_holding s a).class - live_in (superblock_holding s a)) (block_of s a)

-- that of a long block nowhere
pushed_agrees : (n : ℕ) (s : State) (a : ℕ) (x y : List ℕ) → SameFirst n x y → SameFirst n (order_pushed s x a) (order_pushed s y a)
unfolding order_pushed
pushed_agrees n s a x y h = go (is_in_run s a)
  where
    go : (t : Bool) → SameFirst n (pick t x (block_pushed s x a)) (pick t y (block_pushed s y a))
    go true = h
    go false = block_pushed_agrees n s a x y h

all_pushed_agree : (n : ℕ) (s : State) (addresses x y : List ℕ) → SameFirst n x y → SameFirst n (all_pushed s x addresses) (all_pushed s y addresses)
unfolding all_pushed
all_pushed_agree n s [] x y h = h
all_pushed_agree n s (a ∷ addresses) x y h = all_pushed_agree n (block_freed s a) addresses (order_pushed s x a) (order_pushed s y a)
    (pushed_agrees n s a x y h)

module _ (s : State) (x y : List ℕ) (h : SameFirst (s.setup.superblocks * 256) x y) where
  abbrev n : ℕ
  n = s.setup.superblocks * 256

  same_refusal : (r : ℕ) → Agree n (refused r s x) (refused r s y)
  same_refusal r = record { answer = refl; order = h }

  -- the check
  checked_agree : (a b : After) → (Passed s x → Agree n a b) → Agree n (checked s x a) (checked s y b)
  unfolding checked
  checked_agree a b f =
      rw (le-leb n (length x) h.first_covers, le-leb n (length y) h.second_covers, ← (rest_valid_reads_only_first_places s x y h))
      (agree_pick n (within_limits s.setup)
      (λ l. agree_pick n (rest_valid s x)
      (λ g. f (record {
        sound = sound_of_limits_and_rest s x (T_of_true (within_limits s.setup) l) (T_of_true (rest_valid s x) g);
        names = names_valid_of_rest s x (T_of_true (rest_valid s x) g);
        totals = totals_kept_of_rest s x (T_of_true (rest_valid s x) g);
        ranks = ranks_sound_of_valid s (ranks_valid_of_rest s x (T_of_true (rest_valid s x) g));
        runs = runs_valid_of_rest s x (T_of_true (rest_valid s x) g);
        room = h.first_covers;
      })) (λ g. same_refusal 13))
      (λ l. same_refusal 13))

  -- a take
  take_agrees : (i size : ℕ) → Passed s x → Agree n (take_unchecked s x i size) (take_unchecked s y i size)
  unfolding take_unchecked taken_at taken_from_other long_taken_at long_taken_from
  take_agrees i size = go (is_processor s i) (is_too_large size) (is_long size) (lowest_run (run_length size) s) (fullest i (class_of size) s)
      (other_places (class_of size) s) refl refl refl
    where
      go : (processor large long : Bool) (run own other : Option ℕ) → is_processor s i ≡ processor → fullest i (class_of size) s ≡ own
          → other_places (class_of size) s ≡ other → Passed s x
          → Agree n (taken_by_tests s x i size processor large long run own other) (taken_by_tests s y i size processor large long run own other)
      go false large long run own other ep eo et passed = same_refusal 2
      go true true long run own other ep eo et passed = same_refusal 3
      go true false true (Some k) own other ep eo et passed = record { answer = refl; order = h }
      go true false true None own other ep eo et passed = same_refusal 17
      go true false false run (Some k) other ep eo et passed =
          taken_from_agrees n k s x y h
          (omega (arith, fullest_below_superblocks s x passed i (class_of size) k (bounds_of_is_processor s i (T_of_true (is_processor s i) ep)).1 eo))
      go true false false run None (Some k) ep eo et passed =
          let l : k * 256 + 256 ≤ n = omega (arith, other_places_below_superblocks s x passed (class_of size) k et) in
          taken_from_agrees n k (with_superblock (unranked_if_empty k s) k (acquired i (class_of size) (superblock_at s k)))
          (acquired_order (class_of size) k (superblock_at s k) x) (acquired_order (class_of size) k (superblock_at s k) y)
          (acquired_order_agrees n (class_of size) k (superblock_at s k) x y h l) l
      go true false false run None None ep eo et passed = same_refusal 4

  -- a free
  free_agrees : (i a : ℕ) → Agree n (free_unchecked s x i a) (free_unchecked s y i a)
  unfolding free_unchecked freed_at small_freed_at long_freed_at
  free_agrees i a =
      agree_pick n (not (is_processor s i)) (λ e. same_refusal 2) (λ e.
      agree_pick n (is_unmapped s a) (λ e. same_refusal 5) (λ e.
      agree_pick n (is_misaligned s a) (λ e. same_refusal 6) (λ e.
      agree_pick n (not (is_live_at s a)) (λ e. same_refusal 7) (λ e.
      agree_pick n (is_in_run s a) (λ e. record { answer = refl; order = h }) (λ e. record { answer = refl; order = block_pushed_agrees n s a x y h })))))

  -- a drop
  drop_agrees : (i : ℕ) (addresses : List ℕ) → Agree n (drop_unchecked s x i addresses) (drop_unchecked s y i addresses)
  unfolding drop_unchecked dropped_all
  drop_agrees i addresses =
      agree_pick n (not (is_processor s i)) (λ e. same_refusal 2) (λ e.
      agree_pick n (eqb (length addresses) 0) (λ e. same_refusal 16) (λ e.
      agree_pick n (eqb (first_address_refusal s addresses) 0) (λ e. record { answer = refl; order = all_pushed_agree n s addresses x y h }) (λ e.
      same_refusal (first_address_refusal s addresses))))

  -- a name bound
  name_bound_agrees : (m : ℕ) (a b : After) → Agree n a b → Agree n (with_name_bound m a) (with_name_bound m b)
  unfolding with_name_bound
  name_bound_agrees m a b g =
      record { answer = ap (λ (r : Answer). record { outcome = r.outcome; state = bound_by r.outcome m r.state }) g.answer; order = g.order }

  unchecked_agrees : (call : Call) → Passed s x → Agree n (call_unchecked s x call) (call_unchecked s y call)
  unfolding call_unchecked named_take_unchecked named_free_unchecked
  unchecked_agrees (Take i size) passed = take_agrees i size passed
  unchecked_agrees (Free i a) passed = free_agrees i a
  unchecked_agrees (NamedTake i m size) passed =
      agree_pick n (not (is_processor s i)) (λ e. same_refusal 2) (λ e.
      agree_pick n (is_unavailable s m) (λ e. same_refusal 14) (λ e.
      name_bound_agrees m (take_unchecked s x i size) (take_unchecked s y i size) (take_agrees i size passed)))
  unchecked_agrees (NamedFree i m) passed =
      agree_pick n (not (is_processor s i)) (λ e. same_refusal 2) (λ e.
      agree_pick n (not (is_held s.names m)) (λ e. same_refusal 15) (λ e. free_agrees i (held_address s m)))
  unchecked_agrees (Drop i addresses) passed = drop_agrees i addresses

  call_agrees : (call : Call) → Agree n (call_of s x call) (call_of s y call)
  call_agrees call = rw (call_of_checks_first s x call, call_of_checks_first s y call)
      (checked_agree (call_unchecked s x call) (call_unchecked s y call) (unchecked_agrees call))

-- a setup
setup_agrees : (u : Setup) (x y : List ℕ) → SameFirst (u.superblocks * 256) x y → Agree (u.superblocks * 256) (setup_of u x) (setup_of u y)
unfolding setup_of
setup_agrees u x y h =
    rw (le-leb (u.superblocks * 256) (length x) h.first_covers, le-leb (u.superblocks * 256) (length y) h.second_covers)
    (agree_pick (u.superblocks * 256) (within_limits u) (λ e. record { answer = refl; order = same_first_cleared (u.superblocks * 256) x y h })
    (λ e. record { answer = refl; order = h }))

same_call_of_agree : (n : ℕ) (a b : After) → Agree n a b → SameCall n a b
same_call_of_agree n a b g = record { answer = g.answer; first = take_equal_of_same_first n a.order b.order g.order }

-- ---- storages with the same first N × 256 places, or all of fewer
-- a call gives the same answer and state, and leaves the same first N × 256 places
pub call_reads_only_first_places : (s : State) (x y : List ℕ) (call : Call) → take (s.setup.superblocks * 256) x ≡ take (s.setup.superblocks * 256) y
    → SameCall (s.setup.superblocks * 256) (call_of s x call) (call_of s y call)
call_reads_only_first_places s x y call e = go (same_first_of_take_equal (s.setup.superblocks * 256) x y e)
  where
    go : (x ≡ y) ⊎ SameFirst (s.setup.superblocks * 256) x y → SameCall (s.setup.superblocks * 256) (call_of s x call) (call_of s y call)
    go (inl q) = subst (λ (z : List ℕ). SameCall (s.setup.superblocks * 256) (call_of s x call) (call_of s z call)) q (record { answer = refl; first = refl })
    go (inr h) = same_call_of_agree (s.setup.superblocks * 256) (call_of s x call) (call_of s y call) (call_agrees s x y h call)

-- and so does a setup
pub setup_reads_only_first_places : (u : Setup) (x y : List ℕ) → take (u.superblocks * 256) x ≡ take (u.superblocks * 256) y
    → SameCall (u.superblocks * 256) (setup_of u x) (setup_of u y)
setup_reads_only_first_places u x y e = go (same_first_of_take_equal (u.superblocks * 256) x y e)
  where
    go : (x ≡ y) ⊎ SameFirst (u.superblocks * 256) x y → SameCall (u.superblocks * 256) (setup_of u x) (setup_of u y)
    go (inl q) = subst (λ (z : List ℕ). SameCall (u.superblocks * 256) (setup_of u x) (setup_of u z)) q (record { answer = refl; first = refl })
    go (inr h) = same_call_of_agree (u.superblocks * 256) (setup_of u x) (setup_of u y) (setup_agrees u x y h)
