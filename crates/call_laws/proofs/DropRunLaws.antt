-- What a drop does to runs (document 02, items 5 and 7), on every state that passes: each superblock of a run whose start is listed is unused, every
-- other run is as it was, and none arises. Assumes nothing.
use mathlib.Core.Path.{◌≡◌, refl, sym, ap, ◌∙◌}
use mathlib.Core.Bool.{Bool, true, false}
use mathlib.Core.Logic.{◌⊎◌, inl, inr, ⊎_elim, ◌↔◌}
use mathlib.Core.List.Memᴰ
use mathlib.Core.List.{List, [], ◌∷◌, Memᴰ}
use Prim.Native.Nat.{ℕ, ◌*◌, ◌≤◌, ◌<◌}
use native.Mathlib.Decide.{ℕ_discrete, dec_lt}
use native.Mathlib.Omega.{arith}
use lib.ListN.{length, get_or-eq_default}
use Rattle.base_laws.proofs.Inequalities.{le_of_not_below}
use Rattle.base_laws.proofs.TestLaws.{true_not_false}
use Rattle.heap_rules.specs.declared.Superblock.{Superblock}
use Rattle.heap_rules.specs.declared.State.{State}
use Rattle.heap_rules.specs.Table.{run_owner, blank, unused, superblock_at, is_of_run, with_rank}
use Rattle.heap_laws.proofs.StateFacts.{Shape}
use Rattle.heap_rules.specs.Runs.{InRun, RunAt}
use Rattle.heap_laws.proofs.StateCheckLaws.{unowned_of_owner}
use Rattle.heap_laws.proofs.ChoiceLaws.{MoreRecent}
use Rattle.heap_laws.proofs.RankLaws.{rank_after_free_behind}
use Rattle.heap_laws.proofs.RunLaws.{Outside, side_of_range, outside_not_inside, runs_sound_of_valid, run_of_superblock, runs_apart, run_at_of_same}
use Rattle.heap_laws.proofs.RunsKeptLaws.{owner_of_run, of_run_of_owner}
use Rattle.call_rules.specs.Free.{superblock_index, superblock_holding, is_in_run, address_refusal, order_pushed, small_block_freed, long_block_freed}
use Rattle.call_rules.specs.Free.{block_freed}
use Rattle.call_rules.specs.Drop.{all_freed, first_address_refusal, is_touched, drop_moves, drop_of}
use Rattle.call_laws.proofs.CallEffects.{PassedAfterFrees, LongFreeEffect}
use Rattle.call_laws.proofs.TransferredLaws.{passed_after_no_frees}
use Rattle.call_laws.proofs.BlockFreedLaws.{freed_superblock_owner_le, small_block_freed_others}
use Rattle.call_laws.proofs.RunFreedLaws.{freed_run_address, long_block_freed_effect}
use Rattle.call_laws.proofs.AddressFreedLaws.{block_freed_outside_run, block_freed_in_run, AddressFreed, address_freed}
use Rattle.call_laws.proofs.AllFreedLaws.{first_refusal_of_cons}
use Rattle.call_laws.proofs.DropTransfersLaws.{Transfers}
use Rattle.call_laws.proofs.DropLaws.{DropAccepted, drop_frees, drop_transfers, drop_state_is, drop_shape}
use Rattle.call_laws.proofs.TransferredLaws.{one_more_freed}

-- the run that begins at superblock k is listed: "The block's address is the start of the run"
abbrev pub ListsRun : List ℕ → ℕ → Type 0
ListsRun addresses k = Memᴰ (k * 4096) addresses

-- superblock m is of a run of s that is not listed
pub record OfOtherRun (addresses : List ℕ) (s : State) (m : ℕ) : Type 0 where
  pub first : ℕ
  pub count : ℕ
  pub run : RunAt s first count
  pub inside : InRun first count m
  pub not_listed : ListsRun addresses first → ⊥

-- what a drop of these addresses does to the runs of a state s, which is t after it
pub record DropRuns (addresses : List ℕ) (s t : State) : Type 0 where
  -- "a free makes the whole run unused": so is each superblock of a run whose start is listed
  pub listed_unused : (k n m : ℕ) → RunAt s k n → ListsRun addresses k → InRun k n m → superblock_at t m ≡ unused
  -- every other run is as it was
  pub others_kept : (k n m : ℕ) → RunAt s k n → (ListsRun addresses k → ⊥) → InRun k n m → superblock_at t m ≡ superblock_at s m
  -- and none arises: a superblock of a run was of one that is not listed, and is as it was
  pub none_arises : (m : ℕ) → is_of_run (superblock_at t m) ≡ true → OfOtherRun addresses s m × (superblock_at t m ≡ superblock_at s m)

-- equal superblocks are of runs alike
same_of_runs : {x y : Superblock} → x ≡ y → (is_of_run x ≡ is_of_run y) × (x.run ≡ y.run)
same_of_runs e = (ap is_of_run e, ap (λ (x : Superblock). x.run) e)

-- ---- one free, of a block of a class or of a long block
module _ (freed : ℕ → ℕ → ℕ) (s : State) (order : List ℕ) (b : ℕ) (shape : Shape s) (passed : PassedAfterFrees freed s order)
    (accepted : address_refusal s b ≡ 0) where
  -- a superblock that no heap owns has no rank, so that a block's free changes nothing of it
  small_free_keeps_unowned : is_in_run s b ≡ false → (m : ℕ) → m < 64 → run_owner ≤ (superblock_at s m).owner
      → superblock_at (small_block_freed s b) m ≡ superblock_at s m
  small_free_keeps_unowned small m l high =
      small_block_freed_others freed s order b shape passed accepted small m l other
      ∙ ap (λ (r : ℕ). with_rank r (superblock_at s m)) (rank_after_free_behind (superblock_index b) s.table m other not_ahead)
    where
      other : m ≡ superblock_index b → ⊥
      other e =
          let same : (superblock_at s m).owner ≡ (superblock_holding s b).owner = ap (λ (k : ℕ). (superblock_at s k).owner) e in
          omega (arith, freed_superblock_owner_le freed s order b shape passed accepted small, passed.sound.numbers.processors_high)

      not_ahead : MoreRecent (superblock_at s m) (superblock_holding s b) → ⊥
      not_ahead ahead = omega (arith, ahead.0, passed.ranks.unowned_unranked m l (unowned_of_owner s order passed.sound m l high))

  long_effect : is_in_run s b ≡ true → LongFreeEffect (superblock_index b) (superblock_holding s b).run s (long_block_freed s b)
  long_effect = long_block_freed_effect freed s order b shape passed accepted

  -- the run that begins at the address
  freed_run_is_unused : (k n m : ℕ) → RunAt s k n → b ≡ k * 4096 → InRun k n m → superblock_at (block_freed s b) m ≡ unused
  freed_run_is_unused k n m run e inside =
      let home : superblock_index b ≡ k = omega arith in
      let long : is_in_run s b ≡ true = ap (λ (j : ℕ). is_of_run (superblock_at s j)) home ∙ run.of_run k (omega arith) (omega (arith, run.some)) in
      let count : (superblock_holding s b).run ≡ n = ap (λ (j : ℕ). (superblock_at s j).run) home ∙ run.length_is in
      ap (λ (t : State). superblock_at t m) (block_freed_in_run s b long) ∙ (long_effect long).run m (omega (arith, inside.0), omega (arith, inside.1))

  -- and any other, as no superblock is of both
  other_run_is_kept : (k n m : ℕ) → RunAt s k n → (b ≡ k * 4096 → ⊥) → InRun k n m → superblock_at (block_freed s b) m ≡ superblock_at s m
  other_run_is_kept k n m run other inside = go (is_in_run s b) refl
    where
      owner : (superblock_at s m).owner ≡ run_owner
      owner = owner_of_run (superblock_at s m) (run.of_run m inside.0 inside.1)

      starts_at_address : (long : is_in_run s b ≡ true) → InRun (superblock_index b) (superblock_holding s b).run m → b ≡ k * 4096
      starts_at_address long there =
          freed_run_address freed s order b shape passed accepted long
          ∙ ap (λ (j : ℕ). j * 4096) (sym (runs_apart s k n _ _ m run (long_effect long).run_before inside.0 inside.1 there.0 there.1))

      go : (t : Bool) → is_in_run s b ≡ t → superblock_at (block_freed s b) m ≡ superblock_at s m
      go false small =
          ap (λ (t : State). superblock_at t m) (block_freed_outside_run s b small)
          ∙ small_free_keeps_unowned small m (omega (arith, inside.1, run.in_table)) (omega (arith, owner))
      go true long =
          ap (λ (t : State). superblock_at t m) (block_freed_in_run s b long) ∙ (long_effect long).others m (λ there. other (starts_at_address long there))

  -- an unused superblock stays so
  unused_is_kept : (m : ℕ) → m < 64 → superblock_at s m ≡ unused → superblock_at (block_freed s b) m ≡ unused
  unused_is_kept m l is = go (is_in_run s b) refl
    where
      by_side : (long : is_in_run s b ≡ true)
          → Outside (superblock_index b) (superblock_holding s b).run m ⊎ InRun (superblock_index b) (superblock_holding s b).run m
          → superblock_at (long_block_freed s b) m ≡ unused
      by_side long (inl out) = (long_effect long).others m (λ there. outside_not_inside _ _ _ out there.0 there.1) ∙ is
      by_side long (inr there) = (long_effect long).run m there

      go : (t : Bool) → is_in_run s b ≡ t → superblock_at (block_freed s b) m ≡ unused
      go false small =
          ap (λ (t : State). superblock_at t m) (block_freed_outside_run s b small)
          ∙ small_free_keeps_unowned small m l (omega (arith, ap (λ (x : Superblock). x.owner) is)) ∙ is
      go true long =
          ap (λ (t : State). superblock_at t m) (block_freed_in_run s b long)
          ∙ by_side long (side_of_range (superblock_index b) (superblock_holding s b).run m)

-- ---- all frees of a list
frees_keep_unused : (m : ℕ) → m < 64 → (freed : ℕ → ℕ → ℕ) (s : State) (order x : List ℕ) → Shape s → PassedAfterFrees freed s order
    → first_address_refusal s x ≡ 0 → superblock_at s m ≡ unused → superblock_at (all_freed s x) m ≡ unused
unfolding all_freed
frees_keep_unused m l freed s order [] shape passed ok is = is
frees_keep_unused m l freed s order (b ∷ x) shape passed ok is =
    let first = first_refusal_of_cons s b x ok in
    let here = address_freed freed s order b shape passed first.0 in
    frees_keep_unused m l (one_more_freed (superblock_holding s b).owner (superblock_holding s b).class freed) (block_freed s b) (order_pushed s order b) x
    here.shape here.passed first.1
    (unused_is_kept freed s order b shape passed first.0 m l is)

-- superblock m of a run is unused where the run is listed, and else as it was
module _ (k n m : ℕ) (inside : InRun k n m) where
  abbrev FreedIfListed : State → List ℕ → State → Type 0
  FreedIfListed s x t = (ListsRun x k → superblock_at t m ≡ unused) × ((ListsRun x k → ⊥) → superblock_at t m ≡ superblock_at s m)

  frees_of_run : (freed : ℕ → ℕ → ℕ) (s : State) (order x : List ℕ) → Shape s → PassedAfterFrees freed s order
      → first_address_refusal s x ≡ 0 → RunAt s k n → FreedIfListed s x (all_freed s x)
  unfolding all_freed
  frees_of_run freed s order [] shape passed ok run = (λ listed. absurd (Memᴰ.not-nil listed), λ none. refl)
  frees_of_run freed s order (b ∷ x) shape passed ok run =
      go (ℕ_discrete b (k * 4096)) (frees_of_run (one_more_freed (superblock_holding s b).owner (superblock_holding s b).class freed) (block_freed s b)
      (order_pushed s order b) x here.shape here.passed first.1)
    where
      first : (address_refusal s b ≡ 0) × (first_address_refusal (block_freed s b) x ≡ 0)
      first = first_refusal_of_cons s b x ok

      here : AddressFreed freed s order b
      here = address_freed freed s order b shape passed first.0

      -- the run is freed now, and what is unused stays so ..
      freed_now : b ≡ k * 4096 → superblock_at (all_freed (block_freed s b) x) m ≡ unused
      freed_now e =
          frees_keep_unused m (omega (arith, inside.1, run.in_table)) (one_more_freed (superblock_holding s b).owner (superblock_holding s b).class freed)
          (block_freed s b) _ x here.shape here.passed first.1
          (freed_run_is_unused freed s order b shape passed first.0 k n m run e inside)

      -- .. or it is kept
      kept : (b ≡ k * 4096 → ⊥) → (j : ℕ) → InRun k n j → superblock_at (block_freed s b) j ≡ superblock_at s j
      kept other j = other_run_is_kept freed s order b shape passed first.0 k n j run other

      still_run : (b ≡ k * 4096 → ⊥) → RunAt (block_freed s b) k n
      still_run other = run_at_of_same s (block_freed s b) k n run (λ j low high. same_of_runs (kept other j (low, high)))

      go : Dec (b ≡ k * 4096) → (RunAt (block_freed s b) k n → FreedIfListed (block_freed s b) x (all_freed (block_freed s b) x))
          → FreedIfListed s (b ∷ x) (all_freed (block_freed s b) x)
      go (yes e) rest = (λ listed. freed_now e, λ none. absurd (none (Memᴰ.head (sym e))))
      go (no other) rest =
          let later = rest (still_run other) in (
            λ listed. ⊎_elim (λ e. absurd (other (sym e))) later.0 (Memᴰ.cases_cons listed),
            λ none. later.1 (λ listed. none (Memᴰ.tail listed)) ∙ kept other m inside,
          )

-- ---- an accepted drop
-- neither an unused superblock nor one past the table is of a run
unused_of_no_run : is_of_run unused ≡ false
unfolding is_of_run
unused_of_no_run = refl

of_run_in_table : (t : State) (m : ℕ) → length t.table ≡ 64 → is_of_run (superblock_at t m) ≡ true → m < 64
unfolding is_of_run
of_run_in_table t m long e = go (dec_lt m 64)
  where
    go : Dec (m < 64) → m < 64
    go (yes l) = l
    go (no f) =
        let far = le_of_not_below f in
        absurd (true_not_false (is_of_run (superblock_at t m)) e (ap is_of_run (get_or-eq_default t.table blank (omega arith))))

module _ (s : State) (order : List ℕ) (i : ℕ) (addresses : List ℕ) (shape : Shape s) (acc : DropAccepted s order i addresses) where
  abbrev before : State
  before = all_freed s addresses

  abbrev after : State
  after = (drop_of s order i addresses).answer.state

  moves : Transfers (is_touched s addresses) before (drop_moves s addresses).state (drop_moves s addresses).moves
  moves = drop_transfers s order addresses shape acc.passed acc.no_refusal

  state_is : after ≡ (drop_moves s addresses).state
  state_is = drop_state_is s order i addresses shape acc

  -- its moves pass on superblocks of processor heaps, and change no other
  moves_keep_unowned : (m : ℕ) → m < 64 → run_owner ≤ (superblock_at before m).owner → superblock_at after m ≡ superblock_at before m
  moves_keep_unowned m l high =
      ap (λ (t : State). superblock_at t m) state_is ∙ ⊎_elim (λ same. same) (λ w. absurd (let z : ⊥ = omega (arith, w.1) in z)) (moves.each m l)

  -- a superblock of a run is one that no move has passed on and no free has made unused
  of_run_before : (m : ℕ) → m < 64 → is_of_run (superblock_at after m) ≡ true → is_of_run (superblock_at s m) ≡ true
  of_run_before m l e =
      of_run_of_owner (superblock_at s m)
      (⊎_elim (λ same. sym same ∙ owner_before) (λ h. h.0) ((drop_frees s order addresses shape acc.passed acc.no_refusal).owners m l))
    where
      owner_after : (superblock_at (drop_moves s addresses).state m).owner ≡ run_owner
      owner_after = sym (ap (λ (t : State). (superblock_at t m).owner) state_is) ∙ owner_of_run (superblock_at after m) e

      owner_before : (superblock_at before m).owner ≡ run_owner
      owner_before =
          ⊎_elim (λ same. sym (ap (λ (x : Superblock). x.owner) same) ∙ owner_after)
          (λ w. absurd (let z : ⊥ = omega (arith, owner_after, ap (λ (x : Superblock). x.owner) w.3) in z)) (moves.each m l)

  frees : (k n m : ℕ) → RunAt s k n → (inside : InRun k n m) → FreedIfListed k n m inside s addresses before
  frees k n m run inside = frees_of_run k n m inside (λ h c. 0) s order addresses shape (passed_after_no_frees s order acc.passed) acc.no_refusal run

  listed_run_unused : (k n m : ℕ) → RunAt s k n → ListsRun addresses k → InRun k n m → superblock_at after m ≡ unused
  listed_run_unused k n m run listed inside =
      let is = (frees k n m run inside).0 listed in
      moves_keep_unowned m (omega (arith, inside.1, run.in_table)) (omega (arith, ap (λ (x : Superblock). x.owner) is)) ∙ is

  other_run_kept : (k n m : ℕ) → RunAt s k n → (ListsRun addresses k → ⊥) → InRun k n m → superblock_at after m ≡ superblock_at s m
  other_run_kept k n m run not_listed inside =
      let is = (frees k n m run inside).1 not_listed in
      let owner = owner_of_run (superblock_at s m) (run.of_run m inside.0 inside.1) in
      moves_keep_unowned m (omega (arith, inside.1, run.in_table)) (omega (arith, ap (λ (x : Superblock). x.owner) is)) ∙ is

  no_run_arises : (m : ℕ) → is_of_run (superblock_at after m) ≡ true → OfOtherRun addresses s m × (superblock_at after m ≡ superblock_at s m)
  no_run_arises m e =
      let l = of_run_in_table after m (drop_shape s order i addresses shape acc).length_is e in
      let (k, run, low, high) = run_of_superblock s (runs_sound_of_valid s shape.length_is acc.passed.runs) m l (of_run_before m l e) in
      let not_listed : ListsRun addresses k → ⊥ =
      λ listed. true_not_false (is_of_run (superblock_at after m)) e (ap is_of_run (listed_run_unused k _ m run listed (low, high)) ∙ unused_of_no_run) in (
        record { first = k; count = (superblock_at s k).run; run = run; inside = (low, high); not_listed = not_listed },
        other_run_kept k _ m run not_listed (low, high),
      )

  pub drop_runs : DropRuns addresses s (drop_of s order i addresses).answer.state
  drop_runs = record { listed_unused = listed_run_unused; others_kept = other_run_kept; none_arises = no_run_arises }

  -- so that the runs after it are those before it that are not listed
  pub runs_after_drop : (k n : ℕ) → RunAt (drop_of s order i addresses).answer.state k n ↔ (RunAt s k n × (ListsRun addresses k → ⊥))
  runs_after_drop k n = (λ run. (run_before run, not_listed run), λ h. run_after h.0 h.1)
    where
      run_after : RunAt s k n → (ListsRun addresses k → ⊥) → RunAt after k n
      run_after run other = run_at_of_same s after k n run (λ m low high. same_of_runs (other_run_kept k n m run other (low, high)))

      run_before : RunAt after k n → RunAt s k n
      run_before run = run_at_of_same after s k n run (λ m low high. same_of_runs (sym (no_run_arises m (run.of_run m low high)).1))

      not_listed : RunAt after k n → ListsRun addresses k → ⊥
      not_listed run listed =
          let some = run.some in
          true_not_false (is_of_run (superblock_at after k)) (run.of_run k (omega arith) (omega arith))
          (ap is_of_run (listed_run_unused k n k (run_before run) listed (omega arith, omega arith)) ∙ unused_of_no_run)
