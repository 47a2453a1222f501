-- What a drop leaves of marks, live blocks and ranks, in the page's words (document 02, item 5). Long blocks have no marks and no ranks (item 7).
-- Assumes nothing.
use mathlib.Core.Path.{◌≡◌, refl, sym, ap, ap₂, ◌∙◌, subst}
use mathlib.Core.Bool.{Bool, false}
use mathlib.Core.Logic.{inl, inr, ⊎_elim}
use mathlib.Core.List.{List, [], ◌∷◌, ◌++◌}
use Prim.Native.Nat.{ℕ, ◌<◌}
use native.Mathlib.Decide.{ℕ_discrete}
use native.Mathlib.Omega.{arith}
use Rattle.marks_rules.specs.Marks.{mark_bit}
use Rattle.names_rules.specs.Names.{block_number}
use Rattle.heap_rules.specs.declared.Superblock.{Superblock}
use Rattle.heap_rules.specs.declared.State.{State}
use Rattle.heap_rules.specs.Table.{run_owner, superblock_at, live_blocks, with_owner}
use Rattle.heap_laws.proofs.StateFacts.{Shape}
use Rattle.heap_laws.proofs.RunsKeptLaws.{outside_run_of_owner, live_blocks_outside_run}
use Rattle.call_rules.specs.Free.{superblock_index, superblock_holding, block_of, is_in_run, address_refusal, order_pushed, block_freed}
use Rattle.call_rules.specs.Drop.{all_freed, first_address_refusal, drop_of}
use Rattle.call_laws.proofs.CallEffects.{PassedAfterFrees, RanksKept, RankedLatest}
use Rattle.call_laws.proofs.TransferredLaws.{passed_after_no_frees}
use Rattle.call_laws.proofs.BlockFreedLaws.{small_block_freed_ranks}
use Rattle.call_laws.proofs.AddressFreedLaws.{block_freed_outside_run, AddressFreed, address_freed, address_freed_block, outside_run_kept}
use Rattle.call_laws.proofs.AllFreedLaws.{ListsBlock, listed_same, first_refusal_of_cons}
use Rattle.call_laws.proofs.DropTransfersLaws.{Transfers}
use Rattle.call_laws.proofs.DropLaws.{DropAccepted, drop_transfers, drop_state_is}
use Rattle.call_laws.proofs.CallRankLaws.{freed_superblock_is_latest}
use Rattle.call_laws.proofs.TransferredLaws.{one_more_freed}

-- ---- the frees: what marks read of a superblock, its own or its live blocks, say of block b of superblock m
-- a free clears the mark of its block, and no other
record ClearsItsBlock (of : Superblock → List ℕ) : Type 0 where
  clears : (freed : ℕ → ℕ → ℕ) (s : State) (order : List ℕ) (a : ℕ) → AddressFreed freed s order a → mark_bit (of (superblock_holding (block_freed s a) a))
      (block_of s a) ≡ 0
  keeps : (freed : ℕ → ℕ → ℕ) (s : State) (order : List ℕ) (a : ℕ) → AddressFreed freed s order a → (m b : ℕ) → m < 64
      → ((m ≡ superblock_index a) × (b ≡ block_of s a) → ⊥) → b < 256
      → mark_bit (of (superblock_at (block_freed s a) m)) b ≡ mark_bit (of (superblock_at s m)) b

clears_its_mark : ClearsItsBlock (λ x. x.live)
clears_its_mark = record { clears = λ freed s order a here. here.not_marked; keeps = λ freed s order a here. here.marks }

clears_its_live_block : ClearsItsBlock live_blocks
clears_its_live_block = record { clears = λ freed s order a here. here.not_live; keeps = λ freed s order a here. here.live_blocks_lem }

module _ (of : Superblock → List ℕ) (one_block : ClearsItsBlock of) (m b : ℕ) (inside : m < 64) (small : b < 256) where
  abbrev mark_in : State → ℕ
  mark_in s = mark_bit (of (superblock_at s m)) b

  -- the first block freed: its mark is cleared, and no other changes
  module _ (freed : ℕ → ℕ → ℕ) (s : State) (order : List ℕ) (a : ℕ) (shape : Shape s) (passed : PassedAfterFrees freed s order)
      (accepted : address_refusal s a ≡ 0) where
    here : AddressFreed freed s order a
    here = address_freed freed s order a shape passed accepted

    first_clears : block_number m b ≡ block_number (superblock_index a) (block_of s a) → mark_in (block_freed s a) ≡ 0
    first_clears e =
        let low = here.block in
        let home : m ≡ superblock_index a = omega arith in
        let block : b ≡ block_of s a = omega arith in
        ap₂ (λ (k j : ℕ). mark_bit (of (superblock_at (block_freed s a) k)) j) home block ∙ one_block.clears freed s order a here

    first_keeps_other : (block_number m b ≡ block_number (superblock_index a) (block_of s a) → ⊥) → mark_in (block_freed s a) ≡ mark_in s
    first_keeps_other f = one_block.keeps freed s order a here m b inside (λ q. f (ap₂ block_number q.0 q.1)) small

    first_sets_none : mark_in s ≡ 0 → mark_in (block_freed s a) ≡ 0
    first_sets_none e = go (ℕ_discrete (block_number m b) (block_number (superblock_index a) (block_of s a)))
      where
        go : Dec (block_number m b ≡ block_number (superblock_index a) (block_of s a)) → mark_in (block_freed s a) ≡ 0
        go (yes q) = first_clears q
        go (no f) = first_keeps_other f ∙ e

  -- of all of them: the mark of a block that is not listed stays ..
  frees_keep_other_marks : (freed : ℕ → ℕ → ℕ) (s : State) (order addresses : List ℕ) → Shape s → PassedAfterFrees freed s order
      → first_address_refusal s addresses ≡ 0
      → (ListsBlock s addresses (block_number m b) → ⊥) → mark_in (all_freed s addresses) ≡ mark_in s
  unfolding all_freed
  frees_keep_other_marks freed s order [] shape passed ok other = refl
  frees_keep_other_marks freed s order (a ∷ addresses) shape passed ok other =
      let first = first_refusal_of_cons s a addresses ok in
      frees_keep_other_marks (one_more_freed (superblock_holding s a).owner (superblock_holding s a).class freed) (block_freed s a) (order_pushed s order a)
      addresses (address_freed freed s order a shape passed first.0).shape
      (address_freed freed s order a shape passed first.0).passed first.1
      (λ h. other (inr (listed_same s (block_freed s a) (address_freed_block freed s order a shape passed first.0) addresses _ h)))
      ∙ first_keeps_other freed s order a shape passed first.0 (λ e. other (inl e))

  -- .. one that is cleared stays so ..
  frees_set_no_mark : (freed : ℕ → ℕ → ℕ) (s : State) (order addresses : List ℕ) → Shape s → PassedAfterFrees freed s order
      → first_address_refusal s addresses ≡ 0
      → mark_in s ≡ 0 → mark_in (all_freed s addresses) ≡ 0
  unfolding all_freed
  frees_set_no_mark freed s order [] shape passed ok e = e
  frees_set_no_mark freed s order (a ∷ addresses) shape passed ok e =
      let first = first_refusal_of_cons s a addresses ok in
      frees_set_no_mark (one_more_freed (superblock_holding s a).owner (superblock_holding s a).class freed) (block_freed s a) (order_pushed s order a)
      addresses (address_freed freed s order a shape passed first.0).shape
      (address_freed freed s order a shape passed first.0).passed first.1
      (first_sets_none freed s order a shape passed first.0 e)

  -- .. and that of a listed one is cleared
  frees_clear_marks : (freed : ℕ → ℕ → ℕ) (s : State) (order addresses : List ℕ) → Shape s → PassedAfterFrees freed s order
      → first_address_refusal s addresses ≡ 0
      → ListsBlock s addresses (block_number m b) → mark_in (all_freed s addresses) ≡ 0
  unfolding all_freed
  frees_clear_marks freed s order [] shape passed ok h = absurd h
  frees_clear_marks freed s order (a ∷ addresses) shape passed ok (inl e) =
      let first = first_refusal_of_cons s a addresses ok in
      frees_set_no_mark (one_more_freed (superblock_holding s a).owner (superblock_holding s a).class freed) (block_freed s a) (order_pushed s order a)
      addresses (address_freed freed s order a shape passed first.0).shape
      (address_freed freed s order a shape passed first.0).passed first.1
      (first_clears freed s order a shape passed first.0 e)
  frees_clear_marks freed s order (a ∷ addresses) shape passed ok (inr h) =
      let first = first_refusal_of_cons s a addresses ok in
      frees_clear_marks (one_more_freed (superblock_holding s a).owner (superblock_holding s a).class freed) (block_freed s a) (order_pushed s order a)
      addresses (address_freed freed s order a shape passed first.0).shape
      (address_freed freed s order a shape passed first.0).passed first.1
      (listed_same (block_freed s a) s (λ x. sym (address_freed_block freed s order a shape passed first.0 x)) addresses _ h)

-- ---- the frees: the superblock of the last address is in front of the ranking, unless a long block was freed there
last_freed_ranked_1 : (freed : ℕ → ℕ → ℕ) (s : State) (order earlier : List ℕ) (a : ℕ) → Shape s → PassedAfterFrees freed s order → is_in_run s a ≡ false
    → first_address_refusal s (earlier ++ (a ∷ [])) ≡ 0
    → (superblock_index a < 64) × ((superblock_at (all_freed s (earlier ++ (a ∷ []))) (superblock_index a)).rank ≡ 1)
unfolding all_freed
last_freed_ranked_1 freed s order [] a shape passed outside ok =
    let first = first_refusal_of_cons s a [] ok in
    let inside = (address_freed freed s order a shape passed first.0).below in (
      inside,
      freed_superblock_is_latest s (block_freed s a) (superblock_index a) inside
          (subst (RankedLatest (superblock_index a) s) (sym (block_freed_outside_run s a outside))
          (small_block_freed_ranks freed s order a shape passed first.0 outside)),
    )
last_freed_ranked_1 freed s order (x ∷ earlier) a shape passed outside ok =
    let first = first_refusal_of_cons s x (earlier ++ (a ∷ [])) ok in
    let here = address_freed freed s order x shape passed first.0 in
    last_freed_ranked_1 (one_more_freed (superblock_holding s x).owner (superblock_holding s x).class freed) (block_freed s x) (order_pushed s order x) earlier
    a here.shape here.passed
    (outside_run_kept s (block_freed s x) here.owners here.shape.length_is a outside) first.1

-- ---- the moves: what does not depend on which heap the owner is stays
transfers_keep : {A : Type 0} (of : Superblock → A) → ((b : Superblock) → b.owner < run_owner → of (with_owner 0 b) ≡ of b)
    → (touched : ℕ → ℕ → Bool) (s t : State) (n : ℕ) → Transfers touched s t n → (m : ℕ) → m < 64
    → of (superblock_at t m) ≡ of (superblock_at s m)
transfers_keep of kept touched s t n moves m l = ⊎_elim (λ e. ap of e) (λ w. ap of w.3 ∙ kept (superblock_at s m) w.1) (moves.each m l)

-- ---- of the call
module _ (s : State) (order : List ℕ) (i : ℕ) (addresses : List ℕ) (shape : Shape s) (acc : DropAccepted s order i addresses) where
  abbrev after : State
  after = (drop_of s order i addresses).answer.state

  drop_keeps : {A : Type 0} (of : Superblock → A) → ((b : Superblock) → b.owner < run_owner → of (with_owner 0 b) ≡ of b) → (m : ℕ) → m < 64
      → of (superblock_at after m) ≡ of (superblock_at (all_freed s addresses) m)
  drop_keeps of kept m l =
      ap (λ (t : State). of (superblock_at t m)) (drop_state_is s order i addresses shape acc)
      ∙ transfers_keep of kept _ _ _ _ (drop_transfers s order addresses shape acc.passed acc.no_refusal) m l

  -- "All blocks are freed": the mark of each block of the list is cleared ..
  pub drop_clears_marks : (m b : ℕ) → m < 64 → b < 256 → ListsBlock s addresses (block_number m b) → mark_bit (superblock_at after m).live b ≡ 0
  drop_clears_marks m b inside small h =
      drop_keeps (λ x. mark_bit x.live b) (λ x l. refl) m inside
      ∙ frees_clear_marks (λ x. x.live) clears_its_mark m b inside small (λ h c. 0) s order addresses shape (passed_after_no_frees s order acc.passed)
      acc.no_refusal h

  -- .. and every other mark is as it was
  pub drop_keeps_other_marks : (m b : ℕ) → m < 64 → b < 256 → (ListsBlock s addresses (block_number m b) → ⊥) → mark_bit (superblock_at after m).live b
      ≡ mark_bit (superblock_at s m).live b
  drop_keeps_other_marks m b inside small other =
      drop_keeps (λ x. mark_bit x.live b) (λ x l. refl) m inside
      ∙ frees_keep_other_marks (λ x. x.live) clears_its_mark m b inside small (λ h c. 0) s order addresses shape
      (passed_after_no_frees s order acc.passed) acc.no_refusal other

  -- long blocks as well: each block of the list is no longer live ..
  of_heap_keeps_live_blocks : (b : ℕ) (x : Superblock) → x.owner < run_owner → mark_bit (live_blocks (with_owner 0 x)) b ≡ mark_bit (live_blocks x) b
  of_heap_keeps_live_blocks b x l =
      ap (λ (y : List ℕ). mark_bit y b)
      (live_blocks_outside_run (with_owner 0 x) (outside_run_of_owner (with_owner 0 x) (λ (q : (with_owner 0 x).owner ≡ run_owner). omega arith))
      ∙ sym (live_blocks_outside_run x (outside_run_of_owner x (λ (q : x.owner ≡ run_owner). omega arith))))

  pub drop_frees_blocks : (m b : ℕ) → m < 64 → b < 256 → ListsBlock s addresses (block_number m b) → mark_bit (live_blocks (superblock_at after m)) b ≡ 0
  drop_frees_blocks m b inside small h =
      drop_keeps (λ x. mark_bit (live_blocks x) b) (of_heap_keeps_live_blocks b) m inside
      ∙ frees_clear_marks live_blocks clears_its_live_block m b inside small (λ h c. 0) s order addresses shape
      (passed_after_no_frees s order acc.passed) acc.no_refusal h

  -- .. and every other is live or not as it was
  pub drop_keeps_other_blocks : (m b : ℕ) → m < 64 → b < 256 → (ListsBlock s addresses (block_number m b) → ⊥)
      → mark_bit (live_blocks (superblock_at after m)) b ≡ mark_bit (live_blocks (superblock_at s m)) b
  drop_keeps_other_blocks m b inside small other =
      drop_keeps (λ x. mark_bit (live_blocks x) b) (of_heap_keeps_live_blocks b) m inside
      ∙ frees_keep_other_marks live_blocks clears_its_live_block m b inside small (λ h c. 0) s order addresses shape
      (passed_after_no_frees s order acc.passed) acc.no_refusal other

  -- a move changes no rank: the ranks are as the frees leave them
  pub drop_ranks : RanksKept (all_freed s addresses) after
  drop_ranks = drop_keeps (λ x. x.rank) (λ x l. refl)

-- the superblock of the last address is the last freed into, where it was in no run: it has rank 1
pub last_dropped_ranked_1 : (s : State) (order : List ℕ) (i : ℕ) (earlier : List ℕ) (a : ℕ) → Shape s → DropAccepted s order i (earlier ++ (a ∷ []))
    → is_in_run s a ≡ false
    → (superblock_at (drop_of s order i (earlier ++ (a ∷ []))).answer.state (superblock_index a)).rank ≡ 1
last_dropped_ranked_1 s order i earlier a shape acc outside =
    let last = last_freed_ranked_1 (λ h c. 0) s order earlier a shape (passed_after_no_frees s order acc.passed) outside acc.no_refusal in
    drop_ranks s order i (earlier ++ (a ∷ [])) shape acc (superblock_index a) last.0 ∙ last.1
