-- Document 02, item 4, over lists of calls: the ranked superblocks are those freed into since they were last renewed, in the order of their last frees, the
-- latest first. Assumes nothing.
use mathlib.Core.Path.{◌≡◌, refl, sym, ap, ap₂, ◌∙◌, subst}
use mathlib.Core.Bool.{Bool, true, false, not}
use mathlib.Core.Logic.{inl, inr, ⊎_elim}
use mathlib.Core.List.{List, [], ◌∷◌}
use Prim.Native.Nat.{ℕ, ◌*◌, ◌/◌, ◌≤◌, ◌<◌}
use native.Mathlib.Omega.{arith}
use borrow.Author.Tests.{eq-eqb, ne_eqb}
use lib.Dec.{eqb}
use Rattle.base_laws.specs.Sums.{pick, both}
use Rattle.base_laws.proofs.TestLaws.{both_false_right, pick_elim, pick_true, pick_false}
use Rattle.base_laws.proofs.Decides.{true_of_decides, false_of_decides}
use Rattle.class_rules.specs.Classes.{class_count, blocks_of, class_of, is_long, run_length}
use Rattle.class_rules.proofs.ClassLaws.{decides_long}
use Rattle.heap_rules.specs.declared.Superblock.{Superblock}
use Rattle.heap_rules.specs.declared.Setup.{Setup}
use Rattle.heap_rules.specs.declared.State.{State}
use Rattle.heap_rules.specs.Table.{superblock_at, live_in}
use Rattle.heap_laws.proofs.StateFacts.{Shape}
use Rattle.call_rules.specs.declared.Outcome.{Outcome}
use Rattle.call_rules.specs.declared.Outcome.TheVariants.{Ready, Address, Moves, Refused}
use Rattle.call_rules.specs.Answers.{After, refused}
use Rattle.call_rules.specs.Setup.{setup_of}
use Rattle.call_rules.specs.Take.{address_of, take_of}
use Rattle.call_rules.specs.Free.{superblock_index, superblock_holding, is_in_run, address_refusal, order_pushed, small_block_freed, long_block_freed}
use Rattle.call_rules.specs.Free.{block_freed, free_of}
use Rattle.call_rules.specs.Named.{named_take_of, held_address, named_free_of}
use Rattle.call_rules.specs.Drop.{all_freed, first_address_refusal, is_touched, drop_moves, drop_of}
use Rattle.call_rules.specs.Calls.{Call, Take, Free, NamedTake, NamedFree, Drop, call_of}
use Rattle.call_laws.proofs.CallEffects.{Passed, PassedAfterFrees, TakeAccepted, LongTakeAccepted, FreeAccepted, LongFreeAccepted, NamedTakeAccepted}
use Rattle.call_laws.proofs.CallEffects.{NamedLongTakeAccepted, NamedFreeAccepted, NamedLongFreeAccepted, RanksKept, RankedLatest, RunUnranked, Renews}
use Rattle.call_laws.proofs.CallEffects.{RenewsNot, TakeRanks}
use Rattle.call_laws.proofs.AddressLaws.{address_superblock}
use Rattle.call_laws.proofs.SetupLaws.{accepted_setup_of_ready}
use Rattle.call_laws.proofs.TakeLaws.{take_refused_or_accepted, taken_block, take_address, take_effect, take_ranks}
use Rattle.call_laws.proofs.RunTakenLaws.{long_take_address, long_take_ranks}
use Rattle.call_laws.proofs.FreeLaws.{free_refused_or_accepted, no_refusal_of_accepted_address, moves, free_outcome, free_effect, free_ranks}
use Rattle.call_laws.proofs.FreeLaws.{long_free_outcome, long_free_ranks}
use Rattle.call_laws.proofs.NamedCallLaws.{named_take_refused_or_accepted, named_taken_block, named_take_address, named_take_effect}
use Rattle.call_laws.proofs.NamedCallLaws.{named_free_refused_or_accepted}
use Rattle.call_laws.proofs.NamedLongTakeLaws.{named_long_take_address, named_long_take_ranks}
use Rattle.call_laws.proofs.TransferredLaws.{passed_after_no_frees}
use Rattle.call_laws.proofs.BlockFreedLaws.{freed_superblock_lt_64, small_block_freed_ranks}
use Rattle.call_laws.proofs.RunFreedLaws.{long_block_freed_ranks}
use Rattle.call_laws.proofs.AddressFreedLaws.{address_freed}
use Rattle.call_laws.proofs.AllFreedLaws.{first_refusal_of_cons}
use Rattle.call_laws.proofs.DropTransfersLaws.{Transfers}
use Rattle.call_laws.proofs.DropLaws.{DropAccepted, drop_refused_or_accepted, drop_transfers, drop_outcome, drop_state_is}
use Rattle.call_laws.proofs.CallRankLaws.{named_take_ranks, named_free_ranks, named_long_free_ranks}
use Rattle.claim_rules.specs.Claim.{Step, Linked, peak_with}
use Rattle.claim_rules.specs.Ledger.{Entry, is_at, has_name, removed, ledger_after}
use Rattle.claim_rules.specs.History.{Event, freed_into, renewed, joined_run, neither, event_of_block, event_of_free, event_of_taken, event_of_take}
use Rattle.claim_rules.specs.History.{events_after_drop}
use Rattle.claim_rules.specs.History.{events_after, RankedByLastFree, OffersLastFreed, AlongHistory, RankedByLastFreeOver, OffersLastFreedOver}
use Rattle.claim_laws.proofs.EventLaws.{ranked_by_last_free_after_free, ranked_by_last_free_after_renewal, ranked_by_last_free_after_run}
use Rattle.claim_laws.proofs.EventLaws.{ranked_by_last_free_after_neither, ranked_by_last_free_of_new_state, offers_last_freed_of_ranked}
use Rattle.claim_laws.proofs.LiveBlocksListedLaws.{Agreement, block_freed_agreement}
use Rattle.claim_laws.proofs.LedgerEventLaws.{SameEvents, same_events_removed, small_block_in_ledger, event_of_small_block, long_block_in_ledger}
use Rattle.claim_laws.proofs.LedgerEventLaws.{event_of_long_block, event_of_named_block}
use Rattle.claim_laws.proofs.CallInvariantLaws.{ListInvariant, after_step}
use Rattle.claim_laws.proofs.Demand3.{list_invariant_after_setup}
use Rattle.call_laws.proofs.TransferredLaws.{one_more_freed}

-- ---- the event of a call, by its outcome
-- a take of a block of a class that answered block j of superblock k, of class c
module _ (s : State) (i size k c j : ℕ) (small : size ≤ 2048) (known : c < class_count) (block : j < blocks_of c) where
  event_of_take_at : event_of_take s i size (Address (address_of k c j))
      ≡ pick (both (eqb (live_in (superblock_at s k)) 0) (not (eqb (superblock_at s k).owner i))) (renewed k) neither
  unfolding event_of_take event_of_taken
  event_of_take_at =
      pick_false (is_long size) _ _ (false_of_decides (decides_long size) small)
      ∙ ap (λ (x : ℕ). pick (both (eqb (live_in (superblock_at s x)) 0) (not (eqb (superblock_at s x).owner i))) (renewed x) neither)
      (address_superblock c k j known block)

  event_of_renewal : Renews s i k → event_of_take s i size (Address (address_of k c j)) ≡ renewed k
  event_of_renewal h =
      event_of_take_at
      ∙ ap₂ (λ (x y : Bool). pick (both x (not y)) (renewed k) neither) (eq-eqb (live_in (superblock_at s k)) 0 h.empty)
      (ne_eqb (superblock_at s k).owner i h.not_own)

  event_of_no_renewal : RenewsNot s i k → event_of_take s i size (Address (address_of k c j)) ≡ neither
  event_of_no_renewal (inl own) =
      event_of_take_at
      ∙ ap (λ (x : Bool). pick (both (eqb (live_in (superblock_at s k)) 0) (not x)) (renewed k) neither) (eq-eqb (superblock_at s k).owner i own)
      ∙ ap (λ (x : Bool). pick x (renewed k) neither) (both_false_right (eqb (live_in (superblock_at s k)) 0))
  event_of_no_renewal (inr live) =
      event_of_take_at ∙ ap (λ (x : Bool). pick (both x (not (eqb (superblock_at s k).owner i))) (renewed k) neither)
      (ne_eqb (live_in (superblock_at s k)) 0 live)

-- a take of a long block, whose run begins at superblock k
event_of_long_take : (s : State) (i size k : ℕ) → 2048 < size → event_of_take s i size (Address (k * 4096)) ≡ joined_run k (run_length size)
unfolding event_of_take
event_of_long_take s i size k large =
    let at : k * 4096 / 4096 ≡ k = omega arith in
    pick_true (is_long size) _ _ (true_of_decides (decides_long size) large) ∙ ap (λ (x : ℕ). joined_run x (run_length size)) at

-- ---- one call more
after_nothing : (s : State) (events : List Event) → RankedByLastFree s events → RankedByLastFree s (neither ∷ events)
after_nothing s events before = ranked_by_last_free_after_neither s s events (λ m l. refl) before

after_refused_drop : (s : State) (ledger : List Entry) (r : ℕ) (events : List Event) (addresses : List ℕ) → RankedByLastFree s events
    → RankedByLastFree s (events_after_drop events ledger addresses (Refused r))
unfolding events_after_drop event_of_free
after_refused_drop s ledger r events [] before = before
after_refused_drop s ledger r events (a ∷ addresses) before = after_refused_drop s ledger r (neither ∷ events) addresses (after_nothing s events before)

-- one of the frees of a drop, after others of it: the ledger before the drop tells of its block what the part without the blocks freed so far does
module _ (freed : ℕ → ℕ → ℕ) (ledger part : List Entry) (same : SameEvents ledger part) (s : State) (order : List ℕ) (shape : Shape s)
    (passed : PassedAfterFrees freed s order) (agrees : Agreement s part) where
  after_one_free : (a m : ℕ) (events : List Event) → address_refusal s a ≡ 0 → RankedByLastFree s events
      → RankedByLastFree (block_freed s a) (event_of_free (is_at a) ledger (Moves m) ∷ events)
  unfolding block_freed event_of_free
  after_one_free a m events ok before =
      pick_elim (λ (t : State). RankedByLastFree t (event_of_block (is_at a) ledger ∷ events)) (is_in_run s a) (long_block_freed s a) (small_block_freed s a)
      long small
    where
      small : is_in_run s a ≡ false → RankedByLastFree (small_block_freed s a) (event_of_block (is_at a) ledger ∷ events)
      small outside =
          let whole = same a (superblock_holding s a).class (small_block_in_ledger freed s order a part shape passed ok agrees outside) in
          let told = event_of_small_block freed s order a part shape passed ok agrees outside in
          let ranks = small_block_freed_ranks freed s order a shape passed ok outside in
          let below = freed_superblock_lt_64 freed s order a shape passed ok outside in
          subst (λ (x : Event). RankedByLastFree (small_block_freed s a) (x ∷ events)) (sym told ∙ whole)
          (ranked_by_last_free_after_free s (small_block_freed s a) (superblock_index a) events below passed.ranks ranks before)

      long : is_in_run s a ≡ true → RankedByLastFree (long_block_freed s a) (event_of_block (is_at a) ledger ∷ events)
      long inside =
          let whole = same a class_count (long_block_in_ledger freed s order a part shape passed ok agrees inside) in
          let told = event_of_long_block freed s order a part shape passed ok agrees inside in
          subst (λ (x : Event). RankedByLastFree (long_block_freed s a) (x ∷ events)) (sym told ∙ whole)
          (ranked_by_last_free_after_neither s (long_block_freed s a) events (long_block_freed_ranks freed s order a shape passed ok inside) before)

-- the frees of a drop, one after another
after_frees : (freed : ℕ → ℕ → ℕ) (ledger part : List Entry) → SameEvents ledger part → (s : State) (order addresses : List ℕ) (events : List Event) (m : ℕ)
    → Shape s → PassedAfterFrees freed s order → Agreement s part → first_address_refusal s addresses ≡ 0 → RankedByLastFree s events
    → RankedByLastFree (all_freed s addresses) (events_after_drop events ledger addresses (Moves m))
unfolding events_after_drop all_freed
after_frees freed ledger part same s order [] events m shape passed agrees ok before = before
after_frees freed ledger part same s order (a ∷ addresses) events m shape passed agrees ok before =
    let first = first_refusal_of_cons s a addresses ok in
    let one = address_freed freed s order a shape passed first.0 in
    after_frees (one_more_freed (superblock_holding s a).owner (superblock_holding s a).class freed) ledger (removed (is_at a) part)
    (same_events_removed ledger part a same) (block_freed s a) (order_pushed s order a) addresses
    (event_of_free (is_at a) ledger (Moves m) ∷ events) m one.shape one.passed
    (block_freed_agreement freed s order a part shape passed first.0 agrees) first.1
    (after_one_free freed ledger part same s order shape passed agrees a m events first.0 before)

-- and its moves keep the ranks
ranked_by_last_free_of_same_ranks : (s t : State) (events : List Event) → ((k : ℕ) → k < 64 → (superblock_at t k).rank ≡ (superblock_at s k).rank)
    → RankedByLastFree s events → RankedByLastFree t events
ranked_by_last_free_of_same_ranks s t events same ranked =
    record {
      unranked_iff = λ k l. rw (same k l) (ranked.unranked_iff k l);
      later_first = λ k m x y lk lm e f h. rw (same k lk, same m lm) (ranked.later_first k m x y lk lm e f h);
    }

transfers_rank : (touched : ℕ → ℕ → Bool) (s t : State) (n : ℕ) → Transfers touched s t n → (k : ℕ) → k < 64
    → (superblock_at t k).rank ≡ (superblock_at s k).rank
transfers_rank touched s t n moved k l = ⊎_elim (ap (λ (b : Superblock). b.rank)) (λ w. ap (λ (b : Superblock). b.rank) w.3) (moved.each k l)

module _ (s : State) (order : List ℕ) (ledger : List Entry) (events : List Event) (shape : Shape s) (passed : Passed s order) (agrees : Agreement s ledger)
    (before : RankedByLastFree s events) where
  -- after the call, and after one whose events are this one
  abbrev RankedAfter : Call → After → Type 0
  RankedAfter call after = RankedByLastFree after.answer.state (events_after events ledger s call after.answer.outcome)

  abbrev RankedAfterEvent : (Outcome → Event) → After → Type 0
  RankedAfterEvent event after = RankedByLastFree after.answer.state (event after.answer.outcome ∷ events)

  -- such a call, by its outcome and what that tells
  ranked_after_event : (event : Outcome → Event) (after : After) (o : Outcome) (e : Event) → after.answer.outcome ≡ o → event o ≡ e
      → RankedByLastFree after.answer.state (e ∷ events) → RankedAfterEvent event after
  ranked_after_event event after o e answered told h =
      subst (λ (x : Event). RankedByLastFree after.answer.state (x ∷ events)) (sym (ap event answered ∙ told)) h

  after_take_lem : (i size k c j : ℕ) (after : After) → size ≤ 2048 → k < 64 → c < class_count → j < blocks_of c
      → after.answer.outcome ≡ Address (address_of k c j)
      → TakeRanks i k s after.answer.state → RankedAfterEvent (event_of_take s i size) after
  after_take_lem i size k c j after small l known block e ranks = go ranks
    where
      go : TakeRanks i k s after.answer.state → RankedAfterEvent (event_of_take s i size) after
      go (inl h) =
          ranked_after_event (event_of_take s i size) after _ _ e (event_of_renewal s i size k c j small known block h.0)
          (ranked_by_last_free_after_renewal s after.answer.state k events l passed.ranks h.1 before)
      go (inr h) =
          ranked_after_event (event_of_take s i size) after _ _ e (event_of_no_renewal s i size k c j small known block h.0)
          (ranked_by_last_free_after_neither s after.answer.state events h.1 before)

  after_long_take : (i size k : ℕ) (after : After) → 2048 < size → after.answer.outcome ≡ Address (k * 4096)
      → RunUnranked k (run_length size) s after.answer.state
      → RankedAfterEvent (event_of_take s i size) after
  after_long_take i size k after large e ranks =
      ranked_after_event (event_of_take s i size) after _ _ e (event_of_long_take s i size k large)
      (ranked_by_last_free_after_run s after.answer.state k (run_length size) events ranks before)

  -- a free of the block that passes the test, at address a
  after_free_lem : (test : Entry → Bool) (a m : ℕ) (after : After) → event_of_block test ledger ≡ freed_into (superblock_index a) → superblock_index a < 64
      → after.answer.outcome ≡ Moves m → RankedLatest (superblock_index a) s after.answer.state → RankedAfterEvent (event_of_free test ledger) after
  unfolding event_of_free
  after_free_lem test a m after told l e ranks =
      ranked_after_event (event_of_free test ledger) after _ _ e told
      (ranked_by_last_free_after_free s after.answer.state (superblock_index a) events l passed.ranks ranks before)

  after_long_free : (test : Entry → Bool) (after : After) → event_of_block test ledger ≡ neither → after.answer.outcome ≡ Moves 0
      → RanksKept s after.answer.state → RankedAfterEvent (event_of_free test ledger) after
  unfolding event_of_free
  after_long_free test after told e ranks =
      ranked_after_event (event_of_free test ledger) after _ _ e told (ranked_by_last_free_after_neither s after.answer.state events ranks before)

  -- what the ledger tells of an accepted free, by address
  told_of_free : (i a : ℕ) → FreeAccepted s order i a → event_of_block (is_at a) ledger ≡ freed_into (superblock_index a)
  told_of_free i a acc =
      event_of_small_block (λ h c. 0) s order a ledger shape (passed_after_no_frees s order passed) (no_refusal_of_accepted_address s order i a acc.address)
      agrees acc.outside_run

  told_of_long_free : (i a : ℕ) → LongFreeAccepted s order i a → event_of_block (is_at a) ledger ≡ neither
  told_of_long_free i a acc =
      event_of_long_block (λ h c. 0) s order a ledger shape (passed_after_no_frees s order passed) (no_refusal_of_accepted_address s order i a acc.address)
      agrees acc.in_run

  -- a refused call
  after_refusal : (r : ℕ) (call : Call) → RankedAfter call (refused r s order)
  unfolding events_after event_of_take event_of_free
  after_refusal r (Take i size) = after_nothing s events before
  after_refusal r (Free i a) = after_nothing s events before
  after_refusal r (NamedTake i m size) = after_nothing s events before
  after_refusal r (NamedFree i m) = after_nothing s events before
  after_refusal r (Drop i addresses) = after_refused_drop s ledger r events addresses before

  after_refused : (call : Call) → ((r : ℕ) × (call_of s order call ≡ refused r s order)) → RankedAfter call (call_of s order call)
  after_refused call h = subst (RankedAfter call) (sym h.1) (after_refusal h.0 call)

  below_64 : (k : ℕ) → k < s.setup.superblocks → k < 64
  below_64 k l = let h = passed.sound.numbers.superblocks_high in omega arith

  -- an accepted call or a refused one
  ranked_by_last_free_after_call : (call : Call) → RankedAfter call (call_of s order call)
  unfolding call_of events_after
  ranked_by_last_free_after_call (Take i size) = ⊎_elim (after_refused (Take i size)) (⊎_elim accepted accepted_long) (take_refused_or_accepted s order i size)
    where
      accepted : ((k : ℕ) × TakeAccepted s order i size k) → RankedAfterEvent (event_of_take s i size) (take_of s order i size)
      accepted (k, acc) =
          let effect = take_effect s order i size k shape acc in
          after_take_lem i size k (class_of size) (taken_block s order i size k shape acc) (take_of s order i size) acc.size_le_2048 (below_64 k effect.below)
          effect.class_lt_27 effect.block (take_address s order i size k shape acc) (take_ranks s order i size k shape acc)

      accepted_long : ((k : ℕ) × LongTakeAccepted s order i size k) → RankedAfterEvent (event_of_take s i size) (take_of s order i size)
      accepted_long (k, acc) =
          after_long_take i size k (take_of s order i size) acc.size_above_2048 (long_take_address s order i size k shape acc)
          (long_take_ranks s order i size k shape acc)
  ranked_by_last_free_after_call (Free i a) = ⊎_elim (after_refused (Free i a)) (⊎_elim accepted accepted_long) (free_refused_or_accepted s order i a)
    where
      accepted : FreeAccepted s order i a → RankedAfterEvent (event_of_free (is_at a) ledger) (free_of s order i a)
      accepted acc =
          after_free_lem (is_at a) a (moves s order i a shape acc) (free_of s order i a) (told_of_free i a acc)
          (below_64 (superblock_index a) (free_effect s order i a shape acc).below) (free_outcome s order i a shape acc) (free_ranks s order i a shape acc)

      accepted_long : LongFreeAccepted s order i a → RankedAfterEvent (event_of_free (is_at a) ledger) (free_of s order i a)
      accepted_long acc =
          after_long_free (is_at a) (free_of s order i a) (told_of_long_free i a acc) (long_free_outcome s order i a shape acc)
          (long_free_ranks s order i a shape acc)
  ranked_by_last_free_after_call (NamedTake i m size) =
      ⊎_elim (after_refused (NamedTake i m size)) (⊎_elim accepted accepted_long) (named_take_refused_or_accepted s order i m size)
    where
      accepted : ((k : ℕ) × NamedTakeAccepted s order i m size k) → RankedAfterEvent (event_of_take s i size) (named_take_of s order i m size)
      accepted (k, acc) =
          let effect = named_take_effect s order i m size k shape acc in
          after_take_lem i size k (class_of size) (named_taken_block s order i m size k shape acc) (named_take_of s order i m size) acc.taken.size_le_2048
          (below_64 k effect.below) effect.class_lt_27 effect.block (named_take_address s order i m size k shape acc)
          (named_take_ranks s order i m size k shape acc)

      accepted_long : ((k : ℕ) × NamedLongTakeAccepted s order i m size k) → RankedAfterEvent (event_of_take s i size) (named_take_of s order i m size)
      accepted_long (k, acc) =
          after_long_take i size k (named_take_of s order i m size) acc.taken.size_above_2048 (named_long_take_address s order i m size k shape acc)
          (named_long_take_ranks s order i m size k shape acc)
  ranked_by_last_free_after_call (NamedFree i m) =
      ⊎_elim (after_refused (NamedFree i m)) (⊎_elim accepted accepted_long) (named_free_refused_or_accepted s order i m)
    where
      accepted : NamedFreeAccepted s order i m → RankedAfterEvent (event_of_free (has_name m) ledger) (named_free_of s order i m)
      accepted acc =
          let a : ℕ = held_address s m in
          let told = event_of_named_block s ledger m agrees.names acc.held ∙ told_of_free i a acc.freed in
          let answered = ap (λ (x : After). x.answer.outcome) acc.result_is ∙ free_outcome s order i a shape acc.freed in
          after_free_lem (has_name m) a (moves s order i a shape acc.freed) (named_free_of s order i m) told
          (below_64 (superblock_index a) (free_effect s order i a shape acc.freed).below) answered (named_free_ranks s order i m shape acc)

      accepted_long : NamedLongFreeAccepted s order i m → RankedAfterEvent (event_of_free (has_name m) ledger) (named_free_of s order i m)
      accepted_long acc =
          let a : ℕ = held_address s m in
          let told = event_of_named_block s ledger m agrees.names acc.held ∙ told_of_long_free i a acc.freed in
          let answered = ap (λ (x : After). x.answer.outcome) acc.result_is ∙ long_free_outcome s order i a shape acc.freed in
          after_long_free (has_name m) (named_free_of s order i m) told answered (named_long_free_ranks s order i m shape acc)
  ranked_by_last_free_after_call (Drop i addresses) = ⊎_elim (after_refused (Drop i addresses)) accepted (drop_refused_or_accepted s order i addresses)
    where
      n : ℕ
      n = (drop_moves s addresses).moves

      accepted : DropAccepted s order i addresses → RankedAfter (Drop i addresses) (drop_of s order i addresses)
      accepted acc =
          let moved = drop_transfers s order addresses shape acc.passed acc.no_refusal in
          subst (λ (o : Outcome). RankedByLastFree (drop_of s order i addresses).answer.state (events_after_drop events ledger addresses o))
          (sym (drop_outcome s order i addresses shape acc))
          (subst (λ (t : State). RankedByLastFree t (events_after_drop events ledger addresses (Moves n))) (sym (drop_state_is s order i addresses shape acc))
          (ranked_by_last_free_of_same_ranks (all_freed s addresses) (drop_moves s addresses).state _
          (transfers_rank (is_touched s addresses) (all_freed s addresses) (drop_moves s addresses).state n moved)
          (after_frees (λ h c. 0) ledger ledger (λ b c l. refl) s order addresses events n shape (passed_after_no_frees s order acc.passed) agrees
          acc.no_refusal before)))

-- ---- along a list of calls
ranked_by_last_free_from : (u : Setup) (before : After) (ledger : List Entry) (peak : ℕ → ℕ) (events : List Event) (steps : List Step)
    → ListInvariant u before.answer.state before.order ledger peak → RankedByLastFree before.answer.state events → Linked before steps
    → RankedByLastFreeOver before ledger events steps
unfolding Linked AlongHistory
ranked_by_last_free_from u before ledger peak events [] g ranked linked = ranked
ranked_by_last_free_from u before ledger peak events (step ∷ steps) g ranked linked =
    let new : List Entry = ledger_after ledger step.call step.after.answer.outcome in
    let n = after_step u before.answer.state before.order ledger peak g step linked.0 in
    (ranked, ranked_by_last_free_from u step.after new (peak_with peak new) _ steps n.invariant after linked.1)
  where
    s : State
    s = before.answer.state

    after : RankedByLastFree step.after.answer.state (events_after events ledger s step.call step.after.answer.outcome)
    after =
        let agrees : Agreement s ledger = record { listed = g.listed; names = g.names } in
        subst (λ (x : After). RankedByLastFree x.answer.state (events_after events ledger s step.call x.answer.outcome)) (sym linked.0)
        (ranked_by_last_free_after_call s before.order ledger events g.shape g.passed agrees ranked step.call)

-- For every accepted setup, whatever stood in the storage before, and every list of takes and frees after it, plain and named, and of drops: before the
-- list and after each of its calls the ranked superblocks are exactly those freed into since they were last renewed, in the order of their last frees, the
-- latest first.
pub ranked_by_last_free_over_list : (u : Setup) (order : List ℕ) (start : After) → start ≡ setup_of u order → start.answer.outcome ≡ Ready
    → (steps : List Step) → Linked start steps → RankedByLastFreeOver start [] [] steps
ranked_by_last_free_over_list u order start e ready steps linked =
    ranked_by_last_free_from u start [] (λ c. 0) [] steps (list_invariant_after_setup u order start e ready) new linked
  where
    new : RankedByLastFree start.answer.state []
    new =
        let h = accepted_setup_of_ready u order (ap (λ (x : After). x.answer.outcome) (sym e) ∙ ready) in
        subst (λ (x : After). RankedByLastFree x.answer.state []) (sym (e ∙ h.1)) (ranked_by_last_free_of_new_state u)

-- ---- what is offered
-- what follows from one claim about a state and its history follows along a list
along_history_map : (P Q : State → List Event → Type 0) → ((s : State) (events : List Event) → P s events → Q s events)
    → (before : After) (ledger : List Entry) (events : List Event) (steps : List Step) → AlongHistory P before ledger events steps
    → AlongHistory Q before ledger events steps
unfolding AlongHistory
along_history_map P Q f before ledger events [] h = f before.answer.state events h
along_history_map P Q f before ledger events (step ∷ steps) h =
    (f before.answer.state events h.0, along_history_map P Q f step.after _ _ steps h.1)

-- For every accepted setup, whatever stood in the storage before, and every list of takes and frees after it, plain and named, and of drops: before the
-- list and after each of its calls, "Among equally full superblocks in places 1 and 2 of a take, the one freed into most recently since it was last
-- renewed comes first .. Those not freed into since then follow, lower number first".
pub offers_last_freed_over_list : (u : Setup) (order : List ℕ) (start : After) → start ≡ setup_of u order → start.answer.outcome ≡ Ready
    → (steps : List Step) → Linked start steps → OffersLastFreedOver start [] [] steps
offers_last_freed_over_list u order start e ready steps linked =
    along_history_map RankedByLastFree OffersLastFreed offers_last_freed_of_ranked start [] [] steps
    (ranked_by_last_free_over_list u order start e ready steps linked)
