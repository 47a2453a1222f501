-- What holds after the setup and after each call of a list: the state passes, the ledger lists its live blocks, and the bound holds. Assumes nothing.
use mathlib.Core.Path.{◌≡◌, refl, sym, ap, ◌∙◌, subst}
use mathlib.Core.Bool.{Bool, false}
use mathlib.Core.Logic.{◌⊎◌, inl, ⊎_elim}
use mathlib.Core.List.{List, ◌∷◌}
use Prim.Native.Nat.{ℕ, ◌+◌, ◌-◌, ◌*◌, ◌≤◌, ◌<◌}
use native.Mathlib.Nat.{le_refl, le_trans, le_of_eq, le-max_left, le-max_right, mul-le-mul_left}
use native.Mathlib.Decide.{ℕ_discrete, dec_lt}
use native.Mathlib.Omega.{arith}
use lib.ListN.{length}
use lib.Dec.{T}
use Rattle.base_laws.specs.Sums.{both}
use Rattle.base_laws.proofs.Inequalities.{le_of_not_below}
use Rattle.class_rules.specs.Classes.{class_count, blocks_of, class_of, is_long, run_length}
use Rattle.class_rules.proofs.ClassLaws.{class_of_too_large}
use Rattle.names_rules.specs.Names.{block_number, is_held, with_name}
use Rattle.heap_rules.specs.declared.Setup.{Setup}
use Rattle.heap_rules.specs.declared.State.{State}
use Rattle.heap_rules.specs.Counts.{superblocks_of, superblocks_of_class, live_of_class, owners_changed, passed_between_heaps}
use Rattle.heap_laws.proofs.StateFacts.{Shape, WithinLimits}
use Rattle.heap_laws.proofs.MoveLaws.{owners_changed_self}
use Rattle.heap_laws.proofs.PassedBetweenHeapsLaws.{none_passed_between_heaps}
use Rattle.call_rules.specs.declared.Outcome.{Outcome}
use Rattle.call_rules.specs.declared.Outcome.TheVariants.{Address, Moves, Refused}
use Rattle.call_rules.specs.Answers.{After, refused}
use Rattle.call_rules.specs.Take.{address_of, take_of}
use Rattle.call_rules.specs.Free.{superblock_index, superblock_holding, block_of, free_of}
use Rattle.call_rules.specs.Named.{is_unavailable, named_take_of, held_address, named_free_of}
use Rattle.call_rules.specs.Drop.{all_freed, is_touched, drop_moves, drop_of}
use Rattle.call_rules.specs.Calls.{Call, Take, Free, NamedTake, NamedFree, Drop, call_of}
use Rattle.call_laws.proofs.CallEffects.{Passed, TakeAccepted, LongTakeAccepted, FreeAccepted, LongFreeAccepted, NamedTakeAccepted, NamedLongTakeAccepted}
use Rattle.call_laws.proofs.CallEffects.{NamedFreeAccepted, NamedLongFreeAccepted, TakeEffect, FreeEffect, LongTakeEffect, LongFreeEffect}
use Rattle.claim_rules.specs.Ledger.{Name, named, unnamed, Entry, is_at, is_at_one_of, has_name, removed, after_take, after_free, ledger_after, entries_of}
use Rattle.claim_rules.specs.Ledger.{some_entry, EachEntry, entries_at}
use Rattle.claim_rules.specs.Claim.{Step, Bounded, frees_run, RefusedOwnerChanges, FreeOwnerChanges, OwnerChanges, CallOwnerChanges, peak_with}
use Rattle.call_laws.proofs.TakeLaws.{take_refused_or_accepted, taken_block, take_address, take_effect, take_names, take_shape, take_passed}
use Rattle.call_laws.proofs.RunTakenLaws.{long_take_address, long_take_effect, long_take_names, long_take_shape, long_take_passed}
use Rattle.call_laws.proofs.FreeLaws.{free_refused_or_accepted, free_passed_between_heaps, moves, free_outcome, free_address, free_effect, free_names}
use Rattle.call_laws.proofs.FreeLaws.{free_shape, free_passed}
use Rattle.call_laws.proofs.FreeLaws.{long_free_outcome, long_free_address, long_free_effect, long_free_names, long_free_shape, long_free_passed}
use Rattle.call_laws.proofs.TransferredLaws.{passed_after_no_frees}
use Rattle.call_laws.proofs.DropLaws.{DropAccepted, DropEffect, drop_refused_or_accepted, drop_frees, drop_transfers, dropped_shape, drop_outcome}
use Rattle.call_laws.proofs.DropLaws.{drop_state_is, drop_effect, drop_shape, drop_passed}
use Rattle.call_laws.proofs.NamedCallLaws.{facts_of_available, named_take_refused_or_accepted, named_taken_block, named_take_address, named_take_effect}
use Rattle.call_laws.proofs.NamedCallLaws.{named_take_names, named_take_shape, named_take_passed, named_free_refused_or_accepted}
use Rattle.call_laws.proofs.NamedLongTakeLaws.{named_long_take_address, named_long_take_effect, named_long_take_names, named_long_take_shape}
use Rattle.call_laws.proofs.NamedLongTakeLaws.{named_long_take_passed}
use Rattle.claim_laws.proofs.LongAtLaws.{long_at}
use Rattle.claim_laws.proofs.LiveAtLaws.{live_at, OneMoreLive, live_at_before_is_zero, long_at_before_is_zero, one_more_live_of_take}
use Rattle.claim_laws.proofs.LiveAtLaws.{one_more_live_of_free}
use Rattle.claim_laws.proofs.OneMoreLongLaws.{OneMoreLong, long_at_before_run_is_zero, one_more_long_of_take, one_more_long_of_free}
use Rattle.claim_laws.proofs.LedgerRuns.{LongAgrees, long_take_entry_is_run}
use Rattle.claim_laws.proofs.LedgerNames.{each_entry_map, each_entry_cons, EntryAgrees, BlockTaken, block_taken_of_take, block_taken_of_long_take}
use Rattle.claim_laws.proofs.LedgerNames.{plain_take_keeps_agreement, plain_take_entry_agrees, named_take_keeps_agreement, named_take_entry_agrees}
use Rattle.claim_laws.proofs.LedgerNames.{no_entry_at}
use Rattle.claim_laws.proofs.LedgerNames.{block_let_go_of_free, block_let_go_of_long_free, agreement_after_free, agreement_of_same_names_and_classes}
use Rattle.claim_laws.proofs.LedgerNames.{name_is_at_address, removed_by_name_is_removed_by_address}
use Rattle.claim_laws.proofs.LiveBlocksListedLaws.{Listed, listed_added, listed_removed, live_at_run_is_zero, listed_long_added, listed_long_removed}
use Rattle.claim_laws.proofs.LiveBlocksListedLaws.{Agreement, all_freed_agreement, transfers_class, transfers_runs, listed_after_transfers}
use Rattle.claim_laws.proofs.FreesRunLaws.{some_entry_cong, long_where, run_start_is_long, drop_changes_passed_owners}
use Rattle.claim_laws.proofs.BoundLaws.{bound_of_none_in_global}

-- ---- after the setup or a call
pub record ListInvariant (u : Setup) (s : State) (order : List ℕ) (ledger : List Entry) (peak : ℕ → ℕ) : Type 0 where
  pub passed : Passed s order
  pub shape : Shape s
  pub setup : s.setup ≡ u
  pub listed : Listed s ledger
  pub names : EachEntry (EntryAgrees s) ledger
  pub bounded : Bounded u s peak

-- the next state: its setup is the same, and of each class there are no more superblocks, or none in heap 0
list_invariant_next : (u : Setup) (s t : State) (order after_call : List ℕ) (ledger new : List Entry) (peak : ℕ → ℕ) → ListInvariant u s order ledger peak
    → t.setup ≡ s.setup → Passed t after_call → Shape t → Listed t new → EachEntry (EntryAgrees t) new
    → ((c : ℕ) → c < class_count → (superblocks_of_class c t ≤ superblocks_of_class c s) ⊎ (superblocks_of 0 c t ≡ 0))
    → ListInvariant u t after_call new (peak_with peak new)
unfolding Bounded
list_invariant_next u s t order after_call ledger new peak g e passed shape listed names owned =
    record {
      passed = passed;
      shape = shape;
      setup = e ∙ g.setup;
      listed = listed;
      names = names;
      bounded = λ c l.
          ⊎_elim
          (λ (h : superblocks_of_class c t ≤ superblocks_of_class c s).
          let before = g.bounded c l in
          let a = mul-le-mul_left ((u.q - u.p) * blocks_of c) h in
          let m = mul-le-mul_left u.q (le-max_left (peak c) (entries_of c new)) in
          omega arith)
          (λ (none : superblocks_of 0 c t ≡ 0).
          let now = fresh c l none in
          let m = mul-le-mul_left u.q (le-max_right (peak c) (entries_of c new)) in
          let n : u.q * entries_of c new ≡ u.q * live_of_class c t = ap (λ (x : ℕ). u.q * x) (listed.counted c l) in
          omega arith)
          (owned c l);
    }
  where
    fresh : (c : ℕ) → c < class_count → superblocks_of 0 c t ≡ 0
        → (u.q - u.p) * blocks_of c * superblocks_of_class c t ≤ u.q * live_of_class c t + (u.q - u.p) * u.processors * u.spare * blocks_of c
    fresh c l none =
        subst (λ (v : Setup). (v.q - v.p) * blocks_of c * superblocks_of_class c t ≤ v.q * live_of_class c
        t + (v.q - v.p) * v.processors * v.spare * blocks_of c) (e ∙ g.setup)
        (bound_of_none_in_global t after_call passed.sound c l none)

-- ---- a call
-- what a call leaves, and the owners that it changed
pub record AfterCall (u : Setup) (s : State) (ledger : List Entry) (peak : ℕ → ℕ) (call : Call) (after : After) : Type 0 where
  pub owner_changes : CallOwnerChanges u.q ledger s after.answer.state call after.answer.outcome
  pub invariant : ListInvariant u after.answer.state after.order (ledger_after ledger call after.answer.outcome)
      (peak_with peak (ledger_after ledger call after.answer.outcome))

-- outcomes of different kinds differ, and so do different numbers of moves
Refused_and_Moves_differ : (o : Outcome) (r m : ℕ) → o ≡ Refused r → o ≡ Moves m → ⊥
Refused_and_Moves_differ o r m p q = let z : ◌≡◌ {A = ℕ} 0 1 = cc in omega arith

Refused_and_Address_differ : (o : Outcome) (r a : ℕ) → o ≡ Refused r → o ≡ Address a → ⊥
Refused_and_Address_differ o r a p q = let z : ◌≡◌ {A = ℕ} 0 1 = cc in omega arith

Moves_equal : (o : Outcome) (m n : ℕ) → o ≡ Moves m → o ≡ Moves n → m ≡ n
Moves_equal o m n p q = cc

-- what a take, plain or named, leaves where it is accepted: block j of superblock k is taken, which is at address a
record Taken (s : State) (ledger : List Entry) (size a k j : ℕ) (after : After) : Type 0 where
  below : k < 64
  address : after.answer.outcome ≡ Address a
  setup : after.answer.state.setup ≡ s.setup
  shape : Shape after.answer.state
  passed : Passed after.answer.state after.order
  block : BlockTaken a k j s after.answer.state
  none_before : (d : ℕ) → d ≤ class_count → entries_at ledger a d ≡ 0
  listed : (name : Name) → Listed after.answer.state (record { address = a; size = size; name = name } ∷ ledger)
  long : (name : Name) → 2048 < size → LongAgrees after.answer.state (record { address = a; size = size; name = name })
  -- of each class there are no more superblocks, or none in heap 0
  owned : (c : ℕ) → c < class_count → (superblocks_of_class c after.answer.state ≤ superblocks_of_class c s) ⊎ (superblocks_of 0 c after.answer.state ≡ 0)

-- what a free, by an address or by a name that holds it, leaves where it is accepted
record Freed (s : State) (ledger : List Entry) (a moves : ℕ) (after : After) : Type 0 where
  outcome : after.answer.outcome ≡ Moves moves
  setup : after.answer.state.setup ≡ s.setup
  shape : Shape after.answer.state
  passed : Passed after.answer.state after.order
  listed : Listed after.answer.state (removed (is_at a) ledger)
  names : EachEntry (EntryAgrees after.answer.state) (removed (is_at a) ledger)
  passed_between_heaps_lem : passed_between_heaps s after.answer.state ≡ moves
  changed : some_entry (long_where (is_at a)) ledger ≡ false → owners_changed s after.answer.state ≡ moves
  moves_le_q : moves ≤ s.setup.q
  owned : (d : ℕ) → superblocks_of_class d after.answer.state ≡ superblocks_of_class d s

-- an address with no block of a class and no long block is not in the ledger, of a class or of none
none_at : (s : State) (ledger : List Entry) (a : ℕ) → Listed s ledger → ((d : ℕ) → d < class_count → live_at s a d ≡ 0) → long_at s a ≡ 0 → (d : ℕ)
    → d ≤ class_count → entries_at ledger a d ≡ 0
none_at s ledger a listed blocks long d l = go (dec_lt d class_count)
  where
    go : Dec (d < class_count) → entries_at ledger a d ≡ 0
    go (yes h) = listed.blocks a d h ∙ blocks d h
    go (no f) = let q : d ≡ class_count = omega (arith, le_of_not_below f) in rw q (listed.runs a ∙ long)

module _ (u : Setup) (s : State) (order : List ℕ) (ledger : List Entry) (peak : ℕ → ℕ) (g : ListInvariant u s order ledger peak) where
  -- a refused call changes nothing, and adds nothing to the ledger
  list_invariant_after_refusal : ListInvariant u s order ledger (peak_with peak ledger)
  list_invariant_after_refusal = list_invariant_next u s s order order ledger ledger peak g refl g.passed g.shape g.listed g.names
      (λ c l. inl (le_refl (superblocks_of_class c s)))

  refused_changes_no_owner : (r : ℕ) → RefusedOwnerChanges (owners_changed s s) (Refused r)
  refused_changes_no_owner r m e = owners_changed_self s

  refused_free_changes_no_owner : (most r : ℕ) (run : Bool) → FreeOwnerChanges most (owners_changed s s) (passed_between_heaps s s) run (Refused r)
  refused_free_changes_no_owner most r run =
      let none = none_passed_between_heaps s s (λ k l. inl refl) in (
        omega arith,
        λ m e. absurd (Refused_and_Moves_differ (Refused r) r m refl e),
        refused_changes_no_owner r,
        λ e. owners_changed_self s ∙ sym none,
      )

  after_refused_call : (r : ℕ) (call : Call) → AfterCall u s ledger peak call (refused r s order)
  unfolding OwnerChanges ledger_after after_take after_free
  after_refused_call r (Take i size) = record { owner_changes = refused_changes_no_owner r; invariant = list_invariant_after_refusal }
  after_refused_call r (Free i a) = record { owner_changes = refused_free_changes_no_owner u.q r _; invariant = list_invariant_after_refusal }
  after_refused_call r (NamedTake i m size) = record { owner_changes = refused_changes_no_owner r; invariant = list_invariant_after_refusal }
  after_refused_call r (NamedFree i m) = record { owner_changes = refused_free_changes_no_owner u.q r _; invariant = list_invariant_after_refusal }
  after_refused_call r (Drop i addresses) =
      record { owner_changes = refused_free_changes_no_owner (u.q * length addresses) r _; invariant = list_invariant_after_refusal }

  numbers : WithinLimits s.setup
  numbers = g.passed.sound.numbers

  -- ---- an accepted take
  -- of a block of a class, by heap i
  taken_of_take : (i size k j : ℕ) (after : After) → size ≤ 2048 → i ≤ s.setup.processors → TakeEffect i (class_of size) k j s after.answer.state
      → after.answer.outcome ≡ Address (address_of k (class_of size) j)
      → Shape after.answer.state → Passed after.answer.state after.order → Taken s ledger size (address_of k (class_of size) j) k j after
  taken_of_take i size k j after small processor effect address shape passed =
      record {
        below = below;
        address = address;
        setup = effect.setup;
        shape = shape;
        passed = passed;
        block = block_taken_of_take i (class_of size) k j s after.answer.state order g.shape g.passed effect;
        none_before = none_at s ledger (address_of k (class_of size) j) g.listed
            (live_at_before_is_zero (class_of size) k j s after.answer.state more)
            (long_at_before_is_zero (class_of size) k j s after.answer.state more);
        listed = λ name. listed_added (class_of size) k j s after.answer.state more ledger
            (record { address = address_of k (class_of size) j; size = size; name = name }) refl refl g.listed;
        long = λ name l. absurd (let z : ⊥ = omega arith in z);
        owned = λ c l. owned c (ℕ_discrete c (class_of size));
      }
    where
      below : k < 64
      below = omega (arith, effect.below, numbers.superblocks_high)

      more : OneMoreLive (class_of size) k j s after.answer.state
      more = one_more_live_of_take i (class_of size) k j s after.answer.state below (omega (arith, processor, numbers.processors_high)) effect

      owned : (c : ℕ) → Dec (c ≡ class_of size) → (superblocks_of_class c after.answer.state ≤ superblocks_of_class c s)
          ⊎ (superblocks_of 0 c after.answer.state ≡ 0)
      owned c (yes e) = rw e effect.owned_of_class
      owned c (no f) = inl (effect.owned_of_others c f)

  -- of a long block
  taken_of_long_take : (size k : ℕ) (after : After) → 2048 < size → LongTakeEffect k (run_length size) s after.answer.state → after.answer.outcome
      ≡ Address (k * 4096)
      → Shape after.answer.state → Passed after.answer.state after.order → Taken s ledger size (k * 4096) k 0 after
  taken_of_long_take size k after large effect address shape passed =
      record {
        below = more.below;
        address = address;
        setup = effect.setup;
        shape = shape;
        passed = passed;
        block = block_taken_of_long_take k (run_length size) s after.answer.state order g.shape g.passed effect;
        none_before = none_at s ledger (k * 4096) g.listed (live_at_run_is_zero k s after.answer.state more ledger)
            (long_at_before_run_is_zero k s after.answer.state more);
        listed = λ name. listed_long_added k s after.answer.state more ledger (record { address = k * 4096; size = size; name = name }) refl
            (class_of_too_large size large) g.listed;
        long = λ name l. long_take_entry_is_run k size name s after.answer.state in_table effect;
        owned = λ c l. inl (effect.owned c);
      }
    where
      in_table : k + run_length size ≤ 64
      in_table = omega (arith, effect.below, numbers.superblocks_high)

      more : OneMoreLong k s after.answer.state
      more = one_more_long_of_take k (run_length size) s after.answer.state in_table effect

  -- plain or named: the block in the ledger with its size and name
  module _ (size a k j : ℕ) (after : After) (taken : Taken s ledger size a k j after) where
    taken_changes_owners : RefusedOwnerChanges (owners_changed s after.answer.state) after.answer.outcome
    taken_changes_owners r e = absurd (Refused_and_Address_differ after.answer.outcome r a e taken.address)

    abbrev entry_of : Name → Entry
    entry_of name = record { address = a; size = size; name = name }

    list_invariant_after_take : (name : Name) → EachEntry (EntryAgrees after.answer.state) (entry_of name ∷ ledger)
        → ListInvariant u after.answer.state after.order (entry_of name ∷ ledger) (peak_with peak (entry_of name ∷ ledger))
    list_invariant_after_take name names =
        list_invariant_next u s after.answer.state order after.order ledger (entry_of name ∷ ledger) peak g taken.setup taken.passed
        taken.shape (taken.listed name) names taken.owned

    after_plain_take : (i : ℕ) → after.answer.state.names ≡ s.names → AfterCall u s ledger peak (Take i size) after
    unfolding OwnerChanges ledger_after after_take
    after_plain_take i same = record { owner_changes = taken_changes_owners; invariant = rw taken.address (list_invariant_after_take unnamed names) }
      where
        names : EachEntry (EntryAgrees after.answer.state) (entry_of unnamed ∷ ledger)
        names =
            each_entry_cons (EntryAgrees after.answer.state) (entry_of unnamed) ledger
            (plain_take_entry_agrees a k j s after.answer.state taken.block same size (taken.long unnamed))
            (each_entry_map (EntryAgrees s) (EntryAgrees s) (EntryAgrees after.answer.state) ledger
            (λ e h _. plain_take_keeps_agreement a k j s after.answer.state taken.block same e h) g.names g.names)

    after_named_take : (i m : ℕ) → is_unavailable s m ≡ false → after.answer.state.names ≡ with_name s.names m (block_number k j)
        → AfterCall u s ledger peak (NamedTake i m size) after
    unfolding OwnerChanges ledger_after after_take
    after_named_take i m available same =
        record { owner_changes = taken_changes_owners; invariant = rw taken.address (list_invariant_after_take (named m) names) }
      where
        names : EachEntry (EntryAgrees after.answer.state) (entry_of (named m) ∷ ledger)
        names =
            let free = facts_of_available s m available in
            each_entry_cons (EntryAgrees after.answer.state) (entry_of (named m)) ledger
            (named_take_entry_agrees a k j s after.answer.state taken.block m free.0 free.1 g.shape.names_length same taken.below size
            (taken.long (named m)))
            (each_entry_map (λ e. e.address ≡ a → ⊥) (EntryAgrees s) (EntryAgrees after.answer.state) ledger
            (λ e apart h. named_take_keeps_agreement a k j s after.answer.state taken.block m free.0 free.1 g.shape.names_length same e
            apart h)
            (no_entry_at a ledger taken.none_before) g.names)

  after_accepted_take : (i size k : ℕ) → TakeAccepted s order i size k → AfterCall u s ledger peak (Take i size) (take_of s order i size)
  after_accepted_take i size k acc =
      after_plain_take size (address_of k (class_of size) (taken_block s order i size k g.shape acc)) k (taken_block s order i size k g.shape acc)
      (take_of s order i size)
      (taken_of_take i size k (taken_block s order i size k g.shape acc) (take_of s order i size) acc.size_le_2048 acc.processor.1
      (take_effect s order i size k g.shape acc)
      (take_address s order i size k g.shape acc) (take_shape s order i size k g.shape acc) (take_passed s order i size k g.shape acc))
      i (take_names s order i size k g.shape acc)

  after_accepted_long_take : (i size k : ℕ) → LongTakeAccepted s order i size k → AfterCall u s ledger peak (Take i size) (take_of s order i size)
  after_accepted_long_take i size k acc =
      after_plain_take size (k * 4096) k 0 (take_of s order i size)
      (taken_of_long_take size k (take_of s order i size) acc.size_above_2048 (long_take_effect s order i size k g.shape acc)
      (long_take_address s order i size k g.shape acc)
      (long_take_shape s order i size k g.shape acc) (long_take_passed s order i size k g.shape acc))
      i (long_take_names s order i size k g.shape acc)

  after_accepted_named_take : (i m size k : ℕ) → NamedTakeAccepted s order i m size k → AfterCall u s ledger peak (NamedTake i m size)
      (named_take_of s order i m size)
  after_accepted_named_take i m size k acc =
      after_named_take size (address_of k (class_of size) (named_taken_block s order i m size k g.shape acc)) k
      (named_taken_block s order i m size k g.shape acc) (named_take_of s order i m size)
      (taken_of_take i size k (named_taken_block s order i m size k g.shape acc) (named_take_of s order i m size) acc.taken.size_le_2048
      acc.taken.processor.1 (named_take_effect s order i m size k g.shape acc)
      (named_take_address s order i m size k g.shape acc) (named_take_shape s order i m size k g.shape acc)
      (named_take_passed s order i m size k g.shape acc))
      i m acc.available (named_take_names s order i m size k g.shape acc)

  after_accepted_named_long_take : (i m size k : ℕ) → NamedLongTakeAccepted s order i m size k → AfterCall u s ledger peak (NamedTake i m size)
      (named_take_of s order i m size)
  after_accepted_named_long_take i m size k acc =
      after_named_take size (k * 4096) k 0 (named_take_of s order i m size)
      (taken_of_long_take size k (named_take_of s order i m size) acc.taken.size_above_2048 (named_long_take_effect s order i m size k g.shape acc)
      (named_long_take_address s order i m size k g.shape acc)
      (named_long_take_shape s order i m size k g.shape acc) (named_long_take_passed s order i m size k g.shape acc))
      i m acc.available (named_long_take_names s order i m size k g.shape acc)

  -- ---- an accepted free
  -- of a block of a class
  freed_of_free : (i a : ℕ) (acc : FreeAccepted s order i a) → Freed s ledger a (moves s order i a g.shape acc) (free_of s order i a)
  freed_of_free i a acc =
      record {
        outcome = free_outcome s order i a g.shape acc;
        setup = effect.setup;
        shape = free_shape s order i a g.shape acc;
        passed = free_passed s order i a g.shape acc;
        listed =
            subst (λ (b : ℕ). Listed (free_of s order i a).answer.state (removed (is_at b) ledger)) (sym (free_address s order i a g.shape acc))
            (listed_removed c (superblock_index a) (block_of s a) (free_of s order i a).answer.state s one_live_less ledger g.listed);
        names =
            subst (λ (b : ℕ). EachEntry (EntryAgrees (free_of s order i a).answer.state) (removed (is_at b) ledger))
            (sym (free_address s order i a g.shape acc))
            (agreement_after_free (address_of (superblock_index a) c (block_of s a)) (superblock_index a) (block_of s a) s (free_of s order i a).answer.state
            g.shape.length_is g.passed.names
            (block_let_go_of_free c (superblock_index a) (block_of s a) (moves s order i a g.shape acc) s (free_of s order i a).answer.state effect)
            (free_names s order i a g.shape acc) ledger g.names);
        passed_between_heaps_lem = free_passed_between_heaps c (superblock_index a) (block_of s a) (moves s order i a g.shape acc) s
            (free_of s order i a).answer.state effect;
        changed = λ none. effect.changed;
        moves_le_q = effect.moves_le_q;
        owned = effect.owned;
      }
    where
      c : ℕ
      c = (superblock_holding s a).class

      effect : FreeEffect (superblock_holding s a).class (superblock_index a) (block_of s a) (moves s order i a g.shape acc) s
          (free_of s order i a).answer.state
      effect = free_effect s order i a g.shape acc

      one_live_less : OneMoreLive (superblock_holding s a).class (superblock_index a) (block_of s a) (free_of s order i a).answer.state s
      one_live_less =
          one_more_live_of_free (superblock_holding s a).class (superblock_index a) (block_of s a) (moves s order i a g.shape acc) s
          (free_of s order i a).answer.state
          (omega (arith, effect.below, numbers.superblocks_high)) effect

  -- of a long block: "Its free line has moved 0"
  freed_of_long_free : (i a : ℕ) (acc : LongFreeAccepted s order i a) → Freed s ledger a 0 (free_of s order i a)
  freed_of_long_free i a acc =
      record {
        outcome = long_free_outcome s order i a g.shape acc;
        setup = effect.setup;
        shape = long_free_shape s order i a g.shape acc;
        passed = long_free_passed s order i a g.shape acc;
        listed =
            subst (λ (b : ℕ). Listed (free_of s order i a).answer.state (removed (is_at b) ledger)) (sym (long_free_address s order i a g.shape acc))
            (listed_long_removed (superblock_index a) (free_of s order i a).answer.state s
            (one_more_long_of_free (superblock_index a) (superblock_holding s a).run s (free_of s order i a).answer.state effect) ledger g.listed);
        names =
            subst (λ (b : ℕ). EachEntry (EntryAgrees (free_of s order i a).answer.state) (removed (is_at b) ledger))
            (sym (long_free_address s order i a g.shape acc))
            (agreement_after_free (superblock_index a * 4096) (superblock_index a) 0 s (free_of s order i a).answer.state g.shape.length_is
            g.passed.names
            (block_let_go_of_long_free (superblock_index a) (superblock_holding s a).run s (free_of s order i a).answer.state order
            g.passed.sound effect) (long_free_names s order i a g.shape acc) ledger g.names);
        passed_between_heaps_lem = effect.passed_between_heaps_lem;
        changed = λ none.
            absurd (run_start_is_long s ledger a (superblock_index a) (superblock_holding s a).run g.listed effect.run_before
            (long_free_address s order i a g.shape acc) none);
        moves_le_q = omega arith;
        owned = effect.owned;
      }
    where
      effect : LongFreeEffect (superblock_index a) (superblock_holding s a).run s (free_of s order i a).answer.state
      effect = long_free_effect s order i a g.shape acc

  module _ (a moves : ℕ) (after : After) (freed : Freed s ledger a moves after) where
    freed_changes_owners : (run : Bool) → (run ≡ false → some_entry (long_where (is_at a)) ledger ≡ false)
        → FreeOwnerChanges u.q (owners_changed s after.answer.state) (passed_between_heaps s after.answer.state) run after.answer.outcome
    freed_changes_owners run none = (
      omega (arith, freed.passed_between_heaps_lem, freed.moves_le_q, ap (λ (v : Setup). v.q) g.setup),
      λ m e. freed.passed_between_heaps_lem ∙ Moves_equal after.answer.outcome moves m freed.outcome e,
      λ r e. absurd (Refused_and_Moves_differ after.answer.outcome r moves e freed.outcome),
      λ e. freed.changed (none e) ∙ sym freed.passed_between_heaps_lem,
    )

    abbrev without_freed : List Entry
    without_freed = removed (is_at a) ledger

    list_invariant_after_free : ListInvariant u after.answer.state after.order without_freed (peak_with peak without_freed)
    list_invariant_after_free =
        list_invariant_next u s after.answer.state order after.order ledger without_freed peak g freed.setup freed.passed freed.shape
        freed.listed freed.names (λ c l. inl (le_of_eq (freed.owned c)))

    after_plain_free : (i : ℕ) → AfterCall u s ledger peak (Free i a) after
    unfolding OwnerChanges frees_run ledger_after after_free
    after_plain_free i = record { owner_changes = freed_changes_owners _ (λ e. e); invariant = rw freed.outcome list_invariant_after_free }

    -- by a name that holds the address
    after_named_free : (i m : ℕ) → T (is_held s.names m) → held_address s m ≡ a → AfterCall u s ledger peak (NamedFree i m) after
    unfolding OwnerChanges frees_run ledger_after after_free
    after_named_free i m held e =
        let same : removed (has_name m) ledger ≡ without_freed = removed_by_name_is_removed_by_address s ledger m g.names held
        ∙ ap (λ (b : ℕ). removed (is_at b) ledger) e in
        let run : frees_run ledger (NamedFree i m) ≡ some_entry (long_where (is_at a)) ledger =
        some_entry_cong (long_where (has_name m)) (long_where (is_at a)) ledger
        (each_entry_map (EntryAgrees s) (EntryAgrees s) (λ x. long_where (has_name m) x ≡ long_where (is_at a) x) ledger
        (λ x h _. ap (λ (t : Bool). both t (is_long x.size)) (name_is_at_address s m x h held ∙ ap (λ (b : ℕ). is_at b x) e)) g.names g.names) in
        record { owner_changes = freed_changes_owners _ (λ none. sym run ∙ none); invariant = rw (freed.outcome, same) list_invariant_after_free }

  after_accepted_free : (i a : ℕ) → FreeAccepted s order i a → AfterCall u s ledger peak (Free i a) (free_of s order i a)
  after_accepted_free i a acc = after_plain_free a (moves s order i a g.shape acc) (free_of s order i a) (freed_of_free i a acc) i

  after_accepted_long_free : (i a : ℕ) → LongFreeAccepted s order i a → AfterCall u s ledger peak (Free i a) (free_of s order i a)
  after_accepted_long_free i a acc = after_plain_free a 0 (free_of s order i a) (freed_of_long_free i a acc) i

  after_accepted_named_free : (i m : ℕ) → NamedFreeAccepted s order i m → AfterCall u s ledger peak (NamedFree i m) (named_free_of s order i m)
  after_accepted_named_free i m acc =
      let a : ℕ = held_address s m in
      rw acc.result_is (after_named_free a (moves s order i a g.shape acc.freed) (free_of s order i a) (freed_of_free i a acc.freed) i m
      acc.held refl)

  after_accepted_named_long_free : (i m : ℕ) → NamedLongFreeAccepted s order i m → AfterCall u s ledger peak (NamedFree i m) (named_free_of s order i m)
  after_accepted_named_long_free i m acc =
      let a : ℕ = held_address s m in
      rw acc.result_is (after_named_free a 0 (free_of s order i a) (freed_of_long_free i a acc.freed) i m acc.held refl)

  -- ---- an accepted drop
  module _ (i : ℕ) (addresses : List ℕ) (acc : DropAccepted s order i addresses) where
    abbrev dropped : After
    dropped = drop_of s order i addresses

    abbrev without_dropped : List Entry
    without_dropped = removed (is_at_one_of addresses) ledger

    abbrev left : State
    left = (drop_moves s addresses).state

    effect_of_drop : DropEffect addresses (drop_moves s addresses).moves s dropped.answer.state
    effect_of_drop = drop_effect s order i addresses g.shape acc

    drop_changes_owners :
        FreeOwnerChanges (u.q * length addresses) (owners_changed s dropped.answer.state) (passed_between_heaps s dropped.answer.state)
        (frees_run ledger (Drop i addresses)) dropped.answer.outcome
    unfolding frees_run
    drop_changes_owners =
        let answered = drop_outcome s order i addresses g.shape acc in (
          subst (λ (v : Setup). passed_between_heaps s dropped.answer.state ≤ v.q * length addresses) g.setup
              (le_trans (le_of_eq effect_of_drop.passed_between_heaps_lem) effect_of_drop.moves_bound),
          λ m e. effect_of_drop.passed_between_heaps_lem ∙ Moves_equal dropped.answer.outcome (drop_moves s addresses).moves m answered e,
          λ r e. absurd (Refused_and_Moves_differ dropped.answer.outcome r (drop_moves s addresses).moves e answered),
          λ none.
              subst (λ (t : State). owners_changed s t ≡ passed_between_heaps s t) (sym (drop_state_is s order i addresses g.shape acc))
              (drop_changes_passed_owners s order addresses ledger g.shape acc.passed acc.no_refusal
              (record { listed = g.listed; names = g.names }) none),
        )

    -- the frees, and the moves after them
    agreement_after_frees : Agreement (all_freed s addresses) without_dropped
    agreement_after_frees =
        all_freed_agreement (λ h c. 0) s order addresses ledger g.shape (passed_after_no_frees s order acc.passed) acc.no_refusal
        (record { listed = g.listed; names = g.names })

    agreement_after_drop : Agreement dropped.answer.state without_dropped
    agreement_after_drop =
        let frees = drop_frees s order addresses g.shape acc.passed acc.no_refusal in
        let moved = drop_transfers s order addresses g.shape acc.passed acc.no_refusal in
        subst (λ (t : State). Agreement t without_dropped) (sym (drop_state_is s order i addresses g.shape acc))
        (record {
          listed = listed_after_transfers (is_touched s addresses) (all_freed s addresses) left (drop_moves s addresses).moves moved without_dropped
              agreement_after_frees.listed;
          names =
              agreement_of_same_names_and_classes (all_freed s addresses) left frees.shape.length_is
              (dropped_shape s order addresses g.shape acc.passed acc.no_refusal).length_is moved.names
              (transfers_runs (is_touched s addresses) (all_freed s addresses) left (drop_moves s addresses).moves moved)
              (transfers_class (is_touched s addresses) (all_freed s addresses) left (drop_moves s addresses).moves moved) without_dropped
              agreement_after_frees.names;
        })

    after_accepted_drop : AfterCall u s ledger peak (Drop i addresses) dropped
    unfolding OwnerChanges ledger_after after_free
    after_accepted_drop =
        record {
          owner_changes = drop_changes_owners;
          invariant = rw (drop_outcome s order i addresses g.shape acc)
              (list_invariant_next u s dropped.answer.state order dropped.order ledger without_dropped peak g
              effect_of_drop.setup (drop_passed s order i addresses g.shape acc) (drop_shape s order i addresses g.shape acc)
              agreement_after_drop.listed agreement_after_drop.names
              (λ c l. inl (le_of_eq (effect_of_drop.owned c))));
        }

  -- ---- whatever the call
  refused_or : (call : Call) → ((r : ℕ) × (call_of s order call ≡ refused r s order)) → AfterCall u s ledger peak call (call_of s order call)
  refused_or call h = subst (AfterCall u s ledger peak call) (sym h.1) (after_refused_call h.0 call)

  pub after_call : (call : Call) → AfterCall u s ledger peak call (call_of s order call)
  unfolding call_of
  after_call (Take i size) =
      ⊎_elim (refused_or (Take i size)) (⊎_elim (λ h. after_accepted_take i size h.0 h.1) (λ h. after_accepted_long_take i size h.0 h.1))
      (take_refused_or_accepted s order i size)
  after_call (Free i a) = ⊎_elim (refused_or (Free i a)) (⊎_elim (after_accepted_free i a) (after_accepted_long_free i a))
      (free_refused_or_accepted s order i a)
  after_call (NamedTake i m size) =
      ⊎_elim (refused_or (NamedTake i m size))
      (⊎_elim (λ h. after_accepted_named_take i m size h.0 h.1) (λ h. after_accepted_named_long_take i m size h.0 h.1))
      (named_take_refused_or_accepted s order i m size)
  after_call (NamedFree i m) = ⊎_elim (refused_or (NamedFree i m)) (⊎_elim (after_accepted_named_free i m) (after_accepted_named_long_free i m))
      (named_free_refused_or_accepted s order i m)
  after_call (Drop i addresses) = ⊎_elim (refused_or (Drop i addresses)) (λ h. after_accepted_drop i addresses h) (drop_refused_or_accepted s order i addresses)

  -- the same of a step of a list
  pub after_step : (step : Step) → step.after ≡ call_of s order step.call → AfterCall u s ledger peak step.call step.after
  after_step step e = subst (AfterCall u s ledger peak step.call) (sym e) (after_call step.call)
