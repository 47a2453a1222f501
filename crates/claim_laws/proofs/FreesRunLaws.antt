-- Whether a free frees a long block, as the ledger before it tells: where it has none at the addresses, no run is freed, and the owners that change are
-- those that pass between heaps. Assumes nothing.
use mathlib.Core.Path.{◌≡◌, refl, sym, ap, ap₂, ◌∙◌}
use mathlib.Core.Bool.{Bool, true, false}
use mathlib.Core.Logic.{◌⊎◌, inl, inr}
use mathlib.Core.List.{List, [], ◌∷◌}
use Prim.Native.Nat.{ℕ, ◌*◌, ◌<◌}
use native.Mathlib.Omega.{arith}
use borrow.Author.Tests.{ne_eqb}
use lib.Dec.{T, eqb}
use Rattle.base_laws.specs.Sums.{pick, both, either, one}
use Rattle.base_laws.proofs.TestLaws.{not_T_of_false, false_of_not_T, both_left, both_right, both_make, either_left, either_right, neither_left, neither_right}
use Rattle.class_rules.specs.Classes.{class_count, is_long}
use Rattle.class_rules.proofs.ClassLaws.{class_of_lt_27, le_2048_of_not_long}
use Rattle.heap_rules.specs.declared.Superblock.{Superblock}
use Rattle.heap_rules.specs.declared.State.{State}
use Rattle.heap_rules.specs.Table.{run_owner, superblock_at, with_owner}
use Rattle.heap_rules.specs.Counts.{owners_changed, passed_between_heaps}
use Rattle.heap_rules.specs.Runs.{RunAt}
use Rattle.heap_laws.proofs.StateFacts.{Shape}
use Rattle.heap_laws.proofs.PassedBetweenHeapsLaws.{passed_between_heaps_is_owners_changed}
use Rattle.call_rules.specs.Free.{superblock_index, superblock_holding, is_in_run, address_refusal, order_pushed, block_freed}
use Rattle.call_rules.specs.Drop.{all_freed, first_address_refusal, is_touched, drop_moves}
use Rattle.call_laws.proofs.CallEffects.{Passed, PassedAfterFrees}
use Rattle.call_laws.proofs.BlockFreedLaws.{small_block_freed_owner}
use Rattle.call_laws.proofs.RunFreedLaws.{freed_run_address, freed_run}
use Rattle.call_laws.proofs.AddressFreedLaws.{address_freed, block_freed_outside_run}
use Rattle.call_laws.proofs.AllFreedLaws.{first_refusal_of_cons}
use Rattle.call_laws.proofs.TransferredLaws.{passed_after_no_frees}
use Rattle.call_laws.proofs.DropLaws.{drop_transfers}
use Rattle.claim_rules.specs.Ledger.{Entry, class_of_entry, is_at, is_at_one_of, removed, some_entry, EachEntry, entries_at}
use Rattle.claim_laws.proofs.OneMoreLongLaws.{long_at_of_run}
use Rattle.claim_laws.proofs.LiveBlocksListedLaws.{Listed, Agreement, block_freed_agreement}
use Rattle.call_laws.proofs.TransferredLaws.{one_more_freed}

-- ---- some entry of a ledger
-- tests that agree on each entry are passed by some or by none
pub some_entry_cong : (f g : Entry → Bool) (ledger : List Entry) → EachEntry (λ e. f e ≡ g e) ledger → some_entry f ledger ≡ some_entry g ledger
unfolding EachEntry some_entry
some_entry_cong f g [] h = refl
some_entry_cong f g (e ∷ ledger) h = ap₂ either h.0 (some_entry_cong f g ledger h.1)

none_of_removed : (f test : Entry → Bool) (ledger : List Entry) → some_entry f ledger ≡ false → some_entry f (removed test ledger) ≡ false
unfolding some_entry removed
none_of_removed f test [] none = refl
none_of_removed f test (e ∷ ledger) none = go (test e) (none_of_removed f test ledger (neither_right (f e) (some_entry f ledger) none))
  where
    go : (t : Bool) → some_entry f (removed test ledger) ≡ false → some_entry f (pick t (removed test ledger) (e ∷ removed test ledger)) ≡ false
    go true rest = rest
    go false rest = ap₂ either (neither_left (f e) (some_entry f ledger) none) rest

-- ---- the long blocks at an address
-- a long block that passes the test
abbrev pub long_where : (Entry → Bool) → Entry → Bool
long_where test e = both (test e) (is_long e.size)

-- none that passes a test, so none that passes one that asks more
none_of_more_asked : (f g : Entry → Bool) → ((e : Entry) → T (g e) → T (f e)) → (ledger : List Entry) → some_entry (long_where f) ledger ≡ false
    → some_entry (long_where g) ledger ≡ false
unfolding some_entry
none_of_more_asked f g asks [] none = refl
none_of_more_asked f g asks (e ∷ ledger) none =
    ap₂ either (false_of_not_T (long_where g e) (λ t. not_T_of_false (long_where f e) (neither_left (long_where f e) (some_entry (long_where f) ledger) none)
    (both_make (f e) (is_long e.size) (asks e (both_left (g e) (is_long e.size) t)) (both_right (g e) (is_long e.size) t))))
    (none_of_more_asked f g asks ledger (neither_right (long_where f e) (some_entry (long_where f) ledger) none))

-- where none is long, none is of no class
none_of_no_class : (a : ℕ) (ledger : List Entry) → some_entry (long_where (is_at a)) ledger ≡ false → entries_at ledger a class_count ≡ 0
unfolding some_entry entries_at
none_of_no_class a [] none = refl
none_of_no_class a (e ∷ ledger) none =
    let first = here (is_at a e) (is_long e.size) (neither_left (long_where (is_at a) e) (some_entry (long_where (is_at a)) ledger) none) refl in
    omega (arith, none_of_no_class a ledger (neither_right (long_where (is_at a) e) (some_entry (long_where (is_at a)) ledger) none))
  where
    here : (x y : Bool) → both x y ≡ false → is_long e.size ≡ y → one (both x (eqb (class_of_entry e) class_count)) ≡ 0
    here true y none q =
        let small = class_of_lt_27 e.size (le_2048_of_not_long e.size (q ∙ none)) in
        ap one (ne_eqb (class_of_entry e) class_count (λ (p : class_of_entry e ≡ class_count). omega arith))
    here false y none q = refl

-- where a run of the state starts at the address, the ledger has a long block there
pub run_start_is_long : (s : State) (ledger : List Entry) (a k n : ℕ) → Listed s ledger → RunAt s k n → a ≡ k * 4096
    → some_entry (long_where (is_at a)) ledger ≡ false → ⊥
run_start_is_long s ledger a k n listed run at none =
    let absent : entries_at ledger (k * 4096) class_count ≡ 0 = ap (λ (b : ℕ). entries_at ledger b class_count) (sym at) ∙ none_of_no_class a ledger none in
    omega (arith, listed.runs (k * 4096), long_at_of_run s k n run)

-- ---- a drop with no long block at its addresses
-- its frees change no owner
owners_kept_by_frees : (freed : ℕ → ℕ → ℕ) (s : State) (order addresses : List ℕ) (ledger : List Entry) → Shape s → PassedAfterFrees freed s order
    → first_address_refusal s addresses ≡ 0 → Agreement s ledger → some_entry (long_where (is_at_one_of addresses)) ledger ≡ false
    → (m : ℕ) → m < 64 → (superblock_at (all_freed s addresses) m).owner ≡ (superblock_at s m).owner
unfolding all_freed is_at_one_of
owners_kept_by_frees freed s order [] ledger shape passed ok g none m l = refl
owners_kept_by_frees freed s order (a ∷ addresses) ledger shape passed ok g none m l =
    let first = first_refusal_of_cons s a addresses ok in
    let one = address_freed freed s order a shape passed first.0 in
    owners_kept_by_frees (one_more_freed (superblock_holding s a).owner (superblock_holding s a).class freed) (block_freed s a) (order_pushed s order a)
    addresses (removed (is_at a) ledger) one.shape one.passed first.1
    (block_freed_agreement freed s order a ledger shape passed first.0 g)
    (none_of_removed (long_where (is_at_one_of addresses)) (is_at a) ledger
    (none_of_more_asked (is_at_one_of (a ∷ addresses)) (is_at_one_of addresses) (λ e t. either_right (is_at a e) (is_at_one_of addresses e) t) ledger none)) m l
    ∙ kept first.0 (is_in_run s a) refl
  where
    kept : address_refusal s a ≡ 0 → (x : Bool) → is_in_run s a ≡ x → (superblock_at (block_freed s a) m).owner ≡ (superblock_at s m).owner
    kept accepted true inside =
        absurd (run_start_is_long s ledger a (superblock_index a) (superblock_holding s a).run g.listed
        (freed_run freed s order a shape passed accepted inside) (freed_run_address freed s order a shape passed accepted inside)
        (none_of_more_asked (is_at_one_of (a ∷ addresses)) (is_at a) (λ e t. either_left (is_at a e) (is_at_one_of addresses e) t) ledger none))
    kept accepted false outside =
        ap (λ (t : State). (superblock_at t m).owner) (block_freed_outside_run s a outside)
        ∙ small_block_freed_owner freed s order a shape passed accepted outside m l

-- so that the owners that it changes are those of the superblocks that its moves passed on
pub drop_changes_passed_owners : (s : State) (order addresses : List ℕ) (ledger : List Entry) → Shape s → Passed s order
    → first_address_refusal s addresses ≡ 0 → Agreement s ledger → some_entry (long_where (is_at_one_of addresses)) ledger ≡ false
    → owners_changed s (drop_moves s addresses).state ≡ passed_between_heaps s (drop_moves s addresses).state
drop_changes_passed_owners s order addresses ledger shape passed ok g none =
    sym (passed_between_heaps_is_owners_changed s (drop_moves s addresses).state
    (λ k l.
    go k (owners_kept_by_frees (λ h c. 0) s order addresses ledger shape (passed_after_no_frees s order passed) ok g none k l)
    ((drop_transfers s order addresses shape passed ok).each k l)))
  where
    before : State
    before = all_freed s addresses

    after : State
    after = (drop_moves s addresses).state

    go : (k : ℕ) → (superblock_at before k).owner ≡ (superblock_at s k).owner
        → (superblock_at after k ≡ superblock_at before k)
        ⊎ ((0 < (superblock_at before k).owner) × ((superblock_at before k).owner < run_owner)
        × T (is_touched s addresses (superblock_at before k).owner (superblock_at before k).class)
        × (superblock_at after k ≡ with_owner 0 (superblock_at before k)))
        → ((superblock_at after k).owner ≡ (superblock_at s k).owner) ⊎ (((superblock_at s k).owner < run_owner) × ((superblock_at after k).owner < run_owner))
    go k kept (inl e) = inl (ap (λ (b : Superblock). b.owner) e ∙ kept)
    go k kept (inr w) =
        let zero : (superblock_at after k).owner ≡ 0 = ap (λ (b : Superblock). b.owner) w.3 in
        inr (omega (arith, w.1), omega arith)
