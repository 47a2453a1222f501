-- The ledger lists the live blocks: after a block is taken, after one is freed, after several are, and after moves. Assumes nothing.
use mathlib.Core.Path.{◌≡◌, refl, sym, ap, ap₂, ◌∙◌, subst}
use mathlib.Core.Bool.{Bool, true, false}
use mathlib.Core.Logic.{◌⊎◌, inl, inr}
use mathlib.Core.List.{List, [], ◌∷◌}
use Prim.Native.Nat.{ℕ, ◌+◌, ◌*◌, ◌/◌, ◌<◌}
use native.Mathlib.Decide.{ℕ_discrete}
use native.Mathlib.Omega.{arith}
use borrow.Author.Tests.{eq-eqb, ne_eqb, lt-ltb}
use lib.Dec.{T, eqb}
use Rattle.base_laws.specs.Sums.{pick, both, either, one}
use Rattle.class_rules.specs.Classes.{class_count}
use Rattle.base_laws.proofs.TestLaws.{both_false_right, both_true_right, pick_elim, one_of_different}
use Rattle.marks_rules.specs.Marks.{mark_bit}
use Rattle.heap_rules.specs.declared.Superblock.{Superblock}
use Rattle.heap_rules.specs.declared.State.{State}
use Rattle.heap_rules.specs.Table.{run_owner, superblock_at, is_of_run, is_of_heap, with_owner}
use Rattle.heap_rules.specs.Counts.{is_owned_of_class, live_of_class}
use Rattle.heap_laws.proofs.StateFacts.{Shape, RunsKept}
use Rattle.heap_laws.proofs.RunsKeptLaws.{outside_run_of_owner}
use Rattle.call_rules.specs.Take.{address_of}
use Rattle.call_rules.specs.Free.{superblock_index, superblock_holding, block_of, is_in_run, address_refusal, order_pushed, small_block_freed, long_block_freed}
use Rattle.call_rules.specs.Free.{block_freed}
use Rattle.call_rules.specs.Drop.{all_freed, first_address_refusal}
use Rattle.call_laws.proofs.CallEffects.{PassedAfterFrees}
use Rattle.call_laws.proofs.BlockFreedLaws.{freed_address, freed_superblock_lt_64, small_block_freed_effect, small_block_freed_names}
use Rattle.call_laws.proofs.RunFreedLaws.{freed_run_address, long_block_freed_effect, long_block_freed_names}
use Rattle.call_laws.proofs.AddressFreedLaws.{address_freed}
use Rattle.call_laws.proofs.AllFreedLaws.{first_refusal_of_cons}
use Rattle.call_laws.proofs.DropTransfersLaws.{Transfers}
use Rattle.claim_rules.specs.Ledger.{Entry, class_of_entry, is_at, is_at_one_of, removed, entries_of, EachEntry, entries_at}
use Rattle.claim_laws.proofs.LedgerLaws.{entries_at_added, entries_of_added, entries_at_removed, entries_at_others_removed, entries_of_removed}
use Rattle.claim_laws.proofs.LongAtLaws.{long_at, long_at_of_kept}
use Rattle.claim_laws.proofs.LiveAtLaws.{live_for, live_at, live_at_same, live_at_none, OneMoreLive, live_at_before_is_zero, long_at_before_is_zero}
use Rattle.claim_laws.proofs.LiveAtLaws.{live_at_one_more, one_more_live_of_free}
use Rattle.claim_laws.proofs.OneMoreLongLaws.{OneMoreLong, long_at_before_run_is_zero, long_at_one_more, one_more_long_of_free}
use Rattle.claim_laws.proofs.LedgerNames.{EntryAgrees, block_let_go_of_free, block_let_go_of_long_free, agreement_after_free}
use Rattle.call_laws.proofs.TransferredLaws.{one_more_freed}

pub record Listed (s : State) (ledger : List Entry) : Type 0 where
  -- each block once, and nothing else
  pub blocks : (a c : ℕ) → c < class_count → entries_at ledger a c ≡ live_at s a c
  -- so that each class has as many entries as live blocks
  pub counted : (c : ℕ) → c < class_count → entries_of c ledger ≡ live_of_class c s
  -- each long block once, and nothing else that no class holds
  pub runs : (a : ℕ) → entries_at ledger a class_count ≡ long_at s a

module _ (c k j : ℕ) (s t : State) (one_more_live : OneMoreLive c k j s t) (ledger : List Entry) where
  pub listed_added : (e : Entry) → e.address ≡ address_of k c j → class_of_entry e ≡ c → Listed s ledger → Listed t (e ∷ ledger)
  listed_added e at class h =
      record {
        blocks = λ a d l.
            entries_at_added e ledger a d
            ∙ ap₂ (λ (x y : ℕ). entries_at ledger a d + one (both (eqb x a) (eqb y d))) at class
            ∙ ap (λ (x : ℕ). x + one (both (eqb (address_of k c j) a) (eqb c d))) (h.blocks a d l)
            ∙ sym (live_at_one_more c k j s t one_more_live a d l);
        counted = λ d l.
            entries_of_added e ledger d
            ∙ ap (λ (y : ℕ). entries_of d ledger + one (eqb y d)) class
            ∙ ap (λ (x : ℕ). x + one (eqb c d)) (h.counted d l)
            ∙ sym (one_more_live.live d);
        runs = λ a.
            let x = entries_at_added e ledger a class_count in
            let y : one (both (is_at a e) (eqb (class_of_entry e) class_count)) ≡ 0 =
            not_counted a e (ne_eqb (class_of_entry e) class_count (λ (q : class_of_entry e ≡ class_count). omega (arith, one_more_live.class_lt_27))) in
            omega (arith, h.runs a, one_more_live.long_same a);
      }
    where
      not_counted : (a : ℕ) (e : Entry) → eqb (class_of_entry e) class_count ≡ false → one (both (is_at a e) (eqb (class_of_entry e) class_count)) ≡ 0
      not_counted a e q = ap (λ (x : Bool). one (both (is_at a e) x)) q ∙ ap one (both_false_right (is_at a e))

  abbrev pub without_address : List Entry
  without_address = removed (is_at (address_of k c j)) ledger

  pub listed_removed : Listed t ledger → Listed s without_address
  listed_removed h = record {
    blocks = λ a d l. without a d l (ℕ_discrete (address_of k c j) a);
    counted = one_live_less;
    runs = λ a. long_blocks a (ℕ_discrete (address_of k c j) a);
  }
    where
      long_blocks : (a : ℕ) → Dec (address_of k c j ≡ a) → entries_at without_address a class_count ≡ long_at s a
      long_blocks a (yes e) =
          ap (λ (x : ℕ). entries_at without_address x class_count) (sym e)
          ∙ entries_at_removed (address_of k c j) ledger class_count
          ∙ sym (long_at_before_is_zero c k j s t one_more_live)
          ∙ ap (long_at s) e
      long_blocks a (no f) = entries_at_others_removed (address_of k c j) ledger a class_count f ∙ h.runs a ∙ one_more_live.long_same a

      without : (a d : ℕ) → d < class_count → Dec (address_of k c j ≡ a) → entries_at without_address a d ≡ live_at s a d
      without a d l (yes e) =
          ap (λ (x : ℕ). entries_at without_address x d) (sym e)
          ∙ entries_at_removed (address_of k c j) ledger d
          ∙ sym (live_at_before_is_zero c k j s t one_more_live d l)
          ∙ ap (λ (x : ℕ). live_at s x d) e
      without a d l (no f) =
          let x = entries_at_others_removed (address_of k c j) ledger a d f in
          let y = h.blocks a d l in
          let z = live_at_one_more c k j s t one_more_live a d l in
          let o : one (both (eqb (address_of k c j) a) (eqb c d)) ≡ 0 = ap (λ (x : Bool). one (both x (eqb c d))) (ne_eqb (address_of k c j) a f) in
          omega arith

      one_live_less : (d : ℕ) → d < class_count → entries_of d without_address ≡ live_of_class d s
      one_live_less d l =
          let x = entries_of_removed (address_of k c j) ledger d in
          let y = h.blocks (address_of k c j) d l in
          let z = live_at_one_more c k j s t one_more_live (address_of k c j) d l in
          let w = live_at_before_is_zero c k j s t one_more_live d l in
          let o : one (both (eqb (address_of k c j) (address_of k c j)) (eqb c d)) ≡ one (eqb c d) =
          ap (λ (x : Bool). one (both x (eqb c d))) (eq-eqb (address_of k c j) (address_of k c j) refl) in
          let n = h.counted d l in
          let v = one_more_live.live d in
          omega arith

-- ---- a long block taken or freed
module _ (k : ℕ) (s t : State) (one_more_long : OneMoreLong k s t) (ledger : List Entry) where
  -- the blocks of a class stay, and there is none where it starts
  live_at_kept : (a d : ℕ) → d < class_count → live_at t a d ≡ live_at s a d
  live_at_kept a d l = live_at_same s t a d l (one_more_long.blocks_same d)

  pub live_at_run_is_zero : (d : ℕ) → d < class_count → live_at s (k * 4096) d ≡ 0
  live_at_run_is_zero d l = live_at_none s (k * 4096) d l (λ b h. let q : k * 4096 / 4096 ≡ k = omega arith in rw q (one_more_long.no_class d b h))

  pub listed_long_added : (e : Entry) → e.address ≡ k * 4096 → class_of_entry e ≡ class_count → Listed s ledger → Listed t (e ∷ ledger)
  listed_long_added e at class h =
      record {
        blocks = λ a d l.
            let x = entries_at_added e ledger a d in
            let y : one (both (is_at a e) (eqb (class_of_entry e) d)) ≡ 0 = ap (λ (y : Bool). one (both (is_at a e) y)) (of_no_class d l)
            ∙ ap one (both_false_right (is_at a e)) in
            omega (arith, h.blocks a d l, live_at_kept a d l);
        counted = λ d l.
            let x = entries_of_added e ledger d in
            let y : one (eqb (class_of_entry e) d) ≡ 0 = ap one (of_no_class d l) in
            omega (arith, h.counted d l, one_more_long.live d);
        runs = λ a.
            entries_at_added e ledger a class_count
            ∙ ap₂ (λ (x y : ℕ). entries_at ledger a class_count + one (both (eqb x a) (eqb y class_count))) at class
            ∙ ap (λ (x : Bool). entries_at ledger a class_count + one x) (both_true_right (eqb (k * 4096) a))
            ∙ ap (λ (x : ℕ). x + one (eqb (k * 4096) a)) (h.runs a)
            ∙ sym (long_at_one_more k s t one_more_long a);
      }
    where
      of_no_class : (d : ℕ) → d < class_count → eqb (class_of_entry e) d ≡ false
      of_no_class d l = ne_eqb (class_of_entry e) d (λ (q : class_of_entry e ≡ d). omega arith)

  abbrev pub without_run : List Entry
  without_run = removed (is_at (k * 4096)) ledger

  pub listed_long_removed : Listed t ledger → Listed s without_run
  listed_long_removed h = record { blocks = λ a d l. same a d l (ℕ_discrete (k * 4096) a); counted = counted; runs = λ a. less a (ℕ_discrete (k * 4096) a) }
    where
      same : (a d : ℕ) → d < class_count → Dec (k * 4096 ≡ a) → entries_at without_run a d ≡ live_at s a d
      same a d l (yes e) = ap (λ (x : ℕ). entries_at without_run x d) (sym e) ∙ entries_at_removed (k * 4096) ledger d ∙ sym (live_at_run_is_zero d l)
          ∙ ap (λ (x : ℕ). live_at s x d) e
      same a d l (no f) = entries_at_others_removed (k * 4096) ledger a d f ∙ h.blocks a d l ∙ live_at_kept a d l

      counted : (d : ℕ) → d < class_count → entries_of d without_run ≡ live_of_class d s
      counted d l =
          omega (
            arith,
            entries_of_removed (k * 4096) ledger d,
            h.blocks (k * 4096) d l,
            live_at_kept (k * 4096) d l,
            live_at_run_is_zero d l,
            h.counted d l,
            one_more_long.live d,
          )

      less : (a : ℕ) → Dec (k * 4096 ≡ a) → entries_at without_run a class_count ≡ long_at s a
      less a (yes e) = ap (λ (x : ℕ). entries_at without_run x class_count) (sym e) ∙ entries_at_removed (k * 4096) ledger class_count
          ∙ sym (long_at_before_run_is_zero k s t one_more_long) ∙ ap (long_at s) e
      less a (no f) = omega (
        arith,
        entries_at_others_removed (k * 4096) ledger a class_count f,
        h.runs a,
        long_at_one_more k s t one_more_long a,
        one_of_different (k * 4096) a f,
      )

-- ---- several blocks freed, as a drop does
-- the ledger without each of the addresses, one after another, is the one without all of them
unfoldable removed_each : List ℕ → List Entry → List Entry
removed_each [] ledger = ledger
removed_each (a ∷ addresses) ledger = removed_each addresses (removed (is_at a) ledger)

removed_none : (ledger : List Entry) → removed (is_at_one_of []) ledger ≡ ledger
unfolding removed is_at_one_of
removed_none [] = refl
removed_none (e ∷ ledger) = ap (λ (l : List Entry). e ∷ l) (removed_none ledger)

removed_first : (a : ℕ) (addresses : List ℕ) (ledger : List Entry) → removed (is_at_one_of addresses) (removed (is_at a) ledger)
    ≡ removed (is_at_one_of (a ∷ addresses)) ledger
unfolding removed is_at_one_of
removed_first a addresses [] = refl
removed_first a addresses (e ∷ ledger) = go (is_at a e) (is_at_one_of addresses e) refl (removed_first a addresses ledger)
  where
    go : (x y : Bool) → is_at_one_of addresses e ≡ y → removed (is_at_one_of addresses) (removed (is_at a) ledger)
        ≡ removed (is_at_one_of (a ∷ addresses)) ledger
        → removed (is_at_one_of addresses) (pick x (removed (is_at a) ledger) (e ∷ removed (is_at a) ledger)) ≡ pick (either x (is_at_one_of addresses e))
        (removed (is_at_one_of (a ∷ addresses)) ledger) (e ∷ removed (is_at_one_of (a ∷ addresses)) ledger)
    go true y q ih = ih
    go false y q ih = ap (λ (l : List Entry). pick (is_at_one_of addresses e) l (e ∷ l)) ih

removed_each_is_removed : (addresses : List ℕ) (ledger : List Entry) → removed_each addresses ledger ≡ removed (is_at_one_of addresses) ledger
unfolding removed_each
removed_each_is_removed [] ledger = sym (removed_none ledger)
removed_each_is_removed (a ∷ addresses) ledger = removed_each_is_removed addresses (removed (is_at a) ledger) ∙ removed_first a addresses ledger

-- the ledger lists the blocks of a state, each with the name that the state has for it
pub record Agreement (s : State) (ledger : List Entry) : Type 0 where
  pub listed : Listed s ledger
  pub names : EachEntry (EntryAgrees s) ledger

-- one block freed, of a class or long
pub block_freed_agreement : (freed : ℕ → ℕ → ℕ) (s : State) (order : List ℕ) (a : ℕ) (ledger : List Entry) → Shape s → PassedAfterFrees freed s order
    → address_refusal s a ≡ 0 → Agreement s ledger → Agreement (block_freed s a) (removed (is_at a) ledger)
unfolding block_freed
block_freed_agreement freed s order a ledger shape passed ok g =
    pick_elim (λ (t : State). Agreement t (removed (is_at a) ledger)) (is_in_run s a) (long_block_freed s a) (small_block_freed s a) long small
  where
    k : ℕ
    k = superblock_index a

    small : is_in_run s a ≡ false → Agreement (small_block_freed s a) (removed (is_at a) ledger)
    small outside =
        let c = (superblock_holding s a).class in
        let j = block_of s a in
        let effect = small_block_freed_effect freed s order a shape passed ok outside in
        let less = one_more_live_of_free c k j 0 s (small_block_freed s a) (freed_superblock_lt_64 freed s order a shape passed ok outside) effect in
        subst (λ (b : ℕ). Agreement (small_block_freed s a) (removed (is_at b) ledger)) (sym (freed_address freed s order a shape passed ok outside))
        (record {
          listed = listed_removed c k j (small_block_freed s a) s less ledger g.listed;
          names = agreement_after_free (address_of k c j) k j s (small_block_freed s a) shape.length_is passed.names
              (block_let_go_of_free c k j 0 s (small_block_freed s a) effect) (small_block_freed_names freed s order a shape passed ok outside) ledger
              g.names;
        })

    long : is_in_run s a ≡ true → Agreement (long_block_freed s a) (removed (is_at a) ledger)
    long inside =
        let n = (superblock_holding s a).run in
        let effect = long_block_freed_effect freed s order a shape passed ok inside in
        subst (λ (b : ℕ). Agreement (long_block_freed s a) (removed (is_at b) ledger)) (sym (freed_run_address freed s order a shape passed ok inside))
        (record {
          listed = listed_long_removed k (long_block_freed s a) s (one_more_long_of_free k n s (long_block_freed s a) effect) ledger g.listed;
          names =
              agreement_after_free (k * 4096) k 0 s (long_block_freed s a) shape.length_is passed.names
              (block_let_go_of_long_free k n s (long_block_freed s a) order passed.sound effect)
              (long_block_freed_names freed s order a shape passed ok inside) ledger g.names;
        })

all_freed_each_removed : (freed : ℕ → ℕ → ℕ) (s : State) (order addresses : List ℕ) (ledger : List Entry) → Shape s → PassedAfterFrees freed s order
    → first_address_refusal s addresses ≡ 0 → Agreement s ledger
    → Agreement (all_freed s addresses) (removed_each addresses ledger)
unfolding all_freed removed_each
all_freed_each_removed freed s order [] ledger shape passed ok g = g
all_freed_each_removed freed s order (a ∷ addresses) ledger shape passed ok g =
    let first = first_refusal_of_cons s a addresses ok in
    let one = address_freed freed s order a shape passed first.0 in
    all_freed_each_removed (one_more_freed (superblock_holding s a).owner (superblock_holding s a).class freed) (block_freed s a) (order_pushed s order a)
    addresses (removed (is_at a) ledger) one.shape one.passed first.1
    (block_freed_agreement freed s order a ledger shape passed first.0 g)

-- all of a drop's
pub all_freed_agreement : (freed : ℕ → ℕ → ℕ) (s : State) (order addresses : List ℕ) (ledger : List Entry) → Shape s → PassedAfterFrees freed s order
    → first_address_refusal s addresses ≡ 0 → Agreement s ledger
    → Agreement (all_freed s addresses) (removed (is_at_one_of addresses) ledger)
all_freed_agreement freed s order addresses ledger shape passed ok g = subst (Agreement (all_freed s addresses)) (removed_each_is_removed addresses ledger)
    (all_freed_each_removed freed s order addresses ledger shape passed ok g)

-- ---- moves: a superblock that passes on keeps its class and its marks, and a heap owns it still
module _ (touched : ℕ → ℕ → Bool) (s t : State) (n : ℕ) (moved : Transfers touched s t n) where
  pub transfers_class : (k : ℕ) → k < 64 → (superblock_at t k).class ≡ (superblock_at s k).class
  transfers_class k l = go (moved.each k l)
    where
      go : (superblock_at t k ≡ superblock_at s k)
          ⊎ ((0 < (superblock_at s k).owner) × ((superblock_at s k).owner < run_owner) × T (touched (superblock_at s k).owner (superblock_at s k).class)
          × (superblock_at t k ≡ with_owner 0 (superblock_at s k)))
          → (superblock_at t k).class ≡ (superblock_at s k).class
      go (inl e) = ap (λ (b : Superblock). b.class) e
      go (inr w) = ap (λ (b : Superblock). b.class) w.3

  live_for_kept : (c k j : ℕ) → k < 64 → live_for c (superblock_at t k) j ≡ live_for c (superblock_at s k) j
  unfolding live_for is_owned_of_class is_of_heap
  live_for_kept c k j l = go (moved.each k l)
    where
      go : (superblock_at t k ≡ superblock_at s k)
          ⊎ ((0 < (superblock_at s k).owner) × ((superblock_at s k).owner < run_owner) × T (touched (superblock_at s k).owner (superblock_at s k).class)
          × (superblock_at t k ≡ with_owner 0 (superblock_at s k)))
          → live_for c (superblock_at t k) j ≡ live_for c (superblock_at s k) j
      go (inl e) = ap (λ (b : Superblock). live_for c b j) e
      go (inr w) =
          ap (λ (b : Superblock). live_for c b j) w.3
          ∙ ap (λ (x : Bool). pick (both x (eqb (superblock_at s k).class c)) (mark_bit (superblock_at s k).live j) 0)
          (sym (lt-ltb (superblock_at s k).owner run_owner w.1))

  -- none is of a run, and each carries what it did
  pub transfers_runs : RunsKept s t
  unfolding is_of_run
  transfers_runs k l = go (moved.each k l)
    where
      go : (superblock_at t k ≡ superblock_at s k)
          ⊎ ((0 < (superblock_at s k).owner) × ((superblock_at s k).owner < run_owner) × T (touched (superblock_at s k).owner (superblock_at s k).class)
          × (superblock_at t k ≡ with_owner 0 (superblock_at s k)))
          → (is_of_run (superblock_at t k) ≡ is_of_run (superblock_at s k)) × ((superblock_at t k).run ≡ (superblock_at s k).run)
      go (inl e) = (ap is_of_run e, ap (λ (b : Superblock). b.run) e)
      go (inr w) = (
        ap is_of_run w.3 ∙ sym (outside_run_of_owner (superblock_at s k) (λ (q : (superblock_at s k).owner ≡ run_owner). let l = w.1 in omega arith)),
        ap (λ (b : Superblock). b.run) w.3,
      )

  pub listed_after_transfers : (ledger : List Entry) → Listed s ledger → Listed t ledger
  listed_after_transfers ledger h =
      record {
        blocks = λ a c l. h.blocks a c l ∙ sym (live_at_same s t a c l (λ m b lm lb. live_for_kept c m b lm));
        counted = λ c l. h.counted c l ∙ sym (moved.live c);
        runs = λ a. h.runs a ∙ sym (long_at_of_kept s t transfers_runs a);
      }
