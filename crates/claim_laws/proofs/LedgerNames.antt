-- The names of the ledger, which come from the calls and their answers, and the names of the state agree: each block of the ledger has just the name
-- that the state has for it, and is a run of the state where it is long. Assumes nothing.
use mathlib.Core.Path.{◌≡◌, refl, sym, ap, ap₂, ◌∙◌, subst}
use mathlib.Core.Bool.{Bool, true, false}
use mathlib.Core.Logic.{◌⊎◌, inl, inr}
use mathlib.Core.List.{List, [], ◌∷◌}
use Prim.Native.Nat.{ℕ, ◌*◌, ◌/◌, ◌%◌, ◌≤◌, ◌<◌}
use native.Mathlib.Decide.{ℕ_discrete, dec_lt}
use native.Mathlib.Omega.{arith}
use borrow.Author.Tests.{eq-eqb, ne_eqb, eqb-false}
use lib.ListN.{length, get_or-eq_default}
use lib.Dec.{T, eqb}
use Rattle.base_laws.specs.Sums.{pick, both, one}
use Rattle.base_laws.proofs.Inequalities.{le_of_not_below}
use Rattle.base_laws.proofs.TestLaws.{T_of_true, true_of_T, both_false_right}
use Rattle.class_rules.specs.Classes.{class_count, blocks_of}
use Rattle.class_rules.proofs.ClassTableLaws.{blocks_of_le_256}
use Rattle.class_rules.proofs.ClassLaws.{class_of_le_27}
use Rattle.class_rules.proofs.OffsetLaws.{offset_injective}
use Rattle.marks_rules.specs.Marks.{mark_bit}
use Rattle.marks_laws.proofs.MarkLaws.{marks_clear_of_live_count_zero}
use Rattle.names_rules.specs.Names.{not_held, block_number, block_named, is_held, with_name, without_block}
use Rattle.names_laws.proofs.NameLaws.{held_facts, held_of_facts, held_cong, block_named_with_name, block_named_with_other_name, not_held_without_block}
use Rattle.names_laws.proofs.NameLaws.{block_named_without_other_block}
use Rattle.heap_rules.specs.declared.Superblock.{Superblock}
use Rattle.heap_rules.specs.declared.State.{State}
use Rattle.heap_rules.specs.Table.{run_owner, blank, superblock_at, live_in, is_of_run}
use Rattle.check_rules.specs.Check.{names_valid}
use Rattle.heap_laws.proofs.StateFacts.{Shape, SoundWith, RunsKept}
use Rattle.heap_laws.proofs.StateCheckLaws.{names_sound_of_valid, unowned_of_owner}
use Rattle.heap_laws.proofs.RunsKeptLaws.{owner_of_run}
use Rattle.heap_laws.proofs.RunChoiceLaws.{facts_of_is_available}
use Rattle.call_rules.specs.Take.{address_of}
use Rattle.call_rules.specs.Named.{held_address}
use Rattle.call_laws.proofs.CallEffects.{Passed, TakeEffect, FreeEffect, LongTakeEffect, LongFreeEffect}
use Rattle.call_laws.proofs.AddressLaws.{address_superblock, address_offset}
use Rattle.call_laws.proofs.NamesKeptLaws.{live_block_in_table}
use Rattle.call_laws.proofs.NamedCallLaws.{held_block_is_live, held_address_block}
use Rattle.call_laws.proofs.RunTakenLaws.{live_of_available, available_outside_run}
use Rattle.claim_rules.specs.Ledger.{named, unnamed, Entry, class_of_entry, is_at, is_called, has_name, removed, EachEntry, entries_at}
use Rattle.claim_laws.proofs.OneMoreLongLaws.{in_run_or_not}
use Rattle.claim_laws.proofs.LedgerRuns.{LongAgrees, long_agrees_of_kept, long_agrees_after_long_take, long_agrees_after_long_free}
use Rattle.heap_rules.specs.Runs.{InRun}
use Rattle.claim_rules.specs.NamesClaim.{holds_address}

-- ---- what is so of each entry
pub each_entry_map : (P Q R : Entry → Type 0) (ledger : List Entry) → ((e : Entry) → P e → Q e → R e) → EachEntry P ledger → EachEntry Q ledger
    → EachEntry R ledger
unfolding EachEntry
each_entry_map P Q R [] f h g = tt
each_entry_map P Q R (e ∷ ledger) f h g = (f e h.0 g.0, each_entry_map P Q R ledger f h.1 g.1)

pub each_entry_cons : (P : Entry → Type 0) (e : Entry) (ledger : List Entry) → P e → EachEntry P ledger → EachEntry P (e ∷ ledger)
unfolding EachEntry
each_entry_cons P e ledger h g = (h, g)

pub each_entry_empty : (P : Entry → Type 0) → EachEntry P []
unfolding EachEntry
each_entry_empty P = tt

each_entry_removed : (P Q : Entry → Type 0) (test : Entry → Bool) (ledger : List Entry) → ((e : Entry) → test e ≡ false → P e → Q e) → EachEntry P ledger
    → EachEntry Q (removed test ledger)
unfolding EachEntry removed
each_entry_removed P Q test [] f h = tt
each_entry_removed P Q test (e ∷ ledger) f h = go (test e) refl (each_entry_removed P Q test ledger f h.1)
  where
    go : (t : Bool) → test e ≡ t → EachEntry Q (removed test ledger) → EachEntry Q (pick t (removed test ledger) (e ∷ removed test ledger))
    go true q r = r
    go false q r = (f e q h.0, r)

-- tests that agree on each entry remove the same
removed_cong : (f g : Entry → Bool) (ledger : List Entry) → EachEntry (λ e. f e ≡ g e) ledger → removed f ledger ≡ removed g ledger
unfolding EachEntry removed
removed_cong f g [] h = refl
removed_cong f g (e ∷ ledger) h = ap₂ (λ (t : Bool) (l : List Entry). pick t l (e ∷ l)) h.0 (removed_cong f g ledger h.1)

-- ---- the state's name of a block
-- a block of the ledger that no class holds is a run of the state, and each has just the name that the state has for it
pub record EntryAgrees (s : State) (e : Entry) : Type 0 where
  pub long : 2048 < e.size → LongAgrees s e
  pub name_agrees : (m : ℕ) → has_name m e ≡ holds_address s m e.address

holds_address_of_held : (s : State) (m a : ℕ) → is_held s.names m ≡ true → holds_address s m a ≡ eqb a (held_address s m)
unfolding holds_address
holds_address_of_held s m a e = rw e

pub holds_address_of_not_held : (s : State) (m a : ℕ) → is_held s.names m ≡ false → holds_address s m a ≡ false
unfolding holds_address
holds_address_of_not_held s m a e = rw e

not_holds_of_other_address : (s : State) (m a : ℕ) → (a ≡ held_address s m → ⊥) → holds_address s m a ≡ false
unfolding holds_address
not_holds_of_other_address s m a f = rw (ne_eqb a (held_address s m) f) (both_false_right (is_held s.names m))

holds_address_cong : (s t : State) (m a : ℕ) → is_held t.names m ≡ is_held s.names m
    → (is_held s.names m ≡ true → held_address t m ≡ held_address s m) → holds_address t m a ≡ holds_address s m a
unfolding holds_address
holds_address_cong s t m a e f = go (is_held s.names m) e f
  where
    go : (h : Bool) → is_held t.names m ≡ h → (h ≡ true → held_address t m ≡ held_address s m) → both (is_held t.names m) (eqb a (held_address t m))
        ≡ both h (eqb a (held_address s m))
    go true q g = rw (q, g refl)
    go false q g = rw q

-- the held address goes by the name's number and the class of its superblock
held_address_cong : (s t : State) (m : ℕ) → block_named t.names m ≡ block_named s.names m → (superblock_at t (block_named s.names m / 256)).class
    ≡ (superblock_at s (block_named s.names m / 256)).class
    → held_address t m ≡ held_address s m
unfolding held_address
held_address_cong s t m e f = rw (e, f)

-- ---- a take of block j of superblock k, at address a: what the names of the ledger and the state go by
pub record BlockTaken (a k j : ℕ) (s t : State) : Type 0 where
  pub block : j < 256
  pub address : address_of k (superblock_at t k).class j ≡ a
  -- a name that is held keeps its superblock's class, and so its address, and is not at the address
  pub held_class : (m : ℕ) → T (is_held s.names m) → (superblock_at t (block_named s.names m / 256)).class
      ≡ (superblock_at s (block_named s.names m / 256)).class
  pub held_elsewhere : (m : ℕ) → T (is_held s.names m) → a ≡ held_address s m → ⊥
  -- and the long blocks stay
  pub long_kept : (e : Entry) → LongAgrees s e → LongAgrees t e

-- of a block of a class
module _ (i c k j : ℕ) (s t : State) (order : List ℕ) (shape : Shape s) (passed : Passed s order) (effect : TakeEffect i c k j s t) where
  -- a name that is held in superblock k is of a block that is live there, and so of class c; not of block j, which is not live
  held_in_superblock : (m : ℕ) → T (is_held s.names m) → block_named s.names m / 256 ≡ k → ((superblock_at s k).class ≡ c)
      × (block_named s.names m % 256 ≡ j → ⊥)
  held_in_superblock m held q = (class effect.before, λ r. omega (arith, effect.not_marked, ap (mark_bit (superblock_at s k).live) r, marked))
    where
      marked : mark_bit (superblock_at s k).live (block_named s.names m % 256) ≡ 1
      marked =
          ap (λ (n : ℕ). mark_bit (superblock_at s n).live (block_named s.names m % 256)) (sym q)
          ∙ (held_block_is_live s order shape passed m held (ap (λ (n : ℕ). is_of_run (superblock_at s n)) q ∙ effect.outside_run)).marked

      class : (live_in (superblock_at s k) ≡ 0) ⊎ (((superblock_at s k).class ≡ c) × ((superblock_at s k).owner < run_owner)) → (superblock_at s k).class ≡ c
      class (inl z) =
          let clear = marks_clear_of_live_count_zero (superblock_at s k).live z (block_named s.names m % 256) (omega arith) in
          absurd (let z : ⊥ = omega (arith, marked) in z)
      class (inr h) = h.0

  take_keeps_held_class : (m : ℕ) → T (is_held s.names m) → (superblock_at t (block_named s.names m / 256)).class
      ≡ (superblock_at s (block_named s.names m / 256)).class
  take_keeps_held_class m held = go (ℕ_discrete (block_named s.names m / 256) k)
    where
      go : Dec (block_named s.names m / 256 ≡ k) → (superblock_at t (block_named s.names m / 256)).class
          ≡ (superblock_at s (block_named s.names m / 256)).class
      go (yes q) = rw q (effect.class ∙ sym (held_in_superblock m held q).0)
      go (no f) = ap (λ (b : Superblock). b.class) (effect.others (block_named s.names m / 256) f)

  held_not_at_taken : (m : ℕ) → T (is_held s.names m) → address_of k c j ≡ held_address s m → ⊥
  unfolding held_address
  held_not_at_taken m held q =
      let home : block_named s.names m / 256 ≡ k = sym (held_address_block s order m shape passed held).0 ∙ ap (λ (a : ℕ). a / 4096) (sym q)
      ∙ address_superblock c k j effect.class_lt_27 effect.block in
      let there = held_in_superblock m held home in
      let live = held_block_is_live s order shape passed m held (ap (λ (n : ℕ). is_of_run (superblock_at s n)) home ∙ effect.outside_run) in
      let class : (superblock_at s (block_named s.names m / 256)).class ≡ c = ap (λ (n : ℕ). (superblock_at s n).class) home ∙ there.0 in
      let inside : block_named s.names m % 256 < blocks_of c = subst (λ (d : ℕ). block_named s.names m % 256 < blocks_of d) class live.block in
      there.1
      (offset_injective c effect.class_lt_27 (block_named s.names m % 256) j
      (sym (address_offset c k (block_named s.names m % 256) effect.class_lt_27 inside)
      ∙ ap (λ (a : ℕ). a % 4096) (ap₂ (λ (x d : ℕ). address_of x d (block_named s.names m % 256)) (sym home) (sym class) ∙ sym q)
      ∙ address_offset c k j effect.class_lt_27 effect.block))

  pub block_taken_of_take : BlockTaken (address_of k c j) k j s t
  block_taken_of_take =
      record {
        block = omega (arith, effect.block, blocks_of_le_256 c);
        address = ap (λ (d : ℕ). address_of k d j) effect.class;
        held_class = take_keeps_held_class;
        held_elsewhere = held_not_at_taken;
        long_kept = λ e h. long_agrees_of_kept s t e h effect.runs;
      }

-- of a long block
module _ (k n : ℕ) (s t : State) (order : List ℕ) (shape : Shape s) (passed : Passed s order) (effect : LongTakeEffect k n s t) where
  -- no name is held in the superblocks of its run: they had no live block
  held_outside_run : (m : ℕ) → T (is_held s.names m) → InRun k n (block_named s.names m / 256) → ⊥
  held_outside_run m held inside =
      let b : Superblock = superblock_at s (block_named s.names m / 256) in
      let available = facts_of_is_available b (effect.available (block_named s.names m / 256) inside) in
      let live = held_block_is_live s order shape passed m held (available_outside_run b available) in
      omega (arith, live.marked, marks_clear_of_live_count_zero b.live (live_of_available b available) (block_named s.names m % 256) (omega arith))

  pub block_taken_of_long_take : BlockTaken (k * 4096) k 0 s t
  unfolding address_of
  block_taken_of_long_take =
      record {
        block = omega arith;
        address = omega arith;
        held_class = λ m held. ap (λ (b : Superblock). b.class) (effect.others (block_named s.names m / 256) (held_outside_run m held));
        held_elsewhere = λ m held q.
            let home : block_named s.names m / 256 ≡ k = sym (held_address_block s order m shape passed held).0 ∙ ap (λ (a : ℕ). a / 4096) (sym q)
            ∙ (let z : k * 4096 / 4096 ≡ k = omega arith in z) in
            held_outside_run m held (omega arith, omega (arith, effect.some));
        long_kept = λ e h. long_agrees_after_long_take s t e h k n effect;
      }

-- ---- the names after it
module _ (a k j : ℕ) (s t : State) (taken : BlockTaken a k j s t) where
  take_keeps_held_address : (m : ℕ) → T (is_held s.names m) → block_named t.names m ≡ block_named s.names m → held_address t m ≡ held_address s m
  take_keeps_held_address m held e = held_address_cong s t m e (taken.held_class m held)

  -- no name that keeps its block holds the address
  not_held_at_taken : (m : ℕ) → block_named t.names m ≡ block_named s.names m → holds_address t m a ≡ false
  not_held_at_taken m same = go (is_held s.names m) refl
    where
      go : (h : Bool) → is_held s.names m ≡ h → holds_address t m a ≡ false
      go true q = not_holds_of_other_address t m a (λ r. taken.held_elsewhere m (T_of_true _ q) (r ∙ take_keeps_held_address m (T_of_true _ q) same))
      go false q = holds_address_of_not_held t m a (held_cong t.names s.names m same ∙ q)

  -- ---- a plain take
  module _ (names : t.names ≡ s.names) where
    same_block : (m : ℕ) → block_named t.names m ≡ block_named s.names m
    same_block m = ap (λ (l : List ℕ). block_named l m) names

    pub plain_take_keeps_agreement : (e : Entry) → EntryAgrees s e → EntryAgrees t e
    plain_take_keeps_agreement e h =
        record {
          long = λ l. taken.long_kept e (h.long l);
          name_agrees = λ m. h.name_agrees m
              ∙ sym (holds_address_cong s t m e.address (held_cong t.names s.names m (same_block m))
              (λ q. take_keeps_held_address m (T_of_true _ q) (same_block m)));
        }

    pub plain_take_entry_agrees : (size : ℕ) → (2048 < size → LongAgrees t (record { address = a; size = size; name = unnamed }))
        → EntryAgrees t (record { address = a; size = size; name = unnamed })
    unfolding is_called
    plain_take_entry_agrees size long = record { long = long; name_agrees = λ m. sym (not_held_at_taken m (same_block m)) }

  -- ---- a take that binds name n
  module _ (n : ℕ) (is_name_lem : n < 1024) (free : is_held s.names n ≡ false) (names_length : length s.names ≡ 1024)
      (names : t.names ≡ with_name s.names n (block_number k j)) where
    bound_block : block_named t.names n ≡ block_number k j
    bound_block = ap (λ (l : List ℕ). block_named l n) names ∙ block_named_with_name s.names n (block_number k j) (omega arith)

    other_block : (m : ℕ) → (m ≡ n → ⊥) → block_named t.names m ≡ block_named s.names m
    other_block m f = ap (λ (l : List ℕ). block_named l m) names ∙ block_named_with_other_name s.names n (block_number k j) m f

    bound_held : k < 64 → is_held t.names n ≡ true
    bound_held below = true_of_T _ (held_of_facts t.names n is_name_lem (λ (q : block_named t.names n ≡ not_held). omega (arith, bound_block, taken.block)))

    bound_address : held_address t n ≡ a
    unfolding held_address
    bound_address =
        let x : block_named t.names n / 256 ≡ k = omega (arith, bound_block, taken.block) in
        let y : block_named t.names n % 256 ≡ j = omega (arith, bound_block, taken.block) in
        rw (x, y) taken.address

    -- the entries before it, none of which is at the address
    pub named_take_keeps_agreement : (e : Entry) → (e.address ≡ a → ⊥) → EntryAgrees s e → EntryAgrees t e
    named_take_keeps_agreement e apart h = record { long = λ l. taken.long_kept e (h.long l); name_agrees = λ m. at m (ℕ_discrete m n) }
      where
        at : (m : ℕ) → Dec (m ≡ n) → has_name m e ≡ holds_address t m e.address
        at m (yes q) =
            rw q
            (h.name_agrees n ∙ holds_address_of_not_held s n e.address free
            ∙ sym (not_holds_of_other_address t n e.address (λ r. apart (r ∙ bound_address))))
        at m (no f) = h.name_agrees m
            ∙ sym (holds_address_cong s t m e.address (held_cong t.names s.names m (other_block m f))
            (λ q. take_keeps_held_address m (T_of_true _ q) (other_block m f)))

    pub named_take_entry_agrees : k < 64 → (size : ℕ) → (2048 < size → LongAgrees t (record { address = a; size = size; name = named n }))
        → EntryAgrees t (record { address = a; size = size; name = named n })
    unfolding is_called
    named_take_entry_agrees below size long = record { long = long; name_agrees = λ m. at m (ℕ_discrete m n) }
      where
        at : (m : ℕ) → Dec (m ≡ n) → eqb n m ≡ holds_address t m a
        at m (yes q) = rw q (eq-eqb n n refl ∙ sym (holds_address_of_held t n a (bound_held below) ∙ eq-eqb a (held_address t n) (sym bound_address)))
        at m (no f) = ne_eqb n m (λ q. f (sym q)) ∙ sym (not_held_at_taken m (other_block m f))

-- ---- no entry is where the ledger counts none
pub no_entry_at : (a : ℕ) (ledger : List Entry) → ((d : ℕ) → d ≤ class_count → entries_at ledger a d ≡ 0) → EachEntry (λ e. e.address ≡ a → ⊥) ledger
unfolding EachEntry entries_at
no_entry_at a [] none = tt
no_entry_at a (e ∷ ledger) none = (apart, no_entry_at a ledger (λ d l. omega (arith, none d l)))
  where
    apart : e.address ≡ a → ⊥
    apart q =
        let one : one (both (is_at a e) (eqb (class_of_entry e) (class_of_entry e))) ≡ 1 =
        rw (eq-eqb e.address a q, eq-eqb (class_of_entry e) (class_of_entry e) refl) in
        omega (arith, none (class_of_entry e) (class_of_le_27 e.size))

-- ---- a free of block j of superblock k, at address a
pub record BlockLetGo (a k j : ℕ) (s t : State) : Type 0 where
  pub block : j < 256
  pub address : address_of k (superblock_at s k).class j ≡ a
  pub classes : (m : ℕ) → m < 64 → (superblock_at t m).class ≡ (superblock_at s m).class
  -- the long blocks elsewhere stay
  pub long_kept : (e : Entry) → (e.address ≡ a → ⊥) → LongAgrees s e → LongAgrees t e

-- of a block of a class
pub block_let_go_of_free : (c k j moves : ℕ) (s t : State) → FreeEffect c k j moves s t → BlockLetGo (address_of k c j) k j s t
block_let_go_of_free c k j moves s t effect =
    record {
      block = omega (arith, effect.block, blocks_of_le_256 c);
      address = ap (λ (d : ℕ). address_of k d j) effect.class_before;
      classes = effect.classes;
      long_kept = λ e apart h. long_agrees_of_kept s t e h effect.runs;
    }

-- of a long block: class 0 is the class field of a run's superblocks and of unused ones
pub block_let_go_of_long_free : {Invariant : ℕ → ℕ → State → Type 0} (k n : ℕ) (s t : State) (order : List ℕ) → SoundWith Invariant s order
    → LongFreeEffect k n s t → BlockLetGo (k * 4096) k 0 s t
unfolding address_of
block_let_go_of_long_free k n s t order sound effect =
    record {
      block = omega arith;
      address = omega arith;
      classes = λ m l. same m l (in_run_or_not k n m);
      long_kept = λ e apart h. long_agrees_after_long_free s t e h k n effect apart;
    }
  where
    same : (m : ℕ) → m < 64 → Dec (InRun k n m) → (superblock_at t m).class ≡ (superblock_at s m).class
    same m l (yes inside) =
        ap (λ (b : Superblock). b.class) (effect.run m inside)
        ∙ sym (unowned_of_owner s order sound m l
        (omega (arith, owner_of_run (superblock_at s m) (effect.run_before.of_run m inside.0 inside.1)))).class
    same m l (no out) = ap (λ (b : Superblock). b.class) (effect.others m out)

module _ (a k j : ℕ) (s t : State) (long : length s.table ≡ 64) (valid : T (names_valid s)) (freed : BlockLetGo a k j s t)
    (names : t.names ≡ without_block s.names (block_number k j)) where
  -- a name that points at the block held its address
  let_go_address : (m : ℕ) → block_named s.names m ≡ block_number k j → held_address s m ≡ a
  unfolding held_address
  let_go_address m e =
      let x : block_named s.names m / 256 ≡ k = omega (arith, freed.block) in
      let y : block_named s.names m % 256 ≡ j = omega (arith, freed.block) in
      rw (x, y) freed.address

  free_keeps_held_address : (m : ℕ) → T (is_held s.names m) → block_named t.names m ≡ block_named s.names m → held_address t m ≡ held_address s m
  free_keeps_held_address m held e =
      held_address_cong s t m e
      (freed.classes (block_named s.names m / 256)
      (live_block_in_table s (block_named s.names m) long ((names_sound_of_valid s valid).live m (held_facts s.names m held).1)))

  free_keeps_agreement : (e : Entry) → is_at a e ≡ false → EntryAgrees s e → EntryAgrees t e
  free_keeps_agreement e apart h =
      record {
        long = λ l. freed.long_kept e (eqb-false e.address a apart) (h.long l);
        name_agrees = λ m. h.name_agrees m ∙ at m (ℕ_discrete (block_named s.names m) (block_number k j));
      }
    where
      at : (m : ℕ) → Dec (block_named s.names m ≡ block_number k j) → holds_address s m e.address ≡ holds_address t m e.address
      at m (yes q) =
          not_holds_of_other_address s m e.address (λ r. eqb-false e.address a apart (r ∙ let_go_address m q))
          ∙ sym (holds_address_of_not_held t m e.address (ap (λ (l : List ℕ). is_held l m) names ∙ not_held_without_block s.names (block_number k j) m q))
      at m (no f) =
          let same : block_named t.names m ≡ block_named s.names m = ap (λ (l : List ℕ). block_named l m) names
          ∙ block_named_without_other_block s.names (block_number k j) m f in
          sym (holds_address_cong s t m e.address (held_cong t.names s.names m same) (λ q. free_keeps_held_address m (T_of_true _ q) same))

  pub agreement_after_free : (ledger : List Entry) → EachEntry (EntryAgrees s) ledger → EachEntry (EntryAgrees t) (removed (is_at a) ledger)
  agreement_after_free ledger h = each_entry_removed (EntryAgrees s) (EntryAgrees t) (is_at a) ledger free_keeps_agreement h

-- ---- moves: names, classes and runs stay
pub agreement_of_same_names_and_classes : (s t : State) → length s.table ≡ 64 → length t.table ≡ 64 → t.names ≡ s.names → RunsKept s t
    → ((k : ℕ) → k < 64 → (superblock_at t k).class ≡ (superblock_at s k).class)
    → (ledger : List Entry) → EachEntry (EntryAgrees s) ledger → EachEntry (EntryAgrees t) ledger
agreement_of_same_names_and_classes s t long long_after names runs classes ledger h =
    each_entry_map (EntryAgrees s) (EntryAgrees s) (EntryAgrees t) ledger
    (λ e g _. record { long = λ l. long_agrees_of_kept s t e (g.long l) runs; name_agrees = λ m. g.name_agrees m ∙ sym (same m e.address) }) h h
  where
    class_same : (k : ℕ) → Dec (k < 64) → (superblock_at t k).class ≡ (superblock_at s k).class
    class_same k (yes l) = classes k l
    class_same k (no f) =
        let far = le_of_not_below f in
        ap (λ (b : Superblock). b.class) (get_or-eq_default t.table blank (omega arith) ∙ sym (get_or-eq_default s.table blank (omega arith)))

    same : (m a : ℕ) → holds_address t m a ≡ holds_address s m a
    same m a =
        holds_address_cong s t m a (ap (λ (l : List ℕ). is_held l m) names)
        (λ q. held_address_cong s t m (ap (λ (l : List ℕ). block_named l m) names)
        (class_same (block_named s.names m / 256) (dec_lt (block_named s.names m / 256) 64)))

-- ---- a held name is just that of the entries at its address
pub name_is_at_address : (s : State) (m : ℕ) (e : Entry) → EntryAgrees s e → T (is_held s.names m) → has_name m e ≡ is_at (held_address s m) e
name_is_at_address s m e h held = h.name_agrees m ∙ holds_address_of_held s m e.address (true_of_T _ held)

-- so that an accepted named free removes by name what a free of the held address removes by address
pub removed_by_name_is_removed_by_address : (s : State) (ledger : List Entry) (m : ℕ) → EachEntry (EntryAgrees s) ledger → T (is_held s.names m)
    → removed (has_name m) ledger ≡ removed (is_at (held_address s m)) ledger
removed_by_name_is_removed_by_address s ledger m h held =
    removed_cong (has_name m) (is_at (held_address s m)) ledger
    (each_entry_map (EntryAgrees s) (EntryAgrees s) (λ e. has_name m e ≡ is_at (held_address s m) e) ledger (λ e g _. name_is_at_address s m e g held) h h)
