-- What the ledger tells of a freed block: whether it was a run, and the superblock that it was freed into (document 02, items 4 and 7). Assumes nothing.
use mathlib.Core.Path.{◌≡◌, refl, sym, ap, ap₂, ◌∙◌}
use mathlib.Core.Bool.{Bool, true, false}
use mathlib.Core.List.{List, [], ◌∷◌}
use Prim.Native.Nat.{ℕ, ◌*◌, ◌/◌, ◌<◌}
use native.Mathlib.Decide.{ℕ_discrete, dec_lt}
use native.Mathlib.Omega.{arith}
use borrow.Author.Tests.{eq-eqb, ne_eqb}
use lib.Dec.{T, eqb}
use Rattle.base_laws.specs.Sums.{pick, both, one}
use Rattle.base_laws.proofs.Inequalities.{le_of_not_below}
use Rattle.base_laws.proofs.TestLaws.{T_of_true, true_of_T, true_not_false, both_left}
use Rattle.base_laws.proofs.Decides.{true_of_decides, false_of_decides}
use Rattle.class_rules.specs.Classes.{class_count, is_long}
use Rattle.class_rules.proofs.ClassLaws.{class_of_lt_27, decides_long}
use Rattle.names_rules.specs.Names.{is_held}
use Rattle.heap_rules.specs.declared.State.{State}
use Rattle.heap_rules.specs.Table.{is_of_run, starts_run}
use Rattle.heap_laws.proofs.StateFacts.{Shape}
use Rattle.call_rules.specs.Take.{address_of}
use Rattle.call_rules.specs.Free.{superblock_index, superblock_holding, block_of, is_in_run, address_refusal, small_block_freed, long_block_freed}
use Rattle.call_rules.specs.Named.{held_address}
use Rattle.call_laws.proofs.CallEffects.{PassedAfterFrees}
use Rattle.call_laws.proofs.BlockFreedLaws.{freed_address, freed_superblock_lt_64, small_block_freed_effect}
use Rattle.call_laws.proofs.RunFreedLaws.{freed_run_address, long_block_freed_effect}
use Rattle.claim_rules.specs.Ledger.{Entry, class_of_entry, is_at, has_name, removed, EachEntry, entries_at}
use Rattle.claim_rules.specs.History.{Event, freed_into, neither, event_of_block}
use Rattle.claim_laws.proofs.LedgerLaws.{entries_at_removed, entries_at_others_removed}
use Rattle.claim_laws.proofs.LiveAtLaws.{live_at, live_at_same, OneMoreLive, live_at_one_more, one_more_live_of_free}
use Rattle.claim_laws.proofs.OneMoreLongLaws.{OneMoreLong, long_at_one_more, one_more_long_of_free}
use Rattle.claim_laws.proofs.LedgerNames.{each_entry_map, EntryAgrees, name_is_at_address}
use Rattle.claim_laws.proofs.LiveBlocksListedLaws.{live_at_run_is_zero, Agreement}

-- ---- the entry that a test finds
-- what it tells
abbrev event_of_entry : Entry → Event
event_of_entry e = pick (is_long e.size) neither (freed_into (e.address / 4096))

-- tests that agree on each entry find the same
event_of_block_cong : (f g : Entry → Bool) (ledger : List Entry) → EachEntry (λ e. f e ≡ g e) ledger → event_of_block f ledger ≡ event_of_block g ledger
unfolding EachEntry event_of_block
event_of_block_cong f g [] h = refl
event_of_block_cong f g (e ∷ ledger) h = ap₂ (λ (t : Bool) (x : Event). pick t (event_of_entry e) x) h.0 (event_of_block_cong f g ledger h.1)

module _ (a : ℕ) where
  -- the blocks at the address are all of a class, and there is one
  event_of_small_entry : (c : ℕ) (ledger : List Entry) → EachEntry (λ e. e.address ≡ a → is_long e.size ≡ false) ledger → 0 < entries_at ledger a c
      → event_of_block (is_at a) ledger ≡ freed_into (a / 4096)
  unfolding EachEntry entries_at event_of_block
  event_of_small_entry c [] h l = absurd (let z : ⊥ = omega arith in z)
  event_of_small_entry c (e ∷ ledger) h l = go (ℕ_discrete e.address a) (event_of_small_entry c ledger h.1)
    where
      go : Dec (e.address ≡ a) → (0 < entries_at ledger a c → event_of_block (is_at a) ledger ≡ freed_into (a / 4096))
          → pick (is_at a e) (event_of_entry e) (event_of_block (is_at a) ledger) ≡ freed_into (a / 4096)
      go (yes q) ih = rw (eq-eqb e.address a q, h.0 q) (ap (λ (b : ℕ). freed_into (b / 4096)) q)
      go (no f) ih =
          let at : is_at a e ≡ false = ne_eqb e.address a f in
          let other : one (both (is_at a e) (eqb (class_of_entry e) c)) ≡ 0 = ap (λ (t : Bool). one (both t (eqb (class_of_entry e) c))) at in
          rw at (ih (omega arith))

  -- they are all long
  event_of_long_entry : (ledger : List Entry) → EachEntry (λ e. e.address ≡ a → is_long e.size ≡ true) ledger → event_of_block (is_at a) ledger ≡ neither
  unfolding EachEntry event_of_block
  event_of_long_entry [] h = refl
  event_of_long_entry (e ∷ ledger) h = go (ℕ_discrete e.address a) (event_of_long_entry ledger h.1)
    where
      go : Dec (e.address ≡ a) → event_of_block (is_at a) ledger ≡ neither → pick (is_at a e) (event_of_entry e) (event_of_block (is_at a) ledger) ≡ neither
      go (yes q) ih = rw (eq-eqb e.address a q, h.0 q)
      go (no f) ih = rw (ne_eqb e.address a f) ih

  -- where the ledger counts no block of a class at the address, each there is long
  long_of_no_class : (ledger : List Entry) → ((d : ℕ) → d < class_count → entries_at ledger a d ≡ 0)
      → EachEntry (λ e. e.address ≡ a → is_long e.size ≡ true) ledger
  unfolding EachEntry entries_at
  long_of_no_class [] none = tt
  long_of_no_class (e ∷ ledger) none = (λ q. long q (dec_lt 2048 e.size), long_of_no_class ledger (λ d l. omega (arith, none d l)))
    where
      long : e.address ≡ a → Dec (2048 < e.size) → is_long e.size ≡ true
      long q (yes l) = true_of_decides (decides_long e.size) l
      long q (no f) =
          let c : ℕ = class_of_entry e in
          let one : one (both (is_at a e) (eqb c c)) ≡ 1 = rw (eq-eqb e.address a q, eq-eqb c c refl) in
          absurd (let z : ⊥ = omega (arith, none c (class_of_lt_27 e.size (le_of_not_below f))) in z)

  -- another address removed leaves what is at this one
  event_of_block_at_others_removed : (b : ℕ) (ledger : List Entry) → (a ≡ b → ⊥)
      → event_of_block (is_at a) (removed (is_at b) ledger) ≡ event_of_block (is_at a) ledger
  unfolding removed event_of_block
  event_of_block_at_others_removed b [] other = refl
  event_of_block_at_others_removed b (e ∷ ledger) other = go (ℕ_discrete e.address b) (event_of_block_at_others_removed b ledger other)
    where
      go : Dec (e.address ≡ b) → event_of_block (is_at a) (removed (is_at b) ledger) ≡ event_of_block (is_at a) ledger
          → event_of_block (is_at a) (removed (is_at b) (e ∷ ledger)) ≡ event_of_block (is_at a) (e ∷ ledger)
      go (yes q) ih = rw (eq-eqb e.address b q, ne_eqb e.address a (λ p. other (sym p ∙ q))) ih
      go (no f) ih = rw (ne_eqb e.address b f, ih)

-- ---- the ledger without the blocks that a drop has freed so far
-- what it has at an address is what the whole ledger has there
abbrev pub SameEvents : List Entry → List Entry → Type 0
SameEvents ledger part = (a c : ℕ) → 0 < entries_at part a c → event_of_block (is_at a) part ≡ event_of_block (is_at a) ledger

pub same_events_removed : (ledger part : List Entry) (b : ℕ) → SameEvents ledger part → SameEvents ledger (removed (is_at b) part)
same_events_removed ledger part b same a c l = go (ℕ_discrete a b)
  where
    go : Dec (a ≡ b) → event_of_block (is_at a) (removed (is_at b) part) ≡ event_of_block (is_at a) ledger
    go (yes q) =
        let none : entries_at (removed (is_at b) part) a c ≡ 0 = ap (λ (x : ℕ). entries_at (removed (is_at b) part) x c) q ∙ entries_at_removed b part c in
        absurd (let z : ⊥ = omega arith in z)
    go (no f) =
        let as_many = entries_at_others_removed b part a c (λ q. f (sym q)) in
        event_of_block_at_others_removed a b part f ∙ same a c (omega arith)

module _ (freed : ℕ → ℕ → ℕ) (s : State) (order : List ℕ) (a : ℕ) (ledger : List Entry) (shape : Shape s) (passed : PassedAfterFrees freed s order)
    (accepted : address_refusal s a ≡ 0) (agrees : Agreement s ledger) where
  -- ---- an accepted free of the block at address a, alone or after others of a drop
  -- of a class: the ledger has it, and no long one there, as its superblock is of no run
  pub small_block_in_ledger : is_in_run s a ≡ false → 0 < entries_at ledger a (superblock_holding s a).class
  small_block_in_ledger small =
      let c : ℕ = (superblock_holding s a).class in
      let k : ℕ = superblock_index a in
      let j : ℕ = block_of s a in
      let effect = small_block_freed_effect freed s order a shape passed accepted small in
      let below = freed_superblock_lt_64 freed s order a shape passed accepted small in
      let address = freed_address freed s order a shape passed accepted small in
      let less : OneMoreLive c k j (small_block_freed s a) s = one_more_live_of_free c k j 0 s (small_block_freed s a) below effect in
      let more = live_at_one_more c k j (small_block_freed s a) s less a c effect.class_lt_27 in
      let same : one (both (eqb (address_of k c j) a) (eqb c c)) ≡ 1 = rw (eq-eqb (address_of k c j) a (sym address), eq-eqb c c refl) in
      omega (arith, agrees.listed.blocks a c effect.class_lt_27)

  pub event_of_small_block : is_in_run s a ≡ false → event_of_block (is_at a) ledger ≡ freed_into (superblock_index a)
  unfolding starts_run
  event_of_small_block small = event_of_small_entry a (superblock_holding s a).class ledger none_long (small_block_in_ledger small)
    where
      no_run : (e : Entry) → EntryAgrees s e → e.address ≡ a → Dec (2048 < e.size) → is_long e.size ≡ false
      no_run e h q (yes l) =
          let starts : starts_run (superblock_holding s a) ≡ true = ap (λ (b : ℕ). starts_run (superblock_holding s b)) (sym q) ∙ (h.long l).starts in
          absurd (true_not_false (is_in_run s a) (true_of_T _ (both_left (is_of_run (superblock_holding s a)) _ (T_of_true _ starts))) small)
      no_run e h q (no f) = false_of_decides (decides_long e.size) (le_of_not_below f)

      none_long : EachEntry (λ e. e.address ≡ a → is_long e.size ≡ false) ledger
      none_long =
          each_entry_map (EntryAgrees s) (EntryAgrees s) (λ e. e.address ≡ a → is_long e.size ≡ false) ledger
          (λ e h _ q. no_run e h q (dec_lt 2048 e.size)) agrees.names agrees.names

  -- long: the ledger has it, and none of a class there
  one_long_less : is_in_run s a ≡ true → OneMoreLong (superblock_index a) (long_block_freed s a) s
  one_long_less long =
      one_more_long_of_free (superblock_index a) (superblock_holding s a).run s (long_block_freed s a)
      (long_block_freed_effect freed s order a shape passed accepted long)

  pub long_block_in_ledger : is_in_run s a ≡ true → 0 < entries_at ledger a class_count
  long_block_in_ledger long =
      let k : ℕ = superblock_index a in
      let more = long_at_one_more k (long_block_freed s a) s (one_long_less long) a in
      let same : one (eqb (k * 4096) a) ≡ 1 = ap one (eq-eqb (k * 4096) a (sym (freed_run_address freed s order a shape passed accepted long))) in
      omega (arith, agrees.listed.runs a)

  pub event_of_long_block : is_in_run s a ≡ true → event_of_block (is_at a) ledger ≡ neither
  event_of_long_block long = event_of_long_entry a ledger (long_of_no_class a ledger none)
    where
      none : (d : ℕ) → d < class_count → entries_at ledger a d ≡ 0
      none d l =
          agrees.listed.blocks a d l ∙ live_at_same (long_block_freed s a) s a d l ((one_long_less long).blocks_same d)
          ∙ ap (λ (b : ℕ). live_at (long_block_freed s a) b d) (freed_run_address freed s order a shape passed accepted long)
          ∙ live_at_run_is_zero (superblock_index a) (long_block_freed s a) s (one_long_less long) ledger d l

-- ---- a name that is held finds what the held address does
pub event_of_named_block : (s : State) (ledger : List Entry) (m : ℕ) → EachEntry (EntryAgrees s) ledger → T (is_held s.names m)
    → event_of_block (has_name m) ledger ≡ event_of_block (is_at (held_address s m)) ledger
event_of_named_block s ledger m h held =
    event_of_block_cong (has_name m) (is_at (held_address s m)) ledger
    (each_entry_map (EntryAgrees s) (EntryAgrees s) (λ e. has_name m e ≡ is_at (held_address s m) e) ledger
    (λ e g _. name_is_at_address s m e g held) h h)
