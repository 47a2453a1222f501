-- Document 02, item 2, over lists of calls: the names of the ledger, from the calls and their answers alone, and those of the state agree. Assumes nothing.
use mathlib.Core.Path.{◌≡◌, refl, sym, ap, ap₂, ◌∙◌}
use mathlib.Core.Bool.{Bool, true, false}
use mathlib.Core.List.{List, [], ◌∷◌}
use Prim.Native.Nat.{ℕ, ◌/◌, ◌%◌, ◌≤◌, ◌<◌}
use native.Mathlib.Decide.{ℕ_discrete, dec_lt}
use native.Mathlib.Omega.{arith}
use borrow.Author.Tests.{eq-eqb, ne_eqb}
use lib.Dec.{T, eqb, ltb}
use Rattle.base_laws.specs.Sums.{both, either, one}
use Rattle.class_rules.specs.Classes.{class_count}
use Rattle.base_laws.proofs.Inequalities.{le_of_not_below}
use Rattle.base_laws.proofs.TestLaws.{T_of_true, true_of_T, both_make, either_left, either_right}
use Rattle.names_rules.specs.Names.{block_named, is_held}
use Rattle.names_laws.proofs.NameLaws.{held_facts}
use Rattle.heap_rules.specs.declared.Setup.{Setup}
use Rattle.heap_rules.specs.declared.State.{State}
use Rattle.heap_rules.specs.Table.{superblock_at, is_of_run, starts_run}
use Rattle.heap_laws.proofs.StateCheckLaws.{names_sound_of_valid}
use Rattle.heap_laws.proofs.RunsKeptLaws.{owner_of_run}
use Rattle.call_rules.specs.declared.Outcome.TheVariants.{Ready}
use Rattle.call_rules.specs.Answers.{After}
use Rattle.call_rules.specs.Setup.{setup_of}
use Rattle.call_rules.specs.Named.{held_address}
use Rattle.call_laws.proofs.NamesKeptLaws.{live_block_in_table}
use Rattle.call_laws.proofs.MarkClearedLaws.{LiveBlock}
use Rattle.call_laws.proofs.NamedCallLaws.{held_block_is_live, held_block_is_run, held_address_of_run, held_address_block, live_class_lt_27}
use Rattle.claim_rules.specs.Ledger.{Entry, class_of_entry, is_at, has_name, some_entry, EachEntry, entries_at}
use Rattle.claim_rules.specs.Claim.{Step, Linked}
use Rattle.claim_rules.specs.NamesClaim.{NamesAgree, NamesAgreeOver, holds_address}
use Rattle.claim_laws.proofs.LongAtLaws.{long_at, long_at_start, long_at_none}
use Rattle.claim_laws.proofs.LiveAtLaws.{live_for, live_for_owned, live_for_other, live_for_unowned, live_at_none, live_at_of_address}
use Rattle.claim_laws.proofs.LedgerNames.{each_entry_map, EntryAgrees}
use Rattle.claim_laws.proofs.CallInvariantLaws.{ListInvariant}
use Rattle.claim_laws.proofs.AlongLaws.{along_of_list_invariant}

-- ---- a held name's block is in the ledger
module _ (s : State) (m : ℕ) (held : T (is_held s.names m)) (c : ℕ) where
  entry_of_count : (ledger : List Entry) → EachEntry (EntryAgrees s) ledger → 0 < entries_at ledger (held_address s m) c
      → T (some_entry (λ e. both (has_name m e) (is_at (held_address s m) e)) ledger)
  unfolding EachEntry entries_at some_entry holds_address
  entry_of_count [] h l = omega arith
  entry_of_count (e ∷ ledger) h l = go (ℕ_discrete e.address (held_address s m)) (entry_of_count ledger h.1)
    where
      go : Dec (e.address ≡ held_address s m)
          → (0 < entries_at ledger (held_address s m) c → T (some_entry (λ e. both (has_name m e) (is_at (held_address s m) e)) ledger))
          → T (either (both (has_name m e) (is_at (held_address s m) e)) (some_entry (λ e. both (has_name m e) (is_at (held_address s m) e)) ledger))
      go (yes q) ih =
          let at : T (is_at (held_address s m) e) = T_of_true (is_at (held_address s m) e) (eq-eqb e.address (held_address s m) q) in
          let named : T (has_name m e) =
          T_of_true (has_name m e) (h.0.name_agrees m ∙ ap₂ both (true_of_T (is_held s.names m) held) (true_of_T (is_at (held_address s m) e) at)) in
          either_left (both (has_name m e) (is_at (held_address s m) e)) _ (both_make (has_name m e) (is_at (held_address s m) e) named at)
      go (no f) ih =
          let none : one (both (is_at (held_address s m) e) (eqb (class_of_entry e) c)) ≡ 0 = ap (λ (t : Bool). one (both t (eqb (class_of_entry e) c)))
          (ne_eqb e.address (held_address s m) f) in
          either_right (both (has_name m e) (is_at (held_address s m) e)) _ (ih (omega arith))

-- The ledger has the address of a held name once: in the class of its superblock, or in none where it is the start of a run.
pub record AtHeldAddress (s : State) (ledger : List Entry) (m : ℕ) : Type 0 where
  pub class : ℕ
  pub once : entries_at ledger (held_address s m) class ≡ 1
  pub no_other : (d : ℕ) → d ≤ class_count → (d ≡ class → ⊥) → entries_at ledger (held_address s m) d ≡ 0

module _ (u : Setup) (s : State) (order : List ℕ) (ledger : List Entry) (peak : ℕ → ℕ) (g : ListInvariant u s order ledger peak) where
  module _ (m : ℕ) (held : T (is_held s.names m)) where
    abbrev home : ℕ
    home = block_named s.names m / 256

    abbrev block : ℕ
    block = block_named s.names m % 256

    home_below : home < 64
    home_below =
        live_block_in_table s (block_named s.names m) g.shape.length_is
        ((names_sound_of_valid s g.passed.names).live m (held_facts s.names m held).1)

    at_home : held_address s m / 4096 ≡ home
    at_home = (held_address_block s order m g.shape g.passed held).0

    -- no live block of class d is there, where its superblock has none
    none_of_class : (d : ℕ) → d < class_count → ((b : ℕ) → live_for d (superblock_at s home) b ≡ 0) → entries_at ledger (held_address s m) d ≡ 0
    none_of_class d l none =
        g.listed.blocks (held_address s m) d l ∙ live_at_none s (held_address s m) d l
        (λ b h. ap (λ (k : ℕ). live_for d (superblock_at s k) b) at_home ∙ none b)

    in_run : is_of_run (superblock_at s home) ≡ true → AtHeldAddress s ledger m
    in_run e =
        record {
          class = class_count;
          once =
              g.listed.runs (held_address s m) ∙ ap (long_at s) (held_address_of_run s order m g.shape g.passed held e)
              ∙ long_at_start s home home_below (held_block_is_run s order g.shape g.passed m held e).1;
          no_other = λ d l other.
              none_of_class d (omega arith) (λ b. live_for_unowned d (superblock_at s home) b (omega (arith, owner_of_run (superblock_at s home) e)));
        }

    in_class : is_of_run (superblock_at s home) ≡ false → AtHeldAddress s ledger m
    unfolding held_address starts_run
    in_class e =
        record {
          class = c;
          once =
              g.listed.blocks (held_address s m) c known ∙ live_at_of_address s c home block known home_below live.block
              ∙ live_for_owned c (superblock_at s home) block live.owned refl ∙ live.marked;
          no_other = λ d l other. other_class d l other (dec_lt d class_count);
        }
      where
        live : LiveBlock s order home block
        live = held_block_is_live s order g.shape g.passed m held e

        c : ℕ
        c = (superblock_at s home).class

        known : (superblock_at s home).class < class_count
        known = live_class_lt_27 s order home block live

        other_class : (d : ℕ) → d ≤ class_count → (d ≡ (superblock_at s home).class → ⊥) → Dec (d < class_count) → entries_at ledger (held_address s m) d ≡ 0
        other_class d l other (yes h) = none_of_class d h (λ b. live_for_other d (superblock_at s home) b (λ q. other (sym q)))
        other_class d l other (no f) =
            let last : d ≡ class_count = omega (arith, le_of_not_below f) in
            ap (entries_at ledger (held_address s m)) last ∙ g.listed.runs (held_address s m)
            ∙ long_at_none s (held_address s m)
            (ap (λ (k : ℕ). starts_run (superblock_at s k)) at_home ∙ ap (λ (x : Bool). both x (ltb 0 (superblock_at s home).run)) e)

    pub at_held_address : AtHeldAddress s ledger m
    at_held_address = go (is_of_run (superblock_at s home)) refl
      where
        go : (x : Bool) → is_of_run (superblock_at s home) ≡ x → AtHeldAddress s ledger m
        go true e = in_run e
        go false e = in_class e

  names_agree_of_list_invariant : NamesAgree s ledger
  names_agree_of_list_invariant =
      record {
        entries =
            each_entry_map (EntryAgrees s) (EntryAgrees s) (λ e. (m : ℕ) → has_name m e ≡ holds_address s m e.address) ledger
            (λ e h _. h.name_agrees) g.names g.names;
        held = λ m held. let at = at_held_address m held in entry_of_count s m held at.class ledger g.names (omega (arith, at.once));
      }

-- ---- along a list of calls
-- For every accepted setup, whatever stood in the storage before, and every list of takes and frees after it, plain and named, and of drops: the ledger's
-- names and the state's agree before the list and after each of its calls.
pub ledger_and_state_names_agree : (u : Setup) (order : List ℕ) (start : After) → start ≡ setup_of u order → start.answer.outcome ≡ Ready
    → (steps : List Step) → Linked start steps → NamesAgreeOver start [] steps
ledger_and_state_names_agree u = along_of_list_invariant u NamesAgree (names_agree_of_list_invariant u)
