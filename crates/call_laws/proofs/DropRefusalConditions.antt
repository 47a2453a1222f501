-- Each refusal of a drop, by its number, given exactly if its condition holds and none before it: "16, count 0, right after 2", and "the refusal of its first
-- bad address" (document 02, item 5). Assumes nothing.
use mathlib.Core.Path.{◌≡◌, refl, sym, ap, ap₂, ◌∙◌, subst}
use mathlib.Core.Bool.{Bool, true, false, not}
use mathlib.Core.Logic.{◌↔◌, ◌⊎◌, inl, inr}
use mathlib.Core.List.{List, [], ◌∷◌, ◌++◌}
use Prim.Native.Nat.{ℕ, ◌*◌, ◌≤◌, ◌<◌}
use native.Mathlib.Decide.{ℕ_discrete, dec_lt}
use native.Mathlib.Omega.{arith}
use borrow.Author.Tests.{eqb-true, eqb-false, eq-eqb, ne_eqb, lt-ltb}
use lib.ListN.{length, length-append}
use lib.Dec.{eqb}
use Rattle.base_laws.specs.Sums.{pick}
use Rattle.base_laws.proofs.Decides.{Decides, true_of_decides, false_of_decides, decides}
use Rattle.base_laws.proofs.TestLaws.{pick_true, pick_false}
use Rattle.marks_rules.specs.Marks.{mark_bit, no_marks}
use Rattle.marks_laws.proofs.MarkLaws.{mark_bit_one_of_mark, mark_bit_zero_of_no_mark, mark_of_mark_bit_one, no_mark_of_mark_bit_zero, with_mark_same}
use Rattle.heap_rules.specs.declared.State.{State}
use Rattle.heap_rules.specs.Table.{run_owner, starts_run, live_blocks}
use Rattle.heap_laws.proofs.StateFacts.{Unused}
use Rattle.heap_laws.proofs.RunsKeptLaws.{of_run_of_owner, live_blocks_of_first}
use Rattle.call_rules.specs.declared.Outcome.TheVariants.{Refused}
use Rattle.call_rules.specs.Answers.{After, refused, is_processor}
use Rattle.call_rules.specs.Free.{offset_of, superblock_holding, block_of, is_unmapped, is_misaligned, is_live_at, address_refusal, block_freed}
use Rattle.call_rules.specs.Drop.{all_freed, first_address_refusal, dropped_all, drop_unchecked, drop_of}
use Rattle.call_rules.proofs.AddressRefusalLaws.{address_refusal_is_0_5_6_or_7, address_refusal_5, address_refusal_6, address_refusal_7}
use Rattle.call_rules.proofs.AddressRefusalLaws.{no_refusal_of_live_block}
use Rattle.call_laws.proofs.CallEffects.{Passed}
use Rattle.call_laws.proofs.CheckedLaws.{checked_is_next_of_passed}
use Rattle.call_laws.proofs.AddressLaws.{block_of_offset_0}
use Rattle.call_laws.proofs.AllFreedLaws.{first_refusal_of_cons}
use Rattle.call_laws.proofs.RefusalConditions.{CheckFails, StorageShort, IsProcessor, NotProcessor, Mapped, OffBlock, inside_run, OnBlock}
use Rattle.call_laws.proofs.RefusalConditions.{on_run_start, ConditionOf, condition_by_number, refused_iff_condition, condition_at_number}
use Rattle.call_laws.proofs.RefusalConditions.{moves_not_refused, decides_processor, decides_is_unmapped, decides_is_misaligned, checked_refused}
use Rattle.call_laws.proofs.RefusalConditions.{check_fails_refused_13, storage_short_refused_12}

-- ---- the refusal of an address, in any state
-- 5: "address at or past N × 4096, or in an unused superblock"
abbrev pub AddressUnmapped : State → ℕ → Type 0
AddressUnmapped s a = (s.setup.superblocks * 4096 ≤ a) ⊎ Unused (superblock_holding s a)

-- 6: "offset in the superblock is no multiple of the block size, or block n or above"; of a run "any other address in it is off-block" (item 7)
pub record AddressMisaligned (s : State) (a : ℕ) : Type 0 where
  pub mapped : Mapped s a
  pub misaligned : OffBlock s a

-- a block starts there, and this tells whether it is live: 0 is 7, "the block is not live", and 1 is no refusal
pub record BlockStarts (mark : ℕ) (s : State) (a : ℕ) : Type 0 where
  pub mapped : Mapped s a
  pub aligned : OnBlock s a
  pub mark_is : mark_bit (live_blocks (superblock_holding s a)) (block_of s a) ≡ mark

-- what the number says of the address
abbrev pub address_refusals : State → ℕ → List (ℕ × Type 0)
address_refusals s a = (0, BlockStarts 1 s a) ∷ (5, AddressUnmapped s a) ∷ (6, AddressMisaligned s a) ∷ (7, BlockStarts 0 s a) ∷ []

module _ (s : State) (a : ℕ) where
  condition_of_address_refusal : ConditionOf (address_refusals s a) (address_refusal s a)
  unfolding address_refusal is_live_at
  condition_of_address_refusal = go (is_unmapped s a) (is_misaligned s a) (is_live_at s a) (decides_is_unmapped s [] 0 a) (decides_is_misaligned s [] 0 a) refl
    where
      go : (w o l : Bool) → Decides w (AddressUnmapped s a) (Mapped s a) → Decides o (OffBlock s a) (OnBlock s a) → is_live_at s a ≡ l
          → ConditionOf (address_refusals s a) (pick w 5 (pick o 6 (pick l 0 7)))
      go true o l dw d e = dw.says
      go false true l dw d e = record { mapped = dw.says; misaligned = d.says }
      go false false true dw d e =
          record { mapped = dw.says; aligned = d.says; mark_is = mark_bit_one_of_mark (live_blocks (superblock_holding s a)) (block_of s a) e }
      go false false false dw d e =
          record { mapped = dw.says; aligned = d.says; mark_is = mark_bit_zero_of_no_mark (live_blocks (superblock_holding s a)) (block_of s a) e }

  is_mapped : Mapped s a → is_unmapped s a ≡ false
  is_mapped = false_of_decides (decides_is_unmapped s [] 0 a)

  is_aligned : OnBlock s a → is_misaligned s a ≡ false
  is_aligned = false_of_decides (decides_is_misaligned s [] 0 a)

  -- an address meets refusal r, or none for 0, exactly if that holds of it
  pub address_refusal_iff_condition : (r : ℕ) → (address_refusal s a ≡ r) ↔ ConditionOf (address_refusals s a) r
  unfolding is_live_at
  address_refusal_iff_condition r = (
    λ e. subst (ConditionOf (address_refusals s a)) e condition_of_address_refusal,
    condition_by_number (λ n. address_refusal s a ≡ n) (address_refusals s a)
        (λ h. no_refusal_of_live_block s a (is_mapped h.mapped) (is_aligned h.aligned)
        (mark_of_mark_bit_one (live_blocks (superblock_holding s a)) (block_of s a) h.mark_is))
        (λ h. sym (address_refusal_5 s a (is_unmapped s a) refl (true_of_decides (decides_is_unmapped s [] 0 a) h)))
        (λ h. sym (address_refusal_6 s a (is_unmapped s a) refl (is_mapped h.mapped) (is_misaligned s a) refl
        (true_of_decides (decides_is_misaligned s [] 0 a) h.misaligned)))
        (λ h.
        sym (address_refusal_7 s a (is_unmapped s a) refl (is_mapped h.mapped) (is_misaligned s a) refl (is_aligned h.aligned) (is_live_at s a) refl
        (no_mark_of_mark_bit_zero (live_blocks (superblock_holding s a)) (block_of s a) h.mark_is)))
        r,
  )

-- ---- an address in a long block's run (document 02, item 7)
module _ (s : State) (a : ℕ) (inside : a < s.setup.superblocks * 4096) (home : (superblock_holding s a).owner ≡ run_owner) where
  -- the address is the start of the run
  abbrev IsStart : Type 0
  IsStart = (0 < (superblock_holding s a).run) × (offset_of a ≡ 0)

  run_mapped : Mapped s a
  run_mapped = record { inside = inside; used = λ u. omega (arith, u.owner) }

  -- "The block's address is the start of the run": no refusal is met there ..
  start_meets_none : IsStart → address_refusal s a ≡ 0
  unfolding starts_run
  start_meets_none start =
      let starts : starts_run (superblock_holding s a) ≡ true =
      rw (of_run_of_owner (superblock_holding s a) home, lt-ltb 0 (superblock_holding s a).run start.0) in
      (address_refusal_iff_condition s a 0).1
      (record {
        mapped = run_mapped;
        aligned = on_run_start home start.0 start.1;
        mark_is = ap₂ mark_bit (live_blocks_of_first (superblock_holding s a) starts) (block_of_offset_0 s a start.1)
            ∙ with_mark_same no_marks 0 refl (omega arith);
      })

  -- .. and 6 at any other: "any other address in it is off-block"
  inner_meets_6 : (IsStart → ⊥) → address_refusal s a ≡ 6
  inner_meets_6 other = (address_refusal_iff_condition s a 6).1 (record { mapped = run_mapped; misaligned = inside_run home other })

  pub run_start_iff_no_refusal : (address_refusal s a ≡ 0) ↔ ((0 < (superblock_holding s a).run) × (offset_of a ≡ 0))
  run_start_iff_no_refusal = (λ e. go e (dec_lt 0 (superblock_holding s a).run) (ℕ_discrete (offset_of a) 0), start_meets_none)
    where
      go : address_refusal s a ≡ 0 → Dec (0 < (superblock_holding s a).run) → Dec (offset_of a ≡ 0) → IsStart
      go e (yes l) (yes z) = (l, z)
      go e (yes l) (no f) = absurd (let six = inner_meets_6 (λ start. f start.1) in let z : ⊥ = omega arith in z)
      go e (no f) d = absurd (let six = inner_meets_6 (λ start. f start.0) in let z : ⊥ = omega arith in z)

  pub inner_address_iff_refused_6 : (address_refusal s a ≡ 6) ↔ ((0 < (superblock_holding s a).run) × (offset_of a ≡ 0) → ⊥)
  inner_address_iff_refused_6 = (λ e start. let none = start_meets_none start in omega arith, inner_meets_6)

  -- 7 only outside runs
  pub run_address_never_refused_7 : address_refusal s a ≡ 7 → ⊥
  run_address_never_refused_7 e = go (dec_lt 0 (superblock_holding s a).run) (ℕ_discrete (offset_of a) 0)
    where
      go : Dec (0 < (superblock_holding s a).run) → Dec (offset_of a ≡ 0) → ⊥
      go (yes l) (yes z) = let none = start_meets_none (l, z) in omega arith
      go (yes l) (no f) = let six = inner_meets_6 (λ start. f start.1) in omega arith
      go (no f) d = let six = inner_meets_6 (λ start. f start.0) in omega arith

-- ---- "the refusal of its first bad address"
-- the frees of the addresses before it meet no refusal, and this is so of the address in the state that they leave
pub record FirstBadAddress (IsBad : State → ℕ → Type 0) (s : State) (addresses : List ℕ) : Type 0 where
  pub before : List ℕ
  pub address : ℕ
  pub behind : List ℕ
  pub written : addresses ≡ before ++ (address ∷ behind)
  pub none_before : first_address_refusal s before ≡ 0
  pub bad : IsBad (all_freed s before) address

pub first_bad_address_map : (P Q : State → ℕ → Type 0) (s : State) (addresses : List ℕ) → ((t : State) (a : ℕ) → P t a → Q t a)
    → FirstBadAddress P s addresses → FirstBadAddress Q s addresses
first_bad_address_map P Q s addresses f h = record {
  before = h.before;
  address = h.address;
  behind = h.behind;
  written = h.written;
  none_before = h.none_before;
  bad = f _ _ h.bad;
}

-- an address that meets no refusal is passed over, and one that meets one gives it
first_refusal_past : (s : State) (a : ℕ) (addresses : List ℕ) → address_refusal s a ≡ 0 → first_address_refusal s (a ∷ addresses) ≡ first_address_refusal
    (block_freed s a) addresses
unfolding first_address_refusal
first_refusal_past s a addresses e = pick_true (eqb (address_refusal s a) 0) _ _ (eq-eqb (address_refusal s a) 0 e)

first_refusal_at : (s : State) (a : ℕ) (addresses : List ℕ) → (address_refusal s a ≡ 0 → ⊥) → first_address_refusal s (a ∷ addresses) ≡ address_refusal s a
unfolding first_address_refusal
first_refusal_at s a addresses f = pick_false (eqb (address_refusal s a) 0) _ _ (ne_eqb (address_refusal s a) 0 f)

-- addresses that meet no refusal, and then others
pub first_refusal_of_append : (s : State) (x y : List ℕ) → first_address_refusal s x ≡ 0
    → first_address_refusal s (x ++ y) ≡ first_address_refusal (all_freed s x) y
unfolding all_freed
first_refusal_of_append s [] y ok = refl
first_refusal_of_append s (a ∷ x) y ok =
    let first = first_refusal_of_cons s a x ok in first_refusal_past s a (x ++ y) first.0 ∙ first_refusal_of_append (block_freed s a) x y first.1

module _ (r : ℕ) (some : r ≡ 0 → ⊥) where
  first_bad_of_refusal : (s : State) (addresses : List ℕ) → first_address_refusal s addresses ≡ r → FirstBadAddress (λ t a. address_refusal t a ≡ r) s addresses
  unfolding first_address_refusal all_freed
  first_bad_of_refusal s [] e = absurd (some (sym e))
  first_bad_of_refusal s (a ∷ addresses) e = go (ℕ_discrete (address_refusal s a) 0) (first_bad_of_refusal (block_freed s a) addresses)
    where
      go : Dec (address_refusal s a ≡ 0)
          → (first_address_refusal (block_freed s a) addresses ≡ r → FirstBadAddress (λ t x. address_refusal t x ≡ r) (block_freed s a) addresses)
          → FirstBadAddress (λ t x. address_refusal t x ≡ r) s (a ∷ addresses)
      go (no f) rest = record {
        before = [];
        address = a;
        behind = addresses;
        written = refl;
        none_before = refl;
        bad = sym (first_refusal_at s a addresses f) ∙ e;
      }
      go (yes ok) rest =
          let h = rest (sym (first_refusal_past s a addresses ok) ∙ e) in
          record {
            before = a ∷ h.before;
            address = h.address;
            behind = h.behind;
            written = ap (λ (l : List ℕ). a ∷ l) h.written;
            none_before = first_refusal_past s a h.before ok ∙ h.none_before;
            bad = h.bad;
          }

  refusal_of_first_bad : (s : State) (addresses : List ℕ) → FirstBadAddress (λ t a. address_refusal t a ≡ r) s addresses → first_address_refusal s addresses ≡ r
  refusal_of_first_bad s addresses h =
      ap (first_address_refusal s) h.written ∙ first_refusal_of_append s h.before (h.address ∷ h.behind) h.none_before
      ∙ first_refusal_at (all_freed s h.before) h.address h.behind (λ e. some (sym h.bad ∙ e)) ∙ h.bad

-- "A refused drop .. gives the refusal of its first bad address": of the first one that meets a refusal in the state that the frees before it leave
pub first_refusal_is_of_first_bad_address : (s : State) (addresses : List ℕ) (r : ℕ) → (r ≡ 0 → ⊥) → (first_address_refusal s addresses ≡ r)
    ↔ FirstBadAddress (λ t a. address_refusal t a ≡ r) s addresses
first_refusal_is_of_first_bad_address s addresses r some = (first_bad_of_refusal r some s addresses, refusal_of_first_bad r some s addresses)

-- each of the addresses meets no refusal in the state that the frees before it leave
abbrev pub EachMeetsNone : State → List ℕ → Type 0
EachMeetsNone s addresses = (x : List ℕ) (a : ℕ) (y : List ℕ) → addresses ≡ x ++ (a ∷ y) → address_refusal (all_freed s x) a ≡ 0

each_meets_none : (s : State) (addresses : List ℕ) → first_address_refusal s addresses ≡ 0 → EachMeetsNone s addresses
unfolding all_freed
each_meets_none s addresses ok [] a y e = (first_refusal_of_cons s a y (ap (first_address_refusal s) (sym e) ∙ ok)).0
each_meets_none s addresses ok (b ∷ x) a y e =
    each_meets_none (block_freed s b) (x ++ (a ∷ y)) (first_refusal_of_cons s b (x ++ (a ∷ y)) (ap (first_address_refusal s) (sym e) ∙ ok)).1 x a y refl

none_of_each : (s : State) (addresses : List ℕ) → EachMeetsNone s addresses → first_address_refusal s addresses ≡ 0
unfolding first_address_refusal all_freed
none_of_each s [] f = refl
none_of_each s (a ∷ addresses) f = first_refusal_past s a addresses (f [] a addresses refl) ∙ none_of_each (block_freed s a) addresses
    (λ x b y e. f (a ∷ x) b y (ap (λ (l : List ℕ). a ∷ l) e))

-- "accepted only if the frees one by one, in the order written, would meet none of 5, 6, 7"
pub no_refusal_iff_each_meets_none : (s : State) (addresses : List ℕ) → (first_address_refusal s addresses ≡ 0) ↔ EachMeetsNone s addresses
no_refusal_iff_each_meets_none s addresses = (each_meets_none s addresses, none_of_each s addresses)

-- it is one of 5, 6 and 7, or there is none
pub first_refusal_is_0_5_6_or_7 : (s : State) (addresses : List ℕ) → (first_address_refusal s addresses ≡ 0)
    ⊎ ((first_address_refusal s addresses ≡ 5) ⊎ ((first_address_refusal s addresses ≡ 6) ⊎ (first_address_refusal s addresses ≡ 7)))
unfolding first_address_refusal
first_refusal_is_0_5_6_or_7 s [] = inl refl
first_refusal_is_0_5_6_or_7 s (a ∷ addresses) = go (eqb (address_refusal s a) 0) (first_refusal_is_0_5_6_or_7 (block_freed s a) addresses)
    (address_refusal_is_0_5_6_or_7 s a)
  where
    OneOf : ℕ → Type 0
    OneOf n = (n ≡ 0) ⊎ ((n ≡ 5) ⊎ ((n ≡ 6) ⊎ (n ≡ 7)))

    go : (t : Bool) → OneOf (first_address_refusal (block_freed s a) addresses) → OneOf (address_refusal s a)
        → OneOf (pick t (first_address_refusal (block_freed s a) addresses) (address_refusal s a))
    go true p q = p
    go false p q = q

-- ---- the conditions of a drop
-- 16: "count 0"
pub record CountZero (s : State) (order : List ℕ) (i : ℕ) (addresses : List ℕ) : Type 0 where
  pub passed : Passed s order
  pub processor : IsProcessor s i
  pub none : length addresses ≡ 0

-- 5, 6, 7: the first bad address is bad in this way
pub record BadAddress (IsBad : State → ℕ → Type 0) (s : State) (order : List ℕ) (i : ℕ) (addresses : List ℕ) : Type 0 where
  pub passed : Passed s order
  pub processor : IsProcessor s i
  pub first : FirstBadAddress IsBad s addresses

-- the numbers, each with its condition, in the page's order: 13 for setup numbers, 12, the rest of 13, 2, "16, count 0, right after 2", then 5, 6, 7
abbrev pub drop_refusals : (s : State) (order : List ℕ) (i : ℕ) (addresses : List ℕ) → List (ℕ × Type 0)
drop_refusals s order i addresses =
    (13, CheckFails s order) ∷ (12, StorageShort s order) ∷ (2, NotProcessor s order i) ∷ (16, CountZero s order i addresses)
    ∷ (5, BadAddress AddressUnmapped s order i addresses) ∷ (6, BadAddress AddressMisaligned s order i addresses)
    ∷ (7, BadAddress (BlockStarts 0) s order i addresses) ∷ []

module _ (s : State) (order : List ℕ) (i : ℕ) (addresses : List ℕ) where
  decides_none : Decides (eqb (length addresses) 0) (length addresses ≡ 0) (length addresses ≡ 0 → ⊥)
  decides_none = decides (eqb (length addresses) 0) (eqb-true (length addresses) 0) (eqb-false (length addresses) 0) (λ e f. f e)

  -- the first bad address, by the condition of its refusal
  bad_by_condition : (r : ℕ) → (r ≡ 0 → ⊥) → first_address_refusal s addresses ≡ r → FirstBadAddress (λ t a. ConditionOf (address_refusals t a) r) s addresses
  bad_by_condition r some e =
      first_bad_address_map (λ t a. address_refusal t a ≡ r) (λ t a. ConditionOf (address_refusals t a) r) s addresses
      (λ t a. (address_refusal_iff_condition t a r).0)
      ((first_refusal_is_of_first_bad_address s addresses r some).0 e)

  refusal_by_condition : (r : ℕ) → (r ≡ 0 → ⊥) → FirstBadAddress (λ t a. ConditionOf (address_refusals t a) r) s addresses
      → first_address_refusal s addresses ≡ r
  refusal_by_condition r some h =
      (first_refusal_is_of_first_bad_address s addresses r some).1
      (first_bad_address_map (λ t a. ConditionOf (address_refusals t a) r) (λ t a. address_refusal t a ≡ r) s addresses
      (λ t a. (address_refusal_iff_condition t a r).1) h)

  condition_of_drop_refused : (r : ℕ) → (drop_of s order i addresses).answer.outcome ≡ Refused r → ConditionOf (drop_refusals s order i addresses) r
  unfolding drop_of drop_unchecked dropped_all
  condition_of_drop_refused r = checked_refused s order i (drop_unchecked s order i addresses)
      (drop_refusals s order i addresses) r (λ h. h) (λ h. h)
      (go (is_processor s i) (eqb (length addresses) 0) (eqb (first_address_refusal s addresses) 0) (decides_processor s order i) decides_none refl)
    where
      tests : (p n f : Bool) → After
      tests p n f = pick (not p) (refused 2 s order)
          (pick n (refused 16 s order) (pick f (dropped_all s order addresses) (refused (first_address_refusal s addresses) s order)))

      bad : (n : ℕ) → (n ≡ 0 → ⊥)
          → (BadAddress (λ t a. ConditionOf (address_refusals t a) n) s order i addresses → ConditionOf (drop_refusals s order i addresses) n)
          → Passed s order → IsProcessor s i → Refused (first_address_refusal s addresses) ≡ Refused r → first_address_refusal s addresses ≡ n
          → ConditionOf (drop_refusals s order i addresses) r
      bad n some listed passed p e q = condition_at_number (drop_refusals s order i addresses) n r (ap Refused (sym q) ∙ e)
          (listed (record { passed = passed; processor = p; first = bad_by_condition n some q }))

      by_case : Passed s order → IsProcessor s i → (first_address_refusal s addresses ≡ 0 → ⊥) → Refused (first_address_refusal s addresses) ≡ Refused r
          → (first_address_refusal s addresses ≡ 0)
          ⊎ ((first_address_refusal s addresses ≡ 5) ⊎ ((first_address_refusal s addresses ≡ 6) ⊎ (first_address_refusal s addresses ≡ 7)))
          → ConditionOf (drop_refusals s order i addresses) r
      by_case passed p some e (inl q) = absurd (some q)
      by_case passed p some e (inr (inl q)) = bad 5 (λ z. omega arith) (λ h. h) passed p e q
      by_case passed p some e (inr (inr (inl q))) = bad 6 (λ z. omega arith) (λ h. h) passed p e q
      by_case passed p some e (inr (inr (inr q))) = bad 7 (λ z. omega arith) (λ h. h) passed p e q

      go : (p n f : Bool) → Decides p (IsProcessor s i) ((i ≡ 0) ⊎ (s.setup.processors < i))
          → Decides n (length addresses ≡ 0) (length addresses ≡ 0 → ⊥) → eqb (first_address_refusal s addresses) 0 ≡ f
          → Passed s order → (tests p n f).answer.outcome ≡ Refused r → ConditionOf (drop_refusals s order i addresses) r
      go false n f p d ef passed e = condition_at_number (drop_refusals s order i addresses) 2 r e (record { passed = passed; out = p.says })
      go true true f p d ef passed e = condition_at_number (drop_refusals s order i addresses) 16 r e
          (record { passed = passed; processor = p.says; none = d.says })
      go true false true p d ef passed e = absurd (moves_not_refused _ r e)
      go true false false p d ef passed e = by_case passed p.says (eqb-false (first_address_refusal s addresses) 0 ef) e
          (first_refusal_is_0_5_6_or_7 s addresses)

  -- a drop on a state that passes is that behind the check
  pub drop_is_unchecked : Passed s order → drop_of s order i addresses ≡ drop_unchecked s order i addresses
  unfolding drop_of
  drop_is_unchecked passed = checked_is_next_of_passed s order _ passed

  bad_address_refused : (r : ℕ) → (r ≡ 0 → ⊥) → BadAddress (λ t a. ConditionOf (address_refusals t a) r) s order i addresses → drop_of s order i addresses
      ≡ refused r s order
  unfolding drop_unchecked
  bad_address_refused r some h =
      drop_is_unchecked h.passed
      ∙ rw (
        true_of_decides (decides_processor s order i) h.processor,
        ne_eqb (length addresses) 0 listed,
        ne_eqb (first_address_refusal s addresses) 0
            (λ z. some (sym is ∙ z)),
      ) (ap (λ (n : ℕ). refused n s order) is)
    where
      is : first_address_refusal s addresses ≡ r
      is = refusal_by_condition r some h.first

      listed : length addresses ≡ 0 → ⊥
      listed e = omega (arith, simp length-append at (ap length h.first.written))

  -- a drop is refused with number r exactly if r's condition holds: it applies, and none before it in the order
  pub drop_refused_iff_condition : (r : ℕ) → ((drop_of s order i addresses).answer.outcome ≡ Refused r) ↔ ConditionOf (drop_refusals s order i addresses) r
  unfolding drop_of drop_unchecked
  drop_refused_iff_condition = refused_iff_condition (drop_of s order i addresses) s order (drop_refusals s order i addresses) condition_of_drop_refused
      (check_fails_refused_13 s order i _) (storage_short_refused_12 s order i _)
      (λ h. drop_is_unchecked h.passed ∙ rw (false_of_decides (decides_processor s order i) h.out))
      (λ h. drop_is_unchecked h.passed ∙ rw (true_of_decides (decides_processor s order i) h.processor, eq-eqb (length addresses) 0 h.none))
      (bad_address_refused 5 (λ z. omega arith)) (bad_address_refused 6 (λ z. omega arith)) (bad_address_refused 7 (λ z. omega arith))

  -- number by number: 13, 12, 2, 16, 5, 6, 7
  pub drop_refused_13 : ((drop_of s order i addresses).answer.outcome ≡ Refused 13) ↔ CheckFails s order
  drop_refused_13 = drop_refused_iff_condition 13

  pub drop_refused_12 : ((drop_of s order i addresses).answer.outcome ≡ Refused 12) ↔ StorageShort s order
  drop_refused_12 = drop_refused_iff_condition 12

  pub drop_refused_2 : ((drop_of s order i addresses).answer.outcome ≡ Refused 2) ↔ NotProcessor s order i
  drop_refused_2 = drop_refused_iff_condition 2

  pub drop_refused_16 : ((drop_of s order i addresses).answer.outcome ≡ Refused 16) ↔ CountZero s order i addresses
  drop_refused_16 = drop_refused_iff_condition 16

  pub drop_refused_5 : ((drop_of s order i addresses).answer.outcome ≡ Refused 5) ↔ BadAddress AddressUnmapped s order i addresses
  drop_refused_5 = drop_refused_iff_condition 5

  pub drop_refused_6 : ((drop_of s order i addresses).answer.outcome ≡ Refused 6) ↔ BadAddress AddressMisaligned s order i addresses
  drop_refused_6 = drop_refused_iff_condition 6

  pub drop_refused_7 : ((drop_of s order i addresses).answer.outcome ≡ Refused 7) ↔ BadAddress (BlockStarts 0) s order i addresses
  drop_refused_7 = drop_refused_iff_condition 7
