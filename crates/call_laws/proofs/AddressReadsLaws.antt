-- What refusals 5, 6 and 7 read of a state: an address meets the same of them where that is the same. Assumes nothing.
use mathlib.Core.Path.{◌≡◌, refl, sym, ap, ap₂, ◌∙◌}
use mathlib.Core.Bool.{Bool, true, false}
use mathlib.Core.Logic.{◌⊎◌, inl, inr}
use mathlib.Core.List.{List, []}
use Prim.Native.Nat.{ℕ, ◌*◌, ◌/◌, ◌≤◌, ◌<◌}
use native.Mathlib.Decide.{dec_lt}
use native.Mathlib.Omega.{arith}
use borrow.Author.Tests.{eq-eqb, ne_eqb, le-leb, lt-ltb}
use lib.Dec.{eqb, leb}
use Rattle.base_laws.specs.Sums.{either}
use Rattle.base_laws.proofs.Inequalities.{le_of_not_below}
use Rattle.base_laws.proofs.Decides.{true_of_decides, false_of_decides}
use Rattle.base_laws.proofs.TestLaws.{true_of_T}
use Rattle.class_rules.specs.Classes.{size_of}
use Rattle.class_rules.proofs.ClassTableLaws.{blocks_of_le_256}
use Rattle.marks_rules.specs.Marks.{is_marked, mark_bit}
use Rattle.marks_laws.proofs.MarkLaws.{no_mark_of_mark_bit_zero}
use Rattle.heap_rules.specs.declared.Superblock.{Superblock}
use Rattle.heap_rules.specs.declared.Setup.{Setup}
use Rattle.heap_rules.specs.declared.State.{State}
use Rattle.heap_rules.specs.Table.{run_owner, unused_owner, superblock_at, is_unused, is_of_run, starts_run, live_blocks}
use Rattle.heap_laws.proofs.StateFacts.{Unowned, Owned, SoundWith}
use Rattle.heap_laws.proofs.StateCheckLaws.{is_unused_of_facts, unused_of_unowned, not_unused_of_owner}
use Rattle.heap_laws.proofs.RunsKeptLaws.{outside_run_of_owner, starts_run_same, live_blocks_of_first, live_blocks_outside_run, of_run_of_owner, owner_of_run}
use Rattle.call_rules.specs.Free.{superblock_index, offset_of, superblock_holding, block_of, is_unmapped, is_in_run, is_run_start, is_off_block, is_misaligned}
use Rattle.call_rules.specs.Free.{is_live_at, address_refusal}
use Rattle.call_rules.proofs.AddressRefusalLaws.{address_refusal_is_0_5_6_or_7, address_refusal_5, address_refusal_6, address_refusal_7, live_of_no_refusal}
use Rattle.call_rules.proofs.AddressRefusalLaws.{no_refusal_of_live_block}
use Rattle.call_laws.proofs.RefusalConditions.{Mapped, OnBlock, on_block_of_class, on_run_start, decides_is_unmapped, decides_is_misaligned}
use Rattle.call_laws.proofs.DropRefusalConditions.{BlockStarts, address_refusal_iff_condition, run_address_never_refused_7}

-- ---- what they read of a superblock
-- but for its marks: whether it is unused, its class, whether it is of a run, and the length that it carries
pub record SameReads (b d : Superblock) : Type 0 where
  pub unused : eqb d.owner unused_owner ≡ eqb b.owner unused_owner
  pub class : d.class ≡ b.class
  pub of_run : is_of_run d ≡ is_of_run b
  pub run : d.run ≡ b.run

pub same_reads_refl : (b : Superblock) → SameReads b b
same_reads_refl b = record { unused = refl; class = refl; of_run = refl; run = refl }

-- the same setup, and superblock by superblock the same: moves and cleared marks keep that
pub record SamePlaces (s t : State) : Type 0 where
  pub setup : t.setup ≡ s.setup
  pub each : (k : ℕ) → k < 64 → SameReads (superblock_at s k) (superblock_at t k)

pub same_places_refl : (s : State) → SamePlaces s s
same_places_refl s = record { setup = refl; each = λ k l. same_reads_refl (superblock_at s k) }

pub same_places_sym : (s t : State) → SamePlaces s t → SamePlaces t s
same_places_sym s t e = record {
  setup = sym e.setup;
  each = λ k l. let x = e.each k l in
      record { unused = sym x.unused; class = sym x.class; of_run = sym x.of_run; run = sym x.run };
}

pub same_places_trans : (s t u : State) → SamePlaces s t → SamePlaces t u → SamePlaces s u
same_places_trans s t u e f =
    record {
      setup = f.setup ∙ e.setup;
      each = λ k l. let x = e.each k l in let y = f.each k l in
          record { unused = y.unused ∙ x.unused; class = y.class ∙ x.class; of_run = y.of_run ∙ x.of_run; run = y.run ∙ x.run };
    }

-- the same marks, too
abbrev pub SameMarks : State → State → Type 0
SameMarks s t = (k b : ℕ) → k < 64 → b < 256 → mark_bit (superblock_at t k).live b ≡ mark_bit (superblock_at s k).live b

-- ---- in a state that passes but for the move rule
-- a superblock is unused where no heap or run has it
is_unused_by_owner : {I : ℕ → ℕ → State → Type 0} (s : State) (order : List ℕ) → SoundWith I s order → (k : ℕ) → k < 64 → is_unused (superblock_at s k)
    ≡ eqb (superblock_at s k).owner unused_owner
is_unused_by_owner s order sound k l = go (sound.each k l)
  where
    owned : ((superblock_at s k).owner ≡ unused_owner → ⊥) → is_unused (superblock_at s k) ≡ eqb (superblock_at s k).owner unused_owner
    owned f = not_unused_of_owner (superblock_at s k) f ∙ sym (ne_eqb (superblock_at s k).owner unused_owner f)

    by_owner : Unowned (superblock_at s k) → ((superblock_at s k).owner ≡ unused_owner) ⊎ ((superblock_at s k).owner ≡ run_owner)
        → is_unused (superblock_at s k)
        ≡ eqb (superblock_at s k).owner unused_owner
    by_owner u (inl e) = true_of_T _ (is_unused_of_facts (superblock_at s k) (unused_of_unowned (superblock_at s k) u e))
        ∙ sym (eq-eqb (superblock_at s k).owner unused_owner e)
    by_owner u (inr e) = owned (λ (q : (superblock_at s k).owner ≡ unused_owner). omega arith)

    go : Unowned (superblock_at s k) ⊎ Owned s.setup order k (superblock_at s k) → is_unused (superblock_at s k) ≡ eqb (superblock_at s k).owner unused_owner
    go (inl u) = by_owner u u.owner
    go (inr o) = owned (λ (q : (superblock_at s k).owner ≡ unused_owner). omega (arith, o.owner, sound.numbers.processors_high))

-- an address of which 7 is met lies in no run
pub outside_run_of_refused_7 : (s : State) (a : ℕ) → address_refusal s a ≡ 7 → is_in_run s a ≡ false
outside_run_of_refused_7 s a e = go (is_in_run s a) refl
  where
    go : (t : Bool) → is_in_run s a ≡ t → is_in_run s a ≡ false
    go false q = q
    go true q = absurd (run_address_never_refused_7 s a ((address_refusal_iff_condition s a 7).0 e).mapped.inside (owner_of_run (superblock_holding s a) q) e)

-- two such states, of which the same is read at an address
module _ {I J : ℕ → ℕ → State → Type 0} (s t : State) (order places : List ℕ) (before : SoundWith I s order) (after : SoundWith J t places) (a : ℕ)
    (same_setup : t.setup ≡ s.setup)
    (reads : superblock_index a < 64 → SameReads (superblock_holding s a) (superblock_holding t a)) where
  unmapped_same : is_unmapped t a ≡ is_unmapped s a
  unfolding is_unmapped
  unmapped_same = go (dec_lt (superblock_index a) 64)
    where
      past : {K : ℕ → ℕ → State → Type 0} (u : State) (row : List ℕ) → SoundWith K u row → 64 ≤ superblock_index a → leb (u.setup.superblocks * 4096) a ≡ true
      past u row sound far = le-leb (u.setup.superblocks * 4096) a (omega (arith, sound.numbers.superblocks_high))

      go : Dec (superblock_index a < 64) → either (leb (t.setup.superblocks * 4096) a) (is_unused (superblock_holding t a))
          ≡ either (leb (s.setup.superblocks * 4096) a) (is_unused (superblock_holding s a))
      go (yes l) =
          ap₂ (λ (u : Setup) (x : Bool). either (leb (u.superblocks * 4096) a) x) same_setup
          (is_unused_by_owner t places after (superblock_index a) l ∙ (reads l).unused ∙ sym (is_unused_by_owner s order before (superblock_index a) l))
      go (no f) = let far = le_of_not_below f in rw (past t places after far, past s order before far)

  module _ (below : superblock_index a < 64) where
    block_same : block_of t a ≡ block_of s a
    unfolding block_of
    block_same = ap (λ (c : ℕ). offset_of a / size_of c) (reads below).class

    starts_same : starts_run (superblock_holding t a) ≡ starts_run (superblock_holding s a)
    starts_same = starts_run_same (superblock_holding t a) (superblock_holding s a) (reads below).of_run (reads below).run

    misaligned_same : is_misaligned t a ≡ is_misaligned s a
    unfolding is_misaligned is_run_start is_off_block
    misaligned_same = rw ((reads below).of_run, starts_same, block_same, (reads below).class)

  -- 5 and 6 are met as before
  pub refused_5_in_other : address_refusal s a ≡ 5 → address_refusal t a ≡ 5
  refused_5_in_other e = sym
      (address_refusal_5 t a (is_unmapped t a) refl
      (unmapped_same ∙ true_of_decides (decides_is_unmapped s [] 0 a) ((address_refusal_iff_condition s a 5).0 e)))

  mapped_in_table : Mapped s a → superblock_index a < 64
  mapped_in_table m = omega (arith, m.inside, before.numbers.superblocks_high)

  is_mapped_in_other : Mapped s a → is_unmapped t a ≡ false
  is_mapped_in_other m = unmapped_same ∙ false_of_decides (decides_is_unmapped s [] 0 a) m

  pub refused_6_in_other : address_refusal s a ≡ 6 → address_refusal t a ≡ 6
  refused_6_in_other e =
      let h = (address_refusal_iff_condition s a 6).0 e in
      sym (address_refusal_6 t a (is_unmapped t a) refl (is_mapped_in_other h.mapped) (is_misaligned t a) refl
      (misaligned_same (mapped_in_table h.mapped) ∙ true_of_decides (decides_is_misaligned s [] 0 a) h.misaligned))

  aligned_in_other : Mapped s a → OnBlock s a → is_misaligned t a ≡ false
  aligned_in_other m on = misaligned_same (mapped_in_table m) ∙ false_of_decides (decides_is_misaligned s [] 0 a) on

  -- 7 is met where a block of a class starts that has no mark now
  pub refused_7_of_cleared_mark : (mark : ℕ) → BlockStarts mark s a → is_in_run s a ≡ false → mark_bit (superblock_holding t a).live (block_of s a) ≡ 0
      → address_refusal t a ≡ 7
  unfolding is_live_at
  refused_7_of_cleared_mark mark h outside clear =
      let l = mapped_in_table h.mapped in
      sym (address_refusal_7 t a (is_unmapped t a) refl (is_mapped_in_other h.mapped) (is_misaligned t a) refl
      (aligned_in_other h.mapped h.aligned) (is_live_at t a) refl
      (no_mark_of_mark_bit_zero (live_blocks (superblock_holding t a)) (block_of t a)
      (ap₂ mark_bit (live_blocks_outside_run (superblock_holding t a) ((reads l).of_run ∙ outside)) (block_same l) ∙ clear)))

  -- the same is met, where the mark of the block at the address is the same
  module _ (marks : block_of s a < 256 → mark_bit (superblock_holding t a).live (block_of s a) ≡ mark_bit (superblock_holding s a).live (block_of s a)) where
    live_same : superblock_index a < 64 → OnBlock s a → is_live_at t a ≡ is_live_at s a
    unfolding is_live_at is_marked starts_run
    live_same l (on_block_of_class f e in_class) =
        let outside = outside_run_of_owner (superblock_holding s a) f in
        rw (
          live_blocks_outside_run (superblock_holding t a) ((reads l).of_run ∙ outside),
          live_blocks_outside_run (superblock_holding s a) outside,
          block_same l,
        )
        (ap (λ (m : ℕ). eqb m 1) (marks (omega (arith, blocks_of_le_256 (superblock_holding s a).class))))
    live_same l (on_run_start home first offset) =
        let starts : starts_run (superblock_holding s a) ≡ true =
        rw (of_run_of_owner (superblock_holding s a) home, lt-ltb 0 (superblock_holding s a).run first) in
        rw (live_blocks_of_first (superblock_holding t a) (starts_same l ∙ starts), live_blocks_of_first (superblock_holding s a) starts, block_same l)

    pub refusal_in_other : address_refusal t a ≡ address_refusal s a
    unfolding is_live_at
    refusal_in_other = go (address_refusal_is_0_5_6_or_7 s a)
      where
        go : (address_refusal s a ≡ 0) ⊎ ((address_refusal s a ≡ 5) ⊎ ((address_refusal s a ≡ 6) ⊎ (address_refusal s a ≡ 7)))
            → address_refusal t a ≡ address_refusal s a
        go (inl e) =
            let h = (address_refusal_iff_condition s a 0).0 e in
            no_refusal_of_live_block t a (is_mapped_in_other h.mapped) (aligned_in_other h.mapped h.aligned)
            (live_same (mapped_in_table h.mapped) h.aligned ∙ live_of_no_refusal s a e) ∙ sym e
        go (inr (inl e)) = refused_5_in_other e ∙ sym e
        go (inr (inr (inl e))) = refused_6_in_other e ∙ sym e
        go (inr (inr (inr e))) =
            let h = (address_refusal_iff_condition s a 7).0 e in
            sym (address_refusal_7 t a (is_unmapped t a) refl (is_mapped_in_other h.mapped) (is_misaligned t a) refl
            (aligned_in_other h.mapped h.aligned) (is_live_at t a) refl
            (live_same (mapped_in_table h.mapped) h.aligned ∙ no_mark_of_mark_bit_zero (live_blocks (superblock_holding s a)) (block_of s a) h.mark_is))
            ∙ sym e
