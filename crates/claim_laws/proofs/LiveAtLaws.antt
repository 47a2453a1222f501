-- The live blocks of a state by address and class, and what one block more or less does to them. Assumes nothing.
use mathlib.Core.Path.{◌≡◌, refl, sym, ap, ap₂, ◌∙◌, subst}
use mathlib.Core.Bool.{Bool, true, false}
use mathlib.Core.Logic.{◌⊎◌, inl, inr}
use Prim.Native.Nat.{ℕ, suc, ◌+◌, ◌*◌, ◌/◌, ◌%◌, ◌≤◌, ◌<◌}
use native.Mathlib.Nat.{div-lt_iff_lt-mul, mul-le-mul_left}
use native.Mathlib.Decide.{ℕ_discrete}
use native.Mathlib.Omega.{arith}
use borrow.Author.Tests.{eq-eqb, ne_eqb, eqb-true, lt-ltb, ltb-true}
use lib.ListN.{get_or-replicate}
use lib.Dec.{eqb, ltb}
use Rattle.base_laws.specs.Sums.{pick, both, one}
use Rattle.base_laws.proofs.TestLaws.{one_of_equal, one_of_different}
use Rattle.class_rules.specs.Classes.{class_count, size_of, blocks_of}
use Rattle.class_rules.proofs.ClassTableLaws.{size_of_ge_16, blocks_of_le_256}
use Rattle.class_rules.proofs.OffsetLaws.{block_of_offset, offset_mod_size, offset_of_block}
use Rattle.marks_rules.specs.Marks.{mark_bit}
use Rattle.marks_laws.proofs.MarkLaws.{marks_clear_of_live_count_zero}
use Rattle.heap_rules.specs.declared.Superblock.{Superblock}
use Rattle.heap_rules.specs.declared.State.{State}
use Rattle.heap_rules.specs.declared.Setup.{Setup}
use Rattle.heap_rules.specs.Table.{run_owner, blank, unused, superblock_at, live_in, is_of_run, starts_run, is_of_heap}
use Rattle.heap_rules.specs.States.{new_state}
use Rattle.heap_rules.specs.Counts.{is_owned_of_class, live_of_class}
use Rattle.heap_laws.proofs.RunsKeptLaws.{outside_run_of_owner}
use Rattle.call_rules.specs.Take.{address_of}
use Rattle.call_laws.proofs.CallEffects.{TakeEffect, FreeEffect}
use Rattle.call_laws.proofs.AddressLaws.{address_superblock, address_offset}
use Rattle.call_laws.proofs.SuperblockLaws.{owned_of_class_true, owned_of_class_false, unowned_of_no_class}
use Rattle.claim_laws.proofs.LongAtLaws.{long_at, long_at_of_kept, long_at_none}

-- 1 where a heap owns the superblock for class c and its block j is live, else 0
unfoldable pub live_for : ℕ → Superblock → ℕ → ℕ
live_for c b j = pick (is_owned_of_class c b) (mark_bit b.live j) 0

-- 1 where a live block of class c starts at address a, else 0
unfoldable pub live_at : State → ℕ → ℕ → ℕ
live_at s a c =
    pick (ltb (a / 4096) 64)
    (pick (eqb (a % 4096 % size_of c) 0) (live_for c (superblock_at s (a / 4096)) (a % 4096 / size_of c)) 0)
    0

-- ---- one superblock
module _ (c : ℕ) (b : Superblock) where
  pub live_for_owned : (j : ℕ) → b.owner < run_owner → b.class ≡ c → live_for c b j ≡ mark_bit b.live j
  unfolding live_for
  live_for_owned j l e = rw (owned_of_class_true c b l e)

  pub live_for_other : (j : ℕ) → (b.class ≡ c → ⊥) → live_for c b j ≡ 0
  unfolding live_for
  live_for_other j f = rw (owned_of_class_false c b f)

  -- no heap owns it: nothing in it is of a class
  pub live_for_unowned : (j : ℕ) → run_owner ≤ b.owner → live_for c b j ≡ 0
  unfolding live_for
  live_for_unowned j l = rw (unowned_of_no_class c b l)

  pub live_for_clear : (j : ℕ) → mark_bit b.live j ≡ 0 → live_for c b j ≡ 0
  unfolding live_for
  live_for_clear j e = rw e (same (is_owned_of_class c b))
    where
      same : (t : Bool) → pick {A = ℕ} t 0 0 ≡ 0
      same true = refl
      same false = refl

-- ---- addresses
-- the block that an offset lies in is one of 256
block_below : (c a : ℕ) → c < class_count → a % 4096 / size_of c < 256
block_below c a known =
    let z : 16 ≤ size_of c = size_of_ge_16 c known in
    let m : 256 * 16 ≤ 256 * size_of c = mul-le-mul_left 256 z in
    (div-lt_iff_lt-mul {k = size_of c} {x = a % 4096} {y = 256} (omega arith)).1 (omega arith)

-- an address whose offset is a multiple of the block size is its block's
address_of_block_at : (a c : ℕ) → a % 4096 % size_of c ≡ 0 → address_of (a / 4096) c (a % 4096 / size_of c) ≡ a
unfolding address_of
address_of_block_at a c e = let o = offset_of_block c (a % 4096) e in omega arith

address_same : (a c d k j : ℕ) → a % 4096 % size_of d ≡ 0 → d ≡ c → a / 4096 ≡ k → a % 4096 / size_of d ≡ j → address_of k c j ≡ a
address_same a c d k j e p q r = rw (← p, ← q, ← r) (address_of_block_at a d e)

-- the live blocks of a class go only by those of each superblock
pub live_at_same : (s t : State) (a d : ℕ) → d < class_count
    → ((m b : ℕ) → m < 64 → b < 256 → live_for d (superblock_at t m) b ≡ live_for d (superblock_at s m) b) → live_at t a d ≡ live_at s a d
unfolding live_at
live_at_same s t a d l same = go (ltb (a / 4096) 64) (eqb (a % 4096 % size_of d) 0) refl
  where
    go : (x y : Bool) → ltb (a / 4096) 64 ≡ x
        → pick x (pick y (live_for d (superblock_at t (a / 4096)) (a % 4096 / size_of d)) 0) 0
        ≡ pick x (pick y (live_for d (superblock_at s (a / 4096)) (a % 4096 / size_of d)) 0) 0
    go true true p = same (a / 4096) (a % 4096 / size_of d) (ltb-true (a / 4096) 64 p) (block_below d a l)
    go true false p = refl
    go false y p = refl

-- and there are none at an address of a superblock that has none
pub live_at_none : (s : State) (a d : ℕ) → d < class_count → ((b : ℕ) → b < 256 → live_for d (superblock_at s (a / 4096)) b ≡ 0) → live_at s a d ≡ 0
unfolding live_at
live_at_none s a d l none = rw (none (a % 4096 / size_of d) (block_below d a l)) (go (ltb (a / 4096) 64) (eqb (a % 4096 % size_of d) 0))
  where
    go : (x y : Bool) → pick {A = ℕ} x (pick y 0 0) 0 ≡ 0
    go true true = refl
    go true false = refl
    go false y = refl

-- ---- one live block more
-- In state t block j of superblock k, of class c, is live; in s it is not, and no other block differs.
pub record OneMoreLive (c k j : ℕ) (s t : State) : Type 0 where
  pub class_lt_27 : c < class_count
  pub below : k < 64
  pub block : j < blocks_of c
  pub not_live_before : live_for c (superblock_at s k) j ≡ 0
  pub live_after : live_for c (superblock_at t k) j ≡ 1
  pub no_other_class : (d b : ℕ) → b < 256 → (d ≡ c → ⊥) → live_for d (superblock_at s k) b ≡ 0
  pub others_same : (d m b : ℕ) → m < 64 → b < 256 → ((d ≡ c) × (m ≡ k) × (b ≡ j) → ⊥) → live_for d (superblock_at t m) b ≡ live_for d (superblock_at s m) b
  pub live : (d : ℕ) → live_of_class d t ≡ live_of_class d s + one (eqb c d)
  -- the superblock is of no run, and long blocks are as they were
  pub outside_run : is_of_run (superblock_at s k) ≡ false
  pub long_same : (a : ℕ) → long_at t a ≡ long_at s a

pub live_at_of_address : (s : State) (c k j : ℕ) → c < class_count → k < 64 → j < blocks_of c
    → live_at s (address_of k c j) c ≡ live_for c (superblock_at s k) j
unfolding live_at
live_at_of_address s c k j known below block =
    rw (address_superblock c k j known block, address_offset c k j known block, block_of_offset c known j, offset_mod_size c known j, lt-ltb k 64 below)

module _ (c k j : ℕ) (s t : State) (more : OneMoreLive c k j s t) where
  -- in s nothing is live at the address, in any class
  pub live_at_before_is_zero : (d : ℕ) → d < class_count → live_at s (address_of k c j) d ≡ 0
  live_at_before_is_zero d l = go (ℕ_discrete d c)
    where
      go : Dec (d ≡ c) → live_at s (address_of k c j) d ≡ 0
      go (yes e) = ap (live_at s (address_of k c j)) e ∙ live_at_of_address s c k j more.class_lt_27 more.below more.block ∙ more.not_live_before
      go (no f) = live_at_none s (address_of k c j) d l
          (λ b h. ap (λ (x : ℕ). live_for d (superblock_at s x) b) (address_superblock c k j more.class_lt_27 more.block)
          ∙ more.no_other_class d b h f)

  -- nor a long block
  pub long_at_before_is_zero : long_at s (address_of k c j) ≡ 0
  unfolding starts_run
  long_at_before_is_zero =
      long_at_none s (address_of k c j)
      (ap (λ (x : ℕ). starts_run (superblock_at s x)) (address_superblock c k j more.class_lt_27 more.block)
      ∙ ap (λ (x : Bool). both x (ltb 0 (superblock_at s k).run)) more.outside_run)

  -- another address or class is as it was
  live_at_of_others : (a d : ℕ) → d < class_count → ((d ≡ c) × (address_of k c j ≡ a) → ⊥) → live_at t a d ≡ live_at s a d
  unfolding live_at
  live_at_of_others a d l f = go (ltb (a / 4096) 64) (eqb (a % 4096 % size_of d) 0) refl refl
    where
      go : (x y : Bool) → ltb (a / 4096) 64 ≡ x → eqb (a % 4096 % size_of d) 0 ≡ y
          → pick x (pick y (live_for d (superblock_at t (a / 4096)) (a % 4096 / size_of d)) 0) 0
          ≡ pick x (pick y (live_for d (superblock_at s (a / 4096)) (a % 4096 / size_of d)) 0) 0
      go true true p q =
          more.others_same d (a / 4096) (a % 4096 / size_of d) (ltb-true (a / 4096) 64 p) (block_below d a l)
          (λ h. f (h.0, address_same a c d k j (eqb-true (a % 4096 % size_of d) 0 q) h.0 h.1 h.2))
      go true false p q = refl
      go false y p q = refl

  -- t has one more, at that address
  pub live_at_one_more : (a d : ℕ) → d < class_count → live_at t a d ≡ live_at s a d + one (both (eqb (address_of k c j) a) (eqb c d))
  live_at_one_more a d l = go (ℕ_discrete d c) (ℕ_discrete (address_of k c j) a)
    where
      none : (x : Bool) → one (both x false) ≡ 0
      none true = refl
      none false = refl

      go : Dec (d ≡ c) → Dec (address_of k c j ≡ a) → live_at t a d ≡ live_at s a d + one (both (eqb (address_of k c j) a) (eqb c d))
      go (yes e) (yes q) =
          let x : live_at t a d ≡ 1 = ap₂ (live_at t) (sym q) e ∙ live_at_of_address t c k j more.class_lt_27 more.below more.block ∙ more.live_after in
          let y : live_at s a d ≡ 0 = ap₂ (live_at s) (sym q) e ∙ live_at_of_address s c k j more.class_lt_27 more.below more.block
          ∙ more.not_live_before in
          let z : one (both (eqb (address_of k c j) a) (eqb c d)) ≡ 1 = ap₂ (λ (x y : Bool). one (both x y)) (eq-eqb (address_of k c j) a q)
          (eq-eqb c d (sym e)) in
          omega arith
      go (yes e) (no f) =
          let x = live_at_of_others a d l (λ h. f h.1) in
          let z : one (both (eqb (address_of k c j) a) (eqb c d)) ≡ 0 = ap (λ (x : Bool). one (both x (eqb c d))) (ne_eqb (address_of k c j) a f) in
          omega arith
      go (no f) _ =
          let x = live_at_of_others a d l (λ h. f h.0) in
          let z : one (both (eqb (address_of k c j) a) (eqb c d)) ≡ 0 = ap (λ (x : Bool). one (both (eqb (address_of k c j) a) x))
          (ne_eqb c d (λ q. f (sym q))) ∙ none (eqb (address_of k c j) a) in
          omega arith

-- ---- a take makes one more, a free one less
live_of_class_one_more : (c : ℕ) (s t : State) → live_of_class c t ≡ suc (live_of_class c s) → ((d : ℕ) → (d ≡ c → ⊥) → live_of_class d t ≡ live_of_class d s)
    → (d : ℕ) → live_of_class d t ≡ live_of_class d s + one (eqb c d)
live_of_class_one_more c s t here others d = go (ℕ_discrete d c)
  where
    go : Dec (d ≡ c) → live_of_class d t ≡ live_of_class d s + one (eqb c d)
    go (yes e) = rw e (let z : one (eqb c c) ≡ 1 = one_of_equal c in omega arith)
    go (no f) = let x = others d f in let z : one (eqb c d) ≡ 0 = one_of_different c d (λ q. f (sym q)) in omega arith

module _ (i c k j : ℕ) (s t : State) (below : k < 64) (owner : i < run_owner) (e : TakeEffect i c k j s t) where
  -- the marks that superblock k had were of class c
  live_for_other_class_before_take : (d b : ℕ) → b < 256 → (d ≡ c → ⊥) → live_for d (superblock_at s k) b ≡ 0
  live_for_other_class_before_take d b l f = go e.before
    where
      go : (live_in (superblock_at s k) ≡ 0) ⊎ (((superblock_at s k).class ≡ c) × ((superblock_at s k).owner < run_owner))
          → live_for d (superblock_at s k) b ≡ 0
      go (inl z) = live_for_clear d (superblock_at s k) b (marks_clear_of_live_count_zero (superblock_at s k).live z b l)
      go (inr h) = live_for_other d (superblock_at s k) b (λ q. f (sym q ∙ h.0))

  live_for_before_take : (b : ℕ) → b < 256 → live_for c (superblock_at s k) b ≡ mark_bit (superblock_at s k).live b
  live_for_before_take b l = go e.before
    where
      go : (live_in (superblock_at s k) ≡ 0) ⊎ (((superblock_at s k).class ≡ c) × ((superblock_at s k).owner < run_owner)) → live_for c (superblock_at s k) b
          ≡ mark_bit (superblock_at s k).live b
      go (inl z) = let m = marks_clear_of_live_count_zero (superblock_at s k).live z b l in live_for_clear c (superblock_at s k) b m ∙ sym m
      go (inr h) = live_for_owned c (superblock_at s k) b h.1 h.0

  live_for_after_take : (b : ℕ) → live_for c (superblock_at t k) b ≡ mark_bit (superblock_at t k).live b
  live_for_after_take b = live_for_owned c (superblock_at t k) b (subst (λ (h : ℕ). h < run_owner) (sym e.owner) owner) e.class

  block_in : j < 256
  block_in = let b = blocks_of_le_256 c in let h = e.block in omega arith

  live_for_others_of_take : (d m b : ℕ) → b < 256 → ((d ≡ c) × (m ≡ k) × (b ≡ j) → ⊥) → live_for d (superblock_at t m) b ≡ live_for d (superblock_at s m) b
  unfolding live_for is_owned_of_class is_of_heap
  live_for_others_of_take d m b l f = go (ℕ_discrete m k) (ℕ_discrete d c)
    where
      go : Dec (m ≡ k) → Dec (d ≡ c) → live_for d (superblock_at t m) b ≡ live_for d (superblock_at s m) b
      go (yes p) (yes q) =
          rw (p, q) (live_for_after_take b ∙ e.marks b l (λ r. f (q, p, r)) ∙ sym (live_for_before_take b l))
      go (yes p) (no g) = rw p (live_for_other d (superblock_at t k) b (λ r. g (sym r ∙ e.class)) ∙ sym (live_for_other_class_before_take d b l g))
      go (no g) _ = ap (λ (x : Superblock). live_for d x b) (e.others m g)

  pub one_more_live_of_take : OneMoreLive c k j s t
  one_more_live_of_take =
      record {
        class_lt_27 = e.class_lt_27;
        below = below;
        block = e.block;
        not_live_before = live_for_before_take j block_in ∙ e.not_marked;
        live_after = live_for_after_take j ∙ e.is_marked_lem;
        no_other_class = live_for_other_class_before_take;
        others_same = λ d m b h. live_for_others_of_take d m b;
        live = live_of_class_one_more c s t e.live_of_class_lem e.live_of_others;
        outside_run = e.outside_run;
        long_same = long_at_of_kept s t e.runs;
      }

module _ (c k j moves : ℕ) (s t : State) (below : k < 64) (e : FreeEffect c k j moves s t) where
  class_after : (superblock_at t k).class ≡ c
  class_after = e.classes k below ∙ e.class_before

  -- a superblock that a heap owns is still owned, by heap 0 where it has moved
  still_owned : (d m : ℕ) → m < 64 → is_owned_of_class d (superblock_at t m) ≡ is_owned_of_class d (superblock_at s m)
  unfolding is_owned_of_class is_of_heap
  still_owned d m l = ap₂ both (go (e.owners m l)) (ap (λ (x : ℕ). eqb x d) (e.classes m l))
    where
      go : ((superblock_at t m).owner ≡ (superblock_at s m).owner) ⊎ (((superblock_at s m).owner ≡ (superblock_at s k).owner) × ((superblock_at t m).owner ≡ 0))
          → ltb (superblock_at t m).owner run_owner ≡ ltb (superblock_at s m).owner run_owner
      go (inl q) = ap (λ (x : ℕ). ltb x run_owner) q
      go (inr h) = ap (λ (x : ℕ). ltb x run_owner) h.1
          ∙ sym (lt-ltb (superblock_at s m).owner run_owner (subst (λ (x : ℕ). x < run_owner) (sym h.0) e.owned_before))

  live_for_others_of_free : (d m b : ℕ) → m < 64 → b < 256 → ((d ≡ c) × (m ≡ k) × (b ≡ j) → ⊥)
      → live_for d (superblock_at s m) b ≡ live_for d (superblock_at t m) b
  unfolding live_for
  live_for_others_of_free d m b l h f = go (ℕ_discrete d c) (ℕ_discrete m k)
    where
      kept : mark_bit (superblock_at t m).live b ≡ mark_bit (superblock_at s m).live b → live_for d (superblock_at s m) b ≡ live_for d (superblock_at t m) b
      kept q = ap₂ (λ (x : Bool) (y : ℕ). pick x y 0) (sym (still_owned d m l)) (sym q)

      go : Dec (d ≡ c) → Dec (m ≡ k) → live_for d (superblock_at s m) b ≡ live_for d (superblock_at t m) b
      go (yes q) _ = kept (e.marks m b l (λ r. f (q, r.0, r.1)) h)
      go (no g) (yes p) =
          ap (λ (x : ℕ). live_for d (superblock_at s x) b) p
          ∙ live_for_other d (superblock_at s k) b (λ r. g (sym r ∙ e.class_before))
          ∙ sym (live_for_other d (superblock_at t k) b (λ r. g (sym r ∙ class_after)))
          ∙ ap (λ (x : ℕ). live_for d (superblock_at t x) b) (sym p)
      go (no g) (no n) = kept (e.marks m b l (λ r. n r.0) h)

  pub one_more_live_of_free : OneMoreLive c k j t s
  one_more_live_of_free =
      record {
        class_lt_27 = e.class_lt_27;
        below = below;
        block = e.block;
        not_live_before = live_for_clear c (superblock_at t k) j e.not_marked;
        live_after = live_for_owned c (superblock_at s k) j e.owned_before e.class_before ∙ e.was_marked;
        no_other_class = λ d b h f. live_for_other d (superblock_at t k) b (λ q. f (sym q ∙ class_after));
        others_same = live_for_others_of_free;
        live = live_of_class_one_more c t s e.live_of_class_lem (λ d f. sym (e.live_of_others d f));
        outside_run = (e.runs k below).0 ∙ outside_run_of_owner (superblock_at s k)
            (λ (q : (superblock_at s k).owner ≡ run_owner). omega (arith, e.owned_before));
        long_same = λ a. sym (long_at_of_kept s t e.runs a);
      }

-- ---- nothing is live in a new state
pub live_for_unused : (c j : ℕ) → live_for c unused j ≡ 0
unfolding live_for is_owned_of_class is_of_heap
live_for_unused c j = refl

pub live_at_of_new_state : (u : Setup) (a c : ℕ) → live_at (new_state u) a c ≡ 0
unfolding live_at
live_at_of_new_state u a c = go (ltb (a / 4096) 64) (eqb (a % 4096 % size_of c) 0) refl
  where
    go : (x y : Bool) → ltb (a / 4096) 64 ≡ x → pick x (pick y (live_for c (superblock_at (new_state u) (a / 4096)) (a % 4096 / size_of c)) 0) 0 ≡ 0
    go true true e = ap (λ (b : Superblock). live_for c b (a % 4096 / size_of c)) (get_or-replicate 64 (a / 4096) unused blank (ltb-true (a / 4096) 64 e))
        ∙ live_for_unused c (a % 4096 / size_of c)
    go true false e = refl
    go false y e = refl
