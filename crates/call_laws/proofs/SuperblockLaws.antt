-- One superblock: what it adds to a class's counts, and the owners that its replacement changes. Assumes nothing.
use mathlib.Core.Path.{◌≡◌, refl, ap, ap₂, ◌∙◌}
use mathlib.Core.Bool.{Bool, true, false, not}
use Prim.Native.Nat.{ℕ, ◌≤◌, ◌<◌}
use native.Mathlib.Omega.{arith}
use borrow.Author.Tests.{eq-eqb, ne_eqb, lt-ltb, le-ltb}
use lib.ListN.{length}
use lib.Dec.{eqb}
use Rattle.base_laws.specs.Sums.{pick, both, one}
use Rattle.base_laws.proofs.TestLaws.{one_le_one}
use Rattle.base_laws.proofs.SumLaws.{sum_of_zeros}
use Rattle.base_laws.proofs.ReplacedElement.{sum_set_indexed}
use Rattle.heap_rules.specs.declared.Superblock.{Superblock}
use Rattle.heap_rules.specs.declared.State.{State}
use Rattle.heap_rules.specs.Table.{run_owner, blank, superblock_at, live_in, is_of_heap}
use Rattle.heap_rules.specs.States.{with_superblock}
use Rattle.heap_rules.specs.Counts.{is_owned_of_class, owners_changed}

-- what a superblock adds to a class's counts over all heaps
pub owned_of_class_true : (c : ℕ) (b : Superblock) → b.owner < run_owner → b.class ≡ c → is_owned_of_class c b ≡ true
unfolding is_owned_of_class is_of_heap
owned_of_class_true c b l e = ap₂ both (lt-ltb b.owner run_owner l) (eq-eqb b.class c e)

pub owned_of_class_false : (c : ℕ) (b : Superblock) → (b.class ≡ c → ⊥) → is_owned_of_class c b ≡ false
unfolding is_owned_of_class
owned_of_class_false c b f = ap (both (is_of_heap b)) (ne_eqb b.class c f) ∙ neither (is_of_heap b)
  where
    neither : (x : Bool) → both x false ≡ false
    neither true = refl
    neither false = refl

-- one that no heap owns is of no class
pub unowned_of_no_class : (c : ℕ) (b : Superblock) → run_owner ≤ b.owner → is_owned_of_class c b ≡ false
unfolding is_owned_of_class is_of_heap
unowned_of_no_class c b l = ap (λ (x : Bool). both x (eqb b.class c)) (le-ltb b.owner run_owner l)

-- nothing live adds nothing, to any class
pub no_live_adds_nothing : (c : ℕ) (b : Superblock) → live_in b ≡ 0 → pick (is_owned_of_class c b) (live_in b) 0 ≡ 0
no_live_adds_nothing c b e = go (is_owned_of_class c b)
  where
    go : (t : Bool) → pick t (live_in b) 0 ≡ 0
    go true = e
    go false = refl

-- one superblock replaced changes at most one owner
pub owners_changed_with_superblock_le_1 : (s : State) (k : ℕ) (b : Superblock) → length s.table ≡ 64 → k < 64 → owners_changed s (with_superblock s k b) ≤ 1
unfolding owners_changed
owners_changed_with_superblock_le_1 s k b long l =
    omega (
      arith,
      sum_set_indexed s.table blank k b changed 64 l (omega arith),
      sum_of_zeros (λ m. changed m (superblock_at s m)) 64
          (λ m h. ap (λ (x : Bool). one (not x)) (eq-eqb (superblock_at s m).owner (superblock_at s m).owner refl)),
      one_le_one (not (eqb (superblock_at s k).owner b.owner)),
    )
  where
    changed : ℕ → Superblock → ℕ
    changed m x = one (not (eqb (superblock_at s m).owner x.owner))
