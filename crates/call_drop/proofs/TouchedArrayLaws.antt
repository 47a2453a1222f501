-- The heaps and classes that a drop touches, as an array that is filled address by address. Assumes nothing.
use mathlib.Core.Path.{◌≡◌, refl, sym, ap, ◌∙◌}
use mathlib.Core.Bool.{Bool, true, false}
use mathlib.Core.List.{List, [], ◌∷◌}
use Prim.Native.Nat.{ℕ, zero, suc, ◌+◌, ◌≤◌, ◌<◌}
use native.Mathlib.Nat.{le_of_suc-le-suc, not-suc-le-zero}
use native.Mathlib.Numerals.{add-one}
use native.Mathlib.Decide.{ℕ_discrete}
use native.Mathlib.Omega.{arith}
use lib.ListN.{length, get_or, take, set, replicate, length-set, get_or-replicate}
use lib.Seq.{take_all, get_or-set_same, get_or-set_other}
use Rattle.base_laws.specs.Sums.{either}
use Rattle.class_rules.specs.Classes.{class_count}
use Rattle.heap_rules.specs.declared.Superblock.{Superblock}
use Rattle.heap_rules.specs.declared.State.{State}
use Rattle.heap_rules.specs.Table.{run_owner}
use Rattle.heap_rules.specs.Counts.{belongs}
use Rattle.heap_rules.specs.Totals.{heap_count}
use Rattle.heap_laws.proofs.CountLaws.{belongs_true, not_belongs_of_other_owner, not_belongs_of_other_class}
use Rattle.heap_laws.proofs.RunsKeptLaws.{outside_run_of_owner}
use Rattle.call_rules.specs.Free.{superblock_holding}
use Rattle.call_rules.specs.Drop.{is_touched}
use Rattle.call_drop.specs.DropSteps.{FreesSafe, touched_in, TellsTouched}

-- ---- one address more
either_assoc : (x y z : Bool) → either x (either y z) ≡ either (either x y) z
either_assoc true y z = refl
either_assoc false y z = refl

either_false_right : (x : Bool) → either x false ≡ x
either_false_right true = refl
either_false_right false = refl

either_true_right : (x : Bool) → either x true ≡ true
either_true_right true = refl
either_true_right false = refl

pub is_touched_at_next : (s : State) (addresses : List ℕ) (i h c : ℕ) → i < length addresses
    → is_touched s (take (suc i) addresses) h c ≡ either (is_touched s (take i addresses) h c) (belongs h c (superblock_holding s (get_or addresses i 0)))
unfolding is_touched
is_touched_at_next s [] i h c l = absurd (not-suc-le-zero l)
is_touched_at_next s (a ∷ addresses) zero h c l = either_false_right (belongs h c (superblock_holding s a))
is_touched_at_next s (a ∷ addresses) (suc i) h c l =
    ap (either (belongs h c (superblock_holding s a))) (is_touched_at_next s addresses i h c (le_of_suc-le-suc l))
    ∙ either_assoc (belongs h c (superblock_holding s a)) (is_touched s (take i addresses) h c) _

-- ---- the loop: the array tells the heaps and classes of the addresses below i
pub record ToldBelow (touched : List (List Bool)) (s : State) (addresses : List ℕ) (i : ℕ) : Type 0 where
  pub heaps : length touched ≡ heap_count
  pub classes : (h : ℕ) → h < heap_count → length (get_or touched h []) ≡ class_count
  pub tells : TellsTouched touched s (take i addresses)

pub none_told : (s : State) (addresses : List ℕ) → ToldBelow (replicate heap_count (replicate class_count false)) s addresses 0
unfolding is_touched
none_told s addresses = record {
  heaps = refl;
  classes = λ h l. ap (λ (classes : List Bool). length classes) (get_or-replicate heap_count h (replicate class_count false) [] l);
  tells = λ h c lh lc.
      ap (λ (classes : List Bool). get_or classes c false) (get_or-replicate heap_count h (replicate class_count false) [] lh)
      ∙ get_or-replicate class_count c false false lc;
}

module _ (s : State) (addresses : List ℕ) (i : ℕ) (safe : FreesSafe s addresses) (l : i < length addresses) where
  abbrev b : Superblock
  b = superblock_holding s (get_or addresses i 0)

  -- it is of a heap, and so of no run
  pub class_in_array : b.owner < heap_count → b.class < class_count
  class_in_array of_heap = ((safe i l).of_heap_and_class (outside_run_of_owner b (λ (q : b.owner ≡ run_owner). omega arith))).1

  module _ (touched : List (List Bool)) (told : ToldBelow touched s addresses i) where
    -- a superblock of a run is of no heap: the array stays
    pub told_past_run : heap_count ≤ b.owner → ToldBelow touched s addresses (i + 1)
    told_past_run high = record {
      heaps = told.heaps;
      classes = told.classes;
      tells = λ h c lh lc. rw (
        add-one,
        is_touched_at_next s addresses i h c l,
        not_belongs_of_other_owner h c b (λ (q : b.owner ≡ h). omega arith),
      )
          (told.tells h c lh lc ∙ sym (either_false_right (is_touched s (take i addresses) h c)));
    }

    -- else its heap and class are touched too
    module _ (of_heap : b.owner < heap_count) where
      abbrev with_pair : List (List Bool)
      with_pair = set touched b.owner (set (get_or touched b.owner []) b.class true)

      at_owner : get_or with_pair b.owner [] ≡ set (get_or touched b.owner []) b.class true
      at_owner = get_or-set_same touched b.owner _ [] (omega (arith, told.heaps))

      elsewhere : (h : ℕ) → (h ≡ b.owner → ⊥) → get_or with_pair h [] ≡ get_or touched h []
      elsewhere h f = get_or-set_other touched b.owner h _ [] f

      classes_at : (h : ℕ) → h < heap_count → Dec (h ≡ b.owner) → length (get_or with_pair h []) ≡ class_count
      classes_at h lh (yes e) = rw (e, at_owner) (length-set (get_or touched b.owner []) b.class true ∙ told.classes b.owner of_heap)
      classes_at h lh (no f) = rw (elsewhere h f) (told.classes h lh)

      tells_at : (h c : ℕ) → h < heap_count → c < class_count → Dec (h ≡ b.owner) → Dec (c ≡ b.class)
          → touched_in with_pair h c ≡ either (is_touched s (take i addresses) h c) (belongs h c b)
      tells_at h c lh lc (no f) at_class =
          rw (elsewhere h f, not_belongs_of_other_owner h c b (λ q. f (sym q)))
          (told.tells h c lh lc ∙ sym (either_false_right (is_touched s (take i addresses) h c)))
      tells_at h c lh lc (yes e) (no f) =
          rw (e, at_owner, get_or-set_other (get_or touched b.owner []) b.class c true false f, not_belongs_of_other_class b.owner c b (λ q. f (sym q)))
          (told.tells b.owner c of_heap lc ∙ sym (either_false_right (is_touched s (take i addresses) b.owner c)))
      tells_at h c lh lc (yes e) (yes f) =
          rw (
            e,
            at_owner,
            f,
            get_or-set_same (get_or touched b.owner []) b.class true false (omega (arith, told.classes b.owner of_heap, class_in_array of_heap)),
            belongs_true b.owner b.class b refl refl,
          ) (sym (either_true_right (is_touched s (take i addresses) b.owner b.class)))

      pub told_at_next : ToldBelow (set touched b.owner (set (get_or touched b.owner []) b.class true)) s addresses (i + 1)
      told_at_next = record {
        heaps = length-set touched b.owner _ ∙ told.heaps;
        classes = λ h lh. classes_at h lh (ℕ_discrete h b.owner);
        tells = λ h c lh lc. rw (add-one, is_touched_at_next s addresses i h c l) (tells_at h c lh lc (ℕ_discrete h b.owner) (ℕ_discrete c b.class));
      }

pub told_at_end : (touched : List (List Bool)) (s : State) (addresses : List ℕ) (i : ℕ) → ToldBelow touched s addresses i → length addresses ≤ i
    → TellsTouched touched s addresses
told_at_end touched s addresses i told end h c lh lc = told.tells h c lh lc ∙ ap (λ (l : List ℕ). is_touched s l h c) (take_all i addresses end)
