-- The frees of a drop that meets no refusal can be made, in a state that passes. What they ask does not go by the order storage, and a state that
-- passes still does with more of it lent, so that there is a place for every block. Assumes nothing.
use mathlib.Core.Path.{◌≡◌, sym, ap, subst}
use mathlib.Core.Bool.{true}
use mathlib.Core.Logic.{◌⊎◌, inl, inr}
use mathlib.Core.List.{List, ◌++◌}
use Prim.Native.Nat.{ℕ, ◌+◌, ◌*◌}
use native.Mathlib.Omega.{arith}
use lib.ListN.{length, replicate, length-append, length-replicate, get_or-append}
use lib.Dec.{T, eqb, leb, leb→le, le→leb}
use Rattle.base_laws.proofs.TestLaws.{T_of_true, true_of_T, both_left, both_right, both_make}
use Rattle.base_laws.proofs.SumLaws.{all_at, all_of_each, all_cong}
use Rattle.class_rules.specs.Classes.{blocks_of}
use Rattle.marks_rules.specs.Marks.{mark_bit, no_mark_from}
use Rattle.order_rules.specs.Order.{place}
use Rattle.filled_rules.specs.FilledPlaces.{occurrences, filled_places, places_in_storage, each_once, places_valid}
use Rattle.filled_rules.proofs.OccurrenceLaws.{occurrences_cong}
use Rattle.heap_rules.specs.declared.Superblock.{Superblock}
use Rattle.heap_rules.specs.declared.Setup.{Setup}
use Rattle.heap_rules.specs.declared.State.{State}
use Rattle.heap_rules.specs.Table.{superblock_at}
use Rattle.check_rules.specs.Check.{superblock_valid, passes}
use Rattle.check_rules.proofs.ClauseLaws.{clauses_of_rest, rest_of_clauses, limits_of_passes, rest_of_passes, passes_of_limits_and_rest}
use Rattle.heap_laws.proofs.StateFacts.{Unowned, Owned, Shape}
use Rattle.heap_laws.proofs.StateCheckLaws.{unowned_or_owned_of_superblock_valid, superblock_valid_of_unowned, superblock_valid_of_owned}
use Rattle.call_rules.specs.Drop.{first_address_refusal}
use Rattle.call_laws.proofs.DropLaws.{frees_safe}
use Rattle.call_drop.specs.DropSteps.{FreesSafe}

-- ---- more order places lent
module _ (order more : List ℕ) where
  places_valid_of_longer : (live : List ℕ) (k n : ℕ) → T (places_valid order live k n) → T (places_valid (order ++ more) live k n)
  unfolding places_valid places_in_storage each_once place
  places_valid_of_longer live k n t =
      let rest = both_right (no_mark_from live n) _ t in
      let fits = leb→le (k * 256 + filled_places live n) (length order) (both_left (leb (k * 256 + filled_places live n) (length order)) _ rest) in
      both_make (no_mark_from live n) _ (both_left (no_mark_from live n) _ t)
      (both_make (leb (k * 256 + filled_places live n) (length (order ++ more))) _
      (le→leb (k * 256 + filled_places live n) (length (order ++ more)) (omega (arith, length-append order more)))
      (subst T (all_cong (λ j. eqb (occurrences (place order k) (filled_places live n) j + mark_bit live j) 1)
      (λ j. eqb (occurrences (place (order ++ more) k) (filled_places live n) j + mark_bit live j) 1) n
      (λ j l. ap (λ (x : ℕ). eqb (x + mark_bit live j) 1) (occurrences_cong (place order k) (place (order ++ more) k) (filled_places live n) j
      (λ p h. sym (get_or-append order more 0 (k * 256 + p) (omega arith))))))
      (both_right (leb (k * 256 + filled_places live n) (length order)) _ rest)))

  superblock_valid_of_longer : (u : Setup) (k : ℕ) (b : Superblock) → T (superblock_valid u order k b) → T (superblock_valid u (order ++ more) k b)
  superblock_valid_of_longer u k b t = go (unowned_or_owned_of_superblock_valid u order k b t)
    where
      go : Unowned b ⊎ Owned u order k b → T (superblock_valid u (order ++ more) k b)
      go (inl h) = superblock_valid_of_unowned u (order ++ more) k b h
      go (inr h) = superblock_valid_of_owned u (order ++ more) k b
          (record { owner = h.owner; class = h.class; places = places_valid_of_longer b.live k (blocks_of b.class) h.places })

  pub passes_with_longer_order : (s : State) → passes s order ≡ true → passes s (order ++ more) ≡ true
  passes_with_longer_order s e =
      let t = T_of_true (passes s order) e in
      let clauses = clauses_of_rest s order (rest_of_passes s order t) in
      true_of_T (passes s (order ++ more))
      (passes_of_limits_and_rest s (order ++ more) (limits_of_passes s order t)
      (rest_of_clauses s (order ++ more) (record {
        superblocks = all_of_each (λ k. superblock_valid s.setup (order ++ more) k (superblock_at s k)) 64
            (λ k l. superblock_valid_of_longer s.setup k (superblock_at s k)
            (all_at (λ m. superblock_valid s.setup order m (superblock_at s m)) 64 clauses.superblocks k l));
        past_unused = clauses.past_unused;
        processor_heaps = clauses.processor_heaps;
        global_heap = clauses.global_heap;
        names = clauses.names;
        totals = clauses.totals;
        ranks = clauses.ranks;
        runs = clauses.runs;
      })))

-- ---- so each free can be made
pub frees_safe_of_passes : (s : State) (order addresses : List ℕ) → Shape s → passes s order ≡ true → first_address_refusal s addresses ≡ 0
    → FreesSafe s addresses
frees_safe_of_passes s order addresses shape passed none i l =
    let more : List ℕ = replicate (s.setup.superblocks * 256) 0 in
    let at = frees_safe s (order ++ more) addresses shape (passes_with_longer_order order more s passed)
    (omega (arith, length-append order more, length-replicate {A = ℕ} (s.setup.superblocks * 256) 0)) none i l in
    record { in_table = at.0; of_heap_and_class = at.1; run_in_table = at.2; totals = at.3; ranks = at.4 }
