-- A call on a state whose superblocks from N on are unused and whose totals are right is the call behind the check, where the first N pass: so cases of
-- whole calls are computed. Assumes nothing.
use mathlib.Core.Path.{◌≡◌, refl, ap}
use mathlib.Core.Bool.{Bool, true}
use mathlib.Core.List.{List, [], ◌∷◌, map}
use Prim.Native.Nat.{ℕ, ◌*◌}
use lib.ListN.{length, get_or, drop}
use lib.Dec.{leb}
use Rattle.base_laws.specs.Sums.{both}
use Rattle.base_laws.proofs.TestLaws.{T_of_true, true_of_T, both_left, both_right, both_make}
use Rattle.heap_rules.specs.declared.Superblock.{Superblock}
use Rattle.heap_rules.specs.declared.State.{State}
use Rattle.heap_rules.specs.declared.Totals.{Totals}
use Rattle.heap_rules.specs.Totals.{no_totals, recounted, TotalsKept}
use Rattle.check_rules.specs.Check.{within_limits}
use Rattle.heap_laws.proofs.UsedPartLaws.{used_table, used_part_valid, rest_of_used_part}
use Rattle.call_rules.specs.Calls.{Call, call_of, call_unchecked}
use Rattle.call_rules.proofs.CheckFirst.{call_past_check}

-- "13 for setup numbers, 12, the rest of 13", of the first N superblocks
abbrev pub used_part_passes : State → List ℕ → Bool
used_part_passes s order = both (within_limits s.setup) (both (leb (s.setup.superblocks * 256) (length order)) (used_part_valid s order))

pub call_past_used_part : (s : State) (order : List ℕ) (call : Call) → s.table ≡ used_table s → TotalsKept s → used_part_passes s order ≡ true
    → call_of s order call ≡ call_unchecked s order call
call_past_used_part s order call table kept passes =
    let t = T_of_true _ passes in
    let limits = both_left (within_limits s.setup) _ t in
    let rest = both_right (within_limits s.setup) _ t in
    let storage = both_left (leb (s.setup.superblocks * 256) (length order)) _ rest in
    let valid = rest_of_used_part s table order limits kept (both_right (leb (s.setup.superblocks * 256) (length order)) _ rest) in
    let storage-and-rest = both_make (leb (s.setup.superblocks * 256) (length order)) _ storage valid in
    call_past_check s order call (true_of_T _ (both_make (within_limits s.setup) _ limits storage-and-rest))

-- each of a list of cases
module _ {A : Type 0} (state : A → State) (order : A → List ℕ) (call : A → Call) where
  pub calls_past_used_part : (l : List A) → map (λ (a : A). (state a).table) l ≡ map (λ (a : A). used_table (state a)) l
      → map (λ (a : A). (state a).totals) l ≡ map (λ (a : A). recounted (state a).table) l
      → map (λ (a : A). used_part_passes (state a) (order a)) l ≡ map (λ (a : A). true) l
      → map (λ (a : A). call_of (state a) (order a) (call a)) l ≡ map (λ (a : A). call_unchecked (state a) (order a) (call a)) l
  calls_past_used_part [] tables totals passes = refl
  calls_past_used_part (a ∷ l) tables totals passes =
      let table = ap (λ (x : List (List Superblock)). get_or x 0 []) tables in
      let kept = ap (λ (x : List Totals). get_or x 0 no_totals) totals in
      rw (
        call_past_used_part (state a) (order a) (call a) table kept (ap (λ (x : List Bool). get_or x 0 true) passes),
        calls_past_used_part l (ap (drop 1) tables) (ap (drop 1) totals) (ap (drop 1) passes),
      )
