-- A row that is loaded, worked on as a table, and stored: the call is one on the row. Assumes nothing.
use mathlib.Core.Path.{◌≡◌, refl, sym, ap, ◌∙◌, subst}
use mathlib.Core.Bool.{Bool, true, false}
use mathlib.Core.List.{List}
use Prim.Native.Nat.{ℕ, ◌*◌}
use native.Mathlib.Decide.{ℕ_discrete}
use lib.ListN.{length}
use lib.Dec.{eqb, leb}
use borrow.Author.Tests.{eq-eqb, ne_eqb}
use Rattle.base_laws.specs.Sums.{pick}
use Rattle.base_laws.proofs.TestLaws.{pick_true, pick_false, true_not_false}
use Rattle.heap_rules.specs.declared.Superblock.{Superblock}
use Rattle.heap_rules.specs.declared.Setup.{Setup}
use Rattle.heap_rules.specs.States.{no_state}
use Rattle.check_rules.specs.Check.{within_limits, passes}
use Rattle.call_rules.specs.Answers.{number_of, PassesIfAccepted}
use Rattle.call_rules.specs.Calls.{Call, call_of}
use Rattle.row_rules.specs.declared.Control.{Control}
use Rattle.row_rules.specs.Row.{RowAfter, row_after, state_of, control_of, as_row_after, row_refused, row_accepted_setup, setup_on, call_on, row_setup}
use Rattle.row_rules.specs.Row.{row_call}
use Rattle.row_by_value.specs.declared.TableCall.{TableCall}
use Rattle.row_by_value.specs.Tables.{is_accepted, row_after_call}
use Rattle.row_laws.proofs.RowLaws.{setup_on_other_length_not_accepted, call_on_other_length_not_accepted, row_setup_row_if_accepted, row_call_row_if_accepted}
use Rattle.row_rules.specs.LoadStore.{load_of, store_of}

-- what a call leaves, with another row
abbrev with_row : RowAfter → List Superblock → RowAfter
with_row x row = record { outcome = x.outcome; control = x.control; row = row; order = x.order }

-- a row of another length is not looked at
setup_on_other_length_ignores_row : (n : ℕ) (u : Setup) (t row : List Superblock) (order : List ℕ) → (n ≡ 64 → ⊥) → with_row (setup_on n u t order) row
    ≡ setup_on n u row order
unfolding setup_on
setup_on_other_length_ignores_row n u t row order f = go (within_limits u) (leb (u.superblocks * 256) (length order)) (eqb n 64) (ne_eqb n 64 f)
  where
    go : (a b c : Bool) → c ≡ false
        → with_row (pick a (pick b (pick c (row_accepted_setup u order) (row_refused 13 (control_of no_state) t order))
        (row_refused 12 (control_of no_state) t order)) (row_refused 1 (control_of no_state) t order)) row
        ≡ pick a (pick b (pick c (row_accepted_setup u order) (row_refused 13 (control_of no_state) row order))
        (row_refused 12 (control_of no_state) row order))
        (row_refused 1 (control_of no_state) row order)
    go true true true e = absurd (true_not_false true refl e)
    go true true false e = refl
    go true false c e = refl
    go false b c e = refl

call_on_other_length_ignores_row : (n : ℕ) (control : Control) (t row : List Superblock) (order : List ℕ) (call : Call) → (n ≡ 64 → ⊥)
    → with_row (call_on n control t order call) row ≡ call_on n control row order call
unfolding call_on
call_on_other_length_ignores_row n control t row order call f =
    go (within_limits control.setup) (leb (control.setup.superblocks * 256) (length order)) (eqb n 64) (ne_eqb n 64 f)
  where
    go : (a b c : Bool) → c ≡ false
        → with_row (pick a (pick b (pick c (as_row_after (call_of (state_of control t) order call)) (row_refused 13 control t order))
        (row_refused 12 control t order)) (row_refused 13 control t order)) row
        ≡ pick a (pick b (pick c (as_row_after (call_of (state_of control row) order call)) (row_refused 13 control row order))
        (row_refused 12 control row order)) (row_refused 13 control row order)
    go true true true e = absurd (true_not_false true refl e)
    go true true false e = refl
    go true false c e = refl
    go false b c e = refl

pick_of_equal : (b : Bool) (row : List Superblock) → pick b row row ≡ row
pick_of_equal true row = refl
pick_of_equal false row = refl

-- whatever the call
module _ (row t stored : List Superblock) (after : List ℕ) (r : TableCall) (loads : t ≡ load_of row)
    (accepted : Bool) (accepts : accepted ≡ is_accepted r.answer.outcome) (stores : stored ≡ store_of accepted row r.table) where
  stored_result_is_rule : (f : List Superblock → RowAfter) → ((length row ≡ 64 → ⊥) → with_row (f t) row ≡ f row)
      → ((b : Bool) → b ≡ is_accepted (f row).outcome → pick b (f row).row row ≡ (f row).row) → row_after_call r after ≡ f t
      → row_after r.answer stored after ≡ f row
  stored_result_is_rule f other kept works = go (ℕ_discrete (length row) 64)
    where
      go : Dec (length row ≡ 64) → row_after r.answer stored after ≡ f row
      go (yes e) =
          let gives : row_after_call r after ≡ f row = works ∙ ap f (loads ∙ pick_true (eqb (length row) 64) row _ (eq-eqb (length row) 64 e)) in
          let table_is : r.table ≡ (f row).row = ap (λ (x : RowAfter). x.row) gives in
          let stored_is : stored ≡ r.table =
          stores ∙ ap (λ (zs : List Superblock). pick accepted zs row) (pick_true (eqb (length row) 64) r.table row (eq-eqb (length row) 64 e)
          ∙ table_is)
          ∙ kept accepted (accepts ∙ ap (λ (x : RowAfter). is_accepted x.outcome) gives)
          ∙ sym table_is in
          ap (λ (zs : List Superblock). row_after r.answer zs after) stored_is ∙ gives
      go (no g) =
          ap (λ (zs : List Superblock). row_after r.answer zs after)
          (stores ∙ ap (λ (zs : List Superblock). pick accepted zs row) (pick_false (eqb (length row) 64) r.table row (ne_eqb (length row) 64 g))
          ∙ pick_of_equal accepted row)
          ∙ ap (λ (x : RowAfter). with_row x row) works ∙ other g

  pub stored_setup_is_row_setup : (u : Setup) (order : List ℕ) → row_after_call r after ≡ setup_on (length row) u t order → row_after r.answer stored after
      ≡ row_setup u row order
  stored_setup_is_row_setup u order = stored_result_is_rule (λ z. setup_on (length row) u z order)
      (setup_on_other_length_ignores_row (length row) u t row order) (row_setup_row_if_accepted u row order)

  pub stored_call_is_row_call : (control : Control) (order : List ℕ) (call : Call) → row_after_call r after ≡ call_on (length row) control t order call
      → row_after r.answer stored after ≡ row_call control row order call
  stored_call_is_row_call control order call = stored_result_is_rule (λ z. call_on (length row) control z order call)
      (call_on_other_length_ignores_row (length row) control t row order call) (row_call_row_if_accepted control row order call)

  -- "An accepted call yields a state that passes": what is stored is the table that does
  abbrev PassesIfAcceptedWith : List Superblock → Type 0
  PassesIfAcceptedWith zs = PassesIfAccepted r.answer.outcome (state_of r.answer.control zs) after

  stored_passes_if_accepted : (f : List Superblock → RowAfter) → ((length row ≡ 64 → ⊥) → number_of (f t).outcome ≡ 0 → ⊥) → row_after_call r after ≡ f t
      → PassesIfAcceptedWith r.table → PassesIfAcceptedWith stored
  stored_passes_if_accepted f not-accepted works y z = go (ℕ_discrete (length row) 64)
    where
      taken : accepted ≡ true
      taken = accepts ∙ ap (λ (n : ℕ). eqb n 0) z

      go : Dec (length row ≡ 64) → passes (state_of r.answer.control stored) after ≡ true
      go (yes e) =
          let stored_is : stored ≡ r.table = stores ∙ pick_true accepted _ row taken ∙ pick_true (eqb (length row) 64) r.table row
          (eq-eqb (length row) 64 e) in
          subst PassesIfAcceptedWith (sym stored_is) y z
      go (no g) = absurd (not-accepted g (sym (ap (λ (x : RowAfter). number_of x.outcome) works) ∙ z))

  pub stored_setup_passes_if_accepted : (u : Setup) (order : List ℕ) → row_after_call r after ≡ setup_on (length row) u t order
      → PassesIfAcceptedWith r.table → PassesIfAcceptedWith stored
  stored_setup_passes_if_accepted u order = stored_passes_if_accepted (λ z. setup_on (length row) u z order)
      (setup_on_other_length_not_accepted (length row) u t order)

  pub stored_call_passes_if_accepted : (control : Control) (order : List ℕ) (call : Call) → row_after_call r after
      ≡ call_on (length row) control t order call → PassesIfAcceptedWith r.table → PassesIfAcceptedWith stored
  stored_call_passes_if_accepted control order call = stored_passes_if_accepted (λ z. call_on (length row) control z order call)
      (call_on_other_length_not_accepted (length row) control t order call)
