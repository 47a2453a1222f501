-- Laws of a setup, and of a take or a free, plain or named, or a drop, on a lent row. Assumes nothing.
use mathlib.Core.Path.{◌≡◌, refl, sym, ap, ◌∙◌, subst}
use mathlib.Core.Bool.{Bool, true, false}
use mathlib.Core.Logic.{◌⊎◌, inl, inr, ⊎_elim}
use mathlib.Core.List.{List}
use Prim.Native.Nat.{ℕ, ◌*◌, ◌≤◌, ◌<◌}
use native.Mathlib.Omega.{arith}
use native.Mathlib.Decide.{ℕ_discrete}
use lib.ListN.{length, length-replicate}
use lib.Dec.{T, eqb, leb}
use borrow.Author.Tests.{eq-eqb, ne_eqb, le-leb, lt-leb, leb-true, leb-false}
use Rattle.base_laws.specs.Sums.{pick}
use Rattle.base_laws.proofs.TestLaws.{T_of_true, true_of_T, true_not_false}
use Rattle.class_rules.specs.Classes.{size_of}
use Rattle.order_rules.specs.Order.{cleared}
use Rattle.order_laws.proofs.OrderLaws.{length_cleared}
use Rattle.heap_rules.specs.declared.Superblock.{Superblock}
use Rattle.heap_rules.specs.declared.Setup.{Setup}
use Rattle.heap_rules.specs.Table.{unused}
use Rattle.heap_rules.specs.States.{no_state}
use Rattle.check_rules.specs.Check.{within_limits}
use Rattle.heap_laws.proofs.StateFacts.{Shape}
use Rattle.heap_laws.proofs.StateCheckLaws.{new_state_sound, new_state_names_valid, new_state_shape}
use Rattle.heap_laws.proofs.RankLaws.{new_state_ranks_sound}
use Rattle.heap_laws.proofs.TotalsLaws.{new_state_totals_kept}
use Rattle.heap_laws.proofs.RunLaws.{runs_valid_of_sound, new_state_runs_sound}
use Rattle.call_rules.specs.declared.Outcome.{Outcome}
use Rattle.call_rules.specs.declared.Outcome.TheVariants.{Ready, Address, Moves, Refused}
use Rattle.call_rules.specs.Answers.{checked, number_of}
use Rattle.call_rules.specs.Setup.{setup_of}
use Rattle.call_rules.specs.Calls.{Call, Take, call_of, call_unchecked}
use Rattle.call_rules.proofs.CheckFirst.{call_of_checks_first}
use Rattle.call_laws.proofs.CallEffects.{Passed}
use Rattle.call_laws.proofs.SizeZeroLaws.{take_of_size_0}
use Rattle.call_laws.proofs.CheckedLaws.{checked_refuses_13_of_limits, checked_refuses_12_of_storage}
use Rattle.call_laws.proofs.SetupLaws.{setup_accepted_of_limits_and_storage as state-setup-accepts}
use Rattle.row_rules.specs.declared.Control.{Control}
use Rattle.row_rules.specs.Row.{RowAfter, state_of, control_of, as_row_after, row_refused, row_accepted_setup, setup_on, call_on, row_setup, row_call}
use Rattle.row_rules.specs.RowClaim.{as_after}
use Rattle.row_laws.proofs.CallAcceptedLaws.{CallAccepted, call_refused_or_accepted}

-- document 02, item 1: "turns a size of 0 into the smallest block", on a row too
pub row_take_of_size_0 : (control : Control) (row : List Superblock) (order : List ℕ) (i : ℕ) → row_call control row order (Take i 0)
    ≡ row_call control row order (Take i (size_of 0))
unfolding call_on
row_take_of_size_0 control row order i = rw (take_of_size_0 (state_of control row) order i)

-- 1 for a setup's success alone
unfoldable is_ready : Outcome → ℕ
is_ready Ready = 1
is_ready (Address a) = 0
is_ready (Moves m) = 0
is_ready (Refused r) = 0

-- ---- the order of a setup's refusals: 1, 12, 13
module _ (n : ℕ) (u : Setup) (row : List Superblock) (order : List ℕ) where
  pub setup_on_refused_1_of_limits : within_limits u ≡ false → setup_on n u row order ≡ row_refused 1 (control_of no_state) row order
  unfolding setup_on
  setup_on_refused_1_of_limits e = rw e

  pub setup_on_refused_12_of_storage : within_limits u ≡ true → length order < u.superblocks * 256 → setup_on n u row order
      ≡ row_refused 12 (control_of no_state) row order
  unfolding setup_on
  setup_on_refused_12_of_storage e l = rw (e, lt-leb (u.superblocks * 256) (length order) l)

  pub setup_on_refused_13_of_length : within_limits u ≡ true → u.superblocks * 256 ≤ length order → (n ≡ 64 → ⊥) → setup_on n u row order
      ≡ row_refused 13 (control_of no_state) row order
  unfolding setup_on
  setup_on_refused_13_of_length e l f = rw (e, le-leb (u.superblocks * 256) (length order) l, ne_eqb n 64 f)

  pub setup_on_accepted : within_limits u ≡ true → u.superblocks * 256 ≤ length order → n ≡ 64 → setup_on n u row order ≡ row_accepted_setup u order
  unfolding setup_on
  setup_on_accepted e l f = rw (e, le-leb (u.superblocks * 256) (length order) l, eq-eqb n 64 f)

  -- a row that is not 64 long is not accepted
  pub setup_on_other_length_not_accepted : (n ≡ 64 → ⊥) → number_of (setup_on n u row order).outcome ≡ 0 → ⊥
  unfolding setup_on number_of
  setup_on_other_length_not_accepted f = go (within_limits u) (leb (u.superblocks * 256) (length order)) (eqb n 64) (ne_eqb n 64 f)
    where
      go : (a b c : Bool) → c ≡ false
          → number_of (pick a (pick b (pick c (row_accepted_setup u order) (row_refused 13 (control_of no_state) row order))
          (row_refused 12 (control_of no_state) row order)) (row_refused 1 (control_of no_state) row order)).outcome ≡ 0
          → ⊥
      go true true true e z = true_not_false true refl e
      go true true false e z = absurd (omega (arith, z))
      go true false c e z = absurd (omega (arith, z))
      go false b c e z = absurd (omega (arith, z))

-- ---- the order of the first refusals of a call: 13 for setup numbers, 12, 13 for the row's length
module _ (n : ℕ) (control : Control) (row : List Superblock) (order : List ℕ) (call : Call) where
  pub call_on_refused_13_of_limits : within_limits control.setup ≡ false → call_on n control row order call ≡ row_refused 13 control row order
  unfolding call_on
  call_on_refused_13_of_limits e = rw e

  pub call_on_refused_12_of_storage : within_limits control.setup ≡ true → length order < control.setup.superblocks * 256
      → call_on n control row order call ≡ row_refused 12 control row order
  unfolding call_on
  call_on_refused_12_of_storage e l = rw (e, lt-leb (control.setup.superblocks * 256) (length order) l)

  pub call_on_refused_13_of_length : within_limits control.setup ≡ true → control.setup.superblocks * 256 ≤ length order → (n ≡ 64 → ⊥)
      → call_on n control row order call ≡ row_refused 13 control row order
  unfolding call_on
  call_on_refused_13_of_length e l f = rw (e, le-leb (control.setup.superblocks * 256) (length order) l, ne_eqb n 64 f)

  pub call_on_past_first_refusals : within_limits control.setup ≡ true → control.setup.superblocks * 256 ≤ length order → n ≡ 64
      → call_on n control row order call ≡ as_row_after (call_of (state_of control row) order call)
  unfolding call_on
  call_on_past_first_refusals e l f = rw (e, le-leb (control.setup.superblocks * 256) (length order) l, eq-eqb n 64 f)

  -- a row that is not 64 long is refused in any case
  pub call_on_other_length_refused : (n ≡ 64 → ⊥) → (r : ℕ) × (call_on n control row order call ≡ row_refused r control row order)
  call_on_other_length_refused f = go (within_limits control.setup) (leb (control.setup.superblocks * 256) (length order)) refl refl
    where
      go : (a b : Bool) → within_limits control.setup ≡ a → leb (control.setup.superblocks * 256) (length order) ≡ b → (r : ℕ)
          × (call_on n control row order call ≡ row_refused r control row order)
      go true true e g = (13, call_on_refused_13_of_length e (leb-true (control.setup.superblocks * 256) (length order) g) f)
      go true false e g = (12, call_on_refused_12_of_storage e (leb-false (control.setup.superblocks * 256) (length order) g))
      go false b e g = (13, call_on_refused_13_of_limits e)

  pub call_on_other_length_not_accepted : (n ≡ 64 → ⊥) → number_of (call_on n control row order call).outcome ≡ 0 → ⊥
  unfolding call_on number_of
  call_on_other_length_not_accepted f = go (within_limits control.setup) (leb (control.setup.superblocks * 256) (length order)) (eqb n 64) (ne_eqb n 64 f)
    where
      go : (a b c : Bool) → c ≡ false
          → number_of (pick a (pick b (pick c (as_row_after (call_of (state_of control row) order call)) (row_refused 13 control row order))
          (row_refused 12 control row order)) (row_refused 13 control row order)).outcome ≡ 0
          → ⊥
      go true true true e z = true_not_false true refl e
      go true true false e z = absurd (omega (arith, z))
      go true false c e z = absurd (omega (arith, z))
      go false b c e z = absurd (omega (arith, z))

  -- 64 records are the table of a state, and the call is one on that state: a named call on a row does what it does on a state
  pub call_on_64_is_call_of : n ≡ 64 → call_on n control row order call ≡ as_row_after (call_of (state_of control row) order call)
  call_on_64_is_call_of f = go (within_limits control.setup) (leb (control.setup.superblocks * 256) (length order)) refl refl
    where
      checks_first : call_of (state_of control row) order call ≡ checked (state_of control row) order (call_unchecked (state_of control row) order call)
      checks_first = call_of_checks_first (state_of control row) order call

      go : (a b : Bool) → within_limits control.setup ≡ a → leb (control.setup.superblocks * 256) (length order) ≡ b → call_on n control row order call
          ≡ as_row_after (call_of (state_of control row) order call)
      go true true e g = call_on_past_first_refusals e (leb-true (control.setup.superblocks * 256) (length order) g) f
      go true false e g =
          let l = leb-false (control.setup.superblocks * 256) (length order) g in
          call_on_refused_12_of_storage e l ∙ sym (ap as_row_after (checks_first ∙ checked_refuses_12_of_storage (state_of control row) order _ e l))
      go false b e g = call_on_refused_13_of_limits e ∙ sym (ap as_row_after (checks_first ∙ checked_refuses_13_of_limits (state_of control row) order _ e))

-- ---- a setup on a lent row
module _ (u : Setup) (row : List Superblock) (order : List ℕ) where
  -- accepted or refused, and nothing between
  pub row_setup_refused_or_accepted : ((r : ℕ) × (row_setup u row order ≡ row_refused r (control_of no_state) row order))
      ⊎ (T (within_limits u) × (u.superblocks * 256 ≤ length order) × (row_setup u row order ≡ row_accepted_setup u order))
  row_setup_refused_or_accepted = go (within_limits u) (leb (u.superblocks * 256) (length order)) (ℕ_discrete (length row) 64) refl refl
    where
      go : (a b : Bool) → Dec (length row ≡ 64) → within_limits u ≡ a → leb (u.superblocks * 256) (length order) ≡ b
          → ((r : ℕ) × (row_setup u row order ≡ row_refused r (control_of no_state) row order))
          ⊎ (T (within_limits u) × (u.superblocks * 256 ≤ length order) × (row_setup u row order ≡ row_accepted_setup u order))
      go true true (yes f) e g =
          let l = leb-true (u.superblocks * 256) (length order) g in
          inr (T_of_true (within_limits u) e, l, setup_on_accepted (length row) u row order e l f)
      go true true (no f) e g = inl (13, setup_on_refused_13_of_length (length row) u row order e (leb-true (u.superblocks * 256) (length order) g) f)
      go true false d e g = inl (12, setup_on_refused_12_of_storage (length row) u row order e (leb-false (u.superblocks * 256) (length order) g))
      go false b d e g = inl (1, setup_on_refused_1_of_limits (length row) u row order e)

  -- a refused setup hands back five zeros, no names and totals of 0, and changes neither row nor storage
  pub row_setup_refused : (r : ℕ) → (row_setup u row order).outcome ≡ Refused r → row_setup u row order ≡ row_refused r (control_of no_state) row order
  unfolding number_of is_ready
  row_setup_refused r e = go row_setup_refused_or_accepted
    where
      go : ((n : ℕ) × (row_setup u row order ≡ row_refused n (control_of no_state) row order))
          ⊎ (T (within_limits u) × (u.superblocks * 256 ≤ length order) × (row_setup u row order ≡ row_accepted_setup u order))
          → row_setup u row order ≡ row_refused r (control_of no_state) row order
      go (inl h) =
          let same : h.0 ≡ r = sym (ap (λ (x : RowAfter). number_of x.outcome) h.1) ∙ ap number_of e in
          h.1 ∙ ap (λ (n : ℕ). row_refused n (control_of no_state) row order) same
      go (inr h) = absurd (let z : ◌≡◌ {A = ℕ} 1 0 = sym (ap (λ (x : RowAfter). is_ready x.outcome) h.2) ∙ ap is_ready e in omega arith)

  -- what is stored only where the number is 0 is the row that the rules leave
  pub row_setup_row_if_accepted : (b : Bool) → b ≡ eqb (number_of (row_setup u row order).outcome) 0 → pick b (row_setup u row order).row row
      ≡ (row_setup u row order).row
  unfolding number_of
  row_setup_row_if_accepted true e = refl
  row_setup_row_if_accepted false e = go row_setup_refused_or_accepted
    where
      go : ((n : ℕ) × (row_setup u row order ≡ row_refused n (control_of no_state) row order))
          ⊎ (T (within_limits u) × (u.superblocks * 256 ≤ length order) × (row_setup u row order ≡ row_accepted_setup u order))
          → row ≡ (row_setup u row order).row
      go (inl h) = sym (ap (λ (x : RowAfter). x.row) h.1)
      go (inr h) = absurd (true_not_false (eqb (number_of (row_setup u row order).outcome) 0) (ap (λ (x : RowAfter). eqb (number_of x.outcome) 0) h.2)
          (sym e))

  -- an accepted one writes 64 unused superblocks, whatever stood in the row, and they pass
  pub row_setup_ready : (row_setup u row order).outcome ≡ Ready
      → (row_setup u row order ≡ row_accepted_setup u order) × (as_after (row_setup u row order) ≡ setup_of u order) × (length (row_setup u row order).row ≡ 64)
      × Passed (state_of (row_setup u row order).control (row_setup u row order).row) (row_setup u row order).order
      × Shape (state_of (row_setup u row order).control (row_setup u row order).row)
  unfolding is_ready
  row_setup_ready e = go row_setup_refused_or_accepted
    where
      go : ((n : ℕ) × (row_setup u row order ≡ row_refused n (control_of no_state) row order))
          ⊎ (T (within_limits u) × (u.superblocks * 256 ≤ length order) × (row_setup u row order ≡ row_accepted_setup u order))
          → (row_setup u row order ≡ row_accepted_setup u order) × (as_after (row_setup u row order) ≡ setup_of u order)
          × (length (row_setup u row order).row ≡ 64)
          × Passed (state_of (row_setup u row order).control (row_setup u row order).row) (row_setup u row order).order
          × Shape (state_of (row_setup u row order).control (row_setup u row order).row)
      go (inl h) = absurd (let z : ◌≡◌ {A = ℕ} 0 1 = sym (ap (λ (x : RowAfter). is_ready x.outcome) h.1) ∙ ap is_ready e in omega arith)
      go (inr (t, l, s)) =
          let places : List ℕ = cleared order (u.superblocks * 256) in
          let room : u.superblocks * 256 ≤ length places =
          subst (λ (n : ℕ). u.superblocks * 256 ≤ n) (sym (length_cleared order (u.superblocks * 256))) l in (
            s,
            ap as_after s ∙ sym (state-setup-accepts u order (true_of_T (within_limits u) t) l),
            ap (λ (x : RowAfter). length x.row) s ∙ length-replicate 64 unused,
            subst (λ (x : RowAfter). Passed (state_of x.control x.row) x.order) (sym s)
                (record {
                  sound = new_state_sound u places t;
                  names = new_state_names_valid u;
                  totals = new_state_totals_kept u;
                  ranks = new_state_ranks_sound u;
                  runs = runs_valid_of_sound _ (new_state_shape u).length_is (new_state_runs_sound u);
                  room = room;
                }),
            subst (λ (x : RowAfter). Shape (state_of x.control x.row)) (sym s) (new_state_shape u),
          )

-- ---- a call on a lent row
module _ (control : Control) (row : List Superblock) (order : List ℕ) (call : Call) where
  abbrev RowCallAccepted : Type 0
  RowCallAccepted = (length row ≡ 64) × CallAccepted (state_of control row) order (call_of (state_of control row) order call)
      × (row_call control row order call ≡ as_row_after (call_of (state_of control row) order call))

  -- it is refused and changes nothing, or the row is 64 long and the call is accepted on its state
  pub row_call_refused_or_accepted : ((r : ℕ) × (row_call control row order call ≡ row_refused r control row order)) ⊎ RowCallAccepted
  row_call_refused_or_accepted = go (ℕ_discrete (length row) 64)
    where
      go : Dec (length row ≡ 64) → ((r : ℕ) × (row_call control row order call ≡ row_refused r control row order)) ⊎ RowCallAccepted
      go (no f) = inl (call_on_other_length_refused (length row) control row order call f)
      go (yes f) =
          let e = call_on_64_is_call_of (length row) control row order call f in
          ⊎_elim (λ h. inl (h.0, e ∙ ap as_row_after h.1)) (λ g. inr (f, g, e)) (call_refused_or_accepted (state_of control row) order call)

  -- a refused call changes neither row nor storage, nor the setup numbers, the names or the totals
  pub row_call_refused : (r : ℕ) → (row_call control row order call).outcome ≡ Refused r → row_call control row order call ≡ row_refused r control row order
  unfolding number_of
  row_call_refused r e = go row_call_refused_or_accepted
    where
      go : ((n : ℕ) × (row_call control row order call ≡ row_refused n control row order)) ⊎ RowCallAccepted → row_call control row order call
          ≡ row_refused r control row order
      go (inl h) =
          let same : h.0 ≡ r = sym (ap (λ (x : RowAfter). number_of x.outcome) h.1) ∙ ap number_of e in
          h.1 ∙ ap (λ (n : ℕ). row_refused n control row order) same
      go (inr (f, g, s)) = absurd (g.not_refused r (ap (λ (x : RowAfter). x.outcome) (sym s) ∙ e))

  -- what is stored only where the number is 0 is the row that the rules leave
  pub row_call_row_if_accepted : (b : Bool) → b ≡ eqb (number_of (row_call control row order call).outcome) 0
      → pick b (row_call control row order call).row row ≡ (row_call control row order call).row
  unfolding number_of
  row_call_row_if_accepted true e = refl
  row_call_row_if_accepted false e = go row_call_refused_or_accepted
    where
      number_0 : (o : Outcome) → ((r : ℕ) → o ≡ Refused r → ⊥) → number_of o ≡ 0
      number_0 Ready f = refl
      number_0 (Address a) f = refl
      number_0 (Moves m) f = refl
      number_0 (Refused r) f = absurd (f r refl)

      go : ((n : ℕ) × (row_call control row order call ≡ row_refused n control row order)) ⊎ RowCallAccepted → row ≡ (row_call control row order call).row
      go (inl h) = sym (ap (λ (x : RowAfter). x.row) h.1)
      go (inr (f, g, s)) =
          let zero_is : number_of (row_call control row order call).outcome ≡ 0 = ap (λ (x : RowAfter). number_of x.outcome) s
          ∙ number_0 (call_of (state_of control row) order call).answer.outcome g.not_refused in
          absurd (true_not_false (eqb (number_of (row_call control row order call).outcome) 0) (ap (λ (n : ℕ). eqb n 0) zero_is) (sym e))

  -- no call changes the row's length, and an accepted one leaves 64 records
  pub length_of_row_call : length (row_call control row order call).row ≡ length row
  length_of_row_call = ⊎_elim (λ h. ap (λ (x : RowAfter). length x.row) h.1) (λ h. ap (λ (x : RowAfter). length x.row) h.2
      ∙ h.1.length_is h.0 ∙ sym h.0) row_call_refused_or_accepted

  module _ (goes : (r : ℕ) → (row_call control row order call).outcome ≡ Refused r → ⊥) where
    row_call_accepted : RowCallAccepted
    row_call_accepted = ⊎_elim (λ h. absurd (goes h.0 (ap (λ (x : RowAfter). x.outcome) h.1))) (λ h. h) row_call_refused_or_accepted

    pub length_of_accepted_row_call : length (row_call control row order call).row ≡ 64
    length_of_accepted_row_call = length_of_row_call ∙ row_call_accepted.0

    -- "An accepted call yields a state that passes."
    pub accepted_row_call_passes : Shape (state_of control row)
        → Passed (state_of (row_call control row order call).control (row_call control row order call).row) (row_call control row order call).order
        × Shape (state_of (row_call control row order call).control (row_call control row order call).row)
    accepted_row_call_passes shape =
        subst (λ (x : RowAfter). Passed (state_of x.control x.row) x.order × Shape (state_of x.control x.row)) (sym row_call_accepted.2)
        (row_call_accepted.1.passes shape)
