-- A named take of a long block (document 02, items 2 and 7): the name points at block 0 of the run's first superblock. Assumes nothing.
use mathlib.Core.Path.{◌≡◌, refl, sym, ap, ◌∙◌, subst}
use mathlib.Core.List.{List}
use Prim.Native.Nat.{ℕ, ◌*◌, ◌/◌, ◌<◌}
use native.Mathlib.Nat.{le_refl}
use native.Mathlib.Omega.{arith}
use borrow.Author.Tests.{eq-eqb, lt-ltb}
use lib.Dec.{eqb, ltb}
use Rattle.base_laws.proofs.TestLaws.{pick_true}
use Rattle.class_rules.specs.Classes.{run_length}
use Rattle.names_rules.specs.Names.{block_number, block_named, with_name}
use Rattle.heap_rules.specs.declared.State.{State}
use Rattle.heap_rules.specs.declared.Superblock.{Superblock}
use Rattle.heap_rules.specs.Table.{superblock_at, run_part}
use Rattle.heap_rules.specs.States.{with_names}
use Rattle.heap_rules.specs.Counts.{superblocks_of_class, live_of_class}
use Rattle.heap_laws.proofs.StateFacts.{Shape}
use Rattle.call_rules.specs.declared.Outcome.TheVariants.{Address}
use Rattle.call_rules.specs.Answers.{After}
use Rattle.call_rules.specs.Take.{take_of}
use Rattle.call_rules.specs.Free.{block_number_at}
use Rattle.call_rules.specs.Named.{named_take_of}
use Rattle.call_laws.proofs.CallEffects.{Passed, NamedLongTakeAccepted, LongTakeEffect, RunUnranked}
use Rattle.call_laws.proofs.NamesKeptLaws.{names_valid_after_named_long_take}
use Rattle.call_laws.proofs.RunTakenLaws.{long_take_address, long_take_effect, long_take_names, long_take_ranks, long_take_shape, long_take_passed}
use Rattle.call_laws.proofs.NamedCallLaws.{start_block_is_0, named_outcome_is_plain, named_order_is_plain, named_state_is_bound, shape_of_bound}
use Rattle.call_laws.proofs.NamedCallLaws.{passed_of_bound, name_points_at_taken, other_names_point_as_before}

-- the number by which a name points at the start of a run
start_block_number : (s : State) (k : ℕ) → k < 64 → (superblock_at s k).class ≡ 0 → block_number_at s (k * 4096) ≡ block_number k 0
unfolding block_number_at
start_block_number s k l e =
    let x : k * 4096 / 4096 ≡ k = omega arith in
    rw (start_block_is_0 s k e, x) (pick_true (ltb k 64) _ _ (lt-ltb k 64 l))

-- the names are no part of its effect
long_take_effect_with_names : (k n : ℕ) (s t : State) (names : List ℕ) → LongTakeEffect k n s t → LongTakeEffect k n s (with_names t names)
unfolding superblocks_of_class live_of_class
long_take_effect_with_names k n s t names e =
    record {
      below = e.below;
      some = e.some;
      at_most_16 = e.at_most_16;
      setup = e.setup;
      available = e.available;
      run = e.run;
      others = e.others;
      owned = e.owned;
      live = e.live;
    }

module _ (s : State) (order : List ℕ) (i m size k : ℕ) (shape : Shape s) (acc : NamedLongTakeAccepted s order i m size k) where
  abbrev plain : After
  plain = take_of s order i size

  abbrev n : ℕ
  n = run_length size

  effect : LongTakeEffect k n s plain.answer.state
  effect = long_take_effect s order i size k shape acc.taken

  below : k < 64
  below = omega (arith, effect.below, effect.some, acc.taken.passed.sound.numbers.superblocks_high)

  first : superblock_at plain.answer.state k ≡ run_part n
  first = effect.run k (le_refl k, omega (arith, effect.some)) ∙ ap run_part (pick_true (eqb k k) n 0 (eq-eqb k k refl))

  abbrev b : ℕ
  b = block_number k 0

  pub named_long_take_outcome : (named_take_of s order i m size).answer.outcome ≡ plain.answer.outcome
  named_long_take_outcome = named_outcome_is_plain s order i m size b acc.result_is

  pub named_long_take_address : (named_take_of s order i m size).answer.outcome ≡ Address (k * 4096)
  named_long_take_address = named_long_take_outcome ∙ long_take_address s order i size k shape acc.taken

  pub named_long_take_order : (named_take_of s order i m size).order ≡ plain.order
  named_long_take_order = named_order_is_plain s order i m size b acc.result_is

  pub named_long_take_state : (named_take_of s order i m size).answer.state ≡ with_names plain.answer.state (with_name s.names m (block_number k 0))
  named_long_take_state =
      named_state_is_bound s order i m size b (k * 4096) acc.result_is (long_take_address s order i size k shape acc.taken)
      (long_take_names s order i size k shape acc.taken)
      (start_block_number plain.answer.state k below (ap (λ (b : Superblock). b.class) first))

  pub named_long_take_names : (named_take_of s order i m size).answer.state.names ≡ with_name s.names m (block_number k 0)
  named_long_take_names = ap (λ (t : State). t.names) named_long_take_state

  pub named_long_take_effect : LongTakeEffect k n s (named_take_of s order i m size).answer.state
  named_long_take_effect =
      subst (LongTakeEffect k n s) (sym named_long_take_state) (long_take_effect_with_names k n s plain.answer.state (with_name s.names m b) effect)

  pub named_long_take_ranks : RunUnranked k n s (named_take_of s order i m size).answer.state
  named_long_take_ranks =
      subst (RunUnranked k n s) (sym named_long_take_state)
      (let r = long_take_ranks s order i size k shape acc.taken in record { in_run = r.in_run; ranked_iff = r.ranked_iff; order_kept = r.order_kept })

  pub named_long_take_shape : Shape (named_take_of s order i m size).answer.state
  named_long_take_shape = shape_of_bound s order i m size b shape named_long_take_state (long_take_shape s order i size k shape acc.taken)

  pub named_long_take_passed : Passed (named_take_of s order i m size).answer.state (named_take_of s order i m size).order
  named_long_take_passed =
      passed_of_bound s order i m size b shape named_long_take_state named_long_take_order (long_take_passed s order i size k shape acc.taken)
      (names_valid_after_named_long_take k n s plain.answer.state effect m below (long_take_names s order i size k shape acc.taken)
      acc.taken.passed.names)

  pub named_long_take_binds_name : block_named (named_take_of s order i m size).answer.state.names m ≡ block_number k 0
  named_long_take_binds_name = name_points_at_taken s order i m size b shape named_long_take_state acc.available

  pub named_long_take_keeps_other_names : (l : ℕ) → (l ≡ m → ⊥) → block_named (named_take_of s order i m size).answer.state.names l ≡ block_named s.names l
  named_long_take_keeps_other_names = other_names_point_as_before s order i m size b shape named_long_take_state
