-- `call_take::take` meets its contract. Assumes nothing.
use mathlib.Core.Path.{◌≡◌}
use borrow.Author.Rules.{rules}
use native.Mathlib.Omega.{arith}
use Rattle.call_rules.specs.Answers.{is_processor}
use Rattle.call_take.proofs.TakeUncheckedLaws.{take_unchecked_clauses, take_outcomes, take_unchecked_is_long_taken}
use Rattle.call_take.proofs.OtherPlacesLaws.{taken_at_own_rules}
use Rattle.call_take.proofs.take.Goals as goal

pub returns-then-not-is_processor : goal.returns-then-not-is_processor
returns-then-not-is_processor c =
    let t = take_unchecked_clauses _ _ _ _ (search (take_outcomes, rules)) in
    record { order_after = t.0; number_and_values = t.1 }

pub returns-then-is_long : goal.returns-then-is_long
returns-then-is_long c =
    let accepted = c.if-not-is_processor.false in
    let tested : c.is_processor.result ≡ is_processor c.args.s c.args.processor = search (c.is_processor.ensures, rules) in
    let t = take_unchecked_clauses _ _ _ _
    (take_unchecked_is_long_taken _ _ _ _ _ tested (omega arith) accepted _ c.is_long.ensures _ c.if-is_long.true (c.take_long.ensures _)) in
    record { order_after = t.0; number_and_values = t.1 }

pub returns-in-Some : goal.returns-in-Some
returns-in-Some c =
    let t = take_unchecked_clauses _ _ _ _ (search (take_outcomes, taken_at_own_rules, rules)) in
    record { order_after = t.0; number_and_values = t.1 }

pub returns-in-None : goal.returns-in-None
returns-in-None c =
    let t = take_unchecked_clauses _ _ _ _ (search (take_outcomes, taken_at_own_rules, rules)) in
    record { order_after = t.0; number_and_values = t.1 }
