-- `check_state::first_refusal` meets its contract: a setup's fault is refused as it is, and the rest by what is asked of it. Assumes nothing.
use Rattle.std.proofs.Common.{rules, arith}
use Rattle.std.proofs.lemmas.Result.{err_from_is_err_and}
use Rattle.check_limits.proofs.SetupFaultLaws.{no_setup_refusal_of_ok, fault_of_err, number_of_refusal_of_fault}
use Rattle.refusal_rules.specs.declared.Refusal.TheVariants.{StateInvalid}
use Rattle.check_state.proofs.FirstRefusalLaws.{first_refusal_of_fault, no_first_refusal, first_refusal_13_of_rest}
use Rattle.check_state.proofs.first_refusal.Goals as goal

pub returns-in_err-map_err : goal.returns-in_err-map_err
returns-in_err-map_err c =
    let e = c.in_err-map_err.ensures.cases in
    let w = fault_of_err _ _ _ c.setup_refusal.ensures StateInvalid c.in_err-map_err.field-0.0 e (λ x q. cc) (λ fault q. search rules) in
    let p = err_from_is_err_and c.from_residual.result c.from_residual.ensures.1 in
    rw (p.1, p.2, w.1, number_of_refusal_of_fault StateInvalid w.0.fault) (first_refusal_of_fault _ _ w.0.fault w.0.number)

pub returns-then-runs_valid : goal.returns-then-runs_valid
returns-then-runs_valid c =
    let none = no_setup_refusal_of_ok _ _ _ c.setup_refusal.ensures 13 c.in_ok-map_err.ensures.variant in
    no_first_refusal c.args.s c.args.order.now none c.if-each_valid.ensures c.if-counts_valid.ensures c.if-names_valid.ensures c.if-ranks_valid.ensures
    c.if-runs_valid.ensures

pub returns-else-each_valid : goal.returns-else-each_valid
returns-else-each_valid c =
    let none = no_setup_refusal_of_ok _ _ _ c.setup_refusal.ensures 13 c.in_ok-map_err.ensures.variant in
    first_refusal_13_of_rest c.args.s c.args.order.now none (grind arith)
