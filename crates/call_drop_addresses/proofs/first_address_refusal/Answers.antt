use borrow.Author.Rules.{rules}
use Rattle.std.proofs.lemmas.Result.{err_from_is_err_and}
use Rattle.base_laws.proofs.ReplacedElement.{length_of_length_map}
use Rattle.call_drop_addresses.proofs.FirstAddressRefusalLaws.{none_refused_yet, past_table_refused, first_bad_refused}
use Rattle.call_drop_addresses.proofs.FirstAddressRefusalLaws.{run_of_address_fits, none_refused_past_run, none_refused_past_block}
use Rattle.call_drop_addresses.proofs.FirstAddressRefusalLaws.{none_refused_at_end}
use Rattle.call_drop_addresses.proofs.first_address_refusal.Goals as goal
use Rattle.call_drop_addresses.proofs.first_address_refusal.Goals.{then-b, else-b}

pub loop-address-init : goal.loop-address-init
loop-address-init c = search (none_refused_yet, length_of_length_map)

pub returns-in_default : goal.returns-in_default
returns-in_default c = search (past_table_refused, rules)

pub returns-in_err-refusal_in : goal.returns-in_err-refusal_in
returns-in_err-refusal_in c =
    let p = err_from_is_err_and c.from_residual.result c.from_residual.ensures.1 in
    rw (p.1, p.2)
    (first_bad_refused _ _ _ _ c.loop-address.invariant c.loop-address-test.true _ c.superblock_index-k.ensures
    _ c.in-Some.ensures.lookup.3.0 c.in-Some.ensures.lookup.1
    _ (search (c.in_err-refusal_in.ensures, rules)))

pub slice_bounds-t-end : goal.slice_bounds-t-end
slice_bounds-t-end c =
    let h = run_of_address_fits _ _ _ _ c.loop-address.invariant c.loop-address-test.true _ c.superblock_index-k.ensures
    _ c.in-Some.ensures.lookup.3.0 c.in-Some.ensures.lookup.1 in
    search rules

pub loop-address-preserved : goal.loop-address-preserved
loop-address-preserved c =
    elim c.if-b.branch [
      | then-b w ↦ rw w.t-is (none_refused_past_run _ _ _ _ c.loop-address.invariant c.loop-address-test.true _ c.superblock_index-k.ensures
          _ c.in-Some.ensures.lookup.3.0 c.in-Some.ensures.lookup.1
          (search (c.in_ok-refusal_in.ensures, rules)) w.if-b.true _ w.from.ensures _ (w.fill.ensures.after (λ y e. e)))
      | else-b w ↦ rw w.t-is (none_refused_past_block _ _ _ _ c.loop-address.invariant c.loop-address-test.true _ c.superblock_index-k.ensures
          _ c.in-Some.ensures.lookup.3.0 c.in-Some.ensures.lookup.1
          (search (c.in_ok-refusal_in.ensures, rules)) w.if-b.false _ w.without_mark.ensures)
    ]

pub returns : goal.returns
returns c = search none_refused_at_end
