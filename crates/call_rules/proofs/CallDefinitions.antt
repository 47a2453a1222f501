-- The definitions that a computed case of a call unfolds, listed once: to unfold one of these names is to unfold all that its line names. Assumes nothing.
use Rattle.class_rules.specs.Classes.{first_at_least, class_of, is_long, run_length, is_too_large}
use Rattle.marks_rules.specs.Marks.{with_mark, without_mark}
use Rattle.base_laws.specs.Lists.{listed}
use Rattle.heap_rules.specs.Ranks.{is_more_recent, rank_after_free, rank_after_renewal, ranked_latest, unranked}
use Rattle.order_rules.specs.Order.{last_filled, with_place, descending, with_renewed_places, renewed, cleared}
use Rattle.choice_rules.specs.Choice.{prefer, chosen_below, more_live, fuller_or_more_recent, fewer_live, never_preferred, has_free, empty_in_global, fullest}
use Rattle.choice_rules.specs.Choice.{lowest_empty, lowest_unused, emptiest}
use Rattle.choice_rules.specs.RunChoice.{is_available, is_free_run, lowest_below, lowest_run}
use Rattle.move_rules.specs.Moves.{transferred, found_transferred, transfers_up_to, excess_transferred, invariant_restored}
use Rattle.check_rules.proofs.CheckDefinitions.{check_definitions}
use Rattle.call_rules.specs.Answers.{checked, is_processor}
use Rattle.call_rules.specs.Setup.{setup_of}
use Rattle.call_rules.specs.LongBlocks.{each_of_run, joined_to_run, run_taken, long_taken_from, long_taken_at, made_unused, run_freed}
use Rattle.call_rules.specs.Take.{other_places, acquired, acquired_order, unranked_if_empty, next_block, address_of, taken_from, taken_from_other, taken_at}
use Rattle.call_rules.specs.Take.{take_unchecked, take_of}
use Rattle.call_rules.specs.Free.{block_of, is_unmapped, is_run_start, is_off_block, is_misaligned, is_live_at, address_refusal, mark_cleared, block_pushed}
use Rattle.call_rules.specs.Free.{order_pushed, block_number_at, small_block_freed, long_block_freed, block_freed, small_freed_at, long_freed_at, freed_at}
use Rattle.call_rules.specs.Free.{free_unchecked, free_of}
use Rattle.call_rules.specs.Named.{is_unavailable, name_bound, bound_by, with_name_bound, named_take_unchecked, named_take_of, held_address}
use Rattle.call_rules.specs.Named.{named_free_unchecked}
use Rattle.call_rules.specs.Named.{named_free_of}
use Rattle.call_rules.specs.Drop.{all_freed, all_pushed, first_address_refusal, is_touched, then_restored, touched_classes, touched_pairs, each_restored}
use Rattle.call_rules.specs.Drop.{drop_moves, dropped_all, drop_unchecked, drop_of}
use Rattle.call_rules.specs.Calls.{call_of, call_unchecked}

-- the calls behind the check
unfoldable pub unchecked_call_definitions : Unit {0}
unfolding call_unchecked take_unchecked taken_at taken_from_other taken_from address_of next_block acquired_order acquired unranked_if_empty other_places
    long_taken_at long_taken_from run_taken joined_to_run each_of_run lowest_run lowest_below is_free_run is_available is_long run_length
    free_unchecked freed_at small_freed_at long_freed_at order_pushed block_pushed block_freed small_block_freed long_block_freed run_freed made_unused
    mark_cleared
    block_number_at
    is_live_at is_misaligned is_off_block is_run_start is_unmapped block_of is_processor
    named_take_unchecked with_name_bound bound_by name_bound is_unavailable named_free_unchecked held_address
    drop_unchecked dropped_all drop_moves each_restored touched_pairs touched_classes then_restored is_touched first_address_refusal all_pushed all_freed
    address_refusal
    invariant_restored excess_transferred transfers_up_to transferred found_transferred
    fullest lowest_empty lowest_unused emptiest prefer chosen_below more_live fuller_or_more_recent fewer_live never_preferred has_free empty_in_global
    ranked_latest unranked rank_after_free rank_after_renewal is_more_recent listed
    last_filled with_place descending with_renewed_places renewed with_mark without_mark first_at_least class_of is_too_large check_definitions
unchecked_call_definitions = tt

-- a setup and the calls with the check before them
unfoldable pub call_definitions : Unit {0}
unfolding unchecked_call_definitions call_of take_of free_of named_take_of named_free_of drop_of checked setup_of cleared
call_definitions = tt
