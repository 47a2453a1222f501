-- The definitions that a computed case of the check unfolds, listed once: to unfold this name is to unfold all that its lines name. Assumes nothing.
use Rattle.base_laws.specs.Sums.{sum_below, all_below}
use Rattle.base_laws.specs.Lists.{increased, same_numbers}
use Rattle.class_rules.specs.Classes.{sizes, counts, size_of, blocks_of}
use Rattle.marks_rules.specs.Marks.{bit, mark_bit, is_marked, with_mark, live_count, no_mark_from}
use Rattle.names_rules.proofs.NameDefinitions.{name_definitions}
use Rattle.order_rules.specs.Order.{place}
use Rattle.filled_rules.specs.FilledPlaces.{occurrences, places_in_storage, each_once, places_valid}
use Rattle.heap_rules.specs.Table.{is_unused, is_of_run, starts_run, live_blocks, is_live_block}
use Rattle.heap_rules.specs.Counts.{total, belongs, one_if_belongs, live_if_belongs, superblocks_of, blocks_in, live_of}
use Rattle.heap_rules.specs.Ranks.{is_ranked}
use Rattle.heap_rules.specs.Totals.{is_counted, with_counted, counted_below, recounted}
use Rattle.move_rules.specs.Moves.{both_conditions, must_move}
use Rattle.check_rules.specs.Check.{within_limits, is_part_of_run, is_unowned, is_owned, superblock_valid, unused_from, emptiness_invariant, sparse_if_global}
use Rattle.check_rules.specs.Check.{names_valid, same_totals, totals_valid, ranked_count, carrying, ranks_valid, runs_whole, runs_valid, rest_valid, passes}

unfoldable pub check_definitions : Unit {0}
unfolding passes within_limits rest_valid superblock_valid is_owned is_unowned is_part_of_run runs_valid runs_whole unused_from emptiness_invariant
    sparse_if_global
    names_valid totals_valid ranks_valid ranked_count carrying is_ranked is_unused is_of_run starts_run
    is_live_block live_blocks with_mark
    same_totals recounted counted_below with_counted is_counted increased same_numbers
    must_move both_conditions total one_if_belongs live_if_belongs belongs superblocks_of blocks_in live_of name_definitions
    places_valid places_in_storage each_once occurrences place no_mark_from live_count is_marked mark_bit bit size_of sizes blocks_of counts sum_below all_below
check_definitions = tt
