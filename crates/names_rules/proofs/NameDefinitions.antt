-- The definitions of names that a computed case unfolds, listed once. Assumes nothing.
use Rattle.names_rules.specs.Names.{is_name, block_named, is_held, with_name, without_block, each_held, is_named, no_two_at_one}

unfoldable pub name_definitions : Unit {0}
unfolding is_name block_named is_held with_name without_block each_held is_named no_two_at_one
name_definitions = tt
