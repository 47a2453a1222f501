-- `choice_superblock::lowest_unused` meets its contract: past the table's end nothing is unused. Assumes nothing.
use borrow.Author.Rules.{rules}
use Rattle.base_laws.proofs.ReplacedElement.{length_of_length_map}
use Rattle.choice_rules.specs.Choice.{lowest_unused}
use Rattle.choice_criteria.specs.Criteria.{meets_criterion}
use Rattle.choice_preference.specs.Preference.{preferred_by}
use Rattle.choice_superblock.proofs.ScanLaws.{chosen_unused_below}
use Rattle.choice_superblock.proofs.lowest_unused.Goals as goal

pub returns : goal.returns
unfolding lowest_unused meets_criterion preferred_by
returns c = chosen_unused_below _ (search length_of_length_map) _ _ _ c.min-n.ensures (search (c.scan.ensures, rules))
