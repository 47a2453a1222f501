-- `choice_superblock::fullest` meets its contract. Assumes nothing.
use Rattle.base_laws.proofs.ReplacedElement.{length_of_length_map}
use Rattle.choice_rules.specs.Choice.{fullest}
use Rattle.choice_criteria.specs.Criteria.{meets_criterion}
use Rattle.choice_preference.specs.Preference.{preferred_by}
use Rattle.choice_superblock.proofs.ScanLaws.{chosen_in_table}
use Rattle.choice_superblock.proofs.fullest.Goals as goal

pub returns : goal.returns
unfolding fullest meets_criterion preferred_by
returns c = chosen_in_table _ _ _ _ (search length_of_length_map) c.scan.ensures
