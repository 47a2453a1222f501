-- `check_invariant::emptiness_invariant` meets its contract. Assumes nothing.
use Rattle.std.proofs.Common.{refl, ◌∙◌, rules}
use borrow.Author.Tests.{tests}
use Rattle.std.proofs.lemmas.Iterator.{YieldsList-from_range}
use Rattle.std.proofs.lemmas.Iterator.Search.{all_from_yields_List}
use Rattle.check_invariant.specs.TotalsInvariant.{heap_invariant, totals_invariant}
use Rattle.check_invariant.proofs.AllBelowLaws.{all_below_is_list_all}
use Rattle.check_invariant.proofs.emptiness_invariant.Goals as goal

pub returns : goal.returns
unfolding totals_invariant
returns c =
    all_from_yields_List (heap_invariant c.args.setup c.args.t) _ _ _ c.all.ensures.ran (YieldsList-from_range _ _ _ refl refl)
    (λ x b q k. search (rules, tests))
    ∙ all_below_is_list_all (heap_invariant c.args.setup c.args.t) _
