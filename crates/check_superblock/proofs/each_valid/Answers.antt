-- `check_superblock::each_valid` meets its contract. Assumes nothing.
use Rattle.std.proofs.Common.{ℕ, Bool, get_or, refl, ◌∙◌, rules}
use borrow.Author.Tests.{tests}
use Rattle.std.proofs.lemmas.Iterator.{YieldsList-from_range}
use Rattle.std.proofs.lemmas.Iterator.Search.{all_from_yields_List}
use Rattle.heap_rules.specs.Table.{blank}
use Rattle.check_superblock.specs.Alone.{alone_valid, each_valid}
use Rattle.check_superblock.proofs.AllBelowLaws.{all_below_is_list_all}
use Rattle.check_superblock.proofs.each_valid.Goals as goal

pub returns : goal.returns
unfolding each_valid
returns c =
    let test : ℕ → Bool = λ k. alone_valid c.args.setup c.args.order.now k (get_or c.args.table k blank) in
    all_from_yields_List test _ _ _ c.all.ensures.ran (YieldsList-from_range _ _ _ refl refl) (λ x b q k. search (rules, tests))
    ∙ all_below_is_list_all test _
