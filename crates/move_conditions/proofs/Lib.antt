pub mod MoveRuleLaws
