pub mod TransferLoopLaws
