-- `bytes_reader::byte_at` meets its contract. Assumes nothing.
use borrow.Author.Rules.{rules}
use Rattle.bytes_reader.proofs.byte_at.Goals as goal

pub returns : goal.returns
returns c = search rules
