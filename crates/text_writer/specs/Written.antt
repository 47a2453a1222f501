-- What is in a lent buffer once a text is written there.
use Rattle.std.specs.Prelude.{List, ℕ}
use Rattle.text_rules.specs.Text.{pasted}
use Rattle.text_writer.specs.declared.Text.{Text}

-- the same buffer with more text put in it at the place, and the place after it
unfoldable pub written : Text → List ℕ → Text
written old text = let p = pasted old.buffer.now old.end text in record { buffer = record old.buffer { now = p.buffer }; end = p.end }
