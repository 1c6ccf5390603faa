use Rattle.slonik_tokens.proofs.Quotes.{Reads}
use Rattle.slonik_tokens.proofs.lexeme.unquoted.Given as goal

abbrev pub invariant-loop-byte : goal.invariant-loop-byte
invariant-loop-byte l = Reads l.bytes l.text.items l.after_quote l.len l.byte-index
