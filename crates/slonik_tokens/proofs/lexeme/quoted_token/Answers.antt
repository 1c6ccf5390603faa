use Rattle.std.proofs.Common.{◌∙◌, sym, ap}
use Rattle.slonik_tokens.specs.Cut.{text_in}
use Rattle.slonik_tokens.proofs.Quotes.{quoted_is, quoted_none}
use Rattle.slonik_tokens.proofs.lexeme.quoted_token.Goals as goal

pub returns : goal.returns
returns c =
    quoted_is c.args.bytes.now c.in-Some-2.text c.in-Some.text.items c.in-Some.len
    (rw c.in-Some.is at c.in_ok-unquoted.ensures.found)
    (sym c.in-Some-2.is ∙ c.in_ok-text_in-in-Some.ensures ∙ ap text_in c.as_slice.ensures.value)

pub returns-in-None-2 : goal.returns-in-None-2
returns-in-None-2 c =
    let found = rw c.in-Some.is at c.in_ok-unquoted.ensures.found in
    quoted_none c.args.bytes.now c.in-Some.text.items found.0
    (sym c.in-None-2.is ∙ c.in_ok-text_in-in-Some.ensures ∙ ap text_in c.as_slice.ensures.value)
