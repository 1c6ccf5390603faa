use Rattle.std.proofs.Common.{◌≡◌, ◌++◌, ◌∷◌, [], true, false, get_or, arith}
use Rattle.std.proofs.lemmas.Bool.Decides.{nat_tests}
use Rattle.slonik_tokens.proofs.Quotes.{keeps, opens}
use Rattle.slonik_tokens.proofs.lexeme.unquoted.Goals.{then-not-after_quote+in_ok-push, else-not-after_quote}
use Rattle.slonik_tokens.proofs.lexeme.unquoted.Goals as goal

pub loop-byte-preserved : goal.loop-byte-preserved
loop-byte-preserved c =
    let bytes = c.args.bytes.now in
    let i = c.loop-byte.byte-index in
    elim c.if-not-after_quote.branch [
      | then-not-after_quote+in_ok-push w ↦
          let now : c.if-byte-eq39.after_quote ≡ false = w.if-not-after_quote.true in
          let grows : c.if-not-after_quote.text.items ≡ c.loop-byte.text.items ++ get_or bytes i 0 ∷ [] =
          cc w.in_ok-push.ensures.items in
          rw (now, grows) (keeps bytes c.loop-byte.text.items c.loop-byte.len i c.loop-byte.after_quote
          (c.loop-byte-test.true, c.if-byte-eq10.false) (grind (arith, nat_tests)) c.loop-byte.invariant)
      | else-not-after_quote w ↦
          let now : c.if-byte-eq39.after_quote ≡ true = w.if-not-after_quote.false in
          let start : c.loop-byte.after_quote ≡ false = grind (arith, nat_tests) in
          let same : c.if-not-after_quote.text.items ≡ c.loop-byte.text.items = cc in
          rw (now, same) (opens bytes c.loop-byte.text.items c.loop-byte.len i c.loop-byte-test.true
          (grind (arith, nat_tests)) (rw start at c.loop-byte.invariant))
    ]
