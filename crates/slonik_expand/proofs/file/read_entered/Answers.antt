use Rattle.std.proofs.Common.{ap, ◌∙◌, arith, ◌≡◌, take, length, ◌++◌}
use Rattle.std.proofs.lemmas.List.{with_items_is, length-append, length-take}
use Rattle.std.proofs.lemmas.Result.{err_from_is_err_and}
use Rattle.slonik_expand.proofs.Faults.{failed_since, unread_fault}
use Rattle.slonik_expand.proofs.ReadingOn.{Partly, keeps_on, read_more}
use Rattle.slonik_expand.proofs.file.read_entered.Goals as goal

pub returns-in_err-count-clause-cause : goal.returns-in_err-count-clause-cause
returns-in_err-count-clause-cause g c =
    let p = err_from_is_err_and c.from_residual-in_err-count.result c.from_residual-in_err-count.ensures.1 in
    rw (p.1, p.2) (failed_since _ _ _ _ c.loop-bytes.invariant.files.faults c.in_err-count.ensures.cause.failed)

pub returns-in_err-count-clause-whole : goal.returns-in_err-count-clause-whole
returns-in_err-count-clause-whole g c bytes told =
    let p = err_from_is_err_and c.from_residual-in_err-count.result c.from_residual-in_err-count.ensures.1 in
    rw (p.1, p.2) (unread_fault bytes _ _)

pub loop-bytes-preserved : goal.loop-bytes-preserved
loop-bytes-preserved g c =
    let items = with_items_is c.loop-bytes.buffer c.read.new.into (c.read.auto.into ∙ c.as_mut_slice.ensures.len) in
    let long : length c.read.new.into ≡ 4096 =
    omega (
      arith,
      c.read.auto.into,
      c.as_mut_slice.ensures.len,
      c.loop-bytes.buffer.ok.0,
      c.loop-bytes.invariant.buffer,
    ) in
    let grown : c.extend_from_slice.new.self.items ≡ c.loop-bytes.bytes.items
    ++ take c.in_ok-count.count c.read.new.into =
    c.in_ok-extend_from_slice.ensures.items ∙ ap (λ l. c.loop-bytes.bytes.items ++ take c.in_ok-count.count l)
    (c.deref.ensures.value ∙ items) in
    record {
      files = keeps_on _ _ _ _ _ c.loop-bytes.invariant.files c.in_ok-count.ensures;
      buffer = ap length items ∙ long;
      room = omega (
        arith,
        ap length grown,
        length-append c.loop-bytes.bytes.items
            (take c.in_ok-count.count c.read.new.into),
        length-take c.in_ok-count.count c.read.new.into,
        c.in_ok-count.ensures.count,
        c.loop-bytes.invariant.room,
        c.if-count-room.false,
      );
      read = λ bytes told.
          let r = c.loop-bytes.invariant.read bytes told in
          let before : Partly _ c.loop-bytes.bytes.items bytes = record { rest = r.0; is = r.1; whole = r.2 } in
          rw grown (read_more _ _ _ _ _ _ c.in_ok-count.ensures.bytes before);
    }
