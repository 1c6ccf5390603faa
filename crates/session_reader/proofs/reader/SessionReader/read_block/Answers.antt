use Rattle.std.proofs.Common.{◌∙◌, Err, ap, sym, subst}
use Rattle.std.proofs.lemmas.Result.{err_from_is_err_and}
use Rattle.session_reader.specs.Sessions.{IsRead, block_of, closed}
use Rattle.session_reader.specs.Fetching.{ahead_of, left_of, IsBlock, InFile}
use Rattle.session_reader.proofs.Going.{block_stops, comes_still}
use Rattle.session_reader.proofs.reader.SessionReader.read_block.Goals as goal

pub returns-in_err-text-clause-reads : goal.returns-in_err-text-clause-reads
returns-in_err-text-clause-reads g c names told bytes comes =
    let p = err_from_is_err_and c.from_residual.result c.from_residual.ensures.1 in
    rw (p.1, p.2) (c.in_err-text.ensures.reads names c.args.name bytes comes)

pub returns-in_err-reading-clause-reads : goal.returns-in_err-reading-clause-reads
returns-in_err-reading-clause-reads g c names told bytes comes =
    let p = err_from_is_err_and c.from_residual-in_err-reading.result c.from_residual-in_err-reading.ensures.1 in
    let mid = c.read_text.new.self in
    let t = c.in_ok-text.ensures.reads names c.args.name bytes comes in
    let new = c.read_script.new.self in
    let fault = c.in_err-reading.field-0.0 in
    let is = subst (λ l. IsBlock (block_of names (left_of mid) l) (Err fault) (left_of new)) c.deref.ensures.value
    (c.in_err-reading.ensures.exact names (c.in_ok-text.ensures.files.names ∙ told)) in
    rw (p.1, p.2)
    (block_stops _ c.args.name (block_of names (left_of mid) c.in_ok-text.text.items) (ahead_of names mid.number t.0)
    fault (left_of new) t.2 is)

pub returns-clause-reads : goal.returns-clause-reads
returns-clause-reads g c names told bytes comes =
    let mid = c.read_text.new.self in
    let new = c.read_script.new.self in
    let t = c.in_ok-text.ensures.reads names c.args.name bytes comes in
    let is = c.in_ok-reading.ensures.exact names (c.in_ok-text.ensures.files.names ∙ told) in (
      t.0,
      comes_still mid.lines new.lines (g.F.Files.filed c.read_text.new.files)
          (g.F.Files.filed c.read_script.new.files) t.0 t.1 c.in_ok-reading.ensures.unread
          c.in_ok-reading.ensures.files.stack,
      t.2 ∙ ap (λ b. closed c.args.name b (ahead_of names mid.number t.0)) (rw c.deref.ensures.value at is)
          ∙ ap (λ n. closed c.args.name (IsRead c.in_ok-reading.reading (left_of new)) (ahead_of names n t.0))
          (sym c.in_ok-reading.ensures.number),
    )

pub returns-in_err-text-clause-breaks : goal.returns-in_err-text-clause-breaks
returns-in_err-text-clause-breaks g c names told bytes comes failed =
    let p = err_from_is_err_and c.from_residual.result c.from_residual.ensures.1 in
    c.in_err-text.ensures.breaks names c.args.name bytes comes (cc (p.1, p.2, failed))

pub returns-in_err-reading-clause-breaks : goal.returns-in_err-reading-clause-breaks
returns-in_err-reading-clause-breaks g c names told bytes comes failed =
    let mid = c.read_text.new.self in
    let new = c.read_script.new.self in
    let text = c.in_ok-text.text.items in
    let t = c.in_ok-text.ensures.reads names c.args.name bytes comes in
    InFile c.args.name text (left_of mid) t.0
    (comes_still mid.lines new.lines (g.F.Files.filed c.read_text.new.files)
    (g.F.Files.filed c.read_script.new.files) t.0 t.1 c.in_err-reading.ensures.unread
    c.in_err-reading.ensures.files.stack)
    (t.2 ∙ ap (λ n. closed c.args.name (block_of names (left_of mid) text) (ahead_of names n t.0))
    (sym c.in_err-reading.ensures.number))
