use Rattle.std.proofs.Common.{◌≡◌, map}
use Rattle.slon_model.specs.Lines.{columns_behind}
use Rattle.session_text.proofs.Columns.{columns_from}
use Rattle.session_text.proofs.writes.columns_of.Given as goal

abbrev pub invariant-loop-word : goal.invariant-loop-word
invariant-loop-word l =
    columns_from l.last l.word-index l.columns l.words ≡ columns_behind 0 (map (λ word. word.now) l.words)
