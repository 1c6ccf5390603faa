use Rattle.std.proofs.Common.{ap, refl, ◌∙◌}
use Rattle.std.proofs.lemmas.List.{with_items_is}
use Rattle.session_text.proofs.Moving.{ReadOn, filled, none_unread}
use Rattle.session_text.proofs.line_reader.LineReader.fill.Goals as goal

pub returns-clause-bytes : goal.returns-clause-bytes
returns-clause-bytes g c bytes comes =
    let items = with_items_is c.self.inside.buffer c.read.new.into (c.read.auto.into ∙ c.as_mut_slice.ensures.len) in
    let all = none_unread _ _ bytes comes.0 _ _ (ap (λ r. r.unread) c.self.view_is) (c.if-self.false, comes.2) in
    let on : ReadOn _ _ bytes = record {
      before = _;
      after = _;
      left = comes.0;
      reads = c.in_ok-count.ensures.bytes;
      told = comes.1;
      all = all;
    } in
    filled _ _ bytes _ _ on items refl
