use Rattle.std.proofs.Common.{◌++◌, ap, sym, ◌∙◌}
use Rattle.txn_core.proofs.SnapshotTexts.{no_ids, ids_words, nil_of_length, some_of_length}
use Rattle.txn_core.proofs.SnapshotParts.{Word, one_read, none_read, all_read, texts}
use Rattle.txn_core.proofs.read.ids_of.Goals as goal

pub returns-then-is_empty : goal.returns-then-is_empty
returns-then-is_empty c xs small is = c.new-ids.ensures
    ∙ no_ids xs small (sym (nil_of_length c.args.text.now c.if-is_empty.ensures) ∙ is)

pub loop-word-init : goal.loop-word-init
loop-word-init c xs small is =
    let words = ids_words c.args.text.now xs (some_of_length c.args.text.now c.if-is_empty.ensures) small is in (
      xs,
      ap (λ l. l ++ xs) c.new-ids.ensures,
      ap texts c.as_slice-word-items.ensures.value ∙ c.in_ok-words.ensures
          ∙ words,
      small,
    )

pub loop-word-preserved : goal.loop-word-preserved
loop-word-preserved c xs small is =
    let at : Word = record {
      words = c.as_slice-word-items.result.now;
      at = c.loop-word.word-index;
      default = _;
      within = c.loop-word-test.true;
    } in
    rw c.in_ok-push-in-Some.ensures.ok (one_read at c.loop-word.ids xs c.number_of.result c.in-Some.xid
    (c.loop-word.invariant xs small is) c.number_of.ensures c.in-Some.is)

pub returns-in-None : goal.returns-in-None
returns-in-None c xs small is =
    none_read (record {
      words = c.as_slice-word-items.result.now;
      at = c.loop-word.word-index;
      default = _;
      within = c.loop-word-test.true;
    }) c.loop-word.ids xs c.number_of.result (c.loop-word.invariant xs small is) c.number_of.ensures c.in-None.is

pub returns : goal.returns
returns c xs small is = all_read c.as_slice-word-items.result.now c.loop-word.word-index c.loop-word.ids xs
    c.loop-word-test.false (c.loop-word.invariant xs small is)
