use Rattle.std.proofs.Common.{◌≡◌, ℕ, List, ◌++◌, length}
use Rattle.slon_base.specs.Codec.{text_bytes, all_bytes, IsText, AllTexts}
use Rattle.store_rows.proofs.Reading.{Left}
use Rattle.change_capture.specs.Texts.{texts_from, PassesTexts}
use Rattle.change_capture.proofs.spelled_texts.skip_texts.Given as goal

abbrev pub invariant-loop : goal.invariant-loop
invariant-loop l =
    record {
      left : (texts : List (List ℕ)) (rest : List ℕ) → AllTexts texts → l.count ≡ length texts →
          l.fn.row ≡ all_bytes text_bytes texts ++ rest →
          Left text_bytes IsText l.row rest l.counter l.count (texts_from l.counter l.fn.row) texts;
      passed : PassesTexts l.counter l.fn.row l.row;
    }
