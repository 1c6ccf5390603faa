use Rattle.std.proofs.Common.{◌≡◌, ◌++◌, drop}
use Rattle.slon_base.specs.Codec.{text_bytes, all_bytes, AllTexts}
use Rattle.change_capture.proofs.spelled_texts.SpelledTexts.new.Given as goal

abbrev pub invariant-loop-text : goal.invariant-loop-text
invariant-loop-text l =
    record {
      spelled : l.spelled ++ all_bytes text_bytes (drop l.text-index l.texts) ≡ all_bytes text_bytes l.texts;
      can : AllTexts (drop l.text-index l.texts);
    }
