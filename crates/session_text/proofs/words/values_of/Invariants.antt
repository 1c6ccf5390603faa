use Rattle.std.proofs.Common.{◌≡◌, ◌++◌, map, drop}
use Rattle.std.specs.List.{list_all}
use Rattle.slon_model.specs.Forms.{is_value}
use Rattle.session_text.proofs.words.values_of.Given as goal

abbrev pub invariant-loop-word : goal.invariant-loop-word
invariant-loop-word l = record {
  values : l.values ++ map (λ word. word.now) (drop l.word-index l.words) ≡ map (λ word. word.now) l.words;
  passed : list_all is_value (map (λ word. word.now) l.words) ≡ list_all is_value
      (map (λ word. word.now) (drop l.word-index l.words));
}
