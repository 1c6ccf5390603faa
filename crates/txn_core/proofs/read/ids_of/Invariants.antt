use Rattle.std.proofs.Common.{◌≡◌, ℕ, List}
use Rattle.slon_model.specs.Snapshots.{ids_text}
use Rattle.txn_core.proofs.SnapshotTexts.{AllSmall}
use Rattle.txn_core.proofs.SnapshotParts.{Left}
use Rattle.txn_core.proofs.read.ids_of.Given as goal

abbrev pub invariant-loop-word : goal.invariant-loop-word
invariant-loop-word l =
    (xs : List ℕ) → AllSmall xs → l.text ≡ ids_text xs → Left l.word-items l.word-index l.ids xs
