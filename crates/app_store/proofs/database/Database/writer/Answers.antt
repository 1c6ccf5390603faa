use Rattle.std.proofs.Common.{◌≡◌, ◌∙◌, ℕ, Option, Result, Ok, Err}
use Rattle.std.specs.Prelude.{IfOk}
use Rattle.app_store.specs.Base.{base_of}
use Rattle.app_store.proofs.Wrote.{writer_is}
use Rattle.app_store.proofs.database.Database.writer.Goals as goal

-- what was found is the one, if the other is it
found_as : {E : Type 0} (result : Result (Option ℕ) E) (one other : Option ℕ) → IfOk result (λ found. found ≡ one) →
    one ≡ other → IfOk result (λ found. found ≡ other)
found_as (Ok found) one other is same = is ∙ same
found_as (Err e) one other is same = tt

pub returns : goal.returns
returns g c p ready running =
    found_as c.least_writer.result _ _ c.least_writer.ensures
    (writer_is (base_of g.K.Keeper.kept c.args.self.now) p c.args.tables.now ready running)
