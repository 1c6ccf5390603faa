-- What is said of a commit that was in doubt, by the stamp that the store has.
use Rattle.std.specs.Prelude.{ℕ, ◌==◌, Bool, true, false, Option, Some, None}
use Rattle.slon_model.specs.declared.reply.Answer.{Answer}
use Rattle.slon_model.specs.declared.reply.Answer.TheVariants.{Done, Kept as IsKept, Lost as IsLost}

abbrev pub settled_by : Bool → Answer
settled_by true = IsKept
settled_by false = IsLost

abbrev pub is_stamp : ℕ → Option ℕ → Bool
is_stamp written None = false
is_stamp written (Some stamp) = stamp == written

abbrev pub settled_as : Option ℕ → Option ℕ → Answer
settled_as None stamp = Done
settled_as (Some written) stamp = settled_by (is_stamp written stamp)
