-- What methods answer, as the answers to their tasks.
use Rattle.std.specs.Prelude.{ℕ, Bool, List, Option, Some, None, if◌then◌else◌}
use Rattle.slon_model.specs.declared.reply.Answer.TheVariants.{Opened, Acted, Unchanged, Committed, Listed}
use Rattle.slon_model.specs.declared.reply.Answered.{Answered}
use Rattle.slon_model.specs.declared.reply.Answered.TheVariants.{Sure, InDoubt}

abbrev pub opened : ℕ → Answered
opened xid = Sure (Opened xid)

abbrev pub acted : ℕ → Answered
acted number = Sure (Acted number)

abbrev pub acted_or_not : Option ℕ → Answered
acted_or_not None = Sure Unchanged
acted_or_not (Some number) = Sure (Acted number)

abbrev pub committed : ℕ × Bool → Answered
committed c = if c.1 then InDoubt (Committed c.0) else Sure (Committed c.0)

abbrev pub listed : List (List ℕ × List (List ℕ)) → Answered
listed rows = Sure (Listed rows)
