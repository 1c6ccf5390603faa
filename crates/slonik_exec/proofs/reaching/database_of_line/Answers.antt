use Rattle.std.proofs.Common.{◌∙◌, sym, ap, subst}
use Rattle.std.specs.Option.{option_copied}
use Rattle.slon_model.specs.declared.reply.Refusal.TheVariants as refused
use Rattle.slonik_exec.specs.declared.reaching.Reached.TheVariants.{Refused}
use Rattle.slonik_exec.specs.Databases.{bases_of}
use Rattle.slonik_exec.specs.Reached.{IsUpAt, FindsLine}
use Rattle.slonik_exec.proofs.Seats.{line_is, line_none, Entry, named_by, named_on, missing_here, up_here}
use Rattle.slonik_exec.proofs.Seats.{up_line, down_line, name_here}
use Rattle.slonik_exec.proofs.reaching.database_of_line.Goals as goal

pub returns-in_default-clause-finds : goal.returns-in_default-clause-finds
returns-in_default-clause-finds g c =
    line_none c.args.lines.now c.args.id (bases_of g.K.Keeper.kept c.args.databases.now)
    (sym (line_is c.args.id c.args.lines.now) ∙ sym c.conninfo.ensures ∙ ap option_copied c.in_default.is)

pub returns-in_default-index_of-clause-finds : goal.returns-in_default-index_of-clause-finds
returns-in_default-index_of-clause-finds g c =
    let name = c.database_in-name.result.now in
    let e : Entry
    = record { lines = c.args.lines.now; id = c.args.id; conninfo = c.as_slice.result.now; name = name } in
    let named = named_by e c.conninfo.result c.in-Some.conninfo c.conninfo.ensures c.in-Some.is
    c.as_slice.ensures.value c.database_in-name.ensures.name in
    subst (λ n. FindsLine e.lines e.id (bases_of g.K.Keeper.kept c.args.databases.now) (Refused (refused.NoDatabase n)))
    (sym c.in_ok-database.ensures)
    (missing_here g.K.Keeper.kept c.args.databases.now e named (sym c.index_of.ensures ∙ c.in_default-index_of.is))

pub returns-then-is_up : goal.returns-then-is_up
returns-then-is_up g c =
    let name = c.database_in-name.result.now in
    let e : Entry
    = record { lines = c.args.lines.now; id = c.args.id; conninfo = c.as_slice.result.now; name = name } in
    let named = named_by e c.conninfo.result c.in-Some.conninfo c.conninfo.ensures c.in-Some.is
    c.as_slice.ensures.value c.database_in-name.ensures.name in
    let databases = c.args.databases.now in
    let at = sym c.index_of.ensures ∙ c.in-Some-index_of.is in
    let up = sym c.is_up.ensures ∙ c.if-is_up.true in
    record {
      quiet = tt;
      here = subst (λ n. IsUpAt {g = g.K.Keeper} n databases c.in-Some-index_of.i) (named_on e named)
          (up_here {g = g.K.Keeper} name databases c.in-Some-index_of.i c.index-databases-i.result at up);
      finds = up_line g.K.Keeper.kept databases c.in-Some-index_of.i e c.index-databases-i.result
          (record { named = named; at = at }) up;
    }

pub returns-clause-finds : goal.returns-clause-finds
returns-clause-finds g c =
    let name = c.database_in-name.result.now in
    let e : Entry
    = record { lines = c.args.lines.now; id = c.args.id; conninfo = c.as_slice.result.now; name = name } in
    let named = named_by e c.conninfo.result c.in-Some.conninfo c.conninfo.ensures c.in-Some.is
    c.as_slice.ensures.value c.database_in-name.ensures.name in
    let at = sym c.index_of.ensures ∙ c.in-Some-index_of.is in
    subst (λ n. FindsLine e.lines e.id (bases_of g.K.Keeper.kept c.args.databases.now) (Refused (refused.Down n)))
    (name_here g.K.Keeper.kept c.args.databases.now c.in-Some-index_of.i name c.index-databases-i-2.result at
    ∙ sym c.in_ok-database-2.ensures)
    (down_line g.K.Keeper.kept c.args.databases.now c.in-Some-index_of.i e c.index-databases-i.result
    (record { named = named; at = at }) (sym c.is_up.ensures ∙ c.if-is_up.false))
