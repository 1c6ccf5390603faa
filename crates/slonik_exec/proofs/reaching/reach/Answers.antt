use Rattle.std.proofs.Common.{get_or, sym, subst}
use Rattle.app_store.specs.Base.{base_of}
use Rattle.slonik_exec.specs.Databases.{bases_of}
use Rattle.slonik_exec.specs.Reached.{name_on, Addresses, FindsLine, IsUpHere, IsUpAt, IsQuietly, Reaches}
use Rattle.slonik_exec.proofs.Seats.{reaches_seat, reaches_refused, base_here, quiet_seat}
use Rattle.slonik_exec.proofs.reaching.reach.Goals as goal

pub returns-in-At-clause-reaches : goal.returns-in-At-clause-reaches
returns-in-At-clause-reaches g c =
    let a : Addresses = record { lines = c.args.lines.now; cluster = c.args.cluster.now } in
    let databases = c.args.databases.now in
    let bases = bases_of g.K.Keeper.kept databases in
    let name = name_on c.args.id a.lines in
    let i = c.in-At.i in
    let d = c.index-databases-i.result in
    let here : IsUpAt {g = g.K.Keeper} name databases i
    = subst (IsUpHere {g = g.K.Keeper} name databases) c.in-At.is c.in_ok-i.ensures.here in
    subst (Reaches a c.args.id bases) (sym c.seated.ensures)
    (reaches_seat a c.args.id i bases (base_of g.K.Keeper.kept (get_or databases i d).database) (record {
      line = subst (FindsLine a.lines c.args.id bases) c.in-At.is c.in_ok-i.ensures.finds;
      found = base_here g.K.Keeper.kept databases i name d here.at;
    }))

pub returns-in-At-clause-quiet : goal.returns-in-At-clause-quiet
returns-in-At-clause-quiet g c =
    let d = get_or c.args.databases.now c.in-At.i c.index-databases-i.result in
    subst IsQuietly (sym c.seated.ensures)
    (quiet_seat c.in-At.i c.args.id c.args.cluster.now d.database.state.node.identity)

pub returns-in-Refused-clause-reaches : goal.returns-in-Refused-clause-reaches
returns-in-Refused-clause-reaches g c =
    let a : Addresses = record { lines = c.args.lines.now; cluster = c.args.cluster.now } in
    let bases = bases_of g.K.Keeper.kept c.args.databases.now in
    reaches_refused a c.args.id bases c.in-Refused.refusal
    (subst (FindsLine a.lines c.args.id bases) c.in-Refused.is c.in_ok-i.ensures.finds)
