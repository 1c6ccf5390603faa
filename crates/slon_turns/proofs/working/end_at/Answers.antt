use Rattle.std.proofs.Common.{IfOk, ap, sym, subst}
use Rattle.std.proofs.lemmas.Result.{IfOk-weaker}
use Rattle.app_store.specs.Base.{base_of}
use Rattle.slonik_exec.specs.Databases.{told_by}
use Rattle.slonik_exec.proofs.Works.{refused_calm}
use Rattle.slon_turns.specs.Applying.{EndsWith}
use Rattle.slon_turns.proofs.Between.{acts_none}
use Rattle.slon_turns.proofs.Listens.{if_both}
use Rattle.slon_turns.proofs.Settling.{keep_ended}
use Rattle.slon_turns.proofs.working.end_at.Goals as goal

pub returns-in-Fetch-clause-answers : goal.returns-in-Fetch-clause-answers
returns-in-Fetch-clause-answers g c =
    let base = base_of g.K.Keeper.kept c.args.own.now.database in
    IfOk-weaker c.keep_at.result _ _ (λ reply told. refused_calm base base (ap told_by told) (acts_none base))
    c.keep_at.ensures.told

pub returns-in-Fetch-clause-ends : goal.returns-in-Fetch-clause-ends
returns-in-Fetch-clause-ends g c =
    let name = c.args.own.now.name in
    let base = base_of g.K.Keeper.kept c.args.own.now.database in
    let w = c.args.fetched in
    subst (λ aim. IfOk c.keep_at.result (λ reply. EndsWith aim name w (base, c.args.held.now) reply
    (base, c.keep_at.new.held))) (sym c.in-Fetch.is)
    (if_both c.keep_at.result (λ reply put told. keep_ended {name = name} {w = w} put c.keep_at.ensures.queue told)
    c.keep_at.ensures.fetches c.keep_at.ensures.told)

pub returns-in-Apply-clause-ends : goal.returns-in-Apply-clause-ends
returns-in-Apply-clause-ends g c =
    let name = c.args.own.now.name in
    let old = base_of g.K.Keeper.kept c.args.own.now.database in
    let new = base_of g.K.Keeper.kept c.settle_at.new.own.database in
    subst (λ aim. IfOk c.settle_at.result (λ reply. EndsWith aim name c.args.fetched (old, c.args.held.now) reply
    (new, c.settle_at.new.held))) (sym c.in-Apply.is) c.settle_at.ensures.ends
