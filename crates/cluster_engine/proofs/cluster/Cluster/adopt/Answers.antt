use Rattle.std.proofs.Common.{◌∙◌, sym, rules}
use Rattle.slon_model.specs.declared.reply.Answer.TheVariants.{Done}
use Rattle.slon_model.specs.declared.reply.Refusal.TheVariants.{NotEmpty}
use Rattle.slon_model.specs.declared.reply.Reply.TheVariants.{Accepted, Refused}
use Rattle.cluster_engine.specs.Clustered.{cluster_of}
use Rattle.cluster_engine.proofs.Moving.{not_so, made_by, rejects, given_more, kept_more, keeps_ok, keeps_err}
use Rattle.cluster_engine.proofs.Telling.{making_promises}
use Rattle.cluster_engine.proofs.cluster.Cluster.adopt.Goals as goal

pub returns-then-is_not_empty : goal.returns-then-is_not_empty
returns-then-is_not_empty g c =
    let old = cluster_of g.K.Keeper.kept c.args.self.now in
    let p =
    making_promises c.args.name (g.K.Keeper.kept c.args.keeper) old (Refused (NotEmpty c.args.name)) _
    (rejects c.args.name _ old _ _ c.in-Err.fault (
      made_by _ _ _ _ _ c.create-database.ensures.founds c.create-database.ensures.down
          (c.new.ensures.kept, c.in-Err.is),
      sym c.is_not_empty.ensures ∙ c.if-is_not_empty.true,
    ) (given_more old c.in-Some.given c.in-Some.ensures.1)) in
    search (rules, p)

pub returns-in_ok-keep-in-Ok : goal.returns-in_ok-keep-in-Ok
returns-in_ok-keep-in-Ok g c =
    let old = cluster_of g.K.Keeper.kept c.args.self.now in
    let p =
    making_promises c.args.name (g.K.Keeper.kept c.args.keeper) old (Accepted Done)
    (cluster_of g.K.Keeper.kept c.keep.new.self) (keeps_ok c.args.name _ _ _ _ c.in-Ok.field-0
    (made_by _ _ _ _ _ c.create-database.ensures.founds c.create-database.ensures.down (c.new.ensures.kept, c.in-Ok.is))
    (kept_more c.args.name _ old _ _ (given_more old c.in-Some.given c.in-Some.ensures.1)
    c.in_ok-keep-in-Ok.ensures)) in
    search (rules, p)

pub returns-in_ok-keep-in-Err : goal.returns-in_ok-keep-in-Err
returns-in_ok-keep-in-Err g c =
    let old = cluster_of g.K.Keeper.kept c.args.self.now in
    let p =
    making_promises c.args.name (g.K.Keeper.kept c.args.keeper) old c.in_ok-reply-in-Err.reply
    (cluster_of g.K.Keeper.kept c.keep-in-Err.new.self) (keeps_err c.args.name _ _ _ _ (record {
      b = _;
      fault = c.in-Err.fault;
      made = made_by _ _ _ _ _ c.create-database.ensures.founds c.create-database.ensures.down
          (c.new.ensures.kept, c.in-Err.is);
      empty = sym c.is_not_empty.ensures ∙ c.if-is_not_empty.false;
      memory = not_so _ c.in_ok-reply-in-Err.ensures.memory;
      told = c.in_ok-reply-in-Err.ensures.reply;
      same = kept_more c.args.name _ old _ _ (given_more old c.in-Some.given c.in-Some.ensures.1)
          c.in_ok-keep-in-Err.ensures;
    })) in
    search (rules, p)
