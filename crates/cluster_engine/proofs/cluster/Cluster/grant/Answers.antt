use Rattle.std.proofs.Common.{◌∙◌, is_some, sym, ap, arith}
use Rattle.slon_model.specs.declared.reply.Refusal.TheVariants.{NameUsed}
use Rattle.slon_model.specs.declared.reply.Reply.TheVariants.{Refused}
use Rattle.slonik_exec.specs.Databases.{named_base}
use Rattle.cluster_engine.specs.Clustered.{cluster_of}
use Rattle.cluster_engine.proofs.Moving.{grants_taken, grants_more, grants_none}
use Rattle.cluster_engine.proofs.cluster.Cluster.grant.Goals as goal

pub returns-then-is_some : goal.returns-then-is_some
returns-then-is_some g c =
    ap (λ n. Refused (NameUsed n)) c.in_ok-name.ensures
    ∙ grants_taken (named_base g.K.Keeper.kept) c.args.name.now
    (cluster_of g.K.Keeper.kept c.args.self.now) c.args.self.now.databases.items
    (sym (c.is_some.ensures ∙ ap is_some c.index_of.ensures) ∙ c.if-is_some.true)

pub returns-then-len-self : goal.returns-then-len-self
returns-then-len-self g c =
    grants_more (named_base g.K.Keeper.kept) c.args.name.now
    (cluster_of g.K.Keeper.kept c.args.self.now) c.args.self.now.databases.items
    (sym (c.is_some.ensures ∙ ap is_some c.index_of.ensures) ∙ c.if-is_some.false)
    (omega (arith, c.if-len-self.true, c.len.ensures, c.args.self.now.databases.ok.0))

pub returns : goal.returns
returns g c =
    grants_none (named_base g.K.Keeper.kept) c.args.name.now
    (cluster_of g.K.Keeper.kept c.args.self.now) c.args.self.now.databases.items
    (sym (c.is_some.ensures ∙ ap is_some c.index_of.ensures) ∙ c.if-is_some.false)
    (omega (arith, c.if-len-self.false, c.len.ensures, c.args.self.now.databases.ok.0))
