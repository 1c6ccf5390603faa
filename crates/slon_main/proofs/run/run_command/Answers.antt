use Rattle.std.proofs.Common.{◌≡◌, ◌∷◌, ◌++◌, [], Some, arith, refl, subst}
use Rattle.slon_base.specs.Outside.{WritesPart, with_piece}
use Rattle.slon_model.specs.Printed.{reply_line}
use Rattle.std.proofs.lemmas.Result.{err_from_is_err_and}
use Rattle.slon_model.specs.declared.reply.Reply.{Reply}
use Rattle.slon_model.specs.World.{World}
use Rattle.cluster_engine.specs.Agreed.{Follows}
use Rattle.cluster_engine.specs.Clustered.{cluster_of}
use Rattle.slon_main.specs.Running.{Pieces, Replies, Tells}
use Rattle.slon_main.proofs.Asks.{asks_so}
use Rattle.slon_main.proofs.Causes.{stops_as, stops_since}
use Rattle.slon_main.proofs.Runs.{on_ok}
use Rattle.slon_main.proofs.run.run_command.Given.{Over}
use Rattle.slon_main.proofs.run.run_command.Goals as goal

pub returns-in_err-reply-clause-cause : goal.returns-in_err-reply-clause-cause
returns-in_err-reply-clause-cause g c files =
    stops_as Reply (Unit {0}) _ _ c.in_err-reply.field-0.0 c.from_residual.result
    (err_from_is_err_and c.from_residual.result c.from_residual.ensures.1) (c.in_err-reply.ensures.cause files _)

pub returns-clause-cause : goal.returns-clause-cause
returns-clause-cause g c files =
    stops_since c.answer.result _ (record {
      files = files;
      shelf = (g.S.Shelf.shelved c.obey.new.shelf).faults;
      out = (g.O.Sink.poured c.args.out.now).faults;
    }) _ (record { files = omega arith; shelf = c.obey.ensures.shelf.later; out = omega arith })
    (c.answer.ensures.cause files _)

-- the command and its reply, written so
replied : (g : Over) (c : goal.Joined-reply g) → Tells (g.S.Shelf.shelved c.args.shelf.now) → (w : World) →
    Follows w (cluster_of g.S.Store.Keeper.kept c.args.cluster.now) → (before written : Pieces) →
    written ≡ with_piece (reply_line c.in_ok-reply.reply) before →
    Replies (g.S.Shelf.shelved c.args.shelf.now) c.args.command w before written
    (cluster_of g.S.Store.Keeper.kept c.args.cluster.now) (cluster_of g.S.Store.Keeper.kept c.obey.new.cluster)
replied g c tells w follows before written is = record {
  reply = c.in_ok-reply.reply;
  goes = c.in_ok-reply.ensures.obeys tells w follows;
  fits = c.answer.ensures.fits;
  written_is = is;
  certain = c.in_ok-reply.ensures.certain;
  quiet = c.in_ok-reply.ensures.quiet;
  pays = c.in_ok-reply.ensures.pays tells;
  tells = c.in_ok-reply.ensures.tells;
}

pub returns-clause-runs : goal.returns-clause-runs
returns-clause-runs g c tells =
    on_ok c.answer.result (λ told w follows. replied g c tells w follows _ _ told) c.answer.ensures.written

pub returns-clause-cut : goal.returns-clause-cut
returns-clause-cut g c tells is lines before w follows =
    let line = reply_line c.in_ok-reply.reply in
    let part = subst (λ o. WritesPart line o (g.O.Sink.poured c.answer.new.out).pieces) before (c.answer.ensures.cut is)
    in
    (line, part.0, replied g c tells w follows (Some lines) (Some (lines ++ line ∷ [])) refl, part.2)

pub returns-clause-asked : goal.returns-clause-asked
returns-clause-asked g c = asks_so _ _ (cluster_of g.S.Store.Keeper.kept c.args.cluster.now)
    (cluster_of g.S.Store.Keeper.kept c.obey.new.cluster) c.answer.result c.in_ok-reply.ensures.asked
