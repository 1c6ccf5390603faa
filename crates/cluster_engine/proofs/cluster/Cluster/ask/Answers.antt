use Rattle.std.proofs.Common.{◌≡◌, ◌∙◌, ◌&&◌, not, cond, sym, ap, subst, refl, Ok, Err, IfOk, [], unwrap_or}
use Rattle.std.specs.FinMap.{remove}
use Rattle.slon_model.specs.declared.reply.Reply.{Reply}
use Rattle.slon_model.specs.Tasks.{subject_of, words_of}
use Rattle.slon_model.specs.World.{refusal_of, reply_of}
use Rattle.slonik_exec.specs.Databases.{named_base}
use Rattle.cluster_engine.specs.Clustered.{cluster_of}
use Rattle.slonik_exec.proofs.Lists.{find_missing}
use Rattle.cluster_engine.proofs.Moving.{moves_none, moves_with, same_answer, answer_memory, same_words, if_told}
use Rattle.cluster_engine.proofs.Moving.{if_memory}
use Rattle.cluster_engine.proofs.cluster.Cluster.ask.Goals as goal

pub returns-in_default-index_of : goal.returns-in_default-index_of
returns-in_default-index_of g c =
    moves_none c.args.command.now (cluster_of g.K.Keeper.kept c.args.self.now) _ _
    (record { is = c.in-Some.ensures; one = c.requires.one }) c.in_ok-database.ensures
    (find_missing (named_base {g = g.K.Keeper} g.K.Keeper.kept) c.in-Some.database.now
    c.args.self.now.databases.items (sym c.index_of.ensures ∙ c.in_default-index_of.is))

pub returns-in-Ok : goal.returns-in-Ok
returns-in-Ok g c =
    let words = words_of (subject_of c.args.command.now) in
    if_told _ c.answered.result (reply_of words (Ok c.in-Ok.done))
    (subst (λ (r : Reply). IfOk c.answered.result (λ told. told ≡ r))
    (same_answer words c.in-Some.database.now c.in-Ok.done (ap (λ o. unwrap_or o []) c.in-Some.ensures))
    c.answered.ensures)
    (moves_with (named_base g.K.Keeper.kept) c.args.command.now (cluster_of g.K.Keeper.kept c.args.self.now) _
    (record { word = c.in-Some.database.now; i = _; x = _; y = _; result = Ok c.in-Ok.done }) (record {
      names = record { is = c.in-Some.ensures; one = c.requires.one };
      at = record { at = sym c.index_of.ensures ∙ c.in-Some-index_of.is; held = c.index_mut-named.ensures.value };
      same = refl;
      serves = c.in-Ok.ensures.serves;
      hands = c.in-Ok.ensures.hands;
      memory = answer_memory c.in-Ok.done;
    })
    (c.forget.ensures ∙ ap (λ b. cond b (remove c.args.self.now.held c.in-Some.database.now) c.args.self.now.held)
    (c.came_up-risen.ensures ∙ ap (λ b. b && not c.is_up-was_up.result) c.is_up.ensures
    ∙ ap (λ b. c.obey-served.new.self.state.up && not b) c.is_up-was_up.ensures)))

pub returns-in-Err : goal.returns-in-Err
returns-in-Err g c =
    if_memory _ c.refused.result c.in-Err.fault (reply_of (words_of (subject_of c.args.command.now))
    (Err c.in-Err.fault))
    (subst (λ words. IfOk c.refused.result (λ told. told ≡ refusal_of words c.in-Err.fault))
    (same_words (subject_of c.args.command.now) _ _ _ c.in-Some.ensures c.transaction.ensures c.table.ensures)
    c.refused.ensures.reply) c.refused.ensures.memory
    (λ memory. moves_with (named_base g.K.Keeper.kept) c.args.command.now
    (cluster_of g.K.Keeper.kept c.args.self.now) _
    (record { word = c.in-Some.database.now; i = _; x = _; y = _; result = Err c.in-Err.fault }) (record {
      names = record { is = c.in-Some.ensures; one = c.requires.one };
      at = record { at = sym c.index_of.ensures ∙ c.in-Some-index_of.is; held = c.index_mut-named.ensures.value };
      same = refl;
      serves = c.in-Err.ensures.serves;
      hands = c.in-Err.ensures.hands;
      memory = memory;
    })
    (c.forget.ensures ∙ ap (λ b. cond b (remove c.args.self.now.held c.in-Some.database.now) c.args.self.now.held)
    (c.came_up-risen.ensures ∙ ap (λ b. b && not c.is_up-was_up.result) c.is_up.ensures
    ∙ ap (λ b. c.obey-served.new.self.state.up && not b) c.is_up-was_up.ensures)))
