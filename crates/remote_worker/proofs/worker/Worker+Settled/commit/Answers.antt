use Rattle.std.proofs.Common.{◌≡◌, ◌∙◌, Option, Some, Ok, arith, refl, sym, subst}
use Rattle.std.proofs.lemmas.Result.{err_from_is_err_and}
use Rattle.store_rows.proofs.Putting.{none_more, puts_within}
use Rattle.event_store.specs.declared.event.Event.{Event}
use Rattle.event_store.specs.Keeping.{KeepsViews}
use Rattle.event_store.specs.Seen.{seen_event}
use Rattle.app_store.specs.Base.{base_of}
use Rattle.app_store.specs.Serves.{answered}
use Rattle.node_store.specs.Acting.{joined}
use Rattle.node_store.specs.Bringing.{AppliesWith, IsSyncWith, puts_allowed}
use Rattle.remote_worker.proofs.Abilities.{applied_found, handed_on}
use Rattle.remote_worker.proofs.worker.Worker+Settled.commit.Goals as goal

pub apply-requires-clause-keeps : goal.apply-requires-clause-keeps
apply-requires-clause-keeps g c =
    let due = c.requires.due in
    let some : Some due.0 ≡ Some c.in-Some.event.now = sym due.1 ∙ sym c.in-Some.ensures in
    let same : due.0 ≡ c.in-Some.event.now = cc in
    subst (λ (e : Event). KeepsViews e.body) same due.2

pub returns-in_err-apply-clause-applies : goal.returns-in_err-apply-clause-applies
returns-in_err-apply-clause-applies g c =
    let old = base_of g.K.Keeper.kept c.args.own.now in
    let new = base_of g.K.Keeper.kept c.apply.new.database in
    let event = seen_event c.in-Some.event.now in
    applied_found c.args.self.state.brought (sym c.in-Some.ensures)
    (handed_on (λ r. AppliesWith event c.args.self.state.brought old (answered joined r) new) c.from_residual.result
    (err_from_is_err_and c.from_residual.result c.from_residual.ensures.1) c.in_err-apply.ensures.applies)

pub returns-then-branch-clause-applies : goal.returns-then-branch-clause-applies
returns-then-branch-clause-applies g c =
    let old = base_of g.K.Keeper.kept c.args.own.now in
    let new = base_of g.K.Keeper.kept c.apply.new.database in
    let event = seen_event c.in-Some.event.now in
    applied_found c.args.self.state.brought (sym c.in-Some.ensures)
    (subst (λ d. AppliesWith event c.args.self.state.brought old (Ok (joined d)) new) c.if-branch.true
    c.in_ok-apply.ensures.applies)

pub returns-clause-applies : goal.returns-clause-applies
returns-clause-applies g c =
    let old = base_of g.K.Keeper.kept c.args.own.now in
    let new = base_of g.K.Keeper.kept c.apply.new.database in
    let event = seen_event c.in-Some.event.now in
    applied_found c.args.self.state.brought (sym c.in-Some.ensures)
    (subst (λ d. AppliesWith event c.args.self.state.brought old (Ok (joined d)) new) c.if-branch.false
    c.in_ok-apply.ensures.applies)

-- the event that waits is the one that is applied
one_waits : {e found : Event} {o : Option Event} → o ≡ Some e → Some found ≡ o → found ≡ e
one_waits {e} {found} is same = let both : Some found ≡ Some e = same ∙ is in cc

pub returns-in_err-apply-clause-puts : goal.returns-in_err-apply-clause-puts
returns-in_err-apply-clause-puts g c e deltas is comes =
    c.in_err-apply.ensures.puts deltas (subst (λ x. IsSyncWith deltas (seen_event x) c.args.self.state.brought)
    (sym (one_waits is c.in-Some.ensures)) comes)

pub returns-then-branch-clause-puts : goal.returns-then-branch-clause-puts
returns-then-branch-clause-puts g c e deltas is comes =
    c.in_ok-apply.ensures.puts deltas (subst (λ x. IsSyncWith deltas (seen_event x) c.args.self.state.brought)
    (sym (one_waits is c.in-Some.ensures)) comes)

pub returns-clause-puts : goal.returns-clause-puts
returns-clause-puts g c e deltas is comes =
    c.in_ok-apply.ensures.puts deltas (subst (λ x. IsSyncWith deltas (seen_event x) c.args.self.state.brought)
    (sym (one_waits is c.in-Some.ensures)) comes)

pub returns-in_default-clause-puts : goal.returns-in_default-clause-puts
returns-in_default-clause-puts g c e deltas is comes =
    puts_within 0 (puts_allowed deltas) (none_more refl) (omega arith)
