use Rattle.std.proofs.Common.{◌≡◌, ◌∙◌, ◌==◌, cond, None, Some, sym, ap}
use Rattle.std.specs.Prelude.{◌&&◌, is_some}
use Rattle.std.specs.BTreeMap.{get}
use Rattle.std.specs.Option.{option_copied}
use Rattle.std.specs.Ordering.{nat_cmp}
use Rattle.std.proofs.lemmas.Bool.{eq-eqb, ne_eqb}
use Rattle.remote_worker.specs.Kept.{for_number, kept_at}
use Rattle.remote_worker.proofs.Keys.{key_is}
use Rattle.remote_worker.proofs.fetches.Fetches.take_for.Goals as goal

pub returns-in-None-clause-value : goal.returns-in-None-clause-value
unfolding kept_at
returns-in-None-clause-value c =
    ap (for_number c.args.number) (ap option_copied (sym c.in-None.is) ∙ c.get.ensures.value)

pub returns-then-kept-number-clause-value : goal.returns-then-kept-number-clause-value
unfolding kept_at
returns-then-kept-number-clause-value c =
    let k = c.in-Some.kept.now in
    let some : Some k ≡ get nat_cmp c.args.self.now.kept c.args.origin =
    ap option_copied (sym c.in-Some.is) ∙ c.get.ensures.value in
    sym (ap (λ b. cond b (Some k) None) (ne_eqb k.number c.args.number c.if-kept-number.true))
    ∙ ap (for_number c.args.number) some

pub returns-clause-value : goal.returns-clause-value
unfolding kept_at
returns-clause-value c =
    let k = c.in-Some.kept.now in
    let some : Some k ≡ get nat_cmp c.args.self.now.kept c.args.origin =
    ap option_copied (sym c.in-Some.is) ∙ c.get.ensures.value in
    c.remove.ensures.value ∙ sym some
    ∙ sym (ap (λ b. cond b (Some k) None) (eq-eqb k.number c.args.number c.if-kept-number.false))
    ∙ ap (for_number c.args.number) some

pub returns-clause-rest : goal.returns-clause-rest
unfolding kept_at
returns-clause-rest c = λ other.
    let k = c.in-Some.kept.now in
    let some : Some k ≡ get nat_cmp c.args.self.now.kept c.args.origin =
    ap option_copied (sym c.in-Some.is) ∙ c.get.ensures.value in
    let rest = get nat_cmp c.args.self.now.kept other in
    c.remove.ensures.updates.0 other
    ∙ ap (λ b. cond b None rest) (key_is c.args.origin other)
    ∙ ap (λ b. cond (b && (c.args.origin == other)) None rest) (sym (ap is_some (c.remove.ensures.value ∙ sym some)))
