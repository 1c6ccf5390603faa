use Rattle.std.proofs.Common.{◌∙◌, cond, [], ◌∷◌, ◌++◌, sym, ap}
use Rattle.std.specs.Prelude.{filter, nat_le}
use Rattle.slon_turns.specs.Bounds.{is_kept, next_of, start_of}
use Rattle.slon_turns.proofs.bounds.add_bound.Goals as goal

pub returns : goal.returns
returns c =
    let known = c.args.known in
    let old = c.args.bounds.now.items in
    let start = start_of known.origin c.args.xmin old in
    let start_is = c.start_of-start.ensures ∙ ap (start_of known.origin c.args.xmin) c.as_slice-2.ensures.value in
    let next_is = c.next_of-next.ensures ∙ ap (λ s. next_of known.origin s c.as_slice-3.result.now) start_is
    ∙ ap (next_of known.origin start) c.as_slice-3.ensures.value in
    c.in_ok-push.ensures.items
    ∙ ap (λ bs. bs ++ known ∷ [])
    (c.keep_two.ensures ∙ ap (λ s. filter (λ b. is_kept known.origin s c.next_of-next.result b) old) start_is
    ∙ ap (λ n. filter (λ b. is_kept known.origin start n b) old) next_is)
    ∙ sym (ap (λ b. cond b old (filter (λ x. is_kept known.origin start (next_of known.origin start old) x) old
    ++ known ∷ [])) (ap (λ bs. nat_le known.number (start_of known.origin known.xid bs)) (sym c.as_slice.ensures.value)
    ∙ sym c.tells_nothing.ensures ∙ c.if-tells_nothing.false))
