use Rattle.std.proofs.Common.{◌≡◌, ◌∙◌, ap, sym, Some, None, []}
use Rattle.std.specs.Option.{option_copied_mut}
use Rattle.event_store.specs.Lines.{line_at}
use Rattle.event_store.specs.Queueing.{waiting}
use Rattle.event_store.proofs.Queues.{rising_at, stands, dropped, Lent, lent, lines_dropped, dropped_here, kept_there}
use Rattle.event_store.proofs.queue.Queue.drop_to.Goals as goal

pub drop_first-requires : goal.drop_first-requires
drop_first-requires c =
    rising_at c.args.origin c.args.self.now.lines (Some c.in-Some.line.now) c.args.self.now.lined
    c.in-Some.ensures.value

pub invariant_of-self : goal.invariant_of-self
invariant_of-self c =
    let into = c.drop_first.new.line in
    record {
      lined = lines_dropped c.args.number (lent c.in-Some.line.now into c.args.self.now.lines
          (c.get_mut.follows.lender into) c.in-Some.ensures.value (c.get_mut.follows.holds into))
          c.args.self.now.lined c.drop_first.ensures;
    }

abbrev lent_here : (c : goal.After-self-in-Some-2-1) → Lent c.args.origin
lent_here c =
    let into = c.drop_first.new.line in
    lent c.in-Some.line.now into c.args.self.now.lines (c.get_mut.follows.lender into)
    c.in-Some.ensures.value (c.get_mut.follows.holds into)

pub returns-in-Some-clause-dropped : goal.returns-in-Some-clause-dropped
unfolding waiting
returns-in-Some-clause-dropped c = dropped_here c.args.number (lent_here c) c.drop_first.ensures

pub returns-in-Some-clause-others : goal.returns-in-Some-clause-others
unfolding waiting
returns-in-Some-clause-others c = kept_there (lent_here c)

pub returns-in_default-clause-dropped : goal.returns-in_default-clause-dropped
unfolding waiting
returns-in_default-clause-dropped c =
    let old = c.args.self.now.lines in
    let found = ap option_copied_mut (sym c.in_default.is) ∙ c.get_mut.ensures.value in
    let none : [] ≡ line_at c.args.origin old = stands c.args.origin old None found in
    ap (line_at c.args.origin) c.get_mut.follows.holds-at-none ∙ sym none ∙ ap (dropped c.args.number) none
