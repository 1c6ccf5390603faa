use Rattle.std.proofs.Common.{◌≡◌, ◌∙◌, ℕ, ap, sym, subst, None, [], if◌then◌else◌, ◌==◌}
use Rattle.event_store.specs.Lines.{AreLines, line_at, is_above, with_event}
use Rattle.event_store.specs.Queueing.{waiting}
use Rattle.event_store.proofs.Queues.{stands, written, turned, same_lines, Lent, lent, lines_put, answer_put, put_ok}
use Rattle.event_store.proofs.Queues.{put_err, lines_in, whatever_failed}
use Rattle.event_store.proofs.queue.Queue.put.Goals as goal

-- ---- a line stood there

pub invariant_of-self : goal.invariant_of-self
invariant_of-self c =
    let into = c.append.new.line in
    record {
      lined = lines_put c.append.result c.args.event (lent c.in-Some.line.now into c.args.self.now.lines
          (c.get_mut.follows.lender into) c.in-Some.ensures.value (c.get_mut.follows.holds into))
          c.args.self.now.lined c.append.ensures.items;
    }

abbrev lent_here : (c : goal.After-self-in-Some-2-1) → Lent c.args.event.origin
lent_here c =
    let into = c.append.new.line in
    lent c.in-Some.line.now into c.args.self.now.lines (c.get_mut.follows.lender into)
    c.in-Some.ensures.value (c.get_mut.follows.holds into)

pub returns-in-Some-clause-put : goal.returns-in-Some-clause-put
unfolding waiting
returns-in-Some-clause-put c = answer_put c.append.result c.args.event (lent_here c) c.append.ensures.put

pub returns-in-Some-clause-ok : goal.returns-in-Some-clause-ok
unfolding waiting
returns-in-Some-clause-ok c = put_ok c.append.result c.args.event (lent_here c) c.append.ensures.items

pub returns-in-Some-clause-err : goal.returns-in-Some-clause-err
unfolding waiting
returns-in-Some-clause-err c = put_err c.append.result c.args.event (lent_here c) c.append.ensures.items

-- ---- none did

pub invariant_of-self-in-None : goal.invariant_of-self-in-None
invariant_of-self-in-None c =
    let old = c.get_mut.follows.lender-at-none in
    let event = c.args.event in
    let none : [] ≡ line_at event.origin old = stands event.origin c.args.self.now.lines None c.in-None.ensures.value
    ∙ ap (line_at event.origin) (sym c.get_mut.follows.holds-at-none) in
    record {
      lined = lines_in c.insert.result event (written c.append-in-None.new.line old c.insert.new.self)
          (subst AreLines (sym c.get_mut.follows.holds-at-none) c.args.self.now.lined)
          (c.in_ok-put-in-None.ensures.items ∙ ap (with_event event) (c.new-line.ensures.items ∙ none))
          c.insert.ensures.updates c.insert.ensures.err;
    }

pub returns-in_err-insert-in-None-clause-err : goal.returns-in_err-insert-in-None-clause-err
unfolding waiting
returns-in_err-insert-in-None-clause-err c =
    let same : (o : ℕ) → line_at o c.insert.new.self ≡ line_at o c.args.self.now.lines =
    λ o. same_lines c.get_mut.follows.lender-at-none c.insert.new.self c.in_err-insert-in-None.ensures.err o
    ∙ ap (line_at o) c.get_mut.follows.holds-at-none in
    whatever_failed _ same

pub returns-in_ok-insert-in-None-clause-put : goal.returns-in_ok-insert-in-None-clause-put
unfolding waiting
returns-in_ok-insert-in-None-clause-put c = c.in_ok-put-in-None.ensures.put
    ∙ ap (is_above c.args.event.number) (c.new-line.ensures.items
    ∙ stands c.args.event.origin c.args.self.now.lines None c.in-None.ensures.value)

pub returns-in_ok-insert-in-None-clause-ok : goal.returns-in_ok-insert-in-None-clause-ok
unfolding waiting
returns-in_ok-insert-in-None-clause-ok c = λ o.
    let old = c.get_mut.follows.lender-at-none in
    let event = c.args.event in
    let none : [] ≡ line_at event.origin old = stands event.origin c.args.self.now.lines None c.in-None.ensures.value
    ∙ ap (line_at event.origin) (sym c.get_mut.follows.holds-at-none) in
    subst (λ m. line_at o c.insert.new.self
    ≡ (if event.origin == o then with_event event (line_at o m) else line_at o m)) c.get_mut.follows.holds-at-none
    (turned (written c.append-in-None.new.line old c.insert.new.self) (with_event event)
    c.in_ok-insert-in-None.ensures.updates
    (c.in_ok-put-in-None.ensures.items ∙ ap (with_event event) (c.new-line.ensures.items ∙ none)) o)
