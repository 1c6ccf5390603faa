use Rattle.std.proofs.Common.{◌≡◌, ◌∙◌, get_or, refl, sym, ap, subst}
use Rattle.std.proofs.lemmas.List.{get_or_default}
use Rattle.std.specs.FinMap.{get, insert, remove}
use Rattle.node_state.proofs.Formed.{if_ok}
use Rattle.slonik_exec.specs.Databases.{bases_of, Runs}
use Rattle.slonik_exec.specs.Reached.{IsQuietly}
use Rattle.slonik_exec.specs.Turning.{IsSeatHere, HasTurn}
use Rattle.slonik_exec.proofs.Seating.{runs_quiet}
use Rattle.slon_model.specs.Turns.{Switches}
use Rattle.slon_turns.specs.Applying.{goal_in}
use Rattle.slon_turns.specs.Holding.{IsTaken}
use Rattle.slon_turns.specs.Working.{CarriesOut, Learns, LearnsAt, Turn, Works}
use Rattle.slon_turns.proofs.Handed.{at_ok}
use Rattle.slon_turns.proofs.Learning.{learns_carried, learns_nothing}
use Rattle.slon_turns.proofs.Taking.{work_refused, works_carried}
use Rattle.slon_turns.proofs.working.take_work.Goals as goal

pub returns-in-Refused : goal.returns-in-Refused
returns-in-Refused g c =
    let items = c.args.databases.now in
    let kept = g.K.Keeper.kept in
    let quiet = subst IsQuietly c.in-Refused.is c.in_ok-index.ensures.quiet in
    let on : Switches = record { started = c.args.on.started.now; cuts = c.args.on.cuts.now } in
    record {
      runs = runs_quiet c.in-Refused.refusal (bases_of kept items) quiet;
      works = work_refused kept c.args.work on items c.args.held.now c.in-Refused.refusal (
        quiet,
        subst (HasTurn kept c.args.work.node on.started items) c.in-Refused.is c.in_ok-index.ensures.turns,
      );
      learns = learns_nothing (goal_in c.args.work) c.args.work.node on
          (record { bases = bases_of kept items; held = c.args.held.now });
    }

pub returns : goal.returns
returns g c =
    let items = c.args.databases.now in
    let kept = g.K.Keeper.kept in
    let held_old = c.args.held.now in
    let i = c.in-At.index in
    let x = get_or items i c.index-databases-index.result in
    let key = c.in_ok-key.key.items in
    let here = subst (IsSeatHere {g = g.K.Keeper} items) c.in-At.is c.in_ok-index.ensures.here in
    let on : Switches = record { started = c.args.on.started.now; cuts = c.args.on.cuts.now } in
    let t : Turn =
    record { node = c.args.work.node; goal = goal_in c.args.work; index = i; cuts = on.cuts } in
    let turns = subst (HasTurn kept c.args.work.node on.started items) c.in-At.is c.in_ok-index.ensures.turns in
    let held = get_or_default items i c.index-databases-index.result x here.0 in
    let sliced = c.as_slice.ensures.value in
    let own = c.work_at-worked.new.held in
    let news = c.work_at-worked.new.databases in
    let taken = subst (λ n. IsTaken (get held_old n) c.take-own.result) sliced c.take-own.ensures.is in
    let same : c.put_back.new.held ≡ insert c.take-own.new.held key own → insert (remove held_old key) key own
    ≡ c.put_back.new.held = λ put.
    ap (λ n. insert (remove held_old n) key own) (sym sliced)
    ∙ ap (λ m. insert m key own) (sym c.take-own.ensures.map) ∙ sym put in
    record {
      runs = if_ok _ (λ reply. Runs (bases_of kept items) reply (bases_of kept news)) c.put_back.result (λ reply put.
          at_ok _ c.work_at-worked.result reply put.0 c.work_at-worked.ensures.runs) c.put_back.ensures;
      works = if_ok _ (λ reply. Works (goal_in c.args.work) c.args.work.node on
          (record { bases = bases_of kept items; held = held_old }) reply
          (record { bases = bases_of kept news; held = c.put_back.new.held })) c.put_back.result (λ reply put.
          subst (λ q. Works (goal_in c.args.work) c.args.work.node on
          (record { bases = bases_of kept items; held = held_old }) reply
          (record { bases = bases_of kept news; held = q })) (same put.1)
          (works_carried {kept = kept} held_old key (record {
            old = (items, c.take-own.result);
            reply = reply;
            new = (news, own);
            carries = at_ok (λ reply. CarriesOut kept t (items, c.take-own.result) reply (news, own))
                c.work_at-worked.result reply put.0 c.work_at-worked.ensures.carries;
          }) x (turns, refl) held (c.in_ok-key.ensures, taken))) c.put_back.ensures;
      learns = if_ok _ (λ reply. Learns (goal_in c.args.work) c.args.work.node on
          (record { bases = bases_of kept items; held = held_old }) c.put_back.new.held) c.put_back.result (λ reply put.
          subst (Learns (goal_in c.args.work) c.args.work.node on
          (record { bases = bases_of kept items; held = held_old })) (same put.1)
          (learns_carried {kept = kept} {t = t} held_old key (record {
            old = (items, c.take-own.result);
            left = own;
            learns = at_ok (λ reply. LearnsAt kept t (items, c.take-own.result) own) c.work_at-worked.result reply put.0
                c.work_at-worked.ensures.learns;
          }) x (turns, refl) held (c.in_ok-key.ensures, taken))) c.put_back.ensures;
    }
