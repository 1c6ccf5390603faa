use Rattle.std.proofs.Common.{◌≡◌, ◌∙◌, get_or, subst, arith}
use Rattle.std.proofs.lemmas.Result.{IfOk-weaker}
use Rattle.slonik_exec.proofs.Halves.{Halves, halves_set, held_front, held_back, set_turned, other_less}
use Rattle.slonik_exec.proofs.membership.join_both.Goals as goal

pub returns-then-spots : goal.returns-then-spots
returns-then-spots g c =
    let olds = c.args.databases.now in
    let cut = c.split_at_mut-front in
    let front = cut.result.0.now in
    let back = cut.result.1.now in
    let at = c.args.spots in
    let from = c.index-front-spots.result in
    let to = c.index-back-0.result in
    let h : Halves olds front back at.from at.to = record {
      front_is = cut.ensures.front;
      back_is = cut.ensures.back;
      less = c.if-spots.true;
      inside = c.requires.joinable.other;
    } in
    record {
      joined = IfOk-weaker c.join_at.result _ _ (λ reply told. record {
        from_old = get_or front at.from from;
        from_new = c.join_at.new.from;
        to_old = get_or back 0 to;
        to_new = c.join_at.new.to;
        from_held = subst (λ z. z ≡ get_or olds at.from z) c.index-front-spots.is
            (held_front olds front back at.from at.to from h c.index-front-spots.is);
        to_held = subst (λ z. z ≡ get_or olds at.to z) c.index-back-0.is
            (held_back olds front back at.from at.to to h c.index-back-0.is);
        from_name = c.join_at.ensures.names.0;
        to_name = c.join_at.ensures.names.1;
        is = halves_set olds front back at.from at.to c.join_at.new.from c.join_at.new.to h;
        told = told;
      }) c.join_at.ensures.joins;
    }

pub returns-else-spots : goal.returns-else-spots
returns-else-spots g c =
    let olds = c.args.databases.now in
    let cut = c.split_at_mut-front-else-spots in
    let front = cut.result.0.now in
    let back = cut.result.1.now in
    let at = c.args.spots in
    let from = c.index-back-0-else-spots.result in
    let to = c.index-front-spots-else-spots.result in
    let join = c.join_at-else-spots in
    let h : Halves olds front back at.to at.from = record {
      front_is = cut.ensures.front;
      back_is = cut.ensures.back;
      less = other_less at.from at.to (omega (arith, c.if-spots.false)) c.requires.joinable.apart;
      inside = c.requires.joinable.inside;
    } in
    record {
      joined = IfOk-weaker join.result _ _ (λ reply told. record {
        from_old = get_or back 0 from;
        from_new = join.new.from;
        to_old = get_or front at.to to;
        to_new = join.new.to;
        from_held = subst (λ z. z ≡ get_or olds at.from z) c.index-back-0-else-spots.is
            (held_back olds front back at.to at.from from h c.index-back-0-else-spots.is);
        to_held = subst (λ z. z ≡ get_or olds at.to z) c.index-front-spots-else-spots.is
            (held_front olds front back at.to at.from to h c.index-front-spots-else-spots.is);
        from_name = join.ensures.names.0;
        to_name = join.ensures.names.1;
        is = halves_set olds front back at.to at.from join.new.to join.new.from h
            ∙ set_turned olds at.to at.from join.new.to join.new.from h.less;
        told = told;
      }) join.ensures.joins;
    }
