use Rattle.std.proofs.Common.{ℕ, ◌∙◌, ap, option_map}
use Rattle.slon_base.specs.Codec.{number_bytes}
use Rattle.slon_base.specs.Keeper.{put_at}
use Rattle.store_rows.proofs.Spaces.{sees, pending_same}
use Rattle.set_config.specs.Holds.{pair_key}
use Rattle.event_store.proofs.Clearing.{sees_pending}
use Rattle.event_store.proofs.Rising.{stays, rises, not_raised, raised}
use Rattle.event_store.proofs.hearing.confirm.Goals as goal

pub returns-then-number-standing-clause-turns : goal.returns-then-number-standing-clause-turns
returns-then-number-standing-clause-turns g c base s own p =
    stays (c.args.origin, c.args.node) c.args.number c.in_ok-standing.standing
    (c.in_ok-standing.ensures.says p.store s (sees p) p.has.streams) c.if-number-standing.true
    (pending_same p c.in_ok-standing.ensures.same)

pub returns-then-number-standing-clause-raises : goal.returns-then-number-standing-clause-raises
returns-then-number-standing-clause-raises g c m is =
    not_raised (c.args.origin, c.args.node) c.args.number c.in_ok-standing.standing m
    (c.in_ok-standing.ensures.found m (sees_pending (g.K.Keeper.kept c.args.keeper.now) m is))
    c.if-number-standing.true (c.in_ok-standing.ensures.same ∙ is)

pub returns-clause-turns : goal.returns-clause-turns
returns-clause-turns g c base s own p =
    let mid = g.K.Keeper.kept c.confirmed.new.keeper in
    rises (c.args.origin, c.args.node) c.args.number c.in_ok-standing.standing mid
    (c.in_ok-standing.ensures.says p.store s (sees p) p.has.streams, c.if-number-standing.false)
    ((c.requires.can, c.requires.number), λ same. c.requires.other.0 (same ∙ own))
    (pending_same p c.in_ok-standing.ensures.same) c.in_ok-put_row.ensures.put

pub returns-clause-raises : goal.returns-clause-raises
returns-clause-raises g c m is =
    let i : ℕ × ℕ = (c.args.origin, c.args.node) in
    let put = put_at 11 (pair_key i) (number_bytes c.args.number) in
    raised i c.args.number c.in_ok-standing.standing m c.requires.number
    (c.in_ok-standing.ensures.found m (sees_pending (g.K.Keeper.kept c.args.keeper.now) m is))
    c.if-number-standing.false
    (c.in_ok-put_row.ensures.put ∙ ap (option_map (option_map put)) (c.in_ok-standing.ensures.same ∙ is))
