use Rattle.std.proofs.Common.{refl, arith, ◌∙◌, ◌-◌, ◌+◌}
use Rattle.slon_base.proofs.Compared.{meet, alike_behind, alike_sooner, all_alike, differing}
use Rattle.slon_base.proofs.compare.order_of_bytes.Goals as goal

pub loop-at-init : goal.loop-at-init
loop-at-init c = (refl, omega arith)

pub returns-then-here-there : goal.returns-then-here-there
returns-then-here-there c =
    let both = meet c.loop-at.at c.number_from-here.result c.number_from-there.result c.loop-at.invariant.0
    c.number_from-here.ensures c.number_from-there.ensures in
    c.cmp-then-here-there.ensures ∙ differing c.args.left.now c.args.right.now both c.if-here-there.true

pub loop-at-preserved : goal.loop-at-preserved
loop-at-preserved c =
    let both = meet c.loop-at.at c.number_from-here.result c.number_from-there.result c.loop-at.invariant.0
    c.number_from-here.ensures c.number_from-there.ensures in
    (alike_behind c.args.left.now c.args.right.now both c.if-here-there.false, omega (arith, c.loop-at-test.true))

pub returns-then-here-there-2 : goal.returns-then-here-there-2
returns-then-here-there-2 c =
    let last = c.min-common.result - 8 in
    let both = meet last c.number_from-here-2.result c.number_from-there-2.result
    (alike_sooner last c.loop-at.at c.args.left.now c.args.right.now c.loop-at-test.false c.loop-at.invariant.0)
    c.number_from-here-2.ensures c.number_from-there-2.ensures in
    c.cmp-then-here-there-2.ensures ∙ differing c.args.left.now c.args.right.now both c.if-here-there-2.true

pub returns : goal.returns
returns c =
    let last = c.min-common.result - 8 in
    let both = meet last c.number_from-here-2.result c.number_from-there-2.result
    (alike_sooner last c.loop-at.at c.args.left.now c.args.right.now c.loop-at-test.false c.loop-at.invariant.0)
    c.number_from-here-2.ensures c.number_from-there-2.ensures in
    c.cmp-2.ensures
    ∙ all_alike (last + 8) c.args.left.now c.args.right.now
    (omega (arith, c.min-common.ensures, c.if-common-lt-AT_ONCE.false))
    (alike_behind c.args.left.now c.args.right.now both c.if-here-there-2.false)
