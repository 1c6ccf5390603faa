use Rattle.std.proofs.Common.{ℕ, length, arith, ap, subst}
use borrow.Author.Tests.{true-eqb, false-eqb}
use Rattle.std.proofs.lemmas.List.{length-take}
use Rattle.std.proofs.lemmas.Result.{err_from_is_err_and}
use Rattle.session_text.specs.Handing.{Measures}
use Rattle.session_text.proofs.Moving.{call, broke, fills, moved_filled, past, stays_on, moved_on, taking, ended, over}
use Rattle.session_text.proofs.Moving.{hands_ended, hands_end, hands_last}
use Rattle.session_text.proofs.line_reader.LineReader.next_line.Goals as goal

pub returns-in_err-take_into-clause-past : goal.returns-in_err-take_into-clause-past
returns-in_err-take_into-clause-past g c bytes comes e =
    let k = call bytes c.args.self.now in
    let p = err_from_is_err_and c.from_residual-in_err-take_into.result c.from_residual-in_err-take_into.ensures.1 in
    let f =
    moved_filled k _ _ _ (c.loop-self.invariant.moved bytes comes) (fills _ c.fill.new.self _
    (g.F.Files.filed c.fill.new.files) _ c.in_ok-fill.ensures.bytes c.in_ok-fill.ensures.taken) in
    past _ k _ _ _ f (c.in_err-take_into.ensures.past (cc (p.1, p.2, e)))

pub returns-then-branch-2-clause-hands : goal.returns-then-branch-2-clause-hands
returns-then-branch-2-clause-hands g c bytes comes =
    let k = call bytes c.args.self.now in
    let f =
    moved_filled k _ _ _ (c.loop-self.invariant.moved bytes comes) (fills _ c.fill.new.self _
    (g.F.Files.filed c.fill.new.files) _ c.in_ok-fill.ensures.bytes c.in_ok-fill.ensures.taken) in
    let t = taking _ _ _ _ c.take_into.new.self c.in_ok-take_into.ensures.line c.in_ok-take_into.ensures.taken in
    let h = ended k t _ f (rw c.if-branch-2.true at c.in_ok-take_into.ensures.rest) in
    hands_ended k _ _ _ _ _ h (
      c.drop_carriage_return.ensures,
      subst (λ l. Measures l c.measured.result) c.as_slice.ensures.value c.measured.ensures.measures,
    )

pub loop-self-preserved : goal.loop-self-preserved
loop-self-preserved g c = record {
  files = stays_on _ _ _ c.loop-self.invariant.files c.in_ok-fill.ensures.files;
  room = omega (arith, ap length c.in_ok-take_into.ensures.line, length-take {A = ℕ});
  moves =
      omega (
        arith,
        rw c.if-branch-2.false at c.in_ok-take_into.ensures.moves,
        c.in_ok-fill.ensures.taken,
        c.loop-self.invariant.moves,
      );
  moved = λ bytes comes.
      let k = call bytes c.args.self.now in
      let f =
      moved_filled k _ _ _ (c.loop-self.invariant.moved bytes comes) (fills _ c.fill.new.self _
      (g.F.Files.filed c.fill.new.files) _ c.in_ok-fill.ensures.bytes c.in_ok-fill.ensures.taken) in
      let t = taking _ _ _ _ c.take_into.new.self c.in_ok-take_into.ensures.line c.in_ok-take_into.ensures.taken in
      moved_on k t _ f (rw c.if-branch-2.false at c.in_ok-take_into.ensures.rest)
      (c.in_ok-take_into.ensures.open c.if-branch-2.false);
}

pub returns-then-is_empty-clause-hands : goal.returns-then-is_empty-clause-hands
returns-then-is_empty-clause-hands g c bytes comes =
    let f = fills _ c.fill.new.self _ (g.F.Files.filed c.fill.new.files) _ c.in_ok-fill.ensures.bytes
    c.in_ok-fill.ensures.taken in
    hands_end (call bytes c.args.self.now) _ _ _
    (over (call bytes c.args.self.now) _ _ _ (c.loop-self.invariant.moved bytes comes) f c.if-branch.false)
    (omega (arith, true-eqb c.loop-self.line.len 0 c.if-is_empty.ensures, c.loop-self.line.ok.0))

pub returns-else-is_empty-clause-hands : goal.returns-else-is_empty-clause-hands
returns-else-is_empty-clause-hands g c bytes comes =
    let f = fills _ c.fill.new.self _ (g.F.Files.filed c.fill.new.files) _ c.in_ok-fill.ensures.bytes
    c.in_ok-fill.ensures.taken in
    hands_last (call bytes c.args.self.now) _ _ _ _
    (over (call bytes c.args.self.now) _ _ _ (c.loop-self.invariant.moved bytes comes) f c.if-branch.false)
    (omega (arith, false-eqb c.loop-self.line.len 0 c.if-is_empty.ensures, c.loop-self.line.ok.0))
    (subst (λ l. Measures l c.measured-else-is_empty.result) c.as_slice-else-is_empty.ensures.value
    c.measured-else-is_empty.ensures.measures)

pub returns-in_err-fill-clause-breaks : goal.returns-in_err-fill-clause-breaks
returns-in_err-fill-clause-breaks g c bytes comes failed =
    broke (call bytes c.args.self.now) c.loop-self.line.items c.loop-self.self _ _
    (c.loop-self.invariant.moved bytes comes) c.in_err-fill.ensures.stuck
    (omega (arith, c.fill.ensures.taken, c.fill.ensures.limit))
