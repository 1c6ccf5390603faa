use Rattle.std.proofs.Common.{◌≡◌, ◌∙◌, ◌++◌, [], ◌∷◌, true, false, ap, sym, subst, rules, arith}
use Rattle.std.proofs.lemmas.Result.{err_from_is_err_and}
use Rattle.std.specs.Str.{bytes_eq}
use Rattle.session_text.proofs.Moving.{stays_on}
use Rattle.session_reader.specs.Sessions.{Within, closing, is_readable}
use Rattle.session_reader.specs.Fetching.{to_come}
use Rattle.session_reader.proofs.Heard.{under}
use Rattle.session_reader.proofs.Going.{stops_on, breaks_on, spot, line_on, part, within, closed_here, bad_here}
use Rattle.session_reader.proofs.Going.{text_here}
use Rattle.session_reader.proofs.reader.SessionReader.read_text.Goals as goal

pub loop-text-init : goal.loop-text-init
loop-text-init g c = record {
  files = search rules;
  moves = omega arith;
  reads = λ names name bytes comes. record {
    rest = bytes;
    comes = comes;
    same = ap (λ t. to_come names (Within name c.args.opened t) c.args.self.now bytes) (sym c.new-text.ensures.items);
  };
}

pub returns-in_err-number-clause-reads : goal.returns-in_err-number-clause-reads
returns-in_err-number-clause-reads g c names name bytes comes =
    let r = c.loop-text.invariant.reads names name bytes comes in
    let p = err_from_is_err_and c.from_residual.result c.from_residual.ensures.1 in
    rw (p.1, p.2)
    (stops_on _ _ _ _ r c.in_err-number.field-0.0
    (c.in_err-number.ensures.reads r.rest r.comes names (Within name c.args.opened c.loop-text.text.items)))

pub returns-then-is_closing-clause-reads : goal.returns-then-is_closing-clause-reads
returns-then-is_closing-clause-reads g c names name bytes comes =
    let p = part names name c.args.opened c.loop-text.text.items in
    let r = c.loop-text.invariant.reads names name bytes comes in
    let s = spot (to_come names (Within name c.args.opened []) c.args.self.now bytes) c.read_line.new.self
    (g.F.Files.filed c.read_line.new.files) c.in-Some.number in
    let line = line_on (within p) s _ _ r (rw c.in-Some.is at c.in_ok-number.ensures.reads r.rest r.comes) in
    let same = c.deref.ensures.value ∙ ap (λ r. r.line) c.self.view_is in (
      line.rest,
      line.comes,
      closed_here p s line (subst (λ l. bytes_eq l closing ≡ true) same
          (sym c.is_closing.ensures ∙ c.if-is_closing.true)),
    )

pub returns-then-not-is_readable-clause-reads : goal.returns-then-not-is_readable-clause-reads
returns-then-not-is_readable-clause-reads g c names name bytes comes =
    let p = part names name c.args.opened c.loop-text.text.items in
    let r = c.loop-text.invariant.reads names name bytes comes in
    let s = spot (to_come names (Within name c.args.opened []) c.args.self.now bytes) c.read_line.new.self
    (g.F.Files.filed c.read_line.new.files) c.in-Some.number in
    let line = line_on (within p) s _ _ r (rw c.in-Some.is at c.in_ok-number.ensures.reads r.rest r.comes) in
    let view = ap (λ r. r.line) c.self.view_is in
    bad_here p s line
    (subst (λ l. bytes_eq l closing ≡ false) (c.deref.ensures.value ∙ view)
    (sym c.is_closing.ensures ∙ c.if-is_closing.false))
    (subst (λ l. is_readable l ≡ false) (c.deref-in-Some.ensures.value ∙ view)
    (sym c.is_readable.ensures ∙ c.if-not-is_readable.true))

pub loop-text-preserved : goal.loop-text-preserved
loop-text-preserved g c = record {
  files = stays_on _ _ _ c.loop-text.invariant.files c.in_ok-number.ensures.files;
  moves = omega (arith, c.loop-text.invariant.moves, rw c.in-Some.is at c.in_ok-number.ensures.moves);
  reads = λ names name bytes comes.
      let p = part names name c.args.opened c.loop-text.text.items in
      let r = c.loop-text.invariant.reads names name bytes comes in
      let s = spot (to_come names (Within name c.args.opened []) c.args.self.now bytes) c.read_line.new.self
      (g.F.Files.filed c.read_line.new.files) c.in-Some.number in
      let line = line_on (within p) s _ _ r (rw c.in-Some.is at c.in_ok-number.ensures.reads r.rest r.comes) in
      let view = ap (λ r. r.line) c.self.view_is in
      record {
        rest = line.rest;
        comes = line.comes;
        same = text_here p s line c.push_line.new.text.items
            (subst (λ l. bytes_eq l closing ≡ false) (c.deref.ensures.value ∙ view)
            (sym c.is_closing.ensures ∙ c.if-is_closing.false))
            (subst (λ l. is_readable l ≡ true) (c.deref-in-Some.ensures.value ∙ view)
            (sym c.is_readable.ensures ∙ c.if-not-is_readable.false))
            (ap (λ l. c.loop-text.text.items ++ l ++ 10 ∷ []) (sym (c.deref-in-Some-2.ensures.value ∙ view))
            ∙ sym c.in_ok-push_line.ensures);
      };
}

pub returns-clause-reads : goal.returns-clause-reads
returns-clause-reads g c names name bytes comes =
    let r = c.loop-text.invariant.reads names name bytes comes in
    r.same
    ∙ (rw c.in_default.is at c.in_ok-number.ensures.reads r.rest r.comes) names
    (Within name c.args.opened c.loop-text.text.items)

pub returns-in_err-number-clause-breaks : goal.returns-in_err-number-clause-breaks
returns-in_err-number-clause-breaks g c names name bytes comes failed =
    let r = c.loop-text.invariant.reads names name bytes comes in
    let p = err_from_is_err_and c.from_residual.result c.from_residual.ensures.1 in
    breaks_on _ (under names (Within name c.args.opened c.loop-text.text.items)) _ _ r c.read_line.new.self
    (g.F.Files.filed c.read_line.new.files)
    (c.in_err-number.ensures.breaks r.rest r.comes (cc (p.1, p.2, failed)))
