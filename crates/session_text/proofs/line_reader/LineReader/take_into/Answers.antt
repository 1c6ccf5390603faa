use Rattle.std.proofs.Common.{◌≡◌, ◌+◌, ◌++◌, cond, take, refl, sym, ap, ◌∙◌, ℕ, arith}
use Rattle.std.specs.List.{slice_range}
use Rattle.std.proofs.lemmas.List.{length-take}
use Rattle.session_text.specs.Handing.{front}
use Rattle.session_text.specs.Reading.{line_size}
use Rattle.session_text.proofs.Lines.{cut, front_found, behind_found, size_found}
use Rattle.session_text.proofs.line_reader.LineReader.take_into.Goals as goal
use Rattle.session_text.proofs.line_reader.LineReader.take_into.Goals.{then-is_some, else-is_some}

pub returns-clause-line : goal.returns-clause-line
returns-clause-line c =
    let all = c.args.self.now.unread in
    let unread : all ≡ slice_range c.self.inside.buffer.items c.self.inside.start c.self.inside.end =
    sym (ap (λ r. r.unread) c.self.view_is) in
    let piece : take c.unwrap_or-len.result all ≡ front all =
    rw (unread, ← c.deref.ensures.value)
    (sym (front_found _ _ _ c.newline_at-newline.ensures c.unwrap_or-len.ensures)) in
    c.in_ok-keep.ensures.kept
    ∙ ap (λ l. take 8194 (c.args.line.now.items ++ l)) (rw (c.deref.ensures.value, ← unread) piece)

pub returns-clause-rest : goal.returns-clause-rest
returns-clause-rest c =
    let inside = c.self.inside in
    let same = c.is_some-2.ensures ∙ sym c.is_some.ensures in
    let count : c.if-is_some.count ≡ cond c.is_some-2.result (c.unwrap_or-len.result + 1) c.unwrap_or-len.result =
    elim c.if-is_some.branch [
      | then-is_some w ↦ rw (same, w.if-is_some.true) w.count-is
      | else-is_some w ↦ rw (same, w.if-is_some.false) w.count-is
    ] in
    let found = cut _ _ _ _ _ (c.newline_at-newline.ensures, c.unwrap_or-len.ensures) (c.is_some-2.ensures, count) in
    let unread : c.args.self.now.unread ≡ slice_range inside.buffer.items inside.start inside.end =
    sym (ap (λ r. r.unread) c.self.view_is) in
    rw (unread, ← c.deref.ensures.value) (behind_found _ _ inside.start inside.end found refl)

pub returns-clause-moves : goal.returns-clause-moves
returns-clause-moves c =
    let same = c.is_some-2.ensures ∙ sym c.is_some.ensures in
    let taken = ap (λ r. r.taken) c.self.view_is in
    let grows = c.in_ok-keep.ensures.grows in
    elim c.if-is_some.branch [
      | then-is_some w ↦
          let count = w.count-is in
          rw (same, w.if-is_some.true) (omega (arith, length-take {A = ℕ}))
      | else-is_some w ↦
          let count = w.count-is in
          rw (same, w.if-is_some.false) (omega (arith, length-take {A = ℕ}))
    ]

pub returns-then-self-count-clause-past : goal.returns-then-self-count-clause-past
returns-then-self-count-clause-past c past =
    let count : c.if-is_some.count ≡ cond c.is_some.result (c.unwrap_or-len.result + 1) c.unwrap_or-len.result =
    elim c.if-is_some.branch [
      | then-is_some w ↦ rw w.if-is_some.true w.count-is
      | else-is_some w ↦ rw w.if-is_some.false w.count-is
    ] in
    let found = cut _ _ _ _ _ (c.newline_at-newline.ensures, c.unwrap_or-len.ensures) (c.is_some.ensures, count) in
    let size = size_found _ found in
    let unread : c.args.self.now.unread ≡ slice_range c.self.inside.buffer.items c.self.inside.start c.self.inside.end =
    sym (ap (λ r. r.unread) c.self.view_is) in
    let whole : line_size c.args.self.now.unread ≡ c.if-is_some.count = rw (unread, ← c.deref.ensures.value) size in
    omega (arith, c.if-self-count.true, ap (λ r. r.taken) c.self.view_is)
