use Rattle.std.proofs.Common.{None, Some, refl, sym, ◌∙◌, lit<}
use Rattle.std.proofs.lemmas.Str.Pattern.{split_after}
use Rattle.slon_model.proofs.WordBytes.{two_parts}
use Rattle.change_capture.proofs.Parts.{no_dot, parts_are}
use Rattle.change_capture.proofs.capture.names_of.Goals as goal

pub unreachable-requires : goal.unreachable-requires
unreachable-requires c =
    let t = two_parts c.args.table.now c.requires in
    split_after 46 c.as_str.result.now t.front t.back None c.in-None.ensures.cases (lit< tt)
    (c.as_str.ensures.value ∙ sym t.joined) (no_dot t.front t.is_front)

pub returns : goal.returns
returns c =
    let t = two_parts c.args.table.now c.requires in
    let cut =
    split_after 46 c.as_str.result.now t.front t.back (Some (c.in-Some.namespace, c.in-Some.name))
    c.in-Some.ensures.cases (lit< tt) (c.as_str.ensures.value ∙ sym t.joined) (no_dot t.front t.is_front) in
    rw (
      c.in_ok-push-in-Some-2.ensures.ok,
      c.in_ok-push-in-Some.ensures.ok,
      c.new-names.ensures,
      c.in_ok-from_str-in-Some.ensures,
      c.in_ok-from_str-in-Some-2.ensures,
      parts_are c.args.table.now t,
      cut.0,
      cut.1,
    ) refl
