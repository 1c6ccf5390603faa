use Rattle.std.proofs.Common.{◌≡◌, Some, None, refl, sym, ap, ◌∙◌, length, slice_get}
use Rattle.std.proofs.lemmas.Option.{slice_get_past, slice_get_read}
use Rattle.slonik_expand.proofs.SharedDefinitions.{len_in, len_at}
use Rattle.slonik_expand.proofs.definitions.Definitions.len.Goals as goal

pub returns-in-Some : goal.returns-in-Some
returns-in-Some c =
    let made = c.args.self.now.made.items in
    let d = c.in-Some.definition.now in
    let found = c.in-Some.ensures.lookup in
    let all = c.deref.result.now in
    let there : slice_get made c.args.place ≡ Some d =
    ap (λ l. slice_get l c.args.place) (sym c.deref.ensures.value)
    ∙ slice_get_read all (length all) c.args.place d refl found.3.0 (found.3.1 d) in
    sym (ap len_in there) ∙ len_at made c.args.place c.args.self.now.counted

pub returns-in-None : goal.returns-in-None
returns-in-None c =
    let made = c.args.self.now.made.items in
    let past : slice_get made c.args.place ≡ None =
    ap (λ l. slice_get l c.args.place) (sym c.deref.ensures.value)
    ∙ slice_get_past c.deref.result.now c.args.place c.in-None.ensures.lookup.3 in
    sym (ap len_in past) ∙ len_at made c.args.place c.args.self.now.counted
