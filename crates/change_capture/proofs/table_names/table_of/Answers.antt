use Rattle.std.proofs.Common.{◌∷◌, [], ◌++◌, sym, ap, subst, ◌∙◌, append_assoc}
use Rattle.slon_model.specs.Forms.{is_part}
use Rattle.change_capture.specs.Reading.{HasNames}
use Rattle.change_capture.proofs.Parts.{has_names}
use Rattle.change_capture.proofs.table_names.table_of.Goals as goal

pub returns : goal.returns
returns c =
    let read = c.in-Some-Some-None in
    let front = read.namespace.now in
    let back = read.name.now in
    let names = read.ensures ∙ ap (λ l. front ∷ l) (read.ensures' ∙ ap (λ l. back ∷ l) read.ensures'') in
    let begun = c.push_str.ensures.bytes ∙ ap (λ s. s ++ front) c.new-text.ensures in
    let dotted = c.push_str-2.ensures.bytes ∙ ap (λ s. s ++ 46 ∷ []) begun in
    let whole = c.push_str-3.ensures.bytes ∙ ap (λ s. s ++ back) dotted ∙ append_assoc front (46 ∷ []) back in
    let text = c.in_ok-from_str.ensures ∙ c.as_str.ensures.value ∙ whole in
    let has = has_names front back (ap is_part (sym c.as_bytes.ensures.value) ∙ sym c.if-not-is_part.ensures)
    (ap is_part (sym c.as_bytes-else-not-is_part.ensures.value) ∙ sym c.if-not-is_part-2.ensures) in
    subst (λ l. HasNames l c.in_ok-from_str.field-0) (sym names) (subst (HasNames (front ∷ back ∷ [])) (sym text) has)
