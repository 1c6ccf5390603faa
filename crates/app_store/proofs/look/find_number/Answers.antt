use Rattle.std.proofs.Common.{◌∙◌, Some, sym, ap}
use Rattle.app_store.proofs.Formed.{none_lacks}
use Rattle.app_store.proofs.look.find_number.Goals as goal

pub returns-in_ok-read_number-in-Some-clause-form : goal.returns-in_ok-read_number-in-Some-clause-form
returns-in_ok-read_number-in-Some-clause-form g c m seen =
    let read = c.in_ok-read_number-in-Some.ensures in
    none_lacks (record {
      number = Some c.in_ok-read_number-in-Some.field-0;
      small = read.small;
      spelled = sym (c.in_ok-get_pair.ensures.gives m seen) ∙ c.in-Some.is ∙ ap (λ b. Some b) read.found;
    })
