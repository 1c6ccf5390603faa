use Rattle.app_store.proofs.Pending.{looks}
use Rattle.app_store.proofs.look.find_columns.Goals as goal

pub returns : goal.returns
returns g c =
    let found = c.find_number.ensures in
    looks c.find_number.result found.safe found.within (λ m seen. record {
      says = λ columns. found.says m columns seen;
      found = found.found m seen;
      small = found.small;
      form = found.form m seen;
    })
