use Rattle.app_store.proofs.Pending.{looks}
use Rattle.app_store.proofs.look.read_status.Goals as goal

pub returns : goal.returns
returns g c =
    looks c.tell.result c.tell.ensures.safe c.tell.ensures.within (λ m seen. record {
      says = λ n own held log. c.tell.ensures.says m n seen own held log;
      form = c.tell.ensures.form m seen;
    })
