use Rattle.std.proofs.Common.{subst, sym, ◌∙◌, ◌<◌}
use Rattle.std.specs.Prelude.{◌^◌}
use Rattle.std.proofs.lemmas.Bool.{false≢true}
use Rattle.app_store.specs.Begun.{AreSmall}
use Rattle.app_store.proofs.Starting.{small_next}
use Rattle.app_store.proofs.state.State.open.Goals as goal

pub invariant_of-self-2 : goal.invariant_of-self-2
invariant_of-self-2 c = record {
  small = c.args.self.now.small;
  closed = λ down. absurd (false≢true (sym down ∙ c.requires.up));
  written = c.open.ensures.kept c.args.self.now.written;
  marked = subst AreSmall (sym c.in_ok-push.ensures.ok)
      (small_next c.args.self.now.begun (record { xid = c.args.xid; number = c.next-number.result })
      (subst (λ n. n < 2 ^ 63) (sym c.next-number.ensures.value) c.next-number.ensures.small) c.args.self.now.marked);
}
