use Rattle.std.proofs.Common.{◌≡◌, ◌∙◌, true, cond, Some, refl, sym, ap, subst}
use Rattle.std.proofs.lemmas.Bool.{false≢true}
use Rattle.node_state.specs.Known.{is_captured}
use Rattle.app_store.proofs.Written.{action_captured}
use Rattle.std.specs.FinMap.{get, insert, remove}
use Rattle.app_store.specs.Base.{base_of, memory_of}
use Rattle.app_store.specs.Written.{with_write}
use Rattle.app_store.proofs.Writing.{added, not_added, held_by}
use Rattle.std.specs.Prelude.{◌&&◌}
use Rattle.std.specs.Str.{bytes_eq}
use Rattle.txn_core.specs.Locks.{holder_of}
use Rattle.app_store.proofs.database.Database.add_write.Goals as goal

pub returns-in-Ok-take-clause-adds : goal.returns-in-Ok-take-clause-adds
returns-in-Ok-take-clause-adds g c p ready memory change may =
    added c.draw-number.result ready (c.in-Ok.ensures.raises p ready refl) may (record {
      up = c.in-Ok.ensures.up;
      number_is = c.draw-number.ensures.value;
      locks = c.take.new.self;
      table_text = c.requires.text;
      key_text = c.requires.key;
      locks_are = λ u k. c.in-Ok-take.ensures.ok u k
          ∙ ap (λ s. cond (bytes_eq s u && bytes_eq c.as_slice-in-Ok.result.now k) (Some c.args.xid)
          (holder_of u k c.raise.new.self.state.locks)) c.as_slice.ensures.value
          ∙ ap
          (λ s. cond (bytes_eq c.args.table.now u && bytes_eq s k) (Some c.args.xid)
          (holder_of u k c.raise.new.self.state.locks)) c.as_slice-in-Ok.ensures.value;
      is = λ t there. λ i. record (base_of g.K.Keeper.kept c.raise.new.self) {
        memory = record (memory_of c.raise.new.self.state) {
          numbers = record { next = c.draw-number.ensures.next i; ceiling = c.draw-number.ensures.ceiling i };
          opens =
              (c.in_ok-write-in-Ok-take.ensures.wrote t
              (ap (get c.raise.new.self.state.opens) c.as_slice-in-Ok-take.ensures.value ∙ there)
              ∙ ap
              (λ n. insert (remove c.raise.new.self.state.opens n) n
              (with_write c.as_slice-in-Ok-take-2.result.now c.args.addition.value (record {
                number = c.draw-number.result;
                table = c.in_ok-copy-in-Ok-take.field-0;
                change = c.args.addition.change;
              }) t))
              c.as_slice-in-Ok-take.ensures.value
              ∙ (λ j. insert (remove c.raise.new.self.state.opens c.args.name.now) c.args.name.now
              (with_write (c.as_slice-in-Ok-take-2.ensures j) c.args.addition.value (record {
                number = c.draw-number.ensures.value j;
                table = c.in_ok-copy-in-Ok-take.ensures j;
                change = c.args.addition.change;
              }) t))) i;
          locks = c.take.new.self;
        };
      };
    })

pub returns-clause-adds : goal.returns-clause-adds
returns-clause-adds g c p ready memory change may =
    not_added c.args.xid c.args.table.now change p c.in-Err.fault _ (c.in-Err.ensures.raises p ready memory)

pub invariant_of-self-in-Ok-take-2 : goal.invariant_of-self-in-Ok-take-2
invariant_of-self-in-Ok-take-2 g c = (
  (
    c.raise.new.self.state.small,
    (
      λ down. absurd (false≢true (sym down ∙ c.in-Ok.ensures.up)),
      (
        c.write.ensures.kept c.raise.new.self.state.written c.requires.written
            (subst (λ table. is_captured (record {
              number = c.draw-number.result;
              table = table;
              change = c.args.addition.change;
            }) ≡ true) (sym c.in_ok-copy-in-Ok-take.ensures)
            (action_captured c.args.table.now c.draw-number.result c.args.addition.change c.requires.named
            c.draw-number.ensures.small c.requires.formed)),
        (c.raise.new.self.state.marked, tt),
      ),
    ),
  ),
  (c.raise.new.self.idle, tt),
)

pub returns-in-Locked-clause-adds : goal.returns-in-Locked-clause-adds
returns-in-Locked-clause-adds g c p ready memory change may =
    let refused = rw c.in-Locked.is at c.in-Err-take.ensures.refused in
    absurd (refused.1 (held_by c.in-Locked.xid (c.in-Ok.ensures.raises p ready refl) may c.in-Ok.ensures.up
    c.requires.text
    ((λ i. holder_of (sym c.as_slice.ensures.value i) (sym c.as_slice-in-Ok.ensures.value i)
    c.raise.new.self.state.locks) ∙ refused.0)))
