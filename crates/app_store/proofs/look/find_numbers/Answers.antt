use Rattle.std.proofs.Common.{◌∙◌, Some, ap, subst}
use Rattle.std.specs.Option.{option_map}
use Rattle.slon_base.specs.Codec.{number_bytes}
use Rattle.app_store.specs.Spelled.{IsSmall}
use Rattle.app_store.proofs.Formed.{passes_on, none_lacks, stamp_of}
use Rattle.std.proofs.lemmas.Result.{err_from_is_err_and}
use Rattle.store_rows.proofs.Spaces.{sight_safe}
use Rattle.app_store.specs.Works.{NumbersAre}
use Rattle.app_store.proofs.Pending.{exit_as}
use Rattle.app_store.proofs.MetaNumbers.{stamp_if, small_if, stamp_at, xids_at, actions_at, found_stamp, no_stamp}
use Rattle.app_store.proofs.look.find_numbers.Goals as goal

pub returns-in_err-find_number-clause-form : goal.returns-in_err-find_number-clause-form
returns-in_err-find_number-clause-form g c m seen =
    passes_on _ _ c.from_residual.result (err_from_is_err_and c.from_residual.result c.from_residual.ensures.1)
    (λ space lacks. (lacks.0, λ are. lacks.1 (stamp_of are))) (c.in_err-find_number.ensures.form m seen)

pub returns-in_ok-number_ceiling-in-Some-clause-form : goal.returns-in_ok-number_ceiling-in-Some-clause-form
returns-in_ok-number_ceiling-in-Some-clause-form g c m seen =
    let read = c.in_ok-find_number.ensures in
    let next = c.in_ok-xid_ceiling-in-Some.ensures in
    let last = c.in_ok-number_ceiling-in-Some.ensures in
    let then = sight_safe read.safe read.same ∙ seen in
    let later = sight_safe next.safe next.same ∙ then in
    none_lacks (record {
      numbers = Some (record {
        stamp = c.in-Some.stamp;
        xid_ceiling = c.in_ok-xid_ceiling-in-Some.xid_ceiling;
        number_ceiling = c.in_ok-number_ceiling-in-Some.number_ceiling;
      });
      small = (subst IsSmall c.in-Some.is read.small, next.small, last.small);
      stand = (
        read.found m seen ∙ ap (option_map number_bytes) c.in-Some.is,
        next.found m then,
        last.found m later,
      );
    })

pub returns-in_err-find_number-clause-finds : goal.returns-in_err-find_number-clause-finds
returns-in_err-find_number-clause-finds g c m seen stamp xids numbers a b d is =
    exit_as (NumbersAre stamp xids numbers) c.from_residual.result
    (err_from_is_err_and c.from_residual.result c.from_residual.ensures.1)
    (c.in_err-find_number.ensures.says m (stamp_if stamp) seen (small_if stamp a) (stamp_at stamp xids numbers
    (m 1) is))

pub returns-in-None-clause-finds : goal.returns-in-None-clause-finds
returns-in-None-clause-finds g c m seen stamp xids numbers a b d is =
    no_stamp stamp (rw c.in-None.is at (c.in_ok-find_number.ensures.says m (stamp_if stamp) seen (small_if stamp a)
    (stamp_at stamp xids numbers (m 1) is)))

pub returns-in_err-xid_ceiling-in-Some-clause-finds : goal.returns-in_err-xid_ceiling-in-Some-clause-finds
returns-in_err-xid_ceiling-in-Some-clause-finds g c m seen stamp xids numbers a b d is =
    let read = c.in_ok-find_number.ensures in
    let some = found_stamp c.in-Some.stamp stamp
    (rw c.in-Some.is at (read.says m (stamp_if stamp) seen (small_if stamp a) (stamp_at stamp xids numbers
    (m 1) is))) in
    let later = sight_safe read.safe read.same ∙ seen in
    exit_as (NumbersAre stamp xids numbers) c.from_residual-in_err-xid_ceiling-in-Some.result
    (err_from_is_err_and c.from_residual-in_err-xid_ceiling-in-Some.result
    c.from_residual-in_err-xid_ceiling-in-Some.ensures.1)
    (c.in_err-xid_ceiling-in-Some.ensures.says m xids later b (xids_at stamp xids numbers (m 1) some.1 is))

pub returns-in_err-number_ceiling-in-Some-clause-finds : goal.returns-in_err-number_ceiling-in-Some-clause-finds
returns-in_err-number_ceiling-in-Some-clause-finds g c m seen stamp xids numbers a b d is =
    let read = c.in_ok-find_number.ensures in
    let next = c.in_ok-xid_ceiling-in-Some.ensures in
    let some = found_stamp c.in-Some.stamp stamp
    (rw c.in-Some.is at (read.says m (stamp_if stamp) seen (small_if stamp a) (stamp_at stamp xids numbers
    (m 1) is))) in
    let later = sight_safe next.safe next.same ∙ sight_safe read.safe read.same ∙ seen in
    exit_as (NumbersAre stamp xids numbers) c.from_residual-in_err-number_ceiling-in-Some.result
    (err_from_is_err_and c.from_residual-in_err-number_ceiling-in-Some.result
    c.from_residual-in_err-number_ceiling-in-Some.ensures.1)
    (c.in_err-number_ceiling-in-Some.ensures.says m numbers later d (actions_at stamp xids numbers (m 1) some.1 is))

pub returns-in_ok-number_ceiling-in-Some-clause-finds : goal.returns-in_ok-number_ceiling-in-Some-clause-finds
returns-in_ok-number_ceiling-in-Some-clause-finds g c m seen stamp xids numbers a b d is =
    let read = c.in_ok-find_number.ensures in
    let next = c.in_ok-xid_ceiling-in-Some.ensures in
    let some = found_stamp c.in-Some.stamp stamp
    (rw c.in-Some.is at (read.says m (stamp_if stamp) seen (small_if stamp a) (stamp_at stamp xids numbers
    (m 1) is))) in
    let then = sight_safe read.safe read.same ∙ seen in
    let later = sight_safe next.safe next.same ∙ then in (
      some.0,
      next.says m xids then b (xids_at stamp xids numbers (m 1) some.1 is),
      c.in_ok-number_ceiling-in-Some.ensures.says m numbers later d (actions_at stamp xids numbers (m 1) some.1 is),
      some.1,
    )
