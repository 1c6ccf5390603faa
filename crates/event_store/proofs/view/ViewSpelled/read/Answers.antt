use Rattle.std.proofs.Common.{◌≡◌, ℕ, List, ◌++◌, ◌∙◌, append_assoc, rules}
use Rattle.slon_base.specs.Codec.{number_bytes}
use Rattle.slon_model.specs.Views.{View}
use Rattle.txn_core.specs.Snapshots.{seen_as}
use Rattle.event_store.specs.Spellings.{snapshot_bytes, view_bytes}
use Rattle.event_store.specs.Seen.{snapshot_as}
use Rattle.event_store.proofs.view.ViewSpelled.read.Goals as goal

-- the parts one after the other
part_by_part : (v : View) (rest : List ℕ) →
    view_bytes v ++ rest
    ≡ number_bytes v.era ++ (number_bytes v.origin ++ (number_bytes v.number ++ (snapshot_bytes v.seen
    ++ (number_bytes v.base_era ++ (snapshot_bytes v.base ++ rest)))))
part_by_part v rest =
    let two = number_bytes v.era ++ number_bytes v.origin in
    let three = two ++ number_bytes v.number in
    let four = three ++ snapshot_bytes v.seen in
    let five = four ++ number_bytes v.base_era in
    append_assoc five (snapshot_bytes v.base) rest
    ∙ append_assoc four (number_bytes v.base_era) _
    ∙ append_assoc three (snapshot_bytes v.seen) _
    ∙ append_assoc two (number_bytes v.number) _
    ∙ append_assoc (number_bytes v.era) (number_bytes v.origin) _

pub returns-in_err-seen-clause-again : goal.returns-in_err-seen-clause-again
returns-in_err-seen-clause-again c x rest can is =
    let a = c.in_ok-era.ensures.again x.era _ can.era (is ∙ part_by_part _ rest) in
    let b = c.in_ok-origin.ensures.again x.origin _ can.origin a.1 in
    let d = c.in_ok-number.ensures.again x.number _ can.number b.1 in
    let memory = c.in_err-seen.ensures.again (seen_as x.seen) _ can.seen d.1 in
    search (rules, memory)

pub returns-in_err-base_era-clause-again : goal.returns-in_err-base_era-clause-again
returns-in_err-base_era-clause-again c x rest can is =
    let a = c.in_ok-era.ensures.again x.era _ can.era (is ∙ part_by_part _ rest) in
    let b = c.in_ok-origin.ensures.again x.origin _ can.origin a.1 in
    let d = c.in_ok-number.ensures.again x.number _ can.number b.1 in
    let e = c.in_ok-seen.ensures.again (seen_as x.seen) _ can.seen d.1 in
    let memory = c.in_err-base_era.ensures.again x.base_era _ can.base_era e.1 in
    search (rules, memory)

pub returns-in_err-base-clause-again : goal.returns-in_err-base-clause-again
returns-in_err-base-clause-again c x rest can is =
    let a = c.in_ok-era.ensures.again x.era _ can.era (is ∙ part_by_part _ rest) in
    let b = c.in_ok-origin.ensures.again x.origin _ can.origin a.1 in
    let d = c.in_ok-number.ensures.again x.number _ can.number b.1 in
    let e = c.in_ok-seen.ensures.again (seen_as x.seen) _ can.seen d.1 in
    let f = c.in_ok-base_era.ensures.again x.base_era _ can.base_era e.1 in
    let memory = c.in_err-base.ensures.again (seen_as x.base) rest can.base f.1 in
    search (rules, memory)

pub returns-clause-again : goal.returns-clause-again
returns-clause-again c x rest can is =
    let a = c.in_ok-era.ensures.again x.era _ can.era (is ∙ part_by_part _ rest) in
    let b = c.in_ok-origin.ensures.again x.origin _ can.origin a.1 in
    let d = c.in_ok-number.ensures.again x.number _ can.number b.1 in
    let e = c.in_ok-seen.ensures.again (seen_as x.seen) _ can.seen d.1 in
    let f = c.in_ok-base_era.ensures.again x.base_era _ can.base_era e.1 in
    let h = c.in_ok-base.ensures.again (seen_as x.base) rest can.base f.1 in (
      λ i. record {
        era = a.0 i;
        origin = b.0 i;
        number = d.0 i;
        seen = snapshot_as (e.0 i);
        base_era = f.0 i;
        base = snapshot_as (h.0 i);
      },
      h.1,
    )
