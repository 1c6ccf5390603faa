use Rattle.std.proofs.Common.{◌∙◌, List, ℕ, sym, ap, arith}
use Rattle.std.proofs.lemmas.Result.{err_from_is_err_and}
use Rattle.std.specs.Prelude.{option_map}
use Rattle.slon_base.specs.Codec.{list_bytes}
use Rattle.slon_base.specs.Keeper.{put_at, del_at}
use Rattle.store_rows.proofs.Putting.{puts_on, puts_within}
use Rattle.store_rows.proofs.Spaces.{becomes, sees, hands_stop, pending_same, pending_as}
use Rattle.slon_model.specs.Rows.{updated}
use Rattle.change_capture.specs.Actions.{change_of}
use Rattle.change_apply.specs.Applied.{row_key, HoldsRows, changed_in, IsChanged}
use Rattle.change_apply.proofs.Changing.{pending_ok, seen, put_changed, remove_changed, set_changed, none_changed}
use Rattle.change_apply.proofs.Changing.{put_holds, remove_holds, set_holds, none_holds, set_texts, set_key}
use Rattle.change_apply.proofs.applying.apply_change.Goals as goal

pub returns-in-Put-clause-changed : goal.returns-in-Put-clause-changed
returns-in-Put-clause-changed g c m is =
    pending_ok (IsChanged c.args.table (change_of c.args.change) m)
    (put_at 3 (row_key (c.args.table, c.in-Put.key)) (list_bytes c.in-Put.values))
    (g.K.Keeper.kept c.put_row_in.new.keeper) c.put_row_in.result
    c.put_row_in.ensures.put is (put_changed (ap change_of c.in-Put.is))

pub returns-in-Put-clause-applies : goal.returns-in-Put-clause-applies
returns-in-Put-clause-applies g c tables p =
    becomes (HoldsRows (changed_in c.args.table (change_of c.args.change) tables))
    (put_at 3 (row_key (c.args.table, c.in-Put.key)) (list_bytes c.in-Put.values)) _ c.put_row_in.result
    c.put_row_in.ensures.put c.put_row_in.ensures.only p
    (λ m held. put_holds m (ap change_of c.in-Put.is)
    (record { text = c.requires.table; can = c.requires.words; held = held }))

pub returns-in_err-get_row-in-Set-clause-applies : goal.returns-in_err-get_row-in-Set-clause-applies
returns-in_err-get_row-in-Set-clause-applies g c tables p =
    let at : List ℕ × List ℕ = (c.args.table, c.in-Set.key) in
    let one = set_key (ap change_of c.in-Set.is) c.requires.table c.requires.words in
    hands_stop _ _ c.from_residual.result (err_from_is_err_and c.from_residual.result c.from_residual.ensures.1)
    (c.in_err-get_row-in-Set.ensures.gives p.store _ (sees p) (p.has.spelled at one)
    (p.has.lookups at one))

pub returns-in-None-clause-changed : goal.returns-in-None-clause-changed
returns-in-None-clause-changed g c m is =
    let there = c.in_ok-get_row-in-Set.ensures.found m (seen (g.K.Keeper.kept c.args.keeper.now) m is)
    ∙ ap (option_map list_bytes) c.in-None.is in
    record {
      store = m;
      is = c.in_ok-get_row-in-Set.ensures.same ∙ is;
      has = none_changed (ap change_of c.in-Set.is) there;
    }

pub returns-in-None-clause-applies : goal.returns-in-None-clause-applies
returns-in-None-clause-applies g c tables p =
    let at : List ℕ × List ℕ = (c.args.table, c.in-Set.key) in
    let one = set_key (ap change_of c.in-Set.is) c.requires.table c.requires.words in
    let there = sym c.in-None.is ∙ c.in_ok-get_row-in-Set.ensures.gives p.store _ (sees p)
    (p.has.spelled at one) (p.has.lookups at one) in
    pending_same
    (pending_as (λ m held. none_holds m (ap change_of c.in-Set.is) there
    (record { text = c.requires.table; can = c.requires.words; held = held })) p) c.in_ok-get_row-in-Set.ensures.same

pub put_row_in-requires-in-Some-clause-value : goal.put_row_in-requires-in-Some-clause-value
put_row_in-requires-in-Some-clause-value g c =
    set_texts (ap change_of c.in-Set.is) c.requires.words c.in-Some.is c.in_ok-get_row-in-Set.ensures.can
    (c.in_ok-row-in-Some.ensures ∙ ap (λ v. updated v c.as_slice.result.now) c.as_slice-in-Some.ensures
    ∙ ap (updated c.in-Set.columns) c.as_slice.ensures.value)

pub returns-in-Set-clause-changed : goal.returns-in-Set-clause-changed
returns-in-Set-clause-changed g c m is =
    let there = c.in_ok-get_row-in-Set.ensures.found m (seen (g.K.Keeper.kept c.args.keeper.now) m is)
    ∙ ap (option_map list_bytes) c.in-Some.is in
    let made = c.in_ok-row-in-Some.ensures ∙ ap (λ v. updated v c.as_slice.result.now) c.as_slice-in-Some.ensures
    ∙ ap (updated c.in-Set.columns) c.as_slice.ensures.value in
    pending_ok (IsChanged c.args.table (change_of c.args.change) m)
    (put_at 3 (row_key (c.args.table, c.in-Set.key)) (list_bytes c.in_ok-row-in-Some.row))
    (g.K.Keeper.kept c.put_row_in-in-Some.new.keeper) c.put_row_in-in-Some.result
    c.put_row_in-in-Some.ensures.put (c.in_ok-get_row-in-Set.ensures.same ∙ is)
    (set_changed m c.in-Some.row (ap change_of c.in-Set.is) there made)

pub returns-in-Set-clause-applies : goal.returns-in-Set-clause-applies
returns-in-Set-clause-applies g c tables p =
    let at : List ℕ × List ℕ = (c.args.table, c.in-Set.key) in
    let one = set_key (ap change_of c.in-Set.is) c.requires.table c.requires.words in
    let there = sym c.in-Some.is ∙ c.in_ok-get_row-in-Set.ensures.gives p.store _ (sees p)
    (p.has.spelled at one) (p.has.lookups at one) in
    let made = c.in_ok-row-in-Some.ensures ∙ ap (λ v. updated v c.as_slice.result.now) c.as_slice-in-Some.ensures
    ∙ ap (updated c.in-Set.columns) c.as_slice.ensures.value in
    becomes (HoldsRows (changed_in c.args.table (change_of c.args.change) tables))
    (put_at 3 (row_key (c.args.table, c.in-Set.key)) (list_bytes c.in_ok-row-in-Some.row))
    {old = g.K.Keeper.kept c.get_row.new.keeper} _
    c.put_row_in-in-Some.result c.put_row_in-in-Some.ensures.put c.put_row_in-in-Some.ensures.only
    (pending_same p c.in_ok-get_row-in-Set.ensures.same)
    (λ m held. set_holds m (ap change_of c.in-Set.is) there made
    (record { text = c.requires.table; can = c.requires.words; held = held }))

pub returns-clause-changed : goal.returns-clause-changed
returns-clause-changed g c m is =
    pending_ok (IsChanged c.args.table (change_of c.args.change) m)
    (del_at 3 (row_key (c.args.table, c.in-Remove.key))) (g.K.Keeper.kept c.del_row.new.keeper) c.del_row.result
    c.del_row.ensures.put is (remove_changed (ap change_of c.in-Remove.is))

pub returns-clause-applies : goal.returns-clause-applies
returns-clause-applies g c tables p =
    becomes (HoldsRows (changed_in c.args.table (change_of c.args.change) tables))
    (del_at 3 (row_key (c.args.table, c.in-Remove.key))) _
    c.del_row.result c.del_row.ensures.put c.del_row.ensures.only p
    (λ m held. remove_holds m (ap change_of c.in-Remove.is)
    (record { text = c.requires.table; can = c.requires.words; held = held }))

pub returns-in_err-get_row-in-Set-clause-puts : goal.returns-in_err-get_row-in-Set-clause-puts
returns-in_err-get_row-in-Set-clause-puts g c = puts_within 0 1 c.in_err-get_row-in-Set.ensures.puts (omega arith)

pub returns-in-None-clause-puts : goal.returns-in-None-clause-puts
returns-in-None-clause-puts g c = puts_within 0 1 c.in_ok-get_row-in-Set.ensures.puts (omega arith)

pub returns-in_err-row-in-Some-clause-puts : goal.returns-in_err-row-in-Some-clause-puts
returns-in_err-row-in-Some-clause-puts g c = puts_within 0 1 c.in_ok-get_row-in-Set.ensures.puts (omega arith)

pub returns-in-Set-clause-puts : goal.returns-in-Set-clause-puts
returns-in-Set-clause-puts g c =
    puts_on 0 1 1 c.in_ok-get_row-in-Set.ensures.puts c.put_row_in-in-Some.ensures.puts (omega arith)

pub returns-clause-puts : goal.returns-clause-puts
returns-clause-puts g c = puts_within 0 1 c.del_row.ensures.puts (omega arith)
