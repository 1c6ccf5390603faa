-- Rows of a log: the words of their actions, and what is left of them to be applied.
use Rattle.std.proofs.Common.{◌≡◌, ℕ, ◌+◌, List, [], ◌∷◌, ◌++◌, Option, Some, None, false, cond}
use Rattle.std.proofs.Common.{Result, Ok, Err, refl, sym, ap, subst, ◌∙◌, arith, IfOk}
use Rattle.std.specs.Prelude.{◌==◌}
use Rattle.slon_base.specs.Codec.{IsText, AreTexts, AllAre}
use Rattle.slon_base.specs.Keeper.{Store, Kept}
use Rattle.store_rows.specs.Space.{IsPending}
use Rattle.store_rows.specs.Steps.{IsOutside}
use Rattle.store_rows.proofs.Spaces.{pending_as}
use Rattle.store_rows.specs.declared.stop.Stop.{Stop}
use Rattle.slon_model.specs.Rows.{Row, Rows, Change as RowsChange, Put as RowsPut, Set as RowsSet}
use Rattle.slon_model.specs.Rows.{Remove as RowsRemove, change_key}
use Rattle.slon_laws.specs.Keys.{change_at}
use Rattle.change_capture.specs.declared.action.Action.{Action}
use Rattle.change_capture.specs.declared.action.Change.{Change}
use Rattle.change_capture.specs.declared.action.Change.TheVariants.{Put, Set, Remove}
use Rattle.change_capture.specs.declared.log_row.LogRow.{LogRow}
use Rattle.change_capture.specs.Actions.{change_of}
use Rattle.change_capture.specs.Capture.{numbered, paired, columns_of}
use Rattle.change_capture.specs.Reading.{IsLogOf}
use Rattle.change_capture.specs.Spellings.{CanLogRow}
use Rattle.change_capture.proofs.Pairs.{length-paired, length-numbered}
use Rattle.change_apply.specs.Applied.{row_key, HoldsRows, OthersStay, CanApply, with_row, changed_store, IsChanged}
use Rattle.change_apply.specs.Applied.{acted, acted_all, AreLogOf, IsActed, AreActed}

-- ---- words

paired_texts : (columns : List (ℕ × List ℕ)) → AllAre IsText (paired columns) → AllAre (λ c. IsText c.1) columns
paired_texts [] texts = tt
paired_texts (c ∷ cs) texts = (texts.1.0, paired_texts cs texts.1.1)

numbered_texts : (n : ℕ) (values : List (List ℕ)) → AllAre (λ c. IsText c.1) (numbered n values) →
    AllAre IsText values
numbered_texts n [] texts = tt
numbered_texts n (value ∷ values) texts = (texts.0, numbered_texts (n + 1) values texts.1)

front_texts : (front back : List (ℕ × List ℕ)) → AllAre (λ c. IsText c.1) (front ++ back) →
    AllAre (λ c. IsText c.1) front × AllAre (λ c. IsText c.1) back
front_texts [] back texts = (tt, texts)
front_texts (c ∷ front) back texts =
    let rest = front_texts front back texts.1 in
    ((texts.0, rest.0), rest.1)

change_texts : (change : Change) → AreTexts (paired (columns_of change)) → CanApply (change_of change)
change_texts (Put key values) texts =
    let each = paired_texts (numbered 1 (key ∷ values)) texts.each in (
      each.0,
      record {
        few = omega (arith, texts.few, length-paired (numbered 1 (key ∷ values)), length-numbered 1 (key ∷ values));
        each = numbered_texts 2 values each.1;
      },
    )
change_texts (Set key columns) texts =
    let each = front_texts columns ((1, key) ∷ []) (paired_texts (columns ++ (1, key) ∷ []) texts.each) in
    (each.1.0, each.0)
change_texts (Remove key) texts = texts.each.1.0

-- the words of an action whose row can be spelled are texts
pub logged_words : {n : ℕ} {row : LogRow} (action : Action) → IsLogOf n row action → CanLogRow row →
    CanApply (change_of action.change)
logged_words {n} {row} action is can =
    change_texts action.change (subst AreTexts (ap (λ r. LogRow.arguments r) is.row) can.arguments)

-- ---- other spaces

other_row : (key : List ℕ) (now : Option Row) (m : Store) (space : ℕ) → (space == 3) ≡ false →
    with_row key now m space ≡ m space
other_row key None m space other = ap (λ b. cond b (with_row key None m 3) (m space)) other
other_row key (Some row) m space other = ap (λ b. cond b (with_row key (Some row) m 3) (m space)) other

other_stays : (key : List ℕ) (change : RowsChange) (row : Option Row) (m : Store) →
    OthersStay m (changed_store key change row m)
other_stays key (RowsPut k values) row m space other = other_row key (Some values) m space other
other_stays key (RowsSet k columns) None m space other = refl
other_stays key (RowsSet k columns) (Some row) m space other =
    other_row key (change_at (RowsSet k columns) (Some row)) m space other
other_stays key (RowsRemove k) row m space other = other_row key None m space other

pub others_stay : {table : List ℕ} {change : RowsChange} {m : Store} (n : Store) → IsChanged table change m n →
    OthersStay m n
others_stay {table} {change} {m} n is =
    subst (OthersStay m) (sym is.is) (other_stays (row_key (table, change_key change)) change is.row m)

-- all rows change the rows of tables alone
pub all_others_stay : (rows : List (ℕ × LogRow)) (m n : Store) → AreActed rows m n → OthersStay m n
all_others_stay [] m n acts space other = ap (λ k. k space) acts
all_others_stay (row ∷ rows) m n (mid, one, rest) space other =
    all_others_stay rows mid n rest space other ∙ others_stay mid one.changed space other

-- the row is that of the action that was done
pub acted_as : (m : Store) (k : Kept) {row : ℕ × LogRow} (action : Action) (result : Result (Unit {0}) Stop) →
    IsLogOf row.0 row.1 action →
    IfOk result (λ u. IsPending (IsChanged action.table (change_of action.change) m) k) →
    IfOk result (λ u. IsPending (IsActed row m) k)
acted_as m k action (Ok u) is p = pending_as (λ n changed. record { action = action; is = is; changed = changed }) p
acted_as m k action (Err stop) is p = tt

-- What the rows that are left make of the store, all of them make of the first one.
abbrev pub Goes : List (ℕ × LogRow) → List (ℕ × LogRow) → Store → Store → Type 0
Goes more rows m n = (end : Store) → AreActed more n end → AreActed rows m end

pub goes_on : {row : ℕ × LogRow} (more rows : List (ℕ × LogRow)) (m : Store) {old new : Kept} →
    IsPending (Goes (row ∷ more) rows m) old →
    ((n : Store) → old.pending ≡ Some (Some n) → IsPending (IsActed row n) new) → IsPending (Goes more rows m) new
goes_on more rows m p on = pending_as (λ mid one end rest. p.has end (mid, one, rest)) (on p.store p.is)

-- ---- what is left

-- The store holds rows of tables, of which these rows of a log make what all make of the first ones.
pub record IsLeft (more : List (ℕ × LogRow)) (actions : List Action) (tables : List ℕ → Rows) (m : Store) : Type 0 where
  pub left : List Action
  pub now : List ℕ → Rows
  pub are : AreLogOf more left
  pub held : HoldsRows now m
  pub ends : acted_all left now ≡ acted_all actions tables

-- The first of the rows that are left is that of an action, and the others are those of the rest.
pub record IsNext (row : ℕ × LogRow) (more : List (ℕ × LogRow)) (left : List Action) : Type 0 where
  pub action : Action
  pub rest : List Action
  pub splits : left ≡ action ∷ rest
  pub is : IsLogOf row.0 row.1 action
  pub are : AreLogOf more rest

next_of : (row : ℕ × LogRow) (more : List (ℕ × LogRow)) (left : List Action) → AreLogOf (row ∷ more) left →
    IsNext row more left
next_of row more (a ∷ rest) are = record { action = a; rest = rest; splits = refl; is = are.0; are = are.1 }
next_of row more [] are = absurd are

-- all rows are left
pub all_left : {more : List (ℕ × LogRow)} {actions : List Action} {tables : List ℕ → Rows} {k : Kept} →
    AreLogOf more actions → IsPending (HoldsRows tables) k → IsPending (IsLeft more actions tables) k
all_left {more} {actions} {tables} are p =
    pending_as (λ m held. record { left = actions; now = tables; are = are; held = held; ends = refl }) p

-- one of them is applied
pub one_less : {row : ℕ × LogRow} {more : List (ℕ × LogRow)} {actions : List Action} {tables : List ℕ → Rows}
    {old new : Kept} → IsPending (IsLeft (row ∷ more) actions tables) old →
    ((now : List ℕ → Rows) (action : Action) → IsLogOf row.0 row.1 action → IsPending (HoldsRows now) old →
    IsPending (HoldsRows (acted action now)) new) →
    IsPending (IsLeft more actions tables) new
one_less {row} {more} {actions} {tables} p applies =
    let next = next_of row more p.has.left p.has.are in
    let q = applies p.has.now next.action next.is (record { store = p.store; is = p.is; has = p.has.held }) in
    pending_as (λ m held. record {
      left = next.rest;
      now = acted next.action p.has.now;
      are = next.are;
      held = held;
      ends = sym (ap (λ l. acted_all l p.has.now) next.splits) ∙ p.has.ends;
    }) q

-- none is left
pub none_left : {actions : List Action} {tables : List ℕ → Rows} {k : Kept} → IsPending (IsLeft [] actions tables) k →
    IsPending (HoldsRows (acted_all actions tables)) k
none_left {actions} {tables} p = pending_as (λ m left. by m left.left left.now left.are left.held left.ends) p
  where
    by : (m : Store) (left : List Action) (now : List ℕ → Rows) → AreLogOf [] left → HoldsRows now m →
        acted_all left now ≡ acted_all actions tables → HoldsRows (acted_all actions tables) m
    by m [] now are held ends = subst (λ t. HoldsRows t m) ends held
    by m (a ∷ rest) now are held ends = absurd are

-- the row in front of those that are left stopped it
pub stops_at : {row : ℕ × LogRow} {more : List (ℕ × LogRow)} {actions : List Action} {tables : List ℕ → Rows} {k : Kept}
    (stop : Stop) → IsPending (IsLeft (row ∷ more) actions tables) k →
    ((now : List ℕ → Rows) (action : Action) → IsLogOf row.0 row.1 action → IsPending (HoldsRows now) k →
    IsOutside stop) → IsOutside stop
stops_at {row} {more} stop p stops =
    let next = next_of row more p.has.left p.has.are in
    stops p.has.now next.action next.is (record { store = p.store; is = p.is; has = p.has.held })

-- ---- actions that are left

-- The store holds rows of tables, of which these actions make what all make of the first ones.
pub record IsToDo (more all : List Action) (tables : List ℕ → Rows) (m : Store) : Type 0 where
  pub now : List ℕ → Rows
  pub held : HoldsRows now m
  pub ends : acted_all more now ≡ acted_all all tables

pub all_to_do : {all : List Action} {tables : List ℕ → Rows} {k : Kept} → IsPending (HoldsRows tables) k →
    IsPending (IsToDo all all tables) k
all_to_do {all} {tables} p = pending_as (λ m held. record { now = tables; held = held; ends = refl }) p

pub one_done : {a : Action} {more all : List Action} {tables : List ℕ → Rows} {old new : Kept} →
    IsPending (IsToDo (a ∷ more) all tables) old →
    ((now : List ℕ → Rows) → IsPending (HoldsRows now) old → IsPending (HoldsRows (acted a now)) new) →
    IsPending (IsToDo more all tables) new
one_done {a} p on =
    pending_as (λ m held. record { now = acted a p.has.now; held = held; ends = p.has.ends })
    (on p.has.now (record { store = p.store; is = p.is; has = p.has.held }))

pub none_to_do : {all : List Action} {tables : List ℕ → Rows} {k : Kept} → IsPending (IsToDo [] all tables) k →
    IsPending (HoldsRows (acted_all all tables)) k
none_to_do p = pending_as (λ m left. subst (λ t. HoldsRows t m) left.ends left.held) p
