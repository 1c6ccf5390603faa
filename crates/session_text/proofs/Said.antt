-- The commands of words that were read.
use Rattle.std.proofs.Common.{◌≡◌, ℕ, ◌-◌, ◌<◌, ◌≤◌, cond, Bool, true, false, List, [], ◌∷◌, map, length, get_or, take}
use Rattle.std.proofs.Common.{drop, Option, Some, None, refl, sym, ap, ◌∙◌, arith}
use Rattle.std.proofs.lemmas.List.{take_rest}
use Rattle.std.specs.List.{list_all}
use Rattle.std.proofs.lemmas.Str.{IsUtf8-from_is_utf8, is_utf8-from_IsUtf8}
use Rattle.std.specs.Str.{is_utf8, IsUtf8}
use Rattle.std.proofs.Common.{Result, Ok, Err, IsErrAnd, MatchResult, is_ok}
use Rattle.std.proofs.lemmas.Result.{err_from_is_err_and}
use denote.Ref.{Bor}
use Rattle.slon_model.specs.declared.command.Command.{Command}
use Rattle.slon_model.specs.declared.command.Command.TheVariants.{Begin, Insert, Update, Delete, Commit, Abort, Rows}
use Rattle.slon_model.specs.Forms.{is_name, is_table_name, is_value}
use Rattle.slon_model.specs.Lines.{only_if, begin_of, insert_of, update_with, update_of, delete_of, commit_of, abort_of}
use Rattle.slon_model.specs.Lines.{rows_of}
use Rattle.slon_model.specs.Lines.{columns_behind}
use Rattle.session_text.specs.declared.words.Misread.{Misread}
use Rattle.session_text.specs.declared.words.Misread.TheVariants.{BadForm, OutOfMemory}
use Rattle.slon_lemmas.proofs.Tests.{passed}
use Rattle.session_text.specs.Commands.{Gives, name_in, table_name_in, value_in, values_in}

-- what two words say, each of its form
abbrev SaysTwo : (List ℕ → Bool) → (List ℕ → Bool) → (List (List ℕ) → Option Command) → (List ℕ → List ℕ → Command) →
    Type 0
SaysTwo p q read made =
    (words : List (Bor (List ℕ))) (d : Bor (List ℕ)) (x y : List ℕ) → 2 ≤ length words → length words < 3 →
    cond (p (get_or words 0 d).now) (Some (get_or words 0 d).now) None ≡ Some x →
    cond (q (get_or words 1 d).now) (Some (get_or words 1 d).now) None ≡ Some y →
    read (map (λ word. word.now) words) ≡ Some (made x y)

two_are : (p q : List ℕ → Bool) (read : List (List ℕ) → Option Command) (made : List ℕ → List ℕ → Command) →
    ((a b : List ℕ) → p a ≡ true → q b ≡ true → read (a ∷ b ∷ []) ≡ Some (made a b)) → SaysTwo p q read made
two_are p q read made reads (a ∷ b ∷ []) d x y low high e f =
    let first = passed (p a.now) a.now x e in
    let second = passed (q b.now) b.now y f in
    reads a.now b.now first.0 second.0 ∙ ap (λ n. Some (made n b.now)) first.1 ∙ ap (λ n. Some (made x n)) second.1
two_are p q read made reads others d x y low high e f = absurd (omega arith)

-- what was not read for this reason is handed on
pub handed_none : {T : Type 0} (read : Option T) (result : Result T Misread) (stop : Misread) →
    (y : Misread) × (result ≡ Err y) × (y ≡ stop) → Gives read (Err stop) → Gives read result
handed_none read result stop is gives = rw (is.1, is.2) gives

-- nothing can be read where a part cannot
pub none_behind : {T U : Type 0} (read : Option T) (part : Option U) (stop : Misread) →
    (part ≡ None → read ≡ None) → Gives part (Err stop) → Gives read (Err stop)
none_behind read part BadForm fails gives = fails gives
none_behind read part OutOfMemory fails gives = tt

-- what was not read for a reason is not, where a part was not read for it
pub handed_behind : {T U : Type 0} (read : Option T) (part : Option U) (result : Result T Misread) (stop : Misread) →
    IsErrAnd result (λ y. y ≡ stop) → Gives part (Err stop) → (part ≡ None → read ≡ None) → Gives read result
handed_behind read part result stop is gives fails =
    handed_none read result stop (err_from_is_err_and result is) (none_behind read part stop fails gives)

pub begin_is : SaysTwo is_name is_name begin_of Begin
begin_is = two_are is_name is_name begin_of Begin (λ a b e f. rw (e, f) refl)

pub commit_is : SaysTwo is_name is_name commit_of Commit
commit_is = two_are is_name is_name commit_of Commit (λ a b e f. rw (e, f) refl)

pub abort_is : SaysTwo is_name is_name abort_of Abort
abort_is = two_are is_name is_name abort_of Abort (λ a b e f. rw (e, f) refl)

pub rows_is : SaysTwo is_name is_table_name rows_of Rows
rows_is = two_are is_name is_table_name rows_of Rows (λ a b e f. rw (e, f) refl)

-- The names at the head of a write, that were read.
pub record Heads (words : List (Bor (List ℕ))) (d : Bor (List ℕ)) : Type 0 where
  pub database : List ℕ
  pub transaction : List ℕ
  pub table : List ℕ
  pub is_database : name_in (get_or words 0 d).now ≡ Some database
  pub is_transaction : name_in (get_or words 1 d).now ≡ Some transaction
  pub is_table : table_name_in (get_or words 2 d).now ≡ Some table

abbrev pub heads : (words : List (Bor (List ℕ))) (d : Bor (List ℕ)) (x y z : List ℕ) →
    name_in (get_or words 0 d).now ≡ Some x → name_in (get_or words 1 d).now ≡ Some y →
    table_name_in (get_or words 2 d).now ≡ Some z → Heads words d
heads words d x y z e f g =
    record { database = x; transaction = y; table = z; is_database = e; is_transaction = f; is_table = g }

pub insert_is : (words : List (Bor (List ℕ))) (d : Bor (List ℕ)) (heads : Heads words d) (values : List (List ℕ)) →
    4 ≤ length words → values_in (map (λ word. word.now) (take (length words - 3) (drop 3 words))) ≡ Some values →
    insert_of (map (λ word. word.now) words) ≡ Some (Insert heads.database heads.transaction heads.table values)
insert_is (a ∷ b ∷ c ∷ key ∷ more) d heads values low h =
    let p = passed (is_name a.now) a.now heads.database heads.is_database in
    let q = passed (is_name b.now) b.now heads.transaction heads.is_transaction in
    let r = passed (is_table_name c.now) c.now heads.table heads.is_table in
    let s =
    passed (list_all is_value (map (λ word. word.now) (key ∷ more))) (map (λ word. word.now) (key ∷ more)) values
    (ap (λ l. values_in (map (λ word. word.now) l)) (sym (take_rest (a ∷ b ∷ c ∷ key ∷ more) 3)) ∙ h) in
    rw (p.0, q.0, r.0, s.0, p.1, q.1, r.1, s.1) refl
insert_is others d heads values low h = absurd (omega arith)

pub update_is : (words : List (Bor (List ℕ))) (d : Bor (List ℕ)) (heads : Heads words d) (key : List ℕ)
    (columns : List (ℕ × List ℕ)) → 5 ≤ length words → value_in (get_or words 3 d).now ≡ Some key →
    columns_behind 0 (map (λ word. word.now) (take (length words - 4) (drop 4 words))) ≡ Some columns →
    update_of (map (λ word. word.now) words) ≡ Some (Update heads.database heads.transaction heads.table key columns)
update_is (a ∷ b ∷ c ∷ value ∷ column ∷ more) d heads key columns low h k =
    let p = passed (is_name a.now) a.now heads.database heads.is_database in
    let q = passed (is_name b.now) b.now heads.transaction heads.is_transaction in
    let r = passed (is_table_name c.now) c.now heads.table heads.is_table in
    let s = passed (is_value value.now) value.now key h in
    let t : columns_behind 0 (map (λ word. word.now) (column ∷ more)) ≡ Some columns =
    ap (λ l. columns_behind 0 (map (λ word. word.now) l)) (sym (take_rest (a ∷ b ∷ c ∷ value ∷ column ∷ more) 4))
    ∙ k in
    rw (p.0, q.0, r.0, s.0, t, p.1, q.1, r.1, s.1) refl
update_is others d heads key columns low h k = absurd (omega arith)

pub update_short : (words : List (Bor (List ℕ))) → length words < 5 → update_of (map (λ word. word.now) words) ≡ None
update_short (a ∷ b ∷ c ∷ value ∷ column ∷ more) low = absurd (omega arith)
update_short others low = refl

-- nothing is read where what stands behind a test is not
none_in : {X : Type 0} (b : Bool) (x : Option X) → x ≡ None → cond b x None ≡ None
none_in true x e = e
none_in false x e = refl

-- a word that is not of its form
none_of : {X Y : Type 0} (b : Bool) (x : X) (y : Option Y) → cond b (Some x) None ≡ None → cond b y None ≡ None
none_of true x y e = cc
none_of false x y e = refl

-- a write whose table's name is of no form
pub insert_no_table : (words : List (Bor (List ℕ))) (d : Bor (List ℕ)) → 4 ≤ length words →
    table_name_in (get_or words 2 d).now ≡ None → insert_of (map (λ word. word.now) words) ≡ None
insert_no_table (a ∷ b ∷ c ∷ key ∷ more) d low e =
    none_in (is_name a.now) _ (none_in (is_name b.now) _ (none_of (is_table_name c.now) c.now _ e))
insert_no_table others d low e = refl

pub update_no_table : (words : List (Bor (List ℕ))) (d : Bor (List ℕ)) → 5 ≤ length words →
    table_name_in (get_or words 2 d).now ≡ None → update_of (map (λ word. word.now) words) ≡ None
update_no_table (a ∷ b ∷ c ∷ value ∷ column ∷ more) d low e =
    none_in (is_name a.now) _ (none_in (is_name b.now) _ (none_of (is_table_name c.now) c.now _ e))
update_no_table others d low e = refl

-- words that are not of their form give no command
none_only : {X : Type 0} (b : Bool) (x : X) (c : Command) → cond b (Some x) None ≡ None → only_if b c ≡ None
none_only true x c e = cc
none_only false x c e = refl

-- an insert with a value of no form
pub insert_no_values : (words : List (Bor (List ℕ))) → 4 ≤ length words →
    values_in (map (λ word. word.now) (take (length words - 3) (drop 3 words))) ≡ None →
    insert_of (map (λ word. word.now) words) ≡ None
insert_no_values (a ∷ b ∷ c ∷ key ∷ more) low e =
    let none : values_in (map (λ word. word.now) (key ∷ more)) ≡ None =
    ap (λ l. values_in (map (λ word. word.now) l)) (sym (take_rest (a ∷ b ∷ c ∷ key ∷ more) 3)) ∙ e in
    none_in (is_name a.now) _ (none_in (is_name b.now) _ (none_in (is_table_name c.now) _
    (none_only (list_all is_value (map (λ word. word.now) (key ∷ more))) (map (λ word. word.now) (key ∷ more)) _ none)))
insert_no_values others low e = refl

pub delete_no_table : (words : List (Bor (List ℕ))) (d : Bor (List ℕ)) → 4 ≤ length words →
    table_name_in (get_or words 2 d).now ≡ None → delete_of (map (λ word. word.now) words) ≡ None
delete_no_table (a ∷ b ∷ c ∷ value ∷ []) d low e =
    none_in (is_name a.now) _ (none_in (is_name b.now) _ (none_of (is_table_name c.now) c.now _ e))
delete_no_table others d low e = refl

pub update_no_key : (words : List (Bor (List ℕ))) (d : Bor (List ℕ)) → 5 ≤ length words →
    value_in (get_or words 3 d).now ≡ None → update_of (map (λ word. word.now) words) ≡ None
update_no_key (a ∷ b ∷ c ∷ value ∷ column ∷ more) d low e =
    none_in (is_name a.now) _
    (none_in (is_name b.now) _ (none_in (is_table_name c.now) _ (none_of (is_value value.now) value.now _ e)))
update_no_key others d low e = refl

pub update_no_columns : (words : List (Bor (List ℕ))) → 5 ≤ length words →
    columns_behind 0 (map (λ word. word.now) (take (length words - 4) (drop 4 words))) ≡ None →
    update_of (map (λ word. word.now) words) ≡ None
update_no_columns (a ∷ b ∷ c ∷ value ∷ column ∷ more) low e =
    let none : columns_behind 0 (map (λ word. word.now) (column ∷ more)) ≡ None =
    ap (λ l. columns_behind 0 (map (λ word. word.now) l)) (sym (take_rest (a ∷ b ∷ c ∷ value ∷ column ∷ more) 4))
    ∙ e in
    none_in (is_name a.now) _
    (none_in (is_name b.now) _
    (none_in (is_table_name c.now) _
    (none_in (is_value value.now) _ (ap (update_with a.now b.now c.now value.now) none))))
update_no_columns others low e = refl

pub delete_is : (words : List (Bor (List ℕ))) (d : Bor (List ℕ)) (heads : Heads words d) (key : List ℕ) →
    4 ≤ length words → length words < 5 → value_in (get_or words 3 d).now ≡ Some key →
    delete_of (map (λ word. word.now) words) ≡ Some (Delete heads.database heads.transaction heads.table key)
delete_is (a ∷ b ∷ c ∷ value ∷ []) d heads key low high h =
    let p = passed (is_name a.now) a.now heads.database heads.is_database in
    let q = passed (is_name b.now) b.now heads.transaction heads.is_transaction in
    let r = passed (is_table_name c.now) c.now heads.table heads.is_table in
    let s = passed (is_value value.now) value.now key h in
    rw (p.0, q.0, r.0, s.0, p.1, q.1, r.1, s.1) refl
delete_is others d heads key low high h = absurd (omega arith)

utf8_by : (bytes : List ℕ) (b : Bool) → is_utf8 bytes ≡ b → ¬ (IsUtf8 bytes) → is_utf8 bytes ≡ false
utf8_by bytes true e h = absurd (h (IsUtf8-from_is_utf8 bytes e))
utf8_by bytes false e h = e

pub text_is : {X Y : Type 0} (r : Result X Y) (bytes : List ℕ) →
    MatchResult r (λ x. IsUtf8 bytes) (λ y. ¬ (IsUtf8 bytes)) → is_ok r ≡ is_utf8 bytes
text_is (Ok x) bytes h = sym (is_utf8-from_IsUtf8 bytes h)
text_is (Err y) bytes h = sym (utf8_by bytes _ refl h)
