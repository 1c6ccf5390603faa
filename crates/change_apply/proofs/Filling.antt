-- Several tables that are read, and whose rows are replaced from the last one on.
use Rattle.std.proofs.Common.{◌≡◌, ◌∙◌, ℕ, List, [], ◌∷◌, ◌++◌, Some, refl, sym, ap, subst}
use Rattle.std.proofs.Common.{append_assoc}
use Rattle.std.specs.Prelude.{unwrap_or}
use Rattle.slon_base.specs.Codec.{AllAre}
use Rattle.slon_base.specs.Keeper.{Store, Kept, sight}
use Rattle.store_rows.specs.Space.{IsPending}
use Rattle.store_rows.specs.Steps.{IsOutside}
use Rattle.store_rows.specs.declared.stop.Stop.{Stop}
use Rattle.store_rows.proofs.Spaces.{pending_as}
use Rattle.slon_model.specs.Names.{Named}
use Rattle.slon_model.specs.Rows.{Row, Rows}
use Rattle.change_apply.specs.Applied.{HoldsRows}
use Rattle.change_apply.specs.Copied.{AreListed, AreRowsOf, Listed, held_in, with_table, with_tables}

-- ---- lists

pub all_last : {X : Type 0} (P : X → Type 0) (front : List X) (x : X) → AllAre P (front ++ x ∷ []) →
    AllAre P front × P x
all_last P [] x all = (tt, all.0)
all_last P (y ∷ ys) x all = let more = all_last P ys x all.1 in ((all.0, more.0), more.1)

pub all_more : {X : Type 0} (P : X → Type 0) (front : List X) (x : X) → AllAre P front → P x →
    AllAre P (front ++ x ∷ [])
all_more P [] x all is = (is, tt)
all_more P (y ∷ ys) x all is = (all.0, all_more P ys x all.1 is)

append_none : {X : Type 0} (xs : List X) → (xs ++ []) ≡ xs
append_none [] = refl
append_none (x ∷ xs) = ap (λ l. x ∷ l) (append_none xs)

-- The last of the tables, and those before it.
record LastOf (rs : Named Rows) (front : Listed) (t : List ℕ × List (List ℕ × Row)) : Type 0 where
  pub before : Named Rows
  pub one : List ℕ × Rows
  pub is : rs ≡ before ++ one ∷ []
  pub listed : AreListed before front
  pub named : one.0 ≡ t.0
  pub rows : AreRowsOf one.1 t.1

last_listed : (rs : Named Rows) (front : Listed) (t : List ℕ × List (List ℕ × Row)) →
    AreListed rs (front ++ t ∷ []) → LastOf rs front t
last_listed [] [] t are = absurd are
last_listed [] (u ∷ front) t are = absurd are
last_listed (r ∷ []) [] t are =
    record { before = []; one = r; is = refl; listed = tt; named = are.0; rows = are.1 }
last_listed (r ∷ (s ∷ rs)) [] t are = absurd are.2
last_listed (r ∷ rs) (u ∷ front) t are =
    let more = last_listed rs front t are.2 in
    record {
      before = r ∷ more.before;
      one = more.one;
      is = ap (λ l. r ∷ l) more.is;
      listed = (are.0, are.1, more.listed);
      named = more.named;
      rows = more.rows;
    }

-- ---- what is read

-- a call that changes nothing leaves what is seen
pub seen_on : {m : Store} (old mid : Kept) → mid.pending ≡ old.pending → mid.held ≡ old.held → sight old ≡ Some m →
    sight mid ≡ Some m
seen_on old mid pending held seen =
    ap (λ o. unwrap_or o mid.held) pending ∙ ap (λ h. unwrap_or old.pending h) held ∙ seen

-- these tables were read, and with what is read of those to come they are all
abbrev pub AreRead : (List ℕ → Rows) → List (List ℕ) → List (List ℕ) → Listed → Type 0
AreRead held names more all =
    (rest : Listed) → AreListed (held_in held more) rest → AreListed (held_in held names) (all ++ rest)

-- one more table is read, in front of those to come
pub read_on : (held : List ℕ → Rows) (names : List (List ℕ)) (name : List ℕ) (more : List (List ℕ)) (all : Listed)
    (rows : List (List ℕ × Row)) → AreRowsOf (held name) rows → AreRead held names (name ∷ more) all →
    AreRead held names more (all ++ (name, rows) ∷ [])
read_on held names name more all rows are says rest listed =
    subst (AreListed (held_in held names)) (sym (append_assoc all ((name, rows) ∷ []) rest))
    (says ((name, rows) ∷ rest) (refl, are, listed))

pub read_all : (held : List ℕ → Rows) (names : List (List ℕ)) (all : Listed) → AreRead held names [] all →
    AreListed (held_in held names) all
read_all held names all says = subst (AreListed (held_in held names)) (append_none all) (says [] tt)

-- ---- what is put

-- All but these tables have their rows.
pub record IsFilled (given : Named Rows) (left : Listed) (held : List ℕ → Rows) (m : Store) : Type 0 where
  pub more : Named Rows
  pub done : Named Rows
  pub parts : given ≡ more ++ done
  pub listed : AreListed more left
  pub holds : HoldsRows (with_tables done held) m

pub none_filled : {given : Named Rows} {left : Listed} {held : List ℕ → Rows} {k : Kept} → AreListed given left →
    IsPending (HoldsRows held) k → IsPending (IsFilled given left held) k
none_filled {given} {left} {held} are p =
    pending_as (λ m holds. record {
      more = given;
      done = [];
      parts = sym (append_none given);
      listed = are;
      holds = holds;
    }) p

-- the last of them gets its rows
pub one_filled : {given : Named Rows} {front : Listed} {held : List ℕ → Rows} {old new : Kept}
    (t : List ℕ × List (List ℕ × Row)) → IsPending (IsFilled given (front ++ t ∷ []) held) old →
    ((now : List ℕ → Rows) (rows : Rows) → AreRowsOf rows t.1 → IsPending (HoldsRows now) old →
    IsPending (HoldsRows (with_table t.0 rows now)) new) →
    IsPending (IsFilled given front held) new
one_filled {given} {front} {held} t p on =
    let last = last_listed p.has.more front t p.has.listed in
    pending_as (λ m holds. record {
      more = last.before;
      done = last.one ∷ p.has.done;
      parts = p.has.parts ∙ ap (λ l. l ++ p.has.done) last.is
          ∙ append_assoc last.before (last.one ∷ []) p.has.done;
      listed = last.listed;
      holds = subst (λ name. HoldsRows (with_table name last.one.1 (with_tables p.has.done held)) m) (sym last.named)
          holds;
    })
    (on (with_tables p.has.done held) last.one.1 last.rows
    (record { store = p.store; is = p.is; has = p.has.holds }))

-- the store failed at the last of them, or there was no memory
pub stops_filling : {given : Named Rows} {held : List ℕ → Rows} {old : Kept} (front : Listed) (stop : Stop)
    (t : List ℕ × List (List ℕ × Row)) → IsPending (IsFilled given (front ++ t ∷ []) held) old →
    ((now : List ℕ → Rows) (rows : Rows) → AreRowsOf rows t.1 → IsPending (HoldsRows now) old → IsOutside stop) →
    IsOutside stop
stops_filling {held = held} front stop t p on =
    let last = last_listed p.has.more front t p.has.listed in
    on (with_tables p.has.done held) last.one.1 last.rows
    (record { store = p.store; is = p.is; has = p.has.holds })

pub all_filled : {given : Named Rows} {held : List ℕ → Rows} {k : Kept} → IsPending (IsFilled given [] held) k →
    IsPending (HoldsRows (with_tables given held)) k
all_filled {given} {held} p =
    pending_as (λ m filled. subst (λ rs. HoldsRows (with_tables rs held) m)
    (sym (filled.parts ∙ none_left filled.more filled.done filled.listed)) filled.holds) p
  where
    none_left : (more done : Named Rows) → AreListed more [] → (more ++ done) ≡ done
    none_left [] done are = refl
    none_left (r ∷ rs) done are = absurd are
