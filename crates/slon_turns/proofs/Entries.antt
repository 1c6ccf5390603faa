-- The actions that a node takes of a set with a SYNC: the provider has them in its log.
use Rattle.std.proofs.Common.{◌≡◌, inl, inr, ℕ, zero, suc, Bool, true, false, cond, List, [], ◌∷◌, Option, Some, None}
use Rattle.std.proofs.Common.{Ok, fold, map, refl, sym, ap, subst, length}
use Rattle.std.specs.Prelude.{◌&&◌, ◌⊎◌, ◌-◌, nat_lt, not, slice_get}
use Rattle.std.specs.List.{AllByRecursion}
use Rattle.std.proofs.lemmas.Bool.{and_parts}
use Rattle.slon_model.specs.Deeds.{Logged}
use Rattle.slon_model.specs.Events.{Event}
use Rattle.slon_model.specs.Following.{SetSync, delta, is_new, is_on_one, numbered}
use Rattle.slon_model.specs.Logs.{logged}
use Rattle.slon_model.specs.Maps.{Map}
use Rattle.slon_model.specs.Sessions.{World, Seat}
use Rattle.slon_model.specs.Snapshots.{Snapshot, sees}
use Rattle.slon_model.specs.Working.{provided}
use Rattle.slon_laws.specs.Lists.{IsAmong}
use Rattle.slon_laws.proofs.Following.{delta_has}
use Rattle.slon_laws.proofs.Lists.{all_among, all_each, all_passed, among_all}
use Rattle.slon_laws.proofs.Results.{OnOk, any_ok, bind_ok, ok_is}
use Rattle.change_capture.specs.declared.log_row.LogRow.{LogRow}
use Rattle.node_change.specs.Done.{row_of}
use Rattle.remote_worker.specs.declared.loading.SetFetch.{SetFetch}
use Rattle.remote_worker.specs.Keeping.{Kept, taken_of}
use Rattle.remote_worker.specs.Loading.{HasFetch, HaveFetches, greater, last_logged, last_row}
use Rattle.slon_turns.specs.Applying.{nodes_at}
use Rattle.slon_turns.specs.Bounds.{IsTakenFrom}
use Rattle.slon_turns.specs.Following.{followed_each, followed_kept}

-- ---- the last row of several sets

abbrev Row : Type 0
Row = ℕ × LogRow

-- one of these rows has the number
abbrev HasRow : ℕ → List Row → Type 0
HasRow n rows = IsAmong n (map (λ (r : Row). r.0) rows)

abbrev HaveRow : ℕ → List SetFetch → Type 0
HaveRow n [] = ⊥
HaveRow n (f ∷ fs) = HasRow n f.sync.rows ⊎ HaveRow n fs

stands_among : (rows : List Row) (i : ℕ) (row : Row) → slice_get rows i ≡ Some row → HasRow row.0 rows
stands_among [] i row is = absurd cc
stands_among (r ∷ rows) zero row is = inl (let same : row ≡ r = cc in ap (λ (x : Row). x.0) same)
stands_among (r ∷ rows) (suc i) row is = inr (stands_among rows i row is)

-- the greater number is that of the row, or the one before
greater_is : (found : Option ℕ) (row : Option Row) (n : ℕ) → greater found row ≡ Some n →
    (found ≡ Some n) ⊎ ((r : Row) × (row ≡ Some r) × (n ≡ r.0))
greater_is found None n is = inl is
greater_is None (Some r) n is = inr (r, refl, let same : n ≡ r.0 = cc in same)
greater_is (Some other) (Some r) n is = by (nat_lt r.0 other) is
  where
    by : (b : Bool) → cond b (Some other) (Some r.0) ≡ Some n →
        (Some other ≡ Some n) ⊎ ((x : Row) × (Some r ≡ Some x) × (n ≡ x.0))
    by true is = inl is
    by false is = inr (r, refl, let same : n ≡ r.0 = cc in same)

fold_has : (fetches : List SetFetch) (found : Option ℕ) (n : ℕ) →
    fold (λ o f. greater o (last_row f.sync.rows)) found fetches ≡ Some n → (found ≡ Some n) ⊎ HaveRow n fetches
fold_has [] found n is = inl is
fold_has (f ∷ fs) found n is = by (fold_has fs (greater found (last_row f.sync.rows)) n is)
  where
    here : (found ≡ Some n) ⊎ ((r : Row) × (last_row f.sync.rows ≡ Some r) × (n ≡ r.0)) →
        (found ≡ Some n) ⊎ HaveRow n (f ∷ fs)
    here (inl before) = inl before
    here (inr (r, last, same)) =
        inr (inl (subst (λ k. HasRow k f.sync.rows) (sym same)
        (stands_among f.sync.rows (length f.sync.rows - 1) r last)))

    by : (greater found (last_row f.sync.rows) ≡ Some n) ⊎ HaveRow n fs → (found ≡ Some n) ⊎ HaveRow n (f ∷ fs)
    by (inl is) = here (greater_is found (last_row f.sync.rows) n is)
    by (inr later) = inr (inr later)

last_has : (fetches : List SetFetch) (n : ℕ) → last_logged fetches ≡ Some n → HaveRow n fetches
last_has fetches n is = elim (fold_has fetches None n is) as (λ x. HaveRow n fetches) [
  | inl never ↦ absurd cc
  | inr has ↦ has
]

-- ---- what is taken of a set

-- the snapshot sees what is read of a log up to it
delta_seen : (origin : ℕ) (tables : Map (List ℕ)) (old new : Snapshot) (logs : List Logged) →
    AllByRecursion (λ l. sees new l.action.xid ≡ true) (delta origin tables old new logs)
delta_seen origin tables old new logs =
    all_passed (λ (l : Logged). Unit {0}) (λ l. sees new l.action.xid ≡ true)
    (λ l. is_on_one tables l && is_new old new l)
    (λ l u passes.
    (and_parts (sees new l.action.xid) (not (sees old l.action.xid))
    (and_parts (is_on_one tables l) (is_new old new l) passes).1).0)
    (map (λ e. e.1) (numbered origin logs)) (all_each (λ (l : Logged). Unit {0}) (λ l. tt) _)

delta_among : (origin : ℕ) (tables : Map (List ℕ)) (old new : Snapshot) (logs : List Logged) →
    AllByRecursion (λ l. IsAmong l logs) (delta origin tables old new logs)
delta_among origin tables old new logs =
    delta_has (λ l. IsAmong l logs) (λ l. IsAmong l logs) tables (λ l has on. has) origin old new logs
    (among_all (λ l. IsAmong l logs) logs (λ l among. among))

-- A provider was found, of whose log this is.
record IsFrom (w : World) (s : Seat) (e : Event) (t : SetSync) : Type 0 where
  provider : ℕ
  from : Seat
  is : provided provider w s e ≡ Ok from
  among : AllByRecursion (λ l. IsAmong l (logged from.node)) t.rows
  seen : AllByRecursion (λ l. sees e.taken l.action.xid ≡ true) t.rows

kept_from : (w : World) (s : Seat) (e : Event) (k : Kept) →
    OnOk (IsFrom w s e) (followed_kept w.memory s e (nodes_at w) k)
kept_from w s e k =
    bind_ok (λ p. provided k.provider w s e ≡ Ok p) (IsFrom w s e) (provided k.provider w s e)
    (λ p. Ok (taken_of e (logged p.node) k))
    (ok_is (λ (p : Seat). Unit {0}) (λ p. provided k.provider w s e ≡ Ok p) (provided k.provider w s e)
    (any_ok (λ (p : Seat). Unit {0}) (provided k.provider w s e) (λ p. tt)) (λ p is u. is))
    (λ p is. record {
      provider = k.provider;
      from = p;
      is = is;
      among = delta_among e.origin k.tables k.before.seen e.taken (logged p.node);
      seen = delta_seen e.origin k.tables k.before.seen e.taken (logged p.node);
    })

each_from : (w : World) (s : Seat) (e : Event) (ks : List Kept) →
    OnOk (AllByRecursion (IsFrom w s e)) (followed_each w.memory s e (nodes_at w) ks)
each_from w s e [] = tt
each_from w s e (k ∷ ks) =
    bind_ok (IsFrom w s e) (AllByRecursion (IsFrom w s e)) (followed_kept w.memory s e (nodes_at w) k) _
    (kept_from w s e k)
    (λ t here. bind_ok (AllByRecursion (IsFrom w s e)) (AllByRecursion (IsFrom w s e))
    (followed_each w.memory s e (nodes_at w) ks) _ (each_from w s e ks) (λ ts all. (here, all)))

-- ---- a row of what was taken

-- the row of that number is of an action that was logged
row_logged : (n : ℕ) (logs : List Logged) → HasRow n (map row_of logs) →
    (l : Logged) × IsAmong l logs × (n ≡ l.action.number)
row_logged n [] has = absurd has
row_logged n (l ∷ logs) (inl is) = (l, inl refl, is)
row_logged n (l ∷ logs) (inr later) = let found = row_logged n logs later in (found.0, inr found.1, found.2)

row_taken : (w : World) (s : Seat) (e : Event) (n : ℕ) (t : SetSync) (f : SetFetch) →
    IsFrom w s e t × HasFetch e.origin t f → HasRow n f.sync.rows → IsTakenFrom w s e n
row_taken w s e n t f (x, has) row =
    let found = row_logged n t.rows (subst (HasRow n) has.sync.logged.rows_are row) in
    record {
      provider = x.provider;
      from = x.from;
      is = x.is;
      entry = found.0;
      among = all_among (λ l. IsAmong l (logged x.from.node)) found.0 t.rows x.among found.1;
      own = all_among (λ l. l.origin ≡ e.origin) found.0 t.rows has.sync.logged.from found.1;
      seen = all_among (λ l. sees e.taken l.action.xid ≡ true) found.0 t.rows x.seen found.1;
      number_is = found.2;
    }

rows_taken : (w : World) (s : Seat) (e : Event) (n : ℕ) (ts : List SetSync) (fs : List SetFetch) →
    AllByRecursion (IsFrom w s e) ts × HaveFetches e.origin ts fs → HaveRow n fs → IsTakenFrom w s e n
rows_taken w s e n [] [] (from, have) row = absurd row
rows_taken w s e n [] (f ∷ fs) (from, have) row = absurd have
rows_taken w s e n (t ∷ ts) [] (from, have) row = absurd have
rows_taken w s e n (t ∷ ts) (f ∷ fs) (from, have) (inl here) = row_taken w s e n t f (from.0, have.0) here
rows_taken w s e n (t ∷ ts) (f ∷ fs) (from, have) (inr later) = rows_taken w s e n ts fs (from.1, have.1) later

-- What was read of these sets is what is taken of them by the rules.
pub record AreTaken (w : World) (s : Seat) (e : Event) (ks : List Kept) (fs : List SetFetch) : Type 0 where
  pub syncs : List SetSync
  pub due : followed_each w.memory s e (nodes_at w) ks ≡ Ok syncs
  pub have : HaveFetches e.origin syncs fs

-- so is the last row of all sets
pub last_taken : (w : World) (s : Seat) (e : Event) (n : ℕ) (ks : List Kept) (fs : List SetFetch) →
    AreTaken w s e ks fs → last_logged fs ≡ Some n → IsTakenFrom w s e n
last_taken w s e n ks fs t last =
    rows_taken w s e n t.syncs fs (subst (OnOk (AllByRecursion (IsFrom w s e))) t.due (each_from w s e ks), t.have)
    (last_has fs n last)
