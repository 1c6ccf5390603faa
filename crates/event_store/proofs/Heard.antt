-- What a node is told of others, row by row.
use Rattle.std.proofs.Common.{◌≡◌, ◌⊎◌, inl, inr, ℕ, Bool, true, false, cond, List, [], ◌∷◌, ◌++◌, map, filter, refl}
use Rattle.std.proofs.Common.{sym, ap, subst, ◌∙◌, Option, Some, None, is_some, unwrap_or}
use Rattle.std.specs.Prelude.{nat_lt}
use Rattle.std.specs.Ordering.{is_eq}
use Rattle.std.specs.Cmp.Lexicographic.{nat_list_cmp_total}
use Rattle.std.specs.FinMap.{get, get-insert}
use Rattle.std.proofs.lemmas.List.{append_assoc, append-nil}
use Rattle.slon_base.specs.Codec.{number_bytes, AllAre}
use Rattle.slon_base.specs.Keeper.{Store, Kept, key_cmp, sight, put_at}
use Rattle.slon_base.proofs.Order.{same_keys, equal_of}
use Rattle.store_rows.specs.Space.{IsPending}
use Rattle.store_rows.proofs.Spaces.{pending_as}
use Rattle.slon_model.specs.Maps.{Map2, entry_at, pair_at, with_pair}
use Rattle.slon_model.specs.Deeds.{heard, raised}
use Rattle.set_config.specs.Holds.{pair_key}
use Rattle.set_config.proofs.Entries.{not_eq}
use Rattle.event_store.specs.Formed.{IsRow, HasProgress, Lacks}
use Rattle.event_store.specs.Giving.{Confirmation}
use Rattle.event_store.specs.Hearing.{Stands, confirmed_by, IsRaised}
use Rattle.event_store.specs.Holds.{ShowsStreams}
use Rattle.event_store.specs.Spellings.{IsStored}
use Rattle.event_store.specs.Streams.{Streams}
use Rattle.event_store.specs.Telling.{named, IsOfOther, AreRaised, HandedRow, HandedRows}
use Rattle.event_store.proofs.Flattened.{all_append}

-- A store shows what the node was told so far, and with the rest of the rows that becomes what all of them tell it.
pub record IsTold (base : Store) (s : Streams) (rest all : List Confirmation) (m : Store) : Type 0 where
  pub told : Map2 ℕ
  pub shows : ShowsStreams base (record s { told = told }) m
  pub ends : heard (map named rest) told ≡ heard (map named all) s.told

-- of another node than its own, both say the same
raised_by : (r : Confirmation) (s : Streams) → (r.0.1 ≡ s.own → ⊥) →
    confirmed_by r.0.0 r.0.1 r.1 s ≡ record s { told = raised (named r) s.told }
raised_by r s differ =
    ap (λ b. record s {
      told =
          cond (nat_lt (unwrap_or (cond b (entry_at r.0.0 s.progress) (pair_at r.0.0 r.0.1 s.told)) 0) r.1)
          (with_pair r.0.0 r.0.1 r.1 s.told) s.told;
    }) (not_eq r.0.1 s.own differ)

pub none_told : {base : Store} {s : Streams} (all : List Confirmation) {k : Kept} → IsPending (ShowsStreams base s) k →
    IsPending (IsTold base s all all) k
none_told {s = s} all p = pending_as (λ m shows. record { told = s.told; shows = shows; ends = refl }) p

pub all_heard : {base : Store} {s : Streams} (all : List Confirmation) {k : Kept} →
    IsPending (IsTold base s [] all) k →
    IsPending (ShowsStreams base (record s { told = heard (map named all) s.told })) k
all_heard {base} {s} all p =
    pending_as (λ m so_far. subst (λ t. ShowsStreams base (record s { told = t }) m) so_far.ends so_far.shows) p

-- the first of the rest was told
pub one_told : {base : Store} {s : Streams} (r : Confirmation) (rest all : List Confirmation) {old new : Kept} →
    (r.0.1 ≡ s.own → ⊥) → IsPending (IsTold base s (r ∷ rest) all) old →
    ((t : Streams) → t.own ≡ s.own → IsPending (ShowsStreams base t) old →
    IsPending (ShowsStreams base (confirmed_by r.0.0 r.0.1 r.1 t)) new) → IsPending (IsTold base s rest all) new
one_told {base} {s} r rest all differ p tells =
    let t = record s { told = p.has.told } in
    let next = tells t refl (record { store = p.store; is = p.is; has = p.has.shows }) in
    pending_as (λ m shows. record {
      told = raised (named r) p.has.told;
      shows = subst (λ u. ShowsStreams base u m) (raised_by r t differ) shows;
      ends = p.has.ends;
    }) next

-- ---- which of them are news

-- one more row, which is kept where it passes the test
pub kept_more : (P : Confirmation → Type 0) (found : List Confirmation) (r : Confirmation) (b : Bool) →
    AllAre P found → (b ≡ true → P r) → AllAre P (found ++ cond b (r ∷ []) [])
kept_more P found r true all one = all_append P found (r ∷ []) all (one refl, tt)
kept_more P found r false all one = all_append P found [] all tt

pub filter_more : (test : Confirmation → Bool) (found : List Confirmation) (r : Confirmation)
    (rest : List Confirmation) →
    (found ++ cond (test r) (r ∷ []) []) ++ filter test rest ≡ found ++ filter test (r ∷ rest)
filter_more test found r rest =
    elim (test r) as (λ b. (found ++ cond b (r ∷ []) []) ++ filter test rest
    ≡ found ++ cond b (r ∷ filter test rest) (filter test rest)) [
      | true ↦ append_assoc found (r ∷ []) (filter test rest)
      | false ↦ ap (λ l. l ++ filter test rest) (append-nil found)
    ]

-- the first row was read, so what was handed comes behind it
pub behind_row : (m : Store) (own : ℕ) (r : Confirmation) (rs : List Confirmation) (space : ℕ) →
    (HandedRow m own r space → ⊥) → HandedRows m own (r ∷ rs) space → HandedRows m own rs space
behind_row m own r rs space read (inl first) = absurd (read first)
behind_row m own r rs space read (inr more) = more

-- ---- the same in any store

-- a number, or nothing
abbrev IsNumber : Option (List ℕ) → Type 0
IsNumber entry = IsRow number_bytes IsStored entry

stands_row : {m : Store} {i : ℕ × ℕ} {number : ℕ} → Stands m i number → IsNumber (get (m 11) (pair_key i))
stands_row s = record { row = s.row; can = s.can; spelled = s.spelled }

-- what is in its form in one store is so in the other
pub record AreAlike (m n : Store) : Type 0 where
  pub forth : (q : List ℕ) → IsNumber (get (m 11) q) → IsNumber (get (n 11) q)
  pub back : (q : List ℕ) → IsNumber (get (n 11) q) → IsNumber (get (m 11) q)

-- at any key but that of the two ids stands what stood
others_stand : (i : ℕ × ℕ) (number : ℕ) (rose : Bool) (m n : Store) →
    n ≡ cond rose (put_at 11 (pair_key i) (number_bytes number) m) m → (q : List ℕ) →
    (q ≡ pair_key i) ⊎ (get (n 11) q ≡ get (m 11) q)
others_stand i number true m n is q =
    let key = pair_key i in
    let value = number_bytes number in
    elim (is_eq (key_cmp q key)) as (λ b. is_eq (key_cmp q key) ≡ b →
    (q ≡ key) ⊎ (get (n 11) q ≡ get (m 11) q)) [
      | true ↦ λ ties. inl (same_keys q key (equal_of _ ties))
      | false ↦ λ other. inr (ap (λ k. get (k 11) q) is ∙ get-insert nat_list_cmp_total (m 11) key value q
          ∙ ap (λ b. cond b (Some value) (get (m 11) q)) other)
    ] refl
others_stand i number false m n is q = inr (ap (λ k. get (k 11) q) is)

raised_alike : {i : ℕ × ℕ} {number : ℕ} {rose : Bool} (m n : Store) → IsRaised i number rose m n → AreAlike m n
raised_alike {i} {number} {rose} m n raised = record {
  forth = λ q has. forth q (others_stand i number rose m n raised.is q) has;
  back = λ q has. back q (others_stand i number rose m n raised.is q) has;
}
  where
    forth : (q : List ℕ) → (q ≡ pair_key i) ⊎ (get (n 11) q ≡ get (m 11) q) → IsNumber (get (m 11) q) →
        IsNumber (get (n 11) q)
    forth q (inl same) has = subst (λ k. IsNumber (get (n 11) k)) (sym same) (stands_row raised.stands)
    forth q (inr same) has = subst IsNumber (sym same) has

    back : (q : List ℕ) → (q ≡ pair_key i) ⊎ (get (n 11) q ≡ get (m 11) q) → IsNumber (get (n 11) q) →
        IsNumber (get (m 11) q)
    back q (inl same) has = subst (λ k. IsNumber (get (m 11) k)) (sym same) (stands_row raised.stood)
    back q (inr same) has = subst IsNumber same has

-- From one store the node came to another one, with the rest of the rows to be told still.
pub record IsOn (own : ℕ) (rest all : List Confirmation) (m k : Store) : Type 0 where
  pub alike : AreAlike m k
  pub ends : (n : Store) → AreRaised rest k n → AreRaised all m n
  pub left : (space : ℕ) → HandedRows m own all space → HandedRows m own rest space
  pub fronts : (space : ℕ) → HandedRows m own rest space → HandedRows m own all space

pub none_on : (own : ℕ) (all : List Confirmation) (m : Store) {k : Kept} → k.pending ≡ Some (Some m) →
    IsPending (IsOn own all all m) k
none_on own all m is = record {
  store = m;
  is = is;
  has = record {
    alike = record { forth = λ q has. has; back = λ q has. has };
    ends = λ n raised. raised;
    left = λ space handed. handed;
    fronts = λ space handed. handed;
  };
}

pub one_on : {own : ℕ} {rose : Bool} (r : Confirmation) (rest all : List Confirmation) {m k n : Store} →
    IsOn own (r ∷ rest) all m k → IsRaised r.0 r.1 rose k n → IsOn own rest all m n
one_on {own} {rose} r rest all {m} {k} {n} on raised =
    let step = raised_alike k n raised in
    record {
      alike = record {
        forth = λ q has. step.forth q (on.alike.forth q has);
        back = λ q has. on.alike.back q (step.back q has);
      };
      ends = λ last more. on.ends last (n, rose, raised, more);
      left = λ space handed. behind_row m own r rest space
          (λ first. first.2.1 (on.alike.back (pair_key r.0) (stands_row raised.stood))) (on.left space handed);
      fronts = λ space handed. on.fronts space (inr handed);
    }

-- a row that is not in its form now was not before
pub handed_on : {own : ℕ} (r : Confirmation) (rest all : List Confirmation) {m k : Store} → IsOfOther own r →
    IsOn own (r ∷ rest) all m k → (space : ℕ) → Lacks 11 (HasProgress r.0.1 r.0.0 k) space →
    HandedRows m own all space
handed_on r rest all other on space lacks =
    on.fronts space (inl (
      other.foreign,
      other.other,
      (
        lacks.0,
        λ has. lacks.1 (on.alike.forth (pair_key r.0) has),
      ),
    ))

-- what is seen is pending
pub seen_pending : (k : Kept) (m : Store) → is_some k.pending ≡ true → sight k ≡ Some m → k.pending ≡ Some (Some m)
seen_pending k m opened seen = of k.pending opened seen
  where
    of : (p : Option (Option Store)) → is_some p ≡ true → unwrap_or p k.held ≡ Some m → p ≡ Some (Some m)
    of None opened seen = absurd cc
    of (Some o) opened seen = ap Some seen
