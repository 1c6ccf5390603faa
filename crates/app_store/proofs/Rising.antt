-- A database that begins, that goes down, and that comes up again.
use Rattle.std.proofs.Common.{◌≡◌, ℕ, zero, suc, ◌+◌, ◌<◌, ◌≤◌, true, false, cond, Option, Some, None}
use Rattle.std.proofs.Common.{Result, Ok, Err, refl, sym, ap, subst, ◌∙◌, ◌⊎◌, inl, inr, arith}
use Rattle.std.specs.Prelude.{◌==◌}
use Rattle.std.specs.FinMap.{get, get-empty}
use Rattle.std.proofs.lemmas.Bool.{false≢true, false_from_ne_true, eqb-true, eq-eqb}
use Rattle.std.specs.Option.{option_map}
use Rattle.slon_base.specs.Charges.{IsFrom, KeepsTold}
use Rattle.slon_base.specs.declared.fault.KeepFault.{KeepFault}
use Rattle.slon_base.specs.Keeper.{Kept, Store, RollsBack, key_cmp, nothing}
use Rattle.slon_base.specs.Codec.{number_bytes}
use Rattle.slon_base.specs.declared.charge.Charge.{Charge}
use Rattle.slon_base.specs.declared.charge.Charge.TheVariants.{Off}
use Rattle.node_keeper.specs.declared.fuse.Fuse.{Fuse}
use Rattle.slon_base.specs.Charges.{bound}
use Rattle.node_keeper.specs.Fused.{told_so, fuse_kept}
use Rattle.slon_model.specs.declared.fault.DbFault.{DbFault}
use Rattle.slon_model.specs.declared.command.Crash.{Crash as CrashKind}
use Rattle.slon_model.specs.declared.command.Crash.TheVariants.{Now}
use Rattle.slon_model.specs.declared.reply.Answer.{Answer}
use Rattle.slon_model.specs.declared.reply.Answer.TheVariants.{Done}
use Rattle.slon_model.specs.declared.reply.Answered.TheVariants.{Sure, InDoubt}
use Rattle.slon_model.specs.Tasks.{ToFound, ToCrash, ToRise}
use Rattle.slon_model.specs.Place.{Place, Standing, IsRunning, IsFallen, IsDoubtful, Counter, bare_place, founded}
use Rattle.slon_model.specs.Place.{surely, downed, fallen}
use Rattle.slon_model.specs.Moves.{Stays, Founds, Falls, Rises, first_rows as with_first_rows, done}
use Rattle.slon_model.specs.Moves.{risen}
use Rattle.slon_model.specs.Deciding.{Accepts, decide_by, decide, limited, settled, may_call}
use Rattle.slon_laws.specs.Spelled.{IsSpelled}
use Rattle.store_rows.specs.declared.stop.Stop.{Stop}
use Rattle.store_rows.specs.declared.stop.Stop.TheVariants.{Failed as StopFailed, NoMemory as StopNoMemory}
use Rattle.node_state.specs.declared.memory.NodeMemory.{NodeMemory}
use Rattle.node_state.specs.Known.{IsKnown}
use Rattle.node_state.proofs.Nobody.{known_as}
use Rattle.app_store.specs.declared.look.Numbers.{Numbers}
use Rattle.app_store.specs.Base.{Memory, Base, IsFresh}
use Rattle.app_store.specs.Fits.{Fits, Runs, StandsAs, OpensAs}
use Rattle.app_store.specs.Serves.{Comes, is_memory}
use Rattle.app_store.specs.Parts.{Fell, StartsWith}
use Rattle.app_store.specs.Settled.{settled_as, settled_by}
use Rattle.app_store.specs.Spelled.{Holds, first_rows}
use Rattle.store_rows.specs.Spending.{IsAtMost, Stays as StaysBelow}
use Rattle.app_store.specs.Works.{Recovered, Was, Founded}
use Rattle.app_store.proofs.Holding.{holds_same, holds_first, stored_of}
use Rattle.app_store.proofs.Places.{no_holder}
use Rattle.app_store.proofs.Pending.{untold}
use Rattle.store_rows.proofs.Causes.{stays}
use Rattle.store_rows.proofs.Spaces.{empty_space}
use Rattle.app_store.proofs.Standing.{fits_running, looked, carried, fell, wavers, decided_up, rose_from}
use Rattle.app_store.proofs.Standing.{is_down, crashed_fits, named_as, Stopped}
use Rattle.app_store.specs.Begun.{AreBegun}
use Rattle.app_store.proofs.Upright.{UpAt, DownAt, running, WentDown, is_up}

-- the first rows, over what was there
abbrev pub with_first : Store → Store
with_first m = first_rows (number_bytes 1) (number_bytes 65) m

-- ---- a database that begins

pub holds_bare : Holds bare_place nothing
holds_bare = record {
  meta_numbers = empty_space (λ key. refl);
  table_rows = empty_space (λ name. refl);
  rows_held = empty_space (λ i. get-empty key_cmp i.1);
  node_held = λ space other. refl;
  bare = λ none. refl;
}

holds_founded : Holds (founded bare_place) (with_first nothing)
holds_founded = holds_first bare_place (founded bare_place) nothing refl refl holds_bare

fresh_runs : (m : Memory) → IsFresh true None m → Runs (done Founds bare_place) m
fresh_runs m fresh = record {
  up = fresh.up_is;
  stamp = fresh.stamp;
  settled = fresh.doubt_is;
  founded = omega arith;
  xids = fresh.xids;
  numbers = fresh.numbers;
  opened =
      λ name. subst (λ o. OpensAs (done Founds bare_place) None o)
      (sym (ap (λ o. get o name) fresh.closed.opens_are ∙ get-empty key_cmp name)) tt;
  locked = λ table key text. fresh.closed.locks_are table key;
  begun = subst (AreBegun (done Founds bare_place)) (sym fresh.begun) tt;
  known = fresh.nobody;
  unpromised = refl;
}

pub begins_done : (b : Base) → IsFresh true None b.memory → b.kept.held ≡ Some (with_first nothing) →
    Comes ToFound bare_place (Ok (Sure Done)) b
begins_done b fresh held =
    carried ToFound bare_place (Accepts Done Founds) b refl
    (fits_running (done Founds bare_place) b (with_first nothing) refl (fresh_runs b.memory fresh) (omega arith) held
    (holds_same (founded bare_place) (done Founds bare_place) (with_first nothing) refl holds_founded))

pub begins_doubt : (b : Base) → IsFresh false (Some 1) b.memory → (b.kept.held ≡ Some nothing)
    ⊎ (b.kept.held ≡ Some (with_first nothing)) → Comes ToFound bare_place (Ok (InDoubt Done)) b
begins_doubt b fresh either =
    wavers ToFound bare_place Done Founds b refl refl (record {
      before = nothing;
      after = with_first nothing;
      memory = record {
        stamp = refl;
        told = refl;
        up = fresh.up_is;
        doubt = fresh.doubt_is;
        named = ap (option_map (λ i. i.id)) fresh.nobody.identity_is;
        node = refl;
      };
      told = omega arith;
      holds = holds_bare;
      holds_after = holds_same (founded bare_place) (done Founds bare_place) (with_first nothing) refl holds_founded;
      either = either;
    })

-- a store that failed, of a database that stays down
pub begins_fault : (old new : Base) (stop : Stop) (fault : DbFault) → IsFresh false None old.memory →
    new.kept.held ≡ Some nothing → Stopped stop fault old new → Comes ToFound bare_place (Err fault) new
begins_fault old new StopFailed fault fresh held s =
    fell ToFound bare_place (Accepts Done Founds) fault new refl refl
    (Fell new.kept.faults false s.fault_is (rose_from (omega arith) (s.rose refl)) (record {
      stands = (
        s.down.up,
        s.down.doubt ∙ fresh.doubt_is,
        ap (option_map (λ i. i.id)) (s.down.identity ∙ fresh.nobody.identity_is),
      );
      told = omega arith;
      held = (
        nothing,
        held,
        holds_same bare_place (fallen new.kept.faults bare_place) nothing refl holds_bare,
      );
    }))
begins_fault old new StopNoMemory fault fresh held s =
    absurd (false≢true (sym s.no_memory ∙ ap (λ f. is_memory (Rattle.slon_model.specs.World.halt_in f)) s.fault_is))
begins_fault old new others fault fresh held s = absurd s.only

-- ---- a database that goes down

pub crashes_now : {p : Place} {old : Base} (new : Base) → UpAt p old → WentDown old new →
    Comes (ToCrash Now) p (Ok (Sure Done)) new
crashes_now {p} {old} new at went =
    carried (ToCrash Now) p (Accepts Done Falls) new
    (decided_up (ToCrash Now) p (Accepts Done Falls) (running at).0 refl)
    (crashed_fits p old new (is_up at) (record {
      down = is_down went.down;
      held = went.looked.held;
      later = went.looked.later;
    }))

-- its store is to fail later
pub crashes_later : {p : Place} {old : Base} {charge : Charge} (crash : CrashKind) (kept : Kept) →
    Rattle.slon_model.specs.Deciding.decide_up (ToCrash crash) p ≡ Accepts Done Stays → UpAt p old →
    kept ≡ told_so charge None old.kept → Comes (ToCrash crash) p (Ok (Sure Done)) (record old { kept = kept })
crashes_later {p} {old} crash kept same at is =
    carried (ToCrash crash) p (Accepts Done Stays) _
    (decided_up (ToCrash crash) p (Accepts Done Stays) (running at).0 same)
    (looked p old kept at.ready.fits (ap (λ k. k.held) is) (omega (arith, ap (λ k. k.faults) is)))

-- ---- a database that comes up

-- a store that is to fail no more, after a rollback
pub cleared : {T : Type 0} {left : Option ℕ} (old : Kept) {mid new : Kept} {result : Result T KeepFault} →
    mid ≡ told_so Off left old → RollsBack mid new result → (new.held ≡ old.held) × (old.faults ≤ new.faults)
cleared old same rolls =
    (rolls.held ∙ ap (λ k. k.held) same, omega (arith, ap (λ k. k.faults) same, rolls.cause.later))

pub cleared_stays : {T : Type 0} {left : Option ℕ} (old : Kept) {mid new : Kept} {result : Result T KeepFault} →
    mid ≡ told_so Off left old → RollsBack mid new result → StaysBelow left new.can_fail
cleared_stays old same rolls n most = stays rolls.cause n (subst (λ k. IsAtMost n k.can_fail) (sym same) most)

pub cleared_told : {T : Type 0} {left : Option ℕ} (old : Kept) {mid new : Kept} {result : Result T KeepFault} →
    mid ≡ told_so Off left old → RollsBack mid new result → KeepsTold Off new.told
cleared_told old same rolls told from = rolls.cause.told told (subst (λ k. IsFrom told k.told) (sym same) from)

-- only a fuse that is off has a bound, and then it is that of the store below
pub fuse_stays : {K : Type 0} (kept : K → Kept) (f : Fuse K) →
    StaysBelow (fuse_kept kept f).can_fail (kept f.keeper).can_fail
fuse_stays kept f = below f.charge
  where
    below : (charge : Charge) → StaysBelow (bound charge (kept f.keeper).can_fail) (kept f.keeper).can_fail
    below Off n most = most
    below others n most = untold (kept f.keeper).can_fail n most

-- the decision where it is down
pub rises_as : (p : Place) (m : Memory) (answer : Answer) → StandsAs p.standing p m → m.up ≡ false →
    settled p.standing ≡ answer → decide ToRise p ≡ Accepts answer Rises
rises_as p m answer stands down is = by p.standing stands is
  where
    by : (s : Standing) → StandsAs s p m → settled s ≡ answer → limited p (decide_by s ToRise p) ≡ Accepts answer Rises
    by IsRunning stands is = absurd (false≢true (sym down ∙ stands.up))
    by IsFallen stands is = ap (λ a. Accepts a Rises) is
    by (IsDoubtful d) stands is = ap (λ a. Accepts a Rises) is

-- what is said of a commit in doubt, where the first rows stood
settles_was : (s : Standing) (p : Place) (m : Memory) → StandsAs s p m → m.up ≡ false →
    settled s ≡ settled_as m.doubt (Some p.stamp)
settles_was IsRunning p m stands down = absurd (false≢true (sym down ∙ stands.up))
settles_was IsFallen p m stands down = ap (λ d. settled_as d (Some p.stamp)) (sym stands.1)
settles_was (IsDoubtful true) p m stands down =
    ap settled_by (sym (eq-eqb p.stamp p.stamp refl)) ∙ ap (λ d. settled_as d (Some p.stamp)) (sym stands.1)
settles_was (IsDoubtful false) p m stands down =
    ap settled_by
    (sym (false_from_ne_true (p.stamp == (p.stamp + 1)) (λ is. let same = eqb-true p.stamp (p.stamp + 1) is in
    omega (arith, same)))) ∙ ap (λ d. settled_as d (Some p.stamp)) (sym stands.1)

-- where no first rows stood no commit stands
settles_none : (s : Standing) (p : Place) (m : Memory) → p.stamp ≡ 0 → StandsAs s p m → m.up ≡ false →
    settled s ≡ settled_as m.doubt None
settles_none IsRunning p m none stands down = absurd (false≢true (sym down ∙ stands.up))
settles_none IsFallen p m none stands down = ap (λ d. settled_as d None) (sym stands.1)
settles_none (IsDoubtful true) p m none stands down = let some = stands.2 refl in absurd (omega (arith, none, some))
settles_none (IsDoubtful false) p m none stands down = ap (λ d. settled_as d None) (sym stands.1)

counter_is : (c : Counter) (n : ℕ) → n ≡ c.ceiling →
    ◌≡◌ {A = Counter} (record { next = n; ceiling = n }) (record { next = c.ceiling; ceiling = c.ceiling })
counter_is c n is = λ i. record { next = is i; ceiling = is i }

-- The numbers are those of a place with its first rows.
record AreNumbersOf (p : Place) (n : Numbers) : Type 0 where
  stamp : n.stamp ≡ p.stamp
  xids : n.xid_ceiling ≡ p.xids.ceiling
  numbers : n.number_ceiling ≡ p.numbers.ceiling
  founded : 0 < p.stamp

-- It is held, with the node that it is.
record StandsIn (p : Place) (node : NodeMemory) (new : Base) : Type 0 where
  told : p.told ≤ new.kept.faults
  held : (m : Store) × (new.kept.held ≡ Some m) × Holds p m
  known : IsKnown p.node node.identity node.members

starts_fits : (p : Place) (n : Numbers) (node : NodeMemory) (new : Base) → StartsWith n node new.memory →
    AreNumbersOf p n → StandsIn p node new → Fits (risen p) new
starts_fits p n node new starts are stands =
    fits_running (risen p) new stands.held.0 refl runs stands.told stands.held.1
    (holds_same p (risen p) stands.held.0 refl stands.held.2)
  where
    runs : Runs (risen p) new.memory
    runs = record {
      up = starts.up;
      stamp = starts.stamp ∙ are.stamp;
      settled = starts.doubt;
      founded = are.founded;
      xids = starts.xids ∙ counter_is p.xids n.xid_ceiling are.xids;
      numbers = starts.numbers ∙ counter_is p.numbers n.number_ceiling are.numbers;
      opened =
          λ name. subst (λ o. OpensAs (risen p) None o)
          (sym (ap (λ o. get o name) starts.closed.opens_are ∙ get-empty key_cmp name)) tt;
      locked = λ table key text. starts.closed.locks_are table key ∙ sym (no_holder table key p.actions);
      begun = subst (AreBegun (risen p)) (sym starts.begun) tt;
      known = known_as starts.identity starts.members stands.known;
      unpromised = refl;
    }

-- what is held after the first rows are written where there was none
rises_founded : (p : Place) (m : Store) → IsSpelled p → p.stamp ≡ 0 → Holds p m → Holds (founded p) (with_first m)
rises_founded p m spelled none holds =
    holds_first p (founded p) m none (λ i. record (stored_of (founded p)) {
      xid_ceiling = (spelled.bare none).0 i + 64;
      number_ceiling = (spelled.bare none).1 i + 64;
    }) holds

not_zero : (n : ℕ) → (n == 0) ≡ false → 0 < n
not_zero zero is = absurd (false≢true (sym is))
not_zero (suc n) is = omega arith

-- What a database that comes up goes on with, and what it says of a commit in doubt.
pub record GoesOn (p : Place) (old new : Base) (found : Option ℕ) (n : Numbers) (answer : Answer) : Type 0 where
  pub later : old.kept.faults ≤ new.kept.faults
  pub answer_is : answer ≡ settled_as old.memory.doubt found
  pub node : NodeMemory
  pub starts : StartsWith n node new.memory
  pub known : IsKnown p.node node.identity node.members

pub rises_ok : {p : Place} {old : Base} {found : Option ℕ} {n : Numbers} (new : Base) (answer : Answer)
    (at : DownAt p old) →
    Recovered at.ready.fits.held.0 p.stamp p.xids.ceiling p.numbers.ceiling found n new.kept.held →
    GoesOn p old new found n answer → Comes ToRise p (Ok (Sure answer)) new
rises_ok {p} {old} {found} {n} new answer at (Was some found_is n_is held) on =
    let rows : with_first_rows p ≡ p = ap (λ t. cond t (founded p) p) some in
    let fits = at.ready.fits in
    let later = on.later in
    carried ToRise p (Accepts answer Rises) new
    (rises_as p old.memory answer fits.stands at.down (settles_was p.standing p old.memory fits.stands at.down
    ∙ sym (on.answer_is ∙ ap (settled_as old.memory.doubt) found_is)))
    (subst (λ q. Fits (risen q) new) (sym rows)
    (starts_fits p n on.node new on.starts (record {
      stamp = ap (λ k. k.stamp) n_is;
      xids = ap (λ k. k.xid_ceiling) n_is;
      numbers = ap (λ k. k.number_ceiling) n_is;
      founded = not_zero p.stamp some;
    }) (record {
      told = omega (arith, fits.told, later);
      held = (fits.held.0, held, fits.held.2);
      known = on.known;
    })))
rises_ok {p} {old} {found} {n} new answer at (Founded none found_is n_is held) on =
    let rows : with_first_rows p ≡ founded p = ap (λ t. cond t (founded p) p) (eq-eqb p.stamp 0 none) in
    let fits = at.ready.fits in
    let later = on.later in
    let bare = at.ready.spelled.bare none in
    carried ToRise p (Accepts answer Rises) new
    (rises_as p old.memory answer fits.stands at.down
    (settles_none p.standing p old.memory none fits.stands at.down
    ∙ sym (on.answer_is ∙ ap (settled_as old.memory.doubt) found_is)))
    (subst (λ q. Fits (risen q) new) (sym rows)
    (starts_fits (founded p) n on.node new on.starts (record {
      stamp = ap (λ k. k.stamp) n_is;
      xids = ap (λ k. k.xid_ceiling) n_is ∙ sym (ap (λ n. n + 64) bare.0);
      numbers = ap (λ k. k.number_ceiling) n_is ∙ sym (ap (λ n. n + 64) bare.1);
      founded = omega arith;
    }) (record {
      told = omega (arith, fits.told, later);
      held = (with_first fits.held.0, held, rises_founded p fits.held.0 at.ready.spelled none fits.held.2);
      known = on.known;
    })))

-- The memory of a database that stays down.
record IsLeftDown (old new : Memory) : Type 0 where
  was : old.up ≡ false
  down : new.up ≡ false
  doubt : new.doubt ≡ old.doubt
  identity : new.identity ≡ old.identity

-- it stays as it stood
stays_as : (s : Standing) (p : Place) (count : ℕ) (old new : Memory) → StandsAs s p old → IsLeftDown old new →
    StandsAs (downed s) (fallen count p) new
stays_as IsRunning p count old new stands left = absurd (false≢true (sym left.was ∙ stands.up))
stays_as IsFallen p count old new stands left =
    (left.down, left.doubt ∙ stands.1, named_as p (fallen count p) old new stands.2 left.identity refl)
stays_as (IsDoubtful d) p count old new stands left =
    (left.down, left.doubt ∙ stands.1, stands.2, named_as p (fallen count p) old new stands.3 left.identity refl)

-- its first rows stand now
stays_founded : (s : Standing) (p : Place) (count : ℕ) (old new : Memory) → p.stamp ≡ 0 → StandsAs s p old →
    IsLeftDown old new → StandsAs (downed (surely s)) (fallen count (founded p)) new
stays_founded IsRunning p count old new none stands left = absurd (false≢true (sym left.was ∙ stands.up))
stays_founded IsFallen p count old new none stands left =
    (left.down, left.doubt ∙ stands.1, named_as p (fallen count (founded p)) old new stands.2 left.identity refl)
stays_founded (IsDoubtful true) p count old new none stands left = let some = stands.2 refl in
    absurd (omega (arith, none, some))
stays_founded (IsDoubtful false) p count old new none stands left = (
  left.down,
  left.doubt ∙ stands.1 ∙ ap (λ n. Some (n + 1)) none,
  λ _. omega arith,
  named_as p (fallen count (founded p)) old new stands.3 left.identity refl,
)

pub rises_err : {p : Place} {old : Base} (new : Base) (stop : Stop) (fault : DbFault) (at : DownAt p old) →
    (new.kept.held ≡ Some at.ready.fits.held.0)
    ⊎ ((p.stamp ≡ 0) × (new.kept.held ≡ Some (with_first at.ready.fits.held.0))) →
    Stopped stop fault old new → Comes ToRise p (Err fault) new
rises_err {p} {old} new StopFailed fault at either s =
    let fits = at.ready.fits in
    let left : IsLeftDown old.memory new.memory = record {
      was = at.down;
      down = s.down.up;
      doubt = s.down.doubt;
      identity = s.down.identity;
    } in
    fell ToRise p (Accepts (settled p.standing) Rises) fault new (calls p.standing fits.stands)
    (rises_as p old.memory (settled p.standing) fits.stands at.down refl) (elim either [
      | inl before ↦ Fell new.kept.faults false s.fault_is (rose_from fits.told (s.rose refl)) (record {
        stands = stays_as p.standing p new.kept.faults old.memory new.memory fits.stands left;
        told = omega arith;
        held = (
          fits.held.0,
          before,
          holds_same p (fallen new.kept.faults p) fits.held.0 refl fits.held.2,
        );
      })
      | inr after ↦
          Fell new.kept.faults true s.fault_is (rose_from fits.told (s.rose refl))
          (subst (λ q. Fits (fallen new.kept.faults q) new)
          (sym (ap (λ t. cond t (founded p) p) (eq-eqb p.stamp 0 after.0))) (record {
            stands = stays_founded p.standing p new.kept.faults old.memory new.memory after.0 fits.stands left;
            told = omega arith;
            held = (
              with_first fits.held.0,
              after.1,
              holds_same (founded p) (fallen new.kept.faults (founded p))
                  (with_first fits.held.0) refl
                  (rises_founded p fits.held.0 at.ready.spelled after.0 fits.held.2),
            );
          }))
    ])
  where
    calls : (s : Standing) → StandsAs s p old.memory → may_call s p.node ToRise ≡ true
    calls IsRunning stands = absurd (false≢true (sym at.down ∙ stands.up))
    calls others stands = refl
rises_err new StopNoMemory fault at either s =
    absurd (false≢true (sym s.no_memory ∙ ap (λ f. is_memory (Rattle.slon_model.specs.World.halt_in f)) s.fault_is))
rises_err new others fault at either s = absurd s.only
