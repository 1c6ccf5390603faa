-- The search for the owner of a set: one database after the other.
use Rattle.std.proofs.Common.{◌≡◌, ◌∙◌, ◌≤◌, ◌+◌, ℕ, zero, suc, Bool, true, false, cond, List, [], ◌∷◌, length}
use Rattle.std.proofs.Common.{drop, get_or, map, set, is_some, Option, Some, None, Ok, Err, refl, sym, ap, subst, arith}
use Rattle.std.specs.Prelude.{IfOk}
use Rattle.std.specs.List.{slice_get}
use Rattle.std.proofs.lemmas.List.{drop_all, get_or-set_same, length-map, length-set}
use Rattle.slon_base.specs.Keeper.{Kept}
use Rattle.slon_base.specs.declared.keeper.Keeper.{Ghosts}
use Rattle.store_rows.specs.Space.{AllOf}
use Rattle.slon_model.specs.declared.fault.DbFault.{DbFault}
use Rattle.slon_model.specs.declared.reply.Reply.{Reply}
use Rattle.slon_model.specs.declared.reply.Refusal.TheVariants as refused
use Rattle.slon_model.specs.Names.{Named, put_named}
use Rattle.slon_model.specs.Maps.{Map}
use Rattle.slon_model.specs.Place.{Place}
use Rattle.slon_model.specs.Reaching.{is_on_line, seat_on_line, seat_at_place, better, best_of, found_owner, owner}
use Rattle.slon_model.specs.Sessions.{World, Running, Seat}
use Rattle.node_store.specs.declared.looking.Reign.{Reign}
use Rattle.app_store.specs.Base.{Base}
use Rattle.app_store.specs.Parts.{Looks}
use Rattle.slonik_exec.specs.declared.databases.Named.{Named as NamedDatabase}
use Rattle.slonik_exec.specs.declared.owning.Claim.{Claim}
use Rattle.slonik_exec.specs.declared.owning.Owner.TheVariants.{At, Nobody, Stopped}
use Rattle.slonik_exec.specs.Databases.{FitsAll, AreReady, TriesAll, Runs, bases_of, named_base}
use Rattle.slonik_exec.specs.Heard.{AreSame, AreDistinct, BreaksDown}
use Rattle.slonik_exec.specs.Owned.{reign_at, HasSeat, IsLedOn, is_before, better_claim, OwnsAt, Owns}
use Rattle.slonik_exec.specs.Reached.{IsSeatAt}
use Rattle.slonik_exec.proofs.Hearing.{distinct_same, same_itself, same_put}
use Rattle.slonik_exec.proofs.Leading.{Leads, NoLeader, OneLeader, next_leads}
use Rattle.slonik_exec.proofs.Lists.{same_length}
use Rattle.slonik_exec.proofs.Asking.{Round, Left, Listed, Told, answering, stopping, turn_at, put_turn, runs_turn}
use Rattle.slonik_exec.proofs.Asking.{same_turn, runs_stop, placed, still_fits, breaks_at}
use Rattle.slonik_exec.proofs.Seated.{seat_here}
use Rattle.slonik_exec.proofs.Still.{seat_still}
use Rattle.slonik_exec.proofs.Trying.{tries_itself}

-- Which set is sought, and the NODE lines.
pub record Query : Type 0 where
  pub set_id : ℕ
  pub lines : Map (List ℕ)

-- Of the places before an index, the code and the rules hold the same to be the best.
pub record IsBest (q : Query) (run : Running) (w : World) (i : ℕ) (best : Option Claim) : Type 0 where
  pub seated : Option Seat
  pub leads : Leads q.set_id w best seated
  pub due : best_of q.set_id run None w.places ≡ best_of q.set_id run seated (drop i w.places)

-- The databases before an index were asked, and this is the best claim of theirs.
pub record AreSought {K : Type 0} {g : Ghosts K} (kept : K → Kept) (q : Query) (olds : Named Base)
    (news : List (NamedDatabase K g)) (i : ℕ) (best : Option Claim) : Type 0 where
  pub tries : TriesAll true None olds (bases_of kept news)
  pub same : AreSame olds (bases_of kept news)
  pub here : AllOf (λ c. IsSeatAt news c.at) best
  pub led : (w : World) (run : Running) → AreReady w olds → run.lines ≡ q.lines →
      FitsAll w.places (bases_of kept news) × IsBest q run w i best

pub none_sought : {K : Type 0} {g : Ghosts K} (kept : K → Kept) (q : Query) (ds : List (NamedDatabase K g)) →
    AreSought kept q (bases_of kept ds) ds 0 None
none_sought kept q ds = record {
  tries = tries_itself true (bases_of kept ds);
  same = same_itself (bases_of kept ds);
  here = tt;
  led = λ w run ready lines. (ready.fits, record { seated = None; leads = NoLeader; due = refl });
}

-- ---- one more database

-- It was asked, and this one stands there now.
pub record Sought {K : Type 0} {g : Ghosts K} (kept : K → Kept) (q : Query) (d y : NamedDatabase K g)
    (items : List (NamedDatabase K g)) (best : Option Claim) (r : Round (Option Reign)) : Type 0 where
  pub listed : Listed (named_base kept) d items r
  pub sought : AreSought kept q r.olds items r.i best
  pub left : Left r
  pub stands : named_base kept y ≡ (r.name, r.behind)
  pub leads : Looks (IsLedOn q.lines q.set_id r.name) r.before r.result r.behind
  pub here : IfOk r.result (HasSeat r.before)

-- the database at the index, where its node claims the set
claimant : {K : Type 0} {g : Ghosts K} {kept : K → Kept} {q : Query} {d y : NamedDatabase K g}
    {items : List (NamedDatabase K g)} {best : Option Claim} {found : Option Reign} (r : Round (Option Reign)) →
    Sought kept q d y items best (answering found r) → AreDistinct (bases_of kept (set items r.i y)) →
    HasSeat r.before found → AllOf (λ reign. IsSeatAt (set items r.i y) r.i) found
claimant {found = None} r s distinct here = tt
claimant {kept = kept} {d = d} {y} {items} {found = Some reign} r s distinct here =
    let memory = ap (λ e. e.1.memory) s.stands ∙ s.left.same in
    let long = length-set items r.i y in
    seat_here kept (set items r.i y) r.i distinct
    (omega (arith, s.listed.inside, long), sym (get_or-set_same items r.i y y s.listed.inside))
    (ap (λ m. m.up) memory ∙ here.0, ap (λ m. is_some m.identity) memory ∙ here.1)

-- the better one of two claims of databases that are up and nodes is one
better_here : {K : Type 0} {g : Ghosts K} (ds : List (NamedDatabase K g)) (i : ℕ) (best : Option Claim)
    (found : Option Reign) → AllOf (λ c. IsSeatAt ds c.at) best → AllOf (λ reign. IsSeatAt ds i) found →
    AllOf (λ c. IsSeatAt ds c.at) (better_claim best found i)
better_here ds i best None was now = was
better_here ds i best (Some r) was now = by (is_before r best)
  where
    by : (b : Bool) → AllOf (λ c. IsSeatAt ds c.at) (cond b (Some (record { reign = r; at = i })) best)
    by true = now
    by false = was

still_here : {K : Type 0} {g : Ghosts K} (kept : K → Kept) (olds news : List (NamedDatabase K g))
    (best : Option Claim) → AreSame (bases_of kept olds) (bases_of kept news) → AllOf (λ c. IsSeatAt olds c.at) best →
    AllOf (λ c. IsSeatAt news c.at) best
still_here kept olds news None same here = tt
still_here kept olds news (Some c) same here = seat_still kept olds news c.at same here

-- what the answer says of a place
answer_is : {found : Option Reign} (q : Query) (run : Running) (name : List ℕ) (p : Place) → run.lines ≡ q.lines →
    IsLedOn q.lines q.set_id name p found → found ≡ reign_at q.set_id (seat_on_line run (name, p))
answer_is q run name p lines is =
    is ∙ ap (λ ls. reign_at q.set_id (cond (is_on_line ls name) (seat_at_place name p p.node) None)) (sym lines)

pub next_sought : {K : Type 0} {g : Ghosts K} {kept : K → Kept} {q : Query} {d y : NamedDatabase K g}
    {items : List (NamedDatabase K g)} {best : Option Claim} (found : Option Reign) (made : Option Claim)
    (r : Round (Option Reign)) → Sought kept q d y items best (answering found r) →
    made ≡ better_claim best found r.i → AreSought kept q r.olds (set items r.i y) (r.i + 1) made
next_sought {kept = kept} {q} {d} {y} {items} {best} found made r s is =
    let f = named_base kept in
    let turn = turn_at f d items (answering found r) s.listed in
    let put = put_turn f d y items (answering found r) s.listed s.stands in
    let same = subst (AreSame r.olds) put (same_turn found r turn s.left) in
    let still = subst (AreSame (map f items)) put
    (subst (λ bs. AreSame bs (put_named r.name r.behind r.news)) s.listed.news
    (same_put r.name r.before r.behind r.news r.news (same_itself r.news) turn.found s.left.same)) in
    record {
      tries = subst (TriesAll true None r.olds) put (runs_turn (answering found r) turn s.left);
      same = same;
      here = subst (AllOf (λ c. IsSeatAt (set items r.i y) c.at)) (sym is) (better_here (set items r.i y) r.i best found
          (still_here kept items (set items r.i y) best still s.sought.here)
          (claimant r s (distinct_same r.olds (map f (set items r.i y)) same s.listed.distinct) s.here));
      led = λ w run ready lines.
          let old = s.sought.led w run ready lines in
          let p = placed (answering found r) turn w ready (subst (FitsAll w.places) (sym s.listed.news) old.0) in
          let looks = s.leads p.place p.ready refl in
          let best = better q.set_id old.1.seated (seat_on_line run (r.name, p.place)) in
          let later : suc r.i ≡ r.i + 1 = omega arith in (
            subst (FitsAll w.places) put (still_fits (answering found r) w p looks.1),
            record {
              seated = best;
              leads = subst (λ b. Leads q.set_id w b best) (sym is) (next_leads run
                  (record { name = r.name; place = p.place; at = p.at; found = p.found }) old.1.leads
                  (answer_is q run r.name p.place lines looks.0));
              due = old.1.due ∙ ap (best_of q.set_id run old.1.seated) p.next
                  ∙ ap (λ n. best_of q.set_id run best (drop n w.places)) later;
            },
          );
    }

-- its store stopped
pub stop_sought : {K : Type 0} {g : Ghosts K} {kept : K → Kept} {q : Query} {d y : NamedDatabase K g}
    {items : List (NamedDatabase K g)} {best : Option Claim} (fault : DbFault) (reply : Reply)
    (r : Round (Option Reign)) → Sought kept q d y items best (stopping fault r) → Told r.name fault reply →
    Runs r.olds reply (bases_of kept (set items r.i y))
    × Owns kept q.set_id q.lines r.olds (Stopped reply) (set items r.i y)
stop_sought {kept = kept} {d = d} {y} {items} fault reply r s told =
    let f = named_base kept in
    let turn = turn_at f d items (stopping fault r) s.listed in
    let put = put_turn f d y items (stopping fault r) s.listed s.stands in (
      subst (Runs r.olds reply) put (runs_stop fault reply r turn s.left told.is),
      λ w run ready lines.
          let old = s.sought.led w run ready lines in
          let p = placed (stopping fault r) turn w ready (subst (FitsAll w.places) (sym s.listed.news) old.0) in
          subst (BreaksDown w reply) put
          (breaks_at r fault reply w p s.left told (s.leads p.place p.ready told.memory)),
    )

-- ---- all were asked

-- the name of a place is that of the database at its index
same_name : {X : Type 0} (f : X → List ℕ × Base) (d : X) (ps : Named Place) (items : List X) (i : ℕ)
    (e : List ℕ × Place) → FitsAll ps (map f items) → slice_get ps i ≡ Some e → e.0 ≡ (f (get_or items i d)).0
same_name f d [] items i e all at = absurd cc
same_name f d (p ∷ ps) [] i e all at = absurd all
same_name f d (p ∷ ps) (x ∷ xs) zero e all at = let same : p ≡ e = cc in ap (λ x. x.0) (sym same) ∙ all.0
same_name f d (p ∷ ps) (x ∷ xs) (suc i) e all at = same_name f d ps xs i e all.2 at

-- none is left
due_all : {q : Query} {run : Running} {w : World} {i : ℕ} {best : Option Claim} (b : IsBest q run w i best) →
    length w.places ≤ i → owner run q.set_id w ≡ found_owner q.set_id b.seated
due_all {q} {run} {w} {i} b less =
    ap (found_owner q.set_id) (b.due ∙ ap (best_of q.set_id run b.seated) (drop_all i w.places less))

owner_none : {set_id : ℕ} {w : World} {best : Option Claim} {seated : Option Seat} → Leads set_id w best seated →
    best ≡ None → found_owner set_id seated ≡ Err (refused.NoSet set_id)
owner_none NoLeader none = refl
owner_none (OneLeader c s leader) none = absurd cc

pub nobody_found : {K : Type 0} {g : Ghosts K} {kept : K → Kept} {q : Query} {olds : Named Base}
    {news : List (NamedDatabase K g)} {i : ℕ} {best : Option Claim} → AreSought kept q olds news i best →
    length news ≤ i → best ≡ None → Owns kept q.set_id q.lines olds Nobody news
nobody_found {kept = kept} {q} {news = news} sought less none w run ready lines =
    let led = sought.led w run ready lines in
    let long = same_length w.places (bases_of kept news) led.0 in
    let count = length-map news (named_base kept) in
    (led.0, due_all led.1 (omega (arith, long, count, less)) ∙ owner_none led.1.leads none)

owner_is : {set_id : ℕ} {run : Running} {w : World} {best : Option Claim} {seated : Option Seat} (c : Claim)
    (name : List ℕ) → Leads set_id w best seated → best ≡ Some c →
    ((place : Place) (own : List ℕ) → slice_get w.places c.at ≡ Some (own, place) → own ≡ name) →
    owner run set_id w ≡ found_owner set_id seated → OwnsAt set_id run w name
owner_is c name NoLeader is named due = absurd cc
owner_is {set_id} {run} {w} c name (OneLeader b s leader) is named due =
    let same : b ≡ c = cc in
    let own = named leader.place s.name (subst (λ x. slice_get w.places x.at ≡ Some (s.name, leader.place)) same
    leader.at) in
    subst (OwnsAt set_id run w) own (record {
      place = leader.place;
      node = leader.node;
      due = due ∙ ap (λ x. Ok x) leader.seat_is;
      found = leader.found;
      running = leader.running;
      is = leader.is;
    })

pub owner_found : {K : Type 0} {g : Ghosts K} {kept : K → Kept} {q : Query} {olds : Named Base}
    {news : List (NamedDatabase K g)} {i : ℕ} {best : Option Claim} (c : Claim) → AreSought kept q olds news i best →
    length news ≤ i → best ≡ Some c → Owns kept q.set_id q.lines olds (At c.at) news
owner_found {kept = kept} {q} {news = news} c sought less is w run ready lines =
    let led = sought.led w run ready lines in
    let long = same_length w.places (bases_of kept news) led.0 in
    let count = length-map news (named_base kept) in (
      led.0,
      λ d held. owner_is c d.name led.1.leads is (λ place own at.
          same_name (named_base kept) d w.places news c.at (own, place) led.0 at
          ∙ ap (λ x. x.name) (sym held)) (due_all led.1 (omega (arith, long, count, less))),
    )

-- the database of the best claim
pub here_found : {K : Type 0} {g : Ghosts K} {ds : List (NamedDatabase K g)} {best : Option Claim} (c : Claim) →
    AllOf (λ c. IsSeatAt ds c.at) best → best ≡ Some c → IsSeatAt ds c.at
here_found {ds = ds} c here is = subst (AllOf (λ c. IsSeatAt ds c.at)) is here
