-- One of the databases of a session that was looked at: the others are as they were, and so are its memory and its
-- place.
use Rattle.std.proofs.Common.{◌≡◌, ◌∙◌, ◌<◌, ℕ, true, List, None, Some, get_or, length, set, refl, sym, ap, subst}
use Rattle.std.proofs.Common.{is_some}
use Rattle.std.proofs.Common.{arith}
use Rattle.std.proofs.lemmas.List.{get_or-set_same, length-set}
use Rattle.std.specs.List.{position}
use Rattle.std.specs.Str.{bytes_eq}
use Rattle.slon_base.specs.Keeper.{Kept}
use Rattle.slon_base.specs.declared.keeper.Keeper.{Ghosts}
use Rattle.slon_model.specs.Names.{find_named}
use Rattle.slon_model.specs.Place.{Place, is_running}
use Rattle.slon_model.specs.Sessions.{World}
use Rattle.app_store.specs.Base.{base_of}
use Rattle.app_store.specs.Fits.{Fits}
use Rattle.node_store.specs.Acting.{Acts}
use Rattle.slonik_exec.specs.declared.databases.Named.{Named as NamedDatabase}
use Rattle.slonik_exec.specs.declared.reaching.Reached.TheVariants.{At}
use Rattle.slonik_exec.specs.Databases.{AreReady, FitsAll, TriesAll, bases_of, named_base}
use Rattle.slonik_exec.specs.Heard.{AreDistinct}
use Rattle.slonik_exec.specs.Turning.{IsSeatHere}
use Rattle.slonik_exec.proofs.Distinct.{distinct_tries}
use Rattle.slonik_exec.proofs.Lifting.{Worked, put_worked, still_all}
use Rattle.slonik_exec.proofs.Seated.{alone_at}
use Rattle.slonik_exec.proofs.Seating.{ready_mids}
use Rattle.slonik_exec.proofs.Trying.{tries_at}

pub record LookedAt {K : Type 0} {g : Ghosts K} (kept : K → Kept) (olds : List (NamedDatabase K g)) (i : ℕ)
    (x y : NamedDatabase K g) : Type 0 where
  pub distinct : AreDistinct (bases_of kept olds)
  pub inside : i < length olds
  pub held : x ≡ get_or olds i x
  pub name : y.name ≡ x.name
  pub acts : Acts None (base_of kept x.database) (base_of kept y.database)
  pub same : (base_of kept y.database).memory ≡ (base_of kept x.database).memory

-- the database that stands at an index is the first one of its name
pub worked_here : {K : Type 0} {g : Ghosts K} (kept : K → Kept) (olds : List (NamedDatabase K g)) (i : ℕ)
    (x y : NamedDatabase K g) → AreDistinct (bases_of kept olds) → (i < length olds) × (x ≡ get_or olds i x) →
    y.name ≡ x.name → Worked (named_base kept) x.name olds i x y
worked_here kept olds i x y distinct (inside, held) name = record {
  is = record {
    at = subst (λ e. position (λ z. bytes_eq e.name z.name) olds ≡ Some i) (sym held)
        (alone_at kept olds i x distinct inside).at;
    held = held;
  };
  same = name;
}

pub found_here : {K : Type 0} {g : Ghosts K} (kept : K → Kept) (olds : List (NamedDatabase K g)) (i : ℕ)
    (x : NamedDatabase K g) → AreDistinct (bases_of kept olds) → (i < length olds) × (x ≡ get_or olds i x) →
    find_named x.name (bases_of kept olds) ≡ Some (base_of kept x.database)
found_here kept olds i x distinct (inside, held) =
    subst (λ e. find_named e.name (bases_of kept olds) ≡ Some (base_of kept e.database)) (sym held)
    (alone_at kept olds i x distinct inside).base

worked_of : {K : Type 0} {g : Ghosts K} {kept : K → Kept} {olds : List (NamedDatabase K g)} {i : ℕ}
    {x y : NamedDatabase K g} → LookedAt kept olds i x y → Worked (named_base kept) x.name olds i x y
worked_of {kept = kept} {olds} {i} {x} {y} l =
    worked_here kept olds i x y l.distinct (l.inside, l.held) l.name

-- over every store nothing failed
pub mids_try : {K : Type 0} {g : Ghosts K} {kept : K → Kept} {olds : List (NamedDatabase K g)} {i : ℕ}
    {x y : NamedDatabase K g} → LookedAt kept olds i x y →
    TriesAll true None (bases_of kept olds) (bases_of kept (set olds i y))
mids_try {kept = kept} {olds} {i} {x} {y} l =
    subst (TriesAll true None (bases_of kept olds)) (put_worked (worked_of l))
    (tries_at x.name None (base_of kept x.database) (base_of kept y.database) (bases_of kept olds)
    (found_here kept olds i x l.distinct (l.inside, l.held)) l.acts)

pub mids_distinct : {K : Type 0} {g : Ghosts K} {kept : K → Kept} {olds : List (NamedDatabase K g)} {i : ℕ}
    {x y : NamedDatabase K g} → LookedAt kept olds i x y → AreDistinct (bases_of kept (set olds i y))
mids_distinct {kept = kept} {olds} {i} {x} {y} l =
    distinct_tries true None (bases_of kept olds) (bases_of kept (set olds i y)) (mids_try l) l.distinct

-- it agrees with the place that it agreed with
pub mids_ready : {K : Type 0} {g : Ghosts K} {kept : K → Kept} {olds : List (NamedDatabase K g)} {i : ℕ}
    {x y : NamedDatabase K g} {w : World} {p : Place} → LookedAt kept olds i x y → AreReady w (bases_of kept olds) →
    (find_named x.name w.places ≡ Some p) × (is_running p.standing ≡ true) → Fits p (base_of kept y.database) →
    AreReady w (bases_of kept (set olds i y))
mids_ready {kept = kept} {olds} {i} {x} {y} {w} l ready (found, running) fits =
    ready_mids ready (subst (FitsAll w.places) (put_worked (worked_of l))
    (still_all {w = w} (record { found = found; running = running; fits = ready.fits }) fits))

pub mids_inside : {K : Type 0} {g : Ghosts K} {kept : K → Kept} {olds : List (NamedDatabase K g)} {i : ℕ}
    {x y : NamedDatabase K g} → LookedAt kept olds i x y → i < length (set olds i y)
mids_inside {olds = olds} {i} {y = y} l = let same = length-set olds i y in let inside = l.inside in omega
    (arith, same, inside)

pub mids_held : {K : Type 0} {g : Ghosts K} {kept : K → Kept} {olds : List (NamedDatabase K g)} {i : ℕ}
    {x y : NamedDatabase K g} → LookedAt kept olds i x y → (e : NamedDatabase K g) → e ≡ get_or (set olds i y) i e →
    e ≡ y
mids_held {olds = olds} {i} {y = y} l e held = held ∙ get_or-set_same olds i y e l.inside

pub mids_seat : {K : Type 0} {g : Ghosts K} {kept : K → Kept} {olds : List (NamedDatabase K g)} {i : ℕ}
    {x y : NamedDatabase K g} → LookedAt kept olds i x y → IsSeatHere olds (At i) → IsSeatHere (set olds i y) (At i)
mids_seat {K} {g} {kept} {olds} {i} {x} {y} l seat = (
  mids_inside l,
  λ e held. let is = mids_held l e held in
      record {
        here = record {
          inside = mids_inside l;
          at = (worked_here kept (set olds i y) i e e (mids_distinct l) (mids_inside l, held) refl).is.at;
          up = λ d same. up d (mids_held l d same);
        };
        node = λ d same. node d (mids_held l d same);
      },
)
  where
    up : (d : NamedDatabase K g) → d ≡ y → d.database.state.up ≡ true
    up d is =
        ap (λ z. z.database.state.up) is ∙ ap (λ m. m.up) l.same ∙ (seat.1 x l.held).here.up x l.held

    node : (d : NamedDatabase K g) → d ≡ y → is_some d.database.state.node.identity ≡ true
    node d is =
        ap (λ z. is_some z.database.state.node.identity) is ∙ ap (λ m. is_some m.identity) l.same
        ∙ (seat.1 x l.held).node x l.held
