-- How a session goes on by one command, database by database.
use Rattle.std.proofs.Common.{◌≡◌, ◌<◌, ℕ, zero, suc, Bool, true, false, cond, List, [], ◌∷◌, ◌++◌, Option, Some, None}
use Rattle.std.proofs.Common.{is_some, refl, sym, ap, subst, ◌∙◌}
use mathlib.Core.Path.{fun_ext}
use Rattle.std.specs.Prelude.{◌&&◌, take, drop}
use Rattle.std.specs.Str.{bytes_eq}
use Rattle.std.specs.List.{AllByRecursion}
use Rattle.node_rows.specs.declared.body.Body.TheVariants.{StoreNode}
use Rattle.slon_model.specs.Names.{Named, find_named, put_named}
use Rattle.slon_model.specs.Snapshots.{Rising}
use Rattle.slon_model.specs.Tasks.{ToFound}
use Rattle.slon_model.specs.Place.{Place, bare_place, fallen, open_xids}
use Rattle.slon_model.specs.Deciding.{Fate, AllStand, Breaks, DoubtsAt, place_by}
use Rattle.slon_model.specs.Sessions.{World, Commit, tells, changed, committing, in_doubt, stood, stood_at}
use Rattle.slon_model.specs.Sessions.{felled, felled_at}
use Rattle.slon_model.specs.World.{Happening, Step, Grants, Denies, Misses, Asks, Acts, Acting, outcome, broken_at}
use Rattle.slon_model.specs.World.{wavering, wavering_at, world_by}
use Rattle.slon_model.proofs.Names.{bytes_same, bytes_itself, find-put, find-behind, one_found}
use Rattle.slon_laws.specs.Sound.{Sound}
use Rattle.slon_laws.proofs.Opens.{all_member}
use Rattle.slon_laws.proofs.Sounds.{sound_bare}
use Rattle.stream_laws.proofs.Commits.{other_name}
use Rattle.slon_laws.proofs.Named.{granted_free}
use Rattle.view_laws.specs.Past.{Past}
use Rattle.view_laws.proofs.Moments.{regular_now, sound_now}
use Rattle.net_relation.proofs.Links.{Linked, Tells, Alone, Links, Nothing, One, Two, Join, joins}
use Rattle.net_relation.proofs.Links.{outcome_links, stores}
use Rattle.net_relation.proofs.Places.{Born, Shut, Went, born, went_task}

-- ---- what stands under each name

abbrev pub Looks : Type 0
Looks = List ℕ → Option Place

abbrev pub look_in : Named Place → Looks
look_in ps name = find_named name ps

abbrev pub look : World → Looks
look w = look_in w.places

abbrev pub with_look : List ℕ → Place → Looks → Looks
with_look name q f k = cond (bytes_eq k name) (Some q) (f k)

look_put : (name : List ℕ) (p q : Place) (ps : Named Place) → find_named name ps ≡ Some p →
    look_in (put_named name q ps) ≡ with_look name q (look_in ps)
look_put name p q ps found =
    fun_ext (λ k. find-put k name q ps
    ∙ ap (λ o. cond (bytes_eq k name && is_some o) (Some q) (find_named k ps)) found ∙ by (bytes_eq k name) k)
  where
    by : (b : Bool) (k : List ℕ) → cond (b && true) (Some q) (find_named k ps) ≡ cond b (Some q) (find_named k ps)
    by true k = refl
    by false k = refl

look_behind : (name : List ℕ) (q : Place) (ps : Named Place) → find_named name ps ≡ None →
    look_in (ps ++ (name, q) ∷ []) ≡ with_look name q (look_in ps)
look_behind name q ps none =
    fun_ext (λ k. find-behind k name q ps ∙ by k (bytes_eq k name) refl (find_named k ps) refl)
  where
    by : (k : List ℕ) (b : Bool) → bytes_eq k name ≡ b → (o : Option Place) → find_named k ps ≡ o →
        cond (is_some o) o (cond b (Some q) None) ≡ cond b (Some q) o
    by k true same None is = refl
    by k true same (Some p) is =
        let never : Some p ≡ None = sym is ∙ ap (look_in ps) (bytes_same k name same) ∙ none in absurd cc
    by k false other None is = refl
    by k false other (Some p) is = refl

look_twice : (name : List ℕ) (p q : Place) (f : Looks) →
    with_look name q f ≡ with_look name q (with_look name p f)
look_twice name p q f = fun_ext (λ k. by (bytes_eq k name) k)
  where
    by : (b : Bool) (k : List ℕ) → cond b (Some q) (f k) ≡ cond b (Some q) (cond b (Some p) (f k))
    by true k = refl
    by false k = refl

pub look_here : (name : List ℕ) (q : Place) (f : Looks) → with_look name q f name ≡ Some q
look_here name q f = ap (λ b. cond b (Some q) (f name)) (bytes_itself name)

-- what stands under a name is what was put there, or what stood there
pub data IsPut (name : List ℕ) (q : Place) (f : Looks) (k : List ℕ) (r : Place) : Type 0 where
  Here : k ≡ name → r ≡ q → IsPut name q f k r
  There : bytes_eq k name ≡ false → f k ≡ Some r → IsPut name q f k r

pub is_put : (name : List ℕ) (q : Place) (f : Looks) (k : List ℕ) (r : Place) → with_look name q f k ≡ Some r →
    IsPut name q f k r
is_put name q f k r is = by (bytes_eq k name) refl is
  where
    by : (b : Bool) → bytes_eq k name ≡ b → cond b (Some q) (f k) ≡ Some r → IsPut name q f k r
    by true same found = Here (bytes_same k name same) (sym (one_found q r found))
    by false other found = There other found

-- ---- a step

-- How a session went on: not at all; a database was made; one went on by itself; a node committed, or one joined by
-- two commits; and then a database may have gone down.
pub data Gone (t : Past) : Looks → Type 0 where
  Stays : Gone t (look t.world)
  Makes : (name : List ℕ) (q : Place) → look t.world name ≡ None → Born q → Gone t (with_look name q (look t.world))
  Goes : (name : List ℕ) (p q : Place) → look t.world name ≡ Some p → Went p q →
      Gone t (with_look name q (look t.world))
  Does : (c : Commit) (p : Place) → look t.world c.name ≡ Some p → Linked t c p →
      Gone t (with_look c.name (committing c p) (look t.world))
  Joins : (j : Join t.world) → Gone t (with_look j.new.name (committing (joins j) j.new.place)
      (with_look j.seat.name (committing (stores j) j.seat.place) (look t.world)))
  Shuts : (g : Looks) → Gone t g → (name : List ℕ) (p q : Place) → g name ≡ Some p → Shut p q →
      Gone t (with_look name q g)

-- the open transactions of each database are in order
abbrev Runs : Place → Type 0
Runs p = Rising (open_xids p) × AllByRecursion (λ x. x < p.xids.next) (open_xids p)

record GoneTo (t : Past) (f : Looks) : Type 0 where
  gone : Gone t f
  runs : (name : List ℕ) (p : Place) → f name ≡ Some p → Runs p

sound_runs : (p : Place) → Sound p → Runs p
sound_runs p s = (s.running, all_member (λ x. x < p.xids.next) (open_xids p) s.opened)

runs_put : (name : List ℕ) (q : Place) (f : Looks) → Runs q → ((k : List ℕ) (p : Place) → f k ≡ Some p → Runs p) →
    (k : List ℕ) (p : Place) → with_look name q f k ≡ Some p → Runs p
runs_put name q f new old k p found = by (is_put name q f k p found)
  where
    by : IsPut name q f k p → Runs p
    by (Here at is) = subst Runs (sym is) new
    by (There other is) = old k p is

-- a database goes down
shuts : (t : Past) (f : Looks) → GoneTo t f → (name : List ℕ) (p q : Place) → f name ≡ Some p →
    (q.xids.next ≡ p.xids.next) × (open_xids q ≡ []) × (q.node ≡ p.node) → GoneTo t (with_look name q f)
shuts t f g name p q found is = record {
  gone = Shuts f g.gone name p q found (record {
    next = is.0;
    opens = is.1;
    node = is.2;
    running = (g.runs name p found).0;
    below = (g.runs name p found).1;
  });
  runs = runs_put name q f (subst (λ ids. Rising ids × AllByRecursion (λ x. x < q.xids.next) ids) (sym is.1) (tt, tt))
      g.runs;
}

-- ---- commits

nowhere : (t : Past) → GoneTo t (look t.world)
nowhere t = record { gone = Stays; runs = λ name p found. sound_runs p (sound_now t name p found) }

commit_goes : (t : Past) (c : Commit) (p : Place) → look t.world c.name ≡ Some p → Linked t c p →
    GoneTo t (with_look c.name (committing c p) (look t.world))
commit_goes t c p found does = record {
  gone = Does c p found does;
  runs = runs_put c.name (committing c p) (look t.world) (sound_runs p (sound_now t c.name p found)) (nowhere t).runs;
}

-- the name of the new node is another one
pub join_found : (t : Past) (j : Join t.world) → (q : Place) →
    with_look j.seat.name q (look t.world) j.new.name ≡ Some j.new.place
join_found t j q =
    ap (λ b. cond b (Some q) (look t.world j.new.name)) (other_name t.world.places j.seat j.new j.is) ∙ j.new.found

abbrev pub stores_look : {w : World} → Join w → Looks
stores_look {w} j = with_look j.seat.name (committing (stores j) j.seat.place) (look w)

-- the first commit of a node that joins is one of the node that stores it
pub stores_linked : (t : Past) (j : Join t.world) → Linked t (stores j) j.seat.place
stores_linked t j = Tells (record {
  seat = j.seat;
  is = j.is;
  at = refl;
  emits = tells (StoreNode j.new.id j.comment) ∷ [];
  may = Alone (tells (StoreNode j.new.id j.comment)) refl refl;
  commit = refl;
})

stores_goes : (t : Past) (j : Join t.world) → GoneTo t (stores_look j)
stores_goes t j = commit_goes t (stores j) j.seat.place j.is.found (stores_linked t j)

join_goes : (t : Past) (j : Join t.world) →
    GoneTo t (with_look j.new.name (committing (joins j) j.new.place) (stores_look j))
join_goes t j = record {
  gone = Joins j;
  runs = runs_put j.new.name (committing (joins j) j.new.place) (stores_look j)
      (sound_runs j.new.place (sound_now t j.new.name j.new.place j.new.found))
      (runs_put j.seat.name (committing (stores j) j.seat.place) (look t.world)
      (sound_runs j.seat.place (sound_now t j.seat.name j.seat.place j.is.found)) (nowhere t).runs);
}

-- the databases after the first of these commits
abbrev Stood : Past → List Commit → Type 0
Stood t cs = GoneTo t (look_in (stood cs t.world.places))

stood_one : (t : Past) (c : Commit) (p : Place) → look t.world c.name ≡ Some p →
    look_in (stood (c ∷ []) t.world.places) ≡ with_look c.name (committing c p) (look t.world)
stood_one t c p found =
    ap (λ o. look_in (stood_at c o t.world.places)) found
    ∙ look_put c.name p (committing c p) t.world.places found

stood_two : (t : Past) (j : Join t.world) →
    look_in (stood (stores j ∷ joins j ∷ []) t.world.places)
    ≡ with_look j.new.name (committing (joins j) j.new.place) (stores_look j)
stood_two t j =
    ap (λ o. look_in (stood (joins j ∷ []) (stood_at (stores j) o t.world.places))) j.is.found
    ∙ ap (λ o. look_in (stood_at (joins j) o first)) found
    ∙ look_put j.new.name j.new.place (committing (joins j) j.new.place) first found
    ∙ ap (with_look j.new.name (committing (joins j) j.new.place)) one
  where
    first : Named Place
    first = put_named j.seat.name (committing (stores j) j.seat.place) t.world.places

    one : look_in first ≡ stores_look j
    one = look_put j.seat.name j.seat.place (committing (stores j) j.seat.place) t.world.places j.is.found

    found : find_named j.new.name first ≡ Some j.new.place
    found = ap (λ (f : Looks). f j.new.name) one ∙ join_found t j (committing (stores j) j.seat.place)

stood_goes : (t : Past) (cs : List Commit) → Links t cs → Stood t cs
stood_goes t cs (Nothing is) = subst (Stood t) (sym is) (nowhere t)
stood_goes t cs (One c p is found does) =
    subst (Stood t) (sym is) (subst (GoneTo t) (sym (stood_one t c p found)) (commit_goes t c p found does))
stood_goes t cs (Two j is) =
    subst (Stood t) (sym is) (subst (GoneTo t) (sym (stood_two t j)) (join_goes t j))

-- ---- a database goes down

changed_goes : (t : Past) (u : World) (name : List ℕ) (p q : Place) → GoneTo t (look u) → look u name ≡ Some p →
    (q.xids.next ≡ p.xids.next) × (open_xids q ≡ []) × (q.node ≡ p.node) → GoneTo t (look (changed name q u))
changed_goes t u name p q g found is =
    subst (GoneTo t) (sym (look_put name p q u.places found)) (shuts t (look u) g name p q found is)

felled_goes : (t : Past) (u : World) (o : Option (List ℕ)) → GoneTo t (look u) → GoneTo t (look (felled o u))
felled_goes t u None g = g
felled_goes t u (Some name) g = by (find_named name u.places) refl
  where
    by : (o : Option Place) → find_named name u.places ≡ o → GoneTo t (look (felled_at name o u))
    by None none = g
    by (Some p) found = changed_goes t u name p (fallen p.told p) g found (refl, refl, refl)

broken_goes : (t : Past) (u : World) (name : List ℕ) (count : ℕ) (o : Option Place) → find_named name u.places ≡ o →
    GoneTo t (look u) → GoneTo t (look (broken_at name count o u))
broken_goes t u name count None none g = g
broken_goes t u name count (Some p) found g =
    changed_goes t u name p (fallen count p) g found (refl, refl, refl)

-- ---- a commit in doubt

wavers_goes : (t : Past) (u : World) (c : Commit) (stands : Bool) (p : Place) → look u c.name ≡ Some p →
    GoneTo t (look u) → GoneTo t (with_look c.name (committing c p) (look u)) →
    GoneTo t (look (wavering_at c stands (find_named c.name u.places) u))
wavers_goes t u c stands p found before behind =
    subst (λ o. GoneTo t (look (wavering_at c stands o u))) (sym found)
    (subst (GoneTo t) (sym (look_put c.name p (in_doubt c stands p) u.places found)) (by stands))
  where
    by : (b : Bool) → GoneTo t (with_look c.name (in_doubt c b p) (look u))
    by true =
        subst (GoneTo t) (sym (look_twice c.name (committing c p) (in_doubt c true p) (look u)))
        (shuts t (with_look c.name (committing c p) (look u)) behind c.name (committing c p) (in_doubt c true p)
        (look_here c.name (committing c p) (look u)) (refl, refl, refl))
    by false = shuts t (look u) before c.name p (in_doubt c false p) found (refl, refl, refl)

abbrev no_commits : List Commit
no_commits = []

drop_none : (n : ℕ) → drop n no_commits ≡ []
drop_none zero = refl
drop_none (suc n) = refl

take_none : (n : ℕ) → take n no_commits ≡ []
take_none zero = refl
take_none (suc n) = refl

-- what is in doubt is the commit behind the first n
abbrev Wavers : Past → ℕ → List Commit → Type 0
Wavers t n cs =
    (stands : Bool) (u : World) → u.places ≡ stood (take n cs) t.world.places →
    GoneTo t (look (wavering (drop n cs) stands u))

wavers_nothing : (t : Past) (n : ℕ) → Wavers t n []
wavers_nothing t n stands u is =
    subst (λ ds. GoneTo t (look (wavering ds stands u))) (sym (drop_none n))
    (subst (λ ps. GoneTo t (look_in ps))
    (sym (is ∙ ap (λ ds. stood ds t.world.places) (take_none n))) (nowhere t))

wavers_one : (t : Past) (n : ℕ) (c : Commit) (p : Place) → look t.world c.name ≡ Some p → Linked t c p →
    Wavers t n (c ∷ [])
wavers_one t zero c p found does stands u is =
    let same : look u ≡ look t.world = ap look_in is in
    wavers_goes t u c stands p (ap (λ (f : Looks). f c.name) same ∙ found)
    (subst (GoneTo t) (sym same) (nowhere t))
    (subst (λ f. GoneTo t (with_look c.name (committing c p) f)) (sym same) (commit_goes t c p found does))
wavers_one t (suc n) c p found does stands u is =
    subst (λ ds. GoneTo t (look (wavering ds stands u))) (sym (drop_none n))
    (subst (λ ps. GoneTo t (look_in ps))
    (sym (is ∙ ap (λ ds. stood (c ∷ ds) t.world.places) (take_none n)))
    (subst (GoneTo t) (sym (stood_one t c p found)) (commit_goes t c p found does)))

wavers_two : (t : Past) (n : ℕ) (j : Join t.world) → Wavers t n (stores j ∷ joins j ∷ [])
wavers_two t zero j stands u is =
    let same : look u ≡ look t.world = ap look_in is in
    wavers_goes t u (stores j) stands j.seat.place (ap (λ (f : Looks). f j.seat.name) same ∙ j.is.found)
    (subst (GoneTo t) (sym same) (nowhere t))
    (subst (λ f. GoneTo t (with_look j.seat.name (committing (stores j) j.seat.place) f)) (sym same)
    (stores_goes t j))
wavers_two t (suc zero) j stands u is =
    let same : look u ≡ stores_look j = ap look_in is ∙ stood_one t (stores j) j.seat.place j.is.found in
    wavers_goes t u (joins j) stands j.new.place
    (ap (λ (f : Looks). f j.new.name) same ∙ join_found t j (committing (stores j) j.seat.place))
    (subst (GoneTo t) (sym same) (stores_goes t j))
    (subst (λ f. GoneTo t (with_look j.new.name (committing (joins j) j.new.place) f)) (sym same)
    (join_goes t j))
wavers_two t (suc (suc n)) j stands u is =
    subst (λ ds. GoneTo t (look (wavering ds stands u))) (sym (drop_none n))
    (subst (λ ps. GoneTo t (look_in ps))
    (sym (is ∙ ap (λ ds. stood (stores j ∷ joins j ∷ ds) t.world.places) (take_none n)))
    (subst (GoneTo t) (sym (stood_two t j)) (join_goes t j)))

wavers_all : (t : Past) (n : ℕ) (cs : List Commit) → Links t cs → Wavers t n cs
wavers_all t n cs (Nothing is) = subst (Wavers t n) (sym is) (wavers_nothing t n)
wavers_all t n cs (One c p is found does) = subst (Wavers t n) (sym is) (wavers_one t n c p found does)
wavers_all t n cs (Two j is) = subst (Wavers t n) (sym is) (wavers_two t n j)

-- ---- every command

acting_goes : (t : Past) (v : World) (h : Happening) → Acting t.world h v → GoneTo t (look v)
acting_goes t v h a = subst (λ u. GoneTo t (look u)) (sym a.is) (by a.fate)
  where
    w : World
    w = t.world

    links : Links t (outcome a.act w).commits
    links = outcome_links t (regular_now t) a.act

    by : (fate : Fate) → GoneTo t (look (world_by a.act fate w))
    by AllStand = felled_goes t _ (outcome a.act w).falls (stood_goes t (outcome a.act w).commits links)
    by (Breaks name count) = broken_goes t _ name count (find_named name w.places) refl (nowhere t)
    by (DoubtsAt before stands) = wavers_all t before (outcome a.act w).commits links stands _ refl

pub step_goes : (t : Past) (v : World) (h : Happening) → Step t.world h v → Gone t (look v)
step_goes t v h (Grants name result about granted takes told is) =
    subst (Gone t) (sym (ap look is ∙ look_behind name (place_by ToFound bare_place h.choice) t.world.places
    (granted_free name t.world granted)))
    (Makes name (place_by ToFound bare_place h.choice) (granted_free name t.world granted) (born h.choice sound_bare))
step_goes t v h (Denies name about denied sure told is) = subst (Gone t) (sym (ap look is)) Stays
step_goes t v h (Misses name task about none sure told is) = subst (Gone t) (sym (ap look is)) Stays
step_goes t v h (Asks s) =
    subst (Gone t)
    (sym (ap look s.is ∙ look_put s.name s.place (place_by s.task s.place h.choice) t.world.places s.found))
    (Goes s.name s.place (place_by s.task s.place h.choice) s.found
    (went_task s.task s.place h.choice (sound_now t s.name s.place s.found)))
step_goes t v h (Acts a) = (acting_goes t v h a).gone
