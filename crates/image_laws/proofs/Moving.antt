-- What each change of a database keeps of the stretches of its node.
use Rattle.std.proofs.Common.{◌≡◌, ℕ, ◌≤◌, ◌<◌, Bool, true, false, cond, List, [], ◌∷◌, Option, Some, None, refl, sym}
use Rattle.std.proofs.Common.{ap, subst, ◌∙◌, arith, inl, inr}
use Rattle.std.specs.Prelude.{◌==◌, option_map}
use Rattle.std.specs.Option.{option_or}
use Rattle.std.specs.List.{AllByRecursion}
use Rattle.std.proofs.lemmas.Bool.{false≢true, true≢false, false_from_ne_true}
use Rattle.slon_model.specs.Rows.{Change, member}
use Rattle.slon_model.specs.Config.{Config}
use Rattle.slon_model.specs.Deeds.{Node, knowledge, learned_all, with_deeds, Deed}
use Rattle.slon_model.specs.Tasks.{Task}
use Rattle.slon_model.specs.Place.{Place, open_xids, own_count, bare_place, fallen}
use Rattle.slon_model.specs.Moves.{Move, Founds, Begins, Writes, Commits, Aborts, Falls, Rises, prepared}
use Rattle.slon_model.specs.Moves.{commit_deed, with_commit, committed, done, written, begun}
use Rattle.slon_model.specs.Sessions.{Commit, committing, in_doubt}
use Rattle.slon_model.specs.Eras.{Stretch, stretches, stretches_from}
use Rattle.slon_model.proofs.Names.{all_map, one_found}
use Rattle.slon_laws.specs.Sound.{Sound, ids_of}
use Rattle.slon_laws.specs.Allowed.{MayMove}
use Rattle.slon_laws.specs.Keeps.{KeepsTasks}
use Rattle.slon_laws.specs.Turning.{IsWithin, Turned, Commits as CommitsOne, Falls as GoesDown, Doubts}
use Rattle.slon_laws.proofs.Decides.{IsSame}
use Rattle.slon_laws.proofs.Opens.{found_member, member_behind, member_without}
use Rattle.slon_laws.proofs.Sounds.{keeps_sound, sound_prepared, sound_closed}
use Rattle.stream_laws.proofs.Lists.{all_each}
use Rattle.stream_laws.proofs.Steps.{prepared_node, first_rows_node}
use Rattle.image_laws.specs.Fits.{Keeps, AllDone, IsFit, MayStand, Does, Becomes, IsFirst}
use Rattle.image_laws.proofs.Stretching.{owns_not}
use Rattle.image_laws.specs.Facts.{FillsAt, Lasts, HoldsStretch, StretchesHold, NodeHolds, Holds}
use Rattle.image_laws.proofs.Adding.{deed_holds}
use Rattle.image_laws.proofs.Filling.{fills_beside, fills_left, fills_written, fills_committed}
use Rattle.image_laws.proofs.Since.{first_fillings, prepared_fillings, prepared_same, first_same}

-- ---- the same node

-- A database goes on with the same stretches: numbers only rise, and each stretch makes the rows still.
pub record GoesOn (p q : Place) : Type 0 where
  pub numbers : p.numbers.next ≤ q.numbers.next
  pub fills : (s : Stretch) → s.first ≤ p.numbers.next → FillsAt p s → FillsAt q s

-- each stretch that lasts makes the rows still
fills_on : (p q : Place) (own : ℕ) (c : Config) (all : List Stretch) → p.numbers.next ≤ q.numbers.next →
    ((s : Stretch) → s.first ≤ p.numbers.next → Lasts p own c s → FillsAt q s) → StretchesHold p own c all →
    StretchesHold q own c all
fills_on p q own c all later fills h = record {
  whole = h.whole;
  each =
      all_map (HoldsStretch p own c) (HoldsStretch q own c) (λ s is. record {
        listed = is.listed;
        begun = let first = is.begun in omega (arith, first, later);
        lasts = λ none. record {
          stands = (is.lasts none).stands;
          member = (is.lasts none).member;
          only = (is.lasts none).only;
          fills = fills s is.begun (is.lasts none);
        };
      }) all h.each;
  there = h.there;
}

pub goes_on : (p q : Place) → GoesOn p q → (own : ℕ) (c : Config) (all : List Stretch) → StretchesHold p own c all →
    StretchesHold q own c all
goes_on p q g own c all h = fills_on p q own c all g.numbers (λ s first lasts. g.fills s first lasts.fills) h

same_node : (p q : Place) → Sound q → q.node ≡ p.node → GoesOn p q → Holds p → Holds q
same_node p q sound same g h =
    (sound, λ n is. goes_on p q g n.id (knowledge n).config (stretches n) (h.1 n (sym same ∙ is)))

-- the actions and commits stay, and what tables were filled with
abbrev RowsStay : Place → Place → Type 0
RowsStay p q = (q.actions ≡ p.actions) × (q.commits ≡ p.commits) × (q.fillings ≡ p.fillings)

-- and no action is of a transaction that was not open
left_on : (p q : Place) → RowsStay p q → p.numbers.next ≤ q.numbers.next →
    AllByRecursion (λ a. member a.xid (open_xids q) ≡ true → member a.xid (open_xids p) ≡ true) p.actions → GoesOn p q
left_on p q same numbers fewer =
    record { numbers = numbers; fills = λ s first f. fills_left p q s same fewer f }

fewer_each : (p q : Place) → ((x : ℕ) → member x (open_xids q) ≡ true → member x (open_xids p) ≡ true) →
    AllByRecursion (λ a. member a.xid (open_xids q) ≡ true → member a.xid (open_xids p) ≡ true) p.actions
fewer_each p q fewer =
    all_each (λ a. member a.xid (open_xids q) ≡ true → member a.xid (open_xids p) ≡ true) (λ a. fewer a.xid) p.actions

is_same_on : (p q : Place) → IsSame p q → q.fillings ≡ p.fillings → GoesOn p q
is_same_on p q same fillings =
    left_on p q (same.actions, same.commits, fillings) (let number = same.number in omega (arith, number))
    (fewer_each p q (λ x is. ap (λ os. member x (ids_of os)) (sym same.opens) ∙ is))

none_open : (p q : Place) → RowsStay p q → p.numbers.next ≤ q.numbers.next →
    open_xids q ≡ [] → GoesOn p q
none_open p q same numbers none =
    left_on p q same numbers
    (fewer_each p q (λ x is. absurd (false≢true (ap (member x) (sym none) ∙ is))))

-- ---- each move

prepared_holds : (move : Move) (p : Place) → Holds p → Holds (prepared move p)
prepared_holds move p h =
    same_node p (prepared move p) (sound_prepared move p h.0) (prepared_node move p)
    (is_same_on p (prepared move p) (prepared_same move p) (prepared_fillings move p)) h

-- a transaction begins, which has written nothing
begun_on : (name : List ℕ) (p : Place) → Sound p → GoesOn p (begun name p)
begun_on name p s =
    left_on p (begun name p) (refl, refl, refl) (omega arith)
    (all_map (λ a. a.xid < p.xids.next)
    (λ a. member a.xid (open_xids (begun name p)) ≡ true → member a.xid (open_xids p) ≡ true)
    (λ a known is. elim (member_behind a.xid p.xids.next name p.opens is) [
      | inl old ↦ old
      | inr new ↦ absurd (omega (arith, known, new))
    ]) p.actions s.known)

written_on : (xid : ℕ) (table : List ℕ) (change : Change) (p : Place) → member xid p.commits ≡ false →
    GoesOn p (written xid table change p)
written_on xid table change p apart = record {
  numbers = omega arith;
  fills = λ s first f. fills_written p (record {
    number = p.numbers.next;
    xid = xid;
    table = table;
    change = change;
  }) s apart first f;
}

committed_on : (name : List ℕ) (xid : ℕ) (p : Place) → member xid (open_xids p) ≡ true → Sound p →
    GoesOn p (committed name xid p)
committed_on name xid p is_open s = record {
  numbers = omega arith;
  fills = λ t first f.
      fills_committed p xid t (open_xids (committed name xid p)) is_open s (λ x. member_without x name p.opens) f;
}

-- its node logs what it committed, if it wrote at all
committed_holds : (name : List ℕ) (xid : ℕ) (p : Place) → member xid (open_xids p) ≡ true →
    Sound (committed name xid p) → Holds p → Holds (committed name xid p)
committed_holds name xid p is_open sound h = (sound, λ n is. by (own_count xid p == 0) n is)
  where
    q : Place
    q = committed name xid p

    stays : (n : Node) → p.node ≡ Some n → NodeHolds q n
    stays n is =
        goes_on p q (committed_on name xid p is_open h.0) n.id (knowledge n).config (stretches n) (h.1 n is)

    logs : (o : Option Node) → p.node ≡ o → (n : Node) → option_map (with_commit xid p) o ≡ Some n → NodeHolds q n
    logs None at n is = absurd cc
    logs (Some m) at n is =
        let one : with_commit xid p m ≡ n = cc in
        subst (NodeHolds q) one
        (deed_holds q (record {
          node = m;
          deed = commit_deed xid p m;
          first = refl;
          fit = Keeps refl (record { sets = refl; tables = refl; nodes = λ id known. known });
        }) sound (stays m at))

    by : (b : Bool) (n : Node) → cond b p.node (option_map (with_commit xid p) p.node) ≡ Some n → NodeHolds q n
    by true n is = stays n is
    by false n is = logs p.node refl n is

done_holds : (task : Task) (move : Move) (p : Place) → MayMove task p move → Sound (done move p) → Holds p →
    Holds (done move p)
done_holds task (Begins name) p may sound h =
    let r = prepared_holds (Begins name) p h in
    same_node (prepared (Begins name) p) (done (Begins name) p) sound refl
    (begun_on name (prepared (Begins name) p) r.0) r
done_holds task (Writes xid table change) p may sound h =
    let move = Writes xid table change in
    let same = prepared_same move p in
    let apart =
    ap (member xid) same.commits
    ∙ false_from_ne_true _ (h.0.apart xid (found_member may.allows.name xid p.opens may.allows.opened)) in
    same_node (prepared move p) (done move p) sound refl (written_on xid table change (prepared move p) apart)
    (prepared_holds move p h)
done_holds task (Commits name xid) p may sound h =
    committed_holds name xid p (found_member name xid p.opens may.allows) sound h
done_holds task (Aborts name) p may sound h =
    same_node p (done (Aborts name) p) sound refl (left_on p (done (Aborts name) p) (refl, refl, refl) (omega arith)
    (fewer_each p (done (Aborts name) p) (λ x. member_without x name p.opens))) h
done_holds task Falls p may sound h =
    same_node p (done Falls p) sound refl (none_open p (done Falls p) (refl, refl, refl) (omega arith) refl) h
done_holds task Rises p may sound h =
    let r = prepared_holds Rises p h in
    same_node (prepared Rises p) (done Rises p) sound refl
    (none_open (prepared Rises p) (done Rises p) (refl, refl, refl)
    (let below = r.0.numbers_below in omega (arith, below)) refl) r
done_holds task Founds p may sound h =
    let same = first_same p in
    same_node p (done Founds p) sound (first_rows_node p)
    (left_on p (done Founds p) (same.actions, same.commits, first_fillings p)
    (let number = same.number in omega (arith, number))
    (fewer_each p (done Founds p) (λ x is. ap (λ os. member x (ids_of os)) (sym same.opens) ∙ is))) h
done_holds task others p may sound h =
    same_node p (done others p) sound refl
    (left_on p (done others p) (refl, refl, refl) (omega arith) (fewer_each p (done others p) (λ x is. is))) h

pub keeps_holding : KeepsTasks (λ task. Unit {0}) Holds Holds
keeps_holding = record {
  stays = λ p h. h;
  prepares = λ task move p may h. prepared_holds move p h;
  moves = λ task move p one may h. done_holds task move p may (keeps_sound.tasks.moves task move p one may h.0) h;
  falls = λ count p h. same_node p _ (sound_closed h.0) refl (none_open p _ (refl, refl, refl) (omega arith) refl) h;
  wavers = λ stands p h. same_node p _ (sound_closed h.0) refl (none_open p _ (refl, refl, refl) (omega arith) refl) h;
}

pub bare_holds : Sound bare_place → Holds bare_place
bare_holds sound = (sound, λ n is. absurd cc)

-- ---- a commit of a script or a turn

-- a new node has no stretches, as it is the origin of no set
first_holds : (p : Place) (n : Node) → IsFirst n → NodeHolds p n
first_holds p n f =
    subst (λ ds. StretchesHold p n.id (learned_all n.id n.given ds).config (stretches_from n.id n.given ds))
    (sym f.deeds) (record {
      whole = f.whole;
      each = tt;
      there = λ set table held.
          absurd (true≢false (sym held.1 ∙ owns_not n.id set n.given.config (f.leads set)));
    })

-- one deed after the other
pub deeds_hold : (p : Place) (n : Node) (ds : List Deed) → Sound p → AllDone p n ds → NodeHolds p n →
    NodeHolds p (with_deeds ds n)
deeds_hold p n [] sound done h = h
deeds_hold p n (d ∷ ds) sound done h =
    deed_holds p (record { node = with_deeds ds n; deed = d; first = done.1.first; fit = done.2 }) sound
    (deeds_hold p n ds sound done.0 h)

-- the database with the node behind these deeds
pub doing_holds : (p : Place) (n : Node) (ds : List Deed) → p.node ≡ Some n → AllDone p n ds → Holds p →
    Holds (record p { node = Some (with_deeds ds n) })
doing_holds p n ds is done h = (
  h.0,
  λ m at.
      subst (NodeHolds q) (one_found (with_deeds ds n) m at)
      (goes_on p q (record { numbers = omega arith; fills = λ s first f. f }) n.id _ _
      (deeds_hold p n ds h.0 done (h.1 n is))),
)
  where
    q : Place
    q = record p { node = Some (with_deeds ds n) }

pub commit_holds : (c : Commit) (p : Place) → IsWithin c p → IsFit c p → Holds p → Holds (committing c p)
commit_holds c p within (Does n is none done others) h =
    (keeps_sound.commits c p within h.0, λ m at. by m (sym node ∙ at))
  where
    q : Place
    q = committing c p

    behind : Node
    behind = with_deeds c.deeds n

    node : q.node ≡ Some (with_deeds c.deeds n)
    node =
        ap (λ o. option_map (with_deeds c.deeds) (option_or o p.node)) none
        ∙ ap (option_map (with_deeds c.deeds)) is

    by : (m : Node) → Some (with_deeds c.deeds n) ≡ Some m → NodeHolds q m
    by m one =
        subst (NodeHolds q) (one_found _ m one)
        (fills_on p q n.id (knowledge behind).config (stretches behind) (omega arith)
        (λ s first lasts. fills_beside p n.id (knowledge behind).config c.deeds s others lasts)
        (deeds_hold p n c.deeds h.0 done (h.1 n is)))
commit_holds c p within (Becomes n none is deeds first) h =
    (keeps_sound.commits c p within h.0, λ m at. by m (sym node ∙ at))
  where
    q : Place
    q = committing c p

    node : q.node ≡ Some n
    node =
        ap (λ o. option_map (with_deeds c.deeds) (option_or o p.node)) is ∙ ap (λ ds. Some (with_deeds ds n)) deeds

    by : (m : Node) → Some n ≡ Some m → NodeHolds q m
    by m one = subst (NodeHolds q) (one_found n m one) (first_holds q n first)

-- a database with a commit in doubt
doubt_holds : (c : Commit) (stands : Bool) (p : Place) → MayStand c p → Holds p → Holds (in_doubt c stands p)
doubt_holds c stands p fit h =
    same_node r (in_doubt c stands p) (sound_closed held.0) refl
    (none_open r _ (refl, refl, refl) (omega arith) refl) held
  where
    r : Place
    r = cond stands (committing c p) p

    either : (b : Bool) → Holds (cond b (committing c p) p)
    either true = commit_holds c p fit.0 fit.1 h
    either false = h

    held : Holds r
    held = either stands

-- whichever way a step changes a database
pub turned_holds : (p q : Place) → Turned MayStand p q → Holds p → Holds q
turned_holds p q (CommitsOne c fit is) h = subst Holds (sym is) (commit_holds c p fit.0 fit.1 h)
turned_holds p q (GoesDown count is) h =
    subst Holds (sym is)
    (same_node p _ (sound_closed h.0) refl (none_open p (fallen count p) (refl, refl, refl) (omega arith) refl) h)
turned_holds p q (Doubts c stands fit is) h = subst Holds (sym is) (doubt_holds c stands p fit h)
