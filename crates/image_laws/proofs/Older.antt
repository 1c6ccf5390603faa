-- That the actions up to a number are of earlier transactions stays so.
use Rattle.std.proofs.Common.{◌≡◌, ℕ, suc, ◌<◌, ◌≤◌, true, false, inl, inr, Some, List, [], ◌∷◌, ◌++◌, sym}
use Rattle.std.proofs.Common.{subst, ◌∙◌, arith}
use Rattle.std.specs.List.{AllByRecursion}
use Rattle.std.proofs.lemmas.Bool.{false≢true}
use Rattle.slon_model.specs.Names.{find_named}
use Rattle.slon_model.specs.Rows.{Action}
use Rattle.slon_model.specs.Snapshots.{Snapshot, sees}
use Rattle.slon_model.specs.Tasks.{Task}
use Rattle.slon_model.specs.Place.{Place, taken}
use Rattle.slon_model.specs.Moves.{Move, Founds, Writes, prepared, done}
use Rattle.slon_model.specs.World.{World, Happening, Leads}
use Rattle.slon_model.proofs.Names.{all_map, one_found}
use Rattle.slon_laws.specs.Older.{AreOlder, IsOlder}
use Rattle.slon_laws.specs.Sound.{Sound}
use Rattle.slon_laws.specs.Allowed.{MayMove}
use Rattle.slon_laws.specs.Worlds.{AllPlaces}
use Rattle.slon_laws.specs.Turning.{IsWithin}
use Rattle.slon_laws.specs.Keeps.{Keeps}
use Rattle.slon_laws.proofs.Covering.{Outlasts, outlasts_itself, keeps_outlasting}
use Rattle.slon_laws.proofs.Later.{KeptBySteps, holds_later}
use Rattle.slon_laws.proofs.Lists.{all_among}
use Rattle.slon_laws.proofs.Worlds.{sound_world}
use Rattle.stream_laws.specs.Nodes.{IsAmong}
use Rattle.image_laws.specs.Laws.{SnapshotsDivide, OlderStay}
use Rattle.image_laws.proofs.Deltas.{taken_since}
use Rattle.image_laws.proofs.Since.{first_same, prepared_same}

-- no action is new
older_same : (number xid : ℕ) (p q : Place) → IsOlder number xid p → p.numbers.next ≤ q.numbers.next →
    q.actions ≡ p.actions → IsOlder number xid q
older_same number xid p q o more same = record {
  reached = omega (arith, o.reached, more);
  older = subst (AreOlder number xid) (sym same) o.older;
}

done_older : (number xid : ℕ) (p : Place) (move : Move) → IsOlder number xid p → Outlasts p (prepared move p) →
    Outlasts p (done move p) → IsOlder number xid (done move p)
done_older number xid p (Writes id table change) o before lasts = record {
  reached = omega (arith, o.reached, lasts.numbers);
  older = (
    λ (below : (prepared (Writes id table change) p).numbers.next < number).
        absurd (omega (arith, below, o.reached, before.numbers)),
    subst (AreOlder number xid) (sym (prepared_same (Writes id table change) p).actions) o.older,
  );
}
done_older number xid p Founds o before lasts =
    older_same number xid p (done Founds p) o lasts.numbers (first_same p).actions
done_older number xid p others o before lasts =
    older_same number xid p (done others p) o lasts.numbers (prepared_same others p).actions

pub keeps_older : (number xid : ℕ) → KeptBySteps (IsOlder number xid)
keeps_older number xid = record {
  tasks = record {
    stays = λ p s. s.1;
    prepares = λ task move p may s.
        older_same number xid p (prepared move p) s.1 (before task move p may s.0).numbers
        (prepared_same move p).actions;
    moves = λ task move p one may s.
        done_older number xid p move s.1 (before task move p may s.0)
        ((lasts p).tasks.moves task move p tt may (s.0, outlasts_itself p));
    falls = λ count p o. record { reached = o.reached; older = o.older };
    wavers = λ stands p o. record { reached = o.reached; older = o.older };
  };
  commits = λ c p first o. record { reached = o.reached; older = o.older };
  promises = λ node p o. record { reached = o.reached; older = o.older };
}
  where
    lasts : (p : Place) → Keeps IsWithin (λ task. Unit {0}) (λ q. Sound q × Outlasts p q) (Outlasts p)
    lasts p = keeps_outlasting p

    before : (task : Task) (move : Move) (p : Place) → MayMove task p move → Sound p → Outlasts p (prepared move p)
    before task move p may sound = (lasts p).tasks.prepares task move p may (sound, outlasts_itself p)

-- A database in a world, and what it is in a later one.
record Passed (w v : World) : Type 0 where
  later : List Happening
  goes_on : Leads w later v
  name : List ℕ
  old : Place
  new : Place
  found : find_named name w.places ≡ Some old
  found_later : find_named name v.places ≡ Some new

older_on : (w v : World) → AllPlaces Sound w → (t : Passed w v) → (number xid : ℕ) → IsOlder number xid t.old →
    IsOlder number xid t.new
older_on w v all t number xid o =
    let on = (holds_later (keeps_older number xid) t.later w v all t.goes_on t.name (t.old, t.found, o)).1 in
    subst (IsOlder number xid) (one_found on.0 t.new (sym on.1 ∙ t.found_later)) on.2

pub older_stay : OlderStay
older_stay limit history later w v leads goes_on name p q found found_later number xid =
    older_on w v (sound_world limit history w leads) (record {
      later = later;
      goes_on = goes_on;
      name = name;
      old = p;
      new = q;
      found = found;
      found_later = found_later;
    }) number xid

-- as a snapshot is taken, all actions are of transactions that have begun
older_now : (p : Place) → Sound p → (number : ℕ) → number ≤ p.numbers.next → IsOlder number (taken p).xmax p
older_now p s number reached = record {
  reached = reached;
  older = all_map (λ a. a.xid < p.xids.next) (λ a. a.number < number → a.xid < p.xids.next) (λ a below first. below)
      p.actions s.known;
}

-- an action that it sees was there
pub seen_there : (k : Snapshot) (a : Action) (more old : List Action) →
    AllByRecursion (λ b. sees k b.xid ≡ false) more → IsAmong a (more ++ old) → sees k a.xid ≡ true → IsAmong a old
seen_there k a [] old unseen among seen = among
seen_there k a (b ∷ more) old unseen among seen = elim among [
  | inl is ↦ absurd (false≢true (sym unseen.0 ∙ subst (λ c. sees k c.xid ≡ true) is seen))
  | inr behind ↦ seen_there k a more old unseen.1 behind seen
]

pub snapshots_divide : SnapshotsDivide
snapshots_divide limit name w p found k t a among seen =
    let since = taken_since limit name w p found k t in
    let there : IsAmong a t.place.actions =
    seen_there (taken t.place) a since.1.more t.place.actions since.1.unseen (subst (IsAmong a) since.1.actions among)
    (subst (λ s. sees s a.xid ≡ true) t.is seen) in
    let drawn : a.number < t.place.numbers.next =
    all_among (λ b. b.number < t.place.numbers.next) a t.place.actions since.0.numbered there in
    subst (λ s. IsOlder (suc a.number) s.xmax p) (sym t.is)
    (older_on t.before w (sound_world limit t.history t.before t.leads) (record {
      later = t.later;
      goes_on = t.goes_on;
      name = name;
      old = t.place;
      new = p;
      found = t.found;
      found_later = found;
    }) (suc a.number) t.place.xids.next (older_now t.place since.0 (suc a.number) drawn))
