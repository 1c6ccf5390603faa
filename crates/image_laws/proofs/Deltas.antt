-- A delta between two snapshots leads from what the one sees to what the other sees.
use Rattle.std.proofs.Common.{◌≡◌, ℕ, ◌<◌, Bool, true, false, List, [], ◌∷◌, ◌++◌, Some, refl, sym, ap, subst, ◌∙◌}
use Rattle.std.specs.Prelude.{◌&&◌, ◌||◌, not}
use Rattle.std.specs.List.{AllByRecursion}
use Rattle.std.proofs.lemmas.Bool.{false≢true, false_from_ne_true}
use Rattle.slon_model.specs.Names.{find_named}
use Rattle.slon_model.specs.Rows.{Action, member}
use Rattle.slon_model.specs.Snapshots.{Snapshot, sees, Covers}
use Rattle.slon_model.specs.Place.{Place, open_xids, taken}
use Rattle.slon_model.specs.Eras.{Stretch, is_within, image_of, delta_on}
use Rattle.slon_model.specs.World.{World}
use Rattle.slon_model.proofs.Names.{all_found, one_found}
use Rattle.slon_laws.specs.Sound.{Sound, Pairs, IsLocked, conflicts}
use Rattle.slon_laws.proofs.Covering.{outlasts_itself}
use Rattle.slon_laws.proofs.Later.{holds_later}
use Rattle.slon_laws.proofs.Locks.{pairs_map, pairs_each}
use Rattle.slon_laws.proofs.Played.{Apart, NoneBetween, play_agrees, split_played}
use Rattle.slon_laws.proofs.Worlds.{sound_world}
use Rattle.stream_laws.proofs.Lists.{all_each}
use Rattle.image_laws.specs.Laws.{WasTaken, DeltaLeads}
use Rattle.image_laws.proofs.Since.{Since, since_itself, keeps_since, unseen_open, seen_ended}

-- ---- what a snapshot sees is closed

-- of two actions on one row, a snapshot that sees the later one sees the earlier one
abbrev Closed : Snapshot → Action → Action → Type 0
Closed k a b = conflicts a b ≡ true → sees k b.xid ≡ true → sees k a.xid ≡ true

closed_now : (p : Place) → Sound p → Pairs (Closed (taken p)) p.actions
closed_now p s =
    pairs_map (λ a. a.xid < p.xids.next) (IsLocked (open_xids p)) (Closed (taken p)) each p.actions s.known s.locked
  where
    each : (a b : Action) → a.xid < p.xids.next → IsLocked (open_xids p) a b → Closed (taken p) a b
    each a b known locked conflict seen =
        seen_ended p a.xid known (λ is_open.
        let other = ap (λ x. member x (open_xids p)) (sym (locked conflict is_open)) ∙ is_open in
        false≢true (sym (unseen_open p p s (outlasts_itself p) b.xid other) ∙ seen))

closed_behind : (k : Snapshot) (more rest : List Action) → AllByRecursion (λ a. sees k a.xid ≡ false) more →
    Pairs (Closed k) rest → Pairs (Closed k) (more ++ rest)
closed_behind k [] rest unseen pairs = pairs
closed_behind k (b ∷ more) rest unseen pairs = (
  all_each (λ a. Closed k a b) (λ a conflict seen. absurd (false≢true (sym unseen.0 ∙ seen))) (more ++ rest),
  closed_behind k more rest unseen.1 pairs,
)

closed_since : (p q : Place) → Sound p → Since p q → Pairs (Closed (taken p)) q.actions
closed_since p q sound s =
    subst (Pairs (Closed (taken p))) (sym s.actions)
    (closed_behind (taken p) s.more p.actions s.unseen (closed_now p sound))

-- ---- tests

-- an action by whether the new and the old snapshot see it, it is committed, and it is within the era
apart_by : (new old came within : Bool) → (((new && not old) && came) && within) ≡ true →
    ((old && came) && within) ≡ false
apart_by new false came within is = refl
apart_by true true came within is = absurd (false≢true is)
apart_by false true came within is = absurd (false≢true is)

agree_by : (new old came within : Bool) → (old ≡ true → new ≡ true) →
    ((new && came) && within) ≡ ((((new && not old) && came) && within) || ((old && came) && within))
agree_by true true came within covers = refl
agree_by true false true true covers = refl
agree_by true false true false covers = refl
agree_by true false false within covers = refl
agree_by false true came within covers = absurd (false≢true (covers refl))
agree_by false false came within covers = refl

-- no action that only the new snapshot sees comes before one on its row that the old one sees
between_by : (new old came within : Bool) → (((new && not old) && came) && within) ≡ true → old ≡ true → ⊥
between_by new false came within is seen = false≢true seen
between_by true true came within is seen = false≢true is
between_by false true came within is seen = false≢true is

seen_by : (old came within : Bool) → ((old && came) && within) ≡ true → old ≡ true
seen_by true came within is = refl
seen_by false came within is = absurd (false≢true is)

-- ---- the delta

delta_leads_on : (p q : Place) (new : Snapshot) (s : Stretch) → Sound p → Since p q → Covers new (taken p) →
    delta_on q.actions q.commits (taken p) new s (image_of q.actions q.commits (taken p) (Some s))
    ≡ image_of q.actions q.commits new (Some s)
delta_leads_on p q new s sound since covers =
    sym (split_played t s.table q.actions s.before none)
    ∙ sym (play_agrees (λ a. (sees new a.xid && member a.xid q.commits) && is_within s a) (λ a. t.own a || t.stood a)
    s.table q.actions s.before
    (all_each _ (λ a. agree_by (sees new a.xid) (sees old a.xid) (member a.xid q.commits) (is_within s a)
    (covers a.xid)) q.actions))
  where
    old : Snapshot
    old = taken p

    t : Apart
    t = record {
      own = λ a. ((sees new a.xid && not (sees old a.xid)) && member a.xid q.commits) && is_within s a;
      stood = λ a. (sees old a.xid && member a.xid q.commits) && is_within s a;
      apart = λ a. apart_by (sees new a.xid) (sees old a.xid) (member a.xid q.commits) (is_within s a);
    }

    none : Pairs (NoneBetween t.own t.stood) q.actions
    none =
        pairs_each (Closed old) (NoneBetween t.own t.stood)
        (λ a b closed conflict own. false_from_ne_true _ (λ stood.
        between_by (sees new a.xid) (sees old a.xid) (member a.xid q.commits) (is_within s a) own
        (closed conflict (seen_by (sees old b.xid) (member b.xid q.commits) (is_within s b) stood))))
        q.actions (closed_since p q sound since)

-- the database where a snapshot was taken, and what it has done since
pub taken_since : (limit : ℕ) (name : List ℕ) (w : World) (p : Place) → find_named name w.places ≡ Some p →
    (k : Snapshot) (t : WasTaken limit name w k) → Sound t.place × Since t.place p
taken_since limit name w p found k t =
    let all = sound_world limit t.history t.before t.leads in
    let sound = all_found Sound name t.place t.before.places all t.found in
    let later =
    (holds_later (keeps_since t.place sound) t.later t.before w all t.goes_on name
    (t.place, t.found, since_itself t.place)).1 in
    (sound, subst (Since t.place) (one_found later.0 p (sym later.1 ∙ found)) later.2)

pub delta_leads : DeltaLeads
delta_leads limit name w p found old new was now covers s =
    let since = taken_since limit name w p found old was in
    subst (λ k. delta_on p.actions p.commits k new s (image_of p.actions p.commits k (Some s))
    ≡ image_of p.actions p.commits new (Some s)) (sym was.is)
    (delta_leads_on was.place p new s since.0 since.1 (subst (Covers new) was.is covers))
