-- What each change of a database keeps of the log of its node.
use Rattle.std.proofs.Common.{◌≡◌, ℕ, Bool, true, false, cond, List, [], ◌∷◌, Option, Some, None, refl, sym, ap, ◌⊎◌}
use Rattle.std.proofs.Common.{subst, ◌∙◌, inl, inr}
use Rattle.std.specs.Prelude.{◌==◌, option_map}
use Rattle.std.specs.Option.{option_or}
use Rattle.std.proofs.lemmas.Bool.{true≢false, false_from_ne_true, or_cases, or_right}
use Rattle.slon_model.specs.Rows.{Action, member}
use Rattle.slon_model.specs.Deeds.{Node, Deed, with_deeds}
use Rattle.slon_model.specs.Tasks.{Task}
use Rattle.slon_model.specs.Place.{Place, open_xids, own_count, bare_place}
use Rattle.slon_model.specs.Moves.{Move, Founds, Writes, Commits, prepared, done, committed}
use Rattle.slon_model.specs.Moves.{with_commit}
use Rattle.slon_model.specs.Sessions.{Commit, committing, in_doubt}
use Rattle.slon_model.proofs.Names.{one_found}
use Rattle.slon_laws.specs.Sound.{Sound}
use Rattle.slon_laws.specs.Allowed.{MayMove}
use Rattle.slon_laws.specs.Keeps.{KeepsTasks}
use Rattle.slon_laws.specs.Turning.{Turned, Commits as CommitsOne, Falls as GoesDown, Doubts}
use Rattle.slon_laws.proofs.Opens.{found_member}
use Rattle.stream_laws.specs.Nodes.{IsAmong}
use Rattle.stream_laws.proofs.Lists.{all_among}
use Rattle.stream_laws.proofs.Steps.{prepared_node, first_rows_node}
use Rattle.image_laws.specs.Fits.{AllDone, IsFit, MayStand, Does, Becomes}
use Rattle.image_laws.specs.Facts.{NodeHolds, Holds, LogHolds, HoldsAll}
use Rattle.image_laws.proofs.Logging.{Alike, log_alike, further_alike, deed_logs, committed_logs}
use Rattle.image_laws.proofs.Logging.{none_counted}
use Rattle.image_laws.proofs.Moving.{keeps_holding, bare_holds, commit_holds, turned_holds, deeds_hold}
use Rattle.image_laws.proofs.Since.{prepared_same, first_same}

-- the log of the node of a database
abbrev LogsHold : Place → Type 0
LogsHold p = (n : Node) → p.node ≡ Some n → LogHolds p n

-- ---- the same node

same_alike : (p q : Place) → (q.actions ≡ p.actions) × (q.commits ≡ p.commits) → Alike p q
same_alike p q same =
    further_alike p q (record { more = []; actions = same.0; commits = same.1; none = tt })

alike_logs : (p q : Place) → q.node ≡ p.node → Alike p q → LogsHold p → LogsHold q
alike_logs p q same k logs n is = log_alike p q n k (logs n (sym same ∙ is))

prepared_logs : (move : Move) (p : Place) → LogsHold p → LogsHold (prepared move p)
prepared_logs move p logs =
    let same = prepared_same move p in
    alike_logs p (prepared move p) (prepared_node move p)
    (same_alike p (prepared move p) (same.actions, same.commits)) logs

-- ---- a commit

-- a transaction that wrote nothing
empty_alike : (name : List ℕ) (xid : ℕ) (p : Place) → (own_count xid p == 0) ≡ true → Alike p (committed name xid p)
empty_alike name xid p none = record {
  among = λ a among. among;
  came = λ a among came. (among, by a among (or_cases (a.xid == xid) (member a.xid p.commits) came));
  still = λ x came. or_right (x == xid) (member x p.commits) came;
}
  where
    by : (a : Action) → IsAmong a p.actions → ((a.xid == xid) ≡ true) ⊎ (member a.xid p.commits ≡ true) →
        member a.xid p.commits ≡ true
    by a among (inl own) =
        absurd (true≢false (sym own
        ∙ all_among (λ a. (a.xid == xid) ≡ false) a p.actions (none_counted (λ a. a.xid == xid) p.actions none) among))
    by a among (inr came) = came

commits_logs : (name : List ℕ) (xid : ℕ) (p : Place) → member xid (open_xids p) ≡ true → Holds p → LogsHold p →
    LogsHold (committed name xid p)
commits_logs name xid p is_open h logs n is = by (own_count xid p == 0) refl is
  where
    q : Place
    q = committed name xid p

    made : (o : Option Node) → p.node ≡ o → option_map (with_commit xid p) o ≡ Some n → LogHolds q n
    made None at none = absurd cc
    made (Some m) at some =
        subst (LogHolds q) (one_found (with_commit xid p m) n some) (committed_logs p q m (record {
          xid = xid;
          is_open = is_open;
          actions = refl;
          commits = refl;
          holds = h.1 m at;
          logs = logs m at;
        }))

    by : (b : Bool) → (own_count xid p == 0) ≡ b → cond b p.node (option_map (with_commit xid p) p.node) ≡ Some n →
        LogHolds q n
    by true none same = log_alike p q n (empty_alike name xid p none) (logs n same)
    by false some at = made p.node refl at

-- ---- each move

done_logs_hold : (task : Task) (move : Move) (p : Place) → MayMove task p move → Holds p → LogsHold p →
    LogsHold (done move p)
done_logs_hold task (Writes xid table change) p may h logs =
    let move = Writes xid table change in
    let same = prepared_same move p in
    alike_logs (prepared move p) (done move p) refl (further_alike (prepared move p) (done move p) (record {
      more = record {
        number = (prepared move p).numbers.next;
        xid = xid;
        table = table;
        change = change;
      } ∷ [];
      actions = refl;
      commits = refl;
      none = (
        ap (member xid) same.commits
            ∙ false_from_ne_true _ (h.0.apart xid (found_member may.allows.name xid p.opens may.allows.opened)),
        tt,
      );
    })) (prepared_logs move p logs)
done_logs_hold task (Commits name xid) p may h logs =
    commits_logs name xid p (found_member name xid p.opens may.allows) h logs
done_logs_hold task Founds p may h logs =
    let same = first_same p in
    alike_logs p (done Founds p) (first_rows_node p) (same_alike p (done Founds p) (same.actions, same.commits)) logs
done_logs_hold task others p may h logs =
    alike_logs (prepared others p) (done others p) refl (same_alike (prepared others p) (done others p) (refl, refl))
    (prepared_logs others p logs)

pub keeps_all : KeepsTasks (λ task. Unit {0}) HoldsAll HoldsAll
keeps_all = record {
  stays = λ p h. h;
  prepares = λ task move p may h. (
    keeps_holding.prepares task move p may h.0,
    prepared_logs move p h.1,
  );
  moves = λ task move p one may h. (
    keeps_holding.moves task move p one may h.0,
    done_logs_hold task move p may h.0 h.1,
  );
  falls = λ count p h. (
    keeps_holding.falls count p h.0,
    alike_logs p _ refl (same_alike p _ (refl, refl)) h.1,
  );
  wavers = λ stands p h. (
    keeps_holding.wavers stands p h.0,
    alike_logs p _ refl (same_alike p _ (refl, refl)) h.1,
  );
}

pub bare_all : Sound bare_place → HoldsAll bare_place
bare_all sound = (bare_holds sound, λ n is. absurd cc)

-- ---- a commit of a script or a turn

deeds_log : (p : Place) (n : Node) (ds : List Deed) → Sound p → AllDone p n ds → NodeHolds p n → LogHolds p n →
    LogHolds p (with_deeds ds n)
deeds_log p n [] sound done h k = k
deeds_log p n (d ∷ ds) sound done h k =
    deed_logs p (record { node = with_deeds ds n; deed = d; first = done.1.first; fit = done.2 }) sound
    (deeds_hold p n ds sound done.0 h) done.1.logs (deeds_log p n ds sound done.0 h k)

commit_logs : (c : Commit) (p : Place) → IsFit c p → HoldsAll p → LogsHold (committing c p)
commit_logs c p (Does n is none done others) h m at =
    subst (LogHolds (committing c p)) (one_found (with_deeds c.deeds n) m (sym node ∙ at))
    (log_alike p (committing c p) (with_deeds c.deeds n) (same_alike p (committing c p) (refl, refl))
    (deeds_log p n c.deeds h.0.0 done (h.0.1 n is) (h.1 n is)))
  where
    node : (committing c p).node ≡ Some (with_deeds c.deeds n)
    node =
        ap (λ o. option_map (with_deeds c.deeds) (option_or o p.node)) none
        ∙ ap (option_map (with_deeds c.deeds)) is
commit_logs c p (Becomes n none is deeds first) h m at =
    subst (LogHolds (committing c p)) (one_found n m (sym node ∙ at))
    (subst (λ ds. LogHolds (committing c p) (record n { deeds = ds })) (sym first.deeds)
    (record { listed = tt; each = tt }))
  where
    node : (committing c p).node ≡ Some n
    node =
        ap (λ o. option_map (with_deeds c.deeds) (option_or o p.node)) is ∙ ap (λ ds. Some (with_deeds ds n)) deeds

pub turned_all : (p q : Place) → Turned MayStand p q → HoldsAll p → HoldsAll q
turned_all p q (CommitsOne c fit is) h =
    subst HoldsAll (sym is) (commit_holds c p fit.0 fit.1 h.0, commit_logs c p fit.1 h)
turned_all p q (GoesDown count is) h = (
  turned_holds p q (GoesDown count is) h.0,
  alike_logs p q (ap (λ (r : Place). r.node) is)
      (same_alike p q (ap (λ (r : Place). r.actions) is, ap (λ (r : Place). r.commits) is)) h.1,
)
turned_all p q (Doubts c stands fit is) h =
    (turned_holds p q (Doubts c stands fit is) h.0, subst LogsHold (sym is) (by stands))
  where
    by : (b : Bool) → LogsHold (in_doubt c b p)
    by true =
        alike_logs (committing c p) (in_doubt c true p) refl
        (same_alike (committing c p) (in_doubt c true p) (refl, refl)) (commit_logs c p fit.1 h)
    by false = alike_logs p (in_doubt c false p) refl (same_alike p (in_doubt c false p) (refl, refl)) h.1
