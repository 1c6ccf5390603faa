-- Each entry of a node's own in its log is an action of its database.
use Rattle.std.proofs.Common.{◌≡◌, inl, inr, ℕ, List, [], Option, Some, None, refl}
use Rattle.std.proofs.Common.{sym, ap, subst, ◌∙◌}
use Rattle.std.specs.Prelude.{◌==◌, option_map}
use Rattle.std.specs.Option.{option_or}
use Rattle.std.specs.List.{AllByRecursion}
use Rattle.slon_model.specs.Names.{find_named}
use Rattle.slon_model.specs.Rows.{Action}
use Rattle.slon_model.specs.Events.{Event}
use Rattle.slon_model.specs.Deeds.{Node, Brought, knowledge, with_deeds}
use Rattle.slon_model.specs.Logs.{logged, own_logs}
use Rattle.slon_model.specs.Deciding.{decide, move_of}
use Rattle.slon_model.specs.Moves.{Move, Founds, Writes, prepared, done, with_commit}
use Rattle.slon_model.specs.Place.{Place, own_actions}
use Rattle.slon_model.specs.Sessions.{World, Commit, Seat, committing}
use Rattle.slon_model.proofs.Names.{all_found, all_map, one_found}
use Rattle.slon_laws.proofs.Following.{logs_own, rows_own}
use Rattle.slon_laws.proofs.Spells.{own_logs_have}
use Rattle.stream_laws.specs.Nodes.{IsAmong}
use Rattle.view_laws.proofs.Brought.{IsBrought, Nothing, Copies, Brings, part_has, taken_each}
use Rattle.stream_laws.proofs.Lists.{all_appended, all_filtered, among_all, all_each}
use Rattle.stream_laws.proofs.Steps.{Logs, prepared_node, done_logs}
use Rattle.image_laws.proofs.Since.{first_same, prepared_same}
use Rattle.view_laws.specs.Past.{Past, WasBefore}
use Rattle.view_laws.proofs.Doing.{DoesTell, DoesTake, DoesHear, DoesBecome, Does}
use Rattle.view_laws.proofs.Living.{NodeDoes, commits_goes}
use Rattle.view_laws.proofs.Walking.{LivesOn, lives_in}
use Rattle.slon_model.specs.Following.{SetSync, kept_from}

-- what it logged of its own is one of these actions
abbrev pub IsOwned : List Action → Node → Type 0
IsOwned actions n = AllByRecursion (λ l. l.origin ≡ n.id → IsAmong l.action actions) (logged n)

abbrev pub LogsOwned : (World → Type 0) → Place → Type 0
LogsOwned Was p = (n : Node) → p.node ≡ Some n → IsOwned p.actions n

more_owned : (old new : List Action) → ((a : Action) → IsAmong a old → IsAmong a new) → (n : Node) → IsOwned old n →
    IsOwned new n
more_owned old new more n owned =
    all_map (λ l. l.origin ≡ n.id → IsAmong l.action old) (λ l. l.origin ≡ n.id → IsAmong l.action new)
    (λ l is own. more l.action (is own)) (logged n) owned

-- ---- a commit of rows

commit_owned : (n : Node) (p : Place) (xid : ℕ) → IsOwned p.actions n → IsOwned p.actions (with_commit xid p n)
commit_owned n p xid owned =
    all_appended (λ l. l.origin ≡ n.id → IsAmong l.action p.actions) (own_logs n.id (knowledge n) (own_actions xid p))
    (logged n)
    (all_map (λ l. IsAmong l.action p.actions) (λ l. l.origin ≡ n.id → IsAmong l.action p.actions)
    (λ l among own. among)
    (own_logs n.id (knowledge n) (own_actions xid p))
    (own_logs_have (λ a. IsAmong a p.actions) n.id (knowledge n) (own_actions xid p)
    (all_filtered (λ a. IsAmong a p.actions) (λ a. a.xid == xid) p.actions
    (among_all (λ a. IsAmong a p.actions) p.actions (λ a among. among))))) owned

-- ---- a task of the database

prepared_among : (move : Move) (p : Place) (a : Action) → IsAmong a p.actions → IsAmong a (prepared move p).actions
prepared_among move p a among = subst (IsAmong a) (sym (prepared_same move p).actions) among

done_among : (move : Move) (p : Place) (a : Action) → IsAmong a p.actions → IsAmong a (done move p).actions
done_among (Writes xid table change) p a among = inr (prepared_among (Writes xid table change) p a among)
done_among Founds p a among = subst (IsAmong a) (sym (first_same p).actions) among
done_among others p a among = prepared_among others p a among

done_owned : (move : Move) (p : Place) → ((n : Node) → p.node ≡ Some n → IsOwned p.actions n) → (m : Node) →
    (done move p).node ≡ Some m → IsOwned (done move p).actions m
done_owned move p owned m at =
    more_owned p.actions (done move p).actions (done_among move p) m (by (done_logs move p))
  where
    made : (xid : ℕ) (o : Option Node) → p.node ≡ o → option_map (with_commit xid p) o ≡ Some m → IsOwned p.actions m
    made xid None is none = absurd cc
    made xid (Some n) is some =
        subst (IsOwned p.actions) (one_found (with_commit xid p n) m some) (commit_owned n p xid (owned n is))

    by : Logs p (done move p).node → IsOwned p.actions m
    by (inl same) = owned m (sym same ∙ at)
    by (inr (xid, log)) = made xid p.node refl (sym log ∙ at)

-- ---- what is brought

-- what is logged with an event is of its origin
pub brought_own : (t : Past) (s : Seat) (e : Event) (b : Brought) → IsBrought t s e b →
    AllByRecursion (λ l. l.origin ≡ e.origin) b.logs
brought_own t s e b (Nothing n) =
    subst (λ (c : Brought). AllByRecursion (λ l. l.origin ≡ e.origin) c.logs) (sym n.none) tt
brought_own t s e b (Copies k) =
    subst (λ (c : Brought). AllByRecursion (λ l. l.origin ≡ e.origin) c.logs) (sym k.is) tt
brought_own t s e b (Brings y) =
    subst (λ (c : Brought). AllByRecursion (λ l. l.origin ≡ e.origin) c.logs) (sym y.is)
    (logs_own s.place e.origin y.syncs (part_has (λ z. AllByRecursion (λ l. l.origin ≡ e.origin) z.rows) s.known y.syncs
    y.follows.syncs y.part
    (taken_each (λ v. Unit {0}) (λ z. AllByRecursion (λ l. l.origin ≡ e.origin) z.rows)
    (λ v z any taken. subst (λ (x : SetSync). AllByRecursion (λ l. l.origin ≡ e.origin) x.rows) (sym taken.is)
    (rows_own y.at.seat.node.id y.at.seat.known e (logged taken.provider.node) v))
    (kept_from e.origin y.at.seat.known) y.follows.syncs y.follows.taken
    (all_each (λ v. Unit {0}) (λ v. tt) (kept_from e.origin y.at.seat.known)))))

does_owned : (t : Past) (actions : List Action) → NodeDoes t (IsOwned actions)
does_owned t actions = record {
  tells = λ s is number m n says owned. owned;
  takes = λ x origin is owned.
      all_appended (λ l. l.origin ≡ x.seat.node.id → IsAmong l.action actions) x.brought.logs (logged x.seat.node)
      (all_map (λ l. l.origin ≡ x.event.origin) (λ l. l.origin ≡ x.seat.node.id → IsAmong l.action actions)
      (λ l of own. absurd (is.work.other (sym of ∙ own))) x.brought.logs
      (brought_own t x.seat x.event x.brought is.brings)) owned;
  hears = λ s confirms owned. owned;
}

commit_step : (t : Past) (c : Commit) (p : Place) → Does t c p →
    ((n : Node) → p.node ≡ Some n → IsOwned p.actions n) → (m : Node) → (committing c p).node ≡ Some m →
    IsOwned p.actions m
commit_step t c p does owned m at = by does p.node refl
  where
    stays : (n : Node) → p.node ≡ Some n → IsOwned p.actions m
    stays n is =
        let there = commits_goes t (does_owned t p.actions) c p does (n, is, owned n is) in
        subst (IsOwned p.actions) (one_found there.0 m (sym there.1 ∙ at)) there.2

    becomes : (n : Node) → n.deeds ≡ [] → Some n ≡ Some m → IsOwned p.actions m
    becomes n none is =
        subst (IsOwned p.actions) (one_found n m is)
        (subst (λ ds. IsOwned p.actions (record n { deeds = ds })) (sym none) tt)

    by : Does t c p → (o : Option Node) → p.node ≡ o → IsOwned p.actions m
    by (DoesBecome d) o is =
        becomes d.node d.deeds
        (sym (ap (λ (k : Commit). option_map (with_deeds k.deeds) (option_or k.becomes p.node)) d.commit) ∙ at)
    by others (Some n) is = stays n is
    by (DoesTell d) None is =
        let never : None ≡ Some d.seat.node = sym is ∙ ap (λ (q : Place). q.node) (sym d.at) ∙ d.is.node in absurd cc
    by (DoesTake d) None is =
        let never : None ≡ Some d.carried.seat.node =
        sym is ∙ ap (λ (q : Place). q.node) (sym d.at) ∙ d.is.work.seat.node in absurd cc
    by (DoesHear d) None is =
        let never : None ≡ Some d.seat.node = sym is ∙ ap (λ (q : Place). q.node) (sym d.at) ∙ d.is.node in absurd cc

logs_owned : LivesOn LogsOwned
logs_owned = record {
  bare = λ t n is. absurd cc;
  stays = λ t p was. was;
  passes = λ t all. record {
    stays = λ p was. was.1;
    prepares = λ move p was n is.
        more_owned p.actions (prepared move p).actions (prepared_among move p) n
        (was.1 n (sym (prepared_node move p) ∙ is));
    moves = λ task p may was. done_owned (move_of (decide task p)) p was.1;
    falls = λ count p was. was;
    wavers = λ stands p was. was;
    promises = λ node p was. was;
    commits = λ c p step was. commit_step t c p step.does was.1;
  };
}

-- what a node of the session logged of its own
pub owned_now : (t : Past) (name : List ℕ) (p : Place) (n : Node) → find_named name t.world.places ≡ Some p →
    p.node ≡ Some n → IsOwned p.actions n
owned_now t name p n found at =
    all_found (LogsOwned (WasBefore t)) name p t.world.places (lives_in logs_owned t) found n at
