-- How a database goes on by itself: more of its transactions end, and its node is the same or has logged one of them.
use Rattle.std.proofs.Common.{◌≡◌, ◌⊎◌, inl, inr, ℕ, ◌<◌, true, false, cond, List, [], Option, None, refl}
use Rattle.std.proofs.Common.{sym, subst}
use Rattle.std.specs.Prelude.{◌==◌, option_map}
use Rattle.std.specs.List.{AllByRecursion}
use Rattle.slon_model.specs.Rows.{member}
use Rattle.slon_model.specs.Snapshots.{Rising}
use Rattle.slon_model.specs.Deeds.{Node}
use Rattle.slon_model.specs.Tasks.{Task, ToFound}
use Rattle.slon_model.specs.Place.{Place, bare_place, fallen, doubted, open_xids, own_count}
use Rattle.slon_model.specs.Moves.{Move, Founds, Begins, Writes, Commits, Rises, prepared, done, with_commit}
use Rattle.slon_model.specs.Deciding.{Choice, place_by}
use Rattle.slon_laws.specs.Allowed.{MayMove}
use Rattle.slon_laws.specs.Keeps.{KeepsTasks}
use Rattle.slon_laws.specs.Sound.{Sound}
use Rattle.slon_laws.proofs.Keeps.{kept_task}
use Rattle.slon_laws.proofs.Opens.{all_member, found_member}
use Rattle.slon_laws.proofs.Sounds.{keeps_sound, sound_prepared, sound_closed}
use Rattle.stream_laws.proofs.Steps.{first_rows_node, prepared_node}
use Rattle.image_laws.proofs.Clocks.{Ticked, clock_all_end, no_more, ticked_on}
use Rattle.image_laws.proofs.Since.{prepared_same}
use Rattle.image_laws.proofs.Ticking.{ClockAt, TickedAt, bare_ticks, done_ticks, same_clock}

-- ---- the node

-- it is the same, or has logged an open transaction
abbrev pub NodeWent : Place → Option Node → Type 0
NodeWent p o =
    (o ≡ p.node) ⊎ ((xid : ℕ) × (o ≡ option_map (with_commit xid p) p.node) × (member xid (open_xids p) ≡ true))

node_done : (task : Task) (move : Move) (p : Place) → MayMove task p move → NodeWent p (done move p).node
node_done task Founds p may = inl (first_rows_node p)
node_done task (Begins name) p may = inl (prepared_node (Begins name) p)
node_done task (Writes xid table change) p may = inl (prepared_node (Writes xid table change) p)
node_done task Rises p may = inl (prepared_node Rises p)
node_done task (Commits name xid) p may =
    elim (own_count xid p == 0) as (λ b. NodeWent p (cond b p.node (option_map (with_commit xid p) p.node))) [
      | true ↦ inl refl
      | false ↦ inr (xid, refl, found_member name xid p.opens may.allows)
    ]
node_done task others p may = inl refl

-- ---- the database

pub record Went (p q : Place) : Type 0 where
  pub ticks : (ended : List ℕ) → ClockAt p ended → TickedAt q ended
  pub node : NodeWent p q.node

-- It goes down, and all that is open ends.
pub record Shut (p q : Place) : Type 0 where
  pub next : q.xids.next ≡ p.xids.next
  pub opens : open_xids q ≡ []
  pub node : q.node ≡ p.node
  pub running : Rising (open_xids p)
  pub below : AllByRecursion (λ x. x < p.xids.next) (open_xids p)

pub shut_ticks : (p q : Place) → Shut p q → (ended : List ℕ) → ClockAt p ended → TickedAt q ended
shut_ticks p q s ended c =
    subst (λ next. Ticked next (open_xids q) ended) (sym s.next)
    (subst (λ ids. Ticked p.xids.next ids ended) (sym s.opens)
    (clock_all_end (open_xids p) s.running s.below c))

abbrev pub shut_by : (p q : Place) → Sound p → (q.xids.next ≡ p.xids.next) × (open_xids q ≡ []) × (q.node ≡ p.node) →
    Shut p q
shut_by p q s is =
    record {
      next = is.0;
      opens = is.1;
      node = is.2;
      running = s.running;
      below = all_member (λ x. x < p.xids.next) (open_xids p) s.opened;
    }

-- ---- a task

went_shut : (p q r : Place) → Went p q → Shut q r → Went p r
went_shut p q r went s = record {
  ticks = λ ended c.
      let first = went.ticks ended c in
      ticked_on first.more refl (shut_ticks q r s _ first.clock);
  node = subst (NodeWent p) (sym s.node) went.node;
}

went_nowhere : (p : Place) → Went p p
went_nowhere p = record { ticks = λ ended c. no_more c; node = inl refl }

keeps_went : (p : Place) → KeepsTasks (λ task. Unit {0}) (λ r. (p ≡ r) × Sound r) (λ q. Went p q × Sound q)
keeps_went p = record {
  stays = λ r is. (subst (Went p) is.0 (went_nowhere p), is.1);
  prepares = λ task move r may is. (
    subst (λ s. Went s (prepared move r)) (sym is.0) (record {
      ticks = λ ended c. no_more (same_clock r (prepared move r) ended (prepared_same move r) c);
      node = inl (prepared_node move r);
    }),
    sound_prepared move r is.1,
  );
  moves = λ task move r one may is. (
    subst (λ s. Went s (done move r)) (sym is.0) (record {
      ticks = λ ended c. done_ticks task move r ended may is.1 (sound_prepared move r is.1) c;
      node = node_done task move r may;
    }),
    keeps_sound.tasks.moves task move r one may is.1,
  );
  falls = λ count q is.
      (went_shut p q (fallen count q) is.0 (shut_by q (fallen count q) is.1 (refl, refl, refl)), sound_closed is.1);
  wavers = λ stands q is. (
    went_shut p q (doubted stands q) is.0 (shut_by q (doubted stands q) is.1 (refl, refl, refl)),
    sound_closed is.1,
  );
}

pub went_task : (task : Task) (p : Place) (choice : Choice) → Sound p → Went p (place_by task p choice)
went_task task p choice s = (kept_task (keeps_went p) task p choice (tt, (refl, s))).0

-- ---- a new database

-- it is no node, and has a clock
pub record Born (q : Place) : Type 0 where
  pub ended : List ℕ
  pub clock : ClockAt q ended
  pub node : q.node ≡ None

pub born : (choice : Choice) → Sound bare_place → Born (place_by ToFound bare_place choice)
born choice s =
    let went = went_task ToFound bare_place choice s in
    let ticked = went.ticks (bare_ticks s).1.ended (bare_ticks s).1.clock in
    record { ended = _; clock = ticked.clock; node = by _ went.node }
  where
    by : (o : Option Node) → NodeWent bare_place o → o ≡ None
    by o (inl same) = same
    by o (inr log) = log.1
