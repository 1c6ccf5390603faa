-- The laws, for every database of a legal history.
use Rattle.std.proofs.Common.{◌≡◌, ◌<◌, List, [], ◌∷◌, sym, ap, subst, ◌∙◌, arith, inl, inr}
use Rattle.slon_model.specs.Rows.{Action}
use Rattle.slon_model.specs.Place.{Place, open_xids}
use Rattle.slon_laws.specs.Lists.{IsAmong}
use Rattle.slon_laws.specs.Sound.{Sound, Pairs, IsOrdered}
use Rattle.slon_laws.specs.Laws.{HoldsOfEach, AreNumbered, NumbersRise, LocksOrder, LocksOrderActions}
use Rattle.slon_laws.specs.Laws.{OwnActionsApply, CommitApplies, IsBounded, CeilingsBound}
use Rattle.slon_model.proofs.Names.{all_map, all_found}
use Rattle.slon_laws.proofs.Lists.{all_among}
use Rattle.slon_laws.proofs.Opens.{all_member}
use Rattle.slon_laws.proofs.Worlds.{sound_world}
use Rattle.slon_laws.proofs.Committing.{own_actions_apply}

-- what follows from soundness holds of each database
pub of_each : (P : Place → Type 0) → ((p : Place) → Sound p → P p) → HoldsOfEach P
of_each P from limit history w leads name p found =
    from p (all_found Sound name p w.places (sound_world limit history w leads) found)

-- ---- locks

-- two actions are a pair, by their numbers
pub pair_among : (P : Action → Action → Type 0) (a b : Action) (actions : List Action) →
    Pairs (λ a b. a.number < b.number) actions × Pairs P actions → IsAmong a actions → IsAmong b actions →
    a.number < b.number → P a b
pair_among P a b [] pairs among_a among_b less = absurd among_a
pair_among P a b (c ∷ rest) pairs (inl is_a) (inl is_b) less =
    let same : a.number ≡ b.number = ap (λ (d : Action). d.number) (is_a ∙ sym is_b) in
    absurd (omega (arith, same, less))
pair_among P a b (c ∷ rest) pairs (inl is_a) (inr more_b) less =
    let after : b.number < c.number = all_among (λ d. d.number < c.number) b rest pairs.0.0 more_b in
    let same : a.number ≡ c.number = ap (λ (d : Action). d.number) is_a in
    absurd (omega (arith, after, same, less))
pair_among P a b (c ∷ rest) pairs (inr more_a) (inl is_b) less =
    subst (P a) (sym is_b) (all_among (λ d. P d c) a rest pairs.1.0 more_a)
pair_among P a b (c ∷ rest) pairs (inr more_a) (inr more_b) less =
    pair_among P a b rest (pairs.0.1, pairs.1.1) more_a more_b less

pub locks_order : (p : Place) → Sound p → LocksOrder p
locks_order p s a b among_a among_b conflict differ came_a came_b less =
    pair_among (IsOrdered p.commits) a b p.actions (s.rising, s.ordered) among_a among_b less conflict differ came_a
    came_b

pub locks_order_actions : LocksOrderActions
locks_order_actions = of_each LocksOrder locks_order

-- ---- commits

pub numbers_rise : NumbersRise
numbers_rise = of_each AreNumbered (λ p s. s.rising)

pub commit_applies : CommitApplies
commit_applies = of_each OwnActionsApply own_actions_apply

-- ---- ceilings

pub bounded : (p : Place) → Sound p → IsBounded p
bounded p s = record {
  numbers =
      all_map (λ a. a.number < p.numbers.next) (λ a. a.number < p.numbers.ceiling)
      (λ a below. omega (arith, below, s.numbers_below)) p.actions s.numbered;
  xids =
      all_map (λ a. a.xid < p.xids.next) (λ a. a.xid < p.xids.ceiling)
      (λ a below. omega (arith, below, s.xids_below)) p.actions s.known;
  commits =
      all_member (λ x. x < p.xids.ceiling) p.commits (λ x came. let below = s.ended x came in
      omega (arith, below, s.xids_below));
  opens =
      all_member (λ x. x < p.xids.ceiling) (open_xids p) (λ x is_open. let below = s.opened x is_open in
      omega (arith, below, s.xids_below));
  snapshot = s.xids_below;
}

pub ceilings_bound : CeilingsBound
ceilings_bound = of_each IsBounded bounded
