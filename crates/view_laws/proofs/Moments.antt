-- Two sessions of one history, and what was in them.
use Rattle.std.proofs.Common.{◌≡◌, ◌⊎◌, inl, inr, ℕ, ◌<◌, zero, suc, Bool, true, false, cond, List, [], ◌∷◌}
use Rattle.std.proofs.Common.{Some, refl, sym, ap, subst, ◌∙◌, arith, not}
use Rattle.std.specs.Prelude.{◌==◌, ◌+◌, ◌&&◌, ◌||◌, nat_lt}
use Rattle.std.proofs.lemmas.Bool.{false≢true, and_parts, eqb-true, eq-eqb, ltb-true}
use Rattle.slon_model.specs.Names.{find_named}
use Rattle.slon_model.specs.Deeds.{Node}
use Rattle.slon_model.specs.Place.{Place, taken}
use Rattle.slon_model.specs.Rows.{member}
use Rattle.slon_model.specs.Snapshots.{Snapshot, sees, Covers, covers, covers_below}
use Rattle.slon_model.specs.Sessions.{World, committing}
use Rattle.slon_model.specs.World.{start, Happening, Leads}
use Rattle.slon_model.proofs.Names.{one_found}
use Rattle.slon_laws.specs.Turning.{Turned, Commits, Falls, Doubts}
use Rattle.slon_laws.proofs.Covering.{Outlasts, outlasts_itself, keeps_outlasting, covers as covers_later}
use Rattle.slon_laws.proofs.Later.{HoldsOf}
use Rattle.stream_laws.specs.Nodes.{node_in}
use Rattle.image_laws.specs.Fits.{MayStand}
use Rattle.image_laws.specs.Facts.{Holds}
use Rattle.view_laws.specs.Past.{Past, past, Moment, WasUpTo}
pub use Rattle.view_laws.proofs.Reached.{Reached, event_now, now_stays, past_of, reached_up_to, regular_now}
pub use Rattle.view_laws.proofs.Reached.{sound_now}
use Rattle.view_laws.proofs.Reached.{held_now}
use Rattle.view_laws.proofs.Walking.{either}
use Rattle.image_laws.proofs.Staying.{KeptLater, Stays}

-- ---- two sessions of one history

-- The second of two sessions, with the history up to it.
pub record IsEarlier (u v : World) : Type 0 where
  pub to : Past
  pub is : to.world ≡ v
  pub was : WasUpTo to u

order_of : (limit : ℕ) (history : List Happening) (w : World) (leads : Leads (start limit) history w)
    (u v : World) →
    WasUpTo (past limit history w leads) u → WasUpTo (past limit history w leads) v →
    IsEarlier u v ⊎ IsEarlier v u
order_of limit history w leads u v was (inl is) =
    inl (record { to = past limit history w leads; is = sym is; was = was })
order_of limit history w leads u v (inl is) (inr was) =
    inr (record { to = past limit history w leads; is = sym is; was = inr was })
order_of limit [] w leads u v (inr one) (inr two) = absurd one
order_of limit (h ∷ hs) w leads u v (inr one) (inr two) = order_of limit hs leads.0 leads.1 u v one two

pub ordered : (t : Past) (u v : World) → WasUpTo t u → WasUpTo t v → IsEarlier u v ⊎ IsEarlier v u
ordered t u v one two = order_of t.limit t.history t.world t.leads u v one two

-- ---- snapshots of one database

outlasting : (first : Place) → KeptLater (Outlasts first)
outlasting first = record {
  tasks = record {
    stays = λ p is. is.1;
    prepares = λ task move p may is. (keeps_outlasting first).tasks.prepares task move p may (is.0.0, is.1);
    moves = λ task move p one may is. (keeps_outlasting first).tasks.moves task move p one may (is.0.0, is.1);
    falls = (keeps_outlasting first).tasks.falls;
    wavers = (keeps_outlasting first).tasks.wavers;
  };
  turns = turns;
}
  where
    turns : (p q : Place) → Turned MayStand p q → Holds p → Outlasts first p → Outlasts first q
    turns p q (Commits c fit is) h lasts =
        subst (Outlasts first) (sym is) ((keeps_outlasting first).commits c p fit.0 lasts)
    turns p q (Falls count is) h lasts =
        subst (Outlasts first) (sym is) ((keeps_outlasting first).tasks.falls count p lasts)
    turns p q (Doubts c stands fit is) h lasts =
        subst (Outlasts first) (sym is) ((keeps_outlasting first).promises _ _
        ((keeps_outlasting first).tasks.wavers stands _ (either (Outlasts first) stands (committing c p) p
        ((keeps_outlasting first).commits c p fit.0 lasts) lasts)))

-- the snapshot of a database covers those that were taken there before
pub taken_covers : (t : Past) (u : World) → WasUpTo t u → (name : List ℕ) (p q : Place) →
    find_named name u.places ≡ Some p → find_named name t.world.places ≡ Some q → Covers (taken q) (taken p)
taken_covers t u was name p q found found_now =
    let r = reached_up_to t u was in
    let later = held_now (outlasting p) name t u was (p, found, outlasts_itself p) in
    covers_later p q (sound_now (past_of t u r) name p found)
    (subst (Outlasts p) (one_found later.0 q (sym later.1 ∙ found_now)) later.2)

-- ---- the test of covering

both_tests : (a b : Bool) → (a ≡ true → b ≡ true) → (not a || b) ≡ true
both_tests true b on = on refl
both_tests false b on = refl

below_whole : (a b : Snapshot) (n : ℕ) → Covers a b → covers_below a b n ≡ true
below_whole a b zero all = refl
below_whole a b (suc n) all =
    ap (λ c. c && covers_below a b n) (both_tests (sees b n) (sees a n) (all n)) ∙ below_whole a b n all

pub covers_passes : (a b : Snapshot) → Covers a b → covers a b ≡ true
covers_passes a b all = below_whole a b (b.xmin + b.xmax) all

below_sound : (a b : Snapshot) (n : ℕ) → covers_below a b n ≡ true → (x : ℕ) → x < n → sees b x ≡ true → sees a x ≡ true
below_sound a b zero all x below seen = absurd (omega (arith, below))
below_sound a b (suc n) all x below seen =
    by (below_sound a b n parts.1) (x == n) refl
  where
    parts : ((not (sees b n) || sees a n) ≡ true) × (covers_below a b n ≡ true)
    parts = and_parts (not (sees b n) || sees a n) (covers_below a b n) all

    tested : (c d : Bool) → (not c || d) ≡ true → c ≡ true → d ≡ true
    tested true d on is = on
    tested false d on is = absurd (false≢true is)

    by : ((x : ℕ) → x < n → sees b x ≡ true → sees a x ≡ true) → (c : Bool) → (x == n) ≡ c → sees a x ≡ true
    by rest true same =
        let is = eqb-true x n same in
        ap (sees a) is ∙ tested (sees b n) (sees a n) parts.0 (ap (sees b) (sym is) ∙ seen)
    by rest false other =
        let apart : (x ≡ n → ⊥) = λ same. false≢true (sym other ∙ eq-eqb x n same) in
        rest x (omega (arith, below, apart)) seen

-- what a snapshot sees is below the greatest number that it looks at
seen_below : (s : Snapshot) (x : ℕ) → sees s x ≡ true → x < s.xmin + s.xmax
seen_below s x seen = by (nat_lt x s.xmin) refl (nat_lt x s.xmax) refl seen
  where
    by : (a : Bool) → nat_lt x s.xmin ≡ a → (b : Bool) → nat_lt x s.xmax ≡ b →
        cond a true (cond b (not (member x s.running)) false) ≡ true → x < s.xmin + s.xmax
    by true less b at seen = let first = ltb-true x s.xmin less in omega (arith, first)
    by false not_less true less seen = let second = ltb-true x s.xmax less in omega (arith, second)
    by false not_less false more seen = absurd (false≢true seen)

pub passes_covers : (a b : Snapshot) → covers a b ≡ true → Covers a b
passes_covers a b all x seen = below_sound a b (b.xmin + b.xmax) all x (seen_below b x seen) seen

-- ---- two moments of one node

-- The second of two moments of a database is the same one or later.
pub record IsLater {Was : World → Type 0} (a b : Moment Was) : Type 0 where
  pub name : a.name ≡ b.name
  pub stays : Stays a.node b.place
  pub covers : Covers (taken b.place) (taken a.place)

-- A database of the session that is a node.
pub record NodeAt (t : Past) : Type 0 where
  pub name : List ℕ
  pub place : Place
  pub found : find_named name t.world.places ≡ Some place
  pub node : Node
  pub at : place.node ≡ Some node

-- databases that are nodes of one id are one
pub one_name : (t : Past) (a b : NodeAt t) → a.node.id ≡ b.node.id → a.name ≡ b.name
one_name t a b same =
    (regular_now t).nodes.apart a.name b.name a.node b.node (ap node_in a.found ∙ a.at) (ap node_in b.found ∙ b.at) same

-- the node of a moment, now
abbrev pub node_now : (t : Past) (m : Moment (WasUpTo t)) → HoldsOf (Stays m.node) m.name t.world.places → NodeAt t
node_now t m now =
    record { name = m.name; place = now.0; found = now.1; node = now.2.node; at = now.2.is }

later_by : {Was : World → Type 0} (a b : Moment Was) → a.node.id ≡ b.node.id → (to : Past) → to.world ≡ b.session →
    WasUpTo to a.session → IsLater a b
later_by a b one to is was = record {
  name = name;
  stays = subst (Stays a.node) (one_found later.0 b.place (sym later.1 ∙ ap (λ k. find_named k to.world.places) name
      ∙ found)) later.2;
  covers = taken_covers to a.session was a.name a.place b.place a.found
      (ap (λ k. find_named k to.world.places) name ∙ found);
}
  where
    later : HoldsOf (Stays a.node) a.name to.world.places
    later = now_stays to a.session was a.name a.place a.node a.found a.at

    found : find_named b.name to.world.places ≡ Some b.place
    found = subst (λ w. find_named b.name w.places ≡ Some b.place) (sym is) b.found

    name : a.name ≡ b.name
    name =
        one_name to
        (record { name = a.name; place = later.0; found = later.1; node = later.2.node; at = later.2.is })
        (record { name = b.name; place = b.place; found = found; node = b.node; at = b.at }) (later.2.id ∙ one)

-- of two moments of one node, one is later
pub two_moments : (t : Past) (a b : Moment (WasUpTo t)) → a.node.id ≡ b.node.id → IsLater a b ⊎ IsLater b a
two_moments t a b one = by (ordered t a.session b.session a.was b.was)
  where
    by : IsEarlier a.session b.session ⊎ IsEarlier b.session a.session → IsLater a b ⊎ IsLater b a
    by (inl first) = inl (later_by a b one first.to first.is first.was)
    by (inr first) = inr (later_by b a (sym one) first.to first.is first.was)
