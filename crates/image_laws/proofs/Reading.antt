-- What is read of a log between two snapshots leads from what the one sees to what the other sees.
use Rattle.std.proofs.Common.{◌≡◌, ℕ, ◌<◌, Bool, true, false, cond, List, [], ◌∷◌, ◌++◌, refl, sym, ap, subst, ◌∙◌}
use Rattle.std.proofs.Common.{arith, inl, inr, ◌⊎◌, not}
use Rattle.std.specs.Prelude.{◌&&◌, nat_le}
use Rattle.std.specs.Str.{bytes_eq}
use Rattle.std.specs.List.{AllByRecursion}
use Rattle.std.proofs.lemmas.Bool.{false≢true, true≢false, and_parts, and_from}
use Rattle.slon_model.specs.Rows.{Rows, Action, apply, member, play_rows}
use Rattle.slon_model.specs.Snapshots.{Snapshot, sees}
use Rattle.slon_model.specs.Deeds.{Node}
use Rattle.slon_model.specs.Place.{Place}
use Rattle.slon_model.specs.Eras.{Stretch, is_before, is_within, delta_on}
use Rattle.slon_model.proofs.Names.{bytes_same, bytes_itself}
use Rattle.slon_laws.specs.Sound.{Pairs}
use Rattle.stream_laws.specs.Nodes.{IsAmong}
use Rattle.stream_laws.proofs.Lists.{all_among, among_all, all_appended}
use Rattle.image_laws.specs.Deltas.{applied, AreInOrder, IsRead}
use Rattle.image_laws.specs.Laws.{LogHas, LogHad}
use Rattle.image_laws.proofs.Logging.{among_left, among_right}

-- ---- what passes a test, in order

-- the last of these comes first
abbrev picked : (Action → Bool) → List Action → List Action
picked test [] = []
picked test (a ∷ rest) = cond (test a) (picked test rest ++ a ∷ []) (picked test rest)

applied_last : (actions : List Action) (a : Action) (rows : Rows) →
    applied (actions ++ a ∷ []) rows ≡ apply a.change (applied actions rows)
applied_last [] a rows = refl
applied_last (b ∷ rest) a rows = applied_last rest a (apply b.change rows)

picked_played : (test : Action → Bool) (table : List ℕ) (actions : List Action) (rows : Rows) →
    applied (picked (λ a. test a && bytes_eq table a.table) actions) rows ≡ play_rows test table actions rows
picked_played test table [] rows = refl
picked_played test table (a ∷ rest) rows =
    by (picked_played test table rest rows) (test a && bytes_eq table a.table)
  where
    others : List Action
    others = picked (λ a. test a && bytes_eq table a.table) rest

    by : applied others rows ≡ play_rows test table rest rows → (b : Bool) →
        applied (cond b (others ++ a ∷ []) others) rows
        ≡ cond b (apply a.change (play_rows test table rest rows)) (play_rows test table rest rows)
    by same true = applied_last others a rows ∙ ap (apply a.change) same
    by same false = same

-- what is picked is one of the actions and passes the test, and the other way round
picked_is : (test : Action → Bool) (a : Action) (actions : List Action) → IsAmong a (picked test actions) →
    IsAmong a actions × (test a ≡ true)
picked_is test a [] among = absurd among
picked_is test a (b ∷ rest) among = by (picked_is test a rest) (test b) refl among
  where
    last : (xs : List Action) → (IsAmong a xs → IsAmong a rest × (test a ≡ true)) → test b ≡ true →
        IsAmong a (xs ++ b ∷ []) → IsAmong a (b ∷ rest) × (test a ≡ true)
    last [] on passes (inl is) = (inl is, ap test is ∙ passes)
    last [] on passes (inr none) = absurd none
    last (c ∷ xs) on passes (inl is) = let there = on (inl is) in (inr there.0, there.1)
    last (c ∷ xs) on passes (inr later) = last xs (λ among. on (inr among)) passes later

    by : (IsAmong a (picked test rest) → IsAmong a rest × (test a ≡ true)) → (c : Bool) → test b ≡ c →
        IsAmong a (cond c (picked test rest ++ b ∷ []) (picked test rest)) → IsAmong a (b ∷ rest) × (test a ≡ true)
    by on true passes among = last (picked test rest) on passes among
    by on false other among = let there = on among in (inr there.0, there.1)

is_picked : (test : Action → Bool) (a : Action) (actions : List Action) → IsAmong a actions → test a ≡ true →
    IsAmong a (picked test actions)
is_picked test a [] among passes = absurd among
is_picked test a (b ∷ rest) among passes = by (λ later. is_picked test a rest later passes) (test b) refl among
  where
    by : (IsAmong a rest → IsAmong a (picked test rest)) → (c : Bool) → test b ≡ c → IsAmong a (b ∷ rest) →
        IsAmong a (cond c (picked test rest ++ b ∷ []) (picked test rest))
    by on true at (inl is) = among_right a (picked test rest) (b ∷ []) (inl is)
    by on true at (inr later) = among_left a (picked test rest) (b ∷ []) (on later)
    by on false at (inl is) = absurd (true≢false (sym passes ∙ ap test is ∙ at))
    by on false at (inr later) = on later

-- ---- one order

order_last : (actions : List Action) (a : Action) → AreInOrder actions →
    AllByRecursion (λ b. b.number < a.number) actions → AreInOrder (actions ++ a ∷ [])
order_last [] a order below = (tt, tt)
order_last (b ∷ rest) a order below = (
  all_appended (λ c. b.number < c.number) rest (a ∷ []) order.0 (below.0, tt),
  order_last rest a order.1 below.1,
)

picked_order : (test : Action → Bool) (actions : List Action) → Pairs (λ a b. a.number < b.number) actions →
    AreInOrder (picked test actions)
picked_order test [] pairs = tt
picked_order test (a ∷ rest) pairs = by (picked_order test rest pairs.1) (test a)
  where
    by : AreInOrder (picked test rest) → (b : Bool) →
        AreInOrder (cond b (picked test rest ++ a ∷ []) (picked test rest))
    by order true =
        order_last (picked test rest) a order (among_all (λ b. b.number < a.number) (picked test rest)
        (λ b among. all_among (λ b. b.number < a.number) b rest pairs.0 (picked_is test b rest among).0))
    by order false = order

-- two lists in order with the same members are one
one_order : (xs ys : List Action) → AreInOrder xs → AreInOrder ys →
    ((a : Action) → IsAmong a xs → IsAmong a ys) × ((a : Action) → IsAmong a ys → IsAmong a xs) → xs ≡ ys
one_order [] [] first second same = refl
one_order [] (y ∷ ys) first second same = absurd (same.1 y (inl refl))
one_order (x ∷ xs) [] first second same = absurd (same.0 x (inl refl))
one_order (x ∷ xs) (y ∷ ys) first second same =
    λ i. heads i ∷ one_order xs ys first.1 second.1 (left, right) i
  where
    heads : x ≡ y
    heads = by (same.0 x (inl refl)) (same.1 y (inl refl))
      where
        by : (x ≡ y) ⊎ IsAmong x ys → (y ≡ x) ⊎ IsAmong y xs → x ≡ y
        by (inl is) other = is
        by (inr later) (inl is) = sym is
        by (inr later) (inr behind) =
            let above = all_among (λ b. y.number < b.number) x ys second.0 later in
            let below = all_among (λ b. x.number < b.number) y xs first.0 behind in
            absurd (omega (arith, above, below))

    left : (a : Action) → IsAmong a xs → IsAmong a ys
    left a among = by (same.0 a (inr among))
      where
        by : (a ≡ y) ⊎ IsAmong a ys → IsAmong a ys
        by (inl is) =
            let above = all_among (λ b. x.number < b.number) a xs first.0 among in
            let one : a.number ≡ x.number = ap (λ (b : Action). b.number) (is ∙ sym heads) in
            absurd (omega (arith, above, one))
        by (inr later) = later

    right : (a : Action) → IsAmong a ys → IsAmong a xs
    right a among = by (same.1 a (inr among))
      where
        by : (a ≡ x) ⊎ IsAmong a xs → IsAmong a xs
        by (inl is) =
            let above = all_among (λ b. y.number < b.number) a ys second.0 among in
            let one : a.number ≡ y.number = ap (λ (b : Action). b.number) (is ∙ heads) in
            absurd (omega (arith, above, one))
        by (inr later) = later

-- ---- what is read

-- an action by whether the snapshots see it, it is committed, and it is within the stretch
tested : (new old came within : Bool) → (((new && not old) && came) && within) ≡ true →
    (new ≡ true) × (old ≡ false) × (came ≡ true) × (within ≡ true)
tested true false true true is = (refl, refl, refl, refl)
tested true false true false is = absurd (false≢true is)
tested true false false within is = absurd (false≢true is)
tested true true came within is = absurd (false≢true is)
tested false old came within is = absurd (false≢true is)

passes : (new old came within : Bool) → new ≡ true → old ≡ false → came ≡ true → within ≡ true →
    (((new && not old) && came) && within) ≡ true
passes true false true true one two three four = refl
passes true false true false one two three four = absurd (false≢true four)
passes true false false within one two three four = absurd (false≢true three)
passes true true came within one two three four = absurd (true≢false two)
passes false old came within one two three four = absurd (false≢true one)

-- What was read of a table in the log of a node between two snapshots.
pub record Reading (n : Node) (table : List ℕ) : Type 0 where
  pub old : Snapshot
  pub new : Snapshot
  pub actions : List Action
  pub is : IsRead n table old new actions

-- applied in order it is the delta
pub read_leads : (p : Place) (n : Node) (s : Stretch) → Pairs (λ a b. a.number < b.number) p.actions →
    (r : Reading n s.table) → LogHad p n s r.new → (rows : Rows) →
    applied r.actions rows ≡ delta_on p.actions p.commits r.old r.new s rows
read_leads p n s rising r log rows =
    ap (λ list. applied list rows) (one_order r.actions (picked test p.actions) r.is.in_order
    (picked_order test p.actions rising) (there, back))
    ∙ picked_played delta s.table p.actions rows
  where
    delta : Action → Bool
    delta a = ((sees r.new a.xid && not (sees r.old a.xid)) && member a.xid p.commits) && is_within s a

    test : Action → Bool
    test a = delta a && bytes_eq s.table a.table

    same_bytes : (x y : List ℕ) → x ≡ y → bytes_eq x y ≡ true
    same_bytes x y same = subst (λ z. bytes_eq x z ≡ true) same (bytes_itself x)

    there : (a : Action) → IsAmong a r.actions → IsAmong a (picked test p.actions)
    there a among =
        let from = r.is.only a among in
        let both = log.only from.0 from.1 from.3.on from.3.seen in
        let one = both.0 in
        let within : is_within s from.0.action ≡ true = both.1 in
        subst (λ b. IsAmong b (picked test p.actions)) from.2
        (is_picked test from.0.action p.actions one.among
        (and_from (delta from.0.action) (bytes_eq s.table from.0.action.table)
        (passes (sees r.new from.0.action.xid) (sees r.old from.0.action.xid) (member from.0.action.xid p.commits)
        (is_within s from.0.action) from.3.seen from.3.unseen one.came within)
        (same_bytes s.table from.0.action.table (sym from.3.on))))

    back : (a : Action) → IsAmong a (picked test p.actions) → IsAmong a r.actions
    back a among =
        let is = picked_is test a p.actions among in
        let parts = and_parts (delta a) (bytes_eq s.table a.table) is.1 in
        let told =
        tested (sees r.new a.xid) (sees r.old a.xid) (member a.xid p.commits) (is_within s a) parts.0 in
        let on : a.table ≡ s.table = sym (bytes_same s.table a.table parts.1) in
        let from = log.all a is.0 on told.2 told.3 told.0 in
        subst (λ b. IsAmong b r.actions) from.2
        (r.is.all from.0 from.1 (record {
          on = ap (λ (b : Action). b.table) from.2 ∙ on;
          seen = ap (λ (b : Action). sees r.new b.xid) from.2 ∙ told.0;
          unseen = ap (λ (b : Action). sees r.old b.xid) from.2 ∙ told.1;
        }))

-- of a stretch that lasts, the log has what any snapshot sees
pub has_had : (p : Place) (n : Node) (s : Stretch) (k : Snapshot) → LogHas p n s → LogHad p n s k
has_had p n s k log = record {
  all = λ a among on came within seen. log.all a among on came within;
  only = λ l among on seen. let one = log.only l among on in (
    one,
    and_from (nat_le s.first l.action.number) (is_before l.action.number s.last) one.first
        (ap (is_before l.action.number) log.lasts),
  );
}
