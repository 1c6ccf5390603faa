-- The nodes of a session go on: each one stays and only gains, so what was told of streams is so still.
use Rattle.std.proofs.Common.{◌≡◌, ◌≤◌, ◌⊎◌, inl, inr, ℕ, Bool, true, false, cond, List, [], ◌++◌, Option, Some, None}
use Rattle.std.proofs.Common.{refl, sym, ap, subst, ◌∙◌, arith}
use Rattle.std.specs.Str.{bytes_eq}
use Rattle.std.specs.List.{cons_option, AllByRecursion}
use Rattle.std.proofs.lemmas.List.{append_assoc}
use Rattle.slon_model.specs.Maps.{Map, number_at}
use Rattle.slon_model.specs.Events.{Event}
use Rattle.slon_model.specs.Config.{Config}
use Rattle.slon_model.specs.Deeds.{Node, knowledge, stream, met, progress}
use Rattle.slon_model.proofs.Names.{all_map, bytes_same, bytes_itself, one_found}
use Rattle.stream_laws.specs.Nodes.{IsAmong, Nodes, IsKnown, IsEvent, HasConfirmed, WaitsAt}
use Rattle.stream_laws.specs.Making.{Mark, tells_of, IsMade, HasEmitted, IsMarked}
use Rattle.stream_laws.specs.Facts.{Facts, AreRegular, RowConfirmed, WaitsIn, LinesAre, AllWait}
use Rattle.stream_laws.proofs.Lists.{among_behind}

-- A node is the same one later, with no less.
pub record Extends (n m : Node) : Type 0 where
  pub id : m.id ≡ n.id
  pub further : (origin : ℕ) → progress origin (knowledge n) ≤ progress origin (knowledge m)
  pub knows : (id : ℕ) → IsKnown id (knowledge n).config → IsKnown id (knowledge m).config
  pub more : List Event
  pub all : stream m ≡ more ++ stream n

pub record Grown (nodes : Nodes) (name : List ℕ) (n : Node) : Type 0 where
  pub node : Node
  pub is : nodes name ≡ Some node
  pub extends : Extends n node

-- each node is there still, and has no less
abbrev pub Grow : Nodes → Nodes → Type 0
Grow old new = (name : List ℕ) (n : Node) → old name ≡ Some n → Grown new name n

itself : (n : Node) → Extends n n
itself n = record {
  id = refl;
  further = λ origin. omega arith;
  knows = λ id is. is;
  more = [];
  all = refl;
}

extended : (n m o : Node) → Extends n m → Extends m o → Extends n o
extended n m o one two = record {
  id = two.id ∙ one.id;
  further = λ origin. omega (arith, one.further origin, two.further origin);
  knows = λ id is. two.knows id (one.knows id is);
  more = two.more ++ one.more;
  all = two.all ∙ ap (λ es. two.more ++ es) one.all ∙ sym (append_assoc two.more one.more (stream n));
}

pub kept : (n m : Node) (x : Extends n m) (e : Event) → IsAmong e (stream n) → IsAmong e (stream m)
kept n m x e among = subst (IsAmong e) (sym x.all) (among_behind e x.more (stream n) among)

-- ---- what is told of streams

pub event_grown : {old new : Nodes} → Grow old new → (e : Event) → IsEvent old e → IsEvent new e
event_grown grow e is =
    let grown = grow is.name is.node is.is in
    record {
      name = is.name;
      node = grown.node;
      is = grown.is;
      own = grown.extends.id ∙ is.own;
      among = kept is.node grown.node grown.extends e is.among;
    }

emitted_grown : {old new : Nodes} → Grow old new → (c : Config) (r : ℕ × ℕ) → HasEmitted old c r → HasEmitted new c r
emitted_grown grow c r is =
    let grown = grow is.name is.node is.is in
    record {
      name = is.name;
      node = grown.node;
      is = grown.is;
      own = grown.extends.id ∙ is.own;
      later = grown.extends.more ++ is.later;
      earlier = is.earlier;
      all =
          grown.extends.all ∙ ap (λ es. grown.extends.more ++ es) is.all
          ∙ sym (append_assoc grown.extends.more is.later is.earlier);
      far = is.far;
      told = is.told;
    }

abbrev pub made_grown : {old new : Nodes} {mark : Mark} → Grow old new → IsMade old mark → IsMade new mark
made_grown grow is =
    let grown = grow is.name is.node is.is in
    record {
      name = is.name;
      node = grown.node;
      is = grown.is;
      event = is.event;
      among = kept is.node grown.node grown.extends is.event is.among;
      makes = is.makes;
    }

pub marked_grown : {old new : Nodes} → Grow old new → (c : Config) (reached : Map ℕ) → IsMarked old c reached →
    IsMarked new c reached
marked_grown {old} {new} grow c reached is = record {
  emitted = all_map (HasEmitted old c) (HasEmitted new c) (emitted_grown grow c) reached is.emitted;
  met = λ mark has.
      let one = is.met mark has in
      record {
        made = made_grown grow one.made;
        within =
            subst (λ id. one.made.event.number ≤ number_at id reached)
            (sym (grow one.made.name one.made.node one.made.is).extends.id) one.within;
      };
  origins = λ set row found.
      let one = is.origins set row found in
      (made_grown grow one.0, (grow one.0.name one.0.node one.0.is).extends.id ∙ one.1);
}

pub confirmed_grown : {old new : Nodes} → Grow old new → (c : ℕ × ℕ × ℕ) → HasConfirmed old c → HasConfirmed new c
confirmed_grown grow c is =
    let grown = grow is.name is.node is.is in
    record {
      name = is.name;
      node = grown.node;
      is = grown.is;
      own = grown.extends.id ∙ is.own;
      within = omega (arith, is.within, grown.extends.further c.0);
    }

pub row_grown : {old new : Nodes} → Grow old new → (row : ℕ × Map ℕ) → RowConfirmed old row → RowConfirmed new row
row_grown {old} {new} grow row is =
    all_map (λ c. HasConfirmed old (row.0, c.0, c.1)) (λ c. HasConfirmed new (row.0, c.0, c.1))
    (λ c one. confirmed_grown grow (row.0, c.0, c.1) one) row.1 is

pub told_grown : {old new : Nodes} → Grow old new → (told : List (ℕ × Map ℕ)) →
    AllByRecursion (RowConfirmed old) told → AllByRecursion (RowConfirmed new) told
told_grown {old} {new} grow told all = all_map (RowConfirmed old) (RowConfirmed new) (row_grown grow) told all

pub events_grown : {old new : Nodes} → Grow old new → (events : List Event) → AllByRecursion (IsEvent old) events →
    AllByRecursion (IsEvent new) events
events_grown {old} {new} grow events all = all_map (IsEvent old) (IsEvent new) (event_grown grow) events all

wait_grown : {old new : Nodes} → Grow old new → (name : List ℕ) (e : Event) → WaitsAt old name e → WaitsAt new name e
wait_grown grow name e is =
    let grown = grow name is.node is.is in
    record {
      event = event_grown grow e is.event;
      node = grown.node;
      is = grown.is;
      knows = grown.extends.knows e.origin is.knows;
    }

pub waits_grown : {old new : Nodes} → Grow old new → (queues : List (List ℕ × Map (List Event))) →
    AllWait old queues → AllWait new queues
waits_grown {old} {new} grow queues all =
    all_map (λ q. LinesAre old q.0 q.1) (λ q. LinesAre new q.0 q.1)
    (λ q. all_map (λ line. AllByRecursion (WaitsIn old q.0 line.0) line.1)
    (λ line. AllByRecursion (WaitsIn new q.0 line.0) line.1)
    (λ line. all_map (WaitsIn old q.0 line.0) (WaitsIn new q.0 line.0)
    (λ e is. (wait_grown grow q.0 e is.0, is.1)) line.1) q.1) queues all

pub facts_grown : {old new : Nodes} → Grow old new → (n : Node) → Facts old n → Facts new n
facts_grown grow n f = record {
  knows = f.knows;
  emitted = f.emitted;
  whole = f.whole;
  low = f.low;
  first = f.first;
  marked = marked_grown grow (knowledge n).config (knowledge n).progress f.marked;
  applied = f.applied;
  told = told_grown grow (knowledge n).told f.told;
  met = events_grown grow (met n) f.met;
}

-- ---- the nodes go on

-- They gained, and what holds of all nodes holds still.
pub record GoOn (old new : Nodes) : Type 0 where
  pub grow : Grow old new
  pub regular : AreRegular new

pub go_nowhere : (nodes : Nodes) → AreRegular nodes → GoOn nodes nodes
go_nowhere nodes regular = record {
  grow = λ name n is. record { node = n; is = is; extends = itself n };
  regular = regular;
}

pub go_further : {old middle new : Nodes} → GoOn old middle → GoOn middle new → GoOn old new
go_further {old} {middle} {new} one two = record {
  grow = λ name n is.
      let first = one.grow name n is in
      let second = two.grow name first.node first.is in
      record {
        node = second.node;
        is = second.is;
        extends = extended n first.node second.node first.extends second.extends;
      };
  regular = two.regular;
}

-- the same nodes, by name
pub go_same : {old middle new : Nodes} → ((name : List ℕ) → new name ≡ middle name) → GoOn old middle → GoOn old new
go_same {old} {middle} {new} same on = subst (GoOn old) path on
  where
    path : middle ≡ new
    path = λ i. λ name. sym (same name) i

-- ---- the node of one database

-- the node of the database of this name is another one, and those of others are the same
abbrev pub placed : List ℕ → Option Node → Nodes → Nodes
placed name o nodes k = cond (bytes_eq k name) o (nodes k)

-- the events that the node of a database emitted
abbrev pub stream_in : Option Node → List Event
stream_in None = []
stream_in (Some n) = stream n

abbrev pub tells_in : Option Event → Mark → Bool
tells_in None mark = false
tells_in (Some e) mark = tells_of e.body mark

-- A node that takes the place of one that was there, or of none: it extends that one, and its id is of no other. It
-- emits at most one event more, and what that makes known is new.
pub record Placing (nodes : Nodes) (name : List ℕ) (m : Node) : Type 0 where
  pub fresh : Option Event
  pub emits : stream m ≡ cons_option fresh (stream_in (nodes name))
  pub unmade : (mark : Mark) → tells_in fresh mark ≡ true → IsMade nodes mark → ⊥
  pub extends : (n : Node) → nodes name ≡ Some n → Extends n m
  pub alone : (k : List ℕ) (n : Node) → nodes k ≡ Some n → n.id ≡ m.id → k ≡ name
  pub facts : (new : Nodes) → Grow nodes new → new name ≡ Some m → Facts new m

-- where a node is found, it was placed there or stood there before
pub found_where : (name k : List ℕ) (m n : Node) (old : Nodes) → placed name (Some m) old k ≡ Some n →
    ((k ≡ name) × (n ≡ m)) ⊎ (old k ≡ Some n)
found_where name k m n old = by (bytes_eq k name) refl
  where
    by : (b : Bool) → bytes_eq k name ≡ b → cond b (Some m) (old k) ≡ Some n →
        ((k ≡ name) × (n ≡ m)) ⊎ (old k ≡ Some n)
    by true same here = inl (bytes_same k name same, cc)
    by false other there = inr there

placed_grows : (name : List ℕ) (m : Node) (old : Nodes) → Placing old name m → Grow old (placed name (Some m) old)
placed_grows name m old p k n is = by (bytes_eq k name) refl
  where
    by : (b : Bool) → bytes_eq k name ≡ b → Grown (placed name (Some m) old) k n
    by true same = record {
      node = m;
      is = ap (λ b. cond b (Some m) (old k)) same;
      extends = p.extends n (ap old (sym (bytes_same k name same)) ∙ is);
    }
    by false other = record {
      node = n;
      is = ap (λ b. cond b (Some m) (old k)) other ∙ is;
      extends = itself n;
    }

-- it is made known by an event with this number, of the node of the database of this name
abbrev MadeAt : Nodes → Mark → List ℕ → ℕ → Type 0
MadeAt nodes mark name number = (made : IsMade nodes mark) × (made.name ≡ name) × (made.event.number ≡ number)

-- it was made known so, or by the new event of the node of this database
abbrev IsTraced : Nodes → Mark → List ℕ × Option Event → List ℕ → Event → Type 0
IsTraced old mark new name e = MadeAt old mark name e.number ⊎ ((name ≡ new.0) × (new.1 ≡ Some e))

made_before : (name : List ℕ) (old : Nodes) (mark : Mark) (e : Event) → IsAmong e (stream_in (old name)) →
    tells_of e.body mark ≡ true → MadeAt old mark name e.number
made_before name old mark e among makes = by (old name) refl among
  where
    by : (o : Option Node) → old name ≡ o → IsAmong e (stream_in o) → MadeAt old mark name e.number
    by None is among = absurd among
    by (Some n) is among =
        (record { name = name; node = n; is = is; event = e; among = among; makes = makes }, refl, refl)

-- what is made known with a node in its place was made known before, or is by the new event of that node
made_where : (name : List ℕ) (m : Node) (old : Nodes) (p : Placing old name m) (mark : Mark)
    (x : IsMade (placed name (Some m) old) mark) → IsTraced old mark (name, p.fresh) x.name x.event
made_where name m old p mark x = by (found_where name x.name m x.node old x.is)
  where
    before : x.name ≡ name → IsAmong x.event (stream_in (old name)) → MadeAt old mark x.name x.event.number
    before at among =
        subst (λ k. MadeAt old mark k x.event.number) (sym at) (made_before name old mark x.event among x.makes)

    fresh : x.name ≡ name → (o : Option Event) → p.fresh ≡ o →
        IsAmong x.event (cons_option o (stream_in (old name))) → IsTraced old mark (name, p.fresh) x.name x.event
    fresh at None is among = inl (before at among)
    fresh at (Some e) is (inl same) = inr (at, is ∙ ap Some (sym same))
    fresh at (Some e) is (inr later) = inl (before at later)

    by : ((x.name ≡ name) × (x.node ≡ m)) ⊎ (old x.name ≡ Some x.node) →
        IsTraced old mark (name, p.fresh) x.name x.event
    by (inl at) = fresh at.0 p.fresh refl (subst (IsAmong x.event) (ap stream at.1 ∙ p.emits) x.among)
    by (inr there) = inl (
      record {
        name = x.name;
        node = x.node;
        is = there;
        event = x.event;
        among = x.among;
        makes = x.makes;
      },
      refl,
      refl,
    )

pub placing : (name : List ℕ) (m : Node) (old : Nodes) → AreRegular old → Placing old name m →
    GoOn old (placed name (Some m) old)
placing name m old regular p = record { grow = grow; regular = record { each = each; apart = apart; once = once } }
  where
    new : Nodes
    new = placed name (Some m) old

    grow : Grow old new
    grow = placed_grows name m old p

    here : new name ≡ Some m
    here = ap (λ b. cond b (Some m) (old name)) (bytes_itself name)

    each : (k : List ℕ) (n : Node) → new k ≡ Some n → Facts new n
    each k n is = by (found_where name k m n old is)
      where
        by : ((k ≡ name) × (n ≡ m)) ⊎ (old k ≡ Some n) → Facts new n
        by (inl at) = subst (Facts new) (sym at.1) (p.facts new grow here)
        by (inr there) = facts_grown grow n (regular.each k n there)

    apart : (a b : List ℕ) (x y : Node) → new a ≡ Some x → new b ≡ Some y → x.id ≡ y.id → a ≡ b
    apart a b x y is_x is_y one = by (found_where name a m x old is_x) (found_where name b m y old is_y)
      where
        by : ((a ≡ name) × (x ≡ m)) ⊎ (old a ≡ Some x) → ((b ≡ name) × (y ≡ m)) ⊎ (old b ≡ Some y) → a ≡ b
        by (inl at) (inl to) = at.0 ∙ sym to.0
        by (inl at) (inr there) =
            at.0 ∙ sym (p.alone b y there (sym one ∙ ap (λ (z : Node). z.id) at.1))
        by (inr there) (inl to) = p.alone a x there (one ∙ ap (λ (z : Node). z.id) to.1) ∙ sym to.0
        by (inr there) (inr other) = regular.apart a b x y there other one

    once : (mark : Mark) (x y : IsMade new mark) → (x.name ≡ y.name) × (x.event.number ≡ y.event.number)
    once mark x y = by (made_where name m old p mark x) (made_where name m old p mark y)
      where
        first : (z : IsMade new mark) → p.fresh ≡ Some z.event → IsMade old mark → ⊥
        first z is before = p.unmade mark (ap (λ o. tells_in o mark) is ∙ z.makes) before

        by : IsTraced old mark (name, p.fresh) x.name x.event → IsTraced old mark (name, p.fresh) y.name y.event →
            (x.name ≡ y.name) × (x.event.number ≡ y.event.number)
        by (inl a) (inl b) =
            let one = regular.once mark a.0 b.0 in (sym a.1 ∙ one.0 ∙ b.1, sym a.2 ∙ one.1 ∙ b.2)
        by (inl a) (inr b) = absurd (first y b.1 a.0)
        by (inr a) (inl b) = absurd (first x a.1 b.0)
        by (inr a) (inr b) = (
          a.0 ∙ sym b.0,
          ap (λ (e : Event). e.number) (one_found x.event y.event (sym a.1 ∙ b.1)),
        )

-- A node that was there is another one with no less, and has emitted at most one event more.
pub record Turning (nodes : Nodes) (name : List ℕ) (n m : Node) : Type 0 where
  pub is : nodes name ≡ Some n
  pub fresh : Option Event
  pub emits : stream m ≡ cons_option fresh (stream n)
  pub unmade : (mark : Mark) → tells_in fresh mark ≡ true → IsMade nodes mark → ⊥
  pub extends : Extends n m
  pub facts : (new : Nodes) → Grow nodes new → new name ≡ Some m → Facts new m

pub turning : (name : List ℕ) (n m : Node) (old : Nodes) → AreRegular old → Turning old name n m →
    GoOn old (placed name (Some m) old)
turning name n m old regular t =
    placing name m old regular (record {
      fresh = t.fresh;
      emits = t.emits ∙ ap (λ o. cons_option t.fresh (stream_in o)) (sym t.is);
      unmade = t.unmade;
      extends = λ x is. subst (λ y. Extends y m) (one_found n x (sym t.is ∙ is)) t.extends;
      alone = λ k x is one. regular.apart k name x n is t.is (one ∙ t.extends.id);
      facts = t.facts;
    })

-- A node that was there is another one, and has emitted nothing.
pub record Staying (nodes : Nodes) (name : List ℕ) (n m : Node) : Type 0 where
  pub is : nodes name ≡ Some n
  pub quiet : stream m ≡ stream n
  pub id : m.id ≡ n.id
  pub further : (origin : ℕ) → progress origin (knowledge n) ≤ progress origin (knowledge m)
  pub knows : (id : ℕ) → IsKnown id (knowledge n).config → IsKnown id (knowledge m).config
  pub facts : (new : Nodes) → Grow nodes new → new name ≡ Some m → Facts new m

pub staying : (name : List ℕ) (n m : Node) (old : Nodes) → AreRegular old → Staying old name n m →
    GoOn old (placed name (Some m) old)
staying name n m old regular s =
    turning name n m old regular (record {
      is = s.is;
      fresh = None;
      emits = s.quiet;
      unmade = λ mark is made. absurd cc;
      extends = record { id = s.id; further = s.further; knows = s.knows; more = []; all = s.quiet };
      facts = s.facts;
    })
