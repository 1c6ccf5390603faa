-- Of questions to all nodes: the databases before and behind one, by their names and by the rules.
use Rattle.std.proofs.Common.{◌≡◌, ◌∙◌, ℕ, zero, suc, ◌<◌, ◌≤◌, ◌||◌, Bool, true, false, cond, List, [], ◌∷◌, length}
use Rattle.std.proofs.Common.{drop, map, get_or, filter, is_some, Option, Some, None, refl, sym, ap}
use Rattle.std.proofs.Common.{subst, arith}
use Rattle.std.proofs.lemmas.Bool.{false≢true, false_from_ne_true}
use Rattle.std.proofs.lemmas.List.{drop_all}
use Rattle.std.specs.List.{list_any, filter_map, slice_get}
use Rattle.std.specs.Option.{option_map}
use Rattle.std.specs.Str.{bytes_eq}
use Rattle.slon_model.specs.Names.{Named, find_named, put_named}
use Rattle.slon_model.specs.Config.{Config}
use Rattle.slon_model.specs.Deeds.{Node, knowledge}
use Rattle.slon_model.specs.Place.{Place, is_running, node_id}
use Rattle.slon_model.specs.Sessions.{World}
use Rattle.slon_model.specs.Reaching.{down_among, any_down, known_somewhere}
use Rattle.slon_model.proofs.Names.{bytes_same, bytes_itself}
use Rattle.app_store.specs.Base.{Base}
use Rattle.slonik_exec.specs.declared.knowing.Heard.TheVariants.{Known}
use Rattle.slonik_exec.specs.Databases.{FitsAll, AreReady, TriesAll}
use Rattle.slonik_exec.specs.Heard.{known_by, IsAwake, AreDistinct, AreSame}
use Rattle.slonik_exec.specs.Heard.{HearsIn}
use Rattle.slonik_exec.proofs.Lists.{IsFirst, first_later, find_at, same_length}
use Rattle.slonik_exec.proofs.Trying.{tries_itself}

-- ---- names

find_same : (name : List ℕ) (olds news : Named Base) → AreSame olds news → find_named name olds ≡ None →
    find_named name news ≡ None
find_same name [] [] same none = refl
find_same name [] (n ∷ ns) same none = absurd same
find_same name (o ∷ os) [] same none = absurd same
find_same name (o ∷ os) (n ∷ ns) same none = by (bytes_eq name o.0) refl none (find_same name os ns same.2)
  where
    by : (b : Bool) → bytes_eq name o.0 ≡ b → cond b (Some o.1) (find_named name os) ≡ None →
        (find_named name os ≡ None → find_named name ns ≡ None) → find_named name (n ∷ ns) ≡ None
    by true is at later = absurd cc
    by false is at later =
        ap (λ b. cond b (Some n.1) (find_named name ns)) (ap (bytes_eq name) same.0 ∙ is) ∙ later at

pub distinct_same : (olds news : Named Base) → AreSame olds news → AreDistinct olds → AreDistinct news
distinct_same [] [] same distinct = tt
distinct_same [] (n ∷ ns) same distinct = absurd same
distinct_same (o ∷ os) [] same distinct = absurd same
distinct_same (o ∷ os) (n ∷ ns) same distinct = (
  ap (λ name. find_named name ns) same.0 ∙ find_same o.0 os ns same.2 distinct.0,
  distinct_same os ns same.2 distinct.1,
)

pub same_itself : (bases : Named Base) → AreSame bases bases
same_itself [] = tt
same_itself (b ∷ bs) = (refl, refl, same_itself bs)

pub same_put : (name : List ℕ) (b d : Base) (olds news : Named Base) → AreSame olds news →
    find_named name news ≡ Some b →
    d.memory ≡ b.memory → AreSame olds (put_named name d news)
same_put name b d [] [] same found is = tt
same_put name b d [] (n ∷ ns) same found is = absurd same
same_put name b d (o ∷ os) [] same found is = absurd same
same_put name b d (o ∷ os) (n ∷ ns) same found is =
    by (bytes_eq name n.0) found (λ later. same_put name b d os ns same.2 later is)
  where
    by : (c : Bool) → cond c (Some n.1) (find_named name ns) ≡ Some b →
        (find_named name ns ≡ Some b → AreSame os (put_named name d ns)) →
        AreSame (o ∷ os) (cond c ((n.0, d) ∷ ns) (n ∷ put_named name d ns))
    by true at others =
        let here : b ≡ n.1 = cc in (same.0, is ∙ ap (λ x. x.memory) here ∙ same.1, same.2)
    by false at others = (same.0, same.1, others at)

-- where no name stands twice, each database is the first one of its name
pub is_first_by : {X : Type 0} (f : X → List ℕ × Base) (d : X) (items : List X) (i : ℕ) → AreDistinct (map f items) →
    i < length items → IsFirst f (f (get_or items i d)).0 d items i
is_first_by f d [] i distinct less = absurd (omega (arith, less))
is_first_by f d (x ∷ xs) zero distinct less =
    record { inside = less; named = bytes_itself (f x).0; before = λ k below. absurd (omega (arith, below)) }
is_first_by f d (x ∷ xs) (suc i) distinct less =
    let name = (f (get_or xs i d)).0 in
    let rest : IsFirst f name d xs i = is_first_by f d xs i distinct.1 (omega (arith, less)) in
    record { inside = less; named = rest.named; before = before name rest }
  where
    other : (name : List ℕ) → IsFirst f name d xs i → bytes_eq name (f x).0 ≡ true → ⊥
    other name rest same =
        let found = find_at f name d xs i rest in
        let none : find_named name (map f xs) ≡ None
        = ap (λ n. find_named n (map f xs)) (bytes_same name (f x).0 same) ∙ distinct.0 in
        absurd cc

    before : (name : List ℕ) → IsFirst f name d xs i → (k : ℕ) → k < suc i →
        bytes_eq name (f (get_or (x ∷ xs) k d)).0 ≡ false
    before name rest zero below = false_from_ne_true _ (other name rest)
    before name rest (suc k) below = rest.before k (omega (arith, below))

-- ---- places

-- whether a node among these knows it
abbrev pub somewhere : (Config → Bool) → Named Place → Bool
somewhere test places = list_any (λ k. test k.config) (filter_map (λ e. option_map knowledge e.1.node) places)

pub somewhere_by : (test : Config → Bool) (found : Option Node) (e : List ℕ × Place) (es : Named Place) →
    e.1.node ≡ found → somewhere test (e ∷ es) ≡ (known_by test found || somewhere test es)
somewhere_by test None e es is = rw is refl
somewhere_by test (Some n) e es is = rw is refl

-- the place at an index
pub record NextPlace (name : List ℕ) (places : Named Place) (i : ℕ) : Type 0 where
  pub entry : List ℕ × Place
  pub named : entry.0 ≡ name
  pub found : find_named name places ≡ Some entry.1
  pub at : slice_get places i ≡ Some entry
  pub next : drop i places ≡ entry ∷ drop (suc i) places

pub next_place : {X : Type 0} (f : X → List ℕ × Base) (name : List ℕ) (d : X) (places : Named Place) (items : List X)
    (i : ℕ) → FitsAll places (map f items) × IsFirst f name d items i → NextPlace name places i
next_place f name d places [] i (all, first) = absurd (omega (arith, first.inside))
next_place f name d [] (x ∷ xs) i (all, first) = absurd all
next_place f name d (p ∷ ps) (x ∷ xs) zero (all, first) = record {
  entry = p;
  named = all.0 ∙ sym (bytes_same name (f x).0 first.named);
  at = refl;
  found = ap (λ b. cond b (Some p.1) (find_named name ps)) (ap (bytes_eq name) all.0 ∙ first.named);
  next = refl;
}
next_place f name d (p ∷ ps) (x ∷ xs) (suc i) (all, first) =
    let rest = next_place f name d ps xs i (all.2, first_later f name d x xs i first) in
    record {
      entry = rest.entry;
      named = rest.named;
      at = rest.at;
      found = ap (λ b. cond b (Some p.1) (find_named name ps)) (ap (bytes_eq name) all.0 ∙ first.before 0 (omega arith))
          ∙ rest.found;
      next = rest.next;
    }

pub put_itself : (name : List ℕ) (p : Place) (places : Named Place) → find_named name places ≡ Some p →
    put_named name p places ≡ places
put_itself name p [] found = refl
put_itself name p (e ∷ es) found = by (bytes_eq name e.0) found (put_itself name p es)
  where
    by : (b : Bool) → cond b (Some e.1) (find_named name es) ≡ Some p →
        (find_named name es ≡ Some p → put_named name p es ≡ es) →
        cond b ((e.0, p) ∷ es) (e ∷ put_named name p es) ≡ e ∷ es
    by true at others = let here : p ≡ e.1 = cc in ap (λ x. (e.0, x) ∷ es) here
    by false at others = ap (λ l. e ∷ l) (others at)

-- where no node is down, each is up
pub none_down : (name : List ℕ) (p : Place) (places : Named Place) →
    down_among (filter (λ e. is_some (node_id e.1)) places) ≡ None → find_named name places ≡ Some p → IsAwake p
none_down name p [] none found = absurd cc
none_down name p (e ∷ es) none found =
    by (is_some (node_id e.1)) refl (is_running e.1.standing) refl none (bytes_eq name e.0) found
    (λ rest later. none_down name p es rest later)
  where
    others : Named Place
    others = filter (λ x. is_some (node_id x.1)) es

    by : (n : Bool) → is_some (node_id e.1) ≡ n → (u : Bool) → is_running e.1.standing ≡ u →
        down_among (cond n (e ∷ others) others) ≡ None → (b : Bool) →
        cond b (Some e.1) (find_named name es) ≡ Some p →
        (down_among others ≡ None → find_named name es ≡ Some p → IsAwake p) → IsAwake p
    by n n_is true u_is at true here rest =
        let same : e.1 ≡ p = cc in subst IsAwake same (λ some. u_is)
    by true n_is false u_is at b here rest = absurd cc
    by false n_is u u_is at true here rest =
        let same : e.1 ≡ p = cc in subst IsAwake same (λ some. absurd (false≢true (sym n_is ∙ some)))
    by true n_is true u_is at false later rest = rest (rw u_is at at) later
    by false n_is u u_is at false later rest = rest at later

-- ---- all databases

-- Those before this index were asked, and know nothing of it.
pub record AreAsked (test : Config → Bool) (olds news : Named Base) (i : ℕ) : Type 0 where
  pub tries : TriesAll true None olds news
  pub same : AreSame olds news
  pub left : (w : World) → AreReady w olds → any_down w ≡ None →
      FitsAll w.places news × (known_somewhere test w ≡ somewhere test (drop i w.places))

pub none_asked : (test : Config → Bool) (bases : Named Base) → AreAsked test bases bases 0
none_asked test bases = record {
  tries = tries_itself true bases;
  same = same_itself bases;
  left = λ w ready awake. (ready.fits, refl);
}

-- all were asked
pub all_asked : (test : Config → Bool) (olds news : Named Base) (i : ℕ) →
    AreAsked test olds news i × (length news ≤ i) → (w : World) → AreReady w olds → any_down w ≡ None →
    HearsIn test w (Known false) news
all_asked test olds news i (asked, less) w ready awake =
    let left = asked.left w ready awake in
    let same = same_length w.places news left.0 in
    (sym (left.1 ∙ ap (somewhere test) (drop_all i w.places (omega (arith, same, less)))), left.0)
