-- The events of a stream: their numbers, and what one knows who has met a number of them.
use Rattle.std.proofs.Common.{◌≡◌, ◌≢◌, ◌≤◌, inl, inr, ℕ, suc, List, [], ◌∷◌, ◌++◌, length, Option, Some, None, refl}
use Rattle.std.proofs.Common.{Bool, true, false, cond, sym, ap, subst, ◌∙◌, arith, unwrap_or, eq-eqb}
use Rattle.std.specs.Prelude.{◌==◌, ◌+◌}
use Rattle.std.specs.List.{AllByRecursion}
use Rattle.std.proofs.lemmas.Bool.{false≢true, false_from_ne_true, eqb-true}
use Rattle.std.proofs.lemmas.List.{length-append}
use Rattle.slon_model.specs.Maps.{Map, entry_at, with_entry, number_at}
use Rattle.slon_model.specs.Events.{Event}
use Rattle.slon_model.specs.Config.{Config}
use Rattle.slon_model.specs.Deeds.{Node, knowledge, stream}
use Rattle.slon_model.proofs.Names.{one_found}
use Rattle.stream_laws.specs.Nodes.{IsAmong, Nodes, IsEvent}
use Rattle.stream_laws.specs.Making.{Mark, has_mark, IsMade, AreEmitted, IsTold, HasEmitted}
use Rattle.stream_laws.specs.Applied.{of_origin, AreSuccessive, HasApplied}
use Rattle.stream_laws.specs.Facts.{Facts, AreRegular}
use Rattle.stream_laws.proofs.Lists.{all_among, all_entry, number_beside, number_here}

-- ---- their numbers

pub number_within : (own : ℕ) (es : List Event) (e : Event) → AreEmitted own es → IsAmong e es →
    (1 ≤ e.number) × (e.number ≤ length es)
number_within own [] e are among = absurd among
number_within own (f ∷ fs) e are (inl is) =
    let same = ap (λ (g : Event). g.number) is in
    (omega (arith, same, are.1), omega (arith, same, are.1))
number_within own (f ∷ fs) e are (inr later) =
    let rest = number_within own fs e are.3 later in (rest.0, omega (arith, rest.1))

-- two events of one stream with one number
pub same_number : (own : ℕ) (es : List Event) (a b : Event) → AreEmitted own es → IsAmong a es → IsAmong b es →
    a.number ≡ b.number → a ≡ b
same_number own [] a b are among_a among_b same = absurd among_a
same_number own (e ∷ es) a b are (inl is_a) (inl is_b) same = is_a ∙ sym is_b
same_number own (e ∷ es) a b are (inl is_a) (inr later) same =
    let at = ap (λ (f : Event). f.number) is_a in
    let within = number_within own es b are.3 later in
    absurd (omega (arith, at, within.1, are.1, same))
same_number own (e ∷ es) a b are (inr later) (inl is_b) same =
    let at = ap (λ (f : Event). f.number) is_b in
    let within = number_within own es a are.3 later in
    absurd (omega (arith, at, within.1, are.1, same))
same_number own (e ∷ es) a b are (inr later_a) (inr later_b) same =
    same_number own es a b are.3 later_a later_b same

-- the events that were emitted before
pub emitted_before : (own : ℕ) (later earlier : List Event) → AreEmitted own (later ++ earlier) →
    AreEmitted own earlier
emitted_before own [] earlier are = are
emitted_before own (f ∷ later) earlier are = emitted_before own later earlier are.3

-- an event with a low number is an early one
pub among_earlier : (own : ℕ) (later earlier : List Event) (e : Event) → AreEmitted own (later ++ earlier) →
    IsAmong e (later ++ earlier) → e.number ≤ length earlier → IsAmong e earlier
among_earlier own [] earlier e are among low = among
among_earlier own (f ∷ later) earlier e are (inl is) low =
    let same = ap (λ (g : Event). g.number) is in
    absurd (omega (arith, same, are.1, length-append later earlier, low))
among_earlier own (f ∷ later) earlier e are (inr among) low = among_earlier own later earlier e are.3 among low

-- An event of a stream, with those before it.
pub record Found (own : ℕ) (es : List Event) (e : Event) : Type 0 where
  pub later : List Event
  pub earlier : List Event
  pub all : es ≡ later ++ e ∷ earlier
  pub are : AreEmitted own (e ∷ earlier)

pub among_found : (own : ℕ) (es : List Event) (e : Event) → AreEmitted own es → IsAmong e es → Found own es e
among_found own [] e are among = absurd among
among_found own (f ∷ fs) e are (inl is) = record {
  later = [];
  earlier = fs;
  all = ap (λ g. g ∷ fs) (sym is);
  are = subst (λ g. AreEmitted own (g ∷ fs)) (sym is) are;
}
among_found own (f ∷ fs) e are (inr among) =
    let rest = among_found own fs e are.3 among in
    record { later = f ∷ rest.later; earlier = rest.earlier; all = ap (λ gs. f ∷ gs) rest.all; are = rest.are }

-- an event of the stream of a node is one of its own
abbrev pub own_is : (nodes : Nodes) (name : List ℕ) (n : Node) → nodes name ≡ Some n → Facts nodes n → (e : Event) →
    IsAmong e (stream n) → IsEvent nodes e
own_is nodes name n is f e among = record {
  name = name;
  node = n;
  is = is;
  own = sym (among_found n.id (stream n) e f.emitted among).are.0;
  among = among;
}

-- ---- who has applied them

-- who is further in its own stream
pub applied_beside : (e : Event) (own : ℕ) (given reached : Map ℕ) (es : List Event) → e.origin ≡ own →
    HasApplied own given reached es → HasApplied own given (with_entry e.origin e.number reached) es
applied_beside e own given reached es is h = record {
  none = h.none;
  each = h.each;
  all = λ origin other.
      number_beside origin e.origin e.number reached (λ same. other (same ∙ is)) ∙ h.all origin other;
}

-- who has applied the next event of another stream
pub applied_next : (e : Event) (own : ℕ) (given reached : Map ℕ) (es : List Event) → e.origin ≢ own →
    e.number ≡ suc (number_at e.origin reached) → HasApplied own given reached es →
    HasApplied own given (with_entry e.origin e.number reached) (e ∷ es)
applied_next e own given reached es apart next h = record {
  none = ap (λ b. cond b (e ∷ of_origin own es) (of_origin own es)) (false_from_ne_true (e.origin == own) (λ same.
      apart (eqb-true e.origin own same))) ∙ h.none;
  each = λ origin other. (by origin other (e.origin == origin) refl).0;
  all = λ origin other. (by origin other (e.origin == origin) refl).1;
}
  where
    Has : ℕ → List Event → Type 0
    Has origin fs = AreSuccessive (number_at origin given) fs
        × (number_at origin (with_entry e.origin e.number reached) ≡ number_at origin given + length fs)

    by : (origin : ℕ) → origin ≢ own → (b : Bool) → (e.origin == origin) ≡ b →
        Has origin (cond b (e ∷ of_origin origin es) (of_origin origin es))
    by origin other true same =
        let is = eqb-true e.origin origin same in
        let here =
        subst (λ k. number_at k (with_entry e.origin e.number reached) ≡ e.number) is
        (number_here e.origin e.number reached) in
        let far = ap (λ k. number_at k reached) is in
        let before = h.all origin other in
        ((omega (arith, next, far, before), h.each origin other), omega (arith, here, next, far, before))
    by origin other false differ = (
      h.each origin other,
      number_beside origin e.origin e.number reached (λ same.
          false≢true (sym differ ∙ eq-eqb e.origin origin (sym same))) ∙ h.all origin other,
    )

-- ---- who has met them

-- nodes of one id are one node
pub one_node : (nodes : Nodes) → AreRegular nodes → (a b : List ℕ) (m n : Node) → nodes a ≡ Some m →
    (nodes b ≡ Some n) × (m.id ≡ n.id) → m ≡ n
one_node nodes regular a b m n is_m there =
    one_found m n (sym is_m ∙ ap nodes (regular.apart a b m n is_m there.0 there.1) ∙ there.0)

-- no node has had more of a stream than there is
pub reached_of : (nodes : Nodes) → AreRegular nodes → (name : List ℕ) (x : Node) → nodes name ≡ Some x →
    (c : Config) (reached : Map ℕ) → AllByRecursion (HasEmitted nodes c) reached →
    number_at x.id reached ≤ length (stream x)
reached_of nodes regular name x is c reached all = by (entry_at x.id reached) refl
  where
    by : (o : Option ℕ) → entry_at x.id reached ≡ o → unwrap_or o 0 ≤ length (stream x)
    by None none = omega arith
    by (Some number) some =
        let one = all_entry (HasEmitted nodes c) x.id number reached all some in
        let long = ap length one.all ∙ length-append one.later one.earlier in
        subst (λ (y : Node). number ≤ length (stream y))
        (one_node nodes regular one.name name one.node x one.is (is, one.own)) (omega (arith, long, one.far))

-- what an event makes known that one has met is known
pub has_told : (nodes : Nodes) → AreRegular nodes → (c : Config) (reached : Map ℕ) →
    AllByRecursion (HasEmitted nodes c) reached → (e : Event) (one : IsEvent nodes e) →
    e.number ≤ number_at one.node.id reached → IsTold c e
has_told nodes regular c reached all e one low = by (entry_at one.node.id reached) refl
  where
    are : AreEmitted one.node.id (stream one.node)
    are = (regular.each one.name one.node one.is).emitted

    by : (o : Option ℕ) → entry_at one.node.id reached ≡ o → IsTold c e
    by None none =
        let first = number_within one.node.id (stream one.node) e are one.among in
        let zero = ap (λ o. unwrap_or o 0) none in
        absurd (omega (arith, first.0, zero, low))
    by (Some number) some =
        let met = all_entry (HasEmitted nodes c) one.node.id number reached all some in
        let same = one_node nodes regular met.name one.name met.node one.node met.is (one.is, met.own) in
        let parts : stream one.node ≡ met.later ++ met.earlier = ap stream (sym same) ∙ met.all in
        let at = ap (λ o. unwrap_or o 0) some in
        all_among (IsTold c) e met.earlier met.told (among_earlier one.node.id met.later met.earlier e
        (subst (AreEmitted one.node.id) parts are) (subst (IsAmong e) parts one.among)
        (omega (arith, low, at, met.far)))

-- a node knows what its own events make known
pub own_told : (nodes : Nodes) → AreRegular nodes → (name : List ℕ) (n : Node) → nodes name ≡ Some n → (e : Event) →
    IsAmong e (stream n) → IsTold (knowledge n).config e
own_told nodes regular name n is e among =
    let f = regular.each name n is in
    let within = number_within n.id (stream n) e f.emitted among in
    has_told nodes regular (knowledge n).config (knowledge n).progress f.marked.emitted e
    (own_is nodes name n is f e among) (omega (arith, within.1, f.whole))

-- no node knows it
abbrev pub IsUnknown : Nodes → Mark → Type 0
IsUnknown nodes mark = (name : List ℕ) (n : Node) → nodes name ≡ Some n → has_mark mark (knowledge n).config ≡ false

-- what no node knows none has made known
pub none_made : (nodes : Nodes) → AreRegular nodes → (mark : Mark) → IsUnknown nodes mark → IsMade nodes mark → ⊥
none_made nodes regular mark unknown made =
    false≢true (sym (unknown made.name made.node made.is)
    ∙ own_told nodes regular made.name made.node made.is made.event made.among mark made.makes)
