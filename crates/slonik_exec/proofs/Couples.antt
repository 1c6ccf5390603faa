-- What a join promises over every store of all databases, by what it promises of the two.
use Rattle.std.proofs.Common.{◌≡◌, ◌∙◌, ℕ, zero, suc, Bool, true, false, cond, List, [], ◌∷◌, length, get_or}
use Rattle.std.proofs.Common.{set, Option, Some, None, Result, Ok, Err, refl, sym, ap, subst, arith}
use Rattle.std.proofs.lemmas.Bool.{false≢true, true≢false}
use Rattle.std.specs.Str.{bytes_eq}
use Rattle.slon_base.specs.declared.fault.Halt.{Halt as HaltOf}
use Rattle.slon_base.specs.declared.fault.Halt.TheVariants.{Fault, Doubt, BadRow, TooBig, NoMemory}
use Rattle.slon_model.specs.declared.fault.DbFault.{DbFault}
use Rattle.slon_model.specs.declared.fault.DbFault.TheVariants.{Halt}
use Rattle.slon_model.specs.Names.{Named, find_named, put_named}
use Rattle.slon_model.specs.Tasks.{Words}
use Rattle.slon_model.specs.World.{halt_in, refusal_of}
use Rattle.slon_model.proofs.Names.{bytes_same, bytes_itself, bytes_turned_false, put_other}
use Rattle.node_change.specs.declared.side.Side.{Side}
use Rattle.node_change.specs.declared.side.Side.TheVariants.{From, To}
use Rattle.app_store.specs.Base.{Base}
use Rattle.app_store.specs.Serves.{is_memory}
use Rattle.node_store.specs.declared.joining.Joined.{Joined}
use Rattle.node_store.specs.declared.joining.Joined.TheVariants.{Done, EventInDoubt, NodeInDoubt}
use Rattle.node_store.specs.declared.joining.Fell.{Fell}
use Rattle.node_store.specs.Acting.{Tries}
use Rattle.node_store.specs.Joining.{Pair, Joiner, ActsBoth, is_short, is_calm_halt}
use Rattle.slon_model.specs.declared.reply.Reply.{Reply}
use Rattle.slonik_exec.specs.Databases.{Trouble, Tried, TriesAll, Runs, trouble_here, trouble_later, is_calm}
use Rattle.slonik_exec.specs.Telling.{failure_of, troubled}
use Rattle.slonik_exec.specs.Stored.{PairNames, Couple, JoinsTold, join_reply, name_at}
use Rattle.slonik_exec.proofs.Lists.{IsFirst}
use Rattle.slonik_exec.proofs.Telling.{words_at, told_refusal}
use Rattle.node_store.proofs.Chaining.{tries_then}
use Rattle.slonik_exec.proofs.Trying.{tries_put}

-- ---- two names

-- what is put under two names is put in any order
pub put_turned : {X : Type 0} (a b : List ℕ) (x y : X) (es : Named X) → bytes_eq a b ≡ false →
    put_named a x (put_named b y es) ≡ put_named b y (put_named a x es)
put_turned a b x y [] apart = refl
put_turned {X} a b x y (e ∷ es) apart = by (bytes_eq a e.0) refl (bytes_eq b e.0) refl (put_turned a b x y es apart)
  where
    by : (c : Bool) → bytes_eq a e.0 ≡ c → (d : Bool) → bytes_eq b e.0 ≡ d →
        put_named a x (put_named b y es) ≡ put_named b y (put_named a x es) →
        put_named a x (cond d ((e.0, y) ∷ es) (e ∷ put_named b y es))
        ≡ put_named b y (cond c ((e.0, x) ∷ es) (e ∷ put_named a x es))
    by true c_is true d_is rest =
        let same : a ≡ b = bytes_same a e.0 c_is ∙ sym (bytes_same b e.0 d_is) in
        absurd (false≢true (sym apart ∙ sym (ap (bytes_eq a) same) ∙ bytes_itself a))
    by true c_is false d_is rest = rw (c_is, d_is) refl
    by false c_is true d_is rest = rw (c_is, d_is) refl
    by false c_is false d_is rest = rw (c_is, d_is) (ap (λ l. e ∷ l) rest)

-- Two databases that stand under two names.
pub record TwoNamed (bases : Named Base) (c : Couple) : Type 0 where
  pub from : find_named c.names.from bases ≡ Some c.bases.from
  pub to : find_named c.names.to bases ≡ Some c.bases.to
  pub apart : bytes_eq c.names.from c.names.to ≡ false

-- both are changed
abbrev pub put_both : PairNames → Pair → Named Base → Named Base
put_both names new bases = put_named names.to new.to (put_named names.from new.from bases)

-- ---- one step after another

tried_after : (calm : Bool) (t : Option HaltOf) (old mid new : Base) → Tried calm None old mid →
    Tried calm t mid new → Tried calm t old new
tried_after calm t old mid new one two = record {
  tries = tries_then old mid new t one.tries two.tries;
  quiet = λ is n up. two.quiet is n (one.quiet is n up);
}

tries_after : (calm : Bool) (told : Option Trouble) (olds mids news : Named Base) → TriesAll calm None olds mids →
    TriesAll calm told mids news → TriesAll calm told olds news
tries_after calm told [] [] news one two = two
tries_after calm told [] (m ∷ ms) news one two = absurd one
tries_after calm told (o ∷ os) [] news one two = absurd one
tries_after calm told (o ∷ os) (m ∷ ms) [] one two = absurd two
tries_after calm told (o ∷ os) (m ∷ ms) (n ∷ ns) one two =
    let here = tried_after calm (trouble_here told m.0) o.1 m.1 n.1 one.1 two.1 in
    let rest = tries_after calm (trouble_later told m.0) os ms ns one.2 two.2 in (
      two.0 ∙ one.0,
      subst (λ name. Tried calm (trouble_here told name) o.1 n.1) one.0 here,
      subst (λ name. TriesAll calm (trouble_later told name) os ns) one.0 rest,
    )

-- ---- two databases

record TriedBoth (calm : Bool) (t u : Option HaltOf) (old new : Pair) : Type 0 where
  from : Tried calm t old.from new.from
  to : Tried calm u old.to new.to

-- what is told is told of the first one
tries_from : (calm : Bool) (t : Option HaltOf) (bases : Named Base) (c : Couple) (new : Pair) → TwoNamed bases c →
    TriedBoth calm t None c.bases new →
    TriesAll calm (troubled c.names.from t) bases (put_both c.names new bases)
tries_from calm t bases c new two tried =
    let a = c.names.from in
    let b = c.names.to in
    let mid = put_named b new.to bases in
    subst (TriesAll calm (troubled a t) bases) (put_turned a b new.from new.to bases two.apart)
    (tries_after calm (troubled a t) bases mid (put_named a new.from mid)
    (tries_put calm b None c.bases.to new.to bases two.to tried.to)
    (tries_put calm a t c.bases.from new.from mid (put_other a b new.to bases two.apart ∙ two.from) tried.from))

-- or of the second one
tries_to : (calm : Bool) (t : Option HaltOf) (bases : Named Base) (c : Couple) (new : Pair) → TwoNamed bases c →
    TriedBoth calm None t c.bases new → TriesAll calm (troubled c.names.to t) bases (put_both c.names new bases)
tries_to calm t bases c new two tried =
    let a = c.names.from in
    let b = c.names.to in
    let mid = put_named a new.from bases in
    tries_after calm (troubled b t) bases mid (put_both c.names new bases)
    (tries_put calm a None c.bases.from new.from bases two.from tried.from)
    (tries_put calm b t c.bases.to new.to mid
    (put_other b a new.from bases (bytes_turned_false a b two.apart) ∙ two.to) tried.to)

-- a stop that is no failure of the store is not told
tries_failure : (t : Option HaltOf) (old new : Base) → Tries t old new → Tries (failure_of t) old new
tries_failure None old new tries = tries
tries_failure (Some (Fault count)) old new tries = tries
tries_failure (Some Doubt) old new tries = tries
tries_failure (Some others) old new tries = record {
  later = tries.later;
  caused = tt;
  sure = tries.sure;
  still = tries.still;
  spends = λ failed. absurd (false≢true failed);
  falls = tt;
  told = tries.told;
  big = tt;
}

-- where the reply is calm, the stop was
calm_fell : (words : Words) (fault : DbFault) → is_memory (halt_in fault) ≡ false →
    is_calm (refusal_of words fault) ≡ true → is_calm_halt (halt_in fault) ≡ true
calm_fell words (Halt (Fault count)) full calm = absurd (false≢true calm)
calm_fell words (Halt Doubt) full calm = absurd (false≢true calm)
calm_fell words (Halt (BadRow space)) full calm = absurd (false≢true calm)
calm_fell words (Halt (TooBig space)) full calm = calm
calm_fell words (Halt NoMemory) full calm = absurd (true≢false full)
calm_fell words others full calm = refl

-- one of them fell
fell_by : (side : Side) (fault : DbFault) (bases : Named Base) (c : Couple) (new : Pair) → TwoNamed bases c →
    is_memory (halt_in fault) ≡ false →
    ActsBoth c.bases (Err (record { side = side; fault = fault })) new →
    Runs bases (refusal_of (words_at (name_at side c.names)) fault) (put_both c.names new bases)
fell_by From fault bases c new two full acts =
    let words = words_at c.names.from in
    let reply = refusal_of words fault in
    let quiet = λ (is : is_calm reply ≡ true). acts.quiet (calm_fell words fault full is) in
    subst (λ t. TriesAll (is_calm reply) t bases (put_both c.names new bases)) (sym (told_refusal words fault))
    (tries_from (is_calm reply) (failure_of (halt_in fault)) bases c new two (record {
      from = record {
        tries = tries_failure (halt_in fault) c.bases.from new.from acts.first;
        quiet = λ is. (quiet is).0;
      };
      to = record { tries = acts.second; quiet = λ is. (quiet is).1 };
    }))
fell_by To fault bases c new two full acts =
    let words = words_at c.names.to in
    let reply = refusal_of words fault in
    let quiet = λ (is : is_calm reply ≡ true). acts.quiet (calm_fell words fault full is) in
    subst (λ t. TriesAll (is_calm reply) t bases (put_both c.names new bases)) (sym (told_refusal words fault))
    (tries_to (is_calm reply) (failure_of (halt_in fault)) bases c new two (record {
      from = record { tries = acts.first; quiet = λ is. (quiet is).0 };
      to = record {
        tries = tries_failure (halt_in fault) c.bases.to new.to acts.second;
        quiet = λ is. (quiet is).1;
      };
    }))

runs_by : (own : ℕ) (r : Result (ℕ × Joined) Fell) (bases : Named Base) (c : Couple) (new : Pair) →
    TwoNamed bases c → is_short r ≡ false → ActsBoth c.bases r new →
    Runs bases (join_reply own c.names r) (put_both c.names new bases)
runs_by own (Ok (number, Done)) bases c new two full acts =
    tries_from true None bases c new two (record {
      from = record { tries = acts.first; quiet = λ is. (acts.quiet refl).0 };
      to = record { tries = acts.second; quiet = λ is. (acts.quiet refl).1 };
    })
runs_by own (Ok (number, EventInDoubt)) bases c new two full acts =
    tries_from false (Some Doubt) bases c new two (record {
      from = record { tries = acts.first; quiet = λ is. absurd (false≢true is) };
      to = record { tries = acts.second; quiet = λ is. absurd (false≢true is) };
    })
runs_by own (Ok (number, NodeInDoubt)) bases c new two full acts =
    tries_to false (Some Doubt) bases c new two (record {
      from = record { tries = acts.first; quiet = λ is. absurd (false≢true is) };
      to = record { tries = acts.second; quiet = λ is. absurd (false≢true is) };
    })
runs_by own (Err f) bases c new two full acts = fell_by f.side f.fault bases c new two full acts

-- over all databases, with what was told
pub runs_joined : (j : Joiner) (bases : Named Base) (c : Couple) (reply : Reply) (new : Pair) → TwoNamed bases c →
    JoinsTold j c reply new → Runs bases reply (put_both c.names new bases)
runs_joined j bases c reply new two joins =
    subst (λ r. Runs bases r (put_both c.names new bases)) (sym joins.told)
    (runs_by _ joins.result bases c new two joins.full joins.acts)

-- ---- two indices

pub names_set : {X : Type 0} (f : X → List ℕ × Base) (d x : X) (items : List X) (i k : ℕ) →
    (f x).0 ≡ (f (get_or items i d)).0 → (f (get_or (set items i x) k d)).0 ≡ (f (get_or items k d)).0
names_set f d x [] i k same = refl
names_set f d x (e ∷ es) zero zero same = same
names_set f d x (e ∷ es) zero (suc k) same = refl
names_set f d x (e ∷ es) (suc i) zero same = refl
names_set f d x (e ∷ es) (suc i) (suc k) same = names_set f d x es i k same

pub length_set : {X : Type 0} (x : X) (items : List X) (i : ℕ) → length (set items i x) ≡ length items
length_set x [] i = refl
length_set x (e ∷ es) zero = refl
length_set x (e ∷ es) (suc i) = ap suc (length_set x es i)

-- the first of a name stays where it is
pub first_set : {X : Type 0} (f : X → List ℕ × Base) (name : List ℕ) (d x : X) (items : List X) (i k : ℕ) →
    ((f x).0 ≡ (f (get_or items i d)).0) × IsFirst f name d items k → IsFirst f name d (set items i x) k
first_set f name d x items i k (same, first) = record {
  inside = omega (arith, length_set x items i, first.inside);
  named = ap (bytes_eq name) (names_set f d x items i k same) ∙ first.named;
  before = λ n less. ap (bytes_eq name) (names_set f d x items i n same) ∙ first.before n less;
}
