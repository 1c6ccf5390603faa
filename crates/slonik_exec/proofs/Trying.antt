-- What is promised over every store of a step on all databases, by what is promised of its calls.
use Rattle.std.proofs.Common.{◌≡◌, ◌∙◌, ℕ, Bool, true, false, cond, List, [], ◌∷◌, Option, Some, None, refl, sym}
use Rattle.std.proofs.Common.{ap, subst, not, arith}
use Rattle.std.proofs.lemmas.Bool.{false≢true}
use Rattle.std.specs.Str.{bytes_eq}
use Rattle.slon_base.specs.declared.fault.Halt.{Halt as HaltOf}
use Rattle.slon_base.specs.declared.fault.Halt.TheVariants.{Fault, Doubt}
use Rattle.slon_model.specs.Names.{Named, find_named, put_named}
use Rattle.app_store.specs.Base.{Base}
use Rattle.app_store.specs.Serves.{is_failure}
use Rattle.node_store.specs.Acting.{Tries, Acts}
use Rattle.node_store.proofs.Chaining.{tries_then}
use Rattle.slon_model.specs.declared.reply.Reply.{Reply}
use Rattle.slonik_exec.specs.Databases.{Trouble, Tried, TriesAll, Runs, told_by, trouble_here, trouble_later, is_calm}
use Rattle.slonik_exec.proofs.Lists.{IsAt}
use Rattle.slonik_exec.specs.Telling.{failure_of, troubled, told_at}

-- ---- one database

tries_none : (b : Base) → Tries None b b
tries_none b = record {
  later = omega arith;
  caused = tt;
  sure = λ calm. refl;
  still = λ n most. most;
  spends = λ failed. absurd (false≢true failed);
  falls = tt;
  told = λ c from. from;
  big = tt;
}

pub tried_none : (calm : Bool) (b : Base) → Tried calm None b b
tried_none calm b = record { tries = tries_none b; quiet = λ is n up. up }

pub tried_then : (calm : Bool) (t : Option HaltOf) (old mid new : Base) → Tried true None old mid →
    Tried calm t mid new → Tried calm t old new
tried_then calm t old mid new one two = record {
  tries = tries_then old mid new t one.tries two.tries;
  quiet = λ is n up. two.quiet is n (one.quiet refl n up);
}

-- what is told of a call on a database: the trouble at its store, if it failed
pub acts_tried : (t : Option HaltOf) (old new : Base) → Acts t old new → Tried (not (is_failure t))
    (failure_of t) old new
acts_tried None old new acts = record { tries = acts.tries; quiet = λ is. acts.quiet refl }
acts_tried (Some (Fault count)) old new acts =
    record { tries = acts.tries; quiet = λ is. absurd (false≢true is) }
acts_tried (Some Doubt) old new acts = record { tries = acts.tries; quiet = λ is. absurd (false≢true is) }
acts_tried (Some others) old new acts = record {
  tries = record {
    later = acts.tries.later;
    caused = tt;
    sure = acts.tries.sure;
    still = acts.tries.still;
    spends = λ failed. absurd (false≢true failed);
    falls = tt;
    told = acts.tries.told;
    big = tt;
  };
  quiet = λ is. acts.quiet refl;
}

-- ---- all databases

-- where less is calm, less is promised
pub tries_calmer : (calm less : Bool) (told : Option Trouble) (olds news : Named Base) → (less ≡ true → calm ≡ true) →
    TriesAll calm told olds news → TriesAll less told olds news
tries_calmer calm less told [] [] from tries = tries
tries_calmer calm less told [] (n ∷ ns) from tries = absurd tries
tries_calmer calm less told (o ∷ os) [] from tries = absurd tries
tries_calmer calm less told (o ∷ os) (n ∷ ns) from tries = (
  tries.0,
  record { tries = tries.1.tries; quiet = λ is. tries.1.quiet (from is) },
  tries_calmer calm less (trouble_later told o.0) os ns from tries.2,
)

pub tries_itself : (calm : Bool) (bases : Named Base) → TriesAll calm None bases bases
tries_itself calm [] = refl
tries_itself calm (b ∷ bs) = (refl, tried_none calm b.1, tries_itself calm bs)

pub tries_on : (calm : Bool) (told : Option Trouble) (olds mids news : Named Base) → TriesAll true None olds mids →
    TriesAll calm told mids news → TriesAll calm told olds news
tries_on calm told [] [] news one two = two
tries_on calm told [] (m ∷ ms) news one two = absurd one
tries_on calm told (o ∷ os) [] news one two = absurd one
tries_on calm told (o ∷ os) (m ∷ ms) [] one two = absurd two
tries_on calm told (o ∷ os) (m ∷ ms) (n ∷ ns) one two =
    let here = tried_then calm (trouble_here told m.0) o.1 m.1 n.1 one.1 two.1 in
    let rest = tries_on calm (trouble_later told m.0) os ms ns one.2 two.2 in (
      two.0 ∙ one.0,
      subst (λ name. Tried calm (trouble_here told name) o.1 n.1) one.0 here,
      subst (λ name. TriesAll calm (trouble_later told name) os ns) one.0 rest,
    )

-- what is told of one name is told of the first database of it, and of no other
here_is : (b : Bool) (name other : List ℕ) (t : Option HaltOf) → bytes_eq name other ≡ b →
    trouble_here (troubled name t) other ≡ cond b t None
here_is true name other None is = refl
here_is false name other None is = refl
here_is b name other (Some halt) is = ap (λ c. cond c (Some halt) None) is

later_is : (b : Bool) (name other : List ℕ) (t : Option HaltOf) → bytes_eq name other ≡ b →
    trouble_later (troubled name t) other ≡ cond b None (troubled name t)
later_is true name other None is = refl
later_is false name other None is = refl
later_is b name other (Some halt) is = ap (λ c. cond c None (Some (name, halt))) is

-- a step that changes the first database of a name
pub tries_put : (calm : Bool) (name : List ℕ) (t : Option HaltOf) (old new : Base) (bases : Named Base) →
    find_named name bases ≡ Some old → Tried calm t old new →
    TriesAll calm (troubled name t) bases (put_named name new bases)
tries_put calm name t old new [] found tried = absurd cc
tries_put calm name t old new (e ∷ es) found tried =
    go (bytes_eq name e.0) refl found (λ there. tries_put calm name t old new es there tried)
  where
    go : (b : Bool) → bytes_eq name e.0 ≡ b → cond b (Some e.1) (find_named name es) ≡ Some old →
        (find_named name es ≡ Some old → TriesAll calm (troubled name t) es (put_named name new es)) →
        TriesAll calm (troubled name t) (e ∷ es) (cond b ((e.0, new) ∷ es) (e ∷ put_named name new es))
    go true is at others =
        let same : old ≡ e.1 = cc in (
          refl,
          subst (λ o. Tried calm o e.1 new) (sym (here_is true name e.0 t is))
              (subst (λ b. Tried calm t b new) same tried),
          subst (λ o. TriesAll calm o es es) (sym (later_is true name e.0 t is)) (tries_itself calm es),
        )
    go false is at others = (
      refl,
      subst (λ o. Tried calm o e.1 e.1) (sym (here_is false name e.0 t is)) (tried_none calm e.1),
      subst (λ o. TriesAll calm o es (put_named name new es)) (sym (later_is false name e.0 t is)) (others at),
    )

-- a call on the first database of a name
pub tries_at : (name : List ℕ) (t : Option HaltOf) (old new : Base) (bases : Named Base) →
    find_named name bases ≡ Some old → Acts t old new →
    TriesAll (not (is_failure t)) (told_at name t) bases (put_named name new bases)
tries_at name t old new bases found acts =
    tries_put (not (is_failure t)) name (failure_of t) old new bases found (acts_tried t old new acts)

-- ---- the replies of one call

-- A call on the database at the first index of a name.
pub record CallAt {X : Type 0} (f : X → List ℕ × Base) (name : List ℕ) (items : List X) (i : ℕ) (x y : X)
    (t : Option HaltOf) : Type 0 where
  pub at : IsAt f name items i x
  pub same : (f y).0 ≡ (f x).0
  pub acts : Acts t (f x).1 (f y).1

-- steps that do not fail, and then one with this reply
pub runs_then : (reply : Reply) (olds mids news : Named Base) → TriesAll true None olds mids → Runs mids reply news →
    Runs olds reply news
runs_then reply olds mids news one two = tries_on (is_calm reply) (told_by reply) olds mids news one two

-- steps that do not fail, and then a reply that tells of no store
pub runs_calm : (reply : Reply) (olds news : Named Base) → told_by reply ≡ None → TriesAll true None olds news →
    Runs olds reply news
runs_calm reply olds news none tries =
    subst (λ t. TriesAll (is_calm reply) t olds news) (sym none)
    (tries_calmer true (is_calm reply) None olds news (λ is. refl) tries)
