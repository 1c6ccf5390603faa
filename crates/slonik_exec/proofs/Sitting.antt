-- Of a table that comes into a set, and of what other nodes know of it.
use Rattle.std.proofs.Common.{◌≡◌, ◌∙◌, ℕ, ◌||◌, Bool, true, false, cond, List, [], ◌∷◌, Some, None, refl, sym}
use Rattle.std.proofs.Common.{Result, ap, subst}
use Rattle.std.specs.Str.{bytes_eq}
use Rattle.slon_model.specs.declared.reply.Refusal.{Refusal}
use Rattle.slon_model.specs.declared.reply.Reply.{Reply}
use Rattle.slon_model.specs.declared.reply.Reply.TheVariants.{Refused}
use Rattle.slon_model.specs.Names.{Named, find_named, put_named}
use Rattle.slon_model.specs.Config.{Config}
use Rattle.slon_model.specs.Deeds.{Node, knowledge}
use Rattle.slon_model.specs.Place.{Place}
use Rattle.slon_model.specs.Sessions.{World, Stated}
use Rattle.slon_model.specs.Reaching.{known_somewhere}
use Rattle.node_state.specs.Held.{AreHomed, HoldsNode, NodeHeld}
use Rattle.app_store.specs.Base.{Base}
use Rattle.app_store.specs.Fits.{Ready}
use Rattle.slonik_exec.specs.Databases.{TriesAll, Runs, told_by}
use Rattle.slonik_exec.specs.declared.knowing.Question.{Question}
use Rattle.slonik_exec.specs.declared.knowing.Heard.{Heard}
use Rattle.slonik_exec.specs.Heard.{AreSame, BreaksDown, known_by, RunsHeard, Hears}
use Rattle.slonik_exec.specs.Answering.{Checks}
use Rattle.slonik_exec.specs.Executing.{Comes, Breaks}
use Rattle.slonik_exec.proofs.Hearing.{somewhere, somewhere_by, same_itself, same_put}
use Rattle.slonik_exec.proofs.Trying.{tries_at, runs_calm}

-- ---- what is known somewhere

-- a node that no node knows it by does not know it either
unknown_by : (test : Config → Bool) (name : List ℕ) (p : Place) (n : Node) (places : Named Place) →
    find_named name places ≡ Some p → p.node ≡ Some n → somewhere test places ≡ false →
    test (knowledge n).config ≡ false
unknown_by test name p n [] found is none = absurd cc
unknown_by test name p n (e ∷ es) found is none =
    by (bytes_eq name e.0) found (sym (somewhere_by test e.1.node e es refl) ∙ none)
    (λ there rest. unknown_by test name p n es there is rest)
  where
    first_none : (a b : Bool) → (a || b) ≡ false → a ≡ false
    first_none true b is = absurd cc
    first_none false b is = refl

    more_none : (a b : Bool) → (a || b) ≡ false → b ≡ false
    more_none true b is = absurd cc
    more_none false b is = is

    by : (b : Bool) → cond b (Some e.1) (find_named name es) ≡ Some p →
        (known_by test e.1.node || somewhere test es) ≡ false →
        (find_named name es ≡ Some p → somewhere test es ≡ false → test (knowledge n).config ≡ false) →
        test (knowledge n).config ≡ false
    by true here all later =
        let same : e.1 ≡ p = cc in
        sym (ap (λ (q : Place). known_by test q.node) same ∙ ap (known_by test) is)
        ∙ first_none (known_by test e.1.node) (somewhere test es) all
    by false there all later = later there (more_none (known_by test e.1.node) (somewhere test es) all)

pub unknown_at : (test : Config → Bool) (name : List ℕ) (p : Place) (n : Node) (w : World) →
    find_named name w.places ≡ Some p → p.node ≡ Some n → known_somewhere test w ≡ false →
    test (knowledge n).config ≡ false
unknown_at test name p n w found is none = unknown_by test name p n w.places found is none

-- each table that it knows is in a set that it knows
pub homes_at : (p : Place) (n : Node) (b : Base) → Ready p b → p.node ≡ Some n → AreHomed (knowledge n).config
homes_at p n b ready is =
    let held : NodeHeld n ready.fits.held.0
    = subst (λ o. HoldsNode o ready.fits.held.0) is ready.fits.held.2.node_held in
    held.homes

-- ---- several steps

pub same_then : (olds mids news : Named Base) → AreSame olds mids → AreSame mids news → AreSame olds news
same_then [] [] news one two = two
same_then [] (m ∷ ms) news one two = absurd one
same_then (o ∷ os) [] news one two = absurd one
same_then (o ∷ os) (m ∷ ms) [] one two = absurd two
same_then (o ∷ os) (m ∷ ms) (n ∷ ns) one two =
    (two.0 ∙ one.0, two.1 ∙ one.1, same_then os ms ns one.2 two.2)

-- a check at one database that let the statement go on
pub tries_checked : {old new : Base} (name : List ℕ) (bases : Named Base) → find_named name bases ≡ Some old →
    Checks name old None new → TriesAll true None bases (put_named name new bases)
tries_checked {old} {new} name bases found checks = tries_at name None old new bases found checks.0

pub same_checked : {old : Base} (new : Base) (name : List ℕ) (bases : Named Base) → find_named name bases ≡ Some old →
    new.memory ≡ old.memory → AreSame bases (put_named name new bases)
same_checked {old} new name bases found same = same_put name old new bases bases (same_itself bases) found same

-- a refusal that tells of no store, behind steps that did not fail
pub runs_refused : (refusal : Refusal) (olds news : Named Base) → told_by (Refused refusal) ≡ None →
    TriesAll true None olds news → Runs olds (Refused refusal) news
runs_refused refusal olds news none tries = runs_calm (Refused refusal) olds news none tries

-- ---- what is due

-- a check at all nodes ended the statement
pub breaks_so : {w : World} {due : Result Stated Refusal} {reply : Reply} {news : Named Base} →
    BreaksDown w reply news → Comes w due reply news
breaks_so b = Breaks b.name b.count b.told b.can b.fits

-- ---- what all nodes were asked

pub record Asked (question : Question) (olds : Named Base) (heard : Heard) (news : Named Base) : Type 0 where
  pub runs : RunsHeard olds heard news
  pub hears : Hears question olds heard news

pub asked_as : {question : Question} {olds news : Named Base} {was heard : Heard} → was ≡ heard →
    Asked question olds was news → Asked question olds heard news
asked_as {question} {olds} {news} is asked = subst (λ h. Asked question olds h news) is asked
