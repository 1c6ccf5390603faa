-- No two databases of a session have one name, so that what is found by a test is found by its name.
use Rattle.std.proofs.Common.{◌≡◌, ℕ, Bool, true, false, cond, List, [], ◌∷◌, Option, Some, None, refl, sym, ap, subst}
use Rattle.std.proofs.Common.{◌∙◌, is_some}
use Rattle.std.specs.Prelude.{find, length, nat_lt}
use Rattle.std.specs.Str.{bytes_eq}
use Rattle.slon_lemmas.proofs.Tests.{none_of}
use Rattle.slon_model.specs.declared.reply.Answer.TheVariants.{Done}
use Rattle.slon_model.specs.declared.reply.Refusal.TheVariants as refused
use Rattle.slon_model.specs.declared.reply.Reply.TheVariants.{Accepted, Refused}
use Rattle.slon_model.specs.Names.{Named, find_named, put_named}
use Rattle.slon_model.specs.World.{World, start, Happening, Step, Grants, Denies, Misses, Asks, Acts, Leads}
use Rattle.slon_model.specs.World.{database_due}
use Rattle.slon_model.proofs.Names.{bytes_itself, bytes_same, one_found}
use Rattle.slon_laws.specs.Sound.{AreNamedOnce}
use Rattle.slon_laws.specs.Turning.{Carries, IsWithin}
use Rattle.slon_laws.proofs.Acting.{acting_carries}
use Rattle.slon_laws.proofs.Opens.{named_behind}

-- ---- another entry under a name

none_by : {X : Type 0} (b : Bool) (x y : X) (o n : Option X) → cond b (Some x) o ≡ None → (o ≡ None → n ≡ None) →
    cond b (Some y) n ≡ None
none_by true x y o n none on = absurd cc
none_by false x y o n none on = on none

none_put : {X : Type 0} (k name : List ℕ) (x : X) (es : Named X) → find_named k es ≡ None →
    find_named k (put_named name x es) ≡ None
none_put k name x [] none = refl
none_put k name x (e ∷ es) none =
    elim (bytes_eq name e.0)
    as (λ b. find_named k (cond b ((e.0, x) ∷ es) (e ∷ put_named name x es)) ≡ None) [
      | true ↦ none_by (bytes_eq k e.0) e.1 x (find_named k es) (find_named k es) none (λ still. still)
      | false ↦ none_by (bytes_eq k e.0) e.1 e.1 (find_named k es) (find_named k (put_named name x es)) none
          (none_put k name x es)
    ]

pub once_put : {X : Type 0} (name : List ℕ) (x : X) (es : Named X) → AreNamedOnce es →
    AreNamedOnce (put_named name x es)
once_put name x [] once = tt
once_put name x (e ∷ es) once =
    elim (bytes_eq name e.0) as (λ b. AreNamedOnce (cond b ((e.0, x) ∷ es) (e ∷ put_named name x es))) [
      | true ↦ once
      | false ↦ (none_put e.0 name x es once.0, once_put name x es once.1)
    ]

-- ---- what is found by its name

-- what is found behind another one, where no name stands twice
pub found_later : {X : Type 0} (f : List ℕ × X) (es : Named X) (e : List ℕ × X) → find_named f.0 es ≡ None →
    find_named e.0 es ≡ Some e.1 → find_named e.0 (f ∷ es) ≡ Some e.1
found_later f es e once there = by (bytes_eq e.0 f.0) refl
  where
    by : (b : Bool) → bytes_eq e.0 f.0 ≡ b → cond b (Some f.1) (find_named e.0 es) ≡ Some e.1
    by true same =
        let none : find_named e.0 es ≡ None = ap (λ k. find_named k es) (bytes_same e.0 f.0 same) ∙ once in
        absurd cc
    by false other = there

pub found_first : {X : Type 0} (e : List ℕ × X) (es : Named X) → find_named e.0 (e ∷ es) ≡ Some e.1
found_first e es = ap (λ b. cond b (Some e.1) (find_named e.0 es)) (bytes_itself e.0)

-- what is found by a test is found by its name, where no name stands twice
pub found_once : {X : Type 0} (test : List ℕ × X → Bool) (es : Named X) (e : List ℕ × X) → AreNamedOnce es →
    find test es ≡ Some e → find_named e.0 es ≡ Some e.1
found_once test [] e once is = absurd cc
found_once {X} test (f ∷ fs) e once is = by (found_once test fs e once.1) (test f) is
  where
    by : (find test fs ≡ Some e → find_named e.0 fs ≡ Some e.1) → (b : Bool) → cond b (Some f) (find test fs) ≡ Some e →
        find_named e.0 (f ∷ fs) ≡ Some e.1
    by later true here =
        subst (λ (g : List ℕ × X). find_named g.0 (f ∷ fs) ≡ Some g.1) (one_found f e here) (found_first f fs)
    by later false there = found_later f fs e once.0 (later there)

-- ---- a session

pub once_carries : Carries IsWithin AreNamedOnce
once_carries name p q ps found turned once = once_put name q ps once

-- a new database has a name that no other one has
pub granted_free : (name : List ℕ) (w : World) → database_due name w ≡ Accepted Done → find_named name w.places ≡ None
granted_free name w granted = none_of (find_named name w.places) (by (is_some (find_named name w.places)) granted)
  where
    by : (b : Bool) → cond b (Refused (refused.NameUsed name))
        (cond (nat_lt (length w.places) w.limit) (Accepted Done) (Refused (refused.Full w.limit))) ≡ Accepted Done →
        b ≡ false
    by true refusal = absurd cc
    by false due = refl

named_step : (w v : World) (h : Happening) → Step w h v → AreNamedOnce w.places → AreNamedOnce v.places
named_step w v h (Grants name result about granted takes told is) once =
    subst (λ (u : World). AreNamedOnce u.places) (sym is)
    (named_behind name _ w.places (granted_free name w granted) once)
named_step w v h (Denies name about denied sure told is) once =
    subst (λ (u : World). AreNamedOnce u.places) (sym is) once
named_step w v h (Misses name task about none sure told is) once =
    subst (λ (u : World). AreNamedOnce u.places) (sym is) once
named_step w v h (Asks t) once =
    subst (λ (u : World). AreNamedOnce u.places) (sym t.is) (once_put t.name _ w.places once)
named_step w v h (Acts t) once = acting_carries once_carries w v h t once

pub named_world : (limit : ℕ) (history : List Happening) (w : World) → Leads (start limit) history w →
    AreNamedOnce w.places
named_world limit [] w is = subst (λ (u : World). AreNamedOnce u.places) (sym is) tt
named_world limit (h ∷ hs) w leads = named_step leads.0 w h leads.2 (named_world limit hs leads.0 leads.1)
