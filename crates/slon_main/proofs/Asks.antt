-- What a run asks the shelf for.
use Rattle.std.proofs.Common.{◌≡◌, ◌∙◌, ◌⊎◌, inl, inr, ℕ, suc, List, [], Some, None, Result, Ok, Err}
use Rattle.std.proofs.Common.{sym, ap, subst, arith}
use Rattle.slon_base.specs.Shelf.{with_asked}
use Rattle.slon_model.specs.declared.reply.Reply.{Reply}
use Rattle.slon_base.specs.Keeper.{Kept}
use Rattle.slon_model.specs.declared.command.Command.{Command}
use Rattle.cluster_engine.specs.Agreed.{Clustered}
use Rattle.cluster_engine.specs.Calls.{Moves, Grants, Misses, Asks, Acts, Adopts, Rejects, Keeps}
use Rattle.slon_main.specs.Running.{Asked, asks, IsAsked, AreAsked, AsksOn}
use Rattle.slon_main.specs.declared.run.Stop.{Stop}

pub adopts_given : (name : List ℕ) (kept : Kept) (old : Clustered) (reply : Reply) (new : Clustered) →
    Adopts name kept old reply new → new.given ≡ suc old.given
adopts_given name kept old reply new (Rejects b made told same) = omega (arith, ap (λ (c : Clustered). c.given) same)
adopts_given name kept old reply new (Keeps b result made memory kept_it told same) =
    omega (arith, ap (λ (c : Clustered). c.given) same)

asked_more : (asked now : Asked) (given place : ℕ) → place ≡ given → now ≡ with_asked (None, place) asked →
    IsAsked asked given → IsAsked now (suc given)
unfolding IsAsked
asked_more asked now given place at one is =
    one ∙ ap (λ p. with_asked (None, p) asked) at ∙ ap (with_asked (None, given)) is

pub asked_so : (asked : Asked) (given : ℕ) → IsAsked asked given → AreAsked asked
unfolding IsAsked
asked_so asked given is = (given, is)

-- The shelf was asked once more, at the place that counts the stores that were given.
pub record AskedOnce (asked now : Asked) (given : ℕ) : Type 0 where
  pub place : ℕ
  pub at : place ≡ given
  pub one : now ≡ with_asked (None, place) asked

-- a store was given
pub asks_given : (asked now : Asked) (old new : ℕ) → AskedOnce asked now old → new ≡ suc old → IsAsked asked old →
    IsAsked now new
asks_given asked now old new once more is =
    subst (IsAsked now) (sym more) (asked_more asked now old once.place once.at once.one is)

-- a store was given, and then there was no memory
pub asks_short : (asked now : Asked) (given place : ℕ) → place ≡ given → now ≡ with_asked (None, place) asked →
    IsAsked asked given → AreAsked now
asks_short asked now given place at one is = asked_so now (suc given) (asked_more asked now given place at one is)

-- no store was given
pub asks_none : (asked now : Asked) (given place : ℕ) → place ≡ given →
    (now ≡ asked) ⊎ (now ≡ with_asked (None, place) asked) → IsAsked asked given → AreAsked now
asks_none asked now given place at (inl same) is = asked_so now given (subst (λ a. IsAsked a given) (sym same) is)
asks_none asked now given place at (inr one) is = asks_short asked now given place at one is

moves_given : (command : Command) (old : Clustered) (reply : Reply) (new : Clustered) → Moves command old reply new →
    new.given ≡ old.given
moves_given command old reply new (Grants name about told same) = ap (λ (c : Clustered). c.given) same
moves_given command old reply new (Misses name task about none told same) = ap (λ (c : Clustered). c.given) same
moves_given command old reply new (Asks s) = ap (λ (c : Clustered). c.given) s.same
moves_given command old reply new (Acts act about acted) = acted.given

-- no command but the making of a database asks for a store
pub asks_no_more : (command : Command) (old : Clustered) (reply : Reply) (new : Clustered) (asked : Asked) →
    Moves command old reply new → IsAsked asked old.given → IsAsked asked new.given
asks_no_more command old reply new asked moves is =
    subst (IsAsked asked) (sym (moves_given command old reply new moves)) is

-- a call that asked for its stores and then stopped or went on
pub asks_so : {T : Type 0} (asked now : Asked) (old new : Clustered) (result : Result T Stop) →
    (IsAsked asked old.given → IsAsked now new.given) → AsksOn asked old now new result
asks_so asked now old new (Ok x) asks = asks
asks_so asked now old new (Err stop) asks = λ is. asked_so now new.given (asks is)

-- a run that began with no store
first_asked : (asked : Asked) (given : ℕ) → given ≡ 0 → asked ≡ Some [] → IsAsked asked given
unfolding IsAsked
first_asked asked given none empty = empty ∙ ap (λ n. Some (asks n)) (sym none)

pub asks_all : {T : Type 0} (asked now : Asked) (old new : Clustered) (result : Result T Stop) →
    AsksOn asked old now new result × (old.given ≡ 0) → asked ≡ Some [] → AreAsked now
asks_all asked now old new (Ok x) (asks, none) empty =
    asked_so now new.given (asks (first_asked asked old.given none empty))
asks_all asked now old new (Err stop) (asks, none) empty = asks (first_asked asked old.given none empty)
