-- Where transactions began among the actions, as a database goes on.
use Rattle.std.proofs.Common.{◌≡◌, ◌<◌, ◌≤◌, ℕ, List, [], ◌∷◌, ◌++◌, refl, sym, subst, arith}
use Rattle.std.proofs.Common.{true, false, cond, Some}
use Rattle.std.specs.Prelude.{◌^◌, find, nat_le, reverse, option_map, unwrap_or}
use Rattle.std.specs.List.{AllByRecursion}
use Rattle.std.proofs.lemmas.Bool.{leb-true}
use Rattle.std.proofs.lemmas.List.{reverse-append}
use Rattle.slon_model.specs.Rows.{Action, Change}
use Rattle.slon_model.proofs.Names.{all_map}
use Rattle.slon_model.specs.Place.{Place, Counter}
use Rattle.slon_model.specs.Moves.{written}
use Rattle.slon_laws.specs.Sound.{Sound}
use Rattle.slon_laws.proofs.Lists.{all_appended, all_each, all_reversed}
use Rattle.app_store.specs.declared.begun.Begun.{Begun}
use Rattle.slon_laws.specs.Older.{AreOlder}
use Rattle.app_store.specs.Begun.{AreBegun, AreSmall, IsBegun, start_at}

-- of the same actions, with the same number to come
pub begun_same : (p q : Place) (begun : List Begun) → q.actions ≡ p.actions → q.numbers ≡ p.numbers →
    AreBegun p begun → AreBegun q begun
begun_same p q begun actions numbers are =
    subst (λ (c : Counter). AllByRecursion (λ b. (b.number ≤ c.next) × AreOlder b.number b.xid q.actions) begun)
    (sym numbers)
    (subst (λ (done : List Action). AllByRecursion (λ b. (b.number ≤ p.numbers.next) × AreOlder b.number b.xid done)
    begun)
    (sym actions) are)

-- an action comes behind all of them
pub begun_written : (xid : ℕ) (table : List ℕ) (change : Change) (p : Place) (begun : List Begun) → AreBegun p begun →
    AreBegun (written xid table change p) begun
begun_written xid table change p begun are =
    all_map (IsBegun p) (IsBegun (written xid table change p)) (λ b is. (
      omega (arith, is.0),
      (λ below. absurd (omega (arith, below, is.0)), is.1),
    )) begun are

-- a transaction begins behind all actions
pub begun_next : (p : Place) (begun : List Begun) (b : Begun) → Sound p →
    (b.xid ≡ p.xids.next) × (b.number ≡ p.numbers.next) → AreBegun p begun → AreBegun p (begun ++ b ∷ [])
begun_next p begun b sound (xid, number) are =
    all_appended (IsBegun p) begun (b ∷ []) are (
      (
        omega (arith, number),
        all_map (λ a. a.xid < p.xids.next) (λ a. a.number < b.number → a.xid < b.xid)
            (λ a known below. omega (arith, known, xid))
            p.actions sound.known,
      ),
      tt,
    )

-- ---- what is looked up

-- what holds of 0, and of the number of each transaction that began with an id up to this, holds of the one that is
-- looked up
found_start : (P : ℕ → Type 0) (xid : ℕ) → P 0 → (begun : List Begun) →
    AllByRecursion (λ b. b.xid ≤ xid → P b.number) begun →
    P (unwrap_or (option_map (λ b. b.number) (find (λ b. nat_le b.xid xid) begun)) 0)
found_start P xid none [] all = none
found_start P xid none (b ∷ rest) all =
    elim (nat_le b.xid xid) as (λ t. nat_le b.xid xid ≡ t → P (unwrap_or (option_map (λ b. b.number)
    (cond t (Some b) (find (λ b. nat_le b.xid xid) rest))) 0)) [
      | true ↦ λ is. all.0 (leb-true b.xid xid is)
      | false ↦ λ is. found_start P xid none rest all.1
    ] refl

start_has : (P : ℕ → Type 0) (xid : ℕ) (begun : List Begun) → P 0 →
    AllByRecursion (λ b. b.xid ≤ xid → P b.number) begun → P (start_at xid begun)
start_has P xid begun none all =
    found_start P xid none (reverse begun) (all_reversed (λ b. b.xid ≤ xid → P b.number) begun all)

-- with one more, whose number can be stored
pub small_next : (begun : List Begun) (b : Begun) → b.number < 2 ^ 63 → AreSmall begun → AreSmall (begun ++ b ∷ [])
small_next begun b small are xid =
    subst (λ bs. unwrap_or (option_map (λ b. b.number) (find (λ b. nat_le b.xid xid) bs)) 0 < 2 ^ 63)
    (sym (reverse-append begun (b ∷ [])))
    (elim (nat_le b.xid xid) as (λ t. unwrap_or (option_map (λ b. b.number)
    (cond t (Some b) (find (λ b. nat_le b.xid xid) (reverse begun)))) 0 < 2 ^ 63) [ true ↦ small | false ↦ are xid ])

-- all actions below it are of transactions below the id
pub start_older : (p : Place) (xid : ℕ) (begun : List Begun) → AreBegun p begun →
    AreOlder (start_at xid begun) xid p.actions
start_older p xid begun are =
    start_has (λ n. AreOlder n xid p.actions) xid begun
    (all_each (λ a. a.number < 0 → a.xid < xid) (λ a below. absurd (omega (arith, below))) p.actions)
    (all_map (IsBegun p) (λ b. b.xid ≤ xid → AreOlder b.number xid p.actions)
    (λ b is up. all_map (λ a. a.number < b.number → a.xid < b.xid) (λ a. a.number < b.number → a.xid < xid)
    (λ a older below. let less = older below in omega (arith, less, up)) p.actions is.1) begun are)
