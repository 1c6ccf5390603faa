-- Where transactions began among the actions.
use Rattle.std.specs.Prelude.{◌<◌, ◌≤◌, ◌^◌, ℕ, List, find, nat_le, reverse, option_map, unwrap_or}
use Rattle.std.specs.List.{AllByRecursion}
use Rattle.slon_model.specs.Place.{Place}
use Rattle.slon_laws.specs.Older.{AreOlder}
use Rattle.app_store.specs.declared.begun.Begun.{Begun}

-- the number is one that was drawn, or comes next, and all actions below it are of earlier transactions
abbrev pub IsBegun : Place → Begun → Type 0
IsBegun p b = (b.number ≤ p.numbers.next) × AreOlder b.number b.xid p.actions

abbrev pub AreBegun : Place → List Begun → Type 0
AreBegun p begun = AllByRecursion (IsBegun p) begun

-- the number of the last one of these with an id up to this, or 0
abbrev pub start_at : ℕ → List Begun → ℕ
start_at xid begun = unwrap_or (option_map (λ b. b.number) (find (λ b. nat_le b.xid xid) (reverse begun))) 0

-- whichever is found can be stored
abbrev pub AreSmall : List Begun → Type 0
AreSmall begun = (xid : ℕ) → start_at xid begun < 2 ^ 63
