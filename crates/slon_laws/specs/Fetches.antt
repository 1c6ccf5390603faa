-- What holds of all that nodes fetched and keep.
use Rattle.std.specs.Prelude.{◌≡◌, ℕ, true, List}
use Rattle.std.specs.List.{AllByRecursion}
use Rattle.slon_model.specs.Names.{Named}
use Rattle.slon_model.specs.Maps.{Map}
use Rattle.slon_model.specs.Following.{Found, FoundCopy, FoundNothing, FoundSyncs, SetSync, is_on_one}
use Rattle.slon_model.specs.Sessions.{World, Fetch}
use Rattle.slon_laws.specs.Spelled.{AreFilled, AreWritten}

-- G of the name of each database, of each origin, and of what the node fetched for that
abbrev pub AllKept : (List ℕ → ℕ → Fetch → Type 0) → Named (Map Fetch) → Type 0
AllKept G fetches = AllByRecursion (λ q. AllByRecursion (λ f. G q.0 f.0 f.1) q.1) fetches

-- the actions that are taken of each set are on its tables
abbrev pub AreOn : List SetSync → Type 0
AreOn ts = AllByRecursion (λ t. AllByRecursion (λ l. is_on_one t.tables l ≡ true) t.rows) ts

-- so it is with what is found
abbrev pub FoundOn : Found → Type 0
FoundOn (FoundSyncs ts) = AreOn ts
FoundOn others = Unit {0}

-- and with all that the nodes of a session keep
abbrev pub KeepOn : World → Type 0
KeepOn w = AllKept (λ name origin f. FoundOn f.found) w.memory.fetches

-- What is taken of a set with a SYNC are such actions as writes make, each on one of the tables.
pub record IsFormedSync (t : SetSync) : Type 0 where
  pub written : AreWritten t.rows
  pub on : AllByRecursion (λ l. is_on_one t.tables l ≡ true) t.rows

-- what is found has rows that have their forms, and such actions
abbrev pub IsFormedFound : Found → Type 0
IsFormedFound FoundNothing = Unit {0}
IsFormedFound (FoundCopy set view rows) = AreFilled rows
IsFormedFound (FoundSyncs ts) = AllByRecursion IsFormedSync ts

-- so has all that the nodes of a session keep
abbrev pub KeepFormed : World → Type 0
KeepFormed w = AllKept (λ name origin f. IsFormedFound f.found) w.memory.fetches
