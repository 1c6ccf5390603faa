-- A history that led to a session, and the sessions before that one in it.
use Rattle.std.specs.Prelude.{◌≡◌, ℕ, ◌⊎◌, List, [], ◌∷◌, Some}
use Rattle.slon_model.specs.Names.{find_named}
use Rattle.slon_model.specs.Deeds.{Node}
use Rattle.slon_model.specs.Place.{Place}
use Rattle.slon_model.specs.World.{World, start, Happening, Leads}

pub record Past : Type 0 where
  pub limit : ℕ
  pub history : List Happening
  pub world : World
  pub leads : Leads (start limit) history world

abbrev pub past : (limit : ℕ) (history : List Happening) (w : World) → Leads (start limit) history w → Past
past limit history w leads = record { limit = limit; history = history; world = w; leads = leads }

-- a session that the history went through before this one
abbrev pub IsBefore : (limit : ℕ) (history : List Happening) (w : World) → Leads (start limit) history w → World →
    Type 0
IsBefore limit [] w leads u = ⊥
IsBefore limit (h ∷ hs) w leads u = (u ≡ leads.0) ⊎ IsBefore limit hs leads.0 leads.1 u

abbrev pub WasBefore : Past → World → Type 0
WasBefore t u = IsBefore t.limit t.history t.world t.leads u

-- this one, or one before it
abbrev pub WasUpTo : Past → World → Type 0
WasUpTo t u = (u ≡ t.world) ⊎ WasBefore t u

-- the history up to a session before this one
abbrev pub IsPastBefore : (limit : ℕ) (history : List Happening) (w : World) → Leads (start limit) history w → Past →
    Type 0
IsPastBefore limit [] w leads s = ⊥
IsPastBefore limit (h ∷ hs) w leads s =
    (s ≡ past limit hs leads.0 leads.1) ⊎ IsPastBefore limit hs leads.0 leads.1 s

abbrev pub PastBefore : Past → Past → Type 0
PastBefore t s = IsPastBefore t.limit t.history t.world t.leads s

-- this one, or one up to a session before it
abbrev pub PastUpTo : Past → Past → Type 0
PastUpTo t s = (s ≡ t) ⊎ PastBefore t s

-- A database that was a node in such a session, by its name.
pub record Moment (Was : World → Type 0) : Type 0 where
  pub session : World
  pub was : Was session
  pub name : List ℕ
  pub place : Place
  pub found : find_named name session.places ≡ Some place
  pub node : Node
  pub at : place.node ≡ Some node
