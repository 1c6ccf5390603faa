-- What a node finds of what it is to bring: at its own database, and at that of the provider.
use Rattle.std.specs.Prelude.{◌≡◌, ◌==◌, ◌&&◌, ◌<◌, ◌^◌, ℕ, nat_lt, Bool, true, false, if◌then◌else◌, not, List}
use Rattle.std.specs.Prelude.{[], ◌∷◌, Option, Some, None, Result, Ok, Err, is_none, option_map}
use Rattle.store_rows.specs.Rows.{IsId}
use Rattle.slon_model.specs.declared.reply.Refusal.{Refusal}
use Rattle.slon_model.specs.declared.reply.Refusal.TheVariants as refused
use Rattle.slon_model.specs.Names.{find_named}
use Rattle.slon_model.specs.Config.{Config, is_known, is_origin, era_of}
use Rattle.slon_model.specs.Events.{Event}
use Rattle.slon_model.specs.Deeds.{Node, knowledge, progress, view_of}
use Rattle.slon_model.specs.Following as following
use Rattle.slon_model.specs.Place.{Place}
use Rattle.slon_model.specs.Sessions.{Seat, bind, seat, when, checked, first_refusal}
use Rattle.slon_model.specs.Snapshots.{Snapshot}
use Rattle.slon_model.specs.Views.{View}
use Rattle.slon_model.specs.Working as rules
use Rattle.slon_model.specs.Working.{copied, copy_checks, forwarded, given_at, width_of}
use Rattle.txn_core.specs.declared.snapshot.Snapshot as declared
use Rattle.txn_core.specs.Snapshots.{seen_as}
use Rattle.node_store.specs.declared.looking.Reign.{Reign}
use Rattle.remote_worker.specs.declared.carrying.Copying.{Copying}
use Rattle.remote_worker.specs.declared.fetching.Found.{Found}
use Rattle.remote_worker.specs.declared.fetching.Found.TheVariants as found
use Rattle.remote_worker.specs.declared.worker.Taken.{Taken}
use Rattle.remote_worker.specs.declared.worker.Worker.{Worker}
use Rattle.remote_worker.specs.Loading.{CanLoad, HasFound}
use Rattle.remote_worker.specs.Working.{IsWith, seen_copying}

-- ---- what is to be brought

pub record CanCopy (c : Copying) : Type 0 where
  pub set_id : IsId c.set
  pub provider : IsId c.provider
  pub era : c.era < 2 ^ 63

-- ---- at the provider

-- the provider leads the set in that era
abbrev pub leads_in : rules.Copying → ℕ → Config → Bool
leads_in c id k = is_origin id c.set_id k && era_of c.set_id k == c.era

-- the same of what is known of who leads it
abbrev pub leads_by : rules.Copying → Option Reign → Bool
leads_by c None = false
leads_by c (Some r) = r.origin == c.provider && r.era == c.era

-- what is found of that
abbrev pub IsLed : rules.Copying → Config → Bool → Type 0
IsLed c k led = led ≡ leads_in c c.provider k

-- the snapshot of a view of this era
abbrev pub seen_of : ℕ → Option View → Option Snapshot
seen_of era None = None
seen_of era (Some v) = if v.era == era then Some v.seen else None

-- the seat of a provider; its name says nothing of what it gives
abbrev pub seat_on : Place → Node → Seat
seat_on q k = seat [] q k

-- what is found of a provider that forwards the set
abbrev pub IsForwarded : rules.Copying → Place → Option declared.Snapshot → Type 0
IsForwarded c q found =
    (k : Node) → q.node ≡ Some k → k.id ≡ c.provider →
    option_map seen_as found ≡ forwarded c (seat_on q k) (view_of c.set_id (knowledge k))

-- and of each provider
abbrev pub IsGiven : rules.Copying → Place → Option declared.Snapshot → Type 0
IsGiven c q found =
    (k : Node) → q.node ≡ Some k → k.id ≡ c.provider → option_map seen_as found ≡ given_at c (seat_on q k)

-- 62: the provider does not know the node of this id; 63: it has not met the event
abbrev pub provider_checks : ℕ → ℕ → Event → Node → List (Option Refusal)
provider_checks own provider e k =
    when (not (is_known own (knowledge k).config)) (refused.NotKnown own)
    ∷ when (nat_lt (progress e.origin (knowledge k)) e.number)
    (refused.Behind provider (progress e.origin (knowledge k)) e.number) ∷ []

-- ---- at both

-- 52, 57 of one table
abbrev pub table_checks : Place → Place → List ℕ → List (Option Refusal)
table_checks here there name =
    when (is_none (find_named name here.tables)) (refused.NoTable name)
    ∷ when (not (width_of name here == width_of name there)) (refused.BadWidth (width_of name here)) ∷ []

abbrev pub TableChecked : List ℕ → Place → Place → Option Refusal → Type 0
TableChecked name p q refusal = first_refusal (table_checks p q name) ≡ refusal

-- of all of them
abbrev pub TablesChecked : List (List ℕ) → Place → Place → Option Refusal → Type 0
TablesChecked names p q refusal = first_refusal (copy_checks p q names) ≡ refusal

-- ---- what is found

-- the refusal tells of a store that failed, or of an open transaction
abbrev pub is_loud : Refusal → Bool
is_loud (refused.Fault database count) = true
is_loud (refused.Busy xid) = true
is_loud others = false

abbrev pub IsCalm : Option Refusal → Type 0
IsCalm None = Unit {0}
IsCalm (Some refusal) = is_loud refusal ≡ false

abbrev pub IsCalmFound : Found → Type 0
IsCalmFound (found.Refused refusal) = is_loud refusal ≡ false
IsCalmFound (found.Brings w) = Unit {0}

-- 62, 63, and what a node at this seat copies of a provider at that one
abbrev pub fetched : rules.Copying → Event → Seat → Seat → Result following.Found Refusal
fetched c e s p =
    bind (checked (provider_checks s.node.id c.provider e p.node) p) (λ p. copied c s e p (given_at c p))

-- this was found with an event of this origin, by the rules
abbrev pub IsFound : ℕ → Result following.Found Refusal → Found → Type 0
IsFound origin due (found.Refused refusal) = due ≡ Err refusal
IsFound origin due (found.Brings w) = (f : following.Found) × (due ≡ Ok f) × HasFound origin f w.state.load

-- What the node is asked for: what it is to copy, its own id, and the event.
pub record Asked : Type 0 where
  pub copying : Copying
  pub own : ℕ
  pub event : Event

-- So it is of what is due at all seats of the two nodes.
abbrev pub IsAt : Asked → (Seat → Seat → Result following.Found Refusal) → Place → Place → Found → Type 0
IsAt a due p q given =
    (n k : Node) (name other : List ℕ) → p.node ≡ Some n → q.node ≡ Some k → n.id ≡ a.own →
    k.id ≡ a.copying.provider → IsFound a.event.origin (due (seat name p n) (seat other q k)) given

abbrev pub Fetches : Asked → Place → Place → Found → Type 0
Fetches a = IsAt a (fetched (seen_copying a.copying) a.event)

-- the same where the provider knows the node and has met the event
abbrev pub Brings : Asked → Place → Place → Found → Type 0
Brings a =
    IsAt a (λ s p. copied (seen_copying a.copying) s a.event p (given_at (seen_copying a.copying) p))

-- and where it gives the set as this snapshot
abbrev pub Copies : Snapshot → Asked → Place → Place → Found → Type 0
Copies seen a = IsAt a (λ s p. copied (seen_copying a.copying) s a.event p (Some seen))

-- it is the same event
abbrev pub IsOf : Worker Taken → Found → Type 0
IsOf taken (found.Refused refusal) = Unit {0}
IsOf taken (found.Brings w) = IsWith taken w.state.load w

-- what was found can be spelled
abbrev pub CanBringFound : Found → Type 0
CanBringFound (found.Refused refusal) = Unit {0}
CanBringFound (found.Brings w) = CanLoad w.state.load
