-- The last SYNC of a database that is up and a node, and whether it has the snapshot that is taken now.
use Rattle.std.proofs.Common.{◌≡◌, ◌∙◌, Bool, true, Option, Some, None, is_some, refl, sym, ap}
use Rattle.std.proofs.lemmas.Bool.{false≢true}
use Rattle.slon_model.specs.Deeds.{Node, held, knowledge, progress}
use Rattle.slon_model.specs.Events.{Event, last_sync}
use Rattle.slon_model.specs.Place.{Place, taken}
use Rattle.slon_model.specs.Snapshots.{Snapshot}
use Rattle.slon_model.specs.Turns.{has_snapshot}
use Rattle.event_store.specs.Syncing.{taken_of}
use Rattle.node_state.specs.Known.{identity_of}
use Rattle.app_store.specs.Base.{Base}
use Rattle.app_store.proofs.Upright.{UpAt, running}
use Rattle.node_store.specs.Syncing.{has_taken}

-- the node of a database whose memory says that it is one
pub node_of : {p : Place} {b : Base} → UpAt p b → is_some b.memory.identity ≡ true → (n : Node) × (p.node ≡ Some n)
node_of {p} {b} at is = by p.node refl
  where
    by : (o : Option Node) → p.node ≡ o → (n : Node) × (p.node ≡ Some n)
    by None none =
        let known = (running at).1.known.identity_is ∙ ap identity_of none in
        absurd (false≢true (sym (ap is_some known) ∙ is))
    by (Some n) some = (n, some)

-- a snapshot is that of an event, if one was found
pub has_event : (now : Snapshot) (o : Option Event) → has_taken now (taken_of o) ≡ has_snapshot now o
has_event now None = refl
has_event now (Some e) = refl

-- What was found of the last SYNC, and the snapshot that was taken.
pub record Compared (p : Place) (n : Node) (now : Snapshot) (last : Option Snapshot) : Type 0 where
  pub taken_is : now ≡ taken p
  pub last_is : last ≡ taken_of (last_sync n.id (held n) (progress n.id (knowledge n)))

pub compared : {p : Place} {n : Node} {now : Snapshot} {last : Option Snapshot} (found : Bool) →
    Compared p n now last → found ≡ has_taken now last →
    found ≡ has_snapshot (taken p) (last_sync n.id (held n) (progress n.id (knowledge n)))
compared {p} {n} {now} {last} found c is =
    is ∙ ap (λ s. has_taken s last) c.taken_is ∙ ap (has_taken (taken p)) c.last_is
    ∙ has_event (taken p) (last_sync n.id (held n) (progress n.id (knowledge n)))
