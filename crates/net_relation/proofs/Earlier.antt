-- What was so of a database in an earlier session, and still bears on the net of its node.
use Rattle.std.proofs.Common.{◌≡◌, ◌≢◌, ◌⊎◌, inl, inr, ℕ, true, List, ◌++◌, length, Option, Some, None, sym, ap, ◌∙◌}
use Rattle.std.proofs.lemmas.Bool.{false≢true}
use Rattle.net_laws.specs.Subscriptions.{Subscription as Row, row, up_to}
use Rattle.slon_model.specs.Snapshots.{sees}
use Rattle.slon_model.specs.Deeds.{Logged, Node, knowledge, progress, stream, view_of}
use Rattle.slon_model.specs.Logs.{logged}
use Rattle.slon_model.specs.Place.{Place, taken}
use Rattle.slon_model.specs.Sessions.{World}
use Rattle.stream_laws.specs.Nodes.{IsAmong, nodes_in}
use Rattle.image_laws.specs.Moments.{IsTaken, count_of, is_ended}
use Rattle.image_laws.proofs.Orders.{AreApart, order_in}
use Rattle.net_relation.specs.Reading.{read, unfed}
use Rattle.net_relation.specs.Matching.{HasRow}
use Rattle.net_relation.proofs.Moments.{taken_more}
use Rattle.net_relation.proofs.Readied.{IsReady}
use Rattle.net_relation.specs.Laws.{IsAhead, Keeper, Provider}
use Rattle.slon_model.specs.Views.{View}
use Rattle.slon_model.specs.Events.{Event}
use Rattle.slon_model.specs.Config.{forwards}
use Rattle.node_rows.specs.declared.body.Body.TheVariants.{EnableSubscription}
use Rattle.std.proofs.Common.{Bool, suc, ◌≤◌}

-- a node has its own subscription to a set of another one, as the stream of that makes it so far
abbrev pub KnowsRow : ℕ → Node → Node → Type 0
KnowsRow set x o =
    (u : Row) → row unfed o.id (up_to (progress x.id (knowledge o)) (read set (stream x))) ≡ Some u →
    HasRow set o.id u (knowledge o).config

-- who provides a set that another node keeps of x has in its log what that one is to take with its next SYNC of x
abbrev pub ProvidersHave : ℕ → World → Node → Type 0
ProvidersHave set u x =
    (k : Keeper u set x) (e : Event) (p : Provider u set x k e) (l : Logged) →
    IsAhead set x k.view.seen e.taken l → IsAmong l (logged p.node)

-- A node of the session is to apply next an event of x by which it copies a set from another node than x, which has
-- applied it. By all that x has emitted the node subscribes to the set since that event.
pub record IsAsking (u : World) (set : ℕ) (x : Node) : Type 0 where
  pub name : List ℕ
  pub node : Node
  pub is : nodes_in u.places name ≡ Some node
  pub event : Event
  pub among : IsAmong event (stream x)
  pub provider : ℕ
  pub forward : Bool
  pub era : ℕ
  pub body : event.body ≡ EnableSubscription set provider node.id forward era
  pub next : event.number ≡ suc (progress x.id (knowledge node))
  pub ready : IsReady node.id (read set (stream x)) event.number
  pub giver_name : List ℕ
  pub giver : Node
  pub at : nodes_in u.places giver_name ≡ Some giver
  pub own : giver.id ≡ provider
  pub other : giver.id ≢ x.id
  pub applied : event.number ≤ progress x.id (knowledge giver)

-- that other node keeps the set and forwards it
abbrev pub CopiesFind : ℕ → World → Node → Type 0
CopiesFind set u x =
    (a : IsAsking u set x) → (v : View) × (view_of set (knowledge a.giver) ≡ Some v) × (v.origin ≡ x.id)
    × (forwards set a.giver.id (knowledge a.giver).config ≡ true)

-- A database stood so in this session, and was this node. Its snapshot of then was taken in the order in which
-- transactions have ended there by now. What the node has logged of its own by now and that snapshot sees, it had
-- logged then. The other nodes had their subscriptions, and those that provided a set had what they were to give.
pub record WasThen (set : ℕ) (ended : List ℕ) (own : Option Node) (u : World) (q : Place) (n : Node) : Type 0 where
  pub seen : IsTaken (order_in ended) (length ended) (taken q)
  pub logs : (x : Node) → own ≡ Some x → (l : Logged) → IsAmong l (logged x) →
      (l.origin ≡ x.id) × (sees (taken q) l.action.xid ≡ true) → IsAmong l (logged n)
  pub rows : (name : List ℕ) (o : Node) → nodes_in u.places name ≡ Some o → o.id ≢ n.id → KnowsRow set n o
  pub has : ProvidersHave set u n
  pub finds : CopiesFind set u n

-- ---- as the database goes on

-- the entry is one of the node's own
abbrev pub IsOwn : Option Node → Logged → Type 0
IsOwn own l = (x : Node) × (own ≡ Some x) × IsAmong l (logged x) × (l.origin ≡ x.id)

-- what the node has logged of its own then it had logged before, or it is of a transaction that had not ended
abbrev pub LogsOn : List ℕ → Option Node → Option Node → Type 0
LogsOn ended old new =
    (l : Logged) → IsOwn new l → IsOwn old l ⊎ (order_in ended l.action.xid ≡ None)

pub then_later : {set : ℕ} {old new : Option Node} {u : World} {q : Place} {n : Node} (more ended : List ℕ) →
    AreApart (more ++ ended) → LogsOn ended old new → WasThen set ended old u q n →
    WasThen set (more ++ ended) new u q n
then_later {old = old} {q = q} {n} more ended apart on was = record {
  seen = taken_more more ended (taken q) apart was.seen;
  logs = λ y is l among of. by l of.1 (on l (y, is, among, of.0));
  rows = was.rows;
  has = was.has;
  finds = was.finds;
}
  where
    by : (l : Logged) → sees (taken q) l.action.xid ≡ true → IsOwn old l ⊎ (order_in ended l.action.xid ≡ None) →
        IsAmong l (logged n)
    by l seen (inl (x, at, among, own)) = was.logs x at l among (own, seen)
    by l seen (inr none) =
        absurd (false≢true (sym (ap (λ o. is_ended o (count_of (taken q))) none) ∙ sym (was.seen.sees l.action.xid)
        ∙ seen))

-- where no more transactions have ended, and nothing was logged by a commit of rows
pub then_still : {set : ℕ} {old new : Option Node} {u : World} {q : Place} {n : Node} (ended : List ℕ) →
    ((l : Logged) → IsOwn new l → IsOwn old l) → WasThen set ended old u q n → WasThen set ended new u q n
then_still ended on was = record {
  seen = was.seen;
  logs = λ y is l among of. let old = on l (y, is, among, of.0) in was.logs old.0 old.1 l old.2 (old.3, of.1);
  rows = was.rows;
  has = was.has;
  finds = was.finds;
}
