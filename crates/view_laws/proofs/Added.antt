-- As a table comes into a set, its origin has emitted just the events before that.
use Rattle.std.proofs.Common.{◌≡◌, inl, inr, ℕ, List, [], ◌∷◌, ◌++◌, Some, refl, sym, subst}
use Rattle.node_rows.specs.declared.body.Body.{Body}
use Rattle.node_rows.specs.declared.body.Body.TheVariants.{SetAddTable}
use Rattle.slon_model.specs.Events.{Event}
use Rattle.slon_model.specs.Deeds.{Node, stream}
use Rattle.slon_model.specs.Sessions.{World, Seat, Emission}
use Rattle.stream_laws.specs.Nodes.{nodes_in}
use Rattle.stream_laws.proofs.Seats.{IsSeat}
use Rattle.view_laws.specs.Known.{AllAdded, AreAdded, IsAdded}
use Rattle.view_laws.specs.Past.{Past, WasBefore, WasUpTo}
use Rattle.view_laws.proofs.Emitted.{moment_later, moment_now}
use Rattle.view_laws.proofs.Living.{IsOfFeed, NodeLives, Says, knew, node_lives}
use Rattle.view_laws.proofs.Walking.{lives_in}

added_later : (t : Past) (own : ℕ) (earlier : List Event) (body : Body) → IsAdded (WasBefore t) own earlier body →
    IsAdded (WasUpTo t) own earlier body
added_later t own earlier (SetAddTable set table name comment) is =
    record { moment = moment_later t is.moment; own = is.own; before = is.before }
added_later t own earlier others is = tt

all_later : (t : Past) (own : ℕ) (es : List Event) → AllAdded (WasBefore t) own es → AllAdded (WasUpTo t) own es
all_later t own [] all = tt
all_later t own (e ∷ es) all = (added_later t own es e.body all.0, all_later t own es all.1)

alone_added : (t : Past) (s : Seat) → IsSeat t.world.places s → (body : Body) →
    IsAdded (WasUpTo t) s.node.id (stream s.node) body
alone_added t s is (SetAddTable set table name comment) =
    record { moment = moment_now t s is; own = refl; before = refl }
alone_added t s is others = tt

feed_added : (Was : World → Type 0) (own : ℕ) (earlier : List Event) (s : Seat) (n : Node) (body : Body) →
    IsOfFeed s n body → IsAdded Was own earlier body
feed_added Was own earlier s n (SetAddTable set table name comment) is = absurd is
feed_added Was own earlier s n others is = tt

says_added : (t : Past) (s : Seat) → IsSeat t.world.places s → (m : Emission) (n : Node) → Says s n m →
    IsAdded (WasUpTo t) n.id (stream n) m.body
says_added t s is m n (inl may) =
    subst (λ (x : Node). IsAdded (WasUpTo t) x.id (stream x) m.body) (sym may.0) (alone_added t s is m.body)
says_added t s is m n (inr feed) = feed_added (WasUpTo t) n.id (stream n) s n m.body feed

tables_added : NodeLives AreAdded
tables_added = record {
  later = λ t n was. all_later t n.id (stream n) was;
  logs = λ t n p xid was. was;
  tells = λ t s is number m n says was. (says_added t s is m n says, was);
  takes = λ t knew x origin is was. was;
  hears = λ t s confirms was. was;
  becomes = λ t knew n deeds views knows.
      subst (λ ds. AreAdded (WasUpTo t) (record n { deeds = ds })) (sym deeds) tt;
}

added_at : (Was : World → Type 0) (own : ℕ) (later : List Event) (e : Event) (earlier : List Event) →
    AllAdded Was own (later ++ e ∷ earlier) → IsAdded Was own earlier e.body
added_at Was own [] e earlier all = all.0
added_at Was own (f ∷ later) e earlier all = added_at Was own later e earlier all.1

-- the session in which a node emitted that a table comes into a set
pub added_now : (t : Past) (name : List ℕ) (n : Node) → nodes_in t.world.places name ≡ Some n → (later : List Event)
    (e : Event) (earlier : List Event) → stream n ≡ later ++ e ∷ earlier → IsAdded (WasUpTo t) n.id earlier e.body
added_now t name n is later e earlier all =
    added_later t n.id earlier e.body (added_at (WasBefore t) n.id later e earlier
    (subst (AllAdded (WasBefore t) n.id) all (knew AreAdded t (lives_in (node_lives tables_added) t) name n is)))
