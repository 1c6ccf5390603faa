-- A node that another one takes a set from gives it the same rows as the origin, and so would any forwarder.
use Rattle.std.proofs.Common.{◌≡◌, ℕ, List, Some}
use Rattle.slon_model.specs.Events.{Event}
use Rattle.slon_model.specs.Deeds.{Node, stream}
use Rattle.stream_laws.specs.Nodes.{IsAmong, nodes_in}
use Rattle.stream_laws.proofs.Streams.{among_found}
use Rattle.view_laws.specs.Past.{Past, past}
use Rattle.view_laws.proofs.Moments.{regular_now}
use Rattle.net_relation.specs.Laws.{ForwardersGiveTheSame, ProvidersGiveTheSame, ProvidersServe}
use Rattle.net_relation.proofs.Consequences.{forwarders_serve}
use Rattle.net_relation.proofs.Giving.{gives_the_same}
use Rattle.net_relation.proofs.Providing.{place_of, providers_have}
use Rattle.net_relation.proofs.Sessions.{origin_now}

pub providers_serve : ProvidersServe
providers_serve limit history w leads name x at set k e p l =
    let t = past limit history w leads in
    let q = place_of t name x at in
    let o = origin_now t set name q.0 q.1 in
    providers_have set t (record {
      name = name;
      place = q.0;
      leader = x;
      at = at;
      ended = o.ended;
      netted = o.is x q.2;
    }) k e p l

-- an event of the stream is of the node
event_own : (t : Past) (name : List ℕ) (x : Node) → nodes_in t.world.places name ≡ Some x → (e : Event) →
    IsAmong e (stream x) → e.origin ≡ x.id
event_own t name x at e among =
    (among_found x.id (stream x) e ((regular_now t).nodes.each name x at).emitted among).are.0

pub providers_give_the_same : ProvidersGiveTheSame
providers_give_the_same limit history w leads name x at set k e p =
    let t = past limit history w leads in
    gives_the_same set t (record {
      name = name;
      leader = x;
      at = at;
      keeper = k;
      event = e;
      own = event_own t name x at e p.among;
      giver_name = p.name;
      giver = p.node;
      there = p.is;
      serves = providers_serve limit history w leads name x at set k e p;
    })

pub forwarders_give_the_same : ForwardersGiveTheSame
forwarders_give_the_same limit history w leads name x at set k other forward covers e sync =
    let t = past limit history w leads in
    gives_the_same set t (record {
      name = name;
      leader = x;
      at = at;
      keeper = other;
      event = e;
      own = event_own t name x at e sync.among;
      giver_name = k.name;
      giver = k.node;
      there = k.is;
      serves = forwarders_serve limit history w leads name x at set k other forward covers e sync;
    })
