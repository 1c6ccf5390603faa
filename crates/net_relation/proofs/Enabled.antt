-- A node that has applied the event which enables its subscription keeps the set, until it is to give the set up.
use Rattle.std.proofs.Common.{◌≡◌, ◌≢◌, ◌⊎◌, inl, inr, ℕ, List, Bool, true, false, cond, ◌∷◌, ◌++◌, length}
use Rattle.std.proofs.Common.{Option, Some, None, refl, sym, ap, subst, ◌∙◌, arith}
use Rattle.std.specs.Prelude.{◌+◌, ◌==◌}
use Rattle.std.proofs.lemmas.Bool.{eqb-true, eq-eqb}
use Rattle.std.proofs.lemmas.List.{length-map}
use Rattle.net_laws.specs.Subscriptions.{Enable, Unrelated}
use Rattle.net_laws.specs.Subscriptions.{row, up_to}
use Rattle.net_laws.specs.Sound.{IsExpected, Sound}
use Rattle.slon_model.specs.Events.{Event}
use Rattle.slon_model.specs.Names.{find_named}
use Rattle.slon_model.specs.Deeds.{knowledge, stream, view_of}
use Rattle.slon_model.specs.Place.{Place}
use Rattle.slon_model.specs.Views.{View}
use Rattle.image_laws.specs.Moments.{count_of}
use Rattle.stream_laws.specs.Nodes.{nodes_in}
use Rattle.stream_laws.specs.Making.{AreEmitted}
use Rattle.stream_laws.proofs.Lists.{all_among}
use Rattle.stream_laws.proofs.Streams.{Found, among_found}
use Rattle.image_laws.proofs.Orders.{order_in}
use Rattle.view_laws.specs.Past.{Past, WasBefore, past}
use Rattle.view_laws.proofs.Moments.{regular_now}
use Rattle.net_relation.specs.Reading.{moment_of, read, said, said_by, unfed}
use Rattle.net_relation.specs.Matching.{MatchesNode}
use Rattle.net_relation.specs.Laws.{IsLeft, SubscribersKeep}
use Rattle.net_relation.proofs.Feeding.{IsFeed}
use Rattle.net_relation.proofs.Leading.{feeds_at}
use Rattle.net_relation.proofs.Relating.{Netted, Origin, netted_sound}
use Rattle.net_relation.proofs.Sessions.{origin_now}
use Rattle.net_relation.proofs.Providing.{place_of}
use Rattle.net_relation.proofs.Readied.{AllExpected, IsReady, LeftLater, all_expected, ready_or_left}

-- ---- a node of a session

pub subscribers_keep : SubscribersKeep
subscribers_keep limit history w leads name x at set o e = by ready
  where
    t : Past
    t = past limit history w leads

    p : (p : Place) × (find_named name w.places ≡ Some p) × (p.node ≡ Some x)
    p = place_of t name x at

    at_origin : Origin set (WasBefore t) name (nodes_in w.places) p.0
    at_origin = origin_now t set name p.0 p.1

    n : Netted set at_origin.ended (nodes_in w.places) p.0 x
    n = at_origin.is x p.2

    sound : Sound n.net
    sound = netted_sound n

    apart : o.id ≢ x.id
    apart =
        (subst (IsFeed x.id (stream x) (knowledge x).config) e.body
        (all_among (λ f. IsFeed x.id (stream x) (knowledge x).config f.body) e.event (stream x)
        (feeds_at t name x at).feeds e.among)).0.2

    m : MatchesNode set (order_in at_origin.ended) (length at_origin.ended) x o (n.net.nodes o.id)
    m = n.nodes e.name o e.is apart

    found : Found x.id (stream x) e.event
    found = among_found x.id (stream x) e.event ((regular_now t).nodes.each name x at).emitted e.among

    enables : said set e.event ≡ Enable o.id
    enables = ap (said_by set e.event.taken) e.body ∙ ap (λ b. cond b (Enable o.id) Unrelated) (eq-eqb set set refl)

    whole : read set (stream x) ≡ read set (found.later ++ e.event ∷ found.earlier)
    whole = ap (read set) found.all

    ready : IsReady o.id (read set (stream x)) e.event.number ⊎ LeftLater set o.id e.event.number (stream x)
    ready = by (ready_or_left set o.id x.id found.later e.event found.earlier (
      subst AllExpected (n.origin.stream ∙ whole) (all_expected n.net.stream (λ a less.
          subst (λ s. IsExpected s (up_to a n.net.stream)) n.origin.start (sound.expected a less))),
      subst (AreEmitted x.id) found.all ((regular_now t).nodes.each name x at).emitted,
    ) enables)
      where
        es : List Event
        es = found.later ++ e.event ∷ found.earlier

        by : IsReady o.id (read set es) (length (read set found.earlier) + 1) ⊎ LeftLater set o.id e.event.number es →
            IsReady o.id (read set (stream x)) e.event.number ⊎ LeftLater set o.id e.event.number (stream x)
        by (inl ready) =
            inl (
              ready.0,
              ap (row unfed o.id) whole ∙ ready.1,
              ready.2,
              (let made = ready.3 in
                  let long = length-map found.earlier (said set) in
                  let number = found.are.1 in
                  omega (arith, made, long, number)),
            )
        by (inr left) = inr (subst (LeftLater set o.id e.event.number) (sym found.all) left)

    viewed : IsReady o.id (read set (stream x)) e.event.number → (v : ℕ) × ((n.net.nodes o.id).view ≡ Some v)
    viewed ready =
        sound.active o.id ready.0 m.whole.keeps
        (ap (λ s. row s o.id n.net.stream) n.origin.start ∙ ap (row unfed o.id) n.origin.stream ∙ ready.1) ready.2
        (let made = ready.3 in
        let applied = e.applied in
        let reached = m.reached in
        omega (arith, made, applied, reached))

    seen : (k : ℕ) (v : View) → view_of set (knowledge o) ≡ Some v → (b : Bool) → (v.origin == x.id) ≡ b →
        cond b (Some (count_of v.seen)) None ≡ Some k →
        (v : View) × (view_of set (knowledge o) ≡ Some v) × (v.origin ≡ x.id)
    seen k v is true own some = (v, is, eqb-true v.origin x.id own)
    seen k v is false other none = absurd cc

    keeps : (v : ℕ) × ((n.net.nodes o.id).view ≡ Some v) → (k : Option View) → view_of set (knowledge o) ≡ k →
        (v : View) × (view_of set (knowledge o) ≡ Some v) × (v.origin ≡ x.id)
    keeps viewed None none =
        let never : None ≡ Some viewed.0 = sym (m.view ∙ ap (moment_of x.id) none) ∙ viewed.1 in absurd cc
    keeps viewed (Some v) is =
        seen viewed.0 v is (v.origin == x.id) refl (sym (m.view ∙ ap (moment_of x.id) is) ∙ viewed.1)

    by : IsReady o.id (read set (stream x)) e.event.number ⊎ LeftLater set o.id e.event.number (stream x) →
        ((v : View) × (view_of set (knowledge o) ≡ Some v) × (v.origin ≡ x.id)) ⊎ IsLeft set x o e.event
    by (inl ready) = inl (keeps (viewed ready) (view_of set (knowledge o)) refl)
    by (inr left) =
        inr (record { event = left.event; among = left.among; leaves = left.leaves; later = left.later })
