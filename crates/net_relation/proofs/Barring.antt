-- The nodes of a net come to have exactly those as dropped that the nodes of a session have so.
use Rattle.std.proofs.Common.{◌≡◌, inl, inr, ℕ, Bool, true, false, cond, List, [], ◌∷◌, filter, map, ◌⊎◌}
use Rattle.std.proofs.Common.{Option, Some, None, refl, sym, ap, subst, ◌∙◌}
use mathlib.Core.Path.{fun_ext}
use Rattle.std.specs.Prelude.{◌==◌, ◌||◌, flat_map, if◌then◌else◌}
use Rattle.std.specs.Cmp.{both_ways}
use Rattle.std.specs.List.{AllByRecursion}
use Rattle.std.specs.Str.{bytes_eq}
use Rattle.std.proofs.lemmas.Bool.{eqb-true, eq-eqb, false≢true, or_cases, or_right}
use Rattle.node_rows.specs.declared.rows.NodeRow.{NodeRow}
use Rattle.net_laws.specs.Updates.{set_at}
use Rattle.net_laws.specs.Net.{Bars, Here, Leads, More, Net, Node as NetNode, barring, member}
use Rattle.slon_model.specs.Names.{Named, find_named}
use Rattle.slon_model.specs.Maps.{Map, entry_at, ids}
use Rattle.slon_model.specs.Deeds.{Node, knowledge}
use Rattle.slon_model.specs.Membership.{is_dropped}
use Rattle.slon_model.specs.Place.{Place}
use Rattle.slon_model.proofs.Names.{all_map}
use Rattle.slon_laws.specs.Sound.{AreNamedOnce}
use Rattle.slon_laws.proofs.Named.{found_first, found_later}
use Rattle.stream_laws.specs.Nodes.{IsAmong, Nodes, node_in, nodes_in}
use Rattle.stream_laws.specs.Facts.{AreRegular}
use Rattle.stream_laws.proofs.Lists.{all_each, all_flat, all_mapped, all_passed, among_map}
use Rattle.stream_laws.proofs.Streams.{one_node}
use Rattle.image_laws.proofs.Logging.{among_filtered, among_left, among_right}
use Rattle.net_relation.specs.Matching.{BarsExactly, BarsNoOther, HasDropped}
use Rattle.net_relation.proofs.Relating.{FitsNode, Frame}

-- ---- steps by which nodes are dropped

-- in front of these ids, those that a node has as dropped by these pairs of a node and one that it drops
abbrev barred_at : List (ℕ × ℕ) → ℕ → List ℕ → List ℕ
barred_at [] id ids = ids
barred_at (b ∷ bs) id ids = if id == b.0 then b.1 ∷ barred_at bs id ids else barred_at bs id ids

abbrev pub all_barred : List (ℕ × ℕ) → (ℕ → NetNode) → ℕ → NetNode
all_barred bs f id = record (f id) { barred = barred_at bs id (f id).barred }

barred_more : (b : ℕ × ℕ) (bs : List (ℕ × ℕ)) (f : ℕ → NetNode) →
    all_barred (b ∷ bs) f ≡ set_at b.0 (barring b.1 (all_barred bs f b.0)) (all_barred bs f)
barred_more b bs f = fun_ext (λ id. by id (id == b.0) refl)
  where
    by : (id : ℕ) (c : Bool) → (id == b.0) ≡ c →
        record (f id) {
          barred = cond c (b.1 ∷ barred_at bs id (f id).barred) (barred_at bs id (f id).barred);
        }
        ≡ cond c (barring b.1 (all_barred bs f b.0)) (all_barred bs f id)
    by id true same = ap (λ i. barring b.1 (all_barred bs f i)) (eqb-true id b.0 same)
    by id false other = refl

pub all_leads : (bs : List (ℕ × ℕ)) (w : Net) → Leads w (record w { nodes = all_barred bs w.nodes })
all_leads [] w = Here
all_leads (b ∷ bs) w =
    More (all_leads bs w) (Bars b.0 b.1 (λ i. record w { nodes = barred_more b bs w.nodes i }))

-- who is dropped then was so before, or by one of the pairs
barred_by : (Q : ℕ → Type 0) (bs : List (ℕ × ℕ)) (id : ℕ) (ids : List ℕ) →
    AllByRecursion (λ b. id ≡ b.0 → Q b.1) bs → ((r : ℕ) → member r ids ≡ true → Q r) → (r : ℕ) →
    member r (barred_at bs id ids) ≡ true → Q r
barred_by Q [] id ids all old r is = old r is
barred_by Q (b ∷ bs) id ids all old r is = by (id == b.0) refl (barred_by Q bs id ids all.1 old r) is
  where
    at : id ≡ b.0 → ((r == b.1) ≡ true) ⊎ (member r (barred_at bs id ids) ≡ true) →
        (member r (barred_at bs id ids) ≡ true → Q r) → Q r
    at same (inl here) before = subst Q (sym (eqb-true r b.1 here)) (all.0 same)
    at same (inr there) before = before there

    by : (c : Bool) → (id == b.0) ≡ c → (member r (barred_at bs id ids) ≡ true → Q r) →
        member r (cond c (b.1 ∷ barred_at bs id ids) (barred_at bs id ids)) ≡ true → Q r
    by true same before is =
        at (eqb-true id b.0 same) (or_cases (r == b.1) (member r (barred_at bs id ids)) is) before
    by false other before is = before is

-- and whom a pair says to be dropped is so
barred_in : (bs : List (ℕ × ℕ)) (id : ℕ) (ids : List ℕ) (r : ℕ) → IsAmong (id, r) bs →
    member r (barred_at bs id ids) ≡ true
barred_in [] id ids r among = absurd among
barred_in (b ∷ bs) id ids r (inl same) =
    ap (λ c. member r (cond c (b.1 ∷ barred_at bs id ids) (barred_at bs id ids)))
    (eq-eqb id b.0 (ap (λ (p : ℕ × ℕ). p.0) same))
    ∙ ap (λ c. c || member r (barred_at bs id ids)) (eq-eqb r b.1 (ap (λ (p : ℕ × ℕ). p.1) same))
barred_in (b ∷ bs) id ids r (inr among) = by (id == b.0) (barred_in bs id ids r among)
  where
    by : (c : Bool) → member r (barred_at bs id ids) ≡ true →
        member r (cond c (b.1 ∷ barred_at bs id ids) (barred_at bs id ids)) ≡ true
    by true before = or_right (r == b.1) (member r (barred_at bs id ids)) before
    by false before = before

-- ---- the nodes of a session

abbrev dropped_by : Map NodeRow → List ℕ
dropped_by nodes = filter (λ id. is_dropped (entry_at id nodes)) (ids nodes)

abbrev pairs_at : Option Node → List (ℕ × ℕ)
pairs_at None = []
pairs_at (Some o) = map (λ id. (o.id, id)) (dropped_by (knowledge o).config.nodes)

-- each node with each one that it has as dropped
abbrev pub pairs_in : Named Place → List (ℕ × ℕ)
pairs_in ps = flat_map (λ e. pairs_at e.1.node) ps

each_found : {X : Type 0} (es : Named X) → AreNamedOnce es → AllByRecursion (λ e. find_named e.0 es ≡ Some e.1) es
each_found [] once = tt
each_found (f ∷ es) once = (
  found_first f es,
  all_map (λ e. find_named e.0 es ≡ Some e.1) (λ e. find_named e.0 (f ∷ es) ≡ Some e.1)
      (λ e is. found_later f es e once.0 is) es (each_found es once.1),
)

-- what a pair says is so of whichever node has the first id
abbrev IsPair : Nodes → ℕ × ℕ → Type 0
IsPair nodes b = (name : List ℕ) (o : Node) → nodes name ≡ Some o → o.id ≡ b.0 → HasDropped b.1 (knowledge o).config

pairs_are : (ps : Named Place) → AreNamedOnce ps → AreRegular (nodes_in ps) →
    AllByRecursion (IsPair (nodes_in ps)) (pairs_in ps)
pairs_are ps once regular =
    all_flat (λ e. find_named e.0 ps ≡ Some e.1) (IsPair (nodes_in ps)) (λ e. pairs_at e.1.node)
    (λ e found. by e.0 e.1.node (ap node_in found)) ps (each_found ps once)
  where
    by : (a : List ℕ) (k : Option Node) → nodes_in ps a ≡ k → AllByRecursion (IsPair (nodes_in ps)) (pairs_at k)
    by a None none = tt
    by a (Some m) at =
        all_mapped (λ id. HasDropped id (knowledge m).config) (IsPair (nodes_in ps)) (λ id. (m.id, id))
        (λ id is name o there same. subst (λ (n : Node). HasDropped id (knowledge n).config)
        (one_node (nodes_in ps) regular a name m o at (there, sym same)) is)
        (dropped_by (knowledge m).config.nodes)
        (all_passed (λ id. Unit {0}) (λ id. HasDropped id (knowledge m).config)
        (λ id. is_dropped (entry_at id (knowledge m).config.nodes)) (λ id any is. is) (ids (knowledge m).config.nodes)
        (all_each (λ id. Unit {0}) (λ id. tt) (ids (knowledge m).config.nodes)))

-- an id at which there is a row is one of the ids
among_ids : (id : ℕ) (nodes : Map NodeRow) → is_dropped (entry_at id nodes) ≡ true → IsAmong id (ids nodes)
among_ids id [] is = absurd (false≢true is)
among_ids id (e ∷ nodes) is = by (id == e.0) refl (among_ids id nodes) is
  where
    by : (b : Bool) → (id == e.0) ≡ b → (is_dropped (entry_at id nodes) ≡ true → IsAmong id (ids nodes)) →
        is_dropped (cond b (Some e.1) (entry_at id nodes)) ≡ true → IsAmong id (e.0 ∷ ids nodes)
    by true same rest is = inl (eqb-true id e.0 same)
    by false other rest is = inr (rest is)

found_pairs : (ps : Named Place) (name : List ℕ) (o : Node) → nodes_in ps name ≡ Some o → (b : ℕ × ℕ) →
    IsAmong b (pairs_at (Some o)) → IsAmong b (pairs_in ps)
found_pairs [] name o found b among = absurd cc
found_pairs (e ∷ ps) name o found b among =
    by (bytes_eq name e.0) (λ at. found_pairs ps name o at b among) found
  where
    by : (c : Bool) → (nodes_in ps name ≡ Some o → IsAmong b (pairs_in ps)) →
        node_in (cond c (Some e.1) (find_named name ps)) ≡ Some o → IsAmong b (pairs_in (e ∷ ps))
    by true rest at =
        among_left b (pairs_at e.1.node) (pairs_in ps) (subst (λ k. IsAmong b (pairs_at k)) (sym at) among)
    by false rest at = among_right b (pairs_at e.1.node) (pairs_in ps) (rest at)

pub all_exactly : (ps : Named Place) → AreNamedOnce ps → AreRegular (nodes_in ps) → (f : ℕ → NetNode)
    (name : List ℕ) (o : Node) → nodes_in ps name ≡ Some o → BarsNoOther (knowledge o).config (f o.id) →
    BarsExactly (knowledge o).config (all_barred (pairs_in ps) f o.id)
all_exactly ps once regular f name o found old id =
    both_ways (member id (barred_at (pairs_in ps) o.id (f o.id).barred))
    (is_dropped (entry_at id (knowledge o).config.nodes))
    (barred_by (λ r. HasDropped r (knowledge o).config) (pairs_in ps) o.id (f o.id).barred
    (all_map (IsPair (nodes_in ps)) (λ b. o.id ≡ b.0 → HasDropped b.1 (knowledge o).config)
    (λ b is same. is name o found same) (pairs_in ps) (pairs_are ps once regular)) old id)
    (λ is. barred_in (pairs_in ps) o.id (f o.id).barred id
    (found_pairs ps name o found (o.id, id)
    (among_map (λ r. (o.id, r)) id (dropped_by (knowledge o).config.nodes)
    (among_filtered (λ r. is_dropped (entry_at r (knowledge o).config.nodes)) id (ids (knowledge o).config.nodes)
    (among_ids id (knowledge o).config.nodes is) is))))

-- ---- what a node has made of a stream

-- that does not depend on who is dropped
pub barred_fits : (f : Frame) (o : Node) (node : NetNode) (ids : List ℕ) → FitsNode f o node →
    BarsNoOther (knowledge o).config (record node { barred = ids }) → FitsNode f o (record node { barred = ids })
barred_fits f o node ids old bars = record {
  reached = old.reached;
  view = old.view;
  kept = λ v found own. let k = old.kept v found own in record { base = k.base; seen = k.seen; began = k.began };
  row = old.row;
  logs = old.logs;
  whole = record { keeps = old.whole.keeps; bars = bars; has = old.whole.has };
}
