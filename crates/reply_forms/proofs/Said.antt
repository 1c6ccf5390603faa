-- The events that nodes emit name tables by texts on one line, so every table that a node knows has such a name.
use Rattle.std.proofs.Common.{◌≡◌, ℕ, true, List, [], ◌∷◌, ◌++◌, Option, Some, None, refl, sym}
use Rattle.std.proofs.Common.{inl, inr, subst}
use Rattle.std.specs.Prelude.{◌+◌, filter_map, option_map}
use Rattle.std.specs.Option.{option_or}
use Rattle.std.specs.List.{AllByRecursion, cons_option}
use Rattle.std.specs.Str.{bytes_eq}
use Rattle.std.proofs.lemmas.Bool.{false≢true}
use Rattle.node_rows.specs.declared.body.Body.{Body}
use Rattle.node_rows.specs.declared.body.Body.TheVariants.{SetAddTable}
use Rattle.slon_model.specs.Names.{Named, find_named}
use Rattle.slon_model.specs.Spoken.{IsLine}
use Rattle.slon_model.specs.Config.{names_of}
use Rattle.slon_model.specs.Deeds.{Node, Deed, Doing, Emits, Knowledge, emitted_by, knowledge, with_deeds}
use Rattle.slon_model.specs.Place.{Place}
use Rattle.slon_model.specs.Moves.{Move, done, with_commit}
use Rattle.slon_model.specs.Events.{Event}
use Rattle.slon_model.specs.Sessions.{World, Commit, Emission, Seat, emissions}
use Rattle.slon_model.proofs.Names.{all_found, bytes_itself, bytes_same}
use Rattle.slon_laws.specs.Keeps.{Keeps}
use Rattle.slon_laws.specs.Turning.{AllHold, HoldsAt}
use Rattle.slon_laws.specs.Worlds.{AllPlaces}
use Rattle.slon_laws.proofs.Owners.{OnSome}
use Rattle.stream_laws.specs.Nodes.{IsAmong, node_in, nodes_in}
use Rattle.stream_laws.specs.Making.{OfName, IsMade, tells_of}
use Rattle.stream_laws.specs.Facts.{IsRegular}
use Rattle.stream_laws.proofs.Copies.{each_name}
use Rattle.stream_laws.proofs.Lists.{among_any}
use Rattle.stream_laws.proofs.Seats.{IsSeat, seat_node}
use Rattle.stream_laws.proofs.Steps.{Logs, done_logs, prepared_node}

-- ---- what is said

-- the name of a table that comes into a set is a line
abbrev pub BodyReads : Body → Type 0
BodyReads (SetAddTable set table name comment) = IsLine name
BodyReads others = Unit {0}

abbrev pub DoingReads : Doing → Type 0
DoingReads (Emits e) = BodyReads e.body
DoingReads others = Unit {0}

-- in all that is emitted by these deeds
abbrev pub DeedsRead : List Deed → Type 0
DeedsRead ds = AllByRecursion (λ d. DoingReads d.doing) ds

abbrev pub NodeReads : Node → Type 0
NodeReads n = DeedsRead n.deeds

-- by a commit
abbrev pub CommitReads : Commit → Type 0
CommitReads c = DeedsRead c.deeds × OnSome NodeReads c.becomes

both_read : (ds es : List Deed) → DeedsRead ds → DeedsRead es → DeedsRead (ds ++ es)
both_read [] es one other = other
both_read (d ∷ ds) es one other = (one.0, both_read ds es one.1 other)

pub emissions_read : (s : Seat) (number : ℕ) (ms : List Emission) → AllByRecursion (λ m. BodyReads m.body) ms →
    DeedsRead (emissions s number ms)
emissions_read s number [] all = tt
emissions_read s number (m ∷ ms) all =
    both_read (emissions s (number + 1) ms) _ (emissions_read s (number + 1) ms all.1) (all.0, tt)

-- ---- what nodes said

-- all that the node of a database emitted
abbrev pub PlaceReads : Place → Type 0
PlaceReads p = OnSome NodeReads p.node

committed_reads : (ds : List Deed) (o : Option Node) → DeedsRead ds → OnSome NodeReads o →
    OnSome NodeReads (option_map (with_deeds ds) o)
committed_reads ds None all is = tt
committed_reads ds (Some n) all is = both_read ds n.deeds all is

either_reads : (becomes before : Option Node) → OnSome NodeReads becomes → OnSome NodeReads before →
    OnSome NodeReads (option_or becomes before)
either_reads None before one other = other
either_reads (Some n) before one other = one

done_reads : (move : Move) (p : Place) → PlaceReads p → PlaceReads (done move p)
done_reads move p is = by (done_logs move p)
  where
    logged : (xid : ℕ) (o : Option Node) → OnSome NodeReads o → OnSome NodeReads (option_map (with_commit xid p) o)
    logged xid None is = tt
    logged xid (Some n) is = (tt, is)

    by : Logs p (done move p).node → PlaceReads (done move p)
    by (inl same) = subst (OnSome NodeReads) (sym same) is
    by (inr (xid, log)) = subst (OnSome NodeReads) (sym log) (logged xid p.node is)

pub keeps_reading : Keeps (λ c p. CommitReads c) (λ task. Unit {0}) PlaceReads PlaceReads
keeps_reading = record {
  tasks = record {
    stays = λ p is. is;
    prepares = λ task move p may is. subst (OnSome NodeReads) (sym (prepared_node move p)) is;
    moves = λ task move p one may is. done_reads move p is;
    falls = λ count p is. is;
    wavers = λ stands p is. is;
  };
  commits = λ c p reads is. committed_reads c.deeds (option_or c.becomes p.node) reads.0
      (either_reads c.becomes p.node reads.1 is);
  promises = λ node p is. is;
}

-- each of these commits of a step
pub all_read : (cs : List Commit) (ps : Named Place) → AllByRecursion CommitReads cs →
    AllHold (λ c p. CommitReads c) cs ps
all_read [] ps all = tt
all_read (c ∷ cs) ps all = (by (find_named c.name ps), all_read cs _ all.1)
  where
    by : (o : Option Place) → HoldsAt (λ c p. CommitReads c) c o
    by None = tt
    by (Some p) = all.0

-- ---- tables that are known

-- an event of a node whose deeds read
among_reads : (e : Event) (ds : List Deed) → DeedsRead ds → IsAmong e (filter_map (λ d. emitted_by d.doing) ds) →
    BodyReads e.body
among_reads e [] all among = absurd among
among_reads e (d ∷ ds) all among = by (among_reads e ds all.1) d.doing all.0 among
  where
    by : (IsAmong e (filter_map (λ d. emitted_by d.doing) ds) → BodyReads e.body) → (doing : Doing) →
        DoingReads doing →
        IsAmong e (cons_option (emitted_by doing) (filter_map (λ d. emitted_by d.doing) ds)) → BodyReads e.body
    by later (Emits f) reads (inl is) = subst (λ (g : Event). BodyReads g.body) (sym is) reads
    by later (Emits f) reads (inr there) = later there
    by later others reads there = later there

told_line : (name : List ℕ) (body : Body) → BodyReads body → tells_of body (OfName name) ≡ true → IsLine name
told_line name (SetAddTable set table other comment) reads is = subst IsLine (sym (bytes_same name other is)) reads
told_line name others reads is = absurd (false≢true is)

made_line : (w : World) (name : List ℕ) → AllPlaces PlaceReads w → IsMade (nodes_in w.places) (OfName name) →
    IsLine name
made_line w name all made = by (find_named made.name w.places) refl made.is
  where
    of : (o : Option Node) → OnSome NodeReads o → o ≡ Some made.node → IsLine name
    of None reads is = absurd cc
    of (Some n) reads is =
        let same : n ≡ made.node = cc in
        told_line name made.event.body
        (among_reads made.event made.node.deeds (subst NodeReads same reads) made.among) made.makes

    by : (o : Option Place) → find_named made.name w.places ≡ o → node_in o ≡ Some made.node → IsLine name
    by None found is = absurd cc
    by (Some p) found is = of p.node (all_found PlaceReads made.name p w.places all found) is

-- the names of the tables that a node knows are lines
pub names_read : (w : World) → IsRegular w → AllPlaces PlaceReads w → (s : Seat) → IsSeat w.places s → (set : ℕ) →
    AllByRecursion IsLine (names_of set s.known.config)
names_read w regular all s is set =
    subst (λ (k : Knowledge). AllByRecursion IsLine (names_of set k.config)) (sym is.known)
    (each_name IsLine set (knowledge s.node).config.tables
    (λ e among on. made_line w e.1.name all
    ((regular.nodes.each s.name s.node (seat_node w.places s is)).marked.met (OfName e.1.name)
    (among_any (λ f. bytes_eq e.1.name f.1.name) e (knowledge s.node).config.tables among
    (bytes_itself e.1.name))).made))
