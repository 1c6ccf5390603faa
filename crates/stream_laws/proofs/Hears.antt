-- What a node holds and can tell is so, and it is so at each node that hears it.
use Rattle.std.proofs.Common.{◌≡◌, ℕ, true, false, cond, List, [], ◌∷◌, Option, Some, None, refl, sym}
use Rattle.std.proofs.Common.{subst, arith, unwrap_or}
use Rattle.std.specs.Prelude.{nat_lt}
use Rattle.std.specs.List.{AllByRecursion}
use Rattle.slon_model.specs.Maps.{Map, Map2, entry_at, number_at, row_at, with_pair, with_entry}
use Rattle.slon_model.specs.Deeds.{Node, Deed, Hears, knowledge, with_deeds, met, held, raised, heard}
use Rattle.slon_model.specs.Deeds.{told_progress}
use Rattle.slon_model.specs.Sessions.{Seat}
use Rattle.slon_model.specs.Polls.{confirms_in, confirms_of}
use Rattle.slon_model.proofs.Names.{all_map}
use Rattle.stream_laws.specs.Nodes.{Nodes, IsEvent, HasConfirmed}
use Rattle.stream_laws.specs.Facts.{Facts, AreRegular, RowConfirmed, IsFirstOf}
use Rattle.stream_laws.proofs.Lists.{all_filtered, all_mapped, all_flat, all_with, all_entry}
use Rattle.stream_laws.proofs.Growing.{GoOn, Grow, placed, staying, marked_grown, told_grown, events_grown}
use Rattle.stream_laws.proofs.Growing.{confirmed_grown}

-- what all that a node was told says is so
abbrev pub AllConfirmed : Nodes → Map2 ℕ → Type 0
AllConfirmed nodes told = AllByRecursion (RowConfirmed nodes) told

-- ---- the events that it holds

pub held_events : (nodes : Nodes) (n : Node) → Facts nodes n → AllByRecursion (IsEvent nodes) (held n)
held_events nodes n f =
    all_filtered (IsEvent nodes) (λ e. nat_lt (number_at e.origin (knowledge n).low) e.number) (met n) f.met

-- ---- what it can tell

pub row_confirmed : (nodes : Nodes) (origin : ℕ) (told : Map2 ℕ) → AllConfirmed nodes told →
    RowConfirmed nodes (origin, row_at origin told)
row_confirmed nodes origin told all = by (entry_at origin told) refl
  where
    by : (o : Option (Map ℕ)) → entry_at origin told ≡ o → RowConfirmed nodes (origin, unwrap_or o [])
    by None is = tt
    by (Some row) is = all_entry (RowConfirmed nodes) origin row told all is

pair_confirmed : (nodes : Nodes) (c : ℕ × ℕ × ℕ) (told : Map2 ℕ) → HasConfirmed nodes c → AllConfirmed nodes told →
    AllConfirmed nodes (with_pair c.0 c.1 c.2 told)
pair_confirmed nodes c told one all =
    all_with (RowConfirmed nodes) c.0 (with_entry c.1 c.2 (row_at c.0 told)) told
    (all_with (λ d. HasConfirmed nodes (c.0, d.0, d.1)) c.1 c.2 (row_at c.0 told) one
    (row_confirmed nodes c.0 told all)) all

progress_confirmed : (nodes : Nodes) (own : ℕ) (ps : Map ℕ) (told : Map2 ℕ) →
    AllByRecursion (λ p. HasConfirmed nodes (p.0, own, p.1)) ps → AllConfirmed nodes told →
    AllConfirmed nodes (told_progress own ps told)
progress_confirmed nodes own [] told each all = all
progress_confirmed nodes own (p ∷ ps) told each all =
    pair_confirmed nodes (p.0, own, p.1) (told_progress own ps told) each.0
    (progress_confirmed nodes own ps told each.1 all)

-- what it was told, and how far it is itself
pub own_confirmed : (nodes : Nodes) (name : List ℕ) (n : Node) → nodes name ≡ Some n → Facts nodes n →
    AllConfirmed nodes (told_progress n.id (knowledge n).progress (knowledge n).told)
own_confirmed nodes name n is f =
    progress_confirmed nodes n.id (knowledge n).progress (knowledge n).told
    (all_map (IsFirstOf (knowledge n).progress) (λ p. HasConfirmed nodes (p.0, n.id, p.1))
    (λ p first. record { name = name; node = n; is = is; own = refl; within = first }) (knowledge n).progress f.first)
    f.told

pub all_confirms : (nodes : Nodes) (s : Seat) → s.known ≡ knowledge s.node → nodes s.name ≡ Some s.node →
    Facts nodes s.node → AllByRecursion (HasConfirmed nodes) (confirms_of s)
all_confirms nodes s known is f =
    all_flat (RowConfirmed nodes) (HasConfirmed nodes) confirms_in
    (λ row all. all_mapped (λ c. HasConfirmed nodes (row.0, c.0, c.1)) (HasConfirmed nodes)
    (λ c. (row.0, c.0, c.1)) (λ c one. one) row.1 all)
    (told_progress s.node.id s.known.progress s.known.told)
    (subst (λ k. AllConfirmed nodes (told_progress s.node.id k.progress k.told)) (sym known)
    (own_confirmed nodes s.name s.node is f))

-- ---- it hears

raised_confirmed : (nodes : Nodes) (c : ℕ × ℕ × ℕ) (told : Map2 ℕ) → HasConfirmed nodes c → AllConfirmed nodes told →
    AllConfirmed nodes (raised c told)
raised_confirmed nodes c told one all =
    elim (nat_lt (number_at c.1 (row_at c.0 told)) c.2)
    as (λ b. AllConfirmed nodes (cond b (with_pair c.0 c.1 c.2 told) told)) [
      | true ↦ pair_confirmed nodes c told one all
      | false ↦ all
    ]

heard_confirmed : (nodes : Nodes) (cs : List (ℕ × ℕ × ℕ)) (told : Map2 ℕ) → AllByRecursion (HasConfirmed nodes) cs →
    AllConfirmed nodes told → AllConfirmed nodes (heard cs told)
heard_confirmed nodes [] told each all = all
heard_confirmed nodes (c ∷ cs) told each all =
    heard_confirmed nodes cs (raised c told) each.1 (raised_confirmed nodes c told each.0 all)

-- A node of these that hears confirmations which are so.
pub record Hearing (nodes : Nodes) : Type 0 where
  pub name : List ℕ
  pub node : Node
  pub is : nodes name ≡ Some node
  pub deed : Deed
  pub confirms : List (ℕ × ℕ × ℕ)
  pub are : AllByRecursion (HasConfirmed nodes) confirms

abbrev pub having_heard : {nodes : Nodes} → Hearing nodes → Node
having_heard h = with_deeds (record h.deed { doing = Hears h.confirms } ∷ []) h.node

heard_facts : {old : Nodes} (h : Hearing old) → Facts old h.node → (new : Nodes) → Grow old new →
    Facts new (having_heard h)
heard_facts {old} h f new grow = record {
  knows = f.knows;
  emitted = f.emitted;
  whole = f.whole;
  low = f.low;
  first = f.first;
  marked = marked_grown grow (knowledge h.node).config (knowledge h.node).progress f.marked;
  applied = f.applied;
  told =
      heard_confirmed new h.confirms (knowledge h.node).told
      (all_map (HasConfirmed old) (HasConfirmed new) (confirmed_grown grow) h.confirms h.are)
      (told_grown grow (knowledge h.node).told f.told);
  met = events_grown grow (met h.node) f.met;
}

pub heard_on : (old : Nodes) (h : Hearing old) → AreRegular old →
    GoOn old (placed h.name (Some (having_heard h)) old)
heard_on old h regular =
    staying h.name h.node (having_heard h) old regular (record {
      is = h.is;
      quiet = refl;
      id = refl;
      further = λ origin. omega arith;
      knows = λ id is. is;
      facts = λ new grow is. heard_facts h (regular.each h.name h.node h.is) new grow;
    })
