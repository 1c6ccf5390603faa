-- A set that a node keeps stands there as it stood at its origin in an earlier session.
use Rattle.std.proofs.Common.{◌≡◌, ℕ, List, Some, sym, ap, subst, ◌∙◌}
use Rattle.node_rows.specs.declared.rows.TableRow.{TableRow}
use Rattle.slon_model.specs.Config.{names_of}
use Rattle.slon_model.specs.Deeds.{knowledge, view_of}
use Rattle.slon_model.specs.Place.{standing_rows}
use Rattle.stream_laws.specs.Nodes.{IsAmong, node_in}
use Rattle.image_laws.specs.Facts.{IsHeldBy}
use Rattle.follow_laws.specs.Filled.{IsFilled}
use Rattle.view_laws.specs.Known.{IsSeen}
use Rattle.follow_laws.specs.Laws.{SetsWereSo}
use Rattle.view_laws.specs.Past.{Past, WasUpTo, past}
use Rattle.follow_laws.proofs.Contents.{filled_stands}
use Rattle.view_laws.proofs.Viewed.{seen_now}
use Rattle.follow_laws.proofs.Holding.{filled_now}
use Rattle.view_laws.proofs.Agreeing.{table_known}
use Rattle.view_laws.proofs.Moments.{NodeAt, Reached, reached_up_to}
use Rattle.follow_laws.proofs.Synced.{held_at, same_rows}
use Rattle.view_laws.proofs.Tables.{KnownTable, held_then}

pub sets_were_so : SetsWereSo
sets_were_so limit history w leads name p found n is set v view = record {
  history = r.history;
  before = seen.moment.session;
  leads = r.leads;
  later = r.later;
  goes_on = r.goes_on;
  all = r.all;
  name = seen.moment.name;
  place = seen.moment.place;
  found = seen.moment.found;
  origin = seen.moment.node;
  at = seen.moment.at;
  own = seen.own;
  seen = seen.seen;
  rows = rows;
}
  where
    t : Past
    t = past limit history w leads

    seen : IsSeen (WasUpTo t) n set v
    seen = seen_now t name n (ap node_in found ∙ is) set v view

    r : Reached t seen.moment.session
    r = reached_up_to t seen.moment.session seen.moment.was

    -- what is so of a table of the set
    So : ℕ → List ℕ → Type 0
    So set table = (seen : IsSeen (WasUpTo t) n set v) →
        IsHeldBy seen.moment.node.id (knowledge seen.moment.node).config set table
        × (standing_rows p table ≡ standing_rows seen.moment.place table)

    known : (e : ℕ × TableRow) → IsAmong e (knowledge n).config.tables →
        view_of e.1.set_id (knowledge n) ≡ Some v → So e.1.set_id e.1.name
    known e among view seen =
        let k : KnownTable t =
        record { name = name; node = n; is = ap node_in found ∙ is; entry = e; among = among } in
        let x : NodeAt t = record { name = name; place = p; found = found; node = n; at = is } in
        let f : IsFilled (WasUpTo t) p n e.1.set_id v e.1.name = filled_now t x e among v view in (
          held_then t k v seen,
          filled_stands p e.1.name f.before ∙ f.rows
              ∙ same_rows t e.1.set_id e.1.name v (held_at t k v f.seen) (held_at t k v seen),
        )

    rows : (table : List ℕ) → IsAmong table (names_of set (knowledge n).config) →
        IsHeldBy seen.moment.node.id (knowledge seen.moment.node).config set table
        × (standing_rows p table ≡ standing_rows seen.moment.place table)
    rows table among =
        let e = table_known set (knowledge n).config table among in
        (subst (So set) (sym e.3) (subst (λ k. So k e.0.1.name) e.2
        (known e.0 e.1 (ap (λ k. view_of k (knowledge n)) e.2 ∙ view)))) seen
