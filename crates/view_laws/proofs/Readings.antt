-- A node that keeps a set reads of the log of its origin what came between the snapshot that it keeps and that of a
-- SYNC, though the set may have ended there since.
use Rattle.std.proofs.Common.{◌≡◌, ℕ, suc, ◌≤◌, true, false, refl, sym, ◌∙◌}
use Rattle.slon_model.specs.Config.{era_of, is_origin}
use Rattle.slon_model.specs.Deeds.{knowledge, progress}
use Rattle.slon_model.specs.Events.{Event, is_sync}
use Rattle.slon_model.specs.Snapshots.{covers}
use Rattle.slon_model.specs.Views.{View}
use Rattle.stream_laws.specs.Nodes.{IsEvent, nodes_in}
use Rattle.image_laws.specs.Facts.{IsHeldBy}
use Rattle.view_laws.specs.Known.{IsEmitted, IsSeen}
use Rattle.view_laws.specs.Past.{Past, WasUpTo}
use Rattle.view_laws.proofs.Copied.{stays_leading}
use Rattle.view_laws.proofs.Divided.{was_taken}
use Rattle.view_laws.proofs.Emitted.{SyncAt, sync_emitted, sync_in}
use Rattle.view_laws.proofs.Ended.{sync_live, view_live}
use Rattle.view_laws.proofs.Moments.{IsLater, NodeAt, node_now, now_stays, one_name}
use Rattle.view_laws.proofs.Seen.{is_older, newer_seen}
use Rattle.view_laws.proofs.Standing.{Viewer}
use Rattle.view_laws.proofs.Tables.{KnownTable, held_then, set_known}
use Rattle.view_laws.proofs.Taken.{Follows}

-- A table of a set that a node keeps, and a SYNC of the origin which it may apply next, and which sees more.
pub record Reads (t : Past) : Type 0 where
  pub table : KnownTable t
  pub view : View
  pub seen : IsSeen (WasUpTo t) table.node table.entry.1.set_id view
  pub event : Event
  pub is : IsEvent (nodes_in t.world.places) event
  pub sync : is_sync event.body ≡ true
  pub own : event.origin ≡ view.origin
  pub next : event.number ≤ suc (progress view.origin (knowledge table.node))
  pub more : covers view.seen event.taken ≡ false

abbrev pub reads_viewer : {t : Past} → Reads t → Viewer t
reads_viewer r =
    record {
      name = r.table.name;
      node = r.table.node;
      is = r.table.is;
      set_id = r.table.entry.1.set_id;
      view = r.view;
      seen = r.seen;
    }

-- The session in which the SYNC was emitted comes behind that of the view, and the origin had the table in the set
-- there.
pub record ReadAt (t : Past) (r : Reads t) : Type 0 where
  pub at : SyncAt t r.event
  pub later : IsLater r.seen.moment at.moment
  pub held : IsHeldBy at.moment.node.id (knowledge at.moment.node).config r.table.entry.1.set_id r.table.entry.1.name
  pub era : era_of r.table.entry.1.set_id (knowledge at.moment.node).config
      ≡ era_of r.table.entry.1.set_id (knowledge r.seen.moment.node).config

pub read_at : (t : Past) (r : Reads t) → ReadAt t r
read_at t r = record {
  at = at;
  later = later;
  held = held_then t r.table _ (newer_seen (WasUpTo t) r.table.node set r.view r.event from r.seen (later, led));
  era = led.1;
}
  where
    set : ℕ
    set = r.table.entry.1.set_id

    at : SyncAt t r.event
    at = sync_in t r.event r.is r.sync

    emitted : IsEmitted (WasUpTo t) r.event
    emitted = sync_emitted t r.event r.sync at

    from : IsEmitted (WasUpTo t) r.event × (r.event.origin ≡ r.view.origin)
    from = (emitted, r.own)

    later : IsLater r.seen.moment at.moment
    later = is_older t r.table.node set r.view r.event (emitted, r.own) r.seen r.more

    led : (is_origin at.moment.node.id set (knowledge at.moment.node).config ≡ true)
        × (era_of set (knowledge at.moment.node).config ≡ era_of set (knowledge r.seen.moment.node).config)
    led =
        stays_leading r.seen.moment.node at.moment.place at.moment.node later.stays at.moment.at set r.seen.leads
        (sync_live t (reads_viewer r) r.event r.is at (r.own, r.next) later)

-- The origin of the SYNC in the session.
pub record ReadsFrom (t : Past) (r : Reads t) : Type 0 where
  pub at : NodeAt t
  pub own : at.node.id ≡ r.event.origin
  pub other : is_origin r.table.node.id r.table.entry.1.set_id (knowledge r.table.node).config ≡ false

abbrev pub reads_name : (t : Past) (r : Reads t) (f : ReadsFrom t r) (a : ReadAt t r) → a.at.moment.name ≡ f.at.name
reads_name t r f a =
    let m = a.at.moment in
    let now = now_stays t m.session m.was m.name m.place m.node m.found m.at in
    one_name t (node_now t m now) f.at (now.2.id ∙ a.at.own ∙ sym f.own)

-- so it takes rows from there
abbrev pub reads_follows : (t : Past) (r : Reads t) (f : ReadsFrom t r) (a : ReadAt t r) → Follows t
reads_follows t r f a =
    record {
      table = r.table;
      live = view_live t (reads_viewer r) (set_known t r.table);
      other = f.other;
      name = f.at.name;
      place = f.at.place;
      found = f.at.found;
      node = f.at.node;
      at = f.at.at;
      top = r.event.taken;
      era = era_of r.table.entry.1.set_id (knowledge a.at.moment.node).config;
      held = record {
        taken = was_taken t a.at.moment f.at.name (reads_name t r f a) r.event.taken a.at.taken;
        node = a.at.moment.node;
        at = a.at.moment.at;
        held = a.held;
        is_era = refl;
      };
    }
