-- What the rules have a node apply it can apply, in every session that a legal history leads to.
use Rattle.std.proofs.Common.{◌≡◌, ◌≢◌, ℕ, Bool, not, cond, Some, None, Option, is_some, refl, sym, ap, ◌∙◌, arith}
use Rattle.std.specs.Prelude.{◌==◌}
use Rattle.std.specs.Prelude.{true, false}
use Rattle.std.proofs.lemmas.Bool.{false_from_ne_true, true≢false, eqb-true, eq-eqb}
use Rattle.node_rows.specs.declared.body.Body.{Body}
use Rattle.node_rows.specs.declared.body.Body.TheVariants.{StoreSet, DropSet, SetAddTable, MoveSet, FailoverSet}
use Rattle.node_rows.specs.declared.rows.SetRow.{SetRow}
use Rattle.slon_model.specs.Names.{find_named}
use Rattle.slon_model.specs.Maps.{entry_at}
use Rattle.slon_model.specs.Events.{Event}
use Rattle.slon_model.specs.Config.{Config, live_set, leads_row, set_row}
use Rattle.slon_model.specs.Deeds.{knowledge}
use Rattle.slon_model.specs.Place.{Place}
use Rattle.slon_model.specs.Sessions.{World, Seat}
use Rattle.slon_model.proofs.Names.{bytes_itself, one_found}
use Rattle.stream_laws.specs.Making.{OfSet, OfTable, OfName, OfEnd, has_mark, is_ended, tells_of}
use Rattle.stream_laws.proofs.Applies.{MayCome}
use Rattle.stream_laws.proofs.Seats.{IsSeat}
use Rattle.stream_laws.proofs.Works.{IsWork, work_is}
use Rattle.node_state.specs.Held.{AreHomed}
use Rattle.node_state.specs.Known.{LearnsOfOther}
use Rattle.node_state.proofs.Dropping.{drop_learns}
use Rattle.node_state.proofs.Learning.{is_plain, plain_learns, set_learns, table_known}
use Rattle.app_store.specs.Base.{Base}
use Rattle.slonik_exec.specs.Databases.{AreReady}
use Rattle.slonik_exec.proofs.Lists.{missing_fits, ready_at}
use Rattle.slonik_exec.proofs.Sitting.{homes_at}
use Rattle.slon_turns.specs.Working.{TakesUp}
use Rattle.cluster_engine.specs.Agreed.{Clustered, Follows}
use Rattle.cluster_engine.proofs.Walking.{ready_of}

-- ---- sets

-- a set that is known, and of which no end is known, is live
live_row : (set : ℕ) (c : Config) (row : SetRow) → has_mark (OfEnd set) c ≡ false → entry_at set c.sets ≡ Some row →
    set_row set c ≡ Some row
live_row set c row lasts found = ap live_set found ∙ by row.live (sym (ap is_ended found) ∙ lasts)
  where
    by : (b : Bool) → not b ≡ false → cond b (Some row) None ≡ Some row
    by true is = refl
    by false is = absurd cc

-- another node is the origin of it
other_leads : (own origin : ℕ) (row : SetRow) → row.origin ≡ origin → origin ≢ own → leads_row own (Some row) ≡ false
other_leads own origin row from other =
    false_from_ne_true (row.origin == own) (λ same. other (sym from ∙ eqb-true row.origin own same))

-- each table that the node knows is in a set that it knows
homes : (w : World) (c : Clustered) → AreReady w c.bases → (s : Seat) → IsSeat w.places s →
    AreHomed (knowledge s.node).config
homes w c ready s is = by (find_named s.name c.bases) refl
  where
    by : (o : Option Base) → find_named s.name c.bases ≡ o → AreHomed (knowledge s.node).config
    by None none =
        let never : None ≡ Some s.place = sym (missing_fits s.name w.places c.bases ready.fits none) ∙ is.found in
        absurd cc
    by (Some b) found =
        let at = ready_at s.name b w c.bases ready found in
        let same = one_found at.place s.place (sym at.found ∙ is.found) in
        homes_at at.place s.node b at.ready (ap (λ (p : Place). p.node) same ∙ is.node)

-- ---- the event that is due

learns : {w : World} {origin : ℕ} (s : Seat) (e : Event) → IsWork w origin s e →
    AreHomed (knowledge s.node).config → (body : Body) → e.body ≡ body →
    MayCome e.origin body (knowledge s.node).config → LearnsOfOther s.node e
learns s e work known (StoreSet set by comment) is may =
    set_learns s.node e is (record {
      free = work.new (OfSet set) (ap (λ b. tells_of b (OfSet set)) is ∙ eq-eqb set set refl);
      homes = known;
    })
learns s e work known (SetAddTable set table name comment) is may =
    let found = live_row set (knowledge s.node).config may.0.0 may.1 may.0.1 in
    table_known s.node e is (record {
      live = ap is_some found;
      leads_is = ap (leads_row s.node.id) found ∙ other_leads s.node.id e.origin may.0.0 may.0.2 work.other;
      free = work.new (OfTable table) (ap (λ b. tells_of b (OfTable table)) is ∙ eq-eqb table table refl);
      unused = work.new (OfName name) (ap (λ b. tells_of b (OfName name)) is ∙ bytes_itself name);
    })
learns s e work known (DropSet set) is may = drop_learns s.node e is known
learns s e work known (MoveSet set old new era feeds) is may = absurd (true≢false (sym may))
learns s e work known (FailoverSet failed limit sets) is may = absurd (true≢false (sym may))
learns s e work known others is may = plain_learns s.node e (ap is_plain is)

pub takes_up : (node origin : ℕ) (w : World) (c : Clustered) → Follows w c → TakesUp node origin w
takes_up node origin w c follows x is = record {
  can = record { known = work.knows; later = let next = work.next in omega (arith, next) };
  learns =
      learns x.seat x.event work (homes w c (ready_of w c follows) x.seat work.seat) x.event.body refl work.may;
}
  where
    work : IsWork w origin x.seat x.event
    work = work_is node origin w x follows.regular is
