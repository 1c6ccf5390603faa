-- The node that a database is behind a commit, and what is kept by every history.
use Rattle.net_relation.proofs.Links.{EndsSet}
use Rattle.std.proofs.Common.{◌≡◌, ℕ, List, [], ◌∷◌, Some, None, sym, ap, subst, ◌∙◌}
use Rattle.std.specs.Prelude.{option_map}
use Rattle.std.specs.Option.{option_or}
use Rattle.slon_model.specs.Deeds.{Hears as HearsOf, with_deeds}
use Rattle.slon_model.specs.Logs.{logged}
use Rattle.slon_model.specs.Membership.{first_of_cluster}
use Rattle.slon_model.specs.Place.{Place, deed}
use Rattle.slon_model.specs.Sessions.{Commit, Emission, Seat, World, committing}
use Rattle.slon_model.specs.Reaching.{commit_of}
use Rattle.slon_model.specs.World.{Happening, Leads, start}
use Rattle.view_laws.specs.Past.{Past, past, IsBefore, WasBefore, WasUpTo}
use Rattle.view_laws.proofs.Doing.{Hears, Takes, taking}
use Rattle.view_laws.proofs.Living.{does_node}
use Rattle.net_relation.proofs.Links.{Alone, Beginning, Changes, Feeds, Leaves, MayTell, Telling}
use Rattle.net_relation.proofs.Stepping.{Gone, Looks, look, step_goes}

-- ---- the node behind a commit

pub told_node : {w : World} {c : Commit} {p : Place} (d : Telling w c p) →
    (committing c p).node ≡ Some (with_deeds (commit_of d.seat d.emits).deeds d.seat.node)
told_node {c = c} {p} d =
    does_node c p d.seat.node (ap (λ (k : Commit). k.becomes) d.commit)
    (ap (λ (q : Place). q.node) (sym d.at) ∙ d.is.node)
    ∙ ap (λ (k : Commit). Some (with_deeds k.deeds d.seat.node)) d.commit

pub taken_node : {t : Past} {c : Commit} {p : Place} (d : Takes t c p) →
    (committing c p).node ≡ Some (with_deeds (taking d.carried).deeds d.carried.seat.node)
taken_node {c = c} {p} d =
    does_node c p d.carried.seat.node (ap (λ (k : Commit). k.becomes) d.commit)
    (ap (λ (q : Place). q.node) (sym d.at) ∙ d.is.work.seat.node)
    ∙ ap (λ (k : Commit). Some (with_deeds k.deeds d.carried.seat.node)) d.commit

pub heard_node : {w : World} {c : Commit} {p : Place} (d : Hears w c p) → (committing c p).node
    ≡ Some (with_deeds (deed d.seat.place [] [] (HearsOf d.confirms) ∷ []) d.seat.node)
heard_node {c = c} {p} d =
    does_node c p d.seat.node (ap (λ (k : Commit). k.becomes) d.commit)
    (ap (λ (q : Place). q.node) (sym d.at) ∙ d.is.node)
    ∙ ap (λ (k : Commit). Some (with_deeds k.deeds d.seat.node)) d.commit

pub begun_node : {w : World} {c : Commit} {p : Place} (d : Beginning w c p) →
    (committing c p).node ≡ Some (first_of_cluster d.id d.comment d.run)
begun_node {p = p} d =
    ap (λ (k : Commit). option_map (with_deeds k.deeds) (option_or k.becomes p.node)) d.commit

-- it has logged nothing by the events that it emits
pub told_logs : (s : Seat) (ms : List Emission) →
    MayTell s.node ms → logged (with_deeds (commit_of s ms).deeds s.node) ≡ logged s.node
told_logs s ms (Alone m same plain) =
    ap (λ ms. logged (with_deeds (commit_of s ms).deeds s.node)) same
told_logs s ms (Feeds f same can new) =
    ap (λ ms. logged (with_deeds (commit_of s ms).deeds s.node)) same
told_logs s ms (Changes f same can had) =
    ap (λ ms. logged (with_deeds (commit_of s ms).deeds s.node)) same
told_logs s ms (Leaves set receiver same can) =
    ap (λ ms. logged (with_deeds (commit_of s ms).deeds s.node)) same
told_logs s ms (EndsSet set same can) =
    ap (λ ms. logged (with_deeds (commit_of s ms).deeds s.node)) same

-- ---- histories

-- what each step keeps holds of every session; it may speak of the sessions before
pub holds_along : (R : (World → Type 0) → Looks → Type 0) → R (λ u. ⊥) (λ name. None) →
    ((t : Past) → R (WasBefore t) (look t.world) → (f : Looks) → Gone t f → R (WasUpTo t) f) →
    (limit : ℕ) (history : List Happening) (w : World) (leads : Leads (start limit) history w) →
    R (IsBefore limit history w leads) (look w)
holds_along R first step limit [] w is = subst (λ u. R (λ v. ⊥) (look u)) (sym is) first
holds_along R first step limit (h ∷ hs) w leads =
    let t = past limit hs leads.0 leads.1 in
    step t (holds_along R first step limit hs leads.0 leads.1) (look w) (step_goes t w h leads.2)

pub holds_now : (R : Looks → Type 0) → R (λ name. None) →
    ((t : Past) → R (look t.world) → (f : Looks) → Gone t f → R f) → (t : Past) → R (look t.world)
holds_now R first step t = holds_along (λ Was. R) first step t.limit t.history t.world t.leads
