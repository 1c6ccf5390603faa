-- A commit in doubt of a database that does something as a node.
use Rattle.std.proofs.Common.{◌≡◌, ◌∙◌, ℕ, ◌+◌, ◌≤◌, Bool, true, false, List, Option, Some, None, refl, ◌⊎◌, inl, inr}
use Rattle.std.proofs.Common.{sym, ap, subst, arith}
use Rattle.std.specs.Option.{option_map, option_or}
use Rattle.std.proofs.lemmas.Bool.{false≢true}
use Rattle.slon_base.specs.Codec.{number_bytes}
use Rattle.slon_base.specs.Keeper.{Space, Store, put_at}
use Rattle.slon_model.specs.Deeds.{Node, Deed, with_deeds}
use Rattle.slon_model.specs.Rows.{member}
use Rattle.slon_model.specs.Place.{Place, filled_by, filling_of, node_id, rows_since, standing_rows}
use Rattle.slon_model.specs.Sessions.{Commit, committing, in_doubt}
use Rattle.app_store.specs.Base.{Base}
use Rattle.app_store.specs.Fits.{Fits, IsNamed}
use Rattle.app_store.specs.Spelled.{AreRows, Holds, meta, stamp_key}
use Rattle.app_store.proofs.Holding.{holds_same}
use Rattle.app_store.proofs.Standing.{named_up, named_as}
use Rattle.app_store.proofs.Upright.{UpAt, LeftInDoubt, running}

-- the store with the next stamp
abbrev pub stamped_store : Place → Store → Store
stamped_store p store = put_at meta stamp_key (number_bytes (p.stamp + 1)) store

-- The database is down, and its store holds what it held, or what the commit makes of it.
pub record IsWavering {p : Place} {b : Base} (at : UpAt p b) (c : Commit) (store : Store) (new : Base) : Type 0 where
  pub up : new.memory.up ≡ false
  pub doubt : new.memory.doubt ≡ Some (p.stamp + 1)
  pub named : (stands : Bool) → IsNamed (in_doubt c stands p) new.memory
  pub later : b.kept.faults ≤ new.kept.faults
  pub holds : Holds (committing c p) (stamped_store p store)
  pub either : (new.kept.held ≡ Some at.ready.fits.held.0) ⊎ (new.kept.held ≡ Some (stamped_store p store))

pub commit_wavers : {p : Place} {b : Base} {store : Store} {new : Base} (at : UpAt p b) (c : Commit) →
    IsWavering at c store new → (stands : Bool) × Fits (in_doubt c stands p) new
commit_wavers {p} {b} {store} {new} at c w =
    let told = at.ready.fits.told in
    let later = w.later in
    elim w.either [
      | inl before ↦ (
        false,
        record {
          stands = (w.up, w.doubt, λ is. absurd (false≢true is), w.named false);
          told = omega (arith, told, later);
          held = (
            at.ready.fits.held.0,
            before,
            holds_same p (in_doubt c false p) at.ready.fits.held.0 refl at.ready.fits.held.2,
          );
        },
      )
      | inr made ↦ (
        true,
        record {
          stands = (w.up, w.doubt, λ _. omega arith, w.named true);
          told = omega (arith, told, later);
          held = (
            stamped_store p store,
            made,
            holds_same (committing c p) (in_doubt c true p) (stamped_store p store) refl w.holds,
          );
        },
      )
    ]

-- a commit by which the node keeps its id, and which leaves the promised one where it does not stand
pub node_wavers : {p : Place} {b new : Base} (at : UpAt p b) (c : Commit) (store : Store) →
    LeftInDoubt at.ready.fits.held.0 (stamped_store p store) b new →
    (node_id (in_doubt c true p) ≡ node_id p) × (node_id (in_doubt c false p) ≡ node_id p) →
    Holds (committing c p) (stamped_store p store) → (stands : Bool) × Fits (in_doubt c stands p) new
node_wavers {p} {b} {new} at c store left same holds =
    commit_wavers {store = store} {new = new} at c (record {
      up = left.up;
      doubt = left.doubt ∙ ap (λ n. Some (n + 1)) (running at).1.stamp;
      named = by;
      later = left.later;
      holds = holds;
      either = left.either;
    })
  where
    named_at : (q : Place) → node_id q ≡ node_id p → IsNamed q new.memory
    named_at q is = named_as p q b.memory new.memory (named_up p b.memory (running at).1) left.identity is

    by : (stands : Bool) → IsNamed (in_doubt c stands p) new.memory
    by true = named_at (in_doubt c true p) same.0
    by false = named_at (in_doubt c false p) same.1

-- a commit that fills no table leaves the rows that stand
pub rows_stay : (c : Commit) (p : Place) (space : Space) → filled_by p c.deeds p.fillings ≡ p.fillings →
    AreRows (standing_rows p) space → AreRows (standing_rows (committing c p)) space
rows_stay c p space same rows =
    subst (λ f. AreRows (λ table. rows_since (λ a. member a.xid p.commits) table p.actions (filling_of table f)) space)
    (sym same) rows

-- deeds leave a node its id
pub same_id : (ds : List Deed) (own : Option Node) (promised : Option ℕ) →
    option_or (option_map (λ n. n.id) (option_map (with_deeds ds) own)) promised
    ≡ option_or (option_map (λ n. n.id) own) promised
same_id ds None promised = refl
same_id ds (Some n) promised = refl
