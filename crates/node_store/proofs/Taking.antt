-- What a node takes with an event, in what is pending, and the stamp behind it.
use Rattle.std.proofs.Common.{◌≡◌, ◌∙◌, ℕ, List, Option, Some, Result, Ok, Err, refl, sym, ap, subst}
use Rattle.std.proofs.Common.{true, false, [], ◌∷◌}
use Rattle.std.specs.Prelude.{◌==◌, ◌||◌, OnOk, IfErr, IfOk}
use Rattle.std.specs.FinMap.{get}
use Rattle.std.specs.Option.{option_map}
use Rattle.slon_base.specs.Codec.{AreTexts, list_bytes, number_bytes}
use Rattle.slon_base.specs.Keeper.{Store, Kept, put_at}
use Rattle.store_rows.specs.Space.{Becomes, IsPending, IsSpace}
use Rattle.store_rows.specs.Steps.{IsOutside}
use Rattle.store_rows.specs.declared.stop.Stop.{Stop}
use Rattle.store_rows.specs.declared.stop.Stop.TheVariants.{TooBig}
use Rattle.node_store.specs.Midways.{of_event}
use Rattle.slon_model.specs.Rows.{Rows}
use Rattle.slon_model.specs.Events.{Event}
use Rattle.slon_model.specs.Deeds.{Node, Deed, Brought, Applies, nothing_brought, with_deeds}
use Rattle.event_store.specs.Kept.{seen_view}
use Rattle.slon_laws.proofs.Opens.{or_parts}
use Rattle.change_apply.specs.Applied.{HoldsRows, IsKey, OthersStay, row_key}
use Rattle.change_apply.specs.Copied.{with_tables}
use Rattle.node_state.specs.Held.{HoldsNode, is_own}
use Rattle.node_state.proofs.Staying.{node_stays}
use Rattle.node_change.specs.Done.{HasApplied, HasKept, with_view}
use Rattle.node_change.proofs.Confirmed.{becomes_as}
use Rattle.app_store.specs.Spelled.{meta, stamp_key}
use Rattle.node_store.specs.Acting.{WritesAs}
use Rattle.node_store.specs.declared.bringing.SetCopy.{SetCopy}
use Rattle.node_store.specs.Bringing.{HasBrought, HasSet}

-- The stamp of a transaction, and how it is spelled.
pub record Stamp : Type 0 where
  pub number : ℕ
  pub bytes : List ℕ
  pub spelled : bytes ≡ number_bytes number

-- the stamp is put behind what is pending, or the store failed
pub stamped : {P : Store → Type 0} (s : Stamp) {mid : Kept} (new : Kept) (result : Result (Unit {0}) Stop) →
    IsPending P mid →
    OnOk result (new.pending ≡ option_map (option_map (put_at meta stamp_key s.bytes)) mid.pending)
    × IfErr result IsOutside → WritesAs P s.number result new
stamped s new (Ok u) p (put, only) = (
  p.store,
  put ∙ ap (λ (q : Option (Option Store)). option_map (option_map (put_at meta stamp_key s.bytes)) q) p.is
      ∙ ap (λ v. Some (Some (put_at meta stamp_key v p.store))) s.spelled,
  p.has,
)
stamped s new (Err stop) p (put, only) = only

-- a store that failed, or want of memory, is told as that
pub outside_event : (stop : Stop) → IsOutside stop → IsOutside (of_event stop)
outside_event (TooBig space) outside = absurd outside
outside_event others outside = outside

-- ---- what is taken

-- the rows of tables stay where their space stays
pub same_tables : (tables : List ℕ → Rows) (m new : Store) → new 3 ≡ m 3 → HoldsRows tables m → HoldsRows tables new
same_tables tables m new same holds =
    subst (λ s. IsSpace row_key IsKey list_bytes AreTexts (λ i. get (tables i.0) i.1) s) (sym same) holds

-- an event that brings nothing
plainly_brought : (n : Node) (e : Event) (tables : List ℕ → Rows) (m new : Store) → HoldsRows tables m →
    HasApplied n e m new → HasBrought n e nothing_brought tables m new
plainly_brought n e tables m new holds has = record {
  held = has.held;
  own = λ space one other. has.own space one;
  rows = same_tables tables m new (has.own 3 refl) holds;
}

-- A store and the rows that it holds.
pub record Holding : Type 0 where
  pub tables : List ℕ → Rows
  pub store : Store
  pub holds : HoldsRows tables store

pub becomes_plainly : (n : Node) (e : Event) (b : Brought) (h : Holding) (new : Kept)
    (result : Result (Unit {0}) Stop) → b ≡ nothing_brought → Becomes (HasApplied n e h.store) new result →
    Becomes (HasBrought n e b h.tables h.store) new result
becomes_plainly n e b h new result none p =
    subst (λ (c : Brought). Becomes (HasBrought n e c h.tables h.store) new result) (sym none)
    (becomes_as new (λ store has. plainly_brought n e h.tables h.store store h.holds has) result p)

-- What stands where a set was taken: the node keeps a view, and its tables are not filled yet.
pub record HasTaken (n : Node) (e : Event) (b : Brought) (m mid : Store) : Type 0 where
  pub held : (d : Deed) → d.doing ≡ Applies e b → d.logs ≡ b.logs → HoldsNode (Some (with_deeds (d ∷ []) n)) mid
  pub own : (space : ℕ) → is_own space ≡ true → mid space ≡ m space

pub has_taken : (n : Node) (e : Event) (b : Brought) (given : SetCopy) (m mid : Store) → HasSet b given →
    HasKept n e (with_view (given.set, seen_view given.view) nothing_brought) m mid → HasTaken n e b m mid
has_taken n e b given m mid set has =
    let one : Brought = record {
      views = (given.set, seen_view given.view) ∷ [];
      rows = b.rows;
      logs = [];
      count = b.count;
    } in
    let same : one ≡ b =
    λ i. record { views = sym set.views i; rows = b.rows; logs = sym set.logs i; count = b.count } in
    record {
      held = subst (λ (c : Brought). (d : Deed) → d.doing ≡ Applies e c → d.logs ≡ c.logs →
          HoldsNode (Some (with_deeds (d ∷ []) n)) mid) same (λ d is logs. has.held b.rows b.count d is logs);
      own = has.own;
    }

-- a space that is none of the database's is not that of the rows
pub not_rows : (space : ℕ) → is_own space ≡ false → (space == 3) ≡ false
not_rows space other = (or_parts (space == 1 || space == 2) (space == 3) other).1

-- and then they are
pub tables_taken : {m mid : Store} (n : Node) (e : Event) (b : Brought) (tables : List ℕ → Rows) (new : Store) →
    HasTaken n e b m mid → OthersStay mid new → HoldsRows (with_tables b.rows tables) new →
    HasBrought n e b tables m new
tables_taken {mid = mid} n e b tables new has stay rows = record {
  held = λ d doing logs. node_stays (Some (with_deeds (d ∷ []) n)) mid new
      (λ space other. stay space (not_rows space other)) (has.held d doing logs);
  own = λ space one other. stay space other ∙ has.own space one;
  rows = rows;
}

-- what a part left of the other spaces and of the rows is one store
pub becomes_both : {P Q : Store → Type 0} (mid : Store) (new : Kept) (result : Result (Unit {0}) Stop) →
    ((store : Store) → OthersStay mid store → P store → Q store) →
    IfOk result (λ u. IsPending (OthersStay mid) new) × Becomes P new result → Becomes Q new result
becomes_both mid new (Err stop) on (stay, has) = has
becomes_both mid new (Ok u) on (stay, has) =
    let one : stay.store ≡ has.store = let other = has.is in let is = stay.is in cc in
    record {
      store = has.store;
      is = has.is;
      has = on has.store (subst (OthersStay mid) one stay.has) has.has;
    }
