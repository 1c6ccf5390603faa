-- How far a node is in the stream of each live node.
use Rattle.std.proofs.Common.{◌≡◌, ℕ, zero, suc, Bool, true, false, cond, List, [], ◌∷◌, drop, map, filter}
use Rattle.std.proofs.Common.{Option, refl, sym, ap, subst, ◌∙◌, inl, inr, ◌+◌, ◌<◌, ◌≤◌, ◌++◌, length, get_or}
use Rattle.std.proofs.Common.{unwrap_or, append_assoc}
use Rattle.std.proofs.lemmas.List.{drop_more, drop_all}
use Rattle.std.specs.Prelude.{◌==◌, Result}
use Rattle.std.specs.Option.{option_map}
use Rattle.std.specs.FinMap.{get}
use Rattle.slon_base.specs.Keeper.{Store}
use Rattle.store_rows.specs.Rows.{IsId}
use Rattle.store_rows.specs.Space.{AllOf}
use Rattle.store_rows.specs.declared.stop.Stop.{Stop}
use Rattle.node_rows.specs.declared.rows.NodeRow.{NodeRow}
use Rattle.node_rows.specs.Spellings.{node_bytes, CanNode}
use Rattle.slon_base.specs.Codec.{number_bytes, AllAre}
use Rattle.slon_model.specs.Maps.{Map, entry_at, number_at, ids, pair_at}
use Rattle.slon_model.specs.Config.{is_live_row}
use Rattle.slon_model.specs.Deeds.{Node, knowledge}
use Rattle.slon_model.specs.Place.{progress_of}
use Rattle.event_store.specs.Spellings.{IsStored}
use Rattle.event_store.specs.Streams.{streams_of, confirmed_at}
use Rattle.event_store.specs.Formed.{Lacks, Reads}
use Rattle.node_state.specs.Handed.{AreRowsOf, AreViews, IsLogByte, IsLiveIn, HasCount, HandedCounts, HandedProgress}
use Rattle.node_state.specs.Handed.{HandedStatus}
use Rattle.node_state.specs.Held.{NodeHeld}
use Rattle.node_state.specs.Progress.{counted, AreCounts}
use Rattle.node_state.proofs.Formed.{reads_as}
use Rattle.node_state.proofs.Listing.{AreAt, all_at, self_eq}

-- ---- the rows of live nodes

-- one of the later rows is one of them
pub live_later : (n : ℕ) (es : List (ℕ × NodeRow)) (node : ℕ) → IsLiveIn (drop n es) node → IsLiveIn es node
live_later zero es node live = live
live_later (suc n) [] node live = live
live_later (suc n) (e ∷ es) node live = inr (live_later n es node live)

-- a row at a place of a list
pub record IsPlaced (es : List (ℕ × NodeRow)) (i : ℕ) (e : ℕ × NodeRow) : Type 0 where
  pub below : i < length es
  pub is : e ≡ get_or es i e

rest_is : {es : List (ℕ × NodeRow)} {i : ℕ} {e : ℕ × NodeRow} → IsPlaced es i e → drop i es ≡ e ∷ drop (i + 1) es
rest_is {es} {i} {e} at = drop_more es i e at.below ∙ ap (λ x. x ∷ drop (i + 1) es) (sym at.is)

-- a live row is that of a live node
pub live_at : (es : List (ℕ × NodeRow)) (i : ℕ) (e : ℕ × NodeRow) → IsPlaced es i e → e.1.live ≡ true →
    IsLiveIn es e.0
live_at es i e at live =
    live_later i es e.0 (subst (λ rest. IsLiveIn rest e.0) (sym (rest_is at)) (inl (refl, live)))

-- ---- what is read so far

-- a row that is past
pub ids_past : (es : List (ℕ × NodeRow)) (i : ℕ) (e : ℕ × NodeRow) → IsPlaced es i e →
    AllAre (λ x. IsId x.0) (drop i es) → IsId e.0 × AllAre (λ x. IsId x.0) (drop (i + 1) es)
ids_past es i e at ids = subst (λ rest. AllAre (λ (x : ℕ × NodeRow). IsId x.0) rest) (rest_is at) ids

-- the count of this row stands, if the row is live
abbrev pub HasRead : ℕ → Store → ℕ × NodeRow → Type 0
HasRead own m e = e.1.live ≡ true → (space : ℕ) → Lacks 11 (HasCount own m e.0) space → ⊥

-- what is handed is not handed at a row that was read well, nor at one that is not live
pub handed_past : (own : ℕ) (m : Store) (es : List (ℕ × NodeRow)) (i : ℕ) (e : ℕ × NodeRow) →
    IsPlaced es i e × HasRead own m e → (space : ℕ) → HandedCounts own (drop i es) m space →
    HandedCounts own (drop (i + 1) es) m space
handed_past own m es i e (at, none) space (node, live, lacks) =
    by (subst (λ rest. IsLiveIn rest node) (rest_is at) live)
  where
    by : IsLiveIn (e ∷ drop (i + 1) es) node → HandedCounts own (drop (i + 1) es) m space
    by (inl (same, live)) = absurd (none live space (subst (λ n. Lacks 11 (HasCount own m n) space) same lacks))
    by (inr later) = (node, later, lacks)

pub handed_end : (own : ℕ) (m : Store) (es : List (ℕ × NodeRow)) (i : ℕ) → length es ≤ i → (space : ℕ) →
    HandedCounts own (drop i es) m space → ⊥
handed_end own m es i all space (node, live, lacks) = subst (λ rest. IsLiveIn rest node) (drop_all i es all) live

-- the counts are told as far as the rows are read
pub counted_past : (count : ℕ → Option ℕ) (es : List (ℕ × NodeRow)) (i : ℕ) (e : ℕ × NodeRow) →
    IsPlaced es i e → counted count (drop i es) ≡ counted count (e ∷ drop (i + 1) es)
counted_past count es i e at = ap (counted count) (rest_is at)

pub counted_on : (count : ℕ → Option ℕ) (es : List (ℕ × NodeRow)) (i : ℕ) (e : ℕ × NodeRow)
    (told new : List (ℕ × ℕ)) → IsPlaced es i e × (e.1.live ≡ true) →
    new ≡ told ++ (e.0, unwrap_or (count e.0) 0) ∷ [] →
    new ++ counted count (drop (i + 1) es) ≡ told ++ counted count (drop i es)
counted_on count es i e told new (at, live) is =
    ap (λ l. l ++ counted count (drop (i + 1) es)) is
    ∙ append_assoc told ((e.0, unwrap_or (count e.0) 0) ∷ []) (counted count (drop (i + 1) es))
    ∙ ap (λ b. told ++ cond b ((e.0, unwrap_or (count e.0) 0) ∷ counted count (drop (i + 1) es))
    (counted count (drop (i + 1) es))) (sym live)
    ∙ ap (λ l. told ++ l) (sym (counted_past count es i e at))

pub counted_over : (count : ℕ → Option ℕ) (es : List (ℕ × NodeRow)) (i : ℕ) (e : ℕ × NodeRow) (told : List (ℕ × ℕ)) →
    IsPlaced es i e → e.1.live ≡ false →
    told ++ counted count (drop (i + 1) es) ≡ told ++ counted count (drop i es)
counted_over count es i e told at dead =
    ap (λ b. told ++ cond b ((e.0, unwrap_or (count e.0) 0) ∷ counted count (drop (i + 1) es))
    (counted count (drop (i + 1) es))) (sym dead)
    ∙ ap (λ l. told ++ l) (sym (counted_past count es i e at))

-- the rows of the nodes were read, and then the counts
pub progress_formed : {T : Type 0} (own : ℕ) (m : Store) (rows : List (ℕ × NodeRow)) (result : Result T Stop) →
    (are : AreRowsOf node_bytes CanNode 4 m) × (are.found ≡ rows) →
    ((are : AreRowsOf node_bytes CanNode 4 m) → are.found ≡ rows) → Reads (HandedCounts own rows m) result →
    Reads (HandedProgress own m) result
progress_formed own m rows result (read, is) only reads =
    reads_as (HandedCounts own rows m) (HandedProgress own m) result
    (λ space handed. inr (read, subst (λ es. HandedCounts own es m space) (sym is) handed)) back reads
  where
    back : (space : ℕ) → HandedProgress own m space → HandedCounts own rows m space
    back space (inl lacks) = absurd (lacks.1 read)
    back space (inr (are, handed)) = subst (λ es. HandedCounts own es m space) (only are) handed

-- the status of the log was read, and then the rest
pub status_formed : (own : ℕ) (m : Store) → IsLogByte (get (m 1) (6 ∷ [])) →
    ((space : ℕ) → Lacks 9 (AreViews m) space → ⊥) → ((space : ℕ) → HandedProgress own m space → ⊥) → (space : ℕ) →
    HandedStatus own m space → ⊥
status_formed own m byte views none space (inl lacks) = lacks.1 byte
status_formed own m byte views none space (inr (is, inl lacks)) = views space lacks
status_formed own m byte views none space (inr (is, inr (are, handed))) = none space handed

-- ---- the counts of a node that is held

-- what it counts of each live node
abbrev pub counts_of : Node → ℕ → Option ℕ
counts_of n node = entry_at node (knowledge n).progress

counted_at : (m : Map ℕ) (all es : Map NodeRow) → AreAt es all →
    counted (λ x. entry_at x m) es
    ≡ map (λ x. (x, number_at x m)) (filter (λ node. is_live_row (entry_at node all)) (ids es))
counted_at m all [] at = refl
counted_at m all (e ∷ es) at =
    step e.1.live (counted_at m all es at.1)
    ∙ ap (λ b. map of (cond b (e.0 ∷ rest) rest)) (sym (ap is_live_row at.0))
  where
    of : ℕ → ℕ × ℕ
    of x = (x, number_at x m)

    rest : List ℕ
    rest = filter (λ node. is_live_row (entry_at node all)) (ids es)

    step : (b : Bool) → counted (λ x. entry_at x m) es ≡ map of rest →
        cond b ((e.0, number_at e.0 m) ∷ counted (λ x. entry_at x m) es) (counted (λ x. entry_at x m) es)
        ≡ map of (cond b (e.0 ∷ rest) rest)
    step true is = ap (λ l. (e.0, number_at e.0 m) ∷ l) is
    step false is = is

pub counted_is : (n : Node) (m : Store) → NodeHeld n m →
    counted (counts_of n) (knowledge n).config.nodes ≡ progress_of n
counted_is n m held =
    let nodes = (knowledge n).config.nodes in
    counted_at (knowledge n).progress nodes nodes (all_at nodes held.orderly.nodes.rising)

-- the store holds them
pub counts_held : (own : ℕ) (n : Node) (m : Store) → n.id ≡ own → IsId own → NodeHeld n m →
    AreCounts own (counts_of n) m
counts_held own n m is id held = record {
  small = λ node one. subst (AllOf IsStored) (mine node) (held.streams.confirmations.spelled (node, own) (one, id));
  counts = λ node one. held.streams.confirmations.lookups (node, own) (one, id)
      ∙ ap (option_map number_bytes) (mine node);
}
  where
    mine : (node : ℕ) → confirmed_at (streams_of n) (node, own) ≡ counts_of n node
    mine node =
        ap (λ b. cond b (counts_of n node) (pair_at node own (knowledge n).told))
        (ap (λ k. own == k) is ∙ self_eq own)
