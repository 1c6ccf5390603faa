-- What a new node is given of the confirmations.
use Rattle.std.proofs.Common.{◌≡◌, ◌⊎◌, inl, inr, ℕ, Bool, true, false, cond, List, [], ◌∷◌, map, filter, Option, Some}
use Rattle.std.proofs.Common.{None, refl, sym, ap, subst, ◌∙◌, eq-eqb, unwrap_or}
use Rattle.std.specs.Prelude.{◌==◌, ◌||◌, not}
use Rattle.std.proofs.lemmas.Bool.{false≢true}
use borrow.Author.Tests.{eqb-true}
use Rattle.slon_base.specs.Codec.{AllAre}
use Rattle.slon_base.specs.Keeper.{Space}
use Rattle.store_rows.specs.Rows.{IsId}
use Rattle.store_rows.specs.Space.{AllOf}
use Rattle.slon_model.specs.Maps.{Map, Map2, entry_at, row_at, pair_at, with_entry, with_pair}
use Rattle.slon_model.specs.Deeds.{told_to, told_progress}
use Rattle.set_config.specs.Holds.{AreIds}
use Rattle.set_config.proofs.Entries.{alters_pair, entry-with}
use Rattle.event_store.specs.Streams.{Streams, confirmed_at, given}
use Rattle.event_store.specs.Spellings.{IsStored}
use Rattle.event_store.specs.Giving.{Confirmation, IsConfirmation, Turn, HearsOfOthers, forgets, passes}
use Rattle.event_store.proofs.Holding.{own_progress}
use Rattle.event_store.proofs.Listed.{Confirmed, Listed, IsIn, are_map}
use Rattle.event_store.proofs.Turning.{all_entries, CanTurn, TurnsTo, IsTurned, HasTurn, settled}

-- ---- what the rules give

-- entries of ids that fail a test
entry-filtered : {X : Type 0} (p : ℕ → Bool) (q : ℕ) (es : Map X) →
    entry_at q (filter (λ c. not (p c.0)) es) ≡ cond (p q) None (entry_at q es)
entry-filtered {X} p q [] = none (p q)
  where
    none : (b : Bool) → entry_at {X = X} q [] ≡ cond b None (entry_at q [])
    none true = refl
    none false = refl
entry-filtered p q (e ∷ es) = of (p e.0) (q == e.0) refl refl (entry-filtered p q es)
  where
    of : (out same : Bool) → p e.0 ≡ out → (q == e.0) ≡ same →
        entry_at q (filter (λ c. not (p c.0)) es) ≡ cond (p q) None (entry_at q es) →
        entry_at q (cond (not out) (e ∷ filter (λ c. not (p c.0)) es) (filter (λ c. not (p c.0)) es))
        ≡ cond (p q) None (cond same (Some e.1) (entry_at q es))
    of true true out same rest =
        let passed : p q ≡ true = ap p (eqb-true q e.0 same) ∙ out in
        rest ∙ ap (λ b. cond b None (entry_at q es)) passed ∙ sym (ap (λ b. cond b None (Some e.1)) passed)
    of true false out same rest = rest
    of false true out same rest =
        let failed : p q ≡ false = ap p (eqb-true q e.0 same) ∙ out in
        ap (λ b. cond b (Some e.1) (entry_at q (filter (λ c. not (p c.0)) es))) same
        ∙ sym (ap (λ b. cond b None (Some e.1)) failed)
    of false false out same rest =
        ap (λ b. cond b (Some e.1) (entry_at q (filter (λ c. not (p c.0)) es))) same ∙ rest

-- which confirmations of a stream are not handed on
abbrev pub is_out : ℕ → ℕ → ℕ → Bool
is_out new origin node = node == new || node == origin

row_told : (new origin : ℕ) (t : Map2 ℕ) →
    row_at origin (map (told_to new) t) ≡ filter (λ c. not (is_out new origin c.0)) (row_at origin t)
row_told new origin [] = refl
row_told new origin (e ∷ es) =
    elim (origin == e.0) as (λ b. (origin == e.0) ≡ b →
    unwrap_or (cond b (Some (filter (λ c. not (is_out new e.0 c.0)) e.1)) (entry_at origin (map (told_to new) es))) []
    ≡ filter (λ c. not (is_out new origin c.0)) (unwrap_or (cond b (Some e.1) (entry_at origin es)) [])) [
      | true ↦ λ is. ap (λ o. filter (λ c. not (is_out new o c.0)) e.1) (sym (eqb-true origin e.0 is))
      | false ↦ λ is. row_told new origin es
    ] refl

pub pair_told : (new : ℕ) (j : ℕ × ℕ) (t : Map2 ℕ) →
    pair_at j.0 j.1 (map (told_to new) t) ≡ cond (is_out new j.0 j.1) None (pair_at j.0 j.1 t)
pair_told new j t =
    ap (entry_at j.1) (row_told new j.0 t) ∙ entry-filtered (λ node. is_out new j.0 node) j.1 (row_at j.0 t)

-- the pair of a map of maps with one more
pair-other : (j i : ℕ × ℕ) (n : ℕ) (t : Map2 ℕ) → AreIds j → (j ≡ i → ⊥) →
    pair_at j.0 j.1 (with_pair i.0 i.1 n t) ≡ pair_at j.0 j.1 t
pair-other j i n t ids differ =
    (alters_pair i (Some n) (with_entry i.1 n (row_at i.0 t)) t (λ q. entry-with q i.1 n (row_at i.0 t))).there j ids
    differ

pair-here : (i : ℕ × ℕ) (n : ℕ) (t : Map2 ℕ) → pair_at i.0 i.1 (with_pair i.0 i.1 n t) ≡ Some n
pair-here i n t =
    (alters_pair i (Some n) (with_entry i.1 n (row_at i.0 t)) t (λ q. entry-with q i.1 n (row_at i.0 t))).here

-- of the node of the store it is how far that is, of the others what it was told
others_told : (own : ℕ) (j : ℕ × ℕ) (ps : Map ℕ) (t : Map2 ℕ) → AreIds j → (j.1 ≡ own → ⊥) →
    pair_at j.0 j.1 (told_progress own ps t) ≡ pair_at j.0 j.1 t
others_told own j [] t ids differ = refl
others_told own j (p ∷ ps) t ids differ =
    pair-other j (p.0, own) p.1 (told_progress own ps t) ids (λ same. differ (ap (λ k. k.1) same))
    ∙ others_told own j ps t ids differ

own_told : (own origin : ℕ) (ps : Map ℕ) (t : Map2 ℕ) → AreIds (origin, own) → pair_at origin own t ≡ None →
    pair_at origin own (told_progress own ps t) ≡ entry_at origin ps
own_told own origin [] t ids none = none
own_told own origin (p ∷ ps) t ids none =
    elim (origin == p.0) as (λ b. (origin == p.0) ≡ b →
    pair_at origin own (with_pair p.0 own p.1 (told_progress own ps t)) ≡ cond b (Some p.1) (entry_at origin ps)) [
      | true ↦ λ is. subst (λ o. pair_at o own (with_pair p.0 own p.1 (told_progress own ps t)) ≡ Some p.1)
          (sym (eqb-true origin p.0 is)) (pair-here (p.0, own) p.1 (told_progress own ps t))
      | false ↦ λ is. pair-other (origin, own) (p.0, own) p.1 (told_progress own ps t) ids
          (λ same. false≢true (sym is ∙ eq-eqb origin p.0 (ap (λ k. k.0) same)))
          ∙ own_told own origin ps t ids none
    ] refl

pub all_told : (s : Streams) (j : ℕ × ℕ) → AreIds j → HearsOfOthers s →
    pair_at j.0 j.1 (told_progress s.own s.progress s.told) ≡ confirmed_at s j
all_told s j ids hears =
    elim (j.1 == s.own) as (λ b. (j.1 == s.own) ≡ b →
    pair_at j.0 j.1 (told_progress s.own s.progress s.told)
    ≡ cond b (entry_at j.0 s.progress) (pair_at j.0 j.1 s.told)) [
      | true ↦ λ is.
          let same = eqb-true j.1 s.own is in
          ap (λ node. pair_at j.0 node (told_progress s.own s.progress s.told)) same
          ∙ own_told s.own j.0 s.progress s.told (ids.0, subst IsId same ids.1) (hears j.0)
      | false ↦ λ is. others_told s.own j s.progress s.told ids
          (λ same. false≢true (sym is ∙ eq-eqb j.1 s.own same))
    ] refl

-- ---- what the rows become

-- a row that turns it is among them
has_turn : (turn : Confirmation → Turn) (j : ℕ × ℕ) (r : Confirmation) (rows : List Confirmation) →
    IsTurned j (turn r) → IsIn r rows → HasTurn turn j rows
has_turn turn j r [] here is = absurd is
has_turn turn j r (d ∷ ds) here (inl same) = inl (subst (λ e. IsTurned j (turn e)) same here)
has_turn turn j r (d ∷ ds) here (inr later) = inr (has_turn turn j r ds here later)

-- a turn that comes only where a test passes
turns_by : (b : Bool) (j : ℕ × ℕ) (now : Option ℕ) (t : (ℕ × ℕ) × Option ℕ) → (b ≡ true → j ≡ t.0 → t.1 ≡ now) →
    TurnsTo j now (cond b (Some t) None)
turns_by true j now t to = to refl
turns_by false j now t to = tt

turned_by : (b : Bool) (j : ℕ × ℕ) (t : (ℕ × ℕ) × Option ℕ) → b ≡ true → j ≡ t.0 → IsTurned j (cond b (Some t) None)
turned_by true j t is same = same
turned_by false j t is same = absurd (false≢true is)

-- what rows turn can be spelled
can_by : (b : Bool) (t : (ℕ × ℕ) × Option ℕ) → AreIds t.0 × AllOf IsStored t.1 → CanTurn (cond b (Some t) None)
can_by true t can = can
can_by false t can = tt

pub forgets_can : (new : ℕ) (rows : List Confirmation) → AllAre IsConfirmation rows →
    AllAre (λ r. CanTurn (forgets new r)) rows
forgets_can new rows all = are_map rows (λ r can. can_by (is_out new r.0.0 r.0.1) (r.0, None) (can.0, tt)) all

pub passes_can : (own new : ℕ) (rows : List Confirmation) → IsId new → AllAre IsConfirmation rows →
    AllAre (λ r. CanTurn (passes own new r)) rows
passes_can own new rows one all =
    are_map rows (λ r can. can_by (r.0.1 == own) ((r.0.0, new), Some r.1) ((can.0.0, one), can.1)) all

-- The confirmations of a node whose space has these rows.
pub record Copied (s : Streams) (space : Space) : Type 0 where
  pub id : IsId s.own
  pub hears : HearsOfOthers s
  pub list : Listed (confirmed_at s) space

-- what is left once those by the node itself and by the new one are forgotten
abbrev left_at : ℕ → Streams → ℕ × ℕ → Option ℕ
left_at new s j = cond (is_out new j.0 j.1) None (confirmed_at s j)

forgot : {s : Streams} {space : Space} (new : ℕ) (c : Copied s space) (j : ℕ × ℕ) → AreIds j →
    all_entries (forgets new) c.list.rows (confirmed_at s) j ≡ left_at new s j
forgot {s} new c j ids =
    settled (forgets new) c.list.rows (confirmed_at s) j (left_at new s j)
    (are_map c.list.rows (λ r can. turns_by (is_out new r.0.0 r.0.1) j (left_at new s j) (r.0, None)
    (λ out same. sym (ap (λ b. cond b None (confirmed_at s j))
    (ap (λ k. is_out new k.0 k.1) same ∙ out)))) c.list.can)
    (of (is_out new j.0 j.1) refl (confirmed_at s j) refl)
  where
    of : (b : Bool) → is_out new j.0 j.1 ≡ b → (o : Option ℕ) → confirmed_at s j ≡ o →
        (confirmed_at s j ≡ left_at new s j) ⊎ HasTurn (forgets new) j c.list.rows
    of false out o at = inl (sym (ap (λ b. cond b None (confirmed_at s j)) out))
    of true out None at = inl (at ∙ sym (ap (λ b. cond b None (confirmed_at s j)) out))
    of true out (Some n) at = inr (has_turn (forgets new) j (j, n) c.list.rows
        (turned_by (is_out new j.0 j.1) j (j, None) out refl) (c.list.all j ids n at))

-- where the new node's own is, it is as far as the node of the store
passed_here : {s : Streams} {space : Space} (new : ℕ) (c : Copied s space) (entry : Confirmed) (j : ℕ × ℕ) →
    AreIds j → (j.1 == new) ≡ true → entry j ≡ left_at new s j →
    all_entries (passes s.own new) c.list.rows entry j ≡ entry_at j.0 s.progress
passed_here {s} new c entry j ids is left =
    settled (passes s.own new) c.list.rows entry j (entry_at j.0 s.progress)
    (are_map c.list.rows (λ r stands. turns_by (r.0.1 == s.own) j (entry_at j.0 s.progress)
    ((r.0.0, new), Some r.1) (λ own same. sym stands
    ∙ ap (λ b. cond b (entry_at r.0.0 s.progress) (pair_at r.0.0 r.0.1 s.told)) own
    ∙ ap (λ k. entry_at k.0 s.progress) (sym same))) c.list.stand)
    (of (entry_at j.0 s.progress) refl)
  where
    of : (o : Option ℕ) → entry_at j.0 s.progress ≡ o →
        (entry j ≡ entry_at j.0 s.progress) ⊎ HasTurn (passes s.own new) j c.list.rows
    of None at = inl (left ∙ ap (λ b. cond (b || j.1 == j.0) None (confirmed_at s j)) is ∙ sym at)
    of (Some n) at =
        let node = eqb-true j.1 new is in
        inr (has_turn (passes s.own new) j ((j.0, s.own), n) c.list.rows
        (turned_by (s.own == s.own) j ((j.0, new), Some n) (eq-eqb s.own s.own refl) (λ k. (j.0, node k)))
        (c.list.all (j.0, s.own) (ids.0, c.id) n (own_progress s s.own j.0 refl ∙ at)))

passed_there : {s : Streams} {space : Space} (new : ℕ) (c : Copied s space) (entry : Confirmed) (j : ℕ × ℕ) →
    (j.1 == new) ≡ false → all_entries (passes s.own new) c.list.rows entry j ≡ entry j
passed_there {s} new c entry j is =
    settled (passes s.own new) c.list.rows entry j (entry j)
    (are_map c.list.rows (λ r can. turns_by (r.0.1 == s.own) j (entry j) ((r.0.0, new), Some r.1)
    (λ own same. absurd (false≢true (sym is ∙ eq-eqb j.1 new (ap (λ k. k.1) same))))) c.list.can)
    (inl refl)

-- what is given to the new node
pub given_at : {s : Streams} {space : Space} (new : ℕ) (c : Copied s space) (j : ℕ × ℕ) → AreIds j →
    confirmed_at (given new s) j
    ≡ all_entries (passes s.own new) c.list.rows (all_entries (forgets new) c.list.rows (confirmed_at s)) j
given_at {s} new c j ids =
    let entry = all_entries (forgets new) c.list.rows (confirmed_at s) in
    let told = told_progress s.own s.progress s.told in
    let left = forgot new c j ids in
    sym (elim (j.1 == new) as (λ b. (j.1 == new) ≡ b → all_entries (passes s.own new) c.list.rows entry j
    ≡ cond b (entry_at j.0 s.progress) (pair_at j.0 j.1 (map (told_to new) told))) [
      | true ↦ λ is. passed_here new c entry j ids is left
      | false ↦ λ is. passed_there new c entry j is ∙ left
          ∙ ap (λ o. cond (is_out new j.0 j.1) None o) (sym (all_told s j ids c.hears)) ∙ sym (pair_told new j told)
    ] refl)
