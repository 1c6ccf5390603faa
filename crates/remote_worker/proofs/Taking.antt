-- What a node takes with a SYNC, from what it reads of the sets that it keeps and from what a provider has logged.
use Rattle.std.proofs.Common.{◌≡◌, ◌∙◌, ◌++◌, ℕ, Bool, true, false, cond, List, [], ◌∷◌, map, filter, Option, Some}
use Rattle.std.proofs.Common.{None, refl, sym, ap}
use Rattle.std.specs.Prelude.{◌==◌, ◌&&◌, if◌then◌else◌, option_map, unwrap_or}
use Rattle.std.proofs.lemmas.List.{append_assoc, map-append}
use Rattle.node_rows.specs.declared.rows.SetRow.{SetRow}
use Rattle.node_rows.specs.declared.rows.Subscription.{Subscription}
use Rattle.node_rows.specs.declared.rows.TableRow.{TableRow}
use Rattle.slon_model.specs.Config.{Config, is_origin, leads_row, live_set, tables_of}
use Rattle.slon_model.specs.Events.{Event}
use Rattle.slon_model.specs.Deeds.{Knowledge, Logged}
use Rattle.slon_model.specs.Following as rules
use Rattle.slon_model.specs.Snapshots.{Snapshot, covers}
use Rattle.slon_model.specs.Views.{View, Views, later_of}
use Rattle.event_store.specs.Spellings.{CanSnapshot}
use Rattle.remote_worker.specs.declared.keeping.KeptSet.{KeptSet}
use Rattle.remote_worker.specs.Keeping.{forwards_in, kept_among, kept_for, leads_in, names_to, provider_in}
use Rattle.remote_worker.specs.Keeping.{seen_kept, tables_among, taken_of}
use Rattle.remote_worker.proofs.Naming.{names_in}

-- ---- one set

-- the raw row of a set says who leads it
pub leads_same : (own : ℕ) (row : Option SetRow) → leads_in own row ≡ leads_row own (live_set row)
leads_same own None = refl
leads_same own (Some row) = by row.live refl
  where
    by : (b : Bool) → row.live ≡ b → (row.live && row.origin == own) ≡ leads_row own (live_set (Some row))
    by true is = ap (λ b. b && row.origin == own) is ∙ sym (ap (λ b. leads_row own (cond b (Some row) None)) is)
    by false is = ap (λ b. b && row.origin == own) is ∙ sym (ap (λ b. leads_row own (cond b (Some row) None)) is)

pub takes_all : (own set : ℕ) (c : Config) (b : Bool) → b ≡ false → b ≡ is_origin own set c →
    tables_among set c.tables ≡ rules.tables_taken own set c
takes_all own set c b leads is =
    ap (λ x. cond x [] (map (λ e. (e.0, e.1.name)) (tables_of set c))) (sym leads ∙ is)

-- the names of these tables
abbrev names_by : Bool → ℕ → Config → List (List ℕ)
names_by own set c = map (λ (t : ℕ × List ℕ). t.1) (cond own [] (map (λ e. (e.0, e.1.name)) (tables_of set c)))

pub own_names_none : (own set : ℕ) (c : Config) (b : Bool) → b ≡ true → b ≡ is_origin own set c →
    [] ≡ names_to own set c
own_names_none own set c b leads is = ap (λ x. names_by x set c) (sym leads ∙ is)

names_mapped : (rows : List (ℕ × TableRow)) →
    map (λ e. e.1.name) rows ≡ map (λ (t : ℕ × List ℕ). t.1) (map (λ e. (e.0, e.1.name)) rows)
names_mapped [] = refl
names_mapped (r ∷ rs) = ap (λ ns. r.1.name ∷ ns) (names_mapped rs)

pub names_all : (own set : ℕ) (c : Config) (b : Bool) → b ≡ false → b ≡ is_origin own set c →
    names_in set c.tables ≡ names_to own set c
names_all own set c b leads is = names_mapped (tables_of set c) ∙ ap (λ x. names_by x set c) (sym leads ∙ is)

-- the row of a subscription, as the code and the rules read it
pub provider_same : (row : Option Subscription) (origin : ℕ) →
    provider_in row origin ≡ unwrap_or (option_map (λ r. r.provider) row) origin
provider_same None origin = refl
provider_same (Some row) origin = refl

pub forwards_same : (row : Option Subscription) →
    forwards_in row ≡ unwrap_or (option_map (λ r. r.forward) row) false
forwards_same None = refl
forwards_same (Some row) = refl

-- the later one of two snapshots can be stored if both can
pub later_can : (a b : Snapshot) → CanSnapshot a × CanSnapshot b → CanSnapshot (later_of a b)
later_can a b can =
    elim (covers a b) as (λ t. CanSnapshot (if t then a else b)) [
      | true ↦ can.0
      | false ↦ can.1
    ]

-- ---- all that a node keeps

-- what it takes of one, and from which node
pub sync_same : (own : ℕ) (k : Knowledge) (e : Event) (logs : List Logged) (v : ℕ × View) →
    taken_of e logs (kept_for own k.config e v) ≡ rules.set_sync own k e logs v
sync_same own k e logs v = refl

-- a set of the origin is one more that the node keeps, and one of another origin none
pub kept_next : (own : ℕ) (c : Config) (e : Event) (v : ℕ × View) (vs : Views) → (v.1.origin == e.origin) ≡ true →
    kept_among own c e (v ∷ vs) ≡ kept_for own c e v ∷ kept_among own c e vs
kept_next own c e v vs same =
    ap (λ b. map (kept_for own c e)
    (cond b (v ∷ filter (λ x. x.1.origin == e.origin) vs) (filter (λ x. x.1.origin == e.origin) vs))) same

-- What was read so far of the sets that a node keeps, with the next one.
pub record IsNext (own : ℕ) (c : Config) (e : Event) (all : Views) (v : ℕ × View) (vs : Views) (k : KeptSet) : Type 0
  where
    pub same : (v.1.origin == e.origin) ≡ true
    pub is : seen_kept k ≡ kept_for own c e v

pub kept_pushed : {own : ℕ} {c : Config} {e : Event} {all : Views} {v : ℕ × View} {vs : Views} {k : KeptSet}
    (sets : List KeptSet) → IsNext own c e all v vs k →
    map seen_kept sets ++ kept_among own c e (v ∷ vs) ≡ kept_among own c e all →
    map seen_kept (sets ++ k ∷ []) ++ kept_among own c e vs ≡ kept_among own c e all
kept_pushed {own} {c} {e} {v = v} {vs} {k} sets n so =
    ap (λ ks. ks ++ kept_among own c e vs) (map-append seen_kept sets (k ∷ []))
    ∙ append_assoc (map seen_kept sets) (seen_kept k ∷ []) (kept_among own c e vs)
    ∙ ap (λ x. map seen_kept sets ++ x ∷ kept_among own c e vs) n.is
    ∙ ap (λ ks. map seen_kept sets ++ ks) (sym (kept_next own c e v vs n.same)) ∙ so
