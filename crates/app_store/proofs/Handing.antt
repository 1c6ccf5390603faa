-- Which writes are handed a row that is not in its form, and what they tell of it.
use Rattle.std.proofs.Common.{◌≡◌, ℕ, true, false, List, Option, Some, None, Result, Ok, Err, refl, sym, ap}
use Rattle.std.proofs.Common.{subst, ◌∙◌, inl, inr, arith}
use Rattle.std.proofs.lemmas.Bool.{false≢true}
use Rattle.std.specs.FinMap.{get}
use Rattle.slon_base.specs.Codec.{number_bytes}
use Rattle.slon_base.specs.Keeper.{Store}
use Rattle.slon_base.specs.declared.fault.Halt.{Halt as HaltOf}
use Rattle.slon_base.specs.declared.fault.Halt.TheVariants.{Fault, NoMemory as HaltNoMemory, BadRow as HaltBadRow}
use Rattle.slon_base.proofs.Spelled.{number_bytes-same}
use Rattle.store_rows.specs.declared.stop.Stop.{Stop}
use Rattle.store_rows.specs.declared.stop.Stop.TheVariants.{Failed, NoMemory, BadRow, TooBig}
use Rattle.slon_model.specs.declared.fault.DbFault.{DbFault}
use Rattle.slon_model.specs.Rows.{change_key}
use Rattle.slon_model.specs.Tasks.{Write}
use Rattle.slon_model.specs.World.{halt_in}
use Rattle.txn_core.specs.Locks.{holder_of, without}
use Rattle.app_store.specs.Base.{Memory, Base}
use Rattle.app_store.specs.Formed.{IsNumber, AreValues, StopsAt, columns_at}
use Rattle.node_state.specs.Handed.{HandedSet, IsOpenTo}
use Rattle.app_store.specs.Handed.{HasWidth, HandedRow, HandedSetOf, HandedWrite, Tells, Nothing, reads_values}
use Rattle.app_store.specs.Handed.{fits_stored, is_told, seen_at, Same, ReadsOpen}
use Rattle.app_store.specs.Parts.{halt_of}
use Rattle.app_store.specs.Spelled.{rows, row_key, over}
use Rattle.app_store.specs.Written.{written_at, AreWritten}
use Rattle.app_store.proofs.MetaNumbers.{some_same}

-- the stop of a part is told
pub tells_stop : (few many : ℕ → Type 0) (stop : Stop) (fault : DbFault) (count : ℕ) → fault ≡ halt_of stop count →
    ((space : ℕ) → few space → many space) → StopsAt few stop → Tells many (halt_in fault)
tells_stop few many stop fault count is on stops = subst (λ f. Tells many (halt_in f)) (sym is) (of stop stops)
  where
    of : (stop : Stop) → StopsAt few stop → Tells many (halt_in (halt_of stop count))
    of Failed stops = tt
    of NoMemory stops = tt
    of (BadRow space) stops = on space stops
    of (TooBig space) stops = absurd stops

-- the same is handed
pub tells_as : (few many : ℕ → Type 0) (halt : Option HaltOf) → ((space : ℕ) → few space → many space) →
    ((space : ℕ) → many space → few space) → Tells few halt → Tells many halt
tells_as few many (Some (HaltBadRow space)) on back tells = on space tells
tells_as few many (Some (Fault count)) on back tells = tt
tells_as few many (Some HaltNoMemory) on back tells = tt
tells_as few many others on back tells = λ space handed. tells space (back space handed)

-- no row is read, and none is handed
pub tells_none : (handed : ℕ → Type 0) (halt : Option HaltOf) → ((space : ℕ) → handed space → ⊥) → Tells Nothing halt →
    Tells handed halt
tells_none handed halt none = tells_as Nothing handed halt (λ space nothing. absurd nothing) none

-- a database that acts on a task
pub tells_acting : (acts : Type 0) (handed : ℕ → Type 0) (halt : Option HaltOf) → acts → Tells handed halt →
    Tells (λ space. acts × handed space) halt
tells_acting acts handed halt does =
    tells_as handed (λ space. acts × handed space) halt (λ space is. (does, is)) (λ space is. is.1)

-- ---- the width of a table

pub width_formed : {name table : List ℕ} {xid width : ℕ} {memory : Memory} {m : Store} →
    HasWidth name table xid width memory m → IsNumber (columns_at table m)
width_formed {width = width} wide = record { number = Some width; small = wide.small; spelled = wide.width_is }

same_width : (name table : List ℕ) (m : Store) {xid width xid2 width2 : ℕ} {memory memory2 : Memory} →
    HasWidth name table xid width memory m → HasWidth name table xid2 width2 memory2 m → width ≡ width2
same_width name table m {xid} {width} {xid2} {width2} one two =
    number_bytes-same width width2 (omega (arith, one.small)) (omega (arith, two.small))
    (some_same (number_bytes width) (number_bytes width2) (sym one.width_is ∙ two.width_is))

-- the set of a table is not read where the columns do not fit, or where it was read in its form
pub unfit_handed : (w : Write) (memory : Memory) (m : Store) {xid width : ℕ} →
    HasWidth w.name w.table xid width memory m → fits_stored w.change width ≡ false → (space : ℕ) →
    HandedSetOf w memory m space → ⊥
unfit_handed w memory m wide unfit space set =
    false≢true (sym unfit ∙ ap (fits_stored w.change) (same_width w.name w.table m wide set.wide) ∙ set.fit)

-- a write that reads no values is handed nothing once its width was found, and its set
pub width_handed : (w : Write) (memory : Memory) (m : Store) {xid width : ℕ} →
    HasWidth w.name w.table xid width memory m → ((space : ℕ) → HandedSetOf w memory m space → ⊥) →
    reads_values w.change width ≡ false → (space : ℕ) → HandedWrite w memory m space → ⊥
width_handed w memory m wide none reads space (inl (t, opened, lacks)) = lacks.1 (width_formed wide)
width_handed w memory m wide none reads space (inr (inl set)) = none space set
width_handed w memory m wide none reads space (inr (inr (is, row))) =
    false≢true (sym reads ∙ ap (reads_values w.change) (same_width w.name w.table m wide row.wide) ∙ row.reads)

-- one that reads them is handed what its row is
pub row_handed : (w : Write) (memory : Memory) (m : Store) (halt : Option HaltOf) {xid width : ℕ} →
    HasWidth w.name w.table xid width memory m → ((space : ℕ) → HandedSetOf w memory m space → ⊥) →
    Tells (λ space. (space ≡ rows) × HandedRow w memory m) halt → Tells (HandedWrite w memory m) halt
row_handed w memory m halt wide none = tells_as (λ space. (space ≡ rows) × HandedRow w memory m)
    (HandedWrite w memory m) halt (λ space row. inr (inr row)) back
  where
    back : (space : ℕ) → HandedWrite w memory m space → (space ≡ rows) × HandedRow w memory m
    back space (inl (t, opened, lacks)) = absurd (lacks.1 (width_formed wide))
    back space (inr (inl set)) = absurd (none space set)
    back space (inr (inr row)) = row

-- one whose table may not be written is handed what its set is
pub set_handed : (w : Write) (memory : Memory) (m : Store) (halt : Option HaltOf) {xid width : ℕ} →
    HasWidth w.name w.table xid width memory m → fits_stored w.change width ≡ true →
    Tells (HandedSet memory.members w.table m) halt × (IsOpenTo memory.members w.table m → is_told halt ≡ true) →
    Tells (HandedWrite w memory m) halt
set_handed w memory m (Some (HaltBadRow space)) wide fit tells =
    inr (inl (record { xid = _; width = _; wide = wide; fit = fit; set = tells.0 }))
set_handed w memory m (Some (Fault count)) wide fit tells = tt
set_handed w memory m (Some HaltNoMemory) wide fit tells = tt
set_handed w memory m others wide fit tells = none
  where
    none : (space : ℕ) → HandedWrite w memory m space → ⊥
    none space (inl (t, opened, lacks)) = lacks.1 (width_formed wide)
    none space (inr (inl set)) = tells.0 space set.set
    none space (inr (inr row)) = false≢true (tells.1 row.1.allowed)

-- the check of a table after its width was found
pub checked : (table : List ℕ) {old mid : Base} (new : Base) (m : Store) (result : Result (Unit {0}) DbFault) →
    Same old mid → ReadsOpen table mid m result new → ReadsOpen table old m result new
checked table new m (Ok u) same reads =
    let path = ap (λ k. k.members) same.memory in (
      subst (λ ms. IsOpenTo ms table m) path reads.0,
      λ space set. reads.1 space (subst (λ ms. HandedSet ms table m space) (sym path) set),
      record { memory = reads.2.memory ∙ same.memory; held = reads.2.held ∙ same.held },
    )
checked table new m (Err fault) same reads =
    subst (λ ms. Tells (HandedSet ms table m) (halt_in fault) × (IsOpenTo ms table m → is_told (halt_in fault) ≡ true))
    (ap (λ k. k.members) same.memory) reads

-- ---- the values of a row

-- what a transaction sees of a row that it did not write is what stands
standing_seen : (name key : List ℕ) (memory : Memory) (m : Store) →
    written_at key (get memory.opens name) ≡ None → seen_at name key memory m ≡ get (m rows) key
standing_seen name key memory m none = ap (λ w. over w (get (m rows) key)) none

-- nothing is handed where the values that are seen are in their form
pub values_formed : (w : Write) (memory : Memory) (m : Store) (seen : Option (List ℕ)) →
    seen ≡ seen_at w.name (row_key w.table (change_key w.change)) memory m → ((AreValues seen → ⊥) → ⊥) →
    (space : ℕ) → (space ≡ rows) × HandedRow w memory m → ⊥
values_formed w memory m seen is formed space (same, row) =
    formed (λ are. row.misspelled (subst AreValues
    (is ∙ standing_seen w.name (row_key w.table (change_key w.change)) memory m row.unwritten) are))

-- a write that reads the values of its row, which is free
pub record ReadsRow (w : Write) (memory : Memory) (m : Store) : Type 0 where
  pub xid : ℕ
  pub width : ℕ
  pub wide : HasWidth w.name w.table xid width memory m
  pub reads : reads_values w.change width ≡ true
  pub allowed : IsOpenTo memory.members w.table m
  pub free : without xid (holder_of w.table (change_key w.change) memory.locks) ≡ None

-- what the transaction wrote is in its form, so what is not was handed by the store
pub values_handed : (w : Write) (memory : Memory) (m : Store) (seen : List ℕ) → ReadsRow w memory m →
    Some seen ≡ seen_at w.name (row_key w.table (change_key w.change)) memory m → AreWritten memory.opens →
    (AreValues (Some seen) → ⊥) → HandedRow w memory m
values_handed w memory m seen row is written not_formed =
    let key = row_key w.table (change_key w.change) in
    let none = unwritten (written_at key (get memory.opens w.name)) refl in
    record {
      xid = row.xid;
      width = row.width;
      wide = row.wide;
      reads = row.reads;
      allowed = row.allowed;
      free = row.free;
      unwritten = none;
      misspelled = λ are. not_formed (subst AreValues (sym (is ∙ standing_seen w.name key memory m none)) are);
    }
  where
    unwritten : (o : Option (Option (List ℕ))) →
        written_at (row_key w.table (change_key w.change)) (get memory.opens w.name) ≡ o →
        written_at (row_key w.table (change_key w.change)) (get memory.opens w.name) ≡ None
    unwritten None at = at
    unwritten (Some wrote) at =
        let key = row_key w.table (change_key w.change) in
        let same : Some seen ≡ wrote = is ∙ ap (λ o. over o (get (m rows) key)) at in
        absurd ((written w.name row.wide.transaction row.wide.opened).0 key wrote
        (sym (ap (written_at key) row.wide.opened) ∙ at) (λ are. not_formed (subst AreValues (sym same) are)))
