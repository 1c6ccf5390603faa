-- Why a run stops, carried over the calls that it makes.
use Rattle.std.proofs.Common.{◌≡◌, ◌∙◌, ℕ, List, ◌≤◌, ◌^◌, ◌-◌, true, Option, Some, None, Result, Err, refl, sym, ap}
use Rattle.std.proofs.Common.{subst, inl, inr, arith}
use Rattle.slon_base.specs.Counts.{Rose, Within}
use Rattle.slon_base.specs.Keeper.{Kept, nothing}
use Rattle.slon_main.specs.declared.run.Stop.{Stop}
use Rattle.slon_main.specs.declared.run.Stop.TheVariants.{Read, Write, NoStore}
use Rattle.slon_base.specs.Shelf.{Shelved, IsAsPromised}
use Rattle.slon_model.specs.declared.command.Command.TheVariants.{Database}
use Rattle.slon_model.specs.declared.reply.Answer.TheVariants.{Done}
use Rattle.slon_model.specs.declared.reply.Reply.TheVariants.{Accepted}
use Rattle.cluster_engine.specs.Agreed.{Clustered}
use Rattle.cluster_engine.specs.Calls.{grant}
use Rattle.slon_main.specs.Running.{Counts, HasCause, NeverFails, Tells, NamesMade, is_no_store}

-- a count that rises after it stood still or rose has risen
pub rose_since : (old mid new : ℕ) → old ≤ mid → Rose mid new → Rose old new
rose_since old mid new later (inl less) = inl (omega (arith, later, less))
rose_since old mid new later (inr last) = inr last

-- no count fell
pub record Later (old new : Counts) : Type 0 where
  pub files : old.files ≤ new.files
  pub shelf : old.shelf ≤ new.shelf
  pub out : old.out ≤ new.out

-- a stop after a call that did not stop
pub stops_since : {T : Type 0} (result : Result T Stop) (old mid new : Counts) → Later old mid →
    HasCause mid new result → HasCause old new result
stops_since (Err Read) old mid new later cause = rose_since old.files mid.files new.files later.files cause
stops_since (Err Write) old mid new later cause = rose_since old.out mid.out new.out later.out cause
stops_since (Err (NoStore name)) old mid new later cause =
    rose_since old.shelf mid.shelf new.shelf later.shelf cause
stops_since others old mid new later cause = tt

-- the same stop, of another call
pub stops_as : (T U : Type 0) (old new : Counts) (stop : Stop) (result : Result U Stop) →
    (y : Stop) × (result ≡ Err y) × (y ≡ stop) →
    HasCause {T = T} old new (Err stop) → HasCause {T = U} old new result
stops_as T U old new stop result (y, is, same) cause =
    subst (λ r. HasCause {T = U} old new r) (sym is)
    (subst (λ s. HasCause {T = U} old new (Err s)) (sym same) (other stop cause))
  where
    other : (s : Stop) → HasCause {T = T} old new (Err s) → HasCause {T = U} old new (Err s)
    other Read c = c
    other Write c = c
    other (NoStore name) c = c
    other others c = tt

-- what holds of a stop holds of the call that hands it on
pub handed_on : {T : Type 0} (P : Result T Stop → Type 0) {stop : Stop} (result : Result T Stop) →
    (y : Stop) × (result ≡ Err y) × (y ≡ stop) → P (Err stop) → P result
handed_on P result (y, is, same) holds = subst P (sym is) (subst (λ s. P (Err s)) (sym same) holds)

-- a shelf that keeps its promises
pub never_still : (old new : Shelved) → new.promise ≡ old.promise → NeverFails old → NeverFails new
never_still old new same never place = ap (λ f. f place) same ∙ never place

pub tells_still : (old new : Shelved) → new.promise ≡ old.promise → Tells old → Tells new
tells_still old new same tells = subst (λ f. (place : ℕ) →
    ((f place).begins_empty ≡ true) × ((f place).tells_rows ≡ true)) (sym same) tells

pub tells_kept : (old new : Shelved) → old.promise ≡ new.promise → Tells new → Tells old
tells_kept old new same tells = tells_still new old same tells

-- a store as it was promised begins empty, and fails at no call
pub begins_empty : (shelf : Shelved) (place : ℕ) (k : Kept) → Tells shelf → IsAsPromised (shelf.promise place) k →
    k.held ≡ Some nothing
begins_empty shelf place k tells promised = promised.empty (tells place).0 (tells place).1

-- no store for a database that was granted
one_name : (name copy other : List ℕ) → copy ≡ name → NoStore other ≡ NoStore copy → name ≡ other
one_name name copy other same is = let named : other ≡ copy = cc in sym (named ∙ same)

pub names_made : (name copy : List ℕ) (old : Clustered) (stop : Stop) → copy ≡ name → grant name old ≡ Accepted Done →
    (is_no_store stop ≡ true → stop ≡ NoStore copy) → NamesMade (Database name) old stop
names_made name copy old (NoStore other) same done named =
    let is = one_name name copy other same (named refl) in
    (ap Database is, subst (λ n. grant n old ≡ Accepted Done) is done)
names_made name copy old others same done named = tt
