-- Results of reading.
use Rattle.std.proofs.Common.{◌≡◌, Result, Ok, Err, refl, sym, subst}
use Rattle.slon_base.specs.declared.fault.RowFault.{RowFault}
use Rattle.slon_base.specs.declared.fault.RowFault.TheVariants.{NotCanonical, NoMemory}
use Rattle.change_capture.specs.Reading.{Lacks, Reads, Gives}

-- where a value of the first kind leads to one of the second, and there is none of the second
lacking : {T U : Type 0} (P : T → Type 0) (Q : U → Type 0) (fault : RowFault) → ((x : T) → P x → (u : U) × Q u) →
    Lacks Q fault → Lacks P fault
lacking P Q NotCanonical leads lacks = λ x holds. let u = leads x holds in lacks u.0 u.1
lacking P Q NoMemory leads lacks = tt
lacking P Q others leads lacks = lacks

-- a part that was not read
pub carried : {T U : Type 0} (P : T → Type 0) (Q : U → Type 0) (result : Result T RowFault) {fault : RowFault} →
    (y : RowFault) × (result ≡ Err y) × (y ≡ fault) → ((x : T) → P x → (u : U) × Q u) → Lacks Q fault → Reads P result
carried P Q result (y, is, same) leads lacks = rw is (lacking P Q y leads (subst (Lacks Q) (sym same) lacks))

-- where one value alone has the property, it is given
pub gives_one : {T : Type 0} (P : T → Type 0) (result : Result T RowFault) (x : T) → ((y : T) → P y → y ≡ x) →
    Reads P result → P x → Gives x result
gives_one P (Ok y) x one reads holds = one y reads
gives_one P (Err NotCanonical) x one reads holds = absurd (reads x holds)
gives_one P (Err NoMemory) x one reads holds = refl
gives_one P (Err others) x one reads holds = absurd reads
