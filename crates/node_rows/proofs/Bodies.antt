-- A body is read from the parts behind the byte of its kind.
use Rattle.std.proofs.Common.{◌≡◌, ℕ, Bool, List, ◌∷◌, ◌++◌, Ok, Err, refl, sym, ap, subst, ◌∙◌}
use Rattle.std.proofs.Common.{append_assoc, drop, get_or}
use Rattle.std.proofs.lemmas.Bool.{eqb-false}
use Rattle.slon_base.specs.declared.fault.RowFault.{RowFault}
use Rattle.slon_base.specs.declared.fault.RowFault.TheVariants.{NoMemory}
use Rattle.node_rows.specs.declared.body.Body.{Body}
use Rattle.node_rows.specs.declared.body.Body.TheVariants.{StoreNode, DropNode, StorePath, DropPath, StoreSet}
use Rattle.node_rows.specs.declared.body.Body.TheVariants.{DropSet, SetAddTable, SubscribeSet, EnableSubscription}
use Rattle.node_rows.specs.declared.body.Body.TheVariants.{UnsubscribeSet, MoveSet, AcceptSet, FailoverSet}
use Rattle.node_rows.specs.Spellings.{body_bytes, CanBody}
use Rattle.node_rows.specs.Reading.{ReadsBody, kind_of}

-- four parts of five, and the last
pub last_of_five : (a b d e f : List ℕ) → (a ++ (b ++ (d ++ e))) ++ f ≡ a ++ (b ++ (d ++ (e ++ f)))
last_of_five a b d e f = simp append_assoc

-- what is spelled with this kind is made of parts
abbrev pub IsMade : {P : Type 0} → ℕ → (P → Body) → Type 0
IsMade {P} kind make =
    (x : Body) (row rest : List ℕ) → kind ∷ row ≡ body_bytes x ++ rest → (parts : P) × (x ≡ make parts)

pub read_ok : {P : Type 0} (kind : ℕ) (make : P → Body) → IsMade kind make → {parts : P} {row left : List ℕ} →
    CanBody (make parts) → kind ∷ row ≡ body_bytes (make parts) ++ left →
    ((q : P) (rest : List ℕ) → CanBody (make q) → row ≡ drop 1 (body_bytes (make q) ++ rest) →
    (parts ≡ q) × (left ≡ rest)) → ReadsBody kind row (Ok (make parts)) left
read_ok kind make made can found again = record {
  can = can;
  found = found;
  again = λ x rest may is.
      let part = made x _ rest is in
      let read = again part.0 rest (subst CanBody part.1 may)
      (ap (drop 1) (is ∙ ap (λ y. body_bytes y ++ rest) part.1)) in
      (ap make read.0 ∙ sym part.1, read.1);
}

pub read_err : {P : Type 0} (kind : ℕ) (make : P → Body) → IsMade kind make → {fault : RowFault} {row left : List ℕ} →
    ((q : P) (rest : List ℕ) → CanBody (make q) → row ≡ drop 1 (body_bytes (make q) ++ rest) → fault ≡ NoMemory) →
    ReadsBody kind row (Err fault) left
read_err kind make made again = record {
  can = tt;
  found = tt;
  again = λ x rest may is.
      let part = made x _ rest is in
      again part.0 rest (subst CanBody part.1 may) (ap (drop 1) (is ∙ ap (λ y. body_bytes y ++ rest) part.1));
}

-- ---- the kinds

abbrev pub store_node : ℕ × List ℕ → Body
store_node parts = StoreNode parts.0 parts.1

pub store_node_made : IsMade 2 store_node
store_node_made (StoreNode node comment) row rest is = ((node, comment), refl)
store_node_made others row rest is = absurd (eqb-false 2 (kind_of others) refl (ap (λ bs. get_or bs 0 0) is))

abbrev pub drop_node : ℕ → Body
drop_node parts = DropNode parts

pub drop_node_made : IsMade 3 drop_node
drop_node_made (DropNode node) row rest is = (node, refl)
drop_node_made others row rest is = absurd (eqb-false 3 (kind_of others) refl (ap (λ bs. get_or bs 0 0) is))

abbrev pub store_path : ℕ × (ℕ × List ℕ) → Body
store_path parts = StorePath parts.0 parts.1.0 parts.1.1

pub store_path_made : IsMade 4 store_path
store_path_made (StorePath server client conninfo) row rest is = ((server, (client, conninfo)), refl)
store_path_made others row rest is = absurd (eqb-false 4 (kind_of others) refl (ap (λ bs. get_or bs 0 0) is))

abbrev pub drop_path : ℕ × ℕ → Body
drop_path parts = DropPath parts.0 parts.1

pub drop_path_made : IsMade 5 drop_path
drop_path_made (DropPath server client) row rest is = ((server, client), refl)
drop_path_made others row rest is = absurd (eqb-false 5 (kind_of others) refl (ap (λ bs. get_or bs 0 0) is))

abbrev pub store_set : ℕ × (ℕ × List ℕ) → Body
store_set parts = StoreSet parts.0 parts.1.0 parts.1.1

pub store_set_made : IsMade 6 store_set
store_set_made (StoreSet set origin comment) row rest is = ((set, (origin, comment)), refl)
store_set_made others row rest is = absurd (eqb-false 6 (kind_of others) refl (ap (λ bs. get_or bs 0 0) is))

abbrev pub drop_set : ℕ → Body
drop_set parts = DropSet parts

pub drop_set_made : IsMade 7 drop_set
drop_set_made (DropSet set) row rest is = (set, refl)
drop_set_made others row rest is = absurd (eqb-false 7 (kind_of others) refl (ap (λ bs. get_or bs 0 0) is))

abbrev pub set_add_table : ℕ × (ℕ × (List ℕ × List ℕ)) → Body
set_add_table parts = SetAddTable parts.0 parts.1.0 parts.1.1.0 parts.1.1.1

pub set_add_table_made : IsMade 8 set_add_table
set_add_table_made (SetAddTable set table name comment) row rest is = ((set, (table, (name, comment))), refl)
set_add_table_made others row rest is = absurd (eqb-false 8 (kind_of others) refl (ap (λ bs. get_or bs 0 0) is))

abbrev pub subscribe_set : ℕ × (ℕ × (ℕ × Bool)) → Body
subscribe_set parts = SubscribeSet parts.0 parts.1.0 parts.1.1.0 parts.1.1.1

pub subscribe_set_made : IsMade 9 subscribe_set
subscribe_set_made (SubscribeSet set provider receiver forward) row rest is =
    ((set, (provider, (receiver, forward))), refl)
subscribe_set_made others row rest is = absurd (eqb-false 9 (kind_of others) refl (ap (λ bs. get_or bs 0 0) is))

abbrev pub enable_subscription : ℕ × (ℕ × (ℕ × (Bool × ℕ))) → Body
enable_subscription parts = EnableSubscription parts.0 parts.1.0 parts.1.1.0 parts.1.1.1.0 parts.1.1.1.1

pub enable_subscription_made : IsMade 10 enable_subscription
enable_subscription_made (EnableSubscription set provider receiver forward era) row rest is =
    ((set, (provider, (receiver, (forward, era)))), refl)
enable_subscription_made others row rest is = absurd (eqb-false 10 (kind_of others) refl (ap (λ bs. get_or bs 0 0) is))

abbrev pub unsubscribe_set : ℕ × ℕ → Body
unsubscribe_set parts = UnsubscribeSet parts.0 parts.1

pub unsubscribe_set_made : IsMade 11 unsubscribe_set
unsubscribe_set_made (UnsubscribeSet set receiver) row rest is = ((set, receiver), refl)
unsubscribe_set_made others row rest is = absurd (eqb-false 11 (kind_of others) refl (ap (λ bs. get_or bs 0 0) is))

abbrev pub move_set : ℕ × (ℕ × (ℕ × (ℕ × List (ℕ × (ℕ × Bool))))) → Body
move_set parts = MoveSet parts.0 parts.1.0 parts.1.1.0 parts.1.1.1.0 parts.1.1.1.1

pub move_set_made : IsMade 12 move_set
move_set_made (MoveSet set old new era feeds) row rest is = ((set, (old, (new, (era, feeds)))), refl)
move_set_made others row rest is = absurd (eqb-false 12 (kind_of others) refl (ap (λ bs. get_or bs 0 0) is))

abbrev pub accept_set : ℕ × (ℕ × (ℕ × (ℕ × ℕ))) → Body
accept_set parts = AcceptSet parts.0 parts.1.0 parts.1.1.0 parts.1.1.1.0 parts.1.1.1.1

pub accept_set_made : IsMade 13 accept_set
accept_set_made (AcceptSet set old new era moved) row rest is = ((set, (old, (new, (era, moved)))), refl)
accept_set_made others row rest is = absurd (eqb-false 13 (kind_of others) refl (ap (λ bs. get_or bs 0 0) is))

abbrev pub failover_set : ℕ × (ℕ × List (ℕ × (ℕ × List (ℕ × (ℕ × Bool))))) → Body
failover_set parts = FailoverSet parts.0 parts.1.0 parts.1.1

pub failover_set_made : IsMade 14 failover_set
failover_set_made (FailoverSet failed limit sets) row rest is = ((failed, (limit, sets)), refl)
failover_set_made others row rest is = absurd (eqb-false 14 (kind_of others) refl (ap (λ bs. get_or bs 0 0) is))
