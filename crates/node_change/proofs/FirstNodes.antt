-- What the store of the first node of a cluster holds.
use Rattle.std.proofs.Common.{◌≡◌, ℕ, true, false, cond, List, [], Some, None, refl, sym, ap, ◌∙◌, arith, is_some}
use Rattle.std.specs.Prelude.{◌==◌, ◌||◌}
use Rattle.std.proofs.lemmas.Bool.{false≢true, eq-eqb}
use Rattle.slon_base.specs.Codec.{number_bytes, IsText}
use Rattle.slon_base.specs.Keeper.{Store, put_at}
use Rattle.store_rows.specs.Rows.{IsId}
use Rattle.store_rows.proofs.Spaces.{altered, empty_space}
use Rattle.node_rows.specs.declared.rows.NodeRow.{NodeRow}
use Rattle.node_rows.specs.Spellings.{node_bytes}
use Rattle.slon_model.specs.Deeds.{first_config}
use Rattle.slon_model.specs.Membership.{first_of_cluster}
use Rattle.slon_model.specs.Sessions.{Running}
use Rattle.set_config.proofs.Entries.{not_eq}
use Rattle.set_config.proofs.Holding.{puts}
use Rattle.set_config.specs.Holds.{HoldsConfig}
use Rattle.event_store.specs.Holds.{is_stream}
use Rattle.event_store.proofs.Deeds.{first_has_none}
use Rattle.event_store.proofs.Regular.{first_regular}
use Rattle.event_store.proofs.Holding.{moved}
use Rattle.event_store.specs.Ordered.{IsOrdered, AreOrdered}
use Rattle.node_state.specs.Held.{NodeHeld, HoldsNode, IsOrderly, is_own, is_of_node}
use Rattle.node_change.proofs.Naming.{Made, put_others}

-- the row of the node itself
abbrev pub own_row : List ℕ → NodeRow
own_row comment = record { live = true; comment = comment }

abbrev pub with_own : ℕ → List ℕ → Store → Store
with_own id comment m = put_at 4 (number_bytes id) (node_bytes (own_row comment)) m

none_ordered : {X : Type 0} → IsOrdered {X = X} []
none_ordered = record { ids_are = tt; rising = tt }

none_are : {X : Type 0} → AreOrdered {X = X} []
none_are = record { firsts = none_ordered; seconds = tt }

first_orderly : (id : ℕ) (comment : List ℕ) → IsId id → IsOrderly (first_config id comment)
first_orderly id comment one = record {
  nodes = record { ids_are = (one, tt); rising = (tt, tt) };
  paths = none_are;
  sets = none_ordered;
  tables = none_ordered;
  subscriptions = none_are;
  fences = none_ordered;
}

first_known : (id : ℕ) (comment : List ℕ) (m : Store) → IsId id → IsText comment → HoldsNode None m →
    HoldsConfig (first_config id comment) (with_own id comment m)
first_known id comment m one can none = record {
  nodes = altered (puts id (own_row comment) [] one can) (moved (sym (none 4 refl)) (empty_space (λ i. refl)));
  paths = moved (sym (none 5 refl)) (empty_space (λ i. refl));
  sets = moved (sym (none 6 refl)) (empty_space (λ i. refl));
  tables = moved (sym (none 7 refl)) (empty_space (λ i. refl));
  subscriptions = moved (sym (none 8 refl)) (empty_space (λ i. refl));
  fences = moved (sym (none 14 refl)) (empty_space (λ i. refl));
}

-- the spaces of the streams are none of the database's
not_own : (space : ℕ) → is_stream space ≡ true → is_own space ≡ false
not_own space is = λ k. other 1 refl k || other 2 refl k || other 3 refl k
  where
    other : (used : ℕ) → is_stream used ≡ false → (space == used) ≡ false
    other used not = not_eq space used (λ same. false≢true (sym not ∙ ap is_stream (sym same) ∙ is))

pub first_made : (id : ℕ) (comment : List ℕ) (run : Running) (m : Store) →
    IsId id × IsText run.cluster × IsText comment → HoldsNode None m →
    Made (first_of_cluster id comment run) m (with_own id comment m)
first_made id comment run m can none = record { held = held; own = λ space own. stays space (own_not space own) }
  where
    stays : (space : ℕ) → (space == 4) ≡ false → with_own id comment m space ≡ m space
    stays space other = put_others 4 (number_bytes id) (node_bytes (own_row comment)) m space other

    own_not : (space : ℕ) → is_own space ≡ true → (space == 4) ≡ false
    own_not space own = not_eq space 4 (λ same. false≢true (ap is_own (sym same) ∙ own))

    held : NodeHeld (first_of_cluster id comment run) (with_own id comment m)
    held = record {
      id = can.0;
      cluster = can.1;
      config = first_known id comment m can.0 can.2 none;
      orderly = first_orderly id comment can.0;
      homes = (tt, tt);
      self = ap (λ b. is_some (cond b (Some (own_row comment)) None)) (eq-eqb id id refl);
      met = tt;
      streams = first_has_none id comment run (with_own id comment m)
          (λ space is. stays space (not_eq space 4 (λ same. false≢true (ap is_stream (sym same) ∙ is)))
          ∙ none space (not_own space is));
      log = moved (sym (none 15 refl)) (empty_space (λ i. refl));
      status = omega arith;
      behind = λ origin. omega arith;
      regular = first_regular id comment run;
      spare = λ space other spare. stays space (not_eq space 4 (λ same. false≢true (sym spare ∙ ap is_of_node same)))
          ∙ none space other;
    }
