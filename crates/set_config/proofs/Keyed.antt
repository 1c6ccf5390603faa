-- Which keys a scan goes over, by the ids that they spell.
use Rattle.std.proofs.Common.{ℕ, [], length, drop, refl, arith, length-append}
use Rattle.std.specs.Prelude.{◌==◌}
use Rattle.std.proofs.lemmas.Bool.{and_parts, and_from}
use Rattle.slon_base.specs.Codec.{number_bytes}
use Rattle.slon_base.proofs.Order.{prefixed}
use Rattle.slon_base.proofs.Spelled.{number_front, length-number_bytes}
use Rattle.store_rows.specs.Rows.{IsId}
use Rattle.set_config.specs.Holds.{AreIds, pair_key}
use Rattle.set_config.specs.Loaded.{same_id, same_pair}
use Rattle.set_config.proofs.Entries.{eq_of, self_eq, id_unique, pair_unique}
use Rattle.set_config.proofs.Ranges.{IsRange, IsTest}

pub id_test : IsTest same_id
id_test = record { of = eq_of; itself = self_eq }

-- all keys, by one id
pub id_range : IsRange number_bytes IsId [] number_bytes IsId (λ i. i)
id_range = record {
  spelled = λ i. refl;
  one = λ i one. one;
  covers = λ i one has. (i, one, refl);
  some = λ i. omega (arith, length-number_bytes i);
  unique = id_unique;
}

pub pair_test : IsTest same_pair
pair_test = record {
  of = λ i j is. let both = and_parts (i.0 == j.0) (i.1 == j.1) is in
      let first = eq_of i.0 j.0 both.0 in
      let second = eq_of i.1 j.1 both.1 in
      λ k. (first k, second k);
  itself = λ i. and_from _ _ (self_eq i.0) (self_eq i.1);
}

-- all keys, by two ids
pub pair_range : IsRange pair_key AreIds [] pair_key AreIds (λ i. i)
pair_range = record {
  spelled = λ i. refl;
  one = λ i one. one;
  covers = λ i one has. (i, one, refl);
  some = λ i. omega (arith, length-number_bytes i.0, length-append {A = ℕ});
  unique = pair_unique;
}

-- the keys of the receivers of a set, by the receiver
pub receiver_range : (set : ℕ) → IsId set →
    IsRange pair_key AreIds (number_bytes set) number_bytes IsId (λ receiver. (set, receiver))
receiver_range set id = record {
  spelled = λ r. refl;
  one = λ r one. (id, one);
  covers = λ i ids has.
      let behind = drop (length (number_bytes set)) (pair_key i) in
      let parts = number_front i.0 set (number_bytes i.1) behind (omega (arith, ids.0.1)) (omega (arith, id.1))
      (prefixed (number_bytes set) (pair_key i) has) in
      (i.1, ids.1, λ k. (parts.0 k, i.1));
  some = λ r. omega (arith, length-number_bytes r);
  unique = λ a b one two is. let same = pair_unique (set, a) (set, b) (id, one) (id, two) is in λ k. (same k).1;
}
