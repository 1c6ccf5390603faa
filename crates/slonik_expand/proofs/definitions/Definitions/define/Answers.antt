use Rattle.std.proofs.Common.{◌≡◌, Some, ap, ◌∙◌, arith, if◌then◌else◌}
use Rattle.std.proofs.lemmas.Map.Text.{text_keys, hash_map_updates_text}
use Rattle.std.specs.Map.{lookup}
use Rattle.std.specs.Str.{bytes_eq}
use Rattle.std.specs.String.{string_bytes}
use Rattle.indexmap.proofs.MapLemmas.{OnOk-map}
use Rattle.indexmap.specs.IndexMap.{get_by_text}
use Rattle.slonik_expand.proofs.SharedDefinitions.{on_err, turned, placed_within, defined_name, names_stay}
use Rattle.slonik_expand.proofs.definitions.Definitions.define.Goals as goal

pub invariant_of-self-clause-placed : goal.invariant_of-self-clause-placed
invariant_of-self-clause-placed c name place =
    let old = get_by_text c.settle.new.self.places name in
    let new = get_by_text c.insert.new.self name in
    let ok = OnOk-map c.insert.result _ _ (λ updates. hash_map_updates_text _ c.settle.new.self.places c.insert.new.self
    _ updates name) c.insert.ensures.updates in
    let err = on_err c.insert.result (λ same. ap (lookup (λ k. bytes_eq name (string_bytes k))) same)
    c.insert.ensures.err in
    placed_within _ old new (record {
      place = c.in_ok-place.place;
      within = c.in_ok-place.ensures.settles.within;
      turned = turned c.insert.result _ c.in_ok-place.place new old ok err;
      before = c.settle.new.self.placed name;
    }) place

pub returns : goal.returns
returns c =
    let old = c.args.self.now in
    let made = c.in_ok-definition.ensures in
    let settles = c.in_ok-place.ensures.settles in (
      made.0,
      made.1,
      λ other.
          let now : get_by_text c.insert.new.self other
          ≡ (if bytes_eq other c.args.name.now then Some c.in_ok-place.place else get_by_text old.places other) =
          grind (arith, text_keys) in
          let before = get_by_text old.places other in
          let stay = names_stay old.made.items c.settle.new.self.made.items before (old.placed other) settles.others in
          defined_name (bytes_eq other c.args.name.now) c.settle.new.self.made.items c.in_ok-place.place
          (get_by_text c.insert.new.self other) before now
          ∙ (λ i. if bytes_eq other c.args.name.now then Some ((settles.stands ∙ made.2.parts) i) else stay i),
    )
