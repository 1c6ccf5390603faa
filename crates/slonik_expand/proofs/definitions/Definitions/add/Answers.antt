use Rattle.std.proofs.Common.{◌≡◌, [], ◌∷◌, ◌++◌, Some, refl, sym, ap, ◌∙◌}
use Rattle.std.specs.Option.{option_map}
use Rattle.slonik_expand.specs.declared.definition.Part.TheVariants.{Single}
use Rattle.slonik_expand.specs.Shared.{meaning}
use Rattle.slonik_expand.specs.Steps.{names_of}
use Rattle.slonik_expand.proofs.Keeping.{named_one, other_one}
use Rattle.slonik_expand.proofs.SharedDefinitions.{means_token}
use Rattle.slonik_expand.proofs.definitions.Definitions.add.Goals as goal

pub returns-in_ok-add_earlier-in-Some : goal.returns-in_ok-add_earlier-in-Some
returns-in_ok-add_earlier-in-Some c =
    let stands = meaning c.args.self.now.made.items in
    let name = c.in-NameUse.name in
    let is : names_of c.args.self.now name ≡ Some (stands c.in-Some.place) =
    ap (option_map stands) (sym c.find.ensures ∙ c.in-Some.is) in (
      stands c.in-Some.place,
      named_one (names_of c.args.self.now) c.args.token.now name (stands c.in-Some.place) c.in-NameUse.is is,
      c.in_ok-add_earlier-in-Some.ensures.means,
    )

pub returns-in_ok-push-in_default : goal.returns-in_ok-push-in_default
returns-in_ok-push-in_default c =
    let parts : c.push.new.self.parts.items ≡ c.args.definition.now.parts.items ++ Single c.args.token.now ∷ [] =
    c.in_ok-push-in_default.ensures.parts ∙ ap (λ t. c.args.definition.now.parts.items ++ Single t ∷ [])
    c.in_ok-copy-in_default.ensures in (
      c.args.token.now ∷ [],
      other_one (names_of c.args.self.now) c.args.token.now c.in_default.not-NameUse,
      means_token c.args.self.now.made.items c.args.token.now
          (record { old = _; new = _; len = 1; parts = parts; counted = c.in_ok-push-in_default.ensures.len }) refl,
    )
