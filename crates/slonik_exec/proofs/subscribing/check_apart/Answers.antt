use Rattle.std.proofs.Common.{◌≡◌, ◌∙◌, ◌==◌, ◌||◌, Bool, true, false, [], ◌∷◌, Some, refl, sym, ap}
use Rattle.slon_model.specs.declared.reply.Refusal.TheVariants as refused
use Rattle.slon_model.specs.Deeds.{Node}
use Rattle.slon_model.specs.Place.{Place}
use Rattle.slon_model.specs.Sessions.{when, first_refusal}
use Rattle.app_store.specs.Base.{Base, base_of}
use Rattle.app_store.specs.Fits.{Ready}
use Rattle.slonik_exec.specs.declared.subscribing.NewFeed.{NewFeed}
use Rattle.slonik_exec.specs.Answering.{is_id, RefusedAt}
use Rattle.slonik_exec.proofs.Works.{own_test}
use Rattle.slonik_exec.proofs.subscribing.check_apart.Goals as goal

-- what the check makes of it, by the code and by the rules
apart_is : (p : Place) (n : Node) (old : Base) (f : NewFeed) (same : Bool) → Ready p old × (p.node ≡ Some n) →
    old.memory.up ≡ true → (is_id f.receiver old.memory.identity || f.receiver == f.provider) ≡ same →
    first_refusal (when (f.receiver == n.id || f.receiver == f.provider) (refused.SameNode f.receiver) ∷ [])
    ≡ first_refusal (when same (refused.SameNode f.receiver) ∷ [])
apart_is p n old f same ready up is =
    ap (λ b. first_refusal (when b (refused.SameNode f.receiver) ∷ []))
    (ap (λ b. b || f.receiver == f.provider) (own_test p n old f.receiver _ ready up refl) ∙ is)

pub returns-then-feeds_itself-clause-refuses : goal.returns-then-feeds_itself-clause-refuses
returns-then-feeds_itself-clause-refuses g c p n ready is =
    RefusedAt (refused.SameNode c.args.feed.receiver)
    (apart_is p n (base_of g.K.Keeper.kept c.args.seat.now.database) c.args.feed true (ready, is) c.requires.up
    (sym c.feeds_itself.ensures ∙ c.if-feeds_itself.true)) refl ready.fits

pub returns-clause-refuses : goal.returns-clause-refuses
returns-clause-refuses g c p n ready is = (
  apart_is p n (base_of g.K.Keeper.kept c.args.seat.now.database) c.args.feed false (ready, is) c.requires.up
      (sym c.feeds_itself.ensures ∙ c.if-feeds_itself.false),
  ready.fits,
)
