-- What the deeds of a node change in its streams.
use Rattle.std.proofs.Common.{◌≡◌, ℕ, Bool, true, false, cond, List, [], ◌∷◌, filter, Option, None, refl, sym, ap, ◌∙◌}
use Rattle.std.specs.Prelude.{◌==◌, nat_lt}
use Rattle.store_rows.proofs.Spaces.{empty_space}
use borrow.Author.Tests.{lt-ltb}
use Rattle.node_rows.specs.declared.body.Body.{Body}
use Rattle.node_rows.specs.declared.body.Body.TheVariants.{MoveSet, FailoverSet}
use Rattle.slon_model.specs.Maps.{number_at}
use Rattle.slon_model.specs.Events.{Event}
use Rattle.slon_model.specs.Deeds.{knowledge, with_deeds, met}
use Rattle.slon_model.specs.Views.{Views, views_emitted, views_told, with_views}
use Rattle.event_store.specs.Keeping.{KeepsViews}
use Rattle.event_store.specs.Streams.{streams_of, emitted, given}
use Rattle.event_store.specs.Following.{EmittingAdds, KeepingAdds, ApplyingAdds, CommittingStays, HearingAdds}
use Rattle.event_store.specs.Following.{FirstHasNone, JoiningGives}
use Rattle.event_store.proofs.Holding.{whole, moved}

pub adds : EmittingAdds
adds n d e is behind =
    let low = (knowledge n).low in
    let s = streams_of n in
    let views = views_emitted e e.body s.views in
    ap (λ doing. streams_of (with_deeds (record d { doing = doing } ∷ []) n)) is
    ∙ ap (λ b. record (emitted e s) { views = views; events = cond b (e ∷ s.events) s.events })
    (lt-ltb (number_at e.origin low) e.number behind)

pub kept_views : (e : Event) (body : Body) (views : Views) → KeepsViews body → views_emitted e body views ≡ views
kept_views e (MoveSet set old new era feeds) views keeps = absurd keeps
kept_views e (FailoverSet failed limit sets) views keeps = absurd keeps
kept_views e others views keeps = refl

pub keeping_adds : KeepingAdds
keeping_adds n d e is behind keeps =
    let s = streams_of n in
    adds n d e is behind ∙ ap (λ views. record (emitted e s) { views = views }) (kept_views e e.body s.views keeps)

pub applying_adds : ApplyingAdds
applying_adds n d e b is behind =
    let low = (knowledge n).low in
    let s = streams_of n in
    let views = with_views b.views (views_told n.id e.body (knowledge n).config s.views) in
    ap (λ doing. streams_of (with_deeds (record d { doing = doing } ∷ []) n)) is
    ∙ ap (λ b. record (emitted e s) { views = views; events = cond b (e ∷ s.events) s.events })
    (lt-ltb (number_at e.origin low) e.number behind)

pub stays : CommittingStays
stays n d xid is = ap (λ doing. streams_of (with_deeds (record d { doing = doing } ∷ []) n)) is

pub hearing_adds : HearingAdds
hearing_adds n d confirms is = ap (λ doing. streams_of (with_deeds (record d { doing = doing } ∷ []) n)) is

-- ---- nodes that begin

pub first_has_none : FirstHasNone
first_has_none id comment run m none = whole
    (moved (sym (none 9 refl)) (empty_space (λ i. refl)))
    (moved (sym (none 10 refl)) (empty_space (λ i. refl)))
    (moved (sym (none 11 refl)) (empty_space (λ i. nothing (i.1 == id) None)))
    (moved (sym (none 12 refl)) (empty_space (λ i. refl)))
    (moved (sym (none 13 refl)) (empty_space (λ i. refl)))
  where
    nothing : (b : Bool) (o : Option ℕ) → cond b o o ≡ o
    nothing true o = refl
    nothing false o = refl

-- what passes a test passes it again
filter_twice : {X : Type 0} (p : X → Bool) (xs : List X) → filter p (filter p xs) ≡ filter p xs
filter_twice p [] = refl
filter_twice p (x ∷ xs) =
    elim (p x) as (λ b. p x ≡ b → filter p (cond b (x ∷ filter p xs) (filter p xs))
    ≡ cond b (x ∷ filter p xs) (filter p xs)) [
      | true ↦ λ is. ap (λ b. cond b (x ∷ filter p (filter p xs)) (filter p (filter p xs))) is
          ∙ ap (λ ys. x ∷ ys) (filter_twice p xs)
      | false ↦ λ is. filter_twice p xs
    ] refl

pub joining_gives : JoiningGives
joining_gives id n run =
    let low = (knowledge n).low in
    ap (λ es. record (given id (streams_of n)) { events = es })
    (filter_twice (λ e. nat_lt (number_at e.origin low) e.number) (met n))
