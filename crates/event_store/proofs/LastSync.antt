-- The last SYNC is found from the last number down.
use Rattle.std.proofs.Common.{◌≡◌, ◌∙◌, ◌<◌, ◌≤◌, ◌+◌, ◌-◌, ℕ, suc, true, false, cond, List, Option, Some, None, refl}
use Rattle.std.proofs.Common.{sym, ap, arith}
use Rattle.std.specs.Option.{option_map, option_or}
use Rattle.slon_model.specs.Events.{Event as Model, is_sync, event_at, sync_or, last_sync}
use Rattle.slon_model.specs.Snapshots.{Snapshot}
use Rattle.event_store.specs.Syncing.{sync_taken, sync_seen, taken_of}
use Rattle.event_store.specs.Seen.{seen_event}
use Rattle.event_store.specs.declared.event.Event.{Event}

-- an event that is a SYNC is the last one, any other is passed over
or_taken : (e : Option Model) (before : Option Model) →
    taken_of (sync_or e before) ≡ option_or (sync_taken e) (taken_of before)
or_taken None before = refl
or_taken (Some e) before =
    elim (is_sync e.body) as (λ b. taken_of (cond b (Some e) before)
    ≡ option_or (cond b (Some e.taken) None) (taken_of before)) [
      | true ↦ refl
      | false ↦ refl
    ]

-- what stands at the next number to be looked at, and what was found there
pub record Looks (own : ℕ) (events : List Model) (last back : ℕ) (found : Option Event) : Type 0 where
  pub more : back < last
  pub there : option_map seen_event found ≡ event_at events (own, last - back)

step : (own : ℕ) (events : List Model) (last back : ℕ) (found : Option Event) → Looks own events last back found →
    taken_of (last_sync own events (last - back))
    ≡ option_or (sync_seen found) (taken_of (last_sync own events (last - (back + 1))))
step own events last back found look =
    let next : last - back ≡ suc (last - (back + 1)) = omega (arith, look.more) in
    let before = last_sync own events (last - (back + 1)) in
    ap (λ n. taken_of (last_sync own events n)) next
    ∙ ap (λ n. taken_of (sync_or (event_at events (own, n)) before)) (sym next)
    ∙ ap (λ e. taken_of (sync_or e before)) (sym look.there)
    ∙ or_taken (option_map seen_event found) before

pub passed : (own : ℕ) (events : List Model) (last back : ℕ) (found : Option Event) → Looks own events last back found →
    sync_seen found ≡ None →
    taken_of (last_sync own events (last - (back + 1))) ≡ taken_of (last_sync own events (last - back))
passed own events last back found look none =
    sym (step own events last back found look
    ∙ ap (λ o. option_or o (taken_of (last_sync own events (last - (back + 1))))) none)

pub reached : (own : ℕ) (events : List Model) (last back : ℕ) (found : Option Event) (taken : Snapshot) →
    Looks own events last back found → sync_seen found ≡ Some taken →
    Some taken ≡ taken_of (last_sync own events (last - back))
reached own events last back found taken look is =
    sym (step own events last back found look
    ∙ ap (λ o. option_or o (taken_of (last_sync own events (last - (back + 1))))) is)

pub none_left : (own : ℕ) (events : List Model) (last back : ℕ) → last ≤ back →
    taken_of (last_sync own events (last - back)) ≡ None
none_left own events last back end =
    let zero_left : last - back ≡ 0 = omega (arith, end) in ap (λ n. taken_of (last_sync own events n)) zero_left
