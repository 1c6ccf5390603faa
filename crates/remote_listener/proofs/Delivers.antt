-- Where there are no confirmations nothing is kept, and else they are heard.
use Rattle.std.proofs.Common.{◌≡◌, ◌==◌, true, false, List, [], ◌∷◌, length, map, Result, Ok, refl, arith}
use Rattle.std.proofs.lemmas.Bool.{true≢false}
use Rattle.std.specs.Prelude.{Bool}
use Rattle.slon_model.specs.declared.fault.DbFault.{DbFault}
use Rattle.set_config.proofs.Entries.{eq_of}
use Rattle.event_store.specs.Giving.{Confirmation}
use Rattle.event_store.specs.Telling.{named}
use Rattle.app_store.specs.Base.{Base}
use Rattle.app_store.specs.Serves.{answered}
use Rattle.node_store.specs.Acting.{HearsAll, joined}
use Rattle.remote_listener.specs.Delivering.{Delivers}

pub none_kept : (confirms : List Confirmation) (old : Base) → (length confirms == 0) ≡ true →
    Delivers confirms old (Ok false) old
none_kept [] old none = (refl, refl)
none_kept (c ∷ cs) old none =
    let zero_is : length (c ∷ cs) ≡ 0 = eq_of (length (c ∷ cs)) 0 none in
    absurd (omega (arith, zero_is))

pub all_heard : (confirms : List Confirmation) (old new : Base) (result : Result Bool DbFault) →
    (length confirms == 0) ≡ false → HearsAll (map named confirms) old (answered joined result) new →
    Delivers confirms old result new
all_heard [] old new result some hears = absurd (true≢false some)
all_heard (c ∷ cs) old new result some hears = hears
