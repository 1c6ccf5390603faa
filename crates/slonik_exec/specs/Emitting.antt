-- What comes of events that a statement has a node emit.
use Rattle.std.specs.Prelude.{◌≡◌, List, [], ◌∷◌, ℕ, Some, Ok}
use Rattle.node_rows.specs.declared.body.Body.{Body}
use Rattle.slon_model.specs.declared.reply.Reply.{Reply}
use Rattle.slon_model.specs.Names.{Named}
use Rattle.slon_model.specs.Rows.{Rows}
use Rattle.slon_model.specs.Deeds.{Node}
use Rattle.slon_model.specs.Place.{Place}
use Rattle.slon_model.specs.Sessions.{Emission, seat}
use Rattle.slon_model.specs.Reaching.{emitting}
use Rattle.node_state.specs.Known.{Learns}
use Rattle.app_store.specs.Base.{Base}
use Rattle.app_store.specs.Fits.{Ready}
use Rattle.node_store.specs.Acting.{LearnsAll, bodies_in, next_event}
use Rattle.slonik_exec.specs.Answering.{ComesAt}

-- From every place that is a node which learns no more of these events than their bodies say: they are emitted in one
-- commit.
abbrev pub EmitsAll : List ℕ → List Body → Base → Reply → Base → Type 0
EmitsAll name bodies old reply new =
    (p : Place) (n : Node) (ms : List Emission) → Ready p old → p.node ≡ Some n → bodies_in ms ≡ bodies →
    LearnsAll p n ms → ComesAt name p (Ok (emitting (seat name p n) ms)) reply new

-- the same of one event
abbrev pub Emits : List ℕ → Body → Base → Reply → Base → Type 0
Emits name body old reply new =
    (p : Place) (n : Node) (rows : Named Rows) → Ready p old → p.node ≡ Some n → Learns n (next_event p n body) →
    ComesAt name p (Ok (emitting (seat name p n) (record { body = body; rows = rows } ∷ []))) reply new
