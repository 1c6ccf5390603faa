-- DROP SET at the node that it reached.
use Rattle.std.proofs.Common.{◌≡◌, ℕ, [], ◌∷◌, Option, Some, None, Result, Ok, Err, refl}
use Rattle.node_rows.specs.declared.body.Body.TheVariants.{DropSet}
use Rattle.slon_model.specs.declared.reply.Refusal.{Refusal}
use Rattle.slon_model.specs.Reaching.{emitting, origin_checks, reach}
use Rattle.slon_model.specs.Sessions.{World, Running, Seat, Stated, bind, checked, first_refusal, tells, unless_refused}
use Rattle.slon_model.specs.Sets as rules
use Rattle.slonik_exec.specs.Statements.{set_dropped}

-- the rules say so
pub drop_due : (set origin : ℕ) (run : Running) (w : World) →
    rules.drop_set set origin run w ≡ bind (reach run origin w) (set_dropped set)
drop_due set origin run w = by (reach run origin w)
  where
    says : Seat → Stated
    says s = emitting s (tells (DropSet set) ∷ [])

    of : (o : Option Refusal) (s : Seat) →
        bind (unless_refused o s) (λ t. Ok (says t)) ≡ unless_refused o (says s)
    of None s = refl
    of (Some refusal) s = refl

    by : (r : Result Seat Refusal) →
        bind (bind r (λ s. checked (origin_checks s set) s)) (λ s. Ok (says s)) ≡ bind r (set_dropped set)
    by (Ok s) = of (first_refusal (origin_checks s set)) s
    by (Err refusal) = refl
