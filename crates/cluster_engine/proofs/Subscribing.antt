-- What holds of each session that a legal history leads to, where a command goes on from one.
use Rattle.std.proofs.Common.{ℕ, List, ◌∷◌}
use Rattle.slon_model.specs.declared.command.Command.{Command}
use Rattle.slon_model.specs.declared.command.Command.TheVariants.{Database}
use Rattle.slon_model.specs.declared.reply.Reply.{Reply}
use Rattle.slon_model.specs.Spoken.{IsSpoken}
use Rattle.slon_model.specs.Tasks.{Subject, OnNew, OnOne, OnAll, subject_of}
use Rattle.slon_model.specs.World.{World, Happening}
use Rattle.slon_laws.proofs.Worlds.{keep_formed_world, sound_world, spelled_world}
use Rattle.stream_laws.proofs.Steps.{regular_world}
use Rattle.follow_laws.proofs.Subscribing.{subscribed}
use Rattle.cluster_engine.specs.Agreed.{Clustered, Follows}
use Rattle.cluster_engine.specs.Calls.{GoesOn, Makes, Steps, StepsOn, happened}
use Rattle.cluster_engine.specs.Subscribing.{Lasts, LastsOn, Led, Subscribes, SubscribesMade}

-- the session and each of its databases have what every legal history leads to
pub led_follows : (limit : ℕ) (history : List Happening) (w : World) (c : Clustered) → Led limit history w c →
    Follows w c
led_follows limit history w c led = record {
  agrees = led.agrees;
  most = limit;
  history = history;
  leads = led.leads;
  sound = sound_world limit history w led.leads;
  spelled = spelled_world limit history w led.spoken led.leads;
  regular = regular_world limit history w led.leads;
  formed = keep_formed_world limit history w led.spoken led.leads;
}

-- a step of the rules makes the history one longer
lasts : (limit : ℕ) (history : List Happening) (w : World) (old : Clustered) (command : Command) (reply : Reply)
    (new : Clustered) → Led limit history w old × IsSpoken command × GoesOn command w reply new →
    Lasts limit history command reply new
lasts limit history w old command reply new (led, spoken, goes) = record {
  choice = goes.choice;
  world = goes.world;
  led = record { leads = (w, led.leads, goes.step); spoken = (spoken, led.spoken); agrees = goes.agrees };
  subscribed = subscribed limit (happened command reply goes.choice ∷ history) goes.world (w, led.leads, goes.step);
}

pub subscribes : (command : Command) (old : Clustered) (reply : Reply) (new : Clustered) → IsSpoken command →
    Steps command old reply new → Subscribes command old reply new
subscribes command old reply new spoken steps limit history w led =
    by (subject_of command) (steps w (led_follows limit history w old led))
  where
    by : (s : Subject) → StepsOn s command w reply new → LastsOn s limit history w command reply new
    by (OnNew name) (told, agrees) = record { leads = led.leads; spoken = led.spoken; agrees = agrees }
    by (OnOne name task) goes = lasts limit history w old command reply new (led, spoken, goes)
    by (OnAll act) goes = lasts limit history w old command reply new (led, spoken, goes)

pub subscribes_made : (name : List ℕ) (old : Clustered) (reply : Reply) (new : Clustered) → Makes name old reply new →
    SubscribesMade name old reply new
subscribes_made name old reply new makes limit history w led spoken granted =
    lasts limit history w old (Database name) reply new (led, spoken, makes w led.agrees granted)
