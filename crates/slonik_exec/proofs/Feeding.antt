-- SUBSCRIBE SET and UNSUBSCRIBE SET at the owner of the set.
use Rattle.std.proofs.Common.{◌≡◌, ◌∙◌, ℕ, Bool, true, false, List, [], Option, Some, None, Result, Ok, Err, refl, sym}
use Rattle.std.proofs.Common.{ap, set, subst}
use Rattle.std.specs.Prelude.{is_err, is_none, is_some, not, unwrap_or, IfOk}
use Rattle.std.specs.Option.{option_map}
use Rattle.std.proofs.lemmas.Bool.{false≢true, false_from_ne_true}
use Rattle.slon_base.specs.Keeper.{Kept}
use Rattle.slon_base.specs.declared.keeper.Keeper.{Ghosts}
use Rattle.node_rows.specs.declared.body.Body.{Body}
use Rattle.node_rows.specs.declared.rows.SetRow.{SetRow}
use Rattle.node_rows.specs.declared.rows.Subscription.{Subscription}
use Rattle.slon_model.specs.declared.fault.DbFault.{DbFault}
use Rattle.slon_model.specs.declared.reply.Refusal.{Refusal}
use Rattle.slon_model.specs.declared.reply.Refusal.TheVariants as refused
use Rattle.slon_model.specs.declared.reply.Reply.{Reply}
use Rattle.slon_model.specs.declared.reply.Reply.TheVariants.{Refused}
use Rattle.slon_model.specs.Names.{Named}
use Rattle.slon_model.specs.Config.{era_of, set_row}
use Rattle.slon_model.specs.Deeds.{Node, knowledge}
use Rattle.slon_model.specs.Place.{Place}
use Rattle.slon_model.specs.Maps.{pair_at}
use Rattle.slon_model.specs.Reaching.{emitting, owner}
use Rattle.slon_model.specs.Sessions.{Seat, Stated, bind, seat}
use Rattle.slon_model.specs.Subscribing.{NewFeed, all_tell, bodies_of, changed_bodies, feed_bodies}
use Rattle.slon_model.specs.World.{refusal_of, halt_in}
use Rattle.node_state.proofs.Learning.{plain_learns}
use Rattle.node_store.specs.declared.looking.Reign.{Reign}
use Rattle.node_store.specs.Acting.{LearnsAll}
use Rattle.node_store.specs.Looking.{OfConfig, reign_of}
use Rattle.app_store.specs.Base.{Base, base_of}
use Rattle.app_store.specs.Serves.{is_memory}
use Rattle.slonik_exec.specs.declared.databases.Named.{Named as NamedDatabase}
use Rattle.slonik_exec.specs.declared.owning.Owner.TheVariants.{At, Nobody, Stopped}
use Rattle.slonik_exec.specs.Answering.{AtNode, ComesAt}
use Rattle.slonik_exec.specs.Databases.{bases_of, named_base}
use Rattle.slonik_exec.specs.Emitting.{EmitsAll}
use Rattle.slonik_exec.specs.Executing.{Comes, Refuses, Executes}
use Rattle.slonik_exec.specs.Owned.{Owns}
use Rattle.slonik_exec.specs.Reached.{Addresses}
use Rattle.slonik_exec.specs.Statements.{feed_said, told_said}
use Rattle.slonik_exec.proofs.Leading.{SaysReign}
use Rattle.slonik_exec.proofs.Lifting.{Worked}
use Rattle.slonik_exec.proofs.Seating.{comes_worked, ready_mids}
use Rattle.slonik_exec.proofs.Sitting.{breaks_so}
use Rattle.slonik_exec.proofs.Telling.{words_at}
use Rattle.slonik_exec.proofs.Works.{Looked, ready_still, stops, ended_due}

-- the era of the row of a set, by what was answered of it
era_row : (o : Option SetRow) →
    unwrap_or (option_map (λ r. r.era) (option_map reign_of o)) 0 ≡ unwrap_or (option_map (λ row. row.era) o) 0
era_row None = refl
era_row (Some row) = refl

-- none of its events tells of a set or a table
feed_learns : (p : Place) (n : Node) (era : ℕ) (f : NewFeed) → LearnsAll p n (all_tell (feed_bodies era f))
feed_learns p n era f = (plain_learns n _ refl, (plain_learns _ _ refl, (plain_learns _ _ refl, tt)))

-- the events are emitted in the era that the node was asked
pub feed_emitted : {name : List ℕ} {bodies : List Body} {old mid new : Base} {reply : Reply} {found : Option Reign}
    (f : NewFeed) → Looked (SaysReign f.set_id) old (Ok found) mid →
    bodies ≡ feed_bodies (unwrap_or (option_map (λ r. r.era) found) 0) f → EmitsAll name bodies mid reply new →
    AtNode name (λ s. Ok (feed_said f s)) old reply new
feed_emitted {found = found} f look is emits p n ready node =
    let seen = look.looks p ready refl in
    let era = era_of f.set_id (knowledge n).config in
    let same : unwrap_or (option_map (λ r. r.era) found) 0 ≡ era
    = ap (λ o. unwrap_or (option_map (λ r. r.era) o) 0) (seen.0 n node)
    ∙ era_row (set_row f.set_id (knowledge n).config) in
    emits p n (all_tell (feed_bodies era f)) (ready_still ready seen.1) node
    (sym (is ∙ ap (λ e. feed_bodies e f) same)) (feed_learns p n era f)

-- whether the receiver has a row
abbrev pub SaysRow : NewFeed → Place → Bool → Type 0
SaysRow f = OfConfig (λ k found. found ≡ is_some (pair_at f.set_id f.receiver k.subscriptions))

-- it has none where it is not that it has one
pub no_row : (o : Option Subscription) → is_none o ≡ not (is_some o)
no_row None = refl
no_row (Some row) = refl

told_there : (era : ℕ) (f : NewFeed) (o : Option Subscription) → is_some o ≡ true →
    bodies_of era f o ≡ changed_bodies f
told_there era f None is = absurd (false≢true is)
told_there era f (Some row) is = refl

told_new : (era : ℕ) (f : NewFeed) (o : Option Subscription) → is_some o ≡ false →
    bodies_of era f o ≡ feed_bodies era f
told_new era f None is = refl
told_new era f (Some row) is = absurd (false≢true (sym is))

-- the row is there, and two events are emitted
pub changed_emitted : {name : List ℕ} {bodies : List Body} {old mid new : Base} {reply : Reply} (f : NewFeed) →
    Looked (SaysRow f) old (Ok true) mid → bodies ≡ changed_bodies f → EmitsAll name bodies mid reply new →
    AtNode name (λ s. Ok (told_said f s)) old reply new
changed_emitted {name} {new = new} {reply} f look is emits p n ready node =
    let seen = look.looks p ready refl in
    let era = era_of f.set_id (knowledge n).config in
    let row = pair_at f.set_id f.receiver (knowledge n).config.subscriptions in
    subst (λ bodies. ComesAt name p (Ok (emitting (seat name p n) (all_tell bodies))) reply new)
    (sym (told_there era f row (sym (seen.0 n node))))
    (emits p n (all_tell (changed_bodies f)) (ready_still ready seen.1) node (sym is)
    (plain_learns n _ refl, (plain_learns _ _ refl, tt)))

-- it is not, and three are
pub new_emitted : {name : List ℕ} {old mid new : Base} {reply : Reply} (f : NewFeed) →
    Looked (SaysRow f) old (Ok false) mid → AtNode name (λ s. Ok (feed_said f s)) mid reply new →
    AtNode name (λ s. Ok (told_said f s)) old reply new
new_emitted {name} {new = new} {reply} f look comes p n ready node =
    let seen = look.looks p ready refl in
    let era = era_of f.set_id (knowledge n).config in
    let row = pair_at f.set_id f.receiver (knowledge n).config.subscriptions in
    subst (λ bodies. ComesAt name p (Ok (emitting (seat name p n) (all_tell bodies))) reply new)
    (sym (told_new era f row (sym (seen.0 n node)))) (comes p n (ready_still ready seen.1) node)

-- the store stopped at a look before any work
pub stopped_due : {E T : Type 0} {says : Place → T → Type 0} {fault : DbFault} {old new : Base} (name : List ℕ)
    (stated : Seat → Stated) (r : Result Reply E) → Looked says old (Err fault) new →
    IfOk r (λ reply. reply ≡ refusal_of (words_at name) fault) →
    (is_memory (halt_in fault) ≡ true → is_err r ≡ true) →
    IfOk r (λ reply. AtNode name (λ s. Ok (stated s)) old reply new)
stopped_due {fault = fault} name stated (Ok reply) look told memory =
    ended_due stated (stops name (λ s. []) look (record {
      is = told;
      memory = false_from_ne_true (is_memory (halt_in fault)) (λ short. false≢true (memory short));
    }))
stopped_due name stated (Err e) look told memory = tt

-- ---- on all databases

-- what the owner's database comes to is what the statement comes to
pub owned_worked : {K : Type 0} {g : Ghosts K} {set_id : ℕ} {a : Addresses} {olds : Named Base}
    {ds : List (NamedDatabase K g)} {i : ℕ} {x y : NamedDatabase K g} (kept : K → Kept)
    (does : Seat → Result Stated Refusal) (reply : Reply) → Worked (named_base kept) x.name ds i x y →
    Owns kept set_id a.lines olds (At i) ds →
    AtNode x.name does (base_of kept x.database) reply (base_of kept y.database) →
    Executes a (λ run w. bind (owner run set_id w) does) olds reply (bases_of kept (set ds i y))
owned_worked {ds = ds} {i} {x} {y} kept does reply at owns comes w run ready lines cluster =
    let found = owns w run ready lines in
    let own = found.1 x at.is.held in
    subst (λ due. Comes w due reply (bases_of kept (set ds i y))) (sym (ap (λ r. bind r does) own.due))
    (comes_worked does at (ready_mids ready found.0)
    (record { found = own.found; running = own.running; fits = found.0 }) own.is comes)

-- nobody owns the set
pub owned_nobody : {K : Type 0} {g : Ghosts K} (kept : K → Kept) (set_id : ℕ) (a : Addresses) (olds : Named Base)
    (ds : List (NamedDatabase K g)) (does : Seat → Result Stated Refusal) → Owns kept set_id a.lines olds Nobody ds →
    Executes a (λ run w. bind (owner run set_id w) does) olds (Refused (refused.NoSet set_id)) (bases_of kept ds)
owned_nobody kept set_id a olds ds does owns w run ready lines cluster =
    let found = owns w run ready lines in
    Refuses (refused.NoSet set_id) (ap (λ r. bind r does) found.1) refl found.0

-- the store of a database stopped
pub owned_stopped : {K : Type 0} {g : Ghosts K} {reply : Reply} (kept : K → Kept) (set_id : ℕ) (a : Addresses)
    (olds : Named Base) (ds : List (NamedDatabase K g)) (does : Seat → Result Stated Refusal) →
    Owns kept set_id a.lines olds (Stopped reply) ds →
    Executes a (λ run w. bind (owner run set_id w) does) olds reply (bases_of kept ds)
owned_stopped kept set_id a olds ds does owns w run ready lines cluster = breaks_so (owns w run ready lines)
