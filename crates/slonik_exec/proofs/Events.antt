-- What a statement comes to that has a node emit one event.
use Rattle.std.proofs.Common.{◌≡◌, ◌∙◌, ℕ, Bool, true, false, Option, List, [], ◌∷◌, None, Some, Result, Ok, Err}
use Rattle.std.proofs.Common.{refl, sym, ap, subst}
use Rattle.std.specs.Prelude.{unwrap_or, is_err, IfOk}
use Rattle.std.proofs.lemmas.Bool.{false≢true, false_from_ne_true}
use Rattle.std.specs.Option.{option_map}
use Rattle.node_rows.specs.declared.body.Body.{Body}
use Rattle.node_state.specs.declared.memory.Identity.{Identity}
use Rattle.slon_model.specs.declared.fault.DbFault.{DbFault}
use Rattle.slon_model.specs.declared.reply.Answered.{Answered}
use Rattle.slon_model.specs.declared.reply.Reply.{Reply}
use Rattle.slon_model.specs.World.{reply_of}
use Rattle.app_store.specs.Base.{Base}
use Rattle.app_store.specs.Serves.{answered, is_memory, trouble}
use Rattle.node_store.specs.Acting.{Announces, own_id, emitted, next_event}
use Rattle.slon_model.specs.declared.reply.Refusal.{Refusal}
use Rattle.slon_model.specs.Names.{Named}
use Rattle.slon_model.specs.Rows.{Rows}
use Rattle.slon_model.specs.Deeds.{Node}
use Rattle.slon_model.specs.Place.{Place}
use Rattle.slon_model.specs.Sessions.{Seat, seat, checked}
use Rattle.slon_model.specs.Reaching.{emitting}
use Rattle.node_state.specs.Known.{Learns}
use Rattle.node_state.proofs.Formed.{if_ok}
use Rattle.app_store.specs.Fits.{Ready}
use Rattle.slonik_exec.specs.Answering.{Answers, ComesAt}
use Rattle.slonik_exec.specs.Emitting.{Emits, EmitsAll}
use Rattle.slonik_exec.proofs.Telling.{words_at}
use Rattle.slonik_exec.proofs.Works.{Checked, commits_due, passed_due, answers_then, ready_still}

-- The reply to the emission of events, of which there was memory to tell.
pub record Announced (name : List ℕ) (bodies : List Body) (old : Base) (reply : Reply) (new : Base) : Type 0 where
  pub result : Result Answered DbFault
  pub told : reply ≡ reply_of (words_at name) result
  pub memory : is_memory (trouble result) ≡ false
  pub announces : Announces bodies old result new

pub emits_so : {name : List ℕ} {bodies : List Body} {old new : Base} {reply : Reply} →
    Announced name bodies old reply new → EmitsAll name bodies old reply new
emits_so {name} a p n ms ready is same learns =
    commits_due a.told (record { is = refl; named = refl }) (a.announces p n ready is a.memory name ms same learns)

pub emits_if : {E : Type 0} {bodies : List Body} {old new : Base} (name : List ℕ) (r : Result Reply E)
    (result : Result Answered DbFault) → IfOk r (λ reply. reply ≡ reply_of (words_at name) result) →
    (is_memory (trouble result) ≡ true → is_err r ≡ true) → Announces bodies old result new →
    IfOk r (λ reply. EmitsAll name bodies old reply new)
emits_if name (Ok reply) result told memory announces =
    emits_so (record {
      result = result;
      told = told;
      memory = false_from_ne_true (is_memory (trouble result)) (λ short. false≢true (memory short));
      announces = announces;
    })
emits_if name (Err e) result told memory announces = tt

-- one event is a list of one
pub emits_one : {name : List ℕ} {body : Body} {old new : Base} {reply : Reply} →
    EmitsAll name (body ∷ []) old reply new → Emits name body old reply new
emits_one {body = body} emits p n rows ready is learns =
    emits p n (record { body = body; rows = rows } ∷ []) ready is refl (learns, tt)

-- the id of the node by the memory of its database
own_by : (identity : Option Identity) (found : Option ℕ) (node : ℕ) → found ≡ option_map (λ i. i.id) identity →
    found ≡ Some node → own_id identity ≡ node
own_by identity found node told is = ap (λ o. unwrap_or o 0) (sym told ∙ is)

-- An event of this number is emitted by this node.
pub record Numbered (identity : Option Identity) (node number : ℕ) (doubt : Bool)
    (result : Result (ℕ × Bool) DbFault) : Type 0 where
  pub found : Option ℕ
  pub told : found ≡ option_map (λ i. i.id) identity
  pub is : found ≡ Some node
  pub doubtful : Bool
  pub same : doubtful ≡ doubt
  pub result_is : result ≡ Ok (number, doubtful)

pub answered_so : {identity : Option Identity} {node number : ℕ} {doubt : Bool}
    {result : Result (ℕ × Bool) DbFault} → Numbered identity node number doubt result →
    answered (emitted (own_id identity)) result ≡ Ok (emitted node (number, doubt))
answered_so {identity} {node} {number} {doubt} n =
    ap (answered (emitted (own_id identity))) n.result_is
    ∙ ap (λ b. Ok (emitted (own_id identity) (number, b))) n.same
    ∙ ap (λ o. Ok (emitted o (number, doubt))) (own_by identity n.found node n.told n.is)

-- ---- behind a check

-- What a statement made of a database by the emission of an event.
pub record Spoke {E : Type 0} (name : List ℕ) (body : Body) (old : Base) (r : Result Reply E) (new : Base) :
    Type 0 where
  pub answers : IfOk r (λ reply. Answers name old reply new)
  pub emits : IfOk r (λ reply. Emits name body old reply new)

pub spoke_as : {E : Type 0} {was name : List ℕ} {said body : Body} {old new : Base} {r : Result Reply E} →
    was ≡ name → said ≡ body → Spoke was said old r new → Spoke name body old r new
spoke_as {was = was} {name} {said} {body} {old} {new} {r} same is spoke =
    subst (λ n. Spoke n body old r new) same (subst (λ b. Spoke was b old r new) is spoke)

-- a check let the statement go on
pub answers_behind : {E : Type 0} {name : List ℕ} {one : Seat → List (Option Refusal)} {body : Body}
    {old mid new : Base} (r : Result Reply E) → Checked name one old None mid → Spoke name body mid r new →
    IfOk r (λ reply. Answers name old reply new)
answers_behind {name = name} {old = old} {mid} {new} r first spoke =
    if_ok (λ reply. Answers name mid reply new) (λ reply. Answers name old reply new) r
    (λ reply answers. answers_then first.checks.0 answers) spoke.answers

pub emits_behind : {name : List ℕ} {one : Seat → List (Option Refusal)} {body : Body} {old mid new : Base}
    {reply : Reply} → Checked name one old None mid → Emits name body mid reply new → (p : Place) (n : Node)
    (rows : Named Rows) → Ready p old × (p.node ≡ Some n) × Learns n (next_event p n body) →
    ComesAt name p (checked (one (seat name p n))
    (emitting (seat name p n) (record { body = body; rows = rows } ∷ []))) reply new
emits_behind {name} {one} {body} first emits p n rows (ready, is, learns) =
    let here = first.refuses p n ready is in
    let s = seat name p n in
    passed_due (one s) (emitting s (record { body = body; rows = rows } ∷ [])) here.0
    (emits p n rows (ready_still ready here.1) is learns)
