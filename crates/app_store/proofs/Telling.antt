-- The status of a database, which is that of its node.
use Rattle.std.proofs.Common.{◌≡◌, ℕ, List, [], Option, Some, None, Ok, refl, sym, ap, subst, ◌∙◌}
use Rattle.std.specs.Option.{option_map}
use Rattle.slon_base.specs.Keeper.{Kept, Store}
use Rattle.slon_model.specs.declared.reply.Answer.{Answer}
use Rattle.slon_model.specs.declared.reply.Answer.TheVariants.{Status as StatusIs}
use Rattle.slon_model.specs.declared.reply.Answered.TheVariants.{Sure}
use Rattle.slon_model.specs.Tasks.{ToTell}
use Rattle.slon_model.specs.Deeds.{Node}
use Rattle.slon_model.specs.Place.{Place}
use Rattle.slon_model.specs.Moves.{Stays}
use Rattle.slon_model.specs.Deciding.{Accepts, status_of}
use Rattle.node_state.specs.declared.memory.Identity.{Identity}
use Rattle.node_state.specs.Held.{HoldsNode, NodeHeld}
use Rattle.node_state.specs.Handed.{HandedStatus}
use Rattle.node_state.specs.Known.{identity_of}
use Rattle.app_store.specs.Base.{Base}
use Rattle.app_store.specs.Handed.{HandedTold}
use Rattle.app_store.specs.Serves.{Comes}
use Rattle.app_store.proofs.Standing.{carried, looked}
use Rattle.app_store.proofs.Transacting.{decided}
use Rattle.app_store.proofs.Upright.{UpAt, running, IsLooked}

-- no id is kept of a database that is no node
nobody : (own : Option Node) (identity : Option Identity) → identity ≡ identity_of own →
    None ≡ option_map (λ i. i.id) identity → own ≡ None
nobody None identity is none = refl
nobody (Some n) identity is none =
    let bad : None ≡ Some n.id = none ∙ ap (option_map (λ i. i.id)) is in absurd cc

pub told_none : {p : Place} {b : Base} {progress : List (ℕ × ℕ)} {kept : List (ℕ × ℕ × List ℕ)} → UpAt p b →
    None ≡ option_map (λ i. i.id) b.memory.identity → progress ≡ [] → kept ≡ [] →
    Comes ToTell p (Ok (Sure (StatusIs 0 0 progress kept))) b
told_none {p} {b} {progress} {kept} at none progress_is kept_is =
    carried ToTell p (Accepts (StatusIs 0 0 progress kept) Stays) b
    (decided ToTell (Accepts (StatusIs 0 0 progress kept) Stays) _ at
    (ap (λ own. Accepts (status_of own) Stays) (nobody p.node b.memory.identity (running at).1.known.identity_is none)
    ∙ (λ i. Accepts (StatusIs 0 0 (sym progress_is i) (sym kept_is i)) Stays)) refl) at.ready.fits

pub told_some : {p : Place} {b : Base} (n : Node) (kept : Kept) (answer : Answer) → UpAt p b → p.node ≡ Some n →
    answer ≡ status_of (Some n) → IsLooked b.kept kept →
    Comes ToTell p (Ok (Sure answer)) (record b { kept = kept })
told_some {p} {b} n kept answer at is answer_is left =
    carried ToTell p (Accepts answer Stays) _
    (decided ToTell (Accepts answer Stays) _ at
    (ap (λ own. Accepts (status_of own) Stays) is ∙ ap (λ a. Accepts a Stays) (sym answer_is)) refl)
    (looked p b kept at.ready.fits left.held left.later)

-- the node of an id that is kept, and what is held of it
pub node_known : {id : ℕ} {identity : Option Identity} (own : Option Node) → identity ≡ identity_of own →
    Some id ≡ option_map (λ i. i.id) identity →
    (n : Node) × (own ≡ Some n) × (n.id ≡ id) × ((m : Store) → HoldsNode own m → NodeHeld n m)
node_known {id} None is some = let bad : Some id ≡ None = some ∙ ap (option_map (λ i. i.id)) is in absurd cc
node_known {id} (Some n) is some =
    let same : Some id ≡ Some n.id = some ∙ ap (option_map (λ i. i.id)) is in
    let id_is : n.id ≡ id = cc in (n, refl, id_is, λ m held. held)

-- ---- what is handed

pub nobody_handed : (identity : Option Identity) (m : Store) (space : ℕ) → None ≡ option_map (λ i. i.id) identity →
    HandedTold identity m space → ⊥
nobody_handed None m space none handed = handed
nobody_handed (Some i) m space none handed = absurd cc

pub node_handed : {id : ℕ} (identity : Option Identity) (m : Store) (space : ℕ) →
    Some id ≡ option_map (λ i. i.id) identity → HandedTold identity m space → HandedStatus id m space
node_handed None m space some handed = absurd handed
node_handed {id} (Some i) m space some handed =
    let same : i.id ≡ id = cc in subst (λ own. HandedStatus own m space) same handed

pub handed_node : {id : ℕ} (identity : Option Identity) (m : Store) (space : ℕ) →
    Some id ≡ option_map (λ i. i.id) identity → HandedStatus id m space → HandedTold identity m space
handed_node None m space some handed = absurd cc
handed_node {id} (Some i) m space some handed =
    let same : id ≡ i.id = cc in subst (λ own. HandedStatus own m space) same handed
