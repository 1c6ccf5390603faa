-- A loop that keeps, of one event after the other, what it changes of the tables of sets.
use Rattle.std.proofs.Common.{◌≡◌, ℕ, List, [], ◌∷◌, is_some, ap, ◌∙◌, refl}
use Rattle.std.specs.FinMap.{get}
use Rattle.node_rows.specs.declared.body.Body.{Body}
use Rattle.node_state.specs.declared.memory.Members.{Members}
use Rattle.node_state.specs.Known.{learned_member, learned_name}
use Rattle.node_store.specs.Acting.{HasLearned, learned_member_all, learned_name_all}

-- these bodies make of what is kept now what all make of what was kept first
pub record IsLearning (rest all : List Body) (old now : Members) : Type 0 where
  pub members : (name : List ℕ) → learned_member_all rest name (get now.live name)
      ≡ learned_member_all all name (get old.live name)
  pub names : (name : List ℕ) → learned_name_all rest name (is_some (get now.names name))
      ≡ learned_name_all all name (is_some (get old.names name))

pub none_learned : (all : List Body) (old : Members) → IsLearning all all old old
none_learned all old = record { members = λ name. refl; names = λ name. refl }

-- one more is learned
pub one_learned : {body : Body} {more all : List Body} {old now new : Members} → IsLearning (body ∷ more) all old now →
    ((name : List ℕ) → get new.live name ≡ learned_member body name (get now.live name)) →
    ((name : List ℕ) → is_some (get new.names name) ≡ learned_name body name (is_some (get now.names name))) →
    IsLearning more all old new
one_learned {more = more} is members names = record {
  members = λ name. ap (learned_member_all more name) (members name) ∙ is.members name;
  names = λ name. ap (learned_name_all more name) (names name) ∙ is.names name;
}

-- all are
pub all_learned : {all : List Body} {old now : Members} → IsLearning [] all old now → HasLearned all old now
all_learned is = record { members = is.members; names = is.names }
