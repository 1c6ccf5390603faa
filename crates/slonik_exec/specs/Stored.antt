-- What comes of STORE NODE at two databases.
use Rattle.std.specs.Prelude.{◌≡◌, ℕ, ◌<◌, true, false, List, get_or, length, set, None, Result, Ok, Err, is_some}
use Rattle.slon_base.specs.Keeper.{Kept}
use Rattle.slon_base.specs.declared.keeper.Keeper.{Ghosts}
use Rattle.slon_model.specs.declared.reply.Answer.TheVariants.{Emitted}
use Rattle.slon_model.specs.declared.reply.Reply.{Reply}
use Rattle.slon_model.specs.declared.reply.Reply.TheVariants.{Accepted, InDoubt}
use Rattle.slon_model.specs.World.{refusal_of}
use Rattle.node_change.specs.declared.side.Side.{Side}
use Rattle.node_change.specs.declared.side.Side.TheVariants.{From, To}
use Rattle.app_store.specs.Base.{base_of}
use Rattle.node_store.specs.declared.joining.Joined.{Joined}
use Rattle.node_store.specs.declared.joining.Joined.TheVariants.{Done, EventInDoubt, NodeInDoubt}
use Rattle.node_store.specs.declared.joining.Fell.{Fell}
use Rattle.node_store.specs.Acting.{own_id}
use Rattle.node_store.specs.Joining.{Pair, Joiner, ActsBoth, Joins, is_short}
use Rattle.slonik_exec.specs.declared.databases.Named.{Named as NamedDatabase}
use Rattle.slonik_exec.specs.declared.membership.Spots.{Spots}

-- the names of the database of the event node, and of that which becomes a node
pub record PairNames : Type 0 where
  pub from : List ℕ
  pub to : List ℕ

abbrev pub name_at : Side → PairNames → List ℕ
name_at From names = names.from
name_at To names = names.to

-- what is replied to a join whose event node has this id
abbrev pub join_reply : ℕ → PairNames → Result (ℕ × Joined) Fell → Reply
join_reply own names (Ok (number, Done)) = Accepted (Emitted own number)
join_reply own names (Ok (number, EventInDoubt)) = InDoubt names.from (Emitted own number)
join_reply own names (Ok (number, NodeInDoubt)) = InDoubt names.to (Emitted own number)
join_reply own names (Err f) =
    refusal_of (record { database = name_at f.side names; transaction = None; table = None }) f.fault

-- Two databases under their names, before a join or behind it.
pub record Couple : Type 0 where
  pub names : PairNames
  pub bases : Pair

-- What is replied to a join, and what it promises of both databases.
pub record JoinsTold (j : Joiner) (old : Couple) (reply : Reply) (new : Pair) : Type 0 where
  pub result : Result (ℕ × Joined) Fell
  pub told : reply ≡ join_reply (own_id old.bases.from.memory.identity) old.names result
  pub full : is_short result ≡ false
  pub acts : ActsBoth old.bases result new
  pub joins : Joins j old.bases result new

abbrev pub pair_of : {K : Type 0} {g : Ghosts K} → (K → Kept) → NamedDatabase K g → NamedDatabase K g → Pair
pair_of kept from to = record { from = base_of kept from.database; to = base_of kept to.database }

abbrev pub couple_of : {K : Type 0} {g : Ghosts K} → (K → Kept) → NamedDatabase K g → NamedDatabase K g → Couple
couple_of kept from to =
    record { names = record { from = from.name; to = to.name }; bases = pair_of kept from to }

-- ---- two indices

-- The databases at two indices are up, and the one is a node and the other is none.
pub record AreJoinable {K : Type 0} {g : Ghosts K} (databases : List (NamedDatabase K g)) (at : Spots) : Type 0 where
  pub inside : at.from < length databases
  pub other : at.to < length databases
  pub apart : at.from ≡ at.to → ⊥
  pub from_up : (d : NamedDatabase K g) → d ≡ get_or databases at.from d → d.database.state.up ≡ true
  pub node : (d : NamedDatabase K g) → d ≡ get_or databases at.from d → is_some d.database.state.node.identity ≡ true
  pub to_up : (d : NamedDatabase K g) → d ≡ get_or databases at.to d → d.database.state.up ≡ true
  pub free : (d : NamedDatabase K g) → d ≡ get_or databases at.to d → is_some d.database.state.node.identity ≡ false

-- These two were changed by a join, which told this.
pub record JoinedAt {K : Type 0} {g : Ghosts K} (kept : K → Kept) (j : Joiner) (at : Spots)
    (olds : List (NamedDatabase K g)) (reply : Reply) (news : List (NamedDatabase K g)) : Type 0 where
  pub from_old : NamedDatabase K g
  pub from_new : NamedDatabase K g
  pub to_old : NamedDatabase K g
  pub to_new : NamedDatabase K g
  pub from_held : from_old ≡ get_or olds at.from from_old
  pub to_held : to_old ≡ get_or olds at.to to_old
  pub from_name : from_new.name ≡ from_old.name
  pub to_name : to_new.name ≡ to_old.name
  pub is : news ≡ set (set olds at.from from_new) at.to to_new
  pub told : JoinsTold j (couple_of kept from_old to_old) reply (pair_of kept from_new to_new)
