-- A database that is a node stays the node of the same id.
use Rattle.std.proofs.Common.{◌≡◌, ◌∙◌, ℕ, true, false, cond, List, Option, Some, None, refl, sym, ap}
use Rattle.std.specs.Prelude.{◌==◌, option_map}
use Rattle.std.specs.Option.{option_or}
use Rattle.slon_model.specs.declared.numbering.Numbering.{Numbering}
use Rattle.slon_model.specs.declared.numbering.Numbering.TheVariants.{Xids, Actions}
use Rattle.slon_model.specs.Deeds.{Node, Deed, with_deeds}
use Rattle.slon_model.specs.Place.{Place, own_count, stamped, with_counter, lifted, raised, founded}
use Rattle.slon_model.specs.Moves.{Move, Founds, Begins, Writes, Commits, Rises, first_rows, prepared, with_commit}
use Rattle.slon_model.specs.Moves.{done}
use Rattle.slon_laws.specs.Keeps.{Keeps}
use Rattle.slon_laws.specs.Spelled.{IsAlone}
use Rattle.slon_laws.specs.Turning.{IsFormed}

abbrev pub id_of : Option Node → Option ℕ
id_of o = option_map (λ n. n.id) o

-- the database is the node of this id
abbrev pub IsNodeOf : ℕ → Place → Type 0
IsNodeOf id p = id_of p.node ≡ Some id

-- ---- a move

raised_id : (kind : Numbering) (p : Place) → id_of (raised kind p).node ≡ id_of p.node
raised_id Xids p =
    elim (p.xids.next == p.xids.ceiling)
    as (λ b. id_of (cond b (stamped (with_counter Xids (lifted p.xids) p)) p).node ≡ id_of p.node) [
      | true ↦ refl
      | false ↦ refl
    ]
raised_id Actions p =
    elim (p.numbers.next == p.numbers.ceiling)
    as (λ b. id_of (cond b (stamped (with_counter Actions (lifted p.numbers) p)) p).node ≡ id_of p.node) [
      | true ↦ refl
      | false ↦ refl
    ]

first_id : (p : Place) → id_of (first_rows p).node ≡ id_of p.node
first_id p = elim (p.stamp == 0) as (λ b. id_of (cond b (founded p) p).node ≡ id_of p.node) [
  | true ↦ refl
  | false ↦ refl
]

prepared_id : (move : Move) (p : Place) → id_of (prepared move p).node ≡ id_of p.node
prepared_id (Begins name) p = raised_id Xids p
prepared_id (Writes xid table change) p = raised_id Actions p
prepared_id Rises p = first_id p
prepared_id others p = refl

logged_id : (xid : ℕ) (p : Place) (o : Option Node) → id_of (option_map (with_commit xid p) o) ≡ id_of o
logged_id xid p None = refl
logged_id xid p (Some n) = refl

done_id : (move : Move) (p : Place) → id_of (done move p).node ≡ id_of p.node
done_id Founds p = first_id p
done_id (Begins name) p = raised_id Xids p
done_id (Writes xid table change) p = raised_id Actions p
done_id Rises p = first_id p
done_id (Commits name xid) p =
    elim (own_count xid p == 0)
    as (λ b. id_of (cond b p.node (option_map (with_commit xid p) p.node)) ≡ id_of p.node) [
      | true ↦ refl
      | false ↦ logged_id xid p p.node
    ]
done_id others p = refl

-- ---- a commit of a script or a turn

becomes_id : (id : ℕ) (ds : List Deed) (becomes own : Option Node) → IsAlone becomes own → id_of own ≡ Some id →
    id_of (option_map (with_deeds ds) (option_or becomes own)) ≡ Some id
becomes_id id ds None None alone is = is
becomes_id id ds None (Some n) alone is = is
becomes_id id ds (Some m) own alone is = let never : None ≡ Some id = sym (ap id_of alone) ∙ is in absurd cc

pub keeps_id : (id : ℕ) → Keeps IsFormed (λ task. Unit {0}) (IsNodeOf id) (IsNodeOf id)
keeps_id id = record {
  tasks = record {
    stays = λ p is. is;
    prepares = λ task move p may is. prepared_id move p ∙ is;
    moves = λ task move p one may is. done_id move p ∙ is;
    falls = λ count p is. is;
    wavers = λ stands p is. is;
  };
  commits = λ c p formed is. becomes_id id c.deeds c.becomes p.node formed.1.alone is;
  promises = λ node p is. is;
}
