-- Statements about sets: CREATE SET, DROP SET, SET ADD TABLE.
use Rattle.std.specs.Prelude.{ℕ, is_some, is_none, true, List, [], ◌∷◌, Option, option_map, Result, Ok}
use Rattle.std.specs.Str.{bytes_eq}
use Rattle.std.specs.List.{list_any}
use Rattle.slon_model.specs.declared.reply.Refusal.{Refusal}
use Rattle.slon_model.specs.declared.reply.Refusal.TheVariants as refused
use Rattle.slon_model.specs.Names.{find_named}
use Rattle.slon_model.specs.Maps.{entry_at}
use Rattle.node_rows.specs.declared.body.Body.TheVariants.{StoreSet, DropSet, SetAddTable}
use Rattle.slon_model.specs.Place.{standing_rows}
use Rattle.slon_model.specs.Sessions.{World, Running, Seat, Stated, Emission, bind, when, checked, writer_of}
use Rattle.slon_model.specs.Sessions.{tells}
use Rattle.slon_model.specs.Reaching.{reach, any_down, known_somewhere, origin_of, emitting, receiver_with}
use Rattle.slon_model.specs.Membership.{comment_of}

-- CREATE SET: reach the origin; any 16; 18
abbrev pub create_set : ℕ → ℕ → Option (List ℕ) → Running → World → Result Stated Refusal
create_set id origin comment run w =
    bind (reach run origin w) (λ s.
    checked (any_down w ∷ when (known_somewhere (λ c. is_some (entry_at id c.sets)) w) (refused.IdUsed id) ∷ [])
    (emitting s (tells (StoreSet id origin (comment_of comment)) ∷ [])))

-- DROP SET: reach the origin; 47; 55
abbrev pub drop_set : ℕ → ℕ → Running → World → Result Stated Refusal
drop_set id origin run w = bind (origin_of run origin id w) (λ s. Ok (emitting s (tells (DropSet id) ∷ [])))

-- A table that a statement puts into a set.
pub record NewTable : Type 0 where
  pub set_id : ℕ
  pub id : ℕ
  pub name : List ℕ
  pub comment : List ℕ

-- the event, with the rows that the table has then
abbrev pub adding : Seat → NewTable → Emission
adding s t =
    record { body = SetAddTable t.set_id t.id t.name t.comment; rows = (t.name, standing_rows s.place t.name) ∷ [] }

-- SET ADD TABLE: reach the origin; 47; 55; 46 the least receiver; 52; any 16; 18; 58; 66
abbrev pub set_add_table : ℕ → NewTable → Running → World → Result Stated Refusal
set_add_table origin t run w =
    bind (origin_of run origin t.set_id w) (λ s.
    checked (option_map refused.HasReceivers (receiver_with (λ e. true) t.set_id s.known.config)
    ∷ when (is_none (find_named t.name s.place.tables)) (refused.NoTable t.name)
    ∷ any_down w
    ∷ when (known_somewhere (λ c. is_some (entry_at t.id c.tables)) w) (refused.IdUsed t.id)
    ∷ when (known_somewhere (λ c. list_any (λ e. bytes_eq t.name e.1.name) c.tables) w) (refused.TableUsed t.name)
    ∷ option_map refused.Busy (writer_of (t.name ∷ []) s.place) ∷ [])
    (emitting s (adding s t ∷ [])))
