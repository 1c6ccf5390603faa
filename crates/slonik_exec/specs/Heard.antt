-- What all nodes are asked, and what comes of it.
use Rattle.std.specs.Prelude.{◌≡◌, ℕ, Bool, true, false, List, [], ◌∷◌, Option, Some, None, is_some, Result}
use Rattle.std.specs.List.{list_any}
use Rattle.std.specs.Str.{bytes_eq}
use Rattle.slon_base.specs.Codec.{IsText}
use Rattle.slon_base.specs.declared.keeper.Keeper.{Ghosts}
use Rattle.store_rows.specs.Rows.{IsId}
use Rattle.slon_model.specs.declared.reply.Refusal.TheVariants as refused
use Rattle.slon_model.specs.declared.reply.Reply.{Reply}
use Rattle.slon_model.specs.declared.reply.Reply.TheVariants.{Refused}
use Rattle.slon_model.specs.Names.{Named, find_named}
use Rattle.slon_model.specs.Maps.{entry_at}
use Rattle.slon_model.specs.Config.{Config}
use Rattle.slon_model.specs.Deeds.{Node, knowledge}
use Rattle.slon_model.specs.Place.{Place, is_running, node_id}
use Rattle.slon_model.specs.Sessions.{World}
use Rattle.slon_model.specs.Reaching.{known_somewhere, any_down}
use Rattle.slon_model.specs.World.{CanFail, broken_at}
use Rattle.slon_model.specs.declared.fault.DbFault.{DbFault}
use Rattle.app_store.specs.Base.{Base}
use Rattle.app_store.specs.Fits.{Ready}
use Rattle.app_store.specs.Parts.{LooksUp}
use Rattle.app_store.specs.Serves.{halts, is_memory}
use Rattle.slonik_exec.specs.declared.databases.Named.{Named as NamedDatabase}
use Rattle.slonik_exec.specs.declared.knowing.Question.{Question}
use Rattle.slonik_exec.specs.declared.knowing.Question.TheVariants.{Node as OfNode, Set, Table, Name}
use Rattle.slonik_exec.specs.declared.knowing.Heard.{Heard}
use Rattle.slonik_exec.specs.declared.knowing.Heard.TheVariants.{Known, Stopped}
use Rattle.slonik_exec.specs.Databases.{FitsAll, AreReady, TriesAll, Runs}
use Rattle.slonik_exec.specs.Reached.{IsUpAt, IsNodeAt}

-- ---- questions

-- what a node is asked of its configuration
abbrev pub test_of : Question → Config → Bool
test_of (OfNode id) = λ c. is_some (entry_at id c.nodes)
test_of (Set id) = λ c. is_some (entry_at id c.sets)
test_of (Table id) = λ c. is_some (entry_at id c.tables)
test_of (Name name) = λ c. list_any (λ e. bytes_eq name.now e.1.name) c.tables

-- its id is in the range, or its name can be spelled
abbrev pub CanAsk : Question → Type 0
CanAsk (OfNode id) = IsId id
CanAsk (Set id) = IsId id
CanAsk (Table id) = IsId id
CanAsk (Name name) = IsText name.now

-- what a node knows of it; a database that is no node knows nothing
abbrev pub known_by : (Config → Bool) → Option Node → Bool
known_by test None = false
known_by test (Some n) = test (knowledge n).config

abbrev pub IsKnownBy : (Config → Bool) → Place → Bool → Type 0
IsKnownBy test p known = known ≡ known_by test p.node

-- a database that is a node is up
abbrev pub IsAwake : Place → Type 0
IsAwake p = is_some (node_id p) ≡ true → is_running p.standing ≡ true

-- from every place that fits and is awake: a database that is asked
abbrev pub Knows : (Config → Bool) → Base → Result Bool DbFault → Base → Type 0
Knows test old result new =
    (p : Place) → Ready p old → IsAwake p → is_memory (halts result) ≡ false → LooksUp (IsKnownBy test) p result new

-- ---- answers of all

-- no name stands twice
abbrev pub AreDistinct : Named Base → Type 0
AreDistinct [] = Unit {0}
AreDistinct (b ∷ bs) = (find_named b.0 bs ≡ None) × AreDistinct bs

-- each database has the name and the memory that it had
abbrev pub AreSame : Named Base → Named Base → Type 0
AreSame [] [] = Unit {0}
AreSame (o ∷ os) (n ∷ ns) = (n.0 ≡ o.0) × (n.1.memory ≡ o.1.memory) × AreSame os ns
AreSame olds news = ⊥

-- over every store
abbrev pub RunsHeard : Named Base → Heard → Named Base → Type 0
RunsHeard old (Known known) new = TriesAll true None old new × AreSame old new
RunsHeard old (Stopped reply) new = Runs old reply new

-- What was found of a database holds still: at which index it is, that it is up, and that it is a node.
pub record KeepsAll {K : Type 0} {g : Ghosts K} (olds news : List (NamedDatabase K g)) : Type 0 where
  pub ups : (name : List ℕ) (i : ℕ) → IsUpAt name olds i → IsUpAt name news i
  pub nodes : (name : List ℕ) (i : ℕ) → IsNodeAt name olds i → IsNodeAt name news i

abbrev pub KeepsFound : {K : Type 0} {g : Ghosts K} → List (NamedDatabase K g) → Heard → List (NamedDatabase K g) →
    Type 0
KeepsFound olds (Known known) news = KeepsAll olds news
KeepsFound olds (Stopped reply) news = Unit {0}

-- the store of one database failed, and all else is as it was
pub record BreaksDown (w : World) (reply : Reply) (new : Named Base) : Type 0 where
  pub name : List ℕ
  pub count : ℕ
  pub told : reply ≡ Refused (refused.Fault name count)
  pub can : CanFail count (find_named name w.places)
  pub fits : FitsAll (broken_at name count (find_named name w.places) w).places new

abbrev pub HearsIn : (Config → Bool) → World → Heard → Named Base → Type 0
HearsIn test w (Known known) new = (known ≡ known_somewhere test w) × FitsAll w.places new
HearsIn test w (Stopped reply) new = BreaksDown w reply new

-- from every world that agrees and whose nodes are up
abbrev pub Hears : Question → Named Base → Heard → Named Base → Type 0
Hears question old heard new = (w : World) → AreReady w old → any_down w ≡ None → HearsIn (test_of question) w heard new
