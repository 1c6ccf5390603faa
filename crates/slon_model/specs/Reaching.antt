-- How a script reaches a node: by its NODE line, the name of a database in it, and what that database is.
use Rattle.std.specs.Prelude.{ℕ, suc, ◌==◌, ◌&&◌, ◌||◌, if◌then◌else◌, not, is_some, is_none, Bool, true, List, [], ◌∷◌}
use Rattle.std.specs.Prelude.{length, filter, find, filter_map, nat_lt, take, drop, codes, Option, Some, None}
use Rattle.std.specs.Prelude.{option_map, unwrap_or, Result, Ok, Err}
use Rattle.std.specs.Str.{bytes_eq}
use Rattle.std.specs.Option.{option_or}
use Rattle.std.specs.List.{slice_split, list_any}
use Rattle.slon_model.specs.declared.reply.Answer.TheVariants.{Emitted}
use Rattle.slon_model.specs.declared.reply.Refusal.{Refusal}
use Rattle.slon_model.specs.declared.reply.Refusal.TheVariants as refused
use Rattle.slon_model.specs.Names.{Named, find_named}
use Rattle.slon_model.specs.Maps.{Map, entry_at}
use Rattle.node_rows.specs.declared.rows.Subscription.{Subscription}
use Rattle.slon_model.specs.Config.{Config, set_row, is_origin, era_of, receivers}
use Rattle.slon_model.specs.Deeds.{Node, Knowledge, knowledge}
use Rattle.slon_model.specs.Place.{Place, is_running, node_id}
use Rattle.slon_model.specs.Sessions.{World, Running, Seat, Stated, Commit, Emission, bind, when, checked, seat}
use Rattle.slon_model.specs.Sessions.{seat_of, emissions, next_event}

-- ---- conninfo

-- a space, a tab or a carriage return
abbrev pub is_blank : ℕ → Bool
is_blank c = c == 32 || c == 9 || c == 13

-- what stands behind a prefix of a word
abbrev pub behind_prefix : List ℕ → List ℕ → Option (List ℕ)
behind_prefix prefix word =
    if bytes_eq (take (length prefix) word) prefix then Some (drop (length prefix) word) else None

-- the last word that begins so
abbrev pub last_behind : List ℕ → List (List ℕ) → Option (List ℕ)
last_behind prefix [] = None
last_behind prefix (word ∷ words) = option_or (last_behind prefix words) (behind_prefix prefix word)

-- the database that a conninfo names: the value of `dbname`, else of `service`, else nothing
abbrev pub database_in : List ℕ → List ℕ
database_in conninfo =
    let words = slice_split is_blank conninfo in
    unwrap_or (option_or (last_behind (codes "dbname=") words) (last_behind (codes "service=") words)) []

-- ---- reaching

abbrev pub database_up : List ℕ → Option Place → Result (List ℕ × Place) Refusal
database_up name None = Err (refused.NoDatabase name)
database_up name (Some p) = if is_running p.standing then Ok (name, p) else Err (refused.Down name)

-- 45, 17, 16: the database of a NODE line
abbrev pub database_by : World → ℕ → Option (List ℕ) → Result (List ℕ × Place) Refusal
database_by w id None = Err (refused.NoConninfo id)
database_by w id (Some conninfo) =
    let name = database_in conninfo in
    database_up name (find_named name w.places)

abbrev pub database_of_line : Running → ℕ → World → Result (List ℕ × Place) Refusal
database_of_line run id w = database_by w id (entry_at id run.lines)

-- it is this node of the cluster of the script
abbrev pub is_node_of : Running → ℕ → Seat → Bool
is_node_of run id s = s.node.id == id && bytes_eq s.node.cluster run.cluster

-- 45, 17, 16, 41, 42: the database of a NODE line is the node of its id
abbrev pub reach : Running → ℕ → World → Result Seat Refusal
reach run id w =
    bind (database_of_line run id w) (λ e. bind (seat_of (refused.NotInitialised id) e e.1.node)
    (λ s. checked (when (not (is_node_of run id s)) (refused.OtherNode id) ∷ []) s))

-- ---- all databases

-- the databases that are nodes, in the order of their making
abbrev pub nodes_of : World → Named Place
nodes_of w = filter (λ e. is_some (node_id e.1)) w.places

-- 16 of the first of them that is down
abbrev pub down_among : Named Place → Option Refusal
down_among [] = None
down_among (e ∷ es) = if is_running e.1.standing then down_among es else Some (refused.Down e.0)

-- 16 of any database that is a node
abbrev pub any_down : World → Option Refusal
any_down w = down_among (nodes_of w)

-- what each node knows
abbrev pub all_known : World → List Knowledge
all_known w = filter_map (λ e. option_map knowledge e.1.node) w.places

-- some node knows it so
abbrev pub known_somewhere : (Config → Bool) → World → Bool
known_somewhere test w = list_any (λ k. test k.config) (all_known w)

-- ---- sets

-- 47, 55: the node is the origin of this live set
abbrev pub origin_checks : Seat → ℕ → List (Option Refusal)
origin_checks s set =
    when (is_none (set_row set s.known.config)) (refused.NoSet set)
    ∷ when (not (is_origin s.node.id set s.known.config)) (refused.NotOrigin set) ∷ []

abbrev pub origin_of : Running → ℕ → ℕ → World → Result Seat Refusal
origin_of run origin set w = bind (reach run origin w) (λ s. checked (origin_checks s set) s)

-- ---- the owner of a set

-- some NODE line names this database
abbrev pub is_on_line : Map (List ℕ) → List ℕ → Bool
is_on_line lines name = list_any (λ line. bytes_eq name (database_in line.1)) lines

-- a database that is up and a node
abbrev pub seat_at_place : List ℕ → Place → Option Node → Option Seat
seat_at_place name p None = None
seat_at_place name p (Some n) = if is_running p.standing then Some (seat name p n) else None

-- of the NODE lines
abbrev pub seat_on_line : Running → List ℕ × Place → Option Seat
seat_on_line run e = if is_on_line run.lines e.0 then seat_at_place e.0 e.1 e.1.node else None

-- its node says that it is the origin of the set, in this era
abbrev pub claims : ℕ → Seat → Bool
claims set s = is_origin s.node.id set s.known.config

abbrev pub era_at : ℕ → Seat → ℕ
era_at set s = era_of set s.known.config

-- the greater era counts, and then the lower id
abbrev pub is_better : ℕ → Seat → Seat → Bool
is_better set a b =
    nat_lt (era_at set b) (era_at set a) || (era_at set a == era_at set b && nat_lt a.node.id b.node.id)

abbrev pub beats : ℕ → Seat → Option Seat → Bool
beats set s None = true
beats set s (Some b) = is_better set s b

-- the best of these and of one that was found
abbrev pub better : ℕ → Option Seat → Option Seat → Option Seat
better set best None = best
better set best (Some s) = if claims set s && beats set s best then Some s else best

abbrev pub best_of : ℕ → Running → Option Seat → Named Place → Option Seat
best_of set run best [] = best
best_of set run best (e ∷ es) = best_of set run (better set best (seat_on_line run e)) es

-- the owner of a set: 47 where there is none
abbrev pub found_owner : ℕ → Option Seat → Result Seat Refusal
found_owner set None = Err (refused.NoSet set)
found_owner set (Some s) = Ok s

abbrev pub owner : Running → ℕ → World → Result Seat Refusal
owner run set w = found_owner set (best_of set run None w.places)

-- ---- what several statements ask

-- the first receiver of a set that passes a test
abbrev pub receiver_with : (ℕ × Subscription → Bool) → ℕ → Config → Option ℕ
receiver_with test set c = option_map (λ e. e.0) (find test (receivers set c))

-- ---- what a statement does

abbrev pub commit_of : Seat → List Emission → Commit
commit_of s ms = record { name = s.name; becomes = None; deeds = emissions s (next_event s) ms }

-- the number of the last of these, where the first one has this number
abbrev pub last_number : List Emission → ℕ → ℕ
last_number (m ∷ n ∷ more) number = suc (last_number (n ∷ more) number)
last_number others number = number

-- the node emits these events; the answer has the last number
abbrev pub emitting : Seat → List Emission → Stated
emitting s ms =
    record { answer = Emitted s.node.id (last_number ms (next_event s)); commits = commit_of s ms ∷ [] }
