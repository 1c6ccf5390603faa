-- What a command about a script comes to is told in words that have their forms, and the scripts that run say lines.
use Rattle.std.proofs.Common.{◌≡◌, ℕ, true, false, cond, not, List, [], ◌∷◌, Option, Some, None, refl, sym, subst, Bool}
use Rattle.std.specs.Prelude.{◌==◌, Bool, find, is_some, codes, option_map, Result, Ok, Err, nat_lt, map}
use Rattle.std.specs.List.{AllByRecursion}
use Rattle.std.specs.Str.{bytes_eq}
use Rattle.slonik_script.specs.declared.script.Command.{Command as Order}
use Rattle.slonik_script.specs.declared.script.Statement.{Statement}
use Rattle.slonik_script.specs.declared.script.Statement.TheVariants.{Single, Try as Tries}
use Rattle.slon_model.specs.declared.command.Delivery.{Delivery}
use Rattle.slon_model.specs.declared.command.Delivery.TheVariants.{Lost}
use Rattle.slon_model.specs.declared.reading.Reading.{Reading}
use Rattle.slon_model.specs.declared.reading.Reading.TheVariants.{Read, Wrong}
use Rattle.slon_model.specs.declared.reply.Answer.TheVariants.{Echoed}
use Rattle.slon_model.specs.declared.reply.Refusal.{Refusal}
use Rattle.slon_model.specs.declared.reply.Reply.{Reply}
use Rattle.slon_model.specs.declared.reply.Reply.TheVariants.{Refused}
use Rattle.slon_model.specs.Names.{Named, find_named, without}
use Rattle.slon_model.specs.Spoken.{IsLine, IsName, IsOrder, IsStatement, AreStatements, AreNodeLines, IsReading, IsAct}
use Rattle.slon_model.specs.Tasks.{Act, ToRead, ToStep, ToForget, ToStart, ToStop, ToCut, ToJoin, ToSync, ToListen}
use Rattle.slon_model.specs.Tasks.{ToFetch, ToWork}
use Rattle.slon_model.specs.Events.{Event}
use Rattle.slon_model.specs.Config.{has_path, is_known, names_of, tables_of, is_origin, Config}
use Rattle.node_rows.specs.declared.body.Body.TheVariants.{Sync}
use Rattle.slon_model.specs.Deeds.{Node}
use Rattle.slon_model.specs.Place.{Place, is_running, node_id}
use Rattle.slon_model.specs.Sessions.{World, Memory, Running, Stated, Outcome, Excess, Seat, seat_of, excess_of}
use Rattle.slon_model.specs.Sessions.{no_change, bind, tells, when, writer_of}
use Rattle.slon_model.specs.Scripts.{Stepping, ending, done_by, single, order_step, statement_step, step_todo, step_of}
use Rattle.slon_model.specs.Scripts.{ordered, quiet, read_as, kill_of}
use Rattle.slon_model.specs.Turns.{is_id, at_node, switched, switched_at, is_cut, with_cuts, seat_at, on_turn, turned}
use Rattle.slon_model.specs.Turns.{turned_by, taken_turn, is_synced, sync_turn}
use Rattle.slon_model.specs.Polls.{Poll, poll_of, hears_none, linked, server_for, brings_nothing, polled, hearing}
use Rattle.slon_model.specs.Polls.{stated_by, left_by}
use Rattle.slon_model.specs.Following.{Found, brought_of, tables_in, FoundCopy, tables_taken, kept_from}
use Rattle.slon_model.specs.Working.{Carried, Copying, Errand, ToCopy, ToFollow, next_at, can_carry_out, taken_up}
use Rattle.slon_model.specs.Working.{Fetched, applied_by, carried, carried_at, copied, copy_checks, errand_of, fetched}
use Rattle.slon_model.specs.Working.{fetched_at, fetched_by, found_by, found_for, found_or, given_up, kept_fetch}
use Rattle.slon_model.specs.Working.{linked_to, provided, settled, taken_from, with_fetch, work_ended, worked, given_at}
use Rattle.slon_model.specs.Working.{names_taken, rows_at, progress_in, provider_of, followed_all, followed}
use Rattle.slon_model.specs.Membership.{synced}
use Rattle.slon_model.specs.Rows.{member}
use Rattle.slon_model.specs.World.{outcome}
use Rattle.slon_model.proofs.Names.{all_found}
use Rattle.slon_laws.specs.Worlds.{AllPlaces}
use Rattle.stream_laws.specs.Facts.{IsRegular}
use Rattle.stream_laws.proofs.Seats.{OnOk, turn_ok}
use Rattle.reply_forms.proofs.Said.{PlaceReads, names_read}
use Rattle.reply_forms.proofs.Words.{Reads, RefusalReads}
use Rattle.reply_forms.proofs.Statements.{Gives, IsOne, AreNamed, AreCommits, StatedReads, all_filter, ordered_gives}
use Rattle.reply_forms.proofs.Statements.{bind_gives, checked_gives, emitting_reads, when_tells, Tells}
use Rattle.slon_model.specs.Views.{first_view, Views}
use Rattle.slon_model.specs.Snapshots.{Snapshot}
use Rattle.node_rows.specs.declared.rows.TableRow.{TableRow}
use Rattle.slonik_script.specs.declared.script.Command.TheVariants as order
use Rattle.slon_model.specs.declared.reply.Refusal.TheVariants as refused
use Rattle.stream_laws.proofs.Seats as Seats

-- what a script says: its NODE lines are lines, and so are the texts of what is left of it
abbrev pub RunReads : Running → Type 0
RunReads run = AreNodeLines run.lines × AreStatements run.todo

abbrev pub AreRunning : Named Running → Type 0
AreRunning scripts = AllByRecursion (λ e. RunReads e.1) scripts

-- What is known of a session: the names of its databases are names, its scripts say lines, and so do the events that
-- nodes emitted, which stand in regular streams.
pub record Known (w : World) : Type 0 where
  pub named : AreNamed w.places
  pub scripts : AreRunning w.memory.scripts
  pub reads : AllPlaces PlaceReads w
  pub regular : IsRegular w

-- What a command about a script comes to.
pub record Ends (o : Outcome) : Type 0 where
  pub reply : Reads o.reply
  pub commits : AreCommits o.commits
  pub scripts : AreRunning o.memory.scripts

-- what runs beside a script
pub without_running : (name : List ℕ) (scripts : Named Running) → AreRunning scripts → AreRunning (without name scripts)
without_running name scripts all = all_filter (λ e. RunReads e.1) (λ e. not (bytes_eq name e.0)) scripts all

unchanged : (w : World) (reply : Reply) → Known w → Reads reply → Ends (no_change w reply)
unchanged w reply known reads = record { reply = reads; commits = tt; scripts = known.scripts }

ended : (name : List ℕ) (w : World) (reply : Reply) → Known w → Reads reply → Ends (ending name w reply)
ended name w reply known reads =
    record { reply = reads; commits = tt; scripts = without_running name w.memory.scripts known.scripts }

-- ---- a step

-- a step of a script, whose texts are on one line
record Steps (s : Stepping) (w : World) : Type 0 where
  known : Known w
  lines : AreNodeLines s.run.lines
  rest : AreStatements s.rest

done_ends : (s : Stepping) (w : World) (stated : Stated) (o : Option Excess) → Steps s w → StatedReads stated →
    Ends (done_by s w stated o)
done_ends s w stated None steps reads =
    record {
      reply = reads.0;
      commits = reads.1;
      scripts = ((steps.lines, steps.rest), without_running s.name w.memory.scripts steps.known.scripts);
    }
done_ends s w stated (Some e) steps reads =
    record {
      reply = tt;
      commits = tt;
      scripts = without_running s.name w.memory.scripts steps.known.scripts;
    }

single_ends : (s : Stepping) (w : World) (r : Result Stated Refusal) → Steps s w → Gives StatedReads r →
    Ends (single s w r)
single_ends s w (Err refusal) steps reads = ended s.name w (Refused refusal) steps.known reads
single_ends s w (Ok stated) steps reads =
    done_ends s w stated (excess_of stated.commits w.places) steps reads

order_ends : (s : Stepping) (w : World) (o : Order) → Steps s w → IsOrder o → Ends (order_step s w o)
order_ends s w (order.Echo text) steps line = single_ends s w (Ok (quiet (Echoed text))) steps (line, tt)
order_ends s w (order.Exit status) steps texts = ended s.name w _ steps.known tt
order_ends s w others steps texts =
    single_ends s w (ordered others s.run w) steps
    (ordered_gives others s.run w texts (record { lines = steps.lines; named = steps.known.named }))

statement_ends : (s : Stepping) (w : World) (t : Statement) → Steps s w → IsStatement t → Ends (statement_step s w t)
statement_ends s w (Single o) steps texts = order_ends s w o steps texts
statement_ends s w (Tries block) steps texts = single_ends s w (Err (refused.NotBuilt (codes "try"))) steps refl

todo_ends : (name : List ℕ) (run : Running) (todo : List Statement) (w : World) → Known w → AreNodeLines run.lines →
    AreStatements todo → Ends (step_todo name run todo w)
todo_ends name run [] w known lines texts = ended name w _ known tt
todo_ends name run (t ∷ rest) w known lines texts =
    statement_ends (record { name = name; run = run; rest = rest }) w t
    (record { known = known; lines = lines; rest = texts.1 }) texts.0

step_ends : (name : List ℕ) (o : Option Running) (w : World) → IsName name → Known w →
    ((run : Running) → o ≡ Some run → RunReads run) → Ends (step_of name o w)
step_ends name None w named known runs = unchanged w _ known named
step_ends name (Some run) w named known runs =
    let reads = runs run refl in
    todo_ends name run run.todo w known reads.0 reads.1

-- ---- reading and forgetting

read_ends : (name : List ℕ) (reading : Reading) (w : World) → IsReading reading → Known w →
    Ends (read_as name reading w)
read_ends name (Wrong refusal) w reads known = unchanged w _ known reads
read_ends name (Read s) w reads known =
    record { reply = tt; commits = tt; scripts = (reads, without_running name w.memory.scripts known.scripts) }

kill_ends : (name : List ℕ) (o : Option Running) (w : World) → IsName name → Known w → Ends (kill_of name o w)
kill_ends name None w named known = unchanged w _ known named
kill_ends name (Some run) w named known = ended name w _ known tt

-- ---- the slon of a node

switched_ends : (node : ℕ) (m : List ℕ → Memory) (w : World) →
    ((name : List ℕ) → (m name).scripts ≡ w.memory.scripts) → Known w → Ends (switched node m w)
switched_ends node m w same known = by (at_node node w)
  where
    by : (o : Option (List ℕ × Place)) → Ends (switched_at node m o w)
    by None = unchanged w _ known tt
    by (Some e) = record { reply = tt; commits = tt; scripts = subst AreRunning (sym (same e.0)) known.scripts }

-- ---- nodes that are cut off from one another

cuts_end : (cuts : List (ℕ × ℕ)) (w : World) → Known w → Ends (with_cuts cuts w)
cuts_end cuts w known = record { reply = tt; commits = tt; scripts = known.scripts }

-- ---- turns that commit

-- a database whose name is a name
abbrev IsSeat : Seat → Type 0
IsSeat s = IsName s.name

found_in : {X : Type 0} (P : X → Type 0) (test : X → Bool) (xs : List X) (x : X) → AllByRecursion P xs →
    find test xs ≡ Some x → P x
found_in P test [] x all found = absurd cc
found_in P test (y ∷ ys) x all found =
    elim (test y) as (λ b. cond b (Some y) (find test ys) ≡ Some x → P x) [
      | true ↦ λ here. let same : y ≡ x = cc in subst P same all.0
      | false ↦ λ later. found_in P test ys x all.1 later
    ] found

seat_gives : (none : Refusal) (e : List ℕ × Place) (n : Option Node) → RefusalReads none → IsOne e →
    Gives IsSeat (seat_of none e n)
seat_gives none e None reads named = reads
seat_gives none e (Some n) reads named = named

seated_one : (node : ℕ) (e : List ℕ × Place) → IsOne e → Gives IsSeat (seat_at node (Some e))
seated_one node e named =
    elim (is_running e.1.standing)
    as (λ b. Gives IsSeat (cond b (seat_of (refused.NoNode node) e e.1.node) (Err (refused.Down e.0)))) [
      | true ↦ seat_gives (refused.NoNode node) e e.1.node tt named
      | false ↦ named
    ]

seated : (node : ℕ) (o : Option (List ℕ × Place)) → ((e : List ℕ × Place) → o ≡ Some e → IsOne e) →
    Gives IsSeat (seat_at node o)
seated node None named = tt
seated node (Some e) named = seated_one node e (named e refl)

at_named : (node : ℕ) (w : World) → Known w → (e : List ℕ × Place) → at_node node w ≡ Some e → IsOne e
at_named node w known e found = found_in IsOne (λ e. is_id node (node_id e.1)) w.places e known.named found

turn_reads : (node : ℕ) (w : World) → Known w → Gives IsSeat (on_turn node w)
turn_reads node w known =
    bind_gives IsSeat IsSeat (seat_at node (at_node node w)) _
    (seated node (at_node node w) (at_named node w known))
    (λ s named. checked_gives IsSeat (when (not (member node w.memory.started)) (refused.Off node) ∷ []) s
    (when_tells _ (refused.Off node) tt, tt) named)

turned_ends : (w : World) (m : Memory) (stated : Stated) → m.scripts ≡ w.memory.scripts → Known w →
    StatedReads stated → Ends (turned w m stated)
turned_ends w m stated same known reads = by (excess_of stated.commits w.places)
  where
    by : (o : Option Excess) → Ends (turned_by w m stated o)
    by None =
        record { reply = reads.0; commits = reads.1; scripts = subst AreRunning (sym same) known.scripts }
    by (Some e) = record { reply = tt; commits = tt; scripts = known.scripts }

-- a turn that leaves the scripts
taken_ends : {X : Type 0} (P : X → Type 0) (w : World) (left : X → Memory) (stated : X → Stated)
    (due : Result X Refusal) → ((x : X) → (left x).scripts ≡ w.memory.scripts)
    × ((x : X) → P x → StatedReads (stated x)) →
    Known w × Gives P due → Ends (taken_turn w left stated due)
taken_ends P w left stated (Err refusal) kept is = unchanged w (Refused refusal) is.0 is.1
taken_ends P w left stated (Ok x) kept is = turned_ends w (left x) (stated x) (kept.0 x) is.0 (kept.1 x is.1)

-- a SYNC
sync_reads : (node : ℕ) (w : World) → Known w → Gives StatedReads (sync_turn node w)
sync_reads node w known =
    bind_gives IsSeat StatedReads (on_turn node w) _ (turn_reads node w known)
    (λ s named. checked_gives StatedReads (when (is_synced s) refused.Nothing ∷ []) (synced s)
    (when_tells _ refused.Nothing tt, tt) (emitting_reads s (tells Sync ∷ []) named (tt, tt)))

-- ---- polls

-- the name of the database of the node that polls is a name
abbrev IsPoll : Poll → Type 0
IsPoll b = IsSeat b.seat

linked_gives : (server : ℕ) (m : Memory) (s : Seat) (o : Option (List ℕ × Place)) →
    ((e : List ℕ × Place) → o ≡ Some e → IsOne e) → Gives IsOne (linked server m s o)
linked_gives server m s None named = tt
linked_gives server m s (Some e) named =
    checked_gives IsOne
    (when (hears_none server s) (refused.NotListed server)
    ∷ when (is_cut s.node.id server m) (refused.Severed s.node.id server) ∷ []) e
    (when_tells _ (refused.NotListed server) tt, (when_tells _ (refused.Severed s.node.id server) tt, tt))
    (named e refl)

server_gives : (server : ℕ) (w : World) (s : Seat) → Known w → Gives IsSeat (server_for server w s)
server_gives server w s known =
    bind_gives IsSeat IsSeat (bind (linked server w.memory s (at_node server w)) (λ e. seat_at server (Some e))) _
    (bind_gives IsOne IsSeat (linked server w.memory s (at_node server w)) _
    (linked_gives server w.memory s (at_node server w) (at_named server w known)) (seated_one server))
    (λ p named. checked_gives IsSeat (when (not (is_known s.node.id p.known.config)) (refused.NotKnown s.node.id) ∷ [])
    p (when_tells _ (refused.NotKnown s.node.id) tt, tt) named)

polled_gives : (node server : ℕ) (w : World) → Known w → Gives IsPoll (polled node server w)
polled_gives node server w known =
    bind_gives IsSeat IsPoll (on_turn node w) _ (turn_reads node w known)
    (λ s named. bind_gives IsSeat IsPoll (server_for server w s) _ (server_gives server w s known)
    (λ p other. checked_gives IsPoll (when (brings_nothing (poll_of w.memory s p)) refused.Nothing ∷ [])
    (poll_of w.memory s p) (when_tells _ refused.Nothing tt, tt) named))

hearing_named : (s : Seat) (confirms : List (ℕ × ℕ × ℕ)) → IsSeat s → AreCommits (hearing s confirms)
hearing_named s [] named = tt
hearing_named s (c ∷ cs) named = ((named, ((tt, tt), tt)), tt)

poll_reads : (delivery : Delivery) (b : Poll) → IsPoll b → StatedReads (stated_by delivery b)
poll_reads Lost b named = (tt, tt)
poll_reads others b named = (tt, hearing_named b.seat b.confirms named)

-- a poll leaves the scripts
left_scripts : (delivery : Delivery) (b : Poll) (m : Memory) → (left_by delivery b m).scripts ≡ m.scripts
left_scripts Lost b m = refl
left_scripts others b m = refl

-- ---- events that are applied

taken_gives : (s : Seat) (o : Option Event) → IsSeat s → Gives (λ e. IsSeat s) (taken_up o)
taken_gives s None named = tt
taken_gives s (Some e) named =
    checked_gives (λ e. IsSeat s) (when (not (can_carry_out e.body)) (refused.NotBuilt (codes "work")) ∷ []) e
    (when_tells _ (refused.NotBuilt (codes "work")) refl, tt) named

-- what is given has this too, where all that is not refused has it
also_gives : {A : Type 0} (P Q : A → Type 0) (r : Result A Refusal) → Gives P r → OnOk Q r → Gives (λ a. P a × Q a) r
also_gives P Q (Ok a) reads is = (reads, is)
also_gives P Q (Err refusal) reads is = reads

widths_tell : (here there : Place) (names : List (List ℕ)) → AllByRecursion IsLine names →
    AllByRecursion Tells (copy_checks here there names)
widths_tell here there [] lines = tt
widths_tell here there (name ∷ more) lines =
    (when_tells _ (refused.NoTable name) lines.0, (when_tells _ _ tt, widths_tell here there more lines.1))

busy_tells : (o : Option ℕ) → Tells (option_map refused.Busy o)
busy_tells None = tt
busy_tells (Some xid) = tt

-- the provider
provided_gives : (w : World) → Known w → (s : Seat) (e : Event) (provider : ℕ) → Gives IsSeat (provided provider w s e)
provided_gives w known s e provider =
    bind_gives IsSeat IsSeat
    (bind (linked_to provider w.memory s (at_node provider w)) (λ found. seat_at provider found)) _
    (bind_gives Each IsSeat (linked_to provider w.memory s (at_node provider w)) _
    (checked_gives Each (when (not (has_path s.node.id provider s.known.config)) (refused.NoPath provider)
    ∷ when (is_cut s.node.id provider w.memory) (refused.Severed s.node.id provider)
    ∷ when (provider == s.node.id) (refused.NoNode provider) ∷ []) (at_node provider w) (
      when_tells _ (refused.NoPath provider) tt,
      (when_tells _ (refused.Severed s.node.id provider) tt, (when_tells _ (refused.NoNode provider) tt, tt)),
    )
    (at_named provider w known)) (seated provider))
    (λ p named. checked_gives IsSeat (when (not (is_known s.node.id p.known.config)) (refused.NotKnown s.node.id)
    ∷ when (nat_lt (progress_in e p) e.number) (refused.Behind provider (progress_in e p) e.number) ∷ [])
    p (
      when_tells _ (refused.NotKnown s.node.id) tt,
      (when_tells _ (refused.Behind provider (progress_in e p) e.number) tt, tt),
    ) named)
  where
    Each : Option (List ℕ × Place) → Type 0
    Each found = (e : List ℕ × Place) → found ≡ Some e → IsOne e

copied_gives : (c : Copying) (s : Seat) (e : Event) (p : Seat) (seen : Option Snapshot) →
    AllByRecursion IsLine (names_taken s c.set_id) → Gives (λ f. Unit {0}) (copied c s e p seen)
copied_gives c s e p None lines = tt
copied_gives c s e p (Some seen) lines =
    let names = names_taken s c.set_id in
    checked_gives (λ f. Unit {0}) (copy_checks s.place p.place names)
    (FoundCopy c.set_id (first_view c.era e.origin e.number seen) (rows_at p.place names))
    (widths_tell s.place p.place names lines) tt

-- the tables to which a node takes rows are among those of the set
taken_reads : (own set : ℕ) (c : Config) → AllByRecursion IsLine (names_of set c) →
    AllByRecursion IsLine (map (λ t. t.1) (tables_taken own set c))
taken_reads own set c lines = by (is_origin own set c)
  where
    entry : ℕ × TableRow → ℕ × List ℕ
    entry e = (e.0, e.1.name)

    each : (ts : List (ℕ × TableRow)) → AllByRecursion IsLine (map (λ e. e.1.name) ts) →
        AllByRecursion IsLine (map (λ (t : ℕ × List ℕ). t.1) (map entry ts))
    each [] all = tt
    each (t ∷ ts) all = (all.0, each ts all.1)

    by : (b : Bool) →
        AllByRecursion IsLine (map (λ (t : ℕ × List ℕ). t.1) (cond b [] (map entry (tables_of set c))))
    by true = tt
    by false = each (tables_of set c) lines

followed_gives : (w : World) → Known w → (s : Seat) (e : Event) (vs : Views) →
    Gives (λ ts. Unit {0}) (followed_all w s e vs)
followed_gives w known s e [] = tt
followed_gives w known s e (v ∷ more) =
    bind_gives (λ t. Unit {0}) (λ ts. Unit {0}) (followed w s e v) _
    (bind_gives IsSeat (λ t. Unit {0}) (provided (provider_of e.origin s v.0) w s e) _
    (provided_gives w known s e (provider_of e.origin s v.0)) (λ p named. tt))
    (λ t any. bind_gives (λ ts. Unit {0}) (λ ts. Unit {0}) (followed_all w s e more) _
    (followed_gives w known s e more) (λ ts any. tt))

found_gives : (w : World) (s : Seat) (e : Event) (o : Option Errand) → Known w → Seats.IsSeat w.places s →
    Gives (λ f. Unit {0}) (found_by w s e o)
found_gives w s e None known is = tt
found_gives w s e (Some (ToCopy c)) known is =
    bind_gives IsSeat (λ f. Unit {0}) (provided c.provider w s e) _ (provided_gives w known s e c.provider)
    (λ p named. copied_gives c s e p (given_at c p)
    (taken_reads s.node.id c.set_id s.known.config (names_read w known.regular known.reads s is c.set_id)))
found_gives w s e (Some ToFollow) known is =
    bind_gives (λ ts. Unit {0}) (λ f. Unit {0}) (followed_all w s e (kept_from e.origin s.known)) _
    (followed_gives w known s e (kept_from e.origin s.known)) (λ ts any. tt)

for_gives : (w : World) (s : Seat) (e : Event) → Known w → Seats.IsSeat w.places s →
    Gives (λ f. Unit {0}) (found_for w s e)
for_gives w s e known is = by (kept_fetch s.name e.origin e w.memory)
  where
    by : (o : Option Found) → Gives (λ f. Unit {0}) (found_or w s e o)
    by None = found_gives w s e (errand_of s e) known is
    by (Some f) = tt

-- the node and its next event
due_gives : {X : Type 0} (P : X → Type 0) (node origin : ℕ) (w : World) (f : Seat → Event → Result X Refusal) →
    Known w → ((s : Seat) → IsSeat s → Seats.IsSeat w.places s → (e : Event) → Gives P (f s e)) →
    Gives P (bind (on_turn node w) (λ s. bind (taken_up (next_at w.memory s origin)) (f s)))
due_gives P node origin w f known each =
    bind_gives (λ s. IsSeat s × Seats.IsSeat w.places s) P (on_turn node w) _
    (also_gives IsSeat (Seats.IsSeat w.places) (on_turn node w) (turn_reads node w known)
    (turn_ok node w known.regular.once))
    (λ s is. bind_gives (λ e. IsSeat s) P (taken_up (next_at w.memory s origin)) (f s)
    (taken_gives s (next_at w.memory s origin) is.0) (λ e named. each s is.0 is.1 e))

-- the name of the database of the node that fetches is a name
abbrev IsFetch : Fetched → Type 0
IsFetch x = IsSeat x.seat

fetched_gives : (node origin : ℕ) (w : World) → Known w → Gives IsFetch (fetched node origin w)
fetched_gives node origin w known =
    due_gives IsFetch node origin w (fetched_at w) known
    (λ s named is e. bind_gives (λ f. Unit {0}) IsFetch (found_by w s e (errand_of s e)) _
    (found_gives w s e (errand_of s e) known is) (λ f any. named))

-- and so is that of the node that applies
abbrev IsWork : Carried → Type 0
IsWork c = IsSeat c.seat

worked_gives : (node origin : ℕ) (w : World) → Known w → Gives IsWork (worked node origin w)
worked_gives node origin w known =
    due_gives IsWork node origin w (carried_at w) known
    (λ s named is e. bind_gives (λ f. Unit {0}) IsWork (found_for w s e) (settled s e) (for_gives w s e known is)
    (λ f any. checked_gives IsWork (option_map refused.Busy (writer_of (tables_in f) s.place) ∷ [])
    (carried s e (brought_of s.place f)) (busy_tells (writer_of (tables_in f) s.place), tt) named))

-- what was fetched is used up, or given up, and the scripts stay
work_ends : (node origin : ℕ) (w : World) (due : Result Carried Refusal) → Known w → Gives IsWork due →
    Ends (work_ended node origin w due)
work_ends node origin w (Err (refused.Busy xid)) known reads = by (at_node node w)
  where
    by : (o : Option (List ℕ × Place)) → Ends (record (no_change w (Refused (refused.Busy xid))) {
      memory = given_up origin w.memory o;
    })
    by None = record { reply = reads; commits = tt; scripts = known.scripts }
    by (Some e) = record { reply = reads; commits = tt; scripts = known.scripts }
work_ends node origin w due known reads =
    taken_ends IsWork w (λ c. taken_from c w.memory) applied_by due
    (λ c. refl, λ c named. (tt, ((named, ((tt, tt), tt)), tt))) (known, reads)

-- ---- each command

pub outcome_ends : (act : Act) (w : World) → IsAct act → Known w → Ends (outcome act w)
outcome_ends (ToRead name reading) w act known =
    elim (is_some (find_named name w.memory.scripts))
    as (λ b. Ends (cond b (no_change w (Refused (refused.ScriptUsed name))) (read_as name reading w))) [
      | true ↦ unchanged w _ known act.0
      | false ↦ read_ends name reading w act.1 known
    ]
outcome_ends (ToStep name) w act known =
    step_ends name (find_named name w.memory.scripts) w act.0 known
    (λ run found. all_found RunReads name run w.memory.scripts known.scripts found)
outcome_ends (ToForget name) w act known = kill_ends name (find_named name w.memory.scripts) w act.0 known
outcome_ends (ToStart node) w act known = switched_ends node _ w (λ name. refl) known
outcome_ends (ToStop node) w act known = switched_ends node _ w (λ name. refl) known
outcome_ends (ToCut node other) w act known = cuts_end _ w known
outcome_ends (ToJoin node other) w act known = cuts_end _ w known
outcome_ends (ToSync node) w act known =
    taken_ends StatedReads w (λ stated. w.memory) (λ stated. stated) (sync_turn node w)
    (λ stated. refl, λ stated reads. reads) (known, sync_reads node w known)
outcome_ends (ToListen node server delivery) w act known =
    taken_ends IsPoll w (λ b. left_by delivery b w.memory) (stated_by delivery) (polled node server w)
    (λ b. left_scripts delivery b w.memory, poll_reads delivery) (known, polled_gives node server w known)
outcome_ends (ToFetch node origin) w act known =
    taken_ends IsFetch w (λ x. with_fetch x w.memory) fetched_by (fetched node origin w)
    (λ x. refl, λ x named. (tt, tt)) (known, fetched_gives node origin w known)
outcome_ends (ToWork node origin) w act known =
    work_ends node origin w (worked node origin w) known (worked_gives node origin w known)
