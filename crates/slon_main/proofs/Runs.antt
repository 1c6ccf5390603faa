-- A run, command by command.
use Rattle.std.proofs.Common.{◌≡◌, ◌∙◌, ℕ, ◌-◌, false, length, List, [], ◌∷◌, ◌++◌, Option, Some, None, Ok, Err, OnOk}
use Rattle.std.proofs.Common.{IfErr, IsErrOf}
use Rattle.std.proofs.Common.{Result, true, refl, sym, ap, subst, append_assoc, append-nil}
use Rattle.std.specs.List.{AllByRecursion}
use Rattle.std.proofs.lemmas.Bool.{false≢true}
use Rattle.std.specs.Str.Lines.{lines}
use Rattle.slon_base.specs.Outside.{Filed, top, with_piece}
use Rattle.slon_base.specs.Shelf.{Shelved, Promise}
use Rattle.slon_model.specs.declared.command.Command.{Command}
use Rattle.slon_model.specs.Names.{Named, find_named}
use Rattle.slon_model.specs.Printed.{reply_line}
use Rattle.slon_model.specs.Spoken.{IsSpoken}
use Rattle.slon_model.specs.World.{World, start, commands_of, replies_of, lines_of}
use Rattle.session_text.specs.Reading.{session_limit}
use Rattle.session_text.specs.Handing.{Comes}
use Rattle.session_text.specs.Replies.{NumbersFit}
use Rattle.session_reader.specs.Sessions.{Between, BadAt, PastLimit, End, Session, stopped, in_front, sized, block_of}
use Rattle.session_reader.specs.Sessions.{closed, session_from, session_of}
use Rattle.session_reader.specs.Fetching.{Fetching, Fetches, ahead_of, to_come, Broken, InLine as BreaksInLine}
use Rattle.session_reader.specs.Fetching.{InFile as BreaksInFile}
use Rattle.reply_forms.proofs.Forms.{all_with, formed_by}
use Rattle.app_store.specs.Base.{Base}
use Rattle.slonik_exec.specs.Databases.{FitsAll}
use Rattle.cluster_engine.specs.Agreed.{Clustered, Agrees, Follows}
use Rattle.cluster_engine.specs.Calls.{arms_later, happened, AllCertain}
use Rattle.cluster_engine.specs.Failing.{IsWithin}
use Rattle.cluster_engine.specs.Telling.{AreTold}
use Rattle.cluster_engine.proofs.Stepping.{sure_step}
use Rattle.cluster_engine.proofs.Subscribing.{led_follows}
use Rattle.slon_main.specs.declared.run.Stop.{Stop}
use Rattle.slon_main.specs.declared.run.Stop.TheVariants.{BadLine, Read, Write, NoMemory, NoStore, TooLong}
use Rattle.slon_main.specs.Going.{behind_commands, Came, Point, Spot, Running}
use Rattle.slon_main.specs.Running.{Begun, Pieces, Starts, NoneArms, FetchesSo, Replies, RepliesInPart}
use Rattle.slon_main.specs.Running.{NamesMade, is_no_store, is_of_command, Ran, RanOn, IsUnread, InLine}
use Rattle.slon_main.specs.Running.{InFile, RunsSession, StopsAt}
use Rattle.slon_main.proofs.Causes.{never_still}
use Rattle.follow_laws.proofs.Subscribing.{subscribed}

-- one command more before the others
one_more : (commands : List Command) (command : Command) (session : Session) →
    behind_commands commands (in_front command session) ≡ behind_commands (commands ++ command ∷ []) session
one_more commands command session =
    ap (λ cs. record { commands = cs; end = session.end }) (sym (append_assoc commands (command ∷ []) session.commands))

-- ---- how far a session was read

-- before the first line
pub record AtFront (names : List ℕ → Option (List ℕ)) (bytes : List ℕ) (reader : Fetching) (files : Filed) : Type 0
  where
    pub bytes_are : top files.stack ≡ Some bytes
    pub unread : reader.lines.unread ≡ []
    pub says : to_come names Between reader bytes ≡ session_of names bytes

front_comes : (names : List ℕ → Option (List ℕ)) (bytes : List ℕ) (reader : Fetching) (files : Filed) →
    AtFront names bytes reader files → Comes reader.lines files bytes
front_comes names bytes reader files front = (bytes, front.bytes_are, ap (λ l. l ++ bytes) (sym front.unread))

pub came_first : (names : List ℕ → Option (List ℕ)) (bytes : List ℕ) (reader : Fetching) (files : Filed) →
    AtFront names bytes reader files → Came names (session_of names bytes) reader files
came_first names bytes reader files front = record {
  rest = bytes;
  comes = front_comes names bytes reader files front;
  commands = [];
  session = sym front.says;
}

pub came_on : (names : List ℕ → Option (List ℕ)) (said : Session) (command : Command) (old new : Point) →
    (came : Came names said old.reader old.files) →
    FetchesSo names (to_come names Between old.reader came.rest) new.reader new.files (Ok (Some command)) →
    Came names said new.reader new.files
came_on names said command old new came (rest, comes, is) = record {
  rest = rest;
  comes = comes;
  commands = came.commands ++ command ∷ [];
  session = came.session ∙ ap (behind_commands came.commands) is
      ∙ one_more came.commands command (to_come names Between new.reader rest);
}

-- what is behind commands ends as what is in front of it goes on
end_of : (said session : Session) (commands : List Command) (end : End) → said ≡ behind_commands commands session →
    session ≡ stopped end → said.end ≡ end
end_of said session commands end is ends = ap (λ s. s.end) is ∙ ap (λ s. s.end) ends

pub stops_fetching : (names : List ℕ → Option (List ℕ)) (said : Session) (stop : Stop) (old new : Point) →
    (came : Came names said old.reader old.files) →
    FetchesSo names (to_come names Between old.reader came.rest) new.reader new.files (Err stop) →
    StopsAt said (Err stop)
stops_fetching names said (BadLine number) old new came is =
    end_of said (to_come names Between old.reader came.rest) came.commands (BadAt number) came.session is
stops_fetching names said TooLong old new came is =
    end_of said (to_come names Between old.reader came.rest) came.commands PastLimit came.session is
stops_fetching names said others old new came is = tt

pub stops_ended : (names : List ℕ → Option (List ℕ)) (said : Session) (old new : Point) →
    (came : Came names said old.reader old.files) →
    FetchesSo names (to_come names Between old.reader came.rest) new.reader new.files (Ok None) → StopsAt said (Ok tt)
stops_ended names said old new came is = ap (λ s. s.end) came.session ∙ ap (λ s. s.end) is

pub stops_running : (said : Session) (stop : Stop) → is_of_command stop ≡ true → StopsAt said (Err stop)
stops_running said (BadLine number) is = absurd (false≢true is)
stops_running said TooLong is = absurd (false≢true is)
stops_running said others is = tt

-- what the reader of sessions answers
pub fetched_so : (names : List ℕ → Option (List ℕ)) (before : Session) (new : Point) (found : Option Command) →
    Fetches names before new.reader new.files (Ok found) → FetchesSo names before new.reader new.files (Ok found)
fetched_so names before new None fetches = fetches
fetched_so names before new (Some command) fetches = fetches

-- ---- a run

-- ---- its beginning

none_fits : (bases : Named Base) → FitsAll [] bases → AllByRecursion (λ b. b.1.kept.can_fail ≡ Some 0) bases
none_fits [] all = tt
none_fits (b ∷ bs) all = absurd all

start_certain : (limit : ℕ) (cluster : Clustered) → Agrees (start limit) cluster → AllCertain cluster
start_certain limit cluster agrees = none_fits cluster.bases agrees.fits

none_there : {X : Type 0} (bases : Named Base) → FitsAll [] bases → (name : List ℕ) (b : Base) →
    find_named name bases ≡ Some b → X
none_there [] all name b found = absurd cc
none_there (e ∷ es) all name b found = absurd all

no_bases : (bases : Named Base) → FitsAll [] bases → length bases ≡ 0
no_bases [] all = refl
no_bases (b ∷ bs) all = absurd all

pub start_within : (promise : ℕ → Promise) (limit : ℕ) (cluster : Clustered) → Starts limit cluster →
    IsWithin promise [] cluster
start_within promise limit cluster starts =
    record {
      placed = starts.given ∙ sym (no_bases cluster.bases starts.agrees.fits);
      absent = λ name none. refl;
      present = λ name b n found told. none_there cluster.bases starts.agrees.fits name b
          found;
    }

pub start_told : (limit : ℕ) (cluster : Clustered) → Starts limit cluster → AreTold [] cluster
start_told limit cluster starts = record {
  absent = λ name none. refl;
  present = λ name b found. none_there cluster.bases starts.agrees.fits name b found;
}

-- before the first line
pub record First (b : Begun) (bytes : List ℕ) (at : Spot) : Type 0 where
  pub said : b.said ≡ session_of b.names bytes
  pub front : AtFront b.names bytes at.reader at.files
  pub empty : at.output ≡ Some []
  pub starts : Starts b.limit at.cluster

pub begins : (b : Begun) (bytes : List ℕ) (at : Spot) → First b bytes at → Running b at
begins b bytes at first = record {
  rest = bytes;
  comes = front_comes b.names bytes at.reader at.files first.front;
  history = [];
  world = start b.limit;
  leads = refl;
  spoken = tt;
  session = first.said ∙ sym first.front.says;
  fits = tt;
  written = first.empty;
  agrees = first.starts.agrees;
  certain = λ never armless. (refl, start_certain b.limit at.cluster first.starts.agrees);
  quiet = λ all. refl;
  few = λ armless. start_within b.shelf.promise b.limit at.cluster first.starts;
  told = start_told b.limit at.cluster first.starts;
}

-- ---- one more command

-- the databases are as each legal history leaves them
pub follows : (b : Begun) (at : Spot) → (running : Running b at) → Follows running.world at.cluster
follows b at running = led_follows b.limit running.history running.world at.cluster
    (record { leads = running.leads; spoken = running.spoken; agrees = running.agrees })

-- the last command and those before it
none_before : (before : List Command) (last : Command) → NoneArms (before ++ last ∷ []) → NoneArms before
none_before [] last all = tt
none_before (c ∷ cs) last all = (all.0, none_before cs last all.1)

none_last : (before : List Command) (last : Command) → NoneArms (before ++ last ∷ []) → arms_later last ≡ false
none_last [] last all = all.0
none_last (c ∷ cs) last all = none_last cs last all.1

-- a command that was fetched, obeyed and answered
pub record CommandWent (b : Begun) (now : Shelved) (w : World) (rest : List ℕ) (at next : Spot) : Type 0 where
  pub command : Command
  pub promised : now.promise ≡ b.shelf.promise
  pub fetched : FetchesSo b.names (to_come b.names Between at.reader rest) next.reader next.files (Ok (Some command))
  pub spoken : IsSpoken command
  pub replies : Replies now command w at.output next.output at.cluster next.cluster

pub went_on : (b : Begun) (now : Shelved) (at next : Spot) → (running : Running b at) →
    CommandWent b now running.world running.rest at next → Running b next
went_on b now at next running went =
    let command = went.command in
    let said = went.replies in
    let h = happened command said.reply said.goes.choice in
    record {
      rest = went.fetched.0;
      comes = went.fetched.1;
      history = h ∷ running.history;
      world = said.goes.world;
      leads = (running.world, running.leads, said.goes.step);
      spoken = (went.spoken, running.spoken);
      session = running.session ∙ ap (behind_commands (commands_of running.history)) went.fetched.2
          ∙ one_more (commands_of running.history) command (to_come b.names Between next.reader went.fetched.0);
      fits = all_with NumbersFit (replies_of running.history) said.reply running.fits said.fits;
      written = said.written_is ∙ ap (with_piece (reply_line said.reply)) running.written;
      agrees = said.goes.agrees;
      certain = λ never armless.
          let so_far = running.certain never (none_before (commands_of running.history) command armless) in
          let here = said.certain (never_still b.shelf now went.promised never) so_far.1 in
          let due = sure_step running.world said.goes.world h said.goes.step here.0 in (
            (running.world, so_far.0, due.0, due.1),
            here.1 (none_last (commands_of running.history) command armless),
          );
      quiet = λ all.
          let here = said.quiet all in
          let due = sure_step running.world said.goes.world h said.goes.step here.0 in
          (running.world, running.quiet here.1, due.0, due.1);
      few = λ armless.
          subst (λ p. IsWithin p (h ∷ running.history) next.cluster) went.promised
          (said.pays (none_last (commands_of running.history) command armless) said.goes.choice running.history
          (subst (λ p. IsWithin p running.history at.cluster) (sym went.promised)
          (running.few (none_before (commands_of running.history) command armless))));
      told = said.tells said.goes.choice running.history running.told;
    }

-- ---- its end

ran_so : (b : Begun) (at : Spot) → (running : Running b at) → (said : List Command) →
    commands_of running.history ≡ said → Ran b.shelf b.limit said at.output at.cluster
ran_so b at running said is = record {
  history = running.history;
  world = running.world;
  leads = running.leads;
  commands = is;
  written = running.written;
  formed = formed_by b.limit running.history running.world running.leads running.spoken running.fits;
  agrees = running.agrees;
  due = λ never armless. (running.certain never (subst NoneArms (sym is) armless)).0;
  quiet = running.quiet;
  few = λ armless. running.few (subst NoneArms (sym is) armless);
  told = running.told;
  subscribed = subscribed b.limit running.history running.world running.leads;
}

-- the session ends here
ran_to : (b : Begun) (at : Spot) (end : End) → (running : Running b at) →
    to_come b.names Between at.reader running.rest ≡ stopped end →
    Ran b.shelf b.limit b.said.commands at.output at.cluster × (b.said.end ≡ end)
ran_to b at end running is =
    let ends = running.session ∙ ap (behind_commands (commands_of running.history)) is in (
      ran_so b at running b.said.commands
          (sym (ap (λ s. s.commands) ends ∙ append-nil (commands_of running.history))),
      ap (λ s. s.end) ends,
    )

-- the commands so far are the first ones
abbrev ran_on : (b : Begun) (at : Spot) → Running b at →
    RanOn b.shelf b.limit b.said.commands at.output at.cluster
ran_on b at running = record {
  first = commands_of running.history;
  others = (to_come b.names Between at.reader running.rest).commands;
  parts = ap (λ s. s.commands) running.session;
  ran = ran_so b at running (commands_of running.history) refl;
}

-- before the first line none was run
abbrev pub ran_nothing : (shelf : Shelved) (limit : ℕ) (said : List Command) (output : Pieces) (cluster : Clustered) →
    output ≡ Some [] → Starts limit cluster → RanOn shelf limit said output cluster
ran_nothing shelf limit said output cluster empty starts = record {
  first = [];
  others = said;
  parts = refl;
  ran = record {
    history = [];
    world = start limit;
    leads = refl;
    commands = refl;
    written = empty;
    formed = tt;
    agrees = starts.agrees;
    due = λ never armless. refl;
    quiet = λ all. refl;
    few = λ armless. start_within shelf.promise limit cluster starts;
    told = start_told limit cluster starts;
    subscribed = subscribed limit [] (start limit) refl;
  };
}

-- no command is left
pub ran_all : (b : Begun) (at : Spot) (unread : Option (List ℕ)) (new : Point) → (running : Running b at) →
    FetchesSo b.names (to_come b.names Between at.reader running.rest) new.reader new.files (Ok None) →
    RunsSession b at.output at.cluster unread (Ok tt)
ran_all b at unread new running is = ran_to b at _ running is

-- the files failed
unread_here : (names : List ℕ → Option (List ℕ)) (before : Session) (new : Point) →
    Broken names before new.reader new.files → IsUnread names (top new.files.stack) before.commands
unread_here names before new (BreaksInLine mode number taken rest breaks is) =
    InLine mode number taken breaks.part breaks.left breaks.unended breaks.is breaks.within
    (ap (λ s. s.commands) is
    ∙ ap (λ r. (session_from names mode number (session_limit - taken) (sized (lines r) r)).commands)
    (sym breaks.whole))
unread_here names before new (BreaksInFile name text left rest comes is) =
    InFile name text new.reader.number left new.reader.lines.unread comes.0 comes.1
    (ap (λ s. s.commands) is
    ∙ ap (λ r. (closed name (block_of names left text) (ahead_of names new.reader.number r)).commands) comes.2)

-- no further command was fetched
pub fetch_stops : (b : Begun) (at : Spot) (stop : Stop) (new : Point) → (running : Running b at) →
    FetchesSo b.names (to_come b.names Between at.reader running.rest) new.reader new.files (Err stop) →
    RunsSession b at.output at.cluster (top new.files.stack) (Err stop)
fetch_stops b at (BadLine number) new running is = ran_to b at (BadAt number) running is
fetch_stops b at TooLong new running is = ran_to b at PastLimit running is
fetch_stops b at Read new running is =
    (ran_on b at running, unread_here b.names (to_come b.names Between at.reader running.rest) new is)
fetch_stops b at NoMemory new running is = (at.cluster, ran_on b at running)
fetch_stops b at others new running is = absurd is

-- ---- a command that stops

-- what is before and behind the run of a command
pub record Passage : Type 0 where
  pub shelf : Shelved
  pub command : Command
  pub old : Clustered
  pub new : Clustered
  pub before : Pieces
  pub written : Pieces

-- what the run of a command did that stopped
pub record CommandStopped (p : Passage) (stop : Stop) : Type 0 where
  pub cut : stop ≡ Write → (before : List (List ℕ)) → p.before ≡ Some before → (w : World) → Follows w p.old →
      RepliesInPart p.shelf p.command w before p.written p.old p.new
  pub silent : stop ≡ NoMemory → p.written ≡ p.before
  pub named : NamesMade p.command p.old stop
  pub unmade : is_no_store stop ≡ true → (p.written ≡ p.before) × (p.new ≡ p.old)
  pub expected : is_of_command stop ≡ true

-- the same, as a call says it
pub record SaysStopped (p : Passage) (result : Result (Unit {0}) Stop) : Type 0 where
  pub cut : IsErrOf result Write → (before : List (List ℕ)) → p.before ≡ Some before → (w : World) →
      Follows w p.old → RepliesInPart p.shelf p.command w before p.written p.old p.new
  pub silent : IsErrOf result NoMemory → p.written ≡ p.before
  pub named : IfErr result (NamesMade p.command p.old)
  pub unmade : IfErr result (λ stop. is_no_store stop ≡ true → (p.written ≡ p.before) × (p.new ≡ p.old))
  pub stop : IfErr result (λ stop. is_of_command stop ≡ true)

pub command_stopped : (p : Passage) (stop : Stop) → SaysStopped p (Err stop) → CommandStopped p stop
command_stopped p stop says = record {
  cut = λ is. says.cut (ap Err is);
  silent = λ is. says.silent (ap Err is);
  named = says.named;
  unmade = says.unmade;
  expected = says.stop;
}

-- the run of the next command stopped
pub record Stopped (b : Begun) (rest : List ℕ) (at next : Spot) (stop : Stop) : Type 0 where
  pub now : Shelved
  pub command : Command
  pub promised : now.promise ≡ b.shelf.promise
  pub fetched : FetchesSo b.names (to_come b.names Between at.reader rest) next.reader next.files (Ok (Some command))
  pub spoken : IsSpoken command
  pub ran : CommandStopped (record {
    shelf = now;
    command = command;
    old = at.cluster;
    new = next.cluster;
    before = at.output;
    written = next.output;
  }) stop

pub command_stops : (b : Begun) (at next : Spot) (stop : Stop) → (running : Running b at) →
    Stopped b running.rest at next stop → RunsSession b next.output next.cluster (top next.files.stack) (Err stop)
command_stops b at next stop running stopped = go stop stopped.ran
  where
    -- with nothing written and nothing changed
    still : (s : Stop) → next.output ≡ at.output → next.cluster ≡ at.cluster →
        RunsSession b at.output at.cluster (top next.files.stack) (Err s) →
        RunsSession b next.output next.cluster (top next.files.stack) (Err s)
    still s same kept runs =
        subst (λ o. RunsSession b o next.cluster (top next.files.stack) (Err s)) (sym same)
        (subst (λ c. RunsSession b at.output c (top next.files.stack) (Err s)) (sym kept) runs)

    -- the line as it would have been written
    whole : List ℕ → Spot
    whole line = record next { output = Some (lines_of running.history ++ line ∷ []) }

    passage : Passage
    passage = record {
      shelf = stopped.now;
      command = stopped.command;
      old = at.cluster;
      new = next.cluster;
      before = at.output;
      written = next.output;
    }

    go : (s : Stop) → CommandStopped passage s →
        RunsSession b next.output next.cluster (top next.files.stack) (Err s)
    go (BadLine number) ran = absurd (false≢true ran.expected)
    go Read ran = absurd (false≢true ran.expected)
    go TooLong ran = absurd (false≢true ran.expected)
    go (NoStore name) ran =
        let same = ran.unmade refl in
        still (NoStore name) same.0 same.1 (
          ran_on b at running,
          record {
            behind = (to_come b.names Between next.reader stopped.fetched.0).commands;
            is = ap (λ s. s.commands) stopped.fetched.2
                ∙ ap (λ c. c ∷ (to_come b.names Between next.reader stopped.fetched.0).commands) ran.named.0;
            free = ran.named.1;
          },
        )
    go NoMemory ran = (
      at.cluster,
      subst (λ o. RanOn b.shelf b.limit b.said.commands o at.cluster) (sym (ran.silent refl)) (ran_on b at running),
    )
    go Write ran =
        let cut =
        ran.cut refl (lines_of running.history) running.written running.world (follows b at running) in
        let on =
        went_on b stopped.now at (whole cut.0) running (record {
          command = stopped.command;
          promised = stopped.promised;
          fetched = stopped.fetched;
          spoken = stopped.spoken;
          replies = subst (λ before. Replies stopped.now stopped.command running.world before
              (Some (lines_of running.history ++ cut.0 ∷ [])) at.cluster next.cluster) (sym running.written) cut.2;
        }) in
        record {
          before = lines_of running.history;
          line = cut.0;
          n = cut.1;
          cluster = next.cluster;
          on = ran_on b (whole cut.0) on;
          cut = cut.3;
        }

-- what follows where a call was done
pub on_ok : {T E : Type 0} {A B : Type 0} (result : Result T E) → (A → B) → OnOk result A → OnOk result B
on_ok (Ok x) from holds = from holds
on_ok (Err e) from holds = tt
