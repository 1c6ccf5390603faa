-- Each refusal of each statement once; those of SUBSCRIBE SET are in Subscribing.
use Rattle.std.proofs.Common.{◌≡◌, List, [], ◌∷◌, codes, refl, None}
use Rattle.slonik_script.specs.declared.refusal.ScriptRefusal.TheVariants as wrong
use Rattle.slonik_script.specs.declared.script.Command.TheVariants as order
use Rattle.slonik_script.specs.declared.script.NodeChoice.TheVariants as choice
use Rattle.slonik_script.specs.declared.script.Statement.TheVariants.{Try as Tries}
use Rattle.slon_model.specs.declared.command.Crash.TheVariants.{Now}
use Rattle.slon_model.specs.declared.reading.Reading.TheVariants.{Read, Wrong}
use Rattle.slon_model.specs.declared.reply.Answer.TheVariants as answer
use Rattle.slon_model.specs.declared.reply.Refusal.{Refusal}
use Rattle.slon_model.specs.declared.reply.Refusal.TheVariants as refused
use Rattle.slon_model.specs.declared.reply.Reply.{Reply}
use Rattle.slon_model.specs.declared.reply.Reply.TheVariants.{Accepted, Refused}
use Rattle.slon_model.specs.Rows.{Put}
use Rattle.slon_model.specs.Tasks.{OnNew, OnOne, OnAll, ToMake, ToOpen, ToCommit, ToCrash, ToRise, ToRead}
use Rattle.slon_model.specs.Sessions.{start}
use Rattle.slon_worked.proofs.Running.{Worked, Asks, Takes, replies, Head, reads, step, kill, tried, refused_each}

-- Node 4 has a database that the session has not, node 5 one that is another node, and of node 7 the line names none.
abbrev head : Head
head = record {
  cluster = codes "demo";
  nodes = (1, codes "dbname=a") ∷ (2, codes "dbname=z dbname=b") ∷ (3, codes "dbname=c") ∷ (4, codes "dbname=d")
      ∷ (5, codes "service=a") ∷ (7, codes "host=a") ∷ [];
}

-- the nodes of another cluster
abbrev other_head : Head
other_head = record { cluster = codes "other"; nodes = head.nodes }

-- node 2 is looked for in a database that is none
abbrev turned_head : Head
turned_head = record { cluster = codes "demo"; nodes = (1, codes "dbname=a") ∷ (2, codes "dbname=c") ∷ [] }

-- two nodes, and a table in a set
abbrev begun : List Worked → List Worked
begun more =
    Asks (OnNew (codes "a"))
    ∷ Asks (OnNew (codes "b"))
    ∷ Asks (OnNew (codes "c"))
    ∷ Asks (OnOne (codes "a") (ToMake (codes "public.t") 2))
    ∷ Asks (OnOne (codes "a") (ToMake (codes "public.v") 2))
    ∷ reads (codes "s") head
    (order.InitCluster 1 None
    ∷ order.StoreNode 2 1 None
    ∷ order.StorePath 2 1 (codes "dbname=b") None
    ∷ order.CreateSet 1 1 None
    ∷ order.SetAddTable 1 1 1 (codes "public.t") None None ∷ [])
    ∷ step (codes "s")
    ∷ step (codes "s")
    ∷ step (codes "s")
    ∷ step (codes "s")
    ∷ step (codes "s")
    ∷ step (codes "s")
    ∷ more

abbrev begun_replies : List Reply → List Reply
begun_replies more =
    Accepted answer.Done
    ∷ Accepted answer.Done
    ∷ Accepted answer.Done
    ∷ Accepted answer.Done
    ∷ Accepted answer.Done
    ∷ Accepted (answer.Statements 5)
    ∷ Accepted answer.Done
    ∷ Accepted (answer.Emitted 1 1)
    ∷ Accepted (answer.Emitted 1 2)
    ∷ Accepted (answer.Emitted 1 3)
    ∷ Accepted (answer.Emitted 1 4)
    ∷ Accepted (answer.Ended 0)
    ∷ more

-- a script of one statement is read, and the statement is refused so
abbrev pub each_refused : List Refusal → List Reply → List Reply
each_refused [] more = more
each_refused (refusal ∷ refusals) more =
    Accepted (answer.Statements 1) ∷ Refused refusal ∷ each_refused refusals more

-- ---- whom a statement reaches

reaching : replies (start 16)
    (begun
    (refused_each (codes "r") head
    (order.InitCluster 6 None
    ∷ order.InitCluster 4 None
    ∷ order.InitCluster 7 None
    ∷ order.InitCluster 3 None
    ∷ order.StoreNode 3 6 None
    ∷ order.StoreNode 3 3 None
    ∷ order.StoreNode 3 5 None
    ∷ order.StoreNode 6 1 None
    ∷ order.StoreNode 4 1 None
    ∷ order.StoreNode 2 1 None
    ∷ order.CreateSet 2 3 None ∷ [])
    (refused_each (codes "r") other_head (order.CreateSet 2 1 None ∷ [])
    (refused_each (codes "r") turned_head (order.StoreNode 2 1 None ∷ []) []))))
    ≡ begun_replies
    (each_refused
    (refused.NoConninfo 6
    ∷ refused.NoDatabase (codes "d")
    ∷ refused.NoDatabase []
    ∷ refused.AlreadyNode 1
    ∷ refused.NoConninfo 6
    ∷ refused.NotInitialised 3
    ∷ refused.OtherNode 5
    ∷ refused.NoConninfo 6
    ∷ refused.NoDatabase (codes "d")
    ∷ refused.AlreadyNode 2
    ∷ refused.NotInitialised 3
    ∷ refused.OtherNode 1
    ∷ refused.IdUsed 2 ∷ []) [])
reaching = refl

-- ---- paths, sets and tables

configuring : replies (start 16)
    (begun
    (refused_each (codes "r") head
    (order.StorePath 1 1 (codes "dbname=a") None
    ∷ order.DropPath 3 1
    ∷ order.CreateSet 1 1 None
    ∷ order.SetAddTable 9 1 2 (codes "public.v") None None
    ∷ order.SetAddTable 1 2 2 (codes "public.v") None None
    ∷ order.SetAddTable 1 1 2 (codes "public.u") None None
    ∷ order.SetAddTable 1 1 1 (codes "public.v") None None
    ∷ order.SetAddTable 1 1 2 (codes "public.t") None None ∷ [])
    (Asks (OnOne (codes "a") (ToOpen (codes "x")))
    ∷ Takes (codes "a") 1 (codes "public.v") (Put (codes "p") (codes "1" ∷ []))
    ∷ refused_each (codes "r") head (order.SetAddTable 1 1 2 (codes "public.v") None None ∷ [])
    (Asks (OnOne (codes "a") (ToCommit (codes "x")))
    ∷ tried (codes "g") head (order.SetAddTable 1 1 2 (codes "public.v") None None)
    (step (codes "g") ∷ tried (codes "g") head (order.DropPath 2 1) [])))))
    ≡ begun_replies
    (each_refused
    (refused.SameNode 1
    ∷ refused.NoPath 3
    ∷ refused.IdUsed 1
    ∷ refused.NoSet 9
    ∷ refused.NoSet 1
    ∷ refused.NoTable (codes "public.u")
    ∷ refused.IdUsed 1
    ∷ refused.TableUsed (codes "public.t") ∷ [])
    (Accepted (answer.Opened 1)
    ∷ Accepted (answer.Acted 1)
    ∷ each_refused (refused.Busy 1 ∷ [])
    (Accepted (answer.Committed 1)
    ∷ Accepted (answer.Statements 1)
    ∷ Accepted (answer.Emitted 1 5)
    ∷ Accepted (answer.Ended 0)
    ∷ Accepted (answer.Statements 1)
    ∷ Accepted (answer.Emitted 1 6) ∷ [])))
configuring = refl

-- a node that joins behind the set knows it, and is not its origin
late : replies (start 16)
    (begun
    (tried (codes "g") head (order.StoreNode 3 1 None)
    (refused_each (codes "r") head (order.SetAddTable 1 3 2 (codes "public.v") None None ∷ []) [])))
    ≡ begun_replies
    (Accepted (answer.Statements 1)
    ∷ Accepted (answer.Emitted 1 5)
    ∷ each_refused (refused.NotOrigin 1 ∷ []) [])
late = refl

-- ---- a database that is down

down : replies (start 16)
    (begun
    (Asks (OnOne (codes "b") (ToCrash Now))
    ∷ refused_each (codes "r") head
    (order.InitCluster 3 None
    ∷ order.StorePath 1 2 (codes "dbname=a") None
    ∷ order.CreateSet 2 1 None
    ∷ order.SetAddTable 1 1 2 (codes "public.v") None None ∷ [])
    (Asks (OnOne (codes "b") ToRise) ∷ tried (codes "g") head (order.CreateSet 2 1 None) [])))
    ≡ begun_replies
    (Accepted answer.Done
    ∷ each_refused
    (refused.Down (codes "b")
    ∷ refused.Down (codes "b")
    ∷ refused.Down (codes "b")
    ∷ refused.Down (codes "b") ∷ [])
    (Accepted answer.Done ∷ Accepted (answer.Statements 1) ∷ Accepted (answer.Emitted 1 5) ∷ []))
down = refl

-- ---- scripts themselves, and statements that cannot be run yet

scripts : replies (start 16)
    (step (codes "s")
    ∷ kill (codes "s")
    ∷ Asks (OnAll (ToRead (codes "s") (Wrong wrong.NoPreamble)))
    ∷ reads (codes "s") head (order.Echo (codes "two words") ∷ order.Exit 3 ∷ order.Echo (codes "late") ∷ [])
    ∷ reads (codes "s") head []
    ∷ step (codes "s")
    ∷ step (codes "s")
    ∷ step (codes "s")
    ∷ reads (codes "s") head (order.Echo (codes "one") ∷ [])
    ∷ kill (codes "s")
    ∷ kill (codes "s")
    ∷ Asks (OnAll (ToRead (codes "s") (Read (record {
      cluster = codes "demo";
      nodes = head.nodes;
      statements = Tries (record { commands = []; on_error = None; on_success = None }) ∷ [];
    }))))
    ∷ step (codes "s")
    ∷ refused_each (codes "r") head
    (order.LockSet 1 1
    ∷ order.UnlockSet 1 1
    ∷ order.Failover 1 2
    ∷ order.WaitForEvent choice.All choice.All 1 None
    ∷ order.Sleep 1 ∷ []) [])
    ≡ Refused (refused.NoScript (codes "s"))
    ∷ Refused (refused.NoScript (codes "s"))
    ∷ Refused (refused.Script wrong.NoPreamble)
    ∷ Accepted (answer.Statements 3)
    ∷ Refused (refused.ScriptUsed (codes "s"))
    ∷ Accepted (answer.Echoed (codes "two words"))
    ∷ Accepted (answer.Ended 3)
    ∷ Refused (refused.NoScript (codes "s"))
    ∷ Accepted (answer.Statements 1)
    ∷ Accepted answer.Done
    ∷ Refused (refused.NoScript (codes "s"))
    ∷ Accepted (answer.Statements 1)
    ∷ Refused (refused.NotBuilt (codes "try"))
    ∷ each_refused
    (refused.NotBuilt (codes "lock")
    ∷ refused.NotBuilt (codes "unlock")
    ∷ refused.NotBuilt (codes "failover")
    ∷ refused.NotBuilt (codes "wait")
    ∷ refused.NotBuilt (codes "sleep") ∷ []) []
scripts = refl
