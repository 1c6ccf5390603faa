-- Polls: what a node hears of a server, how it is delivered, when there is none, what loses what waits at a node, and
-- what comes of a poll where a store fails or its commit is in doubt.
use Rattle.std.proofs.Common.{◌≡◌, ℕ, true, false, List, [], ◌∷◌, codes, refl, None}
use Rattle.slonik_script.specs.declared.script.Command.TheVariants as order
use Rattle.slon_model.specs.declared.command.Crash.TheVariants.{Now}
use Rattle.slon_model.specs.declared.command.Delivery.{Delivery}
use Rattle.slon_model.specs.declared.command.Delivery.TheVariants.{Once, Lost, Again}
use Rattle.slon_model.specs.declared.reply.Answer.{Answer}
use Rattle.slon_model.specs.declared.reply.Answer.TheVariants as answer
use Rattle.slon_model.specs.declared.reply.Refusal.TheVariants as refused
use Rattle.slon_model.specs.declared.reply.Reply.{Reply}
use Rattle.slon_model.specs.declared.reply.Reply.TheVariants.{Accepted, Refused, InDoubt}
use Rattle.slon_model.specs.Deciding.{Fate, Breaks, DoubtsAt}
use Rattle.slon_model.specs.Tasks.{Subject, OnNew, OnOne, OnAll, ToMake, ToCrash, ToRise, ToStart, ToStop, ToCut}
use Rattle.slon_model.specs.Tasks.{ToJoin, ToSync, ToListen}
use Rattle.slon_model.specs.Sessions.{start}
use Rattle.slon_worked.proofs.Running.{Worked, Asks, Meets, replies, Head, reads, step}
use Rattle.slon_worked.proofs.Capture.{head}

-- what is done to a node and undone again
abbrev pub crash : List ℕ → Subject
crash database = OnOne database (ToCrash Now)

abbrev pub rise : List ℕ → Subject
rise database = OnOne database ToRise

abbrev pub listen : ℕ → ℕ → Delivery → Worked
listen node server delivery = Asks (OnAll (ToListen node server delivery))

abbrev pub heard : ℕ → ℕ → Reply
heard events confirms = Accepted (answer.Heard events confirms)

abbrev pub emitted : ℕ → ℕ → Reply
emitted node number = Accepted (answer.Emitted node number)

abbrev pub done : Reply
done = Accepted answer.Done

-- ---- two nodes with paths to one another

abbrev pub begun : List Worked → List Worked
begun more =
    Asks (OnNew (codes "a"))
    ∷ Asks (OnNew (codes "b"))
    ∷ Asks (OnOne (codes "a") (ToMake (codes "public.t") 2))
    ∷ Asks (OnOne (codes "b") (ToMake (codes "public.t") 2))
    ∷ reads (codes "s") head
    (order.InitCluster 1 None
    ∷ order.StoreNode 2 1 None
    ∷ order.StorePath 1 2 (codes "dbname=a") None
    ∷ order.StorePath 2 1 (codes "dbname=b") None
    ∷ order.CreateSet 1 1 None
    ∷ order.SetAddTable 1 1 1 (codes "public.t") None None ∷ [])
    ∷ step (codes "s")
    ∷ step (codes "s")
    ∷ step (codes "s")
    ∷ step (codes "s")
    ∷ step (codes "s")
    ∷ step (codes "s")
    ∷ step (codes "s")
    ∷ Asks (OnAll (ToStart 1))
    ∷ Asks (OnAll (ToStart 2))
    ∷ more

abbrev pub begun_replies : List Reply → List Reply
begun_replies more =
    done
    ∷ done
    ∷ done
    ∷ done
    ∷ Accepted (answer.Statements 6)
    ∷ done
    ∷ emitted 1 1
    ∷ emitted 2 1
    ∷ emitted 1 2
    ∷ emitted 1 3
    ∷ emitted 1 4
    ∷ Accepted (answer.Ended 0)
    ∷ done
    ∷ done
    ∷ more

-- a poll that is lost, one that comes twice, one that brings nothing, and one that brings a confirmation
abbrev session : List Worked
session =
    begun
    (Asks (OnAll (ToSync 1))
    ∷ Asks (OnAll (ToSync 1))
    ∷ listen 2 1 Lost
    ∷ listen 2 1 Again
    ∷ listen 2 1 Once
    ∷ listen 1 2 Once
    ∷ Asks (crash (codes "b"))
    ∷ Asks (rise (codes "b"))
    ∷ listen 2 1 Once ∷ [])

abbrev expected : List Reply
expected =
    begun_replies
    (emitted 1 5
    ∷ Refused refused.Nothing
    ∷ Accepted (answer.LostOnTheWay 4 0)
    ∷ heard 4 0
    ∷ Refused refused.Nothing
    ∷ heard 1 1
    ∷ done
    ∷ done
    ∷ heard 4 0 ∷ [])

polls : replies (start 16) session ≡ expected
polls = refl

-- ---- what waits at a node is lost, or not

-- a node polls, and polls again behind these two
abbrev between : Subject → Subject → List Worked
between first second = begun (listen 2 1 Once ∷ Asks first ∷ Asks second ∷ listen 2 1 Once ∷ [])

abbrev polled_again : Reply → List Reply
polled_again reply = begun_replies (heard 3 0 ∷ done ∷ done ∷ reply ∷ [])

crash_loses : replies (start 16) (between (crash (codes "b")) (rise (codes "b"))) ≡ polled_again (heard 3 0)
crash_loses = refl

stop_loses : replies (start 16) (between (OnAll (ToStop 2)) (OnAll (ToStart 2))) ≡ polled_again (heard 3 0)
stop_loses = refl

-- a crash of the server, its slon and a cut leave it
server_leaves : replies (start 16) (between (crash (codes "a")) (rise (codes "a")))
    ≡ polled_again (Refused refused.Nothing)
server_leaves = refl

other_slon_leaves : replies (start 16) (between (OnAll (ToStop 1)) (OnAll (ToStart 1)))
    ≡ polled_again (Refused refused.Nothing)
other_slon_leaves = refl

cut_leaves : replies (start 16) (between (OnAll (ToCut 1 2)) (OnAll (ToJoin 2 1)))
    ≡ polled_again (Refused refused.Nothing)
cut_leaves = refl

-- ---- three nodes

abbrev pub head_of_three : Head
head_of_three = record {
  cluster = codes "demo";
  nodes = (1, codes "dbname=a") ∷ (2, codes "dbname=b") ∷ (3, codes "dbname=c") ∷ [];
}

-- Each refusal of a poll once, in order: behind each one stand reasons for later ones. Node 3 comes by node 2, so node
-- 1 does not know it.
abbrev refused_session : List Worked
refused_session =
    Asks (OnNew (codes "a"))
    ∷ Asks (OnNew (codes "b"))
    ∷ Asks (OnNew (codes "c"))
    ∷ reads (codes "s") head_of_three
    (order.InitCluster 1 None
    ∷ order.StoreNode 2 1 None
    ∷ order.StoreNode 3 2 None
    ∷ order.StorePath 1 3 (codes "dbname=a") None
    ∷ order.StorePath 2 3 (codes "dbname=b") None ∷ [])
    ∷ step (codes "s")
    ∷ step (codes "s")
    ∷ step (codes "s")
    ∷ listen 4 5 Once
    ∷ Asks (crash (codes "c"))
    ∷ listen 3 5 Once
    ∷ Asks (rise (codes "c"))
    ∷ listen 3 5 Once
    ∷ Asks (OnAll (ToStart 3))
    ∷ listen 3 5 Once
    ∷ Asks (OnAll (ToCut 1 3))
    ∷ Asks (crash (codes "a"))
    ∷ listen 3 1 Once
    ∷ listen 3 3 Once
    ∷ step (codes "s")
    ∷ listen 3 1 Once
    ∷ Asks (OnAll (ToJoin 3 1))
    ∷ listen 3 1 Once
    ∷ Asks (rise (codes "a"))
    ∷ listen 3 1 Once
    ∷ step (codes "s")
    ∷ listen 3 2 Once
    ∷ listen 3 2 Lost ∷ []

abbrev refused_expected : List Reply
refused_expected =
    done
    ∷ done
    ∷ done
    ∷ Accepted (answer.Statements 5)
    ∷ done
    ∷ emitted 1 1
    ∷ emitted 2 1
    ∷ Refused (refused.NoNode 4)
    ∷ done
    ∷ Refused (refused.Down (codes "c"))
    ∷ done
    ∷ Refused (refused.Off 3)
    ∷ done
    ∷ Refused (refused.NoNode 5)
    ∷ done
    ∷ done
    ∷ Refused (refused.NotListed 1)
    ∷ Refused (refused.NotListed 3)
    ∷ emitted 3 1
    ∷ Refused (refused.Severed 3 1)
    ∷ done
    ∷ Refused (refused.Down (codes "a"))
    ∷ done
    ∷ Refused (refused.NotKnown 3)
    ∷ emitted 3 2
    ∷ Refused refused.Nothing
    ∷ Refused refused.Nothing ∷ []

refusals : replies (start 16) refused_session ≡ refused_expected
refusals = refl

-- ---- a poll whose commit is in doubt, or whose store or whose server's store failed

-- Node 1 hears node 2, twice the same, and then polls node 3, which comes to this fate. The database comes up again,
-- and it polls both.
abbrev failing : Fate → List ℕ → List Worked
failing fate database =
    Asks (OnNew (codes "a"))
    ∷ Asks (OnNew (codes "b"))
    ∷ Asks (OnNew (codes "c"))
    ∷ reads (codes "s") head_of_three
    (order.InitCluster 1 None
    ∷ order.StoreNode 2 1 None
    ∷ order.StoreNode 3 1 None
    ∷ order.StorePath 2 1 (codes "dbname=b") None
    ∷ order.StorePath 3 1 (codes "dbname=c") None
    ∷ order.StorePath 1 2 (codes "dbname=a") None
    ∷ order.StorePath 1 3 (codes "dbname=a") None ∷ [])
    ∷ step (codes "s")
    ∷ step (codes "s")
    ∷ step (codes "s")
    ∷ step (codes "s")
    ∷ step (codes "s")
    ∷ step (codes "s")
    ∷ step (codes "s")
    ∷ Asks (OnAll (ToStart 1))
    ∷ listen 1 2 Again
    ∷ Meets (ToListen 1 3 Once) fate
    ∷ listen 1 3 Once
    ∷ Asks (rise database)
    ∷ listen 1 2 Once
    ∷ listen 1 3 Once ∷ []

-- the replies: of the poll, of the next one, of the database that comes up, and of both polls
abbrev failed : Reply → List ℕ → Answer → Reply → Reply → List Reply
failed reply database up first second =
    done
    ∷ done
    ∷ done
    ∷ Accepted (answer.Statements 7)
    ∷ done
    ∷ emitted 1 1
    ∷ emitted 1 2
    ∷ emitted 1 3
    ∷ emitted 1 4
    ∷ emitted 2 1
    ∷ emitted 3 1
    ∷ done
    ∷ heard 1 1
    ∷ reply
    ∷ Refused (refused.Down database)
    ∷ Accepted up
    ∷ first
    ∷ second ∷ []

-- a fault of its own store: what waited is lost with the poll, and the confirmation that it was told before is kept
own_breaks : replies (start 16) (failing (Breaks (codes "a") 1) (codes "a"))
    ≡ failed (Refused (refused.Fault (codes "a") 1)) (codes "a") answer.Done (heard 1 0) (heard 1 1)
own_breaks = refl

-- a fault of the store of the server: what waited stays
server_breaks : replies (start 16) (failing (Breaks (codes "c") 1) (codes "c"))
    ≡ failed (Refused (refused.Fault (codes "c") 1)) (codes "c") answer.Done (Refused refused.Nothing) (heard 1 1)
server_breaks = refl

-- a doubt: what waited is lost, and the new confirmation is kept or lost
doubt_kept : replies (start 16) (failing (DoubtsAt 0 true) (codes "a"))
    ≡ failed (InDoubt (codes "a") (answer.Heard 1 1)) (codes "a") answer.Kept (heard 1 0) (heard 1 0)
doubt_kept = refl

doubt_lost : replies (start 16) (failing (DoubtsAt 0 false) (codes "a"))
    ≡ failed (InDoubt (codes "a") (answer.Heard 1 1)) (codes "a") answer.Lost (heard 1 0) (heard 1 1)
doubt_lost = refl
