-- A node subscribes to a set: the origin emits three events in one commit, which the receiver hears; who owns a set,
-- each refusal, and what comes of a commit in doubt.
use Rattle.std.proofs.Common.{◌≡◌, ℕ, true, false, List, [], ◌∷◌, codes, refl, Some, None}
use Rattle.slonik_script.specs.declared.script.Command.{Command as Order}
use Rattle.slonik_script.specs.declared.script.Command.TheVariants as order
use Rattle.slon_model.specs.declared.command.Delivery.TheVariants.{Once}
use Rattle.slon_model.specs.declared.reply.Answer.TheVariants as answer
use Rattle.slon_model.specs.declared.reply.Refusal.TheVariants as refused
use Rattle.slon_model.specs.declared.reply.Reply.{Reply}
use Rattle.slon_model.specs.declared.reply.Reply.TheVariants.{Accepted, Refused, InDoubt}
use Rattle.slon_model.specs.Deciding.{Fate, Breaks, DoubtsAt}
use Rattle.slon_model.specs.Tasks.{OnNew, OnOne, OnAll, ToMake, ToSync, ToStep}
use Rattle.slon_model.specs.Sessions.{start}
use Rattle.slon_worked.proofs.Running.{Worked, Asks, Meets, replies, Head, reads, step, tried, refused_each}
use Rattle.slon_worked.proofs.Capture.{head}
use Rattle.slon_worked.proofs.Polls.{crash, rise, listen, heard, emitted, done, begun, begun_replies, head_of_three}
use Rattle.slon_worked.proofs.Refusals.{each_refused}

-- a script of one statement that is run to its end, and its replies
abbrev pub ran : Head → Order → List Worked → List Worked
ran head order more = tried (codes "g") head order (step (codes "g") ∷ more)

abbrev pub ran_replies : Reply → List Reply → List Reply
ran_replies reply more = Accepted (answer.Statements 1) ∷ reply ∷ Accepted (answer.Ended 0) ∷ more

-- ---- the receiver hears it

-- The answer has the last of three numbers. The SYNC among them is one for the slon too. A set with a receiver takes no
-- other table.
abbrev session : List Worked
session =
    begun
    (Asks (OnOne (codes "a") (ToMake (codes "public.v") 2))
    ∷ listen 2 1 Once
    ∷ ran head (order.SubscribeSet 1 1 2 None)
    (listen 2 1 Once
    ∷ listen 2 1 Once
    ∷ refused_each (codes "r") head
    (order.SubscribeSet 1 1 2 None
    ∷ order.SubscribeSet 1 1 2 (Some true)
    ∷ order.SetAddTable 1 1 2 (codes "public.v") None None ∷ [])
    (Asks (OnAll (ToSync 1)) ∷ ran head (order.Sync 1) (listen 2 1 Once ∷ []))))

abbrev expected : List Reply
expected =
    begun_replies
    (done
    ∷ heard 3 0
    ∷ ran_replies (emitted 1 7)
    (heard 3 0
    ∷ Refused refused.Nothing
    ∷ each_refused
    (refused.NotActive 2
    ∷ refused.NotActive 2
    ∷ refused.HasReceivers 2 ∷ [])
    (Refused refused.Nothing ∷ ran_replies (emitted 1 8) (heard 1 0 ∷ []))))

subscribes : replies (start 16) session ≡ expected
subscribes = refl

-- ---- refusals

-- Each one once, in order: behind each one stand reasons for later ones. Node 3 is there in the second half.
refusals : replies (start 16)
    (begun
    (refused_each (codes "r") head
    (order.SubscribeSet 9 3 4 None
    ∷ order.SubscribeSet 1 3 4 None
    ∷ order.SubscribeSet 1 3 1 None
    ∷ order.SubscribeSet 1 2 1 None
    ∷ order.SubscribeSet 1 2 2 None ∷ [])
    (Asks (OnNew (codes "c"))
    ∷ ran head_of_three (order.StoreNode 3 1 None)
    (refused_each (codes "r") head
    (order.SubscribeSet 1 3 2 None ∷ order.SubscribeSet 1 2 3 (Some false) ∷ [])
    (ran head (order.SubscribeSet 1 1 3 (Some true))
    (refused_each (codes "r") head (order.SubscribeSet 1 1 3 None ∷ order.SubscribeSet 1 3 2 None ∷ [])
    (ran head (order.SubscribeSet 1 1 2 (Some false)) [])))))))
    ≡ begun_replies
    (each_refused
    (refused.NoSet 9
    ∷ refused.NoNode 4
    ∷ refused.NoNode 3
    ∷ refused.SameNode 1
    ∷ refused.SameNode 2 ∷ [])
    (done
    ∷ ran_replies (emitted 1 5)
    (each_refused (refused.NotActive 3 ∷ refused.NotActive 2 ∷ [])
    (ran_replies (emitted 1 8)
    (each_refused (refused.NotActive 3 ∷ refused.NotActive 3 ∷ [])
    (ran_replies (emitted 1 11) []))))))
refusals = refl

-- ---- who owns a set

-- The origin is looked for among the databases of NODE lines that are up, whatever the ids of the lines; other
-- databases may be down.
abbrev line : ℕ → List ℕ → Head
line id conninfo = record { cluster = codes "demo"; nodes = (id, conninfo) ∷ [] }

owners : replies (start 16)
    (refused_each (codes "r") head (order.SubscribeSet 1 1 2 None ∷ [])
    (begun
    (refused_each (codes "r") (line 1 (codes "dbname=b")) (order.SubscribeSet 1 1 2 None ∷ [])
    (Asks (crash (codes "a"))
    ∷ refused_each (codes "r") head (order.SubscribeSet 1 1 2 None ∷ [])
    (Asks (rise (codes "a"))
    ∷ Asks (crash (codes "b")) ∷ ran (line 7 (codes "service=a")) (order.SubscribeSet 1 1 2 None) [])))))
    ≡ each_refused (refused.NoSet 1 ∷ [])
    (begun_replies
    (each_refused (refused.NoSet 1 ∷ [])
    (done ∷ each_refused (refused.NoSet 1 ∷ []) (done ∷ done ∷ ran_replies (emitted 1 7) []))))
owners = refl

-- ---- all three events, or none

-- the statement comes to this fate; the origin comes up again, and the receiver polls it
abbrev failing : Fate → List Worked
failing fate =
    begun
    (listen 2 1 Once
    ∷ reads (codes "g") head (order.SubscribeSet 1 1 2 None ∷ [])
    ∷ Meets (ToStep (codes "g")) fate
    ∷ Asks (rise (codes "a"))
    ∷ listen 2 1 Once ∷ [])

abbrev failed : Reply → Reply → Reply → List Reply
failed reply up poll = begun_replies (heard 3 0 ∷ Accepted (answer.Statements 1) ∷ reply ∷ up ∷ poll ∷ [])

breaks : replies (start 16) (failing (Breaks (codes "a") 1))
    ≡ failed (Refused (refused.Fault (codes "a") 1)) done (Refused refused.Nothing)
breaks = refl

doubt_kept : replies (start 16) (failing (DoubtsAt 0 true))
    ≡ failed (InDoubt (codes "a") (answer.Emitted 1 7)) (Accepted answer.Kept) (heard 3 0)
doubt_kept = refl

doubt_lost : replies (start 16) (failing (DoubtsAt 0 false))
    ≡ failed (InDoubt (codes "a") (answer.Emitted 1 7)) (Accepted answer.Lost) (Refused refused.Nothing)
doubt_lost = refl
