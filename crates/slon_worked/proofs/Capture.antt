-- A cluster of two nodes is made, a table comes into a set, the slons are turned on, and a commit on it is logged.
use Rattle.std.proofs.Common.{◌≡◌, List, [], ◌∷◌, codes, refl, None}
use Rattle.slonik_script.specs.declared.script.Command.TheVariants as order
use Rattle.slon_model.specs.declared.reply.Answer.TheVariants as answer
use Rattle.slon_model.specs.declared.reply.Refusal.TheVariants as refused
use Rattle.slon_model.specs.declared.reply.Reply.{Reply}
use Rattle.slon_model.specs.declared.reply.Reply.TheVariants.{Accepted, Refused}
use Rattle.slon_model.specs.Rows.{Put}
use Rattle.slon_model.specs.Tasks.{OnNew, OnOne, OnAll, ToMake, ToOpen, ToCommit, ToTell, ToStart, ToStop}
use Rattle.slon_model.specs.Sessions.{start}
use Rattle.slon_worked.proofs.Running.{Worked, Asks, Takes, replies, Head, reads, step, refused_each}

abbrev pub head : Head
head = record { cluster = codes "demo"; nodes = (1, codes "dbname=a") ∷ (2, codes "dbname=b") ∷ [] }

abbrev session : List Worked
session =
    Asks (OnNew (codes "a"))
    ∷ Asks (OnNew (codes "b"))
    ∷ Asks (OnOne (codes "a") (ToMake (codes "public.t") 2))
    ∷ Asks (OnOne (codes "b") (ToMake (codes "public.t") 2))
    ∷ reads (codes "s") head
    (order.InitCluster 1 None
    ∷ order.StoreNode 2 1 None
    ∷ order.StorePath 1 2 (codes "dbname=a") None
    ∷ order.StorePath 2 1 (codes "dbname=b") None
    ∷ order.CreateSet 1 1 None
    ∷ order.SetAddTable 1 1 1 (codes "public.t") None None ∷ [])
    ∷ step (codes "s")
    ∷ step (codes "s")
    ∷ step (codes "s")
    ∷ step (codes "s")
    ∷ step (codes "s")
    ∷ step (codes "s")
    ∷ step (codes "s")
    ∷ step (codes "s")
    ∷ Asks (OnAll (ToStart 1))
    ∷ Asks (OnAll (ToStart 2))
    ∷ Asks (OnAll (ToStart 3))
    ∷ Asks (OnAll (ToStop 2))
    ∷ Asks (OnAll (ToStop 3))
    ∷ Asks (OnOne (codes "a") (ToOpen (codes "x")))
    ∷ Takes (codes "a") 1 (codes "public.t") (Put (codes "p") (codes "1" ∷ []))
    ∷ Asks (OnOne (codes "a") (ToCommit (codes "x")))
    ∷ Asks (OnOne (codes "a") ToTell)
    ∷ Asks (OnOne (codes "b") ToTell)
    ∷ refused_each (codes "u") head
    (order.CreateSet 1 1 None
    ∷ order.SetAddTable 1 1 2 (codes "public.t") None None
    ∷ order.MoveSet 1 1 2 ∷ []) []

abbrev expected : List Reply
expected =
    Accepted answer.Done
    ∷ Accepted answer.Done
    ∷ Accepted answer.Done
    ∷ Accepted answer.Done
    ∷ Accepted (answer.Statements 6)
    ∷ Accepted answer.Done
    ∷ Accepted (answer.Emitted 1 1)
    ∷ Accepted (answer.Emitted 2 1)
    ∷ Accepted (answer.Emitted 1 2)
    ∷ Accepted (answer.Emitted 1 3)
    ∷ Accepted (answer.Emitted 1 4)
    ∷ Accepted (answer.Ended 0)
    ∷ Refused (refused.NoScript (codes "s"))
    ∷ Accepted answer.Done
    ∷ Accepted answer.Done
    ∷ Refused (refused.NoNode 3)
    ∷ Accepted answer.Done
    ∷ Refused (refused.NoNode 3)
    ∷ Accepted (answer.Opened 1)
    ∷ Accepted (answer.Acted 1)
    ∷ Accepted (answer.Committed 1)
    ∷ Accepted (answer.Status 1 0 ((1, 4) ∷ (2, 0) ∷ []) [])
    ∷ Accepted (answer.Status 2 0 ((1, 1) ∷ (2, 1) ∷ []) [])
    ∷ Accepted (answer.Statements 1)
    ∷ Refused (refused.IdUsed 1)
    ∷ Accepted (answer.Statements 1)
    ∷ Refused (refused.TableUsed (codes "public.t"))
    ∷ Accepted (answer.Statements 1)
    ∷ Refused (refused.NotBuilt (codes "move")) ∷ []

capture : replies (start 16) session ≡ expected
capture = refl
