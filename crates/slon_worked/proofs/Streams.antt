-- Two nodes emit SYNCs, by turns of their slons and by a statement: one is refused where nothing happened since the
-- last one, where the slon is off, and where the database is down; and nodes are cut off and joined.
use Rattle.std.proofs.Common.{◌≡◌, List, [], ◌∷◌, codes, refl, None}
use Rattle.slonik_script.specs.declared.script.Command.TheVariants as order
use Rattle.slon_model.specs.declared.command.Crash.TheVariants.{Now}
use Rattle.slon_model.specs.declared.reply.Answer.TheVariants as answer
use Rattle.slon_model.specs.declared.reply.Refusal.TheVariants as refused
use Rattle.slon_model.specs.declared.reply.Reply.{Reply}
use Rattle.slon_model.specs.declared.reply.Reply.TheVariants.{Accepted, Refused}
use Rattle.slon_model.specs.Tasks.{OnNew, OnOne, OnAll, ToMake, ToOpen, ToAbort, ToCrash, ToRise, ToStart, ToStop}
use Rattle.slon_model.specs.Tasks.{ToCut, ToJoin, ToSync}
use Rattle.slon_model.specs.Sessions.{start}
use Rattle.slon_worked.proofs.Running.{Worked, Asks, replies, reads, step}
use Rattle.slon_worked.proofs.Capture.{head}

abbrev session : List Worked
session =
    Asks (OnNew (codes "a"))
    ∷ Asks (OnNew (codes "b"))
    ∷ Asks (OnOne (codes "a") (ToMake (codes "public.t") 2))
    ∷ reads (codes "s") head
    (order.InitCluster 1 None
    ∷ order.StoreNode 2 1 None
    ∷ order.StorePath 1 2 (codes "dbname=a") None
    ∷ order.StorePath 2 1 (codes "dbname=b") None
    ∷ order.CreateSet 1 1 None
    ∷ order.SetAddTable 1 1 1 (codes "public.t") None None
    ∷ order.Sync 2
    ∷ order.StorePath 2 1 (codes "dbname=b") None
    ∷ order.Sync 1 ∷ [])
    ∷ step (codes "s")
    ∷ step (codes "s")
    ∷ step (codes "s")
    ∷ step (codes "s")
    ∷ step (codes "s")
    ∷ step (codes "s")
    ∷ Asks (OnAll (ToSync 1))
    ∷ Asks (OnAll (ToSync 3))
    ∷ Asks (OnAll (ToStart 1))
    ∷ Asks (OnAll (ToStart 2))
    ∷ Asks (OnAll (ToSync 1))
    ∷ Asks (OnAll (ToSync 1))
    ∷ step (codes "s")
    ∷ Asks (OnAll (ToSync 2))
    ∷ step (codes "s")
    ∷ Asks (OnAll (ToSync 1))
    ∷ step (codes "s")
    ∷ Asks (OnOne (codes "a") (ToOpen (codes "t")))
    ∷ Asks (OnAll (ToSync 1))
    ∷ Asks (OnAll (ToSync 1))
    ∷ Asks (OnOne (codes "a") (ToAbort (codes "t")))
    ∷ Asks (OnAll (ToSync 1))
    ∷ Asks (OnAll (ToCut 1 2))
    ∷ Asks (OnAll (ToJoin 2 1))
    ∷ Asks (OnOne (codes "b") (ToCrash Now))
    ∷ Asks (OnAll (ToSync 2))
    ∷ Asks (OnOne (codes "b") ToRise)
    ∷ Asks (OnAll (ToStop 1))
    ∷ Asks (OnAll (ToSync 1))
    ∷ Asks (OnAll (ToSync 2)) ∷ []

abbrev expected : List Reply
expected =
    Accepted answer.Done
    ∷ Accepted answer.Done
    ∷ Accepted answer.Done
    ∷ Accepted (answer.Statements 9)
    ∷ Accepted answer.Done
    ∷ Accepted (answer.Emitted 1 1)
    ∷ Accepted (answer.Emitted 2 1)
    ∷ Accepted (answer.Emitted 1 2)
    ∷ Accepted (answer.Emitted 1 3)
    ∷ Accepted (answer.Emitted 1 4)
    ∷ Refused (refused.Off 1)
    ∷ Refused (refused.NoNode 3)
    ∷ Accepted answer.Done
    ∷ Accepted answer.Done
    ∷ Accepted (answer.Emitted 1 5)
    ∷ Refused refused.Nothing
    ∷ Accepted (answer.Emitted 2 2)
    ∷ Refused refused.Nothing
    ∷ Accepted (answer.Emitted 1 6)
    ∷ Refused refused.Nothing
    ∷ Accepted (answer.Emitted 1 7)
    ∷ Accepted (answer.Opened 1)
    ∷ Accepted (answer.Emitted 1 8)
    ∷ Refused refused.Nothing
    ∷ Accepted answer.Done
    ∷ Accepted (answer.Emitted 1 9)
    ∷ Accepted answer.Done
    ∷ Accepted answer.Done
    ∷ Accepted answer.Done
    ∷ Refused (refused.Down (codes "b"))
    ∷ Accepted answer.Done
    ∷ Accepted answer.Done
    ∷ Refused (refused.Off 1)
    ∷ Accepted (answer.Emitted 2 3) ∷ []

streams : replies (start 16) session ≡ expected
streams = refl
