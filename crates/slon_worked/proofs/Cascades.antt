-- A node takes a set from another one than the origin, which forwards it: when that may be, and that it waits for that.
use Rattle.std.proofs.Common.{◌≡◌, ℕ, true, List, [], ◌∷◌, codes, Some, None, ap, length}
use Rattle.slon_model.specs.declared.reply.Reply.{Reply}
use Rattle.slon_model.specs.declared.reply.Reply.TheVariants.{Accepted, Refused}
use Rattle.slon_model.specs.Rows.{Put}
use Rattle.slon_model.specs.Tasks.{OnNew, OnOne, OnAll, ToMake, ToOpen, ToCommit, ToStart, ToSync, ToTell}
use Rattle.slon_model.specs.Sessions.{start}
use Rattle.slon_worked.proofs.Running.{Worked, Asks, Takes, replies, refused_each}
use Rattle.slon_worked.proofs.Polls.{emitted, done, begun, begun_replies, head_of_three, listen, heard}
use Rattle.slon_worked.proofs.Subscribing.{ran, ran_replies}
use Rattle.slon_worked.proofs.Refusals.{each_refused}
use Rattle.slon_model.specs.Snapshots.{snapshot_text}
use Rattle.slon_worked.proofs.Works.{work, applied}
use Rattle.slon_model.specs.declared.command.Delivery.TheVariants.{Once}
use Rattle.slon_worked.proofs.Copies.{one_there}
use Rattle.std.specs.Prelude.{◌+◌}
use Rattle.slonik_script.specs.declared.script.Command.TheVariants as order
use Rattle.slon_model.specs.declared.reply.Answer.TheVariants as answer
use Rattle.slon_model.specs.declared.reply.EventKind.TheVariants as event
use Rattle.slon_model.specs.declared.reply.Refusal.TheVariants as refused

abbrev pub put_at_origin : ℕ → ℕ → List ℕ → List Worked → List Worked
put_at_origin xid number key more =
    Asks (OnOne (codes "a") (ToOpen (codes "x")))
    ∷ Takes (codes "a") xid (codes "public.t") (Put key (codes "1" ∷ []))
    ∷ Asks (OnOne (codes "a") (ToCommit (codes "x"))) ∷ more

abbrev pub put_replies : ℕ → ℕ → List Reply → List Reply
put_replies xid number more =
    Accepted (answer.Opened xid) ∷ Accepted (answer.Acted number) ∷ Accepted (answer.Committed 1) ∷ more

-- three nodes, of which the second one receives the set and forwards it; it has not told the origin so at first
abbrev pub three : List Worked → List Worked
three more =
    begun
    (Asks (OnNew (codes "c"))
    ∷ Asks (OnOne (codes "c") (ToMake (codes "public.t") 2))
    ∷ ran head_of_three (order.StoreNode 3 1 None)
    (ran head_of_three (order.StorePath 1 3 (codes "dbname=a") None)
    (ran head_of_three (order.StorePath 2 3 (codes "dbname=b") None)
    (ran head_of_three (order.SubscribeSet 1 1 2 (Some true))
    (Asks (OnAll (ToStart 3)) ∷ more)))))

abbrev pub three_replies : List Reply → List Reply
three_replies more =
    begun_replies
    (done
    ∷ done
    ∷ ran_replies (emitted 1 5)
    (ran_replies (emitted 3 1) (ran_replies (emitted 3 2) (ran_replies (emitted 1 8) (done ∷ more)))))

-- seven events come to the second node, the last of which has it copy the set
abbrev pub seven_works : List Worked → List Worked
seven_works more =
    work 2 1 ∷ work 2 1 ∷ work 2 1 ∷ work 2 1 ∷ work 2 1 ∷ work 2 1 ∷ work 2 1 ∷ more

abbrev pub seven_replies : ℕ → List Reply → List Reply
seven_replies rows more =
    applied event.StorePath 2
    ∷ applied event.StoreSet 3
    ∷ applied event.SetAddTable 4
    ∷ applied event.StoreNode 5
    ∷ applied event.Sync 6
    ∷ applied event.SubscribeSet 7
    ∷ Accepted (answer.Applied event.EnableSubscription 8 rows) ∷ more

-- The third one is to take the set from the second one. It waits there for the event that enables that, and for each
-- SYNC.
abbrev session : List Worked
session =
    put_at_origin 1 1 (codes "p")
    (listen 2 1 Once
    ∷ seven_works
    (refused_each (codes "r") head_of_three (order.SubscribeSet 1 2 3 None ∷ [])
    (listen 1 2 Once
    ∷ ran head_of_three (order.SubscribeSet 1 2 3 None)
    (listen 3 1 Once
    ∷ work 3 1
    ∷ work 3 1
    ∷ work 3 1
    ∷ work 3 1
    ∷ work 3 1
    ∷ work 3 1
    ∷ listen 2 1 Once
    ∷ work 2 1
    ∷ work 2 1
    ∷ work 3 1
    ∷ work 2 1
    ∷ work 3 1
    ∷ put_at_origin 2 2 (codes "q")
    (Asks (OnAll (ToSync 1))
    ∷ listen 3 1 Once
    ∷ work 3 1
    ∷ listen 2 1 Once
    ∷ work 2 1
    ∷ work 3 1
    ∷ Asks (OnOne (codes "c") ToTell) ∷ [])))))

abbrev expected : ℕ → List Reply
expected rows =
    put_replies 1 1
    (heard 7 0
    ∷ seven_replies rows
    (each_refused (refused.NotActive 2 ∷ [])
    (heard 1 1
    ∷ ran_replies (emitted 1 11)
    (heard 6 1
    ∷ applied event.Sync 6
    ∷ applied event.SubscribeSet 7
    ∷ applied event.EnableSubscription 8
    ∷ applied event.Sync 9
    ∷ applied event.SubscribeSet 10
    ∷ Refused (refused.Behind 2 8 11)
    ∷ heard 3 0
    ∷ applied event.Sync 9
    ∷ applied event.SubscribeSet 10
    ∷ Refused (refused.Behind 2 10 11)
    ∷ applied event.EnableSubscription 11
    ∷ Accepted (answer.Applied event.EnableSubscription 11 rows)
    ∷ put_replies 2 2
    (emitted 1 12
    ∷ heard 1 0
    ∷ Refused (refused.Behind 2 11 12)
    ∷ heard 1 0
    ∷ Accepted (answer.Applied event.Sync 12 1)
    ∷ Accepted (answer.Applied event.Sync 12 1)
    ∷ Accepted (answer.Status 3 0 ((1, 12) ∷ (2, 0) ∷ (3, 2) ∷ [])
    ((1, 1, snapshot_text (record { xmin = 3; xmax = 3; running = [] })) ∷ [])) ∷ [])))))

cascades : replies (start 16) (three session) ≡ three_replies (expected 1)
cascades = ap (λ rows. three_replies (expected (0 + length rows))) one_there
