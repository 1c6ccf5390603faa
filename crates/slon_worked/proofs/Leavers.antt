-- A node is dropped: when that may be, that the others do not poll or answer it any more, that its id stays used, and
-- that nothing is taken from it.
use Rattle.std.proofs.Common.{◌≡◌, ℕ, List, [], ◌∷◌, codes, refl, None, ap, length}
use Rattle.std.specs.Prelude.{◌+◌}
use Rattle.slonik_script.specs.declared.script.Command.TheVariants as order
use Rattle.slon_model.specs.declared.command.Delivery.TheVariants.{Once}
use Rattle.slon_model.specs.declared.reply.Answer.TheVariants as answer
use Rattle.slon_model.specs.declared.reply.EventKind.TheVariants as event
use Rattle.slon_model.specs.declared.reply.Refusal.TheVariants as refused
use Rattle.slon_model.specs.declared.reply.Reply.{Reply}
use Rattle.slon_model.specs.declared.reply.Reply.TheVariants.{Accepted, Refused}
use Rattle.slon_model.specs.Snapshots.{snapshot_text}
use Rattle.slon_model.specs.Tasks.{OnNew, OnOne, OnAll, ToMake, ToStart, ToTell}
use Rattle.slon_model.specs.Sessions.{start}
use Rattle.slon_worked.proofs.Running.{Worked, Asks, replies, Head, refused_each}
use Rattle.slon_worked.proofs.Capture.{head}
use Rattle.slon_worked.proofs.Polls.{begun, begun_replies, done, emitted, head_of_three, listen, heard}
use Rattle.slon_worked.proofs.Subscribing.{ran, ran_replies}
use Rattle.slon_worked.proofs.Refusals.{each_refused}
use Rattle.slon_worked.proofs.Works.{work, applied, none_there}
use Rattle.slon_worked.proofs.Cascades.{three, three_replies}

-- ---- refusals

-- Each one once, in order. The second node receives both sets from the first one, which is their origin: the first set
-- is told. The node that is asked must know of that: the second one has not heard of the sets yet, so it drops the
-- first node, while the third one, which joined behind the first set, does not.
refusals : replies (start 16)
    (three
    (ran head (order.CreateSet 2 1 None)
    (ran head (order.SubscribeSet 2 1 2 None)
    (refused_each (codes "r") head_of_three
    (order.DropNode 1 6
    ∷ order.DropNode 1 1
    ∷ order.DropNode 4 1
    ∷ order.DropNode 2 1
    ∷ order.DropNode 1 3 ∷ [])
    (ran head (order.UnsubscribeSet 1 2)
    (refused_each (codes "r") head_of_three (order.DropNode 2 1 ∷ [])
    (ran head (order.DropSet 2 1)
    (ran head (order.DropNode 2 1) (ran head (order.DropNode 1 2) [])))))))))
    ≡ three_replies
    (ran_replies (emitted 1 9)
    (ran_replies (emitted 1 12)
    (each_refused
    (refused.NoConninfo 6
    ∷ refused.SameNode 1
    ∷ refused.NoNode 4
    ∷ refused.StillUsed 1
    ∷ refused.StillUsed 1 ∷ [])
    (ran_replies (emitted 1 13)
    (each_refused (refused.StillUsed 2 ∷ [])
    (ran_replies (emitted 1 14) (ran_replies (emitted 1 15) (ran_replies (emitted 2 2) []))))))))
refusals = refl

-- ---- a node leaves

-- three nodes, of which the first and the third have paths to each other
abbrev joined : List Worked → List Worked
joined more =
    begun
    (Asks (OnNew (codes "c"))
    ∷ Asks (OnNew (codes "d"))
    ∷ ran head_of_three (order.StoreNode 3 1 None)
    (ran head_of_three (order.StorePath 1 3 (codes "dbname=a") None)
    (ran head_of_three (order.StorePath 2 3 (codes "dbname=b") None)
    (ran head_of_three (order.StorePath 3 1 (codes "dbname=c") None)
    (Asks (OnAll (ToStart 3)) ∷ more)))))

abbrev joined_replies : List Reply → List Reply
joined_replies more =
    begun_replies
    (done
    ∷ done
    ∷ ran_replies (emitted 1 5)
    (ran_replies (emitted 3 1) (ran_replies (emitted 3 2) (ran_replies (emitted 1 6) (done ∷ more)))))

-- another database for the third node
abbrev head_of_other : Head
head_of_other = record { cluster = codes "demo"; nodes = (1, codes "dbname=a") ∷ (3, codes "dbname=d") ∷ [] }

-- The first node does not hear the dropped one any more, and does not answer it; what had come from it is applied
-- still. Its id stays used, and it is never a node again. The second node answers it until it has heard of that, too.
-- The dropped node itself goes on as before.
leaves : replies (start 16)
    (joined
    (listen 1 3 Once
    ∷ ran head (order.DropNode 3 1)
    (refused_each (codes "r") head_of_three
    (order.DropNode 3 1
    ∷ order.StorePath 3 1 (codes "dbname=c") None
    ∷ order.SubscribeSet 1 1 3 None
    ∷ order.StoreNode 3 1 None ∷ [])
    (refused_each (codes "r") head_of_other (order.StoreNode 3 1 None ∷ [])
    (listen 1 3 Once
    ∷ work 1 3
    ∷ listen 3 1 Once
    ∷ listen 2 1 Once
    ∷ work 2 1
    ∷ work 2 1
    ∷ work 2 1
    ∷ listen 3 2 Once
    ∷ work 2 1
    ∷ listen 3 2 Once
    ∷ work 3 2
    ∷ work 2 1
    ∷ work 2 1
    ∷ listen 3 2 Once
    ∷ ran head_of_three (order.Sync 3) (Asks (OnOne (codes "c") ToTell) ∷ []))))))
    ≡ joined_replies
    (heard 2 1
    ∷ ran_replies (emitted 1 7)
    (each_refused (refused.NoNode 3 ∷ refused.NoNode 3 ∷ refused.NoNode 3 ∷ refused.AlreadyNode 3 ∷ [])
    (each_refused (refused.IdUsed 3 ∷ [])
    (Refused (refused.NotListed 3)
    ∷ applied event.StorePath 1
    ∷ Refused (refused.NotKnown 3)
    ∷ heard 6 2
    ∷ applied event.StorePath 2
    ∷ applied event.StoreSet 3
    ∷ applied event.SetAddTable 4
    ∷ Refused (refused.NotKnown 3)
    ∷ applied event.StoreNode 5
    ∷ heard 1 2
    ∷ applied event.StorePath 1
    ∷ applied event.StorePath 6
    ∷ applied event.DropNode 7
    ∷ Refused (refused.NotKnown 3)
    ∷ ran_replies (emitted 3 3)
    (Accepted (answer.Status 3 0 ((1, 5) ∷ (2, 1) ∷ (3, 3) ∷ []) []) ∷ [])))))
leaves = refl

-- ---- a receiver that the event node does not know as one

-- The third node has copied the set, and a SYNC of the origin waits there. The second node has not heard of the
-- subscription and drops the third one. Its provider does not give it anything then; it keeps the set as it was, and
-- has its subscription at the origin until that ends.
abbrev receiving : List Worked
receiving =
    begun
    (Asks (OnNew (codes "c"))
    ∷ Asks (OnOne (codes "c") (ToMake (codes "public.t") 2))
    ∷ ran head_of_three (order.StoreNode 3 1 None)
    (ran head_of_three (order.StorePath 1 3 (codes "dbname=a") None)
    (listen 2 1 Once
    ∷ work 2 1
    ∷ work 2 1
    ∷ work 2 1
    ∷ work 2 1
    ∷ Asks (OnAll (ToStart 3))
    ∷ ran head (order.SubscribeSet 1 1 3 None)
    (listen 3 1 Once
    ∷ work 3 1
    ∷ work 3 1
    ∷ work 3 1
    ∷ ran head (order.Sync 1)
    (listen 3 1 Once
    ∷ refused_each (codes "r") head (order.DropNode 3 1 ∷ [])
    (ran head (order.DropNode 3 2)
    (listen 1 2 Once
    ∷ work 1 2
    ∷ work 1 2
    ∷ work 3 1
    ∷ listen 3 1 Once
    ∷ Asks (OnOne (codes "c") ToTell)
    ∷ refused_each (codes "r") head
    (order.SubscribeSet 1 1 3 None ∷ order.SetAddTable 1 1 2 (codes "public.t") None None ∷ [])
    (ran head (order.UnsubscribeSet 1 3) []))))))))

abbrev received : ℕ → List Reply
received rows =
    begun_replies
    (done
    ∷ done
    ∷ ran_replies (emitted 1 5)
    (ran_replies (emitted 3 1)
    (heard 4 0
    ∷ applied event.StorePath 2
    ∷ applied event.StoreSet 3
    ∷ applied event.SetAddTable 4
    ∷ applied event.StoreNode 5
    ∷ done
    ∷ ran_replies (emitted 1 8)
    (heard 3 0
    ∷ applied event.Sync 6
    ∷ applied event.SubscribeSet 7
    ∷ Accepted (answer.Applied event.EnableSubscription 8 rows)
    ∷ ran_replies (emitted 1 9)
    (heard 1 0
    ∷ each_refused (refused.StillUsed 1 ∷ [])
    (ran_replies (emitted 2 2)
    (heard 2 1
    ∷ applied event.StorePath 1
    ∷ applied event.DropNode 2
    ∷ Refused (refused.NotKnown 3)
    ∷ Refused (refused.NotKnown 3)
    ∷ Accepted (answer.Status 3 0 ((1, 8) ∷ (2, 0) ∷ (3, 1) ∷ [])
    ((1, 1, snapshot_text (record { xmin = 1; xmax = 1; running = [] })) ∷ []))
    ∷ each_refused (refused.NoNode 3 ∷ refused.HasReceivers 3 ∷ []) (ran_replies (emitted 1 10) []))))))))

keeps : replies (start 16) receiving ≡ received 0
keeps = ap (λ rows. received (0 + length rows)) none_there

-- ---- an event that comes late

-- the fourth node takes the place of the third one
abbrev head_of_four : Head
head_of_four = record {
  cluster = codes "demo";
  nodes = (1, codes "dbname=a") ∷ (2, codes "dbname=b") ∷ (3, codes "dbname=d") ∷ (4, codes "dbname=c") ∷ [];
}

-- The fourth node hears that the third one is dropped before it hears that there is one. It is a dropped one to it from
-- the first on, and stays so.
late : replies (start 16)
    (begun
    (Asks (OnNew (codes "c"))
    ∷ Asks (OnNew (codes "d"))
    ∷ ran head_of_four (order.StoreNode 4 1 None)
    (ran head_of_four (order.StorePath 1 4 (codes "dbname=a") None)
    (ran head_of_four (order.StoreNode 3 2 None)
    (listen 1 2 Once
    ∷ work 1 2
    ∷ work 1 2
    ∷ ran head (order.DropNode 3 1)
    (Asks (OnAll (ToStart 4))
    ∷ listen 4 1 Once
    ∷ refused_each (codes "r") head_of_four (order.DropNode 3 4 ∷ [])
    (work 4 1
    ∷ refused_each (codes "r") head_of_four (order.StorePath 3 4 (codes "dbname=d") None ∷ [])
    (work 4 2
    ∷ work 4 2
    ∷ refused_each (codes "r") head_of_four
    (order.StorePath 3 4 (codes "dbname=d") None ∷ order.DropNode 3 4 ∷ []) []))))))))
    ≡ begun_replies
    (done
    ∷ done
    ∷ ran_replies (emitted 1 5)
    (ran_replies (emitted 4 1)
    (ran_replies (emitted 2 2)
    (heard 2 1
    ∷ applied event.StorePath 1
    ∷ applied event.StoreNode 2
    ∷ ran_replies (emitted 1 6)
    (done
    ∷ heard 3 2
    ∷ each_refused (refused.NoNode 3 ∷ [])
    (applied event.DropNode 6
    ∷ each_refused (refused.NoNode 3 ∷ [])
    (applied event.StorePath 1
    ∷ applied event.StoreNode 2
    ∷ each_refused (refused.NoNode 3 ∷ refused.NoNode 3 ∷ []) [])))))))
late = refl
