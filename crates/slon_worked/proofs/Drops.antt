-- A set ends: when that may be, what a receiver has until it applies the event and then, and what stays used.
use Rattle.std.proofs.Common.{◌≡◌, ℕ, List, [], ◌∷◌, codes, Option, Some, None, ap, length, refl}
use Rattle.std.specs.Prelude.{◌+◌, option_map}
use Rattle.slonik_script.specs.declared.script.Command.TheVariants as order
use Rattle.slon_model.specs.declared.command.Delivery.TheVariants.{Once}
use Rattle.slon_model.specs.declared.reply.Answer.TheVariants as answer
use Rattle.slon_model.specs.declared.reply.EventKind.TheVariants as event
use Rattle.slon_model.specs.declared.reply.Refusal.TheVariants as refused
use Rattle.slon_model.specs.declared.reply.Reply.{Reply}
use Rattle.slon_model.specs.declared.reply.Reply.TheVariants.{Accepted, Refused}
use Rattle.slon_model.specs.Rows.{Put, Row}
use Rattle.slon_model.specs.Snapshots.{snapshot_text}
use Rattle.slon_model.specs.Tasks.{OnOne, ToCommit, ToList, ToMake, ToOpen, ToTell, ToWrite}
use Rattle.slon_model.specs.Logs.{logged}
use Rattle.slon_model.specs.Names.{find_named}
use Rattle.slon_model.specs.Place.{Place}
use Rattle.slon_model.specs.Sessions.{World, start}
use Rattle.slon_worked.proofs.Running.{Worked, Asks, Takes, replies, refused_each, went}
use Rattle.slon_worked.proofs.Capture.{head}
use Rattle.slon_worked.proofs.Polls.{begun, begun_replies, done, emitted, listen, heard}
use Rattle.slon_worked.proofs.Subscribing.{ran, ran_replies}
use Rattle.slon_worked.proofs.Refusals.{each_refused}
use Rattle.slon_worked.proofs.Works.{work, applied}
use Rattle.slon_worked.proofs.Copies.{one_there}
use Rattle.slon_worked.proofs.Cascades.{put_at_origin, put_replies}

-- The second node has copied the set, with one row. Each refusal comes once. The set ends at its origin at once: its id
-- stays used, and so do the ids and the names of its tables; other statements do not know it any more.
abbrev dropped : List Worked → List Worked
dropped more =
    begun
    (put_at_origin 1 1 (codes "p")
    (ran head (order.SubscribeSet 1 1 2 None)
    (listen 2 1 Once
    ∷ work 2 1
    ∷ work 2 1
    ∷ work 2 1
    ∷ work 2 1
    ∷ work 2 1
    ∷ work 2 1
    ∷ refused_each (codes "r") head (order.DropSet 9 1 ∷ order.DropSet 1 6 ∷ order.DropSet 1 2 ∷ [])
    (ran head (order.Sync 1)
    (ran head (order.DropSet 1 1)
    (refused_each (codes "r") head
    (order.DropSet 1 1
    ∷ order.SubscribeSet 1 1 2 None
    ∷ order.UnsubscribeSet 1 2
    ∷ order.SetAddTable 1 1 2 (codes "public.v") None None
    ∷ order.CreateSet 1 1 None ∷ [])
    (ran head (order.CreateSet 2 1 None)
    (Asks (OnOne (codes "a") (ToMake (codes "public.v") 2))
    ∷ refused_each (codes "r") head
    (order.SetAddTable 2 1 1 (codes "public.v") None None
    ∷ order.SetAddTable 2 1 2 (codes "public.t") None None ∷ []) more))))))))

abbrev dropped_replies : ℕ → List Reply → List Reply
dropped_replies rows more =
    begun_replies
    (put_replies 1 1
    (ran_replies (emitted 1 7)
    (heard 6 0
    ∷ applied event.StorePath 2
    ∷ applied event.StoreSet 3
    ∷ applied event.SetAddTable 4
    ∷ applied event.Sync 5
    ∷ applied event.SubscribeSet 6
    ∷ Accepted (answer.Applied event.EnableSubscription 7 rows)
    ∷ each_refused (refused.NoSet 9 ∷ refused.NoConninfo 6 ∷ refused.NotOrigin 1 ∷ [])
    (ran_replies (emitted 1 8)
    (ran_replies (emitted 1 9)
    (each_refused
    (refused.NoSet 1 ∷ refused.NoSet 1 ∷ refused.NoSet 1 ∷ refused.NoSet 1 ∷ refused.IdUsed 1 ∷ [])
    (ran_replies (emitted 1 10)
    (done ∷ each_refused (refused.IdUsed 1 ∷ refused.TableUsed (codes "public.t") ∷ []) more))))))))

-- The origin writes its table freely. The receiver has the set until it applies the event, and takes no writes on it;
-- then it keeps nothing of it. Its table has its rows still, and is written like any other: what refuses a write is the
-- lock of another transaction, at which only an open table is looked.
abbrev follows : List Worked
follows =
    put_at_origin 2 2 (codes "q")
    (Asks (OnOne (codes "b") (ToOpen (codes "x")))
    ∷ Asks (OnOne (codes "b") (ToWrite (record {
      name = codes "x";
      table = codes "public.t";
      change = Put (codes "y") (codes "9" ∷ []);
    })))
    ∷ listen 2 1 Once
    ∷ work 2 1
    ∷ Asks (OnOne (codes "b") ToTell)
    ∷ work 2 1
    ∷ Asks (OnOne (codes "b") ToTell)
    ∷ Asks (OnOne (codes "b") (ToList (codes "public.t")))
    ∷ Takes (codes "b") 1 (codes "public.t") (Put (codes "y") (codes "9" ∷ []))
    ∷ Asks (OnOne (codes "b") (ToOpen (codes "z")))
    ∷ Asks (OnOne (codes "b") (ToWrite (record {
      name = codes "z";
      table = codes "public.t";
      change = Put (codes "y") (codes "8" ∷ []);
    })))
    ∷ Asks (OnOne (codes "b") (ToCommit (codes "x")))
    ∷ work 2 1
    ∷ refused_each (codes "r") head (order.DropSet 1 2 ∷ []) [])

abbrev follows_replies : List (List ℕ × Row) → List Reply
follows_replies rows =
    put_replies 2 2
    (Accepted (answer.Opened 1)
    ∷ Refused (refused.NotOrigin 1)
    ∷ heard 3 0
    ∷ applied event.Sync 8
    ∷ Accepted (answer.Status 2 0 ((1, 8) ∷ (2, 1) ∷ [])
    ((1, 1, snapshot_text (record { xmin = 2; xmax = 2; running = [] })) ∷ []))
    ∷ applied event.DropSet 9
    ∷ Accepted (answer.Status 2 0 ((1, 9) ∷ (2, 1) ∷ []) [])
    ∷ Accepted (answer.Listed rows)
    ∷ Accepted (answer.Acted 1)
    ∷ Accepted (answer.Opened 2)
    ∷ Refused (refused.Locked 1)
    ∷ Accepted (answer.Committed 1)
    ∷ applied event.StoreSet 10
    ∷ each_refused (refused.NoSet 1 ∷ []) [])

drops : replies (start 16) (dropped follows)
    ≡ dropped_replies 1 (follows_replies ((codes "p", codes "1" ∷ []) ∷ []))
drops = ap (λ rows. dropped_replies (0 + length rows) (follows_replies rows)) one_there

-- the session behind these steps, and how many actions the node of a database has logged
abbrev behind : World → List Worked → World
behind w [] = w
behind w (s ∷ ss) = behind (went w s) ss

abbrev logged_at : Option Place → Option ℕ
logged_at None = None
logged_at (Some p) = option_map (λ n. length (logged n)) p.node

-- Of the two rows that were written at the origin the first one alone is logged, as the set had ended before the other.
logs : logged_at (find_named (codes "a") (behind (start 16) (dropped follows)).places) ≡ Some 1
logs = refl

-- The set ends before the receiver has copied it: the origin has nothing to give then, so that nothing is copied.
vain : replies (start 16)
    (begun
    (ran head (order.SubscribeSet 1 1 2 None)
    (ran head (order.DropSet 1 1)
    (listen 2 1 Once
    ∷ work 2 1
    ∷ work 2 1
    ∷ work 2 1
    ∷ work 2 1
    ∷ work 2 1
    ∷ work 2 1
    ∷ Asks (OnOne (codes "b") ToTell)
    ∷ work 2 1 ∷ []))))
    ≡ begun_replies
    (ran_replies (emitted 1 7)
    (ran_replies (emitted 1 8)
    (heard 7 0
    ∷ applied event.StorePath 2
    ∷ applied event.StoreSet 3
    ∷ applied event.SetAddTable 4
    ∷ applied event.Sync 5
    ∷ applied event.SubscribeSet 6
    ∷ applied event.EnableSubscription 7
    ∷ Accepted (answer.Status 2 0 ((1, 7) ∷ (2, 1) ∷ []) [])
    ∷ applied event.DropSet 8 ∷ [])))
vain = refl
