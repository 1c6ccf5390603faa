-- Subscriptions end: when that may be, what the receiver keeps then, and that one that subscribes again copies anew.
use Rattle.std.proofs.Common.{◌≡◌, ℕ, List, [], ◌∷◌, codes, None, ap, length, ◌∙◌}
use Rattle.std.specs.Prelude.{◌+◌}
use Rattle.std.specs.FinMap.{entries}
use Rattle.slonik_script.specs.declared.script.Command.TheVariants as order
use Rattle.slon_model.specs.declared.command.Delivery.TheVariants.{Once}
use Rattle.slon_model.specs.declared.reply.Answer.TheVariants as answer
use Rattle.slon_model.specs.declared.reply.EventKind.TheVariants as event
use Rattle.slon_model.specs.declared.reply.Refusal.TheVariants as refused
use Rattle.slon_model.specs.declared.reply.Reply.{Reply}
use Rattle.slon_model.specs.declared.reply.Reply.TheVariants.{Accepted, Refused}
use Rattle.slon_model.specs.Rows.{Put}
use Rattle.slon_model.specs.Snapshots.{snapshot_text}
use Rattle.slon_model.specs.Tasks.{OnOne, OnAll, ToCommit, ToOpen, ToSync, ToTell, ToWrite}
use Rattle.slon_model.specs.Sessions.{start}
use Rattle.slon_worked.proofs.Running.{Worked, Asks, Takes, replies, refused_each}
use Rattle.slon_worked.proofs.Polls.{emitted, head_of_three, listen, heard}
use Rattle.slon_worked.proofs.Subscribing.{ran, ran_replies}
use Rattle.slon_worked.proofs.Refusals.{each_refused}
use Rattle.slon_worked.proofs.Works.{work, applied, no_rows, none_there}
use Rattle.slon_worked.proofs.Copies.{one_there}
use Rattle.slon_worked.proofs.Cascades.{put_at_origin, put_replies, seven_replies, seven_works, three, three_replies}

-- The second node has the set and forwards it, and the third one is to take it from there.
abbrev fed : List Worked → List Worked
fed more =
    three (listen 2 1 Once
    ∷ seven_works (listen 1 2 Once ∷ ran head_of_three (order.SubscribeSet 1 2 3 None) more))

abbrev fed_replies : ℕ → List Reply → List Reply
fed_replies rows more =
    three_replies (heard 7 0 ∷ seven_replies rows (heard 1 1 ∷ ran_replies (emitted 1 11) more))

-- ---- a receiver gives the set up

-- Each refusal comes once. The receiver has the set until it applies the event, and takes no writes on it; then it
-- keeps nothing of it, and its tables are as any others. The other one may give it up now, as none has it from there.
abbrev left : List Worked → List Worked
left more =
    refused_each (codes "z") head_of_three
    (order.UnsubscribeSet 9 3 ∷ order.UnsubscribeSet 1 1 ∷ order.UnsubscribeSet 1 2 ∷ [])
    (listen 3 1 Once
    ∷ work 3 1
    ∷ work 3 1
    ∷ work 3 1
    ∷ work 3 1
    ∷ work 3 1
    ∷ listen 2 1 Once
    ∷ work 2 1
    ∷ work 2 1
    ∷ work 2 1
    ∷ work 3 1
    ∷ ran head_of_three (order.UnsubscribeSet 1 3)
    (refused_each (codes "z") head_of_three (order.UnsubscribeSet 1 3 ∷ [])
    (Asks (OnOne (codes "c") (ToOpen (codes "x")))
    ∷ Asks (OnOne (codes "c") (ToWrite (record {
      name = codes "x";
      table = codes "public.t";
      change = Put (codes "y") (codes "9" ∷ []);
    })))
    ∷ listen 3 1 Once
    ∷ work 3 1
    ∷ Takes (codes "c") 1 (codes "public.t") (Put (codes "y") (codes "9" ∷ []))
    ∷ Asks (OnOne (codes "c") (ToCommit (codes "x")))
    ∷ Asks (OnOne (codes "c") ToTell)
    ∷ ran head_of_three (order.UnsubscribeSet 1 2) more)))

abbrev left_replies : ℕ → List Reply → List Reply
left_replies rows more =
    each_refused (refused.NoSet 9 ∷ refused.NotActive 1 ∷ refused.HasReceivers 2 ∷ [])
    (heard 6 1
    ∷ applied event.Sync 6
    ∷ applied event.SubscribeSet 7
    ∷ applied event.EnableSubscription 8
    ∷ applied event.Sync 9
    ∷ applied event.SubscribeSet 10
    ∷ heard 3 0
    ∷ applied event.Sync 9
    ∷ applied event.SubscribeSet 10
    ∷ applied event.EnableSubscription 11
    ∷ Accepted (answer.Applied event.EnableSubscription 11 rows)
    ∷ ran_replies (emitted 1 12)
    (each_refused (refused.NotActive 3 ∷ [])
    (Accepted (answer.Opened 1)
    ∷ Refused (refused.NotOrigin 1)
    ∷ heard 1 0
    ∷ applied event.UnsubscribeSet 12
    ∷ Accepted (answer.Acted 1)
    ∷ Accepted (answer.Committed 1)
    ∷ Accepted (answer.Status 3 0 ((1, 12) ∷ (2, 0) ∷ (3, 2) ∷ []) [])
    ∷ ran_replies (emitted 1 13) more)))

-- It subscribes again, and has the rows of the origin as they are when it copies them, and none of its own.
abbrev again : List Worked
again =
    ran head_of_three (order.SubscribeSet 1 1 3 None)
    (put_at_origin 1 1 (codes "p")
    (Asks (OnAll (ToSync 1))
    ∷ listen 3 1 Once
    ∷ work 3 1
    ∷ work 3 1
    ∷ work 3 1
    ∷ work 3 1
    ∷ work 3 1
    ∷ Asks (OnOne (codes "c") ToTell) ∷ []))

abbrev again_replies : ℕ → List Reply
again_replies rows =
    ran_replies (emitted 1 16)
    (put_replies 1 1
    (emitted 1 17
    ∷ heard 5 0
    ∷ applied event.UnsubscribeSet 13
    ∷ applied event.Sync 14
    ∷ applied event.SubscribeSet 15
    ∷ Accepted (answer.Applied event.EnableSubscription 16 rows)
    ∷ applied event.Sync 17
    ∷ Accepted (answer.Status 3 0 ((1, 17) ∷ (2, 0) ∷ (3, 2) ∷ [])
    ((1, 1, snapshot_text (record { xmin = 2; xmax = 2; running = [] })) ∷ [])) ∷ []))

ends : replies (start 16) (fed (left again)) ≡ fed_replies 0 (left_replies 0 (again_replies 1))
ends =
    ap (λ rows. fed_replies (0 + length (entries no_rows)) (left_replies (0 + length (entries no_rows))
    (again_replies (0 + length rows)))) one_there
    ∙ ap (λ rows. fed_replies (0 + length rows) (left_replies (0 + length rows) (again_replies 1))) none_there

-- ---- a copy that comes to nothing

-- Both give the set up before the third one has copied it. The second one has nothing to give then, so that nothing is
-- copied; and the third one is told soon that it is no receiver any more.
abbrev vain : List Worked
vain =
    ran head_of_three (order.UnsubscribeSet 1 3)
    (ran head_of_three (order.UnsubscribeSet 1 2)
    (listen 2 1 Once
    ∷ work 2 1
    ∷ work 2 1
    ∷ work 2 1
    ∷ work 2 1
    ∷ work 2 1
    ∷ listen 3 1 Once
    ∷ work 3 1
    ∷ work 3 1
    ∷ work 3 1
    ∷ work 3 1
    ∷ work 3 1
    ∷ work 3 1
    ∷ Asks (OnOne (codes "c") ToTell)
    ∷ work 3 1
    ∷ work 3 1 ∷ []))

abbrev vain_replies : List Reply
vain_replies =
    ran_replies (emitted 1 12)
    (ran_replies (emitted 1 13)
    (heard 5 0
    ∷ applied event.Sync 9
    ∷ applied event.SubscribeSet 10
    ∷ applied event.EnableSubscription 11
    ∷ applied event.UnsubscribeSet 12
    ∷ applied event.UnsubscribeSet 13
    ∷ heard 8 1
    ∷ applied event.Sync 6
    ∷ applied event.SubscribeSet 7
    ∷ applied event.EnableSubscription 8
    ∷ applied event.Sync 9
    ∷ applied event.SubscribeSet 10
    ∷ applied event.EnableSubscription 11
    ∷ Accepted (answer.Status 3 0 ((1, 11) ∷ (2, 0) ∷ (3, 2) ∷ []) [])
    ∷ applied event.UnsubscribeSet 12
    ∷ applied event.UnsubscribeSet 13 ∷ []))

vains : replies (start 16) (fed vain) ≡ fed_replies 0 vain_replies
vains = ap (λ rows. fed_replies (0 + length rows) vain_replies) none_there
