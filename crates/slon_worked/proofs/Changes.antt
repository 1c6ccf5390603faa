-- A node takes a set from another provider than before, and from the first one again; another one forwards it no more,
-- and then again: when that may be, where the rows come from then, and from where on they are logged.
use Rattle.std.proofs.Common.{◌≡◌, ℕ, true, List, [], ◌∷◌, codes, Option, Some, None, ap, length, map, refl}
use Rattle.std.specs.Prelude.{◌+◌, option_map}
use Rattle.slonik_script.specs.declared.script.Command.TheVariants as order
use Rattle.slon_model.specs.declared.command.Delivery.TheVariants.{Once}
use Rattle.slon_model.specs.declared.reply.Answer.TheVariants as answer
use Rattle.slon_model.specs.declared.reply.EventKind.TheVariants as event
use Rattle.slon_model.specs.declared.reply.Refusal.TheVariants as refused
use Rattle.slon_model.specs.declared.reply.Reply.{Reply}
use Rattle.slon_model.specs.declared.reply.Reply.TheVariants.{Accepted, Refused}
use Rattle.slon_model.specs.Names.{find_named}
use Rattle.slon_model.specs.Snapshots.{Snapshot, snapshot_text}
use Rattle.slon_model.specs.Deeds.{Node, knowledge, view_of}
use Rattle.slon_model.specs.Logs.{logged}
use Rattle.slon_model.specs.Place.{Place}
use Rattle.slon_model.specs.Tasks.{OnOne, OnAll, ToSync, ToTell}
use Rattle.slon_model.specs.Sessions.{World, start}
use Rattle.slon_worked.proofs.Running.{Worked, Asks, replies, refused_each, went}
use Rattle.slon_worked.proofs.Polls.{emitted, head_of_three, listen, heard}
use Rattle.slon_worked.proofs.Subscribing.{ran, ran_replies}
use Rattle.slon_worked.proofs.Refusals.{each_refused}
use Rattle.slon_worked.proofs.Works.{work, applied}
use Rattle.slon_worked.proofs.Copies.{one_there}
use Rattle.slon_worked.proofs.Cascades.{put_at_origin, put_replies, seven_replies, seven_works, three, three_replies}

-- The third node takes the set from the second one, which forwards it.
abbrev cascaded : List Worked → List Worked
cascaded more =
    three (put_at_origin 1 1 (codes "p")
    (listen 2 1 Once
    ∷ seven_works
    (listen 1 2 Once
    ∷ ran head_of_three (order.StorePath 3 1 (codes "dbname=c") None)
    (ran head_of_three (order.SubscribeSet 1 2 3 None)
    (listen 3 1 Once
    ∷ work 3 1
    ∷ work 3 1
    ∷ work 3 1
    ∷ work 3 1
    ∷ work 3 1
    ∷ work 3 1
    ∷ work 3 1
    ∷ listen 2 1 Once
    ∷ work 2 1
    ∷ work 2 1
    ∷ work 2 1
    ∷ work 2 1
    ∷ work 3 1
    ∷ put_at_origin 2 2 (codes "q")
    (Asks (OnAll (ToSync 1))
    ∷ listen 3 1 Once
    ∷ work 3 1
    ∷ listen 2 1 Once
    ∷ work 2 1
    ∷ work 3 1 ∷ more))))))

abbrev cascaded_replies : ℕ → List Reply → List Reply
cascaded_replies rows more =
    three_replies (put_replies 1 1
    (heard 7 0
    ∷ seven_replies rows
    (heard 1 1
    ∷ ran_replies (emitted 1 9)
    (ran_replies (emitted 1 12)
    (heard 7 1
    ∷ applied event.Sync 6
    ∷ applied event.SubscribeSet 7
    ∷ applied event.EnableSubscription 8
    ∷ applied event.StorePath 9
    ∷ applied event.Sync 10
    ∷ applied event.SubscribeSet 11
    ∷ Refused (refused.Behind 2 8 12)
    ∷ heard 4 0
    ∷ applied event.StorePath 9
    ∷ applied event.Sync 10
    ∷ applied event.SubscribeSet 11
    ∷ applied event.EnableSubscription 12
    ∷ Accepted (answer.Applied event.EnableSubscription 12 rows)
    ∷ put_replies 2 2
    (emitted 1 13
    ∷ heard 1 0
    ∷ Refused (refused.Behind 2 12 13)
    ∷ heard 1 0
    ∷ Accepted (answer.Applied event.Sync 13 1)
    ∷ Accepted (answer.Applied event.Sync 13 1) ∷ more))))))

-- It is to take the set from the origin, and to forward it, once it has told the origin how far it is. What the second
-- one is to provide it cannot stop to forward. The SYNC before the change still comes from the second one, and the next
-- one from the origin.
abbrev to_origin : List Worked → List Worked
to_origin more =
    refused_each (codes "r") head_of_three (order.SubscribeSet 1 1 3 None ∷ [])
    (listen 1 3 Once
    ∷ refused_each (codes "q") head_of_three (order.SubscribeSet 1 3 2 None ∷ order.SubscribeSet 1 1 2 None ∷ [])
    (ran head_of_three (order.SubscribeSet 1 1 3 (Some true))
    (listen 3 1 Once
    ∷ work 3 1
    ∷ listen 2 1 Once
    ∷ work 2 1
    ∷ work 2 1
    ∷ work 3 1
    ∷ work 3 1
    ∷ put_at_origin 3 3 (codes "r")
    (Asks (OnAll (ToSync 1)) ∷ listen 3 1 Once ∷ work 3 1 ∷ more))))

abbrev to_origin_replies : List Reply → List Reply
to_origin_replies more =
    each_refused (refused.NotActive 3 ∷ [])
    (heard 2 1
    ∷ each_refused (refused.NotForwarding 3 ∷ refused.HasReceivers 2 ∷ [])
    (ran_replies (emitted 1 15)
    (heard 2 0
    ∷ Refused (refused.Behind 2 13 14)
    ∷ heard 2 1
    ∷ applied event.Sync 14
    ∷ applied event.SubscribeSet 15
    ∷ applied event.Sync 14
    ∷ applied event.SubscribeSet 15
    ∷ put_replies 3 3
    (emitted 1 16 ∷ heard 1 0 ∷ Accepted (answer.Applied event.Sync 16 1) ∷ more))))

-- And from the second one again. That one cannot take it from the third one then.
abbrev back : List Worked
back =
    refused_each (codes "r") head_of_three (order.SubscribeSet 1 2 3 (Some true) ∷ [])
    (listen 1 3 Once
    ∷ ran head_of_three (order.SubscribeSet 1 2 3 (Some true))
    (listen 3 1 Once
    ∷ work 3 1
    ∷ work 3 1
    ∷ put_at_origin 4 4 (codes "s")
    (Asks (OnAll (ToSync 1))
    ∷ listen 3 1 Once
    ∷ work 3 1
    ∷ listen 2 1 Once
    ∷ work 2 1
    ∷ work 2 1
    ∷ work 2 1
    ∷ work 2 1
    ∷ work 3 1
    ∷ listen 1 3 Once
    ∷ refused_each (codes "q") head_of_three (order.SubscribeSet 1 3 2 (Some true) ∷ [])
    (Asks (OnOne (codes "c") ToTell) ∷ []))))

abbrev back_replies : List Reply
back_replies =
    each_refused (refused.NotActive 3 ∷ [])
    (heard 0 1
    ∷ ran_replies (emitted 1 18)
    (heard 2 0
    ∷ applied event.Sync 17
    ∷ applied event.SubscribeSet 18
    ∷ put_replies 4 4
    (emitted 1 19
    ∷ heard 1 0
    ∷ Refused (refused.Behind 2 15 19)
    ∷ heard 4 1
    ∷ Accepted (answer.Applied event.Sync 16 1)
    ∷ applied event.Sync 17
    ∷ applied event.SubscribeSet 18
    ∷ Accepted (answer.Applied event.Sync 19 1)
    ∷ Accepted (answer.Applied event.Sync 19 1)
    ∷ heard 0 1
    ∷ each_refused (refused.Loop 1 ∷ [])
    (Accepted (answer.Status 3 0 ((1, 19) ∷ (2, 0) ∷ (3, 2) ∷ [])
    ((1, 1, snapshot_text (record { xmin = 5; xmax = 5; running = [] })) ∷ [])) ∷ []))))

changes : replies (start 16) (cascaded (to_origin back))
    ≡ cascaded_replies 1 (to_origin_replies back_replies)
changes =
    ap (λ rows. cascaded_replies (0 + length rows) (to_origin_replies back_replies)) one_there

-- ---- from where on it logs

abbrev goes : World → List Worked → World
goes w [] = w
goes w (s ∷ ss) = goes (went w s) ss

abbrev base_by : Option Node → Option Snapshot
base_by None = None
base_by (Some n) = option_map (λ v. v.base) (view_of 1 (knowledge n))

abbrev base_in : Option Place → Option Snapshot
base_in None = None
base_in (Some p) = base_by p.node

-- where it began to forward, which is behind the SYNC before that, and not where it copied the set
logs_from : base_in (find_named (codes "c") (goes (start 16) (cascaded (to_origin back))).places)
    ≡ Some (record { xmin = 3; xmax = 3; running = [] })
logs_from = refl

-- ---- forwarding is turned off and on again

-- The second node, from which none has the set any more, forwards it no more, and applies a row that it does not log.
-- It can provide the set again once it forwards it again.
abbrev off : List Worked → List Worked
off more =
    ran head_of_three (order.SubscribeSet 1 1 2 None)
    (listen 2 1 Once
    ∷ work 2 1
    ∷ work 2 1
    ∷ work 2 1
    ∷ put_at_origin 4 4 (codes "s")
    (Asks (OnAll (ToSync 1))
    ∷ listen 2 1 Once
    ∷ work 2 1
    ∷ refused_each (codes "r") head_of_three (order.SubscribeSet 1 2 3 None ∷ [])
    (listen 1 2 Once
    ∷ refused_each (codes "q") head_of_three (order.SubscribeSet 1 2 3 None ∷ []) more)))

abbrev off_replies : List Reply → List Reply
off_replies more =
    ran_replies (emitted 1 18)
    (heard 3 0
    ∷ Accepted (answer.Applied event.Sync 16 1)
    ∷ applied event.Sync 17
    ∷ applied event.SubscribeSet 18
    ∷ put_replies 4 4
    (emitted 1 19
    ∷ heard 1 0
    ∷ Accepted (answer.Applied event.Sync 19 1)
    ∷ each_refused (refused.NotActive 2 ∷ [])
    (heard 0 1 ∷ each_refused (refused.NotForwarding 2 ∷ []) more)))

abbrev on : List Worked
on =
    ran head_of_three (order.SubscribeSet 1 1 2 (Some true))
    (listen 2 1 Once
    ∷ work 2 1
    ∷ work 2 1
    ∷ put_at_origin 5 5 (codes "t") (Asks (OnAll (ToSync 1)) ∷ listen 2 1 Once ∷ work 2 1 ∷ []))

abbrev on_replies : List Reply
on_replies =
    ran_replies (emitted 1 21)
    (heard 2 0
    ∷ applied event.Sync 20
    ∷ applied event.SubscribeSet 21
    ∷ put_replies 5 5 (emitted 1 22 ∷ heard 1 0 ∷ Accepted (answer.Applied event.Sync 22 1) ∷ []))

turns : replies (start 16) (cascaded (to_origin (off on)))
    ≡ cascaded_replies 1 (to_origin_replies (off_replies on_replies))
turns =
    ap (λ rows. cascaded_replies (0 + length rows) (to_origin_replies (off_replies on_replies))) one_there

abbrev logged_by : Option Node → List ℕ
logged_by None = []
logged_by (Some n) = map (λ l. l.action.number) (logged n)

abbrev logged_in : Option Place → List ℕ
logged_in None = []
logged_in (Some p) = logged_by p.node

-- turned off, the base is that of the copy still
off_base : base_in (find_named (codes "b") (goes (start 16) (cascaded (to_origin (off [])))).places)
    ≡ Some (record { xmin = 2; xmax = 2; running = [] })
off_base = refl

-- turned on, it is behind the row that was not logged
on_base : base_in (find_named (codes "b") (goes (start 16) (cascaded (to_origin (off on)))).places)
    ≡ Some (record { xmin = 5; xmax = 5; running = [] })
on_base = refl

on_logs : logged_in (find_named (codes "b") (goes (start 16) (cascaded (to_origin (off on)))).places)
    ≡ 5 ∷ 3 ∷ 2 ∷ []
on_logs = refl
