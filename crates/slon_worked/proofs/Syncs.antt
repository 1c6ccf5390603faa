-- A node that keeps a set applies the SYNCs of its origin: which rows come with each of them, and what is kept then.
use Rattle.std.proofs.Common.{◌≡◌, ℕ, List, [], ◌∷◌, length, codes, None, ap}
use Rattle.std.specs.Prelude.{◌+◌}
use Rattle.slonik_script.specs.declared.script.Command.TheVariants as order
use Rattle.slon_model.specs.declared.command.Delivery.TheVariants.{Once}
use Rattle.slon_model.specs.declared.reply.Answer.TheVariants as answer
use Rattle.slon_model.specs.declared.reply.EventKind.TheVariants as event
use Rattle.slon_model.specs.declared.reply.Reply.{Reply}
use Rattle.slon_model.specs.declared.reply.Reply.TheVariants.{Accepted}
use Rattle.slon_model.specs.Snapshots.{Snapshot, snapshot_text}
use Rattle.slon_model.specs.Rows.{Put}
use Rattle.slon_model.specs.Tasks.{OnOne, OnAll, ToOpen, ToCommit, ToAbort, ToSync, ToTell}
use Rattle.slon_model.specs.Sessions.{start}
use Rattle.slon_worked.proofs.Running.{Worked, Asks, Takes, replies, tried}
use Rattle.slon_worked.proofs.Capture.{head}
use Rattle.slon_worked.proofs.Copies.{one_there}
use Rattle.slon_worked.proofs.Polls.{listen, heard, emitted, done, begun, begun_replies}
use Rattle.slon_worked.proofs.Works.{work, applied, none_there}

-- the node applies the six events by which it comes to keep the set
abbrev six_works : List Worked → List Worked
six_works more = work 2 1 ∷ work 2 1 ∷ work 2 1 ∷ work 2 1 ∷ work 2 1 ∷ work 2 1 ∷ more

abbrev six_replies : ℕ → List Reply → List Reply
six_replies rows more =
    applied event.StorePath 2
    ∷ applied event.StoreSet 3
    ∷ applied event.SetAddTable 4
    ∷ applied event.Sync 5
    ∷ applied event.SubscribeSet 6
    ∷ Accepted (answer.Applied event.EnableSubscription 7 rows) ∷ more

-- a SYNC of the origin, which the node hears and applies
abbrev synced : List Worked → List Worked
synced more = Asks (OnAll (ToSync 1)) ∷ listen 2 1 Once ∷ work 2 1 ∷ more

abbrev synced_replies : ℕ → ℕ → List Reply → List Reply
synced_replies number rows more =
    emitted 1 number ∷ heard 1 0 ∷ Accepted (answer.Applied event.Sync number rows) ∷ more

abbrev kept : ℕ → Snapshot → Reply
kept number seen =
    Accepted (answer.Status 2 0 ((1, number) ∷ (2, 1) ∷ []) ((1, 1, snapshot_text seen) ∷ []))

-- ---- a lower transaction that commits later

abbrev later_session : List Worked
later_session =
    begun
    (tried (codes "s") head (order.SubscribeSet 1 1 2 None)
    (listen 2 1 Once
    ∷ six_works
    (Asks (OnOne (codes "a") (ToOpen (codes "u")))
    ∷ Takes (codes "a") 1 (codes "public.t") (Put (codes "p") (codes "1" ∷ []))
    ∷ Asks (OnOne (codes "a") (ToOpen (codes "v")))
    ∷ Takes (codes "a") 2 (codes "public.t") (Put (codes "q") (codes "2" ∷ []))
    ∷ Asks (OnOne (codes "a") (ToCommit (codes "v")))
    ∷ synced
    (Asks (OnOne (codes "b") ToTell)
    ∷ Asks (OnOne (codes "a") (ToCommit (codes "u")))
    ∷ synced (Asks (OnOne (codes "b") ToTell) ∷ [])))))

-- with this number of rows at the origin, whose table is empty as it is copied
abbrev later_expected : ℕ → List Reply
later_expected rows =
    begun_replies
    (Accepted (answer.Statements 1)
    ∷ emitted 1 7
    ∷ heard 6 0
    ∷ six_replies rows
    (Accepted (answer.Opened 1)
    ∷ Accepted (answer.Acted 1)
    ∷ Accepted (answer.Opened 2)
    ∷ Accepted (answer.Acted 2)
    ∷ Accepted (answer.Committed 1)
    ∷ synced_replies 8 1
    (kept 8 (record { xmin = 1; xmax = 3; running = 1 ∷ [] })
    ∷ Accepted (answer.Committed 1)
    ∷ synced_replies 9 1 (kept 9 (record { xmin = 3; xmax = 3; running = [] }) ∷ []))))

later : replies (start 16) later_session ≡ later_expected 0
later = ap (λ rows. later_expected (0 + length rows)) none_there

-- ---- a SYNC that is older than the copy

-- the copy sees one transaction more than the SYNC, and what is kept does not go back
abbrev older_session : List Worked
older_session =
    begun
    (tried (codes "s") head (order.SubscribeSet 1 1 2 None)
    (Asks (OnOne (codes "a") (ToOpen (codes "u")))
    ∷ Takes (codes "a") 1 (codes "public.t") (Put (codes "p") (codes "1" ∷ []))
    ∷ Asks (OnOne (codes "a") (ToCommit (codes "u")))
    ∷ Asks (OnAll (ToSync 1))
    ∷ Asks (OnOne (codes "a") (ToOpen (codes "v")))
    ∷ Asks (OnOne (codes "a") (ToAbort (codes "v")))
    ∷ listen 2 1 Once
    ∷ six_works
    (work 2 1 ∷ Asks (OnOne (codes "b") ToTell) ∷ [])))

abbrev older_expected : ℕ → List Reply
older_expected rows =
    begun_replies
    (Accepted (answer.Statements 1)
    ∷ emitted 1 7
    ∷ Accepted (answer.Opened 1)
    ∷ Accepted (answer.Acted 1)
    ∷ Accepted (answer.Committed 1)
    ∷ emitted 1 8
    ∷ Accepted (answer.Opened 2)
    ∷ done
    ∷ heard 7 0
    ∷ six_replies rows
    (applied event.Sync 8 ∷ kept 8 (record { xmin = 3; xmax = 3; running = [] }) ∷ []))

older : replies (start 16) older_session ≡ older_expected 1
older = ap (λ rows. older_expected (0 + length rows)) one_there
