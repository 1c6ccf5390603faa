-- A node that subscribes to a set copies it from its origin: each refusal, and what it has then.
use Rattle.std.proofs.Common.{◌≡◌, ℕ, List, [], ◌∷◌, length, codes, None, ap, ◌∙◌}
use Rattle.std.specs.Prelude.{◌+◌}
use Rattle.std.specs.FinMap.{entries, entries-insert, insert}
use Rattle.std.specs.FinMap.Entries.{put}
use Rattle.std.specs.Cmp.Lexicographic.{nat_list_cmp_total}
use Rattle.slon_base.specs.Keeper.{key_cmp}
use Rattle.slonik_script.specs.declared.script.Command.TheVariants as order
use Rattle.slon_model.specs.declared.command.Delivery.TheVariants.{Once}
use Rattle.slon_model.specs.declared.reply.Answer.TheVariants as answer
use Rattle.slon_model.specs.declared.reply.EventKind.TheVariants as event
use Rattle.slon_model.specs.declared.reply.Refusal.TheVariants as refused
use Rattle.slon_model.specs.declared.reply.Reply.{Reply}
use Rattle.slon_model.specs.declared.reply.Reply.TheVariants.{Accepted, Refused}
use Rattle.slon_model.specs.Snapshots.{Snapshot, snapshot_text}
use Rattle.slon_model.specs.Rows.{Put, Row}
use Rattle.slon_model.specs.Tasks.{OnOne, OnAll, ToOpen, ToCommit, ToAbort, ToList, ToTell, ToCut, ToJoin}
use Rattle.slon_model.specs.Sessions.{start}
use Rattle.slon_worked.proofs.Running.{Worked, Asks, Takes, replies, tried}
use Rattle.slon_worked.proofs.Capture.{head}
use Rattle.slon_worked.proofs.Polls.{crash, rise, listen, heard, emitted, done, begun, begun_replies}
use Rattle.slon_worked.proofs.Works.{work, applied, no_rows, none_there}

-- The origin has one row. Each refusal comes once, and behind each one stand reasons for later ones. The receiver has
-- the row then, and a set of which it keeps the snapshot.
abbrev session : List Worked
session =
    begun
    (Asks (OnOne (codes "a") (ToOpen (codes "x")))
    ∷ Takes (codes "a") 1 (codes "public.t") (Put (codes "p") (codes "1" ∷ []))
    ∷ Asks (OnOne (codes "a") (ToCommit (codes "x")))
    ∷ tried (codes "s") head (order.SubscribeSet 1 1 2 None)
    (listen 2 1 Once
    ∷ work 2 1
    ∷ work 2 1
    ∷ work 2 1
    ∷ work 2 1
    ∷ work 2 1
    ∷ Asks (OnOne (codes "b") (ToOpen (codes "x")))
    ∷ Takes (codes "b") 1 (codes "public.t") (Put (codes "q") (codes "2" ∷ []))
    ∷ Asks (OnAll (ToCut 1 2))
    ∷ tried (codes "d") head (order.DropPath 1 2)
    (work 2 1
    ∷ tried (codes "e") head (order.StorePath 1 2 (codes "dbname=a") None)
    (Asks (crash (codes "a"))
    ∷ work 2 1
    ∷ Asks (OnAll (ToJoin 1 2))
    ∷ work 2 1
    ∷ Asks (rise (codes "a"))
    ∷ work 2 1
    ∷ Asks (OnOne (codes "b") (ToAbort (codes "x")))
    ∷ work 2 1
    ∷ Asks (OnOne (codes "b") (ToList (codes "public.t")))
    ∷ Asks (OnOne (codes "b") ToTell) ∷ []))))

-- the snapshot of the origin: ids up to the ceiling are drawn, and none is open
abbrev seen : Snapshot
seen = record { xmin = 65; xmax = 65; running = [] }

abbrev expected : List (List ℕ × Row) → List Reply
expected rows =
    begun_replies
    (Accepted (answer.Opened 1)
    ∷ Accepted (answer.Acted 1)
    ∷ Accepted (answer.Committed 1)
    ∷ Accepted (answer.Statements 1)
    ∷ emitted 1 7
    ∷ heard 6 0
    ∷ applied event.StorePath 2
    ∷ applied event.StoreSet 3
    ∷ applied event.SetAddTable 4
    ∷ applied event.Sync 5
    ∷ applied event.SubscribeSet 6
    ∷ Accepted (answer.Opened 1)
    ∷ Accepted (answer.Acted 1)
    ∷ done
    ∷ Accepted (answer.Statements 1)
    ∷ emitted 2 2
    ∷ Refused (refused.NoPath 1)
    ∷ Accepted (answer.Statements 1)
    ∷ emitted 2 3
    ∷ done
    ∷ Refused (refused.Severed 2 1)
    ∷ done
    ∷ Refused (refused.Down (codes "a"))
    ∷ done
    ∷ Refused (refused.Busy 1)
    ∷ done
    ∷ Accepted (answer.Applied event.EnableSubscription 7 (0 + length rows))
    ∷ Accepted (answer.Listed rows)
    ∷ Accepted (answer.Status 2 0 ((1, 7) ∷ (2, 3) ∷ []) ((1, 1, snapshot_text seen) ∷ [])) ∷ [])

-- the row of the origin
pub one_there : entries (insert no_rows (codes "p") (codes "1" ∷ [])) ≡ (codes "p", codes "1" ∷ []) ∷ []
one_there =
    entries-insert nat_list_cmp_total no_rows (codes "p") (codes "1" ∷ [])
    ∙ ap (put key_cmp (codes "p") (codes "1" ∷ [])) none_there

copies : replies (start 16) session ≡ expected ((codes "p", codes "1" ∷ []) ∷ [])
copies = ap expected one_there
