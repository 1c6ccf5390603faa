-- A node reads what comes with its next event and keeps it, so that it applies the event with no look at the provider:
-- what a fetch is refused for, and what uses up, gives up and forgets what was fetched.
use Rattle.std.proofs.Common.{◌≡◌, ℕ, List, [], ◌∷◌, length, codes, None, ap}
use Rattle.std.specs.Prelude.{◌+◌}
use Rattle.slonik_script.specs.declared.script.Command.TheVariants as order
use Rattle.slon_model.specs.declared.command.Delivery.TheVariants.{Once}
use Rattle.slon_model.specs.declared.reply.Answer.TheVariants as answer
use Rattle.slon_model.specs.declared.reply.EventKind.TheVariants as event
use Rattle.slon_model.specs.declared.reply.Refusal.TheVariants as refused
use Rattle.slon_model.specs.declared.reply.Reply.{Reply}
use Rattle.slon_model.specs.declared.reply.Reply.TheVariants.{Accepted, Refused}
use Rattle.slon_model.specs.Rows.{Put}
use Rattle.slon_model.specs.Tasks.{OnOne, OnAll, ToOpen, ToCommit, ToAbort, ToStart, ToStop, ToCut, ToJoin, ToFetch}
use Rattle.slon_model.specs.Sessions.{start}
use Rattle.slon_worked.proofs.Running.{Worked, Asks, Takes, replies, tried}
use Rattle.slon_worked.proofs.Capture.{head}
use Rattle.slon_worked.proofs.Copies.{one_there}
use Rattle.slon_worked.proofs.Polls.{listen, heard, emitted, done, begun, begun_replies}
use Rattle.slon_worked.proofs.Works.{work, applied}

abbrev fetch : ℕ → ℕ → Worked
fetch node origin = Asks (OnAll (ToFetch node origin))

abbrev fetched : ℕ → ℕ → Reply
fetched number rows = Accepted (answer.Fetched number rows)

abbrev nothing : Reply
nothing = Refused refused.Nothing

-- the two nodes are cut off from one another
abbrev severed : Reply
severed = Refused (refused.Severed 2 1)

-- The origin has one row. An open transaction of the receiver does not keep it from fetching a set, but from applying
-- the event, and then what was fetched is gone; so it is where the slon is turned off.
abbrev session : List Worked
session =
    begun
    (Asks (OnOne (codes "a") (ToOpen (codes "x")))
    ∷ Takes (codes "a") 1 (codes "public.t") (Put (codes "p") (codes "1" ∷ []))
    ∷ Asks (OnOne (codes "a") (ToCommit (codes "x")))
    ∷ tried (codes "s") head (order.SubscribeSet 1 1 2 None)
    (fetch 2 1
    ∷ listen 2 1 Once
    ∷ work 2 1
    ∷ work 2 1
    ∷ work 2 1
    ∷ work 2 1
    ∷ fetch 2 1
    ∷ work 2 1
    ∷ Asks (OnOne (codes "b") (ToOpen (codes "x")))
    ∷ Takes (codes "b") 1 (codes "public.t") (Put (codes "q") (codes "2" ∷ []))
    ∷ fetch 2 1
    ∷ Asks (OnAll (ToCut 1 2))
    ∷ fetch 2 1
    ∷ work 2 1
    ∷ work 2 1
    ∷ Asks (OnOne (codes "b") (ToAbort (codes "x")))
    ∷ Asks (OnAll (ToJoin 1 2))
    ∷ fetch 2 1
    ∷ Asks (OnAll (ToCut 1 2))
    ∷ work 2 1
    ∷ work 2 1
    ∷ Asks (OnAll (ToJoin 1 2))
    ∷ tried (codes "v") head (order.Sync 1)
    (listen 2 1 Once
    ∷ fetch 2 1
    ∷ Asks (OnAll (ToStop 2))
    ∷ fetch 2 1
    ∷ Asks (OnAll (ToStart 2))
    ∷ listen 2 1 Once
    ∷ Asks (OnAll (ToCut 1 2))
    ∷ work 2 1
    ∷ Asks (OnAll (ToJoin 1 2))
    ∷ fetch 2 1
    ∷ Asks (OnAll (ToCut 1 2))
    ∷ work 2 1 ∷ [])))

-- with this number of rows at the origin
abbrev expected : ℕ → List Reply
expected rows =
    begun_replies
    (Accepted (answer.Opened 1)
    ∷ Accepted (answer.Acted 1)
    ∷ Accepted (answer.Committed 1)
    ∷ Accepted (answer.Statements 1)
    ∷ emitted 1 7
    ∷ nothing
    ∷ heard 6 0
    ∷ applied event.StorePath 2
    ∷ applied event.StoreSet 3
    ∷ applied event.SetAddTable 4
    ∷ applied event.Sync 5
    ∷ fetched 6 0
    ∷ applied event.SubscribeSet 6
    ∷ Accepted (answer.Opened 1)
    ∷ Accepted (answer.Acted 1)
    ∷ fetched 7 rows
    ∷ done
    ∷ severed
    ∷ Refused (refused.Busy 1)
    ∷ severed
    ∷ done
    ∷ done
    ∷ fetched 7 rows
    ∷ done
    ∷ Accepted (answer.Applied event.EnableSubscription 7 rows)
    ∷ nothing
    ∷ done
    ∷ Accepted (answer.Statements 1)
    ∷ emitted 1 8
    ∷ heard 1 0
    ∷ fetched 8 0
    ∷ done
    ∷ Refused (refused.Off 2)
    ∷ done
    ∷ heard 1 0
    ∷ done
    ∷ severed
    ∷ done
    ∷ fetched 8 0
    ∷ done
    ∷ applied event.Sync 8 ∷ [])

fetches : replies (start 16) session ≡ expected 1
fetches = ap (λ rows. expected (0 + length rows)) one_there
