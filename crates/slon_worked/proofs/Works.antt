-- A node applies the events of another one in their order, and what comes of that where a store fails or its commit is
-- in doubt.
use Rattle.std.proofs.Common.{◌≡◌, ℕ, true, false, List, [], ◌∷◌, length, codes, refl, None, sym, ap, ◌∙◌, arith}
use Rattle.std.specs.Prelude.{◌+◌}
use Rattle.std.specs.FinMap.{empty, entries, len-empty, len-entries}
use Rattle.slon_base.specs.Keeper.{key_cmp}
use Rattle.slon_model.specs.Rows.{Row, Rows}
use Rattle.slonik_script.specs.declared.script.Command.TheVariants as order
use Rattle.slon_model.specs.declared.command.Delivery.TheVariants.{Once, Again}
use Rattle.slon_model.specs.declared.reply.Answer.{Answer}
use Rattle.slon_model.specs.declared.reply.Answer.TheVariants as answer
use Rattle.slon_model.specs.declared.reply.EventKind.{EventKind}
use Rattle.slon_model.specs.declared.reply.EventKind.TheVariants as event
use Rattle.slon_model.specs.declared.reply.Refusal.TheVariants as refused
use Rattle.slon_model.specs.declared.reply.Reply.{Reply}
use Rattle.slon_model.specs.declared.reply.Reply.TheVariants.{Accepted, Refused, InDoubt}
use Rattle.slon_model.specs.Deciding.{Fate, Breaks, DoubtsAt}
use Rattle.slon_model.specs.Tasks.{OnOne, OnAll, ToTell, ToStart, ToStop, ToSync, ToWork}
use Rattle.slon_model.specs.Sessions.{start}
use Rattle.slon_worked.proofs.Running.{Worked, Asks, Meets, replies, reads, step}
use Rattle.slon_worked.proofs.Capture.{head}
use Rattle.slon_worked.proofs.Polls.{crash, rise, listen, heard, emitted, done, begun, begun_replies}

abbrev pub work : ℕ → ℕ → Worked
work node origin = Asks (OnAll (ToWork node origin))

-- no row came with it
abbrev pub applied : EventKind → ℕ → Reply
applied kind number = Accepted (answer.Applied kind number 0)

abbrev nothing : Reply
nothing = Refused refused.Nothing

-- each node applies what it heard of the other, and no more; a SYNC is applied as every event
abbrev session : List Worked
session =
    begun
    (work 2 1
    ∷ listen 2 1 Again
    ∷ work 2 2
    ∷ work 2 3
    ∷ work 2 1
    ∷ work 2 1
    ∷ listen 2 1 Once
    ∷ work 2 1
    ∷ work 2 1
    ∷ Asks (OnOne (codes "b") ToTell)
    ∷ listen 1 2 Once
    ∷ work 1 2
    ∷ work 1 2
    ∷ listen 1 2 Once
    ∷ Asks (OnOne (codes "a") ToTell)
    ∷ Asks (OnAll (ToSync 1))
    ∷ listen 2 1 Once
    ∷ work 2 1 ∷ [])

abbrev expected : List Reply
expected =
    begun_replies
    (nothing
    ∷ heard 3 0
    ∷ nothing
    ∷ nothing
    ∷ applied event.StorePath 2
    ∷ applied event.StoreSet 3
    ∷ nothing
    ∷ applied event.SetAddTable 4
    ∷ nothing
    ∷ Accepted (answer.Status 2 0 ((1, 4) ∷ (2, 1) ∷ []) [])
    ∷ heard 1 1
    ∷ applied event.StorePath 1
    ∷ nothing
    ∷ nothing
    ∷ Accepted (answer.Status 1 0 ((1, 4) ∷ (2, 1) ∷ []) [])
    ∷ emitted 1 5
    ∷ heard 1 1
    ∷ applied event.Sync 5 ∷ [])

works : replies (start 16) session ≡ expected
works = refl

-- ---- refusals

-- each once, in order: behind each one stand reasons for later ones
abbrev refused_session : List Worked
refused_session =
    begun
    (work 3 1
    ∷ Asks (OnAll (ToStop 2))
    ∷ Asks (crash (codes "b"))
    ∷ work 2 1
    ∷ Asks (rise (codes "b"))
    ∷ work 2 1
    ∷ Asks (OnAll (ToStart 2))
    ∷ work 2 1
    ∷ reads (codes "u") head (order.SubscribeSet 1 1 2 None ∷ [])
    ∷ step (codes "u")
    ∷ listen 2 1 Once
    ∷ work 2 1
    ∷ work 2 1
    ∷ work 2 1
    ∷ work 2 1
    ∷ work 2 1
    ∷ work 2 1
    ∷ reads (codes "v") head (order.Sync 1 ∷ [])
    ∷ step (codes "v")
    ∷ listen 2 1 Once
    ∷ work 2 1 ∷ [])

-- with this number of rows at the origin, whose table is empty
abbrev refused_expected : ℕ → List Reply
refused_expected rows =
    begun_replies
    (Refused (refused.NoNode 3)
    ∷ done
    ∷ done
    ∷ Refused (refused.Down (codes "b"))
    ∷ done
    ∷ Refused (refused.Off 2)
    ∷ done
    ∷ nothing
    ∷ Accepted (answer.Statements 1)
    ∷ emitted 1 7
    ∷ heard 6 0
    ∷ applied event.StorePath 2
    ∷ applied event.StoreSet 3
    ∷ applied event.SetAddTable 4
    ∷ applied event.Sync 5
    ∷ applied event.SubscribeSet 6
    ∷ Accepted (answer.Applied event.EnableSubscription 7 rows)
    ∷ Accepted (answer.Statements 1)
    ∷ emitted 1 8
    ∷ heard 1 0
    ∷ applied event.Sync 8 ∷ [])

-- maps of rows do not compute, so that it is a lemma
pub no_entries : {X : Type 0} (xs : List X) → length xs ≡ 0 → xs ≡ []
no_entries [] none = refl
no_entries (x ∷ xs) none = absurd (omega (arith, none))

abbrev pub no_rows : Rows
no_rows = empty

pub none_there : entries no_rows ≡ []
none_there = no_entries (entries no_rows) (sym (len-entries no_rows) ∙ len-empty key_cmp Row)

refusals : replies (start 16) refused_session ≡ refused_expected 0
refusals = ap (λ rows. refused_expected (0 + length rows)) none_there

-- ---- a store that fails, and a commit in doubt

-- The node applies one event, and the turn of the next one comes to this fate. Its database comes up again, without
-- what waited, and it polls again.
abbrev failing : Fate → List Worked
failing fate =
    begun
    (listen 2 1 Once
    ∷ work 2 1
    ∷ Meets (ToWork 2 1) fate
    ∷ work 2 1
    ∷ Asks (rise (codes "b"))
    ∷ work 2 1
    ∷ listen 2 1 Once
    ∷ work 2 1 ∷ [])

-- the replies: of the turn, of the database that comes up, of the poll, and of the next turn
abbrev failed : Reply → Answer → Reply → Reply → List Reply
failed reply up polled next =
    begun_replies
    (heard 3 0
    ∷ applied event.StorePath 2
    ∷ reply
    ∷ Refused (refused.Down (codes "b"))
    ∷ Accepted up
    ∷ nothing
    ∷ polled
    ∷ next ∷ [])

breaks : replies (start 16) (failing (Breaks (codes "b") 1))
    ≡ failed (Refused (refused.Fault (codes "b") 1)) answer.Done (heard 2 0) (applied event.StoreSet 3)
breaks = refl

abbrev wavers : Reply
wavers = InDoubt (codes "b") (answer.Applied event.StoreSet 3 0)

-- an event whose commit stood is not applied again, and one whose commit did not is
doubt_kept : replies (start 16) (failing (DoubtsAt 0 true))
    ≡ failed wavers answer.Kept (heard 1 0) (applied event.SetAddTable 4)
doubt_kept = refl

doubt_lost : replies (start 16) (failing (DoubtsAt 0 false))
    ≡ failed wavers answer.Lost (heard 2 0) (applied event.StoreSet 3)
doubt_lost = refl
