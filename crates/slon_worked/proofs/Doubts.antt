-- STORE NODE commits in two databases: what comes where one fails, or where a commit of one is in doubt.
use Rattle.std.proofs.Common.{◌≡◌, ℕ, true, false, List, [], ◌∷◌, codes, refl, None}
use Rattle.slonik_script.specs.declared.script.Command.TheVariants as order
use Rattle.slon_model.specs.declared.reply.Answer.{Answer}
use Rattle.slon_model.specs.declared.reply.Answer.TheVariants as answer
use Rattle.slon_model.specs.declared.reply.Refusal.TheVariants as refused
use Rattle.slon_model.specs.declared.reply.Reply.{Reply}
use Rattle.slon_model.specs.declared.reply.Reply.TheVariants.{Accepted, Refused, InDoubt}
use Rattle.slon_model.specs.Deciding.{Fate, Breaks, DoubtsAt}
use Rattle.slon_model.specs.Tasks.{OnNew, OnOne, ToTell, ToRise, ToStep}
use Rattle.slon_model.specs.Sessions.{start}
use Rattle.slon_worked.proofs.Running.{Worked, Asks, Meets, replies, Head, reads, step}

abbrev head : Head
head = record { cluster = codes "demo"; nodes = (1, codes "dbname=a") ∷ (2, codes "dbname=b") ∷ [] }

-- STORE NODE comes to this fate, the database comes up again, and both tell their status
abbrev session : Fate → List ℕ → List Worked
session fate database =
    Asks (OnNew (codes "a"))
    ∷ Asks (OnNew (codes "b"))
    ∷ reads (codes "s") head (order.InitCluster 1 None ∷ order.StoreNode 2 1 None ∷ [])
    ∷ step (codes "s")
    ∷ Meets (ToStep (codes "s")) fate
    ∷ step (codes "s")
    ∷ Asks (OnOne database ToRise)
    ∷ Asks (OnOne (codes "a") ToTell)
    ∷ Asks (OnOne (codes "b") ToTell) ∷ []

-- the replies: of the step, of the database that comes up, and the status of both
abbrev told : Reply → Answer → Answer → Answer → List Reply
told reply up first second =
    Accepted answer.Done
    ∷ Accepted answer.Done
    ∷ Accepted (answer.Statements 2)
    ∷ Accepted answer.Done
    ∷ reply
    ∷ Refused (refused.NoScript (codes "s"))
    ∷ Accepted up
    ∷ Accepted first
    ∷ Accepted second ∷ []

-- the node alone, and with its event
abbrev alone : Answer
alone = answer.Status 1 0 ((1, 0) ∷ []) []

abbrev joined : Answer
joined = answer.Status 1 0 ((1, 1) ∷ (2, 0) ∷ []) []

-- no node, and the new node
abbrev none : Answer
none = answer.Status 0 0 [] []

abbrev new : Answer
new = answer.Status 2 0 ((1, 1) ∷ (2, 0) ∷ []) []

-- a fault of either database leaves neither commit
first_breaks : replies (start 16) (session (Breaks (codes "a") 1) (codes "a"))
    ≡ told (Refused (refused.Fault (codes "a") 1)) answer.Done alone none
first_breaks = refl

second_breaks : replies (start 16) (session (Breaks (codes "b") 1) (codes "b"))
    ≡ told (Refused (refused.Fault (codes "b") 1)) answer.Done alone none
second_breaks = refl

-- a doubt of the first commit: the second one is not made
first_kept : replies (start 16) (session (DoubtsAt 0 true) (codes "a"))
    ≡ told (InDoubt (codes "a") (answer.Emitted 1 1)) answer.Kept joined none
first_kept = refl

first_lost : replies (start 16) (session (DoubtsAt 0 false) (codes "a"))
    ≡ told (InDoubt (codes "a") (answer.Emitted 1 1)) answer.Lost alone none
first_lost = refl

-- a doubt of the second one: the first one stands
second_kept : replies (start 16) (session (DoubtsAt 1 true) (codes "b"))
    ≡ told (InDoubt (codes "b") (answer.Emitted 1 1)) answer.Kept joined new
second_kept = refl

second_lost : replies (start 16) (session (DoubtsAt 1 false) (codes "b"))
    ≡ told (InDoubt (codes "b") (answer.Emitted 1 1)) answer.Lost joined none
second_lost = refl
