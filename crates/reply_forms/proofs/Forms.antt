-- The replies of a legal history have their forms.
use Rattle.std.proofs.Common.{◌≡◌, ◌∙◌, ℕ, Bool, true, false, cond, List, [], ◌∷◌, ◌++◌, length, is_some, nat_lt, refl}
use Rattle.std.proofs.Common.{sym, ap, subst}
use Rattle.std.specs.List.{AllByRecursion}
use Rattle.std.proofs.lemmas.Bool.{true≢false}
use Rattle.slon_model.specs.declared.reply.Answer.TheVariants.{Done}
use Rattle.slon_model.specs.declared.reply.Refusal.TheVariants as refused
use Rattle.slon_model.specs.declared.reply.Reply.{Reply}
use Rattle.slon_model.specs.declared.reply.Reply.TheVariants.{Accepted, Refused}
use Rattle.slon_model.specs.Names.{find_named}
use Rattle.slon_model.specs.Spoken.{IsName, IsSubject, IsSpoken}
use Rattle.slon_model.specs.Tasks.{ToFound, OnNew, OnOne, words_of}
use Rattle.slon_model.specs.Place.{bare_place}
use Rattle.slon_model.specs.Deciding.{decide_by}
use Rattle.slon_model.specs.World.{World, start, Happening, Step, Grants, Denies, Misses, Asks, Acts, Leads}
use Rattle.slon_model.specs.World.{reply_of, is_accepted, replies_of}
use Rattle.slon_model.proofs.Names.{all_found}
use Rattle.slon_laws.specs.Spelled.{IsSpelled}
use Rattle.slon_laws.specs.Worlds.{AllPlaces, AllSpoken}
use Rattle.slon_laws.proofs.Worlds.{spelled_world}
use Rattle.session_text.specs.Replies.{HasForm, NumbersFit}
use Rattle.session_text.proofs.Parting.{name_lacks}
use Rattle.reply_forms.proofs.Words.{Reads, has_form}
use Rattle.reply_forms.proofs.Deciding.{chosen_reads, limited_reads, standing_reads}
use Rattle.reply_forms.proofs.Scripts.{Known}
use Rattle.reply_forms.proofs.Worlds.{known_world, acting_reads}

-- ---- a step

denied_reads : (taken room : Bool) (name : List ℕ) (limit : ℕ) → IsName name →
    is_accepted
    (cond taken (Refused (refused.NameUsed name)) (cond room (Accepted Done) (Refused (refused.Full limit))))
    ≡ false →
    Reads (cond taken (Refused (refused.NameUsed name)) (cond room (Accepted Done) (Refused (refused.Full limit))))
denied_reads true room name limit named denied = named
denied_reads false true name limit named denied = absurd (true≢false denied)
denied_reads false false name limit named denied = tt

step_reads : (w v : World) (h : Happening) → Step w h v → AllPlaces IsSpelled w → Known w → IsSpoken h.command →
    Reads h.reply
step_reads w v h (Grants name result about done takes told same) spelled known spoken =
    let named : IsName name = subst IsSubject about spoken in
    subst Reads (sym (told ∙ ap (reply_of (words_of (OnNew name))) takes.told))
    (chosen_reads (words_of (OnNew name)) ToFound bare_place h.choice named tt)
step_reads w v h (Denies name about denied chosen told same) spelled known spoken =
    let named : IsName name = subst IsSubject about spoken in
    subst Reads (sym told) (denied_reads (is_some (find_named name w.places)) (nat_lt (length w.places) w.limit)
    name w.limit named denied)
step_reads w v h (Misses name task about none chosen told same) spelled known spoken =
    subst Reads (sym told) (name_lacks 10 name refl (subst IsSubject about spoken).0)
step_reads w v h (Asks t) spelled known spoken =
    let p = t.place in
    let words = words_of (OnOne t.name t.task) in
    let formed = subst IsSubject t.about spoken in
    subst Reads (sym (t.told ∙ ap (reply_of words) t.takes.told))
    (chosen_reads words t.task p h.choice formed.0
    (limited_reads words p (decide_by p.standing t.task p)
    (standing_reads t.name t.task p p.standing formed.0 formed.1
    (all_found IsSpelled t.name p w.places spelled t.found))))
step_reads w v h (Acts t) spelled known spoken = acting_reads w v h t spoken known

-- ---- a history

behind : (P : Reply → Type 0) (replies : List Reply) (reply : Reply) → AllByRecursion P (replies ++ reply ∷ []) →
    AllByRecursion P replies × P reply
behind P [] reply all = (tt, all.0)
behind P (r ∷ rs) reply all = let rest = behind P rs reply all.1 in ((all.0, rest.0), rest.1)

pub all_with : (P : Reply → Type 0) (replies : List Reply) (reply : Reply) → AllByRecursion P replies → P reply →
    AllByRecursion P (replies ++ reply ∷ [])
all_with P [] reply all one = (one, tt)
all_with P (r ∷ rs) reply all one = (all.0, all_with P rs reply all.1 one)

pub formed_by : (limit : ℕ) (history : List Happening) (w : World) → Leads (start limit) history w →
    AllSpoken history → AllByRecursion NumbersFit (replies_of history) → AllByRecursion HasForm (replies_of history)
formed_by limit [] w leads spoken fits = tt
formed_by limit (h ∷ hs) w (v, before, step) (said, others) fits =
    let parts = behind NumbersFit (replies_of hs) h.reply fits in
    let spelled = spelled_world limit hs v others before in
    let known = known_world limit hs v others before in
    all_with HasForm (replies_of hs) h.reply (formed_by limit hs v before others parts.0)
    (has_form h.reply (step_reads v w h step spelled known said) parts.1)
