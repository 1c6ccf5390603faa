-- What a reply gives was drawn, and the ceilings stay above it.
use Rattle.std.proofs.Common.{◌≡◌, ℕ, List, ◌∷◌, Some, sym, ap, subst, ◌∙◌, arith}
use Rattle.std.proofs.Common.{false}
use Rattle.std.proofs.lemmas.Bool.{true≢false}
use Rattle.slon_base.specs.declared.fault.Halt.{Halt as HaltOf}
use Rattle.slon_base.specs.declared.fault.Halt.TheVariants.{Doubt}
use Rattle.slon_model.specs.declared.fault.DbFault.{DbFault}
use Rattle.slon_model.specs.declared.fault.DbFault.TheVariants.{Halt}
use Rattle.slon_model.specs.declared.reply.Answer.{Answer}
use Rattle.slon_model.specs.declared.reply.Answer.TheVariants.{Opened, Acted}
use Rattle.slon_model.specs.declared.reply.Reply.{Reply}
use Rattle.slon_model.specs.declared.reply.Reply.TheVariants.{Accepted}
use Rattle.slon_model.specs.Names.{find_named}
use Rattle.slon_model.specs.Tasks.{Task, ToFound, OnNew, OnOne, Words, words_of}
use Rattle.slon_model.specs.Place.{Place, bare_place}
use Rattle.slon_model.specs.Moves.{done}
use Rattle.slon_model.specs.Deciding.{Decision, Refuses, Accepts, Overflows, Choice, AtFault, Wavers, decide}
use Rattle.slon_model.specs.Deciding.{result_of, move_of, sure, unsure, place_by, result_by}
use Rattle.slon_model.specs.World.{World, halted, refusal_of, reply_of, is_accepted, Step, Grants}
use Rattle.slon_model.specs.World.{Denies, Misses, Asks, Acts}
use Rattle.slon_model.proofs.Names.{put_found, all_found, one_found}
use Rattle.slon_laws.specs.Sound.{Sound}
use Rattle.slon_laws.specs.Allowed.{IsNext}
use Rattle.slon_laws.specs.Worlds.{AllPlaces}
use Rattle.slon_laws.specs.Laws.{IsAnswerBelow, IsReplyBelow, IsAbout, RepliesStayBelow, SnapshotsStayBelow}
use Rattle.slon_laws.proofs.Decides.{Knows, decides}
use Rattle.slon_laws.proofs.Worlds.{sound_world}
use Rattle.slon_laws.proofs.Covering.{Outlasts, later_place}

-- ---- one reply

-- what is below the next numbers of a database is below its ceilings later
answer_below : (q p : Place) (answer : Answer) → IsNext q answer → Outlasts q p → Sound p → IsAnswerBelow p answer
answer_below q p (Opened xid) next lasts s = omega (arith, next, lasts.later, s.xids_below)
answer_below q p (Acted number) next lasts s = omega (arith, next, lasts.numbers, s.numbers_below)
answer_below q p others next lasts s = tt

halted_below : (p : Place) (name : List ℕ) (halt : HaltOf) → IsReplyBelow p (halted name halt)
halted_below p name Doubt = tt
halted_below p name others = tt

refusal_below : (p : Place) (words : Words) (fault : DbFault) → IsReplyBelow p (refusal_of words fault)
refusal_below p words (Halt halt) = halted_below p words.database halt
refusal_below p words others = tt

refused_below : (p : Place) (reply : Reply) → is_accepted reply ≡ false → IsReplyBelow p reply
refused_below p (Accepted answer) not = absurd (true≢false not)
refused_below p others not = tt

sure_below : (words : Words) (task : Task) (q p : Place) (d : Decision) → Knows task q d →
    Outlasts (done (move_of d) q) p → Sound p → IsReplyBelow p (reply_of words (sure (result_of d)))
sure_below words task q p (Refuses fault) is lasts s = refusal_below p words fault
sure_below words task q p (Accepts answer move) is lasts s = answer_below (done move q) p answer is.next lasts s
sure_below words task q p Overflows is lasts s = tt

unsure_below : (words : Words) (p : Place) (d : Decision) → IsReplyBelow p (reply_of words (unsure (result_of d)))
unsure_below words p (Refuses fault) = refusal_below p words fault
unsure_below words p others = tt

takes_below : (words : Words) (task : Task) (q p : Place) (choice : Choice) → Outlasts (place_by task q choice) p →
    Sound p → IsReplyBelow p (reply_of words (result_by task q choice))
takes_below words task q p (AtFault count also) lasts s = tt
takes_below words task q p (Wavers stands) lasts s = unsure_below words p (decide task q)
takes_below words task q p others lasts s = sure_below words task q p (decide task q) (decides task q) lasts s

-- how a new database begins gives no number
founds_below : (words : Words) (p : Place) (choice : Choice) →
    IsReplyBelow p (reply_of words (result_by ToFound bare_place choice))
founds_below words p (AtFault count also) = tt
founds_below words p others = tt

-- ---- each history

pub replies_stay_below : RepliesStayBelow
replies_stay_below limit history later h w v leads goes_on name p about_it found = by_step leads.2
  where
    sound : AllPlaces Sound w
    sound = sound_world limit (h ∷ history) w leads

    by_step : Step leads.0 h w → IsReplyBelow p h.reply
    by_step (Grants other result about granted takes told is) =
        subst (IsReplyBelow p) (sym (told ∙ ap (reply_of (words_of (OnNew other))) takes.told))
        (founds_below (words_of (OnNew other)) p h.choice)
    by_step (Denies other about denied due told is) = refused_below p h.reply (ap is_accepted told ∙ denied)
    by_step (Misses other task about none due told is) = subst (IsReplyBelow p) (sym told) tt
    by_step (Asks t) =
        let q = place_by t.task t.place h.choice in
        let now : find_named t.name w.places ≡ Some q =
        ap (λ (u : World). find_named t.name u.places) t.is ∙ put_found t.name q t.place leads.0.places t.found in
        let became = later_place later w v sound goes_on t.name q now in
        let named : name ≡ t.name = subst (IsAbout name) t.about about_it in
        let same : became.1.0 ≡ p =
        one_found became.1.0 p (sym became.1.1 ∙ ap (λ k. find_named k v.places) (sym named) ∙ found) in
        let lasts : Outlasts q p = subst (Outlasts q) same became.1.2 in
        subst (IsReplyBelow p) (sym (t.told ∙ ap (reply_of (words_of (OnOne t.name t.task))) t.takes.told))
        (takes_below (words_of (OnOne t.name t.task)) t.task t.place p h.choice lasts
        (all_found Sound name p v.places became.0 found))
    by_step (Acts t) = absurd (subst (IsAbout name) t.about about_it)

pub snapshots_stay_below : SnapshotsStayBelow
snapshots_stay_below limit history later w v leads goes_on name p q found found_later =
    let became = later_place later w v (sound_world limit history w leads) goes_on name p found in
    let same : became.1.0 ≡ q = one_found became.1.0 q (sym became.1.1 ∙ found_later) in
    let lasts : Outlasts p q = subst (Outlasts p) same became.1.2 in
    let s : Sound q = all_found Sound name q v.places became.0 found_later in
    omega (arith, lasts.later, s.xids_below)
