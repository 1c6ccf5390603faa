-- A reply is read back from its text: so no other reply prints alike.
use Rattle.std.proofs.Common.{◌≡◌, ℕ, eqb, if◌then◌else◌, true, List, [], ◌∷◌, ◌++◌, map, refl, sym, ap, ◌∙◌}
use Rattle.std.proofs.Common.{append_assoc, codes}
use Rattle.std.proofs.lemmas.List.{append_cancel_right}
use Rattle.std.specs.List.{slice_split, AllByRecursion}
use Rattle.std.specs.Str.{bytes_eq}
use Rattle.slon_model.specs.declared.reply.Answer.TheVariants.{Done}
use Rattle.slon_model.specs.declared.reply.Reply.{Reply}
use Rattle.slon_model.specs.declared.reply.Reply.TheVariants.{Accepted, Refused, InDoubt}
use Rattle.slon_model.specs.Printed.{answer_text, reply_text}
use Rattle.session_text.specs.Replies.{HasForm, lines_text}
use Rattle.slon_lemmas.proofs.Splitting.{lacks, lacks-append, split_first}
use Rattle.session_text.proofs.Parting.{name_lacks, split_word}
use Rattle.session_text.proofs.AnswersBack.{answer_of, answer_back, answer_lacks}
use Rattle.session_text.proofs.RefusalsBack.{refusal_of, refusal_back}

abbrev doubt_of : List (List ℕ) → Reply
doubt_of (database ∷ ok ∷ rest) = InDoubt database (answer_of rest)
doubt_of others = Accepted Done

abbrev reply_in : List (List ℕ) → Reply
reply_in [] = Accepted Done
reply_in (verb ∷ rest) =
    if bytes_eq verb (codes "ok") then Accepted (answer_of rest) else
    (if bytes_eq verb (codes "no") then Refused (refusal_of rest) else doubt_of rest)

abbrev reply_of : List ℕ → Reply
reply_of text = reply_in (slice_split (λ b. eqb b 32) text)

pub reply_back : (reply : Reply) → HasForm reply → reply_of (reply_text reply) ≡ reply
reply_back (Accepted answer) h =
    let a = answer_back answer h in
    ap reply_in a.words ∙ ap Accepted a.back
reply_back (Refused refusal) h =
    let r = refusal_back refusal h in
    ap reply_in r.words ∙ ap Refused r.back
reply_back (InDoubt database answer) h =
    let a = answer_back answer h.1 in
    let words =
    ap (slice_split (λ b. eqb b 32)) (append_assoc database (32 ∷ []) (answer_text answer))
    ∙ split_word database (answer_text answer) _ (name_lacks 32 database refl h.0) a.words in
    ap (λ l. reply_in (codes "doubt" ∷ l)) words ∙ ap (λ r. InDoubt database r) a.back

reply_lacks : (reply : Reply) → HasForm reply → lacks 10 (reply_text reply) ≡ true
reply_lacks (Accepted answer) h = answer_lacks answer h
reply_lacks (Refused refusal) h = (refusal_back refusal h).line
reply_lacks (InDoubt database answer) h =
    lacks-append 10 (database ++ 32 ∷ []) (answer_text answer)
    (lacks-append 10 database (32 ∷ []) (name_lacks 10 database refl h.0) refl) (answer_lacks answer h.1)

pub one_reply : (a b : Reply) → HasForm a → HasForm b → reply_text a ≡ reply_text b → a ≡ b
one_reply a b h k e = sym (reply_back a h) ∙ ap reply_of e ∙ reply_back b k

replies_back : (replies : List Reply) → AllByRecursion HasForm replies →
    map reply_of (slice_split (λ b. eqb b 10) (lines_text replies)) ≡ replies ++ (Accepted Done ∷ [])
replies_back [] h = refl
replies_back (reply ∷ more) h =
    let parts =
    ap (slice_split (λ b. eqb b 10)) (append_assoc (reply_text reply) (10 ∷ []) (lines_text more))
    ∙ split_first 10 (reply_text reply) (lines_text more) (reply_lacks reply h.0) in
    ap (map reply_of) parts
    ∙ ap (λ r. r ∷ map reply_of (slice_split (λ b. eqb b 10) (lines_text more))) (reply_back reply h.0)
    ∙ ap (λ l. reply ∷ l) (replies_back more h.1)

pub one_output : (a b : List Reply) → AllByRecursion HasForm a → AllByRecursion HasForm b →
    lines_text a ≡ lines_text b → a ≡ b
one_output a b h k e =
    append_cancel_right a b (Accepted Done ∷ [])
    (sym (replies_back a h) ∙ ap (λ t. map reply_of (slice_split (λ c. eqb c 10) t)) e ∙ replies_back b k)
