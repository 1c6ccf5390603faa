-- An answer is read back from its text.
use Rattle.std.proofs.Common.{◌≡◌, ◌<◌, ◌^◌, ℕ, eqb, if◌then◌else◌, true, List, [], ◌∷◌, ◌++◌, map, length, refl, ap}
use Rattle.std.proofs.Common.{◌∙◌}
use Rattle.std.proofs.Common.{append_assoc, codes, find, unwrap_or}
use Rattle.std.proofs.lemmas.List.{append-nil}
use Rattle.std.specs.Fmt.{decimal}
use Rattle.std.specs.List.{slice_split, AllByRecursion}
use Rattle.std.specs.Str.{bytes_eq}
use Rattle.std.specs.Str.Parse.{digits_value}
use Rattle.slon_model.specs.declared.reply.Answer.{Answer}
use Rattle.slon_model.specs.declared.reply.Answer.TheVariants.{Done, Opened, Acted, Unchanged, Committed, Listed, Kept}
use Rattle.slon_model.specs.declared.reply.Answer.TheVariants.{Lost, Status, Statements, Emitted, Echoed, Ended, Heard}
use Rattle.slon_model.specs.declared.reply.Answer.TheVariants.{LostOnTheWay, Applied, Fetched}
use Rattle.slon_model.specs.declared.reply.EventKind.{EventKind}
use Rattle.slon_model.specs.declared.reply.EventKind.TheVariants as event
use Rattle.slon_model.specs.Printed.{rows_text, progress_text, kept_text, kind_text, answer_text}
use Rattle.session_text.specs.Replies.{ProgressFits, KeptFits, KeptHasForm, is_word_byte, AnswerHasForm}
use Rattle.slon_lemmas.proofs.Splitting.{lacks, lacks_by, lacks-append, lacks-decimal, split_last}
use Rattle.session_text.proofs.Parting.{number_back, number_of, number_text_back, text_of, text_back, split_word}
use Rattle.session_text.proofs.Parting.{below_word, below_half, row_of, row_word, rows_split, rows_back, rows_lack}

-- ---- the lists of a status

-- the words of how far a node is in each stream
abbrev progress_words : List (ℕ × ℕ) → List (List ℕ)
progress_words [] = []
progress_words (p ∷ ps) = codes "progress" ∷ decimal p.0 ∷ decimal p.1 ∷ progress_words ps

-- the words of each set of which progress is kept
abbrev kept_words : List (ℕ × ℕ × List ℕ) → List (List ℕ)
kept_words [] = []
kept_words (k ∷ ks) =
    codes "set" ∷ decimal k.0 ∷ codes "era" ∷ decimal k.1 ∷ codes "at" ∷ k.2 ∷ kept_words ks

kept_split : (word : List ℕ) (kept : List (ℕ × ℕ × List ℕ)) → lacks 32 word ≡ true → AllByRecursion KeptFits kept →
    AllByRecursion KeptHasForm kept →
    slice_split (λ b. eqb b 32) (word ++ kept_text kept) ≡ word ∷ kept_words kept
kept_split word [] e fits forms = ap (slice_split (λ b. eqb b 32)) (append-nil word) ∙ split_last 32 word e
kept_split word (k ∷ ks) e fits forms =
    let set = decimal k.0 in
    let era = decimal k.1 in
    let more = kept_text ks in
    let joined : (set ++ codes " era " ++ era ++ codes " at " ++ k.2 ++ more)
    ≡ set ++ (codes " era " ++ (era ++ (codes " at " ++ (k.2 ++ more)))) = simp append_assoc in
    split_word word (codes "set " ++ (set ++ codes " era " ++ era ++ codes " at " ++ k.2 ++ more)) _ e
    (ap (λ t. codes "set" ∷ slice_split (λ b. eqb b 32) t) joined
    ∙ ap (λ l. codes "set" ∷ l)
    (split_word set _ _ (lacks-decimal 32 k.0 refl (below_half k.0 fits.0.0))
    (ap (λ l. codes "era" ∷ l)
    (split_word era _ _ (lacks-decimal 32 k.1 refl fits.0.1)
    (ap (λ l. codes "at" ∷ l)
    (kept_split k.2 ks (lacks_by is_word_byte 32 k.2 refl forms.0) fits.1 forms.1))))))

-- Both lists of a status are of their forms.
record Stands (progress : List (ℕ × ℕ)) (kept : List (ℕ × ℕ × List ℕ)) : Type 0 where
  steps : AllByRecursion ProgressFits progress
  numbers : AllByRecursion KeptFits kept
  snapshots : AllByRecursion KeptHasForm kept

lists_split : (word : List ℕ) (progress : List (ℕ × ℕ)) (kept : List (ℕ × ℕ × List ℕ)) → lacks 32 word ≡ true →
    Stands progress kept →
    slice_split (λ b. eqb b 32) (word ++ (progress_text progress ++ kept_text kept))
    ≡ word ∷ (progress_words progress ++ kept_words kept)
lists_split word [] kept e s = kept_split word kept e s.numbers s.snapshots
lists_split word (p ∷ ps) kept e s =
    let node = decimal p.0 in
    let number = decimal p.1 in
    let rest = progress_text ps in
    let joined : (node ++ codes " " ++ number ++ rest ++ kept_text kept)
    ≡ node ++ (codes " " ++ (number ++ (rest ++ kept_text kept))) = simp append_assoc in
    split_word word (codes "progress " ++ (node ++ codes " " ++ number ++ rest ++ kept_text kept)) _ e
    (ap (λ t. codes "progress" ∷ slice_split (λ b. eqb b 32) t) joined
    ∙ ap (λ l. codes "progress" ∷ l)
    (split_word node _ _ (lacks-decimal 32 p.0 refl (below_half p.0 s.steps.0.0))
    (lists_split number ps kept (lacks-decimal 32 p.1 refl s.steps.0.1)
    (record { steps = s.steps.1; numbers = s.numbers; snapshots = s.snapshots }))))

-- the progress that words begin with
abbrev progress_of : List (List ℕ) → List (ℕ × ℕ)
progress_of (name ∷ node ∷ number ∷ more) =
    if bytes_eq name (codes "progress") then (digits_value 10 node, digits_value 10 number) ∷ progress_of more else []
progress_of others = []

-- the sets that words tell of
abbrev kept_in : List (List ℕ) → List (ℕ × ℕ × List ℕ)
kept_in (set ∷ id ∷ era ∷ number ∷ at ∷ snapshot ∷ more) =
    (digits_value 10 id, digits_value 10 number, snapshot) ∷ kept_in more
kept_in others = []

-- the same, behind the progress
abbrev kept_of : List (List ℕ) → List (ℕ × ℕ × List ℕ)
kept_of (name ∷ node ∷ number ∷ more) =
    if bytes_eq name (codes "progress") then kept_of more else kept_in (name ∷ node ∷ number ∷ more)
kept_of others = []

progress_back : (progress : List (ℕ × ℕ)) (kept : List (ℕ × ℕ × List ℕ)) → AllByRecursion ProgressFits progress →
    progress_of (progress_words progress ++ kept_words kept) ≡ progress
progress_back [] [] fits = refl
progress_back [] (k ∷ ks) fits = refl
progress_back (p ∷ ps) kept fits =
    ap (λ n. (n, digits_value 10 (decimal p.1)) ∷ progress_of (progress_words ps ++ kept_words kept))
    (number_back p.0 (below_half p.0 fits.0.0))
    ∙ ap (λ n. (p.0, n) ∷ progress_of (progress_words ps ++ kept_words kept)) (number_back p.1 fits.0.1)
    ∙ ap (λ l. p ∷ l) (progress_back ps kept fits.1)

sets_back : (kept : List (ℕ × ℕ × List ℕ)) → AllByRecursion KeptFits kept → kept_in (kept_words kept) ≡ kept
sets_back [] fits = refl
sets_back (k ∷ ks) fits =
    ap (λ n. (n, digits_value 10 (decimal k.1), k.2) ∷ kept_in (kept_words ks))
    (number_back k.0 (below_half k.0 fits.0.0))
    ∙ ap (λ n. (k.0, n, k.2) ∷ kept_in (kept_words ks)) (number_back k.1 fits.0.1)
    ∙ ap (λ l. k ∷ l) (sets_back ks fits.1)

kept_back : (progress : List (ℕ × ℕ)) (kept : List (ℕ × ℕ × List ℕ)) → AllByRecursion KeptFits kept →
    kept_of (progress_words progress ++ kept_words kept) ≡ kept
kept_back [] [] fits = refl
kept_back [] (k ∷ ks) fits = sets_back (k ∷ ks) fits
kept_back (p ∷ ps) kept fits = kept_back ps kept fits

-- ---- answers

-- the rows of the words behind `rows`, the first of which is their count
abbrev listed_of : List (List ℕ) → Answer
listed_of [] = Listed []
listed_of (count ∷ rows) = Listed (map row_of rows)

-- the status of the words behind `node`: a number, `log`, a number and the two lists
abbrev status_of : List (List ℕ) → Answer
status_of (node ∷ name ∷ log ∷ rest) =
    Status (digits_value 10 node) (digits_value 10 log) (progress_of rest) (kept_of rest)
status_of others = Done

-- the event of the words behind `event`: two numbers
abbrev event_of : List (List ℕ) → Answer
event_of [] = Done
event_of (node ∷ number) = Emitted (digits_value 10 node) (number_of number)

-- the numbers of the words behind `events`: a number, `confirms` and a number
abbrev counted_of : (ℕ → ℕ → Answer) → List (List ℕ) → Answer
counted_of made (events ∷ name ∷ confirms) = made (digits_value 10 events) (number_of confirms)
counted_of made others = Done

-- what was lost: a commit, or what a poll brought
abbrev lost_of : List (List ℕ) → Answer
lost_of [] = Lost
lost_of (name ∷ rest) = counted_of LostOnTheWay rest

-- the kind of events that a word names
abbrev all_kinds : List EventKind
all_kinds =
    event.Sync ∷ event.StoreNode ∷ event.DropNode ∷ event.StorePath ∷ event.DropPath ∷ event.StoreSet ∷ event.DropSet
    ∷ event.SetAddTable ∷ event.SubscribeSet ∷ event.EnableSubscription ∷ event.UnsubscribeSet ∷ event.MoveSet
    ∷ event.AcceptSet ∷ event.FailoverSet ∷ []

abbrev kind_in : List ℕ → EventKind
kind_in word = unwrap_or (find (λ kind. bytes_eq word (kind_text kind)) all_kinds) event.Sync

-- the event of the words behind its kind: a number, `rows` and a number
abbrev applied_of : EventKind → List (List ℕ) → Answer
applied_of kind (number ∷ name ∷ rows) = Applied kind (digits_value 10 number) (number_of rows)
applied_of kind others = Done

-- what was fetched: a number, `rows` and a number
abbrev fetched_of : List (List ℕ) → Answer
fetched_of (number ∷ name ∷ rows) = Fetched (digits_value 10 number) (number_of rows)
fetched_of others = Done

-- the answer of the words behind `ok`
abbrev pub answer_of : List (List ℕ) → Answer
answer_of [] = Done
answer_of (kind ∷ rest) =
    if bytes_eq kind (codes "xid") then Opened (number_of rest)
    else (if bytes_eq kind (codes "action") then Acted (number_of rest)
    else (if bytes_eq kind (codes "none") then Unchanged
    else (if bytes_eq kind (codes "actions") then Committed (number_of rest)
    else (if bytes_eq kind (codes "rows") then listed_of rest
    else (if bytes_eq kind (codes "kept") then Kept
    else (if bytes_eq kind (codes "lost") then lost_of rest
    else (if bytes_eq kind (codes "events") then counted_of Heard rest
    else (if bytes_eq kind (codes "statements") then Statements (number_of rest)
    else (if bytes_eq kind (codes "event") then event_of rest
    else (if bytes_eq kind (codes "echo") then Echoed (text_of rest)
    else (if bytes_eq kind (codes "ended") then Ended (number_of rest)
    else (if bytes_eq kind (codes "node") then status_of rest
    else (if bytes_eq kind (codes "fetched") then fetched_of rest
    else applied_of (kind_in kind) rest)))))))))))))

-- The text of an answer begins with `ok`, and the words behind it are read back.
pub record IsAnswered (answer : Answer) : Type 0 where
  pub rest : List (List ℕ)
  pub words : slice_split (λ b. eqb b 32) (answer_text answer) ≡ codes "ok" ∷ rest
  pub back : answer_of rest ≡ answer

status_back : (node log : ℕ) (progress : List (ℕ × ℕ)) (kept : List (ℕ × ℕ × List ℕ)) →
    AnswerHasForm (Status node log progress kept) → IsAnswered (Status node log progress kept)
status_back node log progress kept h =
    let first = decimal node in
    let second = decimal log in
    let lists = progress_text progress ++ kept_text kept in
    let words = progress_words progress ++ kept_words kept in
    let node_small = below_half node h.0.0 in
    let log_small = below_word log h.0.1 in
    let joined : (first ++ codes " log " ++ second ++ progress_text progress ++ kept_text kept)
    ≡ first ++ (codes " log " ++ (second ++ lists)) = simp append_assoc in
    let parts =
    ap (slice_split (λ b. eqb b 32)) joined
    ∙ split_word first (codes "log " ++ (second ++ lists)) (codes "log" ∷ second ∷ words)
    (lacks-decimal 32 node refl node_small)
    (ap (λ l. codes "log" ∷ l) (lists_split second progress kept (lacks-decimal 32 log refl log_small)
    (record { steps = h.0.2; numbers = h.0.3; snapshots = h.1 }))) in
    record {
      rest = codes "node" ∷ first ∷ codes "log" ∷ second ∷ words;
      words = ap (λ l. codes "ok" ∷ codes "node" ∷ l) parts;
      back =
          ap (λ n. Status n (digits_value 10 second) (progress_of words) (kept_of words)) (number_back node node_small)
          ∙ ap (λ n. Status node n (progress_of words) (kept_of words)) (number_back log log_small)
          ∙ ap (λ p. Status node log p (kept_of words)) (progress_back progress kept h.0.2)
          ∙ ap (λ k. Status node log progress k) (kept_back progress kept h.0.3);
    }

event_back : (node number : ℕ) → AnswerHasForm (Emitted node number) → IsAnswered (Emitted node number)
event_back node number h =
    let node_small = below_half node h.0 in
    let digits = slice_split (λ b. eqb b 32) (decimal number) in
    let parts =
    ap (slice_split (λ b. eqb b 32)) (append_assoc (decimal node) (codes " ") (decimal number))
    ∙ split_word (decimal node) (decimal number) digits (lacks-decimal 32 node refl node_small) refl in
    record {
      rest = codes "event" ∷ decimal node ∷ digits;
      words = ap (λ l. codes "ok" ∷ codes "event" ∷ l) parts;
      back =
          ap (λ n. Emitted n (number_of digits)) (number_back node node_small)
          ∙ ap (Emitted node) (number_text_back number h.1);
    }

-- the words of two counts
counted_words : (events confirms : ℕ) → events < 2 ^ 64 →
    slice_split (λ b. eqb b 32) (decimal events ++ codes " confirms " ++ decimal confirms)
    ≡ decimal events ∷ codes "confirms" ∷ slice_split (λ b. eqb b 32) (decimal confirms)
counted_words events confirms small =
    ap (slice_split (λ b. eqb b 32)) (append_assoc (decimal events) (codes " confirms ") (decimal confirms))
    ∙ split_word (decimal events) (codes "confirms " ++ decimal confirms)
    (codes "confirms" ∷ slice_split (λ b. eqb b 32) (decimal confirms)) (lacks-decimal 32 events refl small) refl

counted_back : (made : ℕ → ℕ → Answer) (events confirms : ℕ) → (events < 2 ^ 64) × (confirms < 2 ^ 64) →
    counted_of made (decimal events ∷ codes "confirms" ∷ slice_split (λ b. eqb b 32) (decimal confirms))
    ≡ made events confirms
counted_back made events confirms h =
    ap (λ n. made n (number_of (slice_split (λ b. eqb b 32) (decimal confirms)))) (number_back events h.0)
    ∙ ap (made events) (number_text_back confirms h.1)

-- the word of a kind of events
kind_lacks : (kind : EventKind) → (lacks 32 (kind_text kind) ≡ true) × (lacks 10 (kind_text kind) ≡ true)
kind_lacks event.Sync = (refl, refl)
kind_lacks others = (refl, refl)

kind_back : (kind : EventKind) (rest : List (List ℕ)) → answer_of (kind_text kind ∷ rest) ≡ applied_of kind rest
kind_back event.Sync rest = refl
kind_back others rest = refl

applied_back : (kind : EventKind) (number rows : ℕ) → AnswerHasForm (Applied kind number rows) →
    IsAnswered (Applied kind number rows)
applied_back kind number rows h =
    let word = kind_text kind in
    let first = decimal number in
    let second = decimal rows in
    let digits = slice_split (λ b. eqb b 32) second in
    let joined : (word ++ codes " " ++ first ++ codes " rows " ++ second)
    ≡ word ++ (codes " " ++ (first ++ (codes " rows " ++ second))) = simp append_assoc in
    record {
      rest = word ∷ first ∷ codes "rows" ∷ digits;
      words =
          ap (λ t. codes "ok" ∷ slice_split (λ b. eqb b 32) t) joined
          ∙ ap (λ l. codes "ok" ∷ l)
          (split_word word _ _ (kind_lacks kind).0
          (split_word first (codes "rows " ++ second) (codes "rows" ∷ digits) (lacks-decimal 32 number refl h.0) refl));
      back =
          kind_back kind (first ∷ codes "rows" ∷ digits)
          ∙ ap (λ n. Applied kind n (number_of digits)) (number_back number h.0)
          ∙ ap (Applied kind number) (number_text_back rows h.1);
    }

fetched_back : (number rows : ℕ) → AnswerHasForm (Fetched number rows) → IsAnswered (Fetched number rows)
fetched_back number rows h =
    let digits = slice_split (λ b. eqb b 32) (decimal rows) in
    record {
      rest = codes "fetched" ∷ decimal number ∷ codes "rows" ∷ digits;
      words =
          ap (λ l. codes "ok" ∷ codes "fetched" ∷ l)
          (ap (slice_split (λ b. eqb b 32)) (append_assoc (decimal number) (codes " rows ") (decimal rows))
          ∙ split_word (decimal number) (codes "rows " ++ decimal rows) (codes "rows" ∷ digits)
          (lacks-decimal 32 number refl h.0) refl);
      back =
          ap (λ n. Fetched n (number_of digits)) (number_back number h.0)
          ∙ ap (Fetched number) (number_text_back rows h.1);
    }

pub answer_back : (answer : Answer) → AnswerHasForm answer → IsAnswered answer
answer_back Done h = record { rest = []; words = refl; back = refl }
answer_back (Opened xid) h = record { rest = _; words = refl; back = ap Opened (number_text_back xid h) }
answer_back (Acted number) h = record { rest = _; words = refl; back = ap Acted (number_text_back number h) }
answer_back Unchanged h = record { rest = _; words = refl; back = refl }
answer_back (Committed actions) h = record { rest = _; words = refl; back = ap Committed (number_text_back actions h) }
answer_back (Listed rows) h = record {
  rest = codes "rows" ∷ decimal (length rows) ∷ map row_word rows;
  words =
      ap (λ l. codes "ok" ∷ codes "rows" ∷ l)
      (rows_split (decimal (length rows)) rows (lacks-decimal 32 (length rows) refl h.0) h.1);
  back = ap Listed (rows_back rows h.1);
}
answer_back Kept h = record { rest = _; words = refl; back = refl }
answer_back Lost h = record { rest = _; words = refl; back = refl }
answer_back (Status node log progress kept) h = status_back node log progress kept h
answer_back (Statements count) h = record { rest = _; words = refl; back = ap Statements (number_text_back count h) }
answer_back (Emitted node number) h = event_back node number h
answer_back (Heard events confirms) h = record {
  rest = codes "events" ∷ _;
  words = ap (λ l. codes "ok" ∷ codes "events" ∷ l) (counted_words events confirms h.0);
  back = counted_back Heard events confirms h;
}
answer_back (LostOnTheWay events confirms) h = record {
  rest = codes "lost" ∷ codes "events" ∷ _;
  words = ap (λ l. codes "ok" ∷ codes "lost" ∷ codes "events" ∷ l) (counted_words events confirms h.0);
  back = counted_back LostOnTheWay events confirms h;
}
answer_back (Applied kind number rows) h = applied_back kind number rows h
answer_back (Fetched number rows) h = fetched_back number rows h
answer_back (Echoed text) h = record { rest = _; words = refl; back = ap Echoed (text_back text) }
answer_back (Ended status) h =
    record { rest = _; words = refl; back = ap Ended (number_text_back status (below_word status h)) }

-- ---- no answer has a newline

progress_lacks : (progress : List (ℕ × ℕ)) → AllByRecursion ProgressFits progress →
    lacks 10 (progress_text progress) ≡ true
progress_lacks [] fits = refl
progress_lacks (p ∷ ps) fits =
    lacks-append 10 (decimal p.0 ++ codes " " ++ decimal p.1) (progress_text ps)
    (lacks-append 10 (decimal p.0 ++ codes " ") (decimal p.1)
    (lacks-append 10 (decimal p.0) (codes " ") (lacks-decimal 10 p.0 refl (below_half p.0 fits.0.0)) refl)
    (lacks-decimal 10 p.1 refl fits.0.1))
    (progress_lacks ps fits.1)

kept_lacks : (kept : List (ℕ × ℕ × List ℕ)) → AllByRecursion KeptFits kept → AllByRecursion KeptHasForm kept →
    lacks 10 (kept_text kept) ≡ true
kept_lacks [] fits forms = refl
kept_lacks (k ∷ ks) fits forms =
    let set = decimal k.0 in
    let era = decimal k.1 in
    lacks-append 10 (set ++ codes " era " ++ era ++ codes " at " ++ k.2) (kept_text ks)
    (lacks-append 10 (set ++ codes " era " ++ era ++ codes " at ") k.2
    (lacks-append 10 (set ++ codes " era " ++ era) (codes " at ")
    (lacks-append 10 (set ++ codes " era ") era
    (lacks-append 10 set (codes " era ") (lacks-decimal 10 k.0 refl (below_half k.0 fits.0.0)) refl)
    (lacks-decimal 10 k.1 refl fits.0.1)) refl)
    (lacks_by is_word_byte 10 k.2 refl forms.0))
    (kept_lacks ks fits.1 forms.1)

counted_lacks : (events confirms : ℕ) → (events < 2 ^ 64) × (confirms < 2 ^ 64) →
    lacks 10 (decimal events ++ codes " confirms " ++ decimal confirms) ≡ true
counted_lacks events confirms h =
    lacks-append 10 (decimal events ++ codes " confirms ") (decimal confirms)
    (lacks-append 10 (decimal events) (codes " confirms ") (lacks-decimal 10 events refl h.0) refl)
    (lacks-decimal 10 confirms refl h.1)

pub answer_lacks : (answer : Answer) → AnswerHasForm answer → lacks 10 (answer_text answer) ≡ true
answer_lacks (Opened xid) h = lacks-decimal 10 xid refl h
answer_lacks (Acted number) h = lacks-decimal 10 number refl h
answer_lacks (Committed actions) h = lacks-decimal 10 actions refl h
answer_lacks (Listed rows) h =
    lacks-append 10 (decimal (length rows)) (rows_text rows) (lacks-decimal 10 (length rows) refl h.0)
    (rows_lack rows h.1)
answer_lacks (Status node log progress kept) h =
    let first = decimal node in
    let second = decimal log in
    lacks-append 10 (first ++ codes " log " ++ second ++ progress_text progress) (kept_text kept)
    (lacks-append 10 (first ++ codes " log " ++ second) (progress_text progress)
    (lacks-append 10 (first ++ codes " log ") second
    (lacks-append 10 first (codes " log ") (lacks-decimal 10 node refl (below_half node h.0.0)) refl)
    (lacks-decimal 10 log refl (below_word log h.0.1)))
    (progress_lacks progress h.0.2))
    (kept_lacks kept h.0.3 h.1)
answer_lacks (Statements count) h = lacks-decimal 10 count refl h
answer_lacks (Emitted node number) h =
    lacks-append 10 (decimal node ++ codes " ") (decimal number)
    (lacks-append 10 (decimal node) (codes " ") (lacks-decimal 10 node refl (below_half node h.0)) refl)
    (lacks-decimal 10 number refl h.1)
answer_lacks (Heard events confirms) h = counted_lacks events confirms h
answer_lacks (LostOnTheWay events confirms) h = counted_lacks events confirms h
answer_lacks (Applied kind number rows) h =
    let word = kind_text kind in
    let first = decimal number in
    lacks-append 10 (word ++ codes " " ++ first ++ codes " rows ") (decimal rows)
    (lacks-append 10 (word ++ codes " " ++ first) (codes " rows ")
    (lacks-append 10 (word ++ codes " ") first (lacks-append 10 word (codes " ") (kind_lacks kind).1 refl)
    (lacks-decimal 10 number refl h.0)) refl)
    (lacks-decimal 10 rows refl h.1)
answer_lacks (Fetched number rows) h =
    lacks-append 10 (decimal number ++ codes " rows ") (decimal rows)
    (lacks-append 10 (decimal number) (codes " rows ") (lacks-decimal 10 number refl h.0) refl)
    (lacks-decimal 10 rows refl h.1)
answer_lacks (Echoed text) h = h
answer_lacks (Ended status) h = lacks-decimal 10 status refl (below_word status h)
answer_lacks others h = refl
