-- A refusal is read back from its text.
use Rattle.std.proofs.Common.{◌≡◌, ℕ, ◌<◌, ◌^◌, eqb, if◌then◌else◌, true, List, [], ◌∷◌, ◌++◌, refl, ap, ◌∙◌}
use Rattle.std.proofs.Common.{append_assoc, codes}
use Rattle.std.specs.Fmt.{decimal}
use Rattle.std.specs.List.{slice_split}
use Rattle.std.specs.Str.{bytes_eq}
use Rattle.slonik_script.specs.declared.refusal.ScriptRefusal.{ScriptRefusal}
use Rattle.slonik_script.specs.declared.refusal.ScriptRefusal.TheVariants.{BadToken, BadSyntax, UnknownOption}
use Rattle.slonik_script.specs.declared.refusal.ScriptRefusal.TheVariants.{MissingOption, NoPreamble, NotInProfile}
use Rattle.slonik_script.specs.declared.refusal.ScriptRefusal.TheVariants.{NotInTry, Undefined, Depth, NoFile, TooMany}
use Rattle.slon_model.specs.declared.reply.Refusal.{Refusal}
use Rattle.slon_model.specs.declared.reply.Refusal.TheVariants.{Fault, Locked, Full, BadRow, NotEmpty, Down, NoDatabase}
use Rattle.slon_model.specs.declared.reply.Refusal.TheVariants.{IdUsed, IsUp, TooBig, NotInitialised, OtherNode}
use Rattle.slon_model.specs.declared.reply.Refusal.TheVariants.{AlreadyNode, NoNode, NoConninfo, HasReceivers, NoSet}
use Rattle.slon_model.specs.declared.reply.Refusal.TheVariants.{TableExists, NameUsed, NoTable, NoTransaction}
use Rattle.slon_model.specs.declared.reply.Refusal.TheVariants.{Duplicate, NotOrigin, SetLocked, BadWidth, TableUsed}
use Rattle.slon_model.specs.declared.reply.Refusal.TheVariants.{Busy, NoPath, SameNode, Script, ScriptUsed, NoScript}
use Rattle.slon_model.specs.declared.reply.Refusal.TheVariants.{Loop, Nothing, NotListed, NotKnown, Off, Severed}
use Rattle.slon_model.specs.declared.reply.Refusal.TheVariants.{Behind, NotActive, NotForwarding, StillUsed, NotBuilt}
use Rattle.slon_model.specs.Printed.{refusal_text}
use Rattle.session_text.specs.Replies.{ScriptHasForm, RefusalHasForm}
use Rattle.slon_lemmas.proofs.Splitting.{lacks, lacks-append, lacks-decimal}
use Rattle.std.specs.Str.Parse.{digits_value}
use Rattle.session_text.proofs.Parting.{name_lacks, table_lacks, number_of, number_back, number_text_back, text_of}
use Rattle.session_text.proofs.Parting.{text_back}
use Rattle.session_text.proofs.Parting.{below_word, below_half, split_word}

-- ---- reading

-- the fault of the words behind `fault`: a name and a number
abbrev fault_of : List (List ℕ) → Refusal
fault_of [] = Duplicate
fault_of (database ∷ count) = Fault database (number_of count)

-- the two nodes of the words behind `cut`
abbrev severed_of : List (List ℕ) → Refusal
severed_of [] = Duplicate
severed_of (node ∷ other) = Severed (digits_value 10 node) (number_of other)

-- the provider and the two numbers of the words behind `behind`
abbrev behind_of : List (List ℕ) → Refusal
behind_of (provider ∷ progress ∷ number) =
    Behind (digits_value 10 provider) (digits_value 10 progress) (number_of number)
behind_of others = Duplicate

abbrev by_number : (ℕ → Refusal) → List (List ℕ) → Refusal
by_number made rest = made (number_of rest)

abbrev by_text : (List ℕ → Refusal) → List (List ℕ) → Refusal
by_text made rest = made (text_of rest)

-- each code with the refusal that the words behind its name are
abbrev readings : List (List ℕ × (List (List ℕ) → Refusal))
readings =
    (codes "10", fault_of) ∷ (codes "12", by_number Locked) ∷ (codes "13", by_number Full)
    ∷ (codes "14", by_number BadRow) ∷ (codes "15", by_text NotEmpty) ∷ (codes "16", by_text Down)
    ∷ (codes "17", by_text NoDatabase) ∷ (codes "18", by_number IdUsed) ∷ (codes "19", by_text IsUp)
    ∷ (codes "21", by_number TooBig) ∷ (codes "41", by_number NotInitialised) ∷ (codes "42", by_number OtherNode)
    ∷ (codes "43", by_number AlreadyNode) ∷ (codes "44", by_number NoNode) ∷ (codes "45", by_number NoConninfo)
    ∷ (codes "46", by_number HasReceivers) ∷ (codes "47", by_number NoSet) ∷ (codes "50", by_text TableExists)
    ∷ (codes "51", by_text NameUsed) ∷ (codes "52", by_text NoTable) ∷ (codes "53", by_text NoTransaction)
    ∷ (codes "54", λ _. Duplicate) ∷ (codes "55", by_number NotOrigin) ∷ (codes "56", by_number SetLocked)
    ∷ (codes "57", by_number BadWidth) ∷ (codes "58", by_text TableUsed) ∷ (codes "59", by_number Loop)
    ∷ (codes "60", λ _. Nothing)
    ∷ (codes "61", by_number NotListed) ∷ (codes "62", by_number NotKnown) ∷ (codes "63", behind_of)
    ∷ (codes "66", by_number Busy) ∷ (codes "67", by_number Off) ∷ (codes "68", severed_of)
    ∷ (codes "72", by_number NotActive) ∷ (codes "73", by_number NotForwarding)
    ∷ (codes "75", by_number NoPath) ∷ (codes "76", by_number StillUsed) ∷ (codes "78", by_number SameNode)
    ∷ (codes "80", by_number (λ n. Script (BadToken n))) ∷ (codes "81", by_number (λ n. Script (BadSyntax n)))
    ∷ (codes "82", by_text (λ t. Script (UnknownOption t))) ∷ (codes "83", by_text (λ t. Script (MissingOption t)))
    ∷ (codes "84", λ _. Script NoPreamble) ∷ (codes "85", by_text (λ t. Script (NotInProfile t)))
    ∷ (codes "86", by_text (λ t. Script (NotInTry t))) ∷ (codes "87", by_text (λ t. Script (Undefined t)))
    ∷ (codes "88", by_text (λ t. Script (Depth t))) ∷ (codes "89", by_text (λ t. Script (NoFile t)))
    ∷ (codes "93", by_text ScriptUsed) ∷ (codes "94", by_text NoScript) ∷ (codes "96", λ _. Script TooMany)
    ∷ (codes "98", by_text NotBuilt) ∷ []

-- the refusal of this code, with the words behind its name
abbrev read_by : List (List ℕ × (List (List ℕ) → Refusal)) → List ℕ → List (List ℕ) → Refusal
read_by [] code rest = Duplicate
read_by (reading ∷ more) code rest = if bytes_eq code reading.0 then reading.1 rest else read_by more code rest

-- the refusal of the words behind `no`
abbrev pub refusal_of : List (List ℕ) → Refusal
refusal_of (code ∷ name ∷ rest) = read_by readings code rest
refusal_of others = Duplicate

-- ---- reading back

-- The text of a refusal begins with `no`, is read back, and has no newline.
pub record IsRefused (refusal : Refusal) : Type 0 where
  pub rest : List (List ℕ)
  pub words : slice_split (λ b. eqb b 32) (refusal_text refusal) ≡ codes "no" ∷ rest
  pub back : refusal_of rest ≡ refusal
  pub line : lacks 10 (refusal_text refusal) ≡ true

-- a refusal whose text ends in a number
numbered : (made : ℕ → Refusal) (rest : List (List ℕ)) (n : ℕ) → n < 2 ^ 64 →
    slice_split (λ b. eqb b 32) (refusal_text (made n)) ≡ codes "no" ∷ rest →
    refusal_of rest ≡ made (number_of (slice_split (λ b. eqb b 32) (decimal n))) →
    lacks 10 (refusal_text (made n)) ≡ lacks 10 (decimal n) → IsRefused (made n)
numbered made rest n small words reads line = record {
  rest = rest;
  words = words;
  back = reads ∙ ap made (number_text_back n small);
  line = line ∙ lacks-decimal 10 n refl small;
}

-- a refusal whose text ends in a text
worded : (made : List ℕ → Refusal) (rest : List (List ℕ)) (text : List ℕ) → lacks 10 text ≡ true →
    slice_split (λ b. eqb b 32) (refusal_text (made text)) ≡ codes "no" ∷ rest →
    refusal_of rest ≡ made (text_of (slice_split (λ b. eqb b 32) text)) →
    lacks 10 (refusal_text (made text)) ≡ lacks 10 text → IsRefused (made text)
worded made rest text free words reads line = record {
  rest = rest;
  words = words;
  back = reads ∙ ap made (text_back text);
  line = line ∙ free;
}

fault_back : (database : List ℕ) (count : ℕ) → RefusalHasForm (Fault database count) →
    IsRefused (Fault database count)
fault_back database count h =
    let digits = slice_split (λ b. eqb b 32) (decimal count) in
    let parts =
    ap (slice_split (λ b. eqb b 32)) (append_assoc database (codes " ") (decimal count))
    ∙ split_word database (decimal count) digits (name_lacks 32 database refl h.0) refl in
    record {
      rest = codes "10" ∷ codes "fault" ∷ database ∷ digits;
      words = ap (λ l. codes "no" ∷ codes "10" ∷ codes "fault" ∷ l) parts;
      back = ap (Fault database) (number_text_back count h.1);
      line =
          lacks-append 10 (database ++ codes " ") (decimal count)
          (lacks-append 10 database (codes " ") (name_lacks 10 database refl h.0) refl)
          (lacks-decimal 10 count refl h.1);
    }

severed_back : (node other : ℕ) → (node < 2 ^ 32) × (other < 2 ^ 32) → IsRefused (Severed node other)
severed_back node other h =
    let digits = slice_split (λ b. eqb b 32) (decimal other) in
    let first = below_half node h.0 in
    let second = below_half other h.1 in
    let parts =
    ap (slice_split (λ b. eqb b 32)) (append_assoc (decimal node) (codes " ") (decimal other))
    ∙ split_word (decimal node) (decimal other) digits (lacks-decimal 32 node refl first) refl in
    record {
      rest = codes "68" ∷ codes "cut" ∷ decimal node ∷ digits;
      words = ap (λ l. codes "no" ∷ codes "68" ∷ codes "cut" ∷ l) parts;
      back =
          ap (λ n. Severed n (number_of digits)) (number_back node first)
          ∙ ap (Severed node) (number_text_back other second);
      line =
          lacks-append 10 (decimal node ++ codes " ") (decimal other)
          (lacks-append 10 (decimal node) (codes " ") (lacks-decimal 10 node refl first) refl)
          (lacks-decimal 10 other refl second);
    }

behind_back : (provider progress number : ℕ) →
    (provider < 2 ^ 32) × (progress < 2 ^ 64) × (number < 2 ^ 64) → IsRefused (Behind provider progress number)
behind_back provider progress number h =
    let blank : List ℕ = codes " " in
    let one = decimal provider in
    let two = decimal progress in
    let three = decimal number in
    let digits = slice_split (λ b. eqb b 32) three in
    let first = below_half provider h.0 in
    let parts =
    ap (slice_split (λ b. eqb b 32)) (append_assoc (one ++ blank ++ two) blank three
    ∙ append_assoc (one ++ blank) two (blank ++ three) ∙ append_assoc one blank (two ++ (blank ++ three)))
    ∙ split_word one (two ++ (blank ++ three)) (two ∷ digits) (lacks-decimal 32 provider refl first)
    (split_word two three digits (lacks-decimal 32 progress refl h.1) refl) in
    record {
      rest = codes "63" ∷ codes "behind" ∷ one ∷ two ∷ digits;
      words = ap (λ l. codes "no" ∷ codes "63" ∷ codes "behind" ∷ l) parts;
      back =
          ap (λ n. Behind n (digits_value 10 two) (number_of digits)) (number_back provider first)
          ∙ ap (λ n. Behind provider n (number_of digits)) (number_back progress h.1)
          ∙ ap (Behind provider progress) (number_text_back number h.2);
      line =
          lacks-append 10 (one ++ blank ++ two ++ blank) three
          (lacks-append 10 (one ++ blank ++ two) blank (lacks-append 10 (one ++ blank) two
          (lacks-append 10 one blank (lacks-decimal 10 provider refl first) refl)
          (lacks-decimal 10 progress refl h.1)) refl) (lacks-decimal 10 number refl h.2);
    }

script_back : (refusal : ScriptRefusal) → ScriptHasForm refusal → IsRefused (Script refusal)
script_back (BadToken line) h = numbered (λ n. Script (BadToken n)) _ line h refl refl refl
script_back (BadSyntax place) h = numbered (λ n. Script (BadSyntax n)) _ place h refl refl refl
script_back (UnknownOption word) h = worded (λ t. Script (UnknownOption t)) _ word h refl refl refl
script_back (MissingOption words) h = worded (λ t. Script (MissingOption t)) _ words h refl refl refl
script_back NoPreamble h = record { rest = _; words = refl; back = refl; line = refl }
script_back (NotInProfile word) h = worded (λ t. Script (NotInProfile t)) _ word h refl refl refl
script_back (NotInTry word) h = worded (λ t. Script (NotInTry t)) _ word h refl refl refl
script_back (Undefined name) h = worded (λ t. Script (Undefined t)) _ name h refl refl refl
script_back (Depth path) h = worded (λ t. Script (Depth t)) _ path h refl refl refl
script_back (NoFile path) h = worded (λ t. Script (NoFile t)) _ path h refl refl refl
script_back TooMany h = record { rest = _; words = refl; back = refl; line = refl }

pub refusal_back : (refusal : Refusal) → RefusalHasForm refusal → IsRefused refusal
refusal_back (Fault database count) h = fault_back database count h
refusal_back (Locked xid) h = numbered Locked _ xid h refl refl refl
refusal_back (Full limit) h = numbered Full _ limit (below_half limit h) refl refl refl
refusal_back (BadRow space) h = numbered BadRow _ space (below_word space h) refl refl refl
refusal_back (NotEmpty name) h = worded NotEmpty _ name (name_lacks 10 name refl h) refl refl refl
refusal_back (Down name) h = worded Down _ name (name_lacks 10 name refl h) refl refl refl
refusal_back (NoDatabase name) h = worded NoDatabase _ name h refl refl refl
refusal_back (IdUsed id) h = numbered IdUsed _ id (below_half id h) refl refl refl
refusal_back (IsUp name) h = worded IsUp _ name (name_lacks 10 name refl h) refl refl refl
refusal_back (TooBig space) h = numbered TooBig _ space (below_word space h) refl refl refl
refusal_back (NotInitialised node) h = numbered NotInitialised _ node (below_half node h) refl refl refl
refusal_back (OtherNode node) h = numbered OtherNode _ node (below_half node h) refl refl refl
refusal_back (AlreadyNode node) h = numbered AlreadyNode _ node (below_half node h) refl refl refl
refusal_back (NoNode node) h = numbered NoNode _ node (below_half node h) refl refl refl
refusal_back (NoConninfo node) h = numbered NoConninfo _ node (below_half node h) refl refl refl
refusal_back (HasReceivers node) h = numbered HasReceivers _ node (below_half node h) refl refl refl
refusal_back (NoSet set) h = numbered NoSet _ set (below_half set h) refl refl refl
refusal_back (TableExists table) h = worded TableExists _ table (table_lacks 10 table refl refl h) refl refl refl
refusal_back (NameUsed name) h = worded NameUsed _ name (name_lacks 10 name refl h) refl refl refl
refusal_back (NoTable table) h = worded NoTable _ table h refl refl refl
refusal_back (NoTransaction name) h = worded NoTransaction _ name (name_lacks 10 name refl h) refl refl refl
refusal_back Duplicate h = record { rest = _; words = refl; back = refl; line = refl }
refusal_back (NotOrigin set) h = numbered NotOrigin _ set (below_half set h) refl refl refl
refusal_back (SetLocked set) h = numbered SetLocked _ set (below_half set h) refl refl refl
refusal_back (BadWidth columns) h = numbered BadWidth _ columns h refl refl refl
refusal_back (TableUsed table) h = worded TableUsed _ table h refl refl refl
refusal_back (Loop set) h = numbered Loop _ set (below_half set h) refl refl refl
refusal_back Nothing h = record { rest = _; words = refl; back = refl; line = refl }
refusal_back (NotListed server) h = numbered NotListed _ server (below_half server h) refl refl refl
refusal_back (NotKnown node) h = numbered NotKnown _ node (below_half node h) refl refl refl
refusal_back (Busy xid) h = numbered Busy _ xid h refl refl refl
refusal_back (Off node) h = numbered Off _ node (below_half node h) refl refl refl
refusal_back (Severed node other) h = severed_back node other h
refusal_back (Behind provider progress number) h = behind_back provider progress number h
refusal_back (NotActive node) h = numbered NotActive _ node (below_half node h) refl refl refl
refusal_back (NotForwarding node) h = numbered NotForwarding _ node (below_half node h) refl refl refl
refusal_back (NoPath node) h = numbered NoPath _ node (below_half node h) refl refl refl
refusal_back (StillUsed set) h = numbered StillUsed _ set (below_half set h) refl refl refl
refusal_back (SameNode node) h = numbered SameNode _ node (below_half node h) refl refl refl
refusal_back (Script refusal) h = script_back refusal h
refusal_back (ScriptUsed name) h = worded ScriptUsed _ name (name_lacks 10 name refl h) refl refl refl
refusal_back (NoScript name) h = worded NoScript _ name (name_lacks 10 name refl h) refl refl refl
refusal_back (NotBuilt word) h = worded NotBuilt _ word h refl refl refl
