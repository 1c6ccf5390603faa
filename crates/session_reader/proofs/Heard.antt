-- What the next line says, where it is read.
use Rattle.std.proofs.Common.{◌≡◌, ℕ, ◌+◌, ◌-◌, ◌<◌, ◌≤◌, cond, Bool, true, false, List, [], ◌∷◌, length}
use Rattle.std.proofs.Common.{drop, Option, Some, None, refl, sym, ap, ◌∙◌, arith}
use Rattle.std.specs.Str.{bytes_eq}
use Rattle.std.specs.Str.Lines.{lines, strip_carriage_return}
use Rattle.std.proofs.lemmas.Slice.Eq.{bytes_eq-Decides}
use borrow.Author.Tests.{lt-ltb, le-ltb}
use Rattle.slon_base.specs.Outside.{Filed}
use Rattle.slon_model.specs.Lines.{Bad, meaning, words}
use Rattle.session_text.specs.Reading.{Reading, line_limit, line_size, session_limit}
use Rattle.session_text.specs.Handing.{front, behind, Comes, Hands}
use Rattle.session_text.specs.declared.line_reader.NextLine.TheVariants.{Line}
use Rattle.session_text.specs.declared.line_reader.ReadStop.{ReadStop}
use Rattle.session_text.specs.declared.line_reader.ReadStop.TheVariants as why
use Rattle.session_text.proofs.Lines.{lines_broken, lines_open}
use Rattle.session_reader.specs.Sessions.{Sized, sized, is_readable, opening, opening_of, closing, Mode, Between}
use Rattle.session_reader.specs.Sessions.{Within, BadAt, PastLimit, Session, stopped, ended, Ahead, Next, next_of}
use Rattle.session_reader.specs.Sessions.{line_says, session_from}
use Rattle.session_reader.specs.Fetching.{Fetching, left_of, ahead_of, to_come, stop_of, Stops}

-- the files' names and the mode
pub record Under : Type 0 where
  pub names : List ℕ → Option (List ℕ)
  pub mode : Mode

abbrev pub under : (List ℕ → Option (List ℕ)) → Mode → Under
under names mode = record { names = names; mode = mode }

-- what is seen of a reader
abbrev pub seen : Reading → List ℕ → ℕ → Fetching
seen lines line number = record { lines = lines; line = line; number = number }

-- the first of some lines, which is within what is left
first_said : (u : Under) (number left : ℕ) (one : Sized) (more : List Sized) → one.size ≤ left →
    session_from u.names u.mode number left (one ∷ more)
    ≡ line_says u.names u.mode (next_of number (left - one.size) one.line)
    (λ next rest. session_from u.names next (number + 1) rest more)
first_said u number left one more within = rw (le-ltb left one.size within) refl

-- the first of some lines, which is not
first_past : (u : Under) (number left : ℕ) (one : Sized) (more : List Sized) → left < one.size →
    session_from u.names u.mode number left (one ∷ more) ≡ stopped PastLimit
first_past u number left one more past = rw (lt-ltb left one.size past) refl

-- the lines are this one and others, within what is left
whole_said : (u : Under) (old : Fetching) (bytes line : List ℕ) (more : List (List ℕ)) → lines bytes ≡ line ∷ more →
    line_size bytes ≤ left_of old →
    to_come u.names u.mode old bytes
    ≡ line_says u.names u.mode (next_of old.number (left_of old - line_size bytes) line)
    (λ next rest. session_from u.names next (old.number + 1) rest (sized more (drop (line_size bytes) bytes)))
whole_said u old bytes line more are within =
    ap (λ l. session_from u.names u.mode old.number (left_of old) (sized l bytes)) are
    ∙ first_said u old.number (left_of old) (record { line = line; size = line_size bytes })
    (sized more (drop (line_size bytes) bytes)) within

-- A line was handed over: the reader before it and behind it.
pub record Turn (bytes : List ℕ) (files : Filed) : Type 0 where
  pub old : Fetching
  pub new : Fetching
  pub hands : Hands new.line bytes old.lines new.lines files Line
  pub within : new.lines.taken ≤ session_limit
  pub number : new.number ≡ old.number + 1

-- what was to come is what the line says
pub line_heard : (bytes : List ℕ) (files : Filed) (t : Turn bytes files) (u : Under) →
    to_come u.names u.mode t.old bytes
    ≡ line_says u.names u.mode (next_of t.old.number (left_of t.new) t.new.line)
    (ahead_of u.names t.new.number t.hands.rest)
line_heard bytes files t u =
    let rest = t.hands.rest in
    let left : left_of t.old - line_size bytes ≡ left_of t.new = omega (arith, t.hands.size, t.within) in
    whole_said u t.old bytes t.new.line (lines rest) t.hands.takes (omega (arith, t.hands.size, t.within))
    ∙ ap (λ n. line_says u.names u.mode (next_of t.old.number n t.new.line)
    (λ next l. session_from u.names next (t.old.number + 1) l (sized (lines rest) (drop (line_size bytes) bytes))))
    left
    ∙ ap (λ r. line_says u.names u.mode (next_of t.old.number (left_of t.new) t.new.line)
    (λ next l. session_from u.names next (t.old.number + 1) l (sized (lines rest) r))) (sym t.hands.left)
    ∙ ap (λ n. line_says u.names u.mode (next_of t.old.number (left_of t.new) t.new.line)
    (λ next l. session_from u.names next n l (sized (lines rest) rest))) (sym t.number)

-- ---- a line that is too long

long_text : (line : List ℕ) → line_limit < length line → is_readable line ≡ false
long_text line long = rw (lt-ltb 8192 (length line) long) refl

long_opening : (line : List ℕ) → line_limit < length line → opening line ≡ None
unfolding opening
long_opening line long = ap (λ b. cond b (opening_of (words line)) None) (long_text line long)

long_meaning : (line : List ℕ) → line_limit < length line → meaning line ≡ Bad
long_meaning line long = rw (lt-ltb 8192 (length line) long) refl

not_closing : (line : List ℕ) → line_limit < length line → bytes_eq line closing ≡ false
not_closing line long = by (bytes_eq line closing) refl
  where
    by : (b : Bool) → bytes_eq line closing ≡ b → b ≡ false
    by true is =
        let same : line ≡ closing = (bytes_eq-Decides line closing).0 is in
        absurd (omega (arith, ap length same))
    by false is = refl

long_said : (names : List ℕ → Option (List ℕ)) (mode : Mode) (n : Next) (ahead : Ahead) → line_limit < length n.line →
    line_says names mode n ahead ≡ stopped (BadAt n.number)
long_said names Between n ahead long = rw (long_opening n.line long, long_meaning n.line long) refl
long_said names (Within name opened text) n ahead long = rw (not_closing n.line long, long_text n.line long) refl

-- the first line is too long, and within what is left
pub long_heard : (u : Under) (old : Fetching) (bytes line : List ℕ) (more : List (List ℕ)) → lines bytes ≡ line ∷ more →
    line_limit < length line → line_size bytes ≤ left_of old →
    to_come u.names u.mode old bytes ≡ stopped (BadAt old.number)
long_heard u old bytes line more are long within =
    whole_said u old bytes line more are within ∙ long_said u.names u.mode _ _ long

-- ---- a line beyond the limit

-- some bytes have a line
record HasLine (bytes : List ℕ) : Type 0 where
  line : List ℕ
  more : List (List ℕ)
  are : lines bytes ≡ line ∷ more

has_line : (bytes : List ℕ) → 0 < length bytes → HasLine bytes
has_line bytes some = by (behind bytes) refl
  where
    by : (o : Option (List ℕ)) → behind bytes ≡ o → HasLine bytes
    by None is = record { line = bytes; more = []; are = lines_open bytes is some }
    by (Some rest) is =
        record {
          line = strip_carriage_return (front bytes);
          more = lines rest;
          are = lines_broken bytes rest is;
        }

some_bytes : (bytes : List ℕ) → 0 < line_size bytes → 0 < length bytes
some_bytes [] some = some
some_bytes (c ∷ cs) some = omega arith

-- the first line ends beyond what is left
pub past_heard : (u : Under) (old : Fetching) (bytes : List ℕ) → left_of old < line_size bytes →
    to_come u.names u.mode old bytes ≡ stopped PastLimit
past_heard u old bytes past =
    let has = has_line bytes (some_bytes bytes (omega (arith, past))) in
    ap (λ l. session_from u.names u.mode old.number (left_of old) (sized l bytes)) has.are
    ∙ first_past u old.number (left_of old) (record { line = has.line; size = line_size bytes })
    (sized has.more (drop (line_size bytes) bytes)) past

-- why the reading of lines stopped
pub stops_heard : (u : Under) (old : Fetching) (bytes : List ℕ) (stop : ReadStop) → old.lines.taken ≤ session_limit →
    (stop ≡ why.PastLimit → session_limit < old.lines.taken + line_size bytes) →
    Stops (to_come u.names u.mode old bytes) (stop_of stop)
stops_heard u old bytes why.Failed small past = tt
stops_heard u old bytes why.NoMemory small past = tt
stops_heard u old bytes why.PastLimit small past = past_heard u old bytes (omega (arith, past refl, small))

-- there is no line
pub none_heard : (u : Under) (old : Fetching) (bytes : List ℕ) → lines bytes ≡ [] →
    to_come u.names u.mode old bytes ≡ ended u.mode
none_heard u old bytes none =
    ap (λ l. session_from u.names u.mode old.number (left_of old) (sized l bytes)) none

-- Of the bytes to come these are left, and what was to come is what they say.
pub record Reached (before : Session) (u : Under) (now : Fetching) (files : Filed) : Type 0 where
  pub rest : List ℕ
  pub comes : Comes now.lines files rest
  pub same : before ≡ to_come u.names u.mode now rest
