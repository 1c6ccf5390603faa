-- How reading goes on behind a line.
use Rattle.std.proofs.Common.{◌≡◌, ℕ, true, false, List, [], ◌∷◌, ◌++◌, Option, Some, None, Ok, Err, refl, sym, ap}
use Rattle.std.proofs.Common.{◌∙◌, ◌&&◌, subst, cond, codes, Bool}
use Rattle.std.specs.Str.{bytes_eq}
use Rattle.slon_base.specs.Outside.{Filed, top}
use Rattle.slon_model.specs.Forms.{is_name}
use Rattle.slon_model.specs.Lines.{Meaning, Bad, meaning, words}
use Rattle.session_text.specs.Reading.{Reading}
use Rattle.session_text.specs.Handing.{Comes, Breaks}
use Rattle.session_reader.specs.declared.fault.ReadFault.{ReadFault}
use Rattle.session_reader.specs.declared.fault.ReadFault.TheVariants.{BadLine, Failed, NoMemory, PastLimit}
use Rattle.session_reader.specs.Sessions.{opening_of, Block, is_readable, opening, closing, block_of}
use Rattle.session_reader.specs.Sessions.{Between, Within, BadAt, Session}
use Rattle.session_reader.specs.Sessions.{stopped, Ahead, closed, Next, next_of, line_says, between}
use Rattle.session_reader.specs.Fetching.{Broken, InLine}
use Rattle.session_reader.specs.Fetching.{Fetching, left_of, ahead_of, to_come, Stops, IsSaid, IsBlock, ReadsLine}
use Rattle.session_reader.proofs.Heard.{Under, under, Reached}

-- what stops now, stopped what was to come before
pub stops_on : (before : Session) (u : Under) (now : Fetching) (files : Filed) (r : Reached before u now files)
    (fault : ReadFault) → Stops (to_come u.names u.mode now r.rest) fault → Stops before fault
stops_on before u now files r fault stops = subst (λ s. Stops s fault) (sym r.same) stops

-- the next line breaks off
pub breaks_on : (before : Session) (u : Under) (now : Fetching) (files : Filed) (r : Reached before u now files)
    (new : Fetching) (after : Filed) → Breaks r.rest now.lines.taken after → Broken u.names before new after
breaks_on before u now files r new after breaks = InLine u.mode now.number now.lines.taken r.rest breaks r.same

-- What was to come before, and the line that was read since: what is seen then, the files, and the line's number.
pub record Spot : Type 0 where
  pub before : Session
  pub new : Fetching
  pub files : Filed
  pub number : ℕ

abbrev pub spot : Session → Fetching → Filed → ℕ → Spot
spot before new files number = record { before = before; new = new; files = files; number = number }

-- what was to come before is what the line says
pub record Line (u : Under) (s : Spot) : Type 0 where
  pub rest : List ℕ
  pub comes : Comes s.new.lines s.files rest
  pub says : s.before
      ≡ line_says u.names u.mode (next_of s.number (left_of s.new) s.new.line) (ahead_of u.names s.new.number rest)

pub line_on : (u : Under) (s : Spot) (now : Fetching) (files : Filed) (r : Reached s.before u now files) →
    ReadsLine r.rest now s.new s.files (Ok (Some s.number)) → Line u s
line_on u s now files r reads =
    record { rest = reads.0; comes = reads.1; says = r.same ∙ reads.2 u.names u.mode }

-- ---- within a script

-- a line within the script of a name, and its text before it
pub record Part : Type 0 where
  pub names : List ℕ → Option (List ℕ)
  pub name : List ℕ
  pub opened : ℕ
  pub text : List ℕ

abbrev pub part : (List ℕ → Option (List ℕ)) → List ℕ → ℕ → List ℕ → Part
part names name opened text = record { names = names; name = name; opened = opened; text = text }

-- the mode of the line
abbrev pub within : Part → Under
within p = under p.names (Within p.name p.opened p.text)

closing_said : (p : Part) (n : Next) (ahead : Ahead) → bytes_eq n.line closing ≡ true →
    line_says p.names (Within p.name p.opened p.text) n ahead ≡ closed p.name (block_of p.names n.left p.text) ahead
closing_said p n ahead is = rw is refl

bad_said : (p : Part) (n : Next) (ahead : Ahead) → bytes_eq n.line closing ≡ false → is_readable n.line ≡ false →
    line_says p.names (Within p.name p.opened p.text) n ahead ≡ stopped (BadAt n.number)
bad_said p n ahead other bad = rw (other, bad) refl

text_said : (p : Part) (n : Next) (ahead : Ahead) → bytes_eq n.line closing ≡ false → is_readable n.line ≡ true →
    line_says p.names (Within p.name p.opened p.text) n ahead
    ≡ ahead (Within p.name p.opened (p.text ++ n.line ++ 10 ∷ [])) n.left
text_said p n ahead other good = rw (other, good) refl

-- it closes the script
pub closed_here : (p : Part) (s : Spot) (line : Line (within p) s) → bytes_eq s.new.line closing ≡ true →
    s.before
    ≡ closed p.name (block_of p.names (left_of s.new) p.text) (ahead_of p.names s.new.number line.rest)
closed_here p s line is =
    line.says
    ∙ closing_said p (next_of s.number (left_of s.new) s.new.line) (ahead_of p.names s.new.number line.rest) is

-- it is bad
pub bad_here : (p : Part) (s : Spot) (line : Line (within p) s) → bytes_eq s.new.line closing ≡ false →
    is_readable s.new.line ≡ false → s.before ≡ stopped (BadAt s.number)
bad_here p s line other bad =
    line.says
    ∙ bad_said p (next_of s.number (left_of s.new) s.new.line) (ahead_of p.names s.new.number line.rest) other bad

-- it is one of the text, which becomes this
pub text_here : (p : Part) (s : Spot) (line : Line (within p) s) (text : List ℕ) → bytes_eq s.new.line closing ≡ false →
    is_readable s.new.line ≡ true → p.text ++ s.new.line ++ 10 ∷ [] ≡ text →
    s.before ≡ to_come p.names (Within p.name p.opened text) s.new line.rest
text_here p s line text other good grown =
    line.says
    ∙ text_said p (next_of s.number (left_of s.new) s.new.line) (ahead_of p.names s.new.number line.rest) other good
    ∙ ap (λ t. to_come p.names (Within p.name p.opened t) s.new line.rest) grown

-- ---- between the scripts

-- a line that opens this and means that
between_said : (names : List ℕ → Option (List ℕ)) (n : Next) (ahead : Ahead) (opens : Option (List ℕ))
    (meant : Meaning) → opening n.line ≡ opens → meaning n.line ≡ meant →
    line_says names Between n ahead ≡ between n.number n.left opens meant ahead
between_said names n ahead opens meant o m = rw (o, m) refl

-- what is said between scripts by the line that was read
pub here : (names : List ℕ → Option (List ℕ)) (s : Spot) (line : Line (under names Between) s)
    (opens : Option (List ℕ)) (meant : Meaning) → opening s.new.line ≡ opens → meaning s.new.line ≡ meant →
    s.before ≡ between s.number (left_of s.new) opens meant (ahead_of names s.new.number line.rest)
here names s line opens meant o m =
    line.says ∙ between_said names (next_of s.number (left_of s.new) s.new.line) (ahead_of names s.new.number line.rest)
    opens meant o m

-- it opens the script of this name
pub opens_here : (names : List ℕ → Option (List ℕ)) (s : Spot) (line : Line (under names Between) s) (name : List ℕ) →
    opening s.new.line ≡ Some name → s.before ≡ to_come names (Within name s.number []) s.new line.rest
opens_here names s line name is = here names s line (Some name) (meaning s.new.line) is refl

-- it is bad
pub stops_here : (names : List ℕ → Option (List ℕ)) (s : Spot) (line : Line (under names Between) s)
    (fault : ReadFault) → IsSaid s.number (opening s.new.line) (meaning s.new.line) (Err fault) → Stops s.before fault
stops_here names s line (BadLine bad) is =
    here names s line None Bad is.0 is.1 ∙ ap (λ n. stopped (BadAt n)) (sym is.2)
stops_here names s line NoMemory is = tt
stops_here names s line Failed is = absurd is
stops_here names s line PastLimit is = absurd is

-- the script that it opens has a name
opening_in_named : (words : List (List ℕ)) (name : List ℕ) → opening_of words ≡ Some name → is_name name ≡ true
opening_in_named (verb ∷ word ∷ sign ∷ []) name is =
    by (bytes_eq verb (codes "slonik") && bytes_eq sign (codes "<<")) (is_name word) refl is
  where
    by : (b n : Bool) → is_name word ≡ n → cond b (cond n (Some word) None) None ≡ Some name → is_name name ≡ true
    by true true named e = let same : word ≡ name = cc in subst (λ l. is_name l ≡ true) same named
    by true false named e = cc
    by false n named e = cc
opening_in_named others name is = cc

pub opening_named : (line name : List ℕ) → opening line ≡ Some name → is_name name ≡ true
unfolding opening
opening_named line name is = by (is_readable line) is
  where
    by : (b : Bool) → cond b (opening_of (words line)) None ≡ Some name → is_name name ≡ true
    by true e = opening_in_named (words line) name e
    by false e = cc

-- ---- the script is closed

-- it was not read
pub block_stops : (before : Session) (name : List ℕ) (block : Block) (ahead : Ahead) (fault : ReadFault) (left : ℕ) →
    before ≡ closed name block ahead → IsBlock block (Err fault) left → Stops before fault
block_stops before name block ahead (BadLine number) left e is = absurd is
block_stops before name block ahead PastLimit left e is = e ∙ ap (λ b. closed name b ahead) is
block_stops before name block ahead Failed left e is = tt
block_stops before name block ahead NoMemory left e is = tt

-- the bytes to come are those that were to come
pub comes_still : (old new : Reading) (before after : Filed) (rest : List ℕ) → Comes old before rest →
    new.unread ≡ old.unread → after.stack ≡ before.stack → Comes new after rest
comes_still old new before after rest comes unread stack =
    (comes.0, ap top stack ∙ comes.1, comes.2 ∙ ap (λ l. l ++ comes.0) (sym unread))
