-- What a text is read as, where it is read.
use Rattle.std.proofs.Common.{◌≡◌, ℕ, List, Option, Result, Ok, Err, refl, ap}
use Rattle.slonik_script.specs.declared.refusal.ScriptRefusal.TheVariants.{BadToken}
use Rattle.slonik_script.specs.declared.script.Script.{Script}
use Rattle.slonik_tokens.specs.Cut.{cut_of}
use Rattle.slonik_tokens.specs.Faults.{EndsCut}
use Rattle.slonik_tokens.specs.declared.fault.ParseFault.{ParseFault}
use Rattle.slonik_tokens.specs.declared.fault.ParseFault.TheVariants.{Refused, ReadFault as FileFault, TooLong}
use Rattle.slonik_tokens.specs.declared.fault.ParseFault.TheVariants.{NoMemory as NoRoom}
use Rattle.slonik_tokens.specs.declared.token.Token.{Token}
use Rattle.slonik_expand.specs.Expansion.{Ending, Made, Wrong as Refuses, Long, expansion_of}
use Rattle.slonik_parse.specs.Outcomes.{Parses}
use Rattle.session_reader.specs.Sessions.{block_made, block_cut, block_of}
use Rattle.session_reader.specs.Fetching.{IsBlock, parsed_as}

-- how an expansion ends is what was answered
made_block : (ending : Ending) (parsed : Result Script ParseFault) (left : ℕ) → Parses ending parsed left →
    IsBlock (block_made ending) (parsed_as parsed) left
made_block ending (Err FileFault) left is = tt
made_block ending (Err NoRoom) left is = tt
made_block ending (Err TooLong) left is = ap block_made is
made_block (Made making) (Ok script) left is = rw (is.0, is.1) refl
made_block (Made making) (Err (Refused refusal)) left is = rw (is.0, is.1) refl
made_block (Refuses refused rest) (Ok script) left is = absurd is
made_block (Refuses refused rest) (Err (Refused refusal)) left is = rw (is.0, is.1) refl
made_block Long (Ok script) left is = absurd is
made_block Long (Err (Refused refusal)) left is = absurd is

-- A text whose tokens were parsed.
pub record Cut (names : List ℕ → Option (List ℕ)) (text : List ℕ) : Type 0 where
  pub before : ℕ
  pub tokens : List Token
  pub is : cut_of text ≡ Ok tokens

pub parsed_block : (names : List ℕ → Option (List ℕ)) (text : List ℕ) (cut : Cut names text)
    (parsed : Result Script ParseFault) (left : ℕ) → Parses (expansion_of names cut.before cut.tokens) parsed left →
    IsBlock (block_of names cut.before text) (parsed_as parsed) left
unfolding block_of
parsed_block names text cut parsed left is =
    let block : block_of names cut.before text ≡ block_made (expansion_of names cut.before cut.tokens) =
    ap (block_cut names cut.before) cut.is in
    rw block (made_block (expansion_of names cut.before cut.tokens) parsed left is)

-- the text begins no token somewhere
pub uncut_block : (names : List ℕ → Option (List ℕ)) (text : List ℕ) (fault : ParseFault) (left : ℕ) →
    EndsCut (cut_of text) fault → IsBlock (block_of names left text) (parsed_as (Err fault)) left
unfolding block_of
uncut_block names text (Refused (BadToken line)) left ends = ap (block_cut names left) ends
uncut_block names text (Refused others) left ends = absurd ends
uncut_block names text FileFault left ends = absurd ends
uncut_block names text TooLong left ends = absurd ends
uncut_block names text NoRoom left ends = tt
