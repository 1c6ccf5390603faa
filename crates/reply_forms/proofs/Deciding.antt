-- What a database decides on a task is told in words that have their forms.
use Rattle.std.proofs.Common.{ℕ, Bool, true, false, cond, List, is_some, Option, Some, None, refl}
use Rattle.std.specs.Prelude.{◌&&◌, ◌==◌, not}
use Rattle.std.specs.FinMap.{get, entries}
use Rattle.slon_model.specs.declared.fault.DbFault.{DbFault}
use Rattle.slon_model.specs.declared.fault.DbFault.TheVariants.{Locked, TableExists, NameUsed, NoTable}
use Rattle.slon_model.specs.declared.fault.DbFault.TheVariants.{NoTransaction, BadWidth, NotOrigin, SetLocked}
use Rattle.slon_model.specs.declared.command.Crash.TheVariants.{Now}
use Rattle.slon_model.specs.declared.reply.Answer.TheVariants.{Done, Listed, Opened, Acted, Committed}
use Rattle.slon_model.specs.Rows.{Row, Change, Put, change_key}
use Rattle.slon_model.specs.Spoken.{IsName, IsTask}
use Rattle.slon_model.specs.Tasks.{Write, Task, ToFound, ToMake, ToOpen, ToWrite, ToCommit, ToAbort, ToList, ToTell}
use Rattle.slon_model.specs.Tasks.{ToCrash, ToRise, OnOne, Words, words_of}
use Rattle.slon_model.specs.Names.{find_named}
use Rattle.slon_model.specs.Config.{set_of, is_origin, is_locked}
use Rattle.slon_model.specs.Deeds.{Node, Knowledge, knowledge, view_of}
use Rattle.slon_model.specs.Place.{Place, Standing, IsRunning, IsDoubtful, standing_rows, own_count, holder}
use Rattle.slon_model.specs.Place.{seen_rows}
use Rattle.slon_model.specs.Moves.{Move, Stays, Tables, Begins, Writes, Commits, Aborts, is_beyond}
use Rattle.slon_model.specs.Deciding.{Decision, Refuses, Accepts, Overflows, refused_if, with_found, unless_held}
use Rattle.slon_model.specs.Deciding.{by_row, fits, decide_row, decide_write, decide_up, decide_down, decide_by}
use Rattle.slon_model.specs.Deciding.{limited, decide, result_of, sure, unsure, Choice, AtFault, Wavers}
use Rattle.slon_model.specs.Deciding.{result_by, settled, closed_set, closed_at, unless_closed}
use Rattle.slon_model.specs.Deciding.{status_of}
use Rattle.slon_model.specs.World.{refusal_of, reply_of}
use Rattle.slon_laws.specs.Spelled.{IsSpelled}
use Rattle.session_text.proofs.Parting.{table_lacks}
use Rattle.reply_forms.proofs.Words.{AnswerReads, Reads}
use Rattle.reply_forms.proofs.Rows.{rows_formed}
use Rattle.reply_forms.proofs.Snapshots.{kept_formed}

-- what a decision leads to has its forms, in the words of a command
abbrev pub Decides : Words → Decision → Type 0
Decides words (Refuses fault) = Reads (refusal_of words fault)
Decides words (Accepts answer move) = AnswerReads answer
Decides words Overflows = Unit {0}

refused_reads : (words : Words) (b : Bool) (fault : DbFault) (d : Decision) → Reads (refusal_of words fault) →
    Decides words d → Decides words (refused_if b fault d)
refused_reads words true fault d one other = one
refused_reads words false fault d one other = other

found_reads : {X : Type 0} (words : Words) (o : Option X) (fault : DbFault) (go : X → Decision) →
    Reads (refusal_of words fault) → ((x : X) → Decides words (go x)) → Decides words (with_found o fault go)
found_reads words None fault go one other = one
found_reads words (Some x) fault go one other = other x

held_reads : (words : Words) (xid : ℕ) (o : Option ℕ) (d : Decision) → Decides words d →
    Decides words (unless_held xid o d)
held_reads words xid None d holds = holds
held_reads words xid (Some other) d holds = refused_reads words (not (other == xid)) (Locked other) d tt holds

row_reads : (words : Words) (c : Change) (number : ℕ) (move : Move) (o : Option Row) →
    Decides words (by_row c (Accepts (Acted number) move) o)
row_reads words (Put key row) number move None = tt
row_reads words (Put key row) number move (Some old) = tt
row_reads words others number move None = tt
row_reads words others number move (Some old) = tt

closed_reads : (words : Words) (own : ℕ) (k : Knowledge) (o : Option ℕ) (d : Decision) → Decides words d →
    Decides words (unless_closed (closed_set own k o) d)
closed_reads words own k None d holds = holds
closed_reads words own k (Some set) d holds =
    elim (is_some (view_of set k)) as (λ b. Decides words (unless_closed (cond b (Some (NotOrigin set))
    (cond (is_origin own set k.config && is_locked set k.config) (Some (SetLocked set)) None)) d)) [
      | true ↦ tt
      | false ↦ elim (is_origin own set k.config && is_locked set k.config)
          as (λ b. Decides words (unless_closed (cond b (Some (SetLocked set)) None) d)) [
            | true ↦ tt
            | false ↦ holds
          ]
    ]

node_reads : (words : Words) (table : List ℕ) (n : Option Node) (d : Decision) → Decides words d →
    Decides words (unless_closed (closed_at table n) d)
node_reads words table None d holds = holds
node_reads words table (Some n) d holds =
    closed_reads words n.id (knowledge n) (set_of table (knowledge n).config) d holds

write_reads : (name : List ℕ) (w : Write) (p : Place) → IsTask (ToWrite w) →
    Decides (words_of (OnOne name (ToWrite w))) (decide_write w p)
write_reads name w p formed =
    let words = words_of (OnOne name (ToWrite w)) in
    let key = change_key w.change in
    found_reads words (find_named w.name p.opens) NoTransaction (λ xid. with_found (find_named w.table p.tables) NoTable
    (λ width. refused_if (not (fits w.change width)) (BadWidth width)
    (unless_closed (closed_at w.table p.node) (decide_row xid w p)))) formed.0 (λ xid.
    found_reads words (find_named w.table p.tables) NoTable
    (λ width. refused_if (not (fits w.change width)) (BadWidth width)
    (unless_closed (closed_at w.table p.node) (decide_row xid w p))) (table_lacks 10 w.table refl refl formed.1)
    (λ width. refused_reads words (not (fits w.change width)) (BadWidth width)
    (unless_closed (closed_at w.table p.node) (decide_row xid w p)) tt
    (node_reads words w.table p.node (decide_row xid w p)
    (held_reads words xid (holder w.table key p)
    (by_row w.change (Accepts (Acted p.numbers.next) (Writes xid w.table w.change)) (get (seen_rows xid p w.table) key))
    (row_reads words w.change p.numbers.next (Writes xid w.table w.change) (get (seen_rows xid p w.table) key))))))

status_reads : (n : Option Node) → AnswerReads (status_of n)
status_reads None = tt
status_reads (Some n) = kept_formed n

up_reads : (name : List ℕ) (task : Task) (p : Place) → IsName name → IsTask task → IsSpelled p →
    Decides (words_of (OnOne name task)) (decide_up task p)
up_reads name (ToMake table columns) p named formed spelled =
    refused_reads (words_of (OnOne name (ToMake table columns))) (is_some (find_named table p.tables)) TableExists
    (Accepts Done (Tables table columns)) formed.0 tt
up_reads name (ToOpen one) p named formed spelled =
    refused_reads (words_of (OnOne name (ToOpen one))) (is_some (find_named one p.opens)) NameUsed
    (Accepts (Opened p.xids.next) (Begins one)) formed tt
up_reads name (ToWrite w) p named formed spelled = write_reads name w p formed
up_reads name (ToCommit one) p named formed spelled =
    found_reads (words_of (OnOne name (ToCommit one))) (find_named one p.opens) NoTransaction
    (λ xid. Accepts (Committed (own_count xid p)) (Commits one xid)) formed (λ xid. tt)
up_reads name (ToAbort one) p named formed spelled =
    found_reads (words_of (OnOne name (ToAbort one))) (find_named one p.opens) NoTransaction
    (λ xid. Accepts Done (Aborts one)) formed (λ xid. tt)
up_reads name (ToList table) p named formed spelled =
    found_reads (words_of (OnOne name (ToList table))) (find_named table p.tables) NoTable
    (λ width. Accepts (Listed (entries (standing_rows p table))) Stays) (table_lacks 10 table refl refl formed)
    (λ width. rows_formed p table spelled)
up_reads name ToTell p named formed spelled = status_reads p.node
up_reads name (ToCrash Now) p named formed spelled = tt
up_reads name (ToCrash others) p named formed spelled = tt
up_reads name others p named formed spelled = named

settled_reads : (s : Standing) → AnswerReads (settled s)
settled_reads (IsDoubtful true) = tt
settled_reads (IsDoubtful false) = tt
settled_reads others = tt

down_reads : (name : List ℕ) (task : Task) (s : Standing) → IsName name →
    Decides (words_of (OnOne name task)) (decide_down task s)
down_reads name ToFound s named = tt
down_reads name ToRise s named = settled_reads s
down_reads name others s named = named

pub standing_reads : (name : List ℕ) (task : Task) (p : Place) (s : Standing) → IsName name → IsTask task →
    IsSpelled p → Decides (words_of (OnOne name task)) (decide_by s task p)
standing_reads name task p IsRunning named formed spelled = up_reads name task p named formed spelled
standing_reads name task p others named formed spelled = down_reads name task others named

pub limited_reads : (words : Words) (p : Place) (d : Decision) → Decides words d → Decides words (limited p d)
limited_reads words p (Accepts answer move) holds =
    elim (is_beyond move p) as (λ b. Decides words (cond b Overflows (Accepts answer move))) [
      | true ↦ tt
      | false ↦ holds
    ]
limited_reads words p others holds = holds

sure_reads : (words : Words) (d : Decision) → Decides words d → Reads (reply_of words (sure (result_of d)))
sure_reads words (Refuses fault) holds = holds
sure_reads words (Accepts answer move) holds = holds
sure_reads words Overflows holds = tt

unsure_reads : (words : Words) (d : Decision) → IsName words.database → Decides words d →
    Reads (reply_of words (unsure (result_of d)))
unsure_reads words (Refuses fault) named holds = holds
unsure_reads words (Accepts answer move) named holds = (named, holds)
unsure_reads words Overflows named holds = tt

-- Whatever comes of a task, the reply reads well.
pub chosen_reads : (words : Words) (task : Task) (p : Place) (choice : Choice) → IsName words.database →
    Decides words (decide task p) → Reads (reply_of words (result_by task p choice))
chosen_reads words task p (AtFault count also) named holds = named
chosen_reads words task p (Wavers stands) named holds = unsure_reads words (decide task p) named holds
chosen_reads words task p others named holds = sure_reads words (decide task p) holds
