-- Every step of a history keeps what is known of a session, and a command about a script is replied to in words that
-- have their forms.
use Rattle.std.proofs.Common.{◌≡◌, ℕ, zero, suc, Bool, true, false, cond, List, [], ◌∷◌, ◌++◌, drop, Option, Some}
use Rattle.std.proofs.Common.{None, refl, sym, subst}
use Rattle.std.specs.Str.{bytes_eq}
use Rattle.slon_model.specs.declared.reply.Reply.{Reply}
use Rattle.slon_model.specs.declared.reply.Reply.TheVariants.{Accepted}
use Rattle.slon_model.specs.Names.{Named, find_named, put_named}
use Rattle.slon_model.specs.Spoken.{IsName, IsSubject, IsSpoken}
use Rattle.slon_model.specs.Tasks.{Act, ToFound, ToStep}
use Rattle.slon_model.specs.Place.{Place, bare_place, fallen}
use Rattle.slon_model.proofs.Names.{all_behind, all_found, all_put}
use Rattle.std.specs.List.{AllByRecursion}
use Rattle.slon_model.specs.Deciding.{Fate, AllStand, Breaks, DoubtsAt, place_by}
use Rattle.slon_model.specs.Sessions.{World, Memory, Commit, start, changed, in_doubt}
use Rattle.slon_model.specs.Sessions.{felled, felled_at}
use Rattle.slon_model.specs.World.{Happening, Step, Grants, Denies, Misses, Asks, Acts, Acting, Leads, outcome}
use Rattle.slon_model.specs.World.{memory_after, spoilt, broken_at, wavering, wavering_at, doubt_reply, CanFail, MayEnd}
use Rattle.slon_model.specs.World.{reply_by, world_by}
use Rattle.slon_laws.specs.Turning.{Carries, IsWithin}
use Rattle.slon_laws.specs.Worlds.{AllPlaces, AllSpoken}
use Rattle.slon_laws.proofs.Acting.{acting_carries, acting_turns}
use Rattle.slon_laws.proofs.Keeps.{kept, carried}
use Rattle.stream_laws.specs.Facts.{IsRegular}
use Rattle.stream_laws.proofs.Steps.{regular_world}
use Rattle.reply_forms.proofs.Said.{CommitReads, PlaceReads, keeps_reading, all_read}
use Rattle.slon_laws.proofs.Memories.{remembered_kept}
use Rattle.reply_forms.proofs.Words.{Reads}
use Rattle.reply_forms.proofs.Statements.{AreNamed, AreCommits, name_found}
use Rattle.reply_forms.proofs.Scripts.{AreRunning, Known, Ends, without_running, outcome_ends}

-- ---- the scripts of a session

changed_running : (name : List ℕ) (q : Place) (w : World) → AreRunning w.memory.scripts →
    AreRunning (changed name q w).memory.scripts
changed_running name q w all =
    subst AreRunning (sym (remembered_kept name (find_named name w.places) q w.memory).scripts) all

felled_running : (o : Option (List ℕ)) (w : World) → AreRunning w.memory.scripts →
    AreRunning (felled o w).memory.scripts
felled_running None w all = all
felled_running (Some name) w all = by (find_named name w.places)
  where
    by : (o : Option Place) → AreRunning (felled_at name o w).memory.scripts
    by None = all
    by (Some p) = changed_running name (fallen p.told p) w all

broken_running : (name : List ℕ) (count : ℕ) (o : Option Place) (w : World) → AreRunning w.memory.scripts →
    AreRunning (broken_at name count o w).memory.scripts
broken_running name count None w all = all
broken_running name count (Some p) w all = changed_running name (fallen count p) w all

wavering_running : (cs : List Commit) (stands : Bool) (w : World) → AreRunning w.memory.scripts →
    AreRunning (wavering cs stands w).memory.scripts
wavering_running [] stands w all = all
wavering_running (c ∷ cs) stands w all = by (find_named c.name w.places)
  where
    by : (o : Option Place) → AreRunning (wavering_at c stands o w).memory.scripts
    by None = all
    by (Some p) = changed_running c.name (in_doubt c stands p) w all

-- a script that ends as a database fails
ended_running : (act : Act) (m : Memory) → AreRunning m.scripts → AreRunning (memory_after act m).scripts
ended_running (ToStep name) m all = without_running name m.scripts all
ended_running others m all = all

world_running : (act : Act) (fate : Fate) (w : World) → Known w → Ends (outcome act w) →
    AreRunning (world_by act fate w).memory.scripts
world_running act AllStand w known ends = felled_running (outcome act w).falls _ ends.scripts
world_running act (Breaks name count) w known ends =
    broken_running name count (find_named name w.places) (spoilt act [] w) (ended_running act w.memory known.scripts)
world_running act (DoubtsAt before stands) w known ends =
    wavering_running (drop before (outcome act w).commits) stands _ (ended_running act w.memory known.scripts)

-- ---- the names of databases

put_named_names : (name : List ℕ) (q : Place) (ps : Named Place) → AreNamed ps → AreNamed (put_named name q ps)
put_named_names name q [] all = tt
put_named_names name q (e ∷ es) all =
    elim (bytes_eq name e.0) as (λ b. AreNamed (cond b ((e.0, q) ∷ es) (e ∷ put_named name q es))) [
      | true ↦ (all.0, all.1)
      | false ↦ (all.0, put_named_names name q es all.1)
    ]

behind_names : (name : List ℕ) (q : Place) (ps : Named Place) → IsName name → AreNamed ps →
    AreNamed (ps ++ (name, q) ∷ [])
behind_names name q [] named all = (named, tt)
behind_names name q (e ∷ es) named all = (all.0, behind_names name q es named all.1)

carries_names : Carries IsWithin AreNamed
carries_names name p q ps found turned all = put_named_names name q ps all

-- ---- what is known of a session

-- the names of databases and the scripts of a session
abbrev Texts : World → Type 0
Texts w = AreNamed w.places × AreRunning w.memory.scripts

texts_step : (w v : World) (h : Happening) → Step w h v → IsSpoken h.command → Known w → Texts v
texts_step w v h (Grants name result about granted takes told is) spoken known =
    subst Texts (sym is) (behind_names name _ w.places (subst IsSubject about spoken) known.named, known.scripts)
texts_step w v h (Denies name about denied sure told is) spoken known =
    subst Texts (sym is) (known.named, known.scripts)
texts_step w v h (Misses name task about none sure told is) spoken known =
    subst Texts (sym is) (known.named, known.scripts)
texts_step w v h (Asks t) spoken known =
    subst Texts (sym t.is) (
      put_named_names t.name _ w.places known.named,
      changed_running t.name (place_by t.task t.place h.choice) w known.scripts,
    )
texts_step w v h (Acts t) spoken known = (
  acting_carries carries_names w v h t known.named,
  subst (λ u. AreRunning u.memory.scripts) (sym t.is)
      (world_running t.act t.fate w known (outcome_ends t.act w (subst IsSubject t.about spoken) known)),
)

-- the commits of a step emit what reads well
commits_read : (cs : List Commit) → AreCommits cs → AllByRecursion CommitReads cs
commits_read [] all = tt
commits_read (c ∷ cs) all = (all.0.1, commits_read cs all.1)

reads_step : (w v : World) (h : Happening) → Step w h v → IsSpoken h.command → Known w → AllPlaces PlaceReads v
reads_step w v h (Grants name result about granted takes told is) spoken known =
    subst (AllPlaces PlaceReads) (sym is)
    (all_behind PlaceReads name _ w.places (kept keeps_reading ToFound bare_place h.choice (tt, tt)) known.reads)
reads_step w v h (Denies name about denied sure told is) spoken known =
    subst (AllPlaces PlaceReads) (sym is) known.reads
reads_step w v h (Misses name task about none sure told is) spoken known =
    subst (AllPlaces PlaceReads) (sym is) known.reads
reads_step w v h (Asks t) spoken known =
    subst (AllPlaces PlaceReads) (sym t.is)
    (all_put PlaceReads t.name _ w.places (kept keeps_reading t.task t.place h.choice
    (tt, all_found PlaceReads t.name t.place w.places known.reads t.found)) known.reads)
reads_step w v h (Acts t) spoken known =
    acting_turns (carried keeps_reading) w v h t (all_read (outcome t.act w).commits w.places
    (commits_read (outcome t.act w).commits
    (outcome_ends t.act w (subst IsSubject t.about spoken) known).commits)) known.reads

known_step : (w v : World) (h : Happening) → Step w h v → IsSpoken h.command → Known w → IsRegular v → Known v
known_step w v h step spoken known regular =
    let is = texts_step w v h step spoken known in
    record { named = is.0; scripts = is.1; reads = reads_step w v h step spoken known; regular = regular }

pub known_world : (limit : ℕ) (history : List Happening) (w : World) → AllSpoken history →
    Leads (start limit) history w → Known w
known_world limit [] w spoken is = record {
  named = subst (λ u. AreNamed u.places) (sym is) tt;
  scripts = subst (λ u. AreRunning u.memory.scripts) (sym is) tt;
  reads = subst (AllPlaces PlaceReads) (sym is) tt;
  regular = regular_world limit [] w is;
}
known_world limit (h ∷ hs) w spoken leads =
    known_step leads.0 w h leads.2 spoken.0 (known_world limit hs leads.0 spoken.1 leads.1)
    (regular_world limit (h ∷ hs) w leads)

-- ---- the reply to a command about a script

doubt_reads : (n : ℕ) (cs : List Commit) (reply : Reply) → AreCommits cs → Reads reply →
    Reads (doubt_reply (drop n cs) reply)
doubt_reads zero [] reply named reads = reads
doubt_reads zero (c ∷ cs) (Accepted answer) named reads = (named.0.0, reads)
doubt_reads zero (c ∷ cs) others named reads = reads
doubt_reads (suc n) [] reply named reads = reads
doubt_reads (suc n) (c ∷ cs) reply named reads = doubt_reads n cs reply named.1 reads

-- a database that fails is one of the session
failing_named : (name : List ℕ) (count : ℕ) (o : Option Place) (ps : Named Place) → find_named name ps ≡ o →
    CanFail count o → AreNamed ps → IsName name
failing_named name count None ps found fails named = absurd fails
failing_named name count (Some p) ps found fails named = name_found name p ps named found

fate_reads : (act : Act) (fate : Fate) (w : World) → MayEnd act fate w → Known w → Ends (outcome act w) →
    Reads (reply_by act fate w)
fate_reads act AllStand w may known ends = ends.reply
fate_reads act (Breaks name count) w may known ends =
    failing_named name count (find_named name w.places) w.places refl may.1 known.named
fate_reads act (DoubtsAt before stands) w may known ends =
    doubt_reads before (outcome act w).commits (outcome act w).reply ends.commits ends.reply

pub acting_reads : (w v : World) (h : Happening) → Acting w h v → IsSpoken h.command → Known w → Reads h.reply
acting_reads w v h t spoken known =
    subst Reads (sym t.told)
    (fate_reads t.act t.fate w t.may known (outcome_ends t.act w (subst IsSubject t.about spoken) known))
