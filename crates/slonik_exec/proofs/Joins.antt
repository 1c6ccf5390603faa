-- What a join comes to by the rules of all databases, by what came of the two.
use Rattle.std.proofs.Common.{◌≡◌, ◌∙◌, ℕ, ◌+◌, Bool, true, false, cond, List, [], ◌∷◌, Option, Some, None, Result}
use Rattle.std.proofs.Common.{Ok, Err, refl, sym, ap, subst, arith}
use Rattle.std.specs.Option.{option_map}
use Rattle.std.specs.Str.{bytes_eq}
use Rattle.slon_model.specs.declared.fault.DbFault.{DbFault}
use Rattle.slon_model.specs.declared.reply.Answer.TheVariants.{Emitted}
use Rattle.slon_model.specs.declared.reply.Reply.{Reply}
use Rattle.slon_model.specs.Names.{Named, find_named, put_named}
use Rattle.slon_model.specs.Deeds.{knowledge, progress}
use Rattle.slon_model.specs.Place.{Place, is_running, fallen}
use Rattle.slon_model.specs.Moves.{is_last_stamp}
use Rattle.slon_model.specs.Sessions.{World, Stated, Commit, committing, in_doubt, stood, stood_at, stand, felled}
use Rattle.slon_model.specs.Sessions.{Excess, felled_at, first_beyond, first_late, beyond_at, has_late, excess_by}
use Rattle.slon_model.specs.Sessions.{excess_of}
use Rattle.slon_model.specs.World.{CanFail, refusal_of, wavering, wavering_at, broken_at}
use Rattle.slon_model.proofs.Names.{bytes_turned_false, put_other}
use Rattle.node_change.specs.declared.side.Side.{Side}
use Rattle.node_change.specs.declared.side.Side.TheVariants.{From, To}
use Rattle.app_store.specs.Base.{Base}
use Rattle.app_store.specs.Parts.{Fell}
use Rattle.node_store.specs.Acting.{own_id}
use Rattle.node_store.specs.declared.joining.Joined.{Joined}
use Rattle.node_store.specs.declared.joining.Fell.{Fell as FellOf}
use Rattle.node_store.specs.Joining.{Pair, Joiner, Stage, both_of, IsReady, JoinsAs, BothStood, FirstWavered}
use Rattle.node_store.specs.Joining.{SecondWavered, OneBurst, OneBroke, FitBoth, FellOne, BrokeOne, excess_both}
use Rattle.slonik_exec.specs.Databases.{FitsAll}
use Rattle.slonik_exec.specs.Executing.{Comes, Stands, Bursts, Breaks, Wavers}
use Rattle.slonik_exec.specs.Stored.{PairNames, JoinsTold, join_reply, name_at}
use Rattle.slonik_exec.proofs.Lists.{fits_put}
use Rattle.slonik_exec.proofs.Telling.{words_at}
use Rattle.slonik_exec.proofs.Asking.{one_place}
use Rattle.slonik_exec.proofs.Hearing.{put_itself}
use Rattle.slonik_exec.proofs.Couples.{put_both}

-- ---- two commits

-- Commits of two databases under two names.
pub record TwoCommits (places : Named Place) (c d : Commit) (p q : Place) : Type 0 where
  pub first : find_named c.name places ≡ Some p
  pub second : find_named d.name places ≡ Some q
  pub apart : bytes_eq c.name d.name ≡ false

-- the second one is found where the first one was changed
found_behind_first : (places : Named Place) (c d : Commit) (p q x : Place) → TwoCommits places c d p q →
    find_named d.name (put_named c.name x places) ≡ Some q
found_behind_first places c d p q x two =
    put_other d.name c.name x places (bytes_turned_false c.name d.name two.apart) ∙ two.second

stood_two : (places : Named Place) (c d : Commit) (p q : Place) → TwoCommits places c d p q →
    stood (c ∷ d ∷ []) places ≡ put_named d.name (committing d q) (put_named c.name (committing c p) places)
stood_two places c d p q two =
    let mid = put_named c.name (committing c p) places in
    ap (λ o. stood (d ∷ []) (stood_at c o places)) two.first
    ∙ ap (λ o. stood_at d o mid) (found_behind_first places c d p q (committing c p) two)

beyond_two : (places : Named Place) (c d : Commit) (p q : Place) → TwoCommits places c d p q →
    first_beyond (c ∷ d ∷ []) places
    ≡ cond (is_last_stamp p) (Some c.name) (cond (is_last_stamp q) (Some d.name) None)
beyond_two places c d p q two =
    let mid = put_named c.name (committing c p) places in
    ap (λ o. beyond_at c o (first_beyond (d ∷ []) (stood_at c o places))) two.first
    ∙ ap (λ o. cond (is_last_stamp p) (Some c.name) (beyond_at d o (first_beyond [] (stood_at d o mid))))
    (found_behind_first places c d p q (committing c p) two)

excess_two : (places : Named Place) (c d : Commit) (p q : Place) → TwoCommits places c d p q →
    excess_of (c ∷ d ∷ []) places
    ≡ excess_by (cond (is_last_stamp p) (Some c.name) (cond (is_last_stamp q) (Some d.name) None))
    (cond (has_late c.deeds) (Some c.name) (cond (has_late d.deeds) (Some d.name) None))
excess_two places c d p q two =
    ap (λ o. excess_by o (first_late (c ∷ d ∷ []))) (beyond_two places c d p q two)

-- ---- a join

-- the two databases by the rules and by the code
pub record Scene (w : World) (bases : Named Base) (s : Stage) : Type 0 where
  pub fits : FitsAll w.places bases
  pub from : find_named s.from_name w.places ≡ Some s.from
  pub to : find_named s.to_name w.places ≡ Some s.to
  pub apart : bytes_eq s.from_name s.to_name ≡ false
  pub from_up : is_running s.from.standing ≡ true
  pub to_up : is_running s.to.standing ≡ true

abbrev pub names_of : Stage → PairNames
names_of s = record { from = s.from_name; to = s.to_name }

abbrev pub number_of : Stage → ℕ
number_of s = progress s.node.id (knowledge s.node) + 1

abbrev pub joining_stated : Joiner → Stage → Stated
joining_stated j s =
    let both = both_of j s in
    record { answer = Emitted s.node.id (number_of s); commits = both.event ∷ both.becomes ∷ [] }

two_commits : (w : World) (bases : Named Base) (j : Joiner) (s : Stage) → Scene w bases s →
    TwoCommits w.places (both_of j s).event (both_of j s).becomes s.from s.to
two_commits w bases j s scene = record { first = scene.from; second = scene.to; apart = scene.apart }

-- both places, behind a change of both bases
fit_two : (w : World) (bases : Named Base) (s : Stage) (new : Pair) (x y : Place) → Scene w bases s →
    FitBoth x y new →
    FitsAll (put_named s.to_name y (put_named s.from_name x w.places)) (put_both (names_of s) new bases)
fit_two w bases s new x y scene fit =
    fits_put s.to_name y new.to (put_named s.from_name x w.places) (put_named s.from_name new.from bases)
    (fits_put s.from_name x new.from w.places bases scene.fits fit.from) fit.to

-- the first place alone changes
fit_first : (w : World) (bases : Named Base) (s : Stage) (new : Pair) (x : Place) → Scene w bases s →
    FitBoth x s.to new → FitsAll (put_named s.from_name x w.places) (put_both (names_of s) new bases)
fit_first w bases s new x scene fit =
    subst (λ ps. FitsAll ps (put_both (names_of s) new bases))
    (put_itself s.to_name s.to (put_named s.from_name x w.places)
    (put_other s.to_name s.from_name x w.places (bytes_turned_false s.from_name s.to_name scene.apart) ∙ scene.to))
    (fit_two w bases s new x s.to scene fit)

-- the second one alone changes
fit_second : (w : World) (bases : Named Base) (s : Stage) (new : Pair) (y : Place) → Scene w bases s →
    FitBoth s.from y new → FitsAll (put_named s.to_name y w.places) (put_both (names_of s) new bases)
fit_second w bases s new y scene fit =
    subst (λ ps. FitsAll (put_named s.to_name y ps) (put_both (names_of s) new bases))
    (put_itself s.from_name s.from w.places scene.from)
    (fit_two w bases s new s.from y scene fit)

-- ---- a number that is too big

-- by the database that goes down for it
abbrev excess_for : PairNames → Side × ℕ → Excess
excess_for names found = record { name = name_at found.0 names; space = found.1 }

three_numbers : (names : PairNames) (from to late : Bool) →
    excess_by (cond from (Some names.from) (cond to (Some names.to) None)) (cond late (Some names.from) None)
    ≡ option_map (excess_for names)
    (cond from (Some (From, 1)) (cond to (Some (To, 1)) (cond late (Some (From, 10)) None)))
three_numbers names true to late = refl
three_numbers names false true late = refl
three_numbers names false false true = refl
three_numbers names false false false = refl

excess_joined : (w : World) (bases : Named Base) (j : Joiner) (s : Stage) (found : Option (Side × ℕ)) →
    Scene w bases s → excess_both (both_of j s) ≡ found →
    excess_of (joining_stated j s).commits w.places ≡ option_map (excess_for (names_of s)) found
excess_joined w bases j s found scene is =
    let both = both_of j s in
    excess_two w.places both.event both.becomes s.from s.to (two_commits w bases j s scene)
    ∙ three_numbers (names_of s) (is_last_stamp s.from) (is_last_stamp s.to) (has_late both.event.deeds)
    ∙ ap (option_map (excess_for (names_of s))) is

-- ---- what came of it

comes_stood : (w : World) (bases : Named Base) (j : Joiner) (s : Stage) (new : Pair) → Scene w bases s →
    FitBoth (committing (both_of j s).event s.from) (committing (both_of j s).becomes s.to) new →
    FitsAll (stood (joining_stated j s).commits w.places) (put_both (names_of s) new bases)
comes_stood w bases j s new scene fit =
    let both = both_of j s in
    subst (λ ps. FitsAll ps (put_both (names_of s) new bases))
    (sym (stood_two w.places both.event both.becomes s.from s.to (two_commits w bases j s scene)))
    (fit_two w bases s new (committing both.event s.from) (committing both.becomes s.to) scene fit)

-- the event is in doubt
fits_first_wavers : (w : World) (bases : Named Base) (j : Joiner) (s : Stage) (new : Pair) (stands : Bool) →
    Scene w bases s × FitBoth (in_doubt (both_of j s).event stands s.from) s.to new →
    FitsAll (wavering (joining_stated j s).commits stands (stand [] w)).places (put_both (names_of s) new bases)
fits_first_wavers w bases j s new stands (scene, fit) =
    let event = (both_of j s).event in
    subst (λ o. FitsAll (wavering_at event stands o w).places (put_both (names_of s) new bases)) (sym scene.from)
    (fit_first w bases s new (in_doubt event stands s.from) scene fit)

-- it stands, and the new node is in doubt
fits_second_wavers : (w : World) (bases : Named Base) (j : Joiner) (s : Stage) (new : Pair) (stands : Bool) →
    Scene w bases s
    × FitBoth (committing (both_of j s).event s.from) (in_doubt (both_of j s).becomes stands s.to) new →
    FitsAll (wavering ((both_of j s).becomes ∷ []) stands (stand ((both_of j s).event ∷ []) w)).places
    (put_both (names_of s) new bases)
fits_second_wavers w bases j s new stands (scene, fit) =
    let both = both_of j s in
    let mid = put_named s.from_name (committing both.event s.from) w.places in
    let found = found_behind_first w.places both.event both.becomes s.from s.to (committing both.event s.from)
    (two_commits w bases j s scene) in
    subst (λ o. FitsAll (wavering (both.becomes ∷ []) stands
    (record { limit = w.limit; places = stood_at both.event o w.places; memory = w.memory })).places
    (put_both (names_of s) new bases))
    (sym scene.from)
    (subst (λ o. FitsAll (wavering_at both.becomes stands o
    (record { limit = w.limit; places = mid; memory = w.memory })).places (put_both (names_of s) new bases))
    (sym found)
    (fit_two w bases s new (committing both.event s.from) (in_doubt both.becomes stands s.to) scene fit))

-- a number would be too big
fits_felled : (w : World) (name : List ℕ) (p : Place) (news : Named Base) → find_named name w.places ≡ Some p →
    FitsAll (put_named name (fallen p.told p) w.places) news → FitsAll (felled (Some name) w).places news
fits_felled w name p news found fits = subst (λ o. FitsAll (felled_at name o w).places news) (sym found) fits

fell_by : (side : Side) (w : World) (bases : Named Base) (j : Joiner) (s : Stage) (new : Pair) → Scene w bases s →
    FellOne side (both_of j s) new →
    FitsAll (felled (Some (name_at side (names_of s))) w).places (put_both (names_of s) new bases)
fell_by From w bases j s new scene fell =
    fits_felled w s.from_name s.from (put_both (names_of s) new bases) scene.from
    (fit_first w bases s new (fallen s.from.told s.from) scene fell)
fell_by To w bases j s new scene fell =
    fits_felled w s.to_name s.to (put_both (names_of s) new bases) scene.to
    (fit_second w bases s new (fallen s.to.told s.to) scene fell)

-- the store of one failed
fits_broken : (w : World) (name : List ℕ) (count : ℕ) (p : Place) (news : Named Base) →
    find_named name w.places ≡ Some p → FitsAll (put_named name (fallen count p) w.places) news →
    FitsAll (broken_at name count (find_named name w.places) w).places news
fits_broken w name count p news found fits =
    subst (λ o. FitsAll (broken_at name count o w).places news) (sym found) fits

breaks_by : (side : Side) (fault : DbFault) (w : World) (bases : Named Base) (j : Joiner) (s : Stage)
    (new : Pair) → Scene w bases s × BrokeOne side (both_of j s) fault new →
    Comes w (Ok (joining_stated j s))
    (join_reply s.node.id (names_of s) (Err (record { side = side; fault = fault })))
    (put_both (names_of s) new bases)
breaks_by From fault w bases j s new (scene, (Fell count stands is rose fits, stays)) =
    Breaks s.from_name count (ap (refusal_of (words_at s.from_name)) is)
    (subst (CanFail count) (sym scene.from) (scene.from_up, rose))
    (fits_broken w s.from_name count s.from (put_both (names_of s) new bases) scene.from
    (fit_first w bases s new (fallen count s.from) scene
    (record { from = one_place s.from count stands new.from fits; to = stays })))
breaks_by To fault w bases j s new (scene, (stays, Fell count stands is rose fits)) =
    Breaks s.to_name count (ap (refusal_of (words_at s.to_name)) is)
    (subst (CanFail count) (sym scene.to) (scene.to_up, rose))
    (fits_broken w s.to_name count s.to (put_both (names_of s) new bases) scene.to
    (fit_second w bases s new (fallen count s.to) scene
    (record { from = stays; to = one_place s.to count stands new.to fits })))

comes_by : (w : World) (bases : Named Base) (j : Joiner) (s : Stage) (new : Pair)
    (r : Result (ℕ × Joined) FellOf) → Scene w bases s × JoinsAs (both_of j s) (number_of s) r new →
    Comes w (Ok (joining_stated j s)) (join_reply s.node.id (names_of s) r) (put_both (names_of s) new bases)
comes_by w bases j s new r (scene, BothStood is room fit) =
    Stands (joining_stated j s) refl (excess_joined w bases j s None scene room)
    (ap (join_reply s.node.id (names_of s)) is) (comes_stood w bases j s new scene fit)
comes_by w bases j s new r (scene, FirstWavered stands is room fit) =
    Wavers (joining_stated j s) 0 stands refl (excess_joined w bases j s None scene room) (omega arith)
    (ap (join_reply s.node.id (names_of s)) is)
    (fits_first_wavers w bases j s new stands (scene, fit))
comes_by w bases j s new r (scene, SecondWavered stands is room fit) =
    Wavers (joining_stated j s) 1 stands refl (excess_joined w bases j s None scene room) (omega arith)
    (ap (join_reply s.node.id (names_of s)) is)
    (fits_second_wavers w bases j s new stands (scene, fit))
comes_by w bases j s new r (scene, OneBurst side space is full fell) =
    Bursts (joining_stated j s) (excess_for (names_of s) (side, space)) refl
    (excess_joined w bases j s (Some (side, space)) scene full) (ap (join_reply s.node.id (names_of s)) is)
    (fell_by side w bases j s new scene fell)
comes_by w bases j s new r (scene, OneBroke side fault is broke) =
    subst (λ x. Comes w (Ok (joining_stated j s)) (join_reply s.node.id (names_of s) x)
    (put_both (names_of s) new bases)) (sym is)
    (breaks_by side fault w bases j s new (scene, broke))

-- so by what was told of it
pub comes_joined : (w : World) (bases : Named Base) (j : Joiner) (s : Stage) (old new : Pair) (reply : Reply) →
    Scene w bases s × IsReady j s old × (own_id old.from.memory.identity ≡ s.node.id)
    × JoinsTold j (record { names = names_of s; bases = old }) reply new →
    Comes w (Ok (joining_stated j s)) reply (put_both (names_of s) new bases)
comes_joined w bases j s old new reply (scene, ready, own, told) =
    subst (λ r. Comes w (Ok (joining_stated j s)) r (put_both (names_of s) new bases))
    (sym (told.told ∙ ap (λ n. join_reply n (names_of s) told.result) own))
    (comes_by w bases j s new told.result (scene, told.joins s ready told.full))
