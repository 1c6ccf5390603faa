-- How the node of a database leads a set, and which of those claims is the best, by the code and by the rules.
use Rattle.std.proofs.Common.{◌≡◌, ◌∙◌, ◌==◌, ◌&&◌, ◌||◌, ℕ, Bool, true, false, cond, List, Option}
use Rattle.std.proofs.Common.{Some, None, Ok, refl, sym, ap, subst}
use Rattle.std.specs.Prelude.{nat_lt, unwrap_or}
use Rattle.std.specs.List.{slice_get}
use Rattle.std.specs.Option.{option_map}
use Rattle.std.proofs.lemmas.Bool.{eqb-true}
use Rattle.node_rows.specs.declared.rows.SetRow.{SetRow}
use Rattle.slon_model.specs.Names.{find_named}
use Rattle.slon_model.specs.Config.{leads_row, set_row}
use Rattle.slon_model.specs.Deeds.{Node, knowledge}
use Rattle.slon_model.specs.Place.{Place, is_running}
use Rattle.slon_model.specs.Reaching.{seat_on_line, seat_at_place, is_on_line, claims, era_at, beats, better}
use Rattle.slon_model.specs.Sessions.{World, Running, Seat, seat}
use Rattle.node_state.specs.Known.{identity_of}
use Rattle.node_store.specs.declared.looking.Reign.{Reign}
use Rattle.node_store.specs.Looking.{OfConfig, reign_of}
use Rattle.app_store.specs.Base.{Base}
use Rattle.app_store.specs.Fits.{Ready}
use Rattle.app_store.specs.Parts.{LooksUp}
use Rattle.slonik_exec.specs.declared.owning.Claim.{Claim}
use Rattle.slonik_exec.specs.Owned.{reign_of_node, reign_at, IsLed, is_before, better_claim}
use Rattle.slonik_exec.proofs.Seats.{same_up, known_up}

-- ---- one database

-- what a node answers that is asked who leads a set
abbrev pub SaysReign : ℕ → Place → Option Reign → Type 0
SaysReign set = OfConfig (λ c found. found ≡ option_map reign_of (set_row set c))

-- what a node says of the row of a set
led_row : (own : ℕ) (o : Option SetRow) → reign_of_node own (option_map reign_of o)
    ≡ cond (leads_row own o) (Some (record { origin = own; era = unwrap_or (option_map (λ row. row.era) o) 0 })) None
led_row own None = refl
led_row own (Some row) = by (row.origin == own) refl
  where
    by : (b : Bool) → (row.origin == own) ≡ b →
        cond b (Some (reign_of row)) None ≡ cond b (Some (record { origin = own; era = row.era })) None
    by true is = ap (λ o. Some (record { origin = o; era = row.era })) (eqb-true row.origin own is)
    by false is = refl

-- A database that is up, and this node by its memory.
pub record IsNodeOf (b : Base) (own : ℕ) : Type 0 where
  pub up : b.memory.up ≡ true
  pub own_is : option_map (λ i. i.id) b.memory.identity ≡ Some own

pub led_at : {p : Place} {old new : Base} {own : ℕ} {found : Option Reign} (set : ℕ) → Ready p old →
    IsNodeOf old own → LooksUp (SaysReign set) p (Ok found) new →
    LooksUp (IsLed set) p (Ok (reign_of_node own found)) new
led_at {p} {old} {own = own} {found} set ready node looks = (λ name. by name p.node refl, looks.1)
  where
    running : is_running p.standing ≡ true
    running = sym (same_up p old ready.fits) ∙ node.up

    by : (name : List ℕ) (o : Option Node) → p.node ≡ o →
        reign_of_node own found ≡ reign_at set (seat_at_place name p o)
    by name None none =
        let known = (known_up p old ready.fits running).identity_is ∙ ap identity_of none in
        let bad : None ≡ Some own = sym (ap (option_map (λ i. i.id)) known) ∙ node.own_is in
        absurd cc
    by name (Some n) is =
        let known = (known_up p old ready.fits running).identity_is ∙ ap identity_of is in
        let both : Some n.id ≡ Some own = sym (ap (option_map (λ i. i.id)) known) ∙ node.own_is in
        let same : own ≡ n.id = cc in
        ap (reign_of_node own) (looks.0 n is)
        ∙ ap (λ id. reign_of_node id (option_map reign_of (set_row set (knowledge n).config))) same
        ∙ led_row n.id (set_row set (knowledge n).config)
        ∙ sym (ap (λ b. reign_at set (cond b (Some (seat name p n)) None)) running)

-- ---- the best claim

-- The seat of a claim, by the rules: its database stands at the index.
pub record Leader (set : ℕ) (w : World) (c : Claim) (s : Seat) : Type 0 where
  pub place : Place
  pub node : Node
  pub at : slice_get w.places c.at ≡ Some (s.name, place)
  pub found : find_named s.name w.places ≡ Some place
  pub running : is_running place.standing ≡ true
  pub is : place.node ≡ Some node
  pub seat_is : s ≡ seat s.name place node
  pub reign : reign_at set (Some s) ≡ Some c.reign

-- the code and the rules hold the same to be the best
pub data Leads (set : ℕ) (w : World) : Option Claim → Option Seat → Type 0 where
  NoLeader : Leads set w None None
  OneLeader : (c : Claim) (s : Seat) → Leader set w c s → Leads set w (Some c) (Some s)

-- how the node of a seat leads a set, if it does
abbrev reign_in : ℕ → Seat → Reign
reign_in set s = record { origin = s.node.id; era = era_at set s }

claims_so : (set : ℕ) (s : Seat) (r : Reign) (b : Bool) → cond b (Some (reign_in set s)) None ≡ Some r →
    reign_in set s ≡ r
claims_so set s r true same = cc
claims_so set s r false same = absurd cc

-- which of two comes first
same_order : {set : ℕ} {w : World} {best : Option Claim} {seated : Option Seat} (s : Seat) →
    Leads set w best seated → is_before (reign_in set s) best ≡ beats set s seated
same_order s NoLeader = refl
same_order {set} s (OneLeader c b leader) =
    ap (λ (r : Reign). nat_lt r.era (era_at set s) || (era_at set s == r.era && nat_lt s.node.id r.origin))
    (sym (claims_so set b c.reign (claims set b) leader.reign))

-- A place of the rules, at its index.
pub record Candidate (w : World) (i : ℕ) : Type 0 where
  pub name : List ℕ
  pub place : Place
  pub at : slice_get w.places i ≡ Some (name, place)
  pub found : find_named name w.places ≡ Some place

-- it has no seat, or one on a NODE line
seat_cases : (run : Running) (name : List ℕ) (place : Place) (P : Option Seat → Type 0) → P None →
    ((n : Node) → place.node ≡ Some n → is_running place.standing ≡ true → P (Some (seat name place n))) →
    P (seat_on_line run (name, place))
seat_cases run name place P none some = by (is_on_line run.lines name) place.node refl
  where
    at : (n : Node) → place.node ≡ Some n → (u : Bool) → is_running place.standing ≡ u →
        P (cond u (Some (seat name place n)) None)
    at n is true running = some n is running
    at n is false running = none

    by : (b : Bool) (o : Option Node) → place.node ≡ o → P (cond b (seat_at_place name place o) None)
    by false o is = none
    by true None is = none
    by true (Some n) is = at n is (is_running place.standing) refl

-- the better one of two
picked : {set : ℕ} {w : World} {best : Option Claim} {seated : Option Seat} (c : Claim) (s : Seat) →
    Leader set w c s → Leads set w best seated → (b : Bool) →
    Leads set w (cond b (Some c) best) (cond b (Some s) seated)
picked c s leader leads true = OneLeader c s leader
picked c s leader leads false = leads

-- a seat on a NODE line, which claims the set or not
next_claim : {set : ℕ} {w : World} {i : ℕ} {best : Option Claim} {seated : Option Seat} (c : Candidate w i)
    (n : Node) → Leads set w best seated → (c.place.node ≡ Some n) × (is_running c.place.standing ≡ true) → (b : Bool) →
    claims set (seat c.name c.place n) ≡ b →
    Leads set w (better_claim best (cond b (Some (reign_in set (seat c.name c.place n))) None) i)
    (cond (b && beats set (seat c.name c.place n) seated) (Some (seat c.name c.place n)) seated)
next_claim c n leads up false other = leads
next_claim {set} {w} {i} {best} {seated} c n leads (is, running) true leading =
    let s = seat c.name c.place n in
    let r = reign_in set s in
    let claim : Claim = record { reign = r; at = i } in
    subst (λ b. Leads set w (cond (is_before r best) (Some claim) best) (cond b (Some s) seated))
    (same_order s leads)
    (picked claim s (record {
      place = c.place;
      node = n;
      at = c.at;
      found = c.found;
      running = running;
      is = is;
      seat_is = refl;
      reign = ap (λ b. cond b (Some r) None) leading;
    }) leads (is_before r best))

-- one more place
pub next_leads : {set : ℕ} {w : World} {i : ℕ} {best : Option Claim} {found : Option Reign} {seated : Option Seat}
    (run : Running) (c : Candidate w i) → Leads set w best seated →
    found ≡ reign_at set (seat_on_line run (c.name, c.place)) →
    Leads set w (better_claim best found i) (better set seated (seat_on_line run (c.name, c.place)))
next_leads {set} {w} {i} {best} {found} {seated} run c leads =
    seat_cases run c.name c.place
    (λ o. found ≡ reign_at set o → Leads set w (better_claim best found i) (better set seated o))
    (λ none. subst (λ f. Leads set w (better_claim best f i) seated) (sym none) leads)
    (λ n is running same. subst (λ f. Leads set w (better_claim best f i)
    (better set seated (Some (seat c.name c.place n)))) (sym same)
    (next_claim c n leads (is, running) (claims set (seat c.name c.place n)) refl))
