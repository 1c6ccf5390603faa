-- What a node finds of what it is to bring.
use Rattle.std.proofs.Common.{◌≡◌, ◌∙◌, ℕ, Bool, true, false, List, [], ◌∷◌, Option, Some, None, Result}
use Rattle.std.proofs.Common.{nat_lt, refl, sym, ap, subst}
use Rattle.std.specs.Prelude.{◌==◌, ◌&&◌, if◌then◌else◌, not, is_none, unwrap_or, option_map}
use Rattle.node_rows.specs.declared.rows.SetRow.{SetRow}
use Rattle.slon_model.specs.declared.reply.Refusal.{Refusal}
use Rattle.slon_model.specs.declared.reply.Refusal.TheVariants as refused
use Rattle.slon_model.specs.Names.{find_named}
use Rattle.slon_model.specs.Config.{Config, forwards, is_known, leads_row, set_row}
use Rattle.slon_model.specs.Events.{Event}
use Rattle.slon_model.specs.Deeds.{Node, knowledge, progress, view_of}
use Rattle.slon_model.specs.Following as following
use Rattle.slon_model.specs.Following.{FoundCopy, FoundNothing, rows_in}
use Rattle.slon_model.specs.Place.{Place, taken}
use Rattle.slon_model.specs.Sessions.{bind, checked, first_refusal, seat, unless_refused, when}
use Rattle.slon_model.specs.Snapshots.{Snapshot}
use Rattle.slon_model.specs.Views.{View, first_view}
use Rattle.slon_model.specs.Working as rules
use Rattle.slon_model.specs.Working.{copied, copy_checks, forwarded, given_at, rows_at, width_of}
use Rattle.change_apply.specs.Copied.{AreListed}
use Rattle.txn_core.specs.declared.snapshot.Snapshot as declared
use Rattle.txn_core.specs.Snapshots.{seen_as}
use Rattle.event_store.specs.Kept.{seen_view}
use Rattle.node_store.specs.declared.bringing.SetCopy.{SetCopy}
use Rattle.node_store.specs.declared.looking.Reign.{Reign}
use Rattle.node_store.specs.Bringing.{rows_listed}
use Rattle.node_store.specs.Looking.{reign_of}
use Rattle.remote_worker.specs.declared.fetching.Found.{Found}
use Rattle.remote_worker.specs.declared.fetching.Found.TheVariants as found
use Rattle.remote_worker.specs.declared.loading.Load.TheVariants.{Copy}
use Rattle.remote_worker.specs.declared.worker.Fetched.{Fetched}
use Rattle.remote_worker.specs.declared.worker.Worker.{Worker}
use Rattle.remote_worker.specs.Fetching.{Asked, Brings, Copies, Fetches, IsForwarded, IsFound, IsGiven, IsLed}
use Rattle.remote_worker.specs.Fetching.{TableChecked, TablesChecked, leads_by, leads_in, provider_checks, seat_on}
use Rattle.remote_worker.specs.Fetching.{seen_of}
use Rattle.remote_worker.specs.Keeping.{names_to}
use Rattle.remote_worker.specs.Loading.{HasFound}
use Rattle.remote_worker.specs.Working.{seen_copying}

-- ---- who leads the set

pub led_is : (c : rules.Copying) (k : Config) (reign : Option Reign) →
    reign ≡ option_map reign_of (set_row c.set_id k) → IsLed c k (leads_by c reign)
led_is c k reign is = subst (λ o. IsLed c k (leads_by c o)) (sym is) (by (set_row c.set_id k) refl)
  where
    leads_of : Option SetRow → Bool
    leads_of o = leads_row c.provider o && (unwrap_or (option_map (λ row. row.era) o) 0 == c.era)

    by : (o : Option SetRow) → set_row c.set_id k ≡ o → IsLed c k (leads_by c (option_map reign_of o))
    by None none = ap leads_of (sym none)
    by (Some row) some = ap leads_of (sym some)

-- ---- checks in turn

pub only_first : (o : Option Refusal) → first_refusal (o ∷ []) ≡ o
only_first None = refl
only_first (Some refusal) = refl

-- the first two refuse nothing
pub pass_two : (a b : Option Refusal) (more : List (Option Refusal)) → first_refusal (a ∷ b ∷ []) ≡ None →
    first_refusal (a ∷ b ∷ more) ≡ first_refusal more
pass_two None None more none = refl
pass_two None (Some r) more none = absurd cc
pass_two (Some r) b more none = absurd cc

-- one of the first two refuses
pub stop_two : (a b : Option Refusal) (more : List (Option Refusal)) (r : Refusal) →
    first_refusal (a ∷ b ∷ []) ≡ Some r → first_refusal (a ∷ b ∷ more) ≡ Some r
stop_two None None more r some = absurd cc
stop_two None (Some s) more r some = some
stop_two (Some s) b more r some = some

-- ---- one table

-- what is refused of a table of this width here and there
abbrev pub refused_at : List ℕ → Option ℕ → Option ℕ → Option Refusal
refused_at name here there =
    first_refusal (when (is_none here) (refused.NoTable name)
    ∷ when (not (unwrap_or here 0 == unwrap_or there 0)) (refused.BadWidth (unwrap_or here 0)) ∷ [])

-- the node has no such table
pub lacks_table : (name : List ℕ) (p q : Place) → None ≡ find_named name p.tables →
    TableChecked name p q (Some (refused.NoTable name))
lacks_table name p q none = ap (λ o. refused_at name o (find_named name q.tables)) (sym none)

-- it has it
pub has_width : (name : List ℕ) (p q : Place) (here : ℕ) (there : Option ℕ) →
    Some here ≡ find_named name p.tables → there ≡ find_named name q.tables →
    TableChecked name p q (when (not (here == unwrap_or there 0)) (refused.BadWidth here))
has_width name p q here there some is =
    ap (λ o. refused_at name o (find_named name q.tables)) (sym some)
    ∙ ap (λ o. refused_at name (Some here) o) (sym is)
    ∙ only_first (when (not (here == unwrap_or there 0)) (refused.BadWidth here))

-- ---- all of them

-- what is refused of them is what is refused of those that are left
abbrev pub LeavesOf : List (List ℕ) → List (List ℕ) → Place → Place → Type 0
LeavesOf names more p q = first_refusal (copy_checks p q names) ≡ first_refusal (copy_checks p q more)

pub next_table : (names more : List (List ℕ)) (name : List ℕ) (p q : Place) (o : Option Refusal) → o ≡ None →
    LeavesOf names (name ∷ more) p q × TableChecked name p q o → LeavesOf names more p q
next_table names more name p q o none (before, is) =
    before ∙ pass_two (when (is_none (find_named name p.tables)) (refused.NoTable name))
    (when (not (width_of name p == width_of name q)) (refused.BadWidth (width_of name p))) (copy_checks p q more)
    (is ∙ none)

pub bad_table : {r : Refusal} (names more : List (List ℕ)) (name : List ℕ) (p q : Place) (o : Option Refusal) →
    o ≡ Some r → LeavesOf names (name ∷ more) p q × TableChecked name p q o → TablesChecked names p q (Some r)
bad_table {r} names more name p q o some (before, is) =
    before ∙ stop_two (when (is_none (find_named name p.tables)) (refused.NoTable name))
    (when (not (width_of name p == width_of name q)) (refused.BadWidth (width_of name p))) (copy_checks p q more) r
    (is ∙ some)

-- ---- the snapshot that a provider gives

-- it leads the set, and gives its present one
pub given_led : (c : rules.Copying) (q : Place) (seen : declared.Snapshot) → seen_as seen ≡ taken q →
    ((k : Node) → q.node ≡ Some k → IsLed c (knowledge k).config true) → IsGiven c q (Some seen)
given_led c q seen is led k there id =
    ap (λ x. Some x) is
    ∙ sym (ap (λ b. if b then Some (taken q) else forwarded c (seat_on q k) (view_of c.set_id (knowledge k)))
    (ap (λ i. leads_in c i (knowledge k).config) id ∙ sym (led k there)))

-- it does not, and gives what it gives as one that forwards it
pub given_other : (c : rules.Copying) (q : Place) (found : Option declared.Snapshot) →
    ((k : Node) → q.node ≡ Some k → IsLed c (knowledge k).config false) → IsForwarded c q found → IsGiven c q found
given_other c q found led is k there id =
    is k there id
    ∙ sym (ap (λ b. if b then Some (taken q) else forwarded c (seat_on q k) (view_of c.set_id (knowledge k)))
    (ap (λ i. leads_in c i (knowledge k).config) id ∙ sym (led k there)))

-- what a view gives, by whether it is forwarded
abbrev given_view : rules.Copying → Bool → Option View → Option Snapshot
given_view c forwarding None = None
given_view c forwarding (Some v) = if v.era == c.era && forwarding then Some v.seen else None

view_given : (c : rules.Copying) (q : Place) (k : Node) (o : Option View) →
    forwarded c (seat_on q k) o ≡ given_view c (forwards c.set_id k.id (knowledge k).config) o
view_given c q k None = refl
view_given c q k (Some v) = refl

-- no view of the era, or the set is not forwarded
view_none : (c : rules.Copying) (b : Bool) (o : Option View) → seen_of c.era o ≡ None → given_view c b o ≡ None
view_none c b None none = refl
view_none c b (Some v) none = by (v.era == c.era) none
  where
    by : (x : Bool) → (if x then Some v.seen else None) ≡ None → (if x && b then Some v.seen else None) ≡ None
    by true none = absurd cc
    by false none = refl

view_other : (c : rules.Copying) (o : Option View) → given_view c false o ≡ None
view_other c None = refl
view_other c (Some v) = by (v.era == c.era)
  where
    by : (x : Bool) → (if x && false then Some v.seen else None) ≡ None
    by true = refl
    by false = refl

view_same : (c : rules.Copying) (o : Option View) → given_view c true o ≡ seen_of c.era o
view_same c None = refl
view_same c (Some v) = by (v.era == c.era)
  where
    by : (x : Bool) → (if x && true then Some v.seen else None) ≡ (if x then Some v.seen else None)
    by true = refl
    by false = refl

-- What was looked up of the view of a provider.
abbrev pub IsSeenIn : rules.Copying → Option Snapshot → Place → Type 0
IsSeenIn c seen q = (k : Node) → q.node ≡ Some k → seen ≡ seen_of c.era (view_of c.set_id (knowledge k))

pub forwards_none : (c : rules.Copying) (q : Place) → IsSeenIn c None q → IsForwarded c q None
forwards_none c q none k there id =
    let view = view_of c.set_id (knowledge k) in
    sym (view_given c q k view
    ∙ view_none c (forwards c.set_id k.id (knowledge k).config) view (sym (none k there)))

-- whether the provider forwards it
abbrev pub IsForwarder : rules.Copying → Bool → Place → Type 0
IsForwarder c forwarding q =
    (k : Node) → q.node ≡ Some k → forwarding ≡ forwards c.set_id c.provider (knowledge k).config

pub forwards_not : (c : rules.Copying) (q : Place) → IsForwarder c false q → IsForwarded c q None
forwards_not c q other k there id =
    let view = view_of c.set_id (knowledge k) in
    sym (view_given c q k view
    ∙ ap (λ b. given_view c b view) (ap (λ i. forwards c.set_id i (knowledge k).config) id ∙ sym (other k there))
    ∙ view_other c view)

pub forwards_seen : (c : rules.Copying) (q : Place) (seen : declared.Snapshot) → IsSeenIn c (Some (seen_as seen)) q →
    IsForwarder c true q → IsForwarded c q (Some seen)
forwards_seen c q seen some is k there id =
    let view = view_of c.set_id (knowledge k) in
    sym (view_given c q k view
    ∙ ap (λ b. given_view c b view) (ap (λ i. forwards c.set_id i (knowledge k).config) id ∙ sym (is k there))
    ∙ view_same c view ∙ sym (some k there))

-- ---- the provider

-- 62, or 63, by what was looked up of it
abbrev checks_by : ℕ → ℕ → ℕ → Bool → ℕ → List (Option Refusal)
checks_by own provider number knows progress =
    when (not knows) (refused.NotKnown own)
    ∷ when (nat_lt progress number) (refused.Behind provider progress number) ∷ []

-- What is known of the provider.
abbrev pub IsKnownAt : ℕ → Bool → Place → Type 0
IsKnownAt own knows q = (k : Node) → q.node ≡ Some k → knows ≡ is_known own (knowledge k).config

abbrev pub IsReached : ℕ → ℕ → Place → Type 0
IsReached origin number q = (k : Node) → q.node ≡ Some k → number ≡ progress origin (knowledge k)

abbrev pub ProviderSays : ℕ → ℕ → Event → Option Refusal → Place → Type 0
ProviderSays own provider e refusal q =
    (k : Node) → q.node ≡ Some k → first_refusal (provider_checks own provider e k) ≡ refusal

pub provider_strange : (own provider : ℕ) (e : Event) (q : Place) → IsKnownAt own false q →
    ProviderSays own provider e (Some (refused.NotKnown own)) q
provider_strange own provider e q none k there =
    ap (λ b. first_refusal (checks_by own provider e.number b (progress e.origin (knowledge k)))) (sym (none k there))

pub provider_reached : (own provider : ℕ) (e : Event) (q : Place) (number : ℕ) →
    IsKnownAt own true q × IsReached e.origin number q → (behind : Bool) → nat_lt number e.number ≡ behind →
    ProviderSays own provider e (when behind (refused.Behind provider number e.number)) q
provider_reached own provider e q number (knows, is) behind less k there =
    ap (λ b. first_refusal (checks_by own provider e.number b (progress e.origin (knowledge k)))) (sym (knows k there))
    ∙ ap (λ n. first_refusal (checks_by own provider e.number true n)) (sym (is k there))
    ∙ ap (λ b. first_refusal (when b (refused.Behind provider number e.number) ∷ [])) less
    ∙ only_first (when behind (refused.Behind provider number e.number))

-- ---- what is found of a set that is copied

-- the names of the tables to which the node takes rows
abbrev pub AreNames : ℕ → ℕ → List (List ℕ) → Place → Type 0
AreNames own set names p = (n : Node) → p.node ≡ Some n → names ≡ names_to own set (knowledge n).config

-- the set is refused
pub refused_copy : (seen : Snapshot) (a : Asked) (p q : Place) (names : List (List ℕ)) (r : Refusal) →
    AreNames a.own a.copying.set names p → first_refusal (copy_checks p q names) ≡ Some r →
    Copies seen a p q (found.Refused r)
refused_copy seen a p q names r are some n k name other here there own provider =
    let c = seen_copying a.copying in
    let first = first_view c.era a.event.origin a.event.number seen in
    ap (λ id. let ns = names_to id c.set_id (knowledge n).config in
    checked (copy_checks p q ns) (FoundCopy c.set_id first (rows_at q ns))) own
    ∙ ap (λ ns. checked (copy_checks p q ns) (FoundCopy c.set_id first (rows_at q ns))) (sym (are n here))
    ∙ ap (λ o. unless_refused o (FoundCopy c.set_id first (rows_at q names))) some

-- What was read of a set that is copied with an event, as it is at this snapshot.
pub record IsRead (a : Asked) (seen : Snapshot) (given : SetCopy) (p q : Place) : Type 0 where
  pub names : List (List ℕ)
  pub names_are : AreNames a.own a.copying.set names p
  pub passed : first_refusal (copy_checks p q names) ≡ None
  pub set_is : given.set ≡ a.copying.set
  pub view_is : seen_view given.view ≡ first_view a.copying.era a.event.origin a.event.number seen
  pub rows : AreListed (rows_at q names) given.tables
  pub counted : rows_in (rows_at q names) ≡ rows_listed given.tables

pub copied_found : (a : Asked) (seen : Snapshot) (p q : Place) (given : SetCopy) (w : Worker Fetched) →
    IsRead a seen given p q → w.state.load ≡ Some (Copy given) → Copies seen a p q (found.Brings w)
copied_found a seen p q given w r brings n k name other here there is provider =
    let names = r.names in
    let c = seen_copying a.copying in
    let first = first_view c.era a.event.origin a.event.number seen in
    let due = FoundCopy c.set_id first (rows_at q names) in (
      due,
      ap (λ id. let ns = names_to id c.set_id (knowledge n).config in
          checked (copy_checks p q ns) (FoundCopy c.set_id first (rows_at q ns))) is
          ∙ ap (λ ns. checked (copy_checks p q ns) (FoundCopy c.set_id first (rows_at q ns))) (sym (r.names_are n here))
          ∙ ap (λ o. unless_refused o due) r.passed,
      subst (HasFound a.event.origin due) (sym brings) (
        rows_at q names,
        ap (λ v. FoundCopy c.set_id v (rows_at q names)) (sym r.view_is)
            ∙ ap (λ s. FoundCopy s (seen_view given.view) (rows_at q names)) (sym r.set_is),
        record { listed = r.rows; count = r.counted },
      ),
    )

-- where the provider does not give the set nothing is copied
pub other_found : (a : Asked) (p q : Place) (w : Worker Fetched) → IsGiven (seen_copying a.copying) q None →
    w.state.load ≡ None → Brings a p q (found.Brings w)
other_found a p q w none brings n k name other here there is provider = (
  FoundNothing,
  ap (copied (seen_copying a.copying) (seat name p n) a.event (seat other q k)) (sym (none k there provider)),
  subst (HasFound a.event.origin FoundNothing) (sym brings) refl,
)

pub given_found : (a : Asked) (seen : declared.Snapshot) (p q : Place) (given : Found) →
    IsGiven (seen_copying a.copying) q (Some seen) → Copies (seen_as seen) a p q given → Brings a p q given
given_found a seen p q given some copies n k name other here there is provider =
    subst (λ due. IsFound a.event.origin due given)
    (ap (copied (seen_copying a.copying) (seat name p n) a.event (seat other q k)) (some k there provider))
    (copies n k name other here there is provider)

-- ---- what is fetched

-- what comes of it, by what is refused of the provider
abbrev fetched_by : Asked → Place → Place → List ℕ → List ℕ → Node → Node → Option Refusal →
    Result following.Found Refusal
fetched_by a p q name other n k refusal =
    let c = seen_copying a.copying in
    bind (unless_refused refusal (seat other q k))
    (λ s. copied c (seat name p n) a.event s (given_at c s))

pub refused_found : (a : Asked) (p q : Place) (r : Refusal) → ProviderSays a.own a.copying.provider a.event (Some r) q →
    Fetches a p q (found.Refused r)
refused_found a p q r says n k name other here there own provider =
    ap (fetched_by a p q name other n k)
    (ap (λ id. first_refusal (provider_checks id a.copying.provider a.event k)) own ∙ says k there)

-- the provider knows the node, and has met the event
pub passed_found : (a : Asked) (p q : Place) (given : Found) →
    ProviderSays a.own a.copying.provider a.event None q → Brings a p q given → Fetches a p q given
passed_found a p q given says brings n k name other here there own provider =
    subst (λ due. IsFound a.event.origin due given)
    (sym (ap (fetched_by a p q name other n k)
    (ap (λ id. first_refusal (provider_checks id a.copying.provider a.event k)) own ∙ says k there)))
    (brings n k name other here there own provider)
