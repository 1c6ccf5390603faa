-- Events that a node emits one after the other: what the node is behind them, by the rules and by each step.
use Rattle.std.proofs.Common.{◌≡◌, ℕ, suc, ◌+◌, ◌<◌, ◌^◌, Bool, true, false, cond, List, [], ◌∷◌, ◌++◌, length, Some}
use Rattle.std.proofs.Common.{None, refl, sym, ap, ◌∙◌, append_assoc, arith}
use Rattle.std.specs.Prelude.{◌||◌, nat_le, unwrap_or}
use Rattle.std.proofs.lemmas.Bool.{eq-eqb}
use Rattle.std.proofs.lemmas.List.Folds.{list_any-append}
use Rattle.set_config.proofs.Entries.{entry-with}
use Rattle.slon_model.specs.Maps.{Map, entry_at, with_entry, number_at}
use Rattle.slon_model.specs.Names.{Named}
use Rattle.slon_model.specs.Deeds.{Node, Deed, Emits, brought_in, knowledge, progress, with_deeds, emitted_by}
use Rattle.slon_model.specs.Place.{Place, Filling, deed, filled, filled_by, taken as taken_at}
use Rattle.slon_model.specs.Moves.{is_last_stamp}
use Rattle.slon_model.specs.Reaching.{last_number}
use Rattle.slon_model.specs.Sessions.{Seat, Emission, Commit, emissions, is_late, has_late, seat}
use Rattle.node_state.specs.Known.{identity_of, member_at, is_named}
use Rattle.app_store.specs.Spelled.{meta_at}
use Rattle.node_store.specs.Acting.{behind, are_late, LearnsAll, bodies_in, emission, emitting_deed, next_event}
use Rattle.node_store.specs.Acting.{excess_at, learned_member_all, learned_name_all}

pub number_with : (id x : ℕ) (es : Map ℕ) → number_at id (with_entry id x es) ≡ x
number_with id x es =
    ap (λ o. unwrap_or o 0) (entry-with id id x es ∙ ap (λ b. cond b (Some x) (entry_at id es)) (eq-eqb id id refl))

-- the node behind its next event
abbrev pub one_behind : Place → Node → Emission → Node
one_behind p n m = with_deeds (emitting_deed p n m ∷ []) n

-- it is as far as that in its own stream
pub next_is : (p : Place) (n : Node) (m : Emission) →
    progress n.id (knowledge (one_behind p n m)) ≡ progress n.id (knowledge n) + 1
next_is p n m = number_with n.id (progress n.id (knowledge n) + 1) (knowledge n).progress

-- ---- the rules make their deeds of them

-- the same event, by the number and the id
event_is : (s : Seat) (n : Node) (number : ℕ) (m : Emission) → n.id ≡ s.node.id →
    number ≡ progress n.id (knowledge n) + 1 →
    deed s.place m.rows []
    (Emits (record { origin = s.node.id; number = number; taken = taken_at s.place; body = m.body }))
    ≡ emitting_deed s.place n m
event_is s n number m own is =
    ap (λ e. deed s.place m.rows [] (Emits e))
    (λ i. record { origin = sym own i; number = is i; taken = taken_at s.place; body = m.body })

pub emissions_behind : (s : Seat) (n : Node) (number : ℕ) (ms : List Emission) → n.id ≡ s.node.id →
    number ≡ progress n.id (knowledge n) + 1 → with_deeds (emissions s number ms) n ≡ behind s.place n ms
emissions_behind s n number [] own is = refl
emissions_behind s n number (m ∷ ms) own is =
    let more = emissions s (number + 1) ms in
    let next = ap (λ x. x + 1) (is ∙ sym (next_is s.place n m)) in
    ap (λ (ds : List Deed). record n { deeds = ds }) (append_assoc more (_ ∷ []) n.deeds)
    ∙ ap (λ d. with_deeds more (with_deeds (d ∷ []) n)) (event_is s n number m own is)
    ∙ emissions_behind s (one_behind s.place n m) (number + 1) ms own next

-- ---- they fill no table

filled_append : (p : Place) (ds es : List Deed) (fillings : Named Filling) →
    filled_by p (ds ++ es) fillings ≡ filled_by p ds (filled_by p es fillings)
filled_append p [] es fillings = refl
filled_append p (d ∷ ds) es fillings = ap (filled p (brought_in d.doing).rows) (filled_append p ds es fillings)

pub emissions_fill : (s : Seat) (number : ℕ) (ms : List Emission) (p : Place) (fillings : Named Filling) →
    filled_by p (emissions s number ms) fillings ≡ fillings
emissions_fill s number [] p fillings = refl
emissions_fill s number (m ∷ ms) p fillings =
    filled_append p (emissions s (number + 1) ms) (_ ∷ []) fillings ∙ emissions_fill s (number + 1) ms p fillings

-- ---- whether a number is too big

or_turned : (a b : Bool) → (a || (b || false)) ≡ (b || a)
or_turned true true = refl
or_turned true false = refl
or_turned false true = refl
or_turned false false = refl

pub late_is : (s : Seat) (n : Node) (number : ℕ) (ms : List Emission) → n.id ≡ s.node.id →
    number ≡ progress n.id (knowledge n) + 1 → has_late (emissions s number ms) ≡ are_late s.place n ms
late_is s n number [] own is = refl
late_is s n number (m ∷ ms) own is =
    let more = emissions s (number + 1) ms in
    let next = ap (λ x. x + 1) (is ∙ sym (next_is s.place n m)) in
    list_any-append (λ (d : Deed). is_late (emitted_by d.doing)) more (_ ∷ [])
    ∙ or_turned (has_late more) (nat_le (2 ^ 63) number)
    ∙ ap (λ x. nat_le (2 ^ 63) x || has_late more) is
    ∙ ap (λ b. is_late (Some (next_event s.place n m.body)) || b)
    (late_is s (one_behind s.place n m) (number + 1) ms own next)

pub emission_late : (name : List ℕ) (p : Place) (n : Node) (ms : List Emission) (late : Bool) → are_late p n ms ≡ late →
    has_late (emission name p n ms).deeds ≡ late
emission_late name p n ms late is =
    late_is (seat name p n) n (progress n.id (knowledge n) + 1) ms refl refl ∙ is

-- a commit within the limit
pub within_limit : (c : Commit) (p : Place) → is_last_stamp p ≡ false → has_late c.deeds ≡ false →
    excess_at c p ≡ None
within_limit c p last late = rw (last, late) refl

-- one whose stamp is not
pub stamp_beyond : (c : Commit) (p : Place) → is_last_stamp p ≡ true → excess_at c p ≡ Some 1
stamp_beyond c p last = ap (λ b. cond b (Some 1) (cond (has_late c.deeds) (Some 10) None)) last

pub emission_within : (name : List ℕ) (p : Place) (n : Node) (ms : List Emission) → is_last_stamp p ≡ false →
    are_late p n ms ≡ false → excess_at (emission name p n ms) p ≡ None
emission_within name p n ms last late =
    within_limit (emission name p n ms) p last (emission_late name p n ms false late)

pub emission_beyond : (name : List ℕ) (p : Place) (n : Node) (ms : List Emission) → is_last_stamp p ≡ false →
    are_late p n ms ≡ true → excess_at (emission name p n ms) p ≡ Some 10
emission_beyond name p n ms last late =
    ap (λ b. cond b (Some 1) (cond (has_late (emission name p n ms).deeds) (Some 10) None)) last
    ∙ ap (λ b. cond b (Some 10) None) (emission_late name p n ms true late)

-- ---- the number of the last one

last_suc : (ms : List Emission) (number : ℕ) → suc (last_number ms number) ≡ last_number ms (suc number)
last_suc [] number = refl
last_suc (m ∷ []) number = refl
last_suc (m ∷ k ∷ more) number = ap suc (last_suc (k ∷ more) number)

pub last_is : (p : Place) (n : Node) (number : ℕ) (ms : List Emission) → 0 < length ms →
    number ≡ progress n.id (knowledge n) + 1 → last_number ms number ≡ progress n.id (knowledge (behind p n ms))
last_is p n number [] some is = absurd (omega (arith, some))
last_is p n number (m ∷ []) some is = is ∙ sym (next_is p n m)
last_is p n number (m ∷ k ∷ more) some is =
    last_suc (k ∷ more) number
    ∙ last_is p (one_behind p n m) (suc number) (k ∷ more) (omega arith)
    (omega (arith, is, next_is p n m))

-- ---- what the node keeps

pub id_behind : (p : Place) (n : Node) (ms : List Emission) → (behind p n ms).id ≡ n.id
id_behind p n [] = refl
id_behind p n (m ∷ ms) = id_behind p (one_behind p n m) ms

pub identity_behind : (p : Place) (n : Node) (ms : List Emission) →
    identity_of (Some (behind p n ms)) ≡ identity_of (Some n)
identity_behind p n [] = refl
identity_behind p n (m ∷ ms) = identity_behind p (one_behind p n m) ms

pub meta_behind : (stamp : ℕ) (xids numbers : ℕ) (p : Place) (n : Node) (ms : List Emission) (key : ℕ) →
    meta_at stamp xids numbers (Some (behind p n ms)) key ≡ meta_at stamp xids numbers (Some n) key
meta_behind stamp xids numbers p n [] key = refl
meta_behind stamp xids numbers p n (m ∷ ms) key = meta_behind stamp xids numbers p (one_behind p n m) ms key

pub members_behind : (p : Place) (n : Node) (ms : List Emission) → LearnsAll p n ms → (name : List ℕ) →
    member_at (Some (behind p n ms)) name ≡ learned_member_all (bodies_in ms) name (member_at (Some n) name)
members_behind p n [] learns name = refl
members_behind p n (m ∷ ms) learns name =
    members_behind p (one_behind p n m) ms learns.1 name
    ∙ ap (learned_member_all (bodies_in ms) name) (learns.0.members name)

pub names_behind : (p : Place) (n : Node) (ms : List Emission) → LearnsAll p n ms → (name : List ℕ) →
    is_named name (Some (behind p n ms)) ≡ learned_name_all (bodies_in ms) name (is_named name (Some n))
names_behind p n [] learns name = refl
names_behind p n (m ∷ ms) learns name =
    names_behind p (one_behind p n m) ms learns.1 name
    ∙ ap (learned_name_all (bodies_in ms) name) (learns.0.names name)
