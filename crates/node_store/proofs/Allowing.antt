-- How many pairs are put for what comes with a SYNC.
use Rattle.std.proofs.Common.{◌≡◌, ◌∙◌, ℕ, ◌+◌, ◌*◌, ◌≤◌, List, ◌∷◌, length, Option, Some, None, ap, arith, subst, sym}
use Rattle.std.proofs.lemmas.List.Sums.{sum_by-cons}
use Rattle.store_rows.specs.Spending.{PutsUpTo}
use Rattle.store_rows.proofs.Putting.{LeavesRoom, room_on}
use Rattle.node_store.specs.declared.bringing.Brought.{Brought}
use Rattle.node_store.specs.declared.bringing.Brought.TheVariants.{Copy, Syncs}
use Rattle.node_store.specs.declared.bringing.SetCopy.{SetCopy}
use Rattle.node_store.specs.declared.bringing.SetSync.{SetSync}
use Rattle.node_store.specs.Bringing.{deltas_of, rows_synced}

-- at most how many for these deltas
abbrev pub puts_left : List SetSync → ℕ
puts_left deltas = 2 * rows_synced deltas + length deltas

-- after the first of them
pub left_first : {all rest : List SetSync} {d : SetSync} → all ≡ d ∷ rest →
    puts_left rest + (2 * length d.rows + 1) ≤ puts_left all
left_first {all} {rest} {d} is =
    subst (λ ds. puts_left rest + (2 * length d.rows + 1) ≤ puts_left ds) (sym is)
    (omega (arith, sum_by-cons (λ (e : SetSync). length e.rows) d rest))

-- with it, so few pairs were put that there is room for the others
pub one_taken : (total : ℕ) {all rest : List SetSync} {d : SetSync} {old mid new : Option ℕ} → all ≡ d ∷ rest →
    LeavesRoom (puts_left all) total old mid → PutsUpTo (2 * length d.rows + 1) mid new →
    LeavesRoom (puts_left rest) total old new
one_taken total {all} {rest} {d} is room puts =
    room_on (2 * length d.rows + 1) (puts_left all) (puts_left rest) total room puts (left_first is)

-- the deltas that come are those that were brought
pub deltas_are : {brought : Option Brought} {given : Brought} {syncs deltas : List SetSync} → brought ≡ Some given →
    given ≡ Syncs syncs → deltas_of brought ≡ Some deltas → syncs ≡ deltas
deltas_are {syncs = syncs} {deltas = deltas} is of deltas_is =
    let same : Some syncs ≡ Some deltas = sym (ap deltas_of (is ∙ ap (λ b. Some b) of)) ∙ deltas_is in
    cc

-- none come with a copy
pub no_deltas : {brought : Option Brought} {given : Brought} {copy : SetCopy} {deltas : List SetSync} →
    brought ≡ Some given → given ≡ Copy copy → deltas_of brought ≡ Some deltas → ⊥
no_deltas {deltas = deltas} is of deltas_is =
    let same : None ≡ Some deltas = sym (ap deltas_of (is ∙ ap (λ b. Some b) of)) ∙ deltas_is in
    cc
