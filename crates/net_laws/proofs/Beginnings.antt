-- Until a node has passed the event that opens an era, it has what it had at the beginning.
use Rattle.std.proofs.Common.{◌≡◌, ℕ, ◌+◌, ◌≤◌, false, List, ◌∷◌, length, refl, sym, ap, subst, ◌∙◌, arith}
use Rattle.std.proofs.lemmas.Bool.{false≢true}
use Rattle.net_laws.specs.Subscriptions.{Event, Unrelated, up_to, last_moment}
use Rattle.net_laws.specs.Net.{Node, given_up, barring, cleaned_below, passed, Net, with_node, heard, IsNext, Ends}
use Rattle.net_laws.specs.Net.{Turn, Passes, Syncs, Turns, Copies, Skips, Leaves, NextTurn, Step, Commits, Ticks, Emits}
use Rattle.net_laws.specs.Net.{Applies, GivesUp, Bars, Cleans, Leads, Here, More, IsBegun}
use Rattle.net_laws.specs.Laws.{IsAsBegun, BeginningStays}
use Rattle.net_laws.proofs.Updates.{set_each}
use Rattle.net_laws.proofs.Prefixes.{up_to_both}
use Rattle.net_laws.proofs.Applies.{goes}
use Rattle.net_laws.proofs.Sounds.{others_head, others_up_to}
use Rattle.net_laws.proofs.Laws.{grows}

-- what is claimed of a node that is n
abbrev Stays : Net → ℕ → Node → Type 0
Stays b n node = node.progress ≤ length b.stream → node.gave_up ≡ false → IsAsBegun (b.nodes n) node

-- with the beginning of its era a node applies none but unrelated events
unrelated_next : (b w : Net) (n : ℕ) (e : Event) → IsBegun b → Leads b w → IsNext w n e →
    (w.nodes n).progress + 1 ≤ length b.stream → e ≡ Unrelated
unrelated_next b w n e begun leads next within =
    let k = (w.nodes n).progress + 1 in
    let same : up_to k b.stream ≡ e ∷ heard w n =
    ap (up_to k) (sym (grows b w leads).same) ∙ (up_to_both k (length b.stream) w.stream within ∙ next.next) in
    others_head e (heard w n) (up_to k b.stream) (others_up_to k b.stream begun.stream) same

turn_unrelated : (w : Net) (n : ℕ) (e : Event) (node : Node) → e ≡ Unrelated → Turn w n e node →
    node ≡ passed (w.nodes n)
turn_unrelated w n e node event (Passes why is) = is
turn_unrelated w n e node event (Syncs m v u other view has is) = absurd cc
turn_unrelated w n e node event (Turns p v f u other view has is) = absurd cc
turn_unrelated w n e node event (Copies v u other has low high is) = absurd cc
turn_unrelated w n e node event (Skips other gone is) = absurd cc
turn_unrelated w n e node event (Leaves ends is) = absurd (subst (Ends n) event ends)

begun_step : (b u w : Net) → IsBegun b → Leads b u → Step u w → ((n : ℕ) → Stays b n (u.nodes n)) → (n : ℕ) →
    Stays b n (w.nodes n)
begun_step b u w begun leads step old n = by step
  where
    -- one node changes
    at : (k : ℕ) (node : Node) → Stays b k node → w ≡ with_node k node u → Stays b n (w.nodes n)
    at k node new is = subst (λ (x : Net). Stays b n (x.nodes n)) (sym is)
        (set_each (Stays b) k node u.nodes new (λ j differ. old j) n)

    applies : (k : ℕ) (next : NextTurn u k) → Stays b k next.node
    applies k next within kept =
        let g = goes u k next in
        let p = g.progress in
        let more : (u.nodes k).progress + 1 ≤ length b.stream = omega (arith, p, within) in
        let event = unrelated_next b u k next.event begun leads next.comes more in
        let same = turn_unrelated u k next.event next.node event next.turn in
        let as_begun = old k (omega (arith, more)) (sym g.gave_up ∙ kept) in
        subst (IsAsBegun (b.nodes k)) (sym same)
        (record { view = as_begun.view; base = as_begun.base; log = as_begun.log })

    same : (k : ℕ) (barred : List ℕ) (cleaned : ℕ) →
        Stays b k (record (u.nodes k) { barred = barred; cleaned = cleaned })
    same k barred cleaned within kept =
        let as_begun = old k within kept in
        record { view = as_begun.view; base = as_begun.base; log = as_begun.log }

    by : Step u w → Stays b n (w.nodes n)
    by (Applies k next is) = at k next.node (applies k next) is
    by (GivesUp k is) = at k (given_up (u.nodes k)) (λ within kept. absurd (false≢true (sym kept))) is
    by (Bars k r is) = at k (barring r (u.nodes k)) (same k (r ∷ (u.nodes k).barred) (u.nodes k).cleaned) is
    by (Cleans k j within confirmed is) =
        let new = cleaned_below (last_moment (up_to j u.stream)) (u.nodes k) in
        at k new (same k (u.nodes k).barred new.cleaned) is
    by (Commits here is) = subst (λ (x : Net). Stays b n (x.nodes n)) (sym is) (old n)
    by (Ticks is) = subst (λ (x : Net). Stays b n (x.nodes n)) (sym is) (old n)
    by (Emits e may is) = subst (λ (x : Net). Stays b n (x.nodes n)) (sym is) (old n)

pub beginning_stays : BeginningStays
beginning_stays b w begun Here n within kept = record { view = refl; base = refl; log = refl }
beginning_stays b w begun (More {u = u} leads step) n within kept =
    begun_step b u w begun leads step (beginning_stays b u begun leads) n within kept
