-- What the changes of a transaction undo.
use Rattle.std.proofs.Common.{◌≡◌, ℕ, ◌+◌, ◌<◌, false, List, [], ◌∷◌, ◌++◌, length, get_or, set, take, Option, Some}
use Rattle.std.proofs.Common.{None, is_some, refl, subst, sym, ap, ◌∙◌, arith}
use Rattle.std.specs.FinMap.{get, remove}
use Rattle.std.specs.Option.{option_map}
use Rattle.std.proofs.lemmas.List.{take_more, take-set, get_or-set_other}
use Rattle.std.proofs.lemmas.Bool.{false≢true}
use Rattle.slon_base.specs.Keeper.{Space}
use Rattle.node_keeper.specs.declared.journaled.Change.{Change}
use Rattle.node_keeper.specs.Slots.{SlotMap, HasSlot, with_at}
use Rattle.node_keeper.specs.Journal.{undone, HaveSlots}
use Rattle.node_keeper.proofs.SlotPairs.{with_at-back, with_at-same}

undone-push : (changes : List Change) (c : Change) (m : Space) → undone (changes ++ c ∷ []) m ≡ undone changes
    (with_at c.key c.old m)
undone-push [] c m = refl
undone-push (x ∷ changes) c m = ap (with_at x.key x.old) (undone-push changes c m)

-- a change that keeps what was there leaves what is held
pub undone-change : (changes : List Change) (c : Change) (new : Option (List ℕ)) (m : Space) →
    c.old ≡ get m c.key → undone (changes ++ c ∷ []) (with_at c.key new m) ≡ undone changes m
undone-change changes c new m e = undone-push changes c _ ∙ ap (undone changes) (with_at-back c.key c.old new m e)

-- the changes and the pairs after one more change, of a key that then has a new value
pub record Pushed (changes : List Change) (m : Space) (key : List ℕ) (new : Option (List ℕ)) : Type 0 where
  pub all : List Change
  pub pairs : Space
  pub change : Change
  pub grew : all ≡ changes ++ change ∷ []
  pub same : change.key ≡ key
  pub old : change.old ≡ get m key
  pub turned : pairs ≡ with_at key new m

-- then as much is held as before
pub pushed : (changes : List Change) (m : Space) (key : List ℕ) (new : Option (List ℕ))
    (p : Pushed changes m key new) →
    ◌≡◌ {A = Space × Space} (undone p.all p.pairs, p.pairs) (undone changes m, with_at key new m)
pushed changes m key new p =
    let held : undone p.all p.pairs ≡ undone changes m =
    ap (λ cs. undone cs p.pairs) p.grew ∙ ap (undone (changes ++ p.change ∷ [])) p.turned
    ∙ subst (λ k. p.change.old ≡ get m k → undone (changes ++ p.change ∷ []) (with_at k new m) ≡ undone changes m)
    p.same (undone-change changes p.change new m) p.old in
    λ i. (held i, p.turned i)

-- to take away what is not there changes nothing
pub absent : {A : Type 0} (f : A → List ℕ) (held m : Space) (key : List ℕ) (found : Option A) →
    option_map f found ≡ get m key → is_some found ≡ false → ◌≡◌ {A = Space × Space} (held, m) (held, remove m key)
absent f held m key None e none = let same = with_at-same key None m (sym e) in λ i. (held, sym same i)
absent f held m key (Some x) e none = absurd (false≢true (sym none))

-- n is m with the change at this place undone
pub record Undoes (changes : List Change) (place : ℕ) (m n : Space) : Type 0 where
  pub change : Change
  pub within : place < length changes
  pub is : change ≡ get_or changes place change
  pub turned : n ≡ with_at change.key change.old m

-- the newest of the first changes undone, with another change in its place
pub undo_step : (changes : List Change) (j : ℕ) (x : Change) (m n held : Space) → Undoes changes j m n →
    undone (take (j + 1) changes) m ≡ held → undone (take j (set changes j x)) n ≡ held
undo_step changes j x m n held u h =
    ap (λ cs. undone cs n) (take-set changes j x) ∙ ap (undone (take j changes)) u.turned
    ∙ sym (undone-push (take j changes) u.change m)
    ∙ ap (λ cs. undone cs m) (ap (λ y. take j changes ++ y ∷ []) u.is ∙ sym (take_more changes j u.change u.within)) ∙ h

pub slots_step : (m n : SlotMap) (changes : List Change) (j : ℕ) (x : Change) → HaveSlots m changes (j + 1) →
    ((q : List ℕ) → HasSlot m q → HasSlot n q) → HaveSlots n (set changes j x) j
slots_step m n changes j x have keeps k d below =
    subst (λ (y : Change). HasSlot n y.key) (sym (get_or-set_other changes j k x d (λ e. absurd (omega arith))))
    (keeps _ (have k d (omega arith)))
