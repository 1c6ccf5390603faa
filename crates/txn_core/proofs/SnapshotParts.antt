-- The parts of a text that is read as a snapshot.
use Rattle.std.proofs.Common.{◌≡◌, ℕ, ◌+◌, ◌<◌, ◌≤◌, ◌^◌, eqb, List, [], ◌∷◌, ◌++◌, map, length, drop, get_or, Option}
use Rattle.std.proofs.Common.{Some, None, Result, Ok, Err, Bor, refl, sym, ap, ◌∙◌, subst, arith, append_assoc}
use Rattle.std.proofs.Common.{drop-cons, suc}
use Rattle.std.proofs.lemmas.List.{append-nil, drop_all}
use Rattle.std.specs.Fmt.{decimal}
use Rattle.std.specs.List.{slice_split}
use Rattle.slon_model.specs.Snapshots.{Snapshot, ids_text, snapshot_text}
use Rattle.txn_core.specs.declared.snapshot.Snapshot as declared
use Rattle.txn_core.specs.declared.fault.BadSnapshot.{BadSnapshot}
use Rattle.txn_core.specs.declared.fault.BadSnapshot.TheVariants.{NotCanonical, NoMemory}
use Rattle.txn_core.specs.Snapshots.{IsPrinted, seen_as, Parses, GetsIds, GetsSnapshot}
use Rattle.txn_core.proofs.SnapshotTexts.{AllSmall, text_split}

abbrev pub texts : List (Bor (List ℕ)) → List (List ℕ)
texts ws = map (λ w. w.now) ws

-- the next word and those behind it
record IsNext (w : List ℕ) (ws : List (Bor (List ℕ))) (rest : List ℕ) : Type 0 where
  x : ℕ
  more : List ℕ
  is : rest ≡ x ∷ more
  word : w ≡ decimal x
  words : texts ws ≡ map decimal more
  small : x < 2 ^ 64
  others : AllSmall more

next_of : (w : Bor (List ℕ)) (ws : List (Bor (List ℕ))) (rest : List ℕ) → texts (w ∷ ws) ≡ map decimal rest →
    AllSmall rest → IsNext w.now ws rest
next_of w ws [] e h = cc
next_of w ws (x ∷ more) e h = record {
  x = x;
  more = more;
  is = refl;
  word = head_is e;
  words = tail_is e;
  small = h.0;
  others = h.1;
}
  where
    head_is : w.now ∷ texts ws ≡ decimal x ∷ map decimal more → w.now ≡ decimal x
    head_is e = cc

    tail_is : w.now ∷ texts ws ≡ decimal x ∷ map decimal more → texts ws ≡ map decimal more
    tail_is e = cc

one_on : (i : ℕ) → suc i ≡ i + 1
one_on i = omega arith

-- A word among words.
pub record Word : Type 0 where
  pub words : List (Bor (List ℕ))
  pub at : ℕ
  pub default : Bor (List ℕ)
  pub within : at < length words

abbrev text_at : Word → List ℕ
text_at w = (get_or w.words w.at w.default).now

next_word : (w : Word) (rest : List ℕ) → texts (drop w.at w.words) ≡ map decimal rest → AllSmall rest →
    IsNext (text_at w) (drop (w.at + 1) w.words) rest
next_word w rest e h =
    let here = get_or w.words w.at w.default in
    next_of here (drop (w.at + 1) w.words) rest
    (ap texts (sym (drop-cons w.words w.at w.default w.within ∙ ap (λ k. here ∷ drop k w.words) (one_on w.at))) ∙ e) h

-- what is left to read
abbrev pub Left : List (Bor (List ℕ)) → ℕ → List ℕ → List ℕ → Type 0
Left ws i ids xs = (rest : List ℕ) × (ids ++ rest ≡ xs) × (texts (drop i ws) ≡ map decimal rest) × AllSmall rest

-- what reading one word tells
abbrev pub Reads : List ℕ → Option ℕ → Type 0
Reads word found = (n : ℕ) → n < 2 ^ 64 → word ≡ decimal n → found ≡ Some n

some_one : (x y : ℕ) (found : Option ℕ) → found ≡ Some x → found ≡ Some y → x ≡ y
some_one x y found e f = cc

pub one_read : (w : Word) (ids xs : List ℕ) (found : Option ℕ) (xid : ℕ) → Left w.words w.at ids xs →
    Reads (text_at w) found → found ≡ Some xid → Left w.words (w.at + 1) (ids ++ xid ∷ []) xs
one_read w ids xs found xid left reads is =
    let n = next_word w left.0 left.2 left.3 in
    let same = some_one n.x xid found (reads n.x n.small n.word) is in (
      n.more,
      append_assoc ids (xid ∷ []) n.more ∙ ap (λ y. ids ++ y ∷ n.more) (sym same)
          ∙ ap (λ l. ids ++ l) (sym n.is) ∙ left.1,
      n.words,
      n.others,
    )

pub none_read : (w : Word) (ids xs : List ℕ) (found : Option ℕ) → Left w.words w.at ids xs →
    Reads (text_at w) found → found ≡ None → ⊥
none_read w ids xs found left reads is =
    let n = next_word w left.0 left.2 left.3 in
    let found_it = reads n.x n.small n.word in cc

no_more : (rest : List ℕ) → [] ≡ map decimal rest → rest ≡ []
no_more [] e = refl
no_more (x ∷ xs) e = cc

pub all_read : (ws : List (Bor (List ℕ))) (i : ℕ) (ids xs : List ℕ) → length ws ≤ i → Left ws i ids xs → ids ≡ xs
all_read ws i ids xs past left =
    let none = no_more left.0 (ap texts (sym (drop_all i ws past)) ∙ left.2) in
    sym (append-nil ids) ∙ ap (λ l. ids ++ l) (sym none) ∙ left.1

-- ---- the three parts

pub part_at : (ps : List (Bor (List ℕ))) (d : Bor (List ℕ)) (a b c : List ℕ) → texts ps ≡ a ∷ b ∷ c ∷ [] →
    ((get_or ps 0 d).now ≡ a) × ((get_or ps 1 d).now ≡ b) × ((get_or ps 2 d).now ≡ c)
part_at (p ∷ q ∷ r ∷ more) d a b c e = (cc, cc, cc)
part_at others d a b c e = cc

pub same_snapshot : (s : Snapshot) (xmin xmax : ℕ) (running : List ℕ) → xmin ≡ s.xmin → xmax ≡ s.xmax →
    running ≡ s.running → seen_as (record { xmin = xmin; xmax = xmax; running = running }) ≡ s
same_snapshot s xmin xmax running a b c = λ i. record { xmin = a i; xmax = b i; running = c i }

pub number_is : (n x : ℕ) (found : Option ℕ) → found ≡ Some x → found ≡ Some n → x ≡ n
number_is n x found e f = cc

pub err_gets : (xs : List ℕ) (s : Snapshot) (e : BadSnapshot) (r : Result declared.Snapshot BadSnapshot) →
    (y : BadSnapshot) × (r ≡ Err y) × (y ≡ e) → GetsIds xs (Err e) → GetsSnapshot s r
err_gets xs s NotCanonical r p g = absurd g
err_gets xs s NoMemory r p g = subst (GetsSnapshot s) (sym (p.1 ∙ ap Err p.2)) tt

abbrev pub ReadsParts : List (Bor (List ℕ)) → Result declared.Snapshot BadSnapshot → Type 0
ReadsParts ps r = (s : Snapshot) → IsPrinted s → texts ps ≡ decimal s.xmin ∷ decimal s.xmax ∷ ids_text s.running ∷ [] →
    GetsSnapshot s r

parts_of : (text : List ℕ) (ps : List (Bor (List ℕ))) (s : Snapshot) → texts ps ≡ slice_split (λ b. eqb b 58) text →
    IsPrinted s → snapshot_text s ≡ text → texts ps ≡ decimal s.xmin ∷ decimal s.xmax ∷ ids_text s.running ∷ []
parts_of text ps s e h is = e ∙ ap (slice_split (λ b. eqb b 58)) (sym is) ∙ text_split s h

pub err_parses : (text : List ℕ) (ps : List (Bor (List ℕ))) (e : BadSnapshot)
    (r : Result declared.Snapshot BadSnapshot) → texts ps ≡ slice_split (λ b. eqb b 58) text → ReadsParts ps (Err e) →
    (y : BadSnapshot) × (r ≡ Err y) × (y ≡ e) → Parses text r
err_parses text ps NotCanonical r split reads p = subst (Parses text) (sym (p.1 ∙ ap Err p.2))
    (λ s h is. reads s h (parts_of text ps s split h is))
err_parses text ps NoMemory r split reads p = subst (Parses text) (sym (p.1 ∙ ap Err p.2)) tt

-- what was read is the only snapshot with this text
pub only_one : (text : List ℕ) (ps : List (Bor (List ℕ))) (found : declared.Snapshot) (s : Snapshot) →
    texts ps ≡ slice_split (λ b. eqb b 58) text → ReadsParts ps (Ok found) → IsPrinted s → snapshot_text s ≡ text →
    seen_as found ≡ s
only_one text ps found s split reads h is = reads s h (parts_of text ps s split h is)
