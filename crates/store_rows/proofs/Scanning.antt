-- A scan, row by row.
use Rattle.std.proofs.Common.{◌≡◌, ℕ, ◌+◌, ◌≤◌, true, false, cond, List, [], ◌∷◌, ◌++◌, length, map, Option, Some, None}
use Rattle.std.proofs.Common.{refl, sym, ap, ◌∙◌, subst, append_assoc, arith}
use Rattle.std.specs.Prelude.{nat_eq}
use Rattle.std.specs.List.{starts_with}
use Rattle.std.specs.Ordering.{is_lt}
use Rattle.std.specs.FinMap.{entries, entries_sorted}
use Rattle.std.proofs.lemmas.List.{append-nil}
use Rattle.slon_base.specs.Keeper.{Space, key_cmp, after, first}
use Rattle.slon_base.specs.Codec.{AllAre}
use Rattle.store_rows.specs.Scan.{ranged}
use Rattle.slon_base.proofs.Order.{Entries, after-next}
use Rattle.store_rows.proofs.Reading.{all_snoc}

length-after : (at : List ℕ) (all : Entries) → length (after at all) ≤ length all
length-after at [] = omega arith
length-after at (e ∷ es) = elim (is_lt (key_cmp at e.0)) as (λ b. length (cond b (e ∷ es) (after at es)) ≤ length
    (e ∷ es)) [ true ↦ omega arith | false ↦ omega (arith, length-after at es) ]

none_left : (prefix : List ℕ) (es : Entries) → length es ≤ 0 → ranged prefix es ≡ []
none_left prefix [] few = refl
none_left prefix (e ∷ es) few = absurd (omega arith)

-- ---- the pair that comes next

-- this pair comes next behind the key `at`
pub record Comes (all : Entries) (at : List ℕ) (e : List ℕ × List ℕ) : Type 0 where
  pub more : Entries
  pub next : after at all ≡ e ∷ more

first_is : (es : Entries) (e : List ℕ × List ℕ) → Some e ≡ first es → (more : Entries) × (es ≡ e ∷ more)
first_is [] e is = absurd cc
first_is (f ∷ fs) e is = let same : e ≡ f = cc in (fs, ap (λ x. x ∷ fs) (sym same))

first_none : (es : Entries) → None ≡ first es → es ≡ []
first_none [] is = refl
first_none (e ∷ es) is = absurd cc

pub comes : {all : Entries} {at : List ℕ} (k : List ℕ) (o : Option (List ℕ × List ℕ)) (e : List ℕ × List ℕ) → k ≡ at →
    o ≡ Some e → o ≡ first (after k all) → Comes all at e
comes {all} {at} k o e same some is =
    let found = first_is (after at all) e (sym some ∙ is ∙ ap (λ x. first (after x all)) same) in
    record { more = found.0; next = found.1 }

-- no pair comes next
pub none_comes : (prefix : List ℕ) (all : Entries) {at : List ℕ} (k : List ℕ) (o : Option (List ℕ × List ℕ)) →
    k ≡ at → o ≡ None → o ≡ first (after k all) → ranged prefix (after at all) ≡ []
none_comes prefix all {at} k o same none is =
    ap (ranged prefix) (first_none (after at all) (sym none ∙ is ∙ ap (λ x. first (after x all)) same))

-- the pair that comes next lacks the prefix
pub lacking : (prefix : List ℕ) {all : Entries} {at : List ℕ} {e : List ℕ × List ℕ} → Comes all at e →
    starts_with nat_eq e.0 prefix ≡ false → ranged prefix (after at all) ≡ []
lacking prefix {all} {at} {e} next lacks =
    ap (ranged prefix) next.next ∙ ap (λ b. cond b (e ∷ ranged prefix next.more) []) lacks

-- it has the prefix, so it is in the range, and what comes behind it follows
having : (prefix : List ℕ) (space : Space) {at : List ℕ} {e : List ℕ × List ℕ} → Comes (entries space) at e →
    starts_with nat_eq e.0 prefix ≡ true →
    ranged prefix (after at (entries space)) ≡ e ∷ ranged prefix (after e.0 (entries space))
having prefix space {at} {e} next has =
    let step = after-next at (entries space) e next.more (entries_sorted space) next.next in
    ap (ranged prefix) next.next ∙ ap (λ b. cond b (e ∷ ranged prefix next.more) []) has
    ∙ ap (λ es. e ∷ ranged prefix es) (sym step.1)

fewer : (space : Space) {at : List ℕ} {e : List ℕ × List ℕ} (n : ℕ) → Comes (entries space) at e →
    length (after at (entries space)) + n ≤ length (entries space) →
    length (after e.0 (entries space)) + (n + 1) ≤ length (entries space)
fewer space {at} {e} n next count =
    let step = after-next at (entries space) e next.more (entries_sorted space) next.next in
    omega (arith, count, ap length next.next, ap length step.1)

-- ---- what is not read yet

-- these rows are left to be read behind the key `at`, and `n` pairs were read
pub record Ahead {E : Type 0} (prefix : List ℕ) (spell : E → List ℕ × List ℕ) (Can : E → Type 0) (all : Entries)
    (at : List ℕ) (n : ℕ) (found rows : List E) : Type 0 where
  pub left : List E
  pub can : AllAre Can left
  pub whole : found ++ left ≡ rows
  pub spelled : ranged prefix (after at all) ≡ map spell left
  pub count : length (after at all) + n ≤ length all

pub none_ahead : {E : Type 0} {prefix : List ℕ} {spell : E → List ℕ × List ℕ} {Can : E → Type 0} {all : Entries}
    {from : List ℕ} (rows : List E) → AllAre Can rows → ranged prefix (after from all) ≡ map spell rows →
    Ahead prefix spell Can all from 0 [] rows
none_ahead {all = all} {from = from} rows can is =
    record { left = rows; can = can; whole = refl; spelled = is; count = omega (arith, length-after from all) }

-- the same of another name of the key, and of the rows
pub ahead_at : {E : Type 0} {prefix : List ℕ} {spell : E → List ℕ × List ℕ} {Can : E → Type 0} {all : Entries}
    {at key : List ℕ} {n : ℕ} {found read rows : List E} → at ≡ key → found ≡ read →
    Ahead prefix spell Can all at n found rows → Ahead prefix spell Can all key n read rows
ahead_at {prefix = prefix} {spell = spell} {Can = Can} {all = all} {key = key} {n = n} {found = found} {rows = rows} k f
    a =
    subst (λ read. Ahead prefix spell Can all key n read rows) f
    (subst (λ key. Ahead prefix spell Can all key n found rows) k a)

pub at_end : {E : Type 0} {prefix : List ℕ} {spell : E → List ℕ × List ℕ} {Can : E → Type 0} {all : Entries}
    {at : List ℕ} {n : ℕ} {found rows : List E} → Ahead prefix spell Can all at n found rows →
    ranged prefix (after at all) ≡ [] → found ≡ rows
at_end {E = E} {spell = spell} {found = found} a none = sym (ends a.left (sym none ∙ a.spelled)) ∙ a.whole
  where
    ends : (left : List E) → [] ≡ map spell left → found ++ left ≡ found
    ends [] is = append-nil found
    ends (e ∷ es) is = absurd cc

pub all_counted : {E : Type 0} {prefix : List ℕ} {spell : E → List ℕ × List ℕ} {Can : E → Type 0} {all : Entries}
    {at : List ℕ} {n : ℕ} {found rows : List E} → Ahead prefix spell Can all at n found rows → length all ≤ n →
    found ≡ rows
all_counted {prefix = prefix} {all = all} {at = at} a counted =
    at_end a (none_left prefix (after at all) (omega (arith, a.count)))

-- the row that comes next
pub record NextRow {E : Type 0} (prefix : List ℕ) (spell : E → List ℕ × List ℕ) (Can : E → Type 0) (all : Entries)
    (e : List ℕ × List ℕ) (n : ℕ) (found rows : List E) : Type 0 where
  pub row : E
  pub can : Can row
  pub is : e ≡ spell row
  pub ahead : Ahead prefix spell Can all e.0 (n + 1) (found ++ row ∷ []) rows

pub next_row : {E : Type 0} {prefix : List ℕ} {spell : E → List ℕ × List ℕ} {Can : E → Type 0} (space : Space)
    {at : List ℕ} {e : List ℕ × List ℕ} {n : ℕ} {found rows : List E} →
    Ahead prefix spell Can (entries space) at n found rows →
    Comes (entries space) at e → starts_with nat_eq e.0 prefix ≡ true →
    NextRow prefix spell Can (entries space) e n found rows
next_row {E} {prefix} {spell} {Can} space {at} {e} {n} {found} {rows} a next has =
    of a.left a.can a.whole (sym (having prefix space next has) ∙ a.spelled)
  where
    of : (left : List E) → AllAre Can left → found ++ left ≡ rows →
        e ∷ ranged prefix (after e.0 (entries space)) ≡ map spell left →
        NextRow prefix spell Can (entries space) e n found rows
    of [] can whole spelled = absurd cc
    of (d ∷ ds) can whole spelled =
        let head : e ≡ spell d = cc in
        let tail : ranged prefix (after e.0 (entries space)) ≡ map spell ds = cc in
        record {
          row = d;
          can = can.0;
          is = head;
          ahead = record {
            left = ds;
            can = can.1;
            whole = append_assoc found (d ∷ []) ds ∙ whole;
            spelled = tail;
            count = fewer space n next a.count;
          };
        }

-- ---- what is read already

-- These rows were read, as `n` pairs: they are what stands in the range behind the key `from`, up to the key `at`.
pub record Gone {E : Type 0} (prefix : List ℕ) (spell : E → List ℕ × List ℕ) (Can : E → Type 0) (all : Entries)
    (from at : List ℕ) (n : ℕ) (found : List E) : Type 0 where
  pub can : AllAre Can found
  pub whole : map spell found ++ ranged prefix (after at all) ≡ ranged prefix (after from all)
  pub count : length (after at all) + n ≤ length all

-- the rows in the range are these
abbrev pub AreIn : {E : Type 0} → List ℕ → (E → List ℕ × List ℕ) → (E → Type 0) → Entries → List ℕ → List E → Type 0
AreIn prefix spell Can all from found = AllAre Can found × (ranged prefix (after from all) ≡ map spell found)

pub none_gone : {E : Type 0} {prefix : List ℕ} {spell : E → List ℕ × List ℕ} {Can : E → Type 0} {all : Entries}
    {from : List ℕ} → Gone prefix spell Can all from from 0 []
none_gone {all = all} {from = from} =
    record { can = tt; whole = refl; count = omega (arith, length-after from all) }

pub gone_at : {E : Type 0} {prefix : List ℕ} {spell : E → List ℕ × List ℕ} {Can : E → Type 0} {all : Entries}
    {from at key : List ℕ} {n : ℕ} {found read : List E} → at ≡ key → found ≡ read →
    Gone prefix spell Can all from at n found → Gone prefix spell Can all from key n read
gone_at {prefix = prefix} {spell = spell} {Can = Can} {all = all} {from = from} {key = key} {n = n} {found = found} k f
    a =
    subst (λ read. Gone prefix spell Can all from key n read) f
    (subst (λ key. Gone prefix spell Can all from key n found) k a)

pub all_in : {E : Type 0} {prefix : List ℕ} {spell : E → List ℕ × List ℕ} {Can : E → Type 0} {all : Entries}
    {from at : List ℕ} {n : ℕ} {found : List E} → Gone prefix spell Can all from at n found →
    ranged prefix (after at all) ≡ [] → AreIn prefix spell Can all from found
all_in {spell = spell} {found = found} gone none =
    (gone.can, sym gone.whole ∙ ap (λ es. map spell found ++ es) none ∙ append-nil (map spell found))

pub counted_in : {E : Type 0} {prefix : List ℕ} {spell : E → List ℕ × List ℕ} {Can : E → Type 0} {all : Entries}
    {from at : List ℕ} {n : ℕ} {found : List E} → Gone prefix spell Can all from at n found → length all ≤ n →
    AreIn prefix spell Can all from found
counted_in {prefix = prefix} {all = all} {at = at} gone counted =
    all_in gone (none_left prefix (after at all) (omega (arith, gone.count)))

map-snoc : {E : Type 0} (spell : E → List ℕ × List ℕ) (found : List E) (row : E) (es : Entries) →
    map spell (found ++ row ∷ []) ++ es ≡ map spell found ++ spell row ∷ es
map-snoc spell [] row es = refl
map-snoc spell (d ∷ ds) row es = ap (λ l. spell d ∷ l) (map-snoc spell ds row es)

pub gone_on : {E : Type 0} {prefix : List ℕ} {spell : E → List ℕ × List ℕ} {Can : E → Type 0} (space : Space)
    {from at : List ℕ} {e : List ℕ × List ℕ} {n : ℕ} {found : List E} (row : E) →
    Gone prefix spell Can (entries space) from at n found → Comes (entries space) at e →
    starts_with nat_eq e.0 prefix ≡ true → Can row → e ≡ spell row →
    Gone prefix spell Can (entries space) from e.0 (n + 1) (found ++ row ∷ [])
gone_on {E} {prefix} {spell} {Can} space {from} {at} {e} {n} {found} row gone next has can is = record {
  can = all_snoc Can found row gone.can can;
  whole = map-snoc spell found row (ranged prefix (after e.0 (entries space)))
      ∙ ap (λ d. map spell found ++ d ∷ ranged prefix (after e.0 (entries space))) (sym is)
      ∙ ap (λ es. map spell found ++ es) (sym (having prefix space next has)) ∙ gone.whole;
  count = fewer space n next gone.count;
}
