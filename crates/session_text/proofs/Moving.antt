-- What a reader of lines has moved from the bytes to come into a line.
use Rattle.std.proofs.Common.{◌≡◌, ℕ, ◌+◌, ◌-◌, ◌<◌, ◌≤◌, eqb, ltb, cond, Bool, true, false, List, [], ◌∷◌, ◌++◌}
use Rattle.std.proofs.Common.{length, get_or, take, drop, Option, Some, None, refl, sym, ap, ◌∙◌, arith, append_assoc}
use Rattle.std.proofs.Common.{length-append, inl, inr}
use Rattle.std.proofs.lemmas.Bool.{cases_lt}
use borrow.Author.Tests.{ltb-false}
use Rattle.std.proofs.lemmas.List.{append-nil, drop_all, take_all, take-take, take-append-le, take-append-drop}
use Rattle.std.proofs.lemmas.List.{length-take, nil_from_length}
use Rattle.std.specs.Str.Lines.{lines, strip_carriage_return}
use Rattle.slon_base.specs.Outside.{Filed, Reads, top}
use Rattle.std.specs.List.{slice_range}
use Rattle.std.proofs.lemmas.Slice.{between_from_start}
use Rattle.session_text.specs.declared.line_reader.NextLine.{NextLine}
use Rattle.session_text.specs.declared.line_reader.NextLine.TheVariants.{Line, TooLong, End}
use Rattle.session_text.specs.Reading.{Reading, line_limit, line_size, session_limit}
use Rattle.session_text.specs.Handing.{front, behind, Stays, Comes, Breaks, Takes, Measures, Hands}
use Rattle.session_text.proofs.Lines.{front_open, front-append, behind-append, front-append_broken}
use Rattle.session_text.proofs.Lines.{behind-append_broken, lines_broken, lines_open, size_open, size_broken}
use Rattle.session_text.proofs.Lines.{drop-size_broken, size-append, size_more}

-- A call that hands over a line: how much of it is kept, the bytes to come, and how the reader stood.
pub record Call : Type 0 where
  pub kept : ℕ
  pub bytes : List ℕ
  pub old : Reading
  pub room : line_limit + 2 ≡ kept

-- the call that keeps as much as it can need
abbrev pub call : List ℕ → Reading → Call
call bytes old = record { kept = 8194; bytes = bytes; old = old; room = refl }

-- The line is what was moved, cut off, and holds no newline.
pub record Moved (k : Call) (line : List ℕ) (now : Reading) (files : Filed) : Type 0 where
  pub moved : List ℕ
  pub rest : List ℕ
  pub comes : Comes now files rest
  pub whole : moved ++ rest ≡ k.bytes
  pub unbroken : behind moved ≡ None
  pub cut : line ≡ take k.kept moved
  pub count : now.taken ≡ k.old.taken + length moved

-- More was read of the same bytes to come, or there are none.
pub record Fills (now : Reading) (before : Filed) : Type 0 where
  pub next : Reading
  pub after : Filed
  pub more : Bool
  pub comes : (bytes : List ℕ) → Comes now before bytes → Comes next after bytes × (more ≡ false → bytes ≡ [])
  pub taken : next.taken ≡ now.taken

abbrev pub fills : (now next : Reading) (before after : Filed) (more : Bool) →
    ((bytes : List ℕ) → Comes now before bytes → Comes next after bytes × (more ≡ false → bytes ≡ [])) →
    next.taken ≡ now.taken → Fills now before
fills now next before after more comes taken =
    record { next = next; after = after; more = more; comes = comes; taken = taken }

pub moved_filled : (k : Call) (line : List ℕ) (now : Reading) (before : Filed) → Moved k line now before →
    (f : Fills now before) → Moved k line f.next f.after
moved_filled k line now before m f =
    record {
      moved = m.moved;
      rest = m.rest;
      comes = (f.comes m.rest m.comes).0;
      whole = m.whole;
      unbroken = m.unbroken;
      cut = m.cut;
      count = f.taken ∙ m.count;
    }

-- the first line of the bytes to come passes a limit where that of those that are unread does
pub past : (limit : ℕ) (k : Call) (line : List ℕ) (now : Reading) (files : Filed) → Moved k line now files →
    limit < now.taken + line_size now.unread → limit < k.old.taken + line_size k.bytes
past limit k line now files m h =
    let left = m.comes.0 in
    let all : m.moved ++ (now.unread ++ left) ≡ k.bytes = ap (λ l. m.moved ++ l) (sym m.comes.2) ∙ m.whole in
    omega (
      arith,
      m.count,
      ap line_size all,
      size-append m.moved (now.unread ++ left) m.unbroken,
      size_more now.unread left,
    )

pub stays_on : (old now next : Filed) → Stays old now → Stays now next → Stays old next
stays_on old now next a b =
    record {
      faults = omega (arith, a.faults, b.faults);
      names = b.names ∙ a.names;
      depth = b.depth ∙ a.depth;
      others = b.others ∙ a.others;
    }

-- what is cut off once more
take_twice : (n : ℕ) (xs ys : List ℕ) → take n (take n xs ++ ys) ≡ take n (xs ++ ys)
take_twice n xs ys =
    elim (cases_lt n (length xs)) [
      | inl more ↦
          let long : n ≤ length (take n xs) = omega (arith, length-take n xs) in
          take-append-le n (take n xs) ys long ∙ take-take n n xs (omega arith)
          ∙ sym (take-append-le n xs ys (omega arith))
      | inr less ↦ ap (λ l. take n (l ++ ys)) (take_all n xs less)
    ]

-- What is taken of the bytes that are unread: the line grows by their front.
pub record Taking (kept : ℕ) : Type 0 where
  pub line : List ℕ
  pub added : List ℕ
  pub now : Reading
  pub next : Reading
  pub grows : added ≡ take kept (line ++ front now.unread)
  pub count : next.taken + length next.unread ≡ now.taken + length now.unread

abbrev pub taking : (kept : ℕ) (line added : List ℕ) (now next : Reading) →
    added ≡ take kept (line ++ front now.unread) → next.taken + length next.unread ≡ now.taken + length now.unread →
    Taking kept
taking kept line added now next grows count =
    record { line = line; added = added; now = now; next = next; grows = grows; count = count }

-- all that is unread was moved, and held no newline
pub moved_on : (k : Call) (t : Taking k.kept) (files : Filed) → Moved k t.line t.now files →
    behind t.now.unread ≡ None → t.next.unread ≡ [] → Moved k t.added t.next files
moved_on k t files m none empty =
    let unread = t.now.unread in
    record {
      moved = m.moved ++ unread;
      rest = m.comes.0;
      comes = (m.comes.0, m.comes.1, ap (λ l. l ++ m.comes.0) (sym empty));
      whole = append_assoc m.moved unread m.comes.0 ∙ ap (λ l. m.moved ++ l) (sym m.comes.2) ∙ m.whole;
      unbroken = behind-append m.moved unread m.unbroken ∙ none;
      cut = t.grows ∙ ap (λ l. take k.kept (t.line ++ l)) (front_open unread none)
          ∙ ap (λ l. take k.kept (l ++ unread)) m.cut ∙ take_twice k.kept m.moved unread;
      count = omega (arith, t.count, m.count, ap length empty, length-append m.moved unread);
    }

length-strip_by : (l : List ℕ) (b : Bool) → (length (cond b (take (length l - 1) l) l) ≤ length l)
    × (length l ≤ length (cond b (take (length l - 1) l) l) + 1)
length-strip_by l true = (omega (arith, length-take (length l - 1) l), omega (arith, length-take (length l - 1) l))
length-strip_by l false = (omega arith, omega arith)

length-strip : (l : List ℕ) → (length (strip_carriage_return l) ≤ length l)
    × (length l ≤ length (strip_carriage_return l) + 1)
length-strip l = length-strip_by l (eqb (get_or l (length l - 1) 0) 13)

-- a line that is cut off is the line, or it is too long, and so is the line
strip_short : (limit kept : ℕ) (line whole : List ℕ) → limit + 2 ≡ kept →
    line ≡ strip_carriage_return (take kept whole) → length line ≤ limit → strip_carriage_return whole ≡ line
strip_short limit kept line whole e cut short =
    elim (cases_lt kept (length whole)) [
      | inl more ↦ absurd (omega (arith, ap length cut, (length-strip (take kept whole)).1, length-take kept whole))
      | inr less ↦ ap strip_carriage_return (sym (take_all kept whole less)) ∙ sym cut
    ]

strip_long : (limit kept : ℕ) (line whole : List ℕ) → limit + 2 ≡ kept →
    line ≡ strip_carriage_return (take kept whole) → limit < length line → limit < length (strip_carriage_return whole)
strip_long limit kept line whole e cut long =
    elim (cases_lt kept (length whole)) [
      | inl more ↦ omega (arith, (length-strip whole).1)
      | inr less ↦ omega (arith, ap length (cut ∙ ap strip_carriage_return (take_all kept whole less)))
    ]

-- The line was moved up to its newline, which was passed.
pub record Ended (k : Call) (line : List ℕ) (now : Reading) (files : Filed) : Type 0 where
  pub whole : List ℕ
  pub rest : List ℕ
  pub comes : Comes now files rest
  pub broken : behind k.bytes ≡ Some rest
  pub first : lines k.bytes ≡ strip_carriage_return whole ∷ lines rest
  pub cut : line ≡ take k.kept whole
  pub count : now.taken + length rest ≡ k.old.taken + length k.bytes

pub ended : (k : Call) (t : Taking k.kept) (files : Filed) → Moved k t.line t.now files →
    behind t.now.unread ≡ Some t.next.unread → Ended k t.added t.next files
ended k t files m some =
    let left = m.comes.0 in
    let unread = t.now.unread in
    let behind_it = t.next.unread in
    let all : m.moved ++ (unread ++ left) ≡ k.bytes = ap (λ l. m.moved ++ l) (sym m.comes.2) ∙ m.whole in
    let first : front k.bytes ≡ m.moved ++ front unread =
    ap front (sym all) ∙ front-append m.moved (unread ++ left) m.unbroken
    ∙ ap (λ l. m.moved ++ l) (front-append_broken unread left behind_it some) in
    let behind_all : behind k.bytes ≡ Some (behind_it ++ left) =
    ap behind (sym all) ∙ behind-append m.moved (unread ++ left) m.unbroken
    ∙ behind-append_broken unread left behind_it some in
    record {
      whole = m.moved ++ front unread;
      rest = behind_it ++ left;
      comes = (left, m.comes.1, refl);
      broken = behind_all;
      first = lines_broken k.bytes (behind_it ++ left) behind_all
          ∙ ap (λ l. strip_carriage_return l ∷ lines (behind_it ++ left)) first;
      cut = t.grows ∙ ap (λ l. take k.kept (l ++ front unread)) m.cut ∙ take_twice k.kept m.moved (front unread);
      count =
          omega (
            arith,
            m.count,
            t.count,
            ap length all,
            length-append m.moved (unread ++ left),
            length-append unread left,
            length-append behind_it left,
          );
    }

hands_line : (k : Call) (line cut : List ℕ) (now : Reading) (files : Filed) → Ended k cut now files →
    line ≡ strip_carriage_return cut → length line ≤ line_limit → Hands line k.bytes k.old now files Line
hands_line k line cut now files m strip short = record {
  rest = m.rest;
  comes = m.comes;
  takes = m.first ∙ ap (λ l. l ∷ lines m.rest)
      (strip_short line_limit k.kept line m.whole k.room (strip ∙ ap strip_carriage_return m.cut) short);
  left = sym (drop-size_broken k.bytes m.rest m.broken);
  size = omega (arith, m.count, size_broken k.bytes m.rest m.broken);
  taken = m.count;
  none = λ e. cc;
}

hands_too_long : (k : Call) (line cut : List ℕ) (now : Reading) (files : Filed) → Ended k cut now files →
    line ≡ strip_carriage_return cut → line_limit < length line → Hands line k.bytes k.old now files TooLong
hands_too_long k line cut now files m strip long = record {
  rest = m.rest;
  comes = m.comes;
  takes = (
    strip_carriage_return m.whole,
    strip_long line_limit k.kept line m.whole k.room (strip ∙ ap strip_carriage_return m.cut) long,
    m.first,
  );
  left = sym (drop-size_broken k.bytes m.rest m.broken);
  size = omega (arith, m.count, size_broken k.bytes m.rest m.broken);
  taken = m.count;
  none = λ e. cc;
}

pub hands_ended : (k : Call) (line cut : List ℕ) (now : Reading) (files : Filed) (next : NextLine) →
    Ended k cut now files → (line ≡ strip_carriage_return cut) × Measures line next →
    Hands line k.bytes k.old now files next
hands_ended k line cut now files Line m (strip, short) = hands_line k line cut now files m strip short
hands_ended k line cut now files TooLong m (strip, long) = hands_too_long k line cut now files m strip long
hands_ended k line cut now files End m (strip, none) = absurd none

-- At the session's end nothing is to come.
pub record Over (k : Call) (line : List ℕ) (now : Reading) (files : Filed) : Type 0 where
  pub comes : Comes now files []
  pub unbroken : behind k.bytes ≡ None
  pub cut : line ≡ take k.kept k.bytes
  pub count : now.taken + 0 ≡ k.old.taken + length k.bytes

pub over : (k : Call) (line : List ℕ) (now : Reading) (before : Filed) → Moved k line now before →
    (f : Fills now before) → f.more ≡ false → Over k line f.next f.after
over k line now before m f none =
    let comes = f.comes m.rest m.comes in
    let empty : m.rest ≡ [] = comes.1 none in
    let left = comes.0 in
    let all : m.moved ≡ k.bytes = sym (append-nil m.moved) ∙ ap (λ l. m.moved ++ l) (sym empty) ∙ m.whole in
    record {
      comes = (left.0, left.1, sym empty ∙ left.2);
      unbroken = ap behind (sym all) ∙ m.unbroken;
      cut = m.cut ∙ ap (λ l. take k.kept l) all;
      count = omega (arith, m.count, f.taken, ap length all);
    }

over_left : (bytes : List ℕ) → behind bytes ≡ None → [] ≡ drop (line_size bytes) bytes
over_left bytes unbroken = sym (drop_all (line_size bytes) bytes (omega (arith, size_open bytes unbroken)))

-- at the session's end a line that is one, or is too long, is all that was to come
hands_over : (k : Call) (line : List ℕ) (now : Reading) (files : Filed) (m : Over k line now files)
    (next : NextLine) → Takes next line k.bytes [] → (next ≡ End → k.bytes ≡ []) →
    Hands line k.bytes k.old now files next
hands_over k line now files m next takes none =
    record {
      rest = [];
      comes = m.comes;
      takes = takes;
      left = over_left k.bytes m.unbroken;
      size = omega (arith, m.count, size_open k.bytes m.unbroken);
      taken = m.count;
      none = none;
    }

pub hands_end : (k : Call) (line : List ℕ) (now : Reading) (files : Filed) → Over k line now files → length line ≡ 0 →
    Hands line k.bytes k.old now files End
hands_end k line now files m empty =
    let none : k.bytes ≡ [] =
    nil_from_length k.bytes (omega (arith, k.room, ap length m.cut, length-take k.kept k.bytes)) in
    hands_over k line now files m End (ap lines none) (λ _. none)

last_line : (k : Call) (line : List ℕ) (now : Reading) (files : Filed) → Over k line now files →
    0 < length line → length line ≤ line_limit → Hands line k.bytes k.old now files Line
last_line k line now files m some short =
    let room = k.room in
    let long = ap length m.cut ∙ length-take k.kept k.bytes in
    let same : line ≡ k.bytes = m.cut ∙ take_all k.kept k.bytes (omega arith) in
    hands_over k line now files m Line (lines_open k.bytes m.unbroken (omega arith) ∙ ap (λ l. l ∷ []) (sym same))
    (λ e. cc)

last_too_long : (k : Call) (line : List ℕ) (now : Reading) (files : Filed) → Over k line now files →
    line_limit < length line → Hands line k.bytes k.old now files TooLong
last_too_long k line now files m long =
    let cut = ap length m.cut ∙ length-take k.kept k.bytes in
    hands_over k line now files m TooLong (k.bytes, omega arith, lines_open k.bytes m.unbroken (omega arith)) (λ e. cc)

pub hands_last : (k : Call) (line : List ℕ) (now : Reading) (files : Filed) (next : NextLine) → Over k line now files →
    0 < length line → Measures line next → Hands line k.bytes k.old now files next
hands_last k line now files Line m some short = last_line k line now files m some short
hands_last k line now files TooLong m some long = last_too_long k line now files m long
hands_last k line now files End m some none = absurd none

-- what was left before a reading that gave this number of bytes
pub read_on : (into : List ℕ) (n : ℕ) (before after : Option (List ℕ)) (left : List ℕ) → Reads into n before after →
    before ≡ Some left → (rest : List ℕ) × (after ≡ Some rest) × (left ≡ slice_range into 0 n ++ rest)
    × (n ≡ 0 → left ≡ [])
read_on into n None after left h told = cc
read_on into n (Some bytes) after left h told =
    let same : bytes ≡ left = cc in
    let part : slice_range into 0 n ≡ take n bytes = between_from_start into n ∙ h.0 in (
      drop n bytes,
      h.2,
      sym same ∙ sym (take-append-drop n bytes) ∙ ap (λ l. l ++ drop n bytes) (sym part),
      λ e. sym same ∙ h.3 e,
    )

-- Bytes that are read where nothing is unread.
pub record ReadOn (into : List ℕ) (n : ℕ) (bytes : List ℕ) : Type 0 where
  pub before : Option (List ℕ)
  pub after : Option (List ℕ)
  pub left : List ℕ
  pub reads : Reads into n before after
  pub told : before ≡ Some left
  pub all : bytes ≡ left

-- nothing is unread between places that have met
pub none_unread : (buffer unread bytes left : List ℕ) (start end : ℕ) → slice_range buffer start end ≡ unread →
    (end ≤ start) × (bytes ≡ unread ++ left) → bytes ≡ left
none_unread buffer unread bytes left start end u met =
    let zero : end - start ≡ 0 = omega arith in
    met.1 ∙ ap (λ l. l ++ left) (sym u ∙ ap (λ k. take k (drop start buffer)) zero)

-- a reader that has nothing unread read on
pub filled : (into items bytes : List ℕ) (n : ℕ) (more : Bool) (r : ReadOn into n bytes) → items ≡ into →
    more ≡ ltb 0 n →
    ((rest : List ℕ) × (r.after ≡ Some rest) × (bytes ≡ slice_range items 0 n ++ rest)) × (more ≡ false → bytes ≡ [])
filled into items bytes n more on same same_more =
    let r = read_on into n on.before on.after on.left on.reads on.told in (
      (r.0, r.1, on.all ∙ r.2 ∙ ap (λ l. slice_range l 0 n ++ r.0) (sym same)),
      λ e. on.all ∙ r.3 (omega (arith, ltb-false 0 n (sym same_more ∙ e))),
    )

-- the next read failed
pub broke : (k : Call) (line : List ℕ) (now : Reading) (before after : Filed) → Moved k line now before →
    (now.unread ≡ []) × (after.stack ≡ before.stack) → now.taken ≤ session_limit → Breaks k.bytes k.old.taken after
broke k line now before after m (none, same) small = record {
  part = m.moved;
  left = m.comes.0;
  whole = ap (λ l. m.moved ++ l) (ap (λ u. u ++ m.comes.0) (sym none) ∙ sym m.comes.2) ∙ m.whole;
  unended = m.unbroken;
  is = ap top same ∙ m.comes.1;
  within = omega (arith, m.count, small);
}
