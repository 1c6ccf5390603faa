-- Maps with keys of bytes, by look-ups: what a change at one key leaves.
use Rattle.std.proofs.Common.{◌≡◌, ℕ, Bool, true, false, cond, ◌&&◌, List, [], Option, Some, None, IsSome, Vec, Result}
use Rattle.std.proofs.Common.{Ok, Err, OnErr, bytes_eq, refl, sym, ◌∙◌, ap, subst}
use Rattle.std.specs.declared.alloc.Global.{Global}
use Rattle.std.specs.declared.cmp.Ordering.{Ordering}
use Rattle.std.specs.Ordering.{is_eq, nat_cmp}
use Rattle.std.specs.Cmp.Lexicographic.{slice_cmp, bytes_decides, nat_list_cmp_total, nat_list_eq_equiv}
use Rattle.std.proofs.lemmas.Map.Text.{is_eq-slice_cmp}
use Rattle.std.specs.Cmp.{eq_by_cmp_equiv}
use Rattle.std.specs.Map.{lookup, KeepsOthers}
use Rattle.std.specs.BTreeMap.{UpdatesBy, WritesThrough}
use Rattle.slon_base.specs.Keeper.{key_cmp}
use Rattle.txn_core.specs.LockMaps.{Keyed, at_key}

-- the order of the keys
abbrev pub vec_cmp : Vec ℕ Global → Vec ℕ Global → Ordering
vec_cmp x y = slice_cmp nat_cmp x.items y.items

pub whatever_failed : {T E P : Type 0} (r : Result T E) → P → OnErr r P
whatever_failed (Ok x) p = tt
whatever_failed (Err e) p = p

-- n is m with this value at the key
abbrev pub Turns : {V : Type 0} → List ℕ → Option V → Keyed V → Keyed V → Type 0
Turns key w m n = (q : List ℕ) → at_key q n ≡ cond (bytes_eq key q) w (at_key q m)

apart : (key q k : List ℕ) → bytes_eq key q ≡ false → is_eq (key_cmp key k) ≡ true → is_eq (key_cmp q k) ≡ false
apart key q k other same =
    is_eq-slice_cmp q k ∙ nat_list_eq_equiv.symm q k ∙ sym (nat_list_eq_equiv.congr key k q (sym (is_eq-slice_cmp key k)
    ∙ same)) ∙ other

pub turns_by : {V : Type 0} (key : List ℕ) (w : Option V) (m n : Keyed V) →
    UpdatesBy vec_cmp (λ k. key_cmp key k.items) m n w → Turns key w m n
unfolding KeepsOthers
turns_by key w m n u q =
    elim (bytes_eq key q) as (λ b. bytes_eq key q ≡ b → at_key q n ≡ cond b w (at_key q m)) [
      | true ↦ λ e. subst (λ x. at_key x n ≡ w) ((bytes_decides key q).0 e) u.1
      | false ↦ λ e. u.3 (λ k. is_eq (key_cmp q k.items))
          (λ x y. (eq_by_cmp_equiv nat_list_cmp_total).congr q x.items y.items) (λ k t. apart key q k.items e t)
    ] refl

-- A map after the value at one key was put.
pub record Turned (V : Type 0) : Type 0 where
  pub key : List ℕ
  pub value : V
  pub old : Keyed V
  pub new : Keyed V
  pub turns : Turns key (Some value) old new

abbrev pub turned : {V : Type 0} (key : List ℕ) (value : V) (old new : Keyed V) → Turns key (Some value) old new →
    Turned V
turned key value old new turns = record {
  key = key;
  value = value;
  old = old;
  new = new;
  turns = turns;
}

-- the same, written through what `get_mut` lends
pub written : {V : Type 0} (key : List ℕ) (old w : V) (m n : Keyed V) → Some old ≡ at_key key m →
    WritesThrough vec_cmp (λ k. key_cmp key k.items) m w n → Turns key (Some w) m n
written key old w m n e h = turns_by key (Some w) m n (h.3 (subst IsSome e refl))

pub same_entries : {V : Type 0} (q : List ℕ) (m n : Keyed V) → n.entries ≡ m.entries → at_key q n ≡ at_key q m
same_entries q m n e = ap (lookup (λ k. is_eq (key_cmp q k.items))) e

pub at_empty : {V : Type 0} (q : List ℕ) (m : Keyed V) → m.entries ≡ [] → at_key q m ≡ None
at_empty q m e = ap (lookup (λ k. is_eq (key_cmp q k.items))) e

-- what is read of the value at each key, after a change within the value at one key
pub within : {V W : Type 0} (f : Option V → W) (b : Bool) (w : W) (t : Turned V) (q : List ℕ) →
    f (Some t.value) ≡ cond b w (f (at_key t.key t.old)) →
    f (at_key q t.new) ≡ cond (bytes_eq t.key q && b) w (f (at_key q t.old))
within f b w t q h =
    ap f (t.turns q) ∙ elim (bytes_eq t.key q) as (λ s. bytes_eq t.key q ≡ s →
    f (cond s (Some t.value) (at_key q t.old)) ≡ cond (s && b) w (f (at_key q t.old))) [
      | true ↦ λ e. h ∙ ap (λ x. cond b w (f (at_key x t.old))) ((bytes_decides t.key q).0 e)
      | false ↦ λ e. refl
    ] refl

-- the same where the value at the key reads as before
pub within_same : {V W : Type 0} (f : Option V → W) (t : Turned V) (q : List ℕ) →
    f (Some t.value) ≡ f (at_key t.key t.old) → f (at_key q t.new) ≡ f (at_key q t.old)
within_same f t q h =
    ap f (t.turns q) ∙ elim (bytes_eq t.key q) as (λ s. bytes_eq t.key q ≡ s →
    f (cond s (Some t.value) (at_key q t.old)) ≡ f (at_key q t.old)) [
      | true ↦ λ e. h ∙ ap (λ x. f (at_key x t.old)) ((bytes_decides t.key q).0 e)
      | false ↦ λ e. refl
    ] refl
