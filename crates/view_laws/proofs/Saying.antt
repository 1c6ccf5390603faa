-- The kinds of events that a node emits and applies.
use Rattle.std.proofs.Common.{◌≡◌, ◌⊎◌, inl, inr, ℕ, Bool, true, false, refl}
use Rattle.node_rows.specs.declared.body.Body.{Body}
use Rattle.node_rows.specs.declared.body.Body.TheVariants.{Sync, StoreSet, SetAddTable, SubscribeSet}
use Rattle.node_rows.specs.declared.body.Body.TheVariants.{DropSet, EnableSubscription, UnsubscribeSet}
use Rattle.slon_model.specs.Config.{Config}
use Rattle.slon_model.specs.Deeds.{Node}
use Rattle.slon_model.specs.Sessions.{Seat, Emission}
use Rattle.stream_laws.specs.Making.{is_emitted}
use Rattle.stream_laws.proofs.Applies.{MayCome}
use Rattle.view_laws.proofs.Doing.{IsAllowed}
use Rattle.view_laws.proofs.Living.{Says, IsOfFeed}

-- ---- what a node emits

allowed_emitted : (s : Seat) (body : Body) → IsAllowed s body → is_emitted body ≡ true
allowed_emitted s (SetAddTable set table name comment) may = refl
allowed_emitted s (SubscribeSet set provider receiver forward) may = absurd may
allowed_emitted s (EnableSubscription set provider receiver forward era) may = absurd may
allowed_emitted s (UnsubscribeSet set receiver) may = refl
allowed_emitted s (DropSet set) may = refl
allowed_emitted s others may = may

feed_emitted : (s : Seat) (n : Node) (body : Body) → IsOfFeed s n body → is_emitted body ≡ true
feed_emitted s n Sync is = refl
feed_emitted s n (SubscribeSet set provider receiver forward) is = refl
feed_emitted s n (EnableSubscription set provider receiver forward era) is = refl
feed_emitted s n others is = absurd is

-- no event of a subscription but the first one stands alone
abbrev pub is_single : Body → Bool
is_single (SubscribeSet set provider receiver forward) = false
is_single (EnableSubscription set provider receiver forward era) = false
is_single others = true

allowed_single : (s : Seat) (body : Body) → IsAllowed s body → is_single body ≡ true
allowed_single s (SubscribeSet set provider receiver forward) may = absurd may
allowed_single s (EnableSubscription set provider receiver forward era) may = absurd may
allowed_single s others may = refl

pub says_single : (s : Seat) (n : Node) (m : Emission) → Says s n m →
    IsOfFeed s n m.body ⊎ (is_single m.body ≡ true)
says_single s n m (inl may) = inr (allowed_single s m.body may.1)
says_single s n m (inr feed) = inl feed

pub says_emitted : (s : Seat) (n : Node) (m : Emission) → Says s n m → is_emitted m.body ≡ true
says_emitted s n m (inl may) = allowed_emitted s m.body may.1
says_emitted s n m (inr feed) = feed_emitted s n m.body feed

pub may_emitted : (own : ℕ) (body : Body) (c : Config) → MayCome own body c → is_emitted body ≡ true
may_emitted own (StoreSet set origin comment) c may = refl
may_emitted own (SetAddTable set table name comment) c may = refl
may_emitted own (DropSet set) c may = refl
may_emitted own others c may = may
