-- What the store of a new node holds that is given what another node has.
use Rattle.std.proofs.Common.{◌≡◌, ℕ, false, cond, List, [], ◌∷◌, Some, None, refl, sym, ap, subst, ◌∙◌, arith}
use Rattle.std.specs.Prelude.{◌==◌, Result, Ok, Err, IfErr}
use Rattle.std.specs.declared.cmp.Ordering.TheVariants.{Less}
use Rattle.std.proofs.lemmas.List.{length-append}
use Rattle.slon_base.specs.Codec.{number_bytes, IsText, AllAre}
use Rattle.slon_base.specs.Keeper.{Store, Kept, key_cmp}
use Rattle.slon_base.proofs.Order.{behind}
use Rattle.slon_base.proofs.Spelled.{length-number_bytes}
use Rattle.store_rows.specs.declared.stop.Stop.{Stop}
use Rattle.store_rows.specs.declared.stop.Stop.TheVariants.{Failed, NoMemory, BadRow, TooBig}
use Rattle.store_rows.specs.Rows.{IsId}
use Rattle.store_rows.specs.Scan.{ranged}
use Rattle.store_rows.specs.Space.{IsPending}
use Rattle.store_rows.specs.Steps.{IsOutside}
use Rattle.store_rows.proofs.Spaces.{empty_space}
use Rattle.slon_model.specs.Deeds.{Node, knowledge}
use Rattle.slon_model.specs.Membership.{joining}
use Rattle.slon_model.specs.Sessions.{Running}
use Rattle.set_config.specs.Holds.{HoldsConfig, pair_key}
use Rattle.event_store.specs.Formed.{Lacks, StopsAt, Reads}
use Rattle.event_store.specs.Giving.{AreConfirmations}
use Rattle.event_store.specs.Holds.{HoldsStreams, ShowsStreams}
use Rattle.event_store.specs.Streams.{Streams, streams_of, given}
use Rattle.event_store.proofs.Apart.{config_stays}
use Rattle.event_store.proofs.Deeds.{joining_gives}
use Rattle.event_store.proofs.Regular.{given_regular}
use Rattle.event_store.specs.Regular.{IsRegular}
use Rattle.event_store.proofs.Holding.{moved}
use Rattle.node_state.specs.Held.{NodeHeld, HoldsNode, IsMet}
use Rattle.node_state.proofs.Formed.{reads_as}
use Rattle.node_change.specs.Pairs.{with_pairs, put_pairs, pairs_of, copied}
use Rattle.node_change.proofs.Copies.{space_copied}
use Rattle.node_change.proofs.Naming.{Made}
use Rattle.node_change.proofs.Spaces.{IsElse, own_else, spare_else, no_stream}

-- ---- keys have bytes

id_some : (i : ℕ) → key_cmp [] (number_bytes i) ≡ Less
id_some i = behind [] (number_bytes i) (omega (arith, length-number_bytes i))

pair_some : (i : ℕ × ℕ) → key_cmp [] (pair_key i) ≡ Less
pair_some i =
    behind [] (pair_key i)
    (omega (arith, length-append (number_bytes i.0) (number_bytes i.1), length-number_bytes i.0))

-- ---- the copy

-- the spaces of what a new node is given: what is known of the cluster, and the streams but for the views
abbrev pub given_spaces : List ℕ
given_spaces = 4 ∷ 5 ∷ 6 ∷ 7 ∷ 8 ∷ 10 ∷ 11 ∷ 12 ∷ 13 ∷ 14 ∷ []

-- what is given of one store, in the other one
abbrev pub given_copy : Store → Store → Store
given_copy from to = copied given_spaces from to

other_copied : (spaces : List ℕ) (from to : Store) (space : ℕ) → AllAre (λ used. (space == used) ≡ false) spaces →
    copied spaces from to space ≡ to space
other_copied [] from to space other = refl
other_copied (used ∷ spaces) from to space other =
    other_copied spaces from (put_pairs used (pairs_of (from used)) to) space other.1
    ∙ (λ k. cond (other.0 k) (with_pairs (pairs_of (from used)) (to used)) (to space))

-- a space that is none of the node's is left
else_copied : (from to : Store) (space : ℕ) → IsElse space → given_copy from to space ≡ to space
else_copied from to space other = other_copied given_spaces from to space known
  where
    streams : AllAre (λ used. (space == used) ≡ false) (10 ∷ 11 ∷ 12 ∷ 13 ∷ 14 ∷ [])
    streams = (
      other 10 refl refl,
      (other 11 refl refl, (other 12 refl refl, (other 13 refl refl, (other 14 refl refl, tt)))),
    )

    known : AllAre (λ used. (space == used) ≡ false) given_spaces
    known = (
      other 4 refl refl,
      (other 5 refl refl, (other 6 refl refl, (other 7 refl refl, (other 8 refl refl, streams)))),
    )

config_copied : {n : Node} {m t : Store} → NodeHeld n m → HoldsNode None t →
    HoldsConfig (knowledge n).config (given_copy m t)
config_copied {m = m} {t = t} held none = record {
  nodes = space_copied (m 4) (t 4) id_some (none 4 refl) held.config.nodes;
  paths = space_copied (m 5) (t 5) pair_some (none 5 refl) held.config.paths;
  sets = space_copied (m 6) (t 6) id_some (none 6 refl) held.config.sets;
  tables = space_copied (m 7) (t 7) id_some (none 7 refl) held.config.tables;
  subscriptions = space_copied (m 8) (t 8) pair_some (none 8 refl) held.config.subscriptions;
  fences = space_copied (m 14) (t 14) id_some (none 14 refl) held.config.fences;
}

-- what a node has of the streams, without what it keeps of sets
abbrev pub bare_streams : Node → Streams
bare_streams n = record (streams_of n) { views = [] }

streams_copied : {n : Node} {m t : Store} → NodeHeld n m → HoldsNode None t →
    HoldsStreams (bare_streams n) (given_copy m t)
streams_copied {n} {m} {t} held none = record {
  views = moved (sym (none 9 refl)) (empty_space (λ set. refl));
  events = space_copied (m 10) (t 10) pair_some (none 10 refl) held.streams.events;
  confirmations = space_copied (m 11) (t 11) pair_some (none 11 refl) held.streams.confirmations;
  cleaned = space_copied (m 12) (t 12) id_some (none 12 refl) held.streams.cleaned;
  news = space_copied (m 13) (t 13) id_some (none 13 refl) held.streams.news;
}

-- what is pending once the spaces were copied
pub copy_pending : {n : Node} (m t : Store) (k : Kept) → k.pending ≡ Some (Some (given_copy m t)) → NodeHeld n m →
    HoldsNode None t → IsPending (ShowsStreams (given_copy m t) (bare_streams n)) k
copy_pending m t k is held none = record {
  store = given_copy m t;
  is = is;
  has = record { streams = streams_copied held none; others = λ space other. refl };
}

-- ---- the new node

-- A new node: the node that gives, which knows of it, with its store and that of the new node before and after it is
-- given the streams.
pub record Joined (n : Node) (new : ℕ) (run : Running) (m t mid : Store) : Type 0 where
  pub held : NodeHeld n m
  pub known : IsMet new (knowledge n).config
  pub none : HoldsNode None t
  pub can : IsId new × IsText run.cluster
  pub shows : ShowsStreams (given_copy m t) (given new (streams_of n)) mid

pub joined_made : {n : Node} {new : ℕ} {run : Running} {m t mid : Store} → Joined n new run m t mid →
    Made (joining new n run) t mid
joined_made {n} {new} {run} {m} {t} {mid} j =
    record { held = held; own = λ space own. stays space (own_else space own) }
  where
    stays : (space : ℕ) → IsElse space → mid space ≡ t space
    stays space other = j.shows.others space (no_stream space other) ∙ else_copied m t space other

    held : NodeHeld (joining new n run) mid
    held = record {
      id = j.can.0;
      cluster = j.can.1;
      config = config_stays (given_copy m t) mid (given new (streams_of n)) (knowledge n).config j.shows
          (config_copied j.held j.none);
      orderly = j.held.orderly;
      homes = j.held.homes;
      self = j.known;
      met = j.held.met;
      streams = subst (λ s. HoldsStreams s mid) (sym (joining_gives new n run)) j.shows.streams;
      log = moved (sym (j.shows.others 15 refl ∙ j.none 15 refl)) (empty_space (λ i. refl));
      status = omega arith;
      behind = j.held.behind;
      regular = subst IsRegular (sym (joining_gives new n run))
          (given_regular new (streams_of n) j.can.0 j.held.id j.held.regular);
      spare = λ space other spare. stays space (spare_else space spare) ∙ j.none space other;
    }

-- ---- what is read

-- the confirmations are in their form in one store exactly where they are in another one that has the same
pub same_reads : {T : Type 0} (m n : Store) (result : Result T Stop) → pairs_of (n 11) ≡ pairs_of (m 11) →
    Reads (Lacks 11 (AreConfirmations m)) result → Reads (Lacks 11 (AreConfirmations n)) result
same_reads m n result same =
    reads_as (Lacks 11 (AreConfirmations m)) (Lacks 11 (AreConfirmations n)) result
    (λ space lacks. (lacks.0, λ formed. lacks.1 (on m n same formed)))
    (λ space lacks. (lacks.0, λ formed. lacks.1 (on n m (sym same) formed)))
  where
    on : (m n : Store) → pairs_of (n 11) ≡ pairs_of (m 11) → AreConfirmations n → AreConfirmations m
    on m n same formed =
        record { rows = formed.rows; can = formed.can; spelled = ap (ranged []) (sym same) ∙ formed.spelled }

-- a stop for the store or for want of memory is no row
stops_outside : (handed : ℕ → Type 0) (stop : Stop) → IsOutside stop → StopsAt handed stop
stops_outside handed Failed outside = tt
stops_outside handed NoMemory outside = tt
stops_outside handed (BadRow space) outside = absurd outside
stops_outside handed (TooBig space) outside = outside

-- what is put behind a read hands over no other row
pub then_reads : {U : Type 0} (handed : ℕ → Type 0) (result : Result U Stop) → ((space : ℕ) → handed space → ⊥) →
    IfErr result IsOutside → Reads handed result
then_reads handed (Ok y) none only = none
then_reads handed (Err stop) none only = stops_outside handed stop only
